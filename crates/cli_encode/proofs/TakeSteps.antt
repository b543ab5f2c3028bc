-- The steps in which a line is taken.
use Rattle.std.proofs.Common.{◌≡◌, ◌+◌, ℕ, Bool, true, false, List, [], Option, Result, Ok, Err, Some, Bor, inl, inr, refl, sym, ap, ◌∙◌, subst}
use Rattle.std.specs.Prelude.{◌||◌, IsTrue, ◌↔◌, option_map, length, ◌≤◌}
use Rattle.dbus_device.specs.Device.{Stopped}
use Rattle.cli_report.specs.Gathering.{Breaks, Passes, gathered_bytes}
use Rattle.cli_report.specs.declared.ending.Cause.TheVariants.{Memory, ReadFailed, WriteFailed, TooManyReads}
use Rattle.dbus_lines.specs.Gathering.{IsWithin}
use Rattle.dbus_json_lines.specs.JsonLines.{IsBlank}
use Rattle.dbus_json_lines.specs.LineFaults.{IsPlaceOf}
use Rattle.dbus_json_lines.specs.declared.fault.LineFault.{LineFault}
use Rattle.cli_encode.specs.Outcomes.{Outcome, Refused, Written, IsOutcome, bytes_of, is_refused, next_serial, refused_text, serial_after, text_of}
use Rattle.cli_encode.specs.Running.{TellsLine}
use Rattle.cli_encode.specs.Steps.{SameState, TakesLine}
use Rattle.cli_encode.specs.declared.encoder.Encoder.{Encoder}
use Rattle.cli_encode.specs.declared.encoding.Encoding.{Encoding}
use Rattle.cli_encode.specs.declared.ending.Stop.{Stop}
use Rattle.cli_encode.specs.declared.ending.Stop.TheVariants.{Cause as ByCause, Untold}
use Rattle.cli_encode.specs.declared.reason.Refusal.{Refusal}

-- the line is within the limit
pub within : (most : ℕ) (bytes : List ℕ) (line : Option (Bor (List ℕ))) (there : Bor (List ℕ)) → line ≡ Some there → IsWithin most bytes (option_map (λ l. l.now) line)
    → (there.now ≡ bytes) × (length bytes ≤ most)
within most bytes line there e h = subst (λ (l : Option (Bor (List ℕ))). IsWithin most bytes (option_map (λ x. x.now) l)) e h

-- where it is refused
pub place_of : (line : List ℕ) (f : LineFault) → IsPlaceOf line f → IsPlaceOf line (record { reason = f.reason; at = f.at })
place_of line f h = record { within = h.within; not_utf8 = h.not_utf8; only_not_utf8 = h.only_not_utf8; not_json = h.not_json; only_not_json = h.only_not_json; token = h.token }

-- it is not blank
pub not_blank : (blank : Bool) (line bytes : List ℕ) → line ≡ bytes → blank ≡ false → IsTrue blank ↔ IsBlank line → IsBlank bytes → ⊥
not_blank blank line bytes e dark tells is = let yes : blank ≡ true = tells.1 (subst IsBlank (sym e) is) in let wrong : true ≡ false = sym yes ∙ dark in cc

pub or_false : (a : Bool) → a ≡ (a || false)
or_false true = refl
or_false false = refl

or_true : (a : Bool) → true ≡ (a || true)
or_true true = refl
or_true false = refl

-- a line is refused if one is, and none was before
pub newly : (before done : Bool) → before ≡ false → (before || done) ≡ true → done ≡ true
newly true done e f = let wrong : true ≡ false = e in cc
newly false done e f = f

module _ {A W E : Type 0} (held : W → Option (List ℕ)) (failures : W → ℕ) (second_held : E → Option (List ℕ)) (second_failures : E → ℕ) where
  -- a line is refused, and told
  pub takes_refused : (line : List ℕ) (why : Refusal) (explained : List ℕ) (old new : Encoder A) (w0 w1 : W) (e0 e1 : E) (result : Result (Unit {0}) Stop) → IsOutcome old.encoding old.serial line (Refused why explained)
      → new.encoding ≡ old.encoding → new.number ≡ old.number + 1 → new.serial ≡ next_serial old.serial → new.refused ≡ true
      → Passes held failures [] (gathered_bytes old.gathered) (gathered_bytes new.gathered) w0 w1 → gathered_bytes new.gathered ≡ []
      → TellsLine second_held second_failures (refused_text new.number why explained) e0 e1 result → TakesLine held failures second_held second_failures line old new w0 w1 e0 e1 result
  takes_refused line why explained old new w0 w1 e0 e1 (Ok x) is encoding number serial refused p none t = (
    Refused why explained,
    record {
      is = is;
      encoding = encoding;
      number = number;
      serial = serial;
      refused = refused ∙ or_true old.refused;
      passes = p;
      settled = λ _. none;
      tells = t;
    },
  )
  takes_refused line why explained old new w0 w1 e0 e1 (Err (ByCause Memory)) is encoding number serial refused p none t =
      (subst (λ (g : List ℕ). Passes held failures [] (gathered_bytes old.gathered) g w0 w1) none p, t)
  takes_refused line why explained old new w0 w1 e0 e1 (Err (ByCause ReadFailed)) is encoding number serial refused p none t = absurd t
  takes_refused line why explained old new w0 w1 e0 e1 (Err (ByCause WriteFailed)) is encoding number serial refused p none t = absurd t
  takes_refused line why explained old new w0 w1 e0 e1 (Err (ByCause TooManyReads)) is encoding number serial refused p none t = absurd t
  takes_refused line why explained old new w0 w1 e0 e1 (Err Untold) is encoding number serial refused p none (n, s) = (
    Refused why explained,
    is,
    subst (λ (g : List ℕ). Passes held failures [] (gathered_bytes old.gathered) g w0 w1) none p,
    (n, subst (λ (k : ℕ). Stopped second_held second_failures e0 (refused_text k why explained) n e1) number s),
  )

  is_outcome : (line : List ℕ) (old mid : Encoder A) → SameState old mid → (done : Outcome) → IsOutcome mid.encoding mid.serial line done → IsOutcome old.encoding old.serial line done
  is_outcome line old mid same done is = subst (λ (n : ℕ). IsOutcome old.encoding n line done) same.serial (subst (λ (c : Encoding). IsOutcome c mid.serial line done) same.encoding is)

  -- what becomes of a line does not depend on the room that an encoder has
  pub takes_same : (line : List ℕ) (old mid new : Encoder A) (w0 w1 : W) (e0 e1 : E) (result : Result (Unit {0}) Stop) → SameState old mid → gathered_bytes mid.gathered ≡ gathered_bytes old.gathered
      → TakesLine held failures second_held second_failures line mid new w0 w1 e0 e1 result → TakesLine held failures second_held second_failures line old new w0 w1 e0 e1 result
  takes_same line old mid new w0 w1 e0 e1 (Ok x) same gathered (done, t) = (
    done,
    record {
      is = is_outcome line old mid same done t.is;
      encoding = t.encoding ∙ same.encoding;
      number = t.number ∙ ap (λ n. n + 1) same.number;
      serial = t.serial ∙ ap (λ n. serial_after done n) same.serial;
      refused = t.refused ∙ ap (λ b. b || is_refused done) same.refused;
      passes = subst (λ (g : List ℕ). Passes held failures (bytes_of done) g (gathered_bytes new.gathered) w0 w1) gathered t.passes;
      settled = t.settled;
      tells = t.tells;
    },
  )
  takes_same line old mid new w0 w1 e0 e1 (Err (ByCause Memory)) same gathered (p, e) = (subst (λ (g : List ℕ). Passes held failures [] g [] w0 w1) gathered p, e)
  takes_same line old mid new w0 w1 e0 e1 (Err (ByCause ReadFailed)) same gathered t = absurd t
  takes_same line old mid new w0 w1 e0 e1 (Err (ByCause TooManyReads)) same gathered t = absurd t
  takes_same line old mid new w0 w1 e0 e1 (Err (ByCause WriteFailed)) same gathered (e, inl b) = (e, inl (subst (λ (g : List ℕ). Breaks held failures [] g w0 w1) gathered b))
  takes_same line old mid new w0 w1 e0 e1 (Err (ByCause WriteFailed)) same gathered (e, inr (bytes, is, b)) =
      (e, inr (bytes, is_outcome line old mid same (Written bytes) is, subst (λ (g : List ℕ). Breaks held failures bytes g w0 w1) gathered b))
  takes_same line old mid new w0 w1 e0 e1 (Err Untold) same gathered (done, is, p, (n, s)) = (
    done,
    is_outcome line old mid same done is,
    subst (λ (g : List ℕ). Passes held failures (bytes_of done) g [] w0 w1) gathered p,
    (n, subst (λ (k : ℕ). Stopped second_held second_failures e0 (text_of (k + 1) done) n e1) same.number s),
  )
