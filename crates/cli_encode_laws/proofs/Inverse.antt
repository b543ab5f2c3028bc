-- What becomes of the lines that `json` writes.
use Rattle.std.proofs.Common.{◌≡◌, ℕ, ◌++◌, false, List, [], ◌∷◌, get_or, None, codes, refl, sym, ap, ap₂, ◌∙◌, subst, arith}
use Rattle.std.proofs.lemmas.Bool.{true≢false}
use Rattle.std.proofs.lemmas.List.Sums.{list_all-from_AllPass}
use Rattle.std.specs.List.{flat_map}
use Rattle.json.specs.Word.{is_space}
use Rattle.dbus_message_model.specs.Messages.{message_bytes}
use Rattle.dbus_json.specs.JsonIntegers.{integers_of}
use Rattle.dbus_json_lines.specs.JsonLines.{IsBlank, IsLineOf}
use Rattle.dbus_json_laws.proofs.KeptLines.{line_kept, one_message_of}
use Rattle.cli_encode.specs.Outcomes.{Outcome, Written, Passed, Refused, Encodes, IsOutcome, IsRefused, AreOutcomes, all_bytes, any_refused, next_serial, order_in, serial_after}
use Rattle.cli_encode.specs.declared.encoding.Encoding.{Encoding}
use Rattle.cli_encode.specs.declared.reason.LineReason.{LineReason}
use Rattle.cli_encode.specs.declared.reason.LineReason.TheVariants.{TooLong, Unspelled}
use Rattle.cli_encode_laws.specs.Inverse.{PlacedMessage, IsItsLine, AreTheirLines, IsEachWritten, IsInverse, all_written, bytes_of}

-- a line that begins with a brace
braced : (line rest : List ℕ) → line ++ codes "\n" ≡ 123 ∷ rest → IsBlank line → ⊥
braced [] rest e blank = let first : 10 ≡ 123 = ap (λ (l : List ℕ). get_or l 0 0) e in omega (arith, first)
braced (c ∷ line) rest e blank =
    let first : c ≡ 123 = ap (λ (l : List ℕ). get_or l 0 0) e in
    true≢false (sym (list_all-from_AllPass is_space (123 ∷ line) (subst (λ (x : ℕ). IsBlank (x ∷ line)) first blank)))

module _ (encoding : Encoding) (kept : encoding.order ≡ None) where
  -- ---- one line

  spelled : (serial : ℕ) (m : PlacedMessage) (line : List ℕ) → IsItsLine encoding m line → IsLineOf (integers_of encoding.safe_integers) encoding.limits serial line m.order m.message
  spelled serial m line h = line_kept (integers_of encoding.safe_integers) encoding.limits serial m.order m.message m.place line h.valid h.number_in h.offset_in h.json

  encodes : (serial : ℕ) (m : PlacedMessage) (line : List ℕ) → IsItsLine encoding m line → Encodes encoding serial line (bytes_of m)
  encodes serial m line h = record { order = m.order; message = m.message; spelled = spelled serial m line h; encoded = ap (λ o. message_bytes (order_in o m.order) m.message) (sym kept) }

  not_blank : (m : PlacedMessage) (line : List ℕ) → IsItsLine encoding m line → IsBlank line → ⊥
  not_blank m line h = braced line _ h.json.is

  is_written : (serial : ℕ) (m : PlacedMessage) (line : List ℕ) → IsItsLine encoding m line → IsOutcome encoding serial line (Written (bytes_of m))
  is_written serial m line h = (h.short, not_blank m line h, encodes serial m line h)

  never_refused : (serial : ℕ) (m : PlacedMessage) (line : List ℕ) (reason : LineReason) (at : ℕ) → IsItsLine encoding m line → IsRefused encoding serial line reason at → ⊥
  never_refused serial m line TooLong at h is = let short = h.short in let long = is.0 in omega (arith, short, long)
  never_refused serial m line (Unspelled why) at h is = is.2 (bytes_of m) (encodes serial m line h)

  only_written : (serial : ℕ) (m : PlacedMessage) (line : List ℕ) (o : Outcome) → IsItsLine encoding m line → IsOutcome encoding serial line o → o ≡ Written (bytes_of m)
  only_written serial m line (Written bytes) h is =
      let e = is.2 in
      let same = one_message_of (integers_of encoding.safe_integers) encoding.limits encoding.limits serial e.order m.order e.message m.message line e.spelled (spelled serial m line h) in
      ap Written (e.encoded ∙ ap (λ o. message_bytes (order_in o e.order) e.message) kept ∙ ap₂ message_bytes same.0 same.1)
  only_written serial m line Passed h is = absurd (not_blank m line h is.1)
  only_written serial m line (Refused why explained) h is = absurd (never_refused serial m line why.reason why.at h is.0)

  -- ---- all lines

  pub are_written : (serial : ℕ) (ms : List PlacedMessage) (lines : List (List ℕ)) → AreTheirLines encoding ms lines → AreOutcomes encoding serial lines (all_written ms)
  are_written serial [] [] h = tt
  are_written serial [] (line ∷ lines) h = absurd h
  are_written serial (m ∷ ms) [] h = absurd h
  are_written serial (m ∷ ms) (line ∷ lines) h = (is_written serial m line h.0, are_written (next_serial serial) ms lines h.1)

  are_only_written : (serial : ℕ) (ms : List PlacedMessage) (lines : List (List ℕ)) (os : List Outcome) → AreTheirLines encoding ms lines → AreOutcomes encoding serial lines os → os ≡ all_written ms
  are_only_written serial [] [] [] h is = refl
  are_only_written serial [] [] (o ∷ os) h is = absurd is
  are_only_written serial [] (line ∷ lines) os h is = absurd h
  are_only_written serial (m ∷ ms) [] os h is = absurd h
  are_only_written serial (m ∷ ms) (line ∷ lines) [] h is = absurd is
  are_only_written serial (m ∷ ms) (line ∷ lines) (o ∷ os) h is =
      ap₂ (λ (x : Outcome) (xs : List Outcome). x ∷ xs) (only_written serial m line o h.0 is.0) (are_only_written (serial_after o serial) ms lines os h.1 is.1)

-- ---- what is written

pub bytes_written : (ms : List PlacedMessage) → all_bytes (all_written ms) ≡ flat_map bytes_of ms
bytes_written [] = refl
bytes_written (m ∷ ms) = ap (λ (l : List ℕ). bytes_of m ++ l) (bytes_written ms)

pub none_refused : (ms : List PlacedMessage) → any_refused (all_written ms) ≡ false
none_refused [] = refl
none_refused (m ∷ ms) = none_refused ms

pub each_written : IsEachWritten
each_written encoding serial ms lines kept h outcomes =
    (are_only_written encoding kept serial ms lines outcomes h, λ e. subst (AreOutcomes encoding serial lines) (sym e) (are_written encoding kept serial ms lines h))

pub inverse : IsInverse
inverse encoding serial ms lines kept h outcomes is =
    let e = are_only_written encoding kept serial ms lines outcomes h is in
    (ap all_bytes e ∙ bytes_written ms, ap any_refused e ∙ none_refused ms)
