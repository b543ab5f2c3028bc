-- Fields whose texts are under way once their lengths are read.
use Rattle.std.proofs.Common.{◌≡◌, ℕ, ◌+◌, ◌-◌, ◌≤◌, List, [], ◌∷◌, ◌++◌, length, take, drop, Result, Ok, Err, refl, sym, ap, subst, ◌∙◌, arith}
use Rattle.std.proofs.lemmas.List.{length-drop, drop-drop}
use Rattle.dbus_value_checker.proofs.Suspension.{take-both}
use Rattle.arrayvec.specs.ArrayVec.{ArrayVec}
use Rattle.dbus_texts.specs.Types.{STRING, SIGNATURE, TextType}
use Rattle.dbus_texts.specs.ComputedKinds.{type_spelled}
use Rattle.dbus_texts.specs.declared.text_kind.TextKind.{TextKind}
use Rattle.dbus_texts.specs.declared.text_kind.TextKind.TheVariants as kinds
use Rattle.dbus_value_model.specs.WantedTexts.{Of, Only}
use Rattle.dbus_value_model.specs.Bounds.{bounds_of}
use Rattle.dbus_value_model.specs.declared.stop.Stop.{Stop}
use Rattle.dbus_value_model.specs.declared.stop.Stop.TheVariants as stops
use Rattle.dbus_value_model.specs.Values.{ValueTree, TextValue}
use Rattle.dbus_value_model.specs.ValueItems.{text_row}
use Rattle.dbus_value_model.specs.Reading.{Reader, Outcome, Faulty, after, number}
use Rattle.dbus_message_model.specs.Messages.{Name, OfType, want}
use Rattle.dbus_header.specs.MessageItems.{name_row}
use Rattle.dbus_header.specs.HeaderReading.{value_wanted}
use Rattle.dbus_value_laws.proofs.ReadSteps.{same_after}
use Rattle.dbus_value_checker.specs.Suspended.{On, onward, done, ended_text, short_text}
use Rattle.dbus_value_checker.specs.Denotations as values
use Rattle.dbus_value_checker.specs.Fronts.{Fronts}
use Rattle.dbus_value_checker.specs.Moves.{Opens, text_on}
use Rattle.dbus_value_checker.specs.declared.values.ValueChecker.{ValueChecker}
use Rattle.dbus_check.specs.Heading.{Kept, kept_of, padded_number, fields_on}
use Rattle.dbus_check.specs.Progress.{To, Sees, Moves, Passes, WantsValue, WantsMore, WantsTypes, after_bytes}
use Rattle.dbus_check.specs.declared.progress.Progress.{Progress}
use Rattle.dbus_check.specs.declared.progress.Stage.TheVariants as stage
use Rattle.dbus_check.specs.declared.seen.Seen.{Seen}
use Rattle.dbus_check.proofs.Texts.{ended_within}
use Rattle.dbus_check.proofs.PassedFields.{the_kept, keeps_plain, plain_code, kept_text, signature_code}
use Rattle.dbus_check.proofs.FieldLaws.{name_begins, signature_begins, length_stops, length_there, length_same, text_refused, plain_kept, plain_same}

module _ (x : Progress) (code n : ℕ) (to : To) (w : WantsValue x code n to) (s rest : List ℕ) (rest_is : rest ≡ drop 3 s) where
  abbrev more : Kept → On
  more = fields_on x.limits x.order x.kind x.body w.turns x.end

  -- ---- a name

  module _ (kind : TextKind) (wanted : Name (Of kind) ≡ want code) (first : Fronts (λ (z : Unit {0}). (115 ∷ [], 3)) (x.offset + n) s (Ok tt) (short_text x.order x.end (Only (115 ∷ [])))) where
    abbrev pub sized : Reader ℕ
    sized = padded_number x.order x.end (name_row x.end)

    abbrev pub Sized : Result (ℕ × ℕ) Stop → Type 0
    Sized r = Fronts (λ (z : ℕ × ℕ). z) (x.offset + n + 3) rest r sized

    begins : (u : List ℕ) → after (value_wanted (bounds_of x.limits) x.order (x.limits.depth - 3) x.end (Name (Of kind)) (type_spelled (115 ∷ [])) (x.offset + n + 3) u) (λ v. more (kept_of w.kept code v)) ≡ after (sized (x.offset + n + 3) u) (λ size q v. after (ended_text (Of kind) size q v) (λ t. more (kept_of w.kept code (TextValue STRING t))))
    begins u = name_begins x.order x.end (bounds_of x.limits) (x.limits.depth - 3) (Of kind) (type_spelled (115 ∷ [])) (λ v. more (kept_of w.kept code v)) (x.offset + n + 3) u

    pub name_stops : (e : Stop) → Sized (Err e) → Moves x s (Err e) x to
    name_stops e h = length_stops x code n to w (Name (Of kind)) wanted s 115 refl first rest rest_is sized (Of kind) (TextValue STRING) begins (λ (z : ℕ × ℕ). z) e h

    module _ (size taken : ℕ) (second : Sized (Ok (size, taken))) (o : ℕ) (o_is : o ≡ x.offset + n + 3 + taken) where
      pub name_there : 3 + taken ≤ length s
      name_there = length_there x code n to w (Name (Of kind)) wanted s 115 refl first rest rest_is sized (Of kind) (TextValue STRING) begins (λ (z : ℕ × ℕ). z) (size, taken) second

      -- all of it is there
      pub name_passes : (seen : Seen) → Sees seen (code ∷ w.kept.codes) → (u : List ℕ) → u ≡ drop taken rest → Fronts (λ (z : Unit {0}). (take size u, size + 1)) o u (Ok tt) (ended_text (Of kind) size) → o + (size + 1) ≤ x.end
          → Passes x s (Ok (3 + taken + (size + 1))) (record x { seen = seen; offset = o + (size + 1) }) to
      name_passes seen sees u u_is third fits =
          let plain = plain_code (Name (Of kind)) code wanted (λ e. cc) (λ e. cc) in
          let kept = plain_kept x code n to w plain in
          let turns_is = w.turns_is in
          let all : u ≡ drop (3 + taken) s = u_is ∙ ap (drop taken) rest_is ∙ drop-drop taken 3 s in
          let l = ap length all ∙ length-drop (3 + taken) s in
          let there = name_there in
          let long = third.0 in (
            omega (arith, l, there, long),
            record {
              kept = kept;
              turns = w.turns;
              keeps = keeps_plain x (record x { seen = seen; offset = o + (size + 1) }) w.kept code w.keeps sees refl refl;
              low = fits;
              turns_is = omega (arith, turns_is, o_is);
              near = w.near;
              same = λ c.
                  plain_same x code n to w plain (TextValue STRING (take size u)) (o + (size + 1)) c
                  ∙ sym (ap (λ (r : Outcome (List ℕ)). after r (λ t. more (kept_of w.kept code (TextValue STRING t)))) (third.1 c))
                  ∙ ap (λ (p : ℕ). after (ended_text (Of kind) size p (take (size + 1) u ++ c)) (λ t. more (kept_of w.kept code (TextValue STRING t)))) o_is
                  ∙ length_same x code n to w (Name (Of kind)) wanted s 115 refl first rest rest_is sized (Of kind) (TextValue STRING) begins (λ (z : ℕ × ℕ). z) (size, taken) second (take (size + 1) u ++ c)
                  ∙ ap (λ (v : List ℕ). to (take (3 + taken) s ++ (take (size + 1) v ++ c))) all
                  ∙ ap to (sym (take-both (3 + taken) (size + 1) s c there));
            },
          )

      pub name_broken : (e : Stop) (v : ValueChecker) (y : Progress) → ((last : On) → Opens (Err e) v (text_on kind size last o)) → Moves x s (Err e) y to
      name_broken stops.Partial v y h = absurd (h done)
      name_broken (stops.Refused f) v y h = text_refused x code n to w (Name (Of kind)) wanted s 115 refl first rest rest_is sized (Of kind) (TextValue STRING) begins (λ (z : ℕ × ℕ). z) (size, taken) second f
          (λ c. subst (λ (p : ℕ). onward (ended_text (Of kind) size) done p c ≡ Faulty f) o_is (h done c))

      pub name_goes : (seen : Seen) (v : ValueChecker) → Sees seen (code ∷ w.kept.codes) → ((last : On) → values.Denotes v (text_on kind size last o)) → o + size + 1 ≤ x.end
          → WantsMore (record x { seen = seen; offset = o; values = v; stage = stage.Value }) (after_bytes to (take (3 + taken) s))
      name_goes seen v sees begun fits =
          let plain = plain_code (Name (Of kind)) code wanted (λ e. cc) (λ e. cc) in
          let kept = plain_kept x code n to w plain in
          let turns_is = w.turns_is in
          record {
            kept = kept;
            turns = w.turns;
            keeps = keeps_plain x (record x { seen = seen; offset = o; values = v; stage = stage.Value }) w.kept code w.keeps sees refl refl;
            flows = record {
              run = onward (ended_text (Of kind) size);
              start = o;
              given = [];
              bytes = tt;
              within = ended_within (Of kind) size o x.end fits;
              same = λ c.
                  same_after (ended_text (Of kind) size o c) (λ t. more kept) (λ t. more (kept_of w.kept code (TextValue STRING t))) (λ t p u. plain_same x code n to w plain (TextValue STRING t) p u)
                  ∙ ap (λ (p : ℕ). after (ended_text (Of kind) size p c) (λ t. more (kept_of w.kept code (TextValue STRING t)))) o_is
                  ∙ length_same x code n to w (Name (Of kind)) wanted s 115 refl first rest rest_is sized (Of kind) (TextValue STRING) begins (λ (z : ℕ × ℕ). z) (size, taken) second c;
              value = begun;
            };
            turns_is = omega (arith, turns_is, o_is);
            near = w.near;
          }

  -- ---- the body's signature

  module _ (wanted : OfType (TextType SIGNATURE) ≡ want code) (first : Fronts (λ (z : Unit {0}). (103 ∷ [], 3)) (x.offset + n) s (Ok tt) (short_text x.order x.end (Only (103 ∷ [])))) (low : x.offset + n + 3 ≤ x.end) where
    abbrev pub counted : Reader ℕ
    counted = number x.order 1 x.end (text_row x.end)

    abbrev pub Counted : Result ℕ Stop → Type 0
    Counted r = Fronts (λ (z : ℕ). (z, 1)) (x.offset + n + 3) rest r counted

    starts : (u : List ℕ) → after (value_wanted (bounds_of x.limits) x.order (x.limits.depth - 3) x.end (OfType (TextType SIGNATURE)) (type_spelled (103 ∷ [])) (x.offset + n + 3) u) (λ v. more (kept_of w.kept code v)) ≡ after (counted (x.offset + n + 3) u) (λ size q v. after (ended_text (Of kinds.Signature) size q v) (λ t. more (kept_of w.kept code (TextValue SIGNATURE t))))
    starts u = signature_begins x.order x.end (bounds_of x.limits) (x.limits.depth - 3) (λ v. more (kept_of w.kept code v)) (x.offset + n + 3) u low

    pub types_stops : (e : Stop) → Counted (Err e) → Moves x s (Err e) x to
    types_stops e h = length_stops x code n to w (OfType (TextType SIGNATURE)) wanted s 103 refl first rest rest_is counted (Of kinds.Signature) (TextValue SIGNATURE) starts (λ (z : ℕ). (z, 1)) e h

    module _ (size : ℕ) (second : Counted (Ok size)) (o : ℕ) (o_is : o ≡ x.offset + n + 3 + 1) where
      pub types_there : 4 ≤ length s
      types_there = length_there x code n to w (OfType (TextType SIGNATURE)) wanted s 103 refl first rest rest_is counted (Of kinds.Signature) (TextValue SIGNATURE) starts (λ (z : ℕ). (z, 1)) size second

      pub types_broken : (e : Stop) (v : ValueChecker) (y : Progress) → ((last : On) → Opens (Err e) v (text_on kinds.Signature size last o)) → Moves x s (Err e) y to
      types_broken stops.Partial v y h = absurd (h done)
      types_broken (stops.Refused f) v y h = text_refused x code n to w (OfType (TextType SIGNATURE)) wanted s 103 refl first rest rest_is counted (Of kinds.Signature) (TextValue SIGNATURE) starts (λ (z : ℕ). (z, 1)) size second f
          (λ c. subst (λ (p : ℕ). onward (ended_text (Of kinds.Signature) size) done p c ≡ Faulty f) o_is (h done c))

      pub types_go : (seen : Seen) (signature : ArrayVec ℕ) (v : ValueChecker) → Sees seen (code ∷ w.kept.codes) → signature.items ≡ [] → ((last : On) → values.Denotes v (text_on kinds.Signature size last o)) → size ≤ 255 → o + size + 1 ≤ x.end
          → WantsTypes (record x { seen = seen; signature = signature; offset = o; values = v; stage = stage.Types }) (after_bytes to (take 4 s))
      types_go seen signature v sees none begun few fits =
          let eight = signature_code code wanted in
          let turns_is = w.turns_is in
          let kept_is : (t : List ℕ) → the_kept (8 ∷ w.kept.codes) t w.kept.count ≡ kept_of w.kept code (TextValue SIGNATURE t) = λ t.
          ap (λ (c : ℕ). the_kept (c ∷ w.kept.codes) t w.kept.count) (sym eight) ∙ sym (kept_text w.kept code w.keeps.no_text w.keeps.no_count (TextValue SIGNATURE t) eight w.once) in
          record {
            kept = w.kept;
            turns = w.turns;
            size = size;
            start = o;
            sees = subst (λ (c : ℕ). Sees seen (c ∷ w.kept.codes)) eight sees;
            count = w.keeps.count;
            no_count = w.keeps.no_count;
            few = few;
            fits = fits;
            turns_is = omega (arith, turns_is, o_is);
            near = w.near;
            same = λ c.
                ap (λ (u : List ℕ). after (ended_text (Of kinds.Signature) size o (u ++ c)) (λ t. more (the_kept (8 ∷ w.kept.codes) t w.kept.count))) none
                ∙ same_after (ended_text (Of kinds.Signature) size o c) (λ t. more (the_kept (8 ∷ w.kept.codes) t w.kept.count)) (λ t. more (kept_of w.kept code (TextValue SIGNATURE t))) (λ t p u. ap (λ (k : Kept). more k p u) (kept_is t))
                ∙ ap (λ (p : ℕ). after (ended_text (Of kinds.Signature) size p c) (λ t. more (kept_of w.kept code (TextValue SIGNATURE t)))) o_is
                ∙ length_same x code n to w (OfType (TextType SIGNATURE)) wanted s 103 refl first rest rest_is counted (Of kinds.Signature) (TextValue SIGNATURE) starts (λ (z : ℕ). (z, 1)) size second c;
            value = λ next. subst (λ (u : List ℕ). values.Denotes v (record { last = next; to = λ c. onward (ended_text (Of kinds.Signature) size) next o (u ++ c) })) (sym none) (begun next);
          }
