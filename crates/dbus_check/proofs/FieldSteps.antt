-- The parts of a header's field, front by front.
use Rattle.std.proofs.Common.{◌≡◌, ℕ, zero, suc, ◌+◌, ◌-◌, ◌<◌, ◌≤◌, List, ◌++◌, take, drop, Bool, true, false, ◌&&◌, cond, eqb, Option, Some, None, Ok, refl, sym, ap, ◌∙◌, arith, Result, Err, [], ◌∷◌, length, get_or, subst}
use Rattle.std.proofs.lemmas.Bool.{lt-ltb, le-ltb, eq-eqb, ne_eqb}
use Rattle.std.specs.Prelude.{IfOk}
use Rattle.std.proofs.lemmas.List.{length-take}
use Rattle.dbus_value_model.specs.declared.limits.Limits.{Limits}
use Rattle.dbus_value_model.specs.declared.order.Order.{Order}
use Rattle.dbus_value_model.specs.declared.fault.Reason.{Reason}
use Rattle.dbus_value_model.specs.declared.fault.Reason.TheVariants as reasons
use Rattle.dbus_value_model.specs.declared.stop.Stop.{Stop}
use Rattle.dbus_value_model.specs.declared.stop.Stop.TheVariants as stops
use Rattle.dbus_value_model.specs.Items.{fault}
use Rattle.dbus_value_model.specs.Reading.{Reader, Faulty, after, pure, padding, number, Outcome, Done, text}
use Rattle.dbus_value_model.specs.WantedTexts.{WantedText, Only, IsBreakOf, IsWanted}
use Rattle.dbus_message_model.specs.Messages.{is_known, want}
use Rattle.dbus_header.specs.MessageItems.{name_row}
use Rattle.dbus_header.specs.HeaderReading.{opening, wanted_value}
use Rattle.dbus_value_laws.proofs.ReadSteps.{same_after}
use Rattle.dbus_value_checker.specs.Fronts.{Halts, Fronts}
use Rattle.dbus_value_checker.specs.Suspended.{onward, done, ended_text, counted_text, On}
use Rattle.dbus_value_checker.proofs.Suspension.{halts_same, fronts_same, first_err, then_err, then_ok, front_as, forgotten}
use Rattle.dbus_value_model.specs.ComputedTexts.{break_at}
use Rattle.dbus_value_laws.proofs.KindLaws.{break_le, break_is}
use Rattle.dbus_value_checker.proofs.FrontSteps.{text_breaks_at, text_waits_at, text_unlike_at, text_there_at}
use Rattle.dbus_check.specs.Heading.{has, seen_row, field_code, padded_number, uint32_row, Kept, kept_of, field_on, fields_on}
use Rattle.dbus_check.specs.Progress.{To, WantsFields, Coded}
use Rattle.dbus_check.specs.declared.progress.Progress.{Progress}
use Rattle.dbus_check.proofs.FieldLaws.{field_begins}

-- ---- rows

pub name_fits : (end p n : ℕ) → n ≤ 255 → p + n + 1 ≤ end → name_row end p n ≡ None
name_fits end p n short h = rw (le-ltb 255 n short, le-ltb _ _ h) refl

pub name_past : (end p n : ℕ) → n ≤ 255 → end < p + n + 1 → name_row end p n ≡ Some reasons.Overrun
name_past end p n short h = rw (le-ltb 255 n short, lt-ltb _ _ h) refl

pub any_number : (serial : Bool) (p n : ℕ) → serial ≡ false → uint32_row serial p n ≡ None
any_number true p n e = absurd cc
any_number false p n e = refl

pub no_serial : (serial : Bool) (p n : ℕ) → serial ≡ true → n ≡ 0 → uint32_row serial p n ≡ Some reasons.ZeroSerial
no_serial true p n e h = rw (eq-eqb n 0 h) refl
no_serial false p n e h = absurd cc

pub some_serial : (serial : Bool) (p n : ℕ) → (n ≡ 0 → ⊥) → uint32_row serial p n ≡ None
some_serial true p n h = rw (ne_eqb n 0 h) refl
some_serial false p n h = refl

pub no_code : (codes : List ℕ) (p n : ℕ) → n ≡ 0 → seen_row codes p n ≡ Some reasons.FieldCode
no_code codes p n h = rw (eq-eqb n 0 h) refl

pub code_again : (codes : List ℕ) (p n : ℕ) → (n ≡ 0 → ⊥) → (is_known n && has n codes) ≡ true → seen_row codes p n ≡ Some reasons.FieldTwice
code_again codes p n h again = ap (λ (b : Bool). cond (eqb n 0) (Some reasons.FieldCode) (cond b (Some reasons.FieldTwice) None)) again ∙ rw (ne_eqb n 0 h) refl

pub code_new : (codes : List ℕ) (p n : ℕ) → (n ≡ 0 → ⊥) → (is_known n && has n codes) ≡ false → seen_row codes p n ≡ None
code_new codes p n h again = ap (λ (b : Bool). cond (eqb n 0) (Some reasons.FieldCode) (cond b (Some reasons.FieldTwice) None)) again ∙ rw (ne_eqb n 0 h) refl

-- ---- a container is opened

pub opening_passes : {B : Type 0} (room : ℕ) (next : ℕ → Reader B) (o : ℕ) (s : List ℕ) → 0 < room → after (opening room o s) next ≡ next (room - 1) o s
opening_passes zero next o s h = absurd (omega arith)
opening_passes (suc room) next o s h = refl

pub opening_refuses : {B : Type 0} (room : ℕ) (next : ℕ → Reader B) (o : ℕ) (s : List ℕ) → room ≡ 0 → after (opening room o s) next ≡ Faulty (fault o reasons.TooDeep)
opening_refuses zero next o s h = refl
opening_refuses (suc room) next o s h = absurd (omega arith)

-- ---- a field's code

module _ (limits : Limits) (order : Order) (end : ℕ) (codes : List ℕ) (o : ℕ) (s : List ℕ) where
  abbrev zeros : ℕ → Unit {0} × ℕ
  zeros n = (tt, n)

  abbrev coded : ℕ × ℕ → ℕ × ℕ
  coded x = x

  abbrev single : ℕ → ℕ × ℕ
  single n = (n, 1)

  abbrev read : Reader ℕ
  read = number order 1 end (seen_row codes)

  abbrev with_variant : ℕ → Reader ℕ
  with_variant code p u = after (opening (limits.depth - 2) p u) (λ _. pure code)

  abbrev with_code : Reader ℕ
  with_code p u = after (read p u) with_variant

  abbrev with_struct : Reader ℕ
  with_struct p u = after (opening (limits.depth - 1) p u) (λ _. with_code)

  pub padding_stops : (e : Stop) → Halts o s e (padding 8 end) → Halts o s e (field_code limits order end codes)
  unfolding field_code
  padding_stops e h = first_err o s (padding 8 end) (λ _. with_struct) e h

  module _ (n : ℕ) (first : Fronts zeros o s (Ok n) (padding 8 end)) (rest : List ℕ) (rest_is : rest ≡ drop n s) where
    struct_stops : (e : Stop) → Halts (o + n) rest e with_struct → Halts o s e (field_code limits order end codes)
    unfolding field_code
    struct_stops e h = then_err zeros o s (padding 8 end) (λ _. with_struct) n first rest rest_is e h

    pub struct_too_deep : limits.depth < 2 → Halts o s (stops.Refused (fault (o + n) reasons.TooDeep)) (field_code limits order end codes)
    struct_too_deep h = struct_stops (stops.Refused (fault (o + n) reasons.TooDeep)) (λ c. opening_refuses (limits.depth - 1) (λ _. with_code) (o + n) (rest ++ c) (omega (arith, h)))

    module _ (deep : 2 ≤ limits.depth) where
      same_struct : (u : List ℕ) → with_code (o + n) u ≡ with_struct (o + n) u
      same_struct u = sym (opening_passes (limits.depth - 1) (λ _. with_code) (o + n) u (omega (arith, deep)))

      pub code_stops : (e : Stop) → Halts (o + n) rest e (number order 1 end (seen_row codes)) → Halts o s e (field_code limits order end codes)
      code_stops e h = struct_stops e (halts_same (o + n) rest e with_code with_struct same_struct (first_err (o + n) rest read with_variant e h))

      module _ (code : ℕ) (second : Fronts single (o + n) rest (Ok code) (number order 1 end (seen_row codes))) where
        pub variant_too_deep : limits.depth < 3 → Halts o s (stops.Refused (fault (o + n + 1) reasons.TooDeep)) (field_code limits order end codes)
        variant_too_deep h =
            let e = stops.Refused (fault (o + n + 1) reasons.TooDeep) in
            struct_stops e (halts_same (o + n) rest e with_code with_struct same_struct
            (then_err single (o + n) rest read with_variant code second (drop 1 rest) refl e (λ c. opening_refuses (limits.depth - 2) (λ _. pure code) (o + n + 1) (drop 1 rest ++ c) (omega (arith, h)))))

        pub code_there : 3 ≤ limits.depth → Fronts coded o s (Ok (code, n + 1)) (field_code limits order end codes)
        unfolding field_code
        code_there h =
            let passes : (u : List ℕ) → after (read (o + n) u) (λ a. pure a) ≡ with_code (o + n) u =
            (λ u. same_after (read (o + n) u) (λ a. pure a) with_variant (λ a p u. sym (opening_passes (limits.depth - 2) (λ _. pure a) p u (omega (arith, h))))) in
            then_ok zeros o s (padding 8 end) (λ _. with_struct) n first rest rest_is coded coded (code, 1)
            (fronts_same coded (o + n) rest (Ok (code, 1)) with_code with_struct same_struct
            (fronts_same coded (o + n) rest (Ok (code, 1)) (λ p u. after (read p u) (λ a. pure a)) with_code passes
            (front_as single coded (λ a. a) (o + n) rest read code second (code, 1) refl refl)))
            (code, n + 1) refl refl

-- ---- after a padding

module _ (order : Order) (end : ℕ) (o : ℕ) (s : List ℕ) where
  abbrev padded : ℕ → Unit {0} × ℕ
  padded n = (tt, n)

  module _ (row : ℕ → ℕ → Option Reason) where
    pub padded_stops : (e : Stop) → Halts o s e (padding 4 end) → Halts o s e (padded_number order end row)
    unfolding padded_number
    padded_stops e h = first_err o s (padding 4 end) (λ _. number order 4 end row) e h

    module _ (n : ℕ) (first : Fronts padded o s (Ok n) (padding 4 end)) (rest : List ℕ) (rest_is : rest ≡ drop n s) where
      pub padded_number_stops : (e : Stop) → Halts (o + n) rest e (number order 4 end row) → Halts o s e (padded_number order end row)
      unfolding padded_number
      padded_number_stops e h = then_err padded o s (padding 4 end) (λ _. number order 4 end row) n first rest rest_is e h

      pub padded_number_there : {Z : Type 0} (w : Z → ℕ × ℕ) (x : ℕ) → Fronts (λ (n : ℕ). (n, 4)) (o + n) rest (Ok x) (number order 4 end row) → (z : Z) → (w z).0 ≡ x → (w z).1 ≡ n + 4 → Fronts w o s (Ok z) (padded_number order end row)
      unfolding padded_number
      padded_number_there w x h z value_is size_is = then_ok padded o s (padding 4 end) (λ _. number order 4 end row) n first rest rest_is (λ (n : ℕ). (n, 4)) w x h z value_is size_is

-- The next field of a message under way.

fields_more : (limits : Limits) (order : Order) (kind body t end : ℕ) (kept : Kept) (o : ℕ) (c : List ℕ) → o < end → fields_on limits order kind body (suc t) end kept o c ≡ field_on limits order end kept (fields_on limits order kind body t end) o c
fields_more limits order kind body t end kept o c lt = rw (lt-ltb o end lt) refl

one_less : (n : ℕ) → 0 < n → (t : ℕ) × (n ≡ suc t)
one_less zero h = absurd (omega arith)
one_less (suc t) h = (t, refl)

module _ (x : Progress) (to : To) (w : WantsFields x to) (more : x.offset < x.end) (s : List ℕ) where
  left : (t : ℕ) × (w.turns ≡ suc t)
  left = let a = w.turns_is in one_less w.turns (omega (arith, a, more))

  abbrev turns : ℕ
  turns = left.0

  abbrev code_run : Reader ℕ
  code_run = field_code x.limits x.order x.end w.kept.codes

  abbrev value_run : ℕ → On
  value_run code p u = after (wanted_value x.limits x.order x.end (want code) p u) (λ v. fields_on x.limits x.order x.kind x.body turns x.end (kept_of w.kept code v))

  law : (c : List ℕ) → after (code_run x.offset c) value_run ≡ to c
  law c =
      sym (field_begins x.limits x.order x.end w.kept (fields_on x.limits x.order x.kind x.body turns x.end) x.offset c)
      ∙ sym (fields_more x.limits x.order x.kind x.body turns x.end w.kept x.offset c more)
      ∙ ap (λ (n : ℕ). fields_on x.limits x.order x.kind x.body n x.end w.kept x.offset c) (sym left.1)
      ∙ w.same c

  pub field_coded : (r : Result (ℕ × ℕ) Stop) → Fronts (λ (y : ℕ × ℕ). y) x.offset s r (field_code x.limits x.order x.end w.kept.codes)
      → IfOk r (λ y. (0 < y.1) × (x.offset + y.1 ≤ x.end)) → IfOk r (λ y. is_known y.0 && has y.0 w.kept.codes ≡ false) → Coded x s r to
  field_coded (Ok y) h moves once =
      let some = moves.0 in
      let low = moves.1 in
      let a = w.turns_is in
      let b = left.1 in (
        h.0,
        record {
          kept = w.kept;
          turns = turns;
          keeps = w.keeps;
          once = once;
          low = low;
          turns_is = omega (arith, a, b, some);
          near = w.near;
          same = λ c. sym (ap (λ (r : Outcome ℕ). after r value_run) (h.1 c)) ∙ law (take y.1 s ++ c);
        },
      )
  field_coded (Err stops.Partial) h moves once = sym (law s) ∙ ap (λ (r : Outcome ℕ). after r value_run) h
  field_coded (Err (stops.Refused f)) h moves once = λ c. sym (law (s ++ c)) ∙ ap (λ (r : Outcome ℕ). after r value_run) (h c)

-- what is asked of a result, less of it
pub less : {X : Type 0} (P Q : X → Type 0) (r : Result X Stop) → ((x : X) → P x → Q x) → IfOk r P → IfOk r Q
less P Q (Ok x) f h = f x h
less P Q (Err e) f h = tt

-- A text that is to be one byte, at the front of some bytes.

break_first : (w : ℕ) (given : List ℕ) → 0 < length given → (get_or given 0 0 ≡ w → ⊥) → break_at (Only (w ∷ [])) given ≡ 0
unfolding break_at
break_first w [] h n = absurd (omega arith)
break_first w (b ∷ given) h n = rw (ne_eqb w b (λ e. n (sym e))) refl

break_second : (w : ℕ) (given : List ℕ) → 0 < length given → get_or given 0 0 ≡ w → break_at (Only (w ∷ [])) given ≡ 1
unfolding break_at
break_second w [] h e = absurd (omega arith)
break_second w (b ∷ given) h e = rw (eq-eqb w b (sym e)) refl

alone : (w : ℕ) (given : List ℕ) → 0 < length given → length given ≤ 1 → get_or given 0 0 ≡ w → given ≡ w ∷ []
alone w [] h le e = absurd (omega arith)
alone w (b ∷ []) h le e = ap (λ (c : ℕ). c ∷ []) e
alone w (b ∷ (d ∷ given)) h le e = absurd (omega arith)

module _ (w n o : ℕ) (s given : List ℕ) (is : given ≡ take n s) where
  abbrev k : WantedText
  k = Only (w ∷ [])

  abbrev view : Unit {0} → List ℕ × ℕ
  view x = (w ∷ [], 1)

  broken_at : (i : ℕ) → break_at k given ≡ i → IsBreakOf k given i
  broken_at i e = subst (IsBreakOf k given) e (break_is k given)

  pub only_waits : length given ≡ 0 → 0 < n → Fronts view o s (Err stops.Partial) (text (Only (w ∷ [])) n)
  only_waits none some = text_waits_at k n o s given is (break_at k given) (break_is k given) (omega arith) (omega arith)

  pub only_empty : length given ≡ 0 → n ≡ 0 → Fronts view o s (Err (stops.Refused (fault o reasons.FieldType))) (text (Only (w ∷ [])) n)
  only_empty none no_more = λ c.
      let l = break_le k given in
      let at : break_at k given ≡ 0 = omega arith in
      let e : o + 0 ≡ o = omega arith in
      let not : IsWanted k given → ⊥ = λ h. let d = ap length h in absurd (omega arith) in
      subst (λ (p : ℕ). text k n o (s ++ c) ≡ Faulty (fault p reasons.FieldType)) e (text_unlike_at k n o s given is 0 (broken_at 0 at) (omega arith) (omega arith) not c)

  module _ (some : 0 < length given) where
    pub only_other : (get_or given 0 0 ≡ w → ⊥) → Fronts view o s (Err (stops.Refused (fault o reasons.FieldType))) (text (Only (w ∷ [])) n)
    only_other other = λ c.
        let e : o + 0 ≡ o = omega arith in
        subst (λ (p : ℕ). text k n o (s ++ c) ≡ Faulty (fault p reasons.FieldType)) e (text_breaks_at k n o s given is 0 (broken_at 0 (break_first w given some other)) some c)

    module _ (first : get_or given 0 0 ≡ w) where
      pub only_long : 1 < length given → Fronts view o s (Err (stops.Refused (fault (o + 1) reasons.FieldType))) (text (Only (w ∷ [])) n)
      only_long long = λ c. text_breaks_at k n o s given is 1 (broken_at 1 (break_second w given some first)) long c

      pub only_more : length given ≤ 1 → 1 < n → Fronts view o s (Err stops.Partial) (text (Only (w ∷ [])) n)
      only_more short more = text_waits_at k n o s given is 1 (broken_at 1 (break_second w given some first)) short (omega arith)

      pub only_there : length given ≤ 1 → n ≤ 1 → Fronts view o s (Ok tt) (text (Only (w ∷ [])) n)
      only_there short few =
          let wanted = alone w given some short first in
          let l = ap length is ∙ length-take n s in
          let one : n ≡ 1 = omega arith in
          let h = text_there_at k n o s given is wanted (omega arith) in
          let fits = h.0 in
          let front : take n s ≡ w ∷ [] = sym is ∙ wanted in
          (omega arith, λ c. ap (λ (m : ℕ). text k n o (take m s ++ c)) (sym one) ∙ h.1 c ∙ ap (λ (t : List ℕ). Done t (o + n) c) front ∙ ap (λ (m : ℕ). Done (w ∷ []) (o + m) c) one)
