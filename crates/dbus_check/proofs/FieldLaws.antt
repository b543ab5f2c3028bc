-- A field, by what its code asks of its value.
use Rattle.std.proofs.Common.{◌≡◌, ℕ, zero, suc, ◌-◌, List, ◌∙◌, ◌+◌, ◌≤◌, [], ◌∷◌, drop, Bool, true, false, Ok, refl, sym, ap, ◌++◌, length, take, Result, Err, subst, arith}
use Rattle.std.proofs.Math.Path.{fun_ext}
use Rattle.std.proofs.lemmas.List.{length-drop, take-append-drop}
use Rattle.dbus_texts.specs.Types.{UINT32, STRING, SIGNATURE, TypeTree, NumberType, TextType, VariantType, OBJECT_PATH}
use Rattle.dbus_texts.specs.ComputedKinds.{type_spelled}
use Rattle.dbus_texts.specs.declared.text_kind.TextKind.TheVariants as kinds
use Rattle.dbus_value_model.specs.WantedTexts.{WantedText, Of, Only}
use Rattle.dbus_value_model.specs.Bounds.{bounds_of}
use Rattle.dbus_value_model.specs.declared.limits.Limits.{Limits}
use Rattle.dbus_value_model.specs.declared.limits.Bounds.{Bounds}
use Rattle.dbus_value_model.specs.declared.order.Order.{Order}
use Rattle.dbus_value_model.specs.declared.fault.Reason.TheVariants as reasons
use Rattle.dbus_value_model.specs.Values.{ValueTree, NumberValue, TextValue}
use Rattle.dbus_value_model.specs.ValueItems.{number_row, text_row}
use Rattle.dbus_value_model.specs.declared.fault.Fault.{Fault}
use Rattle.dbus_value_model.specs.Reading.{Reader, after, padding, number, value, Outcome, Done, Faulty, pure}
use Rattle.dbus_message_model.specs.Messages.{Want, Name, Serial, want, OfType, number_in, text_in, Anything}
use Rattle.dbus_header.specs.MessageItems.{kind_wanted, not_zero_row, name_row}
use Rattle.dbus_header.specs.HeaderReading.{value_wanted, wanted_signature, wanted_value}
use Rattle.dbus_value_laws.proofs.ReadSteps.{after_after, no_padding, same_after}
use Rattle.dbus_value_checker.specs.Suspended.{On, short_text, ended_text, onward, done}
use Rattle.dbus_value_model.specs.declared.stop.Stop.{Stop}
use Rattle.dbus_value_laws.proofs.KindLaws.{spelled_sig}
use Rattle.dbus_value_checker.specs.Fronts.{Halts, Fronts}
use Rattle.dbus_value_checker.proofs.Suspension.{halts_same, fronts_same, first_err, then_err, then_ok, take-both, split-at}
use Rattle.dbus_value_model.specs.declared.stop.Stop.TheVariants as stops
use Rattle.dbus_check.specs.Heading.{Kept, kept_of, field_on, field_code, padded_number, uint32_row, uint32_wanted, seen_as, fields_on}
use Rattle.dbus_check.specs.Progress.{To, Denotes, denotes, Moves, Passes, Coded, after_bytes, Steps, WantsValue, WantsHeld}
use Rattle.dbus_check.specs.declared.progress.Progress.{Progress}
use Rattle.dbus_check.specs.declared.progress.Stage.{Stage}
use Rattle.dbus_check.specs.declared.progress.Stage.TheVariants as stage
use Rattle.dbus_check.proofs.Texts.{after_refused}
use Rattle.dbus_check.proofs.PassedFields.{the_kept, kept_plain, plain_code}

-- its code, and then its value
pub field_begins : (limits : Limits) (order : Order) (end : ℕ) (kept : Kept) (more : Kept → On) (o : ℕ) (s : List ℕ)
    → field_on limits order end kept more o s
    ≡ after (field_code limits order end kept.codes o s) (λ code p u. after (wanted_value limits order end (want code) p u) (λ v. more (kept_of kept code v)))
unfolding field_code
field_begins limits order end kept more o s = simp after_after

module _ (order : Order) (end : ℕ) where
  -- the signature's length, its text and the zero after it
  signature_is : (k : WantedText) {B : Type 0} (next : TypeTree → Reader B) (o : ℕ) (s : List ℕ) → after (wanted_signature order end k o s) next ≡ after (short_text order end k o s) (λ t. next (type_spelled t))
  unfolding wanted_signature
  signature_is k next o s = simp after_after

  module _ (limits : Limits) where
    -- its signature, and then its value
    pub value_begins : (w : Want) {B : Type 0} (next : ValueTree → Reader B) (o : ℕ) (s : List ℕ)
        → after (wanted_value limits order end w o s) next
        ≡ after (short_text order end (kind_wanted w) o s) (λ t p u. after (value_wanted (bounds_of limits) order (limits.depth - 3) end w (type_spelled t) p u) next)
    unfolding wanted_value
    value_begins w next o s =
        after_after (wanted_signature order end (kind_wanted w) o s) _ next
        ∙ signature_is (kind_wanted w) (λ held p u. after (value_wanted (bounds_of limits) order (limits.depth - 3) end w held p u) next) o s

  -- a name: its length, and then its text
  pub name_begins : (bounds : Bounds) (inner : ℕ) (k : WantedText) (held : TypeTree) {B : Type 0} (next : ValueTree → Reader B) (o : ℕ) (s : List ℕ)
      → after (value_wanted bounds order inner end (Name k) held o s) next ≡ after (padded_number order end (name_row end) o s) (λ n q v. after (ended_text k n q v) (λ t. next (TextValue STRING t)))
  unfolding padded_number
  name_begins bounds inner k held next o s = simp after_after

  -- a REPLY_SERIAL
  pub serial_begins : (bounds : Bounds) (inner : ℕ) (held : TypeTree) {B : Type 0} (next : ValueTree → Reader B) (o : ℕ) (s : List ℕ)
      → after (value_wanted bounds order inner end Serial held o s) next ≡ after (padded_number order end (not_zero_row reasons.ZeroSerial) o s) (λ n. next (NumberValue UINT32 n))
  unfolding padded_number
  serial_begins bounds inner held next o s = simp after_after

  -- how many descriptors come with the message
  pub count_begins : (bounds : Bounds) (room : ℕ) {B : Type 0} (next : ValueTree → Reader B) (o : ℕ) (s : List ℕ)
      → after (value bounds order room end (NumberType UINT32) o s) next ≡ after (padded_number order end (number_row bounds.fds UINT32) o s) (λ n. next (NumberValue UINT32 n))
  unfolding padded_number value
  count_begins bounds zero next o s = simp after_after
  count_begins bounds (suc room) next o s = simp after_after

  -- the body's signature: its length, and then its text
  after_padding : (bounds : Bounds) (room : ℕ) {B : Type 0} (next : ValueTree → Reader B) (o : ℕ) (s : List ℕ)
      → after (value bounds order room end (TextType SIGNATURE) o s) next
      ≡ after (padding 1 end o s) (λ _ p u. after (number order 1 end (text_row end) p u) (λ n q v. after (ended_text (Of kinds.Signature) n q v) (λ t. next (TextValue SIGNATURE t))))
  unfolding value
  after_padding bounds zero next o s = simp after_after
  after_padding bounds (suc room) next o s = simp after_after

  pub signature_begins : (bounds : Bounds) (room : ℕ) {B : Type 0} (next : ValueTree → Reader B) (o : ℕ) (s : List ℕ) → o ≤ end
      → after (value bounds order room end (type_spelled (103 ∷ [])) o s) next ≡ after (number order 1 end (text_row end) o s) (λ n q v. after (ended_text (Of kinds.Signature) n q v) (λ t. next (TextValue SIGNATURE t)))
  signature_begins bounds room next o s low =
      ap (λ (t : TypeTree). after (value bounds order room end t o s) next) (spelled_sig (TextType SIGNATURE))
      ∙ after_padding bounds room next o s
      ∙ ap (λ (r : Outcome (Unit {0})). after r (λ _ p u. after (number order 1 end (text_row end) p u) (λ n q v. after (ended_text (Of kinds.Signature) n q v) (λ t. next (TextValue SIGNATURE t))))) (no_padding end o s low)

  -- a variant: its signature, and then its value
  variant_begins : (bounds : Bounds) (inner : ℕ) (next : On) (o : ℕ) (s : List ℕ)
      → onward (value bounds order (suc inner) end VariantType) next o s ≡ after (wanted_signature order end (Of kinds.Single) o s) (λ t. onward (value bounds order inner end t) next)
  unfolding value wanted_signature
  variant_begins bounds inner next o s = simp after_after

  -- a field of any type is one
  pub any_begins : (limits : Limits) (inner : ℕ) → inner ≡ limits.depth - 3 → (next : On) (o : ℕ) (s : List ℕ) → onward (value (bounds_of limits) order (suc inner) end VariantType) next o s ≡ onward (wanted_value limits order end Anything) next o s
  unfolding wanted_value
  any_begins limits inner inner_is next o s =
      variant_begins (bounds_of limits) inner next o s
      ∙ ap (λ (d : ℕ). after (wanted_signature order end (Of kinds.Single) o s) (λ t. onward (value (bounds_of limits) order d end t) next)) inner_is
      ∙ sym (after_after (wanted_signature order end (Of kinds.Single) o s) (λ t. value (bounds_of limits) order (limits.depth - 3) end t) (λ v. next))

module _ {B : Type 0} (limits : Limits) (order : Order) (end : ℕ) (w : Want) (g : ValueTree → B) (code : ℕ) (only : kind_wanted w ≡ Only (code ∷ [])) (inner : Reader B) (o : ℕ) (s : List ℕ) where
  abbrev signed : Unit {0} → List ℕ × ℕ
  signed x = (code ∷ [], 3)

  abbrev first_run : Reader (List ℕ)
  first_run = short_text order end (Only (code ∷ []))

  abbrev next_run : List ℕ → Reader B
  next_run t p u = after (value_wanted (bounds_of limits) order (limits.depth - 3) end w (type_spelled t) p u) (λ v. pure (g v))

  abbrev whole : Reader B
  whole p u = after (first_run p u) next_run

  whole_is : (u : List ℕ) → whole o u ≡ seen_as g (wanted_value limits order end w) o u
  whole_is u = ap (λ (k : WantedText). after (short_text order end k o u) next_run) (sym only) ∙ sym (value_begins order end limits w (λ v. pure (g v)) o u)

  pub signature_stops : (e : Stop) → Halts o s e (short_text order end (Only (code ∷ []))) → Halts o s e (seen_as g (wanted_value limits order end w))
  signature_stops e h = halts_same o s e whole (seen_as g (wanted_value limits order end w)) whole_is (first_err o s first_run next_run e h)

  module _ (first : Fronts signed o s (Ok tt) (short_text order end (Only (code ∷ [])))) (rest : List ℕ) (rest_is : rest ≡ drop 3 s)
      (same : (t : List ℕ) → inner (o + 3) t ≡ after (value_wanted (bounds_of limits) order (limits.depth - 3) end w (type_spelled (code ∷ [])) (o + 3) t) (λ v. pure (g v))) where
    pub value_stops : (e : Stop) → Halts (o + 3) rest e inner → Halts o s e (seen_as g (wanted_value limits order end w))
    value_stops e h =
        halts_same o s e whole (seen_as g (wanted_value limits order end w)) whole_is
        (then_err signed o s first_run next_run tt first rest rest_is e (halts_same (o + 3) rest e inner (next_run (code ∷ [])) same h))

    pub value_there : {Y Z : Type 0} (u : Y → B × ℕ) (view : Z → B × ℕ) (y : Y) → Fronts u (o + 3) rest (Ok y) inner → (z : Z) → (view z).0 ≡ (u y).0 → (view z).1 ≡ 3 + (u y).1 → Fronts view o s (Ok z) (seen_as g (wanted_value limits order end w))
    value_there u view y h z value_is size_is =
        fronts_same view o s (Ok z) whole (seen_as g (wanted_value limits order end w)) whole_is
        (then_ok signed o s first_run next_run tt first rest rest_is u view y (fronts_same u (o + 3) rest (Ok y) inner (next_run (code ∷ [])) same h) z value_is size_is)

-- ---- what stands after the signature

pub uint32_only : (serial : Bool) → kind_wanted (uint32_wanted serial) ≡ Only (117 ∷ [])
uint32_only true = refl
uint32_only false = refl

module _ (limits : Limits) (order : Order) (end : ℕ) where
  abbrev room : ℕ
  room = limits.depth - 3

  after_pure : {A : Type 0} (r : Outcome A) → r ≡ after r (λ n. pure n)
  after_pure (Done x p u) = refl
  after_pure (Rattle.dbus_value_model.specs.Reading.Faulty f) = refl
  after_pure Rattle.dbus_value_model.specs.Reading.Partial = refl

  pub uint32_is : (serial : Bool) (p : ℕ) (t : List ℕ) → padded_number order end (uint32_row serial) p t ≡ after (value_wanted (bounds_of limits) order room end (uint32_wanted serial) (type_spelled (117 ∷ [])) p t) (λ v. pure (number_in v))
  uint32_is true p t = after_pure (padded_number order end (uint32_row true) p t) ∙ sym (serial_begins order end (bounds_of limits) room (type_spelled (117 ∷ [])) (λ v. pure (number_in v)) p t)
  uint32_is false p t = after_pure (padded_number order end (uint32_row false) p t) ∙ sym (count_begins order end (bounds_of limits) room (λ v. pure (number_in v)) p t)
      ∙ ap (λ (held : TypeTree). after (value_wanted (bounds_of limits) order room end (OfType (NumberType UINT32)) held p t) (λ v. pure (number_in v))) (sym (spelled_sig (NumberType UINT32)))

-- A field, its code and then its value.

-- after a field that was passed the next is wanted
pub passed_moves : (old new : Progress) (s : List ℕ) (r : Result ℕ Stop) (to : To) → new.stage ≡ stage.Fields → Passes old s r new to → Moves old s r new to
passed_moves old new s (Ok m) to at h = (h.0, subst (λ (st : Stage). denotes st new (after_bytes to (take m s))) (sym at) h.1)
passed_moves old new s (Err stops.Partial) to at h = h
passed_moves old new s (Err (stops.Refused f)) to at h = h

-- the second of two parts
module _ (old new : Progress) (s : List ℕ) (n : ℕ) (there : n ≤ length s) (to : To) (rest : List ℕ) (rest_is : rest ≡ drop n s) where
  pub both_move : (m : ℕ) → Moves old rest (Ok m) new (after_bytes to (take n s)) → Moves old s (Ok (n + m)) new to
  both_move m h =
      let a = h.0 in
      let l = ap length rest_is ∙ length-drop n s in
      (omega (arith, a, l, there), subst (λ (t : To). Denotes new t) (fun_ext (λ c. ap (λ (u : List ℕ). to (take n s ++ (take m u ++ c))) rest_is ∙ ap to (sym (take-both n m s c there)))) h.1)

  pub second_stops : (e : Stop) → Moves old rest (Err e) new (after_bytes to (take n s)) → Moves old s (Err e) new to
  second_stops stops.Partial h = (h.0, sym (ap to (take-append-drop n s)) ∙ ap (λ (u : List ℕ). to (take n s ++ u)) (sym rest_is) ∙ h.1)
  second_stops (stops.Refused f) h = λ c. ap to (split-at n s c) ∙ ap (λ (u : List ℕ). to (take n s ++ (u ++ c))) (sym rest_is) ∙ h c

-- the first of two parts
pub coded_stops : (x : Progress) (s : List ℕ) (e : Stop) (to : To) → Coded x s (Err e) to → Moves x s (Err e) x to
coded_stops x s stops.Partial to h = (refl, h)
coded_stops x s (stops.Refused f) to h = h

pub steps_of : (old new : Progress) (s : List ℕ) (r : Result ℕ Stop) (to : To) → Denotes old to → Moves old s r new to → Steps s r new to
steps_of old new s (Ok n) to d h = h
steps_of old new s (Err stops.Partial) to d h = (subst (λ (y : Progress). Denotes y to) (sym h.0) d, h.1)
steps_of old new s (Err (stops.Refused f)) to d h = h

-- Fields whose values are under way once their signatures are read.

module _ (x : Progress) (code n : ℕ) (to : To) (w : WantsValue x code n to) (wanted : Want) (is : wanted ≡ want code) (s : List ℕ) where
  abbrev more : Kept → On
  more = fields_on x.limits x.order x.kind x.body w.turns x.end

  abbrev held_run : List ℕ → On
  held_run t p u = after (value_wanted (bounds_of x.limits) x.order (x.limits.depth - 3) x.end wanted (type_spelled t) p u) (λ v. more (kept_of w.kept code v))

  law : (c : List ℕ) → after (short_text x.order x.end (kind_wanted wanted) (x.offset + n) c) held_run ≡ to c
  law c =
      sym (value_begins x.order x.end x.limits wanted (λ v. more (kept_of w.kept code v)) (x.offset + n) c)
      ∙ ap (λ (u : Want). after (wanted_value x.limits x.order x.end u (x.offset + n) c) (λ v. more (kept_of w.kept code v))) is
      ∙ w.same c

  pub held_stops : {X : Type 0} (view : X → List ℕ × ℕ) (e : Stop) → Fronts view (x.offset + n) s (Err e) (short_text x.order x.end (kind_wanted wanted)) → Moves x s (Err e) x to
  held_stops view stops.Partial h = (refl, sym (law s) ∙ ap (λ (r : Outcome (List ℕ)). after r held_run) h)
  held_stops view (stops.Refused f) h = λ c. sym (law (s ++ c)) ∙ ap (λ (r : Outcome (List ℕ)). after r held_run) (h c)

  -- one that is to be of this type
  module _ (letter : ℕ) (only : kind_wanted wanted ≡ Only (letter ∷ [])) (first : Fronts (λ (z : Unit {0}). (letter ∷ [], 3)) (x.offset + n) s (Ok tt) (short_text x.order x.end (Only (letter ∷ [])))) where
    held_there : (c : List ℕ) → held_run (letter ∷ []) (x.offset + n + 3) c ≡ to (take 3 s ++ c)
    held_there c =
        sym (ap (λ (r : Outcome (List ℕ)). after r held_run) (first.1 c))
        ∙ ap (λ (k : WantedText). after (short_text x.order x.end k (x.offset + n) (take 3 s ++ c)) held_run) (sym only) ∙ law (take 3 s ++ c)

    -- then a length is read, and a text of so many bytes
    module _ (rest : List ℕ) (rest_is : rest ≡ drop 3 s) (sized : Reader ℕ) (k : WantedText) (valued : List ℕ → ValueTree)
        (begins : (u : List ℕ) → held_run (letter ∷ []) (x.offset + n + 3) u ≡ after (sized (x.offset + n + 3) u) (λ size q v. after (ended_text k size q v) (λ t. more (kept_of w.kept code (valued t))))) where
      abbrev lettered : ℕ → On
      lettered size q v = after (ended_text k size q v) (λ t. more (kept_of w.kept code (valued t)))

      sized_same : (c : List ℕ) → after (sized (x.offset + n + 3) c) lettered ≡ to (take 3 s ++ c)
      sized_same c = sym (begins c) ∙ held_there c

      pub length_stops : {X : Type 0} (view : X → ℕ × ℕ) (e : Stop) → Fronts view (x.offset + n + 3) rest (Err e) sized → Moves x s (Err e) x to
      length_stops view e h = second_stops x x s 3 first.0 to rest rest_is e (halts e h)
        where
          halts : (e : Stop) → Fronts view (x.offset + n + 3) rest (Err e) sized → Moves x rest (Err e) x (after_bytes to (take 3 s))
          halts stops.Partial h = (refl, sym (sized_same rest) ∙ ap (λ (r : Outcome ℕ). after r lettered) h)
          halts (stops.Refused f) h = λ c. sym (sized_same (rest ++ c)) ∙ ap (λ (r : Outcome ℕ). after r lettered) (h c)

      module _ {X : Type 0} (view : X → ℕ × ℕ) (z : X) (second : Fronts view (x.offset + n + 3) rest (Ok z) sized) where
        pub length_there : 3 + (view z).1 ≤ length s
        length_there =
            let l = ap length rest_is ∙ length-drop 3 s in
            let a = first.0 in
            let b = second.0 in
            omega (arith, l, a, b)

        pub length_same : (c : List ℕ) → after (ended_text k (view z).0 (x.offset + n + 3 + (view z).1) c) (λ t. more (kept_of w.kept code (valued t))) ≡ to (take (3 + (view z).1) s ++ c)
        length_same c =
            sym (ap (λ (r : Outcome ℕ). after r lettered) (second.1 c)) ∙ sized_same (take (view z).1 rest ++ c)
            ∙ ap (λ (u : List ℕ). to (take 3 s ++ (take (view z).1 u ++ c))) rest_is ∙ ap to (sym (take-both 3 (view z).1 s c first.0))

        -- no text of so many bytes may stand there
        pub text_refused : (f : Fault) → ((c : List ℕ) → onward (ended_text k (view z).0) done (x.offset + n + 3 + (view z).1) c ≡ Faulty f) → (c : List ℕ) → to (s ++ c) ≡ Faulty f
        text_refused f h c =
            let left = drop (3 + (view z).1) s ++ c in
            ap to (split-at (3 + (view z).1) s c) ∙ sym (length_same left)
            ∙ ap (λ (r : Outcome (List ℕ)). after r (λ t. more (kept_of w.kept code (valued t)))) (after_refused (ended_text k (view z).0 (x.offset + n + 3 + (view z).1) left) f (h left))

-- what is kept of a plain field
module _ (x : Progress) (code n : ℕ) (to : To) (w : WantsValue x code n to) (plain : (code ≡ 8 → ⊥) × (code ≡ 9 → ⊥)) where
  abbrev pub plain_kept : Kept
  plain_kept = the_kept (code ∷ w.kept.codes) w.kept.text w.kept.count

  pub plain_same : (v : ValueTree) (p : ℕ) (u : List ℕ) → fields_on x.limits x.order x.kind x.body w.turns x.end plain_kept p u ≡ fields_on x.limits x.order x.kind x.body w.turns x.end (kept_of w.kept code v) p u
  plain_same v p u = ap (λ (k : Kept). fields_on x.limits x.order x.kind x.body w.turns x.end k p u) (sym (kept_plain w.kept code w.keeps.no_text w.keeps.no_count v plain.0 plain.1))

-- a value of any type is that of a variant
pub any_held : (x : Progress) (code n : ℕ) (to : To) (w : WantsValue x code n to) → Anything ≡ want code → (depth_left : ℕ) → depth_left ≡ x.limits.depth - 3 + 1 → WantsHeld x code n depth_left VariantType to
any_held x code n to w wanted depth_left room =
    let plain = plain_code Anything code wanted (λ e. cc) (λ e. cc) in
    let inner = x.limits.depth - 3 in
    let more : Kept → On = fields_on x.limits x.order x.kind x.body w.turns x.end in
    let deep : depth_left ≡ suc inner = omega (arith, room) in
    record {
      kept = w.kept;
      turns = w.turns;
      keeps = w.keeps;
      low = w.low;
      turns_is = w.turns_is;
      near = w.near;
      same = λ c.
          ap (λ (d : ℕ). onward (value (bounds_of x.limits) x.order d x.end VariantType) (more (plain_kept x code n to w plain)) (x.offset + n) c) deep
          ∙ any_begins x.order x.end x.limits inner refl (more (plain_kept x code n to w plain)) (x.offset + n) c
          ∙ same_after (wanted_value x.limits x.order x.end Anything (x.offset + n) c) (λ _. more (plain_kept x code n to w plain)) (λ v. more (kept_of w.kept code v)) (λ v p u. plain_same x code n to w plain v p u)
          ∙ ap (λ (u : Want). after (wanted_value x.limits x.order x.end u (x.offset + n) c) (λ v. more (kept_of w.kept code v))) wanted
          ∙ w.same c;
    }

-- a path
pub path_held : (x : Progress) (code n : ℕ) (to : To) (w : WantsValue x code n to) → OfType (TextType OBJECT_PATH) ≡ want code → (s : List ℕ) → Fronts (λ (u : Unit {0}). (111 ∷ [], 3)) (x.offset + n) s (Ok tt) (short_text x.order x.end (Only (111 ∷ []))) → x.offset + n + 3 ≤ x.end → (depth_left : ℕ) → depth_left ≡ x.limits.depth - 3 → WantsHeld x code (n + 3) depth_left (TextType OBJECT_PATH) (after_bytes to (take 3 s))
path_held x code n to w wanted s h low depth_left room =
    let path : Want = OfType (TextType OBJECT_PATH) in
    let plain = plain_code path code wanted (λ e. cc) (λ e. cc) in
    let more : Kept → On = fields_on x.limits x.order x.kind x.body w.turns x.end in
    let a = w.turns_is in
    let e : x.offset + (n + 3) ≡ x.offset + n + 3 = omega arith in
    record {
      kept = w.kept;
      turns = w.turns;
      keeps = w.keeps;
      low = omega (arith, low);
      turns_is = omega (arith, a);
      near = w.near;
      same = λ c.
          ap (λ (p : ℕ). after (value (bounds_of x.limits) x.order depth_left x.end (TextType OBJECT_PATH) p c) (λ _. more (plain_kept x code n to w plain))) e
          ∙ ap (λ (d : ℕ). after (value (bounds_of x.limits) x.order d x.end (TextType OBJECT_PATH) (x.offset + n + 3) c) (λ _. more (plain_kept x code n to w plain))) room
          ∙ ap (λ (t : TypeTree). after (value (bounds_of x.limits) x.order (x.limits.depth - 3) x.end t (x.offset + n + 3) c) (λ _. more (plain_kept x code n to w plain))) (sym (spelled_sig (TextType OBJECT_PATH)))
          ∙ same_after (value (bounds_of x.limits) x.order (x.limits.depth - 3) x.end (type_spelled (111 ∷ [])) (x.offset + n + 3) c) (λ _. more (plain_kept x code n to w plain)) (λ v. more (kept_of w.kept code v)) (λ v p u. plain_same x code n to w plain v p u)
          ∙ held_there x code n to w path wanted s 111 refl h c;
    }
