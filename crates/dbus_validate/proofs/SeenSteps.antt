-- The known fields that were seen, as the code notes them.
use Rattle.std.proofs.Common.{take, ◌≡◌, ℕ, zero, suc, eqb, true, false, Bool, cond, ◌&&◌, ◌||◌, ◌+◌, ◌<◌, ◌≤◌, List, [], ◌∷◌, ◌++◌, length, drop, get_or, set, Option, Some, None, refl, sym, ap, subst, ◌∙◌, inl, inr, arith}
use Rattle.std.specs.Option.{is_some}
use Rattle.std.proofs.lemmas.Bool.{cases_lt, eqb-true, eqb-false, ne_eqb, or_parts}
use Rattle.std.proofs.lemmas.Bool.Decides.{nat_tests}
use Rattle.std.proofs.Math.Seq.{take-add}
use Rattle.std.proofs.lemmas.List.{drop_more, drop-append-le, get_or-set_same, get_or-set_other, length-append, length-drop, take-append-drop, take-append-le}
use Rattle.dbus_value_model.specs.declared.fault.Reason.TheVariants as reasons
use Rattle.dbus_value_model.specs.declared.order.Order.{Order}
use Rattle.dbus_value_model.specs.Values.{ValueTree}
use Rattle.dbus_message_model.specs.Messages.{FieldTree, Want, Anything, OfType, Name, Serial, want, is_particular, is_known, has_code, lacks, required, text_in, number_in, body_signature, fd_count}
use Rattle.dbus_message_model.specs.KnownFields.{field_value}
use Rattle.dbus_validate.specs.declared.field_values.Held.{Held}
use Rattle.dbus_validate.specs.declared.seen.FieldPlace.{FieldPlace}
use Rattle.dbus_validate.specs.declared.seen.FieldPlaces.{FieldPlaces}
use Rattle.dbus_validate.specs.Seen.{IsNoted, StandsAt, IsNotedOf, AreNoted, ArePlaced, fields_before, field_start, known_start, text_start, field_text_start}

-- ---- codes among fields

value_has : (c : ℕ) (fs : List FieldTree) → is_some (field_value c fs) ≡ has_code c fs
value_has c [] = refl
value_has c (f ∷ fs) = elim (eqb f.code c) as (λ b. is_some (cond b (Some f.value) (field_value c fs)) ≡ (b || has_code c fs)) [ true ↦ refl | false ↦ value_has c fs ]

value_last : (c : ℕ) (fs : List FieldTree) (f : FieldTree) → has_code c fs ≡ false → eqb f.code c ≡ true → field_value c (fs ++ f ∷ []) ≡ Some f.value
value_last c [] f none is = rw is refl
value_last c (g ∷ fs) f none is =
    let parts = or_parts (eqb g.code c) (has_code c fs) none in
    ap (λ (b : Bool). cond b (Some g.value) (field_value c (fs ++ f ∷ []))) parts.0 ∙ value_last c fs f parts.1 is

value_other : (c : ℕ) (fs : List FieldTree) (f : FieldTree) → eqb f.code c ≡ false → field_value c (fs ++ f ∷ []) ≡ field_value c fs
value_other c [] f other = rw other refl
value_other c (g ∷ fs) f other = ap (λ (v : Option ValueTree). cond (eqb g.code c) (Some g.value) v) (value_other c fs f other)

pub unknown : (c : ℕ) → 10 ≤ c → is_known c ≡ false
unknown c h = grind (arith, nat_tests)

known_below : (c : ℕ) → is_known c ≡ true → c < 10
known_below c known = elim (cases_lt c 10) [ inl h ↦ h | inr h ↦ let no = unknown c h in absurd cc ]

-- ---- what is noted

as_noted : (v : Option ValueTree) (bytes : List ℕ) (p : Option FieldPlace) → IsNotedOf v bytes p → is_some p ≡ is_some v
as_noted None bytes None n = refl
as_noted None bytes (Some p) n = absurd n
as_noted (Some v) bytes None n = absurd n
as_noted (Some v) bytes (Some p) n = refl

abbrev place_of : Held → FieldPlace
place_of h = record { start = h.start; length = h.length; number = h.number }

stands : (w : Want) (v : ValueTree) (bytes : List ℕ) (h : Held) → is_particular w ≡ true → IsNoted w v bytes h → h.start + h.length ≤ length bytes → StandsAt v bytes (place_of h)
stands Anything v bytes h known is fits = absurd cc
stands (OfType t) v bytes h known is fits = record { text = is.0; inside = fits; number = is.1 }
stands (Name k) v bytes h known is fits = record { text = is.0; inside = fits; number = is.1 }
stands Serial v bytes h known is fits = record { text = is.0; inside = fits; number = is.1 }

module _ (fs : List FieldTree) (bytes : List ℕ) (seen : FieldPlaces) (noted : AreNoted fs bytes seen) where
  pub has_noted : (c : ℕ) → is_known c ≡ true → is_some (get_or seen.places c None) ≡ has_code c fs
  has_noted c known = as_noted (field_value c fs) bytes (get_or seen.places c None) (noted c known) ∙ value_has c fs

  module _ (new : FieldPlaces) (code : ℕ) (v : ValueTree) (h : Held) (alone : is_known code && has_code code fs ≡ false) (is : IsNoted (want code) v bytes h) (fits : h.start + h.length ≤ length bytes) where
    other_kept : (c : ℕ) → is_known c ≡ true → eqb code c ≡ false → get_or new.places c None ≡ get_or seen.places c None
        → IsNotedOf (field_value c (fs ++ (record { code = code; value = v }) ∷ [])) bytes (get_or new.places c None)
    other_kept c known other kept = rw (kept, value_other c fs (record { code = code; value = v }) other) (noted c known)

    new_noted : (c : ℕ) → is_known c ≡ true → eqb code c ≡ true → get_or new.places code None ≡ Some (place_of h)
        → IsNotedOf (field_value c (fs ++ (record { code = code; value = v }) ∷ [])) bytes (get_or new.places c None)
    new_noted c known same put =
        let there : code ≡ c = eqb-true code c same in
        let is_one : is_known code ≡ true = subst (λ (k : ℕ). is_known k ≡ true) (sym there) known in
        let none : has_code c fs ≡ false = subst (λ (k : ℕ). has_code k fs ≡ false) there (ap (λ (b : Bool). b && has_code code fs) (sym is_one) ∙ alone) in
        let slot : get_or new.places c None ≡ Some (place_of h) = subst (λ (k : ℕ). get_or new.places k None ≡ Some (place_of h)) there put in
        rw (slot, value_last c fs (record { code = code; value = v }) none same) (stands (want code) v bytes h is_one is fits)

    module _ (ten : length seen.places ≡ 10) where
      put_noted : code < 10 → new.places ≡ set seen.places code (Some (place_of h)) → (c : ℕ) → is_known c ≡ true → (same : Bool) → eqb code c ≡ same
          → IsNotedOf (field_value c (fs ++ (record { code = code; value = v }) ∷ [])) bytes (get_or new.places c None)
      put_noted lt put c known true e =
          new_noted c known e (ap (λ (l : List (Option FieldPlace)). get_or l code None) put ∙ get_or-set_same seen.places code (Some (place_of h)) None (omega arith))
      put_noted lt put c known false e =
          let ne = eqb-false code c e in
          other_kept c known e (ap (λ (l : List (Option FieldPlace)). get_or l c None) put ∙ get_or-set_other seen.places code c (Some (place_of h)) None (λ same. ne (sym same)))

      pub noted_more : code < 10 → new.places ≡ set seen.places code (Some (place_of h)) → AreNoted (fs ++ (record { code = code; value = v }) ∷ []) bytes new
      noted_more lt put = λ c known. put_noted lt put c known (eqb code c) refl

    -- a field that is not known
    pub noted_past : 10 ≤ code → new.places ≡ seen.places → AreNoted (fs ++ (record { code = code; value = v }) ∷ []) bytes new
    noted_past le same = λ c known.
        let below = known_below c known in
        other_kept c known (ne_eqb code c (omega arith)) (ap (λ (l : List (Option FieldPlace)). get_or l c None) same)

-- ---- what is noted of the first bytes

pub slice_of_front : (front rest : List ℕ) (start n : ℕ) → start + n ≤ length front → take n (drop start (front ++ rest)) ≡ take n (drop start front)
slice_of_front front rest start n fits =
    ap (take n) (drop-append-le start front rest (omega (arith, fits))) ∙ take-append-le n (drop start front) rest (omega (arith, fits, length-drop start front))

-- a value that ends among them is noted of them
pub noted_front : (w : Want) (v : ValueTree) (front rest : List ℕ) (h : Held) → h.start + h.length ≤ length front → IsNoted w v (front ++ rest) h → IsNoted w v front h
noted_front Anything v front rest h fits is = tt
noted_front (OfType t) v front rest h fits is = (is.0 ∙ slice_of_front front rest h.start h.length fits, is.1)
noted_front (Name k) v front rest h fits is = (is.0 ∙ slice_of_front front rest h.start h.length fits, is.1)
noted_front Serial v front rest h fits is = (is.0 ∙ slice_of_front front rest h.start h.length fits, is.1)

noted_longer : (v : Option ValueTree) (front rest : List ℕ) (p : Option FieldPlace) → IsNotedOf v front p → IsNotedOf v (front ++ rest) p
noted_longer None front rest None is = tt
noted_longer None front rest (Some p) is = absurd is
noted_longer (Some v) front rest None is = absurd is
noted_longer (Some v) front rest (Some p) is = record {
  text = is.text ∙ sym (slice_of_front front rest p.start p.length is.inside);
  inside = omega (arith, is.inside, length-append front rest);
  number = is.number;
}

-- and is so of all of them
pub noted_of_all : (fs : List FieldTree) (n : ℕ) (bytes : List ℕ) (seen : FieldPlaces) → AreNoted fs (take n bytes) seen → AreNoted fs bytes seen
noted_of_all fs n bytes seen noted = subst (λ (l : List ℕ). AreNoted fs l seen) (take-append-drop n bytes) (λ c known. noted_longer (field_value c fs) (take n bytes) (drop n bytes) (get_or seen.places c None) (noted c known))

pub noted_of_more : (fs : List FieldTree) (n k : ℕ) (bytes : List ℕ) (seen : FieldPlaces) → AreNoted fs (take n bytes) seen → AreNoted fs (take (n + k) bytes) seen
noted_of_more fs n k bytes seen noted =
    subst (λ (l : List ℕ). AreNoted fs l seen) (sym (take-add n k bytes)) (λ c known. noted_longer (field_value c fs) (take n bytes) (take k (drop n bytes)) (get_or seen.places c None) (noted c known))

-- ---- where the texts begin

before_last : (c : ℕ) (fs : List FieldTree) (f : FieldTree) → has_code c fs ≡ false → eqb f.code c ≡ true → fields_before c (fs ++ f ∷ []) ≡ fs
before_last c [] f none is = rw is refl
before_last c (g ∷ fs) f none is =
    let parts = or_parts (eqb g.code c) (has_code c fs) none in
    ap (λ (b : Bool). cond b [] (g ∷ fields_before c (fs ++ f ∷ []))) parts.0 ∙ ap (λ (l : List FieldTree). g ∷ l) (before_last c fs f parts.1 is)

before_other : (c : ℕ) (fs : List FieldTree) (f : FieldTree) (v : ValueTree) → field_value c fs ≡ Some v → fields_before c (fs ++ f ∷ []) ≡ fields_before c fs
before_other c [] f v is = absurd cc
before_other c (g ∷ fs) f v is = go (eqb g.code c) is (λ e. before_other c fs f v e)
  where
    go : (b : Bool) → cond b (Some g.value) (field_value c fs) ≡ Some v → (field_value c fs ≡ Some v → fields_before c (fs ++ f ∷ []) ≡ fields_before c fs) → cond b [] (g ∷ fields_before c (fs ++ f ∷ [])) ≡ cond b [] (g ∷ fields_before c fs)
    go true e others = refl
    go false e others = ap (λ (l : List FieldTree). g ∷ l) (others e)

-- a field after others: its own text is placed after them, and the others stay
module _ (order : Order) (fs : List FieldTree) (seen new : FieldPlaces) (placed : ArePlaced order fs seen) (f : FieldTree) (alone : is_known f.code && has_code f.code fs ≡ false) where
  others_placed : (c : ℕ) (v : ValueTree) (p : FieldPlace) → is_known c ≡ true → eqb f.code c ≡ false → get_or new.places c None ≡ get_or seen.places c None
      → field_value c (fs ++ f ∷ []) ≡ Some v → get_or new.places c None ≡ Some p → p.start ≡ field_text_start order c (fs ++ f ∷ []) v
  others_placed c v p known other kept is noted =
      let was = sym (value_other c fs f other) ∙ is in
      placed c v p known was (sym kept ∙ noted) ∙ ap (λ (l : List FieldTree). text_start (known_start (field_start order l)) v) (sym (before_other c fs f v was))

  module _ (h : Held) (begins : is_known f.code ≡ true → h.start ≡ text_start (known_start (field_start order fs)) f.value) where
    last_placed : (c : ℕ) (v : ValueTree) (p : FieldPlace) → is_known c ≡ true → eqb f.code c ≡ true → get_or new.places f.code None ≡ Some (place_of h)
        → field_value c (fs ++ f ∷ []) ≡ Some v → get_or new.places c None ≡ Some p → p.start ≡ field_text_start order c (fs ++ f ∷ []) v
    last_placed c v p known same put is noted =
        let there : f.code ≡ c = eqb-true f.code c same in
        let is_one : is_known f.code ≡ true = subst (λ (k : ℕ). is_known k ≡ true) (sym there) known in
        let none : has_code c fs ≡ false = subst (λ (k : ℕ). has_code k fs ≡ false) there (ap (λ (b : Bool). b && has_code f.code fs) (sym is_one) ∙ alone) in
        let value : Some f.value ≡ Some v = sym (value_last c fs f none same) ∙ is in
        let one : f.value ≡ v = cc in
        let slot : Some (place_of h) ≡ Some p = sym (subst (λ (k : ℕ). get_or new.places k None ≡ Some (place_of h)) there put) ∙ noted in
        let at : place_of h ≡ p = cc in
        ap (λ (q : FieldPlace). q.start) (sym at) ∙ begins is_one ∙ ap (λ (w : ValueTree). text_start (known_start (field_start order fs)) w) one
        ∙ ap (λ (l : List FieldTree). text_start (known_start (field_start order l)) v) (sym (before_last c fs f none same))

    pub placed_more : length seen.places ≡ 10 → f.code < 10 → new.places ≡ set seen.places f.code (Some (place_of h)) → ArePlaced order (fs ++ f ∷ []) new
    placed_more ten lt put = λ c v p known is noted. go c v p known is noted (eqb f.code c) refl
      where
        go : (c : ℕ) (v : ValueTree) (p : FieldPlace) → is_known c ≡ true → field_value c (fs ++ f ∷ []) ≡ Some v → get_or new.places c None ≡ Some p → (same : Bool) → eqb f.code c ≡ same → p.start ≡ field_text_start order c (fs ++ f ∷ []) v
        go c v p known is noted true e =
            last_placed c v p known e (ap (λ (l : List (Option FieldPlace)). get_or l f.code None) put ∙ get_or-set_same seen.places f.code (Some (place_of h)) None (omega arith)) is noted
        go c v p known is noted false e =
            let ne = eqb-false f.code c e in
            others_placed c v p known e (ap (λ (l : List (Option FieldPlace)). get_or l c None) put ∙ get_or-set_other seen.places f.code c (Some (place_of h)) None (λ same. ne (sym same))) is noted

  -- a field that is not known
  pub placed_past : 10 ≤ f.code → new.places ≡ seen.places → ArePlaced order (fs ++ f ∷ []) new
  placed_past le same = λ c v p known is noted.
      let below = known_below c known in
      others_placed c v p known (ne_eqb f.code c (omega arith)) (ap (λ (l : List (Option FieldPlace)). get_or l c None) same) is noted

-- ---- the fields that are required

module _ (items : List ℕ) (i : ℕ) (here : i < length items) (fs : List FieldTree) where
  pub lacks_later : has_code (get_or items i 0) fs ≡ true → lacks (drop (i + 1) items) fs ≡ lacks (drop i items) fs
  lacks_later h = sym (rw (drop_more items i 0 here, h) refl)

-- every code that is required is a known field's
abbrev pub AreKnown : List ℕ → Type 0
AreKnown [] = Unit {0}
AreKnown (c ∷ cs) = (is_known c ≡ true) × AreKnown cs

either_known : (b : Bool) (x y : List ℕ) → AreKnown x → AreKnown y → AreKnown (cond b x y)
either_known true x y p q = p
either_known false x y p q = q

required_known : (kind : ℕ) → AreKnown (required kind)
required_known kind =
    either_known (eqb kind 1) _ _ (refl, (refl, tt)) (either_known (eqb kind 2) _ _ (refl, tt) (either_known (eqb kind 3) _ _ (refl, (refl, tt)) (either_known (eqb kind 4) _ _ (refl, (refl, (refl, tt))) tt)))

known_at : (items : List ℕ) (i : ℕ) → AreKnown items → i < length items → is_known (get_or items i 0) ≡ true
known_at [] i known here = absurd (omega arith)
known_at (c ∷ items) zero known here = known.0
known_at (c ∷ items) (suc i) known here = known_at items i known.1 (omega arith)

-- one of them that was not seen is lacked
pub lacks_one : (kind : ℕ) (items : List ℕ) (i : ℕ) (fs : List FieldTree) → items ≡ required kind → i < length items → is_known (get_or items i 0) && has_code (get_or items i 0) fs ≡ false → lacks (drop i items) fs ≡ None → ⊥
lacks_one kind items i fs is here unseen none =
    let known : is_known (get_or items i 0) ≡ true = known_at items i (subst AreKnown (sym is) (required_known kind)) here in
    let absent : has_code (get_or items i 0) fs ≡ false = ap (λ (b : Bool). b && has_code (get_or items i 0) fs) (sym known) ∙ unseen in
    let lacked : Some (reasons.FieldMissing (get_or items i 0)) ≡ None = rw (drop_more items i 0 here, absent) at none in
    absurd cc

-- ---- the signature and the descriptors

abbrev text_of : Option ValueTree → List ℕ
text_of None = []
text_of (Some v) = text_in v

abbrev number_of : Option ValueTree → ℕ
number_of None = 0
number_of (Some v) = number_in v

signature_of : (fs : List FieldTree) → body_signature fs ≡ text_of (field_value 8 fs)
signature_of [] = refl
signature_of (f ∷ fs) = elim (eqb f.code 8) as (λ b. cond b (text_in f.value) (body_signature fs) ≡ text_of (cond b (Some f.value) (field_value 8 fs))) [ true ↦ refl | false ↦ signature_of fs ]

count_of : (fs : List FieldTree) → fd_count fs ≡ number_of (field_value 9 fs)
count_of [] = refl
count_of (f ∷ fs) = elim (eqb f.code 9) as (λ b. cond b (number_in f.value) (fd_count fs) ≡ number_of (cond b (Some f.value) (field_value 9 fs))) [ true ↦ refl | false ↦ count_of fs ]

module _ (bytes : List ℕ) where
  abbrev pub text_at : Option FieldPlace → List ℕ
  text_at None = []
  text_at (Some p) = take p.length (drop p.start bytes)

  seen_text : (v : Option ValueTree) (p : Option FieldPlace) → IsNotedOf v bytes p → text_of v ≡ text_at p
  seen_text None None n = refl
  seen_text None (Some p) n = absurd n
  seen_text (Some v) None n = absurd n
  seen_text (Some v) (Some p) n = n.text

  abbrev pub number_at : Option FieldPlace → ℕ
  number_at None = 0
  number_at (Some p) = p.number

  seen_number : (v : Option ValueTree) (p : Option FieldPlace) → IsNotedOf v bytes p → number_of v ≡ number_at p
  seen_number None None n = refl
  seen_number None (Some p) n = absurd n
  seen_number (Some v) None n = absurd n
  seen_number (Some v) (Some p) n = n.number

  module _ (fs : List FieldTree) (seen : FieldPlaces) (noted : AreNoted fs bytes seen) where
    pub signature_there : body_signature fs ≡ text_at (get_or seen.places 8 None)
    signature_there = signature_of fs ∙ seen_text (field_value 8 fs) (get_or seen.places 8 None) (noted 8 refl)

    pub count_there : fd_count fs ≡ number_at (get_or seen.places 9 None)
    count_there = count_of fs ∙ seen_number (field_value 9 fs) (get_or seen.places 9 None) (noted 9 refl)
