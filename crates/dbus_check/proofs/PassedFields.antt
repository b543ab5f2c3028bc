-- Fields whose values are read in one go.
use Rattle.std.proofs.Common.{◌≡◌, ℕ, ◌+◌, List, [], ◌∷◌, ◌++◌, take, Bool, true, false, ◌||◌, ◌&&◌, cond, eqb, Result, Ok, Err, refl, sym, ap, subst, ◌∙◌, ◌≤◌, arith}
use Rattle.std.proofs.lemmas.Bool.{eq-eqb, ne_eqb, eqb-true}
use Rattle.dbus_texts.specs.Types.{UINT32, SIGNATURE, NumberType, TextType}
use Rattle.dbus_texts.specs.declared.text_kind.TextKind.{TextKind}
use Rattle.dbus_texts.specs.declared.text_kind.TextKind.TheVariants as kinds
use Rattle.dbus_value_model.specs.WantedTexts.{Of}
use Rattle.dbus_value_model.specs.declared.stop.Stop.{Stop}
use Rattle.dbus_value_model.specs.declared.stop.Stop.TheVariants as stops
use Rattle.dbus_value_model.specs.Values.{ValueTree}
use Rattle.dbus_value_model.specs.Reading.{Reader, Outcome, after, pure}
use Rattle.dbus_message_model.specs.Messages.{Want, Name, OfType, want, is_known, text_in, number_in}
use Rattle.dbus_value_laws.proofs.ReadSteps.{after_after, same_after}
use Rattle.dbus_value_checker.specs.Fronts.{Fronts}
use Rattle.dbus_value_checker.specs.Suspended.{On}
use Rattle.dbus_check.specs.Heading.{seen_as, Kept, kept_of, has, fields_on}
use Rattle.dbus_check.specs.Progress.{Sees, To, Passes, Keeps, WantsValue}
use Rattle.dbus_header.specs.HeaderReading.{wanted_value}
use Rattle.dbus_check.specs.declared.progress.Progress.{Progress}

-- ---- a value is passed

module _ {B : Type 0} (run : Reader ValueTree) (g : ValueTree → B) (kept_is : ValueTree → Kept) (told : B → Kept) (more : Kept → On) (same : (v : ValueTree) → kept_is v ≡ told (g v)) where
  told_after : (o : ℕ) (s : List ℕ) → after (run o s) (λ v. more (kept_is v)) ≡ after (seen_as g run o s) (λ b. more (told b))
  told_after o s = same_after (run o s) _ _ (λ v p t. ap (λ (k : Kept). more k p t) (same v)) ∙ sym (after_after (run o s) (λ v. pure (g v)) (λ b. more (told b)))

  pub value_taken : {X : Type 0} (view : X → B × ℕ) (o : ℕ) (s : List ℕ) (x : X) → Fronts view o s (Ok x) (seen_as g run) → (c : List ℕ) → after (run o (take (view x).1 s ++ c)) (λ v. more (kept_is v)) ≡ more (told (view x).0) (o + (view x).1) c
  value_taken view o s x h c = told_after o (take (view x).1 s ++ c) ∙ ap (λ (r : Outcome B). after r (λ b. more (told b))) (h.1 c)

  pub value_stops : {X : Type 0} (view : X → B × ℕ) (o : ℕ) (s : List ℕ) (e : Stop) → Fronts view o s (Err e) (seen_as g run) → (x : Progress) (to : To) → ((c : List ℕ) → after (run o c) (λ v. more (kept_is v)) ≡ to c) → Passes x s (Err e) x to
  value_stops view o s stops.Partial h x to is = (refl, sym (is s) ∙ told_after o s ∙ ap (λ (r : Outcome B). after r (λ b. more (told b))) h)
  value_stops view o s (stops.Refused f) h x to is = λ c. sym (is (s ++ c)) ∙ told_after o (s ++ c) ∙ ap (λ (r : Outcome B). after r (λ b. more (told b))) (h c)

-- ---- codes

chosen : (P : Want → Type 0) (b : Bool) (x y : Want) → (b ≡ true → P x) → (b ≡ false → P y) → P (cond b x y)
chosen P true x y p q = p refl
chosen P false x y p q = q refl

pub signature_code : (code : ℕ) → OfType (TextType SIGNATURE) ≡ want code → code ≡ 8
signature_code code h = find h
  where
    find : OfType (TextType SIGNATURE) ≡ want code → code ≡ 8
    find = let P : Want → Type 0 = λ w. OfType (TextType SIGNATURE) ≡ w → code ≡ 8 in
        chosen P (eqb code 1) _ _ (λ b e. absurd cc) (λ n. chosen P (eqb code 2) _ _ (λ b e. absurd cc) (λ n. chosen P (eqb code 3) _ _ (λ b e. absurd cc) (λ n. chosen P (eqb code 4) _ _ (λ b e. absurd cc)
        (λ n. chosen P (eqb code 5) _ _ (λ b e. absurd cc) (λ n. chosen P (eqb code 6) _ _ (λ b e. absurd cc) (λ n. chosen P (eqb code 7) _ _ (λ b e. absurd cc)
        (λ n. chosen P (eqb code 8) _ _ (λ b e. eqb-true code 8 b) (λ n. chosen P (eqb code 9) _ _ (λ b e. absurd cc) (λ n e. absurd cc)))))))))

pub count_code : (code : ℕ) → OfType (NumberType UINT32) ≡ want code → code ≡ 9
count_code code h = find h
  where
    find : OfType (NumberType UINT32) ≡ want code → code ≡ 9
    find = let P : Want → Type 0 = λ w. OfType (NumberType UINT32) ≡ w → code ≡ 9 in
        chosen P (eqb code 1) _ _ (λ b e. absurd cc) (λ n. chosen P (eqb code 2) _ _ (λ b e. absurd cc) (λ n. chosen P (eqb code 3) _ _ (λ b e. absurd cc) (λ n. chosen P (eqb code 4) _ _ (λ b e. absurd cc)
        (λ n. chosen P (eqb code 5) _ _ (λ b e. absurd cc) (λ n. chosen P (eqb code 6) _ _ (λ b e. absurd cc) (λ n. chosen P (eqb code 7) _ _ (λ b e. absurd cc)
        (λ n. chosen P (eqb code 8) _ _ (λ b e. absurd cc) (λ n. chosen P (eqb code 9) _ _ (λ b e. eqb-true code 9 b) (λ n e. absurd cc)))))))))

-- no name is the signature of a variant
pub name_code : (k : TextKind) (code : ℕ) → Name (Of k) ≡ want code → k ≡ kinds.Single → ⊥
name_code k code h single = find h
  where
    find : Name (Of k) ≡ want code → ⊥
    find = let P : Want → Type 0 = λ w. Name (Of k) ≡ w → ⊥ in
        chosen P (eqb code 1) _ _ (λ b e. absurd cc) (λ n. chosen P (eqb code 2) _ _ (λ b e. absurd cc) (λ n. chosen P (eqb code 3) _ _ (λ b e. absurd cc) (λ n. chosen P (eqb code 4) _ _ (λ b e. absurd cc)
        (λ n. chosen P (eqb code 5) _ _ (λ b e. absurd cc) (λ n. chosen P (eqb code 6) _ _ (λ b e. absurd cc) (λ n. chosen P (eqb code 7) _ _ (λ b e. absurd cc)
        (λ n. chosen P (eqb code 8) _ _ (λ b e. absurd cc) (λ n. chosen P (eqb code 9) _ _ (λ b e. absurd cc) (λ n e. absurd cc)))))))))

-- neither of these codes
pub plain_code : (u : Want) (code : ℕ) → u ≡ want code → (u ≡ OfType (TextType SIGNATURE) → ⊥) → (u ≡ OfType (NumberType UINT32) → ⊥) → (code ≡ 8 → ⊥) × (code ≡ 9 → ⊥)
plain_code u code h a b = (λ e. a (h ∙ ap want e), λ e. b (h ∙ ap want e))

-- ---- what is kept

abbrev pub the_kept : List ℕ → List ℕ → ℕ → Kept
the_kept codes text count = record { codes = codes; text = text; count = count }

kept_still : {A : Type 0} (b : Bool) (x none : A) → (b ≡ false → x ≡ none) → cond b x none ≡ x
kept_still true x none h = refl
kept_still false x none h = sym (h refl)

new_kept : {A : Type 0} (b : Bool) (x here : A) → b ≡ false → cond b x here ≡ here
new_kept b x here h = ap (λ (b : Bool). cond b x here) h

module _ (kept : Kept) (code : ℕ) (no_text : has 8 kept.codes ≡ false → kept.text ≡ []) (no_count : has 9 kept.codes ≡ false → kept.count ≡ 0) (v : ValueTree) where
  text_still : (code ≡ 8 → ⊥) → (kept_of kept code v).text ≡ kept.text
  text_still n = ap (λ (b : Bool). cond (has 8 kept.codes) kept.text (cond b (text_in v) [])) (ne_eqb code 8 n) ∙ kept_still (has 8 kept.codes) kept.text [] no_text

  count_still : (code ≡ 9 → ⊥) → (kept_of kept code v).count ≡ kept.count
  count_still n = ap (λ (b : Bool). cond (has 9 kept.codes) kept.count (cond b (number_in v) 0)) (ne_eqb code 9 n) ∙ kept_still (has 9 kept.codes) kept.count 0 no_count

  joined : (text : List ℕ) (count : ℕ) → (kept_of kept code v).text ≡ text → (kept_of kept code v).count ≡ count → kept_of kept code v ≡ the_kept (code ∷ kept.codes) text count
  joined text count t c = ap (λ (u : List ℕ). the_kept (code ∷ kept.codes) u (kept_of kept code v).count) t ∙ ap (the_kept (code ∷ kept.codes) text) c

  pub kept_plain : (code ≡ 8 → ⊥) → (code ≡ 9 → ⊥) → kept_of kept code v ≡ the_kept (code ∷ kept.codes) kept.text kept.count
  kept_plain n m = joined kept.text kept.count (text_still n) (count_still m)

  pub kept_text : code ≡ 8 → is_known code && has code kept.codes ≡ false → kept_of kept code v ≡ the_kept (code ∷ kept.codes) (text_in v) kept.count
  kept_text e once =
      let first : has 8 kept.codes ≡ false = sym (ap (λ (c : ℕ). is_known c && has c kept.codes) e) ∙ once in
      joined (text_in v) kept.count (new_kept (has 8 kept.codes) kept.text (cond (eqb code 8) (text_in v) []) first ∙ ap (λ (b : Bool). cond b (text_in v) []) (eq-eqb code 8 e)) (count_still (λ d. omega arith))

  pub kept_count : code ≡ 9 → is_known code && has code kept.codes ≡ false → kept_of kept code v ≡ the_kept (code ∷ kept.codes) kept.text (number_in v)
  kept_count e once =
      let first : has 9 kept.codes ≡ false = sym (ap (λ (c : ℕ). is_known c && has c kept.codes) e) ∙ once in
      joined kept.text (number_in v) (text_still (λ d. omega arith)) (new_kept (has 9 kept.codes) kept.count (cond (eqb code 9) (number_in v) 0) first ∙ ap (λ (b : Bool). cond b (number_in v) 0) (eq-eqb code 9 e))

-- of codes with one more in front, what is not there was not there
pub not_before : (c code : ℕ) (codes : List ℕ) → has c (code ∷ codes) ≡ false → (has c codes ≡ false) × (code ≡ c → ⊥)
not_before c code codes h = (rest (eqb code c) (has c codes) h, λ e. let t : true ≡ false = sym (ap (λ (b : Bool). b || has c codes) (eq-eqb code c e)) ∙ h in absurd cc)
  where
    rest : (a b : Bool) → (a || b) ≡ false → b ≡ false
    rest true b h = absurd cc
    rest false b h = h

-- ---- a field that is passed

-- the same message, further on
pub record Moved (x y : Progress) (o : ℕ) : Type 0 where
  pub limits : y.limits ≡ x.limits
  pub order : y.order ≡ x.order
  pub kind : y.kind ≡ x.kind
  pub body : y.body ≡ x.body
  pub end : y.end ≡ x.end
  pub offset : y.offset ≡ o

-- with one code more, of neither a signature nor a count
pub keeps_plain : (x y : Progress) (kept : Kept) (code : ℕ) → Keeps x kept → Sees y.seen (code ∷ kept.codes) → y.signature.items ≡ x.signature.items → y.fds ≡ x.fds → Keeps y (the_kept (code ∷ kept.codes) kept.text kept.count)
keeps_plain x y kept code k sees signature count = record {
  sees = sees;
  text = signature ∙ k.text;
  signature = k.signature;
  count = count ∙ k.count;
  no_text = λ h. k.no_text (not_before 8 code kept.codes h).0;
  no_count = λ h. k.no_count (not_before 9 code kept.codes h).0;
}

module _ (x : Progress) (code n : ℕ) (to : To) (w : WantsValue x code n to) (u : Want) (u_is : u ≡ want code) (s : List ℕ) where
  module _ {B X : Type 0} (g : ValueTree → B) (told : B → Kept) (view : X → B × ℕ) (same : (v : ValueTree) → kept_of w.kept code v ≡ told (g v)) where
    abbrev Gives : Result X Stop → Type 0
    Gives r = Fronts view (x.offset + n) s r (seen_as g (wanted_value x.limits x.order x.end u))

    given : (r : Result X Stop) → Gives r → Fronts view (x.offset + n) s r (seen_as g (wanted_value x.limits x.order x.end (want code)))
    given r h = subst (λ (v : Want). Fronts view (x.offset + n) s r (seen_as g (wanted_value x.limits x.order x.end v))) u_is h

    pub field_stops : (e : Stop) → Gives (Err e) → Passes x s (Err e) x to
    field_stops e h = value_stops (wanted_value x.limits x.order x.end (want code)) g (kept_of w.kept code) told (fields_on x.limits x.order x.kind x.body w.turns x.end) same view (x.offset + n) s e (given (Err e) h) x to w.same

    pub field_passed : (y : Progress) (z : X) → Gives (Ok z) → Moved x y (x.offset + n + (view z).1) → x.offset + n + (view z).1 ≤ x.end → Keeps y (told (view z).0) → Passes x s (Ok (view z).1) y to
    field_passed y z h moved low keeps =
        let turns_is = w.turns_is in
        let near = w.near in
        let taken = value_taken (wanted_value x.limits x.order x.end (want code)) g (kept_of w.kept code) told (fields_on x.limits x.order x.kind x.body w.turns x.end) same view (x.offset + n) s z (given (Ok z) h) in (
          h.0,
          record {
            kept = told (view z).0;
            turns = w.turns;
            keeps = keeps;
            low = omega arith;
            turns_is = omega arith;
            near = omega arith;
            same = λ t. rw (moved.limits, moved.order, moved.kind, moved.body, moved.end, moved.offset) (sym (taken t) ∙ w.same (take (view z).1 s ++ t));
          },
        )

  -- one of whose value nothing is kept
  module _ (other : (code ≡ 8 → ⊥) × (code ≡ 9 → ⊥)) where
    abbrev plain : {B : Type 0} → B → Kept
    plain b = the_kept (code ∷ w.kept.codes) w.kept.text w.kept.count

    same_plain : {B : Type 0} (g : ValueTree → B) (v : ValueTree) → kept_of w.kept code v ≡ plain (g v)
    same_plain g v = kept_plain w.kept code w.keeps.no_text w.keeps.no_count v other.0 other.1

    module _ {B X : Type 0} (g : ValueTree → B) (view : X → B × ℕ) where
      pub plain_stops : (e : Stop) → Fronts view (x.offset + n) s (Err e) (seen_as g (wanted_value x.limits x.order x.end u)) → Passes x s (Err e) x to
      plain_stops e h = field_stops g plain view (same_plain g) e h

      pub plain_passed : (y : Progress) (z : X) → Fronts view (x.offset + n) s (Ok z) (seen_as g (wanted_value x.limits x.order x.end u)) → Moved x y (x.offset + n + (view z).1) → x.offset + n + (view z).1 ≤ x.end
          → Sees y.seen (code ∷ w.kept.codes) → y.signature.items ≡ x.signature.items → y.fds ≡ x.fds → Passes x s (Ok (view z).1) y to
      plain_passed y z h moved low sees signature count = field_passed g plain view (same_plain g) y z h moved low (keeps_plain x y w.kept code w.keeps sees signature count)
