-- The steps of a signature.
use Rattle.std.proofs.Common.{◌≡◌, ℕ, ◌+◌, ◌-◌, ◌<◌, ◌≤◌, Bool, true, false, cond, eqb, ltb, Option, Some, None, List, [], ◌∷◌, ◌++◌, ◌⊎◌, ⊎_elim, inl, inr, refl, sym, ap, ◌∙◌, subst, arith, append_assoc, append-nil, length, length-append, take_at, zero, suc, take}
use Rattle.std.specs.Prelude.{slice_get}
use Rattle.std.proofs.lemmas.Bool.{cond_both, eqb-true, eqb-false, ltb-true, ltb-false, false≢true}
use Rattle.std.proofs.lemmas.Option.{slice_get-get_or}
use Rattle.std.proofs.lemmas.List.{get_or_push, length_push}
use Rattle.dbus_texts.specs.declared.signature.Frame.{Frame}
use Rattle.dbus_texts.specs.declared.signature.SigPlace.{SigPlace}
use Rattle.dbus_texts.specs.declared.signature.SigPlace.TheVariants.{After, One, Element, Key}
use Rattle.dbus_texts.specs.Quotients.{IsStepFrom, IsStep, Moves}
use Rattle.dbus_texts.proofs.TypeTexts.{sig_positive}
use Rattle.dbus_texts.proofs.NameSteps.{number_is_basic, text_is_basic, number_is_code, text_is_code, basic_type, code_type}
use Rattle.dbus_texts.specs.Types.{TypeTree, NumberType, TextType, VariantType, BYTE, number_code, text_code, TypeTrees, ArrayType, StructType, EntryType, NoTypes, MoreTypes, sig, sigs, IsComplete, AreComplete}
use Rattle.dbus_texts.specs.SignatureScans.{is_basic_code, is_type_code, OneThen, MoreThen, CloseThen, KeyThen, frame_rest_at, frame_rest, frames_rest, AtTop, SigState, after, sig_rest, sig_state, frame, begin, innermost, others, in_frame_at, past, sig_next_at, sig_next, no_frames, sig_end_at, AreBounded}
use Rattle.dbus_texts.specs.Kinds.{IsSignature, IsSingle}

-- how a struct's text joins with what follows
pub struct_spelled : (x y r : List ℕ) → ((x ++ y) ++ 41 ∷ []) ++ r ≡ x ++ (y ++ 41 ∷ r)
struct_spelled x y r = append_assoc (x ++ y) (41 ∷ []) r ∙ append_assoc x y (41 ∷ r)

-- the first byte of a complete type
abbrev Begun : Bool → ℕ → ℕ → (List ℕ → Type 0) → ℕ → List ℕ → Type 0
Begun inside a s K b c =
    ((is_type_code b ≡ true) × K c)
    ⊎ (((b ≡ 97) × (a < 32) × OneThen true (a + 1) s K c)
    ⊎ (((b ≡ 40) × (s < 32) × OneThen false a (s + 1) (MoreThen a (s + 1) K) c)
    ⊎ ((b ≡ 123) × (inside ≡ true) × KeyThen a s (CloseThen K) c)))

entry_at : (inside : Bool) (a s : ℕ) (K : List ℕ → Type 0) (b : ℕ) (c : List ℕ) (n : ℕ) (v : TypeTree) (rest : List ℕ) → is_basic_code n ≡ true → inside ≡ true → IsComplete v false a s → K rest → b ∷ c ≡ 123 ∷ n ∷ ((sig v ++ 125 ∷ []) ++ rest) → Begun inside a s K b c
entry_at inside a s K b c n v rest z i h k e =
    let tail : n ∷ ((sig v ++ 125 ∷ []) ++ rest) ≡ c = cc in
    let f : KeyThen a s (CloseThen K) (n ∷ ((sig v ++ 125 ∷ []) ++ rest)) = (z, record { first = v; rest = 125 ∷ rest; complete = h; follows = (refl, k); spelled = append_assoc (sig v) (125 ∷ []) rest }) in
    inr (inr (inr (cc, i, subst (λ w. KeyThen a s (CloseThen K) w) tail f)))

code_at : (inside : Bool) (a s : ℕ) (K : List ℕ → Type 0) (b : ℕ) (c : List ℕ) (n : ℕ) (rest : List ℕ) → is_type_code n ≡ true → K rest → b ∷ c ≡ n ∷ rest → Begun inside a s K b c
code_at inside a s K b c n rest z k e =
    let same : b ≡ n = cc in
    let end : rest ≡ c = cc in
    inl (ap is_type_code same ∙ z, subst K end k)

one_at : (inside : Bool) (a s : ℕ) (K : List ℕ → Type 0) (b : ℕ) (c : List ℕ) (t : TypeTree) (rest : List ℕ) → IsComplete t inside a s → K rest → b ∷ c ≡ sig t ++ rest → Begun inside a s K b c
one_at inside a s K b c (NumberType n) rest h k e = code_at inside a s K b c (number_code n) rest (number_is_code n) k e
one_at inside a s K b c (TextType n) rest h k e = code_at inside a s K b c (text_code n) rest (text_is_code n) k e
one_at inside a s K b c VariantType rest h k e = code_at inside a s K b c 118 rest refl k e
one_at inside a s K b c (ArrayType t) rest h k e =
    inr (inl (cc, h.0, record { first = t; rest = rest; complete = h.1; follows = k; spelled = cc }))
one_at inside a s K b c (StructType NoTypes) rest h k e = absurd h.1
one_at inside a s K b c (StructType (MoreTypes t ts)) rest h k e =
    let tail : c ≡ ((sig t ++ sigs ts) ++ 41 ∷ []) ++ rest = cc in
    inr (inr (inl (cc, h.0, record { first = t; rest = sigs ts ++ 41 ∷ rest; complete = h.2.0; follows = record { types = ts; rest = rest; complete = h.2.1; follows = k; spelled = refl }; spelled = tail ∙ struct_spelled (sig t) (sigs ts) rest })))
one_at inside a s K b c (EntryType (NumberType x) v) rest h k e = entry_at inside a s K b c (number_code x) v rest (number_is_basic x) h.0 h.2 k e
one_at inside a s K b c (EntryType (TextType x) v) rest h k e = entry_at inside a s K b c (text_code x) v rest (text_is_basic x) h.0 h.2 k e
one_at inside a s K b c (EntryType _ v) rest h k e = absurd h.1

one_head : (inside : Bool) (a s : ℕ) (K : List ℕ → Type 0) (b : ℕ) (c : List ℕ) → OneThen inside a s K (b ∷ c) → Begun inside a s K b c
one_head inside a s K b c h = one_at inside a s K b c h.first h.rest h.complete h.follows h.spelled

from_code : (inside : Bool) (a s : ℕ) (K : List ℕ → Type 0) (b : ℕ) (c : List ℕ) → is_type_code b ≡ true → K c → OneThen inside a s K (b ∷ c)
from_code inside a s K b c e k =
    let t = code_type b e in
    record { first = t.0; rest = c; complete = t.2 inside a s; follows = k; spelled = ap (λ w. w ++ c) (sym t.1) }

from_array : (inside : Bool) (a s : ℕ) (K : List ℕ → Type 0) (b : ℕ) (c : List ℕ) → b ≡ 97 → a < 32 → OneThen true (a + 1) s K c → OneThen inside a s K (b ∷ c)
from_array inside a s K b c e l h = record { first = ArrayType h.first; rest = h.rest; complete = (l, h.complete); follows = h.follows; spelled = cc (e, h.spelled) }

from_struct : (inside : Bool) (a s : ℕ) (K : List ℕ → Type 0) (b : ℕ) (c : List ℕ) → b ≡ 40 → s < 32 → OneThen false a (s + 1) (MoreThen a (s + 1) K) c → OneThen inside a s K (b ∷ c)
from_struct inside a s K b c e l h =
    let m = h.follows in
    let tail : c ≡ ((sig h.first ++ sigs m.types) ++ 41 ∷ []) ++ m.rest = h.spelled ∙ ap (λ w. sig h.first ++ w) m.spelled ∙ sym (struct_spelled (sig h.first) (sigs m.types) m.rest) in
    record { first = StructType (MoreTypes h.first m.types); rest = m.rest; complete = (l, tt, (h.complete, m.complete)); follows = m.follows; spelled = cc (e, tail) }

close_at : (inside : Bool) (a s : ℕ) (K : List ℕ → Type 0) (b k : ℕ) (c : List ℕ) (v : TypeTree) (rest : List ℕ) → b ≡ 123 → inside ≡ true → is_basic_code k ≡ true → IsComplete v false a s → CloseThen K rest → c ≡ sig v ++ rest → OneThen inside a s K (b ∷ k ∷ c)
close_at inside a s K b k c v [] e i z h f q = absurd f
close_at inside a s K b k c v (x ∷ rest) e i z h f q =
    let tail : c ≡ (sig v ++ 125 ∷ []) ++ rest = q ∙ ap (λ y. sig v ++ y ∷ rest) f.0 ∙ sym (append_assoc (sig v) (125 ∷ []) rest) in
    let t = basic_type k z in
    let front : k ∷ c ≡ (sig t.0 ++ (sig v ++ 125 ∷ [])) ++ rest = ap (λ y. k ∷ y) tail ∙ ap (λ w. (w ++ (sig v ++ 125 ∷ [])) ++ rest) (sym t.1) in
    record { first = EntryType t.0 v; rest = rest; complete = (i, t.2, h); follows = f.1; spelled = cc (e, front) }

from_entry : (inside : Bool) (a s : ℕ) (K : List ℕ → Type 0) (b : ℕ) (c : List ℕ) → b ≡ 123 → inside ≡ true → KeyThen a s (CloseThen K) c → OneThen inside a s K (b ∷ c)
from_entry inside a s K b [] e i h = absurd h
from_entry inside a s K b (k ∷ c) e i h = close_at inside a s K b k c h.1.first h.1.rest e i h.0 h.1.complete h.1.follows h.1.spelled

-- the first byte of what is left of a struct
more_at : (a s : ℕ) (K : List ℕ → Type 0) (b : ℕ) (c : List ℕ) (ts : TypeTrees) (rest : List ℕ) → AreComplete ts a s → K rest → b ∷ c ≡ sigs ts ++ 41 ∷ rest → ((b ≡ 41) × K c) ⊎ OneThen false a s (MoreThen a s K) (b ∷ c)
more_at a s K b c NoTypes rest h k e =
    let end : rest ≡ c = cc in
    inl (cc, subst K end k)
more_at a s K b c (MoreTypes t ts) rest h k e =
    inr (record { first = t; rest = sigs ts ++ 41 ∷ rest; complete = h.0; follows = record { types = ts; rest = rest; complete = h.1; follows = k; spelled = refl }; spelled = e ∙ append_assoc (sig t) (sigs ts) (41 ∷ rest) })

more_head : (a s : ℕ) (K : List ℕ → Type 0) (b : ℕ) (c : List ℕ) → MoreThen a s K (b ∷ c) → ((b ≡ 41) × K c) ⊎ OneThen false a s (MoreThen a s K) (b ∷ c)
more_head a s K b c h = more_at a s K b c h.types h.rest h.complete h.follows h.spelled

more_close : (a s : ℕ) (K : List ℕ → Type 0) (b : ℕ) (c : List ℕ) → b ≡ 41 → K c → MoreThen a s K (b ∷ c)
more_close a s K b c e k = record { types = NoTypes; rest = c; complete = tt; follows = k; spelled = ap (λ x. x ∷ c) e }

more_one : (a s : ℕ) (K : List ℕ → Type 0) (c : List ℕ) → OneThen false a s (MoreThen a s K) c → MoreThen a s K c
more_one a s K c h =
    let m = h.follows in
    record { types = MoreTypes h.first m.types; rest = m.rest; complete = (h.complete, m.complete); follows = m.follows; spelled = h.spelled ∙ ap (λ w. sig h.first ++ w) m.spelled ∙ sym (append_assoc (sig h.first) (sigs m.types) (41 ∷ m.rest)) }

-- the first byte of a signature
signature_at : (b : ℕ) (c : List ℕ) (ts : TypeTrees) → AreComplete ts 0 0 → b ∷ c ≡ sigs ts → OneThen false 0 0 IsSignature (b ∷ c)
signature_at b c NoTypes h e = cc
signature_at b c (MoreTypes t ts) h e = record { first = t; rest = sigs ts; complete = h.0; follows = (ts, h.1, refl); spelled = e }

signature_head : (b : ℕ) (c : List ℕ) → IsSignature (b ∷ c) → OneThen false 0 0 IsSignature (b ∷ c)
signature_head b c h = signature_at b c h.0 h.1 h.2

signature_from : (c : List ℕ) → OneThen false 0 0 IsSignature c → IsSignature c
signature_from c h = (MoreTypes h.first h.follows.0, (h.complete, h.follows.1), h.spelled ∙ ap (λ w. sig h.first ++ w) h.follows.2)

-- one frame more
frames_push : (fs : List Frame) (f : Frame) (K : List ℕ → Type 0) → frames_rest (fs ++ f ∷ []) K ≡ frame_rest f (frames_rest fs K)
frames_push [] f K = refl
frames_push (g ∷ fs) f K = frames_push fs f (frame_rest g K)

after_push : (single : Bool) (fs : List Frame) (f : Frame) → after single (fs ++ f ∷ []) ≡ frame_rest f (after single fs)
after_push single fs f = frames_push fs f (AtTop single)

-- something may always follow
one_some : (inside : Bool) (a s : ℕ) (K : List ℕ → Type 0) → (c : List ℕ) × K c → (c : List ℕ) × OneThen inside a s K c
one_some inside a s K k = (121 ∷ k.0, from_code inside a s K 121 k.0 refl k.1)

key_some : (a s : ℕ) (K : List ℕ → Type 0) → (c : List ℕ) × K c → (c : List ℕ) × KeyThen a s K c
key_some a s K k =
    let o = one_some false a s K k in
    (121 ∷ o.0, (refl, o.1))

frame_rest_some_at : (e : Bool) (a s : ℕ) (K : List ℕ → Type 0) → (c : List ℕ) × K c → (c : List ℕ) × frame_rest_at e a s K c
frame_rest_some_at true a s K k = (125 ∷ k.0, (refl, k.1))
frame_rest_some_at false a s K k = (41 ∷ k.0, more_close a s K 41 k.0 refl k.1)

frames_rest_some : (fs : List Frame) (K : List ℕ → Type 0) → (c : List ℕ) × K c → (c : List ℕ) × frames_rest fs K c
frames_rest_some [] K k = k
frames_rest_some (f ∷ fs) K k = frames_rest_some fs (frame_rest f K) (frame_rest_some_at f.entry f.arrays f.structs K k)

top_some : (single : Bool) → (c : List ℕ) × AtTop single c
top_some true = ([], refl)
top_some false = ([], (NoTypes, tt, refl))

after_some : (single : Bool) (fs : List Frame) → (c : List ℕ) × after single fs c
after_some single fs = frames_rest_some fs (AtTop single) (top_some single)

-- a complete type begins
module _ (single inside : Bool) (a s : ℕ) (fs : List Frame) (b : ℕ) where
  abbrev K : List ℕ → Type 0
  K = after single fs

  begin_code : is_type_code b ≡ true → Moves (OneThen inside a s K) b K
  begin_code e =
      record {
        to = λ c h. let w = one_head inside a s K b c h in grind arith;
        from = λ c h. from_code inside a s K b c e h;
        some = after_some single fs;
      }

  begin_array : b ≡ 97 → a < 32 → Moves (OneThen inside a s K) b (OneThen true (a + 1) s K)
  begin_array e l =
      record {
        to = λ c h. let w = one_head inside a s K b c h in grind arith;
        from = λ c h. from_array inside a s K b c e l h;
        some = one_some true (a + 1) s K (after_some single fs);
      }

  begin_struct : b ≡ 40 → s < 32 → Moves (OneThen inside a s K) b (OneThen false a (s + 1) (after single (fs ++ frame false a (s + 1) ∷ [])))
  begin_struct e l =
      subst (λ L. Moves (OneThen inside a s K) b (OneThen false a (s + 1) L)) (sym (after_push single fs (frame false a (s + 1)))) (record {
        to = λ c h. let w = one_head inside a s K b c h in grind arith;
        from = λ c h. from_struct inside a s K b c e l h;
        some = one_some false a (s + 1) (MoreThen a (s + 1) K) (frame_rest_some_at false a (s + 1) K (after_some single fs));
      })

  begin_entry : b ≡ 123 → inside ≡ true → Moves (OneThen inside a s K) b (KeyThen a s (after single (fs ++ frame true a s ∷ [])))
  begin_entry e i =
      subst (λ L. Moves (OneThen inside a s K) b (KeyThen a s L)) (sym (after_push single fs (frame true a s))) (record {
        to = λ c h. let w = one_head inside a s K b c h in grind arith;
        from = λ c h. from_entry inside a s K b c e i h;
        some = key_some a s (CloseThen K) (frame_rest_some_at true a s K (after_some single fs));
      })

  -- nothing else begins one
  begin_dead : is_type_code b ≡ false → (b ≡ 97 → a < 32 → ⊥) → (b ≡ 40 → s < 32 → ⊥) → (b ≡ 123 → inside ≡ true → ⊥) → (c : List ℕ) → OneThen inside a s K (b ∷ c) → ⊥
  begin_dead n1 n2 n3 n4 c h = let w = one_head inside a s K b c h in grind arith

begin_moves : (single inside : Bool) (a s : ℕ) (fs : List Frame) (b : ℕ) → IsStepFrom sig_rest (OneThen inside a s (after single fs)) b (begin single inside a s fs b)
begin_moves single inside a s fs b =
    let P : Option SigState → Type 0 = λ o. IsStepFrom sig_rest (OneThen inside a s (after single fs)) b o in
    cond_both (is_type_code b) _ _ P (λ e. begin_code single inside a s fs b e)
    (λ n1. cond_both (eqb b 97) _ _ P
    (λ e. let at : b ≡ 97 = eqb-true b 97 e in
    cond_both (ltb a 32) _ _ P (λ l. begin_array single inside a s fs b at (ltb-true a 32 l))
    (λ l. let over : 32 ≤ a = ltb-false a 32 l in begin_dead single inside a s fs b n1 (λ x y. omega arith) (λ x y. omega arith) (λ x y. omega arith)))
    (λ n2. cond_both (eqb b 40) _ _ P
    (λ e. let at : b ≡ 40 = eqb-true b 40 e in
    cond_both (ltb s 32) _ _ P (λ l. begin_struct single inside a s fs b at (ltb-true s 32 l))
    (λ l. let over : 32 ≤ s = ltb-false s 32 l in begin_dead single inside a s fs b n1 (λ x y. omega arith) (λ x y. omega arith) (λ x y. omega arith)))
    (λ n3. cond_both (eqb b 123) _ _ P
    (λ e. let at : b ≡ 123 = eqb-true b 123 e in
    cond_both inside _ _ P (λ l. begin_entry single inside a s fs b at l)
    (λ l. begin_dead single inside a s fs b n1 (λ x y. omega arith) (λ x y. omega arith) (λ x y. false≢true (sym l ∙ y))))
    (λ n4. begin_dead single inside a s fs b n1 (λ x y. eqb-false b 97 n2 x) (λ x y. eqb-false b 40 n3 x) (λ x y. eqb-false b 123 n4 x)))))

-- the same bytes lead on from two sets that agree on them
step_along : (R Q : List ℕ → Type 0) (b : ℕ) (o : Option SigState) → ((c : List ℕ) → R (b ∷ c) → Q (b ∷ c)) → ((c : List ℕ) → Q (b ∷ c) → R (b ∷ c)) → IsStepFrom sig_rest Q b o → IsStepFrom sig_rest R b o
step_along R Q b None to from h = λ c r. h c (to c r)
step_along R Q b (Some t) to from h = record { to = λ c r. h.to c (to c r); from = λ c r. from c (h.from c r); some = h.some }

-- within a frame
in_entry : (single : Bool) (pa ps a s : ℕ) (front : List Frame) (b : ℕ) → IsStepFrom sig_rest (after single (front ++ frame true a s ∷ [])) b (cond (eqb b 125) (Some (sig_state single After pa ps front)) None)
in_entry single pa ps a s front b =
    subst (λ R. IsStepFrom sig_rest R b (cond (eqb b 125) (Some (sig_state single After pa ps front)) None)) (sym (after_push single front (frame true a s)))
    (cond_both (eqb b 125) _ _ (λ o. IsStepFrom sig_rest (CloseThen (after single front)) b o)
    (λ e. record { to = λ c h. h.1; from = λ c h. (eqb-true b 125 e, h); some = after_some single front })
    (λ n. λ c h. eqb-false b 125 n h.0))

in_struct : (single : Bool) (pa ps a s : ℕ) (front : List Frame) (b : ℕ) → IsStepFrom sig_rest (after single (front ++ frame false a s ∷ [])) b (cond (eqb b 41) (Some (sig_state single After pa ps front)) (begin single false a s (front ++ frame false a s ∷ []) b))
in_struct single pa ps a s front b =
    let fs = front ++ frame false a s ∷ [] in
    let K : List ℕ → Type 0 = after single front in
    let same = after_push single front (frame false a s) in
    subst (λ R. IsStepFrom sig_rest R b (cond (eqb b 41) (Some (sig_state single After pa ps front)) (begin single false a s fs b))) (sym same)
    (cond_both (eqb b 41) _ _ (λ o. IsStepFrom sig_rest (MoreThen a s K) b o)
    (λ e. let at : b ≡ 41 = eqb-true b 41 e in record {
      to = λ c h. ⊎_elim (λ w. w.1) (λ w. let v = one_head false a s (MoreThen a s K) b c w in absurd (grind arith)) (more_head a s K b c h);
      from = λ c h. more_close a s K b c at h;
      some = after_some single front;
    })
    (λ n. step_along (MoreThen a s K) (OneThen false a s (MoreThen a s K)) b _
    (λ c h. ⊎_elim (λ w. absurd (eqb-false b 41 n w.0)) (λ w. w) (more_head a s K b c h)) (λ c h. more_one a s K (b ∷ c) h)
    (subst (λ R. IsStepFrom sig_rest (OneThen false a s R) b (begin single false a s fs b)) same (begin_moves single false a s fs b))))

-- a list of frames, from its end
split_frames : (fs : List Frame) → (fs ≡ []) ⊎ ((front : List Frame) × (f : Frame) × (fs ≡ front ++ f ∷ []))
split_frames [] = inl refl
split_frames (g ∷ fs) =
    inr (⊎_elim
    (λ e. ([], g, ap (λ x. g ∷ x) e))
    (λ w. (g ∷ w.0, w.1, ap (λ x. g ∷ x) w.2))
    (split_frames fs))

innermost_is : (front : List Frame) (f : Frame) → innermost (front ++ f ∷ []) ≡ Some f
innermost_is front f =
    let n = length_push front f in
    let i : length (front ++ f ∷ []) - 1 ≡ length front = omega arith in
    let within : length front < length (front ++ f ∷ []) = omega arith in
    ap (λ k. slice_get (front ++ f ∷ []) k) i ∙ slice_get-get_or (front ++ f ∷ []) (length front) f within ∙ ap Some (get_or_push front f f (length front) refl)

others_is : (front : List Frame) (f : Frame) → others (front ++ f ∷ []) ≡ front
others_is front f =
    let n = length_push front f in
    take_at front (f ∷ []) (length (front ++ f ∷ []) - 1) (omega arith)

-- after a complete type
in_frame_moves : (single : Bool) (pa ps : ℕ) (e : Bool) (a s : ℕ) (front below : List Frame) (b : ℕ) → below ≡ front → IsStepFrom sig_rest (after single (front ++ frame e a s ∷ [])) b (in_frame_at single pa ps e a s below (front ++ frame e a s ∷ []) b)
in_frame_moves single pa ps true a s front below b e =
    let P : List Frame → Type 0 = λ fs. IsStepFrom sig_rest (after single (front ++ frame true a s ∷ [])) b (in_frame_at single pa ps true a s fs (front ++ frame true a s ∷ []) b) in
    subst P (sym e) (in_entry single pa ps a s front b)
in_frame_moves single pa ps false a s front below b e =
    let P : List Frame → Type 0 = λ fs. IsStepFrom sig_rest (after single (front ++ frame false a s ∷ [])) b (in_frame_at single pa ps false a s fs (front ++ frame false a s ∷ []) b) in
    subst P (sym e) (in_struct single pa ps a s front b)

past_end : (single : Bool) (pa ps b : ℕ) → IsStepFrom sig_rest (after single []) b (past single pa ps None [] b)
past_end true pa ps b = λ c h. cc
past_end false pa ps b = step_along (after false []) (OneThen false 0 0 (after false [])) b _ (λ c h. signature_head b c h) (λ c h. signature_from (b ∷ c) h) (begin_moves false false 0 0 [] b)

past_frame : (single : Bool) (pa ps : ℕ) (front : List Frame) (f : Frame) (b : ℕ) → IsStepFrom sig_rest (after single (front ++ f ∷ [])) b (past single pa ps (innermost (front ++ f ∷ [])) (front ++ f ∷ []) b)
past_frame single pa ps front f b =
    let P : Option Frame → Type 0 = λ o. IsStepFrom sig_rest (after single (front ++ f ∷ [])) b (past single pa ps o (front ++ f ∷ []) b) in
    subst P (sym (innermost_is front f)) (in_frame_moves single pa ps f.entry f.arrays f.structs front (others (front ++ f ∷ [])) b (others_is front f))

past_moves : (single : Bool) (pa ps : ℕ) (fs : List Frame) (b : ℕ) → IsStepFrom sig_rest (after single fs) b (past single pa ps (innermost fs) fs b)
past_moves single pa ps fs b =
    let P : List Frame → Type 0 = λ gs. IsStepFrom sig_rest (after single gs) b (past single pa ps (innermost gs) gs b) in
    ⊎_elim
    (λ e. subst P (sym e) (past_end single pa ps b))
    (λ w. subst P (sym w.2) (past_frame single pa ps w.0 w.1 b))
    (split_frames fs)

key_moves : (single : Bool) (a s : ℕ) (fs : List Frame) (b : ℕ) → IsStepFrom sig_rest (KeyThen a s (after single fs)) b (sig_next_at single Key a s fs b)
key_moves single a s fs b =
    cond_both (is_basic_code b) _ _ (λ o. IsStepFrom sig_rest (KeyThen a s (after single fs)) b o)
    (λ e. record { to = λ c h. h.1; from = λ c h. (e, h); some = one_some false a s (after single fs) (after_some single fs) })
    (λ n. λ c h. false≢true (sym n ∙ h.0))

pub sig_moves_at : (single : Bool) (p : SigPlace) (a s : ℕ) (fs : List Frame) (b : ℕ) → IsStep sig_rest (sig_state single p a s fs) b (sig_next_at single p a s fs b)
sig_moves_at single After a s fs b = past_moves single a s fs b
sig_moves_at single One a s fs b = begin_moves single false a s fs b
sig_moves_at single Element a s fs b = begin_moves single true a s fs b
sig_moves_at single Key a s fs b = key_moves single a s fs b

pub sig_moves : (s : SigState) (b : ℕ) → IsStep sig_rest s b (sig_next s b)
sig_moves s b = sig_moves_at s.single s.place s.arrays s.structs s.frames b

-- the end
one_nil : (inside : Bool) (a s : ℕ) (K : List ℕ → Type 0) → OneThen inside a s K [] → ⊥
one_nil inside a s K h = omega (arith, ap length h.spelled, length-append (sig h.first) h.rest, sig_positive h.first)

list_nil : (xs : List ℕ) (r : List ℕ) → [] ≡ xs ++ 41 ∷ r → ⊥
list_nil [] r e = cc
list_nil (x ∷ xs) r e = cc

frames_rest_nil : (e : Bool) (a s : ℕ) (K : List ℕ → Type 0) → frame_rest_at e a s K [] → ⊥
frames_rest_nil true a s K h = h
frames_rest_nil false a s K h = list_nil (sigs h.types) h.rest h.spelled

all_nil : (fs : List Frame) (K : List ℕ → Type 0) → (K [] → ⊥) → frames_rest fs K [] → ⊥
all_nil [] K n h = n h
all_nil (f ∷ fs) K n h = all_nil fs (frame_rest f K) (frames_rest_nil f.entry f.arrays f.structs K) h

after_ended : (single : Bool) (fs : List Frame) → after single fs [] → no_frames fs ≡ true
after_ended single [] h = refl
after_ended single (f ∷ fs) h = absurd (all_nil fs (frame_rest f (AtTop single)) (frames_rest_nil f.entry f.arrays f.structs (AtTop single)) h)

after_ends : (single : Bool) (fs : List Frame) → no_frames fs ≡ true → after single fs []
after_ends true [] e = refl
after_ends false [] e = (NoTypes, tt, refl)
after_ends single (f ∷ fs) e = absurd (false≢true e)

pub sig_ended_at : (single : Bool) (p : SigPlace) (a s : ℕ) (fs : List Frame) → sig_rest (sig_state single p a s fs) [] → sig_end_at p fs ≡ true
sig_ended_at single After a s fs h = after_ended single fs h
sig_ended_at single One a s fs h = absurd (one_nil false a s (after single fs) h)
sig_ended_at single Element a s fs h = absurd (one_nil true a s (after single fs) h)
sig_ended_at single Key a s fs h = absurd h

pub sig_ends_at : (single : Bool) (p : SigPlace) (a s : ℕ) (fs : List Frame) → sig_end_at p fs ≡ true → sig_rest (sig_state single p a s fs) []
sig_ends_at single After a s fs e = after_ends single fs e
sig_ends_at single _ a s fs e = absurd (false≢true e)

-- where each kind begins
single_to : (c : List ℕ) → IsSingle c → OneThen false 0 0 (AtTop true) c
single_to c h = record { first = h.0; rest = []; complete = h.1; follows = refl; spelled = h.2 ∙ sym (append-nil (sig h.0)) }

single_from : (c : List ℕ) → OneThen false 0 0 (AtTop true) c → IsSingle c
single_from c h = (h.first, h.complete, h.spelled ∙ ap (λ w. sig h.first ++ w) h.follows ∙ append-nil (sig h.first))

pub single_start : (c : List ℕ) → (IsSingle c → sig_rest (sig_state true One 0 0 []) c) × (sig_rest (sig_state true One 0 0 []) c → IsSingle c)
single_start c = (single_to c, single_from c)

pub signature_some : (c : List ℕ) × IsSignature c
signature_some = ([], (NoTypes, tt, refl))

pub single_some : (c : List ℕ) × IsSingle c
single_some = (121 ∷ [], (NumberType BYTE, tt, refl))

-- The frames stay few.

pub AreBounded-push : (k : ℕ) (fs : List Frame) (f : Frame) → AreBounded k fs → k + length fs < f.arrays + f.structs → f.arrays ≤ 32 → f.structs ≤ 32 → AreBounded k (fs ++ f ∷ [])
AreBounded-push k [] f h l a s = ((omega arith, (a, s)), tt)
AreBounded-push k (g ∷ fs) f h l a s = (h.0, AreBounded-push (k + 1) fs f h.1 (omega arith) a s)

pub AreBounded-take : (k n : ℕ) (fs : List Frame) → AreBounded k fs → AreBounded k (take n fs)
AreBounded-take k zero fs h = tt
AreBounded-take k (suc n) [] h = tt
AreBounded-take k (suc n) (f ∷ fs) h = (h.0, AreBounded-take (k + 1) n fs h.1)

pub AreBounded-get : (k n : ℕ) (fs : List Frame) (f : Frame) → AreBounded k fs → slice_get fs n ≡ Some f → (k + n < f.arrays + f.structs) × ((f.arrays ≤ 32) × (f.structs ≤ 32))
AreBounded-get k n [] f h e = cc
AreBounded-get k zero (g ∷ fs) f h e =
    let same : g ≡ f = cc in
    subst (λ x. (k + zero < x.arrays + x.structs) × ((x.arrays ≤ 32) × (x.structs ≤ 32))) same (omega arith, h.0.1)
AreBounded-get k (suc n) (g ∷ fs) f h e =
    let r = AreBounded-get (k + 1) n fs f h.1 e in
    (omega arith, r.1)

pub AreBounded-innermost : (fs : List Frame) (f : Frame) → AreBounded 0 fs → innermost fs ≡ Some f → (length fs ≤ f.arrays + f.structs) × ((f.arrays ≤ 32) × (f.structs ≤ 32))
AreBounded-innermost fs f h e =
    let r = AreBounded-get 0 (length fs - 1) fs f h e in
    (omega arith, r.1)
