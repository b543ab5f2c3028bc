-- A prefix of a part's text is a prefix of the whole's.
use Rattle.std.proofs.Common.{◌≡◌, ℕ, ◌+◌, ◌<◌, List, [], ◌∷◌, ◌++◌, Result, Ok, Err, OnErr, get_or, take, drop, length, refl, sym, ap, ◌∙◌, append_assoc, true, Some, arith, ◌-◌, ◌≤◌, Bool, false, IsTrue, Option, None, length-append}
use Rattle.std.proofs.lemmas.List.{append-nil, take-append-drop, drop_more}
use Rattle.dbus_texts.specs.Types.{sig, sigs, TypeTree, NumberType, TextType, VariantType, ArrayType, StructType, EntryType, number_code, text_code, TypeTrees, NoTypes, MoreTypes, AreSome, IsBasic}
use Rattle.dbus_texts.specs.SignatureScans.{is_type_code}
use Rattle.dbus_texts.specs.ComputedKinds.{parse, opening, AnArray, AStruct, AnEntry}
use Rattle.dbus_texts.proofs.NameSteps.{number_is_code, text_is_code}
use Rattle.dbus_texts.proofs.TypeTexts.{parse_sig}
use Rattle.dbus_types.specs.Parses.{AppendsPrefix, StartsType, StartsFields, LeavesOfType, LeavesOfTypes}
use Rattle.dbus_types.specs.declared.sig_type.SigType.{SigType}
use Rattle.dbus_types.specs.SigTypes.{type_tree, type_trees_of}
use Rattle.dbus_types.specs.SignatureCodes.{first_code}
use Rattle.dbus_types.proofs.TypeCodes.{after_code, begins, opens, opening_is}

pub on_err : {T E P : Type 0} (r : Result T E) → P → OnErr r P
on_err (Ok x) p = tt
on_err (Err e) p = p

-- x was appended, and then a prefix of y
pub front_within : {b0 b1 b2 y text : List ℕ} (x z : List ℕ) → b1 ≡ b0 ++ x → text ≡ x ++ (y ++ z) → AppendsPrefix b1 b2 y → AppendsPrefix b0 b2 text
front_within {b0 = b0} x z e whole h = record {
  prefix = x ++ h.prefix;
  more = h.more ++ z;
  appended = h.appended ∙ ap (λ (b : List ℕ). b ++ h.prefix) e ∙ append_assoc b0 x h.prefix;
  spelled = whole ∙ ap (λ (u : List ℕ). x ++ (u ++ z)) h.spelled ∙ ap (λ (u : List ℕ). x ++ u) (append_assoc h.prefix h.more z) ∙ sym (append_assoc x h.prefix (h.more ++ z));
}

-- nothing was appended
pub none_of : {b1 b2 : List ℕ} (y : List ℕ) → b2 ≡ b1 → AppendsPrefix b1 b2 y
none_of {b1 = b1} y e = record { prefix = []; more = y; appended = e ∙ sym (append-nil b1); spelled = refl }

module _ {A : Type 0} where
  texts_joined : (ts us : List (SigType A)) → sigs (type_trees_of (ts ++ us)) ≡ sigs (type_trees_of ts) ++ sigs (type_trees_of us)
  texts_joined [] us = refl
  texts_joined (t ∷ ts) us = ap (λ v. sig (type_tree t) ++ v) (texts_joined ts us) ∙ sym (append_assoc (sig (type_tree t)) (sigs (type_trees_of ts)) (sigs (type_trees_of us)))

  pub texts_front : (ts : List (SigType A)) (i : ℕ) (d : SigType A) (b0 b b' : List ℕ) → i < length ts → b ≡ b0 ++ sigs (type_trees_of (take i ts)) → AppendsPrefix b b' (sig (type_tree (get_or ts i d))) → AppendsPrefix b0 b' (sigs (type_trees_of ts))
  texts_front ts i d b0 b b' l e h =
      let x = sigs (type_trees_of (take i ts)) in
      let y = sig (type_tree (get_or ts i d)) in
      let z = sigs (type_trees_of (drop (i + 1) ts)) in
      let whole : sigs (type_trees_of ts) ≡ x ++ (y ++ z) = ap (λ us. sigs (type_trees_of us)) (sym (take-append-drop i ts)) ∙ texts_joined (take i ts) (drop i ts) ∙ ap (λ us. x ++ sigs (type_trees_of us)) (drop_more ts i d l) in
      front_within x z e whole h

-- A list of bytes begins with at most one type.

pair_same : {X Y : Type 0} (p q : X × Y) → Some p ≡ Some q → (p.0 ≡ q.0) × (p.1 ≡ q.1)
pair_same {X = X} {Y = Y} p q e =
    let same : p ≡ q = cc in
    (ap (λ (x : X × Y). x.0) same, ap (λ (x : X × Y). x.1) same)

pub text_same : (t u : TypeTree) (r s : List ℕ) → sig t ++ r ≡ sig u ++ s → (t ≡ u) × (r ≡ s)
text_same t u r s e =
    let n = length (sig t) + length (sig u) in
    pair_same (t, r) (u, s) (sym (parse_sig t n r (omega arith)) ∙ ap (parse n) e ∙ parse_sig u n s (omega arith))

-- an entry's text before what follows
pub entry_spelled : (x y r : List ℕ) → (x ++ (y ++ 125 ∷ [])) ++ r ≡ x ++ (y ++ 125 ∷ r)
entry_spelled x y r = append_assoc x (y ++ 125 ∷ []) r ∙ ap (λ v. x ++ v) (append_assoc y (125 ∷ []) r)

-- what the first byte of a type says of it, and what stands after that byte
opened : (t : TypeTree) (b : ℕ) (c r : List ℕ) → b ∷ c ≡ sig t ++ r → (opens t ≡ opening b) × (c ≡ after_code t ++ r)
opened t b c r e =
    let whole : b ∷ c ≡ first_code t ∷ (after_code t ++ r) = e ∙ ap (λ s. s ++ r) (begins t) in
    let first : first_code t ≡ b = cc in
    (sym (opening_is t) ∙ ap opening first, cc)

opened_at : (w : List ℕ) (b : ℕ) (c : List ℕ) → w ≡ b ∷ c → (h : StartsType w) → (opens h.tree ≡ opening b) × (c ≡ after_code h.tree ++ h.rest)
opened_at w b c e h = opened h.tree b c h.rest (sym e ∙ h.spelled)

-- what stands after the first byte of a type
pub inside_array : (w : List ℕ) (b : ℕ) (c : List ℕ) → w ≡ b ∷ c → b ≡ 97 → StartsType w → StartsType c
inside_array w b c e f h = let o = opened_at w b c e h in of h.tree (o.0 ∙ ap opening f) o.1
  where
    of : (t : TypeTree) → opens t ≡ AnArray → c ≡ after_code t ++ h.rest → StartsType c
    of (ArrayType u) o q = record { tree = u; rest = h.rest; spelled = q }
    of _ o q = absurd cc

pub inside_struct : (w : List ℕ) (b : ℕ) (c : List ℕ) → w ≡ b ∷ c → b ≡ 40 → StartsType w → StartsFields c
inside_struct w b c e f h = let o = opened_at w b c e h in of h.tree (o.0 ∙ ap opening f) o.1
  where
    of : (t : TypeTree) → opens t ≡ AStruct → c ≡ after_code t ++ h.rest → StartsFields c
    of (StructType ts) o q = record { trees = ts; rest = h.rest; spelled = q ∙ append_assoc (sigs ts) (41 ∷ []) h.rest }
    of _ o q = absurd cc

-- a key and a value and `}`
pub record StartsPair (w : List ℕ) : Type 0 where
  pub key : TypeTree
  pub value : TypeTree
  pub rest : List ℕ
  pub spelled : w ≡ sig key ++ (sig value ++ 125 ∷ rest)

pub inside_entry : (w : List ℕ) (b : ℕ) (c : List ℕ) → w ≡ b ∷ c → b ≡ 123 → StartsType w → StartsPair c
inside_entry w b c e f h = let o = opened_at w b c e h in of h.tree (o.0 ∙ ap opening f) o.1
  where
    of : (t : TypeTree) → opens t ≡ AnEntry → c ≡ after_code t ++ h.rest → StartsPair c
    of (EntryType k v) o q = record { key = k; value = v; rest = h.rest; spelled = q ∙ entry_spelled (sig k) (sig v) h.rest }
    of _ o q = absurd cc

pub code_first : (w : List ℕ) (b : ℕ) (c : List ℕ) → w ≡ b ∷ c → (b ≡ 97 → ⊥) → (b ≡ 40 → ⊥) → (b ≡ 123 → ⊥) → StartsType w → is_type_code b ≡ true
code_first w b c e n1 n2 n3 h = of h.tree (sym e ∙ h.spelled)
  where
    of : (t : TypeTree) → b ∷ c ≡ sig t ++ h.rest → is_type_code b ≡ true
    of (NumberType n) q = let same : b ≡ number_code n = cc in ap is_type_code same ∙ number_is_code n
    of (TextType n) q = let same : b ≡ text_code n = cc in ap is_type_code same ∙ text_is_code n
    of VariantType q = let same : b ≡ 118 = cc in ap is_type_code same
    of (ArrayType t) q = absurd (n1 cc)
    of (StructType ts) q = absurd (n2 cc)
    of (EntryType k v) q = absurd (n3 cc)

-- What is left after the text of a type, level by level and along a list.

pub struct_leaves : (ts : TypeTrees) (inside : Bool) (a s n : ℕ) (r : Option ℕ) → s < 32 → 2 ≤ n → AreSome ts → LeavesOfTypes ts a (s + 1) (n - 2) r → LeavesOfType (StructType ts) inside a s n r
struct_leaves ts inside a s n (Some r) l m w h = ((l, w, h.0), omega (arith, h.1, length-append (sigs ts) (41 ∷ [])))
struct_leaves ts inside a s n None l m w h = λ c. let k = h c.2 in omega (arith, k, length-append (sigs ts) (41 ∷ []))

pub basic_length : (t : TypeTree) → IsBasic t → length (sig t) ≡ 1
basic_length (NumberType n) h = omega arith
basic_length (TextType n) h = omega arith
basic_length VariantType h = absurd h
basic_length (ArrayType t) h = absurd h
basic_length (StructType ts) h = absurd h
basic_length (EntryType k v) h = absurd h

entry_length : (k v : TypeTree) → IsBasic k → length (sig (EntryType k v)) ≡ 3 + length (sig v)
entry_length k v h = omega (arith, basic_length k h, length-append (sig k) (sig v ++ 125 ∷ []), length-append (sig v) (125 ∷ []))

pub entry_leaves : (k v : TypeTree) (inside : Bool) (a s n : ℕ) (r : Option ℕ) → IsTrue inside → 3 ≤ n → IsBasic k → LeavesOfType v false a s (n - 3) r → LeavesOfType (EntryType k v) inside a s n r
entry_leaves k v inside a s n (Some r) i l w h = ((i, w, h.0), omega (arith, h.1, entry_length k v w))
entry_leaves k v inside a s n None i l w h = λ c. let m = h c.2 in omega (arith, m, entry_length k v w)

-- ---- along a list

pub none_leave : (a s n : ℕ) → LeavesOfTypes NoTypes a s n (Some n)
none_leave a s n = (tt, omega arith)

pub more_leave : (t : TypeTree) (ts : TypeTrees) (a s n m : ℕ) (r : Option ℕ) → LeavesOfType t false a s n (Some m) → LeavesOfTypes ts a s m r → LeavesOfTypes (MoreTypes t ts) a s n r
more_leave t ts a s n m (Some r) h k = ((h.0, k.0), omega (arith, h.1, k.1, length-append (sig t) (sigs ts)))
more_leave t ts a s n m None h k = λ c. let l = k c.1 in omega (arith, l, h.1, length-append (sig t) (sigs ts))

pub first_leaves_none : (t : TypeTree) (ts : TypeTrees) (a s n : ℕ) → LeavesOfType t false a s n None → LeavesOfTypes (MoreTypes t ts) a s n None
first_leaves_none t ts a s n h = λ c. let l = h c.0 in omega (arith, l, length-append (sig t) (sigs ts))
