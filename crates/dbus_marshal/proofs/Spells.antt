-- What is written of a value, level by level and along a list.
use Rattle.std.proofs.Common.{◌≡◌, ℕ, ◌+◌, ◌<◌, List, ◌∷◌, length, get_or, drop, sym, subst, ◌≤◌, [], ◌++◌, suc, replicate, String, refl, ap, ◌∙◌, arith, append_assoc}
use Rattle.std.proofs.lemmas.List.{drop_more, at_drop_more, at_drop_all, length-append}
use Rattle.std.specs.Prelude.{string_bytes}
use Rattle.dbus_value_model.specs.Sizes.{HasShortSignatures, HaveShortSignatures}
use Rattle.dbus_value_model.specs.ValueViews.{value_tree, value_trees_of, byte_values}
use Rattle.dbus_value_model.specs.declared.value.Value.{Value, Path}
use Rattle.dbus_value_model.proofs.ValueRows.{tree-Byte, tree-Bool, tree-I16, tree-U16, tree-I32, tree-U32, tree-I64, tree-U64, tree-Double, tree-Str, tree-Path, tree-Sig, tree-Fd, tree-Bytes, tree-Array, tree-Struct, tree-Entry, tree-Variant}
use Rattle.dbus_texts.specs.Types.{NumberType, NumberCode, BYTE, STRING, sig}
use Rattle.dbus_types.specs.Alignments.{width}
use Rattle.dbus_value_model.specs.declared.order.Order.{Order}
use Rattle.dbus_value_model.specs.Values.{ValueTree, NumberValue, TextValue, ArrayValue, type_of}
use Rattle.dbus_value_model.specs.Bytes.{pad, gap_to, num}
use Rattle.dbus_value_model.specs.Spelling.{spelling, spellings}
use Rattle.dbus_value_model.specs.SizeLimits.{with_padding, with_value, with_values}
use Rattle.dbus_value_model.proofs.Numbers.{length-num, num_1, byte_spelled}
use Rattle.dbus_value_model.proofs.Periods.{no_gap}
use Rattle.dbus_marshal.proofs.Written.{length_value, length_number, written_number, written_path, written_none, written_more}

-- Trees of values, level by level, and short signatures along a list.

pub short_more : {A : Type 0} (vs : List (Value A)) (i : ℕ) (v : Value A) → i < length vs → v ≡ get_or vs i v → HaveShortSignatures (value_trees_of (drop i vs)) →
    HasShortSignatures (value_tree v) × HaveShortSignatures (value_trees_of (drop (i + 1) vs))
short_more {A} vs i v lt e h =
    let here : HaveShortSignatures (value_trees_of (get_or vs i v ∷ drop (i + 1) vs)) = subst (λ (l : List (Value A)). HaveShortSignatures (value_trees_of l)) (drop_more vs i v lt) h in
    (subst (λ (x : Value A). HasShortSignatures (value_tree x)) (sym e) here.0, here.1)

pub ruleset trees = (tree-Byte, tree-Bool, tree-I16, tree-U16, tree-I32, tree-U32, tree-I64, tree-U64, tree-Double, tree-Fd, tree-Str, tree-Path, tree-Sig, tree-Bytes, tree-Array, tree-Struct, tree-Entry, tree-Variant)

pub writes-Path : {A : Type 0} (order : Order) (s : String A) (front : List ℕ) → with_value order (value_tree {A = A} (Path s)) front ≡ with_value order (TextValue STRING (string_bytes s)) front
writes-Path order s front = ap (λ (v : ValueTree). with_value order v front) (tree-Path s) ∙ written_path order (string_bytes s) front

pub writes_more : {A : Type 0} (order : Order) (vs : List (Value A)) (i : ℕ) (v : Value A) (front : List ℕ) → i < length vs → v ≡ get_or vs i v →
    with_values order (value_trees_of (drop i vs)) front ≡ with_values order (value_trees_of (drop (i + 1) vs)) (with_value order (value_tree v) front)
writes_more {A} order vs i v front lt e =
    at_drop_more (λ (l : List (Value A)). with_values order (value_trees_of l) front) vs i v lt
    ∙ ap (λ (x : Value A). with_values order (value_trees_of (x ∷ drop (i + 1) vs)) front) (sym e)
    ∙ written_more order (value_tree v) (value_trees_of (drop (i + 1) vs)) front

pub writes_end : {A : Type 0} (order : Order) (vs : List (Value A)) (i : ℕ) (front : List ℕ) → length vs ≤ i → with_values order (value_trees_of (drop i vs)) front ≡ front
writes_end {A} order vs i front le = at_drop_all (λ (l : List (Value A)). with_values order (value_trees_of l) front) vs i le ∙ written_none order front

-- ---- an array of bytes

bytes_spelled : (order : Order) (o : ℕ) (bs : List ℕ) → ((i : ℕ) → get_or bs i 0 < 256) → spellings order o (byte_values bs) ≡ bs
unfolding spellings
bytes_spelled order o [] h = refl
bytes_spelled order o (b ∷ bs) h =
    let first = byte_spelled order o b (h 0) in
    let rest = bytes_spelled order (o + length (spelling order o (NumberValue BYTE b))) bs (λ i. h (suc i)) in
    ap (λ (l : List ℕ). l ++ spellings order (o + length (spelling order o (NumberValue BYTE b))) (byte_values bs)) first ∙ ap (λ (l : List ℕ). b ∷ l) rest

pub written_bytes : (order : Order) (bs front : List ℕ) → ((i : ℕ) → get_or bs i 0 < 256) →
    with_value order (ArrayValue (NumberType BYTE) (byte_values bs)) front ≡ (with_padding 4 front ++ num order 4 (length bs)) ++ bs
unfolding with_value with_padding spelling
written_bytes order bs front h =
    let o = length front in
    let p = o + gap_to 4 o + 4 in
    let c = spellings order (p + gap_to 1 p) (byte_values bs) in
    let is : c ≡ bs = bytes_spelled order (p + gap_to 1 p) bs h in
    ap (λ (n : ℕ). front ++ (pad 4 o ++ (num order 4 (length c) ++ (replicate n 0 ++ c)))) (no_gap p)
    ∙ ap (λ (l : List ℕ). front ++ (pad 4 o ++ (num order 4 (length l) ++ l))) is
    ∙ sym (append_assoc front (pad 4 o) (num order 4 (length bs) ++ bs)) ∙ sym (append_assoc (front ++ pad 4 o) (num order 4 (length bs)) bs)

pub length_bytes : (order : Order) (bs front : List ℕ) → ((i : ℕ) → get_or bs i 0 < 256) →
    length (with_value order (ArrayValue (NumberType BYTE) (byte_values bs)) front) ≡ length (with_padding 4 front) + 4 + length bs
length_bytes order bs front h =
    let l1 = length-append (with_padding 4 front ++ num order 4 (length bs)) bs in
    let l2 = length-append (with_padding 4 front) (num order 4 (length bs)) in
    ap length (written_bytes order bs front h) ∙ omega (arith, length-num order 4 (length bs))

-- ---- what has to fit

-- a value that is a number, written as m
module _ {A : Type 0} (k : NumberCode) (v : Value A) (order : Order) (front : List ℕ) (n : ℕ) (tree : value_tree v ≡ NumberValue k n) where
  pub number_fits : (cap : ℕ) → length (with_value order (value_tree v) front) ≤ cap → length (with_padding (width k) front) + width k ≤ cap
  number_fits cap h = omega (arith, ap (λ (x : ValueTree). length (with_value order x front)) tree, length_number order k n front)

  pub number_is : (m : ℕ) (s : List ℕ) → s ≡ with_padding (width k) front ++ num order (width k) m → m ≡ n → s ≡ with_value order (value_tree v) front
  number_is m s h e = h ∙ ap (λ (x : ℕ). with_padding (width k) front ++ num order (width k) x) e ∙ sym (ap (λ (x : ValueTree). with_value order x front) tree ∙ written_number order k n front)

pub variant_fits : (order : Order) (x : ValueTree) (front : List ℕ) (cap : ℕ) → length (with_value order x (((front ++ num order 1 (length (sig (type_of x)))) ++ sig (type_of x)) ++ 0 ∷ [])) ≤ cap → length front + length (sig (type_of x)) + 2 ≤ cap
variant_fits order x front cap h =
    let ty = sig (type_of x) in
    let whole = length_value order x (((front ++ num order 1 (length ty)) ++ ty) ++ 0 ∷ []) in
    let before : length (((front ++ num order 1 (length ty)) ++ ty) ++ 0 ∷ []) ≡ length front + length ty + 2 = simp (length-append, length-num) (omega arith) in
    omega arith

pub ruleset spells = (trees, writes-Path)

-- Lists that are joined step by step.

pub join_assoc : (old s t mid new : List ℕ) → mid ≡ old ++ s → new ≡ mid ++ t → new ≡ old ++ (s ++ t)
join_assoc old s t mid new e d = d ∙ ap (λ (l : List ℕ). l ++ t) e ∙ append_assoc old s t

pub join_around : (old s n1 n2 n3 : List ℕ) (a b : ℕ) → n1 ≡ old ++ a ∷ [] → n2 ≡ n1 ++ s → n3 ≡ n2 ++ b ∷ [] → n3 ≡ old ++ (a ∷ (s ++ b ∷ []))
join_around old s n1 n2 n3 a b e d f =
    join_assoc old (a ∷ s) (b ∷ []) n2 n3 (join_assoc old (a ∷ []) s n1 n2 e d) f

pub join_two : (old s t n1 n2 n3 n4 : List ℕ) (a b : ℕ) → n1 ≡ old ++ a ∷ [] → n2 ≡ n1 ++ s → n3 ≡ n2 ++ t → n4 ≡ n3 ++ b ∷ [] → n4 ≡ old ++ (a ∷ (s ++ (t ++ b ∷ [])))
join_two old s t n1 n2 n3 n4 a b e d h f = join_around old (s ++ t) n1 n3 n4 a b e (join_assoc n1 s t n2 n3 d h) f ∙ ap (λ (l : List ℕ). old ++ (a ∷ l)) (append_assoc s t (b ∷ []))

pub step_joined : (now s rest part target next : List ℕ) → now ++ rest ≡ target → rest ≡ s ++ part → next ≡ now ++ s → next ++ part ≡ target
step_joined now s rest part target next so_far more written =
    ap (λ (l : List ℕ). l ++ part) written ∙ append_assoc now s part ∙ ap (λ (l : List ℕ). now ++ l) (sym more) ∙ so_far
