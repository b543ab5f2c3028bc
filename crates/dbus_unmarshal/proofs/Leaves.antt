-- Values that are built where they stand: numbers, texts, arrays of BYTE, and arrays as they open.
use Rattle.std.proofs.Common.{◌≡◌, ℕ, ◌+◌, ◌-◌, ◌<◌, List, get_or, take, drop, Vec, String, not, false, refl, sym, ap, subst, ◌∙◌, rules}
use Rattle.std.specs.Prelude.{string_bytes}
use Rattle.std.proofs.lemmas.Bool.{and_from}
use Rattle.dbus_texts.specs.Types.{NumberCode, BYTE, TextCode, TypeTree, NumberType, TextType, number_code, text_code, sig}
use Rattle.dbus_texts.specs.PlainTypes.{is_byte}
use Rattle.dbus_types.specs.Alignments.{width, alignment_of}
use Rattle.dbus_types.specs.SigTypes.{type_tree}
use Rattle.dbus_types.specs.SignatureCodes.{first_code}
use Rattle.dbus_types.specs.declared.sig_type.SigType.{SigType}
use Rattle.dbus_types.proofs.TypeCodes.{code_is, text_is}
use Rattle.dbus_value_model.specs.Bytes.{gap_to}
use Rattle.dbus_value_model.specs.Reading.{number_of}
use Rattle.dbus_value_model.specs.Spelling.{contents_start}
use Rattle.dbus_value_model.specs.ValueViews.{value_tree, byte_values}
use Rattle.dbus_value_model.specs.Values.{ValueTree, NumberValue, TextValue, ArrayValue, type_of, value_trees, IsNumber, IsWellFormed}
use Rattle.dbus_value_model.specs.declared.order.Order.{Order}
use Rattle.dbus_value_model.specs.declared.value.Value.{Value, Bytes, Array}
use Rattle.dbus_value_model.proofs.Formed.{keeps-Array}
use Rattle.dbus_value_model.proofs.ValueRows.{tree-Bytes, tree-Array, tree-Byte, tree-Bool, tree-I16, tree-U16, tree-I32, tree-U32, tree-I64, tree-U64, tree-Double, tree-Fd}
use Rattle.dbus_walk.specs.Standing.{Stands, ElementsStand}
use Rattle.dbus_walk.specs.Containers.{number_width}
use Rattle.dbus_walk.specs.declared.spot.Run.{Run}
use Rattle.dbus_walk.proofs.Containers.{ArrayStands, element_types, array_stands, array_begins, array_counts, elements_there}
use Rattle.dbus_walk.proofs.Parts.{NumberStands, TextStands, number_is}
use Rattle.dbus_walk.proofs.ReadThere.{number_read}
use Rattle.dbus_values.proofs.NumberRuns.{one_byte, comes_aligned, bytes_there}
use Rattle.dbus_unmarshal.specs.Builds.{IsBuilt, AreBuilt}

module _ {order : Order} {depth_left : ℕ} {types : List ℕ} {at : ℕ} {bytes : List ℕ} {v : ValueTree} {rest : List ℕ} (s : Stands order depth_left types at bytes v rest) where
  coded : first_code (type_of v) ≡ get_or types 0 0
  coded = code_is (type_of v) types s.text

  -- ---- numbers

  module _ (size : ℕ) (p : NumberStands s size) where
    pub number_coded : number_code p.code ≡ get_or types 0 0
    number_coded = ap (λ (u : ValueTree). first_code (type_of u)) (sym p.is) ∙ coded

    pub number_built : {A : Type 0} (start : ℕ) (r : Value A) → start ≡ at + gap_to size at
        → ((k : NumberCode) (n : ℕ) → number_code k ≡ get_or types 0 0 → IsNumber k n → number_of order (take (width k) (drop start bytes)) ≡ n → value_tree r ≡ NumberValue k n) → value_tree r ≡ v
    number_built start r place built =
        let formed : IsNumber p.code p.n = subst (λ (u : ValueTree). IsWellFormed depth_left u) p.is s.formed in
        let read : number_of order (take (width p.code) (drop start bytes)) ≡ p.n = ap (λ (k : ℕ). number_of order (take k (drop start bytes))) p.wide ∙ number_read s size start p place in
        built p.code p.n number_coded formed read ∙ sym p.is

  -- ---- texts

  module _ {size : ℕ} (p : TextStands s size) where
    pub text_built : {A : Type 0} (k : TextCode) (t : String A) (r : Value A) → get_or types 0 0 ≡ text_code k → string_bytes t ≡ p.text → value_tree r ≡ TextValue k (string_bytes t) → value_tree r ≡ v
    text_built k t r code is tree =
        let typed : TextType p.code ≡ TextType k = text_is (TextType p.code) k (ap (λ (u : ValueTree). first_code (type_of u)) (sym p.is) ∙ coded ∙ code) in
        let same : p.code ≡ k = cc in
        tree ∙ ap (TextValue k) is ∙ ap (λ (j : TextCode). TextValue j p.text) (sym same) ∙ sym p.is

-- ---- arrays

pub not_byte : (t : TypeTree) → (number_width t ≡ 1 → ⊥) → is_byte t ≡ false
not_byte (NumberType BYTE) h = absurd (h refl)
not_byte t h = search rules

-- an array of numbers, whose elements stand up to an end
module _ {order : Order} {depth_left : ℕ} {types : List ℕ} {at : ℕ} {bytes : List ℕ} {v : ValueTree} {rest : List ℕ} (s : Stands order depth_left types at bytes v rest) (run : Run) (code : get_or types 0 0 ≡ 97)
    (some : 0 < run.size) (wide : (t : TypeTree) → first_code t ≡ get_or types 1 0 → run.size ≡ number_width t) (begins : run.start ≡ at + gap_to 4 at)
    (parts : (t : TypeTree) → first_code t ≡ get_or types 1 0 → run.first ≡ run.start + 4 + gap_to (alignment_of t) (run.start + 4)) (ends : run.end ≡ run.first + number_of order (take 4 (drop run.start bytes))) where
  abbrev p : ArrayStands s
  p = array_stands s code

  starts : run.first ≡ contents_start p.type at
  starts = array_begins s p run.start run.first begins parts

  pub held : ElementsStand order (depth_left - 1) (element_types types) run.first run.end bytes p.xs rest
  held =
      subst (λ (k : ℕ). ElementsStand order (depth_left - 1) (element_types types) run.first k bytes p.xs rest) (sym ends)
      (elements_there s p run.first (number_of order (take 4 (drop run.start bytes))) starts (array_counts s p run.start _ begins refl))

  same_code : get_or (element_types types) 0 0 ≡ get_or types 1 0
  same_code = sym (code_is p.type (element_types types) p.text) ∙ p.code

  wide_there : (t : TypeTree) → first_code t ≡ get_or (element_types types) 0 0 → run.size ≡ number_width t
  wide_there t e = wide t (e ∙ same_code)

  number : (t : TypeTree) → sig t ≡ element_types types → (k : NumberCode) × (t ≡ NumberType k) × (width k ≡ run.size)
  number t text = number_is t run.size some (wide_there t (code_is t (element_types types) text))

  pub aligned : gap_to run.size run.first ≡ 0
  aligned =
      let k = number p.type p.text in
      let from = at + gap_to 4 at + 4 in
      let first : run.first ≡ from + gap_to (width k.0) from = starts ∙ ap (λ (t : TypeTree). from + gap_to (alignment_of t) from) k.1 in
      subst (λ (w : ℕ). gap_to w run.first ≡ 0) k.2 (subst (λ (q : ℕ). gap_to (width k.0) q ≡ 0) (sym first) (comes_aligned k.0 from))

  byte_is : run.size ≡ 1 → (t : TypeTree) → sig t ≡ element_types types → t ≡ NumberType BYTE
  byte_is one t text = let k = number t text in k.1 ∙ ap NumberType (one_byte k.0 (k.2 ∙ one))

  pub bytes_built : {A : Type 0} (r : Vec ℕ A) → run.size ≡ 1 → r.items ≡ take (run.end - run.first) (drop run.first bytes) → value_tree {A = A} (Bytes r) ≡ v
  bytes_built r one items =
      tree-Bytes r ∙ ap (λ (l : List ℕ). ArrayValue (NumberType BYTE) (byte_values l)) items
      ∙ ap (ArrayValue (NumberType BYTE)) (sym (bytes_there held (byte_is one held.type held.text)))
      ∙ ap (λ (t : TypeTree). ArrayValue t p.xs) (sym (byte_is one p.type p.text)) ∙ sym p.is

  pub numbers_built : {A : Type 0} (t : SigType A) (rs : Vec (Value A) A) (xs : List ValueTree) → (run.size ≡ 1 → ⊥) → (type_tree t ≡ p.type) → p.xs ≡ value_trees xs → AreBuilt xs rs.items → IsBuilt v (Array t rs)
  numbers_built t rs xs wider fit are built =
      let no_byte : is_byte (type_tree t) ≡ false = not_byte (type_tree t) (λ e. wider (wide p.type p.code ∙ ap number_width (sym fit) ∙ e)) in
      record {
        tree = tree-Array t rs ∙ ap (λ (l : List ValueTree). ArrayValue (type_tree t) (value_trees l)) built.trees ∙ ap (ArrayValue (type_tree t)) (sym are) ∙ ap (λ (u : TypeTree). ArrayValue u p.xs) fit ∙ sym p.is;
        packed = keeps-Array t rs ∙ and_from _ _ (ap not no_byte) built.packed;
      }

-- Values that are one number.

pub ruleset numbers = (tree-Byte, tree-Bool, tree-I16, tree-U16, tree-I32, tree-U32, tree-I64, tree-U64, tree-Double, tree-Fd)
