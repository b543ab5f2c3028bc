-- How values are seen where they stand.
use Rattle.std.proofs.Common.{◌≡◌, ℕ, ◌+◌, ◌-◌, ◌≤◌, List, ◌∷◌, ◌++◌, length, get_or, take, false, take_all, drop, IsUtf8, refl, sym, ap, subst, ◌∙◌, arith, ◌<◌}
use Rattle.std.proofs.lemmas.List.{append-nil, length-drop, length-append}
use Rattle.dbus_texts.specs.Types.{NumberCode, BYTE, TextCode, STRING, OBJECT_PATH, SIGNATURE, TypeTree, NumberType, TextType, number_code, text_code, sig, IsShaped, sigs}
use Rattle.dbus_texts.proofs.TypeTexts.{shaped_of, sig_positive}
use Rattle.dbus_types.specs.Alignments.{width, length_width}
use Rattle.dbus_types.specs.SignatureCodes.{first_code, IsTypeEnd}
use Rattle.dbus_types.proofs.TypeCodes.{code_is, text_is, begins}
use Rattle.dbus_value_model.specs.declared.order.Order.{Order}
use Rattle.dbus_value_model.specs.Reading.{number_of}
use Rattle.dbus_value_model.specs.Spelling.{spelling, spellings}
use Rattle.dbus_value_model.specs.Values.{ValueTree, ValueTrees, NumberValue, TextValue, ArrayValue, NoValues, MoreValues, type_of, IsNumber, IsWellFormed, types_of}
use Rattle.dbus_value_model.specs.ValueViews.{byte_values}
use Rattle.dbus_walk.specs.declared.spot.Run.{Run}
use Rattle.dbus_walk.specs.declared.spot.MessageBytes.{MessageBytes}
use Rattle.dbus_walk.specs.declared.spot.Spot.{Spot}
use Rattle.dbus_walk.specs.Containers.{IsNumberAt, IsTextAt, IsVariantAt, IsArrayAt, of_elements}
use Rattle.dbus_walk.specs.Standing.{Stands, AllStand, StandsAt}
use Rattle.dbus_walk.proofs.Parts.{number_is, ends_within}
use Rattle.dbus_walk.proofs.ReadThere.{formed_utf8}
use Rattle.dbus_walk.proofs.Lists.{first_value, other_values}
use Rattle.dbus_values.specs.Seen.{AreSeenInside, IsSeen, IsFirstCode}
use Rattle.dbus_values.proofs.NumberRuns.{one_byte, bytes_there}
use Rattle.dbus_values.specs.declared.view.ValueView.{ValueView}
use Rattle.dbus_values.specs.declared.view.ValueView.TheVariants as views
use Rattle.dbus_values.specs.States.{ValuesState, AreLeft}

path_left : (k : TextCode) → length_width k ≡ 4 → (text_code k ≡ 115 → ⊥) → k ≡ OBJECT_PATH
path_left OBJECT_PATH wide not = refl
path_left STRING wide not = absurd (not refl)
path_left SIGNATURE wide not = absurd (omega (arith, wide))

signature_left : (k : TextCode) → length_width k ≡ 1 → k ≡ SIGNATURE
signature_left SIGNATURE wide = refl
signature_left k wide = absurd (omega (arith, wide))

-- one value that stands there is all of some
pub one_left : {order : Order} {depth_left : ℕ} {types : List ℕ} {at : ℕ} {bytes : List ℕ} {v : ValueTree} {rest : List ℕ} → Stands order depth_left types at bytes v rest → IsShaped false (type_of v) → AllStand order depth_left types at bytes (MoreValues v NoValues) rest
unfolding spelling
one_left {order} {depth_left} {types} {at} {bytes} {v} {rest} s shaped = record {
  text = append-nil (sig (type_of v)) ∙ s.text;
  shaped = (shaped, tt);
  formed = (s.formed, tt);
  array = s.array;
  small = s.small;
  within = (s.within, tt);
  spelled = s.spelled ∙ ap (λ (l : List ℕ). l ++ rest) (sym (append-nil (spelling order at v)));
  inside = omega (arith, ends_within s);
}

-- a number has no parts
pub number_apart : (order : Order) (bytes : List ℕ) (at : ℕ) (v : ValueTree) (view : ValueView) (k : NumberCode) (n : ℕ) → v ≡ NumberValue k n → IsSeen view v → AreSeenInside order bytes at v view
number_apart order bytes at v (views.Array e) k n is seen = let other = seen.3 in absurd cc
number_apart order bytes at v (views.Struct e) k n is seen = let other = seen.2 in absurd cc
number_apart order bytes at v (views.Entry e) k n is seen = let other = seen.3 in absurd cc
number_apart order bytes at v (views.Variant e) k n is seen = let other = seen.2 in absurd cc
number_apart order bytes at v view k n is seen = tt

module _ (source : MessageBytes) (spot : Spot) (v : ValueTree) (rest : List ℕ) (s : StandsAt source spot v rest) where
  coded : first_code (type_of v) ≡ get_or spot.types.now 0 0
  coded = code_is (type_of v) spot.types.now s.text

  -- ---- numbers

  module _ (start size : ℕ) (p : IsNumberAt source spot v start size) where
    pub number_coded : number_code p.code ≡ get_or spot.types.now 0 0
    number_coded = ap (λ (u : ValueTree). first_code (type_of u)) (sym p.is) ∙ coded

    pub number_inside : (k : NumberCode) → number_code k ≡ get_or spot.types.now 0 0 → start + width k ≤ length source.bytes.now
    number_inside k e = omega (arith, p.inside, p.widths (NumberType k) e)

    pub number_seen : (view : ValueView)
        → ((k : NumberCode) (n : ℕ) → number_code k ≡ get_or spot.types.now 0 0 → IsNumber k n → number_of source.order (take (width k) (drop start source.bytes.now)) ≡ n → IsSeen view (NumberValue k n))
        → IsSeen view v
    number_seen view seen =
        let formed : IsNumber p.code p.n = subst (λ (u : ValueTree). IsWellFormed spot.depth_left u) p.is s.formed in
        let read : number_of source.order (take (width p.code) (drop start source.bytes.now)) ≡ p.n = ap (λ (k : ℕ). number_of source.order (take k (drop start source.bytes.now))) p.wide ∙ p.read in
        subst (λ (u : ValueTree). IsSeen view u) (sym p.is) (seen p.code p.n number_coded formed read)

  -- ---- texts

  module _ (size start n : ℕ) (p : IsTextAt source spot v size start n) where
    pub text_utf8 : IsUtf8 (take n (drop (start + size) source.bytes.now))
    text_utf8 = subst IsUtf8 (sym p.read) (formed_utf8 spot.depth_left p.code p.text (subst (λ (u : ValueTree). IsWellFormed spot.depth_left u) p.is s.formed))

    text_coded : text_code p.code ≡ get_or spot.types.now 0 0
    text_coded = ap (λ (u : ValueTree). first_code (type_of u)) (sym p.is) ∙ coded

    text_seen : (k : TextCode) (t : List ℕ) → p.code ≡ k → t ≡ take n (drop (start + size) source.bytes.now) → v ≡ TextValue k t
    text_seen k t same read = p.is ∙ ap (λ (j : TextCode). TextValue j p.text) same ∙ ap (λ (u : List ℕ). TextValue k u) (sym (read ∙ p.read))

    pub string_seen : (t : List ℕ) → get_or spot.types.now 0 0 ≡ 115 → t ≡ take n (drop (start + size) source.bytes.now) → v ≡ TextValue STRING t
    string_seen t code read =
        let typed : TextType p.code ≡ TextType STRING = text_is (TextType p.code) STRING (text_coded ∙ code) in
        let same : p.code ≡ STRING = cc in
        text_seen STRING t same read

    pub path_seen : (t : List ℕ) → size ≡ 4 → (get_or spot.types.now 0 0 ≡ 115 → ⊥) → t ≡ take n (drop (start + size) source.bytes.now) → v ≡ TextValue OBJECT_PATH t
    path_seen t four not read = text_seen OBJECT_PATH t (path_left p.code (p.wide ∙ four) (λ e. not (sym text_coded ∙ e))) read

    pub signature_seen : (t : List ℕ) → size ≡ 1 → t ≡ take n (drop (start + size) source.bytes.now) → v ≡ TextValue SIGNATURE t
    signature_seen t one read = text_seen SIGNATURE t (signature_left p.code (p.wide ∙ one)) read

  -- ---- containers

  pub variant_left : (types : List ℕ) (at : ℕ) (p : IsVariantAt source spot v rest types at) → AllStand source.order (spot.depth_left - 1) types at source.bytes.now (MoreValues p.x NoValues) rest
  variant_left types at p = one_left p.held (shaped_of (type_of p.x) false 0 0 p.single.0)

  pub array_type : (t : TypeTree) (xs : ValueTrees) → v ≡ ArrayValue t xs → sig t ≡ of_elements spot.types.now
  array_type t xs is =
      let whole : 97 ∷ sig t ≡ spot.types.now = ap (λ (u : ValueTree). sig (type_of u)) (sym is) ∙ s.text in
      ap (λ (l : List ℕ). drop 1 l) whole ∙ sym (take_all (length spot.types.now - 1) (drop 1 spot.types.now) (omega (arith, length-drop 1 spot.types.now)))

  -- elements of one byte are the bytes of an array of BYTE
  pub array_of_bytes : (run : Run) (p : IsArrayAt source spot v rest run) → run.size ≡ 1 → v ≡ ArrayValue (NumberType BYTE) (byte_values (take (run.end - run.first) (drop run.first source.bytes.now)))
  array_of_bytes run p one =
      let type = array_type p.type p.xs p.is in
      let whole : 97 ∷ sig p.type ≡ spot.types.now = ap (λ (u : ValueTree). sig (type_of u)) (sym p.is) ∙ s.text in
      let byte = λ (t : TypeTree) (text : sig t ≡ of_elements spot.types.now).
      let wide = p.found.wide t (code_is t (sig p.type) (text ∙ sym type) ∙ ap (λ (l : List ℕ). get_or l 1 0) whole) in
      let k = number_is t 1 (omega arith) (sym one ∙ wide) in
      k.1 ∙ ap NumberType (one_byte k.0 k.2) in
      p.is ∙ ap (λ (t : TypeTree). ArrayValue t p.xs) (byte p.type type) ∙ ap (ArrayValue (NumberType BYTE)) (bytes_there p.held (byte p.held.type p.held.text))

-- The first of the values that are left, and the others.

-- ---- values of some types

pub no_values : (s : ValuesState) (xs : ValueTrees) (rest : List ℕ) → AreLeft s xs rest → length s.types ≡ 0 → xs ≡ NoValues
no_values s NoValues rest l none = refl
no_values s (MoreValues x us) rest l none = absurd (omega (arith, ap length l.text, none, length-append (sig (type_of x)) (sigs (types_of us)), sig_positive (type_of x)))

-- the first type begins with the first code
pub first_coded : (s : ValuesState) (xs : ValueTrees) (rest : List ℕ) → AreLeft s xs rest → 0 < length s.types → IsFirstCode xs (get_or s.types 0 0)
first_coded s NoValues rest l some = absurd (omega (arith, some, ap length l.text))
first_coded s (MoreValues x us) rest l some = (x, us, refl, ap (λ (t : List ℕ). get_or t 0 0) (ap (λ (t : List ℕ). t ++ sigs (types_of us)) (sym (begins (type_of x))) ∙ l.text))

-- the first type ends at `end`
pub record FirstValue (s : ValuesState) (xs : ValueTrees) (rest : List ℕ) (end : ℕ) : Type 0 where
  pub x : ValueTree
  pub us : ValueTrees
  pub begins : xs ≡ MoreValues x us
  pub stands : Stands s.order s.depth_left (take end s.types) s.at s.bytes x (spellings s.order (s.at + length (spelling s.order s.at x)) us ++ rest)
  pub others : AllStand s.order s.depth_left (take (length s.types - end) (drop end s.types)) (s.at + length (spelling s.order s.at x)) s.bytes us rest

pub value_of : (s : ValuesState) (xs : ValueTrees) (rest : List ℕ) (end : ℕ) → AreLeft s xs rest → 0 < length s.types → IsTypeEnd s.types 0 end → FirstValue s xs rest end
value_of s NoValues rest end l some is = absurd (omega (arith, some, ap length l.text))
value_of s (MoreValues x us) rest end l some is =
    let whole : end - 0 ≡ end = omega arith in
    let left : drop end s.types ≡ take (length s.types - end) (drop end s.types) = sym (take_all (length s.types - end) (drop end s.types) (omega (arith, length-drop end s.types))) in
    record {
      x = x;
      us = us;
      begins = refl;
      stands = subst (λ (k : ℕ). Stands s.order s.depth_left (take k s.types) s.at s.bytes x (spellings s.order (s.at + length (spelling s.order s.at x)) us ++ rest)) whole (first_value s.types 0 end is l);
      others = subst (λ (t : List ℕ). AllStand s.order s.depth_left t (s.at + length (spelling s.order s.at x)) s.bytes us rest) left (other_values s.types 0 end is l);
    }
