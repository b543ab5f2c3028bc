-- The header fields that are whole before a place, as those of a message with the same bytes.
use Rattle.std.proofs.Common.{◌≡◌, ℕ, suc, ◌+◌, ◌-◌, ◌≤◌, List, [], ◌∷◌, ◌++◌, length, take, drop, map, get_or, true, refl, sym, ap, subst, ◌∙◌, arith, append_assoc, length-append}
use Rattle.std.proofs.lemmas.List.{drop-take, take-append-drop, take-take}
use Rattle.std.proofs.Math.Seq.{take-append_seam}
use Rattle.dbus_types.proofs.TypeCodes.{boundary_by}
use Rattle.dbus_value_model.specs.Bounds.{bounds_of}
use Rattle.dbus_value_model.specs.Bytes.{gap_to, pad}
use Rattle.dbus_value_model.specs.Laws.{Spells}
use Rattle.dbus_value_model.specs.Outcomes.{SpelledAll}
use Rattle.dbus_value_model.specs.Reading.{number_of}
use Rattle.dbus_value_model.specs.Specification.{specification}
use Rattle.dbus_value_model.specs.Spelling.{spelling, spellings, AreWithinLimits, contents_start}
use Rattle.dbus_value_model.specs.Values.{ValueTree, ValueTrees, AreWellFormed, value_trees}
use Rattle.dbus_value_model.specs.declared.limits.TheConstants.{DEPTH_LIMIT}
use Rattle.dbus_value_model.specs.declared.order.Order.{Order}
use Rattle.dbus_value_model.specs.declared.order.Order.TheVariants.{Little, Big}
use Rattle.dbus_value_model.proofs.Formed.{all_formed_of, all_parts_of}
use Rattle.dbus_value_laws.proofs.ValueItemLaws.{one_value}
use Rattle.dbus_message_model.specs.Messages.{FieldTree, IsMessage, MessageTree, body_bytes, field_struct, field_type, fields_end as end_of_fields, message_bytes, order_byte}
use Rattle.dbus_message_model.proofs.Widening.{nest_wider, wider_message, widest}
use Rattle.dbus_walk.proofs.Containers.{array_found, array_stands, elements_there}
use Rattle.dbus_walk.proofs.MessageParts.{fields_stand}
use Rattle.dbus_walk.proofs.Parts.{stands_positive}
use Rattle.dbus_explain.specs.FirstFields.{FirstFields}
use Rattle.dbus_explain.specs.Places.{fields_end, order_of}

abbrev pub rows : List FieldTree → ValueTrees
rows fs = value_trees (map field_struct fs)

-- fields that are spelled within the limits of the specification
pub record AreSpelled (order : Order) (o : ℕ) (fs : List FieldTree) : Type 0 where
  pub formed : AreWellFormed DEPTH_LIMIT (rows fs)
  pub within : AreWithinLimits (bounds_of specification).array order o (rows fs)

-- one field is another, if they are one value
same_field : (f g : FieldTree) → field_struct f ≡ field_struct g → f ≡ g
same_field f g e =
    let code : f.code ≡ g.code = cc in
    let value : f.value ≡ g.value = cc in
    ap (λ (n : ℕ). record { code = n; value = f.value }) code ∙ ap (λ (v : ValueTree). record { code = g.code; value = v }) value

-- of fields whose spellings begin alike, the longer row begins with the shorter one
begins : (order : Order) (o : ℕ) (fs gs : List FieldTree) (x y : List ℕ) → AreSpelled order o fs → AreSpelled order o gs
    → spellings order o (rows fs) ++ x ≡ spellings order o (rows gs) ++ y → length (spellings order o (rows fs)) ≤ length (spellings order o (rows gs)) → (more : List FieldTree) × (gs ≡ fs ++ more)
unfolding spelling
begins order o [] gs x y a b e le = (gs, refl)
begins order o (f ∷ fs) [] x y a b e le =
    let s = spelling order o (field_struct f) in
    absurd (omega (arith, le, stands_positive order (field_struct f) o (tt, (tt, tt)), length-append s (spellings order (o + length s) (rows fs))))
begins order o (f ∷ fs) (g ∷ gs) x y a b e le =
    let v = field_struct f in
    let w = field_struct g in
    let s = spelling order o v in
    let t = spelling order o w in
    let p = o + length s in
    let one : Spells (bounds_of specification) order DEPTH_LIMIT o v = record { formed = a.formed.0; within = a.within.0; complete = (true, (tt, (tt, tt))) } in
    let other : Spells (bounds_of specification) order DEPTH_LIMIT o w = record { formed = b.formed.0; within = b.within.0; complete = (true, (tt, (tt, tt))) } in
    let joined = sym (append_assoc s (spellings order p (rows fs)) x) ∙ e ∙ append_assoc t (spellings order (o + length t) (rows gs)) y in
    let same = one_value (bounds_of specification) order DEPTH_LIMIT o v w (spellings order p (rows fs) ++ x) (spellings order (o + length t) (rows gs) ++ y) one other refl joined in
    let back = sym same.0 in
    let within = subst (λ (u : ValueTree). AreWithinLimits (bounds_of specification).array order (o + length (spelling order o u)) (rows gs)) back b.within.1 in
    let rest = subst (λ (u : ValueTree). spellings order p (rows fs) ++ x ≡ spellings order (o + length (spelling order o u)) (rows gs) ++ y) back same.1 in
    let long = subst (λ (u : ValueTree). length (s ++ spellings order p (rows fs)) ≤ length (spelling order o u ++ spellings order (o + length (spelling order o u)) (rows gs))) back le in
    let less : length (spellings order p (rows fs)) ≤ length (spellings order p (rows gs)) = omega (arith, long, length-append s (spellings order p (rows fs)), length-append s (spellings order p (rows gs))) in
    let more = begins order p fs gs x y (record { formed = a.formed.1; within = a.within.1 }) (record { formed = b.formed.1; within = within }) rest less in
    (more.0, ap (λ (h : FieldTree). h ∷ gs) (sym (same_field f g same.0)) ∙ ap (λ (l : List FieldTree). f ∷ l) more.1)

-- ---- the same bytes

-- the first byte names the order
same_order : (order : Order) (k : ℕ) (bytes more : List ℕ) → take (suc k) (order_byte order ∷ more) ≡ take (suc k) bytes → order_of bytes ≡ order
same_order order k [] more e = absurd cc
same_order Little k (y ∷ bytes) more e = let first : 108 ≡ y = ap (λ (l : List ℕ). get_or l 0 0) e in subst (λ (n : ℕ). order_of (n ∷ bytes) ≡ Little) first refl
same_order Big k (y ∷ bytes) more e = let first : 66 ≡ y = ap (λ (l : List ℕ). get_or l 0 0) e in subst (λ (n : ℕ). order_of (n ∷ bytes) ≡ Big) first refl

-- what is behind a front is the same too
pub behind : (n k : ℕ) (xs ys : List ℕ) → take (n + k) xs ≡ take (n + k) ys → take k (drop n xs) ≡ take k (drop n ys)
behind n k xs ys e = sym (drop-take n k xs) ∙ ap (λ (l : List ℕ). drop n l) e ∙ drop-take n k ys

pub shorter : (m n : ℕ) (xs ys : List ℕ) → m ≤ n → take n xs ≡ take n ys → take m xs ≡ take m ys
shorter m n xs ys le e = sym (take-take m n xs le) ∙ ap (λ (l : List ℕ). take m l) e ∙ take-take m n ys le

pub gaps : (gap_to 4 12 ≡ 0) × (gap_to 8 16 ≡ 0) × (contents_start field_type 12 ≡ 16)
unfolding gap_to
gaps = (refl, refl, refl)

-- the fields of a message, as they are spelled behind its first 16 bytes
pub record Spelled (order : Order) (m : MessageTree) : Type 0 where
  pub rest : List ℕ
  pub spelled : drop 16 (message_bytes order m) ≡ spellings order 16 (rows m.fields) ++ rest
  pub long : length (spellings order 16 (rows m.fields)) ≡ number_of order (take 4 (drop 12 (message_bytes order m)))
  pub are : AreSpelled order 16 m.fields

pub fields_spelled : (order : Order) (m : MessageTree) → IsMessage specification order m → Spelled order m
fields_spelled order m valid =
    let b = message_bytes order m in
    let n = number_of order (take 4 (drop 12 b)) in
    let s = fields_stand specification order m b refl valid (omega arith) in
    let p = array_stands s refl in
    let found = array_found s p {g = 0} {b = 8} {h = 0} {n = n} (sym gaps.0) (boundary_by 40 8 refl) (sym gaps.1) refl in
    let is : p.xs ≡ rows m.fields = let e = p.is in cc in
    let el = elements_there s p 16 n found.0 found.1 in
    let rest = pad 8 (end_of_fields order m.fields) ++ body_bytes order m in
    let there = subst (λ (us : ValueTrees). drop 16 b ≡ spellings order 16 us ++ rest) is el.spelled in
    let ends = subst (λ (us : ValueTrees). 16 + n ≡ 16 + length (spellings order 16 us)) is el.ends in
    let formed = subst (λ (us : ValueTrees). AreWellFormed (DEPTH_LIMIT - 1) us) is el.formed in
    let parts = all_parts_of (DEPTH_LIMIT - 1) (rows m.fields) formed in
    record {
      rest = rest;
      spelled = there;
      long = omega (arith, ends);
      are = record {
        formed = all_formed_of DEPTH_LIMIT (rows m.fields) (nest_wider (DEPTH_LIMIT - 1) DEPTH_LIMIT (rows m.fields) (omega arith) parts.0) parts.1 parts.2 parts.3;
        within = subst (λ (o : ℕ). AreWithinLimits (bounds_of specification).array order o (rows m.fields)) gaps.2 valid.within_fields.1;
      };
    }

-- and they state the same length of the fields
pub stated_same : (order : Order) (m : MessageTree) (bytes : List ℕ) → order_of bytes ≡ order → take 16 (message_bytes order m) ≡ take 16 bytes
    → number_of (order_of bytes) (take 4 (drop 12 bytes)) ≡ number_of order (take 4 (drop 12 (message_bytes order m)))
stated_same order m bytes ordered same =
    ap (λ (o : Order). number_of o (take 4 (drop 12 bytes))) ordered ∙ ap (λ (l : List ℕ). number_of order l) (sym (behind 12 4 (message_bytes order m) bytes same))

-- they are the first of the fields of the message, if those are spelled in the same bytes
pub fields_begin : (bytes : List ℕ) (fs : List FieldTree) (e : ℕ) → SpelledAll (bounds_of specification) (order_of bytes) DEPTH_LIMIT 16 (drop 16 bytes) (rows fs) e (drop e bytes) → e ≤ fields_end bytes → (order : Order) (m : MessageTree)
    → IsMessage specification order m → take e (message_bytes order m) ≡ take e bytes → (order_of bytes ≡ order) × (more : List FieldTree) × (m.fields ≡ fs ++ more)
fields_begin bytes fs e spelt within order m valid same =
    let b = message_bytes order m in
    let its = fields_spelled order m valid in
    let front : 16 ≤ e = omega (arith, spelt.place) in
    let split : suc (e - 1) ≡ e = omega (arith, front) in
    let ordered : order_of bytes ≡ order = same_order order (e - 1) bytes _ (subst (λ (k : ℕ). take k b ≡ take k bytes) (sym split) same) in
    let spelled = subst (λ (o : Order). SpelledAll (bounds_of specification) o DEPTH_LIMIT 16 (drop 16 bytes) (rows fs) e (drop e bytes)) ordered spelt in
    let k = length (spellings order 16 (rows fs)) in
    let apart : 16 + k ≡ e = omega (arith, spelled.place) in
    let shared = behind 16 k b bytes (subst (λ (j : ℕ). take j b ≡ take j bytes) (sym apart) same) in
    let mine : take k (drop 16 b) ≡ spellings order 16 (rows fs) =
    shared ∙ ap (λ (l : List ℕ). take k l) spelled.bytes ∙ take-append_seam (spellings order 16 (rows fs)) (drop e bytes) in
    let both : spellings order 16 (rows fs) ++ drop k (drop 16 b) ≡ spellings order 16 (rows m.fields) ++ its.rest =
    ap (λ (l : List ℕ). l ++ drop k (drop 16 b)) (sym mine) ∙ take-append-drop k (drop 16 b) ∙ its.spelled in
    let begun = begins order 16 fs m.fields (drop k (drop 16 b)) its.rest (record { formed = spelled.formed; within = spelled.within }) its.are both
    (omega (arith, apart, within, stated_same order m bytes ordered (shorter 16 e b bytes front same), its.long)) in
    (ordered, begun.0, begun.1)

pub first_fields : FirstFields
first_fields bytes at fs whole limits order m is same =
    let begun = fields_begin bytes fs whole.end whole.spelled (omega (arith, whole.within)) order m (wider_message limits specification order m (widest limits) is) same in
    (begun.1, begun.2)
