-- The values of the body that are whole before a place, as those of a message with the same bytes.
use Rattle.std.proofs.Common.{◌≡◌, ℕ, ◌+◌, ◌≤◌, List, [], ◌∷◌, ◌++◌, length, take, drop, true, refl, sym, ap, subst, ◌∙◌, arith, append_assoc, length-append}
use Rattle.std.proofs.lemmas.List.{drop-drop, length-take, take-append-drop}
use Rattle.std.proofs.Math.Seq.{take-append_seam}
use Rattle.dbus_texts.specs.Types.{TypeTree, TypeTrees, NoTypes, MoreTypes, AreShaped, IsShaped, sigs}
use Rattle.dbus_texts.proofs.KindFacts.{sigs_same}
use Rattle.dbus_value_laws.proofs.ValueItemLaws.{one_value}
use Rattle.dbus_value_laws.proofs.ValueSteps.{shaped_inside}
use Rattle.dbus_value_model.specs.Bounds.{bounds_of}
use Rattle.dbus_value_model.specs.Bytes.{gap_to, num, pad}
use Rattle.dbus_value_model.specs.Laws.{Spells}
use Rattle.dbus_value_model.specs.Reading.{number_of}
use Rattle.dbus_value_model.specs.Specification.{specification}
use Rattle.dbus_value_model.specs.Spelling.{AreWithinLimits, Spelled, spelling, spellings}
use Rattle.dbus_value_model.specs.Values.{ValueTree, ValueTrees, NoValues, MoreValues, AreWellFormed, type_of, types_of, value_trees}
use Rattle.dbus_value_model.specs.declared.limits.TheConstants.{DEPTH_LIMIT}
use Rattle.dbus_value_model.specs.declared.order.Order.{Order}
use Rattle.dbus_value_model.proofs.Numbers.{length-num}
use Rattle.dbus_message_model.specs.Messages.{AreFields, FieldTree, body_bytes, body_signature, body_start, fields_end as end_of_fields, message_bytes}
use Rattle.dbus_message_model.proofs.Widening.{wider_message, widest}
use Rattle.dbus_walk.proofs.FieldParts.{fields_apart}
use Rattle.dbus_walk.proofs.MessageParts.{body_stands, fields_stand}
use Rattle.dbus_walk.specs.Fields.{FieldsLeft}
use Rattle.dbus_walk.specs.declared.spot.MessageBytes.{MessageBytes}
use Rattle.dbus_explain.specs.Before.{AreFirstOf}
use Rattle.dbus_explain.specs.FirstValues.{FirstValues}
use Rattle.dbus_explain.specs.Places.{body_begin, fields_end, order_of}
use Rattle.dbus_explain.proofs.Entering.{signature_behind}
use Rattle.dbus_explain.proofs.FirstFields.{behind, fields_begin, fields_spelled, rows, shorter, stated_same}
use Rattle.dbus_explain.proofs.SignedFields.{same_signature}
use Rattle.dbus_explain.proofs.WholeFields.{fields_passed}

-- ---- values in a row

abbrev listed : ValueTrees → List ValueTree
listed NoValues = []
listed (MoreValues v vs) = v ∷ listed vs

listed_same : (vs : ValueTrees) → vs ≡ value_trees (listed vs)
listed_same NoValues = refl
listed_same (MoreValues v vs) = ap (λ (us : ValueTrees). MoreValues v us) (listed_same vs)

-- the first of others
abbrev AreFirst : (vs ws : ValueTrees) → Type 0
AreFirst vs ws = (xs : List ValueTree) × (more : List ValueTree) × (vs ≡ value_trees xs) × (ws ≡ value_trees (xs ++ more))

module _ (bytes : List ℕ) (at : ℕ) where
  first_moves : (vs : ValueTrees) (ts : TypeTrees) (p q : ℕ) → AreFirstOf bytes at vs ts p q → p ≤ q
  first_moves NoValues ts p q h = omega (arith, h.0)
  first_moves (MoreValues v vs) NoTypes p q h = absurd h
  first_moves (MoreValues v vs) (MoreTypes t ts) p q h = omega (arith, h.1.place, first_moves vs ts h.0 q h.2)

  first_begin : (order : Order) → order_of bytes ≡ order → (b : List ℕ) (y : List ℕ) (vs : ValueTrees) (ts : TypeTrees) (ws : ValueTrees) (p q : ℕ) → AreFirstOf bytes at vs ts p q → AreShaped ts → types_of ws ≡ ts
      → AreWellFormed DEPTH_LIMIT ws → AreWithinLimits (bounds_of specification).array order p ws → drop p b ≡ spellings order p ws ++ y → take q b ≡ take q bytes → AreFirst vs ws
  unfolding spellings
  first_begin order ordered b y NoValues ts ws p q h shaped typed formed within there same = ([], listed ws, refl, listed_same ws)
  first_begin order ordered b y (MoreValues v vs) NoTypes ws p q h shaped typed formed within there same = absurd h
  first_begin order ordered b y (MoreValues v vs) (MoreTypes t ts) NoValues p q h shaped typed formed within there same = absurd cc
  first_begin order ordered b y (MoreValues v vs) (MoreTypes t ts) (MoreValues w ws) p q h shaped typed formed within there same =
      let one = subst (λ (o : Order). Spelled (bounds_of specification) o DEPTH_LIMIT at t p (drop p bytes) v h.0 (drop h.0 bytes)) ordered h.1 in
      let s = spelling order p v in
      let k = length s in
      let inside = shaped_inside t shaped.0 in
      let mine : Spells (bounds_of specification) order DEPTH_LIMIT p v = record { formed = one.formed; within = one.within; complete = (true, subst (λ (u : TypeTree). IsShaped true u) (sym one.has_type) inside) } in
      let its_type : type_of w ≡ t = cc in
      let its : Spells (bounds_of specification) order DEPTH_LIMIT p w = record { formed = formed.0; within = within.0; complete = (true, subst (λ (u : TypeTree). IsShaped true u) (sym its_type) inside) } in
      let moves = first_moves vs ts h.0 q h.2 in
      let front : take k (drop p b) ≡ s =
      behind p k b bytes (shorter (p + k) q b bytes (omega (arith, one.place, moves)) same) ∙ ap (λ (l : List ℕ). take k l) one.bytes ∙ take-append_seam s (drop h.0 bytes) in
      let r : p + k ≡ h.0 = omega (arith, one.place) in
      let both : s ++ drop k (drop p b) ≡ spelling order p w ++ (spellings order (p + length (spelling order p w)) ws ++ y) =
      ap (λ (l : List ℕ). l ++ drop k (drop p b)) (sym front) ∙ take-append-drop k (drop p b) ∙ there ∙ append_assoc (spelling order p w) (spellings order (p + length (spelling order p w)) ws) y in
      let equal = one_value (bounds_of specification) order DEPTH_LIMIT p v w (drop k (drop p b)) (spellings order (p + length (spelling order p w)) ws ++ y) mine its (one.has_type ∙ sym its_type) both in
      let next : p + length (spelling order p w) ≡ h.0 = ap (λ (u : ValueTree). p + length (spelling order p u)) (sym equal.0) ∙ r in
      let rest : drop h.0 b ≡ spellings order h.0 ws ++ y =
      ap (λ (n : ℕ). drop n b) (sym r) ∙ sym (drop-drop k p b) ∙ equal.1 ∙ ap (λ (n : ℕ). spellings order n ws ++ y) next in
      let others = first_begin order ordered b y vs ts ws h.0 q h.2 shaped.1 (let e : types_of ws ≡ ts = cc in e) formed.1 (subst (λ (n : ℕ). AreWithinLimits (bounds_of specification).array order n ws) next within.1) rest same in
      (v ∷ others.0, others.1, ap (λ (us : ValueTrees). MoreValues v us) others.2, ap (λ (u : ValueTree). MoreValues u ws) (sym equal.0) ∙ ap (λ (us : ValueTrees). MoreValues v us) others.3)

-- ---- the message

-- where the fields of a message end
ends_at : (order : Order) (fs : List FieldTree) → end_of_fields order fs ≡ 16 + length (spellings order 16 (rows fs))
unfolding spelling gap_to
ends_at order fs =
    let c = spellings order 16 (rows fs) in
    omega (arith, length-append (num order 4 (length c)) c, length-num order 4 (length c))

pub first_values : FirstValues
first_values bytes at vs whole limits order m is same =
    let b = message_bytes order m in
    let said = whole.said in
    let fe = fields_end bytes in
    let p = said.p in
    let valid = wider_message limits specification order m (widest limits) is in
    let gs = fields_passed bytes fe said.n 16 p said.before in
    let behind_it = signature_behind bytes fe p (sigs whole.types) said.signature in
    let moves : body_begin bytes ≤ whole.end = first_moves bytes at vs whole.types (body_begin bytes) whole.end whole.first in
    let all : fe ≤ whole.end = omega (arith, moves) in
    let begun = fields_begin bytes gs.0 p gs.1 (omega (arith, behind_it)) order m valid (shorter p whole.end b bytes (omega (arith, behind_it, all)) same) in
    let ordered = begun.0 in
    let its = fields_spelled order m valid in
    let stated = stated_same order m bytes ordered (shorter 16 whole.end b bytes (omega (arith, all)) same) in
    let source : MessageBytes = record { bytes = record { ref_ptr = (0, 0); now = b }; order = order } in
    let n = number_of order (take 4 (drop 12 b)) in
    let rest = pad 8 (end_of_fields order m.fields) ++ body_bytes order m in
    let there = fields_apart source specification.depth m.fields rest (fields_stand specification order m b refl valid (omega arith)) n refl in
    let ended : 16 + n ≡ fe = omega (arith, stated) in
    let header = shorter fe whole.end b bytes all same in
    let long : fe ≤ length bytes = let as_long = ap (λ (l : List ℕ). length l) header in omega (arith, as_long, there.0, ended, length-take fe b, length-take fe bytes) in
    let place : p ≡ 16 + length (spellings order 16 (rows gs.0)) = subst (λ (o : Order). p ≡ 16 + length (spellings o 16 (rows gs.0))) ordered gs.1.place in
    let left = subst (λ (fs : List FieldTree). FieldsLeft source specification.depth 16 fe fs rest) begun.2 (subst (λ (e : ℕ). FieldsLeft source specification.depth 16 e m.fields rest) ended there.1) in
    let are = subst (λ (fs : List FieldTree). AreFields [] fs) begun.2 valid.fields in
    let signed = same_signature bytes b fe p (sigs whole.types) order specification.depth gs.0 begun.1 rest said.signature header long are place left in
    let types : whole.types ≡ types_of m.body =
    sigs_same whole.types (types_of m.body) (signed ∙ ap (λ (fs : List FieldTree). body_signature fs) (sym begun.2) ∙ sym valid.signature) in
    let same_end : fe ≡ end_of_fields order m.fields = omega (arith, stated, its.long, ends_at order m.fields) in
    let begins : body_begin bytes ≡ body_start order m.fields = ap (λ (k : ℕ). k + gap_to 8 k) same_end in
    let body = body_stands specification order m b refl valid (omega arith) (body_signature m.fields) (body_begin bytes) refl (sym begins) in
    let within = subst (λ (k : ℕ). AreWithinLimits (bounds_of specification).array order k m.body) (sym begins) valid.within_body in
    let first = first_begin bytes at order ordered b [] vs whole.types m.body (body_begin bytes) whole.end whole.first (subst AreShaped (sym types) body.shaped) (sym types) valid.formed_body within body.spelled same in
    (ordered, begins, first.0, first.1, first.2, first.3)
