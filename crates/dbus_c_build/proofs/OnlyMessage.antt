-- The only message that the bytes of parts may begin with has these parts, and is all of the bytes.
use Rattle.std.proofs.Common.{◌≡◌, ℕ, ◌-◌, ◌^◌, ◌<◌, ◌≤◌, List, [], ◌∷◌, ◌++◌, length, replicate, refl, sym, ap, subst, ◌∙◌, arith, append_assoc}
use Rattle.std.proofs.lemmas.List.{length-replicate, append-nil}
use Rattle.dbus_value_model.specs.declared.limits.Limits.{Limits}
use Rattle.dbus_value_model.specs.declared.order.Order.{Order}
use Rattle.dbus_value_model.specs.declared.order.Order.TheVariants.{Little, Big}
use Rattle.dbus_value_model.specs.SizeLimits.{with_values}
use Rattle.dbus_value_model.specs.Bounds.{bounds_of}
use Rattle.dbus_value_model.specs.Bytes.{num, pad, gap_to}
use Rattle.dbus_value_model.specs.Spelling.{spelling, spellings}
use Rattle.dbus_value_model.specs.Values.{ValueTrees}
use Rattle.dbus_message_model.specs.Messages.{FieldTree, MessageTree, IsMessage, order_byte, field_array, fields_end, body_bytes, message_bytes}
use Rattle.dbus_message_model.proofs.BothOrders.{message_length}
use Rattle.dbus_c_build.specs.Building.{OneBuilt, with_header, spelled, HaveBytes}
use Rattle.dbus_c_build.specs.Drafts.{HasParts, fields_after}
use Rattle.dbus_c_build.specs.declared.draft.Draft.{Draft}
use Rattle.dbus_c_build.proofs.Anywhere.{AreSpelled, message_spelled, structs}
use Rattle.dbus_c_build.proofs.Cancelling.{fronts, heads, numbers}
use Rattle.dbus_c_build.proofs.ClearFields.{clear_fields}
use Rattle.dbus_c_build.proofs.SameFields.{same_fields}

-- where a message has the parts, its bytes are these
pub parts_spelled : (kept : List FieldTree) (p : Draft) (m : MessageTree) → HasParts kept p m → message_bytes p.order m ≡ spelled kept p
parts_spelled kept p m has =
    ap (λ (k : ℕ). with_header p.order k m.flags m.serial m.fields (body_bytes p.order m)) has.numbers.0
    ∙ ap (λ (f : ℕ). with_header p.order p.kind f m.serial m.fields (body_bytes p.order m)) has.numbers.1
    ∙ ap (λ (s : ℕ). with_header p.order p.kind p.flags s m.fields (body_bytes p.order m)) has.numbers.2
    ∙ ap (λ (fs : List FieldTree). with_header p.order p.kind p.flags p.serial fs (body_bytes p.order m)) has.fields
    ∙ ap (with_header p.order p.kind p.flags p.serial (fields_after p kept)) has.body

-- what is built of the parts of a message is that message
pub one_built : OneBuilt
one_built limits kept p m out has is = is.bytes ∙ parts_spelled kept p is.message is.parts ∙ sym (parts_spelled kept p m has)

pub array_is : (order : Order) (fs : List FieldTree) → spelling order 12 (field_array fs) ≡ num order 4 (length (spellings order 16 (structs fs))) ++ spellings order 16 (structs fs)
unfolding spelling gap_to
array_is order fs = refl

values_are : (order : Order) (vs : ValueTrees) (front : List ℕ) → length front ≡ 16 → with_values order vs front ≡ front ++ spellings order 16 vs
unfolding with_values
values_are order vs front long = ap (λ (n : ℕ). front ++ spellings order n vs) long

pub contents_within : (limits : Limits) (order : Order) (m : MessageTree) → IsMessage limits order m → length (spellings order 16 (structs m.fields)) ≤ limits.array
unfolding gap_to
contents_within limits order m valid = valid.within_fields.0

-- the bytes of a message and others, part by part
in_parts : (order : Order) (kind flags serial : ℕ) (fs : List FieldTree) (body rest : List ℕ) →
    with_header order kind flags serial fs body ++ rest ≡ order_byte order ∷ (num order 1 kind ++ (num order 1 flags ++ (num order 1 1
    ++ (num order 4 (length body) ++ (num order 4 serial ++ (num order 4 (length (spellings order 16 (structs fs))) ++ (spellings order 16 (structs fs) ++ (pad 8 (fields_end order fs) ++ (body ++ rest)))))))))
in_parts order kind flags serial fs body rest =
    ap (λ (a : List ℕ). (order_byte order ∷ (num order 1 kind ++ (num order 1 flags ++ (num order 1 1 ++ (num order 4 (length body) ++ (num order 4 serial ++ (a ++ (pad 8 (fields_end order fs) ++ body)))))))) ++ rest) (array_is order fs)
    ∙ simp append_assoc

-- the byte of an order names it
pub one_order : (order other : Order) → order_byte order ≡ order_byte other → order ≡ other
one_order Little Little same = refl
one_order Little Big same = absurd (omega (arith, same))
one_order Big Little same = absurd (omega (arith, same))
one_order Big Big same = refl

-- what a message is whose bytes begin those of the parts
pub record IsOnly (limits : Limits) (kept : List FieldTree) (p : Draft) (order : Order) (m : MessageTree) (rest : List ℕ) : Type 0 where
  pub order_is : order ≡ p.order
  pub numbers : (m.kind ≡ p.kind) × (m.flags ≡ p.flags) × (m.serial ≡ p.serial)
  pub fields : m.fields ≡ fields_after p kept
  pub body : body_bytes p.order m ≡ p.body.now
  pub nothing : rest ≡ []

module _ (limits : Limits) (kept : List FieldTree) (p : Draft) (have : HaveBytes kept p) (spells : AreSpelled (bounds_of limits) p.order (limits.depth - 1) kept) where
  abbrev fs : List FieldTree
  fs = fields_after p kept

  in_order : (m : MessageTree) (rest : List ℕ) → length p.body.now < 256 ^ 4 → IsMessage limits p.order m → message_bytes p.order m ++ rest ≡ spelled kept p → IsOnly limits kept p p.order m rest
  in_order m rest few valid same =
      let order = p.order in
      let body = p.body.now in
      let contents = spellings order 16 (structs m.fields) in
      let given = spellings order 16 (structs fs) in
      let left = in_parts order m.kind m.flags m.serial m.fields (body_bytes order m) rest in
      let right = in_parts order p.kind p.flags p.serial fs body [] in
      let all = sym left ∙ same ∙ sym (append-nil (spelled kept p)) ∙ right in
      let tail = (heads _ _ _ _ all).1 in
      let byte : (n : ℕ) → n < 256 → n < 256 ^ 1 = λ n h. omega (arith, h) in
      let kind = numbers order 1 m.kind p.kind _ _ (byte _ valid.kind_fits) (byte _ have.numbers.0) tail in
      let flags = numbers order 1 m.flags p.flags _ _ (byte _ valid.flags) (byte _ have.numbers.1) kind.1 in
      let version = numbers order 1 1 1 _ _ (omega arith) (omega arith) flags.1 in
      let short : length (body_bytes order m) < 256 ^ 4 = omega (arith, message_length order m, valid.limit, limits.message_in) in
      let long = numbers order 4 (length (body_bytes order m)) (length body) _ _ short few version.1 in
      let serial = numbers order 4 m.serial p.serial _ _ valid.serial_fits (omega (arith, have.numbers.2)) long.1 in
      let array = numbers order 4 (length contents) (length given) _ _ (omega (arith, contents_within limits order m valid, limits.array_in)) (omega (arith, have.fields)) serial.1 in
      let held = fronts contents given _ _ array.0 array.1 in
      let front : List ℕ = replicate 16 0 in
      let sixteen : length front ≡ 16 = length-replicate {A = ℕ} 16 0 in
      let spelled_alike = values_are order (structs m.fields) front sixteen ∙ ap (λ (l : List ℕ). front ++ l) held.0 ∙ sym (values_are order (structs fs) front sixteen) in
      let bounds = bounds_of limits in
      let clear = clear_fields bounds order (limits.depth - 1) kept p have spells in
      let alike : m.fields ≡ fs = same_fields bounds order (limits.depth - 1) m.fields fs front (message_spelled limits order m valid) clear spelled_alike in
      let ends : pad 8 (fields_end order m.fields) ≡ pad 8 (fields_end order fs) = ap (λ (gs : List FieldTree). pad 8 (fields_end order gs)) alike in
      let after = fronts (pad 8 (fields_end order m.fields)) (pad 8 (fields_end order fs)) _ _ (ap length ends) held.1 in
      let bodies = fronts (body_bytes order m) body rest [] long.0 after.1 in
      record { order_is = refl; numbers = (kind.0, flags.0, serial.0); fields = alike; body = bodies.0; nothing = bodies.1 }

  pub only_message : (order : Order) (m : MessageTree) (rest : List ℕ) → length p.body.now < 256 ^ 4 → IsMessage limits order m → message_bytes order m ++ rest ≡ spelled kept p → IsOnly limits kept p order m rest
  only_message order m rest few valid same =
      let is : order ≡ p.order = one_order order p.order (heads _ _ _ _ same).0 in
      let P : Order → Type 0 = λ o. IsMessage limits o m → message_bytes o m ++ rest ≡ spelled kept p → IsOnly limits kept p o m rest in
      subst P (sym is) (in_order m rest few) valid same
