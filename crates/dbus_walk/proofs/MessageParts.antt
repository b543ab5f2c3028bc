-- A message's bytes, part by part, and its fields and its body as values that stand in them.
-- D-Bus Specification, "Message Format".
use Rattle.std.proofs.Common.{◌≡◌, ℕ, ◌^◌, ◌<◌, ◌≤◌, List, [], ◌∷◌, ◌++◌, length, drop, refl, sym, ap, subst, ◌∙◌, arith, append_assoc}
use Rattle.std.proofs.lemmas.List.{length-append, length-replicate, append-nil}
use Rattle.dbus_value_model.specs.Bytes.{gap_to, pad, num}
use Rattle.dbus_value_model.specs.declared.limits.Limits.{Limits}
use Rattle.dbus_value_model.specs.declared.order.Order.{Order}
use Rattle.dbus_value_model.specs.Spelling.{spelling, spellings}
use Rattle.dbus_value_model.specs.Values.{types_of}
use Rattle.dbus_value_model.proofs.Numbers.{length-num}
use Rattle.dbus_message_model.specs.Messages.{MessageTree, order_byte, field_array, fields_end, body_start, body_bytes, body_signature, message_bytes, IsMessage}
use Rattle.dbus_message_model.proofs.BothOrders.{any_length}
use Rattle.dbus_walk.specs.Standing.{Stands, AllStand}
use Rattle.dbus_walk.proofs.Containers.{rest_next}
use Rattle.dbus_walk.proofs.Signed.{array_signed, body_shaped}

-- the order's byte, the type, the flags and the version
abbrev pub head : Order → MessageTree → List ℕ
head any m = order_byte any ∷ (num any 1 m.kind ++ (num any 1 m.flags ++ num any 1 1))

pub length-head : (any : Order) (m : MessageTree) → length (head any m) ≡ 4
length-head any m = omega (arith, length-append (num any 1 m.kind) (num any 1 m.flags ++ num any 1 1), length-append (num any 1 m.flags) (num any 1 1), length-num any 1 m.kind, length-num any 1 m.flags, length-num any 1 1)

module _ (limits : Limits) (order : Order) (m : MessageTree) (bytes : List ℕ) (is : bytes ≡ message_bytes order m) where
  -- the body's length, the serial, the fields, the padding after them, and the body
  abbrev pub sized : Order → List ℕ
  sized any = num any 4 (length (body_bytes order m))

  abbrev pub numbered : Order → List ℕ
  numbered any = num any 4 m.serial

  abbrev pub fielded : Order → List ℕ
  fielded any = spelling any 12 (field_array m.fields)

  abbrev pub padded : List ℕ
  padded = pad 8 (fields_end order m.fields)

  abbrev pub bodied : Order → List ℕ
  bodied any = spellings any (body_start order m.fields) m.body

  pub parts : bytes ≡ head order m ++ (sized order ++ (numbered order ++ (fielded order ++ (padded ++ bodied order))))
  parts = is ∙ simp append_assoc

  -- as far as the fields, in either order
  abbrev pub front : Order → List ℕ
  front any = (head any m ++ sized any) ++ numbered any

  pub length-front : (any : Order) → length (front any) ≡ 12
  length-front any = omega (arith, length-head any m, length-append (head any m ++ sized any) (numbered any), length-append (head any m) (sized any), length-num any 4 (length (body_bytes order m)), length-num any 4 m.serial)

  pub twelve : 12 ≤ length bytes
  twelve =
      let e : bytes ≡ front order ++ (fielded order ++ (padded ++ bodied order)) = parts ∙ simp append_assoc in
      omega (arith, ap length e, length-append (front order) (fielded order ++ (padded ++ bodied order)), length-front order)

  pub fields_spelled : drop 12 bytes ≡ fielded order ++ (padded ++ bodied order)
  fields_spelled = rest_next (front order) (fielded order) (padded ++ bodied order) bytes 12 (parts ∙ simp append_assoc) (length-front order)

  abbrev pub before_body : Order → List ℕ
  before_body any = (front any ++ fielded any) ++ padded

  pub length-before : (any : Order) → length (before_body any) ≡ body_start order m.fields
  length-before any =
      omega (arith, length-front any, any_length any order 12 (field_array m.fields), length-append (front any ++ fielded any) padded, length-append (front any) (fielded any), length-replicate {A = ℕ} (gap_to 8 (fields_end order m.fields)) 0)

  pub body_spelled : drop (body_start order m.fields) bytes ≡ bodied order ++ []
  body_spelled = rest_next (before_body order) (bodied order) [] bytes (body_start order m.fields) (parts ∙ ap (λ (l : List ℕ). head order m ++ (sized order ++ (numbered order ++ (fielded order ++ (padded ++ l))))) (sym (append-nil (bodied order))) ∙ simp append_assoc) (length-before order)

  -- ---- its fields and its body stand there

  module _ (valid : IsMessage limits order m) (small : limits.array < 256 ^ 4) where
    pub fields_stand : Stands order limits.depth (97 ∷ 40 ∷ 121 ∷ 118 ∷ 41 ∷ []) 12 bytes (field_array m.fields) (padded ++ bodied order)
    fields_stand = record {
      text = refl;
      shaped = (tt, (tt, tt));
      formed = valid.formed_fields;
      array = limits.array;
      small = small;
      within = valid.within_fields;
      spelled = fields_spelled;
    }

    -- the body's types have few bytes
    pub body_few : (types : List ℕ) → types ≡ body_signature m.fields → length types ≤ 255
    body_few types typed = let k = array_signed limits.depth m.fields valid.fields valid.formed_fields in omega (arith, k.1, ap length typed)

    pub body_stands : (types : List ℕ) (at : ℕ) → types ≡ body_signature m.fields → body_start order m.fields ≡ at → AllStand order limits.depth types at bytes m.body []
    body_stands types at typed here =
        subst (λ (k : ℕ). AllStand order limits.depth types k bytes m.body []) here (record {
          text = valid.signature ∙ sym typed;
          shaped = body_shaped limits.depth m.fields (types_of m.body) valid.fields valid.formed_fields valid.signature;
          formed = valid.formed_body;
          array = limits.array;
          small = small;
          within = valid.within_body;
          spelled = body_spelled;
          inside = omega (arith, ap length parts, length-before order, ap length (append_parts order), length-append (before_body order) (bodied order));
        })
      where
        append_parts : (any : Order) → head any m ++ (sized any ++ (numbered any ++ (fielded any ++ (padded ++ bodied any)))) ≡ before_body any ++ bodied any
        append_parts any = simp append_assoc
