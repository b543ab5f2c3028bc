-- The parts of a validated message, as they stand among its own bytes.
use Rattle.std.proofs.Common.{◌≡◌, ℕ, ◌≤◌, List, [], ◌∷◌, ◌++◌, length, take, false, sym, ap, subst, ◌∙◌, arith, append-nil}
use Rattle.dbus_texts.specs.Types.{array_code, sig, IsShaped}
use Rattle.dbus_value_model.specs.Bytes.{pad}
use Rattle.dbus_value_model.specs.Spelling.{spelling, spellings}
use Rattle.dbus_value_model.specs.Values.{ValueTree, NoValues, MoreValues, type_of}
use Rattle.dbus_value_model.specs.declared.limits.Limits.{Limits}
use Rattle.dbus_value_model.specs.declared.order.Order.{Order}
use Rattle.dbus_message_model.specs.Messages.{MessageTree, field_array, body_start, fields_end, body_signature, message_bytes, IsMessage}
use Rattle.dbus_header.specs.MessageOutcomes.{IsWhole}
use Rattle.dbus_header.proofs.OutcomeLaws.{one_whole, whole_bytes, whole_inside, whole_valid}
use Rattle.dbus_walk.specs.Fields.{field_types}
use Rattle.dbus_walk.specs.Standing.{Stands, AllStand}
use Rattle.dbus_walk.proofs.MessageParts.{fields_stand, body_few, body_stands, twelve}
use Rattle.dbus_validate.specs.Seen.{AreNoted}
use Rattle.dbus_validate.specs.Validating.{IsValidated}
use Rattle.dbus_validate.specs.declared.validating.Validated.{Validated}
use Rattle.dbus_validate.proofs.SeenSteps.{noted_of_all}

-- one value that stands there is all of some
one_stands : {order : Order} {depth_left : ℕ} {types : List ℕ} {at : ℕ} {bytes : List ℕ} {v : ValueTree} {rest : List ℕ}
    → Stands order depth_left types at bytes v rest → IsShaped false (type_of v) → at ≤ length bytes → AllStand order depth_left types at bytes (MoreValues v NoValues) rest
unfolding spelling
one_stands {order} {depth_left} {types} {at} {bytes} {v} {rest} s shaped inside = record {
  text = append-nil (sig (type_of v)) ∙ s.text;
  shaped = (shaped, tt);
  formed = (s.formed, tt);
  array = s.array;
  small = s.small;
  within = (s.within, tt);
  spelled = s.spelled ∙ ap (λ (l : List ℕ). l ++ rest) (sym (append-nil (spelling order at v)));
  inside = inside;
}

module _ (limits : Limits) (bytes : List ℕ) (j : Validated) (is : IsValidated limits bytes j) where
  abbrev own : List ℕ
  own = take j.length bytes

  -- it lies within the bytes
  pub inside : j.length ≤ length bytes
  inside = (whole_inside limits bytes j.order is.message j.length is.whole).1

  pub noted_there : AreNoted is.message.fields bytes j.fields
  noted_there = noted_of_all is.message.fields j.length bytes j.fields is.fields

  module _ (m : MessageTree) (whole : IsWhole limits bytes j.order m j.length) where
    pub same_message : is.message ≡ m
    same_message = (one_whole limits bytes j.order j.order is.message m j.length j.length is.whole whole).1

    -- its type, its flags and its serial
    pub told_parts : (m.kind ≡ j.kind) × (m.flags ≡ j.flags) × (m.serial ≡ j.serial)
    told_parts = subst (λ (n : MessageTree). (n.kind ≡ j.kind) × (n.flags ≡ j.flags) × (n.serial ≡ j.serial)) same_message is.parts

    spelled : own ≡ message_bytes j.order m
    spelled = (whole_bytes limits bytes j.order m j.length whole).0

    valid : IsMessage limits j.order m
    valid = whole_valid limits bytes j.order m j.length whole j.order

    -- its fields, and what comes after them
    abbrev pub after_fields : List ℕ
    after_fields = pad 8 (fields_end j.order m.fields) ++ spellings j.order (body_start j.order m.fields) m.body

    pub fields_there : Stands j.order limits.depth (array_code ∷ field_types) 12 own (field_array m.fields) after_fields
    fields_there = fields_stand limits j.order m own spelled valid (omega (arith, limits.array_in))

    pub fields_alone : AllStand j.order limits.depth (array_code ∷ field_types) 12 own (MoreValues (field_array m.fields) NoValues) after_fields
    fields_alone = one_stands fields_there (tt, (tt, tt)) (twelve limits j.order m own spelled)

    -- its body, whose types are these
    pub begins : body_start j.order m.fields ≡ j.body
    begins = subst (λ (n : MessageTree). body_start j.order n.fields ≡ j.body) same_message is.body.0

    module _ (types : List ℕ) (typed : types ≡ body_signature is.message.fields) where
      signed : types ≡ body_signature m.fields
      signed = typed ∙ ap (λ (n : MessageTree). body_signature n.fields) same_message

      pub few : length types ≤ 255
      few = body_few limits j.order m own spelled valid (omega (arith, limits.array_in)) types signed

      pub body_there : AllStand j.order limits.depth types j.body own m.body []
      body_there = body_stands limits j.order m own spelled valid (omega (arith, limits.array_in)) types j.body signed begins
