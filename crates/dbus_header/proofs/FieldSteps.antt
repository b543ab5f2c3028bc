-- Steps of reading a field's value.
use Rattle.std.proofs.Common.{◌≡◌, ℕ, ◌+◌, ◌-◌, ◌<◌, ◌≤◌, List, drop, Some, None, refl, sym, ap, ◌∙◌, arith}
use Rattle.std.proofs.lemmas.Bool.{lt-ltb, le-ltb}
use Rattle.dbus_texts.specs.ComputedKinds.{type_spelled}
use Rattle.dbus_texts.specs.Types.{TypeTree, sig}
use Rattle.dbus_texts.specs.declared.text_kind.TextKind.TheVariants as kinds
use Rattle.dbus_value_model.specs.Bounds.{bounds_of}
use Rattle.dbus_value_model.specs.declared.limits.Limits.{Limits}
use Rattle.dbus_value_model.specs.declared.order.Order.{Order}
use Rattle.dbus_value_model.specs.declared.fault.Reason.TheVariants as reasons
use Rattle.dbus_value_model.specs.WantedTexts.{Of, Only}
use Rattle.dbus_value_model.specs.Reading.{Done, value}
use Rattle.dbus_value_laws.proofs.KindLaws.{spelled_sig}
use Rattle.dbus_message_model.specs.Messages.{OfType, Anything}
use Rattle.dbus_header.specs.MessageItems.{name_row}
use Rattle.dbus_header.specs.HeaderReading.{wanted_signature, wanted_value}

-- ---- the length of a name

pub long_name : (end p n : ℕ) → 255 < n → name_row end p n ≡ Some reasons.NameTooLong
long_name end p n h = rw (lt-ltb _ _ h) refl

pub name_overruns : (end p n : ℕ) → n ≤ 255 → p ≤ end → end - p ≤ n → name_row end p n ≡ Some reasons.Overrun
name_overruns end p n le at h =
    let over : end < p + n + 1 = omega arith in
    rw (le-ltb _ _ le, lt-ltb _ _ over) refl

pub name_fits : (end p n : ℕ) → n ≤ 255 → p ≤ end → n < end - p → name_row end p n ≡ None
name_fits end p n le at h =
    let fits : p + n + 1 ≤ end = omega arith in
    rw (le-ltb _ _ le, le-ltb _ _ fits) refl

-- ---- a field that holds a value of a type

module _ (limits : Limits) (order : Order) (end : ℕ) (at : ℕ) (bytes : List ℕ) (q : ℕ) where
  pub typed_value : (t : TypeTree) (wanted : List ℕ) → wanted ≡ sig t → wanted_signature order end (Only wanted) at (drop at bytes) ≡ Done (type_spelled wanted) q (drop q bytes)
      → wanted_value limits order end (OfType t) at (drop at bytes) ≡ value (bounds_of limits) order (limits.depth - 3) end t q (drop q bytes)
  unfolding wanted_value
  typed_value t wanted is h =
      let found : wanted_signature order end (Only (sig t)) at (drop at bytes) ≡ Done t q (drop q bytes) =
      ap (λ (u : List ℕ). wanted_signature order end (Only u) at (drop at bytes)) (sym is) ∙ h ∙ ap (λ (u : TypeTree). Done u q (drop q bytes)) (ap type_spelled is ∙ spelled_sig t) in
      rw found refl

  pub any_value : (t : TypeTree) → wanted_signature order end (Of kinds.Single) at (drop at bytes) ≡ Done t q (drop q bytes)
      → wanted_value limits order end Anything at (drop at bytes) ≡ value (bounds_of limits) order (limits.depth - 3) end t q (drop q bytes)
  unfolding wanted_value
  any_value t h = rw h refl
