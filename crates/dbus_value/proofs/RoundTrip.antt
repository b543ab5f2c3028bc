-- What passes a check and was written is spelled there, and getting it gives it back.
use Rattle.std.proofs.Common.{◌≡◌, ℕ, ◌≤◌, true, List, ◌++◌, length, drop, Option, None, Result, Ok, Err, refl, sym, subst, arith, append_assoc}
use Rattle.std.proofs.lemmas.List.Prefix.{front_rest}
use Rattle.dbus_value_model.specs.declared.limits.Bounds.{Bounds}
use Rattle.dbus_value_model.specs.declared.limits.Limits.{Limits}
use Rattle.dbus_value_model.specs.declared.order.Order.{Order}
use Rattle.dbus_value_model.specs.declared.order.Order.TheVariants.{Little}
use Rattle.dbus_value_model.specs.declared.fault.Refusal.{Refusal}
use Rattle.dbus_value_model.specs.declared.fault.Refusal.TheVariants.{Memory, Format}
use Rattle.dbus_value_model.specs.declared.got.Got.{Got}
use Rattle.dbus_value_model.specs.declared.got.Got.TheVariants.{Done, Partial}
use Rattle.dbus_value_model.specs.RoundTrip.{Gets, PassesCheck, GivesBack, WrittenIsRead}
use Rattle.dbus_value_model.specs.Sizes.{sized}
use Rattle.dbus_value_model.specs.Bounds.{bounds_with}
use Rattle.dbus_value_model.specs.Spelling.{spelling, Spelled}
use Rattle.dbus_value_model.specs.Values.{ValueTree, type_of}
use Rattle.dbus_value_model.specs.ValueItems as faults
use Rattle.dbus_value_model.specs.ValueViews.{value_tree}
use Rattle.dbus_value_model.specs.Reading as reading
use Rattle.dbus_value_model.proofs.Formed.{formed_of}
use Rattle.dbus_value_model.proofs.PartRanges.{ranged_of}
use Rattle.dbus_marshal.proofs.SizeLaws.{size_ends}
use Rattle.dbus_value_laws.proofs.ValueItemLaws.{Agrees-value, value_inside, agreed_either, agreed_value}
use Rattle.dbus_value_laws.proofs.ValueSteps.{single_shaped}

written_spelled : (limits : Limits) (fds : Option ℕ) (order : Order) (room end o e : ℕ) (v : ValueTree) (more : List ℕ)
    → PassesCheck room fds v → o ≤ limits.message → sized limits v None o ≡ Ok e → e ≤ end
    → Spelled (bounds_with limits fds) order room end (type_of v) o (spelling order o v ++ more) v e more
written_spelled limits fds order room end o e v more checked start size le =
    let ends = size_ends limits order v o e start size in
    let little = size_ends limits Little v o e start size in
    let ranged = ranged_of o v checked.numbers checked.named (omega (arith, little.1, little.2, limits.message_in)) in
    record {
      has_type = refl;
      formed = formed_of room v checked.nests checked.uniform checked.named ranged;
      within = ends.0;
      indexes = checked.indexes;
      bytes = refl;
      place = sym ends.1;
      bound = le;
    }

module _ {A : Type 0} (bounds : Bounds) (order : Order) (room end : ℕ) (v : ValueTree) (at e : ℕ) (bytes more : List ℕ) (checked : PassesCheck room bounds.fds v)
    (spelled : Spelled bounds order room end (type_of v) at (drop at bytes) v e more) where
  back : (read : Result (Got A) Refusal) → Gets bounds order room end (type_of v) at bytes read → GivesBack v e read
  back (Ok (Done w q)) h =
      let agrees = Agrees-value bounds order room end true (type_of v) (single_shaped (type_of v) checked.single) in
      let same = agreed_value (faults.value bounds order room end (type_of v)) (reading.value bounds order room end (type_of v)) agrees at (drop at bytes) (value_tree w) q (drop q bytes) v e more
      ((value_inside bounds order room end (type_of v) at (drop at bytes) (value_tree w) q (drop q bytes)).1 h)
      ((value_inside bounds order room end (type_of v) at (drop at bytes) v e more).1 spelled) in
      (same.0, same.1)
  back (Ok Partial) h = h.not_spelled v e more spelled
  back (Err Memory) h = tt
  back (Err (Format f)) h =
      let agrees = Agrees-value bounds order room end true (type_of v) (single_shaped (type_of v) checked.single) in
      agreed_either (faults.value bounds order room end (type_of v)) (reading.value bounds order room end (type_of v)) agrees at (drop at bytes) v e more f
      ((value_inside bounds order room end (type_of v) at (drop at bytes) v e more).1 spelled) h

pub written_is_read : {A : Type 0} → WrittenIsRead A
written_is_read limits fds order room end e v front more read checked start size le h =
    let text = spelling order (length front) v in
    let bytes = front ++ text ++ more in
    let suffix : drop (length front) bytes ≡ text ++ more = front_rest bytes front (text ++ more) (append_assoc front text more) in
    let spelled = subst (λ (s : List ℕ). Spelled (bounds_with limits fds) order room end (type_of v) (length front) s v e more) (sym suffix) (written_spelled limits fds order room end (length front) e v more checked start size le) in
    back (bounds_with limits fds) order room end v (length front) e bytes more checked spelled read h
