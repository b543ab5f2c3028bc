-- What is found behind a message that is refused is a part of damaged bytes.
use Rattle.std.proofs.Common.{ℕ, List, take, sym, ap, subst, inl, inr}
use Rattle.dbus_value_model.specs.declared.limits.Limits.{Limits}
use Rattle.dbus_header.specs.NoMessage.{BeginsWithNone}
use Rattle.dbus_resync.specs.Search.{Finds}
use Rattle.dbus_resync.specs.declared.found.Found.{Found}
use Rattle.dbus_resync.specs.declared.found.Found.TheVariants.{At, Nowhere, Spent}
use Rattle.dbus_resync.specs.declared.found.Searched.{Searched}
use Rattle.dbus_stream.specs.GoingOn.{GoesByParts, IsPartOf, LeadsNowhere, Resumes, ResyncsByParts}
use Rattle.dbus_stream.specs.RawReading as raw

part_found : (limits : Limits) (window : ℕ) (w : List ℕ) (found : Found) → BeginsWithNone limits w → Finds limits (take window w) found → IsPartOf limits window w found
part_found limits window w (At offset) none f = record { none = none; next = f }
part_found limits window w Nowhere none f = record { none = none; nowhere = f }
part_found limits window w Spent none f = tt

part_resumed : (limits : Limits) (window effort : ℕ) (w : List ℕ) (s : Searched) → BeginsWithNone limits w → LeadsNowhere limits window (take window w) → Resumes limits window effort (take window w) s → IsPartOf limits window w s.found
part_resumed limits window effort w s none nowhere r = elim r.2 [
  | inl spent ↦ subst (IsPartOf limits window w) (sym (ap (λ (t : Searched). t.found) spent.1)) tt
  | inr on ↦ elim on.1 [
    | inl led ↦ absurd (nowhere led.0 led.1)
    | inr first ↦ subst (IsPartOf limits window w) (sym (ap (λ (t : Searched). t.found) first.3)) (part_found limits window w first.1.found none first.2.finds)
  ]
]

pub goes_by_parts : {R A : Type 0} → GoesByParts R A
goes_by_parts window w old new (At offset) none g = part_found (raw.limits_of old) window w (At offset) none g.0.is_found.1.finds
goes_by_parts window w old new Nowhere none g = part_found (raw.limits_of old) window w Nowhere none g.0.is_found.1.finds
goes_by_parts window w old new Spent none g = tt

pub resyncs_by_parts : {R A : Type 0} → ResyncsByParts R A
resyncs_by_parts window w old new (At offset) none nowhere g = part_resumed (raw.limits_of old) window _ w _ none nowhere g.0.is_found.1
resyncs_by_parts window w old new Nowhere none nowhere g = part_resumed (raw.limits_of old) window _ w _ none nowhere g.0.is_found.1
resyncs_by_parts window w old new Spent none nowhere g = tt
