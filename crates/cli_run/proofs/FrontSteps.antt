-- Bytes with the same fronts: what is told of a message depends on nothing behind its fault.
use Rattle.std.proofs.Common.{◌≡◌, ◌⊎◌, ℕ, ◌+◌, ◌-◌, ◌<◌, ◌≤◌, Bool, true, false, List, ◌++◌, Option, None, Some, length, take, refl, sym, ap, ◌∙◌, subst, arith, inl, inr, length-append}
use Rattle.std.proofs.lemmas.Bool.{cases_lt}
use Rattle.std.proofs.lemmas.List.{take-append-le, take_all}
use Rattle.dbus_device.specs.Packets.{Packets}
use Rattle.dbus_value_model.specs.declared.fault.Fault.{Fault}
use Rattle.dbus_value_model.specs.declared.limits.Limits.{Limits}
use Rattle.dbus_header.specs.MessageOutcomes.{IsPartial, IsRefused}
use Rattle.dbus_header.proofs.OutcomeLaws.{one_outcome, refused_for_good}
use Rattle.dbus_explain.specs.declared.message.Refused.{Refused}
use Rattle.cli_options.specs.declared.settings.Settings.{Settings}
use Rattle.cli_report.specs.FaultFronts.{IsFaultFront}
use Rattle.cli_report.specs.Telling.{Explains}
use Rattle.cli_report.specs.declared.telling.RefusedMessage.{RefusedMessage}
use Rattle.cli_report.proofs.FaultFronts.{IsShut, front_after, front_less, front_more, one_front, own_front}
use Rattle.cli_run.specs.Going.{IsTold, IsToldIn, IsToldRefused}
use Rattle.cli_run.specs.Inputs.{AreInPacket}
use Rattle.cli_run.specs.Needed.{IsUnshown}
use Rattle.cli_run.specs.Refusals.{IsRefusedIn}

-- each front of the one is one of the other
abbrev pub HaveSameFronts : Limits → (v w : List ℕ) → Type 0
HaveSameFronts limits v w = ((front : List ℕ) → IsFaultFront limits v front → IsFaultFront limits w front) × ((front : List ℕ) → IsFaultFront limits w front → IsFaultFront limits v front)

module _ (limits : Limits) where
  pub fronts_more : (w more : List ℕ) → IsShut limits w more → HaveSameFronts limits w (w ++ more)
  fronts_more w more shut = (λ front p. front_more limits w more front shut p, λ front p. front_less limits w more front shut p)

  pub fronts_own : (w front : List ℕ) → IsFaultFront limits w front → HaveSameFronts limits w front
  fronts_own w front p =
      let own = own_front limits w front p in (
        λ x q. subst (λ (l : List ℕ). IsFaultFront limits front l) (one_front limits w front x p q) own,
        λ x q. subst (λ (l : List ℕ). IsFaultFront limits w l) (one_front limits front front x own q) p,
      )

  -- bytes that show no fault are no more than those that show it
  pub unshown_front : (offset : ℕ) (w front : List ℕ) (came : ℕ) → IsFaultFront limits w front → IsUnshown limits offset w came → IsUnshown limits offset front came
  unshown_front offset w front came p u = elim (cases_lt (came - offset) (length w)) [
    | inl less ↦ (
        let n = came - offset in
        let after = front_after limits w front n p less u.1 in
        let same : take n w ≡ take n front = ap (take n) p.prefix.1 ∙ take-append-le n front p.prefix.0 (omega (arith, after)) in
        (omega (arith, after), subst (λ (l : List ℕ). IsPartial limits l) same u.1)
        )
    | inr all ↦ elim p.shown [
      | inl refused ↦ (
          let there : IsRefused limits w refused.0 = subst (λ (l : List ℕ). IsRefused limits l refused.0) (sym p.prefix.1) (refused_for_good limits front p.prefix.0 refused.0 refused.1) in
          absurd ((one_outcome limits w).2 refused.0 there (subst (λ (l : List ℕ). IsPartial limits l) (take_all (came - offset) w all) u.1))
          )
      | inr same ↦ subst (λ (l : List ℕ). IsUnshown limits offset l came) (sym same) u
    ]
  ]

module _ (limits : Limits) (v w : List ℕ) (same : HaveSameFronts limits v w) where
  -- of one packet
  pub refused_as : (packets : Option Packets) (offset : ℕ) (number : Option ℕ) → IsRefusedIn packets limits offset v number → IsRefusedIn packets limits offset w number
  refused_as None offset number r = tt
  refused_as (Some all) offset number r = λ front p. r front (same.1 front p)

  explained_as : (Is : Refused → List ℕ → Type 0) (refusal : RefusedMessage) (text : List ℕ) → Explains Is limits refusal v text → Explains Is limits refusal w text
  explained_as Is refusal text h = record {
    refused = h.refused;
    bytes_are = same.0 h.refused.bytes.now h.bytes_are;
    fault_is = h.fault_is;
    number_is = h.number_is;
    offset_is = h.offset_is;
    explained = h.explained;
  }

  told_in : (as_json goes_on explains : Bool) (refusal : RefusedMessage) (text : List ℕ) → IsToldIn as_json goes_on explains limits refusal v text → IsToldIn as_json goes_on explains limits refusal w text
  told_in true goes_on explains refusal text h = record { members = h.members; explains = explained_as _ refusal h.members h.explains; is = h.is }
  told_in false goes_on false refusal text h = h
  told_in false goes_on true refusal text h = (h.0, explained_as _ refusal h.0 h.1, h.2)

-- and told by one text
pub told_as : (packets : Option Packets) (settings : Settings) (n offset : ℕ) (v w : List ℕ) (fault : Fault) (text : List ℕ) → HaveSameFronts settings.limits v w → IsToldRefused packets settings n offset v fault text → IsToldRefused packets settings n offset w fault text
told_as packets settings n offset v w fault text same h =
    (h.0, refused_as settings.limits v w same packets offset h.0 h.1, told_in settings.limits v w same settings.as_json settings.keeps_going settings.explains _ text h.2)

-- bytes of a packet, and then others of it
pub in_packet_both : (packets : Option Packets) (number from mid end : ℕ) → AreInPacket packets number from mid → AreInPacket packets number mid end → AreInPacket packets number from end
in_packet_both None number from mid end p q = tt
in_packet_both (Some all) number from mid end p q = λ i after before. elim (cases_lt i mid) [ inl first ↦ p i after first | inr second ↦ q i second before ]
