-- What a gatherer makes of a piece, as the taker of a reader.
use Rattle.std.proofs.Common.{◌≡◌, ℕ, List, [], false, Ok, Err, None, Option, Bool, length, take, refl, sym, ap, ◌∙◌, subst, arith, inl, inr}
use Rattle.std.proofs.Math.Nat.{zero-add}
use Rattle.std.proofs.Math.Seq.{take-append-add}
use Rattle.dbus_value_model.specs.declared.limits.Limits.{Limits}
use Rattle.dbus_header.specs.MessageOutcomes.{IsWhole}
use Rattle.dbus_header.proofs.OutcomeLaws.{nothing_partial, whole_inside}
use Rattle.dbus_validate.specs.declared.validating.Validated.{Validated}
use Rattle.dbus_validate.specs.Validating.{IsValidated, IsValidatedWhole}
use Rattle.dbus_validate.proofs.Headed.{own_validated}
use Rattle.dbus_stream.specs.Gathering.{GathererState, gathering, begun, under_way, Gathered, Gathers}
use Rattle.dbus_stream.specs.Taking.{Completes, Takes}
use Rattle.dbus_stream.specs.declared.stream_fault.StreamFault.{StreamFault}
use Rattle.dbus_stream.specs.declared.stream_fault.StreamFault.TheVariants.{Memory, Format}

module _ (old : GathererState) (piece : List ℕ) where
  -- nothing is held once the next message is begun, and the piece begins with a message
  pub lends_first : (limits : Limits) (held : List ℕ) (whole : Bool) (lent : ℕ) (w : List ℕ) (j : Validated)
      → ◌≡◌ {A = GathererState} (record { limits = limits; held = held; whole = whole; lent = lent }) (begun old) → under_way old.whole old.held ≡ w → held ≡ [] → IsValidated limits piece j
      → Completes gathering old w piece (record { limits = limits; held = held; whole = whole; lent = j.length }) j.length j
  lends_first limits held whole lent w j e holds none first =
      let same : limits ≡ old.limits = ap (λ (s : GathererState). s.limits) e in
      let open_ : whole ≡ false = ap (λ (s : GathererState). s.whole) e in
      let nothing : [] ≡ w = sym none ∙ (ap (λ (s : GathererState). s.held) e ∙ holds) in
      let new : GathererState = record { limits = limits; held = held; whole = whole; lent = j.length } in
      subst (λ v. Completes gathering old v piece new j.length j) nothing (record {
        order = j.order;
        message = first.message;
        whole = subst (λ n. IsWhole old.limits piece j.order first.message n) (sym (zero-add j.length)) (subst (λ l. IsWhole l piece j.order first.message j.length) same first.whole);
        some = (whole_inside limits piece j.order first.message j.length first.whole).0;
        gives = record {
          validated = subst (λ n. IsValidatedWhole limits (take n piece) j) (sym (zero-add j.length)) (own_validated limits piece j first);
          place = inr (open_, none, sym (zero-add j.length));
        };
        holds = ap (λ b. under_way b held) open_ ∙ none;
        lends = λ some. (refl, refl);
      })

  -- nothing is held once the next message is begun, and nothing came
  pub waits_none : (limits : Limits) (held : List ℕ) (whole : Bool) (lent : ℕ) (w : List ℕ) → ◌≡◌ {A = GathererState} (record { limits = limits; held = held; whole = whole; lent = lent }) (begun old)
      → under_way old.whole old.held ≡ w → held ≡ [] → piece ≡ [] → Takes gathering old w piece (record { limits = limits; held = held; whole = whole; lent = lent }) (Ok 0) None
  waits_none limits held whole lent w e holds none bare =
      let open_ : whole ≡ false = ap (λ (s : GathererState). s.whole) e in
      let unlent : lent ≡ 0 = ap (λ (s : GathererState). s.lent) e in
      let nothing : [] ≡ w = sym none ∙ (ap (λ (s : GathererState). s.held) e ∙ holds) in
      let new : GathererState = record { limits = limits; held = held; whole = whole; lent = lent } in
      subst (λ v. Takes gathering old v piece new (Ok 0) None) nothing
      (subst (λ p. Takes gathering old [] p new (Ok 0) None) (sym bare) (nothing_partial old.limits, refl, record { holds = ap (λ b. under_way b held) open_ ∙ none; rests = (open_, unlent) }))

  -- the message that was gathered
  pub gathered : (w : List ℕ) (n : ℕ) (new : GathererState) (j : Validated) → under_way old.whole old.held ≡ w → Gathered (begun old) piece n new
      → IsValidatedWhole new.limits new.held j → Completes gathering old w piece new n j
  gathered w n new j holds e validated =
      let held = under_way old.whole old.held in
      let all = take-append-add held piece n in
      subst (λ v. Completes gathering old v piece new n j) holds
      (subst (λ (s : GathererState). IsValidatedWhole s.limits s.held j → Completes gathering old held piece s n j) (sym e.state) (λ own. record {
        order = e.order;
        message = e.message;
        whole = e.whole;
        some = e.some;
        gives = record { validated = subst (λ b. IsValidatedWhole old.limits b j) (sym all) own; place = inl (refl, sym all, refl) };
        holds = refl;
        lends = λ some. absurd (omega (arith, some));
      }) validated)

  -- the message does not end there
  pub waits : (w : List ℕ) (new : GathererState) → under_way old.whole old.held ≡ w → Gathers (begun old) piece new (Ok None)
      → Takes gathering old w piece new (Ok (length piece)) None
  waits w new holds g =
      subst (λ v. Takes gathering old v piece new (Ok (length piece)) None) holds
      (subst (λ s. Takes gathering old (under_way old.whole old.held) piece s (Ok (length piece)) None) (sym g.1) (g.0, refl, record { holds = refl; rests = (refl, refl) }))

  -- nothing was taken
  pub fails : (w : List ℕ) (new : GathererState) (fault : StreamFault) (given : Option Validated) → under_way old.whole old.held ≡ w → Gathers (begun old) piece new (Err fault)
      → Takes gathering old w piece new (Err fault) given
  fails w new Memory given holds g =
      subst (λ v. Takes gathering old v piece new (Err Memory) given) holds
      (subst (λ s. Takes gathering old (under_way old.whole old.held) piece s (Err Memory) given) (sym g) (tt, record { holds = refl; rests = (refl, refl) }))
  fails w new (Format fault) given holds g =
      subst (λ v. Takes gathering old v piece new (Err (Format fault)) given) holds
      (subst (λ s. Takes gathering old (under_way old.whole old.held) piece s (Err (Format fault)) given) (sym g.2) (g.0, g.1, (refl, (refl, refl))))
