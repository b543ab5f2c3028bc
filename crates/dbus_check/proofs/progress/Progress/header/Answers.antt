use Rattle.std.proofs.Common.{◌≡◌, ℕ, List, length, take, drop, refl, sym, ap, subst, ◌∙◌, arith}
use Rattle.std.proofs.lemmas.List.{length-take}
use Rattle.std.proofs.lemmas.Result.{err_from_is_err_and}
use Rattle.dbus_value_model.specs.declared.stop.Stop.{Stop}
use Rattle.dbus_value_model.specs.ValueReaders.{Stops}
use Rattle.dbus_value_model.specs.Reading.{Done}
use Rattle.dbus_value_laws.proofs.ReadSteps.{bytes_from}
use Rattle.dbus_header.specs.HeaderReading.{fixed_header}
use Rattle.dbus_check.specs.Heading.{nothing}
use Rattle.dbus_check.proofs.Stages.{no_signature, header_taken, header_stops, header_short}
use Rattle.dbus_check.proofs.progress.Progress.header.Goals as goal

pub returns-clause-moves : goal.returns-clause-moves
returns-clause-moves c = λ to same.
    let s = c.args.bytes.now in
    let bytes = bytes_from s (λ i. omega (arith, c.type_inv.bytes i)) in
    let x = c.args.self.now in
    let h = c.in_ok-header.header in
    let front = c.front.ensures in
    let there = c.in_ok-header.ensures.there in
    let size = there.1 in
    let fits = there.2 in
    let most = x.limits.message_in in
    let l = ap length front in
    let t = length-take 16 s in
    let read : fixed_header x.limits 0 (take 16 s) ≡ Done h 16 (drop 16 (take 16 s)) = subst (λ (u : List ℕ). fixed_header x.limits 0 u ≡ Done h 16 (drop 16 u)) front c.in_ok-header.ensures.gives in (
      omega arith,
      record {
        kept = nothing;
        turns = h.fields;
        keeps = record { sees = c.none-self.ensures; text = c.clear.ensures; signature = no_signature; count = refl; no_text = λ e. refl; no_count = λ e. refl };
        low = omega arith;
        turns_is = omega arith;
        near = omega (arith, fits, most);
        same = λ c. sym (header_taken x.limits s bytes h read c) ∙ same (_);
      },
    )

pub returns-in_err-header-clause-moves : goal.returns-in_err-header-clause-moves
returns-in_err-header-clause-moves c = let p = err_from_is_err_and c.from_residual.result c.from_residual.ensures.1 in rw (p.1, p.2) (λ to same.
    header_stops c.args.self.now.limits c.args.bytes.now (bytes_from _ (λ i. omega (arith, c.type_inv.bytes i))) c.in_err-header.field-0.0
    (subst (λ (u : List ℕ). Stops c.in_err-header.field-0.0 (fixed_header c.args.self.now.limits 0 u)) c.front.ensures c.in_err-header.ensures.gives) c.args.self.now to same)

pub returns-in_err-header-clause-short : goal.returns-in_err-header-clause-short
returns-in_err-header-clause-short c = let p = err_from_is_err_and c.from_residual.result c.from_residual.ensures.1 in rw (p.1, p.2) (λ e.
    header_short c.args.self.now.limits c.args.bytes.now (bytes_from _ (λ i. omega (arith, c.type_inv.bytes i)))
    (subst (λ (stop : Stop). Stops stop (fixed_header c.args.self.now.limits 0 (take 16 c.args.bytes.now))) e
    (subst (λ (u : List ℕ). Stops c.in_err-header.field-0.0 (fixed_header c.args.self.now.limits 0 u)) c.front.ensures c.in_err-header.ensures.gives)))
