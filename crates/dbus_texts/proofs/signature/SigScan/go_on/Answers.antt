use Rattle.std.proofs.Common.{◌≡◌, Some, sym, subst, length, ◌-◌, rules}
use Rattle.dbus_texts.proofs.SignatureSteps.{AreBounded-take, AreBounded-innermost}
use Rattle.dbus_texts.proofs.signature.SigScan.go_on.Goals as goal
use Rattle.dbus_texts.specs.SignatureScans.{AreBounded, innermost}

pub invariant_of-self-clause-bounded : goal.invariant_of-self-clause-bounded
invariant_of-self-clause-bounded c =
    let x = c.args.self.now in
    subst (λ fs. AreBounded 0 fs) (sym c.pop.ensures.rest) (AreBounded-take 0 (length x.frames.items - 1) x.frames.items x.bounded)

pub invariant_of-self-then-byte-eq41-clause-bounded : goal.invariant_of-self-then-byte-eq41-clause-bounded
invariant_of-self-then-byte-eq41-clause-bounded c =
    let x = c.args.self.now in
    subst (λ fs. AreBounded 0 fs) (sym c.pop-then-byte-eq41.ensures.rest) (AreBounded-take 0 (length x.frames.items - 1) x.frames.items x.bounded)

pub begin-requires-in-Some : goal.begin-requires-in-Some
begin-requires-in-Some c =
    let x = c.args.self.now in
    let e : innermost x.frames.items ≡ Some c.in-Some.frame = search rules in
    let few = AreBounded-innermost x.frames.items c.in-Some.frame x.bounded e in
    record { arrays_in = few.1.0; structs_in = few.1.1; room = few.0; spare = search rules }
