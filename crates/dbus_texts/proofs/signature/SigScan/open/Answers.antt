use Rattle.std.proofs.Common.{sym, subst, arith}
use Rattle.dbus_texts.specs.SignatureScans.{AreBounded, frame}
use Rattle.dbus_texts.proofs.SignatureSteps.{AreBounded-push}
use Rattle.dbus_texts.proofs.signature.SigScan.open.Goals as goal

pub invariant_of-self-clause-bounded : goal.invariant_of-self-clause-bounded
invariant_of-self-clause-bounded c =
    let x = c.args.self.now in
    subst (λ fs. AreBounded 0 fs) (sym c.push.ensures.items) (AreBounded-push 0 x.frames.items (frame c.args.entry c.args.arrays c.args.structs) x.bounded (omega arith) (omega arith) (omega arith))
