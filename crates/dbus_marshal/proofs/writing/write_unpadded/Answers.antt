use Rattle.std.proofs.Common.{ap, take, ◌∙◌, ◌++◌}
use Rattle.dbus_marshal.proofs.Written.{high_bytes}
use Rattle.dbus_marshal.proofs.writing.write_unpadded.Goals as goal

pub returns-in-Big-clause-written : goal.returns-in-Big-clause-written
returns-in-Big-clause-written c =
    let bytes = rw (c.from-count.ensures, c.to_be_bytes.ensures) at c.write_bytes-in-Big.ensures.written in
    rw c.in-Big.is (bytes ∙ ap (λ l. take c.args.at c.args.out.now ++ l) (high_bytes c.args.width c.args.n c.requires.few))
