use Rattle.std.proofs.Common.{drop}
use Rattle.dbus_rule.proofs.Values.{reads_closed}
use Rattle.dbus_rule.proofs.ValueUtf8.{value_utf8}
use Rattle.dbus_rule.proofs.pair.read_value.Goals as goal

pub unwrap-requires : goal.unwrap-requires
unwrap-requires g c =
    let w = c.args.text.now in
    let n = c.args.from in
    let b = c.in-Closed.bytes in
    let m = c.in-Closed.end in
    c.from_utf8.ensures.succeeds (value_utf8 (drop n w) b.items n m (drop m w) c.requires.whole (reads_closed w c.as_bytes.result.now n c.in_ok-bytes.field-0 b m c.as_bytes.ensures.value c.in_ok-bytes.ensures c.in-Closed.is))
