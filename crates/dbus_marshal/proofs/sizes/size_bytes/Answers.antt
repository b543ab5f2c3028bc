use Rattle.std.proofs.Common.{◌≡◌, ◌≤◌, ◌+◌, length, Ok, sym, ap, ◌∙◌, arith}
use Rattle.dbus_marshal.proofs.Sizing.{bytes_within, bytes_past_array, bytes_past_message, some_bytes}
use Rattle.dbus_marshal.proofs.sizes.size_bytes.Goals as goal

pub returns-then-array_end-end-clause-exact : goal.returns-then-array_end-end-clause-exact
returns-then-array_end-end-clause-exact c =
    sym (bytes_past_array c.args.limits c.args.bound c.args.bytes.now c.args.offset c.unwrap_or-array_end.result c.unwrap_or-array_end.ensures (omega arith) (some_bytes c.args.limits (length c.args.bytes.now) c.if-is_empty.ensures) (omega arith))

pub returns-then-limit-end-clause-exact : goal.returns-then-limit-end-clause-exact
returns-then-limit-end-clause-exact c =
    sym (bytes_past_message c.args.limits c.args.bound c.args.bytes.now c.args.offset c.unwrap_or-array_end.result c.unwrap_or-array_end.ensures c.requires.start (omega (arith, c.else-array_end-limit.either)) (omega arith))

pub returns-else-limit-end-clause-exact : goal.returns-else-limit-end-clause-exact
returns-else-limit-end-clause-exact c =
    let start : c.args.offset ≤ c.args.limits.message = c.requires.start in
    let end : c.saturating_add-end.result ≡ c.args.offset + length c.args.bytes.now = omega arith in
    ap (λ e. Ok e) end
    ∙ sym (bytes_within c.args.limits c.args.bound c.args.bytes.now c.args.offset c.unwrap_or-array_end.result c.unwrap_or-array_end.ensures (omega (arith, c.else-array_end-limit.either)) (omega arith))

pub returns-else-limit-end-clause-within : goal.returns-else-limit-end-clause-within
returns-else-limit-end-clause-within c = omega arith
