use Rattle.std.proofs.Common.{◌≡◌, ◌+◌, drop, arith}
use Rattle.std.proofs.lemmas.Grind.{common_steps}
use Rattle.dbus_types.proofs.TypeEnds.{type_length, ends_there}
use Rattle.dbus_types.proofs.signature_codes.type_end.Goals as goal

pub returns-then-deep-eq0-clause-value : goal.returns-then-deep-eq0-clause-value
returns-then-deep-eq0-clause-value c =
    let is : c.loop-at.at + 1 ≡ c.args.pos + type_length 0 (drop c.args.pos c.args.types.now) = grind (arith, common_steps) in
    ends_there c.args.types.now c.args.pos (c.loop-at.at + 1) is

pub returns-clause-value : goal.returns-clause-value
returns-clause-value c =
    let is : c.loop-at.at ≡ c.args.pos + type_length 0 (drop c.args.pos c.args.types.now) = grind (arith, common_steps) in
    ends_there c.args.types.now c.args.pos c.loop-at.at is
