use Rattle.std.proofs.Common.{sym}
use Rattle.dbus_texts.specs.Types.{INT64, UINT64}
use Rattle.dbus_json.proofs.json.is_quoted.Goals as goal

pub u64_at-requires : goal.u64_at-requires
u64_at-requires c = c.requires.inside INT64 (sym c.in-120.is)

pub u64_at-size-requires : goal.u64_at-size-requires
u64_at-size-requires c = c.requires.inside UINT64 (sym c.in-116.is)
