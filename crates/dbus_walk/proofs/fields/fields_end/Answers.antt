use Rattle.std.proofs.Common.{refl, arith}
use Rattle.dbus_walk.proofs.FieldParts.{fields_apart}
use Rattle.dbus_walk.proofs.fields.fields_end.Goals as goal

pub u32_at-requires : goal.u32_at-requires
u32_at-requires c = let s = c.requires.stand in omega (arith, (fields_apart c.args.source.now s.0 s.1 s.2 s.3 _ refl).0)

pub overflow_add-result : goal.overflow_add-result
overflow_add-result c = let s = c.requires.stand in omega (arith, (fields_apart c.args.source.now s.0 s.1 s.2 s.3 c.u32_at.result c.u32_at.ensures.spelled).0)

pub returns : goal.returns
returns c = λ depth_left fs rest s. (fields_apart c.args.source.now depth_left fs rest s c.u32_at.result c.u32_at.ensures.spelled).1
