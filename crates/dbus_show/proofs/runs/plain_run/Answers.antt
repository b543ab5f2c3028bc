use Rattle.std.proofs.Common.{ap, sym, ◌∙◌, arith}
use lib.Count.{count_trailing_zeros}
use Rattle.std.proofs.lemmas.Simd.{leading_from_mask_l, trailing_mask_l}
use Rattle.dbus_show.specs.PlainFronts.{is_stop}
use Rattle.dbus_show.proofs.runs.plain_run.Goals as goal

pub returns-then-mask-eq0 : goal.returns-then-mask-eq0
returns-then-mask-eq0 g c = sym (leading_from_mask_l (is_stop c.args.beyond) c.args.block (sym c.stops_in-mask.ensures ∙ c.if-mask-eq0.true) ∙ c.requires.whole)

pub returns-else-mask-eq0 : goal.returns-else-mask-eq0
returns-else-mask-eq0 g c = ap (count_trailing_zeros 64) c.stops_in-mask.ensures ∙ trailing_mask_l (is_stop c.args.beyond) 64 c.args.block (omega arith) (omega arith)
