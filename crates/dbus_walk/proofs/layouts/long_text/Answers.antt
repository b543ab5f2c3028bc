use Rattle.std.proofs.Common.{◌≡◌, ◌+◌, arith}
use Rattle.dbus_value_model.specs.Bytes.{gap_to}
use Rattle.dbus_walk.proofs.Laid.{text_laid}
use Rattle.dbus_walk.proofs.Parts.{long_stands, long_counts}
use Rattle.dbus_walk.proofs.layouts.long_text.Goals as goal

pub overflow_add-start : goal.overflow_add-start
overflow_add-start c = let p = long_stands c.requires.stands.2 c.requires.code in omega (arith, p.inside, c.gap.ensures)

pub u32_at-requires : goal.u32_at-requires
u32_at-requires c = let p = long_stands c.requires.stands.2 c.requires.code in omega (arith, p.inside, c.gap.ensures)

pub returns : goal.returns
returns c = λ v rest s.
    let p = long_stands s c.requires.code in
    let start = c.args.spot.now.at + c.gap.result in
    let place : start ≡ c.args.spot.now.at + gap_to 4 c.args.spot.now.at = omega (arith, c.gap.ensures) in
    text_laid c.args.source.now c.args.spot.now v rest s 4 start c.u32_at.result p place (long_counts s p start _ place c.u32_at.ensures.spelled)
