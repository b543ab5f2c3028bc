use Rattle.std.proofs.Common.{◌≡◌, ◌+◌, arith}
use Rattle.dbus_value_model.specs.Bytes.{gap_to}
use Rattle.dbus_walk.proofs.Parts.{long_stands, long_counts, text_ends}
use Rattle.dbus_swap.proofs.Leaves.{text_there_byteswaps}
use Rattle.dbus_swap.proofs.values.byteswap_text.Goals as goal

pub overflow_add-start : goal.overflow_add-start
overflow_add-start c = let p = long_stands c.requires.stands.2 c.requires.code in omega (arith, p.inside, c.gap.ensures)

pub byteswap_4-requires : goal.byteswap_4-requires
byteswap_4-requires c = let p = long_stands c.requires.stands.2 c.requires.code in omega (arith, p.inside, c.gap.ensures, c.requires.as_long)

pub u32_at-requires : goal.u32_at-requires
u32_at-requires c = let p = long_stands c.requires.stands.2 c.requires.code in omega (arith, p.inside, c.gap.ensures)

pub overflow_add-result : goal.overflow_add-result
overflow_add-result c =
    let s = c.requires.stands.2 in
    let p = long_stands s c.requires.code in
    omega (arith, p.inside, long_counts s p (c.args.spot.now.at + c.gap.result) c.u32_at.result (omega (arith, c.gap.ensures)) c.u32_at.ensures.spelled)

pub overflow_add-result-2 : goal.overflow_add-result-2
overflow_add-result-2 c =
    let s = c.requires.stands.2 in
    let p = long_stands s c.requires.code in
    omega (arith, p.inside, long_counts s p (c.args.spot.now.at + c.gap.result) c.u32_at.result (omega (arith, c.gap.ensures)) c.u32_at.ensures.spelled)

pub returns : goal.returns
returns c = record {
  byteswapped = λ v rest s.
      let p = long_stands s c.requires.code in
      let start = c.args.spot.now.at + c.gap.result in
      let begins : start ≡ c.args.spot.now.at + gap_to 4 c.args.spot.now.at = omega (arith, c.gap.ensures) in
      (text_there_byteswaps s start c.args.out.now c.byteswap_4.new.out c.requires.code begins c.byteswap_4.ensures, omega (arith, text_ends s 4 start p begins, long_counts s p start c.u32_at.result begins c.u32_at.ensures.spelled));
}
