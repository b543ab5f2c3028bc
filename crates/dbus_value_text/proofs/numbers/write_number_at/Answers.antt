use Rattle.std.proofs.Common.{◌≡◌, ℕ, take, drop, decimal, sym, ap, subst, ◌∙◌, arith}
use Rattle.hex.specs.Hex.{encode_lower}
use Rattle.dbus_texts.specs.Types.{NumberCode, BYTE, BOOLEAN, INT16, UINT16, INT32, UINT32, INT64, UINT64, DOUBLE, UNIX_FD}
use Rattle.dbus_types.specs.Alignments.{width}
use Rattle.dbus_value_model.specs.Bytes.{num}
use Rattle.dbus_value_model.specs.Reading.{number_of}
use Rattle.dbus_value_model.specs.declared.order.Order.TheVariants.{Big}
use Rattle.dbus_value_model.proofs.Numbers.{num_64_big}
use Rattle.dbus_value_laws.proofs.ReadSteps.{one_byte}
use Rattle.dbus_walk.proofs.ReadThere.{byte_code}
use Rattle.dbus_show.specs.ShownValues.{number_text}
use Rattle.dbus_value_text.proofs.Rows.{double_code}
use Rattle.dbus_value_text.proofs.numbers.write_number_at.Goals as goal

pub bounds-bytes-at : goal.bounds-bytes-at
bounds-bytes-at g c = let here = c.requires BYTE (sym c.in-121.is) in omega (arith, here)

pub u32_at-requires : goal.u32_at-requires
u32_at-requires g c = c.requires BOOLEAN (sym c.in-98.is)

pub u16_at-requires : goal.u16_at-requires
u16_at-requires g c = c.requires INT16 (sym c.in-110.is)

pub u16_at-requires-in-113 : goal.u16_at-requires-in-113
u16_at-requires-in-113 g c = c.requires UINT16 (sym c.in-113.is)

pub u32_at-requires-in-105 : goal.u32_at-requires-in-105
u32_at-requires-in-105 g c = c.requires INT32 (sym c.in-105.is)

pub u32_at-requires-in-117 : goal.u32_at-requires-in-117
u32_at-requires-in-117 g c = c.requires UINT32 (sym c.in-117.is)

pub u64_at-requires : goal.u64_at-requires
u64_at-requires g c = c.requires INT64 (sym c.in-120.is)

pub u64_at-requires-in-116 : goal.u64_at-requires-in-116
u64_at-requires-in-116 g c = c.requires UINT64 (sym c.in-116.is)

pub u64_at-requires-in-100 : goal.u64_at-requires-in-100
u64_at-requires-in-100 g c = c.requires DOUBLE (sym c.in-100.is)

pub u32_at-requires-in-104 : goal.u32_at-requires-in-104
u32_at-requires-in-104 g c = c.requires UNIX_FD (sym c.in-104.is)

pub returns-in-121 : goal.returns-in-121
returns-in-121 g c = λ k e.
    let is : k ≡ BYTE = byte_code k (e ∙ c.in-121.is) in
    let here = c.requires BYTE (sym c.in-121.is) in
    subst (λ (j : NumberCode). g.D.Draft.gains c.args.draft.now (number_text j (number_of c.args.order (take (width j) (drop c.args.at c.args.bytes.now)))) c.write_integer.new.draft) (sym is)
    (subst (λ (n : ℕ). g.D.Draft.gains c.args.draft.now (decimal n) c.write_integer.new.draft) (one_byte c.args.order c.args.bytes.now c.args.at (omega (arith, here))) c.write_integer.ensures)

pub returns-in-100 : goal.returns-in-100
returns-in-100 g c = λ k e.
    let is : k ≡ DOUBLE = double_code k (e ∙ c.in-100.is) in
    let n = c.u64_at-in-100.result in
    let text = ap encode_lower (c.to_be_bytes.ensures ∙ num_64_big n) ∙ ap (λ (m : ℕ). encode_lower (num Big 8 m)) c.u64_at-in-100.ensures.spelled in
    subst (λ (j : NumberCode). g.D.Draft.gains c.args.draft.now (number_text j (number_of c.args.order (take (width j) (drop c.args.at c.args.bytes.now)))) c.write_hex.new.draft) (sym is)
    (subst (λ s. g.D.Draft.gains c.args.draft.now s c.write_hex.new.draft) text c.write_hex.ensures)
