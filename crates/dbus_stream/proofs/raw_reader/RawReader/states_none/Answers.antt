use Rattle.std.proofs.Common.{rules, ◌≡◌, ◌++◌, List, ℕ, arith, length, length-append, ap, ◌∙◌, subst, append_assoc}
use Rattle.dbus_value_model.specs.declared.limits.Limits.{Limits}
use Rattle.dbus_stream.specs.StatedSizes.{StatesNone}
use Rattle.dbus_stream.specs.Gathering.{under_way}
use Rattle.dbus_stream.specs.Reading.{part_of}
use Rattle.dbus_stream.proofs.PassSteps.{few_left}
use Rattle.dbus_stream.proofs.SizeSteps.{witness}
use Rattle.dbus_stream.proofs.raw_reader.RawReader.states_none.Goals as goal

pub drop_bytes-requires-2 : goal.drop_bytes-requires-2
drop_bytes-requires-2 g c =
    let r = c.args.self.now in
    let w = witness r.refused (let all : length r.refused.front ≡ 16 = search rules in all) in
    let one = (c.drop_bytes.ensures.dropped w.0 w.1).count in
    let first = w.1.count in
    let both = length-append w.0 c.under_way.result.now in
    let held = ap length c.under_way.ensures.bytes in
    let part = ap length c.part.ensures in
    let few = few_left r r.reader.in_buffer in
    omega (arith, one, first, both, held, part, few)

pub returns-in-Unstated : goal.returns-in-Unstated
returns-in-Unstated g c = λ _ gone has.
    let r = c.args.self.now in
    let all = c.drop_bytes-2.ensures.dropped (gone ++ c.under_way.result.now) (c.drop_bytes.ensures.dropped gone has) in
    let none = c.in-Unstated.ensures ((gone ++ c.under_way.result.now) ++ c.part.result.now) all in
    let same = (λ i. (gone ++ c.under_way.ensures.bytes i) ++ c.part.ensures i) ∙ append_assoc gone (under_way r.reader.taker.whole r.reader.taker.held) (part_of r.reader) in
    subst (λ (l : Limits). StatesNone l (gone ++ (under_way r.reader.taker.whole r.reader.taker.held ++ part_of r.reader))) c.limits.ensures (subst (λ (l : List ℕ). StatesNone c.limits.result l) same none)
