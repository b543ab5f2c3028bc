use Rattle.std.proofs.Common.{◌++◌, [], List, ℕ, Option, None, Some, IfSome, arith, length, ap, sym, subst}
use Rattle.dbus_value_model.specs.declared.limits.Limits.{Limits}
use Rattle.dbus_stream.specs.StatedSizes.{StatesSize}
use Rattle.dbus_stream.specs.Dropping.{HasDropped}
use Rattle.dbus_stream.specs.RawReading.{kept}
use Rattle.dbus_stream.proofs.PassSteps.{few_left}
use Rattle.dbus_stream.proofs.SizeSteps.{none_dropped}
use Rattle.dbus_stream.proofs.raw_reader.RawReader.stated_size.Goals as goal
use Rattle.dbus_stream.proofs.raw_reader.RawReader.stated_size.Goals.{After-drop_bytes-2}

-- what was put there is what is kept
there : (g : _) (c : After-drop_bytes-2 g) → HasDropped c.drop_bytes-2.new.self (kept c.args.self.now)
there g c =
    let all = c.drop_bytes-2.ensures.dropped c.under_way.result.now (c.drop_bytes.ensures.dropped [] (none_dropped c.nothing-there.result c.nothing-there.ensures)) in
    subst (λ (l : List ℕ). HasDropped c.drop_bytes-2.new.self l) (λ i. c.under_way.ensures.bytes i ++ c.part.ensures i) all

pub drop_bytes-requires-2 : goal.drop_bytes-requires-2
drop_bytes-requires-2 g c =
    let r = c.args.self.now in
    let zero = c.nothing-there.ensures in
    let one = (c.drop_bytes.ensures.dropped [] (none_dropped c.nothing-there.result zero)).count in
    let held = ap length c.under_way.ensures.bytes in
    let part = ap length c.part.ensures in
    let few = few_left r r.reader.in_buffer in
    omega (arith, one, held, part, few)

weaker : {T : Type 0} (r : Option T) (P Q : T → Type 0) → ((x : T) → P x → Q x) → IfSome r P → IfSome r Q
weaker None P Q f p = p
weaker (Some x) P Q f p = f x p

pub returns-clause-states : goal.returns-clause-states
returns-clause-states g c =
    let all = kept c.args.self.now in
    let first = (goal.at.returns-clause-states g c).After-drop_bytes-2 in
    weaker c.stated.result _ _ (λ size states. subst (λ (l : Limits). StatesSize l all size) c.limits.ensures (states all (there g first))) c.stated.ensures.states

pub returns-clause-none : goal.returns-clause-none
returns-clause-none g c =
    let all = kept c.args.self.now in
    let first = (goal.at.returns-clause-none g c).After-drop_bytes-2 in
    λ none size s. c.stated.ensures.none none all (there g first) size (subst (λ (l : Limits). StatesSize l all size) (sym c.limits.ensures) s)
