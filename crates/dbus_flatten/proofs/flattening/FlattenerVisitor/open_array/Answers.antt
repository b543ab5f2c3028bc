use Rattle.std.proofs.Common.{ℕ, [], ◌∷◌, ◌+◌, ap, refl, ◌∙◌, arith}
use Rattle.dbus_value_model.specs.Bytes.{gap_to}
use Rattle.dbus_walk.proofs.Containers.{array_stands, array_begins, array_counts}
use Rattle.dbus_flatten.specs.declared.flat_item.FlatItem.{FlatItem}
use Rattle.dbus_flatten.proofs.FlatThere.{gained_as, array_item, array_listed}
use Rattle.dbus_flatten.proofs.flattening.FlattenerVisitor.open_array.Goals as goal

pub overflow_add-after : goal.overflow_add-after
overflow_add-after c = let p = array_stands c.requires.stands.2 c.requires.code in omega (arith, p.inside, c.requires.begins)

pub overflow_add-first : goal.overflow_add-first
overflow_add-first c =
    let s = c.requires.stands.2 in
    let p = array_stands s c.requires.code in
    let after = c.args.start + 4 in
    let begins = array_begins s p c.args.start (after + c.gap.result) c.requires.begins (λ t e. ap (λ (k : ℕ). after + k) (c.gap.ensures ∙ ap (λ (b : ℕ). gap_to b after) (c.boundary.ensures.value t e))) in
    omega (arith, p.inside, begins)

pub u32_at-requires : goal.u32_at-requires
u32_at-requires c = let p = array_stands c.requires.stands.2 c.requires.code in omega (arith, p.inside, c.requires.begins)

pub returns-clause-takes : goal.returns-clause-takes
returns-clause-takes c = λ v rest s.
    let p = array_stands s c.requires.code in
    let after = c.args.start + 4 in
    let begins = array_begins s p c.args.start (after + c.gap.result) c.requires.begins (λ t e. ap (λ (k : ℕ). after + k) (c.gap.ensures ∙ ap (λ (b : ℕ). gap_to b after) (c.boundary.ensures.value t e))) in
    let counts = c.from.ensures ∙ array_counts s p c.args.start _ c.requires.begins c.u32_at.ensures.spelled in
    let item = array_item s p begins counts c.from-2.ensures c.from-3.ensures in
    record { listed = array_listed s p (c.requires.listed p.type p.code); placed = refl; gained = gained_as (ap (λ (i : FlatItem). i ∷ []) item) c.push.ensures }
