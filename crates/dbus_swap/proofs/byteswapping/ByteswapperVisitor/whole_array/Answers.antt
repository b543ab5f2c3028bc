use Rattle.std.proofs.Common.{ℕ, ◌+◌, ap, subst, sym, refl, ◌∙◌, arith}
use Rattle.std.proofs.lemmas.Bool.{ltb-true}
use Rattle.dbus_value_model.specs.Spelling.{spelling}
use Rattle.dbus_value_model.specs.Values.{ValueTree, ArrayValue}
use Rattle.dbus_walk.specs.declared.container.Container.TheVariants as kind
use Rattle.dbus_walk.proofs.Containers.{array_stands, array_begins, array_counts}
use Rattle.dbus_swap.specs.Byteswapping.{other, Replaces}
use Rattle.dbus_swap.specs.ByteswapLaws.{whole_put}
use Rattle.dbus_swap.proofs.Leaves.{array_opens, numbers_byteswap}
use Rattle.dbus_swap.proofs.byteswapping.ByteswapperVisitor.whole_array.Goals as goal

pub byteswap_4-requires : goal.byteswap_4-requires
byteswap_4-requires c = let p = array_stands c.requires.stands.2 c.requires.code in omega (arith, p.inside, c.requires.begins, c.requires.ready)

pub byteswap_numbers-requires-clause-inside : goal.byteswap_numbers-requires-clause-inside
byteswap_numbers-requires-clause-inside c =
    let s = c.requires.stands.2 in
    let p = array_stands s c.requires.code in
    let begins = array_begins s p c.args.run.start c.args.run.first c.requires.begins c.requires.parts in
    let counts = array_counts s p c.args.run.start _ c.requires.begins refl in
    omega (arith, p.inside, begins, counts, c.requires.ends, c.requires.ready, c.byteswap_4.auto.out)

pub returns-clause-takes : goal.returns-clause-takes
returns-clause-takes c = λ v rest s.
    let p = array_stands s c.requires.code in
    let run = c.args.run in
    let order = c.args._source.now.order in
    let at = c.args._spot.now.at in
    let out = c.args.self.now.out.now in
    let half = c.byteswap_4.new.out in
    let now = c.byteswap_numbers.new.out in
    let begins = array_begins s p run.start run.first c.requires.begins c.requires.parts in
    let ends = c.requires.ends ∙ ap (λ (k : ℕ). run.first + k) (array_counts s p run.start _ c.requires.begins refl) in
    let opened = array_opens order at run.start out half p.type p.xs c.requires.begins c.byteswap_4.ensures in
    let filled = numbers_byteswap s p run.first run.end run.size half now (ltb-true 0 run.size c.requires.stroke) c.requires.wide begins ends c.byteswap_numbers.ensures in
    record {
      same = refl;
      replaced = subst (λ (x : ValueTree). Replaces at (spelling order at x) (spelling (other order) at x) out now) (sym p.is) (whole_put order at (ArrayValue p.type p.xs) kind.Array tt out half now opened filled);
    }
