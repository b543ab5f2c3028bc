use Rattle.std.proofs.Common.{ℕ, ◌≤◌, drop, refl, sym, subst, arith}
use Rattle.dbus_value_model.specs.Spelling.{spellings}
use Rattle.dbus_value_model.specs.Values.{NoValues}
use Rattle.dbus_explain.specs.Before.{AreValuesBefore, none, some}
use Rattle.dbus_explain.proofs.before.values_before.Goals as goal

pub returns-in-Some-clause-values : goal.returns-in-Some-clause-values
returns-in-Some-clause-values c =
    let search = c.args.search.now in
    let values = c.in-Some.ensures.values in
    let begins = c.in-Some.ensures.begins in
    let whole = some values.0 (subst (λ (k : ℕ). k ≤ search.at) begins.0 begins.1) values.3 in
    (values.0, values.1, values.2, subst (λ (k : ℕ). AreValuesBefore search.bytes.now search.at k values.0) (sym begins.0) whole)

pub returns-in-None-clause-values : goal.returns-in-None-clause-values
unfolding spellings
returns-in-None-clause-values c =
    let search = c.args.search.now in (
      NoValues,
      drop 16 search.bytes.now,
      record { text = refl; shaped = tt; formed = tt; array = 0; small = omega arith; within = tt; spelled = refl; inside = let within = search.within in omega (arith, within, c.requires) },
      none 16 (c.whole_values.ensures.none c.in-None.is),
    )
