use Rattle.std.proofs.Common.{codes, refl, sym, ◌∙◌}
use Rattle.std.proofs.lemmas.Bool.{false≢true}
use Rattle.std.proofs.lemmas.Result.{err_from_is_err_and}
use Rattle.clap.specs.Words.{found_of, rows_of}
use Rattle.dbus_match.specs.Matching.{ownership}
use Rattle.cli_options.specs.Named.{words_of}
use Rattle.cli_options.specs.declared.selection.Selection.{Selection}
use Rattle.cli_options.proofs.Numbers.{each_can}
use Rattle.cli_options.proofs.Tells.{unowned_told, unruled_told}
use Rattle.cli_options.proofs.command_line.selection_named.Goals as goal

pub returns-in_err-owners : goal.returns-in_err-owners
returns-in_err-owners c =
    let p = err_from_is_err_and c.from_residual.result c.from_residual.ensures.1 in
    rw (p.1, p.2) (unowned_told c.args.name.now (rows_of (found_of c.args.inner.now)) c.in_err-owners.field-0.0 c.in_err-owners.ensures)

pub returns-in_err-rules : goal.returns-in_err-rules
returns-in_err-rules c =
    let rows = rows_of (found_of c.args.inner.now) in
    let owners = each_can _ _ (λ word owner is. (ownership owner, is)) (words_of (codes "owner") rows) c.in_ok-owners.owners.items c.in_ok-owners.ensures in
    let p = err_from_is_err_and c.from_residual-in_err-rules.result c.from_residual-in_err-rules.ensures.1 in
    rw (p.1, p.2) (unruled_told c.args.name.now rows c.is_given.result c.in_err-rules.field-0.0 owners c.is_given.ensures c.in_err-rules.ensures)

pub returns-then-takes_all : goal.returns-then-takes_all
returns-then-takes_all c =
    let made : Selection = record { rules = c.in_ok-rules.rules; is_inverted = c.is_given-2.result; question = c.question_named.result; owners = c.in_ok-owners.owners; learns = c.learns_owners.result; as_bus = c.is_given-3.result } in
    (made, record { rules = c.in_ok-rules.ensures; inverted = c.is_given-2.ensures; question = c.question_named.ensures; owners = c.in_ok-owners.ensures; learns = c.learns_owners.ensures; as_bus = c.is_given-3.ensures }, c.takes_all.ensures.0 c.if-takes_all.true)

pub returns-else-takes_all : goal.returns-else-takes_all
returns-else-takes_all c =
    let made : Selection = record { rules = c.in_ok-rules.rules; is_inverted = c.is_given-2.result; question = c.question_named.result; owners = c.in_ok-owners.owners; learns = c.learns_owners.result; as_bus = c.is_given-3.result } in
    (made, record { rules = c.in_ok-rules.ensures; inverted = c.is_given-2.ensures; question = c.question_named.ensures; owners = c.in_ok-owners.ensures; learns = c.learns_owners.ensures; as_bus = c.is_given-3.ensures }, (λ all. false≢true (sym c.if-takes_all.false ∙ c.takes_all.ensures.1 all), refl))
