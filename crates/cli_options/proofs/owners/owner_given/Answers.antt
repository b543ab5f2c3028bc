use Rattle.std.proofs.Common.{◌∙◌, arith, sym, string_bytes}
use Rattle.std.proofs.lemmas.Bool.{false≢true}
use Rattle.std.proofs.lemmas.Str.Pattern.{split_parts}
use Rattle.cli_options.proofs.OwnerWords.{cut_at_equals, cut_names, owner_made}
use Rattle.cli_options.proofs.Tells.{no_owner_told}
use Rattle.cli_options.proofs.owners.owner_given.Goals as goal

pub returns-in_default : goal.returns-in_default
returns-in_default c =
    no_owner_told c.args.word.now c.bad_owner.result c.bad_owner.ensures
    (λ o w. let cut = cut_at_equals c.args.word.now o c.split_once.result c.split_once.ensures.cases w in
    rw c.in_default.is at cut)

pub returns-then-not-is_ownership : goal.returns-then-not-is_ownership
returns-then-not-is_ownership c =
    no_owner_told c.args.word.now c.bad_owner-then-not-is_ownership.result c.bad_owner-then-not-is_ownership.ensures
    (λ o w. let cut = cut_at_equals c.args.word.now o c.split_once.result c.split_once.ensures.cases w in
    let same = rw c.in-Some.is at cut in
    false≢true (sym c.if-not-is_ownership.true ∙ c.is_ownership.ensures.1 (cut_names c.args.word.now c.in-Some.name.now c.in-Some.unique.now o same w)))

pub returns-in-Ok-Ok : goal.returns-in-Ok-Ok
returns-in-Ok-Ok c =
    let parts = split_parts 61 c.args.word.now c.split_once.result c.split_once.ensures.cases (omega arith) in
    let p = rw c.in-Some.is at parts in
    owner_made c.args.word.now c.in-Some.name.now c.in-Some.unique.now (string_bytes c.in-Ok-Ok.name) (string_bytes c.in-Ok-Ok.unique) p.0 (c.is_ownership.ensures.0 c.if-not-is_ownership.false)
    c.in-Ok-Ok.ensures.ok c.in-Ok-Ok.ensures'.ok
