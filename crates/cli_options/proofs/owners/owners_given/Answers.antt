use Rattle.std.proofs.Common.{◌≡◌, ◌+◌, map, take, get_or, rules, sym, subst, true}
use Rattle.std.proofs.lemmas.Result.{err_from_is_err_and}
use Rattle.std.specs.Borrow.{Bor}
use Rattle.std.specs.declared.alloc.Global.{Global}
use Rattle.std.specs.Result.{is_ok}
use Rattle.clap.specs.Words.{Text}
use Rattle.dbus_match.specs.declared.owner.Owner.{Owner}
use Rattle.dbus_match.specs.Matching.{Ownership, ownership}
use Rattle.cli_options.specs.Owners.{AreOwnersOf, IsOwnerWord}
use Rattle.cli_options.proofs.Tells.{no_owners_told}
use Rattle.cli_options.proofs.Numbers.{at_place, one_more_gives, past_end}
use Rattle.cli_options.proofs.owners.owners_given.Goals as goal

abbrev text_of : Bor Text → Text
text_of t = t.now

pub returns-in_err-owner : goal.returns-in_err-owner
returns-in_err-owner c =
    let words = c.args.words.now in
    let i = c.loop-word.word-index in
    let p = err_from_is_err_and c.from_residual.result c.from_residual.ensures.1 in
    rw (p.1, p.2) (no_owners_told (map text_of words) (get_or words i past_end).now c.in_err-owner.field-0.0 c.in_err-owner.ensures
    (at_place (λ w. (o : Ownership) × IsOwnerWord w o) text_of words i past_end (search rules)))

pub loop-word-preserved : goal.loop-word-preserved
loop-word-preserved c =
    let words = c.args.words.now in
    let i = c.loop-word.word-index in
    let ok : is_ok c.push.result ≡ true = search rules in
    let items = rw ok at c.push.ensures.items in
    subst (λ owners. AreOwnersOf (map text_of (take (i + 1) words)) owners) (sym items)
    (one_more_gives text_of words i past_end (search rules) (λ (word : Text) (owner : Owner Global). IsOwnerWord word (ownership owner)) c.loop-word.owners.items c.in_ok-owner.owner c.loop-word.invariant c.in_ok-owner.ensures)
