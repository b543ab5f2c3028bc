use Rattle.std.proofs.Common.{◌≡◌, Option, Some, None, sym, ap, ◌∙◌, option_map}
use Rattle.clap.specs.Words.{Text, found_of, rows_of, first_of}
use Rattle.clap.proofs.WalkLemmas.{first_value-rows}
use Rattle.cli_options.proofs.Tells.{unnamed_told}
use Rattle.cli_options.proofs.worded.word_named.Goals as goal

pub returns-in_default : goal.returns-in_default
returns-in_default g c =
    sym (first_value-rows (found_of c.args.inner.now) c.args.name.now) ∙ (sym c.get_str.ensures ∙ ap (option_map (λ s. s.now)) c.in_default.is)

pub returns-in-Some-of_word : goal.returns-in-Some-of_word
returns-in-Some-of_word g c =
    let given = sym (first_value-rows (found_of c.args.inner.now) c.args.name.now) ∙ (sym c.get_str.ensures ∙ ap (option_map (λ s. s.now)) c.in-Some.is) in
    given ∙ ap Some c.in-Some-of_word.ensures

no_word : {T : Type 0} (word_of : T → Text) (word : Text) (thing : Option T) → ((t : T) → word ≡ word_of t → ⊥) → Some word ≡ option_map word_of thing → ⊥
no_word word_of word None none same = let bad : Some word ≡ None = same in cc
no_word word_of word (Some t) none same = none t (let equal : Some word ≡ Some (word_of t) = same in cc)

pub returns-in-None : goal.returns-in-None
returns-in-None g c =
    let given : first_of c.args.name.now (rows_of (found_of c.args.inner.now)) ≡ Some c.in-Some.word.now
    = sym (first_value-rows (found_of c.args.inner.now) c.args.name.now) ∙ (sym c.get_str.ensures ∙ ap (option_map (λ s. s.now)) c.in-Some.is) in
    unnamed_told _ c.bad_value.result c.bad_value.ensures (λ thing named. no_word _ _ thing c.in-None.ensures (sym given ∙ named))
