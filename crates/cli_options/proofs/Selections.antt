-- Selections: of each message it is decided whether it is selected, and they are equal exactly if
-- they say the same.
use Rattle.std.proofs.Common.{◌≡◌, Bool, true, false, List, [], ◌∷◌, map, inl, inr, refl, sym, ap, arith, Option, None, Some}
use Rattle.std.specs.Option.{option_eq}
use Rattle.std.specs.Prelude.{IsTrue}
use Rattle.std.specs.Bool.{Decides}
use Rattle.std.specs.List.{AllZip}
use Rattle.std.specs.declared.alloc.Global.{Global}
use Rattle.std.specs.Cmp.Lexicographic.{pointwise}
use Rattle.std.proofs.lemmas.Bool.{false≢true}
use Rattle.std.proofs.lemmas.Bool.Decides.{Decides-and}
use Rattle.std.proofs.lemmas.Grind.{common_steps}
use mathlib.Core.Bool.{beq}
use Rattle.dbus_message_model.specs.Messages.{MessageTree}
use Rattle.dbus_rule.specs.declared.rule.Rule.{Rule}
use Rattle.dbus_match.specs.Matching.{Ownership, ownership}
use Rattle.dbus_match.specs.TakenFor.{text_at}
use Rattle.dbus_message_model.specs.declared.field_code.TheConstants as field
use Rattle.dbus_rule.specs.RuleViews.{rule_pairs}
use Rattle.dbus_rule_set.specs.Eavesdropping.{is_asked}
use Rattle.dbus_match.proofs.Decided.{decided}
use Rattle.dbus_rule.proofs.PairChoices.{Either, both, one_of}
use Rattle.dbus_match.proofs.Noted.{owners_equal}
use Rattle.dbus_rule.proofs.SortedConditions.{rules_equal}
use Rattle.cli_options.specs.Selections.{AreSameSelection, Holds, OrInverted, SelectsBy, SomeHolds, AreSameCommand, AreSameSelected}
use Rattle.cli_options.specs.contracts.selection.QuestionPartialEq.TheImpl as question_eq
use Rattle.cli_options.specs.declared.selection.Question.{Question}
use Rattle.cli_options.specs.declared.selection.Question.TheVariants as questions
use Rattle.cli_options.proofs.MayDecided.{may_decided}
use Rattle.cli_options.specs.contracts.selection.SelectionPartialEq.TheImpl as selection_eq
use Rattle.cli_options.specs.declared.selection.Selection.{Selection}
use Rattle.cli_options.specs.declared.command.Command.{Command}
use Rattle.cli_options.specs.declared.command.Output.{Output}
use Rattle.cli_options.specs.contracts.command.CommandPartialEq.TheImpl as command_eq
use Rattle.cli_options.specs.contracts.command.OutputPartialEq.TheImpl as output_eq

-- ---- which messages are selected

is_true : (b : Bool) → Either (IsTrue b)
is_true true = inl refl
is_true false = inr false≢true

holds_decided : (as_bus : Bool) (q : Question) (r : Rule Global) (m : MessageTree) (os : List Ownership) → Either (Holds as_bus q (rule_pairs r) m os)
holds_decided as_bus questions.Matches r m os = both (is_true (is_asked as_bus m (rule_pairs r))) (decided (rule_pairs r) m os)
holds_decided as_bus questions.MayMatch r m os = both (is_true (is_asked as_bus m (rule_pairs r))) (may_decided m (text_at field.SENDER m) os r)

some_decided : (as_bus : Bool) (q : Question) (rules : List (Rule Global)) (m : MessageTree) (os : List Ownership) → Either (SomeHolds as_bus q rules m os)
some_decided as_bus q [] m os = inr (λ h. h)
some_decided as_bus q (r ∷ rules) m os = one_of (holds_decided as_bus q r m os) (some_decided as_bus q rules m os)

inverted_decided : (inverted : Bool) {P : Type 0} → Either P → Either (OrInverted inverted P)
inverted_decided false e = e
inverted_decided true (inl p) = inr (λ n. n p)
inverted_decided true (inr n) = inl n

pub selected : (s : Selection) (os : List Ownership) (m : MessageTree) → Either (SelectsBy s os m)
selected s os m = inverted_decided s.is_inverted (some_decided s.as_bus s.question s.rules.items m os)

-- ---- what is the same

-- lists are equal by what is seen of their elements
mapped_decides : {X Y : Type 0} (f : X → Y) (e : X → X → Bool) → ((x z : X) → Decides (e x z) (f x ≡ f z)) → (xs zs : List X) → Decides (pointwise e xs zs) (map f xs ≡ map f zs)
mapped_decides f e each [] [] = (λ t. refl, λ h. refl)
mapped_decides f e each [] (z ∷ zs) = (λ t. absurd (false≢true t), λ h. absurd cc)
mapped_decides f e each (x ∷ xs) [] = (λ t. absurd (false≢true t), λ h. absurd cc)
mapped_decides f e each (x ∷ xs) (z ∷ zs) =
    let both = Decides-and (e x z) (pointwise e xs zs) (each x z) (mapped_decides f e each xs zs) in
    (λ t. λ i. (both.0 t).0 i ∷ (both.0 t).1 i, λ h. both.1 (cc, cc))

pub copies_mapped : {X Y : Type 0} (f : X → Y) (xs ys : List X) → AllZip (λ x y. f y ≡ f x) xs ys → map f ys ≡ map f xs
copies_mapped f [] [] h = refl
copies_mapped f [] (y ∷ ys) h = absurd h
copies_mapped f (x ∷ xs) [] h = absurd h
copies_mapped f (x ∷ xs) (y ∷ ys) h = λ i. h.0 i ∷ copies_mapped f xs ys h.1 i

bools_equal : (a b : Bool) → Decides (beq a b) (a ≡ b)
bools_equal false false = (λ t. refl, λ h. refl)
bools_equal false true = (λ t. absurd (false≢true t), λ h. absurd (false≢true h))
bools_equal true false = (λ t. absurd (false≢true t), λ h. absurd (false≢true (sym h)))
bools_equal true true = (λ t. refl, λ h. refl)

questions_equal : (a b : Question) → Decides (question_eq.ghosts.eq a b) (a ≡ b)
questions_equal a b = grind (arith, common_steps)

pub selections_equal : (a b : Selection) → Decides (selection_eq.ghosts.eq a b) (AreSameSelection a b)
selections_equal a b =
    let rules = mapped_decides rule_pairs _ rules_equal a.rules.items b.rules.items in
    let owners = mapped_decides ownership _ owners_equal a.owners.items b.owners.items in
    let ends = Decides-and _ _ (bools_equal a.learns b.learns) (bools_equal a.as_bus b.as_bus) in
    let last = Decides-and _ _ owners ends in
    let asked = Decides-and _ _ (questions_equal a.question b.question) last in
    let rest = Decides-and _ _ (bools_equal a.is_inverted b.is_inverted) asked in
    let all = Decides-and _ _ rules rest in (
      λ t. record { rules = (all.0 t).0; inverted = (all.0 t).1.0; question = (all.0 t).1.1.0; owners = (all.0 t).1.1.1.0; learns = (all.0 t).1.1.1.1.0; as_bus = (all.0 t).1.1.1.1.1 },
      λ h. all.1 (h.rules, (h.inverted, (h.question, (h.owners, (h.learns, h.as_bus))))),
    )

-- Commands are equal exactly where they are the same.

selected_equal : (a b : Option Selection) → Decides (option_eq selection_eq.ghosts.eq a b) (AreSameSelected a b)
selected_equal None None = (λ t. tt, λ h. refl)
selected_equal None (Some b) = (λ t. absurd (false≢true t), λ h. absurd h)
selected_equal (Some a) None = (λ t. absurd (false≢true t), λ h. absurd h)
selected_equal (Some a) (Some b) = selections_equal a b

outputs_equal : (a b : Output) → Decides (output_eq.ghosts.eq a b) (a ≡ b)
outputs_equal a b = grind (arith, common_steps)

pub commands_equal : (a b : Command) → Decides (command_eq.ghosts.eq a b) (AreSameCommand a b)
commands_equal a b = Decides-and _ _ (outputs_equal a.output b.output) (selected_equal a.selection b.selection)
