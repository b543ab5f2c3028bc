use Rattle.std.proofs.Common.{ℕ, List, ◌-◌, length, take, drop, sym, ◌∙◌, subst, arith}
use Rattle.std.proofs.lemmas.Bool.{eqb-false}
use Rattle.std.proofs.lemmas.List.{take_rest}
use Rattle.dbus_texts.specs.declared.names.Tail.TheVariants.{Needed}
use Rattle.dbus_texts.specs.NameScans.{Elements, AreLinked}
use Rattle.dbus_texts.proofs.WholeNames.{found_at, joined_of}
use Rattle.dbus_texts.proofs.whole_names.is_joined.Goals as goal

pub returns-then-contains : goal.returns-then-contains
returns-then-contains c = λ h.
    let bytes = c.args.bytes.now in
    let w = take (length bytes - c.args.start) (drop c.args.start bytes) in
    let same = take_rest bytes c.args.start in
    let separator = c.separator-separator.ensures in
    let some = eqb-false (length w) 0 (sym c.if-is_empty.ensures) in
    let found = found_at w c.separator-separator.result (sym c.if-contains.ensures.value) in
    let linked = subst (λ (s : ℕ). AreLinked s c.args.letters w) separator (subst (AreLinked c.separator-separator.result c.args.letters) (sym same) (c.is_linked.ensures h)) in
    subst (Elements c.args.letters Needed) same
    (joined_of c.args.letters w (length w - 1) found.0 (omega (arith, some)) (sym c.begins.ensures ∙ c.if-not-begins.false) (λ e. c.if-text-separator.false (e ∙ sym separator)) found.1 (found.2 ∙ separator) linked)
