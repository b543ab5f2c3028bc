use Rattle.std.proofs.Common.{ap, ◌∙◌}
use Rattle.dbus_types.specs.SigTypes.{type_tree}
use Rattle.dbus_unmarshal.proofs.Gathering.{not_entry, entry_opened}
use Rattle.dbus_unmarshal.proofs.opening.open_entry.Goals as goal

pub returns : goal.returns
returns g c = λ v is u done us next.
    entry_opened v is c.in-Some.wanted.now c.in_ok-clone.field-0 c.in_ok-clone-2.field-0 c.in-Entry.key c.in-Entry.value c.in-Entry.is (c.in_ok-clone.ensures.cases ∙ ap type_tree c.deref.ensures) (c.in_ok-clone-2.ensures.cases ∙ ap type_tree c.deref-2.ensures) (c.in-Some.ensures u v done us next)

pub returns-in_default-wanted : goal.returns-in_default-wanted
returns-in_default-wanted g c = λ v is u done us next. absurd (not_entry v is c.in-Some.wanted.now c.in_default-wanted.not-Entry (c.in-Some.ensures u v done us next))
