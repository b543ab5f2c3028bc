use Rattle.std.proofs.Common.{◌≡◌, List, length, true}
use Rattle.dbus_texts.specs.Types.{TypeTree, IsShaped, sig}
use Rattle.dbus_explain.specs.Names.{path_text}
use Rattle.dbus_explain.specs.declared.path.PathStep.{PathStep}
use Rattle.dbus_explain.proofs.Searching.{GoesOn}
use Rattle.dbus_explain.proofs.places.write_steps.Given as goal

abbrev pub invariant-loop : goal.invariant-loop
invariant-loop g l = (steps : List PathStep) × g.D.Draft.gains l.initial.draft (path_text steps) l.draft × (length steps ≡ l.counter)
    × ((t : TypeTree) → sig t ≡ l.fn.value.types.now → IsShaped true t → (u : TypeTree) × (sig u ≡ l.spot.types.now) × IsShaped true u
    × GoesOn l.search.bytes.now l.search.at t l.fn.value.place steps u l.spot.place)
