use Rattle.std.proofs.Common.{map, take}
use Rattle.std.specs.List.{flat_map}
use Rattle.dbus_show_handshake.specs.ShownHandshakes.{offer}
use Rattle.dbus_show_handshake.proofs.sentences.write_offers.Given as goal

abbrev pub invariant-loop-mech : goal.invariant-loop-mech
invariant-loop-mech g l = g.D.Draft.gains l.initial.draft (flat_map offer (map (λ v. v.items) (take l.mech-index l.mechs))) l.draft
