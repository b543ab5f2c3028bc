use Rattle.std.proofs.Common.{rules, Option, List, ℕ, subst}
use Rattle.dbus_c_connection.specs.Kept.{Calls}
use Rattle.dbus_c_handle.specs.Connections.{Changes, connection_of}
use Rattle.dbus_c.specs.Connections.{IsCallTold, named}
use Rattle.dbus_c.specs.declared.answers.TheConstants.{WHOLE, NO_CONNECTION, NO_MEMORY, NO_ROOM}
use Rattle.dbus_c.proofs.connections.dbus_wire_connection_call.Goals as goal

pub returns-in-None : goal.returns-in-None
returns-in-None c =
    let before = c.args.connection.now.state in
    let after = c.call.new.self.state in
    let told : IsCallTold c.call.result NO_CONNECTION c.args.serial.now c.args.serial.now = search rules in
    let changes = subst (λ (d : Option (List ℕ)). Changes (λ k n r. Calls k n d c.args.call r) (connection_of before) before after c.call.result) c.in-Some.ensures.1 c.call.ensures in
    named c.in-Some.ensures.0 c.call.result changes told

pub returns-in-Some-Err-Full : goal.returns-in-Some-Err-Full
returns-in-Some-Err-Full c =
    let before = c.args.connection.now.state in
    let after = c.call.new.self.state in
    let told : IsCallTold c.call.result NO_ROOM c.args.serial.now c.args.serial.now = search rules in
    let changes = subst (λ (d : Option (List ℕ)). Changes (λ k n r. Calls k n d c.args.call r) (connection_of before) before after c.call.result) c.in-Some.ensures.1 c.call.ensures in
    named c.in-Some.ensures.0 c.call.result changes told

pub returns-in-Some-Err-Memory : goal.returns-in-Some-Err-Memory
returns-in-Some-Err-Memory c =
    let before = c.args.connection.now.state in
    let after = c.call.new.self.state in
    let told : IsCallTold c.call.result NO_MEMORY c.args.serial.now c.args.serial.now = search rules in
    let changes = subst (λ (d : Option (List ℕ)). Changes (λ k n r. Calls k n d c.args.call r) (connection_of before) before after c.call.result) c.in-Some.ensures.1 c.call.ensures in
    named c.in-Some.ensures.0 c.call.result changes told

pub returns-in-Some-Ok : goal.returns-in-Some-Ok
returns-in-Some-Ok c =
    let before = c.args.connection.now.state in
    let after = c.call.new.self.state in
    let told : IsCallTold c.call.result WHOLE c.args.serial.now c.in-Some-Ok.number = search rules in
    let changes = subst (λ (d : Option (List ℕ)). Changes (λ k n r. Calls k n d c.args.call r) (connection_of before) before after c.call.result) c.in-Some.ensures.1 c.call.ensures in
    named c.in-Some.ensures.0 c.call.result changes told
