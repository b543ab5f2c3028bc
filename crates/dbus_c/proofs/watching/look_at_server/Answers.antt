use Rattle.dbus_watch.specs.WatchViews.{watch_state}
use Rattle.dbus_c.proofs.WatchTelling.{server_looks}
use Rattle.dbus_c.proofs.watching.look_at_server.Goals as goal

pub returns-in-Ok-Some : goal.returns-in-Ok-Some
returns-in-Ok-Some c b h =
    let passed = c.pass_server_line-passed in
    let begins = rw c.in-Ok-Some.field-0-is at c.in-Ok-Some.ensures in
    server_looks c.in-Ok-Some.line.now b c.server_words.result c.is_exact_server_line.result (watch_state c.state_in-state.result) (watch_state passed.new.self)
    passed.result c.number_of.result c.server_told.result c.args.watch.now c.keep.new.watch (begins b h) c.server_words.ensures.says c.server_words.ensures.places
    c.is_exact_server_line.ensures c.server_told.ensures c.state_in-state.ensures (passed.ensures.exact, passed.ensures.inexact) c.keep.ensures.known c.number_of.ensures c.keep.ensures.started
