use Rattle.std.proofs.Common.{◌≡◌, ◌-◌, ℕ, not, length, take, drop, arith}
use Rattle.std.specs.List.{prefix_len}
use Rattle.std.proofs.lemmas.List.Sums.{prefix_len-le-length}
use Rattle.dbus_show.specs.PlainFronts.{is_stop}
use Rattle.dbus_show.proofs.PlainRuns.{found_in_block, last_block, none_in_block}
use Rattle.dbus_show.proofs.runs.run_by.Goals as goal

pub returns-then-run : goal.returns-then-run
returns-then-run g c =
    let p = λ (b : ℕ). not (is_stop c.args.beyond b) in
    let xs = c.args.bytes.now in
    let at = c.loop-at.at in
    let n = g.row.N in
    let run : c.plain_run-run.result ≡ prefix_len p (take n (drop at xs)) = c.plain_run-run.ensures in
    let found = found_in_block p xs at n c.loop-at.invariant (omega arith) (omega (arith, run, c.if-run.true)) in
    omega (arith, run, found)

pub loop-at-preserved : goal.loop-at-preserved
loop-at-preserved g c =
    let p = λ (b : ℕ). not (is_stop c.args.beyond b) in
    let xs = c.args.bytes.now in
    let at = c.loop-at.at in
    let n = g.row.N in
    let run : c.plain_run-run.result ≡ prefix_len p (take n (drop at xs)) = c.plain_run-run.ensures in
    none_in_block p xs at n c.loop-at.invariant (omega arith) (omega (arith, run, c.if-run.false))

pub overflow_add-result-2 : goal.overflow_add-result-2
overflow_add-result-2 g c =
    let p = λ (b : ℕ). not (is_stop c.args.beyond b) in
    let xs = c.args.bytes.now in
    let n = g.row.N in
    let last = length xs - n in
    let run : c.plain_run.result ≡ prefix_len p (take n (drop last xs)) = c.plain_run.ensures in
    let end = last_block p xs last n (omega (arith, c.loop-at.invariant, c.loop-at-test.false)) (omega (arith, c.requires.room)) in
    omega (arith, run, end, prefix_len-le-length p xs)

pub returns : goal.returns
returns g c =
    let p = λ (b : ℕ). not (is_stop c.args.beyond b) in
    let xs = c.args.bytes.now in
    let n = g.row.N in
    let last = length xs - n in
    let run : c.plain_run.result ≡ prefix_len p (take n (drop last xs)) = c.plain_run.ensures in
    let end = last_block p xs last n (omega (arith, c.loop-at.invariant, c.loop-at-test.false)) (omega (arith, c.requires.room)) in
    omega (arith, run, end)
