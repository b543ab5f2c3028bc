use Rattle.std.proofs.Common.{rules, ◌≡◌, ◌<◌, ◌-◌, ℕ, [], length, take, refl, ap, subst, arith}
use Rattle.std.proofs.lemmas.List.{length-take-le}
use Rattle.std.specs.Io.KnownBytes.{Consumes}
use Rattle.dbus_capture.specs.Captures.{kept_of}
use Rattle.std.proofs.KnownBytes.{Consumes-nil, Consumes-kept}
use Rattle.dbus_capture.proofs.BeginSteps.{fetched_nothing, fetches_more, fetched_more, kept_put, kept_none}
use Rattle.dbus_capture.proofs.input.Input.fetch.Goals as goal

pub loop-number-init : goal.loop-number-init
loop-number-init g c = fetched_nothing g.R.Source.left g.R.Source.calls g.R.Source.failures c.args.self.now c.requires

pub returns-then-kept-ge4-clause-fetched : goal.returns-then-kept-ge4-clause-fetched
returns-then-kept-ge4-clause-fetched g c = c.loop-number.invariant.fetches

pub returns-clause-fetched : goal.returns-clause-fetched
returns-clause-fetched g c = c.loop-number.invariant.fetches

pub returns-in_err-count-clause-fetched : goal.returns-in_err-count-clause-fetched
returns-in_err-count-clause-fetched g c =
    let left = g.R.Source.left in
    let now = c.loop-number.self in
    let l = c.loop-number.invariant in
    let size : length (kept_of now) ≡ now.end - now.start = search rules in
    let e = c.in_err-count.ensures in
    fetches_more left g.R.Source.calls g.R.Source.failures c.loop-number.number c.args.self.now now _ [] c.requires l (omega (arith, c.if-kept-ge4.false))
    (record { gave = Consumes-kept (left now.source) (left now.source) (left c.read.new.self) [] (Consumes-nil (left now.source)) e.bytes; counted = e.called })
    (kept_none now.bytes c.read.new.buffer now.start now.end _ l.start size) refl refl

pub returns-then-count-eq0-clause-fetched : goal.returns-then-count-eq0-clause-fetched
returns-then-count-eq0-clause-fetched g c =
    let left = g.R.Source.left in
    let now = c.loop-number.self in
    let l = c.loop-number.invariant in
    let size : length (kept_of now) ≡ now.end - now.start = search rules in
    let e = c.in_ok-count.ensures in
    let zero : c.in_ok-count.count ≡ 0 = omega (arith, c.if-count-eq0.true) in
    let none : take c.in_ok-count.count c.read.new.buffer ≡ [] = ap (λ (k : ℕ). take k c.read.new.buffer) zero in
    fetches_more left g.R.Source.calls g.R.Source.failures c.loop-number.number c.args.self.now now _ [] c.requires l (omega (arith, c.if-kept-ge4.false))
    (record { gave = subst (Consumes (left now.source) (left c.read.new.self)) none e.bytes.0; counted = e.called })
    (kept_none now.bytes c.read.new.buffer now.start now.end _ l.start size) refl refl

pub loop-number-preserved : goal.loop-number-preserved
loop-number-preserved g c =
    let left = g.R.Source.left in
    let now = c.loop-number.self in
    let l = c.loop-number.invariant in
    let size : length (kept_of now) ≡ now.end - now.start = search rules in
    let e = c.in_ok-count.ensures in
    let count = c.in_ok-count.count in
    let part = c.read.new.buffer in
    let long = length-take-le count part e.bound in
    let some : 0 < length (take count part) = omega (arith, long, c.if-count-eq0.false) in
    fetched_more left g.R.Source.calls g.R.Source.failures c.loop-number.number c.args.self.now now _ (take count part) c.requires l (omega (arith, c.if-kept-ge4.false))
    (record { gave = e.bytes.0; counted = e.called })
    (kept_put now.bytes part now.start now.end _ count l.start size e.bound) some refl refl refl refl refl e.failed
