use Rattle.std.proofs.Common.{rules, ◌≡◌, ◌≢◌, ◌≤◌, ◌<◌, ◌-◌, ℕ, List, [], length, drop, inl, refl, ap, arith}
use Rattle.std.proofs.lemmas.List.{length-drop, length-take-le}
use Rattle.std.specs.List.{slice_range}
use Rattle.dbus_capture.proofs.input.Input.fill.Goals as goal

-- a part that ends behind where it begins is not empty
some_part : (bytes : List ℕ) (start end : ℕ) → start < end → end ≤ length bytes → slice_range bytes start end ≢ []
some_part bytes start end some there = λ none.
    let left = length-drop start bytes in
    let size = length-take-le (end - start) (drop start bytes) (omega (arith, left, there)) in
    let n = ap length none in
    absurd (omega (arith, size, n, some))

pub returns-then-self-clause-has : goal.returns-then-self-clause-has
returns-then-self-clause-has g c =
    let s = c.args.self.now in
    let whole : length s.bytes ≡ 65536 = search rules in
    some_part s.bytes s.start s.end c.if-self.true (omega (arith, whole, s.in_room))

pub returns-then-self-clause-fills : goal.returns-then-self-clause-fills
returns-then-self-clause-fills g c =
    let s = c.args.self.now in
    let whole : length s.bytes ≡ 65536 = search rules in
    inl (some_part s.bytes s.start s.end c.if-self.true (omega (arith, whole, s.in_room)), refl)
