use Rattle.std.proofs.Common.{◌≡◌, ℕ, zero, suc, ◌+◌, ◌-◌, List, ◌++◌, replicate, take, ap, subst, ◌∙◌, arith}
use Rattle.std.specs.Str.{IsAscii}
use Rattle.std.proofs.lemmas.List.{replicate-append-replicate, take-replicate}
use Rattle.std.proofs.lemmas.Str.{IsCharBoundary-from_ascii}
use Rattle.std.proofs.lemmas.Str.Ascii.{IsAscii-cons, IsAscii-nil}
use Rattle.dbus_show.proofs.FieldTexts.{then}
use Rattle.dbus_list.proofs.columns.write_spaces.Goals as goal

spaces_ascii : (n : ℕ) → IsAscii (replicate n 32)
spaces_ascii zero = IsAscii-nil
spaces_ascii (suc n) = IsAscii-cons 32 (replicate n 32) (omega arith) (spaces_ascii n)

pub loop-left-init : goal.loop-left-init
loop-left-init g c =
    let none : 0 ≡ c.args.count - c.args.count = omega arith in
    record { few = omega arith; so_far = subst (λ (n : ℕ). g.D.Draft.gains c.args.draft.now (replicate n 32) c.args.draft.now) none (g.met.D.Draft.nothing c.args.draft.now) }

pub loop-left-preserved : goal.loop-left-preserved
loop-left-preserved g c =
    let gains = g.D.Draft.gains in
    let before = c.args.draft.now in
    let now = c.push_str.new.self in
    let done = c.args.count - c.loop-left.left in
    let more : done + 32 ≡ c.args.count - (c.loop-left.left - 32) = omega (arith, c.loop-left.invariant.few, c.loop-left-test.true) in
    record {
      few = omega (arith, c.loop-left.invariant.few);
      so_far = subst (λ (n : ℕ). gains before (replicate n 32) now) more (subst (λ (t : List ℕ). gains before t now) (replicate-append-replicate done 32 32) (then gains g.met.D.Draft.joins c.loop-left.invariant.so_far c.push_str.ensures));
    }

pub range-requires-clause-end_boundary : goal.range-requires-clause-end_boundary
range-requires-clause-end_boundary g c = IsCharBoundary-from_ascii (replicate 32 32) c.loop-left.left (spaces_ascii 32) c.loop-left-test.false

pub returns : goal.returns
returns g c =
    let gains = g.D.Draft.gains in
    let left = c.loop-left.left in
    let done = c.args.count - left in
    let all : done + left ≡ c.args.count = omega (arith, c.loop-left.invariant.few) in
    let bare : left - 0 ≡ left = omega arith in
    let last = c.range.ensures.value ∙ ap (λ (k : ℕ). take k (replicate 32 32)) bare ∙ take-replicate left 32 32 c.loop-left-test.false in
    subst (λ (t : List ℕ). gains c.args.draft.now t c.push_str-2.new.self) (ap (λ (t : List ℕ). replicate done 32 ++ t) last ∙ replicate-append-replicate done left 32 ∙ ap (λ (n : ℕ). replicate n 32) all)
    (then gains g.met.D.Draft.joins c.loop-left.invariant.so_far c.push_str-2.ensures)
