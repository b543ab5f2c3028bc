use Rattle.std.proofs.Common.{◌+◌, ℕ, List, take, sym, ap, ◌∙◌, arith}
use Rattle.std.specs.List.{flat_map}
use Rattle.std.proofs.lemmas.List.{take_all}
use Rattle.dbus_marshal.proofs.Written.{written_none}
use Rattle.dbus_c_build.specs.Drafts.{added, known_codes}
use Rattle.dbus_c_build.specs.Building.{with_fields}
use Rattle.dbus_c_build.proofs.SameFields.{known_code, next_code}
use Rattle.dbus_c_build.proofs.Spelling.{fields_next, given_added, none_added}
use Rattle.dbus_c_build.proofs.kept.append_added.Goals as goal

pub loop-before-init : goal.loop-before-init
loop-before-init g c = λ fs kept. sym (written_none c.args.parts.now.order c.args.out.now.items)

pub loop-before-preserved-then-has : goal.loop-before-preserved-then-has
loop-before-preserved-then-has g c = λ fs kept.
    let order = c.args.parts.now.order in
    let parts = c.args.parts.now in
    let n = c.loop-before.before in
    let out = c.loop-before.out.items in
    let has = sym (c.has.ensures order fs kept (known_code n c.loop-before-test.true)) ∙ c.if-has.true in
    fields_next order (added parts fs) (take n known_codes) (n + 1) c.args.out.now.items out out (c.loop-before.invariant fs kept) (none_added order parts fs (n + 1) out has)
    ∙ ap (λ (codes : List ℕ). with_fields order (flat_map (added parts fs) codes) c.args.out.now.items) (sym (next_code n c.loop-before-test.true))

pub loop-before-preserved : goal.loop-before-preserved
loop-before-preserved g c = λ fs kept.
    let order = c.args.parts.now.order in
    let parts = c.args.parts.now in
    let n = c.loop-before.before in
    let out = c.loop-before.out.items in
    let next = c.append_given.new.out.items in
    let has = sym (c.has.ensures order fs kept (known_code n c.loop-before-test.true)) ∙ c.if-has.false in
    fields_next order (added parts fs) (take n known_codes) (n + 1) c.args.out.now.items out next (c.loop-before.invariant fs kept) (given_added order parts fs (n + 1) out next has c.in_ok-append_given.ensures.appended)
    ∙ ap (λ (codes : List ℕ). with_fields order (flat_map (added parts fs) codes) c.args.out.now.items) (sym (next_code n c.loop-before-test.true))

pub returns-clause-appended : goal.returns-clause-appended
returns-clause-appended g c = λ fs kept.
    c.loop-before.invariant fs kept
    ∙ ap (λ (codes : List ℕ). with_fields c.args.parts.now.order (flat_map (added c.args.parts.now fs) codes) c.args.out.now.items) (take_all c.loop-before.before known_codes (omega arith))
