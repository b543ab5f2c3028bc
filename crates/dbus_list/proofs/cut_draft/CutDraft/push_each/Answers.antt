use Rattle.std.proofs.Common.{◌≡◌, ℕ, List, ◌++◌, refl, sym, ap, subst, ◌∙◌}
use Rattle.std.specs.Char.{encode_utf8}
use Rattle.std.specs.Str.{IsUtf8, encode_utf8_all}
use Rattle.std.proofs.lemmas.Str.{IsUtf8-past_char}
use Rattle.dbus_list.specs.Cutting.{Gains}
use Rattle.dbus_list.specs.CuttingLaws.{nothing, joins}
use Rattle.dbus_list.specs.declared.cut_draft.Room.TheVariants as room
use Rattle.dbus_list.proofs.ReadCharacters.{encode_push, left_none, left_push}
use Rattle.dbus_list.proofs.CutSteps.{full, stepped}
use Rattle.dbus_list.proofs.cut_draft.CutDraft.push_each.Goals as goal

pub loop-c-init : goal.loop-c-init
loop-c-init g c =
    let all = ap (λ i. i.rest.now) c.into_iter-c-iterator.ensures.into_iter_gives ∙ c.chars-c-items.ensures.rest in
    record { so_far = nothing g.D.Draft.gains c.args.self.now; left = sym all; utf8 = subst IsUtf8 (sym all) c.utf8.text }

pub returns-in-Full : goal.returns-in-Full
returns-in-Full g c =
    let now = c.loop-c.self in
    let rest = c.loop-c.c-iterator.rest.now in
    let drops = stepped g.D.Draft.gains now now rest refl c.loop-c.invariant.utf8 room.Full room.Full c.in-Full.is c.in-Full.is (full g.D.Draft.gains now.draft.now rest) in
    subst (λ (t : List ℕ). Gains g.D.Draft.gains c.args.self.now t now) (sym c.loop-c.invariant.left)
    (joins g.D.Draft.gains c.args.self.now now now (encode_utf8_all c.loop-c.yielded) rest c.loop-c.invariant.so_far drops)

pub loop-c-preserved : goal.loop-c-preserved
loop-c-preserved g c =
    let done = c.loop-c.yielded in
    let x = c.in-Some.c in
    let rest = c.next.new.self.rest.now in
    let steps : c.loop-c.c-iterator.rest.now ≡ encode_utf8 x ++ rest = c.in-Some.ensures.steps.0 in
    record {
      so_far = subst (λ (t : List ℕ). Gains g.D.Draft.gains c.args.self.now t c.push_one.new.self) (sym (encode_push done x))
          (joins g.D.Draft.gains c.args.self.now c.loop-c.self c.push_one.new.self (encode_utf8_all done) (encode_utf8 x) c.loop-c.invariant.so_far c.push_one.ensures);
      left = left_push c.args.text.now done x c.loop-c.c-iterator.rest.now rest c.loop-c.invariant.left steps;
      utf8 = IsUtf8-past_char c.loop-c.c-iterator.rest.now rest x c.loop-c.invariant.utf8 steps;
    }

pub returns : goal.returns
returns g c =
    let all = left_none c.args.text.now c.loop-c.yielded c.loop-c.c-iterator.rest.now c.loop-c.invariant.left c.in-None.ensures.steps.0.0 in
    subst (λ (t : List ℕ). Gains g.D.Draft.gains c.args.self.now t c.loop-c.self) (sym all) c.loop-c.invariant.so_far
