use Rattle.std.proofs.Common.{◌≡◌, ◌+◌, ◌-◌, ◌<◌, refl, arith}
use Rattle.std.specs.Char.{encode_utf8}
use Rattle.std.proofs.lemmas.Str.{IsUtf8-encode}
use Rattle.dbus_list.specs.Cuts.{cells}
use Rattle.dbus_list.specs.declared.cut_draft.Room.TheVariants as room
use Rattle.dbus_list.proofs.CutSteps.{fits, full, holds, one_more, stepped, too_wide, unbounded}
use Rattle.dbus_list.proofs.cut_draft.CutDraft.push_one.Goals as goal

pub returns-in-Unbounded : goal.returns-in-Unbounded
returns-in-Unbounded g c =
    let text = encode_utf8 c.args.c in
    stepped g.D.Draft.gains c.args.self.now _ text refl (IsUtf8-encode c.args.c c.ranges.c.0) room.Unbounded room.Unbounded c.in-Unbounded.is c.in-Unbounded.is
    (unbounded g.D.Draft.gains g.met.D.Draft.joins c.args.self.now.draft.now c.push_char.new.draft text c.push_char.ensures)

pub returns-then-cells-left : goal.returns-then-cells-left
returns-then-cells-left g c =
    let left = c.in-Left.left in
    let used = c.cells_of-cells.result in
    stepped g.D.Draft.gains c.args.self.now _ (encode_utf8 c.args.c) refl (IsUtf8-encode c.args.c c.ranges.c.0) (room.Left left) (room.Left (left - used)) c.in-Left.is refl
    (fits g.D.Draft.gains g.met.D.Draft.joins c.args.self.now.draft.now c.push_char-then-cells-left.new.draft c.args.c left used c.ranges.c.0 c.cells_of-cells.ensures c.if-cells-left.true c.push_char-then-cells-left.ensures)

pub returns-then-cells-left-2 : goal.returns-then-cells-left-2
returns-then-cells-left-2 g c =
    let left = c.in-Left.left in
    stepped g.D.Draft.gains c.args.self.now _ (encode_utf8 c.args.c) refl (IsUtf8-encode c.args.c c.ranges.c.0) (room.Left left) (room.Held c.args.c) c.in-Left.is refl
    (holds g.D.Draft.gains c.args.self.now.draft.now c.args.c left c.cells_of-cells.result c.ranges.c.0 c.cells_of-cells.ensures c.if-cells-left-2.true)

pub returns-else-cells-left-2 : goal.returns-else-cells-left-2
returns-else-cells-left-2 g c =
    let left = c.in-Left.left in
    let differs : c.cells_of-cells.result ≡ left + 1 → ⊥ = c.if-cells-left-2.false in
    let over : left + 1 < cells c.args.c = omega (arith, c.cells_of-cells.ensures, c.if-cells-left.false, differs) in
    stepped g.D.Draft.gains c.args.self.now c.end_early.new.self (encode_utf8 c.args.c) c.end_early.ensures.same (IsUtf8-encode c.args.c c.ranges.c.0) (room.Left left) room.Full c.in-Left.is c.end_early.ensures.full
    (too_wide g.D.Draft.gains g.met.D.Draft.joins c.args.self.now.draft.now c.end_early.new.self.draft.now c.args.c left c.ranges.c.0 over c.end_early.ensures.marked)

pub returns-in-Held : goal.returns-in-Held
returns-in-Held g c =
    let held = c.in-Held.field-0 in
    let after = c.end_early-in-Held.new.self in
    stepped g.D.Draft.gains c.args.self.now after (encode_utf8 c.args.c) c.end_early-in-Held.ensures.same (IsUtf8-encode c.args.c c.ranges.c.0) (room.Held held) room.Full c.in-Held.is c.end_early-in-Held.ensures.full
    (one_more g.D.Draft.gains g.met.D.Draft.joins c.args.self.now.draft.now after.draft.now held c.args.c c.ranges.c.0 c.end_early-in-Held.ensures.marked)

pub returns-in-Full : goal.returns-in-Full
returns-in-Full g c =
    stepped g.D.Draft.gains c.args.self.now c.args.self.now (encode_utf8 c.args.c) refl (IsUtf8-encode c.args.c c.ranges.c.0) room.Full room.Full c.in-Full.is c.in-Full.is
    (full g.D.Draft.gains c.args.self.now.draft.now (encode_utf8 c.args.c))
