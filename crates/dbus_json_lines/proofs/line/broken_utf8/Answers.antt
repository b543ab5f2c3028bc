use Rattle.std.proofs.Common.{ℕ, ◌-◌, List, length, drop, subst, arith, length-drop}
use Rattle.std.proofs.lemmas.List.{take_all}
use Rattle.dbus_texts.specs.Kinds.{IsBreakIn, IsText}
use Rattle.dbus_json_lines.proofs.Utf8Breaks.{line_breaks}
use Rattle.dbus_json_lines.proofs.line.broken_utf8.Goals as goal

pub returns : goal.returns
returns c =
    let line = c.args.line.now in
    let at = c.valid_up_to-at.result in
    let rest = take_all (length line - at) (drop at line) (omega (arith, length-drop at line)) in
    line_breaks line _ at c.first_break.result c.in-Err.ensures.cases.1 c.valid_up_to-at.ensures (subst (λ (l : List ℕ). IsBreakIn IsText l c.first_break.result) rest c.first_break.ensures)
