-- Calls that ended, as lines.
use Rattle.std.proofs.Common.{◌≡◌, List, [], ◌∷◌, ◌++◌, Bool, true, false, if◌then◌else◌, refl, ◌∙◌, append-nil}
use Rattle.std.proofs.lemmas.List.Concat.{flat_map-append}
use Rattle.dbus_message_model.specs.Messages.{MessageTree}
use Rattle.dbus_call_lines.specs.CallLines.{end, front, line}
use Rattle.dbus_call_lines.specs.Keeping.{AreLines, ended, ended_row, ended_rows, lines_text}
use Rattle.dbus_call_lines.specs.Listing.{Row, row_text, rows_text}
use Rattle.dbus_call_lines.specs.Names.{Known}
use Rattle.dbus_call_lines.specs.Outcomes.{Outcome, is_wanted}
use Rattle.dbus_call_lines.specs.declared.form.Form.{Form}
use Rattle.dbus_call_lines.specs.declared.place.Place.{Place}
use Rattle.dbus_call_lines.specs.declared.wanted.Wanted.{Wanted}
use Rattle.dbus_call_lines.proofs.LineLaws.{two_parts}

one_line : (b : Bool) (form : Form) (place : Place) (names : Known) (call : MessageTree) (outcome : Outcome)
    → lines_text (if b then ended form place (front form place names call) outcome ∷ [] else []) ≡ (if b then line form place names call outcome else [])
one_line true form place names call outcome = append-nil (front form place names call ++ end form place.time outcome) ∙ two_parts form place names call outcome
one_line false form place names call outcome = refl

pub are_lines : AreLines
are_lines wanted [] = refl
are_lines wanted (r ∷ rows) =
    let first = one_line (is_wanted wanted r.call.place.time r.outcome) wanted.form r.call.place r.call.names r.call.message r.outcome in
    let rest = are_lines wanted rows in
    flat_map-append (λ c. c.text ++ end c.form c.place.time c.outcome) (ended_row front wanted r) (ended_rows front wanted rows) ∙ (λ i. first i ++ rest i)

-- the lines of some rows and of others
pub lines_both : (wanted : Wanted) (a b : List Row) → rows_text wanted (a ++ b) ≡ rows_text wanted a ++ rows_text wanted b
lines_both wanted a b = flat_map-append (row_text wanted) a b
