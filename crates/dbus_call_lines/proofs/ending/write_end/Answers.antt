use Rattle.std.proofs.Common.{List, ℕ, ◌++◌, codes, sym, ap, ◌∙◌, subst}
use Rattle.dbus_show.proofs.FieldTexts.{then}
use Rattle.dbus_call_lines.specs.CallLines.{behind_commas, end, reply_members}
use Rattle.dbus_call_lines.specs.Outcomes.{outcome_seen}
use Rattle.dbus_call_lines.specs.declared.form.Form.{Form}
use Rattle.dbus_call_lines.proofs.LineLaws.{outcome_first}
use Rattle.dbus_call_lines.proofs.ending.write_end.Goals as goal

pub returns-in-Text : goal.returns-in-Text
returns-in-Text g c = subst (λ (f : Form). g.D.Draft.gains c.args.draft.now (end f c.args.sent (outcome_seen c.args.outcome)) c.push_str-in-Text.new.self) (sym c.in-Text.is)
    (then g.D.Draft.gains g.met.D.Draft.joins c.push_str.ensures (then g.D.Draft.gains g.met.D.Draft.joins c.write_words.ensures c.push_str-in-Text.ensures))

pub returns-in-Json : goal.returns-in-Json
returns-in-Json g c =
    let more = reply_members c.args.sent (outcome_seen c.args.outcome) in
    let word = ap (λ (w : List ℕ). (codes ",\"outcome\":\"" ++ (w ++ codes "\"")) ++ (behind_commas more ++ codes "}\n")) c.word_of.ensures in
    subst (λ (f : Form). g.D.Draft.gains c.args.draft.now (end f c.args.sent (outcome_seen c.args.outcome)) c.push_str-in-Json.new.self) (sym c.in-Json.is)
    (subst (λ (t : List ℕ). g.D.Draft.gains c.args.draft.now t c.push_str-in-Json.new.self) (word ∙ outcome_first _ more)
    (then g.D.Draft.gains g.met.D.Draft.joins c.push_between.ensures (then g.D.Draft.gains g.met.D.Draft.joins c.write_reply.ensures c.push_str-in-Json.ensures)))
