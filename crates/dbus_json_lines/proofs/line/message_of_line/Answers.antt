use Rattle.std.proofs.Common.{◌≡◌, Some, option_map, sym, ap, ◌∙◌, subst, rules}
use Rattle.std.specs.Str.{IsUtf8}
use Rattle.json.specs.Json.{Json}
use Rattle.json.specs.Value.{value_view}
use Rattle.dbus_texts.specs.Kinds.{IsBreakIn}
use Rattle.dbus_json_reader.specs.JsonMessages.{IsReadMessage}
use Rattle.dbus_json_lines.specs.JsonLines.{json_of}
use Rattle.dbus_json_lines.proofs.LineFaults.{told, same_fault, of_bytes, of_token, unspelled}
use Rattle.dbus_json_lines.specs.declared.fault.LineFault.{LineFault}
use Rattle.dbus_json_lines.proofs.line.message_of_line.Goals as goal

one_value : (x y : Json) → Some x ≡ Some y → x ≡ y
one_value x y e = cc

pub returns-clause-refused : goal.returns-clause-refused
returns-clause-refused g c = λ f e order m l.
    let text : c.in-Ok.text.now ≡ c.args.line.now = c.in-Ok.ensures.0 in
    let reads : json_of c.in-Ok.text.now ≡ Some (value_view c.in-Ok-Some.json) = c.in-Ok-Some.ensures ∙ ap (option_map (λ v. value_view v)) c.in-Ok-Some.field-0-is in
    let same : Some (value_view c.in-Ok-Some.json) ≡ Some l.json = sym reads ∙ (ap json_of text ∙ l.read) in
    let b = unspelled c.args.line.now c.in-Err-read_message.why c.in_line.result f c.in_line.ensures.placed (told _ f e) in
    c.in-Err-read_message.ensures.refused b.0 b.1 order m (subst (IsReadMessage c.args.integers c.args.limits c.args.number order m) (sym (one_value _ _ same)) l.spelled)

pub returns-clause-place : goal.returns-clause-place
returns-clause-place g c = λ f e.
    let text : c.in-Ok.text.now ≡ c.args.line.now = c.in-Ok.ensures.0 in
    let reads : json_of c.in-Ok.text.now ≡ Some (value_view c.in-Ok-Some.json) = c.in-Ok-Some.ensures ∙ ap (option_map (λ v. value_view v)) c.in-Ok-Some.field-0-is in
    of_token c.args.line.now f c.in-Err-read_message.why c.in_line.result (value_view c.in-Ok-Some.json) c.in_line.ensures.few c.in-Ok.ensures.1
    (ap json_of (sym text) ∙ reads) c.in-Err-read_message.ensures.shown c.in_line.ensures.placed (told _ f e)

pub returns-in_default-clause-place : goal.returns-in_default-clause-place
returns-in_default-clause-place g c = λ f e.
    let bad : IsUtf8 c.args.line.now → ⊥ = search rules in
    let same = same_fault _ f (told _ f e) in
    of_bytes c.args.line.now f bad (ap (λ (x : LineFault). x.reason) same) (subst (IsBreakIn IsUtf8 c.args.line.now) (sym (ap (λ (x : LineFault). x.at) same)) c.broken_utf8.ensures)
