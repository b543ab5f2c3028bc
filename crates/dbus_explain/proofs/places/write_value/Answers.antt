use Rattle.std.proofs.Common.{ℕ, ◌∷◌, ◌++◌, codes, subst}
use Rattle.dbus_show.proofs.FieldTexts.{then}
use Rattle.dbus_explain.specs.Names.{behind_values, in_value, path_text}
use Rattle.dbus_explain.specs.Places.{IsAmong, IsAmongNone}
use Rattle.dbus_explain.specs.declared.path.PathStep.TheVariants.{Number}
use Rattle.dbus_explain.proofs.Searching.{some_map, text_if}
use Rattle.dbus_explain.proofs.places.write_value.Goals as goal

pub returns-in-Some : goal.returns-in-Some
returns-in-Some g c =
    let search = c.args.search.now in
    let found = c.in-Some.ensures.some in
    let value = c.in-Some.value in
    let number = c.in-Some.number in
    let steps = c.write_steps-last.ensures.0 in
    let text = c.text.result in
    let gains = g.D.Draft.gains in
    let joins = g.met.D.Draft.joins in
    let last = c.write_steps-last.ensures.2 found.1 found.3 found.4 in
    let among = subst (λ (b : ℕ). IsAmong search.bytes.now search.at found.0 b number found.1 value.place) c.requires.begin found.5 in (
      codes "body" ++ path_text (Number number ∷ steps),
      in_value found.0 number found.1 value.place steps last.0 c.write_steps-last.result.place text found.2 among last.2
          (text_if _ text (some_map text (λ r h. h last.0 last.1) c.text.ensures.some) (λ e. c.text.ensures.none e last.0 last.1)),
      then gains joins c.push_str.ensures (then gains joins c.write_step.ensures c.write_steps-last.ensures.1),
    )

pub returns-in-None : goal.returns-in-None
returns-in-None g c =
    let search = c.args.search.now in (
      codes "the end of the body",
      behind_values (λ ts types. subst (λ (b : ℕ). IsAmongNone search.bytes.now search.at ts b) c.requires.begin (c.body_value.ensures.none c.in-None.is ts types)),
      c.push_str-in-None.ensures,
    )
