use Rattle.std.proofs.Common.{◌≡◌, true, sym, ap, ◌∙◌, arith}
use Rattle.std.proofs.lemmas.Fmt.{decimal_injective}
use Rattle.std.proofs.lemmas.Option.{same_Some}
use Rattle.std.proofs.lemmas.Bool.{true≢false}
use Rattle.dbus_message_model.specs.Messages.{is_known}
use Rattle.dbus_json_reader.proofs.OneValue.{numbers_same}
use Rattle.dbus_json_reader.proofs.others.other_code.Goals as goal

pub returns-then-is_known-clause-refused : goal.returns-then-is_known-clause-refused
returns-then-is_known-clause-refused g c = λ code fits unknown told.
    let n = c.in-Some-unsigned.code in
    let read = c.in-Some-unsigned.ensures.some in
    let most = read.0 in
    let same : code ≡ n = decimal_injective code n (omega (arith, fits)) (omega (arith, most, c.from.ensures)) (numbers_same _ _ _ (same_Some _ _ (c.in-Some.ensures ∙ told)) read.1) in
    let known : is_known n ≡ true = sym c.is_known.ensures ∙ c.if-is_known.true in
    true≢false (sym known ∙ ap is_known (sym same) ∙ unknown)
