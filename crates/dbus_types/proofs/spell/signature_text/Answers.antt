use Rattle.std.proofs.Common.{◌≡◌, ◌++◌, ◌<◌, ◌∙◌, ap, subst, length, string_bytes, arith}
use Rattle.dbus_texts.specs.Types.{sigs}
use Rattle.dbus_texts.specs.Kinds.{IsSignature}
use Rattle.dbus_types.specs.SigTypes.{type_trees_of}
use Rattle.dbus_types.proofs.Parsing.{spelled_types}
use Rattle.dbus_types.proofs.spell.signature_text.Goals as goal

pub returns : goal.returns
returns g c =
    let ts = type_trees_of c.args.types.now in
    let written : string_bytes c.push_types.new.out ≡ sigs ts = c.in_ok-push_types.ensures.written ∙ ap (λ b. b ++ sigs ts) c.new-out.ensures.bytes in
    let read = c.as_bytes.ensures.value ∙ written in
    let checked = c.in_ok-check_signature.ensures in
    let short : length (sigs ts) < 256 = omega (arith, checked.1, ap length read) in
    (spelled_types ts (subst IsSignature read checked.0) short, written)
