use Rattle.std.proofs.Common.{ap, arith}
use Rattle.dbus_texts.specs.Types.{OBJECT_PATH, SIGNATURE}
use Rattle.dbus_message_model.specs.KnownFields.{want_of}
use Rattle.dbus_json_reader.proofs.FieldValues.{name_held, string_tree, number_wanted, no_text, no_name, no_number}
use Rattle.dbus_json_reader.proofs.Shapes.{failed}
use Rattle.dbus_json_reader.proofs.known.known_value.Goals as goal

pub returns-in_err-copied-in-Path-clause-refused : goal.returns-in_err-copied-in-Path-clause-refused
returns-in_err-copied-in-Path-clause-refused g c = λ b e integers depth v h.
    no_text integers depth _ v _ h OBJECT_PATH (ap want_of c.in-Path.is) (λ t kind short spelled. c.in_err-copied-in-Path.ensures.refused b (failed c.from_residual.result c.in_err-copied-in-Path.field-0.0 c.from_residual.ensures.1 b e) t kind (omega (arith, short)) spelled)

pub returns-in_err-copied-in-Name-clause-refused : goal.returns-in_err-copied-in-Name-clause-refused
returns-in_err-copied-in-Name-clause-refused g c = λ b e integers depth v h.
    no_name integers depth _ v _ h c.in-Name.kind (ap want_of c.in-Name.is) (λ t kind short spelled. c.in_err-copied-in-Name.ensures.refused b (failed c.from_residual-in_err-copied-in-Name.result c.in_err-copied-in-Name.field-0.0 c.from_residual-in_err-copied-in-Name.ensures.1 b e) t kind (omega (arith, short)) spelled)

pub returns-in_ok-copied-in-Name-clause-ok : goal.returns-in_ok-copied-in-Name-clause-ok
returns-in_ok-copied-in-Name-clause-ok g c = λ integers depth.
    let text = c.in_ok-copied-in-Name.ensures.ok in
    name_held integers depth _ _ _ c.in-Name.kind _ (ap want_of c.in-Name.is) (c.requires.names c.in-Name.kind (ap want_of c.in-Name.is)) (string_tree _) text.1 (omega (arith, text.2)) text.0

pub returns-in_err-copied-in-Signature-clause-refused : goal.returns-in_err-copied-in-Signature-clause-refused
returns-in_err-copied-in-Signature-clause-refused g c = λ b e integers depth v h.
    no_text integers depth _ v _ h SIGNATURE (ap want_of c.in-Signature.is) (λ t kind short spelled. c.in_err-copied-in-Signature.ensures.refused b (failed c.from_residual-in_err-copied-in-Signature.result c.in_err-copied-in-Signature.field-0.0 c.from_residual-in_err-copied-in-Signature.ensures.1 b e) t kind (omega (arith, short)) spelled)

pub returns-in_err-number_32-in-Number-clause-refused : goal.returns-in_err-number_32-in-Number-clause-refused
returns-in_err-number_32-in-Number-clause-refused g c = λ b e integers depth v h.
    no_number integers depth _ v _ h (number_wanted c.args.wanted c.in-Number.is c.requires.known) (λ n fits spelled. c.in_err-number_32-in-Number.ensures.refused n (omega (arith, fits)) spelled)
