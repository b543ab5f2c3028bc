use Rattle.std.proofs.Common.{ap, ◌∙◌, arith}
use Rattle.dbus_texts.specs.Types.{STRING, OBJECT_PATH, SIGNATURE}
use Rattle.dbus_types.specs.SigTypes.{type_tree}
use Rattle.dbus_json_reader.proofs.Shapes.{text_none, failed, basic_types}
use Rattle.dbus_json_reader.proofs.basics.read_basic.Goals as goal

pub returns-in_err-copied-in-Str-clause-refused : goal.returns-in_err-copied-in-Str-clause-refused
returns-in_err-copied-in-Str-clause-refused g c = λ b e.
    text_none c.args.integers _ _ STRING (ap type_tree c.in-Str.is ∙ (basic_types _).10) (λ s kind short spelled. c.in_err-copied-in-Str.ensures.refused b (failed c.from_residual.result c.in_err-copied-in-Str.field-0.0 c.from_residual.ensures.1 b e) s kind (omega (arith, short)) spelled)

pub returns-in_err-copied-in-Path-clause-refused : goal.returns-in_err-copied-in-Path-clause-refused
returns-in_err-copied-in-Path-clause-refused g c = λ b e.
    text_none c.args.integers _ _ OBJECT_PATH (ap type_tree c.in-Path.is ∙ (basic_types _).11) (λ s kind short spelled. c.in_err-copied-in-Path.ensures.refused b (failed c.from_residual-in_err-copied-in-Path.result c.in_err-copied-in-Path.field-0.0 c.from_residual-in_err-copied-in-Path.ensures.1 b e) s kind (omega (arith, short)) spelled)

pub returns-in_err-copied-in-Sig-clause-refused : goal.returns-in_err-copied-in-Sig-clause-refused
returns-in_err-copied-in-Sig-clause-refused g c = λ b e.
    text_none c.args.integers _ _ SIGNATURE (ap type_tree c.in-Sig.is ∙ (basic_types _).12) (λ s kind short spelled. c.in_err-copied-in-Sig.ensures.refused b (failed c.from_residual-in_err-copied-in-Sig.result c.in_err-copied-in-Sig.field-0.0 c.from_residual-in_err-copied-in-Sig.ensures.1 b e) s kind (omega (arith, short)) spelled)
