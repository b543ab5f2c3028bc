use Rattle.std.proofs.Common.{◌≡◌, Some, refl, ap, ◌∙◌, arith}
use Rattle.json.specs.Find.{as_bool}
use Rattle.json.specs.Value.{value_view}
use Rattle.dbus_texts.specs.Types.{BYTE, BOOLEAN, INT16, UINT16, INT32, UINT32, INT64, UINT64, DOUBLE, UNIX_FD}
use Rattle.std.specs.Int.{w16, w32, w64, cast_signed}
use Rattle.dbus_types.specs.SigTypes.{type_tree}
use borrow.Author.Gap.{read_sfits}
use Rattle.dbus_json_reader.proofs.Shapes.{number_none, basic_types}
use Rattle.dbus_json_reader.proofs.basics.number.Goals as goal

pub returns-in_err-unsigned-in-Byte-clause-none : goal.returns-in_err-unsigned-in-Byte-clause-none
returns-in_err-unsigned-in-Byte-clause-none g c = λ none k type.
    number_none c.args.integers _ _ BYTE (ap type_tree c.in-Byte.is ∙ (basic_types _).0) (λ n fits spelled. c.in_err-unsigned-in-Byte.ensures.none refl n (omega (arith, fits, c.from.ensures)) spelled)

pub returns-in_err-as_bool-in-Bool-clause-none : goal.returns-in_err-as_bool-in-Bool-clause-none
returns-in_err-as_bool-in-Bool-clause-none g c = λ none k type.
    number_none c.args.integers _ _ BOOLEAN (ap type_tree c.in-Bool.is ∙ (basic_types _).1) (λ n fits spelled. let told : as_bool (value_view c.args.json.now) ≡ Some spelled.0 = ap as_bool spelled.1 in let answer = c.in_err-as_bool-in-Bool.ensures in cc)

pub returns-in_err-signed_16-in-I16-clause-none : goal.returns-in_err-signed_16-in-I16-clause-none
returns-in_err-signed_16-in-I16-clause-none g c = λ none k type.
    number_none c.args.integers _ _ INT16 (ap type_tree c.in-I16.is ∙ (basic_types _).2) (λ n fits spelled. c.in_err-signed_16-in-I16.ensures.none refl (cast_signed w16 n) (read_sfits w16 n) spelled)

pub returns-in_err-unsigned-in-U16-clause-none : goal.returns-in_err-unsigned-in-U16-clause-none
returns-in_err-unsigned-in-U16-clause-none g c = λ none k type.
    number_none c.args.integers _ _ UINT16 (ap type_tree c.in-U16.is ∙ (basic_types _).3) (λ n fits spelled. c.in_err-unsigned-in-U16.ensures.none refl n (omega (arith, fits, c.from-in-U16.ensures)) spelled)

pub returns-in_err-signed_32-in-I32-clause-none : goal.returns-in_err-signed_32-in-I32-clause-none
returns-in_err-signed_32-in-I32-clause-none g c = λ none k type.
    number_none c.args.integers _ _ INT32 (ap type_tree c.in-I32.is ∙ (basic_types _).4) (λ n fits spelled. c.in_err-signed_32-in-I32.ensures.none refl (cast_signed w32 n) (read_sfits w32 n) spelled)

pub returns-in_err-unsigned-in-U32-clause-none : goal.returns-in_err-unsigned-in-U32-clause-none
returns-in_err-unsigned-in-U32-clause-none g c = λ none k type.
    number_none c.args.integers _ _ UINT32 (ap type_tree c.in-U32.is ∙ (basic_types _).5) (λ n fits spelled. c.in_err-unsigned-in-U32.ensures.none refl n (omega (arith, fits, c.from-in-U32.ensures)) spelled)

pub returns-in_err-signed_64-in-I64-clause-none : goal.returns-in_err-signed_64-in-I64-clause-none
returns-in_err-signed_64-in-I64-clause-none g c = λ none k type.
    number_none c.args.integers _ _ INT64 (ap type_tree c.in-I64.is ∙ (basic_types _).6) (λ n fits spelled. c.in_err-signed_64-in-I64.ensures.none refl (cast_signed w64 n) (read_sfits w64 n) spelled)

pub returns-in_err-unsigned_64-in-U64-clause-none : goal.returns-in_err-unsigned_64-in-U64-clause-none
returns-in_err-unsigned_64-in-U64-clause-none g c = λ none k type.
    number_none c.args.integers _ _ UINT64 (ap type_tree c.in-U64.is ∙ (basic_types _).7) (λ n fits spelled. c.in_err-unsigned_64-in-U64.ensures.none refl n (omega (arith, fits)) spelled)

pub returns-in_err-double-in-Double-clause-none : goal.returns-in_err-double-in-Double-clause-none
returns-in_err-double-in-Double-clause-none g c = λ none k type.
    number_none c.args.integers _ _ DOUBLE (ap type_tree c.in-Double.is ∙ (basic_types _).8) (λ n fits spelled. c.in_err-double-in-Double.ensures.none refl n spelled)

pub returns-in_err-unsigned-in-Fd-clause-none : goal.returns-in_err-unsigned-in-Fd-clause-none
returns-in_err-unsigned-in-Fd-clause-none g c = λ none k type.
    number_none c.args.integers _ _ UNIX_FD (ap type_tree c.in-Fd.is ∙ (basic_types _).9) (λ n fits spelled. c.in_err-unsigned-in-Fd.ensures.none refl n (omega (arith, fits, c.from-in-Fd.ensures)) spelled)
