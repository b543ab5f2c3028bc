use Rattle.dbus_texts.specs.Types.{sig}
use Rattle.dbus_value_model.specs.Values.{type_of}
use Rattle.dbus_json_reader.proofs.Objects.{object_of, value_in, text_in}
use Rattle.dbus_json_reader.proofs.Shapes.{through}
use Rattle.dbus_json_reader.proofs.others.read_other.Goals as goal

pub returns-in-Err-clause-refused : goal.returns-in-Err-clause-refused
returns-in-Err-clause-refused g c = λ b e place f h. c.in-Err.ensures.refused place f.code (sig (type_of f.value)) h.spelled.value h.formed.code (object_of c.args.integers _ _ _ f _ h)

pub returns-in-Err-single_type-clause-refused : goal.returns-in-Err-single_type-clause-refused
returns-in-Err-single_type-clause-refused g c = λ b e place f h.
    through c.after.result c.in-Err-single_type.why c.after.ensures.unspelled b e c.in-Err-single_type.ensures.refused (type_of f.value) h.formed.single (text_in c.args.integers _ _ place _ _ _ _ _ f c.in-Ok.ensures.ok h)

pub returns-in-Err-read_value-clause-refused : goal.returns-in-Err-read_value-clause-refused
returns-in-Err-read_value-clause-refused g c = λ b e place f h.
    through c.after-in-Err-read_value.result c.in-Err-read_value.why c.after-in-Err-read_value.ensures.unspelled b e c.in-Err-read_value.ensures.refused f.value
    (value_in c.args.integers _ _ place _ _ _ _ _ _ f c.in-Ok.ensures.ok c.in-Ok-single_type.ensures.ok.1 h)
