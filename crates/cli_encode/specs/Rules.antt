-- The rules that a refused line breaks, in words.
use Rattle.std.specs.Prelude.{List, ℕ, ◌++◌, codes}
use Rattle.dbus_value_model.specs.declared.fault.Reason.TheVariants as broken
use Rattle.dbus_explain.specs.Rules.{rule_text, ruled}
use Rattle.dbus_json_reader.specs.declared.reasons.JsonReason.{JsonReason}
use Rattle.dbus_json_reader.specs.declared.reasons.JsonReason.TheVariants as reason
use Rattle.cli_encode.specs.declared.reason.LineReason.{LineReason}
use Rattle.cli_encode.specs.declared.reason.LineReason.TheVariants.{TooLong, Unspelled}
use Rattle.cli_encode.specs.declared.rules.Rule.{Rule}
use Rattle.cli_encode.specs.declared.rules.Rule.TheVariants.{Own, OfMessage, OfName}

-- the rule of messages that names keep beside that of their kind
abbrev pub also_short : List ℕ
also_short = codes "; " ++ rule_text broken.NameTooLong

-- what a message has to be, as one that is read has to
abbrev pub message_rule_text : JsonReason → List ℕ
message_rule_text reason.ZeroSerial = rule_text broken.ZeroSerial
message_rule_text reason.FieldCode = rule_text broken.FieldCode
message_rule_text reason.Text = rule_text broken.Text
message_rule_text reason.Path = rule_text broken.Path
message_rule_text reason.Signature = rule_text broken.Signature
message_rule_text reason.Interface = rule_text broken.Interface ++ also_short
message_rule_text reason.Member = rule_text broken.Member ++ also_short
message_rule_text reason.ErrorName = rule_text broken.ErrorName ++ also_short
message_rule_text reason.BusName = rule_text broken.BusName ++ also_short
message_rule_text reason.TooDeep = rule_text broken.TooDeep
message_rule_text (reason.FieldMissing code) = rule_text (broken.FieldMissing code)
message_rule_text reason.ArrayTooLong = rule_text broken.ArrayTooLong
message_rule_text reason.MessageTooLong = rule_text broken.MessageTooLong
message_rule_text why = rule_text broken.FdIndex

-- what a value has to be
abbrev pub value_rule_text : JsonReason → List ℕ
value_rule_text reason.Order = ruled (codes "the order is l or B") (codes "Message Format")
value_rule_text reason.Kind = ruled (codes "the type is method_call, method_return, error, signal, or a number other than 0") (codes "Message Format")
value_rule_text reason.NotInteger = codes "an integer has no point, no exponent and no minus before 0"
value_rule_text reason.Range = ruled (codes "a number is in the range of its type") (codes "Basic types")
value_rule_text reason.MayBeRounded = codes "with --safe-integers an INT64 or UINT64 beyond 2^53 - 1, up or down, is a string"
value_rule_text reason.Digits = codes "a string of bytes is pairs of hexadecimal digits, that of a DOUBLE is 16 digits, and that of an INT64 or UINT64 is decimal"
value_rule_text reason.Count = codes "an array has as many values as there are types"
value_rule_text why = message_rule_text why

-- what has to be in the JSON of a line
abbrev pub json_rule_text : JsonReason → List ℕ
json_rule_text reason.NotUtf8 = codes "a line is UTF-8 (RFC 8259, section 8.1)"
json_rule_text reason.NotJson = codes "a line is one value of JSON, with at most 130 arrays and objects in one another (RFC 8259, section 2)"
json_rule_text reason.Form = codes "a value has the form that its member or its type wants: an object, an array, a string, a number, true or false"
json_rule_text reason.MemberUnknown = codes "an object has no members but those that json writes there"
json_rule_text reason.MemberTwice = codes "an object has each member once"
json_rule_text reason.TypeMissing = codes "a message, a variant and an object of fields have a type"
json_rule_text reason.ValueMissing = codes "a variant and an object of fields have a value"
json_rule_text reason.CodeMissing = codes "an object of fields has a code"
json_rule_text reason.BodyMissing = codes "a message whose signature is not empty has a body"
json_rule_text reason.FieldKnown = codes "a header field of a known code is a member of its own, by its name"
json_rule_text reason.FieldPlace = codes "the places in fields rise, and none is past the end of all header fields"
json_rule_text why = value_rule_text why

-- what has to be where a line is refused for this reason
abbrev pub line_rule_text : LineReason → List ℕ
line_rule_text TooLong = codes "a line has at most 1073741824 bytes, or as many as --max-line says"
line_rule_text (Unspelled why) = json_rule_text why

-- the words of a rule, by where they are
abbrev pub words_of : Rule → List ℕ
words_of (Own words) = words.now
words_of (OfMessage why) = rule_text why
words_of (OfName why) = rule_text why ++ also_short
