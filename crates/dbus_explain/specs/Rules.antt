-- The rules that a refused message breaks, in words.
use Rattle.std.specs.Prelude.{ℕ, ◌++◌, List, codes, nat_eq, if◌then◌else◌}
use Rattle.dbus_value_model.specs.declared.fault.Reason.{Reason}
use Rattle.dbus_value_model.specs.declared.fault.Reason.TheVariants.{ByteOrder, Kind, Version, ZeroSerial, MessageTooLong, Truncated, Trailing, FieldCode, FieldTwice, FieldType, FieldMissing, FdIndex, NotYet, ArrayTooLong, Padding, Overrun, Bool, Text, Nul, Signature, TooDeep, Path, Interface, ErrorName, Member, BusName}

-- a rule, and the section of the D-Bus Specification that has it
abbrev pub ruled : List ℕ → List ℕ → List ℕ
ruled rule section = rule ++ (codes " (D-Bus Specification, \"" ++ (section ++ codes "\")"))

-- which messages have a header field of this code, which is missing
abbrev pub missing_text : ℕ → List ℕ
missing_text code =
    if nat_eq code 1 then ruled (codes "a method_call and a signal have the header field path") (codes "Header Fields") else
    if nat_eq code 2 then ruled (codes "a signal has the header field interface") (codes "Header Fields") else
    if nat_eq code 3 then ruled (codes "a method_call and a signal have the header field member") (codes "Header Fields") else
    if nat_eq code 4 then ruled (codes "an error has the header field error_name") (codes "Header Fields") else
    if nat_eq code 5 then ruled (codes "a method_return and an error have the header field reply_serial") (codes "Header Fields") else
    ruled (codes "a message has the header fields that its type requires") (codes "Header Fields")

-- what a name has to be
abbrev pub name_text : Reason → List ℕ
name_text Interface = ruled (codes "an interface is two or more elements of A-Z, a-z, 0-9 and _ with . between them, and no digit first in one") (codes "Valid Names")
name_text ErrorName = ruled (codes "an error name is two or more elements of A-Z, a-z, 0-9 and _ with . between them, and no digit first in one") (codes "Valid Names")
name_text Member = ruled (codes "a member is A-Z, a-z, 0-9 and _, and no digit first") (codes "Valid Names")
name_text BusName = ruled (codes "a bus name is two or more elements of A-Z, a-z, 0-9, _ and - with . between them, and no digit first in one unless : begins the name") (codes "Valid Names")
name_text reason = ruled (codes "a name has at most 255 bytes") (codes "Valid Names")

-- what a value has to be
abbrev pub value_text : Reason → List ℕ
value_text ArrayTooLong = ruled (codes "an array has at most 67108864 bytes, or as many as --max-array says") (codes "Marshaling (Wire Format)")
value_text Padding = ruled (codes "the bytes of padding are 0") (codes "Marshaling (Wire Format)")
value_text Overrun = ruled (codes "what is in an array, the header fields or the body ends there") (codes "Marshaling (Wire Format)")
value_text Bool = ruled (codes "a BOOLEAN is 0 or 1") (codes "Marshaling (Wire Format)")
value_text Text = ruled (codes "a STRING is UTF-8 without U+0000") (codes "Marshaling (Wire Format)")
value_text Nul = ruled (codes "a 0 follows a text") (codes "Marshaling (Wire Format)")
value_text Signature = ruled (codes "a SIGNATURE is complete types, and that of a variant is one") (codes "Valid Signatures")
value_text TooDeep = ruled (codes "at most 64 containers are open at once, or as many as --max-depth says") (codes "Valid Signatures")
value_text Path = ruled (codes "an OBJECT_PATH is /, or elements of A-Z, a-z, 0-9 and _ with / before each") (codes "Valid Object Paths")
value_text reason = name_text reason

-- what has to be where a message is refused for this reason
abbrev pub rule_text : Reason → List ℕ
rule_text ByteOrder = ruled (codes "a message begins with l or B, its byte order") (codes "Message Format")
rule_text Kind = ruled (codes "the message type is not 0") (codes "Message Format")
rule_text Version = ruled (codes "the protocol version is 1") (codes "Message Format")
rule_text ZeroSerial = ruled (codes "a serial is not 0") (codes "Message Format")
rule_text MessageTooLong = ruled (codes "a message has at most 134217728 bytes, or as many as --max-message says") (codes "Message Format")
rule_text Truncated = ruled (codes "a message has all the bytes that its header states") (codes "Message Format")
rule_text Trailing = ruled (codes "nothing follows the last value of the body") (codes "Message Format")
rule_text FieldCode = ruled (codes "the code of a header field is not 0") (codes "Header Fields")
rule_text FieldTwice = ruled (codes "a header field is there at most once") (codes "Header Fields")
rule_text FieldType = ruled (codes "path is an OBJECT_PATH, reply_serial and unix_fds are UINT32, signature is a SIGNATURE, the other fields are STRINGs") (codes "Header Fields")
rule_text (FieldMissing code) = missing_text code
rule_text FdIndex = ruled (codes "a UNIX_FD is less than the number in the header field unix_fds, as --fds below-count asks") (codes "Header Fields")
rule_text NotYet = codes "no input is refused for this reason"
rule_text reason = value_text reason
