use Rattle.std.proofs.Common.{refl}
use Rattle.dbus_json_reader.proofs.Bits.{if_decoded, if_not_decoded}
use Rattle.dbus_json_reader.proofs.doubles.digits_in.Goals as goal

pub returns-in-Ok-clause-some : goal.returns-in-Ok-clause-some
returns-in-Ok-clause-some c =
    if_decoded c.args.text.now _ refl c.decode_to_slice.result c.decode_to_slice.new.out _ _ refl c.decode_to_slice.ensures.value c.in-Ok.is c.from_be_bytes.ensures

pub returns-in-Err-clause-none : goal.returns-in-Err-clause-none
returns-in-Err-clause-none c = λ none n digits.
    if_not_decoded c.args.text.now _ refl c.decode_to_slice.result c.decode_to_slice.new.out _ _ refl c.decode_to_slice.ensures.value c.in-Err.is n digits
