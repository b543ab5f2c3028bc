use Rattle.std.proofs.Common.{◌≡◌, ℕ, List, true, false, sym, ap}
use Rattle.hex.specs.Hex.{encode_lower}
use Rattle.dbus_show.proofs.FieldTexts.{then}
use Rattle.dbus_json.specs.JsonValues.{plain}
use Rattle.dbus_json.proofs.json.JsonValueForm.bytes.Goals as goal

pub returns : goal.returns
returns g c = record {
  written = λ xs e. (
    plain (encode_lower c.args.bytes.now),
    (λ _. ap (λ (bytes : List ℕ). plain (encode_lower bytes)) (sym e), λ e. let no : true ≡ false = e in cc),
    then g.D.Draft.gains g.met.D.Draft.joins c.push_code.ensures (then g.D.Draft.gains g.met.D.Draft.joins c.write_hex.ensures c.push_code-2.ensures),
  );
}
