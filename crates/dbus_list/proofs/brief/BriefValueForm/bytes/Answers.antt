use Rattle.std.proofs.Common.{◌≡◌, ℕ, List, ◌++◌, true, false, codes, sym, ap}
use Rattle.hex.specs.Hex.{encode_lower}
use Rattle.dbus_show.proofs.FieldTexts.{then}
use Rattle.dbus_list.proofs.brief.BriefValueForm.bytes.Goals as goal

pub returns : goal.returns
returns g c = record {
  written = λ xs e. (
    codes "0x" ++ encode_lower c.args.bytes.now,
    (λ _. ap (λ (bytes : List ℕ). codes "0x" ++ encode_lower bytes) (sym e), λ e. let no : true ≡ false = e in cc),
    then g.D.Draft.gains g.met.D.Draft.joins c.push_str.ensures c.write_hex.ensures,
  );
}
