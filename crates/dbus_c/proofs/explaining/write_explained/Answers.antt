use Rattle.std.proofs.Common.{rules}
use Rattle.dbus_c.proofs.Filled.{ended}
use Rattle.dbus_c.proofs.explaining.write_explained.Goals as goal

pub returns : goal.returns
returns c =
    let e = c.explain_message-parts.ensures in
    let zero_behind = c.end_text.ensures in
    record {
      text = e.0;
      is = e.1;
      parts = c.explain_message-parts.result;
      are_parts = e.2;
      told = c.explained_told.ensures;
      written = ended c.args.out.now e.0 _ _ _ c.new-room.ensures.begins e.3 zero_behind.gains _ c.end_text.result (search rules) zero_behind.answers;
    }
