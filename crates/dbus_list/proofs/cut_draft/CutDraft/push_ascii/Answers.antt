use Rattle.std.proofs.Common.{◌≤◌, length, take, arith, ◌∙◌}
use Rattle.std.proofs.lemmas.List.{length-take-le}
use Rattle.std.proofs.lemmas.Str.{IsAscii-take, IsCharBoundary-from_ascii}
use Rattle.dbus_list.proofs.CutTexts.{width_ascii}
use Rattle.dbus_list.proofs.cut_draft.CutDraft.push_ascii.Goals as goal

pub push_front-requires : goal.push_front-requires
push_front-requires g c =
    let text = c.args.text.now in
    let fits = c.min-fits.result in
    let few : fits ≤ length text = omega (arith, c.min-fits.ensures) in
    record {
      room = c.requires.room;
      front = record {
        boundary = IsCharBoundary-from_ascii text fits c.requires.ascii few;
        width_is = width_ascii (take fits text) (IsAscii-take text fits c.requires.ascii) ∙ length-take-le fits text few;
        fits = omega (arith, c.min-fits.ensures, c.from.ensures);
      };
    }
