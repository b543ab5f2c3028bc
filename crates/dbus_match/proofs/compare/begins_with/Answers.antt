use Rattle.std.proofs.Common.{length, drop}
use Rattle.std.proofs.lemmas.Slice.Eq.{starts_is}
use Rattle.std.proofs.lemmas.Bool.Decides.{Decides-eqb}
use Rattle.dbus_match.proofs.compare.begins_with.Goals as goal

pub returns : goal.returns
returns c =
    let v = c.args.value.now in
    let s = starts_is Decides-eqb c.args.text.now v c.starts_with.result c.starts_with.ensures.value in
    (λ h. (drop (length v) c.args.text.now, s.0 h), λ b. s.1 b.0 b.1)
