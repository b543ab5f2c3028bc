-- The types of the values that a tuple stands for.
use Rattle.std.proofs.Common.{◌≡◌, ap, ◌∙◌}
use Rattle.dbus_texts.specs.Types.{TypeTree, TypeTrees, NoTypes, MoreTypes}

pub more_typed : {t u : TypeTree} {ts us : TypeTrees} → t ≡ u → ts ≡ us → MoreTypes t ts ≡ MoreTypes u us
more_typed {t} {u} {ts} {us} first others = ap (λ (x : TypeTree). MoreTypes x ts) first ∙ ap (λ (xs : TypeTrees). MoreTypes u xs) others
