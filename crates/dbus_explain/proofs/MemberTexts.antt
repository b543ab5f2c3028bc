-- The members that say why a message is refused, by their parts, as they are written.
use Rattle.std.proofs.Common.{◌≡◌, ℕ, List, [], ◌∷◌, ◌++◌, codes, append_assoc, append-nil}
use Rattle.dbus_show.specs.Escapes.{escaped}
use Rattle.dbus_show.specs.declared.escapes.Escapes.TheVariants.{Json}
use Rattle.dbus_json.specs.JsonValues.{listed, member, string}

parts_joined : (name rule header : List ℕ)
    → codes "\"place\":\"" ++ (name ++ (codes "\",\"rule\":" ++ (rule ++ (codes ",\"header\":" ++ header))))
    ≡ (codes "\"place\":\"" ++ (name ++ (codes "\"" ++ []))) ++ ((codes ",\"rule\":" ++ rule) ++ ((codes ",\"header\":" ++ header) ++ []))
parts_joined name rule header = simp (append_assoc, append-nil)

pub members_joined : (name rule header : List ℕ)
    → codes "\"place\":\"" ++ (escaped Json name ++ (codes "\",\"rule\":" ++ (string rule ++ (codes ",\"header\":" ++ header))))
    ≡ listed (member (codes "place") (string name) ∷ member (codes "rule") (string rule) ∷ member (codes "header") header ∷ [])
members_joined name rule header = parts_joined (escaped Json name) (string rule) header
