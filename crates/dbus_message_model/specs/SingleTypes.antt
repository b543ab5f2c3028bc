-- Types each of which a signature of one complete type spells.
-- D-Bus Specification, "Valid Signatures".
use Rattle.dbus_texts.specs.Types.{TypeTrees, NoTypes, MoreTypes, IsSingleType}

abbrev pub AreSingleTypes : TypeTrees → Type 0
AreSingleTypes NoTypes = Unit {0}
AreSingleTypes (MoreTypes t ts) = IsSingleType t × AreSingleTypes ts
