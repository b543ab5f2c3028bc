-- What of the body of a refused message is whole before the place of its fault.
-- D-Bus Specification, "Message Format" and "Marshaling (Wire Format)".
use Rattle.std.specs.Prelude.{◌≡◌, ℕ, ◌≤◌, List, drop}
use Rattle.dbus_texts.specs.Types.{TypeTrees, NoTypes, MoreTypes}
use Rattle.dbus_value_model.specs.Bounds.{bounds_of}
use Rattle.dbus_value_model.specs.Specification.{specification}
use Rattle.dbus_value_model.specs.Spelling.{Spelled}
use Rattle.dbus_value_model.specs.Values.{ValueTrees, NoValues, MoreValues}
use Rattle.dbus_value_model.specs.declared.limits.TheConstants.{DEPTH_LIMIT}
use Rattle.dbus_explain.specs.Places.{AreBodyTypes, IsInFirst, body_begin, fields_end, order_of}

-- of values of these types, which are spelled one after another from p on, those that end at the
-- place or before it, up to the first that does not; the last of them ends at q
abbrev pub AreFirstOf : (bytes : List ℕ) → (at : ℕ) → ValueTrees → TypeTrees → (p q : ℕ) → Type 0
AreFirstOf bytes at NoValues ts p q = (q ≡ p) × IsInFirst bytes at ts p
AreFirstOf bytes at (MoreValues v vs) NoTypes p q = ⊥
AreFirstOf bytes at (MoreValues v vs) (MoreTypes t ts) p q =
    (r : ℕ) × Spelled (bounds_of specification) (order_of bytes) DEPTH_LIMIT at t p (drop p bytes) v r (drop r bytes) × AreFirstOf bytes at vs ts r q

-- the values of the body that are whole before the place: their types are those that the header
-- fields say
pub record AreWholeValues (bytes : List ℕ) (at : ℕ) (vs : ValueTrees) : Type 0 where
  pub types : TypeTrees
  pub said : AreBodyTypes bytes (fields_end bytes) types
  pub end : ℕ
  pub first : AreFirstOf bytes at vs types (body_begin bytes) end

-- these, from p on; none, if the body is behind the place or the header fields say no types of it
pub data AreValuesBefore (bytes : List ℕ) (at : ℕ) : (p : ℕ) → ValueTrees → Type 0 where
  none : (p : ℕ) → (body_begin bytes ≤ at → (ts : TypeTrees) → AreBodyTypes bytes (fields_end bytes) ts → ⊥) → AreValuesBefore bytes at p NoValues
  some : (vs : ValueTrees) → body_begin bytes ≤ at → AreWholeValues bytes at vs → AreValuesBefore bytes at (body_begin bytes) vs
