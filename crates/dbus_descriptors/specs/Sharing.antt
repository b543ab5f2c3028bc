-- Which descriptors belong to which message. D-Bus Specification, "Header Fields" (UNIX_FDS),
-- "Basic types" (UNIX_FD).
use Rattle.std.specs.Prelude.{◌≡◌, ◌<◌, ◌≤◌, List, [], ◌∷◌, ◌++◌, length, map}
use Rattle.std.specs.List.{All, flat_map}
use Rattle.dbus_descriptors.specs.declared.descriptors.Came.{Came}
use Rattle.dbus_descriptors.specs.declared.descriptors.MessageEnd.{MessageEnd}

-- descriptors in the order in which they came
abbrev pub Row : Type 0 → Type 0
Row T = List (Came T)

-- what is told, in any order: a descriptor that is kept, and a message, which takes its own
pub data Told (T : Type 0) : Type 0 where
  Keeps : Came T → Told T
  Takes : MessageEnd → (share : Row T) → Told T

module _ {T : Type 0} where
  abbrev pub descriptors_of : Row T → List T
  descriptors_of share = map (λ (d : Came T). d.descriptor) share

  -- each came before the message ended
  abbrev pub CameBefore : MessageEnd → Row T → Type 0
  CameBefore m share = All (λ (d : Came T). d.place < m.end) share

  -- none did
  abbrev pub CameBehind : MessageEnd → Row T → Type 0
  CameBehind m later = All (λ (d : Came T). m.end ≤ d.place) later

  -- they are a message's: as many as its header says, and each came before it ended
  pub record AreOf (m : MessageEnd) (share : Row T) : Type 0 where
    pub counted : length share ≡ m.count
    pub before : CameBefore m share

  -- of those that wait, none in front are the message's
  abbrev pub CannotTake : (waiting : Row T) → MessageEnd → Type 0
  CannotTake waiting m = (share rest : Row T) → waiting ≡ share ++ rest → AreOf m share → ⊥

  -- each of these messages has its own
  abbrev pub AreOfEach : List MessageEnd → List (Row T) → Type 0
  AreOfEach [] [] = Unit {0}
  AreOfEach (m ∷ ms) (share ∷ shares) = AreOf m share × AreOfEach ms shares
  AreOfEach ms shares = ⊥

  -- those that came, in order, are the messages' own, and then those that are left
  pub record AreShared (came : Row T) (ms : List MessageEnd) (shares : List (Row T)) (left : Row T) : Type 0 where
    pub once : came ≡ flat_map (λ share. share) shares ++ left
    pub each : AreOfEach ms shares

  abbrev pub came_of : List (Told T) → Row T
  came_of [] = []
  came_of (Keeps d ∷ told) = d ∷ came_of told
  came_of (Takes m share ∷ told) = came_of told

  abbrev pub messages_of : List (Told T) → List MessageEnd
  messages_of [] = []
  messages_of (Keeps d ∷ told) = messages_of told
  messages_of (Takes m share ∷ told) = m ∷ messages_of told

  abbrev pub shares_of : List (Told T) → List (Row T)
  shares_of [] = []
  shares_of (Keeps d ∷ told) = shares_of told
  shares_of (Takes m share ∷ told) = share ∷ shares_of told

  -- these are left of those that wait once all this was told
  abbrev pub Leaves : (waiting : Row T) → List (Told T) → (left : Row T) → Type 0
  Leaves waiting [] left = waiting ≡ left
  Leaves waiting (Keeps d ∷ told) left = Leaves (waiting ++ d ∷ []) told left
  Leaves waiting (Takes m share ∷ told) left =
      (rest : Row T) × (waiting ≡ share ++ rest) × AreOf m share × Leaves rest told left

-- ---- laws

abbrev pub EachOnce : Type 0 → Type 0
EachOnce T = (told : List (Told T)) (left : Row T) → Leaves [] told left
    → AreShared (came_of told) (messages_of told) (shares_of told) left

abbrev pub OneSharing : Type 0 → Type 0
OneSharing T = (came : Row T) (ms : List MessageEnd) (a b : List (Row T)) (left rest : Row T)
    → AreShared came ms a left → AreShared came ms b rest → (a ≡ b) × (left ≡ rest)

abbrev pub Refusal : Type 0 → Type 0
Refusal T = (told : List (Told T)) (left later : Row T) (m : MessageEnd)
    → Leaves [] told left → CannotTake left m → CameBehind m later
    → (shares : List (Row T)) (rest : Row T) → AreShared (came_of told ++ later) (messages_of told ++ m ∷ []) shares rest → ⊥
