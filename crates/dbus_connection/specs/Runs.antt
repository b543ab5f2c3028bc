-- Calls of a connection, one after another, and what comes of them however the bytes are cut. D-Bus
-- Specification, "Authentication Protocol" and "Message Protocol".
use Rattle.std.specs.Prelude.{◌≡◌, ◌≤◌, ◌⊎◌, ◌+◌, ℕ, List, [], ◌∷◌, ◌++◌, take, drop}
use Rattle.dbus_connection.specs.Answers.{Answers, gone_on}
use Rattle.dbus_connection.specs.Standing.{Answer, Gives, IsOver, Messages, Passes, Stand, Told, Wants, stands_by}
use Rattle.dbus_connection.specs.declared.settings.Settings.{Settings}

-- a call: how many bytes it is handed, the first of those that are not taken, and its answer
pub record Call : Type 0 where
  pub handed : ℕ
  pub answer : Answer

-- each call is handed what those before it left of these bytes
abbrev pub AreCalls : Settings → Stand → List ℕ → List Call → Type 0
AreCalls settings s bytes [] = Unit {0}
AreCalls settings s bytes (c ∷ cs) =
    Answers settings s (take c.handed bytes) c.answer
    × AreCalls settings (stands_by (gone_on s (take c.handed bytes)) c.answer.told)
    (drop c.answer.taken bytes) cs

-- what came, but for what says that nothing did
abbrev pub coming : Told → List Told → List Told
coming (Wants n) later = later
coming IsOver later = later
coming told later = told ∷ later

abbrev pub came : List Call → List Told
came [] = []
came (c ∷ cs) = coming c.answer.told (came cs)

-- bytes are those of the messages among it, in order; those of the last may go on, if that is passed
-- over
abbrev pub AreOf : List Told → List ℕ → Type 0
AreOf [] bytes = bytes ≡ []
AreOf (Gives view fds ∷ told) bytes =
    (rest : List ℕ) × (bytes ≡ view.bytes ++ rest) × AreOf told rest
AreOf (Passes n header ∷ told) bytes = AreOf told (drop n bytes)
AreOf (other ∷ told) bytes = AreOf told bytes

-- how many bytes were taken
abbrev pub taken_of : List Call → ℕ
taken_of [] = 0
taken_of (c ∷ cs) = c.answer.taken + taken_of cs

-- what comes begins so
abbrev pub BeginsAs : List Told → List Told → Type 0
BeginsAs ys xs = (more : List Told) × (ys ≡ xs ++ more)

-- ---- laws

-- of two ways to cut bytes, one tells what the other does, and maybe more
abbrev pub AnyCut : Type 0
AnyCut = (settings : Settings) (s : Stand) (bytes : List ℕ) (xs ys : List Call)
    → AreCalls settings s bytes xs → AreCalls settings s bytes ys
    → BeginsAs (came xs) (came ys) ⊎ BeginsAs (came ys) (came xs)

-- each byte that was taken is one of a message, in order
abbrev pub TakesMessages : Type 0
TakesMessages = (settings : Settings) (bytes : List ℕ) (calls : List Call)
    → AreCalls settings (Messages 0) bytes calls
    → AreOf (came calls) (take (taken_of calls) bytes)

-- no more bytes are wanted at hand than those of a message that is given, or the first of one
abbrev pub Bounded : Type 0
Bounded = (settings : Settings) (skip : ℕ) (bytes : List ℕ) (a : Answer) (n : ℕ)
    → Answers settings (Messages skip) bytes a → a.told ≡ Wants n → (n ≤ settings.longest) ⊎ (n ≡ 16)
