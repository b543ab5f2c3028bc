-- What a line of a client says. D-Bus Specification, "Authentication Protocol", "Protocol
-- Overview".
use Rattle.std.specs.Prelude.{ℕ, List}

pub data ClientCommand : Type 0 where
  Auth : ClientCommand
  AuthBy : (mech : List ℕ) → (response : List ℕ) → ClientCommand
  Cancel : ClientCommand
  Begin : ClientCommand
  DataOf : (bytes : List ℕ) → ClientCommand
  Error : (text : List ℕ) → ClientCommand
  Negotiate : ClientCommand
  Other : ClientCommand
