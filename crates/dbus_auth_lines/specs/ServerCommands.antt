-- What a line of a server says. D-Bus Specification, "Authentication Protocol", "Protocol
-- Overview".
use Rattle.std.specs.Prelude.{ℕ, List}

pub data ServerCommand : Type 0 where
  Rejected : (mechanisms : List (List ℕ)) → ServerCommand
  Accepted : (guid : List ℕ) → ServerCommand
  DataOf : (bytes : List ℕ) → ServerCommand
  Error : (text : List ℕ) → ServerCommand
  Agree : ServerCommand
  Other : ServerCommand
