-- Lines of servers are equal exactly where they say the same.
use Rattle.std.proofs.Common.{◌≡◌, ℕ, List, [], ap, arith}
use Rattle.std.proofs.lemmas.Grind.{common_steps}
use Rattle.std.specs.Bool.{Decides}
use Rattle.dbus_auth_lines.specs.ServerCommands.{ServerCommand}
use Rattle.dbus_auth_lines.specs.ServerCommands as server
use Rattle.dbus_auth_lines.specs.Lines.{server_command}
use Rattle.dbus_auth_lines.specs.declared.lines.ServerLine.{ServerLine}
use Rattle.dbus_auth_lines.specs.declared.lines.ServerLine.TheVariants as s
use Rattle.dbus_auth_lines.specs.contracts.lines.ServerLinePartialEq.TheImpl as server_eq
use Rattle.std.specs.Cmp.Lexicographic.{bytes_decides}
use Rattle.dbus_auth_lines.proofs.Spaces.{words_equal}
use denote.RattleType.{RattleType}
use mir.Syntax.{Dict}
use Rattle.std.specs.declared.alloc.Allocator as allocator

abbrev words_of : ServerCommand → List (List ℕ)
words_of (server.Rejected ws) = ws
words_of _ = []

abbrev bytes_of : ServerCommand → List ℕ
bytes_of (server.Accepted guid) = guid
bytes_of (server.DataOf bytes) = bytes
bytes_of (server.Error text) = text
bytes_of _ = []

module _ (A : RattleType) (laws : allocator.Ghosts A.Denot) (d e : Dict) where
  pub server_lines_equal : (a b : ServerLine A.Denot) → Decides ((server_eq.ghosts A laws d e).eq a b) (server_command a ≡ server_command b)
  server_lines_equal (s.Rejected x) (s.Rejected y) = (λ t. ap server.Rejected ((words_equal x.items y.items).0 t), λ h. (words_equal x.items y.items).1 (ap words_of h))
  server_lines_equal (s.Accepted x) (s.Accepted y) = (λ t. ap server.Accepted ((bytes_decides x.0 y.0).0 t), λ h. (bytes_decides x.0 y.0).1 (ap bytes_of h))
  server_lines_equal (s.DataOf x) (s.DataOf y) = (λ t. ap server.DataOf ((bytes_decides x.items y.items).0 t), λ h. (bytes_decides x.items y.items).1 (ap bytes_of h))
  server_lines_equal (s.Error x) (s.Error y) = (λ t. ap server.Error ((bytes_decides x.items y.items).0 t), λ h. (bytes_decides x.items y.items).1 (ap bytes_of h))
  server_lines_equal a b = grind (arith, common_steps)
