-- What one side says at the start of an input is one thing.
use Rattle.std.proofs.Common.{◌≡◌, inl, inr, ◌<◌, ◌≤◌, ◌+◌, ℕ, List, [], ◌∷◌, ◌++◌, length, Option, None, Some, Result, Ok, Err, IfOk, codes, refl, sym, ap, ◌∙◌, subst, arith, append_assoc, append-nil, length-append}
use Rattle.std.specs.List.{AllByRecursion, flat_map}
use Rattle.std.specs.Io.KnownBytes.{Consumes, IsAtEnd, prepend_known}
use Rattle.std.proofs.lemmas.List.{append_cancel_left}
use Rattle.dbus_device.specs.Packets.{Packets, PacketsAfter}
use Rattle.dbus_device.specs.declared.packet.Packet.{Packet}
use Rattle.dbus_auth_lines.specs.ClientCommands as client
use Rattle.dbus_auth_lines.specs.ServerCommands.{ServerCommand}
use Rattle.dbus_auth_lines.specs.ServerCommands as server
use Rattle.dbus_auth_lines.specs.Cut.{IsLine, TooLong, BadByte, Beginning, WholeLine, Faulty, Unfinished, BeginsAs, IsUnfinished}
use Rattle.dbus_auth_lines.specs.LineForms.{IsServerLine}
use Rattle.dbus_auth_lines.specs.Lines.{ended}
use Rattle.dbus_auth_lines.proofs.FirstLines.{one_beginning, stays_settled}
use Rattle.dbus_handshake_input.specs.Ahead.{source_of, kept_of, packets_of, Took}
use Rattle.dbus_handshake_input.specs.Alike.{GoesOnAlike, IsOfInput, OneHandshake, OnePassing, left_in}
use Rattle.dbus_handshake_input.specs.Handshakes.{greeting, sent, GoesOn, IsCommand, IsBegin, HasOk, IsNoLine, MessagesFollow, BeginsNoMessage, AreAllLines, begun, accepted, BreaksAfter, first_byte, nothing, no_line, too_many}
use Rattle.dbus_handshake_input.specs.Heard.{HeardLine, IsSize, Reads, heard}
use Rattle.dbus_handshake_input.specs.Passing.{Passes}
use Rattle.dbus_handshake_input.specs.declared.fault.HandshakeFault.{HandshakeFault}
use Rattle.dbus_handshake_input.specs.declared.fault.HandshakeFault.TheVariants.{Memory, Device, Refused}
use Rattle.dbus_handshake_input.specs.declared.fault.HandshakeReason.{HandshakeReason}
use Rattle.dbus_handshake_input.specs.declared.fault.HandshakeReason.TheVariants as reason
use Rattle.dbus_handshake_input.specs.declared.read_ahead.ReadAhead.{ReadAhead}
use Rattle.dbus_handshake_input.specs.declared.side.Side.{Side}
use Rattle.dbus_handshake_input.specs.declared.side.Side.TheVariants.{Client, Server}
use Rattle.dbus_handshake_input.specs.declared.size.HandshakeSize.{HandshakeSize}

-- ---- two lists of lines at the start of the same bytes

data Compared (lines others : List (List ℕ)) (rest other_rest : List ℕ) : Type 0 where
  same : lines ≡ others → rest ≡ other_rest → Compared lines others rest other_rest
  fewer : (line : List ℕ) (more : List (List ℕ)) (tail : List ℕ) → others ≡ lines ++ line ∷ more → rest ≡ ended line ++ tail → Compared lines others rest other_rest
  further : (line : List ℕ) (more : List (List ℕ)) (tail : List ℕ) → lines ≡ others ++ line ∷ more → other_rest ≡ ended line ++ tail → Compared lines others rest other_rest

one_line : (l m x y : List ℕ) → IsLine l → IsLine m → ended l ++ x ≡ ended m ++ y → (l ≡ m) × (x ≡ y)
one_line l m x y h i e =
    let whole : WholeLine l ≡ WholeLine m = one_beginning (ended l ++ x) (WholeLine l) (WholeLine m) (h, (x, refl)) (i, (y, e)) in
    let is : l ≡ m = cc in
    (is, append_cancel_left (ended l) x y (e ∙ ap (λ k. ended k ++ y) (sym is)))

compare : (lines others : List (List ℕ)) (rest other_rest : List ℕ) → AllByRecursion IsLine lines → AllByRecursion IsLine others
    → flat_map ended lines ++ rest ≡ flat_map ended others ++ other_rest → Compared lines others rest other_rest
compare [] [] rest other h i e = same refl e
compare [] (m ∷ ms) rest other h i e = fewer m ms (flat_map ended ms ++ other) refl (e ∙ append_assoc (ended m) (flat_map ended ms) other)
compare (l ∷ ls) [] rest other h i e = further l ls (flat_map ended ls ++ rest) refl (sym e ∙ append_assoc (ended l) (flat_map ended ls) rest)
compare (l ∷ ls) (m ∷ ms) rest other h i e =
    let one = one_line l m (flat_map ended ls ++ rest) (flat_map ended ms ++ other) h.0 i.0
    (sym (append_assoc (ended l) (flat_map ended ls) rest) ∙ e ∙ append_assoc (ended m) (flat_map ended ms) other) in
    onward one.0 (compare ls ms rest other h.1 i.1 one.1)
  where
    onward : l ≡ m → Compared ls ms rest other → Compared (l ∷ ls) (m ∷ ms) rest other
    onward is (same a b) = same (λ j. is j ∷ a j) b
    onward is (fewer line more tail a b) = fewer line more tail (λ j. sym is j ∷ a j) b
    onward is (further line more tail a b) = further line more tail (λ j. is j ∷ a j) b

-- ---- lines of a side, of which only the last one may end it

begin_command : (side : Side) (line : List ℕ) → IsBegin side line → IsCommand side line
begin_command Client line h = (client.Begin, h)
begin_command Server line h = absurd h

module _ (side : Side) where
  abbrev Front : List (List ℕ) → Type 0
  Front [] = Unit {0}
  Front (l ∷ []) = IsLine l × IsCommand side l
  Front (l ∷ m ∷ ms) = GoesOn side l × Front (m ∷ ms)

  front_all : (lines : List (List ℕ)) → AllByRecursion (GoesOn side) lines → Front lines
  front_all [] h = tt
  front_all (l ∷ []) h = (h.0.is_line, h.0.command)
  front_all (l ∷ m ∷ ms) h = (h.0, front_all (m ∷ ms) h.1)

  front_begun : (before : List (List ℕ)) (last : List ℕ) → AllByRecursion (GoesOn side) before → IsLine last → IsCommand side last → Front (before ++ last ∷ [])
  front_begun [] last h l c = (l, c)
  front_begun (b ∷ []) last h l c = (h.0, (l, c))
  front_begun (b ∷ k ∷ ks) last h l c = (h.0, front_begun (k ∷ ks) last h.1 l c)

  front_lines : (lines : List (List ℕ)) → Front lines → AllByRecursion IsLine lines
  front_lines [] h = tt
  front_lines (l ∷ []) h = (h.0, tt)
  front_lines (l ∷ m ∷ ms) h = (h.0.is_line, front_lines (m ∷ ms) h.1)

  -- another line of the side comes after these
  record GoesFurther (lines : List (List ℕ)) (line : List ℕ) : Type 0 where
    each : AllByRecursion (GoesOn side) lines
    is_line : IsLine line
    command : IsCommand side line

  front_cut : (lines : List (List ℕ)) (line : List ℕ) (more : List (List ℕ)) → Front (lines ++ line ∷ more) → GoesFurther lines line
  front_cut [] line [] h = record { each = tt; is_line = h.0; command = h.1 }
  front_cut [] line (m ∷ ms) h = record { each = tt; is_line = h.0.is_line; command = h.0.command }
  front_cut (l ∷ []) line more h = let next = front_cut [] line more h.1 in record { each = (h.0, tt); is_line = next.is_line; command = next.command }
  front_cut (l ∷ k ∷ ks) line more h = let next = front_cut (k ∷ ks) line more h.1 in record { each = (h.0, next.each); is_line = next.is_line; command = next.command }

  last_goes_on : (before : List (List ℕ)) (last : List ℕ) → AllByRecursion (GoesOn side) (before ++ last ∷ []) → GoesOn side last
  last_goes_on [] last h = h.0
  last_goes_on (b ∷ bs) last h = last_goes_on bs last h.1

-- ---- no line of a server begins as a message does

after_form : (name text tail : List ℕ) (line : List ℕ) → line ≡ name ++ text → BeginsNoMessage (ended (name ++ text) ++ tail) → BeginsNoMessage (ended line ++ tail)
after_form name text tail line e h = subst (λ l. BeginsNoMessage (ended l ++ tail)) (sym e) h

server_next : (line tail : List ℕ) (c : ServerCommand) → IsServerLine line c → BeginsNoMessage (ended line ++ tail)
server_next line tail (server.Rejected words) h = after_form (codes "REJECTED") h.0 tail line h.1.0 (λ e. omega (arith, e), λ e. omega (arith, e))
server_next line tail (server.Accepted guid) h = after_form (codes "OK") h.1.1.1.0 tail line h.1.1.1.1.0 (λ e. omega (arith, e), λ e. omega (arith, e))
server_next line tail (server.DataOf bytes) (inl h) = after_form (codes "DATA") h.1.0 tail line h.1.1.0 (λ e. omega (arith, e), λ e. omega (arith, e))
server_next line tail (server.DataOf bytes) (inr h) = after_form (codes "DATA") h.1.1.0 tail line h.1.1.1.0 (λ e. omega (arith, e), λ e. omega (arith, e))
server_next line tail (server.Error text) (inl h) = after_form (codes "ERROR") [] tail line h.0 (λ e. omega (arith, e), λ e. omega (arith, e))
server_next line tail (server.Error text) (inr h) = after_form (codes "ERROR") (32 ∷ text) tail line h (λ e. omega (arith, e), λ e. omega (arith, e))
server_next line tail server.Agree h = after_form (codes "AGREE_UNIX_FD") h.0 tail line h.1.0 (λ e. omega (arith, e), λ e. omega (arith, e))
server_next line tail server.Other h = absurd h

client_accepts_none : (lines : List (List ℕ)) → HasOk Client lines → ⊥
client_accepts_none [] h = h
client_accepts_none (l ∷ ls) (inl h) = h
client_accepts_none (l ∷ ls) (inr h) = client_accepts_none ls h

line_next : (side : Side) (lines : List (List ℕ)) (line tail : List ℕ) → HasOk side lines → IsCommand side line → BeginsNoMessage (ended line ++ tail)
line_next Client lines line tail ok h = absurd (client_accepts_none lines ok)
line_next Server lines line tail ok h = server_next line tail h.0 h.1

not_both : (AtEnd : Type 0) (next : List ℕ) → BeginsNoMessage next → MessagesFollow next AtEnd → ⊥
not_both AtEnd [] none follow = none
not_both AtEnd (b ∷ more) none (inl e) = none.0 e
not_both AtEnd (b ∷ more) none (inr e) = none.1 e

-- ---- why bytes begin with no line

abbrev told : (bytes : List ℕ) → Beginning → ℕ × HandshakeReason
told bytes (WholeLine line) = (0, reason.NoCommand)
told bytes (Faulty TooLong) = (16382, reason.LineTooLong)
told bytes (Faulty (BadByte at)) = (at, reason.LineByte)
told bytes Unfinished = (length bytes, reason.Truncated)

record NoLineBy (side : Side) (bytes : List ℕ) (at : ℕ) (why : HandshakeReason) : Type 0 where
  beginning : Beginning
  begins : BeginsAs bytes beginning
  told_is : (at, why) ≡ told bytes beginning
  no_command : (line : List ℕ) → beginning ≡ WholeLine line → IsCommand side line → ⊥

no_line_by : (side : Side) (bytes : List ℕ) (at : ℕ) (why : HandshakeReason) → IsNoLine side bytes (Unit {0}) at why → NoLineBy side bytes at why
no_line_by side bytes at reason.FirstByte h = absurd h
no_line_by side bytes at reason.LineTooLong h = record { beginning = Faulty TooLong; begins = h.0; told_is = λ i. (h.1 i, reason.LineTooLong); no_command = λ line e. absurd cc }
no_line_by side bytes at reason.LineByte h = record { beginning = Faulty (BadByte at); begins = h; told_is = refl; no_command = λ line e. absurd cc }
no_line_by side bytes at reason.NoCommand h = record {
  beginning = WholeLine h.0;
  begins = (h.3, (h.1, h.2));
  told_is = λ i. (h.5 i, reason.NoCommand);
  no_command = λ line e command. let is : line ≡ h.0 = cc in h.4 (subst (IsCommand side) is command);
}
no_line_by side bytes at reason.Truncated h = record { beginning = Unfinished; begins = h.0; told_is = λ i. (h.2 i, reason.Truncated); no_command = λ line e. absurd cc }
no_line_by side bytes at reason.TooManyLines h = absurd h

-- ---- what comes after the lines of a side

module _ (side : Side) where
  -- they are no handshake for this reason, at this place
  data AtBreak (lines : List (List ℕ)) (rest : List ℕ) (at : ℕ) (why : HandshakeReason) : Type 0 where
    at_line : (place : ℕ) → AllByRecursion (GoesOn side) lines → length lines < 1024 → (HasOk side lines → BeginsNoMessage rest) → NoLineBy side rest place why
        → at ≡ length (sent side lines) + place → AtBreak lines rest at why
    at_many : AllByRecursion (GoesOn side) lines → length lines ≡ 1024 → (HasOk side lines → BeginsNoMessage rest) → at ≡ length (sent side lines) → why ≡ reason.TooManyLines
        → AtBreak lines rest at why

  -- they are a handshake, or none
  abbrev Stop : List (List ℕ) → List ℕ → Option (ℕ × HandshakeReason) → Type 0
  Stop lines rest None = AreAllLines side lines rest (Unit {0})
  Stop lines rest (Some p) = AtBreak lines rest p.0 p.1

  stop_front : (lines : List (List ℕ)) (rest : List ℕ) (end : Option (ℕ × HandshakeReason)) → Stop lines rest end → Front side lines × (length lines ≤ 1024)
  stop_front lines rest None (begun before last each is_line is_begin is few) =
      (subst (Front side) (sym is) (front_begun side before last each is_line (begin_command side last is_begin)), few)
  stop_front lines rest None (accepted each ok follow few) = (front_all side lines each, few)
  stop_front lines rest (Some p) (at_line place each few next lacks at_is) = (front_all side lines each, omega (arith, few))
  stop_front lines rest (Some p) (at_many each all next at_is why_is) = (front_all side lines each, omega (arith, all))

  -- no further line of the side
  no_further : (lines : List (List ℕ)) (line tail : List ℕ) (end : Option (ℕ × HandshakeReason)) → Stop lines (ended line ++ tail) end → GoesFurther side lines line → length lines < 1024 → ⊥
  no_further lines line tail None (begun before last each is_line is_begin is few) next some =
      (last_goes_on side before last (subst (AllByRecursion (GoesOn side)) is next.each)).not_begin is_begin
  no_further lines line tail None (accepted each ok follow few) next some = not_both (Unit {0}) (ended line ++ tail) (line_next side lines line tail ok next.command) follow
  no_further lines line tail (Some p) (at_line place each few none lacks at_is) next some =
      lacks.no_command line (one_beginning (ended line ++ tail) lacks.beginning (WholeLine line) lacks.begins (next.is_line, (tail, refl))) next.command
  no_further lines line tail (Some p) (at_many each all none at_is why_is) next some = omega (arith, all, some)

  no_break : (lines : List (List ℕ)) (rest : List ℕ) (p : ℕ × HandshakeReason) → Stop lines rest None → Stop lines rest (Some p) → ⊥
  no_break lines rest p (begun before last each is_line is_begin is few) (at_line place all less none lacks at_is) =
      (last_goes_on side before last (subst (AllByRecursion (GoesOn side)) is all)).not_begin is_begin
  no_break lines rest p (begun before last each is_line is_begin is few) (at_many all many none at_is why_is) =
      (last_goes_on side before last (subst (AllByRecursion (GoesOn side)) is all)).not_begin is_begin
  no_break lines rest p (accepted each ok follow few) (at_line place all less none lacks at_is) = not_both (Unit {0}) rest (none ok) follow
  no_break lines rest p (accepted each ok follow few) (at_many all many none at_is why_is) = not_both (Unit {0}) rest (none ok) follow

  one_break : (lines : List (List ℕ)) (rest : List ℕ) (p q : ℕ × HandshakeReason) → Stop lines rest (Some p) → Stop lines rest (Some q) → p ≡ q
  one_break lines rest p q (at_line place each few none lacks at_is) (at_line there all less next lacks_too there_is) =
      let is : (place, p.1) ≡ (there, q.1) = lacks.told_is ∙ ap (told rest) (one_beginning rest lacks.beginning lacks_too.beginning lacks.begins lacks_too.begins) ∙ sym lacks_too.told_is in
      let at : p.0 ≡ q.0 = at_is ∙ ap (λ (x : ℕ × HandshakeReason). length (sent side lines) + x.0) is ∙ sym there_is in
      λ i. (at i, (is i).1)
  one_break lines rest p q (at_line place each few none lacks at_is) (at_many all many next there_is why_is) = absurd (omega (arith, few, many))
  one_break lines rest p q (at_many each many none at_is why_is) (at_line there all less next lacks_too there_is) = absurd (omega (arith, many, less))
  one_break lines rest p q (at_many each many none at_is why_is) (at_many all more next there_is because) =
      let at = at_is ∙ sym there_is in let why = why_is ∙ sym because in λ i. (at i, why i)

  one_stop : (lines : List (List ℕ)) (rest : List ℕ) (a b : Option (ℕ × HandshakeReason)) → Stop lines rest a → Stop lines rest b → a ≡ b
  one_stop lines rest None None h k = refl
  one_stop lines rest None (Some q) h k = absurd (no_break lines rest q h k)
  one_stop lines rest (Some p) None h k = absurd (no_break lines rest p k h)
  one_stop lines rest (Some p) (Some q) h k = ap Some (one_break lines rest p q h k)

  stops_alike : (lines others : List (List ℕ)) (rest other_rest : List ℕ) (a b : Option (ℕ × HandshakeReason)) → Stop lines rest a → Stop others other_rest b
      → flat_map ended lines ++ rest ≡ flat_map ended others ++ other_rest → (lines ≡ others) × (a ≡ b)
  stops_alike lines others rest other_rest a b h k e = by_lines (compare lines others rest other_rest (front_lines side lines x.0) (front_lines side others y.0) e)
    where
      x : Front side lines × (length lines ≤ 1024)
      x = stop_front lines rest a h

      y : Front side others × (length others ≤ 1024)
      y = stop_front others other_rest b k

      below : (ls ms : List (List ℕ)) (line : List ℕ) (more : List (List ℕ)) → ms ≡ ls ++ line ∷ more → length ms ≤ 1024 → length ls < 1024
      below ls ms line more is few = let all = ap length is ∙ length-append ls (line ∷ more) in omega (arith, all, few)

      by_lines : Compared lines others rest other_rest → (lines ≡ others) × (a ≡ b)
      by_lines (same is at) = (
        is,
        one_stop others other_rest a b (subst (λ l. Stop others l a) at (subst (λ (ls : List (List ℕ)). Stop ls rest a) is h)) k,
      )
      by_lines (fewer line more tail is at) =
          absurd (no_further lines line tail a (subst (λ l. Stop lines l a) at h) (front_cut side lines line more (subst (Front side) is y.0)) (below lines others line more is y.1))
      by_lines (further line more tail is at) =
          absurd (no_further others line tail b (subst (λ l. Stop others l b) at k) (front_cut side others line more (subst (Front side) is x.0)) (below others lines line more is x.1))

  -- ---- from the start of an input

  -- what is told of an input that does not begin as a client's does
  abbrev unlike_end : List ℕ → Option (ℕ × HandshakeReason)
  unlike_end [] = Some (0, reason.Truncated)
  unlike_end (b ∷ more) = Some (0, reason.FirstByte)

  data Said (lines : List (List ℕ)) (input : List ℕ) (end : Option (ℕ × HandshakeReason)) : Type 0 where
    unlike : side ≡ Client → lines ≡ [] → ((more : List ℕ) → input ≡ 0 ∷ more → ⊥) → end ≡ unlike_end input → Said lines input end
    stops : (rest : List ℕ) → input ≡ sent side lines ++ rest → Stop lines rest end → Said lines input end

  begins_nul : side ≡ Client → (more : List ℕ) → greeting side ++ more ≡ 0 ∷ more
  begins_nul is more = ap (λ (s : Side). greeting s ++ more) is

  unlike_stops : (lines : List (List ℕ)) (rest input : List ℕ) → side ≡ Client → ((more : List ℕ) → input ≡ 0 ∷ more → ⊥) → input ≡ sent side lines ++ rest → ⊥
  unlike_stops lines rest input is other at =
      let all = flat_map ended lines ++ rest in
      other all (at ∙ append_assoc (greeting side) (flat_map ended lines) rest ∙ begins_nul is all)

  one_said : (lines others : List (List ℕ)) (input : List ℕ) (a b : Option (ℕ × HandshakeReason)) → Said lines input a → Said others input b → (lines ≡ others) × (a ≡ b)
  one_said lines others input a b (unlike is none other end) (unlike is_too none_too other_too end_too) = (none ∙ sym none_too, end ∙ sym end_too)
  one_said lines others input a b (unlike is none other end) (stops rest at h) = absurd (unlike_stops others rest input is other at)
  one_said lines others input a b (stops rest at h) (unlike is none other end) = absurd (unlike_stops lines rest input is other at)
  one_said lines others input a b (stops rest at h) (stops other_rest there k) =
      stops_alike lines others rest other_rest a b h k (append_cancel_left (greeting side) (flat_map ended lines ++ rest) (flat_map ended others ++ other_rest)
      (sym (append_assoc (greeting side) (flat_map ended lines) rest) ∙ sym at ∙ there ∙ append_assoc (greeting side) (flat_map ended others) other_rest))

  -- ---- what was read is the start of the input, or all of it

  module _ (AtEnd : Type 0) (more : List ℕ) (none : AtEnd → more ≡ []) where
    follow_on : (next : List ℕ) → MessagesFollow next AtEnd → MessagesFollow (next ++ more) (Unit {0})
    follow_on [] h = subst (λ l. MessagesFollow l (Unit {0})) (sym (none h)) tt
    follow_on (b ∷ bs) h = h

    none_on : (next : List ℕ) → BeginsNoMessage next → BeginsNoMessage (next ++ more)
    none_on [] h = absurd h
    none_on (b ∷ bs) h = h

    all_on : (lines : List (List ℕ)) (next : List ℕ) → AreAllLines side lines next AtEnd → AreAllLines side lines (next ++ more) (Unit {0})
    all_on lines next (begun before last each is_line is_begin is few) = begun before last each is_line is_begin is few
    all_on lines next (accepted each ok follow few) = accepted each ok (follow_on next follow) few

    no_line_on : (bytes : List ℕ) (at : ℕ) (why : HandshakeReason) → IsNoLine side bytes AtEnd at why → IsNoLine side (bytes ++ more) (Unit {0}) at why
    no_line_on bytes at reason.FirstByte h = h
    no_line_on bytes at reason.LineTooLong h = (stays_settled bytes more (Faulty TooLong) (λ e. absurd cc) h.0, h.1)
    no_line_on bytes at reason.LineByte h = stays_settled bytes more (Faulty (BadByte at)) (λ e. absurd cc) h
    no_line_on bytes at reason.NoCommand h = (h.0, h.1 ++ more, ap (λ l. l ++ more) h.2 ∙ append_assoc (ended h.0) h.1 more, h.3, h.4, h.5)
    no_line_on bytes at reason.Truncated h =
        let all : bytes ++ more ≡ bytes = ap (λ l. bytes ++ l) (none h.1) ∙ append-nil bytes in
        (subst IsUnfinished (sym all) h.0, tt, h.2 ∙ ap length (sym all))
    no_line_on bytes at reason.TooManyLines h = h

    module _ (lines : List (List ℕ)) (input bytes : List ℕ) (is : input ≡ bytes ++ more) where
      onward : (rest : List ℕ) → bytes ≡ sent side lines ++ rest → input ≡ sent side lines ++ (rest ++ more)
      onward rest e = is ∙ ap (λ l. l ++ more) e ∙ append_assoc (sent side lines) rest more

      said_all : (next : List ℕ) → bytes ≡ sent side lines ++ next → AreAllLines side lines next AtEnd → Said lines input None
      said_all next e h = stops (next ++ more) (onward next e) (all_on lines next h)

      said_break : (at : ℕ) (why : HandshakeReason) → BreaksAfter side lines bytes AtEnd at why → Said lines input (Some (at, why))
      said_break at why (first_byte b tail of_client no_lines e not_nul at_is why_is) =
          let all : input ≡ b ∷ (tail ++ more) = is ∙ ap (λ l. l ++ more) e in
          unlike of_client no_lines (λ rest f. not_nul (let g : b ∷ (tail ++ more) ≡ 0 ∷ rest = sym all ∙ f in cc))
          ((λ i. Some (at_is i, why_is i)) ∙ sym (ap unlike_end all))
      said_break at why (nothing of_client no_lines e end at_is why_is) =
          let all : input ≡ [] = is ∙ ap (λ l. l ++ more) e ∙ none end in
          unlike of_client no_lines (λ rest f. absurd (let g : ◌≡◌ {A = List ℕ} [] (0 ∷ rest) = sym all ∙ f in cc))
          ((λ i. Some (at_is i, why_is i)) ∙ sym (ap unlike_end all))
      said_break at why (no_line rest place each few next e lacks at_is) =
          stops (rest ++ more) (onward rest e) (at_line place each few (λ ok. none_on rest (next ok)) (no_line_by side (rest ++ more) place why (no_line_on rest place why lacks)) at_is)
      said_break at why (too_many rest each many next e at_is why_is) = stops (rest ++ more) (onward rest e) (at_many each many (λ ok. none_on rest (next ok)) at_is why_is)

-- ---- two calls

after_read : (kept now read bytes input : List ℕ) (a b : Option (List ℕ)) → Consumes a b read → kept ++ read ≡ bytes ++ now → prepend_known kept a ≡ Some input
    → (more : List ℕ) × (b ≡ Some more) × (input ≡ (bytes ++ now) ++ more)
after_read kept now read bytes input None b c joined known = absurd cc
after_read kept now read bytes input (Some x) None c joined known = absurd c
after_read kept now read bytes input (Some x) (Some y) c joined known =
    let all : kept ++ x ≡ input = cc in
    (y, refl, sym all ∙ ap (λ l. kept ++ l) c ∙ sym (append_assoc kept read y) ∙ ap (λ l. l ++ y) joined)

-- where a call stopped
abbrev end_of : {T : Type 0} → Result T HandshakeFault → Option (ℕ × HandshakeReason)
end_of (Ok x) = None
end_of (Err Memory) = None
end_of (Err Device) = None
end_of (Err (Refused at why)) = Some (at, why)

module _ {R : Type 0} (left : R → Option (List ℕ)) (calls : R → ℕ) (packets : R → Option Packets) (packet : R → Option Packet) (side : Side) (input : List ℕ) (r0 r1 : ReadAhead R) (known : left_in left r0 ≡ Some input) where
  -- after these bytes of the input, this source has what follows them
  abbrev Follows : List ℕ → Type 0
  Follows bytes = (rest : List ℕ) × (input ≡ bytes ++ rest) × (left_in left r1 ≡ Some rest) × PacketsAfter (length bytes) (packets_of packets packet r0) (packets_of packets packet r1)

  -- what a call said, and what its visitor heard
  record HasSaid {V : Type 0} (hears : V → List HeardLine → V → Type 0) (v0 v1 : V) (a : Result HandshakeSize HandshakeFault) : Type 0 where
    lines : List (List ℕ)
    said : Said side lines input (end_of a)
    heard_are : hears v0 (heard side lines) v1
    size : IfOk a (IsSize side lines)
    follows : IfOk a (λ x. Follows (sent side lines))

  has_said : {V : Type 0} (hears : V → List HeardLine → V → Type 0) (v0 v1 : V) (a : Result HandshakeSize HandshakeFault) → IsOfInput a → Reads hears side left calls packets packet r0 r1 v0 v1 a → HasSaid hears v0 v1 a
  has_said hears v0 v1 (Ok x) of r =
      let all = after_read (kept_of r0) (kept_of r1) r.1.read (sent side r.0) input (left (source_of r0)) (left (source_of r1)) r.1.consumed r.1.joined known in record {
        lines = r.0;
        said = said_all side (IsAtEnd (left (source_of r1))) all.0 (λ e. subst IsAtEnd all.1 e) r.0 input (sent side r.0 ++ kept_of r1) all.2 (kept_of r1) refl r.2;
        heard_are = r.3;
        size = r.4;
        follows = (kept_of r1 ++ all.0, all.2 ∙ append_assoc (sent side r.0) (kept_of r1) all.0, ap (prepend_known (kept_of r1)) all.1, r.1.of_packets);
      }
  has_said hears v0 v1 (Err Memory) of r = absurd of
  has_said hears v0 v1 (Err Device) of r = absurd of
  has_said hears v0 v1 (Err (Refused at why)) of r =
      let all = after_read (kept_of r0) (kept_of r1) r.1.read r.0 input (left (source_of r0)) (left (source_of r1)) r.1.consumed r.1.joined known in record {
        lines = r.2.0;
        said = said_break side (IsAtEnd (left (source_of r1))) all.0 (λ e. subst IsAtEnd all.1 e) r.2.0 input (r.0 ++ kept_of r1) all.2 at why r.2.1;
        heard_are = r.2.2;
        size = tt;
        follows = tt;
      }

one_answer : (side : Side) (lines : List (List ℕ)) (a b : Result HandshakeSize HandshakeFault) → IsOfInput a → IsOfInput b → IfOk a (IsSize side lines) → IfOk b (IsSize side lines) → end_of a ≡ end_of b → a ≡ b
one_answer side lines (Ok x) (Ok y) i j h k e =
    let ls = h.0 ∙ sym k.0 in let bs = h.1 ∙ sym k.1 in λ t. Ok (record { lines = ls t; bytes = bs t })
one_answer side lines (Err (Refused at why)) (Err (Refused place because)) i j h k e =
    let is : ◌≡◌ {A = ℕ × HandshakeReason} (at, why) (place, because) = cc in λ t. Err (Refused (is t).0 (is t).1)
one_answer side lines (Ok x) (Err (Refused at why)) i j h k e = absurd cc
one_answer side lines (Err (Refused at why)) (Ok y) i j h k e = absurd cc
one_answer side lines (Err Memory) b i j h k e = absurd i
one_answer side lines (Err Device) b i j h k e = absurd i
one_answer side lines (Ok x) (Err Memory) i j h k e = absurd j
one_answer side lines (Ok x) (Err Device) i j h k e = absurd j
one_answer side lines (Err (Refused at why)) (Err Memory) i j h k e = absurd j
one_answer side lines (Err (Refused at why)) (Err Device) i j h k e = absurd j

module _ {R S : Type 0} (left : R → Option (List ℕ)) (calls : R → ℕ) (packets : R → Option Packets) (packet : R → Option Packet) (other_left : S → Option (List ℕ)) (other_calls : S → ℕ) (other_packets : S → Option Packets) (other_packet : S → Option Packet) where
  follow_alike : (input bytes : List ℕ) (r0 r1 : ReadAhead R) (s0 s1 : ReadAhead S) (side : Side) (known : left_in left r0 ≡ Some input) (known_too : left_in other_left s0 ≡ Some input)
      (a b : Result HandshakeSize HandshakeFault) → a ≡ b
      → IfOk a (λ x. Follows left calls packets packet side input r0 r1 known bytes) → IfOk b (λ x. Follows other_left other_calls other_packets other_packet side input s0 s1 known_too bytes)
      → IfOk a (λ x. GoesOnAlike left calls packets packet other_left other_calls other_packets other_packet input bytes r0 r1 s0 s1)
  follow_alike input bytes r0 r1 s0 s1 side known known_too (Ok x) (Ok y) e h k =
      ((h.0, h.1, h.2, k.2 ∙ ap Some (append_cancel_left bytes k.0 h.0 (sym k.1 ∙ h.1))), h.3, k.3)
  follow_alike input bytes r0 r1 s0 s1 side known known_too (Err f) b e h k = tt
  follow_alike input bytes r0 r1 s0 s1 side known known_too (Ok x) (Err f) e h k = absurd cc

  pub one_handshake : {V U : Type 0} (hears : V → List HeardLine → V → Type 0) (other_hears : U → List HeardLine → U → Type 0) → OneHandshake left calls packets packet other_left other_calls other_packets other_packet hears other_hears
  one_handshake hears other_hears side input r0 r1 s0 s1 v0 v1 u0 u1 a b known known_too i j reads read =
      let x = has_said left calls packets packet side input r0 r1 known hears v0 v1 a i reads in
      let y = has_said other_left other_calls other_packets other_packet side input s0 s1 known_too other_hears u0 u1 b j read in
      let one = one_said side x.lines y.lines input (end_of a) (end_of b) x.said y.said in
      let back = sym one.0 in
      let answer = one_answer side x.lines a b i j x.size (subst (λ (ls : List (List ℕ)). IfOk b (IsSize side ls)) back y.size) one.1 in (
        x.lines,
        answer,
        x.heard_are,
        subst (λ (ls : List (List ℕ)). other_hears u0 (heard side ls) u1) back y.heard_are,
        follow_alike input (sent side x.lines) r0 r1 s0 s1 side known known_too a b answer x.follows
            (subst (λ (ls : List (List ℕ)). IfOk b (λ z. Follows other_left other_calls other_packets other_packet side input s0 s1 known_too (sent side ls))) back y.follows),
      )

-- ---- calls with no visitor

abbrev erased : Result HandshakeSize HandshakeFault → Result (Unit {0}) HandshakeFault
erased (Ok x) = Ok tt
erased (Err e) = Err e

abbrev Unheard : Unit {0} → List HeardLine → Unit {0} → Type 0
Unheard old lines new = Unit {0}

module _ {R : Type 0} (left : R → Option (List ℕ)) (calls : R → ℕ) (packets : R → Option Packets) (packet : R → Option Packet) (side : Side) (r0 r1 : ReadAhead R) where
  as_read : (a : Result (Unit {0}) HandshakeFault) → IsOfInput a → Passes left calls packets packet side r0 r1 a
      → (b : Result HandshakeSize HandshakeFault) × IsOfInput b × Reads Unheard side left calls packets packet r0 r1 tt tt b × (erased b ≡ a)
  as_read (Ok x) of p =
      let lines = p.2.0 in
      (Ok (record { lines = length lines; bytes = length (sent side lines) }), tt, (lines, subst (Took left calls packets packet 1 r0 r1) p.2.2 p.1, p.2.1, tt, (refl, refl)), refl)
  as_read (Err Memory) of p = absurd of
  as_read (Err Device) of p = absurd of
  as_read (Err (Refused at why)) of p = (Err (Refused at why), tt, (p.0, p.1, (p.2.0, p.2.1, tt)), refl)

  read_ok : (P : Type 0) (a : Result (Unit {0}) HandshakeFault) (of : IsOfInput a) (p : Passes left calls packets packet side r0 r1 a) → IfOk (as_read a of p).0 (λ x. P) → IfOk a (λ x. P)
  unfolding as_read
  read_ok P (Ok x) of p h = h
  read_ok P (Err e) of p h = tt

module _ {R S : Type 0} (left : R → Option (List ℕ)) (calls : R → ℕ) (packets : R → Option Packets) (packet : R → Option Packet) (other_left : S → Option (List ℕ)) (other_calls : S → ℕ) (other_packets : S → Option Packets) (other_packet : S → Option Packet) where
  pub one_passing : OnePassing left calls packets packet other_left other_calls other_packets other_packet
  one_passing side input r0 r1 s0 s1 a b known known_too i j p q =
      let x = as_read left calls packets packet side r0 r1 a i p in
      let y = as_read other_left other_calls other_packets other_packet side s0 s1 b j q in
      let one = one_handshake left calls packets packet other_left other_calls other_packets other_packet Unheard Unheard side input r0 r1 s0 s1 tt tt tt tt x.0 y.0 known known_too x.1 y.1 x.2 y.2 in
      let bytes = sent side one.0 in
      let follows = read_ok left calls packets packet side r0 r1 (GoesOnAlike left calls packets packet other_left other_calls other_packets other_packet input bytes r0 r1 s0 s1) a i p one.4 in
      (sym x.3 ∙ ap erased one.1 ∙ y.3, with_bytes bytes a follows)
    where
      with_bytes : (bytes : List ℕ) (a : Result (Unit {0}) HandshakeFault) → IfOk a (λ x. GoesOnAlike left calls packets packet other_left other_calls other_packets other_packet input bytes r0 r1 s0 s1)
          → IfOk a (λ x. (l : List ℕ) × GoesOnAlike left calls packets packet other_left other_calls other_packets other_packet input l r0 r1 s0 s1)
      with_bytes bytes (Ok x) h = (bytes, h)
      with_bytes bytes (Err e) h = tt
