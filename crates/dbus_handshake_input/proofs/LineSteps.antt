-- One line that is cut out of what a source gives, and what it says.
use Rattle.std.proofs.Common.{true, false, ◌≡◌, ◌≢◌, inl, inr, ◌<◌, ◌≤◌, ◌+◌, ℕ, List, [], ◌∷◌, ◌++◌, length, take, drop, Option, None, Some, Result, Ok, Err, refl, sym, ap, ◌∙◌, subst, arith, lit≤, append-nil, length-append}
use Rattle.std.specs.Prelude.{Vec}
use Rattle.std.specs.Io.KnownBytes.{IsAtEnd}
use Rattle.std.proofs.lemmas.List.{take_at, take_all, take-append-drop}
use Rattle.std.proofs.Math.Seq.{take-append-add}
use Rattle.dbus_device.specs.Packets.{Packets}
use Rattle.dbus_device.specs.declared.packet.Packet.{Packet}
use Rattle.dbus_auth_lines.specs.ClientCommands.{ClientCommand}
use Rattle.dbus_auth_lines.specs.ClientCommands as client
use Rattle.dbus_auth_lines.specs.ServerCommands.{ServerCommand}
use Rattle.dbus_auth_lines.specs.ServerCommands as server
use Rattle.dbus_auth_lines.specs.Cut.{IsLine, TooLong, BadByte, Beginning, WholeLine, Faulty, Unfinished, BeginsAs, IsUnfinished, within_line, IsBadByte}
use Rattle.dbus_auth_lines.specs.CutterViews.{CutterState, Takes}
use Rattle.dbus_auth_lines.specs.LineForms.{IsClientLine, IsServerLine, MeansToServer, MeansToClient}
use Rattle.dbus_auth_lines.specs.Lines.{ended}
use Rattle.dbus_auth_lines.specs.declared.cutter.LineFault.{LineFault}
use Rattle.dbus_auth_lines.specs.declared.cutter.LineFault.TheVariants as line_fault
use Rattle.dbus_auth_lines.proofs.FirstLines.{some_beginning}
use Rattle.dbus_auth_lines.proofs.Meanings.{client_row_means, server_row_means}
use Rattle.dbus_handshake_input.specs.Ahead.{source_of, kept_of, Rests, Took}
use Rattle.dbus_handshake_input.specs.Heard.{HeardLine, HearsLine, heard_line, ReadsLine, Says, client_says, is_nothing, server_says, refusal_of}
use Rattle.dbus_handshake_input.specs.declared.lines.Said.{Said}
use Rattle.dbus_handshake_input.specs.declared.lines.Said.TheVariants as says
use Rattle.dbus_handshake_input.specs.declared.fault.HandshakeFault.TheVariants.{Refused}
use Rattle.dbus_handshake_input.specs.declared.fault.HandshakeReason.TheVariants.{Truncated}
use Rattle.dbus_handshake_input.specs.declared.side.Side.{Side}
use Rattle.dbus_handshake_input.specs.declared.side.Side.TheVariants.{Client, Server}
use Rattle.dbus_handshake_input.specs.declared.read_ahead.ReadAhead.{ReadAhead}
use Rattle.dbus_handshake_input.proofs.AheadSteps.{took_nothing, took_at_last, took_kept, took_more}

-- ---- what a line says

says_more : (line : List ℕ) (c : ClientCommand) → IsClientLine line c → c ≢ client.Begin → Says Client line (says.GoesOn false)
says_more line c h other = ((c, h), λ b. other (sym (client_row_means line c h) ∙ client_row_means line client.Begin b), (λ e. absurd (cc), λ o. absurd o))

pub client_says_so : (line : List ℕ) (c : ClientCommand) → MeansToServer line c → Says Client line (client_says c)
client_says_so line client.Auth (inl h) = says_more line client.Auth h (λ e. cc)
client_says_so line (client.AuthBy mech response) (inl h) = says_more line (client.AuthBy mech response) h (λ e. cc)
client_says_so line client.Cancel (inl h) = says_more line client.Cancel h (λ e. cc)
client_says_so line client.Begin (inl h) = h
client_says_so line (client.DataOf bytes) (inl h) = says_more line (client.DataOf bytes) h (λ e. cc)
client_says_so line (client.Error text) (inl h) = says_more line (client.Error text) h (λ e. cc)
client_says_so line client.Negotiate (inl h) = says_more line client.Negotiate h (λ e. cc)
client_says_so line client.Other (inl h) = absurd h
client_says_so line c (inr h) =
    subst (λ (d : ClientCommand). Says Client line (client_says d)) (sym h.0) (λ command. h.1 command.0 command.1)

says_more_to_client : (line : List ℕ) (c : ServerCommand) → IsServerLine line c → ((guid : List ℕ) → c ≢ server.Accepted guid) → Says Server line (says.GoesOn false)
says_more_to_client line c h other =
    ((c, h), λ b. b, (λ e. absurd (cc), λ o. absurd (other o.0 (sym (server_row_means line c h) ∙ server_row_means line (server.Accepted o.0) o.1))))

pub server_says_so : (line : List ℕ) (c : ServerCommand) → MeansToClient line c → Says Server line (server_says c)
server_says_so line (server.Rejected words) (inl h) = says_more_to_client line (server.Rejected words) h (λ guid e. cc)
server_says_so line (server.Accepted guid) (inl h) = ((server.Accepted guid, h), λ b. b, (λ e. (guid, h), λ o. refl))
server_says_so line (server.DataOf bytes) (inl h) = says_more_to_client line (server.DataOf bytes) h (λ guid e. cc)
server_says_so line (server.Error text) (inl h) = says_more_to_client line (server.Error text) h (λ guid e. cc)
server_says_so line server.Agree (inl h) = says_more_to_client line server.Agree h (λ guid e. cc)
server_says_so line server.Other (inl h) = absurd h
server_says_so line c (inr h) =
    subst (λ (d : ServerCommand). Says Server line (server_says d)) (sym h.0) (λ command. h.1 command.0 command.1)

-- what a visitor heard that had the line unless it is no command
pub hears_so : {V : Type 0} (E : Type 0) (hears : V → List HeardLine → V → Type 0) (side : Side) (offset : ℕ) (line : List ℕ) (old new : V) (said : Said) → Says side line said
    → (is_nothing said ≡ false → hears old (heard_line side offset line ∷ []) new) → (is_nothing said ≡ true → new ≡ old)
    → HearsLine hears side {E = E} offset line old new (Ok said)
hears_so E hears side offset line old new says.Begin h some none = (h, some refl)
hears_so E hears side offset line old new (says.GoesOn is_ok) h some none = (h, some refl)
hears_so E hears side offset line old new says.Nothing h some none = (h, none refl)

pub hears_as : {V : Type 0} (E : Type 0) (hears : V → List HeardLine → V → Type 0) (side : Side) (offset : ℕ) (slice line : List ℕ) (old new : V) (result said : Result Said E)
    → slice ≡ line → result ≡ said → HearsLine hears side offset slice old new result → HearsLine hears side offset line old new said
hears_as E hears side offset slice line old new result said same is h =
    subst (λ r. HearsLine hears side {E = E} offset line old new r) is (subst (λ l. HearsLine hears side {E = E} offset l old new result) same h)

-- ---- a line that is cut

pub some_kept : (k : List ℕ) → k ≢ [] → 0 < length k
some_kept [] h = absurd (h refl)
some_kept (b ∷ bs) h = omega arith

pub no_bytes : IsUnfinished []
no_bytes = within_line (record { plain = tt; short = lit≤ tt })

-- what the cutter answers, however the bytes begin
abbrev pub Answers : (Z : Type 0) → CutterState → List ℕ → Result (ℕ × Option (Vec ℕ Z)) LineFault → CutterState → Type 0
Answers Z state piece result after = state.fault ≡ None → (b : Beginning) → BeginsAs (state.kept ++ piece) b → Takes state.kept piece result after b

-- a line was cut off
pub record CutsLine (kept piece line : List ℕ) (count : ℕ) : Type 0 where
  pub is_line : IsLine line
  pub joined : kept ++ take count piece ≡ ended line
  pub within : count ≤ length piece

-- all was taken
pub record CutsNone (kept piece : List ℕ) (count : ℕ) (after : CutterState) : Type 0 where
  pub unfinished : IsUnfinished (kept ++ piece)
  pub all : count ≡ length piece
  pub state : after ≡ record { kept = kept ++ piece; fault = None }

front_is : (kept piece line more : List ℕ) (count : ℕ) → kept ++ piece ≡ ended line ++ more → count + length kept ≡ length line + 2 → kept ++ take count piece ≡ ended line
front_is kept piece line more count e n =
    let size : length kept + count ≡ length (ended line) = omega (arith, n, length-append line (13 ∷ 10 ∷ [])) in
    sym (take-append-add kept piece count) ∙ ap (take (length kept + count)) e ∙ ap (λ m. take m (ended line ++ more)) size ∙ take_at (ended line) more (length (ended line)) refl

fits : (kept piece line more : List ℕ) (count : ℕ) → kept ++ piece ≡ ended line ++ more → count + length kept ≡ length line + 2 → count ≤ length piece
fits kept piece line more count e n =
    let all = sym (length-append kept piece) ∙ ap length e ∙ length-append (ended line) more in
    omega (arith, all, n, length-append line (13 ∷ 10 ∷ []))

pub cuts_line : (Z : Type 0) (state : CutterState) (piece : List ℕ) (given : Option (Vec ℕ Z)) (line : Vec ℕ Z) (count : ℕ) (after : CutterState) → state.fault ≡ None
    → given ≡ Some line → Answers Z state piece (Ok (count, given)) after → CutsLine state.kept piece line.items count
cuts_line Z state piece given line count after none is answers =
    let h = some_beginning (state.kept ++ piece) in
    by_beginning h.0 h.1 (subst (λ (o : Option (Vec ℕ Z)). Takes {Z = Z} state.kept piece (Ok (count, o)) after h.0) is (answers none h.0 h.1))
  where
    by_beginning : (b : Beginning) → BeginsAs (state.kept ++ piece) b → Takes {Z = Z} state.kept piece (Ok (count, Some line)) after b → CutsLine state.kept piece line.items count
    by_beginning (WholeLine l) g t = record {
      is_line = subst IsLine (sym t.1) g.0;
      joined = front_is state.kept piece l g.1.0 count g.1.1 t.0 ∙ ap ended (sym t.1);
      within = fits state.kept piece l g.1.0 count g.1.1 t.0;
    }
    by_beginning Unfinished g t = absurd (let e = t.1 in cc)
    by_beginning (Faulty f) g t = absurd (let e = t.0 in cc)

pub cuts_none : (Z : Type 0) (state : CutterState) (piece : List ℕ) (given : Option (Vec ℕ Z)) (count : ℕ) (after : CutterState) → state.fault ≡ None → given ≡ None
    → Answers Z state piece (Ok (count, given)) after → CutsNone state.kept piece count after
cuts_none Z state piece given count after none is answers =
    let h = some_beginning (state.kept ++ piece) in
    by_beginning h.0 h.1 (subst (λ (o : Option (Vec ℕ Z)). Takes {Z = Z} state.kept piece (Ok (count, o)) after h.0) is (answers none h.0 h.1))
  where
    by_beginning : (b : Beginning) → BeginsAs (state.kept ++ piece) b → Takes {Z = Z} state.kept piece (Ok (count, None)) after b → CutsNone state.kept piece count after
    by_beginning (WholeLine l) g t = absurd t.1
    by_beginning Unfinished g t = record { unfinished = g; all = t.0; state = t.2 }
    by_beginning (Faulty f) g t = absurd (let e = t.0 in cc)

-- ---- what was read of a line so far

-- the bytes of an unfinished line were taken, and are in the cutter
pub record HasPart {R : Type 0} (left : R → Option (List ℕ)) (calls : R → ℕ) (packets : R → Option Packets) (packet : R → Option Packet) (old new : ReadAhead R) (state : CutterState) (size : ℕ) : Type 0 where
  pub unfinished : IsUnfinished state.kept
  pub no_fault : state.fault ≡ None
  pub size_is : size ≡ length state.kept
  pub took : Took left calls packets packet 0 old new state.kept

module _ {R : Type 0} (left : R → Option (List ℕ)) (calls : R → ℕ) (packets : R → Option Packets) (packet : R → Option Packet) where
  pub took_same : {idle : ℕ} (old mid new : ReadAhead R) (bytes : List ℕ) → Took left calls packets packet 0 old mid bytes → Took left calls packets packet idle mid new [] → Took left calls packets packet idle old new bytes
  took_same {idle = idle} old mid new bytes a b = subst (Took left calls packets packet idle old new) (append-nil bytes) (took_more left calls packets packet old mid new bytes [] a b)

  pub took_front : (old new : ReadAhead R) (count : ℕ) → Rests old new → kept_of new ≡ drop count (kept_of old) → Took left calls packets packet 0 old new (take count (kept_of old))
  took_front old new count same rest =
      took_kept left calls packets packet old new (take count (kept_of old)) same (sym (take-append-drop count (kept_of old)) ∙ ap (λ l. take count (kept_of old) ++ l) (sym rest))

  pub part_begins : (s : ReadAhead R) (state : CutterState) → state ≡ record { kept = []; fault = None } → HasPart left calls packets packet s s state 0
  part_begins s state e = subst (λ (t : CutterState). HasPart left calls packets packet s s t 0) (sym e) (record { unfinished = no_bytes; no_fault = refl; size_is = refl; took = took_nothing left calls packets packet s })

  pub part_ends : (Z : Type 0) (side : Side) (old mid new : ReadAhead R) (state : CutterState) (size : ℕ) → HasPart left calls packets packet old mid state size → Took left calls packets packet 1 mid new []
      → kept_of new ≡ [] → IsAtEnd (left (source_of new)) → ReadsLine {Z = Z} left calls packets packet side old new (Err (Refused size Truncated))
  part_ends Z side old mid new state size h t none at_end =
      let all : state.kept ++ kept_of new ≡ state.kept = ap (λ l. state.kept ++ l) none ∙ append-nil state.kept in
      (state.kept, took_same old mid new state.kept h.took t, (subst IsUnfinished (sym all) h.unfinished, at_end, h.size_is ∙ ap length (sym all)))

  pub part_faulty : (Z : Type 0) (side : Side) (old mid new : ReadAhead R) (state after : CutterState) (size : ℕ) (fault : LineFault) → HasPart left calls packets packet old mid state size
      → Took left calls packets packet 0 mid new [] → Answers Z state (kept_of new) (Err fault) after → ReadsLine {Z = Z} left calls packets packet side old new (Err (refusal_of fault))
  part_faulty Z side old mid new state after size fault h t answers =
      let b = some_beginning (state.kept ++ kept_of new) in by_beginning b.0 b.1 fault (answers h.no_fault b.0 b.1)
    where
      took : Took left calls packets packet 1 old new state.kept
      took = took_at_last left calls packets packet old new state.kept (took_same old mid new state.kept h.took t)

      by_beginning : (b : Beginning) → BeginsAs (state.kept ++ kept_of new) b → (fault : LineFault) → Takes {Z = Z} state.kept (kept_of new) (Err fault) after b
          → ReadsLine {Z = Z} left calls packets packet side old new (Err (refusal_of fault))
      by_beginning b g line_fault.Memory e = (state.kept, took)
      by_beginning (Faulty TooLong) g line_fault.TooLong e = (state.kept, took, (g, refl))
      by_beginning (Faulty (BadByte at)) g (line_fault.BadByte place) e =
          let same : at ≡ place = let w = e.0 in cc in
          (state.kept, took, subst (IsBadByte (state.kept ++ kept_of new)) same g)
      by_beginning (Faulty (BadByte at)) g line_fault.TooLong e = absurd (let w = e.0 in cc)
      by_beginning (Faulty TooLong) g (line_fault.BadByte place) e = absurd (let w = e.0 in cc)
      by_beginning (WholeLine l) g line_fault.TooLong e = absurd (let w = e.0 in cc)
      by_beginning (WholeLine l) g (line_fault.BadByte place) e = absurd (let w = e.0 in cc)
      by_beginning Unfinished g line_fault.TooLong e = absurd (let w = e.0 in cc)
      by_beginning Unfinished g (line_fault.BadByte place) e = absurd (let w = e.0 in cc)

  pub part_whole : (old mid more new : ReadAhead R) (state : CutterState) (line : List ℕ) (size count : ℕ) → HasPart left calls packets packet old mid state size → Took left calls packets packet 0 mid more []
      → CutsLine state.kept (kept_of more) line count → Rests more new → kept_of new ≡ drop count (kept_of more) → Took left calls packets packet 0 old new (ended line)
  part_whole old mid more new state line size count h t cuts same rest =
      subst (Took left calls packets packet 0 old new) cuts.joined (took_more left calls packets packet old more new state.kept (take count (kept_of more)) (took_same old mid more state.kept h.took t)
      (took_front more new count same rest))

  pub part_goes_on : (old mid more new : ReadAhead R) (state after : CutterState) (size count : ℕ) → HasPart left calls packets packet old mid state size → Took left calls packets packet 0 mid more []
      → CutsNone state.kept (kept_of more) count after → Rests more new → kept_of new ≡ drop count (kept_of more) → HasPart left calls packets packet old new after (size + count)
  part_goes_on old mid more new state after size count h t cuts same rest =
      let size_is = h.size_is in
      let all = cuts.all in
      let front : take count (kept_of more) ≡ kept_of more = take_all count (kept_of more) (omega (arith, all)) in
      subst (λ (s : CutterState). HasPart left calls packets packet old new s (size + count)) (sym cuts.state) (record {
        unfinished = cuts.unfinished;
        no_fault = refl;
        size_is = omega (arith, size_is, all, length-append state.kept (kept_of more));
        took = subst (Took left calls packets packet 0 old new) (ap (λ l. state.kept ++ l) front)
            (took_more left calls packets packet old more new state.kept (take count (kept_of more)) (took_same old mid more state.kept h.took t) (took_front more new count same rest));
      })
