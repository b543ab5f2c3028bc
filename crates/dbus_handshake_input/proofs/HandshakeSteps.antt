-- The lines of a side that were read so far, and what is answered after them.
use Rattle.std.proofs.Common.{◌≡◌, ◌≢◌, inl, inr, ◌<◌, ◌≤◌, ◌+◌, ◌*◌, ℕ, Bool, true, false, eqb, List, [], ◌∷◌, ◌++◌, length, drop, get_or, Option, Ok, Err, refl, sym, ap, ◌∙◌, subst, arith, lit≤, append_assoc, append-nil, length-append}
use Rattle.std.specs.Prelude.{◌↔◌, ◌||◌}
use Rattle.std.specs.List.{AllByRecursion, flat_map}
use Rattle.std.specs.Io.KnownBytes.{IsAtEnd}
use Rattle.std.proofs.lemmas.Bool.{eq-eqb, eqb-true, false≢true}
use Rattle.std.proofs.lemmas.List.{flat_map_more}
use Rattle.dbus_device.specs.Packets.{Packets}
use Rattle.dbus_device.specs.declared.packet.Packet.{Packet}
use Rattle.dbus_auth_lines.specs.Cut.{IsLine}
use Rattle.dbus_auth_lines.specs.Lines.{ended}
use Rattle.dbus_handshake_input.specs.Ahead.{source_of, kept_of, Took, Rests}
use Rattle.dbus_handshake_input.specs.Handshakes.{greeting, sent, GoesOn, IsCommand, IsBegin, IsOk, HasOk, IsNoLine, BeginsNoMessage, MessagesFollow, begun, accepted, BreaksAfter, first_byte, no_line, too_many}
use Rattle.dbus_handshake_input.specs.Heard.{HeardLine, HearsSome, Reads, heard, heard_from, heard_line, ReadsLine, Says}
use Rattle.dbus_handshake_input.specs.Passing.{Greets, Passes, SeesMessages, placed}
use Rattle.dbus_handshake_input.specs.declared.fault.HandshakeFault.{HandshakeFault}
use Rattle.dbus_handshake_input.specs.declared.fault.HandshakeFault.TheVariants.{Memory, Device, Refused}
use Rattle.dbus_handshake_input.specs.declared.fault.HandshakeReason.{HandshakeReason}
use Rattle.dbus_handshake_input.specs.declared.fault.HandshakeReason.TheVariants as reason
use Rattle.dbus_handshake_input.specs.declared.lines.Said.TheVariants as says
use Rattle.dbus_handshake_input.specs.declared.size.HandshakeSize.{HandshakeSize}
use Rattle.dbus_handshake_input.specs.declared.side.Side.{Side}
use Rattle.dbus_handshake_input.specs.declared.side.Side.TheVariants.{Client, Server}
use Rattle.dbus_handshake_input.specs.declared.read_ahead.ReadAhead.{ReadAhead}
use Rattle.dbus_handshake_input.proofs.AheadSteps.{took_at_last, took_kept, took_more}
use Rattle.dbus_handshake_input.proofs.LineSteps.{took_same}

-- ---- one more line

all_end : (side : Side) (lines : List (List ℕ)) (line : List ℕ) → AllByRecursion (GoesOn side) lines → GoesOn side line → AllByRecursion (GoesOn side) (lines ++ line ∷ [])
all_end side [] line h g = (g, tt)
all_end side (l ∷ ls) line h g = (h.0, all_end side ls line h.1 g)

ok_before : (side : Side) (lines more : List (List ℕ)) → HasOk side lines → HasOk side (lines ++ more)
ok_before side [] more h = absurd h
ok_before side (l ∷ ls) more (inl h) = inl h
ok_before side (l ∷ ls) more (inr h) = inr (ok_before side ls more h)

ok_last : (side : Side) (lines : List (List ℕ)) (line : List ℕ) → IsOk side line → HasOk side (lines ++ line ∷ [])
ok_last side [] line h = inl h
ok_last side (l ∷ ls) line h = inr (ok_last side ls line h)

not_in : (side : Side) (lines : List (List ℕ)) (line : List ℕ) → (HasOk side lines → ⊥) → (IsOk side line → ⊥) → HasOk side (lines ++ line ∷ []) → ⊥
not_in side [] line none not (inl h) = not h
not_in side [] line none not (inr h) = h
not_in side (l ∷ ls) line none not (inl h) = none (inl h)
not_in side (l ∷ ls) line none not (inr h) = not_in side ls line (λ i. none (inr i)) not h

sent_more : (side : Side) (lines : List (List ℕ)) (line : List ℕ) → sent side lines ++ ended line ≡ sent side (lines ++ line ∷ [])
sent_more side lines line = flat_map_more ended (greeting side) lines line

sent_size : (side : Side) (lines : List (List ℕ)) (line : List ℕ) → length (sent side lines) + (length line + 2) ≡ length (sent side (lines ++ line ∷ []))
sent_size side lines line =
    let all = sym (ap length (sent_more side lines line)) ∙ length-append (sent side lines) (ended line) in
    let one = length-append line (13 ∷ 10 ∷ []) in
    omega (arith, all, one)

-- these lines were taken, after what comes before the lines of the side
pub record HasLines {R : Type 0} (left : R → Option (List ℕ)) (calls : R → ℕ) (packets : R → Option Packets) (packet : R → Option Packet) (side : Side) (old new : ReadAhead R) (lines : List (List ℕ)) (count start : ℕ) (is_accepted : Bool) : Type 0 where
  pub each : AllByRecursion (GoesOn side) lines
  pub count_is : length lines ≡ count
  pub start_is : start ≡ length (sent side lines)
  pub low : start ≤ 1 + 16384 * count
  pub took : Took left calls packets packet 0 old new (sent side lines)
  pub with_ok : is_accepted ≡ true → HasOk side lines
  pub without_ok : is_accepted ≡ false → HasOk side lines → ⊥

-- whether the server accepted, after a line
pub data AcceptedBy (side : Side) (line : List ℕ) (before after : Bool) : Type 0 where
  by_line : after ≡ true → IsOk side line → AcceptedBy side line before after
  as_before : after ≡ before → (IsOk side line → ⊥) → AcceptedBy side line before after

pub accepted_by : (side : Side) (line : List ℕ) (before ok : Bool) → (ok ≡ true) ↔ IsOk side line → AcceptedBy side line before (before || ok)
accepted_by side line true true h = by_line refl (h.0 refl)
accepted_by side line false true h = by_line refl (h.0 refl)
accepted_by side line true false h = as_before refl (λ o. absurd (let e = h.1 o in cc))
accepted_by side line false false h = as_before refl (λ o. absurd (let e = h.1 o in cc))

module _ {R : Type 0} (left : R → Option (List ℕ)) (calls : R → ℕ) (packets : R → Option Packets) (packet : R → Option Packet) (side : Side) where
  pub lines_begin : (old new : ReadAhead R) (start : ℕ) → Took left calls packets packet 0 old new (greeting side) → start ≡ length (greeting side) → HasLines left calls packets packet side old new [] 0 start false
  lines_begin old new start took is = record {
    each = tt;
    count_is = refl;
    start_is = is ∙ ap length (sym (append-nil (greeting side)));
    low = (let few = at_most_one side in omega (arith, is, few));
    took = subst (Took left calls packets packet 0 old new) (sym (append-nil (greeting side))) took;
    with_ok = λ e. absurd (cc);
    without_ok = λ e h. h;
  }
    where
      at_most_one : (s : Side) → length (greeting s) ≤ 1
      at_most_one Client = lit≤ tt
      at_most_one Server = lit≤ tt

  pub lines_same : (old mid new : ReadAhead R) (lines : List (List ℕ)) (count start : ℕ) (is_accepted : Bool) → HasLines left calls packets packet side old mid lines count start is_accepted → Took left calls packets packet 0 mid new []
      → HasLines left calls packets packet side old new lines count start is_accepted
  lines_same old mid new lines count start is_accepted h t = record {
    each = h.each;
    count_is = h.count_is;
    start_is = h.start_is;
    low = h.low;
    took = took_same left calls packets packet old mid new (sent side lines) h.took t;
    with_ok = h.with_ok;
    without_ok = h.without_ok;
  }

  took_line : (old mid new : ReadAhead R) (lines : List (List ℕ)) (count start : ℕ) (is_accepted : Bool) (line : List ℕ) (h : HasLines left calls packets packet side old mid lines count start is_accepted)
      → Took left calls packets packet 0 mid new (ended line) → Took left calls packets packet 0 old new (sent side (lines ++ line ∷ []))
  took_line old mid new lines count start is_accepted line h t =
      subst (Took left calls packets packet 0 old new) (sent_more side lines line) (took_more left calls packets packet old mid new (sent side lines) (ended line) h.took t)

  pub lines_more : (old mid new : ReadAhead R) (lines : List (List ℕ)) (count start : ℕ) (before after : Bool) (line : List ℕ) → HasLines left calls packets packet side old mid lines count start before
      → Took left calls packets packet 0 mid new (ended line) → IsLine line → IsCommand side line → (IsBegin side line → ⊥) → AcceptedBy side line before after
      → HasLines left calls packets packet side old new (lines ++ line ∷ []) (count + 1) (start + (length line + 2)) after
  lines_more old mid new lines count start before after line h t is_line command not_begin by = record {
    each = all_end side lines line h.each (record { is_line = is_line; command = command; not_begin = not_begin });
    count_is = length-append lines (line ∷ []) ∙ ap (λ n. n + 1) h.count_is;
    start_is = ap (λ n. n + (length line + 2)) h.start_is ∙ sent_size side lines line;
    low = (let low = h.low in let short = is_line.short in omega (arith, low, short));
    took = took_line old mid new lines count start before line h t;
    with_ok = has by;
    without_ok = has_not by;
  }
    where
      has : AcceptedBy side line before after → after ≡ true → HasOk side (lines ++ line ∷ [])
      has (by_line e ok) f = ok_last side lines line ok
      has (as_before e not) f = ok_before side lines (line ∷ []) (h.with_ok (sym e ∙ f))

      has_not : AcceptedBy side line before after → after ≡ false → HasOk side (lines ++ line ∷ []) → ⊥
      has_not (by_line e ok) f = absurd (cc)
      has_not (as_before e not) f = not_in side lines line (h.without_ok (sym e ∙ f)) not

  -- what begins no message follows these, whatever is read after the bytes that are kept
  no_messages : (old mid : ReadAhead R) (lines : List (List ℕ)) (count start : ℕ) (is_accepted : Bool) (later : List ℕ) (h : HasLines left calls packets packet side old mid lines count start is_accepted)
      → SeesMessages left is_accepted mid (Ok false) → HasOk side lines → BeginsNoMessage (kept_of mid ++ later)
  no_messages old mid lines count start is_accepted later h (inl e) ok = absurd (h.without_ok e ok)
  no_messages old mid lines count start is_accepted later h (inr next) ok =
      subst BeginsNoMessage (sym (ap (λ l. l ++ later) next.kept_is)) (next.not_little, next.not_big)

-- ---- what was heard

heard_end : (side : Side) (offset : ℕ) (lines : List (List ℕ)) (line : List ℕ)
    → heard_from side offset (lines ++ line ∷ []) ≡ heard_from side offset lines ++ heard_line side (offset + length (flat_map ended lines)) line ∷ []
heard_end side offset [] line = ap (λ n. heard_line side n line ∷ []) (omega arith)
heard_end side offset (l ∷ ls) line =
    let size = length-append (ended l) (flat_map ended ls) in
    let place : (offset + length (ended l)) + length (flat_map ended ls) ≡ offset + length (flat_map ended (l ∷ ls)) = omega (arith, size) in
    ap (λ more. heard_line side offset l ∷ more)
    (heard_end side (offset + length (ended l)) ls line
    ∙ ap (λ n. heard_from side (offset + length (ended l)) ls ++ heard_line side n line ∷ []) place)

-- these lines were taken, and heard
pub record HeardLines {R V : Type 0} (left : R → Option (List ℕ)) (calls : R → ℕ) (packets : R → Option Packets) (packet : R → Option Packet) (hears : V → List HeardLine → V → Type 0) (side : Side) (old new : ReadAhead R) (before after : V)
    (count start : ℕ) (is_accepted : Bool) : Type 0 where
  pub lines : List (List ℕ)
  pub taken : HasLines left calls packets packet side old new lines count start is_accepted
  pub heard_are : hears before (heard side lines) after

module _ {R V : Type 0} (left : R → Option (List ℕ)) (calls : R → ℕ) (packets : R → Option Packets) (packet : R → Option Packet) (hears : V → List HeardLine → V → Type 0) (side : Side) where
  pub heard_begin : (nothing : (a : V) → hears a [] a) (old new : ReadAhead R) (v : V) (start : ℕ) → Took left calls packets packet 0 old new (greeting side) → start ≡ length (greeting side)
      → HeardLines left calls packets packet hears side old new v v 0 start false
  heard_begin nothing old new v start took is = record { lines = []; taken = lines_begin left calls packets packet side old new start took is; heard_are = nothing v }

  pub heard_same : (old mid new : ReadAhead R) (v w : V) (count start : ℕ) (is_accepted : Bool) → HeardLines left calls packets packet hears side old mid v w count start is_accepted
      → Took left calls packets packet 0 mid new [] → HeardLines left calls packets packet hears side old new v w count start is_accepted
  heard_same old mid new v w count start is_accepted h t =
      record { lines = h.lines; taken = lines_same left calls packets packet side old mid new h.lines count start is_accepted h.taken t; heard_are = h.heard_are }

  module _ (joins : (a b c : V) (s t : List HeardLine) → hears a s b → hears b t c → hears a (s ++ t) c) where
    one_more : (lines : List (List ℕ)) (line : List ℕ) (u v w : V) (start : ℕ) → start ≡ length (sent side lines) → hears u (heard side lines) v
        → hears v (heard_line side start line ∷ []) w → hears u (heard side (lines ++ line ∷ [])) w
    one_more lines line u v w start is before one =
        let place : start ≡ length (greeting side) + length (flat_map ended lines) = is ∙ length-append (greeting side) (flat_map ended lines) in
        subst (λ (l : List HeardLine). hears u l w)
        (ap (λ n. heard side lines ++ heard_line side n line ∷ []) place ∙ sym (heard_end side (length (greeting side)) lines line))
        (joins u v w (heard side lines) (heard_line side start line ∷ []) before one)

    pub heard_more : (old mid new : ReadAhead R) (u v w : V) (count start : ℕ) (before after : Bool) (line : List ℕ) → HeardLines left calls packets packet hears side old mid u v count start before
        → Took left calls packets packet 0 mid new (ended line) → IsLine line → Says side line (says.GoesOn after) → hears v (heard_line side start line ∷ []) w
        → HeardLines left calls packets packet hears side old new u w (count + 1) (start + (length line + 2)) (before || after)
    heard_more old mid new u v w count start before after line h t is_line said one = record {
      lines = h.lines ++ line ∷ [];
      taken = lines_more left calls packets packet side old mid new h.lines count start before (before || after) line h.taken t is_line said.0 said.1 (accepted_by side line before after said.2);
      heard_are = one_more h.lines line u v w start h.taken.start_is h.heard_are one;
    }

    pub reads_begun : (old mid new : ReadAhead R) (u v w : V) (count start : ℕ) (is_accepted : Bool) (line : List ℕ) (size : HandshakeSize)
        → HeardLines left calls packets packet hears side old mid u v count start is_accepted → count < 1024 → Took left calls packets packet 0 mid new (ended line) → IsLine line → IsBegin side line
        → hears v (heard_line side start line ∷ []) w → size.lines ≡ count + 1 → size.bytes ≡ start + (length line + 2) → Reads hears side left calls packets packet old new u w (Ok size)
    reads_begun old mid new u v w count start is_accepted line size h few t is_line last one lines_are bytes_are = (
      h.lines ++ line ∷ [],
      took_at_last left calls packets packet old new (sent side (h.lines ++ line ∷ [])) (took_line left calls packets packet side old mid new h.lines count start is_accepted line h.taken t),
      begun h.lines line h.taken.each is_line last refl (let n = h.taken.count_is in let all = length-append h.lines (line ∷ []) in omega (arith, n, few, all)),
      one_more h.lines line u v w start h.taken.start_is h.heard_are one,
      (
        lines_are ∙ sym (length-append h.lines (line ∷ []) ∙ ap (λ n. n + 1) h.taken.count_is),
        bytes_are ∙ ap (λ n. n + (length line + 2)) h.taken.start_is ∙ sent_size side h.lines line,
      ),
    )

  pub reads_accepted : (old mid new : ReadAhead R) (v w : V) (count start : ℕ) (is_accepted : Bool) (size : HandshakeSize)
      → HeardLines left calls packets packet hears side old mid v w count start is_accepted → count ≤ 1024 → Took left calls packets packet 1 mid new [] → SeesMessages left is_accepted new (Ok true)
      → size.lines ≡ count → size.bytes ≡ start → Reads hears side left calls packets packet old new v w (Ok size)
  reads_accepted old mid new v w count start is_accepted size h few t sees lines_are bytes_are = (
    h.lines,
    took_same left calls packets packet old mid new (sent side h.lines) h.taken.took t,
    accepted h.taken.each (h.taken.with_ok sees.0) sees.1 (let n = h.taken.count_is in omega (arith, n, few)),
    h.heard_are,
    (lines_are ∙ sym h.taken.count_is, bytes_are ∙ h.taken.start_is),
  )

  refuses_line : (old mid new : ReadAhead R) (v w : V) (count start : ℕ) (is_accepted : Bool) (bytes : List ℕ) (at place : ℕ) (why : HandshakeReason)
      → HeardLines left calls packets packet hears side old mid v w count start is_accepted → count < 1024 → SeesMessages left is_accepted mid (Ok false) → Took left calls packets packet 1 mid new bytes
      → IsNoLine side (bytes ++ kept_of new) (IsAtEnd (left (source_of new))) at why → place ≡ start + at → Reads hears side left calls packets packet old new v w (Err (Refused place why))
  refuses_line old mid new v w count start is_accepted bytes at place why h few sees t none is = (
    sent side h.lines ++ bytes,
    took_more left calls packets packet old mid new (sent side h.lines) bytes h.taken.took t,
    (
      h.lines,
      no_line (bytes ++ kept_of new) at h.taken.each (let n = h.taken.count_is in omega (arith, n, few))
          (λ ok. subst BeginsNoMessage t.joined (no_messages left calls packets packet side old mid h.lines count start is_accepted t.read h.taken sees ok))
          (append_assoc (sent side h.lines) bytes (kept_of new)) none (is ∙ ap (λ n. n + at) h.taken.start_is),
      h.heard_are,
    ),
  )

  pub stops : (old mid new : ReadAhead R) (v w : V) (count start : ℕ) (is_accepted : Bool) (bytes : List ℕ) → HeardLines left calls packets packet hears side old mid v w count start is_accepted
      → Took left calls packets packet 1 mid new bytes → (all : List ℕ) × Took left calls packets packet 1 old new all × HearsSome hears side all v w
  stops old mid new v w count start is_accepted bytes h t = (
    sent side h.lines ++ bytes,
    took_more left calls packets packet old mid new (sent side h.lines) bytes h.taken.took t,
    record { lines = h.lines; each = h.taken.each; front = inr (bytes, refl); heard_are = h.heard_are },
  )

  pub refuses_read : (Z : Type 0) (old mid new : ReadAhead R) (v w : V) (count start : ℕ) (is_accepted : Bool) (fault : HandshakeFault)
      → HeardLines left calls packets packet hears side old mid v w count start is_accepted → count < 1024 → SeesMessages left is_accepted mid (Ok false)
      → ReadsLine {Z = Z} left calls packets packet side mid new (Err fault) → Reads hears side left calls packets packet old new v w (Err (placed start fault))
  refuses_read Z old mid new v w count start is_accepted Memory h few sees r = stops old mid new v w count start is_accepted r.0 h r.1
  refuses_read Z old mid new v w count start is_accepted Device h few sees r = stops old mid new v w count start is_accepted r.0 h r.1
  refuses_read Z old mid new v w count start is_accepted (Refused at why) h few sees r =
      refuses_line old mid new v w count start is_accepted r.0 at (start + at) why h few sees r.1 r.2 refl

  pub refuses_command : (old mid new : ReadAhead R) (v w : V) (count start : ℕ) (is_accepted : Bool) (line : List ℕ)
      → HeardLines left calls packets packet hears side old mid v w count start is_accepted → count < 1024 → SeesMessages left is_accepted mid (Ok false) → Took left calls packets packet 0 mid new (ended line)
      → IsLine line → (IsCommand side line → ⊥) → Reads hears side left calls packets packet old new v w (Err (Refused start reason.NoCommand))
  refuses_command old mid new v w count start is_accepted line h few sees t is_line none =
      refuses_line old mid new v w count start is_accepted (ended line) 0 start reason.NoCommand h few sees (took_at_last left calls packets packet mid new (ended line) t) (line, kept_of new, refl, is_line, none, refl) (omega arith)

  pub refuses_many : (old new : ReadAhead R) (v w : V) (start : ℕ) (is_accepted : Bool) → HeardLines left calls packets packet hears side old new v w 1024 start is_accepted
      → SeesMessages left is_accepted new (Ok false) → Reads hears side left calls packets packet old new v w (Err (Refused start reason.TooManyLines))
  refuses_many old new v w start is_accepted h sees = (
    sent side h.lines,
    took_at_last left calls packets packet old new (sent side h.lines) h.taken.took,
    (
      h.lines,
      too_many (kept_of new) h.taken.each h.taken.count_is
          (λ ok. subst BeginsNoMessage (append-nil (kept_of new)) (no_messages left calls packets packet side old new h.lines 1024 start is_accepted [] h.taken sees ok))
          refl h.taken.start_is refl,
      h.heard_are,
    ),
  )

  pub greets_no : (nothing : (a : V) → hears a [] a) (old new : ReadAhead R) (v : V) (fault : HandshakeFault) → Greets left calls packets packet side old new (Err fault)
      → Reads hears side left calls packets packet old new v v (Err fault)
  greets_no nothing old new v Memory h = absurd h
  greets_no nothing old new v Device h = ([], h, record { lines = []; each = tt; front = inl refl; heard_are = nothing v })
  greets_no nothing old new v (Refused at why) h = ([], h.0, ([], h.1, nothing v))

  -- what holds of it without its visitor
  pub passes_by : (old new : ReadAhead R) (v w : V) (x : Unit {0}) (size : HandshakeSize) → Reads hears side left calls packets packet old new v w (Ok size) → Passes left calls packets packet side old new (Ok x)
  passes_by old new v w x size r = (sent side r.0, r.1, (r.0, r.2, refl))

  pub passes_not : (old new : ReadAhead R) (v w : V) (fault : HandshakeFault) → Reads hears side left calls packets packet old new v w (Err fault) → Passes left calls packets packet side old new (Err fault)
  passes_not old new v w Memory r = (r.0, r.1)
  passes_not old new v w Device r = (r.0, r.1)
  passes_not old new v w (Refused at why) r = (r.0, r.1, (r.2.0, r.2.1))

-- the first byte of a client is another one than 0
pub refuses_first : {R : Type 0} (left : R → Option (List ℕ)) (calls : R → ℕ) (packets : R → Option Packets) (packet : R → Option Packet) (side : Side) (old new : ReadAhead R) (kept : List ℕ) (fault : HandshakeFault) → side ≡ Client
    → fault ≡ Refused 0 reason.FirstByte → Took left calls packets packet 0 old new [] → kept ≡ kept_of new → get_or kept 0 0 ≢ 0 → Greets left calls packets packet side old new (Err fault)
refuses_first {R = R} left calls packets packet side old new kept fault is e took same other = subst (λ (f : HandshakeFault). Greets left calls packets packet side old new (Err f)) (sym e) (took_at_last left calls packets packet old new [] took, by_kept kept same other)
  where
    by_kept : (k : List ℕ) → k ≡ kept_of new → get_or k 0 0 ≢ 0 → BreaksAfter side [] (kept_of new) (IsAtEnd (left (source_of new))) 0 reason.FirstByte
    by_kept [] s o = absurd (o refl)
    by_kept (b ∷ more) s o = first_byte b more is refl (sym s) o refl refl

-- it is 0, and was taken
pub greets_client : {R : Type 0} (left : R → Option (List ℕ)) (calls : R → ℕ) (packets : R → Option Packets) (packet : R → Option Packet) (side : Side) (old mid new : ReadAhead R) (kept : List ℕ) → side ≡ Client
    → Took left calls packets packet 0 old mid [] → kept ≡ kept_of mid → kept_of mid ≢ [] → get_or kept 0 0 ≡ 0 → kept_of new ≡ drop 1 (kept_of mid) → Rests mid new → Greets left calls packets packet side old new (Ok 1)
greets_client {R = R} left calls packets packet side old mid new kept is took same some first rest rests =
    subst (λ (s : Side). Greets left calls packets packet s old new (Ok 1)) (sym is)
    (took_more left calls packets packet old mid new [] (0 ∷ []) took (took_kept left calls packets packet mid new (0 ∷ []) rests (by_kept kept same first)), refl)
  where
    by_kept : (k : List ℕ) → k ≡ kept_of mid → get_or k 0 0 ≡ 0 → kept_of mid ≡ (0 ∷ []) ++ kept_of new
    by_kept [] s e = absurd (some (sym s))
    by_kept (b ∷ more) s e = sym s ∙ ap (λ (n : ℕ). n ∷ more) e ∙ ap (λ (l : List ℕ). 0 ∷ l) (ap (drop 1) s ∙ sym rest)

-- the next byte begins a message, or a line
module _ {R : Type 0} (left : R → Option (List ℕ)) (is_ok : Bool) (new : ReadAhead R) (kept : List ℕ) (after_ok : is_ok ≡ true) (same : kept ≡ kept_of new) where
  pub sees_little : get_or kept 0 0 ≡ 108 → SeesMessages left is_ok new (Ok (eqb (get_or kept 0 0) 108))
  sees_little first = subst (λ b. SeesMessages left is_ok new (Ok b)) (sym (eq-eqb (get_or kept 0 0) 108 first)) (by_kept kept same first)
    where
      by_kept : (k : List ℕ) → k ≡ kept_of new → get_or k 0 0 ≡ 108 → SeesMessages left is_ok new (Ok true)
      by_kept [] s e = absurd (omega (arith, e))
      by_kept (b ∷ more) s e = (after_ok, subst (λ (l : List ℕ). MessagesFollow l (IsAtEnd (left (source_of new)))) s (inl e))

  pub sees_other : get_or kept 0 0 ≢ 108 → kept_of new ≢ [] → SeesMessages left is_ok new (Ok (eqb (get_or kept 0 0) 66))
  sees_other other some = by_kept kept same other (eqb (get_or kept 0 0) 66) refl
    where
      by_kept : (k : List ℕ) → k ≡ kept_of new → get_or k 0 0 ≢ 108 → (said : Bool) → eqb (get_or k 0 0) 66 ≡ said → SeesMessages left is_ok new (Ok said)
      by_kept [] s o said is = absurd (some (sym s))
      by_kept (b ∷ more) s o true is = (after_ok, subst (λ (l : List ℕ). MessagesFollow l (IsAtEnd (left (source_of new)))) s (inr (eqb-true b 66 is)))
      by_kept (b ∷ more) s o false is = inr (record { next = b; more = more; kept_is = sym s; not_little = o; not_big = λ e. false≢true (sym is ∙ eq-eqb b 66 e) })
