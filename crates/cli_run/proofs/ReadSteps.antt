-- What a reader read and gave so far, from where it stood. k is what is known of its taker, and
-- kept is what it kept there.
use Rattle.std.proofs.Common.{◌≡◌, ℕ, ◌+◌, ◌-◌, ◌<◌, ◌≤◌, List, [], ◌∷◌, ◌++◌, Bool, true, false, Option, length, take, drop, sym, ap, ◌∙◌, subst, refl, arith, append_assoc, append-nil, length-append, length-drop}
use Rattle.std.proofs.Math.Path.{transport}
use Rattle.std.proofs.Math.Seq.{take-length}
use Rattle.std.proofs.lemmas.List.{take-append-le}
use Rattle.std.specs.Io.KnownBytes.{IsAtEnd}
use Rattle.std.proofs.KnownBytes.{Consumes-nil, Consumes-trans}
use Rattle.dbus_value_model.specs.declared.limits.Limits.{Limits}
use Rattle.dbus_header.specs.MessageOutcomes.{IsWhole, IsPartial}
use Rattle.dbus_header.proofs.OutcomeLaws.{nothing_partial, whole_inside}
use Rattle.dbus_stream.specs.Cut.{CutMessage, BeginWith}
use Rattle.dbus_stream.specs.CutEnds.{sizes}
use Rattle.dbus_stream.specs.Next.{Reads, ReadsWhile}
use Rattle.dbus_stream.specs.Reading.{limits_of, source_of, is_ended}
use Rattle.dbus_stream.specs.Taking.{Taking}
use Rattle.dbus_stream.specs.declared.buffer.Buffer.{Ghosts}
use Rattle.dbus_stream.specs.declared.reader.Reader.{Reader}
use Rattle.dbus_stream.proofs.CutLaws.{BeginWith-last, BeginWith-more}
use Rattle.cli_run.specs.Needed.{IsUnshown, ReadsIf}
use Rattle.cli_run.specs.Onward.{HasRead, IsTrueEnd}
use Rattle.cli_run.proofs.NeededSteps.{reads_if, reads_then, whole_past}

pub sizes-last : (items : List CutMessage) (item : CutMessage) → sizes (items ++ item ∷ []) ≡ sizes items + item.size
sizes-last [] item = omega arith
sizes-last (x ∷ items) item = omega (arith, sizes-last items item)

pub length-last : (items : List CutMessage) (item : CutMessage) → length (items ++ item ∷ []) ≡ length items + 1
length-last [] item = omega arith
length-last (x ∷ items) item = omega (arith, length-last items item)

-- no more messages than bytes
pub length-sizes : (limits : Limits) (bytes : List ℕ) (items : List CutMessage) (rest : List ℕ) → BeginWith limits bytes items rest → length items ≤ sizes items
length-sizes limits bytes [] rest f = omega arith
length-sizes limits bytes (item ∷ items) rest f =
    omega (arith, length-sizes limits (drop item.size bytes) items rest f.1, (whole_inside limits bytes item.order item.message item.size f.0).0)

-- the messages and the rest have all bytes
begin_length : (limits : Limits) (bytes : List ℕ) (items : List CutMessage) (rest : List ℕ) → BeginWith limits bytes items rest → length bytes ≡ sizes items + length rest
begin_length limits bytes [] rest f = omega (arith, ap length f)
begin_length limits bytes (item ∷ items) rest f =
    let inside = (whole_inside limits bytes item.order item.message item.size f.0).1 in
    omega (arith, inside, begin_length limits (drop item.size bytes) items rest f.1, length-drop item.size bytes)

-- a read was made only for the messages
abbrev pub IsBefore : (kept : List ℕ) → List CutMessage → (came : ℕ) → Type 0
IsBefore kept items came = length kept + came < sizes items

module _ {R T B A G : Type 0} {b : Ghosts B} (k : Taking T G) (left : R → Option (List ℕ)) (calls : R → ℕ) (limits : Limits) (kept : List ℕ) where
  -- before the first read
  abbrev pub read_none : (reader : Reader R T B A b) → limits_of k reader ≡ limits → HasRead k left calls limits kept reader reader [] kept
  read_none reader within = record {
    bytes = [];
    count = 0;
    consumed = Consumes-nil (left (source_of reader));
    messages = append-nil kept;
    reads = omega arith;
    called = omega arith;
    most_reads = refl;
    limits_are = within;
    at_end = λ e. e;
    settled = λ e. (refl, e);
  }

  module _ (Needed : List ℕ → Type 0) where
    pub still_at_end : (mid new : Reader R T B A b) (ended : Bool) → is_ended mid ≡ ended → IsTrueEnd left mid → ReadsWhile k Needed left calls mid new → IsTrueEnd left new
    still_at_end mid new true e before r t = subst (λ s. IsAtEnd (left s)) (sym (r.settled e).3) (before e)
    still_at_end mid new false e before r t = r.at_end e t

    -- more was read
    abbrev pub read_on : (old mid new : Reader R T B A b) (items : List CutMessage) (rest : List ℕ) → HasRead k left calls limits kept old mid items rest → (r : ReadsWhile k Needed left calls mid new)
        → HasRead k left calls limits kept old new items (rest ++ r.bytes)
    read_on old mid new items rest h r = record {
      bytes = h.bytes ++ r.bytes;
      count = h.count + r.count;
      consumed = Consumes-trans _ _ _ _ _ h.consumed r.consumed;
      messages = subst (λ (l : List ℕ). BeginWith limits l items (rest ++ r.bytes)) (append_assoc kept h.bytes r.bytes) (BeginWith-more limits (kept ++ h.bytes) items rest r.bytes h.messages);
      reads = omega (arith, h.reads, r.reads);
      called = omega (arith, h.called, r.called);
      most_reads = r.most_reads ∙ h.most_reads;
      limits_are = r.limits ∙ h.limits_are;
      at_end = λ e. still_at_end mid new (is_ended mid) refl (h.at_end e) r;
      settled = λ e. (let before = h.settled e in let more = r.settled before.1 in ((λ i. before.0 i ++ more.0 i), more.2));
    }

  pub read_more : (old mid new : Reader R T B A b) (items : List CutMessage) (rest : List ℕ) → HasRead k left calls limits kept old mid items rest → (r : Reads k left calls rest mid new)
      → HasRead k left calls limits kept old new items (rest ++ r.bytes)
  read_more old mid new items rest h r = read_on (λ before. IsPartial (limits_of k mid) (rest ++ before)) old mid new items rest h r

  -- the rest begins with a message
  pub read_message : (old new : Reader R T B A b) (items : List CutMessage) (item : CutMessage) (w : List ℕ) → HasRead k left calls limits kept old new items w
      → IsWhole limits w item.order item.message item.size → HasRead k left calls limits kept old new (items ++ item ∷ []) (drop item.size w)
  read_message old new items item w h whole = record {
    bytes = h.bytes;
    count = h.count;
    consumed = h.consumed;
    messages = BeginWith-last limits (kept ++ h.bytes) items w item h.messages whole;
    reads = h.reads;
    called = h.called;
    most_reads = h.most_reads;
    limits_are = h.limits_are;
    at_end = h.at_end;
    settled = h.settled;
  }

  module _ (old mid new : Reader R T B A b) (items : List CutMessage) (rest : List ℕ)
      (h : HasRead k left calls limits kept old mid items rest)
      (r : Reads k left calls rest mid new)
      (few : ReadsIf left calls (IsBefore kept items) (source_of old) (source_of mid)) where
    abbrev Partial : List ℕ → Type 0
    Partial before = IsPartial (limits_of k mid) (rest ++ before)

    begun : length kept + length h.bytes ≡ sizes items + length rest
    begun =
        let all = begin_length limits (kept ++ h.bytes) items rest h.messages in
        omega (arith, all, length-append kept h.bytes)

    joined : rest ++ r.bytes ≡ (rest ++ r.before) ++ r.last
    joined = ap (λ (l : List ℕ). rest ++ l) r.joined ∙ sym (append_assoc rest r.before r.last)

    -- the rest shows no fault up to there
    abbrev Unshown : ℕ → Type 0
    Unshown n = IsPartial limits (take n (rest ++ r.bytes))

    front : take (length rest + length r.before) (rest ++ r.bytes) ≡ rest ++ r.before
    front =
        let w = rest ++ r.before in
        let size : length rest + length r.before ≡ length w = sym (length-append rest r.before) in
        let there = take-append-le (length w) w r.last (omega arith) in
        (λ i. take (size i) (joined i)) ∙ (there ∙ take-length w)

    -- or then for what follows them
    reads_next : (Then Holds : ℕ → Type 0) → (Partial r.before → Then (length r.before))
        → ((came : ℕ) → IsBefore kept items came → Holds came)
        → ((came : ℕ) → Then came → Holds (length h.bytes + came))
        → ReadsIf left calls Holds (source_of old) (source_of new)
    reads_next Then Holds last f g =
        reads_then left calls (IsBefore kept items) Then Holds (source_of old) (source_of mid)
        (source_of new) h.bytes h.consumed few
        (reads_if k Partial left calls mid new r Then last) f g

    -- that is one more message
    pub reads_more : (item : CutMessage)
        → IsWhole (limits_of k mid) (rest ++ r.bytes) item.order item.message item.size
        → ReadsIf left calls (IsBefore kept (items ++ item ∷ [])) (source_of old) (source_of new)
    reads_more item whole =
        let m = limits_of k mid in
        let all : IsWhole m ((rest ++ r.before) ++ r.last) item.order item.message item.size
        = subst (λ (l : List ℕ). IsWhole m l item.order item.message item.size) joined whole in
        reads_next (λ came. length rest + came < item.size) (IsBefore kept (items ++ item ∷ []))
        (λ partial.
        let past = whole_past m (rest ++ r.before) r.last _ _ item.size partial all in
        omega (arith, past, length-append rest r.before))
        (λ came less. omega (arith, less, sizes-last items item))
        (λ came less. omega (arith, less, begun, sizes-last items item))

    -- or it shows no fault before the last read
    pub reads_rest : ReadsIf left calls
        (λ came. IsUnshown limits (sizes items) (rest ++ r.bytes) (length kept + came))
        (source_of old) (source_of new)
    reads_rest =
        reads_next (λ came. (came ≤ length r.bytes) × Unshown (length rest + came))
        (λ came. IsUnshown limits (sizes items) (rest ++ r.bytes) (length kept + came))
        (λ partial. (
          omega (arith, ap length r.joined, length-append r.before r.last),
          transport (λ i. IsPartial (h.limits_are i) (sym front i)) partial,
        ))
        (λ came less.
        let none : length kept + came - sizes items ≡ 0 = omega (arith, less) in
        (omega (arith, less), subst Unshown (sym none) (nothing_partial limits)))
        (λ came p.
        let there : length kept + (length h.bytes + came) - sizes items ≡ length rest + came
        = omega (arith, begun) in
        (omega (arith, p.0, begun, length-append rest r.bytes), subst Unshown (sym there) p.1))
