-- What a capture does until it knows what the input is.
use borrow.Rule.Slice.PartMut.{put_mid}
use Rattle.std.proofs.Common.{◌≡◌, ◌≤◌, ◌<◌, ◌+◌, ◌-◌, ℕ, zero, suc, true, false, cond, List, [], ◌∷◌, ◌++◌, length, take, Option, None, Some, Result, Ok, Err, MatchResult, inl, inr, ◌⊎◌, is_some, refl, sym, ap, subst, ◌∙◌, arith, append_assoc, append-nil, length-append}
use Rattle.std.specs.Io.KnownBytes.{Consumes, Keeps, IsAtEnd, ReadConsumes, prepend_known}
use Rattle.std.proofs.KnownBytes.{Consumes-nil, Keeps-refl}
use Rattle.std.specs.List.{All}
use Rattle.std.specs.List.{slice_range}
use Rattle.std.proofs.lemmas.List.{length-take, take-append-le}
use Rattle.std.proofs.Math.Seq.{take-append-add}
use Rattle.std.proofs.lemmas.List.Elements.{All-cons, All-nil}
use Rattle.dbus_device.specs.Device.{ReadCounts}
use Rattle.dbus_device.specs.Calls.{joined, HasByte, ReadsPiece}
use Rattle.dbus_device.specs.Packets.{Packets, PacketsAfter, AreOfPacket, ReadsOfPacket}
use Rattle.dbus_capture.specs.Types.{DeviceFault, Packet, Stage, Scan}
use Rattle.dbus_device.proofs.CallLaws.{pieces_consumed}
use Rattle.dbus_capture.specs.declared.input.Input.{Input}
use Rattle.dbus_capture.specs.Stages.{begun}
use Rattle.dbus_capture.specs.Beginnings.{first_stage}
use Rattle.dbus_capture.specs.Captures.{source_of, scan_of, chosen_of, owed_of, kept_of, gave_up_of, failures_of, file_of, given_of, known, opened, opened_of, left_of, packets_by, packets_of, Fetches, Begins, Waits, ReadsInput}
use Rattle.dbus_capture.specs.Packets.{last_packet}
use Rattle.dbus_capture.proofs.Choices.{when_true, when_false}
use Rattle.dbus_capture.proofs.FirstLaws.{first_front}
use Rattle.dbus_capture.proofs.CaptureSteps.{consumes_by, rest_of, given_stopped, part_gives, part_fails}
use Rattle.dbus_capture.proofs.PacketSteps.{packets_rest, part_packets, of_none}

-- ---- what is known of the rest of the file

same_known : (a b : Option (List ℕ)) (bytes : List ℕ) → Consumes a b [] → a ≡ Some bytes → b ≡ Some bytes
same_known None b bytes c e = absurd cc
same_known (Some x) None bytes c e = absurd c
same_known (Some x) (Some y) bytes c e = ap (λ (l : List ℕ). Some l) (sym c) ∙ e

front_rest : (kept : List ℕ) (a : Option (List ℕ)) (bytes : List ℕ) → prepend_known kept a ≡ Some bytes → (rest : List ℕ) × (a ≡ Some rest) × (bytes ≡ kept ++ rest)
front_rest kept None bytes e = absurd cc
front_rest kept (Some rest) bytes e = let same : kept ++ rest ≡ bytes = cc in (rest, refl, sym same)

at_end : (a : Option (List ℕ)) (rest : List ℕ) → a ≡ Some rest → IsAtEnd a → rest ≡ []
at_end None rest e end = absurd cc
at_end (Some x) rest e end = let same : x ≡ rest = cc in sym same ∙ end

pub opened_chosen : {R : Type 0} (s : Input R) (bytes : List ℕ) → chosen_of s ≡ true → opened s bytes ≡ scan_of s
opened_chosen s bytes e = when_true _ _ _ e

opened_same : {R : Type 0} (s : Input R) (bytes more : List ℕ) → first_stage bytes ≡ first_stage more → opened s bytes ≡ opened s more
opened_same s bytes more e = ap (λ (t : Stage). cond s.chosen s.scan (record s.scan { head = begun t })) e

module _ {R : Type 0} (left : R → Option (List ℕ)) (calls failures : R → ℕ) (old new : Input R) where
  pub fetched_file : Fetches left calls old new → Consumes (file_of left old) (file_of left new) []
  fetched_file f = consumes_by (left (source_of old)) (left (source_of new)) (kept_of old) (joined f.pieces) [] (kept_of new)
      (pieces_consumed left calls (source_of old) (source_of new) f.pieces f.called) (sym f.kept)

  -- the same is known after it
  known_after : (bytes : List ℕ) → Fetches left calls old new → file_of left old ≡ Some bytes → file_of left new ≡ Some bytes
  known_after bytes f e = same_known (file_of left old) (file_of left new) bytes (fetched_file f) e

  -- what the rest says is what the bytes that are there say
  told_by : (bytes : List ℕ) → Begins left calls failures old new → file_of left new ≡ Some bytes → opened old bytes ≡ scan_of new
  told_by bytes b e =
      let f = front_rest (kept_of new) (left (source_of new)) bytes e in
      elim b.enough [
        | inl chosen ↦ opened_chosen old bytes chosen ∙ sym (opened_chosen old (kept_of new) chosen) ∙ sym b.scan
        | inr enough ↦ elim enough [
          | inl four ↦ opened_same old bytes (kept_of new) (ap first_stage f.2 ∙ first_front (kept_of new) f.0 four) ∙ sym b.scan
          | inr end ↦
              let nothing = ap (λ (l : List ℕ). kept_of new ++ l) (at_end (left (source_of new)) f.0 f.1 end) in
              ap (opened old) (f.2 ∙ nothing ∙ append-nil (kept_of new)) ∙ sym b.scan
        ]
      ]

  pub opened_known : (bytes : List ℕ) → Begins left calls failures old new → file_of left old ≡ Some bytes → opened_of left old ≡ scan_of new
  opened_known bytes b e = ap (λ (o : Option (List ℕ)). opened old (known o)) e ∙ told_by bytes b (known_after bytes b.fetches e)

  pub opened_waiting : (r : Result ℕ DeviceFault) (room : ℕ) (bytes : List ℕ) → Waits left calls failures old new r room
      → file_of left old ≡ Some bytes → opened_of left old ≡ opened_of left new
  opened_waiting r room bytes w e =
      let is : file_of left new ≡ Some bytes = known_after bytes w.fetches e in
      let scans : opened old bytes ≡ opened new bytes =
      when_false _ _ _ w.before ∙ ap (λ (v : Scan). record v { head = begun (first_stage bytes) }) (sym w.scan) ∙ sym (when_false _ _ _ w.after) in
      ap (λ (o : Option (List ℕ)). opened old (known o)) e ∙ scans ∙ ap (λ (o : Option (List ℕ)). opened new (known o)) (sym is)

  pub waiting_fault : (r : Result ℕ DeviceFault) (room : ℕ) → Waits left calls failures old new r room → (opened_of left new).fault ≡ (scan_of new).fault
  waiting_fault r room w = ap (λ (v : Scan). v.fault) (when_false _ _ _ w.after)

  -- what is said of the rest, if it is known
  module _ {X : Type 0} (says : List ℕ → Scan → Option (List ℕ) → Option X) (none : (owed : List ℕ) (s : Scan) → says owed s None ≡ None) where
    abbrev said : Option X
    said = says (owed_of old) (opened_of left old) (file_of left old)

    -- if the input is known to be in this state
    said_from : (v : Scan) → Fetches left calls old new → ((bytes : List ℕ) → file_of left old ≡ Some bytes → opened_of left old ≡ v)
        → (o : Option (List ℕ)) → file_of left old ≡ o → (said ≡ None) ⊎ (said ≡ says (owed_of new) v (file_of left new))
    said_from v f is None e = inl (ap (says (owed_of old) (opened_of left old)) e ∙ none (owed_of old) (opened_of left old))
    said_from v f is (Some bytes) e = inr (ap (λ (t : Scan). says (owed_of old) t (file_of left old)) (is bytes e) ∙ ap (says (owed_of old) v) (e ∙ sym (known_after bytes f e)) ∙ ap (λ (l : List ℕ). says l v (file_of left new)) (sym f.owed))

    pub said_after : Begins left calls failures old new → (said ≡ None) ⊎ (said ≡ says (owed_of new) (scan_of new) (file_of left new))
    said_after b = said_from (scan_of new) b.fetches (λ bytes e. opened_known bytes b e) (file_of left old) refl

    pub said_chosen : chosen_of new ≡ true → says (owed_of new) (opened_of left new) (file_of left new) ≡ says (owed_of new) (scan_of new) (file_of left new)
    said_chosen e = ap (λ (v : Scan). says (owed_of new) v (file_of left new)) (opened_chosen new (known (file_of left new)) e)

    pub said_waiting : (r : Result ℕ DeviceFault) (room : ℕ) → Waits left calls failures old new r room
        → (said ≡ None) ⊎ (said ≡ says (owed_of new) (opened_of left new) (file_of left new))
    said_waiting r room w = said_from (opened_of left new) w.fetches (λ bytes e. opened_waiting r room bytes w e) (file_of left old) refl

-- ---- a read

reads_from : (a b c : Option (List ℕ)) (r : Result ℕ DeviceFault) (buffer : List ℕ) → (a ≡ None) ⊎ (a ≡ b) → ReadConsumes b c r buffer → ReadConsumes a c r buffer
reads_from a b c r buffer (inr e) reads = subst (λ (o : Option (List ℕ)). ReadConsumes o c r buffer) (sym e) reads
reads_from a b c (Ok n) buffer (inl e) reads = (subst (λ (o : Option (List ℕ)). Consumes o c (take n buffer)) (sym e) tt, reads.1)
reads_from a b c (Err f) buffer (inl e) reads = subst (λ (o : Option (List ℕ)). Keeps o c) (sym e) tt

packets_from : (a b c : Option Packets) (packet : Option Packet) (r : Result ℕ DeviceFault) → (a ≡ None) ⊎ (a ≡ b) → ReadsOfPacket b c packet r → ReadsOfPacket a c packet r
packets_from a b c packet r (inr e) reads = subst (λ (o : Option Packets). ReadsOfPacket o c packet r) (sym e) reads
packets_from a b c packet (Ok n) (inl e) reads = subst (λ (o : Option Packets). PacketsAfter n o c × AreOfPacket n o packet) (sym e) (tt, tt)
packets_from a b c packet (Err f) (inl e) reads = subst (λ (o : Option Packets). PacketsAfter 0 o c) (sym e) tt

after_same : (a : Option Packets) → PacketsAfter 0 a a
after_same None = tt
after_same (Some packets) = λ i. ap packets (let z : i ≡ 0 + i = omega arith in z)

module _ {R : Type 0} (left : R → Option (List ℕ)) (calls failures : R → ℕ) (old new : Input R) (buffer : List ℕ) where
  waiting_reads : (r : Result ℕ DeviceFault) → Waits left calls failures old new r (length buffer) → ReadConsumes (left_of left new) (left_of left new) r buffer
  waiting_reads (Err e) w = Keeps-refl (left_of left new)
  waiting_reads (Ok (suc n)) w = absurd (omega (arith, w.nothing.0))
  waiting_reads (Ok zero) w = (
    Consumes-nil (left_of left new),
    λ none room. let stopped = w.nothing.1 room in
        given_stopped (owed_of new) (opened_of left new) (file_of left new) (ap is_some (waiting_fault left calls failures old new (Ok 0) (length buffer) w) ∙ stopped.0) stopped.1,
  )

  waiting_packets : (r : Result ℕ DeviceFault) (packet : Option Packet) → Waits left calls failures old new r (length buffer) → ReadsOfPacket (packets_of left new) (packets_of left new) packet r
  waiting_packets (Err e) packet w = after_same (packets_of left new)
  waiting_packets (Ok (suc n)) packet w = absurd (omega (arith, w.nothing.0))
  waiting_packets (Ok zero) packet w = (after_same (packets_of left new), of_none (packets_of left new) packet)

  waiting_fails : (r : Result ℕ DeviceFault) → Waits left calls failures old new r (length buffer) → ReadCounts (failures_of failures old) (failures_of failures new) r
  waiting_fails (Ok n) w = let a = w.counted in let b = w.fetches.gave_up in cc
  waiting_fails (Err e) w = let a = w.counted in let b = w.fetches.gave_up in omega (arith, a, b)

  pub input_gives : (r : Result ℕ DeviceFault) → ReadsInput left calls failures old new r buffer → ReadConsumes (left_of left old) (left_of left new) r buffer
  input_gives r (inl i) =
      let after = said_after left calls failures old i.mid given_of (λ owed s. refl) i.begins in
      let chosen = sym (said_chosen left calls failures old new given_of (λ owed s. refl) i.chosen) in
      reads_from (left_of left old) (rest_of left i.mid) (left_of left new) r buffer after
      (subst (λ (o : Option (List ℕ)). ReadConsumes (rest_of left i.mid) o r buffer) chosen (part_gives left failures i.mid new r buffer i.part))
  input_gives r (inr w) =
      let after = said_waiting left calls failures old new given_of (λ owed s. refl) r (length buffer) w in
      reads_from (left_of left old) (left_of left new) (left_of left new) r buffer after (waiting_reads r w)

  pub input_packets : (r : Result ℕ DeviceFault) (before : Option Packet) → MatchResult r (λ n. n ≤ length buffer) (λ e. Unit {0})
      → ReadsInput left calls failures old new r buffer → ReadsOfPacket (packets_of left old) (packets_of left new) (last_packet r (scan_of new).packet before) r
  input_packets r before b (inl i) =
      let last = last_packet r (scan_of new).packet before in
      let after = said_after left calls failures old i.mid packets_by (λ owed s. refl) i.begins in
      let chosen = sym (said_chosen left calls failures old new packets_by (λ owed s. refl) i.chosen) in
      packets_from (packets_of left old) (packets_rest left i.mid) (packets_of left new) last r after
      (subst (λ (o : Option Packets). ReadsOfPacket (packets_rest left i.mid) o last r) chosen (part_packets left failures i.mid new r buffer before b i.part))
  input_packets r before b (inr w) =
      let last = last_packet r (scan_of new).packet before in
      let after = said_waiting left calls failures old new packets_by (λ owed s. refl) r (length buffer) w in
      packets_from (packets_of left old) (packets_of left new) (packets_of left new) last r after (waiting_packets r last w)

  pub input_fails : (r : Result ℕ DeviceFault) → ReadsInput left calls failures old new r buffer → ReadCounts (failures_of failures old) (failures_of failures new) r
  input_fails r (inr w) = waiting_fails r w
  input_fails r (inl i) =
      let a = i.begins.unfailed in
      let b = i.begins.fetches.gave_up in
      let same : failures_of failures i.mid ≡ failures_of failures old = cc in
      subst (λ (n : ℕ). ReadCounts n (failures_of failures new) r) same (part_fails left failures i.mid new r buffer i.part)

-- ---- the first bytes

from_start : (bytes : List ℕ) (n : ℕ) → slice_range bytes 0 n ≡ take n bytes
from_start bytes n = ap (λ (k : ℕ). take k bytes) (let z : n - 0 ≡ n = omega arith in z)

-- what is kept is there
kept_there : (bytes : List ℕ) (start end : ℕ) → start ≡ 0 → length (slice_range bytes start end) ≡ end - start → end ≤ length bytes
kept_there bytes start end first size =
    let whole : length (take end bytes) ≡ end =
    ap length (sym (from_start bytes end)) ∙ ap (λ (n : ℕ). length (slice_range bytes n end)) (sym first) ∙ size ∙ (let z : end - start ≡ end = omega (arith, first) in z) in
    omega (arith, whole, length-take end bytes)

-- what was read behind it
pub kept_put : (bytes part : List ℕ) (start end m k : ℕ) → start ≡ 0 → length (slice_range bytes start end) ≡ end - start → k ≤ length part
    → slice_range (put_mid end m bytes part) start (end + k) ≡ slice_range bytes start end ++ take k part
kept_put bytes part start end m k first size within =
    let long : length (take end bytes) ≡ end = omega (arith, length-take end bytes, kept_there bytes start end first size) in
    let put = put_mid end m bytes part in
    let front : take (end + k) put ≡ take end bytes ++ take k part =
    ap (λ (j : ℕ). take (j + k) put) (sym long) ∙ (take-append-add (take end bytes) (part ++ _) k ∙ ap (λ (l : List ℕ). take end bytes ++ l) (take-append-le k part _ within)) in
    ap (λ (n : ℕ). slice_range put n (end + k)) first ∙ from_start put (end + k) ∙ front
    ∙ ap (λ (l : List ℕ). l ++ take k part) (sym (from_start bytes end)) ∙ ap (λ (n : ℕ). slice_range bytes n end ++ take k part) (sym first)

-- and if nothing was
pub kept_none : (bytes part : List ℕ) (start end m : ℕ) → start ≡ 0 → length (slice_range bytes start end) ≡ end - start
    → slice_range (put_mid end m bytes part) start end ≡ slice_range bytes start end ++ []
kept_none bytes part start end m first size =
    ap (slice_range (put_mid end m bytes part) start) (let z : end ≡ end + 0 = omega arith in z) ∙ kept_put bytes part start end m 0 first size (omega arith)

-- in so many turns the source below gave a byte each, or more
pub record Fetched {R : Type 0} (left : R → Option (List ℕ)) (calls failures : R → ℕ) (turns : ℕ) (old new : Input R) : Type 0 where
  pub fetches : Fetches left calls old new
  pub found : All HasByte fetches.pieces
  pub many : turns ≤ length (kept_of new)
  pub start : new.start ≡ 0
  pub scan : scan_of new ≡ scan_of old
  pub chosen : chosen_of new ≡ false
  pub unfailed : failures (source_of new) ≡ failures (source_of old)

module _ {R : Type 0} (left : R → Option (List ℕ)) (calls failures : R → ℕ) where
  pub fetches_nothing : (s : Input R) → Fetches left calls s s
  fetches_nothing s = record { pieces = []; called = refl; first = tt; kept = sym (append-nil (kept_of s)); owed = refl; gave_up = refl }

  pub fetched_nothing : (s : Input R) → chosen_of s ≡ false → Fetched left calls failures 0 s s
  unfolding fetches_nothing
  fetched_nothing s e = record {
    fetches = fetches_nothing s;
    found = All-nil HasByte;
    many = omega arith;
    start = s.untaken e;
    scan = refl;
    chosen = e;
    unfailed = refl;
  }

  -- one more call
  pub fetches_more : (turns : ℕ) (old mid new : Input R) (piece : List ℕ) → chosen_of old ≡ false → (f : Fetched left calls failures turns old mid) → length (kept_of mid) < 4
      → ReadsPiece left calls (source_of mid) piece (source_of new) → kept_of new ≡ kept_of mid ++ piece → owed_of new ≡ owed_of mid → gave_up_of new ≡ gave_up_of mid → Fetches left calls old new
  fetches_more turns old mid new piece e f few reads kept owed gave_up =
      let less = subst (λ (l : List ℕ). length l < 4) f.fetches.kept few in
      record {
        pieces = piece ∷ f.fetches.pieces;
        called = (source_of mid, f.fetches.called, reads);
        first = (e, less, f.found);
        kept = kept ∙ ap (λ (l : List ℕ). l ++ piece) f.fetches.kept ∙ append_assoc (kept_of old) (joined f.fetches.pieces) piece;
        owed = owed ∙ f.fetches.owed;
        gave_up = gave_up ∙ f.fetches.gave_up;
      }

  pub fetched_more : (turns : ℕ) (old mid new : Input R) (piece : List ℕ) → chosen_of old ≡ false → (f : Fetched left calls failures turns old mid) → length (kept_of mid) < 4
      → ReadsPiece left calls (source_of mid) piece (source_of new) → kept_of new ≡ kept_of mid ++ piece → 0 < length piece → owed_of new ≡ owed_of mid → gave_up_of new ≡ gave_up_of mid → new.start ≡ mid.start
      → scan_of new ≡ scan_of mid → chosen_of new ≡ chosen_of mid → failures (source_of new) ≡ failures (source_of mid)
      → Fetched left calls failures (turns + 1) old new
  unfolding fetches_more
  fetched_more turns old mid new piece e f few reads kept some owed gave_up start scan chosen source =
      let size = ap length kept in
      let both = length-append (kept_of mid) piece in
      let many = f.many in
      record {
        fetches = fetches_more turns old mid new piece e f few reads kept owed gave_up;
        found = All-cons HasByte piece f.fetches.pieces some f.found;
        many = omega (arith, size, both, many, some);
        start = start ∙ f.start;
        scan = scan ∙ f.scan;
        chosen = chosen ∙ f.chosen;
        unfailed = source ∙ f.unfailed;
      }

  pub begins_still : (s : Input R) → chosen_of s ≡ true → Begins left calls failures s s
  begins_still s e = record { fetches = fetches_nothing s; enough = inl e; scan = sym (opened_chosen s (kept_of s) e); chosen = e; unfailed = refl }
