-- What a capture takes of its file in several turns.
use Rattle.std.proofs.Common.{◌⊎◌, ◌≡◌, ◌≢◌, ◌≤◌, ◌<◌, ◌+◌, ◌^◌, ◌-◌, ℕ, zero, suc, true, false, List, [], ◌∷◌, ◌++◌, length, replicate, take, drop, Option, None, Some}
use Rattle.std.proofs.Common.{Result, Ok, Err, IfOk, MatchResult, is_some, inl, inr, refl, sym, ap, ◌∙◌, subst, arith, append_assoc, append-nil, length-append, take-append-drop}
use Rattle.std.specs.Io.KnownBytes.{Consumes, Keeps, IsAtEnd, ReadConsumes, prepend_known}
use Rattle.std.proofs.KnownBytes.{Consumes-nil, Consumes-kept}
use Rattle.std.specs.List.{slice_range}
use Rattle.std.proofs.lemmas.List.{drop-take, drop-drop, length-take, length-take-le, replicate-append-replicate}
use Rattle.std.proofs.Math.Nat.{min-le_left}
use Rattle.std.specs.List.{All}
use Rattle.std.proofs.lemmas.List.Elements.{All-cons, All-nil}
use Rattle.dbus_device.specs.Device.{one_more, ReadCounts}
use Rattle.dbus_device.specs.Calls.{joined, HasByte, ReadsPieces}
use Rattle.dbus_capture.specs.Types.{DeviceFault, Packet, Scan}
use Rattle.dbus_device.proofs.CallLaws.{pieces_consumed}
use Rattle.dbus_capture.specs.declared.input.Input.{Input}
use Rattle.dbus_capture.specs.Steps.{Turn, turn_of, may_end, run, given, packets_given, ended}
use Rattle.dbus_capture.specs.Captures.{given_of, packets_from, source_of, scan_of, owed_of, kept_of, file_of, gave_up_of, failures_of, Fills, Hands, HandsOn, Reads, Ends, IsStopped, IsUnfailed, GivesUp, ReadsPart, AreNeeded, Asks}
use Rattle.dbus_capture.specs.Stages.{is_raw}
use Rattle.dbus_capture.proofs.Choices.{when_true}
use Rattle.dbus_capture.proofs.StepLaws.{run-append, given-append, packets-append, lead_nothing, one_nothing, run_stopped, run_raw, none_of, turn_passes}

-- a part that ends where it begins
pub no_part : (bytes : List ℕ) (start end : ℕ) → end ≤ start → slice_range bytes start end ≡ []
no_part bytes start end none =
    let n : end - start ≡ 0 = omega arith in
    ap (λ k. take k (drop start bytes)) n

-- a part has at most so many bytes
part_fits : (bytes : List ℕ) (start end : ℕ) → length (slice_range bytes start end) ≤ end - start
part_fits bytes start end = let e = length-take (end - start) (drop start bytes) in rw e (min-le_left (end - start) (length (drop start bytes)))

-- a part that begins later
pub later_part : (bytes : List ℕ) (start end count : ℕ) → count ≤ length (slice_range bytes start end)
    → slice_range bytes (start + count) end ≡ drop count (slice_range bytes start end)
later_part bytes start end count within =
    let there = part_fits bytes start end in
    let split : end - start ≡ count + (end - (start + count)) = omega (arith, within, there) in
    sym (ap (λ k. drop count (take k (drop start bytes))) split
    ∙ (drop-take count (end - (start + count)) (drop start bytes)
    ∙ ap (take (end - (start + count))) (drop-drop count start bytes)))

pub split_part : (bytes : List ℕ) (start end count : ℕ) → count ≤ length (slice_range bytes start end)
    → slice_range bytes start end ≡ take count (slice_range bytes start end) ++ slice_range bytes (start + count) end
split_part bytes start end count within =
    let part = slice_range bytes start end in
    sym (take-append-drop count part) ∙ ap (λ l. take count part ++ l) (sym (later_part bytes start end count within))

-- ---- what is read of the file

-- some bytes that were kept, and these that came, were taken, and the others are kept
pub consumes_by : (a b : Option (List ℕ)) (old came used new : List ℕ) → Consumes a b came → old ++ came ≡ used ++ new → Consumes (prepend_known old a) (prepend_known new b) used
consumes_by None b old came used new c e = tt
consumes_by (Some x) None old came used new c e = absurd c
consumes_by (Some x) (Some y) old came used new c e = ap (λ l. old ++ l) c ∙ sym (append_assoc old came y) ∙ ap (λ l. l ++ y) e ∙ append_assoc used new y

-- ---- what is handed on

pub hands_nothing : {R : Type 0} (s : Input R) → Hands s [] [] s
hands_nothing s = record {
  ran = (lead_nothing (scan_of s)).ran;
  gave = ap (λ l. owed_of s ++ l) (lead_nothing (scan_of s)).gave ∙ append-nil (owed_of s);
  one = ap (λ l. replicate (length (owed_of s)) (scan_of s).packet ++ l) (one_nothing (scan_of s)) ∙ append-nil _;
}

pub hands_then : {R : Type 0} {a b c : Input R} {xs ys out : List ℕ} → Hands a xs [] b → Hands b ys out c → Hands a (xs ++ ys) out c
hands_then {R} {a} {b} {c} {xs} {ys} {out} p q = record {
  ran = run-append (scan_of a) xs ys ∙ ap (λ (v : Scan). run v ys) p.ran ∙ q.ran;
  gave = ap (λ l. owed_of a ++ l) (given-append (scan_of a) xs ys) ∙ sym (append_assoc (owed_of a) (given (scan_of a) xs) (given (run (scan_of a) xs) ys))
      ∙ ap (λ l. l ++ given (run (scan_of a) xs) ys) p.gave ∙ ap (λ (v : Scan). owed_of b ++ given v ys) p.ran ∙ q.gave;
  one = ap (λ l. replicate (length (owed_of a)) (scan_of a).packet ++ l) (packets-append (scan_of a) xs ys)
      ∙ sym (append_assoc (replicate (length (owed_of a)) (scan_of a).packet) (packets_given (scan_of a) xs) (packets_given (run (scan_of a) xs) ys))
      ∙ ap (λ l. l ++ packets_given (run (scan_of a) xs) ys) p.one ∙ ap (λ (v : Scan). replicate (length (owed_of b)) (scan_of b).packet ++ packets_given v ys) p.ran ∙ q.one;
}

-- what is kept beside does not matter
pub hands_to : {R : Type 0} {a b c : Input R} {xs out : List ℕ} → Hands a xs out b → scan_of c ≡ scan_of b → owed_of c ≡ owed_of b → Hands a xs out c
hands_to {R} {a} {b} {c} {xs} {out} h scan owed = record {
  ran = h.ran ∙ sym scan;
  gave = h.gave ∙ ap (λ l. out ++ l) (sym owed);
  one = h.one ∙ ap (λ (v : Scan). replicate (length out) v.packet ++ replicate (length (owed_of b)) v.packet) (sym scan)
      ∙ ap (λ (l : List ℕ). replicate (length out) (scan_of c).packet ++ replicate (length l) (scan_of c).packet) (sym owed);
}

-- ---- many turns

-- In so many turns the source below was called, each time with no byte of a packet at hand. Bytes of the file were taken, one a turn or more, none of which is a packet's.
pub record Goes {R : Type 0} (left : R → Option (List ℕ)) (calls : R → ℕ) (turns : ℕ) (old new : Input R) : Type 0 where
  pub used : List ℕ
  pub leads : Hands old used [] new
  pub paid : (owed_of old ≡ []) × (owed_of new ≡ [])
  pub many : turns ≤ length used
  pub pieces : List (List ℕ)
  pub called : ReadsPieces left calls (source_of old) pieces (source_of new)
  pub needed : AreNeeded old pieces
  pub split : kept_of old ++ joined pieces ≡ used ++ kept_of new

-- each call gave a byte, and none failed
pub record Turns {R : Type 0} (left : R → Option (List ℕ)) (calls failures : R → ℕ) (turns : ℕ) (old new : Input R) : Type 0 where
  pub goes : Goes left calls turns old new
  pub found : All HasByte goes.pieces
  pub unfailed : IsUnfailed failures old new

pub some_there : (l : List ℕ) → l ≢ [] → HasByte l
some_there [] some = absurd (some refl)
some_there (x ∷ l) some = omega arith

module _ {R : Type 0} (left : R → Option (List ℕ)) (calls : R → ℕ) where
  pub turns_none : (failures : R → ℕ) (s : Input R) → owed_of s ≡ [] → Turns left calls failures 0 s s
  turns_none failures s paid = record {
    goes = record { used = []; leads = hands_nothing s; paid = (paid, paid); many = omega arith; pieces = []; called = refl; needed = tt; split = append-nil (kept_of s) };
    found = All-nil HasByte;
    unfailed = record { source = refl; gave_up = refl };
  }

  -- nothing is read
  pub still : (failures : R → ℕ) (s : Input R) (buffer : List ℕ) → (0 < length buffer → IsStopped s)
      → ReadsPart left failures s s (Ok 0) buffer × Asks left calls s s (Ok 0)
  still failures s buffer stopped =
      let none : Reads left s s [] = record { used = []; consumed = Consumes-nil (file_of left s); leads = hands_nothing s } in (
        (record { source = refl; gave_up = refl }, inl (none, λ zero room. stopped room)),
        record { pieces = []; called = refl; needed = tt; found = inl (All-nil HasByte) },
      )

  -- what is owed is handed on
  pub owed_part : (failures : R → ℕ) (s t : Input R) (n : ℕ) (buffer : List ℕ) → owed_of s ≡ take n buffer ++ owed_of t → source_of t ≡ source_of s → kept_of t ≡ kept_of s → scan_of t ≡ scan_of s → gave_up_of t ≡ gave_up_of s → n ≤ length buffer → (n ≡ 0 → 0 < length buffer → ⊥)
      → ReadsPart left failures s t (Ok n) buffer × Asks left calls s t (Ok n)
  owed_part failures s t n buffer first source kept scan gave_up low some =
      let nothing = lead_nothing (scan_of s) in
      let packet = (scan_of s).packet in
      let file : file_of left t ≡ file_of left s = ap (λ (l : List ℕ). prepend_known l (left (source_of t))) kept ∙ ap (λ (v : R). prepend_known (kept_of s) (left v)) source in
      let hands : Hands s [] (take n buffer) t = record {
        ran = nothing.ran ∙ sym scan;
        gave = ap (λ l. owed_of s ++ l) nothing.gave ∙ append-nil (owed_of s) ∙ first;
        one = ap (λ l. replicate (length (owed_of s)) packet ++ l) (one_nothing (scan_of s)) ∙ append-nil _ ∙ ap (λ (l : List ℕ). replicate (length l) packet) first
            ∙ ap (λ (k : ℕ). replicate k packet) (length-append (take n buffer) (owed_of t)) ∙ sym (replicate-append-replicate (length (take n buffer)) (length (owed_of t)) packet)
            ∙ ap (λ (v : Scan). replicate (length (take n buffer)) v.packet ++ replicate (length (owed_of t)) v.packet) (sym scan);
      } in (
        (
          record { source = ap failures source; gave_up = gave_up },
          inl (record { used = []; consumed = subst (λ (o : Option (List ℕ)). Consumes (file_of left s) o []) (sym file) (Consumes-nil (file_of left s)); leads = hands }, λ zero room. absurd (some zero room)),
        ),
        record { pieces = []; called = source; needed = tt; found = inl (All-nil HasByte) },
      )

  module _ {turns : ℕ} {old mid : Input R} (g : Goes left calls turns old mid) where
    -- the source below is called if nothing is kept
    pub goes_filled : (new : Input R) → All HasByte g.pieces → Fills left calls mid new → scan_of new ≡ scan_of mid → owed_of new ≡ owed_of mid
        → (n : Goes left calls turns old new) × (kept_of new ≢ [] → All HasByte n.pieces)
    goes_filled new found (inl f) same owed = subst (λ (v : Input R). (n : Goes left calls turns old v) × (kept_of v ≢ [] → All HasByte n.pieces)) (sym f.1) (g, λ some. found)
    goes_filled new found (inr f) same owed =
        let all : kept_of old ++ joined g.pieces ≡ g.used = g.split ∙ ap (λ l. g.used ++ l) f.0 ∙ append-nil g.used in (
          record {
            used = g.used;
            leads = hands_to g.leads same owed;
            paid = (g.paid.0, owed ∙ g.paid.1);
            many = g.many;
            pieces = kept_of new ∷ g.pieces;
            called = (source_of mid, g.called, f.1);
            needed = (ap (λ (l : List ℕ). owed_of old ++ given (scan_of old) l) all ∙ g.leads.gave ∙ g.paid.1, found);
            split = sym (append_assoc (kept_of old) (joined g.pieces) (kept_of new)) ∙ ap (λ l. l ++ kept_of new) all;
          },
          λ some. All-cons HasByte (kept_of new) g.pieces (some_there (kept_of new) some) found,
        )

    -- bytes that are kept are taken
    module _ (new : Input R) (out : List ℕ) (h : HandsOn mid new out) (same : source_of new ≡ source_of mid) where
      goes_split : kept_of old ++ joined g.pieces ≡ (g.used ++ h.used) ++ kept_of new
      goes_split = g.split ∙ ap (λ l. g.used ++ l) h.front ∙ sym (append_assoc g.used h.used (kept_of new))

      goes_called : ReadsPieces left calls (source_of old) g.pieces (source_of new)
      goes_called = subst (ReadsPieces left calls (source_of old) g.pieces) (sym same) g.called

      pub turns_more : (failures : R → ℕ) → All HasByte g.pieces → IsUnfailed failures old mid → gave_up_of new ≡ gave_up_of mid → out ≡ [] → owed_of new ≡ [] → length (kept_of new) < length (kept_of mid)
          → Turns left calls failures (turns + 1) old new
      turns_more failures found u gave_up none paid fewer = record {
        goes = record {
          used = g.used ++ h.used;
          leads = hands_then g.leads (subst (λ l. Hands mid h.used l new) none h.leads);
          paid = (g.paid.0, paid);
          many = omega (arith, g.many, fewer, ap length h.front, length-append h.used (kept_of new), length-append g.used h.used);
          pieces = g.pieces;
          called = goes_called;
          needed = g.needed;
          split = goes_split;
        };
        found = found;
        unfailed = record { source = ap failures same ∙ u.source; gave_up = gave_up ∙ u.gave_up };
      }

      pub gives_part : Reads left old new out
      gives_part = record {
        used = g.used ++ h.used;
        consumed = consumes_by (left (source_of old)) (left (source_of new)) (kept_of old) (joined g.pieces) (g.used ++ h.used) (kept_of new)
            (pieces_consumed left calls (source_of old) (source_of new) g.pieces goes_called) goes_split;
        leads = hands_then g.leads h.leads;
      }

    -- the turns end
    module _ (new : Input R) (same : source_of new ≡ source_of mid) (kept : kept_of new ≡ kept_of mid) where
      taken : Consumes (file_of left old) (file_of left new) g.used
      taken = consumes_by (left (source_of old)) (left (source_of new)) (kept_of old) (joined g.pieces) g.used (kept_of new)
          (subst (λ (s : R). Consumes (left (source_of old)) (left s) (joined g.pieces)) (sym same) (pieces_consumed left calls (source_of old) (source_of mid) g.pieces g.called))
          (g.split ∙ ap (λ l. g.used ++ l) (sym kept))

      pub goes_reads : scan_of new ≡ scan_of mid → owed_of new ≡ owed_of mid → Reads left old new []
      goes_reads scan owed = record { used = g.used; consumed = taken; leads = hands_to g.leads scan owed }

      pub goes_ends : scan_of new ≡ ended (scan_of mid) → owed_of new ≡ owed_of mid → (kept_of mid ≡ []) × IsAtEnd (left (source_of mid)) → Ends left old new
      goes_ends scan owed end = record {
        used = g.used;
        consumed = taken;
        gave = g.leads.gave ∙ g.paid.1;
        owed = owed ∙ g.paid.1;
        ran = scan ∙ ap ended (sym g.leads.ran);
        nothing = kept ∙ end.0;
        at_end = subst (λ (s : R). IsAtEnd (left s)) (sym same) end.1;
      }

    -- what was asked
    pub asks : (new : Input R) → source_of new ≡ source_of mid → (r : Result ℕ DeviceFault) → All HasByte g.pieces ⊎ IfOk r (λ n. (n ≡ 0) × Ends left old new) → Asks left calls old new r
    asks new same r found = record { pieces = g.pieces; called = subst (ReadsPieces left calls (source_of old) g.pieces) (sym same) g.called; needed = g.needed; found = found }

    pub gives_up : (failures : R → ℕ) (new : Input R) → IsUnfailed failures old mid → 2 ^ 64 ≤ turns + 1 → source_of new ≡ source_of mid → kept_of new ≡ kept_of mid → scan_of new ≡ scan_of mid → owed_of new ≡ owed_of mid
        → gave_up_of new ≡ one_more (gave_up_of mid) → GivesUp left failures old new
    unfolding goes_reads
    gives_up failures new u most same kept scan owed gave_up = record {
      reads = goes_reads new same kept scan owed;
      many = omega (arith, g.many, most);
      source = ap failures same ∙ u.source;
      gave_up = gave_up ∙ ap one_more u.gave_up;
    }

-- ---- what is left to give

given_front : {R : Type 0} (old new : Input R) (a b : Option (List ℕ)) (used out : List ℕ) → Consumes a b used → Hands old used out new
    → Consumes (given_of (owed_of old) (scan_of old) a) (given_of (owed_of new) (scan_of new) b) out
given_front old new None b used out c h = tt
given_front old new (Some x) None used out c h = absurd c
given_front old new (Some x) (Some y) used out c h =
    let s = scan_of old in
    ap (λ (l : List ℕ). owed_of old ++ given s l) c ∙ ap (λ l. owed_of old ++ l) (given-append s used y) ∙ sym (append_assoc (owed_of old) (given s used) (given (run s used) y))
    ∙ ap (λ l. l ++ given (run s used) y) h.gave ∙ append_assoc out (owed_of new) (given (run s used) y) ∙ ap (λ (v : Scan). out ++ (owed_of new ++ given v y)) h.ran

pub given_stopped : (owed : List ℕ) (t : Scan) (b : Option (List ℕ)) → is_some t.fault ≡ true → owed ≡ [] → IsAtEnd (given_of owed t b)
given_stopped owed t None p e = tt
given_stopped owed t (Some y) p e = ap (λ l. owed ++ l) (run_stopped t y p).leads.gave ∙ append-nil owed ∙ e

given_end : {R : Type 0} (old new : Input R) (a b : Option (List ℕ)) (used : List ℕ) → Consumes a (prepend_known (kept_of new) b) used → owed_of old ++ given (scan_of old) used ≡ [] → owed_of new ≡ [] → kept_of new ≡ [] → IsAtEnd b
    → let left = given_of (owed_of new) (scan_of new) (prepend_known (kept_of new) b) in Consumes (given_of (owed_of old) (scan_of old) a) left [] × IsAtEnd left
unfolding given
given_end old new None None used c gave owed none end = (tt, tt)
given_end old new None (Some y) used c gave owed none end = (tt, ap (λ (l : List ℕ). owed_of new ++ given (scan_of new) l) (ap (λ l. l ++ y) none ∙ end) ∙ append-nil (owed_of new) ∙ owed)
given_end old new (Some x) None used c gave owed none end = absurd c
given_end old new (Some x) (Some y) used c gave owed none end =
    let nothing : kept_of new ++ y ≡ [] = ap (λ l. l ++ y) none ∙ end in
    let all : x ≡ used = c ∙ ap (λ l. used ++ l) nothing ∙ append-nil used in
    let empty : owed_of new ++ given (scan_of new) (kept_of new ++ y) ≡ [] = ap (λ (l : List ℕ). owed_of new ++ given (scan_of new) l) nothing ∙ append-nil (owed_of new) ∙ owed in
    (ap (λ (l : List ℕ). owed_of old ++ given (scan_of old) l) all ∙ gave ∙ sym empty, empty)

pub keeps_from : (a b : Option (List ℕ)) → Consumes a b [] → Keeps a b
keeps_from None b c = tt
keeps_from (Some x) None c = absurd c
keeps_from (Some x) (Some y) c = sym c

-- what is left to give, if it is known what the input is
abbrev pub rest_of : {R : Type 0} → (R → Option (List ℕ)) → Input R → Option (List ℕ)
rest_of left s = given_of (owed_of s) (scan_of s) (file_of left s)

pub reads_keep : {R : Type 0} (left : R → Option (List ℕ)) (old new : Input R) → Reads left old new [] → Keeps (rest_of left old) (rest_of left new)
reads_keep left old new r =
    keeps_from (rest_of left old) (rest_of left new) (given_front old new (file_of left old) (file_of left new) r.used [] r.consumed r.leads)

module _ {R : Type 0} (left : R → Option (List ℕ)) (failures : R → ℕ) where
  pub part_gives : (old new : Input R) (r : Result ℕ DeviceFault) (buffer : List ℕ) → ReadsPart left failures old new r buffer → ReadConsumes (rest_of left old) (rest_of left new) r buffer
  part_gives old new (Err e) buffer (inl f) = reads_keep left old new f.reads
  part_gives old new (Err e) buffer (inr f) = reads_keep left old new f.reads
  part_gives old new (Ok n) buffer (_, inl r) = (
    given_front old new (file_of left old) (file_of left new) r.0.used (take n buffer) r.0.consumed r.0.leads,
    λ zero room. let stopped = r.1 zero room in given_stopped (owed_of new) (scan_of new) (file_of left new) stopped.0 stopped.1,
  )
  part_gives old new (Ok n) buffer (_, inr r) =
      let both = given_end old new (file_of left old) (left (source_of new)) r.1.used r.1.consumed r.1.gave r.1.owed r.1.nothing r.1.at_end in (
        subst (λ (k : ℕ). Consumes (rest_of left old) (rest_of left new) (take k buffer)) (sym r.0) both.0,
        λ zero room. both.1,
      )

  -- a failure counts once
  pub part_fails : (old new : Input R) (r : Result ℕ DeviceFault) (buffer : List ℕ) → ReadsPart left failures old new r buffer → ReadCounts (failures_of failures old) (failures_of failures new) r
  part_fails old new (Ok n) buffer r = let a = r.0.source in let b = r.0.gave_up in cc
  part_fails old new (Err e) buffer (inl f) = let a = f.source in let b = f.gave_up in omega (arith, a, b)
  part_fails old new (Err e) buffer (inr f) = let a = f.source in let b = f.gave_up in omega (arith, a, b)

-- ---- a stream with no file around it

-- of nothing that is kept nothing is given
none_given : {R : Type 0} (s : Input R) → owed_of s ≡ [] → kept_of s ≡ [] → owed_of s ++ given (scan_of s) (kept_of s ++ []) ≡ []
unfolding given
none_given s paid none = ap (λ (l : List ℕ). l ++ given (scan_of s) (kept_of s ++ [])) paid ∙ ap (λ (l : List ℕ). given (scan_of s) (l ++ [])) none

-- it may end anywhere
ended_raw : (s : Scan) → is_some s.fault ≡ false → is_raw s.head.stage ≡ true → ended s ≡ s
ended_raw s p q =
    when_true (may_end (turn_of s) s.head.stage s.head.bytes) s _
    (ap (λ (t : Turn). may_end t s.head.stage s.head.bytes) (turn_passes s.fault (is_raw s.head.stage) s.give s.skip (none_of s.fault p) q))

-- the source below was called for such a stream, of which no bytes were kept
pub record PassesOn {R : Type 0} (old new : Input R) : Type 0 where
  pub none : kept_of old ≡ []
  pub empty : kept_of new ≡ []
  pub paid : (owed_of old ≡ []) × (owed_of new ≡ [])
  pub scan : scan_of new ≡ scan_of old
  pub gave_up : gave_up_of new ≡ gave_up_of old
  pub unfaulted : is_some (scan_of old).fault ≡ false
  pub raw : is_raw (scan_of old).head.stage ≡ true

module _ {R : Type 0} (left : R → Option (List ℕ)) (failures : R → ℕ) where
  raw_hands : (old new : Input R) (used : List ℕ) → PassesOn old new → Hands old used used new
  raw_hands old new used p =
      let r = run_raw (scan_of old) used p.unfaulted p.raw in
      let none = ap (λ (l : List ℕ). replicate (length l) (scan_of new).packet) p.paid.1 in
      record {
        ran = r.leads.ran ∙ sym p.scan;
        gave = ap (λ (l : List ℕ). l ++ given (scan_of old) used) p.paid.0 ∙ r.leads.gave ∙ sym (ap (λ l. used ++ l) p.paid.1 ∙ append-nil used);
        one = ap (λ (l : List ℕ). replicate (length l) (scan_of old).packet ++ packets_given (scan_of old) used) p.paid.0 ∙ r.one
            ∙ ap (λ (v : Scan). replicate (length used) v.packet) (sym p.scan) ∙ sym (ap (λ l. replicate (length used) (scan_of new).packet ++ l) none ∙ append-nil _);
      }

  raw_reads : (old new : Input R) (used : List ℕ) → PassesOn old new → Consumes (left (source_of old)) (left (source_of new)) used → Reads left old new used
  raw_reads old new used p c = record {
    used = used;
    consumed = consumes_by (left (source_of old)) (left (source_of new)) (kept_of old) used used (kept_of new) c
        (ap (λ l. l ++ used) p.none ∙ sym (append-nil used) ∙ ap (λ l. used ++ l) (sym p.empty));
    leads = raw_hands old new used p;
  }

  raw_ends : (old new : Input R) → PassesOn old new → Consumes (left (source_of old)) (left (source_of new)) [] → IsAtEnd (left (source_of new)) → Ends left old new
  unfolding raw_reads
  raw_ends old new p c end =
      let r = run_raw (scan_of old) [] p.unfaulted p.raw in
      record {
        used = [];
        consumed = (raw_reads old new [] p c).consumed;
        gave = ap (λ (l : List ℕ). l ++ given (scan_of old) []) p.paid.0 ∙ r.leads.gave;
        owed = p.paid.1;
        ran = p.scan ∙ sym (ended_raw (scan_of old) p.unfaulted p.raw) ∙ ap ended (sym r.leads.ran);
        nothing = p.empty;
        at_end = end;
      }

  module _ (old new : Input R) (p : PassesOn old new) (asked : R → ℕ) (counted : asked (source_of new) ≡ one_more (asked (source_of old))) where
    asks_once : (r : Result ℕ DeviceFault) (piece : List ℕ) → Consumes (left (source_of old)) (left (source_of new)) piece
        → All HasByte (piece ∷ []) ⊎ IfOk r (λ n. (n ≡ 0) × Ends left old new) → Asks left asked old new r
    asks_once r piece c found = record {
      pieces = piece ∷ [];
      called = (source_of old, refl, record { gave = c; counted = counted });
      needed = (none_given old p.paid.0 p.none, All-nil HasByte);
      found = found;
    }

    -- what the source below gives is given, and it is asked once
    pub raw_part : (r : Result ℕ DeviceFault) (buffer : List ℕ) → 0 < length buffer → MatchResult r (λ n. n ≤ length buffer) (λ e. Unit {0})
        → ReadConsumes (left (source_of old)) (left (source_of new)) r buffer → ReadCounts (failures (source_of old)) (failures (source_of new)) r
        → ReadsPart left failures old new r buffer × Asks left asked old new r
    raw_part (Err e) buffer room b c f =
        let none = Consumes-kept (left (source_of old)) (left (source_of old)) (left (source_of new)) [] (Consumes-nil (left (source_of old))) c in
        (inl (record { reads = raw_reads old new [] p none; source = f; gave_up = p.gave_up; nothing = p.empty }), asks_once (Err e) [] none (inr tt))
    raw_part (Ok (suc n)) buffer room b c f =
        let some : 0 < length (take (suc n) buffer) = omega (arith, length-take-le (suc n) buffer b) in (
          (record { source = f; gave_up = p.gave_up }, inl (raw_reads old new (take (suc n) buffer) p c.0, λ zero room. absurd (omega (arith, zero)))),
          asks_once (Ok (suc n)) (take (suc n) buffer) c.0 (inl (All-cons HasByte (take (suc n) buffer) [] some (All-nil HasByte))),
        )
    raw_part (Ok zero) buffer room b c f =
        let ends = raw_ends old new p c.0 (c.1 refl room) in
        ((record { source = f; gave_up = p.gave_up }, inr (refl, ends)), asks_once (Ok zero) [] c.0 (inr (refl, ends)))
