-- What is taken from a source that reads ahead.
use Rattle.std.proofs.Common.{◌≡◌, ◌<◌, ◌≤◌, ◌⊎◌, ◌+◌, ◌-◌, ◌^◌, ◌%◌, ℕ, Bool, true, false, List, [], ◌∷◌, ◌++◌, length, zero, suc, take, drop, Option, None, Some, Result, Ok, Err, MatchResult, nat_lt, if◌then◌else◌, inl, inr, refl, sym, ap, ◌∙◌, subst, arith, append_assoc, append-nil, length-append, take-append-drop}
use Rattle.std.specs.Io.KnownBytes.{Consumes, Keeps, ReadConsumes, prepend_known}
use Rattle.std.proofs.KnownBytes.{Consumes-nil, Consumes-kept, Consumes-trans}
use Rattle.std.specs.List.{slice_range}
use Rattle.std.specs.Result.{IsErr}
use Rattle.std.proofs.lemmas.List.{drop-drop, length-take-le, take_at}
use Rattle.std.proofs.lemmas.Result.{IfOk-from_err}
use Rattle.std.proofs.lemmas.Slice.{between_is}
use Rattle.std.proofs.Math.Seq.{take-nil}
use Rattle.dbus_device.specs.Device.{one_more}
use Rattle.dbus_device.specs.declared.device_fault.DeviceFault.{DeviceFault}
use Rattle.dbus_device.specs.declared.packet.Packet.{Packet}
use Rattle.dbus_device.specs.Packets.{Packets, prepend_packets, PacketsAfter, AreOfPacket, ReadsOfPacket, LeavesPacket}
use Rattle.dbus_handshake_input.specs.Ahead.{source_of, kept_of, packets_of, answered_of, idle_unless, Rests, Took}
use Rattle.dbus_handshake_input.specs.declared.read_ahead.ReadAhead.{ReadAhead}

-- a part that ends where it begins
pub no_part : (bytes : List ℕ) (start end : ℕ) → end ≤ start → slice_range bytes start end ≡ []
no_part bytes start end none =
    let n : end - start ≡ 0 = omega arith in
    ap (λ k. take k (drop start bytes)) n

-- a part that begins later
pub later_part : (bytes : List ℕ) (start end count : ℕ) → slice_range bytes (start + count) end ≡ drop count (slice_range bytes start end)
later_part bytes start end count =
    sym (ap (drop count) (between_is bytes start end) ∙ (drop-drop count start (take end bytes) ∙ sym (between_is bytes (start + count) end)))

-- the first bytes of a part, and then what lies after them where they were written, are the part's
-- front
pub front_given : (bytes front tail : List ℕ) (start end count : ℕ) → count ≤ length (slice_range bytes start end) → front ≡ take count (slice_range bytes start end)
    → slice_range bytes start end ≡ take count (front ++ tail) ++ slice_range bytes (start + count) end
front_given bytes front tail start end count within is =
    let part = slice_range bytes start end in
    let size : length front ≡ count = ap length is ∙ length-take-le count part within in
    sym (take-append-drop count part) ∙ ap (λ l. l ++ drop count part) (sym is ∙ sym (take_at front tail count size))
    ∙ ap (λ l. take count (front ++ tail) ++ l) (sym (later_part bytes start end count))

-- what a read of the source below does where nothing is kept
pub read_through : {E : Type 0} (kept : List ℕ) (a b : Option (List ℕ)) (r : Result ℕ E) (buffer : List ℕ) → kept ≡ [] → ReadConsumes a b r buffer
    → ReadConsumes (prepend_known kept a) (prepend_known kept b) r buffer
read_through kept a b r buffer none = subst (λ (k : List ℕ). ReadConsumes a b r buffer → ReadConsumes (prepend_known k a) (prepend_known k b) r buffer) (sym none) (same a b)
  where
    same : (a b : Option (List ℕ)) → ReadConsumes a b r buffer → ReadConsumes (prepend_known [] a) (prepend_known [] b) r buffer
    same None None h = h
    same None (Some y) h = h
    same (Some x) None h = h
    same (Some x) (Some y) h = h

-- what a read into no room does, whatever is kept
pub read_nothing : {E : Type 0} (kept : List ℕ) (a b : Option (List ℕ)) (r : Result ℕ E) (buffer : List ℕ) → length buffer ≡ 0 → ReadConsumes a b r buffer
    → ReadConsumes (prepend_known kept a) (prepend_known kept b) r buffer
read_nothing kept a b (Ok n) [] none h = (consumed a b h.0, λ e some. absurd (omega (arith, some)))
  where
    consumed : (a b : Option (List ℕ)) → Consumes a b (take n []) → Consumes (prepend_known kept a) (prepend_known kept b) (take n [])
    consumed None b c = tt
    consumed (Some xs) None c = c
    consumed (Some xs) (Some ys) c =
        let empty : take {A = ℕ} n [] ≡ [] = take-nil n in
        ap (λ l. kept ++ l) (subst (λ (l : List ℕ). xs ≡ l ++ ys) empty c) ∙ ap (λ l. l ++ (kept ++ ys)) (sym empty)
read_nothing kept a b (Ok n) (x ∷ xs) none h = absurd (omega (arith, none))
read_nothing kept a b (Err e) buffer none h = keeps a b h
  where
    keeps : (a b : Option (List ℕ)) → Keeps a b → Keeps (prepend_known kept a) (prepend_known kept b)
    keeps None b c = tt
    keeps (Some xs) None c = c
    keeps (Some xs) (Some ys) c = ap (λ l. kept ++ l) c

-- ---- packets

kept_front : (i n : ℕ) (packet : Option Packet) (rest : Packets) → i < n → (if nat_lt i n then packet else rest (i - n)) ≡ packet
kept_front i n packet rest low = grind (arith, low)

kept_after : (count left i : ℕ) (packet : Option Packet) (rest : Packets)
    → (if nat_lt i left then packet else rest (i - left)) ≡ (if nat_lt (count + i) (count + left) then packet else rest (count + i - (count + left)))
kept_after count left i packet rest =
    let same : nat_lt i left ≡ nat_lt (count + i) (count + left) = grind arith in
    let number : i - left ≡ count + i - (count + left) = omega arith in
    ap (λ (b : Bool). if b then packet else rest (i - left)) same ∙ ap (λ (k : ℕ). if nat_lt (count + i) (count + left) then packet else rest k) number

kept_read : (old new front : List ℕ) (count : ℕ) (packet : Option Packet) (rest : Option Packets) → old ≡ front ++ new → length front ≡ count
    → ReadsOfPacket {E = DeviceFault} (prepend_packets (length old) packet rest) (prepend_packets (length new) packet rest) packet (Ok count)
kept_read old new front count packet None joined size = (tt, tt)
kept_read old new front count packet (Some rest) joined size =
    let total : count + length new ≡ length old = let all = ap length joined in let both = length-append front new in omega (arith, all, both, size) in
    subst (λ (n : ℕ). ReadsOfPacket {E = DeviceFault} (prepend_packets n packet (Some rest)) (prepend_packets (length new) packet (Some rest)) packet (Ok count)) total (
      λ i. kept_after count (length new) i packet rest,
      λ i low. kept_front i (count + length new) packet rest (omega (arith, low)),
    )

-- bytes that were kept are of their packet
pub kept_given : {R : Type 0} (packets : R → Option Packets) (packet : R → Option Packet) (old new : ReadAhead R) (front : List ℕ) (count : ℕ) → source_of new ≡ source_of old
    → kept_of old ≡ front ++ kept_of new → length front ≡ count → ReadsOfPacket {E = DeviceFault} (packets_of packets packet old) (packets_of packets packet new) (packet (source_of new)) (Ok count)
kept_given {R = R} packets packet old new front count same joined size =
    subst (λ (s : R). ReadsOfPacket {E = DeviceFault} (packets_of packets packet old) (prepend_packets (length (kept_of new)) (packet s) (packets s)) (packet s) (Ok count)) (sym same)
    (kept_read (kept_of old) (kept_of new) front count (packet (source_of old)) (packets (source_of old)) joined size)

kept_none : (i : ℕ) (packet : Option Packet) (rest : Packets) → (if nat_lt i 0 then packet else rest (i - 0)) ≡ rest i
kept_none i packet rest =
    let past : nat_lt i 0 ≡ false = grind arith in
    let same : i - 0 ≡ i = omega arith in
    ap (λ (b : Bool). if b then packet else rest (i - 0)) past ∙ ap rest same

after_prepended : (kept n : ℕ) (p q : Option Packet) (a b : Option Packets) → (kept ≡ 0) ⊎ ((n ≡ 0) × (q ≡ p)) → PacketsAfter n a b → PacketsAfter n (prepend_packets kept p a) (prepend_packets kept q b)
after_prepended kept n p q None b one h = tt
after_prepended kept n p q (Some x) None one h = h
after_prepended zero n p q (Some x) (Some y) (inl none) h = λ i. kept_none i q y ∙ h i ∙ sym (kept_none (n + i) p x)
after_prepended (suc kept) n p q (Some x) (Some y) (inl none) h = absurd (omega (arith, none))
after_prepended kept zero p q (Some x) (Some y) (inr same) h = λ i.
    let less : 0 + (i - kept) ≡ i - kept = omega arith in
    let none : i ≡ 0 + i = omega arith in
    ap (λ v. if nat_lt i kept then v else y (i - kept)) same.1 ∙ ap (λ v. if nat_lt i kept then p else v) (h (i - kept) ∙ ap x less)
    ∙ ap (λ (k : ℕ). if nat_lt k kept then p else x (k - kept)) none
after_prepended kept (suc n) p q (Some x) (Some y) (inr same) h = absurd (let none = same.0 in omega (arith, none))

are_prepended : (kept n : ℕ) (p q : Option Packet) (a : Option Packets) → (kept ≡ 0) ⊎ (n ≡ 0) → AreOfPacket n a q → AreOfPacket n (prepend_packets kept p a) q
are_prepended kept n p q None one h = tt
are_prepended zero n p q (Some x) one h = λ i low. kept_none i p x ∙ h i low
are_prepended (suc kept) n p q (Some x) (inl none) h = absurd (omega (arith, none))
are_prepended (suc kept) zero p q (Some x) (inr none) h = λ i low. absurd (omega (arith, low))
are_prepended (suc kept) (suc n) p q (Some x) (inr none) h = absurd (omega (arith, none))

-- a read of the source below where nothing is kept, or into no room
pub packets_through : (kept : ℕ) (p q : Option Packet) (a b : Option Packets) (r : Result ℕ DeviceFault) → ((kept ≡ 0) ⊎ MatchResult r (λ n. n ≡ 0) (λ e. Unit {0})) → LeavesPacket p q r
    → ReadsOfPacket a b q r → ReadsOfPacket (prepend_packets kept p a) (prepend_packets kept q b) q r
packets_through kept p q a b (Ok n) (inl none) leaves h = (after_prepended kept n p q a b (inl none) h.0, are_prepended kept n p q a (inl none) h.1)
packets_through kept p q a b (Ok n) (inr none) leaves h = (after_prepended kept n p q a b (inr (none, leaves none)) h.0, are_prepended kept n p q a (inr none) h.1)
packets_through kept p q a b (Err e) one leaves h = after_prepended kept 0 p q a b (inr (refl, leaves)) h

-- none was taken
after_none : (a : Option Packets) → PacketsAfter 0 a a
after_none None = tt
after_none (Some x) = λ i. ap x (let z : i ≡ 0 + i = omega arith in z)

-- nothing was kept, and nothing is
after_empty : (k l : ℕ) (p q : Option Packet) (a b : Option Packets) → k ≡ 0 → l ≡ 0 → PacketsAfter 0 a b → PacketsAfter 0 (prepend_packets k p a) (prepend_packets l q b)
after_empty zero zero p q a b e f h = after_prepended 0 0 p q a b (inl refl) h
after_empty zero (suc l) p q a b e f h = absurd (omega (arith, f))
after_empty (suc k) l p q a b e f h = absurd (omega (arith, e))

-- these, and then those
after_both : (n m : ℕ) (a b c : Option Packets) → PacketsAfter n a b → PacketsAfter m b c → PacketsAfter (n + m) a c
after_both n m None b c h k = tt
after_both n m (Some x) None c h k = absurd h
after_both n m (Some x) (Some y) None h k = k
after_both n m (Some x) (Some y) (Some z) h k = λ i. k i ∙ h (m + i) ∙ ap x (let e : n + (m + i) ≡ n + m + i = omega arith in e)

-- the calls for bytes that were kept or taken, of which each gave a byte but the last
few_calls : (k0 k1 x y m n r : ℕ) → 0 < m + n → m ≤ r + 0 → (0 < m → m + k0 ≤ x + 1) → (0 < n → n + k1 ≤ y + 1) → k0 + r ≡ x + k1 → m + n + k0 ≤ (x + y) + 1
few_calls k0 k1 x y m zero r some gave before after joined = let b = before (omega (arith, some)) in omega (arith, b)
few_calls k0 k1 x y m (suc n) r some gave before after joined = let a = after (omega arith) in omega (arith, a, gave, joined)

module _ {R : Type 0} (left : R → Option (List ℕ)) (calls : R → ℕ) (packets : R → Option Packets) (packet : R → Option Packet) where
  pub took_nothing : (s : ReadAhead R) → Took left calls packets packet 0 s s []
  took_nothing s = record {
    read = [];
    consumed = Consumes-nil (left (source_of s));
    joined = append-nil (kept_of s);
    count = 0;
    called = ap (λ n. n % 2 ^ 64) (omega arith);
    gave = omega arith;
    few = λ some. absurd (omega (arith, some));
    answered = omega arith;
    of_packets = after_none (packets_of packets packet s);
  }

  pub took_kept : (old new : ReadAhead R) (front : List ℕ) → Rests old new → kept_of old ≡ front ++ kept_of new → Took left calls packets packet 0 old new front
  took_kept old new front rests joined = record {
    read = [];
    consumed = subst (λ (s : R). Consumes (left (source_of old)) (left s) []) (sym rests.source) (Consumes-nil (left (source_of old)));
    joined = append-nil (kept_of old) ∙ joined;
    count = 0;
    called = let same = ap calls rests.source in omega (arith, same);
    gave = omega arith;
    few = λ some. absurd (omega (arith, some));
    answered = let same = rests.answered in omega (arith, same);
    of_packets = (kept_given packets packet old new front (length front) rests.source joined refl).0;
  }

  -- nothing was kept, and a call of the device failed
  pub took_failed : (result : Result Bool DeviceFault) (old new : ReadAhead R) → IsErr result → kept_of old ≡ [] → kept_of new ≡ []
      → Keeps (left (source_of old)) (left (source_of new)) → calls (source_of new) ≡ one_more (calls (source_of old)) → answered_of new ≡ 0 → PacketsAfter 0 (packets (source_of old)) (packets (source_of new))
      → Took left calls packets packet (idle_unless true result) old new []
  took_failed (Ok more) old new failed none empty same called answered after = absurd (IfOk-from_err {E = DeviceFault} (Ok more) (λ _. ⊥) failed)
  took_failed (Err e) old new failed none empty same called answered after = record {
    read = [];
    consumed = Consumes-kept _ _ _ _ (Consumes-nil (left (source_of old))) same;
    joined = append-nil (kept_of old) ∙ none ∙ sym empty;
    count = 1;
    called = omega (arith, called);
    gave = omega arith;
    few = λ some. let size = ap length none in omega (arith, size);
    answered = omega (arith, answered);
    of_packets = after_empty _ _ (packet (source_of old)) (packet (source_of new)) _ _ (ap length none) (ap length empty) after;
  }

  -- a last call of the device may have given nothing
  pub took_at_last : (old new : ReadAhead R) (bytes : List ℕ) → Took left calls packets packet 0 old new bytes → Took left calls packets packet 1 old new bytes
  took_at_last old new bytes t = record {
    read = t.read;
    consumed = t.consumed;
    joined = t.joined;
    count = t.count;
    called = t.called;
    gave = let gave = t.gave in omega (arith, gave);
    few = t.few;
    answered = t.answered;
    of_packets = t.of_packets;
  }

  -- it went on, so that each call gave a byte
  pub went_on : (on said : Bool) (old new : ReadAhead R) → said ≡ on → Took left calls packets packet (idle_unless on (Ok said)) old new [] → Took left calls packets packet 0 old new []
  went_on true said old new is t = subst (λ (b : Bool). Took left calls packets packet (idle_unless true (Ok b)) old new []) is t
  went_on false said old new is t = subst (λ (b : Bool). Took left calls packets packet (idle_unless false (Ok b)) old new []) is t

  -- it went on or not
  pub went : (on : Bool) (result : Result Bool DeviceFault) (old new : ReadAhead R) → Took left calls packets packet (idle_unless on result) old new [] → Took left calls packets packet 1 old new []
  went true (Ok true) old new t = took_at_last old new [] t
  went true (Ok false) old new t = t
  went false (Ok true) old new t = t
  went false (Ok false) old new t = took_at_last old new [] t
  went true (Err e) old new t = t
  went false (Err e) old new t = t

  -- each call gave a byte, whatever is answered
  pub took_either : (said : Bool) (old new : ReadAhead R) → Took left calls packets packet 0 old new [] → Took left calls packets packet (idle_unless false (Ok said)) old new []
  took_either true old new t = took_at_last old new [] t
  took_either false old new t = t

  pub took_more : {idle : ℕ} (old mid new : ReadAhead R) (xs ys : List ℕ) → Took left calls packets packet 0 old mid xs → Took left calls packets packet idle mid new ys
      → Took left calls packets packet idle old new (xs ++ ys)
  took_more {idle = idle} old mid new xs ys a b = record {
    read = a.read ++ b.read;
    consumed = Consumes-trans (left (source_of old)) (left (source_of mid)) (left (source_of new)) a.read b.read a.consumed b.consumed;
    joined = sym (append_assoc (kept_of old) a.read b.read) ∙ ap (λ l. l ++ b.read) a.joined ∙ append_assoc xs (kept_of mid) b.read
        ∙ ap (λ l. xs ++ l) b.joined ∙ sym (append_assoc xs ys (kept_of new));
    count = a.count + b.count;
    called = let x = a.called in let y = b.called in omega (arith, x, y);
    gave = let x = a.gave in let y = b.gave in omega (arith, x, y, length-append a.read b.read);
    few = λ some. subst (λ n. a.count + b.count + length (kept_of old) ≤ n + 1) (sym (length-append xs ys))
        (few_calls (length (kept_of old)) (length (kept_of mid)) (length xs) (length ys) a.count b.count (length a.read) some a.gave a.few b.few
        (sym (length-append (kept_of old) a.read) ∙ ap length a.joined ∙ length-append xs (kept_of mid)));
    answered = let x = a.answered in let y = b.answered in omega (arith, x, y);
    of_packets = subst (λ (n : ℕ). PacketsAfter n (packets_of packets packet old) (packets_of packets packet new)) (sym (length-append xs ys))
        (after_both (length xs) (length ys) (packets_of packets packet old) (packets_of packets packet mid) (packets_of packets packet new) a.of_packets b.of_packets);
  }
