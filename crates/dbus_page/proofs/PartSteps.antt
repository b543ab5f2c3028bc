-- The turns in which all that a source gives is read.
use borrow.Rule.Slice.PartMut.{put_mid}
use Rattle.std.specs.Io.KnownBytes.{Consumes}
use Rattle.std.proofs.KnownBytes.{Consumes-trans}
use Rattle.std.proofs.Common.{◌≡◌, ℕ, ◌+◌, ◌-◌, ◌<◌, ◌≤◌, List, [], ◌∷◌, ◌++◌, length, take, Option, None, Some, set, refl, sym, ap, subst, ◌∙◌, arith, append-nil, length-append}
use Rattle.std.proofs.lemmas.List.{length-take, take-append-le, take_more_set}
use Rattle.std.proofs.lemmas.Slice.{take-put_mid_below}
use Rattle.std.proofs.Math.Seq.{take-append-add}
use Rattle.dbus_device.specs.Packets.{Packets, PacketsAfter, AreOfPacket}
use Rattle.dbus_device.specs.declared.packet.Packet.{Packet}
use Rattle.dbus_page.specs.Parts.{AreParts, number_in, time_in, time_of}
use Rattle.dbus_page.specs.declared.unpacking.PagePart.{PagePart}

-- one part more
pub parts_more : (packets : Packets) (begin end next : ℕ) (parts : List PagePart) (part : PagePart) (packet : Option Packet) → AreParts packets begin parts end → part.start ≡ end → end < next
    → ((i : ℕ) → end ≤ i → i < next → packets i ≡ packet) → part.packet ≡ number_in packet → time_of part ≡ time_in packet → AreParts packets begin (parts ++ part ∷ []) next
parts_more packets begin end next [] part packet are starts le of numbered timed =
    let first : packets begin ≡ packet = of begin (omega (arith, are)) (omega (arith, are, le)) in (next, starts ∙ sym are, omega (arith, are, le), λ i from to. of i (omega (arith, are, from)) to ∙ sym first, numbered ∙ sym (ap number_in first), timed ∙ sym (ap time_in first), refl)
parts_more packets begin end next (p ∷ parts) part packet are starts le of numbered timed = (are.0, are.1, are.2, are.3, are.4, are.5, parts_more packets are.0 end next parts part packet are.6 starts le of numbered timed)

-- the front of what was read into a part of the room
pub front_read : (room part : List ℕ) (n m k : ℕ) → n ≤ length room → k ≤ length part → take (n + k) (put_mid n m room part) ≡ take n room ++ take k part
front_read room part n m k fits within =
    let long : length (take n room) ≡ n = omega (arith, length-take n room, fits) in
    ap (λ (j : ℕ). take (j + k) (put_mid n m room part)) (sym long) ∙ (take-append-add (take n room) (part ++ _) k ∙ ap (λ (l : List ℕ). take n room ++ l) (take-append-le k part _ within))

-- what is left after so many bytes, and then after more
pub after_both : (n k : ℕ) (old now new : Option Packets) → PacketsAfter n old now → PacketsAfter k now new → PacketsAfter (n + k) old new
after_both n k None now new p q = tt
after_both n k (Some a) None new p q = absurd p
after_both n k (Some a) (Some b) None p q = absurd q
after_both n k (Some a) (Some b) (Some c) p q = λ i. q i ∙ (p (k + i) ∙ ap a (omega arith))

after_none : (old : Option Packets) → PacketsAfter 0 old old
after_none None = tt
after_none (Some a) = λ i. ap a (omega arith)

-- the packet of the next bytes
pub of_packet : (n k : ℕ) (packets : Packets) (now : Option Packets) (packet : Option Packet) → PacketsAfter n (Some packets) now → AreOfPacket k now packet → (i : ℕ) → n ≤ i → i < n + k → packets i ≡ packet
of_packet n k packets None packet p q i from to = absurd p
of_packet n k packets (Some b) packet p q i from to =
    let apart : n + (i - n) ≡ i = omega (arith, from) in
    ap packets (sym apart) ∙ (sym (p (i - n)) ∙ q (i - n) (omega (arith, from, to)))

-- so many bytes were read, in so many parts
pub record ReadsUpTo {S : Type 0} (left : S → Option (List ℕ)) (packets : S → Option Packets) (old now : S) (room : List ℕ) (size : ℕ) (parts : List PagePart) (number : ℕ) : Type 0 where
  pub within : size ≤ length room
  pub read : Consumes (left old) (left now) (take size room)
  pub after : PacketsAfter size (packets old) (packets now)
  pub in_parts : (p : Packets) → packets old ≡ Some p → AreParts p 0 (take number parts) size

module _ {S : Type 0} (left : S → Option (List ℕ)) (packets : S → Option Packets) where
  pub none_read : (old : S) (room : List ℕ) (parts : List PagePart) → Consumes (left old) (left old) [] → ReadsUpTo left packets old old room 0 parts 0
  none_read old room parts none = record { within = omega arith; read = none; after = after_none (packets old); in_parts = λ p is. refl }

  -- a read that gives no byte
  pub same_read : (old now new : S) (room part : List ℕ) (size m count : ℕ) (parts : List PagePart) (number : ℕ) → ReadsUpTo left packets old now room size parts number → count ≡ 0
      → Consumes (left now) (left new) (take count part) → Consumes (left old) (left new) (take size (put_mid size m room part))
  same_read old now new room part size m count parts number u none consumed =
      let nothing : take size room ++ take count part ≡ take size room = ap (λ (k : ℕ). take size room ++ take k part) none ∙ append-nil (take size room) in
      let front : take size (put_mid size m room part) ≡ take size room = take-put_mid_below size m room part size (omega arith) u.within in
      subst (λ (l : List ℕ). Consumes (left old) (left new) l) (nothing ∙ sym front) (Consumes-trans _ _ _ _ _ u.read consumed)

  pub more_read : (old now new : S) (room part : List ℕ) (size m count : ℕ) (parts : List PagePart) (number : ℕ) (x : PagePart) (packet : Option Packet)
      → ReadsUpTo left packets old now room size parts number → 0 < count → count ≤ length part → number < length parts
      → Consumes (left now) (left new) (take count part) → PacketsAfter count (packets now) (packets new) → AreOfPacket count (packets now) packet
      → x.start ≡ size → x.packet ≡ number_in packet → time_of x ≡ time_in packet
      → take (size + count) (put_mid size m room part) ≡ take size room ++ take count part
      → ReadsUpTo left packets old new (put_mid size m room part) (size + count) (set parts number x) (number + 1)
  more_read old now new room part size m count parts number x packet u some within place consumed after of starts numbered timed front = record {
    within = omega (arith, ap length front, length-append (take size room) (take count part), length-take (size + count) (put_mid size m room part), length-take size room, length-take count part, u.within, within);
    read = subst (λ (l : List ℕ). Consumes (left old) (left new) l) (sym front) (Consumes-trans _ _ _ _ _ u.read consumed);
    after = after_both size count (packets old) (packets now) (packets new) u.after after;
    in_parts = λ p is.
        let known = subst (λ (o : Option Packets). PacketsAfter size o (packets now)) is u.after in
        subst (λ (l : List PagePart). AreParts p 0 l (size + count)) (sym (take_more_set parts number x place))
        (parts_more p 0 size (size + count) (take number parts) x packet (u.in_parts p is) starts (omega (arith, some)) (of_packet size count p (packets now) packet known of) numbered timed);
  }
