-- What may follow bytes of a file: the bytes that its grammar spells from there on. A head is read as
-- its grammar says it, so bytes that are read with no fault are spelled; and a fault is at a place
-- that was read.
use Rattle.std.proofs.Common.{◌≡◌, ℕ, zero, suc, ◌+◌, ◌-◌, ◌<◌, ◌≤◌, ◌%◌, ◌^◌, Bool, true, false, cond, nat_eq, List, [], ◌∷◌, ◌++◌, length}
use Rattle.std.proofs.Common.{Option, None, Some, refl, sym, ap, subst, ◌∙◌, arith, append_assoc, length-append}
use Rattle.dbus_capture.specs.Types.{ByteOrder, Stage, Raw, FileHeader, Record, Section, Block, InterfaceHead, OptionHead, Resolution}
use Rattle.dbus_capture.specs.Types.{InterfaceTrailer, Enhanced, ObsoletePacket, Simple, RecordFront, BlockFront, Trailer, CaptureFault, Truncated, Interface, Scan}
use Rattle.dbus_capture.specs.Numbers.{u32_bytes}
use Rattle.dbus_capture.specs.Stages.{want, is_raw, begun}
use Rattle.dbus_capture.specs.Scans.{place}
use Rattle.dbus_capture.specs.Blocks.{decoded}
use Rattle.dbus_capture.specs.Steps.{Gathers, turn_by, stepped, step, run, may_end, ended}
use Rattle.dbus_capture.specs.Outcomes.{AreBytes, PcapFile, PcapngFile}
use Rattle.dbus_capture.specs.PcapFiles.{PcapPacket, packets_bytes, captures, AllFitPackets}
use Rattle.dbus_capture.specs.CutPackets.{IsCaptured, AreCaptured, alone_after, alone_all}
use Rattle.dbus_capture.specs.BlockFiles.{InterfaceOption, options_bytes, end_bytes, AllFitOptions, FitsEnd, with_options, FileBlock}
use Rattle.dbus_capture.specs.BlockFiles.{block_kind, block_body, blocks_bytes, interfaces_after, FitsBlock, AllFitBlocks, FileSection}
use Rattle.dbus_capture.specs.BlockFiles.{sections_bytes, AllFitSections, block_packets, blocks_packets, sections_packets}
use Rattle.dbus_capture.proofs.Choices.{eq_told, when}
use Rattle.dbus_capture.proofs.ByteLaws.{are_joined}

-- ---- what may follow

-- what is kept beside the head
pub record Context : Type 0 where
  pub passes : Bool
  pub alone : Bool
  pub order : ByteOrder
  pub total : ℕ
  pub interfaces : List Interface
  pub behind : ℕ

abbrev pub context : Scan → Context
context s = record { passes = s.passes_cut; alone = s.alone; order = s.order; total = s.total; interfaces = s.interfaces; behind = s.behind }

pub record Packets (passes alone : Bool) (order : ByteOrder) (bytes : List ℕ) : Type 0 where
  pub packets : List PcapPacket
  pub fit : AllFitPackets packets
  pub captured : AreCaptured passes alone (captures packets)
  pub joined : bytes ≡ packets_bytes order packets

-- blocks of a section with these interfaces, and then sections
pub record Blocks (passes alone : Bool) (order : ByteOrder) (interfaces : List Interface) (bytes : List ℕ) : Type 0 where
  pub blocks : List FileBlock
  pub sections : List FileSection
  pub fit : AllFitBlocks order interfaces blocks
  pub fits : AllFitSections sections
  pub captured : AreCaptured passes alone (blocks_packets interfaces blocks ++ sections_packets sections)
  pub joined : bytes ≡ blocks_bytes order blocks ++ sections_bytes sections

-- the length at the end of a block, and then these
pub record Closing (passes alone : Bool) (order : ByteOrder) (total : ℕ) (interfaces : List Interface) (bytes : List ℕ) : Type 0 where
  pub tail : List ℕ
  pub joined : bytes ≡ u32_bytes order total ++ tail
  pub blocks : Blocks passes alone order interfaces tail

-- options of an interface with their end, of so many bytes, and the end of its block
pub record Options (c : Context) (rest : ℕ) (i : Interface) (bytes : List ℕ) : Type 0 where
  pub options : List InterfaceOption
  pub end : Option (List ℕ)
  pub tail : List ℕ
  pub fit : AllFitOptions options
  pub ends : FitsEnd end
  pub size : length (options_bytes c.order options ++ end_bytes c.order end) ≡ rest
  pub joined : bytes ≡ (options_bytes c.order options ++ end_bytes c.order end) ++ tail
  pub few : length c.interfaces < 64
  pub closing : Closing c.passes c.alone c.order c.total (c.interfaces ++ with_options i options ∷ []) tail

-- the value of `if_tsresol` with its padding, and then more options
pub record TimeUnit (c : Context) (rest : ℕ) (i : Interface) (bytes : List ℕ) : Type 0 where
  pub value : ℕ
  pub filler : List ℕ
  pub more : List ℕ
  pub filled : length filler ≡ 3
  pub joined : bytes ≡ (value ∷ filler) ++ more
  pub options : Options c rest (record i { resolution = value }) more

-- the body of a block of this type, and its end
pub record Body (c : Context) (kind : ℕ) (bytes : List ℕ) : Type 0 where
  pub block : FileBlock
  pub tail : List ℕ
  pub kind_is : block_kind block ≡ kind
  pub size : 12 + length (block_body c.order block) ≡ c.total
  pub fits : FitsBlock c.interfaces block
  pub captured : AreCaptured c.passes c.alone (block_packets c.interfaces block)
  pub joined : bytes ≡ block_body c.order block ++ tail
  pub closing : Closing c.passes (alone_all c.alone (block_packets c.interfaces block)) c.order c.total (interfaces_after c.interfaces block) tail

-- the first bytes of a packet of so many, its others, what is passed over behind it, and what follows
pub record Front (passes : Bool) (behind rest : ℕ) (After : Bool → List ℕ → Type 0) (bytes : List ℕ) : Type 0 where
  pub packet : List ℕ
  pub fill : List ℕ
  pub tail : List ℕ
  pub size : length packet ≡ rest
  pub filled : length fill ≡ behind
  pub joined : bytes ≡ packet ++ (fill ++ tail)
  pub captured : IsCaptured passes true (record { original = rest; bytes = packet })
  pub after : After (alone_after true (record { original = rest; bytes = packet })) tail

-- from a head on, with so many bytes of options left, in the block of this interface
abbrev pub FollowsHead : Stage → Context → (rest : ℕ) → Interface → List ℕ → Type 0
FollowsHead Raw c rest i bytes = ⊥
FollowsHead FileHeader c rest i bytes = PcapFile c.passes c.alone bytes
FollowsHead Record c rest i bytes = Packets c.passes c.alone c.order bytes
FollowsHead Section c rest i bytes = PcapngFile c.passes c.alone bytes
FollowsHead Block c rest i bytes = Blocks c.passes c.alone c.order c.interfaces bytes
FollowsHead InterfaceHead c rest i bytes = Body c 1 bytes
FollowsHead OptionHead c rest i bytes = Options c rest i bytes
FollowsHead Resolution c rest i bytes = TimeUnit c rest i bytes
FollowsHead InterfaceTrailer c rest i bytes = (length c.interfaces < 64) × Closing c.passes c.alone c.order c.total (c.interfaces ++ i ∷ []) bytes
FollowsHead Enhanced c rest i bytes = Body c 6 bytes
FollowsHead ObsoletePacket c rest i bytes = Body c 2 bytes
FollowsHead Simple c rest i bytes = Body c 3 bytes
FollowsHead RecordFront c rest i bytes = Front c.passes c.behind rest (λ alone after. Packets c.passes alone c.order after) bytes
FollowsHead BlockFront c rest i bytes = Front c.passes c.behind rest (λ alone after. Closing c.passes alone c.order c.total c.interfaces after) bytes
FollowsHead Trailer c rest i bytes = Closing c.passes c.alone c.order c.total c.interfaces bytes

abbrev pub FollowsFrom : Stage → Scan → List ℕ → Type 0
FollowsFrom stage s bytes = FollowsHead stage (context s) s.rest s.interface bytes

-- after what is given and skipped
pub record Follows (s : Scan) (bytes : List ℕ) : Type 0 where
  pub unfaulted : s.fault ≡ None
  pub fill : List ℕ
  pub more : List ℕ
  pub size : length fill ≡ s.give + s.skip
  pub joined : bytes ≡ fill ++ more
  pub rest : FollowsFrom s.head.stage s (s.head.bytes ++ more)

-- ---- where a fault is

-- what holds before a head of the packets before it, of the block's length, and of what is left
abbrev pub IsSound : Stage → (alone : Bool) → (total rest : ℕ) → Type 0
IsSound InterfaceHead alone total rest = (20 ≤ total) × (rest ≡ total - 20) × (total % 4 ≡ 0)
IsSound OptionHead alone total rest = (rest % 4 ≡ 0) × (0 < rest)
IsSound Resolution alone total rest = rest % 4 ≡ 0
IsSound Enhanced alone total rest = 32 ≤ total
IsSound ObsoletePacket alone total rest = 32 ≤ total
IsSound Simple alone total rest = 16 ≤ total
IsSound RecordFront alone total rest = (16 ≤ rest) × (alone ≡ true)
IsSound BlockFront alone total rest = (16 ≤ rest) × (alone ≡ true)
IsSound _ alone total rest = Unit {0}

-- n bytes were read from the place p on, and a fault is among them
abbrev pub IsAt : (p n : ℕ) → Scan → Option CaptureFault → Type 0
IsAt p n s None = (w : ℕ) × (s.next ≡ place (p + w)) × (w + length s.head.bytes ≡ n + (s.give + s.skip))
IsAt p n s (Some f) = (w : ℕ) × (f.at ≡ place (p + w)) × (w ≤ n)

pub record Standing (p n : ℕ) (s : Scan) : Type 0 where
  pub filed : is_raw s.head.stage ≡ false
  pub sound : IsSound s.head.stage s.alone s.total s.rest
  pub are : AreBytes s.head.bytes
  pub at : IsAt p n s s.fault

-- what a head comes to
pub record Goes (stage : Stage) (p w : ℕ) (s : Scan) (h : List ℕ) (t : Scan) : Type 0 where
  pub stands : Standing p (w + length h) t
  pub follows : (more : List ℕ) → Follows t more → FollowsFrom stage s (h ++ more)

-- nothing is given or skipped before what follows
pub unfilled : (t : Scan) (bytes : List ℕ) → t.give ≡ 0 → t.skip ≡ 0 → Follows t bytes → FollowsFrom t.head.stage t (t.head.bytes ++ bytes)
unfilled t bytes g k f = subst (λ l. FollowsFrom t.head.stage t (t.head.bytes ++ l))
    (sym (f.joined ∙ ap (λ l. l ++ f.more) (no_bytes f.fill (f.size ∙ let z : t.give + t.skip ≡ 0 = omega (arith, g, k) in z)))) f.rest
  where
    no_bytes : (l : List ℕ) → length l ≡ 0 → l ≡ []
    no_bytes [] e = refl
    no_bytes (x ∷ xs) e = absurd (omega (arith, e))

pub filled : (s : Scan) (bytes : List ℕ) → s.fault ≡ None → s.give ≡ 0 → s.skip ≡ 0 → FollowsFrom s.head.stage s (s.head.bytes ++ bytes)
    → Follows s bytes
filled s bytes u g k f = record {
  unfaulted = u;
  fill = [];
  more = bytes;
  size = let z : 0 ≡ s.give + s.skip = omega (arith, g, k) in z;
  joined = refl;
  rest = f;
}

-- ---- one byte, if a whole head goes on

abbrev pub HeadsGo : Type 0
HeadsGo = (stage : Stage) (p w : ℕ) (s : Scan) (h : List ℕ) → is_raw stage ≡ false → IsSound stage s.alone s.total s.rest → s.fault ≡ None
    → s.give ≡ 0 → s.skip ≡ 0 → s.next ≡ place (p + w) → AreBytes h → length h ≡ want stage
    → Goes stage p w s h (decoded (record s { head = begun stage }) h)

record Steps (p n : ℕ) (s : Scan) (b : ℕ) (t : Scan) : Type 0 where
  stands : Standing p (suc n) t
  follows : (bytes : List ℕ) → Follows t bytes → Follows s (b ∷ bytes)

module _ (heads : HeadsGo) (p n : ℕ) (s : Scan) (z : Standing p n s) where
  at_none : s.fault ≡ None → IsAt p n s None
  at_none e = subst (IsAt p n s) e z.at

  -- a byte is given or skipped
  taken : (b : ℕ) → s.fault ≡ None → (give skip : ℕ) → s.give + s.skip ≡ suc (give + skip) → Steps p n s b (record s { give = give; skip = skip })
  taken b e give skip left =
      let at = at_none e in
      let later : IsAt p (suc n) (record s { give = give; skip = skip }) None = (at.0, at.1, omega (arith, at.2, left)) in
      record {
        stands = record { filed = z.filed; sound = z.sound; are = z.are; at = subst (IsAt p (suc n) (record s { give = give; skip = skip })) (sym e) later };
        follows = λ bytes x. record {
          unfaulted = e;
          fill = b ∷ x.fill;
          more = x.more;
          size = omega (arith, x.size, left);
          joined = ap (λ l. b ∷ l) x.joined;
          rest = x.rest;
        };
      }

  steps_by : (b : ℕ) → b < 256 → (f : Option CaptureFault) (raw : Bool) (give skip : ℕ) → s.fault ≡ f → is_raw s.head.stage ≡ raw
      → s.give ≡ give → s.skip ≡ skip → Steps p n s b (stepped s b (turn_by f raw give skip))
  steps_by b low (Some f) raw give skip e r g k =
      let at : IsAt p n s (Some f) = subst (IsAt p n s) e z.at in
      let later : at.0 ≤ suc n = omega arith in
      record {
        stands = record { filed = z.filed; sound = z.sound; are = z.are; at = subst (IsAt p (suc n) s) (sym e) (at.0, at.1, later) };
        follows = λ bytes x. absurd (let u = x.unfaulted in let none : ◌≡◌ {A = Option CaptureFault} (Some f) None = sym e ∙ u in cc);
      }
  steps_by b low None true give skip e r g k = absurd (let f = z.filed in cc)
  steps_by b low None false (suc give) skip e r g k = taken b e (s.give - 1) s.skip (omega (arith, g))
  steps_by b low None false zero (suc skip) e r g k = taken b e s.give (s.skip - 1) (omega (arith, g, k))
  steps_by b low None false zero zero e r g k =
      let at = at_none e in
      let held = s.head.bytes in
      let h = held ++ b ∷ [] in
      let longer : length h ≡ length held + 1 = length-append held (b ∷ []) in
      let are = are_joined held b z.are low in
      let head_then : (bytes : List ℕ) → FollowsFrom s.head.stage s (h ++ bytes) → Follows s (b ∷ bytes) = λ bytes x.
      filled s (b ∷ bytes) e g k (subst (FollowsFrom s.head.stage s) (append_assoc held (b ∷ []) bytes) x) in
      let part : Scan = record s { head = record { stage = s.head.stage; bytes = h } } in
      when (Steps p n s b) (nat_eq (length h) (want s.head.stage)) (decoded (record s { head = begun s.head.stage }) h) part
      (λ whole.
      let size : length h ≡ want s.head.stage = eq_told _ _ whole in
      let go = heads s.head.stage p at.0 s h z.filed z.sound e g k at.1 are size in
      let more : at.0 + length h ≡ suc n = omega (arith, at.2, longer, g, k) in
      record {
        stands = subst (λ m. Standing p m (decoded (record s { head = begun s.head.stage }) h)) more go.stands;
        follows = λ bytes x. head_then bytes (go.follows bytes x);
      })
      (λ less. record {
        stands = record { filed = z.filed; sound = z.sound; are = are; at = subst (IsAt p (suc n) part) (sym e) (at.0, at.1, omega (arith, at.2, longer)) };
        follows = λ bytes x. head_then bytes (unfilled part bytes g k x);
      })

-- ---- the end

-- no fault is left at the end only if a file may end there
abbrev EndsAt : (p n : ℕ) → Scan → Option CaptureFault → Type 0
EndsAt p n s None = Follows s []
EndsAt p n s (Some f) = (w : ℕ) × (f.at ≡ place (p + w)) × (w ≤ n)

module _ (p n : ℕ) (s : Scan) (z : Standing p n s) where
  abbrev cut : Scan
  cut = record s { fault = Some (record { at = place (s.next + length s.head.bytes + 2 ^ 64 - place (s.give + s.skip)); reason = Truncated }) }

  cut_at : s.fault ≡ None → EndsAt p n s cut.fault
  cut_at e =
      let at : IsAt p n s None = subst (IsAt p n s) e z.at in
      (n, omega (arith, at.1, at.2), omega arith)

  file_ends : (stage : Stage) (held : List ℕ) (t : Scan) → may_end Gathers stage held ≡ true → FollowsFrom stage t (held ++ [])
  file_ends Record [] t e = record { packets = []; fit = tt; captured = tt; joined = refl }
  file_ends Block [] t e = record { blocks = []; sections = []; fit = tt; fits = tt; captured = tt; joined = refl }
  file_ends Record (x ∷ xs) t e = cc
  file_ends Block (x ∷ xs) t e = cc
  file_ends _ held t e = cc

  ends_by : (f : Option CaptureFault) (raw : Bool) (give skip : ℕ) → s.fault ≡ f → is_raw s.head.stage ≡ raw → s.give ≡ give → s.skip ≡ skip
      → EndsAt p n s (cond (may_end (turn_by f raw give skip) s.head.stage s.head.bytes) s cut).fault
  ends_by (Some f) raw give skip e r g k = subst (EndsAt p n s) (sym e) (subst (IsAt p n s) e z.at)
  ends_by None true give skip e r g k = absurd (let f = z.filed in cc)
  ends_by None false (suc give) skip e r g k = cut_at e
  ends_by None false zero (suc skip) e r g k = cut_at e
  ends_by None false zero zero e r g k = when (λ (v : Scan). EndsAt p n s v.fault) (may_end Gathers s.head.stage s.head.bytes) s cut
      (λ may. subst (EndsAt p n s) (sym e) (filled s [] e g k (file_ends s.head.stage s.head.bytes s may)))
      (λ not. cut_at e)

-- ---- all bytes

pub record Reaches (p n : ℕ) (s : Scan) (bytes : List ℕ) (o : Option CaptureFault) : Type 0 where
  pub within : (f : CaptureFault) → o ≡ Some f → (w : ℕ) × (f.at ≡ place (p + w)) × (w ≤ n + length bytes)
  pub spelled : o ≡ None → Follows s bytes

module _ (heads : HeadsGo) where
  pub reaches : (p n : ℕ) (s : Scan) (bytes : List ℕ) → Standing p n s → AreBytes bytes → Reaches p n s bytes (ended (run s bytes)).fault
  unfolding run step
  reaches p n s [] z are =
      let end = ends_by p n s z s.fault (is_raw s.head.stage) s.give s.skip refl refl refl refl in
      record {
        within = λ f e. let w : EndsAt p n s (Some f) = subst (EndsAt p n s) e end in (w.0, w.1, omega arith);
        spelled = λ e. subst (EndsAt p n s) e end;
      }
  reaches p n s (b ∷ bytes) z are =
      let one = steps_by heads p n s z b are.0 s.fault (is_raw s.head.stage) s.give s.skip refl refl refl refl in
      let all = reaches p (suc n) (step s b) bytes one.stands are.1 in
      record {
        within = λ f e. let w = all.within f e in (w.0, w.1, omega arith);
        spelled = λ e. one.follows bytes (all.spelled e);
      }
