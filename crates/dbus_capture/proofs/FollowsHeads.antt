-- Each head is read as the grammar says it.
use Rattle.std.proofs.Common.{◌≡◌, ◌≢◌, ◌⊎◌, inl, inr, ℕ, ◌+◌, ◌-◌, ◌*◌, ◌<◌, ◌≤◌, ◌%◌, ◌^◌, Bool, true, false, cond, nat_lt, List, [], ◌∷◌}
use Rattle.std.proofs.Common.{◌++◌, length, take, drop, Option, None, Some, refl, sym, ap, subst, ◌∙◌, arith, append_assoc, length-append}
use Rattle.std.proofs.Common.{take-append-drop}
use Rattle.std.specs.Prelude.{◌&&◌, ◌||◌, ◌==◌, nat_le, slice_get, slice_index}
use Rattle.std.proofs.lemmas.Bool.{and_parts, or_cases}
use Rattle.std.proofs.lemmas.Bool.Decides.{nat_tests}
use Rattle.std.proofs.lemmas.List.{length-take-le, length-drop, drop-drop, take_all, take_at}
use Rattle.dbus_capture.specs.Types.{ByteOrder, Little, Big, Stage, CaptureReason, Interface, Scan, PacketHead}
use Rattle.dbus_capture.specs.declared.stage.Stage.TheVariants as stages
use Rattle.dbus_capture.specs.declared.fault.CaptureReason.TheVariants as reasons
use Rattle.dbus_capture.specs.Numbers.{u32_bytes, u16_bytes, u32_at, u16_at}
use Rattle.dbus_capture.specs.Stages.{is_raw, front_before, after_front, begun, want}
use Rattle.dbus_capture.specs.Scans.{place, refused}
use Rattle.dbus_capture.specs.Heads.{file_header_by, file_header_in, cut_packet, packet_head, front_head}
use Rattle.dbus_capture.specs.Blocks.{padded, is_length, section_in, section_by, block_by, after_option}
use Rattle.dbus_capture.specs.Blocks.{pass_option, block_packet, time_of}
use Rattle.dbus_capture.specs.Blocks.{enhanced_by, captured_length, simple_by, decoded, decoded_by}
use Rattle.dbus_capture.specs.CutPackets.{stated, Captured, IsCaptured, AreCaptured, is_cut, alone_after, alone_all}
use Rattle.dbus_capture.specs.Outcomes.{AreBytes, PcapngFile}
use Rattle.dbus_capture.specs.PcapFiles.{magic_number}
use Rattle.dbus_capture.specs.BlockFiles.{InterfaceBlock, PacketBlock, OtherBlock, PacketForm, EnhancedHead, ObsoleteHead, SimpleHead, head_kind, head_bytes, head_interface, FitsHead}
use Rattle.dbus_capture.specs.BlockFiles.{block_body, InterfaceOption, options_bytes, end_bytes, FitsOption}
use Rattle.dbus_capture.specs.BlockFiles.{with_option, with_options, FileSection, section_body, interfaces_after, packet_by, block_packets, blocks_packets, sections_packets}
use Rattle.dbus_capture.proofs.Choices.{eq_told, eq_untold, lt_untold, le_untold, when, when_true, when_false}
use Rattle.dbus_capture.proofs.NumberLaws.{u32_size, u16_size}
use Rattle.dbus_capture.proofs.CutLaws.{stated_front, alone_kept, alone_still, whole_told, cut_by, short_by, whole_by, fits_by}
use Rattle.dbus_capture.proofs.Leads.{captured_both}
use Rattle.dbus_capture.proofs.ByteLaws.{u32_low, u16_low, u32_as, u16_as, u32_ends, u16_ends}
use Rattle.dbus_capture.proofs.Follows.{Context, context, Packets, Blocks, Front, Closing, Options, TimeUnit, Body}
use Rattle.dbus_capture.proofs.Follows.{FollowsHead, FollowsFrom, Follows, IsSound, IsAt, Goes, unfilled, HeadsGo}

cat : (a b c d : List ℕ) → a ≡ b → c ≡ d → a ++ c ≡ b ++ d
cat a b c d p q = ap (λ l. l ++ c) p ∙ ap (λ l. b ++ l) q

length_told : (least total : ℕ) → is_length least total ≡ true → (total % 4 ≡ 0) × (least ≤ total)
length_told least total e =
    let both = and_parts (total % 4 == 0) (nat_le least total) e in
    let least_is : least ≤ total = grind (arith, nat_tests, both.1) in
    (eq_told _ _ both.0, least_is)

after_filed : (rest : ℕ) → is_raw (after_option rest) ≡ false
after_filed rest = when (λ v. is_raw v ≡ false) (rest == 0) _ _ (λ e. refl) (λ e. refl)

after_sound : (alone : Bool) (total rest : ℕ) → rest % 4 ≡ 0 → IsSound (after_option rest) alone total rest
after_sound alone total rest whole = when (λ v. IsSound v alone total rest) (rest == 0) _ _ (λ e. tt)
    (λ e. (whole, let some = eq_untold rest 0 e in omega (arith, some)))

options_after : (c : Context) (rest : ℕ) (i : Interface) (bytes : List ℕ) → FollowsHead (after_option rest) c rest i bytes
    → Options c rest i bytes
options_after c rest i bytes = when (λ v. FollowsHead v c rest i bytes → Options c rest i bytes)
    (rest == 0) stages.InterfaceTrailer stages.OptionHead
    (λ e f. record { options = []; end = None; tail = bytes; fit = tt; ends = tt; size = sym (eq_told rest 0 e); joined = refl; few = f.0; closing = f.1 })
    (λ e f. f)

first_is : (h : List ℕ) → 0 < length h → h ≡ slice_index h 0 ∷ drop 1 h
first_is [] low = absurd (omega (arith, low))
first_is (x ∷ xs) low = refl

module _ (p w : ℕ) (s : Scan) (h : List ℕ) (clean : s.fault ≡ None) (none : s.give ≡ 0) (no_skip : s.skip ≡ 0)
    (next_is : s.next ≡ place (p + w)) (are : AreBytes h) where
  abbrev at : Stage → Scan
  at stage = record s { head = begun stage }

  abbrev G : Stage → Scan → Type 0
  G stage t = Goes stage p w s h t

  -- a head of another kind may be there already
  refuse_in : (stage next : Stage) (k : ℕ) (r : CaptureReason) → is_raw next ≡ false → IsSound next s.alone s.total s.rest → k ≤ length h
      → G stage (refused (at next) k r)
  refuse_in stage next k r filed sound low = record {
    stands = record { filed = filed; sound = sound; are = tt; at = (w + k, omega (arith, next_is), omega (arith, low)) };
    follows = λ more f. absurd (let u = f.unfaulted in cc);
  }

  refuse : (stage : Stage) (k : ℕ) (r : CaptureReason) → is_raw stage ≡ false → IsSound stage s.alone s.total s.rest → k ≤ length h
      → G stage (refused (at stage) k r)
  refuse stage = refuse_in stage stage

  go : (stage : Stage) (t : Scan) (k : ℕ) → is_raw t.head.stage ≡ false → IsSound t.head.stage t.alone t.total t.rest → AreBytes t.head.bytes
      → t.fault ≡ None → t.next ≡ place (s.next + k)
      → k + length t.head.bytes ≡ length h + (t.give + t.skip) → ((more : List ℕ) → Follows t more → FollowsFrom stage s (h ++ more))
      → G stage t
  go stage t k filed sound held u moved even follows = record {
    stands = record { filed = filed; sound = sound; are = held; at = subst (IsAt p (w + length h) t) (sym u) (w + k, omega (arith, moved, next_is), omega (arith, even)) };
    follows = follows;
  }

  -- ---- a packet, if it is of D-Bus

  module _ (stage next : Stage) (q : PacketHead) (After : Bool → List ℕ → Type 0) (filed : (is_raw next ≡ false) × (is_raw (front_before next) ≡ false)) (sound : IsSound next s.alone s.total s.rest)
      (fronts : 16 ≤ q.captured → s.alone ≡ true → IsSound (front_before next) s.alone s.total q.captured) (low : q.captured_at ≤ length h) (low_original : q.original_at ≤ length h) (size : q.size ≡ length h) (within : q.captured ≤ q.room)
      (plain : (after : List ℕ) → FollowsFrom next s after → After s.alone after)
      (opened : (behind rest : ℕ) (bytes : List ℕ) → FollowsHead (front_before next) (record (context s) { behind = behind }) rest s.interface bytes → Front s.passes_cut behind rest After bytes)
      (spelled : (more fill after : List ℕ) → more ≡ fill ++ after → length fill ≡ q.room → let c : Captured = record { original = q.original; bytes = take q.captured fill } in IsCaptured s.passes_cut s.alone c → After (alone_after s.alone c) after → FollowsFrom stage s (h ++ more)) where
    abbrev one : List ℕ → Captured
    one fill = record { original = q.original; bytes = take q.captured fill }

    one_size : (fill : List ℕ) → length fill ≡ q.room → length (take q.captured fill) ≡ q.captured
    one_size fill long = length-take-le q.captured fill (omega (arith, long, within))

    cut_goes : (k : ℕ) → k ≤ length h → q.captured ≤ q.original → ((bytes : List ℕ) → length bytes ≡ q.captured → is_cut s.alone (record { original = q.original; bytes = bytes }) ≡ true) → G stage (cut_packet (at next) q.size q.room k)
    cut_goes k there most cut = when (G stage) s.passes_cut _ _
        (λ passes. go stage _ (q.size + q.room) filed.0 sound tt clean refl (omega (arith, size, none)) (λ more f.
        let long : length f.fill ≡ q.room = let n = f.size in omega (arith, n, none) in
        let n = one_size f.fill long in
        let is = cut (take q.captured f.fill) n in
        spelled more f.fill f.more f.joined long (omega (arith, n, most), λ e. passes) (subst (λ (a : Bool). After a f.more) (sym (alone_kept s.alone (one f.fill) is)) (plain f.more f.rest))))
        (λ fails. refuse_in stage next k reasons.PacketCut filed.0 sound there)

    pub packet_head_goes : G stage (packet_head (at next) q)
    packet_head_goes =
        when (G stage) (nat_lt q.original q.captured) _ _ (λ e. refuse_in stage next q.original_at reasons.Lengths filed.0 sound low_original)
        (λ e. let most = lt_untold _ _ e in when (G stage) (nat_lt q.captured q.original) _ _
        (λ part. cut_goes q.captured_at low most (λ bytes n. cut_by s.alone _ (let less : nat_lt (length bytes) q.original ≡ true = ap (λ (v : ℕ). nat_lt v q.original) n ∙ part in less)))
        (λ all. let same : q.original ≡ q.captured = let m = lt_untold _ _ all in omega (arith, most, m) in
        when (G stage) (s.alone && nat_lt 0 q.captured) _ _
        (λ both. let parts = and_parts s.alone (nat_lt 0 q.captured) both in
        let some : 0 < q.captured = let m = parts.1 in grind (arith, nat_tests, m) in when (G stage) (nat_lt q.captured 16) _ _
        (λ few. let less : q.captured < 16 = grind (arith, nat_tests, few) in
        cut_goes q.size (omega (arith, size)) most (λ bytes n. short_by s.alone _ parts.0 (omega (arith, n, some)) (inl (omega (arith, n, less)))))
        (λ enough. let long = lt_untold _ _ enough in
        go stage _ q.size filed.1 (fronts long parts.0) tt clean refl (omega (arith, size, none, no_skip)) (λ more f.
        let x = opened (q.room - q.captured) q.captured more (unfilled _ more none no_skip f) in
        let fill = x.packet ++ x.fill in
        let sizes = length-append x.packet x.fill in
        let front : take q.captured fill ≡ x.packet = take_at x.packet x.fill q.captured x.size in
        let is : record { original = q.captured; bytes = x.packet } ≡ one fill = ap (λ (n : ℕ). record { original = n; bytes = x.packet }) (sym same) ∙ ap (λ (l : List ℕ). record { original = q.original; bytes = l }) (sym front) in
        spelled more fill x.tail (x.joined ∙ sym (append_assoc x.packet x.fill x.tail)) (omega (arith, sizes, x.size, x.filled, within))
        (subst (λ (a : Bool). IsCaptured s.passes_cut a (one fill)) (sym parts.0) (subst (IsCaptured s.passes_cut true) is x.captured))
        (subst (λ (a : Bool). After (alone_after a (one fill)) x.tail) (sym parts.0) (subst (λ (c : Captured). After (alone_after true c) x.tail) is x.after)))))
        (λ other. go stage _ (q.size + q.room) filed.0 sound tt clean refl (omega (arith, size, within)) (λ more f.
        let long : length f.fill ≡ q.room = let n = f.size in omega (arith, n, within) in
        let n = one_size f.fill long in
        let whole = whole_by s.alone (one f.fill) (omega (arith, n, same)) (ap (λ (v : ℕ). s.alone && nat_lt 0 v) n ∙ other) in
        spelled more f.fill f.more f.joined long (omega (arith, n, same), λ e. absurd (let no : ◌≡◌ {A = Bool} true false = sym e ∙ whole in cc))
        (subst (λ (a : Bool). After a f.more) (sym (alone_still s.alone (one f.fill) whole (ap (λ (v : ℕ). s.alone && nat_lt 0 v) n ∙ other))) (plain f.more f.rest))))))

  -- the first bytes of a packet
  module _ (stage : Stage) (After : Bool → List ℕ → Type 0) (filed : is_raw (after_front stage) ≡ false) (sound : IsSound (after_front stage) s.alone s.total s.rest) (sound_after : (a : Bool) → IsSound (after_front stage) a s.total s.rest) (size : length h ≡ 16) (long : 16 ≤ s.rest) (alone : s.alone ≡ true)
      (plain : (a : Bool) (after : List ℕ) → FollowsHead (after_front stage) (record (context s) { alone = a }) s.rest s.interface after → After a after)
      (opened : (bytes : List ℕ) → Front s.passes_cut s.behind s.rest After bytes → FollowsFrom stage s bytes) where
    abbrev packet : List ℕ → List ℕ
    packet fill = h ++ take (s.rest - 16) fill

    packet_size : (fill : List ℕ) → length fill ≡ s.rest - 16 + s.behind → length (packet fill) ≡ s.rest
    packet_size fill n = omega (arith, length-append h (take (s.rest - 16) fill), length-take-le (s.rest - 16) fill (omega (arith, n)), size, long)

    front_of : (more fill after : List ℕ) (a : Bool) → more ≡ fill ++ after → length fill ≡ s.rest - 16 + s.behind
        → let c : Captured = record { original = s.rest; bytes = packet fill } in IsCaptured s.passes_cut true c → alone_after true c ≡ a → After a after → FollowsFrom stage s (h ++ more)
    front_of more fill after a joined n captured is follows = opened (h ++ more) (record {
      packet = packet fill;
      fill = drop (s.rest - 16) fill;
      tail = after;
      size = packet_size fill n;
      filled = omega (arith, length-drop (s.rest - 16) fill, n);
      joined = ap (λ l. h ++ l) (joined ∙ ap (λ l. l ++ after) (sym (take-append-drop (s.rest - 16) fill))) ∙ simp append_assoc;
      captured = captured;
      after = subst (λ (v : Bool). After v after) (sym is) follows;
    })

    front_goes : G stage (front_head (at stage) h)
    front_goes =
        when (G stage) (nat_lt s.rest (stated h)) _ _
        (λ short. when (G stage) s.passes_cut _ _
        (λ passes. go stage _ (16 + (s.rest - 16 + s.behind)) filed sound tt clean refl (omega (arith, size, none)) (λ more f.
        let n : length f.fill ≡ s.rest - 16 + s.behind = let m = f.size in omega (arith, m, none) in
        let m = packet_size f.fill n in
        let states = stated_front h (take (s.rest - 16) f.fill) (omega (arith, size)) in
        let less : s.rest < stated h = grind (arith, nat_tests, short) in
        let cut = short_by true (record { original = s.rest; bytes = packet f.fill }) refl (omega (arith, m, long)) (inr (omega (arith, m, states, less))) in
        front_of more f.fill f.more s.alone f.joined n (omega (arith, m), λ e. passes) (alone_kept true (record { original = s.rest; bytes = packet f.fill }) cut ∙ sym alone) (plain s.alone f.more f.rest)))
        (λ fails. refuse_in stage (after_front stage) 0 reasons.PacketCut filed sound (omega arith)))
        (λ enough. go stage _ (s.rest + s.behind) filed (sound_after (s.rest == stated h)) tt clean refl (omega (arith, size, long)) (λ more f.
        let n : length f.fill ≡ s.rest - 16 + s.behind = f.size in
        let m = packet_size f.fill n in
        let states = stated_front h (take (s.rest - 16) f.fill) (omega (arith, size)) in
        let fits = lt_untold s.rest (stated h) enough in
        let c : Captured = record { original = s.rest; bytes = packet f.fill } in
        let whole = fits_by true c (omega (arith, m)) (omega (arith, m, long)) (omega (arith, m, states, fits)) in
        front_of more f.fill f.more (s.rest == stated h) f.joined n (omega (arith, m), λ e. absurd (let no : ◌≡◌ {A = Bool} true false = sym e ∙ whole in cc))
        ((whole_told true c whole).2 refl ∙ ap (λ (v : ℕ). v == stated (packet f.fill)) m ∙ ap (λ (v : ℕ). s.rest == v) states) (plain (s.rest == stated h) f.more f.rest)))

  -- ---- a pcap file

  file_in : (o : ByteOrder) (n : Bool) → length h ≡ 24 → u32_bytes Little (u32_at Little 0 h) ≡ u32_bytes o (magic_number n)
      → G stages.FileHeader (file_header_in (at stages.FileHeader) h o n)
  file_in o n size spelled =
      when (G stages.FileHeader) ((u16_at o 4 h == 2) && (u16_at o 6 h == 4)) _ _
      (λ both. when (G stages.FileHeader) (u32_at o 20 h == 231) _ _
      (λ link. go stages.FileHeader _ 24 refl tt tt clean refl (omega (arith, size, none, no_skip)) (λ more f.
      let q : Packets s.passes_cut s.alone o more = unfilled _ more none no_skip f in
      let versions = and_parts (u16_at o 4 h == 2) (u16_at o 6 h == 4) both in
      let left = length-drop 8 h in
      let unread = take 12 (drop 8 h) in
      let h_is : h ≡ u32_bytes o (magic_number n) ++ (u16_bytes o 2 ++ (u16_bytes o 4 ++ (unread ++ u32_bytes o 231))) =
      u32_as Little h are 0 spelled (omega (arith, size)) (u16_as o h are 4 (ap (u16_bytes o) (eq_told _ _ versions.0)) (omega (arith, size))
      (u16_as o h are 6 (ap (u16_bytes o) (eq_told _ _ versions.1)) (omega (arith, size)) (sym (take-append-drop 12 (drop 8 h))
      ∙ ap (λ l. unread ++ l) (drop-drop 12 8 h ∙ u32_ends o h are 20 (ap (u32_bytes o) (eq_told _ _ link)) size)))) in
      record {
        head = record { order = o; nanoseconds = n; unread = unread };
        packets = q.packets;
        fits = record { unread = length-take-le 12 (drop 8 h) (omega (arith, left, size)) };
        fit = q.fit;
        captured = q.captured;
        joined = cat _ _ _ _ h_is q.joined;
      }))
      (λ other. refuse stages.FileHeader 20 reasons.LinkType refl tt (omega (arith, size))))
      (λ other. refuse stages.FileHeader 4 reasons.Version refl tt (omega (arith, size)))

  packet_first : length h ≡ 16 → (more fill after : List ℕ) → length fill ≡ u32_at s.order 8 h → more ≡ fill ++ after → let c : Captured = record { original = u32_at s.order 12 h; bytes = fill } in IsCaptured s.passes_cut s.alone c
      → Packets s.passes_cut (alone_after s.alone c) s.order after → Packets s.passes_cut s.alone s.order (h ++ more)
  packet_first size more fill after long m captured q =
      let o = s.order in
      record {
        packets = record { seconds = u32_at o 0 h; fraction = u32_at o 4 h; original = u32_at o 12 h; bytes = fill } ∷ q.packets;
        fit = (record { seconds = u32_low o h are 0; fraction = u32_low o h are 4; original = u32_low o h are 12 }, q.fit);
        captured = (captured, q.captured);
        joined = cat _ _ _ _ (u32_as o h are 0 refl (omega (arith, size)) (u32_as o h are 4 refl (omega (arith, size))
            (u32_as o h are 8 (ap (u32_bytes o) (sym long)) (omega (arith, size)) (u32_ends o h are 12 refl size)))) (m ∙ ap (λ l. fill ++ l) q.joined);
      }

  -- ---- the first block of a section

  minor_told : (n : ℕ) → ((n == 0) || (n == 2)) ≡ true → (n ≡ 0) ⊎ (n ≡ 2)
  minor_told n e = elim (or_cases (n == 0) (n == 2) e) [ inl a ↦ inl (eq_told n 0 a) | inr a ↦ inr (eq_told n 2 a) ]

  section_goes_in : (o : ByteOrder) → length h ≡ 24 → u32_bytes Little (u32_at Little 0 h) ≡ u32_bytes o 0x0a0d0d0a
      → u32_bytes Little (u32_at Little 8 h) ≡ u32_bytes o 0x1a2b3c4d → G stages.Section (section_in (at stages.Section) h o)
  section_goes_in o size kind mark =
      let total = u32_at o 4 h in
      let minor = u16_at o 14 h in
      when (G stages.Section) ((u16_at o 12 h == 1) && ((minor == 0) || (minor == 2))) _ _
      (λ both. when (G stages.Section) (is_length 28 total) _ _
      (λ fits. let whole = length_told 28 total fits in let least = whole.1 in
      go stages.Section _ (total - 4) refl tt tt clean refl (omega (arith, size, none, least)) (λ more f.
      let q : Closing s.passes_cut s.alone o total [] f.more = f.rest in
      let versions = and_parts (u16_at o 12 h == 1) ((minor == 0) || (minor == 2)) both in
      let x : FileSection = record { order = o; minor = minor; size = drop 16 h; options = f.fill; blocks = q.blocks.blocks } in
      let filled : length f.fill + 28 ≡ total = omega (arith, f.size, none, least) in
      let eight : length (drop 16 h) ≡ 8 = omega (arith, length-drop 16 h, size) in
      let body : 12 + length (section_body x) ≡ total = grind (arith, length-append, u32_size, u16_size, eight, filled) in
      record {
        first = x;
        sections = q.blocks.sections;
        fits = record {
          minor = minor_told minor versions.1;
          size = eight;
          body = record { size = omega (arith, body, u32_low o h are 4); whole = ap (λ (v : ℕ). v % 4) body ∙ whole.0 };
          blocks = q.blocks.fit;
        };
        fit = q.blocks.fits;
        captured = q.blocks.captured;
        joined = cat _ _ _ _ (u32_as Little h are 0 kind (omega (arith, size)) (u32_as o h are 4 (ap (u32_bytes o) (sym body)) (omega (arith, size))
            (u32_as Little h are 8 mark (omega (arith, size)) (u16_as o h are 12 (ap (u16_bytes o) (eq_told _ _ versions.0)) (omega (arith, size))
            (u16_as o h are 14 refl (omega (arith, size)) refl)))))
            (f.joined ∙ ap (λ l. f.fill ++ l) (q.joined ∙ ap (λ (v : ℕ). u32_bytes o v ++ q.tail) (sym body)
            ∙ ap (λ l. u32_bytes o (12 + length (section_body x)) ++ l) q.blocks.joined))
            ∙ simp append_assoc;
      }))
      (λ other. refuse stages.Section 4 reasons.BlockLength refl tt (omega (arith, size))))
      (λ other. refuse stages.Section 12 reasons.Version refl tt (omega (arith, size)))

  -- ---- the beginning and the end of a block

  block_whole : (bytes : List ℕ) (kind : ℕ) → length h ≡ 8 → u32_at s.order 0 h ≡ kind → u32_at s.order 4 h % 4 ≡ 0
      → Body (record (context s) { total = u32_at s.order 4 h }) kind bytes
      → Blocks s.passes_cut s.alone s.order s.interfaces (h ++ bytes)
  block_whole bytes kind size type whole q =
      let o = s.order in
      let n = 12 + length (block_body o q.block) in
      let same = q.size in
      record {
        blocks = q.block ∷ q.closing.blocks.blocks;
        sections = q.closing.blocks.sections;
        fit = (q.fits, record { size = omega (arith, same, u32_low o h are 4); whole = ap (λ (v : ℕ). v % 4) same ∙ whole }, q.closing.blocks.fit);
        fits = q.closing.blocks.fits;
        captured = subst (AreCaptured s.passes_cut s.alone) (sym (append_assoc (block_packets s.interfaces q.block) (blocks_packets (interfaces_after s.interfaces q.block) q.closing.blocks.blocks) (sections_packets q.closing.blocks.sections)))
            (captured_both s.passes_cut s.alone (block_packets s.interfaces q.block) _ q.captured q.closing.blocks.captured);
        joined = cat _ _ _ _ (u32_as o h are 0 (ap (u32_bytes o) (type ∙ sym q.kind_is)) (omega (arith, size)) (u32_ends o h are 4 (ap (u32_bytes o) (sym same)) size))
            (q.joined ∙ ap (λ l. block_body o q.block ++ l) (q.closing.joined ∙ ap (λ (v : ℕ). u32_bytes o v ++ q.closing.tail)
            (sym same) ∙ ap (λ l. u32_bytes o n ++ l) q.closing.blocks.joined))
            ∙ simp append_assoc;
      }

  -- a block whose head is read
  block_reads : length h ≡ 8 → (stage : Stage) (least kind : ℕ) → is_raw stage ≡ false
      → (u32_at s.order 4 h % 4 ≡ 0 → least ≤ u32_at s.order 4 h → IsSound stage s.alone (u32_at s.order 4 h) (u32_at s.order 4 h - 20))
      → let c : Context = record (context s) { total = u32_at s.order 4 h } in
      ((bytes : List ℕ) → FollowsHead stage c (u32_at s.order 4 h - 20) s.interface bytes → Body c kind bytes)
      → u32_at s.order 0 h ≡ kind → G stages.Block (block_by (at stages.Block) (u32_at s.order 4 h) (Some (stage, least)))
  block_reads size stage least kind filed sound taken type =
      when (G stages.Block) (is_length least (u32_at s.order 4 h)) _ _
      (λ fits. let whole = length_told least _ fits in
      go stages.Block _ 8 filed (sound whole.0 whole.1) tt clean refl (omega (arith, size, none, no_skip))
      (λ more f. block_whole more kind size type whole.0 (taken more (unfilled _ more none no_skip f))))
      (λ other. refuse stages.Block 4 reasons.BlockLength refl tt (omega (arith, size)))

  -- ---- an interface

  -- an option, and then others
  option_first : (bytes after : List ℕ) (o : InterfaceOption) (i : Interface) (rest : ℕ) → length h ≡ 4 → u16_at s.order 0 h ≡ o.code
      → u16_at s.order 2 h ≡ length o.value → FitsOption o → with_option s.interface o ≡ i → rest + (4 + padded (length o.value)) ≡ s.rest
      → bytes ≡ (o.value ++ o.filler) ++ after → Options (context s) rest i after → Options (context s) s.rest s.interface (h ++ bytes)
  option_first bytes after o i rest size code long fits says left b q =
      let order = s.order in
      let others = options_bytes order q.options in
      let end = end_bytes order q.end in
      let front = u16_bytes order o.code ++ u16_bytes order (length o.value) in
      let h_is : h ≡ front = u16_as order h are 0 (ap (u16_bytes order) code) (omega (arith, size)) (u16_ends order h are 2 (ap (u16_bytes order) long) size) in
      let four : length front ≡ 4 = sym (ap length h_is) ∙ size in
      record {
        options = o ∷ q.options;
        end = q.end;
        tail = q.tail;
        fit = (fits, q.fit);
        ends = q.ends;
        size = grind (arith, length-append, four, fits.filled, q.size, left);
        joined = cat _ _ _ _ h_is (b ∙ ap (λ l. (o.value ++ o.filler) ++ l) q.joined) ∙ simp append_assoc;
        few = q.few;
        closing = subst (λ (v : Interface). Closing s.passes_cut s.alone order s.total (s.interfaces ++ with_options v q.options ∷ []) q.tail)
            (sym says) q.closing;
      }

  -- an option that is passed over
  option_passed : length h ≡ 4 → IsSound stages.OptionHead s.alone s.total s.rest → (i : Interface) → let code = u16_at s.order 0 h in
      let n = u16_at s.order 2 h in code ≢ 0 → code ≢ 9 → padded n ≤ s.rest - 4
      → ((v : List ℕ) → cond (code == 9) (record s.interface { resolution = slice_index v 0 })
      (cond (code == 14) (record s.interface { has_offset = true }) s.interface) ≡ i)
      → G stages.OptionHead (pass_option (at stages.OptionHead) (padded n) i)
  option_passed size sound i no_end no_unit room says =
      let code = u16_at s.order 0 h in
      let n = u16_at s.order 2 h in
      let rest = s.rest - 4 - padded n in
      go stages.OptionHead _ (4 + padded n) (after_filed rest) (after_sound s.alone s.total rest (omega (arith, sound.0, room))) tt clean refl
      (omega (arith, size, none)) (λ more f.
      let fits : n ≤ length f.fill = omega (arith, f.size, none) in
      let value = take n f.fill in
      let filler = drop n f.fill in
      let value_size : length value ≡ n = length-take-le n f.fill fits in
      let x : InterfaceOption = record { code = code; value = value; filler = filler } in
      option_first more f.more x i rest size refl (sym value_size)
      (record {
        code = u16_low s.order h are 0;
        no_end = no_end;
        size = omega (arith, value_size, u16_low s.order h are 2);
        filled = omega (arith, value_size, length-drop n f.fill, f.size, none);
        resolution = λ z. absurd (no_unit z);
      })
      (says value) (omega (arith, value_size, room)) (f.joined ∙ ap (λ l. l ++ f.more) (sym (take-append-drop n f.fill)))
      (options_after (context s) rest i f.more f.rest))

  -- ---- a packet

  -- the packet of a block whose head has this form, and the rest of the block
  module _ (stage : Stage) (k : ℕ) (form : PacketForm) (i : Interface) (time : Option ℕ) (n original : ℕ) (filed : is_raw stage ≡ false) (sound : IsSound stage s.alone s.total s.rest) (place_low : k ≤ length h)
      (small : length h ≤ 20) (least : length h + 12 ≤ s.total) (found : slice_get s.interfaces (head_interface form) ≡ Some i) (low : original < 2 ^ 32)
      (words : (m : ℕ) → n ≡ m → (h ≡ head_bytes s.order form m original) × FitsHead form i m original)
      (taken : (bytes : List ℕ) → Body (context s) (head_kind form) bytes → FollowsFrom stage s bytes) where
    abbrev room : ℕ
    room = s.total - (length h + 12)

    abbrev packets : List ℕ → Option Interface → List Captured
    packets fill o = packet_by original (take n fill) o

    spelled : (more fill after : List ℕ) → more ≡ fill ++ after → length fill ≡ room → padded n ≤ room → AreCaptured s.passes_cut s.alone (packets fill (Some i))
        → Closing s.passes_cut (alone_all s.alone (packets fill (Some i))) s.order s.total s.interfaces after → FollowsFrom stage s (h ++ more)
    spelled more fill after joined long enough captured closing =
        let bytes = take n fill in
        let rest = drop n fill in
        let bytes_size : length bytes ≡ n = length-take-le n fill (omega (arith, long, enough)) in
        let rest_size = length-drop n fill in
        let told = words (length bytes) (sym bytes_size) in
        let all : h ++ more ≡ (head_bytes s.order form (length bytes) original ++ (bytes ++ rest)) ++ after =
        cat _ _ _ _ told.0 (joined ∙ ap (λ l. l ++ after) (sym (take-append-drop n fill))) ∙ sym (append_assoc (head_bytes s.order form (length bytes) original) (bytes ++ rest) after) in
        taken (h ++ more) (record {
          block = PacketBlock form original bytes rest;
          tail = after;
          kind_is = refl;
          size = grind (arith, length-append, ap length told.0, bytes_size, rest_size, long, least, enough);
          fits = (low, omega (arith, bytes_size, rest_size, long, enough), (i, found, told.1));
          captured = subst (λ (o : Option Interface). AreCaptured s.passes_cut s.alone (packets fill o)) (sym found) captured;
          joined = all;
          closing = subst (λ (o : Option Interface). Closing s.passes_cut (alone_all s.alone (packets fill o)) s.order s.total s.interfaces after) (sym found) closing;
        })

    packet_goes : G stage (block_packet (at stage) i.link_type (record { before = 8; size = length h; captured_at = k; original_at = k; room = room; time = time; captured = n; original = original }))
    packet_goes =
        when (G stage) (nat_lt room (padded n)) _ _ (λ e. refuse stage k reasons.Lengths filed sound place_low)
        (λ e. let enough = lt_untold room (padded n) e in when (G stage) (i.link_type == 231) _ _
        (λ l. packet_head_goes stage stages.Trailer _ (λ alone after. Closing s.passes_cut alone s.order s.total s.interfaces after) (refl, refl) tt (λ a b. (a, b)) place_low place_low refl (omega (arith, enough)) (λ after f. f) (λ behind rest bytes f. f)
        (λ more fill after joined long captured f.
        let is : packets fill (Some i) ≡ record { original = original; bytes = take n fill } ∷ [] = when_true _ _ _ l in
        spelled more fill after joined long enough (subst (AreCaptured s.passes_cut s.alone) (sym is) (captured, tt)) (subst (λ (p : List Captured). Closing s.passes_cut (alone_all s.alone p) s.order s.total s.interfaces after) (sym is) f)))
        (λ other. go stage _ (length h + room) refl tt tt clean refl (omega (arith, none))
        (λ more f. let long = f.size in
        let is : packets f.fill (Some i) ≡ [] = when_false _ _ _ other in
        spelled more f.fill f.more f.joined (omega (arith, long, none)) enough (subst (AreCaptured s.passes_cut s.alone) (sym is) tt) (subst (λ (p : List Captured). Closing s.passes_cut (alone_all s.alone p) s.order s.total s.interfaces f.more) (sym is) f.rest))))

  enhanced_by_goes : (stage : Stage) (form : PacketForm) → is_raw stage ≡ false → IsSound stage s.alone s.total s.rest → 32 ≤ s.total → length h ≡ 20
      → ((i : Interface) (n : ℕ) → u32_at s.order 12 h ≡ n → (h ≡ head_bytes s.order form n (u32_at s.order 16 h)) × FitsHead form i n (u32_at s.order 16 h))
      → ((bytes : List ℕ) → Body (context s) (head_kind form) bytes → FollowsFrom stage s bytes)
      → (o : Option Interface) → slice_get s.interfaces (head_interface form) ≡ o → G stage (enhanced_by (at stage) h o)
  enhanced_by_goes stage form filed sound least size words taken None e = refuse stage 0 reasons.NoInterface filed sound (omega arith)
  enhanced_by_goes stage form filed sound least size words taken (Some i) e =
      let time = time_of i (u32_at s.order 4 h * 2 ^ 32 + u32_at s.order 8 h) in
      subst (λ (v : ℕ). G stage (block_packet (at stage) i.link_type (record { before = 8; size = v; captured_at = 12; original_at = 12; room = s.total - (v + 12); time = time; captured = u32_at s.order 12 h; original = u32_at s.order 16 h }))) size
      (packet_goes stage 12 form i time (u32_at s.order 12 h) (u32_at s.order 16 h) filed sound (omega (arith, size)) (omega (arith, size)) (omega (arith, size, least)) e (u32_low s.order h are 16) (words i) taken)

  four_words : (o : ByteOrder) → length h ≡ 20 → (n : ℕ) → u32_at o 12 h ≡ n
      → drop 4 h ≡ u32_bytes o (u32_at o 4 h) ++ (u32_bytes o (u32_at o 8 h) ++ (u32_bytes o n ++ u32_bytes o (u32_at o 16 h)))
  four_words o size n e = u32_as o h are 4 refl (omega (arith, size)) (u32_as o h are 8 refl (omega (arith, size))
      (u32_as o h are 12 (ap (u32_bytes o) e) (omega (arith, size)) (u32_ends o h are 16 refl size)))

  simple_goes_by : length h ≡ 4 → 16 ≤ s.total → (o : Option Interface) → slice_get s.interfaces 0 ≡ o → G stages.Simple (simple_by (at stages.Simple) h o)
  simple_goes_by size least None e = refuse stages.Simple 0 reasons.NoInterface refl least (omega arith)
  simple_goes_by size least (Some i) e =
      let original = u32_at s.order 0 h in
      let n = captured_length i.snap_length original in
      subst (λ (v : ℕ). G stages.Simple (block_packet (at stages.Simple) i.link_type (record { before = 8; size = v; captured_at = 0; original_at = 0; room = s.total - (v + 12); time = None; captured = n; original = original }))) size
      (packet_goes stages.Simple 0 SimpleHead i None n original refl least (omega arith) (omega (arith, size)) (omega (arith, size, least)) e (u32_low s.order h are 0)
      (λ m same. (u32_ends s.order h are 0 refl size, same)) (λ bytes b. b))

  -- ---- all

  goes : (stage : Stage) → is_raw stage ≡ false → IsSound stage s.alone s.total s.rest → length h ≡ want stage → G stage (decoded_by stage (at stage) h)
  goes stages.Raw filed sound size = absurd (let no : ◌≡◌ {A = Bool} true false = filed in cc)
  goes stages.FileHeader filed sound size =
      let m = u32_at Little 0 h in
      let P : Option (ByteOrder × Bool) → Type 0 = λ (v : Option (ByteOrder × Bool)). G stages.FileHeader
      (file_header_by (at stages.FileHeader) h v) in
      when P (m == 0xa1b2c3d4) _ _ (λ e. file_in Little false size (ap (u32_bytes Little) (eq_told _ _ e)))
      (λ _. when P (m == 0xa1b23c4d) _ _ (λ e. file_in Little true size (ap (u32_bytes Little) (eq_told _ _ e)))
      (λ _. when P (m == 0xd4c3b2a1) _ _ (λ e. file_in Big false size (ap (u32_bytes Little) (eq_told _ _ e)))
      (λ _. when P (m == 0x4d3cb2a1) _ _ (λ e. file_in Big true size (ap (u32_bytes Little) (eq_told _ _ e)))
      (λ _. refuse stages.FileHeader 0 reasons.Magic refl tt (omega arith)))))
  goes stages.Record filed sound size =
      let n = u32_at s.order 8 h in
      packet_head_goes stages.Record stages.Record _ (λ alone after. Packets s.passes_cut alone s.order after) (refl, refl) tt (λ a b. (a, b)) (omega (arith, size)) (omega (arith, size)) (sym size) (omega arith) (λ after f. f) (λ behind rest bytes f. f)
      (λ more fill after joined long captured q.
      let all : take n fill ≡ fill = take_all n fill (omega (arith, long)) in
      packet_first size more fill after long joined (subst (λ (l : List ℕ). IsCaptured s.passes_cut s.alone (record { original = u32_at s.order 12 h; bytes = l })) all captured)
      (subst (λ (l : List ℕ). Packets s.passes_cut (alone_after s.alone (record { original = u32_at s.order 12 h; bytes = l })) s.order after) all q))
  goes stages.Section filed sound size =
      let m = u32_at Little 8 h in
      let P : Option ByteOrder → Type 0 = λ (v : Option ByteOrder). G stages.Section (section_by (at stages.Section) h v) in
      when (G stages.Section) (u32_at Little 0 h == 0x0a0d0d0a) _ _
      (λ k. let kind = ap (u32_bytes Little) (eq_told _ _ k) in
      when P (m == 0x1a2b3c4d) _ _ (λ e. section_goes_in Little size kind (ap (u32_bytes Little) (eq_told _ _ e)))
      (λ _. when P (m == 0x4d3c2b1a) _ _ (λ e. section_goes_in Big size kind (ap (u32_bytes Little) (eq_told _ _ e)))
      (λ _. refuse stages.Section 8 reasons.OrderMark refl tt (omega (arith, size)))))
      (λ other. refuse stages.Section 0 reasons.Magic refl tt (omega arith))
  goes stages.Block filed sound size =
      let kind = u32_at s.order 0 h in
      let total = u32_at s.order 4 h in
      let P : Option (Stage × ℕ) → Type 0 = λ (v : Option (Stage × ℕ)). G stages.Block (block_by (at stages.Block) total v) in
      when (G stages.Block) (kind == 0x0a0d0d0a) _ _
      (λ e. go stages.Block _ 0 refl tt are clean (omega (arith, next_is)) (omega (arith, none, no_skip)) (λ more f.
      let q : PcapngFile s.passes_cut s.alone (h ++ more) = unfilled _ more none no_skip f in
      record { blocks = []; sections = q.first ∷ q.sections; fit = tt; fits = (q.fits, q.fit); captured = q.captured; joined = q.joined }))
      (λ no_section. when P (kind == 1) _ _ (λ e. block_reads size stages.InterfaceHead 20 1 refl (λ whole least. (least, refl, whole))
      (λ bytes f. f) (eq_told _ _ e))
      (λ a. when P (kind == 2) _ _ (λ e. block_reads size stages.ObsoletePacket 32 2 refl (λ whole least. least) (λ bytes f. f) (eq_told _ _ e))
      (λ b. when P (kind == 3) _ _ (λ e. block_reads size stages.Simple 16 3 refl (λ whole least. least) (λ bytes f. f) (eq_told _ _ e))
      (λ c. when P (kind == 6) _ _ (λ e. block_reads size stages.Enhanced 32 6 refl (λ whole least. least) (λ bytes f. f) (eq_told _ _ e))
      (λ d. when (G stages.Block) (is_length 12 total) _ _
      (λ fits. let whole = length_told 12 total fits in let least = whole.1 in
      go stages.Block _ (total - 4) refl tt tt clean refl (omega (arith, size, none, least)) (λ more f.
      block_whole more kind size refl whole.0 (record {
        block = OtherBlock kind f.fill;
        tail = f.more;
        kind_is = refl;
        size = omega (arith, f.size, none, least);
        fits = (u32_low s.order h are 0, eq_untold _ _ a, eq_untold _ _ b, eq_untold _ _ c, eq_untold _ _ d, eq_untold _ _ no_section);
        captured = tt;
        joined = f.joined;
        closing = f.rest;
      })))
      (λ other. refuse stages.Block 4 reasons.BlockLength refl tt (omega (arith, size))))))))
  goes stages.RecordFront filed sound size =
      front_goes stages.RecordFront (λ alone after. Packets s.passes_cut alone s.order after) refl tt (λ a. tt) size sound.0 sound.1 (λ a after f. f) (λ bytes f. f)
  goes stages.BlockFront filed sound size =
      front_goes stages.BlockFront (λ alone after. Closing s.passes_cut alone s.order s.total s.interfaces after) refl tt (λ a. tt) size sound.0 sound.1 (λ a after f. f) (λ bytes f. f)
  goes stages.Trailer filed sound size =
      when (G stages.Trailer) (u32_at s.order 0 h == s.total) _ _
      (λ e. go stages.Trailer _ 4 refl tt tt clean refl (omega (arith, size, none, no_skip))
      (λ more f. record { tail = more; joined = ap (λ l. l ++ more) (u32_ends s.order h are 0 (ap (u32_bytes s.order) (eq_told _ _ e)) size); blocks = unfilled _ more none no_skip f }))
      (λ other. refuse stages.Trailer 0 reasons.BlockLengths refl tt (omega arith))
  goes stages.InterfaceHead filed sound size =
      let o = s.order in
      let i : Interface = record { link_type = u16_at o 0 h; snap_length = u32_at o 4 h; resolution = 6; has_offset = false } in
      go stages.InterfaceHead _ 8 (after_filed s.rest) (after_sound s.alone s.total s.rest (omega (arith, sound.2, sound.1, sound.0))) tt clean refl
      (omega (arith, size, none, no_skip)) (λ more f.
      let q = options_after (context s) s.rest i more (unfilled _ more none no_skip f) in
      let options = options_bytes o q.options ++ end_bytes o q.end in
      let front = u16_bytes o (u16_at o 0 h) ++ (u16_bytes o (u16_at o 2 h) ++ u32_bytes o (u32_at o 4 h)) in
      let h_is : h ≡ front = u16_as o h are 0 refl (omega (arith, size)) (u16_as o h are 2 refl (omega (arith, size)) (u32_ends o h are 4 refl size)) in
      let eight : length front ≡ 8 = sym (ap length h_is) ∙ size in
      record {
        block = InterfaceBlock (u16_at o 0 h) (u16_at o 2 h) (u32_at o 4 h) q.options q.end;
        tail = q.tail;
        kind_is = refl;
        size = omega (arith, length-append front options, eight, q.size, sound.1, sound.0);
        fits = (u16_low o h are 0, u32_low o h are 4, q.fit, q.ends, q.few);
        captured = tt;
        joined = cat _ _ _ _ h_is q.joined ∙ sym (append_assoc front options q.tail);
        closing = q.closing;
      })
  goes stages.OptionHead filed sound size =
      let o = s.order in
      let code = u16_at o 0 h in
      let n = u16_at o 2 h in
      let four : 4 ≤ s.rest = omega (arith, sound.0, sound.1) in
      let h_is : h ≡ u16_bytes o code ++ u16_bytes o n = u16_as o h are 0 refl (omega (arith, size)) (u16_ends o h are 2 refl size) in
      when (G stages.OptionHead) (code == 0) _ _
      (λ e. go stages.OptionHead _ s.rest refl tt tt clean refl (omega (arith, size, none, four)) (λ more f.
      let q : (length s.interfaces < 64) × Closing s.passes_cut s.alone o s.total (s.interfaces ++ s.interface ∷ []) f.more = f.rest in
      record {
        options = [];
        end = Some (u16_bytes o n ++ f.fill);
        tail = f.more;
        fit = tt;
        ends = grind (arith, length-append, u16_size);
        size = grind (arith, length-append, u16_size, f.size, none, four);
        joined = cat _ _ _ _ (h_is ∙ ap (λ (v : ℕ). u16_bytes o v ++ u16_bytes o n) (eq_told code 0 e)) f.joined
            ∙ simp append_assoc;
        few = q.0;
        closing = q.1;
      }))
      (λ e. when (G stages.OptionHead) (nat_lt (s.rest - 4) (padded n)) _ _
      (λ long. refuse stages.OptionHead 2 reasons.OptionLength refl sound (omega (arith, size)))
      (λ enough. let room = lt_untold (s.rest - 4) (padded n) enough in when (G stages.OptionHead) (code == 9) _ _
      (λ nine. when (G stages.OptionHead) (n == 1) _ _
      (λ one. go stages.OptionHead _ 4 refl (let whole = sound.0 in omega (arith, whole)) tt clean refl
      (omega (arith, size, none, no_skip)) (λ more f.
      let q : TimeUnit (context s) (s.rest - 8) s.interface more = unfilled _ more none no_skip f in
      let x : InterfaceOption = record { code = 9; value = q.value ∷ []; filler = q.filler } in
      let is_one = eq_told n 1 one in
      option_first more q.more x _ (s.rest - 8) size (eq_told code 9 nine) is_one
      (record { code = omega arith; no_end = λ z. absurd (omega (arith, z)); size = omega arith; filled = omega (arith, q.filled); resolution = λ z. refl })
      refl (omega (arith, room, is_one)) q.joined q.options))
      (λ other. refuse stages.OptionHead 2 reasons.OptionLength refl sound (omega (arith, size))))
      (λ not_nine. when (G stages.OptionHead) (code == 14) _ _
      (λ offset. option_passed size sound (record s.interface { has_offset = true }) (eq_untold code 0 e) (eq_untold code 9 not_nine) room
      (λ v. when_false _ _ _ not_nine ∙ when_true _ _ _ offset))
      (λ no_offset. option_passed size sound s.interface (eq_untold code 0 e) (eq_untold code 9 not_nine) room
      (λ v. when_false _ _ _ not_nine ∙ when_false _ _ _ no_offset)))))
  goes stages.Resolution filed sound size =
      go stages.Resolution _ 4 (after_filed s.rest) (after_sound s.alone s.total s.rest sound) tt clean refl (omega (arith, size, none, no_skip))
      (λ more f.
      record {
        value = slice_index h 0;
        filler = drop 1 h;
        more = more;
        filled = omega (arith, length-drop 1 h, size);
        joined = ap (λ l. l ++ more) (first_is h (omega (arith, size)));
        options = options_after (context s) s.rest _ more (unfilled _ more none no_skip f);
      })
  goes stages.InterfaceTrailer filed sound size =
      when (G stages.InterfaceTrailer) (u32_at s.order 0 h == s.total) _ _
      (λ e. when (G stages.InterfaceTrailer) (nat_le 64 (length s.interfaces)) _ _
      (λ many. refuse stages.InterfaceTrailer 0 reasons.TooManyInterfaces refl tt (omega arith))
      (λ few. go stages.InterfaceTrailer _ 4 refl tt tt clean refl (omega (arith, size, none, no_skip)) (λ more f. (
        le_untold 64 (length s.interfaces) few,
        record { tail = more; joined = ap (λ l. l ++ more) (u32_ends s.order h are 0 (ap (u32_bytes s.order) (eq_told _ _ e)) size); blocks = unfilled _ more none no_skip f },
      ))))
      (λ other. refuse stages.InterfaceTrailer 0 reasons.BlockLengths refl tt (omega arith))
  goes stages.Enhanced filed sound size =
      let o = s.order in
      let number = u32_at o 0 h in
      enhanced_by_goes stages.Enhanced (EnhancedHead number (u32_at o 4 h) (u32_at o 8 h)) refl sound sound size
      (λ i n e. (u32_as o h are 0 refl (omega (arith, size)) (four_words o size n e), u32_low o h are 0))
      (λ bytes b. b) (slice_get s.interfaces number) refl
  goes stages.ObsoletePacket filed sound size =
      let o = s.order in
      let number = u16_at o 0 h in
      let drops = u16_at o 2 h in
      enhanced_by_goes stages.ObsoletePacket (ObsoleteHead number drops (u32_at o 4 h) (u32_at o 8 h)) refl sound sound size
      (λ i n e. (
        u16_as o h are 0 refl (omega (arith, size)) (u16_as o h are 2 refl (omega (arith, size)) (four_words o size n e)) ∙ sym (append_assoc (u16_bytes o number) (u16_bytes o drops) _),
        u16_low o h are 0,
      ))
      (λ bytes b. b) (slice_get s.interfaces number) refl
  goes stages.Simple filed sound size =
      simple_goes_by size sound (slice_get s.interfaces 0) refl

pub heads_go : HeadsGo
unfolding decoded
heads_go stage p w s h filed sound clean none no_skip next are size = goes p w s h clean none no_skip next are stage filed sound size
