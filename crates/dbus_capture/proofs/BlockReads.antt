-- A block of a pcapng file that has a packet, or that is passed over, is read as it is spelled.
use Rattle.std.proofs.Common.{◌≡◌, ◌≢◌, inl, inr, ℕ, ◌+◌, ◌-◌, ◌*◌, ◌<◌, ◌≤◌, ◌^◌, ◌%◌, Bool, true, false, List, [], ◌∷◌, ◌++◌, length, Option, None, Some, refl, sym, ap, subst, ◌∙◌, arith, append_assoc, append-nil, length-append}
use Rattle.std.specs.Prelude.{◌==◌, nat_lt, slice_get}
use Rattle.dbus_capture.specs.Types.{ByteOrder, Little, Big, Stage, Interface, Scan, PacketHead}
use Rattle.dbus_capture.specs.declared.stage.Stage.TheVariants as stages
use Rattle.dbus_capture.specs.Numbers.{u32_bytes, u32_at, u16_at}
use Rattle.dbus_capture.specs.Stages.{begun, is_raw, is_front, want}
use Rattle.dbus_capture.specs.Steps.{Leads}
use Rattle.dbus_capture.specs.Scans.{place}
use Rattle.dbus_capture.specs.Blocks.{padded, is_length, block_stage, block_by, time_of, block_packet, decoded_by}
use Rattle.dbus_capture.specs.Packets.{FitsTime, head_time, block_front}
use Rattle.dbus_capture.specs.BlockFiles.{FitsBody, framed_bytes, PacketBlock, PacketForm, EnhancedHead, ObsoleteHead, SimpleHead, head_kind, head_bytes, head_interface, FitsHead, block_bytes, block_body, FitsBlock, packet_by, block_packets}
use Rattle.dbus_capture.specs.Heads.{pass_packet, packet_head}
use Rattle.dbus_capture.specs.CutPackets.{Captured, IsCaptured, AreCaptured}
use Rattle.dbus_capture.proofs.Choices.{lt_false, le_true, eq_is, eq_not, eq_told, when, when_true, when_false}
use Rattle.dbus_capture.proofs.NumberLaws.{u32_size, u32_again, u16_again}
use Rattle.dbus_capture.proofs.StepLaws.{lead_then, lead_to}
use Rattle.dbus_capture.proofs.Leads.{head_leads, bytes_lead, Went, went_then, went_on, fronted_block, packet_went, Begins, whole_begins}

-- between two blocks of a section
abbrev pub at_blocks : ByteOrder → List Interface → Scan → Scan
at_blocks o interfaces s = record s { head = begun stages.Block; give = 0; skip = 0; fault = None; order = o; interfaces = interfaces }

pub length_ok : (least total : ℕ) → total % 4 ≡ 0 → least ≤ total → is_length least total ≡ true
length_ok least total p q = simp (eq_is (total % 4) 0 p, le_true least total q)

-- the length of a block
pub framed_size : (order : ByteOrder) (kind : ℕ) (body : List ℕ) → length (framed_bytes order kind body) ≡ 12 + length body
framed_size order kind body = grind (arith, length-append, u32_size)

pub two_told : (o : ByteOrder) (a b : ℕ) → a < 2 ^ 32 → b < 2 ^ 32 → let h = u32_bytes o a ++ u32_bytes o b in (length h ≡ 8) × (u32_at o 0 h ≡ a) × (u32_at o 4 h ≡ b)
two_told Little a b p q = (refl, u32_again Little a p, u32_again Little b q)
two_told Big a b p q = (refl, u32_again Big a p, u32_again Big b q)

pub one_told : (o : ByteOrder) (a : ℕ) → a < 2 ^ 32 → u32_at o 0 (u32_bytes o a) ≡ a
one_told Little a p = u32_again Little a p
one_told Big a p = u32_again Big a p

-- the rest of a block: a packet's bytes, what is passed over, and the length
pub ends : (o : ByteOrder) (t : Scan) (bytes rest : List ℕ) (give skip total : ℕ) → give ≡ length bytes → skip ≡ length rest → total < 2 ^ 32
    → Leads (record t { head = begun stages.Trailer; give = give; skip = skip; fault = None; order = o; total = total }) ((bytes ++ rest) ++ u32_bytes o total) (bytes ++ [])
    (at_blocks o t.interfaces (record t { total = total; next = place (t.next + 4) }))
ends o t bytes rest give skip total g k low =
    let size = u32_size o total in
    lead_then (bytes_lead (record t { head = begun stages.Trailer; order = o; total = total }) bytes rest give skip refl g k)
    (lead_to (head_leads stages.Trailer (record t { order = o; total = total }) (u32_bytes o total) refl refl size) (when_true _ _ _ (eq_is _ _ (one_told o total low))))

-- ---- the head of a packet's block

-- how such a block is read
record IsPacketBlock (o : ByteOrder) (interfaces : List Interface) (head : PacketForm) (i : Interface) (n original : ℕ) : Type 0 where
  stage : Stage
  k : ℕ
  time : Option ℕ
  low : head_kind head < 2 ^ 32
  staged : block_stage (head_kind head) ≡ Some (stage, want stage + 12)
  filed : (is_raw stage ≡ false) × (is_front stage ≡ false)
  long : length (head_bytes o head n original) ≡ want stage
  of : (m : Scan) → let t : Scan = record m { order = o; interfaces = interfaces } in
      decoded_by stage t (head_bytes o head n original)
      ≡ block_packet t i.link_type (record { before = 8; size = want stage; captured_at = k; original_at = k; room = m.total - (want stage + 12); time = time; captured = n; original = original })
  timed : FitsTime head → time ≡ head_time i head

-- the numbers of one that begins with four bytes
record IsTold (o : ByteOrder) (h : List ℕ) (high low n original : ℕ) : Type 0 where
  long : length h ≡ 20
  captured : u32_at o 12 h ≡ n
  had : u32_at o 16 h ≡ original
  times : high < 2 ^ 32 → low < 2 ^ 32 → (u32_at o 4 h ≡ high) × (u32_at o 8 h ≡ low)

enhanced_told : (o : ByteOrder) (number high low n original : ℕ) → number < 2 ^ 32 → n < 2 ^ 32 → original < 2 ^ 32
    → let h = head_bytes o (EnhancedHead number high low) n original in IsTold o h high low n original × (u32_at o 0 h ≡ number)
enhanced_told Little number high low n original p q r =
    (record { long = refl; captured = u32_again Little n q; had = u32_again Little original r; times = λ h l. (u32_again Little high h, u32_again Little low l) }, u32_again Little number p)
enhanced_told Big number high low n original p q r =
    (record { long = refl; captured = u32_again Big n q; had = u32_again Big original r; times = λ h l. (u32_again Big high h, u32_again Big low l) }, u32_again Big number p)

obsolete_told : (o : ByteOrder) (number drops high low n original : ℕ) → number < 2 ^ 16 → n < 2 ^ 32 → original < 2 ^ 32
    → let h = head_bytes o (ObsoleteHead number drops high low) n original in IsTold o h high low n original × (u16_at o 0 h ≡ number)
obsolete_told Little number drops high low n original p q r =
    (record { long = refl; captured = u32_again Little n q; had = u32_again Little original r; times = λ h l. (u32_again Little high h, u32_again Little low l) }, u16_again Little number p)
obsolete_told Big number drops high low n original p q r =
    (record { long = refl; captured = u32_again Big n q; had = u32_again Big original r; times = λ h l. (u32_again Big high h, u32_again Big low l) }, u16_again Big number p)

packet_is : (o : ByteOrder) (interfaces : List Interface) (head : PacketForm) (i : Interface) (n original : ℕ) → slice_get interfaces (head_interface head) ≡ Some i → n < 2 ^ 32 → original < 2 ^ 32
    → FitsHead head i n original → IsPacketBlock o interfaces head i n original
packet_is o interfaces (EnhancedHead number high low) i n original found p q f =
    let h = head_bytes o (EnhancedHead number high low) n original in
    let e = enhanced_told o number high low n original f p q in
    record {
      stage = stages.Enhanced;
      k = 12;
      time = time_of i (u32_at o 4 h * 2 ^ 32 + u32_at o 8 h);
      low = omega arith;
      staged = refl;
      filed = (refl, refl);
      long = e.0.long;
      of = λ m. simp (e.1, found, e.0.captured, e.0.had);
      timed = λ t. let z = e.0.times t.0 t.1 in simp (z.0, z.1);
    }
packet_is o interfaces (ObsoleteHead number drops high low) i n original found p q f =
    let h = head_bytes o (ObsoleteHead number drops high low) n original in
    let e = obsolete_told o number drops high low n original f p q in
    record {
      stage = stages.ObsoletePacket;
      k = 12;
      time = time_of i (u32_at o 4 h * 2 ^ 32 + u32_at o 8 h);
      low = omega arith;
      staged = refl;
      filed = (refl, refl);
      long = e.0.long;
      of = λ m. simp (e.1, found, e.0.captured, e.0.had);
      timed = λ t. let z = e.0.times t.0 t.1 in simp (z.0, z.1);
    }
packet_is o interfaces SimpleHead i n original found p q f =
    let e = one_told o original q in
    record {
      stage = stages.Simple;
      k = 0;
      time = None;
      low = omega arith;
      staged = refl;
      filed = (refl, refl);
      long = u32_size o original;
      of = λ m. simp (found, e, f);
      timed = λ t. refl;
    }

-- ---- a block

module _ (o : ByteOrder) (interfaces : List Interface) (s : Scan) where
  abbrev here : Scan
  here = at_blocks o interfaces s

  -- the type and the length of a block that is no section's
  pub opens : (kind total : ℕ) → kind < 2 ^ 32 → total < 2 ^ 32 → kind ≢ 0x0a0d0d0a
      → Leads here (u32_bytes o kind ++ u32_bytes o total) [] (block_by here total (block_stage kind))
  opens kind total p q other =
      let e = two_told o kind total p q in
      let stage = block_stage (u32_at o 0 (u32_bytes o kind ++ u32_bytes o total)) in
      lead_to (head_leads stages.Block here (u32_bytes o kind ++ u32_bytes o total) refl refl e.0) (when_false _ _ _ (eq_not _ _ (λ z. other (sym e.1 ∙ z)))
      ∙ ap (λ (m : ℕ). block_by here m stage) e.2 ∙ ap (λ (m : ℕ). block_by here total (block_stage m)) e.1)

  -- a block whose type says what comes in it
  pub opens_as : (kind total least : ℕ) (stage : Stage) → block_stage kind ≡ Some (stage, least) → kind < 2 ^ 32 → total < 2 ^ 32 → total % 4 ≡ 0
      → least ≤ total → Leads here (u32_bytes o kind ++ u32_bytes o total) []
      (record here { head = begun stage; next = place (s.next + 8); total = total; rest = total - 20 })
  opens_as kind total least stage e p q whole enough =
      let other : kind ≢ 0x0a0d0d0a =
      λ z. absurd (let none : ◌≡◌ {A = Option (Stage × ℕ)} None (Some (stage, least)) = sym (ap block_stage z) ∙ e in cc) in
      lead_to (opens kind total p q other) (ap (block_by here total) e ∙ when_true _ _ _ (length_ok least total whole enough))

  -- a block of another type
  pub other_read : (kind : ℕ) (body : List ℕ) → kind < 2 ^ 32 → kind ≢ 1 → kind ≢ 2 → kind ≢ 3 → kind ≢ 6 → kind ≢ 0x0a0d0d0a → FitsBody body
      → Went (at_blocks o interfaces) here (framed_bytes o kind body) []
  other_read kind body low a b c d no_section f =
      let total = 12 + length body in
      let size = framed_size o kind body in
      let none : block_stage kind ≡ None =
      when_false _ _ _ (eq_not kind 1 a) ∙ when_false _ _ _ (eq_not kind 2 b) ∙ when_false _ _ _ (eq_not kind 3 c) ∙ when_false _ _ _ (eq_not kind 6 d) in
      let m : Scan = record here { head = begun stages.Trailer; skip = total - 12; next = place (s.next + (total - 4)); total = total } in
      let opened : block_by here total (block_stage kind) ≡ m =
      ap (block_by here total) none ∙ when_true _ _ _ (length_ok 12 total f.whole (omega arith)) in
      let closed = ends o m [] body 0 (total - 12) total refl (omega arith) f.size in
      went_on (at_blocks o interfaces) here (record m { next = place (m.next + 4) }) (framed_bytes o kind body)
      (lead_then (lead_to (opens kind total low f.size no_section) opened) closed) refl refl (omega (arith, size)) refl refl

  -- ---- a packet's block

  module _ (form : PacketForm) (i : Interface) (original : ℕ) (bytes rest : List ℕ) (p : IsPacketBlock o interfaces form i (length bytes) original)
      (b : FitsBody (block_body o (PacketBlock form original bytes rest))) (low_room : padded (length bytes) ≤ length bytes + length rest) where
    abbrev head : List ℕ
    head = head_bytes o form (length bytes) original

    abbrev total : ℕ
    total = 12 + length (head ++ (bytes ++ rest))

    abbrev front : List ℕ
    front = (u32_bytes o (head_kind form) ++ u32_bytes o total) ++ head

    abbrev framed : List ℕ
    framed = framed_bytes o (head_kind form) (head ++ (bytes ++ rest))

    abbrev room : ℕ
    room = total - (want p.stage + 12)

    abbrev m : Scan
    m = record here { head = begun p.stage; next = place (s.next + 8); total = total; rest = total - 20 }

    abbrev packet : PacketHead
    packet = record { before = 8; size = want p.stage; captured_at = p.k; original_at = p.k; room = room; time = p.time; captured = length bytes; original = original }

    -- behind the head
    abbrev t : Scan
    t = record m { head = begun stages.Trailer }

    room_is : room ≡ length bytes + length rest
    room_is = omega (arith, length-append head (bytes ++ rest), length-append bytes rest, p.long)

    roomy : ◌≡◌ {A = Bool} (nat_lt room (padded (length bytes))) false
    roomy = lt_false room (padded (length bytes)) (omega (arith, room_is, low_room))

    fronts : Leads here front [] (block_packet m i.link_type packet)
    fronts =
        let least : want p.stage + 12 ≤ total = omega (arith, length-append head (bytes ++ rest), p.long) in
        lead_then (opens_as (head_kind form) total (want p.stage + 12) p.stage p.staged p.low b.size b.whole least)
        (lead_to (head_leads p.stage m head p.filed.0 p.filed.1 p.long) (p.of m))

    dbus : (i.link_type == 231) ≡ true → block_packet m i.link_type packet ≡ packet_head t packet
    dbus same = when_false _ _ _ roomy ∙ when_true _ _ _ same

    -- before the length at the end
    abbrev at_end : Scan → Scan
    at_end x = record x { head = begun stages.Trailer; give = 0; skip = 0; fault = None; order = o; total = total; interfaces = interfaces }

    moved : place (s.next + length (front ++ (bytes ++ rest))) ≡ place (place (s.next + 8) + (want p.stage + room))
    moved = omega (arith, room_is, length-append front (bytes ++ rest), length-append (u32_bytes o (head_kind form) ++ u32_bytes o total) head, length-append (u32_bytes o (head_kind form)) (u32_bytes o total), u32_size o (head_kind form), u32_size o total, length-append bytes rest, p.long)

    closes : (packets : List Captured) → Went at_end here (front ++ (bytes ++ rest)) packets → Went (at_blocks o interfaces) here framed packets
    closes packets w =
        let x = at_end w.final in
        let size = u32_size o total in
        let last = ends o x [] [] 0 0 total refl refl b.size in
        let more = went_on (at_blocks o interfaces) x (record x { next = place (x.next + 4) }) (u32_bytes o total) last refl refl (omega (arith, size)) refl refl in
        subst (λ l. Went (at_blocks o interfaces) here framed l) (append-nil packets) (subst (λ l. Went (at_blocks o interfaces) here l (packets ++ [])) (simp append_assoc) (went_then w more))

    packet_read : (passes : Bool) → passes ≡ s.passes_cut → AreCaptured passes s.alone (packet_by original bytes (Some i))
        → Went (at_blocks o interfaces) here framed (packet_by original bytes (Some i))
    packet_read passes pass =
        let one : Captured = record { original = original; bytes = bytes } in
        when (λ packets. AreCaptured passes s.alone packets → Went (at_blocks o interfaces) here framed packets) (i.link_type == 231) (one ∷ []) []
        (λ same captured. closes (one ∷ []) (packet_went stages.Trailer fronted_block t packet bytes rest refl (omega (arith, room_is)) (omega (arith, room_is)) at_end here front (lead_to fronts (dbus same))
        (subst (λ (v : Bool). IsCaptured v s.alone one) pass captured.0) (λ left over next packets passed cut p' alone. refl) refl refl refl refl (sym moved)))
        (λ other captured.
        let x = pass_packet t (want p.stage) room in
        let skips = bytes_lead x [] (bytes ++ rest) 0 room refl refl (omega (arith, room_is, length-append bytes rest)) in
        closes [] (went_on at_end here x (front ++ (bytes ++ rest)) (lead_then (lead_to fronts (when_false _ _ _ roomy ∙ when_false _ _ _ other)) skips) refl refl (sym moved) refl refl))

    packet_begins : i.link_type ≡ 231 → IsCaptured false s.alone (record { original = original; bytes = bytes }) → FitsTime form → Begins here front bytes (head_time i form)
    packet_begins same whole timed =
        let b' = whole_begins stages.Trailer fronted_block t packet bytes refl whole in
        record {
          state = _;
          final = b'.final;
          leads = lead_to fronts (dbus (eq_is i.link_type 231 same));
          gives = b'.gives;
          told = b'.told;
          keeps = b'.keeps;
          reported = b'.packet ∙ ap (λ (n : ℕ). Some (record { number = place (s.packets + 1); at = n; time = p.time; length = length bytes }))
              (let z : place (place (s.next + 8) + 2 ^ 64 - 8) ≡ place s.next = omega arith in z)
              ∙ ap (λ (v : Option ℕ). Some (record { number = place (s.packets + 1); at = place s.next; time = v; length = length bytes })) (p.timed timed);
        }

  low_in : (a b c : List ℕ) → 12 + length (a ++ (b ++ c)) < 2 ^ 32 → length b < 2 ^ 32
  low_in a b c h = omega (arith, h, length-append a (b ++ c), length-append b c)

  pub block_read : (passes : Bool) (form : PacketForm) (original : ℕ) (bytes rest : List ℕ) → let block = PacketBlock form original bytes rest in
      FitsBlock interfaces block → FitsBody (block_body o block) → passes ≡ s.passes_cut → AreCaptured passes s.alone (block_packets interfaces block)
      → Went (at_blocks o interfaces) here (block_bytes o block) (block_packets interfaces block)
  block_read passes form original bytes rest f b pass captured =
      let low = low_in (head_bytes o form (length bytes) original) bytes rest b.size in
      let p = packet_is o interfaces form f.2.0 (length bytes) original f.2.1 low f.0 f.2.2 in
      let all = block_bytes o (PacketBlock form original bytes rest) in
      subst (λ (v : Option Interface). Went (at_blocks o interfaces) here all (packet_by original bytes v)) (sym f.2.1)
      (packet_read form f.2.0 original bytes rest p b f.1 passes pass (subst (λ (v : Option Interface). AreCaptured passes s.alone (packet_by original bytes v)) f.2.1 captured))

  -- its bytes come after its head, if it is whole
  pub block_begins : (i : Interface) (form : PacketForm) (bytes rest : List ℕ) → let block = PacketBlock form (length bytes) bytes rest in
      FitsBlock interfaces block → FitsBody (block_body o block) → IsCaptured false s.alone (record { original = length bytes; bytes = bytes }) → FitsTime form → slice_get interfaces (head_interface form) ≡ Some i
      → i.link_type ≡ 231 → Begins here (block_front o form bytes rest) bytes (head_time i form)
  block_begins i form bytes rest f b whole timed found same =
      let one : f.2.0 ≡ i = let x = f.2.1 in cc (x, found) in
      let n = length bytes in
      let fits = subst (λ (v : Interface). FitsHead form v n n) one f.2.2 in
      let p = packet_is o interfaces form i n n found (low_in (head_bytes o form n n) bytes rest b.size) f.0 fits in
      packet_begins form i n bytes rest p b f.1 same whole timed
