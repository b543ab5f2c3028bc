-- A pcapng file is read as it is spelled.
use Rattle.std.proofs.Common.{◌≡◌, ◌⊎◌, inl, inr, ℕ, ◌+◌, ◌-◌, ◌<◌, ◌≤◌, ◌^◌, Bool, true, false, cond, List, [], ◌∷◌, ◌++◌, length, None, Some, refl, sym, ap, ◌∙◌, subst, arith, append_assoc, append-nil, length-append}
use Rattle.std.specs.Prelude.{◌||◌, ◌==◌}
use Rattle.dbus_capture.specs.Types.{ByteOrder, Little, Big, Interface, Scan}
use Rattle.dbus_capture.specs.declared.stage.Stage.TheVariants as stages
use Rattle.dbus_capture.specs.Numbers.{u32_bytes, u16_bytes, u32_at, u16_at}
use Rattle.dbus_capture.specs.Stages.{begun}
use Rattle.dbus_capture.specs.Beginnings.{first_stage}
use Rattle.dbus_capture.specs.Steps.{Leads}
use Rattle.dbus_capture.specs.Scans.{place, fresh}
use Rattle.dbus_capture.specs.Blocks.{block_by, block_stage, order_mark, section_head, decoded}
use Rattle.dbus_capture.specs.Reading.{IsReadOf}
use Rattle.dbus_capture.specs.CutPackets.{Captured, AreCaptured}
use Rattle.dbus_capture.specs.BlockFiles.{FitsBody, framed_bytes, FileBlock, InterfaceBlock, PacketBlock, OtherBlock, block_bytes, block_body, blocks_bytes, interfaces_after, FitsBlock, AllFitBlocks, FileSection, section_body, FitsSection, section_bytes, sections_bytes, AllFitSections, interfaces_all, last_section, block_packets, blocks_packets, sections_packets}
use Rattle.dbus_capture.proofs.NumberLaws.{u32_again, u16_again}
use Rattle.dbus_capture.proofs.FirstLaws.{begins_section}
use Rattle.dbus_capture.proofs.StepLaws.{lead_then, lead_to, lead_of, run_head}
use Rattle.dbus_capture.proofs.Leads.{head_leads, Went, went_nothing, went_then, went_on, captured_front, read_whole}
use Rattle.dbus_capture.proofs.BlockReads.{at_blocks, length_ok, framed_size, ends, other_read, block_read as packet_read}
use Rattle.dbus_capture.proofs.InterfaceReads.{interface_read}

-- ---- the blocks of a section

module _ (passes : Bool) (o : ByteOrder) where
  block_read : (interfaces : List Interface) (s : Scan) (block : FileBlock) → passes ≡ s.passes_cut → FitsBlock interfaces block → FitsBody (block_body o block) → AreCaptured passes s.alone (block_packets interfaces block)
      → Went (at_blocks o (interfaces_after interfaces block)) (at_blocks o interfaces s) (block_bytes o block) (block_packets interfaces block)
  block_read interfaces s (InterfaceBlock link_type reserved snap options end) e f b c = interface_read o interfaces s link_type reserved snap options end f b
  block_read interfaces s (PacketBlock head original bytes rest) e f b c = packet_read o interfaces s passes head original bytes rest f b e c
  block_read interfaces s (OtherBlock kind body) e f b c = other_read o interfaces s kind body f.0 f.1 f.2 f.3 f.4 f.5 b

  blocks_read : (interfaces : List Interface) (s : Scan) (blocks : List FileBlock) → passes ≡ s.passes_cut → AllFitBlocks o interfaces blocks → AreCaptured passes s.alone (blocks_packets interfaces blocks)
      → Went (at_blocks o (interfaces_all interfaces blocks)) (at_blocks o interfaces s) (blocks_bytes o blocks) (blocks_packets interfaces blocks)
  blocks_read interfaces s [] e f c = went_nothing (at_blocks o interfaces) s
  blocks_read interfaces s (block ∷ blocks) e f c =
      let later = blocks_packets (interfaces_after interfaces block) blocks in
      let both = captured_front passes s.alone (block_packets interfaces block) later c in
      let w = block_read interfaces s block e f.0 f.1 both.0 in
      went_then w (blocks_read (interfaces_after interfaces block) w.final blocks (e ∙ sym w.passes) f.2 (subst (λ (a : Bool). AreCaptured passes a later) (sym w.alone) both.1))

-- ---- the first block of a section

-- its type is the same number in both orders
same_type : (o p : ByteOrder) (rest : List ℕ) → u32_at p 0 (u32_bytes o 0x0a0d0d0a ++ rest) ≡ 0x0a0d0d0a
same_type Little Little rest = refl
same_type Little Big rest = refl
same_type Big Little rest = refl
same_type Big Big rest = refl

minor_is : (n : ℕ) → (n ≡ 0) ⊎ (n ≡ 2) → (((n == 0) || (n == 2)) ≡ true) × (n < 2 ^ 16)
minor_is n (inl e) = (ap (λ (m : ℕ). (m == 0) || (m == 2)) e, omega (arith, e))
minor_is n (inr e) = (ap (λ (m : ℕ). (m == 0) || (m == 2)) e, omega (arith, e))

abbrev front_bytes : ByteOrder → ℕ → List ℕ
front_bytes o total = u32_bytes o 0x0a0d0d0a ++ u32_bytes o total

abbrev rest_bytes : ByteOrder → ℕ → List ℕ → List ℕ
rest_bytes o minor size = u32_bytes o 0x1a2b3c4d ++ (u16_bytes o 1 ++ (u16_bytes o minor ++ size))

section_told : (o : ByteOrder) (total minor : ℕ) (size : List ℕ) → total < 2 ^ 32 → minor < 2 ^ 16 → length size ≡ 8 → let h = front_bytes o total ++ rest_bytes o minor size in
    (u32_at Little 0 h ≡ 0x0a0d0d0a) × (order_mark (u32_at Little 8 h) ≡ Some o) × (u32_at o 4 h ≡ total) × (u16_at o 12 h ≡ 1) × (u16_at o 14 h ≡ minor) × (length (front_bytes o total) ≡ 8) × (length (rest_bytes o minor size) ≡ 16)
section_told Little total minor size p q z = (refl, refl, u32_again Little total p, refl, u16_again Little minor q, refl, omega (arith, z))
section_told Big total minor size p q z = (refl, refl, u32_again Big total p, refl, u16_again Big minor q, refl, omega (arith, z))

-- in a state in which the head of a section may come
section_read : (x : FileSection) → FitsSection x → (s t : Scan) → t.alone ≡ s.alone → t.passes_cut ≡ s.passes_cut → t.next ≡ s.next → t.packets ≡ s.packets → t.cut ≡ s.cut
    → (let h = front_bytes x.order (12 + length (section_body x)) ++ rest_bytes x.order x.minor x.size in length h ≡ 24 → Leads s h [] (section_head (record t { give = 0; fault = None }) h))
    → Went (at_blocks x.order []) s (framed_bytes x.order 0x0a0d0d0a (section_body x)) []
section_read x f s t alone same next packets cut leads =
    let o = x.order in
    let total = 12 + length (section_body x) in
    let e = section_told o total x.minor x.size f.body.size (minor_is x.minor f.minor).1 f.size in
    let long = length-append (front_bytes o total) (rest_bytes o x.minor x.size) in
    let body = length-append (rest_bytes o x.minor x.size) x.options in
    let z : Scan = record t { give = 0; fault = None } in
    let minor = (minor_is x.minor f.minor).0 in
    let least : 28 ≤ total = omega (arith, body, e.6) in
    let fits = length_ok 28 total f.body.whole least in
    let m : Scan = record z { head = begun stages.Trailer; skip = total - 28; next = place (t.next + (total - 4)); order = o; total = total; interfaces = [] } in
    let told : section_head z (front_bytes o total ++ rest_bytes o x.minor x.size) ≡ m = simp (e.0, e.1, e.2, e.3, e.4, minor, fits) in
    let size = framed_size o 0x0a0d0d0a (section_body x) in
    went_on (at_blocks o []) s (record m { next = place (m.next + 4) }) (framed_bytes o 0x0a0d0d0a (section_body x))
    (lead_of (regroup (front_bytes o total) (rest_bytes o x.minor x.size) x.options (u32_bytes o total)) (lead_then (lead_to (leads (omega (arith, long, e.5, e.6))) told)
    (ends o m [] x.options 0 (total - 28) total refl (omega (arith, body, e.6)) f.body.size))) alone same (omega (arith, next, size, least)) packets cut
  where
    regroup : (front h options w : List ℕ) → front ++ ((h ++ options) ++ w) ≡ (front ++ h) ++ (options ++ w)
    regroup front h options w = simp append_assoc

-- one after another
rest_leads : (t : Scan) (front more : List ℕ) → length front + length more ≡ 24 → 0 < length more
    → Leads (record t { head = record { stage = stages.Section; bytes = front }; give = 0; skip = 0; fault = None }) more [] (section_head (record t { head = begun stages.Section; give = 0; skip = 0; fault = None }) (front ++ more))
unfolding decoded
rest_leads t front more long some =
    (run_head (record t { head = record { stage = stages.Section; bytes = front }; give = 0; skip = 0; fault = None }) more refl refl refl refl some long).leads

next_section : (o : ByteOrder) (interfaces : List Interface) (s : Scan) (x : FileSection) → FitsSection x → Went (at_blocks x.order []) (at_blocks o interfaces s) (framed_bytes x.order 0x0a0d0d0a (section_body x)) []
next_section o interfaces s x f =
    let t = at_blocks o interfaces s in
    let total = 12 + length (section_body x) in
    let front = front_bytes x.order total in
    let more = rest_bytes x.order x.minor x.size in
    let e = section_told x.order total x.minor x.size f.body.size (minor_is x.minor f.minor).1 f.size in
    section_read x f t (record t { head = begun stages.Section }) refl refl refl refl refl (λ long. lead_then
    (lead_to (head_leads stages.Block t front refl refl e.5) (ap (λ (n : ℕ). cond (n == 0x0a0d0d0a) (record t { head = record { stage = stages.Section; bytes = front } }) (block_by t (u32_at o 4 front) (block_stage n))) (same_type x.order o (u32_bytes x.order total))))
    (rest_leads t front more (omega (arith, e.5, e.6)) (omega (arith, e.6))))

-- ---- the file

module _ (passes : Bool) where
  -- the blocks of a section behind its first one
  section_blocks : (s : Scan) (x : FileSection) (later : List Captured) → passes ≡ s.passes_cut → FitsSection x → AreCaptured passes s.alone (blocks_packets [] x.blocks ++ later) → Went (at_blocks x.order []) s (framed_bytes x.order 0x0a0d0d0a (section_body x)) []
      → (w : Went (at_blocks x.order (interfaces_all [] x.blocks)) s (section_bytes x) (blocks_packets [] x.blocks)) × AreCaptured passes (at_blocks x.order (interfaces_all [] x.blocks) w.final).alone later
  section_blocks s x later e f c w =
      let both = captured_front passes s.alone (blocks_packets [] x.blocks) later c in
      let v = went_then w (blocks_read passes x.order [] w.final x.blocks (e ∙ sym w.passes) f.blocks (subst (λ (a : Bool). AreCaptured passes a (blocks_packets [] x.blocks)) (sym w.alone) both.0)) in
      (v, subst (λ (a : Bool). AreCaptured passes a later) (sym v.alone) both.1)

  sections_read : (s : Scan) (x : FileSection) (sections : List FileSection) → passes ≡ s.passes_cut → FitsSection x → AllFitSections sections → AreCaptured passes s.alone (sections_packets (x ∷ sections))
      → Went (at_blocks x.order []) s (framed_bytes x.order 0x0a0d0d0a (section_body x)) []
      → let last = last_section x sections in Went (at_blocks last.order (interfaces_all [] last.blocks)) s (sections_bytes (x ∷ sections)) (sections_packets (x ∷ sections))
  sections_read s x [] e f g c w =
      let v = (section_blocks s x [] e f c w).0 in
      went_then v (went_nothing (at_blocks x.order (interfaces_all [] x.blocks)) v.final)
  sections_read s x (y ∷ sections) e f g c w =
      let both = section_blocks s x (sections_packets (y ∷ sections)) e f c w in
      let v = both.0 in
      let here = interfaces_all [] x.blocks in
      went_then v (sections_read (at_blocks x.order here v.final) y sections (e ∙ sym v.passes) g.0 g.1 both.1 (next_section x.order here v.final y g.0))

  pub file_read : (x : FileSection) (sections : List FileSection) → FitsSection x → AllFitSections sections → AreCaptured passes true (sections_packets (x ∷ sections)) → let last = last_section x sections in
      Went (at_blocks last.order (interfaces_all [] last.blocks)) (fresh passes stages.Section) (sections_bytes (x ∷ sections)) (sections_packets (x ∷ sections))
  file_read x sections f g c =
      let s = fresh passes stages.Section in
      sections_read s x sections refl f g c (section_read x f s s refl refl refl refl refl (λ long. head_leads stages.Section s _ refl refl long))

-- a file, and what follows it, begin as a file
pub first_of_sections : (x : FileSection) (sections : List FileSection) (more : List ℕ) → first_stage (sections_bytes (x ∷ sections) ++ more) ≡ stages.Section
first_of_sections x sections more =
    let size = u32_bytes x.order (12 + length (section_body x)) in
    ap first_stage (regroup (u32_bytes x.order 0x0a0d0d0a) size (section_body x ++ size) (blocks_bytes x.order x.blocks) (sections_bytes sections) more) ∙ begins_section x.order _
  where
    regroup : (k t b c d more : List ℕ) → ((((k ++ t) ++ b) ++ c) ++ d) ++ more ≡ k ++ (t ++ (b ++ (c ++ (d ++ more))))
    regroup k t b c d more = simp append_assoc

pub pcapng_read : (passes : Bool) (x : FileSection) (sections : List FileSection) → FitsSection x → AllFitSections sections → AreCaptured passes true (sections_packets (x ∷ sections)) → IsReadOf passes (sections_bytes (x ∷ sections)) (sections_packets (x ∷ sections))
pcapng_read passes x sections f g c =
    let last = last_section x sections in
    let bytes = sections_bytes (x ∷ sections) in
    read_whole (at_blocks last.order (interfaces_all [] last.blocks)) stages.Section passes bytes (sections_packets (x ∷ sections)) (λ t. refl) (ap first_stage (sym (append-nil bytes)) ∙ first_of_sections x sections []) (file_read passes x sections f g c)
