-- The block of an interface is read as it is spelled, with its options.
use Rattle.std.proofs.Common.{◌≡◌, ◌≢◌, ℕ, ◌+◌, ◌-◌, ◌<◌, ◌≤◌, ◌^◌, Bool, true, false, cond, List, [], ◌∷◌, ◌++◌, length, take, drop, Option, None, Some, refl, sym, ap, ◌∙◌, arith, append_assoc, length-append, take-append-drop}
use Rattle.std.specs.Prelude.{◌==◌, nat_le, slice_index}
use Rattle.std.proofs.lemmas.List.{length-take-le, length-drop}
use Rattle.dbus_capture.specs.Types.{ByteOrder, Little, Big, Stage, Interface, Scan}
use Rattle.dbus_capture.specs.declared.stage.Stage.TheVariants as stages
use Rattle.dbus_capture.specs.Numbers.{u32_bytes, u16_bytes, u32_at, u16_at}
use Rattle.dbus_capture.specs.Stages.{is_raw, begun}
use Rattle.dbus_capture.specs.Scans.{place, refused}
use Rattle.dbus_capture.specs.declared.fault.CaptureReason.TheVariants as reasons
use Rattle.dbus_capture.specs.Blocks.{padded, after_option, pass_option, option_in}
use Rattle.dbus_capture.specs.Steps.{run, given, Leads}
use Rattle.dbus_capture.specs.BlockFiles.{FitsBody, InterfaceOption, option_bytes, options_bytes, FitsOption, AllFitOptions, with_option, with_options, end_bytes, FitsEnd, InterfaceBlock, block_bytes, block_body, interfaces_after, FitsBlock}
use Rattle.dbus_capture.proofs.Choices.{lt_false, eq_is, eq_not, eq_told, when_true, when_false, when_both}
use Rattle.dbus_capture.proofs.NumberLaws.{u32_size, u16_size, u32_again, u16_again}
use Rattle.dbus_capture.proofs.StepLaws.{lead_then, lead_to, lead_of, lead_from}
use Rattle.dbus_capture.proofs.Leads.{head_leads, bytes_lead, Went, went_on}
use Rattle.dbus_capture.proofs.BlockReads.{at_blocks, opens_as, framed_size, one_told}

two_told : (o : ByteOrder) (a b : ℕ) → a < 2 ^ 16 → b < 2 ^ 16 → let h = u16_bytes o a ++ u16_bytes o b in (length h ≡ 4) × (u16_at o 0 h ≡ a) × (u16_at o 2 h ≡ b)
two_told Little a b p q = (refl, u16_again Little a p, u16_again Little b q)
two_told Big a b p q = (refl, u16_again Big a p, u16_again Big b q)

interface_told : (o : ByteOrder) (link_type reserved snap : ℕ) → link_type < 2 ^ 16 → snap < 2 ^ 32 → let h = u16_bytes o link_type ++ (u16_bytes o reserved ++ u32_bytes o snap) in
    (length h ≡ 8) × (u16_at o 0 h ≡ link_type) × (u32_at o 4 h ≡ snap)
interface_told Little a b c p q = (refl, u16_again Little a p, u32_again Little c q)
interface_told Big a b c p q = (refl, u16_again Big a p, u32_again Big c q)

end_told : (o : ByteOrder) (two : List ℕ) → u16_at o 0 (u16_bytes o 0 ++ two) ≡ 0
end_told Little two = refl
end_told Big two = refl

filed_options : (b : Bool) → is_raw (cond b stages.InterfaceTrailer stages.OptionHead) ≡ false
filed_options true = refl
filed_options false = refl

le_false : (a b : ℕ) → b < a → nat_le a b ≡ false
le_false a b h = grind (arith, h)

-- in the block of an interface, of whose options so many bytes are left
module _ (o : ByteOrder) (interfaces : List Interface) (total : ℕ) (t : Scan) where
  abbrev at : ℕ → Interface → ℕ → Scan
  at left i next = record t { head = begun (after_option left); give = 0; skip = 0; fault = None; order = o; interfaces = interfaces; total = total; rest = left; interface = i; next = next }

  at_same : {a b k l : ℕ} {i j : Interface} → a ≡ b → i ≡ j → k ≡ l → at a i k ≡ at b j l
  at_same {a} {b} {k} {l} {i} {j} e f g = ap (λ (v : ℕ). at v i k) e ∙ ap (λ (v : Interface). at b v k) f ∙ ap (λ (v : ℕ). at b j v) g

  -- the code and the length of an option
  option_head : (left : ℕ) (i : Interface) (k code size : ℕ) → 0 < left → code < 2 ^ 16 → size < 2 ^ 16 → code ≢ 0 → padded size ≤ left - 4
      → Leads (at left i k) (u16_bytes o code ++ u16_bytes o size) [] (cond (code == 9) (cond (size == 1) (record (at left i k) { head = begun stages.Resolution; next = place (k + 4); rest = left - 8 }) (refused (at left i k) 2 reasons.OptionLength))
      (cond (code == 14) (pass_option (at left i k) (padded size) (record i { has_offset = true })) (pass_option (at left i k) (padded size) i)))
  option_head left i k code size some p q no_end room =
      let e = two_told o code size p q in
      let s = at left i k in
      let here : s ≡ record s { head = begun stages.OptionHead } = ap (λ (v : Stage). record s { head = begun v }) (when_false _ _ _ (eq_not left 0 (λ z. absurd (omega (arith, some, z))))) in
      lead_to (lead_from here (head_leads stages.OptionHead s (u16_bytes o code ++ u16_bytes o size) refl refl e.0))
      (ap (λ (v : Scan). option_in v (u16_at o 0 (u16_bytes o code ++ u16_bytes o size)) (u16_at o 2 (u16_bytes o code ++ u16_bytes o size))) (sym here)
      ∙ ap (λ (n : ℕ). option_in s n (u16_at o 2 (u16_bytes o code ++ u16_bytes o size))) e.1 ∙ ap (λ (n : ℕ). option_in s code n) e.2 ∙ when_false _ _ _ (eq_not code 0 no_end) ∙ when_false _ _ _ (lt_false (left - 4) (padded size) room))

  -- an option that is passed over
  passed : (left more : ℕ) (i j : Interface) (k size : ℕ) (bytes : List ℕ) → left ≡ 4 + (size + more) → length bytes ≡ size → Leads (pass_option (at left i k) size j) bytes [] (at more j (place (k + (4 + size))))
  passed left more i j k size bytes e n =
      lead_to (bytes_lead (at (left - 4 - size) j (place (k + (4 + size)))) [] bytes 0 size (filed_options (left - 4 - size == 0)) refl (sym n)) (at_same (let z : left - 4 - size ≡ more = omega (arith, e) in z) refl refl)

  -- the option of the resolution
  resolved : (left more : ℕ) (i : Interface) (k : ℕ) (value filler : List ℕ) → left ≡ 8 + more → length value ≡ 1 → length filler ≡ 3
      → Leads (record (at left i k) { head = begun stages.Resolution; next = place (k + 4); rest = left - 8 }) (value ++ filler) [] (at more (record i { resolution = slice_index value 0 }) (place (k + 8)))
  resolved left more i k [] filler e v f = absurd (omega (arith, v))
  resolved left more i k (x ∷ xs) filler e v f =
      let four : length ((x ∷ xs) ++ filler) ≡ 4 = let l = length-append (x ∷ xs) filler in omega (arith, l, v, f) in
      lead_to (head_leads stages.Resolution (record (at left i k) { next = place (k + 4); rest = left - 8 }) ((x ∷ xs) ++ filler) refl refl four)
      (at_same (let z : left - 8 ≡ more = omega (arith, e) in z) refl (let z : place (place (k + 4) + 4) ≡ place (k + 8) = omega arith in z))

  option_taken : (more : ℕ) (i : Interface) (n : ℕ) (x : InterfaceOption) → FitsOption x → let one = length (option_bytes o x) in
      Leads (at (one + more) i (place n)) (option_bytes o x) [] (at more (with_option i x) (place (n + one)))
  option_taken more i n x f =
      let size = length x.value in
      let body = x.value ++ x.filler in
      let all = option_bytes o x in
      let left = length all + more in
      let body_size : length body ≡ padded size = omega (arith, length-append x.value x.filler, f.filled) in
      let front = two_told o x.code size f.code f.size in
      let long : length all ≡ 4 + padded size = omega (arith, length-append (u16_bytes o x.code ++ u16_bytes o size) body, front.0, body_size) in
      let passes = λ (j : Interface). lead_to (passed left more i j (place n) (padded size) body (omega (arith, long)) body_size)
      (at_same refl refl (let z : place (place n + (4 + padded size)) ≡ place (n + length all) = omega (arith, long) in z)) in
      lead_then (option_head left i (place n) x.code size (omega (arith, long)) f.code f.size f.no_end (omega (arith, long)))
      (when_both (λ (v : Scan) (j : Interface). Leads v body [] (at more j (place (n + length all)))) (x.code == 9) _ _ _ _
      (λ nine.
      let one = f.resolution (eq_told _ _ nine) in
      let four : padded size ≡ 4 = ap padded one in
      lead_from (when_true _ _ _ (eq_is size 1 one)) (lead_to (resolved left more i (place n) x.value x.filler (omega (arith, long, four)) one (omega (arith, f.filled, four, one)))
      (at_same refl refl (let z : place (place n + 8) ≡ place (n + length all) = omega (arith, long, four) in z))))
      (λ other. when_both (λ (v : Scan) (j : Interface). Leads v body [] (at more j (place (n + length all)))) (x.code == 14) _ _ _ _
      (λ e. passes (record i { has_offset = true })) (λ e. passes i)))

  -- the options, and their end
  options_taken : (more : ℕ) (i : Interface) (n : ℕ) (options : List InterfaceOption) → AllFitOptions options → let all = length (options_bytes o options) in
      Leads (at (all + more) i (place n)) (options_bytes o options) [] (at more (with_options i options) (place (n + all)))
  unfolding run given
  options_taken more i n [] f = record { ran = at_same (let z : 0 + more ≡ more = omega arith in z) refl (let z : place n ≡ place (n + 0) = omega arith in z); gave = refl }
  options_taken more i n (x ∷ options) f =
      let one = option_bytes o x in
      let others = options_bytes o options in
      let l = length-append one others in
      lead_from (at_same (let z : length (one ++ others) + more ≡ length one + (length others + more) = omega (arith, l) in z) refl refl)
      (lead_to (lead_then (option_taken (length others + more) i n x f.0) (options_taken more (with_option i x) (n + length one) options f.1))
      (at_same refl refl (let z : place (n + length one + length others) ≡ place (n + length (one ++ others)) = omega (arith, l) in z)))

  end_taken : (i : Interface) (n : ℕ) (end : Option (List ℕ)) → FitsEnd end → Leads (at (length (end_bytes o end)) i (place n)) (end_bytes o end) [] (at 0 i (place (n + length (end_bytes o end))))
  unfolding run given
  end_taken i n None f = record { ran = at_same refl refl (let z : place n ≡ place (n + 0) = omega arith in z); gave = refl }
  end_taken i n (Some more) f =
      let bytes = u16_bytes o 0 ++ more in
      let two = take 2 more in
      let head = u16_bytes o 0 ++ two in
      let a = u16_size o 0 in
      let b = length-take-le 2 more f in
      let d = length-drop 2 more in
      let four : length head ≡ 4 = let k = length-append (u16_bytes o 0) two in omega (arith, k, a, b) in
      let left : length bytes ≡ 4 + length (drop 2 more) = let l = length-append (u16_bytes o 0) more in omega (arith, l, a, d, f) in
      let s = at (length bytes) i (place n) in
      let here : s ≡ record s { head = begun stages.OptionHead } = ap (λ (v : Stage). record s { head = begun v }) (when_false _ _ _ (eq_not (length bytes) 0 (λ z. absurd (omega (arith, left, z))))) in
      let m : Scan = record s { head = begun stages.InterfaceTrailer; next = place (place n + length bytes); rest = 0 } in
      lead_of (ap (λ (v : List ℕ). u16_bytes o 0 ++ v) (sym (take-append-drop 2 more)) ∙ sym (append_assoc (u16_bytes o 0) two (drop 2 more)))
      (lead_to (lead_then (lead_to (lead_from here (head_leads stages.OptionHead s head refl refl four)) (when_true _ _ _ (eq_is _ 0 (end_told o two))))
      (bytes_lead m [] (drop 2 more) 0 (length bytes - 4) refl refl (omega (arith, left)))) (at_same refl refl (let z : place (place n + length bytes) ≡ place (n + length bytes) = omega arith in z)))

  -- the length at the end of the block
  closes : (i : Interface) (k : ℕ) → total < 2 ^ 32 → length interfaces < 64 → Leads (at 0 i k) (u32_bytes o total) [] (at_blocks o (interfaces ++ i ∷ []) (record (at 0 i k) { next = place (k + 4) }))
  closes i k low few =
      let size = u32_size o total in
      lead_to (head_leads stages.InterfaceTrailer (at 0 i k) (u32_bytes o total) refl refl size) (when_true _ _ _ (eq_is _ _ (one_told o total low)) ∙ when_false _ _ _ (le_false 64 (length interfaces) few))

pub interface_read : (o : ByteOrder) (interfaces : List Interface) (s : Scan) (link_type reserved snap : ℕ) (options : List InterfaceOption) (end : Option (List ℕ)) → let block = InterfaceBlock link_type reserved snap options end in
    FitsBlock interfaces block → FitsBody (block_body o block) → Went (at_blocks o (interfaces_after interfaces block)) (at_blocks o interfaces s) (block_bytes o block) []
interface_read o interfaces s link_type reserved snap options end f b =
    let e = interface_told o link_type reserved snap f.0 f.1 in
    let h = u16_bytes o link_type ++ (u16_bytes o reserved ++ u32_bytes o snap) in
    let spelled = options_bytes o options in
    let ending = end_bytes o end in
    let body = h ++ (spelled ++ ending) in
    let total = 12 + length body in
    let w = u32_bytes o total in
    let left : total - 20 ≡ length spelled + length ending = let l = length-append h (spelled ++ ending) in let k = length-append spelled ending in omega (arith, l, k, e.0) in
    let i : Interface = record { link_type = link_type; snap_length = snap; resolution = 6; has_offset = false } in
    let m : Scan = record (at_blocks o interfaces s) { head = begun stages.InterfaceHead; next = place (s.next + 8); total = total; rest = total - 20 } in
    let opened = opens_as o interfaces s 1 total 20 stages.InterfaceHead refl (omega arith) b.size b.whole (let l = length-append h (spelled ++ ending) in omega (arith, l, e.0)) in
    let described : Interface = record { link_type = u16_at o 0 h; snap_length = u32_at o 4 h; resolution = 6; has_offset = false } in
    let is : described ≡ i = simp (e.1, e.2) in
    let headed = lead_to (head_leads stages.InterfaceHead m h refl refl e.0)
    (at_same o interfaces total m left is (let z : place (place (s.next + 8) + 8) ≡ place (s.next + 16) = omega arith in z)) in
    let n = s.next + 16 + length spelled + length ending in
    let closed = closes o interfaces total m (with_options i options) (place n) b.size f.4 in
    let tail = lead_then (options_taken o interfaces total m (length ending) i (s.next + 16) options f.2) (lead_then (end_taken o interfaces total m (with_options i options) (s.next + 16 + length spelled) end f.3) closed) in
    let size = framed_size o 1 body in
    went_on (at_blocks o (interfaces ++ with_options i options ∷ [])) (at_blocks o interfaces s) (record (at o interfaces total m 0 (with_options i options) (place n)) { next = place (place n + 4) }) _
    (lead_of (regroup (u32_bytes o 1 ++ w) h spelled ending w) (lead_then opened (lead_then headed tail))) refl refl
    (let l = length-append h (spelled ++ ending) in let k = length-append spelled ending in omega (arith, size, l, k, e.0)) refl refl
  where
    regroup : (k h a b w : List ℕ) → k ++ ((h ++ (a ++ b)) ++ w) ≡ k ++ (h ++ (a ++ (b ++ w)))
    regroup k h a b w = simp append_assoc
