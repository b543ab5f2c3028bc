-- From a state the bytes of a file lead to another, and some of them are handed on.
use Rattle.std.proofs.Common.{◌≤◌, ◌≡◌, inl, inr, ℕ, ◌+◌, ◌-◌, ◌<◌, Bool, true, false, cond, nat_lt, List, [], ◌∷◌, ◌++◌, length, take, drop, Option, None, Some, refl, sym, ap, subst, ◌∙◌, arith, append_assoc, append-nil, length-append, take-append-drop}
use Rattle.std.specs.Prelude.{◌==◌, ◌&&◌}
use Rattle.dbus_capture.specs.Types.{Packet, Stage, Raw, Record, Trailer, Scan, PacketHead}
use Rattle.dbus_capture.specs.Stages.{want, is_raw, is_front, front_before, after_front, begun}
use Rattle.dbus_capture.specs.Scans.{place, fresh}
use Rattle.dbus_capture.specs.Beginnings.{first_stage, first_scan}
use Rattle.dbus_capture.specs.Blocks.{decoded, decoded_by}
use Rattle.dbus_capture.specs.Steps.{run, given, packet_given, ended, Leads, LeadsWithin}
use Rattle.dbus_capture.specs.Reading.{IsReadOf}
use Rattle.dbus_capture.specs.CutPackets.{stated, Captured, IsCaptured, AreCaptured, is_cut, alone_after, alone_all, whole_payload, whole_count, cut_count}
use Rattle.dbus_capture.proofs.Choices.{lt_true, lt_false, when_true, when_false}
use Rattle.std.proofs.lemmas.Bool.{cases_lt, cases_Bool, and_parts}
use Rattle.std.proofs.lemmas.Bool.Decides.{nat_tests}
use Rattle.std.proofs.lemmas.List.{length-take-le, length-drop, take-append-le}
use Rattle.dbus_capture.specs.Heads.{packet_of, give_packet, front_packet, pass_packet, packet_head, front_out, front_head}
use Rattle.dbus_capture.proofs.StepLaws.{run-append, lead_nothing, lead_then, lead_to, lead_of, lead_out, within_then, within_to, within_from, within_of, within_out, run_gives, run_skips, run_gathers, run_head}
use Rattle.dbus_capture.proofs.PacketSteps.{packet_after}
use Rattle.dbus_capture.proofs.CutLaws.{stated_front, alone_kept, alone_still, whole_told, short_told}

-- a head of this kind comes
abbrev pub ready : Stage → Scan → Scan
ready stage t = record t { head = begun stage; give = 0; skip = 0; fault = None }

want_some : (stage : Stage) → 0 < want stage
want_some Raw = omega arith
want_some _ = omega arith

pub head_leads : (stage : Stage) (t : Scan) (h : List ℕ) → is_raw stage ≡ false → is_front stage ≡ false → length h ≡ want stage
    → Leads (ready stage t) h [] (decoded_by stage (ready stage t) h)
unfolding decoded
head_leads stage t h filed plain size =
    lead_out (run_head (ready stage t) h refl filed refl refl (omega (arith, size, want_some stage)) (omega (arith, size))).leads (when_false _ _ _ plain)

-- the bytes of a packet, and those that are passed over
pub gives_lead : (t : Scan) (bytes : List ℕ) → is_raw t.head.stage ≡ false
    → Leads (record t { give = length bytes; fault = None }) bytes bytes (record t { give = 0; fault = None })
gives_lead t bytes filed =
    lead_to (run_gives (record t { give = length bytes; fault = None }) bytes refl filed (omega arith)).leads
    (ap (λ (n : ℕ). record t { give = n; fault = None }) (let z : length bytes - length bytes ≡ 0 = omega arith in z))

pub skips_lead : (t : Scan) (bytes : List ℕ) → is_raw t.head.stage ≡ false
    → Leads (record t { give = 0; skip = length bytes; fault = None }) bytes [] (record t { give = 0; skip = 0; fault = None })
skips_lead t bytes filed =
    lead_to (run_skips (record t { give = 0; skip = length bytes; fault = None }) bytes refl filed refl (omega arith)).leads
    (ap (λ (n : ℕ). record t { give = 0; skip = n; fault = None }) (let z : length bytes - length bytes ≡ 0 = omega arith in z))

pub bytes_lead : (t : Scan) (bytes rest : List ℕ) (give skip : ℕ) → is_raw t.head.stage ≡ false → give ≡ length bytes → skip ≡ length rest
    → Leads (record t { give = give; skip = skip; fault = None }) (bytes ++ rest) bytes (record t { give = 0; skip = 0; fault = None })
bytes_lead t bytes rest give skip filed g k =
    let both = lead_then (gives_lead (record t { skip = length rest }) bytes filed) (skips_lead t rest filed) in
    rw (g, k) (record { ran = both.ran; gave = both.gave ∙ append-nil bytes })

-- ---- packets

-- The bytes are those of these packets and what is around them, and lead to such a place of a file.
pub record Went (at : Scan → Scan) (s : Scan) (bytes : List ℕ) (packets : List Captured) : Type 0 where
  pub final : Scan
  pub leads : Leads s bytes (whole_payload s.alone packets) (at final)
  pub alone : (at final).alone ≡ alone_all s.alone packets
  pub passes : (at final).passes_cut ≡ s.passes_cut
  pub next : s.next ≡ place s.next → (at final).next ≡ place (s.next + length bytes)
  pub packets_is : place (at final).packets ≡ place (s.packets + whole_count s.alone packets)
  pub cut : s.cut ≡ place s.cut → (at final).cut ≡ place (s.cut + cut_count s.alone packets)

pub went_nothing : (at : Scan → Scan) (s : Scan) → Went at (at s) [] []
went_nothing at s = record {
  final = s;
  leads = lead_nothing (at s);
  alone = refl;
  passes = refl;
  next = λ low. omega (arith, low);
  packets_is = omega arith;
  cut = λ low. omega (arith, low);
}

payload_both : (alone : Bool) (xs ys : List Captured) → whole_payload alone (xs ++ ys) ≡ whole_payload alone xs ++ whole_payload (alone_all alone xs) ys
payload_both alone [] ys = refl
payload_both alone (p ∷ xs) ys =
    let here : List ℕ = cond (is_cut alone p) [] p.bytes in
    let after = alone_after alone p in
    ap (λ (l : List ℕ). here ++ l) (payload_both after xs ys) ∙ sym (append_assoc here (whole_payload after xs) (whole_payload (alone_all after xs) ys))

counts_both : (alone : Bool) (xs ys : List Captured) → (whole_count alone (xs ++ ys) ≡ whole_count alone xs + whole_count (alone_all alone xs) ys) × (cut_count alone (xs ++ ys) ≡ cut_count alone xs + cut_count (alone_all alone xs) ys)
counts_both alone [] ys = (omega arith, omega arith)
counts_both alone (p ∷ xs) ys = let e = counts_both (alone_after alone p) xs ys in (omega (arith, e.0), omega (arith, e.1))

alone_both : (alone : Bool) (xs ys : List Captured) → alone_all alone (xs ++ ys) ≡ alone_all (alone_all alone xs) ys
alone_both alone [] ys = refl
alone_both alone (p ∷ xs) ys = alone_both (alone_after alone p) xs ys

-- what was captured of packets, and of those that follow
pub captured_front : (passes alone : Bool) (xs ys : List Captured) → AreCaptured passes alone (xs ++ ys) → AreCaptured passes alone xs × AreCaptured passes (alone_all alone xs) ys
captured_front passes alone [] ys c = (tt, c)
captured_front passes alone (p ∷ xs) ys c = let more = captured_front passes (alone_after alone p) xs ys c.1 in ((c.0, more.0), more.1)

pub captured_both : (passes alone : Bool) (xs ys : List Captured) → AreCaptured passes alone xs → AreCaptured passes (alone_all alone xs) ys → AreCaptured passes alone (xs ++ ys)
captured_both passes alone [] ys c d = d
captured_both passes alone (p ∷ xs) ys c d = (c.0, captured_both passes (alone_after alone p) xs ys c.1 d)

pub went_then : {at by : Scan → Scan} {s : Scan} {xs ys : List ℕ} {ps qs : List Captured} (w : Went at s xs ps) → Went by (at w.final) ys qs → Went by s (xs ++ ys) (ps ++ qs)
went_then {at} {by} {s} {xs} {ys} {ps} {qs} w v =
    let both = lead_then w.leads v.leads in
    let counts = counts_both s.alone ps qs in
    let e = w.alone in
    let size = length-append xs ys in
    record {
      final = v.final;
      leads = record { ran = both.ran; gave = both.gave ∙ ap (λ (a : Bool). whole_payload s.alone ps ++ whole_payload a qs) e ∙ sym (payload_both s.alone ps qs) };
      alone = v.alone ∙ ap (λ (a : Bool). alone_all a qs) e ∙ sym (alone_both s.alone ps qs);
      passes = v.passes ∙ w.passes;
      next = λ low. let e = w.next low in let f = v.next (omega (arith, e)) in omega (arith, e, f, size);
      packets_is = let n = ap (λ (a : Bool). whole_count a qs) e in omega (arith, w.packets_is, v.packets_is, counts.0, n);
      cut = λ low. let e = w.cut low in let f = v.cut (omega (arith, e)) in let n = ap (λ (a : Bool). cut_count a qs) w.alone in omega (arith, e, f, counts.1, n);
    }

-- what moves on past no packet, and past one
pub went_on : (at : Scan → Scan) (s t : Scan) (bytes : List ℕ) → Leads s bytes [] (at t) → (at t).alone ≡ s.alone → (at t).passes_cut ≡ s.passes_cut → (at t).next ≡ place (s.next + length bytes)
    → (at t).packets ≡ s.packets → (at t).cut ≡ s.cut → Went at s bytes []
went_on at s t bytes l alone same next packets cut = record {
  final = t;
  leads = l;
  alone = alone;
  passes = same;
  next = λ low. next;
  packets_is = omega (arith, packets);
  cut = λ low. omega (arith, low, cut);
}

went_past : (at : Scan → Scan) (s t : Scan) (bytes : List ℕ) (p : Captured) (is : Bool) → is_cut s.alone p ≡ is → Leads s bytes (cond is [] p.bytes) (at t) → (at t).alone ≡ alone_after s.alone p → (at t).passes_cut ≡ s.passes_cut
    → (at t).next ≡ place (s.next + length bytes) → place (at t).packets ≡ place (s.packets + cond is 0 1) → (s.cut ≡ place s.cut → (at t).cut ≡ place (s.cut + cond is 1 0)) → Went at s bytes (p ∷ [])
went_past at s t bytes p is e l alone same next packets cut = record {
  final = t;
  leads = record { ran = l.ran; gave = l.gave ∙ sym (append-nil (cond is [] p.bytes)) ∙ sym (ap (λ (v : Bool). cond v [] p.bytes ++ []) e) };
  alone = alone;
  passes = same;
  next = λ low. next;
  packets_is = let n : cond (is_cut s.alone p) 0 1 + 0 ≡ cond is 0 1 + 0 = ap (λ (v : Bool). cond v 0 1 + 0) e in omega (arith, packets, n);
  cut = λ low. let k = cut low in let n : cond (is_cut s.alone p) 1 0 + 0 ≡ cond is 1 0 + 0 = ap (λ (v : Bool). cond v 1 0 + 0) e in omega (arith, k, n);
}

-- ---- a packet, after its head

-- what the first bytes of a packet behind which this head comes are
pub record IsFronted (stage : Stage) : Type 0 where
  pub filed : (is_raw stage ≡ false) × (is_raw (front_before stage) ≡ false)
  pub is : is_front (front_before stage) ≡ true
  pub size : want (front_before stage) ≡ 16
  pub after : after_front (front_before stage) ≡ stage
  pub reads : (s : Scan) (h : List ℕ) → decoded_by (front_before stage) s h ≡ front_head s h

pub fronted_record : IsFronted Record
fronted_record = record { filed = (refl, refl); is = refl; size = refl; after = refl; reads = λ s h. refl }

pub fronted_block : IsFronted Trailer
fronted_block = record { filed = (refl, refl); is = refl; size = refl; after = refl; reads = λ s h. refl }

module _ (stage : Stage) (f : IsFronted stage) (s : Scan) (p : PacketHead) where
  abbrev t : Scan
  t = ready stage s

  -- before its first bytes, and behind them
  abbrev pub opened : Scan
  opened = front_packet t p

  abbrev pub behind : Scan
  behind = record opened { head = begun stage }

  -- those are handed on
  abbrev pub shown : List ℕ → Scan
  shown h = record behind {
    give = p.captured - 16;
    skip = p.room - p.captured;
    next = place (place (s.next + p.size) + (p.captured + (p.room - p.captured)));
    packets = place (s.packets + 1);
    alone = p.captured == stated h;
  }

  front_leads : (h : List ℕ) → length h ≡ 16 → LeadsWithin opened h (front_out opened h) (front_head opened h)
  unfolding decoded
  front_leads h size =
      within_to (run_head opened h refl f.filed.1 refl refl (omega (arith, size)) (omega (arith, size, f.size))) (f.reads opened h)

  pub front_shown : (h : List ℕ) → length h ≡ 16 → stated h ≤ p.captured → LeadsWithin opened h h (shown h)
  front_shown h size enough =
      let long = lt_false p.captured (stated h) enough in
      within_out (within_to (front_leads h size) (when_false _ _ _ long ∙ ap (λ (v : Stage). record (shown h) { head = begun v }) f.after)) (when_true _ _ _ f.is ∙ when_false _ _ _ long)

  -- the packet is passed over
  front_cut : (h : List ℕ) → length h ≡ 16 → p.captured < stated h → s.passes_cut ≡ true
      → Leads opened h [] (record (pass_packet behind 16 (p.captured - 16 + (p.room - p.captured))) { cut = place (s.cut + 1) })
  front_cut h size short passes =
      let less = lt_true p.captured (stated h) short in
      lead_out (lead_to (front_leads h size).leads (when_true _ _ _ less ∙ when_true _ _ _ passes
      ∙ ap (λ (v : Stage). record (pass_packet (record opened { head = begun v }) 16 (p.captured - 16 + (p.room - p.captured))) { cut = place (s.cut + 1) }) f.after)) (when_true _ _ _ f.is ∙ when_true _ _ _ less)

  pub is_opened : p.original ≡ p.captured → s.alone ≡ true → 16 ≤ p.captured → packet_head t p ≡ opened
  is_opened all alone some =
      when_false _ _ _ (lt_false p.original p.captured (omega (arith, all))) ∙ when_false _ _ _ (lt_false p.captured p.original (omega (arith, all)))
      ∙ when_true _ _ _ (ap (λ (v : Bool). v && nat_lt 0 p.captured) alone ∙ lt_true 0 p.captured (omega (arith, some))) ∙ when_false _ _ _ (lt_false p.captured 16 some)

  pub is_given : p.original ≡ p.captured → (s.alone && nat_lt 0 p.captured) ≡ false → packet_head t p ≡ give_packet t p
  is_given all other =
      when_false _ _ _ (lt_false p.original p.captured (omega (arith, all))) ∙ when_false _ _ _ (lt_false p.captured p.original (omega (arith, all))) ∙ when_false _ _ _ other

  is_passed : p.captured < p.original → s.passes_cut ≡ true → packet_head t p ≡ record (pass_packet t p.size p.room) { cut = place (s.cut + 1) }
  is_passed short passes =
      when_false _ _ _ (lt_false p.original p.captured (omega (arith, short))) ∙ when_true _ _ _ (lt_true p.captured p.original short) ∙ when_true _ _ _ passes

  is_tiny : p.original ≡ p.captured → s.alone ≡ true → 0 < p.captured → p.captured < 16 → s.passes_cut ≡ true → packet_head t p ≡ record (pass_packet t p.size p.room) { cut = place (s.cut + 1) }
  is_tiny all alone some few passes =
      when_false _ _ _ (lt_false p.original p.captured (omega (arith, all))) ∙ when_false _ _ _ (lt_false p.captured p.original (omega (arith, all)))
      ∙ when_true _ _ _ (ap (λ (v : Bool). v && nat_lt 0 p.captured) alone ∙ lt_true 0 p.captured some) ∙ when_true _ _ _ (lt_true p.captured 16 few) ∙ when_true _ _ _ passes

  -- its bytes, and what is passed over behind them
  module _ (bytes rest : List ℕ) (size : length bytes ≡ p.captured) (room : length rest ≡ p.room - p.captured) where
    abbrev pub c : Captured
    c = record { original = p.original; bytes = bytes }

    abbrev front : List ℕ
    front = take 16 bytes

    split : 16 ≤ p.captured → (bytes ≡ front ++ drop 16 bytes) × (length front ≡ 16) × (length (drop 16 bytes) ≡ p.captured - 16) × (stated bytes ≡ stated front)
    split some =
        let long = length-take-le 16 bytes (omega (arith, size, some)) in
        let joined = sym (take-append-drop 16 bytes) in
        (joined, long, omega (arith, length-drop 16 bytes, size), ap stated joined ∙ stated_front front (drop 16 bytes) (omega (arith, long)))

    -- what it leads to
    record Behind (u : Scan) (out : List ℕ) (is : Bool) : Type 0 where
      left : ℕ
      over : ℕ
      next : ℕ
      packets : ℕ
      passed : ℕ
      cut : ℕ
      packet : Option Packet
      alone : Bool
      next_is : next ≡ place (s.next + (p.size + p.room))
      packets_is : place packets ≡ place (s.packets + cond is 0 1)
      cut_is : s.cut ≡ place s.cut → cut ≡ place (s.cut + cond is 1 0)
      alone_is : alone ≡ alone_after s.alone c
      leads : Leads u (bytes ++ rest) out (record t { rest = left; behind = over; next = next; packets = packets; passed_over = passed; cut = cut; packet = packet; alone = alone })

    module _ (within : p.captured ≤ p.room) where
      -- it is handed on
      behind_given : alone_after s.alone c ≡ s.alone → Behind (give_packet t p) bytes false
      behind_given same = record {
        left = s.rest;
        over = s.behind;
        next = _;
        packets = _;
        passed = s.passed_over;
        cut = s.cut;
        packet = _;
        alone = s.alone;
        next_is = refl;
        packets_is = omega arith;
        cut_is = λ low. omega (arith, low);
        alone_is = sym same;
        leads = bytes_lead (give_packet t p) bytes rest p.captured (p.room - p.captured) f.filed.0 (sym size) (sym room);
      }

      -- it is passed over
      behind_cut : alone_after s.alone c ≡ s.alone → Behind (record (pass_packet t p.size p.room) { cut = place (s.cut + 1) }) [] true
      behind_cut same = record {
        left = s.rest;
        over = s.behind;
        next = _;
        packets = s.packets;
        passed = _;
        cut = _;
        packet = s.packet;
        alone = s.alone;
        next_is = refl;
        packets_is = omega arith;
        cut_is = λ low. refl;
        alone_is = sym same;
        leads = bytes_lead (record (pass_packet t p.size p.room) { cut = place (s.cut + 1) }) [] (bytes ++ rest) 0 p.room f.filed.0 refl (omega (arith, length-append bytes rest, size, room, within));
      }

      module _ (some : 16 ≤ p.captured) where
        regroup : bytes ++ rest ≡ front ++ (drop 16 bytes ++ rest)
        regroup = ap (λ l. l ++ rest) (split some).0 ∙ append_assoc front (drop 16 bytes) rest

        -- the same after its first bytes
        behind_shown : stated bytes ≤ p.captured → alone_after s.alone c ≡ (p.captured == stated bytes) → Behind opened bytes false
        behind_shown enough alone =
            let e = split some in
            let after = bytes_lead (shown front) (drop 16 bytes) rest (p.captured - 16) (p.room - p.captured) f.filed.0 (sym e.2) (sym room) in
            record {
              left = p.captured;
              over = p.room - p.captured;
              next = _;
              packets = _;
              passed = s.passed_over;
              cut = s.cut;
              packet = _;
              alone = p.captured == stated front;
              next_is = omega (arith, within);
              packets_is = omega arith;
              cut_is = λ low. omega (arith, low);
              alone_is = ap (λ (n : ℕ). p.captured == n) (sym e.3) ∙ sym alone;
              leads = lead_of regroup (lead_out (lead_then (front_shown front e.1 (subst (λ (n : ℕ). n ≤ p.captured) e.3 enough)).leads after) (sym e.0));
            }

        behind_short : p.captured < stated bytes → s.passes_cut ≡ true → alone_after s.alone c ≡ s.alone → Behind opened [] true
        behind_short short passes same =
            let e = split some in
            let all = p.captured - 16 + (p.room - p.captured) in
            let x : Scan = record (pass_packet behind 16 all) { cut = place (s.cut + 1) } in
            let after = bytes_lead x [] (drop 16 bytes ++ rest) 0 all f.filed.0 refl (omega (arith, length-append (drop 16 bytes) rest, e.2, room)) in
            record {
              left = p.captured;
              over = p.room - p.captured;
              next = _;
              packets = s.packets;
              passed = _;
              cut = _;
              packet = _;
              alone = s.alone;
              next_is = omega (arith, within, some);
              packets_is = omega arith;
              cut_is = λ low. refl;
              alone_is = sym same;
              leads = lead_of regroup (lead_then (front_cut front e.1 (subst (λ (n : ℕ). p.captured < n) e.3 short) passes) after);
            }

      -- one that is whole
      behind_whole : IsCaptured s.passes_cut s.alone c → is_cut s.alone c ≡ false → Behind (packet_head t p) bytes false
      behind_whole k e =
          let w = whole_told s.alone c e in
          let all : p.original ≡ p.captured = let low = k.0 in let high = w.0 in omega (arith, size, low, high) in
          elim (cases_Bool (s.alone && nat_lt 0 p.captured)) [
            | inl both ↦
                let parts = and_parts s.alone (nat_lt 0 p.captured) both in
                let some : 0 < length bytes = let n = parts.1 in grind (arith, nat_tests, n, size) in
                let long = w.1 parts.0 some in
                let enough : 16 ≤ p.captured = let n = long.0 in omega (arith, n, size) in
                let fits : stated bytes ≤ p.captured = let n = long.1 in omega (arith, n, size) in
                subst (λ (v : Scan). Behind v bytes false) (sym (is_opened all parts.0 enough)) (behind_shown enough fits (w.2 parts.0 ∙ ap (λ (n : ℕ). n == stated bytes) size))
            | inr other ↦ subst (λ (v : Scan). Behind v bytes false) (sym (is_given all other)) (behind_given (alone_still s.alone c e (ap (λ (n : ℕ). s.alone && nat_lt 0 n) size ∙ other)))
          ]

      -- one that is cut, and is to be passed over
      behind_passed : IsCaptured s.passes_cut s.alone c → is_cut s.alone c ≡ true → Behind (packet_head t p) [] true
      behind_passed k e =
          let passes = k.1 e in
          let same = alone_kept s.alone c e in
          let low : p.captured ≤ p.original = let n = k.0 in omega (arith, n, size) in
          elim (cases_lt p.captured p.original) [
            | inl short ↦ subst (λ (v : Scan). Behind v [] true) (sym (is_passed short passes)) (behind_cut same)
            | inr enough ↦
                let all : p.original ≡ p.captured = omega (arith, low, enough) in
                let w = short_told s.alone c e (omega (arith, enough, size)) in
                elim (cases_lt p.captured 16) [
                  | inl few ↦ subst (λ (v : Scan). Behind v [] true) (sym (is_tiny all w.0 (let n = w.1 in omega (arith, n, size)) few passes)) (behind_cut same)
                  | inr some ↦
                      let less : p.captured < stated bytes = elim w.2 [ inl n ↦ absurd (omega (arith, n, size, some)) | inr n ↦ omega (arith, n, size) ] in
                      subst (λ (v : Scan). Behind v [] true) (sym (is_opened all w.0 some)) (behind_short some less passes same)
                ]
          ]

      -- a packet is read
      pub packet_went : (at : Scan → Scan) (u : Scan) (head : List ℕ) → Leads u head [] (packet_head t p) → IsCaptured s.passes_cut s.alone c
          → ((left over next packets passed cut : ℕ) (packet : Option Packet) (alone : Bool) → let x : Scan = record t { rest = left; behind = over; next = next; packets = packets; passed_over = passed; cut = cut; packet = packet; alone = alone } in at x ≡ x)
          → s.passes_cut ≡ u.passes_cut → s.alone ≡ u.alone → s.packets ≡ u.packets → s.cut ≡ u.cut → place (s.next + (p.size + p.room)) ≡ place (u.next + length (head ++ (bytes ++ rest))) → Went at u (head ++ (bytes ++ rest)) (c ∷ [])
      packet_went at u head l k is passes alone packets cut next = elim (cases_Bool (is_cut s.alone c)) [
        | inl e ↦ went true (behind_passed k e) e
        | inr e ↦ went false (behind_whole k e) e
      ]
        where
          went : (v : Bool) → Behind (packet_head t p) (cond v [] bytes) v → is_cut s.alone c ≡ v → Went at u (head ++ (bytes ++ rest)) (c ∷ [])
          went v b e =
              let x : Scan = record t { rest = b.left; behind = b.over; next = b.next; packets = b.packets; passed_over = b.passed; cut = b.cut; packet = b.packet; alone = b.alone } in
              let same : at x ≡ x = is b.left b.over b.next b.packets b.passed b.cut b.packet b.alone in
              went_past at u x (head ++ (bytes ++ rest)) c v (ap (λ (a : Bool). is_cut a c) (sym alone) ∙ e) (lead_then l (lead_to b.leads (sym same)))
              (ap (λ (z : Scan). z.alone) same ∙ b.alone_is ∙ ap (λ (a : Bool). alone_after a c) alone) (ap (λ (z : Scan). z.passes_cut) same ∙ passes)
              (ap (λ (z : Scan). z.next) same ∙ b.next_is ∙ next)
              (let n = b.packets_is in let m = ap (λ (z : Scan). z.packets) same in omega (arith, n, m, packets))
              (λ low. let m = ap (λ (z : Scan). z.cut) same in let n = b.cut_is (omega (arith, low, cut)) in omega (arith, n, m, cut))

-- ---- a whole input

pub read_whole : (at : Scan → Scan) (stage : Stage) (passes : Bool) (bytes : List ℕ) (packets : List Captured) → ((t : Scan) → (ended (at t)).fault ≡ None)
    → first_stage bytes ≡ stage → Went at (fresh passes stage) bytes packets → IsReadOf passes bytes packets
read_whole at stage passes bytes packets ends first w = record {
  read = record {
    gives = ap (λ (v : Stage). given (fresh passes v) bytes) first ∙ w.leads.gave;
    unfaulted = ap (λ (v : Stage). (ended (run (fresh passes v) bytes)).fault) first ∙ ap (λ (v : Scan). (ended v).fault) w.leads.ran ∙ ends w.final;
  };
  counted = ap (λ (v : Stage). (run (fresh passes v) bytes).cut) first ∙ ap (λ (v : Scan). v.cut) w.leads.ran ∙ w.cut refl ∙ ap place (let z : 0 + cut_count true packets ≡ cut_count true packets = omega arith in z);
}

-- the bytes of a packet of this time come after a head
pub record Begins (s : Scan) (head bytes : List ℕ) (time : Option ℕ) : Type 0 where
  pub state : Scan
  pub final : Scan
  pub leads : Leads s head [] state
  pub gives : LeadsWithin state bytes bytes final
  pub told : final.packet ≡ state.packet
  pub keeps : (front back : List ℕ) → bytes ≡ front ++ back → (run state front).packet ≡ state.packet
  pub reported : state.packet ≡ Some (record { number = place (s.packets + 1); at = place s.next; time = time; length = length bytes })

module _ {at : Scan → Scan} {stage : Stage} {passes : Bool} {before head bytes : List ℕ} {packets : List Captured} {time : Option ℕ}
    (first : (more : List ℕ) → first_stage (before ++ more) ≡ stage) (w : Went at (fresh passes stage) before packets) (b : Begins (at w.final) head bytes time) where
  abbrev out : List ℕ
  out = whole_payload true packets

  abbrev packet : Packet
  packet = record { number = place (whole_count true packets + 1); at = place (length before); time = time; length = length bytes }

  begun_at : Leads (fresh passes stage) (before ++ head) (out ++ []) b.state
  begun_at = lead_then w.leads b.leads

  is_told : b.state.packet ≡ Some packet
  is_told =
      let number : place ((at w.final).packets + 1) ≡ place (whole_count true packets + 1) = let e = w.packets_is in omega (arith, e) in
      let next : place (at w.final).next ≡ place (length before) = let e = w.next refl in omega (arith, e) in
      b.reported ∙ ap (λ (n : ℕ). Some (record { number = n; at = place (at w.final).next; time = time; length = length bytes })) number
      ∙ ap (λ (n : ℕ). Some (record packet { at = n })) next

  pub reported_from : (front back : List ℕ) → bytes ≡ front ++ back → (run (first_scan passes (before ++ (head ++ front))) (before ++ (head ++ front))).packet ≡ Some packet
  reported_from front back e =
      ap (λ (v : Stage). (run (fresh passes v) (before ++ (head ++ front))).packet) (first (head ++ front))
      ∙ ap (λ (l : List ℕ). (run (fresh passes stage) l).packet) (sym (append_assoc before head front))
      ∙ ap (λ (v : Scan). v.packet) (run-append (fresh passes stage) (before ++ head) front ∙ ap (λ (v : Scan). run v front) begun_at.ran) ∙ b.keeps front back e ∙ is_told

  pub packet_from : (more : List ℕ) (i : ℕ) → i < length bytes → let all = (before ++ head) ++ (bytes ++ more) in packet_given (first_scan passes all) all (length out + i) ≡ Some packet
  packet_from more i low =
      let all = (before ++ head) ++ (bytes ++ more) in
      ap (λ (v : Stage). packet_given (fresh passes v) all (length out + i)) (ap first_stage (append_assoc before head (bytes ++ more)) ∙ first (head ++ (bytes ++ more)))
      ∙ packet_after (fresh passes stage) (before ++ head) bytes more (length out) i (ap length (begun_at.gave ∙ append-nil out)) (within_from begun_at.ran b.gives) low
      ∙ b.told ∙ is_told

-- a packet begins that is whole
module _ (stage : Stage) (f : IsFronted stage) (s : Scan) (p : PacketHead) (bytes : List ℕ) (size : length bytes ≡ p.captured) where
  pub record BeginsAt (u : Scan) : Type 0 where
    pub final : Scan
    pub gives : LeadsWithin u bytes bytes final
    pub told : final.packet ≡ u.packet
    pub keeps : (front back : List ℕ) → bytes ≡ front ++ back → (run u front).packet ≡ u.packet
    pub packet : u.packet ≡ Some (packet_of (ready stage s) p)

  given_begins : BeginsAt (give_packet (ready stage s) p)
  given_begins =
      let x = give_packet (ready stage s) p in
      record {
        final = _;
        gives = run_gives x bytes refl f.filed.0 (omega (arith, size));
        told = refl;
        keeps = λ front back e. let n = ap length e in ap (λ (v : Scan). v.packet) (run_gives x front refl f.filed.0 (omega (arith, size, n, length-append front back))).leads.ran;
        packet = refl;
      }

  opened_begins : 16 ≤ p.captured → stated bytes ≤ p.captured → BeginsAt (opened stage f s p)
  opened_begins some fits =
      let x = opened stage f s p in
      let h = take 16 bytes in
      let long = length-take-le 16 bytes (omega (arith, size, some)) in
      let joined = sym (take-append-drop 16 bytes) in
      let enough = subst (λ (n : ℕ). n ≤ p.captured) (ap stated joined ∙ stated_front h (drop 16 bytes) (omega (arith, long))) fits in
      let left = length-drop 16 bytes in
      let y = shown stage f s p h in
      let over = front_shown stage f s p h long enough in
      record {
        final = _;
        gives = within_of joined (within_out (within_then over (run_gives y (drop 16 bytes) refl f.filed.0 (omega (arith, left, size))) (λ z. refl)) (sym joined));
        told = refl;
        keeps = λ front back e.
            let n = ap length e in
            let m = length-append front back in
            elim (cases_lt (length front) 16) [
              | inl few ↦ ap (λ (v : Scan). v.packet) (run_gathers x front refl f.filed.1 refl refl (omega (arith, few, f.size))).leads.ran
              | inr more ↦
                  let first : take 16 front ≡ h = sym (ap (take 16) e ∙ take-append-le 16 front back more) in
                  let parts = sym (take-append-drop 16 front) ∙ ap (λ l. l ++ drop 16 front) first in
                  let both = lead_of parts (lead_then over.leads (run_gives y (drop 16 front) refl f.filed.0 (let k = length-drop 16 front in omega (arith, k, n, m, size, more))).leads) in
                  ap (λ (v : Scan). v.packet) both.ran
            ];
        packet = refl;
      }

  pub whole_begins : IsCaptured false s.alone (record { original = p.original; bytes = bytes }) → BeginsAt (packet_head (ready stage s) p)
  whole_begins k =
      let c : Captured = record { original = p.original; bytes = bytes } in
      let e : is_cut s.alone c ≡ false = elim (cases_Bool (is_cut s.alone c)) [ inl bad ↦ absurd (let not = k.1 bad in cc) | inr good ↦ good ] in
      let w = whole_told s.alone c e in
      let all : p.original ≡ p.captured = let low = k.0 in let high = w.0 in omega (arith, size, low, high) in
      elim (cases_Bool (s.alone && nat_lt 0 p.captured)) [
        | inl both ↦
            let parts = and_parts s.alone (nat_lt 0 p.captured) both in
            let some : 0 < length bytes = let n = parts.1 in grind (arith, nat_tests, n, size) in
            let long = w.1 parts.0 some in
            let enough : 16 ≤ p.captured = let n = long.0 in omega (arith, n, size) in
            subst BeginsAt (sym (is_opened stage f s p all parts.0 enough)) (opened_begins enough (let n = long.1 in omega (arith, n, size)))
        | inr other ↦ subst BeginsAt (sym (is_given stage f s p all other)) given_begins
      ]
