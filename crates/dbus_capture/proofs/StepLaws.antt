-- How many bytes at once are read as they are one by one.
use Rattle.std.proofs.Common.{◌≡◌, ℕ, suc, ◌+◌, ◌-◌, ◌≤◌, ◌^◌, Bool, true, false, cond, List, [], ◌∷◌, ◌++◌, length, Option, Some, None}
use Rattle.std.proofs.Common.{is_some, refl, sym, ap, ◌∙◌, arith, ◌<◌, append_assoc, append-nil, length-append, replicate}
use Rattle.std.proofs.lemmas.List.{replicate-append-replicate}
use Rattle.dbus_capture.specs.Types.{CaptureFault, Packet, Scan, Truncated}
use Rattle.dbus_capture.specs.Stages.{want, is_raw, begun}
use Rattle.dbus_capture.specs.Steps.{Turn, Stays, Passes, Gives, Skips, Gathers, counted_turn, turn_by, turn_of, stepped, gathered, gathered_out, handed, step}
use Rattle.dbus_capture.specs.Steps.{run, given, packets_given, Leads, LeadsWithin, may_end, ended}
use Rattle.dbus_capture.specs.Heads.{front_out}
use Rattle.dbus_capture.specs.Scans.{place}
use Rattle.dbus_capture.specs.Blocks.{decoded}
use Rattle.dbus_capture.proofs.Choices.{eq_is, eq_not, when_true, when_false}

-- ---- any pieces

pub run-append : (s : Scan) (xs ys : List ℕ) → run s (xs ++ ys) ≡ run (run s xs) ys
unfolding run
run-append s [] ys = refl
run-append s (x ∷ xs) ys = run-append (step s x) xs ys

pub given-append : (s : Scan) (xs ys : List ℕ) → given s (xs ++ ys) ≡ given s xs ++ given (run s xs) ys
unfolding run given
given-append s [] ys = refl
given-append s (x ∷ xs) ys =
    ap (λ l. handed s x (turn_of s) ++ l) (given-append (step s x) xs ys) ∙ sym (append_assoc (handed s x (turn_of s)) (given (step s x) xs) (given (run (step s x) xs) ys))

pub packets-append : (s : Scan) (xs ys : List ℕ) → packets_given s (xs ++ ys) ≡ packets_given s xs ++ packets_given (run s xs) ys
unfolding run packets_given
packets-append s [] ys = refl
packets-append s (x ∷ xs) ys =
    let here = replicate (length (handed s x (turn_of s))) (step s x).packet in
    ap (λ l. here ++ l) (packets-append (step s x) xs ys) ∙ sym (append_assoc here (packets_given (step s x) xs) (packets_given (run (step s x) xs) ys))

-- a step relation of whole pieces
pub lead_nothing : (s : Scan) → Leads s [] [] s
unfolding run given
lead_nothing s = record { ran = refl; gave = refl }

pub lead_then : {s m t : Scan} {xs ys a b : List ℕ} → Leads s xs a m → Leads m ys b t → Leads s (xs ++ ys) (a ++ b) t
lead_then {s} {m} {t} {xs} {ys} {a} {b} p q = record {
  ran = run-append s xs ys ∙ ap (λ (v : Scan). run v ys) p.ran ∙ q.ran;
  gave = given-append s xs ys ∙ ap (λ l. l ++ given (run s xs) ys) p.gave ∙ ap (λ (v : Scan). a ++ given v ys) p.ran ∙ ap (λ l. a ++ l) q.gave;
}

pub lead_to : {s t u : Scan} {bytes out : List ℕ} → Leads s bytes out t → t ≡ u → Leads s bytes out u
lead_to p e = record { ran = p.ran ∙ e; gave = p.gave }

pub lead_out : {s t : Scan} {bytes a b : List ℕ} → Leads s bytes a t → a ≡ b → Leads s bytes b t
lead_out p e = record { ran = p.ran; gave = p.gave ∙ e }

pub lead_of : {s t : Scan} {xs ys out : List ℕ} → xs ≡ ys → Leads s ys out t → Leads s xs out t
lead_of {s} e p = record { ran = ap (run s) e ∙ p.ran; gave = ap (given s) e ∙ p.gave }

pub lead_from : {s t u : Scan} {bytes out : List ℕ} → s ≡ t → Leads t bytes out u → Leads s bytes out u
lead_from {s} {t} {u} {bytes} e p = record { ran = ap (λ (v : Scan). run v bytes) e ∙ p.ran; gave = ap (λ (v : Scan). given v bytes) e ∙ p.gave }

-- ---- bytes of one packet

pub one_nothing : (s : Scan) → packets_given s [] ≡ []
unfolding packets_given
one_nothing s = refl

pub within_nothing : (s : Scan) → LeadsWithin s [] [] s
within_nothing s = record { leads = lead_nothing s; one = one_nothing s }

pub within_then : {s m t : Scan} {xs ys a b : List ℕ} → LeadsWithin s xs a m → LeadsWithin m ys b t → (0 < length a → m.packet ≡ t.packet) → LeadsWithin s (xs ++ ys) (a ++ b) t
within_then {s} {m} {t} {xs} {ys} {a} {b} p q same = record {
  leads = lead_then p.leads q.leads;
  one = packets-append s xs ys ∙ ap (λ l. l ++ packets_given (run s xs) ys) (p.one ∙ same_of a same)
      ∙ ap (λ (v : Scan). replicate (length a) t.packet ++ packets_given v ys) p.leads.ran ∙ ap (λ l. replicate (length a) t.packet ++ l) q.one
      ∙ replicate-append-replicate (length a) (length b) t.packet ∙ ap (λ (n : ℕ). replicate n t.packet) (sym (length-append a b));
}
  where
    same_of : (l : List ℕ) → (0 < length l → m.packet ≡ t.packet) → replicate (length l) m.packet ≡ replicate (length l) t.packet
    same_of [] same = refl
    same_of (x ∷ l) same = ap (replicate (length (x ∷ l))) (same (omega arith))

pub within_to : {s t u : Scan} {bytes out : List ℕ} → LeadsWithin s bytes out t → t ≡ u → LeadsWithin s bytes out u
within_to {s} {t} {u} {bytes} {out} p e = record { leads = lead_to p.leads e; one = p.one ∙ ap (λ (v : Scan). replicate (length out) v.packet) e }

pub within_from : {s t u : Scan} {bytes out : List ℕ} → s ≡ t → LeadsWithin t bytes out u → LeadsWithin s bytes out u
within_from {s} {t} {u} {bytes} e p = record { leads = lead_from e p.leads; one = ap (λ (v : Scan). packets_given v bytes) e ∙ p.one }

pub within_of : {s t : Scan} {xs ys out : List ℕ} → xs ≡ ys → LeadsWithin s ys out t → LeadsWithin s xs out t
within_of {s} e p = record { leads = lead_of e p.leads; one = ap (packets_given s) e ∙ p.one }

pub within_out : {s t : Scan} {bytes a b : List ℕ} → LeadsWithin s bytes a t → a ≡ b → LeadsWithin s bytes b t
within_out {s} {t} p e = record { leads = lead_out p.leads e; one = p.one ∙ ap (λ (l : List ℕ). replicate (length l) t.packet) e }

-- ---- one turn

pub turn_passes : (f : Option CaptureFault) (raw : Bool) (give skip : ℕ) → f ≡ None → raw ≡ true → turn_by f raw give skip ≡ Passes
turn_passes f raw give skip p q = rw (p, q)

turn_counted : (s : Scan) (give skip : ℕ) → s.fault ≡ None → is_raw s.head.stage ≡ false → s.give ≡ give → s.skip ≡ skip → turn_of s ≡ counted_turn give skip
turn_counted s give skip p q g k = rw (p, q, g, k)

-- one byte
turns : (s : Scan) (b : ℕ) (t : Turn) → turn_of s ≡ t → LeadsWithin s (b ∷ []) (handed s b t) (stepped s b t)
unfolding run given packets_given step
turns s b t e = record {
  leads = record { ran = ap (stepped s b) e; gave = append-nil (handed s b (turn_of s)) ∙ ap (handed s b) e };
  one = append-nil _ ∙ ap (λ (v : Turn). replicate (length (handed s b v)) (stepped s b v).packet) e;
}

lead_first : {s u : Scan} {xs out : List ℕ} (b : ℕ) (t : Turn) → turn_of s ≡ t → LeadsWithin (stepped s b t) xs out u → (0 < length (handed s b t) → (stepped s b t).packet ≡ u.packet) → LeadsWithin s (b ∷ xs) (handed s b t ++ out) u
lead_first {s} b t e p same = within_then (turns s b t e) p same

-- ---- many

pub none_of : (f : Option CaptureFault) → is_some f ≡ false → f ≡ None
none_of None p = refl
none_of (Some f) p = cc

stays_by : (f : Option CaptureFault) (raw : Bool) (give skip : ℕ) → is_some f ≡ true → turn_by f raw give skip ≡ Stays
stays_by None raw give skip p = cc
stays_by (Some f) raw give skip p = refl

pub run_stopped : (s : Scan) (xs : List ℕ) → is_some s.fault ≡ true → LeadsWithin s xs [] s
run_stopped s [] p = within_nothing s
run_stopped s (x ∷ xs) p = lead_first x Stays (stays_by s.fault (is_raw s.head.stage) s.give s.skip p) (run_stopped s xs p) (λ some. refl)

pub run_raw : (s : Scan) (xs : List ℕ) → is_some s.fault ≡ false → is_raw s.head.stage ≡ true → LeadsWithin s xs xs s
run_raw s [] p q = within_nothing s
run_raw s (x ∷ xs) p q =
    lead_first x Passes (turn_passes s.fault (is_raw s.head.stage) s.give s.skip (none_of s.fault p) q) (run_raw s xs p q) (λ some. refl)

pub run_gives : (s : Scan) (xs : List ℕ) → s.fault ≡ None → is_raw s.head.stage ≡ false → length xs ≤ s.give
    → LeadsWithin s xs xs (record s { give = s.give - length xs })
run_gives s [] p q h = within_to (within_nothing s) (ap (λ (n : ℕ). record s { give = n }) (let e : s.give ≡ s.give - 0 = omega arith in e))
run_gives s (x ∷ xs) p q h =
    let left : s.give - 1 - length xs ≡ s.give - suc (length xs) = omega arith in
    lead_first x Gives (turn_counted s (suc (s.give - 1)) s.skip p q (omega (arith, h)) refl)
    (within_to (run_gives (record s { give = s.give - 1 }) xs p q (omega (arith, h))) (ap (λ (n : ℕ). record s { give = n }) left)) (λ some. refl)

pub run_skips : (s : Scan) (xs : List ℕ) → s.fault ≡ None → is_raw s.head.stage ≡ false → s.give ≡ 0 → length xs ≤ s.skip
    → LeadsWithin s xs [] (record s { skip = s.skip - length xs })
run_skips s [] p q z h = within_to (within_nothing s) (ap (λ (n : ℕ). record s { skip = n }) (let e : s.skip ≡ s.skip - 0 = omega arith in e))
run_skips s (x ∷ xs) p q z h =
    let left : s.skip - 1 - length xs ≡ s.skip - suc (length xs) = omega arith in
    lead_first x Skips (turn_counted s 0 (suc (s.skip - 1)) p q z (omega (arith, h)))
    (within_to (run_skips (record s { skip = s.skip - 1 }) xs p q z (omega (arith, h))) (ap (λ (n : ℕ). record s { skip = n }) left)) (λ some. refl)

-- ---- a head that comes in pieces

-- these bytes of it are there, and these come
abbrev held_in : Scan → List ℕ → Scan
held_in s bytes = record s { head = record { stage = s.head.stage; bytes = bytes } }

gathered_more : (s : Scan) (bytes : List ℕ) → length bytes < want s.head.stage → gathered s bytes ≡ held_in s bytes
gathered_more s bytes h = when_false _ _ _ (eq_not (length bytes) (want s.head.stage) (λ e. absurd (omega (arith, h, e))))

gathered_none : (s : Scan) (bytes : List ℕ) → length bytes < want s.head.stage → gathered_out s bytes ≡ []
gathered_none s bytes h = when_false _ _ _ (eq_not (length bytes) (want s.head.stage) (λ e. absurd (omega (arith, h, e))))

-- a byte of a head that is not its last
gathers_one : {t : Scan} {xs out : List ℕ} (s : Scan) (x : ℕ) → s.fault ≡ None → is_raw s.head.stage ≡ false → s.give ≡ 0 → s.skip ≡ 0 → length s.head.bytes + 1 < want s.head.stage
    → LeadsWithin (held_in s (s.head.bytes ++ x ∷ [])) xs out t → LeadsWithin s (x ∷ xs) out t
gathers_one {t} {xs} {out} s x p q z k h l =
    let held = s.head.bytes ++ x ∷ [] in
    let few : length held < want s.head.stage = omega (arith, h, length-append s.head.bytes (x ∷ [])) in
    let none = gathered_none s held few in
    within_out (lead_first x Gathers (turn_counted s 0 0 p q z k) (within_from (gathered_more s held few) l) (λ some. absurd (let n = ap length none in omega (arith, n, some)))) (ap (λ l. l ++ out) none)

-- less than the whole head
pub run_gathers : (s : Scan) (xs : List ℕ) → s.fault ≡ None → is_raw s.head.stage ≡ false → s.give ≡ 0 → s.skip ≡ 0
    → length s.head.bytes + length xs < want s.head.stage → LeadsWithin s xs [] (held_in s (s.head.bytes ++ xs))
run_gathers s [] p q z k h = within_to (within_nothing s) (ap (held_in s) (sym (append-nil s.head.bytes)))
run_gathers s (x ∷ xs) p q z k h =
    let held = s.head.bytes ++ x ∷ [] in
    let longer = length-append s.head.bytes (x ∷ []) in
    gathers_one s x p q z k (omega (arith, h)) (within_to (run_gathers (held_in s held) xs p q z k (omega (arith, h, longer))) (ap (held_in s) (append_assoc s.head.bytes (x ∷ []) xs)))

-- the whole head
pub run_head : (s : Scan) (xs : List ℕ) → s.fault ≡ None → is_raw s.head.stage ≡ false → s.give ≡ 0 → s.skip ≡ 0 → 0 < length xs
    → length s.head.bytes + length xs ≡ want s.head.stage → LeadsWithin s xs (front_out s (s.head.bytes ++ xs)) (decoded (record s { head = begun s.head.stage }) (s.head.bytes ++ xs))
run_head s [] p q z k some h = absurd (omega (arith, some))
run_head s (x ∷ []) p q z k some h =
    let whole = eq_is (length (s.head.bytes ++ x ∷ [])) (want s.head.stage) (omega (arith, h, length-append s.head.bytes (x ∷ []))) in
    within_out (within_to (turns s x Gathers (turn_counted s 0 0 p q z k)) (when_true _ _ _ whole)) (when_true _ _ _ whole)
run_head s (x ∷ y ∷ xs) p q z k some h =
    let held = s.head.bytes ++ x ∷ [] in
    let longer = length-append s.head.bytes (x ∷ []) in
    let joined = append_assoc s.head.bytes (x ∷ []) (y ∷ xs) in
    gathers_one s x p q z k (omega (arith, h)) (within_out (within_to (run_head (held_in s held) (y ∷ xs) p q z k (omega arith) (omega (arith, h, longer)))
    (ap (λ (l : List ℕ). decoded (record s { head = begun s.head.stage }) l) joined)) (ap (front_out s) joined))

-- ---- after a fault

ended_stopped : (s : Scan) (f : CaptureFault) → s.fault ≡ Some f → (ended s).fault ≡ Some f
ended_stopped s f e =
    let cut : Scan = record s { fault = Some (record { at = place (s.next + length s.head.bytes + 2 ^ 64 - place (s.give + s.skip)); reason = Truncated }) } in
    ap (λ (v : Option CaptureFault). (cond (may_end (turn_by v (is_raw s.head.stage) s.give s.skip) s.head.stage s.head.bytes) s cut).fault) e ∙ e

pub stopped_after : (s t : Scan) (h more : List ℕ) (f : CaptureFault) → run s h ≡ t → t.fault ≡ Some f → (ended (run s (h ++ more))).fault ≡ Some f
stopped_after s t h more f e p =
    let stops = (run_stopped t more (ap is_some p)).leads.ran in
    ap (λ (v : Scan). (ended v).fault) (run-append s h more ∙ ap (λ (v : Scan). run v more) e ∙ stops) ∙ ended_stopped t f p
