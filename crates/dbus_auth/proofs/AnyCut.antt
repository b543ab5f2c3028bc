-- However the bytes are cut, a server's end sends the same lines and comes to the same status.
use Rattle.std.proofs.Common.{◌≡◌, ◌≢◌, inl, inr, ℕ, suc, ◌+◌, ◌-◌, ◌==◌, Bool, true, false, cond, List, [], ◌∷◌, ◌++◌, Option, Some, None, length, take, drop, refl, sym, ◌∙◌, ap, arith, append_assoc, length-append, take-append-drop}
use Rattle.std.proofs.lemmas.List.{append-nil, take-append-le, drop_at}
use Rattle.dbus_auth_lines.specs.Cut.{Cut, Ends, Bad, More, cut}
use Rattle.dbus_auth.specs.Machines.{ServerMachine}
use Rattle.dbus_auth.specs.Ends.{EndState, ServerEndState, EndOutcome, Turn, answers_if, closes, cuts, first, left_after, talks, takes_at, takes, server_turn, server_takes}
use Rattle.dbus_auth.specs.Bounded.{server_within}
use Rattle.dbus_auth.specs.World.{ServerRun, line_sent, run_server, IsFinished, LooksAlike}
use Rattle.dbus_auth.specs.declared.bounds.Bounds.{Bounds}
use Rattle.dbus_auth.specs.declared.end_step.Status.{Status}
use Rattle.dbus_auth.specs.declared.end_step.Status.TheVariants as status
use Rattle.dbus_auth_lines.proofs.Cuts.{StaysSettled, IsAbove, cut_follows}
use Rattle.dbus_auth.proofs.Stages.{answers_as, takes_by}
use Rattle.dbus_auth.proofs.Sides.{cut_nil}

-- ---- byte by byte

record Seen : Type 0 where
  said : List (List ℕ)
  status : Status

abbrev tells : List ℕ → Seen → Seen
tells send x = record { said = line_sent send ++ x.said; status = x.status }

abbrev ends_as : Status → Seen
ends_as st = record { said = []; status = st }

-- rest: what comes of the bytes that follow, of an end that goes on
abbrev by_status : Status → Seen → Seen
by_status status.Talking rest = rest
by_status status.Begun rest = ends_as status.Begun
by_status status.Closed rest = ends_as status.Closed

-- a server, and what it may still send
record Talker : Type 0 where
  machine : ServerMachine
  left : Option Bounds

abbrev talker : ServerEndState → Talker
talker e = record { machine = e.machine; left = e.left }

abbrev answered_if : Turn ServerMachine → (Talker → Seen) → Option (Option Bounds) → Seen
answered_if t rest (Some left) = tells t.send (by_status t.status (rest (record { machine = t.next; left = left })))
answered_if t rest None = ends_as status.Closed

abbrev answered : Talker → List ℕ → (Talker → Seen) → Seen
answered s line rest = answered_if (server_turn s.machine line) rest (left_after s.left (server_turn s.machine line).counts)

abbrev picks : Talker → List ℕ → Cut → (Talker → List ℕ → Seen) → Seen
picks s k More rest = rest s k
picks s k (Bad f) rest = ends_as status.Closed
picks s k (Ends n) rest = answered s (take (n - 2) k) (λ t. rest t [])

-- what comes of the bytes after those that are kept
goes : Talker → List ℕ → List ℕ → Seen
goes s kept [] = ends_as status.Talking
goes s kept (b ∷ bs) = picks s (kept ++ b ∷ []) (cut (kept ++ b ∷ [])) (λ t k. goes t k bs)

-- ---- a piece at once

abbrev at_once : Talker → List ℕ → List ℕ → List ℕ → Cut → Seen
at_once s kept p r More = goes s (kept ++ p) r
at_once s kept p r (Bad f) = ends_as status.Closed
at_once s kept p r (Ends n) = answered s (take (n - 2) (kept ++ p)) (λ t. goes t [] (drop (n - length kept) (p ++ r)))

-- the first byte of a piece, and the others
module _ (s : Talker) (kept : List ℕ) (b : ℕ) (p r : List ℕ) where
  one_more : List ℕ
  one_more = kept ++ b ∷ []

  shift : (c : Cut) → IsAbove c (length (kept ++ b ∷ [])) → at_once s (kept ++ b ∷ []) p r c ≡ at_once s kept (b ∷ p) r c
  shift More h = ap (λ (x : List ℕ). goes s x r) (append_assoc kept (b ∷ []) p)
  shift (Bad f) h = refl
  shift (Ends n) h =
      let e : n - length kept ≡ suc (n - length (kept ++ b ∷ [])) = omega (arith, length-append kept (b ∷ []), h) in
      ap (λ (x : List ℕ). answered s (take (n - 2) x) (λ t. goes t [] (drop (n - length (kept ++ b ∷ [])) (p ++ r)))) (append_assoc kept (b ∷ []) p)
      ∙ ap (λ (m : ℕ). answered s (take (n - 2) (kept ++ b ∷ p)) (λ t. goes t [] (drop m (b ∷ (p ++ r))))) (sym e)

  first_byte : (c : Cut) → StaysSettled c (cut (kept ++ b ∷ p)) (length (kept ++ b ∷ [])) → IsAbove c (length kept)
      → (c ≡ More → goes s (kept ++ b ∷ []) (p ++ r) ≡ at_once s (kept ++ b ∷ []) p r (cut (kept ++ b ∷ p)))
      → picks s (kept ++ b ∷ []) c (λ t k. goes t k (p ++ r)) ≡ at_once s kept (b ∷ p) r (cut (kept ++ b ∷ p))
  first_byte More h above others = others refl ∙ shift (cut (kept ++ b ∷ p)) h
  first_byte (Bad f) h above others = rw h refl
  first_byte (Ends n) h above others =
      let size = length-append kept (b ∷ []) in
      let one : n - length kept ≡ 1 = omega (arith, size, above, h.1) in
      let same : take (n - 2) (kept ++ b ∷ p) ≡ take (n - 2) (kept ++ b ∷ []) =
      ap (take (n - 2)) (sym (append_assoc kept (b ∷ []) p)) ∙ take-append-le (n - 2) (kept ++ b ∷ []) p (omega (arith, size, h.1)) in
      rw h.0 (ap (λ (x : List ℕ). answered s x (λ t. goes t [] (p ++ r))) (sym same)
      ∙ ap (λ (m : ℕ). answered s (take (n - 2) (kept ++ b ∷ p)) (λ t. goes t [] (drop m (b ∷ (p ++ r))))) (sym one))

piecewise : (p : List ℕ) (s : Talker) (kept r : List ℕ) → cut kept ≡ More → goes s kept (p ++ r) ≡ at_once s kept p r (cut (kept ++ p))
unfolding goes
piecewise [] s kept r wants = rw (append-nil kept, wants) (ap (λ (x : List ℕ). goes s x r) (sym (append-nil kept)))
piecewise (b ∷ p) s kept r wants =
    let k = kept ++ b ∷ [] in
    let e = append_assoc kept (b ∷ []) p in
    first_byte s kept b p r (cut k)
    (rw e at (cut_follows k p))
    (rw wants at (cut_follows kept (b ∷ [])))
    (λ m. rw e at (piecewise p s k r m))

goes_nil : (s : Talker) (kept : List ℕ) → goes s kept [] ≡ ends_as status.Talking
unfolding goes
goes_nil s kept = refl

-- ---- an end and the bytes to come

abbrev seen_first : ServerEndState → List ℕ → Seen
seen_first e [] = ends_as status.Talking
seen_first e (b ∷ bs) = cond (b == 0) (goes (talker e) e.kept bs) (ends_as status.Closed)

abbrev seen_talking : ServerEndState → List ℕ → Bool → Seen
seen_talking e bytes true = goes (talker e) e.kept bytes
seen_talking e bytes false = seen_first e bytes

abbrev seen : ServerEndState → List ℕ → Seen
seen e bytes = by_status e.status (seen_talking e bytes e.started)

-- it is a right account of a piece of these bytes
abbrev Accounts : Seen → EndOutcome ServerEndState → List ℕ → Type 0
Accounts x outcome bytes = x ≡ tells outcome.send (seen outcome.after (drop outcome.taken bytes))

cuts_seen : (e : ServerEndState) (skipped : ℕ) (p r bytes : List ℕ) (c : Cut) → e.status ≡ status.Talking → ((t : ℕ) → drop (skipped + t) bytes ≡ drop t (p ++ r))
    → Accounts (at_once (talker e) e.kept p r c) (cuts server_turn e skipped p c) bytes
cuts_seen e skipped p r bytes More talking d =
    let rest : drop (skipped + length p) bytes ≡ r = d (length p) ∙ drop_at p r (length p) refl in
    rw (talking, rest) refl
cuts_seen e skipped p r bytes (Bad f) talking d = refl
cuts_seen e skipped p r bytes (Ends n) talking d = by_left (left_after e.left t.counts)
  where
    t : Turn ServerMachine
    t = server_turn e.machine (take (n - 2) (e.kept ++ p))

    by_left : (left : Option (Option Bounds))
        → Accounts (answered_if t (λ x. goes x [] (drop (n - length e.kept) (p ++ r))) left) (answers_if server_turn e (skipped + (n - length e.kept)) t left) bytes
    by_left (Some left) = rw (d (n - length e.kept)) refl
    by_left None = refl

first_seen : (e : ServerEndState) (p r : List ℕ) → cut e.kept ≡ More → e.status ≡ status.Talking → e.started ≡ false → Accounts (seen_first e (p ++ r)) (first server_turn e p) (p ++ r)
first_seen e [] r sound talking z = rw (talking, z) refl
first_seen e (b ∷ p) r sound talking z = by_zero (b == 0)
  where
    by_zero : (t : Bool) → Accounts (cond t (goes (talker e) e.kept (p ++ r)) (ends_as status.Closed)) (cond t (cuts server_turn e 1 p (cut (e.kept ++ p))) (closes e)) (b ∷ (p ++ r))
    by_zero true =
        piecewise p (talker e) e.kept r sound
        ∙ cuts_seen e 1 p r (b ∷ (p ++ r)) (cut (e.kept ++ p)) talking (λ t. let e : 1 + t ≡ suc t = omega arith in ap (λ (n : ℕ). drop n (b ∷ (p ++ r))) e)
    by_zero false = refl

talks_seen : (e : ServerEndState) (p r : List ℕ) (z : Bool) → cut e.kept ≡ More → e.status ≡ status.Talking → e.started ≡ z → Accounts (seen_talking e (p ++ r) z) (talks server_turn e p z) (p ++ r)
talks_seen e p r true sound talking z =
    piecewise p (talker e) e.kept r sound ∙ cuts_seen e 0 p r (p ++ r) (cut (e.kept ++ p)) talking (λ t. let e : 0 + t ≡ t = omega arith in ap (λ (n : ℕ). drop n (p ++ r)) e)
talks_seen e p r false sound talking z = first_seen e p r sound talking z

takes_seen_at : (e : ServerEndState) (p r : List ℕ) (st : Status) → cut e.kept ≡ More → e.status ≡ st → Accounts (by_status st (seen_talking e (p ++ r) e.started)) (takes_at server_turn e p st) (p ++ r)
takes_seen_at e p r status.Talking sound is = talks_seen e p r e.started sound is refl
takes_seen_at e p r status.Begun sound is = rw is refl
takes_seen_at e p r status.Closed sound is = rw is refl

takes_seen : (e : ServerEndState) (p r : List ℕ) → cut e.kept ≡ More → Accounts (seen e (p ++ r)) (server_takes e p) (p ++ r)
unfolding takes
takes_seen e p r sound = takes_seen_at e p r e.status sound refl

-- ---- what is kept asks for more

module _ {M : Type 0} (turn : M → List ℕ → Turn M) where
  cuts_sound : (e : EndState M) (skipped : ℕ) (p : List ℕ) (c : Cut) → cut e.kept ≡ More → cut (e.kept ++ p) ≡ c → cut (cuts turn e skipped p c).after.kept ≡ More
  cuts_sound e skipped p More sound is = is
  cuts_sound e skipped p (Bad f) sound is = sound
  cuts_sound e skipped p (Ends n) sound is =
      answers_as turn (λ o. cut o.after.kept ≡ More) e (skipped + (n - length e.kept)) (turn e.machine (take (n - 2) (e.kept ++ p))) sound (λ left. cut_nil)

  pub takes_sound : (e : EndState M) (p : List ℕ) → cut e.kept ≡ More → cut (takes turn e p).after.kept ≡ More
  takes_sound e p sound = takes_by turn (λ o. cut o.after.kept ≡ More) e sound sound (λ skipped q. cuts_sound e skipped q (cut (e.kept ++ q)) sound refl) p

-- ---- all pieces

abbrev suffix : List (List ℕ) → Seen → Seen
suffix said x = record { said = said ++ x.said; status = x.status }

run_seen : (ns : List ℕ) (e : ServerEndState) (bytes : List ℕ) → cut e.kept ≡ More → seen e bytes ≡ suffix (run_server e bytes ns).said (seen (run_server e bytes ns).after (run_server e bytes ns).left)
run_seen [] e bytes sound = refl
run_seen (n ∷ ns) e bytes sound =
    let outcome = server_takes e (take n bytes) in
    let rest = run_server outcome.after (drop outcome.taken bytes) ns in
    let last = seen rest.after rest.left in
    ap (seen e) (sym (take-append-drop n bytes)) ∙ takes_seen e (take n bytes) (drop n bytes) sound
    ∙ ap (λ (x : List ℕ). tells outcome.send (seen outcome.after (drop outcome.taken x))) (take-append-drop n bytes)
    ∙ ap (tells outcome.send) (run_seen ns outcome.after (drop outcome.taken bytes) (takes_sound server_turn e (take n bytes) sound))
    ∙ ap (λ (x : List (List ℕ)). record { said = x; status = last.status }) (sym (append_assoc (line_sent outcome.send) rest.said last.said))

none_left : (e : ServerEndState) (z : Bool) → seen_talking e [] z ≡ ends_as status.Talking
none_left e true = goes_nil (talker e) e.kept
none_left e false = refl

seen_nil : (e : ServerEndState) (st : Status) → by_status st (seen_talking e [] e.started) ≡ ends_as st
seen_nil e status.Talking = none_left e e.started
seen_nil e status.Begun = refl
seen_nil e status.Closed = refl

seen_shut : (rest : Seen) (st : Status) → st ≢ status.Talking → by_status st rest ≡ ends_as st
seen_shut rest status.Talking h = absurd (h refl)
seen_shut rest status.Begun h = refl
seen_shut rest status.Closed h = refl

finished : (h : ServerRun) → IsFinished h → seen h.after h.left ≡ ends_as h.after.status
finished h (inl nil) = ap (seen h.after) nil ∙ seen_nil h.after h.after.status
finished h (inr shut) = seen_shut (seen_talking h.after h.left h.after.started) h.after.status shut

run_outcome : (e : ServerEndState) (bytes ns : List ℕ) → cut e.kept ≡ More → IsFinished (run_server e bytes ns) → seen e bytes ≡ record { said = (run_server e bytes ns).said; status = (run_server e bytes ns).after.status }
run_outcome e bytes ns sound fin =
    let h = run_server e bytes ns in
    run_seen ns e bytes sound ∙ ap (suffix h.said) (finished h fin) ∙ ap (λ (x : List (List ℕ)). record { said = x; status = h.after.status }) (append-nil h.said)

pub same_outcome : (left : Option Bounds) (s : ServerMachine) (bytes ns ms : List ℕ) → IsFinished (run_server (server_within left s) bytes ns) → IsFinished (run_server (server_within left s) bytes ms)
    → LooksAlike (run_server (server_within left s) bytes ns) (run_server (server_within left s) bytes ms)
same_outcome left s bytes ns ms f g =
    let e = sym (run_outcome (server_within left s) bytes ns cut_nil f) ∙ run_outcome (server_within left s) bytes ms cut_nil g in
    record { said = ap (λ (x : Seen). x.said) e; status = ap (λ (x : Seen). x.status) e }
