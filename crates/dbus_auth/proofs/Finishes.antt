-- Handing in byte by byte comes to an end: what is said of finished runs is said of some run of any
-- bytes.
use Rattle.std.proofs.Common.{◌≡◌, ◌≢◌, ◌⊎◌, inl, inr, ℕ, ◌+◌, ◌-◌, ◌==◌, Bool, true, false, cond, List, [], ◌∷◌, ◌++◌, Option, length, take, drop, refl, sym, ◌∙◌, arith, length-append}
use Rattle.std.proofs.lemmas.List.{append-nil}
use Rattle.dbus_auth_lines.specs.Cut.{Cut, Ends, Bad, More, cut}
use Rattle.dbus_auth.specs.Machines.{ServerMachine}
use Rattle.dbus_auth.specs.Ends.{ServerEndState, EndOutcome, closes, cuts, first, talks, takes_at, takes, server_turn, server_takes}
use Rattle.dbus_auth.specs.Bounded.{server_within}
use Rattle.dbus_auth.specs.World.{run_server, IsFinished}
use Rattle.dbus_auth.specs.declared.bounds.Bounds.{Bounds}
use Rattle.dbus_auth.specs.declared.end_step.Status.{Status}
use Rattle.dbus_auth.specs.declared.end_step.Status.TheVariants as status
use Rattle.dbus_auth_lines.proofs.Cuts.{StaysSettled, IsAbove, cut_follows}
use Rattle.dbus_auth.proofs.Sides.{cut_nil, is_done}
use Rattle.dbus_auth.proofs.Stages.{answers_as}
use Rattle.dbus_auth.proofs.AnyCut.{takes_sound}

-- a byte for each call
abbrev pub singly : List ℕ → List ℕ
singly [] = []
singly (b ∷ bs) = 1 ∷ singly bs

-- the one byte was taken, or the end takes nothing more
abbrev Moved : EndOutcome ServerEndState → Type 0
Moved outcome = (outcome.taken ≡ 1) ⊎ (outcome.after.status ≢ status.Talking)

closed_is_shut : status.Closed ≢ status.Talking
closed_is_shut h = cc

begun_is_shut : status.Begun ≢ status.Talking
begun_is_shut h = cc

cuts_moved : (e : ServerEndState) (b : ℕ) (c : Cut) → IsAbove c (length e.kept) → StaysSettled c c (length e.kept + 1) → Moved (cuts server_turn e 0 (b ∷ []) c)
cuts_moved e b More h k = inl (omega arith)
cuts_moved e b (Bad f) h k = inr closed_is_shut
cuts_moved e b (Ends n) h k =
    answers_as server_turn Moved e (0 + (n - length e.kept)) (server_turn e.machine (take (n - 2) (e.kept ++ b ∷ []))) (inr closed_is_shut) (λ left. inl (omega (arith, h, k.1)))

first_moved : (e : ServerEndState) (b : ℕ) → cut e.kept ≡ More → Moved (first server_turn e (b ∷ []))
first_moved e b sound = by_zero (b == 0)
  where
    by_zero : (t : Bool) → Moved (cond t (cuts server_turn e 1 [] (cut (e.kept ++ []))) (closes e))
    by_zero true = rw (append-nil e.kept, sound) (inl (omega arith))
    by_zero false = inr closed_is_shut

settled_self : (e : ServerEndState) (b : ℕ) → StaysSettled (cut (e.kept ++ b ∷ [])) (cut (e.kept ++ b ∷ [])) (length e.kept + 1)
settled_self e b =
    let size = length-append e.kept (b ∷ []) in
    let h = cut_follows (e.kept ++ b ∷ []) [] in
    rw (append-nil (e.kept ++ b ∷ []), size) at h

talks_moved : (e : ServerEndState) (b : ℕ) (z : Bool) → cut e.kept ≡ More → Moved (talks server_turn e (b ∷ []) z)
talks_moved e b true sound = cuts_moved e b (cut (e.kept ++ b ∷ [])) (rw sound at (cut_follows e.kept (b ∷ []))) (settled_self e b)
talks_moved e b false sound = first_moved e b sound

moved_at : (e : ServerEndState) (b : ℕ) (st : Status) → cut e.kept ≡ More → e.status ≡ st → Moved (takes_at server_turn e (b ∷ []) st)
moved_at e b status.Talking sound is = talks_moved e b e.started sound
moved_at e b status.Begun sound is = inr (λ h. begun_is_shut (sym is ∙ h))
moved_at e b status.Closed sound is = inr (λ h. closed_is_shut (sym is ∙ h))

moved : (e : ServerEndState) (b : ℕ) → cut e.kept ≡ More → Moved (server_takes e (b ∷ []))
unfolding takes
moved e b sound = moved_at e b e.status sound refl

-- an end that takes nothing more stays so
shut_is : (st : Status) → st ≢ status.Talking → (st ≡ status.Begun) ⊎ (st ≡ status.Closed)
shut_is status.Talking h = absurd (h refl)
shut_is status.Begun h = inl refl
shut_is status.Closed h = inr refl

shut_to_the_end : (ns : List ℕ) (e : ServerEndState) (bytes : List ℕ) → e.status ≢ status.Talking → (run_server e bytes ns).after.status ≢ status.Talking
shut_to_the_end [] e bytes h = h
shut_to_the_end (n ∷ ns) e bytes h = shut_to_the_end ns (server_takes e (take n bytes)).after (drop (server_takes e (take n bytes)).taken bytes) (rw (is_done server_turn e (take n bytes) (shut_is e.status h)) h)

finishes : (bytes : List ℕ) (e : ServerEndState) → cut e.kept ≡ More → IsFinished (run_server e bytes (singly bytes))
finishes [] e sound = inl refl
finishes (b ∷ bs) e sound = by_move (moved e b sound) (finishes bs (server_takes e (b ∷ [])).after (takes_sound server_turn e (b ∷ []) sound))
  where
    outcome : EndOutcome ServerEndState
    outcome = server_takes e (b ∷ [])

    by_move : Moved (server_takes e (b ∷ [])) → IsFinished (run_server (server_takes e (b ∷ [])).after bs (singly bs)) → IsFinished (run_server e (b ∷ bs) (1 ∷ singly bs))
    by_move (inl one) h = rw one h
    by_move (inr shut) h = inr (shut_to_the_end (singly bs) (server_takes e (b ∷ [])).after (drop (server_takes e (b ∷ [])).taken (b ∷ bs)) shut)

pub finishes_first : (left : Option Bounds) (s : ServerMachine) (bytes : List ℕ) → IsFinished (run_server (server_within left s) bytes (singly bytes))
finishes_first left s bytes = finishes bytes (server_within left s) cut_nil
