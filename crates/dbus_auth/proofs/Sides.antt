-- One side of a handshake: an end, the bytes that it keeps, and those that come to it.
use Rattle.std.proofs.Common.{◌≡◌, ◌⊎◌, inl, inr, ℕ, zero, suc, ◌+◌, ◌-◌, ◌≤◌, ◌||◌, Bool, true, false, List, [], ◌∷◌, ◌++◌, None, length, take, drop, refl, sym, subst, ◌∙◌, ap, arith, append_assoc, length-append, length-take, length-drop, take-append-drop}
use Rattle.std.proofs.lemmas.List.{drop_at, drop-append-le, append-nil, drop-drop}
use Rattle.dbus_auth_lines.specs.Lines.{ended}
use Rattle.dbus_auth_lines.specs.Cut.{More, cut, scan_from, IsLine}
use Rattle.dbus_auth.specs.Ends.{EndState, EndOutcome, Turn, nothing, not_started, after_turn, cuts, talks, takes_at, takes}
use Rattle.dbus_auth.specs.World.{Wire, untaken, sending, taking}
use Rattle.dbus_auth.specs.declared.end_step.Status.TheVariants as status
use Rattle.dbus_auth_lines.proofs.Cuts.{Comes, waits, whole, comes}

-- ---- wires

pub untaken-taking : (wire : Wire) (t : ℕ) → untaken (taking wire t) ≡ drop t (untaken wire)
untaken-taking wire t = sym (drop-drop t wire.took wire.sent)

-- no more was taken than was sent
pub record IsWire (wire : Wire) : Type 0 where
  pub within : wire.took ≤ length wire.sent

pub IsWire-taking : (wire : Wire) (t : ℕ) → IsWire wire → t ≤ length (untaken wire) → IsWire (taking wire t)
IsWire-taking wire t h le = record { within = omega (arith, length-drop wire.took wire.sent, h.within) }

pub untaken-sending : (wire : Wire) (bytes : List ℕ) → IsWire wire → untaken (sending wire bytes) ≡ untaken wire ++ bytes
untaken-sending wire bytes h = drop-append-le wire.took wire.sent bytes h.within

pub IsWire-sending : (wire : Wire) (bytes : List ℕ) → IsWire wire → IsWire (sending wire bytes)
IsWire-sending wire bytes h = record { within = omega (arith, length-append wire.sent bytes, h.within) }

-- these bytes are under way
pub record Carries (wire : Wire) (bytes : List ℕ) : Type 0 where
  pub left : untaken wire ≡ bytes
  pub on_wire : IsWire wire

pub Carries-sending : (wire : Wire) (bytes more : List ℕ) → Carries wire bytes → Carries (sending wire more) (bytes ++ more)
Carries-sending wire bytes more h = record { left = untaken-sending wire more h.on_wire ∙ ap (λ (x : List ℕ). x ++ more) h.left; on_wire = IsWire-sending wire more h.on_wire }

pub Carries-nil : (wire : Wire) (bytes none : List ℕ) → none ≡ [] → Carries wire bytes → Carries (sending wire none) bytes
Carries-nil wire bytes none e h = subst (λ (b : List ℕ). Carries (sending wire none) b) (ap (λ (x : List ℕ). bytes ++ x) e ∙ append-nil bytes) (Carries-sending wire bytes none h)

pub Carries-taking : (wire : Wire) (bytes : List ℕ) → Carries wire bytes → Carries (taking wire 0) bytes
Carries-taking wire bytes h = record { left = untaken-taking wire 0 ∙ h.left; on_wire = IsWire-taking wire 0 h.on_wire (omega arith) }

drop-length-take : (n : ℕ) (q : List ℕ) → drop (length (take n q)) q ≡ drop n q
drop-length-take n q = ap (drop (length (take n q))) (sym (take-append-drop n q)) ∙ drop_at (take n q) (drop n q) (length (take n q)) refl

-- a piece is taken whole after skipped bytes
past_piece : (wire : Wire) (skipped n : ℕ) (q : List ℕ) → drop skipped (untaken wire) ≡ q → untaken (taking wire (skipped + length (take n q))) ≡ drop n q
past_piece wire skipped n q e =
    untaken-taking wire (skipped + length (take n q)) ∙ sym (drop-drop (length (take n q)) skipped (untaken wire)) ∙ ap (drop (length (take n q))) e ∙ drop-length-take n q

past_line : (wire : Wire) (skipped t : ℕ) (q more : List ℕ) → drop skipped (untaken wire) ≡ q → drop t q ≡ more → untaken (taking wire (skipped + t)) ≡ more
past_line wire skipped t q more e f =
    untaken-taking wire (skipped + t) ∙ sym (drop-drop t skipped (untaken wire)) ∙ ap (drop t) e ∙ f

take-nil : (n : ℕ) → take {A = ℕ} n [] ≡ []
take-nil zero = refl
take-nil (suc n) = refl

-- ---- one side

pub cut_nil : cut [] ≡ More
unfolding scan_from
cut_nil = refl

-- the bytes still to be looked at: those kept and those untaken; before the end has started, after
-- the byte 0
abbrev pub Coming : Bool → List ℕ → List ℕ → List ℕ → Type 0
Coming true kept q bytes = kept ++ q ≡ bytes
Coming false kept q bytes = (kept ≡ []) × (q ≡ 0 ∷ bytes)

-- what is sent for these bytes to come
abbrev pub led : Bool → List ℕ → List ℕ
led true bytes = bytes
led false bytes = 0 ∷ bytes

-- the end keeps nothing
abbrev pub idle : {M : Type 0} → M → Bool → EndState M
idle m z = record (not_started m) { started = z }

module _ {M : Type 0} where
  pub record Side (e : EndState M) (wire : Wire) (m : M) (z : Bool) (bytes : List ℕ) : Type 0 where
    pub talking : e.status ≡ status.Talking
    pub is : e.machine ≡ m
    pub started : e.started ≡ z
    pub wants : cut e.kept ≡ More
    pub unbounded : e.left ≡ None
    pub coming : Coming z e.kept (untaken wire) bytes
    pub on_wire : IsWire wire

  -- nothing is under way to the end
  pub record Quiet (e : EndState M) (wire : Wire) (m : M) (z : Bool) : Type 0 where
    pub end : e ≡ idle m z
    pub carries : Carries wire []

  pub record Stays (outcome : EndOutcome (EndState M)) (wire : Wire) (m : M) (z : Bool) : Type 0 where
    pub quiet : Quiet outcome.after (taking wire outcome.taken) m z
    pub send : outcome.send ≡ []

  -- the end took a line, and its machine did this
  pub record Took (outcome : EndOutcome (EndState M)) (wire : Wire) (t : Turn M) (more : List ℕ) : Type 0 where
    pub after : outcome.after ≡ after_turn t
    pub send : outcome.send ≡ t.send
    pub carries : Carries (taking wire outcome.taken) more

  -- bytes are sent to an end to which nothing is under way
  pub Quiet-sending : {e : EndState M} {wire : Wire} {m : M} {z : Bool} {send : List ℕ} (bytes : List ℕ) → Quiet e wire m z → send ≡ led z bytes → Side e (sending wire send) m z bytes
  Quiet-sending {e = e} {wire = wire} {m = m} {z = z} {send = send} bytes q is = record {
    talking = ap (λ (x : EndState M). x.status) q.end;
    is = ap (λ (x : EndState M). x.machine) q.end;
    started = ap (λ (x : EndState M). x.started) q.end;
    wants = ap (λ (x : EndState M). cut x.kept) q.end ∙ cut_nil;
    unbounded = ap (λ (x : EndState M). x.left) q.end;
    coming = by_start z is;
    on_wire = IsWire-sending wire send q.carries.on_wire;
  }
    where
      none : e.kept ≡ []
      none = ap (λ (x : EndState M). x.kept) q.end

      arrives : untaken (sending wire send) ≡ send
      arrives = untaken-sending wire send q.carries.on_wire ∙ ap (λ (x : List ℕ). x ++ send) q.carries.left

      by_start : (z : Bool) → send ≡ led z bytes → Coming z e.kept (untaken (sending wire send)) bytes
      by_start true is = ap (λ (x : List ℕ). x ++ untaken (sending wire send)) none ∙ arrives ∙ is
      by_start false is = (none, arrives ∙ is)

  pub Quiet-nil : {e : EndState M} {wire : Wire} {m : M} {z : Bool} {send : List ℕ} → send ≡ [] → Quiet e wire m z → Quiet e (sending wire send) m z
  Quiet-nil {wire = wire} {send = send} nil q = record { end = q.end; carries = Carries-nil wire [] send nil q.carries }

  pub Side-more : {e : EndState M} {wire : Wire} {m : M} {z : Bool} {bytes : List ℕ} (more : List ℕ) → Side e wire m z bytes → Side e (sending wire more) m z (bytes ++ more)
  Side-more {e = e} {wire = wire} {z = z} {bytes = bytes} more s = record {
    talking = s.talking;
    is = s.is;
    started = s.started;
    wants = s.wants;
    unbounded = s.unbounded;
    coming = rw (untaken-sending wire more s.on_wire) (by_start z s.coming);
    on_wire = IsWire-sending wire more s.on_wire;
  }
    where
      by_start : (z : Bool) → Coming z e.kept (untaken wire) bytes → Coming z e.kept (untaken wire ++ more) (bytes ++ more)
      by_start true sum = sym (append_assoc e.kept (untaken wire) more) ∙ ap (λ (x : List ℕ). x ++ more) sum
      by_start false c = (c.0, ap (λ (x : List ℕ). x ++ more) c.1)

  pub Side-nil : {e : EndState M} {wire : Wire} {m : M} {z : Bool} {bytes send : List ℕ} → send ≡ [] → Side e wire m z bytes → Side e (sending wire send) m z bytes
  Side-nil {e = e} {wire = wire} {m = m} {z = z} {bytes = bytes} {send = send} nil s =
      subst (λ (b : List ℕ). Side e (sending wire send) m z b) (ap (λ (x : List ℕ). bytes ++ x) nil ∙ append-nil bytes) (Side-more send s)

-- ---- a piece is handed to an end

module _ {M : Type 0} (turn : M → List ℕ → Turn M) where
  -- z: it had started before
  pub data Move (outcome : EndOutcome (EndState M)) (wire : Wire) (m : M) (z : Bool) (line more : List ℕ) : Type 0 where
    waits_on : (now : Bool) → Side outcome.after (taking wire outcome.taken) m (z || now) (ended line ++ more) → outcome.send ≡ [] → Move outcome wire m z line more
    took : Took outcome wire (turn m line) more → Move outcome wire m z line more

  past_start : (e : EndState M) (wire : Wire) (m : M) (z : Bool) (bytes : List ℕ) → Side e wire m true bytes → Side e wire m (z || true) bytes
  past_start e wire m true bytes s = s
  past_start e wire m false bytes s = s

  cuts_move : (e : EndState M) (wire : Wire) (m : M) (z : Bool) (skipped n : ℕ) (q line more : List ℕ)
      → Side e wire m z (ended line ++ more) → drop skipped (untaken wire) ≡ q → skipped ≤ length (untaken wire) → e.kept ++ q ≡ ended line ++ more
      → Comes e.kept q line more n → Move (cuts turn e skipped (take n q) (cut (e.kept ++ take n q))) wire m z line more
  cuts_move e wire m z skipped n q line more s drops fits sum (waits c) =
      rw c (waits_on true (past_start (cuts turn e skipped (take n q) More).after (taking wire (skipped + length (take n q))) m z (ended line ++ more) (record {
        talking = s.talking;
        is = s.is;
        started = refl;
        wants = c;
        unbounded = s.unbounded;
        coming = ap (λ (x : List ℕ). (e.kept ++ take n q) ++ x) (past_piece wire skipped n q drops) ∙ append_assoc e.kept (take n q) (drop n q) ∙ ap (λ (x : List ℕ). e.kept ++ x) (take-append-drop n q) ∙ sum;
        on_wire = IsWire-taking wire (skipped + length (take n q)) s.on_wire (omega (arith, length-drop skipped (untaken wire), ap length drops, length-take n q));
      })) refl)
  cuts_move e wire m z skipped n q line more s drops fits sum (whole size ends line_is rest within) =
      let same : turn e.machine (take (size - 2) (e.kept ++ take n q)) ≡ turn m line = ap (λ (x : M). turn x (take (size - 2) (e.kept ++ take n q))) s.is ∙ ap (turn m) line_is in
      rw (ends, s.unbounded) (took (record {
        after = ap after_turn same;
        send = ap (λ (t : Turn M). t.send) same;
        carries = record {
          left = past_line wire skipped (size - length e.kept) q more drops rest;
          on_wire = IsWire-taking wire (skipped + (size - length e.kept)) s.on_wire (omega (arith, length-drop skipped (untaken wire), ap length drops, fits, within));
        };
      }))

  goes_on : (e : EndState M) (p : List ℕ) (z : Bool) → e.status ≡ status.Talking → e.started ≡ z → takes turn e p ≡ talks turn e p z
  unfolding takes
  goes_on e p z talking is = ap (takes_at turn e p) talking ∙ ap (talks turn e p) is

  pub moves : {e : EndState M} {wire : Wire} {m : M} {z : Bool} {line : List ℕ} (more : List ℕ) (n : ℕ) → IsLine line
      → Side e wire m z (ended line ++ more) → Move (takes turn e (take n (untaken wire))) wire m z line more
  moves {e = e} {wire = wire} {m = m} {z = true} {line = line} more n h s =
      rw (goes_on e (take n (untaken wire)) true s.talking s.started)
      (cuts_move e wire m true 0 n (untaken wire) line more s refl (omega arith) s.coming (comes e.kept (untaken wire) line more n s.wants s.coming h))
  moves {e = e} {wire = wire} {m = m} {z = false} {line = line} more n h s = rw s.coming.1 (by_size n)
    where
      sum : e.kept ++ (ended line ++ more) ≡ ended line ++ more
      sum = ap (λ (x : List ℕ). x ++ (ended line ++ more)) s.coming.0

      by_size : (n : ℕ) → Move (takes turn e (take n (0 ∷ (ended line ++ more)))) wire m false line more
      by_size zero =
          rw (goes_on e [] false s.talking s.started) (waits_on false (record {
            talking = s.talking;
            is = s.is;
            started = s.started;
            wants = s.wants;
            unbounded = s.unbounded;
            coming = (s.coming.0, untaken-taking wire 0 ∙ s.coming.1);
            on_wire = IsWire-taking wire 0 s.on_wire (omega arith);
          }) refl)
      by_size (suc k) =
          rw (goes_on e (0 ∷ take k (ended line ++ more)) false s.talking s.started)
          (cuts_move e wire m false 1 k (ended line ++ more) line more s (ap (drop 1) s.coming.1) (omega (arith, ap length s.coming.1)) sum (comes e.kept (ended line ++ more) line more k s.wants sum h))

  stays_idle : (wire : Wire) (m : M) (z : Bool) → Carries wire [] → Stays (takes turn (idle m z) []) wire m z
  unfolding takes
  stays_idle wire m true c = rw cut_nil (record { quiet = record { end = refl; carries = Carries-taking wire [] c }; send = refl })
  stays_idle wire m false c = record { quiet = record { end = refl; carries = Carries-taking wire [] c }; send = refl }

  pub stays : {e : EndState M} {wire : Wire} {m : M} {z : Bool} (n : ℕ) → Quiet e wire m z → Stays (takes turn e (take n (untaken wire))) wire m z
  stays {wire = wire} {m = m} {z = z} n q = rw (q.carries.left, take-nil n, q.end) (stays_idle wire m z q.carries)

  -- an end that has begun or is closed
  pub is_done : (e : EndState M) (p : List ℕ) → (e.status ≡ status.Begun) ⊎ (e.status ≡ status.Closed) → takes turn e p ≡ nothing e
  unfolding takes
  is_done e p (inl b) = ap (takes_at turn e p) b
  is_done e p (inr c) = ap (takes_at turn e p) c
