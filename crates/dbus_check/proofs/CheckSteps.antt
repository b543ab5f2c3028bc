-- What a checker answers of all bytes that it was handed, by what it does with a piece.
use Rattle.std.proofs.Common.{◌≡◌, ℕ, List, ◌++◌, take, Option, Some, None, Result, Ok, Err, sym, ap, subst, ◌∙◌, arith, append_assoc, ◌+◌, length, refl, [], ◌∷◌, true}
use Rattle.std.proofs.lemmas.List.{take_all, take-append-drop}
use Rattle.dbus_value_model.specs.ByteNumbers.{IsBytes}
use Rattle.dbus_value_model.specs.Reading.{Faulty, Done}
use Rattle.dbus_value_model.specs.declared.fault.Fault.{Fault}
use Rattle.dbus_value_model.specs.declared.limits.Limits.{Limits}
use Rattle.dbus_value_model.proofs.Numbers.{IsBytes-append, IsBytes-front}
use Rattle.dbus_header.proofs.OutcomeLaws.{one_outcome, one_whole, one_fault}
use Rattle.dbus_value_laws.proofs.Agreement.{read_passes, read_refuses}
use Rattle.dbus_header.specs.MessageItems.{fixed_items}
use Rattle.dbus_header.specs.HeaderReading.{fixed_header}
use Rattle.dbus_header.specs.declared.fixed_header.FixedHeader.{FixedHeader}
use Rattle.dbus_header.proofs.MessageParts.{Agrees-fixed}
use Rattle.dbus_message_model.specs.Messages.{is_known}
use Rattle.dbus_check.specs.declared.check.Check.{Check}
use Rattle.dbus_check.specs.Checks.{IsExact, taken, CheckerState, StandsAfter, Stands, Takes, Holds, Fed, IsLive}
use Rattle.dbus_check.specs.declared.check.Check.TheVariants as check
use Rattle.dbus_check.specs.declared.pieces.Pieces.{Pieces}
use Rattle.dbus_check.specs.Heading.{message_on}
use Rattle.dbus_check.specs.Progress.{To, after_bytes}
use Rattle.dbus_check.proofs.Outcomes.{done_is, refused_is, partial_is}
use Rattle.dbus_check.proofs.PieceSteps.{whole_answers}

pub takes_exact : (limits : Limits) (w piece : List ℕ) (answer : Check) → Takes limits w piece answer → IsExact limits w piece answer
takes_exact limits w piece check.Partial t =
    let laws = one_outcome limits (w ++ piece) in
    record {
      whole = λ order m n h. absurd (laws.1 order m (length w + n) h t);
      refused = λ f h. absurd (laws.2 f h t);
      partial = λ h. refl;
    }
takes_exact limits w piece (check.Done k) t =
    let laws = one_outcome limits (w ++ piece) in
    record {
      whole = λ order m n h.
          let same = (one_whole limits (w ++ piece) t.1 order t.2 m (length w + k) (length w + n) t.3 h).2 in
          let k_is : k ≡ n = omega (arith, same) in
          ap (λ (i : ℕ). check.Done i) k_is;
      refused = λ f h. absurd (laws.0 t.1 t.2 (length w + k) f t.3 h);
      partial = λ h. absurd (laws.1 t.1 t.2 (length w + k) t.3 h);
    }
takes_exact limits w piece (check.Refused g) t =
    let laws = one_outcome limits (w ++ piece) in
    record {
      whole = λ order m n h. absurd (laws.0 order m (length w + n) g h t);
      refused = λ f h. ap (λ (i : Fault). check.Refused i) (one_fault limits (w ++ piece) g f t h);
      partial = λ h. absurd (laws.2 g t h);
    }

module _ (limits : Limits) (p : Pieces) (w piece : List ℕ) (bytes : IsBytes w) (more : IsBytes piece) where
  both : IsBytes (w ++ piece)
  both = IsBytes-append w piece bytes more

  -- the message goes on after the piece
  pub fed_partial : (n : ℕ) → Fed piece (Ok n) p (after_bytes (message_on limits 0) w) → IsLive p
      → Takes limits w piece check.Partial × Stands (record { limits = limits; pieces = p; refused = None }) (w ++ piece)
  fed_partial n fed live =
      let f = fed.2 live in
      let all : take n piece ≡ piece = let e = f.0 in take_all n piece (omega (arith, e)) in
      let h = fed.1 in (
        partial_is limits w piece both f.1,
        record {
          bytes = both;
          after = record { from = h.from; denotes = h.denotes; same = λ c. h.same c ∙ ap (λ (t : List ℕ). message_on limits 0 (w ++ (t ++ c))) all ∙ ap (message_on limits 0) (sym (append_assoc w piece c)); few = h.few; waits = h.waits };
        },
      )

  -- it ends in the piece
  pub fed_done : (n : ℕ) → Fed piece (Ok n) p (after_bytes (message_on limits 0) w) → (IsLive p → ⊥)
      → Takes limits w piece (check.Done n) × Stands (record { limits = limits; pieces = p; refused = None }) (w ++ take n piece)
  fed_done n fed over =
      let h = fed.1 in
      let whole = done_is limits w piece both n p.progress.end fed.0 (λ c. ap (message_on limits 0) (append_assoc w (take n piece) c) ∙ whole_answers p (after_bytes (after_bytes (message_on limits 0) w) (take n piece)) over h c) in (
        (fed.0, whole.0, whole.1, whole.2),
        record {
          bytes = IsBytes-append w (take n piece) bytes (IsBytes-front piece (take n piece) _ (sym (take-append-drop n piece)) more);
          after = record { from = h.from; denotes = h.denotes; same = λ c. h.same c ∙ ap (message_on limits 0) (sym (append_assoc w (take n piece) c)); few = h.few; waits = h.waits };
        },
      )

  -- it shows a fault
  pub fed_refused : (f : Fault) → ((c : List ℕ) → message_on limits 0 (w ++ (piece ++ c)) ≡ Faulty f)
      → Takes limits w piece (check.Refused f) × Stands (record { limits = limits; pieces = p; refused = Some f }) (w ++ piece)
  fed_refused f fed =
      let law : (c : List ℕ) → message_on limits 0 ((w ++ piece) ++ c) ≡ Faulty f = λ c. ap (message_on limits 0) (append_assoc w piece c) ∙ fed c in
      (refused_is limits w piece both f law, record { bytes = both; after = law })

-- ---- a checker that is handed a piece

module _ (x seen : CheckerState) (is : x ≡ seen) (w piece : List ℕ) (more : IsBytes piece) (stands : Stands seen w) where
  h : Stands x w
  h = subst (λ (y : CheckerState). Stands y w) (sym is) stands

  -- what it answers, and where it stands then
  abbrev Told : Check → CheckerState → Type 0
  Told answer y = Takes seen.limits w piece answer × IsExact seen.limits w piece answer × Stands y (w ++ taken piece answer)

  told : (answer : Check) (y : CheckerState) → Takes x.limits w piece answer → Stands y (w ++ taken piece answer) → Told answer y
  told answer y takes on =
      let here = subst (λ (z : CheckerState). Takes z.limits w piece answer) is takes in
      (here, takes_exact seen.limits w piece answer here, on)

  -- after a fault
  pub stays_refused : (f : Fault) → x.refused ≡ Some f → Told (check.Refused f) seen
  stays_refused f some =
      let law = subst (λ (r : Option Fault). StandsAfter x w r) some h.after in
      let t = fed_refused x.limits x.pieces w piece h.bytes more f (λ c. law (piece ++ c)) in
      told (check.Refused f) seen t.0 (subst (λ (y : CheckerState). Stands y (w ++ piece)) is (subst (λ (r : Option Fault). Stands (record { limits = x.limits; pieces = x.pieces; refused = r }) (w ++ piece)) (sym some) t.1))

  -- before one
  module _ (none : x.refused ≡ None) (p : Pieces) where
    abbrev Feeds : Result ℕ Fault → Type 0
    Feeds r = (to : To) → Holds x.pieces to → Fed piece r p to

    fed : (r : Result ℕ Fault) → Feeds r → Fed piece r p (after_bytes (message_on x.limits 0) w)
    fed r f = f (after_bytes (message_on x.limits 0) w) (subst (λ (r : Option Fault). StandsAfter x w r) none h.after)

    still : (u : List ℕ) → Stands (record { limits = x.limits; pieces = p; refused = None }) u → Stands (record x { pieces = p }) u
    still u s = subst (λ (r : Option Fault). Stands (record { limits = x.limits; pieces = p; refused = r }) u) (sym none) s

    pub took_partial : (n : ℕ) → Feeds (Ok n) → IsLive p → Told check.Partial (record x { pieces = p })
    took_partial n f live = let t = fed_partial x.limits p w piece h.bytes more n (fed (Ok n) f) live in told check.Partial (record x { pieces = p }) t.0 (still (w ++ piece) t.1)

    pub took_done : (n : ℕ) → Feeds (Ok n) → (IsLive p → ⊥) → Told (check.Done n) (record x { pieces = p })
    took_done n f over = let t = fed_done x.limits p w piece h.bytes more n (fed (Ok n) f) over in told (check.Done n) (record x { pieces = p }) t.0 (still (w ++ take n piece) t.1)

    pub took_refused : (f : Fault) → Feeds (Err f) → Told (check.Refused f) (record x { pieces = p; refused = Some f })
    took_refused f feeds = let t = fed_refused x.limits p w piece h.bytes more f (fed (Err f) feeds) in told (check.Refused f) (record x { pieces = p; refused = Some f }) t.0 t.1

-- What the fixed header's reading answers stays, whatever follows.

module _ (limits : Limits) (o : ℕ) (s : List ℕ) (bytes : IsBytes s) (c : List ℕ) where
  pub fixed_read : (h : FixedHeader) (q : ℕ) (r : List ℕ) → fixed_header limits o s ≡ Done h q r → fixed_header limits o (s ++ c) ≡ Done h q (r ++ c)
  fixed_read h q r e =
      let a = Agrees-fixed limits in
      a.passes o (s ++ c) h q (r ++ c) (a.passes_more c o s h q r (read_passes (fixed_items limits) (fixed_header limits) a o s bytes h q r e))

  pub fixed_refused : (f : Fault) → fixed_header limits o s ≡ Faulty f → fixed_header limits o (s ++ c) ≡ Faulty f
  fixed_refused f e =
      let a = Agrees-fixed limits in
      a.refuses o (s ++ c) f (a.refuses_more c o s f (read_refuses (fixed_items limits) (fixed_header limits) a o s bytes f e))

-- The known fields that a message requires.

abbrev pub AreKnown : List ℕ → Type 0
AreKnown [] = Unit {0}
AreKnown (c ∷ cs) = (is_known c ≡ true) × AreKnown cs
