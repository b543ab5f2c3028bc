-- How long the types of the signatures are, as it is noted.
use Rattle.std.proofs.Common.{◌≡◌, ℕ, ◌+◌, ◌-◌, ◌<◌, ◌≤◌, List, [], ◌∷◌, ◌++◌, length, reverse, take, drop, get_or, refl, sym, ap, subst}
use Rattle.std.proofs.Common.{◌∙◌, arith, append_assoc}
use Rattle.std.proofs.lemmas.List.{reverse-append, length-append, take-take, take_all, drop-drop, drop-take, drop_at, take-append-drop}
use Rattle.std.proofs.lemmas.List.{get_or-take, get_or-drop}
use Rattle.dbus_texts.specs.Types.{sig}
use Rattle.dbus_types.specs.SignatureCodes.{AreLengths}
use Rattle.dbus_value_checker.specs.declared.values.ValueChecker.{ValueChecker}
use Rattle.dbus_value_checker.specs.declared.values.OpenContainer.{OpenContainer}
use Rattle.dbus_value_checker.specs.Suspended.{Work}
use Rattle.dbus_value_checker.specs.Denotations.{slice, AreFrames, AreNoted, IsNoted, HasNotes}
use Rattle.dbus_value_checker.specs.Moves.{Pushed}

module _ (text lengths : List ℕ) where
  -- of a part they are too
  pub part_noted : (pos stop first last : ℕ) → IsNoted text lengths pos stop → pos ≤ first → last ≤ stop → IsNoted text lengths first last
  part_noted pos stop first last noted low high = λ at t more le lt e.
      let m = last - at in
      let s = slice text at stop in
      let split : at + m ≡ last = omega arith in
      let cut : slice text at last ≡ take m s = ap (λ (k : ℕ). drop at (take k text)) (sym split)
      ∙ ap (drop at) (sym (take-take (at + m) stop text (omega arith))) ∙ drop-take at m (take stop text) in
      let whole : s ≡ sig t ++ (more ++ drop m s) = sym (take-append-drop m s) ∙ ap (λ (l : List ℕ). l ++ drop m s) (sym cut ∙ e)
      ∙ append_assoc (sig t) more (drop m s) in
      noted at t (more ++ drop m s) (omega arith) (omega arith) whole

-- the same frames over the same signatures
pub same_notes : (a b l m : List ℕ) (fs gs : List OpenContainer) → a ≡ b → l ≡ m → fs ≡ gs → (length l ≡ length a) × AreNoted a l fs
    → (length m ≡ length b) × AreNoted b m gs
same_notes a b l m fs gs text lengths frames h =
    subst (λ (hs : List OpenContainer). (length m ≡ length b) × AreNoted b m hs) frames
    (subst (λ (k : List ℕ). (length k ≡ length b) × AreNoted b k fs) lengths
    (subst (λ (k : List ℕ). (length l ≡ length k) × AreNoted k l fs) text h))

-- a frame is pushed
pub pushed_notes : (x y : ValueChecker) (f : OpenContainer) → Pushed x y f → HasNotes x → IsNoted x.text.items x.lengths.items f.pos f.stop
    → HasNotes y
pushed_notes x y f p noted own =
    let back : reverse y.frames.items ≡ x.inner ∷ reverse x.frames.items = ap (λ (fs : List OpenContainer). reverse fs) p.frames
    ∙ reverse-append x.frames.items (x.inner ∷ []) in
    let all : f ∷ (x.inner ∷ reverse x.frames.items) ≡ y.inner ∷ reverse y.frames.items = sym (rw (p.inner, back) refl) in
    same_notes x.text.items y.text.items x.lengths.items y.lengths.items (f ∷ (x.inner ∷ reverse x.frames.items))
    (y.inner ∷ reverse y.frames.items) (sym p.text) (sym p.lengths) all (noted.0, (own, noted.1))

-- ---- another signature follows those in use

pub shorter : (a b : List ℕ) (m n : ℕ) → m ≤ n → take n a ≡ take n b → take m a ≡ take m b
shorter a b m n h e = sym (take-take m n a h) ∙ ap (take m) e ∙ take-take m n b h

module _ (a b l m : List ℕ) where
  same_noted : (pos stop top : ℕ) → stop ≤ top → take top a ≡ take top b → take top l ≡ take top m → IsNoted a l pos stop
      → IsNoted b m pos stop
  same_noted pos stop top high text lengths noted = λ at t more le lt e.
      let same : slice a at stop ≡ slice b at stop = ap (drop at) (shorter a b stop top high text) in
      let there : at < top = omega arith in
      sym (get_or-take top m at 0 there) ∙ ap (λ (s : List ℕ). get_or s at 0) (sym lengths) ∙ get_or-take top l at 0 there
      ∙ noted at t more le lt (same ∙ e)

  pub notes_same : (reach low high bottom : ℕ) (fs : List OpenContainer) (ws : List Work) → take high a ≡ take high b
      → take high l ≡ take high m → AreFrames reach low high bottom a fs ws → AreNoted a l fs → AreNoted b m fs
  notes_same reach low high bottom [] [] e d h n = tt
  notes_same reach low high bottom (f ∷ fs) (w ∷ ws) e d h n = (
    same_noted f.pos f.stop high (omega (arith, h.0.stop_is, h.0.high_is)) e d n.0,
    notes_same reach f.end f.top bottom fs ws (shorter a b f.top high h.0.high_is e) (shorter l m f.top high h.0.high_is d) h.1 n.1,
  )
  notes_same reach low high bottom [] (w ∷ ws) e d h n = absurd h
  notes_same reach low high bottom (f ∷ fs) [] e d h n = absurd h

-- those of a signature are noted after the first top bytes
pub after_noted : (a l t more : List ℕ) (top stop : ℕ) → AreLengths t more → length a ≡ top → length l ≡ top → stop ≡ top + length t
    → IsNoted (a ++ t) (l ++ more) top stop
after_noted a l t more top stop all a_size l_size stop_is = λ at u rest le lt e.
    let i = at - top in
    let split : top + i ≡ at = omega arith in
    let whole : take stop (a ++ t) ≡ a ++ t = take_all stop (a ++ t) (omega (arith, length-append a t)) in
    let left : drop i t ≡ drop at (a ++ t) = ap (drop i) (sym (drop_at a t top a_size)) ∙ drop-drop i top (a ++ t)
    ∙ ap (λ (k : ℕ). drop k (a ++ t)) split in
    let noted : get_or more i 0 ≡ length (sig u) = all.value i u rest (left ∙ ap (drop at) (sym whole) ∙ e) in
    ap (λ (k : ℕ). get_or (l ++ more) k 0) (sym split) ∙ sym (get_or-drop top (l ++ more) i 0)
    ∙ ap (λ (s : List ℕ). get_or s i 0) (drop_at l more top l_size) ∙ noted
