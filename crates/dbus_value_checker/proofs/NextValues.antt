-- What is wanted next.
use Rattle.std.proofs.Common.{◌≡◌, ℕ, zero, suc, ◌+◌, ◌<◌, ◌≤◌, List, [], ◌∷◌, ◌++◌, length, take, reverse, Bool, true, false, refl, sym}
use Rattle.std.proofs.Common.{ap, subst, ◌∙◌, arith, inl, inr}
use Rattle.std.specs.Prelude.{◌⊎◌}
use Rattle.std.proofs.lemmas.List.{length-append, reverse-append, take_all}
use Rattle.dbus_texts.specs.Types.{NoTypes, MoreTypes, sig, sigs, IsShaped, TypeTrees, AreShaped}
use Rattle.dbus_value_model.specs.Reading.{value}
use Rattle.dbus_value_checker.specs.declared.values.ValueChecker.{ValueChecker}
use Rattle.dbus_value_checker.specs.declared.values.OpenContainer.{OpenContainer}
use Rattle.dbus_value_checker.specs.declared.values.Doing.TheVariants as rust
use Rattle.dbus_types.specs.SignatureCodes.{IsTypeEnd, AreLengths}
use Rattle.dbus_value_checker.specs.Suspended.{onward, Work, Parts, Elements, On}
use Rattle.dbus_value_checker.specs.Denotations.{slice, AreFrames, AreNoted, Answer, rest_of, HasFrames, HasNotes, Goes, Wants}
use Rattle.dbus_value_checker.proofs.Suspension.{parts_more, elements_more, elements_none}
use Rattle.dbus_value_checker.specs.Moves.{Pushed, values_on}
use Rattle.dbus_value_checker.proofs.FrameLaws.{frame_within, within, frames_reach}
use Rattle.dbus_value_checker.proofs.Notes.{part_noted, same_notes, after_noted}
use Rattle.dbus_value_checker.proofs.FrontSteps.{sigs_some}
use Rattle.dbus_value_checker.proofs.Slices.{slice_room, slice_whole, slice_after, slice_first}

-- a state whose only frame is that of these types
pub begun_goes : (x : ValueChecker) (types : List ℕ) (depth_left : ℕ) (ts : TypeTrees) (last : On)
    → x.frames.items ≡ [] → x.text.items ≡ types → ((more : List ℕ) × AreLengths types more × (x.lengths.items ≡ more))
    → x.inner ≡ record { array = false; pos = 0; stop = length types; top = length types; end = x.end; depth_left = depth_left }
    → x.offset ≤ x.end → x.end < 18446744073709551616 → depth_left ≤ 64 → length types ≤ 255 → types ≡ sigs ts → AreShaped ts
    → Goes x (values_on x.bounds x.order depth_left x.end ts last x.offset)
begun_goes x types depth_left ts last none text sizes inner at_most near few short spelled complete =
    let lengths = subst (AreLengths types) (sym sizes.2) sizes.1 in
    let w : Work = Parts depth_left x.end ts in
    let begun : OpenContainer = record {
      array = false;
      pos = 0;
      stop = length types;
      top = length types;
      end = x.end;
      depth_left =
          depth_left;
    } in
    let back : reverse x.frames.items ≡ [] = ap (λ (fs : List OpenContainer). reverse fs) none in
    let whole : slice types 0 (length types) ≡ sigs ts = take_all (length types) types (omega arith) ∙ spelled in
    let here : AreFrames x.offset x.offset (length types) x.end types (begun ∷ []) (w ∷ []) = (
      record {
        low_is = at_most;
        high_is = omega arith;
        stop_is = omega arith;
        pos_is = omega arith;
        count_is = omega arith;
        room_is = omega arith;
        is = record { parts = refl; room_is = refl; end_is = refl; types = whole; complete = complete };
      },
      (omega arith, near),
    ) in
    let notes : (length x.lengths.items ≡ length types) × AreNoted types x.lengths.items (begun ∷ []) =
    (lengths.same, (after_noted [] [] types x.lengths.items 0 (length types) lengths refl refl (omega arith), tt)) in
    record {
      ws = w ∷ [];
      frames = rw (back, text, inner) here;
      noted = rw (back, text, inner) notes;
      same = λ c. refl;
    }

-- ---- an array goes on

pub false_true : (b : Bool) → b ≡ false → b ≡ true → ⊥
false_true b e d = cc

next_element_at : (x : ValueChecker) (answer : Answer) (ws : List Work) → HasFrames x.offset x ws → HasNotes x
    → ((c : List ℕ) → rest_of answer x ws x.offset c ≡ answer.to c) → x.inner.array ≡ true → x.offset < x.inner.end
    → Wants x x.inner.pos x.inner.stop answer
next_element_at x answer [] h noted same a lt = absurd h
next_element_at x answer (Parts depth_left end ts ∷ ws) h noted same a lt = absurd (false_true x.inner.array h.0.is.parts a)
next_element_at x answer (Elements zero depth_left end t ∷ ws) h noted same a lt = absurd (let n = h.0.is.turns_is in omega arith)
next_element_at x answer (Elements (suc turns) depth_left end t ∷ ws) h noted same a lt =
    let is = h.0.is in
    let n = is.turns_is in
    let e = is.end_is in
    record {
      ws = Elements turns depth_left end t ∷ ws;
      type = t;
      frames = (
        (let t : x.inner.end ≤ suc x.offset + turns = omega arith in assumption h),
        frames_reach x.offset (suc x.offset) x.inner.end x.inner.top x.end x.text.items (reverse x.frames.items) ws (omega arith) h.1,
      );
      noted = noted;
      text = is.type;
      type_noted = noted.1.0;
      complete = subst (λ (b : Bool). IsShaped b t) (sym a) is.complete;
      element = λ e. (refl, refl);
      pos_is = h.0.pos_is;
      stop_is = h.0.stop_is;
      same = λ c.
          subst (λ (r : ℕ). onward (value x.bounds x.order r x.inner.end t) (rest_of answer x (Elements turns depth_left end t ∷ ws))
          x.offset c ≡ answer.to c) (sym is.room_is)
          (subst (λ (m : ℕ). onward (value x.bounds x.order depth_left m t) (rest_of answer x (Elements turns depth_left end t ∷ ws))
          x.offset c ≡ answer.to c) (sym is.end_is)
          (sym (elements_more x.bounds x.order turns depth_left end t (rest_of answer x ws) x.offset c (omega arith)) ∙ same c));
    }

pub next_element : (x : ValueChecker) (answer : Answer) → Goes x answer → x.inner.array ≡ true → x.offset < x.inner.end
    → Wants x x.inner.pos x.inner.stop answer
next_element x answer g a lt = next_element_at x answer g.ws g.frames g.noted g.same a lt

-- ---- a part is wanted

pub next_part_at : (x : ValueChecker) (answer : Answer) (ws : List Work) (q : ℕ) → IsTypeEnd (take x.inner.stop x.text.items) x.inner.pos q
    → HasFrames (suc x.offset) x ws → HasNotes x
    → ((c : List ℕ) → rest_of answer x ws x.offset c ≡ answer.to c) → x.inner.array ≡ false → x.inner.pos < x.inner.stop
    → x.inner.stop ≤ length x.text.items
    → Wants (record x { inner = record x.inner { pos = q } }) x.inner.pos q answer
next_part_at x answer [] q is h noted same a lt le = absurd h
next_part_at x answer (Elements turns depth_left end t ∷ ws) q is h noted same a lt le = absurd (false_true x.inner.array a h.0.is.elements)
next_part_at x answer (Parts depth_left end NoTypes ∷ ws) q is h noted same a lt le =
    let n = slice_whole x.text.items x.inner.pos x.inner.stop [] (omega arith) le h.0.is.types in
    absurd (omega arith)
next_part_at x answer (Parts depth_left end (MoreTypes t ts) ∷ ws) q is h noted same a lt le =
    let f = h.0.is in
    let past : q ≡ x.inner.pos + length (sig t) = is t (sigs ts) f.types in
    let room_in : x.inner.pos + length (sig t ++ sigs ts) ≤ x.inner.stop =
    slice_room x.text.items x.inner.pos x.inner.stop (sig t ++ sigs ts) h.0.pos_is f.types in
    let n : length (sig t ++ sigs ts) ≡ length (sig t) + length (sigs ts) = length-append (sig t) (sigs ts) in
    let top = h.0.stop_is in
    record {
      ws = Parts depth_left end ts ∷ ws;
      type = t;
      frames = (
        (let pos : q ≤ x.inner.stop = omega arith in let types =
            subst (λ (p : ℕ). slice x.text.items p x.inner.stop ≡ sigs ts) (sym past)
            (slice_after x.text.items x.inner.pos x.inner.stop (sig t) (sigs ts) f.types) in assumption h),
        h.1,
      );
      noted = (
        noted.0,
        (
          part_noted x.text.items x.lengths.items x.inner.pos x.inner.stop q x.inner.stop noted.1.0 (omega arith)
              (omega arith),
          noted.1.1,
        ),
      );
      type_noted = part_noted x.text.items x.lengths.items x.inner.pos x.inner.stop x.inner.pos q noted.1.0 (omega arith) (omega arith);
      text = subst (λ (p : ℕ). slice x.text.items x.inner.pos p ≡ sig t) (sym past)
          (slice_first x.text.items x.inner.pos x.inner.stop (sig t) (sigs ts) h.0.pos_is f.types);
      complete = subst (λ (b : Bool). IsShaped b t) (sym a) f.complete.0;
      element = λ e. absurd (false_true x.inner.array a e);
      pos_is = omega arith;
      stop_is = omega arith;
      same = λ c.
          subst (λ (r : ℕ). onward (value x.bounds x.order r x.inner.end t) (rest_of answer x (Parts depth_left end ts ∷ ws)) x.offset
          c ≡ answer.to c) (sym f.room_is)
          (subst (λ (m : ℕ). onward (value x.bounds x.order depth_left m t) (rest_of answer x (Parts depth_left end ts ∷ ws)) x.offset
          c ≡ answer.to c) (sym f.end_is)
          (sym (parts_more x.bounds x.order depth_left end t ts (rest_of answer x ws) x.offset c) ∙ same c));
    }

pub next_part : (x : ValueChecker) (answer : Answer) (q : ℕ) → IsTypeEnd (take x.inner.stop x.text.items) x.inner.pos q → Goes x answer
    → x.inner.array ≡ false → x.inner.pos < x.inner.stop → x.inner.stop ≤ length x.text.items
    → Wants (record x { inner = record x.inner { pos = q } }) x.inner.pos q answer
next_part x answer q is g a lt le =
    next_part_at x answer g.ws q is (frames_reach x.offset (suc x.offset) x.offset (length x.text.items) x.end x.text.items
    (x.inner ∷ reverse x.frames.items) g.ws (omega arith) g.frames) g.noted g.same a lt le

-- ---- nothing more is wanted of the innermost container

empty_reverse : (fs : List OpenContainer) → length fs ≡ 0 → reverse fs ≡ []
empty_reverse [] e = refl
empty_reverse (f ∷ fs) e = absurd (omega arith)

abbrev pub IsOver : ValueChecker → Type 0
IsOver x = ((x.inner.array ≡ true) × (x.inner.end ≤ x.offset)) ⊎ ((x.inner.array ≡ false) × (x.inner.stop ≤ x.inner.pos))

over_at : (x : ValueChecker) (answer : Answer) (w : Work) (ws : List Work) → HasFrames x.offset x (w ∷ ws)
    → ((c : List ℕ) → rest_of answer x (w ∷ ws) x.offset c ≡ answer.to c) → IsOver x → (c : List ℕ)
    → rest_of answer x ws x.offset c ≡ answer.to c
over_at x answer (Parts depth_left end NoTypes) ws h same over c = same c
over_at x answer (Parts depth_left end (MoreTypes t ts)) ws h same over c = elim over [
  | inl o ↦ absurd (false_true x.inner.array h.0.is.parts o.0)
  | inr o ↦
      let r = slice_room x.text.items x.inner.pos x.inner.stop (sig t ++ sigs ts) h.0.pos_is h.0.is.types in
      let n = sigs_some t ts in
      let le = o.1 in
      absurd (omega arith)
]
over_at x answer (Elements turns depth_left end t) ws h same over c = elim over [
  | inl o ↦
      let le = o.1 in
      let low = h.0.low_is in
      let e = h.0.is.end_is in
      let at : x.offset ≡ end = omega arith in
      sym (elements_none x.bounds x.order turns depth_left end t (rest_of answer x ws) x.offset c at) ∙ same c
  | inr o ↦ absurd (false_true x.inner.array o.0 h.0.is.elements)
]

-- the state y is left when the frame of x is popped, as x is reached when it is pushed
popped_at : (x y : ValueChecker) (answer : Answer) (ws : List Work) → HasFrames x.offset x ws → HasNotes x
    → ((c : List ℕ) → rest_of answer x ws x.offset c ≡ answer.to c) → IsOver x → Pushed y x x.inner → Goes y answer
popped_at x y answer [] h noted same over p = absurd h
popped_at x y answer (w ∷ ws) h noted same over p =
    let back : reverse x.frames.items ≡ y.inner ∷ reverse y.frames.items = ap (λ (fs : List OpenContainer). reverse fs) p.frames
    ∙ reverse-append y.frames.items (y.inner ∷ []) in
    let tail : AreFrames x.offset x.inner.end x.inner.top x.end x.text.items (y.inner ∷ reverse y.frames.items) ws =
    subst (λ (fs : List OpenContainer). AreFrames x.offset x.inner.end x.inner.top x.end x.text.items fs ws) back h.1 in
    let left : AreNoted x.text.items x.lengths.items (y.inner ∷ reverse y.frames.items) =
    subst (λ (fs : List OpenContainer). AreNoted x.text.items x.lengths.items fs) back noted.1.1 in
    let low = h.0.low_is in
    let high = h.0.high_is in
    let bounds = frame_within x.offset x.inner.end x.inner.top x.end x.text.items y.inner (reverse y.frames.items) ws tail in
    let here : AreFrames x.offset x.offset (length x.text.items) x.end x.text.items (y.inner ∷ reverse y.frames.items) ws =
    within x.offset x.inner.end x.inner.top x.offset (length x.text.items) x.end x.text.items y.inner (reverse y.frames.items) ws
    (omega (arith, bounds.0)) (omega (arith, bounds.1)) tail in
    record {
      ws = ws;
      frames = rw (← p.offset, ← p.end, ← p.text) here;
      noted = same_notes x.text.items y.text.items x.lengths.items y.lengths.items (y.inner ∷ reverse y.frames.items)
          (y.inner ∷ reverse y.frames.items) p.text p.lengths refl (noted.0, left);
      same = rw (← p.offset, ← p.bounds, ← p.order) (over_at x answer w ws h same over);
    }

pub next_popped : (x y : ValueChecker) (answer : Answer) → Goes x answer → IsOver x → Pushed y x x.inner → Goes y answer
next_popped x y answer g over p = popped_at x y answer g.ws g.frames g.noted g.same over p

last_at : (x : ValueChecker) (answer : Answer) (ws : List Work) (fs : List OpenContainer) → fs ≡ reverse x.frames.items
    → AreFrames x.offset x.offset (length x.text.items) x.end x.text.items (x.inner ∷ fs) ws
    → ((c : List ℕ) → rest_of answer x ws x.offset c ≡ answer.to c) → HasFrames x.offset x ws → IsOver x → fs ≡ []
    → (x.offset ≤ x.end) × (x.end < 18446744073709551616) × ((c : List ℕ) → answer.last x.offset c ≡ answer.to c)
last_at x answer [] fs e h same g over none = absurd h
last_at x answer (w ∷ []) [] e h same g over none = (
  (let a = h.0.low_is in let b = h.1.0 in omega arith),
  h.1.1,
  over_at x answer w [] g
      same over,
)
last_at x answer (w ∷ (v ∷ ws)) [] e h same g over none = absurd h.1
last_at x answer (w ∷ ws) (f ∷ fs) e h same g over none = absurd cc

pub next_last : (x : ValueChecker) (answer : Answer) → Goes x answer → IsOver x → length x.frames.items ≡ 0
    → (x.offset ≤ x.end) × (x.end < 18446744073709551616) × ((c : List ℕ) → answer.last x.offset c ≡ answer.to c)
next_last x answer g over none =
    last_at x answer g.ws (reverse x.frames.items) refl g.frames g.same g.frames over (empty_reverse x.frames.items none)

-- the type that is wanted is noted
pub wants_doing : (x : ValueChecker) (pos stop p s : ℕ) (answer : Answer) → Wants x pos stop answer
    → Wants (record x { doing = rust.Wanted p s }) pos stop answer
wants_doing x pos stop p s answer w = record {
  ws = w.ws;
  type = w.type;
  frames = w.frames;
  noted = w.noted;
  text = w.text;
  type_noted =
      w.type_noted;
  complete = w.complete;
  element = w.element;
  pos_is = w.pos_is;
  stop_is = w.stop_is;
  same = w.same;
}
