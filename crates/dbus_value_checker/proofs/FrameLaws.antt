-- Frames: what is known of the innermost one, bounds on their ends, and one that is pushed.
use Rattle.std.proofs.Common.{ℕ, ◌<◌, ◌≤◌, List, [], ◌∷◌, ◌++◌, arith, ◌≡◌, suc, ◌+◌, ◌*◌, length, reverse, take, true, false, refl, sym}
use Rattle.std.proofs.Common.{ap, subst, ◌∙◌}
use Rattle.dbus_value_checker.specs.declared.values.OpenContainer.{OpenContainer}
use Rattle.dbus_value_checker.specs.Suspended.{On, onward, Work, Parts, Elements, works}
use Rattle.dbus_value_checker.specs.Denotations.{slice, Answer, IsFrame, AreFrames, AreNoted, extra, Framed, HasFrames, HasNotes, Wants}
use Rattle.std.proofs.lemmas.List.{reverse-append, length-reverse, length-take, length-drop}
use Rattle.arrayvec.specs.ArrayVec.{ArrayVec}
use Rattle.dbus_texts.specs.Types.{TypeTrees, NoTypes, MoreTypes, sigs}
use Rattle.dbus_value_model.specs.declared.limits.Bounds.{Bounds}
use Rattle.dbus_value_model.specs.declared.order.Order.{Order}
use Rattle.dbus_value_model.specs.Reading.{value}
use Rattle.dbus_value_checker.specs.declared.values.ValueChecker.{ValueChecker}
use Rattle.dbus_value_checker.specs.Moves.{Pushed}
use Rattle.dbus_value_checker.proofs.FrontSteps.{sigs_some}

-- turns that reach further are enough too
pub IsFrame-reach : (reach more : ℕ) (text : List ℕ) (f : OpenContainer) (w : Work) → reach ≤ more → IsFrame reach text f w
    → IsFrame more text f w
IsFrame-reach reach more text f (Parts depth_left end ts) le h = h
IsFrame-reach reach more text f (Elements turns depth_left end t) le h =
    record {
      elements = h.elements;
      room_is = h.room_is;
      end_is = h.end_is;
      type = h.type;
      complete = h.complete;
      turns_is = let t =
          h.turns_is in omega arith;
    }

pub frames_reach : (reach more low high bottom : ℕ) (text : List ℕ) (fs : List OpenContainer) (ws : List Work) → reach ≤ more
    → AreFrames reach low high bottom text fs ws → AreFrames more low high bottom text fs ws
frames_reach reach more low high bottom text [] [] le h = h
frames_reach reach more low high bottom text (f ∷ fs) (w ∷ ws) le h = (
  assumption (h, IsFrame-reach reach more text f w le h.0.is),
  frames_reach reach more f.end f.top bottom text fs ws le h.1,
)
frames_reach reach more low high bottom text [] (w ∷ ws) le h = absurd h
frames_reach reach more low high bottom text (f ∷ fs) [] le h = absurd h

-- no offset is far
pub frames_small : (reach low high bottom : ℕ) (text : List ℕ) (fs : List OpenContainer) (ws : List Work)
    → AreFrames reach low high bottom text fs ws → low < 18446744073709551616
frames_small reach low high bottom text [] [] h = let a = h.0 in let b = h.1 in omega arith
frames_small reach low high bottom text (f ∷ fs) (w ∷ ws) h = let a = h.0.low_is in let b =
    frames_small reach f.end f.top bottom text fs ws h.1 in omega arith
frames_small reach low high bottom text [] (w ∷ ws) h = absurd h
frames_small reach low high bottom text (f ∷ fs) [] h = absurd h

-- nor is an end, and the innermost frame is within its bounds
pub frame_within : (reach low high bottom : ℕ) (text : List ℕ) (f : OpenContainer) (fs : List OpenContainer) (ws : List Work)
    → AreFrames reach low high bottom text (f ∷ fs) ws → (low ≤ f.end) × (f.top ≤ high) × (f.end < 18446744073709551616)
frame_within reach low high bottom text f fs [] h = absurd h
frame_within reach low high bottom text f fs (w ∷ ws) h = (h.0.low_is, h.0.high_is, frames_small reach f.end f.top bottom text fs ws h.1)

-- ---- a frame is pushed

-- what is known of the innermost frame
pub record Inner (x : ValueChecker) : Type 0 where
  pub low : x.offset ≤ x.inner.end
  pub high : x.inner.top ≤ length x.text.items
  pub stop : x.inner.stop ≤ x.inner.top
  pub pos : x.inner.pos ≤ x.inner.stop
  pub count : length x.frames.items + extra x.inner.array + 2 * x.inner.depth_left ≤ 128
  pub depth_left : x.inner.top + 255 * x.inner.depth_left ≤ 255 * 65

pub inner_of : (x : ValueChecker) (reach : ℕ) (ws : List Work) → HasFrames reach x ws → Inner x
inner_of x reach [] h = absurd h
inner_of x reach (w ∷ ws) h = record {
  low = h.0.low_is;
  high = h.0.high_is;
  stop = h.0.stop_is;
  pos = h.0.pos_is;
  count =
      omega (arith, h.0.count_is, length-reverse x.frames.items);
  depth_left = h.0.room_is;
}

pub within : (reach low high next more bottom : ℕ) (text : List ℕ) (f : OpenContainer) (fs : List OpenContainer) (ws : List Work)
    → next ≤ f.end → f.top ≤ more → AreFrames reach low high bottom text (f ∷ fs) ws → AreFrames reach next more bottom text (f ∷ fs) ws
within reach low high next more bottom text f fs [] le top h = h
within reach low high next more bottom text f fs (w ∷ ws) le top h = (assumption h, h.1)

-- further on, within the innermost frame
pub frames_at : (x : ValueChecker) (ws : List Work) (reach more o : ℕ) → HasFrames reach x ws → reach ≤ more → o ≤ x.inner.end
    → HasFrames more (record x { offset = o }) ws
frames_at x ws reach more o h le fits =
    within more x.offset (length x.text.items) o (length x.text.items) x.end x.text.items x.inner (reverse x.frames.items) ws fits
    (inner_of x reach ws h).high
    (frames_reach reach more x.offset (length x.text.items) x.end x.text.items (x.inner ∷ reverse x.frames.items) ws le h)

pub pushed_frames : (x y : ValueChecker) (f : OpenContainer) (reach : ℕ) (v : Work) (ws : List Work) → Pushed x y f → HasFrames reach x ws
    → Framed reach x.offset (length x.text.items) (suc (length x.frames.items)) x.text.items f v → f.end ≤ x.inner.end → x.inner.top ≤ f.top
    → HasFrames reach y (v ∷ ws)
pushed_frames x y f reach v ws p h framed end top =
    let back : reverse y.frames.items ≡ x.inner ∷ reverse x.frames.items = ap (λ (fs : List OpenContainer). reverse fs) p.frames
    ∙ reverse-append x.frames.items (x.inner ∷ []) in
    let n : suc (length x.frames.items) ≡ length (x.inner ∷ reverse x.frames.items) = ap suc (sym (length-reverse x.frames.items)) in
    let here : AreFrames reach x.offset (length x.text.items) x.end x.text.items (f ∷ (x.inner ∷ reverse x.frames.items)) (v ∷ ws) = (
      subst (λ (k : ℕ). Framed reach x.offset (length x.text.items) k x.text.items f v) n framed,
      within reach x.offset (length x.text.items) f.end f.top x.end x.text.items x.inner (reverse x.frames.items) ws end top h,
    ) in
    rw (p.offset, p.end, p.text, p.inner, back) here

-- ---- a frame that is over is left out

narrower : (reach low high next more bottom : ℕ) (text : List ℕ) (fs : List OpenContainer) (ws : List Work) → next ≤ low → high ≤ more
    → AreFrames reach low high bottom text fs ws → AreFrames reach next more bottom text fs ws
narrower reach low high next more bottom text [] [] le top h = (let a = h.0 in omega arith, h.1)
narrower reach low high next more bottom text (f ∷ fs) (w ∷ ws) le top h =
    let a = h.0.low_is in
    let b = h.0.high_is in
    within reach low high next more bottom text f fs (w ∷ ws) (omega arith) (omega arith) h
narrower reach low high next more bottom text [] (w ∷ ws) le top h = absurd h
narrower reach low high next more bottom text (f ∷ fs) [] le top h = absurd h

no_types : (text : List ℕ) (g : OpenContainer) (ts : TypeTrees) → g.stop ≤ g.pos → slice text g.pos g.stop ≡ sigs ts → ts ≡ NoTypes
no_types text g NoTypes le is = refl
no_types text g (MoreTypes t ts) le is =
    let l = ap length is in
    let d = length-drop g.pos (take g.stop text) in
    let k = length-take g.stop text in
    let some = sigs_some t ts in
    absurd (omega arith)

-- of two frames the second, which is over
left_out : (reach low high bottom : ℕ) (text : List ℕ) (f g : OpenContainer) (fs : List OpenContainer) (b : Bounds) (o : Order) (last : On)
    (ws : List Work) → g.array ≡ false → g.stop ≤ g.pos → AreFrames reach low high bottom text (f ∷ (g ∷ fs)) ws
    → (us : List Work) × AreFrames reach low high bottom text (f ∷ fs) us × (works b o last us ≡ works b o last ws)
left_out reach low high bottom text f g fs b o last [] plain over h = absurd h
left_out reach low high bottom text f g fs b o last (v ∷ []) plain over h = absurd h.1
left_out reach low high bottom text f g fs b o last (v ∷ (Elements turns depth_left end t ∷ ws)) plain over h =
    absurd (let e = h.1.0.is.elements in let d : true ≡ false = sym e ∙ plain in cc)
left_out reach low high bottom text f g fs b o last (v ∷ (Parts depth_left end ts ∷ ws)) plain over h =
    let none = no_types text g ts over h.1.0.is.types in
    let count = h.0.count_is in (
      v ∷ ws,
      (
        record {
          low_is = h.0.low_is;
          high_is = h.0.high_is;
          stop_is = h.0.stop_is;
          pos_is = h.0.pos_is;
          count_is = omega arith;
          room_is =
              h.0.room_is;
          is = h.0.is;
        },
        narrower reach g.end g.top f.end f.top bottom text fs ws h.1.0.low_is h.1.0.high_is h.1.1,
      ),
      ap (λ (us : TypeTrees). works b o last (v ∷ (Parts depth_left end us ∷ ws))) (sym none),
    )

pub left_notes : (y : ValueChecker) (fs : ArrayVec OpenContainer) (g : OpenContainer) → y.frames.items ≡ fs.items ++ g ∷ [] → HasNotes y
    → HasNotes (record y { frames = fs })
left_notes y fs g is h =
    let back : reverse y.frames.items ≡ g ∷ reverse fs.items = ap (λ (l : List OpenContainer). reverse l) is
    ∙ reverse-append fs.items (g ∷ []) in
    let n = subst (λ (l : List OpenContainer). AreNoted y.text.items y.lengths.items (y.inner ∷ l)) back h.1 in
    (h.0, (n.0, n.1.1))

pub left_wants : (y : ValueChecker) (fs : ArrayVec OpenContainer) (g : OpenContainer) (pos stop : ℕ) (answer : Answer)
    → y.frames.items ≡ fs.items ++ g ∷ [] → g.array ≡ false → g.stop ≤ g.pos → Wants y pos stop answer
    → Wants (record y { frames = fs }) pos stop answer
left_wants y fs g pos stop answer is plain over w =
    let back : reverse y.frames.items ≡ g ∷ reverse fs.items = ap (λ (l : List OpenContainer). reverse l) is
    ∙ reverse-append fs.items (g ∷ []) in
    let u = left_out (suc y.offset) y.offset (length y.text.items) y.end y.text.items y.inner g (reverse fs.items) y.bounds y.order
    answer.last w.ws plain over
    (subst (λ (l : List OpenContainer). AreFrames (suc y.offset) y.offset (length y.text.items) y.end y.text.items (y.inner ∷ l) w.ws) back
    w.frames) in
    record {
      ws = u.0;
      type = w.type;
      frames = u.1;
      noted = left_notes y fs g is w.noted;
      text = w.text;
      type_noted = w.type_noted;
      complete = w.complete;
      element = w.element;
      pos_is = w.pos_is;
      stop_is = w.stop_is;
      same = λ c. ap (λ (next : On). onward (value y.bounds y.order y.inner.depth_left y.inner.end w.type) next y.offset c) u.2 ∙ w.same c;
    }
