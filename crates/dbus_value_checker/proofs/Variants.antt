-- A variant's signature is noted after those that are in use.
use Rattle.std.proofs.Common.{◌≡◌, ℕ, suc, ◌+◌, ◌-◌, ◌<◌, ◌≤◌, List, [], ◌∷◌, ◌++◌, length, reverse, take, drop, false, refl, sym, ap}
use Rattle.std.proofs.Common.{subst, ◌∙◌, arith}
use Rattle.std.proofs.lemmas.List.{reverse-append, length-append, length-reverse, length-take, take_at, drop_at, take_all, append-nil}
use Rattle.arrayvec.specs.ArrayVec.{ArrayVec}
use Rattle.dbus_texts.specs.Types.{NoTypes, MoreTypes, sig, sigs}
use Rattle.dbus_texts.specs.ComputedKinds.{type_spelled}
use Rattle.dbus_texts.proofs.KindFacts.{shaped_of}
use Rattle.dbus_value_laws.proofs.KindLaws.{single_text}
use Rattle.dbus_value_laws.proofs.ReadSteps.{same_after}
use Rattle.dbus_value_model.specs.Reading.{nul, value}
use Rattle.dbus_value_checker.specs.declared.values.ValueChecker.{ValueChecker}
use Rattle.dbus_value_checker.specs.declared.values.OpenContainer.{OpenContainer}
use Rattle.dbus_value_checker.specs.declared.values.Doing.TheVariants as doing
use Rattle.dbus_value_checker.specs.Suspended.{onward, Work, Parts, Elements, works}
use Rattle.dbus_value_checker.specs.Denotations.{slice, IsFrame, Framed, AreFrames, AreNoted, Answer, rest_of, Held, Nuls}
use Rattle.dbus_value_checker.proofs.Suspension.{parts_more}
use Rattle.dbus_value_checker.proofs.FrameLaws.{inner_of, within}
use Rattle.dbus_types.specs.SignatureCodes.{AreLengths}
use Rattle.dbus_value_checker.proofs.Notes.{shorter, notes_same, after_noted, same_notes}

-- ---- the signatures in use stay as they are

slice_same : (a b : List ℕ) (pos stop top : ℕ) → stop ≤ top → take top a ≡ take top b → slice a pos stop ≡ slice b pos stop
slice_same a b pos stop top h e = ap (drop pos) (shorter a b stop top h e)

frame_same : (reach : ℕ) (a b : List ℕ) (f : OpenContainer) (w : Work) → slice a f.pos f.stop ≡ slice b f.pos f.stop → IsFrame reach a f w
    → IsFrame reach b f w
frame_same reach a b f (Parts depth_left end ts) e h = assumption (h, sym e ∙ h.types)
frame_same reach a b f (Elements turns depth_left end t) e h = assumption (h, sym e ∙ h.type)

frames_same : (reach low high bottom : ℕ) (a b : List ℕ) (fs : List OpenContainer) (ws : List Work) → take high a ≡ take high b
    → AreFrames reach low high bottom a fs ws → AreFrames reach low high bottom b fs ws
frames_same reach low high bottom a b [] [] e h = h
frames_same reach low high bottom a b (f ∷ fs) (w ∷ ws) e h = (
  assumption (h, frame_same reach a b f w (slice_same a b f.pos f.stop f.top h.0.stop_is (shorter a b f.top high h.0.high_is e)) h.0.is),
  frames_same reach f.end f.top bottom a b fs ws (shorter a b f.top high h.0.high_is e) h.1,
)
frames_same reach low high bottom a b [] (w ∷ ws) e h = absurd h
frames_same reach low high bottom a b (f ∷ fs) [] e h = absurd h

-- ---- a variant whose signature is there

module _ (x : ValueChecker) (answer : Answer) (h : Held x answer) where
  -- there is room for it
  pub held_room : (length x.frames.items < 128) × (x.inner.top + length x.held.items ≤ 16640) × (length x.held.items ≤ 255)
  held_room =
      let i = inner_of x x.offset h.ws h.frames in
      let a = i.count in
      let b = i.depth_left in
      let s = h.some in
      (omega arith, omega (arith, h.kind.1), omega (arith, h.kind.1))

  module _ (n : ℕ) (n_is : n ≡ length x.held.items) (types : List ℕ) (more : List ℕ) (types_are : types ≡ x.held.items)
      (sizes : AreLengths types more) (text lengths : ArrayVec ℕ) (frames : ArrayVec OpenContainer)
      (text_is : text.items ≡ take x.inner.top x.text.items ++ types)
      (lengths_are : lengths.items ≡ take x.inner.top x.lengths.items ++ more)
      (frames_are : frames.items ≡ x.frames.items ++ x.inner ∷ []) where
    abbrev t : List ℕ
    t = x.held.items

    -- the frame of the value, once its type is noted after the first bytes of those in use
    abbrev g : OpenContainer
    g = record {
      array = false;
      pos = x.inner.top;
      stop = x.inner.top + n;
      top = x.inner.top + n;
      end = x.inner.end;
      depth_left =
          x.inner.depth_left - 1;
    }

    abbrev work_is : Work
    work_is = Parts (x.inner.depth_left - 1) x.inner.end (MoreTypes (type_spelled t) NoTypes)

    value_next : (c : List ℕ) → onward nul (works x.bounds x.order answer.last (work_is ∷ h.ws)) x.offset c ≡ answer.to c
    value_next c =
        same_after (nul x.offset c) (λ z. works x.bounds x.order answer.last (work_is ∷ h.ws))
        (λ z. onward (value x.bounds x.order (x.inner.depth_left - 1) x.inner.end (type_spelled t)) (rest_of answer x h.ws))
        (λ z p u. parts_more x.bounds x.order (x.inner.depth_left - 1) x.inner.end (type_spelled t) NoTypes (rest_of answer x h.ws) p u)
        ∙ h.same c

    -- the zero is wanted, and then the value
    pub held_nul : Nuls (record x {
      text = text;
      lengths = lengths;
      frames = frames;
      inner =
          record {
            array = false;
            pos = x.inner.top;
            stop = x.inner.top + n;
            top = x.inner.top + n;
            end = x.inner.end;
            depth_left =
                x.inner.depth_left - 1;
          };
      doing = doing.Nul;
    }) answer
    held_nul =
        let told = subst (λ (u : List ℕ). AreLengths u more) types_are sizes in
        let i = inner_of x x.offset h.ws h.frames in
        let q = x.offset in
        let single = single_text t h.kind in
        let old = x.text.items in
        let new = take x.inner.top old ++ t in
        let new_is : text.items ≡ new = text_is ∙ ap (λ (u : List ℕ). take x.inner.top old ++ u) types_are in
        let high = i.high in
        let some = h.some in
        let room = h.fits in
        let front_size : length (take x.inner.top old) ≡ x.inner.top = omega (arith, length-take x.inner.top old) in
        let whole_size : length new ≡ x.inner.top + n = omega (arith, length-append (take x.inner.top old) t) in
        let few : n ≤ 255 = omega (arith, h.kind.1) in
        let all : take (x.inner.top + n) new ≡ new = take_all (x.inner.top + n) new (omega arith) in
        let sig_there : slice new x.inner.top (x.inner.top + n) ≡ sigs (MoreTypes (type_spelled t) NoTypes) =
        ap (drop x.inner.top) all ∙ drop_at (take x.inner.top old) t x.inner.top front_size ∙ sym single.1
        ∙ sym (append-nil (sig (type_spelled t))) in
        let kept : take x.inner.top old ≡ take x.inner.top new = sym (take_at (take x.inner.top old) t x.inner.top front_size) in
        let around = x.inner ∷ reverse x.frames.items in
        let back : reverse frames.items ≡ around = ap (λ (fs : List OpenContainer). reverse fs) frames_are
        ∙ reverse-append x.frames.items (x.inner ∷ []) in
        let count : suc (length x.frames.items) ≡ length around = ap suc (sym (length-reverse x.frames.items)) in
        let framed : Framed q q (length new) (suc (length x.frames.items)) new g work_is = record {
          low_is = omega arith;
          high_is = omega arith;
          stop_is = omega arith;
          pos_is = omega arith;
          count_is = (let a = i.count in omega arith);
          room_is = (let a = i.depth_left in omega arith);
          is = record {
            parts = refl;
            room_is = refl;
            end_is = refl;
            types = sig_there;
            complete =
                (shaped_of (type_spelled t) false 0 0 single.0.0, tt);
          };
        } in
        let wider : AreFrames q q x.inner.top x.end old around h.ws =
        within q q (length old) q x.inner.top x.end old x.inner (reverse x.frames.items) h.ws i.low (omega arith) h.frames in
        let below : AreFrames q x.inner.end (x.inner.top + n) x.end new around h.ws =
        within q q x.inner.top x.inner.end (x.inner.top + n) x.end new x.inner (reverse x.frames.items) h.ws (omega arith) (omega arith)
        (frames_same q q x.inner.top x.end old new around h.ws kept wider) in
        let l = x.lengths.items in
        let l_size : length (take x.inner.top l) ≡ x.inner.top = omega (arith, h.noted.0, length-take x.inner.top l) in
        let l_kept : take x.inner.top l ≡ take x.inner.top (take x.inner.top l ++ more) =
        sym (take_at (take x.inner.top l) more x.inner.top l_size) in
        let same_size : length (take x.inner.top l ++ more) ≡ length new =
        omega (arith, told.same, length-append (take x.inner.top l) more) in
        let own_noted = after_noted (take x.inner.top old) (take x.inner.top l) t more x.inner.top (x.inner.top + n) told front_size l_size
        (omega arith) in
        let below_noted = notes_same old new l (take x.inner.top l ++ more) q q x.inner.top x.end around h.ws kept l_kept wider h.noted.1 in
        let notes : (length (take x.inner.top l ++ more) ≡ length new) × AreNoted new (take x.inner.top l ++ more) (g ∷ around) =
        (same_size, (own_noted, below_noted)) in
        let here : AreFrames q q (length new) x.end new (g ∷ around) (work_is ∷ h.ws) =
        (subst (λ (k : ℕ). Framed q q (length new) k new g work_is) count framed, below) in
        record {
          ws = work_is ∷ h.ws;
          frames =
              subst (λ (u : List ℕ). AreFrames q q (length u) x.end u (g ∷ reverse frames.items) (work_is ∷ h.ws)) (sym new_is)
              (subst (λ (fs : List OpenContainer). AreFrames q q (length new) x.end new (g ∷ fs) (work_is ∷ h.ws)) (sym back) here);
          noted = same_notes new text.items (take x.inner.top l ++ more) lengths.items (g ∷ around) (g ∷ reverse frames.items) (sym new_is)
              (sym lengths_are) (ap (λ (fs : List OpenContainer). g ∷ fs) (sym back)) notes;
          fits = room;
          near = h.near;
          same = value_next;
        }
