-- Arrays of numbers that go on.
use Rattle.std.proofs.Common.{◌≡◌, ℕ, ◌+◌, ◌-◌, ◌*◌, ◌%◌, ◌<◌, ◌≤◌, List, [], ◌∷◌, ◌++◌, length, reverse, take, get_or, true, sym, ap, subst, ◌∙◌, arith, append_assoc}
use Rattle.std.proofs.lemmas.List.{length-append, length-take}
use Rattle.dbus_texts.specs.Types.{TypeTree, NumberType}
use Rattle.dbus_types.specs.Alignments.{width}
use Rattle.dbus_value_model.specs.Bytes.{gap_to}
use Rattle.dbus_types.specs.SignatureCodes.{first_code, free_width_of}
use Rattle.dbus_types.proofs.TypeCodes.{begins, after_code}
use Rattle.dbus_value_model.specs.Reading.{Partial}
use Rattle.dbus_value_checker.specs.declared.values.ValueChecker.{ValueChecker}
use Rattle.dbus_value_checker.specs.declared.values.Doing.{Doing}
use Rattle.dbus_value_checker.specs.Suspended.{On, Work, Parts, Elements, work}
use Rattle.dbus_value_checker.specs.Denotations.{Answer, rest_of, HasFrames, HasNotes, Goes, Numbers, after_piece}
use Rattle.dbus_value_checker.proofs.NumberRuns.{at_least, whole_numbers, some_numbers, plain_type, numbers_lack, numbers_run}
use Rattle.dbus_value_checker.proofs.Slices.{slice_head}
use Rattle.dbus_value_checker.proofs.FrameLaws.{frames_reach, frames_small, frames_at}
use Rattle.dbus_value_checker.proofs.NextValues.{false_true}

-- how many bytes its whole numbers have
abbrev pub whole_in : ValueChecker → ℕ → ℕ
whole_in x w = (x.inner.end - x.offset) - (x.inner.end - x.offset) % w

numbers_at : (x : ValueChecker) (d : Doing) (answer : Answer) (c w : ℕ) (ws : List Work) → HasFrames x.offset x ws → HasNotes x → ((s : List ℕ) → rest_of answer x ws x.offset s ≡ answer.to s) → x.inner.array ≡ true → get_or x.text.items x.inner.pos 0 ≡ c
    → ((t : TypeTree) → first_code t ≡ c → w ≡ free_width_of t) → 0 < w → gap_to w x.offset ≡ 0 → x.offset + w ≤ x.inner.end → (0 < whole_in x w) × Numbers (record x { doing = d }) (whole_in x w) answer
numbers_at x d answer c w [] h noted same a code is some aligned fits = absurd h
numbers_at x d answer c w (Parts depth_left end ts ∷ ws) h noted same a code is some aligned fits = absurd (false_true x.inner.array h.0.is.parts a)
numbers_at x d answer c w (Elements turns depth_left end t ∷ ws) h noted same a code is some aligned fits =
    let there = slice_head x.text.items x.inner.pos x.inner.stop (first_code t) (after_code t) h.0.pos_is (h.0.is.type ∙ begins t) in
    let k = plain_type t c w (sym there ∙ code) is some in
    let wide = k.1.1 in
    let room = x.inner.end - x.offset in
    let m = whole_numbers k.0 room in
    let left_is : room - room % w ≡ m.0 * width k.0 = ap (λ (v : ℕ). room - room % v) (sym wide) ∙ m.1 in
    let few = at_least k.0 m.0 in
    let enough = h.0.is.turns_is in
    let turns_are : turns ≡ m.0 + (turns - m.0) = omega arith in
    let elements : Work = Elements (m.0 + (turns - m.0)) depth_left end (NumberType k.0) in
    let same_work : Elements turns depth_left end t ≡ elements = ap (λ (u : TypeTree). Elements turns depth_left end u) k.1.0 ∙ ap (λ (i : ℕ). Elements i depth_left end (NumberType k.0)) turns_are in (
      subst (λ (v : ℕ). 0 < room - room % v) wide (some_numbers k.0 room (omega arith)),
      record {
        ws = ws;
        code = k.0;
        count = m.0;
        turns = turns - m.0;
        depth_left = depth_left;
        stop = end;
        start = x.offset;
        bytes = [];
        plain = k.1.2;
        frames = subst (λ (v : Work). HasFrames x.offset x (v ∷ ws)) same_work h;
        noted = noted;
        aligned = subst (λ (v : ℕ). gap_to v x.offset ≡ 0) (sym wide) aligned;
        offset = omega arith;
        left_is = omega (arith, left_is);
        fits = omega arith;
        same = λ s. subst (λ (v : Work). rest_of answer x (v ∷ ws) x.offset s ≡ answer.to s) same_work (same s);
      },
    )

pub numbers_begin : (x : ValueChecker) (d : Doing) (answer : Answer) (c w : ℕ) → Goes x answer → x.inner.array ≡ true → get_or x.text.items x.inner.pos 0 ≡ c → ((t : TypeTree) → first_code t ≡ c → w ≡ free_width_of t) → 0 < w → gap_to w x.offset ≡ 0 → x.offset + w ≤ x.inner.end
    → (0 < whole_in x w) × Numbers (record x { doing = d }) (whole_in x w) answer
numbers_begin x d answer c w g a code is some aligned fits = numbers_at x d answer c w g.ws g.frames g.noted g.same a code is some aligned fits

module _ (x : ValueChecker) (left : ℕ) (answer : Answer) (b : Numbers x left answer) where
  abbrev elements_on : ℕ → On
  elements_on turns = work x.bounds x.order (Elements turns b.depth_left b.stop (NumberType b.code)) (rest_of answer x b.ws)

  fits_all : b.start + b.count * width b.code ≤ b.stop
  fits_all = let e = b.frames.0.is.end_is in let l = b.left_is in let p = b.offset in let f = b.fits in omega arith

  pub numbers_near : x.offset + left < 18446744073709551616
  numbers_near = let f = b.fits in let small = frames_small b.start x.inner.end x.inner.top x.end x.text.items (reverse x.frames.items) b.ws b.frames.1 in omega arith

  -- fewer bytes than are wanted
  pub numbers_wait : (s : List ℕ) → length s < left → answer.to s ≡ Partial
  numbers_wait s short =
      let l = b.left_is in
      let size = length-append b.bytes s in
      sym (b.same s) ∙ numbers_lack x.bounds x.order b.code b.plain b.depth_left b.stop (rest_of answer x b.ws) b.count b.turns b.start (b.bytes ++ s) (omega arith) fits_all b.aligned

  -- n bytes of them are there
  module _ (s : List ℕ) (n : ℕ) (there : n ≤ length s) where
    on : List ℕ
    on = b.bytes ++ take n s

    on_size : length on ≡ length b.bytes + n
    unfolding on
    on_size = omega (arith, length-append b.bytes (take n s), length-take n s)

    on_same : (c : List ℕ) → elements_on (b.count + b.turns) b.start (on ++ c) ≡ answer.to (take n s ++ c)
    unfolding on
    on_same c = ap (elements_on (b.count + b.turns) b.start) (append_assoc b.bytes (take n s) c) ∙ b.same (take n s ++ c)

    -- and more are wanted
    pub numbers_on : (d : Doing) → n < left → Numbers (record x { offset = x.offset + n; doing = d }) (left - n) (after_piece answer (take n s))
    numbers_on d few =
        let f = b.fits in
        let p = b.offset in
        let l = b.left_is in
        let e = on_size in
        record {
          ws = b.ws;
          code = b.code;
          count = b.count;
          turns = b.turns;
          depth_left = b.depth_left;
          stop = b.stop;
          start = b.start;
          bytes = on;
          plain = b.plain;
          frames = frames_at x (Elements (b.count + b.turns) b.depth_left b.stop (NumberType b.code) ∷ b.ws) b.start b.start (x.offset + n) b.frames (omega arith) (omega arith);
          noted = b.noted;
          aligned = b.aligned;
          offset = omega arith;
          left_is = omega arith;
          fits = omega arith;
          same = on_same;
        }

    -- and these are all
    pub numbers_over : n ≡ left → Goes (record x { offset = x.offset + n }) (after_piece answer (take n s))
    numbers_over all =
        let f = b.fits in
        let p = b.offset in
        let l = b.left_is in
        let e = on_size in
        let few = at_least b.code b.count in
        let enough = b.frames.0.is.turns_is in
        let at : b.start + b.count * width b.code ≡ x.offset + n = omega arith in
        record {
          ws = Elements b.turns b.depth_left b.stop (NumberType b.code) ∷ b.ws;
          frames = (
            (let low : x.offset + n ≤ x.inner.end = omega arith in let turns_are : x.inner.end ≤ x.offset + n + b.turns = omega arith in assumption b.frames),
            frames_reach b.start (x.offset + n) x.inner.end x.inner.top x.end x.text.items (reverse x.frames.items) b.ws (omega arith) b.frames.1,
          );
          noted = b.noted;
          same = λ c.
              subst (λ (q : ℕ). elements_on b.turns q c ≡ answer.to (take n s ++ c)) at
              (sym (numbers_run x.bounds x.order b.code b.plain b.depth_left b.stop (rest_of answer x b.ws) b.count b.turns b.start on c (omega arith) fits_all b.aligned) ∙ on_same c);
        }
