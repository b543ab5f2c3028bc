-- A wanted value that stands whole in the bytes is passed at once.
use Rattle.std.proofs.Common.{◌≡◌, ℕ, zero, suc, ◌+◌, ◌-◌, ◌*◌, ◌/◌, ◌%◌, ◌<◌, ◌≤◌, List, ◌++◌, length, take, drop, get_or, Bool, true, false, sym, ap, subst, ◌∙◌, arith}
use Rattle.std.proofs.lemmas.List.{take_at, drop-drop, drop-take, get_or-drop, length-drop, length-take, length-append, take_all}
use Rattle.dbus_texts.specs.Types.{TypeTree, sig, IsShaped}
use Rattle.dbus_types.proofs.TypeCodes.{begins, boolean_is, code_is}
use Rattle.dbus_value_model.specs.Bytes.{gap_to}
use Rattle.dbus_value_model.specs.Reading.{Done, after, number_of, value}
use Rattle.dbus_value_model.specs.Spelling.{Spelled, spelling}
use Rattle.dbus_value_model.specs.Values.{ValueTree}
use Rattle.dbus_value_model.proofs.Periods.{spelled-period}
use Rattle.dbus_value_laws.proofs.ValueItemLaws.{Agrees-value, value_inside}
use Rattle.dbus_value_laws.proofs.ValueSteps.{shaped_inside}
use Rattle.dbus_value_validator.specs.Endings.{EndsAt, AreNoted}
use Rattle.dbus_value_validator.proofs.NumberArrays.{boolean_ends}
use Rattle.dbus_value_validator.proofs.ItemSteps.{value_spelled}
use Rattle.dbus_value_checker.specs.declared.values.ValueChecker.{ValueChecker}
use Rattle.dbus_value_checker.specs.Denotations.{slice, IsNoted, Answer, rest_of, Goes, Wants, after_piece}
use Rattle.dbus_value_checker.proofs.Suspension.{take-both}
use Rattle.dbus_value_checker.proofs.FrameLaws.{frames_at, inner_of}
use Rattle.dbus_value_checker.proofs.NextValues.{next_element}

pub shaped_there : (b : Bool) (t : TypeTree) → IsShaped b t → IsShaped true t
shaped_there true t h = h
shaped_there false t h = shaped_inside t h

-- the lengths of the types within a type are noted
pub type_noted : (text lengths : List ℕ) (pos stop : ℕ) → IsNoted text lengths pos stop → AreNoted (slice text pos stop) lengths pos
type_noted text lengths pos stop noted = λ at t more there e.
    let left : slice text (pos + at) stop ≡ sig t ++ more = sym (drop-drop at pos (take stop text)) ∙ e in
    let long = ap length left in
    let some : 0 < length (sig t) = omega (arith, ap length (begins t)) in
    let within : pos + at < stop = omega (arith, long, some, length-append (sig t) more, length-drop (pos + at) (take stop text), length-take stop text) in
    noted (pos + at) t more (omega arith) within left

module _ (x : ValueChecker) (pos stop : ℕ) (answer : Answer) (w : Wants x pos stop answer) (s : List ℕ) (before end m : ℕ) (v : ValueTree) (r : List ℕ) where
  pub whole_goes : before % 8 ≡ x.offset % 8 → 0 < m → end ≤ before + (x.inner.end - x.offset) → Spelled x.bounds x.order x.inner.depth_left end w.type before s v (before + m) r → Goes (record x { offset = x.offset + m }) (after_piece answer (take m s))
  whole_goes same some ends there =
      let low = (inner_of x (suc x.offset) w.ws w.frames).low in
      let fits : x.offset + m ≤ x.inner.end = omega (arith, there.bound, ends, low) in
      let d = spelled-period before x.offset end x.inner.end m same fits there in
      let long : length (spelling x.order x.offset v) ≡ m = omega (arith, d.place) in
      let front : take m s ≡ spelling x.order x.offset v = ap (take m) d.bytes ∙ take_at (spelling x.order x.offset v) r m long in
      let shaped = w.complete in
      let read : (c : List ℕ) → value x.bounds x.order x.inner.depth_left x.inner.end w.type x.offset (take m s ++ c) ≡ Done v (x.offset + m) c =
      λ c. (Agrees-value x.bounds x.order x.inner.depth_left x.inner.end x.inner.array w.type shaped).passes x.offset (take m s ++ c) v (x.offset + m) c
      ((value_inside x.bounds x.order x.inner.depth_left x.inner.end w.type x.offset (take m s ++ c) v (x.offset + m) c).1
      (record { has_type = d.has_type; formed = d.formed; within = d.within; indexes = d.indexes; bytes = ap (λ b. b ++ c) front; place = d.place; bound = d.bound })) in
      record {
        ws = w.ws;
        frames = frames_at x w.ws (suc x.offset) (x.offset + m) (x.offset + m) w.frames (omega arith) fits;
        noted = w.noted;
        same = λ c. ap (λ o. after o (λ z. rest_of answer x w.ws)) (sym (read c)) ∙ w.same (take m s ++ c);
      }

-- the type that is wanted, as a slice of the signatures
pub types_are : (text : List ℕ) (pos stop : ℕ) → pos ≤ stop → slice text pos stop ≡ take (stop - pos) (drop pos text)
types_are text pos stop le = ap (λ k. drop pos (take k text)) (let e : stop ≡ pos + (stop - pos) = omega arith in e) ∙ drop-take pos (stop - pos) text

-- The same, of what the validator reads in bytes that begin at a multiple of 8: one value, or some
-- of an array, one after another.
module _ (x : ValueChecker) (answer : Answer) (bytes : List ℕ) (n : ℕ) (are : (i : ℕ) → get_or bytes i 0 < 256) where
  abbrev before : ℕ
  before = x.offset % 8

  abbrev here : List ℕ
  here = drop (n - before) bytes

  -- what is wanted after so many bytes
  abbrev further : ℕ → ValueChecker
  further m = record x { offset = x.offset + m }

  abbrev onwards : ℕ → Answer
  onwards m = after_piece answer (take m (drop n bytes))

  abbrev Went : ℕ → Type 0
  Went m = 0 < m → (x.inner.array ≡ true) × Goes (further m) (onwards m)

  more_wanted : (pos stop m : ℕ) → Wants x pos stop answer → Went m → x.offset + m < x.inner.end → Wants (further m) pos stop (onwards m)
  more_wanted pos stop zero w went more = subst (λ (o : ℕ). Wants (record x { offset = o }) pos stop (onwards 0)) (let e : x.offset ≡ x.offset + 0 = omega arith in e) w
  more_wanted pos stop (suc m) w went more =
      let g = went (omega arith) in
      let at = w.element g.0 in
      subst (λ (p : ℕ). Wants (further (suc m)) p stop (onwards (suc m))) (sym at.0)
      (subst (λ (q : ℕ). Wants (further (suc m)) x.inner.pos q (onwards (suc m))) (sym at.1) (next_element (further (suc m)) (onwards (suc m)) g.1 g.0 more))

  both_go : (m k : ℕ) → m ≤ length (drop n bytes) → Goes (record x { offset = x.offset + m + k }) (after_piece (onwards m) (take k (drop m (drop n bytes)))) → Goes (further (m + k)) (onwards (m + k))
  both_go m k long g =
      subst (λ (o : ℕ). Goes (record x { offset = o }) (onwards (m + k))) (let e : x.offset + m + k ≡ x.offset + (m + k) = omega arith in e)
      (record { ws = g.ws; frames = g.frames; noted = g.noted; same = λ c. g.same c ∙ ap answer.to (sym (take-both m k (drop n bytes) c long)) })

  pub read_goes : (pos stop at end next : ℕ) (text : List ℕ) → text ≡ x.text.items → Wants x pos stop answer → before ≤ n → before ≤ at → Went (at - before) → at < end → at < next → end ≤ before + (x.inner.end - x.offset) → end ≤ length (take (length bytes - (n - before)) here)
      → ((t : TypeTree) → sig t ≡ take (stop - pos) (drop pos text) → IsShaped true t → EndsAt (take (length bytes - (n - before)) here) next (value x.bounds x.order x.inner.depth_left end t at (drop at (take (length bytes - (n - before)) here))))
      → Goes (further (next - before)) (onwards (next - before))
  read_goes pos stop at end next text text_is whole there from went more past ends inside reads =
      let m = at - before in
      let k = next - at in
      let w = more_wanted pos stop m whole went (omega arith) in
      let low = (inner_of (further m) (suc (x.offset + m)) w.ws w.frames).low in
      let size = length-drop (n - before) bytes in
      let all : take (length bytes - (n - before)) here ≡ here = take_all _ here (omega arith) in
      let fits = ap length all in
      let types : sig w.type ≡ take (stop - pos) (drop pos text) = sym w.text ∙ types_are x.text.items pos stop w.pos_is ∙ ap (λ (l : List ℕ). take (stop - pos) (drop pos l)) (sym text_is) in
      let shaped = shaped_there x.inner.array w.type w.complete in
      let read = subst (λ (l : List ℕ). EndsAt l next (value x.bounds x.order x.inner.depth_left end w.type at (drop at l))) all (reads w.type types shaped) in
      let is_byte : (i : ℕ) → get_or here i 0 < 256 = λ i. (let e = get_or-drop (n - before) bytes i 0 in let b = are (n - before + i) in omega arith) in
      let spelled = value_spelled x.bounds x.order x.inner.depth_left end at here is_byte w.type shaped read.0 next (drop next here) read.1 in
      let place : next ≡ at + k = omega arith in
      let s_is : drop at here ≡ drop m (drop n bytes) = drop-drop at (n - before) bytes ∙ ap (λ (j : ℕ). drop j bytes) (let e : n - before + at ≡ n + m = omega arith in e) ∙ sym (drop-drop m n bytes) in
      let moved = subst (λ (s : List ℕ). Spelled x.bounds x.order x.inner.depth_left end w.type at s read.0 (at + k) (drop next here)) s_is
      (subst (λ (q : ℕ). Spelled x.bounds x.order x.inner.depth_left end w.type at (drop at here) read.0 q (drop next here)) place spelled) in
      let g = whole_goes (further m) pos stop (onwards m) w (drop m (drop n bytes)) at end k read.0 (drop next here) (omega arith) (omega arith) (omega arith) moved in
      let both = both_go m k (omega (arith, fits, inside, size, length-drop n bytes)) g in
      subst (λ (j : ℕ). Goes (further j) (onwards j)) (let e : m + k ≡ next - before = omega arith in e) both

  -- BOOLEANs of an array, as many as their words show
  module _ (pos stop end last : ℕ) (text : List ℕ) (text_is : text ≡ x.text.items) (w : Wants x pos stop answer) (array : x.inner.array ≡ true) (code : get_or (take (stop - pos) (drop pos text)) 0 0 ≡ 98)
      (there : before ≤ n) (begins : gap_to 4 before ≡ 0) (ends : end ≤ before + (x.inner.end - x.offset)) (inside : end ≤ length (take (length bytes - (n - before)) here)) (within : last ≤ end)
      (few : (p : ℕ) → before ≤ p → gap_to 4 p ≡ 0 → p + 4 ≤ last → number_of x.order (take 4 (drop p (take (length bytes - (n - before)) here))) ≤ 1) where
    so_many : (k : ℕ) → before + 4 * k ≤ last → Went (4 * k)
    unfolding gap_to
    so_many zero le = λ some. absurd (omega (arith, some))
    so_many (suc k) le = λ some. (
      array,
      (let at = before + 4 * k in
          let aligned : gap_to 4 at ≡ 0 = omega (arith, begins) in
          let all = take (length bytes - (n - before)) here in
          subst (λ (m : ℕ). Goes (further m) (onwards m)) (let e : at + 4 - before ≡ 4 * suc k = omega arith in e)
          (read_goes pos stop at end (at + 4) text text_is w there (omega arith) (subst Went (let e : 4 * k ≡ at - before = omega arith in e) (so_many k (omega arith))) (omega arith) (omega arith) ends inside (λ t is shaped.
          subst (λ (u : TypeTree). EndsAt all (at + 4) (value x.bounds x.order x.inner.depth_left end u at (drop at all))) (sym (boolean_is t (code_is t _ is ∙ code)))
          (boolean_ends x.bounds x.order x.inner.depth_left end at all aligned (omega arith) inside (few at (omega arith) aligned (omega arith)))))),
    )

    pub booleans_go : gap_to 4 last ≡ 0 → before < last → Goes (further (last - before)) (onwards (last - before))
    unfolding gap_to
    booleans_go aligned some =
        let k = (last - before) / 4 in
        let all : 4 * k ≡ last - before = omega (arith, aligned, begins, some) in
        subst (λ (m : ℕ). Goes (further m) (onwards m)) all (so_many k (omega arith) (omega arith)).1
