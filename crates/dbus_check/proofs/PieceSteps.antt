-- A message whose bytes come in pieces, by what a run over those that are kept makes of it.
use Rattle.std.proofs.Common.{◌≡◌, ℕ, zero, suc, ◌+◌, ◌-◌, ◌<◌, ◌≤◌, ◌⊎◌, List, [], ◌∷◌, ◌++◌, length, take, drop, Result, Ok, Err, refl, sym, ap, subst, ◌∙◌, arith, inl, inr, append_assoc}
use Rattle.std.proofs.Math.Seq.{take-append-add}
use Rattle.std.proofs.lemmas.List.{append-nil, take_all, take-append-le, take-take, take-append-drop, length-append, length-take, length-drop}
use Rattle.dbus_value_model.specs.declared.fault.Fault.{Fault}
use Rattle.dbus_value_model.specs.Reading.{Done, Faulty, Partial}
use Rattle.dbus_value_checker.proofs.Suspension.{take-both, split-at}
use Rattle.dbus_check.specs.Checks.{Holds, Joined, Fed}
use Rattle.dbus_check.specs.Checks as pieces
use Rattle.dbus_check.specs.Progress.{To, Denotes, denotes, Runs, IsLive, after_bytes}
use Rattle.dbus_check.specs.declared.pieces.Pieces.{Pieces}
use Rattle.dbus_check.specs.declared.progress.Progress.{Progress}
use Rattle.dbus_check.specs.declared.progress.Stage.{Stage}
use Rattle.dbus_check.specs.declared.progress.Stage.TheVariants as stage

-- ---- lists

none_left : (t : List ℕ) → (0 < length t → ⊥) → t ≡ []
none_left [] h = refl
none_left (b ∷ t) h = absurd (h (omega arith))

-- ---- a message that is whole

live_or_not : (s : Stage) → IsLive s ⊎ (IsLive s → ⊥)
live_or_not stage.Header = inl tt
live_or_not stage.Fields = inl tt
live_or_not stage.Value = inl tt
live_or_not stage.Types = inl tt
live_or_not stage.Padding = inl tt
live_or_not stage.Body = inl tt
live_or_not stage.Done = inr (λ h. h)

over_ends : (x : Progress) (to : To) → (IsLive x.stage → ⊥) → Denotes x to → (c : List ℕ) → to c ≡ Done tt x.end c
over_ends x to over h = at x.stage over h
  where
    at : (s : Stage) → (IsLive s → ⊥) → denotes s x to → (c : List ℕ) → to c ≡ Done tt x.end c
    at stage.Header over h c = absurd (over tt)
    at stage.Fields over h c = absurd (over tt)
    at stage.Value over h c = absurd (over tt)
    at stage.Types over h c = absurd (over tt)
    at stage.Padding over h c = absurd (over tt)
    at stage.Body over h c = absurd (over tt)
    at stage.Done over h c = h c

-- nothing is kept of it
pub none_kept : (x : Pieces) (to : To) → (pieces.IsLive x → ⊥) → Holds x to → x.kept.items ≡ []
none_kept x to over h =
    none_left x.kept.items (λ some.
    let waits = h.waits some in
    let ends = over_ends x.progress h.from over h.denotes x.kept.items in
    absurd (let e : Partial ≡ Done tt x.progress.end x.kept.items = sym waits ∙ ends in cc))

pub whole_answers : (x : Pieces) (to : To) → (pieces.IsLive x → ⊥) → Holds x to → (c : List ℕ) → to c ≡ Done tt x.progress.end c
whole_answers x to over h c =
    sym (h.same c) ∙ ap (λ (t : List ℕ). h.from (t ++ c)) (none_kept x to over h) ∙ over_ends x.progress h.from over h.denotes c

-- ---- after the bytes that are kept

module _ (x : Pieces) (to : To) (h : Holds x to) (piece : List ℕ) (room : ℕ) (room_is : length x.kept.items + room ≡ 20) (p : Progress) where
  abbrev given : List ℕ
  given = take room piece

  abbrev both : List ℕ
  both = x.kept.items ++ given

  abbrev before : ℕ
  before = length x.kept.items

  abbrev Ran : Result ℕ Fault → Type 0
  Ran r = (to : To) → Denotes x.progress to → Runs both r p to

  -- the kept ones were passed
  pub join_back : (k : ℕ) → Ran (Ok k) → before ≤ k → (y : Pieces) → y.progress ≡ p → y.kept.items ≡ [] → Joined piece (Ok (k - before)) y to
  join_back k runs le y y_is none =
      let r = runs h.from h.denotes in
      let n = k - before in
      let a = length-append x.kept.items given in
      let l = length-take room piece in
      let some = r.0 in
      let back : before + n ≡ k = omega (arith, le) in
      let fits : n ≤ room = omega (arith, some, a, l, back) in
      let front : take k both ≡ x.kept.items ++ take n piece = ap (λ (i : ℕ). take i both) (sym back) ∙ take-append-add x.kept.items given n ∙ ap (λ (t : List ℕ). x.kept.items ++ t) (take-take n room piece fits) in (
        omega (arith, some, a, l, back),
        record {
          from = after_bytes h.from (take k both);
          denotes = subst (λ (q : Progress). Denotes q (after_bytes h.from (take k both))) (sym y_is) r.1;
          same = λ c. ap (λ (t : List ℕ). h.from (take k both ++ (t ++ c))) none ∙ ap (λ (t : List ℕ). h.from (t ++ c)) front ∙ ap h.from (append_assoc x.kept.items (take n piece) c) ∙ h.same (take n piece ++ c);
          few = let e = ap length none in omega (arith, e);
          waits = λ some. let e = ap length none in absurd (omega (arith, e, some));
        },
      )

  -- they were not: the item goes on after them
  pub join_stays : (k : ℕ) → Ran (Ok k) → (IsLive p.stage → length both < k + 20) → k < before → (y : Pieces) → y.progress ≡ p → y.kept.items ≡ drop k both → Joined piece (Ok (length given)) y to
  join_stays k runs short lt y y_is rest =
      let r = runs h.from h.denotes in
      let l = length-take room piece in
      let d = ap length rest ∙ length-drop k both in
      let some = r.0 in
      let live : IsLive p.stage = elim (live_or_not p.stage) [
        | inl live ↦ live
        | inr over ↦
            let waits : h.from x.kept.items ≡ Partial = h.waits (omega (arith, lt)) in
            let ends = over_ends p (after_bytes h.from (take k both)) over r.1 (drop k x.kept.items) in
            let here : take k both ++ drop k x.kept.items ≡ x.kept.items = ap (λ (t : List ℕ). t ++ drop k x.kept.items) (take-append-le k x.kept.items given (omega (arith, lt))) ∙ take-append-drop k x.kept.items in
            absurd (let e : Partial ≡ Done tt p.end (drop k x.kept.items) = sym waits ∙ ap h.from (sym here) ∙ ends in cc)
      ] in
      let few = short live in
      let whole : take k both ++ drop k both ≡ both = take-append-drop k both in
      let all : take (length given) piece ≡ given = take_given room piece in (
        omega (arith, l),
        record {
          from = after_bytes h.from (take k both);
          denotes = subst (λ (q : Progress). Denotes q (after_bytes h.from (take k both))) (sym y_is) r.1;
          same = λ c.
              ap (λ (t : List ℕ). h.from (take k both ++ (t ++ c))) rest ∙ ap h.from (sym (append_assoc (take k both) (drop k both) c))
              ∙ ap (λ (t : List ℕ). h.from (t ++ c)) whole ∙ ap h.from (append_assoc x.kept.items given c) ∙ h.same (given ++ c) ∙ ap (λ (t : List ℕ). to (t ++ c)) (sym all);
          few = omega (arith, d, few, some);
          waits = λ more. ap (λ (t : List ℕ). h.from (take k both ++ t)) rest ∙ ap h.from whole ∙ r.2 live;
        },
      )
    where
      take_given : (room : ℕ) (piece : List ℕ) → take (length (take room piece)) piece ≡ take room piece
      take_given zero piece = refl
      take_given (suc room) [] = refl
      take_given (suc room) (b ∷ piece) = ap (λ (l : List ℕ). b ∷ l) (take_given room piece)

  pub join_refused : (f : Fault) → Ran (Err f) → (c : List ℕ) → to (piece ++ c) ≡ Faulty f
  join_refused f runs c =
      ap to (split-at room piece c) ∙ sym (h.same (given ++ (drop room piece ++ c))) ∙ ap h.from (sym (append_assoc x.kept.items given (drop room piece ++ c)))
      ∙ runs h.from h.denotes (drop room piece ++ c)

-- ---- with none kept

module _ (x : Pieces) (to : To) (h : Holds x to) (none : x.kept.items ≡ []) (piece : List ℕ) (p : Progress) where
  abbrev RanAlone : Result ℕ Fault → Type 0
  RanAlone r = (to : To) → Denotes x.progress to → Runs piece r p to

  law : (c : List ℕ) → h.from c ≡ to c
  law c = ap (λ (t : List ℕ). h.from (t ++ c)) (sym none) ∙ h.same c

  -- the rest is kept
  pub read_kept : (k : ℕ) → RanAlone (Ok k) → IsLive p.stage → (IsLive p.stage → length piece < k + 20) → (y : Pieces) → y.progress ≡ p → y.kept.items ≡ x.kept.items ++ drop k piece → Fed piece (Ok (length piece)) y to
  read_kept k runs live short y y_is kept_is =
      let r = runs h.from h.denotes in
      let some = r.0 in
      let few = short live in
      let rest : y.kept.items ≡ drop k piece = kept_is ∙ ap (λ (t : List ℕ). t ++ drop k piece) none in
      let d = ap length rest ∙ length-drop k piece in
      let all : take (length piece) piece ≡ piece = take_all (length piece) piece (omega arith) in
      let waits : to piece ≡ Partial = sym (law piece) ∙ r.2 live in (
        omega arith,
        record {
          from = after_bytes h.from (take k piece);
          denotes = subst (λ (q : Progress). Denotes q (after_bytes h.from (take k piece))) (sym y_is) r.1;
          same = λ c. ap (λ (t : List ℕ). h.from (take k piece ++ (t ++ c))) rest ∙ ap h.from (sym (split-at k piece c)) ∙ law (piece ++ c) ∙ ap (λ (t : List ℕ). to (t ++ c)) (sym all);
          few = omega (arith, d, few, some);
          waits = λ more. ap (λ (t : List ℕ). h.from (take k piece ++ t)) rest ∙ ap h.from (take-append-drop k piece) ∙ r.2 live;
        },
        λ _. (refl, waits),
      )

-- ---- one call after another

module _ (s : List ℕ) (n : ℕ) (there : n ≤ length s) (to : To) (rest : List ℕ) (rest_is : rest ≡ drop n s) where
  holds_as : (y : Pieces) (one two : To) → ((c : List ℕ) → one c ≡ two c) → Holds y one → Holds y two
  holds_as y one two e h = record { from = h.from; denotes = h.denotes; same = λ c. h.same c ∙ e c; few = h.few; waits = h.waits }

  pub both_joined : (y : Pieces) (m : ℕ) → Joined rest (Ok m) y (after_bytes to (take n s)) → Joined s (Ok (n + m)) y to
  both_joined y m h =
      let a = h.0 in
      let d = ap length rest_is ∙ length-drop n s in
      (omega (arith, a, d, there), holds_as y (after_bytes (after_bytes to (take n s)) (take m rest)) (after_bytes to (take (n + m) s)) (λ c. ap (λ (u : List ℕ). to (take n s ++ (take m u ++ c))) rest_is ∙ ap to (sym (take-both n m s c there))) h.1)

  pub both_refused : (f : Fault) → ((c : List ℕ) → to (take n s ++ (rest ++ c)) ≡ Faulty f) → (c : List ℕ) → to (s ++ c) ≡ Faulty f
  both_refused f h c = ap to (split-at n s c) ∙ ap (λ (u : List ℕ). to (take n s ++ (u ++ c))) (sym rest_is) ∙ h c

  pub both_fed : (y : Pieces) (m : ℕ) → Fed rest (Ok m) y (after_bytes to (take n s)) → Fed s (Ok (n + m)) y to
  both_fed y m h =
      let j = both_joined y m (h.0, h.1) in
      let d = ap length rest_is ∙ length-drop n s in (
        j.0,
        j.1,
        λ live.
            let w = h.2 live in
            let all = w.0 in
            (omega (arith, all, d, there), ap to (sym (take-append-drop n s)) ∙ ap (λ (u : List ℕ). to (take n s ++ u)) (sym rest_is) ∙ w.1),
      )

-- all were handed, and some are kept
pub all_fed : (s : List ℕ) (n : ℕ) (there : n ≤ length s) (to : To) (y : Pieces) → n ≡ length s → 0 < length y.kept.items → Holds y (after_bytes to (take n s)) → Fed s (Ok n) y to
all_fed s n there to y all some h = (
  there,
  h,
  λ live. (all, ap to (sym (take_all n s (omega (arith, all)))) ∙ ap to (sym (append-nil (take n s))) ∙ sym (h.same []) ∙ ap h.from (append-nil y.kept.items) ∙ h.waits some),
)
