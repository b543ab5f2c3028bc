-- Parts of the signatures' text.
use Rattle.std.proofs.Common.{◌≡◌, ℕ, suc, ◌+◌, ◌-◌, ◌<◌, ◌≤◌, List, [], ◌∷◌, ◌++◌, length, take, drop, get_or, refl, sym, ap, subst, ◌∙◌, arith}
use Rattle.std.proofs.lemmas.List.{take_at, drop_at, take-take, drop-drop, drop-take, length-append, length-drop, length-take, get_or-take}
use Rattle.std.proofs.Math.Seq.{drop-cons}
use Rattle.dbus_value_checker.specs.Denotations.{slice}

pub slice_room : (text : List ℕ) (pos stop : ℕ) (a : List ℕ) → pos ≤ stop → slice text pos stop ≡ a → pos + length a ≤ stop
slice_room text pos stop a h e =
    let n : length (slice text pos stop) ≡ length a = ap length e in
    omega (arith, n, length-drop pos (take stop text), length-take stop text)

pub slice_whole : (text : List ℕ) (pos stop : ℕ) (a : List ℕ) → pos ≤ stop → stop ≤ length text → slice text pos stop ≡ a → pos + length a ≡ stop
slice_whole text pos stop a h le e =
    let n : length (slice text pos stop) ≡ length a = ap length e in
    omega (arith, n, length-drop pos (take stop text), length-take stop text)

pub slice_after : (text : List ℕ) (pos stop : ℕ) (a b : List ℕ) → slice text pos stop ≡ a ++ b → slice text (pos + length a) stop ≡ b
slice_after text pos stop a b e = sym (drop-drop (length a) pos (take stop text)) ∙ ap (λ (l : List ℕ). drop (length a) l) e ∙ drop_at a b (length a) refl

pub slice_first : (text : List ℕ) (pos stop : ℕ) (a b : List ℕ) → pos ≤ stop → slice text pos stop ≡ a ++ b → slice text pos (pos + length a) ≡ a
slice_first text pos stop a b h e =
    let le = slice_room text pos stop (a ++ b) h e in
    let fits : pos + length a ≤ stop = omega (arith, length-append a b) in
    ap (λ (l : List ℕ). drop pos l) (sym (take-take (pos + length a) stop text fits))
    ∙ drop-take pos (length a) (take stop text) ∙ ap (λ (l : List ℕ). take (length a) l) e ∙ take_at a b (length a) refl

-- the text within two brackets
pub slice_inner : (text : List ℕ) (pos stop c d : ℕ) (a : List ℕ) → pos ≤ stop → stop ≤ length text → slice text pos stop ≡ c ∷ (a ++ d ∷ []) → (slice text (pos + 1) (stop - 1) ≡ a) × (pos + 1 + length a ≡ stop - 1) × (pos + 2 + length a ≡ stop)
slice_inner text pos stop c d a h le e =
    let left : slice text (pos + 1) stop ≡ a ++ d ∷ [] = slice_after text pos stop (c ∷ []) (a ++ d ∷ []) e in
    let whole : pos + length (c ∷ (a ++ d ∷ [])) ≡ stop = slice_whole text pos stop (c ∷ (a ++ d ∷ [])) h le e in
    let n : length (a ++ d ∷ []) ≡ length a + 1 = length-append a (d ∷ []) in
    let first = slice_first text (pos + 1) stop a (d ∷ []) (omega arith) left in
    let at : pos + 1 + length a ≡ stop - 1 = omega arith in
    (subst (λ (k : ℕ). slice text (pos + 1) k ≡ a) at first, at, omega arith)

pub slice_head : (text : List ℕ) (pos stop c : ℕ) (s : List ℕ) → pos ≤ stop → slice text pos stop ≡ c ∷ s → get_or text pos 0 ≡ c
slice_head text pos stop c s h e =
    let depth_left = slice_room text pos stop (c ∷ s) h e in
    let lt : pos < stop = omega arith in
    let n : length (slice text pos stop) ≡ suc (length s) = ap length e in
    let long : pos < length (take stop text) = omega (arith, n, length-drop pos (take stop text)) in
    let d : drop pos (take stop text) ≡ get_or (take stop text) pos 0 ∷ drop (suc pos) (take stop text) = drop-cons (take stop text) pos 0 long in
    let g : get_or (take stop text) pos 0 ≡ get_or text pos 0 = get_or-take stop text pos 0 lt in
    cc
