-- What begins with a list.
use Rattle.std.proofs.Common.{◌≡◌, ◌≤◌, List, [], ◌∷◌, ◌++◌, length, take, refl, sym, ap, ◌∙◌, arith}
use Rattle.std.proofs.lemmas.List.{length-take, take-take, take_at}

pub begins_on : {X : Type 0} (xs ys zs : List X) → take (length xs) ys ≡ xs → take (length ys) zs ≡ ys → take (length xs) zs ≡ xs
begins_on xs ys zs h k =
    let l : length xs ≤ length ys = omega (arith, ap length h, length-take (length xs) ys) in
    sym (take-take (length xs) (length ys) zs l) ∙ ap (take (length xs)) k ∙ h

pub begins_push : {X : Type 0} (xs ys : List X) (x : X) → take (length xs) ys ≡ xs → take (length xs) (ys ++ x ∷ []) ≡ xs
begins_push xs ys x h = begins_on xs ys (ys ++ x ∷ []) h (take_at ys (x ∷ []) (length ys) refl)
