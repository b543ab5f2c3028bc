-- What several reads of a device come to.
use Rattle.std.proofs.Common.{◌≤◌, ◌*◌, ℕ, List, [], ◌∷◌, length, length-append, Option, ap, sym, subst, arith}
use Rattle.std.specs.List.{All}
use Rattle.std.specs.Io.KnownBytes.{Consumes}
use Rattle.std.proofs.KnownBytes.{Consumes-nil, Consumes-trans}
use Rattle.std.proofs.lemmas.List.Elements.{All-head, All-tail}
use Rattle.dbus_device.specs.Device.{RisesBy}
use Rattle.dbus_device.specs.Calls.{joined, ReadsPieces}

module _ {R : Type 0} (left : R → Option (List ℕ)) (calls : R → ℕ) where
  pub pieces_consumed : (old new : R) (pieces : List (List ℕ)) → ReadsPieces left calls old pieces new → Consumes (left old) (left new) (joined pieces)
  pieces_consumed old new [] same = subst (λ (s : R). Consumes (left old) (left s) []) (sym same) (Consumes-nil (left old))
  pieces_consumed old new (last ∷ before) r =
      Consumes-trans (left old) (left r.0) (left new) (joined before) last (pieces_consumed old r.0 before r.1) r.2.gave

  pub pieces_counted : (old new : R) (pieces : List (List ℕ)) → ReadsPieces left calls old pieces new → RisesBy (length pieces) (calls old) (calls new)
  pieces_counted old new [] same = let e = ap calls same in omega (arith, e)
  pieces_counted old new (last ∷ before) r = let a = pieces_counted old r.0 before r.1 in let b = r.2.counted in omega (arith, a, b)

pub pieces_few : (most : ℕ) (pieces : List (List ℕ)) → All (λ piece. length piece ≤ most) pieces → length (joined pieces) ≤ most * length pieces
pieces_few most [] few = omega arith
pieces_few most (last ∷ before) few =
    let a = pieces_few most before (All-tail (λ piece. length piece ≤ most) last before few) in
    let b = All-head (λ piece. length piece ≤ most) last before few in
    let all = length-append (joined before) last in
    omega (arith, a, b, all)
