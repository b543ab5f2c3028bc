-- What a text that was written leaves in the caller's bytes.
use Rattle.std.proofs.Common.{◌≡◌, ◌↔◌, ℕ, zero, suc, ◌≤◌, List, [], ◌∷◌, ◌++◌, length, take, drop, min, false, sym, ap, ◌∙◌, arith}
use Rattle.std.proofs.lemmas.List.{take-append-drop, drop_all}
use Rattle.dbus_room.specs.Rooms.{Begins, Gains, text_so_far}
use Rattle.dbus_room.specs.declared.room.Room.{Room}

-- past the end of a list there is nothing
drop_most : (n k : ℕ) (l : List ℕ) → k ≡ min n (length l) → drop k l ≡ drop n l
drop_most zero k l e = let none : k ≡ 0 = omega (arith, e) in ap (λ (j : ℕ). drop j l) none
drop_most (suc n) k [] e = drop_all k [] (omega arith)
drop_most (suc n) zero (x ∷ xs) e = absurd (omega (arith, e))
drop_most (suc n) (suc k) (x ∷ xs) e = drop_most n k xs (omega (arith, e))

module _ (old text : List ℕ) (before after : Room) (begins : Begins old before) (gains : Gains before text after) where
  size : length before.bytes.now ≡ length old
  size = ap length begins.bytes_are

  front : text_so_far after ≡ take (length old) text
  front = gains.written ∙ (ap (λ (k : ℕ). take k (text_so_far before ++ text)) size ∙ ap (λ (k : ℕ). take (length old) (take k before.bytes.now ++ text)) begins.none)

  -- as many bytes as the text has, or as there are
  pub long : after.len ≡ min (length text) (length old)
  long = omega (arith, gains.long, begins.none, size)

  rest : drop after.len after.bytes.now ≡ drop (length text) old
  rest = gains.behind ∙ (ap (λ (l : List ℕ). drop after.len l) begins.bytes_are ∙ drop_most (length text) after.len old long)

  -- the first bytes are the text's
  pub filled : after.bytes.now ≡ take (length old) text ++ drop (length text) old
  filled =
      sym (take-append-drop after.len after.bytes.now)
      ∙ (ap (λ (l : List ℕ). l ++ drop after.len after.bytes.now) front ∙ ap (λ (l : List ℕ). take (length old) text ++ l) rest)

  -- all of it, if it fits
  pub all : (after.is_cut ≡ false) ↔ (length text ≤ length old)
  all = (
    λ e. omega (arith, (gains.whole.0 e).1, begins.none, size),
    λ fits. gains.whole.1 (begins.whole, omega (arith, fits, begins.none, size)),
  )
