-- Bytes that are a number are those that spell it.
use Rattle.std.proofs.Common.{◌≡◌, ℕ, zero, suc, ◌+◌, ◌-◌, ◌<◌, ◌≤◌, ◌^◌, List, [], ◌∷◌, ◌++◌, length, take, drop, get_or, refl, sym, ap}
use Rattle.std.proofs.Common.{◌∙◌, arith, append-nil, take-append-drop}
use Rattle.std.proofs.lemmas.List.{length-take-le, length-drop, drop-drop, drop_all}
use Rattle.std.proofs.lemmas.Nat.{le_bytes_2, be_bytes_2, le_bytes_4, be_bytes_4}
use Rattle.dbus_capture.specs.Types.{ByteOrder, Little, Big}
use Rattle.dbus_capture.specs.Numbers.{u32_of, u16_of, u32_bytes, u16_bytes, u32_at, u16_at}
use Rattle.dbus_capture.specs.Outcomes.{AreBytes}

pub byte_at : (bytes : List ℕ) → AreBytes bytes → (i : ℕ) → get_or bytes i 0 < 256
byte_at [] h i = omega arith
byte_at (b ∷ bytes) h zero = h.0
byte_at (b ∷ bytes) h (suc i) = byte_at bytes h.1 i

pub are_joined : (xs : List ℕ) (b : ℕ) → AreBytes xs → b < 256 → AreBytes (xs ++ b ∷ [])
are_joined [] b h low = (low, tt)
are_joined (x ∷ xs) b h low = (h.0, are_joined xs b h.1 low)

are_drop : (n : ℕ) (bytes : List ℕ) → AreBytes bytes → AreBytes (drop n bytes)
are_drop zero bytes h = h
are_drop (suc n) [] h = tt
are_drop (suc n) (b ∷ bytes) h = are_drop n bytes h.1

are_take : (n : ℕ) (bytes : List ℕ) → AreBytes bytes → AreBytes (take n bytes)
are_take zero bytes h = tt
are_take (suc n) [] h = tt
are_take (suc n) (b ∷ bytes) h = (h.0, are_take n bytes h.1)

u32_respelled : (o : ByteOrder) (bytes : List ℕ) → length bytes ≡ 4 → AreBytes bytes → u32_bytes o (u32_of o bytes) ≡ bytes
u32_respelled Little bytes size h = le_bytes_4 bytes _ size (byte_at bytes h) refl
u32_respelled Big bytes size h = be_bytes_4 bytes _ size (byte_at bytes h) refl

u16_respelled : (o : ByteOrder) (bytes : List ℕ) → length bytes ≡ 2 → AreBytes bytes → u16_bytes o (u16_of o bytes) ≡ bytes
u16_respelled Little bytes size h = le_bytes_2 bytes _ size (byte_at bytes h) refl
u16_respelled Big bytes size h = be_bytes_2 bytes _ size (byte_at bytes h) refl

u32_fits : (o : ByteOrder) (bytes : List ℕ) → AreBytes bytes → u32_of o bytes < 2 ^ 32
u32_fits Little bytes h = let a = byte_at bytes h 0 in let b = byte_at bytes h 1 in let c = byte_at bytes h 2 in
    let d = byte_at bytes h 3 in omega (arith, a, b, c, d)
u32_fits Big bytes h = let a = byte_at bytes h 0 in let b = byte_at bytes h 1 in let c = byte_at bytes h 2 in
    let d = byte_at bytes h 3 in omega (arith, a, b, c, d)

u16_fits : (o : ByteOrder) (bytes : List ℕ) → AreBytes bytes → u16_of o bytes < 2 ^ 16
u16_fits Little bytes h = let a = byte_at bytes h 0 in let b = byte_at bytes h 1 in omega (arith, a, b)
u16_fits Big bytes h = let a = byte_at bytes h 0 in let b = byte_at bytes h 1 in omega (arith, a, b)

-- the numbers at a place of bytes
module _ (o : ByteOrder) (bytes : List ℕ) (are : AreBytes bytes) (k : ℕ) where
  pub u32_low : u32_at o k bytes < 2 ^ 32
  u32_low = u32_fits o _ (are_take (k + 4 - k) (drop k bytes) (are_drop k bytes are))

  pub u16_low : u16_at o k bytes < 2 ^ 16
  u16_low = u16_fits o _ (are_take (k + 2 - k) (drop k bytes) (are_drop k bytes are))

  -- they are spelled so, and then comes this
  pub u32_as : {word rest : List ℕ} → u32_bytes o (u32_at o k bytes) ≡ word → k + 4 ≤ length bytes → drop (k + 4) bytes ≡ rest → drop k bytes ≡ word ++ rest
  u32_as {word} e size more =
      let left = length-drop k bytes in
      let z : k + 4 - k ≡ 4 = omega arith in
      let same = ap (λ m. u32_bytes o (u32_of o (take m (drop k bytes)))) z ∙ u32_respelled o _ (length-take-le 4 (drop k bytes) (omega (arith, size, left))) (are_take 4 _ (are_drop k bytes are)) in
      sym (take-append-drop 4 (drop k bytes)) ∙ ap (λ l. l ++ drop 4 (drop k bytes)) (sym same ∙ e) ∙ ap (λ l. word ++ l) (drop-drop 4 k bytes ∙ more)

  pub u16_as : {word rest : List ℕ} → u16_bytes o (u16_at o k bytes) ≡ word → k + 2 ≤ length bytes → drop (k + 2) bytes ≡ rest → drop k bytes ≡ word ++ rest
  u16_as {word} e size more =
      let left = length-drop k bytes in
      let z : k + 2 - k ≡ 2 = omega arith in
      let same = ap (λ m. u16_bytes o (u16_of o (take m (drop k bytes)))) z ∙ u16_respelled o _ (length-take-le 2 (drop k bytes) (omega (arith, size, left))) (are_take 2 _ (are_drop k bytes are)) in
      sym (take-append-drop 2 (drop k bytes)) ∙ ap (λ l. l ++ drop 2 (drop k bytes)) (sym same ∙ e) ∙ ap (λ l. word ++ l) (drop-drop 2 k bytes ∙ more)

  -- the last one
  pub u32_ends : {word : List ℕ} → u32_bytes o (u32_at o k bytes) ≡ word → length bytes ≡ k + 4 → drop k bytes ≡ word
  u32_ends {word} e size = u32_as e (omega (arith, size)) (drop_all (k + 4) bytes (omega (arith, size))) ∙ append-nil word

  pub u16_ends : {word : List ℕ} → u16_bytes o (u16_at o k bytes) ≡ word → length bytes ≡ k + 2 → drop k bytes ≡ word
  u16_ends {word} e size = u16_as e (omega (arith, size)) (drop_all (k + 2) bytes (omega (arith, size))) ∙ append-nil word
