-- Numbers that are read where they were written.
use Rattle.std.proofs.Common.{◌≡◌, ℕ, ◌+◌, ◌-◌, ◌<◌, ◌≤◌, ◌^◌, List, ◌++◌, length, take, drop, refl, sym, ap, ◌∙◌, arith}
use Rattle.std.specs.List.{slice_range}
use Rattle.std.proofs.lemmas.List.{take_all, drop_at, length-drop, drop-append-le, take-append-le}
use Rattle.std.proofs.lemmas.Nat.{from_le_bytes-to_le_bytes_4, from_be_bytes-to_be_bytes_4, from_le_bytes-to_le_bytes_2, from_be_bytes-to_be_bytes_2}
use Rattle.dbus_capture.specs.Types.{ByteOrder, Little, Big}
use Rattle.dbus_capture.specs.Numbers.{u32_of, u16_of, u32_bytes, u16_bytes, u32_at}

pub u32_size : (o : ByteOrder) (n : ℕ) → length (u32_bytes o n) ≡ 4
u32_size Little n = refl
u32_size Big n = refl

pub u16_size : (o : ByteOrder) (n : ℕ) → length (u16_bytes o n) ≡ 2
u16_size Little n = refl
u16_size Big n = refl

pub u32_again : (o : ByteOrder) (n : ℕ) → n < 2 ^ 32 → u32_of o (u32_bytes o n) ≡ n
u32_again Little n h = from_le_bytes-to_le_bytes_4 n h
u32_again Big n h = from_be_bytes-to_be_bytes_4 n h

pub u16_again : (o : ByteOrder) (n : ℕ) → n < 2 ^ 16 → u16_of o (u16_bytes o n) ≡ n
u16_again Little n h = from_le_bytes-to_le_bytes_2 n h
u16_again Big n h = from_be_bytes-to_be_bytes_2 n h

-- the last part
pub u32_last : (o : ByteOrder) (front : List ℕ) (n k : ℕ) → length front ≡ k → n < 2 ^ 32 → u32_at o k (front ++ u32_bytes o n) ≡ n
u32_last o front n k f h =
    let size : k + 4 - k ≡ 4 = omega arith in
    ap (u32_of o) (ap (λ m. take m (drop k (front ++ u32_bytes o n))) size ∙ ap (take 4) (drop_at front (u32_bytes o n) k f) ∙ take_all 4 (u32_bytes o n) (let z = u32_size o n in omega (arith, z))) ∙ u32_again o n h

-- ---- in front of more bytes

part_of_front : (front more : List ℕ) (k n : ℕ) → k + n ≤ length front → slice_range (front ++ more) k (k + n) ≡ slice_range front k (k + n)
part_of_front front more k n h =
    let size : k + n - k ≡ n = omega arith in
    let left = length-drop k front in
    ap (λ m. take m (drop k (front ++ more))) size ∙ ap (take n) (drop-append-le k front more (omega (arith, h)))
    ∙ take-append-le n (drop k front) more (omega (arith, h, left)) ∙ ap (λ m. take m (drop k front)) (sym size)

pub u32_in_front : (o : ByteOrder) (front more : List ℕ) (k : ℕ) → k + 4 ≤ length front → u32_at o k (front ++ more) ≡ u32_at o k front
u32_in_front o front more k h = ap (u32_of o) (part_of_front front more k 4 h)
