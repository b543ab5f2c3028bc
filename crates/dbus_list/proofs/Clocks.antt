-- The time of day is ASCII.
use Rattle.std.proofs.Common.{ℕ, ◌/◌, ◌%◌, ◌<◌, List, [], ◌∷◌, ◌++◌, codes, arith}
use Rattle.std.specs.Str.{IsAscii, IsUtf8}
use Rattle.std.proofs.lemmas.Str.{IsAscii-append, IsUtf8-from_ascii}
use Rattle.std.proofs.lemmas.Str.Ascii.{IsAscii-cons, IsAscii-nil}
use Rattle.dbus_json.specs.Times.{digit_at}
use Rattle.dbus_list.specs.Columns.{clock, three_digits, two_digits}

digit_low : (n power : ℕ) → digit_at n power < 128
digit_low n power = omega arith

two_ascii : (n : ℕ) → IsAscii (two_digits n)
two_ascii n = IsAscii-cons (digit_at n 10) (digit_at n 1 ∷ []) (digit_low n 10) (IsAscii-cons (digit_at n 1) [] (digit_low n 1) IsAscii-nil)

three_ascii : (n : ℕ) → IsAscii (three_digits n)
three_ascii n = IsAscii-cons (digit_at n 100) (two_digits n) (digit_low n 100) (two_ascii n)

-- two digits, a mark and more
behind_two : (n mark : ℕ) (rest : List ℕ) → mark < 128 → IsAscii rest → IsAscii (two_digits n ++ (mark ∷ [] ++ rest))
behind_two n mark rest low more = IsAscii-append (two_digits n) (mark ∷ [] ++ rest) (two_ascii n) (IsAscii-cons mark rest low more)

pub clock_text : (t : ℕ) → IsUtf8 (clock t)
clock_text t =
    let last = three_digits (t / 1000000 % 1000) in
    let seconds = two_digits (t / 1000000000 % 60) ++ (codes "." ++ last) in
    let minutes = two_digits (t / 60000000000 % 60) ++ (codes ":" ++ seconds) in
    IsUtf8-from_ascii (clock t)
    (behind_two (t / 3600000000000 % 24) 58 minutes (omega arith) (behind_two (t / 60000000000 % 60) 58 seconds (omega arith) (behind_two (t / 1000000000 % 60) 46 last (omega arith) (three_ascii (t / 1000000 % 1000)))))
