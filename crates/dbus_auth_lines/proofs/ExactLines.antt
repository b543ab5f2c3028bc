-- The steps of the functions that compare a line with what is written of it.
use Rattle.std.proofs.Common.{◌≡◌, ◌≢◌, inl, inr, ℕ, zero, suc, ◌+◌, ◌*◌, ◌/◌, ◌%◌, ◌<◌, ◌==◌, ◌&&◌, Bool, true, false, List, [], ◌∷◌, ◌++◌, length, map, take, drop, Some, None, refl, sym, ◌∙◌, ap, arith, take-append-drop, if◌then◌else◌, nat_le, nat_lt}
use Rattle.std.specs.Prelude.{bytes_eq, codes, slice_index, Result, Ok, Err, ◌↔◌, IsTrue}
use Rattle.std.specs.Char.{to_ascii_lowercase}
use Rattle.std.proofs.lemmas.Bool.{and_parts, cases_lt, ne_eqb, eq-eqb, eqb-true, false_from_ne_true, false≢true, le-leb, leb-true}
use Rattle.std.proofs.lemmas.Bool.Decides.{nat_tests, same_from_decides}
use Rattle.std.proofs.lemmas.List.{append_cancel_right, take_at}
use Rattle.std.proofs.lemmas.Slice.Eq.{bytes_eq-Decides}
use Rattle.hex.specs.Hex.{IsBytes, decode_of, decode_pairs, encode_lower, encode_with, hex_digit_value, lower_digits, pair_value, value_at, digit_or_error, ◌>>=◌}
use Rattle.hex.specs.declared.error.FromHexError.{FromHexError}
use Rattle.hex.proofs.HexLemmas.{decode_of-even, decode_of-ok}
use Rattle.dbus_auth_lines.specs.ClientCommands.{ClientCommand}
use Rattle.dbus_auth_lines.specs.ClientCommands as client
use Rattle.dbus_auth_lines.specs.ServerCommands.{ServerCommand}
use Rattle.dbus_auth_lines.specs.ServerCommands as server
use Rattle.dbus_auth_lines.specs.Cut.{IsLine}
use Rattle.dbus_auth_lines.specs.LineForms.{HasHex, IsClientLine, IsServerLine, MeansToServer, MeansToClient}
use Rattle.dbus_auth_lines.specs.Lines.{client_line, client_meaning, ended, hex_word, server_line, server_meaning}
use Rattle.dbus_auth_lines.specs.WrittenLines.{is_client_spelled, is_client_text, is_server_spelled, is_server_text, within_limit, client_text_of, server_text_of, HasClientBytes, HasServerBytes, IsExactClientLine, IsExactServerLine}
use Rattle.dbus_auth_lines.proofs.Cuts.{length-ended}
use Rattle.dbus_auth_lines.proofs.RoundTrips.{spelled_by, client_is_line, server_is_line, client_reads, server_reads}
use Rattle.dbus_auth_lines.proofs.Meanings.{client_means, server_means}

-- ---- what follows the first bytes of a text

front_same : (front rest x : List ℕ) → bytes_eq (front ++ rest) (front ++ x) ≡ bytes_eq rest x
front_same [] rest x = refl
front_same (b ∷ bs) rest x = rw (eq-eqb b b refl) (front_same bs rest x)

pub follows : (text front rest : List ℕ) → bytes_eq (take (length front) text) front ≡ true → rest ≡ drop (length front) text → (x : List ℕ) → bytes_eq text (front ++ x) ≡ bytes_eq rest x
follows text front rest same is x =
    let e : text ≡ front ++ rest = sym (take-append-drop (length front) text) ∙ ap (λ (f : List ℕ). f ++ drop (length front) text) ((bytes_eq-Decides (take (length front) text) front).0 same) ∙ ap (λ (r : List ℕ). front ++ r) (sym is) in
    ap (λ (t : List ℕ). bytes_eq t (front ++ x)) e ∙ front_same front rest x

pub follows_not : (text front : List ℕ) → bytes_eq (take (length front) text) front ≡ false → (x : List ℕ) → bytes_eq text (front ++ x) ≡ false
follows_not text front other x =
    false_from_ne_true (bytes_eq text (front ++ x)) (λ h.
    let e : take (length front) text ≡ front = ap (take (length front)) ((bytes_eq-Decides text (front ++ x)).0 h) ∙ take_at front x (length front) refl in
    false≢true (sym other ∙ (bytes_eq-Decides (take (length front) text) front).1 e))

-- ---- bytes that are spelled in hexadecimal, and the same digits in lower case

-- the digit of a value
abbrev spelled : ℕ → ℕ
spelled v = if nat_lt v 10 then v + 48 else v + 87

-- each of the first n digits
abbrev all_spelled : ℕ → Bool
all_spelled zero = true
all_spelled (suc n) = (slice_index lower_digits n == spelled n) && all_spelled n

spelled_at : (n d : ℕ) → all_spelled n ≡ true → d < n → slice_index lower_digits d ≡ spelled d
spelled_at zero d h lt = absurd (omega arith)
spelled_at (suc n) d h lt =
    let p = and_parts (slice_index lower_digits n == spelled n) (all_spelled n) h in
    elim (cases_lt d n) [
      | inl below ↦ spelled_at n d p.1 below
      | inr top ↦ let e : d ≡ n = omega arith in rw e (eqb-true (slice_index lower_digits n) (spelled n) p.0)
    ]

small : (c v : ℕ) → hex_digit_value c ≡ Some v → v < 16
small c v h = grind (arith)

lowers : (c v : ℕ) → hex_digit_value c ≡ Some v → spelled v ≡ to_ascii_lowercase c
lowers c v h = grind (arith, nat_tests)

digit_lower : (c v : ℕ) → hex_digit_value c ≡ Some v → slice_index lower_digits v ≡ to_ascii_lowercase c
digit_lower c v h = spelled_at 16 v refl (small c v h) ∙ lowers c v h

bind_ok : {A B : Type 0} (r : Result A FromHexError) (f : A → Result B FromHexError) (y : B) → (r >>= f) ≡ Ok y → (x : A) × (r ≡ Ok x) × (f x ≡ Ok y)
bind_ok (Ok x) f y h = (x, refl, h)
bind_ok (Err e) f y h = cc h

digit_read : (c i : ℕ) (o : _) (v : ℕ) → digit_or_error c i o ≡ Ok v → o ≡ Some v
digit_read c i (Some w) v h = let same : w ≡ v = cc in ap Some same
digit_read c i None v h = cc h

pairs_lower : (i : ℕ) (s bytes : List ℕ) → decode_pairs i s ≡ Ok bytes → encode_lower bytes ≡ map to_ascii_lowercase s
unfolding decode_pairs encode_with
pairs_lower i [] bytes h = let e : bytes ≡ [] = cc in rw e refl
pairs_lower i (a ∷ []) bytes h = cc h
pairs_lower i (a ∷ b ∷ rest) bytes h =
    let p0 = bind_ok (pair_value a b i) _ bytes h in
    let p1 = bind_ok (value_at a i) _ p0.0 p0.1 in
    let p2 = bind_ok (value_at b (i + 1)) _ p0.0 p1.2 in
    let p3 = bind_ok (decode_pairs (i + 2) rest) _ bytes p0.2 in
    let whole : bytes ≡ p0.0 ∷ p3.0 = cc in
    let byte : p0.0 ≡ p1.0 * 16 + p2.0 = cc in
    let va = digit_read a i (hex_digit_value a) p1.0 p1.1 in
    let vb = digit_read b (i + 1) (hex_digit_value b) p2.0 p2.1 in
    let sb = small b p2.0 vb in
    let high : p0.0 / 16 ≡ p1.0 = omega (arith, byte, sb) in
    let low : p0.0 % 16 ≡ p2.0 = omega (arith, byte, sb) in
    rw (whole, high, low, digit_lower a p1.0 va, digit_lower b p2.0 vb, pairs_lower (i + 2) rest p3.0 p3.1) refl

text_lower : (digits bytes : List ℕ) → decode_of digits ≡ Ok bytes → encode_lower bytes ≡ map to_ascii_lowercase digits
text_lower digits bytes h =
    let even : length digits % 2 ≡ 0 = (decode_of-ok digits bytes h).0 in
    pairs_lower 0 digits bytes (sym (decode_of-even digits even) ∙ h)

pub hex_word_is : (digits bytes : List ℕ) → digits ≢ [] → decode_of digits ≡ Ok bytes → hex_word bytes ≡ 32 ∷ map to_ascii_lowercase digits
hex_word_is [] bytes some h = absurd (some refl)
hex_word_is (d ∷ ds) [] some h = absurd (omega (arith, (decode_of-ok (d ∷ ds) [] h).2))
hex_word_is (d ∷ ds) (b ∷ bs) some h = ap (λ (x : List ℕ). 32 ∷ x) (text_lower (d ∷ ds) (b ∷ bs) h)

pub no_hex_word : (digits bytes : List ℕ) → length digits ≡ 0 → decode_of digits ≡ Ok bytes → hex_word bytes ≡ []
no_hex_word digits [] none h = refl
no_hex_word digits (b ∷ bs) none h = absurd (omega (arith, none, (decode_of-ok digits (b ∷ bs) h).2))

-- what a test for no digits tells
pub some_digits : (digits bytes : List ℕ) (none : Bool) → none ≡ (length digits == 0) → none ≡ false → decode_of digits ≡ Ok bytes → hex_word bytes ≡ 32 ∷ map to_ascii_lowercase digits
some_digits digits bytes none is some h = hex_word_is digits bytes (λ e. false≢true (sym some ∙ is ∙ ap (λ (d : List ℕ). length d == 0) e)) h

pub no_digits : (text digits bytes : List ℕ) (none empty : Bool) → none ≡ (length digits == 0) → none ≡ true → empty ≡ (length text == 0) → decode_of digits ≡ Ok bytes → empty ≡ bytes_eq text (hex_word bytes)
no_digits text digits bytes none empty is some tests h =
    tests ∙ empty_text text ∙ sym (ap (bytes_eq text) (no_hex_word digits bytes (eqb-true (length digits) 0 (sym is ∙ some)) h))
  where
    empty_text : (t : List ℕ) → (length t == 0) ≡ bytes_eq t []
    empty_text [] = refl
    empty_text (b ∷ bs) = ne_eqb (length (b ∷ bs)) 0 (λ e. absurd (omega (arith, e)))

-- ---- a word in lower case

lower_again : (c : ℕ) → to_ascii_lowercase (to_ascii_lowercase c) ≡ to_ascii_lowercase c
lower_again c = grind (arith, nat_tests)

all_lower_again : (xs : List ℕ) → map to_ascii_lowercase (map to_ascii_lowercase xs) ≡ map to_ascii_lowercase xs
all_lower_again [] = refl
all_lower_again (c ∷ cs) = rw (lower_again c, all_lower_again cs) refl

pub lower_is : (word digits : List ℕ) (r : Bool) → map to_ascii_lowercase word ≡ word → IsTrue r ↔ (map to_ascii_lowercase word ≡ map to_ascii_lowercase digits) → r ≡ bytes_eq word (map to_ascii_lowercase digits)
lower_is word digits r low same =
    same_from_decides r (bytes_eq word (map to_ascii_lowercase digits))
    (λ h. sym low ∙ same.0 h, λ e. same.1 (low ∙ e))
    (bytes_eq-Decides word (map to_ascii_lowercase digits))

pub lower_is_not : (word digits : List ℕ) (r : Bool) → r ≡ false → IsTrue r ↔ (map to_ascii_lowercase word ≡ word) → r ≡ bytes_eq word (map to_ascii_lowercase digits)
lower_is_not word digits r not low =
    not ∙ sym (false_from_ne_true (bytes_eq word (map to_ascii_lowercase digits)) (λ h.
    let e : word ≡ map to_ascii_lowercase digits = (bytes_eq-Decides word (map to_ascii_lowercase digits)).0 h in
    false≢true (sym not ∙ low.1 (ap (map to_ascii_lowercase) e ∙ all_lower_again digits ∙ sym e))))

-- ---- an exact line

exact_by : (spells : Bool) (line written : List ℕ) → IsTrue (nat_le (length line) 16382 && (spells && bytes_eq line written)) ↔ ((if spells then within_limit (ended written) else None) ≡ Some (ended line))
exact_by spells line written = (
  λ h.
      let p = and_parts (nat_le (length line) 16382) (spells && bytes_eq line written) h in
      let q = and_parts spells (bytes_eq line written) p.1 in
      let same : line ≡ written = (bytes_eq-Decides line written).0 q.1 in
      let fits : nat_le (length (ended line)) 16384 ≡ true = le-leb (length (ended line)) 16384 (omega (arith, length-ended line, leb-true (length line) 16382 p.0)) in
      rw (q.0, ← same, fits) refl,
  λ h.
      let s = spelled_by spells written (ended line) h in
      let same : line ≡ written = append_cancel_right line written (13 ∷ 10 ∷ []) s.1 in
      rw (le-leb (length line) 16382 (omega (arith, s.2, length-ended written, ap length same)), s.0) ((bytes_eq-Decides line written).1 same),
)

-- of a line that is short, by what the test of its text answers
exact_if : (spells text short : Bool) (line written : List ℕ) → short ≡ nat_le (length line) 16382 → short ≡ true → text ≡ (spells && bytes_eq line written)
    → IsTrue text ↔ ((if spells then within_limit (ended written) else None) ≡ Some (ended line))
exact_if spells text short line written is shorter tests =
    let exact = exact_by spells line written in
    let fits : nat_le (length line) 16382 ≡ true = sym is ∙ shorter in (
      λ h. exact.0 (rw fits (sym tests ∙ h)),
      λ h. tests ∙ (and_parts (nat_le (length line) 16382) (spells && bytes_eq line written) (exact.1 h)).1,
    )

pub exact_client : (line : List ℕ) (short text : Bool) → short ≡ nat_le (length line) 16382 → short ≡ true → text ≡ is_client_text line (client_meaning line) → IsTrue text ↔ IsExactClientLine line
exact_client line short text = exact_if (is_client_spelled (client_meaning line)) text short line (client_line (client_meaning line))

pub exact_server : (line : List ℕ) (short text : Bool) → short ≡ nat_le (length line) 16382 → short ≡ true → text ≡ is_server_text line (server_meaning line) → IsTrue text ↔ IsExactServerLine line
exact_server line short text = exact_if (is_server_spelled (server_meaning line)) text short line (server_line (server_meaning line))

-- ---- what is written is exact, and nothing else is

same_line : (a b : List ℕ) → ended a ≡ ended b → a ≡ b
same_line a b e = append_cancel_right a b (13 ∷ 10 ∷ []) e

pub written_to_server : (c : ClientCommand) (line : List ℕ) → HasClientBytes c → client_text_of c ≡ Some (ended line) → IsExactClientLine line
written_to_server c line k h =
    let s = spelled_by (is_client_spelled c) (client_line c) (ended line) h in
    let same : client_meaning line ≡ c = ap client_meaning (same_line line (client_line c) s.1) ∙ client_reads c k s.0 in
    rw same h

pub written_to_client : (c : ServerCommand) (line : List ℕ) → HasServerBytes c → server_text_of c ≡ Some (ended line) → IsExactServerLine line
written_to_client c line k h =
    let s = spelled_by (is_server_spelled c) (server_line c) (ended line) h in
    let same : server_meaning line ≡ c = ap server_meaning (same_line line (server_line c) s.1) ∙ server_reads c k s.0 in
    rw same h

one_text : (a b : List ℕ) → Some (ended a) ≡ Some (ended b) → a ≡ b
one_text a b h = let e : ended a ≡ ended b = cc in same_line a b e

pub one_client_line : (a b : List ℕ) → IsExactClientLine a → IsExactClientLine b → client_meaning a ≡ client_meaning b → a ≡ b
one_client_line a b h k e = one_text a b (sym h ∙ ap client_text_of e ∙ k)

pub one_server_line : (a b : List ℕ) → IsExactServerLine a → IsExactServerLine b → server_meaning a ≡ server_meaning b → a ≡ b
one_server_line a b h k e = one_text a b (sym h ∙ ap server_text_of e ∙ k)

-- ---- an exact line is a line

hex_bytes : (line name bytes : List ℕ) (ws : List (List ℕ)) → HasHex line name ws bytes → IsBytes bytes
hex_bytes line name bytes ws (inl h) = rw h.0 (λ i. omega arith)
hex_bytes line name bytes ws (inr h) = (decode_of-ok h.0 bytes h.1.0).3

client_bytes : (line : List ℕ) (c : ClientCommand) → IsClientLine line c → HasClientBytes c
client_bytes line client.Auth h = tt
client_bytes line (client.AuthBy mech response) h = hex_bytes line (codes "AUTH") response (mech ∷ []) h
client_bytes line client.Cancel h = tt
client_bytes line client.Begin h = tt
client_bytes line (client.DataOf bytes) h = hex_bytes line (codes "DATA") bytes [] h
client_bytes line (client.Error text) h = tt
client_bytes line client.Negotiate h = tt
client_bytes line client.Other h = tt

server_bytes : (line : List ℕ) (c : ServerCommand) → IsServerLine line c → HasServerBytes c
server_bytes line (server.Rejected ws) h = tt
server_bytes line (server.Accepted guid) h =
    let d = decode_of-ok h.0 guid h.1.1.0 in (omega (arith, h.1.0, d.2), d.3)
server_bytes line (server.DataOf bytes) h = hex_bytes line (codes "DATA") bytes [] h
server_bytes line (server.Error text) h = tt
server_bytes line server.Agree h = tt
server_bytes line server.Other h = tt

client_meant : (line : List ℕ) → MeansToServer line (client_meaning line) → HasClientBytes (client_meaning line)
client_meant line (inl h) = client_bytes line (client_meaning line) h
client_meant line (inr h) = rw h.0 tt

server_meant : (line : List ℕ) → MeansToClient line (server_meaning line) → HasServerBytes (server_meaning line)
server_meant line (inl h) = server_bytes line (server_meaning line) h
server_meant line (inr h) = rw h.0 tt

pub exact_is_line_of_client : (line : List ℕ) → IsExactClientLine line → IsLine line
exact_is_line_of_client line h =
    let c = client_meaning line in
    let k = client_meant line ((client_means line c).1 refl) in
    let s = spelled_by (is_client_spelled c) (client_line c) (ended line) h in
    rw (same_line line (client_line c) s.1) (client_is_line c k s.0 (omega (arith, s.2, length-ended (client_line c))))

pub exact_is_line_of_server : (line : List ℕ) → IsExactServerLine line → IsLine line
exact_is_line_of_server line h =
    let c = server_meaning line in
    let k = server_meant line ((server_means line c).1 refl) in
    let s = spelled_by (is_server_spelled c) (server_line c) (ended line) h in
    rw (same_line line (server_line c) s.1) (server_is_line c k s.0 (omega (arith, s.2, length-ended (server_line c))))
