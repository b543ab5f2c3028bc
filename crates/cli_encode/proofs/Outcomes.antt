-- Lists of outcomes, and one more.
use Rattle.std.proofs.Common.{◌≡◌, ℕ, ◌+◌, Bool, true, false, List, [], ◌∷◌, ◌++◌, length, refl, sym, ap, ◌∙◌, subst, append_assoc, append-nil, arith}
use Rattle.std.specs.Prelude.{◌||◌}
use Rattle.std.proofs.lemmas.List.{same_from_push}
use Rattle.dbus_lines.specs.Lines.{AreLines, BeginsWithLine}
use Rattle.cli_encode.specs.Outcomes.{Outcome, AreOutcomes, EndsAtRefused, IsOutcome, all_bytes, all_text, any_refused, bytes_of, is_refused, serial_after, text_of}
use Rattle.cli_encode.specs.declared.encoding.Encoding.{Encoding}

-- the serial after all
abbrev pub serials_after : List Outcome → ℕ → ℕ
serials_after [] serial = serial
serials_after (o ∷ os) serial = serials_after os (serial_after o serial)

pub serials_push : (os : List Outcome) (o : Outcome) (serial : ℕ) → serials_after (os ++ o ∷ []) serial ≡ serial_after o (serials_after os serial)
serials_push [] o serial = refl
serials_push (x ∷ os) o serial = serials_push os o (serial_after x serial)

pub are_push : (encoding : Encoding) (serial : ℕ) (lines : List (List ℕ)) (os : List Outcome) (line : List ℕ) (o : Outcome) → AreOutcomes encoding serial lines os
    → IsOutcome encoding (serials_after os serial) line o → AreOutcomes encoding serial (lines ++ line ∷ []) (os ++ o ∷ [])
are_push encoding serial [] [] line o h is = (is, tt)
are_push encoding serial [] (x ∷ os) line o h is = absurd h
are_push encoding serial (l ∷ lines) [] line o h is = absurd h
are_push encoding serial (l ∷ lines) (x ∷ os) line o h is = (h.0, are_push encoding (serial_after x serial) lines os line o h.1 is)

pub as_many : (encoding : Encoding) (serial : ℕ) (lines : List (List ℕ)) (os : List Outcome) → AreOutcomes encoding serial lines os → length lines ≡ length os
as_many encoding serial [] [] h = refl
as_many encoding serial [] (x ∷ os) h = absurd h
as_many encoding serial (l ∷ lines) [] h = absurd h
as_many encoding serial (l ∷ lines) (x ∷ os) h = let more = as_many encoding (serial_after x serial) lines os h.1 in omega (arith, more)

pub bytes_push : (os : List Outcome) (o : Outcome) → all_bytes (os ++ o ∷ []) ≡ all_bytes os ++ bytes_of o
bytes_push [] o = append-nil (bytes_of o)
bytes_push (x ∷ os) o = ap (λ l. bytes_of x ++ l) (bytes_push os o) ∙ sym (append_assoc (bytes_of x) (all_bytes os) (bytes_of o))

pub text_push : (n m : ℕ) (os : List Outcome) (o : Outcome) → m ≡ n + length os → all_text n (os ++ o ∷ []) ≡ all_text n os ++ text_of m o
text_push n m [] o e = append-nil (text_of n o) ∙ ap (λ k. text_of k o) (let same : n ≡ m = omega (arith, e) in same)
text_push n m (x ∷ os) o e =
    ap (λ l. text_of n x ++ l) (text_push (n + 1) m os o (let k : m ≡ n + 1 + length os = omega (arith, e) in k)) ∙ sym (append_assoc (text_of n x) (all_text (n + 1) os) (text_of m o))

or_more : (a b c : Bool) → (a || (b || c)) ≡ ((a || b) || c)
or_more true b c = refl
or_more false b c = refl

or_none : (a : Bool) → (a || false) ≡ a
or_none true = refl
or_none false = refl

pub any_push : (os : List Outcome) (o : Outcome) → any_refused (os ++ o ∷ []) ≡ (any_refused os || is_refused o)
any_push [] o = or_none (is_refused o)
any_push (x ∷ os) o = ap (λ b. is_refused x || b) (any_push os o) ∙ or_more (is_refused x) (any_refused os) (is_refused o)

pub ends_push : (keeps_going : Bool) (os : List Outcome) (o : Outcome) → (keeps_going ≡ false → any_refused os ≡ false) → EndsAtRefused keeps_going (os ++ o ∷ [])
ends_push keeps_going os o none = λ stops before last e. subst (λ (l : List Outcome). any_refused l ≡ false) (same_from_push os before o last e).0 (none stops)

pub lines_push : (ended : Bool) (bytes all line left : List ℕ) (lines : List (List ℕ)) → AreLines ended bytes lines all → BeginsWithLine ended all line left
    → AreLines ended bytes (lines ++ line ∷ []) left
lines_push ended bytes all line left [] p b = (left, subst (λ (l : List ℕ). BeginsWithLine ended l line left) (sym p) b, refl)
lines_push ended bytes all line left (l ∷ lines) (more, begins, p) b = (more, begins, lines_push ended more all line left lines p b)
