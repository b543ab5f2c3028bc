-- The steps of the functions that find words.
use Rattle.std.proofs.Common.{◌≡◌, ◌≢◌, ℕ, ◌+◌, ◌-◌, ◌<◌, ◌≤◌, ◌==◌, Bool, true, false, cond, List, [], ◌∷◌, length, take, drop, get_or, refl, sym, ◌∙◌, ap, subst, arith, length-drop, length-take, map, nat_eq}
use Rattle.std.proofs.lemmas.Bool.{ne_eqb, false≢true, false_from_ne_true}
use Rattle.std.proofs.lemmas.List.{at_drop_more, at_drop_all, take_all, drop-drop, get_or-drop}
use Rattle.std.specs.Prelude.{Vec}
use Rattle.std.specs.Bool.{Decides}
use Rattle.std.specs.Cmp.Lexicographic.{pointwise, pointwise_decides, bytes_decides}
use Rattle.std.specs.Cmp.Derive.Mapped.{pointwise-map}
use Rattle.std.specs.List.{AllZip, each_same}
use Rattle.dbus_auth_lines.specs.Lines.{command_name, words, at_word_end, onto_first}
use Rattle.dbus_auth_lines.specs.WordPlaces.{AreNextWords, IsNextWord}

command_next : (b : ℕ) (bs : List ℕ) → (b ≡ 32 → ⊥) → length (command_name (b ∷ bs)) ≡ length (command_name bs) + 1
unfolding command_name
command_next b bs h = let e : (b == 32) ≡ false = ne_eqb b 32 h in rw e (omega arith)

command_off : (b : ℕ) (bs : List ℕ) → b ≡ 32 → command_name (b ∷ bs) ≡ []
unfolding command_name
command_off b bs h = rw h refl

pub command_on : (xs : List ℕ) (i : ℕ) → i < length xs → (get_or xs i 0 ≡ 32 → ⊥) → length (command_name (drop i xs)) ≡ length (command_name (drop (i + 1) xs)) + 1
command_on xs i lt h = at_drop_more (λ (ys : List ℕ). length (command_name ys)) xs i 0 lt ∙ command_next (get_or xs i 0) (drop (i + 1) xs) h

pub command_stops : (xs : List ℕ) (i : ℕ) → i < length xs → get_or xs i 0 ≡ 32 → length (command_name (drop i xs)) ≡ 0
command_stops xs i lt h = at_drop_more (λ (ys : List ℕ). length (command_name ys)) xs i 0 lt ∙ ap length (command_off (get_or xs i 0) (drop (i + 1) xs) h)

pub take_command_name : (xs : List ℕ) → take (length (command_name xs)) xs ≡ command_name xs
unfolding command_name
take_command_name [] = refl
take_command_name (b ∷ bs) = by_test (b == 32) (take_command_name bs)
  where
    by_test : (t : Bool) → take (length (command_name bs)) bs ≡ command_name bs → take (length (cond t [] (b ∷ command_name bs))) (b ∷ bs) ≡ cond t [] (b ∷ command_name bs)
    by_test true h = refl
    by_test false h = ap (λ (x : List ℕ). b ∷ x) h

pub words_space : (b : ℕ) (bs : List ℕ) → b ≡ 32 → words (b ∷ bs) ≡ words bs
unfolding words
words_space b bs h = rw h refl

pub words_more : (xs : List ℕ) (i : ℕ) → i < length xs → get_or xs i 0 ≡ 32 → words (drop i xs) ≡ words (drop (i + 1) xs)
words_more xs i lt h = at_drop_more words xs i 0 lt ∙ words_space (get_or xs i 0) (drop (i + 1) xs) h

pub command_is : (b : ℕ) (bs : List ℕ) → (b == 32) ≡ false → command_name (b ∷ bs) ≡ b ∷ command_name bs
unfolding command_name
command_is b bs e = rw e refl

pub word_end : (b : ℕ) (bs : List ℕ) → (b == 32) ≡ false → at_word_end bs ≡ true → words (b ∷ bs) ≡ (b ∷ []) ∷ words bs
unfolding words
word_end b bs e f = rw (e, f) refl

pub word_goes_on : (b : ℕ) (bs : List ℕ) → (b == 32) ≡ false → at_word_end bs ≡ false → words (b ∷ bs) ≡ onto_first b (words bs)
unfolding words
word_goes_on b bs e f = rw (e, f) refl

pub no_command : (bs : List ℕ) → at_word_end bs ≡ true → command_name bs ≡ []
unfolding command_name
no_command [] e = refl
no_command (b ∷ bs) e = rw e refl

pub command_all : (xs : List ℕ) (i : ℕ) → length xs ≤ i → length (command_name (drop i xs)) ≡ 0
command_all xs i le = at_drop_all (λ (ys : List ℕ). length (command_name ys)) xs i le ∙ ap length (no_command [] refl)

-- the first n bytes are a word, and the others give the other words
abbrev IsWordAt : List ℕ → List ℕ → Type 0
IsWordAt xs w = words xs ≡ take (length w) xs ∷ words (drop (length w) xs)

-- a text that begins with a word
word_first : (xs : List ℕ) → at_word_end xs ≡ false → IsWordAt xs (command_name xs)
word_first [] h = absurd (false≢true (sym h))
word_first (b ∷ bs) h = by_next (at_word_end bs) refl (λ e. word_first bs e)
  where
    by_next : (t : Bool) → at_word_end bs ≡ t → (at_word_end bs ≡ false → IsWordAt bs (command_name bs)) → IsWordAt (b ∷ bs) (command_name (b ∷ bs))
    by_next true e others = rw (command_is b bs h, no_command bs e) (word_end b bs h e)
    by_next false e others = rw (command_is b bs h) (word_goes_on b bs h e ∙ ap (onto_first b) (others e))

pub words_none : (xs : List ℕ) → length xs ≡ 0 → words xs ≡ []
unfolding words
words_none [] h = refl
words_none (x ∷ xs) h = absurd (omega (arith, h))

pub rest_is : (xs : List ℕ) (n m : ℕ) → m ≡ length xs - n → take m (drop n xs) ≡ drop n xs
rest_is xs n m rest = take_all m (drop n xs) (omega (arith, length-drop n xs))

-- all bytes from a place on
whole_rest : (line : List ℕ) (at n : ℕ) → at + n ≡ length line → take n (drop at line) ≡ drop at line
whole_rest line at n end = take_all n (drop at line) (omega (arith, length-drop at line))

-- cut where the first word ends
pub word_cut : (line : List ℕ) (from at n k : ℕ) → words (take n (drop at line)) ≡ words (drop from line) → (at_word_end (take n (drop at line)) ≡ true → n ≡ 0)
    → at + n ≡ length line → (n ≡ 0 → ⊥) → k ≡ length (command_name (drop at line)) → words (drop from line) ≡ take k (drop at line) ∷ words (drop (at + k) line)
word_cut line from at n k same starts end some is =
    let all = whole_rest line at n end in
    let e = word_first (drop at line) (false_from_ne_true (at_word_end (drop at line)) (λ h. some (starts (ap at_word_end all ∙ h)))) in
    sym same ∙ ap words all ∙ rw (is, ← drop-drop (length (command_name (drop at line))) at line) e

pub no_words : (line : List ℕ) (from at n : ℕ) → words (take n (drop at line)) ≡ words (drop from line) → n ≡ 0 → words (drop from line) ≡ []
no_words line from at n same none = sym same ∙ words_none (take n (drop at line)) (omega (arith, length-take n (drop at line)))

pub words_at : (line : List ℕ) (from k n : ℕ) → words (drop k (drop from line)) ≡ words (drop from line) → from + k + n ≡ length line → words (take n (drop (from + k) line)) ≡ words (drop from line)
words_at line from k n same end = ap words (whole_rest line (from + k) n end ∙ sym (drop-drop k from line)) ∙ same

pub starts_at : (line : List ℕ) (from k n : ℕ) → (at_word_end (drop k (drop from line)) ≡ true → k ≡ length (drop from line)) → from + k + n ≡ length line
    → at_word_end (take n (drop (from + k) line)) ≡ true → n ≡ 0
starts_at line from k n starts end h =
    let all = starts (ap at_word_end (drop-drop k from line ∙ sym (whole_rest line (from + k) n end)) ∙ h) in omega (arith, length-drop from line)

-- ---- where words are

-- the bytes of a line, found from one of them on
module _ (line : List ℕ) (from : ℕ) (rest : List ℕ) (is : rest ≡ drop from line) where
  rest_length : length rest ≡ length line - from
  rest_length = ap length is ∙ length-drop from line

  byte_from : (P : ℕ → Type 0) (i k : ℕ) → P (get_or rest i 0) → k ≡ from + i → P (get_or line k 0)
  byte_from P i k h e = subst P (ap (λ (xs : List ℕ). get_or xs i 0) is ∙ get_or-drop from line i 0 ∙ ap (λ n. get_or line n 0) (sym e)) h

  bytes_from : (P : ℕ → Type 0) (n : ℕ) → ((i : ℕ) → i < n → P (get_or rest i 0)) → (k : ℕ) → from ≤ k → k < from + n → P (get_or line k 0)
  bytes_from P n each k le lt = byte_from P (k - from) k (each (k - from) (omega arith)) (omega arith)

pub next_words_at : (line rest : List ℕ) (from k n : ℕ) → rest ≡ drop from line → ((i : ℕ) → i < k → get_or rest i 0 ≡ 32) → (k < length rest → get_or rest k 0 ≢ 32)
    → from ≤ length line → k ≤ length rest → n ≡ length line - (from + k) → AreNextWords line from (record { at = from + k; length = n })
next_words_at line rest from k n is spaces begins within le end = record {
  follows = omega arith;
  to_end = omega (arith, rest_length line from rest is);
  after_spaces = bytes_from line from rest is (λ b. b ≡ 32) k spaces;
  begins = λ some. byte_from line from rest is (λ b. b ≢ 32) k (from + k) (begins (omega (arith, rest_length line from rest is))) refl;
}

pub next_word_at : (line rest : List ℕ) (from at n k : ℕ) → rest ≡ drop at line → AreNextWords line from (record { at = at; length = n }) → (n ≡ 0 → ⊥)
    → ((i : ℕ) → i < k → get_or rest i 0 ≢ 32) → (k < length rest → get_or rest k 0 ≡ 32) → k ≤ length rest → IsNextWord line from (record { at = at; length = k })
next_word_at line rest from at n k is left some word stops le =
    let all : length rest ≡ n = omega (arith, rest_length line at rest is, left.to_end) in
    let has : k ≡ 0 → ⊥ = λ none. left.begins (omega arith) (byte_from line at rest is (λ b. b ≡ 32) k at (stops (omega arith)) (omega arith)) in
    record {
      follows = left.follows;
      within = omega (arith, left.to_end);
      after_spaces = left.after_spaces;
      some = omega arith;
      no_space = bytes_from line at rest is (λ b. b ≢ 32) k word;
      ends = λ lt. byte_from line at rest is (λ b. b ≡ 32) k (at + k) (stops (omega (arith, left.to_end))) refl;
    }

-- Bytes and words of a line that are compared or copied.

pub bytes_copied : (bs copies : List ℕ) → AllZip (λ b d. d ≡ b) bs copies → copies ≡ bs
bytes_copied bs copies h = each_same bs copies h

-- copies of words are the same words
pub words_copied : {Z : Type 0} (ws copies : List (Vec ℕ Z))
    → AllZip (λ w c. AllZip (λ b d. d ≡ b) w.items c.items × (c.len ≡ w.len)) ws copies
    → map (λ w. w.items) copies ≡ map (λ w. w.items) ws
words_copied [] [] h = refl
words_copied [] (c ∷ cs) h = absurd h
words_copied (w ∷ ws) [] h = absurd h
words_copied (w ∷ ws) (c ∷ cs) h =
    ap (λ (i : List ℕ). i ∷ map (λ v. v.items) cs) (each_same w.items c.items h.0.0)
    ∙ ap (λ (r : List (List ℕ)). w.items ∷ r) (words_copied ws cs h.1)

-- words are equal exactly where their bytes are
pub words_equal : {Z : Type 0} (ws vs : List (Vec ℕ Z))
    → Decides (pointwise (λ w v. pointwise nat_eq w.items v.items) ws vs) (map (λ w. w.items) ws ≡ map (λ v. v.items) vs)
words_equal ws vs =
    let P : Bool → Type 0 = λ t. Decides t (map (λ w. w.items) ws ≡ map (λ v. v.items) vs) in
    subst P (pointwise-map (λ w. w.items) (pointwise nat_eq) ws vs) (pointwise_decides bytes_decides (map (λ w. w.items) ws) (map (λ v. v.items) vs))
