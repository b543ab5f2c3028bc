-- The words that a text is read as are those that stand in it after spaces.
use Rattle.std.proofs.Common.{◌≡◌, ℕ, zero, suc, ◌==◌, Bool, true, false, cond, List, [], ◌∷◌, ◌++◌, length, drop, refl, sym, ◌∙◌, ap, subst, take-append-drop}
use Rattle.std.proofs.lemmas.Bool.{ne_eqb, eqb-true, eqb-false}
use Rattle.std.specs.List.{AllByRecursion}
use Rattle.dbus_auth_lines.specs.Lines.{command_name, words, arguments, at_word_end, onto_first}
use Rattle.dbus_auth_lines.specs.LineForms.{IsNoSpace, IsWord, spaces, HasWords, HasForm}
use Rattle.dbus_auth_lines.proofs.Spaces.{take_command_name, word_end, word_goes_on, words_space, words_none}

-- ---- a text of words is read as them

words_after : (n : ℕ) (text : List ℕ) → words (spaces n ++ text) ≡ words text
words_after zero text = refl
words_after (suc n) text = words_space 32 (spaces n ++ text) refl ∙ words_after n text

words_spaces : (n : ℕ) → words (spaces n) ≡ []
words_spaces zero = words_none [] refl
words_spaces (suc n) = words_space 32 (spaces n) refl ∙ words_spaces n

spaces_end : (n : ℕ) → at_word_end (spaces n) ≡ true
spaces_end zero = refl
spaces_end (suc n) = refl

pub ends_word : (ws : List (List ℕ)) (text : List ℕ) → HasWords text ws → at_word_end text ≡ true
ends_word [] text h = ap at_word_end h.1 ∙ spaces_end h.0
ends_word (w ∷ ws) text h = ap at_word_end h.1.1.0

word_bytes : (b : ℕ) (bs rest : List ℕ) → AllByRecursion IsNoSpace (b ∷ bs) → at_word_end rest ≡ true → words ((b ∷ bs) ++ rest) ≡ (b ∷ bs) ∷ words rest
word_bytes b [] rest h e = word_end b rest (ne_eqb b 32 h.0) e
word_bytes b (c ∷ cs) rest h e = word_goes_on b (c ∷ cs ++ rest) (ne_eqb b 32 h.0) (ne_eqb c 32 h.1.0) ∙ ap (onto_first b) (word_bytes c cs rest h.1 e)

one_word : (w rest : List ℕ) → IsWord w → at_word_end rest ≡ true → words (w ++ rest) ≡ w ∷ words rest
one_word [] rest h e = absurd (h.some refl)
one_word (b ∷ bs) rest h e = word_bytes b bs rest h.no_space e

pub words_of : (ws : List (List ℕ)) (text : List ℕ) → HasWords text ws → words text ≡ ws
words_of [] text h = ap words h.1 ∙ words_spaces h.0
words_of (w ∷ ws) text h =
    let rest = h.1.0 in
    let more = h.1.1.1.1 in
    ap words h.1.1.0 ∙ words_space 32 (spaces h.0 ++ (w ++ rest)) refl ∙ words_after h.0 (w ++ rest) ∙ one_word w rest h.1.1.1.0 (ends_word ws rest more) ∙ ap (λ (x : List (List ℕ)). w ∷ x) (words_of ws rest more)

-- ---- each text after a word is one of words

-- a text that begins in a word
record MidWord (text : List ℕ) : Type 0 where
  first : List ℕ
  rest : List ℕ
  others : List (List ℕ)
  is : text ≡ first ++ rest
  word : IsWord first
  after : HasWords rest others
  reads : words text ≡ first ∷ others

abbrev IsRead : List ℕ → Bool → Type 0
IsRead text true = HasWords text (words text)
IsRead text false = MidWord text

one_space : (ws : List (List ℕ)) (text : List ℕ) → HasWords text ws → HasWords (32 ∷ text) ws
one_space [] text h = (suc h.0, ap (λ (x : List ℕ). 32 ∷ x) h.1)
one_space (w ∷ ws) text h = (suc h.0, (h.1.0, (ap (λ (x : List ℕ). 32 ∷ x) h.1.1.0, h.1.1.1)))

space_first : (text : List ℕ) (t : Bool) → IsRead text t → HasWords (32 ∷ text) (words (32 ∷ text))
space_first text true r =
    let P : List (List ℕ) → Type 0 = HasWords (32 ∷ text) in subst P (sym (words_space 32 text refl)) (one_space (words text) text r)
space_first text false m =
    let P : List (List ℕ) → Type 0 = HasWords (32 ∷ text) in
    subst P (sym (words_space 32 text refl ∙ m.reads)) (0, (m.rest, (ap (λ (x : List ℕ). 32 ∷ x) m.is, (m.word, m.after))))

by_byte : (b : ℕ) (text : List ℕ) (s : Bool) → (b == 32) ≡ s → (t : Bool) → at_word_end text ≡ t → IsRead text t → IsRead (b ∷ text) s
by_byte b text true e t f r = let P : ℕ → Type 0 = λ c. IsRead (c ∷ text) true in subst P (sym (eqb-true b 32 e)) (space_first text t r)
by_byte b text false e true f r = record {
  first = b ∷ [];
  rest = text;
  others = words text;
  is = refl;
  word = record { some = λ h. (let x : b ∷ [] ≡ [] = h in cc); no_space = (eqb-false b 32 e, tt) };
  after = r;
  reads = word_end b text e f;
}
by_byte b text false e false f m = record {
  first = b ∷ m.first;
  rest = m.rest;
  others = m.others;
  is = ap (λ (x : List ℕ). b ∷ x) m.is;
  word = record { some = λ h. (let x : b ∷ m.first ≡ [] = h in cc); no_space = (eqb-false b 32 e, m.word.no_space) };
  after = m.after;
  reads = word_goes_on b text e f ∙ ap (onto_first b) m.reads;
}

is_read : (text : List ℕ) → IsRead text (at_word_end text)
unfolding words
is_read [] = (0, refl)
is_read (b ∷ text) = by_byte b text (b == 32) refl (at_word_end text) refl (is_read text)

-- ---- a line is its name and words

tail_ends : (line : List ℕ) → at_word_end (drop (length (command_name line)) line) ≡ true
unfolding command_name
tail_ends [] = refl
tail_ends (b ∷ bs) = by_test (b == 32) refl (tail_ends bs)
  where
    by_test : (t : Bool) → (b == 32) ≡ t → at_word_end (drop (length (command_name bs)) bs) ≡ true → at_word_end (drop (length (cond t [] (b ∷ command_name bs))) (b ∷ bs)) ≡ true
    by_test true e h = e
    by_test false e h = h

pub form_of : (line name : List ℕ) → command_name line ≡ name → HasForm line name (arguments line)
unfolding arguments
form_of line name e =
    let tail = drop (length (command_name line)) line in
    let P : Bool → Type 0 = IsRead tail in (
      tail,
      (
        sym (take-append-drop (length (command_name line)) line) ∙ ap (λ (x : List ℕ). x ++ tail) (take_command_name line ∙ e),
        subst P (tail_ends line) (is_read tail),
      ),
    )

-- a text at the end of a word is empty or begins with a space
pub by_end : (P : List ℕ → Type 0) → P [] → ((rest : List ℕ) → P (32 ∷ rest)) → (text : List ℕ) → at_word_end text ≡ true → P text
by_end P none space [] e = none
by_end P none space (b ∷ bs) e = let Q : ℕ → Type 0 = λ c. P (c ∷ bs) in subst Q (sym (eqb-true b 32 e)) (space bs)
