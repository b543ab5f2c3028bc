-- The types that a text spells, read back.
use Rattle.std.proofs.Common.{◌≡◌, ℕ, zero, suc, ◌+◌, ◌<◌, ◌≤◌, Bool, true, false, List, [], ◌∷◌, ◌++◌, length, eqb, Some, refl, sym, ap, ◌∙◌, arith, lit<, lit≤, append_assoc, length-append, append-nil}
use Rattle.std.specs.Str.{IsAscii}
use Rattle.std.proofs.lemmas.Bool.{false≢true}
use Rattle.std.proofs.lemmas.Str.{IsAscii-append}
use Rattle.std.proofs.lemmas.Str.Ascii.{IsAscii-nil, IsAscii-cons}
use Rattle.dbus_texts.specs.Types.{TypeTree, NumberType, TextType, VariantType, ArrayType, StructType, EntryType, TypeTrees, NoTypes, MoreTypes, NumberCode, BYTE, TextCode, STRING, number_code, text_code, sig, sigs, IsComplete, AreComplete, IsShaped, AreShaped}
use Rattle.dbus_texts.specs.ComputedKinds.{opening, OneCode, parse, parses, type_spelled, types_spelled}

opening_number : (k : NumberCode) → opening (number_code k) ≡ OneCode (NumberType k)
opening_number BYTE = refl
opening_number _ = refl

pub opening_text : (k : TextCode) → opening (text_code k) ≡ OneCode (TextType k)
opening_text STRING = refl
opening_text _ = refl

-- no type begins with a closing parenthesis
begins : (t : TypeTree) → (c : ℕ) × (s : List ℕ) × (sig t ≡ c ∷ s) × (eqb c 41 ≡ false)
begins (NumberType BYTE) = (_, _, refl, refl)
begins (TextType STRING) = (_, _, refl, refl)
begins _ = (_, _, refl, refl)

parses_more : (turns : ℕ) (s u w r : List ℕ) (t : TypeTree) (ts : TypeTrees) (c : ℕ) → s ≡ c ∷ u → eqb c 41 ≡ false → parse turns s ≡ Some (t, w) → parses turns w ≡ Some (ts, r) → parses (suc turns) s ≡ Some (MoreTypes t ts, r)
unfolding parses
parses_more turns s u w r t ts c is other first more =
    let at : parse turns (c ∷ u) ≡ Some (t, w) = rw is at first in
    rw (is, other, at, more) refl

pub sig_positive : (t : TypeTree) → 0 < length (sig t)
sig_positive t = let w = begins t in rw w.2 (omega arith)

number_letter : (k : NumberCode) → (40 ≤ number_code k) × (number_code k < 126)
number_letter BYTE = (lit≤ tt, lit< tt)
number_letter _ = (lit≤ tt, lit< tt)

text_letter : (k : TextCode) → (40 ≤ text_code k) × (text_code k < 126)
text_letter STRING = (lit≤ tt, lit< tt)
text_letter _ = (lit≤ tt, lit< tt)

-- what holds of the empty text, of each of the bytes 40 to 125, and of two texts one after the
-- other, holds of every type's text
module _ (P : List ℕ → Type 0) (none : P []) (one : (c : ℕ) → 40 ≤ c → c < 126 → P (c ∷ [])) (join : (s t : List ℕ) → P s → P t → P (s ++ t)) where
  mutual
    pub sig_holds : (t : TypeTree) → P (sig t)
    sig_holds (NumberType k) = let c = number_letter k in one (number_code k) c.0 c.1
    sig_holds (TextType k) = let c = text_letter k in one (text_code k) c.0 c.1
    sig_holds VariantType = one 118 (lit≤ tt) (lit< tt)
    sig_holds (ArrayType t) = join (97 ∷ []) (sig t) (one 97 (lit≤ tt) (lit< tt)) (sig_holds t)
    sig_holds (StructType ts) = join (40 ∷ []) (sigs ts ++ 41 ∷ []) (one 40 (lit≤ tt) (lit< tt)) (join (sigs ts) (41 ∷ []) (sigs_hold ts) (one 41 (lit≤ tt) (lit< tt)))
    sig_holds (EntryType k v) =
        join (123 ∷ []) (sig k ++ (sig v ++ 125 ∷ [])) (one 123 (lit≤ tt) (lit< tt)) (join (sig k) (sig v ++ 125 ∷ []) (sig_holds k) (join (sig v) (125 ∷ []) (sig_holds v) (one 125 (lit≤ tt) (lit< tt))))

    pub sigs_hold : (ts : TypeTrees) → P (sigs ts)
    sigs_hold NoTypes = none
    sigs_hold (MoreTypes t ts) = join (sig t) (sigs ts) (sig_holds t) (sigs_hold ts)

letter_ascii : (c : ℕ) → 40 ≤ c → c < 126 → IsAscii (c ∷ [])
letter_ascii c low high = IsAscii-cons c [] (omega arith) IsAscii-nil

pub sig_ascii : (t : TypeTree) → IsAscii (sig t)
sig_ascii = sig_holds IsAscii IsAscii-nil letter_ascii IsAscii-append

pub sigs_ascii : (ts : TypeTrees) → IsAscii (sigs ts)
sigs_ascii = sigs_hold IsAscii IsAscii-nil letter_ascii IsAscii-append

mutual
  unfolding parse parses

  pub parse_sig : (t : TypeTree) (turns : ℕ) (r : List ℕ) → length (sig t) ≤ turns → parse turns (sig t ++ r) ≡ Some (t, r)
  parse_sig t zero r h = absurd (omega (arith, sig_positive t))
  parse_sig (NumberType k) (suc turns) r h = rw (opening_number k, parse) refl
  parse_sig (TextType k) (suc turns) r h = rw (opening_text k, parse) refl
  parse_sig VariantType (suc turns) r h = refl
  parse_sig (ArrayType t) (suc turns) r h = rw (parse_sig t turns r (omega arith)) refl
  parse_sig (StructType ts) (suc turns) r h =
      let e : (sigs ts ++ 41 ∷ []) ++ r ≡ sigs ts ++ 41 ∷ r = append_assoc (sigs ts) (41 ∷ []) r in
      rw (e, parses_sig ts turns r (omega (arith, length-append (sigs ts) (41 ∷ [])))) refl
  parse_sig (EntryType k v) (suc turns) r h =
      let e : (sig k ++ (sig v ++ 125 ∷ [])) ++ r ≡ sig k ++ (sig v ++ 125 ∷ r) = append_assoc (sig k) (sig v ++ 125 ∷ []) r ∙ ap (λ w. sig k ++ w) (append_assoc (sig v) (125 ∷ []) r) in
      let long = length-append (sig k) (sig v ++ 125 ∷ []) in
      let more = length-append (sig v) (125 ∷ []) in
      rw (e, parse_sig k turns (sig v ++ 125 ∷ r) (omega arith), parse_sig v turns (125 ∷ r) (omega arith)) refl

  pub parses_sig : (ts : TypeTrees) (turns : ℕ) (r : List ℕ) → length (sigs ts) + 1 ≤ turns → parses turns (sigs ts ++ 41 ∷ r) ≡ Some (ts, r)
  parses_sig ts zero r h = absurd (omega arith)
  parses_sig NoTypes (suc turns) r h = refl
  parses_sig (MoreTypes t ts) (suc turns) r h =
      let w = begins t in
      let one : parse turns (sig t ++ (sigs ts ++ 41 ∷ r)) ≡ Some (t, sigs ts ++ 41 ∷ r) = parse_sig t turns (sigs ts ++ 41 ∷ r) (omega (arith, length-append (sig t) (sigs ts))) in
      let more = parses_sig ts turns r (omega (arith, length-append (sig t) (sigs ts), sig_positive t)) in
      let e : (sig t ++ sigs ts) ++ 41 ∷ r ≡ sig t ++ (sigs ts ++ 41 ∷ r) = append_assoc (sig t) (sigs ts) (41 ∷ r) in
      rw e (parses_more turns (sig t ++ (sigs ts ++ 41 ∷ r)) (w.1 ++ (sigs ts ++ 41 ∷ r)) (sigs ts ++ 41 ∷ r) r t ts w.0 (ap (λ (u : List ℕ). u ++ (sigs ts ++ 41 ∷ r)) w.2) w.3 one more)

pub spelled_sig : (t : TypeTree) → type_spelled (sig t) ≡ t
unfolding type_spelled
spelled_sig t =
    let e : parse (length (sig t)) (sig t) ≡ Some (t, []) = rw append-nil at (parse_sig t (length (sig t)) [] (omega arith)) in
    rw (e, type_spelled) refl

pub spelled_sigs : (ts : TypeTrees) → types_spelled (sigs ts) ≡ ts
unfolding types_spelled
spelled_sigs ts =
    let e : parses (suc (length (sigs ts))) (sigs ts ++ 41 ∷ []) ≡ Some (ts, []) = parses_sig ts (suc (length (sigs ts))) [] (omega arith) in
    rw (e, types_spelled) refl

pub sigs_same : (ts us : TypeTrees) → sigs ts ≡ sigs us → ts ≡ us
sigs_same ts us e = sym (spelled_sigs ts) ∙ ap types_spelled e ∙ spelled_sigs us

-- a complete type is shaped well, whatever is open around it
mutual
  pub shaped_of : (t : TypeTree) (inside : Bool) (arrays structs : ℕ) → IsComplete t inside arrays structs → IsShaped inside t
  shaped_of (NumberType n) inside a s h = tt
  shaped_of (TextType n) inside a s h = tt
  shaped_of VariantType inside a s h = tt
  shaped_of (ArrayType t) inside a s h = shaped_of t true (a + 1) s h.1
  shaped_of (StructType NoTypes) inside a s h = h.1
  shaped_of (StructType (MoreTypes t ts)) inside a s h = (shaped_of t false a (s + 1) h.2.0, are_shaped_of ts a (s + 1) h.2.1)
  shaped_of (EntryType k v) true a s h = (h.1, shaped_of v false a s h.2)
  shaped_of (EntryType k v) false a s h = absurd (false≢true h.0)

  pub are_shaped_of : (ts : TypeTrees) (arrays structs : ℕ) → AreComplete ts arrays structs → AreShaped ts
  are_shaped_of NoTypes a s h = tt
  are_shaped_of (MoreTypes t ts) a s h = (shaped_of t false a s h.0, are_shaped_of ts a s h.1)
