-- Items at the front of some bytes.
use Rattle.std.proofs.Common.{◌≡◌, ℕ, zero, suc, ◌+◌, ◌<◌, ◌≤◌, List, [], ◌∷◌, ◌++◌, length, get_or, take, drop, replicate, Option, Some, None, refl, sym, ap, subst, ◌∙◌, arith, append_assoc, inl, inr, Ok, Err, Bool, true, false}
use Rattle.std.specs.Prelude.{◌⊎◌}
use Rattle.std.proofs.lemmas.Bool.{lt-ltb, le-ltb}
use Rattle.std.proofs.lemmas.List.{take_more, take_all, drop_more, take-append-drop, length-take, length-append, append-nil}
use Rattle.dbus_value_model.specs.declared.limits.Bounds.{Bounds}
use Rattle.dbus_value_model.specs.declared.order.Order.{Order}
use Rattle.dbus_value_model.specs.declared.order.Order.TheVariants.{Little, Big}
use Rattle.dbus_value_model.specs.declared.fault.Reason.{Reason}
use Rattle.dbus_value_model.specs.declared.fault.Reason.TheVariants as reasons
use Rattle.dbus_value_model.specs.declared.fault.Fault.{Fault}
use Rattle.dbus_value_model.specs.Bytes.{gap_to}
use Rattle.dbus_value_model.specs.Items.{fault, text_reason}
use Rattle.dbus_value_model.specs.Reading.{Reader, Outcome, Done, Faulty, Partial, after, zeros, padding, number, number_of, validated, text}
use Rattle.dbus_texts.specs.Types.{NumberCode, BYTE, BOOLEAN, INT16, UINT16, INT32, UINT32, INT64, UINT64, DOUBLE, UNIX_FD, TextCode, STRING, OBJECT_PATH, SIGNATURE, number_code, text_code, TypeTree, NumberType, TextType, VariantType, ArrayType, StructType, EntryType, TypeTrees, NoTypes, MoreTypes, sig, sigs, IsShaped, AreShaped}
use Rattle.dbus_types.specs.Alignments.{width, length_width, alignment_of}
use Rattle.dbus_value_model.specs.ValueItems.{number_row, text_row, array_row}
use Rattle.dbus_value_model.specs.ValueReaders.{array_frame}
use Rattle.dbus_types.proofs.TypeCodes.{boolean_is, descriptor_is, begins, code_is, array_is, struct_is, entry_is, entry_shaped, text_is}
use Rattle.dbus_value_model.specs.declared.stop.Stop.{Stop}
use Rattle.dbus_value_model.specs.declared.stop.Stop.TheVariants as stops
use Rattle.dbus_value_model.specs.WantedTexts.{WantedText, IsWanted, IsBreakOf}
use Rattle.dbus_value_model.specs.ComputedTexts.{break_at}
use Rattle.dbus_value_laws.proofs.OwnItems.{zeros_pass}
use Rattle.dbus_value_laws.proofs.KindLaws.{break_le, break_is, one_break, break_whole, is_wanted, is_not_wanted}
use Rattle.dbus_types.specs.SignatureCodes.{first_code}
use Rattle.dbus_value_checker.proofs.Suspension.{split-at, first_err, then_err, then_ok, front_as, forgotten, number_waits, number_over, number_read, text_waits, text_breaks, text_ends, text_not}
use Rattle.dbus_value_checker.specs.declared.values.ValueChecker.{ValueChecker}
use Rattle.dbus_value_checker.specs.Moves.{Moves}
use Rattle.dbus_value_checker.specs.Fronts.{Halts, Fronts, Lack}
use Rattle.dbus_value_checker.specs.Suspended.{On, onward, done}

-- ---- what is read after a front

module _ {X A : Type 0} (view : X → A × ℕ) (o : ℕ) (s : List ℕ) (run : Reader A) (next : A → On) (answer : List ℕ → Outcome (Unit {0})) (same : (c : List ℕ) → after (run o c) next ≡ answer c) where
  pub front_taken : (x : X) → Fronts view o s (Ok x) run → (c : List ℕ) → next (view x).0 (o + (view x).1) c ≡ answer (take (view x).1 s ++ c)
  front_taken x h c = sym (ap (λ (r : Outcome A). after r next) (h.1 c)) ∙ same (take (view x).1 s ++ c)

  pub front_waits : Fronts view o s (Err stops.Partial) run → answer s ≡ Partial
  front_waits h = sym (same s) ∙ ap (λ (r : Outcome A). after r next) h

  pub front_refused : (f : Fault) → Fronts view o s (Err (stops.Refused f)) run → (c : List ℕ) → answer (s ++ c) ≡ Faulty f
  front_refused f h c = sym (same (s ++ c)) ∙ ap (λ (r : Outcome A). after r next) (h c)

  -- nothing is changed then
  pub front_stops : (x : ValueChecker) (last : On) (e : Stop) → Fronts view o s (Err e) run → Moves x s (Err e) x (record { last = last; to = answer })
  front_stops x last stops.Partial h = (refl, front_waits h)
  front_stops x last (stops.Refused f) h = front_refused f h

-- ---- padding

zeros_short : (k i o : ℕ) → i < k → zeros k o (replicate i 0) ≡ Partial
zeros_short zero i o h = absurd (omega arith)
zeros_short (suc k) zero o h = refl
zeros_short (suc k) (suc i) o h = zeros_short k i (suc o) (omega arith)

zeros_not : (k i o b : ℕ) (c : List ℕ) → i < k → (b ≡ 0 → ⊥) → zeros k o (replicate i 0 ++ b ∷ c) ≡ Faulty (fault (o + i) reasons.Padding)
zeros_not zero i o b c h n = absurd (omega arith)
zeros_not (suc k) zero o zero c h n = absurd (n refl)
zeros_not (suc k) zero o (suc b) c h n = let e : o + 0 ≡ o = omega arith in ap (λ (p : ℕ). Faulty (fault p reasons.Padding)) (sym e)
zeros_not (suc k) (suc i) o b c h n = let e : suc o + i ≡ o + suc i = omega arith in zeros_not k i (suc o) b c (omega arith) n ∙ ap (λ (p : ℕ). Faulty (fault p reasons.Padding)) e

replicate_more : (b i : ℕ) → replicate i b ++ b ∷ [] ≡ replicate (i + 1) b
replicate_more b zero = refl
replicate_more b (suc i) = ap (λ (l : List ℕ). b ∷ l) (replicate_more b i) ∙ (let e : suc (i + 1) ≡ suc i + 1 = omega arith in ap (λ (n : ℕ). replicate n b) e)

pub more_zeros : (s : List ℕ) (i : ℕ) → take i s ≡ replicate i 0 → i < length s → get_or s i 0 ≡ 0 → take (i + 1) s ≡ replicate (i + 1) 0
more_zeros s i h lt e = take_more s i 0 lt ∙ ap (λ (l : List ℕ). l ++ get_or s i 0 ∷ []) h ∙ ap (λ (b : ℕ). replicate i 0 ++ b ∷ []) e ∙ replicate_more 0 i

module _ (a end o : ℕ) (s : List ℕ) where
  pub padding_past : end < o + gap_to a o → (c : List ℕ) → padding a end o (s ++ c) ≡ Faulty (fault o reasons.Overrun)
  unfolding padding
  padding_past h c = rw (lt-ltb _ _ h) refl

  module _ (fits : o + gap_to a o ≤ end) where
    at_zeros : (t : List ℕ) → padding a end o t ≡ zeros (gap_to a o) o t
    unfolding padding
    at_zeros t = rw (le-ltb _ _ fits) refl

    pub padding_taken : (n : ℕ) → n ≡ gap_to a o → n ≤ length s → take n s ≡ replicate n 0 → (c : List ℕ) → padding a end o (take n s ++ c) ≡ Done tt (o + n) c
    padding_taken n e le h c =
        at_zeros (take n s ++ c) ∙ ap (λ (k : ℕ). zeros k o (take n s ++ c)) (sym e) ∙ ap (λ (t : List ℕ). zeros n o (t ++ c)) h ∙ zeros_pass n o c

    pub padding_waits : (i : ℕ) → i < gap_to a o → length s ≤ i → take i s ≡ replicate i 0 → padding a end o s ≡ Partial
    padding_waits i lt le h = at_zeros s ∙ ap (zeros (gap_to a o) o) (sym (take_all i s le) ∙ h) ∙ zeros_short (gap_to a o) i o lt

    pub padding_breaks : (i : ℕ) → i < gap_to a o → i < length s → take i s ≡ replicate i 0 → (get_or s i 0 ≡ 0 → ⊥) → (c : List ℕ) → padding a end o (s ++ c) ≡ Faulty (fault (o + i) reasons.Padding)
    padding_breaks i lt there h n c =
        let split : s ++ c ≡ replicate i 0 ++ get_or s i 0 ∷ (drop (i + 1) s ++ c) =
        ap (λ (t : List ℕ). t ++ c) (sym (take-append-drop i s)) ∙ append_assoc (take i s) (drop i s) c
        ∙ ap (λ (t : List ℕ). t ++ (drop i s ++ c)) h ∙ ap (λ (t : List ℕ). replicate i 0 ++ (t ++ c)) (drop_more s i 0 there) in
        at_zeros (s ++ c) ∙ ap (zeros (gap_to a o) o) split ∙ zeros_not (gap_to a o) i o (get_or s i 0) (drop (i + 1) s ++ c) lt n

-- ---- numbers

pub first_byte : (order : Order) (s : List ℕ) → 0 < length s → get_or s 0 0 ≡ number_of order (take 1 s)
unfolding number_of
first_byte order [] h = absurd (omega arith)
first_byte Little (b ∷ s) h = omega arith
first_byte Big (b ∷ s) h = omega arith

module _ (order : Order) (w end : ℕ) (row : ℕ → ℕ → Option Reason) (o : ℕ) (s : List ℕ) where
  module _ (n : ℕ) (there : w ≤ length s) (fits : o + w ≤ end) (is : n ≡ number_of order (take w s)) where
    long : length (take w s) ≡ w
    long = omega (arith, length-take w s)

    pub number_taken : row (o + w) n ≡ None → (c : List ℕ) → number order w end row o (take w s ++ c) ≡ Done n (o + w) c
    number_taken e c =
        number_read order w end row o (take w s) c long fits
        ∙ ap (λ (m : ℕ). validated (row (o + w) m) m o (o + w) c) (sym is) ∙ ap (λ (r : Option Reason). validated r n o (o + w) c) e

    pub number_refused : (why : Reason) → row (o + w) n ≡ Some why → (c : List ℕ) → number order w end row o (s ++ c) ≡ Faulty (fault o why)
    number_refused why e c =
        ap (number order w end row o) (split-at w s c) ∙ number_read order w end row o (take w s) (drop w s ++ c) long fits
        ∙ ap (λ (m : ℕ). validated (row (o + w) m) m o (o + w) (drop w s ++ c)) (sym is) ∙ ap (λ (r : Option Reason). validated r n o (o + w) (drop w s ++ c)) e

-- ---- the numbers of a type

-- a BOOLEAN and an index have four bytes
pub word_width : (k : NumberCode) (c : ℕ) → number_code k ≡ c → (c ≡ 98) ⊎ (c ≡ 104) → 4 ≡ width k
word_width k c e h = elim h [ inl a ↦ sym (ap alignment_of (boolean_is (NumberType k) (e ∙ a))) | inr a ↦ sym (ap alignment_of (descriptor_is (NumberType k) (e ∙ a))) ]

-- neither a BOOLEAN nor an index
pub plain_row : (index_limit : Option ℕ) (k : NumberCode) (c n p : ℕ) → number_code k ≡ c → (c ≡ 98 → ⊥) → (c ≡ 104 → ⊥) → number_row index_limit k p n ≡ None
plain_row index_limit BYTE c n p e b f = refl
plain_row index_limit BOOLEAN c n p e b f = absurd (b (sym e))
plain_row index_limit INT16 c n p e b f = refl
plain_row index_limit UINT16 c n p e b f = refl
plain_row index_limit INT32 c n p e b f = refl
plain_row index_limit UINT32 c n p e b f = refl
plain_row index_limit INT64 c n p e b f = refl
plain_row index_limit UINT64 c n p e b f = refl
plain_row index_limit DOUBLE c n p e b f = refl
plain_row index_limit UNIX_FD c n p e b f = absurd (f (sym e))

-- the bytes of a number are not there
pub lacks_number : (order : Order) (w end : ℕ) (row : ℕ → ℕ → Option Reason) (o : ℕ) (s : List ℕ) (e : Stop) → Lack w o end s e → Halts o s e (number order w end row)
lacks_number order w end row o s stops.Partial h = number_waits order w end row o s h.0 h.1
lacks_number order w end row o s (stops.Refused f) h = λ c. number_over order w end row o (s ++ c) h.0 ∙ ap (λ (g : Fault). Faulty g) (sym h.1)

-- a number of the width of its type, which is forgotten
module _ (index_limit : Option ℕ) (order : Order) (end o : ℕ) (s : List ℕ) (k : NumberCode) (w : ℕ) (w_is : w ≡ width k) where
  pub number_stop : (e : Stop) → Lack w o end s e → Fronts (λ (n : ℕ). (tt, n)) o s (Err e) (onward (number order (width k) end (number_row index_limit k)) done)
  number_stop e h = rw (← w_is) (forgotten (λ (n : ℕ). (n, n)) o s (number order w end (number_row index_limit k)) (Err e) (lacks_number order w end (number_row index_limit k) o s e h))

  module _ (n : ℕ) (there : w ≤ length s) (fits : o + w ≤ end) (n_is : n ≡ number_of order (take w s)) where
    pub number_there : number_row index_limit k (o + w) n ≡ None → Fronts (λ (n : ℕ). (tt, n)) o s (Ok w) (onward (number order (width k) end (number_row index_limit k)) done)
    number_there good = rw (← w_is) (forgotten (λ (m : ℕ). (n, m)) o s (number order w end (number_row index_limit k)) (Ok w) (there, number_taken order w end (number_row index_limit k) o s n there fits n_is good))

    pub number_validated : (why : Reason) → number_row index_limit k (o + w) n ≡ Some why → Fronts (λ (n : ℕ). (tt, n)) o s (Err (stops.Refused (fault o why))) (onward (number order (width k) end (number_row index_limit k)) done)
    number_validated why bad = rw (← w_is) (forgotten (λ (m : ℕ). (n, m)) o s (number order w end (number_row index_limit k)) (Err (stops.Refused (fault o why))) (number_refused order w end (number_row index_limit k) o s n there fits n_is why bad))

-- ---- the length of a text

length_code : (k : TextCode) (c : ℕ) → text_code k ≡ c → ((c ≡ 103) × (length_width k ≡ 1)) ⊎ ((c ≡ 103 → ⊥) × (length_width k ≡ 4))
length_code STRING c e = inr ((λ h. omega arith), refl)
length_code OBJECT_PATH c e = inr ((λ h. omega arith), refl)
length_code SIGNATURE c e = inl (sym e, refl)

pub short_width : (k : TextCode) (c : ℕ) → text_code k ≡ c → c ≡ 103 → length_width k ≡ 1
short_width k c e h = elim (length_code k c e) [ inl a ↦ a.1 | inr a ↦ absurd (a.0 h) ]

pub long_width : (k : TextCode) (c : ℕ) → text_code k ≡ c → (c ≡ 103 → ⊥) → length_width k ≡ 4
long_width k c e h = elim (length_code k c e) [ inl a ↦ absurd (h a.0) | inr a ↦ a.1 ]

module _ (order : Order) (w end o : ℕ) (s : List ℕ) (n : ℕ) (there : w ≤ length s) (n_is : n ≡ number_of order (take w s)) where
  pub length_there : o + w + n + 1 ≤ end → Fronts (λ (n : ℕ). (n, w)) o s (Ok n) (number order w end (text_row end))
  length_there fits = (there, number_taken order w end (text_row end) o s n there (omega arith) n_is (rw (le-ltb end (o + w + n + 1) fits) refl))

  pub length_past : o + w ≤ end → end < o + w + n + 1 → Halts o s (stops.Refused (fault o reasons.Overrun)) (number order w end (text_row end))
  length_past low past = number_refused order w end (text_row end) o s n there low n_is reasons.Overrun (rw (lt-ltb end (o + w + n + 1) past) refl)

-- ---- an array's length and the padding after it

module _ (bounds : Bounds) (order : Order) (end o : ℕ) (s : List ℕ) (t : TypeTree) where
  abbrev sized : Reader ℕ
  sized = number order 4 end (array_row bounds t end)

  abbrev padded : ℕ → Reader ℕ
  padded n p u = after (padding (alignment_of t) end p u) (λ z. Done n)

  pub array_stop : (e : Stop) → Lack 4 o end s e → Halts o s e (array_frame bounds order end t)
  unfolding array_frame
  array_stop e h = first_err o s sized padded e (lacks_number order 4 end (array_row bounds t end) o s e h)

  module _ (n : ℕ) (there : 4 ≤ length s) (low : o + 4 ≤ end) (n_is : n ≡ number_of order (take 4 s)) where
    array_refused : (why : Reason) → array_row bounds t end (o + 4) n ≡ Some why → Halts o s (stops.Refused (fault o why)) (array_frame bounds order end t)
    unfolding array_frame
    array_refused why row = first_err o s sized padded (stops.Refused (fault o why)) (number_refused order 4 end (array_row bounds t end) o s n there low n_is why row)

    pub array_too_long : bounds.array < n → Halts o s (stops.Refused (fault o reasons.ArrayTooLong)) (array_frame bounds order end t)
    array_too_long h = array_refused reasons.ArrayTooLong (rw (lt-ltb bounds.array n h) refl)

    module _ (short : n ≤ bounds.array) (a : ℕ) (a_is : a ≡ alignment_of t) where
      pub array_past : end < o + 4 + gap_to a (o + 4) + n → Halts o s (stops.Refused (fault o reasons.Overrun)) (array_frame bounds order end t)
      array_past h = array_refused reasons.Overrun (rw (le-ltb bounds.array n short, ← a_is, lt-ltb end (o + 4 + gap_to a (o + 4) + n) h) refl)

      module _ (fits : o + 4 + gap_to a (o + 4) + n ≤ end) (rest : List ℕ) (rest_is : rest ≡ drop 4 s) where
        sized_there : Fronts (λ (m : ℕ). (n, m)) o s (Ok 4) sized
        sized_there = (there, number_taken order 4 end (array_row bounds t end) o s n there low n_is (rw (le-ltb bounds.array n short, ← a_is, le-ltb end (o + 4 + gap_to a (o + 4) + n) fits) refl))

        pub array_there : (z : ℕ) → Fronts (λ (n : ℕ). (tt, n)) (o + 4) rest (Ok z) (padding a end) → Fronts (λ (x : ℕ × ℕ). x) o s (Ok (n, 4 + z)) (array_frame bounds order end t)
        unfolding array_frame
        array_there z h =
            then_ok (λ (m : ℕ). (n, m)) o s sized padded 4 sized_there rest rest_is (λ (m : ℕ). (n, m)) (λ (x : ℕ × ℕ). x) z
            (front_as (λ (m : ℕ). (tt, m)) (λ (m : ℕ). (n, m)) (λ (u : Unit {0}). n) (o + 4) rest (padding (alignment_of t) end) z (rw (← a_is) h) z refl refl) (n, 4 + z) refl refl

        pub array_padding : (e : Stop) → Halts (o + 4) rest e (padding a end) → Halts o s e (array_frame bounds order end t)
        unfolding array_frame
        array_padding e h = then_err (λ (m : ℕ). (n, m)) o s sized padded 4 sized_there rest rest_is e (first_err (o + 4) rest (padding (alignment_of t) end) (λ z. Done n) e (rw (← a_is) h))

-- ---- a text

module _ (k : WantedText) (n o : ℕ) (s given : List ℕ) (is : given ≡ take n s) where
  given_size : (length given ≤ n) × (length given ≤ length s) × ((length given < n) → length given ≡ length s)
  given_size = let e = ap length is ∙ length-take n s in (omega arith, omega arith, λ h. omega arith)

  all_given : length given < n → given ≡ s
  all_given h = let e = given_size.2 h in let l = ap length is ∙ length-take n s in is ∙ take_all n s (omega arith)

  module _ (i : ℕ) (broken : IsBreakOf k given i) where
    same_break : break_at k given ≡ i
    same_break = one_break k given (break_at k given) i (break_is k given) broken

    pub text_breaks_at : i < length given → (c : List ℕ) → text k n o (s ++ c) ≡ Faulty (fault (o + i) (text_reason k))
    text_breaks_at h c =
        let b = same_break in
        let e : s ++ c ≡ given ++ (drop n s ++ c) = split-at n s c ∙ ap (λ (t : List ℕ). t ++ (drop n s ++ c)) (sym is) in
        ap (text k n o) e ∙ text_breaks k n o given (drop n s ++ c) given_size.0 (omega arith) ∙ ap (λ (j : ℕ). Faulty (fault (o + j) (text_reason k))) b

    pub text_waits_at : length given ≤ i → length given < n → text k n o s ≡ Partial
    text_waits_at h short =
        let b = same_break in
        let l = break_le k given in
        let all : given ≡ s = all_given short in
        ap (text k n o) (sym all) ∙ text_waits k n o given short (omega arith)

    pub text_unlike_at : length given ≤ i → n ≤ length given → (IsWanted k given → ⊥) → (c : List ℕ) → text k n o (s ++ c) ≡ Faulty (fault (o + i) (text_reason k))
    text_unlike_at h long not c =
        let b = same_break in
        let l = break_le k given in
        let g = given_size in
        let le = g.0 in
        let e : s ++ c ≡ given ++ (drop n s ++ c) = split-at n s c ∙ ap (λ (t : List ℕ). t ++ (drop n s ++ c)) (sym is) in
        ap (text k n o) e ∙ text_not k n o given (drop n s ++ c) (omega arith) (omega arith) (is_not_wanted k given not) ∙ ap (λ (j : ℕ). Faulty (fault (o + j) (text_reason k))) b

  module _ (wanted : IsWanted k given) where
    pub text_more_at : length given < n → text k n o s ≡ Partial
    text_more_at short = text_waits_at (break_at k given) (break_is k given) (let e = break_whole k given wanted in omega arith) short

    pub text_there_at : n ≤ length given → (n ≤ length s) × ((c : List ℕ) → text k n o (take n s ++ c) ≡ Done (take n s) (o + n) c)
    text_there_at long =
        let g = given_size in
        let le = g.0 in
        let fits = g.1 in
        (omega arith, λ c. subst (λ (t : List ℕ). text k n o (t ++ c) ≡ Done t (o + n) c) is (text_ends k n o given c (omega arith) (is_wanted k given wanted)))

-- Which type begins with a code, what a type opens, and which types are complete in it.

-- ---- which type begins with the code of a container, of a text, of a number

pub array_of : (t : TypeTree) → first_code t ≡ 97 → (u : TypeTree) × (t ≡ ArrayType u)
array_of t e = let a = array_is t (sig t) refl (sym (code_is t (sig t) refl) ∙ e) in (a.0, a.1)

pub struct_of : (t : TypeTree) → first_code t ≡ 40 → (ts : TypeTrees) × (t ≡ StructType ts)
struct_of t e = let s = struct_is t (sig t) refl (sym (code_is t (sig t) refl) ∙ e) in (s.0, s.1)

pub entry_of : (t : TypeTree) → first_code t ≡ 123 → (k : TypeTree) × ((v : TypeTree) × (t ≡ EntryType k v))
entry_of t e = let s = entry_is t (sig t) refl (sym (code_is t (sig t) refl) ∙ e) in (s.0, (s.1, s.2))

pub text_of : (t : TypeTree) (c : ℕ) → first_code t ≡ c → (c ≡ 103) ⊎ ((c ≡ 111) ⊎ (c ≡ 115)) → (k : TextCode) × (t ≡ TextType k)
text_of t c e (inl a) = (SIGNATURE, text_is t SIGNATURE (e ∙ a))
text_of t c e (inr (inl a)) = (OBJECT_PATH, text_is t OBJECT_PATH (e ∙ a))
text_of t c e (inr (inr a)) = (STRING, text_is t STRING (e ∙ a))

pub number_type : (t : TypeTree) (c : ℕ) → first_code t ≡ c → (c ≡ 97 → ⊥) → (c ≡ 40 → ⊥) → (c ≡ 123 → ⊥) → (c ≡ 103 → ⊥) → (c ≡ 111 → ⊥) → (c ≡ 115 → ⊥) → (c ≡ 118 → ⊥) → (k : NumberCode) × (t ≡ NumberType k)
number_type (NumberType k) c e n1 n2 n3 n4 n5 n6 n7 = (k, refl)
number_type (TextType STRING) c e n1 n2 n3 n4 n5 n6 n7 = absurd (n6 (sym e))
number_type (TextType OBJECT_PATH) c e n1 n2 n3 n4 n5 n6 n7 = absurd (n5 (sym e))
number_type (TextType SIGNATURE) c e n1 n2 n3 n4 n5 n6 n7 = absurd (n4 (sym e))
number_type VariantType c e n1 n2 n3 n4 n5 n6 n7 = absurd (n7 (sym e))
number_type (ArrayType u) c e n1 n2 n3 n4 n5 n6 n7 = absurd (n1 (sym e))
number_type (StructType ts) c e n1 n2 n3 n4 n5 n6 n7 = absurd (n2 (sym e))
number_type (EntryType k v) c e n1 n2 n3 n4 n5 n6 n7 = absurd (n3 (sym e))

-- ---- which types are complete

pub array_complete : (b : Bool) (u : TypeTree) → IsShaped b (ArrayType u) → IsShaped true u
array_complete true u h = h
array_complete false u h = h

pub sigs_some : (t : TypeTree) (ts : TypeTrees) → 0 < length (sigs (MoreTypes t ts))
sigs_some t ts = let e = ap (λ (l : List ℕ). length l) (begins t) in omega (arith, e, length-append (sig t) (sigs ts))

pub struct_complete : (b : Bool) (ts : TypeTrees) → IsShaped b (StructType ts) → AreShaped ts × (0 < length (sigs ts))
struct_complete true NoTypes h = absurd h
struct_complete false NoTypes h = absurd h
struct_complete true (MoreTypes t ts) h = (h, sigs_some t ts)
struct_complete false (MoreTypes t ts) h = (h, sigs_some t ts)

pub entry_text : (k v : TypeTree) → sig (EntryType k v) ≡ 123 ∷ (sigs (MoreTypes k (MoreTypes v NoTypes)) ++ 125 ∷ [])
entry_text k v = simp (append_assoc, append-nil)

pub entry_complete : (b : Bool) (k v : TypeTree) → IsShaped b (EntryType k v) → (b ≡ true) × AreShaped (MoreTypes k (MoreTypes v NoTypes))
entry_complete true k v h = (refl, entry_shaped k v h)
entry_complete false k v h = absurd h
