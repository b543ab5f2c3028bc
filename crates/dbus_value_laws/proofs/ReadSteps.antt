-- Steps of reading: the bytes of a slice, padding, numbers, an array's length, and the zero after a
-- text.
use Rattle.std.proofs.Common.{◌≡◌, ℕ, zero, suc, ◌+◌, ◌-◌, ◌<◌, ◌≤◌, List, ◌∷◌, length, get_or, take, drop, Option, Some, None, ◌%◌, Bool, true, false, cond, ltb, refl, ap, ◌∙◌, arith, [], IsUtf8, sym, subst}
use Rattle.std.proofs.lemmas.Bool.{lt-ltb, le-ltb}
use Rattle.std.proofs.lemmas.List.{drop_more, drop-drop, length-drop, get_or-drop, length-take}
use Rattle.std.proofs.Math.Numerals.{add-one}
use Rattle.std.proofs.lemmas.Str.{IsUtf8-from_ascii}
use Rattle.dbus_value_model.specs.declared.order.Order.{Order}
use Rattle.dbus_value_model.specs.declared.order.Order.TheVariants.{Little, Big}
use Rattle.dbus_value_model.specs.declared.fault.Reason.{Reason}
use Rattle.dbus_value_model.specs.Bytes.{gap_to}
use Rattle.dbus_value_model.specs.ByteNumbers.{IsBytes}
use Rattle.dbus_value_model.specs.Items.{fault, no_row}
use Rattle.dbus_value_model.specs.Reading.{Reader, Outcome, Done, Faulty, Partial, after, zeros, padding, number, number_of, validated, nul, text}
use Rattle.dbus_value_model.specs.declared.stop.Stop.{Stop}
use Rattle.dbus_value_model.specs.ValueReaders.{Stops, array_frame, text_value}
use Rattle.dbus_value_model.specs.ValueItems.{text_row, array_row}
use Rattle.dbus_texts.specs.Types.{TypeTree, SIGNATURE}
use Rattle.dbus_types.specs.Alignments.{alignment_of}
use Rattle.dbus_value_model.specs.declared.limits.Bounds.{Bounds}
use Rattle.dbus_value_model.specs.declared.fault.Reason.TheVariants as reasons
use Rattle.dbus_value_model.specs.declared.stop.Stop.TheVariants as stops
use Rattle.dbus_texts.specs.ComputedKinds.{types_spelled}
use Rattle.dbus_texts.specs.Kinds.{IsKind}
use Rattle.dbus_texts.specs.declared.text_kind.TextKind.TheVariants.{Signature}
use Rattle.dbus_texts.proofs.KindFacts.{is_kind_of, signature_text_is}
use Rattle.dbus_texts.proofs.TypeTexts.{sigs_ascii}
use Rattle.dbus_value_model.specs.WantedTexts.{Of, WantedText, Only, IsWanted}
use Rattle.dbus_value_model.specs.Values.{TextValue}
use Rattle.dbus_value_model.specs.ComputedTexts.{break_at}
use Rattle.dbus_value_laws.proofs.KindLaws.{break_whole, is_wanted}

-- a stop within the first part is one of the whole
pub stops_after : {A B : Type 0} (e : Stop) (r : Outcome A) (next : A → Reader B) → Stops e r → Stops e (after r next)
stops_after stops.Partial r next h = rw h refl
stops_after (stops.Refused f) r next h = rw h refl

-- ---- readers one after another

pub same_after : {A B : Type 0} (r : Outcome A) (f g : A → Reader B) → ((x : A) (p : ℕ) (t : List ℕ) → f x p t ≡ g x p t) → after r f ≡ after r g
same_after (Done x p t) f g h = h x p t
same_after (Faulty f) _ g h = refl
same_after Partial f g h = refl

pub after_after : {A B C : Type 0} (r : Outcome A) (f : A → Reader B) (g : B → Reader C) → after (after r f) g ≡ after r (λ x p t. after (f x p t) g)
after_after (Done x p t) f g = refl
after_after (Faulty f) _ g = refl
after_after Partial f g = refl

-- ---- padding, byte by byte

zeros_at : (k i b : ℕ) (s : List ℕ) → b ≡ 0 → zeros (suc k) i (b ∷ s) ≡ zeros k (i + 1) s
zeros_at k i b s e = rw (e, add-one) refl

zeros_not : (k i b : ℕ) (s : List ℕ) → (b ≡ 0 → ⊥) → zeros (suc k) i (b ∷ s) ≡ Faulty (fault i reasons.Padding)
zeros_not k i zero s h = absurd (h refl)
zeros_not k i (suc b) s h = refl

zeros_step : (k i : ℕ) (bytes : List ℕ) → i < length bytes → get_or bytes i 0 ≡ 0 → zeros (suc k) i (drop i bytes) ≡ zeros k (i + 1) (drop (i + 1) bytes)
zeros_step k i bytes h e = rw (drop_more bytes i 0 h) (zeros_at k i (get_or bytes i 0) (drop (i + 1) bytes) e)

zeros_fault : (k i : ℕ) (bytes : List ℕ) → i < length bytes → (get_or bytes i 0 ≡ 0 → ⊥) → zeros (suc k) i (drop i bytes) ≡ Faulty (fault i reasons.Padding)
zeros_fault k i bytes h e = rw (drop_more bytes i 0 h) (zeros_not k i (get_or bytes i 0) (drop (i + 1) bytes) e)

pub gap_is : (a o : ℕ) → gap_to a o ≡ (a - o % a) % a
unfolding gap_to
gap_is a o = refl

pub padding_is : (a end o k : ℕ) (s : List ℕ) → gap_to a o ≡ k → o + k ≤ end → padding a end o s ≡ zeros k o s
unfolding padding
padding_is a end o k s e h = rw (e, le-ltb _ _ h) refl

pub padding_overruns : (a end o k : ℕ) (s : List ℕ) → gap_to a o ≡ k → end < o + k → padding a end o s ≡ Faulty (fault o reasons.Overrun)
unfolding padding
padding_overruns a end o k s e h = rw (e, lt-ltb _ _ h) refl

-- the same where k is what is left
pub goes_on_zeros : (k less i : ℕ) (bytes : List ℕ) → k ≡ suc less → i < length bytes → get_or bytes i 0 ≡ 0 → zeros k i (drop i bytes) ≡ zeros less (i + 1) (drop (i + 1) bytes)
goes_on_zeros k less i bytes e h b = ap (λ (n : ℕ). zeros n i (drop i bytes)) e ∙ zeros_step less i bytes h b

pub breaks_zeros : (k less i : ℕ) (bytes : List ℕ) → k ≡ suc less → i < length bytes → (get_or bytes i 0 ≡ 0 → ⊥) → zeros k i (drop i bytes) ≡ Faulty (fault i reasons.Padding)
breaks_zeros k less i bytes e h b = ap (λ (n : ℕ). zeros n i (drop i bytes)) e ∙ zeros_fault less i bytes h b

pub zeros_done : (stop i : ℕ) (bytes : List ℕ) → i ≡ stop → zeros (stop - i) i (drop i bytes) ≡ Done tt stop (drop stop bytes)
zeros_done stop i bytes e = let none : stop - i ≡ 0 = omega arith in rw (none, e) refl

-- a byte has no padding
pub no_padding : (end o : ℕ) (s : List ℕ) → o ≤ end → padding 1 end o s ≡ Done tt o s
no_padding end o s h = let none : gap_to 1 o ≡ 0 = gap_is 1 o ∙ omega arith in padding_is 1 end o 0 s none (omega arith)

-- ---- numbers

module _ (order : Order) (w end : ℕ) (row : ℕ → ℕ → Option Reason) (at : ℕ) (bytes : List ℕ) where
  pub number_overrun : end < at + w → number order w end row at (drop at bytes) ≡ Faulty (fault at reasons.Overrun)
  unfolding number
  number_overrun h = rw (lt-ltb _ _ h) refl

  module _ (fits : at + w ≤ end) where
    pub number_partial : 0 < w → length bytes < at + w → number order w end row at (drop at bytes) ≡ Partial
    unfolding number
    number_partial some h = let short : ltb (length (drop at bytes)) w ≡ true = lt-ltb _ _ (omega (arith, length-drop at bytes)) in rw (le-ltb _ _ fits, short) refl

    module _ (n : ℕ) (there : at + w ≤ length bytes) (is : n ≡ number_of order (take w (drop at bytes))) where
      pub number_done : row (at + w) n ≡ None → number order w end row at (drop at bytes) ≡ Done n (at + w) (drop (at + w) bytes)
      unfolding number
      number_done e = let long : ltb (length (drop at bytes)) w ≡ false = le-ltb _ _ (omega (arith, length-drop at bytes)) in rw (le-ltb _ _ fits, long, ← is, e, drop-drop w at bytes) refl

pub one_byte : (order : Order) (bytes : List ℕ) (at : ℕ) → at < length bytes → get_or bytes at 0 ≡ number_of order (take 1 (drop at bytes))
unfolding number_of
one_byte Little bytes at h = rw (drop_more bytes at 0 h) (omega arith)
one_byte Big bytes at h = rw (drop_more bytes at 0 h) (omega arith)

-- what a row says of a number that was read alone
abbrev validated_by : (ℕ → ℕ → Option Reason) → ℕ → Outcome ℕ → Outcome ℕ
validated_by row o (Done n q r) = validated (row q n) n o q r
validated_by row o (Faulty f) = Faulty f
validated_by row o Partial = Partial

module _ (order : Order) (w end : ℕ) (row : ℕ → ℕ → Option Reason) (o : ℕ) (s : List ℕ) where
  number_by : number order w end row o s ≡ validated_by row o (number order w end no_row o s)
  unfolding number
  number_by = by_tests (ltb end (o + w)) (ltb (length s) w) (number_of order (take w s)) (o + w) (drop w s)
    where
      by_tests : (a b : Bool) (n q : ℕ) (r : List ℕ) → cond a (Faulty (fault o reasons.Overrun)) (cond b Partial (validated (row q n) n o q r)) ≡ validated_by row o (cond a (Faulty (fault o reasons.Overrun)) (cond b Partial (Done n q r)))
      by_tests true b n q r = refl
      by_tests false true n q r = refl
      by_tests false false n q r = refl

  pub number_stops : (e : Stop) → Stops e (number order w end no_row o s) → Stops e (number order w end row o s)
  number_stops stops.Partial h = rw (number_by, h) refl
  number_stops (stops.Refused f) h = rw (number_by, h) refl

  module _ (n q : ℕ) (r : List ℕ) (there : number order w end no_row o s ≡ Done n q r) where
    pub number_passes : row q n ≡ None → number order w end row o s ≡ Done n q r
    number_passes e = rw (number_by, there, e) refl

    pub number_fails : (why : Reason) → row q n ≡ Some why → number order w end row o s ≡ Faulty (fault o why)
    number_fails why e = rw (number_by, there, e) refl

pub text_fits : (end q n : ℕ) → q + n + 1 ≤ end → text_row end q n ≡ None
text_fits end q n h = rw (le-ltb _ _ h) refl

-- ---- an array's length, and the padding after it

module _ (bounds : Bounds) (t : TypeTree) (a end p n : ℕ) (is : a ≡ alignment_of t) where
  module _ (short : n ≤ bounds.array) where
    pub row_fits : p + gap_to a p + n ≤ end → array_row bounds t end p n ≡ None
    row_fits h = rw (← is, le-ltb _ _ short, le-ltb _ _ h) refl

module _ (bounds : Bounds) (order : Order) (end : ℕ) (t : TypeTree) (o : ℕ) (s : List ℕ) where
  module _ (n q : ℕ) (r : List ℕ) (there : number order 4 end no_row o s ≡ Done n q r) where
    module _ (fits : array_row bounds t end q n ≡ None) where
      pub frame_done : (p : ℕ) (u : List ℕ) → padding (alignment_of t) end q r ≡ Done tt p u → array_frame bounds order end t o s ≡ Done n p u
      unfolding array_frame
      frame_done p u h = rw (number_passes order 4 end (array_row bounds t end) o s n q r there fits, h) refl

-- ---- the zero after a text

nul_zero : (o b : ℕ) (s : List ℕ) → b ≡ 0 → nul o (b ∷ s) ≡ Done tt (o + 1) s
nul_zero o b s e = rw e refl

nul_else : (o b : ℕ) (s : List ℕ) → (b ≡ 0 → ⊥) → nul o (b ∷ s) ≡ Faulty (fault o reasons.Nul)
nul_else o zero s h = absurd (h refl)
nul_else o (suc b) s h = refl

pub nul_done : (at : ℕ) (bytes : List ℕ) → at < length bytes → get_or bytes at 0 ≡ 0 → nul at (drop at bytes) ≡ Done tt (at + 1) (drop (at + 1) bytes)
nul_done at bytes h e = rw (drop_more bytes at 0 h) (nul_zero at (get_or bytes at 0) (drop (at + 1) bytes) e)

pub nul_faulty : (at : ℕ) (bytes : List ℕ) → at < length bytes → (get_or bytes at 0 ≡ 0 → ⊥) → nul at (drop at bytes) ≡ Faulty (fault at reasons.Nul)
nul_faulty at bytes h e = rw (drop_more bytes at 0 h) (nul_else at (get_or bytes at 0) (drop (at + 1) bytes) e)

-- ---- the bytes of a slice

pub bytes_from : (s : List ℕ) → ((i : ℕ) → get_or s i 0 < 256) → IsBytes s
bytes_from [] h = tt
bytes_from (b ∷ s) h = (h 0, bytes_from s (λ i. h (suc i)))

pub bytes_at : (s : List ℕ) (at : ℕ) → ((i : ℕ) → get_or s i 0 < 256) → IsBytes (drop at s)
bytes_at s at h = bytes_from (drop at s) (λ i. rw get_or-drop (h (at + i)))

-- Steps of reading texts.

-- ---- a text that is there

-- given is what is there of a text of n bytes at a place
module _ (k : WantedText) (n at : ℕ) (bytes given : List ℕ) (is : given ≡ take n (drop at bytes)) where
  module _ (wanted : IsWanted k given) where
    pub text_there : n ≤ length given → text k n at (drop at bytes) ≡ Done (take n (drop at bytes)) (at + n) (drop (at + n) bytes)
    unfolding text
    text_there whole =
        let all = ap length is ∙ length-take n (drop at bytes) in
        let enough : n ≤ length (drop at bytes) = omega arith in
        let e : break_at k given ≡ length given = break_whole k given wanted in
        rw (← is, e, le-ltb (length given) (length given) (omega arith), le-ltb _ _ enough, is_wanted k given wanted, drop-drop n at bytes) refl

module _ (n at : ℕ) (bytes given : List ℕ) (is : given ≡ take n (drop at bytes)) where
  pub only_done : (u : List ℕ) → given ≡ u → n ≤ length given → text (Only u) n at (drop at bytes) ≡ Done u (at + n) (drop (at + n) bytes)
  only_done u e whole =
      text_there (Only u) n at bytes given is e whole ∙ ap (λ (t : List ℕ). Done t (at + n) (drop (at + n) bytes)) (sym is ∙ e)

-- the text of n bytes at a place, up to the place after it
module _ (n at suffix : ℕ) (bytes : List ℕ) (ends : suffix ≡ at + n) where
  pub same_part : take n (drop at bytes) ≡ take (suffix - at) (drop at bytes)
  same_part = let long : n ≡ suffix - at = omega arith in ap (λ (k : ℕ). take k (drop at bytes)) long

  pub utf8_signature : IsKind Signature (take n (drop at bytes)) → IsUtf8 (take (suffix - at) (drop at bytes))
  utf8_signature h =
      let e = (signature_text_is (take n (drop at bytes)) (is_kind_of Signature (take n (drop at bytes)) h)).1 in
      subst IsUtf8 (e ∙ same_part) (IsUtf8-from_ascii _ (sigs_ascii (types_spelled (take n (drop at bytes)))))

-- ---- a signature has no padding

module _ (order : Order) (end o : ℕ) (s : List ℕ) (fits : o ≤ end) where
  module _ (n p : ℕ) (t : List ℕ) (measured : number order 1 end (text_row end) o s ≡ Done n p t) where
    module _ (w : List ℕ) (q : ℕ) (r : List ℕ) (there : text (Of Signature) n p t ≡ Done w q r) where
      pub sig_done : (q' : ℕ) (r' : List ℕ) → nul q r ≡ Done tt q' r' → text_value order end SIGNATURE o s ≡ Done (TextValue SIGNATURE w) q' r'
      unfolding text_value
      sig_done q' r' h = rw (no_padding end o s fits, measured, there, h) refl
