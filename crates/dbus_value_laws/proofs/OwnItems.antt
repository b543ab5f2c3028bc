-- Each own item agrees with its reader.
use Rattle.std.proofs.Common.{◌≡◌, ℕ, zero, suc, ◌+◌, ◌-◌, ◌^◌, ◌<◌, ◌≤◌, ◌⊎◌, List, [], ◌∷◌, ◌++◌, length, take, drop, replicate, Bool, true, false, cond, ltb, eqb, Option, Some, None, refl, sym, ap, ◌∙◌, arith, inl, inr, append_assoc}
use Rattle.std.proofs.lemmas.Bool.{lt-ltb, le-ltb, cases_lt, eqb-true, eq-eqb}
use Rattle.std.proofs.lemmas.List.{take_at, drop_at, take-append-drop, length-append, length-take}
use Rattle.dbus_texts.specs.Types.{sig}
use Rattle.dbus_value_model.specs.WantedTexts.{WantedText, IsWanted, Of}
use Rattle.dbus_value_model.specs.ComputedTexts.{is_kind, break_at}
use Rattle.dbus_texts.specs.ComputedKinds.{type_spelled}
use Rattle.dbus_value_model.specs.ByteNumbers.{IsBytes}
use Rattle.dbus_value_model.specs.Bytes.{num, gap_to, pad}
use Rattle.dbus_value_model.specs.declared.order.Order.{Order}
use Rattle.dbus_value_model.specs.Items.{Item, fault, PaddingFault, padding_overruns, not_zero, NumberFault, number_overruns, number_refused, TextFault, text_reason, Sequence, StopsIn}
use Rattle.dbus_value_model.specs.declared.fault.Fault.{Fault}
use Rattle.dbus_value_model.specs.declared.fault.Reason.{Reason}
use Rattle.dbus_value_model.specs.Items as items
use Rattle.dbus_value_model.specs.Reading.{Reader, Outcome, Done, Faulty, Partial, after, zeros, validated, number_of, up_to}
use Rattle.dbus_value_model.specs.Reading as reading
use Rattle.dbus_value_model.proofs.Numbers.{IsBytes-front, length-num, number_of-num, num-number_of, number_of-below, IsBytes-rest}
use Rattle.dbus_value_model.specs.declared.fault.Reason.TheVariants as reasons
use Rattle.dbus_texts.specs.declared.text_kind.TextKind.TheVariants as kinds
use Rattle.dbus_value_laws.proofs.KindLaws.{break_is, break_more, break_whole, is_not_wanted, is_wanted, not_wanted, one_break, single_text, text_single, wanted_is}
use Rattle.dbus_value_laws.proofs.Agreement.{Agrees, Says, says_as}

-- ---- choices

pub chosen : {X : Type 0} (b : Bool) (x y z : X) → cond b x y ≡ z → ((b ≡ true) × (x ≡ z)) ⊎ ((b ≡ false) × (y ≡ z))
chosen true x y z e = inl (refl, e)
chosen false x y z e = inr (refl, e)

-- ---- no bytes

pub Agrees-pure : {A : Type 0} (x : A) → Agrees (items.pure x) (reading.pure x)
Agrees-pure x = record {
  says = λ o s bytes. (refl, refl, refl);
  passes = λ o s y q r w. rw (w.0, w.1, w.2) refl;
  refuses = λ o s f h. absurd h;
  front = λ o s y q r w. ([], sym w.2);
  passes_more = λ c o s y q r w. (w.0, w.1, ap (λ (t : List ℕ). t ++ c) w.2);
  refuses_more = λ c o s f h. absurd h;
}

pub Agrees-refuse : {A : Type 0} (why : Reason) → Agrees {A = A} (items.refuse why) (reading.refuse why)
Agrees-refuse why = record {
  says = λ o s bytes. refl;
  passes = λ o s y q r w. absurd w;
  refuses = λ o s f h. rw h refl;
  front = λ o s y q r w. absurd w;
  passes_more = λ c o s y q r w. absurd w;
  refuses_more = λ c o s f h. h;
}

-- ---- padding

abbrev zeros_item : ℕ → Item (Unit {0})
zeros_item k = record {
  Passed = λ o s x q r. (s ≡ replicate k 0 ++ r) × (q ≡ o + k);
  Refused = λ o s f. (i : ℕ) × (b : ℕ) × (more : List ℕ) × (i < k) × (s ≡ replicate i 0 ++ suc b ∷ more) × (f ≡ fault (o + i) reasons.Padding);
}

zeros_say : (k o : ℕ) (s : List ℕ) → Says (zeros_item k) o s (zeros k o s)
zeros_say zero o s = (refl, omega arith)
zeros_say (suc k) o [] = tt
zeros_say (suc k) o (zero ∷ s) = one_more (zeros k (suc o) s) (zeros_say k (suc o) s)
  where
    one_more : (read : Outcome (Unit {0})) → Says (zeros_item k) (suc o) s read → Says (zeros_item (suc k)) o (zero ∷ s) read
    one_more (Done x q r) w = (ap (λ (t : List ℕ). 0 ∷ t) w.0, omega (arith, w.1))
    one_more (Faulty f) w =
        let lt : w.0 < k = w.3 in
        let same : suc o + w.0 ≡ o + suc w.0 = omega arith in
        (suc w.0, w.1, w.2, omega arith, ap (λ (t : List ℕ). 0 ∷ t) w.4, w.5 ∙ ap (λ (p : ℕ). fault p reasons.Padding) same)
    one_more Partial w = tt
zeros_say (suc k) o (suc b ∷ s) = let same : o ≡ o + 0 = omega arith in (0, b, s, omega arith, refl, ap (λ (p : ℕ). fault p reasons.Padding) same)

pub zeros_pass : (k o : ℕ) (r : List ℕ) → zeros k o (replicate k 0 ++ r) ≡ Done tt (o + k) r
zeros_pass zero o r = let e : o + 0 ≡ o = omega arith in rw e refl
zeros_pass (suc k) o r = let e : o + suc k ≡ suc o + k = omega arith in rw e (zeros_pass k (suc o) r)

zeros_refuse : (k i o b : ℕ) (more : List ℕ) → i < k → zeros k o (replicate i 0 ++ suc b ∷ more) ≡ Faulty (fault (o + i) reasons.Padding)
zeros_refuse zero i o b more h = absurd (omega arith)
zeros_refuse (suc k) zero o b more h = let e : o + 0 ≡ o = omega arith in rw e refl
zeros_refuse (suc k) (suc i) o b more h = let e : o + suc i ≡ suc o + i = omega arith in rw e (zeros_refuse k i (suc o) b more (omega arith))

pub Agrees-padding : (a end : ℕ) → Agrees (items.padding a end) (reading.padding a end)
unfolding reading.padding
Agrees-padding a end = record {
  says = λ o s bytes. elim (cases_lt end (o + gap_to a o)) [
    | inl lt ↦ rw (lt-ltb _ _ lt) (padding_overruns lt refl)
    | inr le ↦ rw (le-ltb _ _ le) (says_as (zeros_item (gap_to a o)) (items.padding a end) o s (λ x q r w. (w.0, w.1, omega (arith, w.1, le))) (λ f w. not_zero w.0 w.1 w.2 le w.3 w.4 w.5) (zeros (gap_to a o) o s) (zeros_say (gap_to a o) o s))
  ];
  passes = λ o s x q r w. let fits : o + gap_to a o ≤ end = omega (arith, w.1, w.2) in rw (le-ltb _ _ fits, w.0, w.1) (zeros_pass (gap_to a o) o r);
  refuses = λ o s f h. elim h [
    | padding_overruns lt e ↦ rw (lt-ltb _ _ lt, e) refl
    | not_zero i b more le lt is e ↦ rw (le-ltb _ _ le, is, e) (zeros_refuse (gap_to a o) i o b more lt)
  ];
  front = λ o s x q r w. (pad a o, w.0);
  passes_more = λ c o s x q r w. (ap (λ (t : List ℕ). t ++ c) w.0 ∙ append_assoc (pad a o) r c, w.1, w.2);
  refuses_more = λ c o s f h. elim h [
    | padding_overruns lt e ↦ padding_overruns lt e
    | not_zero i b more le lt is e ↦ not_zero i b (more ++ c) le lt (ap (λ (t : List ℕ). t ++ c) is ∙ append_assoc (replicate i 0) (suc b ∷ more) c) e
  ];
}

-- ---- numbers

module _ (order : Order) (w end : ℕ) (row : ℕ → ℕ → Option Reason) where
  -- the w bytes that are there are the number's
  number_there : (s : List ℕ) → IsBytes s → w ≤ length s → (number_of order (take w s) < 256 ^ w) × (s ≡ num order w (number_of order (take w s)) ++ drop w s)
  number_there s bytes h =
      let front : s ≡ take w s ++ drop w s = sym (take-append-drop w s) in
      let fits = IsBytes-front s (take w s) (drop w s) front bytes in
      let len : length (take w s) ≡ w = omega (arith, length-take w s) in
      (number_of-below order (take w s) w len fits, rw (num-number_of order (take w s) w len fits) front)

  number_of_front : (n : ℕ) (r : List ℕ) → n < 256 ^ w → number_of order (take w (num order w n ++ r)) ≡ n
  number_of_front n r h = rw (take_at (num order w n) r w (length-num order w n)) (number_of-num order w n h)

  number_long : (n : ℕ) (r : List ℕ) → w ≤ length (num order w n ++ r)
  number_long n r = omega (arith, length-append (num order w n) r, length-num order w n)

  row_says : (o : ℕ) (s : List ℕ) (n : ℕ) (r : List ℕ) → o + w ≤ end → (n < 256 ^ w) × (s ≡ num order w n ++ r) → (found : Option Reason) → row (o + w) n ≡ found → Says (items.number order w end row) o s (validated found n o (o + w) r)
  row_says o s n r fits there None e = (there.0, there.1, refl, fits, e)
  row_says o s n r fits there (Some why) e = number_refused n r why fits there.0 there.1 e refl

  number_says : (o : ℕ) (s : List ℕ) → IsBytes s → Says (items.number order w end row) o s (reading.number order w end row o s)
  unfolding reading.number
  number_says o s bytes = elim (cases_lt end (o + w)) [
    | inl lt ↦ rw (lt-ltb _ _ lt) (number_overruns lt refl)
    | inr fits ↦ elim (cases_lt (length s) w) [
      | inl few ↦ rw (le-ltb _ _ fits, lt-ltb _ _ few) tt
      | inr long ↦ rw (le-ltb _ _ fits, le-ltb _ _ long) (row_says o s (number_of order (take w s)) (drop w s) fits (number_there s bytes long) _ refl)
    ]
  ]

  number_passes : (o : ℕ) (s : List ℕ) (x q : ℕ) (r : List ℕ) → (items.number order w end row).Passed o s x q r → reading.number order w end row o s ≡ Done x q r
  unfolding reading.number
  number_passes o s x q r h =
      let fits : o + w ≤ end = omega (arith, h.2, h.3) in
      let ok : row (o + w) x ≡ None = rw h.2 at h.4 in
      rw (h.1, le-ltb _ _ fits, le-ltb _ _ (number_long x r), number_of_front x r h.0, drop_at (num order w x) r w (length-num order w x), ok, h.2) refl

  number_refuses : (o : ℕ) (s : List ℕ) (f : Fault) → (items.number order w end row).Refused o s f → reading.number order w end row o s ≡ Faulty f
  unfolding reading.number
  number_refuses o s f (number_overruns lt e) = rw (lt-ltb _ _ lt, e) refl
  number_refuses o s f (number_refused n more why fits lt is found e) =
      rw (is, le-ltb _ _ fits, le-ltb _ _ (number_long n more), number_of_front n more lt, found, e) refl

  pub Agrees-number : Agrees (items.number order w end row) (reading.number order w end row)
  Agrees-number = record {
    says = number_says;
    passes = number_passes;
    refuses = number_refuses;
    front = λ o s x q r h. (num order w x, h.1);
    passes_more = λ c o s x q r h. (h.0, ap (λ (t : List ℕ). t ++ c) h.1 ∙ append_assoc (num order w x) r c, h.2, h.3, h.4);
    refuses_more = λ c o s f h. elim h [
      | number_overruns lt e ↦ number_overruns lt e
      | number_refused n more why fits lt is found e ↦ number_refused n (more ++ c) why fits lt (ap (λ (t : List ℕ). t ++ c) is ∙ append_assoc (num order w n) more c) found e
    ];
  }

-- ---- texts

-- what is given of a text is the prefix of what is taken
taken_longer : (n : ℕ) (given more : List ℕ) → length given ≤ n → take n (given ++ more) ≡ given ++ take (n - length given) more
taken_longer n [] more h = let e : n - 0 ≡ n = omega arith in rw e refl
taken_longer zero (b ∷ given) more h = absurd (omega arith)
taken_longer (suc n) (b ∷ given) more h =
    let e : suc n - suc (length given) ≡ n - length given = omega arith in
    rw e (ap (λ (t : List ℕ). b ∷ t) (taken_longer n given more (omega arith)))

module _ (k : WantedText) (n : ℕ) where
  -- the bytes that are there break within them, or are no text of the kind
  breaks : (o : ℕ) (s : List ℕ) → (break_at k (take n s) < length (take n s)) ⊎ ((length (take n s) ≡ n) × (IsWanted k (take n s) → ⊥)) → TextFault k n o s (fault (o + break_at k (take n s)) (text_reason k))
  breaks o s broken =
      record { given = take n s; more = drop n s; bytes = sym (take-append-drop n s); no_more = omega (arith, length-take n s); front = break_at k (take n s); breaks = break_is k (take n s); broken = broken; is_fault = refl }

  text_says : (o : ℕ) (s : List ℕ) → Says (items.text k n) o s (reading.text k n o s)
  unfolding reading.text
  text_says o s = elim (cases_lt (break_at k (take n s)) (length (take n s))) [
    | inl lt ↦ rw (lt-ltb _ _ lt) (breaks o s (inl lt))
    | inr whole ↦ elim (cases_lt (length s) n) [
      | inl few ↦ rw (le-ltb _ _ whole, lt-ltb _ _ few) tt
      | inr long ↦ rw (le-ltb _ _ whole, le-ltb _ _ long) (by_kind (omega (arith, length-take n s)) (is_kind k (take n s)) refl)
    ]
  ]
    where
      by_kind : length (take n s) ≡ n → (b : Bool) → is_kind k (take n s) ≡ b → Says (items.text k n) o s (cond b (Done (take n s) (o + n) (drop n s)) (Faulty (fault (o + break_at k (take n s)) (text_reason k))))
      by_kind len true e = (sym (take-append-drop n s), len, wanted_is k (take n s) e, refl)
      by_kind len false e = breaks o s (inr (len, not_wanted k (take n s) e))

  text_passes : (o : ℕ) (s t : List ℕ) (q : ℕ) (r : List ℕ) → (items.text k n).Passed o s t q r → reading.text k n o s ≡ Done t q r
  unfolding reading.text
  text_passes o s t q r h =
      let taken : take n (t ++ r) ≡ t = take_at t r n h.1 in
      let unbroken : ltb (break_at k t) (length t) ≡ false = le-ltb _ _ (omega (arith, break_whole k t h.2)) in
      let long : ltb (length (t ++ r)) n ≡ false = le-ltb _ _ (omega (arith, length-append t r, h.1)) in
      rw (h.0, taken, unbroken, long, is_wanted k t h.2, drop_at t r n h.1, h.3) refl

  text_refuses : (o : ℕ) (s : List ℕ) (f : Fault) → TextFault k n o s f → reading.text k n o s ≡ Faulty f
  unfolding reading.text
  text_refuses o s f h = let front_is : break_at k h.given ≡ h.front = one_break k h.given (break_at k h.given) h.front (break_is k h.given) h.breaks in elim h.broken [
    | inl less ↦
        let lt : break_at k h.given < length h.given = omega arith in
        let taken : take n s ≡ h.given ++ take (n - length h.given) h.more = rw h.bytes (taken_longer n h.given h.more h.no_more) in
        let same : break_at k (h.given ++ take (n - length h.given) h.more) ≡ break_at k h.given = break_more k h.given _ lt in
        let short : ltb (break_at k h.given) (length (h.given ++ take (n - length h.given) h.more)) ≡ true = lt-ltb _ _ (omega (arith, length-append h.given (take (n - length h.given) h.more))) in
        rw (taken, same, short, h.is_fault, front_is) refl
    | inr whole ↦
        let taken : take n s ≡ h.given = rw h.bytes (take_at h.given h.more n whole.0) in
        let long : ltb (length s) n ≡ false = le-ltb _ _ (omega (arith, length-append h.given h.more, ap length h.bytes, whole.0)) in
        elim (cases_lt (break_at k h.given) (length h.given)) [
          | inl lt ↦ rw (taken, lt-ltb _ _ lt, h.is_fault, front_is) refl
          | inr le ↦ rw (taken, le-ltb _ _ le, long, is_not_wanted k h.given whole.1, h.is_fault, front_is) refl
        ]
  ]

  text_more : (c : List ℕ) (o : ℕ) (s : List ℕ) (f : Fault) → TextFault k n o s f → TextFault k n o (s ++ c) f
  text_more c o s f h = record { given = h.given; more = h.more ++ c; bytes = ap (λ (t : List ℕ). t ++ c) h.bytes ∙ append_assoc h.given h.more c; no_more = h.no_more; front = h.front; breaks = h.breaks; broken = h.broken; is_fault = h.is_fault }

  pub Agrees-text : Agrees (items.text k n) (reading.text k n)
  Agrees-text = record {
    says = λ o s bytes. text_says o s;
    passes = text_passes;
    refuses = text_refuses;
    front = λ o s t q r h. (t, h.0);
    passes_more = λ c o s t q r h. (ap (λ (u : List ℕ). u ++ c) h.0 ∙ append_assoc t r c, h.1, h.2, h.3);
    refuses_more = text_more;
  }

nul_says : (o : ℕ) (s : List ℕ) → Says items.nul o s (reading.nul o s)
nul_says o [] = tt
nul_says o (zero ∷ s) = (refl, refl)
nul_says o (suc b ∷ s) = (b, s, refl, refl)

pub Agrees-nul : Agrees items.nul reading.nul
Agrees-nul = record {
  says = λ o s bytes. nul_says o s;
  passes = λ o s x q r w. rw (w.0, w.1) refl;
  refuses = λ o s f h. rw (h.2, h.3) refl;
  front = λ o s x q r w. (0 ∷ [], w.0);
  passes_more = λ c o s x q r w. (ap (λ (t : List ℕ). t ++ c) w.0, w.1);
  refuses_more = λ c o s f h. (h.0, h.1 ++ c, ap (λ (t : List ℕ). t ++ c) h.2, h.3);
}

-- ---- signatures

-- every text of the kind is the signature of one type
abbrev pub IsOfSingles : WantedText → Type 0
IsOfSingles k = (t : List ℕ) → IsWanted k t → IsWanted (Of kinds.Single) t

signature_says : (k : WantedText) → IsOfSingles k → (n o : ℕ) (s : List ℕ) (read : Outcome (List ℕ)) → Says (items.text k n) o s read → Says (items.signature k n) o s (after read (λ t. reading.pure (type_spelled t)))
signature_says k singles n o s (Done t q r) was =
    let single = single_text t (singles t was.2) in
    (single.0, rw single.1 was.2, rw single.1 was.0, rw single.1 was.1, was.3)
signature_says k singles n o s (Faulty f) h = h
signature_says k singles n o s Partial h = tt

pub Agrees-signature : (k : WantedText) → IsOfSingles k → (n : ℕ) → Agrees (items.signature k n) (reading.signature k n)
Agrees-signature k singles n = record {
  says = λ o s bytes. signature_says k singles n o s (reading.text k n o s) (text_says k n o s);
  passes = λ o s x q r w.
      let single = text_single x w.0 in
      rw (text_passes k n o s (sig x) q r (w.2, w.3, w.1, w.4), single.1) refl;
  refuses = λ o s f h. rw (text_refuses k n o s f h) refl;
  front = λ o s x q r w. (sig x, w.2);
  passes_more = λ c o s x q r w. (w.0, w.1, ap (λ (u : List ℕ). u ++ c) w.2 ∙ append_assoc (sig x) r c, w.3, w.4);
  refuses_more = λ c o s f h. text_more k n c o s f h;
}

-- ---- ends

pub Agrees-validate : (row : Option Reason) → Agrees (items.validate row) (reading.validate row)
Agrees-validate None = Agrees-pure tt
Agrees-validate (Some why) = Agrees-refuse why

pub Agrees-bounded : {A : Type 0} (n : ℕ) (item : ℕ → Item A) (run : ℕ → Reader A) → ((end : ℕ) → Agrees (item end) (run end)) → Agrees (items.bounded n item) (reading.bounded n run)
Agrees-bounded n item run agrees = record {
  says = λ o s bytes. says_as (item (o + n)) (items.bounded n item) o s (λ x q r h. h) (λ f h. h) (run (o + n) o s) ((agrees (o + n)).says o s bytes);
  passes = λ o. (agrees (o + n)).passes o;
  refuses = λ o. (agrees (o + n)).refuses o;
  front = λ o. (agrees (o + n)).front o;
  passes_more = λ c o. (agrees (o + n)).passes_more c o;
  refuses_more = λ c o. (agrees (o + n)).refuses_more c o;
}

pub Agrees-ends : (end : ℕ) → Agrees (items.ends end) (reading.ends end)
unfolding reading.ends
Agrees-ends end = record {
  says = λ o s bytes. elim (cases_lt o end) [
    | inl lt ↦ rw (lt-ltb _ _ lt) (lt, refl)
    | inr le ↦ rw (le-ltb _ _ le) (at_end o s (eqb o end) refl)
  ];
  passes = λ o s x q r h. let past : end ≤ o = omega (arith, h.0) in rw (le-ltb _ _ past, eq-eqb o end h.0, h.1, h.2) refl;
  refuses = λ o s f h. rw (lt-ltb _ _ h.0, h.1) refl;
  front = λ o s x q r h. ([], sym h.2);
  passes_more = λ c o s x q r h. (h.0, h.1, ap (λ (t : List ℕ). t ++ c) h.2);
  refuses_more = λ c o s f h. h;
}
  where
    at_end : (o : ℕ) (s : List ℕ) (b : Bool) → eqb o end ≡ b → Says (items.ends end) o s (cond b (Done tt o s) Partial)
    at_end o s true e = (eqb-true _ _ e, refl, refl)
    at_end o s false e = tt

-- The contents of an array.

-- an item takes at least one byte
abbrev pub Moves : {A : Type 0} → Item A → Type 0
Moves {A} part = (o : ℕ) (s : List ℕ) (v : A) (q : ℕ) (r : List ℕ) → part.Passed o s v q r → o < q

module _ {A : Type 0} (part : List A → Item A) (run : List A → Reader A) (agrees : (before : List A) → Agrees (part before) (run before)) (end : ℕ) where
  seq_front : (vs before : List A) (o : ℕ) (s : List ℕ) (q : ℕ) (r : List ℕ) → Sequence part before vs o s q r → (given : List ℕ) × (s ≡ given ++ r)
  seq_front [] before o s q r h = ([], sym h.1)
  seq_front (v ∷ vs) before o s q r h =
      let a = (agrees before).front o s v h.0 h.1 h.2 in
      let b = seq_front vs (v ∷ before) h.0 h.1 q r h.3 in
      (a.0 ++ b.0, a.1 ∙ ap (λ (t : List ℕ). a.0 ++ t) b.1 ∙ sym (append_assoc a.0 b.0 r))

  seq_more : (c : List ℕ) (vs before : List A) (o : ℕ) (s : List ℕ) (q : ℕ) (r : List ℕ) → Sequence part before vs o s q r → Sequence part before vs o (s ++ c) q (r ++ c)
  seq_more c [] before o s q r h = (h.0, ap (λ (t : List ℕ). t ++ c) h.1)
  seq_more c (v ∷ vs) before o s q r h = (h.0, h.1 ++ c, (agrees before).passes_more c o s v h.0 h.1 h.2, seq_more c vs (v ∷ before) h.0 h.1 q r h.3)

  stops_more : (c : List ℕ) (vs before : List A) (o : ℕ) (s : List ℕ) (f : Fault) → StopsIn part end before vs o s f → StopsIn part end before vs o (s ++ c) f
  stops_more c [] before o s f h = (h.0, (agrees before).refuses_more c o s f h.1)
  stops_more c (v ∷ vs) before o s f h = (h.0, h.1 ++ c, (agrees before).passes_more c o s v h.0 h.1 h.2, stops_more c vs (v ∷ before) h.0 h.1 f h.3)

  -- parts up to the end, after those before
  abbrev onward : List A → Item (List A)
  onward before = record { Passed = λ o s vs q r. Sequence part before vs o s q r × (q ≡ end); Refused = λ o s f. (vs : List A) × StopsIn part end before vs o s f }

  stop_says : (before : List A) (o : ℕ) (s : List ℕ) (b : Bool) → eqb o end ≡ b → Says (onward before) o s (cond b (Done [] o s) Partial)
  stop_says before o s true e = ((refl, refl), eqb-true _ _ e)
  stop_says before o s false e = tt

  up_to_says : (turns o : ℕ) (s : List ℕ) (before : List A) → IsBytes s → Says (onward before) o s (up_to turns end run before o s)
  up_to_says zero o s before bytes = stop_says before o s (eqb o end) refl
  up_to_says (suc turns) o s before bytes = elim (cases_lt o end) [
    | inr le ↦ rw (le-ltb _ _ le) (stop_says before o s (eqb o end) refl)
    | inl lt ↦ rw (lt-ltb _ _ lt) (turn lt (λ v p t. up_to_says turns p t (v ∷ before)) (run before o s) ((agrees before).says o s bytes))
  ]
    where
      more : (v : A) (p : ℕ) (t : List ℕ) → (part before).Passed o s v p t → (read : Outcome (List A)) → Says (onward (v ∷ before)) p t read → Says (onward before) o s (after read (λ vs. reading.pure (v ∷ vs)))
      more v p t was (Done vs q r) h = ((p, t, was, h.0), h.1)
      more v p t was (Faulty f) h = (v ∷ h.0, (p, t, was, h.1))
      more v p t was Partial h = tt

      turn : o < end → ((v : A) (p : ℕ) (t : List ℕ) → IsBytes t → Says (onward (v ∷ before)) p t (up_to turns end run (v ∷ before) p t)) → (read : Outcome A) → Says (part before) o s read
          → Says (onward before) o s (after read (λ v p t. after (up_to turns end run (v ∷ before) p t) (λ vs. reading.pure (v ∷ vs))))
      turn lt rest (Done v p t) was =
          let front = (agrees before).front o s v p t was in
          more v p t was (up_to turns end run (v ∷ before) p t) (rest v p t (IsBytes-rest s front.0 t front.1 bytes))
      turn lt rest (Faulty f) h = ([], (lt, h))
      turn lt rest Partial h = tt

  module _ (moves : (before : List A) → Moves (part before)) where
    seq_forward : (vs before : List A) (o : ℕ) (s : List ℕ) (q : ℕ) (r : List ℕ) → Sequence part before vs o s q r → o ≤ q
    seq_forward [] before o s q r h = omega (arith, h.0)
    seq_forward (v ∷ vs) before o s q r h = omega (arith, moves before o s v h.0 h.1 h.2, seq_forward vs (v ∷ before) h.0 h.1 q r h.3)

    stops_before : (vs before : List A) (o : ℕ) (s : List ℕ) (f : Fault) → StopsIn part end before vs o s f → o < end
    stops_before [] before o s f h = h.0
    stops_before (v ∷ vs) before o s f h = omega (arith, moves before o s v h.0 h.1 h.2, stops_before vs (v ∷ before) h.0 h.1 f h.3)

    at_end : (turns : ℕ) (before : List A) (s : List ℕ) → up_to turns end run before end s ≡ Done [] end s
    at_end zero before s = rw (eq-eqb end end refl) refl
    at_end (suc turns) before s = let no_more : ltb end end ≡ false = le-ltb _ _ (omega arith) in rw (no_more, eq-eqb end end refl) refl

    up_to_passes : (turns : ℕ) (vs before : List A) (o : ℕ) (s : List ℕ) (r : List ℕ) → end ≤ o + turns → Sequence part before vs o s end r → up_to turns end run before o s ≡ Done vs end r
    up_to_passes turns [] before o s r enough h = rw (← h.0, h.1) (at_end turns before s)
    up_to_passes zero (v ∷ vs) before o s r enough h =
        absurd (omega (arith, moves before o s v h.0 h.1 h.2, seq_forward vs (v ∷ before) h.0 h.1 end r h.3))
    up_to_passes (suc turns) (v ∷ vs) before o s r enough h =
        let step : o < h.0 = moves before o s v h.0 h.1 h.2 in
        let on : ltb o end ≡ true = lt-ltb _ _ (omega (arith, seq_forward vs (v ∷ before) h.0 h.1 end r h.3)) in
        let ih = up_to_passes turns vs (v ∷ before) h.0 h.1 r (omega arith) h.3 in
        rw (on, (agrees before).passes o s v h.0 h.1 h.2, ih) refl

    up_to_refuses : (turns : ℕ) (vs before : List A) (o : ℕ) (s : List ℕ) (f : Fault) → end ≤ o + turns → StopsIn part end before vs o s f → up_to turns end run before o s ≡ Faulty f
    up_to_refuses zero vs before o s f enough h = absurd (omega (arith, stops_before vs before o s f h))
    up_to_refuses (suc turns) [] before o s f enough h =
        rw (lt-ltb _ _ h.0, (agrees before).refuses o s f h.1) refl
    up_to_refuses (suc turns) (v ∷ vs) before o s f enough h =
        let step : o < h.0 = moves before o s v h.0 h.1 h.2 in
        let on : ltb o end ≡ true = lt-ltb _ _ (omega (arith, stops_before vs (v ∷ before) h.0 h.1 f h.3)) in
        let ih = up_to_refuses turns vs (v ∷ before) h.0 h.1 f (omega arith) h.3 in
        rw (on, (agrees before).passes o s v h.0 h.1 h.2, ih) refl

pub Agrees-contents : {A : Type 0} (n : ℕ) (part : ℕ → List A → Item A) (run : ℕ → List A → Reader A) → ((end : ℕ) (before : List A) → Agrees (part end before) (run end before)) → ((end : ℕ) (before : List A) → Moves (part end before)) → Agrees (items.contents n part) (reading.contents n run)
Agrees-contents n part run agrees moves = record {
  says = λ o s bytes. says_as (onward (part (o + n)) (run (o + n)) (agrees (o + n)) (o + n) []) (items.contents n part) o s (λ vs q r h. h) (λ f h. h) (reading.contents n run o s) (up_to_says (part (o + n)) (run (o + n)) (agrees (o + n)) (o + n) n o s [] bytes);
  passes = λ o s vs q r h.
      let at_end : Sequence (part (o + n)) [] vs o s (o + n) r = rw h.1 at h.0 in
      rw h.1 (up_to_passes (part (o + n)) (run (o + n)) (agrees (o + n)) (o + n) (moves (o + n)) n vs [] o s r (omega arith) at_end);
  refuses = λ o s f h. up_to_refuses (part (o + n)) (run (o + n)) (agrees (o + n)) (o + n) (moves (o + n)) n h.0 [] o s f (omega arith) h.1;
  front = λ o s vs q r h. seq_front (part (o + n)) (run (o + n)) (agrees (o + n)) (o + n) vs [] o s q r h.0;
  passes_more = λ c o s vs q r h. (seq_more (part (o + n)) (run (o + n)) (agrees (o + n)) (o + n) c vs [] o s q r h.0, h.1);
  refuses_more = λ c o s f h. (h.0, stops_more (part (o + n)) (run (o + n)) (agrees (o + n)) (o + n) c h.0 [] o s f h.1);
}
