-- What is read of values before an end: more bytes are wanted only if some before the end are
-- missing, and no fault is that of an input that ends.
use Rattle.std.proofs.Common.{◌≡◌, ℕ, zero, suc, ◌+◌, ◌<◌, ◌≤◌, List, [], ◌∷◌, length, take, drop, Bool, true, false, cond, ltb, eqb, Option, Some, None, refl, subst, arith, inl, inr}
use Rattle.std.proofs.lemmas.Bool.{cases_lt, eq-eqb, le-ltb, lt-ltb, ltb-false}
use Rattle.std.proofs.lemmas.List.{length-drop}
use Rattle.dbus_texts.specs.Types.{NumberCode, BOOLEAN, UNIX_FD, TypeTree, NumberType, TextType, VariantType, ArrayType, StructType, EntryType, TypeTrees, NoTypes, MoreTypes, IsShaped, AreShaped}
use Rattle.dbus_types.specs.Alignments.{width, length_width, alignment_of}
use Rattle.dbus_texts.proofs.KindFacts.{shaped_of}
use Rattle.dbus_value_model.specs.WantedTexts.{WantedText, IsWanted, Of, kind_of}
use Rattle.dbus_value_model.specs.ComputedTexts.{is_kind, break_at}
use Rattle.dbus_value_model.specs.Bytes.{gap_to}
use Rattle.dbus_value_model.specs.Items.{fault, text_reason}
use Rattle.dbus_value_model.specs.ValueItems.{array_row, index_row, number_row, text_row}
use Rattle.dbus_value_model.specs.Values.{ValueTree}
use Rattle.dbus_value_model.specs.Reading.{Reader, Outcome, Done, Faulty, Partial, after, contents, ends, fields, items, nowhere, nul, number, number_of, padding, signature, text, up_to, validated, value, zeros}
use Rattle.dbus_value_model.specs.declared.fault.Reason.{Reason}
use Rattle.dbus_value_model.specs.declared.fault.Reason.TheVariants as reasons
use Rattle.dbus_value_model.specs.declared.limits.Bounds.{Bounds}
use Rattle.dbus_value_model.specs.declared.order.Order.{Order}
use Rattle.dbus_texts.specs.declared.text_kind.TextKind.TheVariants as kinds
use Rattle.dbus_value_laws.proofs.KindLaws.{single_text, wanted_is}
use Rattle.dbus_value_laws.proofs.OwnItems.{IsOfSingles, chosen}
use Rattle.dbus_value_laws.proofs.ValueItemLaws.{basic_complete, width_positive}
use Rattle.dbus_stream.specs.Lasting.{is_truncated}

-- what was read from a place on: P holds of what was read and of the place after it
abbrev pub Fits : {A : Type 0} → (A → ℕ → Type 0) → (end o : ℕ) → List ℕ → Outcome A → Type 0
Fits P end o s (Done x q r) = (q + length r ≡ o + length s) × (q ≤ end) × P x q
Fits P end o s (Faulty f) = is_truncated f.reason ≡ false
Fits P end o s Partial = o + length s < end

-- the same from an earlier place on
pub moved_fits : {A : Type 0} (P : A → ℕ → Type 0) (end p o : ℕ) (t s : List ℕ) → p + length t ≡ o + length s → (read : Outcome A) → Fits P end p t read → Fits P end o s read
moved_fits P end p o t s same (Done y q r) z = (omega (arith, same, z.0), z.1, z.2)
moved_fits P end p o t s same (Faulty f) z = z
moved_fits P end p o t s same Partial z = omega (arith, same, z)

pub after_fits : {A B : Type 0} (P : A → ℕ → Type 0) (Q : B → ℕ → Type 0) (end o : ℕ) (s : List ℕ) (read : Outcome A) (next : A → Reader B) → Fits P end o s read
    → ((x : A) (q : ℕ) (r : List ℕ) → P x q → q ≤ end → Fits Q end q r (next x q r)) → Fits Q end o s (after read next)
after_fits P Q end o s (Done x p t) next h k = moved_fits Q end p o t s h.0 (next x p t) (k x p t h.2 h.1)
after_fits P Q end o s (Faulty f) next h k = h
after_fits P Q end o s Partial next h k = h

-- up to an earlier end, and of what was read something else
pub fits_as : {A : Type 0} (P Q : A → ℕ → Type 0) (near end o : ℕ) (s : List ℕ) → near ≤ end → ((x : A) (q : ℕ) → P x q → Q x q) → (read : Outcome A) → Fits P near o s read → Fits Q end o s read
fits_as P Q near end o s le weaker (Done x q r) h = (h.0, omega (arith, h.1, le), weaker x q h.2)
fits_as P Q near end o s le weaker (Faulty f) h = h
fits_as P Q near end o s le weaker Partial h = omega (arith, h, le)

-- ---- rows

abbrev pub IsOwn : Option Reason → Type 0
IsOwn None = Unit {0}
IsOwn (Some why) = is_truncated why ≡ false

pub own_if : (b : Bool) (why : Reason) (other : Option Reason) → is_truncated why ≡ false → IsOwn other → IsOwn (cond b (Some why) other)
own_if true why other h k = h
own_if false why other h k = k

pub own_else : (b : Bool) (why : Reason) (other : Option Reason) → is_truncated why ≡ false → IsOwn other → IsOwn (cond b other (Some why))
own_else true why other h k = k
own_else false why other h k = h

own_index : (fds : Option ℕ) (n : ℕ) → IsOwn (index_row fds n)
own_index None n = tt
own_index (Some limit) n = own_else (ltb n limit) reasons.FdIndex None refl tt

own_number : (fds : Option ℕ) (k : NumberCode) (p n : ℕ) → IsOwn (number_row fds k p n)
own_number fds BOOLEAN p n = own_else (ltb n 2) reasons.Bool None refl tt
own_number fds UNIX_FD p n = own_index fds n
own_number fds k p n = tt

pub own_text : (end p n : ℕ) → IsOwn (text_row end p n)
own_text end p n = own_if (ltb end (p + n + 1)) reasons.Overrun None refl tt

own_array : (bounds : Bounds) (t : TypeTree) (end p n : ℕ) → IsOwn (array_row bounds t end p n)
own_array bounds t end p n = own_if (ltb bounds.array n) reasons.ArrayTooLong _ refl (own_if (ltb end (p + gap_to (alignment_of t) p + n)) reasons.Overrun None refl tt)

pub text_within : (end p n : ℕ) → text_row end p n ≡ None → p + n + 1 ≤ end
text_within end p n e = elim (chosen (ltb end (p + n + 1)) _ _ _ e) [
  | inl h ↦ absurd (cc (h.1))
  | inr h ↦ ltb-false _ _ h.0
]

array_within : (bounds : Bounds) (t : TypeTree) (end p n : ℕ) → array_row bounds t end p n ≡ None → p + gap_to (alignment_of t) p + n ≤ end
array_within bounds t end p n e = elim (chosen (ltb bounds.array n) _ _ _ e) [
  | inl h ↦ absurd (cc (h.1))
  | inr h ↦ elim (chosen (ltb end (p + gap_to (alignment_of t) p + n)) _ _ _ h.1) [
    | inl k ↦ absurd (cc (k.1))
    | inr k ↦ ltb-false _ _ k.0
  ]
]

-- ---- the parts of values

zeros_fit : (k end o : ℕ) (s : List ℕ) → o + k ≤ end → Fits (λ x q. q ≡ o + k) end o s (zeros k o s)
zeros_fit zero end o s le = (refl, omega (arith, le), omega arith)
zeros_fit (suc k) end o [] le = omega (arith, le)
zeros_fit (suc k) end o (zero ∷ s) le = go (zeros k (suc o) s) (zeros_fit k end (suc o) s (omega (arith, le)))
  where
    go : (read : Outcome (Unit {0})) → Fits (λ x q. q ≡ suc o + k) end (suc o) s read → Fits (λ x q. q ≡ o + suc k) end o (zero ∷ s) read
    go (Done x q r) h = (omega (arith, h.0), h.1, omega (arith, h.2))
    go (Faulty f) h = h
    go Partial h = omega (arith, h)
zeros_fit (suc k) end o (suc b ∷ s) le = refl

pub padding_fits : (a end o : ℕ) (s : List ℕ) → Fits (λ x q. q ≡ o + gap_to a o) end o s (padding a end o s)
unfolding padding
padding_fits a end o s = elim (cases_lt end (o + gap_to a o)) [
  | inl lt ↦ rw (lt-ltb _ _ lt) refl
  | inr le ↦ rw (le-ltb _ _ le) (zeros_fit (gap_to a o) end o s le)
]

-- padding that is allowed more room than it has, up to an end of its own
pub padding_to : (a room end o : ℕ) (s : List ℕ) → o + gap_to a o ≤ room → o + gap_to a o ≤ end → Fits (λ x q. q ≡ o + gap_to a o) end o s (padding a room o s)
unfolding padding
padding_to a room end o s low le = rw (le-ltb _ _ low) (zeros_fit (gap_to a o) end o s le)

pub number_fits : (order : Order) (w end : ℕ) (row : ℕ → ℕ → Option Reason) → ((p n : ℕ) → IsOwn (row p n)) → (o : ℕ) (s : List ℕ)
    → Fits (λ n q. (q ≡ o + w) × (row q n ≡ None)) end o s (number order w end row o s)
unfolding number
number_fits order w end row own o s = elim (cases_lt end (o + w)) [
  | inl lt ↦ rw (lt-ltb _ _ lt) refl
  | inr fits ↦ elim (cases_lt (length s) w) [
    | inl few ↦ rw (le-ltb _ _ fits, lt-ltb _ _ few) (omega (arith, fits, few))
    | inr long ↦ rw (le-ltb _ _ fits, le-ltb _ _ long) (by_row fits long (number_of order (take w s)) (row (o + w) (number_of order (take w s))) refl)
  ]
]
  where
    by_row : o + w ≤ end → w ≤ length s → (n : ℕ) (found : Option Reason) → row (o + w) n ≡ found → Fits (λ n q. (q ≡ o + w) × (row q n ≡ None)) end o s (validated found n o (o + w) (drop w s))
    by_row fits long n None e = (omega (arith, length-drop w s, long), fits, (refl, e))
    by_row fits long n (Some why) e = subst IsOwn e (own (o + w) n)

own_reason : (k : WantedText) → is_truncated (text_reason k) ≡ false
own_reason (Of kinds.Text) = refl
own_reason k = refl

pub text_fits : (k : WantedText) (n end o : ℕ) (s : List ℕ) → o + n ≤ end → Fits (λ t q. (q ≡ o + n) × IsWanted k t) end o s (text k n o s)
unfolding text
text_fits k n end o s le = elim (cases_lt (break_at k (take n s)) (length (take n s))) [
  | inl lt ↦ rw (lt-ltb _ _ lt) (own_reason k)
  | inr whole ↦ elim (cases_lt (length s) n) [
    | inl few ↦ rw (le-ltb _ _ whole, lt-ltb _ _ few) (omega (arith, few, le))
    | inr long ↦ rw (le-ltb _ _ whole, le-ltb _ _ long) (by_kind long (is_kind k (take n s)) refl)
  ]
]
  where
    by_kind : n ≤ length s → (b : Bool) → is_kind k (take n s) ≡ b → Fits (λ t q. (q ≡ o + n) × IsWanted k t) end o s (cond b (Done (take n s) (o + n) (drop n s)) (Faulty (fault (o + break_at k (take n s)) (text_reason k))))
    by_kind long true e = (omega (arith, length-drop n s, long), le, (refl, wanted_is k (take n s) e))
    by_kind long false e = own_reason k

pub signature_fits : (k : WantedText) → IsOfSingles k → (n end o : ℕ) (s : List ℕ) → o + n ≤ end → Fits (λ t q. (q ≡ o + n) × IsShaped false t) end o s (signature k n o s)
signature_fits k singles n end o s le =
    after_fits (λ t q. (q ≡ o + n) × IsWanted k t) (λ t q. (q ≡ o + n) × IsShaped false t) end o s (text k n o s) _ (text_fits k n end o s le)
    (λ t q r h low. (refl, low, (h.0, shaped_of _ false 0 0 (single_text t (singles t h.1)).0.0)))

pub nul_fits : (end o : ℕ) (s : List ℕ) → o < end → Fits (λ x q. q ≡ o + 1) end o s (nul o s)
nul_fits end o [] lt = omega (arith, lt)
nul_fits end o (zero ∷ s) lt = (omega arith, omega (arith, lt), refl)
nul_fits end o (suc b ∷ s) lt = refl

pub ends_fit : (end o : ℕ) (s : List ℕ) → o ≤ end → Fits (λ x q. q ≡ end) end o s (ends end o s)
unfolding ends
ends_fit end o s le = elim (cases_lt o end) [
  | inl lt ↦ rw (lt-ltb _ _ lt) refl
  | inr past ↦ (let at : o ≡ end = omega (arith, le, past) in rw (le-ltb _ _ past, eq-eqb o end at) (refl, le, at))
]

-- a value moves on from its place
abbrev pub Moves : {A : Type 0} → ℕ → A → ℕ → Type 0
Moves o v q = o < q

-- ---- contents

module _ {A : Type 0} (part : List A → Reader A) (end : ℕ) (fit : (before : List A) (o : ℕ) (s : List ℕ) → o ≤ end → Fits (Moves o) end o s (part before o s)) where
  stop_fits : (o : ℕ) (s : List ℕ) → o ≡ end → Fits {A = List A} (λ vs q. q ≡ end) end o s (cond (eqb o end) (Done [] o s) Partial)
  stop_fits o s e = rw (eq-eqb o end e) (refl, omega (arith, e), e)

  up_to_fits : (turns : ℕ) (before : List A) (o : ℕ) (s : List ℕ) → o ≤ end → end ≤ o + turns → Fits (λ vs q. q ≡ end) end o s (up_to turns end part before o s)
  up_to_fits zero before o s low enough = stop_fits o s (omega (arith, low, enough))
  up_to_fits (suc turns) before o s low enough = elim (cases_lt o end) [
    | inr past ↦ rw (le-ltb _ _ past) (stop_fits o s (omega (arith, low, past)))
    | inl lt ↦ rw (lt-ltb _ _ lt) (
        after_fits (Moves o) (λ vs q. q ≡ end) end o s (part before o s) _ (fit before o s low) (λ v p t moved le.
        after_fits (λ vs q. q ≡ end) (λ vs q. q ≡ end) end p t (up_to turns end part (v ∷ before) p t) _ (up_to_fits turns (v ∷ before) p t le (omega (arith, moved, enough))) (λ vs q r at le. (refl, le, at))))
  ]

pub contents_fit : {A : Type 0} (n : ℕ) (part : ℕ → List A → Reader A) (end o : ℕ) (s : List ℕ) → o + n ≤ end
    → ((before : List A) (p : ℕ) (t : List ℕ) → p ≤ o + n → Fits (Moves p) (o + n) p t (part (o + n) before p t)) → Fits (λ vs q. q ≡ o + n) end o s (contents n part o s)
contents_fit n part end o s le fit =
    fits_as (λ vs q. q ≡ o + n) (λ vs q. q ≡ o + n) (o + n) end o s le (λ vs q h. h) (contents n part o s) (up_to_fits (part (o + n)) (o + n) fit n [] o s (omega arith) (omega arith))

-- ---- values

-- a reader of values of each type, before each end
abbrev pub AllFit : (ℕ → TypeTree → Reader ValueTree) → Type 0
AllFit inside = (end : ℕ) (b : Bool) (t : TypeTree) → IsShaped b t → (o : ℕ) (s : List ℕ) → o ≤ end → Fits (Moves o) end o s (inside end t o s)

abbrev pub is_some : TypeTrees → Bool
is_some NoTypes = false
is_some (MoreTypes t ts) = true

shaped_parts : (b : Bool) (ts : TypeTrees) → IsShaped b (StructType ts) → AreShaped ts × (is_some ts ≡ true)
shaped_parts b NoTypes h = absurd h
shaped_parts b (MoreTypes t ts) h = (h, refl)

pub fields_fit : (inside : ℕ → TypeTree → Reader ValueTree) → AllFit inside → (end : ℕ) (ts : TypeTrees) → AreShaped ts → (o : ℕ) (s : List ℕ) → o ≤ end
    → Fits (λ vs q. (o ≤ q) × (is_some ts ≡ true → o < q)) end o s (fields (inside end) ts o s)
fields_fit inside all end NoTypes shaped o s le = (refl, le, (omega arith, λ e. absurd cc))
fields_fit inside all end (MoreTypes t ts) shaped o s le =
    after_fits (Moves o) _ end o s (inside end t o s) _ (all end false t shaped.0 o s le) (λ v p u moved low.
    after_fits _ _ end p u (fields (inside end) ts p u) _ (fields_fit inside all end ts shaped.1 p u low) (λ vs q r on le. (refl, le, (omega (arith, moved, on.0), λ e. omega (arith, moved, on.0)))))

module _ (bounds : Bounds) (order : Order) (inside : ℕ → TypeTree → Reader ValueTree) where
  items_fit : (depth_left : ℕ) → ((less : ℕ) → depth_left ≡ suc less → AllFit inside) → AllFit (items bounds order depth_left inside)
  items_fit depth_left all end b (NumberType k) shaped o s le =
      after_fits _ (Moves o) end o s _ _ (padding_fits (width k) end o s) (λ x p t at low.
      after_fits _ (Moves o) end p t _ _ (number_fits order (width k) end (number_row bounds.fds k) (own_number bounds.fds k) p t) (λ n q r h le. (refl, le, omega (arith, at, h.0, width_positive k))))
  items_fit depth_left all end b (TextType k) shaped o s le =
      after_fits _ (Moves o) end o s _ _ (padding_fits (length_width k) end o s) (λ x p t at low.
      after_fits _ (Moves o) end p t _ _ (number_fits order (length_width k) end (text_row end) (own_text end) p t) (λ n q r h le.
      let within = text_within end q n h.1 in
      after_fits _ (Moves o) end q r _ _ (text_fits (kind_of k) n end q r (omega (arith, within))) (λ w i u there le.
      after_fits _ (Moves o) end i u _ _ (nul_fits end i u (omega (arith, there.0, within))) (λ y j z past le. (refl, le, omega (arith, at, h.0, there.0, past))))))
  items_fit zero all end b VariantType shaped o s le = refl
  items_fit (suc less) all end b VariantType shaped o s le =
      after_fits _ (Moves o) end o s _ _ (number_fits order 1 end (text_row end) (own_text end) o s) (λ n q r h le.
      let within = text_within end q n h.1 in
      after_fits _ (Moves o) end q r _ _ (signature_fits (Of kinds.Single) (λ t is. is) n end q r (omega (arith, within))) (λ held i u there le.
      after_fits _ (Moves o) end i u _ _ (nul_fits end i u (omega (arith, there.0, within))) (λ y j z past le.
      after_fits _ (Moves o) end j z _ _ (all less refl end false held there.1 j z le) (λ v k w moved le. (refl, le, omega (arith, h.0, there.0, past, moved))))))
  items_fit zero all end b (ArrayType t) shaped o s le = after_fits _ (Moves o) end o s _ _ (padding_fits 4 end o s) (λ x p t at low. refl)
  items_fit (suc less) all end b (ArrayType t) shaped o s le =
      after_fits _ (Moves o) end o s _ _ (padding_fits 4 end o s) (λ x p u at low.
      after_fits _ (Moves o) end p u _ _ (number_fits order 4 end (array_row bounds t end) (own_array bounds t end) p u) (λ n q r h le.
      let within = array_within bounds t end q n h.1 in
      after_fits _ (Moves o) end q r _ _ (padding_fits (alignment_of t) end q r) (λ y i v there le.
      after_fits _ (Moves o) end i v _ _ (contents_fit n (λ end before. inside end t) end i v (omega (arith, there, within)) (λ before j w low. all less refl (i + n) true t shaped j w low))
      (λ xs j w past le. (refl, le, omega (arith, at, h.0, there, past))))))
  items_fit zero all end b (StructType ts) shaped o s le = after_fits _ (Moves o) end o s _ _ (padding_fits 8 end o s) (λ x p t at low. refl)
  items_fit (suc less) all end b (StructType ts) shaped o s le =
      let parts = shaped_parts b ts shaped in
      after_fits _ (Moves o) end o s _ _ (padding_fits 8 end o s) (λ x p t at low.
      after_fits _ (Moves o) end p t _ _ (fields_fit inside (all less refl) end ts parts.0 p t low) (λ vs q r on le. (refl, le, (let moved = on.1 parts.1 in omega (arith, at, moved)))))
  items_fit depth_left all end false (EntryType k v) shaped o s le = absurd shaped
  items_fit depth_left all end true (EntryType k v) shaped o s le =
      after_fits _ (Moves o) end o s _ _ (padding_fits 8 end o s) (λ x p t at low.
      after_fits _ (Moves o) end p t _ _ (items_fit depth_left all end false k (basic_complete false k shaped.0) p t low) (λ key q r moved le.
      after_fits _ (Moves o) end q r _ _ (items_fit depth_left all end false v shaped.1 q r le) (λ y i u on le. (refl, le, omega (arith, at, moved, on)))))

pub value_fits : (bounds : Bounds) (order : Order) (depth_left : ℕ) → AllFit (value bounds order depth_left)
unfolding value
value_fits bounds order zero = items_fit bounds order nowhere zero (λ less e. absurd cc)
value_fits bounds order (suc depth_left) = items_fit bounds order (value bounds order depth_left) (suc depth_left) (λ less e. value_fits bounds order depth_left)
