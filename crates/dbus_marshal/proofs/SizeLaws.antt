-- A size is where the spelling ends, in both orders, where the limits are kept, and is refused
-- where one is not.
use Rattle.std.proofs.Common.{◌≡◌, ℕ, ◌+◌, ◌≤◌, Bool, true, false, cond, ltb, eqb, List, length, Option, None, Some, Result, Ok, Err, refl, sym, ap, subst, ◌∙◌, arith}
use Rattle.std.proofs.lemmas.Bool.{ltb-true, ltb-false, eqb-true}
use Rattle.dbus_texts.specs.Types.{sig}
use Rattle.dbus_types.specs.Alignments.{width, length_width, alignment_of}
use Rattle.dbus_value_model.specs.declared.limits.Limits.{Limits}
use Rattle.dbus_value_model.specs.declared.order.Order.{Order}
use Rattle.dbus_value_model.specs.declared.value_fault.ValueFault.{ValueFault}
use Rattle.dbus_value_model.specs.declared.value_fault.ValueFault.TheVariants.{Memory, TooDeep, Mixed, Name, ArrayTooLong, TooLong}
use Rattle.dbus_value_model.specs.SizeLimits.{with_value, Inside, Past, Stops, SizeEnds, SizeStops}
use Rattle.dbus_value_model.specs.Values.{ValueTree, ValueTrees, NumberValue, TextValue, VariantValue, ArrayValue, StructValue, EntryValue, NoValues, MoreValues, type_of}
use Rattle.dbus_value_model.specs.Bytes.{gap_to}
use Rattle.dbus_value_model.specs.Spelling.{ended_text, spelling, spellings, IsWithinLimits, AreWithinLimits}
use Rattle.dbus_value_model.specs.Sizes.{Sizing, and_then, passes, item, padding, contents, narrowed, sized, sizes, ◌⊳◌}
use Rattle.dbus_marshal.proofs.Sizing.{length-number, length-ended, length-text, length-variant, length-struct, length-entry, length-array, length-more, length-none}
use Rattle.dbus_marshal.proofs.Written.{value_is, length_value}

module _ (limits : Limits) where
  -- what is answered at o of what would take n bytes there, and keeps its arrays' limits where kept
  -- says so
  abbrev Answers : Option ℕ → ℕ → ℕ → Type 0 → Result ℕ ValueFault → Type 0
  Answers b o n kept (Ok e) = (o + n ≡ e) × kept × Inside limits b e
  Answers b o n kept (Err f) = Stops limits b f (o + n) kept

  record Measures (b : Option ℕ) (z : Sizing) (long : ℕ → ℕ) (kept : ℕ → Type 0) : Type 0 where
    from : (o : ℕ) → Inside limits b o → Answers b o (long o) (kept o) (z o)

  past_more : (b : Option ℕ) (e d : ℕ) → e ≤ d → Past b e → Past b d
  past_more None e d le h = h
  past_more (Some x) e d le h = omega arith

  -- what stops a prefix stops the whole
  stops_more : (b : Option ℕ) (f : ValueFault) (e d : ℕ) (K L : Type 0) → e ≤ d → (L → K) → Stops limits b f e K → Stops limits b f d L
  stops_more b Memory e d K L le back h = h
  stops_more b TooDeep e d K L le back h = h
  stops_more b Mixed e d K L le back h = h
  stops_more b Name e d K L le back h = h
  stops_more b ArrayTooLong e d K L le back h = λ l. past_more b e d le (h (back l))
  stops_more b TooLong e d K L le back h = omega arith

  onward : (b : Option ℕ) (o n m : ℕ) (K L : Type 0) (r : Result ℕ ValueFault) → K → Answers b (o + n) m L r → Answers b o (n + m) (K × L) r
  onward b o n m K L (Ok e) kept w = (omega (arith, w.0), (kept, w.1), w.2)
  onward b o n m K L (Err f) kept w = stops_more b f (o + n + m) (o + (n + m)) L (K × L) (omega arith) (λ x. x.1) w

  after : (b : Option ℕ) (o n : ℕ) (K : Type 0) (y : Sizing) (t : ℕ → ℕ) (l : ℕ → Type 0) (r : Result ℕ ValueFault) → Answers b o n K r → Measures b y t l → Answers b o (n + t (o + n)) (K × l (o + n)) (and_then r y)
  after b o n K y t l (Ok x) w q = onward b o n (t (o + n)) K (l (o + n)) (y x) w.1 (subst (λ (p : ℕ). Answers b p (t p) (l p) (y x)) (sym w.0) (q.from x w.2))
  after b o n K y t l (Err f) w q = stops_more b f (o + n) (o + (n + t (o + n))) K (K × l (o + n)) (omega arith) (λ x. x.0) w

  in_turn : {b : Option ℕ} {z y : Sizing} {s t : ℕ → ℕ} {k l : ℕ → Type 0} → Measures b z s k → Measures b y t l → Measures b (z ⊳ y) (λ o. s o + t (o + s o)) (λ o. k o × l (o + s o))
  in_turn {b} {z} {y} {s} {t} {k} {l} p q = record { from = λ o i. after b o (s o) (k o) y t l (z o) (p.from o i) q }

  same : (b : Option ℕ) (o n m : ℕ) (K L : Type 0) (r : Result ℕ ValueFault) → n ≡ m → (K → L) → (L → K) → Answers b o n K r → Answers b o m L r
  same b o n m K L (Ok e) is there back w = (omega (arith, w.0), there w.1, w.2)
  same b o n m K L (Err f) is there back w = stops_more b f (o + n) (o + m) K L (omega arith) back w

  as_value : {b : Option ℕ} {z : Sizing} {s t : ℕ → ℕ} {k l : ℕ → Type 0} → Measures b z s k → ((o : ℕ) → s o ≡ t o) → ((o : ℕ) → k o → l o) → ((o : ℕ) → l o → k o) → Measures b z t l
  as_value {b} {z} {s} {t} {k} {l} p is there back = record { from = λ o i. same b o (s o) (t o) (k o) (l o) (z o) (is o) (there o) (back o) (p.from o i) }

  -- ---- items

  abbrev Kept : ℕ → Type 0
  Kept o = Unit {0}

  inside_of : (b : Option ℕ) (x : ℕ) → passes b x ≡ false → ltb limits.message x ≡ false → Inside limits b x
  inside_of None x p l = (tt, ltb-false _ _ l)
  inside_of (Some y) x p l = (ltb-false _ _ p, ltb-false _ _ l)

  past_of : (b : Option ℕ) (x : ℕ) → passes b x ≡ true → Past b x
  past_of None x p = absurd cc
  past_of (Some y) x p = ltb-true _ _ p

  tested : (b : Option ℕ) (o n : ℕ) (p l : Bool) → passes b (o + n) ≡ p → ltb limits.message (o + n) ≡ l → Answers b o n (Unit {0}) (cond p (Err ArrayTooLong) (cond l (Err TooLong) (Ok (o + n))))
  tested b o n true l is_past is_long = λ u. past_of b (o + n) is_past
  tested b o n false true is_past is_long = ltb-true _ _ is_long
  tested b o n false false is_past is_long = (refl, tt, inside_of b (o + n) is_past is_long)

  an_item : (b : Option ℕ) (n : ℕ) → Measures b (item limits b n) (λ o. n) Kept
  unfolding item
  an_item b n = record { from = λ o i. tested b o n (passes b (o + n)) (ltb limits.message (o + n)) refl refl }

  padded : (b : Option ℕ) (a o : ℕ) → Inside limits b o → (w : Bool) → eqb (gap_to a o) 0 ≡ w → Answers b o (gap_to a o) (Unit {0}) (cond w (Ok o) (item limits b (gap_to a o) o))
  padded b a o i true is = let none : gap_to a o ≡ 0 = eqb-true _ _ is in (omega (arith, none), tt, i)
  padded b a o i false is = (an_item b (gap_to a o)).from o i

  a_padding : (b : Option ℕ) (a : ℕ) → Measures b (padding limits b a) (gap_to a) Kept
  unfolding padding
  a_padding b a = record { from = λ o i. padded b a o i (eqb (gap_to a o) 0) refl }

  -- ---- an array's contents

  inside_narrowed : (b : Option ℕ) (o : ℕ) → Inside limits b o → Inside limits (narrowed limits b o) o
  unfolding narrowed
  inside_narrowed None o i = (omega arith, i.1)
  inside_narrowed (Some x) o i = (omega (arith, i.0), i.1)

  outside_narrowed : (b : Option ℕ) (o e : ℕ) → Inside limits (narrowed limits b o) e → Inside limits b e × (e ≤ o + limits.array)
  unfolding narrowed
  outside_narrowed None o e i = ((tt, i.1), omega (arith, i.0))
  outside_narrowed (Some x) o e i = ((omega (arith, i.0), i.1), omega (arith, i.0))

  past_outside : (b : Option ℕ) (o n : ℕ) → n ≤ limits.array → Past (narrowed limits b o) (o + n) → Past b (o + n)
  unfolding narrowed
  past_outside None o n le h = absurd (omega (arith, h))
  past_outside (Some x) o n le h = omega (arith, h)

  outside : (b : Option ℕ) (o n : ℕ) (K : Type 0) (r : Result ℕ ValueFault) → Answers (narrowed limits b o) o n K r → Answers b o n ((n ≤ limits.array) × K) r
  outside b o n K (Ok e) w = let out = outside_narrowed b o e w.2 in (w.0, (omega (arith, w.0, out.1), w.1), out.0)
  outside b o n K (Err Memory) h = h
  outside b o n K (Err TooDeep) h = h
  outside b o n K (Err Mixed) h = h
  outside b o n K (Err Name) h = h
  outside b o n K (Err ArrayTooLong) h = λ w. past_outside b o n w.0 (h w.1)
  outside b o n K (Err TooLong) h = h

  contents_of : {z : Option ℕ → Sizing} {s : ℕ → ℕ} {k : ℕ → Type 0} (b : Option ℕ) → ((c : Option ℕ) → Measures c (z c) s k) → Measures b (contents limits z b) s (λ o. (s o ≤ limits.array) × k o)
  unfolding contents
  contents_of {z} {s} {k} b each = record { from = λ o i. outside b o (s o) (k o) (z (narrowed limits b o) o) ((each (narrowed limits b o)).from o (inside_narrowed b o i)) }

  -- ---- values

  abbrev Sized : Order → ValueTree → Option ℕ → Type 0
  Sized order v b = Measures b (sized limits v b) (λ o. length (spelling order o v)) (λ o. IsWithinLimits limits.array order o v)

  mutual
    measured : (order : Order) (v : ValueTree) (b : Option ℕ) → Sized order v b
    measured order (NumberValue k n) b = as_value (in_turn (a_padding b (width k)) (an_item b (width k))) (λ o. sym (length-number order o n k)) (λ o h. tt) (λ o h. (tt, tt))
    measured order (TextValue k t) b =
        let w = length_width k in
        as_value (in_turn (a_padding b w) (in_turn (an_item b w) (in_turn (an_item b (length t)) (an_item b 1)))) (λ o. sym (length-text order o k t)) (λ o h. tt) (λ o h. (tt, (tt, (tt, tt))))
    measured order (VariantValue x) b =
        let ty = sig (type_of x) in
        let ends : (o : ℕ) → o + 1 + length ty + 1 ≡ o + length (ended_text order 1 ty) = λ o. omega (arith, length-ended order 1 ty) in
        as_value (in_turn (an_item b 1) (in_turn (an_item b (length ty)) (in_turn (an_item b 1) (measured order x b))))
        (λ o. omega (arith, ap (λ (p : ℕ). length (spelling order p x)) (ends o), length-variant order o x, length-ended order 1 ty))
        (λ o h. subst (λ (p : ℕ). IsWithinLimits limits.array order p x) (ends o) h.1.1.1) (λ o h. (tt, (tt, (tt, subst (λ (p : ℕ). IsWithinLimits limits.array order p x) (sym (ends o)) h))))
    measured order (ArrayValue t xs) b =
        as_value (in_turn (a_padding b 4) (in_turn (an_item b 4) (in_turn (a_padding b (alignment_of t)) (contents_of b (λ c. measured_all order xs c)))))
        (λ o. omega (arith, length-array order o t xs)) (λ o h. h.1.1.1) (λ o h. (tt, (tt, (tt, h))))
    measured order (StructValue xs) b = as_value (in_turn (a_padding b 8) (measured_all order xs b)) (λ o. sym (length-struct order o xs)) (λ o h. h.1) (λ o h. (tt, h))
    measured order (EntryValue k v) b = as_value (in_turn (a_padding b 8) (in_turn (measured order k b) (measured order v b))) (λ o. sym (length-entry order o k v)) (λ o h. h.1) (λ o h. (tt, h))

    measured_all : (order : Order) (vs : ValueTrees) (b : Option ℕ) → Measures b (sizes limits vs b) (λ o. length (spellings order o vs)) (λ o. AreWithinLimits limits.array order o vs)
    measured_all order NoValues b = record { from = λ o i. (omega (arith, length-none order o), tt, i) }
    measured_all order (MoreValues x xs) b = as_value (in_turn (measured order x b) (measured_all order xs b)) (λ o. sym (length-more order o x xs)) (λ o h. h) (λ o h. h)

  answered : (order : Order) (v : ValueTree) (o : ℕ) (r : Result ℕ ValueFault) → o ≤ limits.message → sized limits v None o ≡ r → Answers None o (length (spelling order o v)) (IsWithinLimits limits.array order o v) r
  answered order v o r start h = subst (Answers None o (length (spelling order o v)) (IsWithinLimits limits.array order o v)) h ((measured order v None).from o (tt, start))

  -- ---- the laws

  pub size_ends : (order : Order) (v : ValueTree) (o e : ℕ) → o ≤ limits.message → sized limits v None o ≡ Ok e → IsWithinLimits limits.array order o v × (o + length (spelling order o v) ≡ e) × (e ≤ limits.message)
  size_ends order v o e start h = let w = answered order v o (Ok e) start h in (w.1, w.0, w.2.1)

  pub stops_at : (order : Order) (v : ValueTree) (o : ℕ) (f : ValueFault) → o ≤ limits.message → sized limits v None o ≡ Err f → Stops limits None f (o + length (spelling order o v)) (IsWithinLimits limits.array order o v)
  stops_at order v o f start h = answered order v o (Err f) start h

  -- nothing stops what keeps the limits
  unstopped : (f : ValueFault) (e : ℕ) (K : Type 0) → K → e ≤ limits.message → Stops limits None f e K → ⊥
  unstopped Memory e K k le h = h
  unstopped TooDeep e K k le h = h
  unstopped Mixed e K k le h = h
  unstopped Name e K k le h = h
  unstopped ArrayTooLong e K k le h = h k
  unstopped TooLong e K k le h = absurd (omega arith)

  given : (order : Order) (v : ValueTree) (o e : ℕ) (r : Result ℕ ValueFault) → o ≤ limits.message → sized limits v None o ≡ r → IsWithinLimits limits.array order o v → o + length (spelling order o v) ≡ e → e ≤ limits.message → r ≡ Ok e
  given order v o e (Ok d) start is kept there within = let w = size_ends order v o d start is in let same : d ≡ e = sym w.1 ∙ there in ap (λ (n : ℕ). Ok n) same
  given order v o e (Err f) start is kept there within = absurd (unstopped f (o + length (spelling order o v)) (IsWithinLimits limits.array order o v) kept (omega arith) (stops_at order v o f start is))

  pub written_ends : (order : Order) (v : ValueTree) (front : List ℕ) (e : ℕ) → length front ≤ limits.message → sized limits v None (length front) ≡ Ok e → length (with_value order v front) ≡ e
  written_ends order v front e start h = length_value order v front ∙ (size_ends order v (length front) e start h).1

pub size_stops : SizeStops
size_stops limits order v o f start h = stops_at limits order v o f start h

pub size_exact : SizeEnds
size_exact limits order v o e start = (λ h. size_ends limits order v o e start h, λ w. given limits order v o e (sized limits v None o) start refl w.0 w.1 w.2)

pub ruleset put_needs = (written_ends, value_is)
