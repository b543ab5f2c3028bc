-- A wanted value and its reader agree.
use Rattle.std.proofs.Common.{◌≡◌, ℕ, zero, suc, ◌+◌, ◌<◌, List, length, Bool, true, false, refl, sym, subst, arith, ◌≤◌, ◌++◌, None, ap, ◌∙◌, inl, inr, append_assoc}
use Rattle.std.proofs.lemmas.List.{length-append}
use Rattle.dbus_texts.specs.Types.{NumberCode, BYTE, TextCode, TypeTree, NumberType, TextType, VariantType, ArrayType, StructType, EntryType, TypeTrees, NoTypes, MoreTypes, IsShaped, AreShaped, IsBasic}
use Rattle.dbus_types.specs.Alignments.{width, length_width, alignment_of}
use Rattle.dbus_texts.proofs.KindFacts.{shaped_of}
use Rattle.dbus_value_model.specs.WantedTexts.{kind_of, Of}
use Rattle.dbus_value_model.specs.declared.limits.Bounds.{Bounds}
use Rattle.dbus_value_model.specs.declared.order.Order.{Order}
use Rattle.dbus_value_model.specs.Bytes.{gap_to}
use Rattle.dbus_value_model.specs.Spelling.{spelling, Spelled}
use Rattle.dbus_value_model.specs.Values.{ValueTree, value_trees, NoValues, MoreValues, NumberValue, TextValue, VariantValue, ArrayValue, StructValue, EntryValue, type_of, ValueTrees}
use Rattle.dbus_value_model.specs.Items.{Item}
use Rattle.dbus_value_model.specs.Items as items
use Rattle.dbus_value_model.specs.ValueItems.{number_row, text_row, array_row}
use Rattle.dbus_value_model.specs.ValueItems as faults
use Rattle.dbus_value_model.specs.Reading.{Reader, Outcome, Done, Faulty, Partial}
use Rattle.dbus_value_model.specs.Reading as reading
use Rattle.dbus_value_model.proofs.Numbers.{length-num}
use Rattle.dbus_value_model.specs.declared.fault.Reason.TheVariants as reasons
use Rattle.dbus_texts.specs.declared.text_kind.TextKind.TheVariants as kinds
use Rattle.dbus_value_model.specs.declared.fault.Fault.{Fault}
use Rattle.dbus_value_model.specs.Outcomes.{IsDone, Outcomes}
use Rattle.dbus_value_model.specs.Laws.{OneValue, OneOutcome, NotBoth, OneFault, RefusedForGood, DoneForGood, ReadsSpelled, ReadsFaults}
use Rattle.dbus_value_model.proofs.Indexes.{any_below}
use Rattle.dbus_value_laws.proofs.Agreement.{Agrees, Agrees-then, Agrees-before, Agrees-as, Says, read_passes, read_refuses}
use Rattle.dbus_value_laws.proofs.OwnItems.{Agrees-pure, Agrees-refuse, Agrees-padding, Agrees-number, Agrees-text, Agrees-nul, Agrees-signature, Moves, Agrees-contents}
use Rattle.dbus_value_laws.proofs.Composition.{IsInside, number_to, number_from, text_to, text_from, variant_to, variant_from, array_to, array_from, struct_to, struct_from, entry_to, entry_from, fields_to, fields_from}

-- ---- a value of a complete type has at least one byte

pub basic_complete : (b : Bool) (t : TypeTree) → IsBasic t → IsShaped b t
basic_complete b (NumberType k) h = tt
basic_complete b (TextType k) h = tt
basic_complete b VariantType h = absurd h
basic_complete b (ArrayType t) h = absurd h
basic_complete b (StructType ts) h = absurd h
basic_complete b (EntryType k v) h = absurd h

struct_complete : (b : Bool) (ts : TypeTrees) → IsShaped b (StructType ts) → AreShaped ts
struct_complete b NoTypes h = absurd h
struct_complete b (MoreTypes t ts) h = h

pub width_positive : (k : NumberCode) → 0 < width k
width_positive BYTE = omega arith
width_positive k = omega arith

pub positive : (bounds : Bounds) (order : Order) (v : ValueTree) (b : Bool) (o : ℕ) → IsShaped b (type_of v) → 0 < length (spelling order o v)
unfolding spelling
positive bounds order (NumberValue k n) b o h = simp (length-append, length-num) (omega (arith, width_positive k))
positive bounds order (TextValue k t) b o h = simp (length-append, length-num) (omega arith)
positive bounds order (VariantValue x) b o h = simp (length-append, length-num) (omega arith)
positive bounds order (ArrayValue t xs) b o h = simp (length-append, length-num) (omega arith)
positive bounds order (StructValue NoValues) b o h = absurd h
positive bounds order (StructValue (MoreValues x xs)) b o h = simp length-append (omega (arith, positive bounds order x false (o + gap_to 8 o) h.0))
positive bounds order (EntryValue k x) false o h = absurd h
positive bounds order (EntryValue k x) true o h = simp length-append (omega (arith, positive bounds order k false (o + gap_to 8 o) (basic_complete false (type_of k) h.0)))

-- ---- what the items pass is what is spelled

module _ (bounds : Bounds) (order : Order) (inside : ℕ → TypeTree → Item ValueTree) where
  items_to : (depth_left : ℕ) → ((less : ℕ) → depth_left ≡ suc less → IsInside bounds order less inside) → (end : ℕ) (t : TypeTree) (o : ℕ) (s : List ℕ) (v : ValueTree) (q : ℕ) (r : List ℕ) → (faults.items bounds order depth_left inside end t).Passed o s v q r → Spelled bounds order depth_left end t o s v q r
  items_to depth_left is end (NumberType k) o s v q r w = number_to bounds order depth_left inside end k o s v q r w
  items_to depth_left is end (TextType k) o s v q r w = text_to bounds order depth_left inside end k o s v q r w
  items_to zero is end VariantType o s v q r w = absurd w
  items_to (suc less) is end VariantType o s v q r w = variant_to bounds order less inside (is less refl) end o s v q r w
  items_to zero is end (ArrayType t) o s v q r w = absurd w.4
  items_to (suc less) is end (ArrayType t) o s v q r w = array_to bounds order less inside (is less refl) end t o s v q r w
  items_to zero is end (StructType ts) o s v q r w = absurd w.4
  items_to (suc less) is end (StructType ts) o s v q r w = struct_to bounds order less inside (is less refl) end ts o s v q r w
  items_to depth_left is end (EntryType k x) o s v q r w = entry_to bounds order depth_left inside end k x o s v q r w

  items_from : (depth_left : ℕ) → ((less : ℕ) → depth_left ≡ suc less → IsInside bounds order less inside) → (end o : ℕ) (s : List ℕ) (v : ValueTree) (q : ℕ) (r : List ℕ) → Spelled bounds order depth_left end (type_of v) o s v q r → (faults.items bounds order depth_left inside end (type_of v)).Passed o s v q r
  items_from depth_left is end o s (NumberValue k n) q r h = number_from bounds order depth_left inside end k o s n q r h
  items_from depth_left is end o s (TextValue k t) q r h = text_from bounds order depth_left inside end k o s t q r h
  items_from zero is end o s (VariantValue x) q r h = absurd h.formed
  items_from (suc less) is end o s (VariantValue x) q r h = variant_from bounds order less inside (is less refl) end o s x q r h
  items_from zero is end o s (ArrayValue t xs) q r h = absurd h.formed
  items_from (suc less) is end o s (ArrayValue t xs) q r h = array_from bounds order less inside (is less refl) end t o s xs q r h
  items_from zero is end o s (StructValue xs) q r h = absurd h.formed
  items_from (suc less) is end o s (StructValue xs) q r h = struct_from bounds order less inside (is less refl) end o s xs q r h
  items_from depth_left is end o s (EntryValue k x) q r h = entry_from bounds order depth_left inside end o s k x q r h

-- a spelled value has the type that was wanted, so it is enough to know its own type
own_type : (bounds : Bounds) (order : Order) (depth_left end : ℕ) (t : TypeTree) (o : ℕ) (s : List ℕ) (v : ValueTree) (q : ℕ) (r : List ℕ) → Spelled bounds order depth_left end t o s v q r → Spelled bounds order depth_left end (type_of v) o s v q r
own_type bounds order depth_left end t o s v q r h = record { has_type = refl; formed = h.formed; within = h.within; indexes = h.indexes; bytes = h.bytes; place = h.place; bound = h.bound }

items_inside : (bounds : Bounds) (order : Order) (depth_left : ℕ) (inside : ℕ → TypeTree → Item ValueTree) → ((less : ℕ) → depth_left ≡ suc less → IsInside bounds order less inside) → IsInside bounds order depth_left (faults.items bounds order depth_left inside)
items_inside bounds order depth_left inside is end t o s v q r = (
  items_to bounds order inside depth_left is end t o s v q r,
  λ h. subst (λ (u : TypeTree). (faults.items bounds order depth_left inside end u).Passed o s v q r) h.has_type (items_from bounds order inside depth_left is end o s v q r (own_type bounds order depth_left end t o s v q r h)),
)

pub value_inside : (bounds : Bounds) (order : Order) (depth_left : ℕ) → IsInside bounds order depth_left (faults.value bounds order depth_left)
value_inside bounds order zero end t o s v q r = (λ h. h, λ h. h)
value_inside bounds order (suc depth_left) end t o s v q r = (λ h. h, λ h. h)

-- ---- the items of each type agree

agrees_number : (bounds : Bounds) (order : Order) (depth_left : ℕ) (inside : ℕ → TypeTree → Item ValueTree) (run : ℕ → TypeTree → Reader ValueTree) (end : ℕ) (k : NumberCode) → Agrees (faults.items bounds order depth_left inside end (NumberType k)) (reading.items bounds order depth_left run end (NumberType k))
agrees_number bounds order depth_left inside run end k =
    Agrees-before (items.padding (width k) end) (reading.padding (width k) end) _ _ (Agrees-padding (width k) end) (λ _.
    Agrees-before (items.number order (width k) end (number_row bounds.fds k)) (reading.number order (width k) end (number_row bounds.fds k)) _ _ (Agrees-number order (width k) end (number_row bounds.fds k)) (λ n.
    Agrees-pure (NumberValue k n)))

agrees_text : (bounds : Bounds) (order : Order) (depth_left : ℕ) (inside : ℕ → TypeTree → Item ValueTree) (run : ℕ → TypeTree → Reader ValueTree) (end : ℕ) (k : TextCode) → Agrees (faults.items bounds order depth_left inside end (TextType k)) (reading.items bounds order depth_left run end (TextType k))
agrees_text bounds order depth_left inside run end k =
    Agrees-before (items.padding (length_width k) end) (reading.padding (length_width k) end) _ _ (Agrees-padding (length_width k) end) (λ _.
    Agrees-before (items.number order (length_width k) end (text_row end)) (reading.number order (length_width k) end (text_row end)) _ _ (Agrees-number order (length_width k) end (text_row end)) (λ n.
    Agrees-before (items.text (kind_of k) n) (reading.text (kind_of k) n) _ _ (Agrees-text (kind_of k) n) (λ t.
    Agrees-before items.nul reading.nul _ _ Agrees-nul (λ _.
    Agrees-pure (TextValue k t)))))

module _ (bounds : Bounds) (order : Order) (depth_left : ℕ) (inside : ℕ → TypeTree → Item ValueTree) (run : ℕ → TypeTree → Reader ValueTree) (is_inside : IsInside bounds order depth_left inside)
    (agrees : (end : ℕ) (b : Bool) (t : TypeTree) → IsShaped b t → Agrees (inside end t) (run end t)) where
  moves : (b : Bool) (t : TypeTree) → IsShaped b t → (end : ℕ) → Moves (inside end t)
  moves b t complete end o s v q r h =
      let spelled = (is_inside end t o s v q r).0 h in
      omega (arith, spelled.place, positive bounds order v b o (subst (λ (u : TypeTree). IsShaped b u) (sym spelled.has_type) complete))

  agrees_variant : (end : ℕ) → Agrees (faults.items bounds order (suc depth_left) inside end VariantType) (reading.items bounds order (suc depth_left) run end VariantType)
  agrees_variant end =
      Agrees-before (items.number order 1 end (text_row end)) (reading.number order 1 end (text_row end)) _ _ (Agrees-number order 1 end (text_row end)) (λ n.
      Agrees-then (items.signature (Of kinds.Single) n) (reading.signature (Of kinds.Single) n) _ _ (Agrees-signature (Of kinds.Single) (λ t h. h) n) (λ held o s q r was.
      Agrees-before items.nul reading.nul _ _ Agrees-nul (λ _.
      Agrees-before (inside end held) (run end held) _ _ (agrees end false held (shaped_of held false 0 0 was.0.0)) (λ x.
      Agrees-pure (VariantValue x)))))

  agrees_array : (end : ℕ) (t : TypeTree) → IsShaped true t → Agrees (faults.items bounds order (suc depth_left) inside end (ArrayType t)) (reading.items bounds order (suc depth_left) run end (ArrayType t))
  agrees_array end t complete =
      Agrees-before (items.padding 4 end) (reading.padding 4 end) _ _ (Agrees-padding 4 end) (λ _.
      Agrees-before (items.number order 4 end (array_row bounds t end)) (reading.number order 4 end (array_row bounds t end)) _ _ (Agrees-number order 4 end (array_row bounds t end)) (λ n.
      Agrees-before (items.padding (alignment_of t) end) (reading.padding (alignment_of t) end) _ _ (Agrees-padding (alignment_of t) end) (λ _.
      Agrees-before (items.contents n (λ e before. inside e t)) (reading.contents n (λ e before. run e t)) _ _
      (Agrees-contents n (λ e before. inside e t) (λ e before. run e t) (λ e before. agrees e true t complete) (λ e before. moves true t complete e)) (λ xs.
      Agrees-pure (ArrayValue t (value_trees xs))))))

  pub agrees_fields : (end : ℕ) (ts : TypeTrees) → AreShaped ts → Agrees (faults.fields (inside end) ts) (reading.fields (run end) ts)
  agrees_fields end NoTypes complete = Agrees-pure NoValues
  agrees_fields end (MoreTypes t ts) complete =
      Agrees-before (inside end t) (run end t) _ _ (agrees end false t complete.0) (λ v.
      Agrees-before (faults.fields (inside end) ts) (reading.fields (run end) ts) _ _ (agrees_fields end ts complete.1) (λ vs.
      Agrees-pure (MoreValues v vs)))

  agrees_struct : (end : ℕ) (ts : TypeTrees) → AreShaped ts → Agrees (faults.items bounds order (suc depth_left) inside end (StructType ts)) (reading.items bounds order (suc depth_left) run end (StructType ts))
  agrees_struct end ts complete =
      Agrees-before (items.padding 8 end) (reading.padding 8 end) _ _ (Agrees-padding 8 end) (λ _.
      Agrees-before (faults.fields (inside end) ts) (reading.fields (run end) ts) _ _ (agrees_fields end ts complete) (λ xs.
      Agrees-pure (StructValue xs)))

module _ (bounds : Bounds) (order : Order) (inside : ℕ → TypeTree → Item ValueTree) (run : ℕ → TypeTree → Reader ValueTree) where
  agrees_items : (depth_left : ℕ) → ((less : ℕ) → depth_left ≡ suc less → IsInside bounds order less inside) → ((less : ℕ) → depth_left ≡ suc less → (end : ℕ) (b : Bool) (t : TypeTree) → IsShaped b t → Agrees (inside end t) (run end t))
      → (end : ℕ) (b : Bool) (t : TypeTree) → IsShaped b t → Agrees (faults.items bounds order depth_left inside end t) (reading.items bounds order depth_left run end t)
  agrees_items depth_left is agrees end b (NumberType k) h = agrees_number bounds order depth_left inside run end k
  agrees_items depth_left is agrees end b (TextType k) h = agrees_text bounds order depth_left inside run end k
  agrees_items zero is agrees end b VariantType h = Agrees-refuse reasons.TooDeep
  agrees_items (suc less) is agrees end b VariantType h = agrees_variant bounds order less inside run (is less refl) (agrees less refl) end
  agrees_items zero is agrees end b (ArrayType t) h = Agrees-before (items.padding 4 end) (reading.padding 4 end) _ _ (Agrees-padding 4 end) (λ _. Agrees-refuse reasons.TooDeep)
  agrees_items (suc less) is agrees end b (ArrayType t) h = agrees_array bounds order less inside run (is less refl) (agrees less refl) end t h
  agrees_items zero is agrees end b (StructType ts) h = Agrees-before (items.padding 8 end) (reading.padding 8 end) _ _ (Agrees-padding 8 end) (λ _. Agrees-refuse reasons.TooDeep)
  agrees_items (suc less) is agrees end b (StructType ts) h = agrees_struct bounds order less inside run (is less refl) (agrees less refl) end ts (struct_complete b ts h)
  agrees_items depth_left is agrees end false (EntryType k v) h = absurd h
  agrees_items depth_left is agrees end true (EntryType k v) h =
      let whole = λ (t : TypeTree). Agrees-as (faults.items bounds order depth_left inside end t) (Spelled bounds order depth_left end t) (reading.items bounds order depth_left run end t) in
      Agrees-before (items.padding 8 end) (reading.padding 8 end) _ _ (Agrees-padding 8 end) (λ _.
      Agrees-before (faults.whole bounds order depth_left end k (faults.items bounds order depth_left inside end k)) (reading.items bounds order depth_left run end k) _ _
      (whole k (agrees_items depth_left is agrees end false k (basic_complete false k h.0)) (items_inside bounds order depth_left inside is end k)) (λ x.
      Agrees-before (faults.whole bounds order depth_left end v (faults.items bounds order depth_left inside end v)) (reading.items bounds order depth_left run end v) _ _
      (whole v (agrees_items depth_left is agrees end false v h.1) (items_inside bounds order depth_left inside is end v)) (λ y.
      Agrees-pure (EntryValue x y))))

-- ---- what is read is what is spelled, and the faults are the table's

pub Agrees-value : (bounds : Bounds) (order : Order) (depth_left end : ℕ) (b : Bool) (t : TypeTree) → IsShaped b t → Agrees (faults.value bounds order depth_left end t) (reading.value bounds order depth_left end t)
unfolding reading.value
Agrees-value bounds order zero end b t h =
    Agrees-as (faults.items bounds order zero faults.nowhere end t) (Spelled bounds order zero end t) (reading.items bounds order zero reading.nowhere end t)
    (agrees_items bounds order faults.nowhere reading.nowhere zero (λ less e. absurd cc) (λ less e. absurd cc) end b t h) (items_inside bounds order zero faults.nowhere (λ less e. absurd cc) end t)
Agrees-value bounds order (suc depth_left) end b t h =
    let is : (less : ℕ) → suc depth_left ≡ suc less → IsInside bounds order less (faults.value bounds order depth_left) = λ less e. (let same : depth_left ≡ less = cc in subst (λ (n : ℕ). IsInside bounds order n (faults.value bounds order depth_left)) same (value_inside bounds order depth_left)) in
    Agrees-as (faults.items bounds order (suc depth_left) (faults.value bounds order depth_left) end t) (Spelled bounds order (suc depth_left) end t) (reading.items bounds order (suc depth_left) (reading.value bounds order depth_left) end t)
    (agrees_items bounds order (faults.value bounds order depth_left) (reading.value bounds order depth_left) (suc depth_left) is (λ less e end b t h. Agrees-value bounds order depth_left end b t h) end b t h) (items_inside bounds order (suc depth_left) (faults.value bounds order depth_left) is end t)

-- The laws.

-- ---- what holds of any item that agrees with a reader

module _ {A : Type 0} (item : Item A) (run : Reader A) (agrees : Agrees item run) where
  pub agreed_fault : (o : ℕ) (s : List ℕ) (f g : Fault) → item.Refused o s f → item.Refused o s g → f ≡ g
  agreed_fault o s f g a b =
      let e : run o s ≡ Faulty f = agrees.refuses o s f a in
      let d : run o s ≡ Faulty g = agrees.refuses o s g b in
      cc

  pub agreed_either : (o : ℕ) (s : List ℕ) (x : A) (q : ℕ) (r : List ℕ) (f : Fault) → item.Passed o s x q r → item.Refused o s f → ⊥
  agreed_either o s x q r f a b =
      let e : run o s ≡ Done x q r = agrees.passes o s x q r a in
      let d : run o s ≡ Faulty f = agrees.refuses o s f b in
      cc

  pub agreed_value : (o : ℕ) (s : List ℕ) (x : A) (q : ℕ) (r : List ℕ) (y : A) (p : ℕ) (t : List ℕ) → item.Passed o s x q r → item.Passed o s y p t → (x ≡ y) × (q ≡ p) × (r ≡ t)
  agreed_value o s x q r y p t a b =
      let e : run o s ≡ Done x q r = agrees.passes o s x q r a in
      let d : run o s ≡ Done y p t = agrees.passes o s y p t b in
      (cc, cc, cc)

-- ---- a list of wanted types

module _ (bounds : Bounds) (order : Order) (depth_left end : ℕ) (ts : TypeTrees) where
  abbrev wanted : Item ValueTrees
  wanted = faults.fields (faults.value bounds order depth_left end) ts

  abbrev run : Reader ValueTrees
  run = reading.fields (reading.value bounds order depth_left end) ts

  agree : AreShaped ts → Agrees wanted run
  agree h = agrees_fields bounds order depth_left (faults.value bounds order depth_left) (reading.value bounds order depth_left) (value_inside bounds order depth_left) (Agrees-value bounds order depth_left) end ts h

  done_to : (o : ℕ) (s : List ℕ) (vs : ValueTrees) (q : ℕ) (r : List ℕ) → IsDone bounds order depth_left end ts o s vs q r → wanted.Passed o s vs q r
  done_to o s vs q r h = subst (λ (u : TypeTrees). (faults.fields (faults.value bounds order depth_left end) u).Passed o s vs q r) h.types
      (fields_from bounds order depth_left (faults.value bounds order depth_left) (value_inside bounds order depth_left) end vs o s q r h.bound h.spelled)

  outcome_by : AreShaped ts → (o : ℕ) (s : List ℕ) → o ≤ end → (read : Outcome ValueTrees) → run o s ≡ read → Says wanted o s read → Outcomes bounds order depth_left end ts o s
  outcome_by h o s le (Done vs q r) e passed =
      let w = fields_to bounds order depth_left (faults.value bounds order depth_left) (value_inside bounds order depth_left) end ts o s vs q r passed in
      inl (vs, q, r, record { types = w.0; spelled = w.1; bound = w.2 le })
  outcome_by h o s le (Faulty f) e refused = inr (inl (f, refused))
  outcome_by h o s le Partial e none = inr (inr (record {
    not_done = λ vs q r done. let d : run o s ≡ Done vs q r = (agree h).passes o s vs q r (done_to o s vs q r done) in cc;
    not_refused = λ f refused. let d : run o s ≡ Faulty f = (agree h).refuses o s f refused in cc;
  }))

pub one_outcome : OneOutcome
one_outcome bounds order depth_left end ts o s h le bytes =
    outcome_by bounds order depth_left end ts h o s le (run bounds order depth_left end ts o s) refl ((agree bounds order depth_left end ts h).says o s bytes)

pub not_both : NotBoth
not_both bounds order depth_left end ts o s vs q r f h done refused =
    agreed_either (wanted bounds order depth_left end ts) (run bounds order depth_left end ts) (agree bounds order depth_left end ts h) o s vs q r f (done_to bounds order depth_left end ts o s vs q r done) refused

pub one_fault : OneFault
one_fault bounds order depth_left end ts o s f g h a b = agreed_fault (wanted bounds order depth_left end ts) (run bounds order depth_left end ts) (agree bounds order depth_left end ts h) o s f g a b

pub refused_for_good : RefusedForGood
refused_for_good bounds order depth_left end ts o s c f h a = (agree bounds order depth_left end ts h).refuses_more c o s f a

pub done_for_good : DoneForGood
done_for_good bounds order depth_left end ts o s c vs q r h = record {
  types = h.types;
  spelled = record { formed = h.spelled.formed; within = h.spelled.within; indexes = h.spelled.indexes; bytes = ap (λ (t : List ℕ). t ++ c) h.spelled.bytes ∙ append_assoc _ r c; place = h.spelled.place };
  bound = h.bound;
}

pub one_value : OneValue
one_value bounds order depth_left o v w x y a b same_type same =
    let any : Bounds = record { array = bounds.array; fds = None; array_in = bounds.array_in } in
    let end = o + length (spelling order o v) + length (spelling order o w) in
    let t = type_of w in
    let complete = subst (λ (u : TypeTree). IsShaped a.complete.0 u) same_type a.complete.1 in
    let first : Spelled any order depth_left end t o (spelling order o v ++ x) v (o + length (spelling order o v)) x = record { has_type = same_type; formed = a.formed; within = a.within; indexes = any_below v; bytes = refl; place = refl; bound = omega arith } in
    let second : Spelled any order depth_left end t o (spelling order o v ++ x) w (o + length (spelling order o w)) y = record { has_type = refl; formed = b.formed; within = b.within; indexes = any_below w; bytes = same; place = refl; bound = omega arith } in
    let both = agreed_value (faults.value any order depth_left end t) (reading.value any order depth_left end t) (Agrees-value any order depth_left end a.complete.0 t complete) o (spelling order o v ++ x) v (o + length (spelling order o v)) x w (o + length (spelling order o w)) y
    ((value_inside any order depth_left end t o (spelling order o v ++ x) v (o + length (spelling order o v)) x).1 first)
    ((value_inside any order depth_left end t o (spelling order o v ++ x) w (o + length (spelling order o w)) y).1 second) in
    (both.0, both.2)

pub reads_spelled : ReadsSpelled
reads_spelled bounds order depth_left end b t o s v q r h bytes =
    let agrees = Agrees-value bounds order depth_left end b t h in
    let inside = value_inside bounds order depth_left end t o s v q r in
    (λ e. inside.0 (read_passes (faults.value bounds order depth_left end t) (reading.value bounds order depth_left end t) agrees o s bytes v q r e), λ p. agrees.passes o s v q r (inside.1 p))

pub reads_faults : ReadsFaults
reads_faults bounds order depth_left end b t o s f h bytes =
    let agrees = Agrees-value bounds order depth_left end b t h in
    (read_refuses (faults.value bounds order depth_left end t) (reading.value bounds order depth_left end t) agrees o s bytes f, agrees.refuses o s f)

pub ruleset laws = (one_value, one_outcome, done_for_good, reads_faults)
