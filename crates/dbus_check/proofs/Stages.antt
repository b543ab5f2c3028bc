-- A message under way, stage by stage.
use Rattle.std.proofs.Common.{◌≡◌, ℕ, zero, suc, ◌+◌, ◌<◌, ◌≤◌, List, [], ◌++◌, length, take, drop, Option, Some, None, Ok, Err, refl, sym, ap, ◌∙◌, arith, Result, append_assoc, false}
use Rattle.std.proofs.lemmas.Bool.{le-ltb, eq-eqb}
use Rattle.std.proofs.lemmas.List.{take_all, drop_all, length-take, take-append-drop, append-nil, length-append}
use Rattle.dbus_texts.specs.ComputedKinds.{types_spelled}
use Rattle.dbus_texts.specs.Kinds.{IsKind}
use Rattle.dbus_texts.specs.Types.{TypeTrees, NoTypes, sigs, AreShaped, MoreTypes}
use Rattle.dbus_texts.specs.declared.text_kind.TextKind.TheVariants as kinds
use Rattle.dbus_value_laws.proofs.KindLaws.{signature_text}
use Rattle.dbus_value_model.specs.ByteNumbers.{IsBytes}
use Rattle.dbus_value_model.specs.FdIndexes.{index_limit}
use Rattle.dbus_value_model.proofs.Numbers.{IsBytes-front, IsBytes-append, IsBytes-rest}
use Rattle.dbus_value_model.specs.Bounds.{bounds_with}
use Rattle.dbus_value_model.specs.declared.limits.Bounds.{Bounds}
use Rattle.dbus_value_model.specs.declared.limits.Limits.{Limits}
use Rattle.dbus_value_model.specs.declared.order.Order.{Order}
use Rattle.dbus_value_model.specs.declared.fault.Reason.{Reason}
use Rattle.dbus_value_model.specs.declared.stop.Stop.{Stop}
use Rattle.dbus_value_model.specs.declared.stop.Stop.TheVariants as stops
use Rattle.dbus_value_model.specs.ValueReaders.{Stops}
use Rattle.dbus_value_model.specs.Items.{fault}
use Rattle.dbus_value_model.specs.Reading.{Outcome, Done, Faulty, Partial, after, validate, padding, fields, value, ends}
use Rattle.dbus_message_model.specs.Messages.{required}
use Rattle.dbus_header.specs.HeaderReading.{fixed_header}
use Rattle.dbus_header.specs.declared.fixed_header.FixedHeader.{FixedHeader}
use Rattle.dbus_value_checker.specs.Fronts.{Fronts}
use Rattle.dbus_value_checker.specs.Suspended.{On, onward, done}
use Rattle.dbus_value_checker.specs.Denotations as values
use Rattle.dbus_value_checker.specs.Moves.{values_on, Runs, IsLive, offset_of}
use Rattle.dbus_value_checker.specs.declared.values.ValueChecker.{ValueChecker}
use Rattle.dbus_header.proofs.StatedLengths as stated
use Rattle.dbus_value_checker.proofs.Suspension.{split-at}
use Rattle.dbus_value_model.specs.declared.fault.Fault.{Fault}
use Rattle.dbus_value_laws.proofs.Agreement.{after_done}
use Rattle.dbus_value_checker.specs.Denotations.{Answer, Denotes}
use Rattle.dbus_value_checker.proofs.Calls.{denotes_same, over_last}
use Rattle.dbus_value_model.specs.Spelling.{spelling}
use Rattle.dbus_value_model.specs.Values.{ValueTrees, MoreValues}
use Rattle.dbus_value_laws.proofs.ValueItemLaws.{reads_spelled}
use Rattle.dbus_check.specs.Heading.{Kept, missing, body_on, after_fields, fields_on, message_on}
use Rattle.dbus_check.specs.Progress.{To, Moves, Flows, after_bytes}
use Rattle.dbus_check.specs.declared.progress.Progress.{Progress}
use Rattle.dbus_check.proofs.Heading.{after_fixed, message_on_is}
use Rattle.dbus_check.proofs.CheckSteps.{fixed_read, fixed_refused}

-- the empty text is a signature
pub no_signature : IsKind kinds.Signature []
no_signature = ((NoTypes, tt, refl), omega arith)

-- ---- the fixed header

module _ (limits : Limits) (s : List ℕ) (bytes : IsBytes s) where
  few : length (take 16 s) ≤ 16
  few = omega (arith, length-take 16 s)

  are : IsBytes (take 16 s)
  are = IsBytes-front s (take 16 s) _ (sym (take-append-drop 16 s)) bytes

  pub header_taken : (h : FixedHeader) → fixed_header limits 0 (take 16 s) ≡ Done h 16 (drop 16 (take 16 s)) → (c : List ℕ) → message_on limits 0 (take 16 s ++ c) ≡ after_fixed limits h 16 c
  header_taken h e c =
      message_on_is limits 0 (take 16 s ++ c)
      ∙ ap (λ (r : Outcome FixedHeader). after r (after_fixed limits)) (fixed_read limits 0 (take 16 s) are c h 16 (drop 16 (take 16 s)) e)
      ∙ ap (λ (t : List ℕ). after_fixed limits h 16 (t ++ c)) (drop_all 16 (take 16 s) few)

  pub header_short : fixed_header limits 0 (take 16 s) ≡ Partial → length s < 16
  header_short e = let h = stated.header_short limits (take 16 s) e in omega (arith, length-take 16 s, h)

  pub header_stops : (e : Stop) → Stops e (fixed_header limits 0 (take 16 s)) → (x : Progress) (to : To) → ((c : List ℕ) → message_on limits 0 c ≡ to c) → Moves x s (Err e) x to
  header_stops stops.Partial h x to same =
      let short = header_short h in
      let all : take 16 s ≡ s = take_all 16 s (omega arith) in
      (refl, sym (same s) ∙ message_on_is limits 0 s ∙ ap (λ (t : List ℕ). after (fixed_header limits 0 t) (after_fixed limits)) (sym all) ∙ ap (λ (r : Outcome FixedHeader). after r (after_fixed limits)) h)
  header_stops (stops.Refused f) h x to same = λ c.
      sym (same (s ++ c)) ∙ ap (message_on limits 0) (split-at 16 s c) ∙ message_on_is limits 0 (take 16 s ++ (drop 16 s ++ c))
      ∙ ap (λ (r : Outcome FixedHeader). after r (after_fixed limits)) (fixed_refused limits 0 (take 16 s) are (drop 16 s ++ c) f h)

-- ---- after the fields

module _ (limits : Limits) (order : Order) (kind body : ℕ) (kept : Kept) where
  pub fields_over : (turns end o : ℕ) (c : List ℕ) → o ≡ end → fields_on limits order kind body turns end kept o c ≡ after_fields limits order kind body kept o c
  fields_over zero end o c e = rw (eq-eqb o end e) refl
  fields_over (suc turns) end o c e = let le : end ≤ o = omega arith in rw (le-ltb _ _ le, eq-eqb o end e) refl

  pub lacks_field : (why : Reason) (o : ℕ) (c : List ℕ) → missing (required kind) kept.codes ≡ Some why → after_fields limits order kind body kept o c ≡ Faulty (fault o why)
  lacks_field why o c e = ap (λ (r : Option Reason). after (validate r o c) (λ _ o. onward (padding 8 (o + 8)) (body_on limits order body kept) o)) e

  pub lacks_none : (o : ℕ) (c : List ℕ) → missing (required kind) kept.codes ≡ None → after_fields limits order kind body kept o c ≡ onward (padding 8 (o + 8)) (body_on limits order body kept) o c
  lacks_none o c e = ap (λ (r : Option Reason). after (validate r o c) (λ _ o. onward (padding 8 (o + 8)) (body_on limits order body kept) o)) e

  -- ---- the padding before the body

  pub padding_taken : (o : ℕ) (s : List ℕ) (n : ℕ) → Fronts (λ (n : ℕ). (tt, n)) o s (Ok n) (padding 8 (o + 8)) → (c : List ℕ) → onward (padding 8 (o + 8)) (body_on limits order body kept) o (take n s ++ c) ≡ body_on limits order body kept (o + n) c
  padding_taken o s n h c = ap (λ (r : Outcome (Unit {0})). after r (λ _. body_on limits order body kept)) (h.1 c)

-- Values under way, in a field or in the body, and what a run makes of them.

module _ (bounds : Bounds) (order : Order) (room end : ℕ) where
  -- the offset grows by the bytes that were read, and is not past the end
  pub fields_advance : (ts : TypeTrees) (o : ℕ) (s : List ℕ) (vs : ValueTrees) (q : ℕ) (r : List ℕ) → AreShaped ts → IsBytes s → o ≤ end
      → fields (value bounds order room end) ts o s ≡ Done vs q r → (q + length r ≡ o + length s) × (q ≤ end)
  fields_advance NoTypes o s vs q r shaped are low e =
      let a : o ≡ q = cc in
      let b : s ≡ r = cc in
      let l = ap length b in
      (omega (arith, a, l), omega (arith, a, low))
  fields_advance (MoreTypes t ts) o s vs q r shaped are low e =
      let w = after_done (value bounds order room end t o s) (λ v p u. after (fields (value bounds order room end) ts p u) (λ vs o s. Done (MoreValues v vs) o s)) vs q r e in
      let z = after_done (fields (value bounds order room end) ts w.1 w.2) (λ vs o s. Done (MoreValues w.0 vs) o s) vs q r w.4 in
      let spelled = (reads_spelled bounds order room end false t o s w.0 w.1 w.2 shaped.0 are).0 w.3 in
      let place = spelled.place in
      let bound = spelled.bound in
      let long = ap length spelled.bytes ∙ length-append (spelling order o w.0) w.2 in
      let left = IsBytes-rest s (spelling order o w.0) w.2 spelled.bytes are in
      let rest = fields_advance ts w.1 w.2 z.0 z.1 z.2 shaped.1 left bound z.3 in
      let one = rest.0 in
      let two = rest.1 in
      let last = z.4 in
      let a : z.1 ≡ q = cc in
      let b : z.2 ≡ r = cc in
      let l = ap length b in
      (omega (arith, place, long, one, a, l), omega (arith, two, a))

  pub values_within : (ts : TypeTrees) (start : ℕ) → AreShaped ts → start ≤ end → (s : List ℕ) (q : ℕ) → IsBytes s → onward (fields (value bounds order room end) ts) done start s ≡ Done tt q [] → (start ≤ q) × (q ≤ end)
  values_within ts start shaped low s q are e =
      let d = after_done (fields (value bounds order room end) ts start s) (λ x. done) tt q [] e in
      let read = fields_advance ts start s d.0 d.1 d.2 shaped are low d.3 in
      let ended = d.4 in
      let a : d.1 ≡ q = cc in
      let b : d.2 ≡ [] = cc in
      let l : length d.2 ≡ 0 = ap length b in
      let one = read.0 in
      let two = read.1 in
      (omega (arith, one, a, l), omega (arith, two, a))

-- ---- the body

module _ (limits : Limits) (order : Order) (body : ℕ) (kept : Kept) (bounds : Bounds) (end o : ℕ) (bounds_is : bounds ≡ bounds_with limits (index_limit limits.fds kept.count)) (end_is : end ≡ o + body) where
  body_begins : (c : List ℕ) → onward (fields (value bounds order limits.depth end) (types_spelled kept.text)) (onward (ends end) done) o c ≡ body_on limits order body kept o c
  body_begins c =
      ap (λ (b : Bounds). onward (fields (value b order limits.depth end) (types_spelled kept.text)) (onward (ends end) done) o c) bounds_is
      ∙ ap (λ (e : ℕ). onward (fields (value (bounds_with limits (index_limit limits.fds kept.count)) order limits.depth e) (types_spelled kept.text)) (onward (ends e) done) o c) end_is

  pub body_flows : (x : ValueChecker) (text : List ℕ) (to : To) → text ≡ kept.text → IsKind kinds.Signature kept.text
      → ((ts : TypeTrees) (last : On) → text ≡ sigs ts → AreShaped ts → values.Denotes x (values_on bounds order limits.depth end ts last o))
      → ((c : List ℕ) → body_on limits order body kept o c ≡ to c) → Flows x end (onward (ends end) done) to
  body_flows x text to text_is signature begun same =
      let w = signature_text kept.text signature in
      record {
        run = onward (fields (value bounds order limits.depth end) (types_spelled kept.text));
        start = o;
        given = [];
        bytes = tt;
        within = values_within bounds order limits.depth end (types_spelled kept.text) o w.0 (omega (arith, end_is));
        value = λ next. begun (types_spelled kept.text) next (text_is ∙ sym w.1) w.0;
        same = λ c. body_begins c ∙ same c;
      }

-- ---- what a run makes of them

-- what a run promises
abbrev pub Ran : ValueChecker → List ℕ → Result ℕ Fault → ValueChecker → Type 0
Ran old s r new = (answer : Answer) → Denotes old answer → Runs s r new answer

module _ (end : ℕ) (last : On) (to : To) (x : ValueChecker) (w : Flows x end last to) where
  abbrev run : On → On
  run next = w.run next

  abbrev answer : On → Answer
  answer next = record { last = next; to = λ c. run next w.start (w.given ++ c) }

  pub flows_refused : (v : ValueChecker) (s : List ℕ) (f : Fault) → Ran x s (Err f) v → (c : List ℕ) → to (s ++ c) ≡ Faulty f
  flows_refused v s f runs c = sym (w.same (s ++ c)) ∙ runs (answer last) (w.value last) c

  -- some bytes were taken
  module _ (v : ValueChecker) (s : List ℕ) (n : ℕ) (runs : Ran x s (Ok n) v) where
    pub flows_there : n ≤ length s
    flows_there = (runs (answer last) (w.value last)).0

    pub flows_wait : IsLive v.doing → to s ≡ Partial
    flows_wait live = sym (w.same s) ∙ (runs (answer last) (w.value last)).2 live

    abbrev pub flows_on : IsBytes s → Flows v end last (after_bytes to (take n s))
    flows_on are = record {
      run = w.run;
      start = w.start;
      given = w.given ++ take n s;
      bytes = IsBytes-append w.given (take n s) w.bytes (IsBytes-front s (take n s) _ (sym (take-append-drop n s)) are);
      within = w.within;
      value = λ next. denotes_same v next (λ c. run next w.start (w.given ++ (take n s ++ c))) (λ c. run next w.start ((w.given ++ take n s) ++ c))
          (λ c. ap (run next w.start) (sym (append_assoc w.given (take n s) c))) (runs (answer next) (w.value next)).1;
      same = λ c. ap (run last w.start) (append_assoc w.given (take n s) c) ∙ w.same (take n s ++ c);
    }

  -- all of them are
  pub flows_over : (IsLive x.doing → ⊥) → (w.start ≤ offset_of x) × (offset_of x ≤ end) × ((c : List ℕ) → last (offset_of x) c ≡ to c)
  flows_over over =
      let law : (next : On) (c : List ℕ) → next (offset_of x) c ≡ run next w.start (w.given ++ c) = λ next c. over_last x (answer next) (w.value next) over c in
      let whole : run done w.start w.given ≡ Done tt (offset_of x) [] = sym (law done [] ∙ ap (run done w.start) (append-nil w.given)) in
      let fits = w.within w.given (offset_of x) w.bytes whole in
      (fits.0, fits.1, λ c. law last c ∙ w.same c)
