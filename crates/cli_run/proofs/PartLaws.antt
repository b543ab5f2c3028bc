-- Parts of an input that follow one another, what is told of them, and the messages among them.
use Rattle.std.proofs.Common.{is_some, ◌≡◌, ◌⊎◌, ℕ, zero, suc, ◌+◌, ◌*◌, ◌-◌, ◌<◌, ◌≤◌, Bool, true, false, List, [], ◌∷◌, ◌++◌, Option, None, Some, length, take, drop, refl, sym, ap, ◌∙◌, subst, arith, inl, inr, ◌||◌, append_assoc, append-nil, length-append, length-drop, take-append-drop}
use Rattle.std.proofs.Math.Path.{transport}
use Rattle.std.proofs.lemmas.Bool.{false≢true}
use Rattle.std.proofs.lemmas.List.{drop-append-le, length-take}
use Rattle.dbus_device.specs.Packets.{Packets}
use Rattle.dbus_value_model.specs.declared.fault.Fault.{Fault}
use Rattle.dbus_value_model.specs.declared.limits.Limits.{Limits}
use Rattle.dbus_header.specs.MessageOutcomes.{IsPartial, IsRefused, IsWhole}
use Rattle.dbus_header.specs.NoMessage.{BeginsWithNone}
use Rattle.dbus_header.proofs.OutcomeLaws.{not_both, nothing_partial, one_outcome, refused_for_good, whole_for_good, whole_inside}
use Rattle.dbus_resync.specs.Search.{BeginsAt, Finds}
use Rattle.dbus_resync.specs.declared.found.Found.TheVariants.{At, Spent}
use Rattle.dbus_resync.specs.declared.found.Searched.{Searched}
use Rattle.dbus_resync.proofs.DamagedLaws.{begins_inside}
use Rattle.dbus_stream.specs.Cut.{BeginWith, CutMessage, CutOutcome, Ended, Unfinished, Refused}
use Rattle.dbus_stream.specs.GoingOn.{IsSettled, LeadsOn, counted, effort_of}
use Rattle.dbus_stream.specs.Next.{IsCutShort}
use Rattle.dbus_stream.specs.CutEnds.{sizes}
use Rattle.dbus_stream.proofs.FaultPackets.{refused_later}
use Rattle.dbus_stream.proofs.MetSteps.{settled_more, settled_sixteen, stays_settled}
use Rattle.dbus_stream.proofs.SeekSteps.{led_inside}
use Rattle.dbus_stream.proofs.SizeSteps.{one_size, size_front, size_some}
use Rattle.cli_options.specs.declared.resync.Resync.{Resync}
use Rattle.cli_options.specs.declared.resync.Resync.TheVariants.{Within}
use Rattle.cli_options.specs.declared.settings.Settings.{Settings}
use Rattle.cli_run.specs.Inputs.{ArePlaced, IsPlaced, IsPacketBefore, IsTimeBefore, Part, Whole, PassedOver, Placed, size_of, sizes_of, time_of, wholes, By, Stated, InPacket, Resumed, PastWindow, BeginNowhere, IsLarger, HasSize, IsFaultOf, IsLast, IsPart, IsPassedBy, BeginWithParts, ResumeIn, SoughtIn, is_to_end, looked_after, looked_behind, looked_for, looked_in, reach_end, seek_of}
use Rattle.cli_report.proofs.FaultFronts.{front_more, front_refused}
use Rattle.cli_run.specs.Laws.{LooksAtFew}
use Rattle.cli_run.specs.Output.{check_line, fault_line}
use Rattle.cli_run.specs.Going.{AreTold, closing_line, passed_count, passed_sizes}
use Rattle.cli_run.specs.declared.place.MessagePlace.{MessagePlace}
use Rattle.cli_run.specs.declared.tally.Tally.{Tally}

-- ---- the input

-- whether one of two does
or_none : (a b : Bool) → a || b ≡ false → (a ≡ false) × (b ≡ false)
or_none true b e = absurd (false≢true (sym e))
or_none false b e = (refl, e)

-- one offset
at_same : (n k : ℕ) → At n ≡ At k → n ≡ k
at_same n k e = cc

module _ (limits : Limits) where
  -- it is refused, or the input ends within it
  pub either_fault : (bytes : List ℕ) (fault : Fault) (by : By) → IsFaultOf limits bytes fault by → IsRefused limits bytes fault ⊎ IsCutShort limits bytes fault
  either_fault bytes fault Stated f = inl f
  either_fault bytes fault (InPacket number) f = inl f
  either_fault bytes fault (Resumed window effort looked false) f = inl f
  either_fault bytes fault (Resumed window effort looked true) f = elim f [ inl refused ↦ inl refused.0 | inr cut ↦ inr cut ]
  either_fault bytes fault (PastWindow window effort looked) f = inl f

  -- messages begin again among the bytes
  -- there, or where the size leads
  resumes_where : (window effort : ℕ) (bytes : List ℕ) (s : Searched) (size : ℕ) → ResumeIn limits window effort bytes s → s.found ≡ At size → LeadsOn limits window (take window bytes) size ⊎ BeginsAt limits (take window bytes) size
  resumes_where window effort bytes s size r is = elim r.2 [
    | inl spent ↦ absurd (let none : Spent ≡ At size = sym (ap (λ (t : Searched). t.found) spent.1) ∙ is in cc)
    | inr enough ↦ elim enough.1 [
      | inl led ↦ inl (subst (LeadsOn limits window (take window bytes)) (at_same led.0 size (sym (ap (λ (t : Searched). t.found) led.2) ∙ is)) led.1)
      | inr first ↦ inr (subst (Finds limits (take window bytes)) (sym (ap (λ (t : Searched). t.found) first.3) ∙ is) first.2.finds).begins
    ]
  ]

  resumes_inside : (window effort looked : ℕ) (bytes : List ℕ) (size : ℕ) → ResumeIn limits window effort bytes (record { found = At size; looked = looked }) → size ≤ length bytes
  resumes_inside window effort looked bytes size r =
      let short = length-take window bytes in
      elim (resumes_where window effort bytes (record { found = At size; looked = looked }) size r refl) [
        | inl led ↦ (let inside = led_inside limits window (take window bytes) size led in omega (arith, inside, short))
        | inr begins ↦ (let inside = begins_inside limits (take window bytes) size begins in omega (arith, inside, short))
      ]

  -- and not where the bytes begin, if no message does
  resumes_later : (window effort looked : ℕ) (bytes : List ℕ) (size : ℕ) → BeginsWithNone limits bytes → ResumeIn limits window effort bytes (record { found = At size; looked = looked }) → 0 < size
  resumes_later window effort looked bytes zero none r = elim (resumes_where window effort bytes (record { found = At 0; looked = looked }) 0 r refl) [
    | inl led ↦ (let some = size_some limits (take window bytes) 0 led.states in omega (arith, some))
    | inr b ↦ absurd (none b.0 b.1 b.2 (subst (λ (l : List ℕ). IsWhole limits l b.0 b.1 b.2) (take-append-drop window bytes) (whole_for_good limits (take window bytes) (drop window bytes) b.0 b.1 b.2 b.3)))
  ]
  resumes_later window effort looked bytes (suc size) none r = omega arith

  -- they begin again nowhere, by the same search
  abbrev pub StayNowhere : (window effort : ℕ) → Searched → List ℕ → Type 0
  StayNowhere window effort s bytes = (b : BeginNowhere limits window effort bytes (Unit {0})) × (b.searched ≡ s)

  -- whatever follows
  pub nowhere_there : (window effort : ℕ) (bytes more : List ℕ) → IsSettled true limits window bytes → (at_end : Type 0) → (b : BeginNowhere limits window effort bytes at_end) → StayNowhere window effort b.searched (bytes ++ more)
  nowhere_there window effort bytes more settled at_end b = (
    record {
      searched = b.searched;
      nowhere = b.nowhere;
      resumes = settled_more limits window effort bytes more b.searched settled b.resumes;
      all = inr tt;
    },
    refl,
  )

  -- it is so of all of the input
  pub nowhere_more : (window effort : ℕ) (rest more : List ℕ) (at_end : Type 0) → (at_end → more ≡ []) → (b : BeginNowhere limits window effort rest at_end) → StayNowhere window effort b.searched (rest ++ more)
  nowhere_more window effort rest more at_end none b = elim b.all [
    | inl settled ↦ nowhere_there window effort rest more settled at_end b
    | inr end ↦ subst (StayNowhere window effort b.searched) (sym (ap (λ (l : List ℕ). rest ++ l) (none end) ∙ append-nil rest)) (record { searched = b.searched; nowhere = b.nowhere; resumes = b.resumes; all = inr tt }, refl)
  ]

  -- the message there is larger than the window, whatever follows
  pub larger_more : (window : ℕ) (rest more : List ℕ) → IsLarger limits window rest → IsLarger limits window (rest ++ more)
  larger_more window rest more l = (l.0, (one_size limits rest more l.0 l.0 l.1).0, l.2)

  -- and so it is if it is not
  pub not_larger : (window effort : ℕ) (rest more : List ℕ) (at_end : Type 0) → (at_end → more ≡ []) → BeginNowhere limits window effort rest at_end → (IsLarger limits window rest → ⊥) → IsLarger limits window (rest ++ more) → ⊥
  not_larger window effort rest more at_end none b small l = elim b.all [
    | inl settled ↦ small (l.0, size_front limits rest more l.0 (settled_sixteen limits window rest settled) l.1, l.2)
    | inr end ↦ small (subst (IsLarger limits window) (ap (λ (l : List ℕ). rest ++ l) (none end) ∙ append-nil rest) l)
  ]

  size_inside : (bytes front : List ℕ) (by : By) (size : ℕ) → HasSize limits front bytes by size → size ≤ length bytes
  size_inside bytes front Stated size h = h.1
  size_inside bytes front (InPacket number) size h = omega (arith, h.1)
  size_inside bytes front (Resumed window effort looked to_end) size h = resumes_inside window effort looked bytes size h.0
  size_inside bytes front (PastWindow window effort looked) size h = h.4

  size_more : (bytes more front : List ℕ) (by : By) (size : ℕ) → is_to_end by ≡ false → HasSize limits front bytes by size → HasSize limits front (bytes ++ more) by size
  size_more bytes more front Stated size open_ h = ((one_size limits bytes more size size h.0).0, omega (arith, h.1, length-append bytes more))
  size_more bytes more front (InPacket number) size open_ h = (h.0, omega (arith, h.1, length-append bytes more))
  size_more bytes more front (Resumed window effort looked to_end) size open_ h =
      let settled = h.1 open_ in
      (settled_more limits window effort bytes more (record { found = At size; looked = looked }) settled h.0, λ _. stays_settled limits window bytes more settled)
  size_more bytes more front (PastWindow window effort looked) size open_ h =
      let none = nowhere_there window effort bytes more (inl (omega (arith, h.3, h.4, size_some limits bytes size h.2))) (Unit {0}) h.0 in
      (none.0, ap (λ (s : Searched). s.looked) none.1 ∙ h.1, (one_size limits bytes more size size h.2).0, h.3, omega (arith, h.4, length-append bytes more))

  -- it is refused, if the input need not end there
  fault_open : (bytes : List ℕ) (fault : Fault) (by : By) → is_to_end by ≡ false → IsFaultOf limits bytes fault by → IsRefused limits bytes fault
  fault_open bytes fault Stated open_ f = f
  fault_open bytes fault (InPacket number) open_ f = f
  fault_open bytes fault (Resumed window effort looked false) open_ f = f
  fault_open bytes fault (Resumed window effort looked true) open_ f = absurd (false≢true (sym open_))
  fault_open bytes fault (PastWindow window effort looked) open_ f = f

  is_fault_of : (bytes : List ℕ) (fault : Fault) (by : By) → is_to_end by ≡ false → IsRefused limits bytes fault → IsFaultOf limits bytes fault by
  is_fault_of bytes fault Stated open_ f = f
  is_fault_of bytes fault (InPacket number) open_ f = f
  is_fault_of bytes fault (Resumed window effort looked false) open_ f = f
  is_fault_of bytes fault (Resumed window effort looked true) open_ f = absurd (false≢true (sym open_))
  is_fault_of bytes fault (PastWindow window effort looked) open_ f = f

  -- what is refused, or what the input ends within, begins with no message
  pub none_begins : (bytes : List ℕ) (fault : Fault) (by : By) → IsFaultOf limits bytes fault by → BeginsWithNone limits bytes
  none_begins bytes fault by f = λ order m n whole. elim (either_fault bytes fault by f) [
    | inl refused ↦ not_both limits bytes order m n fault whole refused
    | inr cut ↦ (one_outcome limits bytes).1 order m n whole cut.1
  ]

  -- what is refused has bytes
  pub part_some : (bytes front : List ℕ) (fault : Fault) (by : By) (size : ℕ) → IsPart limits bytes (PassedOver front fault by size) → 0 < size
  part_some bytes front fault Stated size p = let long = size_some limits bytes size p.2.0 in omega (arith, long)
  part_some bytes front fault (InPacket number) size p = omega (arith, p.2.0, refused_later limits 0 front fault (nothing_partial limits) (front_refused limits bytes front fault p.0 p.1))
  part_some bytes front fault (Resumed window effort looked to_end) size p = resumes_later window effort looked bytes size (none_begins bytes fault (Resumed window effort looked to_end) p.1) p.2.0
  part_some bytes front fault (PastWindow window effort looked) size p = let long = size_some limits bytes size p.2.2 in omega (arith, long)

  part_inside : (bytes : List ℕ) (part : Part) → IsPart limits bytes part → size_of part ≤ length bytes
  part_inside bytes (Whole item) p = (whole_inside limits bytes item.order item.message item.size p).1
  part_inside bytes (PassedOver front fault by size) p = size_inside bytes front by size p.2

  part_more : (bytes more : List ℕ) (part : Part) → reach_end (part ∷ []) ≡ false → IsPart limits bytes part → IsPart limits (bytes ++ more) part
  part_more bytes more (Whole item) open_ p = whole_for_good limits bytes more item.order item.message item.size p
  part_more bytes more (PassedOver front fault by size) open_ p =
      let far = (or_none (is_to_end by) false open_).0 in
      let refused = fault_open bytes fault by far p.1 in (
        front_more limits bytes more front (inl (fault, refused)) p.0,
        is_fault_of (bytes ++ more) fault by far (refused_for_good limits bytes more fault refused),
        size_more bytes more front by size far p.2,
      )

  -- each of the parts
  reach_first : (part : Part) (parts : List Part) → reach_end (part ∷ parts) ≡ false → (reach_end (part ∷ []) ≡ false) × (reach_end parts ≡ false)
  reach_first (Whole item) parts e = (refl, e)
  reach_first (PassedOver front fault Stated size) parts e = (refl, e)
  reach_first (PassedOver front fault (InPacket number) size) parts e = (refl, e)
  reach_first (PassedOver front fault (Resumed window effort looked false) size) parts e = (refl, e)
  reach_first (PassedOver front fault (Resumed window effort looked true) size) parts e = absurd (false≢true (sym e))
  reach_first (PassedOver front fault (PastWindow window effort looked) size) parts e = (refl, e)

  parts_open : (bytes : List ℕ) (parts : List Part) (rest more : List ℕ) → reach_end parts ≡ false → BeginWithParts limits bytes parts rest → BeginWithParts limits (bytes ++ more) parts (rest ++ more)
  parts_open bytes [] rest more open_ b = ap (λ l. l ++ more) b
  parts_open bytes (part ∷ parts) rest more open_ b =
      let both = reach_first part parts open_ in
      let joined : drop (size_of part) (bytes ++ more) ≡ drop (size_of part) bytes ++ more = drop-append-le (size_of part) bytes more (part_inside bytes part b.0) in (
        part_more bytes more part both.0 b.0,
        subst (λ l. BeginWithParts limits l parts (rest ++ more)) (sym joined) (parts_open (drop (size_of part) bytes) parts rest more both.1 b.1),
      )

  -- more bytes after, unless the input ends with these
  pub parts_more : (bytes : List ℕ) (parts : List Part) (rest more : List ℕ) → (reach_end parts ≡ true → more ≡ []) → BeginWithParts limits bytes parts rest → BeginWithParts limits (bytes ++ more) parts (rest ++ more)
  parts_more bytes parts rest more none b = by_end (reach_end parts) refl
    where
      by_end : (end : Bool) → reach_end parts ≡ end → BeginWithParts limits (bytes ++ more) parts (rest ++ more)
      by_end false e = parts_open bytes parts rest more e b
      by_end true e =
          let no = none e in
          let first : bytes ++ more ≡ bytes = ap (λ (l : List ℕ). bytes ++ l) no ∙ append-nil bytes in
          let last : rest ++ more ≡ rest = ap (λ (l : List ℕ). rest ++ l) no ∙ append-nil rest in
          transport (λ i. BeginWithParts limits (sym first i) parts (sym last i)) b

  -- parts after others
  pub parts_both : (bytes : List ℕ) (parts more : List Part) (mid rest : List ℕ) → BeginWithParts limits bytes parts mid → BeginWithParts limits mid more rest → BeginWithParts limits bytes (parts ++ more) rest
  parts_both bytes [] more mid rest b c = subst (λ l. BeginWithParts limits l more rest) (sym b) c
  parts_both bytes (part ∷ parts) more mid rest b c = (b.0, parts_both (drop (size_of part) bytes) parts more mid rest b.1 c)

  pub parts_of : (bytes : List ℕ) (items : List CutMessage) (rest : List ℕ) → BeginWith limits bytes items rest → BeginWithParts limits bytes (wholes items) rest
  parts_of bytes [] rest b = b
  parts_of bytes (item ∷ items) rest b = (b.0, parts_of (drop item.size bytes) items rest b.1)

  some_bytes : (bytes : List ℕ) (part : Part) → IsPart limits bytes part → 0 < size_of part
  some_bytes bytes (Whole item) p = (whole_inside limits bytes item.order item.message item.size p).0
  some_bytes bytes (PassedOver front fault by size) p = part_some bytes front fault by size p

  -- no more parts than bytes
  pub few_parts : (bytes : List ℕ) (parts : List Part) (rest : List ℕ) → BeginWithParts limits bytes parts rest → length parts ≤ sizes_of parts
  few_parts bytes [] rest b = omega arith
  few_parts bytes (part ∷ parts) rest b = omega (arith, some_bytes bytes part b.0, few_parts (drop (size_of part) bytes) parts rest b.1)

  -- the parts and the rest have all bytes
  pub parts_length : (bytes : List ℕ) (parts : List Part) (rest : List ℕ) → BeginWithParts limits bytes parts rest → length bytes ≡ sizes_of parts + length rest
  parts_length bytes [] rest b = omega (arith, ap length b)
  parts_length bytes (part ∷ parts) rest b = omega (arith, part_inside bytes part b.0, parts_length (drop (size_of part) bytes) parts rest b.1, length-drop (size_of part) bytes)

pub reach_wholes : (items : List CutMessage) → reach_end (wholes items) ≡ false
reach_wholes [] = refl
reach_wholes (item ∷ items) = reach_wholes items

or_assoc : (a b c : Bool) → a || (b || c) ≡ (a || b) || c
or_assoc true b c = refl
or_assoc false b c = refl

pub reach-both : (parts more : List Part) → reach_end (parts ++ more) ≡ reach_end parts || reach_end more
reach-both [] more = refl
reach-both (Whole item ∷ parts) more = reach-both parts more
reach-both (PassedOver front fault by size ∷ parts) more = ap (λ (b : Bool). is_to_end by || b) (reach-both parts more) ∙ or_assoc (is_to_end by) (reach_end parts) (reach_end more)

-- the rest ends a run that is not to go on
pub is_last : (packets : Option Packets) (settings : Settings) (limits : Limits) (offset looked : ℕ) (rest : List ℕ) (outcome : CutOutcome) (at_end : Type 0) → settings.keeps_going ≡ false → (((f : Fault) → outcome ≡ Refused f → ⊥) → at_end)
    → IsLast packets None settings limits offset looked rest outcome at_end
is_last packets settings limits offset looked rest (Refused fault) at_end halts all = λ on. absurd (false≢true (sym halts ∙ on))
is_last packets settings limits offset looked rest Ended at_end halts all = all (λ f e. absurd (let both = e in cc))
is_last packets settings limits offset looked rest Unfinished at_end halts all = (all (λ f e. absurd (let both = e in cc)), λ on. absurd (false≢true (sym halts ∙ on)))

-- ---- counts

pub sizes-both : (parts more : List Part) → sizes_of (parts ++ more) ≡ sizes_of parts + sizes_of more
sizes-both [] more = omega arith
sizes-both (part ∷ parts) more = omega (arith, sizes-both parts more)

pub passed-both : (parts more : List Part) → passed_count (parts ++ more) ≡ passed_count parts + passed_count more
passed-both [] more = omega arith
passed-both (Whole item ∷ parts) more = passed-both parts more
passed-both (PassedOver front fault by size ∷ parts) more = omega (arith, passed-both parts more)

pub passed_sizes-both : (parts more : List Part) → passed_sizes (parts ++ more) ≡ passed_sizes parts + passed_sizes more
passed_sizes-both [] more = omega arith
passed_sizes-both (Whole item ∷ parts) more = passed_sizes-both parts more
passed_sizes-both (PassedOver front fault by size ∷ parts) more = omega (arith, passed_sizes-both parts more)

pub sizes-wholes : (items : List CutMessage) → sizes_of (wholes items) ≡ sizes items
sizes-wholes [] = refl
sizes-wholes (item ∷ items) = ap (λ n. item.size + n) (sizes-wholes items)

pub passed-wholes : (items : List CutMessage) → passed_count (wholes items) ≡ 0
passed-wholes [] = refl
passed-wholes (item ∷ items) = passed-wholes items

pub passed_sizes-wholes : (items : List CutMessage) → passed_sizes (wholes items) ≡ 0
passed_sizes-wholes [] = refl
passed_sizes-wholes (item ∷ items) = passed_sizes-wholes items

-- no more are passed over than there are
pub few_passed : (parts : List Part) → passed_count parts ≤ length parts
few_passed [] = omega arith
few_passed (Whole item ∷ parts) = omega (arith, few_passed parts)
few_passed (PassedOver front fault by size ∷ parts) = omega (arith, few_passed parts)

pub few_passed_sizes : (parts : List Part) → passed_sizes parts ≤ sizes_of parts
few_passed_sizes [] = omega arith
few_passed_sizes (Whole item ∷ parts) = omega (arith, few_passed_sizes parts)
few_passed_sizes (PassedOver front fault by size ∷ parts) = omega (arith, few_passed_sizes parts)

-- ---- texts

-- those of parts after others
module _ (packets : Option Packets) (settings : Settings) where
  pub told_both : (n offset looked : ℕ) (parts more : List Part) (a b : List ℕ) → AreTold packets settings n offset looked parts a
      → AreTold packets settings (n + length parts) (offset + sizes_of parts) (looked_behind parts offset looked) more b → AreTold packets settings n offset looked (parts ++ more) (a ++ b)
  told_both n offset looked [] more a b p q =
      let number : n + 0 ≡ n = omega arith in
      let place : offset + 0 ≡ offset = omega arith in
      transport (λ i. AreTold packets settings (number i) (place i) looked more (sym p i ++ b)) q
  told_both n offset looked (part ∷ parts) more a b p q =
      let number : n + suc (length parts) ≡ n + 1 + length parts = omega arith in
      let place : offset + (size_of part + sizes_of parts) ≡ offset + size_of part + sizes_of parts = omega arith in
      let rest = transport (λ i. AreTold packets settings (number i) (place i) (looked_behind (part ∷ parts) offset looked) more b) q in
      (p.0, p.1 ++ b, ap (λ l. l ++ b) p.2 ∙ append_assoc p.0 p.1 b, p.3, told_both (n + 1) (offset + size_of part) (looked_after part offset looked) parts more p.1 b p.4 rest)

  pub told_of : (n offset looked : ℕ) (items : List CutMessage) → AreTold packets settings n offset looked (wholes items) []
  told_of n offset looked [] = refl
  told_of n offset looked (item ∷ items) = ([], [], refl, refl, told_of (n + 1) (offset + item.size) looked items)

-- how many count as looked at behind parts after others, and behind messages
pub looked-both : (parts more : List Part) (offset looked : ℕ) → looked_behind (parts ++ more) offset looked ≡ looked_behind more (offset + sizes_of parts) (looked_behind parts offset looked)
looked-both [] more offset looked = (let place : offset ≡ offset + 0 = omega arith in ap (λ (n : ℕ). looked_behind more n looked) place)
looked-both (part ∷ parts) more offset looked =
    let place : offset + size_of part + sizes_of parts ≡ offset + (size_of part + sizes_of parts) = omega arith in
    looked-both parts more (offset + size_of part) (looked_after part offset looked) ∙ ap (λ (n : ℕ). looked_behind more n (looked_behind parts (offset + size_of part) (looked_after part offset looked))) place

pub looked-wholes : (items : List CutMessage) (offset looked : ℕ) → looked_behind (wholes items) offset looked ≡ looked
looked-wholes [] offset looked = refl
looked-wholes (item ∷ items) offset looked = looked-wholes items (offset + item.size) looked

few_counted : (window done looked more : ℕ) → looked ≤ 16 * (done + window) → counted window done looked more ≤ 16 * (done + window)
few_counted window done looked more few = omega (arith, few)

module _ (packets : Option Packets) (settings : Settings) (window : ℕ) (is : settings.resync ≡ Within window) where
  few_sought : (effort_there other effort offset looked more : ℕ) → seek_of settings.resync offset effort_there ≡ SoughtIn other effort → looked ≤ 16 * (offset + window) → counted other offset looked more ≤ 16 * (offset + window)
  few_sought there other effort offset looked more sought few =
      let both : SoughtIn window (effort_of window offset there) ≡ SoughtIn other effort = sym (ap (λ (r : Resync). seek_of r offset there) is) ∙ sought in
      let same : window ≡ other = cc in
      subst (λ (w : ℕ). counted w offset looked more ≤ 16 * (offset + window)) same (few_counted window offset looked more few)

  few_for : (by : By) (fault : Fault) (offset looked size : ℕ) (front : List ℕ) → IsPassedBy packets (seek_of settings.resync offset (looked + fault.at)) settings.limits offset front by size → looked ≤ 16 * (offset + window)
      → looked_for by fault.at offset looked ≤ 16 * (offset + window)
  few_for Stated fault offset looked size front passed few = few
  few_for (InPacket number) fault offset looked size front passed few = few
  few_for (Resumed other effort more to_end) fault offset looked size front passed few = few_sought (looked + fault.at) other effort offset looked (fault.at + more) passed.0 few
  few_for (PastWindow other effort more) fault offset looked size front passed few = few_sought (looked + fault.at) other effort offset looked (fault.at + more) passed.0 few

  few_behind : (parts : List Part) (n offset looked : ℕ) (told : List ℕ) → AreTold packets settings n offset looked parts told → looked ≤ 16 * (offset + window) → looked_behind parts offset looked ≤ 16 * (offset + sizes_of parts + window)
  few_behind [] n offset looked told t few = omega (arith, few)
  few_behind (Whole item ∷ parts) n offset looked told t few =
      let rest = few_behind parts (n + 1) (offset + item.size) looked t.1 t.4 (omega (arith, few)) in
      omega (arith, rest)
  few_behind (PassedOver front fault by size ∷ parts) n offset looked told t few =
      let now = few_for by fault offset looked size front t.3.1 few in
      let rest = few_behind parts (n + 1) (offset + size) (looked_for by fault.at offset looked) t.1 t.4 (omega (arith, now)) in
      omega (arith, rest)

pub looks_at_few : LooksAtFew
looks_at_few packets settings window parts told is t =
    let few : looked_in parts ≤ 16 * (0 + sizes_of parts + window) = few_behind packets settings window is parts 1 0 0 told t (omega arith) in
    omega (arith, few)

-- `check` writes the line of the fault, or else the last line
pub line_is : (t : Tally) (fault : Option Fault) (packet : Option ℕ) → fault_line t.size fault packet ++ closing_line false true false t 0 fault ≡ check_line t.count t.size fault packet
line_is t None packet = refl
line_is t (Some fault) packet = append-nil (fault_line t.size (Some fault) packet)

-- ---- the messages among them

-- the time of the byte before a place, and whether it came in a packet, if the packets are known
time_before : Option Packets → (end : ℕ) → Option ℕ
time_before None end = None
time_before (Some packets) end = time_of (packets (end - 1))

packet_before : Option Packets → (end : ℕ) → Bool
packet_before None end = false
packet_before (Some packets) end = is_some (packets (end - 1))

is_packet : (packets : Option Packets) (end : ℕ) → IsPacketBefore packets end (packet_before packets end)
unfolding packet_before
is_packet None end = tt
is_packet (Some packets) end = refl

is_time : (packets : Option Packets) (end : ℕ) → IsTimeBefore packets end (time_before packets end)
unfolding time_before
is_time None end = tt
is_time (Some packets) end = refl

-- there are some
pub some_placed : (packets : Option Packets) (n offset : ℕ) (parts : List Part) → (messages : List Placed) × ArePlaced packets n offset parts messages
some_placed packets n offset [] = ([], refl)
some_placed packets n offset (Whole item ∷ parts) =
    let more = some_placed packets (n + 1) (offset + item.size) parts in
    let place : MessagePlace = record { number = n; offset = offset; time = time_before packets (offset + item.size); in_packet = packet_before packets (offset + item.size) } in (
      record { place = place; item = item } ∷ more.0,
      (record { item_is = refl; number_is = refl; offset_is = refl; time_is = is_time packets (offset + item.size); packet_is = is_packet packets (offset + item.size) }, more.1),
    )
some_placed packets n offset (PassedOver front fault by size ∷ parts) = some_placed packets (n + 1) (offset + size) parts

module _ (packets : Option Packets) where
  moved : (n m offset at : ℕ) (parts : List Part) (messages : List Placed) → n ≡ m → offset ≡ at → ArePlaced packets n offset parts messages → ArePlaced packets m at parts messages
  moved n m offset at parts messages number place p = transport (λ i. ArePlaced packets (number i) (place i) parts messages) p

  -- those of parts after others
  pub placed_both : (n offset : ℕ) (parts more : List Part) (a b : List Placed) → ArePlaced packets n offset parts a → ArePlaced packets (n + length parts) (offset + sizes_of parts) more b
      → ArePlaced packets n offset (parts ++ more) (a ++ b)
  placed_both n offset [] more a b p q =
      subst (λ (l : List Placed). ArePlaced packets n offset more (l ++ b)) (sym p) (moved (n + 0) n (offset + 0) offset more b (omega arith) (omega arith) q)
  placed_both n offset (Whole item ∷ parts) more [] b p q = absurd p
  placed_both n offset (Whole item ∷ parts) more (m ∷ a) b p q =
      (p.0, placed_both (n + 1) (offset + item.size) parts more a b p.1 (moved (n + suc (length parts)) (n + 1 + length parts) (offset + (item.size + sizes_of parts)) (offset + item.size + sizes_of parts) more b (omega arith) (omega arith) q))
  placed_both n offset (PassedOver front fault by size ∷ parts) more a b p q =
      placed_both (n + 1) (offset + size) parts more a b p (moved (n + suc (length parts)) (n + 1 + length parts) (offset + (size + sizes_of parts)) (offset + size + sizes_of parts) more b (omega arith) (omega arith) q)

  -- one message more
  pub placed_last : (n offset : ℕ) (items : List CutMessage) (item : CutMessage) (messages : List Placed) (m : Placed) → ArePlaced packets n offset (wholes items) messages
      → IsPlaced packets (n + length items) (offset + sizes items) item m → ArePlaced packets n offset (wholes (items ++ item ∷ [])) (messages ++ m ∷ [])
  placed_last n offset [] item messages m p q =
      let number : n + 0 ≡ n = omega arith in
      let place : offset + 0 ≡ offset = omega arith in
      subst (λ (l : List Placed). ArePlaced packets n offset (wholes (item ∷ [])) (l ++ m ∷ [])) (sym p) (transport (λ i. IsPlaced packets (number i) (place i) item m) q, refl)
  placed_last n offset (x ∷ items) item [] m p q = absurd p
  placed_last n offset (x ∷ items) item (y ∷ messages) m p q =
      let number : n + suc (length items) ≡ n + 1 + length items = omega arith in
      let place : offset + (x.size + sizes items) ≡ offset + x.size + sizes items = omega arith in
      (p.0, placed_last (n + 1) (offset + x.size) items item messages m p.1 (transport (λ i. IsPlaced packets (number i) (place i) item m) q))

  -- one more is passed over
  pub placed_past : (n offset : ℕ) (parts : List Part) (front : List ℕ) (fault : Fault) (by : By) (size : ℕ) (messages : List Placed) → ArePlaced packets n offset parts messages
      → ArePlaced packets n offset (parts ++ PassedOver front fault by size ∷ []) messages
  placed_past n offset parts front fault by size messages p =
      subst (λ (l : List Placed). ArePlaced packets n offset (parts ++ PassedOver front fault by size ∷ []) l) (append-nil messages)
      (placed_both n offset parts (PassedOver front fault by size ∷ []) messages [] p refl)
