-- What is read of a source, and for what.
use Rattle.std.proofs.Common.{◌≡◌, ◌⊎◌, ℕ, ◌+◌, ◌*◌, ◌-◌, ◌<◌, ◌≤◌, List, [], ◌∷◌, ◌++◌, Option, true}
use Rattle.std.proofs.Common.{length, take, drop, inl, inr, refl, sym, ap, ◌∙◌, subst, arith}
use Rattle.std.proofs.Common.{append_assoc, length-append, take-append-drop}
use Rattle.std.proofs.lemmas.Bool.{cases_lt}
use Rattle.std.proofs.lemmas.List.{length-take-le, take-append-le}
use Rattle.std.specs.Io.KnownBytes.{Consumes}
use Rattle.std.proofs.KnownBytes.{Consumes-trans}
use Rattle.dbus_value_model.specs.declared.fault.Fault.{Fault}
use Rattle.dbus_value_model.specs.declared.limits.Limits.{Limits}
use Rattle.dbus_value_model.specs.declared.order.Order.{Order}
use Rattle.dbus_message_model.specs.Messages.{MessageTree}
use Rattle.dbus_header.specs.MessageOutcomes.{IsWhole, IsPartial}
use Rattle.dbus_header.proofs.OutcomeLaws.{one_outcome}
use Rattle.dbus_validate.proofs.Headed.{alone, followed}
use Rattle.dbus_stream.specs.Cut.{CutMessage, BeginWith}
use Rattle.dbus_stream.specs.CutEnds.{sizes}
use Rattle.dbus_stream.specs.Gathering.{gathering}
use Rattle.dbus_stream.specs.GoingOn.{IsMet, ReadsToGoOn, ahead_of}
use Rattle.dbus_stream.specs.Next.{ReadsWhile}
use Rattle.dbus_stream.specs.RawReading as raw
use Rattle.dbus_stream.specs.Reading.{source_of}
use Rattle.dbus_stream.specs.StatedSizes.{StatesSize, WantsMore}
use Rattle.dbus_stream.specs.Taking.{Taking}
use Rattle.dbus_stream.specs.declared.buffer.Buffer.{Ghosts}
use Rattle.dbus_stream.specs.declared.raw_reader.RawReader.{RawReader}
use Rattle.dbus_stream.specs.declared.reader.Reader.{Reader}
use Rattle.dbus_stream.proofs.SizeSteps.{one_size, size_some}
use Rattle.cli_report.specs.Devices.{Reading}
use Rattle.cli_run.specs.Inputs.{By, Part, PassedOver, Whole, sizes_of}
use Rattle.cli_run.specs.Needed.{IsReadFor, IsUnshown, ReadsIf, ReadsOnlyIf, WantMore, ahead_by}

-- a message has more bytes than the first ones that are no message yet
pub whole_past : (limits : Limits) (held piece : List ℕ) (order : Order) (m : MessageTree)
    (size : ℕ) → IsPartial limits held → IsWhole limits (held ++ piece) order m size
    → length held < size
whole_past limits held piece order m size partial whole = elim (cases_lt (length held) size) [
  | inl past ↦ past
  | inr fits ↦ (
      let front : IsWhole limits (take size held) order m size =
      subst (λ l. IsWhole limits l order m size) (take-append-le size held piece fits)
      (alone limits (held ++ piece) order m size whole) in
      let all = followed limits held order m size size front in
      absurd ((one_outcome limits held).1 order m size all partial)
      )
]

-- and a refused one has more than those of it after which more is wanted
pub wants_less : (limits : Limits) (bytes more : List ℕ) (size : ℕ) → WantsMore limits bytes
    → StatesSize limits (bytes ++ more) size → length bytes < size
wants_less limits bytes more size (inl few) s =
    let long = size_some limits (bytes ++ more) size s in omega (arith, few.2, long)
wants_less limits bytes more size (inr stated) s =
    let same = (one_size limits bytes more stated.0 size stated.1).1 s in
    omega (arith, stated.2, same)

-- reads, and more after them
module _ {R : Type 0} (left : R → Option (List ℕ)) (calls : R → ℕ) (First Then Holds : ℕ → Type 0)
  where
    pub reads_then : (a b c : R) (bytes : List ℕ) → Consumes (left a) (left b) bytes
        → ReadsIf left calls First a b → ReadsIf left calls Then b c
        → ((came : ℕ) → First came → Holds came)
        → ((came : ℕ) → Then came → Holds (length bytes + came)) → ReadsIf left calls Holds a c
    reads_then a b c bytes came first next f g = elim next [
      | inl none ↦ elim first [
        | inl unread ↦ inl (omega (arith, unread, none))
        | inr (before, between, all, last, holds) ↦
            inr (before, between, all, omega (arith, last, none), f (length before) holds)
      ]
      | inr (before, between, all, last, holds) ↦ inr (
        bytes ++ before,
        between,
        Consumes-trans _ _ _ _ _ came all,
        last,
        subst Holds (sym (length-append bytes before)) (g (length before) holds),
      )
    ]

-- as a clause says it
pub reads_only : {R : Type 0} (r : Reading R) (Wants : ℕ → Type 0)
    → ReadsIf r.left r.calls Wants r.old r.new → ReadsOnlyIf Wants (IsReadFor r)
reads_only r Wants reads = elim reads [
  | inl none ↦ inl (inl none)
  | inr (before, between, came, last, wants) ↦
      inr (length before, wants, inr (before, between, came, last, omega arith))
]

-- of a source that stands where this one does
pub reads_as : {N M : (size : ℕ) → Type 0} (Wants : ℕ → Type 0) → ((size : ℕ) → N size → M size)
    → ReadsOnlyIf Wants N → ReadsOnlyIf Wants M
reads_as Wants to reads = elim reads [
  | inl none ↦ inl (to 0 none)
  | inr (came, wants, some) ↦ inr (came, wants, to (came + 1) some)
]

-- those of one call
module _ {R T B A G : Type 0} {b : Ghosts B} (k : Taking T G) (Needed : List ℕ → Type 0)
    (left : R → Option (List ℕ)) (calls : R → ℕ) where
  pub reads_if : (old new : Reader R T B A b) (r : ReadsWhile k Needed left calls old new)
      (Holds : ℕ → Type 0) → (Needed r.before → Holds (length r.before))
      → ReadsIf left calls Holds (source_of old) (source_of new)
  reads_if old new r Holds f = elim (cases_lt 0 r.count) [
    | inl some ↦ (
        let call = r.one_call some in
        inr (r.before, r.between, r.came, omega (arith, call), f (r.needed some))
        )
    | inr none ↦ (let called = r.called in inl (omega (arith, called, none)))
  ]

-- by the size that a refused message states
abbrev Wants : Limits → (front before : List ℕ) → Type 0
Wants limits front before = WantsMore limits (front ++ before)

module _ {R T B A G : Type 0} {b : Ghosts B} (k : Taking T G) (left : R → Option (List ℕ))
    (calls : R → ℕ) (limits : Limits) (front : List ℕ) where
  pub reads_sized : (old new : Reader R T B A b) (r : ReadsWhile k (Wants limits front) left calls old new)
      (size : ℕ) → StatesSize limits (front ++ r.bytes) size → (Holds : ℕ → Type 0)
      → ((came : ℕ) → length front + came < size → Holds came)
      → ReadsIf left calls Holds (source_of old) (source_of new)
  reads_sized old new r size states Holds f =
      reads_if k (Wants limits front) left calls old new r Holds (λ wants.
      let all : front ++ r.bytes ≡ (front ++ r.before) ++ r.last
      = ap (λ (l : List ℕ). front ++ l) r.joined ∙ sym (append_assoc front r.before r.last) in
      let stated = subst (λ (l : List ℕ). StatesSize limits l size) all states in
      let less = wants_less limits (front ++ r.before) r.last size wants stated in
      f (length r.before) (omega (arith, less, length-append front r.before)))

-- to look ahead
module _ {R A : Type 0} (left : R → Option (List ℕ)) (calls : R → ℕ) (window : ℕ) where
  pub reads_looking : (old new : RawReader R A) (r : ReadsToGoOn true window left calls old new)
      (Holds : ℕ → Type 0)
      → ((came : ℕ) → length (raw.kept old) + came < 2 * ahead_of window → Holds came)
      → ReadsIf left calls Holds (raw.source_of old) (raw.source_of new)
  reads_looking old new r Holds f =
      let kept = raw.kept old in
      let Few : List ℕ → Type 0 = λ before.
      (length kept < ahead_of window) × (length (kept ++ before) < 2 * ahead_of window)
      × (IsMet true (raw.limits_of old) (take window (kept ++ before)) → ⊥) in
      reads_if gathering Few left calls old.reader new.reader r Holds (λ few.
      f (length r.before) (omega (arith, few.1, length-append kept r.before)))

-- ---- what is wanted of an input

module _ (limits : Limits) where
  -- more than fewer bytes than its parts have
  pub less_wanted : (offset : ℕ) (parts : List Part) (came : ℕ) → came < offset + sizes_of parts
      → WantMore limits offset parts came
  less_wanted offset [] came less = omega (arith, less)
  less_wanted offset (Whole item ∷ parts) came less =
      less_wanted (offset + item.size) parts came (omega (arith, less))
  less_wanted offset (PassedOver front fault by size ∷ parts) came less =
      inr (inr (less_wanted (offset + size) parts came (omega (arith, less))))

  -- so it is if more parts follow
  pub wanted_more : (offset : ℕ) (parts more : List Part) (came : ℕ)
      → WantMore limits offset parts came → WantMore limits offset (parts ++ more) came
  wanted_more offset [] more came w = less_wanted offset more came (omega (arith, w))
  wanted_more offset (Whole item ∷ parts) more came w =
      wanted_more (offset + item.size) parts more came w
  wanted_more offset (PassedOver front fault by size ∷ parts) more came w = elim w [
    | inl unshown ↦ inl unshown
    | inr on ↦ inr (elim on [
      | inl ahead ↦ inl ahead
      | inr past ↦ inr (wanted_more (offset + size) parts more came past)
    ])
  ]

  -- for the last one, which is refused
  pub wanted_past : (offset : ℕ) (parts : List Part) (front : List ℕ) (fault : Fault) (by : By)
      (size came at : ℕ) → at ≡ offset + sizes_of parts
      → IsUnshown limits at front came ⊎ (came < at + 2 * ahead_by by)
      → WantMore limits offset (parts ++ PassedOver front fault by size ∷ []) came
  wanted_past offset [] front fault by size came at is w =
      let there : at ≡ offset = omega (arith, is) in
      elim w [
        | inl unshown ↦ inl (subst (λ (n : ℕ). IsUnshown limits n front came) there unshown)
        | inr ahead ↦ inr (inl (omega (arith, ahead, there)))
      ]
  wanted_past offset (Whole item ∷ parts) front fault by size came at is w =
      wanted_past (offset + item.size) parts front fault by size came at (omega (arith, is)) w
  wanted_past offset (PassedOver first f b n ∷ parts) front fault by size came at is w =
      inr (inr (wanted_past (offset + n) parts front fault by size came at (omega (arith, is)) w))

  -- the messages have more than the first bytes that show no fault; or there are none
  pub unshown_on : (at : ℕ) (kept bytes : List ℕ) (items : List CutMessage) (rest : List ℕ)
      (came : ℕ) → BeginWith limits (kept ++ bytes) items rest → IsUnshown limits at kept came
      → (came < at + sizes items) ⊎ ((items ≡ []) × IsUnshown limits at rest came)
  unshown_on at kept bytes [] rest came b u =
      let size = ap length b in
      let fits : came - at ≤ length kept = omega (arith, u.0) in
      let same : take (came - at) kept ≡ take (came - at) rest =
      sym (take-append-le (came - at) kept bytes fits) ∙ ap (take (came - at)) b in
      inr (
        refl,
        (
          omega (arith, u.0, size, length-append kept bytes),
          subst (λ (l : List ℕ). IsPartial limits l) same u.1,
        ),
      )
  unshown_on at kept bytes (item ∷ items) rest came b u =
      let n = came - at in
      let fits : n ≤ length kept = omega (arith, u.0) in
      let all : kept ++ bytes ≡ take n kept ++ (drop n kept ++ bytes) =
      ap (λ (l : List ℕ). l ++ bytes) (sym (take-append-drop n kept))
      ∙ append_assoc (take n kept) (drop n kept) bytes in
      let whole : IsWhole limits (take n kept ++ (drop n kept ++ bytes)) item.order item.message item.size
      = subst (λ (l : List ℕ). IsWhole limits l item.order item.message item.size) all b.0 in
      let past = whole_past limits (take n kept) (drop n kept ++ bytes) _ _ item.size u.1 whole in
      inl (omega (arith, past, length-take-le n kept fits))
