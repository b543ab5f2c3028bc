-- An input has one list of parts, and one rest after them that ends a run.
use Rattle.std.proofs.Common.{◌≡◌, ◌⊎◌, ℕ, ◌+◌, ◌-◌, ◌<◌, ◌≤◌, Bool, true, false, List, [], ◌∷◌, ◌++◌, Option, None, Some, length, drop, take, refl, sym, ap, ◌∙◌, subst, arith, append-nil, inl, inr, length-append}
use Rattle.std.proofs.Math.Path.{transport}
use Rattle.std.proofs.lemmas.Bool.{cases_lt, false≢true}
use Rattle.dbus_device.specs.Packets.{Packets}
use Rattle.dbus_value_model.specs.ByteNumbers.{IsBytes}
use Rattle.dbus_value_model.specs.declared.fault.Fault.{Fault}
use Rattle.dbus_value_model.specs.declared.limits.Limits.{Limits}
use Rattle.dbus_header.specs.MessageOutcomes.{IsWhole, IsRefused, IsPartial}
use Rattle.dbus_header.proofs.OutcomeLaws.{not_both, nothing_partial, one_fault, one_outcome, one_whole, refused_for_good}
use Rattle.dbus_resync.specs.declared.found.Found.TheVariants.{At}
use Rattle.dbus_resync.specs.declared.found.Searched.{Searched}
use Rattle.dbus_stream.specs.GoingOn.{IsSettled}
use Rattle.dbus_stream.specs.Cut.{CutMessage, CutOutcome, Ended, Unfinished, Refused, IsOutcome}
use Rattle.dbus_stream.specs.CutEnds.{fault_at_end, truncated}
use Rattle.dbus_stream.specs.Lasting.{is_truncated}
use Rattle.dbus_stream.specs.Next.{IsCutShort}
use Rattle.dbus_stream.proofs.AheadSteps.{one_resumed}
use Rattle.dbus_stream.proofs.FaultPackets.{refused_later}
use Rattle.dbus_stream.proofs.MessageEnds.{refused_reason}
use Rattle.dbus_stream.proofs.SizeSteps.{none_more, size_once, sizes_tell}
use Rattle.cli_options.specs.declared.settings.Settings.{Settings}
use Rattle.cli_report.specs.FaultFronts.{IsFaultFront}
use Rattle.cli_report.proofs.FaultFronts.{IsShut, one_front, own_front, some_front}
use Rattle.cli_run.specs.Going.{passed_count}
use Rattle.cli_run.specs.Inputs.{BeginNowhere, BeginWithParts, By, InPacket, IsCutOff, IsCutUnpassed, IsFaultOf, IsLast, IsPart, IsPassedBy, IsUnpassed, Part, PassedOver, PastWindow, ResumeIn, Resumed, Seek, SoughtIn, Stated, Unsought, WantsMoreBy, Whole, is_there, looked_after, looked_behind, seek_of, size_of, sizes_of}
use Rattle.cli_run.specs.Refusals.{IsRefusedIn}
use Rattle.cli_run.proofs.FrontSteps.{HaveSameFronts, fronts_more, refused_as}
use Rattle.cli_run.proofs.PartLaws.{either_fault, none_begins, not_larger, nowhere_more, passed-both}

-- if any is passed over, the run goes on, and so many bytes are passed over as are due
abbrev pub ArePassed : Option Packets → Limits → Settings → (offset looked : ℕ) → List Part → Type 0
ArePassed packets limits how offset looked [] = Unit {0}
ArePassed packets limits how offset looked (Whole item ∷ parts) = ArePassed packets limits how (offset + item.size) looked parts
ArePassed packets limits how offset looked (PassedOver front fault by n ∷ parts) =
    (how.keeps_going ≡ true) × IsPassedBy packets (seek_of how.resync offset (looked + fault.at)) limits offset front by n × ArePassed packets limits how (offset + n) (looked_after (PassedOver front fault by n) offset looked) parts

pub passed_rest : (packets : Option Packets) (limits : Limits) (how : Settings) (offset looked : ℕ) (part : Part) (parts : List Part) → ArePassed packets limits how offset looked (part ∷ parts) → ArePassed packets limits how (offset + size_of part) (looked_after part offset looked) parts
passed_rest packets limits how offset looked (Whole item) parts p = p
passed_rest packets limits how offset looked (PassedOver front fault by n) parts p = p.2

-- both inputs are of the same packets
abbrev pub AreSamePackets : Option Packets → Option Packets → Type 0
AreSamePackets packets others = (all : Packets) × (packets ≡ Some all) × (others ≡ Some all)

module _ (limits : Limits) where
  -- ---- one fault

  -- what is refused is not what the input ends within
  not_cut : (w : List ℕ) (fault other : Fault) → IsRefused limits w fault → IsCutShort limits w other → ⊥
  not_cut w fault other refused cut = (one_outcome limits w).2 fault refused cut.1

  part_fault : (w : List ℕ) (fault other : Fault) (by from : By) → IsFaultOf limits w fault by → IsFaultOf limits w other from → fault ≡ other
  part_fault w fault other by from x y = elim (either_fault limits w fault by x) [
    | inl refused ↦ elim (either_fault limits w other from y) [
      | inl too ↦ one_fault limits w fault other refused too
      | inr cut ↦ absurd (not_cut w fault other refused cut)
    ]
    | inr cut ↦ elim (either_fault limits w other from y) [
      | inl too ↦ absurd (not_cut w other fault too cut)
      | inr cut_too ↦ cut.2 ∙ sym cut_too.2
    ]
  ]

  pub no_whole_part : (w front : List ℕ) (fault : Fault) (by : By) (n : ℕ) (item : CutMessage) → IsPart limits w (PassedOver front fault by n) → IsWhole limits w item.order item.message item.size → ⊥
  no_whole_part w front fault by n item p whole = none_begins limits w fault by p.1 item.order item.message item.size whole

  -- of one packet, by the same bytes or by those of them that show the fault
  pub one_packet : (all : Packets) (offset : ℕ) (w front : List ℕ) (p q : Option ℕ) → IsFaultFront limits w front → IsRefusedIn (Some all) limits offset w p → IsRefusedIn (Some all) limits offset w q → p ≡ q
  one_packet all offset w front p q is x y = x front is ∙ sym (y front is)

  packet_of : (all : Packets) (offset : ℕ) (w front : List ℕ) (p q : Option ℕ) → IsFaultFront limits w front → IsRefusedIn (Some all) limits offset w p → IsRefusedIn (Some all) limits offset front q → p ≡ q
  packet_of all offset w front p q is x y = x front is ∙ sym (y front (own_front limits w front is))

  -- ---- one part

  -- messages begin again in one place, and as much is looked at
  one_resume : (window effort : ℕ) (w : List ℕ) (s t : Searched) → ResumeIn limits window effort w s → ResumeIn limits window effort w t → s ≡ t
  one_resume window effort w s t a b = one_resumed limits window effort (take window w) s t a b

  abbrev there : (n looked : ℕ) → Searched
  there n looked = record { found = At n; looked = looked }

  -- one window, and one effort
  same_seek : (seek : Seek) (window effort wide more : ℕ) → seek ≡ SoughtIn window effort → seek ≡ SoughtIn wide more → (wide ≡ window) × (more ≡ effort)
  same_seek seek window effort wide more p q =
      let both : SoughtIn window effort ≡ SoughtIn wide more = sym p ∙ q in
      let one : wide ≡ window = cc in
      let two : more ≡ effort = cc in
      (one, two)

  -- where they begin again nowhere, they do not begin again
  not_nowhere : (seek : Seek) (window effort looked wide more n : ℕ) (w : List ℕ) → seek ≡ SoughtIn window effort → seek ≡ SoughtIn wide more → ResumeIn limits window effort w (there n looked) → BeginNowhere limits wide more w (Unit {0}) → ⊥
  not_nowhere seek window effort looked wide more n w p q r none =
      let same = same_seek seek window effort wide more p q in
      let here = transport (λ i. BeginNowhere limits (same.0 i) (same.1 i) w (Unit {0})) none in
      let found : here.searched ≡ there n looked = one_resume window effort w here.searched (there n looked) here.resumes r in
      false≢true (sym here.nowhere ∙ ap (λ (s : Searched). is_there s.found) found)

  -- the input ends in the window, or does not
  same_end : (w : List ℕ) (fault : Fault) (window effort looked : ℕ) (a b : Bool) → IsFaultOf limits w fault (Resumed window effort looked a) → IsFaultOf limits w fault (Resumed window effort looked b)
      → (a ≡ false → IsSettled true limits window w) → (b ≡ false → IsSettled true limits window w) → a ≡ b
  same_end w fault window effort looked true true f g wide also = refl
  same_end w fault window effort looked false false f g wide also = refl
  same_end w fault window effort looked true false f g wide also = absurd (elim f [ inl open_ ↦ open_.1 (also refl) | inr cut ↦ not_cut w fault fault g cut ])
  same_end w fault window effort looked false true f g wide also = absurd (elim g [ inl open_ ↦ open_.1 (wide refl) | inr cut ↦ not_cut w fault fault f cut ])

  module _ (all : Packets) (seek : Seek) (offset : ℕ) (w front : List ℕ) (fault : Fault) where
    abbrev IsOver : By → ℕ → Type 0
    IsOver by n = IsPart limits w (PassedOver front fault by n) × IsPassedBy (Some all) seek limits offset front by n

    abbrev AreOne : (by from : By) (n m : ℕ) → Type 0
    AreOne by from n m = PassedOver front fault by n ≡ PassedOver front fault from m

    of_both : (p q : Option ℕ) → IsFaultFront limits w front → IsRefusedIn (Some all) limits offset front p → IsRefusedIn (Some all) limits offset front q → p ≡ q
    of_both p q is x y = one_packet all offset front front p q (own_front limits w front is) x y

    -- no two sizes in a packet
    size_below : (number n m : ℕ) → IsOver (InPacket number) n → IsOver (InPacket number) m → n < m → ⊥
    size_below number n m x y less = x.1.2 (y.1.1 (offset + n) (omega (arith, x.0.2.0)) (omega (arith, less)))

    one_size_in : (number n m : ℕ) → IsOver (InPacket number) n → IsOver (InPacket number) m → n ≡ m
    one_size_in number n m x y = elim (cases_lt n m) [
      | inl less ↦ absurd (size_below number n m x y less)
      | inr more ↦ elim (cases_lt m n) [ inl less ↦ absurd (size_below number m n y x less) | inr same ↦ omega (arith, more, same) ]
    ]

    not_in : (number : ℕ) (by : By) (n : ℕ) → IsFaultFront limits w front → IsRefusedIn (Some all) limits offset front (Some number) → IsRefusedIn (Some all) limits offset front None → ⊥
    not_in number by n is x y = let same : Some number ≡ None = of_both (Some number) None is x y in cc

    one_over : (by from : By) (n m : ℕ) → IsOver by n → IsOver from m → AreOne by from n m
    one_over Stated Stated n m x y = ap (PassedOver front fault Stated) (size_once limits w m n y.0.2.0 x.0.2.0)
    one_over Stated (InPacket number) n m x y = absurd (not_in number Stated n x.0.0 y.1.0 x.1.1)
    one_over Stated (Resumed window effort looked to_end) n m x y = absurd (let both = sym x.1.0 ∙ y.1.0 in cc)
    one_over Stated (PastWindow window effort looked) n m x y = absurd (let both = sym x.1.0 ∙ y.1.0 in cc)
    one_over (InPacket number) Stated n m x y = absurd (not_in number Stated n x.0.0 x.1.0 y.1.1)
    one_over (InPacket number) (InPacket second) n m x y =
        let both : Some number ≡ Some second = of_both (Some number) (Some second) x.0.0 x.1.0 y.1.0 in
        let same : second ≡ number = cc in
        let size = one_size_in number n m x (subst (λ (k : ℕ). IsOver (InPacket k) m) same y) in
        λ i. PassedOver front fault (InPacket (sym same i)) (size i)
    one_over (InPacket number) (Resumed window effort looked to_end) n m x y = absurd (not_in number Stated n x.0.0 x.1.0 y.1.1)
    one_over (InPacket number) (PastWindow window effort looked) n m x y = absurd (not_in number Stated n x.0.0 x.1.0 y.1.1)
    one_over (Resumed window effort looked to_end) Stated n m x y = absurd (let both = sym x.1.0 ∙ y.1.0 in cc)
    one_over (Resumed window effort looked to_end) (InPacket number) n m x y = absurd (not_in number Stated n x.0.0 y.1.0 x.1.1)
    one_over (Resumed window effort looked to_end) (Resumed wide more seen end) n m x y =
        let same = same_seek seek window effort wide more x.1.0 y.1.0 in
        let one : there n looked ≡ there m seen = one_resume window effort w (there n looked) (there m seen) x.0.2.0 (transport (λ i. ResumeIn limits (same.0 i) (same.1 i) w (there m seen)) y.0.2.0) in
        let place : At n ≡ At m = ap (λ (s : Searched). s.found) one in
        let count : looked ≡ seen = ap (λ (s : Searched). s.looked) one in
        let size : n ≡ m = cc in
        let ends : to_end ≡ end = same_end w fault window effort looked to_end end x.0.1 (transport (λ i. IsFaultOf limits w fault (Resumed (same.0 i) (same.1 i) (sym count i) end)) y.0.1) x.0.2.1 (λ e. subst (λ (k : ℕ). IsSettled true limits k w) same.0 (y.0.2.1 e)) in
        λ i. PassedOver front fault (Resumed (sym same.0 i) (sym same.1 i) (count i) (ends i)) (size i)
    one_over (Resumed window effort looked to_end) (PastWindow wide more seen) n m x y = absurd (not_nowhere seek window effort looked wide more n w x.1.0 y.1.0 x.0.2.0 y.0.2.0)
    one_over (PastWindow window effort looked) Stated n m x y = absurd (let both = sym x.1.0 ∙ y.1.0 in cc)
    one_over (PastWindow window effort looked) (InPacket number) n m x y = absurd (not_in number Stated n x.0.0 y.1.0 x.1.1)
    one_over (PastWindow window effort looked) (Resumed wide more seen to_end) n m x y = absurd (not_nowhere seek wide more seen window effort m w y.1.0 x.1.0 y.0.2.0 x.0.2.0)
    one_over (PastWindow window effort looked) (PastWindow wide more seen) n m x y =
        let same = same_seek seek window effort wide more x.1.0 y.1.0 in
        let one : x.0.2.0.searched ≡ y.0.2.0.searched = one_resume window effort w x.0.2.0.searched y.0.2.0.searched x.0.2.0.resumes (transport (λ i. ResumeIn limits (same.0 i) (same.1 i) w y.0.2.0.searched) y.0.2.0.resumes) in
        let count : looked ≡ seen = sym x.0.2.1 ∙ (ap (λ (s : Searched). s.looked) one ∙ y.0.2.1) in
        let size = size_once limits w m n y.0.2.2 x.0.2.2 in
        λ i. PassedOver front fault (PastWindow (sym same.0 i) (sym same.1 i) (count i)) (size i)

    -- ---- what is passed over ends no run

    -- a message that is not passed over is none that is
    not_unpassed : (sought : Seek) → seek ≡ sought → IsUnpassed (Some all) sought limits offset w (Unit {0}) → (by : By) (n : ℕ) → IsOver by n → ⊥
    not_unpassed Unsought is u Stated n x = ((sizes_tell limits w).1 n x.0.2.0).0 u.1
    not_unpassed Unsought is u (InPacket number) n x = let same : None ≡ Some number = packet_of all offset w front None (Some number) x.0.0 u.0 x.1.0 in cc
    not_unpassed Unsought is u (Resumed window effort looked to_end) n x = let both = sym is ∙ x.1.0 in cc
    not_unpassed Unsought is u (PastWindow window effort looked) n x = let both = sym is ∙ x.1.0 in cc
    not_unpassed (SoughtIn wide more) is u Stated n x = let both = sym is ∙ x.1.0 in cc
    not_unpassed (SoughtIn wide more) is u (InPacket number) n x = let same : None ≡ Some number = packet_of all offset w front None (Some number) x.0.0 u.0 x.1.0 in cc
    not_unpassed (SoughtIn wide more) is u (Resumed window effort looked to_end) n x = not_nowhere seek window effort looked wide more n w x.1.0 is x.0.2.0 u.1
    not_unpassed (SoughtIn wide more) is u (PastWindow window effort looked) n x = u.2 (n, x.0.2.2, subst (λ (k : ℕ). k < n) (sym (same_seek seek window effort wide more x.1.0 is).0) x.0.2.3)

    -- nor is one that goes on to the end of the input
    not_cut_off : (cut : Option ℕ) → IsCutOff (Some all) seek limits offset w cut → (by : By) (n : ℕ) → IsOver by n → ⊥
    not_cut_off None u Stated n x = ((sizes_tell limits w).1 n x.0.2.0).1 x.0.2.1 (subst (λ (r : Seek). WantsMoreBy r limits w) x.1.0 u.1)
    not_cut_off None u (InPacket number) n x = let same : None ≡ Some number = packet_of all offset w front None (Some number) x.0.0 u.0 x.1.0 in cc
    not_cut_off None u (Resumed window effort looked to_end) n x = not_nowhere seek window effort looked window effort n w x.1.0 x.1.0 x.0.2.0 (subst (λ (r : Seek). WantsMoreBy r limits w) x.1.0 u.1).0
    not_cut_off None u (PastWindow window effort looked) n x = ((sizes_tell limits w).1 n x.0.2.2).1 x.0.2.4 (subst (λ (r : Seek). WantsMoreBy r limits w) x.1.0 u.1).2
    not_cut_off (Some second) u Stated n x = let same : Some second ≡ None = packet_of all offset w front (Some second) None x.0.0 u.0 x.1.1 in cc
    not_cut_off (Some second) u (Resumed window effort looked to_end) n x = let same : Some second ≡ None = packet_of all offset w front (Some second) None x.0.0 u.0 x.1.1 in cc
    not_cut_off (Some second) u (PastWindow window effort looked) n x = let same : Some second ≡ None = packet_of all offset w front (Some second) None x.0.0 u.0 x.1.1 in cc
    not_cut_off (Some second) u (InPacket number) n x =
        let same : Some second ≡ Some number = packet_of all offset w front (Some second) (Some number) x.0.0 u.0 x.1.0 in
        let one : number ≡ second = cc in
        let y = subst (λ (k : ℕ). IsOver (InPacket k) n) one x in
        y.1.2 (u.1 front y.0.0 (offset + n) (omega (arith, y.0.2.0)) (omega (arith, y.0.2.1)))

    -- nor is one that the input ends within
    not_cut_short : IsCutUnpassed (Some all) seek limits offset w (Unit {0}) → IsCutShort limits w fault → (by : By) (n : ℕ) → IsOver by n → ⊥
    not_cut_short u cut Stated n x = not_cut w fault fault x.0.1 cut
    not_cut_short u cut (InPacket number) n x = not_cut w fault fault x.0.1 cut
    not_cut_short u cut (PastWindow window effort looked) n x = not_cut w fault fault x.0.1 cut
    not_cut_short u cut (Resumed window effort looked to_end) n x =
        let t = subst (λ (r : Seek). IsCutUnpassed (Some all) r limits offset w (Unit {0})) x.1.0 u in
        not_nowhere seek window effort looked window effort n w x.1.0 x.1.0 x.0.2.0 (t.2 (packet_of all offset w front t.0 None x.0.0 t.1 x.1.1))

  pub one_part : (packets others : Option Packets) → AreSamePackets packets others → (how : Settings) (offset looked : ℕ) (w front also : List ℕ) (fault other : Fault) (by from : By) (n m : ℕ)
      → IsPart limits w (PassedOver front fault by n) → IsPart limits w (PassedOver also other from m) → IsPassedBy packets (seek_of how.resync offset (looked + fault.at)) limits offset front by n
      → IsPassedBy others (seek_of how.resync offset (looked + other.at)) limits offset also from m → PassedOver front fault by n ≡ PassedOver also other from m
  one_part packets others same how offset looked w front also fault other by from n m x y p q =
      let f : also ≡ front = one_front limits w also front y.0 x.0 in
      let g : other ≡ fault = part_fault w other fault from by y.1 x.1 in
      let seek = seek_of how.resync offset (looked + fault.at) in
      let one = subst (λ (o : Option Packets). IsPassedBy o seek limits offset front by n) same.1 p in
      let too = transport (λ i. IsPart limits w (PassedOver (f i) (g i) from m) × IsPassedBy (same.2 i) (seek_of how.resync offset (looked + (g i).at)) limits offset (f i) from m) (y, q) in
      one_over same.0 seek offset w front fault by from n m (x, one) too ∙ (λ i. PassedOver (sym f i) (sym g i) from m)

  -- these bytes, which are all that is left of the input, end a run
  pub record EndsHere (packets : Option Packets) (cut : Option (Option ℕ)) (how : Settings) (offset looked : ℕ) (w : List ℕ) (outcome : CutOutcome) : Type 0 where
    pub outcome_is : IsOutcome limits w outcome
    pub last : IsLast packets cut how limits offset looked w outcome (Unit {0})
    pub whole : (fault : Fault) → outcome ≡ Refused fault → is_truncated fault.reason ≡ false
    pub front : List ℕ
    pub is_front : IsFaultFront limits w front

  -- ---- one list of parts

  no_whole : (w : List ℕ) (outcome : CutOutcome) (item : CutMessage) → IsOutcome limits w outcome → IsWhole limits w item.order item.message item.size → ⊥
  no_whole w Ended item o h = (one_outcome limits w).1 item.order item.message item.size h (subst (λ l. IsPartial limits l) (sym o) (nothing_partial limits))
  no_whole w Unfinished item o h = (one_outcome limits w).1 item.order item.message item.size h o.1
  no_whole w (Refused fault) item o h = not_both limits w item.order item.message item.size fault h o

  -- nothing is refused, or both are of the same packets
  abbrev pub AreKnown : (packets others : Option Packets) → CutOutcome → List Part → Type 0
  AreKnown packets others outcome parts = AreSamePackets packets others ⊎ ((passed_count parts ≡ 0) × (outcome ≡ Ended))

  -- what ends a run is not passed over
  not_over : (all : Packets) (cut : Option (Option ℕ)) (how : Settings) (offset looked : ℕ) (w front : List ℕ) (outcome : CutOutcome) (fault : Fault) (by : By) (n : ℕ) → how.keeps_going ≡ true → EndsHere (Some all) cut how offset looked w outcome
      → IsPart limits w (PassedOver front fault by n) → IsPassedBy (Some all) (seek_of how.resync offset (looked + fault.at)) limits offset front by n → ⊥
  not_over all cut how offset looked w front Ended fault by n goes e p h = elim (either_fault limits w fault by p.1) [
    | inl refused ↦ (one_outcome limits w).2 fault refused (subst (λ l. IsPartial limits l) (sym e.outcome_is) (nothing_partial limits))
    | inr short ↦ short.0 e.outcome_is
  ]
  not_over all None how offset looked w front Unfinished fault by n goes e p h = elim (either_fault limits w fault by p.1) [
    | inl refused ↦ (one_outcome limits w).2 fault refused e.outcome_is.1
    | inr short ↦ (
        let at : length w ≡ fault.at = sym (ap (λ (f : Fault). f.at) short.2) in
        let unpassed = subst (λ (k : ℕ). IsCutUnpassed (Some all) (seek_of how.resync offset (looked + k)) limits offset w (Unit {0})) at (e.last.1 goes) in
        not_cut_short all (seek_of how.resync offset (looked + fault.at)) offset w front fault unpassed short by n (p, h)
        )
  ]
  not_over all (Some by) how offset looked w front Unfinished fault from n goes e p h = e.last
  not_over all cut how offset looked w front (Refused other) fault by n goes e p h =
      let same : other ≡ fault = elim (either_fault limits w fault by p.1) [
        | inl refused ↦ one_fault limits w other fault e.outcome_is refused
        | inr short ↦ absurd (not_cut w other fault e.outcome_is short)
      ] in
      by_cut cut fault (subst (λ (f : Fault). IsLast (Some all) cut how limits offset looked w (Refused f) (Unit {0})) same e.last) (subst (λ (f : Fault). is_truncated f.reason ≡ false) same (e.whole other refl)) p h
    where
      by_cut : (c : Option (Option ℕ)) (f : Fault) → IsLast (Some all) c how limits offset looked w (Refused f) (Unit {0}) → is_truncated f.reason ≡ false → IsPart limits w (PassedOver front f by n)
          → IsPassedBy (Some all) (seek_of how.resync offset (looked + f.at)) limits offset front by n → ⊥
      by_cut None f last whole p h = not_unpassed all (seek_of how.resync offset (looked + f.at)) offset w front f _ refl (last goes whole) by n (p, h)
      by_cut (Some from) f last whole p h = not_cut_off all (seek_of how.resync offset (looked + f.at)) offset w front f from last.0 by n (p, h)

  -- if these bytes end a run, they do not begin with a part
  pub no_part : (packets others : Option Packets) (cut : Option (Option ℕ)) (how : Settings) (offset looked : ℕ) (w : List ℕ) (outcome : CutOutcome) (part : Part) (more : List Part)
      → AreSamePackets packets others ⊎ ((outcome ≡ Ended) ⊎ (passed_count (part ∷ more) ≡ 0))
      → EndsHere packets cut how offset looked w outcome → IsPart limits w part → ArePassed others limits how offset looked (part ∷ more) → ⊥
  no_part packets others cut how offset looked w outcome (Whole item) more known e p h = no_whole w outcome item e.outcome_is p
  no_part packets others cut how offset looked w outcome (PassedOver front fault by n) more known e p h = elim known [
    | inl same ↦ not_over same.0 cut how offset looked w front outcome fault by n h.0 (subst (λ (o : Option Packets). EndsHere o cut how offset looked w outcome) same.1 e) p
        (subst (λ (o : Option Packets). IsPassedBy o (seek_of how.resync offset (looked + fault.at)) limits offset front by n) same.2 h.1)
    | inr none ↦ elim none [
      | inl ended ↦ (
          let empty : w ≡ [] = subst (λ (o : CutOutcome). IsOutcome limits w o) ended e.outcome_is in
          elim (either_fault limits w fault by p.1) [
            | inl refused ↦ (one_outcome limits w).2 fault refused (subst (λ l. IsPartial limits l) (sym empty) (nothing_partial limits))
            | inr short ↦ short.0 empty
          ]
          )
      | inr zero ↦ omega (arith, zero)
    ]
  ]

  -- two parts of the same bytes are one
  same_part : (packets others : Option Packets) (how : Settings) (offset looked : ℕ) (bytes : List ℕ) (part other : Part) (parts more : List Part) → AreSamePackets packets others ⊎ ((passed_count (part ∷ parts) ≡ 0) ⊎ (passed_count (other ∷ more) ≡ 0)) → IsPart limits bytes part → IsPart limits bytes other
      → ArePassed packets limits how offset looked (part ∷ parts) → ArePassed others limits how offset looked (other ∷ more) → part ≡ other
  same_part packets others how offset looked bytes (Whole x) (Whole y) parts more known p q g h =
      let one = one_whole limits bytes x.order y.order x.message y.message x.size y.size p q in
      λ i. Whole (record { order = one.0 i; message = one.1 i; size = one.2 i })
  same_part packets others how offset looked bytes (Whole x) (PassedOver f y d m) parts more known p q g h = absurd (no_whole_part bytes f y d m x q p)
  same_part packets others how offset looked bytes (PassedOver f x c n) (Whole y) parts more known p q g h = absurd (no_whole_part bytes f x c n y p q)
  same_part packets others how offset looked bytes (PassedOver f x c n) (PassedOver l y d m) parts more known p q g h = elim known [
    | inl same ↦ one_part packets others same how offset looked bytes f l x y c d n m p q g.1 h.1
    | inr none ↦ absurd (elim none [ inl zero ↦ omega (arith, zero) | inr zero ↦ omega (arith, zero) ])
  ]

  none_rest : (part : Part) (parts : List Part) → passed_count (part ∷ parts) ≡ 0 → passed_count parts ≡ 0
  none_rest (Whole x) parts none = none
  none_rest (PassedOver f x c n) parts none = omega (arith, none)

  -- the one list goes on where the other ends
  abbrev pub AreAlong : (P Q : List Part) → Type 0
  AreAlong P Q = ((more : List Part) × (Q ≡ P ++ more)) ⊎ ((more : List Part) × (P ≡ Q ++ more))

  pub along : (packets others : Option Packets) (how : Settings) (offset looked : ℕ) (bytes : List ℕ) (P Q : List Part) (rest last : List ℕ) → AreSamePackets packets others ⊎ ((passed_count P ≡ 0) ⊎ (passed_count Q ≡ 0))
      → BeginWithParts limits bytes P rest → BeginWithParts limits bytes Q last → ArePassed packets limits how offset looked P → ArePassed others limits how offset looked Q → AreAlong P Q
  along packets others how offset looked bytes [] Q rest last known x y g h = inl (Q, refl)
  along packets others how offset looked bytes (p ∷ P) [] rest last known x y g h = inr (p ∷ P, refl)
  along packets others how offset looked bytes (p ∷ P) (q ∷ Q) rest last known x y g h =
      let one = same_part packets others how offset looked bytes p q P Q known x.0 y.0 g h in
      let on = subst (λ (o : Part). BeginWithParts limits (drop (size_of o) bytes) Q last × ArePassed others limits how (offset + size_of o) (looked_after o offset looked) Q) (sym one) (y.1, passed_rest others limits how offset looked q Q h) in
      let known_on : AreSamePackets packets others ⊎ ((passed_count P ≡ 0) ⊎ (passed_count Q ≡ 0)) = elim known [ inl same ↦ inl same | inr none ↦ inr (elim none [ inl first ↦ inl (none_rest p P first) | inr second ↦ inr (none_rest q Q second) ]) ] in
      elim (along packets others how (offset + size_of p) (looked_after p offset looked) (drop (size_of p) bytes) P Q rest last known_on x.1 on.0 (passed_rest packets limits how offset looked p P g) on.1) [
        | inl more ↦ inl (more.0, λ i. sym one i ∷ more.1 i)
        | inr more ↦ inr (more.0, λ i. one i ∷ more.1 i)
      ]

  -- what follows the first parts
  parts_after : (bytes : List ℕ) (P more : List Part) (rest last : List ℕ) → BeginWithParts limits bytes P rest → BeginWithParts limits bytes (P ++ more) last → BeginWithParts limits rest more last
  parts_after bytes [] more rest last x y = subst (λ l. BeginWithParts limits l more last) x y
  parts_after bytes (part ∷ P) more rest last x y = parts_after (drop (size_of part) bytes) P more rest last x.1 y.1

  passed_after : (packets : Option Packets) (how : Settings) (offset looked : ℕ) (P more : List Part) → ArePassed packets limits how offset looked (P ++ more) → ArePassed packets limits how (offset + sizes_of P) (looked_behind P offset looked) more
  passed_after packets how offset looked [] more h = (let here : offset ≡ offset + 0 = omega arith in subst (λ n. ArePassed packets limits how n looked more) here h)
  passed_after packets how offset looked (part ∷ P) more h =
      let all : offset + size_of part + sizes_of P ≡ offset + (size_of part + sizes_of P) = omega arith in
      subst (λ n. ArePassed packets limits how n (looked_behind (part ∷ P) offset looked) more) all (passed_after packets how (offset + size_of part) (looked_after part offset looked) P more (passed_rest packets limits how offset looked part (P ++ more) h))

  -- nothing follows those that end a run
  pub none_after : (packets others : Option Packets) (cut : Option (Option ℕ)) (how : Settings) (offset looked : ℕ) (bytes : List ℕ) (P more : List Part) (rest last : List ℕ) (outcome : CutOutcome) → AreSamePackets packets others ⊎ ((outcome ≡ Ended) ⊎ (passed_count (P ++ more) ≡ 0))
      → EndsHere packets cut how (offset + sizes_of P) (looked_behind P offset looked) rest outcome → BeginWithParts limits bytes P rest → BeginWithParts limits bytes (P ++ more) last → ArePassed others limits how offset looked (P ++ more) → more ≡ []
  none_after packets others cut how offset looked bytes P [] rest last outcome known e x y h = refl
  none_after packets others cut how offset looked bytes P (part ∷ more) rest last outcome known e x y h =
      let both = passed-both P (part ∷ more) in
      let known_there : AreSamePackets packets others ⊎ ((outcome ≡ Ended) ⊎ (passed_count (part ∷ more) ≡ 0)) = elim known [ inl same ↦ inl same | inr none ↦ inr (elim none [ inl ended ↦ inl ended | inr zero ↦ inr (omega (arith, zero, both)) ]) ] in
      absurd (no_part packets others cut how (offset + sizes_of P) (looked_behind P offset looked) rest outcome part more known_there e (parts_after bytes P (part ∷ more) rest last x y).0 (passed_after others how offset looked P (part ∷ more) h))

  pub same_parts : (packets others : Option Packets) (cut snip : Option (Option ℕ)) (how : Settings) (offset looked : ℕ) (bytes : List ℕ) (P Q : List Part) (rest last : List ℕ) (a b : CutOutcome) → AreKnown packets others a P
      → BeginWithParts limits bytes P rest → BeginWithParts limits bytes Q last → ArePassed packets limits how offset looked P → ArePassed others limits how offset looked Q
      → EndsHere packets cut how (offset + sizes_of P) (looked_behind P offset looked) rest a → EndsHere others snip how (offset + sizes_of Q) (looked_behind Q offset looked) last b
      → (P ≡ Q) × (rest ≡ last)
  same_parts packets others cut snip how offset looked bytes P Q rest last a b known x y g h e f = elim (along packets others how offset looked bytes P Q rest last (elim known [ inl same ↦ inl same | inr none ↦ inr (inl none.0) ]) x y g h) [
    | inl (more, is) ↦ (
        let begin = subst (λ l. BeginWithParts limits bytes l last) is y in
        let none = none_after packets others cut how offset looked bytes P more rest last a (elim known [ inl same ↦ inl same | inr none ↦ inr (inl none.1) ]) e x begin (subst (λ l. ArePassed others limits how offset looked l) is h) in
        (sym (append-nil P) ∙ (ap (λ l. P ++ l) (sym none) ∙ sym is), subst (λ l. BeginWithParts limits rest l last) none (parts_after bytes P more rest last x begin))
        )
    | inr (more, is) ↦ (
        let begin = subst (λ l. BeginWithParts limits bytes l rest) is x in
        let none = none_after others packets snip how offset looked bytes Q more last rest b (elim known [ inl same ↦ inl (same.0, same.2, same.1) | inr none ↦ inr (inr (ap passed_count (sym is) ∙ none.0)) ]) f y begin (subst (λ l. ArePassed packets limits how offset looked l) is g) in
        (is ∙ (ap (λ l. Q ++ l) none ∙ append-nil Q), sym (subst (λ l. BeginWithParts limits last l rest) none (parts_after bytes Q more last rest y begin)))
        )
  ]

  -- ---- where a run ends

  -- one that goes on to the end of the input is passed over
  not_both_last : (all : Packets) (how : Settings) (offset looked : ℕ) (w front : List ℕ) (fault : Fault) (by : Option ℕ) → IsFaultFront limits w front → is_truncated fault.reason ≡ false
      → IsLast (Some all) (Some by) how limits offset looked w (Refused fault) (Unit {0}) → IsLast (Some all) None how limits offset looked w (Refused fault) (Unit {0}) → ⊥
  not_both_last all how offset looked w front fault by is whole x y = by_seek (seek_of how.resync offset (looked + fault.at)) x.0 (y x.2 whole)
    where
      by_none : (seek : Seek) → IsCutOff (Some all) seek limits offset w by → IsRefusedIn (Some all) limits offset w None → WantsMoreBy seek limits w
      by_none seek u none = let same : by ≡ None = one_packet all offset w front by None is u.0 none in (subst (λ (b : Option ℕ). IsCutOff (Some all) seek limits offset w b) same u).1

      by_seek : (seek : Seek) → IsCutOff (Some all) seek limits offset w by → IsUnpassed (Some all) seek limits offset w (Unit {0}) → ⊥
      by_seek Unsought u v = (sizes_tell limits w).0 v.1 (by_none Unsought u v.0)
      by_seek (SoughtIn window effort) u v = v.2 (by_none (SoughtIn window effort) u v.0).1

  -- an input ends within a message that is passed over, or not
  pub same_cut : (packets others : Option Packets) (cut snip : Option (Option ℕ)) (how : Settings) (offset looked : ℕ) (w : List ℕ) (outcome : CutOutcome) → AreSamePackets packets others ⊎ (outcome ≡ Ended)
      → EndsHere packets cut how offset looked w outcome → EndsHere others snip how offset looked w outcome → cut ≡ snip
  same_cut packets others None None how offset looked w outcome known e f = refl
  same_cut packets others (Some by) snip how offset looked w Ended known e f = absurd e.last
  same_cut packets others (Some by) snip how offset looked w Unfinished known e f = absurd e.last
  same_cut packets others None (Some from) how offset looked w Ended known e f = absurd f.last
  same_cut packets others None (Some from) how offset looked w Unfinished known e f = absurd f.last
  same_cut packets others cut snip how offset looked w (Refused fault) (inr ended) e f = absurd cc
  same_cut packets others (Some by) (Some from) how offset looked w (Refused fault) (inl same) e f =
      let one = subst (λ (o : Option Packets). IsRefusedIn o limits offset w by) same.1 e.last.0.0 in
      let too = subst (λ (o : Option Packets). IsRefusedIn o limits offset w from) same.2 f.last.0.0 in
      ap Some (one_packet same.0 offset w e.front by from e.is_front one too)
  same_cut packets others (Some by) None how offset looked w (Refused fault) (inl same) e f =
      absurd (not_both_last same.0 how offset looked w e.front fault by e.is_front (e.whole fault refl) (subst (λ (o : Option Packets). IsLast o (Some by) how limits offset looked w (Refused fault) (Unit {0})) same.1 e.last)
      (subst (λ (o : Option Packets). IsLast o None how limits offset looked w (Refused fault) (Unit {0})) same.2 f.last))
  same_cut packets others None (Some from) how offset looked w (Refused fault) (inl same) e f =
      absurd (not_both_last same.0 how offset looked w e.front fault from e.is_front (e.whole fault refl) (subst (λ (o : Option Packets). IsLast o (Some from) how limits offset looked w (Refused fault) (Unit {0})) same.2 f.last)
      (subst (λ (o : Option Packets). IsLast o None how limits offset looked w (Refused fault) (Unit {0})) same.1 e.last))

  -- it is so of all of the input
  module _ (packets : Option Packets) (offset : ℕ) (rest more : List ℕ) (at_end : Type 0) (none : at_end → more ≡ []) (fronts : HaveSameFronts limits rest (rest ++ more)) where
    refused_more : (number : Option ℕ) → IsRefusedIn packets limits offset rest number → IsRefusedIn packets limits offset (rest ++ more) number
    refused_more number r = refused_as limits rest (rest ++ more) fronts packets offset number r

    unpassed_more : (seek : Seek) → 1 ≤ length rest → IsUnpassed packets seek limits offset rest at_end → IsUnpassed packets seek limits offset (rest ++ more) (Unit {0})
    unpassed_more Unsought some u = (refused_more None u.0, none_more limits rest more some u.1)
    unpassed_more (SoughtIn window effort) some u = (refused_more None u.0, (nowhere_more limits window effort rest more at_end none u.1).0, not_larger limits window effort rest more at_end none u.1 u.2)

    cut_unpassed_more : (seek : Seek) → IsCutUnpassed packets seek limits offset rest at_end → IsCutUnpassed packets seek limits offset (rest ++ more) (Unit {0})
    cut_unpassed_more Unsought u = tt
    cut_unpassed_more (SoughtIn window effort) u = (u.0, refused_more u.0 u.1, λ is. (nowhere_more limits window effort rest more at_end none (u.2 is)).0)

  -- all is there, or what is there is refused
  pub shut_at : (cut : Option (Option ℕ)) (packets : Option Packets) (how : Settings) (offset looked : ℕ) (rest more : List ℕ) (outcome : CutOutcome) (at_end : Type 0) → (at_end → more ≡ []) → IsOutcome limits rest outcome → IsLast packets cut how limits offset looked rest outcome at_end → IsShut limits rest more
  shut_at None packets how offset looked rest more Ended at_end none o last = inr (none last)
  shut_at None packets how offset looked rest more Unfinished at_end none o last = inr (none last.0)
  shut_at cut packets how offset looked rest more (Refused fault) at_end none o last = inl (fault, o)
  shut_at (Some by) packets how offset looked rest more Ended at_end none o last = absurd last
  shut_at (Some by) packets how offset looked rest more Unfinished at_end none o last = absurd last

  pub record EndsAll (packets : Option Packets) (cut : Option (Option ℕ)) (how : Settings) (offset looked : ℕ) (rest more : List ℕ) (outcome : CutOutcome) : Type 0 where
    pub ends : EndsHere packets cut how offset looked (rest ++ more) outcome
    pub fault_is : fault_at_end rest outcome ≡ fault_at_end (rest ++ more) outcome
    pub fronts : HaveSameFronts limits rest (rest ++ more)
    pub all_is : (by : Option ℕ) → cut ≡ Some by → rest ++ more ≡ rest

  pub ends_here : (packets : Option Packets) (cut : Option (Option ℕ)) (how : Settings) (offset looked : ℕ) (rest more : List ℕ) (outcome : CutOutcome) (at_end : Type 0) → (at_end → more ≡ []) → IsBytes (rest ++ more)
      → IsOutcome limits rest outcome → IsLast packets cut how limits offset looked rest outcome at_end → EndsAll packets cut how offset looked rest more outcome
  ends_here packets cut how offset looked rest more outcome at_end none bytes o last = by_outcome cut outcome o last
    where
      some : (front : List ℕ) × IsFaultFront limits (rest ++ more) front
      some = some_front limits (rest ++ more) bytes

      all : at_end → rest ++ more ≡ rest
      all e = ap (λ (l : List ℕ). rest ++ l) (none e) ∙ append-nil rest

      by_outcome : (c : Option (Option ℕ)) (out : CutOutcome) → IsOutcome limits rest out → IsLast packets c how limits offset looked rest out at_end → EndsAll packets c how offset looked rest more out
      by_outcome (Some by) Ended o last = absurd last
      by_outcome (Some by) Unfinished o last = absurd last
      by_outcome None Ended o last = record {
        ends = record { outcome_is = all last ∙ o; last = tt; whole = λ fault is. absurd cc; front = some.0; is_front = some.1 };
        fault_is = refl;
        fronts = fronts_more limits rest more (inr (none last));
        all_is = λ by is. absurd cc;
      }
      by_outcome None Unfinished o last =
          let same = sym (all last.0) in
          let fronts = fronts_more limits rest more (inr (none last.0)) in
          record {
            ends = record {
              outcome_is = subst (λ (l : List ℕ). IsOutcome limits l Unfinished) same o;
              last = (
                tt,
                λ goes.
                    subst (λ (n : ℕ). IsCutUnpassed packets (seek_of how.resync offset (looked + n)) limits offset (rest ++ more) (Unit {0})) (ap length same)
                    (cut_unpassed_more packets offset rest more at_end none fronts (seek_of how.resync offset (looked + length rest)) (last.1 goes)),
              );
              whole = λ fault is. absurd cc;
              front = some.0;
              is_front = some.1;
            };
            fault_is = ap (λ (l : List ℕ). fault_at_end l Unfinished) same;
            fronts = fronts;
            all_is = λ by is. absurd cc;
          }
      by_outcome None (Refused fault) o last =
          let there = refused_for_good limits rest more fault o in
          let whole = refused_reason limits (rest ++ more) fault bytes there in
          let fronts = fronts_more limits rest more (inl (fault, o)) in
          let long = refused_later limits 0 rest fault (nothing_partial limits) o in
          record {
            ends = record {
              outcome_is = there;
              last = λ goes sound. unpassed_more packets offset rest more at_end none fronts (seek_of how.resync offset (looked + fault.at)) (omega (arith, long)) (last goes sound);
              whole = λ other is. let same : fault ≡ other = cc in subst (λ (f : Fault). is_truncated f.reason ≡ false) same whole;
              front = some.0;
              is_front = some.1;
            };
            fault_is = refl;
            fronts = fronts;
            all_is = λ by is. absurd cc;
          }
      by_outcome (Some by) (Refused fault) o last =
          let there = refused_for_good limits rest more fault o in
          let whole = refused_reason limits (rest ++ more) fault bytes there in
          let same = sym (all last.1) in
          record {
            ends = record {
              outcome_is = there;
              last = (subst (λ (l : List ℕ). IsCutOff packets (seek_of how.resync offset (looked + fault.at)) limits offset l by) same last.0, tt, last.2);
              whole = λ other is. let same : fault ≡ other = cc in subst (λ (f : Fault). is_truncated f.reason ≡ false) same whole;
              front = some.0;
              is_front = some.1;
            };
            fault_is = refl;
            fronts = fronts_more limits rest more (inl (fault, o));
            all_is = λ from is. all last.1;
          }
