-- What is made and told of the same parts: the messages among them, and the texts; and of the messages
-- the texts that commands make that are the same, and exact.
use Rattle.std.proofs.Common.{◌≡◌, ◌↔◌, ◌⊎◌, if◌then◌else◌, codes, decimal, length, take, ℕ, zero, suc, ◌+◌, Bool, true, false, ◌||◌, ◌&&◌, List, [], ◌∷◌, ◌++◌, drop, map, None, Some, Option, refl, sym, ap, ◌∙◌, subst, arith, inl, inr}
use Rattle.std.proofs.lemmas.Bool.{false≢true}
use Rattle.std.specs.FinSet.{from_list}
use Rattle.std.specs.declared.alloc.Global.{Global}
use Rattle.dbus_device.specs.Packets.{Packets}
use Rattle.dbus_header.specs.MessageOutcomes.{IsRefused}
use Rattle.dbus_header.specs.NoMessage.{IsFaultAtEnd}
use Rattle.dbus_stream.specs.Cut.{CutOutcome, Ended, Unfinished, Refused, IsOutcome}
use Rattle.dbus_stream.specs.CutEnds.{fault_at_end, truncated}
use Rattle.dbus_value_model.specs.declared.fault.Fault.{Fault}
use Rattle.dbus_value_model.specs.declared.order.Order.{Order}
use Rattle.dbus_message_model.specs.Messages.{MessageTree, message_bytes}
use Rattle.std.proofs.Math.Path.{transport}
use Rattle.dbus_rule.specs.declared.rule.Rule.{Rule}
use Rattle.dbus_match.specs.Matching.{Ownership}
use Rattle.dbus_rule.specs.Rules.{sender_of}
use Rattle.dbus_rule.specs.RuleViews.{rule_pairs}
use Rattle.dbus_names.specs.NameStates.{NameState, known_after as names_after, known_first}
use Rattle.dbus_rule_set.specs.Owners.{owners_in}
use Rattle.dbus_calls.specs.Answering.{is_ownable}
use Rattle.dbus_calls.specs.OwnerChanges.{is_text}
use Rattle.cli_options.specs.Selections.{AreSameCommand, AreSameSelected, AreSameSelection, OrInverted, SelectsBy, SomeHolds}
use Rattle.cli_options.specs.declared.selection.Question.{Question}
use Rattle.cli_options.specs.declared.selection.Question.TheVariants as questions
use Rattle.cli_options.specs.declared.command.Command.{Command}
use Rattle.cli_options.specs.declared.command.Output.{Output}
use Rattle.cli_options.specs.declared.command.Output.TheVariants.{Nothing}
use Rattle.cli_options.specs.declared.file_form.FileForm.{FileForm}
use Rattle.cli_options.specs.declared.selection.Selection.{Selection}
use Rattle.cli_options.specs.declared.settings.Settings.{Settings}
use Rattle.cli_report.specs.FaultFronts.{IsFaultFront}
use Rattle.cli_report.specs.Telling.{Explains, line_of, packet_member}
use Rattle.dbus_explain.specs.Explained.{IsExplained}
use Rattle.dbus_explain.specs.Laws.{AreOfOne, HeaderHasNoDouble}
use Rattle.dbus_explain.specs.Members.{AreMembersOf}
use Rattle.dbus_explain.specs.declared.message.Refused.{Refused as RefusedBytes}
use Rattle.dbus_explain.proofs.OneText.{one_explanation, one_refusal}
use Rattle.dbus_value_model.specs.FaultTexts.{reason_text}
use Rattle.dbus_value_model.specs.declared.limits.Limits.{Limits}
use Rattle.cli_report.specs.declared.telling.RefusedMessage.{RefusedMessage}
use Rattle.cli_report.proofs.FaultFronts.{one_front, own_front}
use Rattle.cli_report.specs.declared.ending.ExitStatus.TheVariants as status
use Rattle.cli_run.specs.Learning.{AreSelected, Selects, known as known_by, known_after, matters, name_sender}
use Rattle.cli_run.specs.Inputs.{ArePlaced, BeginWithParts, By, IsFaultOf, IsPart, Part, PassedOver, Placed, Whole, looked_after, looked_for, size_of}
use Rattle.cli_run.specs.Laws.{HaveNoDouble}
use Rattle.cli_run.specs.Output.{AreAlike, IsExact, form_of, IsOutputOf, IsOutputOfAll, IsTextOf, Picks, PicksBy, is_check}
use Rattle.cli_run.specs.Going.{AreTold, IsTold, IsToldIn, IsToldLast, IsToldOf, IsToldRefused, passed_count, status_at}
use Rattle.cli_run.specs.declared.place.MessagePlace.{MessagePlace}
use Rattle.cli_run.proofs.Outputs.{output_all_one}
use Rattle.cli_run.proofs.PartLaws.{either_fault}
use Rattle.cli_run.proofs.RuleSets.{same_some}
use Rattle.cli_run.proofs.SameParts.{ArePassed, one_packet}

-- ---- parts

-- if the packets are known, so are the times
pub one_placed : (packets : Packets) (n offset : ℕ) (parts : List Part) (a b : List Placed) → ArePlaced (Some packets) n offset parts a → ArePlaced (Some packets) n offset parts b → a ≡ b
one_placed packets n offset [] a b p q = p ∙ sym q
one_placed packets n offset (Whole item ∷ parts) [] b p q = absurd p
one_placed packets n offset (Whole item ∷ parts) (m ∷ a) [] p q = absurd q
one_placed packets n offset (Whole item ∷ parts) (m ∷ a) (l ∷ b) p q =
    let number : m.place.number ≡ l.place.number = p.0.number_is ∙ sym q.0.number_is in
    let there : m.place.offset ≡ l.place.offset = p.0.offset_is ∙ sym q.0.offset_is in
    let time : m.place.time ≡ l.place.time = p.0.time_is ∙ sym q.0.time_is in
    let packet : m.place.in_packet ≡ l.place.in_packet = p.0.packet_is ∙ sym q.0.packet_is in
    let same : m.item ≡ l.item = p.0.item_is ∙ sym q.0.item_is in
    let more = one_placed packets (n + 1) (offset + item.size) parts a b p.1 q.1 in
    λ i. record { place = record { number = number i; offset = there i; time = time i; in_packet = packet i }; item = same i } ∷ more i
one_placed packets n offset (PassedOver front fault by size ∷ parts) a b p q = one_placed packets (n + 1) (offset + size) parts a b p q

-- ---- what is told

-- a part is passed over only if the run is to go on
pub are_passed : (packets : Option Packets) (settings : Settings) (n offset looked : ℕ) (parts : List Part) (told : List ℕ) → AreTold packets settings n offset looked parts told → ArePassed packets settings.limits settings offset looked parts
are_passed packets settings n offset looked [] told t = tt
are_passed packets settings n offset looked (Whole item ∷ parts) told t = are_passed packets settings (n + 1) (offset + item.size) looked parts t.1 t.4
are_passed packets settings n offset looked (PassedOver front fault by size ∷ parts) told t = (t.3.0, t.3.1, are_passed packets settings (n + 1) (offset + size) (looked_for by fault.at offset looked) parts t.1 t.4)

-- what is told of one message is one text
module _ (limits : Limits) (refusal : RefusedMessage) (bytes x y : List ℕ) where
  of_one : (Is : RefusedBytes → List ℕ → Type 0) (a b : List ℕ) (h : Explains Is limits refusal bytes a) (k : Explains Is limits refusal bytes b) → AreOfOne h.refused k.refused
  of_one Is a b h k = record { bytes = one_front limits bytes h.refused.bytes.now k.refused.bytes.now h.bytes_are k.bytes_are; fault = h.fault_is ∙ sym k.fault_is; number = h.number_is ∙ sym k.number_is; offset = h.offset_is ∙ sym k.offset_is }

  told_one : (as_json goes_on explains : Bool) → (as_json ≡ true → (front : List ℕ) → IsFaultFront limits bytes front → HeaderHasNoDouble front refusal.fault) → IsToldIn as_json goes_on explains limits refusal bytes x → IsToldIn as_json goes_on explains limits refusal bytes y → x ≡ y
  told_one true goes_on explains none h k =
      let there = subst (λ (f : Fault). HeaderHasNoDouble h.explains.refused.bytes.now f) (sym h.explains.fault_is) (none refl h.explains.refused.bytes.now h.explains.bytes_are) in
      let members = one_refusal h.explains.refused k.explains.refused h.members k.members (of_one AreMembersOf h.members k.members h.explains k.explains) there h.explains.explained k.explains.explained in
      h.is ∙ ((λ i. codes "{\"refused\":\"" ++ (reason_text refusal.fault.reason ++ (codes "\",\"offset\":" ++ (decimal (refusal.offset + refusal.fault.at)
      ++ (codes ",\"message\":" ++ (decimal refusal.number ++ (codes ",\"begins\":" ++ (decimal refusal.offset ++ (packet_member refusal.packet
      ++ (codes "," ++ (members i ++ codes "}\n"))))))))))) ∙ sym k.is)
  told_one false goes_on false none h k = h ∙ sym k
  told_one false goes_on true none h k =
      let explained = one_explanation h.1.refused k.1.refused h.0 k.0 (of_one IsExplained h.0 k.0 h.1 k.1) h.1.explained k.1.explained in
      h.2 ∙ (ap (λ (l : List ℕ). line_of goes_on refusal ++ l) explained ∙ sym k.2)

module _ (settings : Settings) where
  module _ (all : Packets) where
    -- of one packet
    same_refused : (n offset : ℕ) (bytes front : List ℕ) (fault : Fault) (a b : List ℕ) → IsFaultFront settings.limits bytes front → (settings.as_json ≡ true → (f : List ℕ) → IsFaultFront settings.limits bytes f → HeaderHasNoDouble f fault)
        → IsToldRefused (Some all) settings n offset bytes fault a → IsToldRefused (Some all) settings n offset bytes fault b → a ≡ b
    same_refused n offset bytes front fault a b is none p q =
        let packet = one_packet settings.limits all offset bytes front p.0 q.0 is p.1 q.1 in
        told_one settings.limits (record { number = n; offset = offset; fault = fault; packet = p.0 }) bytes a b settings.as_json settings.keeps_going settings.explains none p.2
        (subst (λ (k : Option ℕ). IsTold settings (record { number = n; offset = offset; fault = fault; packet = k }) bytes b) (sym packet) q.2)

    -- each header of what is refused is told by one text
    abbrev pub TellsOneOf : (n offset looked : ℕ) → (bytes : List ℕ) → Type 0
    TellsOneOf n offset looked bytes = (settings.as_json ≡ false) ⊎ HaveNoDouble (Some all) settings n offset looked bytes

    no_double : (n offset looked : ℕ) (w : List ℕ) (fault : Fault) → TellsOneOf n offset looked w → IsFaultAtEnd settings.limits w fault → settings.as_json ≡ true → (f : List ℕ) → IsFaultFront settings.limits w f → HeaderHasNoDouble f fault
    no_double n offset looked w fault one at json f is = elim one [ inl plain ↦ absurd (false≢true (sym plain ∙ json)) | inr none ↦ none [] [] w f fault refl refl at is ]

    tells_next : (n offset looked : ℕ) (bytes : List ℕ) (part : Part) (one : List ℕ) → IsPart settings.limits bytes part → IsToldOf (Some all) settings n offset looked part one → TellsOneOf n offset looked bytes
        → TellsOneOf (n + 1) (offset + size_of part) (looked_after part offset looked) (drop (size_of part) bytes)
    tells_next n offset looked bytes part one is told tells = elim tells [
      | inl plain ↦ inl plain
      | inr none ↦ inr (λ parts more rest front fault begin are at there. none (part ∷ parts) (one ++ more) rest front fault (is, begin) (one, more, refl, told, are) at there)
    ]

    -- the fault of a part, at the end of the input or not
    fault_there : (w : List ℕ) (fault : Fault) (by : By) → IsFaultOf settings.limits w fault by → IsFaultAtEnd settings.limits w fault
    fault_there w fault by f = elim (either_fault settings.limits w fault by f) [ inl refused ↦ inl refused | inr cut ↦ inr (cut.1, cut.2) ]

    -- parts of the same bytes are told by one text
    pub same_told : (n offset looked : ℕ) (bytes : List ℕ) (parts : List Part) (rest a b : List ℕ) → TellsOneOf n offset looked bytes → BeginWithParts settings.limits bytes parts rest
        → AreTold (Some all) settings n offset looked parts a → AreTold (Some all) settings n offset looked parts b → a ≡ b
    same_told n offset looked bytes [] rest a b tells x p q = p ∙ sym q
    same_told n offset looked bytes (part ∷ parts) rest a b tells x p q =
        let more = same_told (n + 1) (offset + size_of part) (looked_after part offset looked) (drop (size_of part) bytes) parts rest p.1 q.1 (tells_next n offset looked bytes part p.0 x.0 p.3 tells) x.1 p.4 q.4 in
        p.2 ∙ ((λ i. same_of part x.0 p.3 q.3 i ++ more i) ∙ sym q.2)
      where
        same_of : (r : Part) → IsPart settings.limits bytes r → IsToldOf (Some all) settings n offset looked r p.0 → IsToldOf (Some all) settings n offset looked r q.0 → p.0 ≡ q.0
        same_of (Whole item) is s t = s ∙ sym t
        same_of (PassedOver front fault by size) is s t =
            same_refused n offset front front fault p.0 q.0 (own_front settings.limits bytes front is.0)
            (λ json f own. subst (λ (l : List ℕ). HeaderHasNoDouble l fault) (one_front settings.limits front front f (own_front settings.limits bytes front is.0) own) (no_double n offset looked bytes fault tells (fault_there bytes fault by is.1) json front is.0))
            s.2 t.2

    -- and the rest after them
    tells_after : (n offset looked : ℕ) (bytes : List ℕ) (parts : List Part) (rest a : List ℕ) → TellsOneOf n offset looked bytes → BeginWithParts settings.limits bytes parts rest → AreTold (Some all) settings n offset looked parts a
        → settings.as_json ≡ true → (f : List ℕ) (fault : Fault) → IsFaultAtEnd settings.limits rest fault → IsFaultFront settings.limits rest f → HeaderHasNoDouble f fault
    tells_after n offset looked bytes parts rest a tells x p json f fault at is = elim tells [ inl plain ↦ absurd (false≢true (sym plain ∙ json)) | inr none ↦ none parts a rest f fault x p at is ]

    pub same_last : (n offset looked m at : ℕ) (bytes : List ℕ) (parts : List Part) (rest front told : List ℕ) (fault : Option Fault) (outcome : CutOutcome) (a b : List ℕ) → TellsOneOf n offset looked bytes → BeginWithParts settings.limits bytes parts rest → AreTold (Some all) settings n offset looked parts told
        → IsFaultFront settings.limits rest front → IsOutcome settings.limits rest outcome → fault ≡ fault_at_end rest outcome → IsToldLast (Some all) settings m at rest fault a → IsToldLast (Some all) settings m at rest fault b → a ≡ b
    same_last n offset looked m at bytes parts rest front told None outcome a b tells x t is o e p q = p ∙ sym q
    same_last n offset looked m at bytes parts rest front told (Some fault) outcome a b tells x t is o e p q =
        same_refused m at rest front fault a b is (λ json f own. tells_after n offset looked bytes parts rest told tells x t json f fault (at_outcome outcome o e) own) p q
      where
        at_outcome : (out : CutOutcome) → IsOutcome settings.limits rest out → Some fault ≡ fault_at_end rest out → IsFaultAtEnd settings.limits rest fault
        at_outcome Ended o e = absurd cc
        at_outcome Unfinished o e = let same : fault ≡ truncated rest = cc in inr (o.1, same)
        at_outcome (Refused other) o e = let same : other ≡ fault = cc in inl (subst (λ (f : Fault). IsRefused settings.limits rest f) same o)

  -- nothing is told where nothing is refused
  module _ (packets : Option Packets) where
    pub none_told : (n offset looked : ℕ) (parts : List Part) (a : List ℕ) → passed_count parts ≡ 0 → AreTold packets settings n offset looked parts a → a ≡ []
    none_told n offset looked [] a none p = p
    none_told n offset looked (Whole x ∷ parts) a none p = p.2 ∙ (λ i. p.3 i ++ none_told (n + 1) (offset + x.size) looked parts p.1 none p.4 i)
    none_told n offset looked (PassedOver k f c m ∷ parts) a none p = absurd (omega (arith, none))

    pub none_last : (n offset : ℕ) (rest : List ℕ) (fault : Option Fault) (a : List ℕ) → fault ≡ None → IsToldLast packets settings n offset rest fault a → a ≡ []
    none_last n offset rest fault a none p = subst (λ (f : Option Fault). IsToldLast packets settings n offset rest f a) none p

pub none_refused : (passed : ℕ) (fault : Option Fault) → status_at passed fault ≡ status.Done → (passed ≡ 0) × (fault ≡ None)
none_refused zero None e = (refl, refl)
none_refused zero (Some fault) e = absurd cc
none_refused (suc n) fault e = absurd cc

-- ---- commands that are the same

inverted_both : (b : Bool) (P Q : Type 0) → (P → Q) → (Q → P) → OrInverted b P → OrInverted b Q
inverted_both false P Q f g h = f h
inverted_both true P Q f g h = λ q. h (g q)

same_selects : (a b : Selection) (os : List Ownership) (m : MessageTree) → AreSameSelection a b → SelectsBy a os m → SelectsBy b os m
same_selects a b os m h s =
    let there = same_some b.as_bus b.question a.rules.items b.rules.items m os h.rules in
    let back = same_some b.as_bus b.question b.rules.items a.rules.items m os (sym h.rules) in
    let asked : OrInverted a.is_inverted (SomeHolds b.as_bus b.question a.rules.items m os) =
    subst (λ (as_bus : Bool). OrInverted a.is_inverted (SomeHolds as_bus b.question a.rules.items m os)) h.as_bus
    (subst (λ (q : Question). OrInverted a.is_inverted (SomeHolds a.as_bus q a.rules.items m os)) h.question s) in
    subst (λ c. OrInverted c (SomeHolds b.as_bus b.question b.rules.items m os)) h.inverted (inverted_both a.is_inverted _ _ there back asked)

same_picks : (a b : Option Selection) → AreSameSelected a b → (os : NameState) (m : MessageTree) → Selects a os m ↔ Selects b os m
same_picks None None s os m = (λ p. p, λ p. p)
same_picks None (Some b) s os m = absurd s
same_picks (Some a) None s os m = absurd s
same_picks (Some a) (Some b) s os m =
    let back : AreSameSelection b a = record { rules = sym s.rules; inverted = sym s.inverted; question = sym s.question; owners = sym s.owners; learns = sym s.learns; as_bus = sym s.as_bus } in
    (same_selects a b (owners_in os.owners) m s, same_selects b a (owners_in os.owners) m back)

picks_too : (output : Output) (a b : Option Selection) → AreSameSelected a b → (os : NameState) (m : MessageTree) → PicksBy output a os m ↔ PicksBy output b os m
picks_too Nothing a b s os m = (λ p. p, λ p. p)
picks_too output a b s os m = same_picks a b s os m

same_senders : (rules others : List (Rule Global)) (name : List ℕ) → map rule_pairs rules ≡ map rule_pairs others → name_sender rules name ≡ name_sender others name
same_senders [] [] name e = refl
same_senders [] (r ∷ others) name e = absurd cc
same_senders (r ∷ rules) [] name e = absurd cc
same_senders (r ∷ rules) (s ∷ others) name e =
    let one : rule_pairs r ≡ rule_pairs s = cc in
    let more : map rule_pairs rules ≡ map rule_pairs others = cc in
    let rest = same_senders rules others name more in
    λ i. is_text (sender_of (one i)) name || rest i

same_matters : (q : Question) (rules others : List (Rule Global)) (name : List ℕ) → map rule_pairs rules ≡ map rule_pairs others → matters q rules name ≡ matters q others name
same_matters questions.Matches rules others name e = same_senders rules others name e
same_matters questions.MayMatch rules others name e = refl

pub same_after : (a b : Option Selection) (state : NameState) (m : MessageTree) → AreSameSelected a b → known_after a state m ≡ known_after b state m
same_after None None state m h = refl
same_after None (Some b) state m h = absurd h
same_after (Some a) None state m h = absurd h
same_after (Some a) (Some b) state m h =
    let same : (name : List ℕ) → matters a.question a.rules.items name ≡ matters b.question b.rules.items name
    = λ name. same_matters a.question a.rules.items b.rules.items name h.rules ∙ ap (λ (q : Question). matters q b.rules.items name) h.question in
    λ i. if h.learns i then names_after (λ name. is_ownable name && same name i) state m else state

pub same_first : (a b : Option Selection) → AreSameSelected a b → known_by a None ≡ known_by b None
same_first None None h = refl
same_first None (Some b) h = absurd h
same_first (Some a) None h = absurd h
same_first (Some a) (Some b) h = ap (λ (owners : List Ownership). known_first (from_list owners)) h.owners

-- of messages that are the same, selections that are the same select the same ones: all is the same
-- of them that f says, which says the messages without their places at least
module _ (a b : Option Selection) (h : AreSameSelected a b) {X : Type 0} (f : Placed → X) (message : (m l : Placed) → f m ≡ f l → m.item.message ≡ l.item.message) where
  same_choice : {P Q : Type 0} → (P → Q) → (Q → P) → (m l : Placed) (u v x y : List Placed) → f m ≡ f l → map f u ≡ map f v → (P × (x ≡ m ∷ u)) ⊎ ((P → ⊥) × (x ≡ u)) → (Q × (y ≡ l ∷ v)) ⊎ ((Q → ⊥) × (y ≡ v)) → map f x ≡ map f y
  same_choice to from m l u v x y one rest (inl is) (inl too) = ap (map f) is.1 ∙ ((λ i. one i ∷ rest i) ∙ sym (ap (map f) too.1))
  same_choice to from m l u v x y one rest (inl is) (inr not) = absurd (not.0 (to is.0))
  same_choice to from m l u v x y one rest (inr not) (inl is) = absurd (not.0 (from is.0))
  same_choice to from m l u v x y one rest (inr not) (inr too) = ap (map f) not.1 ∙ (rest ∙ sym (ap (map f) too.1))

  pub same_selected : (os ns : NameState) (s t x y : List Placed) → os ≡ ns → map f s ≡ map f t → AreSelected a os s x → AreSelected b ns t y → map f x ≡ map f y
  same_selected os ns [] [] x y is e p q = ap (map f) (p ∙ sym q)
  same_selected os ns [] (l ∷ t) x y is e p q = absurd cc
  same_selected os ns (m ∷ s) [] x y is e p q = absurd cc
  same_selected os ns (m ∷ s) (l ∷ t) x y is e p q =
      let one : f m ≡ f l = cc in
      let more : map f s ≡ map f t = cc in
      let same = message m l one in
      let learned = same_after a b os m.item.message h ∙ (λ i. known_after b (is i) (same i)) in
      let picks = same_picks a b h os m.item.message in
      let to = λ (k : Selects a os m.item.message). transport (λ i. Selects b (is i) (same i)) (picks.0 k) in
      let from = λ (k : Selects b ns l.item.message). picks.1 (transport (λ i. Selects b (sym is i) (sym same i)) k) in
      same_choice to from m l p.0 q.0 x y one (same_selected (known_after a os m.item.message) (known_after b ns l.item.message) s t p.0 q.0 learned more p.1 q.1) p.2 q.2

-- ---- a command that is the same acts the same

pub record ActsAs (a b : Command) : Type 0 where
  pub checks : is_check a.output ≡ is_check b.output
  pub form : form_of a.output ≡ form_of b.output
  pub exact : IsExact a.output → IsExact b.output
  pub picks : (os : NameState) (m : MessageTree) → Picks a os m ↔ Picks b os m
  pub texts : (order : Order) (m : MessageTree) (place : MessagePlace) (text : List ℕ) → IsTextOf a.output order m place text → IsTextOf b.output order m place text
  pub known : known_by a.selection None ≡ known_by b.selection None
  pub learned : (os : NameState) (m : MessageTree) → known_after a.selection os m ≡ known_after b.selection os m

pub acts_as : (a b : Command) → AreSameCommand a b → ActsAs a b
acts_as a b h = record {
  checks = ap is_check h.0;
  form = ap form_of h.0;
  exact = subst IsExact h.0;
  picks = λ os m. subst (λ (o : Output). Picks a os m ↔ PicksBy o b.selection os m) h.0 (picks_too a.output a.selection b.selection h.1 os m);
  texts = λ order m place text. subst (λ (o : Output). IsTextOf o order m place text) h.0;
  known = same_first a.selection b.selection h.1;
  learned = λ os m. same_after a.selection b.selection os m h.1;
}

module _ (a b : Command) (h : ActsAs a b) where
  made_too : (os : NameState) (items : List Placed) (texts : List (List ℕ)) → IsOutputOfAll a os items texts → IsOutputOfAll b os items texts
  made_too os [] texts p = p
  made_too os (m ∷ items) texts p =
      let one : IsOutputOf b os m.item.order m.item.message m.place p.0 = elim p.3 [
        | inl met ↦ inl ((h.picks os m.item.message).0 met.0, met.1, h.texts m.item.order m.item.message m.place met.1 met.2, met.3)
        | inr unmet ↦ inr (λ k. unmet.0 ((h.picks os m.item.message).1 k), unmet.1)
      ] in
      (p.0, p.1, p.2, one, subst (λ (l : NameState). IsOutputOfAll b l items p.1) (h.learned os m.item.message) (made_too (known_after a.selection os m.item.message) items p.1 p.4))

  pub same_outputs : IsExact a.output → (packets others : Option Packets) → AreAlike (form_of a.output) packets others → (parts : List Part) (items also : List Placed) (x y : List (List ℕ)) → ArePlaced packets 1 0 parts items → ArePlaced others 1 0 parts also
      → IsOutputOfAll a (known_by a.selection None) items x → IsOutputOfAll b (known_by b.selection None) also y → x ≡ y
  same_outputs exact packets others alike parts items also x y here there p q =
      output_all_one packets others b (known_by b.selection None) 1 0 parts items also x y (h.exact exact) (subst (λ (f : FileForm). AreAlike f packets others) h.form alike) here there
      (subst (λ (l : NameState). IsOutputOfAll b l items x) h.known (made_too (known_by a.selection None) items x p)) q
