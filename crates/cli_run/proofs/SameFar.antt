-- Two runs over one input, of which one ends since no more is wanted after its messages. If so does
-- the other, both have the same parts; and it does not go through.
use Rattle.std.proofs.Common.{◌≡◌, ◌⊎◌, ◌≢◌, ℕ, suc, ◌+◌, Bool, true, false, ◌&&◌, not, List, [], ◌∷◌, ◌++◌, length, drop, Option, None, inl, inr, refl, sym, ap, ◌∙◌, subst, arith, append_assoc, append-nil, length-append}
use Rattle.std.proofs.Math.Path.{transport}
use Rattle.std.proofs.lemmas.Bool.{false≢true}
use Rattle.dbus_device.specs.Packets.{Packets}
use Rattle.dbus_value_model.specs.declared.limits.Limits.{Limits}
use Rattle.dbus_message_model.specs.Messages.{MessageTree}
use Rattle.dbus_names.specs.NameStates.{NameState}
use Rattle.dbus_stream.specs.Cut.{CutMessage, CutOutcome, Ended}
use Rattle.cli_options.specs.declared.command.Command.{Command}
use Rattle.cli_options.specs.declared.settings.Settings.{Settings}
use Rattle.cli_options.specs.declared.window.Window.{Window}
use Rattle.cli_options.specs.declared.wanted_lines.WantedLines.{WantedLines}
use Rattle.dbus_call_lines.specs.Listing.{Numbered, nth}
use Rattle.cli_run.specs.ByName.{items_of}
use Rattle.cli_run.specs.Going.{EndsWhole, passed_count}
use Rattle.cli_run.specs.CallListing.{number_and_time}
use Rattle.cli_run.specs.LineListing.{AreLinesFilled, AreLinesOf}
use Rattle.cli_run.specs.LineNames.{first_names, names_after}
use Rattle.cli_run.specs.Learning.{Selects, known, known_after}
use Rattle.cli_run.specs.Inputs.{ArePlaced, BeginWithParts, Part, PassedOver, Placed, Whole, looked_behind, sizes_of}
use Rattle.cli_run.specs.Output.{IsFilledBy, IsOutputOfAll, Picks, after, is_spent}
use Rattle.cli_run.specs.Visiting.{AreWanted}
use Rattle.cli_run.proofs.SameOutputs.{ActsAs}
use Rattle.cli_run.proofs.SameParts.{ArePassed, AreSamePackets, EndsHere, along, none_after}

-- ---- as many texts of the same messages

-- one text if a message is picked, else none
same_one : {P Q : Type 0} (to : P → Q) (from : Q → P) {A B : List ℕ → Type 0} (x y : List (List ℕ)) → (P × (text : List ℕ) × A text × (x ≡ text ∷ [])) ⊎ ((P → ⊥) × (x ≡ []))
    → (Q × (text : List ℕ) × B text × (y ≡ text ∷ [])) ⊎ ((Q → ⊥) × (y ≡ [])) → length x ≡ length y
same_one to from x y (inl met) (inl too) = ap length met.3 ∙ sym (ap length too.3)
same_one to from x y (inl met) (inr not) = absurd (not.0 (to met.0))
same_one to from x y (inr unmet) (inl too) = absurd (unmet.0 (from too.0))
same_one to from x y (inr unmet) (inr not) = ap length unmet.1 ∙ sym (ap length not.1)

module _ (a b : Command) (h : ActsAs a b) where
  same_many : (os : NameState) (s t : List Placed) (x y : List (List ℕ)) → items_of s ≡ items_of t → IsOutputOfAll a os s x → IsOutputOfAll b os t y → length x ≡ length y
  same_many os [] [] x y e p q = ap length (p ∙ sym q)
  same_many os [] (l ∷ t) x y e p q = absurd cc
  same_many os (m ∷ s) [] x y e p q = absurd cc
  same_many os (m ∷ s) (l ∷ t) x y e p q =
      let one : m.item ≡ l.item = cc in
      let more : items_of s ≡ items_of t = cc in
      let message : m.item.message ≡ l.item.message = ap (λ (i : CutMessage). i.message) one in
      let learned : known_after b.selection os l.item.message ≡ known_after a.selection os m.item.message = ap (λ k. known_after b.selection os k) (sym message) ∙ sym (h.learned os m.item.message) in
      let picks = h.picks os m.item.message in
      let first = same_one (λ is. subst (λ k. Picks b os k) message (picks.0 is)) (λ is. picks.1 (subst (λ k. Picks b os k) (sym message) is)) p.0 q.0 p.3 q.3 in
      let rest = same_many (known_after a.selection os m.item.message) s t p.1 q.1 more p.4 (subst (λ (o : NameState). IsOutputOfAll b o t q.1) learned q.4) in
      omega (arith, first, rest, ap length p.2, ap length q.2, length-append p.0 p.1, length-append q.0 q.1)

  pub filled_alike : (window : Window) (s t : List Placed) (x y : Bool) → items_of s ≡ items_of t → IsFilledBy a window s x → IsFilledBy b window t y → x ≡ y
  filled_alike window s t x y e p q =
      let n = same_many (known a.selection None) s t p.0 q.0 e p.1 (subst (λ (o : NameState). IsOutputOfAll b o t q.0) (sym h.known) q.1) in
      sym p.2 ∙ ((λ i. is_spent (after window (n i)) && not (h.checks i)) ∙ q.2)

-- and as many lines
same_lines : (wanted : WantedLines) (os : NameState) (before also : List Numbered) (s t : List Placed) (x y : List (List ℕ)) → items_of s ≡ items_of t → AreLinesOf wanted os before s x → AreLinesOf wanted os also t y → length x ≡ length y
same_lines wanted os before also [] [] x y e p q = ap length (p ∙ sym q)
same_lines wanted os before also [] (l ∷ t) x y e p q = absurd cc
same_lines wanted os before also (m ∷ s) [] x y e p q = absurd cc
same_lines wanted os before also (m ∷ s) (l ∷ t) x y e p q =
    let one : m.item ≡ l.item = cc in
    let more : items_of s ≡ items_of t = cc in
    let message : m.item.message ≡ l.item.message = ap (λ (i : CutMessage). i.message) one in
    let first = same_one (subst (Selects wanted.selection os) message) (subst (Selects wanted.selection os) (sym message)) p.0 q.0 p.2 q.2 in
    let there = subst (λ (k : MessageTree). AreLinesOf wanted (names_after os k) (also ++ nth (number_and_time l.place) l.item.message ∷ []) t q.1) (sym message) q.3 in
    let rest = same_lines wanted (names_after os m.item.message) _ _ s t p.1 q.1 more p.3 there in
    omega (arith, first, rest, ap length p.4, ap length q.4, length-append p.0 p.1, length-append q.0 q.1)

pub lines_filled : (wanted : WantedLines) (window : Window) (s t : List Placed) (x y : Bool) → items_of s ≡ items_of t → AreLinesFilled wanted window s x → AreLinesFilled wanted window t y → x ≡ y
lines_filled wanted window s t x y e p q =
    let n = same_lines wanted (first_names wanted.selection) [] [] s t p.0 q.0 e p.1 q.1 in
    sym p.2 ∙ (ap (λ (n : ℕ). is_spent (after window n)) n ∙ q.2)

-- ---- where more is wanted

-- the messages of the first parts, and those of the others
placed_split : (packets : Option Packets) (n offset : ℕ) (P more : List Part) (a : List Placed) → ArePlaced packets n offset (P ++ more) a
    → (s t : List Placed) × (a ≡ s ++ t) × ArePlaced packets n offset P s × ((t ≡ []) → ArePlaced packets (n + length P) (offset + sizes_of P) more [])
placed_split packets n offset [] more a p =
    let number : n ≡ n + 0 = omega arith in
    let place : offset ≡ offset + 0 = omega arith in
    ([], a, refl, refl, λ none. transport (λ i. ArePlaced packets (number i) (place i) more (none i)) p)
placed_split packets n offset (Whole item ∷ P) more [] p = absurd p
placed_split packets n offset (Whole item ∷ P) more (m ∷ a) p =
    let rest = placed_split packets (n + 1) (offset + item.size) P more a p.1 in
    let number : n + 1 + length P ≡ n + suc (length P) = omega arith in
    let place : offset + item.size + sizes_of P ≡ offset + (item.size + sizes_of P) = omega arith in
    (m ∷ rest.0, rest.1, ap (λ l. m ∷ l) rest.2, (p.0, rest.3), λ none. transport (λ i. ArePlaced packets (number i) (place i) more []) (rest.4 none))
placed_split packets n offset (PassedOver front fault by size ∷ P) more a p =
    let rest = placed_split packets (n + 1) (offset + size) P more a p in
    let number : n + 1 + length P ≡ n + suc (length P) = omega arith in
    let place : offset + size + sizes_of P ≡ offset + (size + sizes_of P) = omega arith in
    (rest.0, rest.1, rest.2, rest.3, λ none. transport (λ i. ArePlaced packets (number i) (place i) more []) (rest.4 none))

-- the same parts have the same messages
pub same_items : (packets others : Option Packets) (n offset : ℕ) (P : List Part) (a b : List Placed) → ArePlaced packets n offset P a → ArePlaced others n offset P b → items_of a ≡ items_of b
same_items packets others n offset [] a b p q = ap items_of (p ∙ sym q)
same_items packets others n offset (Whole item ∷ P) [] b p q = absurd p
same_items packets others n offset (Whole item ∷ P) (m ∷ a) [] p q = absurd q
same_items packets others n offset (Whole item ∷ P) (m ∷ a) (l ∷ b) p q =
    let one : m.item ≡ l.item = p.0.item_is ∙ sym q.0.item_is in
    let more = same_items packets others (n + 1) (offset + item.size) P a b p.1 q.1 in
    λ i. one i ∷ more i
same_items packets others n offset (PassedOver front fault by size ∷ P) a b p q = same_items packets others (n + 1) (offset + size) P a b p q

-- parts that end with a message have one
ends_some : (packets : Option Packets) (n offset : ℕ) (parts : List Part) → EndsWhole parts → ArePlaced packets n offset parts [] → parts ≡ []
ends_some packets n offset [] ends p = refl
ends_some packets n offset (Whole item ∷ parts) ends p = absurd p
ends_some packets n offset (PassedOver front fault by size ∷ parts) ends p = absurd (ends.0 (ends_some packets (n + 1) (offset + size) parts ends.1 p))

ends_after : (P more : List Part) → EndsWhole (P ++ more) → EndsWhole more
ends_after [] more ends = ends
ends_after (Whole item ∷ P) more ends = ends_after P more ends
ends_after (PassedOver front fault by size ∷ P) more ends = ends_after P more ends.1

-- more is wanted before each message, also before the first of the last ones, if there are some
wanted_before : (F : List Placed → Bool → Type 0) (before s t : List Placed) → AreWanted F before (s ++ t) → F (before ++ s) false ⊎ (t ≡ [])
wanted_before F before [] [] w = inr refl
wanted_before F before [] (m ∷ t) w = inl (subst (λ (l : List Placed). F l false) (sym (append-nil before)) w.0)
wanted_before F before (x ∷ s) t w = elim (wanted_before F (before ++ x ∷ []) s t w.1) [
  | inl more ↦ inl (subst (λ (l : List Placed). F l false) (append_assoc before (x ∷ []) s) more)
  | inr none ↦ inr none
]

module _ (F G : List Placed → Bool → Type 0) (one : (s t : List Placed) (x y : Bool) → items_of s ≡ items_of t → F s x → G t y → x ≡ y) where
  -- if one wants no more after its messages, the other that has these first parts has no others
  module _ (packets others : Option Packets) (P more : List Part) (a b : List Placed) (placed : ArePlaced packets 1 0 (P ++ more) a) (placed_too : ArePlaced others 1 0 P b) (wanted : AreWanted F [] a) (enough : G b true) where
    abbrev parted : (s t : List Placed) × (a ≡ s ++ t) × ArePlaced packets 1 0 P s × ((t ≡ []) → ArePlaced packets (1 + length P) (0 + sizes_of P) more [])
    parted = placed_split packets 1 0 P more a placed

    not_more : F parted.0 false → ⊥
    not_more unfilled = false≢true (one parted.0 b false true (same_items packets others 1 0 P parted.0 b parted.3 placed_too) unfilled enough)

    no_others : parted.1 ≡ []
    no_others = elim (wanted_before F [] parted.0 parted.1 (subst (λ (l : List Placed). AreWanted F [] l) parted.2 wanted)) [ inl more ↦ absurd (not_more more) | inr none ↦ none ]

    pub still_wants : F a false → ⊥
    still_wants unfilled = not_more (subst (λ (l : List Placed). F l false) (parted.2 ∙ (ap (λ (l : List Placed). parted.0 ++ l) no_others ∙ append-nil parted.0)) unfilled)

    pub none_more : EndsWhole (P ++ more) → more ≡ []
    none_more ends = ends_some packets (1 + length P) (0 + sizes_of P) more (ends_after P more ends) (parted.4 no_others)

-- one ends since no more is wanted, and the other goes through
module _ (limits : Limits) (F G : List Placed → Bool → Type 0) (one : (s t : List Placed) (x y : Bool) → items_of s ≡ items_of t → F s x → G t y → x ≡ y) where
  pub not_through : (packets others : Option Packets) (cut : Option (Option ℕ)) (how : Settings) (bytes : List ℕ) (P Q : List Part) (rest last : List ℕ) (outcome : CutOutcome) (a b : List Placed)
      → AreSamePackets packets others ⊎ (((passed_count P ≡ 0) × (outcome ≡ Ended)) ⊎ (passed_count Q ≡ 0)) → BeginWithParts limits bytes P rest → BeginWithParts limits bytes Q last → ArePlaced packets 1 0 P a → ArePlaced others 1 0 Q b → AreWanted F [] a
      → EndsHere limits packets cut how (0 + sizes_of P) (looked_behind P 0 0) rest outcome → ArePassed packets limits how 0 0 P → ArePassed others limits how 0 0 Q → F a false → G b true → ⊥
  not_through packets others cut how bytes P Q rest last outcome a b known x y placed placed_too wanted ends gone passed unfilled enough = elim (along limits packets others how 0 0 bytes P Q rest last (elim known [ inl same ↦ inl same | inr none ↦ inr (elim none [ inl first ↦ inl first.0 | inr second ↦ inr second ]) ]) x y gone passed) [
    | inl (more, is) ↦ (
        let known_there : AreSamePackets packets others ⊎ ((outcome ≡ Ended) ⊎ (passed_count (P ++ more) ≡ 0)) = elim known [ inl same ↦ inl same | inr none ↦ inr (elim none [ inl first ↦ inl first.1 | inr second ↦ inr (ap passed_count (sym is) ∙ second) ]) ] in
        let none = none_after limits packets others cut how 0 0 bytes P more rest last outcome known_there ends x (subst (λ l. BeginWithParts limits bytes l last) is y) (subst (λ l. ArePassed others limits how 0 0 l) is passed) in
        let same : Q ≡ P = is ∙ (ap (λ l. P ++ l) none ∙ append-nil P) in
        false≢true (one a b false true (same_items packets others 1 0 P a b placed (subst (λ l. ArePlaced others 1 0 l b) same placed_too)) unfilled enough)
        )
    | inr (more, is) ↦ still_wants F G one packets others Q more a b (subst (λ l. ArePlaced packets 1 0 l a) is placed) placed_too wanted enough unfilled
  ]

  -- both end since no more is wanted
  pub same_far : (packets others : Option Packets) (how : Settings) (bytes : List ℕ) (P Q : List Part) (rest last : List ℕ) (a b : List Placed) → AreSamePackets packets others ⊎ (passed_count P ≡ 0)
      → BeginWithParts limits bytes P rest → BeginWithParts limits bytes Q last → ArePlaced packets 1 0 P a → ArePlaced others 1 0 Q b → AreWanted F [] a → AreWanted G [] b
      → EndsWhole P → EndsWhole Q → ArePassed packets limits how 0 0 P → ArePassed others limits how 0 0 Q → F a true → G b true → P ≡ Q
  same_far packets others how bytes P Q rest last a b known x y placed placed_too wanted wanted_too ends ends_too gone passed enough enough_too = elim (along limits packets others how 0 0 bytes P Q rest last (elim known [ inl same ↦ inl same | inr zero ↦ inr (inl zero) ]) x y gone passed) [
    | inl (more, is) ↦ (
        let none = none_more G F (λ s t x y e p q. sym (one t s y x (sym e) q p)) others packets P more b a (subst (λ l. ArePlaced others 1 0 l b) is placed_too) placed wanted_too enough (subst EndsWhole is ends_too) in
        sym (is ∙ (ap (λ l. P ++ l) none ∙ append-nil P))
        )
    | inr (more, is) ↦ (
        let none = none_more F G one packets others Q more a b (subst (λ l. ArePlaced packets 1 0 l a) is placed) placed_too wanted enough_too (subst EndsWhole is ends) in
        is ∙ (ap (λ l. Q ++ l) none ∙ append-nil Q)
        )
  ]
