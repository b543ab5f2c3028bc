-- The numbers of messages rise, what is listed by one of them, and what by all.
use Rattle.std.proofs.Common.{◌≡◌, ℕ, ◌+◌, ◌<◌, false, List, [], ◌∷◌, ◌++◌, Option, Less, refl, sym, ◌∙◌, subst, arith, append-nil}
use Rattle.std.specs.List.{AllByRecursion}
use Rattle.std.specs.List.Sorted.{IsStrictlySortedBy}
use Rattle.std.specs.Ordering.{nat_cmp}
use Rattle.dbus_value_model.specs.declared.order.Order.{Order}
use Rattle.dbus_message_model.specs.Messages.{MessageTree}
use Rattle.dbus_device.specs.Packets.{Packets}
use Rattle.dbus_stream.specs.Cut.{CutMessage}
use Rattle.dbus_call_lines.specs.CallLines.{front}
use Rattle.dbus_call_lines.specs.Keeping.{Keeps}
use Rattle.dbus_call_lines.specs.Listing.{AreListed, AreListedBy, AreRising, ListsAfter, Numbered, Row, rows_text}
use Rattle.dbus_call_lines.specs.declared.wanted.Wanted.{Wanted}
use Rattle.dbus_call_lines.proofs.Along.{listed_end}
use Rattle.dbus_call_lines.proofs.Some.{front_rises, some_after}
use Rattle.dbus_call_lines.proofs.Written.{lines_both}
use Rattle.dbus_names.specs.Kept.{state_of}
use Rattle.dbus_names.specs.NameStates.{NameState}
use Rattle.cli_run.specs.CallListing.{CallsState, EndsCalls, FollowRising, IsNote, ListsAt, MakesCalls, all_named, calls_after, first_calls, lack_times, named, named_at, nothing_known, numbered}
use Rattle.cli_run.specs.Inputs.{ArePlaced, IsPlaced, Part, PassedOver, Placed, Whole}
use Rattle.cli_run.specs.LineNames.{names_after}
use Rattle.cli_run.specs.OutputWriting.{placed_at}
use Rattle.cli_run.specs.declared.call_listing.CallRenderer.{CallRenderer}
use Rattle.cli_run.specs.declared.place.MessagePlace.{MessagePlace}

-- ---- the numbers of messages rise

below : (m n : ℕ) → m < n → nat_cmp m n ≡ Less
below m n less = grind arith

number_above : (m n : ℕ) (item : CutMessage) (packets : Option Packets) (offset : ℕ) (p : Placed) → m < n → IsPlaced packets n offset item p → nat_cmp m p.place.number ≡ Less
number_above m n item packets offset p less is = subst (λ (x : ℕ). nat_cmp m x ≡ Less) (sym is.number_is) (below m n less)

placed_above : (packets : Option Packets) (m n offset : ℕ) (parts : List Part) (messages : List Placed) → m < n → ArePlaced packets n offset parts messages
    → AllByRecursion (λ y. nat_cmp m y.place.number ≡ Less) (numbered messages)
placed_above packets m n offset [] messages less p = subst (λ (l : List Placed). AllByRecursion (λ y. nat_cmp m y.place.number ≡ Less) (numbered l)) (sym p) tt
placed_above packets m n offset (Whole item ∷ parts) [] less p = absurd p
placed_above packets m n offset (Whole item ∷ parts) (x ∷ messages) less p =
    (number_above m n item packets offset x less p.0, placed_above packets m (n + 1) (offset + item.size) parts messages (omega (arith, less)) p.1)
placed_above packets m n offset (PassedOver front fault by size ∷ parts) messages less p = placed_above packets m (n + 1) (offset + size) parts messages (omega (arith, less)) p

pub placed_rise : (packets : Option Packets) (n offset : ℕ) (parts : List Part) (messages : List Placed) → ArePlaced packets n offset parts messages → AreRising (numbered messages)
unfolding IsStrictlySortedBy
placed_rise packets n offset [] messages p = subst (λ (l : List Placed). IsStrictlySortedBy (λ a b. nat_cmp a.place.number b.place.number) (numbered l)) (sym p) tt
placed_rise packets n offset (Whole item ∷ parts) [] p = absurd p
placed_rise packets n offset (Whole item ∷ parts) (x ∷ messages) p = (
  subst (λ (k : ℕ). AllByRecursion (λ y. nat_cmp k y.place.number ≡ Less) (numbered messages)) (sym p.0.number_is) (placed_above packets n (n + 1) (offset + item.size) parts messages (omega arith) p.1),
  placed_rise packets (n + 1) (offset + item.size) parts messages p.1,
)
placed_rise packets n offset (PassedOver front fault by size ∷ parts) messages p = placed_rise packets (n + 1) (offset + size) parts messages p

-- and so do they with names
named_above : (n : ℕ) (os : NameState) (items : List Placed) → AllByRecursion (λ y. nat_cmp n y.place.number ≡ Less) (numbered items) → AllByRecursion (λ y. nat_cmp n y.place.number ≡ Less) (named os items)
named_above n os [] all = tt
named_above n os (m ∷ items) all = (all.0, named_above n (names_after os m.item.message) items all.1)

named_rise : (os : NameState) (items : List Placed) → AreRising (numbered items) → AreRising (named os items)
unfolding IsStrictlySortedBy
named_rise os [] up = tt
named_rise os (m ∷ items) up = let now = names_after os m.item.message in (named_above m.place.number now items up.0, named_rise now items up.1)

-- ---- one message

module _ (s : CallsState) (order : Order) (m : MessageTree) (place : MessagePlace) (size : ℕ) where
  abbrev pub x : Numbered
  x = named_at place (names_after s.names m) m

  abbrev pub Rendered : (P : CallsState → List ℕ → Type 0) → Type 0
  Rendered P = (t : CallsState) × (text : List ℕ) × MakesCalls s (placed_at place order m size ∷ []) text t × P t text

  pub lists_one : (P : CallsState → List ℕ → Type 0) (rows : List Row) → ListsAfter s.before x rows → P (calls_after s (placed_at place order m size ∷ [])) (rows_text s.wanted rows) → Rendered P
  lists_one P rows are p = (calls_after s (placed_at place order m size ∷ []), rows_text s.wanted rows, record { rows = rows; are = (rows, [], are, refl, sym (append-nil rows)); text_is = refl; after_is = refl }, p)

  -- something is listed then
  pub some_of_one : AreRising (s.before ++ x ∷ []) → Rendered (λ t text. Unit {0})
  some_of_one up = let some = some_after s.before (front_rises s.before (x ∷ []) up) x in lists_one (λ t text. Unit {0}) some.0 some.1 tt

-- ---- the run

module _ (wanted : Wanted) where
  pub starts : (a : CallRenderer) → wanted ≡ a.wanted → state_of a.names ≡ nothing_known → a.timed ≡ false → Keeps front wanted [] a.list → ListsAt a (first_calls wanted)
  unfolding IsStrictlySortedBy
  starts a own names timed keeps = record { wanted_is = own; names_are = sym names; timed_is = sym timed; keeps = keeps; rising = tt }

  pub follow : (packets : Option Packets) (parts : List Part) (items : List Placed) → ArePlaced packets 1 0 parts items → FollowRising (first_calls wanted) items
  follow packets parts items placed = named_rise nothing_known items (placed_rise packets 1 0 parts items placed)

  -- the rows of messages, and of those that wait after them, and the note
  pub rows_all : (items : List Placed) (t : CallsState) (text last note : List ℕ) → MakesCalls (first_calls wanted) items text t → EndsCalls t last note
      → (rows : List Row) × AreListed [] (all_named items) rows × (text ++ last ≡ rows_text wanted rows) × IsNote (lack_times wanted items) (all_named items) note
  rows_all items t text last note h e =
      let k : EndsCalls (calls_after (first_calls wanted) items) last note = subst (λ (x : CallsState). EndsCalls x last note) h.after_is e in
      (h.rows ++ k.0.0, listed_end [] (all_named items) h.rows k.0.0 h.are k.0.1, (λ i. h.text_is i ++ k.0.2 i) ∙ sym (lines_both wanted h.rows k.0.0), k.1)
