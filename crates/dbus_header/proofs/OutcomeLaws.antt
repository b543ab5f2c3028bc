-- The laws of the three outcomes under limits, and what readers of streams take from them.
use Rattle.std.proofs.Common.{◌≡◌, ℕ, ◌⊎◌, ◌<◌, ◌≤◌, List, [], ◌++◌, length, take, drop, refl, sym, ap, ◌∙◌, inl, inr, append_assoc, arith}
use Rattle.std.proofs.lemmas.List.{length-append, take_at, drop_at}
use Rattle.dbus_value_model.specs.declared.limits.Limits.{Limits}
use Rattle.dbus_value_model.specs.declared.order.Order.{Order}
use Rattle.dbus_value_model.specs.declared.order.Order.TheVariants.{Little, Big}
use Rattle.dbus_value_model.specs.declared.fault.Fault.{Fault}
use Rattle.dbus_value_model.specs.Reading.{Outcome, Done, Faulty, Partial}
use Rattle.dbus_message_model.specs.Messages.{MessageTree, message_bytes, IsMessage, IsValidMessage}
use Rattle.dbus_header.specs.HeaderReading.{fixed_header, message_read, byte_order}
use Rattle.dbus_header.specs.MessageItems.{message_items}
use Rattle.dbus_header.specs.MessageOutcomes.{IsWhole, IsRefused, IsPartial}
use Rattle.dbus_header.specs.OutcomeLaws.{OneMessage, OneLength, SomeOutcome, OneOutcome, OneWhole, OneFault, WholeForGood, RefusedForGood, WiderWhole, ReadsMessages, ReadsMessageFaults}
use Rattle.dbus_message_model.proofs.BothOrders.{valid_from, any_message_length}
use Rattle.dbus_message_model.proofs.Widening.{wider_message}
use Rattle.dbus_value_laws.proofs.Agreement.{Says, read_passes, read_refuses}
use Rattle.dbus_value_laws.proofs.ValueItemLaws.{agreed_fault, agreed_either, agreed_value}
use Rattle.dbus_header.proofs.MessageParts.{Agrees-message_items}
use Rattle.dbus_header.proofs.Whole.{message_passed}

-- ---- what reading says

pub reads_messages : ReadsMessages
reads_messages limits b order m n rest bytes = (
  λ e. (message_passed limits b (order, m) n rest).0 (read_passes (message_items limits) (message_read limits) (Agrees-message_items limits) 0 b bytes (order, m) n rest e),
  λ h. (Agrees-message_items limits).passes 0 b (order, m) n rest ((message_passed limits b (order, m) n rest).1 h),
)

pub reads_message_faults : ReadsMessageFaults
unfolding IsRefused
reads_message_faults limits b f bytes = (read_refuses (message_items limits) (message_read limits) (Agrees-message_items limits) 0 b bytes f, (Agrees-message_items limits).refuses 0 b f)

-- a message that bytes begin with is read
pub whole_reads : (limits : Limits) (b : List ℕ) (order : Order) (m : MessageTree) (n : ℕ) → IsWhole limits b order m n → (rest : List ℕ) × (message_read limits 0 b ≡ Done (order, m) n rest)
unfolding IsWhole
whole_reads limits b order m n w = (w.1.0, (Agrees-message_items limits).passes 0 b (order, m) n w.1.0 ((message_passed limits b (order, m) n w.1.0).1 (w.0, w.1.1, w.2)))

-- ---- the laws

only_message : (limits : Limits) (order other : Order) (m n : MessageTree) (x y : List ℕ) → IsMessage limits order m → IsMessage limits other n
    → message_bytes order m ++ x ≡ message_bytes other n ++ y → (order ≡ other) × (m ≡ n) × (x ≡ y)
only_message limits order other m n x y a b same =
    let both = agreed_value (message_items limits) (message_read limits) (Agrees-message_items limits) 0 (message_bytes order m ++ x) (order, m) (length (message_bytes order m)) x (other, n) (length (message_bytes other n)) y
    ((message_passed limits (message_bytes order m ++ x) (order, m) (length (message_bytes order m)) x).1 (a, refl, refl))
    ((message_passed limits (message_bytes order m ++ x) (other, n) (length (message_bytes other n)) y).1 (b, same, refl)) in
    (ap (λ (p : Order × MessageTree). p.0) both.0, ap (λ (p : Order × MessageTree). p.1) both.0, both.2)

pub one_message : OneMessage
one_message limits order other m n x y a b same = only_message limits order other m n x y (a order) (b other) same

pub one_length : OneLength
one_length m = any_message_length Little Big m

outcome_by : (limits : Limits) (b : List ℕ) (read : Outcome (Order × MessageTree)) → message_read limits 0 b ≡ read → Says (message_items limits) 0 b read
    → ((order : Order) × (m : MessageTree) × (n : ℕ) × IsWhole limits b order m n) ⊎ (((f : Fault) × IsRefused limits b f) ⊎ IsPartial limits b)
unfolding IsWhole IsRefused IsPartial
outcome_by limits b (Done y n r) e passed = let w = (message_passed limits b y n r).0 passed in inl (y.0, y.1, n, (w.0, (r, w.1), w.2))
outcome_by limits b (Faulty f) e refused = inr (inl (f, refused))
outcome_by limits b Partial e none = inr (inr (
  λ order m n w. let d = (whole_reads limits b order m n w).1 in cc,
  λ f refused. let d : message_read limits 0 b ≡ Faulty f = (Agrees-message_items limits).refuses 0 b f refused in cc,
))

pub some_outcome : SomeOutcome
some_outcome limits b bytes = outcome_by limits b (message_read limits 0 b) refl ((Agrees-message_items limits).says 0 b bytes)

-- what is whole is not refused
pub not_both : (limits : Limits) (b : List ℕ) (order : Order) (m : MessageTree) (n : ℕ) (f : Fault) → IsWhole limits b order m n → IsRefused limits b f → ⊥
unfolding IsWhole IsRefused
not_both limits b order m n f w refused = agreed_either (message_items limits) (message_read limits) (Agrees-message_items limits) 0 b (order, m) n w.1.0 f ((message_passed limits b (order, m) n w.1.0).1 (w.0, w.1.1, w.2)) refused

pub one_outcome : OneOutcome
unfolding IsWhole IsRefused IsPartial
one_outcome limits b = (λ order m n f w r. not_both limits b order m n f w r, λ order m n w p. p.0 order m n w, λ f r p. p.1 f r)

pub one_whole : OneWhole
unfolding IsWhole
one_whole limits b order other m n i j v w =
    let both = only_message limits order other m n v.1.0 w.1.0 v.0 w.0 (sym v.1.1 ∙ w.1.1) in
    (both.0, both.1, v.2 ∙ ap (λ (o : Order). length (message_bytes o m)) both.0 ∙ ap (λ (u : MessageTree). length (message_bytes other u)) both.1 ∙ sym w.2)

pub one_fault : OneFault
unfolding IsRefused
one_fault limits b f g p q = agreed_fault (message_items limits) (message_read limits) (Agrees-message_items limits) 0 b f g p q

pub whole_for_good : WholeForGood
unfolding IsWhole
whole_for_good limits b c order m n w = (w.0, (w.1.0 ++ c, ap (λ (t : List ℕ). t ++ c) w.1.1 ∙ append_assoc (message_bytes order m) w.1.0 c), w.2)

pub refused_for_good : RefusedForGood
unfolding IsRefused
refused_for_good limits b c f h = (Agrees-message_items limits).refuses_more c 0 b f h

pub wider_whole : WiderWhole
unfolding IsWhole
wider_whole limits wider b order m n le w = (wider_message limits wider order m le w.0, w.1, w.2)

-- a message has bytes, and they are there
pub whole_inside : (limits : Limits) (b : List ℕ) (order : Order) (m : MessageTree) (n : ℕ) → IsWhole limits b order m n → (0 < n) × (n ≤ length b)
unfolding IsWhole
whole_inside limits b order m n w =
    let all = ap length w.1.1 ∙ length-append (message_bytes order m) w.1.0 in
    (rw w.2 (omega arith), omega (arith, all, w.2))

nothing_read : (limits : Limits) → message_read limits 0 [] ≡ Partial
unfolding message_read fixed_header byte_order
nothing_read limits = refl

-- where there are no bytes, more are wanted
pub nothing_partial : (limits : Limits) → IsPartial limits []
unfolding IsWhole IsRefused IsPartial
nothing_partial limits = (
  λ order m n w. let none : List ℕ = [] in let e : none ≡ message_bytes order m ++ w.1.0 = w.1.1 in absurd cc,
  λ f refused. let e : message_read limits 0 [] ≡ Faulty f = (Agrees-message_items limits).refuses 0 [] f refused in let d = sym (nothing_read limits) ∙ e in absurd cc,
)

-- the first n bytes are the message's, and the others follow
pub whole_bytes : (limits : Limits) (b : List ℕ) (order : Order) (m : MessageTree) (n : ℕ) → IsWhole limits b order m n → (take n b ≡ message_bytes order m) × (n ≡ length (message_bytes order m)) × (b ≡ message_bytes order m ++ drop n b)
unfolding IsWhole
whole_bytes limits b order m n w =
    let front : take n b ≡ message_bytes order m = ap (take n) w.1.1 ∙ take_at (message_bytes order m) w.1.0 n (sym w.2) in
    let suffix : drop n b ≡ w.1.0 = ap (drop n) w.1.1 ∙ drop_at (message_bytes order m) w.1.0 n (sym w.2) in
    (front, w.2, w.1.1 ∙ ap (λ (t : List ℕ). message_bytes order m ++ t) (sym suffix))

-- a message that bytes begin with is valid
pub whole_valid : (limits : Limits) (b : List ℕ) (order : Order) (m : MessageTree) (n : ℕ) → IsWhole limits b order m n → IsValidMessage limits m
unfolding IsWhole
whole_valid limits b order m n w = valid_from limits order m w.0

-- a message's own bytes begin with it
pub valid_whole : (limits : Limits) (order : Order) (m : MessageTree) (rest : List ℕ) → IsValidMessage limits m → IsWhole limits (message_bytes order m ++ rest) order m (length (message_bytes order m))
unfolding IsWhole
valid_whole limits order m rest valid = (valid order, (rest, refl), refl)
