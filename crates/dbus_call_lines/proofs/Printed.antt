-- Lines in words are printed.
use Rattle.std.proofs.Common.{◌≡◌, ℕ, ◌+◌, ◌-◌, ◌/◌, ◌<◌, ◌^◌, ◌%◌, nat_lt, List, [], ◌∷◌, ◌++◌, Bool, true, false, Option, None, Some, IfSome, ◌&&◌, ◌==◌, if◌then◌else◌, ⊎_elim, IsTrue, map, codes, decimal, refl, sym, subst, arith, append_assoc}
use Rattle.std.specs.Int.{IsInRange}
use Rattle.std.specs.List.{AllByRecursion, Contains}
use Rattle.std.proofs.lemmas.Bool.{and_parts}
use Rattle.std.proofs.lemmas.Bool.Decides.{nat_tests}
use Rattle.std.proofs.lemmas.Fmt.{decimal_by_steps}
use Rattle.dbus_texts.specs.Characters.{dot}
use Rattle.dbus_texts.specs.Kinds.{IsBusName, IsElement, IsInterface, IsJoined, IsKind, IsMember, each_after, is_dashed, is_dashed_start, is_word, is_word_start}
use Rattle.dbus_texts.specs.declared.text_kind.TextKind.{TextKind}
use Rattle.dbus_texts.specs.declared.text_kind.TextKind.TheVariants as kinds
use Rattle.dbus_value_model.specs.Values.{ValueTree}
use Rattle.dbus_value_model.specs.WantedTexts.{Of}
use Rattle.dbus_value_model.specs.declared.limits.Limits.{Limits}
use Rattle.dbus_value_model.specs.declared.order.Order.{Order}
use Rattle.dbus_message_model.specs.KnownFields.{field_value}
use Rattle.dbus_message_model.specs.Messages.{IsMessage, MessageTree, Name, Suits}
use Rattle.dbus_message_model.specs.declared.field_code.TheConstants as field
use Rattle.dbus_message_model.specs.declared.message_type.TheConstants as message
use Rattle.dbus_message_model.proofs.KnownValues.{suits_of}
use Rattle.dbus_match.specs.Matching.{text_of}
use Rattle.dbus_calls.specs.Events.{text_at}
use Rattle.dbus_call_lines.specs.CallLines.{ArePrinted, IsPrintedLine, call_text, connection_text, line, member_text, outcome_text, took_text}
use Rattle.dbus_call_lines.specs.Durations.{between, milliseconds_text, sign, three_digits, time_between}
use Rattle.dbus_call_lines.specs.Listing.{AreListed, AreNames, AreWithin, IsPlaceWithin, Numbered, OnlyPrinted, Row, is_unwanted, own_row, row}
use Rattle.dbus_call_lines.specs.Names.{Known}
use Rattle.dbus_call_lines.specs.Outcomes.{Outcome, or_dash, outcome_by}
use Rattle.dbus_call_lines.specs.Outcomes.Outcome.{Reply, Error, Unwanted, Open, Left, Replaced}
use Rattle.dbus_call_lines.specs.declared.elapsed.Elapsed.{Elapsed}
use Rattle.dbus_call_lines.specs.declared.place.Place.{Place}
use Rattle.dbus_call_lines.specs.declared.form.Form.TheVariants.{Text}
use Rattle.dbus_call_lines.proofs.Rows.{all_at, all_both, here, open_among, there}

printed_both : (a b : List ℕ) → ArePrinted a → ArePrinted b → ArePrinted (a ++ b)
printed_both a b p q = all_both (IsInRange 32 126) a b p q

-- a text that is known
abbrev is_printed : ℕ → Bool
is_printed b = nat_lt 31 b && nat_lt b 127

abbrev all_printed : List ℕ → Bool
all_printed [] = true
all_printed (b ∷ w) = is_printed b && all_printed w

one_printed : (b : ℕ) → is_printed b ≡ true → IsInRange 32 126 b
one_printed b is = grind (arith, nat_tests)

known_printed : (w : List ℕ) → all_printed w ≡ true → ArePrinted w
known_printed [] is = tt
known_printed (b ∷ w) is = let parts = and_parts (is_printed b) (all_printed w) is in (one_printed b parts.0, known_printed w parts.1)

-- ---- names

in_word : (b : ℕ) → IsTrue (is_word b) → IsInRange 32 126 b
in_word b is = grind (arith, nat_tests)

starts_word : (b : ℕ) → IsTrue (is_word_start b) → IsInRange 32 126 b
starts_word b is = grind (arith, nat_tests)

in_dashed : (b : ℕ) → IsTrue (is_dashed b) → IsInRange 32 126 b
in_dashed b is = grind (arith, nat_tests)

starts_dashed : (b : ℕ) → IsTrue (is_dashed_start b) → IsInRange 32 126 b
starts_dashed b is = grind (arith, nat_tests)

module _ (start more : ℕ → Bool) (starts : (b : ℕ) → IsTrue (start b) → IsInRange 32 126 b) (goes_on : (b : ℕ) → IsTrue (more b) → IsInRange 32 126 b) where
  rest_printed : (w : List ℕ) → AllByRecursion (λ c. IsTrue (more c)) w → ArePrinted w
  rest_printed [] h = tt
  rest_printed (b ∷ w) h = (goes_on b h.0, rest_printed w h.1)

  element_printed : (w : List ℕ) → IsElement start more w → ArePrinted w
  element_printed [] h = absurd h
  element_printed (b ∷ w) h = (starts b h.0, rest_printed w h.1)

  after_printed : (es : List (List ℕ)) → AllByRecursion (IsElement start more) es → ArePrinted (each_after dot es)
  after_printed [] h = tt
  after_printed (e ∷ es) h = ((omega arith, omega arith), printed_both e (each_after dot es) (element_printed e h.0) (after_printed es h.1))

  joined_printed : (w : List ℕ) → IsJoined start more w → ArePrinted w
  joined_printed w h = subst ArePrinted (sym h.4) (printed_both h.0 (each_after dot (h.1 ∷ h.2)) (element_printed h.0 h.3.0) (after_printed (h.1 ∷ h.2) h.3.1))

member_printed : (w : List ℕ) → IsMember w → ArePrinted w
member_printed w h = element_printed is_word_start is_word starts_word in_word w h

interface_printed : (w : List ℕ) → IsInterface w → ArePrinted w
interface_printed w h = joined_printed is_word_start is_word starts_word in_word w h

pub bus_printed : (w : List ℕ) → IsBusName w → ArePrinted w
bus_printed w h = ⊎_elim
    (λ unique. subst ArePrinted (sym unique.2) ((omega arith, omega arith), joined_printed is_dashed is_dashed in_dashed in_dashed unique.0 unique.1))
    (λ known. joined_printed is_dashed_start is_dashed starts_dashed in_dashed w known) h

-- ---- fields

-- a field whose text is wanted to be of a kind
module _ (k : TextKind) (printed : (t : List ℕ) → IsKind k t → ArePrinted t) where
  text_printed : (v : ValueTree) → Suits (Name (Of k)) v → ArePrinted (or_dash (text_of (Some v)))
  text_printed v s = subst (λ (z : ValueTree). ArePrinted (or_dash (text_of (Some z)))) (sym s.1) (printed s.0 s.2)

  field_printed : (value : Option ValueTree) → ((v : ValueTree) → value ≡ Some v → Suits (Name (Of k)) v) → ArePrinted (or_dash (text_of value))
  field_printed None suits = ((omega arith, omega arith), tt)
  field_printed (Some v) suits = text_printed v (suits v refl)

behind_printed : (interface name : Option (List ℕ)) → ArePrinted (or_dash interface) → ArePrinted (or_dash name) → ArePrinted (member_text interface name)
behind_printed None name p q = q
behind_printed (Some interface) name p q = printed_both interface (codes "." ++ or_dash name) p ((omega arith, omega arith), q)

connection_printed : (name known : Option (List ℕ)) → ArePrinted (or_dash name) → IfSome known (IsKind kinds.BusName) → ArePrinted (connection_text name known)
connection_printed name None p is = p
connection_printed name (Some known) p is = printed_both (or_dash name) _ p ((omega arith, omega arith), printed_both known (codes ")") (bus_printed known is.0) (known_printed (codes ")") refl))

decimal_printed : (n : ℕ) → n < 2 ^ 64 → ArePrinted (decimal n)
decimal_printed n fits = decimal_by_steps (λ _ ds. ArePrinted ds) (λ m small. ((omega (arith, small), omega (arith, small)), tt))
    (λ m ds big h. printed_both ds ((48 + m % 10) ∷ []) h ((omega arith, omega arith), tt)) n fits

module _ (limits : Limits) (order : Order) (m : MessageTree) (is : IsMessage limits order m) where
  pub sender_printed : ArePrinted (or_dash (text_at field.SENDER m))
  sender_printed = field_printed kinds.BusName (λ t h. bus_printed t h.0) (field_value field.SENDER m.fields) (suits_of field.SENDER [] m.fields is.fields)

  pub destination_printed : ArePrinted (or_dash (text_at field.DESTINATION m))
  destination_printed = field_printed kinds.BusName (λ t h. bus_printed t h.0) (field_value field.DESTINATION m.fields) (suits_of field.DESTINATION [] m.fields is.fields)

  pub interface_is_printed : ArePrinted (or_dash (text_at field.INTERFACE m))
  interface_is_printed = field_printed kinds.Interface (λ t h. interface_printed t h.0) (field_value field.INTERFACE m.fields) (suits_of field.INTERFACE [] m.fields is.fields)

  pub member_is_printed : ArePrinted (or_dash (text_at field.MEMBER m))
  member_is_printed = field_printed kinds.Member (λ t h. member_printed t h.0) (field_value field.MEMBER m.fields) (suits_of field.MEMBER [] m.fields is.fields)

  pub error_printed : ArePrinted (or_dash (text_at field.ERROR_NAME m))
  error_printed = field_printed kinds.ErrorName (λ t h. interface_printed t h.0) (field_value field.ERROR_NAME m.fields) (suits_of field.ERROR_NAME [] m.fields is.fields)

  call_printed : (number : ℕ) → number < 2 ^ 64 → (names : Known) → AreNames names → ArePrinted (call_text number names m)
  call_printed number fits names are =
      let name : ArePrinted (member_text (text_at field.INTERFACE m) (text_at field.MEMBER m)) = behind_printed (text_at field.INTERFACE m) (text_at field.MEMBER m) interface_is_printed member_is_printed in
      let space : ArePrinted (codes " ") = known_printed (codes " ") refl in
      printed_both (decimal number) _ (decimal_printed number fits) (printed_both (codes " ") _ space (printed_both (connection_text (text_at field.SENDER m) names.sender) _ (connection_printed (text_at field.SENDER m) names.sender sender_printed are.0)
      (printed_both (codes " > ") _ (known_printed (codes " > ") refl) (printed_both (connection_text (text_at field.DESTINATION m) names.destination) _ (connection_printed (text_at field.DESTINATION m) names.destination destination_printed are.1) (printed_both (codes " ") _ space name)))))

-- ---- how long a call took

digit_printed : (n : ℕ) → IsInRange 32 126 (48 + n % 10)
digit_printed n = (omega arith, omega arith)

three_printed : (n : ℕ) → ArePrinted (three_digits n)
three_printed n = (digit_printed (n / 100), (digit_printed (n / 10), (digit_printed (n / 1), tt)))

sign_printed : (b : Bool) → ArePrinted (sign b)
sign_printed true = known_printed (codes "-") refl
sign_printed false = tt

fewer : (n : ℕ) → n < 2 ^ 64 → n / 1000000 < 2 ^ 64
fewer n small = omega (arith, small)

milliseconds_printed : (e : Elapsed) → e.nanoseconds < 2 ^ 64 → ArePrinted (milliseconds_text e)
milliseconds_printed e small = printed_both (sign e.backwards) _ (sign_printed e.backwards)
    (printed_both (decimal (e.nanoseconds / 1000000)) _ (decimal_printed (e.nanoseconds / 1000000) (fewer e.nanoseconds small))
    (printed_both (codes ".") (three_digits (e.nanoseconds / 1000)) (known_printed (codes ".") refl) (three_printed (e.nanoseconds / 1000))))

-- a time of at most 64 bits, if it is known
abbrev IsSmall : Option ℕ → Type 0
IsSmall time = IfSome time (λ t. t < 2 ^ 64)

less : (a b : ℕ) → a < 2 ^ 64 → a - b < 2 ^ 64
less a b small = omega (arith, small)

either_small : (b : Bool) (from to : ℕ) → from < 2 ^ 64 → to < 2 ^ 64
    → (if b then (let e : Elapsed = record { backwards = true; nanoseconds = from - to } in e) else record { backwards = false; nanoseconds = to - from }).nanoseconds < 2 ^ 64
either_small true from to p q = less from to p
either_small false from to p q = less to from q

took_printed : (from to : Option ℕ) → IsSmall from → IsSmall to → ArePrinted (took_text (time_between from to))
took_printed (Some from) (Some to) p q = printed_both (codes " ") _ (known_printed (codes " ") refl)
    (printed_both (milliseconds_text (between from to)) (codes " ms") (milliseconds_printed (between from to) (either_small (nat_lt to from) from to p q)) (known_printed (codes " ms") refl))
took_printed (Some from) None p q = tt
took_printed None to p q = tt

-- ---- outcomes

-- of a call that was captured at any time, or at none that is known
abbrev OutcomePrinted : Outcome → Type 0
OutcomePrinted outcome = (sent : Option ℕ) → IsSmall sent → ArePrinted (outcome_text sent outcome)

reply_printed : (at : Place) → IsPlaceWithin at → OutcomePrinted (Reply at)
reply_printed at fits = λ sent small. printed_both (codes "reply #") _ (known_printed (codes "reply #") refl)
    (printed_both (decimal at.number) _ (decimal_printed at.number fits.0) (took_printed sent at.time small fits.1))

error_name_printed : (at : Place) (name : List ℕ) → IsPlaceWithin at → ArePrinted name → OutcomePrinted (Error at name)
error_name_printed at name fits p = λ sent small. printed_both (codes "error #") _ (known_printed (codes "error #") refl)
    (printed_both (decimal at.number) _ (decimal_printed at.number fits.0)
    (printed_both (took_text (time_between sent at.time)) (codes " " ++ name) (took_printed sent at.time small fits.1) ((omega arith, omega arith), p)))

by_printed : (b d e : Bool) (at : Place) (name : List ℕ) → IsPlaceWithin at → ArePrinted name → OutcomePrinted (if b then Reply at else if d then Error at name else if e then Replaced else Left)
by_printed true d e at name fits p = reply_printed at fits
by_printed false true e at name fits p = error_name_printed at name fits p
by_printed false false true at name fits p = λ sent small. known_printed (codes "no reply: its serial was used again") refl
by_printed false false false at name fits p = λ sent small. known_printed (codes "no reply: the caller left") refl

-- ---- lines

module _ (limits : Limits) where
  abbrev IsWithin : Numbered → Type 0
  IsWithin x = (order : Order) × IsMessage limits order x.message × IsPlaceWithin x.place × AreNames x.names

  outcome_printed : (x : Numbered) → IsWithin x → OutcomePrinted (outcome_by x.place x.message)
  outcome_printed x h = by_printed (x.message.kind == message.METHOD_RETURN) (x.message.kind == message.ERROR) (x.message.kind == message.METHOD_CALL) x.place
      (or_dash (text_at field.ERROR_NAME x.message)) h.2 (error_printed limits h.0 x.message h.1)

  abbrev IsPrinted : Row → Type 0
  IsPrinted r = IsPrintedLine (line Text r.call.place r.call.names r.call.message r.outcome)

  row_printed : (outcome : Outcome) → OutcomePrinted outcome → (call : Numbered) → IsWithin call → IsPrinted (row outcome call)
  row_printed outcome p call h =
      let front = call_text call.place.number call.names call.message in
      let rest = codes " " ++ outcome_text call.place.time outcome in
      (front ++ rest, printed_both front rest (call_printed limits h.0 call.message h.1 call.place.number h.2.0 call.names h.3) ((omega arith, omega arith), p call.place.time h.2.1), sym (append_assoc front rest (codes "\n")))

  rows_printed : (outcome : Outcome) → OutcomePrinted outcome → (calls : List Numbered) → ((call : Numbered) → Contains calls call → IsWithin call) → AllByRecursion IsPrinted (map (row outcome) calls)
  rows_printed outcome p [] each = tt
  rows_printed outcome p (call ∷ calls) each = (row_printed outcome p call (each call (here call calls)), rows_printed outcome p calls (λ c h. each c (there call calls c h)))

  own_printed : (b : Bool) (x : Numbered) → IsWithin x → AllByRecursion IsPrinted (if b then row Unwanted x ∷ [] else [])
  own_printed true x h = (row_printed Unwanted (λ sent small. known_printed (codes "no reply wanted") refl) x h, tt)
  own_printed false x h = tt

  all_rows_printed : (before xs : List Numbered) (rows : List Row) → AreWithin limits before → AreWithin limits xs → AreListed before xs rows → AllByRecursion IsPrinted rows
  all_rows_printed before [] rows p q h = subst (λ (l : List Row). AllByRecursion IsPrinted l) (sym h.rows_are)
      (rows_printed Open (λ sent small. known_printed (codes "no reply") refl) h.calls (λ c k. all_at IsWithin before c p (open_among before c ((h.calls_are.all c).0 k))))
  all_rows_printed before (x ∷ xs) rows p q h =
      let after = h.2 in
      let ended = rows_printed (outcome_by x.place x.message) (outcome_printed x q.0) after.calls (λ c k. all_at IsWithin before c p (open_among before c ((after.calls_are.all c).0 k).0)) in
      let now = subst (λ (l : List Row). AllByRecursion IsPrinted l) (sym after.rows_are) (all_both IsPrinted (map (row (outcome_by x.place x.message)) after.calls) (own_row before x) ended (own_printed (is_unwanted x) x q.0)) in
      let more = all_rows_printed (before ++ x ∷ []) xs h.1 (all_both IsWithin before (x ∷ []) p (q.0, tt)) q.1 h.3 in
      subst (λ (l : List Row). AllByRecursion IsPrinted l) (sym h.4) (all_both IsPrinted h.0 h.1 now more)

pub only_printed : OnlyPrinted
only_printed limits xs rows within h = all_rows_printed limits [] xs rows tt within h
