-- What the code sees of a message.
use Rattle.std.proofs.Common.{◌≡◌, ◌≢◌, List, length, ℕ, ◌++◌, false, bit_and, ◌==◌, if◌then◌else◌, codes, decimal, subst, Option, None, Some, MatchOption, option_map, sym, ap, ◌∙◌, arith}
use Rattle.std.specs.Borrow.{Bor}
use Rattle.std.specs.Str.{IsAscii}
use Rattle.std.proofs.lemmas.Bool.Decides.{nat_tests}
use Rattle.dbus_texts.specs.Types.{TextCode, sigs}
use Rattle.dbus_texts.proofs.TypeTexts.{sigs_ascii}
use Rattle.dbus_value_model.specs.Values.{ValueTree, TextValue, types_of}
use Rattle.dbus_value_model.specs.declared.limits.Limits.{Limits}
use Rattle.dbus_value_model.specs.declared.order.Order.{Order}
use Rattle.dbus_message_model.specs.Messages.{MessageTree, body_signature, message_bytes}
use Rattle.dbus_match.specs.Matching.{text_of}
use Rattle.dbus_header.proofs.OutcomeLaws.{whole_bytes, whole_valid}
use Rattle.dbus_header.specs.MessageOutcomes.{IsWhole}
use Rattle.dbus_validate.specs.Validating.{IsValidated}
use Rattle.dbus_validate.specs.declared.validating.Validated.{Validated}
use Rattle.dbus_validate.proofs.WholeParts.{same_message}
use Rattle.dbus_calls.specs.Events.{wants_reply}
use Rattle.dbus_list.specs.Lines.{about_kind, answered_part, call_part, error_part, member_of}
use Rattle.dbus_list.specs.Pairs.{ToldCall}
use Rattle.dbus_list.proofs.CutTexts.{passed}
use Rattle.dbus_view.specs.Views.{IsViewOf, ViewState, Views}
use Rattle.std.proofs.lemmas.List.{take_all}

-- the text that a view gives of a field
pub text_seen : (seen : Option (Bor (List ℕ))) (kind : TextCode) (value : Option ValueTree) → MatchOption seen (value ≡ None) (λ s. value ≡ Some (TextValue kind s.now)) → option_map (λ t. t.now) seen ≡ text_of value
text_seen None kind value is = sym (ap text_of is)
text_seen (Some s) kind value is = sym (ap text_of is)

-- the bytes of a view are those of its message
pub bytes_are : (v : ViewState) (order : Order) (m : MessageTree) → Views v order m → v.bytes ≡ message_bytes order m
bytes_are v order m views = sym (take_all (length v.bytes) v.bytes (omega arith)) ∙ (whole_bytes v.limits v.bytes order m (length v.bytes) views).0

-- a view is of the message that was validated
pub views_it : (limits : Limits) (bytes : List ℕ) (v : ViewState) (order : Order) (m : MessageTree) (size : ℕ) → IsViewOf limits bytes v → size ≡ length bytes → IsWhole limits bytes order m size → Views v order m
views_it limits bytes v order m size is all whole =
    subst (λ (l : Limits). IsWhole l v.bytes order m (length v.bytes)) (sym is.0)
    (subst (λ (b : List ℕ). IsWhole limits b order m (length b)) (sym is.1) (subst (λ (n : ℕ). IsWhole limits bytes order m n) all whole))

-- the types of its values
module _ (limits : Limits) (bytes : List ℕ) (j : Validated) (is : IsValidated limits bytes j) (types : List ℕ) (typed : types ≡ body_signature is.message.fields) where
  pub types_are : (m : MessageTree) → IsWhole limits bytes j.order m j.length → types ≡ sigs (types_of m.body)
  types_are m whole = typed ∙ ap (λ (n : MessageTree). body_signature n.fields) (same_message limits bytes j is m whole) ∙ sym (whole_valid limits bytes j.order m j.length whole j.order).signature

  pub types_ascii : IsAscii types
  types_ascii = subst IsAscii (sym (types_are is.message is.whole)) (sigs_ascii (types_of is.message.body))

-- a call wants no reply
not_zero : (n : ℕ) → n ≢ 0 → (n == 0) ≡ false
not_zero n some = grind (arith, nat_tests)

pub unwanted : (flags : ℕ) (m : MessageTree) → flags ≡ m.flags → bit_and flags 1 ≢ 0 → wants_reply m ≡ false
unwanted flags m same some = ap (λ (n : ℕ). bit_and n 1 == 0) (sym same) ∙ not_zero (bit_and flags 1) some

-- a message of a type without a name
other_kind : (kind code : ℕ) → kind ≢ code → (kind == code) ≡ false
other_kind kind code other = grind (arith, nat_tests)

either : {A : Type 0} (kind code : ℕ) (x y : A) → kind ≢ code → (if kind == code then x else y) ≡ y
either kind code x y other = passed (kind == code) x y (other_kind kind code other)

pub other_about : (kind line : ℕ) (answered : Option ToldCall) (m : MessageTree) → kind ≢ 1 → kind ≢ 2 → kind ≢ 3 → kind ≢ 4 → codes "type " ++ (decimal kind ++ (codes " " ++ member_of line m)) ≡ about_kind kind line answered m
other_about kind line answered m call reply error signal =
    let last = codes "type " ++ (decimal kind ++ (codes " " ++ member_of line m)) in
    sym (either kind 1 (call_part line m) _ call ∙ (either kind 2 (codes "reply to " ++ answered_part answered m) _ reply
    ∙ (either kind 3 (codes "error " ++ error_part line answered m) _ error ∙ either kind 4 (codes "signal " ++ member_of line m) last signal)))
