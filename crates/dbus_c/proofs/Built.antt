-- What is built of a draft, and why nothing is.
use Rattle.std.proofs.Common.{◌≡◌, ◌⊎◌, ℕ, ◌<◌, ◌≤◌, List, [], ◌++◌, length, drop, Option, Some, None, inl, inr, refl, sym, ap, subst, ◌∙◌, arith}
use Rattle.std.specs.Borrow.{Bor}
use Rattle.std.specs.Option.{MatchOption}
use Rattle.std.proofs.lemmas.Bool.{cases_lt}
use Rattle.dbus_value_model.specs.declared.fault.Reason.{Reason}
use Rattle.dbus_value_model.specs.declared.fault.Reason.TheVariants.{ByteOrder, Overrun}
use Rattle.dbus_value_model.specs.declared.limits.Limits.{Limits}
use Rattle.dbus_value_model.specs.declared.order.Order.{Order}
use Rattle.dbus_message_model.specs.Messages.{FieldTree, IsMessage}
use Rattle.dbus_validate.specs.declared.validating.Validated.{Validated}
use Rattle.dbus_c_build.specs.Drafts.{HasParts, AreKept, IsKept}
use Rattle.dbus_c_build.specs.Building.{IsBuilt, IsRefusal, MakeNone}
use Rattle.dbus_c_build.specs.declared.given.Given.{Given}
use Rattle.dbus_c_build.specs.declared.draft.Draft.{Draft}
use Rattle.dbus_c_build.specs.declared.draft_fault.DraftFault.{DraftFault}
use Rattle.dbus_c_build.specs.declared.draft_fault.DraftFault.TheVariants as refusals
use Rattle.dbus_c_build.proofs.OnlyMessage.{one_order}
use Rattle.dbus_c.specs.Building.{AreNoParts, Builds, FieldsOf, Keeps, KeepsOrder, Kept, Nothing, built, fields_kept, no_room, StandFor, StandForNone, text_given, refusal_told, field_told}
use Rattle.dbus_c.specs.Building as builds
use Rattle.dbus_c.specs.Checking.{whole_told}
use Rattle.dbus_c.specs.declared.checking.Checked.{Checked}
use Rattle.dbus_c.specs.declared.drafts.WireDraft.{WireDraft}

-- ---- a draft stands for one header

abbrev pub made : Order → (kind flags serial reply_serial unix_fds : ℕ) → (path interface member error_name destination sender signature : Option (Bor (List ℕ))) → Bor (List ℕ) → Draft
made order kind flags serial reply_serial unix_fds path interface member error_name destination sender signature body = record {
  order = order;
  kind = kind;
  flags = flags;
  serial = serial;
  reply_serial = reply_serial;
  unix_fds = unix_fds;
  path = path;
  interface = interface;
  member = member;
  error_name = error_name;
  destination = destination;
  sender = sender;
  signature = signature;
  body = body;
}

abbrev pub stood_for : Order → WireDraft → Draft
stood_for order w = made order w.kind w.flags w.serial w.reply_serial w.unix_fds (text_given w.path) (text_given w.interface) (text_given w.member) (text_given w.error_name) (text_given w.destination) (text_given w.sender) (text_given w.signature) w.body

stands_for : (k : Kept) (w : WireDraft) (p : Draft) → StandFor k w p → p ≡ stood_for p.order w
stands_for k w p s =
    ap (λ (x : ℕ). made p.order x p.flags p.serial p.reply_serial p.unix_fds p.path p.interface p.member p.error_name p.destination p.sender p.signature p.body) s.numbers.0
    ∙ ap (λ (x : ℕ). made p.order w.kind x p.serial p.reply_serial p.unix_fds p.path p.interface p.member p.error_name p.destination p.sender p.signature p.body) s.numbers.1
    ∙ ap (λ (x : ℕ). made p.order w.kind w.flags x p.reply_serial p.unix_fds p.path p.interface p.member p.error_name p.destination p.sender p.signature p.body) s.numbers.2
    ∙ ap (λ (x : ℕ). made p.order w.kind w.flags w.serial x p.unix_fds p.path p.interface p.member p.error_name p.destination p.sender p.signature p.body) s.numbers.3
    ∙ ap (λ (x : ℕ). made p.order w.kind w.flags w.serial w.reply_serial x p.path p.interface p.member p.error_name p.destination p.sender p.signature p.body) s.numbers.4
    ∙ ap (λ (x : Option (Bor (List ℕ))). made p.order w.kind w.flags w.serial w.reply_serial w.unix_fds x p.interface p.member p.error_name p.destination p.sender p.signature p.body) s.path
    ∙ ap (λ (x : Option (Bor (List ℕ))). made p.order w.kind w.flags w.serial w.reply_serial w.unix_fds (text_given w.path) x p.member p.error_name p.destination p.sender p.signature p.body) s.interface
    ∙ ap (λ (x : Option (Bor (List ℕ))). made p.order w.kind w.flags w.serial w.reply_serial w.unix_fds (text_given w.path) (text_given w.interface) x p.error_name p.destination p.sender p.signature p.body) s.member
    ∙ ap (λ (x : Option (Bor (List ℕ))). made p.order w.kind w.flags w.serial w.reply_serial w.unix_fds (text_given w.path) (text_given w.interface) (text_given w.member) x p.destination p.sender p.signature p.body) s.error_name
    ∙ ap (λ (x : Option (Bor (List ℕ))). made p.order w.kind w.flags w.serial w.reply_serial w.unix_fds (text_given w.path) (text_given w.interface) (text_given w.member) (text_given w.error_name) x p.sender p.signature p.body) s.destination
    ∙ ap (λ (x : Option (Bor (List ℕ))). made p.order w.kind w.flags w.serial w.reply_serial w.unix_fds (text_given w.path) (text_given w.interface) (text_given w.member) (text_given w.error_name) (text_given w.destination) x p.signature p.body) s.sender
    ∙ ap (λ (x : Option (Bor (List ℕ))). made p.order w.kind w.flags w.serial w.reply_serial w.unix_fds (text_given w.path) (text_given w.interface) (text_given w.member) (text_given w.error_name) (text_given w.destination) (text_given w.sender) x p.body) s.signature
    ∙ ap (λ (x : Bor (List ℕ)). made p.order w.kind w.flags w.serial w.reply_serial w.unix_fds (text_given w.path) (text_given w.interface) (text_given w.member) (text_given w.error_name) (text_given w.destination) (text_given w.sender) (text_given w.signature) x) s.body

pub stands_once : (k : Kept) (w : WireDraft) (p q : Draft) → StandFor k w p → StandFor k w q → p ≡ q
stands_once k w p q s t = stands_for k w p s ∙ ap (λ (o : Order). stood_for o w) (one_order p.order q.order (sym s.order ∙ t.order)) ∙ sym (stands_for k w q t)

-- the fields of what is kept are those that are given
pub given_so : (g : Given) (k : Kept) (order : Order) → Keeps g k → KeepsOrder k order → AreKept g order (fields_kept k)
given_so g Nothing order keeps same =
    let none : List FieldTree = [] in
    subst (λ (o : Option Validated). MatchOption o (none ≡ []) (λ j. IsKept g.limits g.bytes.now order j none)) (sym keeps) refl
given_so g (FieldsOf own m) order keeps same =
    elim (g.kept) as (λ o. MatchOption o ⊥ (λ j. IsKept g.limits g.bytes.now own j m.fields) → MatchOption o (m.fields ≡ []) (λ j. IsKept g.limits g.bytes.now order j m.fields)) [
      | None ↦ λ none. absurd none
      | Some j ↦ λ is. subst (λ (o : Order). IsKept g.limits g.bytes.now o j m.fields) same is
    ] keeps

-- ---- nothing is built

module _ (limits : Limits) (k : Kept) (w : WireDraft) where
  no_parts_none : (reason : Reason) → AreNoParts k w reason → StandForNone limits k w
  no_parts_none ByteOrder none = λ p m stand has valid. none p.order stand.keeps stand.order
  no_parts_none Overrun (named, inl kind) = λ p m stand has valid. absurd (omega (arith, kind, stand.numbers.0, has.numbers.0, valid.kind_fits))
  no_parts_none Overrun (named, inr flags) = λ p m stand has valid. absurd (omega (arith, flags, stand.numbers.1, has.numbers.1, valid.flags))
  no_parts_none _ none = absurd none

  makes_none : (p : Draft) (why : DraftFault) → (why ≡ refusals.Memory → ⊥) → IsRefusal limits (fields_kept k) p why → MakeNone limits (fields_kept k) p
  makes_none p refusals.Memory other is = absurd (other refl)
  makes_none p (refusals.TooLong code) other is = is.0
  makes_none p (refusals.Format f code) other is = is.0

  stands_for_none : (p : Draft) → StandFor k w p → MakeNone limits (fields_kept k) p → StandForNone limits k w
  stands_for_none p stand none = λ q m other has valid.
      let P : Draft → Type 0 = λ x. HasParts (fields_kept k) x m → IsMessage limits x.order m → ⊥ in
      subst P (stands_once k w p q stand other) (none m) has valid

  module _ (answer : ℕ) (told : Checked) (old new : List ℕ) where
    pub no_parts_refused : (reason : Reason) → AreNoParts k w reason → answer ≡ 2 → told ≡ field_told reason 0 → new ≡ old → Builds limits k w answer told old new
    no_parts_refused reason none two told_is same = builds.refused (no_parts_none reason none) two (builds.no_parts reason none told_is) same

    pub parts_refused : (p : Draft) (why : DraftFault) → StandFor k w p → (why ≡ refusals.Memory → ⊥) → IsRefusal limits (fields_kept k) p why → answer ≡ 2 → told ≡ refusal_told why → new ≡ old → Builds limits k w answer told old new
    parts_refused p why stand other is two told_is same = builds.refused (stands_for_none p stand (makes_none p why other is)) two (builds.why p why stand other is told_is) same

    built_if : (p : Draft) (out : List ℕ) → StandFor k w p → IsBuilt limits (fields_kept k) p out → told ≡ whole_told p.order (length out)
        → (length out ≤ length old → (answer ≡ 0) × (new ≡ out ++ drop (length out) old)) → (length old < length out → (answer ≡ 4) × (new ≡ old))
        → ((length old < length out) ⊎ (length out ≤ length old)) → Builds limits k w answer told old new
    built_if p out stand is told_is written left (inr room) =
        let m = is.message in
        let room_is = subst (λ (l : List ℕ). length l ≤ length old) is.bytes room in
        let told_so = told_is ∙ ap (λ (l : List ℕ). whole_told p.order (length l)) is.bytes in
        built p m stand is.parts is.valid room_is (written room).0 told_so ((written room).1 ∙ ap (λ (l : List ℕ). l ++ drop (length l) old) is.bytes)
    built_if p out stand is told_is written left (inl few) =
        let m = is.message in
        let few_is = subst (λ (l : List ℕ). length old < length l) is.bytes few in
        let told_so = told_is ∙ ap (λ (l : List ℕ). whole_told p.order (length l)) is.bytes in
        no_room p m stand is.parts is.valid few_is (left few).0 told_so (left few).1

    pub message_built : (p : Draft) (out : List ℕ) → StandFor k w p → IsBuilt limits (fields_kept k) p out → told ≡ whole_told p.order (length out)
        → (length out ≤ length old → (answer ≡ 0) × (new ≡ out ++ drop (length out) old)) → (length old < length out → (answer ≡ 4) × (new ≡ old)) → Builds limits k w answer told old new
    message_built p out stand is told_is written left = built_if p out stand is told_is written left (cases_lt (length old) (length out))
