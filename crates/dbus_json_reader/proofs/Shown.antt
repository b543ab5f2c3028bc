-- What an error shows, and the members that a message begins with.
use Rattle.std.proofs.Common.{◌≡◌, ℕ, List, ◌+◌, ◌<◌, ◌≤◌, ◌^◌, Option, Some, None, Result, Ok, Err, IsErrAnd, IfErr, refl, sym, subst, codes, arith}
use Rattle.json.specs.Find.{get}
use Rattle.json.specs.Json.{Json, Members, object}
use Rattle.dbus_value_model.specs.declared.order.Order.{Order}
use Rattle.dbus_json_reader.specs.JsonFaults.{IsOneOf, IsShown, IsUnspelled}
use Rattle.dbus_json_reader.specs.JsonMessages.{SpellsOr}
use Rattle.dbus_json_reader.specs.JsonNames.{AreNamed, message_names}
use Rattle.dbus_json_reader.specs.JsonParts.{IsHead}
use Rattle.dbus_json_reader.specs.JsonRules.{HasHead, HaveFields, HasKind, HasOrder, IsHeadFault, IsMessageFault, IsToldAt, ValueShows, kind_reason, no_type, kind, later}
use Rattle.dbus_json_reader.specs.declared.reasons.JsonReason.{JsonReason}
use Rattle.dbus_json_reader.specs.declared.reasons.JsonReason.TheVariants as reason
use Rattle.dbus_json_reader.specs.declared.unread.Broken.{Broken}
use Rattle.dbus_json_reader.specs.declared.unread.Unread.{Unread}
use Rattle.dbus_json_reader.specs.declared.unread.Unread.TheVariants.{Unspelled}

pub err_is : {T : Type 0} (P : Unread → Type 0) (r : Result T Unread) (x : Unread) → IsErrAnd r (λ y. y ≡ x) → P x → IfErr r P
err_is P (Ok v) x h p = absurd h
err_is P (Err y) x h p = subst P (sym h) p

-- as much as an error shows of a value that another begins with
pub one_shown : (F : JsonReason → ℕ → Type 0) (why : Unread) (r : JsonReason) (n : ℕ) → IsShown why r (n + 0) → F r n → IsOneOf F why
one_shown F why r n h f = let sum : n + 0 ≡ n = omega arith in (r, n, subst (IsShown why r) sum h, f)

pub one_blamed : {T : Type 0} (F : JsonReason → ℕ → Type 0) (why : Unread) (b : Broken) (r : JsonReason) (n : ℕ) → ◌≡◌ {A = Result T Unread} (Err why) (Err (Unspelled b)) → (IsUnspelled why → IsShown why r (n + 0)) → F r n → IsOneOf F (Unspelled b)
one_blamed F why b r n e h f = let same : why ≡ Unspelled b = cc in subst (IsOneOf F) same (one_shown F why r n (h (b, same)) f)

pub one_of : (F G : JsonReason → ℕ → Type 0) (why : Unread) → ((r : JsonReason) (n : ℕ) → F r n → G r n) → IsOneOf F why → IsOneOf G why
one_of F G why f h = (h.0, h.1, h.2, f h.0 h.1 h.3)

pub shown_by : {T : Type 0} (F : JsonReason → ℕ → Type 0) (why : Unread) (b : Broken) → ◌≡◌ {A = Result T Unread} (Err why) (Err (Unspelled b)) → IsOneOf F why → IsOneOf F (Unspelled b)
shown_by F why b e h = let same : why ≡ Unspelled b = cc in subst (IsOneOf F) same h

-- a number that is told is so whatever is meant if none is
pub none_other : (default most : ℕ) (o : Option Json) → default ≤ most → ((n : ℕ) → n ≤ most → SpellsOr default n o → ⊥) → (n : ℕ) → n ≤ most → SpellsOr 0 n o → ⊥
none_other default most None few none n fits is = none default few refl
none_other default most (Some j) few none n fits is = none n fits is

some_other : (default n : ℕ) (o : Option Json) → SpellsOr default n o → (m : ℕ) × (m ≤ n) × SpellsOr 0 m o
some_other default n None is = (0, omega arith, refl)
some_other default n (Some j) is = (n, omega arith, is)

pub has_head : (number : ℕ) (o : Order) (k f s : ℕ) (j : Json) → k < 256 → f < 256 → s < 256 ^ 4 → IsHead number o k f s j → HasHead j
has_head number o k f s j a b d h =
    let r = some_other number s (get (codes "serial") j) h.serial_is in
    let low = r.1 in
    ((o, h.ordered), (h.type, h.told, k, a, h.kind_is), (f, omega (arith, b), h.flags_are), (r.0, omega (arith, low, d), r.2))

-- a rule that comes later may be the one
pub shown_later : {j : Json} {ms : Members} (b : Broken) → j ≡ object ms → AreNamed message_names ms → HasHead j → HaveFields ms → IsOneOf (IsMessageFault j) (Unspelled b)
shown_later {j} {ms} b is named begins fields =
    let fits = b.fits in
    (b.reason, b.at, (refl, omega (arith, fits)), later ms is named begins fields)

pub value_shows : (name : List ℕ) (reason_of : Json → JsonReason) (j value : Json) (why : Unread) (r : JsonReason) → r ≡ reason_of value → (at : ℕ) × IsToldAt name j value at × IsShown why r at → IsOneOf (ValueShows name reason_of j) why
value_shows name reason_of j value why r is h = (reason_of value, h.0, subst (λ (x : JsonReason). IsShown why x h.0) is h.2, (value, h.1, refl))

-- the member `type` is missing, or names no message type
pub kind_shown : (j : Json) (why : Unread) → HasOrder j → (HasKind j → ⊥) → (get (codes "type") j ≡ None → IsShown why reason.TypeMissing 0)
    → ((type : Json) → get (codes "type") j ≡ Some type → IsOneOf (ValueShows (codes "type") kind_reason j) why) → IsOneOf (IsHeadFault j) why
kind_shown j why ordered none missing shown = go (get (codes "type") j) refl
  where
    go : (o : Option Json) → get (codes "type") j ≡ o → IsOneOf (IsHeadFault j) why
    go None e = (reason.TypeMissing, 0, missing e, no_type ordered e refl refl)
    go (Some type) e = one_of (ValueShows (codes "type") kind_reason j) (IsHeadFault j) why (λ r n h. kind ordered none h) (shown type e)
