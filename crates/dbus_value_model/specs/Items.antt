-- Trusted by the headline.
-- The items that a message is read as: how each is passed, and which faults it shows. Every row of
-- the fault table that speaks of one item alone stands here; a row says which bytes are there, as
-- the prefix of all that are. D-Bus Specification, "Marshalling basic types", "Marshalling
-- containers"; docs/WIRE-FORMAT.md, "Faults".
use Rattle.std.specs.Prelude.{◌≡◌, ℕ, suc, ◌+◌, ◌<◌, ◌≤◌, ◌^◌, ◌⊎◌, List, [], ◌∷◌, ◌++◌, length, replicate, Option, Some, None}
use Rattle.dbus_texts.specs.Types.{TypeTree, sig, IsSingleType}
use Rattle.dbus_value_model.specs.WantedTexts.{WantedText, IsWanted, IsBreakOf, Of, Only}
use Rattle.dbus_value_model.specs.declared.order.Order.{Order}
use Rattle.dbus_value_model.specs.Bytes.{num, gap_to, pad}
use Rattle.dbus_value_model.specs.declared.fault.Fault.{Fault}
use Rattle.dbus_value_model.specs.declared.fault.Reason.{Reason}
use Rattle.dbus_value_model.specs.declared.fault.Reason.TheVariants as reasons
use Rattle.dbus_texts.specs.declared.text_kind.TextKind.TheVariants as kinds

abbrev pub fault : ℕ → Reason → Fault
fault p r = record { at = p; reason = r }

-- An item: from a place, and the bytes that are there from it on, it is passed with a value, the
-- place after it and the bytes from there on; or it shows a fault.
pub record Item (A : Type 0) : Type 1 where
  pub Passed : ℕ → List ℕ → A → ℕ → List ℕ → Type 0
  pub Refused : ℕ → List ℕ → Fault → Type 0

-- One item after another: the fault is that of the first that is not passed.
infixl 10 ◌>>=◌
infixl 10 ◌>>◌
abbrev pub ◌>>=◌ : {A B : Type 0} → Item A → (A → Item B) → Item B
◌>>=◌ {A} {B} first next = record {
  Passed = λ o s y q r. (x : A) × (p : ℕ) × (t : List ℕ) × first.Passed o s x p t × (next x).Passed p t y q r;
  Refused = λ o s f. first.Refused o s f ⊎ ((x : A) × (p : ℕ) × (t : List ℕ) × first.Passed o s x p t × (next x).Refused p t f);
}

abbrev pub ◌>>◌ : {A B : Type 0} → Item A → Item B → Item B
first >> next = first >>= λ x. next

-- no bytes, and a value
abbrev pub pure : {A : Type 0} → A → Item A
pure x = record { Passed = λ o s y q r. (y ≡ x) × (q ≡ o) × (r ≡ s); Refused = λ o s f. ⊥ }

-- no bytes, and a fault
abbrev pub refuse : {A : Type 0} → Reason → Item A
refuse why = record { Passed = λ o s y q r. ⊥; Refused = λ o s f. f ≡ fault o why }

-- no bytes, and a fault or none
abbrev pub validate : Option Reason → Item (Unit {0})
validate None = pure tt
validate (Some why) = refuse why

-- the end is that of the next n bytes
abbrev pub bounded : {A : Type 0} → ℕ → (ℕ → Item A) → Item A
bounded n item = record { Passed = λ o. (item (o + n)).Passed o; Refused = λ o. (item (o + n)).Refused o }

-- no bytes are left before the end
abbrev pub ends : ℕ → Item (Unit {0})
ends end = record {
  Passed = λ o s y q r. (o ≡ end) × (q ≡ o) × (r ≡ s);
  Refused = λ o s f. (o < end) × (f ≡ fault o reasons.Trailing);
}

-- The zeros up to a boundary.
pub data PaddingFault (a end o : ℕ) (s : List ℕ) (f : Fault) : Type 0 where
  padding_overruns : end < o + gap_to a o → f ≡ fault o reasons.Overrun → PaddingFault a end o s f
  not_zero : (i b : ℕ) (more : List ℕ) → o + gap_to a o ≤ end → i < gap_to a o → s ≡ replicate i 0 ++ suc b ∷ more → f ≡ fault (o + i) reasons.Padding → PaddingFault a end o s f

abbrev pub padding : ℕ → ℕ → Item (Unit {0})
padding a end = record {
  Passed = λ o s y q r. (s ≡ pad a o ++ r) × (q ≡ o + gap_to a o) × (q ≤ end);
  Refused = PaddingFault a end;
}

-- A number of w bytes; row says at the place after it which fault of its own it has.
pub data NumberFault (order : Order) (w end : ℕ) (row : ℕ → ℕ → Option Reason) (o : ℕ) (s : List ℕ) (f : Fault) : Type 0 where
  number_overruns : end < o + w → f ≡ fault o reasons.Overrun → NumberFault order w end row o s f
  number_refused : (n : ℕ) (more : List ℕ) (why : Reason) → o + w ≤ end → n < 256 ^ w → s ≡ num order w n ++ more → row (o + w) n ≡ Some why → f ≡ fault o why → NumberFault order w end row o s f

-- a number that is not refused whatever it is
abbrev pub no_row : ℕ → ℕ → Option Reason
no_row p n = None

abbrev pub number : Order → ℕ → ℕ → (ℕ → ℕ → Option Reason) → Item ℕ
number order w end row = record {
  Passed = λ o s n q r. (n < 256 ^ w) × (s ≡ num order w n ++ r) × (q ≡ o + w) × (q ≤ end) × (row q n ≡ None);
  Refused = NumberFault order w end row;
}

-- A text of n bytes.
abbrev pub text_reason : WantedText → Reason
text_reason (Of kinds.Text) = reasons.Text
text_reason (Of kinds.Path) = reasons.Path
text_reason (Of kinds.Signature) = reasons.Signature
text_reason (Of kinds.Single) = reasons.Signature
text_reason (Of kinds.Interface) = reasons.Interface
text_reason (Of kinds.Member) = reasons.Member
text_reason (Of kinds.ErrorName) = reasons.ErrorName
text_reason (Of kinds.BusName) = reasons.BusName
text_reason (Only u) = reasons.FieldType

pub record TextFault (k : WantedText) (n o : ℕ) (s : List ℕ) (f : Fault) : Type 0 where
  pub given : List ℕ
  pub more : List ℕ
  pub bytes : s ≡ given ++ more
  pub no_more : length given ≤ n
  pub front : ℕ
  pub breaks : IsBreakOf k given front
  pub broken : (front < length given) ⊎ ((length given ≡ n) × (IsWanted k given → ⊥))
  pub is_fault : f ≡ fault (o + front) (text_reason k)

abbrev pub text : WantedText → ℕ → Item (List ℕ)
text k n = record {
  Passed = λ o s t q r. (s ≡ t ++ r) × (length t ≡ n) × IsWanted k t × (q ≡ o + n);
  Refused = TextFault k n;
}

abbrev pub nul : Item (Unit {0})
nul = record {
  Passed = λ o s y q r. (s ≡ 0 ∷ r) × (q ≡ o + 1);
  Refused = λ o s f. (b : ℕ) × (more : List ℕ) × (s ≡ suc b ∷ more) × (f ≡ fault o reasons.Nul);
}

-- the signature of one complete type, of n bytes, of a kind
abbrev pub signature : WantedText → ℕ → Item TypeTree
signature k n = record {
  Passed = λ o s t q r. IsSingleType t × IsWanted k (sig t) × (s ≡ sig t ++ r) × (length (sig t) ≡ n) × (q ≡ o + n);
  Refused = TextFault k n;
}

-- Parts passed one after another, each where the one before ended. A part may look at those before
-- it, the last first.
abbrev pub Sequence : {A : Type 0} → (List A → Item A) → List A → List A → ℕ → List ℕ → ℕ → List ℕ → Type 0
Sequence part before [] o s q r = (q ≡ o) × (r ≡ s)
Sequence part before (v ∷ vs) o s q r = (p : ℕ) × (t : List ℕ) × (part before).Passed o s v p t × Sequence part (v ∷ before) vs p t q r

-- After some passed parts the end is not reached, and one more, which is wanted there, shows the
-- fault.
abbrev pub StopsIn : {A : Type 0} → (List A → Item A) → ℕ → List A → List A → ℕ → List ℕ → Fault → Type 0
StopsIn part end before [] o s f = (o < end) × (part before).Refused o s f
StopsIn part end before (v ∷ vs) o s f = (p : ℕ) × (t : List ℕ) × (part before).Passed o s v p t × StopsIn part end (v ∷ before) vs p t f

-- The contents of an array, n bytes: parts up to their end.
abbrev pub contents : {A : Type 0} → ℕ → (ℕ → List A → Item A) → Item (List A)
contents {A} n part = record {
  Passed = λ o s vs q r. Sequence (part (o + n)) [] vs o s q r × (q ≡ o + n);
  Refused = λ o s f. (vs : List A) × StopsIn (part (o + n)) (o + n) [] vs o s f;
}
