-- Reading from left to right: the same answers as the relations of Items and ValueItems give,
-- computed, plain and slow. It is the bridge from the relations to the code. Of public contracts
-- only those of `Order`, of the fixed header and of the parts that values and messages are
-- validated and checked by name it; what validators, checks and reads them whole says the
-- relations. D-Bus Specification, "Marshaling (Wire Format)".
use Rattle.std.specs.Prelude.{ℕ, zero, suc, ◌+◌, ◌*◌, List, [], ◌∷◌, length, take, drop, reverse, if◌then◌else◌, nat_lt, nat_eq, Option, Some, None}
use Rattle.dbus_texts.specs.Types.{TypeTree, NumberType, TextType, VariantType, ArrayType, StructType, EntryType, TypeTrees, NoTypes, MoreTypes}
use Rattle.dbus_types.specs.Alignments.{width, length_width, alignment_of}
use Rattle.dbus_value_model.specs.WantedTexts.{WantedText, kind_of, Of}
use Rattle.dbus_value_model.specs.ComputedTexts.{is_kind, break_at}
use Rattle.dbus_texts.specs.ComputedKinds.{type_spelled}
use Rattle.dbus_value_model.specs.declared.limits.Bounds.{Bounds}
use Rattle.dbus_value_model.specs.declared.order.Order.{Order}
use Rattle.dbus_value_model.specs.declared.order.Order.TheVariants.{Little, Big}
use Rattle.dbus_value_model.specs.Bytes.{gap_to}
use Rattle.dbus_value_model.specs.Values.{value_trees, ValueTrees, NoValues, MoreValues, ValueTree, NumberValue, TextValue, VariantValue, ArrayValue, StructValue, EntryValue}
use Rattle.dbus_value_model.specs.declared.fault.Reason.{Reason}
use Rattle.dbus_value_model.specs.declared.fault.Fault.{Fault}
use Rattle.dbus_value_model.specs.Items.{fault, text_reason}
use Rattle.dbus_value_model.specs.ValueItems.{number_row, text_row, array_row}
use Rattle.dbus_value_model.specs.declared.fault.Reason.TheVariants as reasons
use Rattle.dbus_texts.specs.declared.text_kind.TextKind.TheVariants as kinds

pub data Outcome (A : Type 0) : Type 0 where
  Done : A → ℕ → List ℕ → Outcome A
  Faulty : Fault → Outcome A
  Partial : Outcome A

abbrev pub Reader : Type 0 → Type 0
Reader A = ℕ → List ℕ → Outcome A

abbrev pub after : {A B : Type 0} → Outcome A → (A → Reader B) → Outcome B
after (Done x p t) next = next x p t
after (Faulty f) next = Faulty f
after Partial next = Partial

infixl 10 ◌>>=◌
infixl 10 ◌>>◌
abbrev pub ◌>>=◌ : {A B : Type 0} → Reader A → (A → Reader B) → Reader B
first >>= next = λ o s. after (first o s) next

abbrev pub ◌>>◌ : {A B : Type 0} → Reader A → Reader B → Reader B
first >> next = first >>= λ x. next

abbrev pub pure : {A : Type 0} → A → Reader A
pure x = λ o s. Done x o s

abbrev pub refuse : {A : Type 0} → Reason → Reader A
refuse why = λ o s. Faulty (fault o why)

abbrev pub zeros : ℕ → Reader (Unit {0})
zeros zero o s = Done tt o s
zeros (suc k) o [] = Partial
zeros (suc k) o (zero ∷ s) = zeros k (suc o) s
zeros (suc k) o (suc b ∷ s) = Faulty (fault o reasons.Padding)

unfoldable pub padding : ℕ → ℕ → Reader (Unit {0})
padding a end o s = if nat_lt end (o + gap_to a o) then Faulty (fault o reasons.Overrun) else zeros (gap_to a o) o s

-- the lowest place first
abbrev pub place_sum : List ℕ → ℕ
place_sum [] = 0
place_sum (b ∷ bs) = b + 256 * place_sum bs

unfoldable pub number_of : Order → List ℕ → ℕ
number_of Little bs = place_sum bs
number_of Big bs = place_sum (reverse bs)

abbrev pub validated : Option Reason → ℕ → ℕ → ℕ → List ℕ → Outcome ℕ
validated None n o q r = Done n q r
validated (Some why) n o q r = Faulty (fault o why)

unfoldable pub number : Order → ℕ → ℕ → (ℕ → ℕ → Option Reason) → Reader ℕ
number order w end row o s =
    if nat_lt end (o + w) then Faulty (fault o reasons.Overrun)
    else if nat_lt (length s) w then Partial
    else validated (row (o + w) (number_of order (take w s))) (number_of order (take w s)) o (o + w) (drop w s)

unfoldable pub text : WantedText → ℕ → Reader (List ℕ)
text k n o s =
    if nat_lt (break_at k (take n s)) (length (take n s)) then Faulty (fault (o + break_at k (take n s)) (text_reason k))
    else if nat_lt (length s) n then Partial
    else if is_kind k (take n s) then Done (take n s) (o + n) (drop n s)
    else Faulty (fault (o + break_at k (take n s)) (text_reason k))

abbrev pub signature : WantedText → ℕ → Reader TypeTree
signature k n = text k n >>= λ t. pure (type_spelled t)

abbrev pub validate : Option Reason → Reader (Unit {0})
validate None = pure tt
validate (Some why) = refuse why

abbrev pub bounded : {A : Type 0} → ℕ → (ℕ → Reader A) → Reader A
bounded n read o s = read (o + n) o s

unfoldable pub ends : ℕ → Reader (Unit {0})
ends end o s = if nat_lt o end then Faulty (fault o reasons.Trailing) else if nat_eq o end then Done tt o s else Partial

abbrev pub nul : Reader (Unit {0})
nul o [] = Partial
nul o (zero ∷ s) = Done tt (o + 1) s
nul o (suc b ∷ s) = Faulty (fault o reasons.Nul)

abbrev pub stop : {A : Type 0} → ℕ → Reader (List A)
stop end o s = if nat_eq o end then Done [] o s else Partial

-- an item has at least one byte, so as many turns as bytes are enough
abbrev pub up_to : {A : Type 0} → ℕ → ℕ → (List A → Reader A) → List A → Reader (List A)
up_to zero end part before o s = stop end o s
up_to (suc turns) end part before o s =
    if nat_lt o end then after (part before o s) (λ v p t. after (up_to turns end part (v ∷ before) p t) (λ vs. pure (v ∷ vs)))
    else stop end o s

abbrev pub contents : {A : Type 0} → ℕ → (ℕ → List A → Reader A) → Reader (List A)
contents n part o s = up_to n (o + n) (part (o + n)) [] o s

abbrev pub fields : (TypeTree → Reader ValueTree) → TypeTrees → Reader ValueTrees
fields part NoTypes = pure NoValues
fields part (MoreTypes t ts) = do
  v ← part t
  vs ← fields part ts
  pure (MoreValues v vs)

-- a container is opened where there is room for one more
abbrev pub opened : {A : Type 0} → (depth_left : ℕ) → Reader A → Reader A
opened zero within = refuse reasons.TooDeep
opened (suc depth_left) within = within

abbrev pub items : Bounds → Order → (depth_left : ℕ) → (ℕ → TypeTree → Reader ValueTree) → ℕ → TypeTree → Reader ValueTree
items bounds order depth_left inside end (NumberType k) = do
  padding (width k) end
  n ← number order (width k) end (number_row bounds.fds k)
  pure (NumberValue k n)
items bounds order depth_left inside end (TextType k) = do
  padding (length_width k) end
  n ← number order (length_width k) end (text_row end)
  t ← text (kind_of k) n
  nul
  pure (TextValue k t)
items bounds order depth_left inside end VariantType = opened depth_left (do
  n ← number order 1 end (text_row end)
  held ← signature (Of kinds.Single) n
  nul
  x ← inside end held
  pure (VariantValue x))
items bounds order depth_left inside end (ArrayType t) = do
  padding 4 end
  opened depth_left (do
    n ← number order 4 end (array_row bounds t end)
    padding (alignment_of t) end
    xs ← contents n (λ end before. inside end t)
    pure (ArrayValue t (value_trees xs)))
items bounds order depth_left inside end (StructType ts) = do
  padding 8 end
  opened depth_left (do
    xs ← fields (inside end) ts
    pure (StructValue xs))
items bounds order depth_left inside end (EntryType k v) = do
  padding 8 end
  key ← items bounds order depth_left inside end k
  x ← items bounds order depth_left inside end v
  pure (EntryValue key x)

abbrev pub nowhere : ℕ → TypeTree → Reader ValueTree
nowhere end t = refuse reasons.TooDeep

unfoldable pub value : Bounds → Order → (depth_left : ℕ) → ℕ → TypeTree → Reader ValueTree
value bounds order zero end t = items bounds order zero nowhere end t
value bounds order (suc depth_left) end t = items bounds order (suc depth_left) (value bounds order depth_left) end t
