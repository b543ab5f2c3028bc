-- What keeps limits keeps wider ones, and the valid messages that keep limits are those that are
-- valid within them.
use Rattle.std.proofs.Common.{◌≡◌, ◌⊎◌, ℕ, zero, suc, ◌+◌, ◌≤◌, length, refl, sym, subst, arith, inl, inr}
use Rattle.dbus_value_model.specs.declared.order.Order.{Order}
use Rattle.dbus_value_model.specs.declared.order.Order.TheVariants.{Little}
use Rattle.dbus_value_model.specs.declared.limits.Limits.{Limits}
use Rattle.dbus_value_model.specs.Specification.{specification}
use Rattle.dbus_message_model.specs.KeptLimits.{KeepsLimits, AreWider, WiderLimits, ValidWithin}
use Rattle.dbus_value_model.specs.FdIndexes.{index_limit, AreAllBelow}
use Rattle.dbus_value_model.specs.declared.fd_rule.FdRule.{FdRule}
use Rattle.dbus_value_model.specs.declared.fd_rule.FdRule.TheVariants.{Any}
use Rattle.dbus_value_model.proofs.Formed.{formed_of, all_formed_of, parts_of, all_parts_of}
use Rattle.dbus_value_model.proofs.Indexes.{any_all_below}
use Rattle.dbus_message_model.specs.Messages.{MessageTree, IsMessage, field_array, body_start, fd_count, KeepsIndexes, IsValidMessage}
use Rattle.dbus_message_model.proofs.BothOrders.{message_under, any_within, any_within_all, any_body_start, any_message_length}
use Rattle.dbus_value_model.specs.Bytes.{gap_to}
use Rattle.dbus_value_model.specs.Forming.{NestsWithin, NestWithin}
use Rattle.dbus_value_model.specs.Spelling.{contents_start, ended_text, spelling, IsWithinLimits, AreWithinLimits}
use Rattle.dbus_value_model.specs.Values.{ValueTree, ValueTrees, NumberValue, TextValue, VariantValue, ArrayValue, StructValue, EntryValue, NoValues, MoreValues, type_of, IsWellFormed, AreWellFormed}
use Rattle.dbus_texts.specs.Types.{sig}

mutual
  pub nests_wider : (room more : ℕ) (v : ValueTree) → room ≤ more → NestsWithin room v → NestsWithin more v
  nests_wider room more (NumberValue k n) le h = tt
  nests_wider room more (TextValue k t) le h = tt
  nests_wider zero more (VariantValue x) le h = absurd h
  nests_wider (suc room) zero (VariantValue x) le h = absurd (omega arith)
  nests_wider (suc room) (suc more) (VariantValue x) le h = nests_wider room more x (omega arith) h
  nests_wider zero more (ArrayValue t xs) le h = absurd h
  nests_wider (suc room) zero (ArrayValue t xs) le h = absurd (omega arith)
  nests_wider (suc room) (suc more) (ArrayValue t xs) le h = nest_wider room more xs (omega arith) h
  nests_wider zero more (StructValue xs) le h = absurd h
  nests_wider (suc room) zero (StructValue xs) le h = absurd (omega arith)
  nests_wider (suc room) (suc more) (StructValue xs) le h = nest_wider room more xs (omega arith) h
  nests_wider room more (EntryValue k v) le h = (nests_wider room more k le h.0, nests_wider room more v le h.1)

  pub nest_wider : (room more : ℕ) (vs : ValueTrees) → room ≤ more → NestWithin room vs → NestWithin more vs
  nest_wider room more NoValues le h = tt
  nest_wider room more (MoreValues x xs) le h = (nests_wider room more x le h.0, nest_wider room more xs le h.1)

module _ (array longer : ℕ) (le : array ≤ longer) (order : Order) where
  mutual
    pub within_wider : (o : ℕ) (v : ValueTree) → IsWithinLimits array order o v → IsWithinLimits longer order o v
    within_wider o (NumberValue k n) h = tt
    within_wider o (TextValue k t) h = tt
    within_wider o (VariantValue x) h = within_wider (o + length (ended_text order 1 (sig (type_of x)))) x h
    within_wider o (ArrayValue t xs) h = (omega (arith, le, h.0), are_within_wider (contents_start t o) xs h.1)
    within_wider o (StructValue xs) h = are_within_wider (o + gap_to 8 o) xs h
    within_wider o (EntryValue k v) h =
        (within_wider (o + gap_to 8 o) k h.0, within_wider (o + gap_to 8 o + length (spelling order (o + gap_to 8 o) k)) v h.1)

    pub are_within_wider : (o : ℕ) (vs : ValueTrees) → AreWithinLimits array order o vs → AreWithinLimits longer order o vs
    are_within_wider o NoValues h = tt
    are_within_wider o (MoreValues x xs) h = (within_wider o x h.0, are_within_wider (o + length (spelling order o x)) xs h.1)

-- ---- well-formed values

-- what nests within some room is well formed there
formed_within : (room more : ℕ) (v : ValueTree) → NestsWithin room v → IsWellFormed more v → IsWellFormed room v
formed_within room more v nests h = let w = parts_of more v h in formed_of room v nests w.1 w.2 w.3

are_formed_within : (room more : ℕ) (vs : ValueTrees) → NestWithin room vs → AreWellFormed more vs → AreWellFormed room vs
are_formed_within room more vs nest h = let w = all_parts_of more vs h in all_formed_of room vs nest w.1 w.2 w.3

-- ---- indexes of descriptors

wider_indexes : (limits wider : Limits) (m : MessageTree) → (wider.fds ≡ limits.fds) ⊎ (wider.fds ≡ Any) → KeepsIndexes limits m → KeepsIndexes wider m
wider_indexes limits wider m rule h = elim rule [
  | inl same ↦ subst (λ (r : FdRule). AreAllBelow (index_limit r (fd_count m.fields)) m.body) (sym same) h
  | inr any ↦ subst (λ (r : FdRule). AreAllBelow (index_limit r (fd_count m.fields)) m.body) (sym any) (any_all_below m.body)
]

-- ---- messages

pub wider_message : (limits wider : Limits) (order : Order) (m : MessageTree) → AreWider wider limits → IsMessage limits order m → IsMessage wider order m
wider_message limits wider order m le h =
    let fields = field_array m.fields in
    message_under limits wider order order m h
    (formed_within wider.depth limits.depth fields (nests_wider limits.depth wider.depth fields le.2 (parts_of limits.depth fields h.formed_fields).0) h.formed_fields)
    (within_wider limits.array wider.array le.1 order 12 fields h.within_fields)
    (are_formed_within wider.depth limits.depth m.body (nest_wider limits.depth wider.depth m.body le.2 (all_parts_of limits.depth m.body h.formed_body).0) h.formed_body)
    (are_within_wider limits.array wider.array le.1 order (body_start order m.fields) m.body h.within_body) (omega (arith, h.limit, le.0)) (wider_indexes limits wider m le.3 h.indexes)

-- no limits are wider than those of the specification
pub widest : (limits : Limits) → AreWider specification limits
widest limits = (limits.message_in, limits.array_in, limits.depth_in, inr refl)

pub widest_valid : (limits : Limits) (m : MessageTree) → IsValidMessage limits m → IsValidMessage specification m
widest_valid limits m valid order = wider_message limits specification order m (widest limits) (valid order)

pub kept_valid : (limits : Limits) (m : MessageTree) → IsValidMessage specification m → KeepsLimits limits m → IsValidMessage limits m
kept_valid limits m valid keeps order =
    let h = valid order in
    message_under specification limits order order m h (formed_within limits.depth specification.depth (field_array m.fields) keeps.0.0 h.formed_fields)
    (any_within limits.array Little order 12 (field_array m.fields) keeps.1.0) (are_formed_within limits.depth specification.depth m.body keeps.0.1 h.formed_body)
    (any_within_all limits.array Little order (body_start order m.fields) m.body (subst (λ (n : ℕ). AreWithinLimits limits.array Little n m.body) (any_body_start Little order m.fields) keeps.1.1))
    (omega (arith, keeps.2, any_message_length Little order m)) keeps.3

pub valid_keeps : (limits : Limits) (m : MessageTree) → IsValidMessage limits m → KeepsLimits limits m
valid_keeps limits m valid =
    let h = valid Little in (
      ((parts_of limits.depth (field_array m.fields) h.formed_fields).0, (all_parts_of limits.depth m.body h.formed_body).0),
      (h.within_fields, h.within_body),
      λ long. omega (arith, long, h.limit),
      h.indexes,
    )

-- ---- the laws

pub valid_within : ValidWithin
valid_within limits m = (λ valid. (widest_valid limits m valid, valid_keeps limits m valid), λ h. kept_valid limits m h.0 h.1)

pub wider_limits : WiderLimits
wider_limits limits wider m le keeps = (
  (nests_wider limits.depth wider.depth (field_array m.fields) le.2 keeps.0.0, nest_wider limits.depth wider.depth m.body le.2 keeps.0.1),
  (
    within_wider limits.array wider.array le.1 Little 12 (field_array m.fields) keeps.1.0,
    are_within_wider limits.array wider.array le.1 Little (body_start Little m.fields) m.body keeps.1.1,
  ),
  λ long. keeps.2 (omega (arith, le.0, long)),
  wider_indexes limits wider m le.3 keeps.3,
)
