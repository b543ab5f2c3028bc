-- Each text spells a rule or has a fault.
use Rattle.std.proofs.Common.{◌≡◌, ◌≢◌, ℕ, zero, suc, ◌+◌, ◌-◌, ◌<◌, ◌≤◌, ◌⊎◌, inl, inr, Option, Some, None, List, [], ◌++◌, length, take, drop, replicate, refl, ap, arith, length-append, length-drop}
use Rattle.std.specs.Prelude.{◌==◌, position}
use Rattle.std.specs.List.{AllByRecursion, prefix_len}
use Rattle.std.proofs.lemmas.Bool.{cases_lt}
use Rattle.std.proofs.lemmas.List.{length-replicate}
use Rattle.dbus_rule.specs.declared.fault.RuleFault.TheVariants.{Bad}
use Rattle.dbus_rule.specs.declared.fault.RuleReason.{RuleReason}
use Rattle.dbus_rule.specs.declared.fault.RuleReason.TheVariants.{Nul}
use Rattle.dbus_rule.specs.Rules.{insert_pair, Pair, SpellsRule}
use Rattle.dbus_rule.specs.Faults.{IsFault}
use Rattle.dbus_rule.specs.Laws.{SomeReading}
use Rattle.dbus_rule.specs.PairReadings.{IsPairAt}
use Rattle.dbus_rule.proofs.Nuls.{nul_at, no_nul_in}
use Rattle.dbus_rule.proofs.PairChoices.{Choice, pair_or_fault}
use Rattle.dbus_rule.proofs.PairReadings.{value_ends}
use Rattle.dbus_rule.proofs.RuleReadings.{IsReadUpTo, spaces_at, read_none, read_more, read_last, read_end, read_fault}

abbrev Found : List ℕ → Type 0
Found w = ((r : List Pair) × SpellsRule w r) ⊎ ((reason : RuleReason) × (at : ℕ) × IsFault w reason at)

module _ (w : List ℕ) (no_nul : AllByRecursion (λ b. b ≢ 0) w) where
  abbrev spaces : ℕ → ℕ
  spaces at = prefix_len (λ b. b == 32) (take (length w - at) (drop at w))

  -- the pair ends after where it begins
  pair_goes_on : (ps : List Pair) (m : ℕ) (p : Pair) (end : ℕ) → IsPairAt ps w m p end → m < end
  pair_goes_on ps m p end h = omega (arith, h.key.place, h.value.place)

  -- spaces alone are left
  all_spaces : (at s : ℕ) → at ≤ length w → drop at w ≡ replicate s 32 ++ drop (at + s) w → length w ≤ at + s → at + s ≡ length w
  all_spaces at s inside e none =
      let whole = ap length e in
      let joined = length-append (replicate s 32) (drop (at + s) w) in
      omega (arith, inside, none, whole, joined, length-replicate {A = ℕ} s 32, length-drop at w)

  -- a pair that may stand there is passed, and next reads on after its comma
  with_pair : (turns at : ℕ) (ps : List Pair) → ((from : ℕ) (qs : List Pair) → length w < from + turns → from ≤ length w → IsReadUpTo w from qs → Found w)
      → length w < at + suc turns → IsReadUpTo w at ps → drop at w ≡ replicate (spaces at) 32 ++ drop (at + spaces at) w → at + spaces at < length w → Choice ps w (at + spaces at) → Found w
  with_pair turns at ps next few h spaced more (inr f) = inr (f.0, f.1, read_fault w at (spaces at) (at + spaces at) ps (Bad f.1 f.0) no_nul spaced refl h f.2)
  with_pair turns at ps next few h spaced more (inl p) =
      let s = spaces at in
      let goes = pair_goes_on ps (at + s) p.0 p.1 p.2 in
      let within = value_ends ps w (at + s) p.0.key p.2.from p.0.value p.1 more p.2.key p.2.value in
      elim (cases_lt p.1 (length w)) [
        | inl l ↦ next (p.1 + 1) (insert_pair p.0 ps) (omega (arith, few, goes)) (omega (arith, l)) (read_more w at s (at + s) ps (insert_pair p.0 ps) p.0 p.1 refl no_nul spaced refl l h p.2)
        | inr l ↦ inl (insert_pair p.0 ps, read_last w at s (at + s) ps (insert_pair p.0 ps) p.0 p.1 refl no_nul spaced refl (omega (arith, within, l)) h p.2)
      ]

  from_place : (turns at : ℕ) (ps : List Pair) → length w < at + turns → at ≤ length w → IsReadUpTo w at ps → Found w
  from_place zero at ps few inside h = absurd (omega (arith, few, inside))
  from_place (suc turns) at ps few inside h =
      let s = spaces at in
      let spaced = spaces_at w w at s refl inside refl in
      elim (cases_lt (at + s) (length w)) [
        | inl more ↦ with_pair turns at ps (λ from qs. from_place turns from qs) few h spaced.0 more (pair_or_fault ps w (at + s) more spaced.1 h.pairs)
        | inr none ↦ inl (ps, read_end w at s (at + s) ps no_nul spaced.0 (all_spaces at s inside spaced.0 none) h)
      ]

found_by : (w : List ℕ) (o : Option ℕ) → o ≡ position (λ b. b == 0) w → Found w
found_by w (Some at) e = inr (Nul, at, nul_at w at e)
found_by w None e = from_place w (no_nul_in w e) (suc (length w)) 0 [] (omega arith) (omega arith) (read_none w)

pub some_reading : SomeReading
some_reading w = found_by w (position (λ b. b == 0) w) refl
