-- Subcommands and words after them that name nothing.
use Rattle.std.proofs.Common.{◌≡◌, ◌+◌, ◌*◌, ℕ, List, Some, refl, sym, ap, ◌∙◌, codes, slice_index, arith}
use Rattle.clap.specs.Words.{Row, Text, first_of}
use Rattle.dbus_value_model.specs.declared.order.Order.{Order}
use Rattle.dbus_match.specs.Matching.{ownership}
use Rattle.cli_options.specs.Named.{GiveOwners, HasEncoding, HasSettings, HasWanted, Names, NamesTask, words_of}
use Rattle.cli_options.specs.Worded.{order_word, side_word}
use Rattle.cli_options.proofs.Numbers.{each_can}
use Rattle.cli_options.specs.Limiting.{HasWidth}
use Rattle.cli_options.specs.Told.{NamesNothing}
use Rattle.dbus_handshake_input.specs.declared.side.Side.{Side}
use Rattle.cli_options.specs.declared.asked.Asked.{Asked}
use Rattle.cli_options.specs.declared.asked.Asked.TheVariants.{Messages, Encode, Handshake}
use Rattle.cli_options.specs.declared.command.Output.TheVariants as output
use Rattle.cli_options.specs.declared.command.Task.{Task}
use Rattle.cli_options.specs.declared.command.Task.TheVariants.{Write, Count, Lines, Calls}
use Rattle.cli_options.specs.declared.settings.Settings.{Settings}
use Rattle.cli_options.specs.declared.wanted_calls.WantedCalls.{WantedCalls}
use Rattle.cli_options.specs.declared.wanted_encoding.WantedEncoding.{WantedEncoding}

-- the first two bytes of a name tell it from the others
abbrev pub mark : Text → ℕ
mark t = slice_index t 0 * 256 + slice_index t 1

abbrev pub mark_of : Task → ℕ
mark_of (Write (output.Text times escapes)) = mark (codes "show")
mark_of (Write (output.JsonLine times safe)) = mark (codes "json")
mark_of (Write output.Nothing) = mark (codes "check")
mark_of (Write (output.InOrder order form)) = mark (codes "swap")
mark_of (Write (output.AsIs form)) = mark (codes "filter")
mark_of Count = mark (codes "count")
mark_of (Lines width) = mark (codes "list")
mark_of (Calls wanted) = mark (codes "calls")

pub marked : (name : Text) (rows : List Row) (task : Task) → NamesTask name rows task → mark name ≡ mark_of task
marked name rows (Write (output.Text times escapes)) h = ap mark h.0
marked name rows (Write (output.JsonLine times safe)) h = ap mark h.0
marked name rows (Write output.Nothing) h = ap mark h
marked name rows (Write (output.InOrder order form)) h = ap mark h.0
marked name rows (Write (output.AsIs form)) h = ap mark h.0
marked name rows Count h = ap mark h
marked name rows (Lines width) h = ap mark h.0
marked name rows (Calls wanted) h = ap mark h.0

-- ---- names of what is done with messages, without what it needs

pub unordered : (rows : List Row) → ((order : Order) → first_of (codes "to") rows ≡ Some (order_word order) → ⊥) → (task : Task) → NamesTask (codes "swap") rows task → ⊥
unordered rows none (Write (output.InOrder order form)) h = none order h.1
unordered rows none task h = let e = marked (codes "swap") rows task h in omega (arith, e)

pub unlined : (rows : List Row) → ((width : ℕ) → HasWidth rows width → ⊥) → (task : Task) → NamesTask (codes "list") rows task → ⊥
unlined rows none (Lines width) h = none width h.1
unlined rows none (Write output.Nothing) h = let e = marked (codes "list") rows (Write output.Nothing) h in omega (arith, e)
unlined rows none task h = let e = marked (codes "list") rows task h in omega (arith, e)

pub unlisted : (rows : List Row) → ((wanted : WantedCalls) → HasWanted rows wanted → ⊥) → (task : Task) → NamesTask (codes "calls") rows task → ⊥
unlisted rows none (Calls wanted) h = none wanted h.1
unlisted rows none (Write output.Nothing) h = let e = marked (codes "calls") rows (Write output.Nothing) h in omega (arith, e)
unlisted rows none task h = let e = marked (codes "calls") rows task h in omega (arith, e)

-- ---- other names

-- no task is that of `handshake` or of `encode`
abbrev pub IsOther : ℕ → Type 0
IsOther n = (n ≡ mark (codes "handshake") → ⊥) × (n ≡ mark (codes "encode") → ⊥)

other_mark : (task : Task) → IsOther (mark_of task)
other_mark (Write (output.Text times escapes)) = (λ e. omega (arith, e), λ e. omega (arith, e))
other_mark (Write (output.JsonLine times safe)) = (λ e. omega (arith, e), λ e. omega (arith, e))
other_mark (Write output.Nothing) = (λ e. omega (arith, e), λ e. omega (arith, e))
other_mark (Write (output.InOrder order form)) = (λ e. omega (arith, e), λ e. omega (arith, e))
other_mark (Write (output.AsIs form)) = (λ e. omega (arith, e), λ e. omega (arith, e))
other_mark Count = (λ e. omega (arith, e), λ e. omega (arith, e))
other_mark (Lines width) = (λ e. omega (arith, e), λ e. omega (arith, e))
other_mark (Calls wanted) = (λ e. omega (arith, e), λ e. omega (arith, e))

pub no_task : (name : Text) (rows : List Row) (task : Task) → NamesTask name rows task → (name ≡ codes "handshake" → ⊥) × (name ≡ codes "encode" → ⊥)
no_task name rows task h =
    let other = other_mark task in
    let is = sym (marked name rows task h) in
    (λ e. other.0 (is ∙ ap mark e), λ e. other.1 (is ∙ ap mark e))

module _ (sub : Text × List Row) (other : sub.0 ≡ codes "handshake" → ⊥) (unencoded : sub.0 ≡ codes "encode" → ⊥) where
  unset : ((settings : Settings) → HasSettings sub.1 settings → ⊥) → (asked : Asked) → Names (Some sub) asked → ⊥
  unset none (Messages request) named = none request.settings named.settings
  unset none (Encode wanted) named = unencoded named.0
  unset none (Handshake side) named = other named.0

  -- with options that name no settings
  pub unset_names_nothing : ((settings : Settings) → HasSettings sub.1 settings → ⊥) → NamesNothing (Some sub)
  unset_names_nothing none = record { none_asked = unset none; no_rule = λ refused found. none found.2.0 found.2.1 }

  undone : ((task : Task) → NamesTask sub.0 sub.1 task → ⊥) → (asked : Asked) → Names (Some sub) asked → ⊥
  undone none (Messages request) named = none request.task named.task
  undone none (Encode wanted) named = unencoded named.0
  undone none (Handshake side) named = other named.0

  -- with nothing that is to be done
  pub undone_names_nothing : ((task : Task) → NamesTask sub.0 sub.1 task → ⊥) → NamesNothing (Some sub)
  undone_names_nothing none = record { none_asked = undone none; no_rule = λ refused found. none found.1.0 found.1.1 }

  unowned : (GiveOwners sub.1 → ⊥) → (asked : Asked) → Names (Some sub) asked → ⊥
  unowned none (Messages request) named =
      let given = named.selection in
      none (each_can _ _ (λ word owner is. (ownership owner, is)) (words_of (codes "owner") sub.1) given.0.owners.items given.1.owners)
  unowned none (Encode wanted) named = unencoded named.0
  unowned none (Handshake side) named = other named.0

  -- with a word that gives no owner
  pub unowned_names_nothing : (GiveOwners sub.1 → ⊥) → NamesNothing (Some sub)
  unowned_names_nothing none = record { none_asked = unowned none; no_rule = λ refused found. none found.0.owners }

-- `handshake` with no side
module _ (rows : List Row) (no_side : (side : Side) → first_of (codes "side") rows ≡ Some (side_word side) → ⊥) where
  unsided : (asked : Asked) → Names (Some (codes "handshake", rows)) asked → ⊥
  unsided (Messages request) named = (no_task (codes "handshake") rows request.task named.task).0 refl
  unsided (Encode wanted) named = let bad : ◌≡◌ {A = ℕ} 104 101 = ap (λ t. slice_index t 0) named.0 in absurd (omega arith)
  unsided (Handshake side) named = no_side side named.1

  pub unsided_names_nothing : NamesNothing (Some (codes "handshake", rows))
  unsided_names_nothing = record { none_asked = unsided; no_rule = λ refused found. (no_task (codes "handshake") rows found.1.0 found.1.1).0 refl }

-- `encode`, of whose words there is nothing that is wanted
module _ (rows : List Row) (no_encoding : (wanted : WantedEncoding) → HasEncoding rows wanted → ⊥) where
  unwritten : (asked : Asked) → Names (Some (codes "encode", rows)) asked → ⊥
  unwritten (Messages request) named = (no_task (codes "encode") rows request.task named.task).1 refl
  unwritten (Encode wanted) named = no_encoding wanted named.1
  unwritten (Handshake side) named = let bad : ◌≡◌ {A = ℕ} 101 104 = ap (λ t. slice_index t 0) named.0 in absurd (omega arith)

  pub unencoded_names_nothing : NamesNothing (Some (codes "encode", rows))
  unencoded_names_nothing = record { none_asked = unwritten; no_rule = λ refused found. (no_task (codes "encode") rows found.1.0 found.1.1).1 refl }
