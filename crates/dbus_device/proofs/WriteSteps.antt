-- The turns of a write of several calls.
use Rattle.std.proofs.Common.{◌≡◌, ◌≢◌, ℕ, zero, suc, List, ◌++◌, Ok, Option, length, take, drop, refl, sym, ap, ◌∙◌, append_assoc, take-append-drop}
use Rattle.std.specs.Io.KnownBytes.{Appends}
use Rattle.std.proofs.KnownBytes.{Appends-trans}
use Rattle.dbus_device.specs.Device.{WriteCounts, Wrote}

-- the prefix of the bytes was written, and the rest is left
pub record WritesUpTo {W : Type 0} (held : W → Option (List ℕ)) (failures : W → ℕ) (old : W) (bytes rest : List ℕ) (now : W) : Type 0 where
  pub front : List ℕ
  pub joined : bytes ≡ front ++ rest
  pub wrote : Wrote held failures old front now

WriteCounts-some : (E : Type 0) (old new count size : ℕ) → count ≢ 0 → WriteCounts {E = E} old new (Ok count) size → new ≡ old
WriteCounts-some E old new zero size some w = absurd (some refl)
WriteCounts-some E old new (suc n) size some w = w

module _ {W : Type 0} (held : W → Option (List ℕ)) (failures : W → ℕ) where
  pub more_written : (E : Type 0) (old now new : W) (bytes rest : List ℕ) (count : ℕ) → WritesUpTo held failures old bytes rest now → count ≢ 0
      → Appends (held now) (held new) (take count rest) → WriteCounts {E = E} (failures now) (failures new) (Ok count) (length rest)
      → WritesUpTo held failures old bytes (drop count rest) new
  more_written E old now new bytes rest count u some a f = record {
    front = u.front ++ take count rest;
    joined = u.joined ∙ (ap (λ l. u.front ++ l) (sym (take-append-drop count rest)) ∙ sym (append_assoc u.front (take count rest) (drop count rest)));
    wrote = record {
      appended = Appends-trans _ _ _ _ _ u.wrote.appended a;
      failed = WriteCounts-some E (failures now) (failures new) count (length rest) some f ∙ u.wrote.failed;
    };
  }
