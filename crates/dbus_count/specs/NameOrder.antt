-- The order of names in their map.
use Rattle.std.proofs.Common.{◌≡◌, ℕ, List, Bool, true, false, ◌&&◌, length, nat_eq, string_bytes, refl, sym, subst, ◌∙◌}
use Rattle.std.specs.Cmp.{IsTotalOrder, both_tied, nat_cmp_total, nat_eq_equiv, on_total, then_total, unsigned_ties}
use Rattle.std.specs.Cmp.Lexicographic.{bytes_decides, nat_list_cmp_total, slice_cmp, texts_ties}
use Rattle.std.specs.Ordering.{eq_by_cmp, nat_cmp, on, then_cmp}
use Rattle.std.specs.Str.{bytes_eq}
use Rattle.std.specs.declared.cmp.Ordering.{Ordering}
use Rattle.dbus_count.specs.declared.name.Name.{Name}

-- the bytes of a name
abbrev pub bytes_of : Name → List ℕ
bytes_of n = string_bytes n.0

-- the shorter one comes first, and of two that are as long the one whose bytes do
abbrev pub name_order : Name → Name → Ordering
name_order = then_cmp (on (λ (n : Name). length (bytes_of n)) nat_cmp) (on bytes_of (slice_cmp nat_cmp))

pub name_order_total : IsTotalOrder name_order
name_order_total = then_total (on_total (λ (n : Name). length (bytes_of n)) nat_cmp_total) (on_total bytes_of nat_list_cmp_total)

both_same : (long same : Bool) → (same ≡ true → long ≡ true) → same ≡ (long && same)
both_same true same h = refl
both_same false true h = sym (h refl)
both_same false false h = refl

-- it tells names apart by their bytes
pub name_ties : (a b : Name) → bytes_eq (bytes_of a) (bytes_of b) ≡ eq_by_cmp name_order a b
name_ties a b =
    let x = bytes_of a in
    let y = bytes_of b in
    both_same (nat_eq (length x) (length y)) (bytes_eq x y) (λ e. subst (λ (z : List ℕ). nat_eq (length x) (length z) ≡ true) ((bytes_decides x y).0 e) (nat_eq_equiv.refl (length x)))
    ∙ both_tied (nat_eq (length x) (length y)) (bytes_eq x y) (nat_cmp (length x) (length y)) (slice_cmp nat_cmp x y) (unsigned_ties (length x) (length y)) (texts_ties x y)
