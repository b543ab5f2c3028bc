-- The count of each name in the map, after that of one name changes.
use Rattle.std.proofs.Common.{◌≡◌, ℕ, List, [], ◌∷◌, Bool, true, false, cond, Option, Some, refl, sym, ap, subst, ◌∙◌}
use Rattle.std.specs.BTreeMap.{BTreeMap, UpdatesBy, is_at}
use Rattle.std.specs.Cmp.Lexicographic.{bytes_decides, nat_list_eq_equiv}
use Rattle.std.specs.Map.{AreApart, IsKeyTest, KeepsOthers, lookup}
use Rattle.std.specs.Option.{unwrap_or}
use Rattle.std.specs.Ordering.{eq_by_cmp}
use Rattle.std.specs.Str.{bytes_eq}
use Rattle.dbus_count.specs.Counting.{with_name, with_one, has}
use Rattle.dbus_count.specs.NameOrder.{bytes_of, name_order, name_ties}
use Rattle.dbus_count.specs.declared.count.Count.{Count}
use Rattle.dbus_count.specs.declared.name.Name.{Name}

-- what is found by the order is found by the bytes
pub found : (key : Name) (es : List (Name × Count)) → lookup (is_at (name_order key)) es ≡ lookup (has (bytes_of key)) es
found key [] = refl
found key (e ∷ es) =
    ap (λ (b : Bool). cond b (Some e.1) (lookup (is_at (name_order key)) es)) (sym (name_ties key e.0)) ∙ ap (λ (r : Option Count). cond (has (bytes_of key) e.0) (Some e.1) r) (found key es)

others : (key : Name) (old new : List (Name × Count)) → KeepsOthers (eq_by_cmp name_order) (is_at (name_order key)) old new
    → (other : Name → Bool) → IsKeyTest (eq_by_cmp name_order) other → AreApart (is_at (name_order key)) other → lookup other new ≡ lookup other old
unfolding KeepsOthers
others key old new h = h

-- one message more has the name of the key, whose count was `now`
pub one_counted : (key : Name) (m n : BTreeMap Name Count) (now : Option Count) (size : ℕ) → lookup (has (bytes_of key)) m.entries ≡ now
    → UpdatesBy name_order (name_order key) m n (Some (with_one (unwrap_or now (record { messages = 0; bytes = 0 })) size))
    → (name : List ℕ) → lookup (has name) n.entries ≡ with_name (bytes_of key) size name (lookup (has name) m.entries)
one_counted key m n now size was h name = after (bytes_eq (bytes_of key) name) refl
  where
    more : Option Count → Option Count
    more c = Some (with_one (unwrap_or c (record { messages = 0; bytes = 0 })) size)

    after : (b : Bool) → bytes_eq (bytes_of key) name ≡ b → lookup (has name) n.entries ≡ cond b (more (lookup (has name) m.entries)) (lookup (has name) m.entries)
    after true e =
        subst (λ (l : List ℕ). lookup (has l) n.entries ≡ more (lookup (has l) m.entries)) ((bytes_decides (bytes_of key) name).0 e)
        (sym (found key n.entries) ∙ (h.1 ∙ ap more (sym was)))
    after false e =
        others key m.entries n.entries h.3 (has name)
        (λ x y same. nat_list_eq_equiv.congr name (bytes_of x) (bytes_of y) same ∙ name_ties x y)
        (λ k at. nat_list_eq_equiv.symm name (bytes_of k) ∙ (sym (nat_list_eq_equiv.congr (bytes_of key) (bytes_of k) name (name_ties key k ∙ at)) ∙ e))
