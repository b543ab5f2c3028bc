-- Header fields one after another, as items of a row.
use Rattle.std.proofs.Common.{◌≡◌, ℕ, ◌+◌, List, [], ◌∷◌, ◌++◌, length, map, refl, sym, ap, subst, ◌∙◌, arith}
use Rattle.std.proofs.lemmas.List.{length-append, map-append}
use Rattle.dbus_value_model.specs.declared.order.Order.{Order}
use Rattle.dbus_value_model.specs.Spelling.{spelling, spellings}
use Rattle.dbus_value_model.specs.Values.{ValueTree, value_trees}
use Rattle.dbus_message_model.specs.Messages.{FieldTree, field_struct}
use Rattle.dbus_walk.proofs.Walks.{spellings_more, starts}
use Rattle.dbus_flatten.specs.declared.flattener.Flattener.{Flattener}
use Rattle.dbus_flatten.specs.Flattening.{Gains, flat, flats}
use Rattle.dbus_flatten.specs.FlattenerLaws.{more_flat, none_flat}

-- the items of these fields are gained, which end there
pub record FieldsFlat (order : Order) (s t : Flattener) (at : ℕ) (done : List FieldTree) : Type 0 where
  pub gained : Gains s 0 (flats order 16 (value_trees (map field_struct done))) 0 t
  pub ends : at ≡ 16 + length (spellings order 16 (value_trees (map field_struct done)))

pub no_fields_flat : (order : Order) (s : Flattener) → FieldsFlat order s s 16 []
no_fields_flat order s = record { gained = none_flat s 0 order 16; ends = starts order 16 }

pub one_more_flat : (order : Order) (s t u : Flattener) (at after later : ℕ) (done : List FieldTree) (f : FieldTree) → FieldsFlat order s t at done
    → Gains t 0 (flat order at (field_struct f)) later u → after ≡ at + length (spelling order at (field_struct f)) → FieldsFlat order s u after (done ++ f ∷ [])
one_more_flat order s t u at after later done f here gains ends =
    let v = field_struct f in
    let xs = map field_struct done in
    let is : map field_struct (done ++ f ∷ []) ≡ xs ++ v ∷ [] = map-append field_struct done (f ∷ []) in
    let stays : later ≡ 0 = gains.stays in
    let more = more_flat s t t u 0 0 later order 16 at xs v here.gained refl here.ends gains in
    let more0 = subst (λ (k : ℕ). Gains s 0 (flats order 16 (value_trees (xs ++ v ∷ []))) k u) stays more in
    let long : length (spellings order 16 (value_trees (xs ++ v ∷ []))) ≡ length (spellings order 16 (value_trees xs)) + length (spelling order at v) =
    ap length (spellings_more order 16 xs v) ∙ length-append (spellings order 16 (value_trees xs)) (spelling order (16 + length (spellings order 16 (value_trees xs))) v)
    ∙ ap (λ (k : ℕ). length (spellings order 16 (value_trees xs)) + length (spelling order k v)) (sym here.ends) in
    record {
      gained = subst (λ (ys : List ValueTree). Gains s 0 (flats order 16 (value_trees ys)) 0 u) (sym is) more0;
      ends = subst (λ (ys : List ValueTree). after ≡ 16 + length (spellings order 16 (value_trees ys))) (sym is) (omega (arith, ends, here.ends, long));
    }
