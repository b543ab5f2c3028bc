use Rattle.std.proofs.Common.{◌≡◌, ℕ, List, Bool, true, false, ◌&&◌, Option, None, Some, if◌then◌else◌, option_map, string_bytes, refl, sym, ap, ◌∙◌, subst, arith}
use Rattle.std.specs.Prelude.{String}
use Rattle.std.specs.BTreeMap.{get_by_text}
use Rattle.std.specs.Option.{is_none, is_some}
use Rattle.std.specs.Str.{bytes_eq}
use Rattle.std.specs.declared.alloc.Global.{Global}
use Rattle.std.proofs.lemmas.Bool.{false≢true}
use Rattle.std.proofs.lemmas.Map.Text.{text_keys}
use Rattle.std.proofs.lemmas.Slice.Eq.{bytes_eq-Decides}
use Rattle.dbus_names.specs.Kept.{kept_names}
use Rattle.dbus_names.proofs.first_names.FirstNames.note.Goals as goal

none_mapped : {A B : Type 0} (f : A → B) (r : Option A) → is_some r ≡ false → is_none (option_map f r) ≡ true
none_mapped f None e = refl
none_mapped f (Some x) e = absurd (false≢true (sym e))

put : (s : String Global) (name : List ℕ) (b none : Bool) (x : Option (String Global)) → string_bytes s ≡ name → (b ≡ true → none ≡ true)
    → option_map string_bytes (if b then Some s else x) ≡ (if b && none then Some name else option_map string_bytes x)
put s name true none x is k = ap (λ t. Some t) is ∙ ap (λ z. if z then Some name else option_map string_bytes x) (sym (k refl))
put s name false none x is k = refl

pub returns-in-Ok-clause-is_first : goal.returns-in-Ok-clause-is_first
returns-in-Ok-clause-is_first c = sym (ap is_none (sym c.of.ensures) ∙ none_mapped (λ name. name.now) c.of.result (sym c.is_some.ensures ∙ c.if-is_some.false))

pub returns-in-Ok-clause-noted : goal.returns-in-Ok-clause-noted
returns-in-Ok-clause-noted c = λ u.
    let old = c.args.self.now in
    let os = c.args.owners.now in
    let unique = c.args.unique.now in
    let own : is_none (kept_names old os unique) ≡ true = ap is_none (sym c.of.ensures) ∙ none_mapped (λ name. name.now) c.of.result (sym c.is_some.ensures ∙ c.if-is_some.false) in
    let at : bytes_eq unique u ≡ true → is_none (kept_names old os u) ≡ true =
    λ same. subst (λ (v : List ℕ). is_none (kept_names old os v) ≡ true) ((bytes_eq-Decides unique u).0 same) own in
    let went : get_by_text c.insert.new.self u ≡ (if bytes_eq unique u then Some c.in_ok-name.name else get_by_text old.names u) = grind (arith, text_keys) in
    ap (λ o. option_map string_bytes o) went
    ∙ put c.in_ok-name.name c.args.name.now (bytes_eq unique u) (is_none (kept_names old os u)) (get_by_text old.names u) c.in_ok-name.ensures.ok at
