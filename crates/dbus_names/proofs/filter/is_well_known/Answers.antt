use Rattle.std.proofs.Common.{◌≡◌, ℕ, List, Bool, true, false, not, ◌&&◌, Option, None, Some, refl, sym, ap, ◌∙◌, subst}
use Rattle.std.specs.Option.{is_none, is_some}
use Rattle.dbus_texts.specs.ComputedKinds.{is_kind}
use Rattle.dbus_texts.specs.Verdicts.{IsTextBreak}
use Rattle.dbus_texts.specs.declared.text_kind.TextKind.TheVariants.{BusName}
use Rattle.dbus_texts.proofs.KindFacts.{is_kind_of, kind_is}
use Rattle.dbus_names.proofs.filter.is_well_known.Goals as goal

turned : (r b : Bool) → b ≡ not r → r ≡ not b
turned true b e = ap not (sym e)
turned false b e = ap not (sym e)

none_of : (name : List ℕ) (at : Option ℕ) → IsTextBreak BusName name at → is_none at ≡ is_kind BusName name
none_of name None h = sym (is_kind_of BusName name h)
none_of name (Some at) h = by (is_kind BusName name) refl
  where
    by : (b : Bool) → is_kind BusName name ≡ b → false ≡ is_kind BusName name
    by true is = absurd (h.0 (kind_is BusName name is))
    by false is = sym is

pub returns-then-is_ownable : goal.returns-then-is_ownable
returns-then-is_ownable c =
    let name = c.args.name.now in
    let at = subst (λ (w : List ℕ). IsTextBreak BusName w c.text_break.result) c.as_bytes.ensures.value c.text_break.ensures in
    turned c.is_none.result (is_some c.text_break.result) c.is_none.ensures
    ∙ (none_of name c.text_break.result at ∙ ap (λ b. b && is_kind BusName name) (sym (sym c.is_ownable.ensures ∙ c.if-is_ownable.true)))
