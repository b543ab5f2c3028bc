use Rattle.dbus_texts.specs.Types.{ArrayType, StructType, EntryType, TypeTree, IsShaped}
use Rattle.dbus_types.proofs.TypeCodes.{array_is, struct_is, entry_is, struct_shaped, entry_shaped}
use Rattle.std.proofs.Common.{rules, sym, subst, true}
use Rattle.dbus_explain.specs.Places.{EntersNone}
use Rattle.dbus_explain.proofs.Searching.{leads_by, some_map}
use Rattle.dbus_explain.proofs.Entering.{none_in}
use Rattle.dbus_explain.proofs.search.Search.entered.Goals as goal

pub returns-in-97-clause-leads : goal.returns-in-97-clause-leads
returns-in-97-clause-leads c =
    some_map c.element.result (λ r leads t is shaped.
    let array = array_is t c.args.spot.types.now is (search rules) in
    leads_by c.args.self.now.bytes.now c.args.self.now.at t c.args.spot.place r.0 r.1 (ArrayType array.0) array.1
    (leads array.0 array.2 (subst (λ (x : TypeTree). IsShaped true x) array.1 shaped))) c.element.ensures.leads

pub returns-in-40-clause-leads : goal.returns-in-40-clause-leads
returns-in-40-clause-leads c =
    some_map c.member.result (λ r leads t is shaped.
    let whole = struct_is t c.args.spot.types.now is (search rules) in
    leads_by c.args.self.now.bytes.now c.args.self.now.at t c.args.spot.place r.0 r.1 (StructType whole.0) whole.1
    (leads whole.0 whole.2 (struct_shaped whole.0 (subst (λ (x : TypeTree). IsShaped true x) whole.1 shaped)))) c.member.ensures.leads

pub returns-in-123-clause-leads : goal.returns-in-123-clause-leads
returns-in-123-clause-leads c =
    some_map c.half.result (λ r leads t is shaped.
    let entry = entry_is t c.args.spot.types.now is (search rules) in
    leads_by c.args.self.now.bytes.now c.args.self.now.at t c.args.spot.place r.0 r.1 (EntryType entry.0 entry.1) entry.2
    (leads entry.0 entry.1 entry.3 (entry_shaped entry.0 entry.1 (subst (λ (x : TypeTree). IsShaped true x) entry.2 shaped)))) c.half.ensures.leads

pub returns-in-40-clause-none : goal.returns-in-40-clause-none
returns-in-40-clause-none c = λ none t is shaped.
    let self = c.args.self.now in
    let whole = struct_is t c.args.spot.types.now is (search rules) in
    subst (λ (x : TypeTree). EntersNone self.bytes.now self.at x c.args.spot.place) (sym whole.1)
    (c.member.ensures.none none whole.0 whole.2 (struct_shaped whole.0 (subst (λ (x : TypeTree). IsShaped true x) whole.1 shaped)))

pub returns-in-123-clause-none : goal.returns-in-123-clause-none
returns-in-123-clause-none c = λ none t is shaped.
    let self = c.args.self.now in
    let entry = entry_is t c.args.spot.types.now is (search rules) in
    subst (λ (x : TypeTree). EntersNone self.bytes.now self.at x c.args.spot.place) (sym entry.2)
    (c.half.ensures.none none entry.0 entry.1 entry.3 (entry_shaped entry.0 entry.1 (subst (λ (x : TypeTree). IsShaped true x) entry.2 shaped)))

pub returns-in_default-clause-none : goal.returns-in_default-clause-none
returns-in_default-clause-none c = λ none t is shaped step u q h.
    let self = c.args.self.now in
    none_in self.bytes.now self.at t c.args.spot.types.now c.args.spot.place step u q is (λ e. search rules) (λ long first last. search rules) (λ long first last. search rules) (λ long first. search rules) h
