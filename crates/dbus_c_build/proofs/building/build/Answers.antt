use Rattle.std.proofs.Common.{refl, subst, ◌∙◌, List, ℕ}
use Rattle.std.proofs.lemmas.Result.{err_from_is_err_and}
use Rattle.dbus_validate.specs.Validating.{IsValidated}
use Rattle.dbus_header.specs.NoMessage.{BeginsWithNone, IsFaultAtEnd}
use Rattle.dbus_explain.specs.Explained.{place_in}
use Rattle.dbus_explain.specs.Names.{IsFieldOf}
use Rattle.dbus_c_build.proofs.SameFields.{all_spelled}
use Rattle.dbus_c_build.proofs.Refusing.{built_so, none_so, refused_so}
use Rattle.dbus_c_build.proofs.building.build.Goals as goal

pub returns-in_err-out-clause-refused : goal.returns-in_err-out-clause-refused
returns-in_err-out-clause-refused g c = λ fs kept.
    let given = c.args.given.now in
    let p = err_from_is_err_and c.from_residual.result c.from_residual.ensures.1 in
    rw (p.1, p.2) (refused_so given.limits fs c.args.parts.now c.in_err-out.field-0.0 (c.in_err-out.ensures.refused fs kept))

pub returns-in-Some-clause-built : goal.returns-in-Some-clause-built
returns-in-Some-clause-built g c = λ fs kept.
    let given = c.args.given.now in
    let p = c.args.parts.now in
    let out = c.in_ok-out.out.items in
    let validated = subst (λ (l : List ℕ). IsValidated given.limits l c.in-Some.field-0) c.as_slice.ensures.value c.in-Some.ensures.validated in
    built_so given.limits fs p out c.in-Some.field-0 (c.in_ok-out.ensures.spelled fs kept) (c.in_ok-out.ensures.bounded fs kept) (all_spelled given p.order fs kept) validated

pub returns-in-None-clause-refused : goal.returns-in-None-clause-refused
returns-in-None-clause-refused g c = λ fs kept.
    let given = c.args.given.now in
    let p = c.args.parts.now in
    let out = c.in_ok-out.out.items in
    let spelled = c.in_ok-out.ensures.spelled fs kept in
    let none = subst (λ (l : List ℕ). BeginsWithNone given.limits l) c.as_slice.ensures.value (c.in-None.ensures.none refl) in
    let fault = subst (λ (l : List ℕ). IsFaultAtEnd given.limits l c.fault_at_end-fault.result) (c.as_slice-in-None.ensures.value ∙ spelled) c.fault_at_end-fault.ensures in
    let field = subst (λ (l : List ℕ). IsFieldOf l c.fault_at_end-fault.result.reason (place_in l c.fault_at_end-fault.result) c.field_of.result) (c.as_slice-in-None-2.ensures.value ∙ spelled) c.field_of.ensures in
    (none_so given.limits fs p out spelled none, c.in_ok-out.ensures.bounded fs kept, fault, field)
