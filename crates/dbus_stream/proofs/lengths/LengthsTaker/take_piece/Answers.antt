use mathlib.Core.Logic.{∥∥₁_elim}
use Rattle.std.proofs.Common.{◌≡◌, ℕ, ◌+◌, List, ◌++◌, [], length, ap, arith, sym, subst, ◌∙◌, append-nil}
use Rattle.std.proofs.Math.Logic.{∥∥₁_map}
use Rattle.std.specs.Coded.{le_prop}
use Rattle.std.proofs.Math.Nat.{zero-add}
use Rattle.std.proofs.lemmas.Bool.{eqb-true}
use Rattle.std.proofs.lemmas.List.{nil_from_length}
use Rattle.dbus_header.specs.MessageOutcomes.{IsPartial, IsWhole}
use Rattle.dbus_header.proofs.OutcomeLaws.{nothing_partial, whole_inside}
use Rattle.dbus_value_model.specs.declared.limits.Limits.{Limits}
use Rattle.dbus_check.specs.Checks.{Takes}
use Rattle.dbus_check.specs.declared.check.Check.TheVariants as check
use Rattle.dbus_stream.specs.CheckReading.{lengths}
use Rattle.dbus_stream.specs.Taking.{Completes}
use Rattle.dbus_stream.proofs.CutterSteps.{ends_later}
use Rattle.dbus_stream.proofs.lengths.LengthsTaker.take_piece.Goals as goal

pub returns-then-is_empty-clause-takes : goal.returns-then-is_empty-clause-takes
returns-then-is_empty-clause-takes c = λ w holds size.
    let t = c.args.self.now in
    let piece = c.args.piece.now in
    let length_none : length piece ≡ 0 = eqb-true (length piece) 0 (sym c.is_empty.ensures ∙ c.if-is_empty.true) in
    let same : w ≡ w ++ piece = sym (ap (λ (p : List ℕ). w ++ p) (nil_from_length piece length_none) ∙ append-nil w) in
    (subst (IsPartial t.limits) same holds.1, sym length_none, record { holds = subst (λ v. lengths.holds t v) same holds; rests = tt })

pub returns-in-Some-clause-within : goal.returns-in-Some-clause-within
returns-in-Some-clause-within c =
    let j = c.in-Some.ensures.validated in
    (whole_inside c.args.self.now.limits c.args.piece.now c.in-Some.validated.order j.message c.in-Some.validated.length j.whole).1

pub returns-in-Some-clause-takes : goal.returns-in-Some-clause-takes
returns-in-Some-clause-takes c = λ w stands size.
    let t = c.args.self.now in
    let piece = c.args.piece.now in
    let j = c.in-Some.ensures.validated in
    let n = c.in-Some.validated.length in
    let none : [] ≡ w = sym (nil_from_length w (sym size ∙ c.if-held-eq0.true)) in
    subst (λ v. Completes lengths t v piece t n n) none (record {
      order = c.in-Some.validated.order;
      message = j.message;
      whole = subst (λ k. IsWhole t.limits piece c.in-Some.validated.order j.message k) (sym (zero-add n)) j.whole;
      some = (whole_inside t.limits piece c.in-Some.validated.order j.message n j.whole).0;
      gives = sym (zero-add n);
      holds = subst (λ v. lengths.holds t v) (sym none) stands;
      lends = λ some. absurd (omega (arith, some));
    })

pub returns-in-Done-clause-takes : goal.returns-in-Done-clause-takes
returns-in-Done-clause-takes c = λ w holds size.
    let t = c.args.self.now in
    let piece = c.args.piece.now in
    let n = c.in-Done.count in
    let takes : Takes t.limits w piece (check.Done n) = subst (λ (l : Limits). Takes l w piece (check.Done n)) t.same_limits (c.in-Done.ensures.answers w holds.0) in
    record {
      order = takes.1;
      message = takes.2;
      whole = takes.3;
      some = ends_later t.limits w piece n takes.1 takes.2 holds.1 takes.3;
      gives = ap (λ (k : ℕ). k + n) size;
      holds = (c.restart.ensures.stands, nothing_partial t.limits);
      lends = λ some. absurd (omega (arith, some));
    }

pub returns-in-Done-clause-within : goal.returns-in-Done-clause-within
returns-in-Done-clause-within c =
    ∥∥₁_elim c.args.self.now.handed le_prop (λ held. (c.in-Done.ensures.answers held.0 held.1).0)

pub invariant_of-self-in-Partial : goal.invariant_of-self-in-Partial
invariant_of-self-in-Partial c =
    let t = c.args.self.now in
    record {
      same_limits = c.take.ensures.limits ∙ t.same_limits;
      handed = ∥∥₁_map t.handed (λ held. (held.0 ++ c.args.piece.now, c.in-Partial.ensures.stands held.0 held.1));
    }

pub invariant_of-self-in-Refused-1 : goal.invariant_of-self-in-Refused-1
invariant_of-self-in-Refused-1 c =
    let t = c.args.self.now in
    record {
      same_limits = c.take.ensures.limits ∙ t.same_limits;
      handed = ∥∥₁_map t.handed (λ held. (held.0 ++ c.args.piece.now, c.in-Refused.ensures.stands held.0 held.1));
    }
