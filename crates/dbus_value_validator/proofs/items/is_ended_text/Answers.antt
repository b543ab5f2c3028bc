use Rattle.std.proofs.Common.{◌≡◌, ◌+◌, ◌-◌, take, drop, ap, refl, sym, subst, arith, ℕ}
use Rattle.dbus_texts.specs.Kinds.{IsKind}
use Rattle.dbus_value_model.specs.Reading.{nul}
use Rattle.dbus_value_laws.proofs.ReadSteps.{nul_faulty}
use Rattle.dbus_value_validator.proofs.ReadParts.{not_faulty}
use Rattle.dbus_value_validator.proofs.ItemSteps.{text_ends}
use Rattle.dbus_value_validator.proofs.items.is_ended_text.Goals as goal

pub returns-in-None-clause-accepts : goal.returns-in-None-clause-accepts
returns-in-None-clause-accepts c = λ yes.
    let long : c.args.start + c.args.n - c.args.start ≡ c.args.n = omega arith in
    let is = ap (λ (m : ℕ). take m (drop c.args.start c.args.bytes.now)) long in
    text_ends c.args.kind c.args.n c.args.start c.args.bytes.now (take (c.args.start + c.args.n - c.args.start) (drop c.args.start c.args.bytes.now)) c.requires is c.in-None.ensures c.if-bytes-start-ne0.false

pub returns-then-bytes-start-ne0-clause-refuses : goal.returns-then-bytes-start-ne0-clause-refuses
returns-then-bytes-start-ne0-clause-refuses c = λ none ended.
    not_faulty (nul (c.args.start + c.args.n) (drop (c.args.start + c.args.n) c.args.bytes.now)) _ (nul_faulty (c.args.start + c.args.n) c.args.bytes.now c.requires c.if-bytes-start-ne0.true) tt (c.args.start + c.args.n + 1) (drop (c.args.start + c.args.n + 1) c.args.bytes.now) ended.is_ended

pub returns-in-Some-clause-refuses : goal.returns-in-Some-clause-refuses
returns-in-Some-clause-refuses c = λ none ended.
    let long : c.args.start + c.args.n - c.args.start ≡ c.args.n = omega arith in
    c.in-Some.ensures.0 (subst (λ (m : ℕ). IsKind c.args.kind (take m (drop c.args.start c.args.bytes.now))) (sym long) ended.is_kind)

pub returns-then-is_seen_at_once-clause-accepts : goal.returns-then-is_seen_at_once-clause-accepts
returns-then-is_seen_at_once-clause-accepts c = λ yes.
    text_ends c.args.kind c.args.n c.args.start c.args.bytes.now _ c.requires refl (c.is_seen_at_once.ensures c.if-is_seen_at_once.true) c.if-bytes-start-ne0.false
