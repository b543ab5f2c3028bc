use Rattle.std.proofs.Common.{length, sym, ◌∙◌}
use Rattle.std.proofs.lemmas.Bool.{eqb-true}
use Rattle.dbus_json_reader.proofs.Decimals.{not_empty, no_plus, no_zeros, reads, if_some, if_none}
use Rattle.dbus_json_reader.proofs.integers.unsigned_in.Goals as goal

pub returns-then-is_empty-clause-none : goal.returns-then-is_empty-clause-none
returns-then-is_empty-clause-none c = λ e n small is. not_empty c.args.text.now n small is (eqb-true (length c.args.text.now) 0 (sym c.is_empty.ensures ∙ c.if-is_empty.true))

pub returns-then-text-eq43-clause-none : goal.returns-then-text-eq43-clause-none
returns-then-text-eq43-clause-none c = λ e n small is. no_plus c.args.text.now n small is c.if-text-eq43.true

pub returns-then-text-eq48-clause-none : goal.returns-then-text-eq48-clause-none
returns-then-text-eq48-clause-none c = λ e n small is. no_zeros c.args.text.now n small is c.if-text-eq48.true (c.zero_in.ensures.none e)

pub returns-clause-some : goal.returns-clause-some
returns-clause-some c = if_some c.args.text.now c.ok.result (reads _ c.args.text.now c.parse_u64.result c.ok.result c.parse_u64.ensures (sym c.ok.ensures.value) c.if-text-eq43.false (λ z. absurd (c.if-text-eq48.false z)))

pub returns-clause-none : goal.returns-clause-none
returns-clause-none c = if_none c.args.text.now c.ok.result (reads _ c.args.text.now c.parse_u64.result c.ok.result c.parse_u64.ensures (sym c.ok.ensures.value) c.if-text-eq43.false (λ z. absurd (c.if-text-eq48.false z)))
