use Rattle.std.proofs.Common.{◌≡◌, ℕ, List, IfSome, Option, Some, None, codes, rules}
use Rattle.std.specs.Borrow.{Bor}
use Rattle.json.specs.Value.{value_view}
use Rattle.json.specs.declared.value.Value.{Value}
use Rattle.dbus_json_reader.proofs.Shapes.{two_members, in_order, turned}
use Rattle.dbus_json_reader.proofs.values.typed_members.Goals as goal

if_some : {A : Type 0} (P Q : Bor (List ℕ) × Bor (Value A) → Type 0) (o : Option (Bor (List ℕ) × Bor (Value A))) → IfSome o P → ((r : Bor (List ℕ) × Bor (Value A)) → P r → Q r) → IfSome o Q
if_some P Q None h f = tt
if_some P Q (Some r) h f = f r h

pub returns-then-members-ne2-clause-none : goal.returns-then-members-ne2-clause-none
returns-then-members-ne2-clause-none g c = λ none text value h. c.if-members-ne2.true (two_members c.args.members.now text value h)

pub returns-then-eq-2-clause-some : goal.returns-then-eq-2-clause-some
returns-then-eq-2-clause-some g c =
    let a = c.index-members-0.result in
    let b = c.index-members-1.result in
    let type : a.0.now ≡ codes "type" = search rules in
    let value : b.0.now ≡ codes "value" = search rules in
    if_some _ _ c.text_beside.result c.text_beside.ensures.some (λ r h. in_order c.args.members.now a b c.if-members-ne2.false c.index-members-0.is c.index-members-1.is r.0.now (value_view r.1.now) type value h.0 h.1)

pub returns-then-eq-4-clause-some : goal.returns-then-eq-4-clause-some
returns-then-eq-4-clause-some g c =
    let a = c.index-members-0.result in
    let b = c.index-members-1.result in
    let value : a.0.now ≡ codes "value" = search rules in
    let type : b.0.now ≡ codes "type" = search rules in
    if_some _ _ c.text_beside-then-eq-4.result c.text_beside-then-eq-4.ensures.some (λ r h. turned c.args.members.now a b c.if-members-ne2.false c.index-members-0.is c.index-members-1.is r.0.now (value_view r.1.now) value type h.0 h.1)
