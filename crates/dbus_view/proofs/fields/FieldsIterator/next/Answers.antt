use Rattle.std.proofs.Common.{◌≡◌, ℕ, List, ◌∷◌, map, Some, ◌-◌, ◌<◌, refl, sym, ap, subst, ◌∙◌, arith}
use Rattle.dbus_message_model.specs.Messages.{FieldTree, field_struct}
use Rattle.dbus_value_model.specs.Values.{ValueTree, ValueTrees, VariantValue, NoValues, MoreValues, value_trees}
use Rattle.dbus_values.specs.Seen.{AreInside}
use Rattle.dbus_values.specs.States.{ElementsState, ValuesState, ElementsAreLeft, IsAfter, AreLeft}
use Rattle.dbus_walk.specs.Fields.{FieldsLeft, field_types, field_end}
use Rattle.dbus_view.specs.Views.{FieldsAreLeft, IsFieldSeen, PassesField, variant_start}
use Rattle.dbus_view.specs.declared.fields.FieldView.{FieldView}
use Rattle.dbus_walk.proofs.FieldParts.{no_field}
use Rattle.dbus_view.proofs.KnownFields.{first, there, value_left, others_begin}
use Rattle.dbus_view.proofs.fields.FieldsIterator.next.Goals as goal

pub returns-then-self-clause-steps : goal.returns-then-self-clause-steps
returns-then-self-clause-steps c =
    let s = c.self.inside in
    let none = λ (fs : List FieldTree) (left : FieldsAreLeft c.args.self.now fs).
    let here = subst (λ (u : ElementsState). ElementsAreLeft u (value_trees (map field_struct fs)) left.0) (sym c.self.view_is) left.1 in
    let l : FieldsLeft s.source s.depth_left s.at s.end fs left.0 = record { some = c.self.invariant.2.some; stand = here } in
    no_field fs l (omega (arith, c.if-self.true)) in
    record {
      first = λ fs left. (none fs left, left);
      value = λ f others left. tt;
      after = λ f others left. let is = none (f ∷ others) left in absurd cc;
      stays = λ is. refl;
    }

pub field_at-field-requires : goal.field_at-field-requires
field_at-field-requires c = let f = first c.self.invariant.2 c.if-self.false in record { stands = (f.f, f.after, f.stands) }

pub new-value-requires : goal.new-value-requires
new-value-requires c =
    let l = c.self.invariant.2 in
    let some = c.if-self.false in
    let spot = c.field_at-field.result in
    ((there l some spot c.field_at-field.ensures).few, MoreValues (first l some).f.value NoValues, _, value_left l some spot c.field_at-field.ensures)

pub invariant_of-self : goal.invariant_of-self
invariant_of-self c =
    let s = c.self.inside in
    let l = c.self.invariant.2 in
    let some = c.if-self.false in
    let f = first l some in
    let e = c.again-passed.ensures ∙ c.new-value.ensures in
    let after = subst (λ (u : ValuesState). (x : ValueTree) (us : ValueTrees) (r : List ℕ) → AreLeft u (MoreValues x us) r → IsAfter u x c.next-seen.new.self) e c.next-seen.ensures.steps.after in
    let ended = c.at-self-inside.ensures ∙ others_begin l some c.field_at-field.result c.field_at-field.ensures c.next-seen.new.self after in
    (f.others, c.self.invariant.1, subst (λ (k : ℕ). FieldsLeft s.source s.depth_left k s.end f.others c.self.invariant.1) (sym ended) f.left)

pub returns-clause-steps : goal.returns-clause-steps
returns-clause-steps c =
    let s = c.self.inside in
    let some = c.if-self.false in
    let spot = c.field_at-field.result in
    let e : ElementsState = record { order = s.source.order; bytes = s.source.bytes.now; at = s.at; end = s.end; type = field_types; depth_left = s.depth_left - 1 } in
    let left : ElementsState = record { order = e.order; bytes = e.bytes; at = c.at-self-inside.result; end = e.end; type = e.type; depth_left = e.depth_left } in
    let field : FieldView = record { code = spot.code; value = c.new-value.result } in
    let same = c.again-passed.ensures ∙ c.new-value.ensures in
    let passed = subst (λ (u : ValuesState). (x : ValueTree) (us : ValueTrees) (r : List ℕ) → AreLeft u (MoreValues x us) r → IsAfter u x c.next-seen.new.self) same c.next-seen.ensures.steps.after in
    let ended = λ (fs : List FieldTree) (rest : List ℕ) (l : FieldsLeft s.source s.depth_left s.at s.end fs rest).
    c.at-self-inside.ensures ∙ others_begin l some spot c.field_at-field.ensures c.next-seen.new.self passed in
    let passes : PassesField e (Some field) left = record {
      first = λ fs t.
          let l : FieldsLeft s.source s.depth_left s.at s.end fs t.0 = record { some = c.self.invariant.2.some; stand = t.1 } in
          let f = first l some in
          let seen : IsFieldSeen field f.f = record {
            code = sym (there l some spot c.field_at-field.ensures).code;
            after = f.after;
            value = subst (λ (u : ValuesState). AreLeft u (MoreValues f.f.value NoValues) f.after) (sym c.new-value.ensures) (value_left l some spot c.field_at-field.ensures);
          } in
          (f.f, f.others, f.begins, seen, (t.0, (subst (λ (k : ℕ). FieldsLeft s.source s.depth_left k s.end f.others t.0) (sym (ended fs t.0 l)) f.left).stand));
      value = λ g others t.
          let l : FieldsLeft s.source s.depth_left s.at s.end (g ∷ others) t.0 = record { some = c.self.invariant.2.some; stand = t.1 } in
          let f = first l some in
          let begins : g ∷ others ≡ f.f ∷ f.others = f.begins in
          let one : f.f ≡ g = cc in
          let is = c.new-value.ensures in
          subst (λ (h : FieldTree). AreInside e.order e.bytes (variant_start e.at) (VariantValue h.value) c.new-value.result) one
          (ap (λ (u : ValuesState). u.order) is, ap (λ (u : ValuesState). u.bytes) is, ap (λ (u : ValuesState). u.at) is ∙ (there l some spot c.field_at-field.ensures).begins);
      after = λ g others t.
          let l : FieldsLeft s.source s.depth_left s.at s.end (g ∷ others) t.0 = record { some = c.self.invariant.2.some; stand = t.1 } in
          let f = first l some in
          let begins : g ∷ others ≡ f.f ∷ f.others = f.begins in
          let one : f.f ≡ g = cc in
          (refl, refl, refl, ended (g ∷ others) t.0 l ∙ ap (λ (h : FieldTree). field_end s.source s.at h) one);
      stays = λ is. absurd cc;
    } in
    subst (λ (u : ElementsState). PassesField u (Some field) left) c.self.view_is passes

pub returns-clause-goes : goal.returns-clause-goes
returns-clause-goes c =
    let l = c.self.invariant.2 in
    let some = c.if-self.false in
    let f = first l some in
    let is = c.self.view_is in
    let e = c.again-passed.ensures ∙ c.new-value.ensures in
    let after = subst (λ (u : ValuesState). (x : ValueTree) (us : ValueTrees) (r : List ℕ) → AreLeft u (MoreValues x us) r → IsAfter u x c.next-seen.new.self) e c.next-seen.ensures.steps.after in
    let ended = c.at-self-inside.ensures ∙ others_begin l some c.field_at-field.result c.field_at-field.ensures c.next-seen.new.self after in
    let fewer : c.self.inside.end - c.at-self-inside.result < c.args.self.now.end - c.args.self.now.at =
    omega (arith, f.some, f.left.stand.ends, ended, ap (λ (u : ElementsState). u.at) is, ap (λ (u : ElementsState). u.end) is) in
    record { on = λ finite. (tt, tt, fewer); keeps = tt; rests = λ finite. tt }
