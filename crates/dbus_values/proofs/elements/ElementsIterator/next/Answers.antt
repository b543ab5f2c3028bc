use Rattle.std.proofs.Common.{◌≡◌, ℕ, ◌+◌, ◌-◌, ◌<◌, ◌∙◌, length, Some, refl, sym, ap, subst, arith}
use Rattle.dbus_value_model.specs.Spelling.{spelling}
use Rattle.dbus_value_model.specs.Values.{ValueTree, MoreValues}
use Rattle.dbus_walk.specs.Standing.{ElementsStand}
use Rattle.dbus_values.specs.States.{ElementsState}
use Rattle.dbus_values.specs.Seen.{AreSeenInside, PassesElement}
use Rattle.dbus_walk.proofs.Lists.{no_elements, element_of}
use Rattle.dbus_values.proofs.elements.ElementsIterator.next.Goals as goal

pub returns-then-self-clause-steps : goal.returns-then-self-clause-steps
returns-then-self-clause-steps c =
    let is = c.self.view_is in
    let ended = ap (λ (s : ElementsState). s.at) (sym is) ∙ c.if-self.true ∙ ap (λ (s : ElementsState). s.end) is in
    record {
      first = λ xs rest l. (no_elements xs l (omega (arith, ended)), l);
      parts = λ x us rest l. tt;
      after = λ x us rest l. let e = no_elements (MoreValues x us) l (omega (arith, ended)) in absurd cc;
      stays = λ none. refl;
      fewer = tt;
    }

pub pass-seen-requires-clause-stands : goal.pass-seen-requires-clause-stands
pass-seen-requires-clause-stands c =
    let s = c.self.inside in
    let e : ElementsState = record { order = s.source.order; bytes = s.source.bytes.now; at = s.at; end = s.end; type = s.element.now; depth_left = s.depth_left } in
    let t = c.self.invariant in
    let f = element_of t.1 t.3 c.if-self.false in
    (f.v, _, f.stands)

pub invariant_of-self : goal.invariant_of-self
invariant_of-self c =
    let s = c.self.inside in
    let e : ElementsState = record { order = s.source.order; bytes = s.source.bytes.now; at = s.at; end = s.end; type = s.element.now; depth_left = s.depth_left } in
    let t = c.self.invariant in
    let f = element_of t.1 t.3 c.if-self.false in
    let w = c.pass-seen.ensures.seen f.v _ f.stands in
    (t.0, f.us, t.2, subst (λ (k : ℕ). ElementsStand e.order e.depth_left e.type k e.end e.bytes f.us t.2) (sym w.1) f.others)

pub returns-clause-steps : goal.returns-clause-steps
returns-clause-steps c =
    let s = c.self.inside in
    let e : ElementsState = record { order = s.source.order; bytes = s.source.bytes.now; at = s.at; end = s.end; type = s.element.now; depth_left = s.depth_left } in
    let left : ElementsState = record { order = e.order; bytes = e.bytes; at = c.pass-seen.result.1; end = e.end; type = e.type; depth_left = e.depth_left } in
    let t = c.self.invariant in
    let passes : PassesElement e (Some c.pass-seen.result.0) left = record {
      first = λ xs rest l.
          let f = element_of xs l c.if-self.false in
          let w = c.pass-seen.ensures.seen f.v _ f.stands in
          (f.v, f.us, f.begins, w.0, subst (λ (k : ℕ). ElementsStand e.order e.depth_left e.type k e.end e.bytes f.us rest) (sym w.1) f.others);
      parts = λ x us rest l.
          let f = element_of (MoreValues x us) l c.if-self.false in
          let begins : MoreValues x us ≡ MoreValues f.v f.us = f.begins in
          let same : f.v ≡ x = cc in
          subst (λ (u : ValueTree). AreSeenInside e.order e.bytes e.at u c.pass-seen.result.0) same (c.pass-seen.ensures.parts f.v _ f.stands);
      after = λ x us rest l.
          let f = element_of (MoreValues x us) l c.if-self.false in
          let w = c.pass-seen.ensures.seen f.v _ f.stands in
          let begins : MoreValues x us ≡ MoreValues f.v f.us = f.begins in
          let same : f.v ≡ x = cc in
          (refl, refl, refl, w.1 ∙ ap (λ (u : ValueTree). e.at + length (spelling e.order e.at u)) same);
      stays = λ none. absurd cc;
      fewer =
          let f = element_of t.1 t.3 c.if-self.false in
          let w = c.pass-seen.ensures.seen f.v _ f.stands in
          (c.pass-seen.ensures.less, (refl, refl, omega (arith, w.1, f.some, f.inside)));
    } in
    subst (λ (u : ElementsState). PassesElement u (Some c.pass-seen.result.0) left) c.self.view_is passes

pub returns-clause-goes : goal.returns-clause-goes
returns-clause-goes c =
    let s = c.self.inside in
    let e : ElementsState = record { order = s.source.order; bytes = s.source.bytes.now; at = s.at; end = s.end; type = s.element.now; depth_left = s.depth_left } in
    let t = c.self.invariant in
    let f = element_of t.1 t.3 c.if-self.false in
    let w = c.pass-seen.ensures.seen f.v _ f.stands in
    let less : e.end - c.pass-seen.result.1 < e.end - e.at = omega (arith, w.1, f.some, f.inside) in
    let is = c.self.view_is in
    let fewer : e.end - c.pass-seen.result.1 < c.args.self.now.end - c.args.self.now.at = omega (arith, less, ap (λ (u : ElementsState). u.at) is, ap (λ (u : ElementsState). u.end) is) in
    record { on = λ finite. (tt, tt, fewer); keeps = tt; rests = λ finite. tt }
