use Rattle.std.proofs.Common.{◌≡◌, ◌<◌, ◌+◌, ◌-◌, ℕ, ◌∙◌, refl, length, take, drop, Some, sym, ap, subst, arith}
use Rattle.std.proofs.lemmas.Bool.{eqb-true}
use Rattle.std.proofs.lemmas.List.{length-take, length-drop}
use Rattle.dbus_walk.specs.Standing.{AllStand}
use Rattle.dbus_value_model.specs.Spelling.{spelling}
use Rattle.dbus_value_model.specs.Values.{ValueTree, MoreValues}
use Rattle.dbus_values.specs.Seen.{AreSeenInside, PassesValue}
use Rattle.dbus_values.specs.States.{ValuesState}
use Rattle.dbus_values.proofs.Views.{no_values, value_of}
use Rattle.dbus_values.proofs.values.ValuesIterator.next.Goals as goal

pub returns-then-is_empty-clause-steps : goal.returns-then-is_empty-clause-steps
returns-then-is_empty-clause-steps c =
    let none = eqb-true (length c.self.inside.types.now) 0 (sym c.if-is_empty.ensures) in
    let ended = ap (λ (s : ValuesState). length s.types) (sym c.self.view_is) ∙ none in
    record {
      first = λ xs rest l. (no_values c.args.self.now xs rest l ended, l);
      parts = λ x us rest l. tt;
      after = λ x us rest l. let e = no_values c.args.self.now (MoreValues x us) rest l ended in absurd cc;
      stays = λ none. refl;
      fewer = tt;
    }

pub pass-seen-requires-clause-stands : goal.pass-seen-requires-clause-stands
pass-seen-requires-clause-stands c =
    let i = c.self.inside in
    let s : ValuesState = record { order = i.source.order; bytes = i.source.bytes.now; at = i.at; types = i.types.now; depth_left = i.depth_left } in
    let some : 0 < length s.types = omega arith in
    let t = c.self.invariant in
    let f = value_of s t.1 t.2 c.type_end-end.result t.3 some c.type_end-end.ensures.value in
    (f.x, _, f.stands)

pub invariant_of-self : goal.invariant_of-self
invariant_of-self c =
    let i = c.self.inside in
    let s : ValuesState = record { order = i.source.order; bytes = i.source.bytes.now; at = i.at; types = i.types.now; depth_left = i.depth_left } in
    let some : 0 < length s.types = omega arith in
    let t = c.self.invariant in
    let end = c.type_end-end.result in
    let f = value_of s t.1 t.2 end t.3 some c.type_end-end.ensures.value in
    let w = c.pass-seen.ensures.seen f.x _ f.stands in
    (omega (arith, t.0, length-take (length s.types - end) (drop end s.types)), f.us, t.2, subst (λ (k : ℕ). AllStand s.order s.depth_left (take (length s.types - end) (drop end s.types)) k s.bytes f.us t.2) (sym w.1) f.others)

pub returns-clause-steps : goal.returns-clause-steps
returns-clause-steps c =
    let i = c.self.inside in
    let s : ValuesState = record { order = i.source.order; bytes = i.source.bytes.now; at = i.at; types = i.types.now; depth_left = i.depth_left } in
    let some : 0 < length s.types = omega arith in
    let end = c.type_end-end.result in
    let left : ValuesState = record { order = s.order; bytes = s.bytes; at = c.pass-seen.result.1; types = take (length s.types - end) (drop end s.types); depth_left = s.depth_left } in
    let passes : PassesValue s (Some c.pass-seen.result.0) left = record {
      first = λ xs rest l.
          let f = value_of s xs rest end l some c.type_end-end.ensures.value in
          let w = c.pass-seen.ensures.seen f.x _ f.stands in
          (f.x, f.us, f.begins, w.0, subst (λ (k : ℕ). AllStand s.order s.depth_left left.types k s.bytes f.us rest) (sym w.1) f.others);
      parts = λ x us rest l.
          let f = value_of s (MoreValues x us) rest end l some c.type_end-end.ensures.value in
          let begins : MoreValues x us ≡ MoreValues f.x f.us = f.begins in
          let same : f.x ≡ x = cc in
          subst (λ (u : ValueTree). AreSeenInside s.order s.bytes s.at u c.pass-seen.result.0) same (c.pass-seen.ensures.parts f.x _ f.stands);
      after = λ x us rest l.
          let f = value_of s (MoreValues x us) rest end l some c.type_end-end.ensures.value in
          let w = c.pass-seen.ensures.seen f.x _ f.stands in
          let begins : MoreValues x us ≡ MoreValues f.x f.us = f.begins in
          let same : f.x ≡ x = cc in
          (refl, refl, w.1 ∙ ap (λ (u : ValueTree). s.at + length (spelling s.order s.at u)) same);
      stays = λ none. absurd cc;
      fewer =
          let less = c.pass-seen.ensures.less in
          (omega (arith, less, length-take end s.types), (refl, omega (arith, length-take (length s.types - end) (drop end s.types), length-drop end s.types)));
    } in
    subst (λ (u : ValuesState). PassesValue u (Some c.pass-seen.result.0) left) c.self.view_is passes
