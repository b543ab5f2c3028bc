use Rattle.std.proofs.Common.{◌≡◌, ◌+◌, ◌<◌, ◌++◌, ◌∷◌, [], ℕ, List, length, take, get_or, arith, ap, sym, subst, ◌∙◌, append_assoc}
use Rattle.std.proofs.lemmas.List.{take_more}
use Rattle.dbus_texts.specs.declared.text_kind.TextKind.{TextKind}
use Rattle.dbus_texts.specs.Scans.{Stands, kind_of}
use Rattle.dbus_texts.specs.Verdicts.{IsPrefixOf}
use Rattle.dbus_texts.proofs.scan.TextScan.take.Goals as goal

take_one : (s : List ℕ) (n : ℕ) (w : List ℕ) → n < length s → (w ++ take n s) ++ get_or s n 0 ∷ [] ≡ w ++ take (n + 1) s
take_one s n w h = append_assoc w (take n s) (get_or s n 0 ∷ []) ∙ ap (λ (t : List ℕ). w ++ t) (sym (take_more s n 0 h))

pub loop-count-preserved : goal.loop-count-preserved
loop-count-preserved c =
    record {
      within = omega arith;
      kind = c.step.ensures.kind ∙ c.loop-count.invariant.kind;
      stands = λ w h. subst (λ (t : List ℕ). Stands c.step.new.self t) (take_one c.args.bytes.now c.loop-count.count w c.loop-count-test.true) (c.step.ensures.stands (w ++ take c.loop-count.count c.args.bytes.now) (c.loop-count.invariant.stands w h) c.if-not-step.false);
    }

pub returns-then-not-step-clause-breaks : goal.returns-then-not-step-clause-breaks
returns-then-not-step-clause-breaks c = λ less w h p.
    let u = w ++ take c.loop-count.count c.args.bytes.now in
    let q : IsPrefixOf (kind_of c.loop-count.self) (u ++ get_or c.args.bytes.now c.loop-count.count 0 ∷ []) =
    subst (λ (k : TextKind). IsPrefixOf k (u ++ get_or c.args.bytes.now c.loop-count.count 0 ∷ [])) (sym c.loop-count.invariant.kind)
    (subst (λ (t : List ℕ). IsPrefixOf (kind_of c.args.self.now) t) (sym (take_one c.args.bytes.now c.loop-count.count w less)) p) in
    let stepped = (c.step.ensures.prefix u (c.loop-count.invariant.stands w h)).1 q in
    let stopped = c.if-not-step.true in
    absurd cc
