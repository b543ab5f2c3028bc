use Rattle.std.proofs.Common.{◌≡◌, ℕ, ◌+◌, ◌≤◌, List, ◌++◌, length, refl, sym, ap, subst, ◌∙◌}
use Rattle.dbus_value_checker.specs.Suspended.{done}
use Rattle.dbus_check.proofs.ValueStages.{types_refused, types_room, types_ended, types_on, types_still}
use Rattle.dbus_check.proofs.progress.Progress.more_types.Goals as goal

pub run-requires : goal.run-requires
run-requires c = let v = c.requires.valid.1 in record { valid = (_, v.value done) }

pub note-requires : goal.note-requires
note-requires c =
    let x = c.args.self.now in let v = c.requires.valid in
    record { room = subst (λ (u : List ℕ). length x.signature.items + length u ≤ 256) (sym c.front.ensures) (types_room x v.0 v.1 c.run.new.self c.args.bytes.now c.in-Ok.n c.in-Ok.ensures.runs) }

pub returns-then-not-is_live-clause-steps : goal.returns-then-not-is_live-clause-steps
returns-then-not-is_live-clause-steps c = λ to w.
    let x = c.args.self.now in
    types_ended x to w c.run.new.self c.args.bytes.now c.in-Ok.n c.in-Ok.ensures.runs (λ h. let e = c.if-not-is_live.ensures.1 h in absurd cc) _ c.note.new.signature.items (rw c.offset-self.ensures refl)
    (c.note.ensures ∙ ap (λ (u : List ℕ). x.signature.items ++ u) c.front.ensures) c.pop.ensures.rest

pub returns-then-n-eq0-clause-steps : goal.returns-then-n-eq0-clause-steps
returns-then-n-eq0-clause-steps c = λ to w.
    let x = c.args.self.now in
    types_still x to w c.run.new.self c.args.bytes.now c.in-Ok.n c.in-Ok.ensures.runs _ refl (c.note.ensures ∙ ap (λ (u : List ℕ). x.signature.items ++ u) c.front.ensures) c.requires.stage c.if-n-eq0.true (c.if-not-is_live.ensures.0 refl)

pub returns-else-n-eq0-clause-steps : goal.returns-else-n-eq0-clause-steps
returns-else-n-eq0-clause-steps c = λ to w.
    let x = c.args.self.now in
    types_on x to w c.run.new.self c.args.bytes.now c.in-Ok.n c.in-Ok.ensures.runs _ refl (c.note.ensures ∙ ap (λ (u : List ℕ). x.signature.items ++ u) c.front.ensures) c.requires.stage

pub returns-in-Err-clause-steps : goal.returns-in-Err-clause-steps
returns-in-Err-clause-steps c = λ to w. types_refused c.args.self.now to w c.run.new.self c.args.bytes.now c.in-Err.fault c.in-Err.ensures.runs
