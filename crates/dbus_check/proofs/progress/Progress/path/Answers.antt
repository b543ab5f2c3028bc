use Rattle.std.proofs.Common.{[], ◌∷◌, refl, arith}
use Rattle.std.proofs.lemmas.Result.{err_from_is_err_and}
use Rattle.dbus_texts.specs.Types.{OBJECT_PATH, TextType}
use Rattle.dbus_message_model.specs.Messages.{OfType}
use Rattle.dbus_check.proofs.FieldLaws.{path_held, held_stops}
use Rattle.dbus_check.proofs.progress.Progress.path.Goals as goal

pub hold-requires-clause-valid : goal.hold-requires-clause-valid
hold-requires-clause-valid c =
    let a = c.args in let x = a.self.now in let v = c.requires.valid in
    (_, TextType OBJECT_PATH, (path_held x a.code a.n v.0 v.1 c.requires.wanted a.bytes.now (c.in_ok-only_front.ensures.gives x.order) c.in_ok-only_front.ensures.moves.1 _ refl, refl, (tt, omega arith)))

pub returns-clause-moves : goal.returns-clause-moves
returns-clause-moves c = λ to w.
    let a = c.args in let x = a.self.now in
    (c.in_ok-only_front.ensures.moves.0, c.hold.ensures _ (TextType OBJECT_PATH) (path_held x a.code a.n to w c.requires.wanted a.bytes.now (c.in_ok-only_front.ensures.gives x.order) c.in_ok-only_front.ensures.moves.1 _ refl) refl (tt, omega arith))

pub returns-in_err-only_front-clause-moves : goal.returns-in_err-only_front-clause-moves
returns-in_err-only_front-clause-moves c = let p = err_from_is_err_and c.from_residual.result c.from_residual.ensures.1 in rw (p.1, p.2) (λ to w.
    let a = c.args in let x = a.self.now in
    held_stops x a.code a.n to w (OfType (TextType OBJECT_PATH)) c.requires.wanted a.bytes.now (λ (u : Unit {0}). (111 ∷ [], 3)) c.in_err-only_front.field-0.0 (c.in_err-only_front.ensures.gives x.order))
