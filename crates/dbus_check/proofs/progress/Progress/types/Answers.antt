use Rattle.std.proofs.Common.{[], ◌∷◌, ◌+◌, arith}
use Rattle.std.proofs.lemmas.Result.{err_from_is_err_and}
use Rattle.dbus_texts.specs.Types.{SIGNATURE, TextType}
use Rattle.dbus_message_model.specs.Messages.{OfType}
use Rattle.dbus_value_checker.specs.Suspended.{done}
use Rattle.dbus_check.proofs.FieldLaws.{held_stops}
use Rattle.dbus_check.proofs.FieldTexts.{types_stops, types_there, types_broken, types_go}
use Rattle.dbus_check.proofs.progress.Progress.types.Goals as goal

pub returns-in_err-only_front-clause-moves : goal.returns-in_err-only_front-clause-moves
returns-in_err-only_front-clause-moves c = let p = err_from_is_err_and c.from_residual.result c.from_residual.ensures.1 in rw (p.1, p.2) (λ to w.
    let a = c.args in let x = a.self.now in
    held_stops x a.code a.n to w (OfType (TextType SIGNATURE)) c.requires.wanted a.bytes.now (λ (u : Unit {0}). (103 ∷ [], 3)) c.in_err-only_front.field-0.0 (c.in_err-only_front.ensures.gives x.order))

pub returns-in_err-size-clause-moves : goal.returns-in_err-size-clause-moves
returns-in_err-size-clause-moves c = let p = err_from_is_err_and c.from_residual-in_err-size.result c.from_residual-in_err-size.ensures.1 in rw (p.1, p.2) (λ to w.
    let a = c.args in let x = a.self.now in
    types_stops x a.code a.n to w a.bytes.now c.rest_after.result.now c.rest_after.ensures c.requires.wanted (c.in_ok-only_front.ensures.gives x.order) c.in_ok-only_front.ensures.moves.1 c.in_err-size.field-0.0 (c.in_err-size.ensures.gives x.order))

pub returns-clause-moves : goal.returns-clause-moves
returns-clause-moves c = λ to w.
    let a = c.args in let x = a.self.now in let l = c.in_ok-size in let m = l.ensures.moves in (
      types_there x a.code a.n to w a.bytes.now c.rest_after.result.now c.rest_after.ensures c.requires.wanted (c.in_ok-only_front.ensures.gives x.order) c.in_ok-only_front.ensures.moves.1 l.size (l.ensures.gives x.order) (x.offset + a.n + 4) (omega arith),
      types_go x a.code a.n to w a.bytes.now c.rest_after.result.now c.rest_after.ensures c.requires.wanted (c.in_ok-only_front.ensures.gives x.order) c.in_ok-only_front.ensures.moves.1 l.size (l.ensures.gives x.order) (x.offset + a.n + 4) (omega arith)
          c.note.new.self c.clear.new.self c.begin_text.new.self (c.note.ensures w.kept.codes w.keeps.sees) c.clear.ensures c.in_ok-begin_text.ensures.opens (omega arith) (omega arith),
    )

pub returns-in_err-begin_text-clause-moves : goal.returns-in_err-begin_text-clause-moves
returns-in_err-begin_text-clause-moves c = let p = err_from_is_err_and c.from_residual-in_err-begin_text.result c.from_residual-in_err-begin_text.ensures.1 in rw (p.1, p.2) (λ to w.
    let a = c.args in let x = a.self.now in let l = c.in_ok-size in
    types_broken x a.code a.n to w a.bytes.now c.rest_after.result.now c.rest_after.ensures c.requires.wanted (c.in_ok-only_front.ensures.gives x.order) c.in_ok-only_front.ensures.moves.1 l.size (l.ensures.gives x.order) (x.offset + a.n + 4) (omega arith)
    c.in_err-begin_text.field-0.0 c.begin_text.new.self _ c.in_err-begin_text.ensures.opens)
