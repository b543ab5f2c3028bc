use Rattle.std.proofs.Common.{[], ◌∷◌, ◌+◌, Ok, arith}
use Rattle.std.proofs.lemmas.Result.{err_from_is_err_and}
use Rattle.dbus_value_model.specs.WantedTexts.{Of}
use Rattle.dbus_message_model.specs.Messages.{Name}
use Rattle.dbus_value_checker.specs.Suspended.{done}
use Rattle.dbus_check.proofs.PassedFields.{name_code}
use Rattle.dbus_check.proofs.FieldLaws.{held_stops, passed_moves}
use Rattle.dbus_check.proofs.FieldTexts.{name_passes, name_stops, name_there, name_broken, name_goes}
use Rattle.dbus_check.proofs.progress.Progress.name.Goals as goal

pub returns-in_err-only_front-clause-moves : goal.returns-in_err-only_front-clause-moves
returns-in_err-only_front-clause-moves c = let p = err_from_is_err_and c.from_residual.result c.from_residual.ensures.1 in rw (p.1, p.2) (λ to w.
    let a = c.args in let x = a.self.now in
    held_stops x a.code a.n to w (Name (Of a.kind)) c.requires.wanted a.bytes.now (λ (u : Unit {0}). (115 ∷ [], 3)) c.in_err-only_front.field-0.0 (c.in_err-only_front.ensures.gives x.order))

pub returns-in_err-size-clause-moves : goal.returns-in_err-size-clause-moves
returns-in_err-size-clause-moves c = let p = err_from_is_err_and c.from_residual-in_err-size.result c.from_residual-in_err-size.ensures.1 in rw (p.1, p.2) (λ to w.
    let a = c.args in let x = a.self.now in
    name_stops x a.code a.n to w a.bytes.now c.rest_after-rest.result.now c.rest_after-rest.ensures a.kind c.requires.wanted (c.in_ok-only_front.ensures.gives x.order) c.in_err-size.field-0.0 c.in_err-size.ensures.gives)

pub begin_text-requires-clause-kind : goal.begin_text-requires-clause-kind
begin_text-requires-clause-kind c = name_code c.args.kind c.args.code c.requires.wanted

pub returns-clause-moves : goal.returns-clause-moves
returns-clause-moves c = λ to w.
    let a = c.args in let x = a.self.now in let l = c.in_ok-size in let m = l.ensures.moves.1 in (
      name_there x a.code a.n to w a.bytes.now c.rest_after-rest.result.now c.rest_after-rest.ensures a.kind c.requires.wanted (c.in_ok-only_front.ensures.gives x.order) l.size l.taken l.ensures.gives (x.offset + a.n + (3 + l.taken)) (omega arith),
      name_goes x a.code a.n to w a.bytes.now c.rest_after-rest.result.now c.rest_after-rest.ensures a.kind c.requires.wanted (c.in_ok-only_front.ensures.gives x.order) l.size l.taken l.ensures.gives (x.offset + a.n + (3 + l.taken)) (omega arith)
          c.note.new.self c.begin_text.new.self (c.note.ensures w.kept.codes w.keeps.sees) c.in_ok-begin_text.ensures.opens (omega arith),
    )

pub returns-in_err-begin_text-clause-moves : goal.returns-in_err-begin_text-clause-moves
returns-in_err-begin_text-clause-moves c = let p = err_from_is_err_and c.from_residual-in_err-begin_text.result c.from_residual-in_err-begin_text.ensures.1 in rw (p.1, p.2) (λ to w.
    let a = c.args in let x = a.self.now in let l = c.in_ok-size in
    name_broken x a.code a.n to w a.bytes.now c.rest_after-rest.result.now c.rest_after-rest.ensures a.kind c.requires.wanted (c.in_ok-only_front.ensures.gives x.order) l.size l.taken l.ensures.gives (x.offset + a.n + (3 + l.taken)) (omega arith)
    c.in_err-begin_text.field-0.0 c.begin_text.new.self _ c.in_err-begin_text.ensures.opens)

pub returns-in-Ok-clause-moves : goal.returns-in-Ok-clause-moves
returns-in-Ok-clause-moves c = λ to w.
    let a = c.args in let x = a.self.now in let l = c.in_ok-size in let m = l.ensures.moves.1 in
    passed_moves x (record x { seen = c.note.new.self; offset = x.offset + a.n + (3 + l.taken) + (l.size + 1) }) a.bytes.now (Ok (3 + l.taken + (l.size + 1))) to c.requires.stage
    (name_passes x a.code a.n to w a.bytes.now c.rest_after-rest.result.now c.rest_after-rest.ensures a.kind c.requires.wanted (c.in_ok-only_front.ensures.gives x.order) l.size l.taken l.ensures.gives (x.offset + a.n + (3 + l.taken)) (omega arith)
    c.note.new.self (c.note.ensures w.kept.codes w.keeps.sees) c.rest_after-text.result.now c.rest_after-text.ensures c.in-Ok.ensures.gives (omega arith))
