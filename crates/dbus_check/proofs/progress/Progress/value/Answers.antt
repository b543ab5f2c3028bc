use Rattle.std.proofs.Common.{ℕ, ◌+◌, ◌∷◌, Ok, Err, refl, ◌∙◌, arith}
use Rattle.std.proofs.lemmas.Result.{err_from_is_err_and}
use Rattle.dbus_texts.specs.Types.{UINT32, NumberType, VariantType}
use Rattle.dbus_message_model.specs.Messages.{OfType, Serial, number_in}
use Rattle.dbus_check.specs.declared.progress.Progress.{Progress}
use Rattle.dbus_check.proofs.PassedFields.{plain_passed, plain_stops, plain_code, field_passed, field_stops, count_code, the_kept, kept_count, not_before}
use Rattle.dbus_check.proofs.FieldLaws.{passed_moves, any_held}
use Rattle.dbus_check.proofs.progress.Progress.value.Goals as goal

pub hold-requires-clause-valid : goal.hold-requires-clause-valid
hold-requires-clause-valid c =
    let a = c.args in let v = c.requires.valid in
    (_, VariantType, (any_held a.self.now a.code a.n v.0 v.1 c.in-Anything.ensures _ refl, refl, (tt, omega arith)))

pub returns-in-Anything-clause-moves : goal.returns-in-Anything-clause-moves
returns-in-Anything-clause-moves c = λ to w.
    let a = c.args in
    (omega arith, c.hold.ensures to VariantType (any_held a.self.now a.code a.n to w c.in-Anything.ensures _ refl) refl (tt, omega arith))

pub returns-in_ok-taken-in-Serial-clause-moves : goal.returns-in_ok-taken-in-Serial-clause-moves
returns-in_ok-taken-in-Serial-clause-moves c = λ to w.
    let a = c.args in let x = a.self.now in let fits = c.in_ok-taken-in-Serial.ensures.moves.1 in
    let taken = c.in_ok-taken-in-Serial.taken in
    let y : Progress = record x { seen = c.note.new.self; offset = x.offset + (a.n + taken.1) } in
    passed_moves x y a.bytes.now (Ok taken.1) to c.requires.stage (plain_passed x a.code a.n to w Serial c.in-Serial.ensures a.bytes.now (plain_code Serial a.code c.in-Serial.ensures (λ e. cc) (λ e. cc)) number_in (λ (x : ℕ × ℕ). x) y taken (c.in_ok-taken-in-Serial.ensures.gives x.limits)
    (record { limits = refl; order = refl; kind = refl; body = refl; end = refl; offset = omega arith }) (omega arith) (c.note.ensures w.kept.codes w.keeps.sees) refl refl)

pub returns-in_err-taken-in-Serial-clause-moves : goal.returns-in_err-taken-in-Serial-clause-moves
returns-in_err-taken-in-Serial-clause-moves c = let p = err_from_is_err_and c.from_residual.result c.from_residual.ensures.1 in rw (p.1, p.2) (λ to w.
    let a = c.args in let x = a.self.now in
    passed_moves x x a.bytes.now (Err c.in_err-taken-in-Serial.field-0.0) to c.requires.stage (plain_stops x a.code a.n to w Serial c.in-Serial.ensures a.bytes.now (plain_code Serial a.code c.in-Serial.ensures (λ e. cc) (λ e. cc)) number_in (λ (x : ℕ × ℕ). x) c.in_err-taken-in-Serial.field-0.0 (c.in_err-taken-in-Serial.ensures.gives x.limits)))

pub returns-in_ok-count-in-Number-clause-moves : goal.returns-in_ok-count-in-Number-clause-moves
returns-in_ok-count-in-Number-clause-moves c = λ to w.
    let a = c.args in let x = a.self.now in let ok = c.in_ok-count-in-Number in let fits = ok.ensures.moves.1 in
    let nine = count_code a.code c.in-Number.ensures in
    let y : Progress = record x { fds = ok.count; seen = c.note-in-Number.new.self; offset = x.offset + (a.n + ok.size) } in
    passed_moves x y a.bytes.now (Ok ok.size) to c.requires.stage (field_passed x a.code a.n to w (OfType (NumberType UINT32)) c.in-Number.ensures a.bytes.now number_in (the_kept (a.code ∷ w.kept.codes) w.kept.text) (λ (y : ℕ × ℕ). y) (λ v. kept_count w.kept a.code w.keeps.no_text w.keeps.no_count v nine w.once)
    y (ok.count, ok.size) (ok.ensures.gives x.limits) (record { limits = refl; order = refl; kind = refl; body = refl; end = refl; offset = omega arith }) (omega arith)
    (record {
      sees = c.note-in-Number.ensures w.kept.codes w.keeps.sees;
      text = w.keeps.text;
      signature = w.keeps.signature;
      count = refl;
      no_text = λ h. w.keeps.no_text (not_before 8 a.code w.kept.codes h).0;
      no_count = λ h. absurd ((not_before 9 a.code w.kept.codes h).1 nine);
    }))

pub returns-in_err-count-in-Number-clause-moves : goal.returns-in_err-count-in-Number-clause-moves
returns-in_err-count-in-Number-clause-moves c = let p = err_from_is_err_and c.from_residual-in_err-count-in-Number.result c.from_residual-in_err-count-in-Number.ensures.1 in rw (p.1, p.2) (λ to w.
    let a = c.args in let x = a.self.now in let nine = count_code a.code c.in-Number.ensures in
    passed_moves x x a.bytes.now (Err c.in_err-count-in-Number.field-0.0) to c.requires.stage (field_stops x a.code a.n to w (OfType (NumberType UINT32)) c.in-Number.ensures a.bytes.now number_in (the_kept (a.code ∷ w.kept.codes) w.kept.text) (λ (y : ℕ × ℕ). y) (λ v. kept_count w.kept a.code w.keeps.no_text w.keeps.no_count v nine w.once)
    c.in_err-count-in-Number.field-0.0 (c.in_err-count-in-Number.ensures.gives x.limits)))
