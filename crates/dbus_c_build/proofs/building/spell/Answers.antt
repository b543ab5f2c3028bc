use Rattle.std.proofs.Common.{◌-◌, inr, refl, ap, ◌∙◌, arith}
use Rattle.std.proofs.lemmas.Result.{err_from_is_err_and}
use Rattle.dbus_c_build.specs.Drafts.{fields_after}
use Rattle.dbus_c_build.specs.Building.{with_fields}
use Rattle.dbus_c_build.proofs.Spelling.{all_spelled, fields_count}
use Rattle.dbus_c_build.proofs.building.spell.Goals as goal

pub overflow_cast-body : goal.overflow_cast-body
overflow_cast-body g c = omega (arith, c.in_ok-check_lengths.ensures.short 0)

pub returns-in_err-check_lengths-clause-refused : goal.returns-in_err-check_lengths-clause-refused
returns-in_err-check_lengths-clause-refused g c = λ fs kept.
    let p = err_from_is_err_and c.from_residual.result c.from_residual.ensures.1 in
    rw (p.1, p.2) (c.in_err-check_lengths.ensures.refused fs)

pub overflow_sub-length : goal.overflow_sub-length
overflow_sub-length g c =
    let p = c.args.parts.now in
    let kept = c.requires.kept in
    let fixed = c.in_ok-put_fixed.ensures in
    let fields = c.in_ok-append_fields.ensures.appended kept.0 kept.1 ∙ ap (with_fields p.order (fields_after p kept.0)) fixed in
    omega (arith, c.len-length.ensures, fields_count kept.0 p c.append_fields.new.out.items fields)

pub returns-then-length-clause-refused : goal.returns-then-length-clause-refused
returns-then-length-clause-refused g c = λ fs kept.
    let p = c.args.parts.now in
    let fixed = c.in_ok-put_fixed.ensures in
    let fields = c.in_ok-append_fields.ensures.appended fs kept ∙ ap (with_fields p.order (fields_after p fs)) fixed in
    inr (refl, c.in_ok-check_lengths.ensures.short, omega (arith, c.len-length.ensures, c.if-length.true, fields_count fs p c.append_fields.new.out.items fields))

pub set_length-requires : goal.set_length-requires
set_length-requires g c =
    let p = c.args.parts.now in
    let kept = c.requires.kept in
    let fixed = c.in_ok-put_fixed.ensures in
    let fields = c.in_ok-append_fields.ensures.appended kept.0 kept.1 ∙ ap (with_fields p.order (fields_after p kept.0)) fixed in
    omega (arith, fields_count kept.0 p c.append_fields.new.out.items fields)

pub returns-clause-spelled : goal.returns-clause-spelled
returns-clause-spelled g c = λ fs kept.
    let p = c.args.parts.now in
    let fixed = c.in_ok-put_fixed.ensures in
    let fields = c.in_ok-append_fields.ensures.appended fs kept ∙ ap (with_fields p.order (fields_after p fs)) fixed in
    let ends = c.in_ok-extend_from_slice.ensures.items in
    all_spelled fs p c.append_fields.new.out.items c.set_length.new.out.items c.begin_struct.new.out.items c.extend_from_slice.new.self.items (c.len-length.result - 16)
    (omega arith) (omega arith) fields (omega (arith, c.len-length.ensures)) c.set_length.ensures c.in_ok-begin_struct.ensures.written ends

pub returns-clause-bounded : goal.returns-clause-bounded
returns-clause-bounded g c = λ fs kept.
    let p = c.args.parts.now in
    let fixed = c.in_ok-put_fixed.ensures in
    let fields = c.in_ok-append_fields.ensures.appended fs kept ∙ ap (with_fields p.order (fields_after p fs)) fixed in
    record {
      short = c.in_ok-check_lengths.ensures.short;
      fields = omega (arith, c.len-length.ensures, c.if-length.false, fields_count fs p c.append_fields.new.out.items fields);
      numbers = (omega arith, omega arith, omega arith, omega arith, omega arith);
    }
