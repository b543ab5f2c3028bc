use Rattle.std.proofs.Common.{◌≡◌, ◌<◌, length, take, arith, sym, ap, ◌∙◌}
use Rattle.std.proofs.lemmas.List.{length-take-le, take_all}
use Rattle.std.specs.Coded.{le_prop}
use mathlib.Core.Logic.{∥∥₁_elim}
use Rattle.dbus_value_model.specs.SizeLimits.{with_padding}
use Rattle.dbus_value_model.specs.ValueViews.{value_trees_of}
use Rattle.dbus_message_model.specs.Messages.{MessageTree, message_bytes}
use Rattle.dbus_message_model.specs.PartsViews.{parts_tree, field_trees}
use Rattle.dbus_message_model.proofs.BothOrders.{short_all, short_fields, shorts_prop}
use Rattle.dbus_encode.proofs.Encoded.{long_fields, fits_fields, fits_start, fits_body, step_fields, step_length, step_body, step_all}
use Rattle.dbus_encode.proofs.encoding.write_whole.Goals as goal

pub write_fixed-fields_start-requires : goal.write_fixed-fields_start-requires
write_fixed-fields_start-requires g c =
    let m = parts_tree c.parts-parts.result.now in
    let size = c.requires.size ∙ ap (λ (t : MessageTree). length (message_bytes c.args.order t)) (sym c.parts-parts.ensures.same) in
    record { space = omega (arith, size, long_fields c.args.order m, fits_fields c.args.order m) }

pub write_fields-fields_end-requires-clause-start : goal.write_fields-fields_end-requires-clause-start
write_fields-fields_end-requires-clause-start g c =
    let m = parts_tree c.parts-parts.result.now in
    let size = c.requires.size ∙ ap (λ (t : MessageTree). length (message_bytes c.args.order t)) (sym c.parts-parts.ensures.same) in
    omega (arith, size, long_fields c.args.order m, fits_fields c.args.order m)

pub write_fields-fields_end-requires-clause-space : goal.write_fields-fields_end-requires-clause-space
write_fields-fields_end-requires-clause-space g c =
    let m = parts_tree c.parts-parts.result.now in
    let size = c.requires.size ∙ ap (λ (t : MessageTree). length (message_bytes c.args.order t)) (sym c.parts-parts.ensures.same) in
    let first = c.write_fixed-fields_start in
    let made = step_fields c.args.order m (field_trees c.deref.result.now) (take first.result first.new.out) (ap field_trees c.deref.ensures.value) first.ensures.written in
    omega (arith, size, ap length made, fits_fields c.args.order m)

pub write_fields-fields_end-requires-clause-signed : goal.write_fields-fields_end-requires-clause-signed
write_fields-fields_end-requires-clause-signed g c =
    ∥∥₁_elim c.parts-parts.ensures.valid (shorts_prop _) (λ v. rw c.deref.ensures.value (short_fields 63 (parts_tree c.parts-parts.result.now).fields (v c.args.order).formed_fields))

pub overflow_sub-fields_end : goal.overflow_sub-fields_end
overflow_sub-fields_end g c =
    let m = parts_tree c.parts-parts.result.now in
    let size = c.requires.size ∙ ap (λ (t : MessageTree). length (message_bytes c.args.order t)) (sym c.parts-parts.ensures.same) in
    let first = c.write_fixed-fields_start in
    let made = step_fields c.args.order m (field_trees c.deref.result.now) (take first.result first.new.out) (ap field_trees c.deref.ensures.value) first.ensures.written in
    let f = c.write_fields-fields_end in
    let fields = f.ensures.written ∙ made in
    let fields_end = length-take-le f.result f.new.out f.ensures.within in
    omega (arith, fields_end, ap length fields, long_fields c.args.order m)

pub overwrite_32-requires : goal.overwrite_32-requires
overwrite_32-requires g c =
    let m = parts_tree c.parts-parts.result.now in
    let size = c.requires.size ∙ ap (λ (t : MessageTree). length (message_bytes c.args.order t)) (sym c.parts-parts.ensures.same) in
    record { there = omega (arith, size, long_fields c.args.order m, fits_fields c.args.order m) }

pub write_padding-start-requires-clause-space : goal.write_padding-start-requires-clause-space
write_padding-start-requires-clause-space g c =
    let m = parts_tree c.parts-parts.result.now in
    let size = c.requires.size ∙ ap (λ (t : MessageTree). length (message_bytes c.args.order t)) (sym c.parts-parts.ensures.same) in
    let first = c.write_fixed-fields_start in
    let made = step_fields c.args.order m (field_trees c.deref.result.now) (take first.result first.new.out) (ap field_trees c.deref.ensures.value) first.ensures.written in
    let f = c.write_fields-fields_end in
    let fields = f.ensures.written ∙ made in
    let fields_end = length-take-le f.result f.new.out f.ensures.within in
    let head = step_length c.args.order m f.new.out c.overwrite_32.new.out first.result f.result first.ensures.ends f.ensures.within fields c.overwrite_32.ensures.written in
    rw head (omega (arith, size, fits_start c.args.order m))

pub write_values-end-requires-clause-space : goal.write_values-end-requires-clause-space
write_values-end-requires-clause-space g c =
    let m = parts_tree c.parts-parts.result.now in
    let size = c.requires.size ∙ ap (λ (t : MessageTree). length (message_bytes c.args.order t)) (sym c.parts-parts.ensures.same) in
    let first = c.write_fixed-fields_start in
    let made = step_fields c.args.order m (field_trees c.deref.result.now) (take first.result first.new.out) (ap field_trees c.deref.ensures.value) first.ensures.written in
    let f = c.write_fields-fields_end in
    let fields = f.ensures.written ∙ made in
    let fields_end = length-take-le f.result f.new.out f.ensures.within in
    let head = step_length c.args.order m f.new.out c.overwrite_32.new.out first.result f.result first.ensures.ends f.ensures.within fields c.overwrite_32.ensures.written in
    let p = c.write_padding-start in
    let padded = p.ensures.written ∙ ap (with_padding 8) head in
    let start = length-take-le p.result p.new.out p.ensures.within in
    let body = step_body c.args.order m (value_trees_of c.deref-2.result.now) (take p.result p.new.out) (ap value_trees_of c.deref-2.ensures.value) padded in
    omega (arith, size, ap length body, fits_body c.args.order m)

pub write_values-end-requires-clause-signed : goal.write_values-end-requires-clause-signed
write_values-end-requires-clause-signed g c =
    ∥∥₁_elim c.parts-parts.ensures.valid (shorts_prop _) (λ v. rw c.deref-2.ensures.value (short_all _ ((parts_tree c.parts-parts.result.now).body) (v c.args.order).formed_body))

pub overflow_sub-end : goal.overflow_sub-end
overflow_sub-end g c =
    let m = parts_tree c.parts-parts.result.now in
    let size = c.requires.size ∙ ap (λ (t : MessageTree). length (message_bytes c.args.order t)) (sym c.parts-parts.ensures.same) in
    let first = c.write_fixed-fields_start in
    let made = step_fields c.args.order m (field_trees c.deref.result.now) (take first.result first.new.out) (ap field_trees c.deref.ensures.value) first.ensures.written in
    let f = c.write_fields-fields_end in
    let fields = f.ensures.written ∙ made in
    let fields_end = length-take-le f.result f.new.out f.ensures.within in
    let head = step_length c.args.order m f.new.out c.overwrite_32.new.out first.result f.result first.ensures.ends f.ensures.within fields c.overwrite_32.ensures.written in
    let p = c.write_padding-start in
    let padded = p.ensures.written ∙ ap (with_padding 8) head in
    let start = length-take-le p.result p.new.out p.ensures.within in
    let body = step_body c.args.order m (value_trees_of c.deref-2.result.now) (take p.result p.new.out) (ap value_trees_of c.deref-2.ensures.value) padded in
    let b = c.write_values-end in
    let end = length-take-le b.result b.new.out b.ensures.within in
    let ended = ap length (b.ensures.written ∙ body) in
    omega (arith, size, start, end, ended, ap length padded, fits_body c.args.order m, fits_start c.args.order m)

pub returns : goal.returns
returns g c =
    let m = parts_tree c.parts-parts.result.now in
    let size = c.requires.size ∙ ap (λ (t : MessageTree). length (message_bytes c.args.order t)) (sym c.parts-parts.ensures.same) in
    let first = c.write_fixed-fields_start in
    let made = step_fields c.args.order m (field_trees c.deref.result.now) (take first.result first.new.out) (ap field_trees c.deref.ensures.value) first.ensures.written in
    let f = c.write_fields-fields_end in
    let fields = f.ensures.written ∙ made in
    let fields_end = length-take-le f.result f.new.out f.ensures.within in
    let head = step_length c.args.order m f.new.out c.overwrite_32.new.out first.result f.result first.ensures.ends f.ensures.within fields c.overwrite_32.ensures.written in
    let p = c.write_padding-start in
    let padded = p.ensures.written ∙ ap (with_padding 8) head in
    let start = length-take-le p.result p.new.out p.ensures.within in
    let body = step_body c.args.order m (value_trees_of c.deref-2.result.now) (take p.result p.new.out) (ap value_trees_of c.deref-2.ensures.value) padded in
    let b = c.write_values-end in
    let end = length-take-le b.result b.new.out b.ensures.within in
    let ended = ap length (b.ensures.written ∙ body) in
    let all : b.result ≡ length b.new.out = omega (arith, size, end, ended, fits_body c.args.order m, f.auto.out, p.auto.out, b.auto.out) in
    let whole = sym (take_all b.result b.new.out (omega (arith, all))) ∙ b.ensures.written ∙ body in
    let kind : m.kind < 256 = ∥∥₁_elim c.parts-parts.ensures.valid le_prop (λ v. (v c.args.order).kind_fits) in
    let flags : m.flags < 256 = ∥∥₁_elim c.parts-parts.ensures.valid le_prop (λ v. (v c.args.order).flags) in
    step_all c.args.order m (take p.result p.new.out) b.new.out c.overwrite_32-2.new.out p.result b.result kind flags padded whole (sym start) all c.overwrite_32-2.ensures.written ∙ ap (message_bytes c.args.order) c.parts-parts.ensures.same
