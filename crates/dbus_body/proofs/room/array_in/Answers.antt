use Rattle.std.proofs.Common.{◌≡◌, ◌+◌, ◌≤◌, ◌++◌, ℕ, List, length, take, refl, sym, ap, ◌∙◌, arith}
use Rattle.std.proofs.lemmas.List.{length-take-le}
use Rattle.dbus_value_model.specs.SizeLimits.{with_padding}
use Rattle.dbus_value_model.specs.Bytes.{gap_to}
use Rattle.dbus_value_model.specs.declared.order.Order.TheVariants.{Little}
use Rattle.dbus_marshal.proofs.Written.{length_padding}
use Rattle.dbus_body.specs.Arrays.{opened, place_of}
use Rattle.dbus_body.specs.declared.arrays.OpenArray.{OpenArray}
use Rattle.dbus_body.proofs.Spelled.{zeros}
use Rattle.dbus_body.proofs.room.array_in.Goals as goal

placed : (alignment n start : ℕ) (front : List ℕ) → n ≡ length (with_padding 4 front) → start ≡ length (opened alignment front) → let a : OpenArray = record { length_at = n; start = start } in a ≡ place_of alignment front
placed alignment n start front here ends = rw (here, ends) refl

pub returns : goal.returns
returns c =
    let old = c.args.out.now in
    let front = take c.args.at old in
    let counted = c.write_number-counted.ensures.written ∙ ap (λ (l : List ℕ). with_padding 4 front ++ l) (sym (zeros Little)) in
    let done : take c.write_padding-start.result c.write_padding-start.new.out ≡ opened c.args.alignment front = c.write_padding-start.ensures.written ∙ ap (with_padding c.args.alignment) counted in
    let inside : c.args.at ≤ length old = grind arith in
    let long : length front ≡ c.args.at = length-take-le c.args.at old inside in
    let here : c.args.at + c.gap-2.result ≡ length (with_padding 4 front) = omega (arith, long, c.gap-2.ensures, ap (gap_to 4) long, length_padding 4 front) in
    let ends = sym (length-take-le c.write_padding-start.result c.write_padding-start.new.out c.write_padding-start.ensures.within) ∙ ap length done in
    (placed c.args.alignment (c.args.at + c.gap-2.result) c.write_padding-start.result front here ends, (inside, c.write_padding-start.ensures.within, done))
