use Rattle.std.proofs.Common.{◌≡◌, ℕ, List, [], ◌∷◌, ◌++◌, refl, ap, ◌∙◌}
use Rattle.dbus_value_model.specs.declared.order.Order.{Order}
use Rattle.dbus_value_model.specs.declared.order.Order.TheVariants.{Little, Big}
use Rattle.dbus_value_model.specs.SizeLimits.{with_padding}
use Rattle.dbus_value_model.specs.Bytes.{gap_to, num, low_first}
use Rattle.dbus_message_model.specs.Messages.{order_byte}
use Rattle.dbus_c_build.proofs.Spelling.{on_ok}
use Rattle.dbus_c_build.proofs.building.put_fixed.Goals as goal

-- three numbers after four bytes have no padding
unpadded : (order : Order) (a b c d x y z : ℕ) →
    with_padding 4 (with_padding 4 (with_padding 4 (a ∷ (b ∷ (c ∷ (d ∷ [])))) ++ num order 4 x) ++ num order 4 y) ++ num order 4 z
    ≡ a ∷ (b ∷ (c ∷ (d ∷ (num order 4 x ++ (num order 4 y ++ num order 4 z)))))
unfolding with_padding gap_to num low_first
unpadded Little a b c d x y z = refl
unpadded Big a b c d x y z = refl

pub returns : goal.returns
returns g c =
    let p = c.args.parts.now in
    let more = λ (front : List ℕ) (n : ℕ). with_padding 4 front ++ num p.order 4 n in
    let rest = p.kind ∷ (p.flags ∷ (1 ∷ [])) in
    let first : c.extend_from_slice.new.self.items ≡ order_byte p.order ∷ rest =
    c.in_ok-extend_from_slice.ensures.items ∙ ap (λ (l : List ℕ). l ++ (c.order_byte.result ∷ rest)) c.requires ∙ ap (λ (n : ℕ). n ∷ rest) c.order_byte.ensures.named in
    let one = c.in_ok-put_number.ensures.written ∙ ap (more c.extend_from_slice.new.self.items) c.from.ensures ∙ ap (λ (l : List ℕ). more l c.args.body_length) first in
    let two = c.in_ok-put_number-2.ensures.written ∙ ap (more c.put_number.new.out.items) c.from-2.ensures ∙ ap (λ (l : List ℕ). more l p.serial) one in
    on_ok c.put_number-3.result (λ put. put ∙ ap (λ (l : List ℕ). more l 0) two ∙ unpadded p.order (order_byte p.order) p.kind p.flags 1 c.args.body_length p.serial 0) c.put_number-3.ensures.written
