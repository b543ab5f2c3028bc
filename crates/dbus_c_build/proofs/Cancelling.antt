-- What two equal lists of bytes begin with, part by part.
use Rattle.std.proofs.Common.{◌≡◌, ℕ, ◌^◌, ◌<◌, List, ◌∷◌, ◌++◌, length, take, drop, refl, sym, ap, ◌∙◌}
use Rattle.std.proofs.lemmas.List.{take_at, drop_at}
use Rattle.dbus_value_model.specs.declared.order.Order.{Order}
use Rattle.dbus_value_model.specs.Bytes.{num}
use Rattle.dbus_value_model.specs.Reading.{number_of}
use Rattle.dbus_value_model.proofs.Numbers.{length-num, number_of-num}

pub fronts : (a b x y : List ℕ) → length a ≡ length b → a ++ x ≡ b ++ y → (a ≡ b) × (x ≡ y)
fronts a b x y long same = (
  sym (take_at a x (length a) refl) ∙ ap (take (length a)) same ∙ take_at b y (length a) (sym long),
  sym (drop_at a x (length a) refl) ∙ ap (drop (length a)) same ∙ drop_at b y (length a) (sym long),
)

pub heads : (a b : ℕ) (x y : List ℕ) → a ∷ x ≡ b ∷ y → (a ≡ b) × (x ≡ y)
heads a b x y same = (cc, cc)

pub numbers : (order : Order) (w n m : ℕ) (x y : List ℕ) → n < 256 ^ w → m < 256 ^ w → num order w n ++ x ≡ num order w m ++ y → (n ≡ m) × (x ≡ y)
numbers order w n m x y small few same =
    let parts = fronts (num order w n) (num order w m) x y (length-num order w n ∙ sym (length-num order w m)) same in
    (sym (number_of-num order w n small) ∙ ap (number_of order) parts.0 ∙ number_of-num order w m few, parts.1)
