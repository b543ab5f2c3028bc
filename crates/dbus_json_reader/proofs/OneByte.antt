-- Strings of one byte, which names an order.
use Rattle.std.proofs.Common.{◌≡◌, ℕ, List, [], ◌∷◌, length, get_or, Option, Some, None, IfSome, MatchOption, sym, ap, ◌∙◌, arith, rules}
use Rattle.std.specs.Borrow.{Bor}
use Rattle.json.specs.Json as json
use Rattle.json.specs.Json.{Json}
use Rattle.json.specs.Value.{value_view}
use Rattle.json.specs.declared.value.Value.{String, the_lemmas}
use Rattle.dbus_value_model.specs.declared.order.Order.{Order}
use Rattle.dbus_message_model.specs.Messages.{order_byte}
use Rattle.dbus_json_reader.proofs.Shapes.{strings_same}

pub view-String : (A : Type 0) (s : Bor (List ℕ)) → value_view {A = A} (String s) ≡ json.string s.now
view-String A s = search (rules, the_lemmas)

one_byte : (s : List ℕ) (b : ℕ) → length s ≡ 1 → b ≡ get_or s 0 0 → s ≡ b ∷ []
one_byte [] b one is = absurd (omega (arith, one))
one_byte (c ∷ []) b one is = ap (λ (k : ℕ). k ∷ []) (sym is)
one_byte (c ∷ d ∷ s) b one is = absurd (omega (arith, one))

module _ (j : Json) (s : List ℕ) (seen : j ≡ json.string s) where
  pub not_one_byte : (length s ≡ 1 → ⊥) → (b : ℕ) → j ≡ json.string (b ∷ []) → ⊥
  not_one_byte other b e = other (ap length (strings_same s (b ∷ []) (sym seen ∙ e)))

  module _ (b : ℕ) (one : length s ≡ 1) (first : b ≡ get_or s 0 0) where
    pub if_named : (o : Option Order) → MatchOption o ((order : Order) → b ≡ order_byte order → ⊥) (λ order. b ≡ order_byte order) → IfSome o (λ order. j ≡ json.string (order_byte order ∷ []))
    if_named None h = tt
    if_named (Some order) h = seen ∙ ap json.string (one_byte s b one first ∙ ap (λ (k : ℕ). k ∷ []) h)

    pub if_unnamed : (o : Option Order) → MatchOption o ((order : Order) → b ≡ order_byte order → ⊥) (λ order. b ≡ order_byte order) → o ≡ None → (order : Order) → j ≡ json.string (order_byte order ∷ []) → ⊥
    if_unnamed None h none order e =
        let same = strings_same (b ∷ []) (order_byte order ∷ []) (ap json.string (sym (one_byte s b one first)) ∙ sym seen ∙ e) in
        h order (ap (λ (t : List ℕ). get_or t 0 0) same)
    if_unnamed (Some named) h none order e = absurd (let no : Some named ≡ None = none in cc)
