-- What a signal of the bus says, by its member and its values.
use Rattle.std.proofs.Common.{◌≡◌, ℕ, suc, List, true, false, Option, None, Some, Bor, MatchOption, option_map, refl, sym, ap}
use Rattle.std.specs.Option.{is_some}
use Rattle.std.proofs.lemmas.Bool.{false≢true}
use Rattle.dbus_texts.specs.Types.{STRING}
use Rattle.dbus_value_model.specs.Values.{ValueTree, ValueTrees, NoValues, MoreValues, TextValue}
use Rattle.dbus_message_model.specs.KnownFields.{body_value}
use Rattle.dbus_match.specs.Matching.{string_of, text_of}
use Rattle.dbus_values.specs.Seen.{IsFirst}
use Rattle.dbus_values.specs.States.{AreLeft, ValuesState}
use Rattle.dbus_values.specs.declared.view.ValueView.{ValueView}
use Rattle.dbus_calls.specs.Changes.{others}

pub text_seen : (o : Option (Bor (List ℕ))) (v : Option ValueTree) → MatchOption o (v ≡ None) (λ s. v ≡ Some (TextValue STRING s.now)) → option_map (λ t. t.now) o ≡ text_of v
text_seen None v is = sym (ap text_of is)
text_seen (Some s) v is = sym (ap text_of is)

-- a later value is one of those after the first
pub later : (n : ℕ) (xs : ValueTrees) → body_value (suc n) xs ≡ body_value n (others xs)
later n NoValues = refl
later n (MoreValues x xs) = refl

pub string_later : (n : ℕ) (xs : ValueTrees) → string_of (body_value (suc n) xs) ≡ string_of (body_value n (others xs))
string_later n xs = ap string_of (later n xs)

-- whether there is one more
module _ (left : ValuesState) (xs : ValueTrees) (rest : List ℕ) where
  pub no_more : (r : Option ValueView) → is_some r ≡ false → MatchOption r ((xs ≡ NoValues) × AreLeft left xs rest) (λ seen. IsFirst left xs rest seen) → body_value 0 xs ≡ None
  no_more None is first = ap (body_value 0) first.0
  no_more (Some seen) is first = absurd (false≢true (sym is))

  pub one_more : (r : Option ValueView) → is_some r ≡ true → MatchOption r ((xs ≡ NoValues) × AreLeft left xs rest) (λ seen. IsFirst left xs rest seen) → (x : ValueTree) × (body_value 0 xs ≡ Some x)
  one_more None is first = absurd (false≢true is)
  one_more (Some seen) is first = (first.0, ap (body_value 0) first.2)
