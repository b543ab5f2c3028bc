-- What a window lets through of texts, and what is known of bytes that are one message.
use Rattle.std.proofs.Common.{◌≡◌, ℕ, Bool, List, [], Option, refl, sym, ap, ◌∙◌, subst, append-nil, zero, suc, ◌<◌, ◌^◌, ◌∷◌, ◌++◌, None, Some, drop, arith, length, take}
use Rattle.std.proofs.Math.Seq.{drop-nil}
use Rattle.std.specs.List.{concat}
use Rattle.std.proofs.lemmas.List.{length-take-le, take_all}
use Rattle.dbus_value_model.specs.declared.order.Order.{Order}
use Rattle.dbus_message_model.specs.Messages.{MessageTree, message_bytes}
use Rattle.cli_options.specs.declared.window.Window.{Window}
use Rattle.dbus_value_model.specs.declared.limits.Limits.{Limits}
use Rattle.dbus_header.specs.MessageOutcomes.{IsWhole}
use Rattle.dbus_header.proofs.OutcomeLaws.{one_whole, whole_bytes, whole_inside, whole_valid, valid_whole}
use Rattle.dbus_validate.specs.declared.validating.Validated.{Validated}
use Rattle.dbus_validate.specs.Validating.{IsValidatedWhole}
use Rattle.dbus_stream.specs.RawReading.{Lends, limits_of, lent_of}
use Rattle.dbus_stream.specs.declared.raw_reader.RawReader.{RawReader}
use Rattle.dbus_view.specs.Views.{ViewState, Views, IsViewOf}
use Rattle.cli_run.specs.Output.{written, at_most}
use Rattle.cli_run.specs.VisitorLaws.{at_most_none}

-- What a window lets through of one text, and of all.

-- a window that leaves nothing out
pub written_all : (checks_rest : Bool) (texts : List (List ℕ)) → written (record { skip = 0; limit = None; checks_rest = checks_rest }) texts ≡ concat texts
unfolding written
written_all checks_rest texts = refl

-- of numbers: the first is skipped
skips_one : (skip : ℕ) (limit : Option ℕ) (text : List ℕ) → 0 < skip → concat (at_most limit (drop skip (text ∷ []))) ≡ []
skips_one zero limit text some = absurd (omega (arith, some))
skips_one (suc n) limit text some = ap (λ l. concat (at_most limit l)) (drop-nil n) ∙ ap concat (at_most_none limit)

passes_one : (limit : Option ℕ) (text : List ℕ) → (limit ≡ Some 0 → ⊥) → concat (at_most limit (text ∷ [])) ≡ text
passes_one None text some = append-nil text
passes_one (Some zero) text some = absurd (some refl)
passes_one (Some (suc n)) text some = ap (λ l. text ++ concat l) (at_most_none (Some n)) ∙ append-nil text

pub skipped : (window : Window) (text : List ℕ) → 0 < window.skip → written window (text ∷ []) ≡ []
unfolding written
skipped window text some = skips_one window.skip window.limit text some

pub let_in : (window : Window) (text : List ℕ) → window.skip ≡ 0 → (window.limit ≡ Some 0 → ⊥) → written window (text ∷ []) ≡ text
unfolding written
let_in window text none some = ap (λ n. concat (at_most window.limit (drop n (text ∷ [])))) none ∙ passes_one window.limit text some

pub kept_out : (window : Window) (text : List ℕ) → window.skip ≡ 0 → window.limit ≡ Some 0 → written window (text ∷ []) ≡ []
unfolding written
kept_out window text none limit = ap (λ n. concat (at_most window.limit (drop n (text ∷ [])))) none ∙ ap (λ l. concat (at_most l (text ∷ []))) limit

-- Bytes that are one message: those that a reader lends, and those that are turned.

module _ (limits : Limits) where
  -- the message that bytes begin with is all of its own bytes
  front_whole : (w : List ℕ) (order : Order) (m : MessageTree) (size : ℕ) → IsWhole limits w order m size → IsWhole limits (take size w) order m (length (take size w))
  front_whole w order m size whole =
      let bytes = message_bytes order m in
      let own : IsWhole limits bytes order m (length bytes)
      = subst (λ (b : List ℕ). IsWhole limits b order m (length bytes)) (append-nil bytes) (valid_whole limits order m [] (whole_valid limits w order m size whole)) in
      subst (λ (b : List ℕ). IsWhole limits b order m (length b)) (sym (whole_bytes limits w order m size whole).0) own

  -- the bytes that are lent are the message that is given
  pub lent_whole : {R A : Type 0} (w bytes : List ℕ) (j : Validated) (old new : RawReader R A) → bytes ≡ lent_of new → limits_of old ≡ limits → (l : Lends w j old new)
      → IsWhole limits bytes l.gives.order l.gives.message (length bytes)
  lent_whole w bytes j old new e same l =
      let here : IsWhole limits w l.gives.order l.gives.message l.size = subst (λ v. IsWhole v w l.gives.order l.gives.message l.size) same l.gives.whole in
      subst (λ (b : List ℕ). IsWhole limits b l.gives.order l.gives.message (length b)) (sym (e ∙ l.lent)) (front_whole w l.gives.order l.gives.message l.size here)

  -- and they are as many as it has
  pub lent_size : {R A : Type 0} (w bytes : List ℕ) (j : Validated) (old new : RawReader R A) → bytes ≡ lent_of new → (l : Lends w j old new) → length bytes ≡ l.size
  lent_size w bytes j old new e l =
      let inside = (whole_inside (limits_of old) w l.gives.order l.gives.message l.size l.gives.whole).1 in
      ap length (e ∙ l.lent) ∙ length-take-le l.size w inside

  -- they were validated
  pub lent_validated : {R A : Type 0} (w bytes : List ℕ) (j : Validated) (old new : RawReader R A) → bytes ≡ lent_of new → limits_of old ≡ limits → Lends w j old new
      → IsValidatedWhole limits bytes j
  lent_validated w bytes j old new e same l =
      subst (λ (b : List ℕ). IsValidatedWhole limits b j) (sym e) (subst (λ v. IsValidatedWhole v (lent_of new) j) same l.validated_is)

  -- bytes that are a message are those that it is spelled by
  pub bytes_are : (b : List ℕ) (order : Order) (m : MessageTree) → IsWhole limits b order m (length b) → b ≡ message_bytes order m
  bytes_are b order m whole = sym (take_all (length b) b (omega arith)) ∙ (whole_bytes limits b order m (length b) whole).0

  -- a message has fewer bytes than 32 bits count, in either order
  pub short : (b : List ℕ) (order : Order) (m : MessageTree) (n : ℕ) → IsWhole limits b order m n → (o : Order) → length (message_bytes o m) < 2 ^ 32
  short b order m n whole o = let limit = (whole_valid limits b order m n whole o).limit in omega (arith, limit, limits.message_in)

  pub validated_short : (b : List ℕ) (j : Validated) → IsValidatedWhole limits b j → length b < 2 ^ 32
  unfolding IsWhole
  validated_short b j v = let w = v.validated.whole in omega (arith, v.all, w.2, w.0.limit, limits.message_in)

  -- its order is that of the message
  pub validated_order : (b : List ℕ) (j : Validated) (order : Order) (m : MessageTree) → IsValidatedWhole limits b j → IsWhole limits b order m (length b) → j.order ≡ order
  validated_order b j order m validated whole =
      (one_whole limits b j.order order validated.validated.message m j.length (length b) validated.validated.whole whole).0

  -- in that order it is the message that was validated
  pub validated_whole : (b : List ℕ) (j : Validated) (order : Order) (m : MessageTree) → IsValidatedWhole limits b j → IsWhole limits b order m (length b)
      → (j.order ≡ order) × IsWhole limits b j.order m j.length
  validated_whole b j order m validated whole =
      let same = validated_order b j order m validated whole in
      (same, subst (λ (o : Order). IsWhole limits b o m j.length) (sym same) (subst (λ (n : ℕ). IsWhole limits b order m n) (sym validated.all) whole))

  -- the message is the one that a view is of
  pub views_it : (b : List ℕ) (v : ViewState) (order : Order) (m : MessageTree) → IsViewOf limits b v → IsWhole limits b order m (length b) → Views v order m
  views_it b v order m is whole =
      subst (λ (l : Limits). IsWhole l v.bytes order m (length v.bytes)) (sym is.0) (subst (λ (c : List ℕ). IsWhole limits c order m (length c)) (sym is.1) whole)
