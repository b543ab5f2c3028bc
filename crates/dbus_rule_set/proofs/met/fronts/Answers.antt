use Rattle.std.proofs.Common.{◌≡◌, ◌%◌, ◌^◌, ⊎_elim, get_or, take, refl, sym, ap, ◌∙◌, subst, arith}
use Rattle.std.proofs.lemmas.Bool.{cases_lt, eq-eqb}
use Rattle.std.proofs.lemmas.List.{take_all}
use Rattle.dbus_rule_set.specs.Places.{IsAmong}
use Rattle.dbus_rule_set.specs.TextNumbers.{and_byte, number_from, text_hash}
use Rattle.dbus_rule_set.proofs.Numbered.{front_more}
use Rattle.dbus_rule_set.proofs.Fronts.{fronts_met}
use Rattle.dbus_rule_set.proofs.met.fronts.Goals as goal

pub loop-byte-preserved : goal.loop-byte-preserved
loop-byte-preserved c =
    let l = c.loop-byte in
    let text = c.args.text.now in
    let kept = c.note-in-loop-byte.ensures.kept in
    let new = c.note-in-loop-byte.new.hashes.items in
    record {
      number = c.and_byte-number.ensures ∙ ap (λ n. and_byte n (get_or text l.byte-index 0)) l.invariant.number ∙ sym (front_more _ l.byte-index text c.loop-byte-test.true);
      none = kept _ l.invariant.none;
      before = λ k less is.
          ⊎_elim
          (λ below. kept _ (l.invariant.before k below is))
          (λ from.
          let e : k ≡ l.byte-index = omega (arith, less, from) in
          let hash = c.hash_of-in-loop-byte.ensures ∙ ap (λ n. n % 2 ^ 32) l.invariant.number in
          let here = c.in_ok-note-2.ensures.noted (eq-eqb _ _ (ap (λ j. get_or text j 0) (sym e) ∙ is)) in
          subst (λ j. IsAmong (text_hash (take j text)) new) (sym e) (subst (λ h. IsAmong h new) hash here))
          (cases_lt k l.byte-index);
    }

pub returns : goal.returns
returns c =
    let l = c.loop-byte in
    let text = c.args.text.now in
    let kept = c.note-2.ensures.kept in
    let new = c.note-2.new.hashes.items in
    let hash = c.hash_of-2.ensures ∙ ap (λ n. n % 2 ^ 32) (l.invariant.number ∙ ap (number_from 14695981039346656037) (take_all l.byte-index text c.loop-byte-test.false)) in
    fronts_met c.args.separator text new (kept _ l.invariant.none) (subst (λ h. IsAmong h new) hash (c.in_ok-note-3.ensures.noted refl))
    (λ k less is. kept _ (l.invariant.before k (omega (arith, less, c.loop-byte-test.false)) is))
