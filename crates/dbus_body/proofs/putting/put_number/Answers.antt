use Rattle.std.proofs.Common.{◌≡◌, ◌≤◌, ◌++◌, ℕ, List, length, take, replicate, Result, Ok, Err, OnOk, is_ok, if◌then◌else◌, sym, ap, ◌∙◌, arith, append_assoc}
use Rattle.std.proofs.lemmas.List.{take-replicate}
use Rattle.dbus_value_model.specs.SizeLimits.{with_padding}
use Rattle.dbus_value_model.specs.Bytes.{gap_to, num}
use Rattle.dbus_value_model.proofs.Periods.{gap_below}
use Rattle.dbus_body.proofs.putting.put_number.Goals as goal

appended : {T E : Type 0} (r : Result T E) (old more new x : List ℕ) → new ≡ (if is_ok r then old ++ more else old) → old ++ more ≡ x → OnOk r (new ≡ x)
appended (Ok v) old more new x is whole = is ∙ whole
appended (Err e) old more new x is whole = tt

pub returns-clause-written : goal.returns-clause-written
unfolding with_padding
returns-clause-written g c =
    let front = c.args.out.now.items in
    let bits = num c.args.order c.args.width c.args.bits in
    let there = c.gap.result in
    let here : there ≡ gap_to c.args.width (length front) = c.gap.ensures ∙ ap (gap_to c.args.width) (c.len.ensures ∙ c.args.out.now.ok.0) in
    let few : there ≤ 16 = omega (arith, here, gap_below c.args.width (length front) c.requires.some, c.requires.few) in
    let zeros : take there (replicate {A = ℕ} 16 0) ≡ replicate {A = ℕ} there 0 = take-replicate there 16 0 few in
    let more = c.write_unpadded-end.ensures.written ∙ ap (λ (l : List ℕ). l ++ bits) (zeros ∙ ap (λ (n : ℕ). replicate {A = ℕ} n 0) here) in
    appended c.extend_from_slice.result front _ c.extend_from_slice.new.self.items _ c.extend_from_slice.ensures.items
    (ap (λ (l : List ℕ). front ++ l) more ∙ sym (append_assoc front (replicate {A = ℕ} (gap_to c.args.width (length front)) 0) bits))
