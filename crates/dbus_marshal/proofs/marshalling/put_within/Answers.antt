use Rattle.std.proofs.Common.{◌≡◌, ◌≤◌, ◌-◌, ◌++◌, ℕ, List, Ok, Err, None, length, replicate, take, drop, sym, ap, ◌∙◌, arith, rules}
use Rattle.std.proofs.lemmas.List.{length-append, length-replicate, take_at, take_all}
use Rattle.dbus_value_model.specs.SizeLimits.{with_value}
use Rattle.dbus_value_model.specs.declared.limits.Limits.{Limits}
use Rattle.dbus_value_model.specs.declared.order.Order.{Order}
use Rattle.dbus_value_model.specs.declared.value_fault.ValueFault.TheVariants.{Memory}
use Rattle.dbus_value_model.specs.Sizes.{sized}
use Rattle.dbus_value_model.specs.Values.{ValueTree}
use Rattle.dbus_value_model.specs.ValueViews.{value_tree}
use Rattle.dbus_marshal.proofs.SizeLaws.{written_ends, stops_at}
use Rattle.dbus_marshal.proofs.Written.{length_value, written_whole, value_is}
use Rattle.dbus_marshal.proofs.marshalling.put_within.Goals as goal

-- a vector that grew to where the value ends
grown : (limits : Limits) (order : Order) (v : ValueTree) (front slice : List ℕ) (start end : ℕ) → start ≡ length front → length front ≤ limits.message → sized limits v None start ≡ Ok end → slice ≡ take end front ++ replicate (end - start) 0
    → (start ≤ length slice) × (take start slice ≡ front) × (length (with_value order v front) ≡ length slice)
grown limits order v front slice start end here fits size is =
    let ends = written_ends limits order v front end fits (ap (sized limits v None) (sym here) ∙ size) in
    let after = length_value order v front in
    let whole : slice ≡ front ++ replicate (end - start) 0 = is ∙ ap (λ (l : List ℕ). l ++ replicate (end - start) 0) (take_all end front (omega arith)) in
    let long = ap length whole ∙ length-append front (replicate (end - start) 0) in
    let zeros = length-replicate {A = ℕ} (end - start) 0 in
    (omega arith, ap (take start) whole ∙ take_at front (replicate (end - start) 0) start (sym here), omega arith)

pub write_value-requires-clause-start : goal.write_value-requires-clause-start
write_value-requires-clause-start g c =
    let here = c.len-start.ensures ∙ c.args.out.now.ok.0 in
    let is : c.as_mut_slice.result.now ≡ take c.in_ok-end.end c.args.out.now.items ++ replicate (c.in_ok-end.end - c.len-start.result) 0 = search rules in
    (grown c.args.limits c.args.order (value_tree c.args.value.now) c.args.out.now.items c.as_mut_slice.result.now c.len-start.result c.in_ok-end.end here c.requires.start (sym c.in_ok-end.ensures.exact) is).0

pub write_value-requires-clause-space : goal.write_value-requires-clause-space
write_value-requires-clause-space g c =
    let here = c.len-start.ensures ∙ c.args.out.now.ok.0 in
    let is : c.as_mut_slice.result.now ≡ take c.in_ok-end.end c.args.out.now.items ++ replicate (c.in_ok-end.end - c.len-start.result) 0 = search rules in
    let now = grown c.args.limits c.args.order (value_tree c.args.value.now) c.args.out.now.items c.as_mut_slice.result.now c.len-start.result c.in_ok-end.end here c.requires.start (sym c.in_ok-end.ensures.exact) is in
    rw now.1 (omega (arith, now.2))

pub returns-clause-written : goal.returns-clause-written
returns-clause-written g c =
    let front = c.args.out.now.items in
    let v = value_tree c.args.value.now in
    let out = c.write_value.new.out in
    let rest = drop (length out) c.resize.new.self.items in
    let here = c.len-start.ensures ∙ c.args.out.now.ok.0 in
    let is : c.as_mut_slice.result.now ≡ take c.in_ok-end.end front ++ replicate (c.in_ok-end.end - c.len-start.result) 0 = search rules in
    let now = grown c.args.limits c.args.order v front c.as_mut_slice.result.now c.len-start.result c.in_ok-end.end here c.requires.start (sym c.in_ok-end.ensures.exact) is in
    let long : c.resize.new.self.len ≡ length out = omega (arith, c.write_value.auto.out, ap length c.as_mut_slice.ensures.value, c.resize.new.self.ok.0) in
    ap (λ n. take n (out ++ rest)) long
    ∙ written_whole out rest (with_value c.args.order v front) c.write_value.result c.write_value.ensures.within (c.write_value.ensures.written ∙ ap (with_value c.args.order v) now.1) (omega (arith, now.2, c.write_value.auto.out))
    ∙ value_is c.args.order v front

pub returns-in_err-end-clause-small : goal.returns-in_err-end-clause-small
returns-in_err-end-clause-small g c memory =
    let front = c.args.out.now.items in
    let v = value_tree c.args.value.now in
    let here : c.len-start.result ≡ length front = c.len-start.ensures ∙ c.args.out.now.ok.0 in
    let refused : sized c.args.limits v None c.len-start.result ≡ Err Memory = search rules in
    absurd (stops_at c.args.limits c.args.order v (length front) Memory c.requires.start (ap (sized c.args.limits v None) (sym here) ∙ refused))
