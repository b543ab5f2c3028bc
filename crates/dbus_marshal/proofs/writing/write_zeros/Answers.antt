use Rattle.std.proofs.Common.{◌≡◌, ◌+◌, ◌-◌, ◌++◌, ◌∷◌, [], replicate, take, ap, ◌∙◌, arith, append_assoc}
use Rattle.std.proofs.lemmas.List.{replicate_more, take_more_set}
use Rattle.dbus_marshal.proofs.writing.write_zeros.Goals as goal

pub loop-place-preserved : goal.loop-place-preserved
loop-place-preserved c =
    let front = take c.args.at c.args.out.now in
    let here = c.loop-place.place in
    let more : here - c.args.at + 1 ≡ here + 1 - c.args.at = omega arith in
    take_more_set c.loop-place.out here 0 (omega arith) ∙ ap (λ l. l ++ 0 ∷ []) c.loop-place.invariant ∙ append_assoc front (replicate (here - c.args.at) 0) (0 ∷ [])
    ∙ ap (λ l. front ++ l) (replicate_more (here - c.args.at) 0 ∙ ap (λ n. replicate n 0) more)
