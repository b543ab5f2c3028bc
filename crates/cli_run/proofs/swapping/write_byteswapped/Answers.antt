use Rattle.std.proofs.Common.{◌≡◌, ◌<◌, ◌^◌, ℕ, List, length, drop, arith, subst, sym, ◌∙◌}
use Rattle.std.proofs.lemmas.List.{take_at}
use Rattle.dbus_header.specs.MessageOutcomes.{IsWhole}
use Rattle.dbus_swap.specs.Byteswapping.{other}
use Rattle.cli_run.specs.Handing.{after_front}
use Rattle.cli_run.proofs.OutputSteps.{short}
use Rattle.cli_run.proofs.swapping.write_byteswapped.Goals as goal

pub write_message-requires : goal.write_message-requires
write_message-requires g c =
    let limits = c.args.lent.now.limits in
    let b = c.args.lent.now.bytes.now in
    let j = c.args.lent.now.validated in
    let v = c.requires.validated in
    let less = short limits b j.order v.message j.length v.whole (other j.order) in
    let copy = c.byteswap.new.copy in
    let size : length copy ≡ c.extend_from_slice.new.self.len = omega (arith, c.byteswap.auto.copy, c.as_mut_slice.ensures.len) in
    let is : c.as_slice.result.now ≡ copy = c.as_slice.ensures.value ∙ take_at copy (drop (length copy) c.extend_from_slice.new.self.items) c.extend_from_slice.new.self.len size in
    subst (λ (l : List ℕ). length l < 2 ^ 32) (sym (is ∙ c.byteswap.ensures.byteswapped v.message v.whole)) less

pub returns-clause-swaps : goal.returns-clause-swaps
returns-clause-swaps g c = λ m whole.
    let limits = c.args.lent.now.limits in
    let b = c.args.lent.now.bytes.now in
    let j = c.args.lent.now.validated in
    let here : IsWhole limits b j.order m j.length = subst (λ (n : ℕ). IsWhole limits b j.order m n) (sym c.requires.all) whole in
    let copy = c.byteswap.new.copy in
    let size : length copy ≡ c.extend_from_slice.new.self.len = omega (arith, c.byteswap.auto.copy, c.as_mut_slice.ensures.len) in
    let is : c.as_slice.result.now ≡ copy = c.as_slice.ensures.value ∙ take_at copy (drop (length copy) c.extend_from_slice.new.self.items) c.extend_from_slice.new.self.len size in
    subst (λ (l : List ℕ). g.D.Draft.gains c.args.draft.now (after_front c.args.front l) c.write_message.new.draft) (is ∙ c.byteswap.ensures.byteswapped m here) c.write_message.ensures
