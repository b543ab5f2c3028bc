use Rattle.std.proofs.Common.{◌+◌, ◌-◌, ◌≡◌, take, drop, arith, sym, ap, subst, ◌∙◌}
use Rattle.std.proofs.lemmas.List.{take-append-drop}
use Rattle.std.proofs.lemmas.Str.{IsUtf8-from_ascii}
use Rattle.hex.proofs.HexLemmas.{IsAscii-encode_with}
use Rattle.hex.specs.Hex.{encode_lower, lower_digits}
use Rattle.dbus_show.proofs.EscapedText.{encode_append, encode_none, block_more, block_last, lower_ascii}
use Rattle.dbus_show.proofs.FieldTexts.{then}
use Rattle.dbus_show.proofs.hexadecimal.write_hex.Goals as goal

pub loop-start-init : goal.loop-start-init
loop-start-init g c = record { inside = omega arith; so_far = subst (λ s. g.D.Draft.gains c.args.draft.now s c.args.draft.now) (sym encode_none) (g.met.D.Draft.nothing c.args.draft.now) }

pub loop-start-preserved : goal.loop-start-preserved
loop-start-preserved g c =
    let i = c.loop-start.start in
    let n : (i + 16) - i ≡ 16 = omega arith in
    record {
      inside = omega arith;
      so_far = subst (λ s. g.D.Draft.gains c.args.draft.now s c.write_block.new.draft) (block_more c.args.bytes.now i 16 ((i + 16) - i) n) (then g.D.Draft.gains g.met.D.Draft.joins c.loop-start.invariant.so_far c.write_block.ensures);
    }

-- what is left is text, so that the draft need not gain it
pub returns-then-is_full : goal.returns-then-is_full
returns-then-is_full g c =
    let bytes = c.args.bytes.now in
    let i = c.loop-start.start in
    let left = encode_lower (drop i bytes) in
    let full = c.is_full.ensures c.if-is_full.true left (IsUtf8-from_ascii left (IsAscii-encode_with lower_digits (drop i bytes) lower_ascii)) in
    subst (λ s. g.D.Draft.gains c.args.draft.now s c.loop-start.draft) (sym (encode_append (take i bytes) (drop i bytes)) ∙ ap encode_lower (take-append-drop i bytes))
    (then g.D.Draft.gains g.met.D.Draft.joins c.loop-start.invariant.so_far full)

pub returns : goal.returns
returns g c = subst (λ s. g.D.Draft.gains c.args.draft.now s c.write_block-2.new.draft) (block_last c.args.bytes.now c.loop-start.start) (then g.D.Draft.gains g.met.D.Draft.joins c.loop-start.invariant.so_far c.write_block-2.ensures)
