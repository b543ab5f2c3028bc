use Rattle.std.proofs.Common.{◌≡◌, ◌+◌, ◌≤◌, ℕ, List, ◌++◌, length, rules, take, refl, sym, ap, subst, ◌∙◌, arith}
use Rattle.std.specs.Char.{encode_utf8, IsScalar}
use Rattle.std.specs.Str.{IsCharBoundary, IsUtf8, chars, encode_utf8_all}
use Rattle.std.proofs.Math.Seq.{take-append_seam}
use Rattle.std.proofs.lemmas.List.{length-append}
use Rattle.std.proofs.lemmas.Str.{IsCharBoundary-at_seam, IsUtf8-nil, IsUtf8-past_char, chars-nil, length-encode}
use Rattle.dbus_list.specs.Cuts.{width}
use Rattle.dbus_list.specs.Cutting.{IsFront}
use Rattle.dbus_list.specs.declared.cut_draft.Front.{Front}
use Rattle.dbus_list.proofs.CutTexts.{utf8_push, width_push}
use Rattle.dbus_list.proofs.ReadCharacters.{encode_push, left_push}
use Rattle.dbus_list.proofs.cut_draft.front_of.Goals as goal

-- what was read is a front
read : (text done rest : List ℕ) (most : ℕ) (f : Front) → text ≡ done ++ rest → IsUtf8 rest → f.bytes ≡ length done → width (chars done) ≡ f.cells → f.cells ≤ most → IsFront text most f
read text done rest most f is utf8 size wide fits = record {
  boundary = subst (IsCharBoundary text) (sym size) (IsCharBoundary-at_seam text done rest is utf8);
  width_is = ap (λ (t : List ℕ). width (chars t)) (ap (λ (n : ℕ). take n text) size ∙ ap (take (length done)) is ∙ take-append_seam done rest) ∙ wide;
  fits = fits;
}

pub loop-c-init : goal.loop-c-init
loop-c-init c =
    let all = ap (λ i. i.rest.now) c.into_iter-c-iterator.ensures.into_iter_gives ∙ c.chars-c-items.ensures.rest in
    record { left = sym all; utf8 = subst IsUtf8 (sym all) c.utf8.text; done = IsUtf8-nil; bytes = refl; width_is = ap width chars-nil; fits = omega arith }

pub loop-c-preserved : goal.loop-c-preserved
loop-c-preserved c =
    let done = c.loop-c.yielded in
    let all = encode_utf8_all done in
    let x = c.in-Some.c in
    let h = c.loop-c.invariant in
    let rest = c.next.new.self.rest.now in
    let steps : c.loop-c.c-iterator.rest.now ≡ encode_utf8 x ++ rest = c.in-Some.ensures.steps.0 in
    let is : IsScalar x = search rules in
    let more = width_push all x h.done is in
    let longer = length-append all (encode_utf8 x) ∙ ap (λ (n : ℕ). length all + n) (length-encode x) in
    record {
      left = left_push c.args.text.now done x c.loop-c.c-iterator.rest.now rest h.left steps;
      utf8 = IsUtf8-past_char c.loop-c.c-iterator.rest.now rest x h.utf8 steps;
      done = subst IsUtf8 (sym (encode_push done x)) (utf8_push all x h.done is);
      bytes = omega (arith, h.bytes, longer, ap length (encode_push done x), c.len_utf8.ensures);
      width_is = ap (λ (t : List ℕ). width (chars t)) (encode_push done x) ∙ omega (arith, more, h.width_is, c.cells_of-cells.ensures);
      fits = omega (arith, c.if-cells-most.false, h.fits);
    }

pub returns-then-cells-most : goal.returns-then-cells-most
returns-then-cells-most c =
    let h = c.loop-c.invariant in
    read c.args.text.now (encode_utf8_all c.loop-c.yielded) c.loop-c.c-iterator.rest.now c.args.most c.loop-c.front h.left h.utf8 h.bytes h.width_is h.fits

pub returns : goal.returns
returns c =
    let h = c.loop-c.invariant in
    read c.args.text.now (encode_utf8_all c.loop-c.yielded) c.loop-c.c-iterator.rest.now c.args.most c.loop-c.front h.left h.utf8 h.bytes h.width_is h.fits
