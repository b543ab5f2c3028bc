use Rattle.std.proofs.Common.{◌≡◌, ◌⊎◌, ◌+◌, ◌≤◌, ℕ, List, length, take, drop, get_or, true, inl, inr, refl, sym, ap, subst, ◌∙◌, arith}
use Rattle.std.proofs.lemmas.List.{length-take, length-drop, get_or-take, drop_more, drop-take}
use Rattle.dbus_texts.specs.Kinds.{IsKind}
use Rattle.dbus_texts.specs.Types.{NoTypes}
use Rattle.dbus_texts.specs.declared.text_kind.TextKind.{TextKind}
use Rattle.dbus_texts.specs.declared.text_kind.TextKind.TheVariants.{Signature, Single}
use Rattle.dbus_texts.specs.SignatureScans.{is_basic_code}
use Rattle.dbus_texts.proofs.PlainRuns.{plain_text}
use Rattle.dbus_value_validator.proofs.OpenStructs.{one_code}
use Rattle.dbus_value_validator.proofs.plain.is_seen_at_once.Goals as goal

-- the text at a place that is of one byte, the code of a basic type
one_there : (kind : TextKind) (bytes : List ℕ) (start n : ℕ) → start + n ≤ length bytes → n ≡ 1 → (kind ≡ Signature) ⊎ (kind ≡ Single)
    → is_basic_code (get_or bytes start 0) ≡ true → IsKind kind (take n (drop start bytes))
one_there kind bytes start n within one is code =
    let text = take n (drop start bytes) in
    let length_is : length text ≡ 1 = omega (arith, one, within, length-take n (drop start bytes), length-drop start bytes) in
    let first : get_or text 0 0 ≡ get_or bytes start 0 = get_or-take n (drop start bytes) 0 0 (omega (arith, one)) ∙ ap (λ (l : List ℕ). get_or l 0 0) (drop_more bytes start 0 (omega (arith, one, within))) in
    one_code kind text is length_is (ap is_basic_code first ∙ code)

pub returns-in-Text : goal.returns-in-Text
returns-in-Text c = λ yes. subst (λ (k : TextKind). IsKind k (take c.args.n (drop c.args.start c.args.bytes.now))) (sym c.in-Text.is) (plain_text _ (c.is_plain.ensures yes), tt)

pub returns-then-n-eq0 : goal.returns-then-n-eq0
returns-then-n-eq0 c = λ yes.
    let rest = drop c.args.start c.args.bytes.now in
    subst (λ (k : TextKind). IsKind k (take c.args.n rest)) (sym c.in-Signature.is)
    (subst (λ (n : ℕ). IsKind Signature (take n rest)) (sym c.if-n-eq0.true) ((NoTypes, tt, refl), omega arith))

pub returns-then-n-eq1 : goal.returns-then-n-eq1
returns-then-n-eq1 c = λ yes. one_there c.args.kind c.args.bytes.now c.args.start c.args.n c.requires c.if-n-eq1.true (inl c.in-Signature.is) (sym c.is_basic.ensures ∙ yes)

pub returns-then-n-eq1-2 : goal.returns-then-n-eq1-2
returns-then-n-eq1-2 c = λ yes. one_there c.args.kind c.args.bytes.now c.args.start c.args.n c.requires c.if-n-eq1-2.true (inr c.in-Single.is) (sym c.is_basic-then-n-eq1-2.ensures ∙ yes)

pub returns-in_default : goal.returns-in_default
returns-in_default c = λ yes. subst (IsKind c.args.kind) (drop-take c.args.start c.args.n c.args.bytes.now) (c.is_name_at_once.ensures yes)
