use Rattle.std.proofs.Common.{◌≡◌, ◌<◌, ◌≤◌, ℕ, ◌+◌, ◌-◌, rules, refl, sym, ap, ◌∙◌, subst, arith, take, drop, get_or}
use Rattle.std.specs.List.{list_all}
use Rattle.dbus_texts.specs.Types.{EntryType, VariantType}
use Rattle.dbus_value_model.specs.Bytes.{gap_to}
use Rattle.dbus_explain.specs.Places.{IsInText, is_printable}
use Rattle.dbus_explain.proofs.Keys.{has_key, is_key, text_one}
use Rattle.dbus_explain.proofs.Searching.{inside_text, some_map}
use Rattle.dbus_explain.proofs.search.Search.key.Goals as goal

pub returns-in_err-place-clause-none : goal.returns-in_err-place-clause-none
returns-in_err-place-clause-none c = λ none t is shaped key h.
    let self = c.args.self.now in
    let q = c.args.entry.place in
    let k = has_key self.bytes.now self.at t c.args.entry.types.now q key is h in
    let far : self.at < q + gap_to 8 q = c.in_err-place.ensures.none refl (EntryType VariantType VariantType) refl in
    let inside = inside_text self.bytes.now self.at k.k (q + gap_to 8 q) k.start k.stated k.text in
    absurd (omega (arith, far, inside.0, inside.1))

pub returns-in_err-text-clause-none : goal.returns-in_err-text-clause-none
returns-in_err-text-clause-none c = λ none t is shaped key h.
    let self = c.args.self.now in
    let q = c.args.entry.place in
    let k = has_key self.bytes.now self.at t c.args.entry.types.now q key is h in
    let there : c.in_ok-place.place ≡ q + gap_to 8 q = c.in_ok-place.ensures.gap (EntryType VariantType VariantType) refl in
    c.in_err-text.ensures.none refl k.k k.code k.start k.stated (subst (λ (p : ℕ). IsInText self.bytes.now self.at k.k p k.start k.stated) (sym there) k.text)

pub returns-then-text-gt-MOST_OF_A_KEY-clause-none : goal.returns-then-text-gt-MOST_OF_A_KEY-clause-none
returns-then-text-gt-MOST_OF_A_KEY-clause-none c = λ none t is shaped key h.
    let self = c.args.self.now in
    let q = c.args.entry.place in
    let text = c.in_ok-text.text in
    let k = has_key self.bytes.now self.at t c.args.entry.types.now q key is h in
    let there : c.in_ok-place.place ≡ q + gap_to 8 q = c.in_ok-place.ensures.gap (EntryType VariantType VariantType) refl in
    let found = subst (λ (p : ℕ). IsInText self.bytes.now self.at k.k p text.start text.stated) there (c.in_ok-text.ensures.some k.k k.code) in
    let one = text_one self.bytes.now self.at k.k (q + gap_to 8 q) text.start text.stated k.start k.stated found k.text in
    let long : 64 < text.stated = search rules in
    absurd (omega (arith, one.1, long, k.short))

pub returns-in_err-end-clause-none : goal.returns-in_err-end-clause-none
returns-in_err-end-clause-none c = λ none t is shaped key h.
    let self = c.args.self.now in
    let q = c.args.entry.place in
    let text = c.in_ok-text.text in
    let k = has_key self.bytes.now self.at t c.args.entry.types.now q key is h in
    let there : c.in_ok-place.place ≡ q + gap_to 8 q = c.in_ok-place.ensures.gap (EntryType VariantType VariantType) refl in
    let found = subst (λ (p : ℕ). IsInText self.bytes.now self.at k.k p text.start text.stated) there (c.in_ok-text.ensures.some k.k k.code) in
    let one = text_one self.bytes.now self.at k.k (q + gap_to 8 q) text.start text.stated k.start k.stated found k.text in
    let far : self.at < text.start + text.stated = c.in_err-end.ensures.none refl in
    absurd (omega (arith, one.0, one.1, far, k.whole))

pub returns-then-end-self-clause-none : goal.returns-then-end-self-clause-none
returns-then-end-self-clause-none c = λ none t is shaped key h.
    let self = c.args.self.now in
    let q = c.args.entry.place in
    let text = c.in_ok-text.text in
    let k = has_key self.bytes.now self.at t c.args.entry.types.now q key is h in
    let there : c.in_ok-place.place ≡ q + gap_to 8 q = c.in_ok-place.ensures.gap (EntryType VariantType VariantType) refl in
    let found = subst (λ (p : ℕ). IsInText self.bytes.now self.at k.k p text.start text.stated) there (c.in_ok-text.ensures.some k.k k.code) in
    let one = text_one self.bytes.now self.at k.k (q + gap_to 8 q) text.start text.stated k.start k.stated found k.text in
    let end : c.in_ok-end.end ≡ text.start + text.stated = c.in_ok-end.ensures.some.0 in
    let last : c.in_ok-end.end ≡ self.at = search rules in
    absurd (omega (arith, one.0, one.1, end, last, k.whole))

pub returns-clause-some : goal.returns-clause-some
returns-clause-some c =
    let self = c.args.self.now in
    let bytes = self.bytes.now in
    let q = c.args.entry.place in
    let types = c.args.entry.types.now in
    let text = c.in_ok-text.text in
    let there : c.in_ok-place.place ≡ q + gap_to 8 q = c.in_ok-place.ensures.gap (EntryType VariantType VariantType) refl in
    let end : c.in_ok-end.end ≡ text.start + text.stated = c.in_ok-end.ensures.some.0 in
    let near : c.in_ok-end.end ≤ self.at = c.in_ok-end.ensures.some.1 in
    let apart : c.in_ok-end.end ≡ self.at → ⊥ = c.if-end-self.false in
    let whole : text.start + text.stated < self.at = omega (arith, end, near, apart) in
    let short : text.stated ≤ 64 = omega arith in
    let long : c.in_ok-end.end - text.start ≡ text.stated = omega (arith, end) in
    let code : get_or types 0 0 ≡ 123 = search rules in
    some_map c.printable.result (λ r h t is shaped.
    is_key bytes self.at t types q text.start text.stated r.now is shaped code
    (λ u own. subst (λ (p : ℕ). IsInText bytes self.at u p text.start text.stated) there (c.in_ok-text.ensures.some u own))
    whole short (h.0 ∙ ap (λ (n : ℕ). take n (drop text.start bytes)) long) (ap (list_all is_printable) h.0 ∙ h.1)) c.printable.ensures.some

pub returns-clause-none : goal.returns-clause-none
returns-clause-none c = λ none t is shaped key h.
    let self = c.args.self.now in
    let bytes = self.bytes.now in
    let q = c.args.entry.place in
    let text = c.in_ok-text.text in
    let k = has_key bytes self.at t c.args.entry.types.now q key is h in
    let there : c.in_ok-place.place ≡ q + gap_to 8 q = c.in_ok-place.ensures.gap (EntryType VariantType VariantType) refl in
    let found = subst (λ (p : ℕ). IsInText bytes self.at k.k p text.start text.stated) there (c.in_ok-text.ensures.some k.k k.code) in
    let one = text_one bytes self.at k.k (q + gap_to 8 q) text.start text.stated k.start k.stated found k.text in
    let end : c.in_ok-end.end ≡ text.start + text.stated = c.in_ok-end.ensures.some.0 in
    let long : c.in_ok-end.end - text.start ≡ k.stated = omega (arith, end, one.1) in
    c.printable.ensures.none none (ap (list_all is_printable) ((λ i. take (long i) (drop (one.0 i) bytes)) ∙ sym k.key_is) ∙ k.plain)
