-- Fronts of texts of which no character is escaped, by their bytes.
use Rattle.std.proofs.Common.{◌≡◌, ℕ, suc, ◌+◌, ◌-◌, ◌/◌, ◌<◌, ◌≤◌, List, [], ◌∷◌, ◌++◌, length, get_or, take, drop, Bool, true, false, not, cond, ltb, ◌||◌, eqb, ◌⊎◌, inl, inr, ⊎_elim, refl, sym, ap, subst, ◌∙◌, arith, chars, encode_utf8, encode_utf8_all, IsUtf8, IsCharBoundary, drop-cons, length-drop, length-append, append_assoc}
use Rattle.std.specs.List.{AllByRecursion, prefix_len}
use Rattle.std.specs.Str.{IsAscii, NonePass}
use Rattle.std.specs.Int.{is_in_range}
use Rattle.std.proofs.Math.Utf8.{encode}
use Rattle.std.proofs.Math.Seq.{take-add}
use Rattle.std.proofs.lemmas.List.{get_or-drop, take-append-drop}
use Rattle.std.proofs.lemmas.List.Sums.{prefix_len-le-length, prefix_len_stops}
use Rattle.std.proofs.lemmas.Str.{IsCharBoundary-from_take, IsUtf8-between, IsUtf8-from_ascii, IsUtf8-take, chars-append, encodes-chars, length-encode, len_utf8_bounds}
use Rattle.std.proofs.lemmas.Str.Ascii.{IsAscii-cons, IsAscii-nil}
use Rattle.std.proofs.lemmas.Bool.{lt-ltb, le-ltb}
use Rattle.std.proofs.lemmas.Bool.Decides.{nat_tests}
use Rattle.std.specs.Char.{is_ascii_control}
use Rattle.dbus_show.specs.Escapes.{is_escaped, is_hidden, is_quote}
use Rattle.dbus_show.specs.PlainFronts.{IsEscapedAt, IsPlainFront, is_beyond, is_stop}
use Rattle.dbus_show.specs.declared.escapes.Escapes.{Escapes}
use Rattle.dbus_show.specs.declared.escapes.Escapes.TheVariants.{Shown, Json, Hidden, Line}
use Rattle.dbus_show.specs.declared.runs.Beyond.{Beyond}
use Rattle.dbus_show.specs.declared.runs.Beyond.TheVariants.{Each, Leads}

-- ---- the first byte of a character

abbrev lead_byte : ℕ → ℕ
lead_byte c = cond (ltb c 128) c (cond (ltb c 2048) (192 + c / 64) (cond (ltb c 65536) (224 + c / 4096) (240 + c / 262144)))

first_of : (p q r : Bool) (a b d e : ℕ) (av bv dv ev : List ℕ)
    → (more : List ℕ) × (cond p (a ∷ av) (cond q (b ∷ bv) (cond r (d ∷ dv) (e ∷ ev))) ≡ cond p a (cond q b (cond r d e)) ∷ more)
first_of true q r a b d e av bv dv ev = (av, refl)
first_of false true r a b d e av bv dv ev = (bv, refl)
first_of false false true a b d e av bv dv ev = (dv, refl)
first_of false false false a b d e av bv dv ev = (ev, refl)

encode_first : (c : ℕ) → (more : List ℕ) × (encode_utf8 c ≡ lead_byte c ∷ more)
unfolding encode
encode_first c = first_of (ltb c 128) (ltb c 2048) (ltb c 65536) _ _ _ _ _ _ _ _

lead_1 : (c : ℕ) → c < 128 → lead_byte c ≡ c
lead_1 c h = rw (lt-ltb c 128 h) refl

lead_2 : (c : ℕ) → 128 ≤ c → c < 2048 → lead_byte c ≡ 192 + c / 64
lead_2 c l h = rw (le-ltb c 128 l, lt-ltb c 2048 h) refl

lead_3 : (c : ℕ) → 2048 ≤ c → c < 65536 → lead_byte c ≡ 224 + c / 4096
lead_3 c l h =
    let a : 128 ≤ c = omega arith in
    rw (le-ltb c 128 a, le-ltb c 2048 l, lt-ltb c 65536 h) refl

lead_4 : (c : ℕ) → 65536 ≤ c → lead_byte c ≡ 240 + c / 262144
lead_4 c l =
    let a : 128 ≤ c = omega arith in
    let b : 2048 ≤ c = omega arith in
    rw (le-ltb c 128 a, le-ltb c 2048 b, le-ltb c 65536 l) refl

-- one of two tests
either_is : (a b : Bool) → (a || b) ≡ true → (a ≡ true) ⊎ (b ≡ true)
either_is true b h = inl refl
either_is false b h = inr h

either_right : (a : Bool) {b : Bool} → b ≡ true → (a || b) ≡ true
either_right true h = refl
either_right false h = h

in_range : (lo hi c : ℕ) → is_in_range lo hi c ≡ true → (lo ≤ c) × (c ≤ hi)
in_range lo hi c h = (grind (arith, nat_tests), grind (arith, nat_tests))

is_number : (n c : ℕ) → eqb c n ≡ true → c ≡ n
is_number n c h = grind (arith, nat_tests)

lead_is : (c b : ℕ) → lead_byte c ≡ b → is_beyond Leads b ≡ true → is_beyond Leads (lead_byte c) ≡ true
lead_is c b e h = subst (λ x. is_beyond Leads x ≡ true) (sym e) h

two : (c b : ℕ) → 128 ≤ c → c < 2048 → c / 64 ≡ b → is_beyond Leads (192 + b) ≡ true → is_beyond Leads (lead_byte c) ≡ true
two c b l u e h = lead_is c (192 + b) (lead_2 c l u ∙ ap (λ x. 192 + x) e) h

three : (c b : ℕ) → 2048 ≤ c → c < 65536 → c / 4096 ≡ b → is_beyond Leads (224 + b) ≡ true → is_beyond Leads (lead_byte c) ≡ true
three c b l u e h = lead_is c (224 + b) (lead_3 c l u ∙ ap (λ x. 224 + x) e) h

-- a hidden character, by its range
hidden_lead : (c : ℕ) → is_hidden c ≡ true → is_beyond Leads (lead_byte c) ≡ true
hidden_lead c h =
    ⊎_elim (λ h. ⊎_elim (λ h. ⊎_elim (λ h. ⊎_elim (λ h. ⊎_elim (λ h. ⊎_elim (λ h. ⊎_elim (λ h. ⊎_elim (λ h. ⊎_elim
    (λ h. let r = in_range 0x80 0x9F c h in two c 2 (omega arith) (omega arith) (omega arith) refl)
    (λ h. let e = is_number 0xAD c h in two c 2 (omega arith) (omega arith) (omega arith) refl)
    (either_is _ (eqb c 0xAD) h))
    (λ h. let e = is_number 0x61C c h in two c 24 (omega arith) (omega arith) (omega arith) refl)
    (either_is _ (eqb c 0x61C) h))
    (λ h. let e = is_number 0x180E c h in three c 1 (omega arith) (omega arith) (omega arith) refl)
    (either_is _ (eqb c 0x180E) h))
    (λ h. let r = in_range 0x200B 0x200F c h in three c 2 (omega arith) (omega arith) (omega arith) refl)
    (either_is _ (is_in_range 0x200B 0x200F c) h))
    (λ h. let r = in_range 0x2028 0x202E c h in three c 2 (omega arith) (omega arith) (omega arith) refl)
    (either_is _ (is_in_range 0x2028 0x202E c) h))
    (λ h. let r = in_range 0x2060 0x206F c h in three c 2 (omega arith) (omega arith) (omega arith) refl)
    (either_is _ (is_in_range 0x2060 0x206F c) h))
    (λ h. let e = is_number 0xFEFF c h in three c 15 (omega arith) (omega arith) (omega arith) refl)
    (either_is _ (eqb c 0xFEFF) h))
    (λ h. let r = in_range 0xFFF9 0xFFFB c h in three c 15 (omega arith) (omega arith) (omega arith) refl)
    (either_is _ (is_in_range 0xFFF9 0xFFFB c) h))
    (λ h. let r = in_range 0xE0000 0xE0FFF c h in lead_is c 0xF3 (lead_4 c (omega arith) ∙ omega arith) refl)
    (either_is _ (is_in_range 0xE0000 0xE0FFF c) h)

beyond_stops : (beyond : Beyond) (b : ℕ) → is_beyond beyond b ≡ true → is_stop beyond b ≡ true
beyond_stops beyond b h = within (ltb b 32) (is_beyond beyond b) (eqb b 34 || eqb b 92 || eqb b 127) h where
  within : (p q r : Bool) → q ≡ true → ((p || q) || r) ≡ true
  within true q r h = refl
  within false q r h = ap (λ x. x || r) h

ascii_stops : (c : ℕ) → (is_quote c || is_ascii_control c) ≡ true → (c < 128) × (is_stop Leads c ≡ true)
ascii_stops c h = (grind (arith, nat_tests), grind (arith, nat_tests))

ascii_lead : (c : ℕ) → (is_quote c || is_ascii_control c) ≡ true → is_stop Leads (lead_byte c) ≡ true
ascii_lead c h =
    let s = ascii_stops c h in
    subst (λ x. is_stop Leads x ≡ true) (sym (lead_1 c s.0)) s.1

escaped_stop : (escapes : Escapes) (c : ℕ) → is_escaped escapes c ≡ true → is_stop Leads (lead_byte c) ≡ true
escaped_stop Shown c h = ascii_lead c h
escaped_stop Json c h = ⊎_elim (λ k. ascii_lead c k) (λ k. beyond_stops Leads (lead_byte c) (hidden_lead c k)) (either_is (is_quote c || is_ascii_control c) (is_hidden c) h)
escaped_stop Hidden c h = beyond_stops Leads (lead_byte c) (hidden_lead c h)
escaped_stop Line c h = ⊎_elim (λ k. ascii_lead c (either_right (is_quote c) k)) (λ k. beyond_stops Leads (lead_byte c) (hidden_lead c k)) (either_is (is_ascii_control c) (is_hidden c) h)

-- every stop of the one kind is one of the other
leads_each : (b : ℕ) → is_stop Leads b ≡ true → is_stop Each b ≡ true
leads_each b h = grind (arith, nat_tests)

escaped_stops : (beyond : Beyond) (escapes : Escapes) (c : ℕ) → is_escaped escapes c ≡ true → is_stop beyond (lead_byte c) ≡ true
escaped_stops Each escapes c h = leads_each (lead_byte c) (escaped_stop escapes c h)
escaped_stops Leads escapes c h = escaped_stop escapes c h

-- ---- characters without such bytes

-- no run ends in these bytes
abbrev pub IsRun : Beyond → List ℕ → Type 0
IsRun beyond bs = AllByRecursion (λ b. is_stop beyond b ≡ false) bs

run_back : (beyond : Beyond) (xs ys : List ℕ) → IsRun beyond (xs ++ ys) → IsRun beyond ys
run_back beyond [] ys h = h
run_back beyond (x ∷ xs) ys h = run_back beyond xs ys h.1

not_true : (a b : Bool) → (a ≡ true → b ≡ true) → b ≡ false → a ≡ false
not_true true b h e = let t = h refl in cc
not_true false b h e = refl

not_escaped : (beyond : Beyond) (escapes : Escapes) (c : ℕ) (rest : List ℕ) → IsRun beyond (encode_utf8 c ++ rest) → is_escaped escapes c ≡ false
not_escaped beyond escapes c rest h =
    let first = encode_first c in
    let run : IsRun beyond (lead_byte c ∷ (first.0 ++ rest)) = subst (λ s. IsRun beyond (s ++ rest)) first.1 h in
    not_true (is_escaped escapes c) (is_stop beyond (lead_byte c)) (escaped_stops beyond escapes c) run.0

none_escaped : (beyond : Beyond) (escapes : Escapes) (cs : List ℕ) → IsRun beyond (encode_utf8_all cs) → NonePass (is_escaped escapes) cs
none_escaped beyond escapes [] h = tt
none_escaped beyond escapes (c ∷ cs) h = (not_escaped beyond escapes c (encode_utf8_all cs) h, none_escaped beyond escapes cs (run_back beyond (encode_utf8 c) (encode_utf8_all cs) h))

-- ---- fronts

was_stop : (b : Bool) → not b ≡ false → b ≡ true
was_stop true e = refl
was_stop false e = sym e

run_first : (beyond : Beyond) (x n : ℕ) (xs : List ℕ) (b : Bool) → is_stop beyond x ≡ b → IsRun beyond (take n xs) → IsRun beyond (take (cond (not b) (1 + n) 0) (x ∷ xs))
run_first beyond x n xs true e h = tt
run_first beyond x n xs false e h =
    let next : suc n ≡ 1 + n = omega arith in
    subst (λ k. IsRun beyond (take k (x ∷ xs))) next (e, h)

run_front : (beyond : Beyond) (xs : List ℕ) → IsRun beyond (take (prefix_len (λ b. not (is_stop beyond b)) xs) xs)
run_front beyond [] = tt
run_front beyond (x ∷ xs) = run_first beyond x (prefix_len (λ b. not (is_stop beyond b)) xs) xs (is_stop beyond x) refl (run_front beyond xs)

run_ascii : (xs : List ℕ) → IsRun Each xs → IsAscii xs
run_ascii [] h = IsAscii-nil
run_ascii (x ∷ xs) h = IsAscii-cons x xs (low x h.0) (run_ascii xs h.1) where
  low : (b : ℕ) → is_stop Each b ≡ false → b < 128
  low b e = grind (arith, nat_tests)

none_in : (beyond : Beyond) (escapes : Escapes) (text : List ℕ) → IsUtf8 text → IsRun beyond text → NonePass (is_escaped escapes) (chars text)
none_in beyond escapes text u h = none_escaped beyond escapes (chars text) (subst (IsRun beyond) (sym (encodes-chars text u)) h)

-- as far as all bytes are plain ASCII
pub first_front : (escapes : Escapes) (text : List ℕ) (n : ℕ) → IsUtf8 text → n ≡ prefix_len (λ b. not (is_stop Each b)) text → IsPlainFront escapes text n
first_front escapes text n u e =
    let run : IsRun Each (take n text) = subst (λ k. IsRun Each (take k text)) (sym e) (run_front Each text) in
    let front : IsUtf8 (take n text) = IsUtf8-from_ascii (take n text) (run_ascii (take n text) run) in
    let few = prefix_len-le-length (λ (b : ℕ). not (is_stop Each b)) text in
    record { place = IsCharBoundary-from_take text n u (omega (arith, e, few)) front; plain = none_in Each escapes (take n text) front run }

none_both : (p : ℕ → Bool) (cs ds : List ℕ) → NonePass p cs → NonePass p ds → NonePass p (cs ++ ds)
none_both p [] ds h k = k
none_both p (c ∷ cs) ds h k = (h.0, none_both p cs ds h.1 k)

stop_lead : (b : ℕ) → is_stop Leads b ≡ true → 128 ≤ b → 192 ≤ b
stop_lead b e l = grind (arith, nat_tests)

module _ (escapes : Escapes) (text : List ℕ) (at n : ℕ) (u : IsUtf8 text) (front : IsPlainFront escapes text at) (here : at < length text)
    (other : (c : ℕ) (rest : List ℕ) → drop at text ≡ encode_utf8 c ++ rest → is_escaped escapes c ≡ false) (e : n ≡ prefix_len (λ b. not (is_stop Leads b)) (drop (at + 1) text)) where
  abbrev passed : List ℕ
  passed = take (suc n) (drop at text)

  abbrev tail : List ℕ
  tail = drop (at + 1) text

  run : IsRun Leads (take n tail)
  run = subst (λ k. IsRun Leads (take k tail)) (sym e) (run_front Leads tail)

  passed_is : passed ≡ get_or text at 0 ∷ take n tail
  passed_is =
      let next : suc at ≡ at + 1 = omega arith in
      ap (take (suc n)) (drop-cons text at 0 here) ∙ ap (λ k. get_or text at 0 ∷ take n (drop k text)) next

  fits : at + suc n ≤ length text
  fits = let few = prefix_len-le-length (λ (b : ℕ). not (is_stop Leads b)) tail in omega (arith, e, few, length-drop (at + 1) text)

  place : IsCharBoundary text (at + suc n)
  place = (
    fits,
    λ l high.
        let more : n < length tail = omega (arith, l, length-drop (at + 1) text) in
        let stops = was_stop (is_stop Leads (get_or tail n 0)) (ap (λ k. not (is_stop Leads (get_or tail k 0))) e ∙ prefix_len_stops (λ (b : ℕ). not (is_stop Leads b)) tail 0 (omega (arith, e, more))) in
        let end : at + 1 + n ≡ at + suc n = omega arith in
        let same : get_or tail n 0 ≡ get_or text (at + suc n) 0 = get_or-drop (at + 1) text n 0 ∙ ap (λ i. get_or text i 0) end in
        stop_lead (get_or text (at + suc n) 0) (subst (λ b. is_stop Leads b ≡ true) same stops) high,
  )

  whole : IsUtf8 passed
  whole =
      let long : at + suc n - at ≡ suc n = omega arith in
      subst (λ k. IsUtf8 (take k (drop at text))) long (IsUtf8-between text at (at + suc n) u (omega arith) front.place place)

  none_passed : (cs : List ℕ) → encode_utf8_all cs ≡ passed → NonePass (is_escaped escapes) cs
  none_passed [] h = tt
  none_passed (c ∷ cs) h =
      let first = encode_first c in
      let rest = encode_utf8_all cs in
      let all : drop at text ≡ encode_utf8 c ++ (rest ++ drop (suc n) (drop at text)) = sym (take-append-drop (suc n) (drop at text)) ∙ ap (λ s. s ++ drop (suc n) (drop at text)) (sym h) ∙ append_assoc (encode_utf8 c) rest (drop (suc n) (drop at text)) in
      let tails : first.0 ++ rest ≡ take n tail = ap (drop 1) (ap (λ s. s ++ rest) (sym first.1) ∙ (h ∙ passed_is)) in
      (other c (rest ++ drop (suc n) (drop at text)) all, none_escaped Leads escapes cs (run_back Leads first.0 rest (subst (IsRun Leads) (sym tails) run)))

  -- past a character that is not escaped, to the next stop
  pub next_front : IsPlainFront escapes text (at + 1 + n)
  next_front =
      let back = none_passed (chars passed) (encodes-chars passed whole) in
      let both = none_both (is_escaped escapes) (chars (take at text)) (chars passed) front.plain back in
      let joined : chars (take (at + suc n) text) ≡ chars (take at text) ++ chars passed = ap chars (take-add at (suc n) text) ∙ chars-append (take at text) passed (IsUtf8-take text at u front.place) in
      let end : at + suc n ≡ at + 1 + n = omega arith in
      subst (IsPlainFront escapes text) end (record { place = place; plain = subst (NonePass (is_escaped escapes)) (sym joined) both })

-- at the end of a text no character is
pub none_at_end : (escapes : Escapes) (text : List ℕ) (n : ℕ) → length text ≤ n → IsEscapedAt escapes text n
none_at_end escapes text n l c rest e = absurd (omega (arith, ap length e, length-drop n text, length-append (encode_utf8 c) rest, length-encode c, len_utf8_bounds c))
