-- The steps of a text.
use Rattle.std.proofs.Common.{◌≡◌, ℕ, ◌+◌, ◌-◌, ◌*◌, ◌/◌, ◌%◌, ◌<◌, ◌≤◌, true, cond, Option, Some, None, List, [], ◌∷◌, ◌++◌, ◌⊎◌, ⊎_elim, inl, inr, refl, ap, ◌∙◌, subst, arith, encode_utf8_all, ◌≢◌, false, eqb, sym, IsUtf8, lit<}
use Rattle.std.specs.List.{AllByRecursion, list_any}
use Rattle.std.specs.Int.{is_in_range, IsInRange}
use Rattle.std.specs.Char.{IsScalar}
use Rattle.std.proofs.Math.Utf8.{encode, scalar_cases, scalar, scalars}
use Rattle.std.proofs.lemmas.Bool.{cond_both, lt-ltb, le-ltb, false≢true, cases_lt, and_from, and_parts, or_parts, or_cases, eqb-true, eqb-false}
use Rattle.std.proofs.lemmas.Bool.Decides.{nat_tests}
use Rattle.std.proofs.lemmas.Str.{encode_ascii}
use Rattle.dbus_texts.specs.declared.utf8.Utf8Place.{Utf8Place}
use Rattle.dbus_texts.specs.declared.utf8.Utf8Place.TheVariants.{Free, Last, LastTwo, LastThree, AfterE0, AfterEd, AfterF0, AfterF4}
use Rattle.dbus_texts.specs.Quotients.{IsStep}
use Rattle.dbus_texts.specs.Kinds.{IsTextChar, IsText}
use Rattle.dbus_texts.specs.Utf8Scans.{ByteThen, text_rest, lead, text_next, text_end}

-- the four forms of a character
encode_1 : (x : ℕ) → x < 128 → encode x ≡ x ∷ []
unfolding encode
encode_1 x h = rw (lt-ltb x 128 h)

encode_2 : (x : ℕ) → 128 ≤ x → x < 2048 → encode x ≡ (192 + x / 64) ∷ (128 + x % 64) ∷ []
unfolding encode
encode_2 x l h = rw (le-ltb x 128 l, lt-ltb x 2048 h)

encode_3 : (x : ℕ) → 2048 ≤ x → x < 65536 → encode x ≡ (224 + x / 4096) ∷ (128 + (x / 64) % 64) ∷ (128 + x % 64) ∷ []
unfolding encode
encode_3 x l h =
    let k : 128 ≤ x = omega arith in
    rw (le-ltb x 128 k, le-ltb x 2048 l, lt-ltb x 65536 h)

encode_4 : (x : ℕ) → 65536 ≤ x → encode x ≡ (240 + x / 262144) ∷ (128 + (x / 4096) % 64) ∷ (128 + (x / 64) % 64) ∷ (128 + x % 64) ∷ []
unfolding encode
encode_4 x l =
    let k : 128 ≤ x = omega arith in
    let m : 2048 ≤ x = omega arith in
    rw (le-ltb x 128 k, le-ltb x 2048 m, le-ltb x 65536 l)

is_scalar : (x : ℕ) → (x < 55296) ⊎ ((57344 ≤ x) × (x < 1114112)) → IsScalar x
is_scalar x h = grind (arith, nat_tests)

-- what a first byte says
abbrev pub Leads : Utf8Place → ℕ → Type 0
Leads Free b = (1 ≤ b) × (b ≤ 127)
Leads Last b = (194 ≤ b) × (b ≤ 223)
Leads LastTwo b = ((225 ≤ b) × (b ≤ 236)) ⊎ ((238 ≤ b) × (b ≤ 239))
Leads LastThree b = (241 ≤ b) × (b ≤ 243)
Leads AfterE0 b = b ≡ 224
Leads AfterEd b = b ≡ 237
Leads AfterF0 b = b ≡ 240
Leads AfterF4 b = b ≡ 244

lead_means : (p : Utf8Place) (b : ℕ) → lead b ≡ Some p → Leads p b
lead_means p b e = grind (arith, nat_tests)

pub lead_is : (p : Utf8Place) (b : ℕ) → Leads p b → lead b ≡ Some p
lead_is Free b h = grind (arith, nat_tests, h)
lead_is _ b h = grind (arith, nat_tests, h)

-- a character's first byte, and what it leaves
record Led (b : ℕ) (c : List ℕ) : Type 0 where
  place : Utf8Place
  leads : lead b ≡ Some place
  follows : text_rest place c

led : (p : Utf8Place) (n b : ℕ) (c r : List ℕ) → Leads p n → text_rest p r → b ∷ c ≡ n ∷ r → Led b c
led p n b c r l f e =
    let same : b ≡ n = cc in
    let rest : r ≡ c = cc in
    record { place = p; leads = ap lead same ∙ lead_is p n l; follows = subst (λ v. text_rest p v) rest f }

char_led : (x b : ℕ) (c r : List ℕ) → IsTextChar x → IsText r → b ∷ c ≡ encode x ++ r → Led b c
char_led x b c r h t e =
    ⊎_elim (λ k. let z = h.1 in led Free x b c r (omega arith, omega arith) t (rw (encode_1 x k) at e))
    (λ l1. ⊎_elim (λ k. led Last _ b c _ (omega arith, omega arith) (one x, t) (rw (encode_2 x l1 k) at e))
    (λ l2. ⊎_elim (λ k. wide l2 k (rw (encode_3 x l2 k) at e))
    (λ l3. wider l3 (rw (encode_4 x l3) at e))
    (cases_lt x 65536)) (cases_lt x 2048)) (cases_lt x 128)
  where
    one : (y : ℕ) → IsInRange 128 191 (128 + y % 64)
    one y = (omega arith, omega arith)

    wide : 2048 ≤ x → x < 65536 → b ∷ c ≡ (224 + x / 4096) ∷ (128 + (x / 64) % 64) ∷ (128 + x % 64) ∷ r → Led b c
    wide l2 k e' =
        ⊎_elim (λ m. led AfterE0 _ b c _ (omega arith) ((omega arith, omega arith), (one x, t)) e')
        (λ g1. ⊎_elim (λ m. led LastTwo _ b c _ (inl (omega arith, omega arith)) (one (x / 64), (one x, t)) e')
        (λ g2. ⊎_elim (λ m. led AfterEd _ b c _ (omega arith) ((omega arith, omega arith), (one x, t)) e')
        (λ g3. led LastTwo _ b c _ (inr (⊎_elim (λ s. absurd (omega arith)) (λ s. omega arith) (scalar_cases x h.0), omega arith)) (one (x / 64), (one x, t)) e')
        (cases_lt x 55296)) (cases_lt x 53248)) (cases_lt x 4096)

    wider : 65536 ≤ x → b ∷ c ≡ (240 + x / 262144) ∷ (128 + (x / 4096) % 64) ∷ (128 + (x / 64) % 64) ∷ (128 + x % 64) ∷ r → Led b c
    wider l3 e' =
        ⊎_elim (λ m. led AfterF0 _ b c _ (omega arith) ((omega arith, omega arith), (one (x / 64), (one x, t))) e')
        (λ g1. ⊎_elim (λ m. led LastThree _ b c _ (omega arith, omega arith) (one (x / 4096), (one (x / 64), (one x, t))) e')
        (λ g2. let small : x < 1114112 = ⊎_elim (λ s. absurd (omega arith)) (λ s. s.1) (scalar_cases x h.0) in led AfterF4 _ b c _ (omega arith) ((omega arith, omega arith), (one (x / 64), (one x, t))) e')
        (cases_lt x 1048576)) (cases_lt x 262144)

text_led_at : (cs : List ℕ) (b : ℕ) (c : List ℕ) → AllByRecursion IsTextChar cs → b ∷ c ≡ encode_utf8_all cs → Led b c
text_led_at [] b c a e = cc
text_led_at (x ∷ cs) b c a e = char_led x b c (encode_utf8_all cs) a.0 (cs, a.1, refl) e

text_led : (b : ℕ) (c : List ℕ) → IsText (b ∷ c) → Led b c
text_led b c h = text_led_at h.0 b c h.1 h.2

-- a character before a text
text_cons : (x : ℕ) (w r : List ℕ) → IsTextChar x → w ≡ encode x ++ r → IsText r → IsText w
text_cons x w r h e t = (x ∷ t.0, (h, t.1), e ∙ ap (λ v. encode x ++ v) t.2)

back_last : (b : ℕ) (c : List ℕ) → 194 ≤ b → b ≤ 223 → ByteThen 128 191 IsText c → IsText (b ∷ c)
back_last b [] l h t = absurd t
back_last b (i ∷ c) l h t =
    let x = (b - 192) * 64 + (i - 128) in
    let e0 : 192 + x / 64 ≡ b = omega arith in
    let e1 : 128 + x % 64 ≡ i = omega arith in
    text_cons x (b ∷ i ∷ c) c (is_scalar x (inl (omega arith)), omega arith) (rw (encode_2 x (omega arith) (omega arith), e0, e1)) t.1

-- the least and the greatest character that begin with b and a byte from low to high
abbrev least : ℕ → ℕ → ℕ
least b low = (b - 224) * 4096 + (low - 128) * 64

abbrev greatest : ℕ → ℕ → ℕ
greatest b high = (b - 224) * 4096 + (high - 128) * 64 + 63

back_two : (low high b : ℕ) (c : List ℕ) → 224 ≤ b → b ≤ 239 → 128 ≤ low → high ≤ 191 → 2048 ≤ least b low → (greatest b high < 55296) ⊎ (57344 ≤ least b low) → ByteThen low high (ByteThen 128 191 IsText) c → IsText (b ∷ c)
back_two low high b [] l h p q m s t = absurd t
back_two low high b (i ∷ []) l h p q m s t = absurd t.1
back_two low high b (i ∷ j ∷ c) l h p q m s t =
    let x = (b - 224) * 4096 + (i - 128) * 64 + (j - 128) in
    let e0 : 224 + x / 4096 ≡ b = omega arith in
    let e1 : 128 + (x / 64) % 64 ≡ i = omega arith in
    let e2 : 128 + x % 64 ≡ j = omega arith in
    text_cons x (b ∷ i ∷ j ∷ c) c (is_scalar x (⊎_elim (λ k. inl (omega arith)) (λ k. inr (omega arith, omega arith)) s), omega arith) (rw (encode_3 x (omega arith) (omega arith), e0, e1, e2)) t.1.1

back_three : (low high b : ℕ) (c : List ℕ) → 240 ≤ b → b ≤ 244 → 128 ≤ low → high ≤ 191 → 16 ≤ (b - 240) * 64 + (low - 128) → (b - 240) * 64 + (high - 128) < 272 → ByteThen low high (ByteThen 128 191 (ByteThen 128 191 IsText)) c → IsText (b ∷ c)
back_three low high b [] l h p q m s t = absurd t
back_three low high b (i ∷ []) l h p q m s t = absurd t.1
back_three low high b (i ∷ j ∷ []) l h p q m s t = absurd t.1.1
back_three low high b (i ∷ j ∷ k ∷ c) l h p q m s t =
    let x = (b - 240) * 262144 + (i - 128) * 4096 + (j - 128) * 64 + (k - 128) in
    let e0 : 240 + x / 262144 ≡ b = omega arith in
    let e1 : 128 + (x / 4096) % 64 ≡ i = omega arith in
    let e2 : 128 + (x / 64) % 64 ≡ j = omega arith in
    let e3 : 128 + x % 64 ≡ k = omega arith in
    text_cons x (b ∷ i ∷ j ∷ k ∷ c) c (is_scalar x (inr (omega arith, omega arith)), omega arith) (rw (encode_4 x (omega arith), e0, e1, e2, e3)) t.1.1.1

back : (p : Utf8Place) (b : ℕ) (c : List ℕ) → Leads p b → text_rest p c → IsText (b ∷ c)
back Free b c h t = text_cons b (b ∷ c) c (is_scalar b (inl (omega arith)), omega arith) (rw (encode_1 b (omega arith))) t
back Last b c h t = back_last b c h.0 h.1 t
back LastTwo b c (inl h) t = back_two 128 191 b c (omega arith) (omega arith) (omega arith) (omega arith) (omega arith) (inl (omega arith)) t
back LastTwo b c (inr h) t = back_two 128 191 b c (omega arith) (omega arith) (omega arith) (omega arith) (omega arith) (inr (omega arith)) t
back AfterE0 b c h t = back_two 160 191 b c (omega arith) (omega arith) (omega arith) (omega arith) (omega arith) (inl (omega arith)) t
back AfterEd b c h t = back_two 128 159 b c (omega arith) (omega arith) (omega arith) (omega arith) (omega arith) (inl (omega arith)) t
back LastThree b c h t = back_three 128 191 b c (omega arith) (omega arith) (omega arith) (omega arith) (omega arith) (omega arith) t
back AfterF0 b c h t = back_three 144 191 b c (omega arith) (omega arith) (omega arith) (omega arith) (omega arith) (omega arith) t
back AfterF4 b c h t = back_three 128 143 b c (omega arith) (omega arith) (omega arith) (omega arith) (omega arith) (omega arith) t

-- something may always follow
nil_text : IsText []
nil_text = ([], tt, refl)

pub rest_some : (p : Utf8Place) → (c : List ℕ) × text_rest p c
rest_some Free = ([], nil_text)
rest_some Last = (128 ∷ [], ((omega arith, omega arith), nil_text))
rest_some LastTwo = (128 ∷ 128 ∷ [], ((omega arith, omega arith), ((omega arith, omega arith), nil_text)))
rest_some LastThree = (128 ∷ 128 ∷ 128 ∷ [], ((omega arith, omega arith), ((omega arith, omega arith), ((omega arith, omega arith), nil_text))))
rest_some AfterE0 = (160 ∷ 128 ∷ [], ((omega arith, omega arith), ((omega arith, omega arith), nil_text)))
rest_some AfterEd = (128 ∷ 128 ∷ [], ((omega arith, omega arith), ((omega arith, omega arith), nil_text)))
rest_some AfterF0 = (144 ∷ 128 ∷ 128 ∷ [], ((omega arith, omega arith), ((omega arith, omega arith), ((omega arith, omega arith), nil_text))))
rest_some AfterF4 = (128 ∷ 128 ∷ 128 ∷ [], ((omega arith, omega arith), ((omega arith, omega arith), ((omega arith, omega arith), nil_text))))

-- a first byte
free_moves : (b : ℕ) (o : Option Utf8Place) → lead b ≡ o → IsStep text_rest Free b o
free_moves b None e = λ c h. let l = text_led b c h in let w = l.leads in cc
free_moves b (Some p) e =
    record {
      to = λ c h. let l = text_led b c h in let q = l.leads in let same : l.place ≡ p = cc in subst (λ s. text_rest s c) same l.follows;
      from = λ c h. back p b c (lead_means p b e) h;
      some = rest_some p;
    }

-- a byte after the first
after_moves : (p q : Utf8Place) (low high b : ℕ) → ((c : List ℕ) → text_rest p (b ∷ c) → IsInRange low high b × text_rest q c) → ((c : List ℕ) → IsInRange low high b → text_rest q c → text_rest p (b ∷ c)) → IsStep text_rest p b (cond (is_in_range low high b) (Some q) None)
after_moves p q low high b to from =
    cond_both (is_in_range low high b) _ _ (IsStep text_rest p b)
    (λ e. let within : IsInRange low high b = grind (arith, nat_tests) in record { to = λ c h. (to c h).1; from = λ c h. from c within h; some = rest_some q })
    (λ e. λ c h. let within = (to c h).0 in grind (arith, nat_tests))

pub text_moves : (p : Utf8Place) (b : ℕ) → IsStep text_rest p b (text_next p b)
text_moves Free b = free_moves b (lead b) refl
text_moves Last b = after_moves Last Free 128 191 b (λ c h. h) (λ c r h. (r, h))
text_moves LastTwo b = after_moves LastTwo Last 128 191 b (λ c h. h) (λ c r h. (r, h))
text_moves LastThree b = after_moves LastThree LastTwo 128 191 b (λ c h. h) (λ c r h. (r, h))
text_moves AfterE0 b = after_moves AfterE0 Last 160 191 b (λ c h. h) (λ c r h. (r, h))
text_moves AfterEd b = after_moves AfterEd Last 128 159 b (λ c h. h) (λ c r h. (r, h))
text_moves AfterF0 b = after_moves AfterF0 LastTwo 144 191 b (λ c h. h) (λ c r h. (r, h))
text_moves AfterF4 b = after_moves AfterF4 LastTwo 128 143 b (λ c h. h) (λ c r h. (r, h))

pub text_ended : (p : Utf8Place) → text_rest p [] → text_end p ≡ true
text_ended Free h = refl
text_ended _ h = absurd h

pub text_ends : (p : Utf8Place) → text_end p ≡ true → text_rest p []
text_ends Free e = nil_text
text_ends _ e = absurd (false≢true e)

pub text_some : (c : List ℕ) × IsText c
text_some = ([], nil_text)

-- A text is UTF-8 in which no byte is 0.

all_scalars : (cs : List ℕ) → AllByRecursion IsTextChar cs → scalars cs ≡ true
all_scalars [] h = refl
all_scalars (c ∷ cs) h = and_from (scalar c) (scalars cs) h.0.0 (all_scalars cs h.1)

pub utf8_of_text : (w : List ℕ) → IsText w → IsUtf8 w
utf8_of_text w h = (h.0, (all_scalars h.0 h.1, sym h.2))

back_part : (x y : List ℕ) → AllByRecursion (λ b. b ≢ 0) (x ++ y) → AllByRecursion (λ b. b ≢ 0) y
back_part [] y h = h
back_part (b ∷ x) y h = back_part x y h.1

chars_not_nul : (cs : List ℕ) → scalars cs ≡ true → AllByRecursion (λ b. b ≢ 0) (encode_utf8_all cs) → AllByRecursion IsTextChar cs
chars_not_nul [] s h = tt
chars_not_nul (c ∷ cs) s h =
    let p = and_parts (scalar c) (scalars cs) s in
    let not_nul : c ≢ 0 = λ e. (subst (λ x. AllByRecursion (λ b. b ≢ 0) (x ++ encode_utf8_all cs)) (ap encode e ∙ encode_ascii 0 (lit< tt)) h).0 refl in
    ((p.0, not_nul), chars_not_nul cs p.1 (back_part (encode c) (encode_utf8_all cs) h))

pub text_of_utf8 : (w : List ℕ) → IsUtf8 w → AllByRecursion (λ b. b ≢ 0) w → IsText w
text_of_utf8 w h n = (h.0, chars_not_nul h.0 h.1.0 (subst (λ v. AllByRecursion (λ b. b ≢ 0) v) (sym h.1.1) n), sym h.1.1)

-- whether a zero byte stands in a text
pub no_zero : (w : List ℕ) → list_any (λ b. eqb b 0) w ≡ false → AllByRecursion (λ b. b ≢ 0) w
no_zero [] h = tt
no_zero (b ∷ w) h =
    let p = or_parts (eqb b 0) (list_any (λ b. eqb b 0) w) h in
    (eqb-false b 0 p.0, no_zero w p.1)

pub a_zero : (w : List ℕ) → list_any (λ b. eqb b 0) w ≡ true → AllByRecursion (λ b. b ≢ 0) w → ⊥
a_zero [] e h = false≢true e
a_zero (b ∷ w) e h =
    ⊎_elim (λ z. h.0 (eqb-true b 0 z)) (λ z. a_zero w z h.1) (or_cases (eqb b 0) (list_any (λ b. eqb b 0) w) e)
