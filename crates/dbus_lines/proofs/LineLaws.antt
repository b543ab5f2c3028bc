-- Laws of lines.
use Rattle.std.proofs.Common.{◌≡◌, ◌≢◌, ◌⊎◌, ℕ, Bool, true, false, List, [], ◌∷◌, ◌++◌, refl, sym, ap, ◌∙◌, subst, inl, inr, ⊎_elim, append_assoc, append-nil, length, length-append, ◌+◌, ◌<◌, ◌≤◌, arith}
use Rattle.std.proofs.lemmas.Bool.{cases_eq}
use Rattle.std.proofs.lemmas.List.Elements.{All-cons, All-head, All-nil, All-tail}
use Rattle.dbus_lines.specs.Lines.{line_feed, IsUnbroken, IsLastLine, BeginsWithLine, AreLines, OneList, EachInput, InPieces}

abbrev P : ℕ → Type 0
P b = b ≢ line_feed

-- what follows a line feed is not unbroken
pub broken : (line more : List ℕ) → IsUnbroken (line ++ line_feed ∷ more) → ⊥
broken [] more u = All-head P line_feed more u refl
broken (x ∷ xs) more u = broken xs more (All-tail P x (xs ++ line_feed ∷ more) u)

head_of : (x y : ℕ) (xs ys : List ℕ) → x ∷ xs ≡ y ∷ ys → x ≡ y
head_of x y xs ys e = cc

tail_of : (x y : ℕ) (xs ys : List ℕ) → x ∷ xs ≡ y ∷ ys → xs ≡ ys
tail_of x y xs ys e = cc

-- bytes begin with one line that has a line feed
one_line : (l m x y : List ℕ) → IsUnbroken l → IsUnbroken m → l ++ line_feed ∷ x ≡ m ++ line_feed ∷ y → (l ≡ m) × (x ≡ y)
one_line [] [] x y u v e = (refl, tail_of _ _ _ _ e)
one_line [] (b ∷ m) x y u v e = absurd (All-head P b m v (sym (head_of _ _ _ _ e)))
one_line (a ∷ l) [] x y u v e = absurd (All-head P a l u (head_of _ _ _ _ e))
one_line (a ∷ l) (b ∷ m) x y u v e =
    let more = one_line l m x y (All-tail P a l u) (All-tail P b m v) (tail_of _ _ _ _ e) in
    (ap (λ (c : ℕ). c ∷ l) (head_of _ _ _ _ e) ∙ ap (λ t. b ∷ t) more.0, more.1)

-- and with one, whether it has
one_first : (ended : Bool) (bytes l m x y : List ℕ) → BeginsWithLine ended bytes l x → BeginsWithLine ended bytes m y → (l ≡ m) × (x ≡ y)
one_first ended bytes l m x y p q = first p.joined q.joined
  where
    first : (bytes ≡ l ++ line_feed ∷ x) ⊎ IsLastLine ended bytes l x → (bytes ≡ m ++ line_feed ∷ y) ⊎ IsLastLine ended bytes m y → (l ≡ m) × (x ≡ y)
    first (inl e) (inl f) = one_line l m x y p.unbroken q.unbroken (sym e ∙ f)
    first (inl e) (inr f) = absurd (broken l x (subst IsUnbroken (sym f.all ∙ e) q.unbroken))
    first (inr e) (inl f) = absurd (broken m y (subst IsUnbroken (sym e.all ∙ f) p.unbroken))
    first (inr e) (inr f) = (sym e.all ∙ f.all, e.none ∙ sym f.none)

-- no line begins where nothing is
nothing : (ended : Bool) (bytes line more : List ℕ) → bytes ≡ [] → BeginsWithLine ended bytes line more → ⊥
nothing ended bytes line more e b = first b.joined
  where
    has_one : (l : List ℕ) → [] ≡ l ++ line_feed ∷ more → ⊥
    has_one [] f = cc
    has_one (x ∷ xs) f = cc

    first : (bytes ≡ line ++ line_feed ∷ more) ⊎ IsLastLine ended bytes line more → ⊥
    first (inl f) = has_one line (sym e ∙ f)
    first (inr f) = f.some (sym f.all ∙ e)

pub one_list : OneList
one_list bytes [] [] p q = refl
one_list bytes [] (m ∷ ms) p q = absurd (nothing true bytes m q.0 p q.1)
one_list bytes (l ∷ ls) [] p q = absurd (nothing true bytes l p.0 q p.1)
one_list bytes (l ∷ ls) (m ∷ ms) p q =
    let one = one_first true bytes l m p.0 q.0 p.1 q.1 in
    ap (λ (c : List ℕ). c ∷ ls) one.0 ∙ ap (λ (t : List (List ℕ)). m ∷ t) (one_list q.0 ls ms (subst (λ (b : List ℕ). AreLines true b ls []) one.1 p.2) q.2)

abbrev Cut : List ℕ → Type 0
Cut bytes = (lines : List (List ℕ)) × AreLines true bytes lines []

-- one more byte before a line, which is no line feed
longer : (x : ℕ) (bytes line more : List ℕ) → P x → BeginsWithLine true bytes line more → BeginsWithLine true (x ∷ bytes) (x ∷ line) more
longer x bytes line more p b = record { unbroken = All-cons P x line p b.unbroken; joined = first b.joined }
  where
    first : (bytes ≡ line ++ line_feed ∷ more) ⊎ IsLastLine true bytes line more → (x ∷ bytes ≡ x ∷ (line ++ line_feed ∷ more)) ⊎ IsLastLine true (x ∷ bytes) (x ∷ line) more
    first (inl e) = inl (ap (λ t. x ∷ t) e)
    first (inr e) = inr (record { over = refl; some = λ none. cc; all = ap (λ t. x ∷ t) e.all; none = e.none })

-- and before an input
cut_after : (x : ℕ) (bytes : List ℕ) (lines : List (List ℕ)) → P x → AreLines true bytes lines [] → Cut (x ∷ bytes)
cut_after x bytes [] p a = (
  (x ∷ []) ∷ [],
  (
    [],
    record {
      unbroken = All-cons P x [] p (All-nil P);
      joined = inr (record { over = refl; some = λ none. cc; all = ap (λ t. x ∷ t) a; none = refl });
    },
    refl,
  ),
)
cut_after x bytes (l ∷ ls) p (more, b, a) = ((x ∷ l) ∷ ls, (more, longer x bytes l more p b, a))

pub each_input : EachInput
each_input [] = ([], refl)
each_input (x ∷ xs) =
    let (lines, a) = each_input xs in
    ⊎_elim
    (λ e. ([] ∷ lines, (xs, record { unbroken = All-nil P; joined = inl (ap (λ (c : ℕ). c ∷ xs) e) }, a)))
    (λ p. cut_after x xs lines p a)
    (cases_eq x line_feed)

-- a line that has a line feed begins what is longer too
pub goes_further : (ended : Bool) (bytes line left more : List ℕ) → BeginsWithLine false bytes line left → BeginsWithLine ended (bytes ++ more) line (left ++ more)
goes_further ended bytes line left more b = record { unbroken = b.unbroken; joined = first b.joined }
  where
    first : (bytes ≡ line ++ line_feed ∷ left) ⊎ IsLastLine false bytes line left → (bytes ++ more ≡ line ++ line_feed ∷ (left ++ more)) ⊎ IsLastLine ended (bytes ++ more) line (left ++ more)
    first (inl e) = inl (ap (λ t. t ++ more) e ∙ append_assoc line (line_feed ∷ left) more)
    first (inr e) = let wrong : false ≡ true = e.over in cc

pub in_pieces : InPieces
in_pieces ended bytes more left rest [] b p q = subst (λ (l : List ℕ). AreLines ended (l ++ more) b rest) (sym p) q
in_pieces ended bytes more left rest (l ∷ ls) b (then_, begins, p) q =
    (then_ ++ more, goes_further ended bytes l then_ more begins, in_pieces ended then_ more left rest ls b p q)

-- lines are followed by those of what they leave, with more bytes unless the input ended
pub lines_go_on : (ended over : Bool) (bytes left more rest : List ℕ) (a b : List (List ℕ)) → (ended ≡ true → (more ≡ []) × (over ≡ true)) → AreLines ended bytes a left
    → AreLines over (left ++ more) b rest → AreLines over (bytes ++ more) (a ++ b) rest
lines_go_on false over bytes left more rest a b end p q = in_pieces over bytes more left rest a b p q
lines_go_on true over bytes left more rest a b end p q =
    let none = (end refl).0 in
    let here : bytes ++ more ≡ bytes = ap (λ m. bytes ++ m) none ∙ append-nil bytes in
    let there : left ++ more ≡ left = ap (λ m. left ++ m) none ∙ append-nil left in
    subst (λ (l : List ℕ). AreLines over l (a ++ b) rest) (sym here)
    (subst (λ (o : Bool). AreLines o bytes (a ++ b) rest) (sym (end refl).1)
    (both bytes a p (subst (λ (o : Bool). AreLines o left b rest) (end refl).1 (subst (λ (l : List ℕ). AreLines over l b rest) there q))))
  where
    both : (bytes : List ℕ) (a : List (List ℕ)) → AreLines true bytes a left → AreLines true left b rest → AreLines true bytes (a ++ b) rest
    both bytes [] p q = subst (λ (l : List ℕ). AreLines true l b rest) (sym p) q
    both bytes (l ∷ ls) (then_, begins, p) q = (then_, begins, both then_ ls p q)

-- each line has a byte, with its line feed
line_some : (ended : Bool) (bytes line more : List ℕ) → BeginsWithLine ended bytes line more → length more + 1 ≤ length bytes
line_some ended bytes line more b = some b.joined
  where
    long : (l : List ℕ) → (l ≡ [] → ⊥) → 0 < length l
    long [] h = absurd (h refl)
    long (x ∷ xs) h = omega arith

    some : (bytes ≡ line ++ line_feed ∷ more) ⊎ IsLastLine ended bytes line more → length more + 1 ≤ length bytes
    some (inl e) = let size = ap length e in let all = length-append line (line_feed ∷ more) in omega (arith, size, all)
    some (inr e) = let size = ap length e.all in let none = ap length e.none in let few = long line e.some in omega (arith, size, none, few)

pub lines_few : (ended : Bool) (bytes left : List ℕ) (lines : List (List ℕ)) → AreLines ended bytes lines left → length lines + length left ≤ length bytes
lines_few ended bytes left [] p = let size = ap length p in omega (arith, size)
lines_few ended bytes left (l ∷ ls) (more, begins, p) =
    let one = line_some ended bytes l more begins in
    let few = lines_few ended more left ls p in
    omega (arith, one, few)
