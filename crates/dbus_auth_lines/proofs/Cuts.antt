-- What the cut of some bytes says of the bytes that follow them.
use Rattle.std.proofs.Common.{◌≡◌, ◌⊎◌, inl, inr, ℕ, zero, suc, ◌+◌, ◌-◌, ◌<◌, ◌≤◌, ◌==◌, Bool, true, false, List, [], ◌∷◌, ◌++◌, length, take, drop, get_or, refl, sym, ◌∙◌, ap, arith, append_assoc, length-append, length-take, take-append-drop, subst}
use Rattle.std.proofs.lemmas.Bool.{cases_lt}
use Rattle.std.proofs.lemmas.List.{append-nil, take_at, drop_at, take-append-le, drop-drop}
use Rattle.std.specs.List.{AllByRecursion}
use Rattle.std.specs.Prelude.{Option, Vec, Result, Ok, Err}
use Rattle.dbus_auth_lines.specs.Lines.{ended}
use Rattle.dbus_auth_lines.specs.Cut.{Cut, Ends, Bad, More, scan_from, cut, IsPlain, IsLine, Beginning, WholeLine, Faulty, Unfinished, IsUnfinished, within_line, cr_last, BeginsAs, cut_of, Fault}
use Rattle.dbus_auth_lines.specs.CutterViews.{cr_after, IsWithin, CutterState, IsLineOf, Takes, TakesCut}
use Rattle.dbus_auth_lines.proofs.Scans.{not_cr_test, cut_over, cut_over_cr, cut_line}
use Rattle.dbus_auth_lines.proofs.FirstLines.{some_beginning, cut_finds, stays_settled}
use Rattle.dbus_auth_lines.specs.declared.cutter.LineFault.{LineFault}

-- ---- two ways to split one list

module _ {X : Type 0} (a b k r : List X) (same : k ++ r ≡ a ++ b) where
  -- a prefix that is no longer than another is its beginning
  begins : length a ≤ length k → k ≡ a ++ drop (length a) k
  begins le = sym (ap (λ (x : List X). x ++ drop (length a) k) (sym (take_at a b (length a) refl) ∙ ap (take (length a)) (sym same) ∙ take-append-le (length a) k r le) ∙ take-append-drop (length a) k)

  -- what stands after the longer prefix
  suffix : length k ≤ length a → drop (length a - length k) r ≡ b
  suffix le =
      let m : length k + (length a - length k) ≡ length a = omega arith in
      ap (drop (length a - length k)) (sym (drop_at k r (length k) refl)) ∙ drop-drop (length a - length k) (length k) (k ++ r) ∙ ap (λ n. drop n (k ++ r)) m ∙ ap (drop (length a)) same ∙ drop_at a b (length a) refl

pub length-ended : (line : List ℕ) → length (ended line) ≡ length line + 2
length-ended line = length-append line (13 ∷ 10 ∷ [])

-- what is kept of a line that has more to come is shorter than the line
pub kept_is_short : (k r line more : List ℕ) → cut k ≡ More → k ++ r ≡ ended line ++ more → IsLine line → length k < length line + 2
kept_is_short k r line more wants e h = elim (cases_lt (length k) (length line + 2)) [
  | inl lt ↦ lt
  | inr ge ↦
      let k_is = begins (ended line) more k r e (omega (arith, length-ended line)) in
      let ends : cut k ≡ Ends (length line + 2) = ap cut k_is ∙ cut_line line (drop (length (ended line)) k) h in
      absurd (let x : Ends (length line + 2) ≡ More = sym ends ∙ wants in cc)
]

-- ---- a prefix and what follows it

-- a line that ends does so past this place
abbrev pub IsAbove : Cut → ℕ → Type 0
IsAbove More at = Unit {0}
IsAbove (Bad f) at = Unit {0}
IsAbove (Ends n) at = at < n

above_as : (k r : List ℕ) (b : Beginning) → cut k ≡ More → BeginsAs (k ++ r) b → IsAbove (cut_of b) (length k)
above_as k r (WholeLine line) wants h = kept_is_short k r line h.1.0 wants h.1.1 h.0
above_as k r (Faulty f) wants h = tt
above_as k r Unfinished wants h = tt

-- what a prefix settles, stays settled, and what it leaves open is settled after it
abbrev pub StaysSettled : Cut → Cut → ℕ → Type 0
StaysSettled More whole size = IsAbove whole size
StaysSettled (Ends n) whole size = (whole ≡ Ends n) × (n ≤ size)
StaysSettled (Bad f) whole size = whole ≡ Bad f

settled_as : (k r : List ℕ) (b : Beginning) → BeginsAs k b → StaysSettled (cut_of b) (cut (k ++ r)) (length k)
settled_as k r (WholeLine line) h =
    let settled = stays_settled k r (WholeLine line) (λ e. cc) h in (
      cut_finds (k ++ r) (WholeLine line) settled,
      omega (arith, ap length h.1.1, length-append (ended line) h.1.0, length-ended line),
    )
settled_as k r (Faulty f) h = cut_finds (k ++ r) (Faulty f) (stays_settled k r (Faulty f) (λ e. cc) h)
settled_as k r Unfinished h =
    let whole = some_beginning (k ++ r) in
    rw (cut_finds (k ++ r) whole.0 whole.1) (above_as k r whole.0 (cut_finds k Unfinished h) whole.1)

pub cut_follows : (k r : List ℕ) → StaysSettled (cut k) (cut (k ++ r)) (length k)
cut_follows k r = let front = some_beginning k in rw (cut_finds k front.0 front.1) (settled_as k r front.0 front.1)

within_as : (kept piece : List ℕ) (b : Beginning) → cut kept ≡ More → BeginsAs (kept ++ piece) b → IsWithin (length kept) (length piece) (cut_of b)
within_as kept piece (WholeLine line) wants h =
    let short = kept_is_short kept piece line h.1.0 wants h.1.1 h.0 in (
      omega arith,
      omega (arith, short),
      omega (arith, ap length h.1.1, length-append kept piece, length-append (ended line) h.1.0, length-ended line),
    )
within_as kept piece (Faulty f) wants h = tt
within_as kept piece Unfinished wants h = tt

pub is_within : (kept piece : List ℕ) → cut kept ≡ More → IsWithin (length kept) (length piece) (cut (kept ++ piece))
is_within kept piece wants =
    let whole = some_beginning (kept ++ piece) in
    rw (cut_finds (kept ++ piece) whole.0 whole.1) (within_as kept piece whole.0 wants whole.1)

-- a prefix of a line and more holds the whole line, or asks for more
front_cases : (c : Cut) (whole : Cut) (size n : ℕ) → StaysSettled c whole size → whole ≡ Ends n → (c ≡ More) ⊎ ((c ≡ Ends n) × (n ≤ size))
front_cases More whole size n h e = inl refl
front_cases (Ends m) whole size n h e = let same : m ≡ n = cc in inr (ap Ends same, rw (← same) h.1)
front_cases (Bad f) whole size n h e = absurd (let x : Ends n ≡ Bad f = cc in cc)

pub cut_front : (k r line more : List ℕ) → k ++ r ≡ ended line ++ more → IsLine line → (cut k ≡ More) ⊎ ((cut k ≡ Ends (length line + 2)) × (length line + 2 ≤ length k))
cut_front k r line more e h =
    front_cases (cut k) (cut (k ++ r)) (length k) (length line + 2)
    (cut_follows k r)
    (ap cut e ∙ cut_line line more h)

-- ---- a piece of the bytes to come

-- what one more piece gives, where a line is under way
pub data Comes (kept q line more : List ℕ) (n : ℕ) : Type 0 where
  waits : cut (kept ++ take n q) ≡ More → Comes kept q line more n
  whole : (size : ℕ) → cut (kept ++ take n q) ≡ Ends size → take (size - 2) (kept ++ take n q) ≡ line
      → drop (size - length kept) q ≡ more → size - length kept ≤ length q → Comes kept q line more n

whole_is : (kept q : List ℕ) (n : ℕ) → (kept ++ take n q) ++ drop n q ≡ kept ++ q
whole_is kept q n = append_assoc kept (take n q) (drop n q) ∙ ap (λ (x : List ℕ). kept ++ x) (take-append-drop n q)

line_of : (k r line more : List ℕ) → k ++ r ≡ ended line ++ more → length line + 2 ≤ length k → take (length line + 2 - 2) k ≡ line
line_of k r line more e le =
    let d = drop (length (ended line)) k in
    let m : length line + 2 - 2 ≡ length line = omega arith in
    ap (take (length line + 2 - 2)) (begins (ended line) more k r e (omega (arith, length-ended line))) ∙ ap (λ n. take n (ended line ++ d)) m ∙ ap (take (length line)) (append_assoc line (13 ∷ 10 ∷ []) d) ∙ take_at line (13 ∷ 10 ∷ d) (length line) refl

pub comes : (kept q line more : List ℕ) (n : ℕ) → cut kept ≡ More → kept ++ q ≡ ended line ++ more → IsLine line → Comes kept q line more n
comes kept q line more n wants e h = elim (cut_front (kept ++ take n q) (drop n q) line more (whole_is kept q n ∙ e) h) [
  | inl m ↦ waits m
  | inr w ↦
      let short = kept_is_short kept q line more wants e h in
      let size = length line + 2 in
      let rest : length (ended line) - length kept ≡ size - length kept = omega (arith, length-ended line) in
      whole size w.0 (line_of (kept ++ take n q) (drop n q) line more (whole_is kept q n ∙ e) w.1)
      (ap (λ n. drop n q) (sym rest) ∙ suffix (ended line) more kept q e (omega (arith, length-ended line)))
      (omega (arith, length-append kept (take n q), length-take n q, w.1))
]

-- ---- a scan that goes on after bytes that are kept

pub last_is_cr : (xs : List ℕ) (n : ℕ) (cr : Bool) → length xs ≡ suc n → (get_or xs n 0 == 13) ≡ cr_after cr xs
last_is_cr [] n cr e = absurd (omega (arith, e))
last_is_cr (b ∷ []) zero cr e = refl
last_is_cr (b ∷ []) (suc n) cr e = absurd (omega (arith, e))
last_is_cr (b ∷ c ∷ cs) zero cr e = absurd (omega (arith, e))
last_is_cr (b ∷ c ∷ cs) (suc n) cr e = last_is_cr (c ∷ cs) n (b == 13) (omega (arith, e))

unfinished : (k : List ℕ) → cut k ≡ More → IsUnfinished k
unfinished k wants = by_kind (some_beginning k).0 (some_beginning k).1
  where
    by_kind : (b : Beginning) → BeginsAs k b → IsUnfinished k
    by_kind (WholeLine line) h = absurd (let x : More ≡ Ends (length line + 2) = sym wants ∙ cut_finds k (WholeLine line) h in cc)
    by_kind (Faulty f) h = absurd (let x : More ≡ Bad f = sym wants ∙ cut_finds k (Faulty f) h in cc)
    by_kind Unfinished h = h

cr_over : (line rest : List ℕ) → AllByRecursion IsPlain line → cr_after false (line ++ rest) ≡ cr_after false rest
cr_over [] rest plain = refl
cr_over (b ∷ bs) rest plain = ap (λ c. cr_after c (bs ++ rest)) (not_cr_test b plain.0) ∙ cr_over bs rest plain.1

resumes_by : (kept piece : List ℕ) → IsUnfinished kept → scan_from (length kept) (cr_after false kept) piece ≡ cut (kept ++ piece)
resumes_by kept piece (within_line h) =
    ap (λ c. scan_from (length kept) c piece) (ap (cr_after false) (sym (append-nil kept)) ∙ cr_over kept [] h.plain) ∙ sym (cut_over kept piece h)
resumes_by kept piece (cr_last line h e) =
    ap (λ k. scan_from (length k) (cr_after false k) piece) e
    ∙ ap (λ c. scan_from (length (line ++ 13 ∷ [])) c piece) (cr_over line (13 ∷ []) h.plain) ∙ ap (λ n. scan_from n true piece) (length-append line (13 ∷ []))
    ∙ sym (ap cut (ap (λ k. k ++ piece) e ∙ append_assoc line (13 ∷ []) piece) ∙ cut_over_cr line piece h)

pub resumes : (kept piece : List ℕ) → cut kept ≡ More → scan_from (length kept) (cr_after false kept) piece ≡ cut (kept ++ piece)
resumes kept piece wants = resumes_by kept piece (unfinished kept wants)

pub short_by : (kept : List ℕ) → IsUnfinished kept → length kept ≤ 16383
short_by kept (within_line h) = omega (arith, h.short)
short_by kept (cr_last line h e) = omega (arith, h.short, ap length e, length-append line (13 ∷ []))

pub kept_within : (kept : List ℕ) → cut kept ≡ More → length kept ≤ 16383
kept_within kept wants = short_by kept (unfinished kept wants)

-- What the line cutter and first_line answer by their scan is what they answer by how the bytes
-- begin.

line_front : (k line : List ℕ) → BeginsAs k (WholeLine line) → take (length line + 2 - 2) k ≡ line
line_front k line h =
    let n : length line + 2 - 2 ≡ length line = omega arith in
    ap (λ m. take m k) n ∙ ap (take (length line)) (h.1.1 ∙ append_assoc line (13 ∷ 10 ∷ []) h.1.0) ∙ take_at line (13 ∷ 10 ∷ h.1.0) (length line) refl

by_beginning : {Z : Type 0} (kept piece : List ℕ) (result : Result (ℕ × Option (Vec ℕ Z)) LineFault) (after : CutterState) (b : Beginning)
    → BeginsAs (kept ++ piece) b → TakesCut kept piece result after (cut_of b) → Takes kept piece result after b
by_beginning kept piece (Ok t) after (WholeLine line) h taken =
    let P : List ℕ → Type 0 = λ l. IsLineOf t.1 l in (taken.0, subst P (line_front (kept ++ piece) line h) taken.1, taken.2)
by_beginning kept piece (Err e) after (WholeLine line) h taken = taken
by_beginning kept piece result after (Faulty f) h taken = taken
by_beginning kept piece result after Unfinished h taken = taken

pub takes_as : {Z : Type 0} (kept piece : List ℕ) (result : Result (ℕ × Option (Vec ℕ Z)) LineFault) (after : CutterState)
    → TakesCut kept piece result after (cut (kept ++ piece)) → (b : Beginning) → BeginsAs (kept ++ piece) b → Takes kept piece result after b
takes_as kept piece result after taken b h =
    let P : Cut → Type 0 = TakesCut kept piece result after in
    by_beginning kept piece result after b h (subst P (cut_finds (kept ++ piece) b h) taken)

-- ---- all bytes at once

pub whole_line : (k : List ℕ) (b : Beginning) (size : ℕ) → BeginsAs k b → cut k ≡ Ends size → b ≡ WholeLine (take (size - 2) k)
whole_line k (WholeLine line) size h e =
    let at : Ends (length line + 2) ≡ Ends size = sym (cut_finds k (WholeLine line) h) ∙ e in let same : length line + 2 ≡ size = cc in ap WholeLine (sym (ap (λ n. take (n - 2) k) (sym same) ∙ line_front k line h))
whole_line k (Faulty f) size h e = absurd (let x : Bad f ≡ Ends size = sym (cut_finds k (Faulty f) h) ∙ e in cc)
whole_line k Unfinished size h e = absurd (let x : More ≡ Ends size = sym (cut_finds k Unfinished h) ∙ e in cc)

pub faulty_line : (k : List ℕ) (b : Beginning) (fault : Fault) → BeginsAs k b → cut k ≡ Bad fault → b ≡ Faulty fault
faulty_line k (WholeLine line) fault h e = absurd (let x : Ends (length line + 2) ≡ Bad fault = sym (cut_finds k (WholeLine line) h) ∙ e in cc)
faulty_line k (Faulty f) fault h e = let same : Bad f ≡ Bad fault = sym (cut_finds k (Faulty f) h) ∙ e in cc
faulty_line k Unfinished fault h e = absurd (let x : More ≡ Bad fault = sym (cut_finds k Unfinished h) ∙ e in cc)

pub no_line : (k : List ℕ) (b : Beginning) → BeginsAs k b → cut k ≡ More → b ≡ Unfinished
no_line k (WholeLine line) h e = absurd (let x : Ends (length line + 2) ≡ More = sym (cut_finds k (WholeLine line) h) ∙ e in cc)
no_line k (Faulty f) h e = absurd (let x : Bad f ≡ More = sym (cut_finds k (Faulty f) h) ∙ e in cc)
no_line k Unfinished h e = refl
