-- The proofs of the laws that a `Draft` owes, of a room.
use Rattle.std.proofs.Common.{◌≡◌, ℕ, zero, suc, ◌+◌, ◌-◌, ◌≤◌, List, [], ◌∷◌, ◌++◌, length, take, drop, refl, sym, ap, ◌∙◌, arith, append_assoc, append-nil, length-append}
use Rattle.std.proofs.lemmas.List.{drop-drop, take_all, length-take}
use Rattle.dbus_room.specs.declared.room.Room.{Room}
use Rattle.dbus_room.specs.Rooms.{Gains, text_so_far}

-- the front of a list that begins with a front of another
take_front : (n : ℕ) (xs ys : List ℕ) → take n (take n xs ++ ys) ≡ take n (xs ++ ys)
take_front zero xs ys = refl
take_front (suc n) [] ys = refl
take_front (suc n) (x ∷ xs) ys = ap (λ (l : List ℕ). x ∷ l) (take_front n xs ys)

-- what agrees from one place on agrees from each later one on
later : (n m : ℕ) (xs ys : List ℕ) → n ≤ m → drop n xs ≡ drop n ys → drop m xs ≡ drop m ys
later n m xs ys le same =
    let apart : n + (m - n) ≡ m = omega (arith, le) in
    ap (λ (k : ℕ). drop k xs) (sym apart) ∙ (sym (drop-drop (m - n) n xs) ∙ (ap (λ (l : List ℕ). drop (m - n) l) same ∙ (drop-drop (m - n) n ys ∙ ap (λ (k : ℕ). drop k ys) apart)))

pub nothing : (a : Room) → Gains a [] a
nothing a = record {
  same = refl;
  size = refl;
  written = sym (take_all (length a.bytes.now) (text_so_far a ++ []) (omega (arith, a.fits, length-append (text_so_far a) [], length-take a.len a.bytes.now)) ∙ append-nil (text_so_far a));
  long = omega (arith, a.fits);
  behind = refl;
  whole = (λ e. (e, omega (arith, a.fits)), λ p. p.0);
}

pub joins : (a b c : Room) (s t : List ℕ) → Gains a s b → Gains b t c → Gains a (s ++ t) c
joins a b c s t p q =
    let n = length a.bytes.now in
    let l : length (s ++ t) ≡ length s + length t = length-append s t in
    record {
      same = q.same ∙ p.same;
      size = q.size ∙ p.size;
      written = q.written ∙ (ap (λ (k : ℕ). take k (text_so_far b ++ t)) p.size ∙ (ap (λ (x : List ℕ). take n (x ++ t)) p.written ∙ (take_front n (text_so_far a ++ s) t ∙ ap (λ (x : List ℕ). take n x) (append_assoc (text_so_far a) s t))));
      long = omega (arith, p.long, q.long, p.size, l);
      behind = q.behind ∙ later b.len c.len b.bytes.now a.bytes.now (omega (arith, b.fits, p.long, q.long, p.size)) p.behind;
      whole = (
        λ e. let f = q.whole.0 e in let g = p.whole.0 f.0 in (g.0, omega (arith, p.long, p.size, f.1, g.1, l)),
        λ f. q.whole.1 (p.whole.1 (f.0, omega (arith, f.1, l)), omega (arith, p.long, p.size, f.1, l)),
      );
    }
