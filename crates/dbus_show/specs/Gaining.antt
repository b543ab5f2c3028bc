-- Texts that a string gains one after the other.
use Rattle.std.proofs.Common.{◌≡◌, ℕ, ◌+◌, ◌<◌, ◌≤◌, List, [], ◌++◌, length, true, false, Bool, refl, sym, ap, ◌∙◌, arith, append_assoc, append-nil, length-append, string_capacity}
use Rattle.dbus_show.specs.declared.string_draft.StringDraft.{StringDraft}
use Rattle.dbus_show.specs.Gains.{Gains, text_so_far, length_so_far}

not_refused : (b c : Bool) → (b ≡ true → c ≡ true) → c ≡ false → b ≡ false
not_refused true c h e = let t = h refl in cc
not_refused false c h e = refl

-- where the capacity x does not do for the second text, or for the first: x and n of the draft
-- before, y and m after the first
small_then : (b : Bool) (x y n m s t : ℕ) → (b ≡ true → x < n + s) → (b ≡ false → y < m + t) → (b ≡ false → m ≡ n + s) → x ≤ y → x < n + (s + t)
small_then true x y n m s t h k e le = let l = h refl in omega arith
small_then false x y n m s t h k e le = let l = k refl in let f = e refl in omega arith

module _ {A : Type 0} where
  -- a draft that gains two texts gains the one after the other
  pub joins : (a b c : StringDraft A) (s t : List ℕ) → Gains a s b → Gains b t c → Gains a (s ++ t) c
  joins a b c s t p q =
      record {
        same = q.same ∙ p.same;
        written = λ h. let k = not_refused b.refused c.refused q.stays h in q.written h ∙ ap (λ x. x ++ t) (p.written k) ∙ append_assoc (text_so_far a) s t;
        longer = λ h. let k = not_refused b.refused c.refused q.stays h in let e = q.longer h in let f = p.longer k in let l = length-append s t in omega arith;
        stays = λ h. q.stays (p.stays h);
        small = λ h k. let l = length-append s t in rw l (small_then b.refused (string_capacity a.out.now) (string_capacity b.out.now) (length_so_far a) (length_so_far b) (length s) (length t) (p.small h) (λ f. q.small f k) p.longer p.room);
        room = let e = p.room in let f = q.room in omega arith;
      }

  -- a draft that is left alone gains nothing
  pub nothing : (a : StringDraft A) → Gains a [] a
  nothing a = record { same = refl; written = λ h. sym (append-nil (text_so_far a)); longer = λ h. omega arith; stays = λ h. h; small = λ h k. absurd (cc); room = omega arith }
