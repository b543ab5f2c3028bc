-- The proofs of the laws that a `Draft` owes, of one that counts.
use Rattle.std.proofs.Common.{ℕ, List, [], ◌++◌, refl, ◌∙◌, arith, length-append}
use Rattle.dbus_room.specs.Counting.{Counts}
use Rattle.dbus_room.specs.declared.counted.Counted.{Counted}

module _ {D : Type 0} (gains : D → List ℕ → D → Type 0) where
  pub nothing : ((a : D) → gains a [] a) → (a : Counted D) → Counts gains a [] a
  nothing none a = record { same = refl; gained = none a.draft.now; long = omega (arith, a.in_range) }

  pub joins : ((a b c : D) (s t : List ℕ) → gains a s b → gains b t c → gains a (s ++ t) c) → (a b c : Counted D) (s t : List ℕ) → Counts gains a s b → Counts gains b t c → Counts gains a (s ++ t) c
  joins both a b c s t p q = record {
    same = q.same ∙ p.same;
    gained = both a.draft.now b.draft.now c.draft.now s t p.gained q.gained;
    long = omega (arith, p.long, q.long, length-append s t);
  }
