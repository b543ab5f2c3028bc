-- An item and a reader agree.
use Rattle.std.proofs.Common.{◌≡◌, ℕ, ◌⊎◌, ◌↔◌, List, ◌++◌, refl, sym, ap, subst, ◌∙◌, inl, inr, append_assoc}
use Rattle.dbus_value_model.specs.ByteNumbers.{IsBytes}
use Rattle.dbus_value_model.specs.Items.{Item, fault}
use Rattle.dbus_value_model.specs.declared.fault.Fault.{Fault}
use Rattle.dbus_value_model.specs.Items as items
use Rattle.dbus_value_model.specs.Reading.{Reader, Outcome, Done, Faulty, Partial, after}
use Rattle.dbus_value_model.specs.Reading as reading
use Rattle.dbus_value_model.proofs.Numbers.{IsBytes-rest}

-- what was read is what the item says
abbrev pub Says : {A : Type 0} → Item A → ℕ → List ℕ → Outcome A → Type 0
Says item o s (Done x q r) = item.Passed o s x q r
Says item o s (Faulty f) = item.Refused o s f
Says item o s Partial = Unit {0}

pub record Agrees {A : Type 0} (item : Item A) (run : Reader A) : Type 0 where
  -- what is read is what the item says, and what it says is read
  pub says : (o : ℕ) (s : List ℕ) → IsBytes s → Says item o s (run o s)
  pub passes : (o : ℕ) (s : List ℕ) (x : A) (q : ℕ) (r : List ℕ) → item.Passed o s x q r → run o s ≡ Done x q r
  pub refuses : (o : ℕ) (s : List ℕ) (f : Fault) → item.Refused o s f → run o s ≡ Faulty f
  -- what is passed is the prefix
  pub front : (o : ℕ) (s : List ℕ) (x : A) (q : ℕ) (r : List ℕ) → item.Passed o s x q r → (given : List ℕ) × (s ≡ given ++ r)
  -- whatever bytes follow
  pub passes_more : (c : List ℕ) (o : ℕ) (s : List ℕ) (x : A) (q : ℕ) (r : List ℕ) → item.Passed o s x q r → item.Passed o (s ++ c) x q (r ++ c)
  pub refuses_more : (c : List ℕ) (o : ℕ) (s : List ℕ) (f : Fault) → item.Refused o s f → item.Refused o (s ++ c) f

module _ {A : Type 0} (item : Item A) (run : Reader A) (agrees : Agrees item run) (o : ℕ) (s : List ℕ) (bytes : IsBytes s) where
  pub read_passes : (x : A) (q : ℕ) (r : List ℕ) → run o s ≡ Done x q r → item.Passed o s x q r
  read_passes x q r e = subst (Says item o s) e (agrees.says o s bytes)

  pub read_refuses : (f : Fault) → run o s ≡ Faulty f → item.Refused o s f
  read_refuses f e = subst (Says item o s) e (agrees.says o s bytes)

pub after_done : {A B : Type 0} (r : Outcome A) (next : A → Reader B) (y : B) (q : ℕ) (t : List ℕ) → after r next ≡ Done y q t → (x : A) × (p : ℕ) × (u : List ℕ) × (r ≡ Done x p u) × (next x p u ≡ Done y q t)
after_done (Done x p u) next y q t e = (x, p, u, refl, e)
after_done (Faulty f) next y q t e = absurd cc
after_done Partial next y q t e = absurd cc

pub after_faulty : {A B : Type 0} (r : Outcome A) (next : A → Reader B) (f : Fault) → after r next ≡ Faulty f → (r ≡ Faulty f) ⊎ ((x : A) × (p : ℕ) × (u : List ℕ) × (r ≡ Done x p u) × (next x p u ≡ Faulty f))
after_faulty (Done x p u) next f e = inr (x, p, u, refl, e)
after_faulty (Faulty g) next f e = inl cc
after_faulty Partial next f e = absurd cc

-- what one item says, another does
pub says_as : {A : Type 0} (item other : Item A) (o : ℕ) (s : List ℕ) → ((x : A) (q : ℕ) (r : List ℕ) → item.Passed o s x q r → other.Passed o s x q r)
    → ((f : Fault) → item.Refused o s f → other.Refused o s f) → (read : Outcome A) → Says item o s read → Says other o s read
says_as item other o s passed refused (Done x q r) h = passed x q r h
says_as item other o s passed refused (Faulty f) h = refused f h
says_as item other o s passed refused Partial h = tt

-- what follows is asked only after what the first passes
pub Agrees-then : {A B : Type 0} (first : Item A) (run : Reader A) (next : A → Item B) (runs : A → Reader B) → Agrees first run → ((x : A) (o : ℕ) (s : List ℕ) (q : ℕ) (r : List ℕ) → first.Passed o s x q r → Agrees (next x) (runs x)) → Agrees (items.◌>>=◌ first next) (reading.◌>>=◌ run runs)
Agrees-then {A} {B} first run next runs one two = record {
  says = λ o s bytes. says_then o s bytes (run o s) (one.says o s bytes);
  passes = λ o s y q r w. rw (one.passes o s w.0 w.1 w.2 w.3) ((two w.0 o s w.1 w.2 w.3).passes w.1 w.2 y q r w.4);
  refuses = λ o s f h. elim h [
    | inl h ↦ rw (one.refuses o s f h) refl
    | inr w ↦ rw (one.passes o s w.0 w.1 w.2 w.3) ((two w.0 o s w.1 w.2 w.3).refuses w.1 w.2 f w.4)
  ];
  front = λ o s y q r w.
      let a = one.front o s w.0 w.1 w.2 w.3 in
      let b = (two w.0 o s w.1 w.2 w.3).front w.1 w.2 y q r w.4 in
      (a.0 ++ b.0, a.1 ∙ ap (λ (t : List ℕ). a.0 ++ t) b.1 ∙ sym (append_assoc a.0 b.0 r));
  passes_more = λ c o s y q r w. (w.0, w.1, w.2 ++ c, one.passes_more c o s w.0 w.1 w.2 w.3, (two w.0 o s w.1 w.2 w.3).passes_more c w.1 w.2 y q r w.4);
  refuses_more = λ c o s f h. elim h [
    | inl h ↦ inl (one.refuses_more c o s f h)
    | inr w ↦ inr (w.0, w.1, w.2 ++ c, one.passes_more c o s w.0 w.1 w.2 w.3, (two w.0 o s w.1 w.2 w.3).refuses_more c w.1 w.2 f w.4)
  ];
}
  where
    says_after : (o : ℕ) (s : List ℕ) (x : A) (p : ℕ) (t : List ℕ) → first.Passed o s x p t → (read : Outcome B) → Says (next x) p t read → Says (items.◌>>=◌ first next) o s read
    says_after o s x p t was (Done y q r) h = (x, p, t, was, h)
    says_after o s x p t was (Faulty f) h = inr (x, p, t, was, h)
    says_after o s x p t was Partial h = tt

    says_then : (o : ℕ) (s : List ℕ) → IsBytes s → (read : Outcome A) → Says first o s read → Says (items.◌>>=◌ first next) o s (after read runs)
    says_then o s bytes (Done x p t) was =
        let front = one.front o s x p t was in
        says_after o s x p t was (runs x p t) ((two x o s p t was).says p t (IsBytes-rest s front.0 t front.1 bytes))
    says_then o s bytes (Faulty f) h = inl h
    says_then o s bytes Partial h = tt

-- and where it agrees in any case
pub Agrees-before : {A B : Type 0} (first : Item A) (run : Reader A) (next : A → Item B) (runs : A → Reader B) → Agrees first run → ((x : A) → Agrees (next x) (runs x)) → Agrees (items.◌>>=◌ first next) (reading.◌>>=◌ run runs)
Agrees-before first run next runs one two = Agrees-then first run next runs one (λ x o s q r h. two x)

-- the same item under another account of what it passes
pub Agrees-as : {A : Type 0} (item : Item A) (Passed : ℕ → List ℕ → A → ℕ → List ℕ → Type 0) (run : Reader A) → Agrees item run
    → ((o : ℕ) (s : List ℕ) (x : A) (q : ℕ) (r : List ℕ) → item.Passed o s x q r ↔ Passed o s x q r) → Agrees (record { Passed = Passed; Refused = item.Refused }) run
Agrees-as item Passed run a same = record {
  says = λ o s bytes. says_as item (record { Passed = Passed; Refused = item.Refused }) o s (λ x q r. (same o s x q r).0) (λ f h. h) (run o s) (a.says o s bytes);
  passes = λ o s x q r h. a.passes o s x q r ((same o s x q r).1 h);
  refuses = a.refuses;
  front = λ o s x q r h. a.front o s x q r ((same o s x q r).1 h);
  passes_more = λ c o s x q r h. (same o (s ++ c) x q (r ++ c)).0 (a.passes_more c o s x q r ((same o s x q r).1 h));
  refuses_more = a.refuses_more;
}
