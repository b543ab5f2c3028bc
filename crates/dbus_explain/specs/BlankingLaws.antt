-- The proofs of the laws that a `Draft` owes, of one of blanks.
use Rattle.std.proofs.Common.{◌≡◌, ℕ, ◌+◌, List, [], ◌++◌, length, replicate, refl, sym, ap, subst, ◌∙◌, chars, length-append}
use Rattle.std.proofs.lemmas.List.{replicate-append-replicate}
use Rattle.std.proofs.lemmas.Str.{IsUtf8-append, IsUtf8-nil, chars-append, chars-nil}
use Rattle.dbus_explain.specs.Blanking.{Blanking}
use Rattle.dbus_explain.specs.Explained.{blanks}
use Rattle.dbus_explain.specs.declared.blanks.Blanks.{Blanks}

module _ {D : Type 0} (gains : D → List ℕ → D → Type 0) where
  pub nothing : ((a : D) → gains a [] a) → (a : Blanks D) → Blanking gains a [] a
  nothing none a = record { same = refl; is_text = IsUtf8-nil; gained = subst (λ s. gains a.draft.now s a.draft.now) (sym (ap (λ cs. replicate (length cs) 32) chars-nil)) (none a.draft.now) }

  pub joins : ((a b c : D) (s t : List ℕ) → gains a s b → gains b t c → gains a (s ++ t) c) → (a b c : Blanks D) (s t : List ℕ) → Blanking gains a s b → Blanking gains b t c → Blanking gains a (s ++ t) c
  joins both a b c s t p q =
      let long : length (chars s) + length (chars t) ≡ length (chars (s ++ t)) = sym (ap length (chars-append s t p.is_text) ∙ length-append (chars s) (chars t)) in
      let apart : blanks s ++ blanks t ≡ blanks (s ++ t) = replicate-append-replicate (length (chars s)) (length (chars t)) 32 ∙ ap (λ n. replicate n 32) long in
      record {
        same = q.same ∙ p.same;
        is_text = IsUtf8-append s t p.is_text q.is_text;
        gained = subst (λ l. gains a.draft.now l c.draft.now) apart (both a.draft.now b.draft.now c.draft.now (blanks s) (blanks t) p.gained q.gained);
      }
