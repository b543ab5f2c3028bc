-- The proofs of the laws that a `Draft` owes, of one in which hidden characters are seen.
use Rattle.std.proofs.Common.{◌≡◌, ℕ, List, [], ◌++◌, refl, sym, ap, subst, ◌∙◌, chars, encode_utf8, cond}
use Rattle.std.specs.List.{flat_map}
use Rattle.std.proofs.lemmas.List.Concat.{flat_map-append}
use Rattle.std.proofs.lemmas.Str.{IsUtf8-append, IsUtf8-nil, chars-append, chars-nil}
use Rattle.dbus_show.specs.Escapes.{escape, is_escaped, visible}
use Rattle.dbus_show.specs.Visible.{Sees}
use Rattle.dbus_show.specs.declared.escapes.Escapes.TheVariants.{Hidden}
use Rattle.dbus_show.specs.declared.visible.Visible.{Visible}

abbrev written : ℕ → List ℕ
written c = cond (is_escaped Hidden c) (escape Hidden c) (encode_utf8 c)

module _ {D : Type 0} (gains : D → List ℕ → D → Type 0) where
  pub nothing : ((a : D) → gains a [] a) → (a : Visible D) → Sees gains a [] a
  nothing none a = record { same = refl; is_text = IsUtf8-nil; gained = subst (λ s. gains a.draft.now s a.draft.now) (sym (ap (flat_map written) chars-nil)) (none a.draft.now) }

  pub joins : ((a b c : D) (s t : List ℕ) → gains a s b → gains b t c → gains a (s ++ t) c) → (a b c : Visible D) (s t : List ℕ) → Sees gains a s b → Sees gains b t c → Sees gains a (s ++ t) c
  joins both a b c s t p q =
      let apart : visible s ++ visible t ≡ visible (s ++ t) = sym (ap (flat_map written) (chars-append s t p.is_text) ∙ flat_map-append written (chars s) (chars t)) in
      record {
        same = q.same ∙ p.same;
        is_text = IsUtf8-append s t p.is_text q.is_text;
        gained = subst (λ l. gains a.draft.now l c.draft.now) apart (both a.draft.now b.draft.now c.draft.now (visible s) (visible t) p.gained q.gained);
      }
