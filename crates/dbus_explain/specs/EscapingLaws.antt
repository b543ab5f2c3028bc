-- The proofs of the laws that a `Draft` owes, of one of escaped texts.
use Rattle.std.proofs.Common.{◌≡◌, ℕ, List, [], ◌++◌, refl, sym, ap, subst, ◌∙◌, chars, encode_utf8, cond}
use Rattle.std.specs.List.{flat_map}
use Rattle.std.proofs.lemmas.List.Concat.{flat_map-append}
use Rattle.std.proofs.lemmas.Str.{IsUtf8-append, IsUtf8-nil, chars-append, chars-nil}
use Rattle.dbus_show.specs.Escapes.{escape, escaped, is_escaped}
use Rattle.dbus_show.specs.declared.escapes.Escapes.{Escapes}
use Rattle.dbus_explain.specs.Escaping.{GainsEscaped}
use Rattle.dbus_explain.specs.declared.escaping.Escaping.{Escaping}

abbrev written : Escapes → ℕ → List ℕ
written escapes c = cond (is_escaped escapes c) (escape escapes c) (encode_utf8 c)

module _ {D : Type 0} (gains : D → List ℕ → D → Type 0) where
  pub nothing : ((a : D) → gains a [] a) → (a : Escaping D) → GainsEscaped gains a [] a
  nothing none a = record { same = refl; same_escapes = refl; is_text = IsUtf8-nil; gained = subst (λ s. gains a.draft.now s a.draft.now) (sym (ap (flat_map (written a.escapes)) chars-nil)) (none a.draft.now) }

  pub joins : ((a b c : D) (s t : List ℕ) → gains a s b → gains b t c → gains a (s ++ t) c) → (a b c : Escaping D) (s t : List ℕ) → GainsEscaped gains a s b → GainsEscaped gains b t c → GainsEscaped gains a (s ++ t) c
  joins both a b c s t p q =
      let e = a.escapes in
      let apart : escaped e s ++ escaped e t ≡ escaped e (s ++ t) = sym (ap (flat_map (written e)) (chars-append s t p.is_text) ∙ flat_map-append (written e) (chars s) (chars t)) in
      let more = subst (λ k. gains b.draft.now (escaped k t) c.draft.now) p.same_escapes q.gained in
      record {
        same = q.same ∙ p.same;
        same_escapes = q.same_escapes ∙ p.same_escapes;
        is_text = IsUtf8-append s t p.is_text q.is_text;
        gained = subst (λ l. gains a.draft.now l c.draft.now) apart (both a.draft.now b.draft.now c.draft.now (escaped e s) (escaped e t) p.gained more);
      }
