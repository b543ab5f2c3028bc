-- Texts that a formatter writes one after the other.
use Rattle.std.proofs.Common.{◌≡◌, ℕ, List, [], ◌∷◌, ◌++◌, Bool, true, false, refl, sym, ap, subst, ◌∙◌, append_assoc}
use Rattle.std.specs.List.{FoldsTo, concat}
use Rattle.std.specs.Fmt.{WritesInCalls}
use Rattle.dbus_display.specs.declared.formatter_draft.FormatterDraft.{FormatterDraft}
use Rattle.dbus_display.specs.Written.{Gains}

not_failed : (b c : Bool) → (b ≡ true → c ≡ true) → c ≡ false → b ≡ false
not_failed true c h e = let t = h refl in cc
not_failed false c h e = refl

concat_both : (xs ys : List (List ℕ)) → concat (xs ++ ys) ≡ concat xs ++ concat ys
concat_both [] ys = refl
concat_both (x ∷ xs) ys = ap (λ (t : List ℕ). x ++ t) (concat_both xs ys) ∙ sym (append_assoc x (concat xs) (concat ys))

module _ {W : Type 0} (took : W → List ℕ → W → Type 0) where
  folds_both : (u v w : W) (xs ys : List (List ℕ)) → FoldsTo took u xs v → FoldsTo took v ys w → FoldsTo took u (xs ++ ys) w
  folds_both u v w [] ys p q = subst (λ (z : W). FoldsTo took z ys w) (sym p) q
  folds_both u v w (x ∷ xs) ys p q = (p.0, p.1, folds_both p.0 v w xs ys p.2 q)

  -- a draft that is left alone gains nothing
  pub nothing : (a : FormatterDraft W) → Gains took a [] a
  nothing a = record {
    same = refl;
    stays = λ h. h;
    written = λ h plain. record { wrote = record { parts = []; calls = refl; whole = refl }; plain = plain };
  }

  -- a draft that gains two texts gains the one after the other
  pub joins : (a b c : FormatterDraft W) (s t : List ℕ) → Gains took a s b → Gains took b t c → Gains took a (s ++ t) c
  joins a b c s t p q = record {
    same = q.same ∙ p.same;
    stays = λ h. q.stays (p.stays h);
    written = λ h plain.
        let first = p.written (not_failed b.failed c.failed q.stays h) plain in
        let second = q.written h first.plain in
        record {
          wrote = record {
            parts = first.wrote.parts ++ second.wrote.parts;
            calls = folds_both _ _ _ first.wrote.parts second.wrote.parts first.wrote.calls second.wrote.calls;
            whole = concat_both first.wrote.parts second.wrote.parts ∙ ap (λ (u : List ℕ). u ++ concat second.wrote.parts) first.wrote.whole ∙ ap (λ (u : List ℕ). s ++ u) second.wrote.whole;
          };
          plain = second.plain;
        };
  }
