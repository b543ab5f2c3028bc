-- What a draft that cuts does with a character, and with a text.
use Rattle.std.proofs.Common.{◌≡◌, ℕ, ◌+◌, ◌-◌, ◌<◌, ◌≤◌, List, [], ◌∷◌, ◌++◌, codes, refl, sym, ap, subst, ◌∙◌, arith, append_assoc}
use Rattle.std.specs.Char.{encode_utf8, IsScalar}
use Rattle.std.specs.Str.{IsUtf8, chars}
use Rattle.std.proofs.lemmas.Str.{IsUtf8-append, IsUtf8-nil}
use Rattle.dbus_list.specs.Cuts.{cells, width}
use Rattle.dbus_list.specs.Cutting.{Leaves, HasCut, Gains}
use Rattle.dbus_list.specs.declared.cut_draft.CutDraft.{CutDraft}
use Rattle.dbus_list.specs.declared.cut_draft.Room.{Room}
use Rattle.dbus_list.specs.declared.cut_draft.Room.TheVariants as room
use Rattle.dbus_list.proofs.CutTexts.{cells_some, chars_push, cut_after, cut_more, width_after, width_more, width_push}

module _ {D : Type 0} (gains : D → List ℕ → D → Type 0) where
  -- ---- the beginning

  pub none_cut : (before : D) (most : ℕ) (d : CutDraft D) → Leaves gains before most d.room [] d.draft.now → HasCut gains before most [] d
  none_cut before most d h = record { utf8 = IsUtf8-nil; leaves = h }

  -- ---- a step: what room there is before and after a text

  abbrev pub Step : (from : Room) (before : D) (text : List ℕ) (to : Room) (after : D) → Type 0
  Step from now text to after = (before : D) (most : ℕ) (so_far : List ℕ) → IsUtf8 so_far → Leaves gains before most from so_far now → Leaves gains before most to (so_far ++ text) after

  pub stepped : (a b : CutDraft D) (text : List ℕ) → b.draft.ghost_name ≡ a.draft.ghost_name → IsUtf8 text → (from to : Room) → a.room ≡ from → b.room ≡ to
      → Step from a.draft.now text to b.draft.now → Gains gains a text b
  stepped a b text same utf8 from to was is step = record {
    same = same;
    more = λ before most so_far h. record {
      utf8 = IsUtf8-append so_far text h.utf8 utf8;
      leaves = subst (λ (r : Room). Leaves gains before most r (so_far ++ text) b.draft.now) (sym is)
          (step before most so_far h.utf8 (subst (λ (r : Room). Leaves gains before most r so_far a.draft.now) was h.leaves));
    };
  }

  module _ (then : (a b c : D) (s t : List ℕ) → gains a s b → gains b t c → gains a (s ++ t) c) where
    pub unbounded : (now after : D) (text : List ℕ) → gains now text after → Step room.Unbounded now text room.Unbounded after
    unbounded now after text gained before most so_far utf8 h = (h.0, then before now after so_far text h.1 gained)

    pub fits : (now after : D) (c left used : ℕ) → IsScalar c → used ≡ cells c → used ≤ left → gains now (encode_utf8 c) after → Step (room.Left left) now (encode_utf8 c) (room.Left (left - used)) after
    fits now after c left used is wide room gained before most so_far utf8 h =
        let more = width_push so_far c utf8 is in
        (omega (arith, h.0), then before now after so_far (encode_utf8 c) h.1 gained)

    pub front_fits : (now after : D) (text : List ℕ) (left used : ℕ) → width (chars text) ≡ used → used ≤ left → gains now text after → Step (room.Left left) now text (room.Left (left - used)) after
    front_fits now after text left used wide room gained before most so_far utf8 h =
        let more = width_after so_far text utf8 in
        (omega (arith, h.0), then before now after so_far text h.1 gained)

    pub too_wide : (now after : D) (c left : ℕ) → IsScalar c → left + 1 < cells c → gains now (codes "~") after → Step (room.Left left) now (encode_utf8 c) room.Full after
    too_wide now after c left is over gained before most so_far utf8 h =
        let more = width_push so_far c utf8 is in
        let cuts = cut_after most so_far c (so_far ++ encode_utf8 c) [] utf8 (chars_push so_far c utf8 is) (omega (arith, h.0)) (omega (arith, h.0)) (omega (arith, h.0)) in
        (omega (arith, h.0), omega (arith, h.0), subst (λ (t : List ℕ). gains before t after) (sym cuts) (then before now after so_far (codes "~") h.1 gained))

    pub one_more : (now after : D) (d c : ℕ) → IsScalar c → gains now (codes "~") after → Step (room.Held d) now (encode_utf8 c) room.Full after
    one_more now after d c is gained before most so_far utf8 (shown, spelled, first, scalar, full, h) =
        let text = so_far ++ encode_utf8 c in
        let more = width_push so_far c utf8 is in
        let last = ap (λ (t : List ℕ). width (chars t)) spelled ∙ width_push shown d first scalar in
        let some = cells_some c in
        let held = cells_some d in
        let spells = chars_push so_far c utf8 is ∙ ap (λ (cs : List ℕ). cs ++ c ∷ []) (ap chars spelled ∙ chars_push shown d first scalar) ∙ append_assoc (chars shown) (d ∷ []) (c ∷ []) in
        let cuts = cut_after most shown d text (c ∷ []) first spells (omega arith) (omega arith) (omega arith) in
        (omega arith, omega arith, subst (λ (t : List ℕ). gains before t after) (sym cuts) (then before now after shown (codes "~") h gained))

  pub holds : (now : D) (c left used : ℕ) → IsScalar c → used ≡ cells c → used ≡ left + 1 → Step (room.Left left) now (encode_utf8 c) (room.Held c) now
  holds now c left used is wide last before most so_far utf8 h =
      let more = width_push so_far c utf8 is in
      (so_far, refl, utf8, is, omega (arith, h.0), h.1)

  pub full : (now : D) (text : List ℕ) → Step room.Full now text room.Full now
  full now text before most so_far utf8 h =
      let more = width_more so_far text utf8 in
      (h.0, omega (arith, h.1), subst (λ (t : List ℕ). gains before t now) (sym (cut_more most so_far text utf8 h.0 h.1)) h.2)
