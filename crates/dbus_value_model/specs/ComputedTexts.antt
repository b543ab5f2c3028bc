-- The texts that may stand at a place, computed: the plain, slow bridge from code to `WantedTexts`.
-- D-Bus Specification, "Valid Signatures", "Valid Object Paths", "Valid Names".
use Rattle.std.specs.Prelude.{ℕ, suc, List, [], ◌∷◌, Bool, true, false, ◌&&◌, nat_eq, if◌then◌else◌}
use Rattle.dbus_texts.specs.ComputedKinds as computed
use Rattle.dbus_texts.specs.declared.text_kind.TextKind.{TextKind}
use Rattle.dbus_texts.specs.declared.text_kind.TextKind.TheVariants as kinds
use Rattle.dbus_value_model.specs.WantedTexts.{WantedText, Of, Only}

abbrev pub same_text : List ℕ → List ℕ → Bool
same_text [] [] = true
same_text [] (b ∷ t) = false
same_text (a ∷ s) [] = false
same_text (a ∷ s) (b ∷ t) = nat_eq a b && same_text s t

-- how many bytes two texts begin with alike
abbrev pub alike : List ℕ → List ℕ → ℕ
alike [] t = 0
alike (a ∷ s) [] = 0
alike (a ∷ s) (b ∷ t) = if nat_eq a b then suc (alike s t) else 0

-- whether a text is one of those wanted
unfoldable pub is_kind : WantedText → List ℕ → Bool
is_kind (Of k) t = computed.is_kind k t
is_kind (Only u) t = same_text u t

-- the length of the longest prefix of a text with which one of those wanted begins
unfoldable pub break_at : WantedText → List ℕ → ℕ
break_at (Of k) t = computed.break_at k t
break_at (Only u) t = alike u t

-- The wanted texts that are names, or any texts.
-- D-Bus Specification, "Valid Names".

-- names are texts
abbrev pub IsNameKind : TextKind → Type 0
IsNameKind kinds.Path = ⊥
IsNameKind kinds.Signature = ⊥
IsNameKind kinds.Single = ⊥
IsNameKind _ = Unit {0}

abbrev pub IsName : WantedText → Type 0
IsName (Of k) = IsNameKind k
IsName (Only u) = ⊥
