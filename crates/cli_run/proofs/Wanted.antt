-- Which messages are wanted: more of them, and those after others.
use Rattle.std.proofs.Common.{◌≡◌, ◌≢◌, Bool, false, ℕ, List, [], ◌∷◌, ◌++◌, refl, sym, ◌∙◌, subst, append_assoc, append-nil}
use Rattle.dbus_stream.specs.Cut.{CutMessage}
use Rattle.cli_run.specs.Going.{EndsWhole}
use Rattle.cli_run.specs.Inputs.{Part, PassedOver, Placed, Whole, wholes}
use Rattle.cli_run.specs.Visiting.{AddsUp, AreWanted, FillsBy}
use Rattle.cli_run.specs.declared.visitor.RunStop.{RunStop}

-- one more
pub wanted_last : (filled : List Placed → Bool → Type 0) (before s : List Placed) (m : Placed) → AreWanted filled before s → filled (before ++ s) false → AreWanted filled before (s ++ m ∷ [])
wanted_last filled before [] m w unfilled = (subst (λ (l : List Placed). filled l false) (append-nil before) unfilled, tt)
wanted_last filled before (x ∷ s) m w unfilled =
    (w.0, wanted_last filled (before ++ x ∷ []) s m w.1 (subst (λ (l : List Placed). filled l false) (sym (append_assoc before (x ∷ []) s)) unfilled))

-- others after them
pub wanted_both : (filled : List Placed → Bool → Type 0) (before s t : List Placed) → AreWanted filled before s → AreWanted filled (before ++ s) t → AreWanted filled before (s ++ t)
wanted_both filled before [] t w v = subst (λ (l : List Placed). AreWanted filled l t) (append-nil before) v
wanted_both filled before (x ∷ s) t w v =
    (w.0, wanted_both filled (before ++ x ∷ []) s t w.1 (subst (λ (l : List Placed). AreWanted filled l t) (sym (append_assoc before (x ∷ []) s)) v))

-- said otherwise
pub wanted_as : {P Q : List Placed → Bool → Type 0} → ((l : List Placed) (b : Bool) → P l b → Q l b) → (before s : List Placed) → AreWanted P before s → AreWanted Q before s
wanted_as to before [] w = tt
wanted_as to before (x ∷ s) w = (to before false w.0, wanted_as to (before ++ x ∷ []) s w.1)

-- messages of which none is too many
pub wanted_all : (P : List Placed → Bool → Type 0) → ((l : List Placed) → P l false) → (before s : List Placed) → AreWanted P before s
wanted_all P unfilled before [] = tt
wanted_all P unfilled before (x ∷ s) = (unfilled before, wanted_all P unfilled (before ++ x ∷ []) s)

-- messages after others, which a visitor took first
module _ {S : Type 0} {takes : S → S → List Placed → (told : List ℕ) → Type 0} {leaves : S → S → List Placed → (told : List ℕ) → RunStop → Type 0} {settled : S → Type 0} {full : S → Bool} (laws : AddsUp takes leaves settled full)
    (a b : S) (l : List Placed) (told : List ℕ) (took : takes a b l told) where
  pub filled_next : (s : List Placed) (filled : Bool) → FillsBy takes full b s filled → FillsBy takes full a (l ++ s) filled
  filled_next s filled (c, more, then, is) = (c, told ++ more, laws.joins a b c l s told more took then, is)

  wanted_after : (before s : List Placed) → AreWanted (FillsBy takes full b) before s → AreWanted (FillsBy takes full a) (l ++ before) s
  wanted_after before [] w = tt
  wanted_after before (x ∷ s) w =
      (filled_next before false w.0, subst (λ (k : List Placed). AreWanted (FillsBy takes full a) k s) (sym (append_assoc l before (x ∷ []))) (wanted_after (before ++ x ∷ []) s w.1))

  pub wanted_next : (s : List Placed) → AreWanted (FillsBy takes full a) [] l → AreWanted (FillsBy takes full b) [] s → AreWanted (FillsBy takes full a) [] (l ++ s)
  wanted_next s w v =
      wanted_both (FillsBy takes full a) [] l s w (subst (λ (k : List Placed). AreWanted (FillsBy takes full a) k s) (append-nil l) (wanted_after [] s v))

-- ---- the last part is a message

ends_items : (items : List CutMessage) → EndsWhole (wholes items)
ends_items [] = tt
ends_items (x ∷ items) = ends_items items

not_none : (parts : List Part) (x : CutMessage) (items : List CutMessage) → parts ++ wholes (x ∷ items) ≢ []
not_none [] x items = λ e. absurd cc
not_none (part ∷ parts) x items = λ e. absurd cc

ends_some : (parts : List Part) (x : CutMessage) (items : List CutMessage) → EndsWhole (parts ++ wholes (x ∷ items))
ends_some [] x items = ends_items (x ∷ items)
ends_some (Whole item ∷ parts) x items = ends_some parts x items
ends_some (PassedOver front fault by size ∷ parts) x items = (not_none parts x items, ends_some parts x items)

pub ends_whole : (parts : List Part) (items : List CutMessage) → (items ≡ [] → parts ≡ []) → EndsWhole (parts ++ wholes items)
ends_whole parts [] none = subst EndsWhole (sym (append-nil parts ∙ none refl)) tt
ends_whole parts (x ∷ items) none = ends_some parts x items
