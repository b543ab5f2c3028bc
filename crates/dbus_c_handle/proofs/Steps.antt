-- What the walks of a handle share: what is kept and the heap as a call passes them, the handle's
-- machine value, and what it owns.
use Rattle.std.proofs.Common.{◌≡◌, ℕ, List, [], ◌∷◌, ◌++◌, refl, subst, ◌+◌, Option, Result, Ok, Err, MatchResult, ap, sym, ◌∙◌}
use Rattle.std.specs.Prelude.{None, Some}
use Rattle.std.proofs.GlobalToken.{dealloc_token-Testable}
use Rattle.std.specs.Box.Ownership.{box_owns}
use Rattle.std.proofs.BoxSteps.Form.{Bx}
use Rattle.std.specs.contracts.alloc.Global as heap
use Rattle.std.proofs.alloc.Global.TheLaws as heap_laws
use Rattle.std.specs.contracts.impls.GlobalAllocator.TheImpl.{ghosts, dict}
use Rattle.std.specs.declared.alloc.Global.{Global}
use seplogic.Ra.Ura.{Ura}
use mir.Syntax.{Dict, impl, tnil, tcons, dnil}
use mir.Raw.{raw as bare}
use mir.Val.{Val, vstruct, vcons, vnil, of_list}
use base.Fraction.{full_share}
use base.Logic.{ent, emp, guard, via, never, fst∗, snd∗, guard_i}
use base.Fml.{ftrue, flft}
use contract.BorrowLft.{◌⊑◌, ⊑_static}
use contract.Monad.{fact, fact_i, fact_use}
use types.Logic.{Logic, sem}
use types.Kit.{Goal, Item, Seq, Step, step, ‵, raw, ◌⊛◌, ◌$◌, given, learn, drop, join, use0, use1, fsplit, fjoin, fpick, fpack, feq_i, feq_l, qed, done, ◌∵◌, ! }
use denote.Exit.{no}
use denote.Memory.{lone}
use denote.Param.{arg, layout}
use denote.Param.Laws.{arg_laws}
use denote.RattleType.{RattleType, Valss}
use denote.RawPtr.{Ptr, RawPtr, block_ptr, null_ptr, ptr_val, Testable, lies_at, in_a_block}
use denote.Steps.{nothing}
use denote.Struct.Struct.{within}
use denote.Struct.Owning.{shape}
use Rattle.dbus_rule.specs.RuleViews.{IsRuleFault, rule_pairs}
use Rattle.dbus_rule.specs.Rules.{SpellsRule}
use Rattle.dbus_rule.specs.declared.fault.RuleFault.{RuleFault}
use Rattle.dbus_rule.specs.declared.fault.RuleFault.TheVariants.{Memory}
use Rattle.dbus_rule.specs.declared.rule.Rule.{Rule}
use Rattle.dbus_rule_set.specs.Held.{rule_at, with_rule}
use Rattle.dbus_rule_set.specs.declared.handle.RuleHandle.{RuleHandle}
use Rattle.dbus_c_handle.specs.declared.kept.Kept.{Kept}
use Rattle.dbus_c_handle.specs.contracts.kept.Kept as kept
use Rattle.dbus_c_handle.proofs.kept.Kept.TheLaws as kept_laws
use Rattle.dbus_c_handle.specs.Handles.{holds}
use Rattle.dbus_c_handle.specs.declared.handle.WireHandle.{WireHandle}
use Rattle.dbus_c_handle.specs.contracts.handle.WireHandle.{the_row, the_type}
use Rattle.dbus_c_handle.specs.Rules.{Adds, AddsRule, KeepsAll}

-- a call passes a type as the machine sees it
abbrev pub passed : RattleType → RattleType
passed R = arg (bare (layout R)) no R

-- the heap's handle has nothing to drop
abbrev pub drops_nothing : RattleType → Dict
drops_nothing R = impl ("dbus_c_handle::Destruct++none::drop" ∷ []) (tcons (layout (passed R)) tnil) dnil

-- what is kept has parts to drop
abbrev pub drops_kept : Dict
drops_kept = impl ("dbus_c_handle::dbus_c_handle++kept++Kept+Destruct::drop" ∷ []) tnil dnil

abbrev pub boxed : Bx
boxed = record {
  row = passed kept.the_row;
  laws = arg_laws (bare (layout kept.the_row)) no kept.the_row kept_laws.the_row_laws refl;
  al = record {
    row = passed heap.the_row;
    laws = arg_laws (bare (layout heap.the_row)) no heap.the_row heap_laws.the_row_laws refl;
    g = ghosts;
    d = dict;
    drops = drops_nothing heap.the_row;
  };
}

-- a handle is its pointer
abbrev pub word : Ptr → Val
word p = vstruct (vcons (ptr_val p) vnil)

module _ {M : Type 1} {𝓤 : Ura M} (𝓛 : Logic 𝓤) where
  -- a block that may be freed begins where its pointer points, so that may be compared with null
  tested : (a : heap.the_row.Denot) (p : Ptr) (x : Kept) → ent 𝓤 (sem 𝓛 (box_owns (ghosts.dealloc_token a) kept.the_row p x)) (guard 𝓤 (Testable p) (sem 𝓛 (box_owns (ghosts.dealloc_token a) kept.the_row p x)))
  tested a p x = fact_use 𝓤 (Testable p) (via 𝓤 _ (snd∗ 𝓤 (sem 𝓛 (lies_at kept.the_row full_share p x)) (sem 𝓛 ((ghosts.dealloc_token a) (bare (lone kept.the_row.mir)) p))) (dealloc_token-Testable 𝓛 a (bare (lone kept.the_row.mir)) p)) (guard_i 𝓤 (Testable p) (sem 𝓛 (box_owns (ghosts.dealloc_token a) kept.the_row p x)))

  -- a null pointer owns nothing
  pub held_none : (p : Ptr) (s : Option Kept) → p ≡ null_ptr → s ≡ None → ent 𝓤 (emp 𝓤) (sem 𝓛 (holds p s))
  held_none p s e f = subst (λ (x : Option Kept). ent 𝓤 (emp 𝓤) (sem 𝓛 (holds p x))) (sym f) (qed 𝓛 [] ∵ feq_i ! Ptr p null_ptr e $ done !)

-- the tokens that a call of a function of two types is passed, and what it is told of them: what is
-- kept and the heap borrow nothing
abbrev pub tokens : {M : Type 1} {𝓤 : Ura M} → Item 𝓤
tokens = ‵ (flft [] full_share) ⊛ ‵ (flft [] full_share) ⊛ ‵ ftrue

module _ {M : Type 1} {𝓤 : Ura M} {𝓛 : Logic 𝓤} {K : Type 0} {Γ : List (Item 𝓤)} {G : Goal 𝓤 𝓛.H} where
  pub tokens_in : K → Step K 𝓛 (tokens ∷ Γ) G Γ G
  tokens_in t = step (λ k. nothing t $ use0 𝓛 (‵ (flft [] full_share)) (𝓛.lfts.lft-nil full_share) $ join t $ use0 𝓛 (‵ (flft [] full_share)) (𝓛.lfts.lft-nil full_share) $ join t $ k)

  pub lives_in : {I : Item 𝓤} → K → Step K 𝓛 ((raw (fact 𝓤 ([] ⊑ [])) ⊛ raw (fact 𝓤 ([] ⊑ [])) ⊛ I) ∷ Γ) G (I ∷ Γ) G
  lives_in t = step (λ k. use0 𝓛 (raw (fact 𝓤 ([] ⊑ []))) (fact_i 𝓤 ([] ⊑ []) (emp 𝓤) (⊑_static [])) $ join t $ use0 𝓛 (raw (fact 𝓤 ([] ⊑ []))) (fact_i 𝓤 ([] ⊑ []) (emp 𝓤) (⊑_static [])) $ join t $ k)

  pub handle_in : K → (p : Ptr) (s : Option Kept) → Step K 𝓛 (‵ (the_row.own_val (record { at = p; state = s }) (word p ∷ [])) ∷ Γ) G (‵ (holds p s) ∷ Γ) G
  handle_in t p s = step (λ k.
      nothing t $ feq_i t (List Val) (ptr_val p ∷ []) (ptr_val p ∷ []) refl $ fjoin t $
      feq_i t (List Val) (word p ∷ []) (word p ∷ []) refl $ fjoin t $
      fpack t (Valss (RawPtr ∷ [])) (within (shape the_type) (p, tt) (word p ∷ [])) (ptr_val p ∷ [], tt) $ fjoin t $ k)

  pub handle_out : K → (h : WireHandle) (vs : List Val) → (vs ≡ word h.at ∷ [] → Seq K 𝓛 (‵ (holds h.at h.state) ∷ Γ) G) → Seq K 𝓛 (‵ (the_row.own_val h vs) ∷ Γ) G
  handle_out t h vs k = fsplit t $ fpick t (λ vss. fsplit t $ feq_l t (λ ev. fsplit t $ feq_l t (λ ep. drop t $ k
      (subst (λ (ps : List Val). vs ≡ vstruct (of_list (ps ++ [])) ∷ []) ep ev))))

  -- nothing is kept, and the pointer is null; or something is in a block
  pub either : K → (p : Ptr) (s : Option Kept) → (p ≡ null_ptr → s ≡ None → Seq K 𝓛 Γ G)
      → ((a : heap.the_row.Denot) (b o : ℕ) (x : Kept) → p ≡ block_ptr b o → s ≡ Some x → Testable (block_ptr b o) → Seq K 𝓛 (‵ (box_owns (ghosts.dealloc_token a) kept.the_row (block_ptr b o) x) ∷ Γ) G)
      → Seq K 𝓛 (‵ (holds p s) ∷ Γ) G
  either t p None none some = feq_l t (λ e. none e refl)
  either t p (Some x) none some =
      fpick t (λ a. in_a_block t p (λ q. box_owns (ghosts.dealloc_token a) kept.the_row q x) (fst∗ 𝓤 (never 𝓤) (sem 𝓛 ((ghosts.dealloc_token a) (bare (lone kept.the_row.mir)) null_ptr))) (λ b o e.
      use1 𝓛 (given (Testable (block_ptr b o)) (‵ (box_owns (ghosts.dealloc_token a) kept.the_row (block_ptr b o) x))) (tested 𝓛 a (block_ptr b o) x) $ learn t (λ can. some a b o x e refl can)))

-- A rule that comes to what was kept comes to the rules that were kept.

pub all_kept : (old mid new : Option Kept) → KeepsAll old mid → KeepsAll mid new → KeepsAll old new
all_kept old mid new a b = record {
  stay = record { rules = b.stay.rules ∙ a.stay.rules; given = b.stay.given ∙ a.stay.given; asked = b.stay.asked ∙ a.stay.asked; owners = b.stay.owners ∙ a.stay.owners };
  other = b.other ∙ a.other;
}

pub added_to : (w : List ℕ) (rule : Rule Global) (old mid new : Option Kept) → SpellsRule w (rule_pairs rule) → KeepsAll old mid → (r : Result RuleHandle RuleFault)
    → MatchResult r (AddsRule rule mid new) (λ fault. (fault ≡ Memory) × KeepsAll mid new) → MatchResult r (Adds w old new) (λ fault. IsRuleFault w fault × KeepsAll old new)
added_to w rule old mid new spelled same (Ok h) a = (
  rule,
  spelled,
  record {
    added = a.added ∙ ap (with_rule h rule) same.stay.rules;
    unheld = ap (rule_at h) (sym same.stay.rules) ∙ a.unheld;
    number = a.number ∙ same.stay.given;
    given = a.given ∙ ap (λ n. n + 1) same.stay.given;
    asked = a.asked ∙ same.stay.asked;
    owners = a.owners ∙ same.stay.owners;
  },
)
added_to w rule old mid new spelled same (Err fault) (is, kept) = (subst (λ (f : RuleFault). IsRuleFault w f) (sym is) tt, all_kept old mid new same kept)
