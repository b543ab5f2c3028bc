-- `kept` tests the pointer, and lends what lies there; the handle follows it.
use Rattle.std.proofs.Common.{◌≡◌, ℕ, List, [], ◌∷◌, refl, sym, ap, ◌∙◌, lit<}
use Rattle.std.specs.Prelude.{None, Some}
use mir.Syntax.{named}
use mir.Val.{Val, vptr, vcons, vnil}
use base.Fraction.{full_share}
use base.Logic.{SProp, ent, sep}
use base.Fml.{Lft, Share, GName, Fml, ftrue, fsep, flft, fobs, fres}
use prog.Model.{Model}
use contract.Running.{Running, tables}
use seplogic.Ra.Ura.{Ura}
use mir.Raw.{raw as bare}
use types.Logic.{Logic, sem}
use types.Kit.{‵, raw, ◌⊛◌, some, later, at_ret, ◌$◌, ◌∵◌, !, qed, by, done, move, keep, drop, use0, use1, split, join, fsplit, fsplit3, fjoin, fpack, pick, await, rewrite, suffices, frame, group}
use types.Run.{stop, fld, load, lit, of_opd, bin, addr, no_more, and_then, first, blocks, branches, skips, exec, returns, returns_within, enter}
use types.ByLocal.{alloc_all, pass_all, free_all, look_at, get, through, sets, sets_last, env}
use types.Part.{agg, sub, whole, look_in}
use types.Match.{live}
use denote.Exit.{no}
use denote.Follow.{follows, follows_by, Part, lends_Part}
use denote.Memory.{cell_at, lone, mem, part_at, part_of}
use denote.RattleType.{RattleType}
use denote.RawPtr.{Ptr, block_ptr, null_ptr, tests_null}
use denote.Ref.{MutRef, MutBor, mut_vals, mut_Tells}
use denote.Signature.{mut_ref_to, plain}
use denote.Steps.{nothing, opens, closes}
use denote.Triple.Walked.{Stays, says, stay_dropped, walk_of, ends_at, Goes-spent_ref}
use Rattle.std.proofs.raw_atomic.Walks.{proved}
use Rattle.std.proofs.VecSteps.Shapes.{after}
use Rattle.std.proofs.option.Made.{Some-of, none_of}
use Rattle.std.specs.contracts.alloc.Global as heap
use Rattle.std.specs.contracts.option.Option as option
use Rattle.std.specs.contracts.impls.GlobalAllocator.TheImpl.{ghosts}
use Rattle.std.specs.Box.Ownership.{box_owns}
use Rattle.dbus_c_handle.proofs.Steps.{word, handle_in, handle_out, held_none, either}
use Rattle.dbus_c_handle.specs.Handles.{holds}
use Rattle.dbus_c_handle.specs.declared.handle.WireHandle.{WireHandle}
use Rattle.dbus_c_handle.specs.declared.kept.Kept.{Kept}
use Rattle.dbus_c_handle.specs.contracts.handle.WireHandle.{the_row as R}
use Rattle.dbus_c_handle.specs.contracts.kept.Kept.{the_row as X}
use Rattle.dbus_c_handle.specs.contracts.handle.WireHandle.kept as f
use Rattle.dbus_c_handle.proofs.handle.WireHandle.kept.Statement.{statement}
use Rattle.dbus_c_handle.proofs.handle.WireHandle.kept.Code as code

abbrev stayed : Stays f.ended.signature.params f.ended.kept
stayed = (stay_dropped (mut_ref_to (0 ∷ []) tt (plain (λ _. R))) no, tt)

-- the handle, once x is kept
abbrev left : WireHandle → Kept → WireHandle
left h x = record h { state = Some x }

module _ {M : Type 1} {𝓤 : Ura M} (𝓛 : Logic 𝓤) (𝓜 : Model 𝓤 𝓛.H) (𝓡 : Running 𝓤 𝓛.H 𝓜) (κ : Lft) (q : Share) (rb ro : ℕ) (γ : GName) (h : WireHandle) where
  open 𝓛 use {H, A}

  abbrev self : MutBor WireHandle
  self = record { ref_ptr = (rb, ro); ghost_name = γ; now = h }

  abbrev bound : (walk_of 𝓛 f.ended stayed (f.clauses 𝓛 𝓜.mem 𝓡.returns)).Ghost
  bound = (((κ, tt), (q, tt), tt, (self, tt), (vptr rb ro ∷ [], tt)), tt)

  abbrev Post : Val → SProp 𝓤
  Post = (walk_of 𝓛 f.ended stayed (f.clauses 𝓛 𝓜.mem 𝓡.returns)).post bound

  abbrev Lent : RattleType
  Lent = MutRef (named 0) κ X

  module _ (g : heap.the_row.Denot) (b o : ℕ) (at_b : h.at ≡ block_ptr b o) where
    -- all of the handle but what it keeps
    abbrev Rest : Fml
    Rest = fsep ((ghosts.dealloc_token g) (bare (lone X.mir)) (block_ptr b o)) (cell_at full_share R.mir (word (block_ptr b o) ∷ []) rb ro)

    back : (x : Kept) → ent 𝓤 (sep 𝓤 (sem 𝓛 ((mem X).own_at x b o)) (sem 𝓛 Rest)) (sem 𝓛 ((mem R).own_at (left h x) rb ro))
    unfolding part_of
    back x =
        qed 𝓛 (‵ (part_at X full_share x b o) ∷ ‵ Rest ∷ []) ∵ move ! (1 ∷ []) $ fsplit ! $ move ! (2 ∷ 0 ∷ []) $ fjoin ! $
        fpack ! heap.the_row.Denot (λ a. box_owns (ghosts.dealloc_token a) X (block_ptr b o) x) g $
        rewrite ! 0 (λ (p : Ptr). ‵ (holds p (Some x))) (sym at_b) refl $ handle_in ! h.at (Some x) $
        rewrite ! 0 (λ (p : Ptr). ‵ (R.own_val (left h x) (word p ∷ []))) at_b refl $ move ! (1 ∷ 0 ∷ []) $ fjoin ! $
        fpack ! (List Val) (λ us. fsep (cell_at full_share R.mir us rb ro) (R.own_val (left h x) us)) (word (block_ptr b o) ∷ []) $ done !

    lent : (x : Kept) → h.state ≡ Some x → (γ' : GName) → ent 𝓤 (Part 𝓛 R X (left h) (named 0) κ q rb ro b o γ (sem 𝓛 Rest) back x γ') (Post (live 1 (vcons (vptr b o) vnil)))
    unfolding follows_by
    lent x is γ' =
        let r : MutBor Kept = record { ref_ptr = (b, o); ghost_name = γ'; now = x } in let v : Val = vptr b o in
        qed 𝓛 (‵ (Lent.own_val r (v ∷ [])) ∷ ‵ (flft κ q) ∷ ‵ (follows R X γ γ' (left h)) ∷ []) ∵
        use1 𝓛 (‵ ((option.the_row Lent).own_val (Some r) (live 1 (vcons v vnil) ∷ []))) (Some-of 𝓛 Lent r v) $
        suffices ! _ (ends_at 𝓛 f.ended stayed (f.clauses 𝓛 𝓜.mem 𝓡.returns) bound (live 1 (vcons v vnil)) (Some r) (tt, tt) (tt, tt)) $
        nothing ! $ nothing ! $ fjoin ! $ join ! $ nothing ! $ move ! (2 ∷ 0 ∷ []) $ join ! $ join ! $ frame ! $ says ! is $ done !

  none : h.state ≡ None → ent 𝓤 (sep 𝓤 (A.obs γ (R.coded.code h)) (A.lft κ q)) (Post (live 0 vnil))
  unfolding follows_by
  none is =
      qed 𝓛 (‵ (fobs γ (R.coded.code h)) ∷ ‵ (flft κ q) ∷ []) ∵ use1 𝓛 (‵ (fres γ (R.coded.code h))) (𝓛.names.obs-res γ (R.coded.code h)) $ move ! (1 ∷ []) $
      use0 𝓛 (‵ ((option.the_row Lent).own_val None (live 0 vnil ∷ []))) (none_of 𝓛 Lent) $
      suffices ! _ (ends_at 𝓛 f.ended stayed (f.clauses 𝓛 𝓜.mem 𝓡.returns) bound (live 0 vnil) None (tt, tt) (tt, tt)) $
      nothing ! $ nothing ! $ fjoin ! $ join ! $ nothing ! $ move ! (2 ∷ 0 ∷ []) $ join ! $ join ! $ frame ! $ says ! is $ done !

pub kept_spec : {M : Type 1} → statement M
kept_spec 𝓤 𝓛 𝓜 𝓡 wired =
    let c = f.clauses 𝓛 𝓜.mem 𝓡.returns in let 𝓣 = tables 𝓤 𝓛.H 𝓜 𝓡 𝓡.env in let fn = code.function in
    proved 𝓛 f.ended stayed c 𝓜 𝓡 (Goes-spent_ref 𝓛 1 (0 ∷ []) tt (plain (λ _. R)), tt)
    f.Key.name fn (code.unfolded 𝓤 𝓛.H 𝓜 𝓡 wired)
    (λ κs. (mut_vals, tt)) (λ κs. (mut_Tells (named 0) κs.0 R, tt)) (λ κs qs bounds a _ are.
    let κ = κs.0 in let q = qs.0 in let rb = a.0.ref_ptr.0 in let ro = a.0.ref_ptr.1 in let γ = a.0.ghost_name in let h = a.0.now in
    let Out : Val → SProp 𝓤 = Post 𝓛 𝓜 𝓡 κ q rb ro γ h in
    let Cell = λ (us : List Val). ‵ (cell_at full_share R.mir us rb ro) in
    qed 𝓛 (((‵ (flft κ q) ⊛ ‵ ftrue) ⊛ ‵ ((MutRef (named 0) κ R).own_val a.0 (mut_vals a.0)) ⊛ ‵ ftrue) ∷ ‵ ftrue ∷ []) ∵
    split ! $ split ! $ move ! (2 ∷ []) $ split ! $ keep ! (0 ∷ 2 ∷ []) $
    enter ! 𝓣.C 𝓣.Λ fn _ _ $ alloc_all ! (λ l. pass_all ! refl ((tt, tt), tt) $ let Ev = env fn.locals l in
    fsplit3 ! $ drop ! $ move ! (0 ∷ 1 ∷ 2 ∷ []) $ opens ! tt R {h = h} rb ro (λ us. move ! (1 ∷ []) $ handle_out ! h us (λ ev. either ! h.at h.state
    (λ is st. let w = ev ∙ ap (λ (p : Ptr). word p ∷ []) is in
    rewrite ! 0 Cell w refl $
    sets ! (of_opd ! (load ! (through ! refl (fld ! refl (stop !))) (look_in ! 0 (sub ! 0 refl (whole !))))) refl (tt, record { fits = lit< tt }) $
    sets ! (bin ! (get ! refl) (lit ! tt) tt) refl (tt, tt) $ first ! $ branches ! (get ! refl)
    (λ _. sets ! (agg ! (and_then ! (lit ! tt) (no_more !))) refl (tt, (record { fits = lit< tt }, tt)) $
    use0 𝓛 (‵ (holds h.at h.state)) (held_none 𝓛 h.at h.state is st) $ handle_in ! h.at h.state $
    rewrite ! 0 (λ (p : Ptr). ‵ (R.own_val h (word p ∷ []))) is refl $ move ! (1 ∷ 0 ∷ []) $ closes ! tt R h (word null_ptr ∷ []) rb ro $
    returns_within ! Out refl (look_at ! 0 refl) $ free_all ! refl $ keep ! (0 ∷ 2 ∷ []) $ by ! (none 𝓛 𝓜 𝓡 κ q rb ro γ h st))
    (λ wrong. absurd wrong))
    (λ g b o x is st can. let w = ev ∙ ap (λ (p : Ptr). word p ∷ []) is in
    fsplit ! $ rewrite ! 2 Cell w refl $
    sets ! (of_opd ! (load ! (through ! refl (fld ! refl (stop !))) (look_in ! 2 (sub ! 0 refl (whole !))))) refl (tt, tt) $
    sets ! (bin ! (get ! refl) (lit ! tt) (tests_null (block_ptr b o) can)) refl (tt, tt) $ first ! $ branches ! (get ! refl) (λ wrong. absurd wrong)
    (λ _. skips ! $ exec ! 𝓣.C 𝓣.Λ Ev (after 3 fn.body) (at_ret Ev Out) $ first ! $ blocks ! $
    sets ! (of_opd ! (load ! (through ! refl (fld ! refl (stop !))) (look_in ! 2 (sub ! 0 refl (whole !))))) refl (tt, tt) $
    sets ! (of_opd ! (get ! refl)) refl (tt, tt) $ sets_last ! (addr ! (through ! refl (stop !))) refl (tt, tt) $
    exec ! 𝓣.C 𝓣.Λ Ev (after 4 fn.body) (at_ret Ev Out) $ sets ! (of_opd ! (get ! refl)) refl (tt, tt) $
    sets ! (agg ! (and_then ! (lit ! tt) (and_then ! (get ! refl) (no_more !)))) refl (tt, (record { fits = lit< tt }, (tt, tt))) $
    move ! (1 ∷ 2 ∷ []) $ fjoin ! $ move ! (2 ∷ 3 ∷ 4 ∷ 1 ∷ 0 ∷ []) $ group ! 5 $
    use1 𝓛 (later (some (λ (γ' : GName). raw (Part 𝓛 R X (left h) (named 0) κ q rb ro b o γ (sem 𝓛 (Rest 𝓛 𝓜 𝓡 κ q rb ro γ h g b o is)) (back 𝓛 𝓜 𝓡 κ q rb ro γ h g b o is) x γ'))))
    (lends_Part 𝓛 R X (left h) (named 0) κ q rb ro b o γ (sem 𝓛 (Rest 𝓛 𝓜 𝓡 κ q rb ro γ h g b o is)) (back 𝓛 𝓜 𝓡 κ q rb ro γ h g b o is) (R.coded.code h) (R.coded.code h) x) $ await ! tt $ pick ! (λ γ'.
    returns ! (look_at ! 0 refl) $ free_all ! refl $ keep ! (0 ∷ []) $ by ! (lent 𝓛 𝓜 𝓡 κ q rb ro γ h g b o is x st γ'))))))))
