-- `into_box` tests the pointer, and makes a box again of what lies there.
use Rattle.std.proofs.Common.{◌≡◌, List, [], ◌∷◌, ◌++◌, refl, sym, ap, ◌∙◌, subst, lit<}
use Rattle.std.specs.Prelude.{None, Some}
use mir.Val.{Val, vptr, vcons, vnil, has_ty, WT}
use lib.Dec.{T}
use base.Fraction.{full_share}
use base.Logic.{SProp, ent, emp, id⊢}
use base.Fml.{ftrue, fsep}
use prog.Wp.{WpFn}
use contract.Monad.{fact, fact_i}
use contract.Running.{tables}
use types.Kit as Kit
use types.Kit.{‵, raw, ◌⊛◌, some, later, at_ret, ◌$◌, ◌∵◌, !, qed, by, move, keep, split, split3, join, fsplit, fjoin, feq_i, pick, rewrite, suffices, use0, use1, await}
use types.Run.{stop, fld, lit, of_opd, bin, no_more, and_then, first, blocks, branches, skips, exec, returns, returns_within, enter}
use types.ByLocal.{alloc_all, pass_all, free_all, look_at, get, get_in, sets, lands_last, env}
use types.Part.{agg, sub, whole}
use types.Match.{live}
use denote.Exit.{yes}
use denote.Param.{layout}
use denote.Param.NoDrop.{glues}
use denote.RattleType.{RattleType, owns}
use denote.RawPtr.{Ptr, block_ptr, null_ptr, tests_null}
use denote.Signature.{types_at, type_at, plain}
use denote.Steps.{nothing, only, heard}
use denote.Triple.Call.{calls_at_last}
use denote.Triple.Spec.{triple_of}
use denote.Triple.Table.{framed}
use denote.Triple.Walked.{Stays, stay_dropped, walk_of, Goes-dropped}
use Rattle.std.proofs.raw_atomic.Walks.{proved_at, leaves}
use Rattle.std.proofs.alloc.Calls.{handle_tells}
use Rattle.std.proofs.BoxSteps.Form.{B, box_typed}
use Rattle.std.proofs.BoxSteps.Steps.{box_out, box_in}
use Rattle.std.proofs.VecSteps.Shapes.{after}
use Rattle.std.proofs.ResultValues.{and_tt}
use Rattle.std.proofs.option.Made.{Some-of, none_of}
use Rattle.std.proofs.impls.GlobalAllocator.TheImpl.Met as global
use Rattle.std.specs.contracts.boxed.Box.from_raw as callee
use Rattle.std.proofs.boxed.Box.from_raw.Met.{met}
use Rattle.std.specs.contracts.alloc.Global as heap
use Rattle.std.specs.contracts.impls.GlobalAllocator.TheImpl.{ghosts, dict}
use Rattle.dbus_c_handle.proofs.Destruct++none.drop.Code as drop
use Rattle.dbus_c_handle.specs.contracts.handle.WireHandle as wire
use Rattle.dbus_c_handle.proofs.Steps.{boxed, drops_nothing, word, handle_out, either, tokens, tokens_in, lives_in}
use Rattle.dbus_c_handle.specs.contracts.handle.WireHandle.into_box.{ended, clauses}
use Rattle.dbus_c_handle.specs.contracts.handle.WireHandle.into_box.Key.{name as #self}
use Rattle.dbus_c_handle.proofs.handle.WireHandle.into_box.Statement.{statement}
use Rattle.dbus_c_handle.proofs.handle.WireHandle.into_box.Code as code

abbrev stayed : Stays ended.signature.params ended.kept
stayed = (stay_dropped (plain (λ _. wire.the_row)) yes, (stay_dropped (plain (λ _. heap.the_row)) yes, tt))

pub into_box_spec : {M : Type 1} → statement M
unfolding drop.code
into_box_spec {M} 𝓤 𝓛 𝓜 𝓡 wired =
    let H = 𝓛.H in let 𝓣 = tables 𝓤 H 𝓜 𝓡 𝓡.env in let c = clauses 𝓛 𝓜.mem 𝓡.returns in let fn = code.function in
    let X = boxed.row in let A = boxed.al.row in let dd = drops_nothing heap.the_row in
    let undropped = code.calls-dbus_c_handle::Destruct++none::drop 𝓡.env wired in
    proved_at 𝓛 ended stayed c 𝓜 𝓡 (Goes-dropped 𝓛 0 (plain (λ _. wire.the_row)) yes (λ κs x f. refl), (Goes-dropped 𝓛 0 (plain (λ _. heap.the_row)) yes (λ κs x f. refl), tt)) #self fn (code.unfolded 𝓤 H 𝓜 𝓡 wired) (λ z are.
    let κs = z.0.0 in let h = z.0.3.0 in let a = z.0.3.1.0 in let Post : Val → SProp 𝓤 = (walk_of 𝓛 ended stayed c).post z in let Run : List Val → SProp 𝓤 = λ ws. WpFn 𝓤 H 𝓣.C 𝓣.Λ fn ws Post in
    let Out : RattleType = type_at ended.signature.result κs in
    qed 𝓛 ((‵ ftrue ⊛ ‵ (owns (types_at ended.signature.params κs) z.0.3 z.0.4)) ∷ raw ((c κs z.0.3).requires z.1) ∷ []) ∵ split ! $ move ! (1 ∷ []) $ fsplit ! $
    handle_out ! h z.0.4.0 (λ ev. move ! (1 ∷ []) $ fsplit ! $ handle_tells boxed.al ! a z.0.4.1.0 (λ k ek fits. move ! (2 ∷ []) $ either ! h.at h.state
    (λ is st. let w : Val = word null_ptr in let ws : z.0.4.0 ≡ w ∷ [] = ev ∙ ap (λ (p : Ptr). word p ∷ []) is in
    suffices ! (Run (w ∷ k ∷ [])) (subst (λ (us : List Val). ent 𝓤 (Run (w ∷ k ∷ [])) (Run us)) (sym (λ i. ws i ++ (ek i ++ []))) (id⊢ 𝓤 (Run (w ∷ k ∷ [])))) $
    enter ! 𝓣.C 𝓣.Λ fn (w ∷ k ∷ []) Post $ alloc_all ! (λ l. pass_all ! refl ((tt, (record { fits = lit< tt }, tt)), (fits, tt)) $
    sets ! (of_opd ! (get_in ! (fld ! refl (stop !)) (sub ! 0 refl (whole !)))) refl (tt, record { fits = lit< tt }) $ sets ! (of_opd ! (get ! refl)) refl (tt, record { fits = lit< tt }) $
    sets ! (bin ! (get ! refl) (lit ! tt) tt) refl (tt, tt) $ first ! $ branches ! (get ! refl)
    (λ _. sets ! (agg ! (and_then ! (lit ! tt) (no_more !))) refl (tt, (record { fits = lit< tt }, tt)) $
    use0 𝓛 (‵ (Out.own_val None (live 0 vnil ∷ []))) (none_of 𝓛 (B boxed)) $ use0 𝓛 (raw (fact 𝓤 (h.state ≡ None))) (fact_i 𝓤 (h.state ≡ None) (emp 𝓤) st) $
    nothing ! $ nothing ! $ fjoin ! $ nothing ! $ fjoin ! $
    returns_within ! Post refl (look_at ! 0 refl) $ free_all ! refl $
    -- [nothing; the fact; the option; the allocator's; nothing; the tokens; ..]
    keep ! (5 ∷ 0 ∷ 2 ∷ 1 ∷ []) $ by ! (leaves 𝓛 ended stayed c z (live 0 vnil) None (tt, (tt, tt)) (tt, (tt, tt)))) (λ wrong. absurd wrong)))
    (λ _ b o x is st can. let w : Val = word (block_ptr b o) in let ws : z.0.4.0 ≡ w ∷ [] = ev ∙ ap (λ (p : Ptr). word p ∷ []) is in
    suffices ! (Run (w ∷ k ∷ [])) (subst (λ (us : List Val). ent 𝓤 (Run (w ∷ k ∷ [])) (Run us)) (sym (λ i. ws i ++ (ek i ++ []))) (id⊢ 𝓤 (Run (w ∷ k ∷ [])))) $
    enter ! 𝓣.C 𝓣.Λ fn (w ∷ k ∷ []) Post $ alloc_all ! (λ l. pass_all ! refl ((tt, (tt, tt)), (fits, tt)) $ let Ev = env fn.locals l in
    sets ! (of_opd ! (get_in ! (fld ! refl (stop !)) (sub ! 0 refl (whole !)))) refl (tt, tt) $ sets ! (of_opd ! (get ! refl)) refl (tt, tt) $
    sets ! (bin ! (get ! refl) (lit ! tt) (tests_null (block_ptr b o) can)) refl (tt, tt) $ first ! $ branches ! (get ! refl) (λ wrong. absurd wrong)
    (λ _. skips ! $ exec ! 𝓣.C 𝓣.Λ Ev (after 4 fn.body) (at_ret Ev Post) $ first ! $ blocks ! $
    sets ! (of_opd ! (get ! refl)) refl fits $ sets ! (of_opd ! (get ! refl)) refl (tt, tt) $ sets ! (of_opd ! (get ! refl)) refl (tt, tt) $
    let t = triple_of 𝓛 (callee.signature X A ghosts dict dd) (callee.spec X A ghosts dict dd 𝓛 𝓜.mem 𝓡.returns) in
    let y : t.Ghost = ((([], ([], tt)), (full_share, (full_share, tt)), tt, (a, (block_ptr b o, tt)), (k ∷ [], (vptr b o ∷ [], tt))), x) in
    lives_in ! $ move ! (2 ∷ []) $ feq_i ! (List Val) (vptr b o ∷ []) (vptr b o ∷ []) refl $ fjoin ! $ move ! (2 ∷ 0 ∷ []) $ fjoin ! $
    tokens_in ! $ join ! $ join ! $ use1 𝓛 (raw (t.pre y)) (id⊢ 𝓤 _) $
    calls_at_last ! (framed 𝓤 H 𝓜 𝓣) t (met 𝓤 𝓛 𝓜 𝓡 (code.calls-std::boxed::Box::from_raw 𝓡.env wired) X A boxed.laws boxed.al.laws ghosts dict dd
    (global.passed 𝓡.env (code.calls-std::impls::GlobalAllocator::allocate 𝓡.env wired) (code.calls-std::impls::GlobalAllocator::deallocate 𝓡.env wired) (code.calls-std::impls::GlobalAllocator::grow 𝓡.env wired) (code.calls-std::impls::GlobalAllocator::shrink 𝓡.env wired) M 𝓤 𝓛 𝓜 𝓡)
    (glues "dbus_c_handle::Destruct++none::drop" 𝓡.env undropped A boxed.al.laws M 𝓤 𝓛 𝓜 𝓡)) y (and_then ! (get ! refl) (and_then ! (get ! refl) (no_more !))) (λ u.
    use1 𝓛 (later (some (λ (r : (B boxed).Denot). (tokens ⊛ ‵ ((B boxed).own_val r (u ∷ []))) ⊛ some (λ (_ : Unit {0} × (Unit {0} × Unit {0})). ‵ (fsep ftrue (fsep ftrue ftrue)) ⊛ (raw (fact 𝓤 (r.value ≡ x)) ⊛ raw (fact 𝓤 (r.alloc ≡ a))))))) (id⊢ 𝓤 _) $
    await ! tt $ pick ! (λ r. split ! $ split ! $ Kit.drop ! $ move ! (1 ∷ []) $ pick ! (λ _. split3 ! $ Kit.drop ! $ heard ! (r.value ≡ x) (λ same. Kit.drop ! $
    box_out boxed ! r (u ∷ []) (λ b' o' h' e' us fits'. box_in boxed ! r b' o' r.value e' refl $ rewrite ! 0 (λ (xs : List Val). ‵ ((B boxed).own_val r xs)) (sym us) refl $
    let typed : T (has_ty (layout (B boxed)) u) × WT u = subst (λ (v : Val). T (has_ty (layout (B boxed)) v) × WT v) (sym (ap only us)) (box_typed boxed h' b' o' fits') in
    let made : Val = live 1 (vcons u vnil) in let good : T (has_ty (layout Out) made) × WT made = (and_tt _ typed.0, (record { fits = lit< tt }, (typed.1, tt))) in
    lands_last ! refl typed $ exec ! 𝓣.C 𝓣.Λ Ev (after 5 fn.body) (at_ret Ev Post) $ sets ! (of_opd ! (get ! refl)) refl typed $
    sets ! (agg ! (and_then ! (lit ! tt) (and_then ! (get ! refl) (no_more !)))) refl good $
    use1 𝓛 (‵ (Out.own_val (Some r) (made ∷ []))) (Some-of 𝓛 (B boxed) r u) $
    use0 𝓛 (raw (fact 𝓤 (h.state ≡ Some r.value))) (fact_i 𝓤 (h.state ≡ Some r.value) (emp 𝓤) (st ∙ ap Some (sym same))) $
    nothing ! $ nothing ! $ fjoin ! $ nothing ! $ fjoin ! $ returns ! (look_at ! 0 refl) $ free_all ! refl $
    -- [nothing; the fact; the option; the tokens; ..]
    keep ! (3 ∷ 0 ∷ 2 ∷ 1 ∷ []) $ by ! (leaves 𝓛 ended stayed c z made (Some r) (tt, (tt, tt)) (tt, (tt, tt))))))))))))))
