-- `of` keeps the pointer of the box, and what lies there.
use Rattle.std.proofs.Common.{◌≡◌, List, [], ◌∷◌, ◌++◌, refl, sym, ap, ◌∙◌, subst}
use Rattle.std.specs.Prelude.{Some}
use mir.Raw.{raw as bare}
use mir.Val.{Val}
use base.Fraction.{full_share}
use base.Logic.{SProp, ent, emp, never, id⊢, fst∗}
use base.Fml.{ftrue, fsep}
use prog.Wp.{WpFn}
use contract.Monad.{fact, fact_i}
use contract.Running.{tables}
use types.Logic.{sem}
use types.Kit as Kit
use types.Kit.{‵, raw, ◌⊛◌, some, later, ◌$◌, ◌∵◌, !, qed, by, move, keep, split, split3, join, fsplit, fjoin, fpack, pick, suffices, use0, use1, await, feq_l}
use types.Run.{of_opd, no_more, and_then, returns, enter}
use types.ByLocal.{alloc_all, pass_all, free_all, look_at, get, sets, lands_as}
use types.Part.{agg}
use denote.Exit.{yes}
use denote.Param.NoDrop.{glues}
use denote.Param.{layout}
use denote.RattleType.{owns}
use denote.RawPtr.{Ptr, RawPtr, block_ptr, null_ptr, ptr_val, in_a_block}
use denote.Signature.{types_at, plain}
use denote.Steps.{nothing, only}
use denote.Triple.Call.{calls_at}
use denote.Triple.Spec.{triple_of}
use denote.Triple.Walked.{Stays, stay_dropped, walk_of, Goes-dropped}
use denote.Triple.Table.{framed}
use mir.Syntax.{method, no_args}
use Rattle.dbus_c_handle.proofs.dbus_c_handle++kept++Kept+Destruct.drop.Symbol as kept_drop
use Rattle.std.proofs.raw_atomic.Walks.{proved_at, leaves}
use Rattle.std.proofs.impls.GlobalAllocator.TheImpl.Met as global
use Rattle.std.specs.Box.Ownership.{box_owns}
use Rattle.std.proofs.BoxSteps.Form.{word, box_typed}
use Rattle.std.proofs.BoxSteps.Steps.{box_out, box_in}
use Rattle.std.specs.contracts.boxed.Box.into_raw as callee
use Rattle.std.proofs.boxed.Box.into_raw.Met.{met}
use Rattle.std.specs.contracts.boxed.Box as box
use Rattle.std.specs.contracts.alloc.Global as heap
use Rattle.std.specs.contracts.impls.GlobalAllocator.TheImpl.{ghosts, dict}
use Rattle.dbus_c_handle.specs.contracts.kept.Kept as kept
use Rattle.dbus_c_handle.proofs.Destruct++none.drop.Code as drop
use Rattle.dbus_c_handle.proofs.LettingGo.{lets_go}
use Rattle.dbus_c_handle.proofs.Steps as steps
use Rattle.dbus_c_handle.proofs.dbus_c_handle++kept++Kept+Destruct.drop.Met.{met as dropped}
use Rattle.dbus_c_handle.proofs.Steps.{boxed, drops_kept, drops_nothing, handle_in, tokens, tokens_in, lives_in}
use Rattle.dbus_c_handle.specs.contracts.handle.WireHandle.of.{ended, clauses}
use Rattle.dbus_c_handle.specs.contracts.handle.WireHandle.of.Key.{name as #self}
use Rattle.dbus_c_handle.proofs.handle.WireHandle.of.Statement.{statement}
use Rattle.dbus_c_handle.proofs.handle.WireHandle.of.Code as code

abbrev From : denote.RattleType.RattleType
From = box.the_row kept.the_row heap.the_row ghosts

abbrev stayed : Stays ended.signature.params ended.kept
stayed = (stay_dropped (plain (λ _. From)) yes, tt)

pub of_spec : {M : Type 1} → statement M
unfolding drop.code
of_spec {M} 𝓤 𝓛 𝓜 𝓡 wired =
    let H = 𝓛.H in let 𝓣 = tables 𝓤 H 𝓜 𝓡 𝓡.env in let c = clauses 𝓛 𝓜.mem 𝓡.returns in let fn = code.function in
    let X = boxed.row in let A = boxed.al.row in let dd = drops_nothing heap.the_row in let dx = drops_kept in
    let undropped = code.calls-dbus_c_handle::Destruct++none::drop 𝓡.env wired in
    proved_at 𝓛 ended stayed c 𝓜 𝓡 (Goes-dropped 𝓛 0 (plain (λ _. From)) yes (λ κs x f. refl), tt) #self fn (code.unfolded 𝓤 H 𝓜 𝓡 wired) (λ z are.
    let κs = z.0.0 in let v = z.0.3.0 in let Post : Val → SProp 𝓤 = (walk_of 𝓛 ended stayed c).post z in let Run : List Val → SProp 𝓤 = λ ws. WpFn 𝓤 H 𝓣.C 𝓣.Λ fn ws Post in
    qed 𝓛 ((‵ ftrue ⊛ ‵ (owns (types_at ended.signature.params κs) z.0.3 z.0.4)) ∷ raw ((c κs z.0.3).requires z.1) ∷ []) ∵ split ! $ move ! (1 ∷ []) $ fsplit ! $
    box_out boxed ! v z.0.4.0 (λ b o h e ws fits. box_in boxed ! v b o v.value e refl $
    let w : Val = word boxed h b o in let typed = box_typed boxed h b o fits in
    let t = triple_of 𝓛 (callee.signature X A ghosts dict dd dx) (callee.spec X A ghosts dict dd dx 𝓛 𝓜.mem 𝓡.returns) in
    let y : t.Ghost = ((([], ([], tt)), (full_share, (full_share, tt)), tt, (v, tt), (w ∷ [], tt)), tt) in
    fjoin ! $ tokens_in ! $ join ! $ nothing ! $ lives_in ! $ move ! (1 ∷ 0 ∷ []) $ join ! $ use1 𝓛 (raw (t.pre y)) (id⊢ 𝓤 _) $
    suffices ! (Run (w ∷ [])) (subst (λ (us : List Val). ent 𝓤 (Run (w ∷ [])) (Run us)) (sym (λ i. ws i ++ [])) (id⊢ 𝓤 (Run (w ∷ [])))) $
    enter ! 𝓣.C 𝓣.Λ fn (w ∷ []) Post $ alloc_all ! (λ l. pass_all ! refl (typed, tt) $ sets ! (of_opd ! (get ! refl)) refl typed $
    calls_at ! (framed 𝓤 H 𝓜 𝓣) t (met 𝓤 𝓛 𝓜 𝓡 (code.calls-std::boxed::Box::into_raw 𝓡.env wired) X A boxed.laws boxed.al.laws ghosts dict dd dx
    (global.passed 𝓡.env (code.calls-std::impls::GlobalAllocator::allocate 𝓡.env wired) (code.calls-std::impls::GlobalAllocator::deallocate 𝓡.env wired) (code.calls-std::impls::GlobalAllocator::grow 𝓡.env wired) (code.calls-std::impls::GlobalAllocator::shrink 𝓡.env wired) M 𝓤 𝓛 𝓜 𝓡)
    (glues "dbus_c_handle::Destruct++none::drop" 𝓡.env undropped A boxed.al.laws M 𝓤 𝓛 𝓜 𝓡) (lets_go 𝓛 𝓜 𝓡 (kept_drop.as_method 𝓡.env (code.calls-dbus_c_handle::dbus_c_handle++kept++Kept+Destruct::drop 𝓡.env wired) (method drops_kept 0 no_args) refl) (dropped 𝓤 𝓛 𝓜 𝓡 (code.calls-dbus_c_handle::dbus_c_handle++kept++Kept+Destruct::drop 𝓡.env wired)))) y (and_then ! (get ! refl) (no_more !)) (λ u.
    use1 𝓛 (later (some (λ (r : Ptr). (tokens ⊛ ‵ (RawPtr.own_val r (u ∷ []))) ⊛ some (λ (_ : (Unit {0} × (Unit {0} × Unit {0})) × Unit {0}). ‵ (fsep (fsep ftrue (fsep ftrue ftrue)) ftrue) ⊛ ‵ (box_owns (ghosts.dealloc_token v.alloc) kept.the_row r v.value))))) (id⊢ 𝓤 _) $
    await ! tt $ pick ! (λ r. split ! $ split ! $ Kit.drop ! $ feq_l ! (λ eu. pick ! (λ _. split ! $ Kit.drop ! $
    in_a_block ! r (λ p. box_owns (ghosts.dealloc_token v.alloc) kept.the_row p v.value) (fst∗ 𝓤 (never 𝓤) (sem 𝓛 (ghosts.dealloc_token v.alloc (bare (layout kept.the_row)) null_ptr))) (λ b' o' e'.
    lands_as ! (ap only (eu ∙ ap (λ (p : Ptr). ptr_val p ∷ []) e')) refl (tt, tt) $ sets ! (of_opd ! (get ! refl)) refl (tt, tt) $
    sets ! (agg ! (and_then ! (get ! refl) (no_more !))) refl (tt, (tt, tt)) $
    fpack ! heap.the_row.Denot (λ g. box_owns (ghosts.dealloc_token g) kept.the_row (block_ptr b' o') v.value) v.alloc $ handle_in ! (block_ptr b' o') (Some v.value) $
    use0 𝓛 (raw (fact 𝓤 (Some v.value ≡ Some v.value))) (fact_i 𝓤 (Some v.value ≡ Some v.value) (emp 𝓤) refl) $ nothing ! $ nothing ! $ fjoin ! $
    returns ! (look_at ! 0 refl) $ free_all ! refl $
    -- [nothing; the fact; the handle; the tokens; ..]
    keep ! (3 ∷ 0 ∷ 2 ∷ 1 ∷ []) $ by ! (leaves 𝓛 ended stayed c z (steps.word (block_ptr b' o')) (record { at = block_ptr b' o'; state = Some v.value }) (tt, tt) (tt, tt))))))))))
