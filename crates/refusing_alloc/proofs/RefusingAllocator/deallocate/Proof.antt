-- `deallocate`: the plan counts the block, and the block goes back to the inner allocator. κ is the
-- lifetime of `&self`, τ the type that the block was for, and h the inner allocator's value.
use base.Logic.{never, fst∗}
use denote.RawPtr.{in_a_block}
use types.Kit.{regoal, group}
use Rattle.std.specs.Allocator.{owned_block}
use Rattle.std.proofs.alloc.Calls.{Gives, at_gives, Gives-goes, Gives-Gives}
use Rattle.refusing_alloc.proofs.plan.Plan.takes_back.Met as takes_back
use Rattle.refusing_alloc.proofs.Steps.{Item, ptr_val, null_ptr, block_ptr, Ptr, RawPtr, rawptr_vals, rawptr_Tells, vunit, vint, vptr, Val, WpFn, sem, given, learn, of_opd, unit_lit, feq_i, returns, look_at, free_all, unit, prop, suffices, ends_at, token, fsplit, keep, enter, alloc_all, pass_all, sets, addr, through, fld, stop, use1, use2, calls_at, framed, and_then, get, no_more, later, some, await, pick, feq_l, lands_as, only, ap, nothing, fjoin, join, done, List, [], ◌∷◌, Al, Args, a_type, dnil, dcons, w64, ◌≡◌, ◌⊑◌, ⊑_trans, ℕ, refl, proved, capped, size, align, Fn, Slot, inst_fn, tables, fact, ‵, raw, ◌⊛◌, ◌$◌, ◌∵◌, !, qed, flft, ftrue, move, split, yes, shr_vals, uint_vals, uint_Tells, usize, RefOf, plain, owns, types_at, heard, Stays, walk_of, stay_dropped, Goes-dropped, bounded}
use Rattle.refusing_alloc.proofs.Fields.{Whole, inner_at, plan_at, fields}
use Rattle.refusing_alloc.proofs.Plans.{Asks, asked, goes_in, comes_out}
use Rattle.refusing_alloc.proofs.RefusingAllocator.deallocate.Statement.{statement}
use Rattle.refusing_alloc.proofs.RefusingAllocator.deallocate.Code as code
use Rattle.refusing_alloc.specs.contracts.RefusingAllocator.deallocate as f

pub deallocate_spec : {M : Type 1} → statement M
deallocate_spec 𝓤 𝓛 𝓜 𝓡 wired A laws ghosts table drops met _ =
    let Z : Al = record { row = A; laws = laws; g = ghosts; d = table; drops = drops } in
    let type_args : Args = bounded (a_type ∷ []) (A, tt) (dcons table (dcons drops dnil)) in
    let here : Fn = inst_fn type_args code.function in
    let self : Slot 2 = RefOf (0 ∷ []) tt (plain (λ κs. Whole Z)) (λ κs. tt) in
    let pointer : Slot 2 = plain (λ κs. RawPtr) in
    let number : Slot 2 = plain (λ κs. usize) in
    let ended = f.ended A ghosts table drops in
    let stayed : Stays ended.signature.params ended.kept = (stay_dropped self yes, (stay_dropped pointer yes, (stay_dropped number yes, (stay_dropped number yes, tt)))) in
    let number_goes = Goes-dropped 𝓛 2 number yes (λ κs x w. refl) in
    let c = f.clauses A ghosts table drops 𝓛 𝓜.mem 𝓡.returns in
    let W = walk_of 𝓛 ended stayed c in
    let 𝓣 = tables 𝓤 𝓛.H 𝓜 𝓡 𝓡.env in
    proved 𝓛 ended stayed c 𝓜 𝓡 (Goes-dropped 𝓛 2 self yes (λ κs x w. refl), (Goes-dropped 𝓛 2 pointer yes (λ κs x w. refl), (number_goes, (number_goes, tt))))
    (f.Key.name type_args) here (code.unfolded 𝓤 𝓛.H 𝓜 𝓡 wired (A, tt) table drops)
    (λ κs. (shr_vals, (rawptr_vals, (uint_vals w64, (uint_vals w64, tt))))) (λ κs. ((λ r vs is. is.0), (rawptr_Tells, (uint_Tells w64, (uint_Tells w64, tt)))))
    (λ κs qs bounds a τ are.
    let κ = κs.0 in let q = qs.0 in let r = a.0 in let bytes : ℕ = a.1.1.0 in let to : ℕ = a.1.1.1.0 in
    let y : Ptr → W.Ghost = λ p. ((κs, qs, bounds, (r, (p, (bytes, (to, tt)))), (shr_vals r, (rawptr_vals p, (uint_vals w64 bytes, (uint_vals w64 to, tt))))), τ) in
    let values : Ptr → List Val = λ p. vptr r.ref_ptr.0 r.ref_ptr.1 ∷ ptr_val p ∷ vint w64 bytes ∷ vint w64 to ∷ [] in
    let Laid : Type 0 = (capped (size τ) ≡ bytes) × (capped (align τ) ≡ to) in
    let h = r.now.inner in
    let lent : Item 𝓤 = ‵ (flft κs.1.0 qs.1.0) ⊛ ‵ ftrue in
    let z : (Asks unit 𝓛).Ghost = asked unit 𝓛 κ q (plan_at Z r.ref_ptr) r.now.plan in
    let Inner = Gives Z 𝓛 𝓜.mem 𝓡.returns in
    let w : ℕ → ℕ → Inner.Ghost = λ b o. at_gives Z 𝓛 𝓜.mem 𝓡.returns κ q (inner_at Z r.ref_ptr) h b o bytes to τ in
    qed 𝓛 (((‵ (flft κ q) ⊛ lent) ⊛ ‵ (owns (types_at ended.signature.params κs) a (y a.1.0).0.4))
    ∷ (raw (fact 𝓤 (κs.1.0 ⊑ A.lives)) ⊛ raw (fact 𝓤 Laid) ⊛ ‵ (owned_block (token Z h) τ a.1.0)) ∷ []) ∵
    move ! (1 ∷ []) $ split ! $ heard ! _ (λ within. split ! $ heard ! Laid (λ laid.
    in_a_block ! a.1.0 (λ p. owned_block (token Z h) τ p) (fst∗ 𝓤 (never 𝓤) (sem 𝓛 (token Z h τ null_ptr))) (λ b o e.
    regoal ! (λ p. prop (WpFn 𝓤 𝓛.H 𝓣.C 𝓣.Λ here (values p) (W.post (y p)))) e refl $
    move ! (1 ∷ []) $ split ! $ split ! $ move ! (2 ∷ []) $ fsplit ! $ fsplit ! $ keep ! (1 ∷ 3 ∷ 4 ∷ 5 ∷ []) $ fields Z ! κ r.now r.ref_ptr $ move ! (0 ∷ 2 ∷ []) $
    -- [a `&` to the plan; κ's token; a `&` to the inner allocator; the other token; the block]
    enter ! 𝓣.C 𝓣.Λ here _ _ $ alloc_all ! (λ l. pass_all ! refl ((tt, tt), ((tt, tt), ((tt, record { fits = are.1.1.0.1 }), ((tt, record { fits = are.1.1.1.0.1 }), tt)))) $
    sets ! (addr ! (through ! refl (fld ! refl (stop !)))) refl (tt, tt) $
    use2 𝓛 (raw ((Asks unit 𝓛).pre z)) (goes_in unit 𝓛 κ q (plan_at Z r.ref_ptr) r.now.plan) $
    calls_at ! (framed 𝓤 𝓛.H 𝓜 𝓣) (Asks unit 𝓛) (takes_back.met 𝓤 𝓛 𝓜 𝓡 (code.calls-refusing_alloc::plan::Plan::takes_back 𝓡.env wired)) z
    (and_then ! (get ! refl) (no_more !)) (λ v.
    use1 𝓛 (later (some (λ (x : Unit {0}). ‵ (unit.own_val x (v ∷ [])) ⊛ ‵ (flft κ q)))) (comes_out unit 𝓛 κ q (plan_at Z r.ref_ptr) r.now.plan v) $
    await ! tt $ pick ! (λ x. split ! $ feq_l ! (λ is. lands_as ! (ap only is) refl (tt, tt) $
    sets ! (addr ! (through ! refl (fld ! refl (stop !)))) refl (tt, tt) $
    move ! (3 ∷ []) $ fsplit ! $ move ! (0 ∷ 1 ∷ 3 ∷ 2 ∷ []) $ group ! 4 $
    use1 𝓛 (raw (Inner.pre (w b o))) (Gives-goes Z 𝓛 𝓜.mem 𝓡.returns κ q (inner_at Z r.ref_ptr) h (⊑_trans κ κs.1.0 A.lives bounds.0 within) b o bytes to τ laid.0 laid.1 are.1.1.0.1 are.1.1.1.0.1) $
    calls_at ! (framed 𝓤 𝓛.H 𝓜 𝓣) Inner (met.deallocate drops) (w b o) (and_then ! (get ! refl) (and_then ! (get ! refl) (and_then ! (get ! refl) (and_then ! (get ! refl) (no_more !))))) (λ u.
    use1 𝓛 (later (given (u ≡ vunit) (‵ (flft κ q)))) (Gives-Gives Z 𝓛 𝓜.mem 𝓡.returns κ q (inner_at Z r.ref_ptr) h b o bytes to τ u) $ await ! tt $ learn ! (λ gone.
    lands_as ! gone refl (tt, tt) $ sets ! (of_opd ! (unit_lit !)) refl (tt, tt) $ returns ! (look_at ! 0 refl) $ free_all ! refl $
    suffices ! _ (ends_at 𝓛 ended stayed c (y (block_ptr b o)) vunit tt (tt, (tt, (tt, (tt, tt)))) (tt, (tt, (tt, (tt, tt))))) $
    -- [κ's token; the other]
    nothing ! $ feq_i ! (List Val) (vunit ∷ []) (vunit ∷ []) refl $
    nothing ! $ nothing ! $ fjoin ! $ nothing ! $ fjoin ! $ nothing ! $ fjoin ! $ nothing ! $ fjoin ! $ join ! $ move ! (2 ∷ 3 ∷ []) $ join ! $ join ! $ done !))))))))))
