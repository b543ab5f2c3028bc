-- `allocate`: the plan is asked. A refused growth answers `Err`, and any other answers what the
-- inner allocator answers. κ is the lifetime of `&self`, τ the type that the block is for, and h
-- the inner allocator's value.
use Rattle.std.proofs.VecSteps.Shapes.{after}
use Rattle.std.proofs.alloc.Calls.{Takes, at_takes, Answered, Takes-goes, Takes-gives, answers as taken}
use Rattle.std.specs.Allocator.{block_if_ok}
use Rattle.refusing_alloc.proofs.plan.Plan.refuses.Met as refuses
use Rattle.refusing_alloc.proofs.Steps.{Item, true, false, agg, lit, returns, returns_within, look_at, free_all, Answer-typed, Answer, result_own, use0, nothing, fjoin, join, done, Bool, bool, Sq, prop, suffices, ends_at, result_of, answer_val, token, fsplit, keep, enter, alloc_all, pass_all, sets, addr, through, fld, stop, use1, use2, calls_at, framed, and_then, get, no_more, later, some, await, pick, feq_l, lands_as, only, ap, first, branches, skips, exec, env, at_ret, [], ◌∷◌, Al, Args, a_type, dnil, dcons, w64, ◌≡◌, ◌⊑◌, ⊑_trans, ℕ, refl, proved, capped, size, align, Fn, Slot, inst_fn, tables, fact, ‵, raw, ◌⊛◌, ◌$◌, ◌∵◌, !, qed, flft, ftrue, move, split, yes, shr_vals, uint_vals, uint_Tells, usize, RefOf, plain, owns, types_at, heard, Stays, walk_of, stay_dropped, Goes-dropped, bounded}
use Rattle.refusing_alloc.proofs.Fields.{Whole, inner_at, plan_at, fields}
use Rattle.refusing_alloc.proofs.Plans.{Asks, asked, goes_in, comes_out}
use Rattle.refusing_alloc.proofs.RefusingAllocator.allocate.Statement.{statement}
use Rattle.refusing_alloc.proofs.RefusingAllocator.allocate.Code as code
use Rattle.refusing_alloc.specs.contracts.RefusingAllocator.allocate as f

pub allocate_spec : {M : Type 1} → statement M
allocate_spec 𝓤 𝓛 𝓜 𝓡 wired A laws ghosts table drops met _ =
    let Z : Al = record { row = A; laws = laws; g = ghosts; d = table; drops = drops } in
    let type_args : Args = bounded (a_type ∷ []) (A, tt) (dcons table (dcons drops dnil)) in
    let here : Fn = inst_fn type_args code.function in
    let self : Slot 2 = RefOf (0 ∷ []) tt (plain (λ κs. Whole Z)) (λ κs. tt) in
    let number : Slot 2 = plain (λ κs. usize) in
    let ended = f.ended A ghosts table drops in
    let stayed : Stays ended.signature.params ended.kept = (stay_dropped self yes, (stay_dropped number yes, (stay_dropped number yes, tt))) in
    let number_goes = Goes-dropped 𝓛 2 number yes (λ κs x w. refl) in
    let c = f.clauses A ghosts table drops 𝓛 𝓜.mem 𝓡.returns in
    let W = walk_of 𝓛 ended stayed c in
    let 𝓣 = tables 𝓤 𝓛.H 𝓜 𝓡 𝓡.env in
    proved 𝓛 ended stayed c 𝓜 𝓡 (Goes-dropped 𝓛 2 self yes (λ κs x w. refl), (number_goes, (number_goes, tt)))
    (f.Key.name type_args) here (code.unfolded 𝓤 𝓛.H 𝓜 𝓡 wired (A, tt) table drops)
    (λ κs. (shr_vals, (uint_vals w64, (uint_vals w64, tt)))) (λ κs. ((λ r vs is. is.0), (uint_Tells w64, (uint_Tells w64, tt))))
    (λ κs qs bounds a τ are.
    let κ = κs.0 in let q = qs.0 in let r = a.0 in let bytes : ℕ = a.1.0 in let to : ℕ = a.1.1.0 in
    let y : W.Ghost = ((κs, qs, bounds, a, (shr_vals r, (uint_vals w64 bytes, (uint_vals w64 to, tt)))), τ) in
    let Laid : Type 0 = (capped (size τ) ≡ bytes) × (capped (align τ) ≡ to) in
    let h = r.now.inner in
    let lent : Item 𝓤 = ‵ (flft κs.1.0 qs.1.0) ⊛ ‵ ftrue in
    let z : (Asks bool 𝓛).Ghost = asked bool 𝓛 κ q (plan_at Z r.ref_ptr) r.now.plan in
    let Inner = Takes Z 𝓛 𝓜.mem 𝓡.returns in
    let w : Inner.Ghost = at_takes Z 𝓛 𝓜.mem 𝓡.returns κ q (inner_at Z r.ref_ptr) h bytes to τ in
    let out : (ok : Bool) (b o : ℕ) → Sq 𝓛 (‵ (block_if_ok (token Z h) τ (result_of ok b o)) ∷ ‵ (flft κ q) ∷ lent ∷ []) (prop (W.post y (answer_val ok b o))) = λ ok b o.
    suffices ! _ (ends_at 𝓛 ended stayed c y (answer_val ok b o) (result_of ok b o) (tt, (tt, (tt, tt))) (tt, (tt, (tt, tt)))) $
    use0 𝓛 (‵ (Answer.own_val (result_of ok b o) (answer_val ok b o ∷ []))) (result_own 𝓛 ok b o) $
    nothing ! $ nothing ! $ fjoin ! $ nothing ! $ fjoin ! $ nothing ! $ fjoin ! $ join ! $ move ! (2 ∷ 3 ∷ []) $ join ! $ join ! $ done ! in
    qed 𝓛 (((‵ (flft κ q) ⊛ lent) ⊛ ‵ (owns (types_at ended.signature.params κs) a y.0.4)) ∷ (raw (fact 𝓤 (κs.1.0 ⊑ A.lives)) ⊛ raw (fact 𝓤 Laid)) ∷ []) ∵
    move ! (1 ∷ []) $ split ! $ heard ! _ (λ within. heard ! Laid (λ laid.
    split ! $ split ! $ move ! (2 ∷ []) $ fsplit ! $ fsplit ! $ keep ! (1 ∷ 3 ∷ 4 ∷ []) $ fields Z ! κ r.now r.ref_ptr $ move ! (0 ∷ 2 ∷ []) $
    -- [a `&` to the plan; κ's token; a `&` to the inner allocator; the other token]
    enter ! 𝓣.C 𝓣.Λ here _ _ $ alloc_all ! (λ l. pass_all ! refl ((tt, tt), ((tt, record { fits = are.1.0.1 }), ((tt, record { fits = are.1.1.0.1 }), tt))) $
    sets ! (addr ! (through ! refl (fld ! refl (stop !)))) refl (tt, tt) $
    use2 𝓛 (raw ((Asks bool 𝓛).pre z)) (goes_in bool 𝓛 κ q (plan_at Z r.ref_ptr) r.now.plan) $
    calls_at ! (framed 𝓤 𝓛.H 𝓜 𝓣) (Asks bool 𝓛) (refuses.met 𝓤 𝓛 𝓜 𝓡 (code.calls-refusing_alloc::plan::Plan::refuses 𝓡.env wired)) z
    (and_then ! (get ! refl) (no_more !)) (λ v.
    use1 𝓛 (later (some (λ (no : Bool). ‵ (bool.own_val no (v ∷ [])) ⊛ ‵ (flft κ q)))) (comes_out bool 𝓛 κ q (plan_at Z r.ref_ptr) r.now.plan v) $
    await ! tt $ pick ! (λ no. split ! $ feq_l ! (λ is. lands_as ! (ap only is) refl (tt, tt) $
    first ! $ branches ! (get ! refl)
    (λ refused. sets ! (agg ! (no_more !)) refl (tt, tt) $
    sets ! (agg ! (and_then ! (lit ! tt) (and_then ! (get ! refl) (no_more !)))) refl (Answer-typed false 0 0) $
    returns_within ! (W.post y) refl (look_at ! 0 refl) $ free_all ! refl $ keep ! (0 ∷ 2 ∷ []) $ nothing ! $ out false 0 0)
    (λ passed. skips ! $ exec ! 𝓣.C 𝓣.Λ (env here.locals l) (after 3 here.body) (at_ret _ (W.post y)) $
    sets ! (addr ! (through ! refl (fld ! refl (stop !)))) refl (tt, tt) $ move ! (1 ∷ 0 ∷ []) $
    use2 𝓛 (raw (Inner.pre w)) (Takes-goes Z 𝓛 𝓜.mem 𝓡.returns κ q (inner_at Z r.ref_ptr) h (⊑_trans κ κs.1.0 A.lives bounds.0 within) bytes to τ laid.0 laid.1 are.1.0.1 are.1.1.0.1) $
    calls_at ! (framed 𝓤 𝓛.H 𝓜 𝓣) Inner (met.allocate drops) w (and_then ! (get ! refl) (and_then ! (get ! refl) (and_then ! (get ! refl) (no_more !)))) (λ u.
    use1 𝓛 (later (raw (Answered Z 𝓛 𝓜.mem 𝓡.returns h τ u) ⊛ ‵ (flft κ q))) (Takes-gives Z 𝓛 𝓜.mem 𝓡.returns κ q (inner_at Z r.ref_ptr) h bytes to τ u) $
    await ! tt $ split ! $ taken Z ! 𝓜.mem 𝓡.returns h τ u
    (λ b o e. fjoin ! $ lands_as ! e refl (Answer-typed true b o) $ returns ! (look_at ! 0 refl) $ free_all ! refl $ out true b o)
    (λ e. nothing ! $ lands_as ! e refl (Answer-typed false 0 0) $ returns ! (look_at ! 0 refl) $ free_all ! refl $ out false 0 0))))))))))
