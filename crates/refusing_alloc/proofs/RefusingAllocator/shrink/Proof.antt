-- `shrink`: it answers what the inner allocator answers.
-- κ is the lifetime of `&self`, κT that of the items' type X, and h the inner allocator's value.
use denote.RawPtr.{in_a_block}
use types.Kit.{regoal, group}
use Rattle.std.specs.Allocator.{block_with_items}
use Rattle.std.proofs.alloc.Resizes.{Shrinks, Resizes, at_resizes, left_by, Resizes-goes, Resizes-gives, asked, heard_all}
use Rattle.refusing_alloc.proofs.Steps.{◌≡◌, Bool, Fml, Answer, Answer-typed, answer_val, result_of, result_own, split3, use0, ptr_val, null_ptr, block_ptr, Ptr, RawPtr, rawptr_vals, rawptr_Tells, vint, vptr, Val, WpFn, given, learn, returns, look_at, free_all, prop, suffices, ends_at, token, fsplit, keep, drop, enter, alloc_all, pass_all, sets, addr, through, fld, stop, use1, calls_at, framed, and_then, get, no_more, later, some, await, pick, lands_as, nothing, fjoin, join, done, List, [], ◌∷◌, Al, Args, a_type, dnil, dcons, w64, ◌⊑◌, ⊑_trans, ℕ, refl, proved, Fn, Slot, inst_fn, tables, ‵, raw, ◌⊛◌, ◌$◌, ◌∵◌, !, qed, flft, ftrue, move, split, yes, shr_vals, uint_vals, uint_Tells, usize, RefOf, plain, param, owns, types_at, Stays, walk_of, stay_dropped, Goes-dropped, bounded}
use Rattle.refusing_alloc.proofs.Fields.{Whole, inner_at, fields}
use Rattle.refusing_alloc.proofs.RefusingAllocator.shrink.Statement.{statement}
use Rattle.refusing_alloc.proofs.RefusingAllocator.shrink.Code as code
use Rattle.refusing_alloc.specs.contracts.RefusingAllocator.shrink as f

pub shrink_spec : {M : Type 1} → statement M
shrink_spec 𝓤 𝓛 𝓜 𝓡 wired A X laws item_laws ghosts table drops met _ =
    let Z : Al = record { row = A; laws = laws; g = ghosts; d = table; drops = drops } in
    let type_args : Args = bounded (a_type ∷ a_type ∷ []) (A, (X, tt)) (dcons table (dcons drops dnil)) in
    let here : Fn = inst_fn type_args code.function in
    let self : Slot 3 = RefOf (0 ∷ []) tt (plain (λ κs. Whole Z)) (λ κs. tt) in
    let pointer : Slot 3 = plain (λ κs. RawPtr) in
    let number : Slot 3 = plain (λ κs. usize) in
    let ended = f.ended A X ghosts table drops in
    let stayed : Stays ended.signature.params ended.kept = (stay_dropped self yes, (stay_dropped pointer yes, (stay_dropped number yes, (stay_dropped number yes, (stay_dropped number yes, tt))))) in
    let number_goes = Goes-dropped 𝓛 3 number yes (λ κs x w. refl) in
    let c = f.clauses A X ghosts table drops 𝓛 𝓜.mem 𝓡.returns in
    let W = walk_of 𝓛 ended stayed c in
    let 𝓣 = tables 𝓤 𝓛.H 𝓜 𝓡 𝓡.env in
    proved 𝓛 ended stayed c 𝓜 𝓡 (Goes-dropped 𝓛 3 self yes (λ κs x w. refl), (Goes-dropped 𝓛 3 pointer yes (λ κs x w. refl), (number_goes, (number_goes, (number_goes, tt)))))
    (f.Key.name type_args) here (code.unfolded 𝓤 𝓛.H 𝓜 𝓡 wired (A, (X, tt)) table drops)
    (λ κs. (shr_vals, (rawptr_vals, (uint_vals w64, (uint_vals w64, (uint_vals w64, tt)))))) (λ κs. ((λ r vs is. is.0), (rawptr_Tells, (uint_Tells w64, (uint_Tells w64, (uint_Tells w64, tt))))))
    (λ κs qs bounds a items are.
    let κ = κs.0 in let q = qs.0 in let κT = κs.1.1.0 in let qT = qs.1.1.0 in
    let r = a.0 in let len : ℕ = a.1.1.0 in let old : ℕ = a.1.1.1.0 in let new : ℕ = a.1.1.1.1.0 in
    let y : Ptr → W.Ghost = λ p. ((κs, qs, bounds, (r, (p, (len, (old, (new, tt))))), (shr_vals r, (rawptr_vals p, (uint_vals w64 len, (uint_vals w64 old, (uint_vals w64 new, tt)))))), items) in
    let values : Ptr → List Val = λ p. vptr r.ref_ptr.0 r.ref_ptr.1 ∷ ptr_val p ∷ vint w64 len ∷ vint w64 old ∷ vint w64 new ∷ [] in
    let h = r.now.inner in
    let block : Ptr → Fml = λ p. block_with_items (token Z h) (param 1 X) p len old items in
    let Inner = Resizes Z X (Shrinks X) 𝓛 𝓜.mem 𝓡.returns in
    qed 𝓛 (((‵ (flft κ q) ⊛ ‵ (flft κs.1.0 qs.1.0) ⊛ ‵ (flft κT qT) ⊛ ‵ ftrue) ⊛ ‵ (owns (types_at ended.signature.params κs) a (y a.1.0).0.4))
    ∷ raw (asked 𝓛 (κs.1.0 ⊑ A.lives) (κT ⊑ X.lives) (Shrinks X len old new) (block a.1.0)) ∷ []) ∵
    move ! (1 ∷ []) $ heard_all ! _ _ (Shrinks X len old new) (block a.1.0) (λ within items_within sizes.
    in_a_block ! a.1.0 block (qed 𝓛 (‵ (block null_ptr) ∷ []) ∵ fsplit ! $ keep ! (0 ∷ []) $ done !) (λ b o e.
    regoal ! (λ p. prop (WpFn 𝓤 𝓛.H 𝓣.C 𝓣.Λ here (values p) (W.post (y p)))) e refl $
    let w : Inner.Ghost = at_resizes Z X (Shrinks X) 𝓛 𝓜.mem 𝓡.returns κ κT q qT (inner_at Z r.ref_ptr) h b o len old new items in
    let left : Answer.Denot → Fml = left_by Z X (Shrinks X) 𝓛 𝓜.mem 𝓡.returns κ κT q qT (inner_at Z r.ref_ptr) h b o len old new items in
    move ! (1 ∷ []) $ split ! $ split ! $ move ! (1 ∷ []) $ split ! $ move ! (1 ∷ []) $ split ! $
    move ! (4 ∷ []) $ fsplit ! $ fsplit ! $ keep ! (1 ∷ 3 ∷ 4 ∷ 5 ∷ 6 ∷ 7 ∷ []) $ fields Z ! κ r.now r.ref_ptr $ drop ! $
    -- [a `&` to the inner allocator; the items' token; nothing; the inner allocator's token; κ's;
    -- the block]
    move ! (5 ∷ 0 ∷ 4 ∷ 1 ∷ []) $ group ! 4 $
    use1 𝓛 (raw (Inner.pre w))
    (Resizes-goes Z X (Shrinks X) 𝓛 𝓜.mem 𝓡.returns κ κT q qT (inner_at Z r.ref_ptr) h b o len old new items (⊑_trans κ κs.1.0 A.lives bounds.0 within) items_within sizes are.1.1.0.1 are.1.1.1.0.1 are.1.1.1.1.0.1) $
    enter ! 𝓣.C 𝓣.Λ here _ _ $
    alloc_all ! (λ l. pass_all ! refl ((tt, tt), ((tt, tt), ((tt, record { fits = are.1.1.0.1 }), ((tt, record { fits = are.1.1.1.0.1 }), ((tt, record { fits = are.1.1.1.1.0.1 }), tt))))) $
    sets ! (addr ! (through ! refl (fld ! refl (stop !)))) refl (tt, tt) $
    calls_at ! (framed 𝓤 𝓛.H 𝓜 𝓣) Inner (met.shrink drops X item_laws) w (and_then ! (get ! refl) (and_then ! (get ! refl) (and_then ! (get ! refl) (and_then ! (get ! refl) (and_then ! (get ! refl) (no_more !)))))) (λ v.
    use1 𝓛 (later (some (λ (x : Bool × (ℕ × ℕ)). given (v ≡ answer_val x.0 x.1.0 x.1.1) (‵ (left (result_of x.0 x.1.0 x.1.1)))) ⊛ ‵ (flft κ q) ⊛ ‵ (flft κT qT)))
    (Resizes-gives Z X (Shrinks X) 𝓛 𝓜.mem 𝓡.returns κ κT q qT (inner_at Z r.ref_ptr) h b o len old new items v) $ await ! tt $ split3 ! $ pick ! (λ x. learn ! (λ is.
    lands_as ! is refl (Answer-typed x.0 x.1.0 x.1.1) $ returns ! (look_at ! 0 refl) $ free_all ! refl $
    let result = result_of x.0 x.1.0 x.1.1 in let value = answer_val x.0 x.1.0 x.1.1 in
    suffices ! _ (ends_at 𝓛 ended stayed c (y (block_ptr b o)) value result (tt, (tt, (tt, (tt, (tt, tt))))) (tt, (tt, (tt, (tt, (tt, tt)))))) $
    use0 𝓛 (‵ (Answer.own_val result (value ∷ []))) (result_own 𝓛 x.0 x.1.0 x.1.1) $
    nothing ! $ nothing ! $ fjoin ! $ nothing ! $ fjoin ! $ nothing ! $ fjoin ! $ nothing ! $ fjoin ! $ nothing ! $ fjoin ! $ join ! $
    -- [the parameters and the result; the block; κ's token; the items'; nothing; the inner
    -- allocator's]
    move ! (2 ∷ 5 ∷ 3 ∷ 4 ∷ []) $ group ! 4 $ join ! $ done !)))))))
