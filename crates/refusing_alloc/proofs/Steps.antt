-- The names that the walks of this crate cite.
pub use Rattle.std.proofs.Common.{◌≡◌, ℕ, ◌+◌, Bool, true, false, List, [], ◌∷◌, refl, ap, w64}
pub use Rattle.std.proofs.raw_atomic.Walks.{proved}
pub use Rattle.std.proofs.alloc.Calls.{Al, α, seen, token, Answer, answer_val, Answer-typed}
pub use Rattle.std.proofs.alloc.Resizes.{result_of, result_own}
pub use seplogic.Ra.Ura.{Ura}
pub use base.Logic.{ent, sep, ex, emp, id⊢}
pub use base.Fml.{Fml, Lft, Share, ftrue, fsep, flft}
pub use mir.Syntax.{Args, Fn, a_type, dnil, dcons}
pub use mir.Val.{Val, vunit, vint, vptr}
pub use mir.MapTy.{inst_fn}
pub use prog.Memory.{size, align, capped, up}
pub use prog.Wp.{WpFn}
pub use contract.BorrowLft.{◌⊑◌, ⊑_trans}
pub use contract.Monad.{fact}
pub use contract.Running.{tables}
pub use types.Logic.{Logic, sem}
pub use types.Kit.{Goal, Step, step, Item, ‵, raw, ◌⊛◌, some, later, given, prop, at_ret, Sq, ◌$◌, ◌∵◌, !, qed, done, move, keep, drop, use0, use1, use2, split, split3, join, fsplit, fjoin, feq_i, feq_l, pick, learn, show, await, updating, now as at_once, suffices}
pub use types.Run.{enter, of_opd, lit, unit_lit, addr, stop, fld, no_more, and_then, first, branches, skips, exec, returns, returns_within}
pub use types.ByLocal.{alloc_all, pass_all, free_all, look_at, get, through, sets, lands_as, env}
pub use types.Part.{agg}
pub use denote.Builtin.{usize, bool, unit, RefOf}
pub use denote.Exit.{yes}
pub use denote.Memory.{hidden_shr}
pub use denote.Opens.{unhide}
pub use denote.Param.{bounded, param}
pub use denote.Plain.{uint_vals, uint_Tells}
pub use denote.RattleType.{RattleType, owns}
pub use denote.RawPtr.{Ptr, RawPtr, block_ptr, null_ptr, ptr_val, rawptr_vals, rawptr_Tells}
pub use denote.Ref.{shr_vals}
pub use denote.Signature.{Slot, plain, types_at}
pub use denote.Steps.{heard, nothing, only}
pub use denote.Triple.Call.{calls_at}
pub use denote.Triple.Spec.{triple_of}
pub use denote.Triple.Statement.{Contract}
pub use denote.Triple.Table.{framed}
pub use denote.Triple.Walked.{Stays, walk_of, stay_dropped, Goes-dropped, ends_at}
