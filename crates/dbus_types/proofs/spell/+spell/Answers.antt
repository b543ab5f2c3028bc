use Rattle.std.proofs.Common.{◌≡◌, string_bytes, [], ◌∷◌, ◌++◌, ap, subst, ◌∙◌, append_assoc, append-nil}
use Rattle.std.proofs.lemmas.Result.{on_ok_weaker, on_err_weaker}
use Rattle.dbus_types.specs.SigTypes.{type_trees_of, type_tree}
use Rattle.dbus_texts.specs.Types.{sigs, sig}
use Rattle.dbus_types.specs.Parses.{AppendsPrefix}
use Rattle.dbus_types.proofs.TypeEnds.{type_tree-Array, type_tree-Struct, type_tree-Entry}
use Rattle.dbus_types.proofs.PrefixSteps.{on_err, front_within, none_of, texts_front}
use Rattle.dbus_types.proofs.Parsing.{one_text_more}
use Rattle.dbus_types.proofs.spell.+spell.Goals as goal

pub push_type-returns-in_ok-push_code-in-Array-clause-written : goal.push_type-returns-in_ok-push_code-in-Array-clause-written
push_type-returns-in_ok-push_code-in-Array-clause-written g t c =
    let whole : string_bytes c.push_code.new.out ++ sig (type_tree c.deref.result.now) ≡ string_bytes c.args.out.now ++ sig (type_tree c.args.ty.now) =
    simp (c.in_ok-push_code-in-Array.ensures.written, c.deref.ensures, c.in-Array.is, type_tree-Array, append_assoc) in
    on_ok_weaker c.push_type.result (λ e. e ∙ whole) c.push_type.ensures.written

pub push_type-returns-in_ok-push_types-in-Struct-clause-written : goal.push_type-returns-in_ok-push_types-in-Struct-clause-written
push_type-returns-in_ok-push_types-in-Struct-clause-written g t c =
    let whole : string_bytes c.push_types.new.out ++ 41 ∷ [] ≡ string_bytes c.args.out.now ++ sig (type_tree c.args.ty.now) =
    simp (c.in_ok-push_types-in-Struct.ensures.written, c.in_ok-push_code-in-Struct.ensures.written, c.as_slice.ensures.value, c.deref-in-Struct.ensures, c.in-Struct.is, type_tree-Struct, append_assoc) in
    on_ok_weaker c.push_code-in-Struct-2.result (λ e. e ∙ whole) c.push_code-in-Struct-2.ensures.written

pub push_type-returns-in_ok-push_type-in-Entry-2-clause-written : goal.push_type-returns-in_ok-push_type-in-Entry-2-clause-written
push_type-returns-in_ok-push_type-in-Entry-2-clause-written g t c =
    let whole : string_bytes c.push_type-in-Entry-2.new.out ++ 125 ∷ [] ≡ string_bytes c.args.out.now ++ sig (type_tree c.args.ty.now) =
    simp (c.in_ok-push_type-in-Entry-2.ensures.written, c.in_ok-push_type-in-Entry.ensures.written, c.in_ok-push_code-in-Entry.ensures.written, c.deref-in-Entry.ensures, c.deref-in-Entry-2.ensures, c.in-Entry.is, type_tree-Entry, append_assoc) in
    on_ok_weaker c.push_code-in-Entry-2.result (λ e. e ∙ whole) c.push_code-in-Entry-2.ensures.written

pub push_types-loop-ty-preserved : goal.push_types-loop-ty-preserved
push_types-loop-ty-preserved g t c =
    one_text_more c.args.types.now c.loop-ty.ty-index c.ty-item.result (string_bytes c.args.out.now) (string_bytes c.loop-ty.out) (string_bytes c.push_type.new.out) c.loop-ty-test.true c.loop-ty.invariant (c.in_ok-push_type.ensures.written ∙ ap (λ x. string_bytes c.loop-ty.out ++ sig (type_tree x)) c.ty-item.is)

-- what stands before the part that was not appended whole, and what comes after that part
pub push_type-returns-in_ok-push_code-in-Array-clause-prefix : goal.push_type-returns-in_ok-push_code-in-Array-clause-prefix
push_type-returns-in_ok-push_code-in-Array-clause-prefix g t c =
    on_err_weaker c.push_type.result (λ h. front_within (97 ∷ []) [] c.in_ok-push_code-in-Array.ensures.written (simp (c.in-Array.is, type_tree-Array, c.deref.ensures, append-nil)) h) c.push_type.ensures.prefix

pub push_type-returns-in_ok-push_types-in-Struct-clause-prefix : goal.push_type-returns-in_ok-push_types-in-Struct-clause-prefix
push_type-returns-in_ok-push_types-in-Struct-clause-prefix g t c =
    on_err_weaker c.push_code-in-Struct-2.result (λ e. front_within (40 ∷ sigs (type_trees_of c.in-Struct.fields.value.items)) []
    (simp (c.in_ok-push_types-in-Struct.ensures.written, c.in_ok-push_code-in-Struct.ensures.written, c.as_slice.ensures.value, c.deref-in-Struct.ensures, append_assoc)) (simp (c.in-Struct.is, type_tree-Struct)) (none_of (41 ∷ []) e)) c.push_code-in-Struct-2.ensures.unchanged

pub push_type-returns-in_err-push_type-in-Entry-2-clause-prefix : goal.push_type-returns-in_err-push_type-in-Entry-2-clause-prefix
push_type-returns-in_err-push_type-in-Entry-2-clause-prefix g t c =
    on_err c.from_residual-in_err-push_type-in-Entry-2.result (front_within (123 ∷ sig (type_tree c.in-Entry.key.value)) (125 ∷ [])
    (simp (c.in_ok-push_type-in-Entry.ensures.written, c.in_ok-push_code-in-Entry.ensures.written, c.deref-in-Entry.ensures, append_assoc)) (simp (c.in-Entry.is, type_tree-Entry, c.deref-in-Entry-2.ensures)) c.in_err-push_type-in-Entry-2.ensures.prefix)

pub push_type-returns-in_ok-push_type-in-Entry-2-clause-prefix : goal.push_type-returns-in_ok-push_type-in-Entry-2-clause-prefix
push_type-returns-in_ok-push_type-in-Entry-2-clause-prefix g t c =
    on_err_weaker c.push_code-in-Entry-2.result (λ e. front_within (123 ∷ (sig (type_tree c.in-Entry.key.value) ++ sig (type_tree c.in-Entry.value.value))) []
    (simp (c.in_ok-push_type-in-Entry-2.ensures.written, c.in_ok-push_type-in-Entry.ensures.written, c.in_ok-push_code-in-Entry.ensures.written, c.deref-in-Entry.ensures, c.deref-in-Entry-2.ensures, append_assoc))
    (simp (c.in-Entry.is, type_tree-Entry, append_assoc)) (none_of (125 ∷ []) e)) c.push_code-in-Entry-2.ensures.unchanged

pub push_types-returns-in_err-push_type-clause-prefix : goal.push_types-returns-in_err-push_type-clause-prefix
push_types-returns-in_err-push_type-clause-prefix g t c =
    on_err c.from_residual.result (texts_front c.args.types.now c.loop-ty.ty-index c.ty-item.result (string_bytes c.args.out.now) (string_bytes c.loop-ty.out) (string_bytes c.push_type.new.out) c.loop-ty-test.true c.loop-ty.invariant
    (subst (λ x. AppendsPrefix (string_bytes c.loop-ty.out) (string_bytes c.push_type.new.out) (sig (type_tree x))) c.ty-item.is c.in_err-push_type.ensures.prefix))
