use Rattle.std.proofs.Common.{◌∷◌, [], ◌++◌, false, ◌+◌, ◌-◌, refl, sym, ap, subst, arith, inl, inr, List, take}
use Rattle.dbus_types.specs.SignatureCodes.{IsTypeEnd}
use Rattle.arrayvec.specs.ArrayVec.{ArrayVec}
use Rattle.dbus_value_checker.specs.declared.values.ValueChecker.{ValueChecker}
use Rattle.dbus_value_checker.specs.declared.values.OpenContainer.{OpenContainer}
use Rattle.dbus_value_checker.specs.Denotations.{HasNotes, Wants}
use Rattle.dbus_value_checker.proofs.FrameLaws.{left_notes, left_wants}
use Rattle.dbus_value_checker.proofs.NextValues.{wants_doing}
use Rattle.dbus_value_checker.proofs.Notes.{part_noted, pushed_notes}
use Rattle.dbus_value_checker.proofs.values.ValueChecker.inside.Goals as goal

pub part-until-requires-clause-noted : goal.part-until-requires-clause-noted
part-until-requires-clause-noted c =
    let x = c.args.self.now in
    let f : OpenContainer = record {
      array = false;
      pos = c.args.pos + 1;
      stop = c.args.stop - 1;
      top = x.inner.top;
      end =
          x.inner.end;
      depth_left = c.args.depth_left;
    } in
    let z : ValueChecker = record x { offset = x.offset + c.args.n } in
    let frames = c.set_aside.new.self.frames in
    let all : ArrayVec OpenContainer = record { items = x.frames.items ++ x.inner ∷ [] } in
    let noted = part_noted x.text.items x.lengths.items c.args.pos c.args.stop (c.args.pos + 1) (c.args.stop - 1) c.requires.type_noted
    (omega arith) (omega arith) in
    let here : HasNotes (record z { inner = f; frames = frames }) = elim c.set_aside.ensures.aside [
      | inl e ↦ pushed_notes z (record z { inner = f; frames = frames }) f
          (record { bounds = refl; order = refl; end = refl; offset = refl; text = refl; lengths = refl; inner = refl; frames = e })
          c.requires.noted noted
      | inr e ↦ left_notes (record z { inner = f; frames = all }) frames x.inner
          (sym (ap (λ (l : List OpenContainer). l ++ x.inner ∷ []) e.2))
          (pushed_notes z (record z { inner = f; frames = all }) f
          (record { bounds = refl; order = refl; end = refl; offset = refl; text = refl; lengths = refl; inner = refl; frames = refl })
          c.requires.noted noted)
    ] in
    subst (λ (s : ValueChecker). HasNotes (record s { inner = f })) (sym c.set_aside.ensures.rest) here

pub returns-clause-opens : goal.returns-clause-opens
returns-clause-opens c = λ answer h.
    let x = c.args.self.now in
    let f : OpenContainer = record {
      array = false;
      pos = c.args.pos + 1;
      stop = c.args.stop - 1;
      top = x.inner.top;
      end =
          x.inner.end;
      depth_left = c.args.depth_left;
    } in
    let z : ValueChecker = record x { offset = x.offset + c.args.n } in
    let frames = c.set_aside.new.self.frames in
    let all : ArrayVec OpenContainer = record { items = x.frames.items ++ x.inner ∷ [] } in
    let q = c.part-until.result in
    let value = subst (λ (s : ValueChecker). IsTypeEnd (take f.stop s.text.items) f.pos q) c.set_aside.ensures.rest
    c.part-until.ensures.value in
    let moved : OpenContainer = record f { pos = q } in
    let here : Wants (record z { inner = moved; frames = frames }) f.pos q answer = elim c.set_aside.ensures.aside [
      | inl e ↦ h (record z { inner = f; frames = frames }) (record
          { bounds = refl; order = refl; end = refl; offset = refl; text = refl; lengths = refl; inner = refl; frames = e }) q value
      | inr e ↦ left_wants (record z { inner = moved; frames = all }) frames x.inner f.pos q answer
          (sym (ap (λ (l : List OpenContainer). l ++ x.inner ∷ []) e.2)) e.0 e.1
          (h (record z { inner = f; frames = all }) (record {
            bounds = refl;
            order = refl;
            end = refl;
            offset = refl;
            text = refl;
            lengths =
                refl;
            inner = refl;
            frames = refl;
          }) q value)
    ] in
    wants_doing c.part-until.new.self f.pos q f.pos q answer
    (subst (λ (p : ValueChecker). Wants p f.pos q answer) (sym c.part-until.ensures.moved)
    (subst (λ (s : ValueChecker). Wants (record s { inner = moved }) f.pos q answer) (sym c.set_aside.ensures.rest) here))
