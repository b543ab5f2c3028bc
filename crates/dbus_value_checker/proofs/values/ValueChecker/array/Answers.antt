use Rattle.std.proofs.Common.{◌-◌, length, arith, refl, ap}
use Rattle.dbus_value_checker.proofs.PaddedValues.{element_there, deep_array, array_stops, array_goes}
use Rattle.dbus_value_checker.proofs.values.ValueChecker.array.Goals as goal

pub returns-then-depth_left-eq0-clause-moves : goal.returns-then-depth_left-eq0-clause-moves
returns-then-depth_left-eq0-clause-moves c = λ answer r. rw c.refuse.ensures (λ s. deep_array c.args.self.now c.args.pos c.args.stop c.args.n answer r 97 c.requires.code refl c.if-depth_left-eq0.true _)

pub bounds-as_slice-pos : goal.bounds-as_slice-pos
bounds-as_slice-pos c =
    let e = element_there c.args.self.now c.args.pos c.args.stop c.args.n c.requires.valid.0 c.requires.valid.1 97 c.requires.code refl in
    let l = ap length c.as_slice.ensures.value in
    omega arith

pub next-requires : goal.next-requires
next-requires c =
    let a = c.args in let x = a.self.now in let m = c.in-Ok.ensures in
    record {
      valid = (
        _,
        array_goes x a.pos a.stop a.n c.requires.valid.0 c.requires.valid.1 97 c.requires.code refl (x.inner.depth_left - 1) (omega arith) c.as_slice.result.now c.as_slice.ensures.value a.bytes.now _ c.in-Ok.size c.in-Ok.taken m.gives m.moves.0 m.moves.2
            (record { bounds = refl; order = refl; end = refl; offset = refl; text = refl; lengths = refl; inner = refl; frames = c.push.ensures.items }),
      );
    }

pub returns-in-Ok-clause-moves : goal.returns-in-Ok-clause-moves
returns-in-Ok-clause-moves c = λ answer r.
    let a = c.args in let x = a.self.now in let m = c.in-Ok.ensures in (
      m.moves.1,
      c.next.ensures _ (array_goes x a.pos a.stop a.n answer r 97 c.requires.code refl (x.inner.depth_left - 1) (omega arith) c.as_slice.result.now c.as_slice.ensures.value a.bytes.now _ c.in-Ok.size c.in-Ok.taken m.gives m.moves.0 m.moves.2
          (record { bounds = refl; order = refl; end = refl; offset = refl; text = refl; lengths = refl; inner = refl; frames = c.push.ensures.items })),
    )

pub returns-in-Err-clause-moves : goal.returns-in-Err-clause-moves
returns-in-Err-clause-moves c = λ answer r.
    let a = c.args in let x = a.self.now in
    array_stops x a.pos a.stop a.n answer r 97 c.requires.code refl (x.inner.depth_left - 1) (omega arith) c.as_slice.result.now c.as_slice.ensures.value a.bytes.now c.in-Err.stop c.in-Err.ensures.gives
