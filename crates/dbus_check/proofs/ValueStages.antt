-- The stages of values, a field's and the body's, by what a run makes of them.
use Rattle.std.proofs.Common.{◌≡◌, ℕ, ◌+◌, ◌-◌, ◌<◌, ◌≤◌, ◌⊎◌, List, [], ◌∷◌, ◌++◌, length, take, drop, Ok, Err, refl, sym, ap, subst, ◌∙◌, arith, inl, inr, append_assoc}
use Rattle.std.proofs.lemmas.List.{append-nil, take_all, take-append-le, length-append, length-take}
use Rattle.std.proofs.lemmas.Bool.{lt-ltb, le-ltb, eq-eqb}
use Rattle.dbus_texts.specs.Kinds.{IsKind}
use Rattle.dbus_texts.specs.declared.text_kind.TextKind.TheVariants as kinds
use Rattle.dbus_value_model.specs.WantedTexts.{Of}
use Rattle.dbus_value_model.specs.ByteNumbers.{IsBytes}
use Rattle.dbus_value_model.specs.Items.{fault}
use Rattle.dbus_value_model.specs.declared.fault.Fault.{Fault}
use Rattle.dbus_value_model.specs.declared.fault.Reason.TheVariants as reasons
use Rattle.dbus_value_model.specs.Reading.{Reader, Outcome, Done, Faulty, Partial, after, ends}
use Rattle.dbus_value_checker.specs.Suspended.{On, onward, done, ended_text}
use Rattle.dbus_value_checker.specs.Denotations.{Answer, after_piece}
use Rattle.dbus_value_checker.specs.declared.values.Doing.{Doing}
use Rattle.dbus_value_checker.specs.declared.values.Doing.TheVariants as doing
use Rattle.dbus_value_checker.proofs.Calls.{denotes_same, over_last}
use Rattle.dbus_value_laws.proofs.Agreement.{after_done}
use Rattle.dbus_check.proofs.PassedFields.{not_before}
use Rattle.dbus_check.proofs.Texts.{after_refused, after_partial, ended_is, ended_waits}
use Rattle.dbus_value_checker.specs.Moves.{IsLive, offset_of}
use Rattle.dbus_value_checker.specs.declared.values.ValueChecker.{ValueChecker}
use Rattle.dbus_check.specs.Heading.{fields_on}
use Rattle.dbus_check.specs.Progress.{To, WantsFields, WantsMore, WantsTypes, WantsBody, after_bytes}
use Rattle.dbus_check.specs.declared.progress.Progress.{Progress}
use Rattle.dbus_check.specs.declared.progress.Stage.TheVariants as stage
use Rattle.dbus_check.specs.Progress as progress
use Rattle.dbus_check.specs.declared.progress.Stage.{Stage}
use Rattle.dbus_value_checker.proofs.Suspension.{split-at}
use Rattle.dbus_check.proofs.Stages.{Ran, flows_refused, flows_there, flows_wait, flows_on, flows_over}

-- ---- a field's value

module _ (x : Progress) (to : To) (w : WantsMore x to) where
  abbrev last : On
  last = fields_on x.limits x.order x.kind x.body w.turns x.end w.kept

  -- it is over
  more_over : (IsLive x.values.doing → ⊥) → (o : ℕ) → o ≡ offset_of x.values → WantsFields (record x { offset = o; stage = stage.Fields }) to
  more_over over o is =
      let u = flows_over x.end last to x.values w.flows over in
      let place = u.0 in
      let low = u.1 in
      let turns = w.turns_is in
      record {
        kept = w.kept;
        turns = w.turns;
        keeps = assumption w.keeps;
        low = omega (arith, is, low);
        turns_is = omega (arith, is, place, turns);
        near = w.near;
        same = λ c. ap (λ (p : ℕ). last p c) is ∙ u.2 c;
      }

module _ (x : Progress) (to : To) (w : WantsMore x to) (v : ValueChecker) (s : List ℕ) where
  abbrev after_it : On
  after_it = fields_on x.limits x.order x.kind x.body w.turns x.end w.kept

  pub more_refused : (f : Fault) → Ran x.values s (Err f) v → (c : List ℕ) → to (s ++ c) ≡ Faulty f
  more_refused f runs c = flows_refused x.end after_it to x.values w.flows v s f runs c

  module _ (n : ℕ) (are : IsBytes s) (runs : Ran x.values s (Ok n) v) where
    more_goes : WantsMore (record x { values = v }) (after_bytes to (take n s))
    more_goes = record {
      kept = w.kept;
      turns = w.turns;
      keeps = assumption w.keeps;
      flows = flows_on x.end after_it to x.values w.flows v s n runs are;
      turns_is = w.turns_is;
      near = w.near;
    }

    abbrev there : n ≤ length s
    there = flows_there x.end after_it to x.values w.flows v s n runs

    pub more_on : x.stage ≡ stage.Value → (n ≤ length s) × progress.Denotes (record x { values = v }) (after_bytes to (take n s))
    more_on at = (there, subst (λ (st : Stage). progress.denotes st (record x { values = v }) (after_bytes to (take n s))) (sym at) more_goes)

    pub more_waits : IsLive v.doing → to s ≡ Partial
    more_waits live = flows_wait x.end after_it to x.values w.flows v s n runs live

    -- no byte was taken
    pub more_still : x.stage ≡ stage.Value → n ≡ 0 → IsLive v.doing → progress.Denotes (record x { values = v }) to × (to s ≡ Partial)
    more_still at none live = (subst (λ (k : ℕ). progress.Denotes (record x { values = v }) (after_bytes to (take k s))) none (more_on at).1, more_waits live)

    -- they are over
    pub more_ended : (IsLive v.doing → ⊥) → (o : ℕ) → o ≡ offset_of v → (n ≤ length s) × WantsFields (record x { values = v; offset = o; stage = stage.Fields }) (after_bytes to (take n s))
    more_ended over o is = (there, more_over (record x { values = v }) (after_bytes to (take n s)) more_goes over o is)

-- ---- the body's signature

values_live_or_not : (d : Doing) → IsLive d ⊎ (IsLive d → ⊥)
values_live_or_not (doing.Wanted pos stop) = inl tt
values_live_or_not (doing.Text kind left) = inl tt
values_live_or_not (doing.Numbers left) = inl tt
values_live_or_not doing.Nul = inl tt
values_live_or_not doing.Over = inr (λ h. h)

module _ (x : Progress) (to : To) (w : WantsTypes x to) (v : ValueChecker) (s : List ℕ) where
  abbrev signed : Reader (List ℕ)
  signed = ended_text (Of kinds.Signature) w.size

  abbrev answer : On → Answer
  answer next = record { last = next; to = λ c. onward signed next w.start (x.signature.items ++ c) }

  abbrev with_it : List ℕ → On
  with_it t = fields_on x.limits x.order x.kind x.body w.turns x.end (record { codes = 8 ∷ w.kept.codes; text = t; count = w.kept.count })

  pub types_refused : (f : Fault) → Ran x.values s (Err f) v → (c : List ℕ) → to (s ++ c) ≡ Faulty f
  types_refused f runs c = sym (w.same (s ++ c)) ∙ ap (λ (r : Outcome (List ℕ)). after r with_it) (after_refused (signed w.start (x.signature.items ++ (s ++ c))) f (runs (answer done) (w.value done) c))

  module _ (n : ℕ) (runs : Ran x.values s (Ok n) v) where
    abbrev given : List ℕ
    given = x.signature.items ++ take n s

    abbrev are_there : n ≤ length s
    are_there = (runs (answer done) (w.value done)).0

    joined : (c : List ℕ) → x.signature.items ++ (take n s ++ c) ≡ given ++ c
    joined c = sym (append_assoc x.signature.items (take n s) c)

    -- all of it are there, and the zero
    module _ (over : IsLive v.doing → ⊥) where
      law : (c : List ℕ) → Done tt (offset_of v) c ≡ onward signed done w.start (given ++ c)
      law c = over_last v (after_piece (answer done) (take n s)) (runs (answer done) (w.value done)).1 over c ∙ ap (onward signed done w.start) (joined c)

      signed_is : (c : List ℕ) → (t : List ℕ) × (signed w.start (given ++ c) ≡ Done t (offset_of v) c)
      signed_is c =
          let d = after_done (signed w.start (given ++ c)) (λ x. done) tt (offset_of v) c (sym (law c)) in
          let last = d.4 in
          let place : d.1 ≡ offset_of v = cc in
          let rest : d.2 ≡ c = cc in
          (d.0, d.3 ∙ ap (λ (q : ℕ). Done d.0 q d.2) place ∙ ap (Done d.0 (offset_of v)) rest)

      abbrev found : List ℕ
      found = (signed_is []).0

      whole : (found ≡ take w.size (given ++ [])) × IsKind kinds.Signature found × (given ++ [] ≡ found ++ 0 ∷ []) × (length found ≡ w.size) × (offset_of v ≡ w.start + w.size + 1)
      whole = ended_is (Of kinds.Signature) w.size w.start (given ++ []) found (offset_of v) [] (signed_is []).1

      given_is : given ≡ found ++ 0 ∷ []
      given_is = sym (append-nil given) ∙ whole.2

      goes_on : (c : List ℕ) → with_it found (offset_of v) c ≡ to (take n s ++ c)
      goes_on c =
          let h = signed_is c in
          let l = whole.3 in
          let g = ap length given_is ∙ length-append found (0 ∷ []) in
          let same : h.0 ≡ found =
          (ended_is (Of kinds.Signature) w.size w.start (given ++ c) h.0 (offset_of v) c h.1).0 ∙ take-append-le w.size given c (omega (arith, l, g))
          ∙ sym (take-append-le w.size given [] (omega (arith, l, g))) ∙ sym whole.0 in
          ap (λ (t : List ℕ). with_it t (offset_of v) c) (sym same) ∙ ap (λ (r : Outcome (List ℕ)). after r with_it) (sym h.1)
          ∙ ap (λ (u : List ℕ). after (signed w.start u) with_it) (sym (joined c)) ∙ w.same (take n s ++ c)

      pub types_ended : (y : Progress) (held : List ℕ) → y ≡ record x { values = v; signature = y.signature; offset = offset_of v; stage = stage.Fields } → held ≡ given → y.signature.items ≡ take (length held - 1) held → (n ≤ length s) × WantsFields y (after_bytes to (take n s))
      types_ended y held is held_is popped =
          let l = whole.3 in
          let g = ap length given_is ∙ length-append found (0 ∷ []) in
          let k = ap length held_is in
          let place = whole.4 in
          let fits = w.fits in
          let turns = w.turns_is in
          let text : y.signature.items ≡ found =
          popped ∙ ap (λ (i : ℕ). take i held) (let e : length held - 1 ≡ length found = omega (arith, g, k) in e) ∙ ap (take (length found)) (held_is ∙ given_is)
          ∙ take-append-le (length found) found (0 ∷ []) (omega arith) ∙ take_all (length found) found (omega arith) in
          let z : Progress = record x { values = v; signature = y.signature; offset = offset_of v; stage = stage.Fields } in
          let here : WantsFields z (after_bytes to (take n s)) = record {
            kept = record { codes = 8 ∷ w.kept.codes; text = found; count = w.kept.count };
            turns = w.turns;
            keeps = record {
              sees = w.sees;
              text = text;
              signature = whole.1;
              count = w.count;
              no_text = λ h. absurd ((not_before 8 8 w.kept.codes h).1 refl);
              no_count = λ h. w.no_count (not_before 9 8 w.kept.codes h).0;
            };
            low = omega (arith, place, fits);
            turns_is = omega (arith, place, turns);
            near = w.near;
            same = λ c. goes_on c;
          } in
          (are_there, subst (λ (p : Progress). WantsFields p (after_bytes to (take n s))) (sym is) here)

    -- more of it is wanted
    module _ (live : IsLive v.doing) where
      waits : signed w.start (x.signature.items ++ s) ≡ Partial
      waits = after_partial (signed w.start (x.signature.items ++ s)) ((runs (answer done) (w.value done)).2 live)

      pub types_wait : to s ≡ Partial
      types_wait = sym (w.same s) ∙ ap (λ (r : Outcome (List ℕ)). after r with_it) waits

    -- there is room for what was taken
    pub types_room : length x.signature.items + length (take n s) ≤ 256
    types_room =
        let f = w.few in
        let t = length-take n s in
        let g = length-append x.signature.items (take n s) in
        elim (values_live_or_not v.doing) [
          | inl live ↦ let a = ended_waits (Of kinds.Signature) w.size w.start (x.signature.items ++ s) (waits live) in let b = length-append x.signature.items s in omega (arith, a, b, t, f)
          | inr over ↦ let a = (whole over).3 in let b = ap length (given_is over) ∙ length-append (found over) (0 ∷ []) in omega (arith, a, b, g, f)
        ]

    types_go : (y : Progress) → y ≡ record x { values = v; signature = y.signature } → y.signature.items ≡ given → WantsTypes y (after_bytes to (take n s))
    types_go y is noted =
        let z : Progress = record x { values = v; signature = y.signature } in
        let here : WantsTypes z (after_bytes to (take n s)) = record {
          kept = w.kept;
          turns = w.turns;
          size = w.size;
          start = w.start;
          sees = w.sees;
          count = w.count;
          no_count = w.no_count;
          few = w.few;
          fits = w.fits;
          turns_is = w.turns_is;
          near = w.near;
          same = λ c. ap (λ (u : List ℕ). after (signed w.start (u ++ c)) with_it) noted ∙ ap (λ (u : List ℕ). after (signed w.start u) with_it) (sym (joined c)) ∙ w.same (take n s ++ c);
          value = λ next. denotes_same v next (λ c. onward signed next w.start (x.signature.items ++ (take n s ++ c))) (λ c. onward signed next w.start (y.signature.items ++ c))
              (λ c. ap (onward signed next w.start) (joined c) ∙ ap (λ (u : List ℕ). onward signed next w.start (u ++ c)) (sym noted)) (runs (answer next) (w.value next)).1;
        } in
        subst (λ (p : Progress). WantsTypes p (after_bytes to (take n s))) (sym is) here

    pub types_on : (y : Progress) → y ≡ record x { values = v; signature = y.signature } → y.signature.items ≡ given → x.stage ≡ stage.Types → (n ≤ length s) × progress.Denotes y (after_bytes to (take n s))
    types_on y is noted at =
        let same : y.stage ≡ stage.Types = ap (λ (p : Progress). p.stage) is ∙ at in
        (are_there, subst (λ (st : Stage). progress.denotes st y (after_bytes to (take n s))) (sym same) (types_go y is noted))

    -- no byte was taken
    pub types_still : (y : Progress) → y ≡ record x { values = v; signature = y.signature } → y.signature.items ≡ given → x.stage ≡ stage.Types → n ≡ 0 → IsLive v.doing → progress.Denotes y to × (to s ≡ Partial)
    types_still y is noted at none live = (subst (λ (k : ℕ). progress.Denotes y (after_bytes to (take k s))) none (types_on y is noted at).1, types_wait live)

-- ---- the body

ends_short : (end o : ℕ) (s : List ℕ) → o < end → ends end o s ≡ Faulty (fault o reasons.Trailing)
unfolding ends
ends_short end o s lt = rw (lt-ltb o end lt) refl

ends_there : (end o : ℕ) (s : List ℕ) → o ≡ end → ends end o s ≡ Done tt o s
unfolding ends
ends_there end o s e = let le : end ≤ o = omega (arith, e) in rw (le-ltb _ _ le, eq-eqb o end e) refl

module _ (x : Progress) (to : To) (w : WantsBody x to) (over : IsLive x.values.doing → ⊥) (o : ℕ) (is : o ≡ offset_of x.values) where
  abbrev under_it : (w.flows.start ≤ offset_of x.values) × (offset_of x.values ≤ x.end) × ((c : List ℕ) → onward (ends x.end) done (offset_of x.values) c ≡ to c)
  under_it = flows_over x.end (onward (ends x.end) done) to x.values w.flows over

  -- more bytes stand in the body than its values have
  body_trailing : o < x.end → (c : List ℕ) → to c ≡ Faulty (fault o reasons.Trailing)
  body_trailing lt c =
      sym (under_it.2 c) ∙ ap (λ (p : ℕ). onward (ends x.end) done p c) (sym is)
      ∙ ap (λ (r : Outcome (Unit {0})). after r (λ _. done)) (ends_short x.end o c lt)

  -- it is over
  body_over : x.end ≤ o → (c : List ℕ) → to c ≡ Done tt x.end c
  body_over le c =
      let low = under_it.1 in
      let there : offset_of x.values ≡ x.end = omega (arith, is, le, low) in
      sym (under_it.2 c)
      ∙ ap (λ (r : Outcome (Unit {0})). after r (λ _. done)) (ends_there x.end (offset_of x.values) c there)
      ∙ ap (λ (p : ℕ). Done tt p c) there

module _ (x : Progress) (to : To) (w : WantsBody x to) (v : ValueChecker) (s : List ℕ) where
  abbrev ended : On
  ended = onward (ends x.end) done

  pub body_refused : (f : Fault) → Ran x.values s (Err f) v → (c : List ℕ) → to (s ++ c) ≡ Faulty f
  body_refused f runs c = flows_refused x.end ended to x.values w.flows v s f runs c

  module _ (n : ℕ) (are : IsBytes s) (runs : Ran x.values s (Ok n) v) where
    body_goes : WantsBody (record x { values = v }) (after_bytes to (take n s))
    body_goes = record { flows = flows_on x.end ended to x.values w.flows v s n runs are }

    abbrev inside : n ≤ length s
    inside = flows_there x.end ended to x.values w.flows v s n runs

    pub body_on : x.stage ≡ stage.Body → (n ≤ length s) × progress.Denotes (record x { values = v }) (after_bytes to (take n s))
    body_on at = (inside, subst (λ (st : Stage). progress.denotes st (record x { values = v }) (after_bytes to (take n s))) (sym at) body_goes)

    pub body_waits : IsLive v.doing → to s ≡ Partial
    body_waits live = flows_wait x.end ended to x.values w.flows v s n runs live

    -- no byte was taken
    pub body_still : x.stage ≡ stage.Body → n ≡ 0 → IsLive v.doing → progress.Denotes (record x { values = v }) to × (to s ≡ Partial)
    body_still at none live = (subst (λ (k : ℕ). progress.Denotes (record x { values = v }) (after_bytes to (take k s))) none (body_on at).1, body_waits live)

    -- they are over
    module _ (over : IsLive v.doing → ⊥) (o : ℕ) (is : o ≡ offset_of v) where
      pub body_left : o < x.end → (t : List ℕ) → to (s ++ t) ≡ Faulty (fault o reasons.Trailing)
      body_left lt t = ap to (split-at n s t) ∙ body_trailing (record x { values = v }) (after_bytes to (take n s)) body_goes over o is lt (drop n s ++ t)

      pub body_ended : x.end ≤ o → (n ≤ length s) × ((c : List ℕ) → after_bytes to (take n s) c ≡ Done tt x.end c)
      body_ended le = (inside, body_over (record x { values = v }) (after_bytes to (take n s)) body_goes over o is le)
