-- A value whose padding is there.
use Rattle.std.proofs.Common.{◌≡◌, ℕ, suc, ◌+◌, ◌-◌, ◌*◌, ◌<◌, ◌≤◌, List, [], ◌∷◌, ◌++◌, length, reverse, take, get_or, true, false, Ok}
use Rattle.std.proofs.Common.{Err, refl, sym, ap, subst, ◌∙◌, arith, inl, inr, Result}
use Rattle.std.specs.Prelude.{◌⊎◌}
use Rattle.dbus_texts.specs.Types.{NumberCode, TextCode, STRING, OBJECT_PATH, SIGNATURE, TypeTree, NumberType, TextType, VariantType}
use Rattle.dbus_texts.specs.Types.{ArrayType, StructType, EntryType, TypeTrees, NoTypes, MoreTypes, number_code, text_code, sig, sigs}
use Rattle.dbus_texts.specs.Types.{IsShaped, AreShaped}
use Rattle.dbus_types.specs.Alignments.{width, length_width, alignment_of}
use Rattle.dbus_texts.specs.declared.scan.TextScan.{TextScan}
use Rattle.dbus_texts.specs.Scans.{Stands}
use Rattle.dbus_texts.specs.Scans as scans
use Rattle.dbus_value_model.specs.WantedTexts.{Of, kind_of}
use Rattle.dbus_value_model.specs.declared.fault.Reason.TheVariants as reasons
use Rattle.dbus_value_model.specs.declared.stop.Stop.{Stop}
use Rattle.dbus_value_model.specs.Items.{fault}
use Rattle.dbus_value_model.specs.ValueItems.{number_row, text_row}
use Rattle.dbus_value_model.specs.ValueReaders.{array_frame}
use Rattle.dbus_value_model.specs.Reading.{Reader, Done, Faulty, after, padding, number, text, nul, value}
use Rattle.arrayvec.specs.ArrayVec.{ArrayVec}
use Rattle.dbus_value_checker.specs.declared.values.ValueChecker.{ValueChecker}
use Rattle.dbus_value_checker.specs.declared.values.OpenContainer.{OpenContainer}
use Rattle.dbus_types.specs.SignatureCodes.{first_code}
use Rattle.dbus_types.proofs.TypeCodes.{begins, after_code, variant_is}
use Rattle.dbus_value_checker.specs.Fronts.{IsNumberCode, Fronts}
use Rattle.dbus_value_checker.specs.Suspended.{On, onward, done, Work, Parts, Elements, elements, work, works, TextItem, AText, AHeld}
use Rattle.dbus_value_checker.specs.Suspended.{item_kind, item_width, item_on, head, ALength, own, own_of, opened_by}
use Rattle.dbus_value_checker.specs.Denotations.{slice, Framed, extra, Answer, rest_of, HasFrames, Goes, Wants, Ready, IsKept, Texts}
use Rattle.dbus_value_checker.specs.Denotations.{after_piece}
use Rattle.dbus_texts.specs.declared.text_kind.TextKind.{TextKind}
use Rattle.dbus_texts.specs.declared.text_kind.TextKind.TheVariants as kinds
use Rattle.dbus_value_checker.specs.Moves.{Moves, Pushed, Enters}
use Rattle.dbus_value_checker.proofs.Suspension.{works_as, value_begins, after_after}
use Rattle.dbus_value_checker.proofs.FrontSteps.{front_taken, front_stops, array_of, struct_of, entry_of, text_of, number_type}
use Rattle.dbus_value_checker.proofs.FrontSteps.{array_complete, struct_complete, entry_complete, entry_text, sigs_some}
use Rattle.dbus_value_checker.proofs.Slices.{slice_head, slice_room, slice_after, slice_inner}
use Rattle.dbus_value_checker.proofs.FrameLaws.{frames_at, frame_within, pushed_frames, inner_of}
use Rattle.dbus_value_laws.proofs.ReadSteps.{padding_is}
use Rattle.dbus_value_model.specs.Bytes.{gap_to}
use Rattle.dbus_value_checker.proofs.NextValues.{next_part_at}
use Rattle.dbus_value_checker.proofs.Notes.{part_noted, pushed_notes}

-- ---- the padding of a value

module _ (x : ValueChecker) (pos stop : ℕ) (answer : Answer) (w : Wants x pos stop answer) (seen : List ℕ)
    (seen_is : seen ≡ x.text.items) where
  abbrev code : ℕ
  code = get_or seen pos 0

  pub code_first : first_code w.type ≡ code
  code_first = sym (slice_head x.text.items pos stop (first_code w.type) (after_code w.type) w.pos_is (w.text ∙ begins w.type))
      ∙ sym (ap (λ (t : List ℕ). get_or t pos 0) seen_is)

  pub wants_low : x.offset ≤ x.inner.end
  wants_low = (inner_of x (suc x.offset) w.ws w.frames).low

  module _ (a : ℕ) (a_is : (t : TypeTree) → first_code t ≡ code → a ≡ alignment_of t) where
    abbrev begun : Unit {0} → On
    begun z = own x.bounds x.order x.inner.end (own_of w.type x.inner.depth_left)
        (works x.bounds x.order (rest_of answer x w.ws) (opened_by w.type x.inner.depth_left x.inner.end))

    padded_same : (c : List ℕ) → after (padding a x.inner.end x.offset c) begun ≡ answer.to c
    padded_same c =
        let is : alignment_of w.type ≡ a = sym (a_is w.type code_first) in
        subst (λ (b : ℕ). after (padding b x.inner.end x.offset c) begun ≡ answer.to c) is
        (sym (value_begins x.bounds x.order x.inner.depth_left x.inner.end w.type x.offset c (rest_of answer x w.ws) wants_low) ∙ w.same c)

    pub wants_ready : (s : List ℕ) (n : ℕ) → Fronts (λ (n : ℕ). (tt, n)) x.offset s (Ok n) (padding a x.inner.end)
        → x.offset + n ≤ x.inner.end → Ready x pos stop n (after_piece answer (take n s))
    wants_ready s n h fits =
        let i = inner_of x (suc x.offset) w.ws w.frames in
        let near = (frame_within (suc x.offset) x.offset (length x.text.items) x.end x.text.items x.inner (reverse x.frames.items) w.ws
        w.frames).2 in
        let there : stop ≤ length x.text.items = (let a = i.high in let b = w.stop_is in omega arith) in
        record {
          before = answer;
          wants = w;
          fits = fits;
          near = near;
          there = there;
          same = front_taken (λ (n : ℕ). (tt, n)) x.offset s (padding a x.inner.end) begun answer.to padded_same n h;
        }

    -- no padding is before it
    pub wants_here : gap_to a x.offset ≡ 0 → Ready x pos stop 0 answer
    wants_here none =
        let low = wants_low in
        let same : x.offset + 0 ≡ x.offset = omega arith in
        wants_ready [] 0 (
          omega arith,
          λ c. padding_is a x.inner.end x.offset 0 c none (omega arith)
              ∙ ap (λ (p : ℕ). Done tt p c) (sym same),
        ) (omega arith)

    pub wants_stops : (s : List ℕ) (e : Stop) → Fronts (λ (n : ℕ). (tt, n)) x.offset s (Err e) (padding a x.inner.end)
        → Moves x s (Err e) x answer
    wants_stops s e h = front_stops (λ (n : ℕ). (tt, n)) x.offset s (padding a x.inner.end) begun answer.to padded_same x answer.last e h

-- ---- what stands after the padding

module _ (x : ValueChecker) (pos stop n : ℕ) (answer : Answer) (r : Ready x pos stop n answer) (code : ℕ)
    (there : get_or x.text.items pos 0 ≡ code) where
  pub ready_first : first_code r.wants.type ≡ code
  ready_first = sym (slice_head x.text.items pos stop (first_code r.wants.type) (after_code r.wants.type) r.wants.pos_is
      (r.wants.text ∙ begins r.wants.type)) ∙ there

  -- the same, where its type is known
  ready_at : (t : TypeTree) (d : ℕ) → r.wants.type ≡ t → x.inner.depth_left ≡ d → (c : List ℕ)
      → own x.bounds x.order x.inner.end (own_of t d) (works x.bounds x.order (rest_of answer x r.wants.ws) (opened_by t d x.inner.end))
      (x.offset + n) c ≡ answer.to c
  ready_at t d e f c =
      subst (λ (u : TypeTree). own x.bounds x.order x.inner.end (own_of u d)
      (works x.bounds x.order (rest_of answer x r.wants.ws) (opened_by u d x.inner.end)) (x.offset + n) c ≡ answer.to c) e
      (subst (λ (k : ℕ). own x.bounds x.order x.inner.end (own_of r.wants.type k)
      (works x.bounds x.order (rest_of answer x r.wants.ws) (opened_by r.wants.type k x.inner.end)) (x.offset + n) c ≡ answer.to c) f
      (r.same c))

  -- further by at least one byte
  further : (q : ℕ) → x.offset < q → q ≤ x.inner.end → HasFrames q (record x { offset = q }) r.wants.ws
  further q lt le = frames_at x r.wants.ws (suc x.offset) q q r.wants.frames (omega arith) le

  -- a number
  module _ (is : IsNumberCode code) where
    ready_number : (k : NumberCode) × (r.wants.type ≡ NumberType k)
    ready_number = number_type r.wants.type code ready_first is.array is.struct is.entry is.signature is.path is.string is.variant

    abbrev run : NumberCode → Reader (Unit {0})
    run k = onward (number x.order (width k) x.inner.end (number_row x.bounds.fds k)) done

    number_same : (c : List ℕ) → after (run ready_number.0 (x.offset + n) c) (λ z. rest_of answer x r.wants.ws) ≡ answer.to c
    number_same c =
        after_after (number x.order (width ready_number.0) x.inner.end (number_row x.bounds.fds ready_number.0) (x.offset + n) c)
        (λ z. done) (λ z. rest_of answer x r.wants.ws)
        ∙ ready_at (NumberType ready_number.0) x.inner.depth_left ready_number.1 refl c

    module _ (s : List ℕ) where
      abbrev Gives : Result ℕ Stop → Type 0
      Gives e = (k : NumberCode) → number_code k ≡ code → Fronts (λ (m : ℕ). (tt, m)) (x.offset + n) s e (run k)

      given : (e : Result ℕ Stop) → Gives e → Fronts (λ (m : ℕ). (tt, m)) (x.offset + n) s e (run ready_number.0)
      given e h = h ready_number.0 (ap first_code (sym ready_number.1) ∙ ready_first)

      pub number_goes : (w : ℕ) → Gives (Ok w) → 0 < w → x.offset + n + w ≤ x.inner.end
          → Goes (record x { offset = x.offset + n + w }) (after_piece answer (take w s))
      number_goes w h some fits = record {
        ws = r.wants.ws;
        frames = further (x.offset + n + w) (omega arith) fits;
        noted = r.wants.noted;
        same = front_taken (λ (m : ℕ). (tt, m)) (x.offset + n) s (run ready_number.0) (λ z. rest_of answer x r.wants.ws) answer.to
            number_same w (given (Ok w) h);
      }

      pub number_stops : (e : Stop) → Gives (Err e) → Moves x s (Err e) x answer
      number_stops e h = front_stops (λ (m : ℕ). (tt, m)) (x.offset + n) s (run ready_number.0) (λ z. rest_of answer x r.wants.ws) answer.to
          number_same x answer.last e (given (Err e) h)

  -- ---- a struct or an entry

  arrived : HasFrames (suc (x.offset + n)) (record x { offset = x.offset + n }) r.wants.ws
  arrived = frames_at x r.wants.ws (suc x.offset) (suc (x.offset + n)) (x.offset + n) r.wants.frames (omega arith) r.fits

  module _ (inner : ℕ) where
    abbrev f : OpenContainer
    f = record { array = false; pos = pos + 1; stop = stop - 1; top = x.inner.top; end = x.inner.end; depth_left = inner }

    abbrev z : ValueChecker
    z = record x { offset = x.offset + n }

    -- what stands within the brackets, and that there is room for its frame
    pub record Within (ts : TypeTrees) : Type 0 where
      types : slice x.text.items (pos + 1) (stop - 1) ≡ sigs ts
      complete : AreShaped ts
      some : 0 < length (sigs ts)
      size : pos + 1 + length (sigs ts) ≡ stop - 1
      count : suc (length x.frames.items) + 2 * inner ≤ 128
      less : inner ≤ x.inner.depth_left
      same : (c : List ℕ) → work x.bounds x.order (Parts inner x.inner.end ts) (rest_of answer x r.wants.ws) (x.offset + n) c ≡ answer.to c

    within_struct : code ≡ 40 → x.inner.depth_left ≡ suc inner → (ts : TypeTrees) × Within ts
    within_struct is depth_left =
        let u = struct_of r.wants.type (ready_first ∙ is) in
        let i = inner_of x (suc x.offset) r.wants.ws r.wants.frames in
        let parts = struct_complete x.inner.array u.0 (subst (λ (t : TypeTree). IsShaped x.inner.array t) u.1 r.wants.complete) in
        let inside = slice_inner x.text.items pos stop 40 41 (sigs u.0) r.wants.pos_is r.there (r.wants.text ∙ ap sig u.1) in (
          u.0,
          record {
            types = inside.0;
            complete = parts.0;
            some = parts.1;
            size = inside.1;
            count = (let a = i.count in omega arith);
            less = omega arith;
            same = ready_at (StructType u.0) (suc inner) u.1 depth_left;
          },
        )

    -- an entry takes no room
    within_entry : code ≡ 123 → x.inner.depth_left ≡ inner → (ts : TypeTrees) × Within ts
    within_entry is depth_left =
        let u = entry_of r.wants.type (ready_first ∙ is) in
        let ts : TypeTrees = MoreTypes u.0 (MoreTypes u.1.0 NoTypes) in
        let i = inner_of x (suc x.offset) r.wants.ws r.wants.frames in
        let inside = slice_inner x.text.items pos stop 123 125 (sigs ts) r.wants.pos_is r.there
        (r.wants.text ∙ ap sig u.1.1 ∙ entry_text u.0 u.1.0) in
        let c = entry_complete x.inner.array u.0 u.1.0 (subst (λ (t : TypeTree). IsShaped x.inner.array t) u.1.1 r.wants.complete) in
        let one : extra x.inner.array ≡ 1 = ap extra c.0 in (
          ts,
          record {
            types = inside.0;
            complete = c.1;
            some = sigs_some u.0 (MoreTypes u.1.0 NoTypes);
            size = inside.1;
            count = (let a = i.count in omega arith);
            less = omega arith;
            same = ready_at (EntryType u.0 u.1.0) inner u.1.1 depth_left;
          },
        )

    bracket_of : ((code ≡ 40) × (x.inner.depth_left ≡ suc inner)) ⊎ ((code ≡ 123) × (x.inner.depth_left ≡ inner))
        → (ts : TypeTrees) × Within ts
    bracket_of h = elim h [ inl h ↦ within_struct h.0 h.1 | inr h ↦ within_entry h.0 h.1 ]

    module _ (h : ((code ≡ 40) × (x.inner.depth_left ≡ suc inner)) ⊎ ((code ≡ 123) × (x.inner.depth_left ≡ inner))) where
      pub bracket_fits : (length x.frames.items < 128) × (pos + 1 < stop - 1)
      bracket_fits = let b = (bracket_of h).1 in (omega arith, omega arith)

      pub bracket_opens : Enters x pos stop n inner answer
      bracket_opens y p q q_is =
          let b = (bracket_of h).1 in
          let i = inner_of x (suc x.offset) r.wants.ws r.wants.frames in
          let w : Work = Parts inner x.inner.end (bracket_of h).0 in
          let framed : Framed (suc (x.offset + n)) (x.offset + n) (length x.text.items) (suc (length x.frames.items)) x.text.items f w =
          record {
            low_is = r.fits;
            high_is = i.high;
            stop_is = (let a = r.wants.stop_is in omega arith);
            pos_is = (let s = b.some in let z = b.size in omega arith);
            count_is = (let k = b.count in omega arith);
            room_is = (let a = i.depth_left in let l = b.less in omega arith);
            is = record { parts = refl; room_is = refl; end_is = refl; types = b.types; complete = b.complete };
          } in
          let frames = pushed_frames z y f (suc (x.offset + n)) w r.wants.ws p arrived framed (omega arith) (omega arith) in
          let at : y.offset ≡ x.offset + n = p.offset in
          let in_pos : y.inner.pos ≡ pos + 1 = ap (λ (g : OpenContainer). g.pos) p.inner in
          let in_stop : y.inner.stop ≡ stop - 1 = ap (λ (g : OpenContainer). g.stop) p.inner in
          let size_is : length y.text.items ≡ length x.text.items = ap length p.text in
          next_part_at y answer (w ∷ r.wants.ws) q q_is (subst (λ (k : ℕ). HasFrames (suc k) y (w ∷ r.wants.ws)) (sym at) frames)
          (pushed_notes z y f p r.wants.noted (part_noted x.text.items x.lengths.items pos stop (pos + 1) (stop - 1) r.wants.type_noted
          (omega arith) (omega arith)))
          (λ c. subst (λ (k : ℕ). works y.bounds y.order answer.last (w ∷ r.wants.ws) k c ≡ answer.to c) (sym at)
          (works_as y.bounds x.bounds y.order x.order p.bounds p.order answer.last (w ∷ r.wants.ws) (x.offset + n) c (answer.to c)
          (b.same c)))
          (ap (λ (g : OpenContainer). g.array) p.inner) (let s = b.some in let z = b.size in omega arith)
          (let a = i.high in let b = r.wants.stop_is in omega arith)

  -- no room is left
  pub deep_struct : code ≡ 40 → x.inner.depth_left ≡ 0 → (c : List ℕ) → answer.to c ≡ Faulty (fault (x.offset + n) reasons.TooDeep)
  deep_struct is depth_left c = let u = struct_of r.wants.type (ready_first ∙ is) in sym (ready_at (StructType u.0) 0 u.1 depth_left c)

  -- ---- an array

  module _ (is : code ≡ 97) where
    ready_array : (u : TypeTree) × (r.wants.type ≡ ArrayType u)
    ready_array = array_of r.wants.type (ready_first ∙ is)

    array_text : slice x.text.items pos stop ≡ 97 ∷ sig ready_array.0
    array_text = r.wants.text ∙ ap sig ready_array.1

    element_text : slice x.text.items (pos + 1) stop ≡ sig ready_array.0
    element_text = slice_after x.text.items pos stop (97 ∷ []) (sig ready_array.0) array_text

    pub element_there : (pos + 1 < stop) × (pos + 1 < length x.text.items)
    element_there =
        let depth_left = slice_room x.text.items pos stop (97 ∷ sig ready_array.0) r.wants.pos_is array_text in
        let some = ap length (begins ready_array.0) in
        let le = r.there in
        (omega arith, omega arith)

    pub deep_array : x.inner.depth_left ≡ 0 → (c : List ℕ) → answer.to c ≡ Faulty (fault (x.offset + n) reasons.TooDeep)
    deep_array depth_left c = sym (ready_at (ArrayType ready_array.0) 0 ready_array.1 depth_left c)

    module _ (inner : ℕ) (depth_left : x.inner.depth_left ≡ suc inner) (seen : List ℕ) (seen_is : seen ≡ x.text.items) (s : List ℕ) where
      abbrev frame : Reader ℕ
      frame = array_frame x.bounds x.order x.inner.end ready_array.0

      abbrev fill : ℕ → On
      fill size q v = elements size (q + size) (value x.bounds x.order inner (q + size) ready_array.0) (rest_of answer x r.wants.ws) q v

      array_same : (c : List ℕ) → after (frame (x.offset + n) c) fill ≡ answer.to c
      unfolding array_frame
      array_same c = simp after_after (ready_at (ArrayType ready_array.0) (suc inner) ready_array.1 depth_left c)

      abbrev Sizes : Result (ℕ × ℕ) Stop → Type 0
      Sizes e = (t : TypeTree) → first_code t ≡ get_or seen (pos + 1) 0
          → Fronts (λ (m : ℕ × ℕ). m) (x.offset + n) s e (array_frame x.bounds x.order x.inner.end t)

      sizes : (e : Result (ℕ × ℕ) Stop) → Sizes e → Fronts (λ (m : ℕ × ℕ). m) (x.offset + n) s e frame
      sizes e h =
          let le = element_there.0 in
          let first = slice_head x.text.items (pos + 1) stop (first_code ready_array.0) (after_code ready_array.0) (omega arith)
          (element_text ∙ begins ready_array.0) in
          h ready_array.0 (sym first ∙ sym (ap (λ (t : List ℕ). get_or t (pos + 1) 0) seen_is))

      pub array_stops : (e : Stop) → Sizes (Err e) → Moves x s (Err e) x answer
      array_stops e h = front_stops (λ (m : ℕ × ℕ). m) (x.offset + n) s frame fill answer.to array_same x answer.last e (sizes (Err e) h)

      pub array_goes : (y : ValueChecker) (size k : ℕ) → Sizes (Ok (size, k)) → 4 ≤ k → x.offset + n + k + size ≤ x.inner.end
          → Pushed (record x { offset = x.offset + n + k }) y (record
          { array = true; pos = pos + 1; stop = stop; top = x.inner.top; end = x.offset + n + k + size; depth_left = inner })
          → Goes y (after_piece answer (take k s))
      array_goes y size k h some fits p =
          let q = x.offset + n + k in
          let i = inner_of x (suc x.offset) r.wants.ws r.wants.frames in
          let w : Work = Elements size inner (q + size) ready_array.0 in
          let g : OpenContainer = record {
            array = true;
            pos = pos + 1;
            stop = stop;
            top = x.inner.top;
            end = q + size;
            depth_left =
                inner;
          } in
          let z : ValueChecker = record x { offset = q } in
          let some_code = element_there.0 in
          let framed : Framed q q (length x.text.items) (suc (length x.frames.items)) x.text.items g w = record {
            low_is = omega arith;
            high_is = i.high;
            stop_is = r.wants.stop_is;
            pos_is = omega arith;
            count_is = (let a = i.count in omega arith);
            room_is = (let a = i.depth_left in omega arith);
            is = record {
              elements = refl;
              room_is = refl;
              end_is = refl;
              type = element_text;
              complete =
                  array_complete x.inner.array ready_array.0 (subst (λ (t : TypeTree). IsShaped x.inner.array t) ready_array.1
                  r.wants.complete);
              turns_is = omega arith;
            };
          } in
          let frames = pushed_frames z y g q w r.wants.ws p (further q (omega arith) (omega arith)) framed fits (omega arith) in
          record {
            ws = w ∷ r.wants.ws;
            frames = subst (λ (o : ℕ). HasFrames o y (w ∷ r.wants.ws)) (sym p.offset) frames;
            noted = pushed_notes z y g p r.wants.noted (part_noted x.text.items x.lengths.items pos stop (pos + 1) stop r.wants.type_noted
                (omega arith) (omega arith));
            same = λ c. subst (λ (o : ℕ). works y.bounds y.order answer.last (w ∷ r.wants.ws) o c ≡ answer.to (take k s ++ c))
                (sym p.offset)
                (works_as y.bounds x.bounds y.order x.order p.bounds p.order answer.last (w ∷ r.wants.ws) q c (answer.to (take k s ++ c))
                (front_taken (λ (m : ℕ × ℕ). m) (x.offset + n) s frame fill answer.to array_same (size, k) (sizes (Ok (size, k)) h) c));
          }

  -- ---- a text, or the signature of a variant

  not_single : (k : TextCode) → kind_of k ≡ Of kinds.Single → ⊥
  not_single STRING e = cc
  not_single OBJECT_PATH e = cc
  not_single SIGNATURE e = cc

  module _ (i : TextItem) (begun : (c : List ℕ) → head x.bounds x.order x.inner.end (ALength i) (rest_of answer x r.wants.ws) (x.offset + n)
      c ≡ answer.to c) (s : List ℕ) where
    abbrev sized : Reader ℕ
    sized = number x.order (item_width i) x.inner.end (text_row x.inner.end)

    abbrev lettered : ℕ → On
    lettered size p u = after (text (item_kind i) size p u) (λ t. onward nul
        (item_on x.bounds x.order x.inner.end i (rest_of answer x r.wants.ws) t))

    item_stops : (e : Stop) → Fronts (λ (m : ℕ × ℕ). m) (x.offset + n) s (Err e) sized → Moves x s (Err e) x answer
    item_stops e h = front_stops (λ (m : ℕ × ℕ). m) (x.offset + n) s sized lettered answer.to begun x answer.last e h

    item_starts : (size k : ℕ) → Fronts (λ (m : ℕ × ℕ). m) (x.offset + n) s (Ok (size, k)) sized → 0 < k
        → x.offset + n + k + size + 1 ≤ x.inner.end
        → (scan : TextScan) (held : ArrayVec ℕ) (kind : TextKind) → item_kind i ≡ Of kind → scans.kind_of scan ≡ kind → Stands scan []
        → IsKept i held.items x.inner.depth_left size []
        → Texts (record x { offset = x.offset + n + k; scan = scan; held = held }) kind size (after_piece answer (take k s))
    item_starts size k gives some fits scan held kind kind_is scans_is stands kept = record {
      ws = r.wants.ws;
      item = i;
      size = size;
      start = x.offset + n + k;
      bytes = [];
      frames = further (x.offset + n + k) (omega arith) (omega arith);
      noted = r.wants.noted;
      kind_is = kind_is;
      kept = kept;
      scans = scans_is;
      stands = stands;
      offset = omega arith;
      left_is = omega arith;
      fits = fits;
      near = r.near;
      same = front_taken (λ (m : ℕ × ℕ). m) (x.offset + n) s sized lettered answer.to begun (size, k) gives;
    }

  module _ (is : (code ≡ 103) ⊎ ((code ≡ 111) ⊎ (code ≡ 115))) where
    ready_text : (k : TextCode) × (r.wants.type ≡ TextType k)
    ready_text = text_of r.wants.type code ready_first is

    text_is : text_code ready_text.0 ≡ code
    text_is = ap first_code (sym ready_text.1) ∙ ready_first

    module _ (s : List ℕ) where
      abbrev Counts : Result (ℕ × ℕ) Stop → Type 0
      Counts e = (k : TextCode) → text_code k ≡ code → Fronts (λ (m : ℕ × ℕ). m) (x.offset + n) s e
          (number x.order (length_width k) x.inner.end (text_row x.inner.end))

      pub text_stops : (e : Stop) → Counts (Err e) → Moves x s (Err e) x answer
      text_stops e h = item_stops (AText (kind_of ready_text.0) (length_width ready_text.0))
          (ready_at (TextType ready_text.0) x.inner.depth_left ready_text.1 refl) s e (h ready_text.0 text_is)

      module _ (size k : ℕ) (gives : Counts (Ok (size, k))) (some : 0 < k) (fits : x.offset + n + k + size + 1 ≤ x.inner.end)
          (kind : TextKind) (kind_is : (k : TextCode) → text_code k ≡ code → Of kind ≡ kind_of k) where
        pub text_starts : (scan : TextScan) → scans.kind_of scan ≡ kind → Stands scan []
            → Texts (record x { offset = x.offset + n + k; scan = scan }) kind size (after_piece answer (take k s))
        text_starts scan scans_is stands =
            item_starts (AText (kind_of ready_text.0) (length_width ready_text.0))
            (ready_at (TextType ready_text.0) x.inner.depth_left ready_text.1 refl) s size k (gives ready_text.0 text_is) some fits scan
            x.held kind (sym (kind_is ready_text.0 text_is)) scans_is stands (not_single ready_text.0)

  module _ (is : code ≡ 118) where
    ready_variant : r.wants.type ≡ VariantType
    ready_variant = variant_is r.wants.type (ready_first ∙ is)

    pub variant_deep : x.inner.depth_left ≡ 0 → (c : List ℕ) → answer.to c ≡ Faulty (fault (x.offset + n) reasons.TooDeep)
    variant_deep depth_left c = sym (ready_at VariantType 0 ready_variant depth_left c)

    module _ (inner : ℕ) (depth_left : x.inner.depth_left ≡ suc inner) (s : List ℕ) where
      abbrev counts : Reader ℕ
      counts = number x.order 1 x.inner.end (text_row x.inner.end)

      pub variant_stops : (e : Stop) → Fronts (λ (n : ℕ). (n, 1)) (x.offset + n) s (Err e) counts → Moves x s (Err e) x answer
      variant_stops e h = item_stops (AHeld inner) (ready_at VariantType (suc inner) ready_variant depth_left) s e h

      pub variant_starts : (size : ℕ) → Fronts (λ (n : ℕ). (n, 1)) (x.offset + n) s (Ok size) counts → size < 256
          → x.offset + n + 1 + size + 1 ≤ x.inner.end
          → (scan : TextScan) (held : ArrayVec ℕ) → scans.kind_of scan ≡ kinds.Single → Stands scan [] → held.items ≡ []
          → Texts (record x { offset = x.offset + n + 1; scan = scan; held = held }) kinds.Single size (after_piece answer (take 1 s))
      variant_starts size gives few fits scan held scans_is stands none =
          item_starts (AHeld inner) (ready_at VariantType (suc inner) ready_variant depth_left) s size 1 gives (omega arith) fits scan held
          kinds.Single refl scans_is stands (none, omega arith, depth_left)
