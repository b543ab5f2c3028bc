-- Texts, whose bytes come in pieces.
use Rattle.std.proofs.Common.{◌-◌, ◌≡◌, ℕ, zero, suc, ◌+◌, ◌<◌, ◌≤◌, List, [], ◌∷◌, ◌++◌, length, take, drop, get_or, true, false, refl}
use Rattle.std.proofs.Common.{sym, ap, subst, ◌∙◌, arith, append_assoc, Ok, Err, reverse}
use Rattle.std.proofs.lemmas.List.{take-take, append-nil, take_more, take_all, take-append-drop, length-append, length-take}
use Rattle.arrayvec.specs.ArrayVec.{ArrayVec}
use Rattle.dbus_texts.specs.declared.text_kind.TextKind.{TextKind}
use Rattle.dbus_texts.specs.declared.text_kind.TextKind.TheVariants as kinds
use Rattle.dbus_texts.specs.declared.scan.TextScan.{TextScan}
use Rattle.dbus_texts.specs.Kinds.{IsKind}
use Rattle.dbus_texts.specs.Verdicts.{IsPrefixOf}
use Rattle.dbus_texts.specs.Scans.{Stands}
use Rattle.dbus_texts.specs.Scans as scans
use Rattle.dbus_value_model.specs.WantedTexts.{WantedText, Of, IsWanted}
use Rattle.dbus_value_model.specs.ComputedTexts.{is_kind, break_at}
use Rattle.dbus_value_model.specs.declared.fault.Reason.{Reason}
use Rattle.dbus_value_model.specs.Items.{fault, text_reason}
use Rattle.dbus_value_model.specs.Reading.{Outcome, Faulty, Partial, after, text, nul}
use Rattle.dbus_value_checker.specs.declared.values.ValueChecker.{ValueChecker}
use Rattle.dbus_value_checker.specs.declared.values.Doing.{Doing}
use Rattle.dbus_value_checker.specs.declared.values.OpenContainer.{OpenContainer}
use Rattle.dbus_texts.specs.Types.{NoTypes}
use Rattle.dbus_value_checker.specs.Suspended.{On, onward, ended_text, Work, Parts, TextItem, AText, AHeld, item_kind, item_on}
use Rattle.dbus_value_checker.specs.Denotations.{AreFrames, Answer, rest_of, Goes, IsKept, Texts, Held, Nuls, after_piece}
use Rattle.dbus_value_model.specs.declared.stop.Stop.{Stop}
use Rattle.dbus_value_checker.specs.Fronts.{Fronts}
use Rattle.dbus_value_checker.specs.Moves.{Moves, text_on}
use Rattle.dbus_value_checker.proofs.FrontSteps.{front_taken, front_stops}
use Rattle.dbus_value_checker.proofs.Suspension.{after_after, text_waits, text_breaks, text_ends, text_not}
use Rattle.dbus_value_checker.proofs.FrameLaws.{frames_at}
use Rattle.dbus_value_laws.proofs.KindLaws.{break_is, one_break, is_wanted, is_not_wanted}

pub take_one : (s : List ℕ) (n : ℕ) (w : List ℕ) → n < length s → (w ++ take n s) ++ get_or s n 0 ∷ [] ≡ w ++ take (n + 1) s
take_one s n w h = append_assoc w (take n s) (get_or s n 0 ∷ []) ∙ ap (λ (t : List ℕ). w ++ t) (sym (take_more s n 0 h))

-- where a scan stands, a text of its kind may begin so
pub stands_prefix : (x : TextScan) (w : List ℕ) → Stands x w → IsPrefixOf (scans.kind_of x) w
stands_prefix x w h = (h.quotient.some.0, h.quotient.from h.quotient.some.0 h.quotient.some.1)

pub prefix_break : (k : TextKind) (w : List ℕ) → IsPrefixOf k w → break_at (Of k) w ≡ length w
prefix_break k w h =
    let all : take (length w) w ≡ w = take_all (length w) w (omega arith) in
    one_break (Of k) w (break_at (Of k) w) (length w) (break_is (Of k) w)
    (record {
      within = omega arith;
      front = subst (λ (t : List ℕ). IsPrefixOf k t) (sym all) h;
      longest =
          λ m l le p. absurd (omega arith);
    })

take_front : (n : ℕ) (s : List ℕ) (b : ℕ) → n ≡ length s → take n (s ++ b ∷ []) ≡ s
take_front zero [] b h = refl
take_front zero (a ∷ s) b h = absurd (omega arith)
take_front (suc n) [] b h = absurd (omega arith)
take_front (suc n) (a ∷ s) b h = ap (λ (t : List ℕ). a ∷ t) (take_front n s b (omega arith))

-- a text that may begin so, but not with one byte more
pub one_byte_breaks : (k : TextKind) (w : List ℕ) (b : ℕ) → IsPrefixOf k w → (IsPrefixOf k (w ++ b ∷ []) → ⊥)
    → break_at (Of k) (w ++ b ∷ []) ≡ length w
one_byte_breaks k w b h unlike =
    let size : length (w ++ b ∷ []) ≡ length w + 1 = length-append w (b ∷ []) in
    let front : take (length w) (w ++ b ∷ []) ≡ w = take_front (length w) w b refl in
    one_break (Of k) (w ++ b ∷ []) (break_at (Of k) (w ++ b ∷ [])) (length w) (break_is (Of k) (w ++ b ∷ []))
    (record {
      within = omega arith;
      front = subst (λ (t : List ℕ). IsPrefixOf k t) (sym front) h;
      longest = λ m l le p.
          let whole : take m (w ++ b ∷ []) ≡ w ++ b ∷ [] = take_all m (w ++ b ∷ []) (omega arith) in
          unlike (subst (λ (t : List ℕ). IsPrefixOf k t) whole p);
    })

-- ---- a text that is under way

-- what is kept of it, once more bytes are there
kept_more : (i : TextItem) (kind : TextKind) (old new : List ℕ) (depth_left size : ℕ) (bytes more : List ℕ) (left : ℕ)
    → item_kind i ≡ Of kind → IsKept i old depth_left size bytes → length bytes + left ≡ size → length more ≤ left
    → (kind ≡ kinds.Single → length old + length more ≤ 255 → new ≡ old ++ more) → IsKept i new depth_left size (bytes ++ more)
kept_more (AText k width) kind old new depth_left size bytes more left is kept sum few grows = kept
kept_more (AHeld inner) kind old new depth_left size bytes more left is kept sum few grows =
    let all = ap length kept.0 in
    let most = kept.1 in
    (grows (let e : Of kinds.Single ≡ Of kind = is in cc) (omega arith) ∙ ap (λ (u : List ℕ). u ++ more) kept.0, kept.1, kept.2)

module _ (x : ValueChecker) (kind : TextKind) (left : ℕ) (answer : Answer) (t : Texts x kind left answer) where
  scans_is : Of (scans.kind_of x.scan) ≡ item_kind t.item
  scans_is = ap Of t.scans ∙ sym t.kind_is

  abbrev next : List ℕ → On
  next u = onward nul (item_on x.bounds x.order x.inner.end t.item (rest_of answer x t.ws) u)

  so_far : break_at (item_kind t.item) t.bytes ≡ length t.bytes
  so_far = ap (λ (k : WantedText). break_at k t.bytes) (sym scans_is)
      ∙ prefix_break (scans.kind_of x.scan) t.bytes (stands_prefix x.scan t.bytes t.stands)

  -- m bytes of it are there, of those that may belong to it
  module _ (s given : List ℕ) (given_is : given ≡ take left s) (y : TextScan) (m : ℕ) (within : m ≤ length given)
      (alike : scans.kind_of y ≡ scans.kind_of x.scan) (stands : (w : List ℕ) → Stands x.scan w → Stands y (w ++ take m given)) where
    given_size : (length given ≤ left) × (length given ≤ length s)
    given_size = let g = ap length given_is ∙ length-take left s in (omega arith, omega arith)

    pub taken_there : (m ≤ length s) × (m ≤ left)
    taken_there = let g = given_size.0 in let l = given_size.1 in (omega arith, omega arith)

    stands_on : Stands y (t.bytes ++ take m s)
    stands_on = subst (λ (u : List ℕ). Stands y (t.bytes ++ u)) (ap (take m) given_is ∙ take-take m left s taken_there.1)
        (stands t.bytes t.stands)

    pub texts_on : (held : ArrayVec ℕ) → length given ≤ m → (kind ≡ kinds.Single → length x.held.items + length given ≤ 255
        → held.items ≡ x.held.items ++ given) → Texts (record x { offset = x.offset + m; scan = y; held = held }) kind (left - m)
        (after_piece answer (take m s))
    texts_on held all grows =
        let le = taken_there in
        let given_all : given ≡ take m s = sym (take_all m given all) ∙ ap (take m) given_is ∙ take-take m left s taken_there.1 in
        let size : length (take m s) ≡ m = omega (arith, le.0, length-take m s) in
        let more : length (t.bytes ++ take m s) ≡ length t.bytes + length (take m s) = length-append t.bytes (take m s) in
        let few = le.1 in
        record {
          ws = t.ws;
          item = t.item;
          size = t.size;
          start = t.start;
          bytes = t.bytes ++ take m s;
          frames = frames_at x t.ws x.offset (x.offset + m) (x.offset + m) t.frames (omega arith) (let f = t.fits in omega arith);
          noted = t.noted;
          kind_is = t.kind_is;
          kept = subst (λ (u : List ℕ). IsKept t.item held.items x.inner.depth_left t.size (t.bytes ++ u)) given_all
              (kept_more t.item kind x.held.items held.items x.inner.depth_left t.size t.bytes given left t.kind_is t.kept t.left_is
              given_size.0 grows);
          scans = alike ∙ t.scans;
          stands = stands_on;
          offset = (let p = t.offset in omega arith);
          left_is = (let l = t.left_is in omega arith);
          fits = (let f = t.fits in omega arith);
          near = t.near;
          same = λ c. ap (λ (w : List ℕ). after (text (item_kind t.item) t.size t.start w) next) (append_assoc t.bytes (take m s) c)
              ∙ t.same (take m s ++ c);
        }

    -- and the next may not stand there
    pub texts_break : (why : Reason) → m < length given → ((w : List ℕ) → Stands x.scan w
        → IsPrefixOf (scans.kind_of x.scan) (w ++ take (m + 1) given) → ⊥) → text_reason (Of kind) ≡ why → (c : List ℕ)
        → answer.to (s ++ c) ≡ Faulty (fault (x.offset + m) why)
    texts_break why breaks_at breaks reason c =
        let few = given_size.0 in
        let long = given_size.1 in
        let lt : m < length s = omega arith in
        let less : m < left = omega arith in
        let few_more : m + 1 ≤ left = omega arith in
        let unlike = subst (λ (u : List ℕ). IsPrefixOf (scans.kind_of x.scan) (t.bytes ++ u) → ⊥)
        (ap (take (m + 1)) given_is ∙ take-take (m + 1) left s few_more) (breaks t.bytes t.stands) in
        let k = scans.kind_of x.scan in
        let w = t.bytes ++ take m s in
        let b = get_or s m 0 in
        let grown : w ++ b ∷ [] ≡ t.bytes ++ take (m + 1) s = take_one s m t.bytes lt in
        let begins : IsPrefixOf k w = subst (λ (j : TextKind). IsPrefixOf j w) alike (stands_prefix y w stands_on) in
        let broken : break_at (Of k) (w ++ b ∷ []) ≡ length w = one_byte_breaks k w b begins
        (λ p. unlike (subst (λ (u : List ℕ). IsPrefixOf k u) grown p)) in
        let at : break_at (item_kind t.item) (w ++ b ∷ []) ≡ length w = ap (λ (j : WantedText). break_at j (w ++ b ∷ [])) (sym scans_is)
        ∙ broken in
        let size : length (take m s) ≡ m = omega (arith, length-take m s) in
        let more : length w ≡ length t.bytes + length (take m s) = length-append t.bytes (take m s) in
        let last : length (w ++ b ∷ []) ≡ length w + 1 = length-append w (b ∷ []) in
        let l = t.left_is in
        let p = t.offset in
        let split : t.bytes ++ (s ++ c) ≡ (w ++ b ∷ []) ++ (drop (m + 1) s ++ c) =
        ap (λ (u : List ℕ). t.bytes ++ u) (ap (λ (u : List ℕ). u ++ c) (sym (take-append-drop (m + 1) s))
        ∙ append_assoc (take (m + 1) s) (drop (m + 1) s) c)
        ∙ sym (append_assoc t.bytes (take (m + 1) s) (drop (m + 1) s ++ c)) ∙ ap (λ (u : List ℕ). u ++ (drop (m + 1) s ++ c)) (sym grown) in
        let offset : t.start + break_at (item_kind t.item) (w ++ b ∷ []) ≡ x.offset + m = omega arith in
        sym (t.same (s ++ c))
        ∙ ap (λ (u : List ℕ). after (text (item_kind t.item) t.size t.start u) next) split
        ∙ ap (λ (r : Outcome (List ℕ)). after r next) (text_breaks (item_kind t.item) t.size t.start (w ++ b ∷ []) (drop (m + 1) s ++ c)
        (omega arith) (omega arith))
        ∙ ap (λ (q : ℕ). Faulty (fault q (text_reason (item_kind t.item)))) offset
        ∙ ap (λ (r : Reason). Faulty (fault (x.offset + m) r)) (ap text_reason t.kind_is ∙ reason)

  -- no byte of it is there
  pub texts_wait : 0 < left → answer.to [] ≡ Partial
  texts_wait some =
      let l = t.left_is in
      sym (t.same []) ∙ ap (λ (w : List ℕ). after (text (item_kind t.item) t.size t.start w) next) (append-nil t.bytes)
      ∙ ap (λ (r : Outcome (List ℕ)). after r next) (text_waits (item_kind t.item) t.size t.start t.bytes (omega arith) so_far)

  -- all of it is there
  module _ (none : left ≡ 0) where
    whole : length t.bytes ≡ t.size
    whole = let l = t.left_is in omega arith

    module _ (h : IsKind (scans.kind_of x.scan) t.bytes) where
      at_end : (c : List ℕ) → next t.bytes x.offset c ≡ answer.to c
      at_end c =
          let is : is_kind (item_kind t.item) t.bytes ≡ true = ap (λ (k : WantedText). is_kind k t.bytes) (sym scans_is)
          ∙ is_wanted (Of (scans.kind_of x.scan)) t.bytes h in
          let p = t.offset in
          let w = whole in
          let at : t.start + t.size ≡ x.offset = omega arith in
          subst (λ (q : ℕ). next t.bytes q c ≡ answer.to c) at
          (sym (ap (λ (r : Outcome (List ℕ)). after r next) (text_ends (item_kind t.item) t.size t.start t.bytes c whole is)) ∙ t.same c)

      fits_end : x.offset + 1 ≤ x.inner.end
      fits_end = let f = t.fits in omega arith

      abbrev Ends : TextItem → Type 0
      Ends i = (c : List ℕ) → onward nul (item_on x.bounds x.order x.inner.end i (rest_of answer x t.ws) t.bytes) x.offset c ≡ answer.to c

      pub texts_end : (kind ≡ kinds.Single → ⊥) → Nuls x answer
      texts_end other = string_ends t.item t.kind_is at_end
        where
          string_ends : (i : TextItem) → item_kind i ≡ Of kind → Ends i → Nuls x answer
          string_ends (AText k width) is same = record {
            ws = t.ws;
            frames = t.frames;
            noted = t.noted;
            fits = fits_end;
            near =
                t.near;
            same = same;
          }
          string_ends (AHeld inner) is same = absurd (other (let e : Of kinds.Single ≡ Of kind = is in cc))

      pub texts_held : kind ≡ kinds.Single → Held x answer
      texts_held one = held_ends t.item (t.kind_is ∙ ap Of one) t.kept scans_is at_end
        where
          held_ends : (i : TextItem) → item_kind i ≡ Of kinds.Single → IsKept i x.held.items x.inner.depth_left t.size t.bytes
              → Of (scans.kind_of x.scan) ≡ item_kind i → Ends i → Held x answer
          held_ends (AText k width) is kept like same = absurd (kept is)
          held_ends (AHeld inner) is kept like same =
              let depth_left = kept.2 in
              let less : inner ≡ x.inner.depth_left - 1 = omega arith in
              record {
                ws = t.ws;
                frames = t.frames;
                noted = t.noted;
                some = omega arith;
                kind = subst (λ (u : List ℕ). IsWanted (Of kinds.Single) u) (sym kept.0)
                    (subst (λ (k : WantedText). IsWanted k t.bytes) like h);
                fits = fits_end;
                near = t.near;
                same = λ c. subst (λ (u : List ℕ). onward nul (item_on x.bounds x.order x.inner.end (AHeld (x.inner.depth_left - 1))
                    (rest_of answer x t.ws) u) x.offset c ≡ answer.to c) (sym kept.0)
                    (subst (λ (d : ℕ). onward nul (item_on x.bounds x.order x.inner.end (AHeld d) (rest_of answer x t.ws) t.bytes) x.offset
                    c ≡ answer.to c) less (same c));
              }

    pub texts_unlike : (why : Reason) → (IsKind (scans.kind_of x.scan) t.bytes → ⊥) → text_reason (Of kind) ≡ why → (c : List ℕ)
        → answer.to c ≡ Faulty (fault x.offset why)
    texts_unlike why unlike reason c =
        let is : is_kind (item_kind t.item) t.bytes ≡ false = ap (λ (k : WantedText). is_kind k t.bytes) (sym scans_is)
        ∙ is_not_wanted (Of (scans.kind_of x.scan)) t.bytes unlike in
        let p = t.offset in
        let w = whole in
        let b = so_far in
        let at : t.start + break_at (item_kind t.item) t.bytes ≡ x.offset = omega arith in
        sym (t.same c) ∙ ap (λ (r : Outcome (List ℕ)). after r next) (text_not (item_kind t.item) t.size t.start t.bytes c whole so_far is)
        ∙ ap (λ (q : ℕ). Faulty (fault q (text_reason (item_kind t.item)))) at
        ∙ ap (λ (r : Reason). Faulty (fault x.offset r)) (ap text_reason t.kind_is ∙ reason)

-- ---- the zero after it

module _ (x : ValueChecker) (answer : Answer) (u : Nuls x answer) where
  abbrev seen : Unit {0} → Unit {0} × ℕ
  seen z = (tt, 1)

  pub nuls_pass : (s : List ℕ) → Fronts seen x.offset s (Ok tt) nul
      → Goes (record x { offset = x.offset + 1 }) (after_piece answer (take 1 s))
  nuls_pass s h = record {
    ws = u.ws;
    frames = frames_at x u.ws x.offset (x.offset + 1) (x.offset + 1) u.frames (omega arith) u.fits;
    noted = u.noted;
    same = front_taken seen x.offset s nul (λ z. rest_of answer x u.ws) answer.to u.same tt h;
  }

  pub nuls_stops : (s : List ℕ) (e : Stop) → Fronts seen x.offset s (Err e) nul → Moves x s (Err e) x answer
  nuls_stops s e h = front_stops seen x.offset s nul (λ z. rest_of answer x u.ws) answer.to u.same x answer.last e h

pub empty_list : (s : List ℕ) → length s ≡ 0 → s ≡ []
empty_list [] h = refl
empty_list (b ∷ s) h = absurd (omega arith)

-- what is under way is noted
pub texts_doing : (x : ValueChecker) (d : Doing) (kind : TextKind) (left : ℕ) (answer : Answer) → Texts x kind left answer
    → Texts (record x { doing = d }) kind left answer
texts_doing x d kind left answer t = record {
  ws = t.ws;
  item = t.item;
  size = t.size;
  start = t.start;
  bytes = t.bytes;
  frames =
      t.frames;
  noted = t.noted;
  kind_is = t.kind_is;
  kept = t.kept;
  scans = t.scans;
  stands = t.stands;
  offset = t.offset;
  left_is =
      t.left_is;
  fits = t.fits;
  near = t.near;
  same = t.same;
}

pub nuls_doing : (x : ValueChecker) (d : Doing) (answer : Answer) → Nuls x answer → Nuls (record x { doing = d }) answer
nuls_doing x d answer u = record { ws = u.ws; frames = u.frames; noted = u.noted; fits = u.fits; near = u.near; same = u.same }

-- ---- a text alone

ended_onward : (k : WantedText) (size : ℕ) (last : On) (o : ℕ) (s : List ℕ)
    → after (text k size o s) (λ t. onward nul last) ≡ onward (ended_text k size) last o s
ended_onward k size last o s = simp after_after

-- a state whose only frame has no types
pub text_begins : (x : ValueChecker) (kind : TextKind) (size : ℕ) (last : On)
    → x.frames.items ≡ [] → x.text.items ≡ [] → x.lengths.items ≡ []
    → x.inner ≡ record { array = false; pos = 0; stop = 0; top = 0; end = x.end; depth_left = 0 }
    → x.offset + size + 1 ≤ x.end → x.end < 18446744073709551616 → (kind ≡ kinds.Single → ⊥) → scans.kind_of x.scan ≡ kind
    → Stands x.scan []
    → Texts x kind size (text_on kind size last x.offset)
text_begins x kind size last none text lengths inner fits near other scans stands =
    let begun : OpenContainer = record { array = false; pos = 0; stop = 0; top = 0; end = x.end; depth_left = 0 } in
    let w : Work = Parts 0 x.end NoTypes in
    let back : reverse x.frames.items ≡ [] = ap (λ (fs : List OpenContainer). reverse fs) none in
    let here : AreFrames x.offset x.offset 0 x.end [] (begun ∷ []) (w ∷ []) = (
      record {
        low_is = omega arith;
        high_is = omega arith;
        stop_is = omega arith;
        pos_is = omega arith;
        count_is = omega arith;
        room_is = omega arith;
        is = record { parts = refl; room_is = refl; end_is = refl; types = refl; complete = tt };
      },
      (omega arith, near),
    ) in
    let few : x.inner.end ≡ x.end = ap (λ (f : OpenContainer). f.end) inner in
    record {
      ws = w ∷ [];
      item = AText (Of kind) 0;
      size = size;
      start = x.offset;
      bytes = [];
      frames = rw (back, text, inner) here;
      noted = rw (back, text, lengths, inner) (refl, (λ at t more low high is. absurd (omega arith), tt));
      kind_is = refl;
      kept = λ e. other cc;
      scans = scans;
      stands = stands;
      offset = omega arith;
      left_is = omega arith;
      fits = omega arith;
      near = omega arith;
      same = λ c. ended_onward (Of kind) size last x.offset c;
    }
