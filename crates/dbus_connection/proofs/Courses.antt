-- What comes of bytes past the handshake, whoever cuts them.
use Rattle.std.proofs.Common.{◌≡◌, ◌∙◌, ◌⊎◌, ◌+◌, ◌-◌, ◌≤◌, ℕ, List, [], ◌∷◌, ◌++◌, length, min, take, drop, refl, sym, ap, subst, inl, inr, arith, take-append-drop}
use Rattle.std.proofs.Math.ListN.{drop_of_length-le}
use Rattle.std.proofs.Math.Seq.{drop-nil, take-append_seam}
use Rattle.std.proofs.lemmas.List.{take-take, drop_at, drop-take, length-drop, length-take}
use Rattle.dbus_value_model.specs.declared.limits.Limits.{Limits}
use Rattle.dbus_header.specs.MessageOutcomes.{IsRefused, IsWhole}
use Rattle.dbus_header.specs.declared.fixed_header.FixedHeader.{FixedHeader}
use Rattle.dbus_header.proofs.OutcomeLaws.{not_both, one_fault, one_whole, refused_for_good, whole_for_good}
use Rattle.dbus_header.proofs.StatedLengths.{whole_states}
use Rattle.dbus_validate.proofs.Headed.{sixteen_there}
use Rattle.dbus_view.specs.Views.{IsViewOf, ViewState, Views}
use Rattle.dbus_connection.specs.Reading.{Fits, HasOwn, IsPassed, IsRead}
use Rattle.dbus_connection.specs.Runs.{AreCalls, AreOf, BeginsAs, Bounded, Call, TakesMessages, came, coming, taken_of}
use Rattle.dbus_connection.specs.Standing.{Answer, Begins, Closed, Fails, Gives, IsOver, Messages, Passes, Refuses, Sends, Told, Wants, stands_by}
use Rattle.dbus_connection.specs.declared.settings.Settings.{Settings}
use Rattle.dbus_connection.proofs.Passing.{fitting, not_passed, passed_more, passed_once, passed_states, refused_fits}
use Rattle.dbus_connection.proofs.Skipping.{behind, front}

module _ (settings : Settings) where
  abbrev limits : Limits
  limits = settings.limits

  -- what bytes are: messages, one after another, and then maybe a refusal
  abbrev pub Course : List ℕ → List Told → Type 0
  Course bytes [] = Unit {0}
  Course bytes (Gives view fds ∷ told) = (rest : List ℕ) × (bytes ≡ view.bytes ++ rest) × IsViewOf limits view.bytes view × HasOwn view fds × Course rest told × (length view.bytes ≤ settings.longest)
  Course bytes (Passes n header ∷ told) = IsPassed settings bytes n header × Course (drop n bytes) told
  Course bytes (Refuses fault ∷ told) = IsRefused limits bytes fault × (told ≡ []) × Fits settings bytes
  Course bytes (other ∷ told) = ⊥

  -- ---- calls follow such a course

  -- nothing comes any more, and nothing is taken
  pub record Rests (calls : List Call) : Type 0 where
    pub came : came calls ≡ []
    pub taken : taken_of calls ≡ 0

  pub rests : (calls : List Call) (bytes : List ℕ) → AreCalls settings Closed bytes calls
      → Rests calls
  rests [] bytes are = record { came = refl; taken = refl }
  rests (c ∷ cs) bytes are =
      let later = rests cs (drop c.answer.taken bytes) (subst (λ (a : Answer). AreCalls settings (stands_by Closed a.told) (drop c.answer.taken bytes) cs) are.0 are.1) in
      record {
        came = ap (λ (a : Answer). coming a.told (came cs)) are.0 ∙ later.came;
        taken = ap (λ (a : Answer). a.taken + taken_of cs) are.0 ∙ omega (arith, later.taken);
      }

  -- a message that was taken out of a piece
  gives : (handed taken : ℕ) (bytes : List ℕ) (view : ViewState) (fds : ℕ) (later : List Told)
      → IsRead settings (take handed bytes) taken (Gives view fds)
      → Course (drop taken bytes) later → Course bytes (Gives view fds ∷ later)
  gives handed taken bytes view fds later is goes =
      let own : view.bytes ≡ take taken bytes = is.0.1 ∙ take-take taken handed bytes (omega (arith, is.1, length-take handed bytes)) in
      let parted = sym (take-append-drop taken bytes) ∙ ap (λ (x : List ℕ). x ++ drop taken bytes) (sym own) in
      (drop taken bytes, parted, (is.0.0, refl, is.0.2), is.2, goes, omega (arith, ap length own, length-take taken bytes, is.3))

  -- a call that is handed a piece, and those after it, past those that are skipped
  abbrev Then : Told → (taken : ℕ) → List ℕ → List Told → Type 0
  Then (Passes n header) taken bytes later = Course (drop n bytes) later
  Then (Refuses fault) taken bytes later = later ≡ []
  Then told taken bytes later = Course (drop taken bytes) later

  follow : (handed taken : ℕ) (told : Told) (bytes : List ℕ) (later : List Told)
      → IsRead settings (take handed bytes) taken told → Then told taken bytes later
      → Course bytes (coming told later)
  follow handed taken (Wants n) bytes later is goes = subst (λ (k : ℕ). Course (drop k bytes) later) is.1 goes
  follow handed taken (Gives view fds) bytes later is goes = gives handed taken bytes view fds later is goes
  follow handed taken (Passes n header) bytes later is goes =
      (subst (λ (b : List ℕ). IsPassed settings b n header) (take-append-drop handed bytes) (passed_more settings (take handed bytes) (drop handed bytes) n header is.0), goes)
  follow handed taken (Refuses fault) bytes later is goes =
      let all = take-append-drop handed bytes in (
        subst (λ (b : List ℕ). IsRefused limits b fault) all (refused_for_good limits (take handed bytes) (drop handed bytes) fault is.0),
        goes,
        subst (Fits settings) all (refused_fits settings (take handed bytes) (drop handed bytes) fault is.0 is.2),
      )
  follow handed taken (Sends send) bytes later is goes = absurd is
  follow handed taken (Begins send guid agreed) bytes later is goes = absurd is
  follow handed taken Fails bytes later is goes = absurd is
  follow handed taken IsOver bytes later is goes = absurd is

  -- all that are to skip were taken if a message is passed over behind them
  skipped : (skip handed more taken : ℕ) (bytes : List ℕ) (n : ℕ) (header : FixedHeader)
      → IsRead settings (drop skip (take handed bytes)) more (Passes n header)
      → taken ≡ min skip (length (take handed bytes)) + more → taken ≡ skip
  skipped skip handed more taken bytes n header is at =
      let there = sixteen_there limits (drop skip (take handed bytes)) n (passed_states settings (drop skip (take handed bytes)) n header is.0) in
      omega (arith, at, is.1, there, length-drop skip (take handed bytes))

  module _ (skip handed more taken : ℕ) (bytes : List ℕ) (later : List Call) (at : taken ≡ min skip (length (take handed bytes)) + more) where
    thens : (told : Told)
        → ((skip : ℕ) (rest : List ℕ) → AreCalls settings (Messages skip) rest later → Course (drop skip rest) (came later))
        → IsRead settings (drop skip (take handed bytes)) more told
        → AreCalls settings (stands_by (Messages (skip - length (take handed bytes))) told) (drop taken bytes) later
        → Then told more (drop skip bytes) (came later)
    thens (Passes n header) goes is are =
        let all = skipped skip handed more taken bytes n header is at in
        subst (λ (k : ℕ). Course (drop n (drop k bytes)) (came later)) all (goes n (drop taken bytes) are)
    thens (Refuses fault) goes is are = (rests later (drop taken bytes) are).came
    thens (Wants n) goes is are =
        subst (λ (b : List ℕ). Course b (came later)) (behind skip (length (take handed bytes)) more taken bytes at) (goes (skip - length (take handed bytes)) (drop taken bytes) are)
    thens (Gives view fds) goes is are =
        subst (λ (b : List ℕ). Course b (came later)) (behind skip (length (take handed bytes)) more taken bytes at) (goes (skip - length (take handed bytes)) (drop taken bytes) are)
    thens (Sends send) goes is are = absurd is
    thens (Begins send guid agreed) goes is are = absurd is
    thens Fails goes is are = absurd is
    thens IsOver goes is are = absurd is

  pub course : (calls : List Call) (skip : ℕ) (bytes : List ℕ)
      → AreCalls settings (Messages skip) bytes calls → Course (drop skip bytes) (came calls)
  course [] skip bytes are = tt
  course (c ∷ cs) skip bytes are =
      let read = are.0 in
      let piece = subst (λ (b : List ℕ). IsRead settings b read.0 c.answer.told) (front skip c.handed bytes) read.1 in
      follow (c.handed - skip) read.0 c.answer.told (drop skip bytes) (came cs) piece
      (thens skip c.handed read.0 c.answer.taken bytes cs read.2 c.answer.told (course cs) read.1 are.1)

  -- ---- bytes have one course

  whole : (bytes rest : List ℕ) (view : ViewState) → bytes ≡ view.bytes ++ rest
      → (is : IsViewOf limits view.bytes view)
      → IsWhole limits bytes is.2.0 is.2.1 (length view.bytes)
  whole bytes rest view e is =
      subst (λ (b : List ℕ). IsWhole limits b is.2.0 is.2.1 (length view.bytes)) (sym e)
      (whole_for_good limits view.bytes rest is.2.0 is.2.1 (length view.bytes) (subst (λ (l : Limits). IsWhole l view.bytes is.2.0 is.2.1 (length view.bytes)) is.0 is.2.2))

  -- bytes begin with one message, which is seen in one way
  same_bytes : (bytes left right : List ℕ) (v w : ViewState) → bytes ≡ v.bytes ++ left
      → bytes ≡ w.bytes ++ right → length v.bytes ≡ length w.bytes
      → (v.bytes ≡ w.bytes) × (left ≡ right)
  same_bytes bytes left right v w p q n = (
    sym (take-append_seam v.bytes left) ∙ ap (take (length v.bytes)) (sym p ∙ q) ∙ ap (λ (k : ℕ). take k (w.bytes ++ right)) n ∙ take-append_seam w.bytes right,
    sym (drop_at v.bytes left (length v.bytes) refl) ∙ ap (drop (length v.bytes)) (sym p ∙ q) ∙ drop_at w.bytes right (length v.bytes) (sym n),
  )

  same_view : (v w : ViewState) → v.limits ≡ w.limits → v.bytes ≡ w.bytes → v ≡ w
  same_view v w e f = ap (λ (l : Limits). record { limits = l; bytes = v.bytes }) e ∙ ap (λ (b : List ℕ). record { limits = w.limits; bytes = b }) f

  -- one that is given is not passed over
  given : (bytes : List ℕ) (view : ViewState) (fds n : ℕ) (header : FixedHeader) (told : List Told)
      → Course bytes (Gives view fds ∷ told) → IsPassed settings bytes n header → ⊥
  given bytes view fds n header told c is =
      not_passed settings bytes n header is (fitting settings bytes (length view.bytes) (whole_states limits bytes c.2.2.0 c.2.2.1 (length view.bytes) (whole bytes c.0 view c.1 c.2)).0 c.5)

  pub longer : (x : Told) (xs ys : List Told) → BeginsAs xs ys ⊎ BeginsAs ys xs
      → BeginsAs (x ∷ xs) (x ∷ ys) ⊎ BeginsAs (x ∷ ys) (x ∷ xs)
  longer x xs ys (inl h) = inl (h.0, ap (λ (zs : List Told). x ∷ zs) h.1)
  longer x xs ys (inr h) = inr (h.0, ap (λ (zs : List Told). x ∷ zs) h.1)

  pub one_course : (xs ys : List Told) (bytes : List ℕ) → Course bytes xs → Course bytes ys
      → BeginsAs xs ys ⊎ BeginsAs ys xs
  one_course [] ys bytes c d = inr (ys, refl)
  one_course (x ∷ xs) [] bytes c d = inl (x ∷ xs, refl)
  one_course (Gives v i ∷ xs) (Gives w j ∷ ys) bytes c d =
      let one = one_whole limits bytes c.2.2.0 d.2.2.0 c.2.2.1 d.2.2.1 (length v.bytes) (length w.bytes) (whole bytes c.0 v c.1 c.2) (whole bytes d.0 w d.1 d.2) in
      let same = same_bytes bytes c.0 d.0 v w c.1 d.1 one.2 in
      let view = same_view v w (c.2.0 ∙ sym d.2.0) same.0 in
      let fds : i ≡ j = c.3 c.2.2.0 c.2.2.1 c.2.2.2 ∙ sym (d.3 c.2.2.0 c.2.2.1 (subst (λ (u : ViewState). Views u c.2.2.0 c.2.2.1) view c.2.2.2)) in
      subst (λ (x : Told). BeginsAs (Gives v i ∷ xs) (x ∷ ys) ⊎ BeginsAs (x ∷ ys) (Gives v i ∷ xs)) (ap (λ (u : ViewState). Gives u i) view ∙ ap (Gives w) fds)
      (longer (Gives v i) xs ys (one_course xs ys c.0 c.4 (subst (λ (b : List ℕ). Course b ys) (sym same.1) d.4)))
  one_course (Gives v i ∷ xs) (Passes k g ∷ ys) bytes c d = absurd (given bytes v i k g xs c d.0)
  one_course (Passes n h ∷ xs) (Gives w j ∷ ys) bytes c d = absurd (given bytes w j n h ys d c.0)
  one_course (Passes n h ∷ xs) (Passes k g ∷ ys) bytes c d =
      let same = passed_once settings bytes n k h g c.0 d.0 in
      subst (λ (x : Told). BeginsAs (Passes n h ∷ xs) (x ∷ ys) ⊎ BeginsAs (x ∷ ys) (Passes n h ∷ xs)) (ap (Passes n) same.0 ∙ ap (λ (m : ℕ). Passes m g) same.1)
      (longer (Passes n h) xs ys (one_course xs ys (drop n bytes) c.1 (subst (λ (m : ℕ). Course (drop m bytes) ys) (sym same.1) d.1)))
  one_course (Passes n h ∷ xs) (Refuses g ∷ ys) bytes c d = absurd (not_passed settings bytes n h c.0 d.2)
  one_course (Refuses f ∷ xs) (Passes k g ∷ ys) bytes c d = absurd (not_passed settings bytes k g d.0 c.2)
  one_course (Gives v i ∷ xs) (Refuses g ∷ ys) bytes c d = absurd (not_both limits bytes c.2.2.0 c.2.2.1 (length v.bytes) g (whole bytes c.0 v c.1 c.2) d.0)
  one_course (Refuses f ∷ xs) (Gives w j ∷ ys) bytes c d = absurd (not_both limits bytes d.2.2.0 d.2.2.1 (length w.bytes) f (whole bytes d.0 w d.1 d.2) c.0)
  one_course (Refuses f ∷ xs) (Refuses g ∷ ys) bytes c d = inl ([], cc (one_fault limits bytes f g c.0 d.0, c.1, d.1))
  one_course (Gives v i ∷ xs) (y ∷ ys) bytes c d = absurd d
  one_course (Passes n h ∷ xs) (y ∷ ys) bytes c d = absurd d
  one_course (Refuses f ∷ xs) (y ∷ ys) bytes c d = absurd d
  one_course (x ∷ xs) (y ∷ ys) bytes c d = absurd c

  -- ---- what is taken

  -- a call takes so many bytes, and those after it the others of them; these are they behind those that are skipped
  module _ (skip handed more taken : ℕ) (bytes : List ℕ) (later : List Call) (at : taken ≡ min skip (length (take handed bytes)) + more) where
    abbrev all : List ℕ
    all = take (taken + taken_of later) bytes

    others : ((skip : ℕ) (rest : List ℕ) → AreCalls settings (Messages skip) rest later → AreOf (came later) (drop skip (take (taken_of later) rest)))
        → AreCalls settings (Messages (skip - length (take handed bytes))) (drop taken bytes) later
        → AreOf (came later) (drop more (drop skip all))
    others goes are =
        let e = ap (drop (skip - length (take handed bytes))) (sym (drop-take taken (taken_of later) bytes)) ∙ behind skip (length (take handed bytes)) more taken all at in
        subst (AreOf (came later)) e (goes (skip - length (take handed bytes)) (drop taken bytes) are)

    -- the first of them are the first of the piece
    firsts : more ≤ length (drop skip (take handed bytes))
        → take more (drop skip (take handed bytes)) ≡ take more (drop skip all)
    firsts inside =
        let first : more ≤ handed - skip = omega (arith, inside, length-drop skip (take handed bytes), length-take handed bytes) in
        let second : more ≤ (taken + taken_of later) - skip = omega (arith, inside, at, length-drop skip (take handed bytes)) in
        ap (take more) (front skip handed bytes) ∙ take-take more (handed - skip) (drop skip bytes) first
        ∙ sym (ap (take more) (front skip (taken + taken_of later) bytes) ∙ take-take more ((taken + taken_of later) - skip) (drop skip bytes) second)

    taken_then : (told : Told)
        → ((skip : ℕ) (rest : List ℕ) → AreCalls settings (Messages skip) rest later → AreOf (came later) (drop skip (take (taken_of later) rest)))
        → IsRead settings (drop skip (take handed bytes)) more told
        → AreCalls settings (stands_by (Messages (skip - length (take handed bytes))) told) (drop taken bytes) later
        → AreOf (coming told (came later)) (drop skip all)
    taken_then (Passes n header) goes is are =
        let e : take (taken_of later) (drop taken bytes) ≡ drop skip all = sym (drop-take taken (taken_of later) bytes) ∙ ap (λ (k : ℕ). drop k all) (skipped skip handed more taken bytes n header is at) in
        subst (λ (b : List ℕ). AreOf (came later) (drop n b)) e (goes n (drop taken bytes) are)
    taken_then (Refuses fault) goes is are =
        let r = rests later (drop taken bytes) are in
        subst (λ (told : List Told). AreOf told (drop skip all)) (sym r.came) (drop_of_length-le all (omega (arith, at, is.1, r.taken, length-take (taken + taken_of later) bytes)))
    taken_then (Wants n) goes is are = subst (λ (k : ℕ). AreOf (came later) (drop k (drop skip all))) is.1 (others goes are)
    taken_then (Gives view fds) goes is are =
        let own : view.bytes ≡ take more (drop skip all) = is.0.1 ∙ firsts is.1 in
        (drop more (drop skip all), sym (take-append-drop more (drop skip all)) ∙ ap (λ (x : List ℕ). x ++ drop more (drop skip all)) (sym own), others goes are)
    taken_then (Sends send) goes is are = absurd is
    taken_then (Begins send guid agreed) goes is are = absurd is
    taken_then Fails goes is are = absurd is
    taken_then IsOver goes is are = absurd is

  takes : (calls : List Call) (skip : ℕ) (bytes : List ℕ)
      → AreCalls settings (Messages skip) bytes calls
      → AreOf (came calls) (drop skip (take (taken_of calls) bytes))
  takes [] skip bytes are = drop-nil skip
  takes (c ∷ cs) skip bytes are =
      let read = are.0 in taken_then skip c.handed read.0 c.answer.taken bytes cs read.2 c.answer.told (takes cs) read.1 are.1

pub takes_messages : TakesMessages
takes_messages settings bytes calls are = takes settings calls 0 bytes are

pub bounded : Bounded
bounded settings skip bytes a n answers is =
    let wanted = (subst (IsRead settings (drop skip bytes) answers.0) is answers.1).0 in
    elim wanted.stated [
      | inl states ↦ inl (wanted.fits n states)
      | inr few ↦ inr few.0
    ]
