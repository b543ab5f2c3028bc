-- What comes in order is parted in one way among messages that say how many are theirs.
use Rattle.std.proofs.Common.{◌≡◌, suc, ◌<◌, ◌≤◌, List, [], ◌∷◌, ◌++◌, length, refl, sym, ◌∙◌, ap, append_assoc, arith}
use Rattle.std.proofs.lemmas.List.{append-nil}
use Rattle.std.specs.List.{flat_map}
use Rattle.dbus_descriptors.specs.Sharing.{AreOf, AreOfEach, CameBefore, CameBehind, EachOnce, Keeps, Leaves}
use Rattle.dbus_descriptors.specs.Sharing.{OneSharing, Refusal, Row, Takes, Told, came_of, messages_of, shares_of}
use Rattle.dbus_descriptors.specs.declared.descriptors.Came.{Came}
use Rattle.dbus_descriptors.specs.declared.descriptors.MessageEnd.{MessageEnd}

module _ {T : Type 0} where
  abbrev joined : List (Row T) → Row T
  joined shares = flat_map (λ share. share) shares

  -- ---- each once

  whole : (told : List (Told T)) (waiting left : Row T) → Leaves waiting told left
      → waiting ++ came_of told ≡ joined (shares_of told) ++ left
  whole [] waiting left h = append-nil waiting ∙ h
  whole (Keeps d ∷ told) waiting left h =
      sym (append_assoc waiting (d ∷ []) (came_of told)) ∙ whole told (waiting ++ d ∷ []) left h
  whole (Takes m share ∷ told) waiting left h =
      ap (λ (w : Row T). w ++ came_of told) h.1 ∙ append_assoc share h.0 (came_of told)
      ∙ ap (λ (w : Row T). share ++ w) (whole told h.0 left h.3)
      ∙ sym (append_assoc share (joined (shares_of told)) left)

  own : (told : List (Told T)) (waiting left : Row T) → Leaves waiting told left
      → AreOfEach (messages_of told) (shares_of told)
  own [] waiting left h = tt
  own (Keeps d ∷ told) waiting left h = own told (waiting ++ d ∷ []) left h
  own (Takes m share ∷ told) waiting left h = (h.2, own told h.0 left h.3)

  -- ---- one sharing

  same_front : (a b x y : Row T) → length a ≡ length b → a ++ x ≡ b ++ y → (a ≡ b) × (x ≡ y)
  same_front [] [] x y n e = (refl, e)
  same_front [] (d ∷ b) x y n e = absurd (omega arith)
  same_front (d ∷ a) [] x y n e = absurd (omega arith)
  same_front (d ∷ a) (c ∷ b) x y n e =
      let heads : d ≡ c = cc in
      let tails : a ++ x ≡ b ++ y = cc in
      let more = same_front a b x y (omega arith) tails in
      let fronts : a ≡ b = more.0 in
      (cc, more.1)

  one : (ms : List MessageEnd) (a b : List (Row T)) (left rest : Row T) → AreOfEach ms a → AreOfEach ms b
      → joined a ++ left ≡ joined b ++ rest → (a ≡ b) × (left ≡ rest)
  one [] [] [] left rest h k e = (refl, e)
  one [] [] (t ∷ b) left rest h k e = absurd k
  one [] (s ∷ a) b left rest h k e = absurd h
  one (m ∷ ms) [] b left rest h k e = absurd h
  one (m ∷ ms) (s ∷ a) [] left rest h k e = absurd k
  one (m ∷ ms) (s ∷ a) (t ∷ b) left rest h k e =
      let joins = sym (append_assoc s (joined a) left) ∙ e ∙ append_assoc t (joined b) rest in
      let fronts = same_front s t (joined a ++ left) (joined b ++ rest) (h.0.counted ∙ sym k.0.counted) joins in
      let first : s ≡ t = fronts.0 in
      let more = one ms a b left rest h.1 k.1 fronts.1 in
      let others : a ≡ b = more.0 in
      (cc, more.1)

  -- ---- refusal

  -- none of a message's own are among those that came behind its end
  in_front : (m : MessageEnd) (left later share rest : Row T) → left ++ later ≡ share ++ rest
      → CameBefore m share → CameBehind m later → (more : Row T) × (left ≡ share ++ more)
  in_front m left later [] rest e h k = (left, refl)
  in_front m [] [] (d ∷ share) rest e h k = absurd (cc e)
  in_front m [] (c ∷ later) (d ∷ share) rest e h k =
      let heads : c ≡ d = cc in
      let place : c.place ≡ d.place = ap (λ (x : Came T). x.place) heads in
      let before : d.place < m.end = h 0 d (omega arith) in
      let behind : m.end ≤ c.place = k 0 c (omega arith) in
      absurd (omega arith)
  in_front m (c ∷ left) later (d ∷ share) rest e h k =
      let heads : c ≡ d = cc in
      let tails : left ++ later ≡ share ++ rest = cc in
      let more = in_front m left later share rest tails (λ i x l. h (suc i) x (omega arith)) k in
      let lefts : left ≡ share ++ more.0 = more.1 in
      (more.0, cc)

  -- what the last message of some takes
  record Last (m : MessageEnd) (ms : List MessageEnd) (shares : List (Row T)) : Type 0 where
    before : List (Row T)
    share : Row T
    each : AreOfEach ms before
    own : AreOf m share
    all : joined shares ≡ joined before ++ share

  last : (m : MessageEnd) (ms : List MessageEnd) (shares : List (Row T)) → AreOfEach (ms ++ m ∷ []) shares
      → Last m ms shares
  last m [] [] h = absurd h
  last m [] (s ∷ []) h = record { before = []; share = s; each = tt; own = h.0; all = append-nil s }
  last m [] (s ∷ t ∷ shares) h = absurd h.1
  last m (n ∷ ms) [] h = absurd h
  last m (n ∷ ms) (s ∷ shares) h =
      let l = last m ms shares h.1 in
      record {
        before = s ∷ l.before;
        share = l.share;
        each = (h.0, l.each);
        own = l.own;
        all = ap (λ (x : Row T). s ++ x) l.all ∙ sym (append_assoc s (joined l.before) l.share);
      }

pub each_once : (T : Type 0) → EachOnce T
each_once T told left h = record { once = whole told [] left h; each = own told [] left h }

pub one_sharing : (T : Type 0) → OneSharing T
one_sharing T came ms a b left rest h k = one ms a b left rest h.each k.each (sym h.once ∙ k.once)

pub refusal : (T : Type 0) → Refusal T
refusal T told left later m h none behind shares rest k =
    let mine = shares_of told in
    let l = last m (messages_of told) shares k.each in
    let first : joined mine ++ (left ++ later) ≡ came_of told ++ later =
    sym (append_assoc (joined mine) left later) ∙ ap (λ (x : Row T). x ++ later) (sym (whole told [] left h)) in
    let second : came_of told ++ later ≡ joined l.before ++ (l.share ++ rest) =
    k.once ∙ ap (λ (x : Row T). x ++ rest) l.all ∙ append_assoc (joined l.before) l.share rest in
    let mine_each = own told [] left h in
    let same = one (messages_of told) mine l.before (left ++ later) (l.share ++ rest) mine_each l.each (first ∙ second) in
    let front = in_front m left later l.share rest same.1 l.own.before behind in
    none l.share front.0 front.1 l.own
