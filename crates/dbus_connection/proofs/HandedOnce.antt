-- What waits goes from turn to turn, and each descriptor once.
use Rattle.std.proofs.Common.{◌≡◌, ℕ, suc, zero, true, false, List, [], ◌∷◌, ◌++◌, refl, sym, ◌∙◌, ap, append_assoc, take, drop, take-append-drop, arith}
use Rattle.std.proofs.lemmas.List.{append-nil, map-append}
use Rattle.dbus_descriptors.specs.Kept.{Kept}
use Rattle.dbus_descriptors.specs.Sharing.{Row, descriptors_of}
use Rattle.dbus_descriptors.specs.declared.descriptors.Came.{Came}
use Rattle.dbus_connection.specs.Handing.{AreTurns, Calls, EachOnce, Hands, Keeps, Turn, came_in, handed_out}
use Rattle.dbus_connection.specs.Standing.{Begins, Fails, Gives, IsOver, Passes, Refuses, Sends, Told, Wants}

module _ {D : Type 0} where
  both : (a b : Row D) → descriptors_of (a ++ b) ≡ descriptors_of a ++ descriptors_of b
  both a b = map-append (λ (d : Came D). d.descriptor) a b

  -- a call moves some from the front of what waits
  same : (k next : Kept D) (own : List D) → next.waiting ≡ k.waiting → own ≡ []
      → descriptors_of k.waiting ≡ own ++ descriptors_of next.waiting
  same k next own e none = ap descriptors_of (sym e) ∙ ap (λ (o : List D). o ++ descriptors_of next.waiting) (sym none)

  moved : (end : ℕ) (told : Told) (k next : Kept D) (own : List D) → Hands end told k next [] own
      → descriptors_of k.waiting ≡ own ++ descriptors_of next.waiting
  moved end (Gives view (suc n)) k next own h =
      let takes = h.0 (omega arith) in
      ap descriptors_of (sym (take-append-drop (suc n) k.waiting)) ∙ both (take (suc n) k.waiting) (drop (suc n) k.waiting)
      ∙ ap (λ (o : List D). o ++ descriptors_of (drop (suc n) k.waiting)) (sym takes.given)
      ∙ ap (λ (x : Kept D). own ++ descriptors_of x.waiting) (sym takes.left)
  moved end (Gives view zero) k next own h =
      let none = h.1 refl in same k next own (ap (λ (x : Kept D). x.waiting) none.0) none.1
  moved end (Passes n header) k next own h = same k next own (ap (λ (x : Kept D). x.waiting) h.0) h.1
  moved end (Begins send guid false) k next own h = same k next own (ap (λ (x : Kept D). x.waiting) h.0) h.1
  moved end (Begins send guid true) k next own h = same k next own (ap (λ (x : Kept D). x.waiting) h.0) h.1
  moved end (Wants n) k next own h = same k next own (ap (λ (x : Kept D). x.waiting) h.0) h.1
  moved end (Sends send) k next own h = same k next own (ap (λ (x : Kept D). x.waiting) h.0) h.1
  moved end (Refuses fault) k next own h = same k next own (ap (λ (x : Kept D). x.waiting) h.0) h.1
  moved end Fails k next own h = same k next own (ap (λ (x : Kept D). x.waiting) h.0) h.1
  moved end IsOver k next own h = same k next own (ap (λ (x : Kept D). x.waiting) h.0) h.1

  whole : (turns : List (Turn D)) (k left : Kept D) → AreTurns k turns left
      → descriptors_of k.waiting ++ came_in turns ≡ handed_out turns ++ descriptors_of left.waiting
  whole [] k left h = append-nil (descriptors_of k.waiting) ∙ ap (λ (x : Kept D). descriptors_of x.waiting) h
  whole (Keeps d ∷ turns) k left h =
      sym (append_assoc (descriptors_of k.waiting) (d.descriptor ∷ []) (came_in turns))
      ∙ ap (λ (o : List D). o ++ came_in turns) (sym (both k.waiting (d ∷ [])))
      ∙ whole turns (record k { waiting = k.waiting ++ d ∷ [] }) left h
  whole (Calls end told own ∷ turns) k left h =
      ap (λ (o : List D). o ++ came_in turns) (moved end told k h.0 own h.1)
      ∙ append_assoc own (descriptors_of h.0.waiting) (came_in turns)
      ∙ ap (λ (o : List D). own ++ o) (whole turns h.0 left h.2)
      ∙ sym (append_assoc own (handed_out turns) (descriptors_of left.waiting))

pub each_once : (D : Type 0) → EachOnce D
each_once D k left turns none h =
    ap (λ (w : Row D). descriptors_of w ++ came_in turns) (sym none) ∙ whole turns k left h
