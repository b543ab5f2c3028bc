-- What is listed of messages, and then of more.
use Rattle.std.proofs.Common.{List, [], ◌∷◌, ◌++◌, ap, ◌∙◌, subst, sym, append-nil, append_assoc}
use Rattle.dbus_call_lines.specs.Listing.{AreListed, AreListedBy, ListsOpen, Numbered, Row}

pub listed_both : (before xs ys : List Numbered) (a b : List Row) → AreListedBy before xs a → AreListedBy (before ++ xs) ys b → AreListedBy before (xs ++ ys) (a ++ b)
listed_both before [] ys a b h k = subst (λ (l : List Row). AreListedBy before ys (l ++ b)) (sym h) (subst (λ (l : List Numbered). AreListedBy l ys b) (append-nil before) k)
listed_both before (x ∷ xs) ys a b h k =
    let later = subst (λ (l : List Numbered). AreListedBy l ys b) (sym (append_assoc before (x ∷ []) xs)) k in
    (h.0, h.1 ++ b, h.2, listed_both (before ++ x ∷ []) xs ys h.1 b h.3 later, ap (λ l. l ++ b) h.4 ∙ append_assoc h.0 h.1 b)

pub listed_end : (before xs : List Numbered) (a b : List Row) → AreListedBy before xs a → ListsOpen (before ++ xs) b → AreListed before xs (a ++ b)
listed_end before [] a b h k = subst (λ (l : List Row). ListsOpen before (l ++ b)) (sym h) (subst (λ (l : List Numbered). ListsOpen l b) (append-nil before) k)
listed_end before (x ∷ xs) a b h k =
    let later = subst (λ (l : List Numbered). ListsOpen l b) (sym (append_assoc before (x ∷ []) xs)) k in
    (h.0, h.1 ++ b, h.2, listed_end (before ++ x ∷ []) xs h.1 b h.3 later, ap (λ l. l ++ b) h.4 ∙ append_assoc h.0 h.1 b)
