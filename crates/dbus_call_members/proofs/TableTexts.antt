-- The lines of a table, by their pieces.
use Rattle.std.proofs.Common.{◌≡◌, ℕ, List, [], ◌∷◌, ◌++◌, Bool, true, false, if◌then◌else◌, codes, refl, append-nil, append_assoc}
use Rattle.dbus_json.specs.JsonValues.{member, object}
use Rattle.dbus_call_lines.specs.CallLines.{behind_commas}

-- what is there if a number is not zero
pub not_none : {A : Type 0} (b : Bool) (x : List A) → b ≡ false → x ≡ (if b then [] else x)
not_none true x is = absurd cc
not_none false x is = refl

three : (a v b w c x : List ℕ) → a ++ (v ++ (b ++ (w ++ (c ++ x)))) ≡ (a ++ v) ++ ((b ++ w) ++ ((c ++ x) ++ []))
three a v b w c x = simp (append-nil, append_assoc)

pub times_are : (total mean longest : List ℕ) → codes ",\"total_milliseconds\":" ++ (total ++ (codes ",\"mean_milliseconds\":" ++ (mean ++ (codes ",\"longest_milliseconds\":" ++ longest))))
    ≡ behind_commas (member (codes "total_milliseconds") total ∷ member (codes "mean_milliseconds") mean ∷ member (codes "longest_milliseconds") longest ∷ [])
times_are total mean longest = three (codes ",\"total_milliseconds\":") total (codes ",\"mean_milliseconds\":") mean (codes ",\"longest_milliseconds\":") longest

pieces : (first q n a v b w c x d y times close end : List ℕ) → (first ++ q) ++ (n ++ (a ++ (v ++ (b ++ (w ++ (c ++ (x ++ (d ++ (y ++ (times ++ (close ++ end))))))))))) ≡ (first ++ (((q ++ n) ++ ((a ++ v) ++ ((b ++ w) ++ ((c ++ x) ++ ((d ++ y) ++ times))))) ++ close)) ++ end
pieces first q n a v b w c x d y times close end = simp (append_assoc)

pub object_is : (name calls replies errors unanswered : List ℕ) (times : List (List ℕ))
    → codes "{\"member\":" ++ (name ++ (codes ",\"calls\":" ++ (calls ++ (codes ",\"replies\":" ++ (replies ++ (codes ",\"errors\":" ++ (errors ++ (codes ",\"no_reply\":" ++ (unanswered ++ (behind_commas times ++ codes "}\n"))))))))))
    ≡ object (member (codes "member") name ∷ member (codes "calls") calls ∷ member (codes "replies") replies ∷ member (codes "errors") errors ∷ member (codes "no_reply") unanswered ∷ times) ++ codes "\n"
object_is name calls replies errors unanswered times =
    pieces (codes "{") (codes "\"member\":") name (codes ",\"calls\":") calls (codes ",\"replies\":") replies (codes ",\"errors\":") errors (codes ",\"no_reply\":") unanswered (behind_commas times) (codes "}") (codes "\n")
