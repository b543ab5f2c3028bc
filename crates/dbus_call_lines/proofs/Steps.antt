-- What a list of calls keeps, from one message to the next.
use Rattle.std.proofs.Common.{◌≡◌, ℕ, List, [], ◌∷◌, ◌++◌, Bool, true, false, Option, None, Some, option_map, string_bytes, if◌then◌else◌, map, refl, ap, ◌∙◌, sym, subst, arith, append_assoc, append-nil, ◌+◌, ◌<◌, length, take, get_or, Bor}
use Rattle.std.specs.Cmp.{IsStrictWeakOrder, nat_cmp_total}
use Rattle.std.specs.List.{slice_index_or}
use Rattle.std.specs.List.Sorted.{IsSortedBy}
use Rattle.std.specs.Ordering.{is_lt, nat_cmp}
use Rattle.std.proofs.lemmas.List.{get_or-map, length-map, take_more}
use Rattle.std.proofs.lemmas.List.Sorted.{ranks_by}
use Rattle.std.specs.Str.{bytes_eq}
use Rattle.dbus_calls.specs.Answering.{may_answer}
use Rattle.dbus_calls.specs.Events.{destination_of}
use Rattle.dbus_calls.specs.Pairing.{run, step}
use Rattle.dbus_calls.specs.Waiting.{Waiting, after_reply, answered, is_same, with_call, without_call, without_caller}
use Rattle.dbus_call_lines.specs.Keeping.{EndedCall, KeptCall, Texts, as_list, ended_if, ended_kept, ended_row, ended_rows, kept, kept_of}
use Rattle.dbus_call_lines.specs.Listing.{Numbered, Row, message_of, row}
use Rattle.dbus_call_lines.specs.Outcomes.{Outcome}
use Rattle.dbus_call_lines.specs.declared.wanted.Wanted.{Wanted}
use Rattle.dbus_call_lines.specs.declared.waiting_call.WaitingCall.{WaitingCall}

pub run_push : (w : Waiting Numbered) (xs : List Numbered) (x : Numbered) → run message_of w (xs ++ x ∷ []) ≡ step message_of (run message_of w xs) x
run_push w [] x = refl
run_push w (y ∷ ys) x = run_push (step message_of w y) ys x

abbrev pub sent_to : WaitingCall → Option (List ℕ)
sent_to call = option_map string_bytes call.parts.value.destination

abbrev pub to : Numbered → Option (List ℕ)
to call = destination_of call.message

module _ (texts : Texts) (wanted : Wanted) where
  abbrev pub IsKept : Option WaitingCall → Option Numbered → Type 0
  IsKept o p = option_map kept o ≡ option_map (kept_of texts wanted) p

  abbrev pub AreKept : Waiting WaitingCall → Waiting Numbered → Type 0
  AreKept w v = (caller : List ℕ) (serial : ℕ) → IsKept (w caller serial) (v caller serial)

  either_kept : (b : Bool) (o o' : Option WaitingCall) (p p' : Option Numbered) → IsKept o p → IsKept o' p' → IsKept (if b then o else o') (if b then p else p')
  either_kept true o o' p p' h k = h
  either_kept false o o' p p' h k = k

  module _ (w : Waiting WaitingCall) (v : Waiting Numbered) (are : AreKept w v) (c : List ℕ) (s : ℕ) where
    pub with_kept : (call : WaitingCall) (x : Numbered) → kept call ≡ kept_of texts wanted x → AreKept (with_call c s call w) (with_call c s x v)
    with_kept call x is = λ d t. either_kept (is_same c s d t) (Some call) (w d t) (Some x) (v d t) (ap Some is) (are d t)

    pub without_kept : AreKept (without_call c s w) (without_call c s v)
    without_kept = λ d t. either_kept (is_same c s d t) None (w d t) None (v d t) refl (are d t)

    pub left_kept : AreKept (without_caller c w) (without_caller c v)
    left_kept = λ d t. either_kept (bytes_eq c d) None (w d t) None (v d t) refl (are d t)

    none_some : (x : KeptCall) → ◌≡◌ {A = Option KeptCall} None (Some x) → ⊥
    none_some x is = grind arith

    one_kept : (x y : KeptCall) → ◌≡◌ {A = Option KeptCall} (Some x) (Some y) → x ≡ y
    one_kept x y is = cc

    module _ (sender : Option (List ℕ)) where
      may_same : (call : WaitingCall) (x : Numbered) → kept call ≡ kept_of texts wanted x → may_answer (sent_to call) sender ≡ may_answer (to x) sender
      may_same call x is = ap (λ k. may_answer k.destination sender) is

      answered_kept : (o : Option WaitingCall) (p : Option Numbered) → IsKept o p → IsKept (answered sent_to o sender) (answered to p sender)
      answered_kept None None is = refl
      answered_kept None (Some x) is = absurd (none_some (kept_of texts wanted x) is)
      answered_kept (Some call) None is = absurd (none_some (kept call) (sym is))
      answered_kept (Some call) (Some x) is =
          ap (λ b. option_map kept (if b then Some call else None)) (may_same call x (one_kept (kept call) (kept_of texts wanted x) is))
          ∙ either_kept (may_answer (to x) sender) (Some call) None (Some x) None is refl

      after_kept : (o : Option WaitingCall) (p : Option Numbered) → IsKept o p → AreKept (after_reply sent_to o c s sender w) (after_reply to p c s sender v)
      after_kept None None is = are
      after_kept None (Some x) is = absurd (none_some (kept_of texts wanted x) is)
      after_kept (Some call) None is = absurd (none_some (kept call) (sym is))
      after_kept (Some call) (Some x) is = λ d t.
          ap (λ b. option_map kept (if b then without_call c s w d t else w d t)) (may_same call x (one_kept (kept call) (kept_of texts wanted x) is))
          ∙ either_kept (may_answer (to x) sender) (without_call c s w d t) (w d t) (without_call c s v d t) (v d t) (without_kept d t) (are d t)

      pub answer_kept : IsKept (answered sent_to (w c s) sender) (answered to (v c s) sender)
      answer_kept = answered_kept (w c s) (v c s) (are c s)

      pub reply_kept : AreKept (after_reply sent_to (w c s) c s sender w) (after_reply to (v c s) c s sender v)
      reply_kept = after_kept (w c s) (v c s) (are c s)

  -- what is known of a map is known of one that has the same
  pub kept_by : (w w' : Waiting WaitingCall) (v v' : Waiting Numbered) → ((c : List ℕ) (s : ℕ) → w' c s ≡ w c s) → AreKept w v → v' ≡ v → AreKept w' v'
  kept_by w w' v v' is are same = λ c s. ap (option_map kept) (is c s) ∙ (are c s ∙ ap (λ u. option_map (kept_of texts wanted) (u c s)) (sym same))

  -- ---- calls that ended

  pub ended_of : (outcome : Outcome) (calls : List Numbered) → ended_kept wanted outcome (map (kept_of texts wanted) calls) ≡ ended_rows texts wanted (map (row outcome) calls)
  ended_of outcome [] = refl
  ended_of outcome (x ∷ xs) = ap (λ t. ended_row texts wanted (row outcome x) ++ t) (ended_of outcome xs)

  pub ended_both : (a b : List Row) → ended_rows texts wanted (a ++ b) ≡ ended_rows texts wanted a ++ ended_rows texts wanted b
  ended_both [] b = refl
  ended_both (r ∷ a) b = ap (λ t. ended_row texts wanted r ++ t) (ended_both a b) ∙ sym (append_assoc (ended_row texts wanted r) (ended_rows texts wanted a) (ended_rows texts wanted b))

  pub list_kept : (p : Option Numbered) → as_list (option_map (kept_of texts wanted) p) ≡ map (kept_of texts wanted) (as_list p)
  list_kept None = refl
  list_kept (Some x) = refl

module _ (wanted : Wanted) where
  abbrev pub one_now : Outcome → Bor WaitingCall → List EndedCall
  one_now outcome p = ended_if wanted outcome (kept p.now).place (kept p.now).text

  abbrev pub all_now : Outcome → List (Bor WaitingCall) → List EndedCall
  all_now outcome ps = ended_kept wanted outcome (map kept (map (λ c. c.now) ps))

  pub kept_push : (outcome : Outcome) (ps : List (Bor WaitingCall)) (p : Bor WaitingCall) → all_now outcome (ps ++ p ∷ []) ≡ all_now outcome ps ++ one_now outcome p
  kept_push outcome [] p = append-nil (one_now outcome p)
  kept_push outcome (q ∷ ps) p = ap (λ t. one_now outcome q ++ t) (kept_push outcome ps p) ∙ sym (append_assoc (one_now outcome q) (all_now outcome ps) (one_now outcome p))

-- a sink that gains the calls of items in a row, and those of the next
module _ {S : Type 0} (gains : S → List EndedCall → S → Type 0) (joins : (a b c : S) (s t : List EndedCall) → gains a s b → gains b t c → gains a (s ++ t) c) where
  pub one_more : {X : Type 0} {a b c : S} (all : List X → List EndedCall) (one : X → List EndedCall) → ((xs : List X) (x : X) → all (xs ++ x ∷ []) ≡ all xs ++ one x) → (xs : List X) (i : ℕ) (x : X)
      → i < length xs → x ≡ get_or xs i x → gains a (all (take i xs)) b → gains b (one x) c → gains a (all (take (i + 1) xs)) c
  one_more {X} {a} {b} {c} all one push xs i x h is p q =
      let e : all (take i xs) ++ one x ≡ all (take (i + 1) xs) = sym (ap all (take_more xs i x h ∙ ap (λ y. take i xs ++ y ∷ []) (sym is)) ∙ push (take i xs) x) in
      subst (λ t. gains a t c) e (joins a b c (all (take i xs)) (one x) p q)

-- ---- what is sorted

abbrev pub later_now : Bor WaitingCall → Bor WaitingCall → Bool
later_now p q = is_lt (nat_cmp (kept p.now).place.number (kept q.now).place.number)

pub now_ranks : IsStrictWeakOrder later_now
now_ranks = ranks_by nat_cmp_total (λ (p : Bor WaitingCall). (kept p.now).place.number)

no_less : (k : ℕ) → k + 1 < 0 → ⊥
no_less k l = omega (arith, l)

pub sorted_now : (ps : List (Bor WaitingCall)) → IsSortedBy later_now ps → IsSortedBy (λ a b. is_lt (nat_cmp (kept a).place.number (kept b).place.number)) (map (λ p. p.now) ps)
sorted_now [] sorted = λ k d low l. absurd (no_less k l)
sorted_now (p ∷ ps) sorted = λ k d low l.
    let f : Bor WaitingCall → WaitingCall = λ q. q.now in
    let same : length (map f (p ∷ ps)) ≡ length (p ∷ ps) = length-map (p ∷ ps) f in
    let next : k + 1 < length (p ∷ ps) = subst (λ n. k + 1 < n) same l in
    ap (λ (a : WaitingCall). is_lt (nat_cmp (kept a).place.number (kept (slice_index_or (map f (p ∷ ps)) k d)).place.number)) (get_or-map f (p ∷ ps) (k + 1) p d next)
    ∙ (ap (λ (b : WaitingCall). is_lt (nat_cmp (kept (slice_index_or (p ∷ ps) (k + 1) p).now).place.number (kept b).place.number)) (get_or-map f (p ∷ ps) k p d (omega (arith, next))) ∙ sorted k p low next)
