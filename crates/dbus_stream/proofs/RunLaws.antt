-- A run of a cutter gives the messages of the one cut of the bytes that it is handed, in whatever
-- pieces they come.
use Rattle.std.proofs.Common.{◌≡◌, ℕ, ◌+◌, ◌≤◌, List, [], ◌∷◌, ◌++◌, length, drop, Option, None, Some, Ok, Err, refl, sym, ap, ◌∙◌, subst, arith, append_assoc, append-nil, length-append, inl, inr}
use Rattle.std.specs.List.{concat}
use Rattle.std.proofs.lemmas.List.{drop-append-le}
use Rattle.std.proofs.Math.Seq.{drop-append-add, drop-length}
use Rattle.dbus_value_model.specs.declared.order.Order.{Order}
use Rattle.dbus_value_model.specs.declared.fault.Fault.{Fault}
use Rattle.dbus_value_model.specs.declared.limits.Limits.{Limits}
use Rattle.dbus_message_model.specs.declared.message.Message.{Message}
use Rattle.dbus_message_model.specs.MessageViews.{message_tree}
use Rattle.dbus_header.specs.MessageOutcomes.{IsWhole, IsRefused, IsPartial}
use Rattle.dbus_header.proofs.OutcomeLaws.{whole_for_good, refused_for_good, whole_inside, nothing_partial}
use Rattle.dbus_stream.specs.declared.stream_fault.StreamFault.TheVariants.{Memory, Format}
use Rattle.dbus_stream.specs.Cut.{CutMessage, BeginWith, IsOutcome}
use Rattle.dbus_stream.specs.Cutting.{CutterState, fresh, TakeAnswer, TakeAnswers, Takes}
use Rattle.dbus_stream.specs.Runs.{taken, again, Feeds, given_by, outcome_of, IsSettled, CutsInto}
use Rattle.dbus_stream.proofs.CutLaws.{BeginWith-first}

-- what a cutter holds and answers, where these bytes are ahead
record Stands (now : CutterState) (ahead : List ℕ) : Type 0 where
  unfinished : now.fault ≡ None → IsPartial now.limits now.held
  refused : (f : Fault) → now.fault ≡ Some f → IsRefused now.limits (now.held ++ ahead) f

-- the bytes were cut into these messages, what is held and what is left; the limits stay
record Reaches (limits : Limits) (bytes : List ℕ) (given : List CutMessage) (now : CutterState) (left : List ℕ) : Type 0 where
  messages : BeginWith limits bytes given (now.held ++ left)
  limits_stay : now.limits ≡ limits
  stands : Stands now left

-- no byte is lost that is handed in again
concat-again : (piece : List ℕ) (pieces : List (List ℕ)) → concat (again piece pieces) ≡ piece ++ concat pieces
concat-again [] pieces = refl
concat-again (x ∷ xs) pieces = refl

unfaulted : (limits : Limits) (held ahead : List ℕ) → IsPartial limits held → Stands (record { limits = limits; held = held; fault = None }) ahead
unfaulted limits held ahead p = record { unfinished = λ e. p; refused = λ f e. absurd cc }

faulted : (limits : Limits) (held ahead : List ℕ) (fault : Fault) → IsRefused limits (held ++ ahead) fault → Stands (record { limits = limits; held = held; fault = Some fault }) ahead
faulted limits held ahead fault r = record {
  unfinished = λ e. absurd cc;
  refused = λ f e. let same : fault ≡ f = cc in subst (λ g. IsRefused limits (held ++ ahead) g) same r;
}

-- a message that ends in the piece
given_first : (limits : Limits) (held piece suffix : List ℕ) (item : CutMessage) (n : ℕ) (items : List CutMessage) (rest : List ℕ) → item.size ≡ length held + n
    → IsWhole limits (held ++ piece) item.order item.message item.size → BeginWith limits (drop n piece ++ suffix) items rest
    → BeginWith limits (held ++ (piece ++ suffix)) (item ∷ items) rest
given_first limits held piece suffix item n items rest size w f =
    let inside : item.size ≤ length (held ++ piece) = (whole_inside limits (held ++ piece) item.order item.message item.size w).1 in
    let within : n ≤ length piece = omega (arith, length-append held piece, inside, size) in
    let cut : drop item.size (held ++ (piece ++ suffix)) ≡ drop n piece ++ suffix
    = ap (λ k. drop k (held ++ (piece ++ suffix))) size ∙ (drop-append-add held (piece ++ suffix) n ∙ drop-append-le n piece suffix within) in (
      subst (λ l. IsWhole limits l item.order item.message item.size) (append_assoc held piece suffix)
          (whole_for_good limits (held ++ piece) suffix item.order item.message item.size w),
      subst (λ l. BeginWith limits l items rest) (sym cut) f,
    )

-- what calls came to from a state on, where these bytes were ahead
abbrev Onward : {A : Type 0} → List (TakeAnswer A) → CutterState → List ℕ → CutterState → List ℕ → Type 0
Onward answers old ahead now left = Stands old ahead → Reaches old.limits (old.held ++ ahead) (given_by (length old.held) answers) now left

-- one call, and then the others
module _ {A : Type 0} (answers : List (TakeAnswer A)) (limits : Limits) (held piece ahead : List ℕ) (new now : CutterState) (left : List ℕ) where
  -- that met no fault before
  onward_by : (answer : TakeAnswer A) → TakeAnswers (record { limits = limits; held = held; fault = None }) piece new answer → Onward answers new (drop (taken answer) piece ++ ahead) now left
      → IsPartial limits held → Reaches limits (held ++ (piece ++ ahead)) (given_by (length held) (answer ∷ answers)) now left
  onward_by (Ok (n, Some given)) t others p =
      let item : CutMessage = record { order = given.0; message = message_tree given.1; size = length held + n } in
      let r = subst (λ s. Onward answers s (drop n piece ++ ahead) now left) t.1 others (unfaulted limits [] _ (nothing_partial limits)) in
      record {
        messages = given_first limits held piece ahead item n (given_by 0 answers) (now.held ++ left) refl t.0 r.messages;
        limits_stay = r.limits_stay;
        stands = r.stands;
      }
  onward_by (Ok (n, None)) t others p =
      let r = subst (λ s. Onward answers s (drop n piece ++ ahead) now left) t.2 others (unfaulted limits (held ++ piece) _ t.0) in
      let none : drop n piece ≡ [] = ap (λ k. drop k piece) t.1 ∙ drop-length piece in
      let all : (held ++ piece) ++ (drop n piece ++ ahead) ≡ held ++ (piece ++ ahead) = ap (λ l. (held ++ piece) ++ (l ++ ahead)) none ∙ append_assoc held piece ahead in
      let count : length (held ++ piece) ≡ length held + n = length-append held piece ∙ ap (λ k. length held + k) (sym t.1) in
      subst (λ l. Reaches limits l (given_by (length held + n) answers) now left) all
      (subst (λ k. Reaches limits ((held ++ piece) ++ (drop n piece ++ ahead)) (given_by k answers) now left) count r)
  onward_by (Err Memory) t others p = subst (λ s. Onward answers s (piece ++ ahead) now left) t others (unfaulted limits held _ p)
  onward_by (Err (Format fault)) t others p =
      let refused = subst (λ l. IsRefused limits l fault) (append_assoc held piece ahead) (refused_for_good limits (held ++ piece) ahead fault t.0) in
      subst (λ s. Onward answers s (piece ++ ahead) now left) t.1 others (faulted limits held _ fault refused)

  onward_call : (fault : Option Fault) (answer : TakeAnswer A) → Takes (record { limits = limits; held = held; fault = fault }) piece new answer
      → Onward answers new (drop (taken answer) piece ++ ahead) now left → Onward (answer ∷ answers) (record { limits = limits; held = held; fault = fault }) (piece ++ ahead) now left
  onward_call None answer t others = λ s. onward_by answer (t.answers refl) others (s.unfinished refl)
  onward_call (Some fault) answer t others =
      let stays = t.stays fault refl in
      let again = subst (λ x. Onward answers new (drop (taken x) piece ++ ahead) now left) stays.0 others in
      subst (λ x. Onward (x ∷ answers) (record { limits = limits; held = held; fault = Some fault }) (piece ++ ahead) now left) (sym stays.0)
      (subst (λ s. Onward answers s (piece ++ ahead) now left) stays.1 again)

-- the calls from a state on
onward : {A : Type 0} (answers : List (TakeAnswer A)) (old : CutterState) (pieces : List (List ℕ)) (now : CutterState) (left : List (List ℕ)) → Feeds old pieces answers now left
    → Onward answers old (concat pieces) now (concat left)
onward [] old pieces now left f = λ s. record {
  messages = (λ i. (sym f.0 i).held ++ concat (sym f.1 i));
  limits_stay = ap (λ (s : CutterState). s.limits) f.0;
  stands = subst (λ (x : CutterState). Stands x (concat left)) (sym f.0) (subst (λ l. Stands old (concat l)) (sym f.1) s);
}
onward (answer ∷ answers) old [] now left f = absurd f
onward (answer ∷ answers) old (piece ∷ pieces) now left f =
    onward_call answers old.limits old.held piece (concat pieces) f.0 now (concat left) old.fault answer f.1
    (subst (λ l. Onward answers f.0 l now (concat left)) (concat-again (drop (taken answer) piece) pieces) (onward answers f.0 (again (drop (taken answer) piece) pieces) now left f.2))

-- the outcome, where nothing more is handed in
settled_outcome : (limits : Limits) (held left : List ℕ) (fault : Option Fault) → Stands (record { limits = limits; held = held; fault = fault }) left
    → IsSettled (record { limits = limits; held = held; fault = fault }) left → IsOutcome limits (held ++ left) (outcome_of held fault)
settled_outcome limits held left (Some fault) s e = s.refused fault refl
settled_outcome limits [] left None s e = elim e [ inl none ↦ none | inr met ↦ let never : None ≡ Some met.0 = met.1 in absurd cc ]
settled_outcome limits (x ∷ xs) left None s e = elim e [
  | inl none ↦
      let same : (x ∷ xs) ++ left ≡ x ∷ xs = ap (λ l. (x ∷ xs) ++ l) none ∙ append-nil (x ∷ xs) in
      (λ empty. absurd cc, subst (IsPartial limits) (sym same) (s.unfinished refl))
  | inr met ↦ let never : None ≡ Some met.0 = met.1 in absurd cc
]

-- however bytes are cut into pieces
pub however_cut : {A : Type 0} (limits : Limits) (pieces left : List (List ℕ)) (answers : List (TakeAnswer A)) (now : CutterState)
    → Feeds (fresh limits) pieces answers now left → CutsInto limits (concat pieces) (given_by 0 answers) now (concat left)
however_cut limits pieces left answers now f =
    let r = onward answers (fresh limits) pieces now left f (unfaulted limits [] (concat pieces) (nothing_partial limits)) in
    record {
      messages = r.messages;
      limits_stay = r.limits_stay;
      first = λ all rest outcome c.
          let more = BeginWith-first limits (concat pieces) (given_by 0 answers) all (now.held ++ concat left) rest outcome r.messages c.messages c.outcome_is in
          (more.0, more.1);
      all = λ e.
          let settled = settled_outcome now.limits now.held (concat left) now.fault r.stands e in
          record { messages = r.messages; outcome_is = subst (λ l. IsOutcome l (now.held ++ concat left) (outcome_of now.held now.fault)) r.limits_stay settled };
    }

module _ {A : Type 0} where
  -- a call that gives a message holds nothing after it
  gives_all : (fault : Option Fault) (limits : Limits) (held piece : List ℕ) (n : ℕ) (given : Order × Message A) (new : CutterState)
      → Takes (record { limits = limits; held = held; fault = fault }) piece new (Ok (n, Some given)) → new.held ≡ []
  gives_all None limits held piece n given new t = ap (λ (s : CutterState). s.held) (t.answers refl).1
  gives_all (Some fault) limits held piece n given new t = absurd (let never = (t.stays fault refl).0 in cc)

  last_holds_none : (answers : List (TakeAnswer A)) (n : ℕ) (given : Order × Message A) (old : CutterState) (pieces : List (List ℕ)) (now : CutterState) (left : List (List ℕ))
      → Feeds old pieces (answers ++ Ok (n, Some given) ∷ []) now left → now.held ≡ []
  last_holds_none [] n given old [] now left f = absurd f
  last_holds_none [] n given old (piece ∷ pieces) now left f =
      ap (λ (s : CutterState). s.held) f.2.0 ∙ gives_all old.fault old.limits old.held piece n given f.0 f.1
  last_holds_none (answer ∷ answers) n given old [] now left f = absurd f
  last_holds_none (answer ∷ answers) n given old (piece ∷ pieces) now left f =
      last_holds_none answers n given f.0 (again (drop (taken answer) piece) pieces) now left f.2

  pub none_past : (limits : Limits) (pieces left : List (List ℕ)) (answers : List (TakeAnswer A)) (n : ℕ) (given : Order × Message A) (now : CutterState)
      → Feeds (fresh limits) pieces (answers ++ Ok (n, Some given) ∷ []) now left
      → BeginWith limits (concat pieces) (given_by 0 (answers ++ Ok (n, Some given) ∷ [])) (concat left)
  none_past limits pieces left answers n given now f =
      let run = however_cut limits pieces left (answers ++ Ok (n, Some given) ∷ []) now f in
      subst (λ (l : List ℕ). BeginWith limits (concat pieces) (given_by 0 (answers ++ Ok (n, Some given) ∷ [])) (l ++ concat left))
      (last_holds_none answers n given (fresh limits) pieces now left f) run.messages
