-- Reading and writing keep what they promise.
use Rattle.std.proofs.Common.{◌≡◌, ◌≢◌, ℕ, List, [], ◌∷◌, ◌++◌, length, take, drop, Option, None, Some, Result, Ok, Err, refl, sym, ap, ◌∙◌, subst, take-append-drop}
use Rattle.std.specs.Prelude.{Vec, IfOk}
use Rattle.std.specs.List.{concat}
use Rattle.std.specs.declared.alloc.AllocError.{AllocError}
use Rattle.std.proofs.lemmas.List.{drop_at}
use Rattle.dbus_value_model.specs.declared.order.Order.{Order}
use Rattle.dbus_value_model.specs.declared.fault.Fault.{Fault}
use Rattle.dbus_value_model.specs.declared.fault.Refusal.{Refusal}
use Rattle.dbus_value_model.specs.declared.fault.Refusal.TheVariants.{Memory, Format}
use Rattle.dbus_value_model.specs.declared.limits.Limits.{Limits}
use Rattle.dbus_decode.specs.declared.answer.Answer.{Answer}
use Rattle.dbus_decode.specs.declared.answer.Answer.TheVariants.{Whole, Partial}
use Rattle.dbus_message_model.specs.declared.message.Message.{Message}
use Rattle.dbus_message_model.specs.Messages.{MessageTree, message_bytes}
use Rattle.dbus_message_model.specs.MessageViews.{message_tree}
use Rattle.dbus_header.specs.MessageOutcomes.{IsWhole, IsRefused}
use Rattle.dbus_decode.specs.Decodes.{Decodes}
use Rattle.dbus_header.proofs.OutcomeLaws.{one_whole, one_fault, one_outcome, not_both, whole_bytes, whole_valid, valid_whole}
use Rattle.dbus_stream.specs.Cut.{CutMessage, BeginWith, Ended, IsCut}
use Rattle.dbus_stream.specs.Runs.{given_by, outcome_of}
use Rattle.dbus_stream.specs.Headline.{BeginsWithMessage, Accepts, Encodes, AreMessages, stream_bytes, Headline}
use Rattle.dbus_stream.proofs.CutLaws.{IsCut-one}
use Rattle.dbus_stream.proofs.RunLaws.{however_cut, none_past}

spelled_whole : (limits : Limits) (bytes : List ℕ) (order : Order) (m : MessageTree) (n : ℕ) → BeginsWithMessage limits bytes order m n → IsWhole limits bytes order m n
spelled_whole limits bytes order m n b =
    let all : message_bytes order m ++ drop n bytes ≡ bytes = ap (λ l. l ++ drop n bytes) (sym b.spelled) ∙ take-append-drop n bytes in
    subst (λ k. IsWhole limits bytes order m k) (sym b.size)
    (subst (λ l. IsWhole limits l order m (length (message_bytes order m))) all (valid_whole limits order m (drop n bytes) b.valid))

whole_spelled : (limits : Limits) (bytes : List ℕ) (order : Order) (m : MessageTree) (n : ℕ) → IsWhole limits bytes order m n → BeginsWithMessage limits bytes order m n
whole_spelled limits bytes order m n w =
    let front = whole_bytes limits bytes order m n w in
    record { valid = whole_valid limits bytes order m n w; spelled = front.0; size = front.1 }

module _ {A : Type 0} where
  whole_accepted : (limits : Limits) (bytes : List ℕ) (answer : Result (Answer A) Refusal) → Decodes limits bytes answer → answer ≢ Err Memory
      → (order : Order) (m : MessageTree) (n : ℕ) → IsWhole limits bytes order m n → Accepts answer order m n
  whole_accepted limits bytes (Ok (Whole order message used)) d some as_order m n w = one_whole limits bytes order as_order (message_tree message) m used n d w
  whole_accepted limits bytes (Ok Partial) d some order m n w = (one_outcome limits bytes).1 order m n w d
  whole_accepted limits bytes (Err Memory) d some order m n w = absurd (some refl)
  whole_accepted limits bytes (Err (Format fault)) d some order m n w = not_both limits bytes order m n fault w d

  accepted_whole : (limits : Limits) (bytes : List ℕ) (answer : Result (Answer A) Refusal) → Decodes limits bytes answer
      → (order : Order) (m : MessageTree) (n : ℕ) → Accepts answer order m n → IsWhole limits bytes order m n
  accepted_whole limits bytes (Ok (Whole order message used)) d as_order m n a =
      subst (λ k. IsWhole limits bytes as_order m k) a.2 (subst (λ t. IsWhole limits bytes as_order t used) a.1 (subst (λ o. IsWhole limits bytes o (message_tree message) used) a.0 d))
  accepted_whole limits bytes (Ok Partial) d order m n a = absurd a
  accepted_whole limits bytes (Err refusal) d order m n a = absurd a

  refused_answer : (limits : Limits) (bytes : List ℕ) (answer : Result (Answer A) Refusal) → Decodes limits bytes answer → answer ≢ Err Memory
      → (fault : Fault) → IsRefused limits bytes fault → answer ≡ Err (Format fault)
  refused_answer limits bytes (Ok (Whole order message used)) d some fault r = absurd (not_both limits bytes order (message_tree message) used fault d r)
  refused_answer limits bytes (Ok Partial) d some fault r = absurd ((one_outcome limits bytes).2 fault r d)
  refused_answer limits bytes (Err Memory) d some fault r = absurd (some refl)
  refused_answer limits bytes (Err (Format other)) d some fault r = ap (λ f. Err (Format f)) (one_fault limits bytes other fault d r)

  encoded : (limits : Limits) (bytes : List ℕ) (order : Order) (message : Message A) (used : ℕ) → IsWhole limits bytes order (message_tree message) used
      → (answer : Result (Vec ℕ A) AllocError) → Encodes message order answer → IfOk answer (λ out. out.items ≡ take used bytes)
  encoded limits bytes order message used w (Ok out) e = e ∙ sym (whole_bytes limits bytes order (message_tree message) used w).0
  encoded limits bytes order message used w (Err fault) e = tt

-- a fault is one, where the outcome is
outcome_fault : (held others : List ℕ) (fault other : Option Fault) → outcome_of held fault ≡ outcome_of others other → fault ≡ other
outcome_fault held others (Some fault) (Some other) e = cc
outcome_fault held [] (Some fault) None e = absurd cc
outcome_fault held (x ∷ xs) (Some fault) None e = absurd cc
outcome_fault [] others None (Some other) e = absurd cc
outcome_fault (x ∷ xs) others None (Some other) e = absurd cc
outcome_fault held others None None e = refl

-- messages, one after the other, are cut into themselves
begin_with_all : (limits : Limits) (items : List CutMessage) → AreMessages limits items → BeginWith limits (stream_bytes items) items []
begin_with_all limits [] a = refl
begin_with_all limits (item ∷ items) a =
    let bytes = message_bytes item.order item.message in
    let suffix : drop item.size (bytes ++ stream_bytes items) ≡ stream_bytes items = drop_at bytes (stream_bytes items) item.size (sym a.1) in (
      subst (λ k. IsWhole limits (bytes ++ stream_bytes items) item.order item.message k) (sym a.1) (valid_whole limits item.order item.message (stream_bytes items) a.0),
      subst (λ l. BeginWith limits l items []) (sym suffix) (begin_with_all limits items a.2),
    )

none_in_both : (xs ys : List ℕ) → xs ++ ys ≡ [] → (xs ≡ []) × (ys ≡ [])
none_in_both [] ys e = (refl, e)
none_in_both (x ∷ xs) ys e = absurd cc

pub headline : (A : Type 0) (limits : Limits) → Headline limits A
headline A limits = record {
  accepted = λ bytes answer d some order m n.
      (λ a. whole_spelled limits bytes order m n (accepted_whole limits bytes answer d order m n a), λ b. whole_accepted limits bytes answer d some order m n (spelled_whole limits bytes order m n b));
  encoded_back = λ bytes order message used d answer e. encoded limits bytes order message used d answer e;
  decoded_back = λ order m suffix valid answer d some.
      whole_accepted limits (message_bytes order m ++ suffix) answer d some order m (length (message_bytes order m)) (valid_whole limits order m suffix valid);
  refused = λ bytes answer d some fault.
      (λ e. subst (λ (r : Result (Answer A) Refusal). Decodes limits bytes r) e d, λ r. refused_answer limits bytes answer d some fault r);
  one_fault = one_fault limits;
  however_cut = however_cut limits;
  none_past = none_past limits;
  same_messages = λ pieces left others suffix answers replies here there same f e g k.
      let one = (however_cut limits pieces left answers here f).all e in
      let two = (however_cut limits others suffix replies there g).all k in
      let both = IsCut-one limits (concat others) (given_by 0 answers) (given_by 0 replies) (here.held ++ concat left) (there.held ++ concat suffix)
      (outcome_of here.held here.fault) (outcome_of there.held there.fault)
      (subst (λ l. IsCut limits l (given_by 0 answers) (here.held ++ concat left) (outcome_of here.held here.fault)) same one) two in
      (both.0, outcome_fault here.held there.held here.fault there.fault both.2);
  all_arrive = λ items pieces left answers now a same f e.
      let all = however_cut limits pieces left answers now f in
      let own : IsCut limits (concat pieces) items [] Ended
      = record { messages = subst (λ l. BeginWith limits l items []) (sym same) (begin_with_all limits items a); outcome_is = refl } in
      let both = IsCut-one limits (concat pieces) (given_by 0 answers) items (now.held ++ concat left) [] (outcome_of now.held now.fault) Ended (all.all e) own in
      let none = none_in_both now.held (concat left) both.1 in
      let sound : now.fault ≡ None = outcome_fault now.held [] now.fault None both.2 in
      (both.0, λ i. record { limits = all.limits_stay i; held = none.0 i; fault = sound i }, none.1);
}
