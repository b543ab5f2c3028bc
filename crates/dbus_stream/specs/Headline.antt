-- Trusted by the headline.
-- What reading and writing promise under limits, as one law over `decode_within`, `encode` and the
-- cutter. D-Bus Specification, "Message Protocol".
use Rattle.std.specs.Prelude.{◌≡◌, ◌≢◌, ◌↔◌, ℕ, List, [], ◌∷◌, ◌++◌, length, take, Some, Vec, Result, Ok, Err, IfOk}
use Rattle.std.specs.List.{concat}
use Rattle.std.specs.declared.alloc.AllocError.{AllocError}
use Rattle.dbus_value_model.specs.declared.order.Order.{Order}
use Rattle.dbus_value_model.specs.declared.fault.Fault.{Fault}
use Rattle.dbus_value_model.specs.declared.limits.Limits.{Limits}
use Rattle.dbus_value_model.specs.declared.fault.Refusal.{Refusal}
use Rattle.dbus_value_model.specs.declared.fault.Refusal.TheVariants.{Memory, Format}
use Rattle.dbus_decode.specs.declared.answer.Answer.{Answer}
use Rattle.dbus_decode.specs.declared.answer.Answer.TheVariants.{Whole, Partial}
use Rattle.dbus_message_model.specs.declared.message.Message.{Message}
use Rattle.dbus_message_model.specs.Messages.{MessageTree, message_bytes, IsValidMessage}
use Rattle.dbus_message_model.specs.MessageViews.{message_tree}
use Rattle.dbus_header.specs.MessageOutcomes.{IsRefused}
use Rattle.dbus_decode.specs.Decodes.{Decodes}
use Rattle.dbus_stream.specs.Cut.{CutMessage, BeginWith}
use Rattle.dbus_stream.specs.Cutting.{CutterState, fresh, TakeAnswer}
use Rattle.dbus_stream.specs.Runs.{Feeds, given_by, IsSettled, CutsInto}

-- the first n bytes are those that the marshalling relation spells the message as, which is valid
-- and within the limits
pub record BeginsWithMessage (limits : Limits) (bytes : List ℕ) (order : Order) (m : MessageTree) (n : ℕ) : Type 0 where
  pub valid : IsValidMessage limits m
  pub spelled : take n bytes ≡ message_bytes order m
  pub size : n ≡ length (message_bytes order m)

-- `decode_within` answers that the bytes begin with this message, of n bytes
abbrev pub Accepts : {A : Type 0} → Result (Answer A) Refusal → Order → MessageTree → ℕ → Type 0
Accepts (Ok (Whole order message used)) as_order m n = (order ≡ as_order) × (message_tree message ≡ m) × (used ≡ n)
Accepts (Ok Partial) as_order m n = ⊥
Accepts (Err refusal) as_order m n = ⊥

-- what `encode` answers
abbrev pub Encodes : {A : Type 0} → Message A → Order → Result (Vec ℕ A) AllocError → Type 0
Encodes message order answer = IfOk answer (λ bytes. bytes.items ≡ message_bytes order (message_tree message))

-- each of these is a valid message within the limits, with its length
abbrev pub AreMessages : Limits → List CutMessage → Type 0
AreMessages limits [] = Unit {0}
AreMessages limits (item ∷ items) = IsValidMessage limits item.message × (item.size ≡ length (message_bytes item.order item.message)) × AreMessages limits items

-- the bytes of messages, one after the other
abbrev pub stream_bytes : List CutMessage → List ℕ
stream_bytes [] = []
stream_bytes (item ∷ items) = message_bytes item.order item.message ++ stream_bytes items

-- Want of memory aside, for every list of bytes and every message within the limits.
pub record Headline (limits : Limits) (A : Type 0) : Type 0 where
  -- Bytes are accepted exactly where they begin with a message that the marshalling relation spells
  -- within the limits, and that message comes out.
  pub accepted : (bytes : List ℕ) (answer : Result (Answer A) Refusal) → Decodes limits bytes answer → answer ≢ Err Memory
      → (order : Order) (m : MessageTree) (n : ℕ) → Accepts answer order m n ↔ BeginsWithMessage limits bytes order m n
  -- Encoding it in its order gives those bytes back.
  pub encoded_back : (bytes : List ℕ) (order : Order) (message : Message A) (used : ℕ) → Decodes limits bytes (Ok (Whole order message used))
      → (answer : Result (Vec ℕ A) AllocError) → Encodes message order answer → IfOk answer (λ out. out.items ≡ take used bytes)
  -- In either order decoding an encoding gives the message, whatever follows.
  pub decoded_back : (order : Order) (m : MessageTree) (suffix : List ℕ) → IsValidMessage limits m
      → (answer : Result (Answer A) Refusal) → Decodes limits (message_bytes order m ++ suffix) answer → answer ≢ Err Memory
      → Accepts answer order m (length (message_bytes order m))
  -- A refusal carries the fault table's place and reason, and these are one.
  pub refused : (bytes : List ℕ) (answer : Result (Answer A) Refusal) → Decodes limits bytes answer → answer ≢ Err Memory
      → (fault : Fault) → (answer ≡ Err (Format fault)) ↔ IsRefused limits bytes fault
  pub one_fault : (bytes : List ℕ) (fault other : Fault) → IsRefused limits bytes fault → IsRefused limits bytes other → fault ≡ other
  -- However bytes are cut into pieces, a new cutter gives the messages of their one cut.
  pub however_cut : (pieces left : List (List ℕ)) (answers : List (TakeAnswer A)) (now : CutterState) → Feeds (fresh limits) pieces answers now left
      → CutsInto limits (concat pieces) (given_by 0 answers) now (concat left)
  -- No byte past a message is taken with it: once it is given, all that follows it is left.
  pub none_past : (pieces left : List (List ℕ)) (answers : List (TakeAnswer A)) (n : ℕ) (given : Order × Message A) (now : CutterState)
      → Feeds (fresh limits) pieces (answers ++ Ok (n, Some given) ∷ []) now left
      → BeginWith limits (concat pieces) (given_by 0 (answers ++ Ok (n, Some given) ∷ [])) (concat left)
  -- So two ways of cutting the same bytes give the same messages and the same fault.
  pub same_messages : (pieces left others suffix : List (List ℕ)) (answers replies : List (TakeAnswer A)) (here there : CutterState)
      → concat pieces ≡ concat others → Feeds (fresh limits) pieces answers here left → IsSettled here (concat left)
      → Feeds (fresh limits) others replies there suffix → IsSettled there (concat suffix)
      → (given_by 0 answers ≡ given_by 0 replies) × (here.fault ≡ there.fault)
  -- And however the bytes of messages are cut, it gives exactly these messages, and holds nothing
  -- after them.
  pub all_arrive : (items : List CutMessage) (pieces left : List (List ℕ)) (answers : List (TakeAnswer A)) (now : CutterState) → AreMessages limits items
      → concat pieces ≡ stream_bytes items → Feeds (fresh limits) pieces answers now left → IsSettled now (concat left)
      → (given_by 0 answers ≡ items) × (now ≡ fresh limits) × (concat left ≡ [])
