-- Of all messages and the fault after them a command has an output, and exactly one if it is exact.
use Rattle.std.proofs.Common.{◌≡◌, ◌⊎◌, ℕ, ◌+◌, inl, inr, List, [], ◌∷◌, ◌++◌, length, Option, None, Some, Bool, true, false, ◌&&◌, not, refl, sym, ap, ◌∙◌, subst, append_assoc}
use Rattle.std.specs.List.{concat}
use Rattle.std.proofs.lemmas.List.{map-append}
use Rattle.std.proofs.lemmas.List.Folds.{concat-append}
use Rattle.dbus_device.specs.Packets.{Packets}
use Rattle.dbus_value_model.specs.declared.fault.Fault.{Fault}
use Rattle.dbus_value_model.specs.declared.limits.Limits.{Limits}
use Rattle.dbus_value_model.specs.declared.order.Order.{Order}
use Rattle.dbus_message_model.specs.Messages.{MessageTree, message_bytes}
use Rattle.dbus_stream.specs.Cut.{CutMessage}
use Rattle.dbus_stream.specs.CutEnds.{sizes}
use Rattle.dbus_show.specs.ShownMessages.{message_text}
use Rattle.dbus_json.specs.JsonIntegers.{integers_of}
use Rattle.dbus_json.proofs.SomeLines.{some_line_each}
use Rattle.dbus_names.specs.NameStates.{NameState}
use Rattle.dbus_rule_set.specs.Owners.{owners_in}
use Rattle.cli_options.proofs.Selections.{selected}
use Rattle.cli_options.specs.declared.command.Command.{Command}
use Rattle.cli_options.specs.declared.file_form.FileForm.{FileForm}
use Rattle.cli_options.specs.declared.file_form.FileForm.TheVariants.{AsRead, Raw}
use Rattle.cli_options.specs.declared.command.Output.{Output}
use Rattle.cli_options.specs.declared.command.Output.TheVariants.{AsIs, InOrder, JsonLine, Nothing, Text}
use Rattle.cli_options.specs.declared.selection.Selection.{Selection}
use Rattle.cli_run.specs.Inputs.{ArePlaced, IsPlaced, Part, PassedOver, Placed, Whole, sizes_of, wholes}
use Rattle.cli_run.specs.Learning.{Selects, known, known_after}
use Rattle.cli_run.specs.Laws.{OneFront, OneOutput, SomeOutput}
use Rattle.cli_run.specs.Output.{AreAlike, IsExact, begun_after, form_of, framed, header_before, header_if, is_framed, whole_output, IsFront, IsOutputOf, IsOutputOfAll, IsTextOf, PicksBy, last_line, line_place, seen_if, shown_text, told_place, owners_after_all}
use Rattle.cli_report.specs.Gathering.{IsPrefixTo}
use Rattle.cli_run.specs.declared.place.MessagePlace.{MessagePlace}
use Rattle.cli_run.specs.RenderingLaws.{header_both, output_both}
use Rattle.cli_run.proofs.PartLaws.{placed_both, some_placed}

-- ---- there is one

pub selects_or : (selection : Option Selection) (os : NameState) (message : MessageTree) → Selects selection os message ⊎ (Selects selection os message → ⊥)
selects_or None os message = inl tt
selects_or (Some selection) os message = selected selection (owners_in os.owners) message

picked : (output : Output) (selection : Option Selection) (os : NameState) (message : MessageTree) → PicksBy output selection os message ⊎ (PicksBy output selection os message → ⊥)
picked Nothing selection os message = inr (λ never. never)
picked output selection os message = selects_or selection os message

pub some_text : (output : Output) (order : Order) (message : MessageTree) (place : MessagePlace) → (text : List ℕ) × IsTextOf output order message place text
some_text (Text times escapes) order message place = (seen_if escapes (shown_text order message (told_place times place)), refl)
some_text (JsonLine times safe) order message place = some_line_each (integers_of safe) order message (line_place (told_place times place))
some_text Nothing order message place = ([], refl)
some_text (InOrder wanted form) order message place = (framed (is_framed form place) place.time (message_bytes wanted message), refl)
some_text (AsIs form) order message place = (framed (is_framed form place) place.time (message_bytes order message), refl)

pub some_of_one : (command : Command) (os : NameState) (order : Order) (message : MessageTree) (place : MessagePlace) → (texts : List (List ℕ)) × IsOutputOf command os order message place texts
some_of_one command os order message place =
    let some = some_text command.output order message place in
    elim (picked command.output command.selection os message) [
      | inl h ↦ (some.0 ∷ [], inl (h, some.0, some.1, refl))
      | inr n ↦ ([], inr (n, refl))
    ]

some_of_all : (command : Command) (os : NameState) (items : List Placed) → (out : List (List ℕ)) × IsOutputOfAll command os items out
some_of_all command os [] = ([], refl)
some_of_all command os (m ∷ items) =
    let one = some_of_one command os m.item.order m.item.message m.place in
    let more = some_of_all command (known_after command.selection os m.item.message) items in
    (one.0 ++ more.0, (one.0, more.0, refl, one.1, more.1))

pub some_output : SomeOutput
some_output packets command items fault packet =
    let some = some_placed packets 1 0 (wholes items) in
    let all = some_of_all command (known command.selection None) some.0 in
    (whole_output (form_of command.output) some.0 all.0 ++ last_line command (length items) (sizes items) fault packet, record { messages = some.0; placed = some.1; texts = all.0; each = all.1; joined = refl })

-- of no messages no texts are made
none_joined : (command : Command) (os : NameState) (items : List Placed) (texts : List (List ℕ)) → IsOutputOfAll command os items texts → items ≡ [] → concat texts ≡ []
none_joined command os items texts made none = ap concat (subst (λ (l : List Placed). IsOutputOfAll command os l texts) none made)

-- a prefix of what is written of the first messages is one of what the first writer gets
pub front_of_first : (packets : Option Packets) (limits : Limits) (command : Command) (items more all : List CutMessage) (rest : List ℕ) (fault : Option Fault) (messages : List Placed) (texts : List (List ℕ)) (front : List ℕ) → all ≡ items ++ more
    → ArePlaced packets 1 0 (wholes items) messages → IsOutputOfAll command (known command.selection None) messages texts → IsPrefixTo front (whole_output (form_of command.output) messages texts) → IsFront packets limits command all rest fault front
front_of_first packets limits command items more all rest fault messages texts front e p o prefix =
    let os = known command.selection None in
    let others = some_placed packets (1 + length (wholes items)) (0 + sizes_of (wholes items)) (wholes more) in
    let later = some_of_all command (owners_after_all command os messages) others.0 in
    let last = last_line command (length all) (sizes all) fault None in
    let form = form_of command.output in
    let tail = header_before form (begun_after false messages) others.0 ++ concat later.0 in
    let written = whole_output form (messages ++ others.0) (texts ++ later.0) in
    let both : wholes items ++ wholes more ≡ wholes all = sym (map-append Whole items more) ∙ ap wholes (sym e) in
    let placed = subst (λ (l : List Part). ArePlaced packets 1 0 l (messages ++ others.0)) both (placed_both packets 1 0 (wholes items) (wholes more) messages others.0 p others.1) in
    let texts_prefix : written ≡ front ++ (prefix.0 ++ tail)
    = ap (λ l. header_before form false (messages ++ others.0) ++ l) (concat-append texts later.0)
    ∙ (sym (header_both form false messages others.0 (concat texts) (concat later.0) (none_joined command os messages texts o)) ∙ (ap (λ l. l ++ tail) prefix.1 ∙ append_assoc front prefix.0 tail)) in
    record {
      packet = None;
      out = written ++ last;
      output = record { messages = messages ++ others.0; placed = placed; texts = texts ++ later.0; each = output_both command os messages others.0 texts later.0 o later.1; joined = refl };
      prefix = ((prefix.0 ++ tail) ++ last, ap (λ l. l ++ last) texts_prefix ∙ append_assoc front (prefix.0 ++ tail) last);
      packet_is = inl (prefix.0 ++ tail, texts_prefix);
    }

-- ---- and no other, of an exact command

-- what matters of a place to a form is the same in both
abbrev AreFramedAlike : FileForm → MessagePlace → MessagePlace → Type 0
AreFramedAlike Raw place other = Unit {0}
AreFramedAlike AsRead place other = (place.in_packet ≡ other.in_packet) × (place.time ≡ other.time)

framed_alike : (form : FileForm) (packets others : Option Packets) → AreAlike form packets others → (n offset : ℕ) (item : CutMessage) (m l : Placed) → IsPlaced packets n offset item m → IsPlaced others n offset item l
    → AreFramedAlike form m.place l.place
framed_alike Raw packets others alike n offset item m l p q = tt
framed_alike AsRead packets others alike n offset item m l p q =
    let here = subst (λ (x : Option Packets). IsPlaced x n offset item m) alike.1 p in
    let there = subst (λ (x : Option Packets). IsPlaced x n offset item l) alike.2 q in
    (here.packet_is ∙ sym there.packet_is, here.time_is ∙ sym there.time_is)

frame_one : (form : FileForm) (place other : MessagePlace) → AreFramedAlike form place other → is_framed form place ≡ is_framed form other
frame_one Raw place other alike = refl
frame_one AsRead place other alike = alike.0

framed_one : (form : FileForm) (place other : MessagePlace) (bytes : List ℕ) → AreFramedAlike form place other → framed (is_framed form place) place.time bytes ≡ framed (is_framed form other) other.time bytes
framed_one Raw place other bytes alike = refl
framed_one AsRead place other bytes alike = λ i. framed (alike.0 i) (alike.1 i) bytes

-- it depends on no more of the place
text_one : (output : Output) (order : Order) (message : MessageTree) (place other : MessagePlace) (a b : List ℕ) → IsExact output → place.number ≡ other.number → AreFramedAlike (form_of output) place other
    → IsTextOf output order message place a → IsTextOf output order message other b → a ≡ b
text_one (JsonLine times safe) order message place other a b exact number alike p q = absurd exact
text_one (Text true escapes) order message place other a b exact number alike p q = absurd exact
text_one (Text false escapes) order message place other a b exact number alike p q = p ∙ (ap (λ n. seen_if escapes (message_text order message n)) number ∙ sym q)
text_one (InOrder wanted form) order message place other a b exact number alike p q = p ∙ (framed_one form place other (message_bytes wanted message) alike ∙ sym q)
text_one (AsIs form) order message place other a b exact number alike p q = p ∙ (framed_one form place other (message_bytes order message) alike ∙ sym q)
text_one Nothing order message place other a b exact number alike p q = p ∙ sym q

output_one : (command : Command) (os : NameState) (order : Order) (message : MessageTree) (place other : MessagePlace) (a b : List (List ℕ)) → IsExact command.output → place.number ≡ other.number
    → AreFramedAlike (form_of command.output) place other → IsOutputOf command os order message place a → IsOutputOf command os order message other b → a ≡ b
output_one command os order message place other a b exact number alike p q = elim p [
  | inl met ↦ elim q [
    | inl too ↦ met.3 ∙ (ap (λ t. t ∷ []) (text_one command.output order message place other met.1 too.1 exact number alike met.2 too.2) ∙ sym too.3)
    | inr unmet ↦ absurd (unmet.0 met.0)
  ]
  | inr unmet ↦ elim q [ inl met ↦ absurd (unmet.0 met.0) | inr too ↦ unmet.1 ∙ sym too.1 ]
]

-- of the messages of the same parts, whatever their packets are if they do not matter
pub output_all_one : (packets others : Option Packets) (command : Command) (os : NameState) (n offset : ℕ) (parts : List Part) (items also : List Placed) (a b : List (List ℕ)) → IsExact command.output
    → AreAlike (form_of command.output) packets others → ArePlaced packets n offset parts items → ArePlaced others n offset parts also → IsOutputOfAll command os items a → IsOutputOfAll command os also b → a ≡ b
output_all_one packets others command os n offset [] items also a b exact alike p q h k =
    subst (λ (l : List Placed). IsOutputOfAll command os l a) p h ∙ sym (subst (λ (l : List Placed). IsOutputOfAll command os l b) q k)
output_all_one packets others command os n offset (Whole item ∷ parts) [] also a b exact alike p q h k = absurd p
output_all_one packets others command os n offset (Whole item ∷ parts) (m ∷ items) [] a b exact alike p q h k = absurd q
output_all_one packets others command os n offset (Whole item ∷ parts) (m ∷ items) (l ∷ also) a b exact alike p q h k =
    let same : l.item ≡ m.item = q.0.item_is ∙ sym p.0.item_is in
    let one = subst (λ (x : CutMessage). IsOutputOf command os x.order x.message l.place k.0) same k.3 in
    let more = subst (λ (x : CutMessage). IsOutputOfAll command (known_after command.selection os x.message) also k.1) same k.4 in
    let first : h.0 ≡ k.0 = output_one command os m.item.order m.item.message m.place l.place h.0 k.0 exact (p.0.number_is ∙ sym q.0.number_is) (framed_alike (form_of command.output) packets others alike n offset item m l p.0 q.0) h.3 one in
    let suffix : h.1 ≡ k.1 = output_all_one packets others command (known_after command.selection os m.item.message) (n + 1) (offset + item.size) parts items also h.1 k.1 exact alike p.1 q.1 h.4 more in
    h.2 ∙ ((λ i. first i ++ suffix i) ∙ sym k.2)
output_all_one packets others command os n offset (PassedOver front fault by size ∷ parts) items also a b exact alike p q h k =
    output_all_one packets others command os (n + 1) (offset + size) parts items also a b exact alike p q h k

-- and so is the header before them
pub header_one : (form : FileForm) (packets others : Option Packets) (begun : Bool) (n offset : ℕ) (parts : List Part) (items also : List Placed) → AreAlike form packets others
    → ArePlaced packets n offset parts items → ArePlaced others n offset parts also → header_before form begun items ≡ header_before form begun also
header_one form packets others begun n offset [] items also alike p q = ap (header_before form begun) (p ∙ sym q)
header_one form packets others begun n offset (Whole item ∷ parts) [] also alike p q = absurd p
header_one form packets others begun n offset (Whole item ∷ parts) (m ∷ items) [] alike p q = absurd q
header_one form packets others begun n offset (Whole item ∷ parts) (m ∷ items) (l ∷ also) alike p q =
    ap (λ b. header_if (b && not begun)) (frame_one form m.place l.place (framed_alike form packets others alike n offset item m l p.0 q.0))
header_one form packets others begun n offset (PassedOver front fault by size ∷ parts) items also alike p q = header_one form packets others begun (n + 1) (offset + size) parts items also alike p q

pub one_output : OneOutput
one_output packets others command items fault packet x y exact alike h k =
    let texts = output_all_one packets others command (known command.selection None) 1 0 (wholes items) h.messages k.messages h.texts k.texts exact alike h.placed k.placed h.each k.each in
    let header = header_one (form_of command.output) packets others false 1 0 (wholes items) h.messages k.messages alike h.placed k.placed in
    h.joined ∙ (λ i. (header i ++ concat (texts i)) ++ last_line command (length items) (sizes items) fault packet) ∙ sym k.joined

pub one_front : OneFront
one_front packets others limits command items rest fault front out exact alike is whole =
    subst (λ l. IsPrefixTo front l) (one_output packets others command items fault is.packet is.out out exact alike is.output whole) is.prefix
