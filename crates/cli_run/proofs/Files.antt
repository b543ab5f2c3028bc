-- What is written of captured messages is a pcap file of what is written of them raw.
use Rattle.std.proofs.Common.{◌≡◌, ℕ, ◌+◌, ◌*◌, ◌/◌, ◌≤◌, ◌<◌, ◌^◌, ◌&&◌, Bool, true, false, List, [], ◌∷◌, ◌++◌, length, map, take, drop, zero, suc, Option, None, Some, inl, inr, refl, sym, ap, ◌∙◌, subst, arith, append_assoc, append-nil}
use Rattle.std.specs.Prelude.{nat_le}
use Rattle.std.specs.List.{concat}
use Rattle.std.proofs.Math.Path.{transport}
use Rattle.std.proofs.lemmas.List.{drop-map, map-append, take-map}
use Rattle.dbus_value_model.specs.declared.limits.Limits.{Limits}
use Rattle.dbus_value_model.specs.declared.order.Order.{Order}
use Rattle.dbus_value_model.specs.declared.order.Order.TheVariants.{Little, Big}
use Rattle.dbus_value_model.specs.Bytes.{gap_to, low_first, num}
use Rattle.dbus_value_model.proofs.Numbers.{num_32_little, num_32_big}
use Rattle.dbus_message_model.specs.Messages.{IsValidMessage, MessageTree, message_bytes, order_byte}
use Rattle.dbus_header.specs.MessageOutcomes.{IsWhole}
use Rattle.dbus_header.specs.StatedLengths.{StatesLength}
use Rattle.dbus_header.proofs.StatedLengths.{whole_states}
use Rattle.dbus_header.proofs.Whole.{fixed_to}
use Rattle.dbus_capture.specs.declared.byte_order.ByteOrder.{ByteOrder}
use Rattle.dbus_capture.specs.declared.byte_order.ByteOrder.TheVariants as file_orders
use Rattle.dbus_capture.specs.Numbers.{u32_of, u32_at}
use Rattle.dbus_capture.specs.CutPackets.{stated, stated_in}
use Rattle.dbus_capture.proofs.NumberLaws.{u32_again}
use Rattle.dbus_capture.proofs.Choices.{le_true, when_true}
use Rattle.dbus_capture.specs.PcapFiles.{header_bytes, packet_header_bytes, packets_bytes}
use Rattle.dbus_capture.specs.Reading.{IsRead}
use Rattle.dbus_pcap.specs.Written.{AllFit, FitsMessage, CapturedMessage, file_of, messages_bytes, packet_of, written_header}
use Rattle.dbus_pcap.proofs.WrittenLaws.{written_read}
use Rattle.dbus_names.specs.NameStates.{NameState}
use Rattle.cli_options.specs.declared.command.Command.{Command}
use Rattle.cli_options.specs.declared.command.Output.{Output}
use Rattle.cli_options.specs.declared.command.Output.TheVariants.{AsIs, InOrder}
use Rattle.cli_options.specs.declared.file_form.FileForm.{FileForm}
use Rattle.cli_options.specs.declared.file_form.FileForm.TheVariants.{AsRead, Raw}
use Rattle.cli_options.specs.declared.selection.Selection.{Selection}
use Rattle.cli_options.specs.declared.window.Window.{Window}
use Rattle.cli_run.specs.Inputs.{Placed}
use Rattle.cli_run.specs.Learning.{known_after}
use Rattle.cli_run.specs.Laws.{AreCaptured, WritesFile, in_raw}
use Rattle.cli_run.specs.Output.{IsOutputOf, IsOutputOfAll, at_most, form_of, framed, header_if, output_of, written}
use Rattle.cli_run.specs.declared.place.MessagePlace.{MessagePlace}

-- ---- the size that a message states

-- what these numbers state
stated_with : (o : ByteOrder) (bytes : List ℕ) (body fields : ℕ) → u32_at o 4 bytes ≡ body → u32_at o 12 bytes ≡ fields → fields ≤ 2 ^ 26 → 16 + fields + gap_to 8 (16 + fields) + body ≤ 2 ^ 27
    → stated_in o bytes ≡ 16 + fields + gap_to 8 (16 + fields) + body
unfolding gap_to
stated_with o bytes body fields eb ef f s =
    let size : 16 + (u32_at o 12 bytes + 7) / 8 * 8 + u32_at o 4 bytes ≡ 16 + fields + gap_to 8 (16 + fields) + body = omega (arith, eb, ef) in
    let few = le_true (u32_at o 12 bytes) (2 ^ 26) (omega (arith, ef, f)) in
    let fits = le_true (16 + (u32_at o 12 bytes + 7) / 8 * 8 + u32_at o 4 bytes) (2 ^ 27) (omega (arith, size, s)) in
    when_true _ _ _ (ap (λ (v : Bool). v && nat_le (16 + (u32_at o 12 bytes + 7) / 8 * 8 + u32_at o 4 bytes) (2 ^ 27)) few ∙ fits) ∙ size

stated_of : (order : Order) (kind flags body serial fields : ℕ) (r : List ℕ) → body < 2 ^ 32 → fields ≤ 2 ^ 26 → 16 + fields + gap_to 8 (16 + fields) + body ≤ 2 ^ 27
    → stated (order_byte order ∷ (num order 1 kind ++ (num order 1 flags ++ (num order 1 1 ++ (num order 4 body ++ (num order 4 serial ++ (num order 4 fields ++ r))))))) ≡ 16 + fields + gap_to 8 (16 + fields) + body
unfolding num low_first
stated_of Little kind flags body serial fields r b f s =
    stated_with file_orders.Little (order_byte Little ∷ (num Little 1 kind ++ (num Little 1 flags ++ (num Little 1 1 ++ (num Little 4 body ++ (num Little 4 serial ++ (num Little 4 fields ++ r))))))) body fields (ap (u32_of file_orders.Little) (sym (num_32_little body)) ∙ u32_again file_orders.Little body b)
    (ap (u32_of file_orders.Little) (sym (num_32_little fields)) ∙ u32_again file_orders.Little fields (omega (arith, f))) f s
stated_of Big kind flags body serial fields r b f s =
    stated_with file_orders.Big (order_byte Big ∷ (num Big 1 kind ++ (num Big 1 flags ++ (num Big 1 1 ++ (num Big 4 body ++ (num Big 4 serial ++ (num Big 4 fields ++ r))))))) body fields (ap (u32_of file_orders.Big) (sym (num_32_big body)) ∙ u32_again file_orders.Big body b)
    (ap (u32_of file_orders.Big) (sym (num_32_big fields)) ∙ u32_again file_orders.Big fields (omega (arith, f))) f s

-- ---- the messages that are written

abbrev frame : CapturedMessage → List ℕ
frame m = framed true m.time m.bytes

abbrev bytes_of : CapturedMessage → List ℕ
bytes_of m = m.bytes

-- these are written, and their bytes are what is written raw
record Made (command : Command) (os : NameState) (items : List Placed) (texts : List (List ℕ)) : Type 0 where
  messages : List CapturedMessage
  fit : AllFit messages
  texts_are : texts ≡ map frame messages
  raw : IsOutputOfAll (in_raw command) os items (map bytes_of messages)

module _ (limits : Limits) where
  fits_message : (time : Option ℕ) (m : MessageTree) (order : Order) → IsValidMessage limits m → FitsMessage (record { time = time; bytes = message_bytes order m })
  unfolding IsWhole StatesLength
  fits_message time m order valid =
      let bytes = message_bytes order m in
      let s = whole_states limits bytes order m (length bytes) (valid order, ([], sym (append-nil bytes)), refl) in
      let h = s.0.0 in
      let f = fixed_to limits bytes h 16 s.0.1 s.0.2 in
      let is = f.0 in
      let limit = (valid order).limit in
      record {
        size = ap stated f.1 ∙ stated_of h.order h.kind h.flags h.body h.serial h.fields s.0.1 (let low = is.body in omega (arith, low)) (let low = is.fields in omega (arith, low, limits.array_in)) (let low = is.limit in omega (arith, low, limits.message_in)) ∙ sym s.0.3;
        least = s.1;
        most = omega (arith, limit, limits.message_in);
      }

  abbrev MadeOne : Command → NameState → Order → MessageTree → MessagePlace → List (List ℕ) → Type 0
  MadeOne command os order m place texts =
      (messages : List CapturedMessage) × AllFit messages × (texts ≡ map frame messages) × IsOutputOf (in_raw command) os order m place (map bytes_of messages)

  one_made : (output : Output) (selection : Option Selection) (os : NameState) (order : Order) (m : MessageTree) (place : MessagePlace) (texts : List (List ℕ)) → form_of output ≡ AsRead → IsValidMessage limits m → place.in_packet ≡ true
      → IsOutputOf (record { output = output; selection = selection }) os order m place texts → MadeOne (record { output = output; selection = selection }) os order m place texts
  one_made (InOrder wanted AsRead) selection os order m place texts form valid packet p = elim p [
    | inl met ↦ (
        let bytes = message_bytes wanted m in
        let text : met.1 ≡ framed true place.time bytes = met.2 ∙ ap (λ b. framed b place.time bytes) packet in
        (record { time = place.time; bytes = bytes } ∷ [], (fits_message place.time m wanted valid, tt), met.3 ∙ ap (λ t. t ∷ []) text, inl (met.0, bytes, refl, refl))
        )
    | inr unmet ↦ ([], tt, unmet.1, inr (unmet.0, refl))
  ]
  one_made (AsIs AsRead) selection os order m place texts form valid packet p = elim p [
    | inl met ↦ (
        let bytes = message_bytes order m in
        let text : met.1 ≡ framed true place.time bytes = met.2 ∙ ap (λ b. framed b place.time bytes) packet in
        (record { time = place.time; bytes = bytes } ∷ [], (fits_message place.time m order valid, tt), met.3 ∙ ap (λ t. t ∷ []) text, inl (met.0, bytes, refl, refl))
        )
    | inr unmet ↦ ([], tt, unmet.1, inr (unmet.0, refl))
  ]
  one_made output selection os order m place texts form valid packet p = absurd (let e : ◌≡◌ {A = FileForm} Raw AsRead = form in cc)

  fit_both : (a b : List CapturedMessage) → AllFit a → AllFit b → AllFit (a ++ b)
  fit_both [] b f g = g
  fit_both (m ∷ a) b f g = (f.0, fit_both a b f.1 g)

  all_made : (command : Command) (os : NameState) (items : List Placed) (texts : List (List ℕ)) → form_of command.output ≡ AsRead → AreCaptured limits items → IsOutputOfAll command os items texts → Made command os items texts
  all_made command os [] texts form captured p = record { messages = []; fit = tt; texts_are = p; raw = refl }
  all_made command os (m ∷ items) texts form captured p =
      let one = one_made command.output command.selection os m.item.order m.item.message m.place p.0 form captured.0 captured.1 p.3 in
      let more = all_made command (known_after command.selection os m.item.message) items p.1 form captured.2 p.4 in
      let rest = more.raw in
      record {
        messages = one.0 ++ more.messages;
        fit = fit_both one.0 more.messages one.1 more.fit;
        texts_are = p.2 ∙ (λ i. one.2 i ++ more.texts_are i) ∙ sym (map-append frame one.0 more.messages);
        raw = (map bytes_of one.0, map bytes_of more.messages, map-append bytes_of one.0 more.messages, one.3, rest);
      }

-- ---- the window

fit_after : (n : ℕ) (messages : List CapturedMessage) → AllFit messages → AllFit (drop n messages)
fit_after zero messages f = f
fit_after (suc n) [] f = tt
fit_after (suc n) (m ∷ messages) f = fit_after n messages f.1

fit_before : (n : ℕ) (messages : List CapturedMessage) → AllFit messages → AllFit (take n messages)
fit_before zero messages f = tt
fit_before (suc n) [] f = tt
fit_before (suc n) (m ∷ messages) f = (f.0, fit_before n messages f.1)

fit_most : (limit : Option ℕ) (messages : List CapturedMessage) → AllFit messages → AllFit (at_most limit messages)
fit_most None messages f = f
fit_most (Some n) messages f = fit_before n messages f

most_mapped : (limit : Option ℕ) (f : CapturedMessage → List ℕ) (messages : List CapturedMessage) → at_most limit (map f messages) ≡ map f (at_most limit messages)
most_mapped None f messages = refl
most_mapped (Some n) f messages = take-map f n messages

-- those that the window lets through
abbrev seen : Window → List CapturedMessage → List CapturedMessage
seen window messages = at_most window.limit (drop window.skip messages)

seen_written : (window : Window) (f : CapturedMessage → List ℕ) (messages : List CapturedMessage) → written window (map f messages) ≡ concat (map f (seen window messages))
unfolding written
seen_written window f messages =
    ap (λ l. concat (at_most window.limit l)) (drop-map f window.skip messages) ∙ ap concat (most_mapped window.limit f (drop window.skip messages))

frames_are : (messages : List CapturedMessage) → concat (map frame messages) ≡ packets_bytes written_header.order (map packet_of messages)
frames_are [] = refl
frames_are (m ∷ messages) =
    let header = packet_header_bytes written_header.order (packet_of m) in
    append_assoc header m.bytes (concat (map frame messages)) ∙ ap (λ l. header ++ (m.bytes ++ l)) (frames_are messages)

joined_are : (messages : List CapturedMessage) → concat (map bytes_of messages) ≡ messages_bytes messages
joined_are [] = refl
joined_are (m ∷ messages) = ap (λ l. m.bytes ++ l) (joined_are messages)

pub writes_file : WritesFile
writes_file limits command os window m items texts form captured made =
    let all = all_made limits command os (m ∷ items) texts form captured made in
    let messages = seen window all.messages in
    let fit = fit_most window.limit (drop window.skip all.messages) (fit_after window.skip all.messages all.fit) in
    let header : header_if (m.place.in_packet && true) ≡ header_bytes written_header = ap (λ b. header_if (b && true)) captured.1 in
    let file : output_of AsRead false window (m ∷ items) texts ≡ file_of messages
    = (λ i. header i ++ written window (all.texts_are i)) ∙ ap (λ l. header_bytes written_header ++ l) (seen_written window frame all.messages ∙ frames_are messages) in
    let raw : output_of Raw false window (m ∷ items) (map bytes_of all.messages) ≡ messages_bytes messages = seen_written window bytes_of all.messages ∙ joined_are messages in
    (map bytes_of all.messages, all.raw, λ passes. transport (λ i. IsRead passes (sym file i) (sym raw i)) (written_read passes messages fit))
