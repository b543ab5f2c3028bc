-- What is told of a fault are lines.
use Rattle.std.proofs.Common.{◌≡◌, ℕ, zero, suc, ◌-◌, List, [], ◌∷◌, ◌++◌, replicate, chars, IsUtf8, ◌&&◌, ◌||◌, nat_eq, nat_lt, take, drop, codes, decimal, refl, sym, ap, ◌∙◌}
use Rattle.std.proofs.Common.{append_assoc, append-nil, Option, None, Some, false, ◌≤◌, ◌<◌, ◌+◌, length, get_or, min, ap₂, subst, arith}
use Rattle.std.specs.List.{flat_map, list_all}
use Rattle.std.proofs.lemmas.List.Elements.{All-nil, All-cons}
use Rattle.std.proofs.Math.Nat.{min_comm}
use Rattle.std.proofs.lemmas.List.{take_min, take_more, take_rest}
use Rattle.std.proofs.lemmas.List.Concat.{flat_map-append}
use Rattle.hex.specs.Hex.{encode_lower}
use Rattle.dbus_value_model.specs.declared.fault.Reason.{Reason}
use Rattle.dbus_show.specs.ShownMessages.{line_feeds, field_name}
use Rattle.dbus_show.specs.ShownValues.{quoted}
use Rattle.dbus_show.proofs.LineFeeds.{IsOneLine, line_literal, line_append, line_either, line_flat, line_decimal, line_hex, line_quoted, line_escaped}
use Rattle.dbus_value_model.specs.declared.fault.Reason.TheVariants.{FieldMissing}
use Rattle.dbus_show.proofs.FieldTexts.{then}
use Rattle.dbus_show.specs.Escapes.{escaped, visible}
use Rattle.dbus_show.specs.declared.escapes.Escapes.TheVariants.{Shown, Line}
use Rattle.dbus_explain.proofs.VisibleLines.{line_visible}
use Rattle.dbus_explain.specs.Explained.{IsMarkAt, lines_of, bytes_line, place_line, rule_line, mark_line, quoted_line, AreLines, byte_text, marked}
use Rattle.dbus_explain.specs.Explained.{window}
use Rattle.dbus_explain.specs.Heads.{head_part}
use Rattle.dbus_explain.specs.Looks.{is_letter, lacks_serial, look_by, look_of, look_text}
use Rattle.dbus_explain.specs.Names.{IsFieldName, in_field, behind_fields, text_part, IsValueName, in_value, behind_values, IsNameOf, first, missing}
use Rattle.dbus_explain.specs.Names.{field, padding, value, code_name, first_part, path_text, step_text, is_missing}
use Rattle.dbus_explain.specs.Rules.{rule_text as rule_of}
use Rattle.dbus_explain.specs.declared.message.Refused.{Refused}
use Rattle.dbus_explain.specs.declared.search.StatedText.{StatedText}
use Rattle.dbus_explain.specs.declared.path.PathStep.{PathStep}
use Rattle.dbus_explain.specs.declared.path.PathStep.TheVariants.{Number, Keyed, Key, Value, Variant}

-- ---- names

literal : (t : List ℕ) → line_feeds t ≡ 0 → IsOneLine t
literal t h = line_literal t h

after_literal : (t s : List ℕ) → line_feeds t ≡ 0 → IsOneLine s → IsOneLine (t ++ s)
after_literal t s h k = line_append t s (literal t h) k

line_step : (step : PathStep) → IsOneLine (step_text step)
line_step (Number n) = after_literal (codes "[") (decimal n ++ codes "]") refl
    (line_append (decimal n) (codes "]") (line_decimal n) (literal (codes "]") refl))
line_step (Keyed key) = after_literal (codes "[") (quoted key.now ++ codes "]") refl
    (line_append (quoted key.now) (codes "]") (line_quoted Shown refl key.now) (literal (codes "]") refl))
line_step Key = literal (codes ".key") refl
line_step Value = literal (codes ".value") refl
line_step Variant = literal (codes ".variant") refl

line_path : (steps : List PathStep) → IsOneLine (path_text steps)
line_path [] = literal [] refl
line_path (step ∷ steps) = line_append (step_text step) (path_text steps) (line_step step) (line_path steps)

line_field_name : (code : ℕ) → IsOneLine (field_name code)
line_field_name code =
    line_either (nat_eq code 1) _ _ (literal (codes "path") refl) (line_either (nat_eq code 2) _ _ (literal (codes "interface") refl)
    (line_either (nat_eq code 3) _ _ (literal (codes "member") refl) (line_either (nat_eq code 4) _ _ (literal (codes "error_name") refl)
    (line_either (nat_eq code 5) _ _ (literal (codes "reply_serial") refl)
    (line_either (nat_eq code 6) _ _ (literal (codes "destination") refl)
    (line_either (nat_eq code 7) _ _ (literal (codes "sender") refl) (line_either (nat_eq code 8) _ _ (literal (codes "signature") refl)
    (line_either (nat_eq code 9) _ _ (literal (codes "unix_fds") refl)
    (after_literal (codes "field") (decimal code) refl (line_decimal code))))))))))

line_code : (code : ℕ) → IsOneLine (code_name code)
line_code code = line_either (nat_lt 0 code && nat_lt code 10) (field_name code) (decimal code) (line_field_name code) (line_decimal code)

line_first : (at : ℕ) → IsOneLine (first_part at)
line_first at =
    line_either (nat_eq at 0) _ _ (literal (codes "the byte order") refl)
    (line_either (nat_eq at 1) _ _ (literal (codes "the message type") refl)
    (line_either (nat_eq at 2) _ _ (literal (codes "the flags") refl)
    (line_either (nat_eq at 3) _ _ (literal (codes "the protocol version") refl)
    (line_either (nat_lt at 8) _ _ (literal (codes "the length of the body") refl)
    (line_either (nat_lt at 12) _ _ (literal (codes "the serial") refl)
    (literal (codes "the length of the header fields") refl))))))

line_part : (text : Option StatedText) → IsOneLine (text_part text)
line_part None = literal [] refl
line_part (Some text) =
    let length = after_literal (codes " of stated length ") (decimal text.stated) refl (line_decimal text.stated) in
    after_literal (codes ", a text from byte ") (decimal text.start ++ (codes " of stated length " ++ decimal text.stated)) refl
    (line_append (decimal text.start) (codes " of stated length " ++ decimal text.stated) (line_decimal text.start) length)

line_in_fields : (bytes : List ℕ) (at : ℕ) (name : List ℕ) (text : Option StatedText) → IsFieldName bytes at name text → IsOneLine name
line_in_fields bytes at name text (in_field p code t is there) = after_literal (codes "header field ") (code_name code) refl (line_code code)
line_in_fields bytes at name text (behind_fields none) = literal (codes "the header fields") refl

line_in_body : (bytes : List ℕ) (at : ℕ) (name : List ℕ) (text : Option StatedText) → IsValueName bytes at name text → IsOneLine name
line_in_body bytes at name text (in_value ts number t p steps u q stated types among path there) =
    after_literal (codes "body") (path_text (Number number ∷ steps)) refl (line_path (Number number ∷ steps))
line_in_body bytes at name text (behind_values none) = literal (codes "the end of the body") refl

line_name : (bytes : List ℕ) (reason : Reason) (at : ℕ) (name : List ℕ) (text : Option StatedText) → IsNameOf bytes reason at name text → IsOneLine name
line_name bytes reason at name text (first h) = line_first at
line_name bytes reason at name text (missing h m) = literal (codes "the end of the header fields") refl
line_name bytes reason at name text (field n t h m e is) = line_in_fields bytes at n t is
line_name bytes reason at name text (padding h m e f) = literal (codes "the padding after the header fields") refl
line_name bytes reason at name text (value n t h m e is) = line_in_body bytes at n t is

-- what is told of the place
line_told : (bytes : List ℕ) (reason : Reason) (at : ℕ) (name : List ℕ) (text : Option StatedText) → IsNameOf bytes reason at name text → IsOneLine (name ++ text_part text)
line_told bytes reason at name text is = line_append name (text_part text) (line_name bytes reason at name text is) (line_part text)

-- ---- lines

line_bytes : (bytes : List ℕ) (at : ℕ) → IsOneLine (bytes_line bytes at)
line_bytes bytes at =
    let before = drop (at - 8) (take at bytes) in
    let from = take 8 (drop at bytes) in
    after_literal (codes " ") (window bytes at) refl (line_append (flat_map byte_text before) (marked from) (line_texts before)
    (line_marked from))
  where
    line_byte : (b : ℕ) → IsOneLine (byte_text b)
    line_byte b = after_literal (codes " ") (encode_lower (b ∷ [])) refl (line_hex (b ∷ []))

    line_texts : (bs : List ℕ) → IsOneLine (flat_map byte_text bs)
    line_texts bs = line_flat byte_text line_byte bs

    line_marked : (bs : List ℕ) → IsOneLine (marked bs)
    line_marked [] = literal (codes " []") refl
    line_marked (b ∷ bs) =
        after_literal (codes " [") (encode_lower (b ∷ []) ++ (codes "]" ++ flat_map byte_text bs)) refl
        (line_append (encode_lower (b ∷ [])) (codes "]" ++ flat_map byte_text bs) (line_hex (b ∷ []))
        (after_literal (codes "]") (flat_map byte_text bs) refl (line_texts bs)))

line_place : (refused : Refused) (at : ℕ) (name : List ℕ) → IsOneLine name → IsOneLine (place_line refused at name)
line_place refused at name is =
    let named = after_literal (codes ": ") name refl is in
    let placed = line_append (decimal at) (codes ": " ++ name) (line_decimal at) named in
    let byte = after_literal (codes ", byte ") (decimal at ++ (codes ": " ++ name)) refl placed in
    let begun = line_append (decimal refused.offset) (codes ", byte " ++ (decimal at ++ (codes ": " ++ name))) (line_decimal refused.offset)
    byte in
    let here = after_literal (codes " at ") (decimal refused.offset ++ (codes ", byte " ++ (decimal at ++ (codes ": " ++ name)))) refl
    begun in
    let counted = line_append (decimal refused.number) (codes " at "
    ++ (decimal refused.offset ++ (codes ", byte " ++ (decimal at ++ (codes ": " ++ name))))) (line_decimal refused.number) here in
    after_literal (codes "  message ") (decimal refused.number ++ (codes " at "
    ++ (decimal refused.offset ++ (codes ", byte " ++ (decimal at ++ (codes ": " ++ name)))))) refl counted

line_rule : (rule : List ℕ) → line_feeds rule ≡ 0 → IsOneLine (rule_line rule)
line_rule rule h = after_literal (codes "  ") rule refl (literal rule h)

line_look_by : (b : ℕ) → IsOneLine (look_by b)
line_look_by b =
    line_either (nat_eq b 0) _ _ (literal (codes "; the handshake of a client begins so, and --handshake client passes over it") refl)
    (line_either (nat_eq b 0x1F) _ _ (literal (codes "; a gzip file begins so, and zcat unpacks it") refl)
    (line_either (nat_eq b 0x7F) _ _ (literal (codes "; an ELF program begins so") refl)
    (line_either (nat_eq b 0xFD) _ _ (literal (codes "; an xz file begins so, and xzcat unpacks it") refl)
    (line_either (nat_eq b 0x28) _ _ (literal (codes "; text begins so, or a zstd file, which zstdcat unpacks") refl)
    (line_either (nat_eq b 79 || nat_eq b 82) _ _ (literal (codes "; text begins so, or the handshake of a server, which --handshake server passes over") refl)
    (line_either (is_letter b) _ _ (literal (codes "; text begins so, but dbus-monitor --binary and busctl capture write messages") refl)
    (literal [] refl)))))))

line_look_of : (bytes : List ℕ) → IsOneLine (look_of bytes)
line_look_of [] = literal [] refl
line_look_of (b ∷ bytes) = line_look_by b

line_look : (refused : Refused) → IsOneLine (look_text refused)
line_look refused =
    line_either (nat_eq refused.offset 0 && nat_eq refused.fault.at 0) _ _ (line_look_of refused.bytes.now)
    (line_either (lacks_serial refused.bytes.now refused.fault) _ _
    (literal (codes "; libdbus makes such a signal when its bus ends, and dbus-monitor writes it") refl) (literal [] refl))

-- ---- three of them, and four

three : (a b c text : List ℕ) → IsOneLine a → IsOneLine b → IsOneLine c
    → text ≡ (a ++ codes "\n") ++ ((b ++ codes "\n") ++ ((c ++ codes "\n") ++ [])) → AreLines (a ∷ b ∷ c ∷ []) text
three a b c text ha hb hc is =
    let P : List ℕ → Type 0 = λ line. line_feeds line ≡ 0 in
    record { whole = All-cons P a (b ∷ c ∷ []) ha.none (All-cons P b (c ∷ []) hb.none (All-cons P c [] hc.none (All-nil P))); text_is = is }

four : (a b c d text : List ℕ) → IsOneLine a → IsOneLine b → IsOneLine c → IsOneLine d
    → text ≡ (a ++ codes "\n") ++ ((b ++ codes "\n") ++ ((c ++ codes "\n") ++ ((d ++ codes "\n") ++ []))) → AreLines (a ∷ b ∷ c ∷ d ∷ []) text
four a b c d text ha hb hc hd is =
    let P : List ℕ → Type 0 = λ line. line_feeds line ≡ 0 in
    record { whole = All-cons P a (b ∷ c ∷ d ∷ []) ha.none (All-cons P b (c ∷ d ∷ []) hb.none (All-cons P c (d ∷ []) hc.none (All-cons P d [] hd.none (All-nil P)))); text_is = is }

-- the ends of two lines come with the beginnings of the next
message_text : (a b c : List ℕ) → a ++ (codes "\n " ++ (b ++ (codes "\n  " ++ (c ++ codes "\n")))) ≡ (a ++ codes "\n")
    ++ (((codes " " ++ b) ++ codes "\n") ++ (((codes "  " ++ c) ++ codes "\n") ++ []))
message_text a b c =
    let nl = codes "\n" in
    let last = (codes "  " ++ c) ++ nl in
    sym (append_assoc a nl (((codes " " ++ b) ++ nl) ++ (last ++ []))
    ∙ ap (λ s. a ++ (nl ++ (codes " " ++ s))) (append_assoc b nl (last ++ []) ∙ ap (λ s. b ++ (nl ++ s)) (append-nil last)))

-- the same with another line behind the first
headed_text : (a h b c : List ℕ) → a ++ ((codes "\n  " ++ h) ++ (codes "\n " ++ (b ++ (codes "\n  " ++ (c ++ codes "\n"))))) ≡ (a ++ codes "\n")
    ++ (((codes "  " ++ h) ++ codes "\n") ++ (((codes " " ++ b) ++ codes "\n") ++ (((codes "  " ++ c) ++ codes "\n") ++ [])))
headed_text a h b c =
    let nl = codes "\n" in
    let last = (codes "  " ++ c) ++ nl in
    let tail = ((codes " " ++ b) ++ nl) ++ (last ++ []) in
    sym (append_assoc a nl (((codes "  " ++ h) ++ nl) ++ tail)
    ∙ ap (λ s. a ++ (nl ++ (codes "  " ++ s))) (append_assoc h nl tail
    ∙ ap (λ s. h ++ (nl ++ (codes " " ++ s))) (append_assoc b nl (last ++ []) ∙ ap (λ s. b ++ (nl ++ s)) (append-nil last))))

rule_text : (a b c : List ℕ) → codes "  " ++ (a ++ (codes "\n" ++ (b ++ (codes "\n  " ++ (c ++ codes "\n"))))) ≡ ((codes "  " ++ a)
    ++ codes "\n") ++ ((b ++ codes "\n") ++ (((codes "  " ++ c) ++ codes "\n") ++ []))
rule_text a b c =
    let nl = codes "\n" in
    let last = (codes "  " ++ c) ++ nl in
    sym (ap (λ s. codes "  " ++ s) (append_assoc a nl ((b ++ nl) ++ (last ++ []))
    ∙ ap (λ s. a ++ (nl ++ s)) (append_assoc b nl (last ++ []) ∙ ap (λ s. b ++ (nl ++ s)) (append-nil last))))

-- the rule and what is said behind it, in one
joined_rule : (front shown rule look : List ℕ) → front ++ (codes "\n " ++ (shown ++ (codes "\n  " ++ (rule ++ (look ++ codes "\n")))))
    ≡ front ++ (codes "\n " ++ (shown ++ (codes "\n  " ++ ((rule ++ look) ++ codes "\n"))))
joined_rule front shown rule look = ap (λ (s : List ℕ). front ++ (codes "\n " ++ (shown ++ (codes "\n  " ++ s)))) (sym (append_assoc rule look (codes "\n")))

pub message_lines : (refused : Refused) (at : ℕ) (name : List ℕ) (text : Option StatedText) (head : Option (List ℕ)) → IsNameOf refused.bytes.now refused.fault.reason at name text
    → line_feeds (rule_of refused.fault.reason) ≡ 0
    → AreLines (lines_of refused at name text head)
    (place_line refused at (name ++ text_part text) ++ (head_part head ++ (codes "\n " ++ (window refused.bytes.now at ++ (codes "\n  " ++ (rule_of refused.fault.reason ++ (look_text refused ++ codes "\n")))))))
message_lines refused at name text None is one =
    let bytes = refused.bytes.now in
    let rule = rule_of refused.fault.reason in
    let told = name ++ text_part text in
    let place = place_line refused at told in
    let shown = window bytes at in
    let look = look_text refused in
    three place (bytes_line bytes at) (rule_line (rule ++ look)) _ (line_place refused at told (line_told bytes refused.fault.reason at name text is)) (line_bytes bytes at)
    (after_literal (codes "  ") (rule ++ look) refl (line_append rule look (literal rule one) (line_look refused)))
    (joined_rule place shown rule look ∙ message_text place shown (rule ++ look))
message_lines refused at name text (Some h) is one =
    let bytes = refused.bytes.now in
    let rule = rule_of refused.fault.reason in
    let told = name ++ text_part text in
    let place = place_line refused at told in
    let shown = window bytes at in
    let look = look_text refused in
    let line = escaped Line h in
    four place (codes "  " ++ line) (bytes_line bytes at) (rule_line (rule ++ look)) _ (line_place refused at told (line_told bytes refused.fault.reason at name text is))
    (after_literal (codes "  ") line refl (line_escaped Line refl h)) (line_bytes bytes at)
    (after_literal (codes "  ") (rule ++ look) refl (line_append rule look (literal rule one) (line_look refused)))
    (ap (λ (s : List ℕ). place ++ s) (joined_rule (codes "\n  " ++ line) shown rule look) ∙ headed_text place line shown (rule ++ look))

line_blanks : (n : ℕ) → IsOneLine (replicate n 32)
line_blanks zero = literal [] refl
line_blanks (suc n) = after_literal (codes " ") (replicate n 32) refl (line_blanks n)

line_mark : (front : List ℕ) → IsOneLine (mark_line front)
line_mark front =
    let n = length (chars (visible (escaped Shown front))) in
    after_literal (codes "   ") (replicate n 32 ++ codes "^") refl (line_append (replicate n 32) (codes "^") (line_blanks n) (literal (codes "^") refl))

pub rule_lines : (text : List ℕ) (at : ℕ) (mark allowed : List ℕ) → IsUtf8 (quoted text) → IsMarkAt text at mark → line_feeds allowed ≡ 0
    → AreLines (quoted_line text ∷ mark ∷ rule_line allowed ∷ [])
    (codes "  " ++ (visible (quoted text) ++ (codes "\n" ++ (mark ++ (codes "\n  " ++ (allowed ++ codes "\n"))))))
rule_lines text at mark allowed is_text marked one =
    three (quoted_line text) mark (rule_line allowed) _
    (after_literal (codes "  ") (visible (quoted text)) refl (line_visible (quoted text) is_text (line_quoted Shown refl text)))
    (subst IsOneLine (sym marked.line_is) (line_mark (take marked.n text)))
    (line_rule allowed one)
    (rule_text (visible (quoted text)) mark allowed)

-- Reasons that are no missing field.

pub other_reason : (r : Reason) → ((code : ℕ) → r ≡ FieldMissing code → ⊥) → is_missing r ≡ false
other_reason (FieldMissing code) h = absurd (h code refl)
other_reason r h = refl

-- Texts of bytes in a row.

-- the text of one more is after those before
one_last : (text : ℕ → List ℕ) (bs : List ℕ) (b : ℕ) → flat_map text (bs ++ b ∷ []) ≡ flat_map text bs ++ text b
one_last text bs b = flat_map-append text bs (b ∷ []) ∙ ap (λ s. flat_map text bs ++ s) (append-nil (text b))

module _ {D : Type 0} (gains : D → List ℕ → D → Type 0) (joins : (a b c : D) (s t : List ℕ) → gains a s b → gains b t c
    → gains a (s ++ t) c) where
  pub one_more_byte : {a b c : D} (text : ℕ → List ℕ) (bs : List ℕ) (i : ℕ) → i < length bs → gains a (flat_map text (take i bs)) b
      → gains b (text (get_or bs i 0)) c
      → gains a (flat_map text (take (i + 1) bs)) c
  one_more_byte {a} {b} {c} text bs i h p q =
      let more = ap (flat_map text) (take_more bs i 0 h) ∙ one_last text (take i bs) (get_or bs i 0) in
      subst (λ t. gains a t c) (sym more) (then gains joins p q)

-- a first byte is between brackets
pub marked_some : (bs : List ℕ) → 1 ≤ length bs
    → codes " [" ++ (encode_lower (get_or bs 0 0 ∷ []) ++ (codes "]" ++ flat_map byte_text (take (length bs - 1) (drop 1 bs)))) ≡ marked bs
marked_some [] h = absurd (omega (arith, h))
marked_some (b ∷ bs) h = ap (λ after. codes " [" ++ (encode_lower (b ∷ []) ++ (codes "]" ++ flat_map byte_text after)))
    (take_rest (b ∷ bs) 1)

-- the last bytes before a place, and the first from there on
pub window_is : (bytes front back : List ℕ) (at start n : ℕ) → front ≡ take at bytes → back ≡ drop at bytes → start ≡ at - 8
    → n ≡ min (length back) 8
    → flat_map byte_text (take (length front - start) (drop start front)) ++ marked (take n back) ≡ window bytes at
window_is bytes front back at start n f b s e =
    let before : take (length front - start) (drop start front) ≡ drop (at - 8) (take at bytes) = take_rest front start ∙ ap₂ drop s f in
    let from : take n back ≡ take 8 (drop at bytes) = ap (λ k. take k back) (e ∙ min_comm (length back) 8)
    ∙ (take_min 8 back ∙ ap (take 8) b) in
    ap₂ (λ x y. flat_map byte_text x ++ marked y) before from
