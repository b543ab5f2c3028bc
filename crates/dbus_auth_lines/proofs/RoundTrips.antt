-- Each line that is written is one line, and is read back as what was written.
use Rattle.std.proofs.Common.{◌≡◌, inl, inr, ℕ, ◌≤◌, ◌==◌, not, nat_le, Bool, true, false, List, [], ◌∷◌, ◌++◌, length, Some, None, if◌then◌else◌, refl, sym, ap, subst, arith, ◌%◌, ◌∙◌}
use Rattle.std.specs.Prelude.{codes, Result, Ok, Err}
use Rattle.std.specs.List.{AllByRecursion, list_all, flat_map}
use Rattle.std.proofs.lemmas.Bool.{and_parts, false≢true, leb-true}
use Rattle.std.proofs.lemmas.List.{append-nil}
use Rattle.std.proofs.lemmas.List.Sums.{AllPass-from_list_all, list_all-from_AllPass}
use Rattle.hex.specs.Hex.{IsBytes, encode_lower, lower_digits, decode_of, is_hex_digit}
use Rattle.hex.proofs.HexLemmas.{length-encode_with, decode_of-encode_lower, decode_of-digits, decode_of-ok}
use Rattle.hex.specs.declared.error.FromHexError.{FromHexError}
use Rattle.dbus_auth_lines.specs.ClientCommands.{ClientCommand}
use Rattle.dbus_auth_lines.specs.ClientCommands as client
use Rattle.dbus_auth_lines.specs.ServerCommands.{ServerCommand}
use Rattle.dbus_auth_lines.specs.ServerCommands as server
use Rattle.dbus_auth_lines.specs.Lines.{client_line, server_line, client_meaning, server_meaning, spaced, hex_word, text_word, ended, by_hex}
use Rattle.dbus_auth_lines.specs.LineForms.{IsWord, HasWords, HasForm, HasHex, HasText, IsClientLine, IsServerLine}
use Rattle.dbus_auth_lines.specs.Cut.{IsPlain, IsLine}
use Rattle.dbus_auth_lines.specs.WrittenLines.{is_printed, is_plain, is_word, is_client_spelled, is_server_spelled, within_limit, client_text_of, server_text_of, HasClientBytes, HasServerBytes, ReadsBack}
use Rattle.dbus_auth_lines.proofs.Cuts.{length-ended}
use Rattle.dbus_auth_lines.proofs.PrintedWords.{plain_text, plain_word, plain-append, word_by_test, hex_is_word, hex_word_plain}
use Rattle.dbus_auth_lines.proofs.Meanings.{client_row_means, server_row_means}
use Rattle.dbus_auth_lines.specs.WordPlaces.{is_hex}

-- ---- a written line is plain

mech_plain : (w : List ℕ) → is_word w ≡ true → AllByRecursion IsPlain w
mech_plain w h = plain_word w (and_parts (not (length w == 0)) (list_all is_printed w) h).1

text_word_plain : (text : List ℕ) → list_all is_plain text ≡ true → AllByRecursion IsPlain (text_word text)
text_word_plain [] h = tt
text_word_plain (b ∷ bs) h = plain_text (32 ∷ b ∷ bs) h

words_plain : (ws : List (List ℕ)) → list_all is_word ws ≡ true → AllByRecursion IsPlain (flat_map spaced ws)
words_plain [] h = tt
words_plain (w ∷ ws) h =
    let p = and_parts (is_word w) (list_all is_word ws) h in
    plain-append (32 ∷ w) (flat_map spaced ws) (plain-append (32 ∷ []) w (plain_text (32 ∷ []) refl) (mech_plain w p.0)) (words_plain ws p.1)

client_plain : (c : ClientCommand) → HasClientBytes c → is_client_spelled c ≡ true → AllByRecursion IsPlain (client_line c)
client_plain client.Auth k h = plain_text (codes "AUTH") refl
client_plain (client.AuthBy mech response) k h =
    plain-append (codes "AUTH " ++ mech) (hex_word response) (plain-append (codes "AUTH ") mech (plain_text (codes "AUTH ") refl) (mech_plain mech h)) (hex_word_plain response k)
client_plain client.Cancel k h = plain_text (codes "CANCEL") refl
client_plain client.Begin k h = plain_text (codes "BEGIN") refl
client_plain (client.DataOf bytes) k h = plain-append (codes "DATA") (hex_word bytes) (plain_text (codes "DATA") refl) (hex_word_plain bytes k)
client_plain (client.Error text) k h = plain-append (codes "ERROR") (text_word text) (plain_text (codes "ERROR") refl) (text_word_plain text h)
client_plain client.Negotiate k h = plain_text (codes "NEGOTIATE_UNIX_FD") refl
client_plain client.Other k h = absurd (false≢true h)

server_plain : (c : ServerCommand) → HasServerBytes c → is_server_spelled c ≡ true → AllByRecursion IsPlain (server_line c)
server_plain (server.Rejected ws) k h = plain-append (codes "REJECTED") (flat_map spaced ws) (plain_text (codes "REJECTED") refl) (words_plain ws h)
server_plain (server.Accepted guid) k h = plain-append (codes "OK") (hex_word guid) (plain_text (codes "OK") refl) (hex_word_plain guid k.1)
server_plain (server.DataOf bytes) k h = plain-append (codes "DATA") (hex_word bytes) (plain_text (codes "DATA") refl) (hex_word_plain bytes k)
server_plain (server.Error text) k h = plain-append (codes "ERROR") (text_word text) (plain_text (codes "ERROR") refl) (text_word_plain text h)
server_plain server.Agree k h = plain_text (codes "AGREE_UNIX_FD") refl
server_plain server.Other k h = absurd (false≢true h)

pub client_is_line : (c : ClientCommand) → HasClientBytes c → is_client_spelled c ≡ true → length (client_line c) ≤ 16382 → IsLine (client_line c)
client_is_line c k h le = record { plain = client_plain c k h; short = le }

pub server_is_line : (c : ServerCommand) → HasServerBytes c → is_server_spelled c ≡ true → length (server_line c) ≤ 16382 → IsLine (server_line c)
server_is_line c k h le = record { plain = server_plain c k h; short = le }

-- ---- a written line has the form of its row

bare : (name : List ℕ) → HasForm name name []
bare name = ([], (sym (append-nil name), (0, refl)))

one_word : (w : List ℕ) → is_word w ≡ true → IsWord w
one_word [] h = absurd (false≢true h)
one_word (b ∷ bs) h = word_by_test b bs (and_parts (not (length (b ∷ bs) == 0)) (list_all is_printed (b ∷ bs)) h).1

last_word : (w : List ℕ) → IsWord w → HasWords (32 ∷ w) (w ∷ [])
last_word w h = (0, ([], (ap (λ (x : List ℕ). 32 ∷ x) (sym (append-nil w)), (h, (0, refl)))))

all_words : (ws : List (List ℕ)) → list_all is_word ws ≡ true → HasWords (flat_map spaced ws) ws
all_words [] h = (0, refl)
all_words (w ∷ ws) h = let p = and_parts (is_word w) (list_all is_word ws) h in (0, (flat_map spaced ws, (refl, (one_word w p.0, all_words ws p.1))))

hex_form : (line name : List ℕ) (ws : List (List ℕ)) (bytes : List ℕ) → IsBytes bytes → ((us : List (List ℕ)) → HasWords (hex_word bytes) us → HasForm line name (ws ++ us)) → HasHex line name ws bytes
hex_form line name ws [] k form = inl (refl, subst (HasForm line name) (append-nil ws) (form [] (0, refl)))
hex_form line name ws (b ∷ bs) k form = inr (encode_lower (b ∷ bs), (decode_of-encode_lower (b ∷ bs) k, form (encode_lower (b ∷ bs) ∷ []) (last_word (encode_lower (b ∷ bs)) (hex_is_word b bs k))))

text_form : (text : List ℕ) → HasText (codes "ERROR" ++ text_word text) text
text_form [] = inl (refl, refl)
text_form (b ∷ bs) = inr refl

client_has_form : (c : ClientCommand) → HasClientBytes c → is_client_spelled c ≡ true → IsClientLine (client_line c) c
client_has_form client.Auth k h = bare (codes "AUTH")
client_has_form (client.AuthBy mech response) k h =
    hex_form (client_line (client.AuthBy mech response)) (codes "AUTH") (mech ∷ []) response k (λ us form. (32 ∷ mech ++ hex_word response, (refl, (0, (hex_word response, (refl, (one_word mech h, form)))))))
client_has_form client.Cancel k h = bare (codes "CANCEL")
client_has_form client.Begin k h = bare (codes "BEGIN")
client_has_form (client.DataOf bytes) k h = hex_form (client_line (client.DataOf bytes)) (codes "DATA") [] bytes k (λ us form. (hex_word bytes, (refl, form)))
client_has_form (client.Error text) k h = text_form text
client_has_form client.Negotiate k h = bare (codes "NEGOTIATE_UNIX_FD")
client_has_form client.Other k h = absurd (false≢true h)

accepted_form : (guid : List ℕ) → length guid ≡ 16 → IsBytes guid → IsServerLine (server_line (server.Accepted guid)) (server.Accepted guid)
accepted_form [] n k = absurd (omega (arith, n))
accepted_form (b ∷ bs) n k =
    let digits = encode_lower (b ∷ bs) in (
      digits,
      (omega (arith, length-encode_with lower_digits (b ∷ bs), n), (decode_of-encode_lower (b ∷ bs) k, (32 ∷ digits, (refl, last_word digits (hex_is_word b bs k))))),
    )

server_has_form : (c : ServerCommand) → HasServerBytes c → is_server_spelled c ≡ true → IsServerLine (server_line c) c
server_has_form (server.Rejected ws) k h = (flat_map spaced ws, (refl, all_words ws h))
server_has_form (server.Accepted guid) k h = accepted_form guid k.0 k.1
server_has_form (server.DataOf bytes) k h = hex_form (server_line (server.DataOf bytes)) (codes "DATA") [] bytes k (λ us form. (hex_word bytes, (refl, form)))
server_has_form (server.Error text) k h = text_form text
server_has_form server.Agree k h = bare (codes "AGREE_UNIX_FD")
server_has_form server.Other k h = absurd (false≢true h)

pub client_reads : (c : ClientCommand) → HasClientBytes c → is_client_spelled c ≡ true → client_meaning (client_line c) ≡ c
client_reads c k h = client_row_means (client_line c) c (client_has_form c k h)

pub server_reads : (c : ServerCommand) → HasServerBytes c → is_server_spelled c ≡ true → server_meaning (server_line c) ≡ c
server_reads c k h = server_row_means (server_line c) c (server_has_form c k h)

-- ---- what is written

no_text : {A : Type 0} (text : List ℕ) → Some text ≡ None → A
no_text text h = absurd (let x : Some text ≡ None = h in cc)

-- it was spelled, is the line with its CR LF, and is not too long
pub spelled_by : (spelled : Bool) (line text : List ℕ) → (if spelled then within_limit (ended line) else None) ≡ Some text → (spelled ≡ true) × (text ≡ ended line) × (length (ended line) ≤ 16384)
spelled_by false line text h = no_text text (sym h)
spelled_by true line text h = by_limit (nat_le (length (ended line)) 16384) refl h
  where
    by_limit : (t : Bool) → nat_le (length (ended line)) 16384 ≡ t → (if t then Some (ended line) else None) ≡ Some text → (true ≡ true) × (text ≡ ended line) × (length (ended line) ≤ 16384)
    by_limit true e g = (refl, (cc), leb-true (length (ended line)) 16384 e)
    by_limit false e g = no_text text (sym g)

pub client_reads_back : (c : ClientCommand) (text : List ℕ) → HasClientBytes c → client_text_of c ≡ Some text → ReadsBack client_meaning c text
client_reads_back c text k h =
    let s = spelled_by (is_client_spelled c) (client_line c) text h in
    record { line = client_line c; is_line = client_is_line c k s.0 (omega (arith, s.2, length-ended (client_line c))); is = s.1; reads = client_reads c k s.0 }

pub server_reads_back : (c : ServerCommand) (text : List ℕ) → HasServerBytes c → server_text_of c ≡ Some text → ReadsBack server_meaning c text
server_reads_back c text k h =
    let s = spelled_by (is_server_spelled c) (server_line c) text h in
    record { line = server_line c; is_line = server_is_line c k s.0 (omega (arith, s.2, length-ended (server_line c))); is = s.1; reads = server_reads c k s.0 }

-- Which texts are bytes in hexadecimal, by their digits.

-- what decodes is digits
digits_if : (text : List ℕ) (r : Result (List ℕ) FromHexError) → decode_of text ≡ r → list_all is_hex_digit text ≡ false → by_hex (λ bytes. true) false r ≡ false
digits_if text (Ok bytes) e h = absurd (let x : true ≡ false = sym (list_all-from_AllPass is_hex_digit text (decode_of-ok text bytes e).1) ∙ h in cc)
digits_if text (Err f) e h = refl

digits_by : (text : List ℕ) → length text % 2 ≡ 0 → (digits : Bool) → list_all is_hex_digit text ≡ digits → digits ≡ is_hex text
digits_by text even true d = let r = decode_of-digits text even (AllPass-from_list_all is_hex_digit text d) in sym (ap (by_hex (λ bytes. true) false) r.1)
digits_by text even false d = sym (digits_if text (decode_of text) refl d)

pub hex_digits : (text : List ℕ) → length text % 2 ≡ 0 → list_all is_hex_digit text ≡ is_hex text
hex_digits text even = digits_by text even (list_all is_hex_digit text) refl
