-- What a line means is what its row says, and Other where no row has it.
use Rattle.std.proofs.Common.{◌≡◌, ◌⊎◌, inl, inr, ℕ, ◌==◌, not, Bool, true, false, cond, List, [], ◌∷◌, ◌++◌, length, drop, refl, sym, ◌∙◌, ap, subst}
use Rattle.std.specs.Prelude.{codes, bytes_eq, Some, Result, Ok, Err, ◌↔◌}
use Rattle.std.specs.List.{list_all}
use Rattle.std.proofs.lemmas.Bool.{and_parts, not-true, eqb-true, eq-eqb}
use Rattle.std.proofs.lemmas.List.{drop_at}
use Rattle.std.proofs.lemmas.Slice.Eq.{bytes_eq-Decides}
use Rattle.hex.specs.Hex.{decode_of, decode_pairs}
use Rattle.hex.specs.declared.error.FromHexError.{FromHexError}
use Rattle.dbus_auth_lines.specs.ClientCommands.{ClientCommand}
use Rattle.dbus_auth_lines.specs.ClientCommands as client
use Rattle.dbus_auth_lines.specs.ServerCommands.{ServerCommand}
use Rattle.dbus_auth_lines.specs.ServerCommands as server
use Rattle.dbus_auth_lines.specs.Lines.{client_name, server_name, client_meaning, server_meaning, command_name, words, arguments, at_word_end, by_hex, auth_by, client_data, server_data, alone, accepted, client_row, server_row}
use Rattle.dbus_auth_lines.specs.WordPlaces.{one_word}
use Rattle.dbus_auth_lines.specs.LineForms.{HasForm, HasText, IsClientLine, IsServerLine, MeansToServer, MeansToClient}
use Rattle.dbus_auth_lines.specs.declared.places.ClientName.{ClientName}
use Rattle.dbus_auth_lines.specs.declared.places.ClientName.TheVariants as of_client
use Rattle.dbus_auth_lines.specs.declared.places.ServerName.{ServerName}
use Rattle.dbus_auth_lines.specs.declared.places.ServerName.TheVariants as of_server
use Rattle.dbus_auth_lines.proofs.Spaces.{command_is, no_command}
use Rattle.dbus_auth_lines.proofs.WordForms.{ends_word, words_of, form_of, by_end}

-- ---- a name and words

abbrev is_name : List ℕ → Bool
is_name name = list_all (λ b. not (b == 32)) name

name_first : (name text : List ℕ) → is_name name ≡ true → at_word_end text ≡ true → command_name (name ++ text) ≡ name
name_first [] text n e = no_command text e
name_first (b ∷ bs) text n e =
    let p = and_parts (not (b == 32)) (is_name bs) n in
    command_is b (bs ++ text) (not-true (b == 32) p.0) ∙ ap (λ (x : List ℕ). b ∷ x) (name_first bs text p.1 e)

form_means : (line name : List ℕ) (ws : List (List ℕ)) → is_name name ≡ true → HasForm line name ws → (command_name line ≡ name) × (arguments line ≡ ws)
unfolding arguments
form_means line name ws n h =
    let first = name_first name h.0 n (ends_word ws h.0 h.1.1) in (
      ap command_name h.1.0 ∙ first,
      ap arguments h.1.0 ∙ ap (λ (c : List ℕ). words (drop (length c) (name ++ h.0))) first ∙ ap words (drop_at name h.0 (length name) refl) ∙ words_of ws h.0 h.1.1,
    )

text_means : (line text : List ℕ) → HasText line text → (command_name line ≡ codes "ERROR") × (drop 6 line ≡ text)
unfolding command_name
text_means line text (inl h) = (ap command_name h.0, ap (drop 6) h.0 ∙ sym h.1)
text_means line text (inr h) = (ap command_name h, ap (drop 6) h)

text_after : (line : List ℕ) → HasForm line (codes "ERROR") (arguments line) → HasText line (drop 6 line)
text_after line h = by_end (λ t. line ≡ codes "ERROR" ++ t → HasText line (drop 6 line)) (λ e. inl (e, ap (drop 6) e)) (λ rest e. inr (e ∙ ap (λ (x : List ℕ). codes "ERROR" ++ 32 ∷ x) (sym (ap (drop 6) e)))) h.0 (ends_word (arguments line) h.0 h.1.1) h.1.0

-- ---- what holds of each row that a name, a word or no words can choose

named : {N : Type 0} (P : N → Type 0) (name row_name : List ℕ) (row others : N) → (name ≡ row_name → P row) → P others → P (cond (bytes_eq name row_name) row others)
named P name row_name row others is rest = by_test (bytes_eq name row_name) (bytes_eq-Decides name row_name).0
  where
    by_test : (t : Bool) → (t ≡ true → name ≡ row_name) → P (cond t row others)
    by_test true same = is (same refl)
    by_test false same = rest

hex_row : {C : Type 0} (P : C → Type 0) (good : List ℕ → C) (bad : C) (word : List ℕ) → ((bytes : List ℕ) → decode_of word ≡ Ok bytes → P (good bytes)) → P bad → P (by_hex good bad (decode_of word))
hex_row P good bad word some none = by_digits (decode_of word) refl
  where
    by_digits : (r : Result (List ℕ) FromHexError) → decode_of word ≡ r → P (by_hex good bad r)
    by_digits (Ok bytes) e = some bytes e
    by_digits (Err f) e = none

alone_row : {C : Type 0} (P : C → Type 0) (good bad : C) (line name : List ℕ) (ws : List (List ℕ)) → (HasForm line name [] → P good) → P bad → HasForm line name ws → P (alone good bad ws)
alone_row P good bad line name [] is none h = is h
alone_row P good bad line name (w ∷ ws) is none h = none

-- the meaning is what its row says
module _ {C : Type 0} (Row : C → Type 0) (none meaning : C) (no_row : Row none → ⊥) (means : (c : C) → Row c → meaning ≡ c) (has : Row meaning ⊎ (meaning ≡ none)) where
  decided : (c : C) → (Row c ⊎ ((c ≡ none) × ((other : C) → Row other → ⊥))) ↔ (meaning ≡ c)
  decided c = (is has, back has)
    where
      is : Row meaning ⊎ (meaning ≡ none) → Row c ⊎ ((c ≡ none) × ((other : C) → Row other → ⊥)) → meaning ≡ c
      is _ (inl row) = means c row
      is (inl row) (inr lacks) = absurd (lacks.1 meaning row)
      is (inr e) (inr lacks) = e ∙ sym lacks.0

      back : Row meaning ⊎ (meaning ≡ none) → meaning ≡ c → Row c ⊎ ((c ≡ none) × ((other : C) → Row other → ⊥))
      back (inl row) e = inl (subst Row e row)
      back (inr o) e = inr (sym e ∙ o, λ other row. no_row (subst Row (sym (means other row) ∙ o) row))

-- ---- a client's lines

client_named : (line name : List ℕ) → command_name line ≡ name → client_meaning line ≡ client_row (client_name name) (arguments line) line
unfolding client_meaning
client_named line name e = ap (λ (m : List ℕ). client_row (client_name m) (arguments line) line) e

client_form : (line name : List ℕ) (ws : List (List ℕ)) → is_name name ≡ true → HasForm line name ws → client_meaning line ≡ client_row (client_name name) ws line
client_form line name ws n h =
    let m = form_means line name ws n h in
    client_named line name m.0 ∙ ap (λ (v : List (List ℕ)). client_row (client_name name) v line) m.1

pub client_row_means : (line : List ℕ) (c : ClientCommand) → IsClientLine line c → client_meaning line ≡ c
client_row_means line client.Auth h = client_form line (codes "AUTH") [] refl h
client_row_means line (client.AuthBy mech response) (inl h) = client_form line (codes "AUTH") (mech ∷ []) refl h.1 ∙ ap (client.AuthBy mech) (sym h.0)
client_row_means line (client.AuthBy mech response) (inr h) = client_form line (codes "AUTH") (mech ∷ h.0 ∷ []) refl h.1.1 ∙ ap (by_hex (client.AuthBy mech) client.Other) h.1.0
client_row_means line client.Cancel h = client_form line (codes "CANCEL") [] refl h
client_row_means line client.Begin h = client_form line (codes "BEGIN") [] refl h
client_row_means line (client.DataOf bytes) (inl h) = client_form line (codes "DATA") [] refl h.1 ∙ ap client.DataOf (sym h.0)
client_row_means line (client.DataOf bytes) (inr h) = client_form line (codes "DATA") (h.0 ∷ []) refl h.1.1 ∙ ap (by_hex client.DataOf client.Other) h.1.0
client_row_means line (client.Error text) h = let m = text_means line text h in client_named line (codes "ERROR") m.0 ∙ ap client.Error m.1
client_row_means line client.Negotiate h = client_form line (codes "NEGOTIATE_UNIX_FD") [] refl h
client_row_means line client.Other h = absurd h

abbrev ClientRow : List ℕ → ClientCommand → Type 0
ClientRow line c = IsClientLine line c ⊎ (c ≡ client.Other)

auth_row : (line : List ℕ) (ws : List (List ℕ)) → HasForm line (codes "AUTH") ws → ClientRow line (auth_by ws)
auth_row line [] h = inl h
auth_row line (mech ∷ []) h = inl (inl (refl, h))
auth_row line (mech ∷ word ∷ []) h = hex_row (ClientRow line) (client.AuthBy mech) client.Other word (λ bytes e. inl (inr (word, (e, h)))) (inr refl)
auth_row line (mech ∷ word ∷ more ∷ rest) h = inr refl

client_data_row : (line : List ℕ) (ws : List (List ℕ)) → HasForm line (codes "DATA") ws → ClientRow line (client_data ws)
client_data_row line [] h = inl (inl (refl, h))
client_data_row line (word ∷ []) h = hex_row (ClientRow line) client.DataOf client.Other word (λ bytes e. inl (inr (word, (e, h)))) (inr refl)
client_data_row line (word ∷ more ∷ rest) h = inr refl

client_names : (P : ClientName → Type 0) (n : List ℕ) → (n ≡ codes "AUTH" → P of_client.Auth) → (n ≡ codes "CANCEL" → P of_client.Cancel) → (n ≡ codes "BEGIN" → P of_client.Begin)
    → (n ≡ codes "DATA" → P of_client.Data) → (n ≡ codes "ERROR" → P of_client.Error) → (n ≡ codes "NEGOTIATE_UNIX_FD" → P of_client.Negotiate) → P of_client.Unknown → P (client_name n)
client_names P n a c b d e f none =
    named P n (codes "AUTH") of_client.Auth _ a (named P n (codes "CANCEL") of_client.Cancel _ c (named P n (codes "BEGIN") of_client.Begin _ b
    (named P n (codes "DATA") of_client.Data _ d (named P n (codes "ERROR") of_client.Error _ e (named P n (codes "NEGOTIATE_UNIX_FD") of_client.Negotiate _ f none)))))

client_has_row : (line : List ℕ) → ClientRow line (client_meaning line)
unfolding client_meaning
client_has_row line =
    let words = arguments line in
    client_names (λ m. ClientRow line (client_row m (arguments line) line)) (command_name line)
    (λ e. auth_row line words (form_of line (codes "AUTH") e))
    (λ e. alone_row (ClientRow line) client.Cancel client.Other line (codes "CANCEL") words (λ h. inl h) (inr refl) (form_of line (codes "CANCEL") e))
    (λ e. alone_row (ClientRow line) client.Begin client.Other line (codes "BEGIN") words (λ h. inl h) (inr refl) (form_of line (codes "BEGIN") e))
    (λ e. client_data_row line words (form_of line (codes "DATA") e))
    (λ e. inl (text_after line (form_of line (codes "ERROR") e)))
    (λ e. alone_row (ClientRow line) client.Negotiate client.Other line (codes "NEGOTIATE_UNIX_FD") words (λ h. inl h) (inr refl) (form_of line (codes "NEGOTIATE_UNIX_FD") e))
    (inr refl)

pub client_means : (line : List ℕ) (c : ClientCommand) → MeansToServer line c ↔ (client_meaning line ≡ c)
client_means line = decided (IsClientLine line) client.Other (client_meaning line) (λ h. h) (client_row_means line) (client_has_row line)

-- ---- a server's lines

server_named : (line name : List ℕ) → command_name line ≡ name → server_meaning line ≡ server_row (server_name name) (arguments line) line
unfolding server_meaning
server_named line name e = ap (λ (m : List ℕ). server_row (server_name m) (arguments line) line) e

server_form : (line name : List ℕ) (ws : List (List ℕ)) → is_name name ≡ true → HasForm line name ws → server_meaning line ≡ server_row (server_name name) ws line
server_form line name ws n h =
    let m = form_means line name ws n h in
    server_named line name m.0 ∙ ap (λ (v : List (List ℕ)). server_row (server_name name) v line) m.1

accepted_sized : (word : List ℕ) → length word ≡ 32 → accepted (word ∷ []) ≡ by_hex server.Accepted server.Other (decode_of word)
accepted_sized word n = rw (eq-eqb (length word) 32 n) refl

pub server_row_means : (line : List ℕ) (c : ServerCommand) → IsServerLine line c → server_meaning line ≡ c
server_row_means line (server.Rejected ws) h = server_form line (codes "REJECTED") ws refl h
server_row_means line (server.Accepted guid) h =
    server_form line (codes "OK") (h.0 ∷ []) refl h.1.1.1 ∙ accepted_sized h.0 h.1.0 ∙ ap (by_hex server.Accepted server.Other) h.1.1.0
server_row_means line (server.DataOf bytes) (inl h) = server_form line (codes "DATA") [] refl h.1 ∙ ap server.DataOf (sym h.0)
server_row_means line (server.DataOf bytes) (inr h) = server_form line (codes "DATA") (h.0 ∷ []) refl h.1.1 ∙ ap (by_hex server.DataOf server.Other) h.1.0
server_row_means line (server.Error text) h = let m = text_means line text h in server_named line (codes "ERROR") m.0 ∙ ap server.Error m.1
server_row_means line server.Agree h = server_form line (codes "AGREE_UNIX_FD") [] refl h
server_row_means line server.Other h = absurd h

abbrev ServerRow : List ℕ → ServerCommand → Type 0
ServerRow line c = IsServerLine line c ⊎ (c ≡ server.Other)

ok_row : (line : List ℕ) (ws : List (List ℕ)) → HasForm line (codes "OK") ws → ServerRow line (accepted ws)
ok_row line [] h = inr refl
ok_row line (word ∷ []) h = by_length (length word == 32) (eqb-true (length word) 32)
  where
    by_length : (t : Bool) → (t ≡ true → length word ≡ 32) → ServerRow line (cond t (by_hex server.Accepted server.Other (decode_of word)) server.Other)
    by_length true n = hex_row (ServerRow line) server.Accepted server.Other word (λ guid e. inl (word, (n refl, (e, h)))) (inr refl)
    by_length false n = inr refl
ok_row line (word ∷ more ∷ rest) h = inr refl

server_data_row : (line : List ℕ) (ws : List (List ℕ)) → HasForm line (codes "DATA") ws → ServerRow line (server_data ws)
server_data_row line [] h = inl (inl (refl, h))
server_data_row line (word ∷ []) h = hex_row (ServerRow line) server.DataOf server.Other word (λ bytes e. inl (inr (word, (e, h)))) (inr refl)
server_data_row line (word ∷ more ∷ rest) h = inr refl

server_names : (P : ServerName → Type 0) (n : List ℕ) → (n ≡ codes "REJECTED" → P of_server.Rejected) → (n ≡ codes "OK" → P of_server.Ok) → (n ≡ codes "DATA" → P of_server.Data)
    → (n ≡ codes "ERROR" → P of_server.Error) → (n ≡ codes "AGREE_UNIX_FD" → P of_server.Agree) → P of_server.Unknown → P (server_name n)
server_names P n r o d e a none =
    named P n (codes "REJECTED") of_server.Rejected _ r (named P n (codes "OK") of_server.Ok _ o (named P n (codes "DATA") of_server.Data _ d
    (named P n (codes "ERROR") of_server.Error _ e (named P n (codes "AGREE_UNIX_FD") of_server.Agree _ a none))))

server_has_row : (line : List ℕ) → ServerRow line (server_meaning line)
unfolding server_meaning
server_has_row line =
    let words = arguments line in
    server_names (λ m. ServerRow line (server_row m (arguments line) line)) (command_name line)
    (λ e. inl (form_of line (codes "REJECTED") e))
    (λ e. ok_row line words (form_of line (codes "OK") e))
    (λ e. server_data_row line words (form_of line (codes "DATA") e))
    (λ e. inl (text_after line (form_of line (codes "ERROR") e)))
    (λ e. alone_row (ServerRow line) server.Agree server.Other line (codes "AGREE_UNIX_FD") words (λ h. inl h) (inr refl) (form_of line (codes "AGREE_UNIX_FD") e))
    (inr refl)

pub server_means : (line : List ℕ) (c : ServerCommand) → MeansToClient line c ↔ (server_meaning line ≡ c)
server_means line = decided (IsServerLine line) server.Other (server_meaning line) (λ h. h) (server_row_means line) (server_has_row line)

-- ---- what the code answers

pub client_answer_means : (line : List ℕ) (said found : ClientCommand) → said ≡ found → found ≡ client_meaning line → MeansToServer line said
client_answer_means line said found is means = (client_means line said).1 (sym (is ∙ means))

pub server_answer_means : (line : List ℕ) (said found : ServerCommand) → said ≡ found → found ≡ server_meaning line → MeansToClient line said
server_answer_means line said found is means = (server_means line said).1 (sym (is ∙ means))

-- the only word, which is empty if there is none, is the hexadecimal one
module _ {C : Type 0} (good : List ℕ → C) (bad : C) (row : List (List ℕ) → C) (none : row [] ≡ good []) (one : (w : List ℕ) → row (w ∷ []) ≡ by_hex good bad (decode_of w)) where
  by_one_word : (ws : List (List ℕ)) (w : List ℕ) → Some w ≡ one_word ws → by_hex good bad (decode_of w) ≡ row ws
  unfolding decode_pairs
  by_one_word [] w e = let same : w ≡ [] = cc in rw same (sym none)
  by_one_word (v ∷ []) w e = let same : w ≡ v = cc in rw same (sym (one v))
  by_one_word (v ∷ more ∷ rest) w e = cc e

pub auth_response : (mech w : List ℕ) (all ws : List (List ℕ)) → all ≡ mech ∷ ws → Some w ≡ one_word ws → by_hex (client.AuthBy mech) client.Other (decode_of w) ≡ auth_by all
auth_response mech w all ws is e = by_one_word (client.AuthBy mech) client.Other (λ vs. auth_by (mech ∷ vs)) refl (λ v. refl) ws w e ∙ ap auth_by (sym is)

pub client_data_word : (w : List ℕ) (ws : List (List ℕ)) → Some w ≡ one_word ws → by_hex client.DataOf client.Other (decode_of w) ≡ client_data ws
client_data_word w ws = by_one_word client.DataOf client.Other client_data refl (λ v. refl) ws w

pub server_data_word : (w : List ℕ) (ws : List (List ℕ)) → Some w ≡ one_word ws → by_hex server.DataOf server.Other (decode_of w) ≡ server_data ws
server_data_word w ws = by_one_word server.DataOf server.Other server_data refl (λ v. refl) ws w
