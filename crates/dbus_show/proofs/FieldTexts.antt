-- The header's line of a valid message, and its whole text, have no other line feeds than those at
-- the ends of lines.
use Rattle.std.proofs.Common.{append_assoc, ◌≡◌, ◌≢◌, ℕ, suc, Bool, true, false, eqb, cond, IsTrue, List, [], ◌∷◌, ◌++◌, ⊎_elim, length, map, codes, decimal, Option, Some, None, IfSome, refl, sym, subst, arith, ◌+◌, ◌<◌, get_or, take, ap, ◌∙◌}
use Rattle.std.specs.List.{flat_map, AllByRecursion}
use Rattle.std.specs.Option.{unwrap_or}
use Rattle.std.proofs.lemmas.List.{take_more}
use Rattle.hex.specs.Hex.{encode_lower}
use Rattle.dbus_texts.specs.Types.{UINT32, TextCode, STRING, OBJECT_PATH, SIGNATURE, NumberType, TextType}
use Rattle.dbus_texts.specs.declared.text_kind.TextKind.{TextKind}
use Rattle.dbus_texts.specs.declared.text_kind.TextKind.TheVariants as kinds
use Rattle.dbus_texts.specs.Kinds.{IsKind, is_word, is_word_start, is_dashed, is_dashed_start, IsElement, each_after, IsPath, IsJoined, IsInterface, IsSignature}
use Rattle.dbus_value_model.specs.WantedTexts.{Of, IsWanted, kind_of}
use Rattle.dbus_value_model.specs.declared.order.Order.{Order}
use Rattle.dbus_value_model.specs.declared.order.Order.TheVariants.{Little, Big}
use Rattle.dbus_value_model.specs.Values.{ValueTree, NumberValue, TextValue, value_trees, IsWellFormed, AreWellFormed}
use Rattle.dbus_message_model.specs.Messages.{FieldTree, MessageTree, order_byte, is_known, field_struct, Want, OfType, Name, Serial, want, is_particular, Suits, AreFields}
use Rattle.dbus_message_model.specs.MessageTypes.{type_name}
use Rattle.dbus_message_model.proofs.Widening.{widest_valid}
use Rattle.dbus_show.specs.ShownMessages.{line_feeds, OneForEachLine, kind_text, field_name, bare, field_value, field_text, front_text, start_text, header_line, body_line}
use Rattle.dbus_show.specs.ShownValues.{value_text, value_texts}
use Rattle.dbus_show.proofs.LineFeeds.{IsOneLine, AreLines, feeds_append, line_literal, line_append, line_cons, line_either, line_decimal, line_hex, line_sigs, line_value, lines_of}

-- ---- names

other : (p : ℕ → Bool) → (IsTrue (p 10) → ⊥) → (b : ℕ) → IsTrue (p b) → b ≢ 10
other p none b h = λ e. none (subst (λ x. IsTrue (p x)) e h)

one_line_all : (p : ℕ → Bool) → (IsTrue (p 10) → ⊥) → (w : List ℕ) → AllByRecursion (λ c. IsTrue (p c)) w → IsOneLine w
one_line_all p none [] h = line_literal [] refl
one_line_all p none (b ∷ w) h = line_cons b w (other p none b h.0) (one_line_all p none w h.1)

one_line_element : (start more : ℕ → Bool) → (IsTrue (start 10) → ⊥) → (IsTrue (more 10) → ⊥) → (w : List ℕ) → IsElement start more w → IsOneLine w
one_line_element start more hs hm [] h = absurd h
one_line_element start more hs hm (b ∷ w) h = line_cons b w (other start hs b h.0) (one_line_all more hm w h.1)

one_line_each : (start more : ℕ → Bool) (separator : ℕ) → (IsTrue (start 10) → ⊥) → (IsTrue (more 10) → ⊥) → separator ≢ 10 → (es : List (List ℕ)) → AllByRecursion (IsElement start more) es → IsOneLine (each_after separator es)
one_line_each start more separator hs hm n [] h = line_literal [] refl
one_line_each start more separator hs hm n (e ∷ es) h =
    line_cons separator (e ++ each_after separator es) n (line_append e (each_after separator es) (one_line_element start more hs hm e h.0) (one_line_each start more separator hs hm n es h.1))

one_line_joined : (start more : ℕ → Bool) → (IsTrue (start 10) → ⊥) → (IsTrue (more 10) → ⊥) → (w : List ℕ) → IsJoined start more w → IsOneLine w
one_line_joined start more hs hm w (e, f, es, h, is) =
    subst IsOneLine (sym is) (line_append e (each_after 46 (f ∷ es)) (one_line_element start more hs hm e h.0) (one_line_each start more 46 hs hm (λ x. omega arith) (f ∷ es) h.1))

one_line_path : (w : List ℕ) → IsPath w → IsOneLine w
one_line_path w h = ⊎_elim
    (λ is. subst IsOneLine (sym is) (line_literal (47 ∷ []) refl))
    (λ (e, es, all, is). subst IsOneLine (sym is) (one_line_each is_word is_word 47 (λ x. cc) (λ x. cc) (λ x. omega arith) (e ∷ es) all))
    h

one_line_member : (w : List ℕ) → IsKind kinds.Member w → IsOneLine w
one_line_member w h = one_line_element is_word_start is_word (λ x. cc) (λ x. cc) w h.0

one_line_interface : (w : List ℕ) → IsInterface w → IsOneLine w
one_line_interface w h = one_line_joined is_word_start is_word (λ x. cc) (λ x. cc) w h

one_line_bus : (w : List ℕ) → IsKind kinds.BusName w → IsOneLine w
one_line_bus w h = ⊎_elim
    (λ (v, joined, is). subst IsOneLine (sym is) (line_cons 58 v (λ x. omega arith) (one_line_joined is_dashed is_dashed (λ x. cc) (λ x. cc) v joined)))
    (λ joined. one_line_joined is_dashed_start is_dashed (λ x. cc) (λ x. cc) w joined)
    h.0

one_line_signature : (w : List ℕ) → IsSignature w → IsOneLine w
one_line_signature w (ts, complete, is) = subst IsOneLine (sym is) (line_sigs ts)

-- ---- known fields

-- a well-formed text that suits is one line
abbrev Asks : Want → Type 0
Asks w = (k : TextCode) (t : List ℕ) → Suits w (TextValue k t) → IsWanted (kind_of k) t → IsOneLine t

asks_type_path : Asks (OfType (TextType OBJECT_PATH))
asks_type_path STRING t s w = cc
asks_type_path OBJECT_PATH t s w = one_line_path t w.0
asks_type_path SIGNATURE t s w = cc

asks_type_signature : Asks (OfType (TextType SIGNATURE))
asks_type_signature STRING t s w = cc
asks_type_signature OBJECT_PATH t s w = cc
asks_type_signature SIGNATURE t s w = one_line_signature t w.0

asks_type_number : Asks (OfType (NumberType UINT32))
asks_type_number k t s w = cc

asks_serial : Asks Serial
asks_serial k t (n, is, positive) w = cc

asks_name : (kind : TextKind) → ((w : List ℕ) → IsKind kind w → IsOneLine w) → Asks (Name (Of kind))
asks_name kind line k t (u, is, wanted) w = let same : u ≡ t = cc in subst IsOneLine same (line u wanted)

abbrev KnownAsks : Want → Type 0
KnownAsks w = is_particular w ≡ true → Asks w

either_asks : (b : Bool) (x y : Want) → Asks x → KnownAsks y → KnownAsks (cond b x y)
either_asks true x y p q = λ known. p
either_asks false x y p q = q

asks_one_line : (code : ℕ) → is_known code ≡ true → Asks (want code)
asks_one_line code =
    either_asks (eqb code 1) _ _ asks_type_path (either_asks (eqb code 2) _ _ (asks_name kinds.Interface (λ w h. one_line_interface w h.0))
    (either_asks (eqb code 3) _ _ (asks_name kinds.Member one_line_member) (either_asks (eqb code 4) _ _ (asks_name kinds.ErrorName (λ w h. one_line_interface w h.0))
    (either_asks (eqb code 5) _ _ asks_serial (either_asks (eqb code 6) _ _ (asks_name kinds.BusName one_line_bus)
    (either_asks (eqb code 7) _ _ (asks_name kinds.BusName one_line_bus) (either_asks (eqb code 8) _ _ asks_type_signature
    (either_asks (eqb code 9) _ _ asks_type_number (λ known. absurd cc)))))))))

bare_line : (code : ℕ) (v : ValueTree) (room : ℕ) → is_known code ≡ true → Suits (want code) v → IsWellFormed room v → IsOneLine (bare v)
bare_line code (TextValue k t) room known suits formed = asks_one_line code known k t suits formed.0
bare_line code (NumberValue UINT32 n) room known suits formed = line_decimal n
bare_line code v room known suits formed = line_value v

-- by whether the code is known
value_line : (c : Bool) (code : ℕ) (v : ValueTree) (room : ℕ) → is_known code ≡ c → Suits (want code) v → IsWellFormed room v → IsOneLine (cond c (bare v) (value_text v))
value_line true code v room known suits formed = bare_line code v room known suits formed
value_line false code v room known suits formed = line_value v

pub name_line : (code : ℕ) → IsOneLine (field_name code)
name_line code =
    line_either (eqb code 1) _ _ (line_literal (codes "path") refl) (line_either (eqb code 2) _ _ (line_literal (codes "interface") refl)
    (line_either (eqb code 3) _ _ (line_literal (codes "member") refl) (line_either (eqb code 4) _ _ (line_literal (codes "error_name") refl)
    (line_either (eqb code 5) _ _ (line_literal (codes "reply_serial") refl) (line_either (eqb code 6) _ _ (line_literal (codes "destination") refl)
    (line_either (eqb code 7) _ _ (line_literal (codes "sender") refl) (line_either (eqb code 8) _ _ (line_literal (codes "signature") refl)
    (line_either (eqb code 9) _ _ (line_literal (codes "unix_fds") refl) (line_append (codes "field") (decimal code) (line_literal (codes "field") refl) (line_decimal code))))))))))

line_if : (b : Bool) (x y : Option (List ℕ)) → IfSome x IsOneLine → IfSome y IsOneLine → IfSome (cond b x y) IsOneLine
line_if true x y h k = h
line_if false x y h k = k

pub type_name_line : (kind : ℕ) → IfSome (type_name kind) IsOneLine
type_name_line kind =
    line_if (eqb kind 1) _ _ (line_literal (codes "method_call") refl) (line_if (eqb kind 2) _ _ (line_literal (codes "method_return") refl)
    (line_if (eqb kind 3) _ _ (line_literal (codes "error") refl) (line_if (eqb kind 4) (Some (codes "signal")) None (line_literal (codes "signal") refl) tt)))

pub line_or : (name : Option (List ℕ)) (other : List ℕ) → IfSome name IsOneLine → IsOneLine other → IsOneLine (unwrap_or name other)
line_or (Some text) other h k = h
line_or None other h k = k

kind_line : (kind : ℕ) → IsOneLine (kind_text kind)
kind_line kind = line_or (type_name kind) _ (type_name_line kind) (line_append (codes "kind") (decimal kind) (line_literal (codes "kind") refl) (line_decimal kind))

fields_line : (before fs : List FieldTree) (inner : ℕ) → AreFields before fs → AreWellFormed (suc (suc inner)) (value_trees (map field_struct fs)) → IsOneLine (flat_map field_text fs)
fields_line before [] inner are formed = line_literal [] refl
fields_line before (f ∷ fs) inner are formed =
    let value = value_line (is_known f.code) f.code f.value inner refl are.0.suits formed.0.1.0.1 in
    line_append (field_text f) (flat_map field_text fs)
    (line_append (codes " ") (field_name f.code ++ (codes "=" ++ field_value f)) (line_literal (codes " ") refl)
    (line_append (field_name f.code) (codes "=" ++ field_value f) (name_line f.code) (line_append (codes "=") (field_value f) (line_literal (codes "=") refl) value)))
    (fields_line (f ∷ before) fs inner are.1 formed.1)

-- ---- lines

pub order_line : (order : Order) → IsOneLine (order_byte order ∷ [])
order_line Little = line_literal (108 ∷ []) refl
order_line Big = line_literal (66 ∷ []) refl

record IsEnded (t : List ℕ) : Type 0 where
  one : line_feeds t ≡ 1

ended : (s t : List ℕ) → IsOneLine s → IsEnded t → IsEnded (s ++ t)
ended s t hs ht = let e = feeds_append s t in record { one = omega (arith, hs.none, ht.one) }

-- what follows the type of a message stands behind the line as far as that
pub front_then : (order : Order) (kind number : ℕ) (more : List ℕ)
    → front_text order kind number ++ more ≡ codes "#" ++ (decimal number ++ (codes " " ++ ((order_byte order ∷ []) ++ (codes " " ++ (kind_text kind ++ more)))))
front_then order kind number more =
    let letter = order_byte order in
    ap (λ s. 35 ∷ s) (append_assoc (decimal number) (32 ∷ letter ∷ 32 ∷ (kind_text kind ++ [])) more
    ∙ ap (λ s. decimal number ++ (32 ∷ letter ∷ 32 ∷ s)) (append_assoc (kind_text kind) [] more))

start_line : (order : Order) (kind serial flags number : ℕ) → IsOneLine (start_text order kind serial flags number)
start_line order kind serial flags number =
    line_append (codes "#") _ (line_literal (codes "#") refl) (line_append (decimal number) _ (line_decimal number) (line_append (codes " ") _ (line_literal (codes " ") refl)
    (line_append (order_byte order ∷ []) _ (order_line order) (line_append (codes " ") _ (line_literal (codes " ") refl) (line_append (kind_text kind) _ (kind_line kind)
    (line_append (codes " serial=") _ (line_literal (codes " serial=") refl) (line_append (decimal serial) _ (line_decimal serial) (line_append (codes " flags=") _ (line_literal (codes " flags=") refl)
    (line_append (encode_lower (flags ∷ [])) [] (line_hex (flags ∷ [])) (line_literal [] refl))))))))))

header_ended : (order : Order) (m : MessageTree) (number : ℕ) → IsOneLine (flat_map field_text m.fields) → IsEnded (header_line order m number)
header_ended order m number fields =
    let end : IsEnded (codes "\n") = record { one = refl } in
    ended (start_text order m.kind m.serial m.flags number) _ (start_line order m.kind m.serial m.flags number) (ended (flat_map field_text m.fields) (codes "\n") fields end)

body_lines : (texts : List (List ℕ)) → AreLines texts → line_feeds (flat_map body_line texts) ≡ length texts
body_lines [] h = refl
body_lines (t ∷ ts) h =
    let end : IsEnded (codes "\n") = record { one = refl } in
    let line = ended (codes "  ") (t ++ codes "\n") (line_literal (codes "  ") refl) (ended t (codes "\n") h.0 end) in
    let rest = body_lines ts h.1 in
    let e = feeds_append (body_line t) (flat_map body_line ts) in
    omega (arith, line.one)

pub one_for_each_line : OneForEachLine
one_for_each_line limits order m number valid =
    let v = widest_valid limits m valid order in
    let fields = fields_line [] m.fields 61 v.fields v.formed_fields.1 in
    let header = header_ended order m number fields in
    let body = body_lines (value_texts m.body) (lines_of m.body) in
    let e = feeds_append (header_line order m number) (flat_map body_line (value_texts m.body)) in
    omega (arith, header.one)

-- Texts that a draft gains one after the other, by the law of drafts.

module _ {D : Type 0} (gains : D → List ℕ → D → Type 0) (joins : (a b c : D) (s t : List ℕ) → gains a s b → gains b t c → gains a (s ++ t) c) where
  pub then : {a b c : D} {s t : List ℕ} → gains a s b → gains b t c → gains a (s ++ t) c
  then {a} {b} {c} {s} {t} p q = joins a b c s t p q

  -- `all` gives the text of items in a row, and `one` that of the next: from the text of i items to
  -- that of i + 1
  pub one_more : {X : Type 0} {a b c : D} (all : List X → List ℕ) (one : X → List ℕ) → ((xs : List X) (x : X) → all (xs ++ x ∷ []) ≡ all xs ++ one x) → (xs : List X) (i : ℕ) (x : X)
      → i < length xs → x ≡ get_or xs i x → gains a (all (take i xs)) b → gains b (one x) c → gains a (all (take (i + 1) xs)) c
  one_more {X} {a} {b} {c} all one push xs i x h is p q =
      let e : all (take i xs) ++ one x ≡ all (take (i + 1) xs) = sym (ap all (take_more xs i x h ∙ ap (λ y. take i xs ++ y ∷ []) (sym is)) ∙ push (take i xs) x) in
      subst (λ t. gains a t c) e (then p q)
