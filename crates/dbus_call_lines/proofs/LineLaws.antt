-- A line is its front and its end.
use Rattle.std.proofs.Common.{◌≡◌, ℕ, List, [], ◌∷◌, ◌++◌, Option, None, Some, MatchOption, option_map, codes, decimal, refl, ap, sym, ◌∙◌, append-nil, append_assoc}
use Rattle.std.specs.Borrow.{Bor}
use Rattle.std.specs.Option.{unwrap_or}
use Rattle.std.proofs.lemmas.List.Concat.{flat_map-append}
use Rattle.dbus_texts.specs.Types.{TextCode}
use Rattle.dbus_value_model.specs.Values.{ValueTree, TextValue}
use Rattle.dbus_message_model.specs.declared.field_code.TheConstants as field
use Rattle.dbus_json.specs.JsonValues.{listed, member, plain, string}
use Rattle.dbus_json.specs.Times.{time_members}
use Rattle.dbus_match.specs.Matching.{text_of}
use Rattle.dbus_value_text.specs.Forms.{led}
use Rattle.dbus_calls.specs.Events.{destination_of, sender_of, text_at}
use Rattle.dbus_call_lines.specs.Durations.{exact_text}
use Rattle.dbus_call_lines.specs.CallLines.{HasTwoParts, behind_commas, connection_members, member_if, outcome_members}
use Rattle.dbus_call_lines.specs.Outcomes.{or_dash}
use Rattle.dbus_call_lines.specs.declared.elapsed.Elapsed.{Elapsed}
use Rattle.dbus_call_lines.specs.declared.form.Form.TheVariants.{Text, Json}

-- the text that a view gives of a field
pub text_seen : (seen : Option (Bor (List ℕ))) (kind : TextCode) (value : Option ValueTree) → MatchOption seen (value ≡ None) (λ s. value ≡ Some (TextValue kind s.now)) → option_map (λ t. t.now) seen ≡ text_of value
text_seen None kind value is = sym (ap text_of is)
text_seen (Some s) kind value is = sym (ap text_of is)

pub dash_at : (seen : Option (Bor (List ℕ))) (dash : Bor (List ℕ)) → dash.now ≡ codes "-" → (unwrap_or seen dash).now ≡ or_dash (option_map (λ t. t.now) seen)
dash_at None dash is = is
dash_at (Some s) dash is = refl

-- or `-` in its place
pub dash_seen : (seen : Option (Bor (List ℕ))) (dash text : Bor (List ℕ)) (kind : TextCode) (value : Option ValueTree) → dash.now ≡ codes "-" → text ≡ unwrap_or seen dash
    → MatchOption seen (value ≡ None) (λ s. value ≡ Some (TextValue kind s.now)) → text.now ≡ or_dash (text_of value)
dash_seen seen dash text kind value is same at = ap (λ (b : Bor (List ℕ)). b.now) same ∙ (dash_at seen dash is ∙ ap or_dash (text_seen seen kind value at))

-- the members after the first, each behind a comma
abbrev pub more_members : (time : Option ℕ) (serial : ℕ) (a b c d e : List (List ℕ)) → List (List ℕ)
more_members time serial a b c d e = time_members time ++ (member (codes "serial") (decimal serial) ∷ (a ++ (b ++ (c ++ (d ++ e)))))

module _ (name value : List ℕ) where
  comma_pieces : (comma quote colon : List ℕ) → ((comma ++ quote) ++ (name ++ (quote ++ colon))) ++ value ≡ (comma ++ ((quote ++ (name ++ quote)) ++ (colon ++ value))) ++ []
  comma_pieces comma quote colon = simp (append-nil, append_assoc)

  -- one member, behind its comma
  pub one_member : (codes ",\"" ++ (name ++ codes "\":")) ++ value ≡ behind_commas (member name value ∷ [])
  one_member = comma_pieces (codes ",") (codes "\"") (codes ":")

-- of a number, and of the text after it
pub number_member : (number : ℕ) → codes ",\"reply\":" ++ decimal number ≡ behind_commas (member (codes "reply") (decimal number) ∷ [])
number_member number = ap (λ t. codes ",\"reply\":" ++ t) (sym (append-nil (decimal number)))

-- of how long it took
pub took_member : (e : Elapsed) → codes ",\"milliseconds\":" ++ exact_text e ≡ behind_commas (member (codes "milliseconds") (exact_text e) ∷ [])
took_member e = ap (λ t. codes ",\"milliseconds\":" ++ t) (sym (append-nil (exact_text e)))

-- of a reply, and of an error
reply_pieces : (first more : List ℕ) → (first ++ []) ++ more ≡ first ++ more
reply_pieces first more = ap (λ t. t ++ more) (append-nil first)

pub replied_members : (number : ℕ) (more : List (List ℕ)) → behind_commas (member (codes "reply") (decimal number) ∷ []) ++ behind_commas more ≡ behind_commas (member (codes "reply") (decimal number) ∷ more)
replied_members number more = reply_pieces (codes "," ++ member (codes "reply") (decimal number)) (behind_commas more)

error_pieces : (first second value more : List ℕ) → (first ++ []) ++ (second ++ (value ++ more)) ≡ first ++ ((second ++ value) ++ more)
error_pieces first second value more = simp (append-nil, append_assoc)

pub error_members : (number : ℕ) (name : List ℕ) (more : List (List ℕ)) → behind_commas (member (codes "reply") (decimal number) ∷ []) ++ (codes ",\"error_name\":" ++ (string name ++ behind_commas more))
    ≡ behind_commas (member (codes "reply") (decimal number) ∷ member (codes "error_name") (string name) ∷ more)
error_members number name more = error_pieces (codes "," ++ member (codes "reply") (decimal number)) (codes ",\"error_name\":") (string name) (behind_commas more)

end_pieces : (lead word quote more close : List ℕ) → (lead ++ (word ++ quote)) ++ (more ++ close) ≡ ((lead ++ (word ++ quote)) ++ more) ++ close
end_pieces lead word quote more close = simp (append_assoc)

-- what came of a call, behind its comma, and then more members
pub outcome_first : (word : List ℕ) (more : List (List ℕ)) → (codes ",\"outcome\":\"" ++ (word ++ codes "\"")) ++ (behind_commas more ++ codes "}\n")
    ≡ behind_commas (member (codes "outcome") (plain word) ∷ more) ++ codes "}\n"
outcome_first word more = end_pieces (codes ",\"outcome\":\"") word (codes "\"") (behind_commas more) (codes "}\n")

-- members that may be there, each behind a comma
five : (a b c d e : List (List ℕ)) → behind_commas a ++ (behind_commas b ++ (behind_commas c ++ (behind_commas d ++ behind_commas e))) ≡ behind_commas (a ++ (b ++ (c ++ (d ++ e))))
five a b c d e =
    let with_comma : List ℕ → List ℕ = λ m. codes "," ++ m in
    ap (λ t. behind_commas a ++ (behind_commas b ++ (behind_commas c ++ t))) (sym (flat_map-append with_comma d e))
    ∙ (ap (λ t. behind_commas a ++ (behind_commas b ++ t)) (sym (flat_map-append with_comma c (d ++ e)))
    ∙ (ap (λ t. behind_commas a ++ t) (sym (flat_map-append with_comma b (c ++ (d ++ e))))
    ∙ sym (flat_map-append with_comma a (b ++ (c ++ (d ++ e))))))

-- a time, behind its comma
time_behind : (time : Option ℕ) → led (codes ",") (codes ",") (time_members time) ≡ behind_commas (time_members time)
time_behind None = refl
time_behind (Some t) = refl

serial_pieces : (begin number time lead serial more : List ℕ) → begin ++ (number ++ (time ++ (lead ++ (serial ++ more)))) ≡ begin ++ (number ++ (time ++ ((lead ++ serial) ++ more)))
serial_pieces begin number time lead serial more = simp (append_assoc)

-- the first members of a line
pub members_are : (number : ℕ) (time : Option ℕ) (serial : ℕ) (a b c d e : List (List ℕ))
    → codes "{\"number\":" ++ (decimal number ++ (led (codes ",") (codes ",") (time_members time) ++ (codes ",\"serial\":" ++ (decimal serial ++ (behind_commas a ++ (behind_commas b ++ (behind_commas c ++ (behind_commas d ++ behind_commas e))))))))
    ≡ codes "{" ++ listed (member (codes "number") (decimal number) ∷ (time_members time ++ (member (codes "serial") (decimal serial) ∷ (a ++ (b ++ (c ++ (d ++ e)))))))
members_are number time serial a b c d e =
    let with_comma : List ℕ → List ℕ = λ m. codes "," ++ m in
    let more : List (List ℕ) = a ++ (b ++ (c ++ (d ++ e))) in
    ap (λ t. codes "{\"number\":" ++ (decimal number ++ (led (codes ",") (codes ",") (time_members time) ++ (codes ",\"serial\":" ++ (decimal serial ++ t))))) (five a b c d e)
    ∙ (ap (λ t. codes "{\"number\":" ++ (decimal number ++ (t ++ (codes ",\"serial\":" ++ (decimal serial ++ behind_commas more))))) (time_behind time)
    ∙ (serial_pieces (codes "{\"number\":") (decimal number) (behind_commas (time_members time)) (codes ",\"serial\":") (decimal serial) (behind_commas more)
    ∙ ap (λ t. codes "{\"number\":" ++ (decimal number ++ t)) (sym (flat_map-append with_comma (time_members time) (member (codes "serial") (decimal serial) ∷ more)))))

joined : (begin first more others close last : List ℕ) → (begin ++ (first ++ more)) ++ (others ++ (close ++ last)) ≡ (begin ++ ((first ++ (more ++ others)) ++ close)) ++ last
joined begin first more others close last = simp (append_assoc)

pub two_parts : HasTwoParts
two_parts Text place names call outcome = refl
two_parts Json place names call outcome =
    let more = more_members place.time call.serial (connection_members (codes "sender") (sender_of call) (codes "sender_name") names.sender)
    (connection_members (codes "destination") (destination_of call) (codes "destination_name") names.destination)
    (member_if (codes "path") (text_at field.PATH call)) (member_if (codes "interface") (text_at field.INTERFACE call)) (member_if (codes "member") (text_at field.MEMBER call)) in
    let first = member (codes "number") (decimal place.number) in
    joined (codes "{") first (behind_commas more) (behind_commas (outcome_members place.time outcome)) (codes "}") (codes "\n")
    ∙ ap (λ t. (codes "{" ++ ((first ++ t) ++ codes "}")) ++ codes "\n") (sym (flat_map-append (λ m. codes "," ++ m) more (outcome_members place.time outcome)))
