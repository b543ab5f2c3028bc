-- A message is counted under its names, one after the other.
use Rattle.std.proofs.Common.{◌≡◌, ℕ, List, [], ◌∷◌, ◌++◌, Option, None, Some, MatchOption, codes, option_map, refl, sym, ap, ◌∙◌, subst, append_assoc, Result, Ok, Err, OnOk, OnErr}
use Rattle.std.specs.Borrow.{Bor}
use Rattle.dbus_texts.specs.Types.{TextCode}
use Rattle.dbus_value_model.specs.Values.{ValueTree, TextValue}
use Rattle.dbus_message_model.specs.Messages.{MessageTree}
use Rattle.dbus_message_model.specs.declared.field_code.TheConstants as field
use Rattle.dbus_count.specs.Counting.{Counting, CountsFirst, with_name, with_names, member_of, named, names_of, text_at, text_of}
use Rattle.dbus_show.specs.ShownMessages.{kind_text}
use Rattle.dbus_count.specs.declared.count.Count.{Count}

pub on_ok : {A E P Q : Type 0} (result : Result A E) → (P → Q) → OnOk result P → OnOk result Q
on_ok (Ok x) f p = f p
on_ok (Err e) f p = tt

pub on_err : {A E P Q : Type 0} (result : Result A E) → (P → Q) → OnErr result P → OnErr result Q
on_err (Ok x) f p = tt
on_err (Err e) f p = f p

pub on_any : {A E P : Type 0} (result : Result A E) → P → OnErr result P
on_any (Ok x) p = tt
on_any (Err e) p = p

-- the text that a view gives of a field
pub text_seen : (seen : Option (Bor (List ℕ))) (kind : TextCode) (value : Option ValueTree) → MatchOption seen (value ≡ None) (λ s. value ≡ Some (TextValue kind s.now)) → option_map (λ t. t.now) seen ≡ text_of value
text_seen None kind value is = sym (ap text_of is)
text_seen (Some s) kind value is = sym (ap text_of is)

both : (xs ys : List (List ℕ)) (size : ℕ) (q : List ℕ) (c : Option Count) → with_names (xs ++ ys) size q c ≡ with_names ys size q (with_names xs size q c)
both [] ys size q c = refl
both (x ∷ xs) ys size q c = both xs ys size q (with_name x size q c)

-- it is counted under none
pub none_counted : (next : List ℕ) (size : ℕ) (old new : Counting) → ((name : List ℕ) → new name ≡ old name) → CountsFirst (next ∷ []) size old new
none_counted next size old new same = record { first = []; next = next; others = []; names_are = refl; counted = same }

none_member : (interface : Option (List ℕ)) (member : List ℕ) (size : ℕ) (old new : Counting) → ((name : List ℕ) → new name ≡ old name) → CountsFirst (named (codes "member ") (member_of interface (Some member))) size old new
none_member None member size old new same = none_counted (codes "member " ++ member) size old new same
none_member (Some interface) member size old new same = none_counted (codes "member " ++ (interface ++ (codes "." ++ member))) size old new same

pub none_named : (word : List ℕ) (name : Option (Bor (List ℕ))) (text : Bor (List ℕ)) (size : ℕ) (old new : Counting) → name ≡ Some text → ((q : List ℕ) → new q ≡ old q)
    → CountsFirst (named word (option_map (λ t. t.now) name)) size old new
none_named word name text size old new is same =
    subst (λ (o : Option (Bor (List ℕ))). CountsFirst (named word (option_map (λ t. t.now) o)) size old new) (sym is) (none_counted (word ++ text.now) size old new same)

pub no_member : (interface member : Option (Bor (List ℕ))) (text : Bor (List ℕ)) (size : ℕ) (old new : Counting) → member ≡ Some text → ((q : List ℕ) → new q ≡ old q)
    → CountsFirst (named (codes "member ") (member_of (option_map (λ t. t.now) interface) (option_map (λ t. t.now) member))) size old new
no_member interface member text size old new is same =
    subst (λ (o : Option (Bor (List ℕ))). CountsFirst (named (codes "member ") (member_of (option_map (λ t. t.now) interface) (option_map (λ t. t.now) o))) size old new) (sym is)
    (none_member (option_map (λ t. t.now) interface) text.now size old new same)

-- more names come after those
pub more_names : (front back : List (List ℕ)) (size : ℕ) (old new : Counting) → CountsFirst front size old new → CountsFirst (front ++ back) size old new
more_names front back size old new h = record {
  first = h.first;
  next = h.next;
  others = h.others ++ back;
  names_are = ap (λ names. names ++ back) h.names_are ∙ append_assoc h.first (h.next ∷ h.others) back;
  counted = h.counted;
}

-- it was counted under the names before those
pub names_before : (front back : List (List ℕ)) (size : ℕ) (old mid new : Counting) → ((name : List ℕ) → mid name ≡ with_names front size name (old name))
    → CountsFirst back size mid new → CountsFirst (front ++ back) size old new
names_before front back size old mid new counted h = record {
  first = front ++ h.first;
  next = h.next;
  others = h.others;
  names_are = ap (λ names. front ++ names) h.names_are ∙ sym (append_assoc front h.first (h.next ∷ h.others));
  counted = λ name. h.counted name ∙ (ap (with_names h.first size name) (counted name) ∙ sym (both front h.first size name (old name)));
}

module _ (m : MessageTree) (size : ℕ) (q : List ℕ) where
  abbrev W : List (List ℕ) → Option Count → Option Count
  W names c = with_names names size q c

  pub all_names : (c0 c1 c2 c3 c4 c5 c6 : Option Count)
      → c1 ≡ W (named (codes "type ") (Some (kind_text m.kind))) c0
      → c2 ≡ W (named (codes "sender ") (text_at field.SENDER m)) c1
      → c3 ≡ W (named (codes "destination ") (text_at field.DESTINATION m)) c2
      → c4 ≡ W (named (codes "interface ") (text_at field.INTERFACE m)) c3
      → c5 ≡ W (named (codes "member ") (member_of (text_at field.INTERFACE m) (text_at field.MEMBER m))) c4
      → c6 ≡ W (named (codes "error ") (text_at field.ERROR_NAME m)) c5
      → c6 ≡ W (names_of m) c0
  all_names c0 c1 c2 c3 c4 c5 c6 e1 e2 e3 e4 e5 e6 =
      let sender = named (codes "sender ") (text_at field.SENDER m) in
      let destination = named (codes "destination ") (text_at field.DESTINATION m) in
      let interface = named (codes "interface ") (text_at field.INTERFACE m) in
      let member = named (codes "member ") (member_of (text_at field.INTERFACE m) (text_at field.MEMBER m)) in
      let error = named (codes "error ") (text_at field.ERROR_NAME m) in
      e6 ∙ (ap (W error) e5 ∙ (sym (both member error size q c4)
      ∙ (ap (W (member ++ error)) e4 ∙ (sym (both interface (member ++ error) size q c3)
      ∙ (ap (W (interface ++ (member ++ error))) e3 ∙ (sym (both destination (interface ++ (member ++ error)) size q c2)
      ∙ (ap (W (destination ++ (interface ++ (member ++ error)))) e2 ∙ (sym (both sender (destination ++ (interface ++ (member ++ error))) size q c1)
      ∙ ap (W (sender ++ (destination ++ (interface ++ (member ++ error))))) e1))))))))

-- it is counted up to a name of each kind
module _ (m : MessageTree) (size : ℕ) where
  abbrev Kind : List (List ℕ)
  Kind = named (codes "type ") (Some (kind_text m.kind))

  abbrev Sender : List (List ℕ)
  Sender = named (codes "sender ") (text_at field.SENDER m)

  abbrev Destination : List (List ℕ)
  Destination = named (codes "destination ") (text_at field.DESTINATION m)

  abbrev Interface : List (List ℕ)
  Interface = named (codes "interface ") (text_at field.INTERFACE m)

  abbrev Member : List (List ℕ)
  Member = named (codes "member ") (member_of (text_at field.INTERFACE m) (text_at field.MEMBER m))

  abbrev Error : List (List ℕ)
  Error = named (codes "error ") (text_at field.ERROR_NAME m)

  abbrev pub Counted : List (List ℕ) → Counting → Counting → Type 0
  Counted names old new = (q : List ℕ) → new q ≡ with_names names size q (old q)

  abbrev Fails : Counting → Counting → Type 0
  Fails old new = CountsFirst (names_of m) size old new

  pub kind_fails : (c0 c1 : Counting) → CountsFirst Kind size c0 c1 → Fails c0 c1
  kind_fails c0 c1 h = more_names Kind (Sender ++ (Destination ++ (Interface ++ (Member ++ Error)))) size c0 c1 h

  pub sender_fails : (c0 c1 c2 : Counting) → Counted Kind c0 c1 → CountsFirst Sender size c1 c2 → Fails c0 c2
  sender_fails c0 c1 c2 k h =
      let others = Destination ++ (Interface ++ (Member ++ Error)) in
      names_before Kind (Sender ++ others) size c0 c1 c2 k (more_names Sender others size c1 c2 h)

  pub destination_fails : (c0 c1 c2 c3 : Counting) → Counted Kind c0 c1 → Counted Sender c1 c2 → CountsFirst Destination size c2 c3 → Fails c0 c3
  destination_fails c0 c1 c2 c3 k s h =
      let others = Interface ++ (Member ++ Error) in
      names_before Kind (Sender ++ (Destination ++ others)) size c0 c1 c3 k (names_before Sender (Destination ++ others) size c1 c2 c3 s (more_names Destination others size c2 c3 h))

  pub interface_fails : (c0 c1 c2 c3 c4 : Counting) → Counted Kind c0 c1 → Counted Sender c1 c2 → Counted Destination c2 c3 → CountsFirst Interface size c3 c4 → Fails c0 c4
  interface_fails c0 c1 c2 c3 c4 k s d h =
      let others = Member ++ Error in
      names_before Kind (Sender ++ (Destination ++ (Interface ++ others))) size c0 c1 c4 k (names_before Sender (Destination ++ (Interface ++ others)) size c1 c2 c4 s
      (names_before Destination (Interface ++ others) size c2 c3 c4 d (more_names Interface others size c3 c4 h)))

  pub member_fails : (c0 c1 c2 c3 c4 c5 : Counting) → Counted Kind c0 c1 → Counted Sender c1 c2 → Counted Destination c2 c3 → Counted Interface c3 c4 → CountsFirst Member size c4 c5 → Fails c0 c5
  member_fails c0 c1 c2 c3 c4 c5 k s d i h =
      names_before Kind (Sender ++ (Destination ++ (Interface ++ (Member ++ Error)))) size c0 c1 c5 k (names_before Sender (Destination ++ (Interface ++ (Member ++ Error))) size c1 c2 c5 s
      (names_before Destination (Interface ++ (Member ++ Error)) size c2 c3 c5 d (names_before Interface (Member ++ Error) size c3 c4 c5 i (more_names Member Error size c4 c5 h))))

  pub error_fails : (c0 c1 c2 c3 c4 c5 c6 : Counting) → Counted Kind c0 c1 → Counted Sender c1 c2 → Counted Destination c2 c3 → Counted Interface c3 c4 → Counted Member c4 c5 → CountsFirst Error size c5 c6 → Fails c0 c6
  error_fails c0 c1 c2 c3 c4 c5 c6 k s d i n h =
      names_before Kind (Sender ++ (Destination ++ (Interface ++ (Member ++ Error)))) size c0 c1 c6 k (names_before Sender (Destination ++ (Interface ++ (Member ++ Error))) size c1 c2 c6 s
      (names_before Destination (Interface ++ (Member ++ Error)) size c2 c3 c6 d (names_before Interface (Member ++ Error) size c3 c4 c6 i (names_before Member Error size c4 c5 c6 n h))))
