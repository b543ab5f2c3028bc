-- The loop over a header's fields, each of which sees those before it.
use Rattle.std.proofs.Common.{◌≡◌, ℕ, suc, ◌+◌, ◌-◌, ◌<◌, ◌≤◌, List, [], ◌∷◌, ◌++◌, length, map, take, drop, get_or, reverse, false, true, ◌&&◌, Bool, refl, sym, ap, ◌∙◌, arith, append-nil, zero, eqb, None}
use Rattle.std.proofs.lemmas.Bool.{lt-ltb, ne_eqb}
use Rattle.std.proofs.lemmas.List.{length-append}
use Rattle.dbus_value_model.specs.Bounds.{bounds_of}
use Rattle.dbus_value_model.specs.Spelling.{spelling, spellings}
use Rattle.dbus_value_laws.proofs.Agreement.{read_passes}
use Rattle.dbus_value_laws.proofs.ReadSteps.{bytes_at, number_done, number_overrun, one_byte}
use Rattle.dbus_header.specs.MessageItems.{field, code_row}
use Rattle.dbus_header.proofs.Fields.{Agrees-field, with_front, goes_on, is_done, starts}
use Rattle.dbus_value_model.specs.declared.limits.Limits.{Limits}
use Rattle.dbus_value_model.specs.declared.order.Order.{Order}
use Rattle.dbus_value_model.specs.Values.{ValueTree, ValueTrees, value_trees}
use Rattle.dbus_value_model.specs.Reading.{Done, up_to, padding, number}
use Rattle.dbus_message_model.specs.Messages.{FieldTree, field_struct, want, is_known, has_code}
use Rattle.dbus_message_model.proofs.FieldLists.{has_reversed}
use Rattle.dbus_header.specs.HeaderReading.{field_read, fields_read, wanted_value, opening}
use Rattle.dbus_value_validator.specs.Endings.{IsNotRead}
use Rattle.dbus_value_validator.proofs.ReadParts.{not_partial, not_same, not_first, not_faulty, not_then, number_read, row_against}
use Rattle.dbus_value_model.specs.declared.fault.Reason.TheVariants as reasons
use Rattle.dbus_value_model.specs.Bytes.{gap_to}
use Rattle.dbus_value_model.specs.Items.{fault, no_row}
use Rattle.dbus_validate.specs.declared.field_values.Held.{Held}
use Rattle.dbus_validate.specs.declared.seen.FieldPlaces.{FieldPlaces}
use Rattle.dbus_validate.specs.Seen.{IsNoted, IsHeldField, AreNoted, ArePlaced, field_start, known_start, text_start, IsHeld}

-- ---- where the fields begin

abbrev structs : List FieldTree → ValueTrees
structs fs = value_trees (map field_struct fs)

longer : (order : Order) (o : ℕ) (fs : List FieldTree) (f : FieldTree) → length (spellings order o (structs (fs ++ f ∷ []))) ≡ length (spellings order o (structs fs)) + length (spelling order (o + length (spellings order o (structs fs))) (field_struct f))
unfolding spelling
longer order o [] f =
    let own = spelling order o (field_struct f) in
    let here : length own ≡ length (spelling order (o + 0) (field_struct f)) = let e : o ≡ o + 0 = omega arith in ap (λ (k : ℕ). length (spelling order k (field_struct f))) e in
    omega (arith, ap length (append-nil own), here)
longer order o (g ∷ fs) f =
    let one = spelling order o (field_struct g) in
    let after = o + length one in
    let rest = spellings order after (structs fs) in
    let more = length-append one rest in
    let place : after + length rest ≡ o + length (one ++ rest) = omega (arith, more) in
    let moved = ap (λ (k : ℕ). length (spelling order k (field_struct f))) place in
    omega (arith, longer order after fs f, more, moved, length-append one (spellings order after (structs (fs ++ f ∷ []))))

-- the next field begins where this one ends
next_start : (order : Order) (fs : List FieldTree) (f : FieldTree) (place after : ℕ) → place ≡ field_start order fs → after ≡ place + length (spelling order place (field_struct f)) → after ≡ field_start order (fs ++ f ∷ [])
next_start order fs f place after here ends = ends ∙ ap (λ (k : ℕ). k + length (spelling order k (field_struct f))) here ∙ (let whole = longer order 16 fs f in omega (arith, whole))

module _ (limits : Limits) (order : Order) (bytes : List ℕ) (at n : ℕ) where
  -- these fields were read up to a place and noted, and what is read from there on, in so many
  -- turns, comes after them
  pub record Left (turns place : ℕ) (seen : FieldPlaces) : Type 0 where
    pub front : List FieldTree
    pub noted : AreNoted front (take (at + n) bytes) seen
    pub placed : ArePlaced order front seen
    pub here : place ≡ field_start order front
    pub leads : fields_read limits order n at (drop at bytes) ≡ with_front front (up_to turns (at + n) (field_read limits order (at + n)) (reverse front) place (drop place bytes))

  pub none_left : (seen : FieldPlaces) → at ≡ 16 → AreNoted [] (take (at + n) bytes) seen → Left (n - 0) at seen
  unfolding fields_read spelling
  none_left seen begins noted = record { front = []; noted = noted; placed = λ c v p known is slot. absurd cc; here = begins; leads = sym (starts (field_read limits order) n at (drop at bytes)) }

  pub same_before : (code : ℕ) (fs : List FieldTree) → is_known code && has_code code (reverse fs) ≡ (is_known code && has_code code fs)
  same_before code fs = ap (λ (b : Bool). is_known code && b) (has_reversed code fs)

  -- a field that is read ends where its spelling does
  field_ends : (before : List FieldTree) (place : ℕ) (f : FieldTree) (q : ℕ) (r : List ℕ) → 3 ≤ limits.depth → ((i : ℕ) → get_or bytes i 0 < 256) → field_read limits order (at + n) before place (drop place bytes) ≡ Done f q r
      → q ≡ place + length (spelling order place (field_struct f))
  field_ends before place f q r deep are read =
      let inner = limits.depth - 1 in
      let opened : limits.depth ≡ suc inner = omega arith in
      (read_passes (field (bounds_of limits) order inner (at + n) before) (field_read limits order (at + n) before) (Agrees-field limits order inner (at + n) opened before) place (drop place bytes) (bytes_at bytes place are) f q r read).0.place

  module _ (deep : 3 ≤ limits.depth) (are : (i : ℕ) → get_or bytes i 0 < 256) where
    pub one_left : (turns rest place code : ℕ) (held : Held) (seen new : FieldPlaces) (left : Left turns place seen) → turns ≡ suc rest → place < at + n → is_known code && has_code code left.front ≡ false
        → ((before : List FieldTree) → is_known code && has_code code before ≡ false → IsHeldField limits order (at + n) before place bytes code held)
        → ((v : ValueTree) → IsNoted (want code) v bytes held → AreNoted (left.front ++ (record { code = code; value = v }) ∷ []) (take (at + n) bytes) new)
        → ((v : ValueTree) → (is_known code ≡ true → held.start ≡ text_start (known_start (field_start order left.front)) v) → ArePlaced order (left.front ++ (record { code = code; value = v }) ∷ []) new)
        → Left rest held.after new
    one_left turns rest place code held seen new left more lt alone field noted placed =
        let one = field (reverse left.front) (same_before code left.front ∙ alone) in
        let f : FieldTree = record { code = code; value = one.0 } in
        record {
          front = left.front ++ f ∷ [];
          noted = noted one.0 one.2;
          placed = placed one.0 (λ known. one.3 known ∙ ap (λ (k : ℕ). text_start (known_start k) one.0) left.here);
          here = next_start order left.front f place held.after left.here (field_ends (reverse left.front) place f held.after (drop held.after bytes) deep are one.1);
          leads = left.leads ∙ goes_on (field_read limits order (at + n)) (at + n) left.front turns rest place (drop place bytes) f held.after (drop held.after bytes) more lt one.1;
        }

  pub left_ends : (turns place : ℕ) (seen : FieldPlaces) → Left turns place seen → place ≡ at + n
      → (fs : List FieldTree) × (fields_read limits order n at (drop at bytes) ≡ Done fs (at + n) (drop (at + n) bytes)) × AreNoted fs (take (at + n) bytes) seen × ArePlaced order fs seen
  left_ends turns place seen left here = (
    left.front,
    left.leads ∙ is_done (field_read limits order (at + n)) (at + n) left.front turns place (drop place bytes) here ∙ ap (λ (q : ℕ). Done left.front q (drop q bytes)) here,
    left.noted,
    left.placed,
  )

  module _ (turns place : ℕ) (seen : FieldPlaces) (left : Left turns place seen) where
    not_left : IsNotRead (up_to turns (at + n) (field_read limits order (at + n)) (reverse left.front) place (drop place bytes)) → IsNotRead (fields_read limits order n at (drop at bytes))
    not_left unread = not_same (fields_read limits order n at (drop at bytes)) _ left.leads (not_first (up_to turns (at + n) (field_read limits order (at + n)) (reverse left.front) place (drop place bytes)) _ unread)

    pub one_unread : (rest : ℕ) → turns ≡ suc rest → place < at + n → IsNotRead (field_read limits order (at + n) (reverse left.front) place (drop place bytes)) → IsNotRead (fields_read limits order n at (drop at bytes))
    one_unread rest more lt unread = not_left (rw (more, lt-ltb place (at + n) lt) (not_first (field_read limits order (at + n) (reverse left.front) place (drop place bytes)) _ unread))

    -- no field is left to be read, and bytes are
    pub none_unread : turns ≡ 0 → (place ≡ at + n → ⊥) → IsNotRead (fields_read limits order n at (drop at bytes))
    none_unread none more = not_left (not_partial _ (rw (none, ne_eqb place (at + n) more) refl))

-- Header fields: what is said of them where their parts are read, or are not.

closed : (depth_left o : ℕ) (s : List ℕ) → depth_left ≡ 0 → IsNotRead (opening depth_left o s)
closed depth_left o s none = rw none (not_faulty _ (fault o reasons.TooDeep) refl)

open_on : (depth_left o : ℕ) (s : List ℕ) → 0 < depth_left → opening depth_left o s ≡ Done (depth_left - 1) o s
open_on zero o s h = absurd (omega arith)
open_on (suc depth_left) o s h = refl

module _ (limits : Limits) (order : Order) (end : ℕ) (before : List FieldTree) (at : ℕ) (bytes : List ℕ) where
  pub field_too_deep : limits.depth < 3 → IsNotRead (field_read limits order end before at (drop at bytes))
  unfolding field_read
  field_too_deep few =
      not_then (padding 8 end at (drop at bytes)) _ (λ x p u e.
      not_then (opening (limits.depth - 1) p u) _ (λ y o s f.
      not_then (number order 1 end (code_row before) o s) _ (λ c q r g. not_first (opening (limits.depth - 2) q r) _ (closed (limits.depth - 2) q r (omega arith)))))

  pub field_unpadded : IsNotRead (padding 8 end at (drop at bytes)) → IsNotRead (field_read limits order end before at (drop at bytes))
  unfolding field_read
  field_unpadded unread = not_first (padding 8 end at (drop at bytes)) _ unread

  module _ (deep : 3 ≤ limits.depth) (start : ℕ) (padded : padding 8 end at (drop at bytes) ≡ Done tt start (drop start bytes)) where
    no_code : IsNotRead (number order 1 end (code_row before) start (drop start bytes)) → IsNotRead (field_read limits order end before at (drop at bytes))
    unfolding field_read
    no_code unread = rw (padded, open_on (limits.depth - 1) start (drop start bytes) (omega arith)) (not_first (number order 1 end (code_row before) start (drop start bytes)) _ unread)

    pub field_ended : start ≡ end → IsNotRead (field_read limits order end before at (drop at bytes))
    field_ended is = no_code (not_faulty _ _ (number_overrun order 1 end (code_row before) start bytes (omega arith)))

    module _ (lt : start < end) (inside : end ≤ length bytes) where
      abbrev code : ℕ
      code = get_or bytes start 0

      -- its row says something against the code
      code_against : (code_row before (start + 1) code ≡ None → ⊥) → IsNotRead (field_read limits order end before at (drop at bytes))
      code_against against =
          let plain = number_done order 1 end no_row start bytes (omega arith) code (omega arith) (one_byte order bytes start (omega arith)) refl in
          no_code (row_against order 1 end (code_row before) start (drop start bytes) code (start + 1) (drop (start + 1) bytes) plain against)

      pub field_zero : code ≡ 0 → IsNotRead (field_read limits order end before at (drop at bytes))
      field_zero is = code_against (rw is (λ e. absurd cc))

      pub field_again : 0 < code → is_known code && has_code code before ≡ true → IsNotRead (field_read limits order end before at (drop at bytes))
      field_again some again = let none : eqb code 0 ≡ false = ne_eqb code 0 (omega arith) in code_against (rw (none, again) (λ e. absurd cc))

      pub field_unheld : IsNotRead (wanted_value limits order end (want code) (start + 1) (drop (start + 1) bytes)) → IsNotRead (field_read limits order end before at (drop at bytes))
      unfolding field_read
      field_unheld unread =
          rw (padded, open_on (limits.depth - 1) start (drop start bytes) (omega arith)) (
          not_then (number order 1 end (code_row before) start (drop start bytes)) _ (λ c p u e.
          let r = number_read order 1 end (code_row before) start bytes c p u e in
          let is : c ≡ code = r.is ∙ sym (one_byte order bytes start (omega arith)) in
          rw (r.ends, r.left, is, open_on (limits.depth - 2) (start + 1) (drop (start + 1) bytes) (omega arith)) (not_first (wanted_value limits order end (want code) (start + 1) (drop (start + 1) bytes)) _ unread)))

      pub field_held : (h : Held) → start ≡ at + gap_to 8 at → 0 < code → is_known code && has_code code before ≡ false → IsHeld limits order end (want code) (start + 1) bytes h → IsHeldField limits order end before at bytes code h
      unfolding field_read
      field_held h begins some alone held =
          let after : start + 1 + 3 ≡ known_start at = omega (arith, begins) in
          let none : eqb code 0 ≡ false = ne_eqb code 0 (omega arith) in
          let read = number_done order 1 end (code_row before) start bytes (omega arith) code (omega arith) (one_byte order bytes start (omega arith)) (rw (none, alone) refl) in
          (held.0, rw (padded, open_on (limits.depth - 1) start (drop start bytes) (omega arith), read, open_on (limits.depth - 2) (start + 1) (drop (start + 1) bytes) (omega arith), held.1) refl, held.2, λ known. held.3 known ∙ ap (λ (k : ℕ). text_start k held.0) after)
