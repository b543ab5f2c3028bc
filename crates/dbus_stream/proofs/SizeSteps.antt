-- The size that the first sixteen bytes of a message state, and what was dropped of it.
use Rattle.std.proofs.Common.{◌≡◌, ℕ, ◌+◌, ◌-◌, ◌^◌, ◌<◌, ◌≤◌, List, [], ◌∷◌, ◌++◌, length, take, drop, replicate, get_or, refl, sym, ap, ◌∙◌, subst, arith, inl, inr, append-nil, append_assoc, length-append, take-append-drop}
use Rattle.std.proofs.Math.Seq.{take-append-add}
use Rattle.std.proofs.lemmas.Bool.{cases_lt}
use Rattle.std.proofs.lemmas.List.{drop_at, drop-append-le, length-drop, length-take-le, length-replicate, take_all, take_at, take-append-le, take-take}
use Rattle.dbus_value_model.proofs.Numbers.{length-num, number_of-num}
use Rattle.dbus_value_model.specs.Bytes.{num, gap_to}
use Rattle.dbus_value_model.specs.ByteNumbers.{IsBytes}
use Rattle.dbus_value_model.specs.Reading.{number_of}
use Rattle.dbus_value_model.specs.declared.limits.Limits.{Limits}
use Rattle.dbus_value_model.specs.declared.order.Order.{Order}
use Rattle.dbus_value_model.specs.declared.order.Order.TheVariants.{Little, Big}
use Rattle.dbus_message_model.specs.Messages.{order_byte}
use Rattle.dbus_header.specs.MessageOutcomes.{IsPartial}
use Rattle.dbus_header.specs.StatedLengths.{StatesLength}
use Rattle.dbus_header.specs.declared.fixed_header.FixedHeader.{FixedHeader}
use Rattle.dbus_header.proofs.OutcomeLaws.{one_outcome}
use Rattle.dbus_header.proofs.StatedLengths.{some_stated}
use Rattle.dbus_header.proofs.Whole.{fixed_bytes, fixed_to}
use Rattle.dbus_stream.specs.Dropping.{AreInside, HasDropped}
use Rattle.dbus_stream.specs.StatedSizes.{HasOrder, LengthsAreSizes, OneSize, SizesTell, StatesNone, StatesSize, WantsMore, four_at}
use Rattle.dbus_stream.specs.declared.refused.Refused.{Refused}
use Rattle.dbus_stream.proofs.MessageEnds.{partial_short}

-- ---- what follows sixteen bytes changes nothing

four_front : (order : Order) (at : ℕ) (b c : List ℕ) → at + 4 ≤ length b → four_at order at (b ++ c) ≡ four_at order at b
four_front order at b c fits =
    let size = length-drop at b in
    ap (number_of order) (ap (take 4) (drop-append-le at b c (omega (arith, fits))) ∙ take-append-le 4 (drop at b) c (omega (arith, fits, size)))

one_order : (o p : Order) (b : List ℕ) → HasOrder o b → HasOrder p b → p ≡ o
one_order Little Little b x y = refl
one_order Big Big b x y = refl
one_order Little Big b x y = absurd (let same = ap (λ (l : List ℕ). get_or l 0 0) (sym x ∙ y) in omega (arith, same))
one_order Big Little b x y = absurd (let same = ap (λ (l : List ℕ). get_or l 0 0) (sym x ∙ y) in omega (arith, same))

order_front : (order : Order) (b c : List ℕ) → 1 ≤ length b → HasOrder order (b ++ c) → HasOrder order b
order_front order b c some has = sym (take-append-le 1 b c some) ∙ has

order_more : (order : Order) (b c : List ℕ) → 1 ≤ length b → HasOrder order b → HasOrder order (b ++ c)
order_more order b c some has = take-append-le 1 b c some ∙ has

order_some : (order : Order) (b : List ℕ) → HasOrder order b → 1 ≤ length b
order_some order [] has = absurd (let same = ap length has in omega (arith, same))
order_some order (x ∷ b) has = omega arith

size_of : Order → List ℕ → ℕ
size_of order b = 16 + four_at order 12 b + gap_to 8 (16 + four_at order 12 b) + four_at order 4 b

-- bytes after sixteen change no size
module _ (limits : Limits) (b c : List ℕ) (n : ℕ) (there : 16 ≤ length b) where
  pub size_more : StatesSize limits b n → StatesSize limits (b ++ c) n
  size_more s =
      let fields = four_front s.order 12 b c (omega (arith, there)) in
      let body = four_front s.order 4 b c (omega (arith, there)) in
      let both = length-append b c in
      record {
        order = s.order;
        starts = order_more s.order b c (omega (arith, there)) s.starts;
        there = omega (arith, there, both);
        fields = subst (λ (k : ℕ). k ≤ limits.array) (sym fields) s.fields;
        size = s.size ∙ (λ i. 16 + sym fields i + gap_to 8 (16 + sym fields i) + sym body i);
        within = s.within;
      }

  pub size_front : StatesSize limits (b ++ c) n → StatesSize limits b n
  size_front s =
      let fields = four_front s.order 12 b c (omega (arith, there)) in
      let body = four_front s.order 4 b c (omega (arith, there)) in
      record {
        order = s.order;
        starts = order_front s.order b c (omega (arith, there)) s.starts;
        there = there;
        fields = subst (λ (k : ℕ). k ≤ limits.array) fields s.fields;
        size = s.size ∙ (λ i. 16 + fields i + gap_to 8 (16 + fields i) + body i);
        within = s.within;
      }

pub size_once : (limits : Limits) (b : List ℕ) (n k : ℕ) → StatesSize limits b n → StatesSize limits b k → k ≡ n
size_once limits b n k s t =
    let same = one_order s.order t.order b s.starts t.starts in
    t.size ∙ (ap (λ (o : Order). 16 + four_at o 12 b + gap_to 8 (16 + four_at o 12 b) + four_at o 4 b) same ∙ sym s.size)

pub one_size : OneSize
one_size limits b c n k s = let more = size_more limits b c n s.there s in (more, size_once limits (b ++ c) n k more)

pub size_some : (limits : Limits) (b : List ℕ) (n : ℕ) → StatesSize limits b n → 16 ≤ n
size_some limits b n s = let size = s.size in omega (arith, size)

pub sizes_tell : SizesTell
sizes_tell limits b = (
  none_wants,
  λ n s. (none_states n s, λ there wants. elim wants [ inl few ↦ (let long = s.there in let short = few.2 in omega (arith, long, short)) | inr more ↦ (let same = size_once limits b n more.0 s more.1 in let short = more.2 in omega (arith, same, short, there)) ]),
)
  where
    none_states : (n : ℕ) → StatesSize limits b n → StatesNone limits b → ⊥
    none_states n s (inl none) = none s.order s.starts
    none_states n s (inr none) = none.1 n s

    none_wants : StatesNone limits b → WantsMore limits b → ⊥
    none_wants (inl none) (inl few) = none few.0 few.1
    none_wants (inl none) (inr more) = none more.1.order more.1.starts
    none_wants (inr none) (inl few) = let long = none.0 in let short = few.2 in omega (arith, long, short)
    none_wants (inr none) (inr more) = none.1 more.0 more.1

-- it is so whatever follows
pub none_more : (limits : Limits) (b c : List ℕ) → 1 ≤ length b → StatesNone limits b → StatesNone limits (b ++ c)
none_more limits b c some (inl none) = inl (λ order has. none order (order_front order b c some has))
none_more limits b c some (inr none) = inr (let both = length-append b c in let long = none.0 in omega (arith, both, long), λ n s. none.1 n (size_front limits b c n none.0 s))

-- ---- the length that bytes without a fault state

module _ (h : FixedHeader) (rest : List ℕ) where
  abbrev lead : List ℕ
  lead = order_byte h.order ∷ (num h.order 1 h.kind ++ (num h.order 1 h.flags ++ num h.order 1 1))

  long_lead : length lead ≡ 4
  long_lead = omega (arith, length-append (num h.order 1 h.kind) (num h.order 1 h.flags ++ num h.order 1 1), length-append (num h.order 1 h.flags) (num h.order 1 1), length-num h.order 1 h.kind, length-num h.order 1 h.flags, length-num h.order 1 1)

  abbrev middle : List ℕ
  middle = num h.order 4 h.body ++ num h.order 4 h.serial

  long_middle : length (lead ++ middle) ≡ 12
  long_middle = omega (arith, long_lead, length-append lead middle, length-append (num h.order 4 h.body) (num h.order 4 h.serial), length-num h.order 4 h.body, length-num h.order 4 h.serial)

  after_lead : fixed_bytes h rest ≡ lead ++ (num h.order 4 h.body ++ (num h.order 4 h.serial ++ (num h.order 4 h.fields ++ rest)))
  after_lead =
      ap (λ (l : List ℕ). order_byte h.order ∷ l)
      (sym (append_assoc (num h.order 1 h.kind) (num h.order 1 h.flags ++ num h.order 1 1) (num h.order 4 h.body ++ (num h.order 4 h.serial ++ (num h.order 4 h.fields ++ rest)))
      ∙ ap (λ (l : List ℕ). num h.order 1 h.kind ++ l) (append_assoc (num h.order 1 h.flags) (num h.order 1 1) (num h.order 4 h.body ++ (num h.order 4 h.serial ++ (num h.order 4 h.fields ++ rest))))))

  after_middle : fixed_bytes h rest ≡ (lead ++ middle) ++ (num h.order 4 h.fields ++ rest)
  after_middle =
      after_lead
      ∙ (ap (λ (l : List ℕ). lead ++ l) (sym (append_assoc (num h.order 4 h.body) (num h.order 4 h.serial) (num h.order 4 h.fields ++ rest)))
      ∙ sym (append_assoc lead middle (num h.order 4 h.fields ++ rest)))

  number_there : (n at : ℕ) (before after : List ℕ) → length before ≡ at → n < 256 ^ 4 → fixed_bytes h rest ≡ before ++ (num h.order 4 n ++ after) → four_at h.order at (fixed_bytes h rest) ≡ n
  number_there n at before after long fits is =
      ap (four_at h.order at) is
      ∙ (ap (λ (l : List ℕ). number_of h.order (take 4 l)) (drop_at before (num h.order 4 n ++ after) at long)
      ∙ (ap (number_of h.order) (take_at (num h.order 4 n) after 4 (length-num h.order 4 n)) ∙ number_of-num h.order 4 n fits))

  long_header : 16 ≤ length (fixed_bytes h rest)
  long_header = omega (arith, ap length after_middle, length-append (lead ++ middle) (num h.order 4 h.fields ++ rest), long_middle, length-append (num h.order 4 h.fields) rest, length-num h.order 4 h.fields)

pub lengths_are_sizes : LengthsAreSizes
unfolding StatesLength
lengths_are_sizes limits b n s =
    let h = s.0 in
    let rest = s.1 in
    let to = fixed_to limits b h 16 rest s.2 in
    let is = to.0 in
    let fits : h.fields < 256 ^ 4 = omega (arith, is.fields, limits.array_in) in
    let fields = number_there h rest h.fields 12 (lead h rest ++ middle h rest) rest (long_middle h rest) fits (after_middle h rest) in
    let body = number_there h rest h.body 4 (lead h rest) (num h.order 4 h.serial ++ (num h.order 4 h.fields ++ rest)) (long_lead h rest) is.body (after_lead h rest) in
    subst (λ (l : List ℕ). StatesSize limits l n) (sym to.1) (record {
      order = h.order;
      starts = refl;
      there = long_header h rest;
      fields = subst (λ (k : ℕ). k ≤ limits.array) (sym fields) is.fields;
      size = s.3 ∙ (λ i. 16 + sym fields i + gap_to 8 (16 + sym fields i) + sym body i);
      within = subst (λ (k : ℕ). k ≤ limits.message) (sym s.3) is.limit;
    })

-- bytes that show no fault, and are no message, are fewer than they state
pub partial_inside : (limits : Limits) (b : List ℕ) → IsBytes b → IsPartial limits b → AreInside limits b
partial_inside limits b bytes partial n s = elim (some_stated limits b bytes s.there) [
  | inl stated ↦ (
      let same = size_once limits b n stated.0 s (lengths_are_sizes limits b stated.0 stated.1) in
      let short = partial_short limits b stated.0 bytes stated.1 partial in
      omega (arith, same, short)
      )
  | inr refused ↦ absurd ((one_outcome limits b).2 refused.0 refused.1 partial)
]

-- ---- the first sixteen bytes of two lists

module _ (first second : List ℕ) (h m : ℕ) (h_there : h ≤ length first) (m_there : m ≤ length second) (h_all : h < 16 → h ≡ length first) (m_all : h + m < 16 → m ≡ length second) (few : h + m ≤ 16) where
  both_front : take h first ++ take m second ≡ take 16 (first ++ second)
  both_front = elim (cases_lt h 16) [
    | inl short ↦ (
        let all = h_all short in
        let left : length first + (16 - h) ≡ 16 = omega (arith, all, short) in
        let tail : take m second ≡ take (16 - h) second = elim (cases_lt (h + m) 16) [
          | inl less ↦ (let size = m_all less in take_all m second (omega (arith, size)) ∙ sym (take_all (16 - h) second (omega (arith, size, less))))
          | inr full ↦ ap (λ k. take k second) (omega (arith, full, few))
        ] in
        ap (λ l. l ++ take m second) (take_all h first (omega (arith, all))) ∙ (ap (λ l. first ++ l) tail ∙ (sym (take-append-add first second (16 - h)) ∙ ap (λ k. take k (first ++ second)) left))
        )
    | inr long ↦ (
        let full : h ≡ 16 = omega (arith, long, few) in
        let none : m ≡ 0 = omega (arith, full, few) in
        ap (λ k. take h first ++ take k second) none ∙ (append-nil (take h first) ∙ (ap (λ k. take k first) full ∙ sym (take-append-le 16 first second (omega (arith, full, h_there)))))
        )
  ]

-- ---- what was dropped

pub none_dropped : (r : Refused) → r.dropped ≡ 0 → HasDropped r []
none_dropped r zero = record { count = zero; front = sym (ap (λ (n : ℕ). take n r.front) zero) }

-- no more were dropped than it has, whatever follows
pub inside_more : (limits : Limits) (gone more : List ℕ) (n : ℕ) → AreInside limits gone → StatesSize limits (gone ++ more) n → length gone ≤ n
inside_more limits gone more n inside s = elim (cases_lt (length gone) 16) [
  | inl few ↦ (let long = size_some limits (gone ++ more) n s in omega (arith, few, long))
  | inr there ↦ inside n (size_front limits gone more n there s)
]

pub inside_wanting : (limits : Limits) (w : List ℕ) → WantsMore limits w → AreInside limits w
inside_wanting limits w (inl few) n s = (let long = s.there in let short = few.2 in omega (arith, long, short))
inside_wanting limits w (inr more) n s = (let same = size_once limits w n more.0 s more.1 in let short = more.2 in omega (arith, same, short))

pub inside_none : (limits : Limits) (w : List ℕ) → StatesNone limits w → AreInside limits w
inside_none limits w none n s = absurd (((sizes_tell limits w).1 n s).0 none)

module _ (r : Refused) (all : length r.front ≡ 16) where
  -- some bytes were dropped
  pub witness : (gone : List ℕ) × HasDropped r gone
  witness = elim (cases_lt r.dropped 16) [
    | inl few ↦ (
        let size = length-take-le r.dropped r.front (omega (arith, few, all)) in
        (take r.dropped r.front, record { count = sym size; front = take_all 16 (take r.dropped r.front) (omega (arith, size, few)) })
        )
    | inr many ↦ (
        let whole : take r.dropped r.front ≡ r.front = take_all r.dropped r.front (omega (arith, all, many)) in
        let zeros = replicate (r.dropped - 16) 0 in
        let size = length-append r.front zeros in
        let rest = length-replicate {A = ℕ} (r.dropped - 16) 0 in
        (r.front ++ zeros, record { count = omega (arith, size, rest, all, many); front = take_at r.front zeros 16 all ∙ sym whole })
        )
  ]

  module _ (gone : List ℕ) (h : HasDropped r gone) where
    -- its first byte
    pub first_byte : 0 < r.dropped → take 1 gone ≡ take 1 r.front
    first_byte some =
        sym (take-take 1 16 gone (omega arith)) ∙ (ap (take 1) h.front ∙ take-take 1 r.dropped r.front (omega (arith, some)))

    -- and its first sixteen
    pub first_sixteen : 16 ≤ r.dropped → gone ≡ r.front ++ drop 16 gone
    first_sixteen many = sym (take-append-drop 16 gone) ∙ ap (λ (l : List ℕ). l ++ drop 16 gone) (h.front ∙ take_all r.dropped r.front (omega (arith, all, many)))

-- whichever bytes they were
pub inside_same : (r : Refused) (limits : Limits) (gone also : List ℕ) → HasDropped r gone → HasDropped r also → AreInside limits gone → AreInside limits also
inside_same r limits gone also h k inside n s =
    let first = h.count in
    let second = k.count in
    let long = s.there in
    let size = length-take-le 16 also long in
    let front : StatesSize limits (take 16 also) n = size_front limits (take 16 also) (drop 16 also) n (omega (arith, size)) (subst (λ (l : List ℕ). StatesSize limits l n) (sym (take-append-drop 16 also)) s) in
    let same : take 16 also ≡ take 16 gone = k.front ∙ sym h.front in
    let there = ap length same in
    let all = size_more limits (take 16 gone) (drop 16 gone) n (omega (arith, size, there)) (subst (λ (l : List ℕ). StatesSize limits l n) same front) in
    let le = inside n (subst (λ (l : List ℕ). StatesSize limits l n) (take-append-drop 16 gone) all) in
    omega (arith, le, first, second)

pub first_one : (front : List ℕ) (x : ℕ) → 0 < length front → get_or front 0 0 ≡ x → take 1 front ≡ x ∷ []
first_one [] x some is = absurd (omega (arith, some))
first_one (y ∷ front) x some is = ap (λ (z : ℕ). z ∷ []) is

module _ (r : Refused) (all : length r.front ≡ 16) (gone : List ℕ) (h : HasDropped r gone) where
  -- more bytes are dropped, of which the first are noted
  module _ (bytes rest : List ℕ) (a m : ℕ) (a_low : a ≤ 16) (a_there : a ≤ r.dropped) (a_all : a < 16 → a ≡ r.dropped) (m_there : m ≤ length bytes) (m_all : a + m < 16 → m ≡ length bytes) (few : a + m ≤ 16)
      (long : length (take a r.front ++ (take m bytes ++ rest)) ≡ 16) where
    abbrev noted : List ℕ
    noted = take a r.front ++ (take m bytes ++ rest)

    front_noted : take (a + m) noted ≡ take a r.front ++ take m bytes
    front_noted =
        let size = length-take-le a r.front (omega (arith, a_low, all)) in
        let more = length-take-le m bytes m_there in
        ap (λ (k : ℕ). take (k + m) noted) (sym size)
        ∙ (take-append-add (take a r.front) (take m bytes ++ rest) m ∙ ap (λ (l : List ℕ). take a r.front ++ l) (take_at (take m bytes) rest m more))

    all_noted : take (a + m) noted ≡ take (r.dropped + length bytes) noted
    all_noted = elim (cases_lt (a + m) 16) [
      | inl less ↦ ap (λ (k : ℕ). take k noted) (let one = a_all (omega (arith, less)) in let two = m_all less in omega (arith, one, two))
      | inr full ↦ (
          let count = h.count in
          take_all (a + m) noted (omega (arith, long, full)) ∙ sym (take_all (r.dropped + length bytes) noted (omega (arith, long, full, a_there, m_there)))
          )
    ]

    pub dropped_more : HasDropped (record r { dropped = r.dropped + length bytes; front = noted }) (gone ++ bytes)
    dropped_more =
        let count = h.count in
        let both = length-append gone bytes in
        let same : take a r.front ≡ take a gone = sym (take-take a r.dropped r.front a_there) ∙ (ap (take a) (sym h.front) ∙ take-take a 16 gone a_low) in
        record {
          count = omega (arith, count, both);
          front = sym (both_front gone bytes a m (omega (arith, count, a_there)) m_there (λ less. let one = a_all less in omega (arith, one, count)) m_all few)
              ∙ (ap (λ (l : List ℕ). l ++ take m bytes) (sym same) ∙ (sym front_noted ∙ all_noted));
        }

  -- sixteen and more were dropped, which begin with an order
  module _ (limits : Limits) (many : 16 ≤ r.dropped) (order : Order) (is : take 1 r.front ≡ order_byte order ∷ []) where
    there : 16 ≤ length gone
    there = let count = h.count in omega (arith, count, many)

    starts : HasOrder order gone
    starts = first_byte r all gone h (omega (arith, many)) ∙ is

    same_at : (at : ℕ) → at ≤ 12 → four_at order at gone ≡ four_at order at r.front
    same_at at low = ap (four_at order at) (first_sixteen r all gone h many) ∙ four_front order at r.front (drop 16 gone) (omega (arith, low, all))

    pub states : (n : ℕ) → four_at order 12 r.front ≤ limits.array → n ≡ 16 + four_at order 12 r.front + gap_to 8 (16 + four_at order 12 r.front) + four_at order 4 r.front → n ≤ limits.message → StatesSize limits gone n
    states n fits size within =
        let fields = sym (same_at 12 (omega arith)) in
        let body = sym (same_at 4 (omega arith)) in
        record {
          order = order;
          starts = starts;
          there = there;
          fields = subst (λ (k : ℕ). k ≤ limits.array) fields fits;
          size = size ∙ (λ i. 16 + fields i + gap_to 8 (16 + fields i) + body i);
          within = within;
        }

    same_order : (n : ℕ) (s : StatesSize limits gone n) → s.order ≡ order
    same_order n s = one_order order s.order gone starts s.starts

    pub fields_over : limits.array < four_at order 12 r.front → StatesNone limits gone
    fields_over over = inr (
      there,
      λ n s.
          let fields = s.fields in
          let same = ap (λ (o : Order). four_at o 12 gone) (same_order n s) ∙ same_at 12 (omega arith) in
          omega (arith, over, fields, same),
    )

    pub size_over : limits.message < 16 + four_at order 12 r.front + gap_to 8 (16 + four_at order 12 r.front) + four_at order 4 r.front → StatesNone limits gone
    size_over over = inr (
      there,
      λ n s.
          let within = s.within in
          let fields = ap (λ (o : Order). four_at o 12 gone) (same_order n s) ∙ same_at 12 (omega arith) in
          let body = ap (λ (o : Order). four_at o 4 gone) (same_order n s) ∙ same_at 4 (omega arith) in
          let size : n ≡ 16 + four_at order 12 r.front + gap_to 8 (16 + four_at order 12 r.front) + four_at order 4 r.front = s.size ∙ (λ i. 16 + fields i + gap_to 8 (16 + fields i) + body i) in
          omega (arith, over, within, size),
    )
