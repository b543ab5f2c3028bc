-- Bytes have one front that shows their fault, whatever follows them.
use Rattle.std.proofs.Common.{◌≡◌, ◌⊎◌, ℕ, zero, suc, ◌+◌, ◌-◌, ◌<◌, ◌≤◌, List, [], ◌++◌, length, take, drop, slice_range, refl, sym, ap, ◌∙◌, subst, arith, inl, inr, append-nil, append_assoc, length-append, take-append-drop}
use Rattle.std.proofs.Math.Seq.{take-append-add}
use Rattle.std.proofs.lemmas.Bool.{cases_lt}
use Rattle.std.proofs.lemmas.List.{length-take-le, take_all, take_at, take-append-le, take-take}
use Rattle.dbus_value_model.specs.ByteNumbers.{IsBytes}
use Rattle.dbus_value_model.proofs.Numbers.{IsBytes-front}
use Rattle.dbus_value_model.specs.declared.fault.Fault.{Fault}
use Rattle.dbus_value_model.specs.declared.limits.Limits.{Limits}
use Rattle.dbus_value_model.specs.declared.order.Order.{Order}
use Rattle.dbus_message_model.specs.Messages.{MessageTree}
use Rattle.dbus_header.specs.MessageOutcomes.{IsPartial, IsRefused, IsWhole}
use Rattle.dbus_header.proofs.OutcomeLaws.{not_both, one_fault, one_outcome, refused_for_good, some_outcome, whole_for_good}
use Rattle.dbus_stream.proofs.FaultPackets.{partial_take}
use Rattle.cli_report.specs.FaultFronts.{IsFaultFront}
use Rattle.cli_report.specs.Gathering.{IsPrefixTo}

-- ---- prefixes

prefix_all : (w : List ℕ) → IsPrefixTo w w
prefix_all w = ([], sym (append-nil w))

prefix_first : (n : ℕ) (w : List ℕ) → IsPrefixTo (take n w) w
prefix_first n w = (drop n w, sym (take-append-drop n w))

prefix_trans : (x y z : List ℕ) → IsPrefixTo x y → IsPrefixTo y z → IsPrefixTo x z
prefix_trans x y z p q = (p.0 ++ q.0, q.1 ∙ (ap (λ (l : List ℕ). l ++ q.0) p.1 ∙ append_assoc x p.0 q.0))

prefix_is : (x w : List ℕ) → IsPrefixTo x w → x ≡ take (length x) w
prefix_is x w p = sym (take_at x p.0 (length x) refl) ∙ ap (take (length x)) (sym p.1)

prefix_few : (x w : List ℕ) → IsPrefixTo x w → length x ≤ length w
prefix_few x w p = omega (arith, ap length p.1, length-append x p.0)

-- of two prefixes the shorter one begins the other
prefix_take : (w x y : List ℕ) → IsPrefixTo x w → IsPrefixTo y w → length x ≤ length y → x ≡ take (length x) y
prefix_take w x y p q le = prefix_is x w p ∙ (ap (take (length x)) q.1 ∙ take-append-le (length x) y q.0 le)

prefix_of : (w x y : List ℕ) → IsPrefixTo x w → IsPrefixTo y w → length x ≤ length y → IsPrefixTo x y
prefix_of w x y p q le = subst (λ (l : List ℕ). IsPrefixTo l y) (sym (prefix_take w x y p q le)) (prefix_first (length x) y)

-- the first bytes and the next one
pub piece_here : (bytes : List ℕ) (n : ℕ) → n < length bytes → take n bytes ++ slice_range bytes n (n + 1) ≡ take (n + 1) bytes
piece_here bytes n fits =
    let long = length-take-le n bytes (omega (arith, fits)) in
    let one : n + 1 - n ≡ 1 = omega arith in
    ap (λ (k : ℕ). take n bytes ++ take k (drop n bytes)) one ∙ (sym (take-append-add (take n bytes) (drop n bytes) 1) ∙ (λ i. take (long i + 1) (take-append-drop n bytes i)))

module _ (limits : Limits) where
  -- ---- there is one

  pub refused_on : (x w : List ℕ) (fault : Fault) → IsPrefixTo x w → IsRefused limits x fault → IsRefused limits w fault
  refused_on x w fault p r = subst (λ (l : List ℕ). IsRefused limits l fault) (sym p.1) (refused_for_good limits x p.0 fault r)

  shorter : (w x y : List ℕ) → IsFaultFront limits w x → IsFaultFront limits w y → length y ≤ length x
  shorter w x y p q = elim p.shown [
    | inl refused ↦ q.least x p.prefix refused.0 refused.1
    | inr all ↦ omega (arith, ap length all, prefix_few y w q.prefix)
  ]

  pub one_front : (w x y : List ℕ) → IsFaultFront limits w x → IsFaultFront limits w y → x ≡ y
  one_front w x y p q = prefix_take w x y p.prefix q.prefix (shorter w y x q p) ∙ take_all (length x) y (shorter w x y p q)

  -- it is a front of itself
  pub own_front : (w front : List ℕ) → IsFaultFront limits w front → IsFaultFront limits front front
  own_front w front p = record { prefix = prefix_all front; shown = inr refl; least = λ first q. p.least first (prefix_trans first front w q p.prefix) }

  -- of bytes that are refused it is refused
  pub front_refused : (w front : List ℕ) (fault : Fault) → IsFaultFront limits w front → IsRefused limits w fault → IsRefused limits front fault
  front_refused w front fault p r = elim p.shown [
    | inl refused ↦ subst (λ (f : Fault). IsRefused limits front f) (one_fault limits w refused.0 fault (refused_on front w refused.0 p.prefix refused.1) r) refused.1
    | inr all ↦ subst (λ (l : List ℕ). IsRefused limits l fault) (sym all) r
  ]

  -- and it has more than the first bytes that show no fault
  pub front_after : (w front : List ℕ) (before : ℕ) → IsFaultFront limits w front → before < length w → IsPartial limits (take before w) → before < length front
  front_after w front before p some unshown = elim (cases_lt before (length front)) [
    | inl less ↦ less
    | inr few ↦ elim p.shown [
      | inl refused ↦ (
          let inside = prefix_of w front (take before w) p.prefix (prefix_first before w) (omega (arith, few, length-take-le before w (omega (arith, some)))) in
          absurd ((one_outcome limits (take before w)).2 refused.0 (refused_on front (take before w) refused.0 inside refused.1) unshown)
          )
      | inr all ↦ (let long = ap length all in omega (arith, long, some, few))
    ]
  ]

  -- bytes are refused, or none follow them
  abbrev pub IsShut : (w more : List ℕ) → Type 0
  IsShut w more = ((fault : Fault) × IsRefused limits w fault) ⊎ (more ≡ [])

  -- then they have the same front as with those
  none_more : (w more : List ℕ) → more ≡ [] → w ++ more ≡ w
  none_more w more none = ap (λ (l : List ℕ). w ++ l) none ∙ append-nil w

  pub front_more : (w more front : List ℕ) → IsShut w more → IsFaultFront limits w front → IsFaultFront limits (w ++ more) front
  front_more w more front shut p = elim shut [
    | inl refused ↦ record {
      prefix = prefix_trans front w (w ++ more) p.prefix (more, refl);
      shown = inl (refused.0, front_refused w front refused.0 p refused.1);
      least = λ first q fault r. elim (cases_lt (length w) (length first)) [
        | inl less ↦ omega (arith, less, prefix_few front w p.prefix)
        | inr few ↦ p.least first (prefix_of (w ++ more) first w q (more, refl) few) fault r
      ];
    }
    | inr none ↦ subst (λ (l : List ℕ). IsFaultFront limits l front) (sym (none_more w more none)) p
  ]

  pub front_less : (w more front : List ℕ) → IsShut w more → IsFaultFront limits (w ++ more) front → IsFaultFront limits w front
  front_less w more front shut p = elim shut [
    | inl refused ↦ record {
      prefix = prefix_of (w ++ more) front w p.prefix (more, refl) (p.least w (more, refl) refused.0 refused.1);
      shown = inl (refused.0, front_refused (w ++ more) front refused.0 p (refused_for_good limits w more refused.0 refused.1));
      least = λ first q. p.least first (prefix_trans first w (w ++ more) q (more, refl));
    }
    | inr none ↦ subst (λ (l : List ℕ). IsFaultFront limits l front) (none_more w more none) p
  ]

  -- ---- where it is

  module _ (bytes : List ℕ) where
    abbrev none_refused : (n : ℕ) → Type 0
    none_refused n = (m : ℕ) → m < n → (fault : Fault) → IsRefused limits (take m bytes) fault → ⊥

    front_at : (n : ℕ) → n ≤ length bytes → none_refused n → ((fault : Fault) × IsRefused limits (take n bytes) fault) ⊎ (take n bytes ≡ bytes) → IsFaultFront limits bytes (take n bytes)
    front_at n fits none shown = record {
      prefix = prefix_first n bytes;
      shown = shown;
      least = λ first q fault r. elim (cases_lt (length first) n) [
        | inl less ↦ absurd (none (length first) less fault (subst (λ (l : List ℕ). IsRefused limits l fault) (prefix_is first bytes q) r))
        | inr more ↦ omega (arith, more, length-take-le n bytes fits)
      ];
    }

    -- the first bytes show no fault, and with one more they do
    pub front_here : (n : ℕ) (fault : Fault) → n < length bytes → IsPartial limits (take n bytes) → IsRefused limits (take (n + 1) bytes) fault → IsFaultFront limits bytes (take (n + 1) bytes)
    front_here n fault fits unshown refused =
        front_at (n + 1) (omega (arith, fits))
        (λ m less f r. (one_outcome limits (take m bytes)).2 f r (subst (λ (l : List ℕ). IsPartial limits l) (take-take m n bytes (omega (arith, less))) (partial_take limits m (take n bytes) unshown)))
        (inl (fault, refused))

    -- all of bytes that begin with a message, or show no fault
    front_all : ((fault : Fault) → IsRefused limits bytes fault → ⊥) → IsFaultFront limits bytes bytes
    front_all none = record { prefix = prefix_all bytes; shown = inr refl; least = λ first q fault r. absurd (none fault (refused_on first bytes fault q r)) }

    pub front_whole : (n size : ℕ) (order : Order) (m : MessageTree) → IsWhole limits (take n bytes) order m size → IsFaultFront limits bytes bytes
    front_whole n size order m whole =
        front_all (λ fault r. not_both limits bytes order m size fault (subst (λ (l : List ℕ). IsWhole limits l order m size) (take-append-drop n bytes) (whole_for_good limits (take n bytes) (drop n bytes) order m size whole)) r)

    pub front_partial : IsPartial limits bytes → IsFaultFront limits bytes bytes
    front_partial partial = front_all (λ fault r. (one_outcome limits bytes).2 fault r partial)

    module _ (are : IsBytes bytes) where
      or_not : (n : ℕ) → ((fault : Fault) × IsRefused limits (take n bytes) fault) ⊎ ((fault : Fault) → IsRefused limits (take n bytes) fault → ⊥)
      or_not n = elim (some_outcome limits (take n bytes) (IsBytes-front bytes (take n bytes) (drop n bytes) (sym (take-append-drop n bytes)) are)) [
        | inl whole ↦ inr (λ fault r. not_both limits (take n bytes) whole.0 whole.1 whole.2 fault whole.3 r)
        | inr other ↦ elim other [ inl refused ↦ inl refused | inr partial ↦ inr (λ fault r. (one_outcome limits (take n bytes)).2 fault r partial) ]
      ]

      first_refused : (n : ℕ) → n ≤ length bytes → ((front : List ℕ) × IsFaultFront limits bytes front) ⊎ none_refused n
      first_refused zero fits = inr (λ m less fault r. omega (arith, less))
      first_refused (suc n) fits = elim (first_refused n (omega (arith, fits))) [
        | inl found ↦ inl found
        | inr none ↦ elim (or_not n) [
          | inl refused ↦ inl (take n bytes, front_at n (omega (arith, fits)) none (inl refused))
          | inr last ↦ inr (λ m less fault r. elim (cases_lt m n) [
            | inl before ↦ none m before fault r
            | inr there ↦ (let same : m ≡ n = omega (arith, less, there) in last fault (subst (λ (k : ℕ). IsRefused limits (take k bytes) fault) same r))
          ])
        ]
      ]

      pub some_front : (front : List ℕ) × IsFaultFront limits bytes front
      some_front = elim (first_refused (length bytes) (omega arith)) [
        | inl found ↦ found
        | inr none ↦ (take (length bytes) bytes, front_at (length bytes) (omega arith) none (inr (take_all (length bytes) bytes (omega arith))))
      ]
