-- The values of a body by their numbers, as they are passed over.
use Rattle.std.proofs.Common.{◌≡◌, ℕ, zero, suc, ◌+◌, ◌-◌, ◌≤◌, List, ◌++◌, length, None, refl, sym, ap, subst, ◌∙◌, arith, append_assoc, ◌<◌, get_or, inl, inr, ◌^◌, [], ◌∷◌, take_all}
use Rattle.std.proofs.lemmas.List.{length-append}
use Rattle.dbus_texts.specs.Types.{sig, TextCode, STRING, OBJECT_PATH, SIGNATURE, text_code}
use Rattle.dbus_types.specs.SignatureCodes.{first_code}
use Rattle.dbus_value_laws.proofs.ValueSteps.{shaped_inside}
use Rattle.dbus_value_model.specs.declared.order.Order.{Order}
use Rattle.dbus_value_model.specs.Spelling.{spelling, spellings}
use Rattle.dbus_value_model.specs.Values.{ValueTree, ValueTrees, NoValues, MoreValues, type_of, TextValue}
use Rattle.dbus_message_model.specs.KnownFields.{body_value}
use Rattle.dbus_walk.specs.Standing.{Stands, AllStand}
use Rattle.dbus_values.specs.Seen.{IsSeen}
use Rattle.dbus_values.specs.States.{ValuesState, AreLeft, IsAfter, SomeAreLeft}
use Rattle.dbus_types.specs.Alignments.{length_width}
use Rattle.dbus_types.proofs.TypeCodes.{code_is}
use Rattle.dbus_value_model.specs.Bytes.{gap_to}
use Rattle.dbus_walk.proofs.Parts.{TextStands, long_stands, short_stands, text_ends}
use Rattle.dbus_walk.proofs.ReadThere.{text_there}
use Rattle.dbus_value_model.specs.declared.limits.Limits.{Limits}
use Rattle.dbus_message_model.specs.Messages.{field_array, body_start, body_signature, message_bytes}
use Rattle.dbus_header.proofs.OutcomeLaws.{whole_bytes}
use Rattle.dbus_validate.specs.declared.validating.Validated.{Validated}
use Rattle.dbus_validate.specs.Validating.{IsValidatedWhole}
use Rattle.dbus_walk.proofs.MessageParts.{fields_stand, body_stands, body_few}
use Rattle.dbus_walk.specs.Fields.{field_types}
use Rattle.dbus_view.specs.Bodies.{IsFound, IsNumbered, first_values, value_start, IsTextAt, IsTextPlace, all_values}
use Rattle.dbus_view.specs.declared.arg.Arg.{Arg}
use Rattle.dbus_view.specs.declared.arg_place.ArgPlace.{ArgPlace}
use Rattle.dbus_view.proofs.Whole.{message, all_whole, valid, state}

none_in : (n : ℕ) → body_value n NoValues ≡ None
none_in zero = refl
none_in (suc n) = refl

-- the first of the values that are left stands there
first_stands : {order : Order} {depth_left at : ℕ} {types bytes : List ℕ} {x : ValueTree} {us : ValueTrees} {rest : List ℕ} → AllStand order depth_left types at bytes (MoreValues x us) rest
    → Stands order depth_left (sig (type_of x)) at bytes x (spellings order (at + length (spelling order at x)) us ++ rest)
unfolding spelling
first_stands {order} {depth_left} {at} {types} {bytes} {x} {us} {rest} a = record {
  text = refl;
  shaped = shaped_inside (type_of x) a.shaped.0;
  formed = a.formed.0;
  array = a.array;
  small = a.small;
  within = a.within.0;
  spelled = a.spelled ∙ append_assoc (spelling order at x) (spellings order (at + length (spelling order at x)) us) rest;
}

module _ (before next : ValuesState) (x : ValueTree) (us : ValueTrees) (after : IsAfter before x next) (a : Arg) where
  -- it is value 0
  first_found : (rest : List ℕ) → AreLeft before (MoreValues x us) rest → a.after ≡ next.at → first_code (type_of x) ≡ a.code → IsSeen a.seen x → IsNumbered before 0 (MoreValues x us) a
  unfolding spelling
  first_found rest left ends code seen =
      let place : before.at ≡ value_start before.order before.at 0 (MoreValues x us) = omega arith in
      (x, refl, subst (λ (n : ℕ). IsFound before.order before.bytes n x a) place (record { depth_left = before.depth_left; rest = _; stands = first_stands left; seen = seen; code = code; after = ends ∙ after.2 }))

  -- and of those after it value i is value i + 1
  other_found : (i : ℕ) → IsNumbered next i us a → IsNumbered before (suc i) (MoreValues x us) a
  unfolding spelling
  other_found i found =
      let one = spelling before.order before.at x in
      let place : value_start before.order (before.at + length one) i us ≡ value_start before.order before.at (suc i) (MoreValues x us) =
      omega (arith, length-append one (spellings before.order (before.at + length one) (first_values i us))) in
      let by_order = subst (λ (o : Order). IsFound o next.bytes (value_start o next.at i us) found.0 a) after.0 found.2 in
      let by_bytes = subst (λ (b : List ℕ). IsFound before.order b (value_start before.order next.at i us) found.0 a) after.1 by_order in
      let by_place = subst (λ (n : ℕ). IsFound before.order before.bytes (value_start before.order n i us) found.0 a) after.2 by_bytes in
      (found.0, found.1, subst (λ (n : ℕ). IsFound before.order before.bytes n found.0 a) place by_place)

module _ (s : ValuesState) (xs : ValueTrees) (rest : List ℕ) where
  -- k values are passed over, and the others are left
  pub record Passed (k : ℕ) (left : ValuesState) : Type 0 where
    pub us : ValueTrees
    pub stand : AreLeft left us rest
    pub none : (i n : ℕ) → n ≡ k + i → body_value i us ≡ None → body_value n xs ≡ None
    pub found : (i n : ℕ) → n ≡ k + i → (a : Arg) → IsNumbered left i us a → IsNumbered s n xs a

  pub none_passed : AreLeft s xs rest → Passed 0 s
  none_passed all = record {
    us = xs;
    stand = all;
    none = λ i n e h. let is : i ≡ n = omega (arith, e) in subst (λ (m : ℕ). body_value m xs ≡ None) is h;
    found = λ i n e a h. let is : i ≡ n = omega (arith, e) in subst (λ (m : ℕ). IsNumbered s m xs a) is h;
  }

  module _ (k : ℕ) (left : ValuesState) (p : Passed k left) where
    -- none are left
    pub all_passed : (n : ℕ) → p.us ≡ NoValues → k ≤ n → body_value n xs ≡ None
    all_passed n none le = p.none (n - k) n (omega (arith, le)) (ap (λ (u : ValueTrees). body_value (n - k) u) none ∙ none_in (n - k))

    module _ (x : ValueTree) (us : ValueTrees) (is : p.us ≡ MoreValues x us) where
      pub stands : AreLeft left (MoreValues x us) rest
      stands = subst (λ (u : ValueTrees). AreLeft left u rest) is p.stand

      pub one_passed : (next : ValuesState) → IsAfter left x next → AreLeft next us rest → Passed (k + 1) next
      one_passed next after stand = record {
        us = us;
        stand = stand;
        none = λ i n e h. p.none (suc i) n (omega (arith, e)) (ap (λ (u : ValueTrees). body_value (suc i) u) is ∙ h);
        found = λ i n e a h. p.found (suc i) n (omega (arith, e)) a (subst (λ (u : ValueTrees). IsNumbered left (suc i) u a) (sym is) (other_found left next x us after a i h));
      }

      -- the first of them is value k
      pub first : (next : ValuesState) → IsAfter left x next → (n : ℕ) → n ≡ k → (a : Arg) → a.after ≡ next.at → first_code (type_of x) ≡ a.code → IsSeen a.seen x → IsNumbered s n xs a
      first next after n last a ends code seen = p.found 0 n (omega (arith, last)) a (subst (λ (u : ValueTrees). IsNumbered left 0 u a) (sym is) (first_found left next x us after a rest stands ends code seen))

-- What is seen of a value, and where its text stands if it is one.

module _ {order : Order} {bytes : List ℕ} {from : ℕ} {x : ValueTree} {a : Arg} (h : IsFound order bytes from x a) where
  coded : (k : TextCode) (t : List ℕ) → x ≡ TextValue k t → get_or (sig (type_of x)) 0 0 ≡ text_code k
  coded k t is = sym (code_is (type_of x) (sig (type_of x)) refl) ∙ ap (λ (v : ValueTree). first_code (type_of v)) is

  text_stands : (k : TextCode) (t : List ℕ) → x ≡ TextValue k t → TextStands h.stands (length_width k)
  text_stands STRING t is = long_stands h.stands (inl (coded STRING t is))
  text_stands OBJECT_PATH t is = long_stands h.stands (inr (coded OBJECT_PATH t is))
  text_stands SIGNATURE t is = short_stands h.stands (coded SIGNATURE t is)

  module _ (k : TextCode) (t : List ℕ) (is : x ≡ TextValue k t) where
    abbrev q : TextStands h.stands (length_width k)
    q = text_stands k t is

    same : q.text ≡ t
    same = let both : TextValue q.code q.text ≡ TextValue k t = sym q.is ∙ is in cc

    ends : a.after ≡ from + gap_to (length_width k) from + length_width k + length t + 1
    ends = omega (arith, h.after, ap length same, text_ends h.stands (length_width k) (from + gap_to (length_width k) from) q refl)

    pub text_before : length t < a.after
    text_before = omega (arith, ends)

    pub text_told : (p : ArgPlace) → p ≡ record { code = a.code; start = a.after - 1 - length t; length = length t } → (first_code (type_of x) ≡ p.code) × IsTextPlace bytes from x p
    text_told p told =
        let w = length_width k in
        let begins : p.start ≡ from + gap_to w from + w = ap (λ (u : ArgPlace). u.start) told ∙ omega (arith, ends) in
        let spans : p.length ≡ length t = ap (λ (u : ArgPlace). u.length) told in
        let there : IsTextAt bytes w from t p = record {
          begins = begins;
          spans = spans;
          text = sym same ∙ sym (text_there h.stands w q p.start p.length begins (spans ∙ sym (ap length same)));
          inside = omega (arith, q.inside, begins, spans, ap length same);
        } in
        (h.code ∙ sym (ap (λ (u : ArgPlace). u.code) told), subst (λ (v : ValueTree). IsTextPlace bytes from v p) (sym is) there)

-- The fields and the body of a message that is validated.

module _ (limits : Limits) (bytes : List ℕ) (j : Validated) (h : IsValidatedWhole limits bytes j) where
  all_bytes : bytes ≡ message_bytes j.order (message limits bytes j h)
  all_bytes = sym (take_all (length bytes) bytes (omega arith)) ∙ (whole_bytes limits bytes j.order (message limits bytes j h) (length bytes) (all_whole limits bytes j h)).0

  abbrev all : ValuesState
  all = all_values (state limits bytes j h) j.order (message limits bytes j h)

  module _ (small : limits.array < 256 ^ 4) where
    -- its fields stand there
    pub fields_there : (rest : List ℕ) × Stands j.order limits.depth (97 ∷ field_types) 12 bytes (field_array (message limits bytes j h).fields) rest
    fields_there = (_, fields_stand limits j.order (message limits bytes j h) bytes all_bytes (valid limits bytes j h) small)

    -- its values are left, all of them
    pub body_left : AreLeft all (message limits bytes j h).body []
    body_left =
        let m = message limits bytes j h in
        body_stands limits j.order m bytes all_bytes (valid limits bytes j h) small (body_signature m.fields) (body_start j.order m.fields) refl refl

    -- as what was validated says where they begin and of which types they are
    module _ (types : List ℕ) (typed : types ≡ body_signature (message limits bytes j h).fields) where
      abbrev pub noted : ValuesState
      noted = record { order = j.order; bytes = bytes; at = j.body; types = types; depth_left = limits.depth }

      pub noted_all : noted ≡ all
      noted_all =
          ap (λ (n : ℕ). record { order = j.order; bytes = bytes; at = n; types = types; depth_left = limits.depth }) (sym h.validated.body.0)
          ∙ ap (λ (l : List ℕ). record { order = j.order; bytes = bytes; at = body_start j.order (message limits bytes j h).fields; types = l; depth_left = limits.depth }) typed

      pub some_left : SomeAreLeft noted
      some_left =
          let m = message limits bytes j h in
          subst SomeAreLeft (sym noted_all) (body_few limits j.order m bytes all_bytes (valid limits bytes j h) small (body_signature m.fields) refl, m.body, [], body_left)
