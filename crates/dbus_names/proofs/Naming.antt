-- The names by which connections are known, from one message to the next.
use Rattle.std.proofs.Common.{◌≡◌, ℕ, List, [], Bool, true, false, not, ◌&&◌, cond, Option, None, Some, if◌then◌else◌, refl, sym, ap, ◌∙◌, subst, arith}
use Rattle.std.specs.FinSet.{contains}
use Rattle.std.specs.Option.{is_none, option_or}
use Rattle.std.specs.Str.{bytes_eq}
use Rattle.std.proofs.lemmas.Bool.{cond-true, false≢true}
use Rattle.std.proofs.lemmas.Slice.Eq.{bytes_eq-Decides}
use Rattle.dbus_rule_set.specs.Owners.{OwnerSet, owned_anew, without_owner, without_owners, without_unique}
use Rattle.dbus_rule_set.proofs.OwnerSets.{contains_anew, contains_left, contains_less, contains_lost, pair}
use Rattle.dbus_calls.specs.OwnerChanges.{Change, name_of}
use Rattle.dbus_names.specs.NameStates.{if_had, name_said, wanted_change}

abbrev had : OwnerSet → (unique name : List ℕ) → Bool
had os u n = contains os (pair n u)

or_none : (x : Option (List ℕ)) → x ≡ option_or x None
or_none None = refl
or_none (Some n) = refl

-- the connection has no name after that it did not have before
abbrev pub HasNoMore : (before after : OwnerSet) (unique : List ℕ) → Type 0
HasNoMore os after u = (n : List ℕ) → had after u n ≡ true → had os u n ≡ true

module _ (os after : OwnerSet) (u : List ℕ) where
  none_if : (n : List ℕ) (c : Bool) → (c ≡ true → false ≡ true) → None ≡ (if c then Some n else None)
  none_if n true more = absurd (false≢true (more refl))
  none_if n false more = refl

  one_still : (n : List ℕ) (b : Bool) → (had after u n ≡ true → b ≡ true) → if_had after u (if b then Some n else None) ≡ if_had after u (Some n)
  one_still n true more = refl
  one_still n false more = none_if n (had after u n) more

  still_had : (x : Option (List ℕ)) → HasNoMore os after u → if_had after u (if_had os u x) ≡ if_had after u x
  still_had None more = refl
  still_had (Some n) more = one_still n (had os u n) (more n)

  -- if it is not said to have one, it keeps its name as long as it has it
  pub named_still : (said : Option Change) (x : Option (List ℕ)) → name_said said u ≡ None → HasNoMore os after u
      → if_had after u x ≡ option_or (if_had after u (if_had os u x)) (if_had after u (name_said said u))
  named_still said x none more =
      sym (still_had x more) ∙ (or_none (if_had after u (if_had os u x)) ∙ ap (λ y. option_or (if_had after u (if_had os u x)) (if_had after u y)) (sym none))

-- ---- a name has this owner from now on

module _ (os : OwnerSet) (name w u : List ℕ) where
  abbrev anew : OwnerSet
  anew = owned_anew name w os

  in_anew : (n : List ℕ) (b : Bool) → bytes_eq w [] ≡ b → had anew u n ≡ cond b (had os u n && not (bytes_eq name n)) (cond (bytes_eq name n) (bytes_eq w u) (had os u n))
  in_anew n true is = ap (λ (s : OwnerSet). had s u n) (cond-true _ _ _ is) ∙ contains_less os name n u
  in_anew n false is = contains_anew os name w n u is

  -- other names keep theirs
  kept : (n : List ℕ) → bytes_eq name n ≡ false → had anew u n ≡ had os u n
  kept n other = by (bytes_eq w []) (in_anew n (bytes_eq w []) refl) other
    where
      by : (b : Bool) → had anew u n ≡ cond b (had os u n && not (bytes_eq name n)) (cond (bytes_eq name n) (bytes_eq w u) (had os u n)) → bytes_eq name n ≡ false → had anew u n ≡ had os u n
      by true is other = grind arith
      by false is other = grind arith

  -- other owners have no more
  pub no_more : bytes_eq w u ≡ false → HasNoMore os anew u
  no_more other n has = by (bytes_eq w []) (in_anew n (bytes_eq w []) refl)
    where
      by : (b : Bool) → had anew u n ≡ cond b (had os u n && not (bytes_eq name n)) (cond (bytes_eq name n) (bytes_eq w u) (had os u n)) → had os u n ≡ true
      by true is = grind arith
      by false is = grind arith

  -- it had this name, and if it has it no longer, that is because it is said of it
  lost_none : (n : List ℕ) → had os u n ≡ true → had anew u n ≡ false → if_had anew u (Some name) ≡ None
  lost_none n was gone = by (bytes_eq name n) refl
    where
      by : (b : Bool) → bytes_eq name n ≡ b → if_had anew u (Some name) ≡ None
      by true same = ap (λ c. if c then Some name else None) (subst (λ m. had anew u m ≡ false) (sym ((bytes_eq-Decides name n).0 same)) gone)
      by false other = absurd (false≢true (sym gone ∙ (kept n other ∙ was)))

  kept_or : (n : List ℕ) (c : Bool) → had os u n ≡ true → had anew u n ≡ c → (if c then Some n else None) ≡ option_or (if c then Some n else None) (if_had anew u (Some name))
  kept_or n true was now = refl
  kept_or n false was now = sym (lost_none n was now)

  -- it is said to have the name
  own : (x : Option (List ℕ)) → if_had anew u (if is_none (if_had os u x) then Some name else x) ≡ option_or (if_had anew u (if_had os u x)) (if_had anew u (Some name))
  own None = refl
  own (Some n) = by (had os u n) refl
    where
      by : (b : Bool) → had os u n ≡ b → if_had anew u (if is_none (if b then Some n else None) then Some name else Some n) ≡ option_or (if_had anew u (if b then Some n else None)) (if_had anew u (Some name))
      by true was = kept_or n (had anew u n) was refl
      by false lost = refl

  named_any : (b : Bool) (x : Option (List ℕ)) → bytes_eq w u ≡ b
      → if_had anew u (if b && is_none (if_had os u x) then Some name else x) ≡ option_or (if_had anew u (if_had os u x)) (if_had anew u (if b then Some name else None))
  named_any true x is = own x
  named_any false x is = sym (still_had os anew u x (no_more is)) ∙ or_none (if_had anew u (if_had os u x))

  pub named_anew : (x y : Option (List ℕ)) → y ≡ (if bytes_eq w u && is_none (if_had os u x) then Some name else x)
      → if_had anew u y ≡ option_or (if_had anew u (if_had os u x)) (if_had anew u (if bytes_eq w u then Some name else None))
  named_anew x y is = ap (if_had anew u) is ∙ named_any (bytes_eq w u) x refl

-- ---- a name has no owner any more, or loses one

module _ (os : OwnerSet) (name u : List ℕ) where
  pub freed : HasNoMore os (without_owners name os) u
  freed n has = let is = contains_less os name n u in grind arith

  pub lost : (w : List ℕ) → HasNoMore os (without_owner name w os) u
  lost w n has = let is = contains_lost os name w n u in grind arith

-- ---- what is said of a name that is not wanted

pub unwanted : (wants : List ℕ → Bool) (change : Change) (u : List ℕ) → wants (name_of change) ≡ false → name_said (wanted_change wants (Some change)) u ≡ None
unwanted wants change u is = ap (λ b. name_said (if b then Some change else None) u) is

pub same_no_more : (os : OwnerSet) (u : List ℕ) → HasNoMore os os u
same_no_more os u n has = has

-- ---- a connection that is gone

module _ (os : OwnerSet) (name u : List ℕ) where
  -- another one still has its names
  others_had : (x : Option (List ℕ)) → bytes_eq name u ≡ false → if_had (without_unique name os) u x ≡ if_had os u x
  others_had None other = refl
  others_had (Some n) other = ap (λ b. if b then Some n else None) (let is = contains_left os name n u in grind arith)

  pub left_had : (x : Option (List ℕ)) → if_had (without_unique name os) u (if bytes_eq name u then None else x) ≡ (if bytes_eq name u then None else if_had os u x)
  left_had x = by (bytes_eq name u) refl
    where
      by : (b : Bool) → bytes_eq name u ≡ b → if_had (without_unique name os) u (if b then None else x) ≡ (if b then None else if_had os u x)
      by true is = refl
      by false is = others_had x is

-- ---- a name was noted, and then there was no memory for its owner

none_there : (x : Option (List ℕ)) → is_none x ≡ true → None ≡ x
none_there None e = refl
none_there (Some n) e = absurd (false≢true e)

module _ (os : OwnerSet) (name w u : List ℕ) (old noted : List ℕ → Option (List ℕ)) (is : noted u ≡ (if bytes_eq w u && is_none (if_had os u (old u)) then Some name else old u)) where
  -- the connection was known by another one, so that nothing was noted
  pub not_noted : is_none (if_had os w (old w)) ≡ false → noted u ≡ old u
  not_noted some = is ∙ by (bytes_eq w u) refl
    where
      by : (b : Bool) → bytes_eq w u ≡ b → (if b && is_none (if_had os u (old u)) then Some name else old u) ≡ old u
      by true same = ap (λ c. if c then Some name else old u) (subst (λ v. is_none (if_had os v (old v)) ≡ false) ((bytes_eq-Decides w u).0 same) some)
      by false other = refl

  -- it was known by none, and what was noted is forgotten
  pub taken_back : is_none (if_had os w (old w)) ≡ true → (back : Option (List ℕ)) → back ≡ (if bytes_eq w u then None else noted u) → if_had os u back ≡ if_had os u (old u)
  taken_back none back e = by (bytes_eq w u) refl is e
    where
      by : (b : Bool) → bytes_eq w u ≡ b → noted u ≡ (if b && is_none (if_had os u (old u)) then Some name else old u) → back ≡ (if b then None else noted u) → if_had os u back ≡ if_had os u (old u)
      by true same n g = ap (if_had os u) g ∙ none_there (if_had os u (old u)) (subst (λ v. is_none (if_had os v (old v)) ≡ true) ((bytes_eq-Decides w u).0 same) none)
      by false other n g = ap (if_had os u) (g ∙ n)
