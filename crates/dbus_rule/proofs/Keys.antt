-- The key that a name is, read from the name.
use Rattle.std.specs.Prelude.{[], ◌∷◌, if◌then◌else◌, ◌==◌}
use Rattle.std.proofs.Common.{◌≡◌, ℕ, Bool, false, List, Option, Some, None, eqb, sym, ◌∙◌, ◌≢◌, zero, suc, ◌<◌, true, ◌&&◌, ◌||◌, not, inl, inr, refl, ap, subst, arith, ◌+◌, ◌-◌, ltb}
use Rattle.std.proofs.lemmas.Bool.{false≢true, and_parts, cases_lt, eqb-true}
use Rattle.std.proofs.lemmas.Bool.Decides.{Decides-eqb}
use Rattle.std.proofs.lemmas.Slice.Eq.{slice_eq-Decides}
use Rattle.std.specs.Cmp.Lexicographic.{pointwise}
use Rattle.std.specs.List.{AllByRecursion, list_all}
use Rattle.dbus_rule.specs.declared.key.Key.{Key}
use Rattle.dbus_rule.specs.declared.key.Key.TheVariants.{MessageType, Sender, Interface, Member, Path, PathNamespace, Destination, Arg, ArgPath, Arg0Namespace, Eavesdrop}
use Rattle.dbus_rule.specs.Keys.{key_text, IsKey, IsArgumentKey, IsNamed, rank}
use Rattle.dbus_rule.specs.Faults.{NoSpaceFirst, IsNameByte}
use Rattle.dbus_rule.proofs.Values.{all_by}

abbrev pub same_bytes : List ℕ → List ℕ → Bool
same_bytes [] [] = true
same_bytes [] (b ∷ c) = false
same_bytes (a ∷ b) [] = false
same_bytes (a ∷ b) (c ∷ d) = eqb a c && same_bytes b d

-- the argument numbers below n, highest first
abbrev pub arg_named : ℕ → List ℕ → Option Key
arg_named zero w = None
arg_named (suc n) w = if same_bytes w (key_text (Arg n)) then Some (Arg n) else (if same_bytes w (key_text (ArgPath n)) then Some (ArgPath n) else arg_named n w)

abbrev pub key_named : List ℕ → Option Key
key_named w =
    if same_bytes w (key_text MessageType) then Some MessageType else (if same_bytes w (key_text Sender) then Some Sender
    else (if same_bytes w (key_text Interface) then Some Interface else (if same_bytes w (key_text Member) then Some Member
    else (if same_bytes w (key_text Path) then Some Path else (if same_bytes w (key_text PathNamespace) then Some PathNamespace
    else (if same_bytes w (key_text Destination) then Some Destination else (if same_bytes w (key_text Arg0Namespace) then Some Arg0Namespace
    else (if same_bytes w (key_text Eavesdrop) then Some Eavesdrop else arg_named 64 w))))))))

-- A name that is none of the nine fixed names, and of no argument, is no key's.

pub differs : (w z t : List ℕ) (r : Bool) → r ≡ pointwise eqb w z → z ≡ t → r ≡ false → w ≡ t → ⊥
differs w z t r e f n g = let d = slice_eq-Decides Decides-eqb w z r e in false≢true (sym n ∙ d.1 (g ∙ sym f))

-- none of the nine fixed names
pub record IsNotFixed (w : List ℕ) : Type 0 where
  pub message_type : w ≡ key_text MessageType → ⊥
  pub sender : w ≡ key_text Sender → ⊥
  pub interface : w ≡ key_text Interface → ⊥
  pub member : w ≡ key_text Member → ⊥
  pub path : w ≡ key_text Path → ⊥
  pub path_namespace : w ≡ key_text PathNamespace → ⊥
  pub destination : w ≡ key_text Destination → ⊥
  pub arg0namespace : w ≡ key_text Arg0Namespace → ⊥
  pub eavesdrop : w ≡ key_text Eavesdrop → ⊥

no_key : (w : List ℕ) → IsNotFixed w → IsArgumentKey w None → (k : Key) → IsKey k → w ≡ key_text k → ⊥
no_key w f h MessageType i e = f.message_type e
no_key w f h Sender i e = f.sender e
no_key w f h Interface i e = f.interface e
no_key w f h Member i e = f.member e
no_key w f h Path i e = f.path e
no_key w f h PathNamespace i e = f.path_namespace e
no_key w f h Destination i e = f.destination e
no_key w f h (Arg n) i e = (h n i).0 e
no_key w f h (ArgPath n) i e = (h n i).1 e
no_key w f h Arg0Namespace i e = f.arg0namespace e
no_key w f h Eavesdrop i e = f.eavesdrop e

pub named_else : (w : List ℕ) (o : Option Key) → IsNotFixed w → IsArgumentKey w o → IsNamed w o
named_else w None f h = no_key w f h
named_else w (Some k) f h = h

-- Keys have different names, each without space, comma and `=`.

-- a test of each number below n, by computing
abbrev pub all_below : (ℕ → Bool) → ℕ → Bool
all_below p zero = true
all_below p (suc n) = p n && all_below p n

pub is_below : (p : ℕ → Bool) (n k : ℕ) → all_below p n ≡ true → k < n → p k ≡ true
is_below p zero k e l = absurd (omega (arith, l))
is_below p (suc n) k e l =
    let h = and_parts (p n) (all_below p n) e in
    elim (cases_lt k n) [
      | inl m ↦ is_below p n k h.1 m
      | inr m ↦ let q : n ≡ k = omega arith in subst (λ y. p y ≡ true) q h.0
    ]

abbrev pub is_arg : ℕ → Option Key → Bool
is_arg n (Some (Arg m)) = eqb m n
is_arg n o = false

abbrev pub is_arg_path : ℕ → Option Key → Bool
is_arg_path n (Some (ArgPath m)) = eqb m n
is_arg_path n o = false

pub arg_found : (n : ℕ) (o : Option Key) → is_arg n o ≡ true → o ≡ Some (Arg n)
arg_found n (Some (Arg m)) e = ap (λ y. Some (Arg y)) (eqb-true m n e)
arg_found n o e = absurd (false≢true e)

pub arg_path_found : (n : ℕ) (o : Option Key) → is_arg_path n o ≡ true → o ≡ Some (ArgPath n)
arg_path_found n (Some (ArgPath m)) e = ap (λ y. Some (ArgPath y)) (eqb-true m n e)
arg_path_found n o e = absurd (false≢true e)

pub named : (k : Key) → IsKey k → key_named (key_text k) ≡ Some k
named (Arg n) h = arg_found n (key_named (key_text (Arg n))) (is_below (λ m. is_arg m (key_named (key_text (Arg m)))) 64 n refl h)
named (ArgPath n) h = arg_path_found n (key_named (key_text (ArgPath n))) (is_below (λ m. is_arg_path m (key_named (key_text (ArgPath m)))) 64 n refl h)
named k h = refl

abbrev pub key_or : Key → Option Key → Key
key_or k None = k
key_or k (Some l) = l

pub key_same : (k l : Key) → IsKey k → IsKey l → key_text k ≡ key_text l → k ≡ l
key_same k l h i e = ap (key_or k) (sym (named k h) ∙ ap key_named e ∙ named l i)

-- no U+0000, space, comma or `=`
abbrev is_clean : ℕ → Bool
is_clean b = not (eqb b 0 || eqb b 32 || eqb b 44 || eqb b 61)

clean_key : (k : Key) → IsKey k → list_all is_clean (key_text k) ≡ true
clean_key (Arg n) h = is_below (λ m. list_all is_clean (key_text (Arg m))) 64 n refl h
clean_key (ArgPath n) h = is_below (λ m. list_all is_clean (key_text (ArgPath m))) 64 n refl h
clean_key k h = refl

clean_is_not : (b c : ℕ) → is_clean b ≡ true → is_clean c ≡ false → b ≢ c
clean_is_not b c h k e = false≢true (sym k ∙ ap is_clean (sym e) ∙ h)

pub key_names : (k : Key) → IsKey k → AllByRecursion IsNameByte (key_text k)
key_names k h = all_by is_clean IsNameByte (λ b t. (clean_is_not b 44 t refl, clean_is_not b 61 t refl)) (key_text k) (clean_key k h)

pub key_no_nul : (k : Key) → IsKey k → AllByRecursion (λ b. b ≢ 0) (key_text k)
key_no_nul k h = all_by is_clean (λ b. b ≢ 0) (λ b t. clean_is_not b 0 t refl) (key_text k) (clean_key k h)

pub key_first : (k : Key) → NoSpaceFirst (key_text k)
key_first (Arg n) = λ e. omega (arith, e)
key_first k = λ e. omega (arith, e)

-- The rank of a key tells it from all others.

abbrev pub ranked : ℕ → Key
ranked n =
    if n == 0 then MessageType else (if n == 1 then Sender else (if n == 2 then Interface else (if n == 3 then Member
    else (if n == 4 then Path else (if n == 5 then PathNamespace else (if n == 6 then Destination
    else (if ltb n 71 then Arg (n - 7) else (if ltb n 135 then ArgPath (n - 71) else (if n == 135 then Arg0Namespace else Eavesdrop)))))))))

ranked_rank : (k : Key) → IsKey k → ranked (rank k) ≡ k
ranked_rank (Arg n) h = ap (key_or MessageType) (arg_found n (Some (ranked (7 + n))) (is_below (λ m. is_arg m (Some (ranked (7 + m)))) 64 n refl h))
ranked_rank (ArgPath n) h = ap (key_or MessageType) (arg_path_found n (Some (ranked (71 + n))) (is_below (λ m. is_arg_path m (Some (ranked (71 + m)))) 64 n refl h))
ranked_rank k h = refl

pub rank_same : (k l : Key) → IsKey k → IsKey l → rank k ≡ rank l → k ≡ l
rank_same k l h i e = sym (ranked_rank k h) ∙ ap ranked e ∙ ranked_rank l i
