-- Going over items for the first without a property, and for how deep they nest.
use Rattle.std.proofs.Common.{◌≡◌, ◌↔◌, inl, inr, ℕ, zero, suc, ◌+◌, ◌-◌, ◌<◌, ◌≤◌, List, [], ◌∷◌, length, get_or, drop, map, reverse, IsTrue, Option, Some, None, Result, Ok, Err, refl, sym, subst, arith, ◌++◌, take, Bool, true, false, ◌&&◌, ap, ◌∙◌}
use Rattle.std.specs.Option.{option_or}
use Rattle.std.specs.Result.{is_ok}
use Rattle.std.proofs.lemmas.Bool.{false≢true}
use Rattle.std.proofs.lemmas.List.{drop_all, drop_more, map_push, take_more, length-append, append-nil, reverse-append}
use Rattle.dbus_value_model.specs.Forming.{NestsWithin, NestWithin}
use Rattle.dbus_value_model.specs.Verdicts.{HoldsNumbers, HoldNumbers, IsVerdict}
use Rattle.dbus_value_model.specs.Values.{value_trees}
use Rattle.dbus_value_model.specs.ValueViews.{value_tree, value_trees_of}
use Rattle.dbus_value_model.specs.declared.value.Value.{Value}
use Rattle.dbus_value_model.specs.declared.verdict.Verdict.{Verdict}
use Rattle.dbus_value_model.specs.declared.verdict.Verdict.TheVariants.{TooDeep, Mixed, Misnamed, Sound}
use Rattle.dbus_value_model.proofs.ValueRows.{item_of, items_from}
use Rattle.dbus_message_model.specs.Messages.{FieldTree, field_array, field_struct, has_code, is_known}
use Rattle.dbus_message_model.specs.PartsViews.{field_tree, field_trees}
use Rattle.dbus_message_model.specs.declared.header_field.HeaderField.{HeaderField}
use Rattle.dbus_message_model.proofs.FieldLists.{structs, fields_from, has_reversed}
use Rattle.dbus_build.specs.BuildFaults.{IsSoundness, IsFound, IsFirstWithout, HoldsTypedNumber, HoldTypedNumbers, Keeps, twice}
use Rattle.dbus_build.specs.declared.build_fault.BuildFault.{BuildFault}
use Rattle.dbus_build.specs.declared.faulty_fields.Rule.TheVariants.{OwnType}

-- ---- the first without a property

module _ {X : Type 0} (P : X → Type 0) (key : ℕ → X → ℕ) where
  pub rest : (n : ℕ) (x : X) (xs : List X) → IsFirstWithout P key n (x ∷ xs) None → P x × IsFirstWithout P key (n + 1) xs None
  rest n x xs h = elim h [ inl w ↦ absurd cc | inr w ↦ w ]

  -- it is not said of none and of one
  pub not_both : (n : ℕ) (xs : List X) (k : ℕ) → IsFirstWithout P key n xs None → IsFirstWithout P key n xs (Some k) → ⊥
  not_both n [] k none some = absurd cc
  not_both n (x ∷ xs) k none some = elim some [
    | inl w ↦ w.0 (rest n x xs none).0
    | inr w ↦ not_both (n + 1) xs k (rest n x xs none).1 w.1
  ]

  module _ (xs : List X) (i : ℕ) where
    pub here : (x : X) → i < length xs → x ≡ get_or xs i x → (P x → ⊥) → IsFirstWithout P key i (drop i xs) (Some (key i x))
    here x l is p = items_from (λ ys. IsFirstWithout P key i ys (Some (key i x))) xs i x l is (inl (p, refl))

    pub later : (x : X) (r : Option ℕ) → i < length xs → x ≡ get_or xs i x → P x → IsFirstWithout P key (i + 1) (drop (i + 1) xs) r
        → IsFirstWithout P key i (drop i xs) r
    later x r l is p w = items_from (λ ys. IsFirstWithout P key i ys r) xs i x l is (inr (p, w))

    pub at_end : length xs ≤ i → IsFirstWithout P key i (drop i xs) None
    at_end l = subst (λ (ys : List X). IsFirstWithout P key i ys None) (sym (drop_all i xs l)) refl

    -- of the items from i on it is said of none
    pub rest_from : (x : X) → i < length xs → x ≡ get_or xs i x → IsFirstWithout P key i (drop i xs) None
        → P x × IsFirstWithout P key (i + 1) (drop (i + 1) xs) None
    rest_from x l is w = rest i x (drop (i + 1) xs)
        (subst (λ (ys : List X). IsFirstWithout P key i ys None) (drop_more xs i x l ∙ ap (λ (y : X). y ∷ drop (i + 1) xs) (sym is)) w)

-- ---- how deep items nest, and the first that is not sound

or_none : (o : Option ℕ) → option_or o None ≡ o
or_none None = refl
or_none (Some n) = refl

or_more : (o : Option ℕ) (n : ℕ) (r : Option ℕ) → option_or (option_or o (Some n)) r ≡ option_or o (Some n)
or_more None n r = refl
or_more (Some m) n r = refl

or_some : (o : Option ℕ) (n : ℕ) → option_or o (Some n) ≡ None → ⊥
or_some None n e = absurd cc
or_some (Some m) n e = absurd cc

pub found_ok : (S R : Type 0) (F : Option ℕ → Type 0) (r : Result (Option ℕ) BuildFault) → IsFound S F R r → IsTrue (is_ok r) ↔ S
found_ok S R F (Ok first) h = (λ e. h.0, λ s. refl)
found_ok S R F (Err fault) h = (λ e. absurd (false≢true e), λ s. absurd (h.1 s))

-- how each is found goes with how all are: P says how deep one nests, R what its numbers are
pub record Rules {A : Type 0} (P R : A → Type 0) (Shallow Ranged : List A → Type 0) : Type 0 where
  pub shallow : (x : A) (xs : List A) → Shallow (x ∷ xs) ↔ (P x × Shallow xs)
  pub ranged : (x : A) (xs : List A) → R x → Ranged xs → Ranged (x ∷ xs)
  pub none : Shallow [] × Ranged []

-- what the items in front of i say of all
pub record IsOn {A : Type 0} (S : A → Type 0) (key : ℕ → A → ℕ) (Shallow Ranged : List A → Type 0) (xs : List A) (i : ℕ)
    (first : Option ℕ) : Type 0 where
  pub shallow : Shallow (drop i xs) → Shallow xs
  pub is_first : (r : Option ℕ) → IsFirstWithout S key i (drop i xs) r → IsFirstWithout S key 0 xs (option_or first r)
  pub ranged : first ≡ None → Ranged (drop i xs) → Ranged xs

module _ {A : Type 0} {P R : A → Type 0} {Shallow Ranged : List A → Type 0} (rules : Rules P R Shallow Ranged) (S : A → Type 0)
    (key : ℕ → A → ℕ) (xs : List A) where
  pub finish : (i : ℕ) (first : Option ℕ) → length xs ≤ i → IsOn S key Shallow Ranged xs i first
      → Shallow xs × IsFirstWithout S key 0 xs first × (first ≡ None → Ranged xs)
  finish i first l on =
      let none = sym (drop_all i xs l) in (
        on.shallow (subst Shallow none rules.none.0),
        subst (IsFirstWithout S key 0 xs) (or_none first) (on.is_first None (at_end S key xs i l)),
        λ e. on.ranged e (subst Ranged none rules.none.1),
      )

  module _ (i : ℕ) (x : A) (l : i < length xs) (is : x ≡ get_or xs i x) where
    pub stop : (P x → ⊥) → Shallow xs → ⊥
    stop p all = p (item_of Shallow P (λ y ys. (rules.shallow y ys).0) xs i x l is all)

    one_on : P x → Shallow (drop (i + 1) xs) → Shallow (drop i xs)
    one_on p w = items_from Shallow xs i x l is ((rules.shallow x (drop (i + 1) xs)).1 (p, w))

    pub sound_on : (first : Option ℕ) → P x × S x × R x → IsOn S key Shallow Ranged xs i first → IsOn S key Shallow Ranged xs (i + 1) first
    sound_on first h on = record {
      shallow = λ w. on.shallow (one_on h.0 w);
      is_first = λ r w. on.is_first r (later S key xs i x r l is h.1 w);
      ranged = λ e w. on.ranged e (items_from Ranged xs i x l is (rules.ranged x (drop (i + 1) xs) h.2 w));
    }

    pub unsound_on : (first : Option ℕ) → P x × (S x → ⊥) → IsOn S key Shallow Ranged xs i first
        → IsOn S key Shallow Ranged xs (i + 1) (option_or first (Some (key i x)))
    unsound_on first h on = record {
      shallow = λ w. on.shallow (one_on h.0 w);
      is_first = λ r w. subst (IsFirstWithout S key 0 xs) (sym (or_more first (key i x) r))
          (on.is_first (Some (key i x)) (here S key xs i x l is h.1));
      ranged = λ e w. absurd (or_some first (key i x) e);
    }

-- ---- the values of a body, and the fields of a header

module _ {A : Type 0} (depth_left : ℕ) where
  pub value_rules : Rules {A = Value A} (λ v. NestsWithin depth_left (value_tree v)) (λ v. HoldsNumbers (value_tree v))
      (λ vs. NestWithin depth_left (value_trees_of vs)) (λ vs. HoldNumbers (value_trees_of vs))
  value_rules = record { shallow = λ v vs. (λ w. w, λ w. w); ranged = λ v vs h w. (h, w); none = (tt, tt) }

  pub field_rules : Rules {A = HeaderField A} (λ f. NestsWithin depth_left (field_struct (field_tree f))) HoldsTypedNumber
      (λ fs. NestWithin depth_left (structs fs)) HoldTypedNumbers
  field_rules = record {
    shallow = λ f fs. (λ w. w, λ w. w);
    ranged = λ f fs h w n typed. let t = rest (Keeps OwnType) (λ m g. g.code) n f fs typed in ((h.0, h.1 t.0), w (n + 1) t.1);
    none = (tt, λ n typed. tt);
  }

-- an array opens one container, and its items have one less
pub array_nests : (depth_left : ℕ) (fs : List FieldTree) → 0 < depth_left
    → NestsWithin depth_left (field_array fs) ↔ NestWithin (depth_left - 1) (value_trees (map field_struct fs))
array_nests zero fs h = absurd (omega arith)
array_nests (suc depth_left) fs h = let e : suc depth_left - 1 ≡ depth_left = omega arith in rw e (λ w. w, λ w. w)

module _ (n t m k : Type 0) where
  pub soundness : (v : Verdict) → IsVerdict n t m k v → IsSoundness n (t × m) k v
  soundness TooDeep w = w
  soundness Mixed w = (w.0, λ s. w.1 s.0)
  soundness Misnamed w = (w.0, λ s. w.2 s.1)
  soundness Sound w = (w.0, (w.1, w.2), w.3)

pub unsound_of : (n s k : Type 0) (v : Verdict) → (v ≡ TooDeep → ⊥) → (v ≡ Sound → ⊥) → IsSoundness n s k v → n × (s → ⊥)
unsound_of n s k TooDeep shallow bad w = absurd (shallow refl)
unsound_of n s k Mixed shallow bad w = w
unsound_of n s k Misnamed shallow bad w = w
unsound_of n s k Sound shallow bad w = absurd (bad refl)

-- ---- fields of one code

module _ {A : Type 0} (fields : List (HeaderField A)) (i : ℕ) (f : HeaderField A) (h : i < length fields) (is : f ≡ get_or fields i f) where
  abbrev front : List FieldTree
  front = field_trees (take i fields)

  again : (b : Bool) → is_known f.code && has_code f.code front ≡ b → is_known f.code && has_code f.code (reverse front) ≡ b
  again b e = ap (λ (c : Bool). is_known f.code && c) (has_reversed f.code front) ∙ e

  pub twice_here : is_known f.code && has_code f.code front ≡ true → Some f.code ≡ twice (reverse front) (field_trees (drop i fields))
  twice_here e = rw (fields_from fields i f h is, again true e) refl

  pub twice_later : is_known f.code && has_code f.code front ≡ false
      → twice (reverse (field_trees (take (i + 1) fields))) (field_trees (drop (i + 1) fields))
      ≡ twice (reverse front) (field_trees (drop i fields))
  twice_later e =
      let more : field_trees (take (i + 1) fields) ≡ front ++ field_tree f ∷ [] =
      ap field_trees (take_more fields i f h) ∙ map_push field_tree (take i fields) (get_or fields i f)
      ∙ ap (λ (u : HeaderField A). front ++ field_tree u ∷ []) (sym is) in
      let turned : reverse (field_trees (take (i + 1) fields)) ≡ field_tree f ∷ reverse front =
      ap reverse more ∙ reverse-append front (field_tree f ∷ []) in
      rw (fields_from fields i f h is, again false e, turned) refl

-- ---- types of values

-- too long for the text
pub spelled_past : (out head rest tail whole text : List ℕ) → rest ≡ head ++ tail → out ++ rest ≡ whole
    → length text - length out < length head → whole ≡ text → ⊥
spelled_past out head rest tail whole text is all long same =
    omega (arith, length-append out rest, length-append head tail, ap length is, ap length all, ap length same, long)

pub spelled_whole : (out rest whole : List ℕ) → rest ≡ [] → out ++ rest ≡ whole → out ≡ whole
spelled_whole out rest whole is all = sym (append-nil out) ∙ ap (λ (t : List ℕ). out ++ t) (sym is) ∙ all
