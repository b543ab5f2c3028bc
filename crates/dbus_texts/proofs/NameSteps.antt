-- The steps of a name.
use Rattle.std.proofs.Common.{◌≡◌, ℕ, Bool, true, false, eqb, List, [], ◌∷◌, ◌++◌, ◌⊎◌, ⊎_elim, inl, inr, refl, sym, ap, ◌∙◌, subst, IsTrue, append-nil, ◌||◌, length, get_or, arith, ap₂}
use Rattle.std.specs.List.{AllByRecursion}
use Rattle.std.proofs.lemmas.Bool.{cond_both, eqb-true, eqb-false, false≢true}
use Rattle.dbus_texts.specs.declared.names.Letters.{Letters}
use Rattle.dbus_texts.specs.declared.names.Letters.TheVariants.{Word, Name, Unique, WellKnown}
use Rattle.dbus_texts.specs.declared.names.Tail.{Tail}
use Rattle.dbus_texts.specs.declared.names.Tail.TheVariants.{Alone, Needed, Free}
use Rattle.dbus_texts.specs.declared.names.Place.{Place}
use Rattle.dbus_texts.specs.declared.names.Place.TheVariants.{PathStart, Root, BusStart, First, More}
use Rattle.dbus_texts.specs.declared.names.NameScan.{NameScan}
use Rattle.dbus_texts.specs.Quotients.{IsStep, Moves}
use Rattle.dbus_texts.specs.Kinds.{is_word, is_dashed, is_dashed_start, IsElement, each_after, IsPath, IsJoined, IsBusName, IsMember, IsInterface, IsSignature, IsSingle}
use Rattle.dbus_texts.specs.NameScans.{begins, goes_on, separator, MayFollow, Elements, GoesOn, name_rest, name_rest_at, name_state, past_separator, name_next_at, name_next, may_end, name_end_at}
use Rattle.dbus_texts.specs.Types.{TypeTree, NumberCode, BYTE, BOOLEAN, INT16, UINT16, INT32, UINT32, INT64, UINT64, DOUBLE, UNIX_FD, TextCode, STRING, OBJECT_PATH, SIGNATURE, NumberType, TextType, VariantType, ArrayType, StructType, EntryType, NoTypes, MoreTypes, number_code, text_code, sig, IsBasic, IsComplete}
use Rattle.dbus_texts.specs.SignatureScans.{is_basic_code, is_type_code}

-- a letter may begin each element, and no separator stands in one
a_begins : (l : Letters) → begins l 97 ≡ true
a_begins Word = refl
a_begins _ = refl

pub apart : (l : Letters) → goes_on l (separator l) ≡ false
apart Word = refl
apart _ = refl

a_only : (l : Letters) → IsElement (begins l) (goes_on l) (97 ∷ [])
a_only l = (a_begins l, tt)

-- something may always follow
elements_some : (l : Letters) (t : Tail) → (c : List ℕ) × Elements l t c
elements_some l Needed = (97 ∷ separator l ∷ 97 ∷ [], record { first = 97 ∷ []; others = (97 ∷ []) ∷ []; first_is = a_only l; others_are = (a_only l, tt); follow = tt; spelled = refl })
elements_some l _ = (97 ∷ [], record { first = 97 ∷ []; others = []; first_is = a_only l; others_are = tt; follow = tt; spelled = refl })

goes_on_some : (l : Letters) (t : Tail) → (c : List ℕ) × GoesOn l t c
goes_on_some l Needed = (separator l ∷ 97 ∷ [], record { run = []; others = (97 ∷ []) ∷ []; run_is = tt; others_are = (a_only l, tt); follow = tt; spelled = refl })
goes_on_some l _ = ([], record { run = []; others = []; run_is = tt; others_are = tt; follow = tt; spelled = refl })

-- the first byte of elements
elements_at : (l : Letters) (t : Tail) (b : ℕ) (c first : List ℕ) (others : List (List ℕ)) → IsElement (begins l) (goes_on l) first → AllByRecursion (IsElement (begins l) (goes_on l)) others → MayFollow t others → b ∷ c ≡ first ++ each_after (separator l) others → (begins l b ≡ true) × GoesOn l t c
elements_at l t b c [] others f o m e = absurd f
elements_at l t b c (x ∷ run) others f o m e =
    let same : b ≡ x = cc in
    (subst (λ y. begins l y ≡ true) (sym same) f.0, record { run = run; others = others; run_is = f.1; others_are = o; follow = m; spelled = cc })

elements_head : (l : Letters) (t : Tail) (b : ℕ) (c : List ℕ) → Elements l t (b ∷ c) → (begins l b ≡ true) × GoesOn l t c
elements_head l t b c h = elements_at l t b c h.first h.others h.first_is h.others_are h.follow h.spelled

elements_from : (l : Letters) (t : Tail) (b : ℕ) (c : List ℕ) → begins l b ≡ true → GoesOn l t c → Elements l t (b ∷ c)
elements_from l t b c e h = record { first = b ∷ h.run; others = h.others; first_is = (e, h.run_is); others_are = h.others_are; follow = h.follow; spelled = ap (λ x. b ∷ x) h.spelled }

pub elements_move : (l : Letters) (t : Tail) (b : ℕ) → begins l b ≡ true → Moves (Elements l t) b (GoesOn l t)
elements_move l t b e = record { to = λ c h. (elements_head l t b c h).1; from = λ c h. elements_from l t b c e h; some = goes_on_some l t }

-- the next byte within an element, or after it
abbrev pub MayGo : Tail → Type 0
MayGo Alone = ⊥
MayGo Needed = Unit {0}
MayGo Free = Unit {0}

may_go : (t : Tail) (e : List ℕ) (es : List (List ℕ)) → MayFollow t (e ∷ es) → MayGo t
may_go Alone e es h = h
may_go _ e es h = tt

goes_on_at : (l : Letters) (t : Tail) (b : ℕ) (c run : List ℕ) (others : List (List ℕ)) → AllByRecursion (λ x. IsTrue (goes_on l x)) run → AllByRecursion (IsElement (begins l) (goes_on l)) others → MayFollow t others → b ∷ c ≡ run ++ each_after (separator l) others → ((goes_on l b ≡ true) × GoesOn l t c) ⊎ ((b ≡ separator l) × MayGo t × Elements l Free c)
goes_on_at l t b c [] [] r o m e = cc
goes_on_at l t b c [] (f ∷ others) r o m e =
    inr (cc, may_go t f others m, record { first = f; others = others; first_is = o.0; others_are = o.1; follow = tt; spelled = cc })
goes_on_at l t b c (x ∷ run) others r o m e =
    let same : b ≡ x = cc in
    inl (subst (λ y. goes_on l y ≡ true) (sym same) r.0, record { run = run; others = others; run_is = r.1; others_are = o; follow = m; spelled = cc })

goes_on_head : (l : Letters) (t : Tail) (b : ℕ) (c : List ℕ) → GoesOn l t (b ∷ c) → ((goes_on l b ≡ true) × GoesOn l t c) ⊎ ((b ≡ separator l) × MayGo t × Elements l Free c)
goes_on_head l t b c h = goes_on_at l t b c h.run h.others h.run_is h.others_are h.follow h.spelled

-- a byte of the element
pub goes_on_more : (l : Letters) (t : Tail) (b : ℕ) → goes_on l b ≡ true → Moves (GoesOn l t) b (GoesOn l t)
goes_on_more l t b e =
    record {
      to = λ c h. ⊎_elim (λ w. w.1) (λ w. absurd (false≢true (sym (ap (goes_on l) w.0 ∙ apart l) ∙ e))) (goes_on_head l t b c h);
      from = λ c h. record { run = b ∷ h.run; others = h.others; run_is = (e, h.run_is); others_are = h.others_are; follow = h.follow; spelled = ap (λ x. b ∷ x) h.spelled };
      some = goes_on_some l t;
    }

-- a separator
follow_one : (t : Tail) → MayGo t → (e : List ℕ) (es : List (List ℕ)) → MayFollow t (e ∷ es)
follow_one Alone h e es = h
follow_one _ h e es = tt

pub goes_on_separator : (l : Letters) (t : Tail) (b : ℕ) → MayGo t → goes_on l b ≡ false → b ≡ separator l → Moves (GoesOn l t) b (Elements l Free)
goes_on_separator l t b g n e =
    record {
      to = λ c h. ⊎_elim (λ w. absurd (false≢true (sym n ∙ w.0))) (λ w. w.2) (goes_on_head l t b c h);
      from = λ c h. record { run = []; others = h.first ∷ h.others; run_is = tt; others_are = (h.first_is, h.others_are); follow = follow_one t g h.first h.others; spelled = cc (e, h.spelled) };
      some = elements_some l Free;
    }

goes_on_past : (l : Letters) (t : Tail) (b : ℕ) → goes_on l b ≡ false → b ≡ separator l → IsStep name_rest (name_state More l t) b (past_separator t l)
goes_on_past l Alone b n e = λ c h. ⊎_elim (λ w. false≢true (sym n ∙ w.0)) (λ w. w.1) (goes_on_head l Alone b c h)
goes_on_past l t b n e = goes_on_separator l t b tt n e

-- the start of a path
path_at : (b : ℕ) (c : List ℕ) → IsPath (b ∷ c) → (b ≡ 47) × ((c ≡ []) ⊎ Elements Word Free c)
path_at b c h =
    ⊎_elim
    (λ e. (cc, inl cc))
    (λ w. (cc, inr (record { first = w.0; others = w.1; first_is = w.2.0; others_are = w.2.1; follow = tt; spelled = cc })))
    h

pub path_from : (b : ℕ) (c : List ℕ) → b ≡ 47 → (c ≡ []) ⊎ Elements Word Free c → IsPath (b ∷ c)
path_from b c e h =
    ⊎_elim
    (λ n. inl cc)
    (λ w. inr (w.first, w.others, (w.first_is, w.others_are), cc (e, w.spelled)))
    h

-- the start of a bus name
joined_elements : (l : Letters) (c : List ℕ) → separator l ≡ 46 → IsJoined (begins l) (goes_on l) c → Elements l Needed c
joined_elements l c e h = record { first = h.0; others = h.1 ∷ h.2; first_is = h.3.0; others_are = h.3.1; follow = tt; spelled = subst (λ s. c ≡ h.0 ++ each_after s (h.1 ∷ h.2)) (sym e) h.4 }

elements_joined_at : (l : Letters) (c first : List ℕ) (others : List (List ℕ)) → separator l ≡ 46 → IsElement (begins l) (goes_on l) first → AllByRecursion (IsElement (begins l) (goes_on l)) others → MayFollow Needed others → c ≡ first ++ each_after (separator l) others → IsJoined (begins l) (goes_on l) c
elements_joined_at l c first [] s f o m e = absurd m
elements_joined_at l c first (g ∷ others) s f o m e = (first, g, others, (f, o), subst (λ x. c ≡ first ++ each_after x (g ∷ others)) s e)

pub elements_joined : (l : Letters) (c : List ℕ) → separator l ≡ 46 → Elements l Needed c → IsJoined (begins l) (goes_on l) c
elements_joined l c e h = elements_joined_at l c h.first h.others e h.first_is h.others_are h.follow h.spelled

bus_at : (b : ℕ) (c : List ℕ) → IsBusName (b ∷ c) → ((b ≡ 58) × Elements Unique Needed c) ⊎ ((is_dashed_start b ≡ true) × GoesOn WellKnown Needed c)
bus_at b c h =
    ⊎_elim
    (λ w. let same : w.0 ≡ c = cc in inl (cc, joined_elements Unique c refl (subst (λ v. IsJoined is_dashed is_dashed v) same w.1)))
    (λ w. inr (elements_head WellKnown Needed b c (joined_elements WellKnown (b ∷ c) refl w)))
    h

bus_unique : (b : ℕ) → b ≡ 58 → Moves IsBusName b (Elements Unique Needed)
bus_unique b e =
    record {
      to = λ c h. ⊎_elim (λ w. w.1) (λ w. absurd (false≢true (sym (ap is_dashed_start e) ∙ w.0))) (bus_at b c h);
      from = λ c h. inl (c, elements_joined Unique c refl h, ap (λ x. x ∷ c) e);
      some = elements_some Unique Needed;
    }

bus_known : (b : ℕ) → (b ≡ 58 → ⊥) → is_dashed_start b ≡ true → Moves IsBusName b (GoesOn WellKnown Needed)
bus_known b n e =
    record {
      to = λ c h. ⊎_elim (λ w. absurd (n w.0)) (λ w. w.1) (bus_at b c h);
      from = λ c h. inr (elements_joined WellKnown (b ∷ c) refl (elements_from WellKnown Needed b c e h));
      some = goes_on_some WellKnown Needed;
    }

-- each step, and the end
pub name_moves_at : (p : Place) (l : Letters) (t : Tail) (b : ℕ) → IsStep name_rest (name_state p l t) b (name_next_at p l t b)
name_moves_at PathStart l t b =
    cond_both (eqb b 47) _ _ (IsStep name_rest (name_state PathStart l t) b)
    (λ e. let at : b ≡ 47 = eqb-true b 47 e in record { to = λ c h. (path_at b c h).1; from = λ c h. path_from b c at h; some = ([], inl refl) })
    (λ e. λ c h. eqb-false b 47 e (path_at b c h).0)
name_moves_at Root l t b =
    cond_both (is_word b) _ _ (IsStep name_rest (name_state Root l t) b)
    (λ e. record {
      to = λ c h. ⊎_elim (λ n. cc) (λ w. (elements_head Word Free b c w).1) h;
      from = λ c h. inr (elements_from Word Free b c e h);
      some = goes_on_some Word Free;
    })
    (λ e. λ c h. ⊎_elim (λ n. cc) (λ w. false≢true (sym e ∙ (elements_head Word Free b c w).0)) h)
name_moves_at BusStart l t b =
    cond_both (eqb b 58) _ _ (IsStep name_rest (name_state BusStart l t) b)
    (λ e. bus_unique b (eqb-true b 58 e))
    (λ n. cond_both (is_dashed_start b) _ _ (IsStep name_rest (name_state BusStart l t) b)
    (λ e. bus_known b (eqb-false b 58 n) e)
    (λ e. λ c h. ⊎_elim (λ w. eqb-false b 58 n w.0) (λ w. false≢true (sym e ∙ w.0)) (bus_at b c h)))
name_moves_at First l t b =
    cond_both (begins l b) _ _ (IsStep name_rest (name_state First l t) b)
    (λ e. elements_move l t b e)
    (λ e. λ c h. false≢true (sym e ∙ (elements_head l t b c h).0))
name_moves_at More l t b =
    cond_both (goes_on l b) _ _ (IsStep name_rest (name_state More l t) b)
    (λ e. goes_on_more l t b e)
    (λ n. cond_both (eqb b (separator l)) _ _ (IsStep name_rest (name_state More l t) b)
    (λ e. goes_on_past l t b n (eqb-true b (separator l) e))
    (λ e. λ c h. ⊎_elim (λ w. false≢true (sym n ∙ w.0)) (λ w. eqb-false b (separator l) e w.0) (goes_on_head l t b c h)))

pub name_moves : (s : NameScan) (b : ℕ) → IsStep name_rest s b (name_next s b)
name_moves s b = name_moves_at s.place s.letters s.tail b

element_nil : (start more : ℕ → Bool) (e r : List ℕ) → IsElement start more e → [] ≡ e ++ r → ⊥
element_nil start more [] r h e = h
element_nil start more (x ∷ run) r h e = cc

goes_on_nil_at : (l : Letters) (t : Tail) (run : List ℕ) (others : List (List ℕ)) → MayFollow t others → [] ≡ run ++ each_after (separator l) others → may_end t ≡ true
goes_on_nil_at l Needed [] [] m e = absurd m
goes_on_nil_at l Needed [] (f ∷ others) m e = cc
goes_on_nil_at l Needed (x ∷ run) others m e = cc
goes_on_nil_at l _ run others m e = refl

pub goes_on_end : (l : Letters) (t : Tail) → may_end t ≡ true → GoesOn l t []
goes_on_end l Needed e = absurd (false≢true e)
goes_on_end l _ e = record { run = []; others = []; run_is = tt; others_are = tt; follow = tt; spelled = refl }

path_nil : IsPath [] → ⊥
path_nil h = ⊎_elim (λ e. cc) (λ w. cc) h

bus_nil : IsBusName [] → ⊥
bus_nil h = ⊎_elim (λ w. cc) (λ w. element_nil is_dashed_start is_dashed w.0 _ w.3.0 w.4) h

pub name_ended_at : (p : Place) (l : Letters) (t : Tail) → name_rest_at p l t [] → name_end_at p l t ≡ true
name_ended_at PathStart l t h = absurd (path_nil h)
name_ended_at Root l t h = refl
name_ended_at BusStart l t h = absurd (bus_nil h)
name_ended_at First l t h = absurd (element_nil (begins l) (goes_on l) h.first _ h.first_is h.spelled)
name_ended_at More l t h = goes_on_nil_at l t h.run h.others h.follow h.spelled

pub name_ends_at : (p : Place) (l : Letters) (t : Tail) → name_end_at p l t ≡ true → name_rest_at p l t []
name_ends_at Root l t e = inl refl
name_ends_at More l t e = goes_on_end l t e
name_ends_at _ l t e = absurd (false≢true e)

-- where each kind begins
pub member_elements : (c : List ℕ) → IsMember c → Elements Name Alone c
member_elements c h = record { first = c; others = []; first_is = h; others_are = tt; follow = tt; spelled = sym (append-nil c) }

elements_member_at : (c first : List ℕ) (others : List (List ℕ)) → IsElement (begins Name) (goes_on Name) first → MayFollow Alone others → c ≡ first ++ each_after 46 others → IsMember c
elements_member_at c first [] f m e = subst IsMember (sym (e ∙ append-nil first)) f
elements_member_at c first (g ∷ others) f m e = absurd m

pub elements_member : (c : List ℕ) → Elements Name Alone c → IsMember c
elements_member c h = elements_member_at c h.first h.others h.first_is h.follow h.spelled

pub interface_elements : (c : List ℕ) → IsInterface c → Elements Name Needed c
interface_elements c h = joined_elements Name c refl h

pub elements_interface : (c : List ℕ) → Elements Name Needed c → IsInterface c
elements_interface c h = elements_joined Name c refl h

pub path_some : (c : List ℕ) × IsPath c
path_some = (47 ∷ [], inl refl)

pub bus_some : (c : List ℕ) × IsBusName c
bus_some =
    let w = elements_some WellKnown Needed in
    (w.0, inr (elements_joined WellKnown w.0 refl w.1))

pub member_some : (c : List ℕ) × IsMember c
member_some =
    let w = elements_some Name Alone in
    (w.0, elements_member w.0 w.1)

pub interface_some : (c : List ℕ) × IsInterface c
interface_some =
    let w = elements_some Name Needed in
    (w.0, elements_interface w.0 w.1)

-- The types that one byte spells.

pub number_is_basic : (n : NumberCode) → is_basic_code (number_code n) ≡ true
number_is_basic BYTE = refl
number_is_basic _ = refl

pub text_is_basic : (t : TextCode) → is_basic_code (text_code t) ≡ true
text_is_basic STRING = refl
text_is_basic _ = refl

pub basic_is_code : (b : ℕ) → is_basic_code b ≡ true → is_type_code b ≡ true
basic_is_code b e = ap (λ x. x || eqb b 118) e

pub number_is_code : (n : NumberCode) → is_type_code (number_code n) ≡ true
number_is_code n = basic_is_code (number_code n) (number_is_basic n)

pub text_is_code : (t : TextCode) → is_type_code (text_code t) ≡ true
text_is_code t = basic_is_code (text_code t) (text_is_basic t)

pub either : (x y : Bool) → (x || y) ≡ true → (x ≡ true) ⊎ (y ≡ true)
either true y e = inl refl
either false y e = inr e

-- a basic type that the byte spells
abbrev pub Basic : ℕ → Type 0
Basic b = (t : TypeTree) × (sig t ≡ b ∷ []) × IsBasic t

basic_at : (b n : ℕ) (t : TypeTree) → sig t ≡ n ∷ [] → IsBasic t → eqb b n ≡ true → Basic b
basic_at b n t e h q = (t, e ∙ ap (λ x. x ∷ []) (sym (eqb-true b n q)), h)

or_basic : (b n : ℕ) (t : TypeTree) (others : Bool) → (others ≡ true → Basic b) → sig t ≡ n ∷ [] → IsBasic t → (others || eqb b n) ≡ true → Basic b
or_basic b n t others f e h q = ⊎_elim f (λ w. basic_at b n t e h w) (either others (eqb b n) q)

pub basic_type : (b : ℕ) → is_basic_code b ≡ true → Basic b
basic_type b =
    or_basic b 103 (TextType SIGNATURE) _
    (or_basic b 111 (TextType OBJECT_PATH) _
    (or_basic b 115 (TextType STRING) _
    (or_basic b 104 (NumberType UNIX_FD) _
    (or_basic b 100 (NumberType DOUBLE) _
    (or_basic b 116 (NumberType UINT64) _
    (or_basic b 120 (NumberType INT64) _
    (or_basic b 117 (NumberType UINT32) _
    (or_basic b 105 (NumberType INT32) _
    (or_basic b 113 (NumberType UINT16) _
    (or_basic b 110 (NumberType INT16) _
    (or_basic b 98 (NumberType BOOLEAN) _
    (basic_at b 121 (NumberType BYTE) refl tt)
    refl tt) refl tt) refl tt) refl tt) refl tt) refl tt) refl tt) refl tt) refl tt) refl tt) refl tt) refl tt

basic_complete : (t : TypeTree) → IsBasic t → (inside : Bool) (arrays structs : ℕ) → IsComplete t inside arrays structs
basic_complete (NumberType n) h inside a s = tt
basic_complete (TextType n) h inside a s = tt
basic_complete _ h inside a s = absurd h

-- a complete type that the byte spells
abbrev pub Coded : ℕ → Type 0
Coded b = (t : TypeTree) × (sig t ≡ b ∷ []) × ((inside : Bool) (arrays structs : ℕ) → IsComplete t inside arrays structs)

pub code_type : (b : ℕ) → is_type_code b ≡ true → Coded b
code_type b e =
    ⊎_elim
    (λ w. let t = basic_type b w in (t.0, t.1, λ inside a s. basic_complete t.0 t.2 inside a s))
    (λ w. (VariantType, ap (λ x. x ∷ []) (sym (eqb-true b 118 w)), λ inside a s. tt))
    (either (is_basic_code b) (eqb b 118) e)

one_byte : (w : List ℕ) → length w ≡ 1 → w ≡ get_or w 0 0 ∷ []
one_byte [] e = absurd (omega (arith, e))
one_byte (b ∷ []) e = refl
one_byte (b ∷ c ∷ w) e = absurd (omega (arith, e))

pub coded_single : (w : List ℕ) → length w ≡ 1 → is_type_code (get_or w 0 0) ≡ true → IsSingle w
coded_single w one e = let t = code_type (get_or w 0 0) e in (t.0, t.2 false 0 0, one_byte w one ∙ sym t.1)

pub coded_signature : (w : List ℕ) → length w ≡ 1 → is_type_code (get_or w 0 0) ≡ true → IsSignature w
coded_signature w one e = let t = code_type (get_or w 0 0) e in (MoreTypes t.0 NoTypes, (t.2 false 0 0, tt), one_byte w one ∙ sym t.1 ∙ sym (append-nil (sig t.0)))

-- an array of a code
pub array_single : (w : List ℕ) → length w ≡ 2 → get_or w 0 0 ≡ 97 → is_type_code (get_or w 1 0) ≡ true → IsSingle w
array_single [] long a code = absurd (omega arith)
array_single (x ∷ []) long a code = absurd (omega arith)
array_single (x ∷ b ∷ []) long a code =
    let t = code_type b code in
    (ArrayType t.0, (omega arith, t.2 true 1 0), ap (λ y. y ∷ b ∷ []) a ∙ ap (λ l. 97 ∷ l) (sym t.1))
array_single (x ∷ b ∷ c ∷ w) long a code = absurd (omega arith)

-- a struct of two codes
pub pair_single : (w : List ℕ) → length w ≡ 4 → get_or w 0 0 ≡ 40 → is_type_code (get_or w 1 0) ≡ true → is_type_code (get_or w 2 0) ≡ true → get_or w 3 0 ≡ 41 → IsSingle w
pair_single [] long opens first second closes = absurd (omega arith)
pair_single (x ∷ []) long opens first second closes = absurd (omega arith)
pair_single (x ∷ b ∷ []) long opens first second closes = absurd (omega arith)
pair_single (x ∷ b ∷ c ∷ []) long opens first second closes = absurd (omega arith)
pair_single (x ∷ b ∷ c ∷ y ∷ []) long opens first second closes =
    let t = code_type b first in
    let u = code_type c second in
    let spelled : sig (StructType (MoreTypes t.0 (MoreTypes u.0 NoTypes))) ≡ 40 ∷ b ∷ c ∷ 41 ∷ [] = ap₂ (λ (p q : List ℕ). 40 ∷ ((p ++ (q ++ [])) ++ 41 ∷ [])) t.1 u.1 in
    (StructType (MoreTypes t.0 (MoreTypes u.0 NoTypes)), (omega arith, tt, (t.2 false 0 1, (u.2 false 0 1, tt))), ap₂ (λ (p q : ℕ). p ∷ b ∷ c ∷ q ∷ []) opens closes ∙ sym spelled)
pair_single (x ∷ b ∷ c ∷ y ∷ z ∷ w) long opens first second closes = absurd (omega arith)

-- an array of dict entries of two codes
pub entries_single : (w : List ℕ) → length w ≡ 5 → get_or w 0 0 ≡ 97 → get_or w 1 0 ≡ 123 → is_basic_code (get_or w 2 0) ≡ true → is_type_code (get_or w 3 0) ≡ true → get_or w 4 0 ≡ 125 → IsSingle w
entries_single [] long a opens key value closes = absurd (omega arith)
entries_single (x ∷ []) long a opens key value closes = absurd (omega arith)
entries_single (x ∷ o ∷ []) long a opens key value closes = absurd (omega arith)
entries_single (x ∷ o ∷ b ∷ []) long a opens key value closes = absurd (omega arith)
entries_single (x ∷ o ∷ b ∷ c ∷ []) long a opens key value closes = absurd (omega arith)
entries_single (x ∷ o ∷ b ∷ c ∷ y ∷ []) long a opens key value closes =
    let k = basic_type b key in
    let v = code_type c value in
    let spelled : sig (ArrayType (EntryType k.0 v.0)) ≡ 97 ∷ 123 ∷ b ∷ c ∷ 125 ∷ [] = ap₂ (λ (p q : List ℕ). 97 ∷ 123 ∷ (p ++ (q ++ 125 ∷ []))) k.1 v.1 in
    let begun : x ∷ o ∷ b ∷ c ∷ y ∷ [] ≡ 97 ∷ 123 ∷ b ∷ c ∷ y ∷ [] = ap₂ (λ (p q : ℕ). p ∷ q ∷ b ∷ c ∷ y ∷ []) a opens in
    (ArrayType (EntryType k.0 v.0), (omega arith, (refl, k.2, v.2 false 1 0)), begun ∙ ap (λ (q : ℕ). 97 ∷ 123 ∷ b ∷ c ∷ q ∷ []) closes ∙ sym spelled)
entries_single (x ∷ o ∷ b ∷ c ∷ y ∷ z ∷ w) long a opens key value closes = absurd (omega arith)

-- the signature of one type
pub signature_of : (w : List ℕ) → IsSingle w → IsSignature w
signature_of w h = (MoreTypes h.0 NoTypes, (h.1, tt), h.2 ∙ sym (append-nil (sig h.0)))
