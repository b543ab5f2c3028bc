-- What may follow in each state, and that the reading takes exactly that.
use Rattle.std.proofs.Common.{◌≡◌, ℕ, ◌+◌, Bool, true, false, eqb, List, [], ◌∷◌, ◌++◌, refl, sym, ap, ◌∙◌, subst}
use Rattle.std.specs.Prelude.{Option, Some, None, if◌then◌else◌}
use Rattle.std.specs.List.{AllByRecursion}
use Rattle.std.proofs.lemmas.Bool.{cond_both, cond-true, cond-false, eqb-true, false≢true}
use Rattle.dbus_address.specs.declared.scan.AddressState.{AddressState}
use Rattle.dbus_address.specs.declared.scan.AddressState.TheVariants.{Start, Transport, Pairs, KeyStart, Key, Value, High, Low}
use Rattle.dbus_address.specs.Bytes.{is_plain, is_hex}
use Rattle.dbus_address.specs.Addresses.{Piece, plain, escaped, IsPiece, pieces_then, SpelledPair, SpelledAddress, IsName, IsSpelledPair, IsSpelledAddress, pair_then, more_pairs_then, pairs_then, address_then, more_addresses}
use Rattle.dbus_address.specs.Scans.{next_state, on_state, fault_in, scan}

abbrev pub ArePlain : List ℕ → Type 0
ArePlain w = AllByRecursion (λ b. is_plain b ≡ true) w

-- what comes first: the rest of a name, or digits
abbrev pub IsFirst : AddressState → List ℕ → Type 0
IsFirst Start x = IsName x
IsFirst Transport x = ArePlain x
IsFirst Pairs x = Unit {0}
IsFirst KeyStart x = IsName x
IsFirst Key x = ArePlain x
IsFirst Value x = Unit {0}
IsFirst High (h ∷ l ∷ []) = (is_hex h ≡ true) × (is_hex l ≡ true)
IsFirst High x = ⊥
IsFirst Low (l ∷ []) = is_hex l ≡ true
IsFirst Low x = ⊥

abbrev pub text_in : AddressState → List ℕ → List Piece → List SpelledPair → List SpelledAddress → List ℕ
text_in Start x v ps more = x ++ 58 ∷ pairs_then ps (more_addresses more)
text_in Transport x v ps more = x ++ 58 ∷ pairs_then ps (more_addresses more)
text_in Pairs x v ps more = pairs_then ps (more_addresses more)
text_in KeyStart x v ps more = x ++ 61 ∷ pieces_then v (more_pairs_then ps (more_addresses more))
text_in Key x v ps more = x ++ 61 ∷ pieces_then v (more_pairs_then ps (more_addresses more))
text_in Value x v ps more = pieces_then v (more_pairs_then ps (more_addresses more))
text_in High x v ps more = x ++ pieces_then v (more_pairs_then ps (more_addresses more))
text_in Low x v ps more = x ++ pieces_then v (more_pairs_then ps (more_addresses more))

-- a text that may follow
pub record Rest (s : AddressState) (w : List ℕ) : Type 0 where
  pub first : List ℕ
  pub pieces : List Piece
  pub pairs : List SpelledPair
  pub more : List SpelledAddress
  pub first_is : IsFirst s first
  pub pieces_are : AllByRecursion IsPiece pieces
  pub pairs_are : AllByRecursion IsSpelledPair pairs
  pub more_are : AllByRecursion IsSpelledAddress more
  pub spelled : w ≡ text_in s first pieces pairs more

-- ---- one byte more

abbrev pub OnState : Option AddressState → (AddressState → Type 0) → Type 0
OnState None P = Unit {0}
OnState (Some t) P = P t

abbrev pub Step : AddressState → ℕ → List ℕ → Option AddressState → Type 0
Step s b c o = OnState o (λ t. Rest t c → Rest s (b ∷ c))

grown : (b : ℕ) (c x y : List ℕ) → c ≡ x ++ y → b ∷ c ≡ (b ∷ x) ++ y
grown b c x y e = ap (λ z. b ∷ z) e

byte_is : (b d : ℕ) (c x : List ℕ) → eqb b d ≡ true → c ≡ x → b ∷ c ≡ d ∷ x
byte_is b d c x e f = ap (λ z. z ∷ c) (eqb-true b d e) ∙ ap (λ z. d ∷ z) f

two_digits : (b : ℕ) (x : List ℕ) → is_hex b ≡ true → IsFirst Low x → IsFirst High (b ∷ x)
two_digits b [] e h = absurd h
two_digits b (l ∷ []) e h = (e, h)
two_digits b (l ∷ m ∷ x) e h = absurd h

after_percent : (x w : List ℕ) (v : List Piece) (ps : List SpelledPair) (more : List SpelledAddress) → IsFirst High x → AllByRecursion IsPiece v → AllByRecursion IsSpelledPair ps → AllByRecursion IsSpelledAddress more → w ≡ text_in High x v ps more → Rest Value (37 ∷ w)
after_percent [] w v ps more f p q m e = absurd f
after_percent (h ∷ []) w v ps more f p q m e = absurd f
after_percent (h ∷ l ∷ []) w v ps more f p q m e = record { first = []; pieces = escaped h l ∷ v; pairs = ps; more = more; first_is = tt; pieces_are = (f, p); pairs_are = q; more_are = m; spelled = ap (λ z. 37 ∷ z) e }
after_percent (h ∷ l ∷ k ∷ x) w v ps more f p q m e = absurd f

name_more : (b : ℕ) (x : List ℕ) → is_plain b ≡ true → ArePlain x → IsName (b ∷ x)
name_more b x e h = (e, h)

pub step : (s : AddressState) (b : ℕ) (c : List ℕ) → Step s b c (next_state s b)
step Start b c =
    cond_both (is_plain b) _ _ (Step Start b c)
    (λ e r. record { first = b ∷ r.first; pieces = []; pairs = r.pairs; more = r.more; first_is = (e, r.first_is); pieces_are = tt; pairs_are = r.pairs_are; more_are = r.more_are; spelled = ap (λ z. b ∷ z) r.spelled })
    (λ e. tt)
step Transport b c =
    cond_both (eqb b 58) _ _ (Step Transport b c)
    (λ e r. record { first = []; pieces = []; pairs = r.pairs; more = r.more; first_is = tt; pieces_are = tt; pairs_are = r.pairs_are; more_are = r.more_are; spelled = byte_is b 58 c _ e r.spelled })
    (λ d. cond_both (is_plain b) _ _ (Step Transport b c)
    (λ e r. record { first = b ∷ r.first; pieces = []; pairs = r.pairs; more = r.more; first_is = (e, r.first_is); pieces_are = tt; pairs_are = r.pairs_are; more_are = r.more_are; spelled = ap (λ z. b ∷ z) r.spelled })
    (λ e. tt))
step Pairs b c =
    cond_both (eqb b 59) _ _ (Step Pairs b c)
    (λ e r. record { first = []; pieces = []; pairs = []; more = record { transport = r.first; pairs = r.pairs } ∷ r.more; first_is = tt; pieces_are = tt; pairs_are = tt; more_are = ((r.first_is, r.pairs_are), r.more_are); spelled = byte_is b 59 c _ e r.spelled })
    (λ d. cond_both (is_plain b) _ _ (Step Pairs b c)
    (λ e r. record { first = []; pieces = []; pairs = record { key = b ∷ r.first; pieces = r.pieces } ∷ r.pairs; more = r.more; first_is = tt; pieces_are = tt; pairs_are = (((e, r.first_is), r.pieces_are), r.pairs_are); more_are = r.more_are; spelled = ap (λ z. b ∷ z) r.spelled })
    (λ e. tt))
step KeyStart b c =
    cond_both (is_plain b) _ _ (Step KeyStart b c)
    (λ e r. record { first = b ∷ r.first; pieces = r.pieces; pairs = r.pairs; more = r.more; first_is = (e, r.first_is); pieces_are = r.pieces_are; pairs_are = r.pairs_are; more_are = r.more_are; spelled = ap (λ z. b ∷ z) r.spelled })
    (λ e. tt)
step Key b c =
    cond_both (eqb b 61) _ _ (Step Key b c)
    (λ e r. record { first = []; pieces = r.pieces; pairs = r.pairs; more = r.more; first_is = tt; pieces_are = r.pieces_are; pairs_are = r.pairs_are; more_are = r.more_are; spelled = byte_is b 61 c _ e r.spelled })
    (λ d. cond_both (is_plain b) _ _ (Step Key b c)
    (λ e r. record { first = b ∷ r.first; pieces = r.pieces; pairs = r.pairs; more = r.more; first_is = (e, r.first_is); pieces_are = r.pieces_are; pairs_are = r.pairs_are; more_are = r.more_are; spelled = ap (λ z. b ∷ z) r.spelled })
    (λ e. tt))
step Value b c =
    cond_both (eqb b 37) _ _ (Step Value b c)
    (λ e r. subst (λ z. Rest Value (z ∷ c)) (sym (eqb-true b 37 e)) (after_percent r.first c r.pieces r.pairs r.more r.first_is r.pieces_are r.pairs_are r.more_are r.spelled))
    (λ d. cond_both (eqb b 44) _ _ (Step Value b c)
    (λ e r. record { first = []; pieces = []; pairs = record { key = r.first; pieces = r.pieces } ∷ r.pairs; more = r.more; first_is = tt; pieces_are = tt; pairs_are = ((r.first_is, r.pieces_are), r.pairs_are); more_are = r.more_are; spelled = byte_is b 44 c _ e r.spelled })
    (λ d. cond_both (eqb b 59) _ _ (Step Value b c)
    (λ e r. record { first = []; pieces = []; pairs = []; more = record { transport = r.first; pairs = r.pairs } ∷ r.more; first_is = tt; pieces_are = tt; pairs_are = tt; more_are = ((r.first_is, r.pairs_are), r.more_are); spelled = byte_is b 59 c _ e r.spelled })
    (λ d. cond_both (is_plain b) _ _ (Step Value b c)
    (λ e r. record { first = []; pieces = plain b ∷ r.pieces; pairs = r.pairs; more = r.more; first_is = tt; pieces_are = (e, r.pieces_are); pairs_are = r.pairs_are; more_are = r.more_are; spelled = ap (λ z. b ∷ z) r.spelled })
    (λ e. tt))))
step High b c =
    cond_both (is_hex b) _ _ (Step High b c)
    (λ e r. record { first = b ∷ r.first; pieces = r.pieces; pairs = r.pairs; more = r.more; first_is = two_digits b r.first e r.first_is; pieces_are = r.pieces_are; pairs_are = r.pairs_are; more_are = r.more_are; spelled = ap (λ z. b ∷ z) r.spelled })
    (λ e. tt)
step Low b c =
    cond_both (is_hex b) _ _ (Step Low b c)
    (λ e r. record { first = b ∷ []; pieces = r.pieces; pairs = r.pairs; more = r.more; first_is = e; pieces_are = r.pieces_are; pairs_are = r.pairs_are; more_are = r.more_are; spelled = ap (λ z. b ∷ z) r.spelled })
    (λ e. tt)

-- ---- what is read may follow

pub some_none : {X : Type 0} (x : X) → Some x ≡ None → ⊥
some_none x h = cc

at_end : (s : AddressState) (n : ℕ) → scan s n [] ≡ None → Rest s []
at_end Start n h = absurd (some_none _ h)
at_end Transport n h = absurd (some_none _ h)
at_end Pairs n h = record { first = []; pieces = []; pairs = []; more = []; first_is = tt; pieces_are = tt; pairs_are = tt; more_are = tt; spelled = refl }
at_end KeyStart n h = absurd (some_none _ h)
at_end Key n h = absurd (some_none _ h)
at_end Value n h = record { first = []; pieces = []; pairs = []; more = []; first_is = tt; pieces_are = tt; pairs_are = tt; more_are = tt; spelled = refl }
at_end High n h = absurd (some_none _ h)
at_end Low n h = absurd (some_none _ h)

goes_on : (s : AddressState) (n b : ℕ) (c : List ℕ) (o : Option AddressState) → Step s b c o → ((t : AddressState) → scan t (n + 1) c ≡ None → Rest t c) → on_state o (fault_in s n) (λ t. scan t (n + 1) c) ≡ None → Rest s (b ∷ c)
goes_on s n b c None f k h = absurd (some_none _ h)
goes_on s n b c (Some t) f k h = f (k t h)

pub read_follows : (s : AddressState) (n : ℕ) (w : List ℕ) → scan s n w ≡ None → Rest s w
read_follows s n [] h = at_end s n h
read_follows s n (b ∷ c) h = goes_on s n b c (next_state s b) (step s b c) (λ t. read_follows t (n + 1) c) h

-- ---- what may follow is read

abbrev pub Accepts : AddressState → List ℕ → Type 0
Accepts s w = (n : ℕ) → scan s n w ≡ None

-- a byte that may stand unescaped is none of the others
pub not_plain : (b d : ℕ) → is_plain d ≡ false → is_plain b ≡ true → eqb b d ≡ false
not_plain b d f h = go (eqb b d) refl
  where
    go : (t : Bool) → eqb b d ≡ t → eqb b d ≡ false
    go true e = absurd (false≢true (sym f ∙ ap is_plain (sym (eqb-true b d e)) ∙ h))
    go false e = e

takes : (s t : AddressState) (b : ℕ) (c : List ℕ) → next_state s b ≡ Some t → Accepts t c → Accepts s (b ∷ c)
takes s t b c e h = λ n. ap (λ o. on_state o (fault_in s n) (λ t. scan t (n + 1) c)) e ∙ h (n + 1)

if_plain : (b : ℕ) (t : AddressState) → is_plain b ≡ true → (if is_plain b then Some t else None) ≡ Some t
if_plain b t h = cond-true (is_plain b) (Some t) None h

if_hex : (b : ℕ) (t : AddressState) → is_hex b ≡ true → (if is_hex b then Some t else None) ≡ Some t
if_hex b t h = cond-true (is_hex b) (Some t) None h

in_transport : (x r : List ℕ) → ArePlain x → Accepts Pairs r → Accepts Transport (x ++ 58 ∷ r)
in_transport [] r h k = takes Transport Pairs 58 r refl k
in_transport (b ∷ x) r h k = takes Transport Transport b (x ++ 58 ∷ r) (cond-false (eqb b 58) _ _ (not_plain b 58 refl h.0) ∙ if_plain b Transport h.0) (in_transport x r h.1 k)

from_start : (x r : List ℕ) → IsName x → Accepts Pairs r → Accepts Start (x ++ 58 ∷ r)
from_start [] r h k = absurd h
from_start (b ∷ x) r h k = takes Start Transport b (x ++ 58 ∷ r) (if_plain b Transport h.0) (in_transport x r h.1 k)

in_key : (x r : List ℕ) → ArePlain x → Accepts Value r → Accepts Key (x ++ 61 ∷ r)
in_key [] r h k = takes Key Value 61 r refl k
in_key (b ∷ x) r h k = takes Key Key b (x ++ 61 ∷ r) (cond-false (eqb b 61) _ _ (not_plain b 61 refl h.0) ∙ if_plain b Key h.0) (in_key x r h.1 k)

from_comma : (x r : List ℕ) → IsName x → Accepts Value r → Accepts KeyStart (x ++ 61 ∷ r)
from_comma [] r h k = absurd h
from_comma (b ∷ x) r h k = takes KeyStart Key b (x ++ 61 ∷ r) (if_plain b Key h.0) (in_key x r h.1 k)

from_colon : (x r : List ℕ) → IsName x → Accepts Value r → Accepts Pairs (x ++ 61 ∷ r)
from_colon [] r h k = absurd h
from_colon (b ∷ x) r h k = takes Pairs Key b (x ++ 61 ∷ r) (cond-false (eqb b 59) _ _ (not_plain b 59 refl h.0) ∙ if_plain b Key h.0) (in_key x r h.1 k)

in_value : (v : List Piece) (r : List ℕ) → AllByRecursion IsPiece v → Accepts Value r → Accepts Value (pieces_then v r)
in_value [] r h k = k
in_value (plain b ∷ v) r h k = takes Value Value b (pieces_then v r) (cond-false (eqb b 37) _ _ (not_plain b 37 refl h.0) ∙ cond-false (eqb b 44) _ _ (not_plain b 44 refl h.0) ∙ cond-false (eqb b 59) _ _ (not_plain b 59 refl h.0) ∙ if_plain b Value h.0) (in_value v r h.1 k)
in_value (escaped d l ∷ v) r h k = takes Value High 37 (d ∷ l ∷ pieces_then v r) refl (takes High Low d (l ∷ pieces_then v r) (if_hex d Low h.0.0) (takes Low Value l (pieces_then v r) (if_hex l Value h.0.1) (in_value v r h.1 k)))

in_more_pairs : (ps : List SpelledPair) (r : List ℕ) → AllByRecursion IsSpelledPair ps → Accepts Value r → Accepts Value (more_pairs_then ps r)
in_more_pairs [] r h k = k
in_more_pairs (p ∷ ps) r h k = takes Value KeyStart 44 (pair_then p (more_pairs_then ps r)) refl (from_comma p.key (pieces_then p.pieces (more_pairs_then ps r)) h.0.0 (in_value p.pieces (more_pairs_then ps r) h.0.1 (in_more_pairs ps r h.1 k)))

in_pairs : (ps : List SpelledPair) (r : List ℕ) → AllByRecursion IsSpelledPair ps → Accepts Value r → Accepts Pairs r → Accepts Pairs (pairs_then ps r)
in_pairs [] r h k m = m
in_pairs (p ∷ ps) r h k m = from_colon p.key (pieces_then p.pieces (more_pairs_then ps r)) h.0.0 (in_value p.pieces (more_pairs_then ps r) h.0.1 (in_more_pairs ps r h.1 k))

-- further addresses may follow a value, and a colon
pub in_more : (more : List SpelledAddress) → AllByRecursion IsSpelledAddress more → Accepts Value (more_addresses more) × Accepts Pairs (more_addresses more)
in_more [] h = (λ n. refl, λ n. refl)
in_more (a ∷ more) h =
    let k = in_more more h.1 in
    let x = from_start a.transport (pairs_then a.pairs (more_addresses more)) h.0.0 (in_pairs a.pairs (more_addresses more) h.0.1 k.0 k.1) in
    (takes Value Start 59 (address_then a (more_addresses more)) refl x, takes Pairs Start 59 (address_then a (more_addresses more)) refl x)

digits_first : (s t : AddressState) (x r : List ℕ) → ⊥ → Accepts s (x ++ r)
digits_first s t x r h = absurd h

in_low : (x r : List ℕ) → IsFirst Low x → Accepts Value r → Accepts Low (x ++ r)
in_low [] r h k = absurd h
in_low (l ∷ []) r h k = takes Low Value l r (if_hex l Value h) k
in_low (l ∷ m ∷ x) r h k = absurd h

in_high : (x r : List ℕ) → IsFirst High x → Accepts Value r → Accepts High (x ++ r)
in_high [] r h k = absurd h
in_high (d ∷ []) r h k = absurd h
in_high (d ∷ l ∷ []) r h k = takes High Low d (l ∷ r) (if_hex d Low h.0) (takes Low Value l r (if_hex l Value h.1) k)
in_high (d ∷ l ∷ m ∷ x) r h k = absurd h

follows_text : (s : AddressState) (x : List ℕ) (v : List Piece) (ps : List SpelledPair) (more : List SpelledAddress) → IsFirst s x → AllByRecursion IsPiece v → AllByRecursion IsSpelledPair ps → AllByRecursion IsSpelledAddress more → Accepts s (text_in s x v ps more)
follows_text Start x v ps more f p q m = let k = in_more more m in from_start x _ f (in_pairs ps _ q k.0 k.1)
follows_text Transport x v ps more f p q m = let k = in_more more m in in_transport x _ f (in_pairs ps _ q k.0 k.1)
follows_text Pairs x v ps more f p q m = let k = in_more more m in in_pairs ps _ q k.0 k.1
follows_text KeyStart x v ps more f p q m = from_comma x _ f (in_value v _ p (in_more_pairs ps _ q (in_more more m).0))
follows_text Key x v ps more f p q m = in_key x _ f (in_value v _ p (in_more_pairs ps _ q (in_more more m).0))
follows_text Value x v ps more f p q m = in_value v _ p (in_more_pairs ps _ q (in_more more m).0)
follows_text High x v ps more f p q m = in_high x _ f (in_value v _ p (in_more_pairs ps _ q (in_more more m).0))
follows_text Low x v ps more f p q m = in_low x _ f (in_value v _ p (in_more_pairs ps _ q (in_more more m).0))

pub follows_read : (s : AddressState) (w : List ℕ) → Rest s w → Accepts s w
follows_read s w h = subst (λ z. Accepts s z) (sym h.spelled) (follows_text s h.first h.pieces h.pairs h.more h.first_is h.pieces_are h.pairs_are h.more_are)
