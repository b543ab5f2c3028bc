-- The first flaw that the reading of the parts finds is the text's.
use Rattle.std.proofs.Common.{◌≡◌, ℕ, suc, ◌+◌, Bool, true, false, eqb, ◌<◌, ◌≤◌, List, [], ◌∷◌, length, take, map, refl, sym, ap, ◌∙◌, subst, arith}
use Rattle.std.specs.Prelude.{Option, Some, None, is_some, if◌then◌else◌}
use Rattle.std.specs.List.{AllByRecursion}
use Rattle.dbus_address.specs.declared.fault.AddressFault.{AddressFault}
use Rattle.dbus_address.specs.declared.fault.AddressReason.{AddressReason}
use Rattle.dbus_address.specs.Addresses.{SpelledAddress, IsSpelledAddress, Address, address_of, address_then, more_addresses, SpellsAddresses}
use Rattle.dbus_address.specs.Flaws.{flaw}
use Rattle.dbus_address.specs.Parts.{before, after, parts, address_in}
use Rattle.dbus_address.specs.declared.fault.AddressReason.TheVariants.{TooLong}
use Rattle.dbus_address.specs.declared.scan.AddressState.TheVariants.{Start}
use Rattle.dbus_address.specs.Written.{written, AreAddresses}
use Rattle.dbus_address.specs.Scans.{flaw_or, first_flaw, scan}
use Rattle.dbus_address.specs.Faults.{ADDRESS_LIMIT, IsSound, HasFlawAt, each_then, each_length, IsFault, is_long, breaks, has_flaw, IsTaken, BreaksAt, Wants, IsSpelled}
use Rattle.dbus_address.specs.Views.{IsAnswer}
use Rattle.dbus_address.proofs.Rests.{some_none}
use Rattle.dbus_address.proofs.Unique.{ends_more, one_address}
use Rattle.dbus_address.proofs.Parts.{address_is, last_part, next_part, are_parts}
use Rattle.dbus_address.proofs.Faults.{breaks_at, no_break, one_break, one_reason}
use Rattle.dbus_address.proofs.Written.{written_spells}
use Rattle.std.proofs.lemmas.Bool.{false≢true}

-- the bytes of a part and of what is after it, with the mark
abbrev pub length_left : Option (List ℕ) → ℕ
length_left None = 0
length_left (Some w) = suc (length w)

pub cut_length : (d : ℕ) (w : List ℕ) → length (before d w) + length_left (after d w) ≡ length w
cut_length d [] = refl
cut_length d (b ∷ c) = go (eqb b d) (cut_length d c)
  where
    go : (t : Bool) → length (before d c) + length_left (after d c) ≡ length c → length (if t then [] else b ∷ before d c) + length_left (if t then Some c else after d c) ≡ suc (length c)
    go true h = omega arith
    go false h = omega (arith, h)

-- ---- what the reading finds

abbrev text : SpelledAddress → List ℕ
text a = address_then a []

abbrev place_of : Option AddressFault → ℕ
place_of None = 0
place_of (Some e) = e.at

abbrev reason_of : AddressReason → Option AddressFault → AddressReason
reason_of r None = r
reason_of r (Some e) = e.reason

flaw_here : (n : ℕ) (w : List ℕ) (more : List (List ℕ)) (a : SpelledAddress) → address_in w ≡ address_of a → first_flaw n (w ∷ more) ≡ flaw_or (flaw (address_of a)) n (first_flaw ((n + length w) + 1) more)
flaw_here n w more a e = ap (λ x. flaw_or (flaw x) n (first_flaw ((n + length w) + 1) more)) e

abbrev Finds : ℕ → List ℕ → AddressFault → Type 0
Finds n w e = (k : ℕ) × ((e.at ≡ n + k) × HasFlawAt w e.reason k)

-- the first address has the flaw, or it is sound and the rest has it
found_first : (n : ℕ) (a : SpelledAddress) (m : List SpelledAddress) (next : Option AddressFault) (e : AddressFault) → IsSpelledAddress a → AllByRecursion IsSpelledAddress m → flaw_or (flaw (address_of a)) n next ≡ Some e → (IsSound a → next ≡ Some e → Finds n (address_then a (more_addresses m)) e) → Finds n (address_then a (more_addresses m)) e
found_first n a m next e p q h f = go (flaw (address_of a)) refl h
  where
    go : (o : Option AddressReason) → flaw (address_of a) ≡ o → flaw_or o n next ≡ Some e → Finds n (address_then a (more_addresses m)) e
    go None d h = f d h
    go (Some r) d h =
        let x = ap place_of h in
        (0, (omega (arith, x), record { before = []; bad = a; after = m; before_are = tt; bad_is = p; after_are = q; spelled = refl; place = refl; sound = tt; flawed = d ∙ ap Some (ap (reason_of r) h) }))

found_later : (n : ℕ) (a b : SpelledAddress) (m : List SpelledAddress) (e : AddressFault) → IsSpelledAddress a → IsSound a → Finds ((n + length (text a)) + 1) (address_then b (more_addresses m)) e → Finds n (address_then a (more_addresses (b ∷ m))) e
found_later n a b m e p s f =
    let x = f.1.0 in
    let g = f.1.1 in
    ((length (text a) + 1) + f.0, (omega (arith, x), record { before = a ∷ g.before; bad = g.bad; after = g.after; before_are = (p, g.before_are); bad_is = g.bad_is; after_are = g.after_are; spelled = ap (λ z. address_then a (59 ∷ z)) g.spelled; place = ap (λ z. (length (text a) + 1) + z) g.place; sound = (s, g.sound); flawed = g.flawed }))

found : (n : ℕ) (a : SpelledAddress) (m : List SpelledAddress) (e : AddressFault) → IsSpelledAddress a → AllByRecursion IsSpelledAddress m → first_flaw n (parts 59 (address_then a (more_addresses m))) ≡ Some e → Finds n (address_then a (more_addresses m)) e
found n a [] e p q h =
    found_first n a [] None e p q (sym (ap (first_flaw n) (last_part a p) ∙ flaw_here n (text a) [] a (address_is a p)) ∙ h) (λ s d. absurd (some_none e (sym d)))
found n a (b ∷ m) e p q h =
    let ps = parts 59 (address_then b (more_addresses m)) in
    found_first n a (b ∷ m) (first_flaw ((n + length (text a)) + 1) ps) e p q (sym (ap (first_flaw n) (next_part a (address_then b (more_addresses m)) p) ∙ flaw_here n (text a) ps a (address_is a p)) ∙ h) (λ s d. found_later n a b m e p s (found ((n + length (text a)) + 1) b m e q.0 q.1 d))

sound_first : (n : ℕ) (a : SpelledAddress) (next : Option AddressFault) → flaw_or (flaw (address_of a)) n next ≡ None → IsSound a × (next ≡ None)
sound_first n a next h = go (flaw (address_of a)) h
  where
    go : (o : Option AddressReason) → flaw_or o n next ≡ None → (o ≡ None) × (next ≡ None)
    go None h = (refl, h)
    go (Some r) h = absurd (some_none _ h)

all_sound : (n : ℕ) (a : SpelledAddress) (m : List SpelledAddress) → IsSpelledAddress a → AllByRecursion IsSpelledAddress m → first_flaw n (parts 59 (address_then a (more_addresses m))) ≡ None → IsSound a × AllByRecursion IsSound m
all_sound n a [] p q h =
    ((sound_first n a None (sym (ap (first_flaw n) (last_part a p) ∙ flaw_here n (text a) [] a (address_is a p)) ∙ h)).0, tt)
all_sound n a (b ∷ m) p q h =
    let ps = parts 59 (address_then b (more_addresses m)) in
    let s = sound_first n a (first_flaw ((n + length (text a)) + 1) ps) (sym (ap (first_flaw n) (next_part a (address_then b (more_addresses m)) p) ∙ flaw_here n (text a) ps a (address_is a p)) ∙ h) in
    (s.0, all_sound ((n + length (text a)) + 1) b m q.0 q.1 s.1)

sound_map : (m : List SpelledAddress) → AllByRecursion IsSound m → AllByRecursion (λ a. flaw a ≡ None) (map address_of m)
sound_map [] h = tt
sound_map (a ∷ m) h = (h.0, sound_map m h.1)

map_sound : (m : List SpelledAddress) → AllByRecursion (λ a. flaw a ≡ None) (map address_of m) → AllByRecursion IsSound m
map_sound [] h = tt
map_sound (a ∷ m) h = (h.0, map_sound m h.1)

pub answer : (w : List ℕ) (o : Option AddressFault) → length w ≤ ADDRESS_LIMIT → IsSpelled w → o ≡ first_flaw 0 (parts 59 w) → IsAnswer w o
answer w None l s e =
    let h = s.1 in
    let k = all_sound 0 h.first h.more h.first_is h.more_are (ap (λ z. first_flaw 0 (parts 59 z)) (sym h.spelled) ∙ sym e) in
    let x = are_parts w s.0 h in
    record { short = l; spelled = subst (λ z. SpellsAddresses w z) x h; sound = subst (λ z. AllByRecursion (λ a. flaw a ≡ None) z) (sym h.meant ∙ x) (sound_map (h.first ∷ h.more) k) }
answer w (Some e) l s d =
    let h = s.1 in
    let f = found 0 h.first h.more e h.first_is h.more_are (ap (λ z. first_flaw 0 (parts 59 z)) (sym h.spelled) ∙ sym d) in
    let a : f.0 ≡ e.at = let q = f.1.0 in omega (arith, q) in
    has_flaw l (subst (λ n. HasFlawAt w e.reason n) a (subst (λ z. HasFlawAt z e.reason f.0) (sym h.spelled) f.1.1))

pub is_long_answer : (w : List ℕ) (o : Option AddressFault) → ADDRESS_LIMIT < length w → o ≡ Some (record { at = ADDRESS_LIMIT; reason = TooLong }) → IsAnswer w o
is_long_answer w o l e = subst (λ o. IsAnswer w o) (sym e) (is_long l refl refl)

pub broken_answer : (w : List ℕ) (o : Option AddressFault) → length w ≤ ADDRESS_LIMIT → o ≡ scan Start 0 w → is_some o ≡ true → IsAnswer w o
broken_answer w None l e h = absurd (false≢true h)
broken_answer w (Some f) l e h = let b = breaks_at w f (sym e) in breaks l b.0 b.1

pub flaw_answer : (w : List ℕ) (o p : Option AddressFault) → length w ≤ ADDRESS_LIMIT → p ≡ scan Start 0 w → is_some p ≡ false → o ≡ first_flaw 0 (parts 59 w) → IsAnswer w o
flaw_answer w o None l e h f = answer w o l (no_break w (sym e)) f
flaw_answer w o (Some x) l e h f = absurd (false≢true (sym h))

-- what is written is taken as the addresses, or refused
pub written_answer : (w : List ℕ) (a : List Address) → AreAddresses a → w ≡ written a → IsAnswer w None → IsTaken w a
written_answer w a h e t = subst (λ z. IsTaken w z) (sym (are_parts w a (subst (λ z. SpellsAddresses z a) (sym e) (written_spells a h)))) t

pub written_fault : (w : List ℕ) (a : List Address) (e : AddressFault) → w ≡ written a → IsAnswer w (Some e) → IsFault (written a) e.reason e.at
written_fault w a e h f = subst (λ z. IsFault z e.reason e.at) h f

-- ---- one flaw, and none in a text that is taken

one_flaw : (x y : List SpelledAddress) (a b : SpelledAddress) (m n : List SpelledAddress) (r s : AddressReason) → AllByRecursion IsSpelledAddress x → AllByRecursion IsSpelledAddress y → IsSpelledAddress a → IsSpelledAddress b → AllByRecursion IsSound x → AllByRecursion IsSound y → flaw (address_of a) ≡ Some r → flaw (address_of b) ≡ Some s → each_then x (address_then a (more_addresses m)) ≡ each_then y (address_then b (more_addresses n)) → (r ≡ s) × (each_length x ≡ each_length y)
one_flaw [] [] a b m n r s p q i j u v f g e =
    let o = one_address a b (more_addresses m) (more_addresses n) i j (ends_more m) (ends_more n) e in
    (ap (reason_in r) (sym f ∙ ap (λ z. flaw (address_of z)) o.0 ∙ g), refl)
  where
    reason_in : AddressReason → Option AddressReason → AddressReason
    reason_in r None = r
    reason_in r (Some s) = s
one_flaw [] (c ∷ y) a b m n r s p q i j u v f g e =
    let o = one_address a c (more_addresses m) (59 ∷ each_then y (address_then b (more_addresses n))) i q.0 (ends_more m) refl e in
    absurd (some_none r (sym f ∙ ap (λ z. flaw (address_of z)) o.0 ∙ v.0))
one_flaw (c ∷ x) [] a b m n r s p q i j u v f g e =
    let o = one_address c b (59 ∷ each_then x (address_then a (more_addresses m))) (more_addresses n) p.0 j refl (ends_more n) e in
    absurd (some_none s (sym g ∙ ap (λ z. flaw (address_of z)) (sym o.0) ∙ u.0))
one_flaw (c ∷ x) (d ∷ y) a b m n r s p q i j u v f g e =
    let o = one_address c d (59 ∷ each_then x (address_then a (more_addresses m))) (59 ∷ each_then y (address_then b (more_addresses n))) p.0 q.0 refl refl e in
    let t : each_then x (address_then a (more_addresses m)) ≡ each_then y (address_then b (more_addresses n)) = let z = o.1 in cc in
    let k = one_flaw x y a b m n r s p.1 q.1 i j u.1 v.1 f g t in
    (k.0, ap (λ z. (length (text z) + 1) + each_length x) o.0 ∙ ap (λ z. (length (text d) + 1) + z) k.1)

no_flaw : (x : List SpelledAddress) (a b : SpelledAddress) (m n : List SpelledAddress) (r : AddressReason) → AllByRecursion IsSpelledAddress x → IsSpelledAddress a → IsSpelledAddress b → AllByRecursion IsSpelledAddress n → flaw (address_of a) ≡ Some r → IsSound b → AllByRecursion IsSound n → each_then x (address_then a (more_addresses m)) ≡ address_then b (more_addresses n) → ⊥
no_flaw [] a b m n r p i j k f u v e =
    let o = one_address a b (more_addresses m) (more_addresses n) i j (ends_more m) (ends_more n) e in
    some_none r (sym f ∙ ap (λ z. flaw (address_of z)) o.0 ∙ u)
no_flaw (c ∷ x) a b m [] r p i j k f u v e =
    let o = one_address c b (59 ∷ each_then x (address_then a (more_addresses m))) [] p.0 j refl tt e in
    let z = o.1 in cc
no_flaw (c ∷ x) a b m (d ∷ n) r p i j k f u v e =
    let o = one_address c b (59 ∷ each_then x (address_then a (more_addresses m))) (more_addresses (d ∷ n)) p.0 j refl refl e in
    let t : each_then x (address_then a (more_addresses m)) ≡ address_then d (more_addresses n) = let z = o.1 in cc in
    no_flaw x a d m n r p.1 i k.0 k.1 f v.0 v.1 t

flaw_spelled : (w : List ℕ) (r : AddressReason) (at : ℕ) → HasFlawAt w r at → IsSpelled w
flaw_spelled w r at h = go h.before h.before_are w h.spelled
  where
    -- addresses, and then one and further ones
    go : (x : List SpelledAddress) → AllByRecursion IsSpelledAddress x → (w : List ℕ) → w ≡ each_then x (address_then h.bad (more_addresses h.after)) → IsSpelled w
    go [] p w e = (_, record { first = h.bad; more = h.after; first_is = h.bad_is; more_are = h.after_are; spelled = e; meant = refl })
    go (c ∷ x) p w e =
        let k = (go x p.1 (each_then x (address_then h.bad (more_addresses h.after))) refl).1 in
        (_, record { first = c; more = k.first ∷ k.more; first_is = p.0; more_are = (k.first_is, k.more_are); spelled = e ∙ ap (λ z. address_then c (59 ∷ z)) k.spelled; meant = refl })

-- ---- the laws

two_flaws : (w : List ℕ) (r s : AddressReason) (m n : ℕ) → HasFlawAt w r m → HasFlawAt w s n → (r ≡ s) × (m ≡ n)
two_flaws w r s m n h k =
    let o = one_flaw h.before k.before h.bad k.bad h.after k.after r s h.before_are k.before_are h.bad_is k.bad_is h.sound k.sound h.flawed k.flawed (sym h.spelled ∙ k.spelled) in
    (o.0, h.place ∙ o.1 ∙ sym k.place)

two_breaks : (w : List ℕ) (r s : AddressReason) (m n : ℕ) → BreaksAt w m → Wants IsSpelled r (take m w) → BreaksAt w n → Wants IsSpelled s (take n w) → (r ≡ s) × (m ≡ n)
two_breaks w r s m n h p k q =
    let e = one_break w m n h k in
    (one_reason (take m w) r s h.begins p (subst (λ z. Wants IsSpelled s (take z w)) (sym e) q), e)

pub one_fault : (w : List ℕ) (r s : AddressReason) (m n : ℕ) → IsFault w r m → IsFault w s n → (r ≡ s) × (m ≡ n)
one_fault w r s m n (is_long l d e) (is_long k f g) = (d ∙ sym f, e ∙ sym g)
one_fault w r s m n (is_long l d e) (breaks k f g) = absurd (omega (arith, l, k))
one_fault w r s m n (is_long l d e) (has_flaw k f) = absurd (omega (arith, l, k))
one_fault w r s m n (breaks l d e) (is_long k f g) = absurd (omega (arith, l, k))
one_fault w r s m n (breaks l d e) (breaks k f g) = two_breaks w r s m n d e f g
one_fault w r s m n (breaks l d e) (has_flaw k f) = absurd (d.none (flaw_spelled w s n f))
one_fault w r s m n (has_flaw l d) (is_long k f g) = absurd (omega (arith, l, k))
one_fault w r s m n (has_flaw l d) (breaks k f g) = absurd (f.none (flaw_spelled w r m d))
one_fault w r s m n (has_flaw l d) (has_flaw k f) = two_flaws w r s m n d f

pub not_both : (w : List ℕ) (x : List Address) (r : AddressReason) (m : ℕ) → IsTaken w x → IsFault w r m → ⊥
not_both w x r m t (is_long l d e) = let k = t.short in omega (arith, l, k)
not_both w x r m t (breaks l d e) = d.none (x, t.spelled)
not_both w x r m t (has_flaw l d) =
    let h = t.spelled in
    let s = map_sound (h.first ∷ h.more) (subst (λ z. AllByRecursion (λ a. flaw a ≡ None) z) h.meant t.sound) in
    no_flaw d.before d.bad h.first d.after h.more r d.before_are d.bad_is h.first_is h.more_are d.flawed s.0 s.1 (sym d.spelled ∙ h.spelled)
