-- The steps of a scan of any kind.
use Rattle.std.proofs.Common.{ℕ, List, [], ◌∷◌, ◌++◌, sym, subst, append_assoc, append-nil, ◌≡◌, Bool, true, false, Option, Some, None, ap, ◌∙◌, ◌↔◌, IsTrue, ◌+◌, ◌<◌, ◌≤◌, length, get_or, take, drop, refl, arith, take-append-drop}
use Rattle.std.proofs.lemmas.List.{take_more, take_all, take-take}
use Rattle.dbus_texts.specs.Kinds.{IsPrefixIn, IsPath, IsMember, IsInterface, IsBusName, IsSignature, IsSingle, IsBreakIn}
use Rattle.dbus_texts.specs.Quotients.{IsQuotient, Moves, IsStepFrom, Steps, IsBreakFrom}
use Rattle.dbus_texts.specs.declared.names.Letters.TheVariants.{Word, Name, Unique}
use Rattle.dbus_texts.specs.declared.names.Tail.TheVariants.{Alone, Needed, Free}
use Rattle.dbus_texts.specs.declared.names.Place.TheVariants.{PathStart, BusStart, First}
use Rattle.dbus_texts.specs.declared.names.NameScan.{NameScan}
use Rattle.dbus_texts.specs.declared.signature.SigScan.{SigScan}
use Rattle.dbus_texts.specs.declared.scan.ScanState.{ScanState}
use Rattle.dbus_texts.proofs.NameSteps.{name_ended_at, name_ends_at, member_elements, elements_member, interface_elements, elements_interface, path_some, bus_some, member_some, interface_some}
use Rattle.dbus_texts.proofs.SignatureSteps.{sig_moves, sig_ended_at, sig_ends_at, single_start, signature_some, single_some}
use Rattle.dbus_texts.specs.NameScans.{name_rest, name_end, name_state, Elements}
use Rattle.dbus_texts.specs.SignatureScans.{SigState, sig_rest, sig_next, sig_end}
use Rattle.dbus_texts.specs.SigViews.{sig_view, sig_start, Follows}
use Rattle.dbus_texts.specs.Scans.{state_rest}
use Rattle.dbus_texts.proofs.Runs.{break_along}

-- What may follow a text, one byte further.

pub quotient_start : (L : List ℕ → Type 0) → (c : List ℕ) × L c → IsQuotient L [] L
quotient_start L some = record { to = λ c h. h; from = λ c h. h; some = some }

pub quotient_push : (L : List ℕ → Type 0) (w : List ℕ) (R : List ℕ → Type 0) (b : ℕ) (R' : List ℕ → Type 0) → IsQuotient L w R → Moves R b R' → IsQuotient L (w ++ b ∷ []) R'
quotient_push L w R b R' q m =
    record {
      to = λ c h. m.to c (q.to (b ∷ c) (subst L (append_assoc w (b ∷ []) c) h));
      from = λ c h. subst L (sym (append_assoc w (b ∷ []) c)) (q.from (b ∷ c) (m.from c h));
      some = m.some;
    }

pub quotient_prefix : (L : List ℕ → Type 0) (w : List ℕ) (R : List ℕ → Type 0) → IsQuotient L w R → IsPrefixIn L w
quotient_prefix L w R q = (q.some.0, q.from q.some.0 q.some.1)

pub quotient_dead : (L : List ℕ → Type 0) (w : List ℕ) (R : List ℕ → Type 0) (b : ℕ) → IsQuotient L w R → ((c : List ℕ) → R (b ∷ c) → ⊥) → IsPrefixIn L (w ++ b ∷ []) → ⊥
quotient_dead L w R b q dead p = dead p.0 (q.to (b ∷ p.0) (subst L (append_assoc w (b ∷ []) p.0) p.1))

pub quotient_ends : (L : List ℕ → Type 0) (w : List ℕ) (R : List ℕ → Type 0) → IsQuotient L w R → R [] → L w
quotient_ends L w R q h = subst L (append-nil w) (q.from [] h)

pub quotient_ended : (L : List ℕ → Type 0) (w : List ℕ) (R : List ℕ → Type 0) → IsQuotient L w R → L w → R []
quotient_ended L w R q h = q.to [] (subst L (sym (append-nil w)) h)

pub quotient_from : (L R : List ℕ → Type 0) → ((c : List ℕ) → L c → R c) → ((c : List ℕ) → R c → L c) → (c : List ℕ) × L c → IsQuotient L [] R
quotient_from L R to from some = record { to = to; from = from; some = (some.0, to some.0 some.1) }

-- a step that the automaton has, and one that it has not
pub step_some : {S : Type 0} (Rest : S → List ℕ → Type 0) (R : List ℕ → Type 0) (b : ℕ) (o : Option S) (t : S) → IsStepFrom Rest R b o → Some t ≡ o → Moves R b (Rest t)
step_some Rest R b o t h e = subst (λ x. IsStepFrom Rest R b x) (sym e) h

pub step_none : {S : Type 0} (Rest : S → List ℕ → Type 0) (R : List ℕ → Type 0) (b : ℕ) (o : Option S) → IsStepFrom Rest R b o → None ≡ o → (c : List ℕ) → R (b ∷ c) → ⊥
step_none Rest R b o h e = subst (λ x. IsStepFrom Rest R b x) (sym e) h

-- a step of one of the scans is one of the state
pub state_steps : {S : Type 0} (make : S → ScanState) (x : ScanState) (s t : S) (b : ℕ) (moved : Bool) → x ≡ make s → Steps (λ u c. state_rest (make u) c) s b moved t → Steps state_rest x b moved (make t)
state_steps make x s t b moved i h = subst (λ y. Steps state_rest y b moved (make t)) (sym i) (go moved h)
  where
    go : (m : Bool) → Steps (λ u c. state_rest (make u) c) s b m t → Steps state_rest (make s) b m (make t)
    go true k = k
    go false k = (k.0, ap make k.1)

pub signature_steps : (s t : SigScan) (b : ℕ) (moved : Bool) → Follows s moved t (sig_next (sig_view s) b) → Steps (λ u c. sig_rest (sig_view u) c) s b moved t
signature_steps s t b moved f = go (sig_next (sig_view s) b) (sig_moves (sig_view s) b) f
  where
    go : (o : Option SigState) → IsStepFrom sig_rest (sig_rest (sig_view s)) b o → Follows s moved t o → Steps (λ u c. sig_rest (sig_view u) c) s b moved t
    go None h g = subst (λ m. Steps (λ u c. sig_rest (sig_view u) c) s b m t) (sym g.0) (h, g.1)
    go (Some u) h g =
        let same : sig_view t ≡ u = g.1 in
        subst (λ m. Steps (λ u c. sig_rest (sig_view u) c) s b m t) (sym g.0) (subst (λ v. Moves (sig_rest (sig_view s)) b (sig_rest v)) (sym same) h)

-- the end
pub name_at_end : (n : NameScan) (r : Bool) → r ≡ name_end n → IsTrue r ↔ name_rest n []
name_at_end n r e = (λ t. name_ends_at n.place n.letters n.tail (sym e ∙ t), λ h. e ∙ name_ended_at n.place n.letters n.tail h)

pub signature_at_end : (s : SigScan) (r : Bool) → r ≡ sig_end (sig_view s) → IsTrue r ↔ sig_rest (sig_view s) []
signature_at_end s r e = (λ t. sig_ends_at s.single s.place s.arrays s.structs s.frames.items (sym e ∙ t), λ h. e ∙ sig_ended_at s.single s.place s.arrays s.structs s.frames.items h)

-- the start
pub path_starts : IsQuotient IsPath [] (name_rest (name_state PathStart Word Free))
path_starts = quotient_start IsPath path_some

pub interface_starts : IsQuotient IsInterface [] (name_rest (name_state First Name Needed))
interface_starts = quotient_from IsInterface (Elements Name Needed) interface_elements elements_interface interface_some

pub member_starts : IsQuotient IsMember [] (name_rest (name_state First Name Alone))
member_starts = quotient_from IsMember (Elements Name Alone) member_elements elements_member member_some

pub bus_starts : IsQuotient IsBusName [] (name_rest (name_state BusStart Unique Needed))
bus_starts = quotient_start IsBusName bus_some

pub signature_starts : IsQuotient IsSignature [] (sig_rest (sig_start false))
signature_starts = quotient_start IsSignature signature_some

pub single_starts : IsQuotient IsSingle [] (sig_rest (sig_start true))
single_starts = quotient_from IsSingle (sig_rest (sig_start true)) (λ c h. (single_start c).0 h) (λ c h. (single_start c).1 h) single_some

-- The longest prefix of a text with which some text of a set begins.

pub prefix_closed : (L : List ℕ → Type 0) (w v : List ℕ) → IsPrefixIn L (w ++ v) → IsPrefixIn L w
prefix_closed L w v h = (v ++ h.0, subst L (append_assoc w v h.0) h.1)

prefix_self : (L : List ℕ → Type 0) (w : List ℕ) → L w → IsPrefixIn L w
prefix_self L w h = ([], subst L (sym (append-nil w)) h)

-- the prefix of a longer prefix
prefix_less : (L : List ℕ → Type 0) (w : List ℕ) (n m : ℕ) → n ≤ m → IsPrefixIn L (take m w) → IsPrefixIn L (take n w)
prefix_less L w n m l h =
    let split = take-append-drop n (take m w) in
    subst (λ v. IsPrefixIn L v) (take-take n m w l) (prefix_closed L (take n (take m w)) (drop n (take m w)) (subst (λ v. IsPrefixIn L v) (sym split) h))

pub break_within : (L : List ℕ → Type 0) (w : List ℕ) (i b : ℕ) → i < length w → b ≡ get_or w i 0 → IsPrefixIn L (take i w) → (IsPrefixIn L (take i w ++ b ∷ []) → ⊥) → (L w → ⊥) × IsBreakIn L w i
break_within L w i b l e p n =
    let more : take (i + 1) w ≡ take i w ++ b ∷ [] = take_more w i 0 l ∙ ap (λ x. take i w ++ x ∷ []) (sym e) in
    let stop : (m : ℕ) → i < m → m ≤ length w → IsPrefixIn L (take m w) → ⊥ = λ m h k q. n (subst (λ v. IsPrefixIn L v) more (prefix_less L w (i + 1) m (omega arith) q)) in (
      λ h. stop (length w) l (omega arith) (subst (λ v. IsPrefixIn L v) (sym (take_all (length w) w (omega arith))) (prefix_self L w h)),
      record { within = omega arith; front = p; longest = stop },
    )

pub break_at_end : (L : List ℕ → Type 0) (w : List ℕ) → IsPrefixIn L w → (L w → ⊥) → (L w → ⊥) × IsBreakIn L w (length w)
break_at_end L w p n =
    (n, record { within = omega arith; front = subst (λ v. IsPrefixIn L v) (sym (take_all (length w) w (omega arith))) p; longest = λ m h k q. absurd (omega arith) })

-- a scan that stands at a prefix refuses the next byte
pub front_refuses : {S : Type 0} (Rest : S → List ℕ → Type 0) (L : List ℕ → Type 0) (w : List ℕ) (i : ℕ) (s t : S) (r : Bool) → IsQuotient L (take i w) (Rest s) → i < length w → Steps Rest s (get_or w i 0) r t → r ≡ false → (L w → ⊥) × IsBreakIn L w i
front_refuses Rest L w i s t r q l m e =
    let dead = (subst (λ x. Steps Rest s (get_or w i 0) x t) e m).0 in
    break_within L w i (get_or w i 0) l refl (quotient_prefix L (take i w) (Rest s) q) (quotient_dead L (take i w) (Rest s) (get_or w i 0) q dead)

-- or takes it
pub front_takes : {S : Type 0} (Rest : S → List ℕ → Type 0) (L : List ℕ → Type 0) (w : List ℕ) (i : ℕ) (s t : S) (r : Bool) → IsQuotient L (take i w) (Rest s) → i < length w → Steps Rest s (get_or w i 0) r t → r ≡ true → IsQuotient L (take (i + 1) w) (Rest t)
front_takes Rest L w i s t r q l m e =
    subst (λ v. IsQuotient L v (Rest t)) (sym (take_more w i 0 l)) (quotient_push L (take i w) (Rest s) (get_or w i 0) (Rest t) q (subst (λ x. Steps Rest s (get_or w i 0) x t) e m))

-- a scan that stands at the whole text, which may not end there
pub front_stops : (L : List ℕ → Type 0) (w : List ℕ) (R : List ℕ → Type 0) (i : ℕ) → IsQuotient L (take i w) R → length w ≤ i → (R [] → ⊥) → (L w → ⊥) × IsBreakIn L w (length w)
front_stops L w R i q l n =
    let p = subst (λ v. IsQuotient L v R) (take_all i w l) q in
    break_at_end L w (quotient_prefix L w R p) (λ h. n (quotient_ended L w R p h))

-- or may
pub front_ends : (L : List ℕ → Type 0) (w : List ℕ) (R : List ℕ → Type 0) (i : ℕ) → IsQuotient L (take i w) R → length w ≤ i → R [] → L w
front_ends L w R i q l h = quotient_ends L w R (subst (λ v. IsQuotient L v R) (take_all i w l) q) h

-- what begins a text of the set breaks as the text does
pub break_from : (L R : List ℕ → Type 0) (w : List ℕ) (o : Option ℕ) → IsQuotient L [] R → IsBreakFrom R w o → IsBreakFrom L w o
break_from L R w None q h = q.from w h
break_from L R w (Some at) q h = (λ l. h.0 (q.to w l), break_along R L w at q.from q.to h.1)

-- a text of the kind breaks at its end
pub break_of_whole : (L : List ℕ → Type 0) (w : List ℕ) → L w → IsBreakIn L w (length w)
break_of_whole L w h =
    record {
      within = omega arith;
      front = subst (λ v. IsPrefixIn L v) (sym (take_all (length w) w (omega arith))) (prefix_self L w h);
      longest = λ m l k q. absurd (omega arith);
    }
