-- A text that is not read to its end breaks at the one place, for the one reason, that the reading gives.
use Rattle.std.proofs.Common.{◌≡◌, ℕ, suc, ◌+◌, ◌<◌, ◌≤◌, List, [], ◌∷◌, ◌++◌, length, take, refl, sym, ap, ◌∙◌, subst, arith, add-one, zero, append_assoc}
use Rattle.std.specs.Prelude.{Option, Some, None}
use Rattle.dbus_address.specs.declared.scan.AddressState.{AddressState}
use Rattle.dbus_address.specs.declared.scan.AddressState.TheVariants.{Start, Transport, Pairs, KeyStart, Key, Value, High, Low}
use Rattle.dbus_address.specs.declared.fault.AddressFault.{AddressFault}
use Rattle.dbus_address.specs.declared.fault.AddressReason.{AddressReason}
use Rattle.dbus_address.specs.declared.fault.AddressReason.TheVariants as reason
use Rattle.dbus_address.specs.Scans.{next_state, on_state, reason_in, fault_in, scan}
use Rattle.dbus_address.specs.Faults.{IsSpelled, IsBeginning, BreaksAt, Wants}
use Rattle.dbus_address.proofs.Rests.{Rest, Step, step, read_follows, follows_read, some_none}

abbrev pub Begins : AddressState → List ℕ → Type 0
Begins s w = (c : List ℕ) × Rest s (w ++ c)

-- ---- one byte more

byte_read : (s t : AddressState) (b : ℕ) (x : List ℕ) → next_state s b ≡ Some t → Rest t x → Rest s (b ∷ x)
byte_read s t b x q r = let st : Step s b x (Some t) = subst (λ o. Step s b x o) q (step s b x) in st r

byte_gone : (s t : AddressState) (b : ℕ) (x : List ℕ) → next_state s b ≡ Some t → Rest s (b ∷ x) → Rest t x
byte_gone s t b x q r =
    read_follows t (0 + 1) x (sym (ap (λ o. on_state o (fault_in s 0) (λ t. scan t (0 + 1) x)) q) ∙ follows_read s (b ∷ x) r 0)

no_byte : (s : AddressState) (b : ℕ) (x : List ℕ) → next_state s b ≡ None → Rest s (b ∷ x) → ⊥
no_byte s b x q r =
    some_none _ (sym (ap (λ o. on_state o (fault_in s 0) (λ t. scan t (0 + 1) x)) q) ∙ follows_read s (b ∷ x) r 0)

-- ---- each state leads to an end, by what is wanted in it

abbrev wanted_text : AddressReason → List ℕ
wanted_text reason.Transport = 45 ∷ 58 ∷ []
wanted_text reason.Key = 45 ∷ 61 ∷ []
wanted_text reason.Value = 45 ∷ []
wanted_text reason.Escape = 48 ∷ 48 ∷ []
wanted_text reason.TooLong = []
wanted_text reason.KeyTwice = []
wanted_text reason.Guid = []

live : (s : AddressState) → Rest s (wanted_text (reason_in s))
live Start = read_follows Start 0 (45 ∷ 58 ∷ []) refl
live Transport = read_follows Transport 0 (45 ∷ 58 ∷ []) refl
live Pairs = read_follows Pairs 0 (45 ∷ 61 ∷ []) refl
live KeyStart = read_follows KeyStart 0 (45 ∷ 61 ∷ []) refl
live Key = read_follows Key 0 (45 ∷ 61 ∷ []) refl
live Value = read_follows Value 0 (45 ∷ []) refl
live High = read_follows High 0 (48 ∷ 48 ∷ []) refl
live Low = read_follows Low 0 (48 ∷ 48 ∷ []) refl

wants : (s : AddressState) → Wants (Rest s) (reason_in s) []
wants Start = live Start
wants Transport = live Transport
wants Pairs = live Pairs
wants KeyStart = live KeyStart
wants Key = live Key
wants Value = live Value
wants High = λ c. no_byte High 45 c refl
wants Low = λ c. no_byte Low 45 c refl

-- what is wanted, of other texts that go on alike
wants_alike : (P Q : List ℕ → Type 0) (u v : List ℕ) → ((x : List ℕ) → P (u ++ x) → Q (v ++ x)) → ((x : List ℕ) → Q (v ++ x) → P (u ++ x)) → (r : AddressReason) → Wants P r u → Wants Q r v
wants_alike P Q u v f g reason.Transport h = f (45 ∷ 58 ∷ []) h
wants_alike P Q u v f g reason.Key h = f (45 ∷ 61 ∷ []) h
wants_alike P Q u v f g reason.Value h = f (45 ∷ []) h
wants_alike P Q u v f g reason.Escape h = λ c z. h c (g (45 ∷ c) z)
wants_alike P Q u v f g reason.TooLong h = h
wants_alike P Q u v f g reason.KeyTwice h = h
wants_alike P Q u v f g reason.Guid h = h

-- ---- where the reading stops

record Breaks (s : AddressState) (w : List ℕ) (k : ℕ) (r : AddressReason) : Type 0 where
  none : Rest s w → ⊥
  within : k ≤ length w
  begins : Begins s (take k w)
  stops : k < length w → Begins s (take (suc k) w) → ⊥
  wanted : Wants (Rest s) r (take k w)

not_read : (s : AddressState) (n : ℕ) (w : List ℕ) (e : AddressFault) → scan s n w ≡ Some e → Rest s w → ⊥
not_read s n w e h r = some_none e (sym h ∙ follows_read s w r n)

abbrev place_of : Option AddressFault → ℕ
place_of None = 0
place_of (Some e) = e.at

abbrev reason_of : Option AddressFault → AddressReason
reason_of None = reason.TooLong
reason_of (Some e) = e.reason

end_fault : (s : AddressState) (n : ℕ) (e : AddressFault) → scan s n [] ≡ Some e → fault_in s n ≡ Some e
end_fault Start n e h = h
end_fault Transport n e h = h
end_fault Pairs n e h = absurd (some_none e (sym h))
end_fault KeyStart n e h = h
end_fault Key n e h = h
end_fault Value n e h = absurd (some_none e (sym h))
end_fault High n e h = h
end_fault Low n e h = h

abbrev BreaksFrom : AddressState → ℕ → List ℕ → AddressFault → Type 0
BreaksFrom s n w e = (k : ℕ) × ((e.at ≡ n + k) × Breaks s w k e.reason)

at_once : (s : AddressState) (n : ℕ) (w : List ℕ) (e : AddressFault) → scan s n w ≡ Some e → fault_in s n ≡ Some e → (0 < length w → Begins s (take 1 w) → ⊥) → BreaksFrom s n w e
at_once s n w e h p f =
    let a = ap place_of p in (
      0,
      (
        omega (arith, a),
        record {
          none = not_read s n w e h;
          within = omega arith;
          begins = (wanted_text (reason_in s), live s);
          stops = f;
          wanted = subst (λ r. Wants (Rest s) r []) (ap reason_of p) (wants s);
        },
      ),
    )

later : (s t : AddressState) (n b : ℕ) (c : List ℕ) (e : AddressFault) → scan s n (b ∷ c) ≡ Some e → next_state s b ≡ Some t → BreaksFrom t (n + 1) c e → BreaksFrom s n (b ∷ c) e
later s t n b c e h q f =
    let k = f.0 in
    let a = f.1.0 in
    let g = f.1.1 in
    let w = g.within in (
      suc k,
      (
        omega (arith, a),
        record {
          none = not_read s n (b ∷ c) e h;
          within = omega (arith, w);
          begins = (g.begins.0, byte_read s t b (take k c ++ g.begins.0) q g.begins.1);
          stops = λ l z. g.stops (omega (arith, l)) (z.0, byte_gone s t b (take (suc k) c ++ z.0) q z.1);
          wanted = wants_alike (Rest t) (Rest s) (take k c) (b ∷ take k c) (λ x. byte_read s t b (take k c ++ x) q) (λ x. byte_gone s t b (take k c ++ x) q) e.reason g.wanted;
        },
      ),
    )

breaks_on : (s : AddressState) (n b : ℕ) (c : List ℕ) (e : AddressFault) → scan s n (b ∷ c) ≡ Some e → (o : Option AddressState) → next_state s b ≡ o → ((t : AddressState) → scan t (n + 1) c ≡ Some e → BreaksFrom t (n + 1) c e) → BreaksFrom s n (b ∷ c) e
breaks_on s n b c e h None q f =
    at_once s n (b ∷ c) e h (sym (ap (λ o. on_state o (fault_in s n) (λ t. scan t (n + 1) c)) q) ∙ h) (λ l z. no_byte s b z.0 q z.1)
breaks_on s n b c e h (Some t) q f = later s t n b c e h q (f t (sym (ap (λ o. on_state o (fault_in s n) (λ t. scan t (n + 1) c)) q) ∙ h))

breaks : (s : AddressState) (n : ℕ) (w : List ℕ) (e : AddressFault) → scan s n w ≡ Some e → BreaksFrom s n w e
breaks s n [] e h = at_once s n [] e h (end_fault s n e h) (λ l z. omega (arith, l))
breaks s n (b ∷ c) e h = breaks_on s n b c e h (next_state s b) refl (λ t. breaks t (n + 1) c e)

-- ---- the whole text

pub spelled_rest : (w : List ℕ) → IsSpelled w → Rest Start w
spelled_rest w h = record { first = h.1.first.transport; pieces = []; pairs = h.1.first.pairs; more = h.1.more; first_is = h.1.first_is.0; pieces_are = tt; pairs_are = h.1.first_is.1; more_are = h.1.more_are; spelled = h.1.spelled }

pub rest_spelled : (w : List ℕ) → Rest Start w → IsSpelled w
rest_spelled w r = (_, record { first = record { transport = r.first; pairs = r.pairs }; more = r.more; first_is = (r.first_is, r.pairs_are); more_are = r.more_are; spelled = r.spelled; meant = refl })

pub breaks_at : (w : List ℕ) (e : AddressFault) → scan Start 0 w ≡ Some e → BreaksAt w e.at × Wants IsSpelled e.reason (take e.at w)
breaks_at w e h =
    let f = breaks Start 0 w e h in
    let a : f.0 ≡ e.at = let q = f.1.0 in omega (arith, q) in
    let u = take f.0 w in
    subst (λ n. BreaksAt w n × Wants IsSpelled e.reason (take n w)) a (
      record {
        none = λ s. f.1.1.none (spelled_rest w s);
        within = f.1.1.within;
        begins = (f.1.1.begins.0, rest_spelled _ f.1.1.begins.1);
        stops = λ l z. f.1.1.stops l (subst (λ n. Begins Start (take n w)) (add-one f.0) (z.0, spelled_rest _ z.1));
      },
      wants_alike (Rest Start) IsSpelled u u (λ x. rest_spelled (u ++ x)) (λ x. spelled_rest (u ++ x)) e.reason f.1.1.wanted,
    )

pub no_break : (w : List ℕ) → scan Start 0 w ≡ None → IsSpelled w
no_break w h = rest_spelled w (read_follows Start 0 w h)

-- ---- one place

begun : (m n : ℕ) (w : List ℕ) → m ≤ n → (x : List ℕ) × (take n w ≡ take m w ++ x)
begun zero n w l = (take n w, refl)
begun (suc m) zero w l = absurd (omega (arith, l))
begun (suc m) (suc n) [] l = ([], refl)
begun (suc m) (suc n) (b ∷ w) l = let h = begun m n w (omega (arith, l)) in (h.0, ap (λ z. b ∷ z) h.1)

-- what begins a beginning is one
beginning : (w x : List ℕ) → IsBeginning (w ++ x) → IsBeginning w
beginning w x h = (x ++ h.0, subst (λ z. IsSpelled z) (append_assoc w x h.0) h.1)

not_before : (w : List ℕ) (m n : ℕ) → BreaksAt w m → BreaksAt w n → m < n → ⊥
not_before w m n h k l =
    let x = begun (m + 1) n w (omega (arith, l)) in
    let i = k.within in
    h.stops (omega (arith, l, i)) (beginning (take (m + 1) w) x.0 (subst (λ z. IsBeginning z) x.1 k.begins))

pub one_break : (w : List ℕ) (m n : ℕ) → BreaksAt w m → BreaksAt w n → m ≡ n
one_break w m n h k = antisym m n (not_before w m n h k) (not_before w n m k h)
  where
    antisym : (m n : ℕ) → (m < n → ⊥) → (n < m → ⊥) → m ≡ n
    antisym m n f g = grind (arith, f, g)

-- ---- one reason

-- the state after a beginning: the same texts follow
abbrev Reaches : AddressState → List ℕ → AddressState → Type 0
Reaches s u t = ((x : List ℕ) → Rest s (u ++ x) → Rest t x) × ((x : List ℕ) → Rest t x → Rest s (u ++ x))

reached : (s : AddressState) (u : List ℕ) → Begins s u → (t : AddressState) × Reaches s u t
reached s [] h = (s, (λ x r. r, λ x r. r))
reached s (b ∷ u) h = go (next_state s b) refl (λ t. reached t u)
  where
    go : (o : Option AddressState) → next_state s b ≡ o → ((t : AddressState) → Begins t u → (v : AddressState) × Reaches t u v) → (t : AddressState) × Reaches s (b ∷ u) t
    go None q f = absurd (no_byte s b (u ++ h.0) q h.1)
    go (Some t) q f =
        let k = f t (h.0, byte_gone s t b (u ++ h.0) q h.1) in
        (k.0, (λ x r. k.1.0 x (byte_gone s t b (u ++ x) q r), λ x r. byte_read s t b (u ++ x) q (k.1.1 x r)))

in_transport : (t : AddressState) → scan t 0 (45 ∷ 58 ∷ []) ≡ None → reason.Transport ≡ reason_in t
in_transport Start h = refl
in_transport Transport h = refl
in_transport Pairs h = absurd (some_none _ h)
in_transport KeyStart h = absurd (some_none _ h)
in_transport Key h = absurd (some_none _ h)
in_transport Value h = absurd (some_none _ h)
in_transport High h = absurd (some_none _ h)
in_transport Low h = absurd (some_none _ h)

in_key : (t : AddressState) → scan t 0 (45 ∷ 61 ∷ []) ≡ None → reason.Key ≡ reason_in t
in_key Start h = absurd (some_none _ h)
in_key Transport h = absurd (some_none _ h)
in_key Pairs h = refl
in_key KeyStart h = refl
in_key Key h = refl
in_key Value h = absurd (some_none _ h)
in_key High h = absurd (some_none _ h)
in_key Low h = absurd (some_none _ h)

in_value : (t : AddressState) → scan t 0 (45 ∷ []) ≡ None → reason.Value ≡ reason_in t
in_value Start h = absurd (some_none _ h)
in_value Transport h = absurd (some_none _ h)
in_value Pairs h = absurd (some_none _ h)
in_value KeyStart h = absurd (some_none _ h)
in_value Key h = absurd (some_none _ h)
in_value Value h = refl
in_value High h = absurd (some_none _ h)
in_value Low h = absurd (some_none _ h)

in_escape : (t : AddressState) → ((c : List ℕ) → Rest t (45 ∷ c) → ⊥) → reason.Escape ≡ reason_in t
in_escape Start h = absurd (h (58 ∷ []) (live Start))
in_escape Transport h = absurd (h (58 ∷ []) (live Transport))
in_escape Pairs h = absurd (h (61 ∷ []) (live Pairs))
in_escape KeyStart h = absurd (h (61 ∷ []) (live KeyStart))
in_escape Key h = absurd (h (61 ∷ []) (live Key))
in_escape Value h = absurd (h [] (live Value))
in_escape High h = refl
in_escape Low h = refl

reason_is : (t : AddressState) (r : AddressReason) → Wants (Rest t) r [] → r ≡ reason_in t
reason_is t reason.Transport h = in_transport t (follows_read t (45 ∷ 58 ∷ []) h 0)
reason_is t reason.Key h = in_key t (follows_read t (45 ∷ 61 ∷ []) h 0)
reason_is t reason.Value h = in_value t (follows_read t (45 ∷ []) h 0)
reason_is t reason.Escape h = in_escape t h
reason_is t reason.TooLong h = absurd h
reason_is t reason.KeyTwice h = absurd h
reason_is t reason.Guid h = absurd h

pub one_reason : (u : List ℕ) (r s : AddressReason) → IsBeginning u → Wants IsSpelled r u → Wants IsSpelled s u → r ≡ s
one_reason u r s b h k =
    let t = reached Start u (b.0, spelled_rest _ b.1) in
    let f : (x : List ℕ) → IsSpelled (u ++ x) → Rest t.0 x = λ x z. t.1.0 x (spelled_rest (u ++ x) z) in
    let g : (x : List ℕ) → Rest t.0 x → IsSpelled (u ++ x) = λ x z. rest_spelled (u ++ x) (t.1.1 x z) in
    reason_is t.0 r (wants_alike IsSpelled (Rest t.0) u [] f g r h) ∙ sym (reason_is t.0 s (wants_alike IsSpelled (Rest t.0) u [] f g s k))
