-- The escaped text of a value, run by run.
use Rattle.std.proofs.Common.{◌≡◌, ◌≢◌, ℕ, suc, ◌<◌, eqb, List, [], ◌∷◌, ◌++◌, length, get_or, refl, sym, ap, ◌∙◌, append_assoc, arith, zero, Bool, true, drop, subst, ◌+◌, false, ◌&&◌, eq-eqb, append-nil, length-append, Vec}
use Rattle.std.specs.Prelude.{Result, Ok, Err, OnOk, is_ok, if◌then◌else◌}
use Rattle.std.proofs.lemmas.Bool.{cond-false, ne_eqb, and_parts, cond-true, and_right, eqb-true, cond_both, eqb-false, false≢true}
use Rattle.std.specs.List.{AllByRecursion, list_all}
use Rattle.dbus_rule.specs.Rules.{quote_escaped}
use Rattle.dbus_rule.specs.declared.value_cut.Mode.TheVariants.{Outside, Escape, Inside}
use Rattle.dbus_rule.specs.Values.{closed, quote_first, scan, Piece, quoted, escaped, plain, piece_text, piece_value, pieces_text, pieces_value, NoQuoteFirst, IsPiece, ArePieces, Reading, open_at, Ends, IsReading, cut_of, IsClosed, IsOpen}
use Rattle.dbus_rule.specs.declared.value_cut.Cut.{Cut}
use Rattle.dbus_rule.specs.declared.value_cut.Cut.TheVariants.{Closed, Open}

pub quote_run : (run suffix : List ℕ) → ((i : ℕ) → i < length run → get_or run i 0 ≢ 39) → quote_escaped (run ++ 39 ∷ suffix) ≡ run ++ (39 ∷ 92 ∷ 39 ∷ 39 ∷ quote_escaped suffix)
quote_run [] suffix h = refl
quote_run (b ∷ run) suffix h =
    let x = quote_escaped (run ++ 39 ∷ suffix) in
    cond-false (eqb b 39) (39 ∷ 92 ∷ 39 ∷ 39 ∷ x) (b ∷ x) (ne_eqb b 39 (h 0 (omega arith))) ∙ ap (λ z. b ∷ z) (quote_run run suffix (λ i l. h (suc i) (omega (arith, l))))

pub quote_none : (w : List ℕ) → ((i : ℕ) → i < length w → get_or w i 0 ≢ 39) → quote_escaped w ≡ w
quote_none [] h = refl
quote_none (b ∷ w) h =
    let x = quote_escaped w in
    cond-false (eqb b 39) (39 ∷ 92 ∷ 39 ∷ 39 ∷ x) (b ∷ x) (ne_eqb b 39 (h 0 (omega arith))) ∙ ap (λ z. b ∷ z) (quote_none w (λ i l. h (suc i) (omega (arith, l))))

pub escaped_step : (t t' t'' run suffix rest total : List ℕ) → t' ≡ t ++ run → t'' ≡ t' ++ (39 ∷ 92 ∷ 39 ∷ 39 ∷ []) → rest ≡ run ++ 39 ∷ suffix → ((i : ℕ) → i < length run → get_or run i 0 ≢ 39) → t ++ quote_escaped rest ≡ total → t'' ++ quote_escaped suffix ≡ total
escaped_step t t' t'' run suffix rest total a b e h k =
    let q = 39 ∷ 92 ∷ 39 ∷ 39 ∷ [] in
    let x = quote_escaped suffix in
    ap (λ z. z ++ x) (b ∙ ap (λ z. z ++ q) a) ∙ append_assoc (t ++ run) q x ∙ append_assoc t run (q ++ x) ∙ ap (λ z. t ++ z) (sym (quote_run run suffix h) ∙ ap quote_escaped (sym e)) ∙ k

pub escaped_last : {T E : Type 0} (r : Result T E) (t t' rest total : List ℕ) → t' ≡ (if is_ok r then t ++ rest else t) → ((i : ℕ) → i < length rest → get_or rest i 0 ≢ 39) → t ++ quote_escaped rest ≡ total → OnOk r (t' ≡ total)
escaped_last (Ok x) t t' rest total a h k = a ∙ ap (λ z. t ++ z) (sym (quote_none rest h)) ∙ k
escaped_last (Err x) t t' rest total a h k = tt

-- What holds of each element of a list, and of its parts; and where a list ends its run of such
-- elements.

pub all_by : (test : ℕ → Bool) (P : ℕ → Type 0) → ((b : ℕ) → test b ≡ true → P b) → (w : List ℕ) → list_all test w ≡ true → AllByRecursion P w
all_by test P each [] h = tt
all_by test P each (b ∷ w) h = let p = and_parts (test b) (list_all test w) h in (each b p.0, all_by test P each w p.1)

pub all_drop : (P : ℕ → Type 0) (n : ℕ) (w : List ℕ) → AllByRecursion P w → AllByRecursion P (drop n w)
all_drop P zero w h = h
all_drop P (suc n) [] h = tt
all_drop P (suc n) (b ∷ w) h = all_drop P n w h.1

pub all_front : {X : Type 0} (P : X → Type 0) (x y : List X) → AllByRecursion P (x ++ y) → AllByRecursion P x
all_front P [] y h = tt
all_front P (b ∷ x) y h = (h.0, all_front P x y h.1)

pub all_back : {X : Type 0} (P : X → Type 0) (x y : List X) → AllByRecursion P (x ++ y) → AllByRecursion P y
all_back P [] y h = h
all_back P (b ∷ x) y h = all_back P x y h.1

pub all_join : {X : Type 0} (P : X → Type 0) (x y : List X) → AllByRecursion P x → AllByRecursion P y → AllByRecursion P (x ++ y)
all_join P [] y h k = k
all_join P (b ∷ x) y h k = (h.0, all_join P x y h.1 k)

-- nothing, or what begins with another element
abbrev pub Stops : (ℕ → Type 0) → List ℕ → Type 0
Stops P [] = Unit {0}
Stops P (b ∷ c) = P b → ⊥

-- a text is cut in one way after its longest run
pub cut_same : (P : ℕ → Type 0) (x y r s : List ℕ) → AllByRecursion P x → AllByRecursion P y → Stops P r → Stops P s → x ++ r ≡ y ++ s → (x ≡ y) × (r ≡ s)
cut_same P [] [] r s h k a b e = (refl, e)
cut_same P [] (c ∷ y) r s h k a b e = absurd (subst (λ z. Stops P z) e a k.0)
cut_same P (c ∷ x) [] r s h k a b e = absurd (subst (λ z. Stops P z) (sym e) b h.0)
cut_same P (c ∷ x) (d ∷ y) r s h k a b e =
    let q : c ≡ d = cc in
    let t : x ++ r ≡ y ++ s = cc in
    let z = cut_same P x y r s h.1 k.1 a b t in
    (ap (λ u. u ∷ x) q ∙ ap (λ u. d ∷ u) z.0, z.1)

-- One byte of a reading.

pub at_comma : (n : ℕ) (v w : List ℕ) (b : ℕ) (c : List ℕ) → w ≡ b ∷ c → b ≡ 44 → scan Outside n v w ≡ closed v n w
at_comma n v w b c e h = ap (λ x. scan Outside n v x) e ∙ cond-true _ _ _ (eq-eqb b 44 h) ∙ ap (λ x. closed v n x) (sym e)

pub at_quote : (n : ℕ) (v w : List ℕ) (b : ℕ) (c : List ℕ) → w ≡ b ∷ c → b ≢ 44 → b ≡ 39 → scan Outside n v w ≡ scan (Inside n) (n + 1) v c
at_quote n v w b c e x h = ap (λ x. scan Outside n v x) e ∙ cond-false _ _ _ (ne_eqb b 44 x) ∙ cond-true _ _ _ (eq-eqb b 39 h)

pub at_escape : (n : ℕ) (v w : List ℕ) (b : ℕ) (c : List ℕ) → w ≡ b ∷ c → b ≢ 44 → b ≢ 39 → b ≡ 92 → quote_first c ≡ true → scan Outside n v w ≡ scan Escape (n + 1) v c
at_escape n v w b c e x y h q = ap (λ x. scan Outside n v x) e ∙ cond-false _ _ _ (ne_eqb b 44 x) ∙ cond-false _ _ _ (ne_eqb b 39 y) ∙ cond-true _ _ _ (ap (λ t. t && quote_first c) (eq-eqb b 92 h) ∙ q)

pub at_plain : (n : ℕ) (v w : List ℕ) (b : ℕ) (c : List ℕ) → w ≡ b ∷ c → b ≢ 44 → b ≢ 39 → eqb b 92 && quote_first c ≡ false → scan Outside n v w ≡ scan Outside (n + 1) (v ++ b ∷ []) c
at_plain n v w b c e x y h = ap (λ x. scan Outside n v x) e ∙ cond-false _ _ _ (ne_eqb b 44 x) ∙ cond-false _ _ _ (ne_eqb b 39 y) ∙ cond-false _ _ _ h

pub no_escape : (b : ℕ) (c : List ℕ) → b ≢ 92 → eqb b 92 && quote_first c ≡ false
no_escape b c h = ap (λ t. t && quote_first c) (ne_eqb b 92 h)

pub no_quote_after : (b : ℕ) (c : List ℕ) → quote_first c ≡ false → eqb b 92 && quote_first c ≡ false
no_quote_after b c h = and_right (eqb b 92) (quote_first c) h

pub after_escape : (n : ℕ) (v w : List ℕ) (b : ℕ) (c : List ℕ) → w ≡ b ∷ c → scan Escape n v w ≡ scan Outside (n + 1) (v ++ b ∷ []) c
after_escape n v w b c e = ap (λ x. scan Escape n v x) e

pub in_quote_end : (q n : ℕ) (v w : List ℕ) (b : ℕ) (c : List ℕ) → w ≡ b ∷ c → b ≡ 39 → scan (Inside q) n v w ≡ scan Outside (n + 1) v c
in_quote_end q n v w b c e h = ap (λ x. scan (Inside q) n v x) e ∙ cond-true _ _ _ (eq-eqb b 39 h)

pub in_quote : (q n : ℕ) (v w : List ℕ) (b : ℕ) (c : List ℕ) → w ≡ b ∷ c → b ≢ 39 → scan (Inside q) n v w ≡ scan (Inside q) (n + 1) (v ++ b ∷ []) c
in_quote q n v w b c e h = ap (λ x. scan (Inside q) n v x) e ∙ cond-false _ _ _ (ne_eqb b 39 h)

-- Pieces are read as they stand, so a text spells at most one value.

same_state : (m n : ℕ) (u v r : List ℕ) → m ≡ n → u ≡ v → scan Outside m u r ≡ scan Outside n v r
same_state m n u v r e f = ap (λ x. scan Outside x u r) e ∙ ap (λ x. scan Outside n x r) f

pub run_scan : (q n : ℕ) (v w r : List ℕ) → AllByRecursion (λ b. b ≢ 39) w → scan (Inside q) n v (w ++ 39 ∷ r) ≡ scan Outside (n + length w + 1) (v ++ w) r
run_scan q n v [] r h = in_quote_end q n v (39 ∷ r) 39 r refl refl ∙ same_state (n + 1) (n + 0 + 1) v (v ++ []) r (omega arith) (sym (append-nil v))
run_scan q n v (b ∷ w) r h =
    in_quote q n v (b ∷ (w ++ 39 ∷ r)) b (w ++ 39 ∷ r) refl h.0 ∙ run_scan q (n + 1) (v ++ b ∷ []) w r h.1 ∙ same_state (n + 1 + length w + 1) (n + length (b ∷ w) + 1) ((v ++ b ∷ []) ++ w) (v ++ b ∷ w) r (omega arith) (append_assoc v (b ∷ []) w)

pub run_open : (q n : ℕ) (v w : List ℕ) → AllByRecursion (λ b. b ≢ 39) w → scan (Inside q) n v w ≡ open_at q
run_open q n v [] h = refl
run_open q n v (b ∷ w) h = in_quote q n v (b ∷ w) b w refl h.0 ∙ run_open q (n + 1) (v ++ b ∷ []) w h.1

no_quote_false : (c : List ℕ) → NoQuoteFirst c → quote_first c ≡ false
no_quote_false [] h = refl
no_quote_false (b ∷ c) h = ne_eqb b 39 h

plain_false : (b : ℕ) (c : List ℕ) → (b ≡ 92 → NoQuoteFirst c) → eqb b 92 && quote_first c ≡ false
plain_false b c h = go (eqb b 92) refl
  where
    go : (t : Bool) → eqb b 92 ≡ t → eqb b 92 && quote_first c ≡ false
    go true e = no_quote_after b c (no_quote_false c (h (eqb-true b 92 e)))
    go false e = ap (λ t. t && quote_first c) e

piece_scan : (p : Piece) (n : ℕ) (v c : List ℕ) → IsPiece p c → scan Outside n v (piece_text p ++ c) ≡ scan Outside (n + length (piece_text p)) (v ++ piece_value p) c
piece_scan (quoted w) n v c h =
    let x = (w ++ 39 ∷ []) ++ c in
    let k = length-append w (39 ∷ []) in
    at_quote n v (39 ∷ x) 39 x refl (λ e. absurd (omega (arith, e))) refl ∙ ap (λ y. scan (Inside n) (n + 1) v y) (append_assoc w (39 ∷ []) c) ∙ run_scan n (n + 1) v w c h ∙ ap (λ y. scan Outside y (v ++ w) c) (let l : n + 1 + length w + 1 ≡ n + length (39 ∷ (w ++ 39 ∷ [])) = omega (arith, k) in l)
piece_scan escaped n v c h =
    at_escape n v (92 ∷ 39 ∷ c) 92 (39 ∷ c) refl (λ e. absurd (omega (arith, e))) (λ e. absurd (omega (arith, e))) refl refl ∙ after_escape (n + 1) v (39 ∷ c) 39 c refl ∙ ap (λ y. scan Outside y (v ++ 39 ∷ []) c) (let l : n + 1 + 1 ≡ n + 2 = omega arith in l)
piece_scan (plain b) n v c h = at_plain n v (b ∷ c) b c refl h.0 h.1 (plain_false b c h.2)

pub pieces_scan : (ps : List Piece) (n : ℕ) (v r : List ℕ) → ArePieces ps r → scan Outside n v (pieces_text ps ++ r) ≡ scan Outside (n + length (pieces_text ps)) (v ++ pieces_value ps) r
pieces_scan [] n v r h = same_state n (n + 0) v (v ++ []) r (omega arith) (sym (append-nil v))
pieces_scan (p ∷ ps) n v r h =
    let l = length-append (piece_text p) (pieces_text ps) in
    ap (λ y. scan Outside n v y) (append_assoc (piece_text p) (pieces_text ps) r) ∙ piece_scan p n v (pieces_text ps ++ r) h.0 ∙ pieces_scan ps (n + length (piece_text p)) (v ++ piece_value p) r h.1 ∙ same_state (n + length (piece_text p) + length (pieces_text ps)) (n + length (piece_text p ++ pieces_text ps)) ((v ++ piece_value p) ++ pieces_value ps) (v ++ (piece_value p ++ pieces_value ps)) r (omega (arith, l)) (append_assoc v (piece_value p) (pieces_value ps))

at_end : (n : ℕ) (v r : List ℕ) → Ends r → scan Outside n v r ≡ closed v n r
at_end n v [] h = refl
at_end n v (b ∷ c) h = at_comma n v (b ∷ c) b c refl h

pub closed_scan : (ps : List Piece) (n : ℕ) (r : List ℕ) → ArePieces ps r → Ends r → scan Outside n [] (pieces_text ps ++ r) ≡ closed (pieces_value ps) (n + length (pieces_text ps)) r
closed_scan ps n r h e = pieces_scan ps n [] r h ∙ at_end (n + length (pieces_text ps)) (pieces_value ps) r e

pub open_scan : (ps : List Piece) (n : ℕ) (run : List ℕ) → ArePieces ps (39 ∷ run) → AllByRecursion (λ b. b ≢ 39) run → scan Outside n [] (pieces_text ps ++ 39 ∷ run) ≡ open_at (n + length (pieces_text ps))
open_scan ps n run h k =
    let m = n + length (pieces_text ps) in
    pieces_scan ps n [] (39 ∷ run) h ∙ at_quote m (pieces_value ps) (39 ∷ run) 39 run refl (λ e. absurd (omega (arith, e))) refl ∙ run_open m (m + 1) (pieces_value ps) run k

abbrev pub reading_value : Reading → List ℕ
reading_value (closed v m r) = v
reading_value (open_at q) = []

abbrev pub reading_rest : Reading → List ℕ
reading_rest (closed v m r) = r
reading_rest (open_at q) = []

-- pieces before an end give one value and one rest
pub pieces_same : (ps qs : List Piece) (r s : List ℕ) → ArePieces ps r → ArePieces qs s → Ends r → Ends s → pieces_text ps ++ r ≡ pieces_text qs ++ s → (pieces_value ps ≡ pieces_value qs) × (r ≡ s)
pieces_same ps qs r s h k e f q =
    let x = sym (closed_scan ps 0 r h e) ∙ ap (λ y. scan Outside 0 [] y) q ∙ closed_scan qs 0 s k f in
    (ap reading_value x, ap reading_rest x)

-- an apostrophe that is not closed has one place, and no value has its text
pub open_same : (ps qs : List Piece) (x y : List ℕ) → ArePieces ps (39 ∷ x) → ArePieces qs (39 ∷ y) → AllByRecursion (λ b. b ≢ 39) x → AllByRecursion (λ b. b ≢ 39) y → pieces_text ps ++ 39 ∷ x ≡ pieces_text qs ++ 39 ∷ y → length (pieces_text ps) ≡ length (pieces_text qs)
open_same ps qs x y h k e f q =
    let z : open_at (0 + length (pieces_text ps)) ≡ open_at (0 + length (pieces_text qs)) = sym (open_scan ps 0 x h e) ∙ ap (λ t. scan Outside 0 [] t) q ∙ open_scan qs 0 y k f in
    let u : 0 + length (pieces_text ps) ≡ 0 + length (pieces_text qs) = ap place z in
    omega (arith, u)
  where
    place : Reading → ℕ
    place (closed v m r) = 0
    place (open_at m) = m

pub open_not_closed : (ps qs : List Piece) (x r : List ℕ) → ArePieces ps (39 ∷ x) → ArePieces qs r → AllByRecursion (λ b. b ≢ 39) x → Ends r → pieces_text ps ++ 39 ∷ x ≡ pieces_text qs ++ r → ⊥
open_not_closed ps qs x r h k e f q =
    let z : open_at (0 + length (pieces_text ps)) ≡ closed (pieces_value qs) (0 + length (pieces_text qs)) r = sym (open_scan ps 0 x h e) ∙ ap (λ t. scan Outside 0 [] t) q ∙ closed_scan qs 0 r k f in
    cc

-- The reading of a value is the one that its pieces give.

-- a piece, and the reading of what stands after it
piece_reading : (p : Piece) (n : ℕ) (v w c : List ℕ) (x : Reading) → IsPiece p c → w ≡ piece_text p ++ c → IsReading (n + length (piece_text p)) (v ++ piece_value p) c x → IsReading n v w x
piece_reading p n v w c (closed v' m r) i e h =
    record {
      pieces = p ∷ h.pieces;
      are = (subst (λ x. IsPiece p x) h.spelled i, h.are);
      spelled = e ∙ ap (λ x. piece_text p ++ x) h.spelled ∙ sym (append_assoc (piece_text p) (pieces_text h.pieces) r);
      value = h.value ∙ append_assoc v (piece_value p) (pieces_value h.pieces);
      place = omega (arith, h.place, length-append (piece_text p) (pieces_text h.pieces));
      ends = h.ends;
    }
piece_reading p n v w c (open_at q) i e h =
    record {
      pieces = p ∷ h.pieces;
      run = h.run;
      are = (subst (λ x. IsPiece p x) h.spelled i, h.are);
      run_is = h.run_is;
      spelled = e ∙ ap (λ x. piece_text p ++ x) h.spelled ∙ sym (append_assoc (piece_text p) (pieces_text h.pieces) (39 ∷ h.run));
      place = omega (arith, h.place, length-append (piece_text p) (pieces_text h.pieces));
    }

moved : (m n : ℕ) (u v c : List ℕ) (x : Reading) → m ≡ n → u ≡ v → IsReading m u c x → IsReading n v c x
moved m n u v c x e f h = subst (λ k. IsReading k v c x) e (subst (λ y. IsReading m y c x) f h)

no_quote : (c : List ℕ) → quote_first c ≡ false → NoQuoteFirst c
no_quote [] e = tt
no_quote (b ∷ c) e = eqb-false b 39 e

and_false : (a b : Bool) → a && b ≡ false → a ≡ true → b ≡ false
and_false true b e t = e
and_false false b e t = absurd (false≢true t)

mutual
  pub scan_outside : (n : ℕ) (v w : List ℕ) → IsReading n v w (scan Outside n v w)
  scan_outside n v [] = record { pieces = []; are = tt; spelled = refl; value = sym (append-nil v); place = omega arith; ends = tt }
  scan_outside n v (b ∷ c) =
      cond_both (eqb b 44) _ _ (IsReading n v (b ∷ c))
      (λ e. record { pieces = []; are = tt; spelled = refl; value = sym (append-nil v); place = omega arith; ends = eqb-true b 44 e })
      (λ e1. cond_both (eqb b 39) _ _ (IsReading n v (b ∷ c))
      (λ e. subst (λ y. IsReading n v (y ∷ c) (scan (Inside n) (n + 1) v c)) (sym (eqb-true b 39 e)) (scan_inside n v [] (n + 1) v c tt (omega arith) (sym (append-nil v))))
      (λ e2. cond_both (eqb b 92 && quote_first c) _ _ (IsReading n v (b ∷ c))
      (λ e. let p = and_parts (eqb b 92) (quote_first c) e in scan_escape n v b c (eqb-true b 92 p.0) p.1)
      (λ e3. piece_reading (plain b) n v (b ∷ c) c (scan Outside (n + 1) (v ++ b ∷ []) c) (eqb-false b 44 e1, eqb-false b 39 e2, λ q. no_quote c (and_false (eqb b 92) (quote_first c) e3 (subst (λ y. eqb y 92 ≡ true) (sym q) refl))) refl (scan_outside (n + 1) (v ++ b ∷ []) c))))

  -- a backslash before an apostrophe
  scan_escape : (n : ℕ) (v : List ℕ) (b : ℕ) (c : List ℕ) → b ≡ 92 → quote_first c ≡ true → IsReading n v (b ∷ c) (scan Escape (n + 1) v c)
  scan_escape n v b [] e q = absurd (false≢true q)
  scan_escape n v b (d ∷ c) e q =
      let f : d ≡ 39 = eqb-true d 39 q in
      piece_reading escaped n v (b ∷ d ∷ c) c (scan Outside (n + 1 + 1) (v ++ d ∷ []) c) tt (cc)
      (moved (n + 1 + 1) (n + 2) (v ++ d ∷ []) (v ++ 39 ∷ []) c (scan Outside (n + 1 + 1) (v ++ d ∷ []) c) (omega arith) (ap (λ y. v ++ y ∷ []) f) (scan_outside (n + 1 + 1) (v ++ d ∷ []) c))

  -- after an apostrophe at q and a run
  scan_inside : (q : ℕ) (v run : List ℕ) (m : ℕ) (u w : List ℕ) → AllByRecursion (λ b. b ≢ 39) run → m ≡ q + 1 + length run → u ≡ v ++ run → IsReading q v (39 ∷ (run ++ w)) (scan (Inside q) m u w)
  scan_inside q v run m u [] h n f = record { pieces = []; run = run ++ []; are = tt; run_is = subst (λ z. AllByRecursion (λ b. b ≢ 39) z) (sym (append-nil run)) h; spelled = refl; place = omega arith }
  scan_inside q v run m u (b ∷ c) h n f =
      cond_both (eqb b 39) _ _ (IsReading q v (39 ∷ (run ++ b ∷ c)))
      (λ e. piece_reading (quoted run) q v (39 ∷ (run ++ b ∷ c)) c (scan Outside (m + 1) u c) h
      (ap (λ y. 39 ∷ (run ++ y ∷ c)) (eqb-true b 39 e) ∙ ap (λ x. 39 ∷ x) (sym (append_assoc run (39 ∷ []) c)))
      (moved (m + 1) (q + length (piece_text (quoted run))) u (v ++ run) c (scan Outside (m + 1) u c) (omega (arith, n, length-append run (39 ∷ []))) f (scan_outside (m + 1) u c)))
      (λ e. subst (λ z. IsReading q v (39 ∷ z) (scan (Inside q) (m + 1) (u ++ b ∷ []) c)) (append_assoc run (b ∷ []) c)
      (scan_inside q v (run ++ b ∷ []) (m + 1) (u ++ b ∷ []) c (all_join (λ b. b ≢ 39) run (b ∷ []) h (eqb-false b 39 e, tt)) (omega (arith, n, length-append run (b ∷ []))) (ap (λ z. z ++ b ∷ []) f ∙ append_assoc v run (b ∷ []))))

-- What a cut of a value says of the text.

pub reads_closed : {A : Type 0} (w t : List ℕ) (from : ℕ) (x : Cut A) (b : Vec ℕ A) (m : ℕ) → t ≡ w → cut_of t x ≡ scan Outside from [] (drop from t) → x ≡ Closed b m → scan Outside from [] (drop from w) ≡ closed b.items m (drop m w)
reads_closed w t from x b m p e f = subst (λ z. scan Outside from [] (drop from z) ≡ closed b.items m (drop m z)) p (sym e ∙ ap (cut_of t) f)

pub reads_open : {A : Type 0} (w t : List ℕ) (from : ℕ) (x : Cut A) (m : ℕ) → t ≡ w → cut_of t x ≡ scan Outside from [] (drop from t) → x ≡ Open m → scan Outside from [] (drop from w) ≡ open_at m
reads_open w t from x m p e f = subst (λ z. scan Outside from [] (drop from z) ≡ open_at m) p (sym e ∙ ap (cut_of t) f)

pub is_closed : (from : ℕ) (w v : List ℕ) (m : ℕ) (r : List ℕ) → scan Outside from [] w ≡ closed v m r → IsClosed from [] w v m r
is_closed from w v m r e = subst (λ x. IsReading from [] w x) e (scan_outside from [] w)

pub is_open : (from : ℕ) (w : List ℕ) (m : ℕ) → scan Outside from [] w ≡ open_at m → IsOpen from w m
is_open from w m e = subst (λ x. IsReading from [] w x) e (scan_outside from [] w)
