use Rattle.std.proofs.Common.{◌≡◌, ℕ, zero, suc, ◌+◌, ◌<◌, ◌≤◌, List, [], ◌∷◌, ◌++◌, Ok, length, take, drop, refl, sym, ap, ◌∙◌, arith}
use Rattle.std.proofs.lemmas.List.{length-take}
use Rattle.dbus_texts.specs.declared.text_kind.TextKind.{TextKind}
use Rattle.dbus_value_model.specs.Reading.{Done, after, text, nul}
use Rattle.dbus_value_model.specs.WantedTexts.{Of}
use Rattle.dbus_value_validator.specs.Endings.{EndedText}
use Rattle.dbus_value_checker.specs.Fronts.{Fronts}
use Rattle.dbus_value_checker.specs.Suspended.{ended_text}
use Rattle.dbus_value_checker.proofs.FrontSteps.{text_there_at}
use Rattle.dbus_value_checker.proofs.Suspension.{first_err, then_err, then_ok, front_as}
use Rattle.dbus_value_checker.proofs.fronts.ended_front.Goals as goal

nul_there : (o p q : ℕ) (s r : List ℕ) → nul p s ≡ Done tt q r → (1 ≤ length s) × ((c : List ℕ) → nul o (take 1 s ++ c) ≡ Done tt (o + 1) c)
nul_there o p q [] r e = absurd cc
nul_there o p q (zero ∷ s) r e = (omega arith, λ c. refl)
nul_there o p q (suc b ∷ s) r e = absurd cc

text_is_ended : (kind : TextKind) (n o : ℕ) (s : List ℕ) → n < length s → EndedText kind n 0 s → Fronts (λ (x : Unit {0}). (take n s, n + 1)) o s (Ok tt) (ended_text (Of kind) n)
text_is_ended kind n o s lt ended =
    let t = take n s in
    let here : 0 + n ≡ n = omega arith in
    let zero = nul_there (o + n) (0 + n) (0 + n + 1) (drop n s) (drop (0 + n + 1) s) (ap (λ (i : ℕ). nul (0 + n) (drop i s)) (sym here) ∙ ended.is_ended) in
    then_ok (λ (x : Unit {0}). (t, n)) o s (text (Of kind) n) (λ t q v. after (nul q v) (λ z. Done t)) tt (text_there_at (Of kind) n o s t refl ended.is_kind (omega (arith, length-take n s))) (drop n s) refl (λ (x : Unit {0}). (t, 1)) (λ (x : Unit {0}). (t, n + 1)) tt
    (front_as (λ (x : Unit {0}). (tt, 1)) (λ (x : Unit {0}). (t, 1)) (λ (x : Unit {0}). t) (o + n) (drop n s) nul tt zero tt refl refl) tt refl refl

pub returns-then-is_ended_text-clause-gives : goal.returns-then-is_ended_text-clause-gives
returns-then-is_ended_text-clause-gives c = text_is_ended c.args.kind c.args.n c.args.offset c.args.bytes.now c.if-n-bytes.true (c.if-is_ended_text.ensures.accepts refl)

pub returns-then-is_ended_text-clause-kind : goal.returns-then-is_ended_text-clause-kind
returns-then-is_ended_text-clause-kind c = (c.if-is_ended_text.ensures.accepts refl).is_kind

pub returns-in-Err-clause-gives : goal.returns-in-Err-clause-gives
returns-in-Err-clause-gives c = let a = c.args in first_err a.offset a.bytes.now (text (Of a.kind) a.n) (λ t q v. after (nul q v) (λ z. Done t)) c.in-Err.stop c.in-Err.ensures.gives

pub returns-in-Ok-nul_front-clause-gives : goal.returns-in-Ok-nul_front-clause-gives
returns-in-Ok-nul_front-clause-gives c =
    let a = c.args in let t = take a.n a.bytes.now in
    then_ok (λ (x : Unit {0}). (t, a.n)) a.offset a.bytes.now (text (Of a.kind) a.n) (λ t q v. after (nul q v) (λ z. Done t)) tt c.in-Ok.ensures.gives c.rest_after.result.now c.rest_after.ensures (λ (x : Unit {0}). (t, 1)) (λ (x : Unit {0}). (t, a.n + 1)) tt
    (front_as (λ (x : Unit {0}). (tt, 1)) (λ (x : Unit {0}). (t, 1)) (λ (x : Unit {0}). t) (a.offset + a.n) c.rest_after.result.now nul tt c.in-Ok-nul_front.ensures.gives tt refl refl) tt refl refl

pub returns-in-Err-nul_front-clause-gives : goal.returns-in-Err-nul_front-clause-gives
returns-in-Err-nul_front-clause-gives c =
    let a = c.args in let t = take a.n a.bytes.now in
    then_err (λ (x : Unit {0}). (t, a.n)) a.offset a.bytes.now (text (Of a.kind) a.n) (λ t q v. after (nul q v) (λ z. Done t)) tt c.in-Ok.ensures.gives c.rest_after.result.now c.rest_after.ensures c.in-Err-nul_front.stop
    (first_err (a.offset + a.n) c.rest_after.result.now nul (λ z. Done t) c.in-Err-nul_front.stop c.in-Err-nul_front.ensures.gives)
