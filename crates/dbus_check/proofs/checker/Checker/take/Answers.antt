use Rattle.std.proofs.Common.{ℕ, List, refl, arith, rules}
use Rattle.dbus_value_laws.proofs.ReadSteps.{bytes_from}
use Rattle.dbus_check.specs.Checks.{Stands}
use Rattle.dbus_check.proofs.CheckSteps.{stays_refused, took_partial, took_done, took_refused}
use Rattle.dbus_check.proofs.checker.Checker.take.Goals as goal

pub returns-in-Some : goal.returns-in-Some
returns-in-Some c =
    let told = λ (w : List ℕ) (h : Stands c.args.self.now w). stays_refused _ _ c.self.view_is w c.args.piece.now (bytes_from _ (λ k. omega (arith, c.type_inv.piece k))) h c.in-Some.fault c.in-Some.is in
    record { answers = λ w h. (told w h).0; exact = λ w h. (told w h).1; stands = λ w h. (told w h).2; limits = search rules }

pub invariant_of-self : goal.invariant_of-self
invariant_of-self c = (_, (took_partial _ _ refl c.self.invariant.0 c.args.piece.now (bytes_from _ (λ k. omega (arith, c.type_inv.piece k))) c.self.invariant.1 c.in_default.is c.take.new.self c.in-Ok.n c.in-Ok.ensures (c.if-is_live.ensures.0 refl)).2)

pub returns-then-is_live : goal.returns-then-is_live
returns-then-is_live c =
    let told = λ (w : List ℕ) (h : Stands c.args.self.now w). took_partial _ _ c.self.view_is w c.args.piece.now (bytes_from _ (λ k. omega (arith, c.type_inv.piece k))) h c.in_default.is c.take.new.self c.in-Ok.n c.in-Ok.ensures (c.if-is_live.ensures.0 refl) in
    record { answers = λ w h. (told w h).0; exact = λ w h. (told w h).1; stands = λ w h. (told w h).2; limits = search rules }

pub invariant_of-self-in-Ok : goal.invariant_of-self-in-Ok
invariant_of-self-in-Ok c = (_, (took_done _ _ refl c.self.invariant.0 c.args.piece.now (bytes_from _ (λ k. omega (arith, c.type_inv.piece k))) c.self.invariant.1 c.in_default.is c.take.new.self c.in-Ok.n c.in-Ok.ensures (λ live. let e = c.if-is_live.ensures.1 live in absurd cc)).2)

pub returns-else-is_live : goal.returns-else-is_live
returns-else-is_live c =
    let told = λ (w : List ℕ) (h : Stands c.args.self.now w). took_done _ _ c.self.view_is w c.args.piece.now (bytes_from _ (λ k. omega (arith, c.type_inv.piece k))) h c.in_default.is c.take.new.self c.in-Ok.n c.in-Ok.ensures (λ live. let e = c.if-is_live.ensures.1 live in absurd cc) in
    record { answers = λ w h. (told w h).0; exact = λ w h. (told w h).1; stands = λ w h. (told w h).2; limits = search rules }

pub invariant_of-self-in-Err : goal.invariant_of-self-in-Err
invariant_of-self-in-Err c = (_, (took_refused _ _ refl c.self.invariant.0 c.args.piece.now (bytes_from _ (λ k. omega (arith, c.type_inv.piece k))) c.self.invariant.1 c.in_default.is c.take.new.self c.in-Err.fault c.in-Err.ensures).2)

pub returns-in-Err : goal.returns-in-Err
returns-in-Err c =
    let told = λ (w : List ℕ) (h : Stands c.args.self.now w). took_refused _ _ c.self.view_is w c.args.piece.now (bytes_from _ (λ k. omega (arith, c.type_inv.piece k))) h c.in_default.is c.take.new.self c.in-Err.fault c.in-Err.ensures in
    record { answers = λ w h. (told w h).0; exact = λ w h. (told w h).1; stands = λ w h. (told w h).2; limits = search rules }
