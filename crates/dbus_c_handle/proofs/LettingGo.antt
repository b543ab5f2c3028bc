-- What is kept may be let go: its destructor, which the compiler makes, is the glue that `into_raw`
-- is passed for a type parameter.
use Rattle.std.proofs.Common.{[], ◌∷◌}
use seplogic.Ra.Ura.{Ura}
use mir.Syntax.{method, no_args}
use base.Fml.{ftrue, fsep}
use base.Logic.{emp, sep, ex, emp∗}
use prog.Model.{Model}
use prog.Routine.{◌≼⁺◌}
use contract.Running.{Running}
use types.Logic.{Logic, sem}
use types.Kit.{raw, ◌$◌, ◌∵◌, !, qed, keep, join, show, done}
use denote.Param.Glue.{Met}
use denote.Steps.{nothing}
use denote.Triple.Carry.{beside, spared}
use denote.Triple.Spec.{Spec, Meets, triple_of}
use denote.Triple.Table.{run_framed, widened}
use Rattle.dbus_c_handle.specs.contracts.dbus_c_handle++kept++Kept+Destruct.drop as glue
use Rattle.dbus_c_handle.proofs.Steps.{boxed, drops_kept}

module _ {M : Type 1} {𝓤 : Ura M} (𝓛 : Logic 𝓤) where
  -- what a call is told of a value that was let go: nothing
  abbrev let_go : Spec 𝓤 glue.signature
  let_go κs a = record { ghost = Unit {0}; requires = λ g. emp 𝓤; ensures = λ g r. ex 𝓤 (λ (ws : Unit {0} × Unit {0}). sep 𝓤 (sem 𝓛 (fsep ftrue ftrue)) (emp 𝓤)) }

  -- a call through the type's table does what a call by its name does
  pub lets_go : (𝓜 : Model 𝓤 𝓛.H) (𝓡 : Running 𝓤 𝓛.H 𝓜) → 𝓡.env glue.Key.name ≼⁺ 𝓡.env (method drops_kept 0 no_args)
      → Meets 𝓛 glue.signature (𝓡.run (𝓡.env glue.Key.name)) (glue.spec 𝓛 𝓜.mem 𝓡.returns) → Met 𝓛 𝓜 𝓡 𝓡.env boxed.row drops_kept
  lets_go 𝓜 𝓡 alike has =
      let r = 𝓡.env (method drops_kept 0 no_args) in
      let run = 𝓡.run r in
      let fm = run_framed 𝓤 𝓛.H 𝓜 𝓡 r in
      let said = widened 𝓤 𝓛.H (triple_of 𝓛 glue.signature (glue.spec 𝓛 𝓜.mem 𝓡.returns)) 𝓜 𝓡 𝓡.env (𝓡.env glue.Key.name) r alike has in
      spared 𝓛 glue.signature run fm 1 (boxed.row.lives, tt) let_go
      (beside 𝓛 glue.signature run fm (glue.spec 𝓛 𝓜.mem 𝓡.returns) let_go (λ κs a g. g) (λ κs a g. emp 𝓤) (λ κs a g. emp∗ 𝓤 (emp 𝓤))
      (λ κs a g r. qed 𝓛 (raw ((glue.spec 𝓛 𝓜.mem 𝓡.returns κs a).ensures g r) ∷ raw (emp 𝓤) ∷ []) ∵ keep ! [] $ show ! (λ (ws : Unit {0} × Unit {0}). sep 𝓤 (sem 𝓛 (fsep ftrue ftrue)) (emp 𝓤)) (tt, tt) $ nothing ! $ nothing ! $ nothing ! $ join ! $ done !) said)
