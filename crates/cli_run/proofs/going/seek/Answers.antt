use Rattle.std.proofs.Common.{◌≡◌, ◌++◌, ℕ, List, Option, Result, Ok, Err, IfOk, refl, subst, true}
use Rattle.dbus_resync.specs.declared.found.Found.{Found}
use Rattle.dbus_resync.specs.declared.found.Found.TheVariants.{At, Nowhere, Spent}
use Rattle.dbus_stream.specs.GoingOn.{ReadsToGoOn, Resyncs}
use Rattle.dbus_stream.specs.RawReading.{kept}
use Rattle.dbus_stream.specs.declared.raw_reader.RawReader.{RawReader}
use Rattle.dbus_stream.specs.declared.read_fault.ReadFault.{ReadFault}
use Rattle.cli_run.proofs.going.seek.Goals as goal

module _ {R A : Type 0} (left : R → Option (List ℕ)) (calls : R → ℕ) (window : ℕ) (old new : RawReader R A) where
  -- what was looked for, with this answer
  abbrev Looked : Result Found ReadFault → Type 0
  Looked found = (r : ReadsToGoOn true window left calls old new) × Resyncs (kept old ++ r.bytes) old new window found

  looked_for : (found other : Found) → found ≡ other → Looked (Ok found) → Looked (Ok other)
  looked_for found other is l = subst (λ (f : Found). Looked (Ok f)) is l

if_ok : {T F : Type 0} (r : Result T F) (P : Type 0) → P → IfOk r (λ _. P)
if_ok (Ok x) P p = p
if_ok (Err e) P p = tt

pub returns-in-Ok-At-clause-passes : goal.returns-in-Ok-At-clause-passes
returns-in-Ok-At-clause-passes g c =
    let l = looked_for g.R.Source.left g.R.Source.calls c.args.window c.args.messages.now c.resync.new.self _ (At c.in-Ok-At._offset) c.in-Ok-At.field-0-is c.in-Ok-At.ensures.goes in
    record { mid = c.resync.new.self; found = Ok (At c.in-Ok-At._offset); reads = l.0; goes = l.1; passes = (refl, refl); looked = refl }

pub returns-in-Ok-Nowhere-clause-passes : goal.returns-in-Ok-Nowhere-clause-passes
returns-in-Ok-Nowhere-clause-passes g c =
    let l = looked_for g.R.Source.left g.R.Source.calls c.args.window c.args.messages.now c.resync.new.self _ Nowhere c.in-Ok-Nowhere.field-0-is c.in-Ok-Nowhere.ensures.goes in
    record { mid = c.resync.new.self; found = Ok Nowhere; reads = l.0; goes = l.1; passes = c.pass_larger.ensures.passes; looked = c.pass_larger.ensures.looked }

pub returns-in-Ok-Nowhere-clause-packets : goal.returns-in-Ok-Nowhere-clause-packets
returns-in-Ok-Nowhere-clause-packets g c = if_ok c.pass_larger.result _ (λ all has. c.pass_larger.ensures.packets all (c.in-Ok-Nowhere.ensures.packets all has))

pub returns-in-Ok-Spent-clause-passes : goal.returns-in-Ok-Spent-clause-passes
returns-in-Ok-Spent-clause-passes g c =
    let l = looked_for g.R.Source.left g.R.Source.calls c.args.window c.args.messages.now c.resync.new.self _ Spent c.in-Ok-Spent.field-0-is c.in-Ok-Spent.ensures.goes in
    record { mid = c.resync.new.self; found = Ok Spent; reads = l.0; goes = l.1; passes = c.pass_larger-in-Ok-Spent.ensures.passes; looked = c.pass_larger-in-Ok-Spent.ensures.looked }

pub returns-in-Ok-Spent-clause-packets : goal.returns-in-Ok-Spent-clause-packets
returns-in-Ok-Spent-clause-packets g c = if_ok c.pass_larger-in-Ok-Spent.result _ (λ all has. c.pass_larger-in-Ok-Spent.ensures.packets all (c.in-Ok-Spent.ensures.packets all has))

pub returns-in-Err-clause-passes : goal.returns-in-Err-clause-passes
returns-in-Err-clause-passes g c =
    record { mid = c.resync.new.self; found = Err c.in-Err.fault; reads = c.in-Err.ensures.goes.0; goes = c.in-Err.ensures.goes.1; passes = (refl, refl); looked = refl }
