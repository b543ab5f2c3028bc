use Rattle.std.proofs.Common.{[], ⊎_elim, sym, subst}
use Rattle.dbus_texts.specs.Quotients.{IsQuotient}
use Rattle.dbus_texts.specs.Kinds.{IsSignature, IsSingle}
use Rattle.dbus_texts.specs.SignatureScans.{sig_rest}
use Rattle.dbus_texts.proofs.ScanSteps.{path_starts, interface_starts, member_starts, bus_starts, signature_starts, single_starts}
use Rattle.dbus_texts.proofs.scan.ScanState.of_kind.Goals as goal

pub returns-in-Path : goal.returns-in-Path
returns-in-Path c = rw (c.in-Path.is, c.at.ensures) path_starts

pub returns-in-Interface : goal.returns-in-Interface
returns-in-Interface c = rw c.at-in-Interface.ensures (⊎_elim (λ e. rw e interface_starts) (λ e. rw e interface_starts) c.in-Interface.is)

pub returns-in-Member : goal.returns-in-Member
returns-in-Member c = rw (c.in-Member.is, c.at-in-Member.ensures) member_starts

pub returns-in-BusName : goal.returns-in-BusName
returns-in-BusName c = rw (c.in-BusName.is, c.at-in-BusName.ensures) bus_starts

pub returns-in-Signature : goal.returns-in-Signature
returns-in-Signature c = rw c.in-Signature.is (subst (λ v. IsQuotient IsSignature [] (sig_rest v)) (sym c.new.ensures) signature_starts)

pub returns-in-Single : goal.returns-in-Single
returns-in-Single c = rw c.in-Single.is (subst (λ v. IsQuotient IsSingle [] (sig_rest v)) (sym c.new-in-Single.ensures) single_starts)
