use Rattle.std.proofs.Common.{◌++◌, take, sym, subst, arith, length-append, length-take}
use Rattle.dbus_texts.specs.declared.scan.ScanState.{ScanState}
use Rattle.dbus_texts.specs.Quotients.{IsQuotient}
use Rattle.dbus_texts.specs.Kinds.{IsOfKind}
use Rattle.dbus_texts.specs.Scans.{state_rest}
use Rattle.dbus_texts.proofs.PlainRuns.{plain_run}
use Rattle.dbus_texts.proofs.scan.TextScan.take_plain.Goals as goal

pub returns-clause-stands : goal.returns-clause-stands
returns-clause-stands c = λ w h.
    let x = c.args.self.now in
    let front = take c.plain_prefix-plain.result c.args.bytes.now in
    let free = c.is_between_characters.ensures c.if-not-is_between_characters.false in
    let before = subst (λ (s : ScanState). IsQuotient (IsOfKind x.kind) w (state_rest s)) free h.quotient in
    record {
      quotient = subst (λ (s : ScanState). IsQuotient (IsOfKind x.kind) (w ++ front) (state_rest s)) (sym free) (plain_run (IsOfKind x.kind) w front c.plain_prefix-plain.ensures.plain before);
      counted = omega (arith, h.counted, length-append w front, length-take c.plain_prefix-plain.result c.args.bytes.now, c.plain_prefix-plain.ensures.within, c.min.ensures, c.saturating_add.ensures, c.min-self.ensures);
    }
