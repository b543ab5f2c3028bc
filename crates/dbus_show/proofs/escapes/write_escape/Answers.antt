use Rattle.std.proofs.Common.{sym, subst, ◌∙◌}
use Rattle.dbus_show.proofs.EscapedText.{quote_escape, shown_ascii, shown_escape}
use Rattle.dbus_show.proofs.FieldTexts.{then}
use Rattle.dbus_show.proofs.escapes.write_escape.Goals as goal

pub returns-then-is_quote : goal.returns-then-is_quote
returns-then-is_quote g c =
    subst (λ s. g.D.Draft.gains c.args.draft.now s c.push_code-then-is_quote.new.self) (sym (quote_escape c.args.escapes c.args.character c.requires (sym c.is_quote.ensures ∙ c.if-is_quote.true)))
    (then g.D.Draft.gains g.met.D.Draft.joins c.push_code.ensures c.push_code-then-is_quote.ensures)

pub write_ascii-requires : goal.write_ascii-requires
write_ascii-requires g c = shown_ascii c.args.escapes c.args.character c.in-Shown.is c.requires

pub returns-in-Shown : goal.returns-in-Shown
returns-in-Shown g c =
    subst (λ s. g.D.Draft.gains c.args.draft.now s c.write_ascii.new.draft) (sym (shown_escape c.args.escapes c.args.character c.in-Shown.is (sym c.is_quote.ensures ∙ c.if-is_quote.false)))
    c.write_ascii.ensures
