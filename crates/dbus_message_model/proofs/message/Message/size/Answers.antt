use Rattle.std.proofs.Common.{◌∙◌, subst, sym, ◌≤◌, ℕ}
use Rattle.std.specs.Coded.{le_prop}
use mathlib.Core.Logic.{∥∥₁_elim}
use Rattle.dbus_value_model.specs.declared.order.Order.TheVariants.{Little}
use Rattle.dbus_message_model.specs.MessageViews.{message_tree}
use Rattle.dbus_message_model.proofs.BothOrders.{any_message_length}
use Rattle.dbus_message_model.proofs.message.Message.size.Goals as goal

pub returns-clause-exact : goal.returns-clause-exact
returns-clause-exact g c order = c.args.self.now.sized ∙ any_message_length Little order (message_tree c.args.self.now)

pub returns-clause-within : goal.returns-clause-within
returns-clause-within g c = ∥∥₁_elim c.args.self.now.valid le_prop (λ v. subst (λ (n : ℕ). n ≤ 134_217_728) (sym c.args.self.now.sized) (v Little).limit)
