use Rattle.std.proofs.Common.{refl, subst}
use Rattle.dbus_resync.specs.Search.{Finds, KeepsEffort}
use Rattle.dbus_value_model.specs.declared.limits.Limits.{Limits}
use Rattle.dbus_page.proofs.search.dbus_page_search.Goals as goal

pub returns : goal.returns
returns c =
    let s = c.first_message-searched.result in
    let are = c.first_message-searched.ensures in
    record {
      searched = s;
      searches = record {
        finds = subst (λ (l : Limits). Finds l c.args.bytes.now s.found) c.specification.ensures are.finds;
        keeps_effort = subst (λ (l : Limits). KeepsEffort l c.args.bytes.now c.args.effort s.looked s.found) c.specification.ensures are.effort;
      };
      looked = refl;
      found = c.answer_and_offset-answer.ensures;
    }
