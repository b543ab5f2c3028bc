-- One call more is added to sums, or left out.
use Rattle.std.proofs.Common.{◌≡◌, List, ℕ, [], ◌∷◌, ◌++◌, Bool, true, false, Option, Some, if◌then◌else◌, ap, ◌∙◌, sym}
use Rattle.std.specs.Option.{unwrap_or}
use Rattle.std.specs.Str.{bytes_eq}
use Rattle.dbus_call_lines.specs.Keeping.{EndedCall}
use Rattle.dbus_call_members.specs.Summing.{Adds, AreSums, is_short, no_calls, sums_in, with_call, with_one}
use Rattle.dbus_call_members.specs.declared.member_sum.MemberSum.{MemberSum}
use Rattle.dbus_call_members.specs.declared.member_sums.MemberSums.{MemberSums}
use Rattle.dbus_call_members.proofs.Pushing.{sums_push}

true_false : true ≡ false → ⊥
true_false is = cc

pub added : (before after : MemberSums) (c : EndedCall) → ((name : List ℕ) → sums_in after name ≡ with_one c.text c.place.time c.outcome (sums_in before) name) → is_short after ≡ is_short before → Adds before (c ∷ []) after
added before after c one same = record {
  stays = λ h. same ∙ h;
  adds = λ h earlier are name.
      one name
      ∙ (ap (λ (o : Option MemberSum). if bytes_eq c.text name then Some (with_call (unwrap_or o no_calls) c.place.time c.outcome) else o) (are name) ∙ sym (sums_push earlier c name));
}

pub left_out : (before after : MemberSums) (calls : List EndedCall) → is_short after ≡ true → Adds before calls after
left_out before after calls short = record { stays = λ h. short; adds = λ h earlier are. absurd (true_false (sym short ∙ h)) }
