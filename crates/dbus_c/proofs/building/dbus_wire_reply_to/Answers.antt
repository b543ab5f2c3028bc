use Rattle.std.proofs.Common.{ℕ, refl, subst, arith, ◌∙◌, ap}
use Rattle.dbus_value_model.specs.declared.limits.Limits.{Limits}
use Rattle.dbus_value_model.specs.declared.order.Order.{Order}
use Rattle.dbus_c.specs.Building.{Builds, Nothing, no_call, replied, reply_draft}
use Rattle.dbus_c.specs.GivenLimits.{limits_of}
use Rattle.dbus_c.specs.declared.drafts.WireDraft.{WireDraft}
use Rattle.dbus_c.proofs.building.dbus_wire_reply_to.Goals as goal

pub build_given-requires : goal.build_given-requires
build_given-requires c = (Nothing, refl)

pub returns-in-Ok : goal.returns-in-Ok
returns-in-Ok c =
    let limits = limits_of c.args.limits.now in
    let of_limits = subst (λ (l : Limits). Builds l Nothing c.reply_draft-reply.result c.build_given.result c.build_given.new.told c.args.out.now c.build_given.new.out) c.given_limits.ensures (c.build_given.ensures Nothing refl) in
    let call = c.first_view-call.ensures.viewed in
    let same = c.reply_draft-reply.ensures
    ∙ ap (λ (o : Order). reply_draft o c.serial.result c.sender_of.result c.args.draft.now) (c.order.ensures call.order call.message call.views)
    ∙ ap (λ (n : ℕ). reply_draft call.order n c.sender_of.result c.args.draft.now) (c.serial.ensures call.order call.message call.views) in
    let of_call = subst (λ (w : WireDraft). Builds limits Nothing w c.build_given.result c.build_given.new.told c.args.out.now c.build_given.new.out) same of_limits in
    replied call.order call.message _ c.sender_of.result call.whole (c.sender_of.ensures call.order call.message call.views) of_call

pub returns-in-Err : goal.returns-in-Err
returns-in-Err c = no_call (λ order m n whole. let is = (c.in-Err.ensures.checked.exact.whole order m n whole).0 in omega (arith, is, c.in-Err.ensures.none)) c.in-Err.ensures.checked.tells refl
