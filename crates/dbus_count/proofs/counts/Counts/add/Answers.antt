use Rattle.std.proofs.Common.{◌≡◌, Some, codes, length, option_map, ap, ◌∙◌, subst}
use Rattle.dbus_texts.specs.Types.{STRING}
use Rattle.dbus_message_model.specs.KnownFields.{field_value}
use Rattle.dbus_message_model.specs.declared.field_code.TheConstants as field
use Rattle.dbus_count.specs.Counting.{CountsFirst, with_names, counting_of, member_of, named, names_of, text_at}
use Rattle.dbus_show.specs.ShownMessages.{kind_text}
use Rattle.dbus_count.proofs.NameSteps.{all_names, on_any, on_err, on_ok, text_seen, kind_fails, sender_fails, destination_fails, interface_fails, member_fails, error_fails}
use Rattle.dbus_count.proofs.counts.Counts.add.Goals as goal

pub returns-clause-counted : goal.returns-clause-counted
returns-clause-counted c = λ order m views. on_ok c.count_name-4.result (λ last q.
    let size = length c.bytes.result.now in
    let sender = text_seen c.sender.result STRING (field_value field.SENDER m.fields) (c.sender.ensures order m views) in
    let destination = text_seen c.destination.result STRING (field_value field.DESTINATION m.fields) (c.destination.ensures order m views) in
    let interface = text_seen c.interface.result STRING (field_value field.INTERFACE m.fields) (c.interface.ensures order m views) in
    let interface2 = text_seen c.interface-2.result STRING (field_value field.INTERFACE m.fields) (c.interface-2.ensures order m views) in
    let member = text_seen c.member.result STRING (field_value field.MEMBER m.fields) (c.member.ensures order m views) in
    let error = text_seen c.error_name.result STRING (field_value field.ERROR_NAME m.fields) (c.error_name.ensures order m views) in
    let kind = ap kind_text (c.kind.ensures order m views) in
    let c0 = counting_of c.args.self.now q in
    let c1 = counting_of c.count_kind.new.self q in
    let c2 = counting_of c.count_name.new.self q in
    let c3 = counting_of c.count_name-2.new.self q in
    let c4 = counting_of c.count_name-3.new.self q in
    let c5 = counting_of c.count_member.new.self q in
    let c6 = counting_of c.count_name-4.new.self q in
    subst (λ b. c6 ≡ with_names (names_of m) (length b) q c0) c.bytes.ensures.bytes (all_names m size q c0 c1 c2 c3 c4 c5 c6
    (c.in_ok-count_kind.ensures.counted q ∙ ap (λ t. with_names (named (codes "type ") (Some t)) size q c0) kind)
    (c.in_ok-count_name.ensures.counted q ∙ ap (λ t. with_names (named (codes "sender ") t) size q c1) sender)
    (c.in_ok-count_name-2.ensures.counted q ∙ ap (λ t. with_names (named (codes "destination ") t) size q c2) destination)
    (c.in_ok-count_name-3.ensures.counted q ∙ ap (λ t. with_names (named (codes "interface ") t) size q c3) interface)
    (c.in_ok-count_member.ensures.counted q ∙ (ap (λ t. with_names (named (codes "member ") (member_of t (option_map (λ s. s.now) c.member.result))) size q c4) interface2
    ∙ ap (λ t. with_names (named (codes "member ") (member_of (text_at field.INTERFACE m) t)) size q c4) member))
    (last q ∙ ap (λ t. with_names (named (codes "error ") t) size q c5) error))) c.count_name-4.ensures.counted

pub returns-in_err-count_kind-clause-failed : goal.returns-in_err-count_kind-clause-failed
returns-in_err-count_kind-clause-failed c = λ order m views.
    let size = length c.bytes.result.now in
    let kind = ap kind_text (c.kind.ensures order m views) in
    let c0 = counting_of c.args.self.now in
    let c1 = counting_of c.count_kind.new.self in
    on_any c.from_residual.result (subst (λ b. CountsFirst (names_of m) (length b) c0 c1) c.bytes.ensures.bytes (kind_fails m size c0 c1
    (subst (λ t. CountsFirst (named (codes "type ") (Some t)) size c0 c1) kind c.in_err-count_kind.ensures.failed)))

pub returns-in_err-count_name-clause-failed : goal.returns-in_err-count_name-clause-failed
returns-in_err-count_name-clause-failed c = λ order m views.
    let size = length c.bytes.result.now in
    let kind = ap kind_text (c.kind.ensures order m views) in
    let sender = text_seen c.sender.result STRING (field_value field.SENDER m.fields) (c.sender.ensures order m views) in
    let c0 = counting_of c.args.self.now in
    let c1 = counting_of c.count_kind.new.self in
    let c2 = counting_of c.count_name.new.self in
    on_any c.from_residual-in_err-count_name.result (subst (λ b. CountsFirst (names_of m) (length b) c0 c2) c.bytes.ensures.bytes (sender_fails m size c0 c1 c2
    (λ q. c.in_ok-count_kind.ensures.counted q ∙ ap (λ t. with_names (named (codes "type ") (Some t)) size q (c0 q)) kind)
    (subst (λ t. CountsFirst (named (codes "sender ") t) size c1 c2) sender c.in_err-count_name.ensures.failed)))

pub returns-in_err-count_name-2-clause-failed : goal.returns-in_err-count_name-2-clause-failed
returns-in_err-count_name-2-clause-failed c = λ order m views.
    let size = length c.bytes.result.now in
    let kind = ap kind_text (c.kind.ensures order m views) in
    let sender = text_seen c.sender.result STRING (field_value field.SENDER m.fields) (c.sender.ensures order m views) in
    let destination = text_seen c.destination.result STRING (field_value field.DESTINATION m.fields) (c.destination.ensures order m views) in
    let c0 = counting_of c.args.self.now in
    let c1 = counting_of c.count_kind.new.self in
    let c2 = counting_of c.count_name.new.self in
    let c3 = counting_of c.count_name-2.new.self in
    on_any c.from_residual-in_err-count_name-2.result (subst (λ b. CountsFirst (names_of m) (length b) c0 c3) c.bytes.ensures.bytes (destination_fails m size c0 c1 c2 c3
    (λ q. c.in_ok-count_kind.ensures.counted q ∙ ap (λ t. with_names (named (codes "type ") (Some t)) size q (c0 q)) kind)
    (λ q. c.in_ok-count_name.ensures.counted q ∙ ap (λ t. with_names (named (codes "sender ") t) size q (c1 q)) sender)
    (subst (λ t. CountsFirst (named (codes "destination ") t) size c2 c3) destination c.in_err-count_name-2.ensures.failed)))

pub returns-in_err-count_name-3-clause-failed : goal.returns-in_err-count_name-3-clause-failed
returns-in_err-count_name-3-clause-failed c = λ order m views.
    let size = length c.bytes.result.now in
    let kind = ap kind_text (c.kind.ensures order m views) in
    let sender = text_seen c.sender.result STRING (field_value field.SENDER m.fields) (c.sender.ensures order m views) in
    let destination = text_seen c.destination.result STRING (field_value field.DESTINATION m.fields) (c.destination.ensures order m views) in
    let interface = text_seen c.interface.result STRING (field_value field.INTERFACE m.fields) (c.interface.ensures order m views) in
    let c0 = counting_of c.args.self.now in
    let c1 = counting_of c.count_kind.new.self in
    let c2 = counting_of c.count_name.new.self in
    let c3 = counting_of c.count_name-2.new.self in
    let c4 = counting_of c.count_name-3.new.self in
    on_any c.from_residual-in_err-count_name-3.result (subst (λ b. CountsFirst (names_of m) (length b) c0 c4) c.bytes.ensures.bytes (interface_fails m size c0 c1 c2 c3 c4
    (λ q. c.in_ok-count_kind.ensures.counted q ∙ ap (λ t. with_names (named (codes "type ") (Some t)) size q (c0 q)) kind)
    (λ q. c.in_ok-count_name.ensures.counted q ∙ ap (λ t. with_names (named (codes "sender ") t) size q (c1 q)) sender)
    (λ q. c.in_ok-count_name-2.ensures.counted q ∙ ap (λ t. with_names (named (codes "destination ") t) size q (c2 q)) destination)
    (subst (λ t. CountsFirst (named (codes "interface ") t) size c3 c4) interface c.in_err-count_name-3.ensures.failed)))

pub returns-in_err-count_member-clause-failed : goal.returns-in_err-count_member-clause-failed
returns-in_err-count_member-clause-failed c = λ order m views.
    let size = length c.bytes.result.now in
    let kind = ap kind_text (c.kind.ensures order m views) in
    let sender = text_seen c.sender.result STRING (field_value field.SENDER m.fields) (c.sender.ensures order m views) in
    let destination = text_seen c.destination.result STRING (field_value field.DESTINATION m.fields) (c.destination.ensures order m views) in
    let interface = text_seen c.interface.result STRING (field_value field.INTERFACE m.fields) (c.interface.ensures order m views) in
    let interface2 = text_seen c.interface-2.result STRING (field_value field.INTERFACE m.fields) (c.interface-2.ensures order m views) in
    let member = text_seen c.member.result STRING (field_value field.MEMBER m.fields) (c.member.ensures order m views) in
    let c0 = counting_of c.args.self.now in
    let c1 = counting_of c.count_kind.new.self in
    let c2 = counting_of c.count_name.new.self in
    let c3 = counting_of c.count_name-2.new.self in
    let c4 = counting_of c.count_name-3.new.self in
    let c5 = counting_of c.count_member.new.self in
    on_any c.from_residual-in_err-count_member.result (subst (λ b. CountsFirst (names_of m) (length b) c0 c5) c.bytes.ensures.bytes (member_fails m size c0 c1 c2 c3 c4 c5
    (λ q. c.in_ok-count_kind.ensures.counted q ∙ ap (λ t. with_names (named (codes "type ") (Some t)) size q (c0 q)) kind)
    (λ q. c.in_ok-count_name.ensures.counted q ∙ ap (λ t. with_names (named (codes "sender ") t) size q (c1 q)) sender)
    (λ q. c.in_ok-count_name-2.ensures.counted q ∙ ap (λ t. with_names (named (codes "destination ") t) size q (c2 q)) destination)
    (λ q. c.in_ok-count_name-3.ensures.counted q ∙ ap (λ t. with_names (named (codes "interface ") t) size q (c3 q)) interface)
    (subst (λ t. CountsFirst (named (codes "member ") (member_of (text_at field.INTERFACE m) t)) size c4 c5) member (subst (λ t. CountsFirst (named (codes "member ") (member_of t (option_map (λ s. s.now) c.member.result))) size c4 c5) interface2 c.in_err-count_member.ensures.failed))))

pub returns-clause-failed : goal.returns-clause-failed
returns-clause-failed c = λ order m views. on_err c.count_name-4.result (λ last.
    let size = length c.bytes.result.now in
    let kind = ap kind_text (c.kind.ensures order m views) in
    let sender = text_seen c.sender.result STRING (field_value field.SENDER m.fields) (c.sender.ensures order m views) in
    let destination = text_seen c.destination.result STRING (field_value field.DESTINATION m.fields) (c.destination.ensures order m views) in
    let interface = text_seen c.interface.result STRING (field_value field.INTERFACE m.fields) (c.interface.ensures order m views) in
    let interface2 = text_seen c.interface-2.result STRING (field_value field.INTERFACE m.fields) (c.interface-2.ensures order m views) in
    let member = text_seen c.member.result STRING (field_value field.MEMBER m.fields) (c.member.ensures order m views) in
    let error = text_seen c.error_name.result STRING (field_value field.ERROR_NAME m.fields) (c.error_name.ensures order m views) in
    let c0 = counting_of c.args.self.now in
    let c1 = counting_of c.count_kind.new.self in
    let c2 = counting_of c.count_name.new.self in
    let c3 = counting_of c.count_name-2.new.self in
    let c4 = counting_of c.count_name-3.new.self in
    let c5 = counting_of c.count_member.new.self in
    let c6 = counting_of c.count_name-4.new.self in
    subst (λ b. CountsFirst (names_of m) (length b) c0 c6) c.bytes.ensures.bytes (error_fails m size c0 c1 c2 c3 c4 c5 c6
    (λ q. c.in_ok-count_kind.ensures.counted q ∙ ap (λ t. with_names (named (codes "type ") (Some t)) size q (c0 q)) kind)
    (λ q. c.in_ok-count_name.ensures.counted q ∙ ap (λ t. with_names (named (codes "sender ") t) size q (c1 q)) sender)
    (λ q. c.in_ok-count_name-2.ensures.counted q ∙ ap (λ t. with_names (named (codes "destination ") t) size q (c2 q)) destination)
    (λ q. c.in_ok-count_name-3.ensures.counted q ∙ ap (λ t. with_names (named (codes "interface ") t) size q (c3 q)) interface)
    (λ q. c.in_ok-count_member.ensures.counted q ∙ (ap (λ t. with_names (named (codes "member ") (member_of t (option_map (λ s. s.now) c.member.result))) size q (c4 q)) interface2 ∙ ap (λ t. with_names (named (codes "member ") (member_of (text_at field.INTERFACE m) t)) size q (c4 q)) member))
    (subst (λ t. CountsFirst (named (codes "error ") t) size c5 c6) error last))) c.count_name-4.ensures.failed
