use Rattle.std.proofs.Common.{refl, ◌∙◌}
use Rattle.dbus_texts.specs.Types.{BOOLEAN, UNIX_FD, STRING, OBJECT_PATH, SIGNATURE}
use Rattle.dbus_types.proofs.TypeCodes.{text_is, boolean_is, descriptor_is}
use Rattle.dbus_value_validator.proofs.ValueSteps.{as_number, as_text, free_value}
use Rattle.dbus_value_validator.proofs.basic.basic_value.Goals as goal

pub returns-in-1-clause-gives : goal.returns-in-1-clause-gives
returns-in-1-clause-gives c = λ depth_left t e basic.
    free_value c.args.source.now c.args.end c.args.at c.free_width-width.result 1 depth_left t c.free_number.result c.if-width-gt0.true (c.free_width-width.ensures.value t e) c.in-1.is c.free_number.ensures.gives

pub returns-in-2-clause-gives : goal.returns-in-2-clause-gives
returns-in-2-clause-gives c = λ depth_left t e basic.
    free_value c.args.source.now c.args.end c.args.at c.free_width-width.result 2 depth_left t c.free_number-in-2.result c.if-width-gt0.true (c.free_width-width.ensures.value t e) c.in-2.is c.free_number-in-2.ensures.gives

pub returns-in-4-clause-gives : goal.returns-in-4-clause-gives
returns-in-4-clause-gives c = λ depth_left t e basic.
    free_value c.args.source.now c.args.end c.args.at c.free_width-width.result 4 depth_left t c.free_number-in-4.result c.if-width-gt0.true (c.free_width-width.ensures.value t e) c.in-4.is c.free_number-in-4.ensures.gives

pub returns-in_default-clause-gives : goal.returns-in_default-clause-gives
returns-in_default-clause-gives c = λ depth_left t e basic.
    let wide = c.free_width-width.result in
    free_value c.args.source.now c.args.end c.args.at wide wide depth_left t c.free_number-in_default.result c.if-width-gt0.true (c.free_width-width.ensures.value t e) refl c.free_number-in_default.ensures.gives

pub returns-then-code-eq115-clause-gives : goal.returns-then-code-eq115-clause-gives
returns-then-code-eq115-clause-gives c = λ depth_left t e basic.
    let source = c.args.source.now in
    as_text source.bounds source.order depth_left c.args.end c.args.at source.bytes.now t c.long_text.result STRING (text_is t STRING (e ∙ c.if-code-eq115.true)) (c.long_text.ensures.gives STRING refl refl)

pub returns-then-code-eq111-clause-gives : goal.returns-then-code-eq111-clause-gives
returns-then-code-eq111-clause-gives c = λ depth_left t e basic.
    let source = c.args.source.now in
    as_text source.bounds source.order depth_left c.args.end c.args.at source.bytes.now t c.long_text-then-code-eq111.result OBJECT_PATH (text_is t OBJECT_PATH (e ∙ c.if-code-eq111.true)) (c.long_text-then-code-eq111.ensures.gives OBJECT_PATH refl refl)

pub returns-then-code-eq103-clause-gives : goal.returns-then-code-eq103-clause-gives
returns-then-code-eq103-clause-gives c = λ depth_left t e basic.
    let source = c.args.source.now in
    as_text source.bounds source.order depth_left c.args.end c.args.at source.bytes.now t c.signature.result SIGNATURE (text_is t SIGNATURE (e ∙ c.if-code-eq103.true)) (c.signature.ensures.gives source.order)

pub returns-then-code-eq98-clause-gives : goal.returns-then-code-eq98-clause-gives
returns-then-code-eq98-clause-gives c = λ depth_left t e basic.
    let source = c.args.source.now in
    as_number source.bounds source.order depth_left c.args.end c.args.at source.bytes.now t c.boolean.result BOOLEAN (boolean_is t (e ∙ c.if-code-eq98.true)) (c.boolean.ensures.gives source.bounds.fds)

pub returns-then-code-eq104-clause-gives : goal.returns-then-code-eq104-clause-gives
returns-then-code-eq104-clause-gives c = λ depth_left t e basic.
    let source = c.args.source.now in
    as_number source.bounds source.order depth_left c.args.end c.args.at source.bytes.now t c.descriptor.result UNIX_FD (descriptor_is t (e ∙ c.if-code-eq104.true)) c.descriptor.ensures.gives
