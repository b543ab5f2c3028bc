use Rattle.dbus_view.proofs.fields.Fields.new.Goals as goal

pub fields_end-requires : goal.fields_end-requires
fields_end-requires c = let s = c.requires in record { stand = (c.args.depth_left, s.0, s.1, s.2) }

pub invariant_of-result : goal.invariant_of-result
invariant_of-result c = let s = c.requires in (s.0, s.1, c.fields_end.ensures c.args.depth_left s.0 s.1 s.2)

pub returns : goal.returns
returns c = λ fs rest s. (rest, (c.fields_end.ensures c.args.depth_left fs rest s).stand)
