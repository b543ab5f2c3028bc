use Rattle.cli_options.proofs.owners.is_ownership.Goals as goal

pub returns-then-is_well_known_name : goal.returns-then-is_well_known_name
returns-then-is_well_known_name c = (
  λ t. (c.is_well_known_name.ensures.0 c.if-is_well_known_name.true, c.is_unique_name.ensures.0 t),
  λ h. c.is_unique_name.ensures.1 h.1,
)
