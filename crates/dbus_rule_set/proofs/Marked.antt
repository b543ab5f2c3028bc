-- One more kind is used.
use Rattle.std.proofs.Common.{◌≡◌, ℕ, ◌<◌, ⊎_elim, Bool, true, false, List, length, get_or, set, slice_index_or, ap, ◌∙◌}
use Rattle.std.proofs.lemmas.Bool.{cases_eq}
use Rattle.std.proofs.lemmas.List.{get_or-set_same, get_or-set_other}

pub mark_up : (us : List Bool) (i k : ℕ) → i < length us → slice_index_or us k false ≡ true → slice_index_or (set us i true) k false ≡ true
mark_up us i k l h = ⊎_elim (λ e. ap (λ j. get_or (set us i true) j false) e ∙ get_or-set_same us i true false l) (λ d. get_or-set_other us i k true false d ∙ h) (cases_eq k i)
