-- What the representative of a word keeps.
use Rattle.std.proofs.Common.{◌≡◌, ⊎_elim, List, length, ap, ◌∙◌}
use Rattle.zeta_model.specs.declared.Letter.{Letter}
use Rattle.zeta_model.specs.Words.{is_admissible}
use Rattle.zeta_model.specs.Duality.{representative_of}
use Rattle.zeta_model.proofs.DualityLaws.{length-dual_of, is_admissible-dual_of, representative_of-dual_of}
use Rattle.duality_map.proofs.DualLetters.{representative_cases}

abbrev W : Type 0
W = List Letter

pub representative_of-representative_of : (w : W) → representative_of (representative_of w) ≡ representative_of w
representative_of-representative_of w =
    ⊎_elim (λ e. ap representative_of e) (λ e. ap representative_of e ∙ representative_of-dual_of w) (representative_cases w)

pub is_admissible-representative_of : (w : W) → is_admissible (representative_of w) ≡ is_admissible w
is_admissible-representative_of w =
    ⊎_elim (λ e. ap is_admissible e) (λ e. ap is_admissible e ∙ is_admissible-dual_of w) (representative_cases w)

pub length-representative_of : (w : W) → length (representative_of w) ≡ length w
length-representative_of w = ⊎_elim (λ e. ap length e) (λ e. ap length e ∙ length-dual_of w) (representative_cases w)
