-- What a sum gains, by equal numbers.
use Rattle.std.proofs.Common.{◌≡◌, ℕ, ◌+◌, ◌%◌, List, ap, ◌∙◌}
use Rattle.zeta_model.specs.declared.Letter.{Letter}
use Rattle.zeta_model.specs.Sums.{Sum}
use Rattle.zeta_model.specs.Modular.{Same}
use Rattle.zeta_model.proofs.ModularLemmas.{same-add_left}
use Rattle.word_sums.specs.Sums.{Gains}

pub gains_same : (m : ℕ) (a b n k : Sum) → ((t : List Letter) → n t ≡ k t) → Gains m a b n → Gains m a b k
gains_same m a b n k same adds = record { each = λ t. adds.each t ∙ ap (λ x. (a t + x) % m) (same t) }

-- numbers are gained modulo m
pub gains_modulo : (m : ℕ) (a b n k : Sum) → ((t : List Letter) → Same m (n t) (k t)) → Gains m a b n → Gains m a b k
gains_modulo m a b n k same adds = record { each = λ t. adds.each t ∙ same-add_left m (n t) (k t) (a t) (same t) }
