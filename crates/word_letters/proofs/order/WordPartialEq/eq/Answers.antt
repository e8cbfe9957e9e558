use Rattle.std.proofs.Common.{sym, ap, ◌∙◌}
use Rattle.std.specs.Cmp.{unsigned_ties}
use Rattle.std.specs.Ordering.{eq_by_cmp, is_eq}
use Rattle.zeta_model.specs.Words.{word_cmp}
use Rattle.word_letters.proofs.Packings.{word_cmp_packed}
use Rattle.word_letters.proofs.order.WordPartialEq.eq.Goals as goal

pub returns : goal.returns
returns c =
    unsigned_ties _ _ ∙ ap is_eq (sym (word_cmp_packed _ _ c.self.invariant c.other.invariant))
    ∙ (λ i. eq_by_cmp word_cmp (c.self.view_is i) (c.other.view_is i))
