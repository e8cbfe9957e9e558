use Rattle.std.proofs.Common.{sym, ◌∙◌}
use Rattle.zeta_model.specs.Words.{word_cmp}
use Rattle.word_letters.proofs.Packings.{word_cmp_packed}
use Rattle.word_letters.proofs.order.WordOrd.cmp.Goals as goal

pub returns : goal.returns
returns c =
    c.cmp.ensures ∙ sym (word_cmp_packed _ _ c.self.invariant c.other.invariant) ∙ (λ i. word_cmp (c.self.view_is i) (c.other.view_is i))
