use Rattle.std.proofs.Common.{sym, ap, ◌∙◌}
use Rattle.std.specs.Prelude.{not, ◌&&◌}
use Rattle.std.specs.List.{list_all}
use Rattle.zeta_model.specs.Words.{is_admissible}
use Rattle.dual_reply.specs.Inner.{is_plain}
use Rattle.dual_reply.specs.declared.words.Signed.{Signed}
use Rattle.dual_reply.proofs.draft.Draft.is_plain.Goals as goal

pub returns-then-is_none : goal.returns-then-is_none
returns-then-is_none c =
    let terms = c.self.inside.terms.items in
    c.are_admissible.ensures
    ∙ ap (list_all (λ (s : Signed). is_admissible s.word)) c.deref.ensures
    ∙ sym (ap (λ t. not t && list_all (λ (s : Signed). is_admissible s.word) terms) c.if-is_none.ensures)
    ∙ ap is_plain c.self.view_is
