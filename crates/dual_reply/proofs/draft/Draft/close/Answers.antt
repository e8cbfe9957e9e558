use Rattle.std.specs.List.{position}
use Rattle.std.proofs.Common.{◌<◌, ◌≤◌, ◌==◌, Err, [], ◌∷◌, ◌++◌, length, sum, All, sym, ap, subst, ◌∙◌}
use Rattle.zeta_model.specs.Indices.{word_of_index}
use Rattle.dual_reply.specs.Inner.{DraftForm, with_zeta}
use Rattle.dual_reply.proofs.ClosedZetas.{light_zeta, heavy_zeta, empty_zeta, zero_zeta, earlier-none, earlier-some}
use Rattle.dual_reply.proofs.draft.Draft.close.Goals as goal

pub returns-in_ok-push-in-Ok : goal.returns-in_ok-push-in-Ok
returns-in_ok-push-in-Ok c =
    let s = c.self.inside in
    let d : DraftForm = record { terms = s.terms.items; heavy = s.heavy; negative = s.negative; index = s.index.items } in
    let e = c.deref.ensures in
    let f = c.in-Ok.ensures.fits in
    ap (λ ts. record d { terms = ts })
    (c.in_ok-push-in-Ok.ensures.ok
    ∙ ap (λ w. s.terms.items ++ record { negative = s.negative; word = w } ∷ []) (c.in-Ok.ensures.word ∙ ap word_of_index e))
    ∙ light_zeta d (subst (λ ks. 0 < length ks) e f.0) (subst (λ ks. All (λ k. 0 < k) ks) e f.1) (subst (λ ks. sum ks ≤ 24) e f.2)
    ∙ ap with_zeta c.self.view_is

pub returns-then-is_none : goal.returns-then-is_none
returns-then-is_none c =
    let s = c.self.inside in
    let d : DraftForm = record { terms = s.terms.items; heavy = s.heavy; negative = s.negative; index = s.index.items } in
    let e = c.deref.ensures in
    let arm = c.in-Err-TooLong in
    let h = (c.from_index.ensures.too_long arm.weight).0 (arm.is ∙ ap (λ x. Err x) arm.field-0-is) in
    ap (λ w. record d { heavy = w }) (earlier-none s.heavy c.if-is_none.ensures arm.weight (sum s.index.items) (h.1 ∙ ap sum e))
    ∙ heavy_zeta d (subst (λ ks. All (λ k. 0 < k) ks) e h.0) (subst (λ n. 24 < n) (h.1 ∙ ap sum e) h.2)
    ∙ ap with_zeta c.self.view_is

pub returns-else-is_none : goal.returns-else-is_none
returns-else-is_none c =
    let s = c.self.inside in
    let d : DraftForm = record { terms = s.terms.items; heavy = s.heavy; negative = s.negative; index = s.index.items } in
    let e = c.deref.ensures in
    let arm = c.in-Err-TooLong in
    let h = (c.from_index.ensures.too_long arm.weight).0 (arm.is ∙ ap (λ x. Err x) arm.field-0-is) in
    sym c.self.view_is
    ∙ ap (λ w. record d { heavy = w }) (earlier-some s.heavy c.if-is_none.ensures (sum s.index.items))
    ∙ heavy_zeta d (subst (λ ks. All (λ k. 0 < k) ks) e h.0) (subst (λ n. 24 < n) (h.1 ∙ ap sum e) h.2)
    ∙ ap with_zeta c.self.view_is

pub returns-in-Err-EmptyIndex : goal.returns-in-Err-EmptyIndex
returns-in-Err-EmptyIndex c =
    let s = c.self.inside in
    let d : DraftForm = record { terms = s.terms.items; heavy = s.heavy; negative = s.negative; index = s.index.items } in
    let arm = c.in-Err-EmptyIndex in
    sym c.self.view_is
    ∙ empty_zeta d (sym c.deref.ensures ∙ c.from_index.ensures.empty_index.0 (arm.is ∙ ap (λ x. Err x) arm.field-0-is))
    ∙ ap with_zeta c.self.view_is

pub returns-in-Err-ZeroIndex : goal.returns-in-Err-ZeroIndex
returns-in-Err-ZeroIndex c =
    let s = c.self.inside in
    let d : DraftForm = record { terms = s.terms.items; heavy = s.heavy; negative = s.negative; index = s.index.items } in
    let arm = c.in-Err-ZeroIndex in
    let z = (c.from_index.ensures.zero_index arm.field-0-0).0 (arm.is ∙ ap (λ x. Err x) arm.field-0-is) in
    sym c.self.view_is ∙ zero_zeta d arm.field-0-0 (ap (position (λ k. k == 0)) (sym c.deref.ensures) ∙ z) ∙ ap with_zeta c.self.view_is
