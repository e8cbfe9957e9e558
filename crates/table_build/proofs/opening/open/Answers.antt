use Rattle.std.proofs.Common.{◌≡◌, Some, Err, ap, subst, sym, ◌∙◌}
use Rattle.page_codec.specs.declared.params.Params.{Params}
use Rattle.file_model.specs.Builds.{HasParams}
use Rattle.table_build.specs.Faults.{look_fault}
use Rattle.table_build.specs.Inner.{IfSealed}
use Rattle.table_build.specs.Resumes.{Tells, fault_says}
use Rattle.table_build.proofs.Openings.{look_tells, own_header}
use Rattle.table_build.proofs.opening.open.Goals as goal
use Rattle.table_build.proofs.opening.open.Goals.{in-Some+else-not-is_own, in_default}

same_params : (p q : Params) → Some p ≡ Some q → p ≡ q
same_params p q e = cc

pub returns-in-Err-clause-told : goal.returns-in-Err-clause-told
returns-in-Err-clause-told g c =
    let told = g.D.Disk.trace c.args.disk.now in
    let params = c.args.params.now in
    let seen = c.in-Err.ensures in
    subst (λ f. Tells params told (fault_says f)) (sym c.look_fault.ensures)
    (subst (λ o. Tells params o (fault_says (look_fault c.in-Err.fault))) c.len.ensures.same
    (look_tells params (g.D.Disk.trace c.len.new.self) c.in-Err.fault (λ n e. seen.foreign n (ap Err e)) (λ i e. seen.bad_page i (ap Err e))))

pub test_places-requires-clause-header : goal.test_places-requires-clause-header
test_places-requires-clause-header g c =
    let params = c.args.params.now in
    let file = c.in-Ok.file in
    let told = g.D.Disk.trace c.len.new.self in
    let noted = c.params.ensures.params in
    let own : (q : Params) → file.params ≡ Some q → q ≡ params = λ q is. elim c.match-params.branch [
      | in-Some+else-not-is_own w ↦ sym (same_params w.in-Some.header q (sym w.in-Some.is ∙ noted ∙ is)) ∙ w.is_own.ensures.0 w.if-not-is_own.false
      | in_default w ↦ absurd (w.in_default.not-Some q (noted ∙ is))
    ] in
    subst (IfSealed (HasParams params)) (sym c.look.ensures.disk) (own_header params told file c.in-Ok.ensures.ok own)
