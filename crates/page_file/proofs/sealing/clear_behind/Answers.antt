use Rattle.std.proofs.lemmas.Result.{err_from_is_err_and}
use Rattle.page_file.proofs.Images.{cut_stopped, cleared}
use Rattle.page_file.proofs.sealing.clear_behind.Goals as goal

pub returns-in_err-cut_behind-clause-cleared : goal.returns-in_err-cut_behind-clause-cleared
returns-in_err-cut_behind-clause-cleared g c =
    let p = err_from_is_err_and c.from_residual.result c.from_residual.ensures.1 in
    rw p.1 (cut_stopped c.args.end _ _ p.0 c.cut_behind.ensures.moments)

pub returns-clause-cleared : goal.returns-clause-cleared
returns-clause-cleared g c =
    cleared c.args.end _ _ _ c.put.result c.in_ok-cut_behind.ensures.ok c.cut_behind.ensures.moments c.put.ensures.moments c.put.ensures.ok
