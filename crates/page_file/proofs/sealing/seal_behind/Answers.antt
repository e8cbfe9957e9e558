use Rattle.std.proofs.lemmas.Result.{err_from_is_err_and}
use Rattle.page_file.proofs.Images.{seal_stopped, sealed_behind}
use Rattle.page_file.proofs.sealing.seal_behind.Goals as goal

pub returns-in_err-put-clause-sealed : goal.returns-in_err-put-clause-sealed
returns-in_err-put-clause-sealed g c =
    let p = err_from_is_err_and c.from_residual.result c.from_residual.ensures.1 in
    rw p.1 (seal_stopped c.args.gate c.args.block.now _ _ p.0 c.put.ensures.moments)

pub returns-clause-sealed : goal.returns-clause-sealed
returns-clause-sealed g c =
    sealed_behind c.args.gate c.args.block.now _ _ _ c.put-2.result c.in_ok-put.ensures.ok c.put.ensures.moments c.put-2.ensures.moments c.put-2.ensures.ok
