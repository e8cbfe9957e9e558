use Rattle.table_rewrite.proofs.LineSums.{read_refused, line_refused, line_sum, line_means}
use Rattle.table_rewrite.proofs.rewrite.sum_of_line.Goals as goal

pub returns-in-Err-clause-refused : goal.returns-in-Err-clause-refused
returns-in-Err-clause-refused g c =
    read_refused (g.R.Ring.modulus c.args.ring.now) c.args.w c.args.d c.args.line.now c.in-Err.fault c.in-Err.ensures.err

pub returns-in-Ok-clause-sum : goal.returns-in-Ok-clause-sum
returns-in-Ok-clause-sum g c =
    let ring = c.args.ring.now in
    line_sum (g.R.Ring.modulus ring) c.args.w c.args.d c.args.line.now c.in-Ok.e c.in-Ok.ensures.fits c.in-Ok.ensures.ok
    g.R.Ring.zero (g.R.Ring.has ring) (g.R.Ring.value ring) c.meaning.result c.meaning.ensures.value

pub returns-in-Ok-clause-means : goal.returns-in-Ok-clause-means
returns-in-Ok-clause-means g c =
    let ring = c.args.ring.now in
    line_means (g.R.Ring.modulus ring) c.args.w c.args.d c.args.line.now c.in-Ok.e c.in-Ok.ensures.fits c.in-Ok.ensures.ok
    g.R.Ring.zero (g.R.Ring.has ring) (g.R.Ring.value ring) c.meaning.result c.meaning.ensures.value c.meaning.ensures.fits

pub returns-in-Ok-clause-refused : goal.returns-in-Ok-clause-refused
returns-in-Ok-clause-refused g c =
    let ring = c.args.ring.now in
    line_refused (g.R.Ring.modulus ring) c.args.w c.args.d c.args.line.now c.in-Ok.e c.in-Ok.ensures.fits c.in-Ok.ensures.ok
    c.meaning.result c.meaning.ensures.err
