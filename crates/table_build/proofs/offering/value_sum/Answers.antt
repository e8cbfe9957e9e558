use Rattle.std.proofs.Common.{subst}
use Rattle.std.specs.Map.{keys_of}
use Rattle.word_sums.specs.Sums.{IsSumOf}
use Rattle.relation_list.specs.Values.{value_of}
use Rattle.table_build.proofs.NamedValues.{table_words}
use Rattle.table_build.proofs.offering.value_sum.Goals as goal

pub returns-clause-value : goal.returns-clause-value
returns-clause-value g c =
    let name = c.args.name.now in
    subst (λ r. IsSumOf g.R.Ring.zero (g.R.Ring.has r) (g.R.Ring.value r) (g.R.Ring.modulus r) (value_of (g.R.Ring.modulus r) name) c.in_ok-sum.sum)
    c.requires.kept_ring c.in_ok-sum.ensures.value

pub returns-clause-words : goal.returns-clause-words
returns-clause-words g c =
    let t = c.args.table.now in
    table_words t.columns.weight t.columns.depth c.args.name.now (keys_of c.in_ok-sum.sum) c.requires.weight c.requires.depth c.in_ok-sum.ensures.words
