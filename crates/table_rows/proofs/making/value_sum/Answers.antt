use Rattle.std.proofs.Common.{subst}
use Rattle.std.specs.Map.{keys_of}
use Rattle.word_sums.specs.Sums.{IsSumOf}
use Rattle.relation_list.specs.Values.{value_of}
use Rattle.table_rows.proofs.NamedValues.{table_words}
use Rattle.table_rows.proofs.making.value_sum.Goals as goal

pub returns-clause-value : goal.returns-clause-value
returns-clause-value g c =
    let t = c.args.table.now in
    let name = c.args.name.now in
    let made : IsSumOf g.R.Ring.zero (g.R.Ring.has t.ring) (g.R.Ring.value t.ring) (g.R.Ring.modulus t.ring) (value_of (g.R.Ring.modulus t.ring) name)
    c.in_ok-sum.sum =
    subst (λ r. IsSumOf g.R.Ring.zero (g.R.Ring.has r) (g.R.Ring.value r) (g.R.Ring.modulus r) (value_of (g.R.Ring.modulus r) name) c.in_ok-sum.sum)
    c.requires.kept_ring c.in_ok-sum.ensures.value in
    record {
      in_ring = made.in_ring;
      words = table_words t.columns.weight t.columns.depth name (keys_of c.in_ok-sum.sum) c.requires.weight c.requires.depth c.in_ok-sum.ensures.words;
      coefficients = made.coefficients;
    }
