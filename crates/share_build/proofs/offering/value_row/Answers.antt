use Rattle.std.proofs.Common.{subst}
use Rattle.std.specs.Map.{keys_of}
use Rattle.word_sums.specs.Sums.{IsSumOf}
use Rattle.relation_list.specs.Values.{value_of, IsWordOf}
use Rattle.std.specs.Prelude.{All}
use Rattle.echelon.specs.Lists.{entries_of}
use Rattle.share_build.proofs.NamedValues.{same_cols, table_words, none_fails}
use Rattle.share_build.proofs.offering.value_row.Goals as goal

pub returns-in-Ok-clause-cols : goal.returns-in-Ok-clause-cols
returns-in-Ok-clause-cols g c =
    let t = c.args.table.now in
    let m = g.R.Ring.modulus t.ring in
    let name = c.args.name.now in
    let made : IsSumOf g.R.Ring.zero (g.R.Ring.has t.ring) (g.R.Ring.value t.ring) m (value_of m name) c.in_ok-sum.sum =
    subst (λ r. IsSumOf g.R.Ring.zero (g.R.Ring.has r) (g.R.Ring.value r) (g.R.Ring.modulus r) (value_of (g.R.Ring.modulus r) name) c.in_ok-sum.sum)
    c.requires.kept_ring c.in_ok-sum.ensures.value in
    same_cols m t.columns _ (value_of m name) (entries_of (g.R.Ring.value t.ring) c.in-Ok.row) made.coefficients c.in-Ok.ensures.cols

pub unreachable-requires : goal.unreachable-requires
unreachable-requires g c =
    let columns = c.args.table.now.columns in
    let words : All (IsWordOf c.args.name.now) (keys_of c.in_ok-sum.sum) = c.in_ok-sum.ensures.words in
    none_fails columns.weight columns.depth c.in_ok-sum.sum
    (table_words columns.weight columns.depth c.args.name.now (keys_of c.in_ok-sum.sum) c.requires.weight c.requires.depth words)
    c.in-Err-OutOfTable.field-0-0 ((c.to_columns.ensures.out_of_table c.in-Err-OutOfTable.field-0-0).0 cc)
