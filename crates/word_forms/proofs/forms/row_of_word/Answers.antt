use Rattle.std.proofs.Common.{Err, subst, ◌∙◌}
use Rattle.zeta_model.specs.Sums.{single}
use Rattle.word_sums.specs.Sums.{IsSumOf}
use Rattle.word_forms.proofs.FormLists.{none_failing, cols_of_word}
use Rattle.word_forms.proofs.forms.row_of_word.Goals as goal

pub to_columns-requires : goal.to_columns-requires
to_columns-requires g c =
    let word = c.args.word in
    let sum = c.in_ok-sum.sum in
    let is = subst (λ (u : g.row.R.Denot). IsSumOf g.R.Ring.zero (g.R.Ring.has u) (g.R.Ring.value u) (g.R.Ring.modulus u) (single word) sum) c.ring.ensures
    c.in_ok-sum.ensures in is.in_ring

pub unreachable-requires : goal.unreachable-requires
unreachable-requires g c =
    let r = g.met.R.Ring in
    let ring = c.args.table.now.ring in
    let columns = c.args.table.now.columns in
    let has = g.R.Ring.has ring in
    let value = g.R.Ring.value ring in
    let m = g.R.Ring.modulus ring in
    let word = c.args.word in
    let sum = c.in_ok-sum.sum in
    let w = c.in-Err-OutOfTable.field-0-0 in
    let is = subst (λ (u : g.row.R.Denot). IsSumOf g.R.Ring.zero (g.R.Ring.has u) (g.R.Ring.value u) (g.R.Ring.modulus u) (single word) sum) c.ring.ensures
    c.in_ok-sum.ensures in
    let least = (c.to_columns.ensures.out_of_table w).0 (c.in-Err-OutOfTable.is ∙ (λ i. Err (c.in-Err-OutOfTable.field-0-is i))) in
    none_failing has g.R.Ring.zero value m word sum is (r.has_zero ring) (r.value_zero ring) (r.value_injective ring) columns.weight columns.depth
    c.requires w least

pub returns-in-Ok-clause-cols : goal.returns-in-Ok-clause-cols
returns-in-Ok-clause-cols g c =
    let ring = c.args.table.now.ring in
    let word = c.args.word in
    let sum = c.in_ok-sum.sum in
    let is = subst (λ (u : g.row.R.Denot). IsSumOf g.R.Ring.zero (g.R.Ring.has u) (g.R.Ring.value u) (g.R.Ring.modulus u) (single word) sum) c.ring.ensures
    c.in_ok-sum.ensures in
    cols_of_word (g.R.Ring.has ring) g.R.Ring.zero (g.R.Ring.value ring) (g.R.Ring.modulus ring) word sum is c.args.table.now.columns _ c.in-Ok.ensures.cols
