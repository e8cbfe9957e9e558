use Rattle.std.proofs.Common.{length, ap, sym, ◌∙◌, arith}
use Rattle.std.proofs.lemmas.List.{length_push, get_or_default}
use Rattle.quasi_product.proofs.RowLemmas.{IsFirstRow-none, IsFirstRow-push}
use Rattle.quasi_product.proofs.rows.first_row.Goals as goal

pub loop-suffix-init : goal.loop-suffix-init
loop-suffix-init g c = (
  ap length c.in_ok-row.ensures.items,
  IsFirstRow-none
      (λ cell. cell.items) c.args.c c.args.suffixes.now c.in_ok-row.row.items c.in_ok-row.ensures.items,
)

pub loop-suffix-preserved : goal.loop-suffix-preserved
loop-suffix-preserved g c = (
  omega (arith, ap length c.in_ok-push.ensures.items, length_push c.loop-suffix.row.items c.in_ok-one_term.field-0, c.loop-suffix.invariant.0),
  IsFirstRow-push (λ cell. cell.items) c.args.c c.args.suffixes.now c.loop-suffix.row.items c.push.new.self.items c.in_ok-one_term.field-0
      c.loop-suffix.suffix-index c.suffix-item.result.word
      c.in_ok-push.ensures.items c.loop-suffix.invariant.0 c.loop-suffix.invariant.1 c.in_ok-one_term.ensures
      (λ s. ap (λ t. t.word) (get_or_default c.args.suffixes.now c.loop-suffix.suffix-index s c.suffix-item.result (omega (arith, c.loop-suffix-test.true))
      ∙ sym c.suffix-item.is)),
)
