use Rattle.std.proofs.Common.{length, ◌++◌, ap, ◌∙◌, string_bytes}
use Rattle.poly_print.specs.Polynomials.{term_text}
use Rattle.poly_print.specs.Inner.{behind_byte}
use Rattle.poly_print.proofs.TermSteps.{next-below, next-in, term-next}
use Rattle.poly_print.proofs.row.push_row.Goals as goal

pub loop-entry-preserved : goal.loop-entry-preserved
loop-entry-preserved g c =
    let l = c.loop-entry in
    let es = c.entries-entries.result.now in
    let value = g.R.Ring.value c.args.ring.now in
    let has = g.R.Ring.has c.args.ring.now in
    let columns = c.args.columns.now.list in
    let e = c.entry-item.result in
    record {
      text = term-next value has columns (string_bytes l.text)
          (string_bytes c.push_next_term.new.text) l.first es l.entry-index e _ c.loop-entry-test.true c.entry-item.is (c.in_ok-push_next_term.ensures
          ∙ ap (λ r. string_bytes l.text ++ behind_byte 43 l.first (term_text columns (e.0, r))) c.value.ensures) l.invariant.text;
      below = (next-below value has columns (length columns) es l.entry-index e c.loop-entry-test.true c.entry-item.is l.invariant.below).1;
      in_ring = (next-in value has columns es l.entry-index e c.loop-entry-test.true c.entry-item.is l.invariant.in_ring).1;
    }
