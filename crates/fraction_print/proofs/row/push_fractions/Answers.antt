use Rattle.std.proofs.Common.{◌++◌, string_bytes, sym, ap, ◌∙◌, arith}
use Rattle.fraction_print.specs.FractionTexts.{fractions_text}
use Rattle.poly_print.specs.Polynomials.{residue_pairs}
use Rattle.fraction_print.proofs.TermSteps.{terms-done, some-terms}
use Rattle.fraction_print.proofs.row.push_fractions.Goals as goal

pub returns : goal.returns
returns g c =
    let l = c.loop-entry in
    let es = c.entries-entries.result.now in
    let value = g.R.Ring.value c.args.ring.now in
    let has = g.R.Ring.has c.args.ring.now in
    let columns = c.args.columns.now.list in
    λ f are. terms-done value has columns f (string_bytes l.text) _ l.first es l.entry-index (omega arith) (l.invariant.text f are)
    ∙ ap (λ t. string_bytes c.args.text.now ++ t) (some-terms value has columns f es (sym c.is_empty.ensures ∙ c.if-is_empty.false))
    ∙ ap (λ xs. string_bytes c.args.text.now ++ fractions_text columns f (residue_pairs (λ col. col) value xs)) c.entries-entries.ensures.entries
