use Rattle.std.proofs.Common.{◌≡◌, ◌++◌, string_bytes, sym, ap, subst, ◌∙◌}
use Rattle.std.specs.Prelude.{IfOk}
use Rattle.std.proofs.lemmas.Result.{on_ok_weaker}
use Rattle.page_rows.specs.Written.{AreResidues}
use Rattle.poly_print.specs.Polynomials.{row_text}
use Rattle.table_texts.proofs.CheckedTexts.{row_of_rest, rest_text}
use Rattle.merge_runs.proofs.texts.push_rest.Goals as goal

pub row_of_data-requires : goal.row_of_data-requires
row_of_data-requires c =
    let modulus : c.unwrap-ring.result.modulus ≡ c.args.params.now.modulus =
    subst (λ r. IfOk r (λ ring. ring.modulus ≡ c.args.params.now.modulus)) c.unwrap-ring.ensures c.new.ensures.ok in
    let row = c.requires.rest in
    record { residues = subst (λ m. AreResidues (λ k. k) m c.args.rest.now) (sym modulus) row.residues }

pub push_row-requires-clause-below : goal.push_row-requires-clause-below
push_row-requires-clause-below c =
    row_of_rest c.args.params.now c.args.rest.now c.requires.rest _ c.in_ok-columns.columns c.in_ok-row.row c.in_ok-columns.ensures
    c.in_ok-row.ensures.written

pub returns : goal.returns
returns c =
    let line = string_bytes c.args.line.now in
    let columns = c.in_ok-columns.columns in
    on_ok_weaker c.push_row.result
    (λ is others of.
    is ∙ ap (λ pairs. line ++ row_text columns.list pairs) c.in_ok-row.ensures.written
    ∙ ap (λ text. line ++ text) (rest_text c.args.params.now c.args.rest.now c.requires.rest columns others c.in_ok-columns.ensures of)) c.push_row.ensures
