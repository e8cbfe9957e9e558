use Rattle.std.proofs.Common.{inl, inr, refl, ap, subst}
use Rattle.outside_io.specs.Causes.{Rose}
use Rattle.whole_runs.specs.declared.status.Status.TheVariants as status
use Rattle.whole_runs.specs.Texts.{word_line}
use Rattle.whole_runs.specs.FileTexts.{unreadable_line, misplaced_line, unfinished_line, bad_row_line, not_reduced_line, missing_line}
use Rattle.whole_runs.specs.Outcomes.{contents_of}
use Rattle.whole_runs.specs.Works.Work.{Writes}
use Rattle.whole_runs.proofs.Outcomes.{broken_off}
use Rattle.poly_print.specs.Polynomials.{residues_text}
use Rattle.file_model.proofs.ParamColumns.{some_columns}
use Rattle.cert_checker.specs.Certified.{residues_at}
use Rattle.datamine_program.specs.Inner.{CanTell, IsCheckFault}
use Rattle.datamine_program.proofs.FileRuns.{file_outcome, has_text}
use Rattle.datamine_program.proofs.JudgedFiles.{reads_table, page_refused, misfit_refused, unfinished_refused, word_refused, row_refused, unreduced_refused, missing_refused}
use Rattle.datamine_program.proofs.check_refusals.refuse_check.Goals as goal

pub returns-in-DiskFault-clause-outcome : goal.returns-in-DiskFault-clause-outcome
returns-in-DiskFault-clause-outcome g c =
    λ asked before now told left judges is. broken_off asked (contents_of told) left _ status.DiskFault (inr (inl refl))

pub returns-in-Memory-clause-outcome : goal.returns-in-Memory-clause-outcome
returns-in-Memory-clause-outcome g c =
    λ asked before now told left judges is. broken_off asked (contents_of told) left _ status.Memory (inl refl)

pub returns-in-BadPage-clause-outcome : goal.returns-in-BadPage-clause-outcome
returns-in-BadPage-clause-outcome g c = λ asked before now told left judges is.
    let params = c.args.params.now in
    file_outcome asked (reads_table asked judges) told (Writes (unreadable_line c.in-BadPage.page) status.NotATable) left _ _ _
    (page_refused asked judges (Rose before now) params told c.in-BadPage.page (subst (IsCheckFault (Rose before now) told params) c.in-BadPage.is is))
    (c.refuse_number.ensures.has left)

pub returns-in-Misfit-clause-outcome : goal.returns-in-Misfit-clause-outcome
returns-in-Misfit-clause-outcome g c = λ asked before now told left judges is.
    let params = c.args.params.now in
    file_outcome asked (reads_table asked judges) told (Writes (misplaced_line c.in-Misfit.page) status.NotATable) left _ _ _
    (misfit_refused asked judges (Rose before now) params told c.in-Misfit.page (subst (IsCheckFault (Rose before now) told params) c.in-Misfit.is is))
    (c.refuse_number-in-Misfit.ensures.has left)

pub returns-in-NotDone-clause-outcome : goal.returns-in-NotDone-clause-outcome
returns-in-NotDone-clause-outcome g c = λ asked before now told left judges is.
    let params = c.args.params.now in
    file_outcome asked (reads_table asked judges) told (Writes (unfinished_line c.in-NotDone.pages) status.NotComplete) left _ _ _
    (unfinished_refused asked judges (Rose before now) params told c.in-NotDone.pages (subst (IsCheckFault (Rose before now) told params) c.in-NotDone.is is))
    (c.refuse_number-in-NotDone.ensures.has left)

pub returns-in-BadRow-clause-outcome : goal.returns-in-BadRow-clause-outcome
returns-in-BadRow-clause-outcome g c = λ asked before now told left judges is.
    let params = c.args.params.now in
    file_outcome asked (reads_table asked judges) told (Writes (bad_row_line c.in-BadRow.row) status.NotComplete) left _ _ _
    (row_refused asked judges (Rose before now) params told c.in-BadRow.row (subst (IsCheckFault (Rose before now) told params) c.in-BadRow.is is))
    (has_text _ _ status.NotComplete left _ _ _ (ap bad_row_line c.from.ensures) (c.refuse_number-in-BadRow.ensures.has left))

pub returns-in-NotReduced-clause-outcome : goal.returns-in-NotReduced-clause-outcome
returns-in-NotReduced-clause-outcome g c = λ asked before now told left judges is.
    let params = c.args.params.now in
    file_outcome asked (reads_table asked judges) told (Writes (not_reduced_line c.in-NotReduced.row) status.NotComplete) left _ _ _
    (unreduced_refused asked judges (Rose before now) params told c.in-NotReduced.row (subst (IsCheckFault (Rose before now) told params) c.in-NotReduced.is is))
    (has_text _ _ status.NotComplete left _ _ _ (ap not_reduced_line c.from-in-NotReduced.ensures) (c.refuse_number-in-NotReduced.ensures.has left))

pub refuse_word-requires : goal.refuse_word-requires
refuse_word-requires g c = subst (CanTell c.args.params.now) c.in-NoInverse.is c.requires.told

pub returns-in-NoInverse-clause-outcome : goal.returns-in-NoInverse-clause-outcome
returns-in-NoInverse-clause-outcome g c = λ asked before now told left judges is.
    let params = c.args.params.now in
    file_outcome asked (reads_table asked judges) told (Writes (word_line c.in-NoInverse.value c.in-NoInverse.word) status.NoInverse) left _ _ _
    (word_refused asked judges (Rose before now) params told c.in-NoInverse.value c.in-NoInverse.word
    (subst (IsCheckFault (Rose before now) told params) c.in-NoInverse.is is)) (c.refuse_word.ensures.has left)

pub refuse_missing-requires-clause-rest : goal.refuse_missing-requires-clause-rest
refuse_missing-requires-clause-rest g c = subst (CanTell c.args.params.now) c.in-Missing.is c.requires.told

pub returns-in-Missing-clause-outcome : goal.returns-in-Missing-clause-outcome
returns-in-Missing-clause-outcome g c = λ asked before now told left judges is.
    let params = c.args.params.now in
    let (columns, of) = some_columns params c.requires.params in
    file_outcome asked (reads_table asked judges) told
    (Writes (missing_line c.in-Missing.n (residues_text columns.list (residues_at c.in-Missing.rest))) status.NotComplete) left _ _ _
    (missing_refused asked judges (Rose before now) params columns of told c.in-Missing.n c.in-Missing.rest
    (subst (IsCheckFault (Rose before now) told params) c.in-Missing.is is)) (c.refuse_missing.ensures.has columns left of)
