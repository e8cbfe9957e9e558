use Rattle.std.proofs.Common.{List, sym, ap, subst, ◌∙◌}
use Rattle.line_tokens.specs.declared.spots.Spot.TheVariants.{Between}
use Rattle.line_tokens.specs.Machine.{read}
use Rattle.zeta_expr.specs.declared.place.Place.TheVariants.{Start}
use Rattle.zeta_expr.specs.Forms.{TermForm}
use Rattle.zeta_expr.specs.Places.{places}
use Rattle.zeta_expr.specs.Drafts.{maker}
use Rattle.zeta_expr.specs.Readings.{IsReading}
use Rattle.zeta_expr.proofs.LineLemmas.{accepted_line}
use Rattle.zeta_expr.proofs.ReadLemmas.{stop_of_line, syntax_told, no_syntax, reading_made}
use Rattle.zeta_expr.proofs.BoundLemmas.{reading_small}
use Rattle.zeta_expr.proofs.FormedLemmas.{reading_formed}
use Rattle.zeta_expr.proofs.reader.read.Goals as goal

pub returns-in-Some-clause-syntax : goal.returns-in-Some-clause-syntax
returns-in-Some-clause-syntax c = syntax_told c.args.line.now c.in-Some.at c.if-line-gt4096.false c.in-Some.ensures

pub returns-in-Some-clause-err : goal.returns-in-Some-clause-err
returns-in-Some-clause-err c = (c.if-line-gt4096.false, stop_of_line c.args.line.now c.in-Some.at c.in-Some.ensures)

reading : goal.returns-in-Ok-clause-ok
reading c =
    let e = ap (λ d. read places maker (Between Start) 0 d c.args.line.now) (sym c.new.ensures) ∙ c.in-Ok.ensures in
    subst (λ (ts : List TermForm). IsReading c.args.line.now ts) (sym c.into_expr.ensures)
    (reading_made c.args.line.now c.in-Ok.draft c.in_default.ensures e)

pub returns-in-Ok-clause-ok : goal.returns-in-Ok-clause-ok
returns-in-Ok-clause-ok c = reading c

pub returns-in-Ok-clause-formed : goal.returns-in-Ok-clause-formed
returns-in-Ok-clause-formed c = reading_formed c.args.line.now c.into_expr.result (reading c)

pub returns-in-Ok-clause-weights : goal.returns-in-Ok-clause-weights
returns-in-Ok-clause-weights c = (reading_small c.args.line.now c.into_expr.result c.if-line-gt4096.false (reading c)).0

pub returns-in-Ok-clause-depths : goal.returns-in-Ok-clause-depths
returns-in-Ok-clause-depths c = (reading_small c.args.line.now c.into_expr.result c.if-line-gt4096.false (reading c)).1

pub returns-in-Ok-clause-syntax : goal.returns-in-Ok-clause-syntax
returns-in-Ok-clause-syntax c = no_syntax c.args.line.now _ c.in_default.ensures (λ k e. cc)

pub returns-in-Err-clause-syntax : goal.returns-in-Err-clause-syntax
returns-in-Err-clause-syntax c = no_syntax c.args.line.now _ c.in_default.ensures (λ k e. cc)

pub returns-in-Err-clause-err : goal.returns-in-Err-clause-err
returns-in-Err-clause-err c = (c.if-line-gt4096.false, accepted_line c.args.line.now c.in_default.ensures)
