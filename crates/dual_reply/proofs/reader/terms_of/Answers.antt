use Rattle.std.proofs.Common.{◌≡◌, Ok, Err, sym, ap, subst, ◌∙◌}
use Rattle.std.specs.Result.{MatchResult}
use Rattle.dual_reply.specs.Inner.{judged, reading_of}
use Rattle.dual_reply.proofs.Readings.{Answer, too_long, of_stuck, of_made}
use Rattle.dual_reply.proofs.reader.terms_of.Goals as goal

pub returns-then-line-gt4096 : goal.returns-then-line-gt4096
returns-then-line-gt4096 c = too_long c.args.line.now c.if-line-gt4096.true

pub first_one_of-one-requires : goal.first_one_of-one-requires
first_one_of-one-requires c = rw c.in-Ok.is at c.in_ok-draft.ensures

pub returns-in-Ok : goal.returns-in-Ok
returns-in-Ok c =
    let line = c.args.line.now in
    let draft = c.in-Ok.draft in
    let made = rw c.in-Ok.is at c.in_ok-draft.ensures in
    let same : judged c.first_one_of-one.result draft.heavy draft.terms ≡ reading_of line =
    ap (λ one. judged one draft.heavy draft.terms) c.first_one_of-one.ensures ∙ sym (of_made line draft c.if-line-gt4096.false made) in
    subst (λ (a : Answer). MatchResult c.judged.result (λ terms. a ≡ Ok terms.items) (λ refusal. a ≡ Err refusal)) same c.judged.ensures

pub returns-in-Err : goal.returns-in-Err
returns-in-Err c = of_stuck c.args.line.now c.in-Err.at c.if-line-gt4096.false (rw c.in-Err.is at c.in_ok-draft.ensures)
