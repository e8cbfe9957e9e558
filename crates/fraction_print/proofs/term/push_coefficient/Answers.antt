use Rattle.std.proofs.Common.{string_bytes}
use Rattle.std.proofs.lemmas.Result.{on_ok_weaker}
use Rattle.fraction_print.specs.FractionTexts.Coefficient.{Ratio}
use Rattle.fraction_print.proofs.TermSteps.{coefficient_written}
use Rattle.fraction_print.proofs.term.push_coefficient.Goals as goal

pub returns-in_ok-push_sign-in-Some : goal.returns-in_ok-push_sign-in-Some
returns-in_ok-push_sign-in-Some c =
    let f = c.in-Some.f in
    on_ok_weaker c.push_ratio.result (λ e k is. coefficient_written c.args.modulus c.args.residue c.args.first k (Ratio f.negative f.top f.bottom)
    (string_bytes c.args.text.now) (string_bytes c.push_sign.new.text) (string_bytes c.push_ratio.new.text) is c.in-Some.ensures.some
    c.in_ok-push_sign-in-Some.ensures e) c.push_ratio.ensures
