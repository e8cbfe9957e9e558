use Rattle.std.proofs.Common.{◌≡◌, [], get_or, slice_get, Some, string_bytes, ap, sym, ◌∙◌}
use Rattle.std.proofs.lemmas.Option.{get_or_from_slice_get}
use Rattle.std.proofs.lemmas.Result.{on_ok_weaker}
use Rattle.fraction_print.proofs.TermSteps.{term_written}
use Rattle.fraction_print.proofs.term.push_term.Goals as goal

pub returns : goal.returns
returns c =
    let at : slice_get c.args.columns.now.list c.args.col ≡ Some c.at.result.now =
    sym (ap (slice_get c.args.columns.now.list) c.from.ensures) ∙ c.at.ensures.at in
    let same : get_or c.args.columns.now.list c.args.col [] ≡ c.at.result.now =
    get_or_from_slice_get c.args.columns.now.list c.args.col c.at.result.now [] at in
    on_ok_weaker c.push_monomial.result (λ e k is. term_written c.args.columns.now.list c.args.col c.args.first k (string_bytes c.args.text.now)
    (string_bytes c.push_coefficient.new.text) (string_bytes c.push_str.new.self) (string_bytes c.push_monomial.new.text) c.at.result.now
    (c.in_ok-push_coefficient.ensures k is) c.in_ok-push_str.ensures.bytes same e) c.push_monomial.ensures
