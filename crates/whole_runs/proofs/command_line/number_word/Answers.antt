use Rattle.std.proofs.Common.{◌≡◌, ℕ, List, false, eqb, get_or, ◌∙◌, sym, ap}
use Rattle.whole_runs.proofs.Numbers.{number_read, not_plus}
use Rattle.whole_runs.proofs.command_line.number_word.Goals as goal

pub returns : goal.returns
returns c =
    let first : eqb (get_or c.args.word.now 0 0) 43 ≡ false =
    ap (λ (bs : List ℕ). eqb (get_or bs 0 0) 43) (sym c.as_bytes.ensures.value) ∙ sym c.begins_with_plus.ensures ∙ c.if-begins_with_plus.false in
    c.ok.ensures.value ∙ number_read c.args.word.now c.parse.result (not_plus (get_or c.args.word.now 0 0) first) c.parse.ensures.value.0
