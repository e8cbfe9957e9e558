use Rattle.std.proofs.Common.{true, false, sym, ap, ◌∙◌, arith}
use Rattle.lyndon_words.specs.Inner.{is_below_suffixes}
use Rattle.lyndon_words.proofs.Suffixes.{below-itself_false, below-next, lyndon_test-some, suffixes-none, tested}
use Rattle.lyndon_words.proofs.lyndon_list.is_lyndon.Goals as goal

pub returns-then-not-lt : goal.returns-then-not-lt
returns-then-not-lt c = tested c.args.w false (lyndon_test-some c.args.w (omega arith) ∙ sym c.loop-w.invariant
    ∙ below-itself_false c.args.w c.loop-w.suffix (omega arith) (sym c.lt.ensures ∙ c.if-not-lt.true))

pub loop-w-preserved : goal.loop-w-preserved
loop-w-preserved c = ap (is_below_suffixes c.args.w) c.tail-suffix-in-loop-w.ensures
    ∙ sym (below-next c.args.w c.loop-w.suffix (omega arith) (sym c.lt.ensures ∙ c.if-not-lt.false)) ∙ c.loop-w.invariant

pub returns : goal.returns
returns c = tested c.args.w true (lyndon_test-some c.args.w (omega arith) ∙ sym c.loop-w.invariant ∙ suffixes-none c.args.w c.loop-w.suffix (omega arith))
