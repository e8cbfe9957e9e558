use Rattle.std.proofs.Common.{Some, true, false, ◌≡◌}
use Rattle.page_codec.specs.Bounds.{IsPreferable, ArePreferable}
use Rattle.page_codec.proofs.Chains.{chain_on, chain_off, drop_at}
use Rattle.page_codec.proofs.bounds.is_preferred.Goals as goal

pub returns-then-not-is_preferable : goal.returns-then-not-is_preferable
returns-then-not-is_preferable c =
    let refused : ¬ (IsPreferable c.args.w c.args.d c.loop-i.before c.at-word.result) = λ fits. let yes : c.is_preferable.result ≡ true =
    c.is_preferable.ensures.1 fits in let no : c.is_preferable.result ≡ false = c.if-not-is_preferable.true in absurd (cc (yes, no)) in
    let not = chain_off (λ before u. IsPreferable c.args.w c.args.d before u) (λ before u. Some u)
    (ArePreferable c.args.w c.args.d c.args.words.now) c.loop-i.before c.args.words.now c.loop-i.i c.loop-i.invariant c.at-word.result
    (drop_at c.args.words.now c.loop-i.i c.at-word.result c.at-word.ensures) refused in
    (λ e. absurd (cc e), λ whole. absurd (not whole.in_order))

pub loop-i-preserved : goal.loop-i-preserved
loop-i-preserved c =
    chain_on (λ before u. IsPreferable c.args.w c.args.d before u) (λ before u. Some u)
    (ArePreferable c.args.w c.args.d c.args.words.now) c.loop-i.before c.args.words.now c.loop-i.i c.loop-i.invariant c.at-word.result
    (drop_at c.args.words.now c.loop-i.i c.at-word.result c.at-word.ensures) (c.is_preferable.ensures.0 c.if-not-is_preferable.false)
