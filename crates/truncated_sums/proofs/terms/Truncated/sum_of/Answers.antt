use Rattle.std.proofs.Common.{◌≡◌, ℕ, ◌%◌, true, sym, ap, subst, ◌∙◌}
use Rattle.std.specs.Prelude.{All}
use Rattle.std.specs.Map.{keys_of}
use Rattle.word_sums.specs.Terms.{AllIn}
use Rattle.zeta_model.specs.Words.{has_index}
use Rattle.zeta_model.specs.Sums.{numbered}
use Rattle.truncated_sums.specs.Inverses.{inverse_of}
use Rattle.truncated_sums.specs.TruncatedSums.{terms_value}
use Rattle.truncated_sums.proofs.TermSums.{summing_start, summing_index, summing_has, summing_next, summing_end}
use Rattle.truncated_sums.proofs.terms.Truncated.sum_of.Goals as goal

pub loop-word-init : goal.loop-word-init
loop-word-init g c =
    let ring = c.args.self.now.0 in
    let m : ℕ = g.R.Ring.modulus ring in
    let all = sym (c.into_iter-word-iterator.ensures.into_iter_gives ∙ c.iter-word-items.ensures.rest) in
    summing_start m (g.R.Ring.has ring) (g.R.Ring.value ring) (inverse_of m) c.args.self.now.1 c.into_iter-word-iterator.result c.zero-sum.result
    (ap (g.R.Ring.has ring) c.zero-sum.ensures ∙ g.met.R.Ring.has_zero ring) (ap (g.R.Ring.value ring) c.zero-sum.ensures ∙ g.met.R.Ring.value_zero ring)
    (subst (λ es. All (λ w. has_index w ≡ true) (keys_of es)) all c.requires.indices) (subst (AllIn (g.R.Ring.has ring)) all c.requires.in_ring)

pub sum_word-requires : goal.sum_word-requires
sum_word-requires g c =
    let ring = c.args.self.now.0 in
    let m : ℕ = g.R.Ring.modulus ring in
    summing_index m (g.R.Ring.has ring) (g.R.Ring.value ring) (inverse_of m) c.args.self.now.1 c.into_iter-word-iterator.result c.loop-word.sum c.loop-word.word-iterator c.next.new.self c.in-Some.word.now c.in-Some.residue.now c.in-Some.ensures.steps c.loop-word.invariant

pub loop-word-preserved : goal.loop-word-preserved
loop-word-preserved g c =
    let ring = c.args.self.now.0 in
    let m : ℕ = g.R.Ring.modulus ring in
    let sum = c.loop-word.sum in
    let residue = c.in-Some.residue.now in
    let term = c.in_ok-value.value in
    let product = c.mul.result in
    let same : c.self.inside.ring ≡ ring = ap (λ p. p.0) c.self.view_is in
    let has_residue : g.R.Ring.has ring residue ≡ true = summing_has m (g.R.Ring.has ring) (g.R.Ring.value ring) (inverse_of m) c.args.self.now.1 c.into_iter-word-iterator.result sum c.loop-word.word-iterator c.next.new.self c.in-Some.word.now residue c.in-Some.ensures.steps c.loop-word.invariant in
    let has_sum : g.R.Ring.has ring sum ≡ true = c.loop-word.invariant.in_ring in
    let has_term : g.R.Ring.has ring term ≡ true = c.in_ok-value.ensures.has in
    let multiplied : product ≡ g.R.Ring.mul ring residue term = c.mul.ensures ∙ ap (λ r. g.R.Ring.mul r residue term) same in
    let added : c.add-sum.result ≡ g.R.Ring.add ring sum product = c.add-sum.ensures ∙ ap (λ r. g.R.Ring.add r sum product) same in
    let has_product : g.R.Ring.has ring product ≡ true = ap (g.R.Ring.has ring) multiplied ∙ g.met.R.Ring.has_mul ring residue term has_residue has_term in
    summing_next m (g.R.Ring.has ring) (g.R.Ring.value ring) (inverse_of m) c.args.self.now.1 c.into_iter-word-iterator.result sum c.add-sum.result term product c.loop-word.word-iterator c.next.new.self c.in-Some.word.now residue c.in-Some.ensures.steps
    (ap (g.R.Ring.has ring) added ∙ g.met.R.Ring.has_add ring sum product has_sum has_product)
    (ap (g.R.Ring.value ring) added ∙ g.met.R.Ring.value_add ring sum product has_sum has_product)
    (ap (g.R.Ring.value ring) multiplied ∙ g.met.R.Ring.value_mul ring residue term has_residue has_term)
    c.in_ok-value.ensures.value c.loop-word.invariant

pub mul-requires-clause-has_a : goal.mul-requires-clause-has_a
mul-requires-clause-has_a g c =
    let ring = c.args.self.now.0 in
    let m : ℕ = g.R.Ring.modulus ring in
    let residue = c.in-Some.residue.now in
    let same : c.self.inside.ring ≡ ring = ap (λ p. p.0) c.self.view_is in
    ap (λ r. g.R.Ring.has r residue) same
    ∙ summing_has m (g.R.Ring.has ring) (g.R.Ring.value ring) (inverse_of m) c.args.self.now.1 c.into_iter-word-iterator.result c.loop-word.sum c.loop-word.word-iterator c.next.new.self c.in-Some.word.now residue c.in-Some.ensures.steps c.loop-word.invariant

pub add-sum-requires-clause-has_b : goal.add-sum-requires-clause-has_b
add-sum-requires-clause-has_b g c =
    let inside = c.self.inside.ring in
    let ring = c.args.self.now.0 in
    let m : ℕ = g.R.Ring.modulus ring in
    let residue = c.in-Some.residue.now in
    let term = c.in_ok-value.value in
    let same : inside ≡ ring = ap (λ p. p.0) c.self.view_is in
    let has_residue : g.R.Ring.has inside residue ≡ true = ap (λ r. g.R.Ring.has r residue) same
    ∙ summing_has m (g.R.Ring.has ring) (g.R.Ring.value ring) (inverse_of m) c.args.self.now.1 c.into_iter-word-iterator.result c.loop-word.sum c.loop-word.word-iterator c.next.new.self c.in-Some.word.now residue c.in-Some.ensures.steps c.loop-word.invariant in
    let has_term : g.R.Ring.has inside term ≡ true = ap (λ r. g.R.Ring.has r term) same ∙ c.in_ok-value.ensures.has in
    ap (g.R.Ring.has inside) c.mul.ensures ∙ g.met.R.Ring.has_mul inside residue term has_residue has_term

pub returns-clause-value : goal.returns-clause-value
returns-clause-value g c =
    let ring = c.args.self.now.0 in
    let m : ℕ = g.R.Ring.modulus ring in
    let value = g.R.Ring.value ring in
    let n : ℕ = c.args.self.now.1 in
    summing_end m (g.R.Ring.has ring) value (inverse_of m) n c.into_iter-word-iterator.result c.loop-word.sum c.loop-word.word-iterator (g.met.R.Ring.value_below ring c.loop-word.sum c.loop-word.invariant.in_ring) c.in-None.ensures.steps.0 c.loop-word.invariant
    ∙ ap (λ es. terms_value (inverse_of m) n (numbered value es) % m) (c.into_iter-word-iterator.ensures.into_iter_gives ∙ c.iter-word-items.ensures.rest)
