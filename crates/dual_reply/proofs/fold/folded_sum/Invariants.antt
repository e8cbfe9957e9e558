use Rattle.std.proofs.Common.{◌≡◌, ◌%◌, List, take}
use Rattle.word_sums.specs.Terms.{coefficient_of, AllIn}
use Rattle.zeta_model.specs.declared.Letter.{Letter}
use Rattle.dual_reply.specs.Sums.{folded_sum}
use Rattle.dual_reply.proofs.fold.folded_sum.Given as goal

abbrev pub invariant-loop-term : goal.invariant-loop-term
invariant-loop-term g l = record {
  in_ring : AllIn (g.R.Ring.has l.ring) l.sum;
  value : (t : List Letter)
      → coefficient_of (g.R.Ring.value l.ring) l.sum t ≡ folded_sum (g.R.Ring.modulus l.ring) (take l.term-index l.terms) t % g.R.Ring.modulus l.ring;
}
