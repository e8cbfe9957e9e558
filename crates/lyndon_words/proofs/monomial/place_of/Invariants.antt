use Rattle.std.proofs.Common.{◌≡◌, ◌++◌, take, drop}
use Rattle.lyndon_words.specs.Monomials.{put}
use Rattle.lyndon_words.proofs.monomial.place_of.Given as goal

abbrev pub invariant-loop-i : goal.invariant-loop-i
invariant-loop-i l = take l.i l.factors ++ put l.word (drop l.i l.factors) ≡ put l.word l.factors
