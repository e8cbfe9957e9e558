-- The order of words is total, and words that it does not tell apart are one.
use Rattle.std.proofs.Common.{◌≡◌, true, List, refl, sym, ap, ◌∙◌}
use Rattle.std.specs.declared.cmp.Ordering.{Ordering}
use Rattle.std.specs.declared.cmp.Ordering.TheVariants.{Less, Equal, Greater}
use Rattle.std.specs.Ordering.{ordering_reverse, is_eq}
use Rattle.std.specs.Cmp.{IsTotalOrder, on_total}
use Rattle.std.specs.FinMap.{IsAntisymmetric, slice_cmp-IsAntisymmetric, nat_cmp-IsAntisymmetric}
use Rattle.std.proofs.lemmas.Cmp.{lists_total, nat_cmp_total}
use Rattle.zeta_model.specs.declared.Letter.{Letter}
use Rattle.zeta_model.specs.Words.{letter_rank, letter_cmp, letter_at_rank, letter_at_rank-rank, word_cmp}
use Rattle.zeta_model.specs.Sums.{same_word}

pub word_cmp_total : IsTotalOrder word_cmp
word_cmp_total = lists_total (on_total letter_rank nat_cmp_total)

letter_cmp-IsAntisymmetric : IsAntisymmetric letter_cmp
letter_cmp-IsAntisymmetric a b e =
    sym (letter_at_rank-rank a) ∙ ap letter_at_rank (nat_cmp-IsAntisymmetric (letter_rank a) (letter_rank b) e) ∙ letter_at_rank-rank b

pub word_cmp-IsAntisymmetric : IsAntisymmetric word_cmp
word_cmp-IsAntisymmetric = slice_cmp-IsAntisymmetric letter_cmp-IsAntisymmetric

is_eq-Equal : (o : Ordering) → is_eq o ≡ true → o ≡ Equal
is_eq-Equal Less e = cc
is_eq-Equal Equal e = refl
is_eq-Equal Greater e = cc

-- the test answers true at one word, and at no two
pub same_word-one : (u v : List Letter) → same_word u v ≡ true → u ≡ v
same_word-one u v e = word_cmp-IsAntisymmetric u v (is_eq-Equal (word_cmp u v) e)

equal_to_itself : (o : Ordering) → o ≡ ordering_reverse o → is_eq o ≡ true
equal_to_itself Less e = cc
equal_to_itself Equal e = refl
equal_to_itself Greater e = cc

pub same_word-itself : (u : List Letter) → same_word u u ≡ true
same_word-itself u = equal_to_itself (word_cmp u u) (word_cmp_total.antisymm u u)
