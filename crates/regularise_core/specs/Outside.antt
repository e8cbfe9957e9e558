-- The words of a sum that are not in H1, the span of the empty word and the words that end with y.
use Rattle.std.specs.Prelude.{List}
use Rattle.word_sums.specs.Failing.{failing}
use Rattle.zeta_model.specs.declared.Letter.{Letter}
use Rattle.zeta_model.specs.Words.{has_index}

-- those that are not empty and end with x
abbrev pub outside_h1 : {E : Type 0} → List (List Letter × E) → List (List Letter)
outside_h1 terms = failing has_index terms
