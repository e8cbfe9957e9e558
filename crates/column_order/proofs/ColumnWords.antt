-- The admissible words of a weight up to a depth, as the columns ask for them.
use Rattle.std.proofs.Common.{◌≡◌, ℕ, ◌≤◌, IsTrue, List, length, sym, ◌∙◌}
use Rattle.std.specs.List.{Contains}
use Rattle.std.specs.declared.cmp.Ordering.TheVariants.{Less, Equal}
use Rattle.std.specs.Cmp.{tied_itself}
use Rattle.zeta_model.specs.declared.Letter.{Letter}
use Rattle.zeta_model.specs.WordLists.{admissible_within}
use Rattle.zeta_model.specs.Words.{word_cmp, depth_of, is_admissible}
use Rattle.zeta_model.proofs.WordListLaws.{admissible_within-whole, admissible_within-increases}
use Rattle.zeta_model.proofs.WordOrder.{word_cmp_total}
use Rattle.column_order.specs.Columns.{IsColumnWord}
use Rattle.column_order.proofs.Distinct.{AllDistinct, AllDistinct-from_sorted}

pub itself : (w : List Letter) → ¬ (word_cmp w w ≡ Less)
itself w e = let tied : word_cmp w w ≡ Equal = tied_itself word_cmp_total w in let no : Equal ≡ Less = sym tied ∙ e in cc

pub AllDistinct-words : (w d : ℕ) → AllDistinct (admissible_within w d)
AllDistinct-words w d = AllDistinct-from_sorted word_cmp itself (admissible_within w d) (admissible_within-increases w d)

pub word_held : (w d : ℕ) (u : List Letter) → IsTrue (is_admissible u) → length u ≡ w → depth_of u ≤ d → Contains (admissible_within w d) u
word_held w d u a l e = (admissible_within-whole w d u).1 (a, l, e)

pub word_found : (w d : ℕ) (u : List Letter) → Contains (admissible_within w d) u → IsColumnWord w d u
word_found w d u c = let r = (admissible_within-whole w d u).0 c in record { admissible = r.0; weight = r.1; depth = r.2 }
