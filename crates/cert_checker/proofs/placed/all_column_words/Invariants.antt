use Rattle.std.proofs.Common.{◌≡◌, ℕ, ◌<◌, [], length, get_or}
use Rattle.table_model.specs.MonomialWords.{column_at, words_of_monomial}
use Rattle.cert_checker.specs.Inner.{IsPlaced}
use Rattle.cert_checker.proofs.placed.all_column_words.Given as goal

abbrev pub invariant-loop-i : goal.invariant-loop-i
invariant-loop-i g l = record {
  count : length l.words.items ≡ l.i;
  each : (i : ℕ) → i < length l.words.items
      → IsPlaced (g.R.Ring.modulus l.ring) (g.R.Ring.has l.ring) (g.R.Ring.value l.ring) l.columns (words_of_monomial (column_at l.columns.list i))
      (get_or l.words.items i []);
}
