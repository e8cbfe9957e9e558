-- What may be to be done, and what is to be done over a table that is made in memory: a relation, since the rows of a table are those that its
-- definition names, whichever they are.
use Rattle.std.specs.Prelude.{◌≡◌, ℕ, ◌<◌, ◌≤◌, List, [], length, map, nat_lt, if◌then◌else◌}
use Rattle.zeta_model.specs.declared.Letter.{Letter}
use Rattle.zeta_model.specs.Inverses.{HasInverse}
use Rattle.zeta_model.specs.WordLists.{admissible_within}
use Rattle.line_loop.specs.Lines.{whole_output, input_limit, cut, answers}
use Rattle.column_order.specs.Columns.{ColumnList}
use Rattle.page_codec.specs.declared.params.Params.{Params}
use Rattle.table_model.specs.Conversion.{Converts}
use Rattle.table_model.specs.ListedSpan.{values_of, count_of}
use Rattle.table_model.specs.ReducedRows.{IsReducedRows, IsUnbroken, BreaksFirst}
use Rattle.table_model.specs.Faults.{IsNotInvertible}
use Rattle.file_model.specs.TableOf.{IsTableOf}
use Rattle.table_rewrite.specs.Replies.{AreReplies}
use Rattle.fraction_replies.specs.Replies.{AreFractionReplies}
use Rattle.line_samples.specs.Samples.{sample_lines}
use Rattle.truncated_sums.specs.Inverses.{IsFirstWithout}
use Rattle.probe_replies.specs.Replies.{AreProbeReplies}
use Rattle.whole_runs.specs.declared.status.Status.{Status}
use Rattle.whole_runs.specs.declared.status.Status.TheVariants as status
use Rattle.whole_runs.specs.Texts.{word_line, relation_line, term_line, sample_line}

-- each line of the source gets its reply, or these bytes are written and the run ends so
pub data Work : Type 0 where
  Replies : (List ℕ → List ℕ) → Work
  Writes : List ℕ → Status → Work

-- all that is written to an input
abbrev pub output_of : Work → List ℕ → List ℕ
output_of (Replies reply) input = whole_output input_limit reply input
output_of (Writes bytes end) input = bytes

-- how it ends
abbrev pub status_of : Work → List ℕ → Status
status_of (Replies reply) input = if nat_lt input_limit (length input) then status.TooMuchInput else status.Done
status_of (Writes bytes end) input = end

-- the replies to the lines that are whole in the bytes that were read
abbrev pub replies_of : Work → List ℕ → List ℕ
replies_of (Replies reply) seen = answers reply (cut seen).0
replies_of (Writes bytes end) seen = []

-- it reads lines from the source
abbrev pub ReadsLines : Work → Type 0
ReadsLines (Replies reply) = Unit {0}
ReadsLines (Writes bytes end) = ⊥

-- what is done with the columns of a table and its reduced rows: their number, their leads and themselves
abbrev pub ByRows : Type 1
ByRows = ColumnList → ℕ → (ℕ → ℕ) → (ℕ → ℕ → ℕ) → Work → Type 0

-- the first word at which the table does not convert is told, or the first relation at which its work is broken; else something is done
-- with the reduced rows of all listed relations
pub data IsOverRows (m : ℕ) (columns : ColumnList) (done : ByRows) (work : Work) : Type 0 where
  no_inverse : (u : List Letter) (residue : ℕ) → IsNotInvertible m columns u residue
      → work ≡ Writes (word_line residue u) status.NoInverse → IsOverRows m columns done work
  broken : Converts m columns → (n residue : ℕ) → n < count_of columns → BreaksFirst m columns (values_of m columns) n residue
      → work ≡ Writes (relation_line residue n) status.NoInverse → IsOverRows m columns done work
  whole : Converts m columns → IsUnbroken m columns (values_of m columns) (count_of columns) → (count : ℕ) (lead : ℕ → ℕ) (rows : ℕ → ℕ → ℕ)
      → IsReducedRows m columns (values_of m columns) (count_of columns) count lead rows → done columns count lead rows work → IsOverRows m columns done work

pub record IsOverTable (params : Params) (done : ByRows) (work : Work) : Type 0 where
  pub columns : ColumnList
  pub are_columns : IsTableOf params columns
  pub by_rows : IsOverRows params.modulus columns done work

-- each line gets its reply by the rows
pub record RepliesBy (m : ℕ) (columns : ColumnList) (count : ℕ) (lead : ℕ → ℕ) (rows : ℕ → ℕ → ℕ) (work : Work) : Type 0 where
  pub reply : List ℕ → List ℕ
  pub replies : AreReplies m columns count lead rows reply
  pub is : work ≡ Replies reply

-- each line gets its reply with fractions by the rows
pub record FractionsBy (m : ℕ) (columns : ColumnList) (count : ℕ) (lead : ℕ → ℕ) (rows : ℕ → ℕ → ℕ) (work : Work) : Type 0 where
  pub reply : List ℕ → List ℕ
  pub replies : AreFractionReplies m columns count lead rows reply
  pub is : work ≡ Replies reply

-- the lines that are made from the seed get their replies by the rows, and these are counted
pub record CountsBy (m seed number : ℕ) (columns : ColumnList) (count : ℕ) (lead : ℕ → ℕ) (rows : ℕ → ℕ → ℕ) (work : Work) : Type 0 where
  pub reply : List ℕ → List ℕ
  pub replies : AreReplies m columns count lead rows reply
  pub is : work ≡ Writes (sample_line count (length columns.list)
      (map reply (sample_lines (admissible_within columns.weight columns.depth) seed number))) status.Done

-- the first number up to n without an inverse is told; else each line gets its value by truncated sums
pub data IsProbe (n m : ℕ) (work : Work) : Type 0 where
  no_inverse : (value term : ℕ) → IsFirstWithout m n value term → work ≡ Writes (term_line value term) status.NoInverse → IsProbe n m work
  whole : ((a : ℕ) → 1 ≤ a → a ≤ n → HasInverse m a) → (reply : List ℕ → List ℕ) → AreProbeReplies m n reply → work ≡ Replies reply → IsProbe n m work
