-- Work that goes on from the forward rows that stand in a file, whatever they are.
use Rattle.std.specs.Prelude.{◌≡◌, ◌≢◌, ℕ, suc, ◌+◌, ◌*◌, ◌<◌, ◌≤◌, ◌↔◌, nat_lt, nat_eq, if◌then◌else◌, cond, eqb, Some, List, [], ◌∷◌, ◌++◌, length, take, slice_get}
use Rattle.std.specs.List.{Contains}
use Rattle.std.specs.List.Sorted.{IsStrictlySortedBy}
use Rattle.std.specs.Ordering.{nat_cmp}
use Rattle.zeta_model.specs.Inverses.{HasInverse}
use Rattle.linear_model.specs.Rows.{total, SameRow}
use Rattle.linear_model.specs.Forward.{IsForward}
use Rattle.column_order.specs.Columns.{ColumnList}
use Rattle.sparse_rows.specs.Entries.{IsRow}
use Rattle.page_codec.specs.declared.params.Params.{Params}
use Rattle.page_codec.specs.declared.parts.ForwardEntry.{ForwardEntry}
use Rattle.page_codec.specs.declared.page.Page.{Page}
use Rattle.page_codec.specs.declared.page.Page.TheVariants.{Header, Forward, Final, Done}
use Rattle.table_model.specs.MonomialWords.{words_of_row}
use Rattle.table_model.specs.Conversion.{IsOver}
use Rattle.table_model.specs.ListedSpan.{values_of, count_of}
use Rattle.table_model.specs.Faults.{IsFirstWithout}
use Rattle.file_model.specs.TableOf.{IsTableOf}
use Rattle.file_model.specs.Pages.{Work, Pairs, pairs_of, numbers_of, ArePages}

-- for the numbers below a bound a row and what is written beside it, both zero where no row stands
pub record Kept : Type 0 where
  pub below : ℕ
  pub rows : ℕ → ℕ → ℕ
  pub combinations : ℕ → ℕ → ℕ

-- each kept row has the combination beside it, and each listed value behind them has itself
abbrev pub written_of : Kept → ℕ → ℕ → ℕ
written_of kept k j = if nat_lt k kept.below then kept.combinations k j else cond (eqb j k) 1 0

-- the words of the kept rows are offered, and behind them the listed values; what is written of a combination of these is the sum of what is
-- written of each
abbrev pub resumed_work : ℕ → ColumnList → Kept → Work
resumed_work m columns kept = record {
  sums = λ n. if nat_lt n kept.below then words_of_row columns.list (kept.rows n) else values_of m columns n;
  beside = λ c j. total (count_of columns) (λ k. c k * written_of kept k j);
}

abbrev pub entries_of_page : Page → List ForwardEntry
entries_of_page (Header params) = []
entries_of_page (Forward page) = page.entries
entries_of_page (Final page) = []
entries_of_page (Done rows) = []

abbrev pub blocks_of_page : Page → ℕ
blocks_of_page (Header params) = 0
blocks_of_page (Forward page) = 1
blocks_of_page (Final page) = 0
blocks_of_page (Done rows) = 0

-- the entries of all forward pages, in order
abbrev pub entries_of : List Page → List ForwardEntry
entries_of [] = []
entries_of (page ∷ pages) = entries_of_page page ++ entries_of pages

-- how many forward pages there are
abbrev pub blocks_of : List Page → ℕ
blocks_of [] = 0
blocks_of (page ∷ pages) = blocks_of_page page + blocks_of pages

-- the row of number n among the entries, and zero where there is none
abbrev pub row_in : List ForwardEntry → ℕ → ℕ → ℕ
row_in [] n col = 0
row_in (e ∷ es) n col = if nat_eq e.number n then pairs_of e.row col else row_in es n col

abbrev pub combination_in : List ForwardEntry → ℕ → ℕ → ℕ
combination_in [] n k = 0
combination_in (e ∷ es) n k = if nat_eq e.number n then pairs_of e.combination k else combination_in es n k

-- what the pages keep: the rows of the blocks of their forward pages
abbrev pub kept_of : List Page → Kept
kept_of pages = record { below = 64 * blocks_of pages; rows = row_in (entries_of pages); combinations = combination_in (entries_of pages) }

-- the column of the first pair
abbrev pub lead_of : Pairs → ℕ
lead_of [] = 0
lead_of (e ∷ es) = e.0

-- an entry that goes on from earlier ones: its row begins with 1 and is zero at their leads, and its combination has a residue with an inverse at its
-- own number, and else numbers of theirs
pub record Suits (m : ℕ) (earlier : List ForwardEntry) (e : ForwardEntry) : Type 0 where
  pub begins : pairs_of e.row (lead_of e.row) ≡ 1
  pub clear : (i : ℕ) (f : ForwardEntry) → slice_get earlier i ≡ Some f → pairs_of e.row (lead_of f.row) ≡ 0
  pub own : HasInverse m (pairs_of e.combination e.number)
  pub others : (k : ℕ) → pairs_of e.combination k ≢ 0 → k ≢ e.number → Contains (numbers_of earlier) k

abbrev pub AllSuit : ℕ → List ForwardEntry → Type 0
AllSuit m entries = (i : ℕ) (e : ForwardEntry) → slice_get entries i ≡ Some e → Suits m (take i entries) e

-- page i is the first with an entry that does not suit
abbrev pub IsNotForward : ℕ → List Page → ℕ → Type 0
IsNotForward m pages i = IsFirstWithout (λ k. AllSuit m (entries_of (take (suc k) pages))) (length pages) i

-- page i is the first that is not the one that the work gives
abbrev pub Differs : List Page → List Page → ℕ → Type 0
Differs sealed pages i = IsFirstWithout (λ k. slice_get sealed k ≡ slice_get pages k) (length sealed) i

-- the rows of some numbers, increasing, are a forward list, and the others are zero
pub record AreForward (m : ℕ) (columns : ColumnList) (kept : Kept) : Type 0 where
  pub count : ℕ
  pub number : ℕ → ℕ
  pub lead : ℕ → ℕ
  pub below : (i : ℕ) → i < count → number i < kept.below
  pub rising : (i k : ℕ) → i < k → k < count → number i < number k
  pub forward : IsForward m count lead (λ i. kept.rows (number i))
  pub over : (n : ℕ) → n < kept.below → IsOver m columns (kept.rows n)
  pub others : (n : ℕ) → n < kept.below → ((i : ℕ) → i < count → ¬ (number i ≡ n)) → SameRow m (kept.rows n) (λ _. 0)

-- the entries of block b are those of the kept rows of its numbers, as they are written
pub record AreKept (m : ℕ) (columns : ColumnList) (kept : Kept) (rows : AreForward m columns kept) (b : ℕ) (entries : List ForwardEntry) : Type 0 where
  pub block : 64 * b + 64 ≤ kept.below
  pub increasing : IsStrictlySortedBy nat_cmp (numbers_of entries)
  pub numbers : (n : ℕ) → Contains (numbers_of entries) n
      ↔ (((i : ℕ) × (i < rows.count) × (rows.number i ≡ n)) × (64 * b ≤ n) × (n < 64 * b + 64) × (n < count_of columns))
  pub row : (i : ℕ) (e : ForwardEntry) → slice_get entries i ≡ Some e → IsRow (λ k. k) 0 0 e.row
      × ((col : ℕ) → (pairs_of e.row col < m) × (kept.rows e.number col ≡ pairs_of e.row col))
  pub combination : (i : ℕ) (e : ForwardEntry) → slice_get entries i ≡ Some e → IsRow (λ k. k) 0 0 e.combination
      × ((k : ℕ) → (pairs_of e.combination k < m) × (kept.combinations e.number k ≡ pairs_of e.combination k))

-- the pages that work gives which goes on from sealed ones
pub record IsResumed (params : Params) (sealed pages : List Page) : Type 0 where
  pub columns : ColumnList
  pub are_columns : IsTableOf params columns
  pub are_pages : ArePages params columns (resumed_work params.modulus columns (kept_of sealed)) pages
