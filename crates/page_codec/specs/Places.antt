-- Which page may stand behind the pages before it.
use Rattle.std.specs.Prelude.{◌≡◌, ℕ, ◌+◌, ◌-◌, ◌*◌, ◌/◌, ◌≤◌, ◌<◌, ◌⊎◌, List, [], ◌∷◌, ◌++◌, length, All, min, take}
use Rattle.std.specs.List.{AllByRecursion, sum_by}
use Rattle.column_order.specs.Columns.{column_count}
use Rattle.page_codec.specs.Spelling.{spelling_of}
use Rattle.page_codec.specs.declared.params.Params.{Params}
use Rattle.page_codec.specs.declared.parts.ForwardEntry.{ForwardEntry}
use Rattle.page_codec.specs.declared.parts.FinalEntry.{FinalEntry}
use Rattle.page_codec.specs.declared.parts.ForwardPage.{ForwardPage}
use Rattle.page_codec.specs.declared.parts.FinalPage.{FinalPage}
use Rattle.page_codec.specs.declared.walk.Last.{Last}
use Rattle.page_codec.specs.declared.walk.Last.TheVariants.{FrontPage, RowsPage, DonePage}
use Rattle.page_codec.specs.declared.page.Page.{Page}
use Rattle.page_codec.specs.declared.page.Page.TheVariants.{Header, Forward, Final, Done}

-- the pages of forward rows: one for each 64 numbers of relations, the last for what is left
abbrev pub block_count : ℕ → ℕ
block_count relations = (relations + 63) / 64

-- the rows of the Final pages
abbrev pub row_count : List Page → ℕ
row_count [] = 0
row_count (Header p ∷ pages) = row_count pages
row_count (Forward p ∷ pages) = row_count pages
row_count (Final p ∷ pages) = length p.entries + row_count pages
row_count (Done rows ∷ pages) = row_count pages

-- each key is below high, and each residue below m
abbrev pub AreBelow : ℕ → ℕ → List (ℕ × ℕ) → Type 0
AreBelow high m es = All (λ e. (e.0 < high) × (e.1 < m)) es

-- numbers of relations below n, columns of the table, and residues below the modulus; a combination has no number past its entry's
pub record ForwardInTable (p : Params) (n : ℕ) (e : ForwardEntry) : Type 0 where
  pub number : e.number < n
  pub row : AreBelow (column_count p.weight p.depth) p.modulus e.row
  pub combination : AreBelow (e.number + 1) p.modulus e.combination

pub record FinalInTable (p : Params) (n : ℕ) (e : FinalEntry) : Type 0 where
  pub row : AreBelow (column_count p.weight p.depth) p.modulus e.row
  pub combination : AreBelow n p.modulus e.combination

-- the pages end with a Final page
abbrev pub EndsFinal : List Page → FinalPage → Type 0
EndsFinal before q = (front : List Page) × (before ≡ front ++ Final q ∷ [])

-- they are the Header and all Forward pages
abbrev pub EndsForward : ℕ → List Page → Type 0
EndsForward n before = length before ≡ block_count n + 1

pub record ForwardFits (p : Params) (n : ℕ) (before : List Page) (page : ForwardPage) : Type 0 where
  pub behind_header : 1 ≤ length before
  pub within : length before ≤ block_count n
  pub first : page.first ≡ 64 * (length before - 1)
  pub entries : AllByRecursion (ForwardInTable p n) page.entries

pub record FinalFits (p : Params) (n : ℕ) (before : List Page) (page : FinalPage) : Type 0 where
  pub first : (EndsForward n before × (page.first ≡ 0)) ⊎ ((q : FinalPage) × EndsFinal before q × (length q.entries ≡ 64) × (page.first ≡ q.first + 64))
  pub entries : AllByRecursion (FinalInTable p n) page.entries
  pub rows : row_count before + length page.entries ≤ column_count p.weight p.depth

pub record DoneFits (n : ℕ) (before : List Page) (rows : ℕ) : Type 0 where
  pub behind : EndsForward n before ⊎ ((q : FinalPage) × EndsFinal before q)
  pub counted : rows ≡ row_count before

-- the page may stand behind these pages, in a file of these parameters, whose listing has n relations
abbrev pub FitsPlace : Params → ℕ → List Page → Page → Type 0
FitsPlace p n before (Header q) = (before ≡ []) × (q ≡ p)
FitsPlace p n before (Forward page) = ForwardFits p n before page
FitsPlace p n before (Final page) = FinalFits p n before page
FitsPlace p n before (Done rows) = DoneFits n before rows

-- what a walk keeps of the pages: how many up to two past the Forward pages, the final rows, and the last page
pub record WalkAt : Type 0 where
  pub params : Params
  pub relations : ℕ
  pub place : ℕ
  pub rows : ℕ
  pub last : Last

abbrev pub last_is : Page → Last
last_is (Header p) = FrontPage
last_is (Forward p) = FrontPage
last_is (Final p) = RowsPage p.first (length p.entries)
last_is (Done rows) = DonePage

abbrev pub last_of : List Page → Last
last_of [] = FrontPage
last_of (page ∷ []) = last_is page
last_of (page ∷ next ∷ pages) = last_of (next ∷ pages)

abbrev pub walk_of : Params → ℕ → List Page → WalkAt
walk_of p n pages = record { params = p; relations = n; place = min (length pages) (block_count n + 2); rows = row_count pages; last = last_of pages }

-- the place of the gate of page i, the byte before its spelling; each page before it has a gate and a spelling
abbrev pub gate_place : List Page → ℕ → ℕ
gate_place pages i = sum_by (λ page. 1 + length (spelling_of page)) (take i pages)

-- each of the pages fits its place behind those before it
abbrev pub FitBehind : Params → ℕ → List Page → List Page → Type 0
FitBehind p n before [] = Unit {0}
FitBehind p n before (page ∷ pages) = FitsPlace p n before page × FitBehind p n (before ++ page ∷ []) pages

abbrev pub AllFit : Params → ℕ → List Page → Type 0
AllFit p n pages = FitBehind p n [] pages
