-- What can be printed of a page, and the first lines of what `show` prints.
use Rattle.std.specs.Prelude.{ℕ, Bool, true, false, List, [], ◌∷◌, ◌++◌, codes, decimal}
use Rattle.std.specs.List.{AllByRecursion}
use Rattle.page_codec.specs.declared.params.Params.{Params}
use Rattle.page_codec.specs.declared.parts.FinalEntry.{FinalEntry}
use Rattle.page_codec.specs.declared.page.Page.{Page}
use Rattle.page_codec.specs.Bounds.{IsRowData}
use Rattle.page_codec.specs.Places.{AreBelow}
use Rattle.file_model.specs.FinalRows.{finals_of_page}
use Rattle.whole_runs.specs.Texts.{line}
use Rattle.whole_runs.specs.FileTexts.{params_text}

-- what stands before a preferred word, the first or another
abbrev pub word_gap : Bool → List ℕ
word_gap true = 32 ∷ []
word_gap false = 43 ∷ []

-- the lines of a header and of so many pages
abbrev pub head_text : Params → ℕ → List ℕ
head_text params pages = codes "table " ++ (line (params_text params) ++ (codes "pages " ++ line (decimal pages)))

-- the entry's row has columns below n and residues below m
pub record IsShowable (n m : ℕ) (e : FinalEntry) : Type 0 where
  pub pairs : IsRowData e.row
  pub below : AreBelow n m e.row

abbrev pub CanShow : ℕ → ℕ → Page → Type 0
CanShow n m page = AllByRecursion (IsShowable n m) (finals_of_page page)
