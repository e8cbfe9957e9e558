-- The lines of merged rows, as they are written row by row.
use Rattle.std.specs.Prelude.{◌≡◌, ℕ, ◌+◌, ◌%◌, ◌<◌, ◌≤◌, ◌^◌, Bool, true, List, [], ◌∷◌, ◌++◌, length, take, get_or, codes, decimal}
use Rattle.std.specs.List.{flat_map}
use Rattle.std.proofs.Common.{sym, ap, ◌∙◌, append_assoc, arith, mod-eq_of_lt}
use Rattle.std.proofs.lemmas.List.{flat_map_more, take_more}
use Rattle.std.proofs.Math.Seq.{take-length}
use Rattle.zeta_model.specs.declared.Letter.{Letter}
use Rattle.zeta_model.specs.Modular.{Same}
use Rattle.sparse_rows.specs.Entries.{IsRow, IsBelow, AllIn}
use Rattle.sparse_rows.proofs.EntryLemmas.{below_more, entry_of_first}
use Rattle.echelon.specs.Lists.{entries_of, lead_of}
use Rattle.page_codec.specs.Bounds.{IsRowData, BeginsWith1}
use Rattle.page_codec.specs.Places.{AreBelow}
use Rattle.page_rows.specs.Written.{written, AreResidues}
use Rattle.page_rows.proofs.Writing.{bound-written, residues-written}
use Rattle.page_rows.proofs.PagePairs.{below-bounds, residues-pairs, residues-few}
use Rattle.whole_runs.specs.Texts.{line}
use Rattle.whole_runs.specs.FileTexts.{row_line}
use Rattle.merge_runs.specs.Lines.{merged_lines}

abbrev pub head_line : ℕ → List ℕ
head_line count = codes "merged: rows " ++ line (decimal count)

pub begun_lines : (count number : ℕ) (none begun head : List ℕ) → number ≡ count → none ≡ [] → begun ≡ none ++ (codes "merged: rows " ++ decimal number)
    → head ≡ begun ++ 10 ∷ [] → head ≡ head_line count
begun_lines count number none begun head same z is_begun is_head =
    let first : List ℕ = codes "merged: rows " in
    is_head ∙ ap (λ t. t ++ 10 ∷ []) (is_begun ∙ (λ i. z i ++ (first ++ decimal (same i)))) ∙ append_assoc first (decimal count) (10 ∷ [])

module _ (m : ℕ) (columns : List (List (List Letter))) where
  abbrev pub lines_of : List (List (ℕ × ℕ)) → List ℕ
  lines_of rows = flat_map (row_line m columns) rows

  -- one more row is written
  pub next_line : (head text new : List ℕ) (rows : List (List (ℕ × ℕ))) (i : ℕ) → i < length rows → text ≡ head ++ lines_of (take i rows)
      → new ≡ text ++ row_line m columns (get_or rows i []) → new ≡ head ++ lines_of (take (i + 1) rows)
  next_line head text new rows i inside is is_new =
      is_new ∙ ap (λ t. t ++ row_line m columns (get_or rows i [])) is
      ∙ flat_map_more (row_line m columns) head (take i rows) (get_or rows i [])
      ∙ ap (λ rs. head ++ lines_of rs) (sym (take_more rows i [] inside))

  -- all are written
  pub all_lines : (text : List ℕ) (rows : List (List (ℕ × ℕ))) (i : ℕ) → i ≡ length rows → text ≡ head_line (length rows) ++ lines_of (take i rows)
      → text ≡ merged_lines m columns rows
  all_lines text rows i all is =
      is ∙ ap (λ rs. head_line (length rows) ++ lines_of rs) (ap (λ k. take k rows) all ∙ take-length rows)
      ∙ append_assoc (codes "merged: rows ") (line (decimal (length rows))) (lines_of rows)

-- a row that begins with 1 can be printed
module _ {E : Type 0} (zero : E) (has : E → Bool) (value : E → ℕ) (has_zero : has zero ≡ true) (value_zero : value zero ≡ 0)
    (injective : (a b : E) → has a ≡ true → has b ≡ true → value a ≡ value b → a ≡ b) (m : ℕ) (small : (a : E) → has a ≡ true → value a < m)
    (high : ℕ) where
  module _ (row : List (ℕ × E)) (is_row : IsRow (λ k. k) zero 0 row) (in_ring : AllIn has row) (below : IsBelow (λ k. k) high row) where
    pub written_residues : AreResidues (λ k. k) m (written value row)
    written_residues = residues-written (λ k. k) zero has value has_zero value_zero injective m small row is_row in_ring

    pub written_below : IsBelow (λ k. k) high (written value row)
    written_below = (bound-written (λ k. k) zero has value row high).1 below

    pub row_bounds : AreBelow high m (written value row)
    row_bounds = below-bounds high m (written value row) written_residues written_below

  module _ (from : 3 ≤ m) (limit : m < 2 ^ 63) (few : high ≤ 2048) where
    begins : (row : List (ℕ × E)) → IsRow (λ k. k) zero 0 row → AllIn has row → 0 < length row → Same m (entries_of value row (lead_of row)) 1
        → BeginsWith1 (written value row)
    begins [] is_row in_ring some one = absurd (omega arith)
    begins (e ∷ es) is_row in_ring some one =
        sym (mod-eq_of_lt (small e.1 in_ring.0)) ∙ ap (λ v. v % m) (sym (entry_of_first (λ k. k) zero value 0 e es is_row)) ∙ one
        ∙ mod-eq_of_lt (omega arith)

    pub row_data : (row : List (ℕ × E)) → IsRow (λ k. k) zero 0 row → AllIn has row → IsBelow (λ k. k) high row → 0 < length row
        → Same m (entries_of value row (lead_of row)) 1 → IsRowData (written value row)
    row_data row is_row in_ring below some one =
        let residues : AreResidues (λ k. k) m (written value row) = written_residues row is_row in_ring below in
        let bounded : IsBelow (λ k. k) 2048 (written value row) = below_more (λ k. k) high 2048 (written value row) few (written_below row is_row in_ring below) in
        record {
          few = residues-few 2048 m (written value row) residues bounded;
          first = begins row is_row in_ring some one;
          pairs = residues-pairs 2048 m (written value row) limit residues bounded;
        }
