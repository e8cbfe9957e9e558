-- The figures of a table whose work came to its end, as they are written.
use Rattle.std.proofs.Common.{◌≡◌, ℕ, List, [], ◌∷◌, ◌++◌, append_assoc, ap, ◌∙◌}
use Rattle.std.specs.Prelude.{codes, decimal}
use Rattle.file_model.specs.Builds.{Figures}
use Rattle.whole_runs.specs.FileTexts.{figures_line}

-- the figures of a table, from their pieces
pub figures_pieces : (figures : Figures) (relations rows offered : ℕ) → relations ≡ figures.relations → rows ≡ figures.rows → offered ≡ figures.offered
    → (codes ": relations " ++ (decimal relations ++ (codes ", rows " ++ decimal rows)))
    ++ (codes ", offered " ++ (decimal offered ++ (codes ", pages " ++ (decimal figures.pages ++ 10 ∷ [])))) ≡ figures_line [] figures
figures_pieces figures relations rows offered a b c =
    let first : List ℕ = codes ": relations " in
    let second : List ℕ = codes ", rows " in
    let rest : List ℕ = codes ", pages " ++ (decimal figures.pages ++ 10 ∷ []) in
    (λ i. (first ++ (decimal (a i) ++ (second ++ decimal (b i)))) ++ (codes ", offered " ++ (decimal (c i) ++ rest)))
    ∙ append_assoc first (decimal figures.relations ++ (second ++ decimal figures.rows)) (codes ", offered " ++ (decimal figures.offered ++ rest))
    ∙ ap (λ t. first ++ t)
    (append_assoc (decimal figures.relations) (second ++ decimal figures.rows) (codes ", offered " ++ (decimal figures.offered ++ rest))
    ∙ ap (λ t. decimal figures.relations ++ t)
    (append_assoc second (decimal figures.rows) (codes ", offered " ++ (decimal figures.offered ++ rest))))
