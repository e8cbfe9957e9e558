-- One row more in a sweep.
use Rattle.std.proofs.Common.{◌≡◌, ℕ, ◌+◌, ◌*◌, ◌%◌, ◌<◌, List, [], ◌∷◌, ◌++◌, length, get_or, sym, ◌∙◌, ap, subst, arith, add-one}
use Rattle.zeta_model.specs.Modular.{Same}
use Rattle.zeta_model.proofs.ModularLemmas.{same-add_right}
use Rattle.linear_model.specs.Rows.{SameRow}
use Rattle.linear_model.specs.Forward.{IsSwept}
use Rattle.linear_model.proofs.Sweeps.{swept_one_more}
use Rattle.echelon.specs.Lists.{entries_of, lead_of, row_at, lead_at, AreForward}
use Rattle.echelon.specs.Inner.{numbers_of}
use Rattle.echelon.proofs.SumLemmas.{numbers_of-push_before, numbers_of-push_last}

pub swept_more : {E : Type 0} (m : ℕ) (value : E
    → ℕ) (rows : List (List (ℕ × E))) (first k : ℕ) (factors new : List E) (x : E) (row : List (ℕ × E)) (p q r : ℕ → ℕ)
    → AreForward m value rows → k < length rows → row ≡ get_or rows k [] → length factors ≡ k → new ≡ factors ++ x ∷ []
    → IsSwept m first k (lead_at rows) (row_at value rows) (numbers_of value factors) p q
    → Same m (q (lead_of row) + value x) 0 → SameRow m r (λ col. q col + value x * entries_of value row col)
    → IsSwept m first (k + 1) (lead_at rows) (row_at value rows) (numbers_of value new) p r
swept_more {E} m value rows first k factors new x row p q r forward h is count pushed swept undone next =
    subst (λ i. IsSwept m first i (lead_at rows) (row_at value rows) (numbers_of value new) p r) (sym (add-one k)) (
    swept_one_more m (lead_at rows) (row_at value rows) (length rows) first k (numbers_of value factors) (numbers_of value new) p q r forward h swept
    (λ i l. sym (numbers_of-push_before value factors x i (omega arith)) ∙ ap (λ xs. numbers_of value xs i) (sym pushed))
    (ap (λ n. (q (lead_at rows k) + n) % m) factor ∙ ap (λ es. (q (lead_of es) + value x) % m) (sym is) ∙ undone)
    (λ col. next col ∙ (λ i. (q col + sym factor i * entries_of value (is i) col) % m))
    )
  where
    factor : numbers_of value new k ≡ value x
    factor = ap (λ xs. numbers_of value xs k) pushed ∙ ap (numbers_of value (factors ++ x ∷ [])) (sym count) ∙ numbers_of-push_last value factors x

-- a sweep is one of every row that is the same, and leaves what is the same
pub swept_same : (m first n : ℕ) (lead : ℕ → ℕ) (rows : ℕ → ℕ → ℕ) (c p q before after : ℕ → ℕ) → SameRow m before p → SameRow m q after
    → IsSwept m first n lead rows c before after → IsSwept m first n lead rows c p q
swept_same m first n lead rows c p q before after same_before same_after swept = record {
  is = λ col. same_after col ∙ swept.is col ∙ same-add_right m (before col) (p col) _ (same_before col);
  zero_at_leads = λ i l h. same_after (lead i) ∙ swept.zero_at_leads i l h;
}
