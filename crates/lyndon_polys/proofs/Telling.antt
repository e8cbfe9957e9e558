-- What the answers of a table's making tell of the first word without an inverse.
use Rattle.std.proofs.Common.{◌≡◌, ℕ, List, Result, Err, ◌∙◌, ap, subst}
use Rattle.std.specs.Prelude.{◌↔◌, IsErrOf}
use Rattle.zeta_model.specs.declared.Letter.{Letter}
use Rattle.column_order.specs.Columns.{ColumnList}
use Rattle.table_model.specs.Conversion.{Converts}
use Rattle.table_model.specs.Faults.{IsNotInvertible}
use Rattle.table_model.proofs.FirstFaults.{not_invertible_unique, not_invertible_word}
use Rattle.lyndon_polys.specs.declared.fault.LyndonFault.{LyndonFault}
use Rattle.lyndon_polys.specs.declared.fault.LyndonFault.TheVariants.{NoInverse}

abbrev Word : Type 0
Word = List Letter

same_parts : {T : Type 0} (a b : ℕ) (u v : Word) (r : Result T LyndonFault) → r ≡ Err (NoInverse a u) → r ≡ Err (NoInverse b v) → (a ≡ b) × (u ≡ v)
same_parts a b u v r e f = (cc, cc)

same_fault : (m : ℕ) (columns : ColumnList) (u v : Word) (a b : ℕ) → u ≡ v → a ≡ b → IsNotInvertible m columns u a → IsNotInvertible m columns v b
same_fault m columns u v a b e f is = subst (IsNotInvertible m columns v) f (subst (λ w. IsNotInvertible m columns w a) e is)

module _ {T : Type 0} (m : ℕ) (columns : ColumnList) where
  -- a fault is told: it is that of the columns
  pub fault_tells : (r : Result T LyndonFault) (a : ℕ) (u : Word) → r ≡ Err (NoInverse a u) → IsNotInvertible m columns u a
      → (value : ℕ) (word : Word) → IsErrOf r (NoInverse value word) ↔ IsNotInvertible m columns word value
  fault_tells r a u told is value word = (
    (λ e. let (x, y) = same_parts a value u word r told e in same_fault m columns u word a value y x is),
    (λ h. let (y, x) = not_invertible_unique m columns u word a value is h in
        told ∙ ap (λ w. Err (NoInverse a w)) y ∙ ap (λ b. Err (NoInverse b word)) x),
  )

  -- the table converts, and no fault is told
  pub none_tells : (r : Result T LyndonFault) → ((a : ℕ) (u : Word) → ¬ (r ≡ Err (NoInverse a u))) → Converts m columns
      → (value : ℕ) (word : Word) → IsErrOf r (NoInverse value word) ↔ IsNotInvertible m columns word value
  none_tells r none converts value word = (
    (λ e. absurd (none value word e)),
    (λ h. absurd (not_invertible_word m columns word value h converts)),
  )
