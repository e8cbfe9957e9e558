-- What the test of table words tells, and the row of a sum of table words.
use Rattle.std.proofs.Common.{◌≡◌, ℕ, ◌+◌, ◌*◌, ◌%◌, Bool, true, false, ◌&&◌, nat_eq, nat_le, List, [], length, Contains, All, Result, Err}
use Rattle.std.proofs.Common.{refl, sym, ◌∙◌, ap, subst, arith}
use Rattle.std.specs.Prelude.{◌↔◌, IsErrOf}
use Rattle.std.specs.Map.{keys_of}
use Rattle.std.proofs.lemmas.Bool.{eqb-true, leb-true}
use Rattle.std.proofs.lemmas.List.Elements.{All-weaker}
use Rattle.zeta_model.specs.declared.Letter.{Letter}
use Rattle.zeta_model.specs.Words.{depth_of, is_admissible}
use Rattle.zeta_model.specs.Sums.{Sum}
use Rattle.word_sums.specs.Terms.{coefficient_of}
use Rattle.word_sums.specs.Failing.{failing, IsLeast}
use Rattle.word_sums.proofs.LeastWords.{IsLeast-one, IsLeast-none, all_pass}
use Rattle.column_order.specs.Columns.{ColumnList}
use Rattle.table_model.specs.Conversion.{IsTableWord, IsCols}
use Rattle.lyndon_polys.specs.Tables.{entries_of, is_table_word}
use Rattle.lyndon_polys.specs.Inner.{IsRowOf, AreAllWordRows}
use Rattle.lyndon_polys.specs.declared.fault.OutFault.{OutFault}
use Rattle.lyndon_polys.specs.declared.fault.OutFault.TheVariants.{OutOfTable}
use Rattle.lyndon_polys.proofs.ColsLemmas.{cols_zero, cols_same}

both : (a b : Bool) → a && b ≡ true → (a ≡ true) × (b ≡ true)
both true b e = (refl, e)
both false b e = cc

pub tested : (w d : ℕ) (t : List Letter) → is_table_word w d t ≡ true → IsTableWord w d t
tested w d t e =
    let p = both (is_admissible t) (nat_eq (length t) w && nat_le (depth_of t) d) e in
    let q = both (nat_eq (length t) w) (nat_le (depth_of t) d) p.1 in
    record { admissible = p.0; weight = eqb-true (length t) w q.0; depth = leb-true (depth_of t) d q.1 }

pub all_tested : (w d : ℕ) (ts : List (List Letter)) → All (λ t. is_table_word w d t ≡ true) ts → All (IsTableWord w d) ts
all_tested w d ts all = All-weaker (λ t. is_table_word w d t ≡ true) (IsTableWord w d) (tested w d) ts all

same_out : {T : Type 0} (u v : List Letter) (r : Result T OutFault) → r ≡ Err (OutOfTable u) → r ≡ Err (OutOfTable v) → u ≡ v
same_out u v r e f = cc

fails : {E : Type 0} (terms : List (List Letter × E)) (a b w d : ℕ) → a ≡ w → b ≡ d → failing (is_table_word a b) terms ≡ failing (is_table_word w d) terms
fails terms a b w d e f = (λ i. failing (is_table_word (e i) (f i)) terms)

module _ {T E : Type 0} (terms : List (List Letter × E)) (a b w d : ℕ) (is_a : a ≡ w) (is_b : b ≡ d) where
  -- the least word that fails is told
  pub out_tells : (r : Result T OutFault) (u : List Letter) → r ≡ Err (OutOfTable u) → IsLeast (failing (is_table_word a b) terms) u
      → (v : List Letter) → IsErrOf r (OutOfTable v) ↔ IsLeast (failing (is_table_word w d) terms) v
  out_tells r u told least v =
      let here : IsLeast (failing (is_table_word w d) terms) u = subst (λ ws. IsLeast ws u) (fails terms a b w d is_a is_b) least in (
        (λ e. subst (IsLeast (failing (is_table_word w d) terms)) (same_out u v r told e) here),
        (λ h. told ∙ ap (λ x. Err (OutOfTable x)) (IsLeast-one (failing (is_table_word w d) terms) u v here h)),
      )

  -- no word fails, and none is told
  pub no_out_tells : (r : Result T OutFault) → ((u : List Letter) → ¬ (r ≡ Err (OutOfTable u))) → failing (is_table_word a b) terms ≡ []
      → (v : List Letter) → IsErrOf r (OutOfTable v) ↔ IsLeast (failing (is_table_word w d) terms) v
  no_out_tells r none all v = (
    (λ e. absurd (none v e)),
    (λ h. absurd (IsLeast-none (failing (is_table_word w d) terms) v (sym (fails terms a b w d is_a is_b) ∙ all) h)),
  )

module _ {E : Type 0} (terms : List (List Letter × E)) (a b w d : ℕ) (is_a : a ≡ w) (is_b : b ≡ d) where
  pub all_fit : failing (is_table_word a b) terms ≡ [] → All (IsTableWord w d) (keys_of terms)
  all_fit none = all_tested w d (keys_of terms)
      (all_pass (is_table_word w d) (keys_of terms) (sym (fails terms a b w d is_a is_b) ∙ none))

module _ {E : Type 0} (m : ℕ) (has : E → Bool) (value : E → ℕ) (columns : ColumnList) where
  -- words of the table have rows
  pub all_known : (rows : List (List Letter × List (ℕ × E))) (terms : List (List Letter × E)) → AreAllWordRows m has value columns rows
      → All (IsTableWord columns.weight columns.depth) (keys_of terms) → All (Contains (keys_of rows)) (keys_of terms)
  all_known rows terms are fit =
      All-weaker (IsTableWord columns.weight columns.depth) (Contains (keys_of rows)) (λ t is. are.whole t is) (keys_of terms) fit

  -- once the rows of the words, from an empty start
  pub row_of_terms : (terms : List (List Letter × E)) (start row : List (ℕ × E)) (k : ℕ) → start ≡ [] → k ≡ 1
      → ((s : Sum) → IsCols m columns s (entries_of value start) → IsRowOf m has value columns (λ t. s t + k * coefficient_of value terms t) row)
      → IsRowOf m has value columns (coefficient_of value terms) row
  row_of_terms terms start row k none once gives =
      let r : IsRowOf m has value columns (λ t. 0 + k * coefficient_of value terms t) row =
      gives (λ t. 0) (subst (λ es. IsCols m columns (λ t. 0) (entries_of value es)) (sym none) (cols_zero m columns)) in
      record {
        below = r.below;
        in_ring = r.in_ring;
        cols = cols_same m columns (λ t. 0 + k * coefficient_of value terms t) (coefficient_of value terms) (entries_of value row) (entries_of value row)
            (λ t. ap (λ x. x % m) (ap (λ x. 0 + x * coefficient_of value terms t) once ∙ omega arith)) (λ q. refl) r.cols;
      }
