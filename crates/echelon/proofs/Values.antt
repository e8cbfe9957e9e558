-- Sums of combinations, and the rows that are their values.
use Rattle.std.proofs.Common.{◌≡◌, ◌≢◌, ℕ, ◌+◌, ◌*◌, ◌%◌, ◌<◌, List, [], length, get_or, cond, eqb, refl, sym, ◌∙◌, ap, arith}
use Rattle.std.proofs.lemmas.Bool.{eq-eqb, ne_eqb}
use Rattle.std.proofs.Math.Nat.{mul_comm}
use Rattle.zeta_model.specs.Modular.{Same}
use Rattle.zeta_model.proofs.ModularLemmas.{same-add, same-add_left, same-add_right, same-mul_left, same-mod}
use Rattle.linear_model.specs.Rows.{combination, SameRow}
use Rattle.linear_model.proofs.Totals.{total_one_more, same-total}
use Rattle.linear_model.proofs.Spans.{same-combination, combination_scaled, combination-combination}
use Rattle.linear_model.proofs.Combinations.{combination-add, combination_one}
use Rattle.echelon.specs.Lists.{entries_of, row_at}
use Rattle.echelon.specs.Offers.{IsCombined, IsValueOf}

module _ (m : ℕ) where
  -- one more combination is added
  pub added_more : (i : ℕ) (rows : ℕ → ℕ → ℕ) (c start before after : ℕ → ℕ) → SameRow m before (λ q. start q + combination i rows c q)
      → SameRow m after (λ q. before q + c i * rows i q) → SameRow m after (λ q. start q + combination (i + 1) rows c q)
  added_more i rows c start before after same next q =
      next q
      ∙ same-add_right m (before q) _ (c i * rows i q) (same q)
      ∙ ap (λ x. x % m) (let e : start q + combination i rows c q + c i * rows i q ≡ start q + (combination i rows c q + c i * rows i q) = omega arith in
      e ∙ ap (λ t. start q + t) (sym (total_one_more i (λ j. c j * rows j q))))

  -- one more with the factor 0 adds nothing
  pub added_none : (i : ℕ) (rows : ℕ → ℕ → ℕ) (c start before : ℕ → ℕ) → SameRow m before (λ q. start q + combination i rows c q) → c i ≡ 0
      → SameRow m before (λ q. start q + combination (i + 1) rows c q)
  added_none i rows c start before same none =
      added_more i rows c start before before same (λ q. ap (λ x. x % m) (let e : before q ≡ before q + 0 * rows i q = omega arith in
      e ∙ ap (λ t. before q + t * rows i q) (sym none)))

  -- a sum that is scaled
  pub scaled_sum : (n scale k : ℕ) (rows : ℕ → ℕ → ℕ) (c sum after : ℕ → ℕ) → SameRow m sum (λ q. cond (eqb n q) 1 0 + combination k rows c q)
      → ((q : ℕ) → after q ≡ scale * sum q % m)
      → SameRow m after (λ q. scale * cond (eqb n q) 1 0 + combination k rows (λ i. scale * c i) q)
  scaled_sum n scale k rows c sum after same scaled q =
      ap (λ x. x % m) (scaled q) ∙ same-mod m (scale * sum q)
      ∙ same-mul_left m (sum q) _ scale (same q)
      ∙ ap (λ x. x % m) (let e : scale * (cond (eqb n q) 1 0 + combination k rows c q)
      ≡ scale * cond (eqb n q) 1 0 + combination k rows c q * scale = omega arith in e)
      ∙ same-add_left m _ _ (scale * cond (eqb n q) 1 0)
      (ap (λ x. x % m) (sym (combination_scaled k scale c rows q))
      ∙ same-combination m k rows (λ i. c i * scale) (λ i. scale * c i) (λ i l. ap (λ x. x % m) (mul_comm (c i) scale)) q)

  -- where each row is the value of its combination, so is a sum of rows of the same sum of combinations
  pub value_of_combined : {E : Type 0} (value : E → ℕ) (rows combinations : List (List (ℕ × E))) (n scale : ℕ) (u p f : ℕ
      → ℕ) (c : List (ℕ × E)) (count : ℕ) (relations : ℕ → ℕ → ℕ) → length combinations ≡ length rows
      → SameRow m f (λ q. scale * p q + combination (length rows) (row_at value rows) u q) → IsCombined m value combinations n scale u c → n < count
      → ((i : ℕ) → i < length rows → IsValueOf m value count relations (get_or combinations i []) (row_at value rows i)) → SameRow m (relations n) p
      → IsValueOf m value count relations c f
  value_of_combined {E} value rows combinations n scale u p f c count relations same_count is_sum combined inside values is_p col =
      let k = length rows in
      let sums = row_at value combinations in
      is_sum col
      ∙ same-add m _ _ _ _
      (same-mul_left m (p col) (relations n col) scale (sym (is_p col)) ∙ sym (combination_one m count n scale relations col inside))
      (same-total m k _ _ (λ i l. same-mul_left m _ _ (u i) (values i l col)) ∙ ap (λ x. x % m) (combination-combination k count u sums relations col))
      ∙ ap (λ x. x % m) (sym (combination-add count relations (λ l. scale * cond (eqb n l) 1 0) (combination k sums u) col))
      ∙ same-combination m count relations _ (entries_of value c)
      (λ l h. sym (combined l ∙ ap (λ t. (scale * cond (eqb n l) 1 0 + combination t sums u l) % m) same_count)) col
