-- A truncated sum by its last number: the lists that begin with it, and those that do not.
use Rattle.std.proofs.Common.{◌≡◌, ℕ, suc, ◌+◌, ◌*◌, ◌^◌, List, [], ◌∷◌, length, map, refl, ap, ◌∙◌}
use Rattle.std.proofs.lemmas.List.Sums.{sum_by-append}
use Rattle.truncated_sums.specs.DecreasingLists.{decreasing_lists}
use Rattle.truncated_sums.specs.TruncatedSums.{term_of, truncated_sum}
use Rattle.truncated_sums.proofs.ListSums.{sum_by-map, sum_by-times}

module _ (inverse : ℕ → ℕ) where
  pub truncated_sum-empty : (n : ℕ) → truncated_sum inverse n [] ≡ 1
  truncated_sum-empty n = refl

  pub truncated_sum-zero : (k : ℕ) (ks : List ℕ) → truncated_sum inverse 0 (k ∷ ks) ≡ 0
  truncated_sum-zero k ks = refl

  pub truncated_sum-suc : (n k : ℕ) (ks : List ℕ)
      → truncated_sum inverse (suc n) (k ∷ ks) ≡ inverse (suc n) ^ k * truncated_sum inverse n ks + truncated_sum inverse n (k ∷ ks)
  truncated_sum-suc n k ks =
      let term : List ℕ → ℕ = λ ns. term_of inverse ns (k ∷ ks) in
      let tails : List (List ℕ) = decreasing_lists n (length ks) in
      sum_by-append term (map (λ l. suc n ∷ l) tails) (decreasing_lists n (suc (length ks)))
      ∙ ap (λ t. t + truncated_sum inverse n (k ∷ ks)) (sum_by-map term (λ l. suc n ∷ l) tails
      ∙ sum_by-times (inverse (suc n) ^ k) (λ ns. term_of inverse ns ks) tails)
