-- The value of a sum of words, term by term.
use Rattle.std.proofs.Common.{◌≡◌, ℕ, ◌+◌, ◌*◌, ◌%◌, ◌<◌, Bool, true, List, [], ◌∷◌, sym, ap, subst, ◌∙◌, arith}
use Rattle.std.specs.Prelude.{All}
use Rattle.std.specs.Map.{keys_of, values_of}
use Rattle.std.proofs.Math.Nat.{mod-eq_of_lt, mul_comm}
use Rattle.std.proofs.lemmas.List.Elements.{All-head, All-tail}
use Rattle.zeta_model.specs.Sums.{numbered}
use Rattle.word_sums.specs.Terms.{AllIn}
use Rattle.zeta_model.specs.Modular.{Same}
use Rattle.zeta_model.specs.Words.{has_index}
use Rattle.zeta_model.specs.declared.Letter.{Letter}
use Rattle.zeta_model.proofs.ModularLemmas.{same-add_right, same-mod}
use Rattle.truncated_sums.specs.TruncatedSums.{word_value, terms_value}
use Rattle.truncated_sums.specs.Summing.{Summing}
use Rattle.truncated_sums.proofs.RunningSums.{rest_step}

module _ {E : Type 0} (m : ℕ) (has : E → Bool) (value : E → ℕ) (inverse : ℕ → ℕ) (n : ℕ) (whole : List (List Letter × E)) where
  abbrev State : E → List (List Letter × E) → Type 0
  State = Summing {E = E} m has value inverse n whole

  pub summing_index : (sum : E) (rest others : List (List Letter × E)) (word : List Letter) (residue : E) → rest ≡ (word, residue) ∷ others
      → Summing {E = E} m has value inverse n whole sum rest → has_index word ≡ true
  summing_index sum rest others word residue steps kept =
      All-head (λ w. has_index w ≡ true) word (keys_of others) (subst (λ es. All (λ w. has_index w ≡ true) (keys_of es)) steps kept.indices)

  pub summing_has : (sum : E) (rest others : List (List Letter × E)) (word : List Letter) (residue : E) → rest ≡ (word, residue) ∷ others
      → Summing {E = E} m has value inverse n whole sum rest → has residue ≡ true
  summing_has sum rest others word residue steps kept =
      All-head (λ a. has a ≡ true) residue (values_of others) (subst (AllIn has) steps kept.all_in)

  pub summing_next : (sum next term product : E) (rest others : List (List Letter × E)) (word : List Letter) (residue : E) → rest ≡ (word, residue) ∷ others
      → has next ≡ true → value next ≡ (value sum + value product) % m → value product ≡ value residue * value term % m
      → value term ≡ word_value inverse n word % m → Summing {E = E} m has value inverse n whole sum rest
      → Summing {E = E} m has value inverse n whole next others
  summing_next sum next term product rest others word residue steps has_next is of_product of_term kept =
      let h : ℕ = word_value inverse n word in
      let r : ℕ = value residue in
      let behind : ℕ = terms_value inverse n (numbered value others) in
      let gained : value next ≡ (value sum + h * r) % m = rest_step m (value sum) r (value term) h (value product) (value next) is (of_product
      ∙ ap (λ x. x % m) (mul_comm r (value term))) of_term in
      let same : Same m (value next) (value sum + h * r) = ap (λ x. x % m) gained ∙ same-mod m (value sum + h * r) in
      let regroup : value sum + h * r + behind ≡ value sum + (r * h + behind) = omega arith in
      record {
        in_ring = has_next;
        indices = All-tail (λ w. has_index w ≡ true) word (keys_of others) (subst (λ es. All (λ w. has_index w ≡ true) (keys_of es)) steps kept.indices);
        all_in = All-tail (λ a. has a ≡ true) residue (values_of others) (subst (AllIn has) steps kept.all_in);
        values = same-add_right m (value next) (value sum + h * r) behind same ∙ ap (λ x. x % m) regroup
            ∙ subst (λ es. Same m (value sum + terms_value inverse n (numbered value es)) (terms_value inverse n (numbered value whole))) steps kept.values;
      }

  pub summing_start : (none : E) → has none ≡ true → value none ≡ 0 → All (λ w. has_index w ≡ true) (keys_of whole) → AllIn has whole
      → Summing {E = E} m has value inverse n whole none whole
  summing_start none has_none zero indices all_in = record {
    in_ring = has_none;
    indices = indices;
    all_in = all_in;
    values = ap (λ x. (x + terms_value inverse n (numbered value whole)) % m) zero ∙ ap (λ x. x % m) (omega arith);
  }

  pub summing_end : (sum : E) (rest : List (List Letter × E)) → value sum < m → rest ≡ [] → Summing {E = E} m has value inverse n whole sum rest
      → value sum ≡ terms_value inverse n (numbered value whole) % m
  summing_end sum rest below none kept =
      sym (mod-eq_of_lt below) ∙ ap (λ x. x % m) (omega arith)
      ∙ subst (λ es. Same m (value sum + terms_value inverse n (numbered value es)) (terms_value inverse n (numbered value whole))) none kept.values
