-- Steps of sums to which multiples of other sums are added, one after the other.
use Rattle.std.proofs.Common.{◌≡◌, ℕ, zero, suc, ◌+◌, ◌-◌, ◌*◌, ◌%◌, ◌<◌, inl, inr, Bool, List, [], ◌∷◌, length, cond, eqb, refl, sym, ◌∙◌, ap, subst, arith}
use Rattle.std.proofs.lemmas.Bool.{cases_eq, eq-eqb, ne_eqb}
use Rattle.zeta_model.specs.declared.Letter.{Letter}
use Rattle.zeta_model.specs.Modular.{Same}
use Rattle.zeta_model.specs.Sums.{Sum}
use Rattle.zeta_model.proofs.ModularLemmas.{same-add_right, same-add_left, same-mul_left, same-mul, same-mod, same-multiple, same-cancel}
use Rattle.word_sums.specs.Terms.{coefficient_of}
use Rattle.word_sums.specs.Sums.{IsSum, IsSumOf}
use Rattle.sparse_rows.specs.Entries.{IsBelow}
use Rattle.linear_model.specs.Rows.{total}
use Rattle.linear_model.proofs.Totals.{total-add, total_alike}
use Rattle.table_model.specs.MonomialWords.{sum_combination}
use Rattle.echelon.specs.Lists.{entries_of}
use Rattle.cert_checker.specs.Certified.{residues_at}

abbrev Word : Type 0
Word = List Letter

total-none : (n : ℕ) (f : ℕ → ℕ) → ((i : ℕ) → i < n → f i ≡ 0) → total n f ≡ 0
total-none zero f h = refl
total-none (suc n) f h = omega (arith, total-none n f (λ i l. h i (omega arith)), h n (omega arith))

-- one coefficient alone gives its sum
total-one : (n k r : ℕ) (f : ℕ → ℕ) → k < n → total n (λ i. cond (eqb k i) r 0 * f i) ≡ r * f k
total-one zero k r f l = absurd (omega arith)
total-one (suc n) k r f l = elim (cases_eq k n) [
  | inl e ↦
      let front : total n (λ i. cond (eqb k i) r 0 * f i) ≡ 0 =
      total-none n (λ i. cond (eqb k i) r 0 * f i) (λ i li. ap (λ b. cond b r 0 * f i) (ne_eqb k i (λ q. absurd (omega arith))) ∙ omega arith) in
      let last : cond (eqb k n) r 0 * f n ≡ r * f k = ap (λ b. cond b r 0 * f n) (eq-eqb k n e) ∙ ap (λ i. r * f i) (sym e) in
      omega arith
  | inr ne ↦
      let front : total n (λ i. cond (eqb k i) r 0 * f i) ≡ r * f k = total-one n k r f (omega arith) in
      let last : cond (eqb k n) r 0 * f n ≡ 0 = ap (λ b. cond b r 0 * f n) (ne_eqb k n ne) ∙ omega arith in
      omega arith
]

module _ {E : Type 0} (value : E → ℕ) (n : ℕ) (sums : ℕ → Sum) where
  -- the first pair of a combination, and those behind it
  pub combination-cons : (e : ℕ × E) (es : List (ℕ × E)) (t : Word) → e.0 < n
      → sum_combination n sums (entries_of value (e ∷ es)) t ≡ value e.1 * sums e.0 t + sum_combination n sums (entries_of value es) t
  combination-cons e es t l =
      let first : ℕ → ℕ = λ i. cond (eqb e.0 i) (value e.1) 0 in
      let rest : ℕ → ℕ = entries_of value es in
      total_alike n (λ i. (first i + rest i) * sums i t) (λ i. first i * sums i t + rest i * sums i t)
      (λ i. let p : (first i + rest i) * sums i t ≡ first i * sums i t + rest i * sums i t = omega arith in p)
      ∙ total-add n (λ i. first i * sums i t) (λ i. rest i * sums i t)
      ∙ ap (λ x. x + sum_combination n sums rest t) (total-one n e.0 (value e.1) (λ i. sums i t) l)

  -- no pairs give no words
  pub combination-nil : (t : Word) → sum_combination n sums (entries_of value []) t ≡ 0
  combination-nil t = total-none n (λ i. entries_of value [] i * sums i t) (λ i l. omega arith)

mul-less : (k m v : ℕ) → m ≡ k + 1 → k * v + v ≡ m * v
mul-less k m v e = let p : k * v + v ≡ (k + 1) * v = omega arith in p ∙ ap (λ x. x * v) (sym e)

-- the opposite of a residue is m - 1 times the residue
pub same-negative : (m r v a : ℕ) → 0 < m → v ≡ r % m → a ≡ (m - v) % m → Same m a ((m - 1) * r)
same-negative m r v a pos is neg =
    let small : v < m = omega (arith, is) in
    let whole : m - v + v ≡ 0 + m * 1 = omega arith in
    let sums : (m - 1) * v + v ≡ 0 + m * v = mul-less (m - 1) m v (omega arith) ∙ omega arith in
    ap (λ x. x % m) neg ∙ same-mod m (m - v)
    ∙ same-cancel m (m - v) ((m - 1) * v) v pos (ap (λ x. x % m) whole ∙ same-multiple m 0 1 ∙ sym (same-multiple m 0 v) ∙ ap (λ x. x % m) (sym sums))
    ∙ same-mul_left m v r (m - 1) (ap (λ x. x % m) is ∙ same-mod m r)

module _ {E : Type 0} (nought : E) (has : E → Bool) (value : E → ℕ) (m n sign : ℕ) (sums : ℕ → Sum) (old : List (Word × E)) (all : List (ℕ × ℕ)) where
  -- with the sums of the pairs that are left, the sum has all that it is to have
  pub record Gaining (sum : List (Word × E)) (rest : List (ℕ × ℕ)) : Type 0 where
    pub is_sum : IsSum nought has sum
    pub below : IsBelow (λ k. k) n rest
    pub same : (t : Word) → Same m (coefficient_of value sum t + sign * sum_combination n sums (residues_at rest) t)
        (coefficient_of value old t + sign * sum_combination n sums (residues_at all) t)

  pub gaining-start : IsSum nought has old → IsBelow (λ k. k) n all → Gaining old all
  gaining-start is below = record { is_sum = is; below = below; same = λ t. refl }

  module _ (sum : List (Word × E)) (rest behind : List (ℕ × ℕ)) (entry : ℕ × ℕ) (begins : rest ≡ entry ∷ behind) (kept : Gaining sum rest) where
    pub key_below : entry.0 < n
    key_below = (subst (IsBelow (λ k. k) n) begins kept.below).0

    pub gaining-more : (other new : List (Word × E)) (c : E) → IsSumOf nought has value m (sums entry.0) other → Same m (value c) (sign * entry.1)
        → IsSum nought has new
        → ((t : Word) → coefficient_of value new t ≡ (coefficient_of value sum t + value c * coefficient_of value other t) % m)
        → Gaining new behind
    gaining-more other new c of_other factor is_new added = record {
      is_sum = is_new;
      below = (subst (IsBelow (λ k. k) n) begins kept.below).1;
      same = λ t.
          let s : ℕ = coefficient_of value sum t in
          let o : ℕ = coefficient_of value other t in
          let v : ℕ = sums entry.0 t in
          let w : ℕ = sum_combination n sums (residues_at behind) t in
          let gain : Same m (value c * o) (sign * entry.1 * v) =
          same-mul m (value c) (sign * entry.1) o v factor (ap (λ x. x % m) (of_other.coefficients t) ∙ same-mod m v) in
          let here : Same m (coefficient_of value new t) (s + sign * entry.1 * v) =
          ap (λ x. x % m) (added t) ∙ same-mod m (s + value c * o) ∙ same-add_left m (value c * o) (sign * entry.1 * v) s gain in
          same-add_right m (coefficient_of value new t) (s + sign * entry.1 * v) (sign * w) here
          ∙ ap (λ x. x % m) (let e : s + sign * entry.1 * v + sign * w ≡ s + sign * (entry.1 * v + w) = omega arith in e)
          ∙ ap (λ x. (s + sign * x) % m) (sym (combination-cons (λ v. v) n sums entry behind t key_below))
          ∙ ap (λ es. (s + sign * sum_combination n sums (residues_at es) t) % m) (sym begins) ∙ kept.same t;
    }

  pub gaining-end : (sum : List (Word × E)) (rest : List (ℕ × ℕ)) → length rest ≡ 0 → Gaining sum rest
      → (t : Word) → Same m (coefficient_of value sum t) (coefficient_of value old t + sign * sum_combination n sums (residues_at all) t)
  gaining-end sum [] none kept t =
      ap (λ x. x % m) (let z : coefficient_of value sum t ≡ coefficient_of value sum t + sign * 0 = omega arith in z)
      ∙ ap (λ x. (coefficient_of value sum t + sign * x) % m) (sym (combination-nil (λ v. v) n sums t)) ∙ kept.same t
  gaining-end sum (e ∷ es) none kept t = absurd (omega arith)
