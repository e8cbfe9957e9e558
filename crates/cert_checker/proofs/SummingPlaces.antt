-- Steps of sums over places, to which multiples of placed sums are added one after the other.
use Rattle.std.proofs.Common.{◌≡◌, ℕ, ◌+◌, ◌*◌, ◌%◌, ◌<◌, Bool, true, List, [], ◌∷◌, length, refl, sym, ◌∙◌, ap, subst, arith}
use Rattle.std.specs.List.{All}
use Rattle.zeta_model.specs.Modular.{Same}
use Rattle.zeta_model.specs.Sums.{Sum}
use Rattle.zeta_model.proofs.ModularLemmas.{same-add_right, same-add_left, same-mul}
use Rattle.linear_model.specs.Rows.{SameRow}
use Rattle.sparse_rows.specs.Entries.{IsBelow, AllIn}
use Rattle.column_order.specs.Columns.{ColumnList}
use Rattle.echelon.specs.Lists.{entries_of}
use Rattle.table_model.specs.MonomialWords.{sum_combination}
use Rattle.cert_checker.specs.Inner.{numbers_of, word_at, IsPlaced}
use Rattle.cert_checker.proofs.Gaining.{combination-cons, combination-nil}

module _ {A E : Type 0} (m n sign : ℕ) (has : E → Bool) (value : E → ℕ) (is_sum : A → Type 0) (total : A → ℕ) (columns : ColumnList) (family : ℕ → Sum)
    (old : List A) (all : List (ℕ × E)) where
  -- with the placed sums of the pairs that are left, the sums have all that they are to have
  pub record Summing (sums : List A) (rest : List (ℕ × E)) : Type 0 where
    pub len : length sums ≡ length columns.list
    pub all_sums : All is_sum sums
    pub below : IsBelow (λ k. k) n rest
    pub in_ring : AllIn has rest
    pub same : (q : ℕ) → q < length columns.list
        → Same m (numbers_of total sums q + sign * sum_combination n family (entries_of value rest) (word_at columns q))
        (numbers_of total old q + sign * sum_combination n family (entries_of value all) (word_at columns q))

  pub summing-start : length old ≡ length columns.list → All is_sum old → IsBelow (λ k. k) n all → AllIn has all → Summing old all
  summing-start len sums below in_ring = record { len = len; all_sums = sums; below = below; in_ring = in_ring; same = λ q l. refl }

  module _ (sums : List A) (rest behind : List (ℕ × E)) (entry : ℕ × E) (begins : rest ≡ entry ∷ behind) (kept : Summing sums rest) where
    pub key_below : entry.0 < n
    key_below = (subst (IsBelow (λ k. k) n) begins kept.below).0

    pub entry_in : has entry.1 ≡ true
    entry_in = (subst (AllIn has) begins kept.in_ring).0

    pub summing-more : (placed : List (ℕ × E)) (c : E) (new : List A) → IsPlaced m has value columns (family entry.0) placed
        → Same m (value c) (sign * value entry.1) → length new ≡ length sums → All is_sum new
        → SameRow m (numbers_of total new) (λ q. numbers_of total sums q + value c * entries_of value placed q) → Summing new behind
    summing-more placed c new of_family factor len all_new added = record {
      len = len ∙ kept.len;
      all_sums = all_new;
      below = (subst (IsBelow (λ k. k) n) begins kept.below).1;
      in_ring = (subst (AllIn has) begins kept.in_ring).1;
      same = λ q l.
          let t = word_at columns q in
          let s : ℕ = numbers_of total sums q in
          let o : ℕ = entries_of value placed q in
          let v : ℕ = family entry.0 t in
          let w : ℕ = sum_combination n family (entries_of value behind) t in
          let here : Same m (numbers_of total new q) (s + sign * value entry.1 * v) =
          added q ∙ same-add_left m (value c * o) (sign * value entry.1 * v) s (same-mul m (value c) (sign * value entry.1) o v factor (of_family.same q l)) in
          same-add_right m (numbers_of total new q) (s + sign * value entry.1 * v) (sign * w) here
          ∙ ap (λ x. x % m) (let e : s + sign * value entry.1 * v + sign * w ≡ s + sign * (value entry.1 * v + w) = omega arith in e)
          ∙ ap (λ x. (s + sign * x) % m) (sym (combination-cons value n family entry behind t key_below))
          ∙ ap (λ es. (s + sign * sum_combination n family (entries_of value es) t) % m) (sym begins) ∙ kept.same q l;
    }

  pub summing-end : (sums : List A) (rest : List (ℕ × E)) → length rest ≡ 0 → Summing sums rest → (q : ℕ) → q < length columns.list
      → Same m (numbers_of total sums q) (numbers_of total old q + sign * sum_combination n family (entries_of value all) (word_at columns q))
  summing-end sums [] none kept q l =
      ap (λ x. x % m) (let z : numbers_of total sums q ≡ numbers_of total sums q + sign * 0 = omega arith in z)
      ∙ ap (λ x. (numbers_of total sums q + sign * x) % m) (sym (combination-nil value n family (word_at columns q))) ∙ kept.same q l
  summing-end sums (e ∷ es) none kept q l = absurd (omega arith)
