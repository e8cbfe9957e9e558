-- Steps of `cancel_at_leads`: the entries of a row are cancelled by the reduced rows that lead at their columns.
use Rattle.std.proofs.Common.{◌≡◌, ◌≢◌, ℕ, ◌+◌, ◌*◌, ◌-◌, ◌%◌, ◌<◌, ◌⊎◌, List, [], ◌∷◌, length, get_or, cond, eqb, inl, inr, refl, sym, ◌∙◌, ap, subst, arith}
use Rattle.std.proofs.lemmas.Bool.{cases_eq, eq-eqb, ne_eqb}
use Rattle.zeta_model.specs.Modular.{Same}
use Rattle.zeta_model.proofs.ModularLemmas.{same-add_left, same-add_right, same-mul_right, same-cancel}
use Rattle.linear_model.specs.Rows.{combination, SameRow}
use Rattle.linear_model.proofs.Combinations.{combination-add, combination-one}
use Rattle.linear_model.proofs.ReducedLists.{combination-lead, lead_apart}
use Rattle.linear_model.proofs.Totals.{total_alike, total-zero}
use Rattle.echelon.specs.Lists.{entries_of, row_at, lead_at, AreReduced}
use Rattle.echelon.specs.Offers.{IsRemainder}

module _ {E : Type 0} (m : ℕ) (value : E → ℕ) (rows : List (List (ℕ × E))) where
  -- all entries are the sums and a combination of the rows, whose coefficients are the entries at leads that were cancelled
  pub record Cancelling (all : List (ℕ × E)) (sums : ℕ → ℕ) (rest : List (ℕ × E)) : Type 0 where
    pub c : ℕ → ℕ
    pub differs : SameRow m (entries_of value all) (λ q. sums q + combination (length rows) (row_at value rows) c q)
    pub cancelled : (i : ℕ) → i < length rows → c i + entries_of value rest (lead_at rows i) ≡ entries_of value all (lead_at rows i)

  pub cancelling_none : (all : List (ℕ × E)) (sums : ℕ → ℕ) → SameRow m (entries_of value all) sums → Cancelling all sums all
  cancelling_none all sums same = record {
    c = λ _. 0;
    differs = λ q.
        let none : combination (length rows) (row_at value rows) (λ _. 0) q ≡ 0 =
        total_alike (length rows) _ (λ _. 0) (λ i. let e : 0 * row_at value rows i q ≡ 0 = omega arith in e) ∙ total-zero (length rows) in
        same q ∙ ap (λ x. x % m) (omega (arith, none));
    cancelled = λ i l. omega arith;
  }

  module _ (pos : 0 < m) (reduced : AreReduced m value rows) (all rest behind : List (ℕ × E)) (entry : ℕ × E) (sums : ℕ
      → ℕ) (kept : Cancelling all sums rest) (is : rest ≡ entry ∷ behind) where
    rest_at : (q : ℕ) → entries_of value rest q ≡ cond (eqb entry.0 q) (value entry.1) 0 + entries_of value behind q
    rest_at q = ap (λ es. entries_of value es q) is

    -- no row leads at the column
    pub cancelling_other : ((i : ℕ) → i < length rows → lead_at rows i ≢ entry.0) → Cancelling all sums behind
    cancelling_other nowhere = record {
      c = kept.c;
      differs = kept.differs;
      cancelled = λ i l.
          let other : entry.0 ≢ lead_at rows i = λ e. nowhere i l (sym e) in
          omega (arith, kept.cancelled i l, rest_at (lead_at rows i), ap (λ b. cond b (value entry.1) 0) (ne_eqb entry.0 (lead_at rows i) other));
    }

    -- row k leads there, and f times it is added
    pub cancelling_at : (k f : ℕ) (new : ℕ → ℕ) → k < length rows → lead_at rows k ≡ entry.0 → Same m (value entry.1 + f) 0
        → SameRow m new (λ q. sums q + f * row_at value rows k q) → Cancelling all new behind
    cancelling_at k f new inside leads undone added = record {
      c = c_;
      differs = λ q.
          let old = combination (length rows) (row_at value rows) kept.c q in
          let one = combination (length rows) (row_at value rows) (λ i. cond (eqb i k) (value entry.1) 0) q in
          let r = row_at value rows k q in
          let sum : combination (length rows) (row_at value rows) c_ q ≡ old + one =
          combination-add (length rows) (row_at value rows) kept.c (λ i. cond (eqb i k) (value entry.1) 0) q in
          kept.differs q
          ∙ ap (λ x. x % m) (let e : sums q + old ≡ sums q + old + 0 * r = omega arith in e)
          ∙ same-add_left m (0 * r) ((value entry.1 + f) * r) (sums q + old) (same-mul_right m 0 (value entry.1 + f) r (sym undone))
          ∙ ap (λ x. x % m) (let e : sums q + old + (value entry.1 + f) * r ≡ sums q + f * r + old + value entry.1 * r = omega arith in e)
          ∙ same-add_left m (value entry.1 * r) one (sums q + f * r + old)
          (sym (combination-one m (length rows) (row_at value rows) k (value entry.1) q inside))
          ∙ ap (λ x. x % m) (let e : sums q + f * r + old + one ≡ old + one + (sums q + f * r) = omega arith in e)
          ∙ same-add_left m (sums q + f * r) (new q) (old + one) (sym (added q))
          ∙ ap (λ x. x % m) (let e : old + one + new q ≡ new q + (old + one) = omega arith in e)
          ∙ ap (λ x. (new q + x) % m) (sym sum);
      cancelled = λ i l. at i l (cases_eq i k);
    }
      where
        c_ : ℕ → ℕ
        c_ i = kept.c i + cond (eqb i k) (value entry.1) 0

        at : (i : ℕ) → i < length rows → ((i ≡ k) ⊎ (i ≢ k)) → c_ i + entries_of value behind (lead_at rows i) ≡ entries_of value all (lead_at rows i)
        at i l (inl e) =
            let here : entry.0 ≡ lead_at rows i = sym (ap (lead_at rows) e ∙ leads) in
            omega (
              arith,
              kept.cancelled i l,
              rest_at (lead_at rows i),
              ap (λ b. cond b (value entry.1) 0) (eq-eqb entry.0 (lead_at rows i) here),
              ap
                  (λ b. cond b (value entry.1) 0) (eq-eqb i k e),
            )
        at i l (inr ne) =
            let apart : lead_at rows i ≢ lead_at rows k = lead_apart m (length rows) (lead_at rows) (row_at value rows) reduced i k l inside ne in
            let other : entry.0 ≢ lead_at rows i = λ e. apart (sym e ∙ sym leads) in
            omega (
              arith,
              kept.cancelled i l,
              rest_at (lead_at rows i),
              ap (λ b. cond b (value entry.1) 0) (ne_eqb entry.0 (lead_at rows i) other),
              ap
                  (λ b. cond b (value entry.1) 0) (ne_eqb i k ne),
            )

  -- all entries are looked at
  pub cancelled_all : 0 < m → AreReduced m value rows → (all : List (ℕ × E)) (sums : ℕ → ℕ) (rest : List (ℕ × E)) → Cancelling all sums rest
      → length rest ≡ 0
      → IsRemainder m value rows (entries_of value all) sums
  cancelled_all pos reduced all sums [] kept none = record {
    zero_at_leads = λ i l.
        let a = entries_of value all (lead_at rows i) in
        let whole : kept.c i ≡ a = omega (arith, kept.cancelled i l) in
        let same : Same m (0 + a) (sums (lead_at rows i) + a) =
        ap (λ x. x % m) (let e : 0 + a ≡ a = omega arith in e)
        ∙ kept.differs (lead_at rows i)
        ∙ same-add_left m (combination (length rows) (row_at value rows) kept.c (lead_at rows i)) (kept.c i) (sums (lead_at rows i))
        (combination-lead m (length rows) (lead_at rows) (row_at value rows) reduced kept.c i l)
        ∙ ap (λ x. (sums (lead_at rows i) + x) % m) whole in
        sym (same-cancel m 0 (sums (lead_at rows i)) a pos same);
    coefficients = kept.c;
    differs = kept.differs;
  }
  cancelled_all pos reduced all sums (e ∷ es) kept none = absurd (omega arith)

  -- what agrees with a remainder is one
  pub remainder_same : (p r s : ℕ → ℕ) → IsRemainder m value rows p r → SameRow m s r → IsRemainder m value rows p s
  remainder_same p r s is same = record {
    zero_at_leads = λ i l. same (lead_at rows i) ∙ is.zero_at_leads i l;
    coefficients = is.coefficients;
    differs = λ q. is.differs q ∙ same-add_right m (r q) (s q) (combination (length rows) (row_at value rows) is.coefficients q) (sym (same q));
  }
