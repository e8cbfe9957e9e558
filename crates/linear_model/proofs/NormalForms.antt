-- Normal forms of two rows, and normal forms by two lists of one span.
use Rattle.std.specs.Prelude.{◌≡◌, ℕ, ◌+◌, ◌-◌, ◌*◌, ◌%◌, ◌<◌, ◌↔◌}
use Rattle.std.proofs.Common.{refl, sym, ◌∙◌, ap, subst, arith}
use Rattle.zeta_model.specs.Modular.{Same}
use Rattle.zeta_model.proofs.ModularLemmas.{same-add, same-add_left, same-add_right, same-mul_left, same-opposite}
use Rattle.linear_model.specs.Rows.{combination, SameRow, InSpan, SameSpan}
use Rattle.linear_model.specs.Reduced.{IsReduced, IsNormalForm}
use Rattle.linear_model.specs.Forward.{IsForward}
use Rattle.linear_model.proofs.Spans.{combination_scaled, span_through}
use Rattle.linear_model.proofs.ForwardLists.{normal_form_unique}
use Rattle.linear_model.proofs.ReducedPairs.{leads_agree, counts_agree}
use Rattle.linear_model.proofs.Combinations.{combination-add}

-- p less q, since m - 1 is -1 modulo m
abbrev pub row_difference : ℕ → (ℕ → ℕ) → (ℕ → ℕ) → ℕ → ℕ
row_difference m p q col = p col + (m - 1) * q col

module _ (m n : ℕ) (lead : ℕ → ℕ) (rows : ℕ → ℕ → ℕ) (pos : 0 < m) where
  minus : (c d : ℕ → ℕ) (col : ℕ) → combination n rows (λ i. c i + d i * (m - 1)) col ≡ combination n rows c col + combination n rows d col * (m - 1)
  minus c d col = combination-add n rows c (λ i. d i * (m - 1)) col ∙ ap (λ x. combination n rows c col + x) (combination_scaled n (m - 1) d rows col)

  -- two rows have one normal form exactly where their difference is in the span
  pub same_normal_form : IsForward m n lead rows → (p q r s : ℕ → ℕ) → IsNormalForm m n lead rows p r → IsNormalForm m n lead rows q s
      → SameRow m r s ↔ InSpan m n rows (row_difference m p q)
  same_normal_form forward p q r s hp hq = (there, back)
    where
      there : SameRow m r s → InSpan m n rows (row_difference m p q)
      there e = (
        λ i. hp.coefficients i + hq.coefficients i * (m - 1),
        λ col.
            let cp : ℕ = combination n rows hp.coefficients col in
            let cq : ℕ = combination n rows hq.coefficients col in
            same-add m (p col) (s col + cp) ((m - 1) * q col) ((m - 1) * (s col + cq)) (hp.differs col
            ∙ same-add_right m (r col) (s col) cp (e col)) (same-mul_left m (q col) (s col + cq) (m - 1) (hq.differs col))
            ∙ ap (λ x. x % m) (let t : s col + cp + (m - 1) * (s col + cq) ≡ cp + cq * (m - 1) + s col + s col * (m - 1) = grind arith in t)
            ∙ same-opposite m (cp + cq * (m - 1)) (s col) pos
            ∙ ap (λ x. x % m) (sym (minus hp.coefficients hq.coefficients col)),
      )

      back : InSpan m n rows (row_difference m p q) → SameRow m r s
      back (c, is) = normal_form_unique m n lead rows pos forward p r s hp (record {
        zero_at_leads = hq.zero_at_leads;
        coefficients = λ i. hq.coefficients i + c i;
        differs = λ col.
            let cq : ℕ = combination n rows hq.coefficients col in
            let cc : ℕ = combination n rows c col in
            sym (same-opposite m (p col) (q col) pos)
            ∙ ap (λ x. x % m) (let t : p col + q col + q col * (m - 1) ≡ q col + (p col + (m - 1) * q col) = grind arith in t)
            ∙ same-add m (q col) (s col + cq) (p col + (m - 1) * q col) cc (hq.differs col) (is col)
            ∙ ap (λ x. x % m) (let t : s col + cq + cc ≡ s col + (cq + cc) = omega arith in
            t ∙ ap (λ x. s col + x) (sym (combination-add n rows hq.coefficients c col)));
      })

-- a normal form by one of two reduced lists of one span is one by the other
pub other_normal_form : (m n k : ℕ) (lead other_lead : ℕ → ℕ) (rows others : ℕ → ℕ → ℕ) → 1 < m → IsReduced m n lead rows → IsReduced m k other_lead others
    → SameSpan m n rows k others
    → (p q : ℕ → ℕ) → IsNormalForm m n lead rows p q → IsNormalForm m k other_lead others p q
other_normal_form m n k lead other_lead rows others big reduced others_reduced spans p q h =
    let same : n ≡ k = counts_agree m n k lead other_lead rows others big reduced others_reduced spans in
    let moved : InSpan m k others (combination n rows h.coefficients) =
    span_through m n k rows others spans.0 (combination n rows h.coefficients) (h.coefficients, λ col. refl) in
    record {
      zero_at_leads = λ i l. let l' : i < n = omega arith in
          subst (λ x. Same m (q x) 0) (leads_agree m n k lead other_lead rows others big reduced others_reduced spans i l') (h.zero_at_leads i l');
      coefficients = moved.0;
      differs = λ col. h.differs col ∙ same-add_left m (combination n rows h.coefficients col) (combination k others moved.0 col) (q col) (moved.1 col);
    }
