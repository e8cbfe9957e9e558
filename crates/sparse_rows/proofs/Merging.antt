-- What the merge of two rows keeps: what has been summed, and what is left of both rows.
use Rattle.std.proofs.Common.{◌≡◌, ℕ, ◌+◌, ◌*◌, ◌%◌, ◌<◌, ◌≤◌, List, [], ◌∷◌, ◌++◌, Bool, true, false, cond, eqb, refl, sym, ◌∙◌, ap, arith, mod-eq_of_lt, suc, zero}
use Rattle.std.specs.Prelude.{◌≢◌}
use Rattle.std.proofs.lemmas.Bool.{eqb-true}
use Rattle.zeta_model.specs.Modular.{Same}
use Rattle.zeta_model.proofs.ModularLemmas.{same-add}
use Rattle.sparse_rows.specs.Entries.{entry_of, IsRow, IsBelow, AllIn}
use Rattle.sparse_rows.specs.Inner.{begins, IsFirst}
use Rattle.sparse_rows.proofs.EntryLemmas.{entry_of-append, IsRow-append, IsBelow-append, below_more, AllIn-append, entry_of_below}

pub record Merging {K E : Type 0} (number : K → ℕ) (zero_element : E) (has : E → Bool) (value : E
    → ℕ) (m c : ℕ) (old other sum left right : List (K × E)) : Type 0 where
  pub low : ℕ
  pub sum_row : IsRow number zero_element 0 sum
  pub sum_below : IsBelow number low sum
  pub left_row : IsRow number zero_element low left
  pub right_row : IsRow number zero_element low right
  pub sum_in : AllIn has sum
  pub left_in : AllIn has left
  pub right_in : AllIn has right
  pub same : (q : ℕ) → Same m (entry_of number value sum q + (entry_of number value left q + c * entry_of number value right q))
      (entry_of number value old q + c * entry_of number value other q)

-- the value at one number goes from what is left to the sum
moved : (m s t k c va vb vv l r : ℕ) → Same m vv (va + c * vb) → s + vv ≡ k → k + (l + c * r) ≡ t → Same m t (s + ((va + l) + c * (vb + r)))
moved m s t k c va vb vv l r e is total =
    ap (λ x. x % m) (let u : t ≡ (s + (l + c * r)) + vv = omega arith in u)
    ∙ same-add m (s + (l + c * r)) (s + (l + c * r)) vv (va + c * vb) refl e
    ∙ ap (λ x. x % m) (let u : (s + (l + c * r)) + (va + c * vb) ≡ s + ((va + l) + c * (vb + r)) = omega arith in u)

-- the number with which a row from low on begins is not below low
low_begins : {K E : Type 0} (number : K → ℕ) (zero_element : E) (low q : ℕ) (es : List (K × E)) → IsRow number zero_element low es → 0 < begins number q es
    → low ≤ q
low_begins number zero_element low q [] r h = absurd (omega arith)
low_begins {K} {E} number zero_element low q (e ∷ es) r h = go (eqb (number e.0) q) refl h
  where
    go : (b : Bool) → eqb (number e.0) q ≡ b → 0 < cond b 1 0 → low ≤ q
    go true is h = omega (arith, r.0, eqb-true (number e.0) q is)
    go false is h = absurd (omega arith)

module _ {K E : Type 0} (number : K → ℕ) (zero_element : E) (has : E → Bool) (value : E
    → ℕ) (m c : ℕ) (old other sum left right left' right' : List (K × E)) (key : K) (va vb : ℕ) (a : E)
    (kept : Merging number zero_element has value m c old other sum left right) (first : IsFirst number (number key) left right)
    (left_value : (q : ℕ) → entry_of number value left q ≡ cond (eqb (number key) q) va 0 + entry_of number value left' q)
    (right_value : (q : ℕ) → entry_of number value right q ≡ cond (eqb (number key) q) vb 0 + entry_of number value right' q)
    (is : Same m (value a) (va + c * vb)) where
  low_key : kept.low ≤ number key
  low_key = go (begins number (number key) left) refl
    where
      go : (n : ℕ) → begins number (number key) left ≡ n → kept.low ≤ number key
      go zero e = low_begins number zero_element kept.low (number key) right kept.right_row (omega (arith, first.begins_one))
      go (suc n) e = low_begins number zero_element kept.low (number key) left kept.left_row (omega arith)

  -- the sum of what is kept, after a is added at its number to what was summed
  same_after : (q s : ℕ) → s ≡ entry_of number value sum q + cond (eqb (number key) q) (value a) 0
      → Same m (s + (entry_of number value left' q + c * entry_of number value right' q)) (entry_of number value old q + c * entry_of number value other q)
  same_after q s e =
      go (eqb (number key) q) refl ∙ ap (λ x. (entry_of number value sum q + x) % m) (λ i. sym (left_value q) i + c * sym (right_value q) i) ∙ kept.same q
    where
      go : (t : Bool) → eqb (number key) q ≡ t
          → Same m (s + (entry_of number value left' q + c * entry_of number value right' q))
          (entry_of number value sum q + ((cond (eqb (number key) q) va 0 + entry_of number value left' q) + c *
          (cond (eqb (number key) q) vb 0 + entry_of number value right' q)))
      go true t = rw t (moved m (entry_of number value sum q) _ s c va vb (value a) (entry_of number value left' q) (entry_of number value right' q) is
          (rw t at (sym e)) refl)
      go false t = rw t (moved m (entry_of number value sum q) _ s c 0 0 0 (entry_of number value left' q) (entry_of number value right' q)
          (ap (λ x. x % m) (omega arith)) (rw t at (sym e)) refl)

  pub pushed : (new : List (K × E)) → new ≡ sum ++ (key, a) ∷ [] → a ≢ zero_element → has a ≡ true → AllIn has left' → AllIn has right'
      → IsRow number zero_element (number key + 1) left' → IsRow number zero_element (number key + 1) right'
      → Merging number zero_element has value m c old other new left' right'
  pushed new e f h hl hr rl rr =
      let below : IsBelow number (number key) sum = below_more number kept.low (number key) sum low_key kept.sum_below in
      record {
        low = number key + 1;
        sum_row = rw e (IsRow-append number zero_element 0 key a sum (omega arith) kept.sum_row below f);
        sum_below = rw e (IsBelow-append number (number key + 1) key a sum below (omega arith));
        left_row = rl;
        right_row = rr;
        sum_in = rw e (AllIn-append number has key a sum kept.sum_in h);
        left_in = hl;
        right_in = hr;
        same = λ q. same_after q (entry_of number value new q) (rw e (entry_of-append number value sum key a q));
      }

  pub skipped : value a ≡ 0 → AllIn has left' → AllIn has right' → IsRow number zero_element (number key + 1) left'
      → IsRow number zero_element (number key + 1) right' → Merging number zero_element has value m c old other sum left' right'
  skipped z hl hr rl rr = record {
    low = number key + 1;
    sum_row = kept.sum_row;
    sum_below = below_more number kept.low (number key + 1) sum (omega (arith, low_key)) kept.sum_below;
    left_row = rl;
    right_row = rr;
    sum_in = kept.sum_in;
    left_in = hl;
    right_in = hr;
    same = λ q. same_after q (entry_of number value sum q) (none (eqb (number key) q));
  }
    where
      none : (t : Bool) → {n : ℕ} → n ≡ n + cond t (value a) 0
      none true = omega arith
      none false = omega arith

-- when nothing is left, the sum has every entry
pub done : {K E : Type 0} (number : K → ℕ) (zero_element : E) (has : E → Bool) (value : E → ℕ) (m c : ℕ) (old other sum left right : List (K × E))
    → Merging number zero_element has value m c old other sum left right → left ≡ [] → right ≡ []
    → 0 < m → ((a : E) → has a ≡ true → value a < m) → (q : ℕ)
    → entry_of number value sum q ≡ (entry_of number value old q + c * entry_of number value other q) % m
done number zero_element has value m c old other sum left right kept l r pos below q =
    sym (mod-eq_of_lt (entry_of_below number zero_element has value m 0 q sum pos below kept.sum_row kept.sum_in))
    ∙ ap (λ x. x % m) (let e : entry_of number value sum q ≡ entry_of number value sum q + (0 + c * 0) = omega arith in e)
    ∙ ap (λ x. (entry_of number value sum q + x) % m) (λ i. entry_of number value (sym l i) q + c * entry_of number value (sym r i) q)
    ∙ kept.same q

pub true_or_false : {b : Bool} → b ≡ true → b ≡ false → ⊥
true_or_false t f = absurd (let e : true ≡ false = sym t ∙ f in cc)
