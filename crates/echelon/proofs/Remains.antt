-- What is left of a row, where rows that stand for columns are put in the place of its entries.
use Rattle.std.proofs.Common.{◌≡◌, ◌≢◌, ℕ, ◌+◌, ◌*◌, ◌%◌, ◌<◌, ◌++◌, List, [], ◌∷◌, length, get_or, Bool, true, false, cond, eqb, refl, sym, ◌∙◌, ap}
use Rattle.std.proofs.Common.{subst, arith}
use Rattle.std.specs.List.{All}
use Rattle.std.proofs.lemmas.Bool.{eq-eqb, ne_eqb}
use Rattle.std.proofs.lemmas.List.{get_or_append_left}
use Rattle.zeta_model.specs.Modular.{Same}
use Rattle.zeta_model.proofs.ModularLemmas.{same-add_left, same-add_right, same-mul_left, same-mul_right}
use Rattle.linear_model.specs.Rows.{combination, SameRow, InSpan}
use Rattle.linear_model.proofs.Totals.{total-zero, total_one_more, total-add, mul-total, total_alike, same-total}
use Rattle.linear_model.proofs.Spans.{row_in_span}
use Rattle.sparse_rows.specs.Entries.{IsBelow, AllIn}
use Rattle.echelon.specs.Lists.{entries_of, row_at}
use Rattle.echelon.specs.Inner.{numbers_of, unit_row, IsRest, AllStand}
use Rattle.echelon.proofs.RowLists.{length-push}

combination-zero : (n : ℕ) (rows : ℕ → ℕ → ℕ) (col : ℕ) → combination n rows (λ _. 0) col ≡ 0
combination-zero n rows col = total_alike n _ (λ _. 0) (λ i. let e : 0 * rows i col ≡ 0 = omega arith in e) ∙ total-zero n

combination-more : (n : ℕ) (rows : ℕ → ℕ → ℕ) (c d : ℕ → ℕ) (a col : ℕ)
    → combination n rows (λ i. c i + a * d i) col ≡ combination n rows c col + a * combination n rows d col
combination-more n rows c d a col =
    total_alike n _ (λ i. c i * rows i col + a * (d i * rows i col)) (λ i. let e : (c i + a * d i) * rows i col
    ≡ c i * rows i col + a * (d i * rows i col) = omega arith in e)
    ∙ total-add n (λ i. c i * rows i col) (λ i. a * (d i * rows i col))
    ∙ ap (λ x. combination n rows c col + x) (sym (mul-total n a (λ i. d i * rows i col)))

pub times_unit : (a k q : ℕ) → cond (eqb k q) a 0 ≡ a * unit_row k q
times_unit a k q = go (eqb k q)
  where
    go : (b : Bool) → cond b a 0 ≡ a * cond b 1 0
    go true = omega arith
    go false = omega arith

module _ {E : Type 0} (m : ℕ) (value : E → ℕ) (rows : List (List (ℕ × E))) where
  -- nothing was taken away
  pub rest_same : (p q : ℕ → ℕ) → SameRow m p q → IsRest m value rows p q
  rest_same p q same = (λ _. 0, λ col. same col ∙ ap (λ x. x % m) (omega (arith, combination-zero (length rows) (row_at value rows) col)))

  pub rest_between : (p q r s : ℕ → ℕ) → SameRow m p q → IsRest m value rows q r → SameRow m r s → IsRest m value rows p s
  rest_between p q r s before rest behind =
      (rest.0, λ col. before col ∙ rest.1 col ∙ same-add_right m (r col) (s col) (combination (length rows) (row_at value rows) rest.0 col) (behind col))

  -- nothing is left
  pub in_span_of_rest : (p q : ℕ → ℕ) → IsRest m value rows p q → ((col : ℕ) → q col ≡ 0) → InSpan m (length rows) (row_at value rows) p
  in_span_of_rest p q rest none = (rest.0, λ col. rest.1 col ∙ ap (λ x. x % m) (omega (arith, none col)))

  -- the row that stands for a column is put in the place of an entry
  pub rest_more : (p sums new behind x : ℕ → ℕ) (a k : ℕ) → IsRest m value rows p (λ q. sums q + (a * unit_row k q + behind q))
      → IsRest m value rows (unit_row k) x
      → SameRow m new (λ q. sums q + a * x q) → IsRest m value rows p (λ q. new q + behind q)
  rest_more p sums new behind x a k (c, is) (d, unit) added = (
    λ i. c i + a * d i,
    λ q.
        let cc_ = combination (length rows) (row_at value rows) c q in
        let dd = combination (length rows) (row_at value rows) d q in
        let more : combination (length rows) (row_at value rows) (λ i. c i + a * d i) q ≡ cc_ + a * dd =
        combination-more (length rows) (row_at value rows) c d a q in
        is q
        ∙ ap (λ y. y % m) (let e : sums q + (a * unit_row k q + behind q) + cc_ ≡ sums q + behind q + cc_ + a * unit_row k q = omega arith in e)
        ∙ same-add_left m (a * unit_row k q) (a * (x q + dd)) (sums q + behind q + cc_) (same-mul_left m (unit_row k q) (x q + dd) a (unit q))
        ∙ ap (λ y. y % m) (let e : sums q + behind q + cc_ + a * (x q + dd) ≡ behind q + cc_ + a * dd + (sums q + a * x q) = omega arith in e)
        ∙ same-add_left m (sums q + a * x q) (new q) (behind q + cc_ + a * dd) (sym (added q))
        ∙ ap (λ y. y % m) (let e : behind q + cc_ + a * dd + new q ≡ new q + behind q + (cc_ + a * dd) = omega arith in e)
        ∙ ap (λ y. (new q + behind q + y) % m) (sym more),
  )

  -- what is left of a row, taken away once more, and the row leave nothing
  pub rest_undone : (p q r : ℕ → ℕ) (s : ℕ) → IsRest m value rows p q → Same m (s + 1) 0 → SameRow m r (λ col. s * q col)
      → (c : ℕ → ℕ) × ((col : ℕ) → Same m 0 (r col + p col + combination (length rows) (row_at value rows) c col))
  rest_undone p q r s (d, is) minus scaled = (
    λ i. 0 + s * d i,
    λ col.
        let dd = combination (length rows) (row_at value rows) d col in
        let more : combination (length rows) (row_at value rows) (λ i. 0 + s * d i) col ≡ s * dd =
        combination-more (length rows) (row_at value rows) (λ _. 0) d s col
        ∙ ap (λ x. x + s * dd) (combination-zero (length rows) (row_at value rows) col) ∙ omega arith in
        sym (
        ap (λ x. (r col + p col + x) % m) more
        ∙ ap (λ y. y % m) (let e : r col + p col + s * dd ≡ p col + s * dd + r col = omega arith in e)
        ∙ same-add_left m (r col) (s * q col) (p col + s * dd) (scaled col)
        ∙ ap (λ y. y % m) (let e : p col + s * dd + s * q col ≡ s * dd + s * q col + p col = omega arith in e)
        ∙ same-add_left m (p col) (q col + dd) (s * dd + s * q col) (is col)
        ∙ ap (λ y. y % m) (let e : s * dd + s * q col + (q col + dd) ≡ (s + 1) * (q col + dd) = omega arith in e)
        ∙ same-mul_right m (s + 1) 0 (q col + dd) minus
        ∙ ap (λ y. y % m) (let e : 0 * (q col + dd) ≡ 0 = omega arith in e)
        ),
  )

  -- what stands for the lead of row i
  pub rest_of_lead : (i k v : ℕ) (left behind : ℕ → ℕ) → i < length rows → Same m v 1
      → ((col : ℕ) → row_at value rows i col ≡ v * unit_row k col + behind col)
      → ((c : ℕ → ℕ) × ((col : ℕ) → Same m 0 (left col + behind col + combination (length rows) (row_at value rows) c col)))
      → IsRest m value rows (unit_row k) left
  rest_of_lead i k v left behind inside one is (c, none) =
      let it : InSpan m (length rows) (row_at value rows) (row_at value rows i) = row_in_span m (length rows) (row_at value rows) i inside in (
        λ j. c j + 1 * it.0 j,
        λ col.
            let cc_ = combination (length rows) (row_at value rows) c col in
            let dd = combination (length rows) (row_at value rows) it.0 col in
            ap (λ y. y % m) (let e : unit_row k col ≡ unit_row k col + 0 = omega arith in e)
            ∙ same-add_left m 0 (left col + behind col + cc_) (unit_row k col) (none col)
            ∙ ap (λ y. y % m) (let e : unit_row k col + (left col + behind col + cc_) ≡ left col + behind col + cc_ + 1 * unit_row k col = omega arith in e)
            ∙ same-add_left m (1 * unit_row k col) (v * unit_row k col) (left col + behind col + cc_) (same-mul_right m 1 v (unit_row k col) (sym one))
            ∙ ap (λ y. y % m) (let e : left col + behind col + cc_ + v * unit_row k col
            ≡ left col + cc_ + (v * unit_row k col + behind col) = omega arith in e)
            ∙ ap (λ y. (left col + cc_ + y) % m) (sym (is col))
            ∙ same-add_left m (row_at value rows i col) dd (left col + cc_) (it.1 col)
            ∙ ap (λ y. y % m) (let e : left col + cc_ + dd ≡ left col + (cc_ + 1 * dd) = omega arith in e)
            ∙ ap (λ y. (left col + y) % m) (sym (combination-more (length rows) (row_at value rows) c it.0 1 col)),
      )

  -- more rows leave no more
  pub rest_push : (row : List (ℕ × E)) (p q : ℕ → ℕ) → IsRest m value rows p q → IsRest m value (rows ++ row ∷ []) p q
  rest_push row p q (c, is) = (
    c_,
    λ col. is col ∙ same-add_left m _ _ (q col) (sym (
        ap (λ k. combination k (row_at value (rows ++ row ∷ [])) c_ col % m) (length-push rows row)
        ∙ ap (λ x. x % m) (total_one_more (length rows) (λ i. c_ i * row_at value (rows ++ row ∷ []) i col))
        ∙ ap (λ y. (combination (length rows) (row_at value (rows ++ row ∷ [])) c_ col + y * row_at value (rows ++ row ∷ []) (length rows) col) % m)
        (ap (λ b. cond b 0 (c (length rows))) (eq-eqb (length rows) (length rows) refl))
        ∙ ap (λ y. y % m) (let e : combination (length rows) (row_at value (rows ++ row ∷ [])) c_ col + 0 * row_at value (rows ++ row ∷ [])
        (length rows) col ≡ combination (length rows) (row_at value (rows ++ row ∷ [])) c_ col = omega arith in e)
        ∙ same-total m (length rows) _ _ (λ i l. let ne : i ≢ length rows = omega arith in
        λ z. (cond (ne_eqb i (length rows) ne z) 0 (c i) * entries_of value (get_or_append_left rows (row ∷ []) [] i l z) col) % m)
        )),
  )
    where
      c_ : ℕ → ℕ
      c_ i = cond (eqb i (length rows)) 0 (c i)

  pub AllStand-push : (row : List (ℕ × E)) (standing : List (List (ℕ × E))) → AllStand m value rows standing → AllStand m value (rows ++ row ∷ []) standing
  AllStand-push row standing stand k l = rest_push row (unit_row k) (entries_of value (get_or standing k [])) (stand k l)

module _ {A E : Type 0} (m : ℕ) (total : A → ℕ) (is_sum : A → Type 0) (has : E → Bool) (value : E → ℕ) (standing : List (List (ℕ × E))) where
  -- the sums, with what is left to put in, are what is left of what they were, with all that was to be put in
  pub record Remaining (old : List A) (all : List (ℕ × E)) (sums : List A) (rest : List (ℕ × E)) : Type 0 where
    pub below : IsBelow (λ k. k) (length standing) rest
    pub count : length sums ≡ length standing
    pub all_sums : All is_sum sums
    pub in_ring : AllIn has rest
    pub same : (rows : List (List (ℕ × E))) → AllStand m value rows standing
        → IsRest m value rows (λ q. numbers_of total old q + entries_of value all q) (λ q. numbers_of total sums q + entries_of value rest q)

  module _ (old : List A) (all : List (ℕ × E)) (sums : List A) (rest behind : List (ℕ × E)) (entry : ℕ × E) (kept : Remaining old all sums rest) (is : rest
      ≡ entry ∷ behind) where
    pub remaining_within : entry.0 < length standing
    remaining_within = (subst (IsBelow (λ k. k) (length standing)) is kept.below).0

    pub remaining_in : has entry.1 ≡ true
    remaining_in = (subst (AllIn has) is kept.in_ring).0

    pub remaining_more : (new : List A) → length new ≡ length standing → All is_sum new
        → SameRow m (numbers_of total new) (λ q. numbers_of total sums q + value entry.1 * entries_of value (get_or standing entry.0 []) q)
        → Remaining old all new behind
    remaining_more new count sums_all added = record {
      below = (subst (IsBelow (λ k. k) (length standing)) is kept.below).1;
      count = count;
      all_sums = sums_all;
      in_ring = (subst (AllIn has) is kept.in_ring).1;
      same = λ rows stand.
          let was = kept.same rows stand in
          rest_more m value rows (λ q. numbers_of total old q + entries_of value all q) (numbers_of total sums) (numbers_of total new)
          (entries_of value behind) (entries_of value (get_or standing entry.0 [])) (value entry.1) entry.0 (
            was.0,
            λ q. was.1 q ∙ ap (λ x. (numbers_of total sums q + x + combination (length rows) (row_at value rows) was.0 q) % m)
                (ap (λ es. entries_of value es q) is ∙ ap (λ x. x + entries_of value behind q) (times_unit (value entry.1) entry.0 q)),
          )
          (stand entry.0 remaining_within) added;
    }

  pub remaining_all : (old : List A) (all : List (ℕ × E)) (sums : List A) (rest : List (ℕ × E)) → Remaining old all sums rest → length rest ≡ 0
      → (rows : List (List (ℕ × E))) → AllStand m value rows standing
      → IsRest m value rows (λ q. numbers_of total old q + entries_of value all q) (numbers_of total sums)
  remaining_all old all sums [] kept none rows stand =
      let was = kept.same rows stand in (
        was.0,
        λ q. was.1 q ∙ ap (λ x. (x + combination (length rows) (row_at value rows) was.0 q) % m) (let e : numbers_of total sums q + 0
            ≡ numbers_of total sums q = omega arith in e),
      )
  remaining_all old all sums (e ∷ es) kept none rows stand = absurd (omega arith)
