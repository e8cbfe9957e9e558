-- Steps of `row_of_sum`: the row of one word more is added.
use Rattle.std.proofs.Common.{◌≡◌, ℕ, ◌+◌, ◌*◌, ◌%◌, Bool, true, List, [], ◌∷◌, ◌++◌, length, take, drop, Result, Ok, Err, refl, sym, ap}
use Rattle.std.proofs.Common.{subst, ◌∙◌, arith}
use Rattle.std.specs.Prelude.{All, Contains, IfOk}
use Rattle.std.specs.Map.{keys_of, values_of}
use Rattle.std.proofs.lemmas.List.{take_at}
use Rattle.std.proofs.lemmas.List.Elements.{All-head, All-tail, All-contains}
use Rattle.zeta_model.specs.declared.Letter.{Letter}
use Rattle.zeta_model.specs.Modular.{Same}
use Rattle.zeta_model.specs.Sums.{Sum, single}
use Rattle.zeta_model.proofs.ModularLemmas.{same-add_left, same-add_right, same-mul_right, same-mod}
use Rattle.linear_model.specs.Rows.{SameRow}
use Rattle.word_sums.specs.Terms.{coefficient_of, AllIn as AllTermsIn}
use Rattle.sparse_rows.specs.Entries.{AllIn, IsBelow}
use Rattle.column_order.specs.Columns.{ColumnList}
use Rattle.table_model.specs.Conversion.{IsCols}
use Rattle.lyndon_polys.specs.Tables.{entries_of}
use Rattle.lyndon_polys.specs.Inner.{numbers_of, IsRowOf, AreWordRows}
use Rattle.lyndon_polys.proofs.ColsLemmas.{cols_same, cols_plus}

abbrev Word : Type 0
Word = List Letter

-- a slice that is written back into its list
pub written : {A : Type 0} (n : ℕ) (new items : List A) → n ≡ length items → length new ≡ length items → take n (new ++ drop (length new) items) ≡ new
written n new items e f = take_at new (drop (length new) items) n (f ∙ sym e)

-- three facts of an answer that is Ok give a fourth
pub ok_from : {T F : Type 0} (P Q S U : T → Type 0) → ((x : T) → P x → Q x → S x → U x) → (r : Result T F) → IfOk r P → IfOk r Q → IfOk r S → IfOk r U
ok_from P Q S U f (Ok x) p q s = f x p q s
ok_from P Q S U f (Err e) p q s = p

module _ {A E : Type 0} (m k : ℕ) (has : E → Bool) (value : E → ℕ) (is_sum : A → Type 0) (total : A
    → ℕ) (columns : ColumnList) (rows : List (Word × List (ℕ × E))) (start : List (ℕ × E)) (whole : List (Word × E)) where
  -- from a sum whose row the start is: a sum whose row the accumulators are, with the row that waits, so that with what is left to add it is
  -- the one that is wanted
  pub record Reached (s : Sum) (sums : List A) (coefficient : E) (waiting : List (ℕ × E)) (rest : List (Word × E)) : Type 0 where
    pub reached : Sum
    pub cols : IsCols m columns reached (λ q. numbers_of total sums q + value coefficient * entries_of value waiting q)
    pub same : (t : Word) → Same m (reached t + k * coefficient_of value rest t) (s t + k * coefficient_of value whole t)

  pub record Summing (sums : List A) (coefficient : E) (waiting : List (ℕ × E)) (rest : List (Word × E)) : Type 0 where
    pub len : length sums ≡ length columns.list
    pub all_sums : All is_sum sums
    pub has_coefficient : has coefficient ≡ true
    pub below : IsBelow (λ q. q) (length columns.list) waiting
    pub waiting_in : AllIn has waiting
    pub rest_in : AllTermsIn has rest
    pub rest_known : All (Contains (keys_of rows)) (keys_of rest)
    pub reaches : (s : Sum) → IsCols m columns s (entries_of value start) → Reached s sums coefficient waiting rest

  -- nothing is added yet, and the start waits
  pub Summing-start : (sums : List A) (one : E) → length sums ≡ length columns.list → All is_sum sums → has one ≡ true → value one ≡ 1
      → IsBelow (λ q. q) (length columns.list) start → AllIn has start → AllTermsIn has whole → All (Contains (keys_of rows)) (keys_of whole)
      → ((q : ℕ) → numbers_of total sums q ≡ 0) → Summing sums one start whole
  Summing-start sums one len all_sums has_one is_one below start_in in_ring known zeros = record {
    len = len;
    all_sums = all_sums;
    has_coefficient = has_one;
    below = below;
    waiting_in = start_in;
    rest_in = in_ring;
    rest_known = known;
    reaches = λ s h. record {
      reached = s;
      cols = cols_same m columns s s (entries_of value start) (λ q. numbers_of total sums q + value one * entries_of value start q) (λ t. refl)
          (λ q. ap (λ x. x % m) (let e : entries_of value start q ≡ 0 + 1 * entries_of value start q = omega arith in e)
          ∙ (λ i. (sym (zeros q) i + sym is_one i * entries_of value start q) % m)) h;
      same = λ t. refl;
    };
  }

module _ {A E : Type 0} (m k : ℕ) (has : E → Bool) (value : E → ℕ) (is_sum : A → Type 0) (total : A
    → ℕ) (columns : ColumnList) (rows : List (Word × List (ℕ × E))) (start : List (ℕ × E)) (whole : List (Word × E))
    (sums : List A) (coefficient : E) (waiting : List (ℕ × E)) (before rest : List (Word × E)) (w : Word) (a : E) (is : before ≡ (w, a) ∷ rest)
    (kept : Summing m k has value is_sum total columns rows start whole sums coefficient waiting before) where
  -- the next element is of the ring, and the next word has a row
  pub next_in : has a ≡ true
  next_in = All-head (λ b. has b ≡ true) a (values_of rest) (subst (AllTermsIn has) is kept.rest_in)

  pub next_known : Contains (keys_of rows) w
  next_known = All-head (Contains (keys_of rows)) w (keys_of rest) (subst (λ es. All (Contains (keys_of rows)) (keys_of es)) is kept.rest_known)

  pub row_is : (known : AreWordRows m has value columns rows) (row : List (ℕ × E)) → Contains rows (w, row) → IsRowOf m has value columns (single w) row
  row_is known row c = All-contains (λ r. IsRowOf m has value columns (single r.0) r.1) rows (w, row) known.each c

  step : (x r s y : ℕ) → x ≡ k * value a % m → Same m (r + x * y + k * s) (r + k * (value a * y + s))
  step x r s y e =
      let one : Same m (r + x * y) (r + k * value a * y) =
      same-add_left m (x * y) (k * value a * y) r (ap (λ z. z * y % m) e
      ∙ same-mul_right m (k * value a % m) (k * value a) y (same-mod m (k * value a))) in
      let sum : r + k * value a * y + k * s ≡ r + k * (value a * y + s) = grind arith in
      same-add_right m (r + x * y) (r + k * value a * y) (k * s) one ∙ ap (λ z. z % m) sum

  -- the row that waits is added, and that of the next word waits
  pub Summing-next : (x : E) (row : List (ℕ × E)) (new : List A) → has x ≡ true → value x ≡ k * value a % m
      → IsRowOf m has value columns (single w) row → length new ≡ length sums → All is_sum new
      → SameRow m (numbers_of total new) (λ q. numbers_of total sums q + value coefficient * entries_of value waiting q)
      → Summing m k has value is_sum total columns rows start whole new x row rest
  Summing-next x row new has_x product is_row len all_sums gives = record {
    len = len ∙ kept.len;
    all_sums = all_sums;
    has_coefficient = has_x;
    below = is_row.below;
    waiting_in = is_row.in_ring;
    rest_in = All-tail (λ b. has b ≡ true) a (values_of rest) (subst (AllTermsIn has) is kept.rest_in);
    rest_known = All-tail (Contains (keys_of rows)) w (keys_of rest) (subst (λ es. All (Contains (keys_of rows)) (keys_of es)) is kept.rest_known);
    reaches = λ s h.
        let r : Reached m k has value is_sum total columns rows start whole s sums coefficient waiting before = kept.reaches s h in
        let old : ℕ → ℕ = λ q. numbers_of total sums q + value coefficient * entries_of value waiting q in
        record {
          reached = λ t. r.reached t + value x * single w t;
          cols = cols_same m columns (λ t. r.reached t + value x * single w t) (λ t. r.reached t + value x * single w t)
              (λ q. old q + value x * entries_of value row q) (λ q. numbers_of total new q + value x * entries_of value row q) (λ t. refl)
              (λ q. same-add_right m (old q) (numbers_of total new q) (value x * entries_of value row q) (sym (gives q)))
              (cols_plus m columns r.reached (single w) old (entries_of value row) (value x) r.cols is_row.cols);
          same = λ t.
              step (value x) (r.reached t) (coefficient_of value rest t) (single w t) product
              ∙ ap (λ es. (r.reached t + k * coefficient_of value es t) % m) (sym is) ∙ r.same t;
        };
  }

-- no word is left, the row that waited is added, and the accumulators are closed
pub Summing-end : {A E : Type 0} (m k : ℕ) (has : E → Bool) (value : E → ℕ) (is_sum : A → Type 0) (total : A
    → ℕ) (columns : ColumnList) (rows : List (Word × List (ℕ × E))) (start : List (ℕ × E)) (whole : List (Word × E)) (sums : List A) (coefficient : E)
    (waiting : List (ℕ × E)) (rest : List (Word × E)) (new : List A) (row : List (ℕ × E))
    → rest ≡ [] → Summing m k has value is_sum total columns rows start whole sums coefficient waiting rest → length new ≡ length sums
    → SameRow m (numbers_of total new) (λ q. numbers_of total sums q + value coefficient * entries_of value waiting q)
    → IsBelow (λ j. j) (length new) row → AllIn has row → ((q : ℕ) → entries_of value row q ≡ numbers_of total new q % m)
    → (s : Sum) → IsCols m columns s (entries_of value start) → IsRowOf m has value columns (λ t. s t + k * coefficient_of value whole t) row
Summing-end m k has value is_sum total columns rows start whole sums coefficient waiting rest new row none kept len gives below in_ring entries s h =
    let r : Reached m k has value is_sum total columns rows start whole s sums coefficient waiting rest = kept.reaches s h in
    record {
      below = subst (λ n. IsBelow (λ j. j) n row) (len ∙ kept.len) below;
      in_ring = in_ring;
      cols = cols_same m columns r.reached (λ t. s t + k * coefficient_of value whole t)
          (λ q. numbers_of total sums q + value coefficient * entries_of value waiting q) (entries_of value row)
          (λ t. ap (λ x. x % m) (let e : r.reached t ≡ r.reached t + k * 0 = omega arith in e)
          ∙ ap (λ es. (r.reached t + k * coefficient_of value es t) % m) (sym none) ∙ r.same t)
          (λ q. sym (gives q) ∙ sym (same-mod m (numbers_of total new q)) ∙ ap (λ x. x % m) (sym (entries q))) r.cols;
    }
