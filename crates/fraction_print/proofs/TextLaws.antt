-- The laws of texts with fractions, as callers cite them.
use Rattle.std.proofs.Common.{◌≡◌, ℕ, suc, ◌+◌, ◌^◌, ◌<◌, ◌≤◌, Bool, true, false, inl, inr, List, [], ◌∷◌, ◌++◌, length, get_or, refl, sym, ap, ◌∙◌, arith}
use Rattle.std.specs.Prelude.{codes}
use Rattle.std.specs.List.{AllByRecursion}
use Rattle.zeta_model.specs.declared.Letter.{Letter}
use Rattle.column_order.specs.Columns.{ColumnList, IsColumns}
use Rattle.sparse_rows.specs.Entries.{IsRow, IsBelow, AllIn}
use Rattle.poly_print.specs.Polynomials.{monomial_text, residue_pairs, ArePairs}
use Rattle.poly_print.proofs.RowTexts.{HaveTexts}
use Rattle.poly_print.proofs.TextLaws.{have_texts}
use Rattle.poly_print.proofs.PairLemmas.{residue_pairs-pairs, residue_pairs-injective}
use Rattle.fraction_print.specs.FractionTexts.{Coefficient, IsCoefficient, AreCoefficients, is_negative, size_text, sign_text, signed_term, terms_text, fractions_text, IsFractionsText}
use Rattle.fraction_print.proofs.SomeFractions.{some_coefficients, one_coefficient}
use Rattle.fraction_print.proofs.CutSigns.{HasNoSign, BeginsSigned, cut_signed}
use Rattle.fraction_print.proofs.FractionTerms.{body, body_no_sign, term_is}

-- ---- one text

pub some_text : (m : ℕ) (columns : ColumnList) (es : List (ℕ × ℕ)) → 3 ≤ m → (text : List ℕ) × IsFractionsText m columns.list es text
some_text m columns es from =
    let (f, are) = some_coefficients m from in
    (fractions_text columns.list f es, record { coefficient = f; are = are; prints = refl })

one_terms : (m n low : ℕ) (columns : List (List (List Letter))) (f g : ℕ → Coefficient) → AreCoefficients m f → AreCoefficients m g → (first : Bool)
    (es : List (ℕ × ℕ)) → ArePairs m n low es → terms_text first columns f es ≡ terms_text first columns g es
one_terms m n low columns f g hf hg first [] a = refl
one_terms m n low columns f g hf hg first (e ∷ es) (from, within, some, small, rest) =
    let same : f e.1 ≡ g e.1 = one_coefficient m e.1 (f e.1) (g e.1) (hf e.1 small) (hg e.1 small) in
    λ i. signed_term first columns e.0 (same i) ++ one_terms m n (e.0 + 1) columns f g hf hg false es rest i

pub one_text : (m n : ℕ) (columns : ColumnList) (es : List (ℕ × ℕ)) (text other : List ℕ) → ArePairs m n 0 es
    → IsFractionsText m columns.list es text → IsFractionsText m columns.list es other → text ≡ other
one_text m n columns [] text other a x y = x.prints ∙ sym y.prints
one_text m n columns (e ∷ es) text other a x y =
    x.prints ∙ one_terms m n 0 columns.list x.coefficient y.coefficient x.are y.are true (e ∷ es) a ∙ sym y.prints

-- ---- one row

-- a text that begins with a minus is none that begins with another byte
no_minus : (xs ys tail rest : List ℕ) (b : ℕ) → HasNoSign (xs ++ b ∷ ys) → 45 ∷ tail ≡ (xs ++ b ∷ ys) ++ rest → ⊥
no_minus [] ys tail rest b h e = h.0.1 cc
no_minus (x ∷ xs) ys tail rest b h e = h.0.1 cc

-- the first signs are the same, and so is what stands behind them
same_signs : (first s r : Bool) (xs ys us vs a b : List ℕ) (c d : ℕ) → HasNoSign (xs ++ c ∷ ys) → HasNoSign (us ++ d ∷ vs)
    → (sign_text first s ++ (xs ++ c ∷ ys)) ++ a ≡ (sign_text first r ++ (us ++ d ∷ vs)) ++ b → (s ≡ r) × ((xs ++ c ∷ ys) ++ a ≡ (us ++ d ∷ vs) ++ b)
same_signs true true true xs ys us vs a b c d h k e = (refl, cc)
same_signs true true false xs ys us vs a b c d h k e = absurd (no_minus us vs ((xs ++ c ∷ ys) ++ a) b d k e)
same_signs true false true xs ys us vs a b c d h k e = absurd (no_minus xs ys ((us ++ d ∷ vs) ++ b) a c h (sym e))
same_signs true false false xs ys us vs a b c d h k e = (refl, e)
same_signs false true true xs ys us vs a b c d h k e = (refl, cc)
same_signs false true false xs ys us vs a b c d h k e = let q : 45 ≡ 43 = ap (λ l. get_or l 0 0) e in absurd (omega (arith, q))
same_signs false false true xs ys us vs a b c d h k e = let q : 43 ≡ 45 = ap (λ l. get_or l 0 0) e in absurd (omega (arith, q))
same_signs false false false xs ys us vs a b c d h k e = (refl, cc)

module _ (m : ℕ) (from : 3 ≤ m) (most : m < 2 ^ 64) (columns : List (List (List Letter))) (texts : HaveTexts columns) (f g : ℕ → Coefficient)
    (hf : AreCoefficients m f) (hg : AreCoefficients m g) where
  -- a column and a residue that are printed
  abbrev IsTerm : ℕ × ℕ → Type 0
  IsTerm e = (e.0 < length columns) × (e.1 < m)

  signed_behind : (s : Bool) (rest : List ℕ) → BeginsSigned (sign_text false s ++ rest)
  signed_behind true rest = inr refl
  signed_behind false rest = inl refl

  begins_behind : (xs ys : List ℕ) → BeginsSigned xs → 0 < length xs → BeginsSigned (xs ++ ys)
  begins_behind [] ys h l = absurd (omega arith)
  begins_behind (x ∷ xs) ys h l = h

  some_sign : (s : Bool) (rest : List ℕ) → 0 < length (sign_text false s ++ rest)
  some_sign true rest = omega arith
  some_sign false rest = omega arith

  terms_begin : (k : ℕ → Coefficient) (es : List (ℕ × ℕ)) → BeginsSigned (terms_text false columns k es)
  terms_begin k [] = tt
  terms_begin k (e ∷ es) =
      let s : Bool = is_negative (k e.1) in
      let rest : List ℕ = size_text (k e.1) ++ (codes "*" ++ monomial_text (get_or columns e.0 [])) in
      begins_behind (sign_text false s ++ rest) (terms_text false columns k es) (signed_behind s rest) (some_sign s rest)

  no_terms : (s : Bool) (xs ys : List ℕ) → [] ≡ (sign_text false s ++ xs) ++ ys → ⊥
  no_terms true xs ys e = cc
  no_terms false xs ys e = cc

  same_terms : (first : Bool) (es ds : List (ℕ × ℕ)) → (first ≡ true → (0 < length es) × (0 < length ds)) → AllByRecursion IsTerm es
      → AllByRecursion IsTerm ds
      → terms_text first columns f es ≡ terms_text first columns g ds → es ≡ ds
  same_terms first [] [] some he hd q = refl
  same_terms true [] (d ∷ ds) some he hd q = absurd (let l : 0 < 0 = (some refl).0 in omega arith)
  same_terms true (e ∷ es) [] some he hd q = absurd (let l : 0 < 0 = (some refl).1 in omega arith)
  same_terms false [] (d ∷ ds) some he hd q = absurd (no_terms (is_negative (g d.1)) _ _ q)
  same_terms false (e ∷ es) [] some he hd q = absurd (no_terms (is_negative (f e.1)) _ _ (sym q))
  same_terms first (e ∷ es) (d ∷ ds) some he hd q =
      let k : Coefficient = f e.1 in
      let j : Coefficient = g d.1 in
      let hk : IsCoefficient m e.1 k = hf e.1 he.0.1 in
      let hj : IsCoefficient m d.1 j = hg d.1 hd.0.1 in
      let no_e : HasNoSign (body m from most columns texts e.0 k) = body_no_sign m from most columns texts e.0 e.1 k he.0.0 he.0.1 hk in
      let no_d : HasNoSign (body m from most columns texts d.0 j) = body_no_sign m from most columns texts d.0 d.1 j hd.0.0 hd.0.1 hj in
      let signs = same_signs first (is_negative k) (is_negative j) (size_text k) (monomial_text (get_or columns e.0 [])) (size_text j)
      (monomial_text (get_or columns d.0 [])) (terms_text false columns f es) (terms_text false columns g ds) 42 42 no_e no_d q in
      let parts = cut_signed (body m from most columns texts e.0 k) (body m from most columns texts d.0 j) (terms_text false columns f es)
      (terms_text false columns g ds) no_e no_d (terms_begin f es) (terms_begin g ds) signs.1 in
      let here : e ≡ d = term_is m from most columns texts e d k j he.0.0 hd.0.0 he.0.1 hd.0.1 hk hj signs.0 parts.0 in
      let others : es ≡ ds = same_terms false es ds (λ x. cc) he.1 hd.1 parts.1 in
      λ i. here i ∷ others i

  pairs_are_terms : (low : ℕ) (es : List (ℕ × ℕ)) → ArePairs m (length columns) low es → AllByRecursion IsTerm es
  pairs_are_terms low [] a = tt
  pairs_are_terms low (e ∷ es) (from, within, some, small, rest) = ((within, small), pairs_are_terms (e.0 + 1) es rest)

  -- `0` is the text of no term
  no_zero : (s : Bool) (xs ys rest : List ℕ) → 48 ∷ [] ≡ (sign_text true s ++ (xs ++ 42 ∷ ys)) ++ rest → ⊥
  no_zero true xs ys rest e = let q : 48 ≡ 45 = ap (λ l. get_or l 0 0) e in absurd (omega (arith, q))
  no_zero false [] ys rest e = let q : 48 ≡ 42 = ap (λ l. get_or l 0 0) e in absurd (omega (arith, q))
  no_zero false (x ∷ []) ys rest e = let q : 1 ≡ suc (suc (length (ys ++ rest))) = ap length e in absurd (omega (arith, q))
  no_zero false (x ∷ y ∷ xs) ys rest e = let q : 1 ≡ suc (suc (length ((xs ++ 42 ∷ ys) ++ rest))) = ap length e in absurd (omega (arith, q))

  same_rows : (es ds : List (ℕ × ℕ)) → AllByRecursion IsTerm es → AllByRecursion IsTerm ds → fractions_text columns f es ≡ fractions_text columns g ds
      → es ≡ ds
  same_rows [] [] he hd q = refl
  same_rows [] (d ∷ ds) he hd q =
      absurd (no_zero (is_negative (g d.1)) (size_text (g d.1)) (monomial_text (get_or columns d.0 [])) (terms_text false columns g ds) q)
  same_rows (e ∷ es) [] he hd q =
      absurd (no_zero (is_negative (f e.1)) (size_text (f e.1)) (monomial_text (get_or columns e.0 [])) (terms_text false columns f es) (sym q))
  same_rows (e ∷ es) (d ∷ ds) he hd q = same_terms true (e ∷ es) (d ∷ ds) (λ x. (omega arith, omega arith)) he hd q

pub rows_same : (columns : ColumnList) → 2 ≤ columns.weight → IsColumns columns → (m : ℕ) (es fs : List (ℕ × ℕ)) (text : List ℕ) → 3 ≤ m → m < 2 ^ 64
    → ArePairs m (length columns.list) 0 es → ArePairs m (length columns.list) 0 fs
    → IsFractionsText m columns.list es text → IsFractionsText m columns.list fs text → es ≡ fs
rows_same columns weight whole m es fs text from most a b x y =
    let texts : HaveTexts columns.list = have_texts columns weight whole in
    let terms : (ds : List (ℕ × ℕ)) → ArePairs m (length columns.list) 0 ds → AllByRecursion (λ (e : ℕ × ℕ). (e.0 < length columns.list) × (e.1 < m)) ds =
    pairs_are_terms m from most columns.list texts x.coefficient y.coefficient x.are y.are 0 in
    same_rows m from most columns.list texts x.coefficient y.coefficient x.are y.are es fs (terms es a) (terms fs b) (sym x.prints ∙ y.prints)

-- rows of elements
module _ {E : Type 0} (none : E) (has : E → Bool) (value : E → ℕ) (m : ℕ) (from : 3 ≤ m) (most : m < 2 ^ 64) (value_zero : value none ≡ 0)
    (has_zero : has none ≡ true) (value_below : (a : E) → has a ≡ true → value a < m)
    (value_injective : (a b : E) → has a ≡ true → has b ≡ true → value a ≡ value b → a ≡ b) where
  pub elements_same : (columns : ColumnList) → 2 ≤ columns.weight → IsColumns columns → (p q : List (ℕ × E)) (text : List ℕ) → IsRow (λ c. c) none 0 p
      → IsRow (λ c. c) none 0 q → IsBelow (λ c. c) (length columns.list) p → IsBelow (λ c. c) (length columns.list) q → AllIn has p → AllIn has q
      → IsFractionsText m columns.list (residue_pairs (λ c. c) value p) text → IsFractionsText m columns.list (residue_pairs (λ c. c) value q) text → p ≡ q
  elements_same columns weight whole p q text rp rq bp bq ip iq x y =
      let pairs = residue_pairs-pairs none has value value_zero has_zero value_injective m (length columns.list) 0 in
      residue_pairs-injective none has value value_zero has_zero value_injective p q ip iq
      (rows_same columns weight whole m (residue_pairs (λ c. c) value p) (residue_pairs (λ c. c) value q) text from most (pairs p value_below rp bp ip)
      (pairs q value_below rq bq iq) x y)
