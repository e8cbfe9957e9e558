-- The text of a row with fractions is a line, and its terms mean the words of the row.
use Rattle.std.proofs.Common.{◌≡◌, ℕ, ◌+◌, ◌-◌, ◌*◌, ◌%◌, ◌^◌, ◌<◌, ◌≤◌, Bool, true, false, List, [], ◌∷◌, length, map, get_or, refl, sym, ap, subst, ◌∙◌, arith}
use Rattle.std.specs.Prelude.{◌==◌, if◌then◌else◌, Some, None}
use Rattle.std.specs.List.{AllByRecursion}
use Rattle.std.specs.Fmt.{decimal}
use Rattle.std.proofs.lemmas.Fmt.{decimal_digit}
use Rattle.std.proofs.lemmas.List.Elements.{Contains-get_or}
use Rattle.zeta_model.specs.Modular.{Same}
use Rattle.zeta_model.specs.Sums.{single, continued}
use Rattle.zeta_model.proofs.ModularLemmas.{same-add, same-mul_right}
use Rattle.column_order.specs.Columns.{ColumnList, IsColumns, IsColumn}
use Rattle.fractions.specs.Fractions.{IsSmall}
use Rattle.line_tokens.specs.Runs.{IsDigits}
use Rattle.zeta_expr.specs.declared.expr.Factor.{Factor}
use Rattle.zeta_expr.specs.declared.expr.Factor.TheVariants.{Number}
use Rattle.zeta_expr.specs.Grammar.{number, IsFactor, IsTerm, IsSigned}
use Rattle.zeta_expr.specs.Readings.{IsReading, factor_of, term_of}
use Rattle.zeta_expr.specs.Meaning.{Terms, times_zetas, number_in, product_in, term_sum, sum_of_terms}
use Rattle.poly_print.specs.Polynomials.{powers_of, ArePairs}
use Rattle.poly_lines.specs.Lines.{power_factor, term_form, row_terms}
use Rattle.poly_lines.proofs.MonomialMeaning.{Word, all-admissible}
use Rattle.poly_lines.proofs.Digits.{value_of-decimal, decimal-digits}
use Rattle.poly_lines.proofs.Spelling.{IsSpelledColumn}
use Rattle.poly_lines.proofs.RowMeaning.{row-words}
use Rattle.poly_lines.proofs.RowReading.{IsLightMonomial, monomial-powers, powers-formed, powers-read, spelled-column, light-column, admissible-words}
use Rattle.poly_lines.proofs.Passes.{IsPassed}
use Rattle.fraction_print.specs.FractionTexts.{Coefficient, IsCoefficient, AreCoefficients, is_negative, fractions_text, IsFractionsText}
use Rattle.fraction_print.specs.FractionTexts.Coefficient.{Ratio, Residue}
use Rattle.fraction_print.proofs.FractionTerms.{small_number}
use Rattle.fraction_lines.specs.FractionLines.{size_factor, coefficient_form, fraction_terms, ReadsBack}
use Rattle.fraction_lines.proofs.Numbers.{coefficient_number}
use Rattle.fraction_lines.proofs.SpelledFractions.{written_ratio, written_size, written_coefficient, written_terms, spelled_line}
use Rattle.fraction_lines.proofs.Passing.{fraction_terms_pass}

module _ (m : ℕ) (from : 3 ≤ m) (most : m < 2 ^ 64) (columns : List (List Word))
    (light : (col : ℕ) → col < length columns → IsLightMonomial (get_or columns col []))
    (f : ℕ → Coefficient) (are : AreCoefficients m f) where
  -- ---- the line

  below : (a : ℕ) → IsSmall m a → a < 2 ^ 64
  below a small = omega (arith, small_number m a (omega (arith, from)) small, most)

  number_formed : (a : ℕ) → a < 2 ^ 64 → IsDigits 38 (decimal a)
  number_formed a l = decimal-digits a 37 l (omega (arith, l))

  ratio_formed : (t : Bool) (a b : ℕ) → a < 2 ^ 64 → b < 2 ^ 64 → IsFactor (written_ratio t a b)
  ratio_formed true a b la lb = number_formed a la
  ratio_formed false a b la lb = (number_formed a la, number_formed b lb)

  size_formed : (c : ℕ) (k : Coefficient) → c < m → IsCoefficient m c k → IsFactor (written_size k)
  size_formed c (Ratio s a b) l h = ratio_formed (b == 1) a b (below a h.small_top) (below b h.small_bottom)
  size_formed c (Residue r) l h = number_formed r (omega (arith, h.0, l, most))

  ratio_read : (t : Bool) (a b : ℕ) → a < 2 ^ 64 → b < 2 ^ 64 → factor_of (written_ratio t a b) ≡ Number a (if t then None else Some b)
  ratio_read true a b la lb = λ i. Number (value_of-decimal a la i) None
  ratio_read false a b la lb = λ i. Number (value_of-decimal a la i) (Some (value_of-decimal b lb i))

  size_read : (c : ℕ) (k : Coefficient) → c < m → IsCoefficient m c k → factor_of (written_size k) ≡ size_factor k
  size_read c (Ratio s a b) l h = ratio_read (b == 1) a b (below a h.small_top) (below b h.small_bottom)
  size_read c (Residue r) l h = λ i. Number (value_of-decimal r (omega (arith, h.0, l, most)) i) None

  terms_formed : (low : ℕ) (es : List (ℕ × ℕ)) → ArePairs m (length columns) low es → AllByRecursion IsTerm (written_terms columns f es)
  terms_formed low [] a = tt
  terms_formed low (e ∷ es) (atleast, within, some, small, rest) = (
    (
      size_formed e.1 (f e.1) small (are e.1 small),
      powers-formed (powers_of (get_or columns e.0 [])) (monomial-powers (get_or columns e.0 []) (light e.0 within)),
    ),
    terms_formed (e.0 + 1) es rest,
  )

  terms_read : (low : ℕ) (es : List (ℕ × ℕ)) → ArePairs m (length columns) low es
      → map (λ (e : ℕ × ℕ). coefficient_form columns e.0 (f e.1)) es ≡ map term_of (written_terms columns f es)
  terms_read low [] a = refl
  terms_read low (e ∷ es) (atleast, within, some, small, rest) =
      let ps = powers_of (get_or columns e.0 []) in
      let first : factor_of (written_size (f e.1)) ≡ size_factor (f e.1) = size_read e.1 (f e.1) small (are e.1 small) in
      let more = powers-read ps (monomial-powers (get_or columns e.0 []) (light e.0 within)) in
      λ i. record { negative = is_negative (f e.1); factors = sym first i ∷ sym more i } ∷ terms_read (e.0 + 1) es rest i

  columns_spelled : (low : ℕ) (es : List (ℕ × ℕ)) → ArePairs m (length columns) low es → AllByRecursion (λ e. IsSpelledColumn (get_or columns e.0 [])) es
  columns_spelled low [] a = tt
  columns_spelled low (e ∷ es) (atleast, within, some, small, rest) =
      (spelled-column (get_or columns e.0 []) (light e.0 within), columns_spelled (e.0 + 1) es rest)

  signed : (s : Bool) (e : ℕ × ℕ) → is_negative (f e.1) ≡ s → IsSigned s (written_coefficient columns e.0 (f e.1))
  signed true e h = tt
  signed false e h = h

  line_read : (es : List (ℕ × ℕ)) → ArePairs m (length columns) 0 es → IsReading (fractions_text columns f es) (fraction_terms columns f es)
  line_read [] a = (
    false,
    record { negative = false; first = number (48 ∷ []); more = [] },
    [],
    record {
      formed = ((subst (IsDigits 38) (decimal_digit 0 (omega arith)) (decimal-digits 0 37 (omega arith) (omega arith)), tt), tt);
      sign = refl;
      spelled = ([], [], tt, refl, tt);
    },
    refl,
  )
  line_read (e ∷ es) a = (
    is_negative (f e.1),
    written_coefficient columns e.0 (f e.1),
    written_terms columns f es,
    record {
      formed = terms_formed 0 (e ∷ es) a;
      sign = signed (is_negative (f e.1)) e refl;
      spelled = spelled_line columns f e es (columns_spelled 0 (e ∷ es) a);
    },
    terms_read 0 (e ∷ es) a,
  )

  -- ---- the meaning

  same_zetas : (k : Coefficient) (fs : List Factor) (p : Terms) → times_zetas m (size_factor k ∷ fs) p ≡ times_zetas m fs p
  same_zetas (Ratio s a b) fs p = refl
  same_zetas (Residue r) fs p = refl

  same_term : (e : ℕ × ℕ) (t : Word) → e.1 < m → Same m (term_sum m (coefficient_form columns e.0 (f e.1)) t) (term_sum m (term_form columns e) t)
  same_term e t small =
      let k : Coefficient = f e.1 in
      let fs : List Factor = map power_factor (powers_of (get_or columns e.0 [])) in
      let sign : ℕ = if is_negative k then m - 1 else 1 in
      let words : ℕ = continued single (times_zetas m fs ((1, []) ∷ [])) t in
      let own : ℕ = product_in m fs in
      let turned : sign * (number_in m (size_factor k) * own) * words ≡ sign * number_in m (size_factor k) * (own * words) = grind arith in
      let back : e.1 * (own * words) ≡ 1 * (e.1 * own) * words = grind arith in
      ap (λ z. sign * (number_in m (size_factor k) * own) * continued single z t % m) (same_zetas k fs ((1, []) ∷ []))
      ∙ ap (λ n. n % m) turned
      ∙ same-mul_right m (sign * number_in m (size_factor k)) e.1 (own * words) (coefficient_number m from e.1 k (are e.1 small))
      ∙ ap (λ n. n % m) back

  same_terms : (low : ℕ) (es : List (ℕ × ℕ)) (t : Word) → ArePairs m (length columns) low es
      → Same m (sum_of_terms m (map (λ (e : ℕ × ℕ). coefficient_form columns e.0 (f e.1)) es) t) (sum_of_terms m (map (term_form columns) es) t)
  same_terms low [] t a = refl
  same_terms low (e ∷ es) t (atleast, within, some, small, rest) =
      same-add m (term_sum m (coefficient_form columns e.0 (f e.1)) t) (term_sum m (term_form columns e) t)
      (sum_of_terms m (map (λ (e : ℕ × ℕ). coefficient_form columns e.0 (f e.1)) es) t) (sum_of_terms m (map (term_form columns) es) t)
      (same_term e t small) (same_terms (e.0 + 1) es t rest)

  same_row : (es : List (ℕ × ℕ)) (t : Word) → ArePairs m (length columns) 0 es
      → Same m (sum_of_terms m (fraction_terms columns f es) t) (sum_of_terms m (row_terms columns es) t)
  same_row [] t a = refl
  same_row (e ∷ es) t a = same_terms 0 (e ∷ es) t a

  pub reads_back : (w d : ℕ) → ((col : ℕ) → col < length columns → IsPassed w d (get_or columns col [])) → (es : List (ℕ × ℕ))
      → ArePairs m (length columns) 0 es → ReadsBack m w d columns es (fractions_text columns f es)
  reads_back w d passed es a = record {
    terms = fraction_terms columns f es;
    line = line_read es a;
    words = λ t. same_row es t a
        ∙ ap (λ n. n % m) (row-words m columns (λ col l. let is = light col l in admissible-words (get_or columns col []) is.words) m es t a);
    accepted = fraction_terms_pass m w d from columns passed f are es a;
  }

pub texts_read_back : (columns : ColumnList) → 2 ≤ columns.weight → IsColumns columns → (m : ℕ) → 3 ≤ m → m < 2 ^ 64
    → (es : List (ℕ × ℕ)) (text : List ℕ) → ArePairs m (length columns.list) 0 es → IsFractionsText m columns.list es text
    → ReadsBack m columns.weight columns.depth columns.list es text
texts_read_back columns weight whole m from most es text a h =
    let is_column : (col : ℕ) → col < length columns.list → IsColumn columns.weight columns.depth (get_or columns.list col []) =
    λ col l. (whole.whole (get_or columns.list col [])).0 (Contains-get_or columns.list col [] l) in
    let light : (col : ℕ) → col < length columns.list → IsLightMonomial (get_or columns.list col []) =
    λ col l. light-column columns.weight columns.depth (get_or columns.list col []) weight (is_column col l) in
    let passed : (col : ℕ) → col < length columns.list → IsPassed columns.weight columns.depth (get_or columns.list col []) =
    λ col l. let p = get_or columns.list col [] in let is = is_column col l in let words = light col l in
    record { words = all-admissible p (admissible-words p words.words); weighs = is.weight; deep = is.depth } in
    subst (ReadsBack m columns.weight columns.depth columns.list es) (sym h.prints)
    (reads_back m from most columns.list light h.coefficient h.are columns.weight columns.depth passed es a)
