-- The text of a row is a line of the grammar, and its terms are those of the row.
use Rattle.std.proofs.Common.{◌≡◌, ℕ, ◌+◌, ◌^◌, ◌<◌, ◌≤◌, Bool, true, false, List, [], ◌∷◌, length, map, get_or, refl, sym, subst, length-append, arith}
use Rattle.std.specs.Prelude.{◌==◌, ◌&&◌, if◌then◌else◌, IsTrue, None}
use Rattle.std.specs.List.{AllByRecursion}
use Rattle.std.specs.Fmt.{decimal}
use Rattle.std.proofs.lemmas.Bool.{eqb-true}
use Rattle.std.proofs.lemmas.Fmt.{decimal_digit}
use Rattle.std.proofs.lemmas.List.Elements.{Contains-get_or}
use Rattle.zeta_model.specs.declared.Letter.TheVariants.{X, Y}
use Rattle.zeta_model.specs.Words.{begins_with_x, ends_with_y}
use Rattle.zeta_model.specs.Indices.{index_from, index_of}
use Rattle.zeta_model.specs.Sums.{same_word}
use Rattle.word_letters.proofs.IndexLemmas.{IsIndexText-word_text}
use Rattle.lyndon_words.specs.Lyndon.{joined}
use Rattle.lyndon_words.specs.Monomials.{AllAdmissible}
use Rattle.lyndon_words.proofs.Factorising.{length-monomial}
use Rattle.column_order.specs.Columns.{ColumnList, IsColumns, IsColumn}
use Rattle.line_tokens.specs.Tokens.{value_of}
use Rattle.line_tokens.specs.Runs.{IsDigits, IsIndexNumber}
use Rattle.zeta_expr.specs.declared.expr.Factor.TheVariants.{Number, Zeta}
use Rattle.zeta_expr.specs.Grammar.{number, zeta, power, IsFactor, IsTerm}
use Rattle.zeta_expr.specs.Readings.{IsReading, factor_of, term_of}
use Rattle.poly_print.specs.Polynomials.{powers_from, powers_of, row_text, ArePairs}
use Rattle.poly_print.proofs.MonomialTexts.{begins}
use Rattle.zeta_expr.specs.Meaning.{refusal_of}
use Rattle.poly_lines.proofs.MonomialMeaning.{all-admissible}
use Rattle.poly_lines.proofs.Passes.{row-passes}
use Rattle.poly_lines.specs.Lines.{power_factor, term_form, row_terms, ReadsBack}
use Rattle.poly_lines.proofs.MonomialMeaning.{Word, IsAdmissible}
use Rattle.poly_lines.proofs.RowMeaning.{row-words}
use Rattle.poly_lines.proofs.Digits.{value_of-decimal, decimal-digits, decimal-index}
use Rattle.poly_lines.proofs.Spelling.{written_zeta, written_power, written_term, HaveNumbers, IsSpelledColumn, spelled_row}

-- an admissible word of at most 24 letters
pub record IsLight (u : Word) : Type 0 where
  pub begins_x : begins_with_x u ≡ true
  pub ends_y : ends_with_y u ≡ true
  pub light : length u ≤ 24

-- such a word to a power of two digits
pub record IsLightPower (p : Word × ℕ) : Type 0 where
  pub word : IsLight p.0
  pub some : 0 < p.1
  pub few : p.1 < 100

powers-by : (u : Word) (k : ℕ) (v : Word) (vs : List Word) (b : Bool) → IsLightPower (u, k) → AllByRecursion IsLightPower (powers_from u (k + 1) vs)
    → AllByRecursion IsLightPower (powers_from v 1 vs) → AllByRecursion IsLightPower (if b then powers_from u (k + 1) vs else (u, k) ∷ powers_from v 1 vs)
powers-by u k v vs true h x y = x
powers-by u k v vs false h x y = (h, y)

powers-light : (u : Word) (k : ℕ) (us : List Word) → IsLight u → 0 < k → AllByRecursion IsLight us → k + length us < 100
    → AllByRecursion IsLightPower (powers_from u k us)
powers-light u k [] h s a l = (record { word = h; some = s; few = omega arith }, tt)
powers-light u k (v ∷ vs) h s a l = powers-by u k v vs (same_word u v) (record {
  word = h;
  some = s;
  few =
      omega arith;
}) (powers-light u (k + 1) vs h (omega arith) a.1 (omega arith)) (powers-light v 1 vs a.0 (omega arith) a.1 (omega arith))

AreParts : List ℕ → Type 0
AreParts ks = AllByRecursion (λ n. (0 < n) × (n ≤ 24)) ks

parts : (k : ℕ) (w : Word) → 0 < k → k + length w ≤ 25 → AreParts (index_from k w)
unfolding AreParts
parts k [] s h = tt
parts k (X ∷ w) s h = parts (k + 1) w (omega arith) (omega arith)
parts k (Y ∷ w) s h = ((s, omega arith), parts 1 w (omega arith) (omega arith))

numbers-are : (ks : List ℕ) → AreParts ks → AllByRecursion IsIndexNumber (map decimal ks)
unfolding AreParts
numbers-are [] h = tt
numbers-are (k ∷ ks) h = (decimal-index k h.0.0 h.0.1, numbers-are ks h.1)

values-are : (ks : List ℕ) → AreParts ks → map value_of (map decimal ks) ≡ ks
unfolding AreParts
values-are [] h = refl
values-are (k ∷ ks) h = let u = h.0.1 in λ i. value_of-decimal k (omega arith) i ∷ values-are ks h.1 i

factor-by : (d : List ℕ) (ds : List (List ℕ)) (k : ℕ) (b : Bool) → 0 < k → k < 100 → AllByRecursion IsIndexNumber (d ∷ ds)
    → IsFactor (if b then zeta d ds else power d ds (decimal k))
factor-by d ds k true s f a = a
factor-by d ds k false s f a = (a, decimal-digits k 1 (omega arith) (omega arith))

power-formed : (p : Word × ℕ) → IsLightPower p → 0 < length (index_of p.0) → IsFactor (written_power p)
power-formed p h s = go (index_of p.0) s (parts 1 p.0 (omega arith) (let l = h.word.light in omega arith))
  where
    go : (ks : List ℕ) → 0 < length ks → AreParts ks → IsFactor (written_zeta (map decimal ks) p.1)
    go [] s a = absurd (omega arith)
    go (k ∷ ks) s a = factor-by (decimal k) (map decimal ks) p.1 (p.1 == 1) h.some h.few (numbers-are (k ∷ ks) a)

value-by : (d : List ℕ) (ds : List (List ℕ)) (ks : List ℕ) (k : ℕ) (b : Bool) → (k == 1) ≡ b → k < 100 → map value_of (d ∷ ds) ≡ ks
    → factor_of (if b then zeta d ds else power d ds (decimal k)) ≡ Zeta ks k
value-by d ds ks k true e f v = λ i. Zeta (v i) (sym (eqb-true k 1 e) i)
value-by d ds ks k false e f v = λ i. Zeta (v i) (value_of-decimal k (omega arith) i)

power-read : (p : Word × ℕ) → IsLightPower p → 0 < length (index_of p.0) → factor_of (written_power p) ≡ power_factor p
power-read p h s = go (index_of p.0) s (parts 1 p.0 (omega arith) (let l = h.word.light in omega arith))
  where
    go : (ks : List ℕ) → 0 < length ks → AreParts ks → factor_of (written_zeta (map decimal ks) p.1) ≡ Zeta ks p.1
    go [] s a = absurd (omega arith)
    go (k ∷ ks) s a = value-by (decimal k) (map decimal ks) (k ∷ ks) p.1 (p.1 == 1) refl h.few (values-are (k ∷ ks) a)

some-number : (u : Word) → IsLight u → 0 < length (index_of u)
some-number u h = (IsIndexText-word_text u h.light h.ends_y).some

have_numbers : (ps : List (Word × ℕ)) → AllByRecursion IsLightPower ps → HaveNumbers ps
have_numbers [] h = tt
have_numbers (p ∷ ps) h = (some-number p.0 h.0.word, have_numbers ps h.1)

pub powers-formed : (ps : List (Word × ℕ)) → AllByRecursion IsLightPower ps → AllByRecursion IsFactor (map written_power ps)
powers-formed [] h = tt
powers-formed (p ∷ ps) h = (power-formed p h.0 (some-number p.0 h.0.word), powers-formed ps h.1)

pub powers-read : (ps : List (Word × ℕ)) → AllByRecursion IsLightPower ps → map factor_of (map written_power ps) ≡ map power_factor ps
powers-read [] h = refl
powers-read (p ∷ ps) h = λ i. power-read p h.0 (some-number p.0 h.0.word) i ∷ powers-read ps h.1 i

-- a monomial that is printed in a line
pub record IsLightMonomial (p : List Word) : Type 0 where
  pub some : 0 < length p
  pub few : length p < 99
  pub words : AllByRecursion IsLight p

pub monomial-powers : (p : List Word) → IsLightMonomial p → AllByRecursion IsLightPower (powers_of p)
monomial-powers [] h = tt
monomial-powers (u ∷ us) h = let f : length (u ∷ us) < 99 = h.few in powers-light u 1 us h.words.0 (omega arith) h.words.1 (omega arith)

some-powers : (p : List Word) → 0 < length p → 0 < length (powers_of p)
some-powers [] h = absurd (omega arith)
some-powers (u ∷ us) h = begins u 1 us

pub spelled-column : (p : List Word) → IsLightMonomial p → IsSpelledColumn p
spelled-column p h = record { some = some-powers p h.some; numbers = have_numbers (powers_of p) (monomial-powers p h) }

and-true : (a b : Bool) → IsTrue (a && b) → (a ≡ true) × (b ≡ true)
and-true true true h = (refl, refl)
and-true true false h = cc
and-true false b h = cc

light-words : (us : List Word) → AllAdmissible us → length (joined us) ≤ 24 → AllByRecursion IsLight us
light-words [] h l = tt
light-words (u ∷ us) h l =
    let s = length-append u (joined us) in
    let a = and-true (begins_with_x u) (ends_with_y u) h.0 in
    (record { begins_x = a.0; ends_y = a.1; light = omega arith }, light-words us h.1 (omega arith))

some_factor : (p : List Word) → 2 ≤ length (joined p) → 0 < length p
some_factor [] h = absurd (omega arith)
some_factor (u ∷ us) h = omega arith

pub light-column : (w d : ℕ) (p : List Word) → 2 ≤ w → IsColumn w d p → IsLightMonomial p
light-column w d p h c =
    let few = length-monomial p c.monomial in
    let l : length (joined p) ≤ 24 = c.monomial.within in
    let e : length (joined p) ≡ w = c.weight in
    record { some = some_factor p (omega arith); few = omega arith; words = light-words p c.monomial.admissible l }

pub admissible-words : (us : List Word) → AllByRecursion IsLight us → AllByRecursion IsAdmissible us
admissible-words [] h = tt
admissible-words (u ∷ us) h = ((h.0.begins_x, h.0.ends_y), admissible-words us h.1)

module _ (columns : List (List Word)) (light : (col : ℕ) → col < length columns
    → IsLightMonomial (get_or columns col [])) (m : ℕ) (small : m < 2 ^ 64) where
  spelled-columns : (low : ℕ) (es : List (ℕ × ℕ)) → ArePairs m (length columns) low es → AllByRecursion (λ e. IsSpelledColumn (get_or columns e.0 [])) es
  spelled-columns low [] a = tt
  spelled-columns low (e ∷ es) (a, b, c, d, r) = (spelled-column (get_or columns e.0 []) (light e.0 b), spelled-columns (e.0 + 1) es r)

  terms-formed : (low : ℕ) (es : List (ℕ × ℕ)) → ArePairs m (length columns) low es → AllByRecursion IsTerm (map (written_term columns) es)
  terms-formed low [] a = tt
  terms-formed low (e ∷ es) (a, b, c, d, r) = (
    (
      decimal-digits e.1 37 (omega arith) (omega arith),
      powers-formed (powers_of (get_or columns e.0 [])) (monomial-powers (get_or columns e.0 [])
          (light e.0 b)),
    ),
    terms-formed (e.0 + 1) es r,
  )

  term-read : (e : ℕ × ℕ) → e.0 < length columns → e.1 < m → term_of (written_term columns e) ≡ term_form columns e
  term-read e b d = λ i. record {
    negative = false;
    factors = Number (value_of-decimal e.1 (omega arith) i) None ∷ powers-read (powers_of (get_or columns e.0 [])) (monomial-powers
        (get_or columns e.0 []) (light e.0 b)) i;
  }

  terms-read : (low : ℕ) (es : List (ℕ × ℕ)) → ArePairs m (length columns) low es → map (term_form columns) es ≡ map term_of (map (written_term columns) es)
  terms-read low [] a = refl
  terms-read low (e ∷ es) (a, b, c, d, r) = λ i. sym (term-read e b d) i ∷ terms-read (e.0 + 1) es r i

  row-line : (es : List (ℕ × ℕ)) → ArePairs m (length columns) 0 es → IsReading (row_text columns es) (row_terms columns es)
  row-line [] a = (
    false,
    record { negative = false; first = number (48 ∷ []); more = [] },
    [],
    record {
      formed = ((subst (IsDigits 38) (decimal_digit 0 (omega arith)) (decimal-digits 0 37 (omega arith) (omega arith)), tt), tt);
      sign =
          refl;
      spelled = ([], [], tt, refl, tt);
    },
    refl,
  )
  row-line (e ∷ es) a = (
    false,
    written_term columns e,
    map (written_term columns) es,
    record { formed = terms-formed 0 (e ∷ es) a; sign = refl; spelled = spelled_row columns e es (spelled-columns 0 (e ∷ es) a) },
    terms-read 0 (e ∷ es) a,
  )

  pub reads-back : (es : List (ℕ × ℕ)) → ArePairs m (length columns) 0 es → ReadsBack m columns es
  reads-back es a = record {
    line = row-line es a;
    words = λ t. row-words m columns (λ col h. admissible-words (get_or columns col []) (light col h).words) m es t a;
  }

pub row-reads-back : (columns : ColumnList) → 2 ≤ columns.weight → IsColumns columns → (m : ℕ) → m < 2 ^ 64 → (es : List (ℕ × ℕ))
    → ArePairs m (length columns.list) 0 es → ReadsBack m columns.list es
row-reads-back columns h c m small es a =
    reads-back columns.list (λ col l. light-column columns.weight columns.depth (get_or columns.list col []) h ((c.whole (get_or columns.list col [])).0
    (Contains-get_or columns.list col [] l))) m small es a

pub row-is-accepted : (columns : ColumnList) → 2 ≤ columns.weight → IsColumns columns → (m k : ℕ) → (es : List (ℕ × ℕ))
    → ArePairs k (length columns.list) 0 es → refusal_of m columns.weight columns.depth (row_terms columns.list es) ≡ None
row-is-accepted columns h c m k es a =
    row-passes m columns.weight columns.depth columns.list
    (λ col l.
    let p = get_or columns.list col [] in
    let is : IsColumn columns.weight columns.depth p = (c.whole p).0 (Contains-get_or columns.list col [] l) in
    record { words = all-admissible p (admissible-words p (light-column columns.weight columns.depth p h is).words); weighs = is.weight; deep = is.depth })
    k es a
