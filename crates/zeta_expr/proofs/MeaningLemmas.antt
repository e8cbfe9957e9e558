-- The terms of regularisations and of products give the sums of the model.
use Rattle.std.proofs.Common.{not, ◌≡◌, ◌≢◌, ℕ, zero, suc, ◌+◌, ◌*◌, ◌%◌, ◌<◌, ◌≤◌, Bool, true, false, cond, length, List, [], ◌∷◌, ◌++◌, map, refl, sym, ap, subst, ◌∙◌, arith}
use Rattle.std.specs.List.{sum, flat_map, filter, AllByRecursion}
use Rattle.zeta_model.specs.Modular.{Same}
use Rattle.zeta_model.proofs.ModularLemmas.{same-add, same-mul_left, same-mod}
use Rattle.zeta_model.proofs.RegularisedWords.{length-y_word}
use Rattle.zeta_model.proofs.WordOrder.{same_word-one}
use Rattle.regularise_core.proofs.KnownSums.{continued_same}
use Rattle.word_sums.proofs.LeastWords.{IsLeast-none}
use Rattle.word_sums.proofs.SumLemmas.{words_of_sum}
use Rattle.word_sums.specs.Sums.{IsSumOf}
use Rattle.word_sums.specs.Failing.{IsLeast}
use Rattle.zeta_model.specs.declared.Letter.{Letter}
use Rattle.zeta_model.specs.declared.Letter.TheVariants.{X, Y}
use Rattle.zeta_model.specs.Product.{prod_within}
use Rattle.zeta_model.specs.Alphabets.{shuffle_of, shuffle_alphabet}
use Rattle.zeta_model.specs.Regularise.{y_word, sign_of, reg_behind, reg_of}
use Rattle.zeta_model.specs.Sums.{SameSum, same_word, single, sum_of, continued}
use Rattle.zeta_model.proofs.SumLemmas.{continued-append}
use Rattle.quasi_product.specs.SumProducts.{product_with_terms, product_of_terms}
use Rattle.std.proofs.lemmas.List.Elements.{recursion_from_All}
use Rattle.std.specs.Map.{keys_of}
use Rattle.std.specs.Prelude.{All}
use Rattle.zeta_model.specs.Words.{has_index, ends_with_y}
use Rattle.zeta_model.specs.Indices.{z_word, word_of_index}
use Rattle.word_letters.proofs.IndexLemmas.{word_of_index-cons, length-word_of_index}
use Rattle.word_sums.specs.Terms.{coefficient_of}
use Rattle.regularise_core.specs.Outside.{outside_h1}
use Rattle.zeta_expr.specs.Inner.{AreShort}
use Rattle.zeta_expr.specs.Meaning.{Terms, zeta_terms, times_power, reg_terms, times}

-- the same number beside each word of a list
same_number : (c : ℕ) (g : List Letter → List Letter) (ws : List (List Letter)) (t : List Letter) → continued single (map (λ w. (c, g w)) ws) t
    ≡ c * sum_of (map g ws) t
same_number c g [] t = omega arith
same_number c g (w ∷ ws) t =
    let e = same_number c g ws t in
    let d : c * (single (g w) t + sum_of (map g ws) t) ≡ c * single (g w) t + c * sum_of (map g ws) t = omega arith in
    ap (λ v. c * single (g w) t + v) e ∙ sym d

-- the terms of the regularisation of a word give its regularisation
pub reg_terms-sum : (m j : ℕ) (w t : List Letter) → continued single (reg_terms m j w) t ≡ reg_behind m j w t
reg_terms-sum m zero [] t = omega arith
reg_terms-sum m (suc j) [] t = refl
reg_terms-sum m zero (X ∷ u) t = same_number (sign_of m zero) (λ w. X ∷ w) (shuffle_of (y_word zero) u) t
reg_terms-sum m (suc j) (X ∷ u) t = same_number (sign_of m (suc j)) (λ w. X ∷ w) (shuffle_of (y_word (suc j)) u) t
reg_terms-sum m zero (Y ∷ w) t = reg_terms-sum m (suc zero) w t
reg_terms-sum m (suc j) (Y ∷ w) t = reg_terms-sum m (suc (suc j)) w t

-- one term times a sum
abbrev one_times : ℕ → List Letter → Terms → Terms
one_times c u q = flat_map (λ d. map (λ t. (c * d.0, t)) (shuffle_of u d.1)) q

map_itself : (ws : List (List Letter)) → map (λ w. w) ws ≡ ws
map_itself [] = refl
map_itself (w ∷ ws) = ap (λ l. w ∷ l) (map_itself ws)

one_times-sum : (c : ℕ) (u : List Letter) (q : Terms) (t : List Letter) → continued single (one_times c u q) t
    ≡ c * product_with_terms shuffle_alphabet q u t
one_times-sum c u [] t = omega arith
one_times-sum c u (d ∷ q) t =
    let front = map (λ w. (c * d.0, w)) (shuffle_of u d.1) in
    let a : continued single front t ≡ (c * d.0) * sum_of (shuffle_of u d.1) t = same_number (c * d.0) (λ w. w) (shuffle_of u d.1) t
    ∙ ap (λ l. (c * d.0) * sum_of l t) (map_itself (shuffle_of u d.1)) in
    let r = one_times-sum c u q t in
    let s = sum_of (shuffle_of u d.1) t in
    let p = product_with_terms shuffle_alphabet q u t in
    let e : (c * d.0) * s + c * p ≡ c * (d.0 * s + p) = omega arith in
    continued-append single front (one_times c u q) t ∙ (λ i. a i + r i) ∙ e

-- the terms of a product give the product of the sums
pub times-sum : (p q : Terms) (t : List Letter) → continued single (times p q) t ≡ product_of_terms shuffle_alphabet p q t
times-sum [] q t = refl
times-sum (c ∷ p) q t =
    continued-append single (one_times c.0 c.1 q) (times p q) t ∙ (λ i. one_times-sum c.0 c.1 q t i + times-sum p q t i)

short_append : (j : ℕ) (p q : Terms) → AreShort j p → AreShort j q → AreShort j (p ++ q)
short_append j [] q h k = k
short_append j (c ∷ p) q h k = (h.0, short_append j p q h.1 k)

abbrev AreWords : ℕ → List (List Letter) → Type 0
AreWords n ws = AllByRecursion (λ w. length w ≤ n) ws

words_append : (n : ℕ) (us vs : List (List Letter)) → AreWords n us → AreWords n vs → AreWords n (us ++ vs)
words_append n [] vs h k = k
words_append n (u ∷ us) vs h k = (h.0, words_append n us vs h.1 k)

words_behind : (n : ℕ) (a : Letter) (us : List (List Letter)) → AreWords n us → AreWords (suc n) (map (λ w. (a ∷ []) ++ w) us)
words_behind n a [] h = tt
words_behind n a (u ∷ us) h = (omega (arith, h.0), words_behind n a us h.1)

-- the words of a shuffle are as long as both together
shuffle_words : (n : ℕ) (u v : List Letter) → length u + length v ≤ n → AreWords n (prod_within shuffle_alphabet n u v)
shuffle_words n [] v h = (omega arith, tt)
shuffle_words n (a ∷ u) [] h = (omega arith, tt)
shuffle_words zero (a ∷ u) (b ∷ v) h = tt
shuffle_words (suc n) (a ∷ u) (b ∷ v) h =
    words_append (suc n) _ [] (words_append (suc n) _ _ (words_behind n a _ (shuffle_words n u (b ∷ v) (omega arith))) (words_behind n b _
    (shuffle_words n (a ∷ u) v (omega arith)))) tt

same_number_short : (j n c : ℕ) (ws : List (List Letter)) → n ≤ j → AreWords n ws → AreShort j (map (λ w. (c, w)) ws)
same_number_short j n c [] l h = tt
same_number_short j n c (w ∷ ws) l h = (omega (arith, h.0), same_number_short j n c ws l h.1)

one_times_short : (i j c : ℕ) (u : List Letter) (q : Terms) → length u ≤ i → AreShort j q → AreShort (i + j) (one_times c u q)
one_times_short i j c u [] h k = tt
one_times_short i j c u (d ∷ q) h k =
    short_append (i + j) _ (one_times c u q)
    (same_number_short (i + j) (length u + length d.1) (c * d.0) (shuffle_of u d.1) (omega (arith, k.0)) (shuffle_words (length u + length d.1) u d.1
    (omega arith)))
    (one_times_short i j c u q h k.1)

pub times_short : (i j : ℕ) (p q : Terms) → AreShort i p → AreShort j q → AreShort (i + j) (times p q)
times_short i j [] q h k = tt
times_short i j (c ∷ p) q h k = short_append (i + j) (one_times c.0 c.1 q) (times p q) (one_times_short i j c.0 c.1 q h.0 k) (times_short i j p q h.1 k)

-- a word with a coefficient is short
pub short_word : (j : ℕ) (p : Terms) (t : List Letter) → AreShort j p → continued single p t ≢ 0 → length t ≤ j
short_word j [] t h n = absurd (n refl)
short_word j (c ∷ p) t h n =
    elim (same_word t c.1) as (λ b. same_word t c.1 ≡ b → length t ≤ j) [
      | true ↦ λ e. let f : length t ≡ length c.1 = ap length (same_word-one t c.1 e) in omega (arith, h.0)
      | false ↦ λ e.
          let z : single c.1 t ≡ 0 = ap (λ b. cond b 1 0) e in
          let y : c.0 * single c.1 t ≡ 0 = ap (λ v. c.0 * v) z ∙ omega arith in
          short_word j p t h.1 (λ r. n ((λ i. y i + r i) ∙ omega arith))
    ] refl

-- the products with sums that have the same coefficients are the same
pub product_same_right : (m : ℕ) (p q q' : Terms) → 0 < m → SameSum m (continued single q) (continued single q')
    → SameSum m (product_of_terms shuffle_alphabet p q) (product_of_terms shuffle_alphabet p q')
product_same_right m [] q q' pos hq t = refl
product_same_right m (c ∷ p) q q' pos hq t =
    same-add m _ _ _ _ (same-mul_left m _ _ c.0 (continued_same m pos q q' hq (λ v. sum_of (shuffle_of c.1 v)) t)) (product_same_right m p q q' pos hq t)

-- sums with the same coefficients have the same products
pub times_same : (m : ℕ) (p p' q q' : Terms) → 0 < m → SameSum m (continued single p) (continued single p')
    → SameSum m (continued single q) (continued single q') → SameSum m (continued single (times p q)) (continued single (times p' q'))
times_same m p p' q q' pos hp hq t =
    ap (λ n. n % m) (times-sum p q t)
    ∙ continued_same m pos p p' hp (product_with_terms shuffle_alphabet q) t
    ∙ product_same_right m p' q q' pos hq t
    ∙ ap (λ n. n % m) (sym (times-sum p' q' t))

shuffle_nothing : (u : List Letter) → shuffle_of u [] ≡ u ∷ []
shuffle_nothing [] = refl
shuffle_nothing (a ∷ u) = refl

product_with_one : (p : Terms) (t : List Letter) → product_of_terms shuffle_alphabet p ((1, []) ∷ []) t ≡ continued single p t
product_with_one [] t = refl
product_with_one (c ∷ p) t =
    let one : sum_of (shuffle_of c.1 []) t ≡ single c.1 t + 0 = ap (λ ws. sum_of ws t) (shuffle_nothing c.1) in
    let all : 1 * sum_of (shuffle_of c.1 []) t + 0 ≡ single c.1 t = omega arith in
    (λ i. c.0 * all i + product_with_one p t i)

-- the product with the word without letters
pub product_one : (m : ℕ) (p q : Terms) → 0 < m → ((t : List Letter) → continued single q t ≡ single [] t)
    → SameSum m (product_of_terms shuffle_alphabet p q) (continued single p)
product_one m p q pos one t =
    let alone : SameSum m (continued single q) (continued single ((1, []) ∷ [])) = λ t.
    let e : single [] t ≡ 1 * single [] t + 0 = omega arith in ap (λ n. n % m) (one t ∙ e) in
    product_same_right m p q ((1, []) ∷ []) pos alone t ∙ ap (λ n. n % m) (product_with_one p t)

-- one term that gives the word without letters the number 1
pub one_alone : {E : Type 0} (value : E → ℕ) (sum : List (List Letter × E)) → length sum ≡ 1 → coefficient_of value sum [] ≡ 1 → (t : List Letter)
    → coefficient_of value sum t ≡ single [] t
one_alone value [] l e t = absurd (omega arith)
one_alone value (c ∷ d ∷ sum) l e t = absurd (omega arith)
one_alone value (c ∷ []) l e t = by (same_word [] c.0) refl
  where
    by : (b : Bool) → same_word [] c.0 ≡ b → coefficient_of value (c ∷ []) t ≡ single [] t
    by false is =
        let none : value c.1 * single c.0 [] + 0 ≡ value c.1 * 0 + 0 = ap (λ b. value c.1 * cond b 1 0 + 0) is in
        absurd (omega arith)
    by true is =
        let one : value c.1 * single c.0 [] + 0 ≡ value c.1 * 1 + 0 = ap (λ b. value c.1 * cond b 1 0 + 0) is in
        let number : value c.1 ≡ 1 = omega arith in
        let word : single c.0 t ≡ single [] t = ap (λ w. single w t) (sym (same_word-one [] c.0 is)) in
        let whole : 1 * single [] t + 0 ≡ single [] t = omega arith in
        (λ i. number i * word i + 0) ∙ whole

ends_behind : (k : ℕ) (w : List Letter) → 0 < k → has_index w ≡ true → ends_with_y (z_word k ++ w) ≡ true
ends_behind zero w p h = absurd (omega arith)
ends_behind (suc zero) [] p h = refl
ends_behind (suc zero) (a ∷ w) p h = h
ends_behind (suc (suc zero)) [] p h = refl
ends_behind (suc (suc zero)) (a ∷ w) p h = h
ends_behind (suc (suc (suc k))) w p h = ends_behind (suc (suc k)) w (omega arith) h

index_behind : (k : ℕ) (w : List Letter) → 0 < k → has_index w ≡ true → has_index (z_word k ++ w) ≡ true
index_behind zero w p h = absurd (omega arith)
index_behind (suc zero) w p h = ends_behind (suc zero) w p h
index_behind (suc (suc k)) w p h = ends_behind (suc (suc k)) w p h

pub has_index-word_of_index : (ks : List ℕ) → AllByRecursion (λ k. 0 < k) ks → has_index (word_of_index ks) ≡ true
has_index-word_of_index [] h = refl
has_index-word_of_index (k ∷ ks) h = ap has_index (word_of_index-cons k ks) ∙ index_behind k (word_of_index ks) h.0 (has_index-word_of_index ks h.1)

single_word : (w t : List Letter) → single w t ≢ 0 → t ≡ w
single_word w t n =
    elim (same_word t w) as (λ b. same_word t w ≡ b → t ≡ w) [ true ↦ λ e. same_word-one t w e | false ↦ λ e. absurd (n (ap (λ b. cond b 1 0) e)) ] refl

none_filtered : (ws : List (List Letter)) → AllByRecursion (λ w. has_index w ≡ true) ws → filter (λ w. not (has_index w)) ws ≡ []
none_filtered [] h = refl
none_filtered (w ∷ ws) h = ap (λ b. cond (not b) (w ∷ filter (λ w. not (has_index w)) ws) (filter (λ w. not (has_index w)) ws)) h.0 ∙ none_filtered ws h.1

module _ {E : Type 0} (nought : E) (has : E → Bool) (value : E → ℕ) (m : ℕ) (has_nought : has nought ≡ true) (value_nought : value nought ≡ 0)
    (injective : (a b : E) → has a ≡ true → has b ≡ true → value a ≡ value b → a ≡ b) where
  -- the one word of a sum has an index, so none is outside
  pub none_outside : (w u : List Letter) (sum : List (List Letter × E)) → IsSumOf nought has value m (single w) sum → has_index w ≡ true
      → IsLeast (outside_h1 sum) u → ⊥
  none_outside w u sum is index l =
      IsLeast-none (outside_h1 sum) u
      (none_filtered (keys_of sum) (recursion_from_All (λ v. has_index v ≡ true) (keys_of sum)
      (words_of_sum nought has value m (λ v. has_index v ≡ true) (single w) sum has_nought value_nought injective is
      (λ v some. ap has_index (single_word w v (λ none. absurd (omega arith))) ∙ index)))) l

  -- where the terms are short, so are the words of the sum
  pub keys_short : (j : ℕ) (p : Terms) (sum : List (List Letter × E)) → IsSumOf nought has value m (continued single p) sum → AreShort j p
      → All (λ w. length w ≤ j) (keys_of sum)
  keys_short j p sum is h =
      words_of_sum nought has value m (λ w. length w ≤ j) (continued single p) sum has_nought value_nought injective is
      (λ w some. short_word j p w h (λ none. absurd (omega arith)))

-- the words of a regularisation are no longer than the word
reg_front : (m j n : ℕ) (u : List Letter) → j + suc (length u) ≤ n → AreShort n (map (λ t. (sign_of m j, X ∷ t)) (shuffle_of (y_word j) u))
reg_front m j n u h =
    let l = length-y_word j in
    same_number_before n (length (y_word j) + length u) (sign_of m j) (shuffle_of (y_word j) u) (omega arith) (shuffle_words (length
    (y_word j) + length u) (y_word j) u (omega arith))
  where
    same_number_before : (j n c : ℕ) (ws : List (List Letter)) → suc n ≤ j → AreWords n ws → AreShort j (map (λ w. (c, X ∷ w)) ws)
    same_number_before j n c [] l h = tt
    same_number_before j n c (w ∷ ws) l h = (omega (arith, h.0), same_number_before j n c ws l h.1)

pub reg_short : (m j n : ℕ) (w : List Letter) → j + length w ≤ n → AreShort n (reg_terms m j w)
reg_short m zero n [] h = (omega arith, tt)
reg_short m (suc j) n [] h = tt
reg_short m zero n (X ∷ u) h = reg_front m zero n u h
reg_short m (suc j) n (X ∷ u) h = reg_front m (suc j) n u h
reg_short m zero n (Y ∷ w) h = reg_short m (suc zero) n w (omega arith)
reg_short m (suc j) n (Y ∷ w) h = reg_short m (suc (suc j)) n w (omega arith)

-- the regularisation of a sum that is one word
pub reg_one : (m : ℕ) (one : Terms) (w t : List Letter) → 0 < m → ((t : List Letter) → continued single one t ≡ single w t % m)
    → Same m (continued (reg_of m) one t) (continued single (reg_terms m 0 w) t)
reg_one m one w t pos h =
    let alone : (t : List Letter) → Same m (continued single one t) (continued single ((1, w) ∷ []) t) = λ t.
    ap (λ n. n % m) (h t) ∙ same-mod m (single w t) ∙ ap (λ n. n % m) (omega arith) in
    let b : 1 * reg_of m w t + 0 ≡ reg_of m w t = omega arith in
    continued_same m pos one ((1, w) ∷ []) alone (reg_of m) t ∙ ap (λ n. n % m) (b ∙ sym (reg_terms-sum m 0 w t))

pub zeta_short : (m : ℕ) (ks : List ℕ) → AreShort (sum ks) (zeta_terms m ks)
zeta_short m ks = let l = length-word_of_index ks in reg_short m 0 (sum ks) (word_of_index ks) (omega arith)

pub power_short : (m : ℕ) (ks : List ℕ) (k j n : ℕ) (p : Terms) → AreShort j p → n ≡ k * sum ks + j → AreShort n (times_power m ks k p)
power_short m ks zero j n p h e = let f : n ≡ j = omega arith in subst (λ v. AreShort v p) (sym f) h
power_short m ks (suc k) j n p h e =
    let f : n ≡ sum ks + (k * sum ks + j) = omega arith in
    subst (λ v. AreShort v (times_power m ks (suc k) p)) (sym f) (times_short (sum ks) (k * sum ks + j) (zeta_terms m ks) (times_power m ks k p)
    (zeta_short m ks) (power_short m ks k j (k * sum ks + j) p h refl))
