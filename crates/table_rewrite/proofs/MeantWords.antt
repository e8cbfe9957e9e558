-- The words of what terms mean have the weight and the depth of the term, and are admissible unless they are empty.
use Rattle.std.proofs.Common.{◌≡◌, ℕ, zero, suc, ◌+◌, ◌*◌, ◌<◌, ◌≤◌, Bool, true, false, cond, ◌⊎◌, inl, inr, List, [], ◌∷◌, length, map, refl, sym, ap, subst, ◌∙◌, arith}
use Rattle.std.specs.List.{sum, sum_by, AllByRecursion}
use Rattle.std.proofs.lemmas.Bool.{cases_lt}
use Rattle.std.proofs.lemmas.List.Sums.{sum_by-cons}
use Rattle.std.proofs.lemmas.List.Elements.{All-from_recursion}
use Rattle.zeta_model.specs.declared.Letter.{Letter}
use Rattle.zeta_model.specs.declared.Letter.TheVariants.{X, Y}
use Rattle.zeta_model.specs.Words.{depth_of, ends_with_y, has_index, is_admissible}
use Rattle.zeta_model.specs.Alphabets.{shuffle_alphabet, shuffle_of}
use Rattle.zeta_model.specs.Indices.{word_of_index}
use Rattle.zeta_model.specs.Regularise.{y_word, sign_of, reg_behind}
use Rattle.zeta_model.specs.Sums.{Sum, same_word, single, sum_of, continued}
use Rattle.zeta_model.proofs.DepthLemmas.{depth_of-x, depth_of-y, depth_of-y_word}
use Rattle.zeta_model.proofs.ProductDepths.{depth_of-shuffle}
use Rattle.zeta_model.proofs.ProductWords.{length-prod}
use Rattle.zeta_model.proofs.RegularWords.{reg_of-words}
use Rattle.zeta_model.proofs.ShuffleLetters.{shuffle_laws}
use Rattle.zeta_model.proofs.WordOrder.{same_word-one}
use Rattle.word_letters.specs.Order.{word_eq_equiv}
use Rattle.word_letters.proofs.IndexLemmas.{length-word_of_index, depth_of-word_of_index}
use Rattle.quasi_product.specs.SumProducts.{product_with_terms}
use Rattle.relation_list.proofs.ProductWords.{sum_of-held, shuffle-admissible}
use Rattle.zeta_model.proofs.ListLemmas.{none_contained, contains_cases}
use Rattle.std.specs.List.{Contains}
use Rattle.zeta_expr.specs.declared.expr.Factor.{Factor}
use Rattle.zeta_expr.specs.declared.expr.Factor.TheVariants.{Number, Zeta}
use Rattle.zeta_expr.specs.Weights.{weight_in, depth_in}
use Rattle.zeta_expr.specs.Meaning.{Terms, zeta_terms, times, times_power, times_zetas, IsFormed}
use Rattle.zeta_expr.proofs.MeaningLemmas.{reg_terms-sum, times-sum, has_index-word_of_index}

abbrev pub Word : Type 0
Word = List Letter

-- a word of the weight k and the depth j, admissible unless it is empty
pub record IsMeant (k j : ℕ) (t : Word) : Type 0 where
  pub weighs : length t ≡ k
  pub deep : depth_of t ≡ j
  pub admissible : 0 < length t → is_admissible t ≡ true

-- so is each word of the terms
abbrev pub AreMeant : ℕ → ℕ → Terms → Type 0
AreMeant k j p = (t : Word) → 0 < continued single p t → IsMeant k j t

the_one : (u t : Word) → Contains (u ∷ []) t → u ≡ t
the_one u t c = elim (contains_cases u t [] c) [ inl e ↦ e | inr n ↦ absurd (none_contained t n) ]

shuffle-empty_right : (u t : Word) → Contains (shuffle_of u []) t → u ≡ t
shuffle-empty_right [] t c = the_one [] t c
shuffle-empty_right (a ∷ u) t c = the_one (a ∷ u) t c

meant-shuffle : (k j k' j' : ℕ) (u v t : Word) → IsMeant k j u → IsMeant k' j' v → 0 < sum_of (shuffle_of u v) t → IsMeant (k + k') (j + j') t
meant-shuffle k j k' j' u v t f g some =
    let n : ℕ = length u + length v in
    let fw = f.weighs in
    let gw = g.weighs in
    let fd = f.deep in
    let gd = g.deep in
    let weighs : length t ≡ length u + length v = length-prod n shuffle_alphabet (shuffle_laws n) u v t refl refl (omega arith) some in
    let deep : depth_of t ≡ depth_of u + depth_of v = depth_of-shuffle u v t some in
    record { weighs = omega arith; deep = omega arith; admissible = λ l. by u v f.admissible g.admissible some l }
  where
    by : (u v : Word) → (0 < length u → is_admissible u ≡ true) → (0 < length v → is_admissible v ≡ true) → 0 < sum_of (shuffle_of u v) t → 0 < length t
        → is_admissible t ≡ true
    by [] v a b some l =
        let e : v ≡ t = the_one v t (sum_of-held (shuffle_of [] v) t some) in
        ap is_admissible (sym e) ∙ b (let n : length v ≡ length t = ap length e in omega arith)
    by (x ∷ u) [] a b some l =
        let e : x ∷ u ≡ t = shuffle-empty_right (x ∷ u) t (sum_of-held (shuffle_of (x ∷ u) []) t some) in
        ap is_admissible (sym e) ∙ a (omega arith)
    by (x ∷ u) (y ∷ v) a b some l = shuffle-admissible (x ∷ u) (y ∷ v) t (a (omega arith)) (b (omega arith)) some

-- a factor that is not zero
factor_some : (a b : ℕ) → 0 < a * b → (0 < a) × (0 < b)
factor_some zero b h = absurd (omega arith)
factor_some (suc a) zero h = absurd (omega arith)
factor_some (suc a) (suc b) h = (omega arith, omega arith)

same_word-itself : (w : Word) → same_word w w ≡ true
same_word-itself w = word_eq_equiv.refl w

-- the word of a term, with its number
record OneTerm (f : Word → ℕ) (p : Terms) : Type 0 where
  word : Word
  held : 0 < continued single p word
  gives : 0 < f word

one_term : (f : Word → Sum) (t : Word) (p : Terms) → 0 < continued f p t → OneTerm (λ w. f w t) p
one_term f t [] h = absurd (omega arith)
one_term f t (c ∷ p) h = by (one_term f t p) (cases_lt 0 (c.0 * f c.1 t))
  where
    by : (0 < continued f p t → OneTerm (λ w. f w t) p) → (0 < c.0 * f c.1 t) ⊎ (c.0 * f c.1 t ≤ 0) → OneTerm (λ w. f w t) (c ∷ p)
    by more (inl some) =
        let s = factor_some c.0 (f c.1 t) some in
        let one : c.0 * single c.1 c.1 ≡ c.0 * 1 = ap (λ b. c.0 * cond b 1 0) (same_word-itself c.1) in
        record { word = c.1; held = (let n : 0 < c.0 = s.0 in omega arith); gives = s.1 }
    by more (inr none) = let r = more (omega arith) in let held = r.held in record { word = r.word; held = omega arith; gives = r.gives }

-- two words, one of each sum, whose shuffle has the word
meant-times : (k j k' j' : ℕ) (p q : Terms) → AreMeant k j p → AreMeant k' j' q → AreMeant (k + k') (j + j') (times p q)
meant-times k j k' j' p q f g t h =
    let a = one_term (product_with_terms shuffle_alphabet q) t p (subst (λ n. 0 < n) (times-sum p q t) h) in
    let b = one_term (λ v. sum_of (shuffle_of a.word v)) t q a.gives in
    meant-shuffle k j k' j' a.word b.word t (f a.word a.held) (g b.word b.held) b.gives

-- the depth of a word of a regularisation
is_one : (w t : Word) → 0 < single w t → t ≡ w
is_one w t h = by (same_word t w) refl h
  where
    by : (b : Bool) → same_word t w ≡ b → 0 < cond b 1 0 → t ≡ w
    by true e h = same_word-one t w e
    by false e h = absurd (omega arith)

abbrev BehindX : List Word → Word → Type 0
BehindX ts t = (r : Word) × (t ≡ X ∷ r) × (0 < sum_of ts r)

behind_x : (ts : List Word) (t : Word) → 0 < sum_of (map (λ r. X ∷ r) ts) t → BehindX ts t
behind_x [] t h = absurd (omega arith)
behind_x (u ∷ ts) t h = by (behind_x ts t) (cases_lt 0 (single (X ∷ u) t))
  where
    by : (0 < sum_of (map (λ r. X ∷ r) ts) t → BehindX ts t) → (0 < single (X ∷ u) t) ⊎ (single (X ∷ u) t ≤ 0) → BehindX (u ∷ ts) t
    by more (inl some) =
        let one : single u u ≡ 1 = ap (λ b. cond b 1 0) (same_word-itself u) in
        (u, is_one (X ∷ u) t some, omega arith)
    by more (inr none) = let r = more (omega arith) in (r.0, r.1, (let s : 0 < sum_of ts r.0 = r.2 in omega arith))

reg-depth : (m j : ℕ) (w t : Word) → 0 < reg_behind m j w t → depth_of t ≡ j + depth_of w
reg-depth m zero [] t h = one (same_word t []) refl h
  where
    one : (b : Bool) → same_word t [] ≡ b → 0 < cond b 1 0 → depth_of t ≡ 0 + depth_of []
    one true e h = ap depth_of (same_word-one t [] e) ∙ omega arith
    one false e h = absurd (omega arith)
reg-depth m (suc j) [] t h = absurd (omega arith)
reg-depth m zero (X ∷ u) t h = behind m zero u t h
  where
    behind : (m j : ℕ) (u t : Word) → 0 < sign_of m j * sum_of (map (λ r. X ∷ r) (shuffle_of (y_word j) u)) t → depth_of t ≡ j + depth_of (X ∷ u)
    behind m j u t h =
        let r = behind_x (shuffle_of (y_word j) u) t (factor_some (sign_of m j) (sum_of (map (λ r. X ∷ r) (shuffle_of (y_word j) u)) t) h).1 in
        let d : depth_of r.0 ≡ depth_of (y_word j) + depth_of u = depth_of-shuffle (y_word j) u r.0 r.2 in
        let e : depth_of t ≡ depth_of (X ∷ r.0) = ap depth_of r.1 in
        omega (arith, depth_of-x r.0, depth_of-x u, depth_of-y_word j)
reg-depth m (suc j) (X ∷ u) t h = behind m (suc j) u t h
  where
    behind : (m j : ℕ) (u t : Word) → 0 < sign_of m j * sum_of (map (λ r. X ∷ r) (shuffle_of (y_word j) u)) t → depth_of t ≡ j + depth_of (X ∷ u)
    behind m j u t h =
        let r = behind_x (shuffle_of (y_word j) u) t (factor_some (sign_of m j) (sum_of (map (λ r. X ∷ r) (shuffle_of (y_word j) u)) t) h).1 in
        let d : depth_of r.0 ≡ depth_of (y_word j) + depth_of u = depth_of-shuffle (y_word j) u r.0 r.2 in
        let e : depth_of t ≡ depth_of (X ∷ r.0) = ap depth_of r.1 in
        omega (arith, depth_of-x r.0, depth_of-x u, depth_of-y_word j)
reg-depth m zero (Y ∷ w) t h = let r = reg-depth m (suc zero) w t h in omega (arith, depth_of-y w)
reg-depth m (suc j) (Y ∷ w) t h = let r = reg-depth m (suc (suc j)) w t h in omega (arith, depth_of-y w)

index-ends : (w : Word) → 0 < length w → has_index w ≡ true → ends_with_y w ≡ true
index-ends [] s h = absurd (omega arith)
index-ends (a ∷ w) s h = h

-- an index of positive numbers is not longer than their sum
some_letters : (ks : List ℕ) → 0 < length ks → AllByRecursion (λ k. 0 < k) ks → 0 < sum ks
some_letters [] s h = absurd (omega arith)
some_letters (k ∷ ks) s h =
    let e : sum (k ∷ ks) ≡ k + sum ks = sum_by-cons (λ x. x) k ks in
    let p : 0 < k = h.0 in
    omega arith

meant-zeta : (m : ℕ) (ks : List ℕ) → 0 < length ks → AllByRecursion (λ k. 0 < k) ks → AreMeant (sum ks) (length ks) (zeta_terms m ks)
meant-zeta m ks some positive t h =
    let w = word_of_index ks in
    let long : length w ≡ sum ks = length-word_of_index ks in
    let letters = some_letters ks some positive in
    let here : 0 < reg_behind m 0 w t = subst (λ n. 0 < n) (reg_terms-sum m 0 w t) h in
    let r = reg_of-words m w t (index-ends w (omega arith) (has_index-word_of_index ks positive)) here in
    let deep : depth_of t ≡ 0 + depth_of w = reg-depth m 0 w t here in
    record {
      weighs = r.1 ∙ long;
      deep = omega (arith, depth_of-word_of_index ks (All-from_recursion (λ k. 0 < k) ks positive));
      admissible = λ l. r.0;
    }

meant-power : (m : ℕ) (ks : List ℕ) (power k j : ℕ) (p : Terms) → 0 < length ks → AllByRecursion (λ n. 0 < n) ks → AreMeant k j p
    → AreMeant (power * sum ks + k) (power * length ks + j) (times_power m ks power p)
meant-power m ks zero k j p some positive f t h =
    let r = f t h in
    let a = r.weighs in
    let b = r.deep in
    record { weighs = omega arith; deep = omega arith; admissible = r.admissible }
meant-power m ks (suc power) k j p some positive f t h =
    let r = meant-times (sum ks) (length ks) (power * sum ks + k) (power * length ks + j) (zeta_terms m ks) (times_power m ks power p)
    (meant-zeta m ks some positive) (meant-power m ks power k j p some positive f) t h in
    let a = r.weighs in
    let b = r.deep in
    record { weighs = omega arith; deep = omega arith; admissible = r.admissible }

meant-zetas : (m : ℕ) (fs : List Factor) (k j : ℕ) (p : Terms) → AllByRecursion IsFormed fs → AreMeant k j p
    → AreMeant (sum_by weight_in fs + k) (sum_by depth_in fs + j) (times_zetas m fs p)
meant-zetas m [] k j p formed f t h =
    let r = f t h in
    let a = r.weighs in
    let b = r.deep in
    record { weighs = omega arith; deep = omega arith; admissible = r.admissible }
meant-zetas m (Number top bottom ∷ fs) k j p formed f t h =
    let r = meant-zetas m fs k j p formed.1 f t h in
    let a = r.weighs in
    let b = r.deep in
    let w : sum_by weight_in (Number top bottom ∷ fs) ≡ 0 + sum_by weight_in fs = sum_by-cons weight_in (Number top bottom) fs in
    let d : sum_by depth_in (Number top bottom ∷ fs) ≡ 0 + sum_by depth_in fs = sum_by-cons depth_in (Number top bottom) fs in
    record { weighs = omega arith; deep = omega arith; admissible = r.admissible }
meant-zetas m (Zeta word power ∷ fs) k j p formed f t h =
    let r = meant-zetas m fs (power * sum word + k) (power * length word + j) (times_power m word power p) formed.1
    (meant-power m word power k j p formed.0.0 formed.0.1 f) t h in
    let a = r.weighs in
    let b = r.deep in
    let w : sum_by weight_in (Zeta word power ∷ fs) ≡ power * sum word + sum_by weight_in fs = sum_by-cons weight_in (Zeta word power) fs in
    let d : sum_by depth_in (Zeta word power ∷ fs) ≡ power * length word + sum_by depth_in fs = sum_by-cons depth_in (Zeta word power) fs in
    record { weighs = omega arith; deep = omega arith; admissible = r.admissible }

-- the words of the zetas of some factors
pub zetas-meant : (m : ℕ) (fs : List Factor) → AllByRecursion IsFormed fs
    → AreMeant (sum_by weight_in fs) (sum_by depth_in fs) (times_zetas m fs ((1, []) ∷ []))
zetas-meant m fs formed t h =
    let r = meant-zetas m fs 0 0 ((1, []) ∷ []) formed start t h in
    let a = r.weighs in
    let b = r.deep in
    record { weighs = omega arith; deep = omega arith; admissible = r.admissible }
  where
    start : AreMeant 0 0 ((1, []) ∷ [])
    start t h = by (same_word t []) refl h
      where
        by : (b : Bool) → same_word t [] ≡ b → 0 < 1 * cond b 1 0 + 0 → IsMeant 0 0 t
        by true e h = subst (IsMeant 0 0) (sym (same_word-one t [] e)) (record { weighs = refl; deep = refl; admissible = λ l. absurd (omega arith) })
        by false e h = absurd (omega arith)
