-- Products of listed relations with words are in the span of the listed relations of the higher weight.
use Rattle.std.proofs.Common.{◌≡◌, ℕ, zero, suc, ◌+◌, ◌*◌, ◌%◌, ◌<◌, ◌≤◌, Bool, true, false, ◌&&◌, nat_le, Some, List, [], ◌∷◌, length, get_or, slice_get, Contains, refl, sym, ap, subst, ◌∙◌, arith}
use Rattle.std.proofs.lemmas.Bool.Decides.{nat_tests}
use Rattle.std.proofs.lemmas.List.Elements.{All-contains, Contains-get_or}
use Rattle.std.proofs.lemmas.Option.{slice_get-get_or}
use Rattle.zeta_model.specs.declared.Letter.{Letter}
use Rattle.zeta_model.specs.Words.{depth_of, is_admissible}
use Rattle.zeta_model.specs.WordLists.{all_words}
use Rattle.zeta_model.specs.Product.{total}
use Rattle.zeta_model.specs.Alphabets.{shuffle_alphabet, shuffle_of}
use Rattle.zeta_model.specs.Sums.{Sum, SameSum, single, sum_of}
use Rattle.zeta_model.proofs.ListLemmas.{contains_first, contains_later}
use Rattle.zeta_model.proofs.ModularLemmas.{same-mul_right}
use Rattle.zeta_model.proofs.ProductLaws.{prod_associates}
use Rattle.zeta_model.proofs.ProductWords.{length-prod}
use Rattle.zeta_model.proofs.ShuffleLetters.{shuffle_laws}
use Rattle.zeta_model.proofs.Totals.{total-flat_map}
use Rattle.word_letters.proofs.AdmissibleWords.{length-all_words}
use Rattle.relation_list.specs.declared.names.Direct.{Direct}
use Rattle.relation_list.specs.declared.names.Direct.TheVariants.{Dual}
use Rattle.relation_list.specs.declared.names.RelName.{RelName}
use Rattle.relation_list.specs.declared.names.RelName.TheVariants.{Plain, Prod}
use Rattle.relation_list.specs.Listings.{listing_of}
use Rattle.relation_list.specs.Names.{direct_weight_of, direct_depth_of, weight_of_name, depth_of_name, is_direct, is_name_of}
use Rattle.relation_list.specs.Values.{direct_value_of, value_of}
use Rattle.relation_list.proofs.NameBounds.{plain-direct, prod-parts}
use Rattle.relation_list.proofs.ProductWords.{held-some, depth-shuffle, shuffle-admissible}
use Rattle.relation_list.proofs.WholeListing.{listing_of-whole}
use Rattle.table_model.specs.MonomialWords.{sum_combination}
use Rattle.table_model.specs.ListedSpan.{value_where, listed_value, relation_count, InSumSpan, InSpanOfAll}
use Rattle.table_model.proofs.SumSpans.{sum_in_span, same_in_span, span_add, sum_span_through}
use Rattle.leading_products.specs.Cofactors.{shuffle_of_sum}
use Rattle.leading_products.proofs.WordTotals.{total-times, total-factor, total_agree, total_held, same-total, total-total, combination-total, combination-factor, total-sum_of}

abbrev Word : Type 0
Word = List Letter

-- the shuffle of three words does not depend on how they are grouped
shuffle_assoc : (f : Word → ℕ) (u v w : Word) → total (λ t. total f (shuffle_of t w)) (shuffle_of u v) ≡ total (λ t. total f (shuffle_of u t)) (shuffle_of v w)
shuffle_assoc f u v w =
    let n : ℕ = length u + length v + length w in
    sym (total-flat_map f (λ t. shuffle_of t w) (shuffle_of u v))
    ∙ prod_associates n shuffle_alphabet (shuffle_laws n) u v w refl refl refl (omega arith) f
    ∙ total-flat_map f (λ t. shuffle_of u t) (shuffle_of v w)

length-shuffle : (u v t : Word) → 0 < sum_of (shuffle_of u v) t → length t ≡ length u + length v
length-shuffle u v t h = let n : ℕ = length u + length v in length-prod n shuffle_alphabet (shuffle_laws n) u v t refl refl (omega arith) h

-- the shuffle of a combination is the combination of the shuffles
pub shuffle_of_sum-combination : (k n : ℕ) (sums : ℕ → Sum) (c : ℕ → ℕ) (u t : Word)
    → shuffle_of_sum k (sum_combination n sums c) u t ≡ sum_combination n (λ i. shuffle_of_sum k (sums i) u) c t
shuffle_of_sum-combination k n sums c u t =
    total_agree (λ w. sum_combination n sums c w * sum_of (shuffle_of w u) t)
    (λ w. sum_combination n (λ i r. sums i w * sum_of (shuffle_of w u) r) c t) (all_words k)
    (λ w. sym (combination-factor n sums c (sum_of (shuffle_of w u) t) w t))
    ∙ sym (combination-total n (λ i w r. sums i w * sum_of (shuffle_of w u) r) c (all_words k) t)

both : (a b : Bool) → a ≡ true → b ≡ true → (a && b) ≡ true
both true true h g = refl
both true false h g = g
both false b h g = h

is_at_most : (k n : ℕ) → k ≤ n → nat_le k n ≡ true
is_at_most k n h = grind (arith, nat_tests)

-- a direct name of weight 3 or more and an admissible word make the name of a product
named-prod : (r : Direct) (u : Word) → is_direct r ≡ true → 3 ≤ direct_weight_of r → is_admissible u ≡ true → direct_weight_of r + length u ≤ 24
    → is_name_of (Prod r u) ≡ true
named-prod r u h heavy a within =
    let formed : (is_direct r && (nat_le 3 (direct_weight_of r) && is_admissible u)) ≡ true =
    both (is_direct r) (nat_le 3 (direct_weight_of r) && is_admissible u) h
    (both (nat_le 3 (direct_weight_of r)) (is_admissible u) (is_at_most 3 (direct_weight_of r) heavy) a) in
    both (is_direct r && (nat_le 3 (direct_weight_of r) && is_admissible u)) (nat_le (direct_weight_of r + length u) 24) formed
    (is_at_most (direct_weight_of r + length u) 24 within)

module _ (m : ℕ) where
  pub same-shuffle_of_sum : (k : ℕ) (s r : Sum) (u : Word) → SameSum m s r → SameSum m (shuffle_of_sum k s u) (shuffle_of_sum k r u)
  same-shuffle_of_sum k s r u e t =
      same-total m (λ w. s w * sum_of (shuffle_of w u) t) (λ w. r w * sum_of (shuffle_of w u) t) (all_words k)
      (λ w. same-mul_right m (s w) (r w) (sum_of (shuffle_of w u) t) (e w))

  -- a sum over words of sums of a span is in the span
  pub total_in_span : (n : ℕ) (sums : ℕ → Sum) (parts : Word → Sum) (ws : List Word) → ((w : Word) → Contains ws w → InSumSpan m n sums (parts w))
      → InSumSpan m n sums (λ t. total (λ w. parts w t) ws)
  total_in_span n sums parts [] h = (λ _. 0, λ t. ap (λ x. x % m) (sym (nothing n t)))
    where
      nothing : (i : ℕ) (t : Word) → sum_combination i sums (λ _. 0) t ≡ 0
      nothing zero t = refl
      nothing (suc i) t = omega (arith, nothing i t)
  total_in_span n sums parts (w ∷ ws) h =
      same_in_span m n sums (λ t. total (λ v. parts v t) (w ∷ ws)) (λ t. 1 * parts w t + 1 * total (λ v. parts v t) ws)
      (λ t. ap (λ x. x % m) (omega arith))
      (span_add m n sums (parts w) (λ t. total (λ v. parts v t) ws) 1 1 (h w (contains_first w ws))
      (total_in_span n sums parts ws (λ v c. h v (contains_later w v ws c))))

  -- the value of a listed name is in the span
  listed_in_span : (w d : ℕ) (name : RelName) → w ≤ 24 → is_name_of name ≡ true → weight_of_name name ≡ w → depth_of_name name ≤ d
      → InSpanOfAll m w d (value_of m name)
  unfolding relation_count listed_value
  listed_in_span w d name within is weighs deep =
      let held : Contains (listing_of w d) name = (listing_of-whole w d name within).1 (is, weighs, deep) in
      let found : slice_get (listing_of w d) held.0 ≡ Some name =
      slice_get-get_or (listing_of w d) held.0 name held.1 ∙ ap (λ n. Some n) held.2 in
      subst (λ o. InSumSpan m (length (listing_of w d)) (listed_value m w d) (value_where m o)) found
      (sum_in_span m (length (listing_of w d)) (listed_value m w d) held.0 held.1)

  prod_in_span : (w d : ℕ) (r : Direct) (u : Word) → w ≤ 24 → is_direct r ≡ true → 3 ≤ direct_weight_of r → is_admissible u ≡ true
      → direct_weight_of r + length u ≡ w → direct_depth_of r + depth_of u ≤ d → InSpanOfAll m w d (value_of m (Prod r u))
  prod_in_span w d r u within h heavy a weighs deep = listed_in_span w d (Prod r u) within (named-prod r u h heavy a (omega arith)) weighs deep

  -- a product with u, shuffled with v, is the sum of the products with the words of the shuffle of u and v
  shuffle_of_sum-prod : (r : Direct) (u v t : Word)
      → shuffle_of_sum (direct_weight_of r + length u) (value_of m (Prod r u)) v t ≡ total (λ y. value_of m (Prod r y) t) (shuffle_of u v)
  shuffle_of_sum-prod r u v t =
      let k : ℕ = direct_weight_of r in
      let s : Sum = direct_value_of m r in
      let all : List Word = all_words (k + length u) in
      let through : Word → Word → ℕ = λ x w. sum_of (shuffle_of x u) w * sum_of (shuffle_of w v) t in
      total_agree (λ w. total (λ x. s x * sum_of (shuffle_of x u) w) (all_words k) * sum_of (shuffle_of w v) t)
      (λ w. total (λ x. s x * through x w) (all_words k)) all
      (λ w. sym (total-factor (sum_of (shuffle_of w v) t) (λ x. s x * sum_of (shuffle_of x u) w) (all_words k))
      ∙ total_agree (λ x. s x * sum_of (shuffle_of x u) w * sum_of (shuffle_of w v) t) (λ x. s x * through x w) (all_words k) (λ x. omega arith))
      ∙ total-total (λ w x. s x * through x w) all (all_words k)
      ∙ total_held (λ x. total (λ w. s x * through x w) all) (λ x. total (λ y. s x * sum_of (shuffle_of x y) t) (shuffle_of u v)) (all_words k)
      (λ x held. total-times (s x) (through x) all
      ∙ ap (λ n. s x * n) (grouped x held)
      ∙ sym (total-times (s x) (λ y. sum_of (shuffle_of x y) t) (shuffle_of u v)))
      ∙ total-total (λ x y. s x * sum_of (shuffle_of x y) t) (all_words k) (shuffle_of u v)
    where
      grouped : (x : Word) → Contains (all_words (direct_weight_of r)) x
          → total (λ w. sum_of (shuffle_of x u) w * sum_of (shuffle_of w v) t) (all_words (direct_weight_of r + length u))
          ≡ total (λ y. sum_of (shuffle_of x y) t) (shuffle_of u v)
      grouped x held =
          let weighs : length x ≡ direct_weight_of r =
          All-contains (λ w. length w ≡ direct_weight_of r) (all_words (direct_weight_of r)) x (length-all_words (direct_weight_of r)) held in
          total-sum_of (direct_weight_of r + length u) (λ w. sum_of (shuffle_of w v) t) (shuffle_of x u)
          (λ w p. length-shuffle x u w p ∙ ap (λ n. n + length u) weighs)
          ∙ shuffle_assoc (λ z. single z t) x u v

  module _ (k e w d : ℕ) (u : Word) (heavy : 3 ≤ k) (within : w ≤ 24) (a : is_admissible u ≡ true) (weighs : k + length u ≡ w)
      (deep : e + depth_of u ≤ d) where
    -- a listed relation, shuffled with the word
    name_times_word : (name : RelName) → is_name_of name ≡ true → weight_of_name name ≡ k → depth_of_name name ≤ e
        → InSpanOfAll m w d (shuffle_of_sum k (value_of m name) u)
    name_times_word (Plain r) is weight depth =
        subst (λ n. InSpanOfAll m w d (shuffle_of_sum n (direct_value_of m r) u)) weight
        (prod_in_span w d r u within (plain-direct (Plain r) r is refl) (omega arith) a (omega arith) (omega arith))
    name_times_word (Prod r v) is weight depth =
        let parts : (is_direct r ≡ true) × (3 ≤ direct_weight_of r) × (is_admissible v ≡ true) = prod-parts (Prod r v) r v is refl in
        subst (λ n. InSpanOfAll m w d (shuffle_of_sum n (value_of m (Prod r v)) u)) weight
        (same_in_span m (relation_count w d) (listed_value m w d) (shuffle_of_sum (direct_weight_of r + length v) (value_of m (Prod r v)) u)
        (λ t. total (λ y. value_of m (Prod r y) t) (shuffle_of v u)) (λ t. ap (λ x. x % m) (shuffle_of_sum-prod r v u t))
        (total_in_span (relation_count w d) (listed_value m w d) (λ y. value_of m (Prod r y)) (shuffle_of v u)
        (λ y held. let p : 0 < sum_of (shuffle_of v u) y = held-some (shuffle_of v u) y held in
        prod_in_span w d r y within parts.0 parts.1 (shuffle-admissible v u y parts.2 a p) (omega (arith, length-shuffle v u y p))
        (omega (arith, depth-shuffle v u y p)))))

    number_times_word : (n : ℕ) → n < relation_count k e → InSpanOfAll m w d (shuffle_of_sum k (listed_value m k e n) u)
    unfolding relation_count listed_value
    number_times_word n l =
        let names : List RelName = listing_of k e in
        let name : RelName = get_or names n (Plain (Dual [])) in
        let found : slice_get names n ≡ Some name = slice_get-get_or names n (Plain (Dual [])) l in
        let is = (listing_of-whole k e name (omega arith)).0 (Contains-get_or names n (Plain (Dual [])) l) in
        subst (λ o. InSpanOfAll m w d (shuffle_of_sum k (value_where m o) u)) (sym found) (name_times_word name is.0 is.1 is.2)

    -- the product of a sum of the span with the word is in the span of the listed relations of the higher weight
    pub products_stay_in_span : (s : Sum) → InSpanOfAll m k e s → InSpanOfAll m w d (shuffle_of_sum k s u)
    products_stay_in_span s (c, is) =
        sum_span_through m (relation_count k e) (relation_count w d) (λ n. shuffle_of_sum k (listed_value m k e n) u) (listed_value m w d)
        number_times_word (shuffle_of_sum k s u) (
          c,
          λ t.
              same-shuffle_of_sum k s (sum_combination (relation_count k e) (listed_value m k e) c) u is t
              ∙ ap (λ x. x % m) (shuffle_of_sum-combination k (relation_count k e) (listed_value m k e) c u t),
        )
