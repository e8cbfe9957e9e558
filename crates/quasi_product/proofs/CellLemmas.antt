-- The terms of a product, made of those of the products without first letters.
use Rattle.std.proofs.Common.{◌≡◌, ℕ, ◌+◌, ◌*◌, ◌%◌, ◌<◌, ◌≤◌, Bool, true, Some, None, List, [], ◌∷◌, ◌++◌, length, sym, ap, subst, ◌∙◌, arith}
use Rattle.std.specs.Prelude.{All}
use Rattle.std.specs.Map.{keys_of}
use Rattle.std.proofs.lemmas.List.Elements.{All-push}
use Rattle.zeta_model.specs.declared.Letter.{Letter}
use Rattle.zeta_model.specs.Modular.{Same}
use Rattle.zeta_model.specs.Product.{Alphabet, AlphabetLaws, rest, behind, prod, total}
use Rattle.zeta_model.proofs.ModularLemmas.{same-add}
use Rattle.zeta_model.proofs.Totals.{total-map}
use Rattle.zeta_model.proofs.ProductTotals.{total_step, first_shorter}
use Rattle.quasi_product.specs.Inner.{FitBehind, IsMerged, IsCell}
use Rattle.zeta_model.specs.Sums.{weighted}

abbrev Word : Type 0
Word = List Letter

-- k times the number of places, where one word stands once
pub cell_one : {E : Type 0} (has : E → Bool) (value : E → ℕ) (m n : ℕ) (c : E) (w : Word) (terms : List (Word × E)) (words : List Word)
    → terms ≡ (w, c) ∷ [] → words ≡ w ∷ [] → has c ≡ true → length w ≤ n → IsCell has value m (value c) n terms words
cell_one has value m n c w terms words is words_are has_c fits =
    subst (λ ts. IsCell has value m (value c) n ts words) (sym is) (subst (IsCell has value m (value c) n ((w, c) ∷ [])) (sym words_are) (record {
      in_ring = All-push (λ e. has e ≡ true) [] c (λ k d h. absurd (omega arith)) has_c;
      within = All-push (λ v. length v ≤ n) [] w (λ k d h. absurd (omega arith)) fits;
      counts = λ f. ap (λ x. x % m) (omega arith);
    }))

-- words before which a front fits
pub cell_fits : {E : Type 0} (has : E → Bool) (value : E → ℕ) (m k j n : ℕ) (a : Word) (terms : List (Word × E)) (words : List Word) → length a + j ≤ n
    → IsCell has value m k j terms words → FitBehind n a terms
cell_fits has value m k j n a terms words h cell = λ i d l. omega (arith, cell.within i d l)

module _ (L : Alphabet) (laws : AlphabetLaws 24 L) (u v a b : Word) (cu : L.covered u ≡ true) (cv : L.covered v ≡ true) (pu : 0 < length u)
    (pv : 0 < length v) (h : length u + length v ≤ 24) (first_u : a ≡ L.first u) (first_v : b ≡ L.first v) where
  pub length_u : length a + length (rest L u) ≡ length u
  length_u = let s = first_shorter 24 L laws u cu pu (omega arith) in ap (λ w. length w + length (rest L u)) first_u ∙ s.1

  pub length_v : length b + length (rest L v) ≡ length v
  length_v = let s = first_shorter 24 L laws v cv pv (omega arith) in ap (λ w. length w + length (rest L v)) first_v ∙ s.1

module _ {E : Type 0} (has : E → Bool) (value : E
    → ℕ) (m k : ℕ) (L : Alphabet) (laws : AlphabetLaws 24 L) (u v a b : Word) (cu : L.covered u ≡ true) (cv : L.covered v ≡ true) (pu : 0 < length u)
    (pv : 0 < length v) (h : length u + length v ≤ 24) (first_u : a ≡ L.first u) (first_v : b ≡ L.first v) where
  -- the two groups of the product that begin with a letter of u or of v
  pub record Two (xs ys two : List (Word × E)) : Type 0 where
    pub left : IsCell has value m k (length (rest L u) + length v) xs (prod L (rest L u) v)
    pub right : IsCell has value m k (length u + length (rest L v)) ys (prod L u (rest L v))
    pub merged : IsMerged has value m a xs b ys two

  two_counts : (xs ys two : List (Word × E)) → Two xs ys two → (f : Word → ℕ)
      → Same m (weighted value f two)
      (k * total (λ w. f (L.first u ++ w)) (prod L (rest L u) v) + k * total (λ w. f (L.first v ++ w)) (prod L u (rest L v)))
  two_counts xs ys two t f =
      t.merged.counts f
      ∙ same-add m _ (k * total (λ w. f (a ++ w)) (prod L (rest L u) v)) _ (k * total (λ w. f (b ++ w)) (prod L u (rest L v)))
      (t.left.counts (λ w. f (a ++ w))) (t.right.counts (λ w. f (b ++ w)))
      ∙ (λ i. (k * total (λ w. f (first_u i ++ w)) (prod L (rest L u) v) + k * total (λ w. f (first_v i ++ w)) (prod L u (rest L v))) % m)

  pub two_within : (xs ys two : List (Word × E)) → Two xs ys two → All (λ w. length w ≤ length u + length v) (keys_of two)
  two_within xs ys two t =
      t.merged.within (length u + length v)
      (cell_fits has value m k _ (length u + length v) a xs _ (omega (arith, length_u L laws u v a b cu cv pu pv h first_u first_v)) t.left)
      (cell_fits has value m k _ (length u + length v) b ys _ (omega (arith, length_v L laws u v a b cu cv pu pv h first_u first_v)) t.right)

  pub cell_two : (xs ys two : List (Word × E)) → Two xs ys two → None ≡ L.joined a b → IsCell has value m k (length u + length v) two (prod L u v)
  cell_two xs ys two t none = record {
    in_ring = t.merged.in_ring;
    within = two_within xs ys two t;
    counts = λ f.
        let p : ℕ = total (λ w. f (L.first u ++ w)) (prod L (rest L u) v) in
        let q : ℕ = total (λ w. f (L.first v ++ w)) (prod L u (rest L v)) in
        let nothing : 0 ≡ total f (behind (L.joined (L.first u) (L.first v)) (prod L (rest L u) (rest L v))) =
        (λ i. total f (behind (none i) (prod L (rest L u) (rest L v))))
        ∙ (λ i. total f (behind (L.joined (first_u i) (first_v i)) (prod L (rest L u) (rest L v)))) in
        let whole : p + q + 0 ≡ total f (prod L u v) = (λ i. p + q + nothing i) ∙ sym (total_step 24 L laws f u v cu cv pu pv h) in
        let times : k * p + k * q ≡ k * (p + q + 0) = grind arith in
        two_counts xs ys two t f ∙ ap (λ n. n % m) times ∙ ap (λ n. k * n % m) whole;
  }

  pub cell_three : (xs ys zs two three : List (Word × E)) (z e : Word) → Two xs ys two → Some z ≡ L.joined a b → length z ≡ length a + length b
      → IsCell has value m k (length (rest L u) + length (rest L v)) zs (prod L (rest L u) (rest L v))
      → e ≡ [] → IsMerged has value m e two z zs three → IsCell has value m k (length u + length v) three (prod L u v)
  cell_three xs ys zs two three z e t some length_z both empty merged_three = record {
    in_ring = merged_three.in_ring;
    within = merged_three.within (length u + length v)
        (λ i d l. omega (arith, ap length empty, two_within xs ys two t i d l))
        (cell_fits has value m k _ (length u + length v) z zs _
        (omega (arith, length_u L laws u v a b cu cv pu pv h first_u first_v, length_v L laws u v a b cu cv pu pv h first_u first_v, length_z)) both);
    counts = λ f.
        let p : ℕ = total (λ w. f (L.first u ++ w)) (prod L (rest L u) v) in
        let q : ℕ = total (λ w. f (L.first v ++ w)) (prod L u (rest L v)) in
        let r : ℕ = total (λ w. f (z ++ w)) (prod L (rest L u) (rest L v)) in
        let joined : r ≡ total f (behind (L.joined (L.first u) (L.first v)) (prod L (rest L u) (rest L v))) =
        sym (total-map f (λ w. z ++ w) (prod L (rest L u) (rest L v))) ∙ (λ i. total f (behind (some i) (prod L (rest L u) (rest L v))))
        ∙ (λ i. total f (behind (L.joined (first_u i) (first_v i)) (prod L (rest L u) (rest L v)))) in
        let whole : p + q + r ≡ total f (prod L u v) = (λ i. p + q + joined i) ∙ sym (total_step 24 L laws f u v cu cv pu pv h) in
        let times : k * p + k * q + k * r ≡ k * (p + q + r) = grind arith in
        merged_three.counts f
        ∙ (λ i. (weighted value (λ w. f (empty i ++ w)) two + weighted value (λ w. f (z ++ w)) zs) % m)
        ∙ same-add m (weighted value f two) (k * p + k * q) _ (k * r) (two_counts xs ys two t f) (both.counts (λ w. f (z ++ w)))
        ∙ ap (λ n. n % m) times ∙ ap (λ n. k * n % m) whole;
  }
