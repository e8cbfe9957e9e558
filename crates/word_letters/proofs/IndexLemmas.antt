-- An index with no zero and its word determine each other, and so do a word that has an index and its text.
use Rattle.std.proofs.Common.{◌≡◌, ℕ, zero, suc, ◌+◌, ◌<◌, ◌≤◌, true, List, [], ◌∷◌, ◌++◌, length, sum, All, refl, sym, ap, ◌∙◌, arith, Option, Some, None, subst}
use Rattle.std.proofs.lemmas.List.{length-append}
use Rattle.std.proofs.lemmas.List.Elements.{All-nil, All-cons, All-head, All-tail}
use Rattle.std.proofs.lemmas.List.Sums.{sum_by-cons}
use Rattle.std.proofs.lemmas.List.Concat.{flat_map-cons}
use Rattle.zeta_model.specs.declared.Letter.{Letter}
use Rattle.zeta_model.specs.declared.Letter.TheVariants.{X, Y}
use Rattle.zeta_model.specs.Words.{depth_of, ends_with_y, has_index}
use Rattle.zeta_model.specs.Indices.{z_word, word_of_index, index_from, index_of, word_text}
use Rattle.zeta_model.proofs.DepthLemmas.{depth_of-append, depth_of-z_word}
pub use Rattle.zeta_model.proofs.WordLemmas.{has_index-ends}
use Rattle.word_letters.specs.declared.parse.Place.{Place}
use Rattle.word_letters.specs.declared.parse.Place.TheVariants.{End}
use Rattle.word_letters.specs.IndexText.{IsIndexText}
use Rattle.word_letters.proofs.Indices.{length-z_word}
use Rattle.word_letters.proofs.Reading.{index_text-injective, read-index_text}

pub word_of_index-cons : (k : ℕ) (ks : List ℕ) → word_of_index (k ∷ ks) ≡ z_word k ++ word_of_index ks
word_of_index-cons k ks = flat_map-cons z_word k ks

pub length-word_of_index : (ks : List ℕ) → length (word_of_index ks) ≡ sum ks
length-word_of_index [] = refl
length-word_of_index (k ∷ ks) = omega (
  arith,
  ap length (word_of_index-cons k ks),
  length-append (z_word k) (word_of_index ks),
  length-z_word k,
  length-word_of_index ks,
  sum_by-cons
      (λ j. j) k ks,
)

pub depth_of-word_of_index : (ks : List ℕ) → All (λ k. 0 < k) ks → depth_of (word_of_index ks) ≡ length ks
depth_of-word_of_index [] h = refl
depth_of-word_of_index (k ∷ ks) h =
    let some : 0 < k = All-head (λ j. 0 < j) k ks h in
    let rest : All (λ j. 0 < j) ks = All-tail (λ j. 0 < j) k ks h in
    omega (
      arith,
      ap depth_of (word_of_index-cons k ks),
      depth_of-append (z_word k)
          (word_of_index ks),
      depth_of-z_word k some,
      depth_of-word_of_index ks rest,
    )

-- a word behind z_k gives the index that begins with k
index_from-z_word : (j k : ℕ) (w : List Letter) → index_from j (z_word (suc k) ++ w) ≡ (j + k) ∷ index_from 1 w
index_from-z_word j zero w = let e : j ≡ j + 0 = omega arith in ap (λ n. n ∷ index_from 1 w) e
index_from-z_word j (suc k) w =
    let e : j + 1 + k ≡ j + suc k = omega arith in
    index_from-z_word (j + 1) k w ∙ ap (λ n. n ∷ index_from 1 w) e

pub index_of-word_of_index : (ks : List ℕ) → All (λ k. 0 < k) ks → index_of (word_of_index ks) ≡ ks
index_of-word_of_index [] h = refl
index_of-word_of_index (zero ∷ ks) h = let some : 0 < 0 = All-head (λ j. 0 < j) zero ks h in absurd (omega arith)
index_of-word_of_index (suc k ∷ ks) h =
    let rest : All (λ j. 0 < j) ks = All-tail (λ j. 0 < j) (suc k) ks h in
    let e : 1 + k ≡ suc k = omega arith in
    ap index_of (word_of_index-cons (suc k) ks) ∙ index_from-z_word 1 k (word_of_index ks) ∙ (λ i. e i ∷ index_of-word_of_index ks rest i)

pub positive-index_from : (k : ℕ) (w : List Letter) → 0 < k → All (λ n. 0 < n) (index_from k w)
positive-index_from k [] h = All-nil (λ n. 0 < n)
positive-index_from k (X ∷ w) h = positive-index_from (k + 1) w (omega arith)
positive-index_from k (Y ∷ w) h = All-cons (λ n. 0 < n) k (index_from 1 w) h (positive-index_from 1 w (omega arith))

-- k letters x before a word
behind_x : ℕ → List Letter → List Letter
behind_x zero w = w
behind_x (suc k) w = X ∷ behind_x k w

behind_x-more : (k : ℕ) (w : List Letter) → behind_x (suc k) w ≡ behind_x k (X ∷ w)
unfolding behind_x
behind_x-more zero w = refl
behind_x-more (suc k) w = ap (λ v. X ∷ v) (behind_x-more k w)

z_word-behind : (k : ℕ) (w : List Letter) → z_word (suc k) ++ w ≡ behind_x k (Y ∷ w)
unfolding behind_x
z_word-behind zero w = refl
z_word-behind (suc k) w = ap (λ v. X ∷ v) (z_word-behind k w)

word_of_index-from : (k : ℕ) (w : List Letter) → ends_with_y w ≡ true → word_of_index (index_from (suc k) w) ≡ behind_x k w
unfolding behind_x
word_of_index-from k [] h = cc
word_of_index-from k (X ∷ []) h = cc
word_of_index-from k (Y ∷ []) h = word_of_index-cons (suc k) [] ∙ z_word-behind k []
word_of_index-from k (X ∷ b ∷ w) h =
    let e : suc k + 1 ≡ suc (suc k) = omega arith in
    ap (λ n. word_of_index (index_from n (b ∷ w))) e ∙ word_of_index-from (suc k) (b ∷ w) h ∙ behind_x-more k (b ∷ w)
word_of_index-from k (Y ∷ b ∷ w) h =
    word_of_index-cons (suc k) (index_from 1 (b ∷ w)) ∙ ap (λ v. z_word (suc k) ++ v) (word_of_index-from 0 (b ∷ w) h) ∙ z_word-behind k (b ∷ w)

pub word_of_index-index_of : (w : List Letter) → has_index w ≡ true → word_of_index (index_of w) ≡ w
unfolding behind_x
word_of_index-index_of [] h = refl
word_of_index-index_of (a ∷ w) h = word_of_index-from 0 (a ∷ w) h

-- two words with one index are the same
pub index_of-injective : (u v : List Letter) → has_index u ≡ true → has_index v ≡ true → index_of u ≡ index_of v → u ≡ v
index_of-injective u v hu hv e = sym (word_of_index-index_of u hu) ∙ ap word_of_index e ∙ word_of_index-index_of v hv

AreSmall-index_from : (k : ℕ) (w : List Letter) → k + length w ≤ 9999 → All (λ n. n ≤ 9999) (index_from k w)
AreSmall-index_from k [] h = All-nil (λ n. n ≤ 9999)
AreSmall-index_from k (X ∷ w) h = AreSmall-index_from (k + 1) w (omega arith)
AreSmall-index_from k (Y ∷ w) h = All-cons (λ n. n ≤ 9999) k (index_from 1 w) (omega arith) (AreSmall-index_from 1 w (omega arith))

some-index_from : (k : ℕ) (w : List Letter) → ends_with_y w ≡ true → 0 < length (index_from k w)
some-index_from k [] h = cc
some-index_from k (X ∷ []) h = cc
some-index_from k (Y ∷ w) h = omega arith
some-index_from k (X ∷ b ∷ w) h = some-index_from (k + 1) (b ∷ w) h

-- the text of a word that ends with y is the text of its index
pub IsIndexText-word_text : (w : List Letter) → length w ≤ 24 → ends_with_y w ≡ true → IsIndexText (word_text w) (index_of w)
IsIndexText-word_text w h e =
    record { some = some-index_from 1 w e; small = AreSmall-index_from 1 w (omega arith); text = refl }

one_text : (u v : List Letter) → length u ≤ 24 → length v ≤ 24 → ends_with_y u ≡ true → ends_with_y v ≡ true → word_text u ≡ word_text v → u ≡ v
one_text u v hu hv eu ev e =
    let second : IsIndexText (word_text u) (index_of v) = subst (λ t. IsIndexText t (index_of v)) (sym e) (IsIndexText-word_text v hv ev) in
    index_of-injective u v (has_index-ends u eu) (has_index-ends v ev)
    (index_text-injective (word_text u) (index_of u) (index_of v) (IsIndexText-word_text u hu eu) second)

-- `z()` is not the text of a word that ends with y
empty_text : (v : List Letter) → length v ≤ 24 → ends_with_y v ≡ true → word_text [] ≡ word_text v → ⊥
empty_text v h ev e =
    let t : IsIndexText (word_text []) (index_of v) = subst (λ t. IsIndexText t (index_of v)) (sym e) (IsIndexText-word_text v h ev) in
    let N : Option (Place × List ℕ) = None in
    let both : N ≡ Some (End, index_of v) = read-index_text (word_text []) (index_of v) t in
    cc

-- two words that have an index, and one text, are the same
pub word_text-injective : (u v : List Letter) → length u ≤ 24 → length v ≤ 24 → has_index u ≡ true → has_index v ≡ true → word_text u ≡ word_text v → u ≡ v
word_text-injective [] [] hu hv eu ev e = refl
word_text-injective [] (b ∷ v) hu hv eu ev e = absurd (empty_text (b ∷ v) hv ev e)
word_text-injective (a ∷ u) [] hu hv eu ev e = absurd (empty_text (a ∷ u) hu eu (sym e))
word_text-injective (a ∷ u) (b ∷ v) hu hv eu ev e = one_text (a ∷ u) (b ∷ v) hu hv eu ev e
