-- Terms whose words are in order and differ increase.
use Rattle.std.proofs.Common.{◌≡◌, ℕ, zero, suc, ◌+◌, ◌<◌, false, List, [], ◌∷◌, length, slice_index_or, Ordering, Less, Equal, Greater, refl, ap, subst, ◌∙◌, arith}
use Rattle.std.specs.List.{IsDistinct}
use Rattle.std.specs.List.Sorted.{IsPermutation, IsSortedByKey, IsStrictlySortedBy}
use Rattle.std.specs.Map.{keys_of}
use Rattle.std.specs.Ordering.{is_lt, is_eq, ordering_reverse}
use Rattle.std.proofs.lemmas.List.Sorted.{IsPermutation-map}
use Rattle.std.proofs.lemmas.Map.Keys.{IsDistinct-IsPermutation, apart_from_distinct, sorted_from_all_adjacent}
use Rattle.word_letters.specs.Order.{word_cmp_total, word_eq_equiv}
use Rattle.zeta_model.specs.declared.Letter.{Letter}
use Rattle.zeta_model.specs.Sums.{same_word}
use Rattle.zeta_model.specs.Words.{word_cmp}

-- words that are not the other way round and differ increase
less : (u v : List Letter) → is_lt (word_cmp v u) ≡ false → same_word u v ≡ false → word_cmp u v ≡ Less
less u v not_back differ = go (word_cmp u v) (word_cmp v u) not_back differ (word_cmp_total.antisymm u v)
  where
    go : (p q : Ordering) → is_lt q ≡ false → is_eq p ≡ false → p ≡ ordering_reverse q → p ≡ Less
    go Less q l s e = refl
    go Equal q l s e = cc
    go Greater Less l s e = cc
    go Greater Equal l s e = cc
    go Greater Greater l s e = cc

module _ {E : Type 0} where
  length-keys_of : (es : List (List Letter × E)) → length (keys_of es) ≡ length es
  length-keys_of [] = refl
  length-keys_of (e ∷ es) = ap suc (length-keys_of es)

  word_at : (es : List (List Letter × E)) (k : ℕ) (d : List Letter × E) → k < length es → slice_index_or (keys_of es) k [] ≡ (slice_index_or es k d).0
  word_at [] k d h = absurd (omega arith)
  word_at (e ∷ es) zero d h = refl
  word_at (e ∷ es) (suc k) d h = word_at es k d (omega arith)

  neighbours : (es : List (List Letter × E)) (d : List Letter × E) → IsDistinct same_word (keys_of es) → IsSortedByKey (λ e. e.0) word_cmp es
      → (k : ℕ) → k + 1 < length (keys_of es) → word_cmp (slice_index_or (keys_of es) k []) (slice_index_or (keys_of es) (k + 1) []) ≡ Less
  neighbours es d apart up k h =
      let within : k + 1 < length es = subst (λ n. k + 1 < n) (length-keys_of es) h in
      let first = word_at es k d (omega arith) in
      let second = word_at es (k + 1) d within in
      less (slice_index_or (keys_of es) k []) (slice_index_or (keys_of es) (k + 1) [])
      ((λ i. is_lt (word_cmp (second i) (first i))) ∙ up k d (omega arith) within)
      (apart_from_distinct same_word (keys_of es) k (k + 1) [] apart (omega arith) h)

  increasing : (es : List (List Letter × E)) → IsDistinct same_word (keys_of es) → IsSortedByKey (λ e. e.0) word_cmp es
      → IsStrictlySortedBy word_cmp (keys_of es)
  increasing [] apart up = sorted_from_all_adjacent word_cmp_total [] [] (λ k h. absurd (omega (arith, h)))
  increasing (e ∷ es) apart up = sorted_from_all_adjacent word_cmp_total (keys_of (e ∷ es)) [] (neighbours (e ∷ es) e apart up)

  pub increasing-IsPermutation : (es fs : List (List Letter × E)) → IsPermutation es fs → IsDistinct same_word (keys_of es)
      → IsSortedByKey (λ e. e.0) word_cmp fs → IsStrictlySortedBy word_cmp (keys_of fs)
  increasing-IsPermutation es fs moved apart up =
      increasing fs (IsDistinct-IsPermutation same_word word_eq_equiv.symm (keys_of es) (keys_of fs) (IsPermutation-map (λ e. e.0) es fs moved) apart) up
