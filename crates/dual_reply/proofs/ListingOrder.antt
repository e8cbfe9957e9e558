-- Terms of different words that are sorted by weight and then by word stand in the order in which they are printed.
use Rattle.std.proofs.Common.{◌≡◌, ℕ, ◌+◌, ◌<◌, false, List, [], ◌∷◌, length, get_or, Ordering, Less, Equal, Greater, refl, sym, subst, ◌∙◌, arith}
use Rattle.std.specs.List.{IsDistinct}
use Rattle.std.specs.List.Sorted.{IsPermutation, IsSortedByKey, IsStrictlySortedBy}
use Rattle.std.specs.Map.{keys_of}
use Rattle.std.specs.Ordering.{is_lt, is_eq, nat_cmp, ordering_reverse, ordering_then}
use Rattle.std.proofs.Math.ListN.{get_or-map}
use Rattle.std.proofs.lemmas.List.Sorted.{IsPermutation-map}
use Rattle.std.proofs.lemmas.Map.Entries.{length-keys_of}
use Rattle.std.proofs.lemmas.Map.Keys.{IsDistinct-IsPermutation, apart_from_distinct, sorted_from_all_adjacent}
use Rattle.word_letters.specs.Order.{word_eq_equiv}
use Rattle.zeta_model.specs.declared.Letter.{Letter}
use Rattle.zeta_model.specs.Sums.{same_word}
use Rattle.zeta_model.specs.Words.{word_cmp}
use Rattle.dual_reply.specs.Listing.{listing_cmp}
use Rattle.dual_reply.proofs.ListingLemmas.{listing_cmp_total}

abbrev W : Type 0
W = List Letter

-- words that are not the other way round and differ increase
less : (u v : W) → is_lt (listing_cmp v u) ≡ false → same_word u v ≡ false → listing_cmp u v ≡ Less
less u v not_back differ =
    go (listing_cmp u v) (listing_cmp v u) not_back (apart (nat_cmp (length u) (length v)) (word_cmp u v) differ) (listing_cmp_total.antisymm u v)
  where
    apart : (o q : Ordering) → is_eq q ≡ false → is_eq (ordering_then o q) ≡ false
    apart Less q e = refl
    apart Equal q e = e
    apart Greater q e = refl

    go : (p q : Ordering) → is_lt q ≡ false → is_eq p ≡ false → p ≡ ordering_reverse q → p ≡ Less
    go Less q l s e = refl
    go Equal q l s e = cc
    go Greater Less l s e = cc
    go Greater Equal l s e = cc
    go Greater Greater l s e = cc

-- what the terms are sorted by
abbrev pub by_weight : (ℕ × W) → (ℕ × W) → Ordering
by_weight x y = ordering_then (nat_cmp x.0 y.0) (word_cmp x.1 y.1)

module _ {E : Type 0} where
  neighbours : (es fs : List (W × E)) (d : W × E) → IsDistinct same_word (keys_of es) → IsPermutation es fs
      → IsSortedByKey (λ e. (length e.0, e.0)) by_weight fs
      → (k : ℕ) → k + 1 < length fs → listing_cmp (get_or fs k d).0 (get_or fs (k + 1) d).0 ≡ Less
  neighbours es fs d once moved up k h = less (get_or fs k d).0 (get_or fs (k + 1) d).0 (up k d (omega arith) h) differ
    where
      differ : same_word (get_or fs k d).0 (get_or fs (k + 1) d).0 ≡ false
      differ =
          (λ i. same_word (sym (get_or-map (λ e. e.0) fs k d) i) (sym (get_or-map (λ e. e.0) fs (k + 1) d) i))
          ∙ apart_from_distinct same_word (keys_of fs) k (k + 1) d.0
          (IsDistinct-IsPermutation same_word word_eq_equiv.symm (keys_of es) (keys_of fs) (IsPermutation-map (λ e. e.0) es fs moved) once)
          (omega arith) (subst (λ n. k + 1 < n) (sym (length-keys_of fs)) h)

  pub increasing-by_weight : (es fs : List (W × E)) → IsDistinct same_word (keys_of es) → IsPermutation es fs
      → IsSortedByKey (λ e. (length e.0, e.0)) by_weight fs → IsStrictlySortedBy listing_cmp (keys_of fs)
  increasing-by_weight es [] once moved up = sorted_from_all_adjacent listing_cmp_total [] [] (λ k h. absurd (omega (arith, h)))
  increasing-by_weight es (e ∷ fs) once moved up =
      sorted_from_all_adjacent listing_cmp_total (keys_of (e ∷ fs)) e.0 (λ k h.
      (λ i. listing_cmp (get_or-map (λ f. f.0) (e ∷ fs) k e i) (get_or-map (λ f. f.0) (e ∷ fs) (k + 1) e i))
      ∙ neighbours es (e ∷ fs) e once moved up k (subst (λ n. k + 1 < n) (length-keys_of (e ∷ fs)) h))
