-- The folded sum term by term, and the listing that its terms make.
use Rattle.std.proofs.Common.{◌≡◌, ℕ, ◌+◌, ◌-◌, ◌*◌, ◌%◌, ◌<◌, ◌≤◌, true, ltb, List, [], ◌∷◌, ◌++◌, length, take, get_or, All, sym, ap, ◌∙◌}
use Rattle.std.proofs.Common.{mod-eq_of_lt, arith}
use Rattle.std.specs.Prelude.{◌≢◌}
use Rattle.std.specs.List.{AllByRecursion}
use Rattle.std.specs.List.Sorted.{IsPermutation, IsStrictlySortedBy}
use Rattle.std.specs.Map.{keys_of, values_of}
use Rattle.std.proofs.lemmas.Bool.{ltb-true}
use Rattle.std.proofs.lemmas.List.{take_more, map-append}
use Rattle.std.proofs.lemmas.List.Elements.{All-head, All-tail}
use Rattle.std.proofs.lemmas.List.Sorted.{All-permutation, IsPermutation-map}
use Rattle.zeta_model.specs.declared.Letter.{Letter}
use Rattle.zeta_model.specs.Duality.{representative_of}
use Rattle.zeta_model.specs.Sums.{single, continued}
use Rattle.zeta_model.proofs.ModularLemmas.{same-add_right, same-mod}
use Rattle.zeta_model.proofs.SumLemmas.{continued-append}
use Rattle.word_sums.specs.Terms.{coefficient_of, AllIn}
use Rattle.word_sums.proofs.KnownTerms.{coefficient_of-IsPermutation}
use Rattle.dual_reply.specs.Sums.{sign_number, numbers_of, folded_sum}
use Rattle.dual_reply.specs.Listing.{Entry, listing_cmp, IsListing}
use Rattle.dual_reply.specs.declared.words.Signed.{Signed}

abbrev W : Type 0
W = List Letter

-- the opposite of 1
pub opposite_of_one : (m v : ℕ) → 3 ≤ m → v ≡ 1 → (m - v) % m ≡ m - 1
opposite_of_one m v low one = ap (λ n. (m - n) % m) one ∙ mod-eq_of_lt (omega arith)

numbers_of-take_more : (m : ℕ) (ts : List Signed) (i : ℕ) (s : Signed) → i < length ts → s ≡ get_or ts i s
    → numbers_of m (take (i + 1) ts) ≡ numbers_of m (take i ts) ++ (sign_number m s.negative, s.word) ∷ []
numbers_of-take_more m ts i s l is =
    ap (numbers_of m) (take_more ts i s l) ∙ map-append (λ t. (sign_number m t.negative, t.word)) (take i ts) (get_or ts i s ∷ [])
    ∙ ap (λ t. numbers_of m (take i ts) ++ (sign_number m t.negative, t.word) ∷ []) (sym is)

folded_sum-take_more : (m : ℕ) (ts : List Signed) (i : ℕ) (s : Signed) (t : W) → i < length ts → s ≡ get_or ts i s
    → folded_sum m (take (i + 1) ts) t ≡ folded_sum m (take i ts) t + sign_number m s.negative * single (representative_of s.word) t
folded_sum-take_more m ts i s t l is =
    let f = λ (w : W). single (representative_of w) in
    let x = sign_number m s.negative * single (representative_of s.word) t in
    let one : x + 0 ≡ x = omega arith in
    ap (λ cs. continued f cs t) (numbers_of-take_more m ts i s l is)
    ∙ continued-append f (numbers_of m (take i ts)) ((sign_number m s.negative, s.word) ∷ []) t ∙ ap (λ n. folded_sum m (take i ts) t + n) one

-- one term more: the sum has had this coefficient, and gains n times the word u
pub folded_more : (m : ℕ) (ts : List Signed) (i : ℕ) (s : Signed) (t u : W) (before after n : ℕ) → i < length ts → s ≡ get_or ts i s
    → u ≡ representative_of s.word → n ≡ sign_number m s.negative
    → before ≡ folded_sum m (take i ts) t % m → after ≡ (before + n * single u t) % m → after ≡ folded_sum m (take (i + 1) ts) t % m
folded_more m ts i s t u before after n l is word number had gains =
    let f = folded_sum m (take i ts) t in
    let x = sign_number m s.negative * single (representative_of s.word) t in
    gains ∙ (λ i. (had i + number i * single (word i) t) % m) ∙ same-add_right m (f % m) f x (same-mod m f)
    ∙ ap (λ k. k % m) (sym (folded_sum-take_more m ts i s t l is))

reduced : (m : ℕ) (es : List Entry) → All (λ a. a ≢ 0) (values_of es) → AllIn (λ a. ltb a m) es → AllByRecursion (λ e. (0 < e.1) × (e.1 < m)) es
reduced m [] nonzero in_ring = tt
reduced m (e ∷ es) nonzero in_ring = (
  (positive, ltb-true e.1 m (All-head (λ a. ltb a m ≡ true) e.1 (values_of es) in_ring)),
  reduced m es (All-tail (λ a. a ≢ 0) e.1 (values_of es) nonzero)
      (All-tail (λ a. ltb a m ≡ true) e.1 (values_of es) in_ring),
)
  where
    positive : 0 < e.1
    positive = let some : e.1 ≢ 0 = All-head (λ a. a ≢ 0) e.1 (values_of es) nonzero in omega (arith, some)

-- the terms of a folded sum in the order in which they are printed are its listing
pub ordered-IsListing : (m : ℕ) (ts : List Signed) (es fs : List Entry) → IsPermutation es fs → IsStrictlySortedBy listing_cmp (keys_of fs)
    → All (λ a. a ≢ 0) (values_of es) → AllIn (λ a. ltb a m) es
    → ((t : W) → coefficient_of (λ a. a) es t ≡ folded_sum m ts t % m) → IsListing m ts fs
ordered-IsListing m ts es fs moved up nonzero in_ring value =
    let values = IsPermutation-map (λ e. e.1) es fs moved in
    record {
      increasing = up;
      residues = reduced m fs (All-permutation (λ a. a ≢ 0) (values_of es) (values_of fs) values nonzero)
          (All-permutation (λ a. ltb a m ≡ true) (values_of es) (values_of fs) values in_ring);
      coefficients = λ t. ap (λ n. n % m) (coefficient_of-IsPermutation (λ a. a) es fs t moved ∙ value t) ∙ same-mod m (folded_sum m ts t);
    }
