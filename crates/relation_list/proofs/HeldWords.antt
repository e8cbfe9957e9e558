-- The words of sums that are known.
use Rattle.std.proofs.Common.{◌≡◌, ℕ, ◌+◌, ◌≤◌, Bool, true, not, List, length, Contains, All, Result, Ok, Err, sym, ap, ◌∙◌, arith}
use Rattle.std.specs.Prelude.{IfOk}
use Rattle.std.specs.Map.{keys_of}
use Rattle.std.proofs.lemmas.List.Elements.{All-weaker, All-contains}
use Rattle.zeta_model.specs.declared.Letter.{Letter}
use Rattle.zeta_model.specs.Words.{has_index}
use Rattle.zeta_model.specs.Sums.{single}
use Rattle.word_sums.specs.Failing.{IsLeast}
use Rattle.word_sums.specs.Sums.{IsSumOf}
use Rattle.word_sums.proofs.SumLemmas.{words_of_sum}
use Rattle.quasi_product.specs.SumProducts.{AreWithin}
use Rattle.regularise_core.specs.Outside.{outside_h1}
use Rattle.relation_list.proofs.Members.{from-filter}
use Rattle.relation_list.proofs.ProductWords.{single-some}

abbrev Word : Type 0
Word = List Letter

pub after_ok : {T E : Type 0} (P Q : T → Type 0) → ((x : T) → P x → Q x) → (r : Result T E) → IfOk r P → IfOk r Q
after_ok P Q f (Ok x) p = f x p
after_ok P Q f (Err e) p = p

-- a sum whose words have an index has none that is outside
pub none_outside : {E : Type 0} (terms : List (Word × E)) → All (λ w. has_index w ≡ true) (keys_of terms) → (w : Word) → IsLeast (outside_h1 terms) w → ⊥
none_outside terms all w least =
    let c : Contains (keys_of terms) w × (not (has_index w) ≡ true) = from-filter (λ w. not (has_index w)) (keys_of terms) w least.stands in
    let i : has_index w ≡ true = All-contains (λ w. has_index w ≡ true) (keys_of terms) w all c.0 in
    let f : not true ≡ true = ap not (sym i) ∙ c.1 in
    cc

-- where the words of the first terms fit with u, they fit with the words of the sum of u
pub fits_with_word : {E : Type 0} (nought : E) (has : E → Bool) (value : E → ℕ) (m : ℕ) (firsts others : List (Word × E)) (u : Word) → has nought ≡ true
    → value nought ≡ 0
    → ((a b : E) → has a ≡ true → has b ≡ true → value a ≡ value b → a ≡ b) → IsSumOf nought has value m (single u) others
    → All (λ w. length w + length u ≤ 24) (keys_of firsts) → AreWithin 24 firsts others
fits_with_word nought has value m firsts others u has_nought value_nought injective is fits =
    All-weaker (λ w. length w + length u ≤ 24) (λ w. All (λ v. length w + length v ≤ 24) (keys_of others))
    (λ w fit. words_of_sum nought has value m (λ v. length w + length v ≤ 24) (single u) others has_nought value_nought injective is
    (λ t some. omega (arith, fit, ap length (single-some u t some))))
    (keys_of firsts) fits
