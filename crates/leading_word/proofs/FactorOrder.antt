-- The shuffle of several words does not depend on their order, nor on how they are grouped.
use Rattle.std.proofs.Common.{◌≡◌, ℕ, ◌+◌, Bool, true, false, cond, List, [], ◌∷◌, length, refl, sym, ap, ◌∙◌, arith}
use Rattle.std.specs.List.{flat_map}
use Rattle.std.specs.Ordering.{is_lt}
use Rattle.zeta_model.specs.declared.Letter.{Letter}
use Rattle.zeta_model.specs.Words.{word_cmp}
use Rattle.zeta_model.specs.Product.{total, SameWords}
use Rattle.zeta_model.specs.Alphabets.{shuffle_alphabet, shuffle_of}
use Rattle.zeta_model.proofs.ProductLaws.{prod_commutes, prod_associates}
use Rattle.zeta_model.proofs.ShuffleLetters.{shuffle_laws}
use Rattle.zeta_model.proofs.LetterSteps.{prod-empty_second}
use Rattle.zeta_model.proofs.Totals.{total-plus, total-zero, total-flat_map}
use Rattle.lyndon_words.specs.Monomials.{put, product_of}
use Rattle.leading_word.specs.Shuffles.{shuffled_with, words_of, each_shuffled}

abbrev Word : Type 0
Word = List Letter

-- the sum of f over the shuffle of two words
abbrev both : (Word → ℕ) → Word → Word → ℕ
both f u v = total f (shuffle_of u v)

both_comm : (f : Word → ℕ) (u v : Word) → both f u v ≡ both f v u
both_comm f u v = let n : ℕ = length u + length v in prod_commutes n shuffle_alphabet (shuffle_laws n) u v refl refl (omega arith) f

both_assoc : (f : Word → ℕ) (u v w : Word) → total (λ t. both f t w) (shuffle_of u v) ≡ total (λ t. both f u t) (shuffle_of v w)
both_assoc f u v w =
    let n : ℕ = length u + length v + length w in
    sym (total-flat_map f (λ t. shuffle_of t w) (shuffle_of u v))
    ∙ prod_associates n shuffle_alphabet (shuffle_laws n) u v w refl refl refl (omega arith) f
    ∙ total-flat_map f (λ t. shuffle_of u t) (shuffle_of v w)

total-swap : (F : Word → Word → ℕ) (us vs : List Word) → total (λ u. total (F u) vs) us ≡ total (λ v. total (λ u. F u v) us) vs
total-swap F [] vs = sym (total-zero vs)
total-swap F (u ∷ us) vs = (λ i. total (F u) vs + total-swap F us vs i) ∙ sym (total-plus (F u) (λ v. total (λ t. F t v) us) vs)

total-each_shuffled : (f : Word → ℕ) (ws vs : List Word) → total f (each_shuffled ws vs) ≡ total (λ w. total (both f w) vs) ws
total-each_shuffled f ws vs = total-flat_map f (λ w. flat_map (λ v. shuffle_of w v) vs) ws
    ∙ (λ i. total (λ w. total-flat_map f (λ v. shuffle_of w v) vs i) ws)

-- each word with the rest of the words
total-shuffled_with : (f : Word → ℕ) (ws us : List Word) → total f (shuffled_with ws us) ≡ total (λ w. total (both f w) (words_of us)) ws
total-shuffled_with f ws [] = λ i. total (λ w. one w i) ws
  where
    one : (w : Word) → f w ≡ both f w [] + 0
    one w = let e : both f w [] ≡ f w + 0 = ap (total f) (prod-empty_second shuffle_alphabet w) in omega (arith, e)
total-shuffled_with f ws (u ∷ us) =
    total-shuffled_with f (flat_map (λ t. shuffle_of t u) ws) us
    ∙ total-flat_map (λ t. total (both f t) (words_of us)) (λ t. shuffle_of t u) ws
    ∙ (λ i. total (λ w. step w (total-shuffled_with (both f w) (u ∷ []) us) i) ws)
  where
    step : (w : Word) → total (both f w) (words_of (u ∷ us)) ≡ total (both (both f w) u) (words_of us) + 0
        → total (λ t. total (both f t) (words_of us)) (shuffle_of w u) ≡ total (both f w) (words_of (u ∷ us))
    step w again =
        total-swap (both f) (shuffle_of w u) (words_of us)
        ∙ (λ i. total (λ z. both_assoc f w u z i) (words_of us))
        ∙ omega (arith, again)

-- the first word with the shuffle of the others
total-words_of : (f : Word → ℕ) (u : Word) (us : List Word) → total f (words_of (u ∷ us)) ≡ total (both f u) (words_of us)
total-words_of f u us = total-shuffled_with f (u ∷ []) us ∙ omega arith

-- the first two words may change places
first_two : (f : Word → ℕ) (u v : Word) (us : List Word) → total f (words_of (u ∷ v ∷ us)) ≡ total f (words_of (v ∷ u ∷ us))
first_two f u v us = split u v ∙ (λ i. total (λ z. turned z i) (words_of us)) ∙ sym (split v u)
  where
    split : (a b : Word) → total f (words_of (a ∷ b ∷ us)) ≡ total (λ z. total (λ t. both f t z) (shuffle_of a b)) (words_of us)
    split a b = total-words_of f a (b ∷ us) ∙ total-words_of (both f a) b us ∙ (λ i. total (λ z. sym (both_assoc f a b z) i) (words_of us))

    turned : (z : Word) → total (λ t. both f t z) (shuffle_of u v) ≡ total (λ t. both f t z) (shuffle_of v u)
    turned z = both_comm (λ t. both f t z) u v

total-put : (f : Word → ℕ) (w : Word) (us : List Word) → total f (words_of (put w us)) ≡ total f (words_of (w ∷ us))
total-put f w [] = refl
total-put f w (u ∷ us) = go (is_lt (word_cmp u w)) (total-put (both f u) w us)
  where
    go : (b : Bool) → total (both f u) (words_of (put w us)) ≡ total (both f u) (words_of (w ∷ us))
        → total f (words_of (cond b (w ∷ u ∷ us) (u ∷ put w us))) ≡ total f (words_of (w ∷ u ∷ us))
    go true again = refl
    go false again = total-words_of f u (put w us) ∙ again ∙ sym (total-words_of f u (w ∷ us)) ∙ first_two f u w us

pub words_of-front : (u : Word) (us : List Word) → SameWords (words_of (u ∷ us)) (flat_map (λ w. shuffle_of u w) (words_of us))
words_of-front u us f = total-words_of f u us ∙ sym (total-flat_map f (λ w. shuffle_of u w) (words_of us))

-- the factors of a product
pub words_of-product_of : (a b : List Word) → SameWords (words_of (product_of a b)) (each_shuffled (words_of a) (words_of b))
words_of-product_of [] b f = sym (total-each_shuffled f ([] ∷ []) (words_of b) ∙ (λ i. total (λ z. empty z i) (words_of b) + 0) ∙ omega arith)
  where
    empty : (z : Word) → both f [] z ≡ f z
    empty z = omega arith
words_of-product_of (w ∷ a) b f =
    words_of-product_of a (put w b) f
    ∙ total-each_shuffled f (words_of a) (words_of (put w b))
    ∙ (λ i. total (λ x. step x i) (words_of a))
    ∙ sym (total-words_of (λ x. total (both f x) (words_of b)) w a)
    ∙ sym (total-each_shuffled f (words_of (w ∷ a)) (words_of b))
  where
    step : (x : Word) → total (both f x) (words_of (put w b)) ≡ both (λ t. total (both f t) (words_of b)) w x
    step x =
        total-put (both f x) w b
        ∙ total-words_of (both f x) w b
        ∙ (λ i. total (λ z. (sym (both_assoc f x w z) ∙ both_comm (λ t. both f t z) x w) i) (words_of b))
        ∙ sym (total-swap (both f) (shuffle_of w x) (words_of b))
