-- In how many ways a word is mixed of two words: the number of its places in their shuffle.
use Rattle.std.proofs.Common.{◌≡◌, ℕ, zero, suc, ◌<◌, ◌+◌, ◌⊎◌, inl, inr, List, [], ◌∷◌, map, cond, refl, sym, ap, ◌∙◌, arith}
use Rattle.zeta_model.specs.declared.Letter.{Letter}
use Rattle.zeta_model.specs.declared.Letter.TheVariants.{X, Y}
use Rattle.zeta_model.specs.Alphabets.{shuffle_of}
use Rattle.zeta_model.specs.Sums.{single, sum_of}
use Rattle.zeta_model.proofs.LetterSteps.{shuffle_of-letters}
use Rattle.zeta_model.proofs.SumLemmas.{sum_of-append}
use Rattle.zeta_model.proofs.Totals.{total-map, total-zero}
use Rattle.zeta_model.proofs.WordOrder.{same_word-itself}
use Rattle.leading_word.proofs.Mixes.{Mix}

abbrev Word : Type 0
Word = List Letter

-- f at what is left of p behind the letter x; 0 where p does not begin with it
abbrev pub behind_letter : Letter → Word → (Word → ℕ) → ℕ
behind_letter x [] f = 0
behind_letter X (X ∷ p) f = f p
behind_letter X (Y ∷ p) f = 0
behind_letter Y (X ∷ p) f = 0
behind_letter Y (Y ∷ p) f = f p

abbrev pub both_end : Word → Word → ℕ
both_end [] [] = 1
both_end [] (y ∷ q) = 0
both_end (x ∷ p) q = 0

abbrev pub ways : Word → Word → Word → ℕ
ways p q [] = both_end p q
ways p q (x ∷ v) = behind_letter x p (λ r. ways r q v) + behind_letter x q (λ r. ways p r v)

pub behind_letter-none : (x : Letter) (p : Word) (f : Word → ℕ) → ((r : Word) → p ≡ x ∷ r → f r ≡ 0) → behind_letter x p f ≡ 0
behind_letter-none x [] f h = refl
behind_letter-none X (X ∷ p) f h = h p refl
behind_letter-none X (Y ∷ p) f h = refl
behind_letter-none Y (X ∷ p) f h = refl
behind_letter-none Y (Y ∷ p) f h = h p refl

pub behind_letter-same : (x y : Letter) (p : Word) (f : Word → ℕ) → y ≡ x → behind_letter x (y ∷ p) f ≡ f p
behind_letter-same x X p f e = ap (λ t. behind_letter t (X ∷ p) f) (sym e)
behind_letter-same x Y p f e = ap (λ t. behind_letter t (Y ∷ p) f) (sym e)

behind_letter-some : (x : Letter) (p : Word) (f : Word → ℕ) → 0 < behind_letter x p f → (r : Word) × (p ≡ x ∷ r) × (0 < f r)
behind_letter-some x [] f h = absurd (omega arith)
behind_letter-some X (X ∷ p) f h = (p, refl, h)
behind_letter-some X (Y ∷ p) f h = absurd (omega arith)
behind_letter-some Y (X ∷ p) f h = absurd (omega arith)
behind_letter-some Y (Y ∷ p) f h = (p, refl, h)

pub one_is_positive : (a b : ℕ) → 0 < a + b → (0 < a) ⊎ (0 < b)
one_is_positive zero b h = inr (omega arith)
one_is_positive (suc a) b h = inl (omega arith)

pub mix_of_ways : (v p q : Word) → 0 < ways p q v → Mix p q v
mix_of_ways [] [] [] h = (refl, refl)
mix_of_ways [] [] (y ∷ q) h = absurd (omega arith)
mix_of_ways [] (x ∷ p) q h = absurd (omega arith)
mix_of_ways (x ∷ v) p q h = elim (one_is_positive (behind_letter x p (λ r. ways r q v)) (behind_letter x q (λ r. ways p r v)) h) [
  | inl a ↦ let s = behind_letter-some x p (λ r. ways r q v) a in inl (s.0, s.1, mix_of_ways v s.0 q s.2)
  | inr b ↦ let s = behind_letter-some x q (λ r. ways p r v) b in inr (s.0, s.1, mix_of_ways v p s.0 s.2)
]

pub ways-none : (v p q : Word) → (Mix p q v → ⊥) → ways p q v ≡ 0
ways-none [] [] [] h = absurd (h (refl, refl))
ways-none [] [] (y ∷ q) h = refl
ways-none [] (x ∷ p) q h = refl
ways-none (x ∷ v) p q h =
    let a : behind_letter x p (λ r. ways r q v) ≡ 0 = behind_letter-none x p (λ r. ways r q v) (λ r e. ways-none v r q (λ m. h (inl (r, e, m)))) in
    let b : behind_letter x q (λ r. ways p r v) ≡ 0 = behind_letter-none x q (λ r. ways p r v) (λ r e. ways-none v p r (λ m. h (inr (r, e, m)))) in
    λ i. a i + b i

pub ways-left : (p : Word) → ways p [] p ≡ 1
ways-left [] = refl
ways-left (x ∷ p) = let a : behind_letter x (x ∷ p) (λ r. ways r [] p) ≡ ways p [] p = behind_letter-same x x p (λ r. ways r [] p) refl in
    omega (arith, a, ways-left p)

pub ways-right : (q : Word) → ways [] q q ≡ 1
ways-right [] = refl
ways-right (x ∷ q) = let a : behind_letter x (x ∷ q) (λ r. ways [] r q) ≡ ways [] q q = behind_letter-same x x q (λ r. ways [] r q) refl in
    omega (arith, a, ways-right q)

-- the words of a list with a letter before each
places-behind : (x a : Letter) (u v : Word) (f : Word → ℕ) (ws : List Word) → sum_of ws v ≡ f u
    → sum_of (map (λ w. a ∷ w) ws) (x ∷ v) ≡ behind_letter x (a ∷ u) f
places-behind X X u v f ws e = total-map (λ w. single w (X ∷ v)) (λ w. X ∷ w) ws ∙ e
places-behind X Y u v f ws e = total-map (λ w. single w (X ∷ v)) (λ w. Y ∷ w) ws ∙ total-zero ws
places-behind Y X u v f ws e = total-map (λ w. single w (Y ∷ v)) (λ w. X ∷ w) ws ∙ total-zero ws
places-behind Y Y u v f ws e = total-map (λ w. single w (Y ∷ v)) (λ w. Y ∷ w) ws ∙ e

none-behind : (a : Letter) (ws : List Word) → sum_of (map (λ w. a ∷ w) ws) [] ≡ 0
none-behind X ws = total-map (λ w. single w []) (λ w. X ∷ w) ws ∙ total-zero ws
none-behind Y ws = total-map (λ w. single w []) (λ w. Y ∷ w) ws ∙ total-zero ws

-- one word is shuffled with the empty one in one way
alone-right : (q v : Word) → sum_of (q ∷ []) v ≡ ways [] q v
alone-right [] [] = refl
alone-right (b ∷ q) [] = refl
alone-right [] (x ∷ v) = refl
alone-right (X ∷ q) (X ∷ v) = alone-right q v ∙ omega arith
alone-right (X ∷ q) (Y ∷ v) = refl
alone-right (Y ∷ q) (X ∷ v) = refl
alone-right (Y ∷ q) (Y ∷ v) = alone-right q v ∙ omega arith

alone-left : (p v : Word) → sum_of (p ∷ []) v ≡ ways p [] v
alone-left [] [] = refl
alone-left (b ∷ p) [] = refl
alone-left [] (x ∷ v) = refl
alone-left (X ∷ p) (X ∷ v) = alone-left p v ∙ omega arith
alone-left (X ∷ p) (Y ∷ v) = refl
alone-left (Y ∷ p) (X ∷ v) = refl
alone-left (Y ∷ p) (Y ∷ v) = alone-left p v ∙ omega arith

pub places : (v p q : Word) → sum_of (shuffle_of p q) v ≡ ways p q v
places v [] q = alone-right q v
places v (a ∷ p) [] = alone-left (a ∷ p) v
places [] (a ∷ p) (b ∷ q) =
    ap (λ ws. sum_of ws []) (shuffle_of-letters a b p q)
    ∙ omega (
      arith,
      sum_of-append (map (λ w. a ∷ w) (shuffle_of p (b ∷ q))) (map (λ w. b ∷ w) (shuffle_of (a ∷ p) q)) [],
      none-behind a
          (shuffle_of p (b ∷ q)),
      none-behind b (shuffle_of (a ∷ p) q),
    )
places (x ∷ v) (a ∷ p) (b ∷ q) =
    let first : sum_of (map (λ w. a ∷ w) (shuffle_of p (b ∷ q))) (x ∷ v) ≡ behind_letter x (a ∷ p) (λ r. ways r (b ∷ q) v) =
    places-behind x a p v (λ r. ways r (b ∷ q) v) (shuffle_of p (b ∷ q)) (places v p (b ∷ q)) in
    let second : sum_of (map (λ w. b ∷ w) (shuffle_of (a ∷ p) q)) (x ∷ v) ≡ behind_letter x (b ∷ q) (λ r. ways (a ∷ p) r v) =
    places-behind x b q v (λ r. ways (a ∷ p) r v) (shuffle_of (a ∷ p) q) (places v (a ∷ p) q) in
    ap (λ ws. sum_of ws (x ∷ v)) (shuffle_of-letters a b p q)
    ∙ sum_of-append (map (λ w. a ∷ w) (shuffle_of p (b ∷ q))) (map (λ w. b ∷ w) (shuffle_of (a ∷ p) q)) (x ∷ v)
    ∙ (λ i. first i + second i)

pub single-itself : (w : Word) → single w w ≡ 1
single-itself w = ap (λ b. cond b 1 0) (same_word-itself w)
