-- The regularisation of the shuffle (Ihara, Kaneko and Zagier 2006): reg(y^j x u) = (-1)^j x sh(y^j, u).
use Rattle.std.specs.Prelude.{ℕ, zero, suc, ◌+◌, ◌-◌, ◌*◌, ◌<◌, Bool, true, false, List, [], ◌∷◌, ◌++◌, map}
use Rattle.std.specs.List.{flat_map}
use Rattle.zeta_model.specs.declared.Letter.{Letter}
use Rattle.zeta_model.specs.declared.Letter.TheVariants.{X, Y}
use Rattle.zeta_model.specs.Modular.{Same}
use Rattle.zeta_model.specs.Product.{total}
use Rattle.zeta_model.specs.Alphabets.{shuffle_of}
use Rattle.zeta_model.specs.Sums.{Sum, zero_sum, single, sum_of, scaled, continued}

-- the word y^j of j letters y
abbrev pub y_word : ℕ → List Letter
y_word zero = []
y_word (suc j) = Y ∷ y_word j

abbrev pub begins_with_y : List Letter → Bool
begins_with_y [] = false
begins_with_y (X ∷ w) = false
begins_with_y (Y ∷ w) = true

-- (-1)^j modulo m
abbrev pub sign_of : ℕ → ℕ → ℕ
sign_of m zero = 1
sign_of m (suc zero) = m - 1
sign_of m (suc (suc j)) = sign_of m j

-- the regularisation of y^j w
abbrev pub reg_behind : ℕ → ℕ → List Letter → Sum
reg_behind m zero [] = single []
reg_behind m (suc j) [] = zero_sum
reg_behind m j (X ∷ u) = scaled (sign_of m j) (sum_of (map (λ t. X ∷ t) (shuffle_of (y_word j) u)))
reg_behind m j (Y ∷ w) = reg_behind m (suc j) w

-- the regularisation of a word, modulo m
abbrev pub reg_of : ℕ → List Letter → Sum
reg_of m w = reg_behind m 0 w

-- the regularisation of a sum that is given by its terms
abbrev pub reg_of_sum : ℕ → List (ℕ × List Letter) → Sum
reg_of_sum m terms = continued (reg_of m) terms

-- f 0 + .. + f n
abbrev pub sum_to : ℕ → (ℕ → ℕ) → ℕ
sum_to zero f = f 0
sum_to (suc n) f = f 0 + sum_to n (λ i. f (suc i))

-- the words of sh(y^k, x sh(y^i, u))
abbrev pub nested_words : ℕ → ℕ → List Letter → List (List Letter)
nested_words k i u = flat_map (λ t. shuffle_of (y_word k) (X ∷ t)) (shuffle_of (y_word i) u)

-- y^j x u is the sum over i = 0 .. j of (-1)^i sh(y^(j-i), x sh(y^i, u)), for each function f of the words and modulo each m
abbrev pub IsRegularised : ℕ → List Letter → Type 0
IsRegularised j u = (m : ℕ) (f : List Letter → ℕ) → 0 < m → Same m (f (y_word j ++ X ∷ u)) (sum_to j (λ i. sign_of m i * total f (nested_words (j - i) i u)))
