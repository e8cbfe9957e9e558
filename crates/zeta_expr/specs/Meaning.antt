-- The sum of words that an expression means modulo m, and the first cause for which it means none.
use Rattle.std.specs.Prelude.{◌≡◌, ℕ, zero, suc, ◌+◌, ◌-◌, ◌*◌, ◌%◌, ◌<◌, Bool, true, false, ◌||◌, not, ◌==◌, nat_lt, if◌then◌else◌, Option, Some, None, option_map, List, [], ◌∷◌, length, map, filter}
use Rattle.std.specs.List.{flat_map, find, filter_map, AllByRecursion}
use Rattle.zeta_model.specs.declared.Letter.{Letter}
use Rattle.zeta_model.specs.declared.Letter.TheVariants.{X, Y}
use Rattle.zeta_model.specs.Alphabets.{shuffle_of}
use Rattle.zeta_model.specs.Indices.{word_of_index}
use Rattle.zeta_model.specs.Regularise.{y_word, sign_of}
use Rattle.zeta_model.specs.Sums.{Sum, single, continued}
use Rattle.zeta_expr.specs.declared.expr.Factor.{Factor}
use Rattle.zeta_expr.specs.declared.expr.Factor.TheVariants.{Number, Zeta}
use Rattle.zeta_expr.specs.declared.fault.LineFault.{LineFault}
use Rattle.zeta_expr.specs.declared.fault.LineFault.TheVariants.{NoInverse, WeightIs, DepthIs, Memory}
use Rattle.zeta_expr.specs.Forms.{TermForm}
use Rattle.zeta_expr.specs.Weights.{has_zeta, weight_of, depth_of}

-- the greatest number below n whose product with b is 1 modulo m, and 0 where there is none
abbrev pub inverse_below : ℕ → ℕ → ℕ → ℕ
inverse_below m b zero = 0
inverse_below m b (suc n) = if b * n % m == 1 then n else inverse_below m b n

abbrev pub inverse_of : ℕ → ℕ → ℕ
inverse_of m b = inverse_below m b m

abbrev pub has_inverse : ℕ → ℕ → Bool
has_inverse m b = b * inverse_of m b % m == 1

-- a number over a number is the first times the inverse of the second
abbrev pub number_in : ℕ → Factor → ℕ
number_in m (Number top None) = top
number_in m (Number top (Some bottom)) = top * inverse_of m bottom
number_in m (Zeta word power) = 1

abbrev pub product_in : ℕ → List Factor → ℕ
product_in m [] = 1
product_in m (f ∷ fs) = number_in m f * product_in m fs

-- the product of the numbers of a term, with its sign
abbrev pub number_of : ℕ → TermForm → ℕ
number_of m t = (if t.negative then m - 1 else 1) * product_in m t.factors

-- words with numbers
abbrev pub Terms : Type 0
Terms = List (ℕ × List Letter)

-- the terms of the regularisation of y^j w
abbrev pub reg_terms : ℕ → ℕ → List Letter → Terms
reg_terms m zero [] = (1, []) ∷ []
reg_terms m (suc j) [] = []
reg_terms m j (X ∷ u) = map (λ t. (sign_of m j, X ∷ t)) (shuffle_of (y_word j) u)
reg_terms m j (Y ∷ w) = reg_terms m (suc j) w

-- the regularisation of the word of an index
abbrev pub zeta_terms : ℕ → List ℕ → Terms
zeta_terms m word = reg_terms m 0 (word_of_index word)

-- the shuffle product of two sums that are given by their terms
abbrev pub times : Terms → Terms → Terms
times p q = flat_map (λ c. flat_map (λ d. map (λ t. (c.0 * d.0, t)) (shuffle_of c.1 d.1)) q) p

-- a sum times so many copies of the zeta of an index
abbrev pub times_power : ℕ → List ℕ → ℕ → Terms → Terms
times_power m word zero p = p
times_power m word (suc k) p = times (zeta_terms m word) (times_power m word k p)

-- a sum times the zetas among some factors
abbrev pub times_zetas : ℕ → List Factor → Terms → Terms
times_zetas m [] p = p
times_zetas m (Number top bottom ∷ fs) p = times_zetas m fs p
times_zetas m (Zeta word power ∷ fs) p = times_zetas m fs (times_power m word power p)

-- the product of the numbers times the shuffle product of the zetas
abbrev pub term_sum : ℕ → TermForm → Sum
term_sum m t r = number_of m t * continued single (times_zetas m t.factors ((1, []) ∷ [])) r

abbrev pub sum_of_terms : ℕ → List TermForm → Sum
sum_of_terms m [] r = 0
sum_of_terms m (t ∷ ts) r = term_sum m t r + sum_of_terms m ts r

-- the numbers below `/`, as written
abbrev pub bottom_in : Factor → Option ℕ
bottom_in (Number top bottom) = bottom
bottom_in (Zeta word power) = None

-- the number below `/` of a factor, where it has no inverse
abbrev pub kept : Bool → ℕ → Option ℕ
kept true b = None
kept false b = Some b

abbrev pub lacking_bottom : ℕ → Option ℕ → Option ℕ
lacking_bottom m None = None
lacking_bottom m (Some b) = kept (has_inverse m b) b

abbrev pub lacking : ℕ → Factor → Option ℕ
lacking m f = lacking_bottom m (bottom_in f)

abbrev pub first_lacking : ℕ → List Factor → Option ℕ
first_lacking m fs = find (λ b. not (has_inverse m b)) (filter_map bottom_in fs)

abbrev pub bottoms : List TermForm → List ℕ
bottoms e = flat_map (λ t. filter_map bottom_in t.factors) e

abbrev pub first_of : {A : Type 0} → Option A → Option A → Option A
first_of None o = o
first_of (Some a) o = Some a

-- all terms but those without a zeta whose number is 0
abbrev pub is_tested : ℕ → TermForm → Bool
is_tested m t = has_zeta t || not (number_of m t % m == 0)

-- the weight of a tested term, where it is another than w, and the depth where it is more than d
abbrev pub other_weight : ℕ → ℕ → TermForm → Option ℕ
other_weight m w t = if is_tested m t then (if weight_of t == w then None else Some (weight_of t)) else None

abbrev pub greater_depth : ℕ → ℕ → TermForm → Option ℕ
greater_depth m d t = if is_tested m t then (if nat_lt d (depth_of t) then Some (depth_of t) else None) else None

-- the weight of the first tested term that has another than w, and where there is none the depth of the first that is deeper than d
abbrev pub first_misfit : ℕ → ℕ → ℕ → List TermForm → Option LineFault
first_misfit m w d e =
    first_of (option_map (λ k. WeightIs k) (find (λ k. not (k == w)) (map weight_of (filter (is_tested m) e))))
    (option_map (λ k. DepthIs k) (find (λ k. nat_lt d k) (map depth_of (filter (is_tested m) e))))

-- the first cause for which the terms mean no sum of weight w and depth at most d
abbrev pub refusal_of : ℕ → ℕ → ℕ → List TermForm → Option LineFault
refusal_of m w d e = first_of (option_map (λ b. NoInverse b) (find (λ b. not (has_inverse m b)) (bottoms e))) (first_misfit m w d e)

-- what a refusal to give the meaning tells; want of memory comes only where there is no other cause
abbrev pub IsMeaningFault : ℕ → ℕ → ℕ → List TermForm → LineFault → Type 0
IsMeaningFault m w d e (Memory fault) = refusal_of m w d e ≡ None
IsMeaningFault m w d e fault = refusal_of m w d e ≡ Some fault

-- an index has some numbers, none of them 0
abbrev pub IsFormed : Factor → Type 0
IsFormed (Number top bottom) = Unit {0}
IsFormed (Zeta word power) = (0 < length word) × AllByRecursion (λ k. 0 < k) word
