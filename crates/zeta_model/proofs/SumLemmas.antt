-- Sums of lists of words.
use Rattle.std.proofs.Common.{◌≡◌, ℕ, ◌+◌, ◌-◌, ◌*◌, ◌%◌, ◌<◌, true, List, [], ◌∷◌, ◌++◌, length, map, take, get_or, refl, sym, ap, ◌∙◌, arith}
use Rattle.std.proofs.lemmas.List.{take_more, map-append}
use Rattle.std.specs.List.{All}
use Rattle.std.proofs.lemmas.List.Elements.{All-head, All-tail}
use Rattle.zeta_model.specs.declared.Letter.{Letter}
use Rattle.zeta_model.specs.Modular.{Same}
use Rattle.zeta_model.specs.Words.{begins_with_x}
use Rattle.zeta_model.specs.Sums.{Sum, single, sum_of, difference, continued}
use Rattle.zeta_model.specs.Regularise.{reg_of, reg_of_sum}
use Rattle.zeta_model.proofs.ModularLemmas.{same-opposite}
use Rattle.zeta_model.proofs.RegularValues.{reg_of-begins_with_x}
use Rattle.zeta_model.proofs.Totals.{total-append}

abbrev Word : Type 0
Word = List Letter

pub sum_of-append : (us vs : List Word) (t : Word) → sum_of (us ++ vs) t ≡ sum_of us t + sum_of vs t
sum_of-append us vs t = total-append (λ w. single w t) us vs

pub sum_of-push : (ws : List Word) (w t : Word) → sum_of (ws ++ w ∷ []) t ≡ sum_of ws t + single w t
sum_of-push ws w t = omega (arith, sum_of-append ws (w ∷ []) t)

-- the words up to a place, and the one at that place
pub sum_of-take_more : {V : Type 0} (f : V → Word) (xs : List V) (i : ℕ) (x : V) (t : Word) → i < length xs → x ≡ get_or xs i x
    → sum_of (map f (take (i + 1) xs)) t ≡ sum_of (map f (take i xs)) t + single (f x) t
sum_of-take_more f xs i x t l is =
    let longer : map f (take (i + 1) xs) ≡ map f (take i xs) ++ f x ∷ [] =
    ap (map f) (take_more xs i x l) ∙ map-append f (take i xs) (get_or xs i x ∷ []) ∙ ap (λ y. map f (take i xs) ++ f y ∷ []) (sym is) in
    ap (λ ws. sum_of ws t) longer ∙ sum_of-push (map f (take i xs)) (f x) t

pub continued-append : (f : Word → Sum) (cs ds : List (ℕ × Word)) (t : Word) → continued f (cs ++ ds) t ≡ continued f cs t + continued f ds t
continued-append f [] ds t = omega arith
continued-append f (c ∷ cs) ds t = omega (arith, continued-append f cs ds t)

pub difference-plus : (m : ℕ) (s r : Sum) (t : Word) → 0 < m → Same m (difference m s r t + r t) (s t)
difference-plus m s r t pos =
    let e : s t + (m - 1) * r t + r t ≡ s t + r t + r t * (m - 1) = grind arith in
    ap (λ n. n % m) e ∙ same-opposite m (s t) (r t) pos

-- the regularisation of a sum of words that begin with x
pub reg_of_sum-from_x : (m : ℕ) (terms : List (ℕ × Word)) (t : Word) → All (λ term. begins_with_x term.1 ≡ true) terms
    → reg_of_sum m terms t ≡ continued single terms t
reg_of_sum-from_x m [] t all = refl
reg_of_sum-from_x m (term ∷ terms) t all =
    let first : reg_of m term.1 t ≡ single term.1 t = reg_of-begins_with_x m term.1 t (All-head (λ x. begins_with_x x.1 ≡ true) term terms all) in
    λ i. term.0 * first i + reg_of_sum-from_x m terms t (All-tail (λ x. begins_with_x x.1 ≡ true) term terms all) i
