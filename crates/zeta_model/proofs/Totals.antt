-- The sum of a function over a list of words: what it is of lists that are made of others.
use Rattle.std.proofs.Common.{◌≡◌, ℕ, ◌+◌, List, [], ◌∷◌, ◌++◌, map, refl, arith}
use Rattle.std.specs.List.{flat_map}
use Rattle.zeta_model.specs.declared.Letter.{Letter}
use Rattle.zeta_model.specs.Product.{total}

abbrev Word : Type 0
Word = List Letter

pub total-append : (f : Word → ℕ) (us vs : List Word) → total f (us ++ vs) ≡ total f us + total f vs
total-append f [] vs = omega arith
total-append f (u ∷ us) vs = omega (arith, total-append f us vs)

pub total-map : (f : Word → ℕ) (g : Word → Word) (us : List Word) → total f (map g us) ≡ total (λ u. f (g u)) us
total-map f g [] = refl
total-map f g (u ∷ us) = omega (arith, total-map f g us)

pub total-plus : (f g : Word → ℕ) (us : List Word) → total (λ u. f u + g u) us ≡ total f us + total g us
total-plus f g [] = refl
total-plus f g (u ∷ us) = omega (arith, total-plus f g us)

pub total-zero : (us : List Word) → total (λ u. 0) us ≡ 0
total-zero [] = refl
total-zero (u ∷ us) = omega (arith, total-zero us)

pub total-flat_map : (f : Word → ℕ) (g : Word → List Word) (us : List Word) → total f (flat_map g us) ≡ total (λ u. total f (g u)) us
total-flat_map f g [] = refl
total-flat_map f g (u ∷ us) = omega (arith, total-flat_map f g us, total-append f (g u) (flat_map g us))
