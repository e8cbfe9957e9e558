-- Equal pairs, and products of two words in either order.
use Rattle.std.proofs.Common.{◌≡◌, ℕ, ◌+◌, ◌%◌, ◌≤◌, ◌⊎◌, inl, inr, Bool, true, false, ◌&&◌, Option, Some, None, List, length, refl, sym, ap, subst, ◌∙◌, rules}
use Rattle.zeta_model.specs.declared.Letter.{Letter}
use Rattle.zeta_model.specs.Product.{AlphabetLaws}
use Rattle.zeta_model.specs.Sums.{single, same_word}
use Rattle.zeta_model.proofs.ProductLaws.{prod_commutes}
use Rattle.zeta_model.proofs.ShuffleLetters.{shuffle_laws}
use Rattle.zeta_model.proofs.StuffleLetters.{stuffle_laws}
use Rattle.zeta_model.proofs.WordOrder.{same_word-one}
use Rattle.kept_products.specs.declared.pairs.Kind.{Kind}
use Rattle.kept_products.specs.declared.pairs.Kind.TheVariants.{Shuffle, Stuffle}
use Rattle.kept_products.specs.declared.pairs.Pair.{Pair}
use Rattle.kept_products.specs.contracts.pairs.Kind.{the_type}
use Rattle.kept_products.specs.contracts.pairs.PairPartialEq.TheImpl.{eq-value}
use denote.Enum.Bare.{same_true, sameb}
use Rattle.kept_products.specs.Inner.{alphabet_of, IsProduct, IsThere}

first_of : (a b : Bool) → (a && b) ≡ true → a ≡ true
first_of true b e = refl
first_of false b e = e

second_of : (a b : Bool) → (a && b) ≡ true → b ≡ true
second_of true b e = e
second_of false b e = absurd (cc e)

-- the test answers true at no two pairs
pub pair_one : (p q : Pair) → eq-value.it p q ≡ true → p ≡ q
pair_one p q e =
    let words : Bool = same_word p.u q.u && same_word p.v q.v in
    let kinds : p.kind ≡ q.kind = same_true the_type (search rules) p.kind q.kind (first_of (sameb the_type p.kind q.kind) words e) in
    let both : words ≡ true = second_of (sameb the_type p.kind q.kind) words e in
    let firsts : p.u ≡ q.u = same_word-one p.u q.u (first_of (same_word p.u q.u) (same_word p.v q.v) both) in
    let seconds : p.v ≡ q.v = same_word-one p.v q.v (second_of (same_word p.u q.u) (same_word p.v q.v) both) in
    λ i. record { kind = kinds i; u = firsts i; v = seconds i }

laws_of : (kind : Kind) → AlphabetLaws 24 (alphabet_of kind)
laws_of Shuffle = shuffle_laws 24
laws_of Stuffle = stuffle_laws 24

module _ {E : Type 0} (zero : E) (has : E → Bool) (value : E → ℕ) (m : ℕ) (kind : Kind) (u v : List Letter) (sum : List (List Letter × E)) where
  -- a pair of the two words has their product
  pub IsProduct-of_pair : (pair : Pair) → (pair ≡ record { kind = kind; u = u; v = v }) ⊎ (pair ≡ record { kind = kind; u = v; v = u })
      → (alphabet_of kind).covered u ≡ true → (alphabet_of kind).covered v ≡ true → length u + length v ≤ 24
      → IsProduct zero has value m pair.kind pair.u pair.v sum → IsProduct zero has value m kind u v sum
  IsProduct-of_pair pair (inl e) covers_u covers_v fits is = subst (λ p. IsProduct zero has value m p.kind p.u p.v sum) e is
  IsProduct-of_pair pair (inr e) covers_u covers_v fits is =
      let turned : IsProduct zero has value m kind v u sum = subst (λ p. IsProduct zero has value m p.kind p.u p.v sum) e is in
      record {
        value_is = record {
          terms = turned.value_is.terms;
          in_ring = turned.value_is.in_ring;
          coefficients = λ t.
              turned.value_is.coefficients t
              ∙ ap (λ n. n % m) (sym (prod_commutes 24 (alphabet_of kind) (laws_of kind) u v covers_u covers_v fits (λ w. single w t)));
        };
        covered = turned.covered;
      }

module _ {E : Type 0} (zero : E) (has : E → Bool) (value : E → ℕ) (m : ℕ) (kind : Kind) (u v : List Letter) where
  -- where the product of the pair stands, that of the words does
  pub IsThere-of_pair : (pair : Pair) (entries : List (Pair × List (List Letter × E))) (last : List (List Letter × E))
      → (pair ≡ record { kind = kind; u = u; v = v }) ⊎ (pair ≡ record { kind = kind; u = v; v = u })
      → (alphabet_of kind).covered u ≡ true → (alphabet_of kind).covered v ≡ true → length u + length v ≤ 24 → (place : Option ℕ)
      → IsThere zero has value m pair.kind pair.u pair.v entries last place → IsThere zero has value m kind u v entries last place
  IsThere-of_pair pair entries last is covers_u covers_v fits (Some i) there =
      (there.0, there.1, IsProduct-of_pair zero has value m kind u v there.0 pair is covers_u covers_v fits there.2)
  IsThere-of_pair pair entries last is covers_u covers_v fits None there =
      IsProduct-of_pair zero has value m kind u v last pair is covers_u covers_v fits there
