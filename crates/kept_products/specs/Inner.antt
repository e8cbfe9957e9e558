-- What single steps of the code answer. No public clause cites these, so a reader need not believe them.
use Rattle.std.specs.Prelude.{◌≡◌, ℕ, ◌≤◌, Bool, true, Option, Some, None, List, length, All, sum_by, slice_get}
use Rattle.std.specs.Map.{keys_of, values_of}
use Rattle.zeta_model.specs.declared.Letter.{Letter}
use Rattle.zeta_model.specs.Alphabets.{shuffle_alphabet, stuffle_alphabet}
use Rattle.zeta_model.specs.Product.{Alphabet, prod}
use Rattle.zeta_model.specs.Sums.{sum_of}
use Rattle.word_sums.specs.Sums.{IsSumOf}
use Rattle.kept_products.specs.declared.pairs.Kind.{Kind}
use Rattle.kept_products.specs.declared.pairs.Kind.TheVariants.{Shuffle, Stuffle}
use Rattle.kept_products.specs.declared.pairs.Pair.{Pair}

-- the letters of a kind of product
abbrev pub alphabet_of : Kind → Alphabet
alphabet_of Shuffle = shuffle_alphabet
alphabet_of Stuffle = stuffle_alphabet

module _ {E : Type 0} where
  -- how many terms the sums have together
  abbrev pub terms_of : List (Pair × List (List Letter × E)) → ℕ
  terms_of entries = sum_by (λ e. length e.1) entries

  module _ (zero : E) (has : E → Bool) (value : E → ℕ) (m : ℕ) where
    -- the sum is the product of u and v, and its words are covered
    pub record IsProduct (kind : Kind) (u v : List Letter) (sum : List (List Letter × E)) : Type 0 where
      pub value_is : IsSumOf zero has value m (sum_of (prod (alphabet_of kind) u v)) sum
      pub covered : All (λ w. (alphabet_of kind).covered w ≡ true) (keys_of sum)

    -- each sum is the product of its pair, and they have so many terms together, at most the limit
    pub record AreKept (limit : ℕ) (entries : List (Pair × List (List Letter × E))) (terms : ℕ) : Type 0 where
      pub each : All (λ e. IsProduct e.0.kind e.0.u e.0.v e.1) entries
      pub counted : terms ≡ terms_of entries
      pub within : terms ≤ limit

    -- the product of u and v stands at the place, which is that of an entry or the last one's
    abbrev pub IsThere : Kind → List Letter → List Letter → List (Pair × List (List Letter × E)) → List (List Letter × E) → Option ℕ → Type 0
    IsThere kind u v entries last (Some i) = (sum : List (List Letter × E)) × (slice_get (values_of entries) i ≡ Some sum) × IsProduct kind u v sum
    IsThere kind u v entries last None = IsProduct kind u v last
