-- Running sums: one for each depth of an index, over the numbers so far; and what they gain by one number more.
use Rattle.std.specs.Prelude.{◌≡◌, ℕ, ◌+◌, ◌*◌, ◌%◌, ◌^◌, ◌<◌, ◌≤◌, List, length, drop, slice_index, slice_index_or}
use Rattle.truncated_sums.specs.TruncatedSums.{truncated_sum}

module _ {E : Type 0} where
  -- the elements stand for the inverses of 1, 2, 3 and so on
  pub record AreInverses (m : ℕ) (value : E → ℕ) (inverse : ℕ → ℕ) (elements : List E) : Type 0 where
    pub each : (i : ℕ) (d : E) → i < length elements → value (slice_index_or elements i d) ≡ inverse (i + 1) % m

  -- the element at place j is the truncated sum of the index behind its first j numbers
  pub record AreSums (m : ℕ) (value : E → ℕ) (inverse : ℕ → ℕ) (n : ℕ) (index : List ℕ) (sums : List E) : Type 0 where
    pub each : (j : ℕ) (d : E) → j ≤ length index → value (slice_index_or sums j d) ≡ truncated_sum inverse n (drop j index) % m

  -- each of the first sums gains a power of a times the sum behind it; the others stay
  pub record Gains (m : ℕ) (value : E → ℕ) (a : E) (index : List ℕ) (count : ℕ) (old new : List E) : Type 0 where
    pub each : (j : ℕ) (d : E) → j < count
        → value (slice_index_or new j d) ≡ (value (slice_index_or old j d) + value a ^ slice_index index j * value (slice_index_or old (j + 1) d)) % m
    pub others : (j : ℕ) (d : E) → count ≤ j → slice_index_or new j d ≡ slice_index_or old j d
