-- What contracts see of products that are kept.
use Rattle.std.specs.Prelude.{◌≡◌, ℕ}

-- the ring of the products, how many terms they may have together, and how many they have
pub record Kept (R : Type 0) : Type 0 where
  pub ring : R
  pub limit : ℕ
  pub terms : ℕ

-- the store has its ring and its limit as before
abbrev pub IsSameStore : {R : Type 0} → Kept R → Kept R → Type 0
IsSameStore old new = (new.ring ≡ old.ring) × (new.limit ≡ old.limit)
