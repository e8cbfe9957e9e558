-- What the test of all parameters tells of a modulus alone, and words that fit no command.
use Rattle.std.specs.Prelude.{◌≡◌, ◌⊎◌, ℕ, ◌^◌, ◌<◌, ◌≤◌, List, [], ◌∷◌, length, map, None, Err, codes}
use Rattle.std.proofs.Common.{refl, ap, inl, inr, arith}
use Rattle.zeta_model.specs.WordLists.{binomial, binomial_sum}
use Rattle.column_order.specs.Columns.{column_count}
use Rattle.page_codec.specs.declared.fault.ParamFault.{ParamFault}
use Rattle.page_codec.specs.declared.fault.ParamFault.TheVariants.{Weight, Depth, Modulus, NotBelow, Order, Preferred, Columns}
use Rattle.page_codec.specs.Tests.{Refuses}
use Rattle.whole_runs.specs.declared.command.WordsFault.TheVariants.{Usage}
use Rattle.whole_runs.specs.CommandLine.{AsksForIt, request_of}

-- the least table has one column
least_columns : column_count 2 1 ≡ 1
unfolding binomial binomial_sum
least_columns = refl

-- the least table is refused for its modulus only
pub modulus_refused : (m : ℕ) (fault : ParamFault) → Refuses 2 1 m (codes "lex") None fault → (fault ≡ Modulus m) × ((m < 3) ⊎ (2 ^ 63 ≤ m))
modulus_refused m (Weight n) (is, inl low) = absurd (omega arith)
modulus_refused m (Weight n) (is, inr high) = absurd (omega arith)
modulus_refused m (Depth n) (is, from, to, inl low) = absurd (omega arith)
modulus_refused m (Depth n) (is, from, to, inr high) = absurd (omega arith)
modulus_refused m (Modulus n) x = (ap Modulus x.0, x.5)
modulus_refused m (NotBelow a b) x = let from = x.6 in let to = x.7 in absurd (omega arith)
modulus_refused m Order x = absurd (x.1 (0, inl (refl, refl)))
modulus_refused m (Preferred k) x = absurd x.2
modulus_refused m (Columns n) x = let one = least_columns in let is = x.3 in let many = x.4 in absurd (omega arith)

-- words of other numbers than the commands have fit none
pub fits_none : {A : Type 0} (f : A → List ℕ) (words : List A) → ¬ (length words ≡ 2) → ¬ (length words ≡ 3) → ¬ (length words ≡ 5) → ¬ (length words ≡ 6) → ¬ (length words ≡ 7)
    → AsksForIt (request_of (map f words)) (Err Usage)
fits_none f [] two three five six seven = refl
fits_none f (a ∷ []) two three five six seven = refl
fits_none f (a ∷ b ∷ []) two three five six seven = absurd (two (omega arith))
fits_none f (a ∷ b ∷ c ∷ []) two three five six seven = absurd (three (omega arith))
fits_none f (a ∷ b ∷ c ∷ d ∷ []) two three five six seven = refl
fits_none f (a ∷ b ∷ c ∷ d ∷ e ∷ []) two three five six seven = absurd (five (omega arith))
fits_none f (a ∷ b ∷ c ∷ d ∷ e ∷ g ∷ []) two three five six seven = absurd (six (omega arith))
fits_none f (a ∷ b ∷ c ∷ d ∷ e ∷ g ∷ h ∷ []) two three five six seven = absurd (seven (omega arith))
fits_none f (a ∷ b ∷ c ∷ d ∷ e ∷ g ∷ h ∷ i ∷ more) two three five six seven = refl
