-- The lead order of monomials, for any ranks of words.
use Rattle.std.specs.Prelude.{◌≡◌, ℕ, List, length}
use Rattle.std.specs.List.{sum_by}
use Rattle.std.specs.declared.cmp.Ordering.{Ordering}
use Rattle.std.specs.declared.cmp.Ordering.TheVariants.{Less}
use Rattle.std.specs.Ordering.{nat_cmp, ordering_then}
use Rattle.std.specs.Cmp.Lexicographic.{slice_cmp}
use Rattle.zeta_model.specs.declared.Letter.{Letter}
use Rattle.zeta_model.specs.Words.{word_cmp, depth_of}
use Rattle.lyndon_words.specs.Lyndon.{joined}

-- the sum of the ranks of the factors
abbrev pub rank_sum : (List Letter → ℕ) → List (List Letter) → ℕ
rank_sum ranks p = sum_by ranks p

-- fewer factors come first; then the greater sum of ranks; then the greater depth; then the greater list of factors, compared factor by factor
abbrev pub lead_cmp : (List Letter → ℕ) → List (List Letter) → List (List Letter) → Ordering
lead_cmp ranks p q =
    ordering_then (nat_cmp (length p) (length q))
    (ordering_then (nat_cmp (rank_sum ranks q) (rank_sum ranks p))
    (ordering_then (nat_cmp (depth_of (joined q)) (depth_of (joined p)))
    (slice_cmp word_cmp q p)))

-- p comes strictly before q
abbrev pub Leads : (List Letter → ℕ) → List (List Letter) → List (List Letter) → Type 0
Leads ranks p q = lead_cmp ranks p q ≡ Less
