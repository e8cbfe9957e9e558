-- Alternating sums of numbers with two places, and the binomial numbers, whose alternating sum is zero.
use Rattle.std.proofs.Common.{◌≡◌, ℕ, zero, suc, ◌+◌, ◌*◌, refl, arith}

-- how many ways k letters and i letters are interleaved
unfoldable pub interleavings : ℕ → ℕ → ℕ
interleavings zero i = 1
interleavings (suc k) zero = 1
interleavings (suc k) (suc i) = interleavings k (suc i) + interleavings (suc k) i

-- the terms F k i, F (k - 1) (i + 1), .. with signs that take turns: those with a plus, and those with a minus
unfoldable pub alternating : (ℕ → ℕ → ℕ) → ℕ → ℕ → ℕ × ℕ
alternating F zero i = (F 0 i, 0)
alternating F (suc k) i = (F (suc k) i + (alternating F k (suc i)).1, (alternating F k (suc i)).0)

alternating-interleavings : (k i : ℕ) → (alternating interleavings k (suc i)).0 ≡ (alternating interleavings k (suc i)).1 + interleavings k i
unfolding alternating interleavings
alternating-interleavings zero i = refl
alternating-interleavings (suc k) zero = omega (arith, alternating-interleavings k 1)
alternating-interleavings (suc k) (suc i) = omega (arith, alternating-interleavings k (suc (suc i)))

pub alternating-interleavings_whole : (k : ℕ) → (alternating interleavings (suc k) 0).0 ≡ (alternating interleavings (suc k) 0).1
unfolding alternating interleavings
alternating-interleavings_whole zero = refl
alternating-interleavings_whole (suc k) = omega (arith, alternating-interleavings (suc k) 0)

-- terms that are binomial numbers times one number
pub alternating-multiples : (F : ℕ → ℕ → ℕ) (c k i n : ℕ) → k + i ≡ n → ((a b : ℕ) → a + b ≡ n → F a b ≡ interleavings a b * c)
    → ((alternating F k i).0 ≡ (alternating interleavings k i).0 * c) × ((alternating F k i).1 ≡ (alternating interleavings k i).1 * c)
unfolding alternating
alternating-multiples F c zero i n e is = (is 0 i e, omega arith)
alternating-multiples F c (suc k) i n e is =
    let r = alternating-multiples F c k (suc i) n (omega arith) is in
    let one = is (suc k) i e in
    let sum : (interleavings (suc k) i + (alternating interleavings k (suc i)).1) * c
    ≡ interleavings (suc k) i * c + (alternating interleavings k (suc i)).1 * c = grind arith in
    (omega arith, r.0)
