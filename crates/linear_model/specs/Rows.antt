-- Sums, rows and spans modulo m. A row is a function from columns to numbers; a list of rows is a count n and a function from places to rows.
use Rattle.std.specs.Prelude.{ℕ, zero, suc, ◌+◌, ◌*◌, ◌<◌, nat_eq, if◌then◌else◌}
use Rattle.zeta_model.specs.Modular.{Same}

-- f 0 + .. + f (n - 1)
abbrev pub total : ℕ → (ℕ → ℕ) → ℕ
total zero f = 0
total (suc n) f = total n f + f n

-- the sum of the n rows, each times its coefficient
abbrev pub combination : ℕ → (ℕ → ℕ → ℕ) → (ℕ → ℕ) → ℕ → ℕ
combination n rows c col = total n (λ i. c i * rows i col)

-- equal at every column, modulo m
abbrev pub SameRow : ℕ → (ℕ → ℕ) → (ℕ → ℕ) → Type 0
SameRow m p q = (col : ℕ) → Same m (p col) (q col)

-- p is a combination of the n rows
abbrev pub InSpan : ℕ → ℕ → (ℕ → ℕ → ℕ) → (ℕ → ℕ) → Type 0
InSpan m n rows p = (c : ℕ → ℕ) × SameRow m p (combination n rows c)

-- each of the n rows is a combination of the k others
abbrev pub SpanWithin : ℕ → ℕ → (ℕ → ℕ → ℕ) → ℕ → (ℕ → ℕ → ℕ) → Type 0
SpanWithin m n rows k others = (i : ℕ) → i < n → InSpan m k others (rows i)

-- the n rows and the k others have one span
abbrev pub SameSpan : ℕ → ℕ → (ℕ → ℕ → ℕ) → ℕ → (ℕ → ℕ → ℕ) → Type 0
SameSpan m n rows k others = SpanWithin m n rows k others × SpanWithin m k others n rows

-- the k rows, and p behind them
abbrev pub rows_and : ℕ → (ℕ → ℕ → ℕ) → (ℕ → ℕ) → ℕ → ℕ → ℕ
rows_and k rows p i = if nat_eq i k then p else rows i
