-- What is counted of the replies to a sample of lines.
use Rattle.std.specs.Prelude.{ℕ, ◌+◌, ◌==◌, Bool, List, [], ◌∷◌, codes, bytes_eq, count_by, if◌then◌else◌}
use Rattle.std.specs.List.{sum_by, list_any}

-- the polynomial without terms
abbrev pub is_zero_text : List ℕ → Bool
is_zero_text reply = bytes_eq reply (codes "0")

-- how many replies are `0`
abbrev pub zero_count : List (List ℕ) → ℕ
zero_count replies = count_by is_zero_text replies

-- how many different replies there are: those that do not come again
abbrev pub distinct_count : List (List ℕ) → ℕ
distinct_count [] = 0
distinct_count (r ∷ rs) = if list_any (bytes_eq r) rs then distinct_count rs else 1 + distinct_count rs

-- how many terms the text of a polynomial has: none, or one more than it has +
abbrev pub terms_in : List ℕ → ℕ
terms_in reply = if is_zero_text reply then 0 else 1 + count_by (λ b. b == 43) reply

-- how many terms the replies have together
abbrev pub term_count : List (List ℕ) → ℕ
term_count replies = sum_by terms_in replies
