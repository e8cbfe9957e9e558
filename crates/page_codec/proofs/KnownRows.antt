-- Rows and combinations are known by what they have at each number.
use Rattle.std.proofs.Common.{◌≡◌, ℕ, ◌+◌, ◌<◌, List, [], ◌∷◌, true, refl, arith}
use Rattle.sparse_rows.specs.Entries.{entry_of, IsRow, AllIn}
use Rattle.sparse_rows.proofs.SameRows.{same_row}
use Rattle.page_codec.specs.Bounds.{Chain, IsPair, IsRowData, IsCombData}

is_row : (high low : ℕ) (es : List (ℕ × ℕ)) → Chain (λ low e. IsPair low high e) (λ low e. e.0 + 1) low es → IsRow (λ k. k) 0 low es
is_row high low [] c = tt
is_row high low (e ∷ es) c =
    let first : IsPair low high e = c.0 in
    (first.from, (λ z. let some : 0 < e.1 = first.residue in absurd (omega arith)), is_row high (e.0 + 1) es c.1)

all_in : (es : List (ℕ × ℕ)) → AllIn (λ v. true) es
all_in [] = tt
all_in (e ∷ es) = (refl, all_in es)

known : (es fs : List (ℕ × ℕ)) → IsRow (λ k. k) 0 0 es → IsRow (λ k. k) 0 0 fs
    → ((n : ℕ) → entry_of (λ k. k) (λ v. v) es n ≡ entry_of (λ k. k) (λ v. v) fs n) → es ≡ fs
known es fs r s h = same_row (λ k. k) (λ a b e. e) 0 (λ v. true) (λ v. v) 1 refl refl (λ a b p q e. e) 0 es fs r s (all_in es) (all_in fs) h

pub row_increases : (r : List (ℕ × ℕ)) → IsRowData r → IsRow (λ k. k) 0 0 r
row_increases r is = is_row 2048 0 r is.pairs

pub known_rows : (r s : List (ℕ × ℕ)) → IsRowData r → IsRowData s
    → ((column : ℕ) → entry_of (λ k. k) (λ v. v) r column ≡ entry_of (λ k. k) (λ v. v) s column) → r ≡ s
known_rows r s is so h = known r s (row_increases r is) (row_increases s so) h

pub known_combinations : (c d : List (ℕ × ℕ)) → IsCombData c → IsCombData d
    → ((number : ℕ) → entry_of (λ k. k) (λ v. v) c number ≡ entry_of (λ k. k) (λ v. v) d number) → c ≡ d
known_combinations c d is so h = known c d (is_row 4294967296 0 c is.pairs) (is_row 4294967296 0 d so.pairs) h
