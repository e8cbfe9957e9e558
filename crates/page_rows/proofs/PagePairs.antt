-- Pairs of pages, and lists of residues below bounds.
use Rattle.std.proofs.Common.{ℕ, ◌+◌, ◌^◌, ◌<◌, ◌≤◌, ◌≢◌, List, [], ◌∷◌, length, arith}
use Rattle.std.specs.List.{All}
use Rattle.std.proofs.lemmas.List.Elements.{All-nil, All-cons, All-head, All-tail, All-weaker}
use Rattle.sparse_rows.specs.Entries.{IsRow, IsBelow}
use Rattle.page_codec.specs.Bounds.{Chain, IsPair, ArePairs, IsRowData, IsCombData}
use Rattle.page_codec.specs.Places.{AreBelow}
use Rattle.page_rows.specs.Written.{AreResidues}

pairs-increase : (high low : ℕ) (es : List (ℕ × ℕ)) → Chain (λ low e. IsPair low high e) (λ low e. e.0 + 1) low es → IsRow (λ k. k) 0 low es
pairs-increase high low [] c = tt
pairs-increase high low (e ∷ es) c =
    let first : IsPair low high e = c.0 in
    (first.from, (λ z. let some : 0 < e.1 = first.residue in absurd (omega arith)), pairs-increase high (e.0 + 1) es c.1)

residues-below : (high m : ℕ) (es : List (ℕ × ℕ)) → AreBelow high m es → All (λ e. e.1 < m) es
residues-below high m es below = All-weaker (λ (e : ℕ × ℕ). (e.0 < high) × (e.1 < m)) (λ e. e.1 < m) (λ e b. b.1) es below

pub row-residues : (high m : ℕ) (row : List (ℕ × ℕ)) → IsRowData row → AreBelow high m row → AreResidues (λ k. k) m row
row-residues high m row is below = record { increasing = pairs-increase 2048 0 row is.pairs; below = residues-below high m row below }

pub combination-residues : (high m : ℕ) (combination : List (ℕ × ℕ)) → IsCombData combination → AreBelow high m combination → AreResidues (λ k. k) m combination
combination-residues high m es is below = record { increasing = pairs-increase (2 ^ 32) 0 es is.pairs; below = residues-below high m es below }

pub keys-below : (high m : ℕ) (es : List (ℕ × ℕ)) → AreBelow high m es → IsBelow (λ k. k) high es
keys-below high m [] below = tt
keys-below high m (e ∷ es) below =
    let P : ℕ × ℕ → Type 0 = λ e. (e.0 < high) × (e.1 < m) in
    ((All-head P e es below).0, keys-below high m es (All-tail P e es below))

both-below : (high m : ℕ) (es : List (ℕ × ℕ)) → All (λ e. e.1 < m) es → IsBelow (λ k. k) high es → AreBelow high m es
both-below high m [] below keys = All-nil (λ (e : ℕ × ℕ). (e.0 < high) × (e.1 < m))
both-below high m (e ∷ es) below keys =
    let P : ℕ × ℕ → Type 0 = λ e. e.1 < m in
    All-cons (λ (e : ℕ × ℕ). (e.0 < high) × (e.1 < m)) e es (keys.0, All-head P e es below) (both-below high m es (All-tail P e es below) keys.1)

pub below-bounds : (high m : ℕ) (es : List (ℕ × ℕ)) → AreResidues (λ k. k) m es → IsBelow (λ k. k) high es → AreBelow high m es
below-bounds high m es is keys = both-below high m es is.below keys

pairs-from : (high m low : ℕ) (es : List (ℕ × ℕ)) → m < 2 ^ 63 → IsRow (λ k. k) 0 low es → All (λ e. e.1 < m) es → IsBelow (λ k. k) high es
    → Chain (λ low e. IsPair low high e) (λ low e. e.0 + 1) low es
pairs-from high m low [] small r below keys = tt
pairs-from high m low (e ∷ es) small r below keys =
    let P : ℕ × ℕ → Type 0 = λ e. e.1 < m in
    let first : e.1 < m = All-head P e es below in
    let some : e.1 ≢ 0 = r.1 in
    (record { from = r.0; below = keys.0; residue = omega arith; limit = omega arith }, pairs-from high m (e.0 + 1) es small r.2 (All-tail P e es below) keys.1)

pub residues-pairs : (high m : ℕ) (es : List (ℕ × ℕ)) → m < 2 ^ 63 → AreResidues (λ k. k) m es → IsBelow (λ k. k) high es → ArePairs high es
residues-pairs high m es small is keys = pairs-from high m 0 es small is.increasing is.below keys

few-from : (high low : ℕ) (es : List (ℕ × ℕ)) → low ≤ high → IsRow (λ k. k) 0 low es → IsBelow (λ k. k) high es → low + length es ≤ high
few-from high low [] h r keys = omega arith
few-from high low (e ∷ es) h r keys =
    let rest : e.0 + 1 + length es ≤ high = few-from high (e.0 + 1) es (omega (arith, keys.0)) r.2 keys.1 in
    omega (arith, r.0)

pub residues-few : (high m : ℕ) (es : List (ℕ × ℕ)) → AreResidues (λ k. k) m es → IsBelow (λ k. k) high es → length es ≤ high
residues-few high m es is keys =
    let all : 0 + length es ≤ high = few-from high 0 es (omega arith) is.increasing keys in
    omega arith
