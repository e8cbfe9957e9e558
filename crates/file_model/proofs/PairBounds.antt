-- Pairs of residues that are bounded: how many there are, and what a page may hold.
use Rattle.std.specs.Prelude.{◌≡◌, ◌≢◌, ◌⊎◌, ℕ, zero, suc, ◌+◌, ◌-◌, ◌%◌, ◌^◌, ◌<◌, ◌≤◌, if◌then◌else◌, All, [], ◌∷◌, length}
use Rattle.std.proofs.Common.{sym, ◌∙◌, ap, inl, inr, arith}
use Rattle.std.proofs.Math.Nat.{mod-eq_of_lt}
use Rattle.std.proofs.lemmas.Bool.{cases_eq, cases_lt, cases_order, ne_eqb}
use Rattle.zeta_model.specs.Modular.{Same}
use Rattle.sparse_rows.specs.Entries.{IsRow}
use Rattle.sparse_rows.proofs.EntryLemmas.{entry_of_before, entry_of_first}
use Rattle.page_codec.specs.Bounds.{Chain, IsPair, BeginsWith1}
use Rattle.file_model.specs.Pages.{Pairs, pairs_of, IsPairs}

abbrev pub ChainFrom : ℕ → ℕ → Pairs → Type 0
ChainFrom high low es = Chain (λ low e. IsPair low high e) (λ low e. e.0 + 1) low es

abbrev key : ℕ → ℕ
key k = k

-- behind the first pair a row has what the others have
pub behind_first : (low : ℕ) (e : ℕ × ℕ) (es : Pairs) → IsRow key 0 low (e ∷ es) → (q : ℕ) → (pairs_of es q ≡ 0) ⊎ (pairs_of (e ∷ es) q ≡ pairs_of es q)
behind_first low e es r q = elim (cases_eq e.0 q) [
  | inl at ↦ inl (entry_of_before key 0 (λ v. v) (e.0 + 1) q es r.2 (omega (arith, at)))
  | inr ne ↦ inr (ap (λ b. (if b then e.1 else 0) + pairs_of es q) (ne_eqb e.0 q ne) ∙ (let z : 0 + pairs_of es q ≡ pairs_of es q = omega arith in z))
]

-- keys below a bound and residues below another
pub record IsBounded (high m : ℕ) (es : Pairs) : Type 0 where
  pub keys : (q : ℕ) → high ≤ q → pairs_of es q ≡ 0
  pub values : (q : ℕ) → pairs_of es q < m

bounded_behind : (high m low : ℕ) (e : ℕ × ℕ) (es : Pairs) → 0 < m → IsRow key 0 low (e ∷ es) → IsBounded high m (e ∷ es) → IsBounded high m es
bounded_behind high m low e es pos r b = record {
  keys = λ q past. elim (behind_first low e es r q) [
    | inl none ↦ none
    | inr same ↦ sym same ∙ b.keys q past
  ];
  values = λ q. elim (behind_first low e es r q) [
    | inl none ↦ omega (arith, none, pos)
    | inr same ↦ omega (arith, same, b.values q)
  ];
}

-- the first pair of bounded pairs
first_pair : (high m low : ℕ) (e : ℕ × ℕ) (es : Pairs) → IsRow key 0 low (e ∷ es) → IsBounded high m (e ∷ es) → (e.0 < high) × (0 < e.1) × (e.1 < m)
first_pair high m low e es r b =
    let first : pairs_of (e ∷ es) e.0 ≡ e.1 = entry_of_first key 0 (λ v. v) low e es r in (
      elim (cases_lt e.0 high) [
        | inl l ↦ l
        | inr past ↦ absurd (r.1 (sym first ∙ b.keys e.0 past))
      ],
      elim (cases_lt 0 e.1) [
        | inl l ↦ l
        | inr none ↦ absurd (r.1 (omega (arith, none)))
      ],
      omega (arith, first, b.values e.0),
    )

pub bounded_chain : (high m low : ℕ) (es : Pairs) → 0 < m → m < 2 ^ 63 → IsRow key 0 low es → IsBounded high m es → ChainFrom high low es
bounded_chain high m low [] pos small r b = tt
bounded_chain high m low (e ∷ es) pos small r b =
    let (below, some, residue) = first_pair high m low e es r b in (
      record { from = r.0; below = below; residue = some; limit = omega (arith, residue, small) },
      bounded_chain high m (e.0 + 1) es pos small r.2 (bounded_behind high m low e es pos r b),
    )

pub chain_length : (high low : ℕ) (es : Pairs) → ChainFrom high low es → length es ≤ high - low
chain_length high low [] c = omega arith
chain_length high low (e ∷ es) c =
    let h = c.0 in
    let from : low ≤ e.0 = h.from in
    let below : e.0 < high = h.below in
    omega (arith, from, below, chain_length high (e.0 + 1) es c.1)

-- each key is below the bound, and each residue below the other
pub bounded_all : (high m low : ℕ) (es : Pairs) → 0 < m → IsRow key 0 low es → IsBounded high m es → All (λ (e : ℕ × ℕ). (e.0 < high) × (e.1 < m)) es
bounded_all high m low [] pos r b k d l = absurd (omega (arith, l))
bounded_all high m low (e ∷ es) pos r b zero d l = let (below, some, residue) = first_pair high m low e es r b in (below, residue)
bounded_all high m low (e ∷ es) pos r b (suc k) d l =
    bounded_all high m (e.0 + 1) es pos r.2 (bounded_behind high m low e es pos r b) k d (omega (arith, l))

-- pairs of a row that is 1 at its lead begin with 1
pub lead_begins : (m lead : ℕ) (p : ℕ → ℕ) (pairs : Pairs) → 1 < m → IsPairs m p pairs → Same m (p lead) 1 → ((j : ℕ) → j < lead → Same m (p j) 0)
    → BeginsWith1 pairs
lead_begins m lead p pairs big h one before = go pairs h.row h.residues
  where
    unit : 1 % m ≡ 1
    unit = mod-eq_of_lt big

    none : 0 % m ≡ 0
    none = mod-eq_of_lt (omega (arith, big))

    go : (es : Pairs) → IsRow key 0 0 es → ((q : ℕ) → p q % m ≡ pairs_of es q) → BeginsWith1 es
    go [] r is = absurd (omega (arith, unit, one, is lead))
    go (e ∷ es) r is =
        let first : pairs_of (e ∷ es) e.0 ≡ e.1 = entry_of_first key 0 (λ v. v) 0 e es r in
        elim (cases_order e.0 lead) [
          | inl at ↦ sym first ∙ sym (is e.0) ∙ ap (λ q. p q % m) at ∙ one ∙ unit
          | inr o ↦ elim o [
            | inl l ↦ absurd (r.1 (sym first ∙ sym (is e.0) ∙ before e.0 l ∙ none))
            | inr l ↦
                let gone : pairs_of (e ∷ es) lead ≡ 0 = entry_of_before key 0 (λ v. v) e.0 lead (e ∷ es) (omega arith, r.1, r.2) l in
                absurd (omega (arith, unit, one, is lead, gone))
          ]
        ]

-- where a pair stands, the number has the property
abbrev pub IsWithin : (ℕ → Type 0) → Pairs → Type 0
IsWithin P es = (q : ℕ) → pairs_of es q ≢ 0 → P q

pub first_key : (P : ℕ → Type 0) (low : ℕ) (e : ℕ × ℕ) (es : Pairs) → IsRow key 0 low (e ∷ es) → IsWithin P (e ∷ es) → P e.0
first_key P low e es r h = h e.0 (λ z. r.1 (sym (entry_of_first key 0 (λ v. v) low e es r) ∙ z))

pub within_behind : (P : ℕ → Type 0) (low : ℕ) (e : ℕ × ℕ) (es : Pairs) → IsRow key 0 low (e ∷ es) → IsWithin P (e ∷ es) → IsWithin P es
within_behind P low e es r h q some = elim (behind_first low e es r q) [
  | inl none ↦ absurd (some none)
  | inr same ↦ h q (λ z. some (sym same ∙ z))
]

pub bounded_more : (low high m : ℕ) (es : Pairs) → low ≤ high → IsBounded low m es → IsBounded high m es
bounded_more low high m es l b = record { keys = λ q past. b.keys q (omega (arith, l, past)); values = b.values }
