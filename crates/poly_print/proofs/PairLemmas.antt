-- Rows as functions of the columns, as pairs, and as pairs of elements.
use Rattle.std.proofs.Common.{◌≡◌, ℕ, zero, suc, ◌+◌, ◌<◌, ◌≤◌, ◌≢◌, inl, inr, Bool, true, false, List, [], ◌∷◌, refl, sym, ap, subst, ◌∙◌, arith}
use Rattle.std.specs.Prelude.{◌==◌, if◌then◌else◌}
use Rattle.std.proofs.lemmas.Bool.{eqb-true, eq-eqb, ne_eqb, cases_eq}
use Rattle.sparse_rows.specs.Entries.{entry_of, IsRow, IsBelow, AllIn}
use Rattle.sparse_rows.proofs.EntryLemmas.{entry_of_before, entry_of_first, below_more}
use Rattle.poly_print.specs.Polynomials.{ArePairs, pairs_from, residue_pairs}

-- what pairs have at a column
abbrev residue_at : List (ℕ × ℕ) → ℕ → ℕ
residue_at es q = entry_of (λ c. c) (λ r. r) es q

-- the pairs from a column on are pairs of residues
pairs_by : (m n col k r : ℕ) (rest : List (ℕ × ℕ)) (b : Bool) → (r == 0) ≡ b → col < n → r < m → ArePairs m n (col + 1) rest
    → ArePairs m n col (if b then rest else (col, r) ∷ rest)
pairs_by m n col k r rest true h l s a = lower m n col rest a
  where
    lower : (m n col : ℕ) (rest : List (ℕ × ℕ)) → ArePairs m n (col + 1) rest → ArePairs m n col rest
    lower m n col [] a = tt
    lower m n col (e ∷ es) (a, b, c, d, rest) = (omega arith, b, c, d, rest)
pairs_by m n col k r rest false h l s a = (omega arith, l, positive r h, s, a)
  where
    positive : (r : ℕ) → (r == 0) ≡ false → 0 < r
    positive zero h = cc
    positive (suc r) h = omega arith

pub pairs_from-pairs : (m n col k : ℕ) (row : ℕ → ℕ) → col + k ≤ n → ((q : ℕ) → q < n → row q < m) → ArePairs m n col (pairs_from col k row)
pairs_from-pairs m n col zero row h f = tt
pairs_from-pairs m n col (suc k) row h f = pairs_by m n col k (row col) (pairs_from (col + 1) k row) (row col == 0) refl (omega arith) (f col
    (omega arith)) (pairs_from-pairs m n (col + 1) k row (omega arith) f)

if-zero : {A : Type 0} (r : ℕ) (x y : A) → r ≡ 0 → (if r == 0 then x else y) ≡ x
if-zero zero x y h = refl
if-zero (suc r) x y h = absurd (omega arith)

some-by : {A : Type 0} (r : ℕ) (x y : A) (b : Bool) → (r == 0) ≡ b → 0 < r → (if b then x else y) ≡ y
some-by r x y true e h = let z : r ≡ 0 = eqb-true r 0 e in absurd (omega arith)
some-by r x y false e h = refl

if-some : {A : Type 0} (r : ℕ) (x y : A) → 0 < r → (if r == 0 then x else y) ≡ y
if-some r x y h = some-by r x y (r == 0) refl h

head_other : (col q r : ℕ) (rest : List (ℕ × ℕ)) (b : Bool) → (col ≡ q → ⊥) → residue_at (if b then rest else (col, r) ∷ rest) q ≡ residue_at rest q
head_other col q r rest true n = refl
head_other col q r rest false n = ap (λ b. (if b then r else 0) + residue_at rest q) (ne_eqb col q n) ∙ omega arith

head_here : (col r : ℕ) (rest : List (ℕ × ℕ)) (b : Bool) → (r == 0) ≡ b → residue_at rest col ≡ 0 → residue_at (if b then rest else (col, r) ∷ rest) col ≡ r
head_here col r rest true h z = z ∙ sym (eqb-true r 0 h)
head_here col r rest false h z = ap (λ b. (if b then r else 0) + residue_at rest col) (eq-eqb col col refl) ∙ omega arith

pairs_from-before : (col k : ℕ) (row : ℕ → ℕ) (q : ℕ) → q < col → residue_at (pairs_from col k row) q ≡ 0
pairs_from-before col zero row q h = refl
pairs_from-before col (suc k) row q h = head_other col q (row col) (pairs_from (col + 1) k row) (row col == 0) (λ e. absurd (omega arith))
    ∙ pairs_from-before (col + 1) k row q (omega arith)

-- what the pairs of a row of residues have at a column
pub pairs_from-residue : (col k : ℕ) (row : ℕ → ℕ) (q : ℕ) → col ≤ q → q < col + k → residue_at (pairs_from col k row) q ≡ row q
pairs_from-residue col zero row q h l = absurd (omega arith)
pairs_from-residue col (suc k) row q h l = elim (cases_eq col q) [
  | inl e ↦ subst (λ c. residue_at (pairs_from col (suc k) row) c
      ≡ row c) e (head_here col (row col) (pairs_from (col + 1) k row) (row col == 0) refl (pairs_from-before (col + 1) k row col (omega arith)))
  | inr n ↦ head_other col q (row col) (pairs_from (col + 1) k row) (row col == 0) n ∙ pairs_from-residue (col + 1) k row q (omega arith) (omega arith)
]

pub pairs_from-same : (col k : ℕ) (p q : ℕ → ℕ) → pairs_from col k p ≡ pairs_from col k q → (c : ℕ) → col ≤ c → c < col + k → p c ≡ q c
pairs_from-same col k p q e c h l = sym (pairs_from-residue col k p c h l) ∙ ap (λ es. residue_at es c) e ∙ pairs_from-residue col k q c h l

-- rows that agree from a column on have the same pairs from there
pairs_from-agree : (col k : ℕ) (p q : ℕ → ℕ) → ((c : ℕ) → col ≤ c → p c ≡ q c) → pairs_from col k p ≡ pairs_from col k q
pairs_from-agree col zero p q f = refl
pairs_from-agree col (suc k) p q f =
    let same = f col (omega arith) in
    let rest = pairs_from-agree (col + 1) k p q (λ c h. f c (omega arith)) in
    λ i. if same i == 0 then rest i else (col, same i) ∷ rest i

pairs_from-none : (col k : ℕ) (p : ℕ → ℕ) → ((c : ℕ) → col ≤ c → p c ≡ 0) → pairs_from col k p ≡ []
pairs_from-none col zero p f = refl
pairs_from-none col (suc k) p f = if-zero (p col) _ _ (f col (omega arith)) ∙ pairs_from-none (col + 1) k p (λ c h. f c (omega arith))

module _ {E : Type 0} (none : E) (has : E → Bool) (value : E → ℕ) (value_zero : value none ≡ 0) (has_zero : has none ≡ true) (value_injective : (a b : E)
    → has a ≡ true → has b ≡ true → value a ≡ value b → a ≡ b) where
  -- an element that is not zero has a residue that is not 0
  some_value : (a : E) → has a ≡ true → a ≢ none → 0 < value a
  some_value a h n = elim (cases_eq (value a) 0) [ inl e ↦ absurd (n (value_injective a none h has_zero (e ∙ sym value_zero))) | inr ne ↦ omega arith ]

  -- the entries of a row are its pairs
  pub pairs_from-entries : (col k : ℕ) (p : List (ℕ × E)) → IsRow (λ c. c) none col p → IsBelow (λ c. c) (col + k) p → AllIn has p
      → pairs_from col k (entry_of (λ c. c) value p) ≡ residue_pairs (λ c. c) value p
  pairs_from-entries col k [] r b i = pairs_from-none col k (entry_of (λ c. c) value []) (λ c h. refl)
  pairs_from-entries col zero (e ∷ es) r b i = let l : col ≤ e.0 = r.0 in let u : e.0 < col + 0 = b.0 in absurd (omega arith)
  pairs_from-entries col (suc k) (e ∷ es) r b i = elim (cases_eq e.0 col) [
    | inl s ↦
        let row = entry_of (λ c. c) value (e ∷ es) in
        let first : row e.0 ≡ value e.1 = entry_of_first (λ c. c) none value col e es r in
        let here : row col ≡ value e.1 = ap row (sym s) ∙ first in
        let some : 0 < row col = omega (arith, here, some_value e.1 i.0 r.1) in
        let behind : IsRow (λ c. c) none (col + 1) es = subst (λ c. IsRow (λ c. c) none (c + 1) es) s r.2 in
        let below : IsBelow (λ c. c) (col + 1 + k) es = below_more (λ c. c) (col + suc k) (col + 1 + k) es (omega arith) b.1 in
        let later : pairs_from (col + 1) k row ≡ pairs_from (col + 1) k (entry_of (λ c. c) value es) =
        pairs_from-agree (col + 1) k row (entry_of (λ c. c) value es) (λ c h. ap (λ t. (if t then value e.1 else 0) + entry_of (λ c. c) value es c)
        (ne_eqb e.0 c (λ q. absurd (omega arith))) ∙ omega arith) in
        let rest = later ∙ pairs_from-entries (col + 1) k es behind below i.1 in
        if-some (row col) _ _ some ∙ (λ j. (sym s j, here j) ∷ rest j)
    | inr n ↦
        let row = entry_of (λ c. c) value (e ∷ es) in
        let l : col ≤ e.0 = r.0 in
        let nothing : row col ≡ 0 = entry_of_before (λ c. c) none value (col + 1) col (e ∷ es) (omega arith, r.1, r.2) (omega arith) in
        if-zero (row col) _ _ nothing ∙ pairs_from-entries (col + 1) k (e ∷ es) (omega arith, r.1, r.2) (below_more (λ c. c) (col + suc k) (col + 1 + k)
        (e ∷ es) (omega arith) b) i
  ]

  -- the pairs of a row are columns with residues
  pub residue_pairs-pairs : (m n low : ℕ) (p : List (ℕ × E)) → ((a : E) → has a ≡ true → value a < m) → IsRow (λ c. c) none low p → IsBelow (λ c. c) n p
      → AllIn has p → ArePairs m n low (residue_pairs (λ c. c) value p)
  residue_pairs-pairs m n low [] f r b i = tt
  residue_pairs-pairs m n low (e ∷ es) f r b i = (r.0, b.0, some_value e.1 i.0 r.1, f e.1 i.0, residue_pairs-pairs m n (e.0 + 1) es f r.2 b.1 i.1)

  pub residue_pairs-injective : (p q : List (ℕ × E)) → AllIn has p → AllIn has q → residue_pairs (λ c. c) value p ≡ residue_pairs (λ c. c) value q → p ≡ q
  residue_pairs-injective [] [] i j e = refl
  residue_pairs-injective [] (y ∷ ys) i j e = cc
  residue_pairs-injective (x ∷ xs) [] i j e = cc
  residue_pairs-injective (x ∷ xs) (y ∷ ys) i j e =
      let first : ◌≡◌ {A = ℕ × ℕ} (x.0, value x.1) (y.0, value y.1) = cc in
      let rest : residue_pairs (λ c. c) value xs ≡ residue_pairs (λ c. c) value ys = cc in
      let col : x.0 ≡ y.0 = ap (λ t. t.0) first in
      let element : x.1 ≡ y.1 = value_injective x.1 y.1 i.0 j.0 (ap (λ t. t.1) first) in
      let same = residue_pairs-injective xs ys i.1 j.1 rest in
      λ k. (col k, element k) ∷ same k
