-- Each row has pairs, and each row of the span of what is offered is written.
use Rattle.std.specs.Prelude.{◌≡◌, ◌≢◌, ◌⊎◌, ℕ, zero, suc, ◌+◌, ◌%◌, ◌<◌, ◌≤◌, if◌then◌else◌, [], ◌∷◌, length}
use Rattle.std.proofs.Common.{refl, sym, ◌∙◌, ap, inl, inr, arith}
use Rattle.std.proofs.Math.Nat.{mod-eq_of_lt}
use Rattle.std.proofs.lemmas.Bool.{cases_eq, cases_lt, eq-eqb, ne_eqb}
use Rattle.zeta_model.specs.Modular.{Same}
use Rattle.column_order.specs.Columns.{ColumnList}
use Rattle.sparse_rows.specs.Entries.{IsRow}
use Rattle.table_model.specs.MonomialWords.{words_of_row}
use Rattle.table_model.specs.Conversion.{IsTable, Converts, IsOver}
use Rattle.table_model.specs.ListedSpan.{InSumSpan}
use Rattle.table_model.specs.ReducedRows.{IsUnbroken}
use Rattle.table_model.proofs.CombinationLaws.{combination_exists}
use Rattle.file_model.specs.Pages.{Work, IsWork, Pairs, IsPairs, IsWritten, pairs_of}
use Rattle.file_model.proofs.WritableWork.{IsWritable, combination_accepted}

later_row : (low high : ℕ) (es : Pairs) → low ≤ high → IsRow (λ k. k) 0 high es → IsRow (λ k. k) 0 low es
later_row low high [] l h = tt
later_row low high (e ∷ es) l h = (omega (arith, l, h.0), h.1, h.2)

-- pairs of the residues from low on, as many as k columns, and what stands before low
record PairsFrom (m : ℕ) (p : ℕ → ℕ) (low k : ℕ) : Type 0 where
  pairs : Pairs
  row : IsRow (λ k. k) 0 low pairs
  before : (q : ℕ) → q < low → pairs_of pairs q ≡ 0
  inside : (q : ℕ) → low ≤ q → q < low + k → pairs_of pairs q ≡ p q % m
  past : (q : ℕ) → low + k ≤ q → pairs_of pairs q ≡ 0

pairs_from : (m : ℕ) (p : ℕ → ℕ) (k low : ℕ) → PairsFrom m p low k
pairs_from m p zero low = record { pairs = []; row = tt; before = λ q l. refl; inside = λ q l h. absurd (omega (arith, l, h)); past = λ q l. refl }
pairs_from m p (suc k) low = go (pairs_from m p k (low + 1)) (cases_eq (p low % m) 0)
  where
    go : PairsFrom m p (low + 1) k → ((p low % m ≡ 0) ⊎ (p low % m ≢ 0)) → PairsFrom m p low (suc k)
    go r (inl none) = record {
      pairs = r.pairs;
      row = later_row low (low + 1) r.pairs (omega arith) r.row;
      before = λ q l. r.before q (omega (arith, l));
      inside = λ q l h. elim (cases_eq q low) [
        | inl at ↦ r.before q (omega (arith, at)) ∙ sym none ∙ ap (λ x. p x % m) (sym at)
        | inr ne ↦ r.inside q (omega arith) (omega (arith, h))
      ];
      past = λ q l. r.past q (omega (arith, l));
    }
    go r (inr some) =
        let here : (q : ℕ) → low ≡ q → pairs_of ((low, p low % m) ∷ r.pairs) q ≡ p low % m + pairs_of r.pairs q =
        λ q e. ap (λ b. (if b then p low % m else 0) + pairs_of r.pairs q) (eq-eqb low q e) in
        let other : (q : ℕ) → ¬ (low ≡ q) → pairs_of ((low, p low % m) ∷ r.pairs) q ≡ 0 + pairs_of r.pairs q =
        λ q ne. ap (λ b. (if b then p low % m else 0) + pairs_of r.pairs q) (ne_eqb low q ne) in
        record {
          pairs = (low, p low % m) ∷ r.pairs;
          row = (omega arith, some, r.row);
          before = λ q l. other q (λ e. absurd (omega (arith, e, l))) ∙ omega (arith, r.before q (omega (arith, l)));
          inside = λ q l h. elim (cases_eq low q) [
            | inl at ↦ here q at ∙ omega (arith, r.before q (omega (arith, at))) ∙ ap (λ x. p x % m) at
            | inr ne ↦ other q ne ∙ omega (arith, r.inside q (omega arith) (omega (arith, h)))
          ];
          past = λ q l. other q (λ e. absurd (omega (arith, e, l))) ∙ omega (arith, r.past q (omega (arith, l)));
        }

pub pairs_exist : (m : ℕ) → 0 < m → (p : ℕ → ℕ) (n : ℕ) → ((q : ℕ) → n ≤ q → Same m (p q) 0) → (pairs : Pairs) × IsPairs m p pairs
pairs_exist m pos p n zeros =
    let r : PairsFrom m p 0 n = pairs_from m p n 0 in
    let none : 0 % m ≡ 0 = mod-eq_of_lt pos in (
      r.pairs,
      record {
        row = r.row;
        residues = λ q. elim (cases_lt q n) [
          | inl l ↦ sym (r.inside q (omega arith) (omega (arith, l)))
          | inr l ↦ zeros q l ∙ none ∙ sym (r.past q (omega (arith, l)))
        ];
      },
    )

-- a row of the span of the first n sums is written
pub written_exists : (m : ℕ) (columns : ColumnList) → IsTable m columns → Converts m columns → (work : Work) → IsWork m columns work
    → IsWritable m columns work → (n : ℕ) → IsUnbroken m columns work.sums n → (p : ℕ → ℕ) → IsOver m columns p
    → InSumSpan m n work.sums (words_of_row columns.list p) → (row combination : Pairs) × IsWritten m columns work n p row combination
written_exists m columns table converts work works writable n un p over offered =
    let big = table.modulus in
    let pos : 0 < m = omega (arith, big) in
    let (c, is) = combination_exists m columns table work.sums works.sums converts n un p offered in
    let beside = writable.beside n c (combination_accepted m columns work.sums n p c is) in
    let (row, hr) = pairs_exist m pos p (length columns.list) over in
    let (combination, hc) = pairs_exist m pos (work.beside c) n beside.within in
    (row, combination, record { is_row = hr; coefficients = c; is_combination = is; is_written = hc })
