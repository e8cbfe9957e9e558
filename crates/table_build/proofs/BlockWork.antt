-- The work on a block, and on blocks in turn.
use Rattle.std.specs.Prelude.{◌≡◌, ℕ, zero, suc, ◌+◌, ◌-◌, ◌*◌, ◌<◌, ◌≤◌, min, Bool, Option, List, [], ◌∷◌, ◌++◌, length, get_or, Result, Ok, Err, OnOk, IfErr}
use Rattle.std.proofs.Common.{refl, sym, ◌∙◌, ap, subst, inl, inr, arith}
use Rattle.std.proofs.lemmas.Bool.{cases_lt}
use Rattle.std.proofs.lemmas.List.{length-append, get_or_append_left, get_or-append_right}
use Rattle.outside_io.specs.Traces.{Trace}
use Rattle.column_order.specs.Columns.{ColumnList}
use Rattle.sparse_rows.specs.Entries.{AllIn, IsBelow}
use Rattle.echelon.specs.Lists.{lead_of, lead_at}
use Rattle.echelon.specs.States.{IsRowList}
use Rattle.table_model.specs.ListedSpan.{count_of}
use Rattle.table_build.specs.Inner.{Course, HasOffered, AreFresh, AreRows, IsAt, IsBlock, Holds}

-- where a call ended well, two facts give a third
pub on_ok_two : {T E : Type 0} (P Q S : Type 0) (r : Result T E) → OnOk r P → OnOk r Q → (P → Q → S) → OnOk r S
on_ok_two P Q S (Ok x) p q f = f p q
on_ok_two P Q S (Err e) p q f = tt

pub on_ok_three : {T E : Type 0} (P Q S U : Type 0) (r : Result T E) → OnOk r P → OnOk r Q → OnOk r S → (P → Q → S → U) → OnOk r U
on_ok_three P Q S U (Ok x) p q s f = f p q s
on_ok_three P Q S U (Err e) p q s f = tt

pub if_err : {T E : Type 0} (P Q : E → Type 0) (r : Result T E) → ((e : E) → P e → Q e) → IfErr r P → IfErr r Q
if_err P Q (Ok x) f p = tt
if_err P Q (Err e) f p = f e p

module _ {E : Type 0} (m : ℕ) (value : E → ℕ) (columns : ColumnList) (course : Course) (number : ℕ) (numbers : List ℕ) (rows : List (List (ℕ × E)))
    (told : Option Trace) (at : IsAt m value columns course number numbers rows told) (some : 64 * number < count_of columns) where
  pub offered_before : (old_numbers : List ℕ) (old_rows : List (List (ℕ × E))) → numbers ≡ old_numbers → rows ≡ old_rows
      → HasOffered m value columns course (64 * number) old_numbers old_rows
  offered_before old_numbers old_rows en er =
      subst (λ xs. HasOffered m value columns course (64 * number) xs old_rows) en
      (subst (λ xs. HasOffered m value columns course (64 * number) numbers xs) er
      (subst (λ k. HasOffered m value columns course k numbers rows) (let z : min (64 * number) (count_of columns) ≡ 64 * number = omega
      (arith, some) in z) at.offered))

  -- the block that is to be sealed
  pub block_at : (end : ℕ) → end ≡ min (64 * number + 64) (count_of columns) → (new_numbers more_numbers : List ℕ)
      (new_rows more_rows uses starts : List (List (ℕ × E)))
      → (old_numbers : List ℕ) (old_rows : List (List (ℕ × E))) → numbers ≡ old_numbers → rows ≡ old_rows → new_numbers ≡ old_numbers ++ more_numbers
      → new_rows ≡ old_rows ++ more_rows → HasOffered m value columns course end new_numbers new_rows
      → AreFresh m value columns course.work (length old_numbers) new_numbers new_rows uses starts
      → IsBlock m value columns course number numbers rows more_numbers more_rows uses starts told
  block_at end stop new_numbers more_numbers new_rows more_rows uses starts old_numbers old_rows en er en_new er_new offered fresh =
      let by_numbers : new_numbers ≡ numbers ++ more_numbers = en_new ∙ ap (λ xs. xs ++ more_numbers) (sym en) in
      let by_rows : new_rows ≡ rows ++ more_rows = er_new ∙ ap (λ xs. xs ++ more_rows) (sym er) in
      record {
        some = some;
        holds = at.holds;
        before = offered_before numbers rows refl refl;
        offered = subst (λ k. HasOffered m value columns course k (numbers ++ more_numbers) (rows ++ more_rows)) stop
            (subst (λ xs. HasOffered m value columns course end xs (rows ++ more_rows)) by_numbers
            (subst (λ xs. HasOffered m value columns course end new_numbers xs) by_rows offered));
        fresh = subst (λ k. AreFresh m value columns course.work k (numbers ++ more_numbers) (rows ++ more_rows) uses starts) (ap length (sym en))
            (subst (λ xs. AreFresh m value columns course.work (length old_numbers) xs (rows ++ more_rows) uses starts) by_numbers
            (subst (λ xs. AreFresh m value columns course.work (length old_numbers) new_numbers xs uses starts) by_rows fresh));
      }

-- the page of the block is sealed, and its rows are kept
pub at_next : {E : Type 0} (m : ℕ) (value : E → ℕ) (columns : ColumnList) (course : Course) (number : ℕ) (numbers : List ℕ) (rows : List (List (ℕ × E)))
    (more_numbers : List ℕ) (more_rows uses starts : List (List (ℕ × E))) (told now : Option Trace)
    → IsBlock m value columns course number numbers rows more_numbers more_rows uses starts told
    → (new_numbers : List ℕ) (new_rows : List (List (ℕ × E))) → new_numbers ≡ numbers ++ more_numbers → new_rows ≡ rows ++ more_rows
    → Holds course.pages (2 + number) now → IsAt m value columns course (1 + number) new_numbers new_rows now
at_next m value columns course number numbers rows more_numbers more_rows uses starts told now block new_numbers new_rows en er holds =
    let same : min (64 * number + 64) (count_of columns) ≡ min (64 * (1 + number)) (count_of columns) =
    ap (λ k. min k (count_of columns)) (let z : 64 * number + 64 ≡ 64 * (1 + number) = omega arith in z) in
    record {
      offered = subst (λ k. HasOffered m value columns course k new_numbers new_rows) same
          (subst (λ xs. HasOffered m value columns course (min (64 * number + 64) (count_of columns)) xs new_rows) (sym en)
          (subst (λ xs. HasOffered m value columns course (min (64 * number + 64) (count_of columns)) (numbers ++ more_numbers) xs) (sym er) block.offered));
      holds = subst (λ k. Holds course.pages k now) (let z : 2 + number ≡ 1 + (1 + number) = omega arith in z) holds;
    }

module _ {E : Type 0} (has : E → Bool) where
  -- rows behind others, of greater numbers
  pub rows_joined : (low high : ℕ) (numbers more_numbers : List ℕ) (rows more_rows : List (List (ℕ × E))) → AreRows has low numbers rows
      → AreRows has high more_numbers more_rows → low ≤ high → ((i : ℕ) → i < length more_numbers → low ≤ get_or more_numbers i 0)
      → AreRows has high (numbers ++ more_numbers) (rows ++ more_rows)
  rows_joined low high numbers more_numbers rows more_rows are more order behind =
      let count_numbers : length (numbers ++ more_numbers) ≡ length numbers + length more_numbers = length-append numbers more_numbers in
      let count_rows : length (rows ++ more_rows) ≡ length rows + length more_rows = length-append rows more_rows in
      record {
        count = omega (arith, count_numbers, count_rows, are.count, more.count);
        in_ring = λ i l. elim (cases_lt i (length rows)) [
          | inl front ↦ subst (AllIn has) (sym (get_or_append_left rows more_rows [] i front)) (are.in_ring i front)
          | inr past ↦ subst (AllIn has) (sym (get_or-append_right rows more_rows (length rows) i [] refl past))
              (more.in_ring (i - length rows) (omega (arith, l, past, count_rows)))
        ];
        rising = λ i k lik lk. elim (cases_lt k (length numbers)) [
          | inl front ↦ omega (
            arith,
            are.rising i k lik front,
            get_or_append_left numbers more_numbers 0 i (omega (arith, lik, front)),
            get_or_append_left numbers more_numbers 0 k front,
          )
          | inr past ↦
              let at : get_or (numbers ++ more_numbers) k 0 ≡ get_or more_numbers (k - length numbers) 0 =
              get_or-append_right numbers more_numbers (length numbers) k 0 refl past in
              elim (cases_lt i (length numbers)) [
                | inl low_i ↦ omega (
                  arith,
                  at,
                  get_or_append_left numbers more_numbers 0 i low_i,
                  are.below i low_i,
                  behind (k - length numbers) (omega (arith, lk, past, count_numbers)),
                )
                | inr past_i ↦ omega (
                  arith,
                  at,
                  get_or-append_right numbers more_numbers (length numbers) i 0 refl past_i,
                  more.rising (i - length numbers) (k - length numbers) (omega (arith, lik, past_i)) (omega (arith, lk, past, count_numbers)),
                )
              ]
        ];
        below = λ i l. elim (cases_lt i (length numbers)) [
          | inl front ↦ omega (arith, get_or_append_left numbers more_numbers 0 i front, are.below i front, order)
          | inr past ↦ omega (
            arith,
            get_or-append_right numbers more_numbers (length numbers) i 0 refl past,
            more.below (i - length numbers) (omega (arith, l, past, count_numbers)),
          )
        ];
      }

  pub rows_of_block : (low high : ℕ) (numbers more_numbers new_numbers : List ℕ) (rows more_rows new_rows : List (List (ℕ × E))) → AreRows has low numbers rows
      → AreRows has high more_numbers more_rows → low ≤ high → ((i : ℕ) → i < length more_numbers → low ≤ get_or more_numbers i 0)
      → new_numbers ≡ numbers ++ more_numbers → new_rows ≡ rows ++ more_rows → (bound : ℕ) → high ≤ bound → AreRows has bound new_numbers new_rows
  rows_of_block low high numbers more_numbers new_numbers rows more_rows new_rows are more order behind en er bound within =
      let all = rows_joined low high numbers more_numbers rows more_rows are more order behind in
      subst (λ xs. AreRows has bound xs new_rows) (sym en) (subst (λ xs. AreRows has bound (numbers ++ more_numbers) xs) (sym er)
      (record { count = all.count; in_ring = all.in_ring; rising = all.rising; below = λ i l. omega (arith, all.below i l, within) }))

-- no more reduced rows than columns
pub rows_few : {E : Type 0} (m : ℕ) (has : E → Bool) (value : E → ℕ) (nothing : E) (columns : ℕ) (rows : List (List (ℕ × E)))
    → IsRowList m has value nothing columns rows → length rows ≤ columns
rows_few {E = E} m has value nothing columns rows list = few (length rows) refl
  where
    rising : (i : ℕ) → i < length rows → i ≤ lead_at rows i
    rising zero l = omega arith
    rising (suc i) l = let r = list.reduced in omega (arith, rising i (omega (arith, l)), r.rising i (suc i) (omega arith) l)

    lead_below : (row : List (ℕ × E)) → 0 < length row → IsBelow (λ k. k) columns row → lead_of row < columns
    lead_below [] some below = absurd (omega (arith, some))
    lead_below (e ∷ es) some below = below.0

    few : (k : ℕ) → k ≡ length rows → length rows ≤ columns
    few zero e = omega (arith, e)
    few (suc i) e =
        let fits = list.fit i (omega (arith, e)) in
        omega (arith, e, rising i (omega (arith, e)), lead_below (get_or rows i []) fits.some fits.below)
