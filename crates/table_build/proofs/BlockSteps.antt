-- A block of relations, with one relation more.
use Rattle.std.specs.Prelude.{◌≡◌, ◌≢◌, ℕ, suc, ◌≤◌, Bool, true, List, [], ◌∷◌, ◌++◌, length, get_or}
use Rattle.std.proofs.Common.{refl, sym, ◌∙◌, ap, subst, inl, inr, arith}
use Rattle.std.proofs.lemmas.Bool.{cases_lt}
use Rattle.std.proofs.lemmas.List.{length-append, append_assoc, append-nil, get_or_append_left}
use Rattle.column_order.specs.Columns.{ColumnList}
use Rattle.sparse_rows.specs.Entries.{AllIn}
use Rattle.echelon.specs.Lists.{entries_of, row_at}
use Rattle.echelon.specs.Offers.{used_at}
use Rattle.echelon.specs.declared.row_echelon.Traced.{Traced}
use Rattle.echelon.specs.declared.row_echelon.Traced.TheVariants.{Zero, Accepted}
use Rattle.echelon.specs.Traces.{IfZero, IfAccepted}
use Rattle.table_build.specs.Inner.{Course, HasOffered, HasBlock, IsMadeOf}
use Rattle.table_build.proofs.GrownLists.{last_one, length-last}
use Rattle.table_build.proofs.OfferedBlocks.{fresh_more, sums_more, rows_more, rows_above}

module _ {E : Type 0} (m : ℕ) (has : E → Bool) (value : E → ℕ) (columns : ColumnList) (first n : ℕ) (before_numbers : List ℕ)
    (before_rows : List (List (ℕ × E)))
    (low : first ≤ n) where
  -- a block without relations
  pub no_block : n ≡ first → HasBlock m has value columns first n before_numbers before_rows before_numbers before_rows [] [] [] []
  no_block e = record {
    numbers_are = sym (append-nil before_numbers);
    rows_are = sym (append-nil before_rows);
    sums = record {
      uses_count = refl;
      starts_count = refl;
      uses_in_ring = λ i l. absurd (omega (arith, l));
      starts_in_ring = λ i l. absurd
          (omega (arith, l));
    };
    placed = record {
      count = refl;
      in_ring = λ i l. absurd (omega (arith, l));
      rising = λ i k l h. absurd (omega (arith, h));
      below = λ i l. absurd
          (omega (arith, l));
    };
    behind = λ i l. absurd (omega (arith, l));
    offered = λ course h. subst (λ x. HasOffered m value columns course x before_numbers before_rows) (sym e) h;
    fresh = λ course h j l. absurd (omega (arith, l));
  }

  pub empty_block : n ≡ first → (block_numbers : List ℕ) (block_rows uses starts : List (List (ℕ × E))) → block_numbers ≡ [] → block_rows ≡ []
      → starts ≡ [] → uses ≡ []
      → HasBlock m has value columns first n before_numbers before_rows before_numbers before_rows block_numbers block_rows uses starts
  empty_block e block_numbers block_rows uses starts en er es eu =
      subst (λ xs. HasBlock m has value columns first n before_numbers before_rows before_numbers before_rows xs block_rows uses starts) (sym en)
      (subst (λ xs. HasBlock m has value columns first n before_numbers before_rows before_numbers before_rows [] xs uses starts) (sym er)
      (subst (λ xs. HasBlock m has value columns first n before_numbers before_rows before_numbers before_rows [] [] xs starts) (sym eu)
      (subst (λ xs. HasBlock m has value columns first n before_numbers before_rows before_numbers before_rows [] [] [] xs) (sym es) (no_block e))))

  module _ (numbers : List ℕ) (rows : List (List (ℕ × E))) (block_numbers : List ℕ) (block_rows uses starts : List (List (ℕ × E)))
      (so_far : HasBlock m has value columns first n before_numbers before_rows numbers rows block_numbers block_rows uses starts) where
    skipped : ((course : Course) → HasOffered m value columns course n numbers rows → HasOffered m value columns course (suc n) numbers rows)
        → HasBlock m has value columns first (suc n) before_numbers before_rows numbers rows block_numbers block_rows uses starts
    skipped next = record {
      numbers_are = so_far.numbers_are;
      rows_are = so_far.rows_are;
      sums = so_far.sums;
      placed = rows_above has n (suc n) block_numbers block_rows (omega arith) so_far.placed;
      behind = so_far.behind;
      offered = λ course h. next course (so_far.offered course h);
      fresh = so_far.fresh;
    }

    taken : (row used : List (ℕ × E)) (scale : E) → has scale ≡ true → AllIn has used → AllIn has row
        → ((course : Course) → HasOffered m value columns course n numbers rows → HasOffered m value columns course (suc n) (numbers ++ n ∷ [])
        (rows ++ row ∷ []))
        → ((course : Course) → HasOffered m value columns course n numbers rows → IsMadeOf m columns course.work (suc n) (length rows) (row_at value rows)
        (entries_of value row) (entries_of value ((n, scale) ∷ [])) (used_at value numbers used))
        → HasBlock m has value columns first (suc n) before_numbers before_rows (numbers ++ n ∷ []) (rows ++ row ∷ []) (block_numbers ++ n ∷ [])
        (block_rows ++ row ∷ []) (uses ++ used ∷ []) (starts ++ ((n, scale) ∷ []) ∷ [])
    taken row used scale in_scale in_use in_row next made =
        let sums = so_far.sums in
        record {
          numbers_are = ap (λ xs. xs ++ n ∷ []) so_far.numbers_are ∙ append_assoc before_numbers block_numbers (n ∷ []);
          rows_are = ap (λ xs. xs ++ row ∷ []) so_far.rows_are ∙ append_assoc before_rows block_rows (row ∷ []);
          sums = sums_more has block_numbers n uses starts used ((n, scale) ∷ []) sums in_use (in_scale, tt);
          placed = rows_more has n block_numbers block_rows row so_far.placed in_row;
          behind = λ i l. elim (cases_lt i (length block_numbers)) [
            | inl front ↦ omega (arith, get_or_append_left block_numbers (n ∷ []) 0 i front, so_far.behind i front)
            | inr past ↦
                let at : i ≡ length block_numbers = omega (arith, l, past, length-last block_numbers n) in
                let here : get_or (block_numbers ++ n ∷ []) i 0 ≡ n = ap (λ k. get_or (block_numbers ++ n ∷ []) k 0) at ∙ last_one block_numbers n 0 in
                omega (arith, here, low)
          ];
          offered = λ course h. next course (so_far.offered course h);
          fresh = λ course h.
              let there = so_far.offered course h in
              fresh_more m value columns course.work (length before_numbers) numbers rows uses starts there.count
              (omega (arith, ap length so_far.numbers_are, length-append before_numbers block_numbers, sums.uses_count))
              (sums.starts_count ∙ sym sums.uses_count) n row used ((n, scale) ∷ []) (so_far.fresh course h) (made course there);
        }

    module _ {R A : Type 0} (zero : E) (new_numbers : List ℕ) (new_rows : List (List (ℕ × E))) (now_numbers : List ℕ)
        (now_rows now_uses now_starts : List (List (ℕ × E)))
        (next : (course : Course) → HasOffered m value columns course n numbers rows → HasOffered m value columns course (suc n) new_numbers new_rows) where
      -- as the offer and the block answer
      pub block_step : (traced : Traced R E A) → IfZero traced ((new_numbers ≡ numbers) × (new_rows ≡ rows))
          → IfAccepted traced (λ row scale used. (new_numbers ≡ numbers ++ n ∷ []) × (new_rows ≡ rows ++ row ∷ []) × (has scale ≡ true) × (scale ≢ zero)
          × AllIn has used × AllIn has row)
          → ((course : Course) → HasOffered m value columns course n numbers rows
          → IfAccepted traced (λ row scale used. IsMadeOf m columns course.work (suc n) (length rows)
          (row_at value rows) (entries_of value row) (entries_of value ((n, scale) ∷ [])) (used_at value numbers used)))
          → IfZero traced ((now_numbers ≡ block_numbers) × (now_rows ≡ block_rows) × (now_starts ≡ starts) × (now_uses ≡ uses))
          → IfAccepted traced (λ row scale used. (now_numbers ≡ block_numbers ++ n ∷ []) × (now_rows ≡ block_rows ++ row ∷ [])
          × (now_starts ≡ starts ++ ((n, scale) ∷ []) ∷ []) × (now_uses ≡ uses ++ used ∷ []))
          → HasBlock m has value columns first (suc n) before_numbers before_rows new_numbers new_rows now_numbers now_rows now_uses now_starts
      block_step Zero offer_zero offer_one made take_zero take_one =
          let done = skipped (λ course h. subst (λ xs. HasOffered m value columns course (suc n) xs rows) offer_zero.0
          (subst (λ ys. HasOffered m value columns course (suc n) new_numbers ys) offer_zero.1 (next course h))) in
          subst (λ xs. HasBlock m has value columns first (suc n) before_numbers before_rows xs new_rows now_numbers now_rows now_uses now_starts)
          (sym offer_zero.0)
          (subst (λ xs. HasBlock m has value columns first (suc n) before_numbers before_rows numbers xs now_numbers now_rows now_uses now_starts)
          (sym offer_zero.1)
          (subst (λ xs. HasBlock m has value columns first (suc n) before_numbers before_rows numbers rows xs now_rows now_uses now_starts) (sym take_zero.0)
          (subst (λ xs. HasBlock m has value columns first (suc n) before_numbers before_rows numbers rows block_numbers xs now_uses now_starts)
          (sym take_zero.1)
          (subst (λ xs. HasBlock m has value columns first (suc n) before_numbers before_rows numbers rows block_numbers block_rows now_uses xs)
          (sym take_zero.2)
          (subst (λ xs. HasBlock m has value columns first (suc n) before_numbers before_rows numbers rows block_numbers block_rows xs starts)
          (sym take_zero.3) done)))))
      block_step (Accepted row scale used) offer_zero offer_one made take_zero take_one =
          let Numbers = numbers ++ n ∷ [] in
          let Rows = rows ++ row ∷ [] in
          let done = taken row used scale offer_one.2 offer_one.4 offer_one.5
          (λ course h. subst (λ xs. HasOffered m value columns course (suc n) xs Rows) offer_one.0
          (subst (λ ys. HasOffered m value columns course (suc n) new_numbers ys) offer_one.1 (next course h))) made in
          subst (λ xs. HasBlock m has value columns first (suc n) before_numbers before_rows xs new_rows now_numbers now_rows now_uses now_starts)
          (sym offer_one.0)
          (subst (λ xs. HasBlock m has value columns first (suc n) before_numbers before_rows Numbers xs now_numbers now_rows now_uses now_starts)
          (sym offer_one.1)
          (subst (λ xs. HasBlock m has value columns first (suc n) before_numbers before_rows Numbers Rows xs now_rows now_uses now_starts) (sym take_one.0)
          (subst (λ xs. HasBlock m has value columns first (suc n) before_numbers before_rows Numbers Rows
          (block_numbers ++ n ∷ []) xs now_uses now_starts) (sym take_one.1)
          (subst (λ xs. HasBlock m has value columns first (suc n) before_numbers before_rows Numbers Rows (block_numbers ++ n ∷ [])
          (block_rows ++ row ∷ []) now_uses xs)
          (sym take_one.2)
          (subst (λ xs. HasBlock m has value columns first (suc n) before_numbers before_rows Numbers Rows (block_numbers ++ n ∷ []) (block_rows ++ row ∷ []) xs
          (starts ++ ((n, scale) ∷ []) ∷ [])) (sym take_one.3) done)))))
