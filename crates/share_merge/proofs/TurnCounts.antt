-- There are not too many turns, and each row of a share that counts has one.
use Rattle.std.specs.Prelude.{◌≡◌, ℕ, zero, suc, ◌+◌, ◌*◌, ◌<◌, ◌≤◌, Bool, Some, List, [], ◌∷◌, ◌++◌, length, get_or, slice_get, take, All}
use Rattle.std.proofs.Common.{refl, sym, ◌∙◌, ap, inl, inr, arith}
use Rattle.std.specs.List.{flat_map, sum_by, Contains}
use Rattle.std.proofs.lemmas.Bool.{cases_lt}
use Rattle.std.proofs.lemmas.List.{length-append, get_or_append_left}
use Rattle.std.proofs.lemmas.List.Concat.{length-flat_map, get_or-flat_map}
use Rattle.std.proofs.lemmas.List.Folds.{length-flat_map-take}
use Rattle.std.proofs.lemmas.List.Sums.{sum_by-le}
use Rattle.std.proofs.lemmas.Option.{slice_get-get_or}
use Rattle.echelon.specs.Lists.{row_at, lead_at}
use Rattle.lyndon_polys.specs.Tables.{RingTable}
use Rattle.table_model.specs.Conversion.{IsTable, Converts}
use Rattle.table_model.proofs.CompleteRows.{listed_value-table}
use Rattle.file_model.proofs.AcceptedNumbers as numbers
use Rattle.share_model.specs.Checked.{Checked}
use Rattle.share_model.specs.Dealing.{share_values, share_size}
use Rattle.share_model.proofs.ShareResults.{result_is_reduced_rows}
use Rattle.share_build.proofs.KeptCombinations.{last_one}
use Rattle.share_merge.specs.Turns.{Turn, IsShareOf, AreSharesOf, share_count, counted, first_rows, turns_of}
use Rattle.share_merge.specs.Inner.{IsOwn}
use Rattle.share_merge.proofs.CountedShares.{counted_all, counted_few}
use Rattle.share_merge.proofs.TurnRows.{IsSound, sound, result}

module _ {R E : Type 0} where
  abbrev rows_of : Checked R E → List (Turn R E)
  rows_of c = first_rows c (length c.list.rows)

  length-first_rows : (c : Checked R E) (n : ℕ) → length (first_rows c n) ≡ n
  length-first_rows c zero = refl
  length-first_rows c (suc n) = length-append (first_rows c n) (record { share = c; row = n } ∷ []) ∙ omega (arith, length-first_rows c n)

  -- the first rows, each at its place
  first_row : (c : Checked R E) (n i : ℕ) (d : Turn R E) → i < n → get_or (first_rows c n) i d ≡ record { share = c; row = i }
  first_row c zero i d l = absurd (omega (arith, l))
  first_row c (suc n) i d l = elim (cases_lt i n) [
    | inl less ↦ get_or_append_left (first_rows c n) (record { share = c; row = n } ∷ []) d i (omega (arith, less, length-first_rows c n))
        ∙ first_row c n i d less
    | inr late ↦
        let at : i ≡ length (first_rows c n) = omega (arith, l, late, length-first_rows c n) in
        let own : i ≡ n = omega (arith, l, late) in
        let e : Turn R E = record { share = c; row = n } in
        ap (λ k. get_or (first_rows c n ++ e ∷ []) k d) at ∙ last_one (first_rows c n) e d ∙ ap (λ k. record { share = c; row = k }) (sym own)
  ]

  -- the turn of a row of a share of the list
  pub turn_of_row : (cs : List (Checked R E)) (c : Checked R E) → Contains cs c → (i : ℕ) → i < length c.list.rows
      → (t : ℕ) × (slice_get (flat_map (λ (x : Checked R E). first_rows x (length x.list.rows)) cs) t ≡ Some (record { share = c; row = i }))
  turn_of_row cs c (k, l, at) i inside =
      let before : ℕ = length (flat_map rows_of (take k cs)) in
      let d : Turn R E = record { share = c; row = 0 } in
      let own : length (rows_of (get_or cs k c)) ≡ length c.list.rows =
      ap (λ x. length (rows_of x)) at ∙ length-first_rows c (length c.list.rows) in
      let within : before + length (rows_of (get_or cs k c)) ≤ length (flat_map rows_of cs) = length-flat_map-take rows_of cs k c l in (
        before + i,
        slice_get-get_or (flat_map rows_of cs) (before + i) d (omega (arith, within, own, inside))
            ∙ ap (λ x. Some x) (get_or-flat_map rows_of cs k i c d l (omega (arith, own, inside)) ∙ ap (λ x. get_or (rows_of x) i d) at
            ∙ first_row c (length c.list.rows) i d inside),
      )

module _ {R E : Type 0} (modulus : R → ℕ) (has : R → E → Bool) (value : R → E → ℕ) (table : RingTable R) (shares : ℕ) (list : List (Checked R E))
    (all : AreSharesOf table shares list) (own : All (IsOwn modulus has value) (counted list)) where
  -- each share that counts is of the table, and checked
  pub counted_sound : (k : ℕ) (d : Checked R E) → k < length (counted list) → IsSound modulus has value table shares (get_or (counted list) k d)
  counted_sound k d l =
      sound modulus has value table shares (get_or (counted list) k d) (counted_all (IsShareOf table shares) list all k d l) (own k d l)

  module _ (is_table : IsTable (modulus table.ring) table.columns) (converts : Converts (modulus table.ring) table.columns) where
    -- no more rows than columns
    rows_few : (c : Checked R E) → IsSound modulus has value table shares c → length c.list.rows ≤ length table.columns.list
    rows_few c h =
        let m = modulus table.ring in
        let checked = h.checked in
        let id = checked.id in
        let r = result modulus has value table shares c h in
        numbers.counted_few m table.columns is_table (share_values m table.columns c.id.index c.id.of)
        (λ k. listed_value-table m table.columns is_table (c.id.index + c.id.of * k)) converts (share_size table.columns c.id.index c.id.of)
        (length c.list.rows) (
          lead_at c.list.rows,
          row_at (value table.ring) c.list.rows,
          result_is_reduced_rows m table.columns is_table converts c.id.index c.id.of id.below (length c.list.rows) (lead_at c.list.rows)
              (row_at (value table.ring) c.list.rows) (row_at (value table.ring) c.combinations) r,
        )

    pub turns_few : length table.columns.list ≤ 2048 → length (turns_of list) ≤ 524288
    turns_few columns =
        let few : length (counted list) ≤ 256 =
        counted_few 256 list (λ k d l. let h = counted_sound k d l in let checked = h.checked in let id = checked.id in omega (arith, id.below, id.few)) in
        let each : sum_by (λ (c : Checked R E). length (rows_of c)) (counted list) ≤ length (counted list) * 2048 =
        sum_by-le (λ (c : Checked R E). length (rows_of c)) 2048 (counted list) (λ k d l.
        let c = get_or (counted list) k d in
        omega (arith, length-first_rows c (length c.list.rows), rows_few c (counted_sound k d l), columns)) in
        omega (arith, few, each, length-flat_map rows_of (counted list))

-- the first share counts, so that there is one share or more
pub share_count_some : {R E : Type 0} (modulus : R → ℕ) (has : R → E → Bool) (value : R → E → ℕ) (list : List (Checked R E)) → 0 < length list
    → All (IsOwn modulus has value) (counted list) → 0 < share_count list
share_count_some modulus has value [] some own = some
share_count_some modulus has value (c ∷ cs) some own = let checked = own 0 c (omega arith) in let id = checked.id in omega (arith, id.some)
