-- Rows of elements that are read out of lists of pages, one after the other.
use Rattle.std.proofs.Common.{◌≡◌, ℕ, ◌+◌, ◌<◌, ◌≤◌, ◌⊎◌, inl, inr, Bool, List, [], ◌∷◌, ◌++◌, length, take, get_or}
use Rattle.std.proofs.Common.{sym, ◌∙◌, ap, subst, refl, arith, length-append}
use Rattle.std.proofs.lemmas.Bool.{cases_lt}
use Rattle.std.proofs.lemmas.List.{length-map, map-append, take_more, get_or_push}
use Rattle.std.proofs.Math.ListN.{get_or-map, get_or-append}
use Rattle.sparse_rows.specs.Entries.{IsRow, IsBelow, AllIn}
use Rattle.page_rows.specs.Written.{written}
use Rattle.page_rows.proofs.Writing.{bound-written, entry_of-written}
use Rattle.echelon.specs.Lists.{lead_of, lead_at, row_at}
use Rattle.file_model.specs.Pages.{pairs_of}
use Rattle.cert_checker.specs.Verdicts.{AreWithin}
use Rattle.share_check.specs.Inner.{AreRead}

module _ {E : Type 0} (nought : E) (has : E → Bool) (value : E → ℕ) where
  pub read_none : AreRead nought has value [] []
  read_none = record { are_written = refl; is_row = λ i l. absurd (omega arith); in_ring = λ i l. absurd (omega arith) }

  -- what holds of the rows so far and of one more
  pushed : (P : List (ℕ × E) → Type 0) (rows : List (List (ℕ × E))) (row : List (ℕ × E)) → ((i : ℕ) → i < length rows → P (get_or rows i [])) → P row
      → (i : ℕ) → i < length (rows ++ row ∷ []) → P (get_or (rows ++ row ∷ []) i [])
  pushed P rows row each one i l = by (cases_lt i (length rows))
    where
      by : (i < length rows) ⊎ (length rows ≤ i) → P (get_or (rows ++ row ∷ []) i [])
      by (inl less) = subst P (sym (get_or-append rows (row ∷ []) [] i less)) (each i less)
      by (inr late) =
          let last : length rows ≡ i = omega (arith, l, length-append rows (row ∷ [])) in
          subst P (sym (get_or_push rows row [] i last)) one

  pub read_more : (lists : List (List (ℕ × ℕ))) (i : ℕ) (rows : List (List (ℕ × E))) (row : List (ℕ × E)) → i < length lists
      → AreRead nought has value (take i lists) rows → written value row ≡ get_or lists i [] → IsRow (λ k. k) nought 0 row → AllIn has row
      → AreRead nought has value (take (i + 1) lists) (rows ++ row ∷ [])
  read_more lists i rows row l are is_written is_row in_ring = record {
    are_written = map-append (written value) rows (row ∷ []) ∙ (λ j. are.are_written j ++ is_written j ∷ []) ∙ sym (take_more lists i [] l);
    is_row = pushed (IsRow (λ k. k) nought 0) rows row are.is_row is_row;
    in_ring = pushed (AllIn has) rows row are.in_ring in_ring;
  }

  module _ (lists : List (List (ℕ × ℕ))) (rows : List (List (ℕ × E))) (are : AreRead nought has value lists rows) where
    pub as_many_read : length rows ≡ length lists
    as_many_read = sym (length-map rows (written value)) ∙ ap length are.are_written

    pub row_written : (i : ℕ) → written value (get_or rows i []) ≡ get_or lists i []
    row_written i = sym (get_or-map (written value) rows i []) ∙ ap (λ xs. get_or xs i []) are.are_written

    pub same_rows : row_at value rows ≡ (λ i. pairs_of (get_or lists i []))
    same_rows = λ j i col. (sym (entry_of-written (λ k. k) nought has value (get_or rows i []) col) ∙ ap (λ es. pairs_of es col) (row_written i)) j

    lead-written : (row : List (ℕ × E)) → lead_of row ≡ lead_of (written value row)
    lead-written [] = refl
    lead-written (e ∷ es) = refl

    pub same_leads : lead_at rows ≡ (λ i. lead_of (get_or lists i []))
    same_leads = λ j i. (lead-written (get_or rows i []) ∙ ap lead_of (row_written i)) j

    -- their bound is that of what is written
    pub read_within : (high : ℕ) → ((i : ℕ) → i < length lists → IsBelow (λ k. k) high (get_or lists i [])) → AreWithin nought has high rows
    read_within high below = record {
      is_row = are.is_row;
      below = λ i l.
          (bound-written (λ k. k) nought has value (get_or rows i []) high).0
          (subst (IsBelow (λ k. k) high) (sym (row_written i)) (below i (omega (arith, l, as_many_read))));
      in_ring = are.in_ring;
    }

-- what is read over a ring of equal entries is read over an equal ring
pub moved-read : {R E A : Type 0} (nought : E) (has : R → E → Bool) (value : R → E → ℕ) (r s : R) → r ≡ s → (lists : A → List (List (ℕ × ℕ))) (a b : A) → a ≡ b
    → (rows : List (List (ℕ × E))) → AreRead nought (has r) (value r) (lists a) rows → AreRead nought (has s) (value s) (lists b) rows
moved-read nought has value r s rings lists a b same rows are =
    subst (λ x. AreRead nought (has s) (value s) (lists x) rows) same (subst (λ x. AreRead nought (has x) (value x) (lists a) rows) rings are)
