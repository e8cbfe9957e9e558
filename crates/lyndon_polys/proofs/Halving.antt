-- Looking for a word by halves among words that increase.
use Rattle.std.specs.Prelude.{◌≡◌, ℕ, zero, suc, ◌+◌, ◌<◌, ◌≤◌, List, [], ◌∷◌, length, get_or, Contains}
use Rattle.std.proofs.Common.{refl, true, sym, ◌∙◌, ap, subst, inl, inr, arith}
use Rattle.std.proofs.lemmas.Bool.{cases_order}
use Rattle.std.proofs.lemmas.List.{get_or_default}
use Rattle.std.proofs.lemmas.Map.Keys.{Less-from_sorted}
use Rattle.std.specs.Cmp.{IsTotalOrder}
use Rattle.std.specs.List.Sorted.{IsStrictlySortedBy}
use Rattle.std.specs.Map.{keys_of}
use Rattle.std.specs.Ordering.{ordering_reverse}
use Rattle.std.specs.declared.cmp.Ordering.TheVariants.{Less, Equal, Greater}
use Rattle.zeta_model.specs.declared.Letter.{Letter}
use Rattle.zeta_model.specs.Sums.{same_word}
use Rattle.zeta_model.specs.Words.{word_cmp}
use Rattle.zeta_model.proofs.WordOrder.{word_cmp_total, word_cmp-IsAntisymmetric, same_word-one}
use Rattle.lyndon_polys.proofs.EarliestFaults.{not_before_itself, before_through}

abbrev Word : Type 0
Word = List Letter

module _ {X : Type 0} where
  pub length-keys_of : (rows : List (Word × X)) → length (keys_of rows) ≡ length rows
  length-keys_of [] = refl
  length-keys_of (r ∷ rows) = ap suc (length-keys_of rows)

  pub key_at : (rows : List (Word × X)) (k : ℕ) (d : Word × X) → k < length rows → get_or (keys_of rows) k [] ≡ (get_or rows k d).0
  key_at [] k d h = absurd (omega arith)
  key_at (r ∷ rows) zero d h = refl
  key_at (r ∷ rows) (suc k) d h = key_at rows k d (omega arith)

  -- the word stands nowhere but between the places
  abbrev pub Between : List (Word × X) → Word → ℕ → ℕ → Type 0
  Between rows word low high = (i : ℕ) → i < length rows → get_or (keys_of rows) i [] ≡ word → (low ≤ i) × (i < high)

  module _ (rows : List (Word × X)) (sorted : IsStrictlySortedBy word_cmp (keys_of rows)) (word : Word) (low high middle : ℕ)
      (between : Between rows word low high)
      (row : Word × X) (is : row ≡ get_or rows middle row) (within : middle < length rows) where
    key : get_or (keys_of rows) middle [] ≡ row.0
    key = key_at rows middle row within ∙ ap (λ (r : Word × X). r.0) (sym is)

    rises : (i j : ℕ) → i < j → j < length rows → word_cmp (get_or (keys_of rows) i []) (get_or (keys_of rows) j []) ≡ Less
    rises i j l h = Less-from_sorted word_cmp (keys_of rows) i j [] sorted l (omega (arith, length-keys_of rows))

    pub above_middle : word_cmp row.0 word ≡ Less → Between rows word (middle + 1) high
    above_middle less i l e = elim (cases_order i middle) [
      | inl same ↦ absurd (not_before_itself word
          (subst (λ v. word_cmp v word ≡ Less) (sym key ∙ ap (λ k. get_or (keys_of rows) k []) (sym same) ∙ e) less))
      | inr o ↦ elim o [
        | inl before ↦
            let up : word_cmp word row.0 ≡ Less =
            subst (λ v. word_cmp v row.0 ≡ Less) e (subst (λ v. word_cmp (get_or (keys_of rows) i []) v ≡ Less) key (rises i middle before within)) in
            absurd (not_before_itself word (before_through word row.0 word up less))
        | inr behind ↦ (omega arith, (between i l e).1)
      ]
    ]

    pub below_middle : word_cmp row.0 word ≡ Greater → Between rows word low middle
    below_middle greater i l e =
        let o : IsTotalOrder word_cmp = word_cmp_total in
        let less : word_cmp word row.0 ≡ Less = o.antisymm word row.0 ∙ ap ordering_reverse greater in
        elim (cases_order i middle) [
          | inl same ↦ absurd (not_before_itself word
              (subst (λ v. word_cmp word v ≡ Less) (sym key ∙ ap (λ k. get_or (keys_of rows) k []) (sym same) ∙ e) less))
          | inr o ↦ elim o [
            | inl before ↦ ((between i l e).0, before)
            | inr behind ↦
                let up : word_cmp row.0 word ≡ Less =
                subst (λ v. word_cmp row.0 v ≡ Less) e (subst (λ v. word_cmp v (get_or (keys_of rows) i []) ≡ Less) key (rises middle i behind l)) in
                absurd (not_before_itself word (before_through word row.0 word less up))
          ]
        ]

    pub at_middle : word_cmp row.0 word ≡ Equal → Contains rows (word, row.1)
    at_middle equal =
        let same : row.0 ≡ word = word_cmp-IsAntisymmetric row.0 word equal in
        subst (λ v. Contains rows (v, row.1)) same (middle, within, sym is)

  pub none_between : (rows : List (Word × X)) (word : Word) (low high : ℕ) → Between rows word low high → high ≤ low → ¬ (Contains (keys_of rows) word)
  none_between rows word low high between past (k, l, e) =
      let at : (low ≤ k) × (k < high) = between k (omega (arith, l, length-keys_of rows)) (get_or_default (keys_of rows) k [] word l ∙ e) in
      absurd (omega (arith, at.0, at.1))

  pub all_between : (rows : List (Word × X)) (word : Word) → Between rows word 0 (length rows)
  all_between rows word i l e = (omega arith, l)

  -- the word stands at a place that was guessed
  pub at_guess : (rows : List (Word × X)) (word : Word) (place : ℕ) (row : Word × X) → row ≡ get_or rows place row → place < length rows
      → same_word row.0 word ≡ true → Contains rows (word, row.1)
  at_guess rows word place row is within same =
      subst (λ v. Contains rows (v, row.1)) (same_word-one row.0 word same) (place, within, sym is)
