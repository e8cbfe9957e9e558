-- Combinations whose numbers are all in a share, as lists of pairs and as functions of the numbers.
use Rattle.std.proofs.Common.{◌≡◌, ◌≢◌, ℕ, ◌+◌, ◌%◌, ◌⊎◌, inl, inr, Bool, true, List, [], ◌∷◌, cond, refl, sym, ◌∙◌, ap, subst, arith}
use Rattle.std.proofs.lemmas.Bool.{cases_eq, ne_eqb}
use Rattle.std.proofs.lemmas.List.Elements.{All-nil, All-cons, All-head, All-tail}
use Rattle.sparse_rows.specs.Entries.{IsRow, AllIn}
use Rattle.sparse_rows.proofs.EntryLemmas.{entry_of_first}
use Rattle.echelon.specs.Lists.{entries_of}
use Rattle.share_model.specs.Dealing.{InShare, IsWithinShare}
use Rattle.share_check.specs.Inner.{AreOfShare}

module _ {E : Type 0} (value : E → ℕ) (index shares : ℕ) where
  abbrev Of : ℕ × E → Type 0
  Of e = InShare index shares e.0

  pub within-of : (es : List (ℕ × E)) → AreOfShare index shares es → IsWithinShare index shares (entries_of value es)
  within-of [] all n other = refl
  within-of (e ∷ es) all n other =
      let differ : e.0 ≢ n = λ q. other (subst (InShare index shares) q (All-head Of e es all)) in
      ap (λ t. cond t (value e.1) 0 + entries_of value es n) (ne_eqb e.0 n differ) ∙ omega (arith, within-of es (All-tail Of e es all) n other)

  module _ (nought : E) (has : E → Bool) (has_nought : has nought ≡ true) (value_nought : value nought ≡ 0)
      (injective : (a b : E) → has a ≡ true → has b ≡ true → value a ≡ value b → a ≡ b) where
    pub of-within : (low : ℕ) (es : List (ℕ × E)) → IsRow (λ k. k) nought low es → AllIn has es → IsWithinShare index shares (entries_of value es)
        → AreOfShare index shares es
    of-within low [] row in_ring within = All-nil Of
    of-within low (e ∷ es) row in_ring within =
        All-cons Of e es (by (cases_eq (e.0 % shares) index)) (of-within (e.0 + 1) es row.2 in_ring.1 (λ n other. omega (arith, within n other)))
      where
        by : ((e.0 % shares ≡ index) ⊎ (e.0 % shares ≢ index)) → InShare index shares e.0
        by (inl same) = same
        by (inr other) =
            absurd (row.1 (injective e.1 nought in_ring.0 has_nought
            (sym (entry_of_first (λ k. k) nought value low e es row) ∙ within e.0 other ∙ sym value_nought)))
