-- What a merge of the counted shares gives.
use Rattle.std.proofs.Common.{◌≡◌, ℕ, ◌≤◌, ◌<◌, Bool, true, false, eqb, List, [], ◌∷◌, length, refl, sym, ◌∙◌, subst, inl, inr, arith, All}
use Rattle.std.specs.Prelude.{Result, Ok, Err, IfOk, MatchResult}
use Rattle.std.proofs.lemmas.Bool.{eqb-true, cases_lt}
use Rattle.std.proofs.lemmas.List.Elements.{All-head}
use Rattle.file_model.specs.TableOf.{IsTableOf}
use Rattle.share_model.specs.Checked.{Checked}
use Rattle.share_merge.specs.declared.fault.MergeFault.{MergeFault}
use Rattle.share_merge.specs.declared.fault.MergeFault.TheVariants.{MissingShare, NoInverse, Memory}
use Rattle.share_merge.specs.Turns.{AreSharesOf, share_count, HasIndex, HasAll, IsLeastMissing}
use Rattle.share_core.specs.Coordinations.{Setting, IsSetting, Belongs}
use Rattle.share_core.specs.Finishes.{IsBreak}

module _ {R E : Type 0} where
  pub is_empty : (list : List (Checked R E)) (b : Bool) → b ≡ eqb (length list) 0 → b ≡ true → list ≡ []
  is_empty [] b e t = refl
  is_empty (c ∷ cs) b e t = absurd (omega (arith, eqb-true (length (c ∷ cs)) 0 (sym e ∙ t)))

  count_of_head : (setting : Setting R) (list : List (Checked R E)) → All (Belongs setting) list → 0 < length list → share_count list ≡ setting.of
  count_of_head setting [] belong some = absurd (omega (arith, some))
  count_of_head setting (c ∷ cs) belong some = (All-head (Belongs setting) c cs belong).of

  is_some : (list : List (Checked R E)) (b : Bool) → b ≡ eqb (length list) 0 → b ≡ false → 0 < length list
  is_some [] b e t = let never : false ≡ true = sym t ∙ e in absurd (cc never)
  is_some (c ∷ cs) b e t = omega arith

  -- the first share tells how many there are
  pub share_count_is : (setting : Setting R) (list : List (Checked R E)) (b : Bool) → All (Belongs setting) list → b ≡ eqb (length list) 0 → b ≡ false
      → share_count list ≡ setting.of
  share_count_is setting list b belong e t = count_of_head setting list belong (is_some list b e t)

  pub are_shares_of : (modulus_of : R → ℕ) (setting : Setting R) (list : List (Checked R E)) → IsSetting modulus_of setting
      → All (Belongs setting) list → share_count list ≡ setting.of → AreSharesOf setting.table (share_count list) list
  are_shares_of modulus_of setting list is belong count k d inside =
      let b = belong k d inside in
      record {
        params = subst (λ p. IsTableOf p setting.table.columns) (sym b.params) is.table;
        ring = b.ring;
        of = b.of ∙ sym count;
      }

  none_there : (i : ℕ) → ¬ (HasIndex {R = R} {E = E} [] i)
  none_there i (k, c, inside, at, is) = absurd (omega (arith, inside))

  -- where nothing is counted, the first index is missing
  pub first_is_missing : (shares index : ℕ) (list : List (Checked R E)) → 1 ≤ shares → list ≡ [] → 0 ≡ index → IsLeastMissing shares list index
  first_is_missing shares index list some is same =
      subst (IsLeastMissing shares list) same (subst (λ (l : List (Checked R E)). IsLeastMissing shares l 0) (sym is) (record {
        inside = omega (arith, some);
        missing = none_there 0;
        earlier = λ k below. absurd (omega (arith, below));
      }))

  -- and it is the only one that may be the least
  pub first_if_none : (shares index : ℕ) (list : List (Checked R E)) → list ≡ [] → IsLeastMissing shares list index → 0 ≡ index
  first_if_none shares index list is least =
      elim (cases_lt 0 index) [
        | inl less ↦ absurd (none_there 0 (subst (λ (l : List (Checked R E)). HasIndex l 0) is (least.earlier 0 less)))
        | inr none ↦ omega (arith, none)
      ]

  pub not_all_there : (shares : ℕ) (list : List (Checked R E)) → 1 ≤ shares → list ≡ [] → ¬ (HasAll shares list)
  not_all_there shares list some is all = none_there 0 (subst (λ (l : List (Checked R E)). HasIndex l 0) is (all 0 (omega (arith, some))))

-- no index is missing, so that the work goes through, breaks, or wants memory
pub goes_through : {M : Type 0} (r : Result M MergeFault) (P : M → Type 0) (Breaks : ℕ → ℕ → ℕ → Type 0) → IfOk r P
    → ((i : ℕ) → ¬ (r ≡ Err (MissingShare i))) → ((value share row : ℕ) → r ≡ Err (NoInverse value share row) → Breaks value share row)
    → MatchResult r P (IsBreak Breaks)
goes_through (Ok merged) P Breaks ok none breaks = ok
goes_through (Err (MissingShare i)) P Breaks ok none breaks = none i refl
goes_through (Err (NoInverse value share row)) P Breaks ok none breaks = breaks value share row refl
goes_through (Err (Memory fault)) P Breaks ok none breaks = tt
