-- What `decode_old` answers.
use Rattle.std.proofs.Common.{◌≡◌, ℕ, List, ◌++◌, None, [], sym, ap, subst, ◌∙◌, arith}
use Rattle.page_codec.specs.declared.params.Params.{Params}
use Rattle.page_codec.specs.Bounds.{IsParams, IsOldParams}
use Rattle.page_codec.specs.Spelling.{BeginsWithOld, old_spelling_of}
use Rattle.page_codec.specs.Inner.{old_at, old_parts}
use Rattle.page_codec.proofs.Numbers.{AreBytes}
use Rattle.page_codec.proofs.Exact.{read, pair_is}
use Rattle.page_codec.proofs.Pages.{OldFits, old_exact}

old_fits : (p : Params) → IsOldParams p → OldFits (old_parts p)
old_fits p is = let limits = is.0 in (tt, (tt, (tt, (omega arith, (omega arith, (omega arith, omega arith))))))

old_again : (bytes : List ℕ) (p : Params) → IsOldParams p → (begins : BeginsWithOld bytes p) → old_at bytes ≡ read (old_parts p) begins.0
old_again bytes p is begins = ap old_at begins.1 ∙ old_exact.again (old_parts p) begins.0 (old_fits p is)

pub none_old : (bytes : List ℕ) → None ≡ old_at bytes → (p : Params) → IsOldParams p → ¬ (BeginsWithOld bytes p)
none_old bytes e p is begins = let other = old_again bytes p is begins in absurd (cc (e, other))

same_params : (p q : Params) → old_parts p ≡ old_parts q → p.preferred ≡ [] → q.preferred ≡ [] → p ≡ q
same_params p q e a b = λ i. record {
  weight = (e i).1.1.1.0;
  depth = (e i).1.1.1.1.0;
  modulus = (e i).1.1.1.1.1.1;
  order = (e i).1.1.1.1.1.0;
  preferred =
      (a ∙ sym b) i;
}

pub not_old : (bytes : List ℕ) (found : Params) (rest : List ℕ) → read (old_parts found) rest ≡ old_at bytes → found.preferred ≡ [] → ¬ (IsParams found)
    → (p : Params) → IsOldParams p → ¬ (BeginsWithOld bytes p)
not_old bytes found rest e none not p is begins =
    let same : old_parts found ≡ old_parts p = pair_is (λ x l. x) (old_parts found) (old_parts p) rest begins.0 (e ∙ old_again bytes p is begins) in
    not (subst IsParams (sym (same_params found p same none is.1)) is.0)

pub old_back : (bytes : List ℕ) (p : Params) (rest : List ℕ) → AreBytes bytes → read (old_parts p) rest ≡ old_at bytes → bytes ≡ old_spelling_of p ++ rest
old_back bytes p rest b e = old_exact.back bytes (old_parts p) rest b (sym e)
