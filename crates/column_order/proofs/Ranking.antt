-- The factors of a monomial have ranks, which are added up; the index of a word is read letter by letter.
use Rattle.std.proofs.Common.{◌≡◌, ℕ, ◌+◌, ◌≤◌, zero, suc, ◌&&◌, Bool, true, false, cond, Some, IsTrue, List, [], ◌∷◌, length, take, drop, slice_get, sym, ap, subst, ◌∙◌, arith, length-append}
use Rattle.std.proofs.lemmas.List.Sums.{sum_by_more}
use Rattle.std.proofs.lemmas.Option.{slice_get_within, get_or_from_slice_get}
use Rattle.std.specs.List.{list_all, sum_by}
use Rattle.zeta_model.specs.declared.Letter.{Letter}
use Rattle.zeta_model.specs.declared.Letter.TheVariants.{X, Y}
use Rattle.zeta_model.specs.Words.{is_admissible}
use Rattle.zeta_model.specs.Indices.{index_of, index_from}
use Rattle.lyndon_words.specs.Lyndon.{IsLyndon, AllLyndon, joined}
use Rattle.lyndon_words.specs.Monomials.{AllAdmissible, IsMonomial}
use Rattle.lyndon_words.proofs.AdmissibleFactors.{two_letters}
use Rattle.column_order.specs.declared.ranks.Mode.{Mode}
use Rattle.column_order.specs.declared.ranks.Mode.TheVariants.{Lex, Odd}
use Rattle.column_order.specs.declared.ranks.Preference.{Preference}
use Rattle.column_order.specs.Ranks.{is_odd_from_3, mode_rank, is_among, rank_of, IsRanked}
use Rattle.column_order.proofs.Comparing.{drop-at}

mode_rank-le : (mode : Mode) (w : List Letter) → mode_rank mode w ≤ 1
mode_rank-le Lex w = omega arith
mode_rank-le Odd w = elim (list_all is_odd_from_3 (index_of w)) as (λ b. cond b 0 1 ≤ 1) [ true ↦ omega arith | false ↦ omega arith ]

pub rank_of-le : (preference : Preference) (w : List Letter) → rank_of preference w ≤ 2
rank_of-le p w = elim (is_among p.words w)
    as (λ b. cond b 0 (1 + mode_rank p.mode w) ≤ 2) [ true ↦ omega arith | false ↦ omega (arith, mode_rank-le p.mode w) ]

pub index_from-x : (w : List Letter) (k i : ℕ) (r : Bool) → slice_get w i ≡ Some X → list_all is_odd_from_3 (index_from k (drop i w)) ≡ r
    → list_all is_odd_from_3 (index_from (k + 1) (drop (i + 1) w)) ≡ r
index_from-x w k i r e h = sym (ap (λ t. list_all is_odd_from_3 (index_from k t)) (drop-at w i X e)) ∙ h

index_from-y : (w : List Letter) (k i : ℕ) (r b : Bool) → slice_get w i ≡ Some Y → list_all is_odd_from_3 (index_from k (drop i w)) ≡ r
    → is_odd_from_3 k ≡ b → (b && list_all is_odd_from_3 (index_from 1 (drop (i + 1) w))) ≡ r
index_from-y w k i r b e h o =
    sym (ap (λ t. list_all is_odd_from_3 (index_from k t)) (drop-at w i Y e) ∙ ap (λ t. t && list_all is_odd_from_3 (index_from 1 (drop (i + 1) w))) o) ∙ h

pub index_from-y_odd : (w : List Letter) (k i : ℕ) (r : Bool) → slice_get w i ≡ Some Y → list_all is_odd_from_3 (index_from k (drop i w)) ≡ r
    → is_odd_from_3 k ≡ true → list_all is_odd_from_3 (index_from 1 (drop (i + 1) w)) ≡ r
index_from-y_odd w k i r e h o = index_from-y w k i r true e h o

pub index_from-y_other : (w : List Letter) (k i : ℕ) (r : Bool) → slice_get w i ≡ Some Y → list_all is_odd_from_3 (index_from k (drop i w)) ≡ r
    → is_odd_from_3 k ≡ false → false ≡ r
index_from-y_other w k i r e h o = index_from-y w k i r false e h o

IsLyndon-factor : (p : List (List Letter)) (i : ℕ) (w : List Letter) → AllLyndon p → slice_get p i ≡ Some w → IsLyndon w
IsLyndon-factor [] i w a e = cc
IsLyndon-factor (u ∷ p) zero w a e = let same : u ≡ w = cc in subst IsLyndon same a.0
IsLyndon-factor (u ∷ p) (suc i) w a e = IsLyndon-factor p i w a.1 e

admissible-factor : (p : List (List Letter)) (i : ℕ) (w : List Letter) → AllAdmissible p → slice_get p i ≡ Some w → IsTrue (is_admissible w)
admissible-factor [] i w a e = cc
admissible-factor (u ∷ p) zero w a e = let same : u ≡ w = cc in subst (λ t. IsTrue (is_admissible t)) same a.0
admissible-factor (u ∷ p) (suc i) w a e = admissible-factor p i w a.1 e

length-factor : (p : List (List Letter)) (i : ℕ) (w : List Letter) → slice_get p i ≡ Some w → length w ≤ length (joined p)
length-factor [] i w e = cc
length-factor (u ∷ p) zero w e = let same : u ≡ w = cc in omega (arith, length-append u (joined p), ap length same)
length-factor (u ∷ p) (suc i) w e = omega (arith, length-append u (joined p), length-factor p i w e)

-- each factor of a monomial has a rank
pub IsRanked-factor : (p : List (List Letter)) (i : ℕ) (w : List Letter) → IsMonomial p → slice_get p i ≡ Some w → IsRanked w
IsRanked-factor p i w m e =
    let a : IsTrue (is_admissible w) = admissible-factor p i w m.admissible e in
    record {
      lyndon = IsLyndon-factor p i w m.lyndon e;
      admissible = a;
      least = two_letters w a;
      most = omega (arith, length-factor p i w e, m.within);
    }

pub sum_by-one_more : (f : List Letter → ℕ) (p : List (List Letter)) (i : ℕ) (w : List Letter) (s r : ℕ) → slice_get p i ≡ Some w → s ≡ sum_by f (take i p)
    → r ≡ f w → s + r ≡ sum_by f (take (i + 1) p)
sum_by-one_more f p i w s r e h g =
    omega (arith, h, g, sum_by_more f p i w (slice_get_within p i w e), ap f (get_or_from_slice_get p i w w e))

pub read_on : (w : List Letter) (k n i : ℕ) (r : Bool) → k ≡ n → list_all is_odd_from_3 (index_from n (drop i w)) ≡ r
    → list_all is_odd_from_3 (index_from k (drop i w)) ≡ r
read_on w k n i r e h = ap (λ t. list_all is_odd_from_3 (index_from t (drop i w))) e ∙ h
