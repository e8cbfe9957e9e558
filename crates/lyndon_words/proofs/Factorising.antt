-- The factors of an admissible word are a monomial, and that alone has this word.
use Rattle.std.proofs.Common.{◌≡◌, ℕ, ◌-◌, ◌*◌, ◌<◌, ◌≤◌, suc, IsTrue, List, ◌∷◌, length, drop, Some, slice_get, sym, ap, subst, ◌∙◌, arith, drop-cons}
use Rattle.std.proofs.lemmas.Option.{slice_get_within, get_or_from_slice_get}
use Rattle.zeta_model.specs.declared.Letter.{Letter}
use Rattle.zeta_model.specs.Words.{begins_with_x, ends_with_y, is_admissible}
use Rattle.lyndon_words.specs.Lyndon.{joined, IsFactors}
use Rattle.lyndon_words.specs.Monomials.{IsMonomial}
use Rattle.lyndon_words.proofs.OneWay.{IsFactors-unique}
use Rattle.lyndon_words.proofs.Suffixes.{both_true}
use Rattle.lyndon_words.proofs.JoinFront.{factors_of, IsFactors-factors_of}
use Rattle.lyndon_words.proofs.AdmissibleFactors.{factors-admissible, joined-admissible, length-factors}

pub drop-back : (w : List Letter) (n : ℕ) (a : Letter) → 0 < n → slice_get w (n - 1) ≡ Some a → drop (n - 1) w ≡ a ∷ drop n w
drop-back w n a h e =
    let next : suc (n - 1) ≡ n = omega arith in
    drop-cons w (n - 1) a (slice_get_within w (n - 1) a e) ∙ (λ i. get_or_from_slice_get w (n - 1) a a e i ∷ drop (next i) w)

-- what is found when the first letter is read
pub found_factors : (w : List Letter) (us : List (List Letter)) (place : ℕ) → us ≡ factors_of (drop place w) → place ≡ 0 → IsFactors w us
found_factors w us place e z = subst (IsFactors w) (sym (e ∙ ap (λ n. factors_of (drop n w)) z)) (IsFactors-factors_of w)

pub found_monomial : (w : List Letter) (us : List (List Letter)) → IsTrue (is_admissible w) → length w ≤ 24 → IsFactors w us → IsMonomial us
found_monomial w us a h f =
    let p = both_true (begins_with_x w) (ends_with_y w) a in
    record {
      lyndon = f.lyndon;
      admissible = factors-admissible us f.lyndon f.falls (ap begins_with_x f.whole ∙ p.0) (ap ends_with_y f.whole ∙ p.1);
      falls = f.falls;
      within = omega (arith, ap length f.whole);
    }

pub length-monomial : (us : List (List Letter)) → IsMonomial us → 2 * length us ≤ length (joined us)
length-monomial us m = length-factors us m.admissible

pub word-admissible : (p : List (List Letter)) (w : List Letter) → IsMonomial p → w ≡ joined p → 0 < length p → IsTrue (is_admissible w)
word-admissible p w m e h = subst (λ t. IsTrue (is_admissible t)) (sym e) (joined-admissible p m.admissible h)

pub word-factors : (p : List (List Letter)) (w : List Letter) → IsMonomial p → w ≡ joined p → IsFactors w p
word-factors p w m e = record { lyndon = m.lyndon; falls = m.falls; whole = sym e }

pub word-unique : (p q : List (List Letter)) (w : List Letter) → IsMonomial p → IsMonomial q → w ≡ joined p → joined q ≡ w → q ≡ p
word-unique p q w mp mq e f = IsFactors-unique w q p (word-factors q w mq (sym f)) (word-factors p w mp e)
