-- Inverses that a ring finds, and opposites.
use Rattle.std.proofs.Common.{◌≡◌, ◌≢◌, ℕ, ◌+◌, ◌-◌, ◌*◌, ◌%◌, ◌<◌, List, sym, ◌∙◌, ap, arith, mod-eq_of_lt}
use Rattle.std.proofs.lemmas.Nat.{mod_below}
use Rattle.std.proofs.Math.Nat.{add-mod-mod}
use Rattle.zeta_model.specs.declared.Letter.{Letter}
use Rattle.zeta_model.specs.Modular.{Same}
use Rattle.zeta_model.specs.Sums.{sum_of}
use Rattle.zeta_model.proofs.ModularLemmas.{same-add_right, same-mul_right, same-mod, same-multiple}
use Rattle.lyndon_words.specs.Lyndon.{joined}
use Rattle.leading_word.specs.Shuffles.{words_of}
use Rattle.zeta_model.specs.Inverses.{HasInverse}
use Rattle.table_model.specs.MonomialWords.{words_of_monomial}
use Rattle.lyndon_polys.specs.Inner.{leading}

pub leading-count : (p : List (List Letter)) (w : List Letter) → w ≡ joined p → leading p ≡ sum_of (words_of p) w
unfolding words_of_monomial
leading-count p w e = ap (sum_of (words_of p)) (sym e)

-- a product that is 1, of a residue of l
pub inverse_found : (m l a b : ℕ) → 1 < m → a ≡ l % m → a * b % m ≡ 1 → Same m (l * b) 1
inverse_found m l a b large rest one = same-mul_right m l (l % m) b (sym (same-mod m l)) ∙ ap (λ x. x * b % m) (sym rest) ∙ one ∙ sym (mod-eq_of_lt large)

pub no_inverse_found : (m a : ℕ) → 1 < m → ((b : ℕ) → a * b % m ≢ 1) → ¬ (HasInverse m a)
no_inverse_found m a large none (b, e) = none b (e ∙ mod-eq_of_lt large)

-- the opposite of the rest of t undoes t
pub undone_by_opposite : (m t f : ℕ) → 0 < m → f ≡ (m - t % m) % m → Same m (t + f) 0
undone_by_opposite m t f pos is =
    let below : t % m < m = mod_below t m pos in
    let whole : t % m + (m - t % m) ≡ 0 + m * 1 = omega arith in
    ap (λ x. (t + x) % m) is
    ∙ add-mod-mod t (m - t % m) m
    ∙ same-add_right m t (t % m) (m - t % m) (sym (same-mod m t))
    ∙ ap (λ x. x % m) whole
    ∙ same-multiple m 0 1
