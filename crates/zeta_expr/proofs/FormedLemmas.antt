-- What is read has indices of positive numbers.
use Rattle.std.proofs.Common.{◌≢◌, ℕ, ◌+◌, ◌-◌, ◌*◌, ◌<◌, List, [], ◌∷◌, map, sym, subst, arith}
use Rattle.std.specs.List.{AllByRecursion}
use Rattle.std.proofs.lemmas.Bool.{leb-true}
use Rattle.line_tokens.specs.Tokens.{value_from, value_of}
use Rattle.line_tokens.specs.Runs.{IsIndexNumber}
use Rattle.line_tokens.proofs.MarkLemmas.{and-true}
use Rattle.zeta_expr.specs.Forms.{TermForm}
use Rattle.zeta_expr.specs.Grammar.{WrittenFactor, number, fraction, zeta, power, WrittenTerm, IsFactor, IsTerm}
use Rattle.zeta_expr.specs.Readings.{factor_of, term_of, IsReading}
use Rattle.zeta_expr.specs.Meaning.{IsFormed}

positive_from : (n : ℕ) (digits : List ℕ) → 0 < n → 0 < value_from n digits
positive_from n [] h = h
positive_from n (d ∷ digits) h = positive_from (10 * n + (d - 48)) digits (omega arith)

positive_index : (digits : List ℕ) → IsIndexNumber digits → 0 < value_of digits
positive_index [] h = let p = h.0.some in absurd (omega arith)
positive_index (d ∷ digits) h =
    let a = h.0.all in
    let b = leb-true 48 d (and-true _ _ a.0).0 in
    let n : d ≢ 48 = h.1 in
    positive_from (10 * 0 + (d - 48)) digits (omega arith)

positive_numbers : (ks : List (List ℕ)) → AllByRecursion IsIndexNumber ks → AllByRecursion (λ k. 0 < k) (map value_of ks)
positive_numbers [] h = tt
positive_numbers (k ∷ ks) h = (positive_index k h.0, positive_numbers ks h.1)

formed_factor : (f : WrittenFactor) → IsFactor f → IsFormed (factor_of f)
formed_factor (number top) h = tt
formed_factor (fraction top bottom) h = tt
formed_factor (zeta k ks) h = (omega arith, positive_numbers (k ∷ ks) h)
formed_factor (power k ks p) h = (omega arith, positive_numbers (k ∷ ks) h.0)

formed_factors : (fs : List WrittenFactor) → AllByRecursion IsFactor fs → AllByRecursion IsFormed (map factor_of fs)
formed_factors [] h = tt
formed_factors (f ∷ fs) h = (formed_factor f h.0, formed_factors fs h.1)

formed_terms : (ts : List WrittenTerm) → AllByRecursion IsTerm ts → AllByRecursion (λ t. AllByRecursion IsFormed t.factors) (map term_of ts)
formed_terms [] h = tt
formed_terms (t ∷ ts) h = (formed_factors (t.first ∷ t.more) h.0, formed_terms ts h.1)

pub reading_formed : (line : List ℕ) (e : List TermForm) → IsReading line e → AllByRecursion (λ t. AllByRecursion IsFormed t.factors) e
reading_formed line e r = subst (λ (l : List TermForm). AllByRecursion (λ t. AllByRecursion IsFormed t.factors) l) (sym r.4) (formed_terms
    (r.1 ∷ r.2) r.3.formed)
