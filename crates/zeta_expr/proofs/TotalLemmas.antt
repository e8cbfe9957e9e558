-- Terms that are added up, and what is known of them where nothing is refused.
use Rattle.std.proofs.Common.{◌≡◌, ℕ, ◌+◌, ◌*◌, ◌%◌, ◌<◌, ◌≤◌, Bool, true, false, ◌||◌, cond, eqb, Option, Some, None, All, List, [], ◌∷◌, length, drop, get_or, refl, sym, ap, ◌∙◌, add-one, drop_of_length-le, arith}
use Rattle.std.specs.Prelude.{option_map}
use Rattle.std.specs.List.{sum_by, list_any, AllByRecursion}
use Rattle.std.proofs.lemmas.Bool.{eqb-true}
use Rattle.std.proofs.lemmas.List.Sums.{sum_by-cons}
use Rattle.std.proofs.lemmas.List.Elements.{All-from_recursion}
use Rattle.std.proofs.Math.Seq.{drop-cons}
use Rattle.zeta_model.specs.declared.Letter.{Letter}
use Rattle.zeta_model.specs.Modular.{Same}
use Rattle.zeta_model.specs.Sums.{single, scaled, continued}
use Rattle.zeta_model.proofs.ModularLemmas.{same-add_right, same-add_left, same-mul, same-mod}
use Rattle.word_sums.specs.Terms.{coefficient_of}
use Rattle.word_sums.specs.Sums.{IsSum, IsSumOf, HasGained}
use Rattle.word_sums.proofs.SumLemmas.{IsSum-none, IsSum_below}
use Rattle.std.proofs.Math.Nat.{mod-eq_of_lt}
use Rattle.zeta_expr.specs.declared.expr.Factor.{Factor}
use Rattle.zeta_expr.specs.declared.expr.Factor.TheVariants.{Number, Zeta}
use Rattle.zeta_expr.specs.declared.fault.LineFault.TheVariants.{NoInverse, WeightIs, DepthIs}
use Rattle.zeta_expr.specs.Forms.{TermForm}
use Rattle.zeta_expr.specs.Weights.{is_zeta, weight_in, weight_of, has_zeta}
use Rattle.zeta_expr.specs.Meaning.{number_of, times_zetas, sum_of_terms, is_tested, other_weight, first_of, refusal_of}
use Rattle.zeta_expr.proofs.ScanLemmas.{first_bottom, first_weight, first_depth, first_weight-cons}

-- one more term
term_added : (m new old v prod rest whole n s : ℕ) → new ≡ (old + v * prod) % m → v ≡ n % m → Same m prod s → Same m (old + (n * s + rest)) whole
    → Same m (new + rest) whole
term_added m new old v prod rest whole n s e f g h =
    let a : Same m v n = ap (λ x. x % m) f ∙ same-mod m n in
    let b : Same m new (old + n * s) = ap (λ x. x % m) e ∙ same-mod m (old + v * prod)
    ∙ same-add_left m (v * prod) (n * s) old (same-mul m v n prod s a g) in
    let d : old + n * s + rest ≡ old + (n * s + rest) = omega arith in
    same-add_right m new (old + n * s) rest b ∙ ap (λ x. x % m) d ∙ h

module _ {E : Type 0} (nought : E) (has : E → Bool) (value : E → ℕ) (m : ℕ) where
  -- the sum so far, and what is ahead of it
  pub record Adding (sum : List (List Letter × E)) (rest whole : List TermForm) : Type 0 where
    pub is_sum : IsSum nought has sum
    pub same : (t : List Letter) → Same m (coefficient_of value sum t + sum_of_terms m rest t) (sum_of_terms m whole t)

  pub adding_begins : (sum : List (List Letter × E)) (whole : List TermForm) → sum ≡ [] → Adding sum whole whole
  adding_begins sum whole e = record {
    is_sum = IsSum-none nought has sum e;
    same = λ t.
        let z : coefficient_of value sum t ≡ 0 = ap (λ (s : List (List Letter × E)). coefficient_of value s t) e in
        let n : 0 + sum_of_terms m whole t ≡ sum_of_terms m whole t = omega arith in
        ap (λ n. n % m) (ap (λ n. n + sum_of_terms m whole t) z ∙ n);
  }

  pub adding_goes_on : (sum product new : List (List Letter × E)) (c : E) (terms whole : List TermForm) (i : ℕ) (t : TermForm) (fs : List Factor)
      → i < length terms → t ≡ get_or terms i t → fs ≡ t.factors → Adding sum (drop i terms) whole
      → IsSumOf nought has value m (continued single (times_zetas m fs ((1, []) ∷ []))) product → value c ≡ number_of m t % m → IsSum nought has new
      → HasGained value m sum new (scaled (value c) (coefficient_of value product)) → Adding new (drop (i + 1) terms) whole
  adding_goes_on sum product new c terms whole i t fs h is same_factors a product_is number is_sum gained =
      let front : drop i terms ≡ t ∷ drop (i + 1) terms = drop-cons terms i t h ∙ (λ k. sym is k ∷ drop (sym (add-one i) k) terms) in
      record {
        is_sum = is_sum;
        same = λ r.
            let meant = λ (l : List Factor). continued single (times_zetas m l ((1, []) ∷ [])) r in
            let product_same : Same m (coefficient_of value product r) (meant t.factors) =
            ap (λ n. n % m) (product_is.coefficients r) ∙ same-mod m (meant fs) ∙ ap (λ l. meant l % m) same_factors in
            term_added m (coefficient_of value new r) (coefficient_of value sum r) (value c) (coefficient_of value product r)
            (sum_of_terms m (drop (i + 1) terms) r) (sum_of_terms m whole r) (number_of m t) (meant t.factors)
            (gained.each r) number product_same
            (ap (λ (l : List TermForm). (coefficient_of value sum r + sum_of_terms m l r) % m) (sym front) ∙ a.same r);
      }

  pub adding_ends : (sum : List (List Letter × E)) (terms whole : List TermForm) (i : ℕ) → length terms ≤ i → 0 < m
      → ((a : E) → has a ≡ true → value a < m) → Adding sum (drop i terms) whole → IsSumOf nought has value m (sum_of_terms m whole) sum
  adding_ends sum terms whole i h pos below a = record {
    terms = a.is_sum.terms;
    in_ring = a.is_sum.in_ring;
    coefficients = λ t.
        let z : sum_of_terms m (drop i terms) t ≡ 0 = ap (λ (l : List TermForm). sum_of_terms m l t) (drop_of_length-le terms h) in
        let b : coefficient_of value sum t ≡ coefficient_of value sum t + sum_of_terms m (drop i terms) t = omega arith in
        sym (mod-eq_of_lt (IsSum_below nought has value m sum pos below a.is_sum t)) ∙ ap (λ n. n % m) b ∙ a.same t;
  }

no_weight : (fs : List Factor) → list_any is_zeta fs ≡ false → sum_by weight_in fs ≡ 0
no_weight [] e = refl
no_weight (Number top bottom ∷ fs) e = sum_by-cons weight_in (Number top bottom) fs ∙ (let r = no_weight fs e in omega arith)
no_weight (Zeta w k ∷ fs) e = cc

or_false : (a b : Bool) → (a || b) ≡ false → a ≡ false
or_false true b e = cc
or_false false b e = refl

light : (m w : ℕ) (t : TermForm) → w ≤ 24 → other_weight m w t ≡ None → weight_of t ≤ 24
light m w t l e =
    elim (is_tested m t) as (λ b. is_tested m t ≡ b → cond b (cond (eqb (weight_of t) w) None (Some (weight_of t))) None ≡ None → weight_of t ≤ 24) [
      | true ↦ λ p. elim (eqb (weight_of t) w) as (λ b. eqb (weight_of t) w ≡ b → cond b None (Some (weight_of t)) ≡ None → weight_of t ≤ 24)
          [ true ↦ λ q f. let x = eqb-true _ _ q in omega arith | false ↦ λ q f. cc ] refl
      | false ↦ λ p f. let x = no_weight t.factors (or_false (has_zeta t) _ p) in omega arith
    ] refl e

first_none : (a b : Option ℕ) → first_of a b ≡ None → (a ≡ None) × (b ≡ None)
first_none None b e = (refl, e)
first_none (Some x) b e = cc

all_light : (m w : ℕ) (ts : List TermForm) → w ≤ 24 → first_weight m w ts ≡ None → AllByRecursion (λ t. weight_of t ≤ 24) ts
all_light m w [] l e = tt
all_light m w (t ∷ ts) l e = let f = first_none _ _ (sym (first_weight-cons m w t ts) ∙ e) in (light m w t l f.0, all_light m w ts l f.1)

weights_none : (x y z : Option ℕ) → first_of (option_map (λ b. NoInverse b) x) (first_of (option_map (λ k. WeightIs k) y) (option_map
    (λ k. DepthIs k) z)) ≡ None → y ≡ None
weights_none None None z e = refl
weights_none None (Some k) z e = cc
weights_none (Some b) y z e = cc

-- where nothing is refused the terms fit
pub accepted_light : (m w d : ℕ) (ts : List TermForm) → w ≤ 24 → refusal_of m w d ts ≡ None → All (λ t. weight_of t ≤ 24) ts
accepted_light m w d ts l e = All-from_recursion (λ t. weight_of t ≤ 24) ts (all_light m w ts l (weights_none (first_bottom m ts) (first_weight m w ts)
    (first_depth m d ts) e))
