-- What an accepted line means has only words of the table.
use Rattle.std.proofs.Common.{◌≡◌, ℕ, zero, suc, ◌*◌, ◌%◌, ◌<◌, ◌≤◌, Bool, true, false, ◌||◌, not, cond, eqb, ltb, Option, Some, None, List, [], ◌∷◌, refl, sym, ap, ◌∙◌, arith}
use Rattle.std.specs.Prelude.{option_map}
use Rattle.std.specs.List.{AllByRecursion}
use Rattle.std.proofs.lemmas.Bool.{eqb-true, ltb-false}
use Rattle.zeta_model.specs.Modular.{Same}
use Rattle.zeta_model.specs.Sums.{Sum, single, continued}
use Rattle.zeta_model.proofs.ModularLemmas.{same-add, same-mul}
use Rattle.table_model.specs.Conversion.{IsTableWord}
use Rattle.zeta_expr.specs.declared.fault.LineFault.{LineFault}
use Rattle.zeta_expr.specs.Forms.{TermForm}
use Rattle.zeta_expr.specs.Weights.{weight_of, depth_of, has_zeta}
use Rattle.zeta_expr.specs.Meaning.{number_of, times_zetas, term_sum, sum_of_terms, is_tested, other_weight, greater_depth, first_of, refusal_of, IsFormed}
use Rattle.zeta_expr.specs.LineMeaning.{means, unless_refused, meaning_of, IsMeaning, too_long, no_line, reads}
use Rattle.zeta_expr.proofs.FormedLemmas.{reading_formed}
use Rattle.zeta_expr.proofs.ScanLemmas.{first_weight, first_weight-cons, first_depth, first_depth-cons}
use Rattle.table_rewrite.proofs.MeantWords.{Word, IsMeant, zetas-meant}

first_none : {A : Type 0} (a b : Option A) → first_of a b ≡ None → (a ≡ None) × (b ≡ None)
first_none None b e = (refl, e)
first_none (Some x) b e = cc

map_none : {A B : Type 0} (f : A → B) (o : Option A) → option_map f o ≡ None → o ≡ None
map_none f None e = refl
map_none f (Some x) e = cc

-- a tested term that is not refused has the weight and at most the depth
weight_is : (m w : ℕ) (t : TermForm) → is_tested m t ≡ true → other_weight m w t ≡ None → weight_of t ≡ w
weight_is m w t tested e = by (eqb (weight_of t) w) refl (ap (λ b. cond b (cond (eqb (weight_of t) w) None (Some (weight_of t))) None) (sym tested) ∙ e)
  where
    by : (b : Bool) → eqb (weight_of t) w ≡ b → cond b None (Some (weight_of t)) ≡ None → weight_of t ≡ w
    by true q f = eqb-true _ _ q
    by false q f = cc

depth_is : (m d : ℕ) (t : TermForm) → is_tested m t ≡ true → greater_depth m d t ≡ None → depth_of t ≤ d
depth_is m d t tested e = by (ltb d (depth_of t)) refl (ap (λ b. cond b (cond (ltb d (depth_of t)) (Some (depth_of t)) None) None) (sym tested) ∙ e)
  where
    by : (b : Bool) → ltb d (depth_of t) ≡ b → cond b (Some (depth_of t)) None ≡ None → depth_of t ≤ d
    by true q f = cc
    by false q f = ltb-false d (depth_of t) q

or_false : (a b : Bool) → (a || b) ≡ false → (a ≡ false) × (b ≡ false)
or_false true b e = cc
or_false false b e = (refl, e)

not_false : (b : Bool) → not b ≡ false → b ≡ true
not_false true e = refl
not_false false e = cc

module _ (m w d : ℕ) (some_weight : 0 < w) (t : Word) (other : ¬ (IsTableWord w d t)) where
  -- a word that is not of the table has no number in a tested term
  none_in_tested : (e : TermForm) → AllByRecursion IsFormed e.factors → weight_of e ≡ w → depth_of e ≤ d
      → continued single (times_zetas m e.factors ((1, []) ∷ [])) t ≡ 0
  none_in_tested e formed weight depth = by (continued single (times_zetas m e.factors ((1, []) ∷ [])) t) refl
    where
      by : (n : ℕ) → continued single (times_zetas m e.factors ((1, []) ∷ [])) t ≡ n → continued single (times_zetas m e.factors ((1, []) ∷ [])) t ≡ 0
      by zero is = is
      by (suc n) is =
          let r : IsMeant (weight_of e) (depth_of e) t = zetas-meant m e.factors formed t (omega arith) in
          let long = r.weighs in
          let deep = r.deep in
          absurd (other (record { admissible = r.admissible (omega arith); weight = omega arith; depth = omega arith }))

  none_in_term : (e : TermForm) → AllByRecursion IsFormed e.factors → other_weight m w e ≡ None → greater_depth m d e ≡ None → Same m (term_sum m e t) 0
  none_in_term e formed weight depth = by (is_tested m e) refl
    where
      by : (b : Bool) → is_tested m e ≡ b → Same m (term_sum m e t) 0
      by true tested =
          let none = none_in_tested e formed (weight_is m w e tested weight) (depth_is m d e tested depth) in
          let z : number_of m e * 0 ≡ 0 = omega arith in
          ap (λ n. n % m) (ap (λ n. number_of m e * n) none ∙ z)
      by false tested =
          let number : number_of m e % m ≡ 0 = eqb-true _ _ (not_false _ (or_false (has_zeta e) _ tested).1) in
          let zero_mod : 0 % m ≡ 0 = by_zero m in
          let s = continued single (times_zetas m e.factors ((1, []) ∷ [])) t in
          let z : 0 * s ≡ 0 = omega arith in
          same-mul m (number_of m e) 0 s s (number ∙ sym zero_mod) refl ∙ ap (λ n. n % m) z
        where
          by_zero : (m : ℕ) → 0 % m ≡ 0
          by_zero m = omega arith

  none_in_terms : (ts : List TermForm) → AllByRecursion (λ e. AllByRecursion IsFormed e.factors) ts → first_weight m w ts ≡ None → first_depth m d ts ≡ None
      → Same m (sum_of_terms m ts t) 0
  none_in_terms [] formed weight depth = refl
  none_in_terms (e ∷ ts) formed weight depth =
      let a = first_none _ _ (sym (first_weight-cons m w e ts) ∙ weight) in
      let b = first_none _ _ (sym (first_depth-cons m d e ts) ∙ depth) in
      same-add m (term_sum m e t) 0 (sum_of_terms m ts t) 0 (none_in_term e formed.0 a.0 b.0) (none_in_terms ts formed.1 a.1 b.1)

  -- nor in an accepted expression
  pub none_in_accepted : (ts : List TermForm) → AllByRecursion (λ e. AllByRecursion IsFormed e.factors) ts → refusal_of m w d ts ≡ None
      → Same m (sum_of_terms m ts t) 0
  none_in_accepted ts formed accepted =
      let misfit = (first_none _ _ accepted).1 in
      let r = first_none _ _ misfit in
      none_in_terms ts formed (map_none _ (first_weight m w ts) r.0) (map_none _ (first_depth m d ts) r.1)

-- a meaning that is a sum is that of terms for which no cause stands
sum_meant : (m w d : ℕ) (ts : List TermForm) (s : Sum) → means s ≡ meaning_of m w d ts
    → (refusal_of m w d ts ≡ None) × ((t : Word) → s t ≡ sum_of_terms m ts t % m)
sum_meant m w d ts s e = by (refusal_of m w d ts) refl e
  where
    by : (o : Option LineFault) → refusal_of m w d ts ≡ o → means s ≡ unless_refused o (λ t. sum_of_terms m ts t % m)
        → (refusal_of m w d ts ≡ None) × ((t : Word) → s t ≡ sum_of_terms m ts t % m)
    by None is f = let same : s ≡ (λ t. sum_of_terms m ts t % m) = cc in (is, λ t. ap (λ (r : Sum). r t) same)
    by (Some fault) is f = cc

-- a word that is not of the table has no number in what a line means
pub none_in_line : (m w d : ℕ) (line : List ℕ) (s : Sum) (t : Word) → 0 < w → 0 < m → IsMeaning m w d line (means s) → ¬ (IsTableWord w d t) → s t ≡ 0
none_in_line m w d line s t some_weight pos (too_long l e) other = cc
none_in_line m w d line s t some_weight pos (no_line at l stop e) other = cc
none_in_line m w d line s t some_weight pos (reads ts l r e) other =
    let k = sum_meant m w d ts s e in
    let z : 0 % m ≡ 0 = omega arith in
    k.1 t ∙ none_in_accepted m w d some_weight t other ts (reading_formed line ts r) k.0 ∙ z
