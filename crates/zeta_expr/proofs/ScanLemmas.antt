-- The first cause among terms, term by term.
use Rattle.std.proofs.Common.{◌≡◌, ℕ, ◌+◌, ◌<◌, length, drop, get_or, add-one, true, false, not, cond, eqb, ltb, Option, Some, None, List, ◌∷◌, map, refl, sym, ap, ◌∙◌}
use Rattle.std.specs.List.{find, filter, filter_map}
use Rattle.std.specs.Option.{option_or}
use Rattle.std.proofs.Math.Seq.{drop-cons}
use Rattle.std.proofs.lemmas.List.Folds.{find-append}
use Rattle.zeta_expr.specs.Forms.{TermForm}
use Rattle.zeta_expr.specs.Weights.{weight_of, depth_of}
use Rattle.zeta_expr.specs.Meaning.{has_inverse, bottom_in, bottoms, first_lacking, first_of, is_tested, other_weight, greater_depth, first_misfit, refusal_of}
use Rattle.std.specs.Prelude.{option_map}
use Rattle.zeta_expr.specs.declared.fault.LineFault.TheVariants.{NoInverse, WeightIs, DepthIs}

or_first : {A : Type 0} (a b : Option A) → option_or a b ≡ first_of a b
or_first None b = refl
or_first (Some x) b = refl

abbrev pub first_bottom : ℕ → List TermForm → Option ℕ
first_bottom m ts = find (λ b. not (has_inverse m b)) (bottoms ts)

pub first_bottom-cons : (m : ℕ) (t : TermForm) (ts : List TermForm) → first_bottom m (t ∷ ts) ≡ first_of (first_lacking m t.factors) (first_bottom m ts)
first_bottom-cons m t ts = find-append (λ b. not (has_inverse m b)) (filter_map bottom_in t.factors) (bottoms ts)
    ∙ or_first (first_lacking m t.factors) (first_bottom m ts)

abbrev pub first_weight : ℕ → ℕ → List TermForm → Option ℕ
first_weight m w ts = find (λ k. not (eqb k w)) (map weight_of (filter (is_tested m) ts))

pub first_weight-cons : (m w : ℕ) (t : TermForm) (ts : List TermForm) → first_weight m w (t ∷ ts) ≡ first_of (other_weight m w t) (first_weight m w ts)
first_weight-cons m w t ts =
    elim (is_tested m t) as (λ b. find (λ k. not (eqb k w)) (map weight_of (cond b (t ∷ filter (is_tested m) ts) (filter (is_tested m) ts)))
    ≡ first_of (cond b (cond (eqb (weight_of t) w) None (Some (weight_of t))) None) (first_weight m w ts)) [
      | true ↦ elim (eqb (weight_of t) w) as (λ b. cond (not b) (Some (weight_of t)) (first_weight m w ts)
          ≡ first_of (cond b None (Some (weight_of t))) (first_weight m w ts)) [ true ↦ refl | false ↦ refl ]
      | false ↦ refl
    ]

abbrev pub first_depth : ℕ → ℕ → List TermForm → Option ℕ
first_depth m d ts = find (λ k. ltb d k) (map depth_of (filter (is_tested m) ts))

pub first_depth-cons : (m d : ℕ) (t : TermForm) (ts : List TermForm) → first_depth m d (t ∷ ts) ≡ first_of (greater_depth m d t) (first_depth m d ts)
first_depth-cons m d t ts =
    elim (is_tested m t) as (λ b. find (λ k. ltb d k) (map depth_of (cond b (t ∷ filter (is_tested m) ts) (filter (is_tested m) ts)))
    ≡ first_of (cond b (cond (ltb d (depth_of t)) (Some (depth_of t)) None) None) (first_depth m d ts)) [
      | true ↦ elim (ltb d (depth_of t)) as (λ b. cond b (Some (depth_of t)) (first_depth m d ts)
          ≡ first_of (cond b (Some (depth_of t)) None) (first_depth m d ts)) [ true ↦ refl | false ↦ refl ]
      | false ↦ refl
    ]

module _ (m : ℕ) (ts : List TermForm) (i : ℕ) (t : TermForm) (h : i < length ts) (is : t ≡ get_or ts i t) where
  front : drop i ts ≡ t ∷ drop (i + 1) ts
  front = drop-cons ts i t h ∙ (λ k. sym is k ∷ drop (sym (add-one i) k) ts)

  bottom_step : (o : Option ℕ) → first_lacking m t.factors ≡ o → first_bottom m (drop i ts) ≡ first_of o (first_bottom m (drop (i + 1) ts))
  bottom_step o e = ap (λ (l : List TermForm). first_bottom m l) front ∙ first_bottom-cons m t (drop (i + 1) ts)
      ∙ ap (λ o. first_of o (first_bottom m (drop (i + 1) ts))) e

  pub bottom_here : (b : ℕ) → Some b ≡ first_lacking m t.factors → first_bottom m (drop i ts) ≡ first_bottom m ts → Some b ≡ first_bottom m ts
  bottom_here b e same = sym (bottom_step (Some b) (sym e)) ∙ same

  pub bottom_later : None ≡ first_lacking m t.factors → first_bottom m (drop i ts) ≡ first_bottom m ts → first_bottom m (drop (i + 1) ts)
      ≡ first_bottom m ts
  bottom_later e same = sym (bottom_step None (sym e)) ∙ same

-- where each number below `/` has an inverse, the first misfit is told; else the number is
pub refusal-misfit : (m w d : ℕ) (e : List TermForm) → first_bottom m e ≡ None → first_misfit m w d e ≡ refusal_of m w d e
refusal-misfit m w d e none = ap (λ o. first_of (option_map (λ b. NoInverse b) o) (first_misfit m w d e)) (sym none)

pub refusal-no_inverse : (m w d b : ℕ) (e : List TermForm) → first_bottom m e ≡ Some b → Some (NoInverse b) ≡ refusal_of m w d e
refusal-no_inverse m w d b e some = ap (λ o. first_of (option_map (λ b. NoInverse b) o) (first_misfit m w d e)) (sym some)

pub refusal-none : (m w d : ℕ) (e : List TermForm) → first_bottom m e ≡ None → first_weight m w e ≡ None → first_depth m d e ≡ None
    → refusal_of m w d e ≡ None
refusal-none m w d e b k l = λ i.
    first_of (option_map (λ b. NoInverse b) (b i)) (first_of (option_map (λ k. WeightIs k) (k i)) (option_map (λ k. DepthIs k) (l i)))
