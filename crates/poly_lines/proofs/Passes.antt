-- The terms of a row's text are refused for no cause.
use Rattle.std.proofs.Common.{◌≡◌, ℕ, ◌+◌, ◌*◌, ◌%◌, ◌<◌, ◌≤◌, Bool, true, false, Some, None, List, [], ◌∷◌, length, map, get_or, sum, refl, sym, ap, ◌∙◌, length-append, arith}
use Rattle.std.specs.Prelude.{◌==◌, not, nat_lt, if◌then◌else◌}
use Rattle.std.specs.List.{AllByRecursion, sum_by, filter_map, find}
use Rattle.std.proofs.lemmas.Bool.{eq-eqb, ltb-true}
use Rattle.std.proofs.lemmas.List.Sums.{sum_by-cons}
use Rattle.std.proofs.Math.Nat.{zero-mod}
use Rattle.zeta_model.specs.declared.Letter.TheVariants.{X, Y}
use Rattle.zeta_model.specs.Words.{depth_of}
use Rattle.zeta_model.specs.Indices.{index_from, index_of}
use Rattle.zeta_model.specs.Sums.{same_word}
use Rattle.word_letters.specs.Order.{same_words}
use Rattle.word_letters.proofs.IndexLemmas.{word_of_index-index_of, has_index-ends, length-word_of_index}
use Rattle.zeta_model.proofs.DepthLemmas.{depth_of-append, depth_of-x, depth_of-y}
use Rattle.lyndon_words.specs.Lyndon.{joined}
use Rattle.zeta_expr.specs.declared.expr.Factor.TheVariants.{Number}
use Rattle.zeta_expr.specs.Weights as written
use Rattle.zeta_expr.specs.Meaning.{has_inverse, bottom_in, first_lacking, is_tested, refusal_of, first_of}
use Rattle.zeta_expr.proofs.ScanLemmas.{first_bottom, first_bottom-cons, first_weight, first_weight-cons, first_depth, first_depth-cons, refusal-none}
use Rattle.poly_print.specs.Polynomials.{powers_from, powers_of, ArePairs}
use Rattle.poly_lines.specs.Lines.{power_factor, term_form, row_terms}
use Rattle.poly_lines.proofs.MonomialMeaning.{Word, IsAdmissible}

length-index : (k : ℕ) (w : Word) → length (index_from k w) ≡ depth_of w
length-index k [] = refl
length-index k (X ∷ w) = omega (arith, length-index (k + 1) w, depth_of-x w)
length-index k (Y ∷ w) = omega (arith, length-index 1 w, depth_of-y w)

sum-index : (w : Word) → IsAdmissible w → sum (index_of w) ≡ length w
sum-index w h = sym (length-word_of_index (index_of w)) ∙ ap length (word_of_index-index_of w (has_index-ends w h.1))

-- a number of the factors, each as often as it stands there
counted : (Word → ℕ) → List (Word × ℕ) → ℕ
counted f [] = 0
counted f (p ∷ ps) = p.1 * f p.0 + counted f ps

sum_all : (Word → ℕ) → List Word → ℕ
sum_all f [] = 0
sum_all f (u ∷ us) = f u + sum_all f us

counted-by : (f : Word → ℕ) (u v : Word) (k : ℕ) (vs : List Word) (b : Bool) → same_word u v ≡ b → counted f (powers_from u (k + 1) vs)
    ≡ (k + 1) * f u + sum_all f vs → counted f (powers_from v 1 vs) ≡ 1 * f v + sum_all f vs
    → counted f (if b then powers_from u (k + 1) vs else (u, k) ∷ powers_from v 1 vs) ≡ k * f u + sum_all f (v ∷ vs)
unfolding counted sum_all
counted-by f u v k vs true e same other = let w : f u ≡ f v = ap f (same_words u v e) in let x : (k + 1) * f u ≡ k * f u + f u = omega arith in omega arith
counted-by f u v k vs false e same other = omega arith

counted-from : (f : Word → ℕ) (u : Word) (k : ℕ) (us : List Word) → counted f (powers_from u k us) ≡ k * f u + sum_all f us
unfolding counted sum_all
counted-from f u k [] = refl
counted-from f u k (v ∷ vs) = counted-by f u v k vs (same_word u v) refl (counted-from f u (k + 1) vs) (counted-from f v 1 vs)

counted-all : (f : Word → ℕ) (us : List Word) → counted f (powers_of us) ≡ sum_all f us
unfolding counted sum_all
counted-all f [] = refl
counted-all f (u ∷ us) = counted-from f u 1 us ∙ omega arith

all-lengths : (us : List Word) → sum_all length us ≡ length (joined us)
unfolding sum_all
all-lengths [] = refl
all-lengths (u ∷ us) = omega (arith, all-lengths us, length-append u (joined us))

all-depths : (us : List Word) → sum_all depth_of us ≡ depth_of (joined us)
unfolding sum_all
all-depths [] = refl
all-depths (u ∷ us) = omega (arith, all-depths us, depth_of-append u (joined us))

powers-weight : (ps : List (Word × ℕ)) → AllByRecursion (λ p. IsAdmissible p.0) ps → sum_by written.weight_in (map power_factor ps) ≡ counted length ps
unfolding counted
powers-weight [] h = refl
powers-weight (p ∷ ps) h = sum_by-cons written.weight_in (power_factor p) (map power_factor ps) ∙ (λ i. p.1 * sum-index p.0 h.0 i + powers-weight ps h.1 i)

powers-depth : (ps : List (Word × ℕ)) → sum_by written.depth_in (map power_factor ps) ≡ counted depth_of ps
unfolding counted
powers-depth [] = refl
powers-depth (p ∷ ps) = sum_by-cons written.depth_in (power_factor p) (map power_factor ps) ∙ (λ i. p.1 * length-index 1 p.0 i + powers-depth ps i)

pub powers-bottoms : (ps : List (Word × ℕ)) → filter_map bottom_in (map power_factor ps) ≡ []
powers-bottoms [] = refl
powers-bottoms (p ∷ ps) = powers-bottoms ps

pub other-none : (b : Bool) (k w : ℕ) → k ≡ w → (if b then (if k == w then None else Some k) else None) ≡ None
other-none true k w e = ap (λ c. if c then None else Some k) (eq-eqb k w e)
other-none false k w e = refl

less-none : (c : Bool) (k d : ℕ) → nat_lt d k ≡ c → k ≤ d → (if c then Some k else None) ≡ None
less-none true k d e h = let l : d < k = ltb-true d k e in absurd (omega arith)
less-none false k d e h = refl

pub greater-none : (b : Bool) (k d : ℕ) → k ≤ d → (if b then (if nat_lt d k then Some k else None) else None) ≡ None
greater-none true k d h = less-none (nat_lt d k) k d refl h
greater-none false k d h = refl

-- a monomial of a weight and at most a depth
pub record IsPassed (w d : ℕ) (p : List Word) : Type 0 where
  pub words : AllByRecursion (λ q. IsAdmissible q.0) (powers_of p)
  pub weighs : length (joined p) ≡ w
  pub deep : depth_of (joined p) ≤ d

module _ (m w d : ℕ) (columns : List (List Word)) (passed : (col : ℕ) → col < length columns → IsPassed w d (get_or columns col [])) where
  pub term-weight : (e : ℕ × ℕ) → e.0 < length columns → written.weight_of (term_form columns e) ≡ w
  term-weight e h =
      let p = get_or columns e.0 [] in
      let c = passed e.0 h in
      sum_by-cons written.weight_in (Number e.1 None) (map power_factor (powers_of p))
      ∙ (λ i. 0 + powers-weight (powers_of p) c.words i)
      ∙ omega (arith, counted-all length p, all-lengths p, c.weighs)

  pub term-depth : (e : ℕ × ℕ) → e.0 < length columns → written.depth_of (term_form columns e) ≤ d
  term-depth e h =
      let p = get_or columns e.0 [] in
      let c = passed e.0 h in
      omega (
        arith,
        sum_by-cons written.depth_in (Number e.1 None) (map power_factor (powers_of p)),
        powers-depth
            (powers_of p),
        counted-all depth_of p,
        all-depths p,
        c.deep,
      )

  no-bottom : (low k : ℕ) (es : List (ℕ × ℕ)) → ArePairs k (length columns) low es → first_bottom m (map (term_form columns) es) ≡ None
  no-bottom low k [] a = refl
  no-bottom low k (e ∷ es) (a, b, c, f, r) =
      first_bottom-cons m (term_form columns e) (map (term_form columns) es)
      ∙ (λ i. first_of (lacks (powers-bottoms (powers_of (get_or columns e.0 []))) i) (no-bottom (e.0 + 1) k es r i))
    where
      lacks : filter_map bottom_in (map power_factor (powers_of (get_or columns e.0 []))) ≡ [] → first_lacking m (term_form columns e).factors ≡ None
      lacks q = ap (λ (bs : List ℕ). find (λ b. not (has_inverse m b)) bs) q

  no-weight : (low k : ℕ) (es : List (ℕ × ℕ)) → ArePairs k (length columns) low es → first_weight m w (map (term_form columns) es) ≡ None
  no-weight low k [] a = refl
  no-weight low k (e ∷ es) (a, b, c, f, r) =
      let t = term_form columns e in
      first_weight-cons m w t (map (term_form columns) es)
      ∙ (λ i. first_of (other-none (is_tested m t) (written.weight_of t) w (term-weight e b) i) (no-weight (e.0 + 1) k es r i))

  no-depth : (low k : ℕ) (es : List (ℕ × ℕ)) → ArePairs k (length columns) low es → first_depth m d (map (term_form columns) es) ≡ None
  no-depth low k [] a = refl
  no-depth low k (e ∷ es) (a, b, c, f, r) =
      let t = term_form columns e in
      first_depth-cons m d t (map (term_form columns) es)
      ∙ (λ i. first_of (greater-none (is_tested m t) (written.depth_of t) d (term-depth e b) i) (no-depth (e.0 + 1) k es r i))

  some-passes : (k : ℕ) (es : List (ℕ × ℕ)) → ArePairs k (length columns) 0 es → refusal_of m w d (map (term_form columns) es) ≡ None
  some-passes k es a =
      let e = map (term_form columns) es in
      refusal-none m w d e (no-bottom 0 k es a) (no-weight 0 k es a) (no-depth 0 k es a)

  -- the number 0 passes too: it has no zeta, so it is not tested
  zero-passes : refusal_of m w d (row_terms columns []) ≡ None
  zero-passes =
      let e : (0 % m == 0) ≡ true = eq-eqb (0 % m) 0 (zero-mod m) in
      let ts = row_terms columns [] in
      refusal-none m w d ts refl
      (ap (λ b. find (λ k. not (k == w)) (map written.weight_of (if not b then ts else []))) e)
      (ap (λ b. find (λ k. nat_lt d k) (map written.depth_of (if not b then ts else []))) e)

  pub row-passes : (k : ℕ) (es : List (ℕ × ℕ)) → ArePairs k (length columns) 0 es → refusal_of m w d (row_terms columns es) ≡ None
  row-passes k [] a = zero-passes
  row-passes k (e ∷ es) a = some-passes k (e ∷ es) a
