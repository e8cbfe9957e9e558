-- Sums over lists of words, and over all words of a weight.
use Rattle.std.proofs.Common.{◌≡◌, ℕ, zero, suc, ◌+◌, ◌*◌, ◌<◌, List, [], ◌∷◌, length, map, Contains, cond, refl, sym, ap, ◌∙◌, arith}
use Rattle.zeta_model.specs.declared.Letter.{Letter}
use Rattle.zeta_model.specs.declared.Letter.TheVariants.{X, Y}
use Rattle.zeta_model.specs.Modular.{Same}
use Rattle.zeta_model.specs.Product.{total}
use Rattle.zeta_model.specs.Sums.{Sum, single, sum_of}
use Rattle.zeta_model.specs.WordLists.{all_words}
use Rattle.zeta_model.proofs.ListLemmas.{contains_first, contains_later}
use Rattle.zeta_model.proofs.ModularLemmas.{same-add}
use Rattle.zeta_model.proofs.Totals.{total-append, total-map, total-plus, total-zero}
use Rattle.zeta_model.proofs.WordOrder.{same_word-itself}
use Rattle.table_model.specs.MonomialWords.{sum_combination}

abbrev Word : Type 0
Word = List Letter

pub total-times : (c : ℕ) (f : Word → ℕ) (ws : List Word) → total (λ w. c * f w) ws ≡ c * total f ws
total-times c f [] = omega arith
total-times c f (w ∷ ws) = let e : c * (f w + total f ws) ≡ c * f w + c * total f ws = omega arith in
    omega (arith, total-times c f ws)

pub total-factor : (c : ℕ) (f : Word → ℕ) (ws : List Word) → total (λ w. f w * c) ws ≡ total f ws * c
total-factor c f [] = omega arith
total-factor c f (w ∷ ws) = let e : (f w + total f ws) * c ≡ f w * c + total f ws * c = omega arith in
    omega (arith, total-factor c f ws)

pub total_agree : (f g : Word → ℕ) (ws : List Word) → ((w : Word) → f w ≡ g w) → total f ws ≡ total g ws
total_agree f g [] h = refl
total_agree f g (w ∷ ws) h = λ i. h w i + total_agree f g ws h i

-- functions that agree on the words of a list have one sum over it
pub total_held : (f g : Word → ℕ) (ws : List Word) → ((w : Word) → Contains ws w → f w ≡ g w) → total f ws ≡ total g ws
total_held f g [] h = refl
total_held f g (w ∷ ws) h = λ i. h w (contains_first w ws) i + total_held f g ws (λ v c. h v (contains_later w v ws c)) i

pub same-total : (m : ℕ) (f g : Word → ℕ) (ws : List Word) → ((w : Word) → Same m (f w) (g w)) → Same m (total f ws) (total g ws)
same-total m f g [] h = refl
same-total m f g (w ∷ ws) h = same-add m (f w) (g w) (total f ws) (total g ws) (h w) (same-total m f g ws h)

-- a double sum may be taken in either order
pub total-total : (F : Word → Word → ℕ) (us vs : List Word) → total (λ u. total (F u) vs) us ≡ total (λ v. total (λ u. F u v) us) vs
total-total F [] vs = sym (total-zero vs)
total-total F (u ∷ us) vs = (λ i. total (F u) vs + total-total F us vs i) ∙ sym (total-plus (F u) (λ v. total (λ t. F t v) us) vs)

-- a combination of totals is the total of the combinations
pub combination-total : (n : ℕ) (F : ℕ → Word → Sum) (c : ℕ → ℕ) (ws : List Word) (t : Word)
    → sum_combination n (λ i r. total (λ w. F i w r) ws) c t ≡ total (λ w. sum_combination n (λ i. F i w) c t) ws
combination-total zero F c ws t = sym (total-zero ws)
combination-total (suc n) F c ws t =
    (λ i. combination-total n F c ws t i + sym (total-times (c n) (λ w. F n w t) ws) i)
    ∙ sym (total-plus (λ w. sum_combination n (λ i. F i w) c t) (λ w. c n * F n w t) ws)

-- a factor of all sums is one of their combination
pub combination-factor : (n : ℕ) (sums : ℕ → Sum) (c : ℕ → ℕ) (x : ℕ) (w t : Word)
    → sum_combination n (λ i r. sums i w * x) c t ≡ sum_combination n sums c w * x
combination-factor zero sums c x w t = omega arith
combination-factor (suc n) sums c x w t =
    let e : (sum_combination n sums c w + c n * sums n w) * x ≡ sum_combination n sums c w * x + c n * (sums n w * x) = omega arith in
    omega (arith, combination-factor n sums c x w t)

single-itself : (w : Word) → single w w ≡ 1
single-itself w = ap (λ b. cond b 1 0) (same_word-itself w)

-- of all words of the weight of v only v counts
total-single : (k : ℕ) (f : Word → ℕ) (v : Word) → length v ≡ k → total (λ w. single v w * f w) (all_words k) ≡ f v
unfolding all_words
total-single zero f [] e = omega arith
total-single zero f (a ∷ v) e = absurd (omega arith)
total-single (suc k) f [] e = absurd (omega arith)
total-single (suc k) f (X ∷ v) e =
    let g : Word → ℕ = λ w. single (X ∷ v) w * f w in
    let xs : total (λ t. g (X ∷ t)) (all_words k) ≡ f (X ∷ v) = total-single k (λ t. f (X ∷ t)) v (omega arith) in
    let ys : total (λ t. g (Y ∷ t)) (all_words k) ≡ 0 =
    total_agree (λ t. g (Y ∷ t)) (λ t. 0) (all_words k) (λ t. let z : 0 * f (Y ∷ t) ≡ 0 = omega arith in z) ∙ total-zero (all_words k) in
    total-append g (map (λ w. X ∷ w) (all_words k)) (map (λ w. Y ∷ w) (all_words k))
    ∙ (λ i. (total-map g (λ t. X ∷ t) (all_words k) ∙ xs) i + (total-map g (λ t. Y ∷ t) (all_words k) ∙ ys) i)
    ∙ omega arith
total-single (suc k) f (Y ∷ v) e =
    let g : Word → ℕ = λ w. single (Y ∷ v) w * f w in
    let ys : total (λ t. g (Y ∷ t)) (all_words k) ≡ f (Y ∷ v) = total-single k (λ t. f (Y ∷ t)) v (omega arith) in
    let xs : total (λ t. g (X ∷ t)) (all_words k) ≡ 0 =
    total_agree (λ t. g (X ∷ t)) (λ t. 0) (all_words k) (λ t. let z : 0 * f (X ∷ t) ≡ 0 = omega arith in z) ∙ total-zero (all_words k) in
    total-append g (map (λ w. X ∷ w) (all_words k)) (map (λ w. Y ∷ w) (all_words k))
    ∙ (λ i. (total-map g (λ t. X ∷ t) (all_words k) ∙ xs) i + (total-map g (λ t. Y ∷ t) (all_words k) ∙ ys) i)
    ∙ omega arith

-- the sum over all words of a weight, each as often as it stands in a list of such words, is the sum over the list
pub total-sum_of : (k : ℕ) (f : Word → ℕ) (vs : List Word) → ((v : Word) → 0 < sum_of vs v → length v ≡ k)
    → total (λ w. sum_of vs w * f w) (all_words k) ≡ total f vs
total-sum_of k f [] h = total_agree (λ w. 0 * f w) (λ w. 0) (all_words k) (λ w. omega arith) ∙ total-zero (all_words k)
total-sum_of k f (v ∷ vs) h =
    total_agree (λ w. (single v w + sum_of vs w) * f w) (λ w. single v w * f w + sum_of vs w * f w) (all_words k) (λ w. omega arith)
    ∙ total-plus (λ w. single v w * f w) (λ w. sum_of vs w * f w) (all_words k)
    ∙ (λ i. total-single k f v (h v (omega (arith, single-itself v))) i
    + total-sum_of k f vs (λ u p. h u (omega arith)) i)
