-- Sums of words that are made by steps, and their values.
use Rattle.std.proofs.Common.{◌≡◌, ◌≢◌, ℕ, zero, suc, ◌+◌, ◌-◌, ◌*◌, ◌%◌, ◌<◌, ◌⊎◌, inl, inr, eqb, true, false, cond, List, [], ◌∷◌, length, map, replicate, refl, sym, ap, ◌∙◌, arith}
use Rattle.std.specs.List.{flat_map}
use Rattle.std.proofs.lemmas.Bool.Decides.{eqb_tells}
use Rattle.zeta_model.specs.declared.Letter.{Letter}
use Rattle.zeta_model.specs.declared.Letter.TheVariants.{X, Y}
use Rattle.zeta_model.specs.Modular.{Same}
use Rattle.zeta_model.specs.Words.{ends_with_y, has_index, is_admissible}
use Rattle.zeta_model.specs.Product.{Alphabet, AlphabetLaws, prod, total}
use Rattle.zeta_model.specs.Alphabets.{shuffle_alphabet, stuffle_alphabet, shuffle_of, stuffle_of}
use Rattle.zeta_model.specs.Duality.{dual_of}
use Rattle.zeta_model.specs.Sums.{Sum, single, sum_of, difference, continued}
use Rattle.zeta_model.specs.Regularise.{y_word, reg_of}
use Rattle.zeta_model.proofs.DualityLaws.{length-dual_of}
use Rattle.zeta_model.proofs.ModularLemmas.{same-add, same-mul, same-mul_left, same-mod}
use Rattle.zeta_model.proofs.ProductWords.{single-other, prod-covered, length-prod}
use Rattle.zeta_model.proofs.RegularWords.{reg_of-words}
use Rattle.zeta_model.proofs.ShuffleLetters.{shuffle_laws}
use Rattle.zeta_model.proofs.StuffleLetters.{stuffle_laws}
use Rattle.zeta_model.proofs.Totals.{total-append, total-map, total-flat_map, total-zero}
use Rattle.zeta_model.proofs.WordOrder.{same_word-itself}
use Rattle.word_sums.specs.Terms.{coefficient_of}
use Rattle.zeta_model.specs.Sums.{numbered}
use Rattle.regularise_core.proofs.KnownSums.{continued_known}
use Rattle.relation_list.specs.declared.names.Direct.{Direct}
use Rattle.relation_list.specs.declared.names.Direct.TheVariants.{Fin, Reg, Dual}
use Rattle.zeta_model.specs.WordLists.{all_words}
use Rattle.relation_list.specs.Names.{in_order, direct_weight_of, is_direct}
use Rattle.relation_list.specs.Values.{direct_value_of}
use Rattle.relation_list.proofs.NameBounds.{fin-admissible, reg-parts}

abbrev Word : Type 0
Word = List Letter

pub admissible-has_index : (w : Word) → is_admissible w ≡ true → has_index w ≡ true
admissible-has_index [] h = cc
admissible-has_index (X ∷ w) h = h
admissible-has_index (Y ∷ w) h = cc

pub length-y_word : (k : ℕ) → length (y_word k) ≡ k
length-y_word zero = refl
length-y_word (suc k) = ap suc (length-y_word k)

pub has_index-y_word : (k : ℕ) → has_index (y_word k) ≡ true
has_index-y_word zero = refl
has_index-y_word (suc zero) = refl
has_index-y_word (suc (suc k)) = has_index-y_word (suc k)

-- a number and its rest
pub from_rest : (m a b : ℕ) → a ≡ b % m → Same m a b
from_rest m a b e = ap (λ n. n % m) e ∙ same-mod m b

-- a + c b is s - r modulo m
pub difference_made : (m s r a b c n : ℕ) → Same m a s → Same m b r → c ≡ m - 1 → n ≡ (a + c * b) % m → n ≡ (s + (m - 1) * r) % m
difference_made m s r a b c n first second sign is = is ∙ same-add m a s (c * b) ((m - 1) * r) first (same-mul m c (m - 1) b r (ap (λ k. k % m) sign) second)

none_over : (n : ℕ) → (0 < n → ⊥) → n ≡ 0
none_over zero f = refl
none_over (suc n) f = absurd (f (omega arith))

-- f is zero at the words of the list
total-none : (f : Word → ℕ) (ws : List Word) → ((w : Word) → 0 < sum_of ws w → f w ≡ 0) → total f ws ≡ 0
total-none f [] none = refl
total-none f (w ∷ ws) none =
    let one : single w w ≡ 1 = ap (λ b. cond b 1 0) (same_word-itself w) in
    let here : f w ≡ 0 = none w (omega arith) in
    omega (arith, here, total-none f ws (λ v h. none v (omega arith)))

-- a product has no words of other weights
product-none : (L : Alphabet) (u v t : Word) → ((limit : ℕ) → AlphabetLaws limit L) → L.covered u ≡ true → L.covered v ≡ true → length t ≢ length u + length v
    → sum_of (prod L u v) t ≡ 0
product-none L u v t laws cu cv other =
    none_over (sum_of (prod L u v) t) (λ h. other (length-prod (length u + length v) L (laws (length u + length v)) u v t cu cv (omega arith) h))

difference-none : (m : ℕ) (s r : Sum) (t : Word) → s t ≡ 0 → r t ≡ 0 → difference m s r t ≡ 0
difference-none m s r t a b = let z : (m - 1) * 0 ≡ 0 = omega arith in ap (λ k. s t + (m - 1) * k) b ∙ omega (arith, a, z)

long-ends : (w : Word) → has_index w ≡ true → 0 < length w → ends_with_y w ≡ true
long-ends [] h p = absurd (omega arith)
long-ends (a ∷ w) h p = h

-- the value of a direct name has no words of other weights
pub direct_value_of-none : (m : ℕ) (r : Direct) → is_direct r ≡ true → (t : Word) → length t ≢ direct_weight_of r → direct_value_of m r t ≡ 0
direct_value_of-none m (Fin u v) h t other =
    let a : (is_admissible u ≡ true) × (is_admissible v ≡ true) × (in_order u v ≡ true) = fin-admissible (Fin u v) u v h refl in
    difference-none m (sum_of (shuffle_of u v)) (sum_of (stuffle_of u v)) t
    (product-none shuffle_alphabet u v t shuffle_laws refl refl other)
    (product-none stuffle_alphabet u v t stuffle_laws (admissible-has_index u a.0) (admissible-has_index v a.1) other)
direct_value_of-none m (Reg k v) h t other = total-none (λ w. reg_of m w t) (stuffle_of (y_word k) v) none
  where
    none : (w : Word) → 0 < sum_of (stuffle_of (y_word k) v) w → reg_of m w t ≡ 0
    none w held =
        let p : (0 < k) × (is_admissible v ≡ true) = reg-parts (Reg k v) k v h refl in
        let cv : has_index v ≡ true = admissible-has_index v p.1 in
        let n : ℕ = length (y_word k) + length v in
        let cw : has_index w ≡ true = prod-covered n stuffle_alphabet (stuffle_laws n) (y_word k) v w (has_index-y_word k) cv (omega arith) held in
        let lw : length w ≡ length (y_word k) + length v =
        length-prod n stuffle_alphabet (stuffle_laws n) (y_word k) v w (has_index-y_word k) cv (omega arith) held in
        let ly : length (y_word k) ≡ k = length-y_word k in
        let some : 0 < length w = omega (arith, p.0, lw, ly) in
        none_over (reg_of m w t) (λ g. other ((reg_of-words m w t (long-ends w cw some) g).1 ∙ lw ∙ ap (λ j. j + length v) ly))
direct_value_of-none m (Dual u) h t other =
    difference-none m (single u) (single (dual_of u)) t
    (single-other u t (λ e. other (ap length e)))
    (single-other (dual_of u) t (λ e. other (ap length e ∙ length-dual_of u)))

pub direct_value_of-weight : (m : ℕ) (r : Direct) → is_direct r ≡ true → (t : Word) → 0 < direct_value_of m r t → length t ≡ direct_weight_of r
direct_value_of-weight m r h t p = by (eqb_tells (length t) (direct_weight_of r))
  where
    by : ((eqb (length t) (direct_weight_of r) ≡ true) × (length t ≡ direct_weight_of r)) ⊎
        ((eqb (length t) (direct_weight_of r) ≡ false) × (length t ≢ direct_weight_of r)) → length t ≡ direct_weight_of r
    by (inl q) = q.1
    by (inr q) = absurd (omega (arith, p, direct_value_of-none m r h t q.1))

total-replicate : (f : Word → ℕ) (n : ℕ) (w : Word) → total f (replicate n w) ≡ n * f w
total-replicate f zero w = omega arith
total-replicate f (suc n) w =
    let both : f w + n * f w ≡ suc n * f w = grind arith in
    omega (arith, total-replicate f n w, both)

total-same : (f g : Word → ℕ) (ws : List Word) → ((w : Word) → f w ≡ g w) → total f ws ≡ total g ws
total-same f g ws same = λ i. total (λ w. same w i) ws

-- each word of the list as often as s says
repeated : Sum → List Word → List Word
repeated s ws = flat_map (λ w. replicate (s w) w) ws

total-repeated : (f : Word → ℕ) (s : Sum) (ws : List Word) → total f (repeated s ws) ≡ total (λ w. s w * f w) ws
unfolding repeated
total-repeated f s ws = total-flat_map f (λ w. replicate (s w) w) ws
    ∙ total-same (λ w. total f (replicate (s w) w)) (λ w. s w * f w) ws (λ w. total-replicate f (s w) w)

times_none : (s : Word → ℕ) (ws : List Word) → total (λ w. s w * 0) ws ≡ 0
times_none s ws = total-same (λ w. s w * 0) (λ w. 0) ws (λ w. omega arith) ∙ total-zero ws

-- each word of the weight stands once among the words of the weight
picked : (k : ℕ) (s : Sum) (t : Word) → length t ≡ k → total (λ w. s w * single w t) (all_words k) ≡ s t
unfolding all_words
picked zero s [] e = omega arith
picked zero s (a ∷ t) e = absurd (omega arith)
picked (suc k) s [] e = absurd (omega arith)
picked (suc k) s (X ∷ t) e =
    let g : Word → ℕ = λ w. s w * single w (X ∷ t) in
    let ih : total (λ w. s (X ∷ w) * single w t) (all_words k) ≡ s (X ∷ t) = picked k (λ w. s (X ∷ w)) t (omega arith) in
    total-append g (map (λ w. X ∷ w) (all_words k)) (map (λ w. Y ∷ w) (all_words k))
    ∙ (λ i. total-map g (λ w. X ∷ w) (all_words k) i + total-map g (λ w. Y ∷ w) (all_words k) i)
    ∙ omega (arith, ih, times_none (λ w. s (Y ∷ w)) (all_words k))
picked (suc k) s (Y ∷ t) e =
    let g : Word → ℕ = λ w. s w * single w (Y ∷ t) in
    let ih : total (λ w. s (Y ∷ w) * single w t) (all_words k) ≡ s (Y ∷ t) = picked k (λ w. s (Y ∷ w)) t (omega arith) in
    total-append g (map (λ w. X ∷ w) (all_words k)) (map (λ w. Y ∷ w) (all_words k))
    ∙ (λ i. total-map g (λ w. X ∷ w) (all_words k) i + total-map g (λ w. Y ∷ w) (all_words k) i)
    ∙ omega (arith, ih, times_none (λ w. s (X ∷ w)) (all_words k))

not_picked : (k : ℕ) (s : Sum) (t : Word) → length t ≢ k → total (λ w. s w * single w t) (all_words k) ≡ 0
unfolding all_words
not_picked zero s [] n = absurd (n refl)
not_picked zero s (a ∷ t) n = omega arith
not_picked (suc k) s [] n =
    let g : Word → ℕ = λ w. s w * single w [] in
    total-append g (map (λ w. X ∷ w) (all_words k)) (map (λ w. Y ∷ w) (all_words k))
    ∙ (λ i. total-map g (λ w. X ∷ w) (all_words k) i + total-map g (λ w. Y ∷ w) (all_words k) i)
    ∙ omega (arith, times_none (λ w. s (X ∷ w)) (all_words k), times_none (λ w. s (Y ∷ w)) (all_words k))
not_picked (suc k) s (X ∷ t) n =
    let g : Word → ℕ = λ w. s w * single w (X ∷ t) in
    let ih : total (λ w. s (X ∷ w) * single w t) (all_words k) ≡ 0 = not_picked k (λ w. s (X ∷ w)) t (λ e. n (ap suc e)) in
    total-append g (map (λ w. X ∷ w) (all_words k)) (map (λ w. Y ∷ w) (all_words k))
    ∙ (λ i. total-map g (λ w. X ∷ w) (all_words k) i + total-map g (λ w. Y ∷ w) (all_words k) i)
    ∙ omega (arith, ih, times_none (λ w. s (Y ∷ w)) (all_words k))
not_picked (suc k) s (Y ∷ t) n =
    let g : Word → ℕ = λ w. s w * single w (Y ∷ t) in
    let ih : total (λ w. s (Y ∷ w) * single w t) (all_words k) ≡ 0 = not_picked k (λ w. s (Y ∷ w)) t (λ e. n (ap suc e)) in
    total-append g (map (λ w. X ∷ w) (all_words k)) (map (λ w. Y ∷ w) (all_words k))
    ∙ (λ i. total-map g (λ w. X ∷ w) (all_words k) i + total-map g (λ w. Y ∷ w) (all_words k) i)
    ∙ omega (arith, ih, times_none (λ w. s (X ∷ w)) (all_words k))

sum_of-repeated : (k : ℕ) (s : Sum) → ((t : Word) → length t ≢ k → s t ≡ 0) → (t : Word) → sum_of (repeated s (all_words k)) t ≡ s t
sum_of-repeated k s none t = total-repeated (λ w. single w t) s (all_words k) ∙ by (eqb_tells (length t) k)
  where
    by : ((eqb (length t) k ≡ true) × (length t ≡ k)) ⊎ ((eqb (length t) k ≡ false) × (length t ≢ k)) → total (λ w. s w * single w t) (all_words k) ≡ s t
    by (inl p) = picked k s t p.1
    by (inr p) = not_picked k s t p.1 ∙ sym (none t p.1)

-- a map of words that is continued linearly to terms with the coefficients of s, whose words have k letters
pub continued_all_words : {E : Type 0} (m : ℕ) (value : E → ℕ) (terms : List (Word × E)) (k : ℕ) (s : Sum) → 0 < m
    → ((t : Word) → coefficient_of value terms t ≡ s t % m) → ((t : Word) → length t ≢ k → s t ≡ 0)
    → (f : Word → Sum) (t : Word) → Same m (continued f (numbered value terms) t) (total (λ w. s w * f w t) (all_words k))
continued_all_words m value terms k s pos is none f t =
    continued_known m value terms (repeated s (all_words k)) pos
    (λ r. ap (λ n. n % m) (is r) ∙ same-mod m (s r) ∙ ap (λ n. n % m) (sym (sum_of-repeated k s none r))) f t
    ∙ ap (λ n. n % m) (total-repeated (λ w. f w t) s (all_words k))

-- the same where the coefficients are those of a list of words
pub continued_list : {E : Type 0} (m : ℕ) (value : E → ℕ) (terms : List (Word × E)) (ws : List Word) → 0 < m
    → ((t : Word) → coefficient_of value terms t ≡ sum_of ws t % m)
    → (f : Word → Sum) (t : Word) → Same m (continued f (numbered value terms) t) (total (λ w. f w t) ws)
continued_list m value terms ws pos is f t = continued_known m value terms ws pos (λ r. ap (λ n. n % m) (is r) ∙ same-mod m (sum_of ws r)) f t

continued-same : (m : ℕ) (f g : Word → Sum) (ps : List (ℕ × Word)) (t : Word) → ((w : Word) → Same m (f w t) (g w t))
    → Same m (continued f ps t) (continued g ps t)
continued-same m f g [] t same = refl
continued-same m f g (p ∷ ps) t same =
    same-add m (p.0 * f p.1 t) (p.0 * g p.1 t) (continued f ps t) (continued g ps t) (same-mul_left m (f p.1 t) (g p.1 t) p.0 (same p.1))
    (continued-same m f g ps t same)

-- the shuffle with a sum of one word
pub shuffle_with_word : {E : Type 0} (m : ℕ) (value : E → ℕ) (other : List (Word × E)) (u : Word) → 0 < m
    → ((t : Word) → coefficient_of value other t ≡ single u t % m)
    → (ps : List (ℕ × Word)) (t : Word)
    → Same m (continued (λ w. continued (λ v. sum_of (shuffle_of w v)) (numbered value other)) ps t) (continued (λ w. sum_of (shuffle_of w u)) ps t)
shuffle_with_word m value other u pos is ps t =
    continued-same m (λ w. continued (λ v. sum_of (shuffle_of w v)) (numbered value other)) (λ w. sum_of (shuffle_of w u)) ps t
    (λ w. continued_list m value other (u ∷ []) pos (λ r. is r ∙ ap (λ n. n % m) (omega arith)) (λ v. sum_of (shuffle_of w v)) t
    ∙ ap (λ n. n % m) (omega arith))
