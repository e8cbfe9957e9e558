-- The words of a value are admissible, have the weight of the name and are at most as deep.
use Rattle.std.proofs.Common.{◌≡◌, ℕ, zero, suc, ◌+◌, ◌-◌, ◌*◌, ◌<◌, ◌≤◌, ◌⊎◌, inl, inr, max, true, List, [], ◌∷◌, length, map, Contains, refl, sym, ap, ◌∙◌, arith}
use Rattle.zeta_model.specs.declared.Letter.{Letter}
use Rattle.zeta_model.specs.declared.Letter.TheVariants.{X, Y}
use Rattle.zeta_model.specs.Words.{depth_of, ends_with_y, has_index, is_admissible}
use Rattle.zeta_model.specs.Alphabets.{shuffle_alphabet, stuffle_alphabet, shuffle_of, stuffle_of}
use Rattle.zeta_model.specs.Duality.{dual_of}
use Rattle.zeta_model.specs.Sums.{single, sum_of}
use Rattle.zeta_model.specs.Regularise.{y_word, sign_of, reg_behind, reg_of}
use Rattle.zeta_model.proofs.DualityLaws.{is_admissible-dual_of}
use Rattle.zeta_model.proofs.ProductWords.{prod-covered, length-prod}
use Rattle.zeta_model.proofs.RegularWords.{reg_of-words}
use Rattle.zeta_model.proofs.ShuffleLetters.{shuffle_laws}
use Rattle.zeta_model.proofs.StuffleLetters.{stuffle_laws}
use Rattle.relation_list.specs.declared.names.Direct.{Direct}
use Rattle.relation_list.specs.declared.names.Direct.TheVariants.{Fin, Reg, Dual}
use Rattle.relation_list.specs.declared.names.RelName.{RelName}
use Rattle.relation_list.specs.declared.names.RelName.TheVariants.{Plain, Prod}
use Rattle.zeta_model.specs.WordLists.{all_words}
use Rattle.relation_list.specs.Names.{in_order, direct_weight_of, direct_depth_of, is_direct, is_name_of}
use Rattle.relation_list.specs.Values.{direct_value_of, value_of, IsWordOf}
use Rattle.relation_list.proofs.Members.{From, from-map}
use Rattle.relation_list.proofs.NameBounds.{fin-admissible, reg-parts, dual-parts, plain-direct, prod-parts}
use Rattle.relation_list.proofs.ProductWords.{At, total-some, sum_of-held, held-some, single-some, depth-shuffle, depth-stuffle, shuffle-admissible, stuffle-admissible}
use Rattle.relation_list.proofs.ValueLemmas.{admissible-has_index, length-y_word, has_index-y_word, direct_value_of-weight}
use Rattle.zeta_model.proofs.DepthLemmas.{depth_of-x, depth_of-y}

abbrev Word : Type 0
Word = List Letter

-- t is admissible and at most d deep
record Fits (d : ℕ) (t : Word) : Type 0 where
  admissible : is_admissible t ≡ true
  depth : depth_of t ≤ d

one_of : (a b c : ℕ) → 0 < a + c * b → (0 < a) ⊎ (0 < b)
one_of zero zero c h = let z : c * 0 ≡ 0 = omega arith in absurd (omega arith)
one_of zero (suc b) c h = inr (omega arith)
one_of (suc a) b c h = inl (omega arith)

left_factor : (a b : ℕ) → 0 < a * b → 0 < a
left_factor zero b h = let z : 0 * b ≡ 0 = omega arith in absurd (omega arith)
left_factor (suc a) b h = omega arith

right_factor : (a b : ℕ) → 0 < a * b → 0 < b
right_factor a zero h = let z : a * 0 ≡ 0 = omega arith in absurd (omega arith)
right_factor a (suc b) h = omega arith

depth-y_word : (k : ℕ) → depth_of (y_word k) ≡ k
depth-y_word zero = refl
depth-y_word (suc k) = omega (arith, depth_of-y (y_word k), depth-y_word k)

-- regularising keeps the depth
depth-reg_behind : (m j : ℕ) (w t : Word) → 0 < reg_behind m j w t → depth_of t ≤ j + depth_of w
depth-reg_behind m zero [] t h = omega (arith, ap depth_of (single-some [] t h))
depth-reg_behind m (suc j) [] t h = absurd (omega arith)
depth-reg_behind m j (X ∷ u) t h =
    let held : Contains (map (λ r. X ∷ r) (shuffle_of (y_word j) u)) t =
    sum_of-held (map (λ r. X ∷ r) (shuffle_of (y_word j) u)) t (right_factor (sign_of m j) (sum_of (map (λ r. X ∷ r) (shuffle_of (y_word j) u)) t) h) in
    let r : From (λ r. X ∷ r) (shuffle_of (y_word j) u) t = from-map (λ r. X ∷ r) (shuffle_of (y_word j) u) t held in
    let e : depth_of t ≡ depth_of r.origin = ap depth_of (sym r.gives) ∙ depth_of-x r.origin in
    omega (arith, e, depth-shuffle (y_word j) u r.origin (held-some (shuffle_of (y_word j) u) r.origin r.held), depth-y_word j, depth_of-x u)
depth-reg_behind m j (Y ∷ w) t h = omega (arith, depth-reg_behind m (suc j) w t h, depth_of-y w)

fin-fits : (m : ℕ) (u v t : Word) → is_direct (Fin u v) ≡ true → 0 < direct_value_of m (Fin u v) t → Fits (depth_of u + depth_of v) t
fin-fits m u v t h p = by (one_of (sum_of (shuffle_of u v) t) (sum_of (stuffle_of u v) t) (m - 1) p)
  where
    by : (0 < sum_of (shuffle_of u v) t) ⊎ (0 < sum_of (stuffle_of u v) t) → Fits (depth_of u + depth_of v) t
    by (inl q) = let a : (is_admissible u ≡ true) × (is_admissible v ≡ true) × (in_order u v ≡ true) = fin-admissible (Fin u v) u v h refl in
        record { admissible = shuffle-admissible u v t a.0 a.1 q; depth = depth-shuffle u v t q }
    by (inr q) =
        let a : (is_admissible u ≡ true) × (is_admissible v ≡ true) × (in_order u v ≡ true) = fin-admissible (Fin u v) u v h refl in
        let n : ℕ = length u + length v in
        let cu : has_index u ≡ true = admissible-has_index u a.0 in
        let cv : has_index v ≡ true = admissible-has_index v a.1 in
        let ct : has_index t ≡ true = prod-covered n stuffle_alphabet (stuffle_laws n) u v t cu cv (omega arith) q in
        record { admissible = stuffle-admissible u v t a.0 a.1 ct q; depth = depth-stuffle u v t cu cv q }

long-ends : (w : Word) → has_index w ≡ true → 0 < length w → ends_with_y w ≡ true
long-ends [] h p = absurd (omega arith)
long-ends (a ∷ w) h p = h

reg-fits : (m k : ℕ) (v t : Word) → is_direct (Reg k v) ≡ true → 0 < direct_value_of m (Reg k v) t → Fits (k + depth_of v) t
reg-fits m k v t h p =
    let a : (0 < k) × (is_admissible v ≡ true) = reg-parts (Reg k v) k v h refl in
    let r : At (λ w. reg_of m w t) (stuffle_of (y_word k) v) = total-some (λ w. reg_of m w t) (stuffle_of (y_word k) v) p in
    let w : Word = r.word in
    let n : ℕ = length (y_word k) + length v in
    let cv : has_index v ≡ true = admissible-has_index v a.1 in
    let q : 0 < sum_of (stuffle_of (y_word k) v) w = held-some (stuffle_of (y_word k) v) w r.held in
    let cw : has_index w ≡ true = prod-covered n stuffle_alphabet (stuffle_laws n) (y_word k) v w (has_index-y_word k) cv (omega arith) q in
    let lw : length w ≡ length (y_word k) + length v = length-prod n stuffle_alphabet (stuffle_laws n) (y_word k) v w (has_index-y_word k) cv (omega arith) q in
    let ly : length (y_word k) ≡ k = length-y_word k in
    let some : 0 < length w = omega (arith, a.0, lw, ly) in
    record {
      admissible = (reg_of-words m w t (long-ends w cw some) r.some).0;
      depth = omega (arith, depth-reg_behind m 0 w t r.some, depth-stuffle (y_word k) v w (has_index-y_word k) cv q, depth-y_word k);
    }

dual-fits : (m : ℕ) (u t : Word) → is_direct (Dual u) ≡ true → 0 < direct_value_of m (Dual u) t → Fits (max (depth_of u) (depth_of (dual_of u))) t
dual-fits m u t h p = by (one_of (single u t) (single (dual_of u) t) (m - 1) p)
  where
    by : (0 < single u t) ⊎ (0 < single (dual_of u) t) → Fits (max (depth_of u) (depth_of (dual_of u))) t
    by (inl q) = let e : t ≡ u = single-some u t q in
        record { admissible = ap is_admissible e ∙ (dual-parts (Dual u) u h refl).0; depth = omega (arith, ap depth_of e) }
    by (inr q) = let e : t ≡ dual_of u = single-some (dual_of u) t q in
        record { admissible = ap is_admissible e ∙ is_admissible-dual_of u ∙ (dual-parts (Dual u) u h refl).0; depth = omega (arith, ap depth_of e) }

direct-fits : (m : ℕ) (r : Direct) (t : Word) → is_direct r ≡ true → 0 < direct_value_of m r t → Fits (direct_depth_of r) t
direct-fits m (Fin u v) t h p = fin-fits m u v t h p
direct-fits m (Reg k v) t h p = reg-fits m k v t h p
direct-fits m (Dual u) t h p = dual-fits m u t h p

pub value_of-words : (m : ℕ) (n : RelName) (t : Word) → is_name_of n ≡ true → 0 < value_of m n t → IsWordOf n t
value_of-words m (Plain r) t h p =
    let d : is_direct r ≡ true = plain-direct (Plain r) r h refl in
    let f : Fits (direct_depth_of r) t = direct-fits m r t d p in
    record { admissible = f.admissible; weight = direct_value_of-weight m r d t p; depth = f.depth }
value_of-words m (Prod r u) t h p =
    let a : (is_direct r ≡ true) × (3 ≤ direct_weight_of r) × (is_admissible u ≡ true) = prod-parts (Prod r u) r u h refl in
    let s : At (λ w. direct_value_of m r w * sum_of (shuffle_of w u) t) (all_words (direct_weight_of r)) =
    total-some (λ w. direct_value_of m r w * sum_of (shuffle_of w u) t) (all_words (direct_weight_of r)) p in
    let w : Word = s.word in
    let pw : 0 < direct_value_of m r w = left_factor (direct_value_of m r w) (sum_of (shuffle_of w u) t) s.some in
    let pt : 0 < sum_of (shuffle_of w u) t = right_factor (direct_value_of m r w) (sum_of (shuffle_of w u) t) s.some in
    let f : Fits (direct_depth_of r) w = direct-fits m r w a.0 pw in
    let n : ℕ = length w + length u in
    let lt : length t ≡ length w + length u = length-prod n shuffle_alphabet (shuffle_laws n) w u t refl refl (omega arith) pt in
    let lw : length w ≡ direct_weight_of r = direct_value_of-weight m r a.0 w pw in
    record {
      admissible = shuffle-admissible w u t f.admissible a.2 pt;
      weight = lt ∙ ap (λ k. k + length u) lw;
      depth = omega (arith, depth-shuffle w u t pt, f.depth);
    }
