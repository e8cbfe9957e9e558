-- The words of the shuffle of a monomial's factors are admissible, of its weight, and at most as deep.
use Rattle.std.specs.Prelude.{◌%◌}
use Rattle.std.proofs.Common.{◌≡◌, ℕ, ◌+◌, ◌<◌, ◌≤◌, inl, inr, true, List, [], ◌∷◌, length, Contains, refl, sym, ap, subst, ◌∙◌, arith, length-append}
use Rattle.std.specs.List.{flat_map}
use Rattle.zeta_model.specs.declared.Letter.{Letter}
use Rattle.zeta_model.specs.Words.{depth_of, is_admissible}
use Rattle.zeta_model.specs.Alphabets.{shuffle_alphabet, shuffle_of}
use Rattle.zeta_model.specs.Sums.{sum_of}
use Rattle.zeta_model.proofs.ProductWords.{length-prod}
use Rattle.zeta_model.proofs.ShuffleLetters.{shuffle_laws}
use Rattle.lyndon_words.specs.Lyndon.{joined}
use Rattle.lyndon_words.specs.Monomials.{AllAdmissible}
use Rattle.column_order.specs.Columns.{IsColumn}
use Rattle.zeta_model.proofs.ListLemmas.{none_contained, contains_cases, Within, within-flat_map}
use Rattle.relation_list.proofs.ProductWords.{sum_of-held, held-some, depth_of-append, depth-shuffle, shuffle-admissible}
use Rattle.lyndon_words.specs.Lyndon.{IsBefore, IsFactors}
use Rattle.leading_word.specs.Shuffles.{shuffled_with, words_of}
use Rattle.leading_word.proofs.Leading.{none_greater}
use Rattle.zeta_model.specs.Modular.{Same}
use Rattle.table_model.specs.MonomialWords.{words_of_monomial}
use Rattle.table_model.specs.Conversion.{IsTableWord}

abbrev Word : Type 0
Word = List Letter

the_one : (u t : Word) → Contains (u ∷ []) t → u ≡ t
the_one u t c = elim (contains_cases u t [] c) [ inl e ↦ e | inr n ↦ absurd (none_contained t n) ]

-- t has the weight and at most the depth, and is admissible unless it is empty
record Fits (weight depth : ℕ) (t : Word) : Type 0 where
  weighs : length t ≡ weight
  deep : depth_of t ≤ depth
  admissible : 0 < length t → is_admissible t ≡ true

fits-shuffle : (w d : ℕ) (u v t : Word) → Fits w d u → is_admissible v ≡ true → Contains (shuffle_of u v) t → Fits (w + length v) (d + depth_of v) t
fits-shuffle w d u v t f a c =
    let n : ℕ = length u + length v in
    let some : 0 < sum_of (shuffle_of u v) t = held-some (shuffle_of u v) t c in
    let weighs : length t ≡ length u + length v = length-prod n shuffle_alphabet (shuffle_laws n) u v t refl refl (omega arith) some in
    record {
      weighs = omega (arith, weighs, f.weighs);
      deep = omega (arith, depth-shuffle u v t some, f.deep);
      admissible = λ l. by u f c;
    }
  where
    by : (u : Word) → Fits w d u → Contains (shuffle_of u v) t → is_admissible t ≡ true
    by [] g c = ap is_admissible (sym (the_one v t c)) ∙ a
    by (x ∷ u) g c = shuffle-admissible (x ∷ u) v t (g.admissible (omega arith)) a (held-some (shuffle_of (x ∷ u) v) t c)

fits-shuffled_with : (us : List Word) (w d : ℕ) (ws : List Word) (t : Word) → AllAdmissible us → ((r : Word) → Contains ws r → Fits w d r)
    → Contains (shuffled_with ws us) t → Fits (w + length (joined us)) (d + depth_of (joined us)) t
fits-shuffled_with [] w d ws t a f c = let g : Fits w d t = f t c in
    record { weighs = omega (arith, g.weighs); deep = omega (arith, g.deep); admissible = g.admissible }
fits-shuffled_with (u ∷ us) w d ws t a f c =
    let g : Fits (w + length u + length (joined us)) (d + depth_of u + depth_of (joined us)) t =
    fits-shuffled_with us (w + length u) (d + depth_of u) (flat_map (λ r. shuffle_of r u) ws) t a.1
    (λ r cr. let o : Within (λ s. shuffle_of s u) ws r = within-flat_map (λ s. shuffle_of s u) ws r cr in
    fits-shuffle w d o.origin u r (f o.origin o.held) a.0 o.gives)
    c in
    record {
      weighs = omega (arith, g.weighs, length-append u (joined us));
      deep = omega (arith, g.deep, depth_of-append u (joined us));
      admissible = g.admissible;
    }

pub shuffled-words : (w d : ℕ) (p : List Word) (t : Word) → 2 ≤ w → IsColumn w d p → 0 < words_of_monomial p t → IsTableWord w d t
unfolding words_of_monomial
shuffled-words w d p t two c h =
    let m = c.monomial in
    let start : (r : Word) → Contains ([] ∷ []) r → Fits 0 0 r = λ r held. let e : [] ≡ r = the_one [] r held in
    subst (Fits 0 0) e (record { weighs = refl; deep = omega arith; admissible = λ l. absurd (omega arith) }) in
    let f : Fits (0 + length (joined p)) (0 + depth_of (joined p)) t =
    fits-shuffled_with p 0 0 ([] ∷ []) t m.admissible start (sum_of-held (words_of p) t h) in
    record {
      admissible = f.admissible (omega (arith, f.weighs, c.weight));
      weight = omega (arith, f.weighs, c.weight);
      depth = omega (arith, f.deep, c.depth);
    }

-- no word of the shuffle of Lyndon factors is greater than the word
pub words_of-above : (m : ℕ) (u : Word) (p : List Word) (t : Word) → IsFactors u p → IsBefore u t → Same m (words_of_monomial p t) 0
unfolding words_of_monomial
words_of-above m u p t f b = ap (λ x. x % m) (none_greater u p f t b)
