-- The words of a shuffle have the weights' and the depths' sums, and are admissible where the words shuffled are.
use Rattle.std.proofs.Common.{◌≡◌, ◌+◌, ◌<◌, inl, inr, Bool, true, false, IsTrue, cond, List, [], ◌∷◌, ◌++◌, length, refl, sym, ap, subst, ◌∙◌, arith, length-append}
use Rattle.std.proofs.lemmas.List.Sums.{sum_by-append, sum_by-cons}
use Rattle.zeta_model.specs.declared.Letter.{Letter}
use Rattle.zeta_model.specs.declared.Letter.TheVariants.{X, Y}
use Rattle.zeta_model.specs.Words.{is_y, depth_of, has_index, is_admissible}
use Rattle.zeta_model.specs.Alphabets.{shuffle_of}
use Rattle.zeta_model.specs.Sums.{single, sum_of}
use Rattle.lyndon_words.specs.Lyndon.{joined}
use Rattle.lyndon_words.specs.Monomials.{AllAdmissible}
use Rattle.leading_word.specs.Shuffles.{words_of}
use Rattle.leading_word.proofs.Mixes.{Mix, length-mix}
use Rattle.leading_word.proofs.Ways.{places, mix_of_ways}
use Rattle.leading_word.proofs.OneFactorMore.{in_flat_map}
use Rattle.leading_word.proofs.FactorOrder.{words_of-front}

abbrev Word : Type 0
Word = List Letter

depth_of-append : (u v : Word) → depth_of (u ++ v) ≡ depth_of u + depth_of v
depth_of-append u v = sum_by-append (λ a. cond (is_y a) 1 0) u v

depth_of-cons : (a : Letter) (w : Word) → depth_of (a ∷ w) ≡ cond (is_y a) 1 0 + depth_of w
depth_of-cons a w = sum_by-cons (λ b. cond (is_y b) 1 0) a w

depth_of-mix : (v p q : Word) → Mix p q v → depth_of v ≡ depth_of p + depth_of q
depth_of-mix [] p q m = omega (arith, ap depth_of m.0, ap depth_of m.1)
depth_of-mix (x ∷ v) p q (inl (r, e, m)) = omega (arith, ap depth_of e, depth_of-cons x v, depth_of-cons x r, depth_of-mix v r q m)
depth_of-mix (x ∷ v) p q (inr (r, e, m)) = omega (arith, ap depth_of e, depth_of-cons x v, depth_of-cons x r, depth_of-mix v p r m)

has_index-tail : (x : Letter) (w : Word) → has_index (x ∷ w) ≡ true → has_index w ≡ true
has_index-tail x [] h = refl
has_index-tail X (y ∷ w) h = h
has_index-tail Y (y ∷ w) h = h

-- a letter before a word with an index, or the last letter of one
has_index-cons : (x : Letter) (v r : Word) → has_index v ≡ true → has_index (x ∷ r) ≡ true → (v ≡ [] → r ≡ []) → has_index (x ∷ v) ≡ true
has_index-cons x [] r h k e = ap (λ t. has_index (x ∷ t)) (sym (e refl)) ∙ k
has_index-cons X (y ∷ v) r h k e = h
has_index-cons Y (y ∷ v) r h k e = h

has_index-mix : (v p q : Word) → has_index p ≡ true → has_index q ≡ true → Mix p q v → has_index v ≡ true
has_index-mix [] p q hp hq m = refl
has_index-mix (x ∷ v) p q hp hq (inl (r, e, m)) =
    let k : has_index (x ∷ r) ≡ true = ap has_index (sym e) ∙ hp in
    has_index-cons x v r (has_index-mix v r q (has_index-tail x r k) hq m) k (λ f. (subst (Mix r q) f m).0)
has_index-mix (x ∷ v) p q hp hq (inr (r, e, m)) =
    let k : has_index (x ∷ r) ≡ true = ap has_index (sym e) ∙ hq in
    has_index-cons x v r (has_index-mix v p r hp (has_index-tail x r k) m) k (λ f. (subst (Mix p r) f m).1)

-- whether the word begins with y
abbrev y_first : Word → Bool
y_first [] = false
y_first (X ∷ w) = false
y_first (Y ∷ w) = true

y_first-mix : (v p q : Word) → y_first p ≡ false → y_first q ≡ false → Mix p q v → y_first v ≡ false
y_first-mix [] p q hp hq m = refl
y_first-mix (X ∷ v) p q hp hq m = refl
y_first-mix (Y ∷ v) p q hp hq (inl (r, e, m)) = ap y_first (sym e) ∙ hp
y_first-mix (Y ∷ v) p q hp hq (inr (r, e, m)) = ap y_first (sym e) ∙ hq

admissible-ends : (u : Word) → IsTrue (is_admissible u) → (y_first u ≡ false) × (has_index u ≡ true)
admissible-ends [] h = cc
admissible-ends (X ∷ u) h = (refl, h)
admissible-ends (Y ∷ u) h = cc

is_admissible-ends : (u : Word) → 0 < length u → y_first u ≡ false → has_index u ≡ true → IsTrue (is_admissible u)
is_admissible-ends [] p y h = absurd (omega arith)
is_admissible-ends (X ∷ u) p y h = h
is_admissible-ends (Y ∷ u) p y h = cc

-- a word of the shuffle is mixed of the first word and one of the shuffle of the others
mixed : (u : Word) (us : List Word) (v : Word) → 0 < sum_of (words_of (u ∷ us)) v → (z : Word) × (0 < sum_of (words_of us) z) × Mix u z v
mixed u us v h =
    let s = in_flat_map (λ w. shuffle_of u w) (words_of us) v (omega (arith, h, words_of-front u us (λ w. single w v))) in
    (s.0, s.1, mix_of_ways v u s.0 (omega (arith, s.2, places v u s.0)))

pub length-words_of : (us : List Word) (v : Word) → 0 < sum_of (words_of us) v → length v ≡ length (joined us)
length-words_of [] [] h = refl
length-words_of [] (x ∷ v) h = absurd (omega arith)
length-words_of (u ∷ us) v h = let s = mixed u us v h in omega (arith, length-mix v u s.0 s.2, length-words_of us s.0 s.1, length-append u (joined us))

pub depth_of-words_of : (us : List Word) (v : Word) → 0 < sum_of (words_of us) v → depth_of v ≡ depth_of (joined us)
depth_of-words_of [] [] h = refl
depth_of-words_of [] (x ∷ v) h = absurd (omega arith)
depth_of-words_of (u ∷ us) v h = let s = mixed u us v h in
    omega (arith, depth_of-mix v u s.0 s.2, depth_of-words_of us s.0 s.1, depth_of-append u (joined us))

ends-words_of : (us : List Word) (v : Word) → AllAdmissible us → 0 < sum_of (words_of us) v → (y_first v ≡ false) × (has_index v ≡ true)
ends-words_of [] [] a h = (refl, refl)
ends-words_of [] (x ∷ v) a h = absurd (omega arith)
ends-words_of (u ∷ us) v a h =
    let s = mixed u us v h in
    let p = admissible-ends u a.0 in
    let q = ends-words_of us s.0 a.1 s.1 in
    (y_first-mix v u s.0 p.0 q.0 s.2, has_index-mix v u s.0 p.1 q.1 s.2)

pub words_of-admissible : (us : List Word) (v : Word) → AllAdmissible us → 0 < length (joined us) → 0 < sum_of (words_of us) v → IsTrue (is_admissible v)
words_of-admissible us v a p h = let e = ends-words_of us v a h in is_admissible-ends v (omega (arith, length-words_of us v h, p)) e.0 e.1
