-- Terms that are taken in turn from two lists, each behind its front.
use Rattle.std.proofs.Common.{◌≡◌, ℕ, ◌+◌, ◌*◌, ◌%◌, ◌≤◌, Bool, true, List, [], ◌∷◌, ◌++◌, length, map, refl, sym, ap, subst, ◌∙◌, arith, length-append}
use Rattle.std.specs.Prelude.{All}
use Rattle.std.specs.Map.{keys_of, values_of}
use Rattle.std.proofs.lemmas.List.{append-nil, append_assoc, map-append}
use Rattle.std.proofs.lemmas.List.Elements.{All-head, All-tail, All-push}
use Rattle.zeta_model.specs.declared.Letter.{Letter}
use Rattle.zeta_model.specs.Modular.{Same}
use Rattle.zeta_model.proofs.ModularLemmas.{same-add_right, same-add_left, same-mul_right, same-mod}
use Rattle.word_sums.specs.Terms.{AllIn, coefficient_of}
use Rattle.zeta_model.specs.Sums.{single}
use Rattle.quasi_product.specs.Inner.{FitBehind, IsTaken, IsMerged}
use Rattle.zeta_model.specs.Sums.{weighted}

abbrev Word : Type 0
Word = List Letter

module _ {E : Type 0} (value : E → ℕ) where
  weighted-push : (f : Word → ℕ) (terms : List (Word × E)) (term : Word × E)
      → weighted value f (terms ++ term ∷ []) ≡ weighted value f terms + value term.1 * f term.0
  weighted-push f [] term = omega arith
  weighted-push f (e ∷ es) term = omega (arith, weighted-push f es term)

pub coefficient_of-weighted : {E : Type 0} (value : E → ℕ) (terms : List (Word × E)) (t : Word)
    → coefficient_of value terms t ≡ weighted value (λ w. single w t) terms
coefficient_of-weighted value [] t = refl
coefficient_of-weighted value (e ∷ es) t = ap (λ n. value e.1 * single e.0 t + n) (coefficient_of-weighted value es t)

keys_of-push : {E : Type 0} (terms : List (Word × E)) (term : Word × E) → keys_of (terms ++ term ∷ []) ≡ keys_of terms ++ term.0 ∷ []
keys_of-push terms term = map-append (λ e. e.0) terms (term ∷ [])

values_of-push : {E : Type 0} (terms : List (Word × E)) (term : Word × E) → values_of (terms ++ term ∷ []) ≡ values_of terms ++ term.1 ∷ []
values_of-push terms term = map-append (λ e. e.1) terms (term ∷ [])

-- the first word, with the front before it
first_fits : {E : Type 0} (n : ℕ) (a : Word) (x : Word × E) (xs : List (Word × E)) (u : Word) → u ≡ a ++ x.0 → FitBehind n a (x ∷ xs) → length u ≤ n
first_fits n a x xs u is fits = omega (arith, ap length is, length-append a x.0, All-head (λ w. length a + length w ≤ n) x.0 (keys_of xs) fits)

rest_fits : {E : Type 0} (n : ℕ) (a : Word) (x : Word × E) (xs : List (Word × E)) → FitBehind n a (x ∷ xs) → FitBehind n a xs
rest_fits n a x xs fits = All-tail (λ w. length a + length w ≤ n) x.0 (keys_of xs) fits

pub fits_first : {E : Type 0} (n : ℕ) (a : Word) (terms : List (Word × E)) (x : Word × E) (xs : List (Word × E)) → terms ≡ x ∷ xs → FitBehind n a terms
    → length a + length x.0 ≤ n
fits_first n a terms x xs is fits = All-head (λ w. length a + length w ≤ n) x.0 (keys_of xs) (subst (FitBehind n a) is fits)

pub fits_rest : {E : Type 0} (n : ℕ) (a : Word) (terms : List (Word × E)) (x : Word × E) (xs : List (Word × E)) → terms ≡ x ∷ xs → FitBehind n a terms
    → FitBehind n a xs
fits_rest n a terms x xs is fits = rest_fits n a x xs (subst (FitBehind n a) is fits)

-- one more term has its front
pub behind_next : {E : Type 0} (front : Word) (terms after rest xs whole : List (Word × E)) (x : Word × E) (u : Word) → rest ≡ x ∷ xs → u ≡ front ++ x.0
    → after ≡ terms ++ (u, x.1) ∷ []
    → terms ++ map (λ t. (front ++ t.0, t.1)) rest ≡ whole → after ++ map (λ t. (front ++ t.0, t.1)) xs ≡ whole
behind_next front terms after rest xs whole x u is word pushed before =
    ap (λ ts. ts ++ map (λ t. (front ++ t.0, t.1)) xs) (pushed ∙ ap (λ w. terms ++ (w, x.1) ∷ []) word)
    ∙ append_assoc terms ((front ++ x.0, x.1) ∷ []) (map (λ t. (front ++ t.0, t.1)) xs) ∙ ap (λ l. terms ++ map (λ t. (front ++ t.0, t.1)) l) (sym is)
    ∙ before

pub behind_end : {E : Type 0} (front : Word) (terms rest whole : List (Word × E)) → rest ≡ [] → terms ++ map (λ t. (front ++ t.0, t.1)) rest ≡ whole
    → terms ≡ whole
behind_end front terms rest whole none before = sym (append-nil terms) ∙ ap (λ l. terms ++ map (λ t. (front ++ t.0, t.1)) l) (sym none) ∙ before

pub has_first : {E : Type 0} (has : E → Bool) (terms : List (Word × E)) (x : Word × E) (xs : List (Word × E)) → terms ≡ x ∷ xs → AllIn has terms
    → has x.1 ≡ true
has_first has terms x xs is all = All-head (λ e. has e ≡ true) x.1 (values_of xs) (subst (AllIn has) is all)

module _ {E : Type 0} (has : E → Bool) (value : E → ℕ) (m : ℕ) (a b : Word) where
  -- the first of the left list
  pub taken_left : (left right : List (Word × E)) (x : Word × E) (xs : List (Word × E)) (u : Word) → left ≡ x ∷ xs → u ≡ a ++ x.0 → AllIn has left
      → AllIn has right → IsTaken has value m a left b right (u, x.1) xs right
  taken_left left right x xs u is word left_in right_in = subst (λ l. IsTaken has value m a l b right (u, x.1) xs right) (sym is) (record {
    has_it = All-head (λ e. has e ≡ true) x.1 (values_of xs) all;
    left_in = All-tail (λ e. has e ≡ true) x.1 (values_of xs) all;
    right_in = right_in;
    within = λ n hx hy. (first_fits n a x xs u word hx, rest_fits n a x xs hx, hy);
    counts = λ f.
        ap (λ w. (value x.1 * f w + (weighted value (λ v. f (a ++ v)) xs + weighted value (λ v. f (b ++ v)) right)) % m) word
        ∙ ap (λ n. n % m) (omega arith);
    shorter = omega arith;
  })
    where
      all : AllIn has (x ∷ xs)
      all = subst (AllIn has) is left_in

  -- the first of the right list
  pub taken_right : (left right : List (Word × E)) (y : Word × E) (ys : List (Word × E)) (v : Word) → right ≡ y ∷ ys → v ≡ b ++ y.0 → AllIn has left
      → AllIn has right → IsTaken has value m a left b right (v, y.1) left ys
  taken_right left right y ys v is word left_in right_in = subst (λ r. IsTaken has value m a left b r (v, y.1) left ys) (sym is) (record {
    has_it = All-head (λ e. has e ≡ true) y.1 (values_of ys) all;
    left_in = left_in;
    right_in = All-tail (λ e. has e ≡ true) y.1 (values_of ys) all;
    within = λ n hx hy. (first_fits n b y ys v word hy, hx, rest_fits n b y ys hy);
    counts = λ f.
        ap (λ w. (value y.1 * f w + (weighted value (λ u. f (a ++ u)) left + weighted value (λ u. f (b ++ u)) ys)) % m) word
        ∙ ap (λ n. n % m) (omega arith);
    shorter = omega arith;
  })
    where
      all : AllIn has (y ∷ ys)
      all = subst (AllIn has) is right_in

  -- the first of both, which have one word
  sum_of_both : (f : Word → ℕ) (x y : Word × E) (u v : Word) (s l r : ℕ) → u ≡ a ++ x.0 → v ≡ b ++ y.0 → u ≡ v → s ≡ (value x.1 + value y.1) % m
      → Same m (s * f u + (l + r)) (value x.1 * f (a ++ x.0) + l + (value y.1 * f (b ++ y.0) + r))
  sum_of_both f x y u v s l r left_word right_word same is =
      let p : ℕ = value x.1 in
      let q : ℕ = value y.1 in
      let first : f u ≡ f (a ++ x.0) = ap f left_word in
      let second : f u ≡ f (b ++ y.0) = ap f (same ∙ right_word) in
      let apart : (p + q) * f u + (l + r) ≡ p * f u + l + (q * f u + r) = grind arith in
      same-add_right m (s * f u) ((p + q) * f u) (l + r) (ap (λ n. n * f u % m) is ∙ same-mul_right m ((p + q) % m) (p + q) (f u) (same-mod m (p + q)))
      ∙ ap (λ n. n % m) apart ∙ (λ i. (p * first i + l + (q * second i + r)) % m)

  pub taken_both : (left right : List (Word × E)) (x : Word × E) (xs : List (Word × E)) (y : Word × E) (ys : List (Word × E)) (u v : Word) (s : E)
      → left ≡ x ∷ xs → right ≡ y ∷ ys → u ≡ a ++ x.0 → v ≡ b ++ y.0 → u ≡ v
      → AllIn has left → AllIn has right → has s ≡ true → value s ≡ (value x.1 + value y.1) % m → IsTaken has value m a left b right (u, s) xs ys
  taken_both left right x xs y ys u v s is_left is_right left_word right_word same left_in right_in has_s sum =
      subst (λ l. IsTaken has value m a l b right (u, s) xs ys) (sym is_left)
      (subst (λ r. IsTaken has value m a (x ∷ xs) b r (u, s) xs ys) (sym is_right) (record {
        has_it = has_s;
        left_in = All-tail (λ e. has e ≡ true) x.1 (values_of xs) (subst (AllIn has) is_left left_in);
        right_in = All-tail (λ e. has e ≡ true) y.1 (values_of ys) (subst (AllIn has) is_right right_in);
        within = λ n hx hy. (first_fits n a x xs u left_word hx, rest_fits n a x xs hx, rest_fits n b y ys hy);
        counts = λ f. sum_of_both f x y u v (value s) (weighted value (λ w. f (a ++ w)) xs)
            (weighted value (λ w. f (b ++ w)) ys) left_word right_word same sum;
        shorter = omega arith;
      }))

  -- some terms of both lists have been taken
  pub record Merging (left right terms xs ys : List (Word × E)) : Type 0 where
    pub terms_in : AllIn has terms
    pub left_in : AllIn has xs
    pub right_in : AllIn has ys
    pub within : (n : ℕ) → FitBehind n a left → FitBehind n b right → All (λ w. length w ≤ n) (keys_of terms) × FitBehind n a xs × FitBehind n b ys
    pub counts : (f : Word → ℕ) → Same m (weighted value f terms + (weighted value (λ w. f (a ++ w)) xs + weighted value (λ w. f (b ++ w)) ys))
        (weighted value (λ w. f (a ++ w)) left + weighted value (λ w. f (b ++ w)) right)

  pub Merging-start : (left right terms : List (Word × E)) → terms ≡ [] → AllIn has left → AllIn has right → Merging left right terms left right
  Merging-start left right terms is left_in right_in = subst (λ ts. Merging left right ts left right) (sym is) (record {
    terms_in = λ k d h. absurd (omega arith);
    left_in = left_in;
    right_in = right_in;
    within = λ n hx hy. ((λ k d h. absurd (omega arith)), hx, hy);
    counts = λ f. ap (λ n. n % m) (omega arith);
  })

  pub Merging-next : (left right terms xs ys : List (Word × E)) (term : Word × E) (after xs' ys' : List (Word × E)) → Merging left right terms xs ys
      → IsTaken has value m a xs b ys term xs' ys' → after ≡ terms ++ term ∷ [] → Merging left right after xs' ys'
  Merging-next left right terms xs ys term after xs' ys' before taken is = subst (λ ts. Merging left right ts xs' ys') (sym is) (record {
    terms_in = subst (All (λ e. has e ≡ true)) (sym (values_of-push terms term))
        (All-push (λ e. has e ≡ true) (values_of terms) term.1 before.terms_in taken.has_it);
    left_in = taken.left_in;
    right_in = taken.right_in;
    within = λ n hx hy.
        let old = before.within n hx hy in
        let new = taken.within n old.1 old.2 in
        (subst (All (λ w. length w ≤ n)) (sym (keys_of-push terms term)) (All-push (λ w. length w ≤ n) (keys_of terms) term.0 old.0 new.0), new.1, new.2);
    counts = λ f.
        let done : ℕ = weighted value f terms in
        let it : ℕ = value term.1 * f term.0 in
        let more : ℕ = weighted value (λ w. f (a ++ w)) xs' + weighted value (λ w. f (b ++ w)) ys' in
        let whole : weighted value f (terms ++ term ∷ []) + more ≡ done + (it + more) = omega (arith, weighted-push value f terms term) in
        ap (λ n. n % m) whole ∙ same-add_left m (it + more) (weighted value (λ w. f (a ++ w)) xs + weighted value (λ w. f (b ++ w)) ys) done
        (taken.counts f) ∙ before.counts f;
  })

  pub Merging-end : (left right terms xs ys : List (Word × E)) → Merging left right terms xs ys → xs ≡ [] → ys ≡ []
      → IsMerged has value m a left b right terms
  Merging-end left right terms xs ys merging no_left no_right = record {
    in_ring = merging.terms_in;
    within = λ n hx hy. (merging.within n hx hy).0;
    counts = λ f.
        let none : weighted value f terms ≡ weighted value f terms + (0 + 0) = omega arith in
        ap (λ n. n % m) none
        ∙ (λ i. (weighted value f terms + (weighted value (λ w. f (a ++ w)) (sym no_left i) + weighted value (λ w. f (b ++ w)) (sym no_right i))) % m)
        ∙ merging.counts f;
  }

module _ {E : Type 0} (has : E → Bool) (value : E → ℕ) (m : ℕ) where
  behind_rest : (front : Word) (old list terms rest : List (Word × E)) → Merging has value m [] front old list terms [] rest
      → IsMerged has value m [] old front list (terms ++ map (λ t. (front ++ t.0, t.1)) rest)
  behind_rest front old list terms [] merging =
      subst (IsMerged has value m [] old front list) (sym (append-nil terms)) (Merging-end has value m [] front old list terms [] [] merging refl refl)
  behind_rest front old list terms (x ∷ rest) merging =
      subst (IsMerged has value m [] old front list) (append_assoc terms ((front ++ x.0, x.1) ∷ []) (map (λ t. (front ++ t.0, t.1)) rest))
      (behind_rest front old list (terms ++ (front ++ x.0, x.1) ∷ []) rest
      (Merging-next has value m [] front old list terms [] (x ∷ rest) (front ++ x.0, x.1) (terms ++ (front ++ x.0, x.1) ∷ []) [] rest merging
      (taken_right has value m [] front [] (x ∷ rest) x rest (front ++ x.0) refl refl merging.left_in merging.right_in) refl))

  -- the terms of a list behind a front, after others
  pub IsMerged-behind : (front : Word) (old list after : List (Word × E)) → after ≡ old ++ map (λ t. (front ++ t.0, t.1)) list → AllIn has old
      → AllIn has list → IsMerged has value m [] old front list after
  IsMerged-behind front old list after is old_in list_in =
      subst (IsMerged has value m [] old front list) (sym is) (behind_rest front old list old list (record {
        terms_in = old_in;
        left_in = λ k d h. absurd (omega arith);
        right_in = list_in;
        within = λ n hx hy. ((λ k d h. omega (arith, hx k d h)), (λ k d h. absurd (omega arith)), hy);
        counts = λ f. ap (λ n. n % m) (omega arith);
      }))

  -- one list after another, each behind its front
  pub IsMerged-two : (a b : Word) (left right none first second : List (Word × E)) → none ≡ [] → first ≡ none ++ map (λ t. (a ++ t.0, t.1)) left
      → second ≡ first ++ map (λ t. (b ++ t.0, t.1)) right
      → AllIn has left → AllIn has right → IsMerged has value m a left b right second
  IsMerged-two a b left right none first second is first_is second_is left_in right_in =
      let one : IsMerged has value m [] [] a left first =
      IsMerged-behind a [] left first (first_is ∙ ap (λ l. l ++ map (λ t. (a ++ t.0, t.1)) left) is) (λ k d h. absurd (omega arith)) left_in in
      let two : IsMerged has value m [] first b right second = IsMerged-behind b first right second second_is one.in_ring right_in in
      record {
        in_ring = two.in_ring;
        within = λ n hx hy. two.within n (λ k d h. omega (arith, one.within n (λ j e l. absurd (omega arith)) hx k d h)) hy;
        counts = λ f.
            two.counts f ∙ same-add_right m (weighted value f first) (0 + weighted value (λ w. f (a ++ w)) left) (weighted value (λ w. f (b ++ w)) right)
            (one.counts f) ∙ ap (λ n. n % m) (omega arith);
      }

  pub IsMerged-swapped : (a b : Word) (left right terms : List (Word × E)) → IsMerged has value m b right a left terms
      → IsMerged has value m a left b right terms
  IsMerged-swapped a b left right terms merged = record {
    in_ring = merged.in_ring;
    within = λ n hx hy. merged.within n hy hx;
    counts = λ f. merged.counts f ∙ ap (λ n. n % m) (omega arith);
  }
