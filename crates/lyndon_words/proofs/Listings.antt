-- The list of the Lyndon words behind a front is whole, and increases.
use Rattle.std.proofs.Common.{◌≡◌, ℕ, ◌+◌, ◌<◌, ◌≤◌, zero, suc, inl, inr, Bool, true, false, cond, IsTrue, ◌↔◌, List, [], ◌∷◌, ◌++◌, length, refl, sym, ap, subst, ◌∙◌, arith, append_assoc}
use Rattle.std.proofs.lemmas.List.{append-nil}
use Rattle.std.specs.List.{Contains, AllByRecursion}
use Rattle.std.specs.List.Sorted.{IsStrictlySortedBy}
use Rattle.std.proofs.lemmas.List.Elements.{Contains-append_left, Contains-append_right, Contains-append_cases, Contains-push, Contains-push_cases}
use Rattle.zeta_model.specs.declared.Letter.{Letter}
use Rattle.zeta_model.specs.declared.Letter.TheVariants.{X, Y}
use Rattle.zeta_model.specs.Words.{word_cmp, depth_of}
use Rattle.lyndon_words.specs.Lyndon.{IsBefore, IsLyndon}
use Rattle.lyndon_words.specs.Listing.{IsLyndonList}
use Rattle.lyndon_words.specs.Inner.{lyndon_test, lyndon_behind}
use Rattle.zeta_model.proofs.DepthLemmas.{depth_of-x, depth_of-y}
use Rattle.lyndon_words.proofs.WordLess.{Differs, before, precedes-differs}
use Rattle.lyndon_words.proofs.Suffixes.{IsLyndon-from_test, lyndon_test-true}

-- w is f with n letters behind it, at most d of them y
record Behind (f w : List Letter) (n d : ℕ) : Type 0 where
  rest : List Letter
  is : w ≡ f ++ rest
  long : length rest ≡ n
  deep : depth_of rest ≤ d

behind_x : (f w : List Letter) (n d : ℕ) → Behind (f ++ X ∷ []) w n d → Behind f w (suc n) d
behind_x f w n d b = record {
  rest = X ∷ b.rest;
  is = b.is ∙ append_assoc f (X ∷ []) b.rest;
  long = ap suc b.long;
  deep =
      omega (arith, depth_of-x b.rest, b.deep);
}

behind_y : (f w : List Letter) (n d : ℕ) → Behind (f ++ Y ∷ []) w n d → Behind f w (suc n) (suc d)
behind_y f w n d b = record {
  rest = Y ∷ b.rest;
  is = b.is ∙ append_assoc f (Y ∷ []) b.rest;
  long = ap suc b.long;
  deep =
      omega (arith, depth_of-y b.rest, b.deep);
}

none_contained : (w : List Letter) → Contains [] w → ⊥
none_contained w c = let k : c.0 < 0 = c.1 in absurd (omega arith)

the_one : (f w : List Letter) → Contains (f ∷ []) w → f ≡ w
the_one f w c = elim (Contains-push_cases [] f w c) [ inl n ↦ absurd (none_contained w n) | inr e ↦ e ]

found : (n d : ℕ) (f w : List Letter) → Contains (lyndon_behind f n d) w → Behind f w n d × IsLyndon w
found zero d f w =
    let go : (b : Bool) → lyndon_test f ≡ b → Contains (cond b (f ∷ []) []) w → Behind f w zero d × IsLyndon w =
    λ b. elim b as (λ b. lyndon_test f ≡ b → Contains (cond b (f ∷ []) []) w → Behind f w zero d × IsLyndon w) [
      | true ↦ λ e c. let s : f ≡ w = the_one f w c in
          (record { rest = []; is = sym s ∙ sym (append-nil f); long = refl; deep = omega arith }, subst IsLyndon s (IsLyndon-from_test f e))
      | false ↦ λ e c. absurd (none_contained w c)
    ] in
    go (lyndon_test f) refl
found (suc n) zero f w = λ c.
    let r : Behind (f ++ X ∷ []) w n zero × IsLyndon w = found n zero (f ++ X ∷ []) w c in
    (behind_x f w n zero r.0, r.1)
found (suc n) (suc d) f w = λ c. elim (Contains-append_cases (lyndon_behind (f ++ X ∷ []) n (suc d)) (lyndon_behind (f ++ Y ∷ []) n d) w c) [
  | inl p ↦ let r : Behind (f ++ X ∷ []) w n (suc d) × IsLyndon w = found n (suc d) (f ++ X ∷ []) w p in (behind_x f w n (suc d) r.0, r.1)
  | inr p ↦ let r : Behind (f ++ Y ∷ []) w n d × IsLyndon w = found n d (f ++ Y ∷ []) w p in (behind_y f w n d r.0, r.1)
]

-- the list holds each word that is wanted
held : (n d : ℕ) (f t : List Letter) → length t ≡ n → depth_of t ≤ d → IsLyndon (f ++ t) → Contains (lyndon_behind f n d) (f ++ t)
held zero d f [] e h l =
    let whole : f ≡ f ++ [] = sym (append-nil f) in
    let test : lyndon_test f ≡ true = lyndon_test-true f (subst IsLyndon (append-nil f) l) in
    subst (λ b. Contains (cond b (f ∷ []) []) (f ++ [])) (sym test) (subst (Contains (f ∷ [])) whole (Contains-push [] f))
held zero d f (a ∷ t) e h l = absurd (omega arith)
held (suc n) d f [] e h l = absurd (omega arith)
held (suc n) zero f (X ∷ t) e h l =
    subst (Contains (lyndon_behind (f ++ X ∷ []) n zero)) (append_assoc f (X ∷ []) t)
    (held n zero (f ++ X ∷ []) t (omega arith) (omega (arith, depth_of-x t)) (subst IsLyndon (sym (append_assoc f (X ∷ []) t)) l))
held (suc n) zero f (Y ∷ t) e h l = absurd (omega (arith, depth_of-y t))
held (suc n) (suc d) f (X ∷ t) e h l =
    Contains-append_left (lyndon_behind (f ++ X ∷ []) n (suc d)) (lyndon_behind (f ++ Y ∷ []) n d) (f ++ X ∷ t)
    (subst (Contains (lyndon_behind (f ++ X ∷ []) n (suc d))) (append_assoc f (X ∷ []) t)
    (held n (suc d) (f ++ X ∷ []) t (omega arith) (omega (arith, depth_of-x t)) (subst IsLyndon (sym (append_assoc f (X ∷ []) t)) l)))
held (suc n) (suc d) f (Y ∷ t) e h l =
    Contains-append_right (lyndon_behind (f ++ X ∷ []) n (suc d)) (lyndon_behind (f ++ Y ∷ []) n d) (f ++ Y ∷ t)
    (subst (Contains (lyndon_behind (f ++ Y ∷ []) n d)) (append_assoc f (Y ∷ []) t)
    (held n d (f ++ Y ∷ []) t (omega arith) (omega (arith, depth_of-y t)) (subst IsLyndon (sym (append_assoc f (Y ∷ []) t)) l)))

below-all : (u : List Letter) (vs : List (List Letter)) → ((v : List Letter) → Contains vs v → IsBefore u v) → AllByRecursion (IsBefore u) vs
below-all u [] f = tt
below-all u (v ∷ vs) f = (
  f v (Contains-append_left (v ∷ []) vs v (Contains-push [] v)),
  below-all u vs
      (λ w c. f w (Contains-append_right (v ∷ []) vs w c)),
)

below-append : (u : List Letter) (vs ws : List (List Letter)) → AllByRecursion (IsBefore u) vs → AllByRecursion (IsBefore u) ws
    → AllByRecursion (IsBefore u) (vs ++ ws)
below-append u [] ws a b = b
below-append u (v ∷ vs) ws a b = (a.0, below-append u vs ws a.1 b)

increases-append : (us vs : List (List Letter)) → IsStrictlySortedBy word_cmp us → IsStrictlySortedBy word_cmp vs
    → ((u v : List Letter) → Contains us u → Contains vs v → IsBefore u v) → IsStrictlySortedBy word_cmp (us ++ vs)
unfolding IsStrictlySortedBy
increases-append [] vs a b f = b
increases-append (u ∷ us) vs a b f =
    let here : (v : List Letter) → Contains vs v → IsBefore u v = λ v c. f u v (Contains-append_left (u ∷ []) us u (Contains-push [] u)) c in
    (below-append u us vs a.0 (below-all u vs here), increases-append us vs a.1 b (λ s t p q. f s t (Contains-append_right (u ∷ []) us s p) q))

Differs-last : (f : List Letter) → Differs (f ++ X ∷ []) (f ++ Y ∷ [])
Differs-last [] = inl (omega arith)
Differs-last (a ∷ f) = inr (refl, Differs-last f)

in_order : (f u v : List Letter) (n k d e : ℕ) → Behind (f ++ X ∷ []) u n d → Behind (f ++ Y ∷ []) v k e → IsBefore u v
in_order f u v n k d e b c = subst (IsBefore u) (sym c.is)
    (subst (λ t. IsBefore t ((f ++ Y ∷ []) ++ c.rest)) (sym b.is)
    (before ((f ++ X ∷ []) ++ b.rest) ((f ++ Y ∷ []) ++ c.rest) (precedes-differs (f ++ X ∷ []) (f ++ Y ∷ []) b.rest c.rest (Differs-last f))))

increases-lyndon_behind : (n d : ℕ) (f : List Letter) → IsStrictlySortedBy word_cmp (lyndon_behind f n d)
unfolding IsStrictlySortedBy
increases-lyndon_behind zero d f = elim (lyndon_test f) as (λ b. IsStrictlySortedBy word_cmp (cond b (f ∷ []) [])) [ true ↦ (tt, tt) | false ↦ tt ]
increases-lyndon_behind (suc n) zero f = increases-lyndon_behind n zero (f ++ X ∷ [])
increases-lyndon_behind (suc n) (suc d) f =
    increases-append (lyndon_behind (f ++ X ∷ []) n (suc d)) (lyndon_behind (f ++ Y ∷ []) n d) (increases-lyndon_behind n (suc d) (f ++ X ∷ []))
    (increases-lyndon_behind n d (f ++ Y ∷ []))
    (λ u v p q. in_order f u v n n (suc d) d (found n (suc d) (f ++ X ∷ []) u p).0 (found n d (f ++ Y ∷ []) v q).0)

pub IsLyndonList-lyndon_behind : (weight depth : ℕ) → IsLyndonList weight depth (lyndon_behind [] weight depth)
IsLyndonList-lyndon_behind weight depth = record {
  increases = increases-lyndon_behind weight depth [];
  whole = λ w. (λ c. there w (found weight depth [] w c), λ h. held weight depth [] w h.1 h.2 h.0);
}
  where
    there : (w : List Letter) → Behind [] w weight depth × IsLyndon w → IsLyndon w × (length w ≡ weight) × (depth_of w ≤ depth)
    there w r = (r.1, ap length r.0.is ∙ r.0.long, subst (λ t. depth_of t ≤ depth) (sym r.0.is) r.0.deep)

pub lyndon_test-is : (w : List Letter) (r : Bool) → IsTrue r ↔ IsLyndon w → lyndon_test w ≡ r
lyndon_test-is w true h = lyndon_test-true w (h.0 refl)
lyndon_test-is w false h = elim (lyndon_test w) as (λ b. lyndon_test w ≡ b → b ≡ false) [
  | true ↦ λ e. let f : false ≡ true = h.1 (IsLyndon-from_test w e) in cc
  | false ↦ λ e. refl
] refl

-- all letters are there
pub lyndon_behind-none : (f : List Letter) (n d : ℕ) → n ≡ 0 → lyndon_behind f n d ≡ cond (lyndon_test f) (f ∷ []) []
lyndon_behind-none f zero d z = refl
lyndon_behind-none f (suc n) d z = absurd (omega arith)
