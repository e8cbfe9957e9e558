-- The words of a shuffle of two words, and the greatest of them.
use Rattle.std.proofs.Common.{◌≡◌, ◌<◌, ◌+◌, ◌⊎◌, inl, inr, List, [], ◌∷◌, ◌++◌, length, refl, sym, ap, subst, ◌∙◌, arith, append_assoc}
use Rattle.zeta_model.specs.declared.Letter.{Letter}
use Rattle.leading_word.proofs.AtMosts.{AtMost, at_most-refl, at_most-trans, at_most-longer}

abbrev Word : Type 0
Word = List Letter

-- v is p and q mixed, each in its order
abbrev pub Mix : Word → Word → Word → Type 0
Mix p q [] = (p ≡ []) × (q ≡ [])
Mix p q (x ∷ v) = ((r : Word) × (p ≡ x ∷ r) × Mix r q v) ⊎ ((r : Word) × (q ≡ x ∷ r) × Mix p r v)

mix-right : (q : Word) → Mix [] q q
mix-right [] = (refl, refl)
mix-right (x ∷ q) = inr (q, refl, mix-right q)

pub mix-append : (p q : Word) → Mix p q (p ++ q)
mix-append [] q = mix-right q
mix-append (x ∷ p) q = inl (p, refl, mix-append p q)

only_right : (q v : Word) → Mix [] q v → v ≡ q
only_right q [] m = sym m.1
only_right q (x ∷ v) (inl (r, e, m)) = absurd (cc)
only_right q (x ∷ v) (inr (r, e, m)) = (λ i. x ∷ only_right r v m i) ∙ sym e

pub only_left : (p v : Word) → Mix p [] v → v ≡ p
only_left p [] m = sym m.0
only_left p (x ∷ v) (inr (r, e, m)) = absurd (cc)
only_left p (x ∷ v) (inl (r, e, m)) = (λ i. x ∷ only_left r v m i) ∙ sym e

pub length-mix : (v p q : Word) → Mix p q v → length v ≡ length p + length q
length-mix [] p q m = let a : length p ≡ 0 = ap length m.0 in let b : length q ≡ 0 = ap length m.1 in omega arith
length-mix (x ∷ v) p q (inl (r, e, m)) = let a : length p ≡ length (x ∷ r) = ap length e in omega (arith, length-mix v r q m)
length-mix (x ∷ v) p q (inr (r, e, m)) = let a : length q ≡ length (x ∷ r) = ap length e in omega (arith, length-mix v p r m)

-- a mix of p and q that is at least v
pub record Better (p q v : Word) : Type 0 where
  pub word : Word
  pub mix : Mix p q word
  pub better : AtMost v word

-- c may stand before the lesser word in the place of the greater one
pub exchange : (v c p q : Word) → AtMost q p → Mix (c ++ p) q v → Better p (c ++ q) v
exchange v [] p q h m = record { word = v; mix = m; better = at_most-refl v }
exchange [] (a ∷ c) p q h m = absurd (let e : a ∷ (c ++ p) ≡ [] = m.0 in cc)
exchange (x ∷ v) (a ∷ c) p q h (inl (r, e, m)) =
    let head : a ≡ x = cc in
    let rest : r ≡ c ++ p = cc in
    let b : Better p (c ++ q) v = exchange v c p q h (subst (λ t. Mix t q v) rest m) in
    record { word = x ∷ b.word; mix = inr (c ++ q, (λ i. head i ∷ (c ++ q)), b.mix); better = inr (refl, b.better) }
exchange (x ∷ v) (a ∷ c) [] q h (inr (r, e, m)) = absurd (subst (λ t. AtMost t []) e h)
exchange (x ∷ v) (a ∷ c) (y ∷ p) q h (inr (r, e, m)) =
    go (λ f n. exchange v ((a ∷ c) ++ (y ∷ [])) p r f n) (subst (λ t. AtMost t (y ∷ p)) e h)
  where
    go : (AtMost r p → Mix (((a ∷ c) ++ (y ∷ [])) ++ p) r v → Better p (((a ∷ c) ++ (y ∷ [])) ++ r) v) → AtMost (x ∷ r) (y ∷ p)
        → Better (y ∷ p) ((a ∷ c) ++ q) (x ∷ v)
    go again (inl l) = record { word = (y ∷ p) ++ ((a ∷ c) ++ q); mix = mix-append (y ∷ p) ((a ∷ c) ++ q); better = inl l }
    go again (inr (same, l)) =
        let b : Better p (((a ∷ c) ++ (y ∷ [])) ++ r) v = again l (subst (λ t. Mix t r v) (sym (append_assoc (a ∷ c) (y ∷ []) p)) m) in
        let tail : ((a ∷ c) ++ (y ∷ [])) ++ r ≡ (a ∷ c) ++ q = append_assoc (a ∷ c) (y ∷ []) r ∙ ap (λ t. (a ∷ c) ++ t) ((λ i. sym same i ∷ r) ∙ sym e) in
        record { word = x ∷ b.word; mix = inl (p, (λ i. sym same i ∷ p), subst (λ t. Mix p t b.word) tail b.mix); better = inr (refl, b.better) }

-- the first letter of the greater word may come first
greater_first : (a : Letter) (p q v : Word) → AtMost q (a ∷ p) → Mix (a ∷ p) q v → (w : Word) × Mix p q w × AtMost v (a ∷ w)
greater_first a p q [] h m = absurd (let e : a ∷ p ≡ [] = m.0 in cc)
greater_first a p q (x ∷ v) h (inl (r, e, m)) =
    let head : a ≡ x = cc in
    let rest : r ≡ p = cc in
    (v, subst (λ t. Mix t q v) rest m, inr (sym head, at_most-refl v))
greater_first a p q (x ∷ v) h (inr (r, e, m)) = go (subst (λ t. AtMost t (a ∷ p)) e h)
  where
    go : AtMost (x ∷ r) (a ∷ p) → (w : Word) × Mix p q w × AtMost (x ∷ v) (a ∷ w)
    go (inl l) = (p ++ q, mix-append p q, inl l)
    go (inr (same, l)) =
        let b : Better p (a ∷ r) v = exchange v (a ∷ []) p r l m in
        (b.word, subst (λ t. Mix p t b.word) ((λ i. sym same i ∷ r) ∙ sym e) b.mix, inr (same, b.better))

-- q is at most each nonempty suffix of p
abbrev pub Under : Word → Word → Type 0
Under q [] = Unit {0}
Under q (a ∷ p) = AtMost q (a ∷ p) × Under q p

-- then p and q put together are the greatest mix
pub greatest_mix : (p q v : Word) → Under q p → Mix p q v → AtMost v (p ++ q)
greatest_mix [] q v h m = subst (λ t. AtMost v t) (only_right q v m) (at_most-refl v)
greatest_mix (a ∷ p) q v h m =
    let first : (w : Word) × Mix p q w × AtMost v (a ∷ w) = greater_first a p q v h.0 m in
    at_most-trans v (a ∷ first.0) (a ∷ (p ++ q)) first.2 (inr (refl, greatest_mix p q first.0 h.1 first.1))

pub under-append : (q p k : Word) → Under q p → Under q k → Under q (p ++ k)
under-append q [] k h g = g
under-append q (a ∷ p) k h g = (at_most-longer q (a ∷ p) k h.0, under-append q p k h.1 g)

pub under-back : (q c p : Word) → Under q (c ++ p) → Under q p
under-back q [] p h = h
under-back q (x ∷ c) p h = under-back q c p h.1

pub under-first : (q p : Word) → 0 < length p → Under q p → AtMost q p
under-first q [] h u = absurd (omega arith)
under-first q (x ∷ p) h u = u.0
