-- One factor more: the greatest word, and the number of its places.
use Rattle.std.proofs.Common.{◌≡◌, ℕ, ◌+◌, ◌*◌, ◌<◌, inl, inr, List, [], ◌∷◌, ◌++◌, length, refl, sym, ap, subst, ◌∙◌, arith, length-append}
use Rattle.std.specs.List.{flat_map}
use Rattle.zeta_model.specs.declared.Letter.{Letter}
use Rattle.zeta_model.specs.Product.{total}
use Rattle.zeta_model.specs.Alphabets.{shuffle_of}
use Rattle.zeta_model.specs.Sums.{single, sum_of}
use Rattle.zeta_model.proofs.SumLemmas.{sum_of-append}
use Rattle.zeta_model.proofs.Totals.{total-flat_map}
use Rattle.zeta_model.proofs.ProductWords.{single-other}
use Rattle.lyndon_words.proofs.WordLess.{Precedes}
use Rattle.leading_word.proofs.AtMosts.{AtMost, at_most-refl, at_most-trans, at_most_cases, precedes-at_most, not_both}
use Rattle.leading_word.proofs.Mixes.{Mix, mix-append, length-mix, Under, greatest_mix}
use Rattle.leading_word.proofs.Ways.{ways, places, one_is_positive, ways-none, mix_of_ways, single-itself}

abbrev Word : Type 0
Word = List Letter

-- a mix of p and q that v is before
pub record Greater (p q v : Word) : Type 0 where
  pub word : Word
  pub mix : Mix p q word
  pub greater : Precedes v word

-- a greater word of the same length gives a greater mix
raise : (v z w l : Word) → Precedes z w → length z ≡ length w → Mix z l v → Greater w l v
raise [] z w l h len m = absurd (none w (subst (λ t. Precedes t w) m.0 h) (omega (arith, ap length m.0)))
  where
    none : (w : Word) → Precedes [] w → length w ≡ 0 → ⊥
    none [] p e = p
    none (y ∷ w) p e = absurd (omega arith)
raise (x ∷ v) z w l h len (inr (r, e, m)) =
    let b : Greater w r v = raise v z w r h len m in
    record { word = x ∷ b.word; mix = inr (r, e, b.mix); greater = inr (refl, b.greater) }
raise (x ∷ v) z [] l h len (inl (r, e, m)) = absurd (let a : length z ≡ length (x ∷ r) = ap length e in omega arith)
raise (x ∷ v) z (y ∷ w) l h len (inl (r, e, m)) =
    go (λ f n. raise v r w l f n m) (subst (λ t. Precedes t (y ∷ w)) e h) (let a : length z ≡ length (x ∷ r) = ap length e in omega arith)
  where
    go : (Precedes r w → length r ≡ length w → Greater w l v) → Precedes (x ∷ r) (y ∷ w) → length r ≡ length w → Greater (y ∷ w) l (x ∷ v)
    go again (inl f) n = record { word = (y ∷ w) ++ l; mix = mix-append (y ∷ w) l; greater = inl f }
    go again (inr (same, f)) n =
        let b : Greater w l v = again f n in
        record { word = y ∷ b.word; mix = inl (w, refl, b.mix); greater = inr (same, b.greater) }

-- u is the greatest word of the list, and has n places
pub record IsGreatest (ws : List Word) (u : Word) (n : ℕ) : Type 0 where
  pub most : (v : Word) → 0 < sum_of ws v → AtMost v u
  pub weight : (v : Word) → 0 < sum_of ws v → length v ≡ length u
  pub count : sum_of ws u ≡ n

total-same : (f g : Word → ℕ) (ws : List Word) → ((w : Word) → 0 < sum_of ws w → f w ≡ g w) → total f ws ≡ total g ws
total-same f g [] h = refl
total-same f g (w ∷ ws) h = λ i. h w (omega (arith, single-itself w)) i + total-same f g ws (λ v k. h v (omega arith)) i

total-times : (f : Word → ℕ) (k : ℕ) (ws : List Word) → total (λ w. f w * k) ws ≡ total f ws * k
total-times f k [] = omega arith
total-times f k (w ∷ ws) = omega (arith, total-times f k ws)

pub in_flat_map : (f : Word → List Word) (ws : List Word) (v : Word) → 0 < sum_of (flat_map f ws) v → (w : Word) × (0 < sum_of ws w) × (0 < sum_of (f w) v)
in_flat_map f [] v h = absurd (omega arith)
in_flat_map f (w ∷ ws) v h = elim (one_is_positive (sum_of (f w) v) (sum_of (flat_map f ws) v) (omega (arith, sum_of-append (f w) (flat_map f ws) v))) [
  | inl a ↦ (w, omega (arith, single-itself w), a)
  | inr b ↦ let r = in_flat_map f ws v b in (r.0, omega (arith, r.1), r.2)
]

-- one factor more
module _ (l A : Word) (under : Under l A) where
  low : (z v : Word) → AtMost z A → length z ≡ length A → Mix z l v → AtMost v (A ++ l)
  low z v h len m = elim (at_most_cases z A h) [
    | inl p ↦
        let b : Greater A l v = raise v z A l p len m in
        at_most-trans v b.word (A ++ l) (precedes-at_most v b.word b.greater) (greatest_mix A l b.word under b.mix)
    | inr e ↦ greatest_mix A l v under (subst (λ t. Mix t l v) e m)
  ]

  ways-lesser : (z : Word) → Precedes z A → length z ≡ length A → ways z l (A ++ l) ≡ 0
  ways-lesser z p len = ways-none (A ++ l) z l (λ m.
      let b : Greater A l (A ++ l) = raise (A ++ l) z A l p len m in
      not_both (A ++ l) b.word b.greater (greatest_mix A l b.word under b.mix))

  pub greatest-more : (ws : List Word) (n k : ℕ) → IsGreatest ws A n → ways A l (A ++ l) ≡ k
      → IsGreatest (flat_map (λ w. shuffle_of w l) ws) (A ++ l) (n * k)
  greatest-more ws n k g w = record {
    most = λ v h. let s = of v h in low s.0 v (g.most s.0 s.1) (g.weight s.0 s.1) s.2;
    weight = λ v h. let s = of v h in omega (arith, length-mix v s.0 l s.2, g.weight s.0 s.1, length-append A l);
    count = total-flat_map (λ t. single t (A ++ l)) (λ t. shuffle_of t l) ws
        ∙ total-same (λ t. sum_of (shuffle_of t l) (A ++ l)) (λ t. single t A * k) ws one
        ∙ total-times (λ t. single t A) k ws
        ∙ ap (λ t. t * k) g.count;
  }
    where
      of : (v : Word) → 0 < sum_of (flat_map (λ t. shuffle_of t l) ws) v → (z : Word) × (0 < sum_of ws z) × Mix z l v
      of v h = let s = in_flat_map (λ t. shuffle_of t l) ws v h in (s.0, s.1, mix_of_ways v s.0 l (omega (arith, s.2, places v s.0 l)))

      one : (z : Word) → 0 < sum_of ws z → sum_of (shuffle_of z l) (A ++ l) ≡ single z A * k
      one z h = elim (at_most_cases z A (g.most z h)) [
        | inl p ↦
            let none : single z A ≡ 0 = single-other z A (λ e. not_both z A p (subst (AtMost A) e (at_most-refl A))) in
            places (A ++ l) z l ∙ ways-lesser z p (g.weight z h) ∙ omega arith ∙ ap (λ t. t * k) (sym none)
        | inr e ↦
            let once : single z A ≡ 1 = ap (λ t. single t A) e ∙ single-itself A in
            places (A ++ l) z l ∙ ap (λ t. ways t l (A ++ l)) e ∙ w ∙ omega arith ∙ ap (λ t. t * k) (sym once)
      ]
