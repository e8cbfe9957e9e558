-- Products of sums that stand for terms.
use Rattle.std.proofs.Common.{◌≡◌, ℕ, suc, ◌+◌, ◌*◌, ◌%◌, ◌<◌, ◌≤◌, Bool, true, List, [], ◌∷◌, length, drop, get_or, refl, subst, sym, ap, ◌∙◌, add-one, arith}
use Rattle.std.specs.List.{sum, sum_by, AllByRecursion}
use Rattle.std.proofs.lemmas.List.Sums.{sum_by-cons}
use Rattle.std.proofs.Math.Seq.{drop-cons}
use Rattle.zeta_expr.specs.declared.expr.Factor.{Factor}
use Rattle.zeta_expr.specs.declared.expr.Factor.TheVariants.{Number, Zeta}
use Rattle.zeta_expr.specs.Weights.{weight_in}
use Rattle.std.specs.Map.{keys_of}
use Rattle.std.specs.Prelude.{All}
use Rattle.std.proofs.Math.Nat.{mul-le-mul_right}
use Rattle.std.proofs.lemmas.List.Elements.{All-weaker, All-from_recursion}
use Rattle.zeta_model.specs.declared.Letter.{Letter}
use Rattle.zeta_model.specs.Alphabets.{shuffle_alphabet}
use Rattle.zeta_model.specs.Sums.{SameSum, single, continued, numbered}
use Rattle.zeta_model.proofs.ModularLemmas.{same-mod}
use Rattle.word_sums.specs.Terms.{coefficient_of}
use Rattle.word_sums.specs.Sums.{IsSumOf}
use Rattle.quasi_product.specs.SumProducts.{product_of_terms, AreWithin}
use Rattle.zeta_expr.specs.Meaning.{Terms, zeta_terms, times, times_power, times_zetas, IsFormed}
use Rattle.zeta_expr.specs.Inner.{AreShort, HasRoom}
use Rattle.zeta_expr.proofs.MeaningLemmas.{times-sum, times_same, keys_short, zeta_short, power_short}

module _ {E : Type 0} (nought : E) (has : E → Bool) (value : E → ℕ) (m : ℕ) (pos : 0 < m) where
  -- the sum stands for the terms
  abbrev Gives : List (List Letter × E) → Terms → Type 0
  Gives sum p = IsSumOf nought has value m (continued single p) sum

  same_terms : (sum : List (List Letter × E)) (p : Terms) → Gives sum p → SameSum m (coefficient_of value sum) (continued single p)
  same_terms sum p is t = ap (λ n. n % m) (is.coefficients t) ∙ same-mod m (continued single p t)

  pub product_gives : (z b s : List (List Letter × E)) (p q : Terms) → Gives z p → Gives b q
      → IsSumOf nought has value m (product_of_terms shuffle_alphabet (numbered value z) (numbered value b)) s → Gives s (times p q)
  product_gives z b s p q gz gb is = record {
    terms = is.terms;
    in_ring = is.in_ring;
    coefficients = λ t.
        is.coefficients t
        ∙ ap (λ n. n % m) (sym (times-sum (numbered value z) (numbered value b) t))
        ∙ times_same m (numbered value z) p (numbered value b) q pos (same_terms z p gz) (same_terms b q gb) t;
  }

  module _ (has_nought : has nought ≡ true) (value_nought : value nought ≡ 0)
      (injective : (a b : E) → has a ≡ true → has b ≡ true → value a ≡ value b → a ≡ b) where
    short_keys : (s : List (List Letter × E)) (p : Terms) (j : ℕ) → Gives s p → AreShort j p → All (λ w. length w ≤ j) (keys_of s)
    short_keys s p j is h = keys_short nought has value m has_nought value_nought injective j p s is h

    within : (a b : List (List Letter × E)) (i j : ℕ) → i + j ≤ 24 → All (λ w. length w ≤ i) (keys_of a) → All (λ w. length w ≤ j) (keys_of b)
        → AreWithin 24 a b
    within a b i j h x y =
        All-weaker (λ w. length w ≤ i) (λ u. All (λ v. length u + length v ≤ 24) (keys_of b))
        (λ u l. All-weaker (λ w. length w ≤ j) (λ v. length u + length v ≤ 24) (λ v k. omega arith) (keys_of b) y)
        (keys_of a) x

    -- one more copy of the zeta has room
    pub copy_fits : (ks : List ℕ) (power i : ℕ) (z before product : List (List Letter × E)) → Gives z (zeta_terms m ks) → i < power
        → (room : HasRoom nought has value m before (power * sum ks)) → Gives product (times_power m ks i room.terms) → AreWithin 24 z product
    copy_fits ks power i z before product gz l room g =
        let f = room.fits in
        let more : suc i * sum ks ≤ power * sum ks = mul-le-mul_right (sum ks) (omega arith) in
        let e : suc i * sum ks ≡ sum ks + i * sum ks = omega arith in
        within z product (sum ks) (i * sum ks + room.most) (omega arith)
        (short_keys z (zeta_terms m ks) (sum ks) gz (zeta_short m ks))
        (short_keys product (times_power m ks i room.terms) (i * sum ks + room.most) g
        (power_short m ks i room.most (i * sum ks + room.most) room.terms room.short (omega arith)))

-- the zetas of the factors ahead fit, and lead to the goal
module _ {E : Type 0} (nought : E) (has : E → Bool) (value : E → ℕ) (m : ℕ) where
  abbrev pub Ahead : List (List Letter × E) → List Factor → Terms → Type 0
  Ahead product rest goal = (room : HasRoom nought has value m product (sum_by weight_in rest)) × (times_zetas m rest room.terms ≡ goal)

  -- what a power makes of a sum
  abbrev pub Makes : List (List Letter × E) → List (List Letter × E) → List ℕ → ℕ → Type 0
  Makes before after w k = (p : Terms) → IsSumOf nought has value m (continued single p) before
      → IsSumOf nought has value m (continued single (times_power m w k p)) after

  pub ahead_begins : (product : List (List Letter × E)) (fs : List Factor) (w : List Letter) → w ≡ [] → IsSumOf nought has value m (single w) product
      → sum_by weight_in fs ≤ 24 → Ahead product fs (times_zetas m fs ((1, []) ∷ []))
  ahead_begins product fs w none is fits = (
    record {
      terms = (1, []) ∷ [];
      most = 0;
      gives = record {
        terms = is.terms;
        in_ring = is.in_ring;
        coefficients = λ t.
            let e : single [] t ≡ 1 * single [] t + 0 = omega arith in
            is.coefficients t ∙ ap (λ w. single w t % m) none ∙ ap (λ n. n % m) e;
      };
      short = (omega arith, tt);
      fits = omega arith;
    },
    refl,
  )

  abbrev room_now : (product : List (List Letter × E)) (n k : ℕ) → k ≤ n → HasRoom nought has value m product n → HasRoom nought has value m product k
  room_now product n k l r = let f = r.fits in record { terms = r.terms; most = r.most; gives = r.gives; short = r.short; fits = omega arith }

  pub zeta_room : (product : List (List Letter × E)) (whole rest : List Factor) (goal : Terms) (f : Factor) (w : List ℕ) (k : ℕ) → whole ≡ f ∷ rest
      → f ≡ Zeta w k → Ahead product whole goal → HasRoom nought has value m product (k * sum w)
  zeta_room product whole rest goal f w k e is a =
      let s : sum_by weight_in whole ≡ k * sum w + sum_by weight_in rest =
      ap (λ (l : List Factor). sum_by weight_in l) (e ∙ ap (λ (f : Factor). f ∷ rest) is) ∙ sum_by-cons weight_in (Zeta w k) rest in
      room_now product (sum_by weight_in whole) (k * sum w) (omega arith) a.0

  ahead_of_zeta : (product s : List (List Letter × E)) (rest : List Factor) (goal : Terms) (w : List ℕ) (k : ℕ) → Ahead product (Zeta w k ∷ rest) goal
      → Makes product s w k → Ahead s rest goal
  ahead_of_zeta product s rest goal w k a made =
      let r = a.0 in
      let f = r.fits in
      let e : sum_by weight_in (Zeta w k ∷ rest) ≡ k * sum w + sum_by weight_in rest = sum_by-cons weight_in (Zeta w k) rest in (
        record {
          terms = times_power m w k r.terms;
          most = k * sum w + r.most;
          gives = made r.terms r.gives;
          short = power_short m w k r.most (k * sum w + r.most) r.terms r.short refl;
          fits = omega arith;
        },
        a.1,
      )

  pub ahead_zeta : (product s : List (List Letter × E)) (whole rest : List Factor) (goal : Terms) (f : Factor) (w : List ℕ) (k : ℕ) → whole ≡ f ∷ rest
      → f ≡ Zeta w k → Ahead product whole goal → Makes product s w k → Ahead s rest goal
  ahead_zeta product s whole rest goal f w k e is a made =
      ahead_of_zeta product s rest goal w k (subst (λ (l : List Factor). Ahead product l goal) (e ∙ ap (λ (f : Factor). f ∷ rest) is) a) made

  ahead_of_other : (product : List (List Letter × E)) (rest : List Factor) (goal : Terms) (f : Factor) → ((w : List ℕ) (k : ℕ) → f ≡ Zeta w k → ⊥)
      → Ahead product (f ∷ rest) goal → Ahead product rest goal
  ahead_of_other product rest goal (Zeta w k) n a = absurd (n w k refl)
  ahead_of_other product rest goal (Number top bottom) n a =
      let e : sum_by weight_in (Number top bottom ∷ rest) ≡ 0 + sum_by weight_in rest = sum_by-cons weight_in (Number top bottom) rest in
      (room_now product (sum_by weight_in (Number top bottom ∷ rest)) (sum_by weight_in rest) (omega arith) a.0, a.1)

  pub ahead_other : (product : List (List Letter × E)) (whole rest : List Factor) (goal : Terms) (f : Factor) → whole ≡ f ∷ rest
      → ((w : List ℕ) (k : ℕ) → f ≡ Zeta w k → ⊥) → Ahead product whole goal → Ahead product rest goal
  ahead_other product whole rest goal f e n a = ahead_of_other product rest goal f n (subst (λ (l : List Factor). Ahead product l goal) e a)

  pub ahead_ends : (product : List (List Letter × E)) (rest : List Factor) (goal : Terms) → rest ≡ [] → Ahead product rest goal
      → IsSumOf nought has value m (continued single goal) product
  ahead_ends product rest goal e a =
      let b = subst (λ (l : List Factor). Ahead product l goal) e a in
      let r = b.0 in
      subst (λ p. IsSumOf nought has value m (continued single p) product) b.1 r.gives

pub front_of : (fs : List Factor) (i : ℕ) (f : Factor) → i < length fs → f ≡ get_or fs i f → drop i fs ≡ f ∷ drop (i + 1) fs
front_of fs i f h is = drop-cons fs i f h ∙ (λ k. sym is k ∷ drop (sym (add-one i) k) fs)

pub formed_at : (fs : List Factor) (i : ℕ) (f : Factor) (w : List ℕ) (k : ℕ) → AllByRecursion IsFormed fs → i < length fs → f ≡ get_or fs i f → f
    ≡ Zeta w k → (0 < length w) × All (λ n. 0 < n) w
formed_at fs i f w k h l is e =
    let a : IsFormed (get_or fs i f) = All-from_recursion IsFormed fs h i f l in
    let b : IsFormed (Zeta w k) = subst (λ (f : Factor). IsFormed f) (sym is ∙ e) a in
    (b.0, All-from_recursion (λ n. 0 < n) w b.1)
