-- The words of shuffle and stuffle: how deep they are, how they begin and how they end.
use Rattle.std.proofs.Common.{◌≡◌, ℕ, zero, suc, ◌+◌, ◌<◌, ◌≤◌, inl, inr, Bool, true, false, cond, Option, Some, None, List, [], ◌∷◌, ◌++◌, length, map, Contains, refl, sym, ap, subst, ◌∙◌, arith}
use Rattle.std.proofs.lemmas.List.Elements.{Contains-append_cases}
use Rattle.std.proofs.lemmas.List.Sums.{sum_by-append}
use Rattle.zeta_model.specs.declared.Letter.{Letter}
use Rattle.zeta_model.specs.declared.Letter.TheVariants.{X, Y}
use Rattle.zeta_model.specs.Words.{is_y, depth_of, begins_with_x, ends_with_y, has_index, is_admissible}
use Rattle.zeta_model.specs.Indices.{z_word}
use Rattle.zeta_model.specs.Product.{Alphabet, AlphabetLaws, rest, behind, prod_within, prod, total}
use Rattle.zeta_model.specs.Alphabets.{first_z, shuffle_alphabet, stuffle_alphabet, shuffle_of, stuffle_of}
use Rattle.zeta_model.specs.Sums.{same_word, single, sum_of}
use Rattle.zeta_model.proofs.ShuffleLetters.{shuffle_laws}
use Rattle.zeta_model.proofs.StuffleLetters.{stuffle_laws}
use Rattle.zeta_model.proofs.WordOrder.{same_word-one, same_word-itself}
use Rattle.relation_list.proofs.Members.{From, none_contained, contains_first, contains_later, contains_cases, from-map}
use Rattle.relation_list.proofs.ValueLemmas.{admissible-has_index}
use Rattle.zeta_model.proofs.DepthLemmas.{depth_of-x, depth_of-y, depth_of-some}

abbrev Word : Type 0
Word = List Letter

pub single-some : (u t : Word) → 0 < single u t → t ≡ u
single-some u t h = by (same_word t u) refl h
  where
    by : (b : Bool) → same_word t u ≡ b → 0 < cond b 1 0 → t ≡ u
    by true e h = same_word-one t u e
    by false e h = absurd (omega arith)

-- a word of the list at which f is not zero
pub record At (f : Word → ℕ) (ws : List Word) : Type 0 where
  pub word : Word
  pub held : Contains ws word
  pub some : 0 < f word

pub total-some : (f : Word → ℕ) (ws : List Word) → 0 < total f ws → At f ws
total-some f [] h = absurd (omega arith)
total-some f (w ∷ ws) h = by (f w) refl (total-some f ws)
  where
    by : (n : ℕ) → f w ≡ n → (0 < total f ws → At f ws) → At f (w ∷ ws)
    by zero e more = let r : At f ws = more (omega arith) in record { word = r.word; held = contains_later w r.word ws r.held; some = r.some }
    by (suc n) e more = record { word = w; held = contains_first w ws; some = omega arith }

pub sum_of-held : (ws : List Word) (t : Word) → 0 < sum_of ws t → Contains ws t
sum_of-held ws t h =
    let r : At (λ w. single w t) ws = total-some (λ w. single w t) ws h in
    subst (Contains ws) (sym (single-some r.word t r.some)) r.held

pub held-some : (ws : List Word) (t : Word) → Contains ws t → 0 < sum_of ws t
held-some [] t c = absurd (none_contained t c)
held-some (w ∷ ws) t c = elim (contains_cases w t ws c) [
  | inl e ↦ let one : single w t ≡ 1 = ap (λ b. cond b 1 0) (ap (λ v. same_word t v) e ∙ same_word-itself t) in omega (arith, one)
  | inr q ↦ omega (arith, held-some ws t q)
]

pub depth_of-append : (u v : Word) → depth_of (u ++ v) ≡ depth_of u + depth_of v
depth_of-append u v = sum_by-append (λ a. cond (is_y a) 1 0) u v

the_one : (u t : Word) → Contains (u ∷ []) t → u ≡ t
the_one u t c = elim (contains_cases u t [] c) [ inl e ↦ e | inr n ↦ absurd (none_contained t n) ]

-- the words of a product are no deeper than the two words together, where joining two letters makes nothing deeper
module _ (L : Alphabet) (laws : (limit : ℕ) → AlphabetLaws limit L)
    (joining : (u v c : Word) → L.covered u ≡ true → L.covered v ≡ true → 0 < length u → 0 < length v → L.joined (L.first u) (L.first v) ≡ Some c
    → depth_of c ≤ depth_of (L.first u) + depth_of (L.first v)) where
  cut : (w : Word) → L.covered w ≡ true → 0 < length w → depth_of w ≡ depth_of (L.first w) + depth_of (rest L w)
  cut w c p = ap depth_of ((laws (length w)).first_begins w c p (omega arith)) ∙ depth_of-append (L.first w) (rest L w)

  covers_rest : (w : Word) → L.covered w ≡ true → 0 < length w → L.covered (rest L w) ≡ true
  covers_rest w c p = (laws (length w)).covers_rest w c p (omega arith)

  behind_depth : (o : Option Word) (ws : List Word) (t : Word) (k n : ℕ) → ((c : Word) → o ≡ Some c → depth_of c ≤ k)
      → ((w : Word) → Contains ws w → depth_of w ≤ n) → Contains (behind o ws) t → depth_of t ≤ k + n
  behind_depth None ws t k n f g c = absurd (none_contained t c)
  behind_depth (Some a) ws t k n f g c =
      let r : From (λ w. a ++ w) ws t = from-map (λ w. a ++ w) ws t c in
      let e : depth_of t ≡ depth_of a + depth_of r.origin = ap depth_of (sym r.gives) ∙ depth_of-append a r.origin in
      omega (arith, e, f a refl, g r.origin r.held)

  depth-prod_within : (n : ℕ) (u v t : Word) → L.covered u ≡ true → L.covered v ≡ true → Contains (prod_within L n u v) t → depth_of t ≤ depth_of u + depth_of v
  depth-prod_within n [] v t cu cv c = omega (arith, ap depth_of (the_one v t c))
  depth-prod_within n (x ∷ u) [] t cu cv c = omega (arith, ap depth_of (the_one (x ∷ u) t c))
  depth-prod_within zero (x ∷ u) (y ∷ v) t cu cv c = absurd (none_contained t c)
  depth-prod_within (suc n) (x ∷ u) (y ∷ v) t cu cv c =
      let ru : L.covered (rest L (x ∷ u)) ≡ true = covers_rest (x ∷ u) cu (omega arith) in
      let rv : L.covered (rest L (y ∷ v)) ≡ true = covers_rest (y ∷ v) cv (omega arith) in
      three c (λ w. depth-prod_within n (rest L (x ∷ u)) (y ∷ v) w ru cv) (λ w. depth-prod_within n (x ∷ u) (rest L (y ∷ v)) w cu rv)
      (λ w. depth-prod_within n (rest L (x ∷ u)) (rest L (y ∷ v)) w ru rv)
    where
      one : (a c : Word) → ◌≡◌ {A = Option Word} (Some a) (Some c) → depth_of c ≤ depth_of a
      one a c e = let same : a ≡ c = cc in omega (arith, ap depth_of same)

      three : Contains (behind (Some (L.first (x ∷ u))) (prod_within L n (rest L (x ∷ u)) (y ∷ v)) ++ behind (Some (L.first (y ∷ v)))
          (prod_within L n (x ∷ u) (rest L (y ∷ v))) ++ behind (L.joined (L.first (x ∷ u)) (L.first (y ∷ v)))
          (prod_within L n (rest L (x ∷ u)) (rest L (y ∷ v)))) t
          → ((w : Word) → Contains (prod_within L n (rest L (x ∷ u)) (y ∷ v)) w → depth_of w ≤ depth_of (rest L (x ∷ u)) + depth_of (y ∷ v))
          → ((w : Word) → Contains (prod_within L n (x ∷ u) (rest L (y ∷ v))) w → depth_of w ≤ depth_of (x ∷ u) + depth_of (rest L (y ∷ v)))
          → ((w : Word) → Contains (prod_within L n (rest L (x ∷ u)) (rest L (y ∷ v))) w → depth_of w ≤ depth_of (rest L (x ∷ u)) + depth_of (rest L (y ∷ v)))
          → depth_of t ≤ depth_of (x ∷ u) + depth_of (y ∷ v)
      three c ia ib ij =
          let eu : depth_of (x ∷ u) ≡ depth_of (L.first (x ∷ u)) + depth_of (rest L (x ∷ u)) = cut (x ∷ u) cu (omega arith) in
          let ev : depth_of (y ∷ v) ≡ depth_of (L.first (y ∷ v)) + depth_of (rest L (y ∷ v)) = cut (y ∷ v) cv (omega arith) in
          elim (Contains-append_cases (behind (Some (L.first (x ∷ u))) (prod_within L n (rest L (x ∷ u)) (y ∷ v)) ++ behind (Some (L.first (y ∷ v)))
          (prod_within L n (x ∷ u) (rest L (y ∷ v))))
          (behind (L.joined (L.first (x ∷ u)) (L.first (y ∷ v))) (prod_within L n (rest L (x ∷ u)) (rest L (y ∷ v)))) t c) [
            | inl p ↦ elim (Contains-append_cases (behind (Some (L.first (x ∷ u))) (prod_within L n (rest L (x ∷ u)) (y ∷ v)))
                (behind (Some (L.first (y ∷ v))) (prod_within L n (x ∷ u) (rest L (y ∷ v)))) t p) [
                  | inl q ↦ omega (
                    arith,
                    eu,
                    behind_depth (Some (L.first (x ∷ u))) (prod_within L n (rest L (x ∷ u)) (y ∷ v)) t (depth_of (L.first (x ∷ u)))
                        (depth_of (rest L (x ∷ u)) + depth_of (y ∷ v)) (one (L.first (x ∷ u))) ia q,
                  )
                  | inr q ↦ omega (
                    arith,
                    ev,
                    behind_depth (Some (L.first (y ∷ v))) (prod_within L n (x ∷ u) (rest L (y ∷ v))) t (depth_of (L.first (y ∷ v)))
                        (depth_of (x ∷ u) + depth_of (rest L (y ∷ v))) (one (L.first (y ∷ v))) ib q,
                  )
                ]
            | inr p ↦ omega (
              arith,
              eu,
              ev,
              behind_depth (L.joined (L.first (x ∷ u)) (L.first (y ∷ v))) (prod_within L n (rest L (x ∷ u)) (rest L (y ∷ v))) t
                  (depth_of (L.first (x ∷ u)) + depth_of (L.first (y ∷ v))) (depth_of (rest L (x ∷ u)) + depth_of (rest L (y ∷ v)))
                  (λ d e. joining (x ∷ u) (y ∷ v) d cu cv (omega arith) (omega arith) e) ij p,
            )
          ]

  depth-prod : (u v t : Word) → L.covered u ≡ true → L.covered v ≡ true → 0 < sum_of (prod L u v) t → depth_of t ≤ depth_of u + depth_of v
  depth-prod u v t cu cv h = depth-prod_within (length u + length v) u v t cu cv (sum_of-held (prod L u v) t h)

pub depth-shuffle : (u v t : Word) → 0 < sum_of (shuffle_of u v) t → depth_of t ≤ depth_of u + depth_of v
depth-shuffle u v t h = depth-prod shuffle_alphabet shuffle_laws (λ u v c cu cv pu pv e. cc) u v t refl refl h

depth-z_word : (k : ℕ) → depth_of (z_word k) ≤ 1
depth-z_word zero = omega arith
depth-z_word (suc zero) = omega (arith, depth_of-y [])
depth-z_word (suc (suc k)) = omega (arith, depth_of-x (z_word (suc k)), depth-z_word (suc k))

joining_z : (u v c : Word) → has_index u ≡ true → has_index v ≡ true → 0 < length u → 0 < length v → stuffle_alphabet.joined (first_z u) (first_z v) ≡ Some c
    → depth_of c ≤ depth_of (first_z u) + depth_of (first_z v)
joining_z u v c cu cv pu pv e =
    let same : z_word (length (first_z u) + length (first_z v)) ≡ c = cc in
    let l = (stuffle_laws (length u)).first_is_letter u cu pu (omega arith) in
    let some : 0 < depth_of (first_z u) = depth_of-some (first_z u) (ends (first_z u) l.covers l.some) in
    omega (arith, some, ap depth_of same, depth-z_word (length (first_z u) + length (first_z v)))
  where
    ends : (w : Word) → has_index w ≡ true → 0 < length w → ends_with_y w ≡ true
    ends [] c p = absurd (omega arith)
    ends (a ∷ w) c p = c

pub depth-stuffle : (u v t : Word) → has_index u ≡ true → has_index v ≡ true → 0 < sum_of (stuffle_of u v) t → depth_of t ≤ depth_of u + depth_of v
depth-stuffle u v t cu cv h = depth-prod stuffle_alphabet stuffle_laws joining_z u v t cu cv h

-- words that begin with x have products that begin with x
module _ (L : Alphabet) (from_x : (u t : Word) → begins_with_x (L.first (X ∷ u) ++ t) ≡ true)
    (joins_x : (u v c t : Word) → L.joined (L.first (X ∷ u)) (L.first (X ∷ v)) ≡ Some c → begins_with_x (c ++ t) ≡ true) where
  behind_x : (o : Option Word) (ws : List Word) (t : Word) → ((c w : Word) → o ≡ Some c → begins_with_x (c ++ w) ≡ true) → Contains (behind o ws) t
      → begins_with_x t ≡ true
  behind_x None ws t f c = absurd (none_contained t c)
  behind_x (Some a) ws t f c = let r : From (λ w. a ++ w) ws t = from-map (λ w. a ++ w) ws t c in ap begins_with_x (sym r.gives) ∙ f a r.origin refl

  prod_within-x : (n : ℕ) (u v t : Word) → Contains (prod_within L n (X ∷ u) (X ∷ v)) t → begins_with_x t ≡ true
  prod_within-x zero u v t c = absurd (none_contained t c)
  prod_within-x (suc n) u v t c =
      elim (Contains-append_cases (behind (Some (L.first (X ∷ u))) (prod_within L n (rest L (X ∷ u)) (X ∷ v)) ++ behind (Some (L.first (X ∷ v)))
      (prod_within L n (X ∷ u) (rest L (X ∷ v))))
      (behind (L.joined (L.first (X ∷ u)) (L.first (X ∷ v))) (prod_within L n (rest L (X ∷ u)) (rest L (X ∷ v)))) t c) [
        | inl p ↦ elim (Contains-append_cases (behind (Some (L.first (X ∷ u))) (prod_within L n (rest L (X ∷ u)) (X ∷ v)))
            (behind (Some (L.first (X ∷ v))) (prod_within L n (X ∷ u) (rest L (X ∷ v)))) t p) [
              | inl q ↦ behind_x (Some (L.first (X ∷ u))) (prod_within L n (rest L (X ∷ u)) (X ∷ v)) t (some u) q
              | inr q ↦ behind_x (Some (L.first (X ∷ v))) (prod_within L n (X ∷ u) (rest L (X ∷ v))) t (some v) q
            ]
        | inr p ↦ behind_x (L.joined (L.first (X ∷ u)) (L.first (X ∷ v))) (prod_within L n (rest L (X ∷ u)) (rest L (X ∷ v))) t (λ d w e. joins_x u v d w e) p
      ]
    where
      some : (u c w : Word) → ◌≡◌ {A = Option Word} (Some (L.first (X ∷ u))) (Some c) → begins_with_x (c ++ w) ≡ true
      some u c w e = let same : L.first (X ∷ u) ≡ c = cc in ap (λ a. begins_with_x (a ++ w)) (sym same) ∙ from_x u w

  prod-x : (u v t : Word) → begins_with_x u ≡ true → begins_with_x v ≡ true → 0 < sum_of (prod L u v) t → begins_with_x t ≡ true
  prod-x [] v t bu bv h = cc
  prod-x (Y ∷ u) v t bu bv h = cc
  prod-x (X ∷ u) [] t bu bv h = cc
  prod-x (X ∷ u) (Y ∷ v) t bu bv h = cc
  prod-x (X ∷ u) (X ∷ v) t bu bv h = prod_within-x (length (X ∷ u) + length (X ∷ v)) u v t (sum_of-held (prod L (X ∷ u) (X ∷ v)) t h)

shuffle-x : (u v t : Word) → begins_with_x u ≡ true → begins_with_x v ≡ true → 0 < sum_of (shuffle_of u v) t → begins_with_x t ≡ true
shuffle-x u v t bu bv h = prod-x shuffle_alphabet (λ u t. refl) (λ u v c t e. cc) u v t bu bv h

z_word-x : (k : ℕ) (t : Word) → 1 < k → begins_with_x (z_word k ++ t) ≡ true
z_word-x zero t h = absurd (omega arith)
z_word-x (suc zero) t h = absurd (omega arith)
z_word-x (suc (suc k)) t h = refl

stuffle-x : (u v t : Word) → begins_with_x u ≡ true → begins_with_x v ≡ true → 0 < sum_of (stuffle_of u v) t → begins_with_x t ≡ true
stuffle-x u v t bu bv h = prod-x stuffle_alphabet (λ u t. refl) joins u v t bu bv h
  where
    joins : (u v c t : Word) → stuffle_alphabet.joined (first_z (X ∷ u)) (first_z (X ∷ v)) ≡ Some c → begins_with_x (c ++ t) ≡ true
    joins u v c t e =
        let same : z_word (length (first_z (X ∷ u)) + length (first_z (X ∷ v))) ≡ c = cc in
        ap (λ w. begins_with_x (w ++ t)) (sym same) ∙ z_word-x (length (first_z (X ∷ u)) + length (first_z (X ∷ v))) t (omega arith)

-- a word that has an index, and its length
record Ends (n : ℕ) (t : Word) : Type 0 where
  index : has_index t ≡ true
  long : length t ≡ n

one_more : (a : Letter) (n : ℕ) (w : Word) → 0 < n → Ends n w → Ends (suc n) (a ∷ w)
one_more a n [] p e = let l : 0 ≡ n = e.long in absurd (omega arith)
one_more a n (b ∷ w) p e = record { index = e.index; long = ap suc e.long }

one_less : (a : Letter) (w : Word) → has_index (a ∷ w) ≡ true → has_index w ≡ true
one_less a [] c = refl
one_less a (b ∷ w) c = c

shuffle_within-ends : (n : ℕ) (u v t : Word) → has_index u ≡ true → has_index v ≡ true → Contains (prod_within shuffle_alphabet n u v) t
    → Ends (length u + length v) t
shuffle_within-ends n [] v t cu cv c = let e : v ≡ t = the_one v t c in record { index = ap has_index (sym e) ∙ cv; long = omega (arith, ap length e) }
shuffle_within-ends n (x ∷ u) [] t cu cv c = let e : x ∷ u ≡ t = the_one (x ∷ u) t c in
    record { index = ap has_index (sym e) ∙ cu; long = omega (arith, ap length e) }
shuffle_within-ends zero (x ∷ u) (y ∷ v) t cu cv c = absurd (none_contained t c)
shuffle_within-ends (suc n) (x ∷ u) (y ∷ v) t cu cv c =
    two c (λ w. shuffle_within-ends n u (y ∷ v) w (one_less x u cu) cv) (λ w. shuffle_within-ends n (x ∷ u) v w cu (one_less y v cv))
  where
    front : (a : Letter) (ws : List Word) (k : ℕ) → 0 < k → ((w : Word) → Contains ws w → Ends k w) → Contains (map (λ w. (a ∷ []) ++ w) ws) t → Ends (suc k) t
    front a ws k p f c = let r : From (λ w. (a ∷ []) ++ w) ws t = from-map (λ w. (a ∷ []) ++ w) ws t c in
        subst (Ends (suc k)) r.gives (one_more a k r.origin p (f r.origin r.held))

    two : Contains (map (λ w. (x ∷ []) ++ w) (prod_within shuffle_alphabet n u (y ∷ v)) ++ map (λ w. (y ∷ []) ++ w)
        (prod_within shuffle_alphabet n (x ∷ u) v) ++ []) t
        → ((w : Word) → Contains (prod_within shuffle_alphabet n u (y ∷ v)) w → Ends (length u + length (y ∷ v)) w)
        → ((w : Word) → Contains (prod_within shuffle_alphabet n (x ∷ u) v) w → Ends (length (x ∷ u) + length v) w) → Ends (length (x ∷ u) + length (y ∷ v)) t
    two c fa fb = elim (Contains-append_cases
        (map (λ w. (x ∷ []) ++ w) (prod_within shuffle_alphabet n u (y ∷ v)) ++ map (λ w. (y ∷ []) ++ w) (prod_within shuffle_alphabet n (x ∷ u) v)) [] t c) [
          | inl p ↦ elim (Contains-append_cases (map (λ w. (x ∷ []) ++ w) (prod_within shuffle_alphabet n u (y ∷ v)))
              (map (λ w. (y ∷ []) ++ w) (prod_within shuffle_alphabet n (x ∷ u) v)) t p) [
                | inl q ↦ let e : suc (length u + length (y ∷ v)) ≡ length (x ∷ u) + length (y ∷ v) = omega arith in
                    subst (λ k. Ends k t) e (front x (prod_within shuffle_alphabet n u (y ∷ v)) (length u + length (y ∷ v)) (omega arith) fa q)
                | inr q ↦ let e : suc (length (x ∷ u) + length v) ≡ length (x ∷ u) + length (y ∷ v) = omega arith in
                    subst (λ k. Ends k t) e (front y (prod_within shuffle_alphabet n (x ∷ u) v) (length (x ∷ u) + length v) (omega arith) fb q)
              ]
          | inr p ↦ absurd (none_contained t p)
        ]

admissible_from : (t : Word) → begins_with_x t ≡ true → has_index t ≡ true → is_admissible t ≡ true
admissible_from [] b c = cc
admissible_from (X ∷ t) b c = c
admissible_from (Y ∷ t) b c = cc

begins : (u : Word) → is_admissible u ≡ true → begins_with_x u ≡ true
begins [] h = cc
begins (X ∷ u) h = refl
begins (Y ∷ u) h = cc

pub shuffle-admissible : (u v t : Word) → is_admissible u ≡ true → is_admissible v ≡ true → 0 < sum_of (shuffle_of u v) t → is_admissible t ≡ true
shuffle-admissible u v t au av h =
    admissible_from t (shuffle-x u v t (begins u au) (begins v av) h)
    (shuffle_within-ends (length u + length v) u v t (admissible-has_index u au) (admissible-has_index v av) (sum_of-held (shuffle_of u v) t h)).index

pub stuffle-admissible : (u v t : Word) → is_admissible u ≡ true → is_admissible v ≡ true → has_index t ≡ true → 0 < sum_of (stuffle_of u v) t
    → is_admissible t ≡ true
stuffle-admissible u v t au av c h = admissible_from t (stuffle-x u v t (begins u au) (begins v av) h) c
