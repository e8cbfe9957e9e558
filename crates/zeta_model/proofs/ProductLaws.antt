-- The product by letters is commutative and associative, from the laws of the letters alone.
use Rattle.std.proofs.Common.{◌≡◌, ℕ, zero, suc, ◌+◌, ◌≤◌, true, Option, Some, None, List, [], ◌∷◌, ◌++◌, length, refl, sym, ap, subst, ◌∙◌, arith, length-append}
use Rattle.std.specs.List.{flat_map}
use Rattle.std.specs.Option.{option_and_then}
use Rattle.zeta_model.specs.declared.Letter.{Letter}
use Rattle.zeta_model.specs.Product.{Alphabet, IsLetter, AlphabetLaws, rest, prod, total, IsCommutative, IsAssociative}
use Rattle.zeta_model.proofs.Totals.{total-flat_map}
use Rattle.zeta_model.proofs.ProductTotals.{product_total, joined_total, product_total-empty_left, product_total-empty_right, product_total-plus, product_total-zero, Split, product_total-split, product_total-cong, by_parts, behind_first}

abbrev Word : Type 0
Word = List Letter

-- the sum of f over the words of (u v) w
triple_total : Alphabet → (Word → ℕ) → Word → Word → Word → ℕ
triple_total L f u v w = product_total L (λ t. product_total L f t w) u v

joined_triple : Alphabet → Option Word → (Word → ℕ) → Word → Word → Word → ℕ
joined_triple L None f u v w = 0
joined_triple L (Some d) f u v w = triple_total L (λ t. f (d ++ t)) u v w

module _ (limit : ℕ) (L : Alphabet) (laws : AlphabetLaws limit L) where
  -- commutative

  abbrev CommutesWithin : ℕ → Type 0
  CommutesWithin k = (f : Word → ℕ) (u v : Word) → L.covered u ≡ true → L.covered v ≡ true → length u + length v ≤ limit → length u + length v ≤ k
      → product_total L f u v ≡ product_total L f v u

  joined_total_comm : (k : ℕ) → CommutesWithin k → (o : Option Word) (f : Word → ℕ) (u v : Word) → L.covered u ≡ true → L.covered v ≡ true
      → length u + length v ≤ limit → length u + length v ≤ k → joined_total L o f u v ≡ joined_total L o f v u
  unfolding joined_total
  joined_total_comm k ih None f u v cu cv h hk = refl
  joined_total_comm k ih (Some c) f u v cu cv h hk = ih _ u v cu cv h hk

  comm_parts : (k : ℕ) → CommutesWithin k → (f : Word → ℕ) (a u b v : Word) → Split limit L laws a u b v
      → length a + length u + (length b + length v) ≤ suc k → product_total L f (a ++ u) (b ++ v) ≡ product_total L f (b ++ v) (a ++ u)
  comm_parts k ih f a u b v s hk =
      let fits = s.fits in
      let la = s.letter_a.some in
      let lb = s.letter_b.some in
      let nu = length-append a u in
      let nv = length-append b v in
      let cu = laws.covers_more a u s.letter_a s.covers_u (omega arith) in
      let cv = laws.covers_more b v s.letter_b s.covers_v (omega arith) in
      let back : Split limit L laws b v a u =
      record { letter_a = s.letter_b; letter_b = s.letter_a; covers_u = s.covers_v; covers_v = s.covers_u; fits = omega arith } in
      let ea = ih (λ w. f (a ++ w)) u (b ++ v) s.covers_u cv (omega arith) (omega arith) in
      let eb = ih (λ w. f (b ++ w)) (a ++ u) v cu s.covers_v (omega arith) (omega arith) in
      let j = laws.joined_comm a b s.letter_a s.letter_b (omega arith) in
      let ej : joined_total L (L.joined a b) f u v ≡ joined_total L (L.joined b a) f v u =
      joined_total_comm k ih (L.joined a b) f u v s.covers_u s.covers_v (omega arith) (omega arith) ∙ ap (λ o. joined_total L o f v u) j in
      let sf = product_total-split limit L laws f a u b v s in
      let sg = product_total-split limit L laws f b v a u back in
      omega arith

  comm_within : (k : ℕ) → CommutesWithin k
  comm_within k f [] v cu cv h hk = product_total-empty_left L f v ∙ sym (product_total-empty_right L f v)
  comm_within k f (x ∷ u) [] cu cv h hk = product_total-empty_right L f (x ∷ u) ∙ sym (product_total-empty_left L f (x ∷ u))
  comm_within zero f (x ∷ u) (y ∷ v) cu cv h hk = absurd (omega arith)
  comm_within (suc k) f (x ∷ u) (y ∷ v) cu cv h hk =
      by_parts limit L laws (λ p q. product_total L f p q ≡ product_total L f q p) x u y v cu cv h
      (λ a u' b v' s nu nv. comm_parts k (comm_within k) f a u' b v' s (omega arith))

  product_total_comm : (f : Word → ℕ) (u v : Word) → L.covered u ≡ true → L.covered v ≡ true → length u + length v ≤ limit
      → product_total L f u v ≡ product_total L f v u
  product_total_comm f u v cu cv h = comm_within (length u + length v) f u v cu cv h (omega arith)

  pub prod_commutes : IsCommutative limit L
  unfolding product_total
  prod_commutes u v cu cv h f = product_total_comm f u v cu cv h

  -- associative: the sum over the words of (u v) w does not change when the three words go round

  record TripleSplit (a u b v c w : Word) : Type 0 where
    letter_a : IsLetter L a
    letter_b : IsLetter L b
    letter_c : IsLetter L c
    covers_u : L.covered u ≡ true
    covers_v : L.covered v ≡ true
    covers_w : L.covered w ≡ true
    fits : length a + length u + (length b + length v) + (length c + length w) ≤ limit

  product_total-joined_total : (o : Option Word) (f : Word → ℕ) (p q w : Word)
      → product_total L (λ t. joined_total L o f t w) p q ≡ joined_triple L o f p q w
  unfolding joined_total joined_triple triple_total
  product_total-joined_total None f p q w = product_total-zero L p q
  product_total-joined_total (Some d) f p q w = refl

  -- the words of p q behind the letter a, times c w: a stands first, or c does, or they are joined
  product_total-behind : (f : Word → ℕ) (a p q c w : Word) → IsLetter L a → IsLetter L c → L.covered p ≡ true → L.covered q ≡ true → L.covered w ≡ true
      → length a + (length p + length q) + (length c + length w) ≤ limit
      → product_total L (λ t. product_total L f (a ++ t) (c ++ w)) p q
      ≡ triple_total L (λ t. f (a ++ t)) p q (c ++ w) + product_total L (λ t. product_total L (λ r. f (c ++ r)) (a ++ t) w) p q + joined_triple L
      (L.joined a c) f p q w
  unfolding triple_total
  product_total-behind f a p q c w la lc cp cq cw h =
      let one : Word → ℕ = λ t. product_total L (λ r. f (a ++ r)) t (c ++ w) in
      let two : Word → ℕ = λ t. product_total L (λ r. f (c ++ r)) (a ++ t) w in
      let three : Word → ℕ = λ t. joined_total L (L.joined a c) f t w in
      let split : product_total L (λ t. product_total L f (a ++ t) (c ++ w)) p q ≡ product_total L (λ t. one t + two t + three t) p q =
      product_total-cong limit L laws _ _ p q cp cq (omega arith)
      (λ t ct nt. product_total-split limit L laws f a t c w
      (record { letter_a = la; letter_b = lc; covers_u = ct; covers_v = cw; fits = omega arith })) in
      let e1 : product_total L (λ t. one t + two t + three t) p q ≡ product_total L (λ t. one t + two t) p q + product_total L three p q =
      product_total-plus L (λ t. one t + two t) three p q in
      let e2 : product_total L (λ t. one t + two t) p q ≡ product_total L one p q + product_total L two p q = product_total-plus L one two p q in
      let e3 : product_total L three p q ≡ joined_triple L (L.joined a c) f p q w = product_total-joined_total (L.joined a c) f p q w in
      cc

  product_total-behind_joined : (f : Word → ℕ) (a u b v c w : Word) → TripleSplit a u b v c w → (o : Option Word) → L.joined a b ≡ o
      → joined_total L o (λ t. product_total L f t (c ++ w)) u v
      ≡ joined_triple L o f u v (c ++ w) + joined_total L o (λ t. product_total L (λ r. f (c ++ r)) t w) u v + joined_triple L
      (option_and_then (λ d. L.joined d c) o) f u v w
  unfolding joined_total joined_triple
  product_total-behind_joined f a u b v c w s None is = omega arith
  product_total-behind_joined f a u b v c w s (Some d) is =
      let fits = s.fits in
      let ld = laws.joined_is_letter a b d s.letter_a s.letter_b (omega arith) is in
      let nd = laws.joined_length a b d s.letter_a s.letter_b (omega arith) is in
      product_total-behind f d u v c w ld s.letter_c s.covers_u s.covers_v s.covers_w (omega arith)

  -- the seven groups: one of the three first letters stands first, or two of them joined, or all three
  triple_total-split : (f : Word → ℕ) (a u b v c w : Word) → TripleSplit a u b v c w
      → triple_total L f (a ++ u) (b ++ v) (c ++ w)
      ≡ triple_total L (λ t. f (a ++ t)) u (b ++ v) (c ++ w) + triple_total L (λ t. f (b ++ t)) (a ++ u) v (c ++ w) + triple_total L (λ t. f (c ++ t))
      (a ++ u) (b ++ v) w + joined_triple L (L.joined a b) f u v (c ++ w) + joined_triple L (L.joined a c) f u (b ++ v) w + joined_triple L (L.joined b c) f
      (a ++ u) v w + joined_triple L (option_and_then (λ d. L.joined d c) (L.joined a b)) f u v w
  unfolding triple_total
  triple_total-split f a u b v c w s =
      let fits = s.fits in
      let nu = length-append a u in
      let nv = length-append b v in
      let cu = laws.covers_more a u s.letter_a s.covers_u (omega arith) in
      let cv = laws.covers_more b v s.letter_b s.covers_v (omega arith) in
      let two : Split limit L laws a u b v =
      record { letter_a = s.letter_a; letter_b = s.letter_b; covers_u = s.covers_u; covers_v = s.covers_v; fits = omega arith } in
      let whole = product_total-split limit L laws (λ t. product_total L f t (c ++ w)) a u b v two in
      let at_a = product_total-behind f a u (b ++ v) c w s.letter_a s.letter_c s.covers_u cv s.covers_w (omega arith) in
      let at_b = product_total-behind f b (a ++ u) v c w s.letter_b s.letter_c cu s.covers_v s.covers_w (omega arith) in
      let at_ab = product_total-behind_joined f a u b v c w s (L.joined a b) refl in
      let at_c = product_total-split limit L laws (λ t. product_total L (λ r. f (c ++ r)) t w) a u b v two in
      omega arith

  abbrev TurnsWithin : ℕ → Type 0
  TurnsWithin k = (f : Word → ℕ) (u v w : Word) → L.covered u ≡ true → L.covered v ≡ true → L.covered w ≡ true → length u + length v + length w ≤ limit
      → length u + length v + length w ≤ k → triple_total L f u v w ≡ triple_total L f v w u

  joined_triple-turn : (k : ℕ) → TurnsWithin k → (o : Option Word) (f : Word → ℕ) (u v w : Word) → L.covered u ≡ true → L.covered v ≡ true
      → L.covered w ≡ true → length u + length v + length w ≤ limit → length u + length v + length w ≤ k
      → joined_triple L o f u v w ≡ joined_triple L o f v w u
  unfolding joined_triple
  joined_triple-turn k ih None f u v w cu cv cw h hk = refl
  joined_triple-turn k ih (Some d) f u v w cu cv cw h hk = ih _ u v w cu cv cw h hk

  -- a letter before or behind what b and c join to
  join_turned : (a b c : Word) → IsLetter L a → IsLetter L b → IsLetter L c → length a + length b + length c ≤ limit → (o : Option Word) → L.joined b c ≡ o
      → option_and_then (λ d. L.joined a d) o ≡ option_and_then (λ d. L.joined d a) o
  join_turned a b c la lb lc h None is = refl
  join_turned a b c la lb lc h (Some d) is =
      let ld = laws.joined_is_letter b c d lb lc (omega arith) is in
      let nd = laws.joined_length b c d lb lc (omega arith) is in
      laws.joined_comm a d la ld (omega arith)

  turn_parts : (k : ℕ) → TurnsWithin k → (f : Word → ℕ) (a u b v c w : Word) → TripleSplit a u b v c w
      → length a + length u + (length b + length v) + (length c + length w) ≤ suc k
      → triple_total L f (a ++ u) (b ++ v) (c ++ w) ≡ triple_total L f (b ++ v) (c ++ w) (a ++ u)
  turn_parts k ih f a u b v c w s hk =
      let fits = s.fits in
      let pa = s.letter_a.some in
      let pb = s.letter_b.some in
      let pc = s.letter_c.some in
      let nu = length-append a u in
      let nv = length-append b v in
      let nw = length-append c w in
      let cu = laws.covers_more a u s.letter_a s.covers_u (omega arith) in
      let cv = laws.covers_more b v s.letter_b s.covers_v (omega arith) in
      let cw = laws.covers_more c w s.letter_c s.covers_w (omega arith) in
      let turned : TripleSplit b v c w a u =
      record {
        letter_a = s.letter_b;
        letter_b = s.letter_c;
        letter_c = s.letter_a;
        covers_u = s.covers_v;
        covers_v = s.covers_w;
        covers_w =
            s.covers_u;
        fits = omega arith;
      } in
      let left = triple_total-split f a u b v c w s in
      let right = triple_total-split f b v c w a u turned in
      let ea = ih (λ t. f (a ++ t)) u (b ++ v) (c ++ w) s.covers_u cv cw (omega arith) (omega arith) in
      let eb = ih (λ t. f (b ++ t)) (a ++ u) v (c ++ w) cu s.covers_v cw (omega arith) (omega arith) in
      let ec = ih (λ t. f (c ++ t)) (a ++ u) (b ++ v) w cu cv s.covers_w (omega arith) (omega arith) in
      let jab = laws.joined_comm a b s.letter_a s.letter_b (omega arith) in
      let jac = laws.joined_comm a c s.letter_a s.letter_c (omega arith) in
      let jabc = laws.joined_assoc a b c s.letter_a s.letter_b s.letter_c (omega arith)
      ∙ join_turned a b c s.letter_a s.letter_b s.letter_c (omega arith) (L.joined b c) refl in
      let eab : joined_triple L (L.joined a b) f u v (c ++ w) ≡ joined_triple L (L.joined b a) f v (c ++ w) u =
      joined_triple-turn k ih (L.joined a b) f u v (c ++ w) s.covers_u s.covers_v cw (omega arith) (omega arith)
      ∙ ap (λ o. joined_triple L o f v (c ++ w) u) jab in
      let eac : joined_triple L (L.joined a c) f u (b ++ v) w ≡ joined_triple L (L.joined c a) f (b ++ v) w u =
      joined_triple-turn k ih (L.joined a c) f u (b ++ v) w s.covers_u cv s.covers_w (omega arith) (omega arith)
      ∙ ap (λ o. joined_triple L o f (b ++ v) w u) jac in
      let ebc : joined_triple L (L.joined b c) f (a ++ u) v w ≡ joined_triple L (L.joined b c) f v w (a ++ u) =
      joined_triple-turn k ih (L.joined b c) f (a ++ u) v w cu s.covers_v s.covers_w (omega arith) (omega arith) in
      let eabc : joined_triple L (option_and_then (λ d. L.joined d c) (L.joined a b)) f u v w
      ≡ joined_triple L (option_and_then (λ d. L.joined d a) (L.joined b c)) f v w u =
      joined_triple-turn k ih _ f u v w s.covers_u s.covers_v s.covers_w (omega arith) (omega arith) ∙ ap (λ o. joined_triple L o f v w u) jabc in
      omega arith

  triple_total-empty_first : (f : Word → ℕ) (v w : Word) → triple_total L f [] v w ≡ product_total L f v w
  unfolding triple_total
  triple_total-empty_first f v w = product_total-empty_left L (λ t. product_total L f t w) v

  triple_total-empty_second : (f : Word → ℕ) (u w : Word) → triple_total L f u [] w ≡ product_total L f u w
  unfolding triple_total
  triple_total-empty_second f u w = product_total-empty_right L (λ t. product_total L f t w) u

  triple_total-empty_third : (f : Word → ℕ) (u v : Word) → triple_total L f u v [] ≡ product_total L f u v
  unfolding triple_total
  triple_total-empty_third f u v i = product_total L (λ t. product_total-empty_right L f t i) u v

  by_three_parts : (P : Word → Word → Word → Type 0) (x : Letter) (u : Word) (y : Letter) (v : Word) (z : Letter) (w : Word) → L.covered (x ∷ u) ≡ true
      → L.covered (y ∷ v) ≡ true → L.covered (z ∷ w) ≡ true → length (x ∷ u) + length (y ∷ v) + length (z ∷ w) ≤ limit
      → ((a u' b v' c w' : Word) → TripleSplit a u' b v' c w' → length a + length u' ≡ length (x ∷ u) → length b + length v' ≡ length (y ∷ v)
      → length c + length w' ≡ length (z ∷ w) → P (a ++ u') (b ++ v') (c ++ w')) → P (x ∷ u) (y ∷ v) (z ∷ w)
  by_three_parts P x u y v z w cu cv cw h show =
      let bu = behind_first limit L laws x u cu (omega arith) in
      let bv = behind_first limit L laws y v cv (omega arith) in
      let bw = behind_first limit L laws z w cw (omega arith) in
      let s : TripleSplit (L.first (x ∷ u)) (rest L (x ∷ u)) (L.first (y ∷ v)) (rest L (y ∷ v)) (L.first (z ∷ w)) (rest L (z ∷ w)) =
      record {
        letter_a = bu.letter;
        letter_b = bv.letter;
        letter_c = bw.letter;
        covers_u = bu.covers;
        covers_v = bv.covers;
        covers_w =
            bw.covers;
        fits = omega arith;
      } in
      let at_parts : P (L.first (x ∷ u) ++ rest L (x ∷ u)) (L.first (y ∷ v) ++ rest L (y ∷ v)) (L.first (z ∷ w) ++ rest L (z ∷ w)) =
      show _ _ _ _ _ _ s (sym bu.length_is) (sym bv.length_is) (sym bw.length_is) in
      subst (λ t. P t (y ∷ v) (z ∷ w)) (sym bu.whole)
      (subst (λ t. P (L.first (x ∷ u) ++ rest L (x ∷ u)) t (z ∷ w)) (sym bv.whole)
      (subst (λ t. P (L.first (x ∷ u) ++ rest L (x ∷ u)) (L.first (y ∷ v) ++ rest L (y ∷ v)) t) (sym bw.whole) at_parts))

  turn_within : (k : ℕ) → TurnsWithin k
  turn_within k f [] v w cu cv cw h hk = triple_total-empty_first f v w ∙ sym (triple_total-empty_third f v w)
  turn_within k f (x ∷ u) [] w cu cv cw h hk =
      triple_total-empty_second f (x ∷ u) w ∙ product_total_comm f (x ∷ u) w cu cw (omega arith) ∙ sym (triple_total-empty_first f w (x ∷ u))
  turn_within k f (x ∷ u) (y ∷ v) [] cu cv cw h hk =
      triple_total-empty_third f (x ∷ u) (y ∷ v) ∙ product_total_comm f (x ∷ u) (y ∷ v) cu cv (omega arith)
      ∙ sym (triple_total-empty_second f (y ∷ v) (x ∷ u))
  turn_within zero f (x ∷ u) (y ∷ v) (z ∷ w) cu cv cw h hk = absurd (omega arith)
  turn_within (suc k) f (x ∷ u) (y ∷ v) (z ∷ w) cu cv cw h hk =
      by_three_parts (λ p q r. triple_total L f p q r ≡ triple_total L f q r p) x u y v z w cu cv cw h
      (λ a u' b v' c w' s nu nv nw. turn_parts k (turn_within k) f a u' b v' c w' s (omega arith))

  pub prod_associates : IsAssociative limit L
  unfolding triple_total product_total
  prod_associates u v w cu cv cw h f =
      let left : total f (flat_map (λ t. prod L t w) (prod L u v)) ≡ triple_total L f u v w = total-flat_map f (λ t. prod L t w) (prod L u v) in
      let turn : triple_total L f u v w ≡ triple_total L f v w u = turn_within (length u + length v + length w) f u v w cu cv cw h (omega arith) in
      let swap : product_total L (λ t. product_total L f u t) v w ≡ product_total L (λ t. product_total L f t u) v w =
      product_total-cong limit L laws _ _ v w cv cw (omega arith) (λ t ct nt. product_total_comm f u t cu ct (omega arith)) in
      let right : total f (flat_map (λ t. prod L u t) (prod L v w)) ≡ product_total L (λ t. product_total L f u t) v w =
      total-flat_map f (λ t. prod L u t) (prod L v w) in
      left ∙ turn ∙ sym swap ∙ sym right

  pub total_turn : (f : Word → ℕ) (u v w : Word) → L.covered u ≡ true → L.covered v ≡ true → L.covered w ≡ true → length u + length v + length w ≤ limit
      → total (λ t. total f (prod L u t)) (prod L v w) ≡ total (λ t. total f (prod L t w)) (prod L u v)
  unfolding product_total
  total_turn f u v w cu cv cw h = sym (total-flat_map f (λ t. prod L u t) (prod L v w)) ∙ sym (prod_associates u v w cu cv cw h f)
      ∙ total-flat_map f (λ t. prod L t w) (prod L u v)
