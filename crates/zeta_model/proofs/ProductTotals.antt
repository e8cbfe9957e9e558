-- The sum of a function over a product: the three groups of a product, and functions that agree on covered words.
use Rattle.std.proofs.Common.{◌≡◌, ℕ, zero, suc, ◌+◌, ◌≤◌, ◌<◌, true, Option, Some, None, List, [], ◌∷◌, ◌++◌, length, drop, refl, sym, ap, subst, ◌∙◌, arith, length-append}
use Rattle.std.proofs.Math.Seq.{drop-append_seam}
use Rattle.zeta_model.specs.declared.Letter.{Letter}
use Rattle.zeta_model.specs.Product.{Alphabet, IsLetter, AlphabetLaws, rest, behind, prod_within, prod, total}
use Rattle.zeta_model.proofs.Totals.{total-append, total-map, total-plus, total-zero}

abbrev Word : Type 0
Word = List Letter

-- the sum of f over a product
unfoldable pub product_total : Alphabet → (Word → ℕ) → Word → Word → ℕ
product_total L f u v = total f (prod L u v)

-- the sum of f over a product behind a word, where there is one
unfoldable pub joined_total : Alphabet → Option Word → (Word → ℕ) → Word → Word → ℕ
joined_total L None f u v = 0
joined_total L (Some c) f u v = product_total L (λ w. f (c ++ w)) u v

pub total-behind : (L : Alphabet) (o : Option Word) (f : Word → ℕ) (u v : Word) → total f (behind o (prod L u v)) ≡ joined_total L o f u v
unfolding joined_total product_total
total-behind L None f u v = refl
total-behind L (Some c) f u v = total-map f (λ w. c ++ w) (prod L u v)

pub product_total-empty_left : (L : Alphabet) (f : Word → ℕ) (v : Word) → product_total L f [] v ≡ f v
unfolding product_total
product_total-empty_left L f v = omega arith

pub product_total-empty_right : (L : Alphabet) (f : Word → ℕ) (u : Word) → product_total L f u [] ≡ f u
unfolding product_total
product_total-empty_right L f [] = omega arith
product_total-empty_right L f (x ∷ u) = omega arith

pub product_total-plus : (L : Alphabet) (f g : Word → ℕ) (u v : Word) → product_total L (λ w. f w + g w) u v ≡ product_total L f u v + product_total L g u v
unfolding product_total
product_total-plus L f g u v = total-plus f g (prod L u v)

pub product_total-zero : (L : Alphabet) (u v : Word) → product_total L (λ w. 0) u v ≡ 0
unfolding product_total
product_total-zero L u v = total-zero (prod L u v)

same_groups : (L : Alphabet) {a a' b b' : Word} {P P' Q Q' R R' : List Word} → a ≡ a' → b ≡ b' → P ≡ P' → Q ≡ Q' → R ≡ R'
    → behind (Some a) P ++ behind (Some b) Q ++ behind (L.joined a b) R ≡ behind (Some a') P' ++ behind (Some b') Q' ++ behind (L.joined a' b') R'
same_groups L ea eb eP eQ eR i = behind (Some (ea i)) (eP i) ++ behind (Some (eb i)) (eQ i) ++ behind (L.joined (ea i) (eb i)) (eR i)

module _ (limit : ℕ) (L : Alphabet) (laws : AlphabetLaws limit L) where
  length-rest : (w : Word) → L.covered w ≡ true → 0 < length w → length w ≤ limit
      → (length (rest L w) < length w) × (length (L.first w) + length (rest L w) ≡ length w)
  length-rest w c p h =
      let l : 0 < length (L.first w) = (laws.first_is_letter w c p h).some in
      let e : length w ≡ length (L.first w ++ rest L w) = ap length (laws.first_begins w c p h) in
      let k : length (L.first w ++ rest L w) ≡ length (L.first w) + length (rest L w) = length-append (L.first w) (rest L w) in
      (omega arith, omega arith)

  -- more steps give the same words
  pub prod_within-more : (n m : ℕ) (u v : Word) → L.covered u ≡ true → L.covered v ≡ true → length u + length v ≤ limit → length u + length v ≤ n
      → length u + length v ≤ m → prod_within L n u v ≡ prod_within L m u v
  prod_within-more n m [] v cu cv h p q = refl
  prod_within-more n m (x ∷ u) [] cu cv h p q = refl
  prod_within-more zero m (x ∷ u) (y ∷ v) cu cv h p q = absurd (omega arith)
  prod_within-more (suc n) zero (x ∷ u) (y ∷ v) cu cv h p q = absurd (omega arith)
  prod_within-more (suc n) (suc m) (x ∷ u) (y ∷ v) cu cv h p q =
      let ru = length-rest (x ∷ u) cu (omega arith) (omega arith) in
      let rv = length-rest (y ∷ v) cv (omega arith) (omega arith) in
      let cu' = laws.covers_rest (x ∷ u) cu (omega arith) (omega arith) in
      let cv' = laws.covers_rest (y ∷ v) cv (omega arith) (omega arith) in
      let e1 = prod_within-more n m (rest L (x ∷ u)) (y ∷ v) cu' cv (omega arith) (omega arith) (omega arith) in
      let e2 = prod_within-more n m (x ∷ u) (rest L (y ∷ v)) cu cv' (omega arith) (omega arith) (omega arith) in
      let e3 = prod_within-more n m (rest L (x ∷ u)) (rest L (y ∷ v)) cu' cv' (omega arith) (omega arith) (omega arith) in
      cc

  -- the three groups of the product, by words that are split behind their first letters
  pub record Split (a u b v : Word) : Type 0 where
    pub letter_a : IsLetter L a
    pub letter_b : IsLetter L b
    pub covers_u : L.covered u ≡ true
    pub covers_v : L.covered v ≡ true
    pub fits : length a + length u + (length b + length v) ≤ limit

  groups : (a u b v : Word) → List Word
  groups a u b v =
      behind (Some a) (prod L u (b ++ v))
      ++ behind (Some b) (prod L (a ++ u) v)
      ++ behind (L.joined a b) (prod L u v)

  prod-split_at : (x : Letter) (a u : Word) (y : Letter) (b v : Word) → Split (x ∷ a) u (y ∷ b) v
      → prod L ((x ∷ a) ++ u) ((y ∷ b) ++ v) ≡ groups (x ∷ a) u (y ∷ b) v
  unfolding groups
  prod-split_at x a u y b v s =
      let lu : length ((x ∷ a) ++ u) ≡ length (x ∷ a) + length u = length-append (x ∷ a) u in
      let lv : length ((y ∷ b) ++ v) ≡ length (y ∷ b) + length v = length-append (y ∷ b) v in
      let fits = s.fits in
      let cu : L.covered ((x ∷ a) ++ u) ≡ true = laws.covers_more (x ∷ a) u s.letter_a s.covers_u (omega arith) in
      let cv : L.covered ((y ∷ b) ++ v) ≡ true = laws.covers_more (y ∷ b) v s.letter_b s.covers_v (omega arith) in
      let fu : L.first ((x ∷ a) ++ u) ≡ x ∷ a = laws.first_of_more (x ∷ a) u s.letter_a s.covers_u (omega arith) in
      let fv : L.first ((y ∷ b) ++ v) ≡ y ∷ b = laws.first_of_more (y ∷ b) v s.letter_b s.covers_v (omega arith) in
      let ru : rest L ((x ∷ a) ++ u) ≡ u = ap (λ t. drop (length t) ((x ∷ a) ++ u)) fu ∙ drop-append_seam (x ∷ a) u in
      let rv : rest L ((y ∷ b) ++ v) ≡ v = ap (λ t. drop (length t) ((y ∷ b) ++ v)) fv ∙ drop-append_seam (y ∷ b) v in
      let n : ℕ = length ((x ∷ a) ++ u) + length ((y ∷ b) ++ v) in
      let e0 : prod L ((x ∷ a) ++ u) ((y ∷ b) ++ v) ≡ prod_within L (suc n) ((x ∷ a) ++ u) ((y ∷ b) ++ v) =
      prod_within-more n (suc n) _ _ cu cv (omega arith) (omega arith) (omega arith) in
      let e1 : prod_within L n u ((y ∷ b) ++ v) ≡ prod L u ((y ∷ b) ++ v) =
      prod_within-more n (length u + length ((y ∷ b) ++ v)) u ((y ∷ b) ++ v) s.covers_u cv (omega arith) (omega arith) (omega arith) in
      let e2 : prod_within L n ((x ∷ a) ++ u) v ≡ prod L ((x ∷ a) ++ u) v =
      prod_within-more n (length ((x ∷ a) ++ u) + length v) ((x ∷ a) ++ u) v cu s.covers_v (omega arith) (omega arith) (omega arith) in
      let e3 : prod_within L n u v ≡ prod L u v =
      prod_within-more n (length u + length v) u v s.covers_u s.covers_v (omega arith) (omega arith) (omega arith) in
      let step : prod_within L (suc n) ((x ∷ a) ++ u) ((y ∷ b) ++ v)
      ≡ behind (Some (L.first ((x ∷ a) ++ u))) (prod_within L n (rest L ((x ∷ a) ++ u)) ((y ∷ b) ++ v)) ++ behind (Some (L.first ((y ∷ b) ++ v)))
      (prod_within L n ((x ∷ a) ++ u) (rest L ((y ∷ b) ++ v))) ++ behind (L.joined (L.first ((x ∷ a) ++ u)) (L.first ((y ∷ b) ++ v)))
      (prod_within L n (rest L ((x ∷ a) ++ u)) (rest L ((y ∷ b) ++ v))) = refl in
      e0 ∙ step ∙ same_groups L fu fv (ap (λ t. prod_within L n t ((y ∷ b) ++ v)) ru ∙ e1) (ap (λ t. prod_within L n ((x ∷ a) ++ u) t) rv
      ∙ e2) ((λ i. prod_within L n (ru i) (rv i)) ∙ e3)

  prod-split : (a u b v : Word) → Split a u b v → prod L (a ++ u) (b ++ v) ≡ groups a u b v
  prod-split [] u b v s = let h = s.letter_a.some in absurd (omega arith)
  prod-split (x ∷ a) u [] v s = let h = s.letter_b.some in absurd (omega arith)
  prod-split (x ∷ a) u (y ∷ b) v s = prod-split_at x a u y b v s

  -- the recursion by letters, with no count of steps
  pub prod-letters : (a u b v : Word) → Split a u b v
      → prod L (a ++ u) (b ++ v) ≡ behind (Some a) (prod L u (b ++ v)) ++ behind (Some b) (prod L (a ++ u) v) ++ behind (L.joined a b) (prod L u v)
  unfolding groups
  prod-letters a u b v s = prod-split a u b v s

  pub product_total-split : (f : Word → ℕ) (a u b v : Word) → Split a u b v
      → product_total L f (a ++ u) (b ++ v)
      ≡ product_total L (λ w. f (a ++ w)) u (b ++ v) + product_total L (λ w. f (b ++ w)) (a ++ u) v + joined_total L (L.joined a b) f u v
  unfolding product_total groups joined_total
  product_total-split f a u b v s =
      let ga : List Word = behind (Some a) (prod L u (b ++ v)) in
      let gb : List Word = behind (Some b) (prod L (a ++ u) v) in
      let gj : List Word = behind (L.joined a b) (prod L u v) in
      let e0 : total f (prod L (a ++ u) (b ++ v)) ≡ total f (ga ++ gb ++ gj) = ap (total f) (prod-split a u b v s) in
      let e1 : total f (ga ++ gb ++ gj) ≡ total f (ga ++ gb) + total f gj = total-append f (ga ++ gb) gj in
      let e2 : total f (ga ++ gb) ≡ total f ga + total f gb = total-append f ga gb in
      let ea : total f ga ≡ joined_total L (Some a) f u (b ++ v) = total-behind L (Some a) f u (b ++ v) in
      let eb : total f gb ≡ joined_total L (Some b) f (a ++ u) v = total-behind L (Some b) f (a ++ u) v in
      let ej : total f gj ≡ joined_total L (L.joined a b) f u v = total-behind L (L.joined a b) f u v in
      cc

  -- a covered word is empty, or a letter before a shorter covered word
  pub record Behind (a u w : Word) : Type 0 where
    pub letter : IsLetter L a
    pub covers : L.covered u ≡ true
    pub whole : w ≡ a ++ u
    pub length_is : length w ≡ length a + length u

  pub behind_first : (x : Letter) (w : Word) → L.covered (x ∷ w) ≡ true → length (x ∷ w) ≤ limit → Behind (L.first (x ∷ w)) (rest L (x ∷ w)) (x ∷ w)
  behind_first x w c h = record {
    letter = laws.first_is_letter (x ∷ w) c (omega arith) h;
    covers = laws.covers_rest (x ∷ w) c (omega arith) h;
    whole = laws.first_begins (x ∷ w) c (omega arith) h;
    length_is = sym (length-rest (x ∷ w) c (omega arith) h).1;
  }

  -- a claim on two words that are not empty may be shown of words split behind their first letters
  pub by_parts : (P : Word → Word → Type 0) (x : Letter) (u : Word) (y : Letter) (v : Word) → L.covered (x ∷ u) ≡ true → L.covered (y ∷ v) ≡ true
      → length (x ∷ u) + length (y ∷ v) ≤ limit
      → ((a u' b v' : Word) → Split a u' b v' → length a + length u' ≡ length (x ∷ u) → length b + length v' ≡ length (y ∷ v) → P (a ++ u') (b ++ v'))
      → P (x ∷ u) (y ∷ v)
  by_parts P x u y v cu cv h show =
      let bu = behind_first x u cu (omega arith) in
      let bv = behind_first y v cv (omega arith) in
      let s : Split (L.first (x ∷ u)) (rest L (x ∷ u)) (L.first (y ∷ v)) (rest L (y ∷ v)) =
      record { letter_a = bu.letter; letter_b = bv.letter; covers_u = bu.covers; covers_v = bv.covers; fits = omega arith } in
      let at_parts : P (L.first (x ∷ u) ++ rest L (x ∷ u)) (L.first (y ∷ v) ++ rest L (y ∷ v)) = show _ _ _ _ s (sym bu.length_is) (sym bv.length_is) in
      subst (λ t. P t (y ∷ v)) (sym bu.whole) (subst (λ t. P (L.first (x ∷ u) ++ rest L (x ∷ u)) t) (sym bv.whole) at_parts)

  -- f and g are equal on the covered words of n letters
  abbrev pub Alike : ℕ → (Word → ℕ) → (Word → ℕ) → Type 0
  Alike n f g = (w : Word) → L.covered w ≡ true → length w ≡ n → f w ≡ g w

  abbrev AgreesWithin : ℕ → Type 0
  AgreesWithin k = (f g : Word → ℕ) (u v : Word) → L.covered u ≡ true → L.covered v ≡ true → length u + length v ≤ limit → length u + length v ≤ k
      → Alike (length u + length v) f g → product_total L f u v ≡ product_total L g u v

  Alike-behind : (f g : Word → ℕ) (c : Word) (n m : ℕ) → IsLetter L c → length c + n ≤ limit → length c + n ≡ m → Alike m f g
      → Alike n (λ w. f (c ++ w)) (λ w. g (c ++ w))
  Alike-behind f g c n m lc h p e w cw hw = e (c ++ w) (laws.covers_more c w lc cw (omega arith)) (omega (arith, length-append c w))

  joined_total-cong : (k : ℕ) → AgreesWithin k → (f g : Word → ℕ) (a u b v : Word) → Split a u b v → length a + length u + (length b + length v) ≤ suc k
      → Alike (length a + length u + (length b + length v)) f g → (o : Option Word) → L.joined a b ≡ o → joined_total L o f u v ≡ joined_total L o g u v
  unfolding joined_total
  joined_total-cong k ih f g a u b v s hk e None is = refl
  joined_total-cong k ih f g a u b v s hk e (Some c) is =
      let fits = s.fits in
      let la = s.letter_a.some in
      let lc : IsLetter L c = laws.joined_is_letter a b c s.letter_a s.letter_b (omega arith) is in
      let n : length c ≡ length a + length b = laws.joined_length a b c s.letter_a s.letter_b (omega arith) is in
      ih _ _ u v s.covers_u s.covers_v (omega arith) (omega arith) (Alike-behind f g c (length u + length v) _ lc (omega arith) (omega arith) e)

  cong_parts : (k : ℕ) → AgreesWithin k → (f g : Word → ℕ) (a u b v : Word) → Split a u b v → length a + length u + (length b + length v) ≤ suc k
      → Alike (length a + length u + (length b + length v)) f g → product_total L f (a ++ u) (b ++ v) ≡ product_total L g (a ++ u) (b ++ v)
  cong_parts k ih f g a u b v s hk e =
      let fits = s.fits in
      let la = s.letter_a.some in
      let lb = s.letter_b.some in
      let nu = length-append a u in
      let nv = length-append b v in
      let cu = laws.covers_more a u s.letter_a s.covers_u (omega arith) in
      let cv = laws.covers_more b v s.letter_b s.covers_v (omega arith) in
      let ea = ih (λ w. f (a ++ w)) (λ w. g (a ++ w)) u (b ++ v) s.covers_u cv (omega arith) (omega arith)
      (Alike-behind f g a (length u + length (b ++ v)) _ s.letter_a (omega arith) (omega arith) e) in
      let eb = ih (λ w. f (b ++ w)) (λ w. g (b ++ w)) (a ++ u) v cu s.covers_v (omega arith) (omega arith)
      (Alike-behind f g b (length (a ++ u) + length v) _ s.letter_b (omega arith) (omega arith) e) in
      let ej = joined_total-cong k ih f g a u b v s hk e (L.joined a b) refl in
      let sf = product_total-split f a u b v s in
      let sg = product_total-split g a u b v s in
      omega arith

  cong_within : (k : ℕ) → AgreesWithin k
  cong_within k f g [] v cu cv h hk e = product_total-empty_left L f v ∙ e v cv (omega arith) ∙ sym (product_total-empty_left L g v)
  cong_within k f g (x ∷ u) [] cu cv h hk e =
      product_total-empty_right L f (x ∷ u) ∙ e (x ∷ u) cu (omega arith) ∙ sym (product_total-empty_right L g (x ∷ u))
  cong_within zero f g (x ∷ u) (y ∷ v) cu cv h hk e = absurd (omega arith)
  cong_within (suc k) f g (x ∷ u) (y ∷ v) cu cv h hk e =
      by_parts (λ p q. product_total L f p q ≡ product_total L g p q) x u y v cu cv h
      (λ a u' b v' s nu nv. cong_parts k (cong_within k) f g a u' b v' s (omega arith) (λ w c n. e w c (omega arith)))

  pub product_total-cong : (f g : Word → ℕ) (u v : Word) → L.covered u ≡ true → L.covered v ≡ true → length u + length v ≤ limit
      → Alike (length u + length v) f g → product_total L f u v ≡ product_total L g u v
  product_total-cong f g u v cu cv h e = cong_within (length u + length v) f g u v cu cv h (omega arith) e

  -- one step of the recursion on the first letters, as sums
  pub total_step : (f : Word → ℕ) (u v : Word) → L.covered u ≡ true → L.covered v ≡ true → 0 < length u → 0 < length v → length u + length v ≤ limit
      → total f (prod L u v) ≡ total (λ w. f (L.first u ++ w)) (prod L (rest L u) v) + total (λ w. f (L.first v ++ w)) (prod L u (rest L v)) + total f
      (behind (L.joined (L.first u) (L.first v)) (prod L (rest L u) (rest L v)))
  unfolding product_total
  total_step f [] v cu cv pu pv h = absurd (omega arith)
  total_step f (x ∷ u) [] cu cv pu pv h = absurd (omega arith)
  total_step f (x ∷ u) (y ∷ v) cu cv pu pv h =
      let bu = behind_first x u cu (omega arith) in
      let bv = behind_first y v cv (omega arith) in
      let s : Split (L.first (x ∷ u)) (rest L (x ∷ u)) (L.first (y ∷ v)) (rest L (y ∷ v)) =
      record { letter_a = bu.letter; letter_b = bv.letter; covers_u = bu.covers; covers_v = bv.covers; fits = omega arith } in
      let whole = product_total-split f _ _ _ _ s in
      let left : total f (prod L (x ∷ u) (y ∷ v)) ≡ total f (prod L (L.first (x ∷ u) ++ rest L (x ∷ u)) (L.first (y ∷ v) ++ rest L (y ∷ v))) =
      (λ i. total f (prod L (bu.whole i) (bv.whole i))) in
      let one : total (λ w. f (L.first (x ∷ u) ++ w)) (prod L (rest L (x ∷ u)) (L.first (y ∷ v) ++ rest L (y ∷ v)))
      ≡ total (λ w. f (L.first (x ∷ u) ++ w)) (prod L (rest L (x ∷ u)) (y ∷ v)) =
      (λ i. total (λ w. f (L.first (x ∷ u) ++ w)) (prod L (rest L (x ∷ u)) (sym bv.whole i))) in
      let two : total (λ w. f (L.first (y ∷ v) ++ w)) (prod L (L.first (x ∷ u) ++ rest L (x ∷ u)) (rest L (y ∷ v)))
      ≡ total (λ w. f (L.first (y ∷ v) ++ w)) (prod L (x ∷ u) (rest L (y ∷ v))) =
      (λ i. total (λ w. f (L.first (y ∷ v) ++ w)) (prod L (sym bu.whole i) (rest L (y ∷ v)))) in
      let three = total-behind L (L.joined (L.first (x ∷ u)) (L.first (y ∷ v))) f (rest L (x ∷ u)) (rest L (y ∷ v)) in
      left ∙ whole ∙ (λ i. one i + two i + sym three i)

  pub first_shorter : (w : Word) → L.covered w ≡ true → 0 < length w → length w ≤ limit
      → (0 < length (L.first w)) × (length (L.first w) + length (rest L w) ≡ length w)
  first_shorter w c p h = ((laws.first_is_letter w c p h).some, (length-rest w c p h).1)

  pub total_cong : (f g : Word → ℕ) (u v : Word) → L.covered u ≡ true → L.covered v ≡ true → length u + length v ≤ limit → Alike (length u + length v) f g
      → total f (prod L u v) ≡ total g (prod L u v)
  unfolding product_total
  total_cong f g u v cu cv h e = product_total-cong f g u v cu cv h e
