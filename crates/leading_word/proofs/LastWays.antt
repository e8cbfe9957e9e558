-- In how many ways a Lyndon word l is shuffled into a word P to give P l: what a front of P adds.
use Rattle.std.proofs.Common.{◌≡◌, ℕ, zero, suc, ◌+◌, ◌<◌, inl, inr, List, [], ◌∷◌, ◌++◌, length, refl, sym, ap, subst, ◌∙◌, arith, length-append, append_assoc}
use Rattle.std.proofs.lemmas.List.{append-nil}
use Rattle.zeta_model.specs.declared.Letter.{Letter}
use Rattle.lyndon_words.specs.Lyndon.{IsLyndon}
use Rattle.leading_word.proofs.AtMosts.{AtMost, at_most-refl, at_most-same, at_most-longer, at_most-back, not_both}
use Rattle.leading_word.proofs.Mixes.{Mix, Better, Under, only_left, exchange, greatest_mix, under-append, under-back, under-first}
use Rattle.leading_word.proofs.Ways.{behind_letter, ways, behind_letter-none, behind_letter-same, ways-none, ways-left}
use Rattle.leading_word.proofs.Above.{Above, above-first, above-back, above-under, no_turn, above-suffix, under-lyndon}

abbrev Word : Type 0
Word = List Letter

-- y q l is a mix of y q and l where the first letter comes from l
abbrev pub LetterFirst : Word → Letter → Word → Type 0
LetterFirst l y q = (r : Word) × (l ≡ y ∷ r) × Mix (y ∷ q) r (q ++ l)

-- the letters c of l are taken, and the next one comes from the other word
from_other : (l : Word) (b : Letter) (s c : Word) (y : Letter) (q r : Word) → l ≡ c ++ b ∷ s → 0 < length c → Under l (c ++ y ∷ q) → c ++ y ∷ q ≡ y ∷ r
    → Mix r (b ∷ s) (q ++ l) → LetterFirst l y q
from_other l b s [] y q r e hc u f m = absurd (omega arith)
from_other l b s (x ∷ c) y q r e hc u f m =
    let head : x ≡ y = cc in
    let rest : r ≡ c ++ y ∷ q = cc in
    let low : AtMost (b ∷ s) (y ∷ q) =
    at_most-back (x ∷ c) (b ∷ s) (y ∷ q) (subst (λ t. AtMost t ((x ∷ c) ++ y ∷ q)) e (under-first l ((x ∷ c) ++ y ∷ q) (omega arith) u)) in
    let better : Better (y ∷ q) (c ++ b ∷ s) (q ++ l) = exchange (q ++ l) c (y ∷ q) (b ∷ s) low (subst (λ t. Mix t (b ∷ s) (q ++ l)) rest m) in
    let shape : l ≡ y ∷ (c ++ b ∷ s) = e ∙ (λ i. head i ∷ (c ++ b ∷ s)) in
    let most : AtMost (y ∷ better.word) (y ∷ (q ++ l)) =
    greatest_mix (y ∷ q) l (y ∷ better.word) (under-back l (x ∷ c) (y ∷ q) u) (inr (c ++ b ∷ s, shape, better.mix)) in
    let same : better.word ≡ q ++ l = at_most-same better.word (q ++ l) (at_most-back (y ∷ []) better.word (q ++ l) most) better.better in
    (c ++ b ∷ s, shape, subst (Mix (y ∷ q) (c ++ b ∷ s)) same better.mix)

module _ (l : Word) (lyndon : IsLyndon l) where
  abbrev Refused : ℕ → Type 0
  Refused n = (y : Letter) (t p : Word) → length t < n → Above l (y ∷ t) → Under l p → LetterFirst l y (t ++ p) → ⊥

  -- the letters c of l are taken, and the word goes on as t p l
  taken : (n : ℕ) → Refused n → (s c t p : Word) → length t < suc n → l ≡ c ++ s → 0 < length c → Above l (c ++ t) → Under l p
      → Mix (c ++ (t ++ p)) s ((t ++ p) ++ l) → ⊥
  taken n shorter s c [] p h e hc a u m =
      let low : AtMost c l = subst (AtMost c) (sym e) (at_most-longer c c s (at_most-refl c)) in
      not_both l c (above-first l c hc (subst (Above l) (append-nil c) a)) low
  taken n shorter [] c (y ∷ t) p h e hc a u m =
      let same : c ≡ l = sym (e ∙ append-nil c) in
      let turned : (y ∷ t) ++ (p ++ l) ≡ l ++ ((y ∷ t) ++ p) =
      sym (append_assoc (y ∷ t) p l) ∙ only_left (c ++ ((y ∷ t) ++ p)) (((y ∷ t) ++ p) ++ l) m ∙ ap (λ w. w ++ ((y ∷ t) ++ p)) same in
      no_turn (suc (length (y ∷ t))) l (y ∷ t) p (p ++ l) (omega arith) lyndon.nonempty (omega arith) (above-back l c (y ∷ t) a) turned
  taken n shorter (b ∷ s) c (y ∷ t) p h e hc a u (inr (r, f, m)) =
      let head : b ≡ y = cc in
      let rest : s ≡ r = cc in
      taken n shorter s (c ++ y ∷ []) t p (omega arith) (e ∙ ap (λ w. c ++ w ∷ s) head
      ∙ sym (append_assoc c (y ∷ []) s)) (omega (arith, length-append c (y ∷ [])))
      (subst (Above l) (sym (append_assoc c (y ∷ []) t)) a) u
      (subst (λ w. Mix w s ((t ++ p) ++ l)) (sym (append_assoc c (y ∷ []) (t ++ p))) (subst (λ w. Mix (c ++ y ∷ (t ++ p)) w ((t ++ p) ++ l)) (sym rest) m))
  taken n shorter (b ∷ s) c (y ∷ t) p h e hc a u (inl (r, f, m)) =
      let under : Under l (c ++ y ∷ (t ++ p)) =
      subst (Under l) (append_assoc c (y ∷ t) p) (under-append l (c ++ y ∷ t) p (above-under l (c ++ y ∷ t) a) u) in
      shorter y t p (omega arith) (above-back l c (y ∷ t) a) u (from_other l b s c y (t ++ p) r e hc under f m)

  refused : (n : ℕ) → Refused n
  refused zero y t p h a u first = absurd (omega arith)
  refused (suc n) y t p h a u (r, e, m) = taken n (refused n) r (y ∷ []) t p h e (omega arith) a u m

  -- the letters of a front t that is above l come before those of l
  not_first : (y : Letter) (t p : Word) → Above l (y ∷ t) → Under l p → LetterFirst l y (t ++ p) → ⊥
  not_first y t p = refused (suc (length t)) y t p (omega arith)

  -- so they are taken in one way
  pub ways-above : (t p : Word) → Above l t → Under l p → ways (t ++ p) l ((t ++ p) ++ l) ≡ ways p l (p ++ l)
  ways-above [] p a u = refl
  ways-above (x ∷ t) p a u =
      let first : behind_letter x (x ∷ (t ++ p)) (λ r. ways r l ((t ++ p) ++ l)) ≡ ways (t ++ p) l ((t ++ p) ++ l) =
      behind_letter-same x x (t ++ p) (λ r. ways r l ((t ++ p) ++ l)) refl in
      let second : behind_letter x l (λ r. ways (x ∷ (t ++ p)) r ((t ++ p) ++ l)) ≡ 0 =
      behind_letter-none x l (λ r. ways (x ∷ (t ++ p)) r ((t ++ p) ++ l))
      (λ r e. ways-none ((t ++ p) ++ l) (x ∷ (t ++ p)) r (λ m. not_first x t p a u (r, e, m)))
      in
      omega (arith, first, second, ways-above t p a.1 u)

  -- the letters c of l are taken before those of another l, which is followed by powers of l: the rest goes on in one way
  one_way_on : (s c p : Word) → l ≡ c ++ s → 0 < length c → Under l p → p ++ l ≡ l ++ p → ways (c ++ (s ++ p)) s ((s ++ p) ++ l) ≡ 1
  one_way_on [] c p e hc u turn = ap (ways (c ++ p) []) (turn ∙ ap (λ w. w ++ p) (e ∙ append-nil c)) ∙ ways-left (c ++ p)
  one_way_on (b ∷ s) c p e hc u turn =
      let under : Under l (c ++ b ∷ (s ++ p)) =
      subst (Under l) (append_assoc c (b ∷ s) p) (subst (λ w. Under l (w ++ p)) e (under-append l l p (under-lyndon l l lyndon (at_most-refl l)) u)) in
      let above : Above l (b ∷ s) = above-suffix l l c (b ∷ s) lyndon (at_most-refl l) e hc in
      let first : behind_letter b (c ++ b ∷ (s ++ p)) (λ r. ways r (b ∷ s) ((s ++ p) ++ l)) ≡ 0 =
      behind_letter-none b (c ++ b ∷ (s ++ p)) (λ r. ways r (b ∷ s) ((s ++ p) ++ l))
      (λ r f. ways-none ((s ++ p) ++ l) r (b ∷ s) (λ m. not_first b s p above u (from_other l b s c b (s ++ p) r e hc under f m)))
      in
      let second : behind_letter b (b ∷ s) (λ r. ways (c ++ b ∷ (s ++ p)) r ((s ++ p) ++ l)) ≡ ways (c ++ b ∷ (s ++ p)) s ((s ++ p) ++ l) =
      behind_letter-same b b s (λ r. ways (c ++ b ∷ (s ++ p)) r ((s ++ p) ++ l)) refl in
      let on : ways ((c ++ b ∷ []) ++ (s ++ p)) s ((s ++ p) ++ l) ≡ 1 =
      one_way_on s (c ++ b ∷ []) p (e ∙ sym (append_assoc c (b ∷ []) s)) (omega (arith, length-append c (b ∷ []))) u turn in
      omega (arith, first, second, ap (λ w. ways w s ((s ++ p) ++ l)) (append_assoc c (b ∷ []) (s ++ p)), on)

  -- another l in front of powers of l gives one way more
  pub ways-same : (t p : Word) → l ≡ t → Under l p → p ++ l ≡ l ++ p → ways (t ++ p) l ((t ++ p) ++ l) ≡ ways p l (p ++ l) + 1
  ways-same [] p e u turn = absurd (omega (arith, lyndon.nonempty, ap length e))
  ways-same (x ∷ t) p e u turn =
      let above : Above l t = above-suffix l l (x ∷ []) t lyndon (at_most-refl l) e (omega arith) in
      let first : behind_letter x (x ∷ (t ++ p)) (λ r. ways r l ((t ++ p) ++ l)) ≡ ways (t ++ p) l ((t ++ p) ++ l) =
      behind_letter-same x x (t ++ p) (λ r. ways r l ((t ++ p) ++ l)) refl in
      let second : behind_letter x l (λ r. ways (x ∷ (t ++ p)) r ((t ++ p) ++ l)) ≡ 1 =
      ap (λ w. behind_letter x w (λ r. ways (x ∷ (t ++ p)) r ((t ++ p) ++ l))) e
      ∙ behind_letter-same x x t (λ r. ways (x ∷ (t ++ p)) r ((t ++ p) ++ l)) refl ∙ one_way_on t (x ∷ []) p e (omega arith) u turn
      in
      omega (arith, first, second, ways-above t p above u)
