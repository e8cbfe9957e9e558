-- A word is put together in one way of Lyndon words that do not increase.
use Rattle.std.proofs.Common.{◌≡◌, ℕ, ◌<◌, zero, suc, ◌⊎◌, inl, inr, List, [], ◌∷◌, ◌++◌, length, refl, sym, ap, subst, ◌∙◌, arith, length-append, append_assoc}
use Rattle.std.proofs.lemmas.List.{append-nil}
use Rattle.zeta_model.specs.declared.Letter.{Letter}
use Rattle.lyndon_words.specs.Lyndon.{IsLyndon, AllLyndon, IsAtLeast, Falls, joined, IsFactors}
use Rattle.lyndon_words.proofs.WordLess.{Precedes, Split, before, precedes, precedes-trans, precedes-longer, split, nothing_left}

-- the last piece of a front of words put together: l is not before it
record Piece (l mid : List Letter) : Type 0 where
  front : List Letter
  piece : List Letter
  is : mid ≡ front ++ piece
  some : 0 < length piece
  low : ¬ (Precedes l piece)

-- l is not before a front of a word that it is not before
front-low : (l mid more : List Letter) → ¬ (Precedes l (mid ++ more)) → ¬ (Precedes l mid)
front-low l mid [] low p = low (subst (Precedes l) (sym (append-nil mid)) p)
front-low l mid (x ∷ xs) low p = low (precedes-trans l mid (mid ++ (x ∷ xs)) p (precedes-longer mid (x ∷ xs) (omega arith)))

last-piece : (l : List Letter) (ls : List (List Letter)) (mid rest : List Letter) → IsAtLeast l ls → joined ls ≡ mid ++ rest → 0 < length mid → Piece l mid
last-piece l [] mid rest none e h = absurd (omega (arith, ap length e, length-append mid rest))
last-piece l (k ∷ ks) mid rest none e h = go (λ m f g. last-piece l ks m rest none.1 f g) (split k (joined ks) mid rest e)
  where
    low : ¬ (Precedes l k)
    low p = none.0 (before l k p)

    onto : ((m : List Letter) → joined ks ≡ m ++ rest → 0 < length m → Piece l m) → (n : ℕ) → (m : List Letter) → length m ≡ n → mid ≡ k ++ m
        → joined ks ≡ m ++ rest → Piece l mid
    onto again zero m z is e = record {
      front = [];
      piece = mid;
      is = refl;
      some = h;
      low = subst (λ t. ¬ (Precedes l t)) (sym (is ∙ ap (λ t. k ++ t) (nothing_left m z) ∙ append-nil k)) low;
    }
    onto again (suc n) m z is e =
        let p : Piece l m = again m e (omega arith) in
        record { front = k ++ p.front; piece = p.piece; is = is ∙ ap (λ t. k ++ t) p.is ∙ sym (append_assoc k p.front p.piece); some = p.some; low = p.low }

    go : ((m : List Letter) → joined ks ≡ m ++ rest → 0 < length m → Piece l m) → Split k (joined ks) mid rest ⊎ Split mid rest k (joined ks) → Piece l mid
    go again (inl s) = onto again (length s.middle) s.middle refl s.first s.second
    go again (inr s) = record { front = []; piece = mid; is = refl; some = h; low = front-low l mid s.middle (subst (λ t. ¬ (Precedes l t)) s.first low) }

-- no Lyndon word begins with l and goes on into words that l is not before
too_long : (l m mid rest : List Letter) (ls : List (List Letter)) → 0 < length l → IsLyndon m → m ≡ l ++ mid → 0 < length mid → IsAtLeast l ls
    → joined ls ≡ mid ++ rest → ⊥
too_long l m mid rest ls hl lm is h none e =
    let p : Piece l mid = last-piece l ls mid rest none e h in
    let whole : m ≡ (l ++ p.front) ++ p.piece = is ∙ ap (λ t. l ++ t) p.is ∙ sym (append_assoc l p.front p.piece) in
    p.low (
    precedes-trans l m p.piece
    (subst (Precedes l) (sym is) (precedes-longer l mid h))
    (precedes m p.piece (lm.least (l ++ p.front) p.piece whole (omega (arith, length-append l p.front)) p.some))
    )

one_way : (ls ms : List (List Letter)) → AllLyndon ls → AllLyndon ms → Falls ls → Falls ms → joined ls ≡ joined ms → ls ≡ ms
one_way [] [] al am fl fm e = refl
one_way [] (m ∷ ms) al am fl fm e = absurd (omega (arith, ap length e, length-append m (joined ms), am.0.nonempty))
one_way (l ∷ ls) [] al am fl fm e = absurd (omega (arith, ap length e, length-append l (joined ls), al.0.nonempty))
one_way (l ∷ ls) (m ∷ ms) al am fl fm e = go (λ f. one_way ls ms al.1 am.1 fl.1 fm.1 f) (split l (joined ls) m (joined ms) e)
  where
    left : (joined ls ≡ joined ms → ls ≡ ms) → (n : ℕ) → (mid : List Letter) → length mid ≡ n → m ≡ l ++ mid → joined ls ≡ mid ++ joined ms
        → l ∷ ls ≡ m ∷ ms
    left again zero mid z is e =
        let none : mid ≡ [] = nothing_left mid z in
        let same : l ≡ m = sym (is ∙ ap (λ t. l ++ t) none ∙ append-nil l) in
        let rest : ls ≡ ms = again (e ∙ ap (λ t. t ++ joined ms) none) in
        λ i. same i ∷ rest i
    left again (suc n) mid z is e = absurd (too_long l m mid (joined ms) ls al.0.nonempty am.0 is (omega arith) fl.0 e)

    right : (joined ls ≡ joined ms → ls ≡ ms) → (n : ℕ) → (mid : List Letter) → length mid ≡ n → l ≡ m ++ mid → joined ms ≡ mid ++ joined ls
        → l ∷ ls ≡ m ∷ ms
    right again zero mid z is e =
        let none : mid ≡ [] = nothing_left mid z in
        let same : l ≡ m = is ∙ ap (λ t. m ++ t) none ∙ append-nil m in
        let rest : ls ≡ ms = again (sym (e ∙ ap (λ t. t ++ joined ls) none)) in
        λ i. same i ∷ rest i
    right again (suc n) mid z is e = absurd (too_long m l mid (joined ls) ms am.0.nonempty al.0 is (omega arith) fm.0 e)

    go : (joined ls ≡ joined ms → ls ≡ ms) → Split l (joined ls) m (joined ms) ⊎ Split m (joined ms) l (joined ls) → l ∷ ls ≡ m ∷ ms
    go again (inl s) = left again (length s.middle) s.middle refl s.first s.second
    go again (inr s) = right again (length s.middle) s.middle refl s.first s.second

pub IsFactors-unique : (w : List Letter) (us vs : List (List Letter)) → IsFactors w us → IsFactors w vs → us ≡ vs
IsFactors-unique w us vs f g = one_way us vs f.lyndon g.lyndon f.falls g.falls (f.whole ∙ sym g.whole)
