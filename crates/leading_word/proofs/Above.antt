-- Words all of whose nonempty suffixes are greater than l.
use Rattle.std.proofs.Common.{◌≡◌, ℕ, zero, suc, ◌<◌, ◌⊎◌, inl, inr, List, [], ◌∷◌, ◌++◌, length, refl, sym, ap, subst, ◌∙◌, arith, length-append, append_assoc}
use Rattle.std.proofs.lemmas.List.{append-nil}
use Rattle.zeta_model.specs.declared.Letter.{Letter}
use Rattle.lyndon_words.specs.Lyndon.{IsLyndon}
use Rattle.lyndon_words.proofs.WordLess.{Precedes, Split, precedes, split}
use Rattle.leading_word.proofs.AtMosts.{AtMost, at_most-refl, at_most-longer, at_most-precedes, precedes-at_most, not_both}
use Rattle.leading_word.proofs.Mixes.{Under}

abbrev Word : Type 0
Word = List Letter

-- l is before every nonempty suffix of t
abbrev pub Above : Word → Word → Type 0
Above l [] = Unit {0}
Above l (a ∷ t) = Precedes l (a ∷ t) × Above l t

pub above-first : (l t : Word) → 0 < length t → Above l t → Precedes l t
above-first l [] h a = absurd (omega arith)
above-first l (x ∷ t) h a = a.0

pub above-back : (l c t : Word) → Above l (c ++ t) → Above l t
above-back l [] t a = a
above-back l (x ∷ c) t a = above-back l c t a.1

pub above-under : (l t : Word) → Above l t → Under l t
above-under l [] a = tt
above-under l (x ∷ t) a = (precedes-at_most l (x ∷ t) a.0, above-under l t a.1)

-- such a word t does not begin l t p
pub no_turn : (n : ℕ) (l t p rest : Word) → length t < n → 0 < length l → 0 < length t → Above l t → t ++ rest ≡ l ++ (t ++ p) → ⊥
no_turn zero l t p rest h hl ht a e = absurd (omega arith)
no_turn (suc n) l t p rest h hl ht a e = go (λ m. no_turn n l m p rest) (split t rest l (t ++ p) e)
  where
    shorter : ((m : Word) → length m < n → 0 < length l → 0 < length m → Above l m → m ++ rest ≡ l ++ (m ++ p) → ⊥) → (m : Word) → t ≡ l ++ m
        → t ++ p ≡ m ++ rest → ⊥
    shorter again [] f g = not_both l t (above-first l t ht a) (subst (λ s. AtMost s l) (sym (f ∙ append-nil l)) (at_most-refl l))
    shorter again (x ∷ m) f g =
        again (x ∷ m) (omega (arith, ap length f, length-append l (x ∷ m))) hl (omega arith) (above-back l l (x ∷ m) (subst (Above l) f a))
        (sym g ∙ ap (λ s. s ++ p) f ∙ append_assoc l (x ∷ m) p)

    go : ((m : Word) → length m < n → 0 < length l → 0 < length m → Above l m → m ++ rest ≡ l ++ (m ++ p) → ⊥)
        → Split t rest l (t ++ p) ⊎ Split l (t ++ p) t rest → ⊥
    go again (inl s) = not_both l t (above-first l t ht a) (subst (AtMost t) (sym s.first) (at_most-longer t t s.middle (at_most-refl t)))
    go again (inr s) = shorter again s.middle s.first s.second

-- the proper suffixes of a Lyndon word that is at least l
pub above-suffix : (l k c s : Word) → IsLyndon k → AtMost l k → k ≡ c ++ s → 0 < length c → Above l s
above-suffix l k c [] lk h e hc = tt
above-suffix l k c (a ∷ s) lk h e hc = (
  at_most-precedes l k (a ∷ s) h (precedes k (a ∷ s) (lk.least c (a ∷ s) e hc (omega arith))),
  above-suffix l k (c ++ (a ∷ [])) s lk h (e
      ∙ sym (append_assoc c (a ∷ []) s)) (omega (arith, length-append c (a ∷ []))),
)

pub above-lyndon : (l k : Word) → IsLyndon k → Precedes l k → Above l k
above-lyndon l [] lk h = tt
above-lyndon l (a ∷ k) lk h = (h, above-suffix l (a ∷ k) (a ∷ []) k lk (precedes-at_most l (a ∷ k) h) refl (omega arith))

pub under-lyndon : (l k : Word) → IsLyndon k → AtMost l k → Under l k
under-lyndon l [] lk h = tt
under-lyndon l (a ∷ k) lk h = (h, above-under l k (above-suffix l (a ∷ k) (a ∷ []) k lk h refl (omega arith)))
