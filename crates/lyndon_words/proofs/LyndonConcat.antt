-- Two Lyndon words, the first before the second, put together are a Lyndon word.
use Rattle.std.proofs.Common.{◌≡◌, ℕ, ◌<◌, zero, suc, ◌⊎◌, inl, inr, List, [], ◌∷◌, ◌++◌, length, refl, sym, ap, subst, ◌∙◌, arith, length-append}
use Rattle.std.proofs.lemmas.List.{append-nil}
use Rattle.zeta_model.specs.declared.Letter.{Letter}
use Rattle.lyndon_words.specs.Lyndon.{IsBefore, IsLyndon}
use Rattle.lyndon_words.proofs.WordLess.{Precedes, Differs, Split, before, precedes, precedes-trans, letter_or_prefix, precedes-differs, precedes-front, split, nothing_left}

pub IsLyndon-letter : (a : Letter) → IsLyndon (a ∷ [])
IsLyndon-letter a = record {
  nonempty = omega arith;
  least = λ u v e hu hv. absurd (omega (arith, ap length e, length-append u v));
}

front-precedes : (u v : List Letter) → 0 < length u → IsLyndon v → Precedes u v → Precedes (u ++ v) v
front-precedes u v h lv p = go (letter_or_prefix u v p)
  where
    go : Differs u v ⊎ ((t : List Letter) × (v ≡ u ++ t) × (0 < length t)) → Precedes (u ++ v) v
    go (inl d) = subst (Precedes (u ++ v)) (append-nil v) (precedes-differs u v v [] d)
    go (inr (t, e, ht)) = subst (Precedes (u ++ v)) (sym e) (precedes-front u v t (precedes v t (lv.least u t e h ht)))

pub IsLyndon-append : (u v : List Letter) → IsLyndon u → IsLyndon v → IsBefore u v → IsLyndon (u ++ v)
IsLyndon-append u v lu lv p = record {
  nonempty = omega (arith, length-append u v, lu.nonempty);
  least = λ a b e ha hb. before (u ++ v) b (go a b ha hb (split u v a b e));
}
  where
    front : Precedes (u ++ v) v
    front = front-precedes u v lu.nonempty lv (precedes u v p)

    into : (a b : List Letter) → 0 < length b → (s : Split u v a b) → (n : ℕ) → length s.middle ≡ n → Precedes (u ++ v) b
    into a b hb s zero z = subst (Precedes (u ++ v)) (s.second ∙ ap (λ t. t ++ b) (nothing_left s.middle z)) front
    into a b hb s (suc n) z = precedes-trans (u ++ v) v b front (precedes v b (lv.least s.middle b s.second (omega arith) hb))

    onto : (a b : List Letter) → 0 < length a → (s : Split a b u v) → (n : ℕ) → length s.middle ≡ n → Precedes (u ++ v) b
    onto a b ha s zero z = subst (Precedes (u ++ v)) (sym (s.second ∙ ap (λ t. t ++ v) (nothing_left s.middle z))) front
    onto a b ha s (suc n) z = elim (letter_or_prefix u s.middle (precedes u s.middle (lu.least a s.middle s.first ha (omega arith)))) [
      | inl d ↦ subst (Precedes (u ++ v)) (sym s.second) (precedes-differs u s.middle v v d)
      | inr q ↦ absurd (omega (arith, ap length q.1, ap length s.first, length-append u q.0, length-append a s.middle))
    ]

    go : (a b : List Letter) → 0 < length a → 0 < length b → Split u v a b ⊎ Split a b u v → Precedes (u ++ v) b
    go a b ha hb (inl s) = into a b hb s (length s.middle) refl
    go a b ha hb (inr s) = onto a b ha s (length s.middle) refl
