-- In how many ways a Lyndon word l is shuffled into words that are at least l, to stand behind them all.
use Rattle.std.proofs.Common.{◌≡◌, ◌+◌, ◌⊎◌, inl, inr, List, [], ◌∷◌, ◌++◌, sym, ap, subst, ◌∙◌, arith, append_assoc}
use Rattle.std.proofs.lemmas.List.{append-nil}
use Rattle.zeta_model.specs.declared.Letter.{Letter}
use Rattle.zeta_model.specs.Sums.{single, sum_of}
use Rattle.zeta_model.proofs.ProductWords.{single-other}
use Rattle.lyndon_words.specs.Lyndon.{IsBefore, IsLyndon, AllLyndon, IsAtLeast, Falls, joined}
use Rattle.lyndon_words.proofs.WordLess.{Precedes, before, precedes_cases}
use Rattle.leading_word.proofs.AtMosts.{AtMost, at_most-refl, at_most-same, not_before-at_most, not_both}
use Rattle.leading_word.proofs.Mixes.{Under, under-append}
use Rattle.leading_word.proofs.Ways.{ways, ways-right, single-itself}
use Rattle.leading_word.proofs.LastWays.{ways-above, ways-same}
use Rattle.leading_word.proofs.Above.{above-lyndon, under-lyndon}

abbrev Word : Type 0
Word = List Letter

-- none of the words is before l
abbrev pub NoneBefore : Word → List Word → Type 0
NoneBefore l [] = Unit {0}
NoneBefore l (d ∷ ds) = ¬ (IsBefore d l) × NoneBefore l ds

pub under-joined : (l : Word) (ds : List Word) → AllLyndon ds → NoneBefore l ds → Under l (joined ds)
under-joined l [] al n = tt
under-joined l (d ∷ ds) al n = under-append l d (joined ds) (under-lyndon l d al.0 (not_before-at_most l d n.0)) (under-joined l ds al.1 n.1)

-- words that are neither before l nor behind it are all l, so l stands behind them as before them
turned : (l : Word) (ds : List Word) → IsAtLeast l ds → NoneBefore l ds → joined ds ++ l ≡ l ++ joined ds
turned l [] a n = sym (append-nil l)
turned l (d ∷ ds) a n =
    let same : d ≡ l = at_most-same d l (not_before-at_most d l a.0) (not_before-at_most l d n.0) in
    append_assoc d (joined ds) l ∙ ap (λ t. d ++ t) (turned l ds a.1 n.1) ∙ (λ i. same i ++ (sym same i ++ joined ds))

module _ (l : Word) (lyndon : IsLyndon l) where
  -- behind words that do not increase and are at least l, it goes in once more than it stands among them
  pub ways-last : (ds : List Word) → AllLyndon ds → Falls ds → NoneBefore l ds → ways (joined ds) l (joined ds ++ l) ≡ sum_of ds l + 1
  ways-last [] al f n = ways-right l
  ways-last (d ∷ ds) al f n = go (ways-last ds al.1 f.1 n.1) (precedes_cases l d)
    where
      under : Under l (joined ds)
      under = under-joined l ds al.1 n.1

      go : ways (joined ds) l (joined ds ++ l) ≡ sum_of ds l + 1 → Precedes l d ⊎ ((l ≡ d) ⊎ Precedes d l)
          → ways (d ++ joined ds) l ((d ++ joined ds) ++ l) ≡ single d l + sum_of ds l + 1
      go again (inl p) = omega (
        arith,
        again,
        ways-above l lyndon d (joined ds) (above-lyndon l d al.0 p) under,
        single-other d l
            (λ e. not_both l d p (subst (λ t. AtMost t l) e (at_most-refl l))),
      )
      go again (inr (inl e)) =
          let turn : joined ds ++ l ≡ l ++ joined ds = turned l ds (subst (λ t. IsAtLeast t ds) (sym e) f.0) n.1 in
          let one : single d l ≡ 1 = ap (λ t. single t l) (sym e) ∙ single-itself l in
          omega (arith, again, ways-same l lyndon d (joined ds) e under turn, one)
      go again (inr (inr p)) = absurd (n.0 (before d l p))
