-- A sample, line by line.
use Rattle.std.proofs.Common.{◌≡◌, ℕ, suc, ◌+◌, ◌*◌, List, [], ◌∷◌, ◌++◌, map, sym, ap, subst, ◌∙◌, append_assoc}
use Rattle.std.proofs.lemmas.List.{append-nil, map-append}
use Rattle.zeta_model.specs.declared.Letter.{Letter}
use Rattle.line_samples.specs.Samples.{state_after, terms_drawn, line_from, lines_from}
use Rattle.line_samples.specs.Inner.{Texts, IsTallyOf}

module _ (reply : List ℕ → List ℕ) (words : List (List Letter)) where
  -- the replies to some lines are counted, and with k lines more they are all
  pub record IsCounted (all : List (List ℕ)) (k s : ℕ) (seen : Texts) (none terms : ℕ) : Type 0 where
    pub done : List (List ℕ)
    pub lines : all ≡ done ++ lines_from words k s
    pub tally : IsTallyOf (map reply done) seen none terms

  pub counted-first : (n k s0 s : ℕ) (seen : Texts) (none terms : ℕ) → n ≡ k → s ≡ s0 → IsTallyOf [] seen none terms
      → IsCounted (lines_from words n s0) k s seen none terms
  counted-first n k s0 s seen none terms same begun t =
      record { done = []; lines = ap (λ j. lines_from words j s0) same ∙ ap (lines_from words k) (sym begun); tally = t }

  -- the reply to one line more is counted
  pub counted-more : (all : List (List ℕ)) (j k s s1 : ℕ) (line r : List ℕ) (seen after : Texts) (none none' terms terms' : ℕ) → j ≡ suc k
      → line ≡ line_from words s → r ≡ reply line → s1 ≡ state_after (1 + 2 * terms_drawn s) s
      → ((rs : List (List ℕ)) → IsTallyOf rs seen none terms → IsTallyOf (rs ++ r ∷ []) after none' terms')
      → IsCounted all j s seen none terms → IsCounted all k s1 after none' terms'
  counted-more all j k s s1 line r seen after none none' terms terms' more text replied goes takes c =
      let l : List ℕ = line_from words s in
      record {
        done = c.done ++ l ∷ [];
        lines = c.lines ∙ ap (λ n. c.done ++ lines_from words n s) more
            ∙ sym (append_assoc c.done (l ∷ []) (lines_from words k (state_after (1 + 2 * terms_drawn s) s)))
            ∙ ap (λ z. (c.done ++ l ∷ []) ++ lines_from words k z) (sym goes);
        tally = subst (λ rs. IsTallyOf rs after none' terms')
            (ap (λ t. map reply c.done ++ t ∷ []) (replied ∙ ap reply text) ∙ sym (map-append reply c.done (l ∷ [])))
            (takes (map reply c.done) c.tally);
      }

  -- all replies are counted
  pub counted-last : (all : List (List ℕ)) (k s : ℕ) (seen : Texts) (none terms : ℕ) → k ≡ 0 → IsCounted all k s seen none terms
      → IsTallyOf (map reply all) seen none terms
  counted-last all k s seen none terms over c =
      let same : all ≡ c.done = c.lines ∙ ap (λ n. c.done ++ lines_from words n s) over ∙ append-nil c.done in
      subst (λ ls. IsTallyOf (map reply ls) seen none terms) (sym same) c.tally
