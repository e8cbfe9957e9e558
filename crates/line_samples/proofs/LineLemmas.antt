-- A line, term by term, and a sample, line by line.
use Rattle.std.proofs.Common.{◌≡◌, ℕ, suc, ◌+◌, ◌*◌, List, [], ◌∷◌, ◌++◌, sym, ap, ◌∙◌, arith, append_assoc}
use Rattle.std.specs.Prelude.{codes}
use Rattle.std.proofs.lemmas.List.{append-nil}
use Rattle.zeta_model.specs.declared.Letter.{Letter}
use Rattle.line_samples.specs.Samples.{next_state, state_after, drawn, term_text, term_texts, joined_by_plus, terms_drawn, line_from}

-- each text behind a +
abbrev pub plus_each : List (List ℕ) → List ℕ
plus_each [] = []
plus_each (t ∷ ts) = 43 ∷ (t ++ plus_each ts)

joined-cons : (t : List ℕ) (ts : List (List ℕ)) → joined_by_plus (t ∷ ts) ≡ t ++ plus_each ts
joined-cons t [] = sym (append-nil t)
joined-cons t (u ∷ ts) = ap (λ r. t ++ (43 ∷ r)) (joined-cons u ts)

-- the text so far with k terms more makes the whole, and their draws leave the last state
pub record IsUnder (words : List (List Letter)) (whole : List ℕ) (last k s : ℕ) (text : List ℕ) : Type 0 where
  pub text_is : text ++ plus_each (term_texts words k s) ≡ whole
  pub state_is : state_after (2 * k) s ≡ last

module _ (words : List (List Letter)) where
  line_from-terms : (s n : ℕ) → n ≡ drawn 4 s
      → line_from words s ≡ term_text words (next_state s) ++ plus_each (term_texts words n (state_after 2 (next_state s)))
  line_from-terms s n is =
      let count : terms_drawn s ≡ suc n = omega arith in
      ap (λ k. joined_by_plus (term_texts words k (next_state s))) count
      ∙ joined-cons (term_text words (next_state s)) (term_texts words n (state_after 2 (next_state s)))

  state_after-line : (s n : ℕ) → n ≡ drawn 4 s → state_after (2 * n) (state_after 2 (next_state s)) ≡ state_after (1 + 2 * terms_drawn s) s
  state_after-line s n is =
      let count : 1 + 2 * terms_drawn s ≡ suc (suc (suc (2 * n))) = omega arith in
      ap (λ k. state_after k s) (sym count)

  -- the first term is there
  pub under-first : (before after : List ℕ) (s s1 s2 n : ℕ) → n ≡ drawn 4 s → s1 ≡ next_state s → s2 ≡ state_after 2 s1
      → after ≡ before ++ term_text words s1
      → IsUnder words (before ++ line_from words s) (state_after (1 + 2 * terms_drawn s) s) n s2 after
  under-first before after s s1 s2 n is first second written =
      let behind : s2 ≡ state_after 2 (next_state s) = second ∙ ap (state_after 2) first in
      let t : List ℕ = term_text words (next_state s) in
      let r : List ℕ = plus_each (term_texts words n (state_after 2 (next_state s))) in
      record {
        text_is = ap (λ z. after ++ plus_each (term_texts words n z)) behind ∙ ap (λ a. a ++ r) (written ∙ ap (λ z. before ++ term_text words z) first)
            ∙ append_assoc before t r ∙ ap (λ l. before ++ l) (sym (line_from-terms s n is));
        state_is = ap (state_after (2 * n)) behind ∙ state_after-line s n is;
      }

  -- one term more is there
  pub under-more : (whole before middle after : List ℕ) (last j k s s1 : ℕ) → j ≡ suc k → middle ≡ before ++ codes "+"
      → after ≡ middle ++ term_text words s → s1 ≡ state_after 2 s
      → IsUnder words whole last j s before → IsUnder words whole last k s1 after
  under-more whole before middle after last j k s s1 more plus written goes u =
      let t : List ℕ = term_text words s in
      let r : List ℕ = plus_each (term_texts words k (state_after 2 s)) in
      let count : suc (suc (2 * k)) ≡ 2 * j = omega arith in
      record {
        text_is = ap (λ z. after ++ plus_each (term_texts words k z)) goes
            ∙ ap (λ a. a ++ r) (written ∙ ap (λ m. m ++ t) plus)
            ∙ append_assoc (before ++ codes "+") t r ∙ append_assoc before (codes "+") (t ++ r)
            ∙ ap (λ n. before ++ plus_each (term_texts words n s)) (sym more) ∙ u.text_is;
        state_is = ap (state_after (2 * k)) goes ∙ ap (λ n. state_after n s) count ∙ u.state_is;
      }

  -- all terms are there
  pub under-last : (whole text : List ℕ) (last k s : ℕ) → k ≡ 0 → IsUnder words whole last k s text → text ≡ whole
  under-last whole text last k s none u = sym (append-nil text) ∙ ap (λ n. text ++ plus_each (term_texts words n s)) (sym none) ∙ u.text_is

  pub state-last : (whole text : List ℕ) (last k s : ℕ) → k ≡ 0 → IsUnder words whole last k s text → s ≡ last
  state-last whole text last k s none u =
      let count : 0 ≡ 2 * k = omega arith in
      ap (λ n. state_after n s) count ∙ u.state_is
