-- Sums of the rows that stand for words, one word after the other.
use Rattle.std.specs.Prelude.{◌≡◌, ◌↔◌, ℕ, ◌+◌, ◌*◌, ◌%◌, ◌<◌, Bool, true, cond, Option, Some, None, List, [], ◌∷◌, map, length, slice_get}
use Rattle.std.proofs.Common.{refl, sym, ap, subst, ◌∙◌, arith}
use Rattle.std.specs.List.{All}
use Rattle.std.specs.Map.{values_of}
use Rattle.std.proofs.lemmas.List.{length-map}
use Rattle.std.proofs.lemmas.List.Elements.{All-head, All-tail}
use Rattle.std.proofs.lemmas.Option.{slice_get_within, slice_get-get_or}
use Rattle.zeta_model.specs.declared.Letter.{Letter}
use Rattle.zeta_model.specs.Modular.{Same}
use Rattle.zeta_model.specs.Sums.{Sum, single}
use Rattle.zeta_model.proofs.ModularLemmas.{same-add_left, same-add_right, same-mul_left}
use Rattle.zeta_model.proofs.ProductWords.{single-other}
use Rattle.zeta_model.proofs.WordOrder.{same_word-itself}
use Rattle.linear_model.specs.Rows.{SameRow}
use Rattle.linear_model.proofs.Totals.{total-zero, total_alike, total_one_term, total_vanishes}
use Rattle.linear_model.proofs.Combinations.{combination-add, combination-scaled}
use Rattle.word_sums.specs.Terms.{coefficient_of, AllIn as AllTermsIn}
use Rattle.lyndon_words.specs.Lyndon.{joined}
use Rattle.column_order.proofs.WordPlaces.{word_at_place}
use Rattle.table_model.specs.MonomialWords.{column_at}
use Rattle.table_model.specs.Computed.{cols_by}
use Rattle.word_forms.specs.Inner.{numbers_of}

abbrev Word : Type 0
Word = List Letter

module _ (list : List (List Word)) (forms : ℕ → ℕ → ℕ) where
  -- a multiple of a word more
  pub cols_by-more : (k : ℕ) (w : Word) (s : Sum) (q : ℕ)
      → cols_by list forms (λ t. k * single w t + s t) q ≡ k * cols_by list forms (single w) q + cols_by list forms s q
  cols_by-more k w s q =
      combination-add (length list) forms (λ i. k * single w (joined (column_at list i))) (λ i. s (joined (column_at list i))) q
      ∙ ap (λ x. x + cols_by list forms s q) (combination-scaled (length list) k forms (λ i. single w (joined (column_at list i))) q)

  pub cols_by-none : (q : ℕ) → cols_by list forms (λ _. 0) q ≡ 0
  cols_by-none q = total_alike (length list) (λ i. 0 * forms i q) (λ _. 0) (λ i. let e : 0 * forms i q ≡ 0 = omega arith in e) ∙ total-zero (length list)

  -- the place of a word is told
  module _ (m : ℕ) (w : Word) (place : Option ℕ) (told : (i : ℕ) → (place ≡ Some i) ↔ (slice_get (map joined list) i ≡ Some w)) where
    word_here : (i : ℕ) → i < length list → joined (column_at list i) ≡ w → place ≡ Some i
    word_here i l e = (told i).1 (word_at_place list i (column_at list i) (slice_get-get_or list i [] l) ∙ ap Some e)

    pub place_within : (col : ℕ) → place ≡ Some col → col < length list
    place_within col e = omega (arith, slice_get_within (map joined list) col w ((told col).0 e), length-map list joined)

    word_at_col : (col : ℕ) → place ≡ Some col → joined (column_at list col) ≡ w
    word_at_col col e =
        let here : Some (joined (column_at list col)) ≡ Some w =
        sym (word_at_place list col (column_at list col) (slice_get-get_or list col [] (place_within col e))) ∙ (told col).0 e in cc

    -- the row of the word stands there
    pub word_form : (col q : ℕ) → place ≡ Some col → Same m (cols_by list forms (single w) q) (forms col q)
    word_form col q e =
        total_one_term m (length list) (λ i. single w (joined (column_at list i)) * forms i q) col (place_within col e)
        (λ i l other.
        let none : single w (joined (column_at list i)) ≡ 0 =
        single-other w (joined (column_at list i)) (λ is. let same : Some i ≡ Some col = sym (word_here i l is) ∙ e in other cc) in
        ap (λ x. (x * forms i q) % m) none ∙ ap (λ x. x % m) (let z : 0 * forms i q ≡ 0 = omega arith in z))
        ∙ ap (λ t. (single w t * forms col q) % m) (word_at_col col e)
        ∙ ap (λ b. (cond b 1 0 * forms col q) % m) (same_word-itself w)
        ∙ ap (λ x. x % m) (let one : 1 * forms col q ≡ forms col q = omega arith in one)

    -- a word without a place adds nothing
    pub word_nowhere : (q : ℕ) → place ≡ None → Same m (cols_by list forms (single w) q) 0
    word_nowhere q e =
        total_vanishes m (length list) (λ i. single w (joined (column_at list i)) * forms i q)
        (λ i l.
        let none : single w (joined (column_at list i)) ≡ 0 =
        single-other w (joined (column_at list i)) (λ is. let both : ◌≡◌ {A = Option ℕ} None (Some i) = sym e ∙ word_here i l is in cc) in
        ap (λ x. (x * forms i q) % m) none ∙ ap (λ x. x % m) (let z : 0 * forms i q ≡ 0 = omega arith in z))

module _ {A E : Type 0} (m : ℕ) (has : E → Bool) (value : E → ℕ) (is_sum : A → Type 0) (total : A → ℕ) (list : List (List Word)) (forms : ℕ → ℕ → ℕ)
    (old : List A) (whole : List (Word × E)) where
  -- the sums, with what is left to add, are the old ones with the whole
  pub record Placing (sums : List A) (rest : List (Word × E)) : Type 0 where
    pub len : length sums ≡ length old
    pub all_sums : All is_sum sums
    pub rest_in : AllTermsIn has rest
    pub same : (q : ℕ) → Same m (numbers_of total sums q + cols_by list forms (coefficient_of value rest) q)
        (numbers_of total old q + cols_by list forms (coefficient_of value whole) q)

  pub placing_start : All is_sum old → AllTermsIn has whole → Placing old whole
  placing_start all in_ring = record { len = refl; all_sums = all; rest_in = in_ring; same = λ q. refl }

  pub placing_end : (sums : List A) (rest : List (Word × E)) → rest ≡ [] → Placing sums rest
      → SameRow m (numbers_of total sums) (λ q. numbers_of total old q + cols_by list forms (coefficient_of value whole) q)
  placing_end sums rest none kept q =
      let end : numbers_of total sums q ≡ numbers_of total sums q + cols_by list forms (λ _. 0) q = omega (arith, cols_by-none list forms q) in
      ap (λ x. x % m) end ∙ ap (λ es. (numbers_of total sums q + cols_by list forms (coefficient_of value es) q) % m) (sym none) ∙ kept.same q

  module _ (sums : List A) (before rest : List (Word × E)) (w : Word) (a : E) (is : before ≡ (w, a) ∷ rest) (kept : Placing sums before) where
    pub next_in : has a ≡ true
    next_in = All-head (λ b. has b ≡ true) a (values_of rest) (subst (AllTermsIn has) is kept.rest_in)

    -- one word more
    pub placing_next : (new : List A) (gained : ℕ → ℕ) → length new ≡ length sums → All is_sum new
        → SameRow m (numbers_of total new) (λ q. numbers_of total sums q + value a * gained q)
        → ((q : ℕ) → Same m (cols_by list forms (single w) q) (gained q)) → Placing new rest
    placing_next new gained len all gives stands = record {
      len = len ∙ kept.len;
      all_sums = all;
      rest_in = All-tail (λ b. has b ≡ true) a (values_of rest) (subst (AllTermsIn has) is kept.rest_in);
      same = λ q.
          let n = numbers_of total sums q in
          let one = cols_by list forms (single w) q in
          let behind = cols_by list forms (coefficient_of value rest) q in
          same-add_right m (numbers_of total new q) (n + value a * gained q) behind (gives q)
          ∙ same-add_right m (n + value a * gained q) (n + value a * one) behind
          (same-add_left m (value a * gained q) (value a * one) n (same-mul_left m (gained q) one (value a) (sym (stands q))))
          ∙ ap (λ x. x % m) (let e : n + value a * one + behind ≡ n + (value a * one + behind) = omega arith in e)
          ∙ ap (λ x. (n + x) % m) (sym (cols_by-more list forms (value a) w (coefficient_of value rest) q))
          ∙ ap (λ es. (n + cols_by list forms (coefficient_of value es) q) % m) (sym is)
          ∙ kept.same q;
    }
