-- The words that the pieces of a text name.
use Rattle.std.proofs.Common.{◌≡◌, ◌≢◌, ℕ, zero, suc, ◌+◌, ◌-◌, ◌≤◌, ◌<◌, List, [], ◌∷◌, ◌++◌, length, take, drop, get_or, Option, Some, None, Bool}
use Rattle.std.proofs.Common.{true, false, eqb, sum, refl, sym, ap, subst, ◌∙◌, inl, inr, append_assoc, length-append, arith}
use Rattle.std.specs.Prelude.{IsTrue, All, ◌&&◌}
use Rattle.std.proofs.lemmas.List.{take-append-drop, take_all, length-drop}
use Rattle.std.proofs.Math.Seq.{drop-cons}
use Rattle.std.proofs.lemmas.List.Elements.{All-nil, All-cons, All-head, All-tail}
use Rattle.std.proofs.lemmas.List.Splits.{slice_split_none, slice_split_at}
use borrow.Author.Tests.{ne_eqb}
use Rattle.zeta_model.specs.declared.Letter.{Letter}
use Rattle.zeta_model.specs.declared.Letter.TheVariants.{X, Y}
use Rattle.zeta_model.specs.Words.{ends_with_y, begins_with_x, is_admissible}
use Rattle.zeta_model.specs.Indices.{word_of_index, index_of, index_from, index_text, word_text}
use Rattle.word_letters.specs.declared.fault.TextFault.{TextFault}
use Rattle.word_letters.specs.declared.fault.TextFault.TheVariants.{BadText, ZeroIndex, TooLong}
use Rattle.word_letters.specs.IndexText.{IsIndexText, Refuses}
use Rattle.word_letters.proofs.Reading.{index_text-injective}
use Rattle.word_letters.proofs.IndexLemmas.{index_of-word_of_index, word_of_index-index_of, length-word_of_index, word_text-injective}
use Rattle.word_letters.proofs.IndexLemmas.{IsIndexText-word_text, has_index-ends}
use Rattle.page_codec.specs.Bounds.{Chain, IsPreferable, IsPreferred}
use Rattle.page_codec.specs.Tests.{Names, AllName, FailsFirst, AreNamed, order_of, pieces_of}

pub all_more : (P : ℕ → Type 0) (xs : List ℕ) (i : ℕ) → i < length xs → All P (take i xs) → P (get_or xs i 0) → All P (take (i + 1) xs)
all_more P [] i h so_far here = absurd (omega arith)
all_more P (x ∷ xs) zero h so_far here = All-cons P x [] here (All-nil P)
all_more P (x ∷ xs) (suc i) h so_far here =
    let n : suc i + 1 ≡ suc (i + 1) = omega arith in
    rw n (All-cons P x (take (i + 1) xs) (All-head P x (take i xs) so_far) (all_more P xs i (omega arith) (All-tail P x (take i xs) so_far) here))

pub not_43 : (b : ℕ) → b ≢ 43 → eqb b 43 ≡ false
not_43 b h = ne_eqb b 43 h

pub cut_here : (text : List ℕ) (i : ℕ) → i < length text → get_or text i 0 ≡ 43 → All (λ b. eqb b 43 ≡ false) (take i text)
    → pieces_of text ≡ take i text ∷ pieces_of (take (length text - (i + 1)) (drop (i + 1) text))
cut_here text i h e none =
    let n : suc i ≡ i + 1 = omega arith in
    let here : drop i text ≡ 43 ∷ drop (i + 1) text = drop-cons text i 0 h ∙ (λ j. e j ∷ drop (n j) text) in
    let parts : text ≡ take i text ++ 43 ∷ drop (i + 1) text = sym (take-append-drop i text) ∙ ap (λ l. take i text ++ l) here in
    let whole : take (length text - (i + 1)) (drop (i + 1) text) ≡ drop (i + 1) text =
    take_all (length text - (i + 1)) (drop (i + 1) text) (omega (arith, length-drop (i + 1) text)) in
    rw whole (ap pieces_of parts ∙ slice_split_at (λ b. eqb b 43) (take i text) 43 (drop (i + 1) text) none refl)

pub not_cut : (text : List ℕ) → All (λ b. eqb b 43 ≡ false) text → pieces_of text ≡ text ∷ []
not_cut text none = slice_split_none (λ b. eqb b 43) text none

ends_from : (u : List Letter) → IsTrue (is_admissible u) → ends_with_y u ≡ true
ends_from u e = second (begins_with_x u) (ends_with_y u) e
  where
    second : (s t : Bool) → (s && t) ≡ true → t ≡ true
    second true t h = h
    second false t h = absurd (cc h)

-- the text of a word of a table is an index text
text_of : (w d i : ℕ) (before : Option (List Letter)) (piece : List ℕ) (u : List Letter) → w ≤ 24 → Names w d i before piece u
    → IsIndexText piece (index_of u)
text_of w d i before piece u most named =
    let weight = named.may_stand.weight in
    subst (λ t. IsIndexText t (index_of u)) (sym named.text) (IsIndexText-word_text u (omega arith) (ends_from u named.may_stand.admissible))

-- numbers of an index are not 0
positive-index_from : (k : ℕ) (w : List Letter) → 0 < k → All (λ j. 0 < j) (index_from k w)
positive-index_from k [] h = All-nil (λ j. 0 < j)
positive-index_from k (X ∷ w) h = positive-index_from (k + 1) w (omega arith)
positive-index_from k (Y ∷ w) h = All-cons (λ j. 0 < j) k (index_from 1 w) h (positive-index_from 1 w (omega arith))

no_zero : (front rest : List ℕ) → ¬ (All (λ j. 0 < j) (front ++ 0 ∷ rest))
no_zero [] rest all = let zero_first = All-head (λ j. 0 < j) 0 rest all in absurd (omega arith)
no_zero (k ∷ front) rest all = no_zero front rest (All-tail (λ j. 0 < j) k (front ++ 0 ∷ rest) all)

-- bytes that are refused are no such text
pub refused_names : (w d i : ℕ) (before : Option (List Letter)) (piece : List ℕ) (fault : TextFault) → w ≤ 24 → Refuses piece fault → (u : List Letter)
    → ¬ (Names w d i before piece u)
refused_names w d i before piece (BadText at) most refused u named = refused.0 (index_of u, text_of w d i before piece u most named)
refused_names w d i before piece (ZeroIndex at) most refused u named =
    let same : index_of u ≡ refused.0 = index_text-injective piece (index_of u) refused.0 (text_of w d i before piece u most named) refused.1 in
    no_zero refused.2.front refused.2.rest (subst (All (λ j. 0 < j)) (same ∙ refused.2.parts) (positive-index_from 1 u (omega arith)))
refused_names w d i before piece (TooLong n) most refused u named =
    let same : index_of u ≡ refused.0 = index_text-injective piece (index_of u) refused.0 (text_of w d i before piece u most named) refused.1 in
    let long : sum refused.0 ≡ length u =
    ap sum (sym same) ∙ sym (length-word_of_index (index_of u))
    ∙ ap length (word_of_index-index_of u (has_index-ends u (ends_from u named.may_stand.admissible))) in
    let weight = named.may_stand.weight in
    let is = refused.3 in
    let over = refused.4 in
    absurd (omega arith)

-- the text names one word
pub same_name : (w d i : ℕ) (before : Option (List Letter)) (piece ks : List ℕ) (u v : List Letter) → w ≤ 24 → IsIndexText piece ks → u ≡ word_of_index ks
    → Names w d i before piece v → v ≡ u
same_name w d i before piece ks u v most text is named =
    let same : index_of v ≡ ks = index_text-injective piece (index_of v) ks (text_of w d i before piece v most named) text in
    sym (word_of_index-index_of v (has_index-ends v (ends_from v named.may_stand.admissible))) ∙ ap word_of_index same ∙ sym is

pub named_text : (piece : List ℕ) (ks : List ℕ) (u : List Letter) → IsIndexText piece ks → All (λ k. 0 < k) ks → u ≡ word_of_index ks → piece ≡ word_text u
named_text piece ks u text positive is = text.text ∙ ap index_text (sym (ap index_of is ∙ index_of-word_of_index ks positive))

-- what the pieces name is known by what the rest of them names
pub record IsNamedTo (w d i : ℕ) (before : Option (List Letter)) (rest text : List ℕ) (words : List (List Letter)) : Type 0 where
  pub within : i ≤ 16
  pub many : length words ≡ i
  pub names : (us : List (List Letter)) → AllName w d i before (pieces_of rest) us → AllName w d 0 None (pieces_of text) (words ++ us)
  pub fails : (k : ℕ) → FailsFirst w d i before (pieces_of rest) k → FailsFirst w d 0 None (pieces_of text) k

pub named_none : (w d : ℕ) (text : List ℕ) → IsNamedTo w d 0 None text text []
named_none w d text = record { within = omega arith; many = refl; names = λ us all. all; fails = λ k fails. fails }

module _ (w d i : ℕ) (before : Option (List Letter)) (rest text piece : List ℕ) (words : List (List Letter))
    (so_far : IsNamedTo w d i before rest text words) where
  pub named_more : (after : List ℕ) (u : List Letter) → pieces_of rest ≡ piece ∷ pieces_of after → Names w d i before piece u
      → IsNamedTo w d (i + 1) (Some u) after text (words ++ u ∷ [])
  named_more after u cut named = record {
    within = let less = named.first_16 in omega arith;
    many = let m = so_far.many in omega (arith, length-append words (u ∷ []));
    names = λ us all. subst (AllName w d 0 None (pieces_of text)) (sym (append_assoc words (u ∷ []) us))
        (so_far.names (u ∷ us) (subst (λ l. AllName w d i before l (u ∷ us)) (sym cut) (named, all)));
    fails = λ k fails. so_far.fails k (subst (λ l. FailsFirst w d i before l k) (sym cut) (inr (u, named, fails)));
  }

  pub named_all : (u : List Letter) → pieces_of rest ≡ piece ∷ [] → Names w d i before piece u → AllName w d 0 None (pieces_of text) (words ++ u ∷ [])
  named_all u cut named = so_far.names (u ∷ []) (subst (λ l. AllName w d i before l (u ∷ [])) (sym cut) (named, tt))

  pub fails_here : (others : List (List ℕ)) → pieces_of rest ≡ piece ∷ others → ((u : List Letter) → ¬ (Names w d i before piece u))
      → FailsFirst w d 0 None (pieces_of text) i
  fails_here others cut none = so_far.fails i (subst (λ l. FailsFirst w d i before l i) (sym cut) (inl (refl, none)))

-- words that pieces name are preferred words
pub named_chain : (w d i : ℕ) (before : Option (List Letter)) (pieces : List (List ℕ)) (us : List (List Letter)) → AllName w d i before pieces us
    → Chain (λ b u. IsPreferable w d b u) (λ b u. Some u) before us
named_chain w d i before [] [] all = tt
named_chain w d i before [] (u ∷ us) all = absurd all
named_chain w d i before (piece ∷ pieces) [] all = absurd all
named_chain w d i before (piece ∷ pieces) (u ∷ us) all = (all.0.may_stand, named_chain w d (i + 1) (Some u) pieces us all.1)

pub named_few : (w d i : ℕ) (before : Option (List Letter)) (pieces : List (List ℕ)) (us : List (List Letter)) → i ≤ 16 → AllName w d i before pieces us
    → length us + i ≤ 16
named_few w d i before [] [] h all = omega arith
named_few w d i before [] (u ∷ us) h all = absurd all
named_few w d i before (piece ∷ pieces) [] h all = absurd all
named_few w d i before (piece ∷ pieces) (u ∷ us) h all = let first = all.0.first_16 in
    let others = named_few w d (i + 1) (Some u) pieces us (omega arith) all.1 in omega arith

pub named_preferred : (w d : ℕ) (text : Option (List ℕ)) (us : List (List Letter)) → AreNamed w d text us → IsPreferred w d us
named_preferred w d None us none = subst (IsPreferred w d) (sym none) (record { few = omega arith; in_order = tt })
named_preferred w d (Some text) us all = record {
  few = let few = named_few w d 0 None (pieces_of text) us (omega arith) all in omega arith;
  in_order = named_chain w d 0 None (pieces_of text) us all;
}

pub order_small : (name : List ℕ) (order : ℕ) → order_of name order → order ≤ 1
order_small name order (inl h) = let e = h.1 in omega arith
order_small name order (inr h) = let e = h.1 in omega arith

-- pieces that all name words have none that fails first
pub named_or_fails : (w d i k : ℕ) (before : Option (List Letter)) (pieces : List (List ℕ)) (us : List (List Letter)) → w ≤ 24
    → AllName w d i before pieces us → ¬ (FailsFirst w d i before pieces k)
named_or_fails w d i k before [] us most all fails = fails
named_or_fails w d i k before (piece ∷ pieces) [] most all fails = all
named_or_fails w d i k before (piece ∷ pieces) (u ∷ us) most all (inl here) = here.1 u all.0
named_or_fails w d i k before (piece ∷ pieces) (u ∷ us) most all (inr later) =
    let v = later.0 in
    let hu = all.0.may_stand.weight in
    let hv = later.1.may_stand.weight in
    let same : u ≡ v = word_text-injective u v (omega arith) (omega arith) (has_index-ends u (ends_from u all.0.may_stand.admissible))
    (has_index-ends v (ends_from v later.1.may_stand.admissible)) (sym all.0.text ∙ later.1.text) in
    named_or_fails w d (i + 1) k (Some u) pieces us most all.1 (subst (λ x. FailsFirst w d (i + 1) (Some x) pieces k) (sym same) later.2)
