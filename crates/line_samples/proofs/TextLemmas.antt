-- The index of a word, letter by letter.
use Rattle.std.proofs.Common.{◌≡◌, ℕ, zero, suc, ◌+◌, ◌≤◌, Bool, true, false, List, [], ◌∷◌, ◌++◌, length, drop, slice_get, Some, refl, sym, ap, ◌∙◌, arith, add-one}
use Rattle.std.specs.Prelude.{codes}
use Rattle.zeta_model.specs.declared.Letter.{Letter}
use Rattle.zeta_model.specs.declared.Letter.TheVariants.{X, Y}
use Rattle.zeta_model.specs.Indices.{index_from}
use Rattle.word_letters.specs.Inner.{part_text}
use Rattle.word_letters.proofs.IndexTexts.{text_from, part-written}

at_letter : (i : ℕ) (w : List Letter) (a : Letter) → slice_get w i ≡ Some a → drop i w ≡ a ∷ drop (suc i) w
at_letter i [] a e = cc
at_letter zero (b ∷ w) a e = cc
at_letter (suc i) (b ∷ w) a e = at_letter i w a e

-- a letter x is read
index_from-x : (k i : ℕ) (w : List Letter) → slice_get w i ≡ Some X → index_from k (drop i w) ≡ index_from (k + 1) (drop (i + 1) w)
index_from-x k i w e = rw (add-one i) (ap (index_from k) (at_letter i w X e))

-- a letter y is read
index_from-y : (k i : ℕ) (w : List Letter) → slice_get w i ≡ Some Y → index_from k (drop i w) ≡ k ∷ index_from 1 (drop (i + 1) w)
index_from-y k i w e = rw (add-one i) (ap (index_from k) (at_letter i w Y e))

-- the text so far, the numbers that the rest of the word gives behind k - 1 letters x, and the bracket make the whole
pub record IsBegun (whole before : List ℕ) (first : Bool) (k i : ℕ) (w : List Letter) : Type 0 where
  pub text : before ++ (text_from first (index_from k (drop i w)) ++ codes ")") ≡ whole

pub begun-x : (whole before : List ℕ) (first : Bool) (k i : ℕ) (w : List Letter) → slice_get w i ≡ Some X
    → IsBegun whole before first k i w → IsBegun whole before first (k + 1) (i + 1) w
begun-x whole before first k i w e h = record {
  text = ap (λ ks. before ++ (text_from first ks ++ codes ")")) (sym (index_from-x k i w e)) ∙ h.text;
}

pub begun-y : (whole before after : List ℕ) (first : Bool) (k i : ℕ) (w : List Letter) → slice_get w i ≡ Some Y → after ≡ before ++ part_text first k
    → IsBegun whole before first k i w → IsBegun whole after false 1 (i + 1) w
begun-y whole before after first k i w e written h = record {
  text = part-written before after whole first k (index_from k (drop i w)) (index_from 1 (drop (i + 1) w)) written (index_from-y k i w e) h.text;
}

drop_all : (i : ℕ) (w : List Letter) → length w ≤ i → drop i w ≡ []
drop_all zero [] h = refl
drop_all (suc i) [] h = refl
drop_all zero (a ∷ w) h = absurd (omega arith)
drop_all (suc i) (a ∷ w) h = drop_all i w (omega arith)

text_from-nil : (first : Bool) → text_from first [] ≡ []
text_from-nil true = refl
text_from-nil false = refl

pub begun-end : (whole before after : List ℕ) (first : Bool) (k i : ℕ) (w : List Letter) → length w ≤ i → after ≡ before ++ codes ")"
    → IsBegun whole before first k i w → after ≡ whole
begun-end whole before after first k i w over written h =
    let none : text_from first (index_from k (drop i w)) ≡ [] = ap (λ v. text_from first (index_from k v)) (drop_all i w over) ∙ text_from-nil first in
    written ∙ ap (λ t. before ++ (t ++ codes ")")) (sym none) ∙ h.text
