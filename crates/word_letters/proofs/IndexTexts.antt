-- The numbers of an index one by one, and its text part by part.
use Rattle.std.proofs.Common.{◌≡◌, ℕ, zero, suc, ◌<◌, ◌≤◌, Bool, true, false, List, [], ◌∷◌, ◌++◌, length, map, take, drop, slice_get, Some, refl, sym, ap, ◌∙◌, arith}
use Rattle.std.specs.Prelude.{codes}
use Rattle.std.specs.List.{join_with_byte}
use Rattle.std.specs.Fmt.{decimal}
use Rattle.std.proofs.lemmas.List.{append_assoc, append-nil, length-take, take-append-le, take-append-drop}
use Rattle.zeta_model.specs.declared.Letter.{Letter}
use Rattle.zeta_model.specs.declared.Letter.TheVariants.{X, Y}
use Rattle.zeta_model.specs.Words.{ends_with_y, has_index}
use Rattle.zeta_model.specs.Indices.{index_of, word_text}
use Rattle.zeta_model.specs.Regularise.{y_word, begins_with_y}
pub use Rattle.zeta_model.proofs.WordLemmas.{ends-has_index}
use Rattle.word_letters.specs.Inner.{part_text}

-- the numbers with commas between them, and one before them where they are not the first
abbrev pub text_from : Bool → List ℕ → List ℕ
text_from true ks = join_with_byte 44 (map decimal ks)
text_from false [] = []
text_from false (k ∷ ks) = codes "," ++ (decimal k ++ text_from false ks)

join-cons : (k : ℕ) (ks : List ℕ) → join_with_byte 44 (map decimal (k ∷ ks)) ≡ decimal k ++ text_from false ks
join-cons k [] = sym (append-nil (decimal k))
join-cons k (j ∷ ks) = ap (λ t. decimal k ++ (44 ∷ t)) (join-cons j ks)

pub text_from-cons : (b : Bool) (k : ℕ) (ks : List ℕ) → text_from b (k ∷ ks) ≡ part_text b k ++ text_from false ks
text_from-cons true k ks = join-cons k ks
text_from-cons false k ks = sym (append_assoc (codes ",") (decimal k) (text_from false ks))

-- one more number of the index is written
pub part-written : (before after whole : List ℕ) (b : Bool) (k : ℕ) (is ks : List ℕ) → after ≡ before ++ part_text b k → is ≡ k ∷ ks
    → before ++ (text_from b is ++ codes ")") ≡ whole → after ++ (text_from false ks ++ codes ")") ≡ whole
part-written before after whole b k is ks written parts h =
    ap (λ t. t ++ (text_from false ks ++ codes ")")) written
    ∙ append_assoc before (part_text b k) (text_from false ks ++ codes ")")
    ∙ ap (λ t. before ++ t) (sym (append_assoc (part_text b k) (text_from false ks) (codes ")"))
    ∙ ap (λ t. t ++ codes ")") (sym (ap (text_from b) parts ∙ text_from-cons b k ks)))
    ∙ h

pub text-opened : (before after : List ℕ) (w : List Letter)
    → after ≡ before ++ codes "z(" → after ++ (text_from true (index_of w) ++ codes ")") ≡ before ++ word_text w
text-opened before after w e =
    let T : List ℕ = text_from true (index_of w) ++ codes ")" in
    ap (λ t. t ++ T) e ∙ append_assoc before (codes "z(") T
    ∙ ap (λ t. before ++ t) (sym (append_assoc (codes "z(") (text_from true (index_of w)) (codes ")")))

text_from-none : (b : Bool) → text_from b [] ≡ []
text_from-none true = refl
text_from-none false = refl

pub text-closed : (before after whole : List ℕ) (b : Bool) (w : List Letter) → length w ≡ 0 → after ≡ before ++ codes ")"
    → before ++ (text_from b (index_of w) ++ codes ")") ≡ whole → after ≡ whole
text-closed before after whole b [] n e h = e ∙ ap (λ t. before ++ (t ++ codes ")")) (sym (text_from-none b)) ∙ h
text-closed before after whole b (a ∷ w) n e h = absurd (omega arith)

-- what stood in the text stands there still, with more behind it
pub kept-more : (old text text' more : List ℕ) → text' ≡ text ++ more → take (length old) text ≡ old → take (length old) text' ≡ old
kept-more old text text' more e h =
    ap (take (length old)) e ∙ take-append-le (length old) text more (omega (arith, length-take (length old) text, ap length h)) ∙ h

split : (xs zs : List ℕ) → take (length xs) zs ≡ xs → zs ≡ xs ++ drop (length xs) zs
split xs zs e = sym (take-append-drop (length xs) zs) ∙ ap (λ l. l ++ drop (length xs) zs) e

pub kept-through : (xs ys zs : List ℕ) → take (length xs) ys ≡ xs → take (length ys) zs ≡ ys → take (length xs) zs ≡ xs
kept-through xs ys zs p q = kept-more xs ys zs (drop (length ys) zs) (split ys zs q) p

pub some-ends : (i : ℕ) (w : List Letter) → ends_with_y (drop i w) ≡ true → i < length w
some-ends zero [] e = cc
some-ends (suc i) [] e = cc
some-ends zero (a ∷ w) e = omega arith
some-ends (suc i) (a ∷ w) e = omega (arith, some-ends i w e)

pub ends-behind_x : (i : ℕ) (w : List Letter) → slice_get w i ≡ Some X → ends_with_y (drop i w) ≡ true → ends_with_y (drop (suc i) w) ≡ true
ends-behind_x i [] e h = cc
ends-behind_x zero (X ∷ []) e h = cc
ends-behind_x zero (X ∷ b ∷ w) e h = h
ends-behind_x zero (Y ∷ w) e h = cc
ends-behind_x (suc i) (a ∷ w) e h = ends-behind_x i w e h

pub index-behind_y : (i : ℕ) (w : List Letter) → slice_get w i ≡ Some Y → ends_with_y (drop i w) ≡ true → has_index (drop (suc i) w) ≡ true
index-behind_y i [] e h = cc
index-behind_y zero (X ∷ w) e h = cc
index-behind_y zero (Y ∷ []) e h = refl
index-behind_y zero (Y ∷ b ∷ w) e h = h
index-behind_y (suc i) (a ∷ w) e h = index-behind_y i w e h

-- one more letter y is split off
pub y-split : (j : ℕ) (w : List Letter) → slice_get w j ≡ Some Y → w ≡ y_word j ++ drop j w → w ≡ y_word (suc j) ++ drop (suc j) w
y-split j [] e h = cc
y-split zero (X ∷ w) e h = cc
y-split zero (Y ∷ w) e h = refl
y-split (suc j) (a ∷ w) e h =
    let tail : w ≡ y_word j ++ drop j w = ap (drop 1) h in
    h ∙ ap (λ v. Y ∷ v) (sym tail ∙ y-split j w e tail)

pub stops-at_x : (j : ℕ) (w : List Letter) → slice_get w j ≡ Some X → begins_with_y (drop j w) ≡ false
stops-at_x j [] e = cc
stops-at_x zero (X ∷ w) e = refl
stops-at_x zero (Y ∷ w) e = cc
stops-at_x (suc j) (a ∷ w) e = stops-at_x j w e

pub stops-at_end : (j : ℕ) (w : List Letter) → length w ≤ j → begins_with_y (drop j w) ≡ false
stops-at_end zero [] h = refl
stops-at_end (suc j) [] h = refl
stops-at_end zero (a ∷ w) h = absurd (omega arith)
stops-at_end (suc j) (a ∷ w) h = stops-at_end j w (omega arith)
