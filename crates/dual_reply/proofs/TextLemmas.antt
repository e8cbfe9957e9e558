-- Texts that are joined by a byte, one after another.
use Rattle.std.proofs.Common.{◌≡◌, ℕ, suc, ◌+◌, Bool, true, false, List, [], ◌∷◌, ◌++◌, map, refl, sym, ap, ◌∙◌, append_assoc, append-nil, add-one}
use Rattle.std.proofs.Common.{drop, slice_get, Some}
use Rattle.std.specs.List.{join_with_byte}
use Rattle.std.specs.Fmt.{decimal}
use Rattle.zeta_model.specs.declared.Letter.{Letter}
use Rattle.zeta_model.specs.declared.Letter.TheVariants.{X, Y}
use Rattle.zeta_model.specs.Indices.{index_from}
use Rattle.word_letters.proofs.Indices.{index-step_x, index-step_y}
use Rattle.dual_reply.specs.Reply.{behind_byte}

-- each text behind the byte
abbrev pub behind_text : ℕ → List (List ℕ) → List ℕ
behind_text c [] = []
behind_text c (x ∷ xs) = c ∷ (x ++ behind_text c xs)

-- what is still to be written of some texts: with the byte before the first of them, or without
abbrev pub rest_text : ℕ → Bool → List (List ℕ) → List ℕ
rest_text c true xs = join_with_byte c xs
rest_text c false xs = behind_text c xs

pub join-cons : (c : ℕ) (x : List ℕ) (xs : List (List ℕ)) → join_with_byte c (x ∷ xs) ≡ x ++ behind_text c xs
join-cons c x [] = sym (append-nil x)
join-cons c x (y ∷ xs) = ap (λ r. x ++ (c ∷ r)) (join-cons c y xs)

pub rest_text-cons : (c : ℕ) (first : Bool) (x : List ℕ) (xs : List (List ℕ)) → rest_text c first (x ∷ xs) ≡ behind_byte c first x ++ rest_text c false xs
rest_text-cons c true x xs = join-cons c x xs
rest_text-cons c false x xs = refl

-- one more text is written
pub rest_text-step : (c : ℕ) (out out' : List ℕ) (first : Bool) (x : List ℕ) (xs : List (List ℕ)) (whole : List ℕ) → out' ≡ out ++ behind_byte c first x
    → out ++ rest_text c first (x ∷ xs) ≡ whole → out' ++ rest_text c false xs ≡ whole
rest_text-step c out out' first x xs whole e h =
    ap (λ o. o ++ rest_text c false xs) e ∙ append_assoc out (behind_byte c first x) (rest_text c false xs)
    ∙ ap (λ r. out ++ r) (sym (rest_text-cons c first x xs)) ∙ h

pub index-x : (out : List ℕ) (first : Bool) (k k' i : ℕ) (w : List Letter) (whole : List ℕ) → k' ≡ k + 1 → slice_get w i ≡ Some X
    → out ++ rest_text 44 first (map decimal (index_from k (drop i w))) ≡ whole
    → out ++ rest_text 44 first (map decimal (index_from k' (drop (i + 1) w))) ≡ whole
index-x out first k k' i w whole e s h =
    (λ j. out ++ rest_text 44 first (map decimal (index_from (e j) (drop (add-one i j) w))))
    ∙ ap (λ ks. out ++ rest_text 44 first (map decimal ks)) (sym (index-step_x k i w s)) ∙ h

pub index-y : (out out' : List ℕ) (first first' : Bool) (k k' i : ℕ) (w : List Letter) (whole : List ℕ) → out' ≡ out ++ behind_byte 44 first (decimal k)
    → first' ≡ false → k' ≡ 1 → slice_get w i ≡ Some Y → out ++ rest_text 44 first (map decimal (index_from k (drop i w))) ≡ whole
    → out' ++ rest_text 44 first' (map decimal (index_from k' (drop (i + 1) w))) ≡ whole
index-y out out' first first' k k' i w whole p f e s h =
    (λ j. out' ++ rest_text 44 (f j) (map decimal (index_from (e j) (drop (add-one i j) w))))
    ∙ rest_text-step 44 out out' first (decimal k) (map decimal (index_from 1 (drop (suc i) w))) whole p
    (ap (λ ks. out ++ rest_text 44 first (map decimal ks)) (sym (index-step_y k i w s)) ∙ h)
