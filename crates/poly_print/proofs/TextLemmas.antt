-- Texts that are joined by a byte, one after another.
use Rattle.std.proofs.Common.{◌≡◌, ℕ, Bool, true, false, List, [], ◌∷◌, ◌++◌, refl, sym, ap, ◌∙◌, append_assoc, append-nil}
use Rattle.std.specs.List.{join_with_byte}
use Rattle.poly_print.specs.Inner.{behind_byte}

-- each text behind the byte
abbrev pub behind_text : ℕ → List (List ℕ) → List ℕ
behind_text c [] = []
behind_text c (x ∷ xs) = c ∷ (x ++ behind_text c xs)

-- what is still to be written of some texts: with the byte before the first of them, or without
abbrev pub rest_text : ℕ → Bool → List (List ℕ) → List ℕ
rest_text c true xs = join_with_byte c xs
rest_text c false xs = behind_text c xs

pub join-cons : (c : ℕ) (x : List ℕ) (xs : List (List ℕ)) → join_with_byte c (x ∷ xs) ≡ x ++ behind_text c xs
join-cons c x [] = sym (append-nil x)
join-cons c x (y ∷ xs) = ap (λ r. x ++ (c ∷ r)) (join-cons c y xs)

pub rest_text-cons : (c : ℕ) (first : Bool) (x : List ℕ) (xs : List (List ℕ)) → rest_text c first (x ∷ xs) ≡ behind_byte c first x ++ rest_text c false xs
rest_text-cons c true x xs = join-cons c x xs
rest_text-cons c false x xs = refl

-- one more text is written
pub rest_text-step : (c : ℕ) (out out' : List ℕ) (first : Bool) (x : List ℕ) (xs : List (List ℕ)) (whole : List ℕ) → out' ≡ out ++ behind_byte c first x
    → out ++ rest_text c first (x ∷ xs) ≡ whole → out' ++ rest_text c false xs ≡ whole
rest_text-step c out out' first x xs whole e h =
    ap (λ o. o ++ rest_text c false xs) e ∙ append_assoc out (behind_byte c first x) (rest_text c false xs)
    ∙ ap (λ r. out ++ r) (sym (rest_text-cons c first x xs)) ∙ h
