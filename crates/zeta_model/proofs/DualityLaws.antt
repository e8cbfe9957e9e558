-- Duality is an involution, keeps the weight, exchanges the letters and keeps admissible words admissible.
use Rattle.std.proofs.Common.{◌≡◌, suc, ◌⊎◌, inl, inr, Bool, true, false, ◌&&◌, List, [], ◌∷◌, ◌++◌, length, map, reverse, refl, sym, ap, ◌∙◌}
use Rattle.std.specs.declared.cmp.Ordering.{Ordering}
use Rattle.std.specs.declared.cmp.Ordering.TheVariants.{Less, Equal, Greater}
use Rattle.std.specs.Ordering.{ordering_reverse}
use Rattle.std.proofs.lemmas.List.{reverse-reverse, length-reverse, reverse-append}
use Rattle.zeta_model.specs.declared.Letter.{Letter}
use Rattle.zeta_model.specs.declared.Letter.TheVariants.{X, Y}
use Rattle.zeta_model.specs.Words.{word_cmp, is_y, begins_with_x, ends_with_y, is_admissible}
use Rattle.zeta_model.specs.Duality.{other_letter, dual_of, lesser_by, representative_of}
use Rattle.zeta_model.proofs.WordOrder.{word_cmp_total, word_cmp-IsAntisymmetric}

other_letter-other_letter : (a : Letter) → other_letter (other_letter a) ≡ a
other_letter-other_letter X = refl
other_letter-other_letter Y = refl

map-append_one : (w : List Letter) (a : Letter) → map other_letter (w ++ a ∷ []) ≡ map other_letter w ++ other_letter a ∷ []
map-append_one [] a = refl
map-append_one (b ∷ w) a = ap (λ v. other_letter b ∷ v) (map-append_one w a)

reverse-first : (a : Letter) (w : List Letter) → reverse (a ∷ w) ≡ reverse w ++ a ∷ []
reverse-first a w = reverse-append (a ∷ []) w

pub map-reverse : (w : List Letter) → map other_letter (reverse w) ≡ reverse (map other_letter w)
map-reverse [] = refl
map-reverse (a ∷ w) = ap (map other_letter) (reverse-first a w) ∙ map-append_one (reverse w) a ∙ ap (λ v. v ++ other_letter a ∷ []) (map-reverse w)
    ∙ sym (reverse-first (other_letter a) (map other_letter w))

map-map : (w : List Letter) → map other_letter (map other_letter w) ≡ w
map-map [] = refl
map-map (a ∷ w) = λ i. other_letter-other_letter a i ∷ map-map w i

pub dual_of-dual_of : (w : List Letter) → dual_of (dual_of w) ≡ w
dual_of-dual_of w = ap reverse (map-reverse (map other_letter w)) ∙ reverse-reverse (map other_letter (map other_letter w)) ∙ map-map w

length-map : (w : List Letter) → length (map other_letter w) ≡ length w
length-map [] = refl
length-map (a ∷ w) = ap suc (length-map w)

pub length-dual_of : (w : List Letter) → length (dual_of w) ≡ length w
length-dual_of w = length-reverse (map other_letter w) ∙ length-map w

-- the dual of a word with a first letter ends with the other letter
dual_of-first : (a : Letter) (w : List Letter) → dual_of (a ∷ w) ≡ dual_of w ++ other_letter a ∷ []
dual_of-first a w = reverse-first (other_letter a) (map other_letter w)

ends_with_y-append : (w : List Letter) (a : Letter) → ends_with_y (w ++ a ∷ []) ≡ is_y a
ends_with_y-append [] X = refl
ends_with_y-append [] Y = refl
ends_with_y-append (b ∷ []) X = refl
ends_with_y-append (b ∷ []) Y = refl
ends_with_y-append (b ∷ c ∷ w) a = ends_with_y-append (c ∷ w) a

ends_with_y-dual_of : (w : List Letter) → ends_with_y (dual_of w) ≡ begins_with_x w
ends_with_y-dual_of [] = refl
ends_with_y-dual_of (X ∷ w) = ap ends_with_y (dual_of-first X w) ∙ ends_with_y-append (dual_of w) Y
ends_with_y-dual_of (Y ∷ w) = ap ends_with_y (dual_of-first Y w) ∙ ends_with_y-append (dual_of w) X

begins_with_x-dual_of : (w : List Letter) → begins_with_x (dual_of w) ≡ ends_with_y w
begins_with_x-dual_of w = sym (ends_with_y-dual_of (dual_of w)) ∙ ap ends_with_y (dual_of-dual_of w)

both : (a b : Bool) → a && b ≡ b && a
both true true = refl
both true false = refl
both false true = refl
both false false = refl

pub is_admissible-dual_of : (w : List Letter) → is_admissible (dual_of w) ≡ is_admissible w
is_admissible-dual_of w = (λ i. begins_with_x-dual_of w i && ends_with_y-dual_of w i) ∙ both (ends_with_y w) (begins_with_x w)

lesser_by-turn : (o : Ordering) (u v : List Letter) → word_cmp u v ≡ o → lesser_by o u v ≡ lesser_by (ordering_reverse o) v u
lesser_by-turn Less u v e = refl
lesser_by-turn Equal u v e = word_cmp-IsAntisymmetric u v e
lesser_by-turn Greater u v e = refl

lesser_by-comm : (u v : List Letter) → lesser_by (word_cmp u v) u v ≡ lesser_by (word_cmp v u) v u
lesser_by-comm u v = lesser_by-turn (word_cmp u v) u v refl ∙ ap (λ o. lesser_by o v u) (sym (word_cmp_total.antisymm v u))

pub representative_of-dual_of : (w : List Letter) → representative_of (dual_of w) ≡ representative_of w
representative_of-dual_of w = ap (λ v. lesser_by (word_cmp (dual_of w) v) (dual_of w) v) (dual_of-dual_of w) ∙ lesser_by-comm (dual_of w) w

lesser_cases : (o : Ordering) (u v : List Letter) → (lesser_by o u v ≡ u) ⊎ (lesser_by o u v ≡ v)
lesser_cases Less u v = inl refl
lesser_cases Equal u v = inl refl
lesser_cases Greater u v = inr refl

pub representative_cases : (w : List Letter) → (representative_of w ≡ w) ⊎ (representative_of w ≡ dual_of w)
representative_cases w = lesser_cases (word_cmp w (dual_of w)) w (dual_of w)
