-- Parameters that agree in each part are the same.
use Rattle.std.proofs.Common.{◌≡◌, ℕ, ◌+◌, ◌≤◌, Bool, true, false, not, Some, List, [], ◌∷◌, ◌++◌, length, take, slice_get, refl, sym, ap, ◌∙◌}
use Rattle.std.specs.Ordering.{eq_by_cmp, is_eq}
use Rattle.std.specs.Cmp.{tied_itself}
use Rattle.std.proofs.lemmas.List.{take_all, take_more}
use Rattle.std.proofs.lemmas.Option.{slice_get_within, get_or_from_slice_get}
use Rattle.zeta_model.specs.declared.Letter.{Letter}
use Rattle.zeta_model.specs.Words.{word_cmp}
use Rattle.zeta_model.proofs.WordOrder.{word_cmp_total}
use Rattle.word_letters.specs.Order.{same_words}
use Rattle.page_codec.specs.declared.params.Params.{Params}

itself : (w : List Letter) → eq_by_cmp word_cmp w w ≡ true
itself w = ap is_eq (tied_itself word_cmp_total w)

not_false : (b : Bool) → not b ≡ false → b ≡ true
not_false true e = refl
not_false false e = absurd (cc e)

-- two lists with unlike words at one place
pub differ : (a b : List (List Letter)) (i : ℕ) (u v : List Letter) (r : Bool) → slice_get a i ≡ Some u → slice_get b i ≡ Some v
    → r ≡ not (eq_by_cmp word_cmp u v) → r ≡ true → ¬ (a ≡ b)
differ a b i u v r p q e t s =
    let both : Some u ≡ Some v = sym p ∙ ap (λ l. slice_get l i) s ∙ q in
    let same : u ≡ v = cc in
    let like : eq_by_cmp word_cmp u v ≡ true = ap (eq_by_cmp word_cmp u) (sym same) ∙ itself u in
    let none : true ≡ false = sym t ∙ e ∙ ap not like in
    absurd (cc none)

pub one_more : (a b : List (List Letter)) (i : ℕ) (u v : List Letter) (r : Bool) → slice_get a i ≡ Some u → slice_get b i ≡ Some v
    → r ≡ not (eq_by_cmp word_cmp u v) → r ≡ false → take i a ≡ take i b → take (i + 1) a ≡ take (i + 1) b
one_more a b i u v r p q e f so_far =
    let same : u ≡ v = same_words u v (not_false (eq_by_cmp word_cmp u v) (sym e ∙ f)) in
    let first : take (i + 1) a ≡ take i a ++ u ∷ [] =
    take_more a i u (slice_get_within a i u p) ∙ ap (λ w. take i a ++ w ∷ []) (get_or_from_slice_get a i u u p) in
    let second : take (i + 1) b ≡ take i b ++ v ∷ [] =
    take_more b i v (slice_get_within b i v q) ∙ ap (λ w. take i b ++ w ∷ []) (get_or_from_slice_get b i v v q) in
    first ∙ (λ k. so_far k ++ same k ∷ []) ∙ sym second

pub all_same : (a b : List (List Letter)) (i : ℕ) → length a ≤ i → length b ≤ i → take i a ≡ take i b → a ≡ b
all_same a b i h k e = sym (take_all i a h) ∙ e ∙ take_all i b k

pub same_parts : (a b : Params) → a.weight ≡ b.weight → a.depth ≡ b.depth → a.modulus ≡ b.modulus → a.order ≡ b.order → a.preferred ≡ b.preferred → a ≡ b
same_parts a b w d m o p i = record { weight = w i; depth = d i; modulus = m i; order = o i; preferred = p i }
