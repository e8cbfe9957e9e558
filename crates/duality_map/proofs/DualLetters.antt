-- The dual of a word letter by letter.
pub use Rattle.zeta_model.proofs.DualityLaws.{representative_cases}
pub use Rattle.zeta_model.proofs.DepthLemmas.{depth_of-dual_of}
use Rattle.std.proofs.Common.{◌≡◌, ℕ, ◌+◌, List, [], ◌∷◌, ◌++◌, map, reverse, take, slice_get, Some, ap, ◌∙◌}
use Rattle.std.proofs.lemmas.List.{map-append, reverse-append, take_more}
use Rattle.std.proofs.lemmas.Option.{get_or_from_slice_get, slice_get_within}
use Rattle.zeta_model.specs.declared.Letter.{Letter}
use Rattle.zeta_model.specs.Duality.{other_letter, dual_of}

dual_of-push : (w : List Letter) (a : Letter) → dual_of (w ++ a ∷ []) ≡ other_letter a ∷ dual_of w
dual_of-push w a = ap reverse (map-append other_letter w (a ∷ [])) ∙ reverse-append (map other_letter w) (other_letter a ∷ [])

pub dual_of-take_more : (w : List Letter) (i : ℕ) (a : Letter) → slice_get w i ≡ Some a → dual_of (take (i + 1) w) ≡ other_letter a ∷ dual_of (take i w)
dual_of-take_more w i a e =
    ap dual_of (take_more w i a (slice_get_within w i a e) ∙ ap (λ b. take i w ++ b ∷ []) (get_or_from_slice_get w i a a e)) ∙ dual_of-push (take i w) a
