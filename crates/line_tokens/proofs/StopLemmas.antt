-- The walk over a line: what is accepted and what is passed from each spot on.
use Rattle.std.proofs.Common.{◌≡◌, ℕ, suc, ◌+◌, ◌<◌, Bool, true, false, Some, None, List, [], ◌∷◌, length, drop, get_or, refl, sym, ap, subst, ◌∙◌, add-one, drop_of_length-le, arith}
use Rattle.std.specs.Option.{option_map_or}
use Rattle.std.proofs.Math.Seq.{drop-cons}
use Rattle.line_tokens.specs.declared.spots.Spot.{Spot}
use Rattle.line_tokens.specs.declared.spots.Spot.TheVariants.{Between}
use Rattle.line_tokens.specs.Machine.{Machine, place_of, step, accepts, passed}
use Rattle.line_tokens.specs.Prefixes.{LongestPrefix, IsStop, Accepted, IsProductive}
use Rattle.line_tokens.proofs.PrefixLemmas.{longest_passed}

module _ {P : Type 0} (M : Machine P) (start : P) (line : List ℕ) where
  -- the walk has passed i bytes and stands at the spot
  pub record Going (s : Spot P) (i : ℕ) : Type 0 where
    pub same : accepts M s (drop i line) ≡ accepts M (Between start) line
    pub count : passed M s (drop i line) + i ≡ passed M (Between start) line

  head : (i : ℕ) → i < length line → drop i line ≡ get_or line i 0 ∷ drop (i + 1) line
  head i h = drop-cons line i 0 h ∙ ap (λ j. get_or line i 0 ∷ drop j line) (sym (add-one i))

  pub going_begins : Going (Between start) 0
  going_begins = record { same = refl; count = omega arith }

  pub going_on : (s t : Spot P) (i : ℕ) → i < length line → step M s (get_or line i 0) ≡ Some t → Going s i → Going t (i + 1)
  going_on s t i h e w =
      let rest = drop (i + 1) line in
      let a : accepts M s (drop i line) ≡ accepts M t rest = ap (accepts M s) (head i h) ∙ ap (λ o. option_map_or (λ t. accepts M t rest) o false) e in
      let n : passed M s (drop i line) ≡ suc (passed M t rest) = ap (passed M s) (head i h) ∙ ap (λ o. option_map_or (λ t. suc (passed M t rest)) o 0) e in
      let c = w.count in
      record { same = sym a ∙ w.same; count = omega arith }

  not_both : (b : Bool) → b ≡ false → b ≡ true → ⊥
  not_both b e f = let g : false ≡ true = sym e ∙ f in cc

  module _ (tails : (p : P) → IsProductive M p) where
    at_passed : (n : ℕ) → passed M (Between start) line ≡ n → accepts M (Between start) line ≡ false → IsStop (Accepted M start) line n
    at_passed n e f = (
      not_both _ f,
      subst (LongestPrefix (Accepted M start) line) e
          (longest_passed M tails (Accepted M start) (Between start) (λ l. (λ a. a, λ a. a)) line),
    )

    pub stuck : (s : Spot P) (i : ℕ) → i < length line → step M s (get_or line i 0) ≡ None → Going s i → IsStop (Accepted M start) line i
    stuck s i h e w =
        let rest = drop (i + 1) line in
        let a : accepts M s (drop i line) ≡ false = ap (accepts M s) (head i h) ∙ ap (λ o. option_map_or (λ t. accepts M t rest) o false) e in
        let n : passed M s (drop i line) ≡ 0 = ap (passed M s) (head i h) ∙ ap (λ o. option_map_or (λ t. suc (passed M t rest)) o 0) e in
        let c = w.count in
        at_passed i (omega arith) (sym w.same ∙ a)

    pub ended : (s : Spot P) (i : ℕ) → i ≡ length line → Going s i
        → (accepts M (Between start) line ≡ M.ends (place_of s)) × (M.ends (place_of s) ≡ false → IsStop (Accepted M start) line i)
    ended s i h w =
        let z : drop i line ≡ [] = drop_of_length-le line (omega arith) in
        let a : accepts M (Between start) line ≡ M.ends (place_of s) = sym w.same ∙ ap (accepts M s) z in
        let n : passed M s (drop i line) ≡ 0 = ap (passed M s) z in
        let c = w.count in
        (a, λ e. at_passed i (omega arith) (a ∙ e))
