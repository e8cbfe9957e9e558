-- The value of the last run stays below the limit of the place.
use Rattle.std.proofs.Common.{◌≡◌, ℕ, zero, suc, ◌+◌, ◌-◌, ◌*◌, ◌^◌, ◌<◌, ◌≤◌, true, false, cond, leb, Option, Some, None, refl, sym, ap, subst, ◌∙◌, arith}
use Rattle.std.specs.Prelude.{option_map, option_and_then, IsSome}
use Rattle.std.proofs.lemmas.Bool.{leb-true}
use Rattle.std.proofs.Math.Nat.{pow-succ', mul-le-mul_right, mul-le-mul_left}
use Rattle.line_tokens.specs.declared.marks.Mark.{Mark}
use Rattle.line_tokens.specs.declared.spots.Run.{Run}
use Rattle.line_tokens.specs.declared.spots.Spot.{Spot}
use Rattle.line_tokens.specs.declared.spots.Spot.TheVariants.{Between, Within}
use Rattle.line_tokens.specs.Tokens.{is_blank, is_digit}
use Rattle.line_tokens.specs.Marks.{mark_of}
use Rattle.line_tokens.specs.Machine.{Machine, place_of, step, first_digit, after_digit, number_after}
use Rattle.line_tokens.specs.Limits.{HoldsRuns, HoldsMarks, IsHeld}
use Rattle.line_tokens.proofs.MarkLemmas.{by_if, and-true, is_digit-blank, mark_of-blank, mark_of-digit}

at_least_one : (k : ℕ) → 1 ≤ 10 ^ k
at_least_one zero = omega arith
at_least_one (suc k) = omega (arith, at_least_one k)

times_one : (n m k : ℕ) → n * k ≤ m → 1 ≤ k → n ≤ m
times_one n m k h p = let a : n * 1 ≤ n * k = mul-le-mul_left n p in omega arith

-- one more digit
pub one_more : (n d k m : ℕ) → d ≤ 9 → (n + 1) * 10 ^ suc k ≤ m → (10 * n + d + 1) * 10 ^ k ≤ m
one_more n d k m h l =
    let a : (10 * n + d + 1) * 10 ^ k ≤ (10 * (n + 1)) * 10 ^ k = mul-le-mul_right (10 ^ k) (omega arith) in
    let e : (n + 1) * 10 ^ suc k ≡ (n + 1) * (10 * 10 ^ k) = ap (λ v. (n + 1) * v) (pow-succ' 10 k) in
    let f : (10 * (n + 1)) * 10 ^ k ≡ (n + 1) * (10 * 10 ^ k) = omega arith in
    omega arith

one_digit : (d k m : ℕ) → d ≤ 9 → 10 * 10 ^ k ≤ m → (d + 1) * 10 ^ k ≤ m
one_digit d k m h l = let a : (d + 1) * 10 ^ k ≤ 10 * 10 ^ k = mul-le-mul_right (10 ^ k) (omega arith) in omega arith

pub digit_small : (b : ℕ) → is_digit b ≡ true → b - 48 ≤ 9
digit_small b e = let a = leb-true b 57 (and-true _ _ e).1 in omega (arith, a)

module _ {P : Type 0} (M : Machine P) (limit : P → ℕ) (runs : HoldsRuns M limit) (marks : HoldsMarks M limit) where
  pub held_small : (s : Spot P) (n : ℕ) → IsHeld limit s n → n < limit (place_of s)
  held_small (Between p) n h = h
  held_small (Within p k) n h = let a : n + 1 ≤ limit p = times_one (n + 1) (limit p) (10 ^ k) h (at_least_one k) in omega arith

  kept_number : (s : Spot P) (n b : ℕ) → is_digit b ≡ false → number_after s n b ≡ n
  kept_number (Between p) n b h = ap (λ t. cond t (b - 48) n) h
  kept_number (Within p k) n b h = ap (λ t. cond t (10 * n + (b - 48)) n) h

  held_between : (s : Spot P) (q : P) (n b : ℕ) → is_digit b ≡ false → limit (place_of s) ≤ limit q → IsHeld limit s n
      → IsHeld limit (Between q) (number_after s n b)
  held_between s q n b e l h = let a = held_small s n h in let f = kept_number s n b e in omega arith

  held_first : (p : P) (n b : ℕ) (t : Spot P) (o : Option (Run P)) → M.run_at p ≡ o → is_digit b ≡ true → first_digit o b ≡ Some t
      → IsHeld limit t (number_after (Between p) n b)
  held_first p n b t None e d f = cc
  held_first p n b t (Some r) e d f =
      by_if (λ (o : Option (Spot P)). o) (leb r.lowest b) _ _ (Some t) (IsHeld limit t (number_after (Between p) n b)) f
      (λ _ g.
      let same : Within r.next r.more ≡ t = cc in
      let num : b - 48 ≡ number_after (Between p) n b = sym (ap (λ t. cond t (b - 48) n) d) in
      subst (λ t. IsHeld limit t (number_after (Between p) n b)) same
      (subst (λ v. (v + 1) * 10 ^ r.more ≤ limit r.next) num (one_digit (b - 48) r.more (limit r.next) (digit_small b d) (runs p r e))))
      (λ _ g. cc)

  held_digit : (s : Spot P) (n b : ℕ) (t : Spot P) → is_digit b ≡ true → after_digit M s b ≡ Some t → IsHeld limit s n → IsHeld limit t (number_after s n b)
  held_digit (Between p) n b t d f h = held_first p n b t (M.run_at p) refl d f
  held_digit (Within p zero) n b t d f h = cc
  held_digit (Within p (suc k)) n b t d f h =
      let same : Within p k ≡ t = cc in
      let num : 10 * n + (b - 48) ≡ number_after (Within p (suc k)) n b = sym (ap (λ t. cond t (10 * n + (b - 48)) n) d) in
      subst (λ t. IsHeld limit t (number_after (Within p (suc k)) n b)) same
      (subst (λ v. (v + 1) * 10 ^ k ≤ limit p) num (one_more n (b - 48) k (limit p) (digit_small b d) h))

  held_mark : (s : Spot P) (n b : ℕ) (t : Spot P) (o : Option Mark) → is_digit b ≡ false
      → option_map Between (option_and_then (M.after_mark (place_of s)) o) ≡ Some t → IsHeld limit s n → IsHeld limit t (number_after s n b)
  held_mark s n b t None d f h = cc
  held_mark s n b t (Some m) d f h =
      elim (M.after_mark (place_of s) m) as (λ o. M.after_mark (place_of s) m ≡ o → option_map Between o ≡ Some t → IsHeld limit t (number_after s n b)) [
        | None ↦ λ e f. cc
        | Some q ↦ λ e f. let same : Between q ≡ t = cc in
            subst (λ t. IsHeld limit t (number_after s n b)) same (held_between s q n b d (marks (place_of s) q m e) h)
      ] refl f

  pub held_after : (s : Spot P) (n b : ℕ) (t : Spot P) → step M s b ≡ Some t → IsHeld limit s n → IsHeld limit t (number_after s n b)
  held_after s n b t e h =
      let f = λ (o : Option (Spot P)). o in
      by_if f (is_blank b) _ _ (Some t) (IsHeld limit t (number_after s n b)) e
      (λ blank g. let same : Between (place_of s) ≡ t = cc in
      subst (λ t. IsHeld limit t (number_after s n b)) same (held_between s (place_of s) n b (is_digit-blank b blank) (omega arith) h))
      (λ _ g. by_if f (is_digit b) _ _ (Some t) (IsHeld limit t (number_after s n b)) g
      (λ d g. held_digit s n b t d g h)
      (λ d g. held_mark s n b t (mark_of b) d g h))

  stands : (o : Option P) (t : Spot P) → option_map Between o ≡ Some t → IsSome o
  stands None t e = cc
  stands (Some q) t e = refl

  pub mark_stands : (s : Spot P) (b : ℕ) (t : Spot P) (m : Mark) → mark_of b ≡ Some m → step M s b ≡ Some t → IsSome (M.after_mark (place_of s) m)
  mark_stands s b t m e g =
      by_if (λ (o : Option (Spot P)). o) (is_blank b) _ _ (Some t) (IsSome (M.after_mark (place_of s) m)) g
      (λ blank _. let f : None ≡ Some m = sym (mark_of-blank b blank) ∙ e in cc)
      (λ _ g. by_if (λ (o : Option (Spot P)). o) (is_digit b) _ _ (Some t) (IsSome (M.after_mark (place_of s) m)) g
      (λ d _. let f : None ≡ Some m = sym (mark_of-digit b d) ∙ e in cc)
      (λ _ g. let f : option_map Between (M.after_mark (place_of s) m)
      ≡ Some t = sym (ap (λ o. option_map Between (option_and_then (M.after_mark (place_of s)) o)) e) ∙ g in stands (M.after_mark (place_of s) m) t f))

below_all : (n l a b : ℕ) → n < l → l ≤ a → a ≤ b → n < b
below_all n l a b h k j = omega arith

-- 38 digits fit 128 bits
pub fits_width : (n l : ℕ) → n < l → l ≤ 10 ^ 38 → n < 2 ^ 128
fits_width n l h k = below_all n l (10 ^ 38) (2 ^ 128) h k (leb-true (10 ^ 38) (2 ^ 128) refl)
