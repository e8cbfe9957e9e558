-- Where a machine stops is the end of the longest prefix of a line.
use Rattle.std.proofs.Common.{◌≡◌, ℕ, zero, suc, ◌≤◌, true, false, Some, None, List, [], ◌∷◌, ◌++◌, length, take, refl, ap, ◌∙◌, arith}
use Rattle.std.specs.Prelude.{◌↔◌}
use Rattle.std.specs.Option.{option_map_or}
use Rattle.line_tokens.specs.Machine.{Machine, step, accepts, passed}
use Rattle.line_tokens.specs.declared.spots.Spot.{Spot}
use Rattle.line_tokens.specs.declared.spots.Spot.TheVariants.{Between, Within}
use Rattle.line_tokens.specs.Prefixes.{LongestPrefix, IsStop, IsProductive}

module _ {P : Type 0} (M : Machine P) where
  passed_within : (bytes : List ℕ) (s : Spot P) → passed M s bytes ≤ length bytes
  passed_within [] s = omega arith
  passed_within (b ∷ bytes) s =
      elim (step M s b) as (λ o. option_map_or (λ t. suc (passed M t bytes)) o 0 ≤ suc (length bytes))
      [ None ↦ omega arith | Some t ↦ omega (arith, passed_within bytes t) ]

  -- no more of the bytes begin what is accepted
  passed_longest : (bytes : List ℕ) (s : Spot P) (k : ℕ) (tail : List ℕ) → k ≤ length bytes → accepts M s (take k bytes ++ tail) ≡ true
      → k ≤ passed M s bytes
  passed_longest bytes s zero tail h e = omega arith
  passed_longest [] s (suc k) tail h e = h
  passed_longest (b ∷ bytes) s (suc k) tail h e =
      elim (step M s b) as (λ o. option_map_or (λ t. accepts M t (take k bytes ++ tail)) o false ≡ true
      → suc k ≤ option_map_or (λ t. suc (passed M t bytes)) o 0)
      [ None ↦ λ e. cc | Some t ↦ λ e. omega (arith, passed_longest bytes t k tail (omega arith) e) ] e

  module _ (tails : (p : P) → IsProductive M p) where
    -- from each spot some bytes end a line; in a run a blank comes first
    ending_of : (s : Spot P) → (tail : List ℕ) × (accepts M s tail ≡ true)
    ending_of (Between p) = tails p
    ending_of (Within p k) = let t = tails p in (32 ∷ t.0, t.1)

    passed_begins : (bytes : List ℕ) (s : Spot P) → (tail : List ℕ) × (accepts M s (take (passed M s bytes) bytes ++ tail) ≡ true)
    passed_begins [] s = ending_of s
    passed_begins (b ∷ bytes) s =
        elim (step M s b) as (λ o. step M s b ≡ o
        → (tail : List ℕ) × (accepts M s (take (option_map_or (λ t. suc (passed M t bytes)) o 0) (b ∷ bytes) ++ tail) ≡ true)) [
          | None ↦ λ e. ending_of s
          | Some t ↦ λ e. let r = passed_begins bytes t in
              (r.0, ap (λ o. option_map_or (λ u. accepts M u (take (passed M t bytes) bytes ++ r.0)) o false) e ∙ r.1)
        ]
        refl

    -- for a language that the machine accepts, the bytes that it passes are the longest prefix of a line
    pub longest_passed : (IsLine : List ℕ → Type 0) (s : Spot P) → ((line : List ℕ) → IsLine line ↔ (accepts M s line ≡ true)) → (line : List ℕ)
        → LongestPrefix IsLine line (passed M s line)
    longest_passed IsLine s same line =
        let b = passed_begins line s in
        record {
          within = passed_within line s;
          begins = (b.0, (same (take (passed M s line) line ++ b.0)).1 b.1);
          longest = λ k h t. passed_longest line s k t.0 h ((same (take k line ++ t.0)).0 t.1);
        }

-- there is one longest prefix
pub longest_is_one : (IsLine : List ℕ → Type 0) (line : List ℕ) (n k : ℕ) → LongestPrefix IsLine line n → LongestPrefix IsLine line k → n ≡ k
longest_is_one IsLine line n k p q =
    let a = p.longest k q.within q.begins in
    let b = q.longest n p.within p.begins in
    omega arith

-- what a machine accepts may be said in other words
pub stop_in_words : (A B : List ℕ → Type 0) → ((line : List ℕ) → A line ↔ B line) → (line : List ℕ) (n : ℕ) → IsStop A line n → IsStop B line n
stop_in_words A B same line n s =
    let l = s.1 in (
      λ b. s.0 ((same line).1 b),
      record {
        within = l.within;
        begins = (l.begins.0, (same (take n line ++ l.begins.0)).0 l.begins.1);
        longest = λ k h t. l.longest k h (t.0, (same (take k line ++ t.0)).1 t.1);
      },
    )
