-- The walk that makes something of a line.
use Rattle.std.proofs.Common.{◌≡◌, ℕ, ◌+◌, ◌<◌, ◌≤◌, true, false, cond, Option, Some, None, List, [], ◌∷◌, length, drop, get_or, refl, sym, ap, ◌∙◌, add-one, drop_of_length-le}
use Rattle.std.specs.Prelude.{option_and_then, is_some}
use Rattle.std.specs.Option.{option_map_or}
use Rattle.std.proofs.Math.Seq.{drop-cons}
use Rattle.line_tokens.specs.declared.marks.Mark.{Mark}
use Rattle.line_tokens.specs.declared.spots.Spot.{Spot}
use Rattle.line_tokens.specs.declared.spots.Spot.TheVariants.{Between}
use Rattle.line_tokens.specs.Marks.{mark_of}
use Rattle.line_tokens.specs.Machine.{Machine, Maker, place_of, step, number_after, made_after, read}
use Rattle.line_tokens.specs.Limits.{HoldsRuns, HoldsMarks, IsHeld}
use Rattle.line_tokens.specs.Prefixes.{Accepted}
use Rattle.line_tokens.proofs.CompleteMachine.{is_some-read}
use Rattle.line_tokens.proofs.HeldNumbers.{held_after}

module _ {P D : Type 0} (M : Machine P) (K : Maker P D) (limit : P → ℕ) (start : P) (before : D) (line : List ℕ) where
  abbrev pub whole : Option D
  whole = read M K (Between start) 0 before line

  -- the walk stands at the spot behind i bytes
  pub record Making (s : Spot P) (n : ℕ) (d : D) (i : ℕ) : Type 0 where
    pub same : read M K s n d (drop i line) ≡ whole
    pub held : IsHeld limit s n

  pub making_begins : 0 < limit start → Making (Between start) 0 before 0
  making_begins h = record { same = refl; held = h }

  head : (i : ℕ) → i < length line → drop i line ≡ get_or line i 0 ∷ drop (i + 1) line
  head i h = drop-cons line i 0 h ∙ ap (λ j. get_or line i 0 ∷ drop j line) (sym (add-one i))

  none_read : Accepted M start line → whole ≡ None → ⊥
  none_read a e = let f : false ≡ true = sym (ap is_some e) ∙ is_some-read M K line (Between start) 0 before ∙ a in cc

  step_read : (s : Spot P) (n : ℕ) (d : D) (i : ℕ) (o : Option (Spot P)) → i < length line → step M s (get_or line i 0) ≡ o → Making s n d i
      → option_and_then (λ t. read M K t (number_after s n (get_or line i 0)) (made_after K s n d (get_or line i 0)) (drop (i + 1) line)) o ≡ whole
  step_read s n d i o h e w =
      sym (ap (read M K s n d) (head i h)
      ∙ ap (λ o. option_and_then (λ t. read M K t (number_after s n (get_or line i 0)) (made_after K s n d (get_or line i 0)) (drop (i + 1) line)) o) e)
      ∙ w.same

  pub never_stuck : Accepted M start line → (s : Spot P) (n : ℕ) (d : D) (i : ℕ) → i < length line → step M s (get_or line i 0) ≡ None → Making s n d i → ⊥
  never_stuck a s n d i h e w = none_read a (sym (step_read s n d i None h e w))

  -- a byte that spells a mark, and one that spells none
  marked : (s : Spot P) (n : ℕ) (d : D) (b : ℕ) (m : Mark) → mark_of b ≡ Some m → made_after K s n d b ≡ K.on_mark (place_of s) m n d
  marked s n d b m e = ap (λ o. option_map_or (λ m. K.on_mark (place_of s) m n d) o d) e

  unmarked : (s : Spot P) (n : ℕ) (d : D) (b : ℕ) → mark_of b ≡ None → made_after K s n d b ≡ d
  unmarked s n d b e = ap (λ o. option_map_or (λ m. K.on_mark (place_of s) m n d) o d) e

  module _ (runs : HoldsRuns M limit) (marks : HoldsMarks M limit) where
    goes_on : (s t : Spot P) (n : ℕ) (d e : D) (i : ℕ) → i < length line → step M s (get_or line i 0) ≡ Some t → made_after K s n d (get_or line i 0) ≡ e
        → Making s n d i → Making t (number_after s n (get_or line i 0)) e (i + 1)
    goes_on s t n d e i h go made w = record {
      same = ap (λ v. read M K t (number_after s n (get_or line i 0)) v (drop (i + 1) line)) (sym made) ∙ step_read s n d i (Some t) h go w;
      held = held_after M limit runs marks s n (get_or line i 0) t go w.held;
    }

    pub goes_on_marked : (s t : Spot P) (n : ℕ) (d : D) (i : ℕ) (m : Mark) → i < length line → step M s (get_or line i 0) ≡ Some t
        → mark_of (get_or line i 0) ≡ Some m → Making s n d i → Making t (number_after s n (get_or line i 0)) (K.on_mark (place_of s) m n d) (i + 1)
    goes_on_marked s t n d i m h go e w = goes_on s t n d (K.on_mark (place_of s) m n d) i h go (marked s n d (get_or line i 0) m e) w

    pub goes_on_unmarked : (s t : Spot P) (n : ℕ) (d : D) (i : ℕ) → i < length line → step M s (get_or line i 0) ≡ Some t → mark_of (get_or line i 0) ≡ None
        → Making s n d i → Making t (number_after s n (get_or line i 0)) d (i + 1)
    goes_on_unmarked s t n d i h go e w = goes_on s t n d d i h go (unmarked s n d (get_or line i 0) e) w

  pub made_whole : Accepted M start line → (s : Spot P) (n : ℕ) (d : D) (i : ℕ) → length line ≤ i → Making s n d i
      → whole ≡ Some (K.at_end (place_of s) n d)
  made_whole a s n d i h w =
      let e : read M K s n d [] ≡ whole = ap (read M K s n d) (sym (drop_of_length-le line h)) ∙ w.same in
      elim (M.ends (place_of s)) as (λ t. cond t (Some (K.at_end (place_of s) n d)) None ≡ whole → whole ≡ Some (K.at_end (place_of s) n d))
      [ true ↦ λ e. sym e | false ↦ λ e. absurd (none_read a (sym e)) ] e
