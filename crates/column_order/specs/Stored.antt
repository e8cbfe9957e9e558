-- How a list of at most 16 words is stored. No public clause cites this, so a reader need not believe it.
use Rattle.std.specs.Prelude.{◌≡◌, ℕ, ◌-◌, ◌≤◌, List, [], ◌++◌, length, take}
use Rattle.std.proofs.Common.{sym, ap, arith, length-append, replicate}
use Rattle.std.proofs.lemmas.List.{length-take, length-take-le, length-replicate}
use Rattle.zeta_model.specs.declared.Letter.{Letter}

-- the list, and the empty word at each of the 16 places behind it
abbrev pub filled : List (List Letter) → List (List Letter)
filled list = list ++ replicate (16 - length list) []

-- the first words are the list, and all others are empty
pub record IsFilled (words : List (List Letter)) (count : ℕ) : Type 0 where
  pub few : count ≤ 16
  pub rest : words ≡ filled (take count words)

pub length-filled : (list : List (List Letter)) → length list ≤ 16 → length (filled list) ≡ 16
length-filled list h = omega (arith, length-append list (replicate (16 - length list) []), length-replicate {A = List Letter} (16 - length list) [])

pub length-stored : (words : List (List Letter)) (count : ℕ) → IsFilled words count → length (take count words) ≡ count
length-stored words count f =
    let some : length (take count words) ≤ 16 = omega (arith, length-take count words, f.few) in
    length-take-le count words (omega (arith, ap length f.rest, length-filled (take count words) some, f.few))

pub filled-inverse : (words : List (List Letter)) (count : ℕ) → IsFilled words count
    → (filled (take count words) ≡ words) × (length (take count words) ≡ count)
filled-inverse words count f = (sym f.rest, length-stored words count f)
