-- Index texts: which bytes are one, how far other bytes go along with one, and why bytes give no word.
use Rattle.std.specs.Prelude.{◌≡◌, ℕ, ◌≤◌, ◌<◌, List, ◌∷◌, ◌++◌, codes, length, take, sum, All}
use Rattle.std.specs.List.{flat_map}
use Rattle.std.specs.Fmt.{decimal}
use Rattle.zeta_model.specs.Indices.{index_text}
use Rattle.word_letters.specs.declared.fault.TextFault.{TextFault}
use Rattle.word_letters.specs.declared.fault.TextFault.TheVariants.{BadText, ZeroIndex, TooLong}

-- `z(`, numbers of 0 to 9999 without leading zeros and with commas between them, then `)`
pub record IsIndexText (bytes ks : List ℕ) : Type 0 where
  pub some : 0 < length ks
  pub small : All (λ k. k ≤ 9999) ks
  pub text : bytes ≡ index_text ks

abbrev pub IsWellFormed : List ℕ → Type 0
IsWellFormed bytes = (ks : List ℕ) × IsIndexText bytes ks

abbrev pub BeginsText : List ℕ → Type 0
BeginsText front = (rest : List ℕ) × IsWellFormed (front ++ rest)

-- `at` is the length of the longest prefix that begins a well-formed text
pub record IsLongestBeginning (bytes : List ℕ) (at : ℕ) : Type 0 where
  pub within : at ≤ length bytes
  pub begins : BeginsText (take at bytes)
  pub longest : (n : ℕ) → n ≤ length bytes → BeginsText (take n bytes) → n ≤ at

-- what stands before the number behind the numbers ks
abbrev pub before_number : List ℕ → List ℕ
before_number ks = codes "z(" ++ flat_map (λ k. decimal k ++ codes ",") ks

-- `at` is the byte of the first zero of the index
pub record IsZeroByte (ks : List ℕ) (at : ℕ) : Type 0 where
  pub front : List ℕ
  pub rest : List ℕ
  pub parts : ks ≡ front ++ 0 ∷ rest
  pub positive : All (λ k. 0 < k) front
  pub place : at ≡ length (before_number front)

-- the bytes give no word, and this is the first cause
abbrev pub Refuses : List ℕ → TextFault → Type 0
Refuses bytes (BadText at) = (¬ (IsWellFormed bytes)) × IsLongestBeginning bytes at
Refuses bytes (ZeroIndex at) = (ks : List ℕ) × IsIndexText bytes ks × IsZeroByte ks at
Refuses bytes (TooLong n) = (ks : List ℕ) × IsIndexText bytes ks × All (λ k. 0 < k) ks × (n ≡ sum ks) × (24 < n)
