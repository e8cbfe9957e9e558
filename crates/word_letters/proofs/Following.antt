-- The reading of the first i bytes, and what it tells of all of them.
use Rattle.std.proofs.Common.{◌≡◌, ℕ, zero, suc, ◌+◌, ◌<◌, ◌≤◌, Option, Some, None, List, [], ◌∷◌, ◌++◌, length, take, drop, get_or, refl, sym, ap, subst, ◌∙◌, inl, inr, arith}
use Rattle.std.specs.Option.{option_and_then}
use Rattle.std.proofs.lemmas.List.{append_assoc, append-nil, take_more, take-append-drop, take_all}
use Rattle.std.proofs.lemmas.Bool.{cases_lt}
use Rattle.word_letters.specs.declared.parse.Place.{Place}
use Rattle.word_letters.specs.declared.parse.Place.TheVariants.{Start, End}
use Rattle.word_letters.specs.Inner.{place_after, whole_after, read}
use Rattle.word_letters.specs.IndexText.{IsIndexText, IsWellFormed, BeginsText, IsLongestBeginning}
use Rattle.word_letters.proofs.Reading.{read-append, read-index_text}
use Rattle.word_letters.proofs.Meaning.{Means, Means-step, BeginsText-of_Means}

-- the place and the whole numbers behind the bytes `front`
pub record Follows (front : List ℕ) (place : Place) (ks : List ℕ) : Type 0 where
  pub reads : read Start [] front ≡ Some (place, ks)
  pub means : Means place ks front

pub Follows-start : Follows [] Start []
Follows-start = record { reads = refl; means = (refl, refl) }

read_one : (front : List ℕ) (place : Place) (ks : List ℕ) (b : ℕ) → read Start [] front ≡ Some (place, ks)
    → read Start [] (front ++ b ∷ []) ≡ option_and_then (λ next. Some (next, whole_after place b ks)) (place_after place b)
read_one front place ks b e = read-append Start [] front (b ∷ []) ∙ ap (option_and_then (λ s. read s.0 s.1 (b ∷ []))) e

pub Follows-step : (front : List ℕ) (place q : Place) (ks : List ℕ) (b : ℕ) → Follows front place ks → place_after place b ≡ Some q
    → Follows (front ++ b ∷ []) q (whole_after place b ks)
Follows-step front place q ks b f e =
    record {
      reads = read_one front place ks b f.reads ∙ ap (option_and_then (λ next. Some (next, whole_after place b ks))) e;
      means = Means-step place q ks front b f.means e;
    }

-- a byte that may not stand is in no text behind them
no_text : (front : List ℕ) (place : Place) (ks : List ℕ) (b : ℕ) → Follows front place ks → place_after place b ≡ None → (rest : List ℕ)
    → IsWellFormed ((front ++ b ∷ []) ++ rest) → ⊥
no_text front place ks b f e rest (ms, t) =
    let failed : read Start [] (front ++ b ∷ []) ≡ None =
    read_one front place ks b f.reads ∙ ap (option_and_then (λ next. Some (next, whole_after place b ks))) e in
    let all : read Start [] ((front ++ b ∷ []) ++ rest) ≡ None =
    read-append Start [] (front ++ b ∷ []) rest ∙ ap (option_and_then (λ s. read s.0 s.1 rest)) failed in
    let whole : read Start [] ((front ++ b ∷ []) ++ rest) ≡ Some (End, ms) = read-index_text _ ms t in
    let N : Option (Place × List ℕ) = None in
    let both : N ≡ Some (End, ms) = sym all ∙ whole in
    cc

take_take : (i n : ℕ) (bytes : List ℕ) → i ≤ n → take i (take n bytes) ≡ take i bytes
take_take zero n bytes h = refl
take_take (suc i) zero bytes h = absurd (omega arith)
take_take (suc i) (suc n) [] h = refl
take_take (suc i) (suc n) (b ∷ bytes) h = ap (λ t. b ∷ t) (take_take i n bytes (omega arith))

-- a prefix that is longer than i has the byte at i
longer : (bytes : List ℕ) (i n b : ℕ) → i < n → i < length bytes → get_or bytes i 0 ≡ b
    → take n bytes ≡ (take i bytes ++ b ∷ []) ++ drop (i + 1) (take n bytes)
longer bytes i n b h l e =
    sym (take-append-drop (i + 1) (take n bytes))
    ∙ ap (λ t. t ++ drop (i + 1) (take n bytes)) (take_take (i + 1) n bytes (omega arith) ∙ take_more bytes i 0 l ∙ ap (λ c. take i bytes ++ c ∷ []) e)

module _ (bytes : List ℕ) (i b : ℕ) (place : Place) (ks : List ℕ) (f : Follows (take i bytes) place ks) (l : i < length bytes) (at : get_or bytes i 0 ≡ b)
    (e : place_after place b ≡ None) where
  begins_no_more : (n : ℕ) → i < n → BeginsText (take n bytes) → ⊥
  begins_no_more n h (rest, t) =
      let back : take n bytes ++ rest ≡ (take i bytes ++ b ∷ []) ++ (drop (i + 1) (take n bytes) ++ rest) =
      ap (λ t. t ++ rest) (longer bytes i n b h l at) ∙ append_assoc (take i bytes ++ b ∷ []) (drop (i + 1) (take n bytes)) rest in
      no_text (take i bytes) place ks b f e (drop (i + 1) (take n bytes) ++ rest) (subst IsWellFormed back t)

  not_longer : (n : ℕ) → n ≤ length bytes → BeginsText (take n bytes) → n ≤ i
  not_longer n h t = elim (cases_lt i n) [ inl h ↦ absurd (begins_no_more n h t) | inr h ↦ h ]

  pub stuck-longest : IsLongestBeginning bytes i
  stuck-longest = record { within = omega arith; begins = BeginsText-of_Means place ks (take i bytes) f.means; longest = not_longer }

  pub stuck-none : IsWellFormed bytes → ⊥
  stuck-none (ms, t) =
      let whole : take (length bytes) bytes ≡ bytes = take_all (length bytes) bytes (omega arith) in
      begins_no_more (length bytes) l ([], subst IsWellFormed (sym (ap (λ t. t ++ []) whole ∙ append-nil bytes)) (ms, t))

abbrev place_in : Option (Place × List ℕ) → Place
place_in None = End
place_in (Some s) = s.0

-- at the end of the bytes
module _ (bytes : List ℕ) (place : Place) (ks : List ℕ) (f : Follows bytes place ks) where
  pub unfinished-longest : IsLongestBeginning bytes (length bytes)
  unfinished-longest =
      let whole : take (length bytes) bytes ≡ bytes = take_all (length bytes) bytes (omega arith) in
      record { within = omega arith; begins = subst BeginsText (sym whole) (BeginsText-of_Means place ks bytes f.means); longest = λ n h t. h }

  pub unfinished-none : (place ≡ End → ⊥) → IsWellFormed bytes → ⊥
  unfinished-none open' (ms, t) =
      let both : Some (place, ks) ≡ Some (End, ms) = sym f.reads ∙ read-index_text bytes ms t in
      open' (ap place_in both)

  pub finished : place ≡ End → IsIndexText bytes ks
  finished e = let P : Place → Type 0 = λ p. Means p ks bytes in subst P e f.means
