-- What the loop over the bytes of an index text keeps.
use Rattle.std.proofs.Common.{◌≡◌, ℕ, ◌+◌, ◌*◌, ◌<◌, ◌≤◌, Option, Some, None, List, [], ◌∷◌, ◌++◌, length, take, get_or, sym, ap, subst, ◌∙◌, arith}
use Rattle.std.proofs.lemmas.List.{take_more, length-take}
use Rattle.zeta_model.specs.declared.Letter.{Letter}
use Rattle.zeta_model.specs.Indices.{z_word}
use Rattle.word_letters.specs.declared.parse.Place.{Place}
use Rattle.word_letters.specs.declared.parse.Place.TheVariants.{Start}
use Rattle.word_letters.specs.Inner.{place_after, whole_number, zero_after, whole_after}
use Rattle.word_letters.proofs.Following.{Follows, Follows-start, Follows-step}
use Rattle.word_letters.proofs.Totals.{Totals, Totals-start, Totals-push, whole_after-same, EndsNumber-from}

pub record Kept (bytes : List ℕ) (i : ℕ) (place : Place) (weight : ℕ) (zero' : Option ℕ) (w : List Letter) : Type 0 where
  pub numbers : List ℕ
  pub follows : Follows (take i bytes) place numbers
  pub totals : Totals numbers weight zero' w
  pub room : weight ≤ 9999 * i

pub Kept-start : (bytes : List ℕ) → Kept bytes 0 Start 0 None []
Kept-start bytes = record { numbers = []; follows = Follows-start; totals = Totals-start; room = omega arith }

module _ (bytes : List ℕ) (i b : ℕ) (place q : Place) (weight : ℕ) (zero' : Option ℕ) (w : List Letter) (k : Kept bytes i place weight zero' w)
    (l : i < length bytes) (at : get_or bytes i 0 ≡ b) (e : place_after place b ≡ Some q) where
  follows_more : Follows (take (i + 1) bytes) q (whole_after place b k.numbers)
  follows_more =
      let more : take (i + 1) bytes ≡ take i bytes ++ b ∷ [] = take_more bytes i 0 l ∙ ap (λ c. take i bytes ++ c ∷ []) at in
      subst (λ front. Follows front q (whole_after place b k.numbers)) (sym more) (Follows-step (take i bytes) place q k.numbers b k.follows e)

  pub Kept-same : whole_number place b ≡ None → Kept bytes (i + 1) q weight zero' w
  Kept-same n =
      let room = k.room in
      record {
        numbers = whole_after place b k.numbers;
        follows = follows_more;
        totals = subst (λ ks. Totals ks weight zero' w) (sym (whole_after-same place b k.numbers n)) k.totals;
        room = omega arith;
      }

  module _ (m : ℕ) (n : whole_number place b ≡ Some m) where
    pub whole_number-some : 0 < i
    whole_number-some =
        let ends = EndsNumber-from place b m k.numbers (take i bytes) n k.follows.means in
        omega (arith, ends.some, length-take i bytes)

    pub whole_number-small : m ≤ 9999
    whole_number-small = (EndsNumber-from place b m k.numbers (take i bytes) n k.follows.means).small

    pub Kept-whole : (w' : List Letter) → (0 < m → length w + m ≤ 24 → w' ≡ w ++ z_word m) → Kept bytes (i + 1) q (weight + m) (zero_after zero' i m) w'
    Kept-whole w' h =
        let ends = EndsNumber-from place b m k.numbers (take i bytes) n k.follows.means in
        let room = k.room in
        let length_i : i ≡ length (take i bytes) = omega (arith, length-take i bytes) in
        record {
          numbers = whole_after place b k.numbers;
          follows = follows_more;
          totals = subst (λ ks. Totals ks (weight + m) (zero_after zero' i m) w') (sym ends.whole)
              (Totals-push k.numbers m i weight zero' w w' k.totals (length_i ∙ ap length ends.text) h);
          room = omega (arith, ends.small);
        }

-- the same fact of other names of the values
pub Kept-along : (bytes : List ℕ) (i : ℕ) (p q : Place) (m n : ℕ) (y z : Option ℕ) (v w : List Letter) → q ≡ p → n ≡ m → z ≡ y → w ≡ v
    → Kept bytes i p m y v → Kept bytes i q n z w
Kept-along bytes i p q m n y z v w ep em ey ev k =
    record {
      numbers = k.numbers;
      follows = subst (λ r. Follows (take i bytes) r k.numbers) (sym ep) k.follows;
      totals =
          subst (λ r. Totals k.numbers r z w) (sym em)
          (subst (λ r. Totals k.numbers m r w) (sym ey) (subst (λ r. Totals k.numbers m y r) (sym ev) k.totals));
      room = let room = k.room in omega arith;
    }
