-- What is kept of the whole numbers: their sum, the byte of the first zero, and their word.
use Rattle.std.proofs.Common.{◌≡◌, ℕ, zero, suc, ◌+◌, ◌-◌, ◌<◌, ◌≤◌, Bool, true, false, Option, Some, None, List, [], ◌∷◌, ◌++◌, length, length-append, sum, All, refl, sym, ap, ◌∙◌, arith}
use Rattle.std.specs.Prelude.{if◌then◌else◌, ◌==◌}
use Rattle.std.specs.Fmt.{decimal}
use Rattle.std.proofs.lemmas.Fmt.{decimal_digit}
use Rattle.std.proofs.lemmas.Grind.{flat_map-append}
use Rattle.std.proofs.lemmas.List.{append_assoc, append-nil}
use Rattle.std.proofs.lemmas.List.Concat.{flat_map-cons}
use Rattle.std.proofs.lemmas.List.Elements.{All-nil, All-push}
use Rattle.std.proofs.lemmas.List.Sums.{sum_by-cons, sum_by-append}
use Rattle.std.proofs.lemmas.Bool.Decides.{nat_tests}
use Rattle.zeta_model.specs.declared.Letter.{Letter}
use Rattle.zeta_model.specs.Indices.{z_word, word_of_index}
use Rattle.word_letters.specs.declared.parse.Place.{Place}
use Rattle.word_letters.specs.declared.parse.Place.TheVariants.{Start, Opened, Number, Digits, End}
use Rattle.word_letters.specs.Inner.{is_digit, whole_number, zero_after, whole_after}
use Rattle.word_letters.specs.IndexText.{IsZeroByte, before_number}
use Rattle.word_letters.proofs.IndexLemmas.{length-word_of_index}
use Rattle.word_letters.proofs.Meaning.{Means}

pub record Totals (ks : List ℕ) (weight : ℕ) (zero' : Option ℕ) (w : List Letter) : Type 0 where
  pub weighs : weight ≡ sum ks
  pub positive : zero' ≡ None → All (λ k. 0 < k) ks
  pub found : (at : ℕ) → zero' ≡ Some at → IsZeroByte ks at
  pub word : zero' ≡ None → weight ≤ 24 → w ≡ word_of_index ks

pub Totals-start : Totals [] 0 None []
Totals-start = record { weighs = refl; positive = λ e. All-nil (λ k. 0 < k); found = λ at e. cc; word = λ e h. refl }

sum-push : (ks : List ℕ) (k : ℕ) → sum (ks ++ k ∷ []) ≡ sum ks + k
sum-push ks k = omega (arith, sum_by-append (λ j. j) ks (k ∷ []), sum_by-cons (λ j. j) k [])

word_of_index-push : (ks : List ℕ) (k : ℕ) → word_of_index (ks ++ k ∷ []) ≡ word_of_index ks ++ z_word k
word_of_index-push ks k = flat_map-append z_word ks (k ∷ []) ∙ ap (λ t. word_of_index ks ++ t) (flat_map-cons z_word k [] ∙ append-nil (z_word k))

some-injective : (m n : ℕ) → Some m ≡ Some n → m ≡ n
some-injective m n e = ap (λ o. elim o as (λ o. ℕ) [ None ↦ m | Some r ↦ r ]) e

later : (ks : List ℕ) (k at : ℕ) → IsZeroByte ks at → IsZeroByte (ks ++ k ∷ []) at
later ks k at z =
    record {
      front = z.front;
      rest = z.rest ++ k ∷ [];
      parts = ap (λ t. t ++ k ∷ []) z.parts ∙ append_assoc z.front (0 ∷ z.rest) (k ∷ []);
      positive =
          z.positive;
      place = z.place;
    }

pub Totals-push : (ks : List ℕ) (k at weight : ℕ) (zero' : Option ℕ) (w w' : List Letter) → Totals ks weight zero' w
    → at ≡ length (before_number ks ++ decimal k) → (0 < k → length w + k ≤ 24 → w' ≡ w ++ z_word k)
    → Totals (ks ++ k ∷ []) (weight + k) (zero_after zero' at k) w'
Totals-push ks k at weight (Some place) w w' t e h =
    record {
      weighs = ap (λ n. n + k) t.weighs ∙ sym (sum-push ks k);
      positive = λ e. cc;
      found = λ at' e. later ks k at' (t.found at' e);
      word = λ e h. cc;
    }
Totals-push ks zero at weight None w w' t e h =
    record {
      weighs = ap (λ n. n + 0) t.weighs ∙ sym (sum-push ks 0);
      positive = λ e. cc;
      found = λ at' s.
          record {
            front = ks;
            rest = [];
            parts = refl;
            positive = t.positive refl;
            place = omega (arith, some-injective (at - 1) at' s, length-append (before_number ks) (decimal 0), ap length (decimal_digit 0 (omega arith)));
          };
      word = λ e h. cc;
    }
Totals-push ks (suc k) at weight None w w' t e h =
    let other : (suc k == 0) ≡ false = grind (arith, nat_tests) in
    let none : zero_after None at (suc k) ≡ None = ap (λ b. if b then Some (at - 1) else None) other in
    record {
      weighs = ap (λ n. n + suc k) t.weighs ∙ sym (sum-push ks (suc k));
      positive = λ e. All-push (λ k. 0 < k) ks (suc k) (t.positive refl) (omega arith);
      found = λ at' s. let both : None ≡ Some at' = sym none ∙ s in cc;
      word = λ e b.
          let before : w ≡ word_of_index ks = t.word refl (omega arith) in
          h (omega arith) (omega (arith, ap length before, length-word_of_index ks, t.weighs)) ∙ ap (λ v. v ++ z_word (suc k)) before
          ∙ sym (word_of_index-push ks (suc k));
    }

if-cases : (t : Bool) (k m : ℕ) → (if t then None else Some k) ≡ Some m → (t ≡ false) × (k ≡ m)
if-cases true k m e = cc
if-cases false k m e = (refl, some-injective k m e)

if-none : (t : Bool) (k : ℕ) → (if t then None else Some k) ≡ None → t ≡ true
if-none true k e = refl
if-none false k e = cc

pub whole_after-same : (place : Place) (b : ℕ) (ks : List ℕ) → whole_number place b ≡ None → whole_after place b ks ≡ ks
whole_after-same Start b ks e = refl
whole_after-same Opened b ks e = refl
whole_after-same Number b ks e = refl
whole_after-same (Digits k) b ks e = ap (λ t. if t then ks else ks ++ k ∷ []) (if-none (is_digit b) k e)
whole_after-same End b ks e = refl

-- the byte ends the digits of m
pub record EndsNumber (place : Place) (b m : ℕ) (ks front : List ℕ) : Type 0 where
  pub whole : whole_after place b ks ≡ ks ++ m ∷ []
  pub small : m ≤ 9999
  pub text : front ≡ before_number ks ++ decimal m
  pub some : 0 < length front

pub EndsNumber-from : (place : Place) (b m : ℕ) (ks front : List ℕ) → whole_number place b ≡ Some m → Means place ks front → EndsNumber place b m ks front
EndsNumber-from Start b m ks front e t = cc
EndsNumber-from Opened b m ks front e t = cc
EndsNumber-from Number b m ks front e t = cc
EndsNumber-from (Digits k) b m ks front e t =
    let (digit, same) = if-cases (is_digit b) k m e in
    record {
      whole = ap (λ t. if t then ks else ks ++ k ∷ []) digit ∙ ap (λ j. ks ++ j ∷ []) same;
      small = omega (arith, t.1);
      text = t.2 ∙ ap (λ j. before_number ks ++ decimal j) same;
      some = omega (arith, ap length t.2);
    }
EndsNumber-from End b m ks front e t = cc
