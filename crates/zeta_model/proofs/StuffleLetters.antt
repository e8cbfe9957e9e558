-- The letters z_k meet the laws of an alphabet.
use Rattle.std.proofs.Common.{◌≡◌, ℕ, zero, suc, ◌+◌, ◌<◌, true, Some, List, [], ◌∷◌, ◌++◌, length, drop, refl, arith, sym, ap, subst, ◌∙◌}
use Rattle.std.proofs.Math.Seq.{drop-append_seam}
use Rattle.zeta_model.specs.declared.Letter.{Letter}
use Rattle.zeta_model.specs.declared.Letter.TheVariants.{X, Y}
use Rattle.zeta_model.specs.Words.{ends_with_y, has_index}
use Rattle.zeta_model.specs.Indices.{z_word}
use Rattle.zeta_model.specs.Product.{AlphabetLaws, IsLetter, rest}
use Rattle.zeta_model.specs.Alphabets.{first_z, stuffle_alphabet}

pub length-z_word : (k : ℕ) → length (z_word k) ≡ k
length-z_word zero = refl
length-z_word (suc zero) = refl
length-z_word (suc (suc k)) = omega (arith, length-z_word (suc k))

first_z-z_word : (k : ℕ) (w : List Letter) → first_z (z_word (suc k) ++ w) ≡ z_word (suc k)
first_z-z_word zero w = refl
first_z-z_word (suc k) w = ap (λ v. X ∷ v) (first_z-z_word k w)

ends_with_y-z_word : (k : ℕ) (w : List Letter) → has_index w ≡ true → ends_with_y (z_word (suc k) ++ w) ≡ true
ends_with_y-z_word zero [] c = refl
ends_with_y-z_word zero (a ∷ w) c = c
ends_with_y-z_word (suc zero) w c = ends_with_y-z_word zero w c
ends_with_y-z_word (suc (suc k)) w c = ends_with_y-z_word (suc k) w c

has_index-z_word : (k : ℕ) (w : List Letter) → has_index w ≡ true → has_index (z_word (suc k) ++ w) ≡ true
has_index-z_word zero w c = ends_with_y-z_word zero w c
has_index-z_word (suc k) w c = ends_with_y-z_word (suc k) w c

-- a word that has an index and is not empty is some z before a word that has an index
record Cut (k : ℕ) (v w : List Letter) : Type 0 where
  whole : w ≡ z_word (suc k) ++ v
  covers : has_index v ≡ true

cut_of : (a : Letter) (w : List Letter) → ends_with_y (a ∷ w) ≡ true → (k : ℕ) × (v : List Letter) × Cut k v (a ∷ w)
cut_of X [] c = cc
cut_of Y [] c = (0, [], record { whole = refl; covers = refl })
cut_of X (b ∷ w) c = let r = cut_of b w c in (suc r.0, r.1, record { whole = ap (λ v. X ∷ v) r.2.whole; covers = r.2.covers })
cut_of Y (b ∷ w) c = (0, b ∷ w, record { whole = refl; covers = c })

pub z_is_letter : (k : ℕ) → 0 < k → IsLetter stuffle_alphabet (z_word k)
z_is_letter zero p = absurd (omega arith)
z_is_letter (suc k) p = record { covers = covers-z k; some = omega (arith, length-z_word (suc k)); alone = first-z k }
  where
    covers-z : (k : ℕ) → has_index (z_word (suc k)) ≡ true
    covers-z zero = refl
    covers-z (suc zero) = refl
    covers-z (suc (suc k)) = covers-z (suc k)

    first-z : (k : ℕ) → first_z (z_word (suc k)) ≡ z_word (suc k)
    first-z zero = refl
    first-z (suc k) = ap (λ v. X ∷ v) (first-z k)

-- what a cut says of the first letter and the rest
record First (k : ℕ) (v w : List Letter) : Type 0 where
  first_is : first_z w ≡ z_word (suc k)
  rest_is : rest stuffle_alphabet w ≡ v
  whole : w ≡ z_word (suc k) ++ v
  covers : has_index v ≡ true

first_of : (w : List Letter) → has_index w ≡ true → 0 < length w → (k : ℕ) × (v : List Letter) × First k v w
first_of [] c p = absurd (omega arith)
first_of (a ∷ w) c p =
    let r = cut_of a w c in
    let f : first_z (a ∷ w) ≡ z_word (suc r.0) = ap first_z r.2.whole ∙ first_z-z_word r.0 r.1 in (
      r.0,
      r.1,
      record {
        first_is = f;
        rest_is = (λ i. drop (length (f i)) (r.2.whole i)) ∙ drop-append_seam (z_word (suc r.0)) r.1;
        whole = r.2.whole;
        covers = r.2.covers;
      },
    )

letter_is_z : (a : List Letter) → IsLetter stuffle_alphabet a → (k : ℕ) × (a ≡ z_word (suc k))
letter_is_z a la = let r = first_of a la.covers la.some in (r.0, sym la.alone ∙ r.2.first_is)

pub stuffle_laws : (limit : ℕ) → AlphabetLaws limit stuffle_alphabet
stuffle_laws limit = record {
  covers_empty = refl;
  first_is_letter = λ w c p h. let r = first_of w c p in subst (IsLetter stuffle_alphabet) (sym r.2.first_is) (z_is_letter (suc r.0) (omega arith));
  first_begins = λ w c p h. let r = first_of w c p in r.2.whole ∙ (λ i. sym r.2.first_is i ++ sym r.2.rest_is i);
  covers_rest = λ w c p h. let r = first_of w c p in ap has_index r.2.rest_is ∙ r.2.covers;
  covers_more = λ a w la c h. let r = letter_is_z a la in ap (λ b. has_index (b ++ w)) r.1 ∙ has_index-z_word r.0 w c;
  first_of_more = λ a w la c h. let r = letter_is_z a la in ap (λ b. first_z (b ++ w)) r.1 ∙ first_z-z_word r.0 w ∙ sym r.1;
  joined_is_letter = λ a b c la lb h e. let same : z_word (length a + length b) ≡ c = cc in let p = la.some in
      subst (IsLetter stuffle_alphabet) same (z_is_letter (length a + length b) (omega arith));
  joined_length = λ a b c la lb h e. let same : z_word (length a + length b) ≡ c = cc in sym (ap length same) ∙ length-z_word (length a + length b);
  joined_comm = λ a b la lb h. let e : length a + length b ≡ length b + length a = omega arith in ap (λ n. Some (z_word n)) e;
  joined_assoc = λ a b c la lb lc h.
      let e : length (z_word (length a + length b)) + length c ≡ length a + length (z_word (length b + length c)) =
      omega (arith, length-z_word (length a + length b), length-z_word (length b + length c)) in
      ap (λ n. Some (z_word n)) e;
}
