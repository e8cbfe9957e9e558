-- A word by its weight and its letters as binary digits.
use Rattle.std.proofs.Common.{◌≡◌, ℕ, zero, suc, ◌+◌, ◌*◌, ◌/◌, ◌%◌, ◌^◌, ◌<◌, ◌≤◌, ◌&&◌, List, ◌++◌, length, Some}
use Rattle.std.proofs.Common.{None, Bool, true, false, ltb, leb, if◌then◌else◌, refl, sym, ap, ◌∙◌, append_assoc, arith}
use Rattle.std.proofs.Math.Nat.{div-lt_iff_lt-mul, mod-lt, pow-suc, pow-le-pow_right}
use Rattle.std.proofs.Math.Pow.{split}
use Rattle.std.proofs.lemmas.Nat.{pow_pos}
use borrow.Author.Tests.{le-leb, ltb-true, lt-ltb}
use Rattle.byteorder.specs.Endian.{little_bytes}
use Rattle.zeta_model.specs.declared.Letter.{Letter}
use Rattle.zeta_model.specs.Words.{letter_rank, letter_at_rank}
use Rattle.word_letters.specs.Packing.{digits_of, letters_of}
use Rattle.word_letters.proofs.Packings.{digits_of-lt, letters_of-digits_of}
use Rattle.page_codec.specs.Spelling.{word_spelling}
use Rattle.page_codec.specs.Inner.{number_at, word_at}
use Rattle.page_codec.proofs.Numbers.{number_again, number_back}
use Rattle.page_codec.proofs.Exact.{IsExact, bind_some, bytes_behind, if_some, read, pair_is}

abbrev pub FitsWord : List Letter → Type 0
FitsWord w = length w ≤ 24

pub length-letters_of : (k n : ℕ) → length (letters_of k k n) ≡ k
unfolding letters_of
length-letters_of zero n = refl
length-letters_of (suc k) n = let e = length-letters_of k (n % 2 ^ k) in omega arith

rank-letter : (r : ℕ) → r < 2 → letter_rank (letter_at_rank r) ≡ r
rank-letter zero h = refl
rank-letter (suc zero) h = refl
rank-letter (suc (suc r)) h = absurd (omega arith)

pub digits_of-letters_of : (k n : ℕ) → n < 2 ^ k → digits_of k (letters_of k k n) ≡ n
unfolding letters_of digits_of
digits_of-letters_of zero n h = omega arith
digits_of-letters_of (suc k) n h =
    let twice : n < 2 * 2 ^ k = omega (arith, pow-suc 2 k) in
    let high : n / 2 ^ k < 2 = (div-lt_iff_lt-mul (pow_pos k)).1 twice in
    let low = digits_of-letters_of k (n % 2 ^ k) (mod-lt n (pow_pos k)) in
    (λ i. rank-letter (n / 2 ^ k) high i * 2 ^ k + low i) ∙ split n k

-- 2 to k is at most 2 to 24
pow-24 : (k : ℕ) → k ≤ 24 → 2 ^ k < 256 ^ 4
pow-24 k h = let top = pow-le-pow_right {n = 2} (omega arith) h in omega arith

and_true : (s t : Bool) → (s && t) ≡ true → (s ≡ true) × (t ≡ true)
and_true true t e = (refl, e)
and_true false t e = absurd (cc e)

word_again : (w : List Letter) (rest : List ℕ) → FitsWord w → word_at (word_spelling w ++ rest) ≡ Some (w, rest)
unfolding word_at
word_again w rest fits =
    let bits = digits_of (length w) w in
    let below : bits < 2 ^ length w = digits_of-lt (length w) w (omega arith) in
    let small : bits < 256 ^ 4 = let top = pow-24 (length w) fits in omega arith in
    let regrouped : word_spelling w ++ rest ≡ little_bytes 1 (length w) ++ (little_bytes 4 bits ++ rest) =
    append_assoc (little_bytes 1 (length w)) (little_bytes 4 bits) rest in
    ap word_at regrouped
    ∙ rw (
      number_again 1 (length w) (little_bytes 4 bits ++ rest) (omega (arith, fits)),
      number_again 4 bits rest small,
      le-leb
          (length w) 24 fits,
      lt-ltb bits (2 ^ length w) below,
    )
    (ap (λ v. Some (v, rest)) (letters_of-digits_of (length w) w (omega arith)))

word_from : (k n : ℕ) (bytes sized after : List ℕ) (w : List Letter) (rest : List ℕ) → bytes ≡ little_bytes 1 k ++ sized → sized ≡ little_bytes 4 n ++ after
    → (if leb k 24 && ltb n (2 ^ k) then read (letters_of k k n) after else None) ≡ read w rest → bytes ≡ word_spelling w ++ rest
word_from k n bytes sized after w rest first second e =
    let found = if_some (leb k 24 && ltb n (2 ^ k)) (read (letters_of k k n) after) _ e in
    let tests = and_true (leb k 24) (ltb n (2 ^ k)) found.0 in
    let word : letters_of k k n ≡ w = pair_is (λ x l. x) (letters_of k k n) w after rest found.1 in
    let behind : after ≡ rest = pair_is (λ x l. l) (letters_of k k n) w after rest found.1 in
    let long : k ≡ length w = sym (length-letters_of k n) ∙ ap length word in
    let bits : n ≡ digits_of (length w) w = sym (digits_of-letters_of k n (ltb-true n (2 ^ k) tests.1)) ∙ (λ i. digits_of (long i) (word i)) in
    first ∙ ap (λ l. little_bytes 1 k ++ l) second ∙ sym (append_assoc (little_bytes 1 k) (little_bytes 4 n) after)
    ∙ (λ i. (little_bytes 1 (long i) ++ little_bytes 4 (bits i)) ++ behind i)

pub word_exact : IsExact FitsWord word_spelling word_at
unfolding word_at
word_exact = record {
  again = word_again;
  back = λ bytes w rest b e.
      let weight = bind_some (number_at 1 bytes) _ _ e in
      let first = number_back 1 bytes weight.0.0 weight.0.1 b weight.1 in
      let bits = bind_some (number_at 4 weight.0.1) _ _ weight.2 in
      let second = number_back 4 weight.0.1 bits.0.0 bits.0.1 (bytes_behind (little_bytes 1 weight.0.0) weight.0.1 bytes b first) bits.1 in
      word_from weight.0.0 bits.0.0 bytes weight.0.1 bits.0.1 w rest first second bits.2;
}
