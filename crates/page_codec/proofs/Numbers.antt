-- Numbers of n bytes: what was spelled is read again, and what is read was spelled so.
use Rattle.std.proofs.Common.{◌≡◌, ℕ, zero, suc, ◌+◌, ◌*◌, ◌/◌, ◌%◌, ◌^◌, ◌<◌, ◌≤◌, Bool, true, false, if◌then◌else◌, ltb, List, [], ◌∷◌, ◌++◌}
use Rattle.std.proofs.Common.{length, get_or, take, drop, Some, None, refl, sym, ap, ◌∙◌, arith, length-append}
use Rattle.std.proofs.Math.Nat.{div-div-eq-div-mul, div-one, pow-succ'}
use Rattle.std.proofs.lemmas.Bool.{le-ltb}
use Rattle.std.proofs.lemmas.List.{append-nil, take_at, drop_at, take-append-drop}
use Rattle.std.specs.Int.{byte_at, bytes_low_first}
use borrow.Author.Tests.{ltb-false}
use Rattle.byteorder.specs.Endian.{little_bytes, little_number}
use Rattle.byteorder.specs.Numbers.{little_number-reads_back, length-bytes_low_first, little_from-cons, little_from-take}
use Rattle.page_codec.specs.Inner.{number_at}

-- each is a byte
abbrev pub AreBytes : List ℕ → Type 0
AreBytes bytes = (k : ℕ) → get_or bytes k 0 < 256

byte_at-pow : (k x : ℕ) → byte_at k x ≡ x / 256 ^ k % 256
byte_at-pow zero x = ap (λ (y : ℕ). y % 256) (sym (div-one x))
byte_at-pow (suc k) x = refl

-- the bytes from the next on are those of the 256th part
low_first-suc : (j k x : ℕ) → bytes_low_first (suc j) k x ≡ bytes_low_first j k (x / 256)
low_first-suc j zero x = refl
low_first-suc j (suc k) x =
    let head : byte_at (suc j) x ≡ byte_at j (x / 256) =
    byte_at-pow (suc j) x ∙ ap (λ (p : ℕ). x / p % 256) (pow-succ' 256 j) ∙ ap (λ (y : ℕ). y % 256) (sym (div-div-eq-div-mul x 256 (256 ^ j)))
    ∙ sym (byte_at-pow j (x / 256)) in
    λ i. head i ∷ low_first-suc (suc j) k x i

-- the bytes of the number that n bytes are
pub little_bytes-little_number : (n : ℕ) (xs : List ℕ) → n ≤ length xs → AreBytes xs → little_bytes n (little_number n xs) ≡ take n xs
little_bytes-little_number zero xs h b = refl
little_bytes-little_number (suc n) [] h b = absurd (omega arith)
little_bytes-little_number (suc n) (a ∷ xs) h b =
    let whole : little_number (suc n) (a ∷ xs) ≡ a + 256 * little_number n xs = ap (λ (r : ℕ). a + 256 * r) (little_from-cons 0 n a xs) in
    let first : (a + 256 * little_number n xs) % 256 ≡ a = omega (arith, b 0) in
    let others : (a + 256 * little_number n xs) / 256 ≡ little_number n xs = omega (arith, b 0) in
    let tail : bytes_low_first 1 n (a + 256 * little_number n xs) ≡ take n xs =
    low_first-suc 0 n (a + 256 * little_number n xs) ∙ ap (bytes_low_first 0 n) others ∙ little_bytes-little_number n xs (omega arith) (λ k. b (suc k)) in
    ap (little_bytes (suc n)) whole ∙ (λ i. first i ∷ tail i)

pub number_again : (n x : ℕ) (rest : List ℕ) → x < 256 ^ n → number_at n (little_bytes n x ++ rest) ≡ Some (x, rest)
number_again n x rest lt =
    let len : length (little_bytes n x) ≡ n = length-bytes_low_first 0 n x in
    let long : n ≤ length (little_bytes n x ++ rest) = omega (arith, len, length-append (little_bytes n x) rest) in
    rw (le-ltb (length (little_bytes n x ++ rest)) n long, take_at (little_bytes n x) rest n len, drop_at (little_bytes n x) rest n len)
    (ap (λ (v : ℕ). Some (v, rest)) (ap (little_number n) (sym (append-nil (little_bytes n x))) ∙ little_number-reads_back n x [] lt))

-- the second of two, where it is something
else_some : {A : Type 0} (t : Bool) (a y : A) → (if t then None else Some a) ≡ Some y → (t ≡ false) × (a ≡ y)
else_some true a y e = absurd (cc e)
else_some false a y e = (refl, cc)

pub number_back : (n : ℕ) (bytes : List ℕ) (x : ℕ) (rest : List ℕ) → AreBytes bytes → number_at n bytes ≡ Some (x, rest) → bytes ≡ little_bytes n x ++ rest
number_back n bytes x rest b e =
    let found = else_some (ltb (length bytes) n) (little_number n (take n bytes), drop n bytes) (x, rest) e in
    let long : n ≤ length bytes = ltb-false (length bytes) n found.0 in
    let value : little_number n (take n bytes) ≡ x = ap (λ (p : ℕ × List ℕ). p.0) found.1 in
    let behind : drop n bytes ≡ rest = ap (λ (p : ℕ × List ℕ). p.1) found.1 in
    let front : little_bytes n x ≡ take n bytes =
    ap (little_bytes n) (sym value ∙ little_from-take 0 n n bytes (omega arith)) ∙ little_bytes-little_number n bytes long b in
    sym (take-append-drop n bytes) ∙ (λ i. sym front i ++ behind i)
