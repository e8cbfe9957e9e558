-- Each index text is read to its end, with its numbers.
use Rattle.std.proofs.Common.{◌≡◌, ℕ, ◌+◌, ◌-◌, ◌*◌, ◌/◌, ◌%◌, ◌<◌, ◌≤◌, true, false, Option, Some, None, List, [], ◌∷◌, ◌++◌, map, All, refl, sym, ap, ◌∙◌, arith}
use Rattle.std.specs.Prelude.{if◌then◌else◌, ◌&&◌, ◌==◌, nat_lt, nat_le, codes}
use Rattle.std.specs.Option.{option_and_then}
use Rattle.std.specs.List.{join_with_byte}
use Rattle.std.specs.Fmt.{decimal}
use Rattle.std.proofs.lemmas.Fmt.{decimal_by_steps}
use Rattle.std.proofs.lemmas.List.{append_assoc}
use Rattle.std.proofs.lemmas.List.Elements.{All-head, All-tail}
use Rattle.std.proofs.lemmas.Bool.Decides.{nat_tests}
use Rattle.word_letters.specs.declared.parse.Place.{Place}
use Rattle.word_letters.specs.declared.parse.Place.TheVariants.{Start, Number, Digits, End}
use Rattle.word_letters.specs.Inner.{is_digit, place_after, whole_after, read}
use Rattle.word_letters.specs.IndexText.{IsIndexText}

pub is_digit-true : (b : ℕ) → 48 ≤ b → b ≤ 57 → is_digit b ≡ true
is_digit-true b low high = grind (arith, nat_tests)

lt-true : (a b : ℕ) → a < b → nat_lt a b ≡ true
lt-true a b h = grind (arith, nat_tests)

le-true : (a b : ℕ) → a ≤ b → nat_le a b ≡ true
le-true a b h = grind (arith, nat_tests)

eq-false : (a b : ℕ) → b < a → (a == b) ≡ false
eq-false a b h = grind (arith, nat_tests)

pub read-append : (place : Place) (ks bs cs : List ℕ) → read place ks (bs ++ cs) ≡ option_and_then (λ s. read s.0 s.1 cs) (read place ks bs)
read-append place ks [] cs = refl
read-append place ks (b ∷ bs) cs =
    elim (place_after place b) as (λ o. option_and_then (λ next. read next (whole_after place b ks) (bs ++ cs)) o
    ≡ option_and_then (λ s. read s.0 s.1 cs) (option_and_then (λ next. read next (whole_after place b ks) bs) o)) [
      | None ↦ refl
      | Some next ↦ read-append next (whole_after place b ks) bs cs
    ]

-- the digits of a number
read-decimal : (ks : List ℕ) (n : ℕ) → n ≤ 9999 → (cs : List ℕ) → read Number ks (decimal n ++ cs) ≡ read (Digits n) ks cs
read-decimal ks n h =
    decimal_by_steps (λ m ds. m ≤ 9999 → (cs : List ℕ) → read Number ks (ds ++ cs) ≡ read (Digits m) ks cs) one more n (omega arith) h
  where
    one : (m : ℕ) → m < 10 → m ≤ 9999 → (cs : List ℕ) → read Number ks ((48 + m) ∷ cs) ≡ read (Digits m) ks cs
    one m small h cs =
        let digit : is_digit (48 + m) ≡ true = is_digit-true (48 + m) (omega arith) (omega arith) in
        let value : 48 + m - 48 ≡ m = omega arith in
        λ i. option_and_then (λ next. read next ks cs) (if digit i then Some (Digits (value i)) else None)

    more : (m : ℕ) (ds : List ℕ) → 10 ≤ m → (m / 10 ≤ 9999 → (cs : List ℕ) → read Number ks (ds ++ cs) ≡ read (Digits (m / 10)) ks cs) → m ≤ 9999
        → (cs : List ℕ) → read Number ks ((ds ++ (48 + m % 10) ∷ []) ++ cs) ≡ read (Digits m) ks cs
    more m ds big before h cs =
        let comma : (48 + m % 10 == 44) ≡ false = eq-false (48 + m % 10) 44 (omega arith) in
        let close : (48 + m % 10 == 41) ≡ false = eq-false (48 + m % 10) 41 (omega arith) in
        let digit : is_digit (48 + m % 10) ≡ true = is_digit-true (48 + m % 10) (omega arith) (omega arith) in
        let some : nat_lt 0 (m / 10) ≡ true = lt-true 0 (m / 10) (omega arith) in
        let short : nat_le (m / 10) 999 ≡ true = le-true (m / 10) 999 (omega arith) in
        let value : m / 10 * 10 + (48 + m % 10 - 48) ≡ m = omega arith in
        ap (read Number ks) (append_assoc ds ((48 + m % 10) ∷ []) cs) ∙ before (omega arith) ((48 + m % 10) ∷ cs)
        ∙ (λ i. option_and_then (λ next. read next (if digit i then ks else ks ++ m / 10 ∷ []) cs)
        (if comma i then Some Number else (if close i then Some End else (if digit i && (some i && short i) then Some (Digits (value i)) else None))))

read-numbers : (ks : List ℕ) (k : ℕ) (ms : List ℕ) → All (λ n. n ≤ 9999) (k ∷ ms) → read Number ks (join_with_byte 44 (map decimal (k ∷ ms)) ++ codes ")")
    ≡ Some (End, ks ++ k ∷ ms)
read-numbers ks k [] h = read-decimal ks k (All-head (λ n. n ≤ 9999) k [] h) (codes ")")
read-numbers ks k (m ∷ ms) h =
    append (join_with_byte 44 (map decimal (m ∷ ms))) ∙ read-numbers (ks ++ k ∷ []) m ms (All-tail (λ n. n ≤ 9999) k (m ∷ ms) h)
    ∙ ap (λ t. Some (End, t)) (append_assoc ks (k ∷ []) (m ∷ ms))
  where
    append : (js : List ℕ) → read Number ks ((decimal k ++ (44 ∷ js)) ++ codes ")") ≡ read Number (ks ++ k ∷ []) (js ++ codes ")")
    append js = ap (read Number ks) (append_assoc (decimal k) (44 ∷ js) (codes ")"))
        ∙ read-decimal ks k (All-head (λ n. n ≤ 9999) k (m ∷ ms) h) (44 ∷ (js ++ codes ")"))

pub read-index_text : (bytes ks : List ℕ) → IsIndexText bytes ks → read Start [] bytes ≡ Some (End, ks)
read-index_text bytes [] t = let some = t.some in absurd (omega arith)
read-index_text bytes (k ∷ ks) t = ap (read Start []) t.text ∙ read-numbers [] k ks t.small

numbers_in : Option (Place × List ℕ) → List ℕ
numbers_in None = []
numbers_in (Some s) = s.1

-- bytes are the text of one index at most
pub index_text-injective : (bytes ks ms : List ℕ) → IsIndexText bytes ks → IsIndexText bytes ms → ks ≡ ms
unfolding numbers_in
index_text-injective bytes ks ms t u = ap numbers_in (sym (read-index_text bytes ks t) ∙ read-index_text bytes ms u)
