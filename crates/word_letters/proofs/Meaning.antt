-- What was read begins an index text, and is known by the place and the whole numbers.
use Rattle.std.proofs.Common.{◌≡◌, ℕ, ◌+◌, ◌-◌, ◌*◌, ◌/◌, ◌%◌, ◌<◌, ◌≤◌, Bool, true, false, Option, Some, None, List, [], ◌∷◌, ◌++◌, ◌⊎◌, inl, inr, map, length-append, All, refl, sym, ap, subst, ◌∙◌, arith}
use Rattle.std.specs.Prelude.{if◌then◌else◌, ◌&&◌, ◌==◌, nat_lt, nat_le, codes}
use Rattle.std.specs.List.{join_with_byte, flat_map}
use Rattle.std.specs.Fmt.{decimal}
use Rattle.std.proofs.lemmas.Fmt.{decimal_digit, decimal_step}
use Rattle.std.proofs.lemmas.Grind.{flat_map-append}
use Rattle.std.proofs.lemmas.List.{append_assoc, append-nil, map-append}
use Rattle.std.proofs.lemmas.List.Concat.{flat_map-cons}
use Rattle.std.proofs.lemmas.List.Elements.{All-nil, All-push, All-same}
use Rattle.std.proofs.lemmas.Bool.Decides.{nat_tests}
use Rattle.word_letters.specs.declared.parse.Place.{Place}
use Rattle.word_letters.specs.declared.parse.Place.TheVariants.{Start, Opened, Number, Digits, End}
use Rattle.word_letters.specs.Inner.{is_digit, digits_after, place_after, whole_after}
use Rattle.word_letters.specs.IndexText.{IsIndexText, BeginsText, before_number}
use Rattle.word_letters.proofs.Reading.{is_digit-true}

abbrev AreSmall : List ℕ → Type 0
AreSmall ks = All (λ k. k ≤ 9999) ks

-- the bytes that lead to a place, where ks are the whole numbers
abbrev pub Means : Place → List ℕ → List ℕ → Type 0
Means Start ks front = (ks ≡ []) × (front ≡ [])
Means Opened ks front = (ks ≡ []) × (front ≡ codes "z")
Means Number ks front = All (λ k. k ≤ 9999) ks × (front ≡ before_number ks)
Means (Digits k) ks front = All (λ k. k ≤ 9999) ks × (k ≤ 9999) × (front ≡ before_number ks ++ decimal k)
Means End ks front = IsIndexText front ks

before_number-more : (ks : List ℕ) (k : ℕ) → before_number (ks ++ k ∷ []) ≡ (before_number ks ++ decimal k) ++ codes ","
before_number-more ks k =
    let F : List ℕ = flat_map (λ j. decimal j ++ codes ",") ks in
    let one : flat_map (λ j. decimal j ++ codes ",") (k ∷ []) ≡ decimal k ++ codes "," =
    flat_map-cons (λ j. decimal j ++ codes ",") k [] ∙ append-nil (decimal k ++ codes ",") in
    ap (λ t. codes "z(" ++ t) (flat_map-append (λ j. decimal j ++ codes ",") ks (k ∷ []) ∙ ap (λ t. F ++ t) one)
    ∙ sym (append_assoc (codes "z(") F (decimal k ++ codes ",")) ∙ sym (append_assoc (codes "z(" ++ F) (decimal k) (codes ","))

join-front : (x : List ℕ) (xs : List (List ℕ)) (y : List ℕ) → join_with_byte 44 (x ∷ (xs ++ y ∷ [])) ≡ x ++ (44 ∷ join_with_byte 44 (xs ++ y ∷ []))
join-front x [] y = refl
join-front x (z ∷ zs) y = refl

join-more : (ks : List ℕ) (k : ℕ) → join_with_byte 44 (map decimal ks ++ decimal k ∷ []) ≡ flat_map (λ j. decimal j ++ codes ",") ks ++ decimal k
join-more [] k = refl
join-more (j ∷ ks) k =
    let F : List ℕ = flat_map (λ j. decimal j ++ codes ",") ks in
    join-front (decimal j) (map decimal ks) (decimal k) ∙ ap (λ t. decimal j ++ (44 ∷ t)) (join-more ks k)
    ∙ sym (ap (λ t. t ++ decimal k) (flat_map-cons (λ j. decimal j ++ codes ",") j ks) ∙ append_assoc (decimal j ++ codes ",") F (decimal k)
    ∙ append_assoc (decimal j) (codes ",") (F ++ decimal k))

closed : (ks : List ℕ) (k : ℕ) → AreSmall ks → k ≤ 9999 → IsIndexText ((before_number ks ++ decimal k) ++ codes ")") (ks ++ k ∷ [])
closed ks k small h =
    let F : List ℕ = flat_map (λ j. decimal j ++ codes ",") ks in
    record {
      some = omega (arith, length-append ks (k ∷ []));
      small = All-push (λ k. k ≤ 9999) ks k small h;
      text = ap (λ t. t ++ codes ")")
          (append_assoc (codes "z(") F (decimal k)
          ∙ ap (λ t. codes "z(" ++ t) (sym (ap (join_with_byte 44) (map-append decimal ks (k ∷ [])) ∙ join-more ks k)));
    }

some-injective : (p q : Place) → Some p ≡ Some q → p ≡ q
some-injective p q e = ap (λ o. elim o as (λ o. Place) [ None ↦ p | Some r ↦ r ]) e

if-Some : (t : Bool) (o o' : Option Place) (q : Place) → (if t then o else o') ≡ Some q → ((t ≡ true) × (o ≡ Some q)) ⊎ ((t ≡ false) × (o' ≡ Some q))
if-Some true o o' q e = inl (refl, e)
if-Some false o o' q e = inr (refl, e)

eq-true : (a b : ℕ) → (a == b) ≡ true → a ≡ b
eq-true a b e = grind (arith, nat_tests)

digit-bounds : (b : ℕ) → is_digit b ≡ true → (48 ≤ b) × (b ≤ 57)
digit-bounds b e = grind (arith, nat_tests)

more-digits : (b k : ℕ) → (is_digit b && (nat_lt 0 k && nat_le k 999)) ≡ true → (48 ≤ b) × (b ≤ 57) × (0 < k) × (k ≤ 999)
more-digits b k e = grind (arith, nat_tests)

-- one more byte, place by place
step_number : (ks front : List ℕ) (b : ℕ) → Means Number ks front → 48 ≤ b → b ≤ 57 → Means (Digits (b - 48)) ks (front ++ b ∷ [])
step_number ks front b m low high =
    let byte : 48 + (b - 48) ≡ b = omega arith in
    (m.0, omega arith, (λ i. m.1 i ++ sym (decimal_digit (b - 48) (omega arith) ∙ ap (λ c. c ∷ []) byte) i))

step_digit : (ks front : List ℕ) (k b : ℕ) → Means (Digits k) ks front → 48 ≤ b → b ≤ 57 → 0 < k → k ≤ 999
    → Means (Digits (k * 10 + (b - 48))) ks (front ++ b ∷ [])
step_digit ks front k b m low high some short =
    let n : ℕ = k * 10 + (b - 48) in
    let whole : (k * 10 + (b - 48)) / 10 ≡ k = omega arith in
    let last : 48 + (k * 10 + (b - 48)) % 10 ≡ b = omega arith in
    let digits : decimal (k * 10 + (b - 48)) ≡ decimal k ++ b ∷ [] =
    decimal_step (k * 10 + (b - 48)) (omega arith) (omega arith) ∙ (λ i. decimal (whole i) ++ last i ∷ []) in
    (m.0, omega arith, (ap (λ t. t ++ b ∷ []) m.2 ∙ append_assoc (before_number ks) (decimal k) (b ∷ []) ∙ sym (ap (λ t. before_number ks ++ t) digits)))

step_comma : (ks front : List ℕ) (k : ℕ) → Means (Digits k) ks front → Means Number (ks ++ k ∷ []) (front ++ 44 ∷ [])
step_comma ks front k m = (All-push (λ k. k ≤ 9999) ks k m.0 m.1, ap (λ t. t ++ 44 ∷ []) m.2 ∙ sym (before_number-more ks k))

step_close : (ks front : List ℕ) (k : ℕ) → Means (Digits k) ks front → Means End (ks ++ k ∷ []) (front ++ 41 ∷ [])
step_close ks front k m =
    let t = closed ks k m.0 m.1 in
    record { some = t.some; small = t.small; text = ap (λ t. t ++ 41 ∷ []) m.2 ∙ t.text }

to_place : (p q : Place) (ks front : List ℕ) → Some p ≡ Some q → Means p ks front → Means q ks front
to_place p q ks front e m = let P : Place → Type 0 = λ r. Means r ks front in subst P (some-injective p q e) m

to_byte : (q : Place) (ks front : List ℕ) (k b c : ℕ) → b ≡ c → Means q (whole_after (Digits k) c ks) (front ++ c ∷ [])
    → Means q (whole_after (Digits k) b ks) (front ++ b ∷ [])
to_byte q ks front k b c e m = let P : ℕ → Type 0 = λ d. Means q (whole_after (Digits k) d ks) (front ++ d ∷ []) in subst P (sym e) m

to_digit : (q : Place) (ks front : List ℕ) (k b : ℕ) → 48 ≤ b → b ≤ 57 → Means q ks (front ++ b ∷ [])
    → Means q (whole_after (Digits k) b ks) (front ++ b ∷ [])
to_digit q ks front k b low high m = let P : Bool → Type 0 = λ t. Means q (if t then ks else ks ++ k ∷ []) (front ++ b ∷ []) in
    subst P (sym (is_digit-true b low high)) m

step_digits : (q : Place) (ks front : List ℕ) (k b : ℕ) → Means (Digits k) ks front → digits_after k b ≡ Some q
    → Means q (whole_after (Digits k) b ks) (front ++ b ∷ [])
step_digits q ks front k b m e =
    elim (if-Some (b == 44) (Some Number) _ q e) [
      | inl h ↦ to_byte q ks front k b 44 (eq-true b 44 h.0) (to_place Number q (ks ++ k ∷ []) (front ++ 44 ∷ []) h.1 (step_comma ks front k m))
      | inr h ↦ elim (if-Some (b == 41) (Some End) _ q h.1) [
        | inl g ↦ to_byte q ks front k b 41 (eq-true b 41 g.0) (to_place End q (ks ++ k ∷ []) (front ++ 41 ∷ []) g.1 (step_close ks front k m))
        | inr g ↦ elim (if-Some (is_digit b && (nat_lt 0 k && nat_le k 999)) (Some (Digits (k * 10 + (b - 48)))) None q g.1) [
          | inl f ↦ let d = more-digits b k f.0 in
              to_digit q ks front k b d.0 d.1 (to_place (Digits (k * 10 + (b - 48))) q ks (front ++ b ∷ []) f.1 (step_digit ks front k b m d.0 d.1 d.2 d.3))
          | inr f ↦ let e : None ≡ Some q = f.1 in cc
        ]
      ]
    ]

pub Means-step : (place q : Place) (ks front : List ℕ) (b : ℕ) → Means place ks front → place_after place b ≡ Some q
    → Means q (whole_after place b ks) (front ++ b ∷ [])
Means-step Start q ks front b m e =
    elim (if-Some (b == 122) (Some Opened) None q e) [
      | inl h ↦ to_place Opened q ks (front ++ b ∷ []) h.1 (m.0, (λ i. m.1 i ++ eq-true b 122 h.0 i ∷ []))
      | inr h ↦ let e : None ≡ Some q = h.1 in cc
    ]
Means-step Opened q ks front b m e =
    elim (if-Some (b == 40) (Some Number) None q e) [
      | inl h ↦ to_place Number q ks (front ++ b ∷ []) h.1
          (All-same (λ k. k ≤ 9999) ks [] m.0 (All-nil (λ k. k ≤ 9999)), (λ i. m.1 i ++ eq-true b 40 h.0 i ∷ []) ∙ sym (ap before_number m.0))
      | inr h ↦ let e : None ≡ Some q = h.1 in cc
    ]
Means-step Number q ks front b m e =
    elim (if-Some (is_digit b) (Some (Digits (b - 48))) None q e) [
      | inl h ↦ let d = digit-bounds b h.0 in to_place (Digits (b - 48)) q ks (front ++ b ∷ []) h.1 (step_number ks front b m d.0 d.1)
      | inr h ↦ let e : None ≡ Some q = h.1 in cc
    ]
Means-step (Digits k) q ks front b m e = step_digits q ks front k b m e
Means-step End q ks front b m e = cc

pub BeginsText-of_Means : (place : Place) (ks front : List ℕ) → Means place ks front → BeginsText front
BeginsText-of_Means Start ks front m =
    let t = closed [] 0 (All-nil (λ k. k ≤ 9999)) (omega arith) in (
      codes "z(" ++ (decimal 0 ++ codes ")"),
      (0 ∷ [], record { some = t.some; small = t.small; text = ap (λ f. f ++ (codes "z(" ++ (decimal 0 ++ codes ")"))) m.1 ∙ t.text }),
    )
BeginsText-of_Means Opened ks front m =
    let t = closed [] 0 (All-nil (λ k. k ≤ 9999)) (omega arith) in (
      codes "(" ++ (decimal 0 ++ codes ")"),
      (0 ∷ [], record { some = t.some; small = t.small; text = ap (λ f. f ++ (codes "(" ++ (decimal 0 ++ codes ")"))) m.1 ∙ t.text }),
    )
BeginsText-of_Means Number ks front m =
    let t = closed ks 0 m.0 (omega arith) in (
      decimal 0 ++ codes ")",
      (
        ks ++ 0 ∷ [],
        record {
          some = t.some;
          small = t.small;
          text = ap (λ f. f ++ (decimal 0 ++ codes ")")) m.1
              ∙ sym (append_assoc (before_number ks) (decimal 0) (codes ")")) ∙ t.text;
        },
      ),
    )
BeginsText-of_Means (Digits k) ks front m =
    let t = closed ks k m.0 m.1 in
    (codes ")", (ks ++ k ∷ [], record { some = t.some; small = t.small; text = ap (λ f. f ++ codes ")") m.2 ∙ t.text }))
BeginsText-of_Means End ks front m =
    ([], (ks, record { some = m.some; small = m.small; text = append-nil front ∙ m.text }))
