-- An index of a line begins with 1 exactly where the search in its bytes finds one.
use Rattle.std.proofs.Common.{◌≡◌, ℕ, suc, ◌<◌, Bool, true, false, cond, eqb, Option, Some, None, List}
use Rattle.std.proofs.Common.{[], ◌∷◌, ◌++◌, length, refl, sym, ap, ◌∙◌, arith, append-nil}
use Rattle.std.specs.Prelude.{IsTrue, not, ◌&&◌, ◌||◌, option_map, is_some}
use Rattle.std.specs.List.{AllByRecursion}
use Rattle.std.proofs.lemmas.Bool.{ne_eqb, and_left, and_right, not_from_true}
use Rattle.line_tokens.specs.declared.marks.Mark.{Mark}
use Rattle.line_tokens.specs.declared.marks.Mark.TheVariants.{Plus, Minus, Star, Slash, Caret, Open, Close, Comma, Letter}
use Rattle.line_tokens.specs.Tokens.{Token, mark, run, is_blank, is_digit, mark_byte, IsSpelled}
use Rattle.line_tokens.specs.Runs.{IsIndexNumber, more_numbers}
use Rattle.line_tokens.proofs.MarkLemmas.{is_digit-blank, is_blank-digit, is_digit-mark_byte}
use Rattle.dual_reply.specs.Grammar.{WrittenZeta, IsZeta, sign_token, more_zetas, line_tokens, IsLineOf}
use Rattle.dual_reply.specs.Refusals.{begins_with_digit}
use Rattle.dual_reply.specs.Inner.{first_one}
use Rattle.dual_reply.proofs.IndexNumbers.{is_one}

abbrev Bytes : Type 0
Bytes = List ℕ

abbrev is_found : Bool → Bytes → Bool
is_found opened bytes = is_some (first_one opened bytes)

-- ---- the search over bytes

some_map : (o : Option ℕ) → is_some (option_map suc o) ≡ is_some o
some_map None = refl
some_map (Some n) = refl

-- the search goes past a byte
past : (opened next : Bool) (b : ℕ) (bytes : Bytes) → (eqb b 49 && not (begins_with_digit bytes) && opened) ≡ false
    → (eqb b 40 || (is_blank b && opened)) ≡ next → is_found opened (b ∷ bytes) ≡ is_found next bytes
past opened next b bytes e f =
    ap (λ t. is_some (cond t (Some 0) (option_map suc (first_one (eqb b 40 || (is_blank b && opened)) bytes)))) e
    ∙ some_map (first_one (eqb b 40 || (is_blank b && opened)) bytes) ∙ ap (λ o. is_found o bytes) f

other_than_blank : (b c : ℕ) → is_blank b ≡ true → is_blank c ≡ false → eqb b c ≡ false
other_than_blank b c e f = ne_eqb b c (λ h. let g : true ≡ false = sym e ∙ ap is_blank h ∙ f in cc)

other_than_digit : (b c : ℕ) → is_digit b ≡ true → is_digit c ≡ false → eqb b c ≡ false
other_than_digit b c e f = ne_eqb b c (λ h. let g : true ≡ false = sym e ∙ ap is_digit h ∙ f in cc)

past_blank : (opened : Bool) (b : ℕ) (bytes : Bytes) → is_blank b ≡ true → is_found opened (b ∷ bytes) ≡ is_found opened bytes
past_blank opened b bytes e =
    past opened opened b bytes
    (ap (λ t. t && not (begins_with_digit bytes) && opened) (other_than_blank b 49 e refl))
    ((λ i. other_than_blank b 40 e refl i || (e i && opened)))

past_gap : (gap bytes : Bytes) (opened : Bool) → AllByRecursion (λ b. IsTrue (is_blank b)) gap → is_found opened (gap ++ bytes) ≡ is_found opened bytes
past_gap [] bytes opened h = refl
past_gap (b ∷ gap) bytes opened h = past_blank opened b (gap ++ bytes) h.0 ∙ past_gap gap bytes opened h.1

abbrev is_open : Mark → Bool
is_open Open = true
is_open _ = false

past_mark : (m : Mark) (opened : Bool) (bytes : Bytes) → is_found opened (mark_byte m ∷ bytes) ≡ is_found (is_open m) bytes
past_mark Plus opened bytes = past opened false 43 bytes refl refl
past_mark Minus opened bytes = past opened false 45 bytes refl refl
past_mark Star opened bytes = past opened false 42 bytes refl refl
past_mark Slash opened bytes = past opened false 47 bytes refl refl
past_mark Caret opened bytes = past opened false 94 bytes refl refl
past_mark Open opened bytes = past opened true 40 bytes refl refl
past_mark Close opened bytes = past opened false 41 bytes refl refl
past_mark Comma opened bytes = past opened false 44 bytes refl refl
past_mark Letter opened bytes = past opened false 122 bytes refl refl

after_digit : (opened : Bool) (d : ℕ) → is_digit d ≡ true → (eqb d 40 || (is_blank d && opened)) ≡ false
after_digit opened d e = λ i. other_than_digit d 40 e refl i || (is_blank-digit d e i && opened)

past_digits : (digits bytes : Bytes) → AllByRecursion (λ b. IsTrue (is_digit b)) digits → is_found false (digits ++ bytes) ≡ is_found false bytes
past_digits [] bytes h = refl
past_digits (d ∷ digits) bytes h =
    past false false d (digits ++ bytes) (and_right (eqb d 49 && not (begins_with_digit (digits ++ bytes))) false refl) (after_digit false d h.0)
    ∙ past_digits digits bytes h.1

-- ---- the search over tokens

abbrev has_one : Bool → List Token → Bool
has_one opened [] = false
has_one opened (mark m ∷ tokens) = has_one (is_open m) tokens
has_one opened (run digits ∷ tokens) = (opened && is_one digits) || has_one false tokens

abbrev NoRunFirst : List Token → Type 0
NoRunFirst [] = Unit {0}
NoRunFirst (mark m ∷ tokens) = Unit {0}
NoRunFirst (run digits ∷ tokens) = ⊥

-- some digits
abbrev IsRun : Bytes → Type 0
IsRun digits = (0 < length digits) × AllByRecursion (λ b. IsTrue (is_digit b)) digits

-- behind a run there stands none
abbrev AreApart : List Token → Type 0
AreApart [] = Unit {0}
AreApart (mark m ∷ tokens) = AreApart tokens
AreApart (run digits ∷ tokens) = IsRun digits × NoRunFirst tokens × AreApart tokens

blank_first : (gap bytes : Bytes) → AllByRecursion (λ b. IsTrue (is_blank b)) gap → begins_with_digit bytes ≡ false → begins_with_digit (gap ++ bytes) ≡ false
blank_first [] bytes h e = e
blank_first (b ∷ gap) bytes h e = is_digit-blank b h.0

no_digit_first : (tokens : List Token) (bytes : Bytes) → NoRunFirst tokens → IsSpelled tokens bytes → begins_with_digit bytes ≡ false
no_digit_first [] bytes n s = ap begins_with_digit (sym (append-nil bytes)) ∙ blank_first bytes [] s refl
no_digit_first (mark m ∷ tokens) bytes n s = ap begins_with_digit s.3 ∙ blank_first s.0 (mark_byte m ∷ s.1) s.2 (is_digit-mark_byte m)
no_digit_first (run digits ∷ tokens) bytes n s = absurd n

past_run : (digits bytes : Bytes) (opened : Bool) → IsRun digits → begins_with_digit bytes ≡ false
    → is_found opened (digits ++ bytes) ≡ ((opened && is_one digits) || is_found false bytes)
past_run digits bytes false h n = past_digits digits bytes h.1
past_run [] bytes true h n = let p = h.0 in absurd (omega arith)
past_run (d ∷ []) bytes true h n =
    elim (eqb d 49) as (λ t. eqb d 49 ≡ t → is_found true (d ∷ bytes) ≡ (t || is_found false bytes)) [
      | true ↦ λ e. ap (λ t. is_some (cond (t && true) (Some 0) (option_map suc (first_one (eqb d 40 || (is_blank d && true)) bytes))))
          (λ i. e i && not (n i))
      | false ↦ λ e. past true false d bytes (ap (λ t. t && not (begins_with_digit bytes) && true) e) (after_digit true d h.1.0)
    ]
    refl
past_run (d ∷ e ∷ digits) bytes true h n =
    past true false d (e ∷ digits ++ bytes)
    (and_left (eqb d 49 && not (is_digit e)) true (and_right (eqb d 49) (not (is_digit e)) (not_from_true (is_digit e) h.1.1.0)))
    (after_digit true d h.1.0)
    ∙ past_digits (e ∷ digits) bytes h.1.1

pub found_in_tokens : (tokens : List Token) (opened : Bool) (bytes : Bytes) → AreApart tokens → IsSpelled tokens bytes
    → is_found opened bytes ≡ has_one opened tokens
found_in_tokens [] opened bytes a s = ap (is_found opened) (sym (append-nil bytes)) ∙ past_gap bytes [] opened s
found_in_tokens (mark m ∷ tokens) opened bytes a s =
    ap (is_found opened) s.3 ∙ past_gap s.0 (mark_byte m ∷ s.1) opened s.2 ∙ past_mark m opened s.1 ∙ found_in_tokens tokens (is_open m) s.1 a s.4
found_in_tokens (run digits ∷ tokens) opened bytes a s =
    ap (is_found opened) s.3 ∙ past_gap s.0 (digits ++ s.1) opened s.2
    ∙ past_run digits s.1 opened a.0 (no_digit_first tokens s.1 a.1 s.4)
    ∙ ap (λ t. (opened && is_one digits) || t) (found_in_tokens tokens false s.1 a.2 s.4)

-- ---- the tokens of a line

numbers_apart : (ks : List (List ℕ)) (rest : List Token) → AllByRecursion IsIndexNumber ks → AreApart rest
    → NoRunFirst (more_numbers ks rest) × AreApart (more_numbers ks rest)
numbers_apart [] rest h a = (tt, a)
numbers_apart (k ∷ ks) rest h a = let r = numbers_apart ks rest h.1 a in (tt, ((h.0.0.some, h.0.0.all), r.0, r.1))

zeta_apart : (z : WrittenZeta) (rest : List Token) → IsZeta z → AreApart rest → AreApart (run z.first ∷ more_numbers z.more rest)
zeta_apart z rest h a = let r = numbers_apart z.more rest h.1 a in ((h.0.0.some, h.0.0.all), r.0, r.1)

sign_apart : (negative : Bool) (tokens : List Token) → AreApart tokens → AreApart (sign_token negative ∷ tokens)
sign_apart false tokens a = a
sign_apart true tokens a = a

zetas_apart : (zs : List WrittenZeta) → AllByRecursion IsZeta zs → AreApart (more_zetas zs)
zetas_apart [] h = tt
zetas_apart (z ∷ zs) h =
    sign_apart z.negative (mark Letter ∷ mark Open ∷ run z.first ∷ more_numbers z.more (more_zetas zs)) (zeta_apart z (more_zetas zs) h.0 (zetas_apart zs h.1))

line_apart : (with_sign : Bool) (z : WrittenZeta) (zs : List WrittenZeta) → AllByRecursion IsZeta (z ∷ zs) → AreApart (line_tokens with_sign z zs)
line_apart true z zs h = zetas_apart (z ∷ zs) h
line_apart false z zs h = zeta_apart z (more_zetas zs) h.0 (zetas_apart zs h.1)

abbrev pub any_one : List WrittenZeta → Bool
any_one [] = false
any_one (z ∷ zs) = is_one z.first || any_one zs

numbers_one : (ks : List (List ℕ)) (rest : List Token) → has_one false (more_numbers ks rest) ≡ has_one false rest
numbers_one [] rest = refl
numbers_one (k ∷ ks) rest = numbers_one ks rest

sign_one : (negative : Bool) (tokens : List Token) → has_one false (sign_token negative ∷ tokens) ≡ has_one false tokens
sign_one false tokens = refl
sign_one true tokens = refl

zeta_one : (z : WrittenZeta) (zs : List WrittenZeta) → has_one false (more_zetas zs) ≡ any_one zs
    → has_one true (run z.first ∷ more_numbers z.more (more_zetas zs)) ≡ any_one (z ∷ zs)
zeta_one z zs e = ap (λ t. is_one z.first || t) (numbers_one z.more (more_zetas zs) ∙ e)

zetas_one : (zs : List WrittenZeta) → has_one false (more_zetas zs) ≡ any_one zs
zetas_one [] = refl
zetas_one (z ∷ zs) =
    sign_one z.negative (mark Letter ∷ mark Open ∷ run z.first ∷ more_numbers z.more (more_zetas zs)) ∙ zeta_one z zs (zetas_one zs)

line_one : (with_sign : Bool) (z : WrittenZeta) (zs : List WrittenZeta) → has_one false (line_tokens with_sign z zs) ≡ any_one (z ∷ zs)
line_one true z zs = zetas_one (z ∷ zs)
line_one false z zs = zeta_one z zs (zetas_one zs)

pub found_in_line : (with_sign : Bool) (z : WrittenZeta) (zs : List WrittenZeta) (bytes : Bytes) → IsLineOf with_sign z zs bytes
    → is_some (first_one false bytes) ≡ any_one (z ∷ zs)
found_in_line with_sign z zs bytes l =
    found_in_tokens (line_tokens with_sign z zs) false bytes (line_apart with_sign z zs l.formed) l.spelled ∙ line_one with_sign z zs
