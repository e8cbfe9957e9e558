-- What a number word reads, by what std reads.
use Rattle.std.proofs.Common.{◌≡◌, ◌≢◌, ℕ, ◌^◌, Bool, true, false, eqb, List, length, get_or, Some, None, refl, ap, arith, rules}
use Rattle.std.specs.Prelude.{Result, Ok, Err, ◌&&◌, nat_lt, if◌then◌else◌}
use Rattle.std.specs.Result.{OkIff, result_ok}
use Rattle.std.specs.Str.{all_ascii_digits}
use Rattle.std.specs.Str.Parse.{ParsesUnsigned}
use Rattle.std.proofs.lemmas.Str.Parse.{IsNumeralModel, numerals_by_fold, parse_plain}
use Rattle.std.proofs.lemmas.Bool.{lt-ltb, ltb-true}
use Rattle.std.proofs.lemmas.Bool.Decides.{nat_tests}
use Rattle.whole_runs.specs.CommandLine.{value_after, number_word}

own : IsNumeralModel (λ ds. all_ascii_digits ds ≡ true) (value_after 0)
own = numerals_by_fold _ (search rules) value_after (search rules)

by_tests : {E : Type 0} (a b c : Bool) (n : ℕ) (r : Result ℕ E) → OkIff r ((b ≡ true) × (a ≡ true) × (c ≡ true)) n
    → result_ok r ≡ (if a && b && c then Some n else None)
by_tests true true true n (Ok x) h = ap Some h.1
by_tests true true true n (Err e) h = absurd (h (refl, refl, refl))
by_tests false b c n (Ok x) h = absurd cc
by_tests a false c n (Ok x) h = absurd cc
by_tests a b false n (Ok x) h = absurd cc
by_tests false b c n (Err e) h = refl
by_tests true false c n (Err e) h = refl
by_tests true true false n (Err e) h = refl

OkIff-weaker : {E P Q : Type 0} (n : ℕ) (r : Result ℕ E) → (P → Q) → (Q → P) → OkIff r P n → OkIff r Q n
OkIff-weaker n (Ok x) there back h = (there h.0, h.1)
OkIff-weaker n (Err e) there back h = λ q. h (back q)

pub number_read : {E : Type 0} (bs : List ℕ) (r : Result ℕ E) → get_or bs 0 0 ≢ 43 → ParsesUnsigned 64 10 bs r → result_ok r ≡ number_word bs
number_read bs r plain h =
    by_tests (nat_lt 0 (length bs)) (all_ascii_digits bs) (nat_lt (value_after 0 bs) (2 ^ 64)) (value_after 0 bs) r
    (OkIff-weaker (value_after 0 bs) r (λ p. (p.0, lt-ltb _ _ p.1, lt-ltb _ _ p.2)) (λ q. (q.0, ltb-true _ _ q.1, ltb-true _ _ q.2))
    (parse_plain own 64 bs r h plain))

pub not_plus : (b : ℕ) → eqb b 43 ≡ false → b ≢ 43
not_plus b other is = grind (arith, nat_tests, other, is)
