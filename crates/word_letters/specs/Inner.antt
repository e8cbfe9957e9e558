-- What single steps of the code answer. No public clause cites these, so a reader need not believe them.
use Rattle.std.specs.Prelude.{ℕ, ◌+◌, ◌-◌, ◌*◌, Bool, true, false, ◌&&◌, ◌==◌, nat_lt, nat_le, if◌then◌else◌, Option, Some, None, List, [], ◌∷◌, ◌++◌, map, filter, codes}
use Rattle.std.specs.Option.{option_and_then}
use Rattle.std.specs.Fmt.{decimal}
use Rattle.zeta_model.specs.declared.Letter.{Letter}
use Rattle.zeta_model.specs.Words.{depth_of, ends_with_y}
use Rattle.zeta_model.specs.WordLists.{all_words}
use Rattle.word_letters.specs.declared.parse.Place.{Place}
use Rattle.word_letters.specs.declared.parse.Place.TheVariants.{Start, Opened, Number, Digits, End}

-- a comma stands before each number but the first
abbrev pub part_text : Bool → ℕ → List ℕ
part_text true k = decimal k
part_text false k = codes "," ++ decimal k

-- the byte is a decimal digit
abbrev pub is_digit : ℕ → Bool
is_digit b = nat_le 48 b && nat_le b 57

-- behind the digits of k: a comma, a parenthesis, or one more digit where no zero leads and the number stays below 10000
abbrev pub digits_after : ℕ → ℕ → Option Place
digits_after k b = if b == 44 then Some Number else (if b == 41 then Some End else (if is_digit b && (nat_lt 0 k && nat_le k 999) then Some (Digits (k * 10 + (b - 48))) else None))

abbrev pub place_after : Place → ℕ → Option Place
place_after Start b = if b == 122 then Some Opened else None
place_after Opened b = if b == 40 then Some Number else None
place_after Number b = if is_digit b then Some (Digits (b - 48)) else None
place_after (Digits k) b = digits_after k b
place_after End b = None

-- the number whose digits the byte ends
abbrev pub whole_number : Place → ℕ → Option ℕ
whole_number Start b = None
whole_number Opened b = None
whole_number Number b = None
whole_number (Digits k) b = if is_digit b then None else Some k
whole_number End b = None

-- the byte of the first zero, where the digits of k end before `at`
abbrev pub zero_after : Option ℕ → ℕ → ℕ → Option ℕ
zero_after (Some place) at k = Some place
zero_after None at k = if k == 0 then Some (at - 1) else None

-- the whole numbers: one more, where the byte ends its digits
abbrev pub whole_after : Place → ℕ → List ℕ → List ℕ
whole_after Start b ks = ks
whole_after Opened b ks = ks
whole_after Number b ks = ks
whole_after (Digits k) b ks = if is_digit b then ks else ks ++ k ∷ []
whole_after End b ks = ks

-- reading on from a place; none where a byte may not stand
abbrev pub read : Place → List ℕ → List ℕ → Option (Place × List ℕ)
read place ks [] = Some (place, ks)
read place ks (b ∷ bytes) = option_and_then (λ next. read next (whole_after place b ks) bytes) (place_after place b)

-- the word ends with y, and at most d of its letters are y
abbrev pub is_tail : ℕ → List Letter → Bool
is_tail d t = ends_with_y t && nat_le (depth_of t) d

-- the words that are f with n letters behind it, the last one y, and at most d of these y
unfoldable pub words_behind : List Letter → ℕ → ℕ → List (List Letter)
words_behind f n d = map (λ t. f ++ t) (filter (is_tail d) (all_words n))
