-- How an input is cut into lines, and what is said to it.
use Rattle.std.specs.Prelude.{◌≡◌, ℕ, List, [], ◌∷◌, ◌++◌, length, take, nat_lt, codes, ◌==◌, if◌then◌else◌}
use Rattle.std.specs.List.{flat_map}

-- the lines that the byte 10 ends, and the bytes behind the last of them
abbrev pub Cut : Type 0
Cut = List (List ℕ) × List ℕ

abbrev pub glue : List ℕ → List (List ℕ) → List ℕ → Cut
glue front [] rest = ([], front ++ rest)
glue front (l ∷ ls) rest = ((front ++ l) ∷ ls, rest)

-- bytes that stand before an input that is cut, none of them 10
abbrev pub glued : List ℕ → Cut → Cut
glued front c = glue front c.0 c.1

abbrev pub cut_byte : ℕ → Cut → Cut
cut_byte b c = if b == 10 then ([] ∷ c.0, c.1) else glued (b ∷ []) c

abbrev pub cut : List ℕ → Cut
cut [] = ([], [])
cut (b ∷ bs) = cut_byte b (cut bs)

-- the bytes of a line that is begun, and then the input
abbrev pub cut_from : List ℕ → List ℕ → Cut
cut_from line bytes = glued line (cut bytes)

-- bytes behind the last byte 10 are one more line, where there are any
abbrev pub last_line : List ℕ → List (List ℕ)
last_line [] = []
last_line (b ∷ bs) = (b ∷ bs) ∷ []

abbrev pub lines : List ℕ → List (List ℕ)
lines input = (cut input).0 ++ last_line (cut input).1

-- the reply to a line, and the byte 10
abbrev pub answer_to : (List ℕ → List ℕ) → List ℕ → List ℕ
answer_to reply line = reply line ++ 10 ∷ []

abbrev pub answers : (List ℕ → List ℕ) → List (List ℕ) → List ℕ
answers reply ls = flat_map (answer_to reply) ls

-- `too much input`, and the byte 10
abbrev pub too_much_text : List ℕ
too_much_text = codes "too much input" ++ 10 ∷ []

-- how many bytes are input at most: 64 MiB
abbrev pub input_limit : ℕ
input_limit = 67108864

-- all that is said to an input
abbrev pub whole_output : ℕ → (List ℕ → List ℕ) → List ℕ → List ℕ
whole_output limit reply input = if nat_lt limit (length input) then answers reply (cut (take limit input)).0 ++ too_much_text else answers reply
    (lines input)

abbrev pub IsPrefix : List ℕ → List ℕ → Type 0
IsPrefix part whole = (rest : List ℕ) × (whole ≡ part ++ rest)
