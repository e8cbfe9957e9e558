-- The lines that are made from a seed: sums of words with small coefficients, by a linear congruential generator modulo 65537.
use Rattle.std.specs.Prelude.{ℕ, zero, suc, ◌+◌, ◌*◌, ◌%◌, List, [], ◌∷◌, ◌++◌, length, get_or}
use Rattle.std.specs.Fmt.{decimal}
use Rattle.zeta_model.specs.declared.Letter.{Letter}
use Rattle.zeta_model.specs.Indices.{word_text}

-- the state behind a step
abbrev pub next_state : ℕ → ℕ
next_state s = (75 * s + 74) % 65537

-- the state behind n steps
abbrev pub state_after : ℕ → ℕ → ℕ
state_after zero s = s
state_after (suc n) s = state_after n (next_state s)

-- the number below n that the step from a state draws
abbrev pub drawn : ℕ → ℕ → ℕ
drawn n s = next_state s % n

-- a coefficient from 1 to 9 is drawn, and then the place of a word
abbrev pub term_text : List (List Letter) → ℕ → List ℕ
term_text words s = decimal (1 + drawn 9 s) ++ (42 ∷ word_text (get_or words (drawn (length words) (next_state s)) []))

-- so many terms, one after the other
abbrev pub term_texts : List (List Letter) → ℕ → ℕ → List (List ℕ)
term_texts words zero s = []
term_texts words (suc k) s = term_text words s ∷ term_texts words k (state_after 2 s)

-- the texts, joined by +
abbrev pub joined_by_plus : List (List ℕ) → List ℕ
joined_by_plus [] = []
joined_by_plus (t ∷ []) = t
joined_by_plus (t ∷ u ∷ ts) = t ++ (43 ∷ joined_by_plus (u ∷ ts))

-- how many terms a line has: from 1 to 4
abbrev pub terms_drawn : ℕ → ℕ
terms_drawn s = 1 + drawn 4 s

-- the line that is begun at a state: the number of its terms is drawn first
abbrev pub line_from : List (List Letter) → ℕ → List ℕ
line_from words s = joined_by_plus (term_texts words (terms_drawn s) (next_state s))

-- so many lines, one after the other; the state goes on from line to line
abbrev pub lines_from : List (List Letter) → ℕ → ℕ → List (List ℕ)
lines_from words zero s = []
lines_from words (suc k) s = line_from words s ∷ lines_from words k (state_after (1 + 2 * terms_drawn s) s)

-- the lines over a list of words, a seed and a count
abbrev pub sample_lines : List (List Letter) → ℕ → ℕ → List (List ℕ)
sample_lines words seed count = lines_from words count (seed % 65537)
