-- How lines go on when more bytes come.
use Rattle.std.proofs.Common.{◌≡◌, inl, inr, ℕ, ◌+◌, ◌-◌, ◌<◌, ◌≤◌, Bool, true, false, cond, eqb, ltb, List, [], ◌∷◌, ◌++◌, length, take, refl, sym, ap, subst, ◌∙◌, append_assoc, arith}
use Rattle.std.proofs.lemmas.List.{append-nil}
use Rattle.std.proofs.Math.Seq.{take-append-add}
use Rattle.std.proofs.lemmas.Grind.{flat_map-append}
use Rattle.std.proofs.lemmas.Bool.{le-ltb, lt-ltb}
use Rattle.std.proofs.lemmas.Bool.Decides.{eqb_tells}
use Rattle.line_loop.specs.Lines.{Cut, glue, glued, cut, cut_from, last_line, lines, answer_to, answers, too_much_text, whole_output, IsPrefix}

glue_nil : (ls : List (List ℕ)) (rest : List ℕ) → glue [] ls rest ≡ (ls, rest)
glue_nil [] rest = refl
glue_nil (l ∷ ls) rest = refl

glue_glue : (line : List ℕ) (b : ℕ) (ls : List (List ℕ)) (rest : List ℕ) → glued line (glue (b ∷ []) ls rest) ≡ glue (line ++ b ∷ []) ls rest
glue_glue line b [] rest = ap (λ (r : List ℕ). ([], r)) (sym (append_assoc line (b ∷ []) rest))
glue_glue line b (l ∷ ls) rest = ap (λ (r : List ℕ). (r ∷ ls, rest)) (sym (append_assoc line (b ∷ []) l))

-- an input that is begun with nothing
pub from_nothing : (bytes : List ℕ) → cut_from [] bytes ≡ cut bytes
from_nothing bytes = glue_nil (cut bytes).0 (cut bytes).1

-- the byte 10 ends the line
pub at_newline : (line bytes : List ℕ) → cut_from line (10 ∷ bytes) ≡ (line ∷ (cut_from [] bytes).0, (cut_from [] bytes).1)
at_newline line bytes = rw from_nothing (ap (λ (l : List ℕ). (l ∷ (cut bytes).0, (cut bytes).1)) (append-nil line))

other_byte : (line : List ℕ) (b : ℕ) (bytes : List ℕ) (test : Bool) → test ≡ false
    → glued line (cond test ([] ∷ (cut bytes).0, (cut bytes).1) (glued (b ∷ []) (cut bytes))) ≡ glued (line ++ b ∷ []) (cut bytes)
other_byte line b bytes true is = absurd cc
other_byte line b bytes false is = glue_glue line b (cut bytes).0 (cut bytes).1

-- any other byte goes onto it
pub at_byte : (line : List ℕ) (b : ℕ) (bytes : List ℕ) → eqb b 10 ≡ false → cut_from line (b ∷ bytes) ≡ cut_from (line ++ b ∷ []) bytes
at_byte line b bytes other = other_byte line b bytes (eqb b 10) other

-- a cut input, and a piece behind it
abbrev then : Cut → List ℕ → Cut
then c q = (c.0 ++ (cut_from c.1 q).0, (cut_from c.1 q).1)

newline_then : (line p q : List ℕ) → cut_from [] (p ++ q) ≡ then (cut_from [] p) q → cut_from line (10 ∷ (p ++ q)) ≡ then (cut_from line (10 ∷ p)) q
newline_then line p q so_far = at_newline line (p ++ q) ∙ ap (λ (c : Cut). (line ∷ c.0, c.1)) so_far ∙ sym (ap (λ (c : Cut). then c q) (at_newline line p))

byte_then : (line : List ℕ) (b : ℕ) (p q : List ℕ) → eqb b 10 ≡ false → cut_from (line ++ b ∷ []) (p ++ q) ≡ then (cut_from (line ++ b ∷ []) p) q
    → cut_from line (b ∷ (p ++ q)) ≡ then (cut_from line (b ∷ p)) q
byte_then line b p q other so_far = at_byte line b (p ++ q) other ∙ so_far ∙ sym (ap (λ (c : Cut). then c q) (at_byte line b p other))

-- two pieces, one after the other
pub two_pieces : (line p q : List ℕ)
    → cut_from line (p ++ q) ≡ ((cut_from line p).0 ++ (cut_from (cut_from line p).1 q).0, (cut_from (cut_from line p).1 q).1)
two_pieces line [] q = ap (λ (l : List ℕ). cut_from l q) (sym (append-nil line))
two_pieces line (b ∷ p) q = elim (eqb_tells b 10) [
  | inl same ↦ subst (λ (b : ℕ). cut_from line (b ∷ (p ++ q)) ≡ then (cut_from line (b ∷ p)) q) (sym same.1) (newline_then line p q (two_pieces [] p q))
  | inr other ↦ byte_then line b p q other.0 (two_pieces (line ++ b ∷ []) p q)
]

-- more input behind some
pub more_input : (p q : List ℕ) → cut (p ++ q) ≡ ((cut p).0 ++ (cut_from (cut p).1 q).0, (cut_from (cut p).1 q).1)
more_input p q = sym (from_nothing (p ++ q)) ∙ two_pieces [] p q ∙ ap (λ (c : Cut). then c q) (from_nothing p)

-- ---- prefixes

pub prefix-trans : (a b c : List ℕ) → IsPrefix a b → IsPrefix b c → IsPrefix a c
prefix-trans a b c p q = (p.0 ++ q.0, q.1 ∙ ap (λ (l : List ℕ). l ++ q.0) p.1 ∙ append_assoc a p.0 q.0)

pub prefix-of : (a b : List ℕ) → IsPrefix a (a ++ b)
prefix-of a b = (b, refl)

pub prefix-front : (a b c : List ℕ) → IsPrefix b c → IsPrefix (a ++ b) (a ++ c)
prefix-front a b c p = (p.0, ap (λ (l : List ℕ). a ++ l) p.1 ∙ sym (append_assoc a b p.0))

module _ (limit : ℕ) (reply : List ℕ → List ℕ) where
  -- what is said to the lines that are whole in some input is said first, whatever follows
  pub said_first : (seen more : List ℕ) → IsPrefix (answers reply (cut seen).0) (answers reply (cut (seen ++ more)).0)
  said_first seen more = (
    answers reply (cut_from (cut seen).1 more).0,
    ap (λ (c : Cut). answers reply c.0) (more_input seen more)
        ∙ flat_map-append (answer_to reply) (cut seen).0 (cut_from (cut seen).1 more).0,
  )

  said_of_lines : (input : List ℕ) → IsPrefix (answers reply (cut input).0) (answers reply (lines input))
  said_of_lines input = (answers reply (last_line (cut input).1), flat_map-append (answer_to reply) (cut input).0 (last_line (cut input).1))

  at_test : (seen whole : List ℕ) (over : Bool) → IsPrefix (answers reply (cut seen).0) (answers reply (cut (take limit whole)).0)
      → IsPrefix (answers reply (cut seen).0) (answers reply (cut whole).0)
      → IsPrefix (answers reply (cut seen).0) (cond over (answers reply (cut (take limit whole)).0 ++ too_much_text) (answers reply (lines whole)))
  at_test seen whole true p q = prefix-trans _ _ _ p (prefix-of _ too_much_text)
  at_test seen whole false p q = prefix-trans _ _ _ q (said_of_lines whole)

  pub said_of_whole : (seen more : List ℕ) → length seen ≤ limit → IsPrefix (answers reply (cut seen).0) (whole_output limit reply (seen ++ more))
  said_of_whole seen more within =
      let sum : limit ≡ length seen + (limit - length seen) = omega arith in
      let past : take limit (seen ++ more) ≡ seen ++ take (limit - length seen) more =
      ap (λ (n : ℕ). take n (seen ++ more)) sum ∙ take-append-add seen more (limit - length seen) in
      at_test seen (seen ++ more) (ltb limit (length (seen ++ more)))
      (subst (λ (l : List ℕ). IsPrefix (answers reply (cut seen).0) (answers reply (cut l).0)) (sym past)
      (said_first seen (take (limit - length seen) more)))
      (said_first seen more)

  -- within the limit it is what is said to the lines
  pub whole_output-within : (input : List ℕ) → length input ≤ limit → whole_output limit reply input ≡ answers reply (lines input)
  whole_output-within input within = rw (le-ltb _ _ within) refl

  pub whole_output-over : (input : List ℕ) → limit < length input
      → whole_output limit reply input ≡ answers reply (cut (take limit input)).0 ++ too_much_text
  whole_output-over input over = rw (lt-ltb _ _ over) refl
