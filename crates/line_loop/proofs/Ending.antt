-- Lines that end within a piece.
use Rattle.std.proofs.Common.{◌≡◌, ℕ, ◌+◌, ◌-◌, ◌<◌, ◌≤◌, Bool, true, false, eqb, List, [], ◌∷◌, ◌++◌, length, get_or, take, drop, take-append-drop, None, Some, refl, sym, ap, subst, ◌∙◌, append_assoc, arith, length-drop, suc}
use Rattle.std.proofs.lemmas.List.{append-nil, take_all, drop_more, drop-drop, get_or-take, length-take-le}
use Rattle.std.proofs.lemmas.Bool.Decides.{nat_tests}
use Rattle.std.proofs.lemmas.List.Concat.{flat_map-cons}
use Rattle.std.specs.Prelude.{Result, Ok, Err, OnOk, is_ok, if◌then◌else◌}
use Rattle.memchr.specs.Find.{IsFirstByte, is_byte}
use Rattle.line_loop.specs.Lines.{Cut, cut_from, answer_to, answers}
use Rattle.line_loop.proofs.Cutting.{at_newline, at_byte}

-- none of the bytes is 10
abbrev NoneEnds : List ℕ → Type 0
NoneEnds bytes = (k : ℕ) → k < length bytes → eqb (get_or bytes k 0) 10 ≡ false

tail_too : (b : ℕ) (bs : List ℕ) → NoneEnds (b ∷ bs) → NoneEnds bs
tail_too b bs none k lt = none (suc k) (omega (arith, lt))

-- bytes that end no line go onto the line
no_end : (line front rest : List ℕ) → NoneEnds front → cut_from line (front ++ rest) ≡ cut_from (line ++ front) rest
no_end line [] rest none = ap (λ (l : List ℕ). cut_from l rest) (sym (append-nil line))
no_end line (b ∷ bs) rest none =
    at_byte line b (bs ++ rest) (none 0 (omega arith)) ∙ no_end (line ++ b ∷ []) bs rest (tail_too b bs none)
    ∙ ap (λ (l : List ℕ). cut_from l rest) (append_assoc line (b ∷ []) bs)

is_false : (b : Bool) → ¬ (b ≡ true) → b ≡ false
is_false true no_true = absurd (no_true refl)
is_false false no_true = refl

cut_nil : (line : List ℕ) → cut_from line [] ≡ ([], line)
cut_nil line = ap (λ (l : List ℕ). ([], l)) (append-nil line)

-- the piece from a place on, as the search is lent it
from_place : (piece : List ℕ) (at : ℕ) → take (length piece - at) (drop at piece) ≡ drop at piece
from_place piece at = take_all (length piece - at) (drop at piece) (omega (arith, length-drop at piece))

ten_is : (b : ℕ) → eqb b 10 ≡ true → b ≡ 10
ten_is b is = grind (arith, nat_tests, is)

first_end : (rest : List ℕ) (k : ℕ) → IsFirstByte (is_byte 10) rest (Some k)
    → (k < length rest) × NoneEnds (take k rest) × (rest ≡ take k rest ++ 10 ∷ drop (k + 1) rest)
first_end rest k found =
    let ten : get_or rest k 0 ≡ 10 = ten_is (get_or rest k 0) found.1 in (
      found.0.high,
      λ j lt. let below : j < k = omega (arith, length-take-le k rest (omega (arith, found.0.high))) in
          ap (λ (b : ℕ). eqb b 10) (get_or-take k rest j 0 below) ∙ is_false (eqb (get_or rest j 0) 10) (found.0.before j (omega arith) below),
      sym (take-append-drop k rest) ∙ ap (λ (l : List ℕ). take k rest ++ l) (drop_more rest k 0 found.0.high ∙ ap (λ (b : ℕ). b ∷ drop (k + 1) rest) ten),
    )

-- the next line of the piece from a place on, and what is behind it
pub next_line : (line piece : List ℕ) (at k : ℕ) → at ≤ length piece → IsFirstByte (is_byte 10) (take (length piece - at) (drop at piece)) (Some k)
    → (at + k < length piece) × (cut_from line (drop at piece)
    ≡ ((line ++ take k (drop at piece)) ∷ (cut_from [] (drop (at + (k + 1)) piece)).0, (cut_from [] (drop (at + (k + 1)) piece)).1))
next_line line piece at k within found =
    let rest = drop at piece in
    let f = first_end rest k (subst (λ (l : List ℕ). IsFirstByte (is_byte 10) l (Some k)) (from_place piece at) found) in
    let behind : drop (k + 1) rest ≡ drop (at + (k + 1)) piece = drop-drop (k + 1) at piece in (
      omega (arith, f.0, length-drop at piece),
      ap (cut_from line) f.2 ∙ no_end line (take k rest) (10 ∷ drop (k + 1) rest) f.1 ∙ at_newline (line ++ take k rest) (drop (k + 1) rest)
          ∙ ap (λ (l : List ℕ). ((line ++ take k rest) ∷ (cut_from [] l).0, (cut_from [] l).1)) behind,
    )

-- no line ends in the piece from a place on
pub no_line : (line piece : List ℕ) (at : ℕ) → IsFirstByte (is_byte 10) (take (length piece - at) (drop at piece)) None
    → cut_from line (drop at piece) ≡ ([], line ++ drop at piece)
no_line line piece at missing =
    let rest = drop at piece in
    let none : NoneEnds rest = λ k lt. is_false (eqb (get_or rest k 0) 10)
    (subst (λ (l : List ℕ). IsFirstByte (is_byte 10) l None) (from_place piece at) missing k (omega arith) lt) in
    ap (cut_from line) (sym (append-nil rest)) ∙ no_end line rest [] none ∙ cut_nil (line ++ rest)

module _ (reply : List ℕ → List ℕ) where
  -- the next line was answered, and the replies to the rest of the piece are still to come
  pub replies_kept : (r1 r2 line line2 piece all : List ℕ) (at k n : ℕ) → at ≤ length piece → n ≡ k
      → IsFirstByte (is_byte 10) (take (length piece - at) (drop at piece)) (Some k)
      → r2 ≡ r1 ++ answer_to reply (line ++ take n (drop at piece)) → line2 ≡ [] → r1 ++ answers reply (cut_from line (drop at piece)).0 ≡ all
      → r2 ++ answers reply (cut_from line2 (drop (at + (k + 1)) piece)).0 ≡ all
  replies_kept r1 r2 line line2 piece all at k n within same found wrote none so_far =
      let this = line ++ take k (drop at piece) in
      let rest = (cut_from [] (drop (at + (k + 1)) piece)).0 in
      ap (λ (l : List ℕ). r2 ++ answers reply (cut_from l (drop (at + (k + 1)) piece)).0) none
      ∙ ap (λ (r : List ℕ). r ++ answers reply rest) (wrote ∙ ap (λ (i : ℕ). r1 ++ answer_to reply (line ++ take i (drop at piece))) same)
      ∙ append_assoc r1 (answer_to reply this) (answers reply rest) ∙ ap (λ (l : List ℕ). r1 ++ l) (sym (flat_map-cons (answer_to reply) this rest))
      ∙ sym (ap (λ (c : Cut). r1 ++ answers reply c.0) (next_line line piece at k within found).1) ∙ so_far

  -- all lines that end in the piece were answered
  pub replies_done : (r1 line piece all : List ℕ) (at : ℕ) → IsFirstByte (is_byte 10) (take (length piece - at) (drop at piece)) None
      → r1 ++ answers reply (cut_from line (drop at piece)).0 ≡ all → r1 ≡ all
  replies_done r1 line piece all at missing so_far =
      sym (append-nil r1) ∙ sym (ap (λ (c : Cut). r1 ++ answers reply c.0) (no_line line piece at missing)) ∙ so_far

pub line_kept : (line line2 piece begun : List ℕ) (at k : ℕ) → at ≤ length piece
    → IsFirstByte (is_byte 10) (take (length piece - at) (drop at piece)) (Some k) → line2 ≡ [] → (cut_from line (drop at piece)).1 ≡ begun
    → (cut_from line2 (drop (at + (k + 1)) piece)).1 ≡ begun
line_kept line line2 piece begun at k within found none so_far =
    ap (λ (l : List ℕ). (cut_from l (drop (at + (k + 1)) piece)).1) none ∙ sym (ap (λ (c : Cut). c.1) (next_line line piece at k within found).1) ∙ so_far

pub line_done : (line piece begun : List ℕ) (at : ℕ) → IsFirstByte (is_byte 10) (take (length piece - at) (drop at piece)) None
    → (cut_from line (drop at piece)).1 ≡ begun → line ++ take (length piece - at) (drop at piece) ≡ begun
line_done line piece begun at missing so_far =
    ap (λ (l : List ℕ). line ++ l) (from_place piece at) ∙ sym (ap (λ (c : Cut). c.1) (no_line line piece at missing)) ∙ so_far

-- bytes that went onto a line where there was memory
pub on_ok_appended : {T E : Type 0} (result : Result T E) (old more new all : List ℕ) → new ≡ (if is_ok result then old ++ more else old)
    → old ++ more ≡ all → OnOk result (new ≡ all)
on_ok_appended (Ok x) old more new all is same = is ∙ same
on_ok_appended (Err e) old more new all is same = tt

pub on_ok_so : {T E P : Type 0} (result : Result T E) → P → OnOk result P
on_ok_so (Ok x) so = so
on_ok_so (Err e) so = tt
