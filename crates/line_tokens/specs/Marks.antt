-- The mark that a byte spells.
use Rattle.std.specs.Prelude.{ℕ, ◌==◌, if◌then◌else◌, Option, Some, None}
use Rattle.line_tokens.specs.declared.marks.Mark.{Mark}
use Rattle.line_tokens.specs.declared.marks.Mark.TheVariants.{Plus, Minus, Star, Slash, Caret, Open, Close, Comma, Letter}

-- none where the byte spells none
abbrev pub mark_of : ℕ → Option Mark
mark_of b =
    if b == 43 then Some Plus else (if b == 45 then Some Minus else
    (if b == 42 then Some Star else
    (if b == 47 then Some Slash else
    (if b == 94 then Some Caret else
    (if b == 40 then Some Open else (if b == 41 then Some Close else (if b == 44 then Some Comma else (if b == 122 then Some Letter else None))))))))
