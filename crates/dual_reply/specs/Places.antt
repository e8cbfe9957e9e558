-- What may stand at each place of a line of the grammar.
use Rattle.std.specs.Prelude.{ℕ, Bool, true, false, Option, Some, None}
use Rattle.line_tokens.specs.declared.marks.Mark.{Mark}
use Rattle.line_tokens.specs.declared.marks.Mark.TheVariants.{Plus, Minus, Open, Close, Comma, Letter}
use Rattle.line_tokens.specs.declared.spots.Run.{Run}
use Rattle.line_tokens.specs.Machine.{Machine}
use Rattle.dual_reply.specs.declared.place.Place.{Place}
use Rattle.dual_reply.specs.declared.place.Place.TheVariants.{Start, BeforeZeta, AfterLetter, BeforeIndex, AfterIndex, AfterZeta}

abbrev pub after_mark : Place → Mark → Option Place
after_mark Start Plus = Some BeforeZeta
after_mark Start Minus = Some BeforeZeta
after_mark Start Letter = Some AfterLetter
after_mark Start _ = None
after_mark BeforeZeta Letter = Some AfterLetter
after_mark BeforeZeta _ = None
after_mark AfterLetter Open = Some BeforeIndex
after_mark AfterLetter _ = None
after_mark BeforeIndex m = None
after_mark AfterIndex Comma = Some BeforeIndex
after_mark AfterIndex Close = Some AfterZeta
after_mark AfterIndex _ = None
after_mark AfterZeta Plus = Some BeforeZeta
after_mark AfterZeta Minus = Some BeforeZeta
after_mark AfterZeta _ = None

abbrev pub run_at : Place → Option (Run Place)
run_at BeforeIndex = Some (record { lowest = 49; more = 2; next = AfterIndex })
run_at _ = None

-- a line ends behind a zeta
abbrev pub ends : Place → Bool
ends AfterZeta = true
ends _ = false

abbrev pub places : Machine Place
places = record { after_mark = after_mark; run_at = run_at; ends = ends }

abbrev pub limit : Place → ℕ
limit p = 1000
