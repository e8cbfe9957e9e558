-- What a line means: a sum of words, or the first cause for which it means none.
use Rattle.std.specs.Prelude.{◌≡◌, ℕ, ◌%◌, ◌<◌, ◌≤◌, Option, Some, None, List, length}
use Rattle.line_tokens.specs.Prefixes.{IsStop}
use Rattle.zeta_model.specs.Sums.{Sum}
use Rattle.zeta_expr.specs.declared.fault.LineFault.{LineFault}
use Rattle.zeta_expr.specs.declared.fault.LineFault.TheVariants.{LineTooLong, Syntax}
use Rattle.zeta_expr.specs.Forms.{TermForm}
use Rattle.zeta_expr.specs.Grammar.{IsLine}
use Rattle.zeta_expr.specs.Readings.{IsReading}
use Rattle.zeta_expr.specs.Meaning.{refusal_of, sum_of_terms}

-- a sum, each word with a residue, or a refusal
pub data LineMeaning : Type 0 where
  means : Sum → LineMeaning
  refused : LineFault → LineMeaning

-- the sum where there is no refusal
abbrev pub unless_refused : Option LineFault → Sum → LineMeaning
unless_refused None s = means s
unless_refused (Some fault) s = refused fault

-- the meaning of terms modulo m, where they are to be of weight w and at most d deep
abbrev pub meaning_of : ℕ → ℕ → ℕ → List TermForm → LineMeaning
meaning_of m w d e = unless_refused (refusal_of m w d e) (λ t. sum_of_terms m e t % m)

-- the meaning of a line: it is too long, or no line of the grammar, or means what its terms mean
pub data IsMeaning (m w d : ℕ) (line : List ℕ) (a : LineMeaning) : Type 0 where
  too_long : 4096 < length line → a ≡ refused LineTooLong → IsMeaning m w d line a
  no_line : (at : ℕ) → length line ≤ 4096 → IsStop IsLine line at → a ≡ refused (Syntax at) → IsMeaning m w d line a
  reads : (e : List TermForm) → length line ≤ 4096 → IsReading line e → a ≡ meaning_of m w d e → IsMeaning m w d line a
