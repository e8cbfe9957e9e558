-- The reply to a line as a function. No public clause cites it, so a reader need not believe it.
use Rattle.std.specs.Prelude.{ℕ, List}
use Rattle.zeta_expr.specs.declared.fault.LineFault.TheVariants.{LineTooLong, Syntax}
use Rattle.zeta_expr.specs.LineMeaning.{LineMeaning, IsMeaning, too_long, no_line, reads}
use Rattle.zeta_expr.proofs.OneMeaning.{some_meaning}
use Rattle.table_rewrite.specs.Replies.{fault_text}
use Rattle.probe_replies.specs.Replies.{value_text}

-- each line has a meaning, and how it has one tells its terms
abbrev pub reply_by : ℕ → ℕ → (line : List ℕ) (a : LineMeaning) → IsMeaning 0 0 0 line a → List ℕ
reply_by m n line a (too_long long is) = fault_text LineTooLong
reply_by m n line a (no_line at short stop is) = fault_text (Syntax at)
reply_by m n line a (reads e short reading is) = value_text m n e

unfoldable pub reply_of : ℕ → ℕ → List ℕ → List ℕ
reply_of m n line = reply_by m n line (some_meaning 0 0 0 line).0 (some_meaning 0 0 0 line).1
