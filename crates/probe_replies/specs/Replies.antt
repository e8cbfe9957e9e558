-- The reply to a line by truncated sums: its value in decimal, or its first refusal.
use Rattle.std.specs.Prelude.{◌≡◌, ℕ, ◌%◌, ◌<◌, ◌≤◌, Option, Some, None, List, length}
use Rattle.std.specs.Fmt.{decimal}
use Rattle.line_tokens.specs.Prefixes.{IsStop}
use Rattle.zeta_expr.specs.declared.fault.LineFault.TheVariants.{LineTooLong, Syntax, NoInverse}
use Rattle.zeta_expr.specs.Forms.{TermForm}
use Rattle.zeta_expr.specs.Grammar.{IsLine}
use Rattle.zeta_expr.specs.Readings.{IsReading}
use Rattle.table_rewrite.specs.Replies.{fault_text}
use Rattle.probe_replies.specs.Values.{terms_value, first_without_inverse}

-- the value, where each number below `/` has an inverse
abbrev pub unless_lacking : Option ℕ → List ℕ → List ℕ
unless_lacking None text = text
unless_lacking (Some b) text = fault_text (NoInverse b)

abbrev pub value_text : ℕ → ℕ → List TermForm → List ℕ
value_text m n e = unless_lacking (first_without_inverse m e) (decimal (terms_value m n e % m))

-- the line is too long, or no line of the grammar, or gets the value of its terms; weights and depths are not tested
pub data IsProbeReply (m n : ℕ) (line bytes : List ℕ) : Type 0 where
  too_long : 4096 < length line → bytes ≡ fault_text LineTooLong → IsProbeReply m n line bytes
  no_line : (at : ℕ) → length line ≤ 4096 → IsStop IsLine line at → bytes ≡ fault_text (Syntax at) → IsProbeReply m n line bytes
  reads : (e : List TermForm) → length line ≤ 4096 → IsReading line e → bytes ≡ value_text m n e → IsProbeReply m n line bytes

-- each line gets its reply
abbrev pub AreProbeReplies : ℕ → ℕ → (List ℕ → List ℕ) → Type 0
AreProbeReplies m n reply = (line : List ℕ) → IsProbeReply m n line (reply line)
