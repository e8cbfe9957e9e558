-- What the replies of a table with fractions tell of the lines.
use Rattle.std.specs.Prelude.{◌≡◌, ◌⊎◌, ◌↔◌, ℕ, List, slice_index}
use Rattle.zeta_model.specs.Sums.{Sum, difference}
use Rattle.table_model.specs.ListedSpan.{InSpanOfAll}
use Rattle.zeta_expr.specs.declared.fault.LineFault.{LineFault}
use Rattle.zeta_expr.specs.LineMeaning.{LineMeaning, means, refused, IsMeaning}
use Rattle.table_rewrite.specs.Replies.{fault_text}
use Rattle.table_rewrite.specs.Telling.{BeginsWithDigit}

-- the text begins with a digit, or with a minus
abbrev pub BeginsAsNumber : List ℕ → Type 0
BeginsAsNumber text = (slice_index text 0 ≡ 45) ⊎ BeginsWithDigit text

-- what replies tell of lines for a table of weight w and depth d modulo m
pub record TellsByFractions (m w d : ℕ) (reply : List ℕ → List ℕ) : Type 0 where
  -- each line means a sum, and so is accepted, or is refused
  pub whole : (line : List ℕ) → (a : LineMeaning) × IsMeaning m w d line a
  -- two accepted lines get the same text exactly where the difference of their sums is in the span of the listed relations
  pub canonical : (a b : List ℕ) (s t : Sum) → IsMeaning m w d a (means s) → IsMeaning m w d b (means t)
      → (reply a ≡ reply b) ↔ InSpanOfAll m w d (difference m s t)
  -- a line that is not accepted gets the text of its refusal
  pub exact : (line : List ℕ) (fault : LineFault) → IsMeaning m w d line (refused fault) → reply line ≡ fault_text fault
  -- the reply to an accepted line begins with a digit or a minus, and no refusal does
  pub accepted : (line : List ℕ) (s : Sum) → IsMeaning m w d line (means s) → BeginsAsNumber (reply line)
  pub apart : (line : List ℕ) (fault : LineFault) → IsMeaning m w d line (refused fault) → ¬ (BeginsAsNumber (reply line))
