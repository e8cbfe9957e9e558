-- What a refusal tells of a line.
use Rattle.std.specs.Prelude.{ℕ, List}
use Rattle.zeta_expr.specs.declared.fault.LineFault.{LineFault}
use Rattle.zeta_expr.specs.declared.fault.LineFault.TheVariants.{Memory}
use Rattle.zeta_expr.specs.LineMeaning.{refused, IsMeaning}

-- the line means this refusal, or memory was wanting
abbrev pub IsRefusalOf : ℕ → ℕ → ℕ → List ℕ → LineFault → Type 0
IsRefusalOf m w d line (Memory e) = Unit {0}
IsRefusalOf m w d line fault = IsMeaning m w d line (refused fault)
