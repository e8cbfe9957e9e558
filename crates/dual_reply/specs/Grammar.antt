-- The lines that are read: an optional sign, a zeta, then any number of a sign and a zeta.
use Rattle.std.specs.Prelude.{◌≡◌, ℕ, ◌<◌, ◌≤◌, Bool, true, false, List, [], ◌∷◌, length, map, sum, slice_index}
use Rattle.std.specs.List.{AllByRecursion}
use Rattle.line_tokens.specs.declared.marks.Mark.TheVariants.{Plus, Minus}
use Rattle.line_tokens.specs.Tokens.{Token, mark, IsSpelled, value_of}
use Rattle.line_tokens.specs.Runs.{IsIndexNumber, zeta_tokens}

-- a zeta by its index, each number by its digits, with the sign before it
pub record WrittenZeta : Type 0 where
  pub negative : Bool
  pub first : List ℕ
  pub more : List (List ℕ)

-- each number has one to three digits, of which the first is not 0
abbrev pub IsZeta : WrittenZeta → Type 0
IsZeta z = AllByRecursion IsIndexNumber (z.first ∷ z.more)

abbrev pub sign_token : Bool → Token
sign_token false = mark Plus
sign_token true = mark Minus

-- each zeta behind its sign
abbrev pub more_zetas : List WrittenZeta → List Token
more_zetas [] = []
more_zetas (z ∷ zs) = sign_token z.negative ∷ zeta_tokens z.first z.more (more_zetas zs)

-- the first sign may be left out where it is +
abbrev pub line_tokens : Bool → WrittenZeta → List WrittenZeta → List Token
line_tokens true z zs = more_zetas (z ∷ zs)
line_tokens false z zs = zeta_tokens z.first z.more (more_zetas zs)

abbrev pub IsSigned : Bool → WrittenZeta → Type 0
IsSigned true z = Unit {0}
IsSigned false z = z.negative ≡ false

pub record IsLineOf (with_sign : Bool) (z : WrittenZeta) (zs : List WrittenZeta) (bytes : List ℕ) : Type 0 where
  pub formed : AllByRecursion IsZeta (z ∷ zs)
  pub sign : IsSigned with_sign z
  pub spelled : IsSpelled (line_tokens with_sign z zs) bytes

abbrev pub IsLine : List ℕ → Type 0
IsLine bytes = (with_sign : Bool) × (z : WrittenZeta) × (zs : List WrittenZeta) × IsLineOf with_sign z zs bytes

-- a zeta by its index, with the sign before it
pub record Term : Type 0 where
  pub negative : Bool
  pub index : List ℕ

abbrev pub term_of : WrittenZeta → Term
term_of z = record { negative = z.negative; index = map value_of (z.first ∷ z.more) }

-- the line is one of the grammar, and these are its terms
abbrev pub IsReading : List Term → List ℕ → Type 0
IsReading terms bytes = (with_sign : Bool) × (z : WrittenZeta) × (zs : List WrittenZeta) × IsLineOf with_sign z zs bytes × (terms ≡ map term_of (z ∷ zs))

-- its sum converges, and its weight is at most 24
abbrev pub IsAcceptedIndex : List ℕ → Type 0
IsAcceptedIndex ks = (1 < slice_index ks 0) × (sum ks ≤ 24)

abbrev pub IsAccepted : List Term → List ℕ → Type 0
IsAccepted terms bytes = (length bytes ≤ 4096) × IsReading terms bytes × AllByRecursion (λ t. IsAcceptedIndex t.index) terms
