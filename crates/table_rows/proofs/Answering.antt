-- What an answer of an offer tells of the elimination after it.
use Rattle.std.specs.Prelude.{◌≡◌, ℕ, List, ◌∷◌, ◌++◌, [], IsErrOf}
use Rattle.std.proofs.Common.{ap, Err}
use Rattle.echelon.specs.declared.row_echelon.Traced.{Traced}
use Rattle.echelon.specs.declared.row_echelon.Traced.TheVariants.{Zero, Accepted}
use Rattle.echelon.specs.States.{Elimination}
use Rattle.echelon.specs.Traces.{IfZero, IfAccepted}
use Rattle.table_rows.specs.declared.fault.RowsFault.{RowsFault}
use Rattle.table_rows.specs.declared.fault.RowsFault.TheVariants.{NoInverse}

-- the ring and the columns stay, and the number is noted
pub offered : {R E A : Type 0} (old new : Elimination R E) (n k : ℕ) (P : Type 0) (Q : List (ℕ × E) → E → List (ℕ × E) → Type 0)
    (S : List (ℕ × E) → E → List (ℕ × E) → Type 0) (t : Traced R E A)
    → IfZero t (P × (new ≡ record old { above = n }))
    → IfAccepted t (λ forward scale uses. Q forward scale uses × S forward scale uses
    × (new ≡ record old { above = n; numbers = old.numbers ++ k ∷ []; rows = old.rows ++ forward ∷ [] }))
    → (new.ring ≡ old.ring) × (new.columns ≡ old.columns) × (new.above ≡ n)
offered old new n k P Q S Zero zero accepted = (ap (λ e. e.ring) zero.1, ap (λ e. e.columns) zero.1, ap (λ e. e.above) zero.1)
offered old new n k P Q S (Accepted row scale uses) zero accepted =
    (ap (λ e. e.ring) accepted.2, ap (λ e. e.columns) accepted.2, ap (λ e. e.above) accepted.2)

-- no row is kept where the answer is Zero
pub same_rows : {R E A : Type 0} (old new : Elimination R E) (n : ℕ) (P : Type 0) (t : Traced R E A) → t ≡ Zero
    → IfZero t (P × (new ≡ record old { above = n })) → new.rows ≡ old.rows
same_rows old new n P Zero e zero = ap (λ s. s.rows) zero.1
same_rows old new n P (Accepted row scale uses) e zero = cc

-- an answer tells one fault
pub same_fault : {T : Type 0} (a b i j : ℕ) → IsErrOf {T = T} (Err (NoInverse a i)) (NoInverse b j) → (a ≡ b) × (i ≡ j)
same_fault a b i j e = (cc, cc)

-- whatever else the call could have answered
pub same_told : {T U : Type 0} (told fault : RowsFault) → IsErrOf {T = T} (Err told) fault → IsErrOf {T = U} (Err told) fault
same_told told fault e = let same : told ≡ fault = cc in ap (λ f. Err f) same
