-- A refusal tells one place.
use Rattle.std.specs.Prelude.{◌≡◌, ℕ, List, IsErrOf}
use Rattle.std.proofs.Common.{Err}
use Rattle.share_model.specs.declared.fault.ShareFault.TheVariants.{BadRow, NotReduced, Missing}

pub same-bad_row : {T : Type 0} (j i : ℕ) → IsErrOf {T = T} (Err (BadRow j)) (BadRow i) → j ≡ i
same-bad_row j i e = cc

pub same-not_reduced : {T : Type 0} (j i : ℕ) → IsErrOf {T = T} (Err (NotReduced j)) (NotReduced i) → j ≡ i
same-not_reduced j i e = cc

pub same-missing : {T : Type 0} (j n : ℕ) (pairs rest : List (ℕ × ℕ)) → IsErrOf {T = T} (Err (Missing j pairs)) (Missing n rest) → (j ≡ n) × (pairs ≡ rest)
same-missing j n pairs rest e = (cc, cc)
