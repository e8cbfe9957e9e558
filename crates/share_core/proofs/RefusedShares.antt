-- What is answered to a share that has a fault.
use Rattle.std.proofs.Common.{◌≡◌, ℕ, List, refl}
use Rattle.std.specs.Prelude.{IfOk}
use Rattle.zeta_model.specs.declared.Letter.{Letter}
use Rattle.sparse_rows.specs.Entries.{IsBelow}
use Rattle.column_order.specs.Columns.{column_count}
use Rattle.page_rows.specs.Written.{AreResidues}
use Rattle.table_model.specs.Faults.Verdict.{BadRow as BadRowFound, NotReduced as NotReducedFound, Missing as MissingFound}
use Rattle.cert_checker.specs.Certified.{residues_at}
use Rattle.share_model.specs.declared.share.Share.{Share}
use Rattle.share_model.specs.declared.fault.ShareFault.{ShareFault}
use Rattle.share_model.specs.declared.fault.ShareFault.TheVariants.{NoInverseWord, NoInverseRelation, BadRow, NotReduced, Missing, Memory}
use Rattle.share_model.specs.Shares.{IsFoundOf}
use Rattle.share_core.specs.Lists.{Lists}
use Rattle.share_core.specs.Coordinations.{Setting}
use Rattle.share_core.specs.Steps.{IsNew, Delivers}
use Rattle.share_core.specs.Inner.{refused_by}

-- what a check says of the fault that it tells
pub record IsTold (share : Share) (fault : ShareFault) : Type 0 where
  pub bad_row : (i : ℕ) → fault ≡ BadRow i → IsFoundOf share (BadRowFound i)
  pub not_reduced : (i : ℕ) → fault ≡ NotReduced i → IsFoundOf share (NotReducedFound i)
  pub missing : (n : ℕ) (rest : List (ℕ × ℕ)) → fault ≡ Missing n rest → IsFoundOf share (MissingFound n (residues_at rest))
  pub residues : (n : ℕ) (rest : List (ℕ × ℕ)) → fault ≡ Missing n rest → AreResidues (λ k. k) share.params.modulus rest
  pub columns : (n : ℕ) (rest : List (ℕ × ℕ)) → fault ≡ Missing n rest
      → IsBelow (λ k. k) (column_count share.params.weight share.params.depth) rest
  pub no_word : (value : ℕ) (word : List Letter) → ¬ (fault ≡ NoInverseWord value word)
  pub no_relation : (value n : ℕ) → ¬ (fault ≡ NoInverseRelation value n)

pub refusal_delivers : {R E : Type 0} (value : E → ℕ) (setting : Setting R) (old : Lists R E) (share : Share) (fault : ShareFault)
    → IsNew setting old share → IsTold share fault → IfOk (refused_by fault) (λ answer. Delivers value setting old share answer old)
refusal_delivers value setting old share (NoInverseWord residue word) is_new told = absurd (told.no_word residue word refl)
refusal_delivers value setting old share (NoInverseRelation residue n) is_new told = absurd (told.no_relation residue n refl)
refusal_delivers value setting old share (BadRow i) is_new told = (is_new, told.bad_row i refl, refl)
refusal_delivers value setting old share (NotReduced i) is_new told = (is_new, told.not_reduced i refl, refl)
refusal_delivers value setting old share (Missing n rest) is_new told =
    (is_new, record { found = told.missing n rest refl; residues = told.residues n rest refl; columns = told.columns n rest refl }, refl)
refusal_delivers value setting old share (Memory fault) is_new told = tt
