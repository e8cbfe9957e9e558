-- What single steps of the code answer. No public clause cites these, so a reader need not believe them.
use Rattle.std.specs.Prelude.{◌≡◌, ℕ, ◌≤◌, List, Option, Result, Ok, Err, true}
use Rattle.zeta_model.specs.Words.{has_index}
use Rattle.share_model.specs.declared.fault.ShareFault.{ShareFault}
use Rattle.share_model.specs.declared.fault.ShareFault.TheVariants.{NoInverseWord, NoInverseRelation, BadRow, NotReduced, Missing, Memory}
use Rattle.merge_program.specs.declared.status.MergeStatus.{MergeStatus}
use Rattle.merge_program.specs.declared.status.MergeStatus.TheVariants as status
use Rattle.merge_program.specs.declared.words.ShareWords.{ShareWords}
use Rattle.merge_program.specs.ShareRuns.{IsShareRun, Ends}

-- how a run ends after its last write
abbrev pub end_after : {T E : Type 0} → Result T E → MergeStatus → MergeStatus
end_after (Ok done) end = end
end_after (Err fault) end = status.WriteFault

-- what is told of the fault can be printed: it is one of making a share, and the word that is told has an index
abbrev pub HasText : ShareFault → Type 0
HasText (NoInverseWord value word) = has_index word ≡ true
HasText (NoInverseRelation value n) = Unit {0}
HasText (BadRow i) = ⊥
HasText (NotReduced i) = ⊥
HasText (Missing n rest) = ⊥
HasText (Memory fault) = Unit {0}

-- what a run for a share in range has: an end of a whole run, or memory was wanting and nothing was done to the sink
pub data HasRun (words : ShareWords) (taken taken_new : Option (List ℕ)) (faults faults_new : ℕ) (result : MergeStatus) : Type 0 where
  ended : (bytes : List ℕ) (end : MergeStatus) → IsShareRun (Ok words) bytes end → Ends bytes end taken taken_new faults faults_new result
      → HasRun words taken taken_new faults faults_new result
  no_memory : result ≡ status.Memory → taken_new ≡ taken → faults ≤ faults_new → HasRun words taken taken_new faults faults_new result
