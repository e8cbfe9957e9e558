-- The work of a probe.
use Rattle.std.proofs.Common.{◌≡◌, ℕ, ◌≤◌, List, Option, refl, subst}
use Rattle.std.specs.Prelude.{Ok}
use Rattle.zeta_model.specs.Inverses.{HasInverse}
use Rattle.truncated_sums.specs.Inverses.{IsFirstWithout}
use Rattle.truncated_sums.specs.declared.fault.SumFault.{SumFault}
use Rattle.truncated_sums.specs.declared.fault.SumFault.TheVariants.{NoInverse, Memory}
use Rattle.probe_replies.specs.Replies.{AreProbeReplies}
use Rattle.whole_runs.specs.declared.command.Command.TheVariants.{Probe}
use Rattle.whole_runs.specs.declared.status.Status.{Status}
use Rattle.whole_runs.specs.Wanted.{IsWork}
use Rattle.whole_runs.specs.Works.Work.{Replies}
use Rattle.whole_runs.specs.Works.IsProbe.{no_inverse, whole}
use Rattle.datamine_program.specs.Inner.{IsSumFaultFor, IsRun}

module _ (n m : ℕ) (contents : Option (List ℕ)) where
  pub probe_work : (reply : List ℕ → List ℕ) → ((a : ℕ) → 1 ≤ a → a ≤ n → HasInverse m a) → AreProbeReplies m n reply
      → IsWork (Ok (Probe n m)) contents (Replies reply)
  probe_work reply inverses replies = whole inverses reply replies refl

  pub sum_fault : (fault : SumFault) → ((value term : ℕ) → fault ≡ NoInverse value term → IsFirstWithout m n value term)
      → IsSumFaultFor (Ok (Probe n m)) contents fault
  sum_fault (NoInverse value term) h = no_inverse value term (h value term refl) refl
  sum_fault (Memory e) h = tt

pub same_modulus : (n m k : ℕ) (contents left left_new taken taken_new : Option (List ℕ)) (result : Status) → m ≡ k
    → IsRun (Ok (Probe n m)) contents left left_new taken taken_new result → IsRun (Ok (Probe n k)) contents left left_new taken taken_new result
same_modulus n m k contents left left_new taken taken_new result same =
    subst (λ j. IsRun (Ok (Probe n j)) contents left left_new taken taken_new result) same
