-- What a run of one thing that words ask for is for each: words ask for one thing.
use Rattle.std.proofs.Common.{◌≡◌, ◌≤◌, ◌<◌, ◌^◌, ℕ, List, Option, Some, subst}
use Rattle.std.specs.Prelude.{Ok, Err, IfOk}
use Rattle.dual_reply.specs.Canonical.{TellsSums}
use Rattle.dual_reply.proofs.CanonicalLaw.{tells_sums}
use Rattle.page_codec.specs.declared.params.Params.{Params}
use Rattle.whole_runs.specs.declared.command.Command.{Command}
use Rattle.whole_runs.specs.declared.command.Command.TheVariants.{Dual, Reduce, Check, Rewrite, Rational, Build, Resume}
use Rattle.whole_runs.specs.declared.command.WordsFault.{WordsFault}
use Rattle.whole_runs.specs.declared.command.WordsFault.TheVariants.{Usage}
use Rattle.whole_runs.specs.declared.status.Status.{Status}
use Rattle.whole_runs.specs.declared.status.Status.TheVariants.{Done}
use Rattle.whole_runs.specs.CommandLine.{Asked, Asks, IsInRange}
use Rattle.whole_runs.specs.Works.{Work}
use Rattle.whole_runs.specs.Wanted.{IsWork, Wants}
use Rattle.whole_runs.specs.Outcomes.{Outcome, RepliesTell, FileTells, FileTellsByFractions, FailsTest}
use Rattle.whole_runs.proofs.OneAsk.{one_ask}
use Rattle.whole_runs.proofs.Outcomes.{each_asked}
use Rattle.whole_runs.proofs.ReduceTells.{reduce_tells}
use Rattle.whole_runs.proofs.RewriteTells.{check_tells, rewrite_tells, rational_tells}
use Rattle.file_model.specs.FinalRows.{IsWholeFile}

pub same_build : (p q : Params) → ◌≡◌ {A = Command} (Build p) (Build q) → p ≡ q
same_build p q is = cc

pub same_resume : (p q : Params) → ◌≡◌ {A = Command} (Resume p) (Resume q) → p ≡ q
same_resume p q is = cc

-- what holds of each work of what is asked for holds of each that the words want
pub each_wanted : (words : List (List ℕ)) (contents : Option (List ℕ)) (a : Asked) (P : Work → Type 0) → Asks words a → ((work : Work) → IsWork a contents work → P work)
    → (work : Work) → Wants words contents work → P work
each_wanted words contents a P asks h work wants = h work (subst (λ b. IsWork b contents work) (one_ask words wants.asked a wants.asks asks) wants.is_work)

module _ (words : List (List ℕ)) (command : Command) (asks : Asks words (Ok command)) where
  pub not_usage : ¬ (Asks words (Err Usage))
  not_usage is = let same : Ok command ≡ Err Usage = one_ask words (Ok command) (Err Usage) asks is in cc

  pub passes : ¬ ((asked : Asked) × Asks words asked × FailsTest asked)
  passes fails = each_asked words fails.0 (λ a. FailsTest a) fails.1 fails.2 (Ok command) asks

  -- the command is the one that is asked for
  pub is_asked : (other : Command) → Asks words (Ok other) → command ≡ other
  is_asked other is = let same : Ok command ≡ Ok other = one_ask words (Ok command) (Ok other) asks is in cc

  -- the replies of `dual`
  pub dual_tells : IsInRange command → (m : ℕ) → Asks words (Ok (Dual m)) → TellsSums m
  dual_tells range m is =
      let fits : (3 ≤ m) × (m < 2 ^ 63) = each_asked words (Ok command) (λ a. IfOk a IsInRange) asks range (Ok (Dual m)) is in
      tells_sums m fits.0 fits.1

  -- and of `reduce`
  pub table_tells : IsInRange command → (contents left taken taken_new : Option (List ℕ)) (result : Status)
      → Outcome (Ok command) contents left taken taken_new result
      → (params : Params) → Asks words (Ok (Reduce params)) → result ≡ Done → RepliesTell params left taken taken_new
  table_tells range contents left taken taken_new result outcome params is done =
      reduce_tells params contents left taken taken_new (each_asked words (Ok command) (λ a. IfOk a IsInRange) asks range (Ok (Reduce params)) is)
      (subst (Outcome (Ok (Reduce params)) contents left taken taken_new) done
      (each_asked words (Ok command) (λ a. Outcome a contents left taken taken_new result) asks outcome (Ok (Reduce params)) is))

  -- what a run of words that ask for a command over a file is, where the disk tells these bytes
  told_run : (contents left taken taken_new : Option (List ℕ)) (result : Status) → Outcome (Ok command) contents left taken taken_new result
      → (bytes : List ℕ) (asked : Asked) → Asks words asked → contents ≡ Some bytes → result ≡ Done → Outcome asked (Some bytes) left taken taken_new Done
  told_run contents left taken taken_new result outcome bytes asked is told done =
      subst (Outcome asked (Some bytes) left taken taken_new) done
      (subst (λ o. Outcome asked o left taken taken_new result) told
      (each_asked words (Ok command) (λ a. Outcome a contents left taken taken_new result) asks outcome asked is))

  module _ (contents left taken taken_new : Option (List ℕ)) (result : Status) (outcome : Outcome (Ok command) contents left taken taken_new result) where
    pub file_checked : (bytes : List ℕ) → Asks words (Ok Check) → contents ≡ Some bytes → result ≡ Done → IsWholeFile bytes
    file_checked bytes is told done =
        check_tells bytes left taken taken_new (told_run contents left taken taken_new result outcome bytes (Ok Check) is told done)

    pub file_tells : (bytes : List ℕ) → Asks words (Ok Rewrite) → contents ≡ Some bytes → result ≡ Done → FileTells bytes left taken taken_new
    file_tells bytes is told done =
        rewrite_tells bytes left taken taken_new (told_run contents left taken taken_new result outcome bytes (Ok Rewrite) is told done)

    pub fractions_tell : (bytes : List ℕ) → Asks words (Ok Rational) → contents ≡ Some bytes → result ≡ Done
        → FileTellsByFractions bytes left taken taken_new
    fractions_tell bytes is told done =
        rational_tells bytes left taken taken_new (told_run contents left taken taken_new result outcome bytes (Ok Rational) is told done)

module _ (words : List (List ℕ)) (fault : WordsFault) (asks : Asks words (Err fault)) where
  pub same_fault : Asks words (Err Usage) → fault ≡ Usage
  same_fault is = let same : Err fault ≡ Err Usage = one_ask words (Err fault) (Err Usage) asks is in cc

  pub fails : (asked : Asked) × Asks words asked × FailsTest asked → FailsTest (Err fault)
  fails h = each_asked words h.0 (λ a. FailsTest a) h.1 h.2 (Err fault) asks

  pub no_dual : (m : ℕ) → ¬ (Asks words (Ok (Dual m)))
  no_dual m is = let same : Err fault ≡ Ok (Dual m) = one_ask words (Err fault) (Ok (Dual m)) asks is in cc

  pub no_reduce : (params : Params) → ¬ (Asks words (Ok (Reduce params)))
  no_reduce params is = let same : Err fault ≡ Ok (Reduce params) = one_ask words (Err fault) (Ok (Reduce params)) asks is in cc

  pub no_command : (other : Command) → ¬ (Asks words (Ok other))
  no_command other is = let same : Err fault ≡ Ok other = one_ask words (Err fault) (Ok other) asks is in cc
