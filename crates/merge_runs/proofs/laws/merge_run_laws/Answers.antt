use Rattle.std.proofs.Common.{ℕ, [], refl, subst}
use Rattle.share_core.specs.Lists.{empty}
use Rattle.share_merge.specs.Turns.{IsLeastMissing, HasAll, MergesWhole, BreaksAtRow}
use Rattle.merge_runs.proofs.OneMerge.{one_merge}
use Rattle.merge_runs.proofs.OneRun.{one_run}
use Rattle.merge_runs.proofs.PlainTurns.{all_plain, missing_plain, whole_plain, breaks_plain}
use Rattle.merge_runs.proofs.Deliveries.{deliver_all, deliver_refused}
use Rattle.merge_runs.proofs.laws.merge_run_laws.Goals as goal

pub returns-clause-one_ask : goal.returns-clause-one_ask
returns-clause-one_ask g c = one_merge

pub returns-clause-one_run : goal.returns-clause-one_run
returns-clause-one_run g c = one_run

pub returns-clause-delivered : goal.returns-clause-delivered
returns-clause-delivered g c = λ setting merge files steps lists params of are runs.
    deliver_all g.R.Ring.value setting merge params of files steps empty lists [] refl are runs

pub returns-clause-refused : goal.returns-clause-refused
returns-clause-refused g c = λ setting merge lists new counted file share why params of these are answers.
    deliver_refused g.R.Ring.value setting merge params of lists new counted file share why these are answers

pub returns-clause-missing : goal.returns-clause-missing
returns-clause-missing g c = λ ring shares index list counted these is.
    subst (λ cs. IsLeastMissing shares cs index) these (missing_plain (g.R.Ring.value ring) shares list index is)

pub returns-clause-all : goal.returns-clause-all
returns-clause-all g c = λ ring shares list counted these is. subst (HasAll shares) these (all_plain (g.R.Ring.value ring) shares list is)

pub returns-clause-whole : goal.returns-clause-whole
returns-clause-whole g c = λ ring columns list counted these is.
    subst (λ cs. MergesWhole (g.R.Ring.modulus ring) (λ (v : ℕ). v) columns cs) these
    (whole_plain (g.R.Ring.value ring) (g.R.Ring.modulus ring) columns list is)

pub returns-clause-broken : goal.returns-clause-broken
returns-clause-broken g c = λ ring columns list counted residue share row these is.
    subst (λ cs. BreaksAtRow (g.R.Ring.modulus ring) (λ (v : ℕ). v) columns cs residue share row) these
    (breaks_plain (g.R.Ring.value ring) (g.R.Ring.modulus ring) columns list residue share row is)
