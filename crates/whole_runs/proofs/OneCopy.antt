-- What is said of an old file is one thing, and what is to be done is told by the words and the disk, or by the source with them.
use Rattle.std.specs.Prelude.{◌≡◌, ℕ, List, [], ◌∷◌, Option, Some, None, Ok, Err}
use Rattle.std.proofs.Common.{sym, ◌∙◌, ap}
use Rattle.table_migration.proofs.Readings.{one_reading}
use Rattle.whole_runs.specs.declared.command.Command.TheVariants.{Dual, List as ListOf, Reduce, Sample, Probe, Show, Check, Rewrite, Rational, Build, Resume, Migrate}
use Rattle.whole_runs.specs.CommandLine.{Asked}
use Rattle.whole_runs.specs.Copies.{copied_work, IsCopied, IsRefusedCopy, IsCopy}
use Rattle.whole_runs.specs.Works.{Work}
use Rattle.whole_runs.specs.Wanted.{IsWork, IsWorkOver}
use Rattle.whole_runs.specs.Outcomes.{AsksForReplies, ReadsSource, NamesFile}
use Rattle.whole_runs.proofs.OneWork.{one_work}

one_copied : (bytes : List ℕ) (v w : Work) → IsCopied bytes v → IsCopied bytes w → v ≡ w
one_copied bytes v w x y =
    let (pages, reads) = x.ends in
    let (others, also) = y.ends in
    let (same, once) = one_reading bytes pages others x.answer y.answer reads also in
    x.told ∙ ap copied_work once ∙ sym y.told

one_copy : (bytes : List ℕ) (left : Option (List ℕ)) (v w : Work) → IsCopy bytes left v → IsCopy bytes left w → v ≡ w
one_copy [] (Some input) v w x y = one_copied input v w x y
one_copy [] None v w x y = absurd x
one_copy (byte ∷ bytes) left v w x y = x ∙ sym y

pub one_work_over : (asked : Asked) (contents left : Option (List ℕ)) (v w : Work) → IsWorkOver asked contents left v → IsWorkOver asked contents left w → v ≡ w
one_work_over (Ok Migrate) (Some bytes) left v w x y = one_copy bytes left v w x y
one_work_over (Ok Migrate) None left v w x y = absurd x
one_work_over (Err fault) contents left v w x y = one_work (Err fault) contents v w x y
one_work_over (Ok (Dual m)) contents left v w x y = one_work (Ok (Dual m)) contents v w x y
one_work_over (Ok (ListOf a d)) contents left v w x y = one_work (Ok (ListOf a d)) contents v w x y
one_work_over (Ok (Reduce params)) contents left v w x y = one_work (Ok (Reduce params)) contents v w x y
one_work_over (Ok (Sample params seed number)) contents left v w x y = one_work (Ok (Sample params seed number)) contents v w x y
one_work_over (Ok (Probe n m)) contents left v w x y = one_work (Ok (Probe n m)) contents v w x y
one_work_over (Ok Show) contents left v w x y = one_work (Ok Show) contents v w x y
one_work_over (Ok Check) contents left v w x y = one_work (Ok Check) contents v w x y
one_work_over (Ok Rewrite) contents left v w x y = one_work (Ok Rewrite) contents v w x y
one_work_over (Ok Rational) contents left v w x y = one_work (Ok Rational) contents v w x y
one_work_over (Ok (Build params)) contents left v w x y = one_work (Ok (Build params)) contents v w x y
one_work_over (Ok (Resume params)) contents left v w x y = one_work (Ok (Resume params)) contents v w x y

-- a command that names a file has no work where no contents are told
pub untold_work : (asked : Asked) → NamesFile asked → (left : Option (List ℕ)) (work : Work) → ¬ (IsWorkOver asked None left work)
untold_work (Ok Show) names left work is = is
untold_work (Ok Check) names left work is = is
untold_work (Ok Rewrite) names left work is = is
untold_work (Ok Rational) names left work is = is
untold_work (Ok (Build params)) names left work is = is
untold_work (Ok (Resume params)) names left work is = is
untold_work (Ok Migrate) names left work is = is
untold_work asked names left work is = absurd names

refused_copy : (bytes : List ℕ) (left : Option (List ℕ)) (work : Work) → IsRefusedCopy bytes work → IsCopy bytes left work
refused_copy [] left work is = absurd is
refused_copy (byte ∷ bytes) left work is = is

pub work_over : (asked : Asked) (contents left : Option (List ℕ)) (work : Work) → IsWork asked contents work → IsWorkOver asked contents left work
work_over (Ok Migrate) (Some bytes) left work is = refused_copy bytes left work is
work_over (Ok Migrate) None left work is = absurd is
work_over (Err fault) contents left work is = is
work_over (Ok (Dual m)) contents left work is = is
work_over (Ok (ListOf a d)) contents left work is = is
work_over (Ok (Reduce params)) contents left work is = is
work_over (Ok (Sample params seed number)) contents left work is = is
work_over (Ok (Probe n m)) contents left work is = is
work_over (Ok Show) contents left work is = is
work_over (Ok Check) contents left work is = is
work_over (Ok Rewrite) contents left work is = is
work_over (Ok Rational) contents left work is = is
work_over (Ok (Build params)) contents left work is = is
work_over (Ok (Resume params)) contents left work is = is

-- a command that replies to lines reads from the source
pub lines_read : (asked : Asked) → AsksForReplies asked → ReadsSource asked
lines_read (Ok Migrate) asks = tt
lines_read asked asks = asks
