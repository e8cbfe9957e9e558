-- What is to be done for what the words ask for.
use Rattle.std.specs.Prelude.{◌≡◌, ℕ, List, Option, IsSomeAnd, Ok, Err}
use Rattle.dual_reply.specs.Reply.{reply_of}
use Rattle.relation_list.specs.Listings.{listing_of}
use Rattle.whole_runs.specs.declared.command.Command.TheVariants.{Dual, List as ListOf, Reduce, Sample, Probe, Show, Check, Rewrite, Rational, Build, Resume, Migrate}
use Rattle.whole_runs.specs.declared.command.WordsFault.TheVariants.{Usage, Param, Count, Terms}
use Rattle.whole_runs.specs.declared.status.Status.TheVariants as status
use Rattle.whole_runs.specs.CommandLine.{Asked, Asks}
use Rattle.whole_runs.specs.Texts.{usage_line, param_line, count_line, terms_line, name_lines}
use Rattle.whole_runs.specs.Works.{Work, IsOverTable, RepliesBy, FractionsBy, CountsBy, IsProbe}
use Rattle.whole_runs.specs.Works.Work.{Replies, Writes}
use Rattle.whole_runs.specs.FileWorks.{IsShow, IsOverFile, CompletesBy, IsBuild, IsResume}
use Rattle.whole_runs.specs.Copies.{IsRefusedCopy, IsCopy}

-- what is to be done for each command, and for words that ask for none, with the contents of the disk, where it tells them; where it does not,
-- nothing is said of a command that names a file, and nothing of `migrate` where that is for the source's bytes to tell
abbrev pub IsWork : Asked → Option (List ℕ) → Work → Type 0
IsWork (Err Usage) contents work = work ≡ Writes usage_line status.Usage
IsWork (Err (Param fault)) contents work = work ≡ Writes (param_line fault) status.Params
IsWork (Err (Count n)) contents work = work ≡ Writes (count_line n) status.Params
IsWork (Err (Terms n)) contents work = work ≡ Writes (terms_line n) status.Params
IsWork (Ok (Dual m)) contents work = work ≡ Replies (reply_of m)
IsWork (Ok (ListOf w d)) contents work = work ≡ Writes (name_lines 0 (listing_of w d)) status.Done
IsWork (Ok (Reduce params)) contents work = IsOverTable params (RepliesBy params.modulus) work
IsWork (Ok (Sample params seed number)) contents work = IsOverTable params (CountsBy params.modulus seed number) work
IsWork (Ok (Probe n m)) contents work = IsProbe n m work
IsWork (Ok Show) contents work = IsSomeAnd contents (λ bytes. IsShow bytes work)
IsWork (Ok Check) contents work = IsSomeAnd contents (λ bytes. IsOverFile bytes CompletesBy work)
IsWork (Ok Rewrite) contents work = IsSomeAnd contents (λ bytes. IsOverFile bytes (λ params. RepliesBy params.modulus) work)
IsWork (Ok Rational) contents work = IsSomeAnd contents (λ bytes. IsOverFile bytes (λ params. FractionsBy params.modulus) work)
IsWork (Ok (Build params)) contents work = IsSomeAnd contents (λ bytes. IsBuild params bytes work)
IsWork (Ok (Resume params)) contents work = IsSomeAnd contents (λ bytes. IsResume params bytes work)
IsWork (Ok Migrate) contents work = IsSomeAnd contents (λ bytes. IsRefusedCopy bytes work)

-- the same with what the source gives, where it tells: of `migrate` its bytes tell the rest
abbrev pub IsWorkOver : Asked → Option (List ℕ) → Option (List ℕ) → Work → Type 0
IsWorkOver (Err fault) contents left work = IsWork (Err fault) contents work
IsWorkOver (Ok (Dual m)) contents left work = IsWork (Ok (Dual m)) contents work
IsWorkOver (Ok (ListOf w d)) contents left work = IsWork (Ok (ListOf w d)) contents work
IsWorkOver (Ok (Reduce params)) contents left work = IsWork (Ok (Reduce params)) contents work
IsWorkOver (Ok (Sample params seed number)) contents left work = IsWork (Ok (Sample params seed number)) contents work
IsWorkOver (Ok (Probe n m)) contents left work = IsWork (Ok (Probe n m)) contents work
IsWorkOver (Ok Show) contents left work = IsWork (Ok Show) contents work
IsWorkOver (Ok Check) contents left work = IsWork (Ok Check) contents work
IsWorkOver (Ok Rewrite) contents left work = IsWork (Ok Rewrite) contents work
IsWorkOver (Ok Rational) contents left work = IsWork (Ok Rational) contents work
IsWorkOver (Ok (Build params)) contents left work = IsWork (Ok (Build params)) contents work
IsWorkOver (Ok (Resume params)) contents left work = IsWork (Ok (Resume params)) contents work
IsWorkOver (Ok Migrate) contents left work = IsSomeAnd contents (λ bytes. IsCopy bytes left work)

-- what is to be done for the words of a command line
pub record Wants (words : List (List ℕ)) (contents : Option (List ℕ)) (work : Work) : Type 0 where
  pub asked : Asked
  pub asks : Asks words asked
  pub is_work : IsWork asked contents work
