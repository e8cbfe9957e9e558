-- What the words of a command line ask for.
use Rattle.std.specs.Prelude.{◌≡◌, ℕ, ◌+◌, ◌*◌, ◌-◌, ◌^◌, ◌≤◌, ◌<◌, nat_le, nat_lt, ◌&&◌, List, [], ◌∷◌, Option, Some, None, Result, Ok, Err, bytes_eq}
use Rattle.std.specs.Prelude.{length, codes, if◌then◌else◌}
use Rattle.std.specs.Str.{all_ascii_digits}
use Rattle.column_order.specs.Columns.{column_count, HasLimits}
use Rattle.page_codec.specs.declared.params.Params.{Params}
use Rattle.page_codec.specs.declared.fault.ParamFault.{ParamFault}
use Rattle.page_codec.specs.declared.fault.ParamFault.TheVariants.{Weight, Depth, Modulus, Columns}
use Rattle.page_codec.specs.Bounds.{IsParams}
use Rattle.page_codec.specs.Tests.{Passes, Refuses}
use Rattle.whole_runs.specs.declared.command.Command.{Command}
use Rattle.whole_runs.specs.declared.command.Command.TheVariants.{Dual, List as ListOf, Reduce, Sample, Probe, Show, Check, Rewrite, Rational, Build, Resume, Migrate}
use Rattle.whole_runs.specs.declared.command.WordsFault.{WordsFault}
use Rattle.whole_runs.specs.declared.command.WordsFault.TheVariants.{Usage, Param, Count, Terms}

-- a command, or why the words ask for none
abbrev pub Asked : Type 0
Asked = Result Command WordsFault

-- the value of digits that follow those of n
abbrev pub value_after : ℕ → List ℕ → ℕ
value_after n [] = n
value_after n (d ∷ ds) = value_after (10 * n + (d - 48)) ds

-- the number that a word writes: one or more ASCII digits whose value fits 64 bits
abbrev pub number_word : List ℕ → Option ℕ
number_word word = if nat_lt 0 (length word) && all_ascii_digits word && nat_lt (value_after 0 word) (2 ^ 64) then Some (value_after 0 word) else None

-- what the words write, before anything is tested; `reduce` has the text of an order and maybe one of preferred words
pub data Request : Type 0 where
  ForDual : ℕ → Request
  ForList : ℕ → ℕ → Request
  ForReduce : ℕ → ℕ → ℕ → List ℕ → Option (List ℕ) → Request
  ForSample : ℕ → ℕ → ℕ → ℕ → ℕ → Request
  ForProbe : ℕ → ℕ → Request
  ForShow : Request
  ForCheck : Request
  ForRewrite : Request
  ForRational : Request
  ForBuild : ℕ → ℕ → ℕ → List ℕ → Option (List ℕ) → Request
  ForResume : ℕ → ℕ → ℕ → List ℕ → Option (List ℕ) → Request
  ForMigrate : Request

abbrev pub dual_request : Option ℕ → Option Request
dual_request None = None
dual_request (Some m) = Some (ForDual m)

abbrev pub list_request : Option ℕ → Option ℕ → Option Request
list_request None d = None
list_request (Some w) None = None
list_request (Some w) (Some d) = Some (ForList w d)

abbrev pub probe_request : Option ℕ → Option ℕ → Option Request
probe_request None m = None
probe_request (Some n) None = None
probe_request (Some n) (Some m) = Some (ForProbe n m)

abbrev pub reduce_request : Option ℕ → Option ℕ → Option ℕ → List ℕ → Option (List ℕ) → Option Request
reduce_request None d m order preferred = None
reduce_request (Some w) None m order preferred = None
reduce_request (Some w) (Some d) None order preferred = None
reduce_request (Some w) (Some d) (Some m) order preferred = Some (ForReduce w d m order preferred)

abbrev pub build_request : Option ℕ → Option ℕ → Option ℕ → List ℕ → Option (List ℕ) → Option Request
build_request None d m order preferred = None
build_request (Some w) None m order preferred = None
build_request (Some w) (Some d) None order preferred = None
build_request (Some w) (Some d) (Some m) order preferred = Some (ForBuild w d m order preferred)

abbrev pub resume_request : Option ℕ → Option ℕ → Option ℕ → List ℕ → Option (List ℕ) → Option Request
resume_request None d m order preferred = None
resume_request (Some w) None m order preferred = None
resume_request (Some w) (Some d) None order preferred = None
resume_request (Some w) (Some d) (Some m) order preferred = Some (ForResume w d m order preferred)

abbrev pub sample_request : Option ℕ → Option ℕ → Option ℕ → Option ℕ → Option ℕ → Option Request
sample_request None d m seed count = None
sample_request (Some w) None m seed count = None
sample_request (Some w) (Some d) None seed count = None
sample_request (Some w) (Some d) (Some m) None count = None
sample_request (Some w) (Some d) (Some m) (Some seed) None = None
sample_request (Some w) (Some d) (Some m) (Some seed) (Some count) = Some (ForSample w d m seed count)

-- `dual M`, and `show FILE`, `check FILE`, `rewrite FILE`, `rational FILE` and `migrate FILE` with any word for FILE
abbrev pub one_word : List ℕ → List ℕ → Option Request
one_word name word =
    if bytes_eq name (codes "dual") then dual_request (number_word word)
    else if bytes_eq name (codes "show") then Some ForShow
    else if bytes_eq name (codes "check") then Some ForCheck
    else if bytes_eq name (codes "rewrite") then Some ForRewrite
    else if bytes_eq name (codes "rational") then Some ForRational
    else if bytes_eq name (codes "migrate") then Some ForMigrate else None

-- `list W D` and `probe N M`
abbrev pub two_numbers : List ℕ → Option ℕ → Option ℕ → Option Request
two_numbers name a b = if bytes_eq name (codes "list") then list_request a b else if bytes_eq name (codes "probe") then probe_request a b else None

-- `reduce W D M ORDER PREF`, `build FILE W D M ORDER` and `resume FILE W D M ORDER` with any word for FILE, and `sample W D M SEED COUNT`
abbrev pub five_words : List ℕ → List ℕ → Option ℕ → Option ℕ → List ℕ → List ℕ → Option Request
five_words name first second third fourth fifth =
    if bytes_eq name (codes "reduce") then reduce_request (number_word first) second third fourth (Some fifth)
    else if bytes_eq name (codes "build") then build_request second third (number_word fourth) fifth None
    else if bytes_eq name (codes "resume") then resume_request second third (number_word fourth) fifth None
    else if bytes_eq name (codes "sample") then sample_request (number_word first) second third (number_word fourth) (number_word fifth) else None

-- `build FILE W D M ORDER PREF` and `resume FILE W D M ORDER PREF` with any word for FILE
abbrev pub six_words : List ℕ → Option ℕ → Option ℕ → Option ℕ → List ℕ → List ℕ → Option Request
six_words name w d m order preferred =
    if bytes_eq name (codes "build") then build_request w d m order (Some preferred)
    else if bytes_eq name (codes "resume") then resume_request w d m order (Some preferred) else None

-- the words of the table of commands; all others fit none
abbrev pub request_of : List (List ℕ) → Option Request
request_of [] = None
request_of (name ∷ []) = None
request_of (name ∷ word ∷ []) = one_word name word
request_of (name ∷ a ∷ b ∷ []) = two_numbers name (number_word a) (number_word b)
request_of (name ∷ a ∷ b ∷ c ∷ []) = None
request_of (name ∷ w ∷ d ∷ m ∷ order ∷ []) =
    if bytes_eq name (codes "reduce") then reduce_request (number_word w) (number_word d) (number_word m) order None else None
request_of (name ∷ first ∷ second ∷ third ∷ fourth ∷ fifth ∷ []) = five_words name first (number_word second) (number_word third) fourth fifth
request_of (name ∷ file ∷ w ∷ d ∷ m ∷ order ∷ preferred ∷ []) = six_words name (number_word w) (number_word d) (number_word m) order preferred
request_of (name ∷ file ∷ w ∷ d ∷ m ∷ order ∷ preferred ∷ seventh ∷ more) = None

-- a modulus is from 3 to 2^63 - 1
abbrev pub asked_dual : ℕ → Asked
asked_dual m = if nat_le 3 m && nat_lt m (2 ^ 63) then Ok (Dual m) else Err (Param (Modulus m))

-- a weight is from 2 to 24, a depth from 1 to the weight less 1, and columns are at most 2048
abbrev pub asked_listing : ℕ → ℕ → Asked
asked_listing w d =
    if nat_le 2 w && nat_le w 24
    then (if nat_le 1 d && nat_lt d w then (if nat_le (column_count w d) 2048 then Ok (ListOf w d) else Err (Param (Columns (column_count w d)))) else Err
    (Param (Depth d)))
    else Err (Param (Weight w))

-- the terms are from 1 to 10,000, and tested before the modulus
abbrev pub asked_probe : ℕ → ℕ → Asked
asked_probe n m =
    if nat_le 1 n && nat_le n 10000 then (if nat_le 3 m && nat_lt m (2 ^ 63) then Ok (Probe n m) else Err (Param (Modulus m))) else Err (Terms n)

-- what the test of parameters says: they pass, or the first refusal
abbrev pub IsTested : ℕ → ℕ → ℕ → List ℕ → Option (List ℕ) → Result Params ParamFault → Type 0
IsTested w d m order preferred (Ok params) = Passes w d m order preferred params
IsTested w d m order preferred (Err fault) = Refuses w d m order preferred fault

abbrev pub asked_reduce : Result Params ParamFault → Asked
asked_reduce (Ok params) = Ok (Reduce params)
asked_reduce (Err fault) = Err (Param fault)

abbrev pub asked_build : Result Params ParamFault → Asked
asked_build (Ok params) = Ok (Build params)
asked_build (Err fault) = Err (Param fault)

abbrev pub asked_resume : Result Params ParamFault → Asked
asked_resume (Ok params) = Ok (Resume params)
asked_resume (Err fault) = Err (Param fault)

-- the count is tested last
abbrev pub asked_sample : ℕ → ℕ → Result Params ParamFault → Asked
asked_sample seed count (Ok params) = if nat_le count 100000 then Ok (Sample params seed count) else Err (Count count)
asked_sample seed count (Err fault) = Err (Param fault)

-- what a request asks for, once it is tested; the order of `sample` is `lex`
abbrev pub AsksFor : Request → Asked → Type 0
AsksFor (ForDual m) asked = asked ≡ asked_dual m
AsksFor (ForList w d) asked = asked ≡ asked_listing w d
AsksFor (ForReduce w d m order preferred) asked = (tested : Result Params ParamFault) × IsTested w d m order preferred tested × (asked ≡ asked_reduce tested)
AsksFor (ForBuild w d m order preferred) asked = (tested : Result Params ParamFault) × IsTested w d m order preferred tested × (asked ≡ asked_build tested)
AsksFor (ForResume w d m order preferred) asked = (tested : Result Params ParamFault) × IsTested w d m order preferred tested × (asked ≡ asked_resume tested)
AsksFor (ForSample w d m seed count) asked =
    (tested : Result Params ParamFault) × IsTested w d m (codes "lex") None tested × (asked ≡ asked_sample seed count tested)
AsksFor (ForProbe n m) asked = asked ≡ asked_probe n m
AsksFor ForShow asked = asked ≡ Ok Show
AsksFor ForCheck asked = asked ≡ Ok Check
AsksFor ForRewrite asked = asked ≡ Ok Rewrite
AsksFor ForRational asked = asked ≡ Ok Rational
AsksFor ForMigrate asked = asked ≡ Ok Migrate

abbrev pub AsksForIt : Option Request → Asked → Type 0
AsksForIt None asked = asked ≡ Err Usage
AsksForIt (Some request) asked = AsksFor request asked

-- what the words ask for
abbrev pub Asks : List (List ℕ) → Asked → Type 0
Asks words = AsksForIt (request_of words)

-- the parameters of a command pass their tests
abbrev pub IsInRange : Command → Type 0
IsInRange (Dual m) = (3 ≤ m) × (m < 2 ^ 63)
IsInRange (ListOf w d) = HasLimits w d
IsInRange (Reduce params) = IsParams params
IsInRange (Sample params seed count) = IsParams params × (count ≤ 100000)
IsInRange (Probe n m) = (1 ≤ n) × (n ≤ 10000) × (3 ≤ m) × (m < 2 ^ 63)
IsInRange Show = Unit {0}
IsInRange Check = Unit {0}
IsInRange Rewrite = Unit {0}
IsInRange Rational = Unit {0}
IsInRange (Build params) = IsParams params
IsInRange (Resume params) = IsParams params
IsInRange Migrate = Unit {0}
