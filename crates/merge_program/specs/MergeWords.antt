-- What words say of a table that is dealt into shares, and which share they ask for.
use Rattle.std.specs.Prelude.{◌≡◌, ◌⊎◌, ℕ, ◌≤◌, ◌<◌, nat_lt, List, [], ◌∷◌, Option, Some, None, Result, Ok, Err, bytes_eq, codes, if◌then◌else◌}
use Rattle.page_codec.specs.declared.params.Params.{Params}
use Rattle.page_codec.specs.Bounds.{IsParams}
use Rattle.page_codec.specs.Tests.{Passes, Refuses}
use Rattle.share_model.specs.Shares.{IsShareId}
use Rattle.whole_runs.specs.CommandLine.{number_word}
use Rattle.merge_program.specs.declared.words.TableWords.{TableWords}
use Rattle.merge_program.specs.declared.words.ShareWords.{ShareWords}
use Rattle.merge_program.specs.declared.words.MergeWordsFault.{MergeWordsFault}
use Rattle.merge_program.specs.declared.words.MergeWordsFault.TheVariants.{Usage, Param, Shares, Share}

-- what W D M ORDER S write, before anything is tested
pub record TableRequest : Type 0 where
  pub weight : ℕ
  pub depth : ℕ
  pub modulus : ℕ
  pub order : List ℕ
  pub shares : ℕ

-- the same with I, the number of a share
pub record ShareRequest : Type 0 where
  pub table : TableRequest
  pub index : ℕ

-- there is one where W, D, M and S write numbers
abbrev pub table_request : Option ℕ → Option ℕ → Option ℕ → List ℕ → Option ℕ → Option TableRequest
table_request None d m order s = None
table_request (Some w) None m order s = None
table_request (Some w) (Some d) None order s = None
table_request (Some w) (Some d) (Some m) order None = None
table_request (Some w) (Some d) (Some m) order (Some s) = Some (record { weight = w; depth = d; modulus = m; order = order; shares = s })

-- and so does I
abbrev pub with_index : Option TableRequest → Option ℕ → Option ShareRequest
with_index None index = None
with_index (Some table) None = None
with_index (Some table) (Some index) = Some (record { table = table; index = index })

-- `share W D M ORDER I S`
abbrev pub seven_words : List ℕ → List ℕ → List ℕ → List ℕ → List ℕ → List ℕ → List ℕ → Option ShareRequest
seven_words name w d m order index s =
    if bytes_eq name (codes "share")
    then with_index (table_request (number_word w) (number_word d) (number_word m) order (number_word s)) (number_word index) else None

-- all other words ask for no share
abbrev pub share_request : List (List ℕ) → Option ShareRequest
share_request [] = None
share_request (name ∷ []) = None
share_request (name ∷ w ∷ []) = None
share_request (name ∷ w ∷ d ∷ []) = None
share_request (name ∷ w ∷ d ∷ m ∷ []) = None
share_request (name ∷ w ∷ d ∷ m ∷ order ∷ []) = None
share_request (name ∷ w ∷ d ∷ m ∷ order ∷ index ∷ []) = None
share_request (name ∷ w ∷ d ∷ m ∷ order ∷ index ∷ s ∷ []) = seven_words name w d m order index s
share_request (name ∷ w ∷ d ∷ m ∷ order ∷ index ∷ s ∷ eighth ∷ more) = None

-- the parameters pass their test, with no text of preferred words
abbrev pub PassesTest : TableRequest → Params → Type 0
PassesTest r params = Passes r.weight r.depth r.modulus r.order None params

-- the tests of a table pass, or the first refusal: the tests of the parameters, and then that of the number of shares
abbrev pub IsTableTested : TableRequest → Result TableWords MergeWordsFault → Type 0
IsTableTested r (Ok table) = PassesTest r table.params × (table.shares ≡ r.shares) × (1 ≤ r.shares) × (r.shares ≤ 256)
IsTableTested r (Err Usage) = ⊥
IsTableTested r (Err (Param fault)) = Refuses r.weight r.depth r.modulus r.order None fault
IsTableTested r (Err (Shares n)) = ((params : Params) × PassesTest r params) × (n ≡ r.shares) × ((r.shares < 1) ⊎ (256 < r.shares))
IsTableTested r (Err (Share n)) = ⊥

-- what words ask for, where they write a table that is dealt into shares
abbrev pub AsksForTable : Option TableRequest → Result TableWords MergeWordsFault → Type 0
AsksForTable None asked = asked ≡ Err Usage
AsksForTable (Some r) asked = IsTableTested r asked

-- a share, or why the words ask for none
abbrev pub Asked : Type 0
Asked = Result ShareWords MergeWordsFault

-- the number of the share is tested last
abbrev pub asked_share : Result TableWords MergeWordsFault → ℕ → Asked
asked_share (Err fault) index = Err fault
asked_share (Ok table) index =
    if nat_lt index table.shares then Ok (record { params = table.params; id = record { index = index; of = table.shares } }) else Err (Share index)

abbrev pub AsksForIt : Option ShareRequest → Asked → Type 0
AsksForIt None asked = asked ≡ Err Usage
AsksForIt (Some r) asked = (tested : Result TableWords MergeWordsFault) × IsTableTested r.table tested × (asked ≡ asked_share tested r.index)

-- what the words of a command line ask for
abbrev pub AsksForShare : List (List ℕ) → Asked → Type 0
AsksForShare words = AsksForIt (share_request words)

-- a table that is dealt into 1 to 256 shares
pub record IsDealt (table : TableWords) : Type 0 where
  pub params : IsParams table.params
  pub some : 1 ≤ table.shares
  pub few : table.shares ≤ 256

-- one share of a table
pub record IsInRange (words : ShareWords) : Type 0 where
  pub params : IsParams words.params
  pub id : IsShareId words.id
