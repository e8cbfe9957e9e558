-- What single steps of the code answer. No public clause cites these, so a reader need not believe them.
use Rattle.std.specs.Prelude.{◌≡◌, ℕ, ◌<◌, List, [], length, map, take, get_or, Option, None, IfSome}
use Rattle.outside_io.specs.Traces.{Trace}
use Rattle.page_codec.specs.declared.params.Params.{Params}
use Rattle.lyndon_polys.specs.Tables.{RingTable}
use Rattle.table_checker.specs.Checks.{IsRowOf}
use Rattle.share_model.specs.declared.share.Share.{Share}
use Rattle.share_model.specs.declared.fault.ShareFault.TheVariants as fault
use Rattle.share_merge.specs.declared.fault.MergeFault.{MergeFault}
use Rattle.share_merge.specs.declared.fault.MergeFault.TheVariants as merging
use Rattle.share_core.specs.declared.events.Refusal.TheVariants as refusal
use Rattle.share_core.specs.Coordinations.{Coordination}
use Rattle.merge_program.specs.declared.words.TableWords.{TableWords}
use Rattle.merge_runs.specs.declared.taking.NotAShare.{NotAShare}
use Rattle.merge_runs.specs.declared.taking.NotAShare.TheVariants as told_of
use Rattle.merge_program.specs.declared.status.MergeStatus.TheVariants as status
use Rattle.merge_runs.specs.Lines.{missing_line, turn_line}
use Rattle.merge_runs.specs.Runs.{Run, ends}
use Rattle.merge_runs.specs.Disks.{AreTold}
use Rattle.merge_runs.specs.Files.{ReadAs}
use Rattle.merge_runs.specs.Taking.{Why, Takes, TakesAll, IsRefused}
use Rattle.merge_runs.specs.Taking.Why.{Unreadable}
use Rattle.merge_runs.specs.Plain.{plain_of, plain_shares}
use Rattle.merge_runs.specs.Deliveries.{why_refused}

-- the bytes of a file, those that its disk tells, where it tells, read as this
pub record HoldsShare (told : Option Trace) (found : Option Share) : Type 0 where
  pub bytes : List ℕ
  pub is_told : IfSome told (λ t. bytes ≡ t.now.contents)
  pub reads : ReadAs bytes found

-- a coordinator of the merge over the table, that counts these shares
pub record Stands {R E : Type 0} (value : R → E → ℕ) (merge : TableWords) (table : RingTable R) (counted : List Share) (c : Coordination R E) : Type 0 where
  pub is_table : c.setting.table ≡ table
  pub params : c.setting.params ≡ merge.params
  pub of : c.setting.of ≡ merge.shares
  pub counts : map (plain_of (value table.ring)) c.lists.counted ≡ plain_shares counted

-- why a file is refused
abbrev pub why_of : NotAShare → Why
why_of told_of.Unreadable = Unreadable
why_of (told_of.Refused why) = why_refused why

-- what is told of it can be printed: a row of the table of the parameters, and no fault that has no line
abbrev pub CanTell : Params → NotAShare → Type 0
CanTell params told_of.Unreadable = Unit {0}
CanTell params (told_of.Refused refusal.Other) = Unit {0}
CanTell params (told_of.Refused (refusal.Share (fault.NoInverseWord value word))) = ⊥
CanTell params (told_of.Refused (refusal.Share (fault.NoInverseRelation value n))) = ⊥
CanTell params (told_of.Refused (refusal.Share (fault.BadRow i))) = Unit {0}
CanTell params (told_of.Refused (refusal.Share (fault.NotReduced i))) = Unit {0}
CanTell params (told_of.Refused (refusal.Share (fault.Missing n rest))) = IsRowOf params rest
CanTell params (told_of.Refused (refusal.Share (fault.Memory e))) = ⊥

module _ {R E : Type 0} (value : R → E → ℕ) where
  -- the file of this disk is taken by the coordinator, whatever it counts
  pub record TakesFile (told : Option Trace) (old new : Coordination R E) : Type 0 where
    pub file : List ℕ
    pub is_told : IfSome told (λ t. file ≡ t.now.contents)
    pub takes : (merge : TableWords) (table : RingTable R) (counted : List Share) → Stands value merge table counted old
        → (next : List Share) × Takes merge counted file next × Stands value merge table next new

  -- or refused
  pub record RefusesFile (told : Option Trace) (old : Coordination R E) (why : NotAShare) : Type 0 where
    pub file : List ℕ
    pub is_told : IfSome told (λ t. file ≡ t.now.contents)
    pub can_tell : CanTell old.setting.params why
    pub refuses : (merge : TableWords) (table : RingTable R) (counted : List Share) → Stands value merge table counted old
        → IsRefused merge counted file (why_of why)

  -- the files of these disks are taken, the first by a coordinator that counts no share
  pub record HasTaken (merge : TableWords) (table : RingTable R) (told : List (Option Trace)) (new : Coordination R E) : Type 0 where
    pub files : List (List ℕ)
    pub are_told : AreTold told files
    pub counted : List Share
    pub takes : TakesAll merge [] files counted
    pub stands : Stands value merge table counted new

-- the first of these files are taken, and the next is refused
pub record HasRefused (merge : TableWords) (told : List (Option Trace)) (k : ℕ) (why : NotAShare) : Type 0 where
  pub inside : k < length told
  pub front : List (List ℕ)
  pub are_told : AreTold (take k told) front
  pub counted : List Share
  pub takes : TakesAll merge [] front counted
  pub file : List ℕ
  pub is_told : IfSome (get_or told k None) (λ t. file ≡ t.now.contents)
  pub can_tell : CanTell merge.params why
  pub refused : IsRefused merge counted file (why_of why)

-- it holds of files that are as these disks tell
pub record HoldsOfFiles (holds : List (List ℕ) → Type 0) (told : List (Option Trace)) : Type 0 where
  pub files : List (List ℕ)
  pub are_told : AreTold told files
  pub holds_of : holds files

-- the run tells why the counted shares do not give all rows
abbrev pub TellsFault : MergeFault → Run → Type 0
TellsFault (merging.MissingShare index) run = run ≡ ends (missing_line index) status.NotComplete
TellsFault (merging.NoInverse residue share row) run = run ≡ ends (turn_line residue share row) status.NoInverse
TellsFault (merging.Memory e) run = ⊥
