-- Files that are taken one after the other: their shares are counted as a coordinator counts those that are delivered.
use Rattle.std.specs.Prelude.{◌≡◌, ℕ, List, [], ◌∷◌, ◌++◌}
use Rattle.table_model.specs.Faults.{Verdict}
use Rattle.table_model.specs.Faults.Verdict.{Whole, NoInverse, BadRow, NotReduced, Missing}
use Rattle.share_model.specs.declared.share.Share.{Share}
use Rattle.share_model.specs.Shares.{IsFoundOf}
use Rattle.merge_program.specs.declared.words.TableWords.{TableWords}
use Rattle.share_merge.specs.Turns.{HasIndex}
use Rattle.merge_runs.specs.Plain.{plain_shares}
use Rattle.merge_runs.specs.Files.{AreOfShare, AreUnreadable}

-- the share is one of the merge: of the same parameters and of as many shares
pub record Belongs (merge : TableWords) (share : Share) : Type 0 where
  pub params : share.params ≡ merge.params
  pub of : share.id.of ≡ merge.shares

-- a share of this index is counted
abbrev pub IsCounted : List Share → ℕ → Type 0
IsCounted counted index = HasIndex (plain_shares counted) index

-- a file is taken: its share is a result and is counted, or one of its index is counted already, and its rows are looked at no further
pub data Takes (merge : TableWords) (counted : List Share) (file : List ℕ) (new : List Share) : Type 0 where
  counts : (share : Share) → AreOfShare file share → Belongs merge share → ¬ (IsCounted counted share.id.index) → IsFoundOf share Whole
      → new ≡ counted ++ share ∷ [] → Takes merge counted file new
  repeats : (share : Share) → AreOfShare file share → Belongs merge share → IsCounted counted share.id.index → new ≡ counted → Takes merge counted file new

-- so are files in their order
abbrev pub TakesAll : TableWords → List Share → List (List ℕ) → List Share → Type 0
TakesAll merge counted [] new = new ≡ counted
TakesAll merge counted (file ∷ files) new = (next : List Share) × Takes merge counted file next × TakesAll merge next files new

-- why a file is not a share of the merge: no share has its bytes, it is a share of others, or its rows are not a result of it
pub data Why : Type 0 where
  Unreadable : Why
  Other : Why
  Found : Verdict → Why

-- the rows are not a result
abbrev pub IsFault : Verdict → Type 0
IsFault Whole = ⊥
IsFault (NoInverse u residue) = ⊥
IsFault (BadRow i) = Unit {0}
IsFault (NotReduced i) = Unit {0}
IsFault (Missing n rest) = Unit {0}

-- the file is refused behind these counted shares: its rows are looked at where it is a share of the merge of which none is counted
abbrev pub IsRefused : TableWords → List Share → List ℕ → Why → Type 0
IsRefused merge counted file Unreadable = AreUnreadable file
IsRefused merge counted file Other = (share : Share) × AreOfShare file share × ¬ (Belongs merge share)
IsRefused merge counted file (Found verdict) =
    (share : Share) × AreOfShare file share × Belongs merge share × ¬ (IsCounted counted share.id.index) × IsFoundOf share verdict × IsFault verdict
