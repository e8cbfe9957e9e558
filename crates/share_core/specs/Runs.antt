-- Runs: lists of events with their answers.
use Rattle.std.specs.Prelude.{◌≡◌, ℕ, List, [], ◌∷◌, ◌++◌, length, All}
use Rattle.std.specs.List.{flat_map}
use Rattle.column_order.specs.Columns.{ColumnList}
use Rattle.echelon.specs.Lists.{lead_at, row_at}
use Rattle.file_model.specs.TableOf.{IsTableOf}
use Rattle.share_model.specs.declared.share.Share.{Share}
use Rattle.share_model.specs.Dealing.{IsShareResult}
use Rattle.share_model.specs.Checked.{Checked}
use Rattle.share_model.specs.Shares.{IsResult}
use Rattle.share_core.specs.declared.events.Event.{Event}
use Rattle.share_core.specs.declared.events.Event.TheVariants.{Grant, Deliver, Lose, Restart}
use Rattle.share_core.specs.declared.events.Answer.{Answer}
use Rattle.share_core.specs.declared.events.Answer.TheVariants.{Granted, Counted, Refused}
use Rattle.share_core.specs.Lists.{Lists}
use Rattle.share_core.specs.Coordinations.{Setting}
use Rattle.share_core.specs.Steps.{IsReadFrom, Answers}

-- the index that an answer counts, if it counts one
abbrev pub index_counted : Answer → List ℕ
index_counted (Counted i) = i ∷ []
index_counted _ = []

-- the indices of the `Counted` answers, in order
abbrev pub counted_in : List (Event × Answer) → List ℕ
counted_in steps = flat_map (λ s. index_counted s.1) steps

-- the answer counts index i
abbrev pub IsCounting : ℕ → Answer → Type 0
IsCounting i (Counted k) = k ≡ i
IsCounting i _ = ⊥

-- the step ends the grant of index i to a worker: it is lost, all is restarted, or the index is counted
abbrev pub Ends : ℕ → ℕ → Event → Answer → Type 0
Ends i worker (Grant other) answer = ⊥
Ends i worker (Deliver share) answer = IsCounting i answer
Ends i worker (Lose other) answer = other ≡ worker
Ends i worker Restart answer = Unit {0}

-- in the run, index i was granted to the worker, and no step behind ended that
pub record IsGrantedIn (steps : List (Event × Answer)) (i worker : ℕ) : Type 0 where
  pub front : List (Event × Answer)
  pub behind : List (Event × Answer)
  pub is : steps ≡ front ++ (Grant worker, Granted i) ∷ behind
  pub kept : All (λ s. ¬ (Ends i worker s.0 s.1)) behind

-- a delivery of a share with index i
abbrev pub IsDeliveryOf : ℕ → Event → Type 0
IsDeliveryOf i (Deliver share) = share.id.index ≡ i
IsDeliveryOf i _ = ⊥

abbrev pub IsRefused : Answer → Type 0
IsRefused (Refused why) = Unit {0}
IsRefused _ = ⊥

module _ {R E : Type 0} where
  -- one step after another, each from the lists that the one before it left
  abbrev pub Runs : (E → ℕ) → Setting R → List (Event × Answer) → Lists R E → Lists R E → Type 0
  Runs value setting [] old new = new ≡ old
  Runs value setting (s ∷ steps) old new = (mid : Lists R E) × Answers value setting old s.0 s.1 mid × Runs value setting steps mid new

  -- what is checked is the first delivered share of its index that was not refused, and a result of that share
  pub record IsFirstDelivered (value : E → ℕ) (setting : Setting R) (steps : List (Event × Answer)) (c : Checked R E) : Type 0 where
    pub front : List (Event × Answer)
    pub share : Share
    pub behind : List (Event × Answer)
    pub is : steps ≡ front ++ (Deliver share, Counted c.id.index) ∷ behind
    pub read : IsReadFrom value setting.table.ring share c
    pub result : IsResult share
    pub refused : All (λ s. IsDeliveryOf c.id.index s.0 → IsRefused s.1) front

  -- what is checked is a result of its share, over the columns of the table
  abbrev pub IsSound : (E → ℕ) → Setting R → Checked R E → Type 0
  IsSound value setting c = (columns : ColumnList) → IsTableOf setting.params columns
      → IsShareResult setting.params.modulus columns c.id.index c.id.of (length c.list.rows) (lead_at c.list.rows) (row_at value c.list.rows)
      (row_at value c.combinations)
