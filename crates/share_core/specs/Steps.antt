-- What a step answers, and which lists it leaves.
use Rattle.std.specs.Prelude.{◌≡◌, ℕ, nat_eq, List, [], ◌∷◌, ◌++◌, map, count_by}
use Rattle.sparse_rows.specs.Entries.{IsBelow}
use Rattle.column_order.specs.Columns.{column_count}
use Rattle.page_codec.specs.declared.parts.FinalEntry.{FinalEntry}
use Rattle.page_rows.specs.Written.{written, AreResidues}
use Rattle.table_model.specs.Faults.Verdict.{BadRow as BadRowFound, NotReduced as NotReducedFound, Missing as MissingFound}
use Rattle.cert_checker.specs.Certified.{residues_at}
use Rattle.share_model.specs.declared.share.Share.{Share}
use Rattle.share_model.specs.declared.fault.ShareFault.{ShareFault}
use Rattle.share_model.specs.declared.fault.ShareFault.TheVariants.{NoInverseWord, NoInverseRelation, BadRow, NotReduced, Missing, Memory}
use Rattle.share_model.specs.Checked.{Checked}
use Rattle.share_model.specs.Shares.{IsShare, IsResult, IsFoundOf}
use Rattle.share_merge.specs.Turns.{HasIndex}
use Rattle.share_core.specs.declared.events.Event.{Event}
use Rattle.share_core.specs.declared.events.Event.TheVariants.{Grant, Deliver, Lose, Restart}
use Rattle.share_core.specs.declared.events.Answer.{Answer}
use Rattle.share_core.specs.declared.events.Answer.TheVariants.{Granted, NoneOpen, Counted, Repeat, Refused, Freed, Restarted}
use Rattle.share_core.specs.declared.events.Refusal.TheVariants.{Other, Share as Faulty}
use Rattle.share_core.specs.Lists.{Lists, IsLeastFree, HasNoFree, without_index, without_worker}
use Rattle.share_core.specs.Coordinations.{Setting}

-- it is a share of these parameters, one of so many
pub record Fits {R : Type 0} (setting : Setting R) (share : Share) : Type 0 where
  pub params : share.params ≡ setting.params
  pub of : share.id.of ≡ setting.of
  pub is_share : IsShare share

-- relation n is the first of the share of which the rows leave something, and these are the columns and residues of what they leave
pub record IsRest (share : Share) (n : ℕ) (rest : List (ℕ × ℕ)) : Type 0 where
  pub found : IsFoundOf share (MissingFound n (residues_at rest))
  pub residues : AreResidues (λ k. k) share.params.modulus rest
  pub columns : IsBelow (λ k. k) (column_count share.params.weight share.params.depth) rest

-- the first test that the rows of the share fail
abbrev pub IsFaultOf : Share → ShareFault → Type 0
IsFaultOf share (NoInverseWord value word) = ⊥
IsFaultOf share (NoInverseRelation value n) = ⊥
IsFaultOf share (BadRow i) = IsFoundOf share (BadRowFound i)
IsFaultOf share (NotReduced i) = IsFoundOf share (NotReducedFound i)
IsFaultOf share (Missing n rest) = IsRest share n rest
IsFaultOf share (Memory fault) = ⊥

module _ {R E : Type 0} where
  -- what is checked has the numbers of the share, and its rows and combinations, with elements of the ring for residues
  pub record IsReadFrom (value : E → ℕ) (ring : R) (share : Share) (c : Checked R E) : Type 0 where
    pub params : c.params ≡ share.params
    pub id : c.id ≡ share.id
    pub ring_is : c.list.ring ≡ ring
    pub rows : map (written value) c.list.rows ≡ map (λ (e : FinalEntry). e.row) share.rows
    pub combinations : map (written value) c.combinations ≡ map (λ (e : FinalEntry). e.combination) share.rows

  -- a share of an index that is not counted
  pub record IsNew (setting : Setting R) (old : Lists R E) (share : Share) : Type 0 where
    pub fits : Fits setting share
    pub fresh : ¬ (HasIndex old.counted share.id.index)

  -- a share of an index that is counted
  pub record IsRepeat (setting : Setting R) (old : Lists R E) (share : Share) : Type 0 where
    pub fits : Fits setting share
    pub counted : HasIndex old.counted share.id.index

  -- the share counts: its rows are a result of it, it is put last, and its grant is taken away
  pub record Counts (value : E → ℕ) (setting : Setting R) (old : Lists R E) (share : Share) (new : Lists R E) : Type 0 where
    pub is_new : IsNew setting old share
    pub result : IsResult share
    pub checked : Checked R E
    pub read : IsReadFrom value setting.table.ring share checked
    pub lists : new ≡ record { counted = old.counted ++ checked ∷ []; granted = without_index share.id.index old.granted }

  -- a grant: of the least index that is neither counted nor granted
  abbrev pub Grants : ℕ → Lists R E → ℕ → Answer → Lists R E → Type 0
  Grants of old worker (Granted i) new =
      IsLeastFree of old i × (new ≡ record { counted = old.counted; granted = old.granted ++ (i, worker) ∷ [] })
  Grants of old worker NoneOpen new = HasNoFree of old × (new ≡ old)
  Grants of old worker _ new = ⊥

  -- a delivery: what does not fit is refused, then an index that is counted repeats, then a fault of the rows is refused, else the share counts
  abbrev pub Delivers : (E → ℕ) → Setting R → Lists R E → Share → Answer → Lists R E → Type 0
  Delivers value setting old share (Refused Other) new = ¬ (Fits setting share) × (new ≡ old)
  Delivers value setting old share (Repeat i) new = IsRepeat setting old share × (i ≡ share.id.index) × (new ≡ old)
  Delivers value setting old share (Refused (Faulty fault)) new = IsNew setting old share × IsFaultOf share fault × (new ≡ old)
  Delivers value setting old share (Counted i) new = Counts value setting old share new × (i ≡ share.id.index)
  Delivers value setting old share _ new = ⊥

  -- the loss of a worker: its grants go
  abbrev pub Loses : Lists R E → ℕ → Answer → Lists R E → Type 0
  Loses old worker (Freed n) new = (n ≡ count_by (λ g. nat_eq g.1 worker) old.granted)
      × (new ≡ record { counted = old.counted; granted = without_worker worker old.granted })
  Loses old worker _ new = ⊥

  -- a restart: all grants go
  abbrev pub Restarts : Lists R E → Answer → Lists R E → Type 0
  Restarts old Restarted new = new ≡ record { counted = old.counted; granted = [] }
  Restarts old _ new = ⊥

  -- at these lists the event has this answer, and leaves the new lists
  abbrev pub Answers : (E → ℕ) → Setting R → Lists R E → Event → Answer → Lists R E → Type 0
  Answers value setting old (Grant worker) answer new = Grants setting.of old worker answer new
  Answers value setting old (Deliver share) answer new = Delivers value setting old share answer new
  Answers value setting old (Lose worker) answer new = Loses old worker answer new
  Answers value setting old Restart answer new = Restarts old answer new
