-- What single steps of the code answer. No public clause cites these, so a reader need not believe them.
use Rattle.std.specs.Prelude.{ℕ, ◌≤◌, List, length, Result, Ok, Err}
use Rattle.std.specs.List.{AllByRecursion}
use Rattle.std.specs.declared.alloc.AllocError.{AllocError}
use Rattle.column_order.specs.Columns.{column_count}
use Rattle.page_codec.specs.declared.params.Params.{Params}
use Rattle.page_codec.specs.declared.parts.FinalEntry.{FinalEntry}
use Rattle.page_codec.specs.Bounds.{IsFinalEntry}
use Rattle.page_codec.specs.Places.{FinalInTable}
use Rattle.share_model.specs.declared.fault.ShareFault.{ShareFault}
use Rattle.share_model.specs.declared.fault.ShareFault.TheVariants.{NoInverseWord, NoInverseRelation, BadRow, NotReduced, Missing, Memory}
use Rattle.share_core.specs.declared.events.Answer.{Answer}
use Rattle.share_core.specs.declared.events.Answer.TheVariants.{Refused}
use Rattle.share_core.specs.declared.events.Refusal.TheVariants.{Share as Faulty}

-- want of memory is a fault of the call, and any other fault one of the share
abbrev pub refused_by : ShareFault → Result Answer AllocError
refused_by (Memory fault) = Err fault
refused_by (NoInverseWord value word) = Ok (Refused (Faulty (NoInverseWord value word)))
refused_by (NoInverseRelation value n) = Ok (Refused (Faulty (NoInverseRelation value n)))
refused_by (BadRow i) = Ok (Refused (Faulty (BadRow i)))
refused_by (NotReduced i) = Ok (Refused (Faulty (NotReduced i)))
refused_by (Missing n rest) = Ok (Refused (Faulty (Missing n rest)))

-- rows that a share of these parameters may have, where its table has n relations
pub record AreRows (p : Params) (n : ℕ) (rows : List FinalEntry) : Type 0 where
  pub few : length rows ≤ column_count p.weight p.depth
  pub entries : AllByRecursion IsFinalEntry rows
  pub in_table : AllByRecursion (FinalInTable p n) rows
