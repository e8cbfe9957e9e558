use Rattle.column_order.proofs.ColumnLists.{one_list, some_list}
use Rattle.column_order.proofs.laws.column_list_laws.Goals as goal

pub returns : goal.returns
returns c = record { unique = one_list; exists = some_list }
