use Rattle.std.proofs.lemmas.Option.{slice_get_within}
use Rattle.share_merge.specs.Turns.{turns_of}
use Rattle.share_merge.proofs.Exclusions.{one_break}
use Rattle.share_merge.proofs.laws.merge_laws.Goals as goal

pub returns-clause-broken : goal.returns-clause-broken
returns-clause-broken g c ring columns list residue share row b whole =
    whole b.place (slice_get_within (turns_of list) b.place b.turn b.is_turn) residue b.breaks.0

pub returns-clause-once : goal.returns-clause-once
returns-clause-once g c ring columns list residue share row other_residue other_share other_row is_table converts a b =
    one_break (g.R.Ring.modulus ring) (g.R.Ring.value ring) columns is_table converts list residue share row other_residue other_share other_row a b
