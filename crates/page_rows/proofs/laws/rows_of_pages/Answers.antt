use Rattle.page_rows.proofs.PagePairs.{row-residues, combination-residues, keys-below, below-bounds, residues-pairs, residues-few}
use Rattle.page_rows.proofs.laws.rows_of_pages.Goals as goal

pub returns : goal.returns
returns c = record {
  row = row-residues;
  combination = combination-residues;
  bound = keys-below;
  below = below-bounds;
  pairs = residues-pairs;
  few = residues-few;
}
