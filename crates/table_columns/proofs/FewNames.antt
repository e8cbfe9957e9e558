-- The names of a listing are not many.
use Rattle.std.proofs.Common.{ℕ, ◌≤◌, length, arith}
use Rattle.zeta_model.proofs.WordListLaws.{length-admissible_within}
use Rattle.column_order.specs.Columns.{column_count}
use Rattle.relation_list.specs.Listings.{listing_of}
use Rattle.relation_list.proofs.ListingLengths.{listing-small}

pub few_names : (w d : ℕ) → 2 ≤ w → w ≤ 24 → column_count w d ≤ 2048 → length (listing_of w d) ≤ 1179648
few_names w d least most few = listing-small w d most (omega (arith, length-admissible_within w d least))
