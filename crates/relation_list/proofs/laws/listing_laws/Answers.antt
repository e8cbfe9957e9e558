use Rattle.relation_list.proofs.ListingLengths.{listing-small}
use Rattle.relation_list.proofs.OnceListing.{listing_of-once}
use Rattle.relation_list.proofs.WholeListing.{listing_of-whole}
use Rattle.relation_list.proofs.laws.listing_laws.Goals as goal

pub returns-clause-whole : goal.returns-clause-whole
returns-clause-whole c = listing_of-whole

pub returns-clause-once : goal.returns-clause-once
returns-clause-once c = listing_of-once

pub returns-clause-small : goal.returns-clause-small
returns-clause-small c = listing-small
