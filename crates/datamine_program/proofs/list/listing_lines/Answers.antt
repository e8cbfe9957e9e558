use Rattle.std.proofs.Common.{◌≡◌, ◌∙◌, subst, List, slice_index_or}
use Rattle.std.specs.Prelude.{Contains}
use Rattle.std.proofs.lemmas.List.Elements.{Contains-get_or}
use Rattle.relation_list.specs.declared.names.RelName.{RelName}
use Rattle.relation_list.specs.Listings.{listing_of}
use Rattle.relation_list.proofs.WholeListing.{listing_of-whole}
use Rattle.datamine_program.proofs.list.listing_lines.Goals as goal

pub lines_of-requires : goal.lines_of-requires
lines_of-requires c =
    let listed : c.deref.result.now ≡ listing_of c.args.weight c.args.depth = c.deref.ensures.value ∙ c.in_ok-names.ensures in
    λ k d below.
    let name = slice_index_or c.deref.result.now k d in
    ((listing_of-whole c.args.weight c.args.depth name c.requires.most).0
    (subst (λ (names : List RelName). Contains names name) listed (Contains-get_or c.deref.result.now k d below))).0
