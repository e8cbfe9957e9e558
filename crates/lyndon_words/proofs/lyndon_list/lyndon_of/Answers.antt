use Rattle.std.proofs.Common.{◌++◌, sym, subst, ◌∙◌}
use Rattle.lyndon_words.specs.Listing.{IsLyndonList}
use Rattle.lyndon_words.specs.Inner.{lyndon_behind}
use Rattle.lyndon_words.proofs.Listings.{IsLyndonList-lyndon_behind}
use Rattle.lyndon_words.proofs.lyndon_list.lyndon_of.Goals as goal

pub returns : goal.returns
returns c = subst (IsLyndonList c.args.weight c.args.depth)
    (sym (c.in_ok-push_behind.ensures ∙ (λ i. c.new-list.ensures.items i ++ lyndon_behind (c.empty.ensures i) c.args.weight c.args.depth)))
    (IsLyndonList-lyndon_behind c.args.weight c.args.depth)
