use Rattle.std.proofs.Common.{◌≡◌, cond, [], ◌∷◌, ◌++◌, sym, ap, ◌∙◌}
use Rattle.std.proofs.lemmas.List.{append-nil}
use Rattle.lyndon_words.specs.Inner.{lyndon_behind}
use Rattle.lyndon_words.proofs.Listings.{lyndon_behind-none, lyndon_test-is}
use Rattle.lyndon_words.proofs.lyndon_list.+push_behind.Goals as goal

pub returns-in_ok-push : goal.returns-in_ok-push
returns-in_ok-push t c =
    let made : lyndon_behind c.args.front c.args.more c.args.depth ≡ c.args.front ∷ [] =
    lyndon_behind-none c.args.front c.args.more c.args.depth c.if-more-eq0.true
    ∙ ap (λ b. cond b (c.args.front ∷ []) []) (lyndon_test-is c.args.front c.is_lyndon.result c.is_lyndon.ensures ∙ c.if-is_lyndon.true) in
    c.in_ok-push.ensures.items ∙ ap (λ t. c.args.list.now.items ++ t) (sym made)

pub returns-else-is_lyndon : goal.returns-else-is_lyndon
returns-else-is_lyndon t c =
    let made : lyndon_behind c.args.front c.args.more c.args.depth ≡ [] =
    lyndon_behind-none c.args.front c.args.more c.args.depth c.if-more-eq0.true
    ∙ ap (λ b. cond b (c.args.front ∷ []) []) (lyndon_test-is c.args.front c.is_lyndon.result c.is_lyndon.ensures ∙ c.if-is_lyndon.false) in
    sym (append-nil c.args.list.now.items) ∙ ap (λ t. c.args.list.now.items ++ t) (sym made)
