use Rattle.std.proofs.Common.{◌≡◌, ◌∷◌, ◌++◌, [], sym, subst}
use Rattle.std.proofs.lemmas.List.Elements.{All-push}
use Rattle.share_merge.specs.Turns.{IsShareOf, AreSharesOf}
use Rattle.share_tests.proofs.merged.shares.Goals as goal

pub loop-index-preserved : goal.loop-index-preserved
loop-index-preserved c =
    let before = c.loop-index.shares.items in
    let checked = c.in_ok-checked.field-0 in
    let pushed : c.push.new.self.items ≡ before ++ checked ∷ [] = c.in_ok-push.ensures.items in
    subst (AreSharesOf c.args.table.now c.args.of) (sym pushed)
    (All-push (IsShareOf c.args.table.now c.args.of) before checked c.loop-index.invariant c.in_ok-checked.ensures)
