use Rattle.std.proofs.Common.{ℕ, ◌∙◌}
use Rattle.indexmap.proofs.CallerLemmas.{insert_entry-new}
use Rattle.kept_products.specs.contracts.pairs.PairPartialEq.TheImpl.{eq-value}
use Rattle.kept_products.proofs.StoreLemmas.{AreKept-push, pushed_there}
use Rattle.kept_products.proofs.store.place_of_new.Goals as goal

pub returns-in-Ok-clause-kept : goal.returns-in-Ok-clause-kept
returns-in-Ok-clause-kept g c =
    let ring = c.args.ring.now in
    let m : ℕ = g.R.Ring.modulus ring in
    let store = c.args.store.now in
    AreKept-push g.R.Ring.zero (g.R.Ring.has ring) (g.R.Ring.value ring) m c.args.limit store.terms c.len-more.result store.products.entries
    c.insert.new.self.entries c.args.pair c.in_ok-sum.sum c.requires.kept
    (c.in-Ok.ensures.entries ∙ insert_entry-new eq-value.it store.products c.args.pair c.in_ok-sum.sum c.requires.new)
    c.in_ok-sum.ensures c.len-more.ensures.len c.if-more-limit.false

pub returns-in-Ok-clause-there : goal.returns-in-Ok-clause-there
returns-in-Ok-clause-there g c =
    let ring = c.args.ring.now in
    let m : ℕ = g.R.Ring.modulus ring in
    let store = c.args.store.now in
    pushed_there g.R.Ring.zero (g.R.Ring.has ring) (g.R.Ring.value ring) m store.products.entries c.insert.new.self.entries c.args.pair c.in_ok-sum.sum
    (c.in-Ok.ensures.entries ∙ insert_entry-new eq-value.it store.products c.args.pair c.in_ok-sum.sum c.requires.new)
    c.in_ok-sum.ensures c.len-i.result c.len-i.ensures.len
