use Rattle.std.proofs.Common.{ℕ}
use Rattle.relation_list.proofs.HeldWords.{after_ok}
use Rattle.kept_products.proofs.PairLemmas.{IsProduct-of_pair, IsThere-of_pair}
use Rattle.kept_products.proofs.StoreLemmas.{found_there}
use Rattle.kept_products.proofs.store.place_within.Goals as goal

pub returns-in-Some-clause-there : goal.returns-in-Some-clause-there
returns-in-Some-clause-there g c =
    let ring = c.args.ring.now in
    let m : ℕ = g.R.Ring.modulus ring in
    let pair = c.new-pair.result in
    let store = c.args.store.now in
    let there = found_there g.R.Ring.zero (g.R.Ring.has ring) (g.R.Ring.value ring) m c.args.limit store.terms store.products.entries pair c.in-Some.i
    c.requires.kept c.in-Some.ensures.value c.in-Some.ensures.found in (
      there.0,
      there.1,
      IsProduct-of_pair g.R.Ring.zero (g.R.Ring.has ring) (g.R.Ring.value ring) m c.args.kind c.args.u c.args.v there.0 pair c.new-pair.ensures
          c.requires.covers_u c.requires.covers_v c.requires.fits there.2,
    )

pub returns-in-None-clause-there : goal.returns-in-None-clause-there
returns-in-None-clause-there g c =
    let ring = c.args.ring.now in
    after_ok _ _
    (IsThere-of_pair g.R.Ring.zero (g.R.Ring.has ring) (g.R.Ring.value ring) (g.R.Ring.modulus ring) c.args.kind c.args.u c.args.v c.new-pair.result
    c.place_of_new.new.store.products.entries c.place_of_new.new.store.last c.new-pair.ensures c.requires.covers_u c.requires.covers_v c.requires.fits)
    c.place_of_new.result c.place_of_new.ensures.there
