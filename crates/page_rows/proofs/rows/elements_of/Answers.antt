use Rattle.std.proofs.Common.{◌≡◌, ◌∷◌, ◌%◌, rules}
use Rattle.page_rows.proofs.Making.{first_behind, first_some, making-more}
use Rattle.page_rows.proofs.rows.elements_of.Goals as goal

pub push-requires-clause-behind : goal.push-requires-clause-behind
push-requires-clause-behind g c =
    let begins : c.loop-pair.rest.now ≡ c.in-Some.pair.now ∷ c.in-Some.behind.now = search rules in
    let value : g.R.Ring.value c.args.ring.now c.of.result ≡ c.in-Some.pair.now.1 % g.R.Ring.modulus c.args.ring.now = search rules in
    first_behind _ _ _ _ _ _ _ _ _ _ _ (g.met.R.Ring.value_zero c.args.ring.now) c.of.ensures.has value c.loop-pair.invariant begins

pub push-requires-clause-nonzero : goal.push-requires-clause-nonzero
push-requires-clause-nonzero g c =
    let begins : c.loop-pair.rest.now ≡ c.in-Some.pair.now ∷ c.in-Some.behind.now = search rules in
    let value : g.R.Ring.value c.args.ring.now c.of.result ≡ c.in-Some.pair.now.1 % g.R.Ring.modulus c.args.ring.now = search rules in
    first_some _ _ _ _ _ _ _ _ _ _ _ (g.met.R.Ring.value_zero c.args.ring.now) c.of.ensures.has value c.loop-pair.invariant begins

pub loop-pair-preserved : goal.loop-pair-preserved
loop-pair-preserved g c =
    let begins : c.loop-pair.rest.now ≡ c.in-Some.pair.now ∷ c.in-Some.behind.now = search rules in
    let value : g.R.Ring.value c.args.ring.now c.of.result ≡ c.in-Some.pair.now.1 % g.R.Ring.modulus c.args.ring.now = search rules in
    making-more _ _ _ _ _ _ _ _ _ _ _ (g.met.R.Ring.value_zero c.args.ring.now) c.of.ensures.has value c.loop-pair.invariant begins _ c.in_ok-push.ensures.ok
