use Rattle.std.proofs.Common.{◌+◌, ◌*◌, ◌%◌, ap, ◌∙◌, arith}
use Rattle.sparse_rows.specs.Entries.{entry_of}
use Rattle.sparse_rows.proofs.Merging.{pushed, skipped, done, true_or_false}
use Rattle.sparse_rows.proofs.pairs.Pairs.add_scaled.Goals as goal

pub loop-key-preserved-in_ok-push : goal.loop-key-preserved-in_ok-push
loop-key-preserved-in_ok-push g c =
    pushed _ _ _ _ _ _ _ _ _ _ _ _ _ _ _ _ _ c.loop-key.invariant c.in-Some.ensures c.split_at_key-a.ensures.value c.split_at_key-b.ensures.value c.add_product-residue.ensures.value
    _ c.in_ok-push.ensures.items (λ e. true_or_false (c.is_zero.ensures.1 e) c.if-not-is_zero.true) c.add_product-residue.ensures.has
    c.split_at_key-a.ensures.rest_in_ring c.split_at_key-b.ensures.rest_in_ring c.split_at_key-a.ensures.rest c.split_at_key-b.ensures.rest

pub loop-key-preserved : goal.loop-key-preserved
loop-key-preserved g c =
    skipped _ _ _ _ _ _ _ _ _ _ _ _ _ _ _ _ _ c.loop-key.invariant c.in-Some.ensures c.split_at_key-a.ensures.value c.split_at_key-b.ensures.value c.add_product-residue.ensures.value
    (ap (g.R.Ring.value c.args.ring.now) (c.is_zero.ensures.0 c.if-not-is_zero.false) ∙ g.met.R.Ring.value_zero c.args.ring.now)
    c.split_at_key-a.ensures.rest_in_ring c.split_at_key-b.ensures.rest_in_ring c.split_at_key-a.ensures.rest c.split_at_key-b.ensures.rest

pub returns-clause-ok : goal.returns-clause-ok
returns-clause-ok g c =
    let ends = c.in_default.ensures in
    λ q. done _ _ _ _ _ _ _ _ _ _ _ c.loop-key.invariant ends.0 ends.1 (omega (arith, g.met.R.Ring.modulus_from c.args.ring.now))
    (g.met.R.Ring.value_below c.args.ring.now) q
    ∙ (λ i. (entry_of g.K.Key.number (g.R.Ring.value c.args.ring.now)
    ((c.as_slice-left.ensures.value ∙ c.self.view_is) i) q + g.R.Ring.value c.args.ring.now c.args.c * entry_of g.K.Key.number
    (g.R.Ring.value c.args.ring.now) ((c.as_slice-right.ensures.value ∙ c.other.view_is) i) q) % g.R.Ring.modulus c.args.ring.now)
