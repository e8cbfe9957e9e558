use Rattle.std.proofs.Common.{◌++◌, map, refl}
use Rattle.quasi_product.proofs.MergeLemmas.{behind_next, behind_end, fits_first, fits_rest}
use Rattle.quasi_product.proofs.RowLemmas.{nothing}
use Rattle.quasi_product.proofs.merging.add_behind.Goals as goal

pub loop-term-init : goal.loop-term-init
loop-term-init g c = (c.requires.fits, refl)

pub followed_by-requires : goal.followed_by-requires
followed_by-requires g c = fits_first 24 c.args.front c.loop-term.rest.now c.in-Some.term.now c.in-Some.behind.now c.in-Some.ensures.cases.0
    c.loop-term.invariant.0

pub loop-term-preserved : goal.loop-term-preserved
loop-term-preserved g c = (
  fits_rest 24 c.args.front c.loop-term.rest.now c.in-Some.term.now c.in-Some.behind.now c.in-Some.ensures.cases.0 c.loop-term.invariant.0,
  behind_next c.args.front c.loop-term.terms.items c.push.new.self.items c.loop-term.rest.now c.in-Some.behind.now
      (c.args.terms.now.items ++ map (λ t. (c.args.front ++ t.0, t.1)) c.args.list.now) c.in-Some.term.now c.followed_by.result
      c.in-Some.ensures.cases.0 c.followed_by.ensures c.in_ok-push.ensures.items c.loop-term.invariant.1,
)

pub returns : goal.returns
returns g c = record {
  ok = behind_end c.args.front c.loop-term.terms.items c.loop-term.rest.now
      (c.args.terms.now.items ++ map (λ t. (c.args.front ++ t.0, t.1)) c.args.list.now)
      (nothing c.loop-term.rest.now c.in_default.ensures.cases) c.loop-term.invariant.1;
}
