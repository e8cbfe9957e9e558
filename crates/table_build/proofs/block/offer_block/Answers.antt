use Rattle.std.proofs.Common.{◌≡◌, ◌≢◌, suc, ◌+◌, ◌<◌, ◌≤◌, ◌∷◌, ◌++◌, [], true, length, refl, sym, ◌∙◌, subst, arith}
use Rattle.sparse_rows.specs.Entries.{AllIn}
use Rattle.echelon.specs.Lists.{entries_of, row_at}
use Rattle.echelon.specs.Offers.{used_at}
use Rattle.echelon.specs.Traces.{IfAccepted}
use Rattle.lyndon_polys.specs.Tables.{RingTable}
use Rattle.table_model.specs.ReducedRows.{BreaksFirst}
use Rattle.known_sums.specs.Known.{Knows}
use Rattle.table_build.specs.Faults.{HasCauseIn}
use Rattle.table_build.specs.Inner.{Course, CanOffer, HasOffered, IsMadeOf, HasBlock}
use Rattle.table_build.proofs.BlockSteps.{empty_block, block_step}
use Rattle.table_build.proofs.CauseSteps.{cause_more}
use Rattle.table_build.proofs.block.offer_block.Goals as goal

pub loop-n-init : goal.loop-n-init
loop-n-init g c =
    let t = c.args.offering.now.table in
    let old = c.args.offering.now.echelon in
    let block = c.none-block.result in
    let none = c.none-block.ensures in
    record {
      can = c.requires.can;
      known = c.requires.known;
      table = refl;
      names = refl;
      block = empty_block (g.R.Ring.modulus t.ring) (g.R.Ring.has t.ring) (g.R.Ring.value t.ring) t.columns c.args.first c.args.first old.numbers old.rows
          (omega arith) refl block.kept.numbers.items block.kept.rows.items block.uses.items block.starts.items none.0 none.1 none.2 none.3;
    }

pub loop-n-preserved : goal.loop-n-preserved
loop-n-preserved g c =
    let t = c.args.offering.now.table in
    let old = c.args.offering.now.echelon in
    let was = c.loop-n.offering in
    let now = c.offer.new.self in
    let n = c.loop-n.n in
    let block = c.loop-n.block in
    let next = c.take.new.self in
    let kept = c.loop-n.invariant in
    let told = c.in-Ok.ensures in
    let took = c.in_default.ensures in
    let same : was.table ≡ t = kept.table in
    let step : suc n ≡ n + 1 = omega arith in
    record {
      can = subst (λ k. CanOffer now.table now.names.items now.kept.ring now.echelon k) step told.can;
      known = subst (λ (x : RingTable g.row.R.Denot). Knows (g.R.Ring.modulus x.ring) (g.R.Ring.has x.ring) (g.R.Ring.value x.ring) x now.echelon.rows
          c.offer.new.known) same told.known;
      table = told.table.0 ∙ same;
      names = told.table.1 ∙ kept.names;
      block = subst (λ k. HasBlock (g.R.Ring.modulus t.ring) (g.R.Ring.has t.ring) (g.R.Ring.value t.ring) t.columns c.args.first k old.numbers old.rows
          now.echelon.numbers now.echelon.rows next.kept.numbers.items next.kept.rows.items next.uses.items next.starts.items) step
          (block_step (g.R.Ring.modulus t.ring) (g.R.Ring.has t.ring) (g.R.Ring.value t.ring) t.columns c.args.first n old.numbers old.rows c.loop-n.auto.n
          was.echelon.numbers was.echelon.rows block.kept.numbers.items block.kept.rows.items block.uses.items block.starts.items kept.block g.R.Ring.zero
          now.echelon.numbers now.echelon.rows next.kept.numbers.items next.kept.rows.items next.uses.items next.starts.items
          (subst (λ (x : RingTable g.row.R.Denot). (course : Course)
          → HasOffered (g.R.Ring.modulus x.ring) (g.R.Ring.value x.ring) x.columns course n was.echelon.numbers was.echelon.rows
          → HasOffered (g.R.Ring.modulus x.ring) (g.R.Ring.value x.ring) x.columns course (suc n) now.echelon.numbers now.echelon.rows) same told.offered)
          c.in-Ok.traced told.zero
          (subst (λ (x : RingTable g.row.R.Denot). IfAccepted c.in-Ok.traced (λ row scale uses. (now.echelon.numbers ≡ was.echelon.numbers ++ n ∷ [])
          × (now.echelon.rows ≡ was.echelon.rows ++ row ∷ []) × (g.R.Ring.has x.ring scale ≡ true) × (scale ≢ g.R.Ring.zero)
          × AllIn (g.R.Ring.has x.ring) uses × AllIn (g.R.Ring.has x.ring) row)) same told.accepted)
          (subst (λ (x : RingTable g.row.R.Denot). (course : Course)
          → HasOffered (g.R.Ring.modulus x.ring) (g.R.Ring.value x.ring) x.columns course n was.echelon.numbers was.echelon.rows
          → IfAccepted c.in-Ok.traced (λ row scale uses. IsMadeOf (g.R.Ring.modulus x.ring) x.columns course.work (suc n) (length was.echelon.rows)
          (row_at (g.R.Ring.value x.ring) was.echelon.rows) (entries_of (g.R.Ring.value x.ring) row)
          (entries_of (g.R.Ring.value x.ring) ((n, scale) ∷ [])) (used_at (g.R.Ring.value x.ring) was.echelon.numbers uses))) same told.made)
          took.zero took.accepted);
    }

pub returns-in-Err-clause-fault : goal.returns-in-Err-clause-fault
returns-in-Err-clause-fault g c = λ course so_far.
    let t = c.args.offering.now.table in
    let was = c.loop-n.offering in
    let n = c.loop-n.n in
    let kept = c.loop-n.invariant in
    let same : was.table ≡ t = kept.table in
    let m = g.R.Ring.modulus t.ring in
    let sums = course.work.sums in
    cause_more ⊥ ⊥ ⊥ ⊥ (λ value k. (k ≡ n) × BreaksFirst m t.columns sums n value)
    (λ value k. (c.args.first ≤ k) × (k < c.args.end) × BreaksFirst m t.columns sums k value) (λ x. x) (λ x. x)
    (λ value k (e, breaks). (
      omega (arith, e, c.loop-n.auto.n),
      omega (arith, e, c.loop-n-test.true),
      subst (λ j. BreaksFirst m t.columns sums j value) (sym e) breaks,
    )) c.in-Err.fault
    (subst (λ (x : RingTable g.row.R.Denot). HasOffered (g.R.Ring.modulus x.ring)
    (g.R.Ring.value x.ring) x.columns course n was.echelon.numbers was.echelon.rows
    → HasCauseIn ⊥ ⊥ (λ value k. (k ≡ n) × BreaksFirst (g.R.Ring.modulus x.ring) x.columns sums n value) c.in-Err.fault) same (c.in-Err.ensures.fault course)
    (kept.block.offered course so_far))

pub returns-clause-offered : goal.returns-clause-offered
returns-clause-offered g c = λ course so_far.
    let t = c.args.offering.now.table in
    let now = c.loop-n.offering.echelon in
    let kept = c.loop-n.invariant in
    let all : c.loop-n.n ≡ c.args.end = omega (arith, c.loop-n-test.false, c.loop-n.auto.n-end c.requires.order) in
    subst (λ k. HasOffered (g.R.Ring.modulus t.ring) (g.R.Ring.value t.ring) t.columns course k now.numbers now.rows) all (kept.block.offered course so_far)
