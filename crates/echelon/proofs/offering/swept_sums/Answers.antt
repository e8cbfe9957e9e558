use Rattle.std.proofs.Common.{◌≡◌, ◌+◌, ◌*◌, ◌%◌, length, ◌∙◌, ap, subst, arith, rules}
use Rattle.zeta_model.proofs.ModularLemmas.{same-mod}
use Rattle.linear_model.specs.Rows.{SameRow}
use Rattle.sparse_rows.specs.Entries.{IsBelow}
use Rattle.echelon.specs.Lists.{entries_of, row_at, lead_at}
use Rattle.echelon.specs.Inner.{numbers_of}
use Rattle.echelon.proofs.Swept.{swept_same}
use Rattle.echelon.proofs.offering.swept_sums.Goals as goal

pub returns : goal.returns
returns g c =
    let ring = c.args.ring.now in
    let m = g.R.Ring.modulus ring in
    let value = g.R.Ring.value ring in
    let total = g.R.Ring.total ring in
    let one : value c.one.result ≡ 1 = ap value c.one.ensures ∙ g.met.R.Ring.value_one ring in
    let begun : SameRow m (numbers_of total c.add_entries.new.sums) (entries_of value c.args.row.now) = λ q.
    c.add_entries.ensures.sum q
    ∙ ap (λ x. x % m) ((λ i. numbers_of total c.args.sums.now q + one i * entries_of value (c.entries.ensures.entries i) q)
    ∙ omega (arith, c.requires.zero q)) in
    let ended : SameRow m (entries_of value c.in_ok-row.row) (numbers_of total c.sweep.new.sums) = λ q.
    ap (λ x. x % m) (c.in_ok-row.ensures.entries q) ∙ same-mod m (numbers_of total c.sweep.new.sums q) in
    let len : length c.sweep.new.sums ≡ length c.args.sums.now = search rules in
    record {
      is_row = c.in_ok-row.ensures.row;
      below = subst (λ n. IsBelow (λ k. k) n c.in_ok-row.row) len c.in_ok-row.ensures.below;
      in_ring = c.in_ok-row.ensures.in_ring;
      count = c.in_ok-factors.ensures.len;
      factors_in_ring = c.in_ok-factors.ensures.in_ring;
      none = c.in_ok-factors.ensures.zero;
      swept = swept_same m c.args.first (length c.args.rows.now) (lead_at c.args.rows.now) (row_at value c.args.rows.now)
          (numbers_of value c.in_ok-factors.factors.items) (entries_of value c.args.row.now) (entries_of value c.in_ok-row.row)
          (numbers_of total c.add_entries.new.sums) (numbers_of total c.sweep.new.sums) begun ended c.in_ok-factors.ensures.swept;
    }
