use Rattle.std.proofs.Common.{◌≡◌, ℕ, [], length, get_or, sym, subst, arith}
use Rattle.echelon.specs.Lists.{row_at}
use Rattle.table_model.specs.Complete.{Evaluates}
use Rattle.share_model.specs.Dealing.{IsRowOfShare}
use Rattle.share_check.specs.Inner.{AreOfShare}
use Rattle.share_check.proofs.NumbersOfShare.{within-of, of-within}
use Rattle.share_check.proofs.FirstPlaces.{FirstOf, first-lesser}
use Rattle.share_check.proofs.bad_rows.first_bad_row.Goals as goal

pub returns : goal.returns
returns g c =
    let t = c.args.table.now in
    let r = g.met.R.Ring in
    let m = g.R.Ring.modulus t.ring in
    let has = g.R.Ring.has t.ring in
    let value = g.R.Ring.value t.ring in
    let index = c.args.id.index in
    let shares = c.args.id.of in
    let rows = c.args.rows.now in
    let combinations = c.args.combinations.now in
    let within = c.requires.combinations in
    let same : length combinations ≡ length rows = c.requires.as_many in
    let Foreign = λ (k : ℕ). AreOfShare index shares (get_or combinations k []) in
    let Good = λ (k : ℕ). Evaluates m t.columns (row_at value rows k) (row_at value combinations k) in
    let Both = λ (k : ℕ). IsRowOfShare m t.columns index shares (row_at value rows k) (row_at value combinations k) in
    let foreign = c.first_foreign-foreign.result in
    subst (FirstOf Both (length rows)) (sym c.lesser.ensures)
    (first-lesser Foreign Good Both (length rows)
    (λ k l of good. record { evaluates = good; within = within-of value index shares (get_or combinations k []) of })
    (λ k l both. of-within value index shares g.R.Ring.zero has (r.has_zero t.ring) (r.value_zero t.ring) (r.value_injective t.ring) 0
    (get_or combinations k []) (within.is_row k (omega (arith, l, same))) (within.in_ring k (omega (arith, l, same))) both.within)
    (λ k l both. both.evaluates) foreign c.in_ok-wrong.wrong
    (subst (λ n. FirstOf Foreign n foreign) same c.first_foreign-foreign.ensures) c.in_ok-wrong.ensures)
