use Rattle.std.proofs.Common.{◌≡◌, ℕ, ◌+◌, ◌*◌, ◌%◌, ◌<◌, [], ◌∷◌, ◌++◌, length, get_or, sym, ◌∙◌, ap, subst, arith}
use Rattle.std.proofs.lemmas.List.{get_or_default}
use Rattle.zeta_model.proofs.ModularLemmas.{same-mod, same-add_right}
use Rattle.linear_model.specs.Rows.{SameRow}
use Rattle.sparse_rows.specs.Entries.{AllIn}
use Rattle.row_sums.specs.Totals.{total_at}
use Rattle.echelon.specs.Lists.{entries_of, row_at}
use Rattle.echelon.specs.States.{AllIns}
use Rattle.table_build.proofs.AddedInTurn.{each_grown}
use Rattle.table_build.proofs.totals.all_ended.Goals as goal

pub loop-j-preserved : goal.loop-j-preserved
loop-j-preserved g c =
    let ring = c.args.ring.now in
    let m = g.R.Ring.modulus ring in
    let has = g.R.Ring.has ring in
    let value = g.R.Ring.value ring in
    let total = g.R.Ring.total ring in
    let ys = c.loop-j.ended.items in
    let y = c.add_scaled.new.self in
    let j = c.loop-j.j in
    let inside : j < length c.args.starts.now = omega (arith, c.loop-j-test.true) in
    let within : j < length c.args.sums.now = omega (arith, inside, c.requires.as_many) in
    let start_is : c.index-starts-j.result ≡ get_or c.args.starts.now j [] =
    c.index-starts-j.is ∙ get_or_default c.args.starts.now j c.index-starts-j.result [] inside in
    let sum_is : c.index-sums-j.result ≡ get_or c.args.sums.now j [] =
    c.index-sums-j.is ∙ get_or_default c.args.sums.now j c.index-sums-j.result [] within in
    let count : j ≡ length ys = sym c.loop-j.invariant.count in
    let pushed : c.push.new.self.items ≡ ys ++ y ∷ [] = c.in_ok-push.ensures.items in
    let at : ℕ → _ → Type 0 = λ k es. SameRow m (entries_of value es) (λ q. row_at value c.args.starts.now k q + total_at total (get_or c.args.sums.now k []) q) in
    let one : value c.one.result ≡ 1 = ap value c.one.ensures ∙ g.met.R.Ring.value_one ring in
    let here : at j y = λ q.
    let first : entries_of value c.in_ok-made.made q ≡ total_at total (get_or c.args.sums.now j []) q % m =
    c.in_ok-made.ensures.entries q ∙ ap (λ s. total_at total s q % m) sum_is in
    let begun = row_at value c.args.starts.now j q in
    let t = total_at total (get_or c.args.sums.now j []) q in
    ap (λ x. x % m) (c.in_ok-add_scaled.ensures.ok q) ∙ same-mod m _
    ∙ (λ i. (first i + one i * entries_of value (start_is i) q) % m)
    ∙ (let e : t % m + 1 * begun ≡ t % m + begun = omega arith in ap (λ x. x % m) e)
    ∙ same-add_right m (t % m) t begun (same-mod m t)
    ∙ (let e : t + begun ≡ begun + t = omega arith in ap (λ x. x % m) e) in
    record {
      count = omega (arith, c.in_ok-push.ensures.len, c.loop-j.invariant.count);
      in_ring = subst (AllIns has) (sym pushed) (each_grown ys y [] (λ _ es. AllIn has es) c.loop-j.invariant.in_ring c.in_ok-add_scaled.ensures.in_ring);
      made = subst (λ xs. (k : ℕ) → k < length xs → at k (get_or xs k [])) (sym pushed)
          (each_grown ys y [] at c.loop-j.invariant.made (subst (λ k. at k y) count here));
    }
