use Rattle.std.proofs.Common.{◌≡◌, ◌<◌, ◌≤◌, ℕ, List, [], ◌∷◌, ◌++◌, length, get_or, sym, ◌∙◌, subst, arith}
use Rattle.std.proofs.lemmas.List.{get_or_default}
use Rattle.sparse_rows.specs.Entries.{AllIn}
use Rattle.zeta_model.specs.Modular.{Same}
use Rattle.echelon.specs.Lists.{entries_of}
use Rattle.share_build.proofs.KeptCombinations.{each_grown}
use Rattle.share_merge.specs.Inner.{IsExpanded}
use Rattle.share_merge.proofs.expanding.all_expanded.Goals as goal

pub expanded-requires-clause-in_ring : goal.expanded-requires-clause-in_ring
expanded-requires-clause-in_ring g c =
    let i = c.loop-i.i in
    let all = c.args.combinations.now in
    subst (AllIn (g.R.Ring.has c.args.table.now.ring))
    (sym (c.index-combinations-i.is ∙ get_or_default all i c.index-combinations-i.result [] c.loop-i-test.true)) (c.requires.in_ring i c.loop-i-test.true)

pub expanded-requires-clause-ends : goal.expanded-requires-clause-ends
expanded-requires-clause-ends g c =
    let i = c.loop-i.i in
    let all = c.args.combinations.now in
    let ring = c.args.table.now.ring in
    subst (λ es. (q : ℕ) → length c.args.places.now ≤ q → Same (g.R.Ring.modulus ring) (entries_of (g.R.Ring.value ring) es q) 0)
    (sym (c.index-combinations-i.is ∙ get_or_default all i c.index-combinations-i.result [] c.loop-i-test.true))
    (λ q. c.requires.ends i q c.loop-i-test.true)

pub loop-i-preserved : goal.loop-i-preserved
loop-i-preserved g c =
    let i = c.loop-i.i in
    let ring = c.args.table.now.ring in
    let all = c.args.combinations.now in
    let made = c.loop-i.all.items in
    let x = c.in_ok-expanded.field-0 in
    let count : length made ≡ i = c.loop-i.invariant.count in
    let Is : ℕ → List (ℕ × g.row.R-Elem.Denot) → Type 0 = λ k e.
    IsExpanded (g.R.Ring.modulus ring) (g.R.Ring.has ring) (g.R.Ring.value ring) g.R.Ring.zero c.args.table.now.columns c.args.shares.now (get_or all k []) e in
    let own = c.index-combinations-i.is ∙ get_or_default all i c.index-combinations-i.result [] c.loop-i-test.true in
    let here : Is (length made) x =
    subst (λ k. Is k x) (sym count) (subst (λ es. IsExpanded (g.R.Ring.modulus ring) (g.R.Ring.has ring) (g.R.Ring.value ring) g.R.Ring.zero
    c.args.table.now.columns c.args.shares.now es x) own c.in_ok-expanded.ensures) in
    let pushed : c.push.new.self.items ≡ made ++ x ∷ [] = c.in_ok-push.ensures.items in
    record {
      count = omega (arith, c.in_ok-push.ensures.len, count);
      each = subst (λ xs. (k : ℕ) → k < length xs → Is k (get_or xs k [])) (sym pushed) (each_grown made x [] Is c.loop-i.invariant.each here);
    }
