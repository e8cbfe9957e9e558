use Rattle.std.proofs.Common.{◌≡◌, ℕ, ◌<◌, Some, [], ◌∷◌, ◌++◌, length, get_or, slice_get, sym, ◌∙◌, ap, subst, arith}
use Rattle.std.proofs.lemmas.List.{get_or_default}
use Rattle.sparse_rows.specs.Entries.{IsRow}
use Rattle.page_codec.specs.declared.parts.FinalEntry.{FinalEntry}
use Rattle.page_rows.specs.Written.{written}
use Rattle.share_build.specs.Inner.{IsFinalEntryOf}
use Rattle.share_build.proofs.KeptCombinations.{each_pushed}
use Rattle.share_build.proofs.finishing.written.Goals as goal

pub loop-i-preserved : goal.loop-i-preserved
loop-i-preserved g c =
    let value = g.R.Ring.value c.args.ring.now in
    let i = c.loop-i.i in
    let rows = c.args.rows.now.rows in
    let combinations = c.args.combinations.now in
    let es = c.loop-i.entries.items in
    let inside : i < length combinations = omega (arith, c.loop-i-test.true, c.requires.count) in
    let combination_is : c.index-combinations-i.result ≡ get_or combinations i [] =
    c.index-combinations-i.is ∙ get_or_default combinations i c.index-combinations-i.result [] inside in
    let e : FinalEntry = record { row = c.in_ok-row.row; combination = c.in_ok-combination.combination } in
    let Is : ℕ → FinalEntry → Type 0 = λ k e. IsFinalEntryOf g.R.Ring.zero value (get_or rows k []) (get_or combinations k []) e in
    let here : Is i e = record {
      row_is = c.in_ok-row.ensures.written ∙ ap (written value) c.row.ensures.row;
      combination_is = c.in_ok-combination.ensures.written ∙ ap (written value) combination_is;
      is_combination = subst (IsRow (λ k. k) g.R.Ring.zero 0) combination_is c.in_ok-combination.ensures.row;
    } in
    let count : length es ≡ i = c.loop-i.invariant.count in
    let pushed : c.push.new.self.items ≡ es ++ e ∷ [] = c.in_ok-push.ensures.items in
    record {
      count = omega (arith, c.in_ok-push.ensures.len, count);
      each = subst (λ xs. (k : ℕ) (e : FinalEntry) → slice_get xs k ≡ Some e → Is k e) (sym pushed)
          (each_pushed es e Is c.loop-i.invariant.each (subst (λ k. Is k e) (sym count) here));
    }
