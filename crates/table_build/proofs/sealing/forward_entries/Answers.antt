use Rattle.std.proofs.Common.{◌≡◌, ℕ, ◌<◌, Some, [], ◌∷◌, ◌++◌, length, get_or, slice_get, sym, ◌∙◌, ap, subst, arith}
use Rattle.std.proofs.lemmas.List.{get_or_default, get_or_read}
use Rattle.sparse_rows.specs.Entries.{IsRow}
use Rattle.page_codec.specs.declared.parts.ForwardEntry.{ForwardEntry}
use Rattle.page_rows.specs.Written.{written}
use Rattle.table_build.specs.Inner.{IsEntryOf}
use Rattle.table_build.proofs.AddedInTurn.{each_pushed}
use Rattle.table_build.proofs.sealing.forward_entries.Goals as goal

pub loop-i-preserved : goal.loop-i-preserved
loop-i-preserved g c =
    let value = g.R.Ring.value c.args.ring.now in
    let i = c.loop-i.i in
    let numbers = c.args.kept.now.numbers.items in
    let rows = c.args.kept.now.rows.items in
    let combinations = c.args.combinations.now in
    let es = c.loop-i.entries.items in
    let inside : i < length combinations = omega (arith, c.loop-i-test.true) in
    let row_is : c.index.result.now ≡ get_or rows i [] =
    get_or_read rows i c.index.result.now (omega (arith, inside, c.requires.rows, c.requires.count)) c.index.ensures [] in
    let combination_is : c.index-combinations-i.result ≡ get_or combinations i [] =
    c.index-combinations-i.is ∙ get_or_default combinations i c.index-combinations-i.result [] inside in
    let number_is : c.index-in-loop-i.result.now ≡ get_or numbers i 0 =
    get_or_read numbers i c.index-in-loop-i.result.now (omega (arith, inside, c.requires.count)) c.index-in-loop-i.ensures 0 in
    let e : ForwardEntry = record { number = c.index-in-loop-i.result.now; row = c.in_ok-row.row; combination = c.in_ok-combination.combination } in
    let Is : ℕ → ForwardEntry → Type 0 = λ k e. IsEntryOf g.R.Ring.zero value (get_or numbers k 0) (get_or rows k []) (get_or combinations k []) e in
    let here : Is i e = record {
      number_is = number_is;
      row_is = c.in_ok-row.ensures.written ∙ ap (written value) row_is;
      combination_is = c.in_ok-combination.ensures.written ∙ ap (written value) combination_is;
      is_row = subst (IsRow (λ k. k) g.R.Ring.zero 0) row_is c.in_ok-row.ensures.row;
      is_combination = subst (IsRow (λ k. k) g.R.Ring.zero 0) combination_is c.in_ok-combination.ensures.row;
    } in
    let count : length es ≡ i = c.loop-i.invariant.count in
    let pushed : c.push.new.self.items ≡ es ++ e ∷ [] = c.in_ok-push.ensures.items in
    record {
      count = omega (arith, c.in_ok-push.ensures.len, count);
      each = subst (λ xs. (k : ℕ) (e : ForwardEntry) → slice_get xs k ≡ Some e → Is k e) (sym pushed)
          (each_pushed es e Is c.loop-i.invariant.each (subst (λ k. Is k e) (sym count) here));
    }
