use Rattle.std.proofs.Common.{◌≡◌, ℕ, ◌<◌, Some, [], ◌∷◌, ◌++◌, length, get_or, slice_get, sym, ◌∙◌, ap, subst, arith}
use Rattle.std.proofs.lemmas.Option.{slice_get-get_or, slice_get_within, get_or_from_slice_get}
use Rattle.sparse_rows.specs.Entries.{AllIn}
use Rattle.page_codec.specs.declared.parts.ForwardEntry.{ForwardEntry}
use Rattle.page_rows.specs.Written.{written}
use Rattle.echelon.specs.Lists.{entries_of}
use Rattle.echelon.specs.States.{AllIns}
use Rattle.file_model.specs.Pages.{pairs_of}
use Rattle.table_build.proofs.AddedInTurn.{each_grown}
use Rattle.table_build.proofs.WrittenEntries.{pairs_are}
use Rattle.table_build.proofs.rereading.combinations_of.Goals as goal

pub combination_of_data-requires : goal.combination_of_data-requires
combination_of_data-requires g c =
    let es = c.args.entries.now in
    let r = c.index-entries-i.result in
    let inside : c.loop-i.i < length es = omega (arith, c.loop-i-test.true) in
    record { residues = c.requires.residues c.loop-i.i (get_or es c.loop-i.i r) (slice_get-get_or es c.loop-i.i r inside) }

pub loop-i-preserved : goal.loop-i-preserved
loop-i-preserved g c =
    let ring = c.args.ring.now in
    let has = g.R.Ring.has ring in
    let value = g.R.Ring.value ring in
    let es = c.args.entries.now in
    let r = c.index-entries-i.result in
    let ys = c.loop-i.made.items in
    let y = c.in_ok-combination.combination in
    let count : length ys ≡ c.loop-i.i = c.loop-i.invariant.count in
    let pushed : c.push.new.self.items ≡ ys ++ y ∷ [] = c.in_ok-push.ensures.items in
    let at : ℕ → _ → Type 0 = λ k row. (e : ForwardEntry) → slice_get es k ≡ Some e → (q : ℕ) → entries_of value row q ≡ pairs_of e.combination q in
    let as_written : ℕ → _ → Type 0 = λ k row. (e : ForwardEntry) → slice_get es k ≡ Some e → written value row ≡ e.combination in
    let is_written : as_written c.loop-i.i y = λ e place.
    c.in_ok-combination.ensures.written ∙ ap (λ (e : ForwardEntry). e.combination) (get_or_from_slice_get es c.loop-i.i e r place) in
    let here : at c.loop-i.i y = λ e place q. pairs_are value g.R.Ring.zero has y e.combination (is_written e place) q in
    record {
      count = omega (arith, c.in_ok-push.ensures.len, c.loop-i.invariant.count);
      in_ring = subst (AllIns has) (sym pushed) (each_grown ys y [] (λ _ row. AllIn has row) c.loop-i.invariant.in_ring c.in_ok-combination.ensures.in_ring);
      are_written = subst (λ xs. (k : ℕ) → k < length xs → as_written k (get_or xs k [])) (sym pushed)
          (each_grown ys y [] as_written c.loop-i.invariant.are_written (subst (λ k. as_written k y) (sym count) is_written));
      made = subst (λ xs. (k : ℕ) → k < length xs → at k (get_or xs k [])) (sym pushed)
          (each_grown ys y [] at c.loop-i.invariant.made (subst (λ k. at k y) (sym count) here));
    }

pub returns-clause-made : goal.returns-clause-made
returns-clause-made g c = λ i e at q.
    c.loop-i.invariant.made i (omega (arith, slice_get_within c.args.entries.now i e at, c.loop-i-test.false, c.loop-i.invariant.count)) e at q

pub returns-clause-written : goal.returns-clause-written
returns-clause-written g c = λ i e at.
    c.loop-i.invariant.are_written i (omega (arith, slice_get_within c.args.entries.now i e at, c.loop-i-test.false, c.loop-i.invariant.count)) e at
