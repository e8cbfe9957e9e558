use Rattle.std.proofs.Common.{◌≡◌, ℕ, ◌+◌, true, false, Some, [], List, get_or, slice_get, sym, ◌∙◌, subst, inl, inr, arith}
use Rattle.page_codec.specs.declared.parts.ForwardEntry.{ForwardEntry}
use Rattle.file_model.specs.Pages.{pairs_of}
use Rattle.echelon.specs.Lists.{row_at}
use Rattle.table_build.specs.Inner.{AreKeptEntries}
use Rattle.std.proofs.lemmas.Option.{slice_get-get_or}
use Rattle.table_build.proofs.WrittenEntries.{below_written}
use Rattle.table_build.proofs.RereadPages.{told_other, told_combinations, kept_residues, no_entry}
use Rattle.table_build.proofs.rereading.read_block.Goals as goal
use Rattle.table_build.proofs.rereading.read_block.Goals.{then-from-via-then-from, then-from-via-else-from+then-not-are_kept}

pub returns-then-from-clause-fault : goal.returns-then-from-clause-fault
returns-then-from-clause-fault g c =
    let ring = c.args.ring.now in
    let m = g.R.Ring.modulus ring in
    let value = g.R.Ring.value ring in
    let es = c.in-Forward.page.entries in
    let entries_are : c.as_slice-entries.result.now ≡ es = c.as_slice-entries.ensures in
    told_other m g.R.Ring.zero value c.args.block c.args.numbers.now c.args.rows.now (g.D.Disk.trace c.args.disk.now) (c.from-place.result + 1) c.in-Ok.page
    c.in-Forward.page.first es (omega (arith, c.from-place.ensures)) c.in-Forward.is (elim c.then-from.branch [
      | then-from-via-then-from w ↦ inl (λ e. absurd (omega (arith, w.if-from.true, c.from.ensures, c.from-2.ensures, e)))
      | then-from-via-else-from+then-not-are_kept w ↦ inr (λ kept.
          let is_true : w.are_kept.result ≡ true = w.are_kept.ensures.1 (subst (AreKeptEntries m g.R.Ring.zero value c.args.numbers.now c.args.rows.now)
          (sym entries_are) kept) in
          let is_false : w.are_kept.result ≡ false = w.if-not-are_kept.true in
          let bad : true ≡ false = sym is_true ∙ is_false in
          absurd (cc bad))
    ]) c.in-Ok.ensures.ok

pub combinations_of-requires : goal.combinations_of-requires
combinations_of-requires g c =
    let ring = c.args.ring.now in
    let m = g.R.Ring.modulus ring in
    let value = g.R.Ring.value ring in
    let es = c.in-Forward.page.entries in
    let entries_are : c.as_slice-entries.result.now ≡ es = c.as_slice-entries.ensures in
    let kept : AreKeptEntries m g.R.Ring.zero value c.args.numbers.now c.args.rows.now es =
    subst (AreKeptEntries m g.R.Ring.zero value c.args.numbers.now c.args.rows.now) entries_are (c.are_kept.ensures.0 c.if-not-are_kept.false) in
    record {
      residues = λ i e at. kept_residues m g.R.Ring.zero value c.args.numbers.now c.args.rows.now c.in-Forward.page.first es c.in-Ok.page c.in-Forward.is
          c.in-Ok.ensures.is_page kept i e (subst (λ xs. slice_get xs i ≡ Some e) entries_are at);
    }

pub returns-in-Ok-combinations_of-clause-told : goal.returns-in-Ok-combinations_of-clause-told
returns-in-Ok-combinations_of-clause-told g c =
    let ring = c.args.ring.now in
    let m = g.R.Ring.modulus ring in
    let value = g.R.Ring.value ring in
    let es = c.in-Forward.page.entries in
    let entries_are : c.as_slice-entries.result.now ≡ es = c.as_slice-entries.ensures in
    let kept : AreKeptEntries m g.R.Ring.zero value c.args.numbers.now c.args.rows.now es =
    subst (AreKeptEntries m g.R.Ring.zero value c.args.numbers.now c.args.rows.now) entries_are (c.are_kept.ensures.0 c.if-not-are_kept.false) in
    let rows = row_at value c.in-Ok-combinations_of.made.items in
    told_combinations m g.R.Ring.zero value c.args.block c.args.numbers.now c.args.rows.now (g.D.Disk.trace c.args.disk.now)
    (c.from-place.result + 1) c.in-Ok.page
    c.in-Forward.page.first es (omega (arith, c.from-place.ensures)) c.in-Forward.is kept c.requires.rising rows
    (subst (λ (xs : List ForwardEntry). (i : ℕ) (e : ForwardEntry) → slice_get xs i ≡ Some e → (q : ℕ) → rows i q ≡ pairs_of e.combination q) entries_are
    c.in-Ok-combinations_of.ensures.made) c.in-Ok.ensures.ok

pub returns-in-Ok-combinations_of-clause-below : goal.returns-in-Ok-combinations_of-clause-below
returns-in-Ok-combinations_of-clause-below g c = λ i l.
    let ring = c.args.ring.now in
    let m = g.R.Ring.modulus ring in
    let value = g.R.Ring.value ring in
    let es = c.as_slice-entries.result.now in
    let kept : AreKeptEntries m g.R.Ring.zero value c.args.numbers.now c.args.rows.now es = c.are_kept.ensures.0 c.if-not-are_kept.false in
    let e = get_or es i no_entry in
    let at : slice_get es i ≡ Some e = slice_get-get_or es i no_entry (omega (arith, l, kept.count)) in
    below_written value (get_or c.args.numbers.now i 0 + 1) m (get_or c.in-Ok-combinations_of.made.items i []) e.combination
    (c.in-Ok-combinations_of.ensures.written i e at) (kept.each i e at).fits
