use Rattle.std.proofs.Common.{◌≡◌, ◌++◌, ◌∷◌, ◌+◌, List, length, drop, string_bytes, subst}
use Rattle.std.specs.List.{AllByRecursion}
use Rattle.page_codec.specs.declared.parts.FinalEntry.{FinalEntry}
use Rattle.whole_runs.specs.FileTexts.{row_lines}
use Rattle.table_texts.specs.Texts.{IsShowable}
use Rattle.table_texts.proofs.ShownTexts.{line_written, drop-next}
use Rattle.table_texts.proofs.texts.push_entries.Goals as goal

pub loop-entry-preserved : goal.loop-entry-preserved
loop-entry-preserved g c =
    let m = g.R.Ring.modulus c.args.ring.now in
    let columns = c.args.columns.now.list in
    let entries = c.args.entries.now in
    let l = c.loop-entry in
    let e = c.entry-item.result in
    let begins : drop l.entry-index entries ≡ e ∷ drop (l.entry-index + 1) entries =
    drop-next entries l.entry-index e c.loop-entry-test.true c.entry-item.is in
    let showable : AllByRecursion (IsShowable (length columns) m) (e ∷ drop (l.entry-index + 1) entries) =
    subst (AllByRecursion (IsShowable (length columns) m)) begins l.invariant.showable in
    record {
      written = line_written m columns e (drop (l.entry-index + 1) entries) (string_bytes l.lines) (string_bytes c.push_row_line.new.lines) _
          c.in_ok-push_row_line.ensures
          (subst (λ (es : List FinalEntry). string_bytes l.lines ++ row_lines m columns es ≡ string_bytes c.args.lines.now ++ row_lines m columns entries)
          begins l.invariant.written);
      showable = showable.1;
    }
