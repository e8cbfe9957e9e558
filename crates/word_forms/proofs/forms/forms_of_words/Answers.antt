use Rattle.std.proofs.Common.{◌≡◌, ◌<◌, Some, length, slice_get, ap, subst, arith}
use Rattle.column_order.specs.Columns.{ColumnList}
use Rattle.word_forms.proofs.FormLists.{no_forms, table_word_at, one_form_more, all_forms}
use Rattle.word_forms.proofs.forms.forms_of_words.Goals as goal

pub form_of_word-requires-clause-word : goal.form_of_word-requires-clause-word
form_of_word-requires-clause-word g c =
    let columns = c.args.table.now.columns in
    let i = c.loop-i.i in
    let same = c.columns-columns.ensures.columns in
    let count = ap (λ (cs : ColumnList). length cs.list) same in
    let inside : i < length columns.list = omega (arith, c.loop-i-test.true, c.len-i-end.ensures.length, count) in
    (table_word_at (g.R.Ring.modulus c.args.table.now.ring) columns i c.at.result.now c.word.result c.columns-columns.ensures.table inside
    (subst (λ (cs : ColumnList). slice_get cs.list i ≡ Some c.at.result.now) same c.at.ensures.at) c.word.ensures.joined).1

pub loop-i-init : goal.loop-i-init
loop-i-init g c =
    let table = c.args.table.now in
    no_forms (g.R.Ring.modulus table.ring) (g.R.Ring.has table.ring) (g.R.Ring.value table.ring) table.columns c.args.rows.now.rows
    c.in_ok-forms.forms.items c.in_ok-forms.ensures.items

pub loop-i-preserved : goal.loop-i-preserved
loop-i-preserved g c =
    let table = c.args.table.now in
    let m = g.R.Ring.modulus table.ring in
    let columns = table.columns in
    let i = c.loop-i.i in
    let same = c.columns-columns.ensures.columns in
    let count = ap (λ (cs : ColumnList). length cs.list) same in
    let inside : i < length columns.list = omega (arith, c.loop-i-test.true, c.len-i-end.ensures.length, count) in
    let word = table_word_at m columns i c.at.result.now c.word.result c.columns-columns.ensures.table inside
    (subst (λ (cs : ColumnList). slice_get cs.list i ≡ Some c.at.result.now) same c.at.ensures.at) c.word.ensures.joined in
    one_form_more m (g.R.Ring.has table.ring) (g.R.Ring.value table.ring) columns c.args.rows.now.rows i c.loop-i.forms.items c.push.new.self.items
    c.word.result c.in_ok-form.form c.loop-i.invariant word.0 c.in_ok-form.ensures c.in_ok-push.ensures.items

pub returns-clause-forms : goal.returns-clause-forms
returns-clause-forms g c =
    let table = c.args.table.now in
    let same = c.columns-columns.ensures.columns in
    let count = ap (λ (cs : ColumnList). length cs.list) same in
    let all : c.loop-i.i ≡ length table.columns.list = omega (arith, c.loop-i-test.false, c.loop-i.auto.i-end, c.len-i-end.ensures.length, count) in
    all_forms (g.R.Ring.modulus table.ring) (g.R.Ring.has table.ring) (g.R.Ring.value table.ring) table.columns c.args.rows.now.rows c.loop-i.i
    c.loop-i.forms.items all c.loop-i.invariant
