use Rattle.word_forms.specs.Forms.{AreFirstForms}
use Rattle.word_forms.proofs.forms.forms_of_words.Given as goal

abbrev pub invariant-loop-i : goal.invariant-loop-i
invariant-loop-i g l =
    AreFirstForms (g.R.Ring.modulus l.table.ring) (g.R.Ring.has l.table.ring) (g.R.Ring.value l.table.ring) l.table.columns l.rows.rows l.i l.forms.items
