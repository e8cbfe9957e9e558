use Rattle.std.proofs.Common.{◌∙◌, sym, ap}
use Rattle.page_file.specs.Notes.{end_of}
use Rattle.page_file.proofs.Opened.{note_gates, params_tested}
use Rattle.page_file.proofs.page_file.PageFile.note.Goals as goal

pub invariant_of-self-2 : goal.invariant_of-self-2
invariant_of-self-2 c = (
  note_gates c.self.inside.gates.items c.push.new.self.items c.end-end.result c.args.size c.args.page.now c.self.invariant.0
      (c.end-end.ensures ∙ sym (ap end_of c.self.view_is)) c.requires.page c.requires.size c.in_ok-push.ensures.items,
  params_tested c.args.page.now c.count.result c.self.inside.params c.more_params-params.result c.more_params-params.ensures c.requires.page c.self.invariant.1,
)
