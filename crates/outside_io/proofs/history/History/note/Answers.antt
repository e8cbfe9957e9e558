use Rattle.std.proofs.Common.{ap, ◌∙◌}
use Rattle.outside_io.specs.Traces.{step}
use Rattle.outside_io.specs.Inner.{replay, after_change}
use Rattle.outside_io.proofs.Keeping.{replay_push, kept_note, kept_image}
use Rattle.outside_io.proofs.history.History.note.Goals as goal

pub invariant_of-self-2 : goal.invariant_of-self-2
invariant_of-self-2 c = kept_note c.self.inside.start.items c.self.inside.changes.items c.push.new.self.items c.args.change c.args.self.now _ c.in_ok-push.ensures.items c.self.view_is c.self.invariant c.requires.same c.requires.image

pub returns-clause-ok : goal.returns-clause-ok
returns-clause-ok c = replay_push c.self.inside.start.items c.self.inside.changes.items c.push.new.self.items c.args.change c.in_ok-push.ensures.items
    ∙ ap (step (after_change c.args.change)) c.self.view_is

pub returns-clause-kept : goal.returns-clause-kept
returns-clause-kept c = kept_image (replay c.self.inside.start.items c.push.new.self.items) _
    (kept_note c.self.inside.start.items c.self.inside.changes.items c.push.new.self.items c.args.change c.args.self.now _ c.in_ok-push.ensures.items c.self.view_is c.self.invariant c.requires.same c.requires.image)
