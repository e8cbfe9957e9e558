use Rattle.std.proofs.Common.{◌∙◌, ◌+◌, ◌++◌, ◌∷◌, [], List, ℕ, sym, ap}
use Rattle.page_file.specs.Notes.{end_of}
use Rattle.page_file.proofs.Opened.{note_gates, params_tested, noted, suits_noted}
use Rattle.page_file.proofs.Keeping.{gate_told, seal_left, seal_suits, seal_moments}
use Rattle.page_file.proofs.page_file.PageFile.seal.Goals as goal

pub seal_behind-requires-clause-place : goal.seal_behind-requires-clause-place
seal_behind-requires-clause-place g c =
    gate_told (g.D.Disk.trace c.args.disk.now) c.args.self.now c.end-gate.result c.end-gate.ensures c.requires.ready c.requires.suits

pub invariant_of-self-in-Ok : goal.invariant_of-self-in-Ok
invariant_of-self-in-Ok g c = (
  note_gates c.self.inside.gates.items c.push_within.new.gates.items c.end-gate.result c.in_ok-size.size c.args.page.now c.self.invariant.0
      (c.end-gate.ensures ∙ sym (ap end_of c.self.view_is)) c.requires.page c.in_ok-size.ensures.size
      (c.push_within.ensures ∙ ap (λ (l : List ℕ). l ++ (c.end-gate.result + c.in_ok-size.size) ∷ []) c.reserve.ensures.items),
  params_tested c.args.page.now c.count.result c.self.inside.params c.more_params-params.result c.more_params-params.ensures c.requires.page c.self.invariant.1,
)

pub returns-in-Ok-clause-suits : goal.returns-in-Ok-clause-suits
returns-in-Ok-clause-suits g c =
    suits_noted (g.D.Disk.trace c.seal_behind.new.disk) _ _
    (noted c.self.inside.gates.items c.push_within.new.gates.items c.self.inside.params c.more_params-params.result c.self.inside.ready c.self.inside.live
    c.end-gate.result c.in_ok-size.size c.count.result c.args.page.now c.args.self.now c.self.view_is c.end-gate.ensures c.count.ensures
    c.in_ok-size.ensures.size (c.push_within.ensures ∙ ap (λ (l : List ℕ). l ++ (c.end-gate.result + c.in_ok-size.size) ∷ []) c.reserve.ensures.items)
    c.more_params-params.ensures)
    (seal_suits c.args.self.now c.args.page.now c.end-gate.result c.deref.result.now c.requires.ready c.end-gate.ensures
    (c.deref.ensures.value ∙ c.in_ok-size.ensures.block) c.requires.page c.requires.first
    _ c.in-Ok.field-0 (g.D.Disk.trace c.args.disk.now) (g.D.Disk.trace c.seal_behind.new.disk) c.requires.suits c.in-Ok.ensures.sealed)

pub returns-in-Ok-clause-left : goal.returns-in-Ok-clause-left
returns-in-Ok-clause-left g c =
    seal_left c.args.self.now c.args.page.now c.end-gate.result c.deref.result.now c.requires.ready c.end-gate.ensures
    (c.deref.ensures.value ∙ c.in_ok-size.ensures.block) c.requires.page c.requires.first
    _ c.in-Ok.field-0 (g.D.Disk.trace c.args.disk.now) (g.D.Disk.trace c.seal_behind.new.disk) c.requires.suits c.in-Ok.ensures.sealed

pub returns-in-Ok-clause-moments : goal.returns-in-Ok-clause-moments
returns-in-Ok-clause-moments g c =
    seal_moments c.args.self.now c.args.page.now c.end-gate.result c.deref.result.now c.requires.ready c.end-gate.ensures
    (c.deref.ensures.value ∙ c.in_ok-size.ensures.block) c.requires.page c.requires.first
    c.seal_behind.result (g.D.Disk.trace c.args.disk.now) (g.D.Disk.trace c.seal_behind.new.disk) c.requires.suits c.seal_behind.ensures.sealed

pub returns-in-Err-clause-moments : goal.returns-in-Err-clause-moments
returns-in-Err-clause-moments g c =
    seal_moments c.args.self.now c.args.page.now c.end-gate.result c.deref.result.now c.requires.ready c.end-gate.ensures
    (c.deref.ensures.value ∙ c.in_ok-size.ensures.block) c.requires.page c.requires.first
    c.seal_behind.result (g.D.Disk.trace c.args.disk.now) (g.D.Disk.trace c.seal_behind.new.disk) c.requires.suits c.seal_behind.ensures.sealed
