use Rattle.std.proofs.Common.{sym, subst, true}
use Rattle.std.specs.Prelude.{IfSome}
use Rattle.page_file.specs.Notes.{Notes, Suits}
use Rattle.page_file.proofs.Keeping.{end_told, renew_left, renew_suits, renew_moments}
use Rattle.page_file.proofs.page_file.PageFile.renew.Goals as goal

pub clear_behind-requires : goal.clear_behind-requires
clear_behind-requires g c = end_told (g.D.Disk.trace c.args.disk.now) c.args.self.now c.end.result c.end.ensures c.requires.suits

pub returns-in-Ok-clause-suits : goal.returns-in-Ok-clause-suits
returns-in-Ok-clause-suits g c =
    subst (λ (n : Notes). IfSome (g.D.Disk.trace c.clear_behind.new.disk) (λ t. Suits (record n { is_ready = true }) t.now.contents)) (sym c.self.view_is)
    (renew_suits _ c.in-Ok.field-0 (g.D.Disk.trace c.args.disk.now) (g.D.Disk.trace c.clear_behind.new.disk) c.args.self.now c.end.result c.end.ensures
    c.requires.suits c.in-Ok.ensures.cleared)

pub returns-in-Ok-clause-left : goal.returns-in-Ok-clause-left
returns-in-Ok-clause-left g c =
    renew_left _ c.in-Ok.field-0 (g.D.Disk.trace c.args.disk.now) (g.D.Disk.trace c.clear_behind.new.disk) c.args.self.now c.end.result c.end.ensures
    c.requires.suits c.in-Ok.ensures.cleared

pub returns-in-Ok-clause-moments : goal.returns-in-Ok-clause-moments
returns-in-Ok-clause-moments g c =
    renew_moments c.clear_behind.result (g.D.Disk.trace c.args.disk.now) (g.D.Disk.trace c.clear_behind.new.disk) c.args.self.now c.end.result c.end.ensures
    c.requires.suits c.clear_behind.ensures.cleared

pub returns-in-Err-clause-moments : goal.returns-in-Err-clause-moments
returns-in-Err-clause-moments g c =
    renew_moments c.clear_behind.result (g.D.Disk.trace c.args.disk.now) (g.D.Disk.trace c.clear_behind.new.disk) c.args.self.now c.end.result c.end.ensures
    c.requires.suits c.clear_behind.ensures.cleared
