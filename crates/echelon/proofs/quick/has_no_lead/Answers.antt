use Rattle.std.proofs.Common.{◌≡◌, ◌<◌, [], ◌∷◌, length, ◌∙◌, sym, ap, arith}
use Rattle.echelon.specs.Lists.{entries_of, lead_at}
use Rattle.echelon.proofs.QuickPlaces.{none_behind}
use Rattle.echelon.proofs.quick.has_no_lead.Goals as goal

pub loop-entry-preserved : goal.loop-entry-preserved
loop-entry-preserved g c = λ value k h.
    none_behind c.args.rows.now value c.args.entries.now c.loop-entry.rest.now c.in-Some.behind.now c.in-Some.entry.now k c.in-Some.ensures.cases.0
    (λ e. c.in_default-place_at.ensures.none k h (e ∙ sym c.from.ensures)) (c.loop-entry.invariant value k h)
