use Rattle.std.proofs.Common.{◌+◌, drop}
use Rattle.std.specs.Prelude.{◌↔◌}
use Rattle.page_codec.specs.Bounds.{Chain, IsForwardEntry, AreForward}
use Rattle.page_codec.proofs.bounds.are_forward.Given as goal

abbrev pub invariant-loop-entry : goal.invariant-loop-entry
invariant-loop-entry l = AreForward l.first l.high l.entries ↔ Chain (λ low e. IsForwardEntry low l.high e) (λ low e. e.number + 1) l.low
    (drop l.entry-index l.entries)
