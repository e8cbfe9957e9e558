use Rattle.line_tokens.proofs.MakingLemmas.{Making}
use Rattle.line_tokens.proofs.StopLemmas.{Going}
use Rattle.dual_reply.specs.Inner.{maker, start}
use Rattle.dual_reply.specs.Places.{places, limit}
use Rattle.dual_reply.specs.declared.place.Place.TheVariants.{Start}
use Rattle.dual_reply.proofs.reader.read.Given as goal

abbrev pub invariant-loop-at : goal.invariant-loop-at
invariant-loop-at l = record {
  going : Going places Start l.fn.line l.spot l.at;
  making : Making places maker limit Start start l.fn.line l.spot l.number l.draft l.at;
}
