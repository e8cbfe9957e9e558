use Rattle.column_order.specs.Inner.{column_words}
use Rattle.column_order.proofs.WordPlaces.{ArePlacedTo}
use Rattle.column_order.proofs.word_places.places_of.Given as goal

abbrev pub invariant-loop-i : goal.invariant-loop-i
invariant-loop-i l = ArePlacedTo l.words (column_words l.columns) l.places.items l.i
