use Rattle.column_order.proofs.WordPlaces.{word_place, column_word_at, factors_at}
use Rattle.column_order.proofs.laws.column_word_laws.Goals as goal

pub returns-clause-column : goal.returns-clause-column
returns-clause-column c = λ ranks w d list u limits l a. word_place ranks w d list l limits.most u a

pub returns-clause-word : goal.returns-clause-word
returns-clause-word c = λ ranks w d list i p limits l e. (column_word_at ranks w d list l limits.least i p e, factors_at ranks w d list l i p e)
