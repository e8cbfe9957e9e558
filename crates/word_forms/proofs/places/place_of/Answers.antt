use Rattle.std.proofs.Common.{◌≡◌, Some, map, slice_get, sym, ap, subst, ◌∙◌}
use Rattle.zeta_model.proofs.WordOrder.{same_word-one}
use Rattle.lyndon_words.specs.Lyndon.{joined}
use Rattle.column_order.specs.Ranks.{rank_of}
use Rattle.column_order.proofs.WordPlaces.{word_at_place, one_word_place}
use Rattle.word_forms.proofs.places.place_of.Goals as goal

pub returns-then-eq : goal.returns-then-eq
returns-then-eq c =
    let columns = c.args.columns.now in
    let words = map joined columns.list in
    let place = c.match-get.place in
    let word = c.args.word in
    let same : c.word.result ≡ word = same_word-one c.word.result word (sym c.eq.ensures ∙ c.if-eq.true) in
    let at : slice_get words place ≡ Some word =
    word_at_place columns.list place c.at.result.now c.at.ensures.at ∙ ap (λ u. Some u) (sym c.word.ensures.joined ∙ same) in
    record {
      word = λ i. (
        λ e. let here : place ≡ i = cc in subst (λ k. slice_get words k ≡ Some word) here at,
        λ e. ap (λ k. Some k) (one_word_place (rank_of columns.preference) columns.weight columns.depth columns.list c.len.ensures.columns place i word at e),
      );
    }
