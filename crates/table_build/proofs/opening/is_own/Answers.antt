use Rattle.std.proofs.Common.{[], refl, sym, ap, ◌∙◌}
use Rattle.page_codec.specs.Places.{WalkAt, walk_of}
use Rattle.table_build.proofs.opening.is_own.Goals as goal

pub returns : goal.returns
returns c =
    let walk = c.new-walk.result in
    let begun = c.new-walk.ensures in
    let own = ap (λ (w : WalkAt). w.params) begun in
    let count = ap (λ (w : WalkAt). w.relations) begun in
    let fits = c.step.ensures.fits [] (begun ∙ (λ j. walk_of (sym own j) (sym count j) [])) in
    ((λ yes. (fits.0 yes).1 ∙ own), λ same. fits.1 (refl, same ∙ sym own))
