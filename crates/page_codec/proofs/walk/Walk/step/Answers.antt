use Rattle.std.proofs.Common.{◌≡◌, ◌+◌, min, true, false, refl, sym, ap, subst, ◌∙◌}
use Rattle.page_codec.specs.Places.{WalkAt, block_count}
use Rattle.page_codec.specs.Inner.{FitsAt, rows_on, walk_behind}
use Rattle.page_codec.proofs.Walking.{fits_to, fits_back, walk_of-push}
use Rattle.page_codec.proofs.walk.Walk.step.Goals as goal

pub returns-then-not-fits-clause-fits : goal.returns-then-not-fits-clause-fits
returns-then-not-fits-clause-fits c before e =
    let refused : ¬ (FitsAt c.args.self.now c.args.page.now) = λ at. let yes : c.fits.result ≡ true = c.fits.ensures.1 at in
    let no : c.fits.result ≡ false = c.if-not-fits.true in absurd (cc (yes, no)) in (
      λ t. absurd (cc t),
      λ fits. absurd
          (refused (subst (λ w. FitsAt w c.args.page.now) (sym e)
          (fits_back c.args.self.now.params c.args.self.now.relations before c.args.page.now fits))),
    )

pub returns-clause-fits : goal.returns-clause-fits
returns-clause-fits c before e = (
  λ t. fits_to c.args.self.now.params c.args.self.now.relations before c.args.page.now
      (subst (λ w. FitsAt w c.args.page.now) e (c.fits.ensures.0 c.if-not-fits.false)),
  λ fits. refl,
)

pub returns-clause-next : goal.returns-clause-next
returns-clause-next c before e t =
    let page = c.args.page.now in
    let place : c.min-self-inside.result ≡ min (c.self.inside.place + 1) (block_count c.self.inside.relations + 2) =
    c.min-self-inside.ensures ∙ ap (λ b. min (c.self.inside.place + 1) (b + 2)) c.block_count.ensures in
    let rows : c.self.inside.rows + c.rows_on.result ≡ c.self.inside.rows + rows_on page = ap (λ r. c.self.inside.rows + r) c.rows_on.ensures in
    let here : WalkAt = record {
      params = c.self.inside.params;
      relations = c.self.inside.relations;
      place = c.self.inside.place;
      rows =
          c.self.inside.rows;
      last = c.self.inside.last;
    } in
    let behind : WalkAt = record {
      params = c.self.inside.params;
      relations = c.self.inside.relations;
      place = c.min-self-inside.result;
      rows =
          c.self.inside.rows + c.rows_on.result;
      last = c.last_is-self-inside.result;
    } in
    let moved : behind ≡ walk_behind here page =
    λ i. record {
      params = c.self.inside.params;
      relations = c.self.inside.relations;
      place = place i;
      rows = rows i;
      last =
          c.last_is-self-inside.ensures i;
    } in
    moved ∙ ap (λ w. walk_behind w page) c.self.view_is ∙ ap (λ w. walk_behind w page) e
    ∙ walk_of-push c.args.self.now.params c.args.self.now.relations before page
