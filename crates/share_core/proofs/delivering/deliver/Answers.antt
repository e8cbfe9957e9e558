use Rattle.std.proofs.Common.{List, [], ◌∷◌, ◌++◌, refl, sym, ◌∙◌, ap, subst}
use Rattle.std.specs.Prelude.{Result, Err, IfOk}
use Rattle.std.specs.declared.alloc.AllocError.{AllocError}
use Rattle.share_model.specs.Checked.{Checked}
use Rattle.share_core.specs.Lists.{Lists, without_index}
use Rattle.share_core.specs.Coordinations.{Setting}
use Rattle.share_core.specs.Steps.{IsNew, IsReadFrom, Delivers}
use Rattle.share_core.specs.declared.events.Answer.{Answer}
use Rattle.share_core.proofs.ListFacts.{same_lists}
use Rattle.share_core.proofs.RefusedShares.{refusal_delivers}
use Rattle.share_core.proofs.delivering.deliver.Goals as goal

pub returns-in_ok-push-in-Ok-clause-ok : goal.returns-in_ok-push-in-Ok-clause-ok
returns-in_ok-push-in-Ok-clause-ok g c =
    let checked : Checked g.row.R.Denot g.row.R-Elem.Denot = c.in-Ok.checked in
    let granted = ap (λ (lists : Lists g.row.R.Denot g.row.R-Elem.Denot). lists.granted) c.lists.view_is in
    let counted = ap (λ (lists : Lists g.row.R.Denot g.row.R-Elem.Denot). lists.counted) c.lists.view_is in
    let told = c.in-Ok.ensures in (
      record {
        is_new = record {
          fits = c.fits.ensures.0 c.if-not-fits.false;
          fresh = λ h. let yes = c.is_counted.ensures.1 h in let no = c.if-is_counted.false in absurd (cc (yes, no));
        };
        result = told.whole;
        checked = checked;
        read = subst (λ (s : Setting g.row.R.Denot). IsReadFrom (g.R.Ring.value s.table.ring) s.table.ring c.args.share.now checked) c.setting.view_is
            (record { params = told.same.0; id = told.same.1; ring_is = told.same.2; rows = told.rows; combinations = told.combinations });
        lists = same_lists (c.in_ok-push-in-Ok.ensures.items ∙ ap (λ (list : List (Checked g.row.R.Denot g.row.R-Elem.Denot)). list ++ checked ∷ []) counted)
            (c.take_index.ensures ∙ ap (without_index c.args.share.now.id.index) granted);
      },
      refl,
    )

pub returns-in-Err-clause-ok : goal.returns-in-Err-clause-ok
returns-in-Err-clause-ok g c =
    let told = c.in-Err.ensures in
    let is_new : IsNew c.args.setting.now c.args.lists.now c.args.share.now = record {
      fits = c.fits.ensures.0 c.if-not-fits.false;
      fresh = λ h. let found = c.is_counted.ensures.1 h in let none = c.if-is_counted.false in absurd (cc (found, none));
    } in
    subst (λ (r : Result Answer AllocError). IfOk r
    (λ answer. Delivers (g.R.Ring.value c.args.setting.now.table.ring) c.args.setting.now c.args.lists.now c.args.share.now answer c.args.lists.now))
    (sym c.refused.ensures)
    (refusal_delivers (g.R.Ring.value c.args.setting.now.table.ring) c.args.setting.now c.args.lists.now c.args.share.now c.in-Err.fault is_new (record {
      bad_row = λ i e. told.bad_row i (ap Err e);
      not_reduced = λ i e. told.not_reduced i (ap Err e);
      missing = λ n rest e. told.missing n rest (ap Err e);
      residues = λ n rest e. told.rest_residues n rest (ap Err e);
      columns = λ n rest e. told.rest_columns n rest (ap Err e);
      no_word = λ value word e. told.no_word value word (ap Err e);
      no_relation = λ value n e. told.no_relation value n (ap Err e);
    }))
