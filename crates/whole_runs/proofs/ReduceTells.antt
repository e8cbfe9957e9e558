-- Where `reduce` ends with status 0, its replies tell classes.
use Rattle.std.specs.Prelude.{◌≡◌, ℕ, List, Option, Ok}
use Rattle.std.proofs.Common.{◌∙◌, ap, subst, inl, inr, arith}
use Rattle.column_order.specs.Columns.{ColumnList}
use Rattle.outside_io.specs.Told.{after_told}
use Rattle.page_codec.specs.declared.params.Params.{Params}
use Rattle.page_codec.specs.Bounds.{IsParams}
use Rattle.table_rewrite.specs.Telling.{TellsClasses}
use Rattle.table_rewrite.proofs.LineReplies.{classes_told}
use Rattle.whole_runs.specs.declared.command.Command.TheVariants.{Reduce}
use Rattle.whole_runs.specs.declared.status.Status.{Status}
use Rattle.whole_runs.specs.declared.status.Status.TheVariants as status
use Rattle.whole_runs.specs.Statuses.{BreaksOff}
use Rattle.file_model.specs.TableOf.{IsTableOf}
use Rattle.whole_runs.specs.Works.{Work, output_of, status_of, IsOverRows, IsOverTable, RepliesBy}
use Rattle.whole_runs.specs.Works.IsOverRows.{no_inverse, broken, whole}
use Rattle.whole_runs.specs.Outcomes.{Outcome, RepliesTell}

pub not_broken_off : BreaksOff status.Done → ⊥
not_broken_off (inl e) = cc
not_broken_off (inr (inl e)) = cc
not_broken_off (inr (inr (inl e))) = cc
not_broken_off (inr (inr (inr e))) = cc

no_fault : ◌≡◌ {A = Status} status.Done status.NoInverse → ⊥
no_fault e = cc

module _ (params : Params) (fits : IsParams params) (contents left taken taken_new : Option (List ℕ))
    (o : Outcome (Ok (Reduce params)) contents left taken taken_new status.Done) where
  by_rows : (columns : ColumnList) → IsTableOf params columns → (work : Work) → IsOverRows params.modulus columns (RepliesBy params.modulus) work
      → taken_new ≡ after_told taken (output_of work o.input) → status.Done ≡ status_of work o.input → RepliesTell params left taken taken_new
  by_rows columns of work (no_inverse u r f x) wrote end = absurd (no_fault (end ∙ ap (λ v. status_of v o.input) x))
  by_rows columns of work (broken c n r l b x) wrote end = absurd (no_fault (end ∙ ap (λ v. status_of v o.input) x))
  by_rows columns of work (whole c un count lead rows h x) wrote end = record {
    input = o.input;
    told = o.told;
    reply = x.reply;
    wrote = wrote ∙ ap (λ v. after_told taken (output_of v o.input)) x.is;
    tells = let told : TellsClasses params.modulus columns.weight columns.depth x.reply =
        classes_told params.modulus columns of.table (let to = fits.modulus_to in omega arith) count lead rows h x.reply x.replies in
        subst (λ d. TellsClasses params.modulus params.weight d x.reply) of.depth
        (subst (λ w. TellsClasses params.modulus w columns.depth x.reply) of.weight told);
  }

pub reduce_tells : (params : Params) (contents left taken taken_new : Option (List ℕ)) → IsParams params
    → Outcome (Ok (Reduce params)) contents left taken taken_new status.Done → RepliesTell params left taken taken_new
reduce_tells params contents left taken taken_new fits o = elim (o.whole (λ names. absurd names, λ pages. absurd cc)) [
  | inl b ↦ absurd (not_broken_off b)
  | inr (work, is, wrote, end) ↦
      let over : IsOverTable params (RepliesBy params.modulus) work = is in
      by_rows params fits contents left taken taken_new o over.columns over.are_columns work over.by_rows wrote end
]
