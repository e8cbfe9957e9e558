use Rattle.std.proofs.Common.{◌∙◌, List, ℕ, refl, sym, subst, inl}
use Rattle.merge_program.specs.declared.status.MergeStatus.TheVariants as status
use Rattle.merge_program.specs.ShareRuns.{Ends, IsShareBytes}
use Rattle.merge_program.specs.Inner.HasRun.{ended}
use Rattle.merge_program.proofs.Endings.{ends_after}
use Rattle.merge_program.proofs.share.write_share.Goals as goal

pub returns : goal.returns
returns g c =
    let share = c.args.share.now in
    let bytes : List ℕ = c.deref.result.now in
    let are : IsShareBytes c.args.words.now bytes = record {
      share = share;
      params = c.requires.params;
      id = c.requires.id;
      is_share = c.requires.share;
      is_result = c.requires.result;
      through = c.requires.through;
      spelled = c.deref.ensures.value ∙ c.in-Ok.ensures;
    } in
    ended bytes status.Done (inl (are, refl))
    (subst (Ends bytes status.Done _ _ _ _) (sym c.end_after.ensures)
    (ends_after bytes status.Done _ _ _ _ c.write_all-written.result c.write_all-written.ensures.ok c.write_all-written.ensures.err c.write_all-written.ensures.cause))
