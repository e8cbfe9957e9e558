use Rattle.std.proofs.Common.{◌<◌, List, length, string_bytes, sym, subst, ◌∙◌}
use Rattle.std.proofs.lemmas.Result.{IfOk-weaker}
use Rattle.zeta_model.specs.declared.Letter.{Letter}
use Rattle.datamine_program.proofs.Samples.{is_sample_text, some_words}
use Rattle.datamine_program.proofs.sample.sample_text.Goals as goal

pub sample_replies-requires : goal.sample_replies-requires
sample_replies-requires g c =
    let params = c.args.params.now in
    record {
      words = subst (λ (ws : List (List Letter)). 0 < length ws) (sym (c.deref.ensures.value ∙ c.in_ok-words.ensures))
          (some_words params.weight params.depth c.requires.params.weight_from c.requires.params.depth_from);
    }

pub returns : goal.returns
returns g c =
    let params = c.args.params.now in
    let ready = c.args.ready.now in
    let sampled = c.in_ok-sampled.sampled in
    let told = c.in_ok-sampled.ensures in
    IfOk-weaker c.counts_line.result _ _
    (λ text. is_sample_text params ready.rows ready.columns c.args.count sampled.zero sampled.distinct sampled.terms _ c.deref.result.now c.args.seed
    (c.deref.ensures.value ∙ c.in_ok-words.ensures) told.zero told.distinct told.terms (string_bytes text)) c.counts_line.ensures
