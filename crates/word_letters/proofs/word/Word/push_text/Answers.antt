use Rattle.std.proofs.Common.{◌∷◌, sym, ap, ◌∙◌, arith}
use Rattle.std.specs.Prelude.{codes, string_bytes}
use Rattle.std.proofs.Math.Seq.{take-length}
use Rattle.zeta_model.specs.Words.{has_index}
use Rattle.zeta_model.specs.Indices.{index_of}
use Rattle.word_letters.specs.Inner.{part_text}
use Rattle.word_letters.proofs.IndexTexts.{kept-more, kept-through, part-written, text-opened, text-closed}
use Rattle.word_letters.proofs.IndexLemmas.{has_index-ends}
use Rattle.word_letters.proofs.word.Word.push_text.Goals as goal

pub loop-rest-init : goal.loop-rest-init
loop-rest-init c =
    let old = string_bytes c.args.text.now in
    record {
      index = has_index-ends c.args.self c.requires;
      text = text-opened old _ c.args.self c.in_ok-push_str.ensures.bytes;
      kept = kept-more old old _ (codes "z(") c.in_ok-push_str.ensures.bytes (take-length old);
    }

pub loop-rest-preserved : goal.loop-rest-preserved
loop-rest-preserved c =
    let k = c.first_number-k.result in
    let rest = c.without_front-rest.ensures in
    let text = string_bytes c.loop-rest.text in
    record {
      index = ap has_index rest ∙ c.first_number-k.ensures.rest;
      text = part-written text _ _ c.loop-rest.first k (index_of c.loop-rest.rest) (index_of c.without_front-rest.result) c.in_ok-push_part.ensures.ok
          (c.first_number-k.ensures.first ∙ ap (λ w. k ∷ index_of w) (sym rest)) c.loop-rest.invariant.text;
      kept = kept-more (string_bytes c.args.text.now) text _ (part_text c.loop-rest.first k) c.in_ok-push_part.ensures.ok c.loop-rest.invariant.kept;
    }

pub returns-in_err-push_part-clause-kept : goal.returns-in_err-push_part-clause-kept
returns-in_err-push_part-clause-kept c =
    kept-through (string_bytes c.args.text.now) (string_bytes c.loop-rest.text) _ c.loop-rest.invariant.kept c.push_part.ensures.kept

pub returns-clause-ok : goal.returns-clause-ok
returns-clause-ok c =
    text-closed (string_bytes c.loop-rest.text) _ _ c.loop-rest.first c.loop-rest.rest
    (omega arith) c.in_ok-push_str-2.ensures.bytes c.loop-rest.invariant.text

pub returns-clause-kept : goal.returns-clause-kept
returns-clause-kept c = kept-more (string_bytes c.args.text.now) (string_bytes c.loop-rest.text) _
    (codes ")") c.in_ok-push_str-2.ensures.bytes c.loop-rest.invariant.kept
