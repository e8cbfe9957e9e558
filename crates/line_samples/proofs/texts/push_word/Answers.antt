use Rattle.std.proofs.Common.{◌++◌, ap, ◌∙◌, arith, Some}
use Rattle.std.specs.Prelude.{string_bytes}
use Rattle.zeta_model.specs.Indices.{word_text}
use Rattle.word_letters.proofs.IndexTexts.{text-opened}
use Rattle.line_samples.proofs.TextLemmas.{begun-x, begun-y, begun-end}
use Rattle.line_samples.proofs.texts.push_word.Goals as goal
use Rattle.line_samples.proofs.texts.push_word.Goals.{in-X, in-Y+in_ok-push_part-in-Y}

pub loop-i-init : goal.loop-i-init
loop-i-init c = record {
  small = omega arith;
  begun = record { text = text-opened (string_bytes c.args.line.now) _ c.args.word c.in_ok-push_str.ensures.bytes };
}

pub loop-i-preserved : goal.loop-i-preserved
loop-i-preserved c =
    let whole = string_bytes c.args.line.now ++ word_text c.args.word in
    let l = c.loop-i in
    elim c.match-letter.branch [
      | in-X w ↦ record {
        small = omega arith;
        begun = rw (w.line-is, w.first-is, w.k-is) (begun-x whole (string_bytes l.line) l.first l.k l.i c.args.word
            (c.letter.ensures ∙ ap Some w.in-X.is) l.invariant.begun);
      }
      | in-Y+in_ok-push_part-in-Y w ↦ record {
        small = omega arith;
        begun = rw (w.line-is, w.first-is, w.k-is) (begun-y whole (string_bytes l.line) _ l.first l.k l.i c.args.word (c.letter.ensures ∙ ap Some w.in-Y.is)
            w.in_ok-push_part-in-Y.ensures l.invariant.begun);
      }
    ]

pub returns : goal.returns
returns c =
    let l = c.loop-i in
    begun-end (string_bytes c.args.line.now ++ word_text c.args.word) (string_bytes l.line) _ l.first l.k l.i c.args.word (omega arith)
    c.in_ok-push_str-2.ensures.bytes l.invariant.begun
