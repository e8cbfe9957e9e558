use Rattle.std.proofs.Common.{◌+◌, ◌++◌, length, map, take, drop, ap, ◌∙◌, arith}
use Rattle.std.specs.Fmt.{decimal}
use Rattle.zeta_model.specs.Indices.{index_from}
use Rattle.dual_reply.proofs.KeptLemmas.{kept_trans}
use Rattle.dual_reply.proofs.TextLemmas.{rest_text, index-x, index-y}
use Rattle.dual_reply.proofs.text.push_index.Goals as goal
use Rattle.dual_reply.proofs.text.push_index.Goals.{in-X, in-Y+in_ok-push_part-in-Y}

pub loop-i-preserved : goal.loop-i-preserved
loop-i-preserved c =
    let l = c.loop-i in
    let m = c.match-letter in
    let word = c.args.word.now in
    elim c.match-letter.branch [
      | in-X w ↦ record {
        text = (λ j. (w.out-is j).items ++ rest_text 44 (w.first-is j) (map decimal (index_from m.run (drop (l.i + 1) word))))
            ∙ index-x l.out.items l.first l.run m.run l.i word _ w.run-is w.in-X.ensures l.invariant.text;
        small = omega arith;
        kept = ap (λ v. take (length c.args.out.now.items) v.items) w.out-is ∙ l.invariant.kept;
      }
      | in-Y+in_ok-push_part-in-Y w ↦ record {
        text = index-y l.out.items m.out.items l.first m.first l.run m.run l.i word _ (ap (λ v. v.items) w.out-is
            ∙ w.in_ok-push_part-in-Y.ensures.ok) w.first-is w.run-is w.in-Y.ensures l.invariant.text;
        small = omega arith;
        kept = kept_trans c.args.out.now.items l.out.items m.out.items l.invariant.kept (ap (λ v. take (length l.out.items) v.items) w.out-is
            ∙ w.push_part.ensures.kept);
      }
    ]
