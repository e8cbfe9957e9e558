use Rattle.std.proofs.Common.{◌≡◌, ℕ, ◌+◌, ◌<◌, ◌++◌, Bool, false, List, length, map, drop, get_or, suc, ap, sym, ◌∙◌, add-one}
use Rattle.std.proofs.Math.Seq.{drop-cons}
use Rattle.dual_reply.specs.Listing.{Entry}
use Rattle.dual_reply.specs.Reply.{entry_text, behind_byte}
use Rattle.dual_reply.proofs.KeptLemmas.{kept_trans}
use Rattle.dual_reply.proofs.TextLemmas.{rest_text, rest_text-step}
use Rattle.dual_reply.proofs.text.push_text.Goals as goal

step : (out out' : List ℕ) (first : Bool) (es : List Entry) (i : ℕ) (d : Entry) (whole : List ℕ) → i < length es → d ≡ get_or es i d
    → out' ≡ out ++ behind_byte 43 first (entry_text d) → out ++ rest_text 43 first (map entry_text (drop i es)) ≡ whole
    → out' ++ rest_text 43 false (map entry_text (drop (i + 1) es)) ≡ whole
step out out' first es i d whole l q e h =
    (λ j. out' ++ rest_text 43 false (map entry_text (drop (add-one i j) es)))
    ∙ rest_text-step 43 out out' first (entry_text (get_or es i d)) (map entry_text (drop (suc i) es)) whole (e
    ∙ ap (λ x. out ++ behind_byte 43 first (entry_text x)) q) (ap (λ xs. out ++ rest_text 43 first (map entry_text xs)) (sym (drop-cons es i d l)) ∙ h)

pub loop-entry-preserved : goal.loop-entry-preserved
loop-entry-preserved c = record {
  text = step c.loop-entry.out.items c.push_entry.new.out.items c.loop-entry.first c.args.entries.now c.loop-entry.entry-index c.entry-item.result _
      c.loop-entry-test.true c.entry-item.is c.in_ok-push_entry.ensures.ok c.loop-entry.invariant.text;
  kept = kept_trans c.args.out.now.items c.loop-entry.out.items c.push_entry.new.out.items c.loop-entry.invariant.kept c.push_entry.ensures.kept;
}
