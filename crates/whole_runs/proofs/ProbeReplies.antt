-- A line has one reply by truncated sums.
use Rattle.std.specs.Prelude.{◌≡◌, ℕ, List}
use Rattle.std.proofs.Common.{refl, sym, ap, ◌∙◌, arith}
use Rattle.line_tokens.specs.Prefixes.{IsStop}
use Rattle.line_tokens.proofs.PrefixLemmas.{longest_is_one}
use Rattle.zeta_expr.specs.declared.fault.LineFault.TheVariants.{LineTooLong, Syntax}
use Rattle.zeta_expr.specs.Forms.{TermForm}
use Rattle.zeta_expr.specs.Grammar.{IsLine}
use Rattle.zeta_expr.specs.Readings.{IsReading}
use Rattle.zeta_expr.specs.LineMeaning.{LineMeaning, IsMeaning}
use Rattle.zeta_expr.specs.LineMeaning.IsMeaning.{too_long as line_too_long, no_line as line_no_line, reads as line_reads}
use Rattle.zeta_expr.proofs.OneMeaning.{some_meaning}
use Rattle.zeta_expr.proofs.LineLemmas.{reading_is_one}
use Rattle.table_rewrite.specs.Replies.{fault_text}
use Rattle.probe_replies.specs.Replies.{value_text, IsProbeReply}
use Rattle.probe_replies.specs.Replies.IsProbeReply.{too_long, no_line, reads}

module _ (m n : ℕ) (line : List ℕ) where
  -- each meaning of a line, whatever the weight and the depth, tells whether it is read
  reply_from : (a : LineMeaning) → IsMeaning 0 0 0 line a → (bytes : List ℕ) × IsProbeReply m n line bytes
  reply_from a (line_too_long long e) = (fault_text LineTooLong, too_long long refl)
  reply_from a (line_no_line at short stop e) = (fault_text (Syntax at), no_line at short stop refl)
  reply_from a (line_reads terms short reading e) = (value_text m n terms, reads terms short reading refl)

  pub some_probe_reply : (bytes : List ℕ) × IsProbeReply m n line bytes
  some_probe_reply = let meaning = some_meaning 0 0 0 line in reply_from meaning.0 meaning.1

  not_both : {G : Type 0} (at : ℕ) (e : List TermForm) → IsStop IsLine line at → IsReading line e → G
  not_both at e stop r = absurd (stop.0 (r.0, r.1, r.2, r.3))

  pub one_probe_reply : (a b : List ℕ) → IsProbeReply m n line a → IsProbeReply m n line b → a ≡ b
  one_probe_reply a b (too_long l x) (too_long k y) = x ∙ sym y
  one_probe_reply a b (too_long l x) (no_line at k s y) = absurd (omega arith)
  one_probe_reply a b (too_long l x) (reads e k r y) = absurd (omega arith)
  one_probe_reply a b (no_line at k s x) (too_long l y) = absurd (omega arith)
  one_probe_reply a b (no_line at k s x) (no_line stop l t y) =
      x ∙ ap (λ p. fault_text (Syntax p)) (longest_is_one IsLine line at stop s.1 t.1) ∙ sym y
  one_probe_reply a b (no_line at k s x) (reads e l r y) = not_both at e s r
  one_probe_reply a b (reads e k r x) (too_long l y) = absurd (omega arith)
  one_probe_reply a b (reads e k r x) (no_line at l s y) = not_both at e s r
  one_probe_reply a b (reads e k r x) (reads f l t y) = x ∙ ap (value_text m n) (reading_is_one line e f r t) ∙ sym y
