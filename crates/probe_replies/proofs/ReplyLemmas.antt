-- A line has one reply.
use Rattle.std.proofs.Common.{◌≡◌, ℕ, List, Result, Ok, Err, refl, sym, ap, ◌∙◌, arith}
use Rattle.std.specs.Prelude.{OnOk, IfOk}
use Rattle.std.specs.declared.alloc.AllocError.{AllocError}
use Rattle.line_tokens.specs.Prefixes.{IsStop}
use Rattle.line_tokens.proofs.PrefixLemmas.{longest_is_one}
use Rattle.zeta_expr.specs.declared.fault.LineFault.{LineFault}
use Rattle.zeta_expr.specs.declared.fault.LineFault.TheVariants.{LineTooLong, Syntax, NoInverse, WeightIs, DepthIs, Memory}
use Rattle.zeta_expr.specs.Faults.{IsReadFault}
use Rattle.zeta_expr.specs.Forms.{TermForm}
use Rattle.zeta_expr.specs.Grammar.{IsLine}
use Rattle.zeta_expr.specs.LineMeaning.{LineMeaning, IsMeaning, too_long as line_too_long, no_line as not_a_line, reads as line_reads}
use Rattle.zeta_expr.specs.Readings.{IsReading}
use Rattle.zeta_expr.proofs.LineLemmas.{reading_is_one}
use Rattle.zeta_expr.proofs.OneMeaning.{some_meaning}
use Rattle.table_rewrite.specs.Replies.{fault_text}
use Rattle.probe_replies.specs.Replies.{value_text, IsProbeReply, too_long, no_line, reads}
use Rattle.probe_replies.specs.Inner.{reply_by, reply_of}

module _ (m n : ℕ) (line : List ℕ) where
  is_reply : (a : LineMeaning) (is : IsMeaning 0 0 0 line a) → IsProbeReply m n line (reply_by m n line a is)
  is_reply a (line_too_long long e) = too_long long refl
  is_reply a (not_a_line at short stop e) = no_line at short stop refl
  is_reply a (line_reads e short reading is) = reads e short reading refl

  -- the reply that the function gives
  pub some_reply : IsProbeReply m n line (reply_of m n line)
  unfolding reply_of
  some_reply = is_reply (some_meaning 0 0 0 line).0 (some_meaning 0 0 0 line).1

  not_both : {G : Type 0} (at : ℕ) (e : List TermForm) → IsStop IsLine line at → IsReading line e → G
  not_both at e stop r = absurd (stop.0 (r.0, r.1, r.2, r.3))

  pub one_reply : (a b : List ℕ) → IsProbeReply m n line a → IsProbeReply m n line b → a ≡ b
  one_reply a b (too_long l x) (too_long k y) = x ∙ sym y
  one_reply a b (too_long l x) (no_line at k s y) = absurd (omega arith)
  one_reply a b (too_long l x) (reads e k r y) = absurd (omega arith)
  one_reply a b (no_line at k s x) (too_long l y) = absurd (omega arith)
  one_reply a b (no_line at k s x) (no_line at' k' s' y) = x ∙ ap (λ n. fault_text (Syntax n)) (longest_is_one IsLine line at at' s.1 s'.1) ∙ sym y
  one_reply a b (no_line at k s x) (reads e k' r y) = not_both at e s r
  one_reply a b (reads e k r x) (too_long l y) = absurd (omega arith)
  one_reply a b (reads e k r x) (no_line at k' s y) = not_both at e s r
  one_reply a b (reads e k r x) (reads f k' r' y) = x ∙ ap (value_text m n) (reading_is_one line e f r r') ∙ sym y

  -- a line that is not read
  pub refused_reply : (fault : LineFault) (bytes : List ℕ) → IsReadFault line fault → ((e : AllocError) → fault ≡ Memory e → ⊥)
      → bytes ≡ fault_text fault → IsProbeReply m n line bytes
  refused_reply LineTooLong bytes h other is = too_long h is
  refused_reply (Syntax at) bytes h other is = no_line at h.0 h.1 is
  refused_reply (NoInverse b) bytes h other is = absurd h
  refused_reply (WeightIs k) bytes h other is = absurd h
  refused_reply (DepthIs k) bytes h other is = absurd h
  refused_reply (Memory e) bytes h other is = absurd (other e refl)

-- what is told of Ok, and a fact on its value
pub told_ok : {T E : Type 0} (P Q : T → Type 0) (M : Type 0) (r : Result T E) → ((x : T) → M → P x → Q x) → OnOk r M → IfOk r P → IfOk r Q
told_ok P Q M (Ok x) f m p = f x m p
told_ok P Q M (Err e) f m p = p
