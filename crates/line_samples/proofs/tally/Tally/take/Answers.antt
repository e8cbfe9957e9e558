use Rattle.std.proofs.Common.{◌≡◌, ◌+◌, cond, ap, sym, subst, ◌∙◌, add-zero}
use Rattle.line_samples.specs.Counts.{is_zero_text, terms_in}
use Rattle.line_samples.specs.Inner.{IsTallyOf}
use Rattle.line_samples.proofs.CountLemmas.{IsTallyOf-push}
use Rattle.line_samples.proofs.tally.Tally.take.Goals as goal
use Rattle.line_samples.proofs.tally.Tally.take.Goals.{then-is_zero_text, else-is_zero_text}

zero_is : (c : goal.In_ok-insert) → c.if-is_zero_text.self.zero ≡ c.args.self.now.zero + cond (is_zero_text c.args.reply.now) 1 0
zero_is c = elim c.if-is_zero_text.branch [
  | then-is_zero_text w ↦
      ap (λ s. s.zero) w.self-is ∙ ap (λ b. c.args.self.now.zero + cond b 1 0) (sym w.if-is_zero_text.true ∙ c.is_zero_text.ensures)
  | else-is_zero_text w ↦
      let same = ap (λ b. c.args.self.now.zero + cond b 1 0) (sym w.if-is_zero_text.false ∙ c.is_zero_text.ensures) in
      ap (λ s. s.zero) w.self-is ∙ sym (add-zero c.args.self.now.zero) ∙ same
]

seen_is : (c : goal.In_ok-insert) → c.if-is_zero_text.self.seen ≡ c.args.self.now.seen
seen_is c = elim c.if-is_zero_text.branch [ then-is_zero_text w ↦ ap (λ s. s.seen) w.self-is | else-is_zero_text w ↦ ap (λ s. s.seen) w.self-is ]

terms_are : (c : goal.In_ok-insert) → c.if-is_zero_text.self.terms ≡ c.in-Some.terms
terms_are c = elim c.if-is_zero_text.branch [ then-is_zero_text w ↦ ap (λ s. s.terms) w.self-is | else-is_zero_text w ↦ ap (λ s. s.terms) w.self-is ]

terms_is : (c : goal.In_ok-insert) → c.if-is_zero_text.self.terms ≡ c.args.self.now.terms + terms_in c.args.reply.now
terms_is c = terms_are c ∙ c.in-Some.ensures.1 ∙ ap (λ n. c.args.self.now.terms + n) c.terms_in-more.ensures

pub returns-clause-ok : goal.returns-clause-ok
returns-clause-ok c = λ replies t.
    let k = c.if-is_zero_text.self in
    let e = c.in_ok-insert.ensures in
    IsTallyOf-push replies c.args.reply.now k.seen c.insert.new.self c.args.self.now.zero k.zero c.args.self.now.terms k.terms
    c.in_ok-kept.kept c.in_ok-insert.field-0
    (subst (λ s. IsTallyOf replies s c.args.self.now.zero c.args.self.now.terms) (sym (seen_is c)) t)
    (zero_is c) (terms_is c) c.in_ok-kept.ensures.items e.added e.keys e.len
