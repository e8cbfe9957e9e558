-- The answers of the reader.
use Rattle.std.proofs.Common.{◌≡◌, ℕ, ◌≤◌, Result, Err, Some, List, length, sym, ap, subst, ◌∙◌}
use Rattle.std.specs.Prelude.{◌↔◌, IsErrOf}
use Rattle.line_tokens.specs.declared.spots.Spot.TheVariants.{Between}
use Rattle.line_tokens.specs.Machine.{read}
use Rattle.line_tokens.specs.Prefixes.{IsStop, Accepted}
use Rattle.line_tokens.proofs.PrefixLemmas.{stop_in_words, longest_is_one}
use Rattle.zeta_expr.specs.declared.fault.LineFault.{LineFault}
use Rattle.zeta_expr.specs.declared.fault.LineFault.TheVariants.{Syntax}
use Rattle.zeta_expr.specs.declared.place.Place.TheVariants.{Start}
use Rattle.zeta_expr.specs.Places.{places}
use Rattle.zeta_expr.specs.Drafts.{DraftForm, maker, start}
use Rattle.zeta_expr.specs.Grammar.{IsLine}
use Rattle.zeta_expr.specs.Readings.{IsReading}
use Rattle.zeta_expr.proofs.LineLemmas.{line_same, accepted_line, line_read}

module _ (line : List ℕ) where
  pub stop_of_line : (at : ℕ) → IsStop (Accepted places Start) line at → IsStop IsLine line at
  stop_of_line at s = stop_in_words (Accepted places Start) IsLine line_same line at s

  pub syntax_told : {T : Type 0} (at : ℕ) → length line ≤ 4096 → IsStop (Accepted places Start) line at → (k : ℕ) → IsErrOf {T = T} {E =
      LineFault} (Err (Syntax at)) (Syntax k) ↔ ((length line ≤ 4096) × IsStop IsLine line k)
  syntax_told {T = T} at l s k =
      let r = stop_of_line at s in (
        λ e. let f : at ≡ k = cc in (l, subst (λ n. IsStop IsLine line n) f r),
        λ t. let f : at ≡ k = longest_is_one IsLine line at k r.1 t.1.1 in let g : (n : ℕ) → Result T LineFault = λ n. Err (Syntax n) in ap g f,
      )

  pub no_syntax : {T : Type 0} (r : Result T LineFault) → Accepted places Start line → ((k : ℕ) → r ≡ Err (Syntax k) → ⊥) → (k : ℕ)
      → IsErrOf r (Syntax k) ↔ ((length line ≤ 4096) × IsStop IsLine line k)
  no_syntax r a n k = (λ e. absurd (n k e), λ t. absurd (t.1.0 (accepted_line line a)))

  pub reading_made : (made : DraftForm) → Accepted places Start line → read places maker (Between Start) 0 start line ≡ Some made
      → IsReading line made.terms
  reading_made made a e =
      let l = accepted_line line a in
      let r = line_read l.0 l.1 l.2 line l.3 in
      let same : made ≡ r.0 = let g : Some made ≡ Some r.0 = sym e ∙ r.1 in cc in
      (l.0, l.1, l.2, l.3, ap (λ (d : DraftForm). d.terms) same ∙ r.2)
