-- A line has one meaning.
use Rattle.std.proofs.Common.{◌≡◌, ℕ, ◌<◌, ◌≤◌, ◌⊎◌, inl, inr, Bool, true, false, List, length, map, ◌∷◌, refl, sym, ap, ◌∙◌, arith}
use Rattle.std.proofs.lemmas.Bool.{cases_lt}
use Rattle.line_tokens.specs.declared.spots.Spot.TheVariants.{Between}
use Rattle.line_tokens.specs.Machine.{accepts, passed}
use Rattle.line_tokens.specs.Prefixes.{IsStop}
use Rattle.line_tokens.proofs.PrefixLemmas.{longest_passed, longest_is_one}
use Rattle.zeta_expr.specs.declared.fault.LineFault.TheVariants.{LineTooLong, Syntax}
use Rattle.zeta_expr.specs.declared.place.Place.TheVariants.{Start}
use Rattle.zeta_expr.specs.Forms.{TermForm}
use Rattle.zeta_expr.specs.Places.{places}
use Rattle.zeta_expr.specs.Tails.{tails}
use Rattle.zeta_expr.specs.Grammar.{IsLine}
use Rattle.zeta_expr.specs.Readings.{term_of, IsReading}
use Rattle.zeta_expr.specs.LineMeaning.{LineMeaning, refused, meaning_of, IsMeaning, too_long, no_line, reads}
use Rattle.zeta_expr.proofs.LineLemmas.{line_accepted, accepted_line, reading_is_one}

module _ (m w d : ℕ) (line : List ℕ) where
  abbrev Some_meaning : Type 0
  Some_meaning = (a : LineMeaning) × IsMeaning m w d line a

  of_short : length line ≤ 4096 → (b : Bool) → accepts places (Between Start) line ≡ b → Some_meaning
  of_short short true h =
      let l = accepted_line line h in
      let e = map term_of (l.1 ∷ l.2) in
      (meaning_of m w d e, reads e short (l.0, l.1, l.2, l.3, refl) refl)
  of_short short false h =
      let at = passed places (Between Start) line in
      let longest = longest_passed places tails IsLine (Between Start) (λ bytes. (λ l. line_accepted bytes l, λ a. accepted_line bytes a)) line in
      let none : IsLine line → ⊥ = λ l. let a = line_accepted line l in let f : true ≡ false = sym a ∙ h in cc in
      (refused (Syntax at), no_line at short (none, longest) refl)

  pub some_meaning : Some_meaning
  some_meaning = by (cases_lt 4096 (length line))
    where
      by : (4096 < length line) ⊎ (length line ≤ 4096) → Some_meaning
      by (inl long) = (refused LineTooLong, too_long long refl)
      by (inr short) = of_short short (accepts places (Between Start) line) refl

  not_both : {G : Type 0} (at : ℕ) (e : List TermForm) → IsStop IsLine line at → IsReading line e → G
  not_both at e stop r = absurd (stop.0 (r.0, r.1, r.2, r.3))

  pub one_meaning : (a b : LineMeaning) → IsMeaning m w d line a → IsMeaning m w d line b → a ≡ b
  one_meaning a b (too_long l x) (too_long k y) = x ∙ sym y
  one_meaning a b (too_long l x) (no_line at k s y) = absurd (omega arith)
  one_meaning a b (too_long l x) (reads e k r y) = absurd (omega arith)
  one_meaning a b (no_line at k s x) (too_long l y) = absurd (omega arith)
  one_meaning a b (no_line at k s x) (no_line at' k' s' y) =
      x ∙ ap (λ n. refused (Syntax n)) (longest_is_one IsLine line at at' s.1 s'.1) ∙ sym y
  one_meaning a b (no_line at k s x) (reads e k' r y) = not_both at e s r
  one_meaning a b (reads e k r x) (too_long l y) = absurd (omega arith)
  one_meaning a b (reads e k r x) (no_line at k' s y) = not_both at e s r
  one_meaning a b (reads e k r x) (reads f k' r' y) = x ∙ ap (meaning_of m w d) (reading_is_one line e f r r') ∙ sym y
