-- What the reader accepts are the lines of the grammar, and what it makes of one is what it spells.
use Rattle.std.proofs.Common.{◌≡◌, ℕ, Bool, Some, List, ◌∷◌, map, sym, ap, subst, ◌∙◌}
use Rattle.std.specs.Prelude.{◌↔◌, is_some}
use Rattle.line_tokens.specs.declared.spots.Spot.TheVariants.{Between}
use Rattle.line_tokens.specs.Tokens.{IsSpelled}
use Rattle.line_tokens.specs.Machine.{read}
use Rattle.line_tokens.specs.Prefixes.{Accepted}
use Rattle.line_tokens.proofs.SoundMachine.{accepted_taken}
use Rattle.line_tokens.proofs.CompleteMachine.{is_some-read, tokens_read}
use Rattle.zeta_expr.specs.Tails.{alternating}
use Rattle.zeta_expr.specs.declared.place.Place.TheVariants.{Start}
use Rattle.zeta_expr.specs.Places.{places}
use Rattle.zeta_expr.specs.Forms.{TermForm}
use Rattle.zeta_expr.specs.Drafts.{DraftForm, maker, start}
use Rattle.zeta_expr.specs.Grammar.{WrittenTerm, line_tokens, IsLineOf, IsLine}
use Rattle.zeta_expr.specs.Readings.{term_of, IsReading}
use Rattle.zeta_expr.proofs.SoundGrammar.{taken_rest}
use Rattle.zeta_expr.proofs.CompleteGrammar.{line_made}

-- what is made of a line
pub line_read : (with_sign : Bool) (t : WrittenTerm) (ts : List WrittenTerm) (bytes : List ℕ) → IsLineOf with_sign t ts bytes
    → (out : DraftForm) × (read places maker (Between Start) 0 start bytes ≡ Some out) × (out.terms ≡ map term_of (t ∷ ts))
line_read with_sign t ts bytes l =
    let m = line_made with_sign t ts l.formed l.sign in
    (m.0, tokens_read places maker alternating (line_tokens with_sign t ts) Start 0 start m.0 bytes m.1 l.spelled, m.2)

pub line_accepted : (bytes : List ℕ) → IsLine bytes → Accepted places Start bytes
line_accepted bytes l =
    let r = line_read l.0 l.1 l.2 bytes l.3 in
    sym (is_some-read places maker bytes (Between Start) 0 start) ∙ ap is_some r.1

pub accepted_line : (bytes : List ℕ) → Accepted places Start bytes → IsLine bytes
accepted_line bytes h =
    let t = accepted_taken places bytes (Between Start) h in
    let l = taken_rest t.0 Start t.1 in
    (l.0, l.1, l.2, record { formed = l.3; sign = l.4; spelled = subst (λ tokens. IsSpelled tokens bytes) l.5 t.2 })

pub line_same : (bytes : List ℕ) → Accepted places Start bytes ↔ IsLine bytes
line_same bytes = (accepted_line bytes, line_accepted bytes)

-- a line has one reading
pub reading_is_one : (bytes : List ℕ) (e f : List TermForm) → IsReading bytes e → IsReading bytes f → e ≡ f
reading_is_one bytes e f r s =
    let a = line_read r.0 r.1 r.2 bytes r.3 in
    let b = line_read s.0 s.1 s.2 bytes s.3 in
    let same : a.0 ≡ b.0 = let g : Some a.0 ≡ Some b.0 = sym a.1 ∙ b.1 in cc in
    r.4 ∙ sym a.2 ∙ ap (λ (d : DraftForm). d.terms) same ∙ b.2 ∙ sym s.4
