-- What the reader accepts are the lines of the grammar, and what it makes of one.
use Rattle.std.proofs.Common.{◌≡◌, ℕ, Bool, Option, None, Some, List, ◌∷◌, map, sym, ap, subst, ◌∙◌}
use Rattle.std.specs.Prelude.{◌↔◌, is_some}
use Rattle.line_tokens.specs.declared.spots.Spot.TheVariants.{Between}
use Rattle.line_tokens.specs.Tokens.{IsSpelled}
use Rattle.line_tokens.specs.Machine.{read}
use Rattle.line_tokens.specs.Prefixes.{Accepted}
use Rattle.line_tokens.proofs.SoundMachine.{accepted_taken}
use Rattle.line_tokens.proofs.CompleteMachine.{is_some-read, tokens_read}
use Rattle.dual_reply.specs.Grammar.{WrittenZeta, line_tokens, IsLineOf, IsLine, term_of}
use Rattle.dual_reply.specs.Inner.{DraftForm, maker, start}
use Rattle.dual_reply.specs.Places.{places}
use Rattle.dual_reply.specs.Tails.{alternating}
use Rattle.dual_reply.specs.declared.place.Place.TheVariants.{Start}
use Rattle.dual_reply.proofs.HeavyTerms.{lights, heavies}
use Rattle.dual_reply.proofs.MadeLines.{line_made}
use Rattle.dual_reply.proofs.SoundGrammar.{taken_rest}

abbrev pub made_of_line : List ℕ → Option DraftForm
made_of_line line = read places maker (Between Start) 0 start line

-- what is made of a line
pub line_read : (with_sign : Bool) (z : WrittenZeta) (zs : List WrittenZeta) (line : List ℕ) → IsLineOf with_sign z zs line
    → (out : DraftForm) × (made_of_line line ≡ Some out) × (out.terms ≡ lights (map term_of (z ∷ zs))) × (out.heavy ≡ heavies None (map term_of (z ∷ zs)))
line_read with_sign z zs line l =
    let m = line_made with_sign z zs l.formed l.sign in
    (m.0, tokens_read places maker alternating (line_tokens with_sign z zs) Start 0 start m.0 line m.1 l.spelled, m.2, m.3)

pub line_accepted : (line : List ℕ) → IsLine line → Accepted places Start line
line_accepted line l =
    let r = line_read l.0 l.1 l.2 line l.3 in
    sym (is_some-read places maker line (Between Start) 0 start) ∙ ap is_some r.1

pub accepted_line : (line : List ℕ) → Accepted places Start line → IsLine line
accepted_line line h =
    let t = accepted_taken places line (Between Start) h in
    let l = taken_rest t.0 Start t.1 in
    (l.0, l.1, l.2, record { formed = l.3; sign = l.4; spelled = subst (λ tokens. IsSpelled tokens line) l.5 t.2 })

pub line_same : (line : List ℕ) → IsLine line ↔ Accepted places Start line
line_same line = (line_accepted line, accepted_line line)

pub same_line : (line : List ℕ) → Accepted places Start line ↔ IsLine line
same_line line = (accepted_line line, line_accepted line)
