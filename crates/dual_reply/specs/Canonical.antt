-- What the replies tell of the lines.
use Rattle.std.specs.Prelude.{◌≡◌, ◌⊎◌, ℕ, ◌↔◌, true, false, List, map}
use Rattle.dual_reply.specs.Grammar.{Term, IsAccepted}
use Rattle.dual_reply.specs.Refusals.{IsRefused, begins_with_digit}
use Rattle.dual_reply.specs.Sums.{signed_of, word_sum, IsDualSum}
use Rattle.zeta_model.specs.Sums.{difference}
use Rattle.dual_reply.specs.Listing.{Entry, IsListing}
use Rattle.dual_reply.specs.Reply.{sum_text, refusal_text, reply_of}
use Rattle.dual_reply.specs.declared.refusal.Refusal.{Refusal}

-- two accepted lines get the same reply exactly where their sums differ by duality
abbrev pub IsCanonical : ℕ → Type 0
IsCanonical m =
    (l1 l2 : List ℕ) (t1 t2 : List Term)
    → IsAccepted t1 l1
    → IsAccepted t2 l2
    → (reply_of m l1 ≡ reply_of m l2) ↔ IsDualSum m (difference m (word_sum m (map signed_of t1)) (word_sum m (map signed_of t2)))

-- each line that is refused gets the text of its refusal
abbrev pub IsExact : ℕ → Type 0
IsExact m = (line : List ℕ) (refusal : Refusal) → IsRefused line refusal → reply_of m line ≡ refusal_text refusal

-- each line is accepted or refused
abbrev pub IsWhole : Type 0
IsWhole = (line : List ℕ) → ((terms : List Term) × IsAccepted terms line) ⊎ ((refusal : Refusal) × IsRefused line refusal)

-- no accepted line is refused, and no line is twice
abbrev pub IsOnce : Type 0
IsOnce = (line : List ℕ) (refusal : Refusal) → IsRefused line refusal
    → ((terms : List Term) → IsAccepted terms line → ⊥) × ((other : Refusal) → IsRefused line other → refusal ≡ other)

-- the reply to an accepted line begins with a digit, and the text of no refusal does
abbrev pub IsApart : ℕ → Type 0
IsApart m =
    ((line : List ℕ) (terms : List Term) → IsAccepted terms line → begins_with_digit (reply_of m line) ≡ true)
    × ((refusal : Refusal) → begins_with_digit (refusal_text refusal) ≡ false)

-- an accepted line gets the text of the one listing of its folded sum
abbrev pub IsFolded : ℕ → Type 0
IsFolded m = (line : List ℕ) (terms : List Term) → IsAccepted terms line
    → (es : List Entry) × IsListing m (map signed_of terms) es × (reply_of m line ≡ sum_text es)

-- the text of a listing determines it
abbrev pub IsTold : ℕ → Type 0
IsTold m = (l1 l2 : List ℕ) (t1 t2 : List Term) (e1 e2 : List Entry) → IsAccepted t1 l1 → IsAccepted t2 l2 → IsListing m (map signed_of t1) e1
    → IsListing m (map signed_of t2) e2 → sum_text e1 ≡ sum_text e2 → e1 ≡ e2

-- what the replies modulo m tell: two accepted lines get the same reply exactly where their sums differ by duality; each line is accepted
-- or has one refusal, whose text it gets; only replies to accepted lines begin with a digit; an accepted line gets the text of the one
-- listing of its folded sum; and that text determines the listing
pub record TellsSums (m : ℕ) : Type 0 where
  pub canonical : IsCanonical m
  pub exact : IsExact m
  pub whole : IsWhole
  pub once : IsOnce
  pub apart : IsApart m
  pub folded : IsFolded m
  pub told : IsTold m
