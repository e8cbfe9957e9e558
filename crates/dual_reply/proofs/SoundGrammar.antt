-- The tokens that lead from the start to an end are those of a line of the grammar.
use Rattle.std.proofs.Common.{◌≡◌, ℕ, Bool, true, false, List, [], ◌∷◌, refl, ap, ◌∙◌}
use Rattle.std.specs.List.{AllByRecursion}
use Rattle.line_tokens.specs.declared.marks.Mark.{Mark}
use Rattle.line_tokens.specs.declared.marks.Mark.TheVariants.{Plus, Minus, Open, Close, Comma, Letter}
use Rattle.line_tokens.specs.Tokens.{Token, mark, run}
use Rattle.line_tokens.specs.Machine.{takes}
use Rattle.line_tokens.proofs.MarkLemmas.{and-true}
use Rattle.dual_reply.specs.declared.place.Place.{Place}
use Rattle.dual_reply.specs.declared.place.Place.TheVariants.{Start, BeforeZeta, AfterLetter, BeforeIndex, AfterIndex, AfterZeta}
use Rattle.dual_reply.specs.Places.{places}
use Rattle.line_tokens.specs.Runs.{IsIndexNumber, more_numbers}
use Rattle.line_tokens.proofs.RunForms.{index-is_run}
use Rattle.dual_reply.specs.Grammar.{WrittenZeta, IsZeta, sign_token, more_zetas, line_tokens, IsSigned}

abbrev Tokens : Type 0
Tokens = List Token

abbrev pub Behind : Tokens → Type 0
Behind tokens = (zs : List WrittenZeta) × AllByRecursion IsZeta zs × (tokens ≡ more_zetas zs)

abbrev pub Numbered : Tokens → Type 0
Numbered tokens =
    (k : List ℕ) × (ks : List (List ℕ)) × (rest : Tokens) × AllByRecursion IsIndexNumber (k ∷ ks) × Behind rest
    × (tokens ≡ run k ∷ more_numbers ks rest)

abbrev pub Zetaed : Tokens → Type 0
Zetaed tokens =
    (k : List ℕ) × (ks : List (List ℕ)) × (rest : Tokens) × AllByRecursion IsIndexNumber (k ∷ ks) × Behind rest
    × (tokens ≡ mark Letter ∷ mark Open ∷ run k ∷ more_numbers ks rest)

abbrev pub Lined : Tokens → Type 0
Lined tokens = (b : Bool) × (z : WrittenZeta) × (zs : List WrittenZeta) × AllByRecursion IsZeta (z ∷ zs) × IsSigned b z × (tokens ≡ line_tokens b z zs)

abbrev pub Rest : Place → Tokens → Type 0
Rest Start tokens = Lined tokens
Rest BeforeZeta tokens = Zetaed tokens
Rest AfterLetter tokens =
    (k : List ℕ) × (ks : List (List ℕ)) × (rest : Tokens) × AllByRecursion IsIndexNumber (k ∷ ks) × Behind rest
    × (tokens ≡ mark Open ∷ run k ∷ more_numbers ks rest)
Rest BeforeIndex tokens = Numbered tokens
Rest AfterIndex tokens = (ks : List (List ℕ)) × (rest : Tokens) × AllByRecursion IsIndexNumber ks × Behind rest × (tokens ≡ more_numbers ks rest)
Rest AfterZeta tokens = Behind tokens

signed : (negative : Bool) (tokens : Tokens) → Zetaed tokens → Behind (sign_token negative ∷ tokens)
signed negative tokens r =
    let b = r.4 in (
      record { negative = negative; first = r.0; more = r.1 } ∷ b.0,
      (r.3, b.1),
      ap (λ v. sign_token negative ∷ v) (r.5 ∙ ap (λ v. mark Letter ∷ mark Open ∷ run r.0 ∷ more_numbers r.1 v) b.2),
    )

line_signed : (negative : Bool) (tokens : Tokens) → Zetaed tokens → Lined (sign_token negative ∷ tokens)
line_signed negative tokens r =
    let b = r.4 in (
      true,
      record { negative = negative; first = r.0; more = r.1 },
      b.0,
      (r.3, b.1),
      tt,
      ap (λ v. sign_token negative ∷ v) (r.5 ∙ ap (λ v. mark Letter ∷ mark Open ∷ run r.0 ∷ more_numbers r.1 v) b.2),
    )

line_bare : (tokens : Tokens) → Zetaed tokens → Lined tokens
line_bare tokens r =
    let b = r.4 in (
      false,
      record { negative = false; first = r.0; more = r.1 },
      b.0,
      (r.3, b.1),
      refl,
      r.5 ∙ ap (λ v. mark Letter ∷ mark Open ∷ run r.0 ∷ more_numbers r.1 v) b.2,
    )

module _ (tokens : Tokens) (ih : (p : Place) → takes places p tokens ≡ true → Rest p tokens) where
  lettered : takes places AfterLetter tokens ≡ true → Zetaed (mark Letter ∷ tokens)
  lettered h = let r = ih AfterLetter h in (r.0, r.1, r.2, r.3, r.4, ap (λ v. mark Letter ∷ v) r.5)

  marked : (p : Place) (m : Mark) → takes places p (mark m ∷ tokens) ≡ true → Rest p (mark m ∷ tokens)
  marked Start Plus h = line_signed false tokens (ih BeforeZeta h)
  marked Start Minus h = line_signed true tokens (ih BeforeZeta h)
  marked Start Letter h = line_bare (mark Letter ∷ tokens) (lettered h)
  marked Start _ h = cc
  marked BeforeZeta Letter h = lettered h
  marked BeforeZeta _ h = cc
  marked AfterLetter Open h = let r = ih BeforeIndex h in (r.0, r.1, r.2, r.3, r.4, ap (λ v. mark Open ∷ v) r.5)
  marked AfterLetter _ h = cc
  marked BeforeIndex m h = cc
  marked AfterIndex Comma h = let r = ih BeforeIndex h in (r.0 ∷ r.1, r.2, r.3, r.4, ap (λ v. mark Comma ∷ v) r.5)
  marked AfterIndex Close h = ([], tokens, tt, ih AfterZeta h, refl)
  marked AfterIndex _ h = cc
  marked AfterZeta Plus h = signed false tokens (ih BeforeZeta h)
  marked AfterZeta Minus h = signed true tokens (ih BeforeZeta h)
  marked AfterZeta _ h = cc

  ran : (p : Place) (digits : List ℕ) → takes places p (run digits ∷ tokens) ≡ true → Rest p (run digits ∷ tokens)
  ran BeforeIndex digits h =
      let a = and-true _ _ h in
      let r = ih AfterIndex a.1 in
      (digits, r.0, r.1, (index-is_run digits a.0, r.2), r.3, ap (λ v. run digits ∷ v) r.4)
  ran _ digits h = cc

pub taken_rest : (tokens : Tokens) (p : Place) → takes places p tokens ≡ true → Rest p tokens
taken_rest [] AfterZeta h = ([], tt, refl)
taken_rest [] _ h = cc
taken_rest (mark m ∷ tokens) p h = marked tokens (taken_rest tokens) p m h
taken_rest (run digits ∷ tokens) p h = ran tokens (taken_rest tokens) p digits h
