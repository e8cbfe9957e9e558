-- The tokens that lead from the start to an end are those of a line.
use Rattle.std.proofs.Common.{◌≡◌, ℕ, Bool, true, false, ◌⊎◌, inl, inr, ⊎_elim, List, [], ◌∷◌, refl, ap, ◌∙◌}
use Rattle.std.specs.List.{AllByRecursion}
use Rattle.line_tokens.specs.declared.marks.Mark.{Mark}
use Rattle.line_tokens.specs.declared.marks.Mark.TheVariants.{Plus, Minus, Star, Slash, Caret, Open, Close, Comma, Letter}
use Rattle.line_tokens.specs.Tokens.{Token, mark, run}
use Rattle.line_tokens.specs.Machine.{takes}
use Rattle.line_tokens.proofs.MarkLemmas.{and-true}
use Rattle.zeta_expr.specs.declared.place.Place.{Place}
use Rattle.zeta_expr.specs.declared.place.Place.TheVariants.{Start, BeforeFactor, AfterTop, BeforeBottom, AfterBottom, AfterLetter, BeforeIndex, AfterIndex, AfterZeta, BeforePower, AfterPower}
use Rattle.zeta_expr.specs.Places.{places}
use Rattle.line_tokens.specs.Runs.{IsIndexNumber, more_numbers, zeta_tokens}
use Rattle.zeta_expr.specs.Grammar.{WrittenFactor, number, fraction, zeta, power, WrittenTerm, IsNumber, IsPower, IsFactor, IsTerm, factor_tokens, more_factors, sign_token, more_terms, line_tokens, IsSigned}
use Rattle.line_tokens.proofs.RunForms.{digits-is_run, index-is_run}

abbrev Tokens : Type 0
Tokens = List Token

-- more factors and more terms
abbrev pub Behind : Tokens → Type 0
Behind tokens = (fs : List WrittenFactor) × (ts : List WrittenTerm) × AllByRecursion IsFactor fs × AllByRecursion IsTerm ts × (tokens
    ≡ more_factors fs (more_terms ts))

abbrev pub BehindZeta : Tokens → Type 0
BehindZeta tokens = Behind tokens ⊎ ((p : List ℕ) × (rest : Tokens) × IsPower p × Behind rest × (tokens ≡ mark Caret ∷ run p ∷ rest))

abbrev pub Factored : Tokens → Type 0
Factored tokens = (f : WrittenFactor) × (rest : Tokens) × IsFactor f × Behind rest × (tokens ≡ factor_tokens f rest)

abbrev pub Lined : Tokens → Type 0
Lined tokens = (b : Bool) × (t : WrittenTerm) × (ts : List WrittenTerm) × AllByRecursion IsTerm (t ∷ ts) × IsSigned b t × (tokens ≡ line_tokens b t ts)

-- what the tokens behind each place are
abbrev pub Rest : Place → Tokens → Type 0
Rest Start tokens = Lined tokens
Rest BeforeFactor tokens = Factored tokens
Rest AfterTop tokens = Behind tokens ⊎ ((b : List ℕ) × (rest : Tokens) × IsNumber b × Behind rest × (tokens ≡ mark Slash ∷ run b ∷ rest))
Rest BeforeBottom tokens = (b : List ℕ) × (rest : Tokens) × IsNumber b × Behind rest × (tokens ≡ run b ∷ rest)
Rest AfterBottom tokens = Behind tokens
Rest AfterLetter tokens = (k : List ℕ) × (ks : List (List ℕ)) × (rest : Tokens) × AllByRecursion IsIndexNumber (k ∷ ks) × BehindZeta rest × (tokens
    ≡ mark Open ∷ run k ∷ more_numbers ks rest)
Rest BeforeIndex tokens = (k : List ℕ) × (ks : List (List ℕ)) × (rest : Tokens) × AllByRecursion IsIndexNumber (k ∷ ks) × BehindZeta rest × (tokens
    ≡ run k ∷ more_numbers ks rest)
Rest AfterIndex tokens = (ks : List (List ℕ)) × (rest : Tokens) × AllByRecursion IsIndexNumber ks × BehindZeta rest × (tokens ≡ more_numbers ks rest)
Rest AfterZeta tokens = BehindZeta tokens
Rest BeforePower tokens = (p : List ℕ) × (rest : Tokens) × IsPower p × Behind rest × (tokens ≡ run p ∷ rest)
Rest AfterPower tokens = Behind tokens

ended : Behind []
ended = ([], [], tt, tt, refl)

-- a factor behind `*`, a term behind a sign
starred : (tokens : Tokens) → Factored tokens → Behind (mark Star ∷ tokens)
starred tokens r = let b = r.3 in (r.0 ∷ b.0, b.1, (r.2, b.2), b.3, ap (λ v. mark Star ∷ v) (r.4 ∙ ap (factor_tokens r.0) b.4))

term_of : Bool → (tokens : Tokens) → Factored tokens → WrittenTerm
term_of negative tokens r = record { negative = negative; first = r.0; more = r.3.0 }

signed : (negative : Bool) (tokens : Tokens) → Factored tokens → Behind (sign_token negative ∷ tokens)
signed negative tokens r =
    let b = r.3 in (
      [],
      record { negative = negative; first = r.0; more = b.0 } ∷ b.1,
      tt,
      ((r.2, b.2), b.3),
      ap (λ v. sign_token negative ∷ v) (r.4
          ∙ ap (factor_tokens r.0) b.4),
    )

line_signed : (negative : Bool) (tokens : Tokens) → Factored tokens → Lined (sign_token negative ∷ tokens)
line_signed negative tokens r =
    let b = r.3 in (
      true,
      record { negative = negative; first = r.0; more = b.0 },
      b.1,
      ((r.2, b.2), b.3),
      tt,
      ap (λ v. sign_token negative ∷ v) (r.4
          ∙ ap (factor_tokens r.0) b.4),
    )

line_bare : (tokens : Tokens) → Factored tokens → Lined tokens
line_bare tokens r =
    let b = r.3 in
    (false, record { negative = false; first = r.0; more = b.0 }, b.1, ((r.2, b.2), b.3), refl, r.4 ∙ ap (factor_tokens r.0) b.4)

-- a zeta behind its letter
letter_factor : (tokens : Tokens) → Rest AfterLetter tokens → Factored (mark Letter ∷ tokens)
letter_factor tokens r =
    ⊎_elim
    (λ b. (zeta r.0 r.1, r.2, r.3, b, ap (λ v. mark Letter ∷ v) r.5))
    (λ b. (power r.0 r.1 b.0, b.1, (r.3, b.2), b.3, ap (λ v. mark Letter ∷ v) r.5 ∙ ap (zeta_tokens r.0 r.1) b.4))
    r.4

-- a number that begins a factor
number_factor : (digits : List ℕ) (tokens : Tokens) → IsNumber digits → Rest AfterTop tokens → Factored (run digits ∷ tokens)
number_factor digits tokens h r =
    ⊎_elim
    (λ b. (number digits, tokens, h, b, refl))
    (λ b. (fraction digits b.0, b.1, (h, b.2), b.3, ap (λ v. run digits ∷ v) b.4))
    r

module _ (tokens : Tokens) (ih : (p : Place) → takes places p tokens ≡ true → Rest p tokens) where
  behind_factor : (m : Mark) → takes places AfterBottom (mark m ∷ tokens) ≡ true → Behind (mark m ∷ tokens)
  behind_factor Star h = starred tokens (ih BeforeFactor h)
  behind_factor Plus h = signed false tokens (ih BeforeFactor h)
  behind_factor Minus h = signed true tokens (ih BeforeFactor h)
  behind_factor _ h = cc

  marked : (p : Place) (m : Mark) → takes places p (mark m ∷ tokens) ≡ true → Rest p (mark m ∷ tokens)
  marked Start Plus h = line_signed false tokens (ih BeforeFactor h)
  marked Start Minus h = line_signed true tokens (ih BeforeFactor h)
  marked Start Letter h = line_bare (mark Letter ∷ tokens) (letter_factor tokens (ih AfterLetter h))
  marked Start _ h = cc
  marked BeforeFactor Letter h = letter_factor tokens (ih AfterLetter h)
  marked BeforeFactor _ h = cc
  marked AfterTop Slash h = let r = ih BeforeBottom h in inr (r.0, r.1, r.2, r.3, ap (λ v. mark Slash ∷ v) r.4)
  marked AfterTop Star h = inl (behind_factor Star h)
  marked AfterTop Plus h = inl (behind_factor Plus h)
  marked AfterTop Minus h = inl (behind_factor Minus h)
  marked AfterTop _ h = cc
  marked BeforeBottom m h = cc
  marked AfterBottom m h = behind_factor m h
  marked AfterLetter Open h = let r = ih BeforeIndex h in (r.0, r.1, r.2, r.3, r.4, ap (λ v. mark Open ∷ v) r.5)
  marked AfterLetter _ h = cc
  marked BeforeIndex m h = cc
  marked AfterIndex Comma h = let r = ih BeforeIndex h in (r.0 ∷ r.1, r.2, r.3, r.4, ap (λ v. mark Comma ∷ v) r.5)
  marked AfterIndex Close h = ([], tokens, tt, ih AfterZeta h, refl)
  marked AfterIndex _ h = cc
  marked AfterZeta Caret h = let r = ih BeforePower h in inr (r.0, r.1, r.2, r.3, ap (λ v. mark Caret ∷ v) r.4)
  marked AfterZeta Star h = inl (behind_factor Star h)
  marked AfterZeta Plus h = inl (behind_factor Plus h)
  marked AfterZeta Minus h = inl (behind_factor Minus h)
  marked AfterZeta _ h = cc
  marked BeforePower m h = cc
  marked AfterPower m h = behind_factor m h

  ran : (p : Place) (digits : List ℕ) → takes places p (run digits ∷ tokens) ≡ true → Rest p (run digits ∷ tokens)
  ran Start digits h = let a = and-true _ _ h in line_bare (run digits ∷ tokens) (number_factor digits tokens (digits-is_run 48 37 digits a.0)
      (ih AfterTop a.1))
  ran BeforeFactor digits h = let a = and-true _ _ h in number_factor digits tokens (digits-is_run 48 37 digits a.0) (ih AfterTop a.1)
  ran BeforeBottom digits h = let a = and-true _ _ h in (digits, tokens, digits-is_run 48 37 digits a.0, ih AfterBottom a.1, refl)
  ran BeforeIndex digits h =
      let a = and-true _ _ h in
      let r = ih AfterIndex a.1 in
      (digits, r.0, r.1, (index-is_run digits a.0, r.2), r.3, ap (λ v. run digits ∷ v) r.4)
  ran BeforePower digits h = let a = and-true _ _ h in (digits, tokens, digits-is_run 48 1 digits a.0, ih AfterPower a.1, refl)
  ran _ digits h = cc

pub taken_rest : (tokens : Tokens) (p : Place) → takes places p tokens ≡ true → Rest p tokens
taken_rest [] AfterTop h = inl ended
taken_rest [] AfterBottom h = ended
taken_rest [] AfterZeta h = inl ended
taken_rest [] AfterPower h = ended
taken_rest [] _ h = cc
taken_rest (mark m ∷ tokens) p h = marked tokens (taken_rest tokens) p m h
taken_rest (run digits ∷ tokens) p h = ran tokens (taken_rest tokens) p digits h
