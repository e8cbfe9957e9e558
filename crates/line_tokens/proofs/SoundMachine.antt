-- What a machine accepts is spelled by tokens that it takes.
use Rattle.std.proofs.Common.{◌≡◌, ℕ, zero, suc, Bool, true, false, ◌&&◌, leb, Option, Some, None, List, [], ◌∷◌, ◌++◌, refl, ap, ◌∙◌}
use Rattle.std.specs.Prelude.{option_map, option_and_then}
use Rattle.std.specs.Option.{option_map_or}
use Rattle.line_tokens.specs.declared.marks.Mark.{Mark}
use Rattle.line_tokens.specs.Tokens.{Token, mark, run, is_blank, is_digit, IsSpelled}
use Rattle.line_tokens.specs.Marks.{mark_of}
use Rattle.line_tokens.specs.Machine.{Machine, are_digits, is_run, first_digit, after_digit, accepts, takes}
use Rattle.line_tokens.specs.declared.spots.Run.{Run}
use Rattle.line_tokens.specs.declared.spots.Spot.{Spot}
use Rattle.line_tokens.specs.declared.spots.Spot.TheVariants.{Between, Within}
use Rattle.line_tokens.proofs.MarkLemmas.{by_if, true-and, byte_of_mark}

module _ {P : Type 0} (M : Machine P) where
  -- the tokens that a spot and the bytes behind it tell of
  abbrev pub Taken : Spot P → List ℕ → Type 0
  Taken (Between p) bytes = (tokens : List Token) × (takes M p tokens ≡ true) × IsSpelled tokens bytes
  Taken (Within p k) bytes =
      (digits : List ℕ) × (rest : List ℕ) × (tokens : List Token) × (are_digits k digits ≡ true) × (bytes ≡ digits ++ rest) × (takes M p tokens ≡ true)
      × IsSpelled tokens rest

  -- a blank in front
  spelled_blank : (tokens : List Token) (b : ℕ) (bytes : List ℕ) → is_blank b ≡ true → IsSpelled tokens bytes → IsSpelled tokens (b ∷ bytes)
  spelled_blank [] b bytes e s = (e, s)
  spelled_blank (t ∷ tokens) b bytes e s = (b ∷ s.0, s.1, (e, s.2), ap (λ r. b ∷ r) s.3, s.4)

  -- a run is over where no digit follows
  run_over : (p : P) (k : ℕ) (bytes : List ℕ) → Taken (Between p) bytes → Taken (Within p k) bytes
  run_over p k bytes t = ([], bytes, t.0, refl, refl, t.1, t.2)

  module _ (b : ℕ) (bytes : List ℕ) (ih : (s : Spot P) → accepts M s bytes ≡ true → Taken s bytes) where
    abbrev goes_on : Option (Spot P) → Bool
    goes_on o = option_map_or (λ t. accepts M t bytes) o false

    begun : (p : P) (o : Option (Run P)) → M.run_at p ≡ o → is_digit b ≡ true → goes_on (first_digit o b) ≡ true → Taken (Between p) (b ∷ bytes)
    begun p None e d h = cc
    begun p (Some r) e d h =
        by_if goes_on (leb r.lowest b) _ _ true (Taken (Between p) (b ∷ bytes)) h
        (λ low g.
        let t = ih (Within r.next r.more) g in
        let taken : is_run r.lowest r.more (b ∷ t.0) && takes M r.next t.2 ≡ true = true-and _ _ (true-and _ _ (true-and _ _ d low) t.3) t.5 in (
          run (b ∷ t.0) ∷ t.2,
          ap (λ o. option_map_or (λ r. is_run r.lowest r.more (b ∷ t.0) && takes M r.next t.2) o false) e
              ∙ taken,
          ([], t.1, tt, ap (λ v. b ∷ v) t.4, t.6),
        ))
        (λ _ g. cc)

    marked_to : (p : P) (m : Mark) (o : Option P) → mark_of b ≡ Some m → M.after_mark p m ≡ o → goes_on (option_map Between o) ≡ true
        → Taken (Between p) (b ∷ bytes)
    marked_to p m None e f h = cc
    marked_to p m (Some q) e f h =
        let t = ih (Between q) h in
        (mark m ∷ t.0, ap (λ o. option_map_or (λ q. takes M q t.0) o false) f ∙ t.1, ([], bytes, tt, ap (λ c. c ∷ bytes) (byte_of_mark b m e), t.2))

    marked : (p : P) (o : Option Mark) → mark_of b ≡ o → goes_on (option_map Between (option_and_then (M.after_mark p) o)) ≡ true
        → Taken (Between p) (b ∷ bytes)
    marked p None e h = cc
    marked p (Some m) e h = marked_to p m (M.after_mark p m) e refl h

    behind : (p : P) → is_blank b ≡ true → goes_on (Some (Between p)) ≡ true → Taken (Between p) (b ∷ bytes)
    behind p e g = let t = ih (Between p) g in (t.0, t.1, spelled_blank t.0 b bytes e t.2)

    at_between : (p : P) → accepts M (Between p) (b ∷ bytes) ≡ true → Taken (Between p) (b ∷ bytes)
    at_between p h =
        by_if goes_on (is_blank b) _ _ true (Taken (Between p) (b ∷ bytes)) h (behind p)
        (λ _ g. by_if goes_on (is_digit b) _ _ true (Taken (Between p) (b ∷ bytes)) g
        (λ d g. begun p (M.run_at p) refl d g)
        (λ _ g. marked p (mark_of b) refl g))

    more_digits : (p : P) (k : ℕ) → is_digit b ≡ true → goes_on (after_digit M (Within p k) b) ≡ true → Taken (Within p k) (b ∷ bytes)
    more_digits p zero d g = cc
    more_digits p (suc k) d g = let t = ih (Within p k) g in (b ∷ t.0, t.1, t.2, true-and _ _ d t.3, ap (λ v. b ∷ v) t.4, t.5, t.6)

    at_within : (p : P) (k : ℕ) → accepts M (Within p k) (b ∷ bytes) ≡ true → Taken (Within p k) (b ∷ bytes)
    at_within p k h =
        by_if goes_on (is_blank b) _ _ true (Taken (Within p k) (b ∷ bytes)) h
        (λ e g. run_over p k (b ∷ bytes) (behind p e g))
        (λ _ g. by_if goes_on (is_digit b) _ _ true (Taken (Within p k) (b ∷ bytes)) g
        (λ d g. more_digits p k d g)
        (λ _ g. run_over p k (b ∷ bytes) (marked p (mark_of b) refl g)))

  pub accepted_taken : (bytes : List ℕ) (s : Spot P) → accepts M s bytes ≡ true → Taken s bytes
  accepted_taken [] (Between p) h = ([], h, tt)
  accepted_taken [] (Within p k) h = run_over p k [] ([], h, tt)
  accepted_taken (b ∷ bytes) (Between p) h = at_between b bytes (accepted_taken bytes) p h
  accepted_taken (b ∷ bytes) (Within p k) h = at_within b bytes (accepted_taken bytes) p k h
