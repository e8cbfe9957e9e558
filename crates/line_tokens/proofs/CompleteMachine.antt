-- What is spelled by tokens that a machine takes is accepted, and the same is made of it.
use Rattle.std.proofs.Common.{◌≡◌, ℕ, zero, suc, ◌+◌, ◌-◌, ◌*◌, true, false, ◌&&◌, cond, leb, Option, Some, None, List, [], ◌∷◌, ◌++◌, refl, sym, ap, ◌∙◌, append-nil, arith}
use Rattle.std.specs.Prelude.{option_map, option_and_then, IsTrue, is_some}
use Rattle.std.specs.Option.{option_map_or}
use Rattle.std.specs.List.{AllByRecursion}
use Rattle.line_tokens.specs.declared.marks.Mark.{Mark}
use Rattle.line_tokens.specs.Tokens.{Token, mark, run, mark_byte, is_blank, is_digit, IsSpelled, value_from, value_of}
use Rattle.line_tokens.specs.Marks.{mark_of}
use Rattle.line_tokens.specs.Machine.{Machine, IsAlternating, Maker, place_of, are_digits, is_run, step, first_digit, after_digit, accepts, takes, number_after, made_after, read, take_tokens}
use Rattle.line_tokens.specs.declared.spots.Run.{Run}
use Rattle.line_tokens.specs.declared.spots.Spot.{Spot}
use Rattle.line_tokens.specs.declared.spots.Spot.TheVariants.{Between, Within}
use Rattle.line_tokens.proofs.MarkLemmas.{by_if, and-true, mark_of-mark_byte, is_blank-mark_byte, is_digit-mark_byte, is_digit-blank, is_blank-digit, mark_of-blank, mark_of-digit}

abbrev pub AreBlank : List ℕ → Type 0
AreBlank bytes = AllByRecursion (λ b. IsTrue (is_blank b)) bytes

-- what is made tells what is accepted
module _ {P D : Type 0} (M : Machine P) (K : Maker P D) where
  pub is_some-read : (bytes : List ℕ) (s : Spot P) (n : ℕ) (d : D) → is_some (read M K s n d bytes) ≡ accepts M s bytes
  is_some-read [] s n d = elim (M.ends (place_of s)) as (λ t. is_some (cond t (Some (K.at_end (place_of s) n d)) None) ≡ t) [ true ↦ refl | false ↦ refl ]
  is_some-read (b ∷ bytes) s n d =
      elim (step M s b) as (λ o. is_some (option_and_then (λ t. read M K t (number_after s n b) (made_after K s n d b) bytes) o)
      ≡ option_map_or (λ t. accepts M t bytes) o false)
      [ None ↦ refl | Some t ↦ is_some-read bytes t (number_after s n b) (made_after K s n d b) ]

  -- one byte: where it leads, and what is made of it
  one_byte : (s t : Spot P) (n k : ℕ) (d e : D) (b : ℕ) (rest : List ℕ) → step M s b ≡ Some t → number_after s n b ≡ k → made_after K s n d b ≡ e
      → read M K s n d (b ∷ rest) ≡ read M K t k e rest
  one_byte s t n k d e b rest go num made =
      ap (λ o. option_and_then (λ t. read M K t (number_after s n b) (made_after K s n d b) rest) o) go ∙ (λ i. read M K t (num i) (made i) rest)

  blank_step : (s : Spot P) (b : ℕ) → is_blank b ≡ true → step M s b ≡ Some (Between (place_of s))
  blank_step s b h = ap (λ t. cond t (Some (Between (place_of s)))
      (cond (is_digit b) (after_digit M s b) (option_map Between (option_and_then (M.after_mark (place_of s)) (mark_of b))))) h

  not_digit_number : (s : Spot P) (n b : ℕ) → is_digit b ≡ false → number_after s n b ≡ n
  not_digit_number (Between p) n b h = ap (λ t. cond t (b - 48) n) h
  not_digit_number (Within p k) n b h = ap (λ t. cond t (10 * n + (b - 48)) n) h

  no_mark_made : (s : Spot P) (n : ℕ) (d : D) (b : ℕ) → mark_of b ≡ None → made_after K s n d b ≡ d
  no_mark_made s n d b h = ap (λ o. option_map_or (λ m. K.on_mark (place_of s) m n d) o d) h

  blank_read : (s : Spot P) (n : ℕ) (d : D) (b : ℕ) (rest : List ℕ) → is_blank b ≡ true
      → read M K s n d (b ∷ rest) ≡ read M K (Between (place_of s)) n d rest
  blank_read s n d b rest h = one_byte s (Between (place_of s)) n n d d b rest (blank_step s b h) (not_digit_number s n b (is_digit-blank b h))
      (no_mark_made s n d b (mark_of-blank b h))

  -- blanks between tokens change nothing
  skip : (p : P) (n : ℕ) (d : D) (gap rest : List ℕ) → AreBlank gap → read M K (Between p) n d (gap ++ rest) ≡ read M K (Between p) n d rest
  skip p n d [] rest h = refl
  skip p n d (b ∷ gap) rest h = blank_read (Between p) n d b (gap ++ rest) h.0 ∙ skip p n d gap rest h.1

  mark_step : (s : Spot P) (m : Mark) → step M s (mark_byte m) ≡ option_map Between (M.after_mark (place_of s) m)
  mark_step s m =
      ap (λ t. cond t (Some (Between (place_of s)))
      (cond (is_digit (mark_byte m)) (after_digit M s (mark_byte m))
      (option_map Between (option_and_then (M.after_mark (place_of s)) (mark_of (mark_byte m)))))) (is_blank-mark_byte m)
      ∙ ap (λ t. cond t (after_digit M s (mark_byte m)) (option_map Between (option_and_then (M.after_mark (place_of s)) (mark_of (mark_byte m)))))
      (is_digit-mark_byte m)
      ∙ ap (λ o. option_map Between (option_and_then (M.after_mark (place_of s)) o)) (mark_of-mark_byte m)

  mark_read : (s : Spot P) (m : Mark) (q : P) (n : ℕ) (d : D) (rest : List ℕ) → M.after_mark (place_of s) m ≡ Some q
      → read M K s n d (mark_byte m ∷ rest) ≡ read M K (Between q) n (K.on_mark (place_of s) m n d) rest
  mark_read s m q n d rest e =
      one_byte s (Between q) n n d (K.on_mark (place_of s) m n d) (mark_byte m) rest
      (mark_step s m ∙ ap (λ o. option_map Between o) e)
      (not_digit_number s n (mark_byte m) (is_digit-mark_byte m))
      (ap (λ o. option_map_or (λ m. K.on_mark (place_of s) m n d) o d) (mark_of-mark_byte m))

  digit_step : (s : Spot P) (b : ℕ) → is_digit b ≡ true → step M s b ≡ after_digit M s b
  digit_step s b h =
      ap (λ t. cond t (Some (Between (place_of s)))
      (cond (is_digit b) (after_digit M s b) (option_map Between (option_and_then (M.after_mark (place_of s)) (mark_of b))))) (is_blank-digit b h)
      ∙ ap (λ t. cond t (after_digit M s b) (option_map Between (option_and_then (M.after_mark (place_of s)) (mark_of b)))) h

  first_read : (p : P) (r : Run P) (n : ℕ) (d : D) (b : ℕ) (rest : List ℕ) → M.run_at p ≡ Some r → is_digit b ≡ true → leb r.lowest b ≡ true
      → read M K (Between p) n d (b ∷ rest) ≡ read M K (Within r.next r.more) (b - 48) d rest
  first_read p r n d b rest e h low =
      one_byte (Between p) (Within r.next r.more) n (b - 48) d d b rest
      (digit_step (Between p) b h ∙ ap (λ o. first_digit o b) e ∙ ap (λ t. cond t (Some (Within r.next r.more)) None) low)
      (ap (λ t. cond t (b - 48) n) h)
      (no_mark_made (Between p) n d b (mark_of-digit b h))

  -- further digits of a run
  digits_read : (p : P) (digits : List ℕ) (k n : ℕ) (d : D) (rest : List ℕ) → are_digits k digits ≡ true
      → (j : ℕ) × (read M K (Within p k) n d (digits ++ rest) ≡ read M K (Within p j) (value_from n digits) d rest)
  digits_read p [] k n d rest h = (k, refl)
  digits_read p (b ∷ digits) zero n d rest h = cc
  digits_read p (b ∷ digits) (suc k) n d rest h =
      let a = and-true _ _ h in
      let r = digits_read p digits k (10 * n + (b - 48)) d rest a.1 in (
        r.0,
        one_byte (Within p (suc k)) (Within p k) n (10 * n + (b - 48)) d d b (digits ++ rest)
            (digit_step (Within p (suc k)) b a.0)
            (ap (λ t. cond t (10 * n + (b - 48)) n) a.0)
            (no_mark_made (Within p (suc k)) n d b (mark_of-digit b a.0))
            ∙ r.1,
      )

  -- a run is over where what follows begins with no digit
  over_in_gap : (p : P) (k n : ℕ) (d : D) (gap rest : List ℕ) → AreBlank gap → read M K (Within p k) n d rest ≡ read M K (Between p) n d rest
      → read M K (Within p k) n d (gap ++ rest) ≡ read M K (Between p) n d (gap ++ rest)
  over_in_gap p k n d [] rest h e = e
  over_in_gap p k n d (b ∷ gap) rest h e = blank_read (Within p k) n d b (gap ++ rest) h.0 ∙ sym (blank_read (Between p) n d b (gap ++ rest) h.0)

  run_over : (p : P) (k n : ℕ) (d out : D) (tokens : List Token) (bytes : List ℕ) → M.run_at p ≡ None → take_tokens M K p n d tokens ≡ Some out
      → IsSpelled tokens bytes → read M K (Within p k) n d bytes ≡ read M K (Between p) n d bytes
  run_over p k n d out [] bytes a t s =
      ap (read M K (Within p k) n d) (sym (append-nil bytes)) ∙ over_in_gap p k n d bytes [] s refl ∙ ap (read M K (Between p) n d) (append-nil bytes)
  run_over p k n d out (mark m ∷ tokens) bytes a t s =
      let same : read M K (Within p k) n d (mark_byte m ∷ s.1) ≡ read M K (Between p) n d (mark_byte m ∷ s.1) =
      elim (M.after_mark p m) as (λ o. M.after_mark p m ≡ o → option_and_then (λ q. take_tokens M K q n (K.on_mark p m n d) tokens) o ≡ Some out
      → read M K (Within p k) n d (mark_byte m ∷ s.1) ≡ read M K (Between p) n d (mark_byte m ∷ s.1))
      [ None ↦ λ e h. cc | Some q ↦ λ e h. mark_read (Within p k) m q n d s.1 e ∙ sym (mark_read (Between p) m q n d s.1 e) ] refl t in
      ap (read M K (Within p k) n d) s.3 ∙ over_in_gap p k n d s.0 (mark_byte m ∷ s.1) s.2 same ∙ ap (read M K (Between p) n d) (sym s.3)
  run_over p k n d out (run digits ∷ tokens) bytes a t s =
      let e : None ≡ Some out =
      sym (ap (λ (o : Option (Run P)). option_and_then
      (λ (r : Run P). cond (is_run r.lowest r.more digits) (take_tokens M K r.next (value_of digits) d tokens) None) o) a) ∙ t in cc

  module _ (apart : IsAlternating M) where
    abbrev IsRead : List Token → Type 0
    IsRead tokens = (p : P) (n : ℕ) (d out : D) (bytes : List ℕ) → take_tokens M K p n d tokens ≡ Some out → IsSpelled tokens bytes
        → read M K (Between p) n d bytes ≡ Some out

    mark_token : (tokens : List Token) (ih : IsRead tokens) (m : Mark) → IsRead (mark m ∷ tokens)
    mark_token tokens ih m p n d out bytes t s =
        ap (read M K (Between p) n d) s.3 ∙ skip p n d s.0 (mark_byte m ∷ s.1) s.2
        ∙ elim (M.after_mark p m) as (λ o. M.after_mark p m ≡ o → option_and_then (λ q. take_tokens M K q n (K.on_mark p m n d) tokens) o ≡ Some out
        → read M K (Between p) n d (mark_byte m ∷ s.1) ≡ Some out)
        [ None ↦ λ e h. cc | Some q ↦ λ e h. mark_read (Between p) m q n d s.1 e ∙ ih q n (K.on_mark p m n d) out s.1 h s.4 ] refl t

    run_taken : (tokens : List Token) (ih : IsRead tokens) (p : P) (r : Run P) (n : ℕ) (d out : D) (digits rest : List ℕ) → M.run_at p ≡ Some r
        → is_run r.lowest r.more digits ≡ true → take_tokens M K r.next (value_of digits) d tokens ≡ Some out → IsSpelled tokens rest
        → read M K (Between p) n d (digits ++ rest) ≡ Some out
    run_taken tokens ih p r n d out [] rest e h t s = cc
    run_taken tokens ih p r n d out (b ∷ digits) rest e h t s =
        let a = and-true _ _ h in
        let c = and-true _ _ a.0 in
        let v = digits_read r.next digits r.more (b - 48) d rest a.1 in
        let same : value_from (b - 48) digits ≡ value_of (b ∷ digits) = let q : b - 48 ≡ 10 * 0 + (b - 48) = omega arith in
        ap (λ k. value_from k digits) q in
        first_read p r n d b (digits ++ rest) e c.0 c.1 ∙ v.1
        ∙ ap (λ k. read M K (Within r.next v.0) k d rest) same
        ∙ run_over r.next v.0 (value_of (b ∷ digits)) d out tokens rest (apart p r e) t s
        ∙ ih r.next (value_of (b ∷ digits)) d out rest t s

    run_token : (tokens : List Token) (ih : IsRead tokens) (digits : List ℕ) → IsRead (run digits ∷ tokens)
    run_token tokens ih digits p n d out bytes t s =
        ap (read M K (Between p) n d) s.3 ∙ skip p n d s.0 (digits ++ s.1) s.2
        ∙ elim (M.run_at p) as (λ o. M.run_at p ≡ o
        → option_and_then (λ r. cond (is_run r.lowest r.more digits) (take_tokens M K r.next (value_of digits) d tokens) None) o ≡ Some out
        → read M K (Between p) n d (digits ++ s.1) ≡ Some out) [
          | None ↦ λ e h. cc
          | Some r ↦ λ e h.
              by_if (λ (o : Option D). o) (is_run r.lowest r.more digits) _ _ (Some out) (read M K (Between p) n d (digits ++ s.1) ≡ Some out) h
              (λ g h. run_taken tokens ih p r n d out digits s.1 e g h s.4)
              (λ _ h. cc)
        ] refl t

    -- what is made of tokens is made of the bytes that spell them
    pub tokens_read : (tokens : List Token) → IsRead tokens
    tokens_read [] = λ p n d out bytes t s. ap (read M K (Between p) n d) (sym (append-nil bytes)) ∙ skip p n d bytes [] s ∙ t
    tokens_read (mark m ∷ tokens) = mark_token tokens (tokens_read tokens) m
    tokens_read (run digits ∷ tokens) = run_token tokens (tokens_read tokens) digits

-- nothing is made: a machine that only accepts
nothing : {P : Type 0} → Maker P (Unit {0})
nothing = record { on_mark = λ p m n d. d; at_end = λ p n d. d }

module _ {P : Type 0} (M : Machine P) where
  taken_read : (tokens : List Token) (p : P) (n : ℕ) → takes M p tokens ≡ true → take_tokens M nothing p n tt tokens ≡ Some tt
  taken_read [] p n h = ap (λ t. cond t (Some tt) None) h
  taken_read (mark m ∷ tokens) p n h =
      elim (M.after_mark p m) as (λ o. option_map_or (λ q. takes M q tokens) o false ≡ true
      → option_and_then (λ q. take_tokens M nothing q n tt tokens) o ≡ Some tt)
      [ None ↦ λ h. cc | Some q ↦ λ h. taken_read tokens q n h ] h
  taken_read (run digits ∷ tokens) p n h =
      elim (M.run_at p) as (λ o. option_map_or (λ (r : Run P). is_run r.lowest r.more digits && takes M r.next tokens) o false ≡ true
      → option_and_then (λ (r : Run P). cond (is_run r.lowest r.more digits) (take_tokens M nothing r.next (value_of digits) tt tokens) None) o
      ≡ Some tt) [
        | None ↦ λ h. cc
        | Some r ↦ λ h. let a = and-true _ _ h in
            ap (λ t. cond t (take_tokens M nothing r.next (value_of digits) tt tokens) None) a.0 ∙ taken_read tokens r.next (value_of digits) a.1
      ] h

  -- what is spelled by tokens that a machine takes is accepted
  pub taken_accepted : IsAlternating M → (tokens : List Token) (p : P) (bytes : List ℕ) → takes M p tokens ≡ true → IsSpelled tokens bytes
      → accepts M (Between p) bytes ≡ true
  taken_accepted apart tokens p bytes h s =
      sym (is_some-read M nothing bytes (Between p) 0 tt) ∙ ap is_some (tokens_read M nothing apart tokens p 0 tt tt bytes (taken_read tokens p 0 h) s)
