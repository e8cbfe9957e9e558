-- The first byte at which an index begins with 1 is the one that the search finds.
use Rattle.std.proofs.Common.{◌≡◌, ◌⊎◌, inl, inr, ⊎_elim, ℕ, suc, ◌+◌, ◌≤◌, Bool, true, false, cond, eqb, Option, Some, None, List, [], ◌∷◌, ◌++◌, length}
use Rattle.std.proofs.Common.{refl, sym, ap, subst, ◌∙◌, arith}
use Rattle.std.specs.Prelude.{IsTrue, not, ◌&&◌, ◌||◌, option_map}
use Rattle.std.specs.List.{AllByRecursion}
use Rattle.std.proofs.lemmas.Bool.{eqb-true, eq-eqb, and_parts, or_cases, or_left, or_right, not-true, not_from_false}
use Rattle.line_tokens.specs.Tokens.{is_blank}
use Rattle.line_tokens.proofs.MarkLemmas.{true-and}
use Rattle.dual_reply.specs.Refusals.{begins_with_digit, BeginsWithOne, IsFirstOne}
use Rattle.dual_reply.specs.Inner.{first_one}

abbrev Bytes : Type 0
Bytes = List ℕ

abbrev AreBlank : Bytes → Type 0
AreBlank gap = AllByRecursion (λ b. IsTrue (is_blank b)) gap

-- the number 1 stands behind n blanks
pub record Soon (line : Bytes) (n : ℕ) : Type 0 where
  pub gap : Bytes
  pub behind : Bytes
  pub whole : line ≡ gap ++ (49 ∷ behind)
  pub blank : AreBlank gap
  pub alone : begins_with_digit behind ≡ false
  pub place : n ≡ length gap

-- the same, or behind a later bracket, where a bracket that opens may stand before the bytes
abbrev OneAt : Bool → Bytes → ℕ → Type 0
OneAt opened line n = BeginsWithOne line n ⊎ ((opened ≡ true) × Soon line n)

abbrev is_here : Bool → ℕ → Bytes → Bool
is_here opened b line = eqb b 49 && not (begins_with_digit line) && opened

abbrev opens : Bool → ℕ → Bool
opens opened b = eqb b 40 || (is_blank b && opened)

module _ (b : ℕ) (line : Bytes) where
  later : (n : ℕ) → BeginsWithOne line n → BeginsWithOne (b ∷ line) (suc n)
  later n w = record {
    front = b ∷ w.front;
    gap = w.gap;
    behind = w.behind;
    whole = ap (λ l. b ∷ l) w.whole;
    blank = w.blank;
    alone = w.alone;
    place = let p = w.place in omega arith;
  }

  behind_bracket : (n : ℕ) → b ≡ 40 → Soon line n → BeginsWithOne (b ∷ line) (suc n)
  behind_bracket n e s = record {
    front = [];
    gap = s.gap;
    behind = s.behind;
    whole = (λ i. e i ∷ s.whole i);
    blank = s.blank;
    alone = s.alone;
    place = let p = s.place in omega arith;
  }

  behind_blank : (n : ℕ) → is_blank b ≡ true → Soon line n → Soon (b ∷ line) (suc n)
  behind_blank n e s = record {
    gap = b ∷ s.gap;
    behind = s.behind;
    whole = ap (λ l. b ∷ l) s.whole;
    blank = (e, s.blank);
    alone = s.alone;
    place = ap suc s.place;
  }

  -- what stands behind the first byte stands in the whole
  shifted : (opened : Bool) (n : ℕ) → OneAt (opens opened b) line n → OneAt opened (b ∷ line) (suc n)
  shifted opened n (inl w) = inl (later n w)
  shifted opened n (inr s) =
      ⊎_elim (λ e. inl (behind_bracket n (eqb-true b 40 e) s.1))
      (λ e. let p = and_parts (is_blank b) opened e in inr (p.1, behind_blank n p.0 s.1)) (or_cases (eqb b 40) (is_blank b && opened) s.0)

  here : (opened : Bool) → is_here opened b line ≡ true → OneAt opened (b ∷ line) 0
  here opened e =
      let p = and_parts (eqb b 49 && not (begins_with_digit line)) opened e in
      let q = and_parts (eqb b 49) (not (begins_with_digit line)) p.0 in
      inr (
        p.1,
        record {
          gap = [];
          behind = line;
          whole = ap (λ c. c ∷ line) (eqb-true b 49 q.0);
          blank = tt;
          alone = not-true (begins_with_digit line) q.1;
          place = refl;
        },
      )

found_by_test : (b : ℕ) (line : Bytes) (opened : Bool) (n : ℕ) (t : Bool) (r : Option ℕ) → is_here opened b line ≡ t
    → ((k : ℕ) → r ≡ Some k → OneAt (opens opened b) line k) → cond t (Some 0) (option_map suc r) ≡ Some n → OneAt opened (b ∷ line) n
found_by_test b line opened n true r e ih h = let z : 0 ≡ n = cc in subst (OneAt opened (b ∷ line)) z (here b line opened e)
found_by_test b line opened n false None e ih h = cc
found_by_test b line opened n false (Some k) e ih h =
    let z : suc k ≡ n = cc in subst (OneAt opened (b ∷ line)) z (shifted b line opened k (ih k refl))

pub found : (line : Bytes) (opened : Bool) (n : ℕ) → first_one opened line ≡ Some n → OneAt opened line n
found [] opened n h = cc
found (b ∷ line) opened n h =
    found_by_test b line opened n (is_here opened b line) (first_one (opens opened b) line) refl (λ k e. found line (opens opened b) k e) h

-- what stands in the whole is found here or stands behind the first byte
abbrev Behind : ℕ → Bytes → Bool → ℕ → Type 0
Behind b line opened k = (is_here opened b line ≡ true) ⊎ ((j : ℕ) × (k ≡ suc j) × OneAt (opens opened b) line j)

module _ (b : ℕ) (line : Bytes) (opened : Bool) where
  whole_behind : (front gap behind : Bytes) (k : ℕ) → b ∷ line ≡ front ++ (40 ∷ (gap ++ (49 ∷ behind))) → AreBlank gap → begins_with_digit behind ≡ false
      → k ≡ length front + (1 + length gap) → Behind b line opened k
  whole_behind [] gap behind k e blank alone p =
      let c : b ≡ 40 = cc in
      let r : line ≡ gap ++ (49 ∷ behind) = cc in
      let z : k ≡ suc (length gap) = omega arith in
      inr (
        length gap,
        z,
        inr (
          or_left (eqb b 40) (is_blank b && opened) (eq-eqb b 40 c),
          record {
            gap = gap;
            behind = behind;
            whole = r;
            blank = blank;
            alone = alone;
            place = refl;
          },
        ),
      )
  whole_behind (x ∷ front) gap behind k e blank alone p =
      let r : line ≡ front ++ (40 ∷ (gap ++ (49 ∷ behind))) = cc in
      let z : k ≡ suc (length front + (1 + length gap)) = omega arith in
      inr (
        length front + (1 + length gap),
        z,
        inl (record {
          front = front;
          gap = gap;
          behind = behind;
          whole = r;
          blank = blank;
          alone = alone;
          place = refl;
        }),
      )

  soon_behind : (gap behind : Bytes) (k : ℕ) → opened ≡ true → b ∷ line ≡ gap ++ (49 ∷ behind) → AreBlank gap → begins_with_digit behind ≡ false
      → k ≡ length gap → Behind b line opened k
  soon_behind [] behind k o e blank alone p =
      let c : b ≡ 49 = cc in
      let r : behind ≡ line = cc in
      inl (true-and _ _ (true-and _ _ (eq-eqb b 49 c) (not_from_false (begins_with_digit line) (ap begins_with_digit (sym r) ∙ alone))) o)
  soon_behind (x ∷ gap) behind k o e blank alone p =
      let c : x ≡ b = cc in
      let r : line ≡ gap ++ (49 ∷ behind) = cc in
      let t : is_blank b ≡ true = ap is_blank (sym c) ∙ blank.0 in
      inr (
        length gap,
        p,
        inr (
          or_right (eqb b 40) (is_blank b && opened) (true-and _ _ t o),
          record {
            gap = gap;
            behind = behind;
            whole = r;
            blank = blank.1;
            alone = alone;
            place = refl;
          },
        ),
      )

  one_behind : (k : ℕ) → OneAt opened (b ∷ line) k → Behind b line opened k
  one_behind k (inl w) = whole_behind w.front w.gap w.behind k w.whole w.blank w.alone w.place
  one_behind k (inr s) = soon_behind s.1.gap s.1.behind k s.0 s.1.whole s.1.blank s.1.alone s.1.place

never_whole : (front : Bytes) (rest : Bytes) → [] ≡ front ++ (40 ∷ rest) → ⊥
never_whole [] rest e = cc
never_whole (x ∷ front) rest e = cc

never_soon : (gap : Bytes) (rest : Bytes) → [] ≡ gap ++ (49 ∷ rest) → ⊥
never_soon [] rest e = cc
never_soon (x ∷ gap) rest e = cc

abbrev AtMost : Option ℕ → ℕ → Type 0
AtMost r k = (n : ℕ) × (r ≡ Some n) × (n ≤ k)

by_test : (b : ℕ) (line : Bytes) (opened : Bool) (k : ℕ) (t : Bool) → is_here opened b line ≡ t → Behind b line opened k
    → ((j : ℕ) → OneAt (opens opened b) line j → AtMost (first_one (opens opened b) line) j)
    → AtMost (cond t (Some 0) (option_map suc (first_one (opens opened b) line))) k
by_test b line opened k true e h ih = (0, refl, omega arith)
by_test b line opened k false e (inl t) ih = absurd (let f : false ≡ true = sym e ∙ t in cc)
by_test b line opened k false e (inr h) ih = let r = ih h.0 h.2 in let p = h.1 in let q = r.2 in (suc r.0, ap (option_map suc) r.1, omega arith)

-- what stands somewhere is found, there or before
pub least : (line : Bytes) (opened : Bool) (k : ℕ) → OneAt opened line k → AtMost (first_one opened line) k
least [] opened k (inl w) = absurd (never_whole w.front (w.gap ++ (49 ∷ w.behind)) w.whole)
least [] opened k (inr s) = absurd (never_soon s.1.gap s.1.behind s.1.whole)
least (b ∷ line) opened k h =
    by_test b line opened k (is_here opened b line) refl (one_behind b line opened k h) (λ j w. least line (opens opened b) j w)

module _ (line : Bytes) where
  in_whole : (n : ℕ) → OneAt false line n → BeginsWithOne line n
  in_whole n (inl w) = w
  in_whole n (inr s) = absurd (let f = s.0 in cc)

  pub first_is_first : (n : ℕ) → first_one false line ≡ Some n → IsFirstOne line n
  first_is_first n h = (
    in_whole n (found line false n h),
    λ k w. let r = least line false k (inl w) in let e : n ≡ r.0 = (let g : Some n ≡ Some r.0 = sym h ∙ r.1 in cc) in let q = r.2 in omega arith,
  )

  pub first_found : (n : ℕ) → IsFirstOne line n → first_one false line ≡ Some n
  first_found n h =
      let r = least line false n (inl h.0) in
      let low = h.1 r.0 (in_whole r.0 (found line false r.0 r.1)) in
      let q = r.2 in
      let e : r.0 ≡ n = omega arith in
      r.1 ∙ ap Some e
