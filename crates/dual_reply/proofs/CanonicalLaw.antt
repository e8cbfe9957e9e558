-- Two accepted lines get the same reply exactly where their sums differ by duality.
use Rattle.std.proofs.Common.{◌≡◌, ℕ, ◌+◌, ◌-◌, ◌%◌, ◌^◌, ◌<◌, ◌≤◌, true, List, [], ◌∷◌, ◌++◌, length, map, sym, ap, ◌∙◌, arith}
use Rattle.std.specs.List.{AllByRecursion}
use Rattle.std.proofs.lemmas.Nat.{mod_below}
use Rattle.zeta_model.specs.declared.Letter.{Letter}
use Rattle.zeta_model.specs.Words.{is_admissible, begins_with_x, ends_with_y}
use Rattle.zeta_model.specs.Duality.{representative_of}
use Rattle.zeta_model.specs.Modular.{Same}
use Rattle.dual_reply.specs.Grammar.{Term, IsAccepted}
use Rattle.dual_reply.specs.Sums.{signed_of, folded_sum}
use Rattle.dual_reply.specs.Inner.{entries_of, folded_entry}
use Rattle.dual_reply.specs.Listing.{Entry}
use Rattle.word_sums.specs.Terms.{coefficient_of}
use Rattle.dual_reply.specs.Reply.{sum_text, reply_to, reply_of}
use Rattle.dual_reply.specs.Refusals.{begins_with_digit}
use Rattle.dual_reply.specs.Canonical.{IsCanonical, IsApart, IsFolded, IsTold, TellsSums}
use Rattle.dual_reply.specs.declared.words.Signed.{Signed}
use Rattle.line_tokens.proofs.MarkLemmas.{and-true}
use Rattle.dual_reply.proofs.OpenWords.{IsOpen, terms_are_open}
use Rattle.dual_reply.proofs.Readings.{of_accepted, of_refused, decided, never_both, one_refusal}
use Rattle.dual_reply.proofs.DualityLemmas.{is_admissible-representative_of, length-representative_of}
use Rattle.dual_reply.proofs.FoldLemmas.{corrections, scaled, folded_sums_same, difference_corrected}
use Rattle.dual_reply.proofs.ListingLaws.{sign_number-bounds, with_terms_all, entries_of-IsListing, listing_unique, listing_is}
use Rattle.dual_reply.proofs.TextLaws.{IsPrinted, sum_text-injective, sum_text-digit, refusal_text-letter}

abbrev AreOpen : List Signed → Type 0
AreOpen ss = AllByRecursion (λ s. IsOpen s.word) ss

-- the words of a combination
abbrev AreAdmissible : List (ℕ × List Letter) → Type 0
AreAdmissible cs = AllByRecursion (λ c. (is_admissible c.1 ≡ true) × (length c.1 ≤ 24)) cs

append_admissible : (cs ds : List (ℕ × List Letter)) → AreAdmissible cs → AreAdmissible ds → AreAdmissible (cs ++ ds)
append_admissible [] ds h k = k
append_admissible (c ∷ cs) ds h k = (h.0, append_admissible cs ds h.1 k)

scaled_admissible : (k : ℕ) (cs : List (ℕ × List Letter)) → AreAdmissible cs → AreAdmissible (scaled k cs)
scaled_admissible k [] h = tt
scaled_admissible k (c ∷ cs) h = (h.0, scaled_admissible k cs h.1)

corrections_admissible : (m : ℕ) (ss : List Signed) → AreOpen ss → AreAdmissible (corrections m ss)
corrections_admissible m [] h = tt
corrections_admissible m (s ∷ ss) h = ((h.0.admissible, h.0.light), corrections_admissible m ss h.1)

module _ (m : ℕ) (low : 3 ≤ m) (high : m < 2 ^ 63) where
  printed_entries : (ss : List Signed) → AreOpen ss → AllByRecursion (λ s. IsPrinted (folded_entry m s)) ss
  printed_entries [] h = tt
  printed_entries (s ∷ ss) h =
      let b = sign_number-bounds m s.negative low in
      let w = s.word in (
        record {
          residue = omega (arith, b.1);
          ends = (and-true (begins_with_x (representative_of w)) (ends_with_y (representative_of w)) (is_admissible-representative_of w
              ∙ h.0.admissible)).1;
          light = omega (arith, length-representative_of w, h.0.light);
        },
        printed_entries ss h.1,
      )

  printed_sum : (e f : Entry) (s : ℕ) → IsPrinted e → IsPrinted f → s ≡ (f.1 + e.1) % m → (s ≡ 0 → ⊥) → IsPrinted (f.0, s)
  printed_sum e f s p q r n = record { residue = omega (arith, mod_below (f.1 + e.1) m (omega arith)); ends = q.ends; light = q.light }

  printed : (ss : List Signed) → AreOpen ss → AllByRecursion IsPrinted (entries_of m ss)
  unfolding entries_of
  printed ss h = with_terms_all m low IsPrinted printed_sum [] ss tt (printed_entries ss h)

  reply_of-accepted : (terms : List Term) (line : List ℕ) → IsAccepted terms line → reply_of m line ≡ sum_text (entries_of m (map signed_of terms))
  reply_of-accepted terms line a = ap (reply_to m) (of_accepted line terms a)

  listings_same : (ss ts : List Signed) → ((w : List Letter) → Same m (folded_sum m ss w) (folded_sum m ts w)) → entries_of m ss ≡ entries_of m ts
  listings_same ss ts h =
      let i = entries_of-IsListing m low ss in
      let j = entries_of-IsListing m low ts in
      listing_unique m low (entries_of m ss) (entries_of m ts) i.increasing j.increasing i.residues j.residues (λ w. i.coefficients w ∙ h w
      ∙ sym (j.coefficients w))

  folded_same : (ss ts : List Signed) → entries_of m ss ≡ entries_of m ts → (w : List Letter) → Same m (folded_sum m ss w) (folded_sum m ts w)
  folded_same ss ts e w =
      sym ((entries_of-IsListing m low ss).coefficients w) ∙ ap (λ es. coefficient_of (λ a. a) es w % m) e ∙ (entries_of-IsListing m low ts).coefficients w

  canonical : IsCanonical m
  canonical l1 l2 t1 t2 a1 a2 =
      let ss = map signed_of t1 in
      let ts = map signed_of t2 in
      let o1 = terms_are_open t1 l1 a1 in
      let o2 = terms_are_open t2 l2 a2 in
      let r1 = reply_of-accepted t1 l1 a1 in
      let r2 = reply_of-accepted t2 l2 a2 in (
        λ e.
            let same = folded_same ss ts (sum_text-injective (entries_of m ss) (entries_of m ts) (printed ss o1) (printed ts o2) (sym r1 ∙ e ∙ r2)) in (
              corrections m ss ++ scaled (m - 1) (corrections m ts),
              append_admissible (corrections m ss) (scaled (m - 1) (corrections m ts)) (corrections_admissible m ss o1)
                  (scaled_admissible (m - 1) (corrections m ts) (corrections_admissible m ts o2)),
              difference_corrected m ss ts (omega arith) same,
            ),
        λ d. r1 ∙ ap sum_text (listings_same ss ts (λ r. folded_sums_same r m ss ts d.0 (omega arith) d.2)) ∙ sym r2,
      )

  apart : IsApart m
  apart = (
    λ line terms a. ap begins_with_digit (reply_of-accepted terms line a)
        ∙ sum_text-digit (entries_of m (map signed_of terms)) (printed (map signed_of terms) (terms_are_open terms line a)),
    refusal_text-letter,
  )

  folded : IsFolded m
  folded line terms a = (entries_of m (map signed_of terms), entries_of-IsListing m low (map signed_of terms), reply_of-accepted terms line a)

  told : IsTold m
  told l1 l2 t1 t2 e1 e2 a1 a2 i1 i2 e =
      let ss = map signed_of t1 in
      let ts = map signed_of t2 in
      let p = listing_is m low ss e1 i1 in
      let q = listing_is m low ts e2 i2 in
      p ∙ sum_text-injective (entries_of m ss) (entries_of m ts) (printed ss (terms_are_open t1 l1 a1)) (printed ts (terms_are_open t2 l2 a2))
      (ap sum_text (sym p) ∙ e ∙ ap sum_text q) ∙ sym q

pub tells_sums : (m : ℕ) → 3 ≤ m → m < 2 ^ 63 → TellsSums m
tells_sums m low high = record {
  canonical = canonical m low high;
  exact = λ line refusal r. ap (reply_to m) (of_refused line refusal r);
  whole = decided;
  once = λ line refusal r. ((λ terms a. never_both line terms refusal a r), λ other s. one_refusal line refusal other r s);
  apart = apart m low high;
  folded = folded m low high;
  told = told m low high;
}
