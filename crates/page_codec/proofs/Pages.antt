-- The readers of each part of a page are exact.
use Rattle.std.proofs.Common.{◌≡◌, ℕ, ◌+◌, ◌^◌, ◌<◌, ◌≤◌, List, ◌++◌, length, Option, Some, None, Bool, true, false, eqb, if◌then◌else◌, refl, sym}
use Rattle.std.proofs.Common.{ap, subst, ◌∙◌, append_assoc, arith, length-append, ◌⊎◌, inl, inr}
use Rattle.std.specs.List.{AllByRecursion}
use borrow.Author.Tests.{eqb-true, eq-eqb}
use Rattle.byteorder.specs.Endian.{little_bytes}
use Rattle.page_codec.specs.declared.params.Params.{Params}
use Rattle.page_codec.specs.declared.parts.ForwardEntry.{ForwardEntry}
use Rattle.page_codec.specs.declared.parts.FinalEntry.{FinalEntry}
use Rattle.page_codec.specs.declared.parts.ForwardPage.{ForwardPage}
use Rattle.page_codec.specs.declared.parts.FinalPage.{FinalPage}
use Rattle.page_codec.specs.declared.page.Page.{Page}
use Rattle.page_codec.specs.declared.page.Page.TheVariants.{Header, Forward, Final, Done}
use Rattle.page_codec.specs.Spelling.{header, pair_spelling, pairs_spelling, forward_entry, final_entry, kind_of, body_of, spelling_of}
use Rattle.page_codec.specs.Inner.{Reader, number_at, map_at, pair_at, pairs_at, forward_entry_at, final_entry_at, mark_at, limits_at, preferred_at}
use Rattle.page_codec.specs.Inner.{old_at, header_at, forward_at, final_at, body_at, page_at}
use Rattle.page_codec.proofs.Numbers.{AreBytes, number_again, number_back}
use Rattle.page_codec.proofs.WordBits.{FitsWord, word_exact}
use Rattle.page_codec.proofs.Exact.{read, pair_is, IsExact, bind_some, bytes_behind, if_some, number_exact, both_exact, map_exact, counted_exact}

abbrev pub FitsPair : ℕ → ℕ × ℕ → Type 0
FitsPair n e = (e.0 < 256 ^ n) × (e.1 < 256 ^ 8)

abbrev pub FitsPairs : ℕ → List (ℕ × ℕ) → Type 0
FitsPairs n es = (length es ≤ 2048) × AllByRecursion (FitsPair n) es

pub pair_exact : (n : ℕ) → IsExact (FitsPair n) (pair_spelling n) (pair_at n)
unfolding pair_at
pair_exact n = both_exact (number_exact n) (number_exact 8)

pub pairs_exact : (n : ℕ) → IsExact (FitsPairs n) (pairs_spelling n) (pairs_at n)
unfolding pairs_at
pairs_exact n = counted_exact 2 2048 (omega arith) (pair_exact n)

abbrev pub FitsForwardEntry : ForwardEntry → Type 0
FitsForwardEntry e = (e.number < 256 ^ 4) × (FitsPairs 2 e.row × FitsPairs 4 e.combination)

pub forward_entry_exact : IsExact FitsForwardEntry forward_entry forward_entry_at
unfolding forward_entry_at
forward_entry_exact = map_exact _ (λ e. (e.number, (e.row, e.combination))) (λ _. refl) (λ _. refl)
    (both_exact (number_exact 4) (both_exact (pairs_exact 2) (pairs_exact 4)))

abbrev pub FitsFinalEntry : FinalEntry → Type 0
FitsFinalEntry e = FitsPairs 2 e.row × FitsPairs 4 e.combination

pub final_entry_exact : IsExact FitsFinalEntry final_entry final_entry_at
unfolding final_entry_at
final_entry_exact = map_exact _ (λ e. (e.row, e.combination)) (λ _. refl) (λ _. refl) (both_exact (pairs_exact 2) (pairs_exact 4))

abbrev pub FitsForward : ForwardPage → Type 0
FitsForward p = (p.first < 256 ^ 4) × ((length p.entries ≤ 64) × AllByRecursion FitsForwardEntry p.entries)

pub forward_exact : IsExact FitsForward (λ p. body_of (Forward p)) forward_at
unfolding forward_at
forward_exact = map_exact _ (λ p. (p.first, p.entries)) (λ _. refl) (λ _. refl)
    (both_exact (number_exact 4) (counted_exact 1 64 (omega arith) forward_entry_exact))

abbrev pub FitsFinal : FinalPage → Type 0
FitsFinal p = (p.first < 256 ^ 2) × ((length p.entries ≤ 64) × AllByRecursion FitsFinalEntry p.entries)

pub final_exact : IsExact FitsFinal (λ p. body_of (Final p)) final_at
unfolding final_at
final_exact = map_exact _ (λ p. (p.first, p.entries)) (λ _. refl) (λ _. refl)
    (both_exact (number_exact 2) (counted_exact 1 64 (omega arith) final_entry_exact))

mark_back : (n m x : ℕ) (bytes after rest : List ℕ) (u v : Unit {0}) → bytes ≡ little_bytes n x ++ after
    → (if eqb x m then read u after else None) ≡ read v rest → bytes ≡ little_bytes n m ++ rest
mark_back n m x bytes after rest u v front e =
    let found = if_some (eqb x m) (read u after) _ e in
    let same : x ≡ m = eqb-true x m found.0 in
    let behind : after ≡ rest = pair_is (λ x l. l) u v after rest found.1 in
    front ∙ (λ i. little_bytes n (same i) ++ behind i)

pub mark_exact : (n m : ℕ) → m < 256 ^ n → IsExact (λ _. Unit {0}) (λ _. little_bytes n m) (mark_at n m)
unfolding mark_at
mark_exact n m small = record {
  again = λ u rest fits. rw (number_again n m rest small, eq-eqb m m refl) refl;
  back = λ bytes u rest b e.
      let x = bind_some (number_at n bytes) _ _ e in
      mark_back n m x.0.0 bytes x.0.1 rest tt u (number_back n bytes x.0.0 x.0.1 b x.1) x.2;
}

pub limits_exact : IsExact (λ x. (x.0 < 256 ^ 1) × ((x.1.0 < 256 ^ 1) × ((x.1.1.0 < 256 ^ 1) × (x.1.1.1 < 256 ^ 8))))
    (λ x. little_bytes 1 x.0 ++ (little_bytes 1 x.1.0 ++ (little_bytes 1 x.1.1.0 ++ little_bytes 8 x.1.1.1))) limits_at
unfolding limits_at
limits_exact = both_exact (number_exact 1) (both_exact (number_exact 1) (both_exact (number_exact 1) (number_exact 8)))

abbrev pub OldFits : Unit {0} × (Unit {0} × (Unit {0} × (ℕ × (ℕ × (ℕ × ℕ))))) → Type 0
OldFits x = Unit {0} × (Unit {0}
    × (Unit {0} × ((x.1.1.1.0 < 256 ^ 1) × ((x.1.1.1.1.0 < 256 ^ 1) × ((x.1.1.1.1.1.0 < 256 ^ 1) × (x.1.1.1.1.1.1 < 256 ^ 8))))))

abbrev pub old_spelling : Unit {0} × (Unit {0} × (Unit {0} × (ℕ × (ℕ × (ℕ × ℕ))))) → List ℕ
old_spelling x = little_bytes 1 1 ++
    (little_bytes 4 19 ++ (little_bytes 8 90446106820237901 ++
    (little_bytes 1 x.1.1.1.0 ++ (little_bytes 1 x.1.1.1.1.0 ++ (little_bytes 1 x.1.1.1.1.1.0 ++ little_bytes 8 x.1.1.1.1.1.1)))))

pub old_exact : IsExact OldFits old_spelling old_at
unfolding old_at
old_exact = both_exact (mark_exact 1 1 (omega arith))
    (both_exact (mark_exact 4 19 (omega arith)) (both_exact (mark_exact 8 90446106820237901 (omega arith)) limits_exact))

abbrev pub FitsHeader : Params → Type 0
FitsHeader p = Unit {0} × (((p.weight < 256 ^ 1) × ((p.depth < 256 ^ 1) × ((p.order < 256 ^ 1) × (p.modulus < 256 ^ 8))))
    × ((length p.preferred ≤ 16) × AllByRecursion FitsWord p.preferred))

pub header_exact : IsExact FitsHeader header header_at
unfolding header_at limits_at preferred_at
header_exact =
    map_exact _ (λ p. (tt, ((p.weight, (p.depth, (p.order, p.modulus))), p.preferred))) (λ _. refl) (λ _. refl)
    (both_exact (mark_exact 8 162503700858165837 (omega arith))
    (both_exact (both_exact (number_exact 1) (both_exact (number_exact 1) (both_exact (number_exact 1) (number_exact 8))))
    (counted_exact 1 16 (omega arith) word_exact)))

abbrev pub FitsPage : Page → Type 0
FitsPage (Header p) = FitsHeader p
FitsPage (Forward p) = FitsForward p
FitsPage (Final p) = FitsFinal p
FitsPage (Done rows) = rows < 256 ^ 2

pub body_again : (page : Page) (rest : List ℕ) → FitsPage page → body_at (kind_of page) (body_of page ++ rest) ≡ Some (page, rest)
unfolding body_at map_at
body_again (Header p) rest fits = rw (header_exact.again p rest fits) refl
body_again (Forward p) rest fits = rw (forward_exact.again p rest fits) refl
body_again (Final p) rest fits = rw (final_exact.again p rest fits) refl
body_again (Done rows) rest fits = rw (number_again 2 rows rest fits) refl

if_either : {A : Type 0} (t : Bool) (a b : Option A) (y : A) → (if t then a else b) ≡ Some y → ((t ≡ true) × (a ≡ Some y)) ⊎ ((t ≡ false) × (b ≡ Some y))
if_either true a b y e = inl (refl, e)
if_either false a b y e = inr (refl, e)

-- a page of one kind
pub record IsOf (k : ℕ) (bytes : List ℕ) (page : Page) (rest : List ℕ) : Type 0 where
  pub kind : kind_of page ≡ k
  pub body : bytes ≡ body_of page ++ rest

made_of : (k : ℕ) (bytes : List ℕ) (a page : Page) (after rest : List ℕ) → kind_of a ≡ k → bytes ≡ body_of a ++ after → read a after ≡ read page rest
    → IsOf k bytes page rest
made_of k bytes a page after rest kind body e =
    let left : Page × List ℕ = (a, after) in
    let right : Page × List ℕ = (page, rest) in
    let is : left ≡ right = cc in
    subst (λ (p : Page × List ℕ). IsOf k bytes p.0 p.1) is (record { kind = kind; body = body })

module _ (k : ℕ) (bytes : List ℕ) (page : Page) (rest : List ℕ) (b : AreBytes bytes) where
  one_kind : {A : Type 0} {F : A → Type 0} {s : A → List ℕ} {f : Reader A} (make : A → Page) → IsExact F s f → ((a : A) → kind_of (make a) ≡ k)
      → ((a : A) → body_of (make a) ≡ s a)
      → map_at make f bytes ≡ read page rest → IsOf k bytes page rest
  unfolding map_at
  one_kind {f = f} make p kind body e =
      let x = bind_some (f bytes) _ _ e in
      made_of k bytes (make x.0.0) page x.0.1 rest (kind x.0.0) (p.back bytes x.0.0 x.0.1 b x.1 ∙ ap (λ l. l ++ x.0.1) (sym (body x.0.0))) x.2

  pub body_back : body_at k bytes ≡ read page rest → IsOf k bytes page rest
  unfolding body_at
  body_back e =
      elim (if_either (eqb k 1) _ _ _ e) [
        | inl h ↦ one_kind Header header_exact (λ _. sym (eqb-true k 1 h.0)) (λ _. refl) h.1
        | inr h ↦ elim (if_either (eqb k 2) _ _ _ h.1) [
          | inl h ↦ one_kind Forward forward_exact (λ _. sym (eqb-true k 2 h.0)) (λ _. refl) h.1
          | inr h ↦ elim (if_either (eqb k 3) _ _ _ h.1) [
            | inl h ↦ one_kind Final final_exact (λ _. sym (eqb-true k 3 h.0)) (λ _. refl) h.1
            | inr h ↦
                let last = if_some (eqb k 4) _ _ h.1 in
                one_kind Done (number_exact 2) (λ _. sym (eqb-true k 4 last.0)) (λ _. refl) last.1
          ]
        ]
      ]

-- a whole page, whose body is not too long for its length
abbrev pub FitsWhole : Page → Type 0
FitsWhole page = FitsPage page × (length (body_of page) < 256 ^ 4)

kind-lt : (page : Page) → kind_of page < 256 ^ 1
kind-lt (Header p) = omega arith
kind-lt (Forward p) = omega arith
kind-lt (Final p) = omega arith
kind-lt (Done rows) = omega arith

pub page_again : (page : Page) (rest : List ℕ) → FitsWhole page → page_at (spelling_of page ++ rest) ≡ Some (page, rest)
unfolding page_at
page_again page rest fits =
    let size = length (body_of page) in
    let inner : (little_bytes 4 size ++ body_of page) ++ rest ≡ little_bytes 4 size ++ (body_of page ++ rest) =
    append_assoc (little_bytes 4 size) (body_of page) rest in
    let regrouped : spelling_of page ++ rest ≡ little_bytes 1 (kind_of page) ++ (little_bytes 4 size ++ (body_of page ++ rest)) =
    append_assoc (little_bytes 1 (kind_of page)) (little_bytes 4 size ++ body_of page) rest ∙ ap (λ l. little_bytes 1 (kind_of page) ++ l) inner in
    let whole : size + length rest ≡ length (body_of page ++ rest) = sym (length-append (body_of page) rest) in
    ap page_at regrouped
    ∙ rw (
      number_again 1 (kind_of page) (little_bytes 4 size ++ (body_of page ++ rest)) (kind-lt page),
      number_again 4 size
          (body_of page ++ rest) fits.1,
      body_again page rest fits.0,
      eq-eqb (size + length rest) (length (body_of page ++ rest)) whole,
    ) refl

whole_page : (bytes sized body : List ℕ) (kind size : ℕ) (a page : Page) (after rest : List ℕ) → bytes ≡ little_bytes 1 kind ++ sized
    → sized ≡ little_bytes 4 size ++ body → IsOf kind body a after
    → (if eqb (size + length after) (length body) then read a after else None) ≡ read page rest → bytes ≡ spelling_of page ++ rest
whole_page bytes sized body kind size a page after rest first second of e =
    let found = if_some (eqb (size + length after) (length body)) (read a after) _ e in
    let long : size ≡ length (body_of a) =
    omega (arith, eqb-true (size + length after) (length body) found.0, ap length of.body, length-append (body_of a) after) in
    let regrouped : bytes ≡ spelling_of a ++ after =
    first ∙ ap (λ l. little_bytes 1 kind ++ l) (second ∙ ap (λ l. little_bytes 4 size ++ l) of.body
    ∙ sym (append_assoc (little_bytes 4 size) (body_of a) after))
    ∙ sym (append_assoc (little_bytes 1 kind) (little_bytes 4 size ++ body_of a) after)
    ∙ (λ i. (little_bytes 1 (sym of.kind i) ++ (little_bytes 4 (long i) ++ body_of a)) ++ after) in
    let left : Page × List ℕ = (a, after) in
    let right : Page × List ℕ = (page, rest) in
    let same : read a after ≡ read page rest = found.1 in
    let is : left ≡ right = cc in
    regrouped ∙ ap (λ (p : Page × List ℕ). spelling_of p.0 ++ p.1) is

pub page_back : (bytes : List ℕ) (page : Page) (rest : List ℕ) → AreBytes bytes → page_at bytes ≡ Some (page, rest) → bytes ≡ spelling_of page ++ rest
unfolding page_at
page_back bytes page rest b e =
    let kind = bind_some (number_at 1 bytes) _ _ e in
    let first = number_back 1 bytes kind.0.0 kind.0.1 b kind.1 in
    let size = bind_some (number_at 4 kind.0.1) _ _ kind.2 in
    let small = bytes_behind (little_bytes 1 kind.0.0) kind.0.1 bytes b first in
    let second = number_back 4 kind.0.1 size.0.0 size.0.1 small size.1 in
    let a = bind_some (body_at kind.0.0 size.0.1) _ _ size.2 in
    let of = body_back kind.0.0 size.0.1 a.0.0 a.0.1 (bytes_behind (little_bytes 4 size.0.0) size.0.1 kind.0.1 small second) a.1 in
    whole_page bytes kind.0.1 size.0.1 kind.0.0 size.0.0 a.0.0 page a.0.1 rest first second of a.2

pub page_exact : IsExact FitsWhole spelling_of page_at
page_exact = record { again = page_again; back = page_back }
