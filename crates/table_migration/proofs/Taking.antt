-- Bytes that are taken from a source.
use Rattle.std.proofs.Common.{◌≡◌, inl, inr, false, ℕ, zero, suc, ◌+◌, ◌≤◌, ◌<◌, List, [], ◌∷◌, ◌++◌, length, get_or, take, Option, Some, None, refl, sym, ap, ◌∙◌, arith, append_assoc, length-append}
use Rattle.std.specs.Prelude.{IfSome, ◌==◌}
use Rattle.std.proofs.Math.Nat.{eq-or-lt_of_le}
use Rattle.std.proofs.Math.Seq.{take-append-add}
use Rattle.std.proofs.lemmas.List.{append-nil, length-take-le, take-append-le, take-take, take_at}
use borrow.Rule.Slice.PartMut.{put_mid, post_of}
use Rattle.outside_io.specs.Told.{before_told}
use Rattle.page_codec.specs.declared.page.Page.{Page}
use Rattle.table_migration.specs.OldFiles.{IsOldPage, old_spelling, NoOldPage, IsUnread}
use Rattle.table_migration.specs.Inner.{Takes}

-- one piece, and then another
pub two_told : (a b : List ℕ) (told : Option (List ℕ)) → before_told a (before_told b told) ≡ before_told (a ++ b) told
two_told a b None = refl
two_told a b (Some xs) = ap Some (sym (append_assoc a b xs))

pub taken_on : (a b : List ℕ) (first mid left : Option (List ℕ)) → first ≡ before_told a mid → mid ≡ before_told b left → first ≡ before_told (a ++ b) left
taken_on a b first mid left one two = one ∙ ap (before_told a) two ∙ two_told a b left

-- the first n bytes of ys, put into xs behind its first a
pub front_put : (xs ys : List ℕ) (a k n : ℕ) → a ≤ length xs → n ≤ length ys → take (a + n) (put_mid a k xs ys) ≡ take a xs ++ take n ys
front_put xs ys a k n within few =
    let behind : List ℕ = ys ++ post_of a k xs in
    let len : length (take a xs) ≡ a = length-take-le a xs within in
    ap (λ (m : ℕ). take (m + n) (take a xs ++ behind)) (sym len) ∙ take-append-add (take a xs) behind n
    ∙ ap (λ l. take a xs ++ l) (take-append-le n ys (post_of a k xs) few)

pub filled : (xs ys : List ℕ) (a k n : ℕ) (first mid left : Option (List ℕ)) → a ≤ length xs → n ≤ length ys
    → first ≡ before_told (take a xs) mid → mid ≡ before_told (take n ys) left → first ≡ before_told (take (a + n) (put_mid a k xs ys)) left
filled xs ys a k n first mid left within few one two =
    taken_on (take a xs) (take n ys) first mid left one two ∙ ap (λ l. before_told l left) (sym (front_put xs ys a k n within few))

-- what stands in a buffer that was made longer, and then cut behind the bytes that were read
pub read_behind : (bytes room whole ys after tail : List ℕ) (h k n len : ℕ) → h ≡ length bytes → whole ≡ bytes ++ room → h + n ≤ len → n ≤ length ys
    → after ≡ take (h + n) (take len (put_mid h k whole ys ++ tail)) → after ≡ bytes ++ take n ys
read_behind bytes room whole ys after tail h k n len have is within few cut =
    let put : List ℕ = put_mid h k whole ys in
    let there : h ≤ length whole = omega (arith, have, ap length is, length-append bytes room) in
    let long : h + n ≤ length put =
    omega (arith, length-append (take h whole) (ys ++ post_of h k whole), length-append ys (post_of h k whole), length-take-le h whole there) in
    cut ∙ take-take (h + n) len (put ++ tail) within ∙ take-append-le (h + n) put tail long ∙ front_put whole ys h k n there few
    ∙ ap (λ l. l ++ take n ys) (ap (take h) is ∙ take_at bytes room h (sym have))

-- ---- the next page

pub not_empty : (n : ℕ) → false ≡ (n == 0) → 0 < n
not_empty zero e = absurd (cc e)
not_empty (suc n) e = omega arith

pub first_is : (xs : List ℕ) (d n : ℕ) → 0 < length xs → d ≡ get_or xs 0 d → d ≡ n → get_or xs 0 0 ≡ n
first_is [] d n some is e = absurd (omega arith)
first_is (x ∷ xs) d n some is e = sym is ∙ e

one_gate : (gate : List ℕ) → 0 < length gate → length gate ≤ 1 → get_or gate 0 0 ≡ 1 → gate ≡ 1 ∷ []
one_gate [] some few is_one = absurd (omega arith)
one_gate (g ∷ []) some few is_one = ap (λ x. x ∷ []) is_one
one_gate (g ∷ b ∷ rest) some few is_one = absurd (omega arith)

-- an open gate, a head, and as much of a body of n bytes as there is
pub record AreFramed (old new : Option (List ℕ)) (head body : List ℕ) (n : ℕ) : Type 0 where
  pub taken : old ≡ before_told (1 ∷ (head ++ body)) new
  pub five : length head ≡ 5
  pub few : length body ≤ n
  pub end : length body < n → IfSome new (λ left. left ≡ [])

pub frame : (old first second new : Option (List ℕ)) (none nothing gate head whole : List ℕ) (n : ℕ) (a : Takes 1 old first none gate) → none ≡ []
    → 0 < length gate → get_or gate 0 0 ≡ 1 → (b : Takes 5 first second nothing head) → nothing ≡ [] → 5 ≤ length head
    → (c : Takes n second new head whole) → AreFramed old new head c.bytes n
frame old first second new none nothing gate head whole n a empty some is_one b clear long c =
    let gate_is : gate ≡ a.bytes = a.after_is ∙ ap (λ l. l ++ a.bytes) empty in
    let head_is : head ≡ b.bytes = b.after_is ∙ ap (λ l. l ++ b.bytes) clear in
    let short = a.few in
    let five = b.few in
    let is_open : gate ≡ 1 ∷ [] = one_gate gate some (omega (arith, short, ap length gate_is)) is_one in
    record {
      taken = taken_on (a.bytes ++ b.bytes) c.bytes old second new (taken_on a.bytes b.bytes old first second a.taken b.taken) c.taken
          ∙ (λ i. before_told (((sym gate_is ∙ is_open) i ++ sym head_is i) ++ c.bytes) new);
      five = omega (arith, five, ap length head_is, long);
      few = c.few;
      end = c.end;
    }

no_bytes : (xs : List ℕ) → length xs ≡ 0 → xs ≡ []
no_bytes [] e = refl
no_bytes (x ∷ xs) e = absurd (omega arith)

module _ (old new : Option (List ℕ)) (head body : List ℕ) (n : ℕ) (framed : AreFramed old new head body n)
    (says : (page : Page) (more rest : List ℕ) → IsOldPage page → head ++ more ≡ old_spelling page ++ rest → length (old_spelling page) ≡ 5 + n) where
  length-both : length (head ++ body) ≡ 5 + length body
  length-both = length-append head body ∙ ap (λ k. k + length body) framed.five

  -- a page that is spelled there is all of it
  pub passed : (page : Page) (rest : List ℕ) → IsOldPage page → head ++ body ≡ old_spelling page ++ rest → old ≡ before_told (1 ∷ old_spelling page) new
  passed page rest is e =
      let few = framed.few in
      let whole = says page body rest is e in
      let nothing : length rest ≡ 0 = omega (arith, few, whole, length-both, ap length e, length-append (old_spelling page) rest) in
      framed.taken ∙ ap (λ l. before_told (1 ∷ l) new) (e ∙ ap (λ l. old_spelling page ++ l) (no_bytes rest nothing) ∙ append-nil (old_spelling page))

  -- where none is, none is spelled in what was left
  pub unread : NoOldPage (head ++ body) → IfSome old IsUnread
  unread none = at old new framed.taken framed.end
    where
      at : (o m : Option (List ℕ)) → o ≡ before_told (1 ∷ (head ++ body)) m → (length body < n → IfSome m (λ left. left ≡ [])) → IfSome o IsUnread
      at None m taken end = tt
      at (Some xs) None taken end = absurd (cc taken)
      at (Some xs) (Some ys) taken end = record {
        rest = (head ++ body) ++ ys;
        bytes_are = cc taken;
        more = omega (arith, length-both, length-append (head ++ body) ys);
        none = λ page rest is e.
            let few = framed.few in
            let whole = says page (body ++ ys) rest is (sym (append_assoc head body ys) ∙ e) in
            elim (eq-or-lt_of_le few) [
              | inl full ↦
                  let both : length (head ++ body) ≡ length (old_spelling page) = omega (arith, length-both, whole, full) in
                  none page [] is (sym (take_at (head ++ body) ys (length (head ++ body)) refl) ∙ ap (λ l. take (length (head ++ body)) l) e
                  ∙ take_at (old_spelling page) rest (length (head ++ body)) (sym both) ∙ sym (append-nil (old_spelling page)))
              | inr less ↦ none page rest is (sym (append-nil (head ++ body)) ∙ ap (λ l. (head ++ body) ++ l) (sym (end less)) ∙ e)
            ];
      }
