-- Readers that are the inverse of a spelling, both ways, and how they are put together.
use Rattle.std.proofs.Common.{◌≡◌, ℕ, zero, suc, ◌^◌, ◌<◌, ◌≤◌, List, [], ◌∷◌, ◌++◌, length, Option, Some, None, Bool, true, false, leb}
use Rattle.std.proofs.Common.{if◌then◌else◌, refl, sym, ap, subst, ◌∙◌, append_assoc, arith}
use Rattle.std.specs.List.{flat_map, AllByRecursion}
use Rattle.std.proofs.lemmas.List.Concat.{flat_map-cons}
use borrow.Author.Tests.{le-leb}
use Rattle.byteorder.specs.Endian.{little_bytes}
use Rattle.page_codec.specs.Inner.{◌>>=◌, Reader, number_at, both_at, map_at, times_at, counted_at}
use Rattle.page_codec.proofs.Numbers.{AreBytes, number_again, number_back}

-- what was spelled is read again, and what is read was spelled so
pub record IsExact {A : Type 0} (Fits : A → Type 0) (spell : A → List ℕ) (at : Reader A) : Type 0 where
  pub again : (x : A) (rest : List ℕ) → Fits x → at (spell x ++ rest) ≡ Some (x, rest)
  pub back : (bytes : List ℕ) (x : A) (rest : List ℕ) → AreBytes bytes → at bytes ≡ Some (x, rest) → bytes ≡ spell x ++ rest

pub bind_some : {A B : Type 0} (o : Option A) (f : A → Option B) (y : B) → (o >>= f) ≡ Some y → (a : A) × (o ≡ Some a) × (f a ≡ Some y)
bind_some (Some a) f y e = (a, refl, e)
bind_some None f y e = absurd (cc e)

-- what stands behind some bytes are bytes
pub bytes_behind : (front rest bytes : List ℕ) → AreBytes bytes → bytes ≡ front ++ rest → AreBytes rest
bytes_behind [] rest bytes b e = subst AreBytes e b
bytes_behind (a ∷ front) rest [] b e = absurd (cc e)
bytes_behind (a ∷ front) rest (c ∷ bytes) b e = bytes_behind front rest bytes (λ k. b (suc k)) cc

pub number_exact : (n : ℕ) → IsExact (λ x. x < 256 ^ n) (little_bytes n) (number_at n)
number_exact n = record { again = number_again n; back = number_back n }

abbrev pub read : {A : Type 0} → A → List ℕ → Option (A × List ℕ)
read a after = Some (a, after)

-- what is made of the parts of two equal pairs
pub pair_is : {A C : Type 0} (f : A → List ℕ → C) (a c : A) (b d : List ℕ) → read a b ≡ read c d → f a b ≡ f c d
pair_is {A = A} f a c b d e =
    let left : A × List ℕ = (a, b) in
    let right : A × List ℕ = (c, d) in
    let is : left ≡ right = cc in
    ap (λ (p : A × List ℕ). f p.0 p.1) is

two_parts : {A B : Type 0} (s : A → List ℕ) (t : B → List ℕ) (a : A) (b : B) (bytes middle after : List ℕ) (x : A × B) (rest : List ℕ)
    → bytes ≡ s a ++ middle → middle ≡ t b ++ after → read {A = A × B} (a, b) after ≡ read x rest → bytes ≡ (s x.0 ++ t x.1) ++ rest
two_parts {A = A} {B = B} s t a b bytes middle after x rest first second e =
    let whole : A × B = (a, b) in
    first ∙ ap (λ l. s a ++ l) second ∙ sym (append_assoc (s a) (t b) after) ∙ pair_is (λ (p : A × B) l. (s p.0 ++ t p.1) ++ l) whole x after rest e

-- one, and then another
pub both_exact : {A B : Type 0} {F : A → Type 0} {G : B → Type 0} {s : A → List ℕ} {t : B → List ℕ} {f : Reader A} {g : Reader B}
    → IsExact F s f → IsExact G t g → IsExact (λ x. F x.0 × G x.1) (λ x. s x.0 ++ t x.1) (both_at f g)
unfolding both_at
both_exact {s = s} {t = t} {f = f} {g = g} p q = record {
  again = λ x rest fits. ap (both_at f g) (append_assoc (s x.0) (t x.1) rest) ∙ rw (p.again x.0 (t x.1 ++ rest) fits.0, q.again x.1 rest fits.1) refl;
  back = λ bytes x rest b e.
      let first = bind_some (f bytes) _ _ e in
      let second = bind_some (g first.0.1) _ _ first.2 in
      let front = p.back bytes first.0.0 first.0.1 b first.1 in
      two_parts s t _ _ bytes first.0.1 _ x rest front
      (q.back first.0.1 second.0.0 second.0.1 (bytes_behind (s first.0.0) first.0.1 bytes b front) second.1) second.2;
}

made : {A B : Type 0} (s : A → List ℕ) (make : A → B) (take_apart : B → A) (a : A) (bytes after : List ℕ) (x : B) (rest : List ℕ)
    → take_apart (make a) ≡ a → bytes ≡ s a ++ after → read (make a) after ≡ read x rest → bytes ≡ s (take_apart x) ++ rest
made {A = A} {B = B} s make take_apart a bytes after x rest inverse first e =
    first ∙ ap (λ l. s l ++ after) (sym inverse) ∙ pair_is (λ y l. s (take_apart y) ++ l) (make a) x after rest e

-- the same, as another value
pub map_exact : {A B : Type 0} {F : A → Type 0} {s : A → List ℕ} {f : Reader A} (make : A → B) (take_apart : B → A)
    → ((a : A) → take_apart (make a) ≡ a) → ((b : B) → make (take_apart b) ≡ b) → IsExact F s f
    → IsExact (λ b. F (take_apart b)) (λ b. s (take_apart b)) (map_at make f)
unfolding map_at
map_exact {s = s} {f = f} make take_apart left right p = record {
  again = λ x rest fits. rw (p.again (take_apart x) rest fits) (ap (λ y. Some (y, rest)) (right x));
  back = λ bytes x rest b e.
      let first = bind_some (f bytes) _ _ e in
      made s make take_apart first.0.0 bytes first.0.1 x rest (left first.0.0) (p.back bytes first.0.0 first.0.1 b first.1) first.2;
}

pub times_again : {A : Type 0} {F : A → Type 0} {s : A → List ℕ} {f : Reader A} → IsExact F s f
    → (xs : List A) (rest : List ℕ) → AllByRecursion F xs → times_at f (length xs) (flat_map s xs ++ rest) ≡ Some (xs, rest)
unfolding times_at
times_again p [] rest fits = refl
times_again {s = s} {f = f} p (x ∷ xs) rest fits =
    let regrouped : flat_map s (x ∷ xs) ++ rest ≡ s x ++ (flat_map s xs ++ rest) =
    ap (λ l. l ++ rest) (flat_map-cons s x xs) ∙ append_assoc (s x) (flat_map s xs) rest in
    ap (times_at f (suc (length xs))) regrouped ∙ rw (p.again x (flat_map s xs ++ rest) fits.0, times_again p xs rest fits.1) refl

-- so many were read, and they were spelled so
more_items : {A : Type 0} (s : A → List ℕ) (n : ℕ) (a : A) (others : List A) (bytes middle after : List ℕ) (xs : List A) (rest : List ℕ)
    → bytes ≡ s a ++ middle → (length others ≡ n) × (middle ≡ flat_map s others ++ after) → read (a ∷ others) after ≡ read xs rest
    → (length xs ≡ suc n) × (bytes ≡ flat_map s xs ++ rest)
more_items {A = A} s n a others bytes middle after xs rest first behind e =
    let count : length (a ∷ others) ≡ suc n = omega (arith, behind.0) in (
      sym (pair_is (λ ys l. length ys) (a ∷ others) xs after rest e) ∙ count,
      first ∙ ap (λ l. s a ++ l) behind.1 ∙ sym (append_assoc (s a) (flat_map s others) after) ∙ ap (λ l. l ++ after) (sym (flat_map-cons s a others))
          ∙ pair_is (λ ys l. flat_map s ys ++ l) (a ∷ others) xs after rest e,
    )

no_items : {A : Type 0} (s : A → List ℕ) (bytes : List ℕ) (xs : List A) (rest : List ℕ) → read [] bytes ≡ read xs rest
    → (length xs ≡ 0) × (bytes ≡ flat_map s xs ++ rest)
no_items s bytes xs rest e = (sym (pair_is (λ ys l. length ys) [] xs bytes rest e), pair_is (λ ys l. flat_map s ys ++ l) [] xs bytes rest e)

pub times_back : {A : Type 0} {F : A → Type 0} {s : A → List ℕ} {f : Reader A} → IsExact F s f
    → (n : ℕ) (bytes : List ℕ) (xs : List A) (rest : List ℕ) → AreBytes bytes → times_at f n bytes ≡ Some (xs, rest)
    → (length xs ≡ n) × (bytes ≡ flat_map s xs ++ rest)
unfolding times_at
times_back {s = s} p zero bytes xs rest b e = no_items s bytes xs rest e
times_back {s = s} {f = f} p (suc n) bytes xs rest b e =
    let first = bind_some (f bytes) _ _ e in
    let others = bind_some (times_at f n first.0.1) _ _ first.2 in
    let front = p.back bytes first.0.0 first.0.1 b first.1 in
    more_items s n _ _ bytes first.0.1 _ xs rest front
    (times_back p n first.0.1 others.0.0 others.0.1 (bytes_behind (s first.0.0) first.0.1 bytes b front) others.1) others.2

pub if_some : {A : Type 0} (t : Bool) (o : Option A) (y : A) → (if t then o else None) ≡ Some y → (t ≡ true) × (o ≡ Some y)
if_some true o y e = (refl, e)
if_some false o y e = absurd (cc e)

-- a number of w bytes, not over most, and so many of them
pub counted_exact : {A : Type 0} {F : A → Type 0} {s : A → List ℕ} {f : Reader A} (w most : ℕ) → most < 256 ^ w → IsExact F s f
    → IsExact (λ xs. (length xs ≤ most) × AllByRecursion F xs) (λ xs. little_bytes w (length xs) ++ flat_map s xs) (counted_at w most f)
unfolding counted_at
counted_exact {s = s} {f = f} w most small p = record {
  again = λ xs rest fits.
      ap (counted_at w most f) (append_assoc (little_bytes w (length xs)) (flat_map s xs) rest)
      ∙ rw (number_again w (length xs) (flat_map s xs ++ rest) (omega (arith, fits.0)), le-leb (length xs) most fits.0) (times_again p xs rest fits.1);
  back = λ bytes xs rest b e.
      let count = bind_some (number_at w bytes) _ _ e in
      let front = number_back w bytes count.0.0 count.0.1 b count.1 in
      let within = if_some (leb count.0.0 most) _ _ count.2 in
      let items = times_back p count.0.0 count.0.1 xs rest (bytes_behind (little_bytes w count.0.0) count.0.1 bytes b front) within.1 in
      front ∙ (λ i. little_bytes w (sym items.0 i) ++ items.1 i) ∙ sym (append_assoc (little_bytes w (length xs)) (flat_map s xs) rest);
}
