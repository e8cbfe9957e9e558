-- Appending piece after piece to a vector that has room.
use Rattle.std.proofs.Common.{◌≡◌, ℕ, zero, suc, ◌+◌, ◌<◌, List, [], ◌∷◌, ◌++◌, length, take, get_or, sym, ap, subst, ◌∙◌, append_assoc, arith, length-append}
use Rattle.std.specs.List.{flat_map}
use Rattle.std.specs.declared.vec.Vec.{Vec}
use Rattle.std.proofs.lemmas.List.{append-nil}
use Rattle.std.proofs.lemmas.List.Concat.{flat_map-cons}
use Rattle.std.proofs.lemmas.List.Folds.{length-flat_map-take}
use Rattle.page_codec.specs.Inner.{Wrote, HasRoom}

pub flat_map_more : {A : Type 0} (s : A → List ℕ) (xs : List A) (i : ℕ) (a : A) → i < length xs → a ≡ get_or xs i a
    → flat_map s (take (i + 1) xs) ≡ flat_map s (take i xs) ++ s a
flat_map_more s [] i a h e = absurd (omega arith)
flat_map_more s (x ∷ xs) zero a h e = flat_map-cons s x [] ∙ append-nil (s x) ∙ ap s (sym e)
flat_map_more s (x ∷ xs) (suc i) a h e =
    let n : suc i + 1 ≡ suc (i + 1) = omega arith in
    ap (λ k. flat_map s (take k (x ∷ xs))) n ∙ flat_map-cons s x (take (i + 1) xs) ∙ ap (λ l. s x ++ l) (flat_map_more s xs i a (omega arith) e)
    ∙ sym (append_assoc (s x) (flat_map s (take i xs)) (s a))
    ∙ ap (λ l. l ++ s a) (sym (flat_map-cons s x (take i xs)))

module _ {Z : Type 0} where
  pub nothing_wrote : (out : Vec ℕ Z) → Wrote out out []
  nothing_wrote out = record { items = sym (append-nil out.items); len = omega arith; room = omega arith }

  pub wrote_both : (old middle new : Vec ℕ Z) (a b : List ℕ) → Wrote old middle a → Wrote middle new b → Wrote old new (a ++ b)
  wrote_both old middle new a b first second = record {
    items = second.items ∙ ap (λ l. l ++ b) first.items ∙ append_assoc old.items a b;
    len = let f = first.len in let s = second.len in omega (arith, length-append a b);
    room = let f = first.room in let s = second.room in omega arith;
  }

  -- the second of two has room where both had
  pub room_behind : (old middle : Vec ℕ Z) (a b : List ℕ) → HasRoom old (a ++ b) → Wrote old middle a → HasRoom middle b
  room_behind old middle a b room first = let l = first.len in let r = first.room in omega (arith, length-append a b)

  pub room_front : (out : Vec ℕ Z) (a b : List ℕ) → HasRoom out (a ++ b) → HasRoom out a
  room_front out a b room = omega (arith, length-append a b)

  -- there is room for the item at i behind those before it
  pub room_next : {A : Type 0} (s : A → List ℕ) (xs : List A) (i : ℕ) (d : A) (old now : Vec ℕ Z) → HasRoom old (flat_map s xs)
      → Wrote old now (flat_map s (take i xs)) → i < length xs
      → HasRoom now (s (get_or xs i d))
  room_next s xs i d old now room so_far h = let l = so_far.len in let r = so_far.room in omega (arith, length-flat_map-take s xs i d h)

  -- the item at i is behind those before it
  pub wrote_next : {A : Type 0} (s : A → List ℕ) (xs : List A) (i : ℕ) (a : A) (old now new : Vec ℕ Z) → Wrote old now (flat_map s (take i xs))
      → Wrote now new (s a) → i < length xs → a ≡ get_or xs i a
      → Wrote old new (flat_map s (take (i + 1) xs))
  wrote_next s xs i a old now new so_far item h e =
      subst (Wrote old new) (sym (flat_map_more s xs i a h e)) (wrote_both old now new (flat_map s (take i xs)) (s a) so_far item)
