-- What a crash leaves while a file is renewed, and while a page is sealed.
use Rattle.std.proofs.Common.{◌≡◌, ◌≢◌, inl, inr, ℕ, zero, suc, ◌+◌, ◌-◌, ◌<◌, ◌≤◌, false, List, [], ◌∷◌, ◌++◌, length, get_or, take, drop, Option, Some, None, Result, Err, refl, sym, ap, subst, ◌∙◌, append_assoc, arith, length-append, length-drop, length-take, take-append-drop}
use Rattle.std.specs.Prelude.{OnOk, IsSomeAnd}
use Rattle.std.specs.List.{AllByRecursion}
use Rattle.std.proofs.Math.Seq.{take-append-add}
use Rattle.std.proofs.lemmas.Grind.{same_number_lists}
use Rattle.std.proofs.lemmas.Result.{on_ok_weaker}
use Rattle.std.proofs.lemmas.Bool.{cases_eq}
use Rattle.std.proofs.lemmas.Bool.Decides.{nat_tests}
use Rattle.std.proofs.lemmas.List.{take_at, drop_at, take_all, drop_all, append-nil, get_or-take, get_or-drop, drop_more, length-take-le}
use Rattle.outside_io.specs.Moments.{Moment, IsImage, is_open, overlaid, writing, settled}
use Rattle.outside_io.specs.Traces.{Trace, step}
use Rattle.page_codec.specs.declared.page.Page.{Page}
use Rattle.page_codec.specs.Bounds.{IsPage}
use Rattle.page_codec.specs.Spelling.{spelling_of}
use Rattle.page_file.specs.Files.{Stops, IsForeign, opened, file_of, IsSealed, ReadsAs, ReadsBeforeOrAfter}
use Rattle.page_file.specs.Stays.{Through, Passes, IsSettled}
use Rattle.page_file.specs.Puts.{IsPut, put_steps, IsCutBehind, cut_steps}
use Rattle.page_file.specs.Inner.{Ends, Clears, CanSeal, Seals, SealsBehind}
use Rattle.page_file.proofs.Passing.{weaker, then_more, write, settle, shorten}
use Rattle.page_file.proofs.Reading.{file_reads}
use Rattle.page_file.proofs.Opened.{opened-push, all_pushed}

not_from : (at n k : ℕ) → k < at → is_open ((at, n) ∷ []) k ≡ false
not_from at n k lt = grind (arith, nat_tests)

not_past : (at n k : ℕ) → at + n ≤ k → is_open ((at, n) ∷ []) k ≡ false
not_past at n k le = grind (arith, nat_tests)

-- ---- images of a write over what is settled

front_kept : (contents x image : List ℕ) (at n : ℕ) → at ≤ length contents → IsImage (writing (settled contents) at n x) image
    → take at image ≡ take at contents
front_kept contents x image at n within i =
    let long : at ≤ length image = omega (arith, i.low) in
    let len : length (take at image) ≡ at = length-take-le at image long in
    same_number_lists (take at image) (take at contents) (len ∙ sym (length-take-le at contents within))
    (λ k lt.
    let below : k < at = omega (arith, lt, len) in
    get_or-take at image k 0 below ∙ i.kept k (omega (arith, long)) (omega (arith, within)) (not_from at n k below) ∙ sym (get_or-take at contents k 0 below))

back_kept : (contents x image : List ℕ) (at n : ℕ) → at + n ≤ length contents → IsImage (writing (settled contents) at n x) image
    → drop (at + n) image ≡ drop (at + n) contents
back_kept contents x image at n within i =
    let len : length image ≡ length contents = omega (arith, i.low, i.high) in
    same_number_lists (drop (at + n) image) (drop (at + n) contents) (omega (arith, length-drop (at + n) image, length-drop (at + n) contents))
    (λ k lt.
    let inside : at + n + k < length contents = omega (arith, lt, len, length-drop (at + n) image) in
    get_or-drop (at + n) image k 0 ∙ i.kept (at + n + k) (omega (arith, len)) inside (not_past at n (at + n + k) (omega arith))
    ∙ sym (get_or-drop (at + n) contents k 0))

-- ---- reading

not_one : (b : ℕ) (rest : List ℕ) → b ≢ 1 → Stops (b ∷ rest)
not_one b [] shut = tt
not_one b (c ∷ rest) shut = shut

-- pages, and bytes at which reading stops, few where there is no page
pub reads_behind : (pages : List Page) (tail : List ℕ) → AllByRecursion IsPage pages → Stops tail → (pages ≡ [] → length tail ≤ 107)
    → ReadsAs pages (opened pages ++ tail)
reads_behind pages tail each stops few = record { sealed = record { each = each; rest = tail; bytes_are = refl; stops = stops }; known = known pages few }
  where
    known : (ps : List Page) → (ps ≡ [] → length tail ≤ 107) → ¬ (IsForeign (opened ps ++ tail))
    known [] few f = let long = f.long in absurd (omega (arith, few refl, long))
    known (p ∷ ps) few f = f.closed refl

stops_take : (tail : List ℕ) (j : ℕ) → Stops tail → Stops (take j tail)
stops_take tail zero e = tt
stops_take [] (suc j) e = tt
stops_take (b ∷ []) (suc zero) e = tt
stops_take (b ∷ []) (suc (suc j)) e = tt
stops_take (b ∷ c ∷ rest) (suc zero) e = tt
stops_take (b ∷ c ∷ rest) (suc (suc j)) e = e

-- a front of the contents that has all the sealed pages reads as they do
front_reads : (pages : List Page) (contents image : List ℕ) → ReadsAs pages contents → length (opened pages) ≤ length image
    → image ≡ take (length image) contents → ReadsAs pages image
front_reads pages contents image reads long front = record { sealed = sealed; known = λ f. reads.known (foreign f) }
  where
    is : IsSealed pages contents
    is = reads.sealed

    g : ℕ
    g = length (opened pages)

    sealed : IsSealed pages image
    sealed =
        let j : ℕ = length image - length (opened pages) in
        let sum : length image ≡ length (opened pages) + j = omega (arith, long) in
        let rest : List ℕ = is.rest in
        record {
          each = is.each;
          rest = take j rest;
          bytes_are = front ∙ (λ i. take (sum i) (is.bytes_are i)) ∙ take-append-add (opened pages) rest j;
          stops = stops_take rest j is.stops;
        }

    foreign : IsForeign image → IsForeign contents
    foreign f =
        let many = f.long in
        record {
          long = omega (arith, many, ap length front, length-take (length image) contents);
          closed = λ opens. f.closed (ap (λ (l : List ℕ). get_or l 0 0) front ∙ get_or-take (length image) contents 0 0 (omega (arith, many)) ∙ opens);
        }

-- ---- renewing

module _ (pages : List Page) (each : AllByRecursion IsPage pages) where
  abbrev g : ℕ
  g = length (opened pages)

  written_end : overlaid (opened pages) g (0 ∷ []) ≡ file_of pages
  written_end =
      (λ i. take_all g (opened pages) (omega arith) i ++ (0 ∷ []) ++ drop_all (g + 1) (opened pages) (omega arith) i) ∙ append-nil (opened pages ++ 0 ∷ [])

  -- the closed gate is under way
  torn_end : (x image : List ℕ) → IsImage (writing (settled (opened pages)) g 1 x) image → ReadsAs pages image
  torn_end x image i =
      let front : take g image ≡ opened pages = front_kept (opened pages) x image g 1 (omega arith) i ∙ take_all g (opened pages) (omega arith) in
      let few : length (drop g image) ≤ 1 = omega (arith, i.high, length-drop g image) in
      let whole : image ≡ opened pages ++ drop g image = sym (take-append-drop g image) ∙ ap (λ (l : List ℕ). l ++ drop g image) front in
      subst (ReadsAs pages) (sym whole) (reads_behind pages (drop g image) each (short (drop g image) few) (λ none. omega (arith, few)))
    where
      short : (d : List ℕ) → length d ≤ 1 → Stops d
      short [] l = tt
      short (b ∷ []) l = tt
      short (b ∷ c ∷ d) l = absurd (omega arith)

  end_leaves : (m : Trace) → m.now ≡ settled (opened pages) → (image : List ℕ) → IsPut g (0 ∷ []) m image → ReadsAs pages image
  end_leaves m now image (inl i) = torn_end [] image (subst (λ (n : Moment). IsImage (writing n g 1 []) image) now i)
  end_leaves m now image (inr is) =
      subst (ReadsAs pages) (sym (is ∙ ap (λ (n : Moment). overlaid n.contents g (0 ∷ [])) now ∙ written_end)) (file_reads pages each)

abbrev cut_trace : ℕ → Trace → Trace
cut_trace end t = step settle (step (shorten end) (step settle t))

abbrev put_trace : ℕ → List ℕ → Trace → Trace
put_trace at bytes t = step settle (step (write at bytes) t)

pub some_ends : (o : Option Trace) (P Q : Trace → Type 0) → ((u : Trace) → P u → Q u) → IsSomeAnd o P → IsSomeAnd o Q
some_ends None P Q w h = absurd h
some_ends (Some u) P Q w h = w u h

module _ (t : Trace) (pages : List Page) (reads : ReadsAs pages t.now.contents) (end : ℕ) (end_is : end ≡ length (opened pages)) where
  cut_leaves : (image : List ℕ) → IsCutBehind end t image → ReadsAs pages image
  cut_leaves image c = front_reads pages t.now.contents image reads (omega (arith, c.long, end_is)) c.front

  through_cuts : (u : Trace) → Through (IsCutBehind end t) t u → Through (ReadsAs pages) t u
  through_cuts u through = weaker (IsCutBehind end t) (ReadsAs pages) t u cut_leaves through

  each_page : AllByRecursion IsPage pages
  each_page = let is = reads.sealed in is.each

  cut_now : take end t.now.contents ≡ opened pages
  cut_now = let is = reads.sealed in ap (take end) is.bytes_are ∙ take_at (opened pages) is.rest end (sym end_is)

  cut_settled : settled (take end t.now.contents) ≡ settled (opened pages)
  cut_settled = ap settled cut_now

  through_end : (u : Trace) → Through (IsCutBehind end t) t (cut_trace end t) → Through (IsPut end (0 ∷ []) (cut_trace end t)) (cut_trace end t) u
      → Through (ReadsAs pages) t u
  through_end u first second =
      let m = cut_trace end t in
      then_more (ReadsAs pages) t m u (through_cuts m first)
      (weaker (IsPut end (0 ∷ []) m) (ReadsAs pages) m u
      (λ image put. end_leaves pages each_page m cut_settled image (subst (λ (k : ℕ). IsPut k (0 ∷ []) m image) end_is put)) second)

  cleared_now : settled (overlaid (take end t.now.contents) end (0 ∷ [])) ≡ settled (file_of pages)
  cleared_now = (λ i. settled (overlaid (cut_now i) (end_is i) (0 ∷ []))) ∙ ap settled (written_end pages each_page)

-- the cut failed, or a sync beside it
pub cut_stopped : {E : Type 0} (end : ℕ) (old new : Option Trace) (e : E) → Passes (IsCutBehind end) old new → Clears {E = E} end old new (Err e)
cut_stopped end None new e passes = passes
cut_stopped end (Some t) new e passes = λ pages reads end_is.
    some_ends new (Through (IsCutBehind end t) t) (Ends (ReadsAs pages) (file_of pages) t (Err e))
    (λ u through. record { moments = through_cuts t pages reads end end_is u through; done = tt }) passes

second_cleared : {E : Type 0} (end : ℕ) (t : Trace) (new : Option Trace) (r : Result (Unit {0}) E) (pages : List Page) → ReadsAs pages t.now.contents
    → end ≡ length (opened pages) → Through (IsCutBehind end t) t (cut_trace end t)
    → IsSomeAnd new (Through (IsPut end (0 ∷ []) (cut_trace end t)) (cut_trace end t)) → OnOk r (new ≡ Some (put_trace end (0 ∷ []) (cut_trace end t)))
    → IsSomeAnd new (Ends (ReadsAs pages) (file_of pages) t r)
second_cleared end t None r pages reads end_is first second ok = absurd second
second_cleared end t (Some u) r pages reads end_is first second ok = record {
  moments = through_end t pages reads end end_is u first second;
  done = on_ok_weaker r (λ is. ap (λ (v : Trace). v.now) (some_same is) ∙ cleared_now t pages reads end end_is) ok;
}
  where
    some_same : {u v : Trace} → Some u ≡ Some v → u ≡ v
    some_same e = cc

pub cleared : {E : Type 0} (end : ℕ) (old mid new : Option Trace) (r : Result (Unit {0}) E) → mid ≡ cut_steps end old → Passes (IsCutBehind end) old mid
    → Passes (IsPut end (0 ∷ [])) mid new → OnOk r (new ≡ put_steps end (0 ∷ []) mid) → Clears end old new r
cleared end None mid new r is first second ok = subst (λ (m : Option Trace). Passes (IsPut end (0 ∷ [])) m new) is second
cleared end (Some t) mid new r is first second ok = λ pages reads end_is.
    second_cleared end t new r pages reads end_is (subst (λ (m : Option Trace). IsSomeAnd m (Through (IsCutBehind end t) t)) is first)
    (subst (λ (m : Option Trace). Passes (IsPut end (0 ∷ [])) m new) is second)
    (subst (λ (m : Option Trace). OnOk r (new ≡ put_steps end (0 ∷ []) m)) is ok)

-- ---- sealing

module _ (pages : List Page) (page : Page) (b : ℕ) (shut : b ≢ 1) (each : AllByRecursion IsPage pages) (is : IsPage page)
    (small : pages ≡ [] → length (spelling_of page) ≤ 105) where
  abbrev gate : ℕ
  gate = length (opened pages)

  abbrev p : List ℕ
  p = spelling_of page

  abbrev start : List ℕ
  start = opened pages ++ b ∷ []

  -- the pages, a gate that is not open, the page and a closed gate
  abbrev staged : List ℕ
  staged = opened pages ++ b ∷ (p ++ 0 ∷ [])

  length-start : length start ≡ gate + 1
  length-start = length-append (opened pages) (b ∷ [])

  length-staged : length staged ≡ gate + (length p + 2)
  length-staged = omega (arith, length-append (opened pages) (b ∷ (p ++ 0 ∷ [])), length-append p (0 ∷ []))

  written_behind : overlaid start (gate + 1) (p ++ 0 ∷ []) ≡ staged
  written_behind =
      ap (λ (l : List ℕ). l ++ (p ++ 0 ∷ []) ++ drop (gate + 1 + length (p ++ 0 ∷ [])) start) (take_all (gate + 1) start (omega (arith, length-start)))
      ∙ ap (λ (l : List ℕ). start ++ (p ++ 0 ∷ []) ++ l) (drop_all (gate + 1 + length (p ++ 0 ∷ [])) start (omega (arith, length-start)))
      ∙ append-nil (start ++ (p ++ 0 ∷ [])) ∙ append_assoc (opened pages) (b ∷ []) (p ++ 0 ∷ [])

  -- behind the closed gate a page is under way
  torn_behind : (x image : List ℕ) → IsImage (writing (settled start) (gate + 1) (length (p ++ 0 ∷ [])) x) image → ReadsAs pages image
  torn_behind x image i =
      let g = gate + 1 in
      let front : take g image ≡ start =
      front_kept start x image g (length (p ++ 0 ∷ [])) (omega (arith, length-start)) i ∙ take_all g start (omega (arith, length-start)) in
      let tail = b ∷ drop g image in
      let whole : image ≡ opened pages ++ tail =
      sym (take-append-drop g image) ∙ ap (λ (l : List ℕ). l ++ drop g image) front ∙ append_assoc (opened pages) (b ∷ []) (drop g image) in
      let high : length image ≤ gate + 1 + (length p + 1) = omega (arith, i.high, length-start, length-append p (0 ∷ [])) in
      let few : pages ≡ [] → length tail ≤ 107 = λ none.
      omega (arith, high, small none, ap (λ (ps : List Page). length (opened ps)) none, length-drop g image) in
      subst (ReadsAs pages) (sym whole) (reads_behind pages tail each (not_one b (drop g image) shut) few)

  staged_reads : ReadsAs pages staged
  staged_reads = reads_behind pages (b ∷ (p ++ 0 ∷ [])) each (not_one b (p ++ 0 ∷ []) shut) (λ none. omega (arith, small none, length-append p (0 ∷ [])))

  front : take gate staged ≡ opened pages
  front = take_at (opened pages) (b ∷ (p ++ 0 ∷ [])) gate refl

  back : drop (gate + 1) staged ≡ p ++ 0 ∷ []
  back = ap (drop (gate + 1)) (sym (append_assoc (opened pages) (b ∷ []) (p ++ 0 ∷ []))) ∙ drop_at start (p ++ 0 ∷ []) (gate + 1) length-start

  -- with an open gate it is the file of one page more
  opened_is : opened pages ++ 1 ∷ (p ++ 0 ∷ []) ≡ file_of (pages ++ page ∷ [])
  opened_is = sym (ap (λ (l : List ℕ). l ++ 0 ∷ []) (opened-push pages page) ∙ append_assoc (opened pages) (1 ∷ p) (0 ∷ []))

  more_reads : ReadsAs (pages ++ page ∷ []) (file_of (pages ++ page ∷ []))
  more_reads = file_reads (pages ++ page ∷ []) (all_pushed pages page each is)

  written_gate : overlaid staged gate (1 ∷ []) ≡ file_of (pages ++ page ∷ [])
  written_gate =
      ap (λ (l : List ℕ). l ++ (1 ∷ []) ++ drop (gate + 1) staged) front ∙ ap (λ (l : List ℕ). opened pages ++ (1 ∷ []) ++ l) back
      ∙ append_assoc (opened pages) (1 ∷ []) (p ++ 0 ∷ []) ∙ opened_is

  any_gate : (a : ℕ) → ReadsBeforeOrAfter pages page (opened pages ++ a ∷ (p ++ 0 ∷ []))
  any_gate a = elim (cases_eq a 1) [
    | inl opens ↦ inr (subst (ReadsAs (pages ++ page ∷ [])) (sym opened_is ∙ ap (λ (c : ℕ). opened pages ++ c ∷ (p ++ 0 ∷ [])) (sym opens)) more_reads)
    | inr closed ↦ inl (reads_behind pages (a ∷ (p ++ 0 ∷ [])) each (not_one a (p ++ 0 ∷ []) closed) (λ none. omega (arith, small none, length-append p (0 ∷ []))))
  ]

  -- the gate is being opened
  torn_gate : (x image : List ℕ) → IsImage (writing (settled staged) gate 1 x) image → ReadsBeforeOrAfter pages page image
  torn_gate x image i =
      let a = get_or image gate 0 in
      let kept : take gate image ≡ opened pages = front_kept staged x image gate 1 (omega (arith, length-staged)) i ∙ front in
      let rest : drop gate image ≡ a ∷ (p ++ 0 ∷ []) =
      drop_more image gate 0 (omega (arith, i.low, length-staged))
      ∙ ap (λ (l : List ℕ). a ∷ l) (back_kept staged x image gate 1 (omega (arith, length-staged)) i ∙ back) in
      let whole : image ≡ opened pages ++ a ∷ (p ++ 0 ∷ []) =
      sym (take-append-drop gate image) ∙ ap (λ (l : List ℕ). l ++ drop gate image) kept ∙ ap (λ (l : List ℕ). opened pages ++ l) rest in
      subst (ReadsBeforeOrAfter pages page) (sym whole) (any_gate a)

module _ (at : ℕ) (block : List ℕ) (t : Trace) (pages : List Page) (page : Page) (can : CanSeal at block t.now.contents pages page) where
  abbrev b : ℕ
  b = let r = can.ready in r.gate

  shut : b ≢ 1
  shut = let r = can.ready in r.closed

  contents_are : t.now.contents ≡ opened pages ++ b ∷ []
  contents_are = let r = can.ready in r.contents_are

  now_staged : overlaid t.now.contents (at + 1) block ≡ staged pages page b shut can.each can.is_page can.short
  now_staged =
      (λ i. overlaid (contents_are i) (can.gate_is i + 1) (can.block_is i)) ∙ written_behind pages page b shut can.each can.is_page can.short

  first_leaves : IsSettled t.now → (image : List ℕ) → IsPut (at + 1) block t image → ReadsBeforeOrAfter pages page image
  first_leaves clean image (inl i) =
      let here : IsImage (writing (settled t.now.contents) (at + 1) (length block) []) image =
      subst (λ (m : Moment). IsImage (writing m (at + 1) (length block) []) image) clean i in
      inl (torn_behind pages page b shut can.each can.is_page can.short [] image
      (subst (λ (x : List ℕ × (ℕ × List ℕ)). IsImage (writing (settled x.0) (x.1.0 + 1) (length x.1.1) []) image)
      (λ i. (contents_are i, (can.gate_is i, can.block_is i))) here))
  first_leaves clean image (inr is) =
      inl (subst (ReadsAs pages) (sym (is ∙ now_staged)) (staged_reads pages page b shut can.each can.is_page can.short))

  second_leaves : (m : Trace) → m.now ≡ settled (overlaid t.now.contents (at + 1) block) → (image : List ℕ) → IsPut at (1 ∷ []) m image
      → ReadsBeforeOrAfter pages page image
  second_leaves m now image (inl i) =
      torn_gate pages page b shut can.each can.is_page can.short [] image
      (subst (λ (x : Moment × ℕ). IsImage (writing x.0 x.1 1 []) image) (λ j. ((now ∙ ap settled now_staged) j, can.gate_is j)) i)
  second_leaves m now image (inr is) =
      inr (subst (ReadsAs (pages ++ page ∷ []))
      (sym (is ∙ (λ j. overlaid ((ap (λ (n : Moment). n.contents) now ∙ now_staged) j) (can.gate_is j) (1 ∷ []))
      ∙ written_gate pages page b shut can.each can.is_page can.short))
      (more_reads pages page b shut can.each can.is_page can.short))

  sealed_now : overlaid (overlaid t.now.contents (at + 1) block) at (1 ∷ []) ≡ file_of (pages ++ page ∷ [])
  sealed_now = (λ j. overlaid (now_staged j) (can.gate_is j) (1 ∷ [])) ∙ written_gate pages page b shut can.each can.is_page can.short

  abbrev P : List ℕ → Type 0
  P image = IsSettled t.now → ReadsBeforeOrAfter pages page image

  through_first : (u : Trace) → Through (IsPut (at + 1) block t) t u → Through P t u
  through_first u through = weaker (IsPut (at + 1) block t) P t u (λ image put clean. first_leaves clean image put) through

  through_second : (u : Trace) → Through (IsPut (at + 1) block t) t (put_trace (at + 1) block t)
      → Through (IsPut at (1 ∷ []) (put_trace (at + 1) block t)) (put_trace (at + 1) block t) u → Through P t u
  through_second u first second =
      let m = put_trace (at + 1) block t in
      then_more P t m u (through_first m first) (weaker (IsPut at (1 ∷ []) m) P m u (λ image put clean. second_leaves m refl image put) second)

-- the first write failed, or its sync
pub seal_stopped : {E : Type 0} (at : ℕ) (block : List ℕ) (old new : Option Trace) (e : E) → Passes (IsPut (at + 1) block) old new
    → SealsBehind {E = E} at block old new (Err e)
seal_stopped at block None new e passes = passes
seal_stopped at block (Some t) new e passes = λ pages page can.
    some_ends new (Through (IsPut (at + 1) block t) t) (Seals pages page t (Err e))
    (λ u through. record { moments = through_first at block t pages page can u through; done = tt }) passes

same_trace : {u v : Trace} → Some u ≡ Some v → u ≡ v
same_trace e = cc

second_sealed : {E : Type 0} (at : ℕ) (block : List ℕ) (t : Trace) (new : Option Trace) (r : Result (Unit {0}) E) (pages : List Page) (page : Page)
    → CanSeal at block t.now.contents pages page → Through (IsPut (at + 1) block t) t (put_trace (at + 1) block t)
    → IsSomeAnd new (Through (IsPut at (1 ∷ []) (put_trace (at + 1) block t)) (put_trace (at + 1) block t))
    → OnOk r (new ≡ Some (put_trace at (1 ∷ []) (put_trace (at + 1) block t))) → IsSomeAnd new (Seals pages page t r)
second_sealed at block t None r pages page can first second ok = absurd second
second_sealed at block t (Some u) r pages page can first second ok = record {
  moments = through_second at block t pages page can u first second;
  done = on_ok_weaker r (λ is. ap (λ (v : Trace). v.now) (same_trace is) ∙ ap settled (sealed_now at block t pages page can)) ok;
}

pub sealed_behind : {E : Type 0} (at : ℕ) (block : List ℕ) (old mid new : Option Trace) (r : Result (Unit {0}) E) → mid ≡ put_steps (at + 1) block old
    → Passes (IsPut (at + 1) block) old mid → Passes (IsPut at (1 ∷ [])) mid new → OnOk r (new ≡ put_steps at (1 ∷ []) mid)
    → SealsBehind at block old new r
sealed_behind at block None mid new r is first second ok = subst (λ (m : Option Trace). Passes (IsPut at (1 ∷ [])) m new) is second
sealed_behind at block (Some t) mid new r is first second ok = λ pages page can.
    second_sealed at block t new r pages page can (subst (λ (m : Option Trace). IsSomeAnd m (Through (IsPut (at + 1) block t) t)) is first)
    (subst (λ (m : Option Trace). Passes (IsPut at (1 ∷ [])) m new) is second)
    (subst (λ (m : Option Trace). OnOk r (new ≡ put_steps at (1 ∷ []) m)) is ok)
