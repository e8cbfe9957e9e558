use Rattle.std.proofs.Common.{◌≡◌, ◌∙◌, ◌-◌, ℕ, List, length, take, drop, ap, arith, length-drop}
use Rattle.std.proofs.lemmas.List.{take_all}
use Rattle.byteorder.specs.Endian.{little_number}
use Rattle.table_migration.proofs.OldPages.{head_of_page, length-old, short_old}
use Rattle.table_migration.proofs.old_pages.body_length.Goals as goal

-- the bytes behind the first
all_behind : (head : List ℕ) → take (length head - 1) (drop 1 head) ≡ drop 1 head
all_behind head = take_all (length head - 1) (drop 1 head) (omega (arith, length-drop 1 head))

pub returns-then-length-gt-LONGEST-clause-none : goal.returns-then-length-gt-LONGEST-clause-none
returns-then-length-gt-LONGEST-clause-none c = λ more page rest is e.
    let says = head_of_page c.args.head.now more rest page c.requires is e in
    let short = short_old page is in
    let long = c.if-length-gt-LONGEST.true in
    let result = c.read_u32-length.ensures ∙ ap (little_number 4) (all_behind c.args.head.now) ∙ says in
    absurd (omega (arith, result, short, long))

pub returns-clause-found : goal.returns-clause-found
returns-clause-found c = λ page more rest is e.
    let says = head_of_page c.args.head.now more rest page c.requires is e in
    let result = c.read_u32-length.ensures ∙ ap (little_number 4) (all_behind c.args.head.now) ∙ says in
    omega (arith, length-old page, result)
