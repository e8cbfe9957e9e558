use Rattle.std.proofs.Common.{◌≡◌, length, take}
use Rattle.std.specs.Prelude.{codes, string_bytes}
use Rattle.std.proofs.Math.Seq.{take-length}
use Rattle.zeta_model.proofs.WordLemmas.{admissible-ends}
use Rattle.word_letters.proofs.IndexTexts.{kept-more, kept-through}
use Rattle.relation_list.proofs.NameBounds.{prod-parts}
use Rattle.relation_list.proofs.name_text.push_text.Goals as goal

pub push_direct-requires-in-Prod : goal.push_direct-requires-in-Prod
push_direct-requires-in-Prod c = (prod-parts c.args.name.now c.in-Prod.r c.in-Prod.u c.requires c.in-Prod.is).0

pub push_text-requires : goal.push_text-requires
push_text-requires c = admissible-ends c.in-Prod.u (prod-parts c.args.name.now c.in-Prod.r c.in-Prod.u c.requires c.in-Prod.is).2

pub returns-in_err-push_direct-in-Prod-clause-kept : goal.returns-in_err-push_direct-in-Prod-clause-kept
returns-in_err-push_direct-in-Prod-clause-kept c =
    let old = string_bytes c.args.text.now in
    let opened = string_bytes c.push_str.new.self in
    kept-through old opened (string_bytes c.push_direct-in-Prod.new.text)
    (kept-more old old opened (codes "Prod [") c.in_ok-push_str-in-Prod.ensures.bytes (take-length old))
    c.push_direct-in-Prod.ensures.kept

pub returns-in_ok-push_str-in-Prod-2-clause-kept : goal.returns-in_ok-push_str-in-Prod-2-clause-kept
returns-in_ok-push_str-in-Prod-2-clause-kept c =
    let old = string_bytes c.args.text.now in
    let opened = string_bytes c.push_str.new.self in
    let named = string_bytes c.push_direct-in-Prod.new.text in
    let closed = string_bytes c.push_str-in-Prod.new.self in
    let first : take (length old) opened ≡ old = kept-more old old opened (codes "Prod [") c.in_ok-push_str-in-Prod.ensures.bytes (take-length old) in
    let second : take (length old) named ≡ old = kept-through old opened named first c.push_direct-in-Prod.ensures.kept in
    let third : take (length old) closed ≡ old = kept-more old named closed (codes "] ") c.in_ok-push_str-in-Prod-2.ensures.bytes second in
    kept-through old closed (string_bytes c.push_text.new.text) third c.push_text.ensures.kept
