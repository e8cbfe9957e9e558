use Rattle.std.proofs.Common.{◌≡◌, true, false, subst, arith}
use Rattle.page_codec.specs.Bounds.{IsPreferable}
use Rattle.page_codec.proofs.Naming.{refused_names, same_name, named_text}
use Rattle.page_codec.proofs.testing.named.Goals as goal

pub returns-in_default-clause-none : goal.returns-in_default-clause-none
returns-in_default-clause-none c =
    refused_names c.args.w c.args.d c.args.i c.args.before c.args.piece.now c.in_default.field-0 c.requires c.in_default.ensures.err

pub returns-then-not-is_preferable-clause-none : goal.returns-then-not-is_preferable-clause-none
returns-then-not-is_preferable-clause-none c u named =
    let text = c.in-Ok.ensures.ok in
    let same = same_name c.args.w c.args.d c.args.i c.args.before c.args.piece.now text.0 c.in-Ok.word u c.requires text.1 text.4 named in
    let yes : c.is_preferable.result ≡ true = c.is_preferable.ensures.1 (subst (IsPreferable c.args.w c.args.d c.args.before) same named.may_stand) in
    let no : c.is_preferable.result ≡ false = c.if-not-is_preferable.true in
    absurd (cc (yes, no))

pub returns-clause-some : goal.returns-clause-some
returns-clause-some c =
    let text = c.in-Ok.ensures.ok in
    record {
      first_16 = omega arith;
      text = named_text c.args.piece.now text.0 c.in-Ok.word text.1 text.2 text.4;
      may_stand = c.is_preferable.ensures.0 c.if-not-is_preferable.false;
    }
