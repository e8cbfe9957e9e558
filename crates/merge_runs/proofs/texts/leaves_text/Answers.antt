use Rattle.std.proofs.Common.{string_bytes}
use Rattle.poly_print.specs.Polynomials.{residues_text}
use Rattle.cert_checker.specs.Certified.{residues_at}
use Rattle.merge_runs.proofs.LinePieces.{leaves_pieces}
use Rattle.merge_runs.proofs.texts.leaves_text.Goals as goal

pub returns : goal.returns
returns c = λ columns of.
    leaves_pieces c.args.file c.args.n c.from.result (residues_text columns.list (residues_at c.args.rest.now)) (string_bytes c.new-text.result)
    (string_bytes c.push_count.new.line) (string_bytes c.push_count-2.new.line) (string_bytes c.push_str.new.self) (string_bytes c.push_rest.new.line)
    (string_bytes c.push_str-2.new.self) c.from.ensures c.new-text.ensures.bytes c.in_ok-push_count.ensures c.in_ok-push_count-2.ensures
    c.in_ok-push_str.ensures.bytes (c.in_ok-push_rest.ensures columns of) c.in_ok-push_str-2.ensures.bytes
