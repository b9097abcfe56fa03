use Rattle.std.proofs.Common.{sym, arith}
use Rattle.tags.proofs.Parts.{no_span}
use Rattle.tables.proofs.Elsewhere.{hold-empty, hold-apart}
use Rattle.tables.proofs.lookup.is_match.Goals as goal

pub returns-then-k-gt54 : goal.returns-then-k-gt54
returns-then-k-gt54 c =
    let a = c.args in
    sym (hold-empty a.own a.asid a.address a.base a.tag (no_span a.base a.tag (omega (arith, c.span_at-k.ensures, c.if-k-gt54.true))))

pub returns-then-base-k : goal.returns-then-base-k
returns-then-base-k c =
    let a = c.args in
    sym (hold-apart a.own a.asid a.address a.base a.tag c.span_at-k.result c.span_at-k.ensures c.if-base-k.true)
