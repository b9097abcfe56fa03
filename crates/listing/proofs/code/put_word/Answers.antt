use Rattle.std.proofs.Common.{rules, sym, ◌∙◌, lit≤}
use Rattle.machine.proofs.Trip.{read-rt}
use Rattle.text.proofs.Put.{put_as}
use Rattle.listing.proofs.Shown.{line-listed, line-unlisted, line-unknown, line-loose}
use Rattle.listing.proofs.code.put_word.Goals as goal

pub returns-then-not-is_fixed-clause-none : goal.returns-then-not-is_fixed-clause-none
returns-then-not-is_fixed-clause-none c = sym (line-loose c.args.at c.args.word (sym c.is_fixed.ensures ∙ c.if-not-is_fixed.true))

pub put_line-requires : goal.put_line-requires
put_line-requires c = (search rules, read-rt c.args.word _ (sym c.read.ensures ∙ c.in-Some.is))

pub returns-in-Some-clause-some : goal.returns-in-Some-clause-some
returns-in-Some-clause-some c =
    put_as c.put_line.ensures (lit≤ tt)
    (line-listed c.args.at c.args.word _ (sym c.read.ensures ∙ c.in-Some.is) (sym c.is_listed.ensures ∙ c.if-is_listed.true) c.ranges.at.fits)

pub returns-in_default-clause-none : goal.returns-in_default-clause-none
returns-in_default-clause-none c =
    sym (line-unlisted c.args.at c.args.word _ (sym c.read.ensures ∙ c.in-Some.is) (sym c.is_listed.ensures ∙ c.if-is_listed.false))

pub returns-in_default-2-clause-none : goal.returns-in_default-2-clause-none
returns-in_default-2-clause-none c = sym (line-unknown c.args.at c.args.word (sym c.read.ensures ∙ c.in_default.is))
