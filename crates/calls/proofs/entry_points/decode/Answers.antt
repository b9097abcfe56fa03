use Rattle.std.proofs.Common.{sym, ◌∙◌}
use Rattle.words.proofs.Crm.{no-crm}
use Rattle.calls.proofs.entry_points.decode.Goals as goal

pub returns-then-not-has_crm : goal.returns-then-not-has_crm
returns-then-not-has_crm c = sym (no-crm c.args.word (sym c.has_crm.ensures ∙ c.if-not-has_crm.true))
