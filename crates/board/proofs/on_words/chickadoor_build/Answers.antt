use Rattle.std.proofs.Common.{None, refl, sym, ◌∙◌}
use Rattle.received.proofs.Unfit.{operation-unfit, refused}
use Rattle.board.proofs.on_words.chickadoor_build.Goals as goal

pub returns-in_default : goal.returns-in_default
returns-in_default c =
    let unfit = operation-unfit c.args.operation (refused _ _ _ (sym c.try_from.ensures ∙ c.in_default.is)) in
    record { answer = None; kept = sym unfit; numbered = c.from.ensures ∙ c.number.ensures; told = refl }
