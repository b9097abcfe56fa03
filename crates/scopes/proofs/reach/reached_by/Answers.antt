use Rattle.std.proofs.Common.{ℕ, ◌%◌, ◌^◌, sym, ap, ◌∙◌}
use Rattle.laws.proofs.Bits.{mask-under}
use Rattle.machine.specs.Access.{reaches_by, reaches, reached_of}
use Rattle.scopes.proofs.reach.reached_by.Goals as goal

pub returns : goal.returns
unfolding reached_of reaches
returns c =
    let count = c.args.state.board.count in
    c.below.ensures
    ∙ ap (λ (n : ℕ). n % 2 ^ count) c.reached_of_eight-eight.ensures.0
    ∙ sym (mask-under (reaches_by c.args.op.share c.args.state.board) count 8)
