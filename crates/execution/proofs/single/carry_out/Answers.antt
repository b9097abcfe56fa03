use Rattle.execution.proofs.single.carry_out.Goals as goal

pub drop_all-requires : goal.drop_all-requires
drop_all-requires c =
    let p = c.requires in
    let s = p.1 c.in_ok-work.work c.in_ok-work.was in
    (p.0, s.0, s.1, s.2)
