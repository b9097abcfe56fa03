use Rattle.std.proofs.Common.{ℕ, ◌+◌, ◌<◌, ◌≤◌, eqb, get_or, sym, arith}
use Rattle.laws.proofs.Mask.{mask-all}
use Rattle.processor.proofs.One.{one_same}
use Rattle.scopes.proofs.reach.mates.Goals as goal

pub returns-then-is_one_domain : goal.returns-then-is_one_domain
returns-then-is_one_domain c =
    let a = c.args in
    let one = one_same a.domains (sym c.if-is_one_domain.ensures) in
    (sym (mask-all (λ (p : ℕ). eqb (get_or a.domains p 0) (get_or a.domains a.own 0)) 0 8 (λ (p : ℕ) (l : 0 ≤ p) (u : p < 0 + 8). one p a.own (omega arith) c.if-own-lt8.true)), omega arith)
