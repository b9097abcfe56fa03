use Rattle.std.proofs.Common.{◌≡◌, ℕ, ◌+◌, ◌*◌, ◌%◌, ◌^◌, ◌<◌, ◌≤◌, eqb, subst, sym, ◌∙◌, arith}
use Rattle.std.proofs.Math.Nat.{one-mul}
use Rattle.std.proofs.Math.Pow.{shl_exact, pow-lt}
use borrow.Author.Tests.{ne_eqb}
use Rattle.laws.proofs.Bits.{mask_one, mask-nowhere}
use Rattle.scopes.proofs.reach.only.Goals as goal

pub returns-then-own-lt8 : goal.returns-then-own-lt8
returns-then-own-lt8 c =
    let own = c.args.own in
    let h : 1 * 2 ^ own % 2 ^ 64 ≡ 2 ^ own = shl_exact 1 own 64 (omega arith) (omega (arith, c.if-own-lt8.true)) ∙ one-mul (2 ^ own) in
    (h ∙ sym (mask_one own 8 c.if-own-lt8.true), subst (λ (n : ℕ). n < 256) (sym h) (pow-lt {i = own} {j = 8} c.if-own-lt8.true))

pub returns : goal.returns
returns c =
    let own = c.args.own in
    let le : 8 ≤ own = c.if-own-lt8.false in
    (sym (mask-nowhere (λ (p : ℕ). eqb p own) 0 8 (λ (k : ℕ) (l : 0 ≤ k) (u : k < 0 + 8). ne_eqb k own (λ (e : k ≡ own). omega arith))), omega arith)
