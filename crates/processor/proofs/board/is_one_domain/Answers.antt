use Rattle.std.proofs.Common.{ℕ, ◌≡◌, ◌*◌, ◌∙◌, ap, eqb, get_or, length, Fits, w8, rules}
use Rattle.processor.proofs.Number.{Bytes, number-first}
use Rattle.processor.proofs.board.is_one_domain.Goals as goal

pub returns : goal.returns
returns c =
    let d = c.args.domains in
    let n : length d ≡ 8 = search rules in
    let bytes : Bytes d = λ (k : ℕ). let f : Fits w8 (get_or d k 0) = search rules in f.fits in
    ap (λ (x : ℕ). eqb x (get_or d 0 0 * 0x0101010101010101)) c.number_of.ensures ∙ number-first d n bytes
